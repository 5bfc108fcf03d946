-- The headers that an #include names, and their files, at each configuration.
use Rattle.std.proofs.Common.{◌≡◌, ℕ, zero, suc, ◌<◌, ◌≤◌, ◌&&◌, ◌||◌, is_none, Bool, true, false, List, [], ◌∷◌, All, map, length, get_or, Option, Some, None, Result, Ok, Err, refl, sym, ap, subst, ◌∙◌, arith, if◌then◌else◌, ◌==◌, nat_le, not}
use Rattle.c11_directives.specs.declared.directive.Directive.TheVariants as directive
use Rattle.c11_headers.specs.Headers as headers
use Rattle.sc_base.specs.declared.token.Token as base
use Rattle.sc_model.specs.Token.{Token}
use Rattle.sc_prep.proofs.Contents.{tokens-later}
use Rattle.sc_prep.proofs.Facts.{All-from_recursion, All-head, All-tail, All-weaker, Extends-refl, Extends-trans, IsConfig-Keeps, IsConfig-kept, IsTable-Extends, IsTable-Keeps, Keeps-trans, PlainToken, and-false, and_parts, map-one, ne_eqb, not-true, not_from_false, or_from, true≢false}
use Rattle.sc_prep.proofs.FoundFiles.{finds-nothing}
use Rattle.sc_prep.proofs.Grown.{simulates-later}
use Rattle.sc_prep.proofs.LineSteps.{line-grown}
use Rattle.sc_prep.proofs.ListsAt.{items-keeps}
use Rattle.sc_prep.proofs.Machine.{inert_refusing}
use Rattle.sc_prep.proofs.PlainRuns.{path-plain}
use Rattle.sc_prep.proofs.PlainWalks.{says-plain}
use Rattle.sc_prep.proofs.Terms.{Agrees, AllByRecursion as Every, AreFound, ArePlainPaths, BadInclude, BranchesFull, Carries, Cause, Cond, Contents, Context, Entry, Extends, Fault, FileId, Finds, FindsAll, Found, Header, IncludeDepth, IsCond, IsConfig, IsHeld, IsHeldWalk, IsIn, IsNever, IsPlaced, IsPlainState, IsPlainToken, IsSearched, IsSound, Keeps, Leads, Line, Machine, Named, NamesAll, NamesAt, NotFound, OutOfMemory, Part, PlainEach, ReadFault, ReadsNothing, RefusedAt, Says, SaysAt, Sets, Simulates, SimulatesOneOf, SimulatesStep, Space, Standard, State, Stop, Stops, Walk, acts, any_token, arriving, fails, fault_at, files_at, first_place, has_no_newline, hash_of, headers_in, idle, included, is_directory, is_plain, is_unnamed, items_at, line_of, list_all, missing, named_in, names, no_header, not_expanded, option_map, place_in, refusal, refusing, refusing_if, search, seen, seen_header, seen_line, text_at, too_deep, unnamed_in, unwrap_or, with_named}
use Rattle.sc_prep.proofs.WalkMoves.{simulates-kept}
use Rattle.sc_prep.specs.Alternatives.{EachToken, tokens_in}
use Rattle.sc_prep.specs.Finding as finding
use Rattle.sc_prep.specs.Includes as includes
use Rattle.sc_prep.specs.Machine as machine
use Rattle.sc_prep.specs.declared.alternatives.Alternative.{Alternative}

-- ---- refusals

-- who is refused does nothing more
pub refused-inert : (m : Machine) (fault : Fault) → acts m ≡ true → acts (arriving m (Err fault)) ≡ false
refused-inert m fault here = ap (λ b. m.active && is_none (if b then Some fault else m.fault)) here ∙ and-false m.active

module _ (s : State) (l : Line) (cause : Cause) (hash : Token) (has : hash_of l ≡ Some hash) where
  refused-at : RefusedAt s l cause (refusal s l cause)
  refused-at =
      let at : option_map (place_in s) (hash_of l) ≡ Some (place_in s hash) = ap (option_map (place_in s)) has in
      record { cause_is = refl; place_is = at ∙ sym (ap (λ o. Some (unwrap_or o (first_place []))) at) }

  refusal-is : fault_at cause (place_in s hash) ≡ refusal s l cause
  refusal-is = sym (ap (λ o. fault_at cause (unwrap_or (option_map (place_in s) o) (first_place []))) has)

-- ---- the header that a line names

no-headers : (hs : List Header) → map seen_header hs ≡ [] → hs ≡ []
no-headers [] e = refl
no-headers (h ∷ hs) e = absurd (cc)

one-header : (hs : List Header) (h : headers.Header) → map seen_header hs ≡ h ∷ [] → (found : Header) × (hs ≡ found ∷ []) × (seen_header found ≡ h)
one-header [] h e = absurd (cc)
one-header (x ∷ []) h e = (x, refl, cc)
one-header (x ∷ y ∷ ys) h e = absurd (cc)

bad-cause : (o : Option headers.Header) (cause : Cause) → headers.with_file_name o ≡ Err cause → cause ≡ BadInclude
bad-cause None cause e = cc
bad-cause (Some h) cause e = by (headers.is_file_name h.name) e
  where
    by : (b : Bool) → (if b then Ok h else Err BadInclude) ≡ Err cause → cause ≡ BadInclude
    by true e = absurd (cc)
    by false e = cc

module _ (x : Context) (l : Line) (hash : Token) (has : hash_of l ≡ Some hash) where
  -- the machine names the header of its tokens, or is refused
  said-names : (m : Machine) (ts : List Token) (hs : List Header) (u : Bool) → acts m ≡ true → Says m.state.macros l (Ok ts) → NamesAll (ts ∷ []) hs u → NamesAt x l m hs (refusing_if u m l BadInclude)
  said-names m ts hs u here says all = by (headers.header_of ts) refl all.named_are all.unnamed_is
    where
      by : (r : Result headers.Header Cause) → headers.header_of ts ≡ r → map seen_header hs ≡ named_in (ts ∷ []) → u ≡ unnamed_in (ts ∷ []) → NamesAt x l m hs (refusing_if u m l BadInclude)
      by (Ok h) is named_are unnamed_is =
          let one = one-header hs h (named_are ∙ ap (λ r. with_named r []) is) in
          let quiet : u ≡ false = unnamed_is ∙ ap (λ r. is_unnamed r || false) is in
          subst (λ u. NamesAt x l m hs (refusing_if u m l BadInclude)) (sym quiet)
          (subst (λ hs. NamesAt x l m hs m) (sym one.1) (names ts one.0 here says (is ∙ sym (ap Ok one.2))))
      by (Err cause) is named_are unnamed_is =
          let none = no-headers hs (named_are ∙ ap (λ r. with_named r []) is) in
          let told : u ≡ true = unnamed_is ∙ ap (λ r. is_unnamed r || false) is in
          let bad = is ∙ ap Err (bad-cause (headers.form_of ts) cause is) in
          subst (λ u. NamesAt x l m hs (refusing_if u m l BadInclude)) (sym told)
          (subst (λ hs. NamesAt x l m hs (refusing m l BadInclude)) (sym none)
          (fails (refusal m.state l BadInclude) here (no_header ts BadInclude (refusal m.state l BadInclude) says bad (refused-at m.state l BadInclude hash has))))

  -- no tokens name no header
  none-names : {m n : Machine} {hs : List Header} {u : Bool} → NamesAt x l m [] n → NamesAll [] hs u → NamesAt x l m hs (refusing_if u n l BadInclude)
  none-names {m} {n} {hs} {u} at all =
      subst (λ u. NamesAt x l m hs (refusing_if u n l BadInclude)) (sym all.unnamed_is) (subst (λ hs. NamesAt x l m hs n) (sym (no-headers hs all.named_are)) at)

  pub names-at : {m n : Machine} {ts : List Token} (hs : List Header) (u : Bool) → SaysAt l m ts n → NamesAll (if acts n then ts ∷ [] else []) hs u → NamesAt x l m hs (refusing_if u n l BadInclude)
  names-at {m} {ts = ts} hs u (machine.inert here none) all = none-names (idle here) (subst (λ b. NamesAll (if b then ts ∷ [] else []) hs u) here all)
  names-at {m} {ts = ts} hs u (machine.said here says) all = said-names m ts hs u here says (subst (λ b. NamesAll (if b then ts ∷ [] else []) hs u) here all)
  names-at {m} {ts = ts} hs u (machine.refused fault here says) all =
      none-names (fails fault here (not_expanded fault refl says)) (subst (λ b. NamesAll (if b then ts ∷ [] else []) hs u) (refused-inert m fault here) all)

  pub names-short : {m n : Machine} {hs : List Header} → NamesAt x l m hs n → length hs ≤ 1
  names-short (idle here) = omega arith
  names-short (fails fault here carries) = omega arith
  names-short (names ts h here says is) = omega arith

  -- ---- the file of the header

  module _ (files : List (List ℕ)) {including : List ℕ} where
    idle-finds : {hs : List Header} {fs : List FileId} {b : Bool} {m n : Machine} → hs ≡ [] → FindsAll x.files files including x.include hs fs b → Finds x l files m [] n
        → Finds x l files m fs (refusing_if b n l NotFound)
    idle-finds {hs} {fs} {b} {m} {n} empty all here =
        let nothing = finds-nothing empty all in
        subst (λ b. Finds x l files m fs (refusing_if b n l NotFound)) (sym nothing.1) (subst (λ fs. Finds x l files m fs n) (sym nothing.0) here)

    module _ (m : Machine) (ts : List Token) (h : Header) (here : acts m ≡ true) (says : Says m.state.macros l (Ok ts)) (is : headers.header_of ts ≡ Ok (seen_header h))
        (inside : including ≡ m.state.file) (shallow : m.state.depth < x.include_depth) where
      names-missing : IsSearched x.files files (headers.candidates (seen_header h) including x.include) None → Finds x l files m [] (refusing m l NotFound)
      names-missing (finding.absent e) =
          let lacks = subst (λ f. search x.files (headers.candidates (seen_header h) f x.include) ≡ None) inside e in
          includes.refused (refusal m.state l NotFound) here
          (subst (λ f. Carries x l m.state directive.Include (Err f)) (refusal-is m.state l NotFound hash has) (included ts (seen_header h) hash says is shallow has (missing lacks)))

      names-file : (file : FileId) → IsSearched x.files files (headers.candidates (seen_header h) including x.include) (Some file) → Finds x l files m (file ∷ []) m
      names-file file (finding.present k f e named) =
          includes.found k ts (seen_header h) hash f here says is shallow has (subst (λ g. search x.files (headers.candidates (seen_header h) g x.include) ≡ Some f) inside e) named

      names-finds : {hs : List Header} {fs : List FileId} {b : Bool} → hs ≡ h ∷ [] → FindsAll x.files files including x.include hs fs b → Finds x l files m fs (refusing_if b m l NotFound)
      names-finds one finding.none = absurd (cc)
      names-finds one (finding.missing k e) =
          let same : k ≡ h = cc in
          names-missing (subst (λ (k : Header). IsSearched x.files files (headers.candidates (seen_header k) including x.include) None) same e)
      names-finds one (finding.found k file e) =
          let same : k ≡ h = cc in
          names-file file (subst (λ (k : Header). IsSearched x.files files (headers.candidates (seen_header k) including x.include) (Some file)) same e)

    pub named-finds : {m n : Machine} {hs : List Header} {fs : List FileId} {b : Bool} → NamesAt x l m hs n → (acts m ≡ true → including ≡ m.state.file) → (acts m ≡ true → m.state.depth < x.include_depth)
        → FindsAll x.files files including x.include hs fs b → Finds x l files m fs (refusing_if b n l NotFound)
    named-finds (idle here) inside shallow all = idle-finds refl all (includes.inert here)
    named-finds (fails fault here carries) inside shallow all = idle-finds refl all (includes.refused fault here carries)
    named-finds {m} (names ts h here says is) inside shallow all = names-finds m ts h here says is (inside here) (shallow here) refl all

  -- files are nested too deep
  pub named-deep : (files : List (List ℕ)) {m n : Machine} {hs : List Header} → NamesAt x l m hs n → (acts m ≡ true → m.state.depth < x.include_depth → ⊥) → Finds x l files m [] (refusing n l IncludeDepth)
  named-deep files {m} (idle here) deep = subst (Finds x l files m []) (sym (inert_refusing m l IncludeDepth here)) (includes.inert here)
  named-deep files {m} (fails fault here carries) deep =
      subst (Finds x l files m []) (sym (inert_refusing (arriving m (Err fault)) l IncludeDepth (refused-inert m fault here))) (includes.refused fault here carries)
  named-deep files {m} (names ts h here says is) deep =
      includes.refused (refusal m.state l IncludeDepth) here
      (too_deep ts (seen_header h) (refusal m.state l IncludeDepth) says is (deep here) (refused-at m.state l IncludeDepth hash has))

-- ---- the walk

module _ (standard : Standard) (x : Context) {s0 s1 s2 s3 s4 : Sets} {files before now : List (List ℕ)} {w0 w1 w2 : Walk} (line : List base.Token) (hash : Token) (named : List Named) (unnamed : Cond)
    (list : List (Cond × base.Token)) (alternatives : List Alternative) (k01 : Keeps s0 s1) (k12 : Keeps s1 s2) (k23 : Keeps s2 s3) (k34 : Keeps s3 s4) (grows : Extends before now)
    (held : All (IsHeld before) line) (has : hash_of (seen_line standard before files line) ≡ Some hash) (own : All (λ (n : Named). IsCond s3 n.cond.0) named)
    (says : SimulatesOneOf files before s0 w0 now s1 w1 (λ c m n. SaysAt (seen_line standard before files line) m (map (seen now files) (items_at s1 list c)) n))
    (lists : (c : List ℕ) → IsConfig s1.arities c → tokens_in s2 alternatives c ≡ (if s1.has w1.acting.0 c then items_at s1 list c ∷ [] else []))
    (all : (c : List ℕ) → IsConfig s2.arities c → NamesAll (map (λ ts. map (seen now files) ts) (tokens_in s2 alternatives c)) (headers_in s3 named c) (s3.has unnamed.0 c))
    (refused : SimulatesStep now s3 w1 s4 w2 (λ files c m. refusing_if (s3.has unnamed.0 c) m (seen_line standard now files line) BadInclude)) where
  k13 : Keeps s1 s3
  k13 = Keeps-trans k12 k23

  -- the list that a machine says, where it acts
  said-lists : (c : List ℕ) (n : Machine) → IsConfig s1.arities c → Simulates s1 now files w1 c n
      → map (λ ts. map (seen now files) ts) (tokens_in s2 alternatives c) ≡ (if acts n then map (seen now files) (items_at s1 list c) ∷ [] else [])
  said-lists c n listed at =
      ap (map (λ ts. map (seen now files) ts)) (lists c listed)
      ∙ (map-one (λ ts. map (seen now files) ts) (s1.has w1.acting.0 c) (items_at s1 list c) ∙ ap (λ b. if b then map (seen now files) (items_at s1 list c) ∷ [] else []) at.acting)

  named-now : (c : List ℕ) (m n : Machine) → IsConfig s1.arities c → SaysAt (seen_line standard before files line) m (map (seen now files) (items_at s1 list c)) n → Simulates s1 now files w1 c n
      → NamesAt x (seen_line standard before files line) m (headers_in s4 named c) (refusing_if (s3.has unnamed.0 c) n (seen_line standard now files line) BadInclude)
  named-now c m n listed done at =
      let later : headers_in s4 named c ≡ headers_in s3 named c = items-keeps (λ (n : Named). (n.cond, n.header)) named c k34 own (IsConfig-Keeps k13 listed) in
      let each : NamesAll (if acts n then map (seen now files) (items_at s1 list c) ∷ [] else []) (headers_in s3 named c) (s3.has unnamed.0 c) =
      subst (λ ls. NamesAll ls (headers_in s3 named c) (s3.has unnamed.0 c)) (said-lists c n listed at) (all c (IsConfig-Keeps k12 listed)) in
      subst (λ hs. NamesAt x (seen_line standard before files line) m hs (refusing_if (s3.has unnamed.0 c) n (seen_line standard now files line) BadInclude)) (sym later)
      (subst (λ l. NamesAt x (seen_line standard before files line) m (headers_in s3 named c) (refusing_if (s3.has unnamed.0 c) n l BadInclude)) (sym (line-grown files grows standard line held))
      (names-at x (seen_line standard before files line) hash has (headers_in s3 named c) (s3.has unnamed.0 c) done each))

  pub names-leads : SimulatesOneOf files before s0 w0 now s4 w2 (λ c m n. NamesAt x (seen_line standard before files line) m (headers_in s4 named c) n)
  names-leads = record {
    owns = refused.owns;
    table = refused.table (IsTable-Keeps k13 says.table);
    at = λ c m listed at.
        let a = says.at c m listed at in
        let first = IsConfig-Keeps k01 listed in
        record {
          machine = refusing_if (s3.has unnamed.0 c) a.machine (seen_line standard now files line) BadInclude;
          done = named-now c m a.machine first a.done a.simulates;
          simulates = refused.at files c a.machine (IsConfig-Keeps k13 first) (IsTable-Keeps k13 says.table)
              (simulates-kept k13 w1 says.owns now files c a.machine first says.table a.simulates);
        };
  }

-- ---- the files that configurations enter

module _ (standard : Standard) (x : Context) {s0 s4 : Sets} {files before now : List (List ℕ)} {w0 w2 : Walk} (line : List base.Token) (hash : Token) (named : List Named) (entry : Entry) (k04 : Keeps s0 s4)
    (held_line : All (IsPlaced before (length files)) line) (has : hash_of (seen_line standard before files line) ≡ Some hash)
    (at_names : SimulatesOneOf files before s0 w0 now s4 w2 (λ c m n. NamesAt x (seen_line standard before files line) m (headers_in s4 named c) n)) (grows : Extends before now) where
  pub deep-leads : {s5 : Sets} {w3 : Walk} → (entry.depth < x.include_depth → ⊥) → SimulatesStep now s4 w2 s5 w3 (λ files c m. refusing m (seen_line standard now files line) IncludeDepth)
      → Leads files before s0 w0 files now s5 w3 (IsIn files entry) (λ c m n. Finds x (seen_line standard before files line) files m [] n)
  deep-leads deep refused = record {
    at = λ c m listed at here.
        let a = at_names.at c m listed at in
        let same : seen_line standard now files line ≡ seen_line standard before files line = ap (line_of standard) (tokens-later grows (Extends-refl files) line held_line) in
        record {
          machine = refusing a.machine (seen_line standard now files line) IncludeDepth;
          done = subst (λ l. Finds x (seen_line standard before files line) files m [] (refusing a.machine l IncludeDepth)) (sym same)
              (named-deep x (seen_line standard before files line) hash has files a.done (λ acting shallow. deep (subst (λ d. d < x.include_depth) (here acting).deep shallow)));
          simulates = refused.at files c a.machine (IsConfig-Keeps k04 listed) at_names.table a.simulates;
        };
  }

  module _ {s5 s6 : Sets} {more later : List (List ℕ)} {w3 : Walk} {contents : Contents} (found : Found) (k45 : Keeps s4 s5) (k56 : Keeps s5 s6) (grows_on : Extends now later) (files_grow : Extends files more)
      (held : IsHeldWalk now (length files) any_token w2) (shallow : entry.depth < x.include_depth) (agrees : Agrees standard later more x.files contents)
      (are : AreFound standard s4 named (text_at files entry.file.0) x.include later more contents s5 found)
      (refused : SimulatesStep later s5 w2 s6 w3 (λ files c m. refusing_if (s5.has found.missing.0 c) m (seen_line standard later files line) NotFound)) where
    found-now : (c : List ℕ) (m n : Machine) → IsConfig s4.arities c → IsIn files entry m → NamesAt x (seen_line standard before files line) m (headers_in s4 named c) n
        → Finds x (seen_line standard before files line) more m (files_at s6 found.parts.items c) (refusing_if (s5.has found.missing.0 c) n (seen_line standard later more line) NotFound)
    found-now c m n listed here done =
        let l = seen_line standard before files line in
        let same : seen_line standard later more line ≡ l = ap (line_of standard) (tokens-later (Extends-trans grows grows_on) files_grow line held_line) in
        let kept : files_at s6 found.parts.items c ≡ files_at s5 found.parts.items c = items-keeps (λ (part : Part). (part.cond, part.file)) found.parts.items c k56 are.parts.own (IsConfig-Keeps k45 listed) in
        subst (λ fs. Finds x l more m fs (refusing_if (s5.has found.missing.0 c) n (seen_line standard later more line) NotFound)) (sym kept)
        (subst (λ k. Finds x l more m (files_at s5 found.parts.items c) (refusing_if (s5.has found.missing.0 c) n k NotFound)) (sym same)
        (named-finds x l hash has more done (λ acting. ap (λ o. unwrap_or o []) (here acting).name) (λ acting. subst (λ d. d < x.include_depth) (sym (here acting).deep) shallow)
        (are.at x.files c agrees listed (names-short x l hash has done))))

    pub found-leads : Leads files before s0 w0 more later s6 w3 (IsIn files entry) (λ c m n. Finds x (seen_line standard before files line) more m (files_at s6 found.parts.items c) n)
    found-leads = record {
      at = λ c m listed at here.
          let a = at_names.at c m listed at in
          let first = IsConfig-Keeps k04 listed in
          let table5 = IsTable-Keeps k45 at_names.table in
          record {
            machine = refusing_if (s5.has found.missing.0 c) a.machine (seen_line standard later more line) NotFound;
            done = found-now c m a.machine first here a.done;
            simulates = refused.at more c a.machine (IsConfig-Keeps k45 first) (IsTable-Extends grows_on table5)
                (simulates-later grows_on files_grow s5 w2 c a.machine table5 held (simulates-kept k45 w2 at_names.owns now files c a.machine first at_names.table a.simulates));
          };
    }

-- ---- names on one line

tail-of : {A : Type 0} (Q : A → Type 0) (b : Bool) (x : A) (xs : List A) → Every Q (if b then x ∷ xs else xs) → Every Q xs
tail-of Q true x xs all = all.1
tail-of Q false x xs all = all

-- what holds of each list that a configuration has holds of an alternative that has the
-- configuration
in-tokens : (Q : List base.Token → Type 0) (s : Sets) (alternatives : List Alternative) (c : List ℕ) (k : ℕ) (d : Alternative) → Every Q (tokens_in s alternatives c) → k < length alternatives
    → s.has (get_or alternatives k d).cond.0 c ≡ true → Q (get_or alternatives k d).tokens.items
in-tokens Q s [] c k d all within has = absurd (omega (arith, within))
in-tokens Q s (a ∷ rest) c zero d all within has =
    (subst (λ b. Every Q (if b then a.tokens.items ∷ tokens_in s rest c else tokens_in s rest c)) has all).0
in-tokens Q s (a ∷ rest) c (suc k) d all within has =
    in-tokens Q s rest c k d (tail-of Q (s.has a.cond.0 c) a.tokens.items (tokens_in s rest c) all) (omega (arith, within)) has

module _ {old new : Sets} (test : base.Token → Bool) (cond : ℕ) (list : List (Cond × base.Token)) (alternatives : List Alternative) (keeps : Keeps old new)
    (lists : (c : List ℕ) → IsConfig old.arities c → tokens_in new alternatives c ≡ (if old.has cond c then items_at old list c ∷ [] else []))
    (pass : (c : List ℕ) → IsConfig old.arities c → old.has cond c ≡ true → All (λ (t : base.Token). test t ≡ true) (items_at old list c)) where
  abbrev AllPassed : List base.Token → Type 0
  AllPassed ts = All (λ (t : base.Token). test t ≡ true) ts

  lists-pass : (c : List ℕ) → IsConfig old.arities c → Every AllPassed (tokens_in new alternatives c)
  lists-pass c listed = subst (Every AllPassed) (sym (lists c listed)) (by (old.has cond c) refl)
    where
      by : (b : Bool) → old.has cond c ≡ b → Every AllPassed (if b then items_at old list c ∷ [] else [])
      by true has = (pass c listed has, tt)
      by false has = tt

  never-fails : (k : ℕ) (d : Alternative) → k < length alternatives → (j : ℕ) (e : base.Token) → j < length (get_or alternatives k d).tokens.items
      → test (get_or (get_or alternatives k d).tokens.items j e) ≡ false → IsNever new (get_or alternatives k d).cond.0
  never-fails k d within j e inside wrong = record { none = λ c listed. by c (IsConfig-kept keeps listed) (new.has (get_or alternatives k d).cond.0 c) refl }
    where
      by : (c : List ℕ) → IsConfig old.arities c → (b : Bool) → new.has (get_or alternatives k d).cond.0 c ≡ b → b ≡ false
      by c listed false has = refl
      by c listed true has = absurd (true≢false (sym (in-tokens AllPassed new alternatives c k d (lists-pass c listed) within has j e inside) ∙ wrong))

  -- tokens of no configuration are in no alternative
  pub each-passes : All (λ (a : Alternative). IsNever new a.cond.0 → ⊥) alternatives → EachToken (λ (t : base.Token). test t ≡ true) alternatives
  each-passes some k d within j e inside = by (test (get_or (get_or alternatives k d).tokens.items j e)) refl
    where
      by : (b : Bool) → test (get_or (get_or alternatives k d).tokens.items j e) ≡ b → b ≡ true
      by true is = refl
      by false wrong = absurd (some k d within (never-fails k d within j e inside wrong))

-- what is said of plain lines is plain
said-plain : {l : Line} {m n : Machine} {ts : List Token} → SaysAt l m ts n → acts n ≡ true → IsPlainState m.state → Every IsPlainToken l.tokens → Every PlainToken ts
said-plain (machine.inert here none) acting plain all = absurd (true≢false (sym acting ∙ here))
said-plain (machine.said here says) acting plain all = says-plain says plain.macros all
said-plain {m = m} (machine.refused fault here says) acting plain all = absurd (true≢false (sym acting ∙ refused-inert m fault here))

unseen-plain : (texts files : List (List ℕ)) (ts : List base.Token) → Every PlainToken (map (seen texts files) ts) → Every (λ (t : base.Token). is_plain texts t ≡ true) ts
unseen-plain texts files [] all = tt
unseen-plain texts files (t ∷ ts) all = (all.0, unseen-plain texts files ts all.1)

pub line-plain : (texts files : List (List ℕ)) (ts : List base.Token) → All (IsPlaced texts (length files)) ts → ArePlainPaths files → All (λ (t : base.Token). is_plain texts t ≡ true) ts
    → Every IsPlainToken (map (seen texts files) ts)
line-plain texts files [] placed paths all = tt
line-plain texts files (t ∷ ts) placed paths all =
    let P : base.Token → Type 0 = λ t. is_plain texts t ≡ true in
    let Q = IsPlaced texts (length files) in (
      record { spelling = All-head P t ts all; file = path-plain files t.place.file.0 (All-head Q t ts placed).file paths },
      line-plain texts files ts (All-tail Q t ts placed) paths (All-tail P t ts all),
    )

pub said-each : (standard : Standard) {s0 s1 : Sets} {files before now : List (List ℕ)} {w0 w1 : Walk} {from : Machine → Type 0} (line : List base.Token) (list : List (Cond × base.Token)) → Keeps s0 s1
    → SimulatesOneOf files before s0 w0 now s1 w1 (λ c m n. SaysAt (seen_line standard before files line) m (map (seen now files) (items_at s1 list c)) n)
    → All (IsPlaced before (length files)) line → All (λ (t : base.Token). is_plain before t ≡ true) line → ArePlainPaths files → PlainEach s0 before files w0 from
    → (c : List ℕ) → IsConfig s1.arities c → s1.has w1.acting.0 c ≡ true → All (λ (t : base.Token). is_plain now t ≡ true) (items_at s1 list c)
said-each standard {s1 = s1} {files} {before} {now} line list keeps says placed plain paths each c listed acting =
    let was = IsConfig-kept keeps listed in
    let m = each.each c was in
    let a = says.at c m.0 was m.1 in
    let spelled = line-plain before files line placed paths plain in
    All-from_recursion (λ (t : base.Token). is_plain now t ≡ true) (items_at s1 list c)
    (unseen-plain now files (items_at s1 list c) (said-plain a.done (sym a.simulates.acting ∙ acting) m.3 spelled))

-- ---- directories on one line

from-blank : (bs : List ℕ) → list_all (nat_le 32) bs ≡ true → has_no_newline bs ≡ true
from-blank [] all = refl
from-blank (b ∷ bs) all =
    let parts = and_parts (nat_le 32 b) (list_all (nat_le 32) bs) all in
    let differs = ne_eqb b 10 (λ e. let passes = sym (ap (nat_le 32) e) ∙ parts.0 in cc) in
    not_from_false _ (or_from _ _ differs (not-true _ (from-blank bs parts.1)))

pub sound-plain : {space : Space} → IsSound space → ArePlainPaths space.include
sound-plain {space} sound =
    All-weaker (λ name. is_directory name ≡ true) (λ path. has_no_newline path ≡ true)
    (λ path is. from-blank path (and_parts (not (length path == 0)) (list_all (nat_le 32) path) is).1) space.include sound.directories

-- a line has a first token
pub has-hash : (standard : Standard) (texts files : List (List ℕ)) (line : List base.Token) → 0 < length line → (t : Token) × (hash_of (seen_line standard texts files line) ≡ Some t)
has-hash standard texts files [] long = absurd (omega (arith, long))
has-hash standard texts files (t ∷ ts) long = (seen texts files t, refl)

-- ---- why there is no answer

pub reading-stops : (arities : List ℕ) (limit old new : ℕ) (s : Stop) → ReadsNothing old new s → Stops arities limit old new s
reading-stops arities limit old new (BranchesFull count) is = absurd is
reading-stops arities limit old new ReadFault is = is
reading-stops arities limit old new OutOfMemory is = tt
