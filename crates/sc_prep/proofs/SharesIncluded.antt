-- What configurations put out in a file that a line includes.
use Rattle.std.proofs.Common.{is_none, ◌≡◌, ◌⊎◌, inl, inr, ℕ, suc, ◌+◌, ◌<◌, ◌≤◌, Bool, true, false, true≢false, List, [], ◌∷◌, ◌++◌, All, AllPairs, drop, get_or, length, map, Option, None, Some, Result, Ok, Err, option_map, slice_get, refl, sym, ap, ◌∙◌, subst, arith, if◌then◌else◌, unwrap_or}
use Rattle.std.proofs.lemmas.Option.{slice_get-map}
use Rattle.c11_directives.proofs.PreLaws.{run-sole, says-sole}
use Rattle.c11_directives.specs.Footprints.{Spot, Used, footprint_at, token_itself}
use Rattle.c11_directives.specs.Lines.{Line, first_of, hash_of, line_of, onto_first, split_lines}
use Rattle.c11_directives.specs.Pre.{Closes, State, closed, deeper, file_lines, put_out}
use Rattle.c11_directives.specs.PutOut.{PutsOut}
use Rattle.c11_directives.specs.Reaches as moments
use Rattle.c11_directives.specs.Reaches.{FileReaches, LineReaches, Moment, at_line, in_file, itself}
use Rattle.c11_directives.specs.declared.directive.Directive.TheVariants as directive
use Rattle.c11_headers.specs.Headers.{Header, candidates, header_of}
use Rattle.c11_macros.specs.Macros.{Definition}
use Rattle.sc_base.specs.declared.token.Token as base
use Rattle.sc_model.specs.Growth.{IsOneToOne}
use Rattle.sc_model.specs.Token.{Lexeme, Place, Token, in_file as in_file_of}
use Rattle.sc_prep.proofs.ComesBack.{comes-back, comes-line, comes-one}
use Rattle.sc_prep.proofs.Facts.{Extends-refl, All-at, All-cons, All-head, All-map, All-nil, All-tail, Extends-keeps, IsConfig-Keeps, cases_lt, cases_order, get_or_from_slice_get, same_Some, slice_get_within}
use Rattle.sc_prep.proofs.Going.{Stage, Staged, came, closed-in, line-later, searched, staged-between, waits}
use Rattle.sc_prep.proofs.IncludeLeads.{files-next}
use Rattle.sc_prep.proofs.LeadMoves.{leads-as, leads-one}
use Rattle.sc_prep.proofs.SharesEntered.{entered-unfaulty, live-unfaulty}
use Rattle.sc_prep.proofs.SharesKept.{nth-later}
use Rattle.sc_prep.proofs.SharesThen.{any-shares, shares-led, shares-then}
use Rattle.sc_prep.proofs.Terms.{AreOnce, Closed, ComesAt, ComesInside, ComesOver, Cond, Context, EntersAt, Entry, Extends, Fault, File, FileId, Finds, IsBetweenRuns, IsCond, IsConfig, IsIn, IsPlaced, IsStored, Keeps, Leads, Machine, Part, RunBecomes, RunExpands, Says, Sets, Simulates, SimulatesOneOf, Standard, no_line, Walk, acts, closing_run, files_at, is_once_file, search, seen_line, text_at}
use Rattle.sc_prep.specs.Footprints.{does, within}
use Rattle.sc_prep.specs.Includes as includes
use Rattle.sc_prep.specs.Thin.{HaveOne, KeepsShares, KeepsSharesOf, Shares, WherePutOut, put}

-- The machine closes its run at the line and enters a file, in which it comes to the moment.
pub record EntersBy (x : Context) (l : Line) (m : Machine) (chain : List Place) (k : Moment) : Type 0 where
  pub t : State
  pub ts : List Token
  pub header : Header
  pub hash : Token
  pub file : File
  pub rest : List Place
  pub acting : acts m ≡ true
  pub closes : Closes m.state (Ok t)
  pub says : Says t.macros l (Ok ts)
  pub header_is : header_of ts ≡ Ok header
  pub hashed : hash_of l ≡ Some hash
  pub searching : search x.files (candidates header t.file x.include) ≡ Some file
  pub again : is_once_file t file.name ≡ false
  pub reaches : FileReaches x file (deeper t) rest k
  pub chain_is : chain ≡ hash.place ∷ rest

pub enters-by : {x : Context} {l : Line} {m : Machine} {chain : List Place} {text : Line} {s : State} → l.directive ≡ Some directive.Include → text.directive ≡ None → ComesAt x m l chain (at_line text s) → EntersBy x l m chain (at_line text s)
enters-by include none (does acting plain itself) = let both = sym none ∙ include in absurd (cc)
enters-by include none (does acting plain (in_file t ts header hash file is closes says header_is shallow hashed searching again reaches)) = record {
  t = t;
  ts = ts;
  header = header;
  hash = hash;
  file = file;
  rest = _;
  acting = acting;
  closes = closes;
  says = says;
  header_is = header_is;
  hashed = hashed;
  searching = searching;
  again = again;
  reaches = reaches;
  chain_is = refl;
}

module _ {x : Context} {l : Line} {m : Machine} {chain : List Place} {g : Moment} (by : EntersBy x l m chain g) where
  -- the machine behind its run
  pub closing-state : (answer : Result (List Token) Fault) → RunExpands m answer → ((closing_run m answer).state ≡ by.t) × (acts (closing_run m answer) ≡ true)
  closing-state answer expands = here by.t by.closes answer (expands by.acting)
    where
      here : (t : State) → Closes m.state (Ok t) → (r : Result (List Token) Fault) → RunBecomes m.state.macros m.state.run r → ((closing_run m r).state ≡ t) × (acts (closing_run m r) ≡ true)
      here _ (closed output becomes) (Ok other) others =
          let oks : Ok output ≡ Ok other = run-sole becomes (Ok other) others in
          let same : output ≡ other = cc in
          (ap (λ b. if b then put_out m.state other else m.state) by.acting ∙ ap (put_out m.state) (sym same), by.acting)
      here _ (closed output becomes) (Err fault) others = let other = run-sole becomes (Err fault) others in absurd (cc)

  found-file : {ts : List Token} {header : Header} {f : File} (k : State) → k ≡ by.t → Says k.macros l (Ok ts) → header_of ts ≡ Ok header → search x.files (candidates header k.file x.include) ≡ Some f → by.file ≡ f
  found-file {ts} {header} {f} k state says header_is searching =
      let oks : Ok by.ts ≡ Ok ts = says-sole by.says (Ok ts) (subst (λ (s : State). Says s.macros l (Ok ts)) state says) in
      let tokens : by.ts ≡ ts = cc in
      let headers : Ok by.header ≡ Ok header = sym by.header_is ∙ (ap header_of tokens ∙ header_is) in
      let same : by.header ≡ header = cc in
      same_Some by.file f
      (sym by.searching ∙ (ap (λ h. search x.files (candidates h by.t.file x.include)) same ∙ (ap (λ (s : State). search x.files (candidates header s.file x.include)) (sym state) ∙ searching)))

  -- the file that its directive finds
  pub finds-file : {files : List (List ℕ)} {k n : Machine} {left : List FileId} → k.state ≡ by.t → acts k ≡ true → n.fault ≡ None → Finds x l files k left n
      → (file : FileId) × (left ≡ file ∷ []) × (slice_get files file.0 ≡ Some by.file.name)
  finds-file state acting none (includes.inert idle) = absurd (true≢false (sym acting ∙ idle))
  finds-file {k = k} state acting none (includes.refused fault on carried) = let both = sym (ap (λ b. if b then Some fault else k.fault) on) ∙ none in absurd (cc)
  finds-file {k = k} state acting none (includes.found file ts header hash f on says header_is shallow hashed searching named) =
      (file, refl, named ∙ ap (λ (f : File). Some f.name) (sym (found-file k.state state says header_is searching)))

  -- it comes to the moment in its file
  pub inside-file : {files : List (List ℕ)} {depth : ℕ} {n : Machine} {left more : List FileId} (file : FileId) → Staged x l files depth m left n → left ≡ file ∷ more → ComesInside x (text_at files file.0) (depth + 1) n by.rest g
  inside-file {files} {depth} {n} {left} {more} file staged is = here staged.answer staged.expands left n staged.stage is
    where
      here : (answer : Result (List Token) Fault) → RunExpands m answer → (left : List FileId) (n : Machine) → Stage x l files depth (closing_run m answer) left n → left ≡ file ∷ more → ComesInside x (text_at files file.0) (depth + 1) n by.rest g
      here answer expands _ _ (came e carried) is = absurd (cc)
      here answer expands _ _ (waits other ts header hash f acting says header_is deep shallow hashed searching there) is =
          let at = closing-state answer expands in
          let one : other ≡ file = cc in
          let same = found-file (closing_run m answer).state at.0 says header_is searching in
          let name : by.file.name ≡ text_at files file.0 = ap (λ (g : File). g.name) same ∙ (sym (ap (λ o. unwrap_or o []) there) ∙ ap (λ (i : FileId). text_at files i.0) one) in
          let low : by.t.depth ≡ depth = ap (λ (s : State). s.depth) (sym at.0) ∙ deep in
          record {
            acting = at.1;
            file = by.file;
            named = name;
            there = ap x.files (sym name) ∙ searched x.files (candidates by.header by.t.file x.include) by.file by.searching;
            again = (λ i. is_once_file (at.0 i) (sym name i)) ∙ by.again;
            reaches = subst (λ (s : State). FileReaches x by.file s by.rest g) ((λ i. record by.t { depth = low i + 1 }) ∙ ap (λ (s : State). record s { depth = depth + 1 }) (sym at.0)) by.reaches;
          }

-- ---- the part of a configuration

pub record HasPart (s : Sets) (parts : List Part) (c : List ℕ) : Type 0 where
  pub index : ℕ
  pub part : Part
  pub there : slice_get parts index ≡ Some part
  pub has : s.has part.cond.0 c ≡ true

pub part-of-files : (s : Sets) (parts : List Part) (c : List ℕ) (file : FileId) (more : List FileId) → files_at s parts c ≡ file ∷ more → (p : HasPart s parts c) × (p.part.file ≡ file)
part-of-files s [] c file more is = absurd (cc)
part-of-files s (p ∷ ps) c file more is = here (s.has p.cond.0 c) refl is (part-of-files s ps c file more)
  where
    here : (b : Bool) → s.has p.cond.0 c ≡ b → (if b then p.file ∷ files_at s ps c else files_at s ps c) ≡ file ∷ more → (files_at s ps c ≡ file ∷ more → (q : HasPart s ps c) × (q.part.file ≡ file))
        → (q : HasPart s (p ∷ ps) c) × (q.part.file ≡ file)
    here true has is later = (record { index = 0; part = p; there = refl; has = has }, cc)
    here false has is later =
        let q = later is in
        (record { index = suc q.0.index; part = q.0.part; there = q.0.there; has = q.0.has }, q.1)

abbrev pub part-later : {old new : Sets} {parts : List Part} {c : List ℕ} → Keeps old new → All (λ (part : Part). IsCond old part.cond.0) parts → IsConfig old.arities c → HasPart old parts c → HasPart new parts c
part-later {old} {new} {parts} {c} keeps own listed p = record {
  index = p.index;
  part = p.part;
  there = p.there;
  has = keeps.at p.part.cond.0 c (All-at (λ (part : Part). IsCond old part.cond.0) parts p.index p.part p.there own) listed ∙ p.has;
}

-- parts of one file are one
pub same-part : {files : List (List ℕ)} (parts : List Part) → AreOnce parts → IsOneToOne files → {s : Sets} {c d : List ℕ} {name : List ℕ} (p : HasPart s parts c) (q : HasPart s parts d) → slice_get files p.part.file.0 ≡ Some name → slice_get files q.part.file.0 ≡ Some name
    → p.index ≡ q.index
same-part parts once one_to_one {name = name} p q named other =
    let ids : p.part.file ≡ q.part.file = ap (λ n. record { 0 = n }) (one_to_one.same p.part.file.0 q.part.file.0 name named other) in
    once-indexes (map (λ (part : Part). part.file) parts) once p.index q.index p.part.file (slice_get-map (λ (part : Part). part.file) parts p.index ∙ ap (option_map (λ (part : Part). part.file)) p.there)
    (slice_get-map (λ (part : Part). part.file) parts q.index ∙ (ap (option_map (λ (part : Part). part.file)) q.there ∙ ap Some (sym ids)))
  where
    once-indexes : {A : Type 0} (xs : List A) → AllPairs (λ x y. x ≡ y → ⊥) xs → (i j : ℕ) (x : A) → slice_get xs i ≡ Some x → slice_get xs j ≡ Some x → i ≡ j
    once-indexes xs apart i j x at also = elim (cases_order i j) [
      | inl same ↦ same
      | inr (inl before) ↦ absurd (apart i j x before (slice_get_within xs j x also) (get_or_from_slice_get xs i x x at ∙ sym (get_or_from_slice_get xs j x x also)))
      | inr (inr after) ↦ absurd (apart j i x after (slice_get_within xs i x at) (get_or_from_slice_get xs j x x also ∙ sym (get_or_from_slice_get xs i x x at)))
    ]

-- ---- the file in which a moment lies

abbrev IsInFile : List ℕ → Token → Type 0
IsInFile name t = t.place.file ≡ name

all-behind : {A : Type 0} (P : A → Type 0) (xs ys : List A) → All P (xs ++ ys) → All P ys
all-behind P [] ys all = all
all-behind P (x ∷ xs) ys all = all-behind P xs ys (All-tail P x (xs ++ ys) all)

onto-all : {A : Type 0} (P : A → Type 0) (t : A) (lines : List (List A)) → P t → All (All P) lines → All (All P) (onto_first t lines)
onto-all P t [] holds all = All-cons (All P) (t ∷ []) [] (All-cons P t [] holds (All-nil P)) all
onto-all P t (l ∷ ls) holds all = All-cons (All P) (t ∷ l) ls (All-cons P t l holds (All-head (All P) l ls all)) (All-tail (All P) l ls all)

split-all : {A : Type 0} (P : A → Type 0) (ends : A → Bool) (ts : List A) → All P ts → All (All P) (split_lines ends ts)
split-all P ends [] all = All-nil (All P)
split-all P ends (t ∷ ts) all = here (ends t) (split-all P ends ts (All-tail P t ts all))
  where
    here : (b : Bool) → All (All P) (split_lines ends ts) → All (All P) (if b then [] ∷ split_lines ends ts else onto_first t (split_lines ends ts))
    here true rest = All-cons (All P) [] (split_lines ends ts) (All-nil P) rest
    here false rest = onto-all P t (split_lines ends ts) (All-head P t ts all) rest

lines-in-file : (x : Context) (f : File) (lexemes : List Lexeme) → All (λ (l : Line). All (IsInFile f.name) l.tokens) (file_lines x f lexemes)
lines-in-file x f lexemes =
    All-map (λ (l : Line). All (IsInFile f.name) l.tokens) (line_of x.standard) _
    (split-all (IsInFile f.name) _ (map (in_file_of f.name) lexemes) (All-map (IsInFile f.name) (in_file_of f.name) lexemes (λ k d below. refl)))

hash-first : (l : Line) (hash : Token) → hash_of l ≡ Some hash → (rest : List Token) × (l.tokens ≡ hash ∷ rest)
hash-first l hash is = here l.tokens is
  where
    here : (ts : List Token) → first_of ts ≡ Some hash → (rest : List Token) × (ts ≡ hash ∷ rest)
    here [] e = absurd (cc)
    here (t ∷ ts) e = (ts, ap (λ u. u ∷ ts) (same_Some t hash e))

abbrev outermost : List Place → Token → Place
outermost [] t = t.place
outermost (p ∷ ps) t = p

module _ {x : Context} (f : File) {line : Line} {end : State} {u : Spot × Used} {index n : ℕ} (puts : PutsOut end line u index n) where
  in-line : {l : Line} {t : State} {chain : List Place} → All (IsInFile f.name) l.tokens → LineReaches x l t chain (at_line line end) → (outermost chain puts.token).file ≡ f.name
  in-line all itself = All-head (IsInFile f.name) puts.token puts.behind (all-behind (IsInFile f.name) puts.before (puts.token ∷ puts.behind) (subst (All (IsInFile f.name)) puts.is all))
  in-line {l} all (in_file t ts header hash file is closes says header_is shallow hashed searching again reaches) =
      let first = hash-first l hash hashed in
      All-head (IsInFile f.name) hash first.0 (subst (All (IsInFile f.name)) first.1 all)

  in-lines : (tokens : List Lexeme) {m : Machine} {chain : List Place} → ComesOver x (file_lines x f tokens) m chain (at_line line end) → (outermost chain puts.token).file ≡ f.name
  in-lines tokens (within comes) = let one = comes-one comes in in-line (lines-in-file x f tokens one.index no_line one.below) (comes-line one.comes)

  -- the first #include, or the token, stands in the file
  in-its-file : {s : State} {chain : List Place} → FileReaches x f s chain (at_line line end) → (outermost chain puts.token).file ≡ f.name
  in-its-file {s} (moments.within tokens group few lexed tree reaches) = in-lines tokens (comes-back f s tokens lexed refl (moments.within tokens group few lexed tree reaches))

same-token : {t u : Token} {ts us : List Token} {ds es : List (List ℕ × Option Definition)} → footprint_at t ts ds ≡ footprint_at u us es → t ≡ u
same-token {t} {u} e = let first : token_itself t ≡ token_itself u = ap (λ p. p.0) e in cc

-- ---- two configurations that enter files by the line

pub record MeetIn (x : Context) (l : Line) (k m : Machine) (index n o : ℕ) : Type 0 where
  pub chain : List Place
  pub line : Line
  pub other : Line
  pub s : State
  pub t : State
  pub f : Spot × Used
  pub enters : EntersBy x l k chain (at_line line s)
  pub enters_other : EntersBy x l m chain (at_line other t)
  pub puts : PutsOut s line f index n
  pub puts_other : PutsOut t other f index o

-- they enter one file, behind the same #includes
pub meet-rest : {x : Context} {l : Line} {k m : Machine} {index n o : ℕ} (meet : MeetIn x l k m index n o) → meet.enters.rest ≡ meet.enters_other.rest
meet-rest meet = let both = sym meet.enters.chain_is ∙ meet.enters_other.chain_is in cc

pub meet-file : {x : Context} {l : Line} {k m : Machine} {index n o : ℕ} (meet : MeetIn x l k m index n o) → meet.enters.file.name ≡ meet.enters_other.file.name
meet-file meet =
    let token : meet.puts.token ≡ meet.puts_other.token = same-token (sym meet.puts.footprint ∙ meet.puts_other.footprint) in
    sym (in-its-file meet.enters.file meet.puts meet.enters.reaches) ∙ ((λ i. (outermost (meet-rest meet i) (token i)).file) ∙ in-its-file meet.enters_other.file meet.puts_other meet.enters_other.reaches)

-- What was done since the line: those that entered one of so many first parts share there.
pub record EnteredBy (x : Context) (l : Line) (files names : List (List ℕ)) (entry : Entry) (a : Sets) (u : Walk) (now_files now_names : List (List ℕ)) (now : Sets) (walk : Walk) (parts : List Part) (count : ℕ) : Type 0 where
  pub shares : KeepsSharesOf (IsIn files entry) files names a u now_files now_names now walk
  pub part : (c : List ℕ) (k : Machine) → IsConfig a.arities c → Simulates a names files u c k → IsIn files entry k → now.has walk.prepared.live.0 c ≡ true → {chain : List Place} {g : Moment} (by : EntersBy x l k chain g)
      → (p : HasPart now parts c) × (slice_get now_files p.part.file.0 ≡ Some by.file.name)
  pub put : (c d : List ℕ) (k m : Machine) → IsConfig a.arities c → IsConfig a.arities d → Simulates a names files u c k → Simulates a names files u d m → IsIn files entry k → IsIn files entry m
      → now.has walk.prepared.live.0 c ≡ true → now.has walk.prepared.live.0 d ≡ true → (index n o : ℕ) → MeetIn x l k m index n o → (p : HasPart now parts c) (q : HasPart now parts d) → p.index ≡ q.index → p.index < count
      → HaveOne now walk.prepared.list c d n o

finds-unfaulty : {x : Context} {l : Line} {files : List (List ℕ)} {left : List FileId} {m n : Machine} → Finds x l files m left n → n.fault ≡ None → (m.fault ≡ None) × (n.state.macros ≡ m.state.macros)
finds-unfaulty (includes.inert idle) none = (none, refl)
finds-unfaulty {m = m} (includes.refused fault acting carried) none = let both = sym (ap (λ b. if b then Some fault else m.fault) acting) ∙ none in absurd (cc)
finds-unfaulty (includes.found file ts header hash f acting says is shallow hashed searching named) none = (none, refl)

-- the runs are closed, and files are found
pub entered-none : {x : Context} {names files : List (List ℕ)} {entry : Entry} (l : Line) {a b c : Sets} {mid more more_files : List (List ℕ)} {u v w : Walk} (parts : List Part)
    → Keeps a b → Keeps b c → Extends mid more → Extends files more_files → IsStored b mid (length files) v → w.runs ≡ v.runs → w.prepared.list ≡ v.prepared.list
    → SimulatesOneOf files names a u mid b v (λ config m n. Closed m n) → KeepsShares files names a u files mid b v
    → Leads files mid b v more_files more c w (IsIn files entry) (λ config m n. Finds x l more_files m (files_at c parts config) n)
    → EnteredBy x l files names entry a u more_files more c w parts 0
entered-none {x} {names} {files} {entry} l {a} {b} {c} {mid} {more} {more_files} {u} {v} {w} parts keeps later grows files_grow stored runs list closes shares finds = record {
  shares = shares-then keeps (leads-one (IsIn files entry) closes) (λ config m n from was. closed-in m n from was) finds (λ config m n from found none. (finds-unfaulty found none).0) (any-shares (IsIn files entry) shares)
      (shares-led later grows files_grow v w stored runs list finds (λ config m n from found none. finds-unfaulty found none));
  part = λ config k listed at from live by.
      let one = closes.at config k listed at in
      let two = finds.at config one.machine (IsConfig-Keeps keeps listed) one.simulates (closed-in k one.machine from one.done) in
      let state = closing-state by one.done.answer one.done.expands in
      let file = finds-file by (ap (λ (m : Machine). m.state) one.done.is ∙ state.0) (ap acts one.done.is ∙ state.1) (live-unfaulty two.simulates live) two.done in
      let p = part-of-files c parts config file.0 [] file.1 in
      (p.0, ap (λ (i : FileId). slice_get more_files i.0) p.1 ∙ file.2);
  put = λ config d k m listed listed_d at at_d from from_d live live_d index n o meet p q same none. absurd (omega (arith, none));
}

-- the line as it was seen before
pub finds-later : (standard : Standard) {names mid files more_files : List (List ℕ)} → Extends names mid → (line : List base.Token) → All (IsPlaced names (length files)) line → {x : Context} {b c : Sets} {more : List (List ℕ)} {v w : Walk} {entry : Entry} (parts items : List Part) → items ≡ parts
    → Leads files mid b v more_files more c w (IsIn files entry) (λ config m n. Finds x (seen_line standard mid files line) more_files m (files_at c parts config) n)
    → Leads files mid b v more_files more c w (IsIn files entry) (λ config m n. Finds x (seen_line standard names files line) more_files m (files_at c items config) n)
finds-later standard {names} {mid} {files} {more_files} grows line placed {x} {c = c} parts items are finds =
    leads-as finds (λ m here. here)
    (λ config m n here found. subst (λ ps. Finds x (seen_line standard names files line) more_files m (files_at c ps config) n) (sym are)
    (subst (λ l. Finds x l more_files m (files_at c parts config) n) (line-later standard grows (Extends-refl files) line placed) found))

-- one more part is entered
module _ {x : Context} {l : Line} {names files : List (List ℕ)} {entry : Entry} {a b c : Sets} {mid mid_files more more_files : List (List ℕ)} {u v w : Walk} (parts : List Part) (i : ℕ) (part : Part) (depth : ℕ)
    (one_is : part ≡ get_or parts i part) (below : i < length parts) (deep : depth ≡ entry.depth + 1) (own : All (λ (part : Part). IsCond b part.cond.0) parts) (keeps : Keeps a b) (later : Keeps b c)
    (grows : Extends mid more) (files_grow : Extends mid_files more_files) (list_own : All (λ (item : Cond × base.Token). IsCond b item.0.0) v.prepared.list)
    (leads : Leads files names a u mid_files mid b v (IsIn files entry) (λ config m n. Staged x l mid_files entry.depth m (files_at b (drop i parts) config) n))
    (enters : Leads mid_files mid b v more_files more c w IsBetweenRuns (λ config m n. EntersAt x (text_at mid_files part.file.0) depth m (b.has part.cond.0 config) n))
    (shares : KeepsSharesOf IsBetweenRuns mid_files mid b v more_files more c w)
    (puts : WherePutOut mid_files mid b v IsBetweenRuns (λ config m chain k. (b.has part.cond.0 config ≡ true) × ComesInside x (text_at mid_files part.file.0) depth m chain k) c w (λ c1 d index. HaveOne c w.prepared.list c1 d))
    (was : EnteredBy x l files names entry a u mid_files mid b v parts i) where
  was-live : (e : List ℕ) (k : Machine) → IsConfig a.arities e → Simulates a names files u e k → IsIn files entry k → c.has w.prepared.live.0 e ≡ true → b.has v.prepared.live.0 e ≡ true
  was-live e k listed at from live =
      let one = leads.at e k listed at from in
      let two = enters.at e one.machine (IsConfig-Keeps keeps listed) one.simulates (staged-between one.done) in
      one.simulates.prepared.live ∙ ap is_none (entered-unfaulty two.done (live-unfaulty two.simulates live))

  abbrev part-before : (e : List ℕ) → IsConfig a.arities e → HasPart c parts e → HasPart b parts e
  part-before e listed p = record {
    index = p.index;
    part = p.part;
    there = p.there;
    has = sym (later.at p.part.cond.0 e (All-at (λ (part : Part). IsCond b part.cond.0) parts p.index p.part p.there own) (IsConfig-Keeps keeps listed)) ∙ p.has;
  }

  -- who has the part comes to the moment in it
  comes-in-part : (e : List ℕ) (k : Machine) (listed : IsConfig a.arities e) (at : Simulates a names files u e k) (from : IsIn files entry k) {chain : List Place} {g : Moment} (by : EntersBy x l k chain g) (p : HasPart b parts e) → p.index ≡ i
      → (b.has part.cond.0 e ≡ true) × ComesInside x (text_at mid_files part.file.0) depth (leads.at e k listed at from).machine by.rest g
  comes-in-part e k listed at from {chain} {g} by p here =
      let one = leads.at e k listed at from in
      let same : part ≡ p.part = one_is ∙ get_or_from_slice_get parts i p.part part (subst (λ j. slice_get parts j ≡ Some p.part) here p.there) in
      let has : b.has part.cond.0 e ≡ true = ap (λ (q : Part). b.has q.cond.0 e) same ∙ p.has in
      let left = files-next b e parts i part below in
      let first : files_at b (drop i parts) e ≡ part.file ∷ files_at b (drop (suc i) parts) e =
      left ∙ (ap (λ (q : Part). if b.has q.cond.0 e then q.file ∷ files_at b (drop (suc i) parts) e else files_at b (drop (suc i) parts) e) (sym one_is)
      ∙ ap (λ t. if t then part.file ∷ files_at b (drop (suc i) parts) e else files_at b (drop (suc i) parts) e) has) in
      (has, subst (λ d. ComesInside x (text_at mid_files part.file.0) d one.machine by.rest g) (sym deep) (inside-file by part.file one.done first))

  pub entered-more : EnteredBy x l files names entry a u more_files more c w parts (i + 1)
  entered-more = record {
    shares = shares-then keeps leads (λ config m n from staged. staged-between staged) enters (λ config m n from entered none. entered-unfaulty entered none) was.shares shares;
    part = λ e k listed at from live by.
        let p = was.part e k listed at from (was-live e k listed at from live) by in
        (part-later later own (IsConfig-Keeps keeps listed) p.0, Extends-keeps _ _ p.1 files_grow);
    put = λ e d k m listed listed_d at at_d from from_d live live_d index n o meet p q same under.
        here e d k m listed listed_d at at_d from from_d live live_d index n o meet (part-before e listed p) (part-before d listed_d q) same (cases_lt p.index i) under;
  }
    where
      here : (e d : List ℕ) (k m : Machine) (listed : IsConfig a.arities e) (listed_d : IsConfig a.arities d) (at : Simulates a names files u e k) (at_d : Simulates a names files u d m) (from : IsIn files entry k) (from_d : IsIn files entry m)
          → c.has w.prepared.live.0 e ≡ true → c.has w.prepared.live.0 d ≡ true → (index n o : ℕ) → MeetIn x l k m index n o → (p : HasPart b parts e) (q : HasPart b parts d) → p.index ≡ q.index → (p.index < i) ⊎ (i ≤ p.index) → p.index < i + 1
          → HaveOne c w.prepared.list e d n o
      here e d k m listed listed_d at at_d from from_d live live_d index n o meet p q same (inl before) under =
          let have = was.put e d k m listed listed_d at at_d from from_d (was-live e k listed at from live) (was-live d m listed_d at_d from_d live_d) index n o meet p q same before in
          subst (λ list. HaveOne c list e d n o) (sym shares.longer.1)
          (have.0, nth-later later e (IsConfig-Keeps keeps listed) v.prepared.list shares.longer.0 list_own n have.0 have.1, nth-later later d (IsConfig-Keeps keeps listed_d) v.prepared.list shares.longer.0 list_own o have.0 have.2)
      here e d k m listed listed_d at at_d from from_d live live_d index n o meet p q same (inr past) under =
          let now : p.index ≡ i = omega (arith, past, under) in
          let one = leads.at e k listed at from in
          let two = leads.at d m listed_d at_d from_d in
          let inside = comes-in-part e k listed at from meet.enters p now in
          let inside_d = comes-in-part d m listed_d at_d from_d meet.enters_other q (sym same ∙ now) in
          puts e d (IsConfig-Keeps keeps listed) (IsConfig-Keeps keeps listed_d) live live_d one.machine two.machine one.simulates two.simulates (staged-between one.done) (staged-between two.done)
          meet.enters.rest meet.line meet.other meet.s meet.t meet.f index n o inside
          (inside_d.0, subst (λ rest. ComesInside x (text_at mid_files part.file.0) depth two.machine rest (at_line meet.other meet.t)) (sym (meet-rest meet)) inside_d.1) meet.puts meet.puts_other

-- all were entered
pub entered-all : {x : Context} {l : Line} {names files : List (List ℕ)} {entry : Entry} {a b : Sets} {mid mid_files : List (List ℕ)} {u v : Walk} (parts : List Part) (i : ℕ) → length parts ≤ i → AreOnce parts → IsOneToOne mid_files → l.directive ≡ Some directive.Include
    → EnteredBy x l files names entry a u mid_files mid b v parts i → WherePutOut files names a u (IsIn files entry) (λ config m. ComesAt x m l) b v (Shares b mid mid_files v)
entered-all {x} {l} parts i past once one_to_one include by = λ c d p q live live_d k m at at_d from from_d chain line other s t f index n o one two puts puts_d.
    let meet : MeetIn x l k m index n o = record { chain = chain; line = line; other = other; s = s; t = t; f = f; enters = enters-by include puts.is_text one; enters_other = enters-by include puts_d.is_text two; puts = puts; puts_other = puts_d } in
    let mine = by.part c k p at from live meet.enters in
    let theirs = by.part d m q at_d from_d live_d meet.enters_other in
    let same = same-part parts once one_to_one mine.0 theirs.0 mine.1 (theirs.1 ∙ ap Some (sym (meet-file meet))) in
    put (by.put c d k m p q at at_d from from_d live live_d index n o meet mine.0 theirs.0 same (let within = slice_get_within parts mine.0.index mine.0.part mine.0.there in omega (arith, within, past)))
