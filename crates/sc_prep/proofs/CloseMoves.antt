-- What closing the runs does at each configuration.
use Rattle.std.proofs.Common.{◌≡◌, ℕ, ◌<◌, ◌&&◌, not, Bool, true, false, true≢false, List, [], ◌∷◌, ◌++◌, All, map, length, take, Option, Some, None, Ok, Err, append-nil, ◌⊎◌, refl, sym, ap, subst, ◌∙◌, if◌then◌else◌, is_none}
use Rattle.c11_directives.specs.Pragmas.{expanded as run_expanded, not_expanded as run_not_expanded}
use Rattle.c11_macros.specs.Hidden.{failure_at}
use Rattle.sc_base.specs.declared.fault.Fault as base
use Rattle.sc_base.specs.declared.place.Place as base_place
use Rattle.sc_base.specs.declared.token.Token as base_token
use Rattle.sc_expand.proofs.TakingParts.{none-found}
use Rattle.sc_expand.proofs.TextLemmas.{seen-out}
use Rattle.sc_expand.specs.Closing.{is_several, unclosed_at}
use Rattle.sc_expand.specs.Moved.{moved, moved_failure}
use Rattle.sc_expand.specs.Open.{closed}
use Rattle.sc_expand.specs.Seen.{seen_failure}
use Rattle.sc_model.specs.Token.{Place, Token}
use Rattle.sc_model.specs.declared.cause.Cause.TheVariants.{UnterminatedCall}
use Rattle.sc_prep.proofs.ApartLemmas.{ended-tokens, gathers-ended}
use Rattle.sc_prep.proofs.Facts.{All-append, All-cons, All-head, All-map, All-nil, All-tail, All-weaker, IsConfig-Keeps, IsConfig-kept, IsTable-Keeps, Keeps-trans, PlainToken, and-false, and-true, faults_at-Keeps, faults_at-append, items_at-Keeps, map-append, true≢false}
use Rattle.sc_prep.proofs.LeftRuns.{left-all, left-as}
use Rattle.sc_prep.proofs.Machine.{inert_closing, right-none}
use Rattle.sc_prep.proofs.Plain.{text-plain}
use Rattle.sc_prep.proofs.PragmaLaws.{carried, carries-out}
use Rattle.sc_prep.proofs.PragmaMoves.{awaits-kept, owns-pragmas}
use Rattle.sc_prep.proofs.RunLemmas.{fault-items, faults-All, part-All, seen-told}
use Rattle.sc_prep.proofs.SettledText.{TextEnds, awaits-behind, fails, put-behind, puts, settled-text, text-as, text-begins, text-ends}
use Rattle.sc_prep.proofs.Terms.{AllPass, Awaited, AwaitsAt, CarriesOutPragmas, Cond, EndsRuns, Expands, Failure, Fault, HasSettled, Hidden, IsCond, IsConfig, IsHeldHidden, IsHeldWalk, IsNever, IsOneLine, IsPlaced, IsPlainState, IsStored, IsTable, Keeps, LineStage, Machine, Name, PlainEach, RunAt, RunBecomes, Sets, TextExpands, Walk, acts, after_these, any_machine, any_token, awaits, closing_run, fault_items, fault_of, faults_at, has_no_newline, has_none, held_at, hidden_at, is_empty, is_plain, items_at, macros_at, no_operator, option_to_list, outside, place_alone, put_out, run_at, seen, seen_fault, seen_hidden, seen_place, text_of_answer, token_of, tokens_within, fault_awaiting}
use Rattle.sc_prep.proofs.Texts.{held_at-append, items_seen-append}
use Rattle.sc_prep.proofs.WalkMoves.{owns-kept, simulates-kept}
use Rattle.sc_prep.specs.Simulates.{Arrives, Closed, Owns, Simulates, SimulatesOneOf}
use Rattle.sc_subst.specs.declared.hidden.Hidden as base_hidden

-- ---- of what a configuration has

pub empty-seen : {F : Type 0} (f : base.Fault → F) (xs : List base.Fault) → map f xs ≡ [] → is_empty xs ≡ true
empty-seen f [] e = refl
empty-seen f (x ∷ xs) e = absurd (cc)

pub some-seen : {F : Type 0} (f : base.Fault → F) (xs : List base.Fault) (y : F) (ys : List F) → map f xs ≡ y ∷ ys → is_empty xs ≡ false
some-seen f [] y ys e = absurd (cc)
some-seen f (x ∷ xs) y ys e = refl

none-before : {F : Type 0} (f g : Option F) (b : Bool) → (is_none f && b) ≡ is_none g → g ≡ None → f ≡ None
none-before None g b e no_fault = refl
none-before (Some x) g b e no_fault = let both = e ∙ ap is_none no_fault in cc

-- ---- tokens that are spelled on one line

if-all : {A : Type 0} (P : A → Type 0) (b : Bool) (xs : List A) → All P xs → All P (if b then xs else [])
if-all P true xs all = all
if-all P false xs all = All-nil P

pub plain-seen : (names files : List (List ℕ)) (ts : List base_token.Token) (output : List Token) → map (seen names files) ts ≡ output
    → All (λ (t : Token). has_no_newline t.spelling ≡ true) output → All (λ (t : base_token.Token). is_plain names t ≡ true) ts
plain-seen names files [] output e all = All-nil (λ (t : base_token.Token). is_plain names t ≡ true)
plain-seen names files (t ∷ ts) [] e all = absurd (cc)
plain-seen names files (t ∷ ts) (o ∷ os) e all =
    let first : seen names files t ≡ o = cc in
    let rest : map (seen names files) ts ≡ os = cc in
    All-cons (λ (t : base_token.Token). is_plain names t ≡ true) t ts
    (ap (λ (x : Token). has_no_newline x.spelling) first ∙ All-head (λ (t : Token). has_no_newline t.spelling ≡ true) o os all)
    (plain-seen names files ts os rest (All-tail (λ (t : Token). has_no_newline t.spelling ≡ true) o os all))

-- items that have a configuration are plain where those of each configuration are
pub plain-by : (s : Sets) (names : List (List ℕ)) (list : List (Cond × base_token.Token))
    → ((c : List ℕ) → IsConfig s.arities c → All (λ (t : base_token.Token). is_plain names t ≡ true) (items_at s list c))
    → All (λ (item : Cond × base_token.Token). IsNever s item.0.0 → ⊥) list → AllPass (is_plain names) list
plain-by s names [] each some = All-nil (λ (item : Cond × base_token.Token). is_plain names item.1 ≡ true)
plain-by s names (x ∷ xs) each some =
    All-cons (λ (item : Cond × base_token.Token). is_plain names item.1 ≡ true) x xs (first (is_plain names x.1) refl)
    (plain-by s names xs (λ c listed. later (s.has x.0.0 c) (items_at s xs c) (each c listed)) (All-tail (λ (item : Cond × base_token.Token). IsNever s item.0.0 → ⊥) x xs some))
  where
    later : (b : Bool) (rest : List base_token.Token) → All (λ (t : base_token.Token). is_plain names t ≡ true) (if b then x.1 ∷ rest else rest) → All (λ (t : base_token.Token). is_plain names t ≡ true) rest
    later true rest all = All-tail (λ (t : base_token.Token). is_plain names t ≡ true) x.1 rest all
    later false rest all = all

    absent : is_plain names x.1 ≡ false → (b : Bool) (rest : List base_token.Token) → All (λ (t : base_token.Token). is_plain names t ≡ true) (if b then x.1 ∷ rest else rest) → b ≡ false
    absent e true rest all = absurd (true≢false (sym (All-head (λ (t : base_token.Token). is_plain names t ≡ true) x.1 rest all) ∙ e))
    absent e false rest all = refl

    first : (b : Bool) → is_plain names x.1 ≡ b → is_plain names x.1 ≡ true
    first true e = e
    first false e = absurd (All-head (λ (item : Cond × base_token.Token). IsNever s item.0.0 → ⊥) x xs some (record { none = λ c listed. absent e (s.has x.0.0 c) (items_at s xs c) (each c listed) }))

-- ---- nothing is closed where no configuration acts

pub closes-none : (files names : List (List ℕ)) (s : Sets) (w : Walk) → Owns s w → IsTable s names w.table → IsNever s w.acting.0 → SimulatesOneOf files names s w names s w (λ config m n. Closed m n)
closes-none files names s w owns is never = record {
  owns = owns;
  table = is;
  at = λ config m listed simulates.
      let idle : acts m ≡ false = sym simulates.acting ∙ never.none config listed in
      record {
        machine = closing_run m (Ok []);
        done = record { answer = Ok []; expands = λ acting. absurd (true≢false (sym acting ∙ idle)); is = refl };
        simulates = subst (Simulates s names files w config) (sym (inert_closing m (Ok []) idle)) simulates;
      };
}

-- ---- runs that end

pub empty-map : {A B : Type 0} (f : A → B) (xs : List A) → is_empty xs ≡ is_empty (map f xs)
empty-map f [] = refl
empty-map f (x ∷ xs) = refl

pub both-empty : {A : Type 0} (xs ys : List A) → is_empty (xs ++ ys) ≡ true → (is_empty xs ≡ true) × (is_empty ys ≡ true)
both-empty [] ys is = (refl, is)
both-empty (x ∷ xs) ys is = absurd (true≢false (sym is))

module _ (files names : List (List ℕ)) (hides : List (List Name)) where
  abbrev see : List base_hidden.Hidden → List (Hidden Place)
  see hs = map (moved (seen_place files)) (map (seen_hidden names hides) hs)

  abbrev told : List base.Fault → List (Failure Place)
  told fs = map (moved_failure (seen_place files)) (map seen_failure fs)

  -- a name alone stays, and a longer list is a call that is not closed
  few-closed : (hs : List base_hidden.Hidden) → is_several hs ≡ false → closed (see hs) ≡ Ok (see hs)
  few-closed [] few = refl
  few-closed (x ∷ []) few = refl
  few-closed (x ∷ (y ∷ ys)) few = absurd (cc)

  several-closed : (hs : List base_hidden.Hidden) → is_several hs ≡ true
      → (failure : Failure Place) × (closed (see hs) ≡ Err failure) × (map (moved_failure (seen_place files)) (map unclosed_at (take 1 hs)) ≡ failure ∷ [])
  several-closed [] several = absurd (cc)
  several-closed (x ∷ []) several = absurd (cc)
  several-closed (x ∷ (y ∷ ys)) several = (failure_at UnterminatedCall (moved (seen_place files) (seen_hidden names hides x)), refl, refl)

module _ (files names : List (List ℕ)) {old new : Sets} (w next : Walk) (stored : IsStored old names (length files) w) (settled : HasSettled old names files w) (ends : EndsRuns names old w new next) where
  abbrev mid : Sets
  mid = ends.middle

  abbrev last : Sets
  last = ends.last

  keeps : Keeps old new
  keeps = Keeps-trans ends.until (Keeps-trans ends.until_last ends.later)

  -- the faults that what was gathered has, and those of the text before
  abbrev first_faults : List base.Fault
  first_faults = ends.e.faults.items ++ ends.ended

  own-ended : All (λ (f : base.Fault). IsCond mid f.cond.0) ends.ended
  own-ended = faults-All (λ (item : Cond × Failure base_place.Place). IsCond mid item.0.0) ends.ended ends.ends.part.own

  own-first : All (λ (f : base.Fault). IsCond mid f.cond.0) first_faults
  own-first = All-append (λ (f : base.Fault). IsCond mid f.cond.0) ends.e.faults.items ends.ended ends.closed.faults_own own-ended

  own-more : All (λ (f : base.Fault). IsCond last f.cond.0) ends.faults
  own-more = subst (All (λ (f : base.Fault). IsCond last f.cond.0)) (sym ends.pragmas.is)
      (All-append (λ (f : base.Fault). IsCond last f.cond.0) first_faults ends.pragmas.unread (λ k d h. ends.until_last.own _ (own-first k d h)) ends.pragmas.faults_own)

  abbrev kept_list : List (Cond × base_token.Token)
  kept_list = ends.pragmas.puts.kept

  -- the walk, without its name
  abbrev now : Walk
  now = record w {
    acting = next.acting;
    runs = record w.runs { gathered = next.runs.gathered; held = next.runs.held; pragmas = next.runs.pragmas; read = next.runs.read };
    prepared = record w.prepared { list = next.prepared.list; faults = next.prepared.faults; live = next.prepared.live };
  }

  module _ (c : List ℕ) (listed : IsConfig old.arities c) where
    listed_mid : IsConfig mid.arities c
    listed_mid = IsConfig-Keeps ends.until listed

    abbrev xs : List base_hidden.Hidden
    xs = items_at old w.runs.gathered c

    abbrev gathered : List (Hidden Place)
    gathered = hidden_at old names files w.runs.sets w.runs.gathered c

    abbrev none : Bool
    none = has_none last ends.faults c

    -- the faults that the configuration has of these
    abbrev told_more : List Fault
    told_more = map (seen_fault files) (faults_at last ends.faults c)

    abbrev shown : List base_token.Token → List Token
    shown ts = map (seen names files) ts

    -- what is put out in the configurations of a test, and what it is refused by
    list-told : (a several : Bool) → old.has w.acting.0 c ≡ a → is_several xs ≡ several → shown (items_at mid ends.e.list c) ≡ (if a && not several then map token_of gathered else [])
    list-told a several here is = ap shown (ends.closed.list c listed ∙ (λ i. if here i && not (is i) then map (λ (h : base_hidden.Hidden). h.token) xs else [])) ∙ by (a && not several)
      where
        by : (b : Bool) → shown (if b then map (λ (h : base_hidden.Hidden). h.token) xs else []) ≡ (if b then map token_of gathered else [])
        by true = seen-out names files w.runs.sets xs
        by false = refl

    unclosed-told : (a several : Bool) → old.has w.acting.0 c ≡ a → is_several xs ≡ several
        → held_at mid files ends.e.faults.items c ≡ map (moved_failure (seen_place files)) (if a && several then map unclosed_at (take 1 xs) else [])
    unclosed-told a several here is = ap (map (moved_failure (seen_place files))) (ends.closed.faults c listed ∙ (λ i. if here i && is i then map unclosed_at (take 1 xs) else []))

    pub ended-told : (a : Bool) → old.has w.acting.0 c ≡ a → held_at mid files ends.ended c ≡ (if a then held_at old files w.runs.held.items c else [])
    ended-told a here =
        ap (map (moved_failure (seen_place files))) (sym (fault-items mid ends.ended c) ∙ (ends.ends.at c listed ∙ ap (λ b. if b then items_at old (fault_items w.runs.held.items) c else []) here)) ∙ by a
      where
        by : (b : Bool) → map (moved_failure (seen_place files)) (if b then items_at old (fault_items w.runs.held.items) c else []) ≡ (if b then held_at old files w.runs.held.items c else [])
        by true = ap (map (moved_failure (seen_place files))) (fault-items old w.runs.held.items c)
        by false = refl

    abbrev told_first : List (Failure Place)
    told_first = held_at mid files first_faults c

    pub told-first : told_first ≡ held_at mid files ends.e.faults.items c ++ held_at mid files ends.ended c
    told-first = held_at-append mid files ends.e.faults.items ends.ended c

    none-first : has_none mid first_faults c ≡ is_empty told_first
    none-first = empty-map seen_failure (faults_at mid first_faults c) ∙ empty-map (moved_failure (seen_place files)) (map seen_failure (faults_at mid first_faults c))

    pub told-now : told_more ≡ map fault_of told_first ++ map (seen_fault files) (faults_at last ends.pragmas.unread c)
    told-now =
        ap (λ fs. map (seen_fault files) (faults_at last fs c)) ends.pragmas.is
        ∙ (ap (map (seen_fault files)) (faults_at-append last first_faults ends.pragmas.unread c)
        ∙ (map-append (seen_fault files) (faults_at last first_faults c) (faults_at last ends.pragmas.unread c)
        ∙ ap (λ fs. fs ++ map (seen_fault files) (faults_at last ends.pragmas.unread c)) (ap (map (seen_fault files)) (faults_at-Keeps first_faults c ends.until_last own-first listed_mid) ∙ seen-told files (faults_at mid first_faults c))))

    pub none-now : none ≡ is_empty told_more
    none-now = empty-map (seen_fault files) (faults_at last ends.faults c)

    acting-mid : mid.has w.acting.0 c ≡ old.has w.acting.0 c
    acting-mid = ends.until.at _ c stored.owns.acting listed

    -- the tokens with which the runs end
    abbrev last_tokens : List Token
    last_tokens = tokens_within names files mid ends.e.list w.acting.0 c

    pub tokens-told : (a several : Bool) → old.has w.acting.0 c ≡ a → is_several xs ≡ several → last_tokens ≡ (if a && not several then map token_of gathered else [])
    tokens-told true several here is = ap (λ b. if b then shown (items_at mid ends.e.list c) else []) (acting-mid ∙ here) ∙ list-told true several here is
    tokens-told false several here is = ap (λ b. if b then shown (items_at mid ends.e.list c) else []) (acting-mid ∙ here)

    unread-now : (a n : Bool) → old.has w.acting.0 c ≡ a → is_empty told_first ≡ n
        → map (seen_fault files) (faults_at last ends.pragmas.unread c) ≡ (if a && n then map (seen_fault files) (faults_at ends.pragmas.middle ends.pragmas.read.faults.items c) else [])
    unread-now a n here is =
        ends.pragmas.told files c listed_mid ∙ (λ i. if (acting-mid ∙ here) i && (none-first ∙ is) i then map (seen_fault files) (faults_at ends.pragmas.middle ends.pragmas.read.faults.items c) else [])

    module _ (awaited : Awaited) (at : AwaitsAt old files w.runs.pragmas c awaited) where
      at-mid : AwaitsAt mid files w.runs.pragmas c awaited
      at-mid = awaits-kept ends.until stored.owns.runs.pragmas listed at

      read-at : AwaitsAt ends.pragmas.middle files ends.pragmas.read c (awaits awaited last_tokens)
      read-at = ends.pragmas.puts.awaits files c awaited listed_mid at-mid

      pub awaits-now : (a : Bool) → old.has w.acting.0 c ≡ a → AwaitsAt new files next.runs.pragmas c (if a then no_operator else awaits awaited last_tokens)
      awaits-now a here = awaits-kept ends.later ends.pragmas.leaves.owns (IsConfig-Keeps ends.until_last listed_mid)
          (subst (AwaitsAt last files next.runs.pragmas c) (ap (λ b. if b then no_operator else awaits awaited last_tokens) (acting-mid ∙ here))
          (ends.pragmas.leaves.at files c (awaits awaited last_tokens) (IsConfig-Keeps ends.pragmas.until listed_mid) read-at))

      pub put-now : shown (items_at new next.prepared.list c) ≡ shown (items_at old w.prepared.list c) ++ outside awaited last_tokens
      put-now =
          ap (λ ts. shown (items_at new ts c)) ends.pragmas.puts.is
          ∙ (items_seen-append new names files w.prepared.list kept_list c
          ∙ (λ i. shown (items_at-Keeps w.prepared.list c keeps stored.owns.prepared.list listed i)
          ++ (ap shown (items_at-Keeps kept_list c (Keeps-trans ends.pragmas.later ends.later) ends.pragmas.puts.part.own (IsConfig-Keeps ends.pragmas.until listed_mid)) ∙ ends.pragmas.puts.puts files c awaited listed_mid at-mid) i))

    -- what is left gathered and held
    gathered-left : (a : Bool) → old.has w.acting.0 c ≡ a → hidden_at new names files w.runs.sets next.runs.gathered c ≡ (if a then [] else gathered)
    gathered-left a here = ap (see files names w.runs.sets) (ends.gathered.at c listed ∙ ap (λ b. if not b then xs else []) here) ∙ by a
      where
        by : (b : Bool) → see files names w.runs.sets (if not b then xs else []) ≡ (if b then [] else gathered)
        by true = refl
        by false = refl

    pub held-left : (a : Bool) → old.has w.acting.0 c ≡ a → held_at new files next.runs.held.items c ≡ (if a then [] else held_at old files w.runs.held.items c)
    held-left a here =
        ap (map (moved_failure (seen_place files))) (sym (fault-items new next.runs.held.items c) ∙ (ends.held.at c listed ∙ ap (λ b. if not b then items_at old (fault_items w.runs.held.items) c else []) here)) ∙ by a
      where
        by : (b : Bool) → map (moved_failure (seen_place files)) (if not b then items_at old (fault_items w.runs.held.items) c else []) ≡ (if b then [] else held_at old files w.runs.held.items c)
        by true = refl
        by false = ap (map (moved_failure (seen_place files))) (fault-items old w.runs.held.items c)

    module _ (m : Machine) (simulates : Simulates old names files w c m) where
      kept : Simulates new names files w c m
      kept = simulates-kept keeps w stored.owns names files c m listed stored.table simulates

      faults-now : map (seen_fault files) (faults_at new next.prepared.faults.items c) ≡ option_to_list m.fault ++ told_more
      faults-now =
          ap (λ fs. map (seen_fault files) (faults_at new fs c)) ends.told
          ∙ (ap (map (seen_fault files)) (faults_at-append new w.prepared.faults.items ends.faults c)
          ∙ (map-append (seen_fault files) (faults_at new w.prepared.faults.items c) (faults_at new ends.faults c)
          ∙ (λ i. kept.prepared.fault i ++ map (seen_fault files) (faults_at-Keeps ends.faults c ends.later own-more (IsConfig-Keeps ends.until_last listed_mid) i))))

      -- the machine with another run and output, and maybe a fault
      abbrev become : List Token → List Token → Option Fault → Machine
      become run output fault = record m { state = record m.state { run = run; output = output }; fault = fault }

      simulates-next : (run output : List Token) (fault : Option Fault) → (is_none m.fault && none) ≡ is_none fault → (acts m && none) ≡ (m.active && is_none fault)
          → option_to_list m.fault ++ told_more ≡ option_to_list fault
          → (fault ≡ None → RunAt new names files now.runs now.prepared.list c (become run output fault).state) → Simulates new names files next c (become run output fault)
      simulates-next run output fault live acting fault_is text = subst (λ (v : Walk). Simulates new names files v c (become run output fault)) (sym ends.same) (record {
        active = kept.active;
        acting = ends.acting.at c (IsConfig-Keeps keeps listed) ∙ (ap (λ b. b && none) simulates.acting ∙ acting);
        sections = kept.sections;
        prepared = record { live = ends.live.at c (IsConfig-Keeps keeps listed) ∙ (ap (λ b. b && none) simulates.prepared.live ∙ live); fault = faults-now ∙ fault_is };
        text = text;
        macros = λ clean. kept.macros (none-before m.fault fault none live clean);
        once = λ clean. kept.once (none-before m.fault fault none live clean);
      })

      module _ (acting : acts m ≡ true) where
        here : old.has w.acting.0 c ≡ true
        here = simulates.acting ∙ acting

        no_fault : m.fault ≡ None
        no_fault = right-none m.active m.fault acting

        live : is_none m.fault ≡ true
        live = ap is_none no_fault

        run-left : run_at new next.runs.read c ≡ []
        run-left = ends.read.at c listed (simulates.prepared.live ∙ live) ∙ ap (λ b. if b then [] else run_at old w.runs.read c) here

        closes-ok : (output : List Token) → told_more ≡ [] → shown (items_at new next.prepared.list c) ≡ m.state.output ++ output → AwaitsAt new files next.runs.pragmas c no_operator → RunBecomes m.state.macros m.state.run (Ok output)
            → Arrives new names files next c (Closed m)
        closes-ok output nothing put at becomes =
            let all : none ≡ true = none-now ∙ ap is_empty nothing in
            record {
              machine = closing_run m (Ok output);
              done = record { answer = Ok output; expands = λ _. becomes; is = refl };
              simulates = subst (Simulates new names files next c) (ap (λ b. record m { state = if b then put_out m.state output else m.state }) (sym acting))
                  (simulates-next [] (m.state.output ++ output) m.fault (ap (λ b. is_none m.fault && b) all ∙ and-true (is_none m.fault)) (ap (λ b. acts m && b) all ∙ and-true (acts m))
                  (ap (λ fs. option_to_list m.fault ++ fs) nothing ∙ append-nil (option_to_list m.fault))
                  (λ _. record {
                    run = left-all (ap shown run-left);
                    awaited = no_operator;
                    awaits = at;
                    text = text-as (gathered-left true here) refl (held-left true here) (text-begins (put_out m.state output) [] (shown (items_at new next.prepared.list c)) refl put);
                  }));
            }

        closes-err : (fault : Fault) → told_more ≡ fault ∷ [] → RunBecomes m.state.macros m.state.run (Err fault) → Arrives new names files next c (Closed m)
        closes-err fault one becomes =
            let some : none ≡ false = none-now ∙ ap is_empty one in
            record {
              machine = closing_run m (Err fault);
              done = record { answer = Err fault; expands = λ _. becomes; is = refl };
              simulates = subst (Simulates new names files next c) (ap (λ b. record m { fault = if b then Some fault else m.fault }) (sym acting))
                  (simulates-next m.state.run m.state.output (Some fault) (ap (λ b. is_none m.fault && b) some ∙ and-false (is_none m.fault)) (ap (λ b. acts m && b) some ∙ (and-false (acts m) ∙ sym (and-false m.active)))
                  (ap (λ fs. option_to_list m.fault ++ fs) one ∙ ap (λ (o : Option Fault). option_to_list o ++ fault ∷ []) no_fault) (λ n. absurd (cc)));
            }

        module _ (awaited : Awaited) (at : AwaitsAt old files w.runs.pragmas c awaited) where
          -- what is told where the text has a fault, and where it has none
          told-err : (failure : Failure Place) → told_first ≡ failure ∷ [] → told_more ≡ fault_of failure ∷ []
          told-err failure one = told-now ∙ (λ i. map fault_of (one i) ++ unread-now true false here (ap is_empty one) i)

          told-ok : told_first ≡ [] → told_more ≡ option_to_list (fault_awaiting (awaits awaited last_tokens))
          told-ok nothing = told-now ∙ (λ i. map fault_of (nothing i) ++ (unread-now true true here (ap is_empty nothing) ∙ (read-at awaited at).faults) i)

          -- the text of the run, whose operators are carried out
          closes-text : (ts : List Token) → TextExpands m.state.macros m.state.run (Ok ts) → told_first ≡ [] → shown (items_at new next.prepared.list c) ≡ m.state.output ++ outside no_operator ts
              → awaits awaited last_tokens ≡ awaits no_operator ts → Arrives new names files next c (Closed m)
          closes-text ts expands nothing put same = by (fault_awaiting (awaits no_operator ts)) refl
            where
              by : (o : Option Fault) → fault_awaiting (awaits no_operator ts) ≡ o → Arrives new names files next c (Closed m)
              by None e = closes-ok (outside no_operator ts) (told-ok nothing ∙ (λ i. option_to_list ((ap fault_awaiting same ∙ e) i))) put (awaits-now awaited at true here)
                  (run_expanded ts expands (subst (CarriesOutPragmas ts) (ap (carried (outside no_operator ts)) e) (carries-out ts)))
              by (Some fault) e = closes-err fault (told-ok nothing ∙ (λ i. option_to_list ((ap fault_awaiting same ∙ e) i)))
                  (run_expanded ts expands (subst (CarriesOutPragmas ts) (ap (carried (outside no_operator ts)) e) (carries-out ts)))

          closes-as : TextEnds m.state gathered (shown (items_at old w.prepared.list c)) awaited (held_at old files w.runs.held.items c) → Arrives new names files next c (Closed m)
          closes-as (puts out all behind clean expands) = by (is_several xs) refl
            where
              by : (several : Bool) → is_several xs ≡ several → Arrives new names files next c (Closed m)
              by false few =
                  closes-text (map token_of (out ++ gathered)) (subst (λ r. TextExpands m.state.macros m.state.run (text_of_answer (after_these out r))) (few-closed files names w.runs.sets xs few) expands)
                  (told-first ∙ (λ i. unclosed-told true false here few i ++ (ended-told true here ∙ clean) i))
                  (put-now awaited at ∙ (ap (λ ts. shown (items_at old w.prepared.list c) ++ outside awaited ts) (tokens-told true false here few)
                  ∙ put-behind m.state gathered (shown (items_at old w.prepared.list c)) awaited out gathered all behind))
                  (ap (awaits awaited) (tokens-told true false here few) ∙ awaits-behind m.state gathered (shown (items_at old w.prepared.list c)) awaited out gathered behind)
              by true many =
                  let unclosed = several-closed files names w.runs.sets xs many in
                  closes-err (fault_of unclosed.0)
                  (told-err unclosed.0 (told-first ∙ ((λ i. unclosed-told true true here many i ++ (ended-told true here ∙ clean) i) ∙ (append-nil (map (moved_failure (seen_place files)) (map unclosed_at (take 1 xs))) ∙ unclosed.2))))
                  (run_not_expanded (fault_of unclosed.0) (subst (λ r. TextExpands m.state.macros m.state.run (text_of_answer (after_these out r))) unclosed.1 expands))
          closes-as (fails failure one nothing expands) =
              let few : is_several xs ≡ false = ap is_several (none-found (seen_hidden names w.runs.sets) xs (none-found (moved (seen_place files)) (map (seen_hidden names w.runs.sets) xs) nothing)) in
              closes-err (fault_of failure) (told-err failure (told-first ∙ (λ i. unclosed-told true false here few i ++ (ended-told true here ∙ one) i))) (run_not_expanded (fault_of failure) expands)

        text-here : TextEnds m.state gathered (shown (items_at old w.prepared.list c)) (simulates.text no_fault).awaited (held_at old files w.runs.held.items c)
        text-here =
            let macros : macros_at old names w.table c ≡ m.state.macros = λ i name. simulates.macros no_fault name i in
            text-ends (subst (λ ms. (gathered ≡ []) ⊎ ((held_at old files w.runs.held.items c ≡ []) × Expands place_alone ms gathered (closed gathered))) macros (settled-text old names files w c (settled c listed here))) (simulates.text no_fault).text

      idles : acts m ≡ false → Arrives new names files next c (Closed m)
      idles idle =
          let out = simulates.acting ∙ idle in
          let first : told_first ≡ [] = told-first ∙ (λ i. unclosed-told false (is_several xs) out refl i ++ ended-told false out i) in
          let nothing : told_more ≡ [] = told-now ∙ (λ i. map fault_of (first i) ++ unread-now false true out (ap is_empty first) i) in
          let all : none ≡ true = none-now ∙ ap is_empty nothing in
          let unread = tokens-told false (is_several xs) out refl in
          record {
            machine = closing_run m (Ok []);
            done = record { answer = Ok []; expands = λ acting. absurd (true≢false (sym acting ∙ idle)); is = refl };
            simulates = subst (Simulates new names files next c) (sym (inert_closing m (Ok []) idle))
                (simulates-next m.state.run m.state.output m.fault (ap (λ b. is_none m.fault && b) all ∙ and-true (is_none m.fault)) (ap (λ b. acts m && b) all ∙ and-true (acts m))
                (ap (λ fs. option_to_list m.fault ++ fs) nothing ∙ append-nil (option_to_list m.fault))
                (λ clean.
                let was = simulates.text clean in
                record {
                  run = left-as (ap shown (ends.read.at c listed (simulates.prepared.live ∙ ap is_none clean) ∙ ap (λ b. if b then [] else run_at old w.runs.read c) out)) was.run;
                  awaited = was.awaited;
                  awaits = subst (AwaitsAt new files next.runs.pragmas c) (ap (awaits was.awaited) unread) (awaits-now was.awaited was.awaits false out);
                  text = text-as (gathered-left false out) (put-now was.awaited was.awaits ∙ (ap (λ ts. shown (items_at old w.prepared.list c) ++ outside was.awaited ts) unread ∙ append-nil (shown (items_at old w.prepared.list c))))
                      (held-left false out) was.text;
                }));
          }

      closes-at : (b : Bool) → acts m ≡ b → Arrives new names files next c (Closed m)
      closes-at true acting = closes-as acting (simulates.text (no_fault acting)).awaited (simulates.text (no_fault acting)).awaits (text-here acting)
      closes-at false idle = idles idle

      -- what is put out is spelled on one line
      put-plain : IsPlainState m.state → (acting : acts m ≡ true) {awaited : Awaited} → TextEnds m.state gathered (shown (items_at old w.prepared.list c)) awaited (held_at old files w.runs.held.items c)
          → All (λ (t : base_token.Token). is_plain names t ≡ true) (items_at mid ends.e.list c)
      put-plain plain acting (puts out all behind clean expands) =
          let line = text-plain m.state plain.macros plain.run gathered _ _ _ clean (simulates.text (no_fault acting)).text in
          plain-seen names files (items_at mid ends.e.list c) _ (list-told true (is_several xs) (here acting) refl)
          (if-all PlainToken (not (is_several xs)) (map token_of gathered)
          (All-map PlainToken token_of gathered (All-weaker (IsOneLine place_alone) (λ (t : Hidden Place). has_no_newline t.spelling ≡ true) (λ t h. h.spelling) gathered line)))
      put-plain plain acting (fails failure one nothing expands) =
          plain-seen names files (items_at mid ends.e.list c) _ (list-told true (is_several xs) (here acting) refl)
          (if-all PlainToken (not (is_several xs)) (map token_of gathered) (subst (All PlainToken) (sym (ap (map token_of) nothing)) (All-nil PlainToken)))

    plain-at : PlainEach old names files w any_machine → (b : Bool) → old.has w.acting.0 c ≡ b → All (λ (t : base_token.Token). is_plain names t ≡ true) (items_at mid ends.e.list c)
    plain-at each true acting =
        let at = each.each c listed in
        let does = sym at.1.acting ∙ acting in
        put-plain at.0 at.1 at.3 does (text-here at.0 at.1 does)
    plain-at each false idle = plain-seen names files (items_at mid ends.e.list c) [] (list-told false (is_several xs) idle refl) (All-nil PlainToken)

  owned : Owns new next
  owned =
      let was = owns-kept keeps w stored.owns in
      let T : Cond × base_token.Token → Type 0 = λ item. IsCond new item.0.0 in
      let F : base.Fault → Type 0 = λ f. IsCond new f.cond.0 in
      subst (Owns new) (sym ends.same) (record {
        group = was.group;
        acting = ends.acting.own;
        sections = was.sections;
        runs = record { gathered = ends.gathered.part.own; pragmas = owns-pragmas ends.later ends.pragmas.leaves.owns; held = faults-All (λ (item : Cond × Failure base_place.Place). IsCond new item.0.0) next.runs.held.items ends.held.part.own; read = ends.read.own };
        once = was.once;
        prepared = record {
          list = subst (All T) (sym ends.pragmas.puts.is) (All-append T w.prepared.list kept_list was.prepared.list (λ k d h. (Keeps-trans ends.pragmas.later ends.later).own _ (ends.pragmas.puts.part.own k d h)));
          faults = subst (All F) (sym ends.told) (All-append F w.prepared.faults.items ends.faults was.prepared.faults (λ k d h. ends.later.own _ (own-more k d h)));
          live = ends.live.own;
        };
      })

  still-held : IsHeldWalk names (length files) any_token next
  still-held =
      let was = stored.held in
      let H : base_hidden.Hidden → Type 0 = λ h. IsHeldHidden names w.runs.sets h × (h.token.place.file.0 < length files) in
      let P : Cond × base_token.Token → Type 0 = λ item. IsPlaced names (length files) item.1 in
      let F : base.Fault → Type 0 = λ f. f.place.file.0 < length files in
      let IsThere : Failure base_place.Place → Type 0 = λ failure. failure.place.file.0 < length files in
      let failures : All (λ (item : Cond × Failure base_place.Place). item.1.place.file.0 < length files) (fault_items w.runs.held.items)
      = All-map (λ (item : Cond × Failure base_place.Place). item.1.place.file.0 < length files) (λ (f : base.Fault). (f.cond, seen_failure f)) w.runs.held.items was.runs.held in
      let listed : (fs : List base.Fault) → All (λ (item : Cond × Failure base_place.Place). item.1.place.file.0 < length files) (fault_items fs) → All F fs = faults-All (λ (item : Cond × Failure base_place.Place). item.1.place.file.0 < length files) in
      let placed = ends.closed.placed (length files) (λ k d h. (was.runs.gathered k d h).1) in
      let tokens = ends.closed.held names (λ k d h. (was.runs.gathered k d h).0.token) in
      let read_placed = ends.pragmas.puts.placed (length files) placed was.runs.pragmas in
      subst (IsHeldWalk names (length files) any_token) (sym ends.same) (record {
        runs = record {
          gathered = part-All H ends.gathered.part was.runs.gathered;
          held = listed next.runs.held.items (part-All IsThere ends.held.part failures);
          pragmas = ends.pragmas.leaves.placed (length files) read_placed;
          read = ended-tokens (All (IsPlaced names (length files))) ends.read (All-nil (IsPlaced names (length files))) was.runs.read;
        };
        list = subst (All P) (sym ends.pragmas.puts.is) (All-append P w.prepared.list kept_list was.list (part-All (IsPlaced names (length files)) ends.pragmas.puts.part (λ k d h. record { held = tokens k d h; file = placed k d h })));
        passed = λ k d h. refl;
        faults = subst (All F) (sym ends.told) (All-append F w.prepared.faults.items ends.faults was.faults (subst (All F) (sym ends.pragmas.is) (All-append F first_faults ends.pragmas.unread
            (All-append F ends.e.faults.items ends.ended (ends.closed.faults_placed (length files) (λ k d h. (was.runs.gathered k d h).1)) (listed ends.ended (part-All IsThere ends.ends.part failures)))
            (ends.pragmas.placed (length files) read_placed))));
        once = was.once;
      })

  pub ended-stage : LineStage files names old w [] names new next (λ config m n. Closed m n)
  ended-stage = record {
    simulates = record {
      owns = owned;
      table = subst (λ (v : Walk). IsTable new names v.table) (sym ends.same) (IsTable-Keeps keeps stored.table);
      at = λ c m listed simulates. closes-at c listed m simulates (acts m) refl;
    };
    held = still-held;
    plain = λ each was. subst (λ (v : Walk). AllPass (is_plain names) v.prepared.list) (sym ends.same)
        (subst (AllPass (is_plain names)) (sym ends.pragmas.puts.is) (All-append (λ (item : Cond × base_token.Token). is_plain names item.1 ≡ true) w.prepared.list kept_list was
        (part-All (λ (t : base_token.Token). is_plain names t ≡ true) ends.pragmas.puts.part (plain-by mid names ends.e.list (λ c listed. let was = IsConfig-kept ends.until listed in plain-at c was each (old.has w.acting.0 c) refl) ends.closed.some))));
    gathers = gathers-ended w next ends.read;
  }
