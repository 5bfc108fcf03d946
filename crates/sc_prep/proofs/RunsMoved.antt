-- Runs commute with a map of what is kept of the places of tokens, and use the same.
use Rattle.std.proofs.Common.{◌≡◌, ℕ, Bool, true, false, true≢false, List, [], ◌∷◌, ◌++◌, map, Result, Ok, Err, is_ok, not, cond, refl, sym, ap, subst, ◌∙◌, if◌then◌else◌}
use Rattle.c11_macros.specs.Expansion.{Case, Each, asked, case_of, list_of, next, none, stops}
use Rattle.c11_macros.specs.Hidden.{Failure, Hidden, Provenance}
use Rattle.c11_macros.specs.Macros.{Definition, Form, Macros, list_at}
use Rattle.c11_macros.specs.Results.{result_and_then, result_map}
use Rattle.c11_macros.specs.Runs.{End, Leaves, Passes, Runs, Uses, alone, bad_call, bad_count, bad_object, begins, beyond, call, fails, goes_on, is_last_name, object, open_call, over, stay, used_up, using, waits, within}
use Rattle.c11_macros.specs.Substitution as substitution
use Rattle.c11_macros.specs.Substitution.{Part, argument, is_deleted, is_empty, is_text_kind, kept, list_slots, parts_of, slot_of, slots, spellings, spellings_after, wanted_of, quoted_spelling}
use Rattle.c11_macros.specs.Trace.{Trace, after_step, both, looked_up_at, trace_each}
use Rattle.c11_tokens.specs.Relex.{relexed}
use Rattle.sc_expand.proofs.Facts.{EachBy, get_or-map, map-set}
use Rattle.sc_expand.proofs.PlainPlaces.{all, call_result-moved, carried, case_of-moved, expands-moved, moved_case, object_result-moved}
use Rattle.sc_expand.proofs.TakingParts.{none-found}
use Rattle.sc_expand.specs.Moved.{IsKept, moved, moved_answer, moved_failure}
use Rattle.sc_model.specs.Token.{Item}
use Rattle.sc_prep.proofs.Facts.{map-append}

-- ---- steps of which each may fail

abbrev choice : {A E : Type 0} → Bool → A → E → Result A E
choice b x e = if b then Ok x else Err e

ok-if : {A E : Type 0} (b : Bool) (x : A) (e : E) → is_ok (choice b x e) ≡ b
ok-if true x e = refl
ok-if false x e = refl

ok-map : {A B E : Type 0} (g : A → B) (r : Result A E) → is_ok (result_map g r) ≡ is_ok r
ok-map g (Ok x) = refl
ok-map g (Err e) = refl

ok-both : {A B C D E F : Type 0} (r : Result A E) (s : Result C F) (g : A → Result B E) (h : C → Result D F) → is_ok r ≡ is_ok s
    → ((a : A) (c : C) → is_ok (g a) ≡ is_ok (h c)) → is_ok (result_and_then g r) ≡ is_ok (result_and_then h s)
ok-both (Ok a) (Ok c) g h same each = each a c
ok-both (Ok a) (Err e) g h same each = absurd (true≢false same)
ok-both (Err e) (Ok c) g h same each = absurd (true≢false (sym same))
ok-both (Err e) (Err d) g h same each = refl

-- ---- which arguments are asked for

module _ {P Q : Type 0} (f : P → Q) where
  argument-moved : (raw : List (List (Hidden P))) (n : ℕ) → argument (map (all f) raw) n ≡ all f (argument raw n)
  argument-moved raw n = get_or-map (all f) raw n []

  behind-moved : (ts : List (Hidden P)) → spellings_after (all f ts) ≡ spellings_after ts
  behind-moved [] = refl
  behind-moved (t ∷ ts) = ap (λ s. (if t.space then 32 ∷ quoted_spelling t else quoted_spelling t) ++ s) (behind-moved ts)

  spelled-moved : (ts : List (Hidden P)) → spellings (all f ts) ≡ spellings ts
  spelled-moved [] = refl
  spelled-moved (t ∷ ts) = ap (λ s. quoted_spelling t ++ s) (behind-moved ts)

  module _ (head : Hidden P) (raw : List (List (Hidden P))) where
    literal-ok : {R : Type 0} (h : Hidden R) (space : Bool) (ts : List (Hidden R))
        → is_ok (substitution.stringized h space ts) ≡ is_text_kind (relexed (34 ∷ spellings ts ++ 34 ∷ []))
    literal-ok h space ts = ok-if (is_text_kind (relexed (34 ∷ spellings ts ++ 34 ∷ []))) _ _

    slot-ok : (p : Part) → is_ok (slot_of (moved f head) (map (all f) raw) p) ≡ is_ok (slot_of head raw p)
    slot-ok (substitution.token item) = refl
    slot-ok (substitution.literal n space) =
        ok-map substitution.filled_by (substitution.stringized (moved f head) space (argument (map (all f) raw) n))
        ∙ (literal-ok (moved f head) space (argument (map (all f) raw) n)
        ∙ (ap (λ s. is_text_kind (relexed (34 ∷ s ++ 34 ∷ []))) (ap spellings (argument-moved raw n) ∙ spelled-moved (argument raw n))
        ∙ sym (ok-map substitution.filled_by (substitution.stringized head space (argument raw n)) ∙ literal-ok head space (argument raw n))))
    slot-ok (substitution.parameter n space) = refl
    slot-ok substitution.paste = refl
    slot-ok (substitution.comma item n) = refl

    slots-ok : (ps : List Part) → is_ok (slots (moved f head) (map (all f) raw) ps) ≡ is_ok (slots head raw ps)
    slots-ok [] = refl
    slots-ok (p ∷ ps) =
        ok-both (slot_of (moved f head) (map (all f) raw) p) (slot_of head raw p)
        (λ s. result_map (λ rest. s ∷ rest) (slots (moved f head) (map (all f) raw) ps)) (λ s. result_map (λ rest. s ∷ rest) (slots head raw ps)) (slot-ok p)
        (λ a c. ok-map (λ rest. a ∷ rest) (slots (moved f head) (map (all f) raw) ps) ∙ (slots-ok ps ∙ sym (ok-map (λ rest. c ∷ rest) (slots head raw ps))))

    deleted-moved : (p : Part) → is_deleted (map (all f) raw) p ≡ is_deleted raw p
    deleted-moved (substitution.token item) = refl
    deleted-moved (substitution.literal n space) = refl
    deleted-moved (substitution.parameter n space) = refl
    deleted-moved substitution.paste = refl
    deleted-moved (substitution.comma item n) = ap is_empty (argument-moved raw n) ∙ empty-moved (argument raw n)
      where
        empty-moved : (ts : List (Hidden P)) → is_empty (all f ts) ≡ is_empty ts
        empty-moved [] = refl
        empty-moved (t ∷ ts) = refl

    kept-moved : (ps : List Part) → kept (map (all f) raw) ps ≡ kept raw ps
    kept-moved [] = refl
    kept-moved (p ∷ ps) =
        ap (λ b. cond (not b) (p ∷ kept (map (all f) raw) ps) (kept (map (all f) raw) ps)) (deleted-moved p)
        ∙ ap (λ qs. cond (not (is_deleted raw p)) (p ∷ qs) qs) (kept-moved ps)

    list-ok : (form : Form) (items : List Item) → is_ok (list_slots (moved f head) (map (all f) raw) form items) ≡ is_ok (list_slots head raw form items)
    list-ok form items =
        ap (λ ps. is_ok (slots (moved f head) (map (all f) raw) ps)) (kept-moved (parts_of form items)) ∙ slots-ok (kept raw (parts_of form items))

  abbrev moved_ask : ℕ × List (Hidden P) → ℕ × List (Hidden Q)
  moved_ask ask = (ask.0, all f ask.1)

  asks-moved : (arguments : List (List (Hidden P))) (ns : List ℕ)
      → map (λ n. (n, argument (map (all f) arguments) n)) ns ≡ map moved_ask (map (λ n. (n, argument arguments n)) ns)
  asks-moved arguments [] = refl
  asks-moved arguments (n ∷ ns) = λ i. (n, argument-moved arguments n i) ∷ asks-moved arguments ns i

  unexpanded-moved : (arguments : List (List (Hidden P))) → map {B = List (Hidden Q)} (λ a. []) (map (all f) arguments) ≡ map (all f) (map (λ a. []) arguments)
  unexpanded-moved [] = refl
  unexpanded-moved (a ∷ others) = ap (λ lists. [] ∷ lists) (unexpanded-moved others)

  if-moved : (b : Bool) (asks : List (ℕ × List (Hidden P))) → (if b then map moved_ask asks else []) ≡ map moved_ask (if b then asks else [])
  if-moved true asks = refl
  if-moved false asks = refl

  module _ {one : Provenance P} {two : Provenance Q} (by : IsKept one two f) (macros : Macros) where
    asked-moved : (d : Definition) (t : Hidden P) (arguments : List (List (Hidden P)))
        → asked two d (moved f t) (map (all f) arguments) ≡ map moved_ask (asked one d t arguments)
    asked-moved d t arguments =
        let list = list_of one d t in
        let ask : Bool → List (ℕ × List (Hidden Q)) → List (ℕ × List (Hidden Q)) = λ b asks. if b then asks else [] in
        ap
        (λ items. ask (is_ok (list_slots (moved f t) (map (all f) arguments) d.form items)) (map (λ n. (n, argument (map (all f) arguments) n)) (wanted_of d.form items)))
        (ap (list_at d.replacement) (by.place t.place))
        ∙ (ap (λ b. ask b (map (λ n. (n, argument (map (all f) arguments) n)) (wanted_of d.form list))) (list-ok t arguments d.form list)
        ∙ (ap (ask (is_ok (list_slots t arguments d.form list))) (asks-moved arguments (wanted_of d.form list))
        ∙ if-moved (is_ok (list_slots t arguments d.form list)) (map (λ n. (n, argument arguments n)) (wanted_of d.form list))))

    each-moved : {asks : List (ℕ × List (Hidden P))} {lists : List (List (Hidden P))} {r : Result (List (List (Hidden P))) (Failure P)} (each : Each one macros asks lists r)
        → EachBy two macros (map moved_ask asks) (map (all f) lists) (carried (map (all f)) (moved_failure f) r) (trace_each each)
    each-moved none = record { each = none; by = refl }
    each-moved (next {ask} {asks} {lists} {r} list first others) =
        let e = expands-moved f by macros first in
        let more =
        subst (λ l. EachBy two macros (map moved_ask asks) l (carried (map (all f)) (moved_failure f) r) (trace_each others)) (map-set (all f) lists ask.0 list)
        (each-moved others) in
        record { each = next (all f list) e.expands more.each; by = λ i. both (after_step (e.by i)) (more.by i) }
    each-moved (stops failure first) =
        let e = expands-moved f by macros first in record { each = stops (moved_failure f failure) e.expands; by = ap after_step e.by }

    called-moved : (d : Definition) (t : Hidden P) (arguments : List (List (Hidden P))) {results : Result (List (List (Hidden P))) (Failure P)} (each : Each one macros (asked one d t arguments) (map (λ a. []) arguments) results)
        → EachBy two macros (asked two d (moved f t) (map (all f) arguments)) (map (λ a. []) (map (all f) arguments)) (carried (map (all f)) (moved_failure f) results) (trace_each each)
    called-moved d t arguments {results} each =
        subst
        (λ (p : List (ℕ × List (Hidden Q)) × List (List (Hidden Q))). EachBy two macros p.0 p.1 (carried (map (all f)) (moved_failure f) results) (trace_each each))
        (λ i. (sym (asked-moved d t arguments) i, sym (unexpanded-moved arguments) i)) (each-moved each)

-- ---- runs

module _ {P Q : Type 0} (f : P → Q) where
  abbrev pub moved_end : End P → End Q
  moved_end (over after) = over (all f after)
  moved_end (waits name rest) = waits (moved f name) (all f rest)
  moved_end (fails failure) = fails (moved_failure f failure)

  abbrev pub moved_uses : Uses P → Uses Q
  moved_uses u = using (all f u.taken) u.looked_up

  leaves-moved : {source after left rest taken : List (Hidden P)} → Leaves source after left rest taken
      → Leaves (all f source) (all f after) (all f left) (all f rest) (all f taken)
  leaves-moved {source} (within {front} is) = within (ap (all f) is ∙ map-append (moved f) front source)
  leaves-moved {after = after} (beyond {taken} is some) = beyond (ap (all f) is ∙ map-append (moved f) taken after) (λ none. some (none-found (moved f) taken none))

  last-moved : (macros : Macros) (t : Hidden P) (rest : List (Hidden P)) → is_last_name macros (moved f t) (all f rest) ≡ is_last_name macros t rest
  last-moved macros t [] = refl
  last-moved macros t (u ∷ us) = refl

module _ {P Q : Type 0} (f : P → Q) {one : Provenance P} {two : Provenance Q} (by : IsKept one two f) (macros : Macros) where
  case-moved : (t : Hidden P) (front source : List (Hidden P)) {k : Case P} → case_of macros t (front ++ source) ≡ k
      → case_of macros (moved f t) (all f front ++ all f source) ≡ moved_case f k
  case-moved t front source is =
      ap (case_of macros (moved f t)) (sym (map-append (moved f) front source)) ∙ (case_of-moved f macros t (front ++ source) ∙ ap (moved_case f) is)

  name-moved : (t : Hidden P) (front source : List (Hidden P)) {b : Bool} → is_last_name macros t (front ++ source) ≡ b
      → is_last_name macros (moved f t) (all f front ++ all f source) ≡ b
  name-moved t front source is = ap (is_last_name macros (moved f t)) (sym (map-append (moved f) front source)) ∙ (last-moved f macros t (front ++ source) ∙ is)

  abbrev Goes : (front source done : List (Hidden P)) → End P → Uses P → Type 0
  Goes front source done end u = Runs two macros (all f front) (all f source) (all f done) (moved_end f end) (moved_uses f u)

  waits-moved : {t : Hidden P} (front source : List (Hidden P))
      → Runs two macros (moved f t ∷ all f front) (all f source) [] (waits (moved f t) (all f front ++ all f source)) (using [] (looked_up_at t))
      → Goes (t ∷ front) source [] (waits t (front ++ source)) (using [] (looked_up_at t))
  waits-moved {t} front source run =
      subst (λ l. Runs two macros (moved f t ∷ all f front) (all f source) [] (waits (moved f t) l) (using [] (looked_up_at t)))
      (sym (map-append (moved f) front source)) run

  -- it goes the same way
  pub runs-moved : {front source done : List (Hidden P)} {end : End P} {u : Uses P} → Runs one macros front source done end u → Goes front source done end u
  runs-moved used_up = used_up
  runs-moved (stay {t} {front} {source} is free run) = stay (case-moved t front source is) (name-moved t front source free) (runs-moved run)
  runs-moved (alone {t} {front} {source} is) = waits-moved front source (alone (name-moved t front source is))
  runs-moved (open_call {t} {front} {source} is) = waits-moved front source (open_call (case-moved t front source is))
  runs-moved (object {t} {front} {source} {done} {end} {u} d body is made run) =
      object d (all f body) (case-moved t front source is) (object_result-moved f by d t ∙ ap (moved_answer f) made)
      (subst (λ l. Runs two macros l (all f source) (all f done) (moved_end f end) (moved_uses f u)) (map-append (moved f) body front) (runs-moved run))
  runs-moved (call {t} {front} {source} {done} {end} {u} d arguments close after left rest taken body results is leaves each made run) =
      let every = called-moved f by macros d t arguments each in
      let more =
      subst (λ l. Runs two macros l (all f rest) (all f done) (moved_end f end) (moved_uses f u)) (map-append (moved f) body left) (runs-moved run) in
      subst (λ (v : Uses Q). Runs two macros (moved f t ∷ all f front) (all f source) (all f done) (moved_end f end) v)
      (λ i. using (sym (map-append (moved f) taken u.taken) i) ((looked_up_at t ++ (every.by i).looked_up) ++ u.looked_up))
      (call d (map (all f) arguments) (moved f close) (all f after) (all f left) (all f rest) (all f taken) (all f body) (carried (map (all f)) (moved_failure f) results) (case-moved t front source is) (leaves-moved f leaves)
      every.each (call_result-moved f by d t arguments close results ∙ ap (moved_answer f) made) more)
  runs-moved (bad_object {t} {front} {source} d failure is made) =
      bad_object d (moved_failure f failure) (case-moved t front source is) (object_result-moved f by d t ∙ ap (moved_answer f) made)
  runs-moved (bad_count {t} {front} {source} after left rest taken is leaves) =
      bad_count (all f after) (all f left) (all f rest) (all f taken) (case-moved t front source is) (leaves-moved f leaves)
  runs-moved (bad_call {t} {front} {source} d arguments close after left rest taken results failure is leaves each made) =
      let every = called-moved f by macros d t arguments each in
      subst
      (λ (x : Trace). Runs two macros (moved f t ∷ all f front) (all f source) [] (fails (moved_failure f failure)) (using (all f taken) (looked_up_at t ++ x.looked_up)))
      every.by
      (bad_call d (map (all f) arguments) (moved f close) (all f after) (all f left) (all f rest) (all f taken) (carried (map (all f)) (moved_failure f) results) (moved_failure f failure) (case-moved t front source is) (leaves-moved f leaves)
      every.each (call_result-moved f by d t arguments close results ∙ ap (moved_answer f) made))

  pub passes-moved : {ts done left : List (Hidden P)} → Passes one macros ts done left → Passes two macros (all f ts) (all f done) (all f left)
  passes-moved begins = begins
  passes-moved {ts} {left = left} (goes_on {out} {done} u before run) =
      subst (λ l. Passes two macros (all f ts) l (all f left)) (sym (map-append (moved f) out done))
      (goes_on (moved_uses f u) (passes-moved before) (runs-moved run))
