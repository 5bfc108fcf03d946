-- Every list has an expansion, where finitely many names are defined.
--
-- A replacement hides one name more than what it came from, up to the tokens behind it. So the cuts
-- of a list grow or the lowest that changes sinks, and there are no more of them than names.
use Rattle.std.proofs.Common.{◌≡◌, ℕ, zero, suc, ◌<◌, ◌≤◌, ◌&&◌, ◌||◌, nat_le, Bool, true, false, List, [], ◌∷◌, ◌++◌, length, Some, Result, Ok, Err, refl, sym, ap, ◌∙◌, arith, if◌then◌else◌, map, is_ok, slice_set}
use Rattle.std.proofs.lemmas.Bool.{leb-true, leb-false, true≢false}
use Rattle.std.specs.List.{list_any}
use Rattle.c11_macros.specs.Expansion.{Case, stays, replaced, unclosed, misfit, called, case_of, list_of, asked, object_result, call_result, with_first, Expands, empty, stay, object, unterminated, miscounted, call, Each, none, next, stops, Rescans, on, refused, IsWithin}
use Rattle.c11_macros.specs.Hidden.{Hidden, HideSet, Provenance, Failure, failure_at, with_name, meet}
use Rattle.c11_macros.specs.Macros.{Macros, Definition}
use Rattle.c11_macros.specs.Substitution.{argument, list_slots, wanted_of}
use Rattle.c11_macros.proofs.Rows.{Cuts, uncut, cut, Fit, Row, AtMost, Sorted, is_cut, HasAll, kept, at_most-more, has-kept, has-more, has-meet, not-cut, Covered, object-covers, call-covers, row-replaced, AllRows, CaseRow, sound}
use Rattle.sc_model.proofs.ByteLemmas.{same_bytes-refl, same_bytes-true}
use Rattle.sc_model.specs.Bytes.{same_bytes}
use Rattle.sc_model.specs.declared.cause.Cause.TheVariants.{UnterminatedCall, WrongArguments}

-- ---- names that are no cut's

abbrev free : List (List ℕ) → Cuts → ℕ
free [] c = 0
free (name ∷ names) c = if is_cut name c then free names c else suc (free names c)

or-cases : (a b : Bool) (x y : ℕ) → y ≤ x → (if a || b then y else suc y) ≤ (if b then x else suc x)
or-cases true true x y h = h
or-cases true false x y h = omega arith
or-cases false true x y h = h
or-cases false false x y h = omega arith

free-at_most : (names : List (List ℕ)) (e : ℕ) (name : List ℕ) (c : Cuts) → free names (cut e name c) ≤ free names c
free-at_most [] e name c = omega arith
free-at_most (n ∷ names) e name c = or-cases (same_bytes n name) (is_cut n c) (free names c) (free names (cut e name c)) (free-at_most names e name c)

less-here : (a b : Bool) (x y : ℕ) → a ≡ true → b ≡ false → y ≤ x → (if a || b then y else suc y) < (if b then x else suc x)
less-here true false x y p q h = omega arith
less-here true true x y p q h = absurd (true≢false q)
less-here false b x y p q h = absurd (true≢false (sym p))

less-there : (a b : Bool) (x y : ℕ) → y < x → (if a || b then y else suc y) < (if b then x else suc x)
less-there true true x y h = h
less-there true false x y h = omega arith
less-there false true x y h = h
less-there false false x y h = omega arith

-- a cut of a new name leaves fewer
free-less : (names : List (List ℕ)) (e : ℕ) (name : List ℕ) (c : Cuts) → list_any (same_bytes name) names ≡ true → is_cut name c ≡ false → free names (cut e name c) < free names c
free-less [] e name c within new = absurd (true≢false (sym within))
free-less (n ∷ names) e name c within new = by (same_bytes name n) refl within (free-less names e name c)
  where
    by : (b : Bool) → same_bytes name n ≡ b → (b || list_any (same_bytes name) names) ≡ true → (list_any (same_bytes name) names ≡ true → is_cut name c ≡ false → free names (cut e name c) < free names c)
        → (if same_bytes n name || is_cut n c then free names (cut e name c) else suc (free names (cut e name c))) < (if is_cut n c then free names c else suc (free names c))
    by true same h later =
        let one : name ≡ n = same_bytes-true name n same in
        less-here (same_bytes n name) (is_cut n c) (free names c) (free names (cut e name c)) (ap (same_bytes n) one ∙ same_bytes-refl n) (ap (λ m. is_cut m c) (sym one) ∙ new) (free-at_most names e name c)
    by false differs h later = less-there (same_bytes n name) (is_cut n c) (free names c) (free names (cut e name c)) (later h new)

-- a row of no cuts
row-uncut : {P : Type 0} (ts : List (Hidden P)) → Row uncut ts
row-uncut [] = tt
row-uncut (t ∷ ts) = (tt, row-uncut ts)

or-left : (a b : Bool) → a ≡ true → (a || b) ≡ true
or-left a b h = ap (λ c. c || b) h

or-right : (a b : Bool) → b ≡ true → (a || b) ≡ true
or-right true b h = refl
or-right false b h = h

own-name : (set : HideSet) (name : List ℕ) → with_name set name name ≡ true
own-name set name = or-right (set name) (same_bytes name name) (same_bytes-refl name)

with-more : (set : HideSet) (own name : List ℕ) → set name ≡ true → with_name set own name ≡ true
with-more set own name h = or-left (set name) (same_bytes own name) h

module _ {P : Type 0} (provenance : Provenance P) (macros : Macros) (names : List (List ℕ)) (within : IsWithin names macros) where
  abbrev Answer : Type 0
  Answer = Result (List (Hidden P)) (Failure P)

  abbrev Lists : Type 0
  Lists = Result (List (List (Hidden P))) (Failure P)

  -- the list has an expansion
  abbrev pub Halts : List (Hidden P) → Type 0
  Halts ts = (r : Answer) × Expands provenance macros ts r

  abbrev HaltsRow : Cuts → Type 0
  HaltsRow c = (ts : List (Hidden P)) → Row c ts → Halts ts

  -- a defined name that is no cut's
  abbrev IsNew : List ℕ → Cuts → Type 0
  IsNew name c = (list_any (same_bytes name) names ≡ true) × (is_cut name c ≡ false)

  -- every row with a lower cut in the place of one of these halts
  abbrev Below : Cuts → Type 0
  Below uncut = Unit {0}
  Below (cut e n lower) = ((m : ℕ) (name : List ℕ) → m < e → IsNew name lower → AtMost m lower → HaltsRow (cut m name lower)) × Below lower

  -- every row with one cut more, at m, halts
  abbrev Above : ℕ → Cuts → Type 0
  Above m c = (name : List ℕ) → IsNew name c → AtMost m c → HaltsRow (cut m name c)

  -- so a replacement before m tokens halts
  jump : (c : Cuts) (m : ℕ) → Sorted c → Below c → Above m c → (name : List ℕ) → IsNew name (kept m c) → HaltsRow (cut m name (kept m c))
  jump uncut m sorted below above = λ name new. above name new tt
  jump (cut e n lower) m sorted below above = by (nat_le e m) refl (λ h. jump lower m sorted.1 below.1 (λ name new low. below.0 m name h new low))
    where
      by : (b : Bool) → nat_le e m ≡ b → (m < e → (name : List ℕ) → IsNew name (kept m lower) → HaltsRow (cut m name (kept m lower)))
          → (name : List ℕ) → IsNew name (if b then cut e n lower else kept m lower) → HaltsRow (cut m name (if b then cut e n lower else kept m lower))
      by true low later = λ name new. let h = leb-true e m low in above name new (h, at_most-more e m lower h sorted.0)
      by false high later = later (leb-false e m high)

  -- an argument halts, as each list does that is no longer
  argument-halts : (k : ℕ) (c : Cuts) (arguments : List (List (Hidden P))) (n : ℕ) → AllRows c k arguments → ((ts : List (Hidden P)) → length ts ≤ k → Row c ts → Halts ts) → Halts (argument arguments n)
  argument-halts k c [] n rows halts = halts [] (omega arith) tt
  argument-halts k c (first ∷ others) zero rows halts = halts first rows.1 rows.0
  argument-halts k c (first ∷ others) (suc n) rows halts = argument-halts k c others n rows.2 halts

  -- what is asked of the arguments halts
  each-halts : (arguments : List (List (Hidden P))) (ns : List ℕ) (lists : List (List (Hidden P))) → ((n : ℕ) → Halts (argument arguments n)) → (r : Lists) × Each provenance macros (map (λ n. (n, argument arguments n)) ns) lists r
  each-halts arguments [] lists halts = (Ok lists, none)
  each-halts arguments (n ∷ ns) lists halts = by (halts n).0 (halts n).1 (λ list. each-halts arguments ns (slice_set lists n list) halts)
    where
      by : (r : Answer) → Expands provenance macros (argument arguments n) r → ((list : List (Hidden P)) → (s : Lists) × Each provenance macros (map (λ n. (n, argument arguments n)) ns) (slice_set lists n list) s)
          → (s : Lists) × Each provenance macros (map (λ n. (n, argument arguments n)) (n ∷ ns)) lists s
      by (Ok list) d others = ((others list).0, next list d (others list).1)
      by (Err failure) d others = (Err failure, stops failure d)

  asked-halts : (d : Definition) (t : Hidden P) (arguments lists : List (List (Hidden P))) → ((n : ℕ) → Halts (argument arguments n)) → (r : Lists) × Each provenance macros (asked provenance d t arguments) lists r
  asked-halts d t arguments lists halts = by (is_ok (list_slots t arguments d.form (list_of provenance d t)))
    where
      by : (b : Bool) → (r : Lists) × Each provenance macros (if b then map (λ n. (n, argument arguments n)) (wanted_of d.form (list_of provenance d t)) else []) lists r
      by true = each-halts arguments (wanted_of d.form (list_of provenance d t)) lists halts
      by false = (Ok lists, none)

  -- a replacement by a name that is new among the cuts that are kept, all of whose names the set
  -- has
  goes : (c : Cuts) (name : List ℕ) (set : HideSet) (made : Answer) (after : List (Hidden P)) → Sorted c → Below c → Above (length after) c → IsNew name (kept (length after) c)
      → set name ≡ true → HasAll set (kept (length after) c) → Covered set made → Row c after → (r : Answer) × Rescans provenance macros made after r
  goes c name set (Err failure) after sorted below above new own has cover row = (Err failure, refused failure)
  goes c name set (Ok body) after sorted below above new own has cover row =
      let h = jump c (length after) sorted below above name new (body ++ after) (row-replaced c name set body after own has cover row) in
      (h.0, on h.1)

  -- rows of some length halt, where shorter ones do
  module _ (c : Cuts) (sorted : Sorted c) (below : Below c) (above : (m : ℕ) → Above m c) where
    new-name : (t : Hidden P) (n m : ℕ) (d : Definition) → m ≤ n → macros t.spelling ≡ Some d → t.hide t.spelling ≡ false → Fit t.hide n c → IsNew t.spelling (kept m c)
    new-name t n m d h defined out fit = (within.each t.spelling d defined, not-cut t.hide t.spelling (kept m c) out (has-kept t.hide n m c h sorted fit))

    head-halts : (t : Hidden P) (rest : List (Hidden P)) (k : Case P) → case_of macros t rest ≡ k → CaseRow macros c t (length rest) k → Fit t.hide (length rest) c → Row c rest
        → ((ts : List (Hidden P)) → length ts ≤ length rest → Row c ts → Halts ts) → Halts (t ∷ rest)
    head-halts t rest stays is at fit row shorter = let h = shorter rest (omega arith) row in (with_first t h.0, stay is h.1)
    head-halts t rest (replaced d) is at fit row shorter =
        let g =
        goes c t.spelling (with_name t.hide t.spelling) (object_result provenance d t) rest sorted below (above (length rest)) (new-name t (length rest) (length rest) d (omega arith) at.0 at.1 fit) (own-name t.hide t.spelling)
        (has-more t.hide (with_name t.hide t.spelling) (kept (length rest) c) (with-more t.hide t.spelling) (has-kept t.hide (length rest) (length rest) c (omega arith) sorted fit)) (object-covers provenance d t) row in
        (g.0, object d is g.1)
    head-halts t rest unclosed is at fit row shorter = (Err (failure_at UnterminatedCall t), unterminated is)
    head-halts t rest (misfit after) is at fit row shorter = (Err (failure_at WrongArguments t), miscounted after is)
    head-halts t rest (called d arguments close after) is at fit row shorter =
        let set = meet t.hide close.hide in
        let each = asked-halts d t arguments (map (λ a. []) arguments) (λ n. argument-halts (length rest) c arguments n at.2 shorter) in
        let has =
        has-meet t.hide close.hide (kept (length after) c) (has-kept t.hide (length rest) (length after) c at.5 sorted fit) (has-kept close.hide (length after) (length after) c (omega arith) sorted at.3) in
        let g =
        goes c t.spelling (with_name set t.spelling) (call_result provenance d t arguments close each.0) after sorted below (above (length after)) (new-name t (length rest) (length after) d at.5 at.0 at.1 fit) (own-name set t.spelling)
        (has-more set (with_name set t.spelling) (kept (length after) c) (with-more set t.spelling) has) (call-covers provenance d t arguments close each.0) at.4 in
        (g.0, call d arguments close after each.0 is each.1 g.1)

    lists : (n : ℕ) (ts : List (Hidden P)) → length ts ≤ n → Row c ts → Halts ts
    lists n [] h row = (Ok [], empty)
    lists zero (t ∷ ts) h row = absurd (omega arith)
    lists (suc n) (t ∷ ts) h row = head-halts t ts (case_of macros t ts) refl (sound macros c t ts row.1) row.0 row.1 (λ us short r. lists n us (omega arith) r)

  -- where rows with fewer free names halt, those with one cut more halt, the lower cuts first
  above-from : (f : ℕ) → ((c : Cuts) → free names c ≤ f → Sorted c → Below c → HaltsRow c) → (c : Cuts) → free names c ≤ suc f → Sorted c → Below c → (k m : ℕ) → m ≤ k → Above m c
  above-from f all c few sorted below zero m h name new low =
      all (cut m name c) (omega (arith, free-less names m name c new.0 new.1)) (low, sorted) (λ l other less. absurd (omega arith), below)
  above-from f all c few sorted below (suc k) m h name new low =
      all (cut m name c) (omega (arith, free-less names m name c new.0 new.1)) (low, sorted) (λ l other less. above-from f all c few sorted below k l (omega arith) other, below)

  all-halt : (f : ℕ) (c : Cuts) → free names c ≤ f → Sorted c → Below c → HaltsRow c
  all-halt zero c few sorted below ts row = lists c sorted below (λ m name new low. absurd (omega (arith, free-less names m name c new.0 new.1))) (length ts) ts (omega arith) row
  all-halt (suc f) c few sorted below ts row = lists c sorted below (λ m. above-from f (all-halt f) c few sorted below m m (omega arith)) (length ts) ts (omega arith) row

  pub halts : (ts : List (Hidden P)) → Halts ts
  halts ts = all-halt (free names uncut) uncut (omega arith) tt tt ts (row-uncut ts)
