-- Which arguments a template has a place for, and which are wanted.
use Rattle.std.proofs.Common.{◌≡◌, ℕ, zero, suc, ◌<◌, ◌≤◌, ◌+◌, ◌-◌, take, drop, Option, None, ◌==◌, ◌||◌, ◌&&◌, not, Bool, true, false, List, [], ◌∷◌, ◌++◌, map, filter, length, length-append, get_or, append_assoc, Result, Ok, if◌then◌else◌, inl, inr, refl, sym, ap, subst, ◌∙◌, arith}
use Rattle.std.specs.Prelude.{All, Contains, IfOk, Some}
use Rattle.std.specs.List.{list_any}
use Rattle.std.proofs.lemmas.Bool.{cases_Bool, eqb-true, or_parts, true≢false}
use Rattle.std.proofs.lemmas.Bool.Decides.{nat_tests}
use Rattle.std.proofs.lemmas.List.{append-nil}
use Rattle.std.proofs.lemmas.List.Elements.{All-cons, Contains-append_right}
use Rattle.c11_macros.specs.Hidden as model
use Rattle.c11_macros.specs.Hidden.{Failure}
use Rattle.c11_macros.specs.Results.{result_map}
use Rattle.c11_macros.specs.Substitution as substitution
use Rattle.c11_macros.specs.Substitution.{all_glued, argument, argument_pieces, begins_paste, each_once, filled, slots, tokens_of, wanted_places, with_space}
use Rattle.sc_base.specs.declared.id.Name.{Name}
use Rattle.sc_subst.specs.declared.part.Part.{Part}
use Rattle.sc_subst.specs.declared.part.Part.TheVariants as part
use Rattle.sc_subst.specs.declared.parts.ListPart.{ListPart}
use Rattle.sc_subst.specs.declared.parts.ListPart.TheVariants as list
use Rattle.sc_subst.specs.Halves.{IsWantedPart}
use Rattle.sc_subst.specs.ListParts.{is_paste_part, place_of, seen_list_part, with_one_more}
use Rattle.sc_subst.specs.Parts.{filled_in, seen_part}
use Rattle.sc_subst.proofs.Gluing.{from_at, tail_at}
use Rattle.sc_subst.proofs.Templates.{wanted_slots, wants_are}

abbrev has : List ℕ → ℕ → Bool
has [] n = false
has (m ∷ ms) n = (m == n) || has ms n

itself : (n : ℕ) → (n == n) ≡ true
itself n = grind (arith, nat_tests)

turned : (m n : ℕ) → (m == n) ≡ (n == m)
turned m n = elim (cases_Bool (n == m)) [
  | inl same ↦ (let is : (m == n) ≡ true = ap (λ k. m == k) (eqb-true n m same) ∙ itself m in is ∙ sym same)
  | inr apart ↦ (let is : (m == n) ≡ false = grind (arith, nat_tests) in is ∙ sym apart)
]

-- ---- the arguments tell which of them stand in a template

-- an argument for this parameter alone
abbrev only : {A : Type 0} → ℕ → A → List (List A)
only zero t = (t ∷ []) ∷ []
only (suc n) t = [] ∷ only n t

only_here : {A : Type 0} (n : ℕ) (t : A) → argument (only n t) n ≡ t ∷ []
only_here {A} zero t = refl
only_here {A} (suc n) t = only_here n t

only_elsewhere : {A : Type 0} (n m : ℕ) (t : A) → (m ≡ n → ⊥) → argument (only n t) m ≡ []
only_elsewhere {A} zero zero t h = absurd (h refl)
only_elsewhere {A} zero (suc m) t h = refl
only_elsewhere {A} (suc n) zero t h = refl
only_elsewhere {A} (suc n) (suc m) t h = only_elsewhere n m t (λ e. h (ap suc e))

differs : (m n : ℕ) → (m == n) ≡ false → m ≡ n → ⊥
differs m n h e = true≢false (sym (itself n) ∙ (ap (λ k. k == n) (sym e) ∙ h))

same_pieces : {P : Type 0} (raw : List (List (model.Hidden P))) (n : ℕ) (t : model.Hidden P) (b : Bool) (ss : List (substitution.Slot P)) → has (wanted_slots b ss) n ≡ false
    → filled raw (only n t) b ss ≡ filled raw [] b ss
same_pieces {P} raw n t b [] h = refl
same_pieces {P} raw n t b (substitution.filled_by u ∷ ss) h = ap (λ ps. substitution.piece u ∷ ps) (same_pieces raw n t false ss h)
same_pieces {P} raw n t b (substitution.for_paste ∷ ss) h = ap (λ ps. substitution.operator ∷ ps) (same_pieces raw n t true ss h)
same_pieces {P} raw n t b (substitution.for_parameter m space ∷ ss) h = at (b || begins_paste ss) (filled raw (only n t) false ss) (λ k. same_pieces raw n t false ss k) h
  where
    at : (beside : Bool) (ps : List (substitution.Piece P)) → (has (wanted_slots false ss) n ≡ false → ps ≡ filled raw [] false ss)
        → has (if beside then wanted_slots false ss else m ∷ wanted_slots false ss) n ≡ false
        → argument_pieces raw (only n t) beside m space ++ ps ≡ argument_pieces raw [] beside m space ++ filled raw [] false ss
    at true ps same k = ap (λ qs. argument_pieces raw [] true m space ++ qs) (same k)
    at false ps same k =
        let parts = or_parts (m == n) (has (wanted_slots false ss) n) k in
        ap (λ ts. substitution.pieces_of (with_space space ts) ++ ps) (only_elsewhere n m t (differs m n parts.0)) ∙ ap (λ qs. argument_pieces raw [] false m space ++ qs) (same parts.1)

abbrev pub has_place : {P : Type 0} → ℕ → List (substitution.Slot P) → Bool
has_place n [] = false
has_place n (substitution.filled_by t ∷ ss) = has_place n ss
has_place n (substitution.for_paste ∷ ss) = has_place n ss
has_place n (substitution.for_parameter m space ∷ ss) = (m == n) || has_place n ss

spaced_length : {P : Type 0} (space : Bool) (ts : List (model.Hidden P)) → length (with_space space ts) ≡ length ts
spaced_length {P} space [] = refl
spaced_length {P} space (t ∷ ts) = refl

argument_length : {P : Type 0} (xs : List (List (model.Hidden P))) (n : ℕ) (space : Bool) (ss : List (substitution.Slot P))
    → length (filled_in xs (substitution.for_parameter n space ∷ ss)) ≡ length (argument xs n) + length (filled_in xs ss)
argument_length {P} xs n space ss = length-append (with_space space (argument xs n)) (filled_in xs ss) ∙ ap (λ k. k + length (filled_in xs ss)) (spaced_length space (argument xs n))

not_shorter : {P : Type 0} (n : ℕ) (t : model.Hidden P) (ss : List (substitution.Slot P)) → length (filled_in [] ss) ≤ length (filled_in (only n t) ss)
not_shorter {P} n t [] = omega arith
not_shorter {P} n t (substitution.filled_by u ∷ ss) = let less = not_shorter n t ss in omega arith
not_shorter {P} n t (substitution.for_paste ∷ ss) = not_shorter n t ss
not_shorter {P} n t (substitution.for_parameter m space ∷ ss) =
    let less = not_shorter n t ss in
    let one = argument_length [] m space ss in
    let two = argument_length (only n t) m space ss in
    omega arith

longer : {P : Type 0} (n : ℕ) (t : model.Hidden P) (ss : List (substitution.Slot P)) → has_place n ss ≡ true → length (filled_in [] ss) < length (filled_in (only n t) ss)
longer {P} n t [] h = absurd (true≢false (sym h))
longer {P} n t (substitution.filled_by u ∷ ss) h = let less = longer n t ss h in omega arith
longer {P} n t (substitution.for_paste ∷ ss) h = longer n t ss h
longer {P} n t (substitution.for_parameter m space ∷ ss) h =
    let one = argument_length [] m space ss in
    let two = argument_length (only n t) m space ss in
    elim (cases_Bool (m == n)) [
      | inl same ↦ (
          let here : length (argument (only n t) m) ≡ 1 = ap length (ap (argument (only n t)) (eqb-true m n same) ∙ only_here n t) in
          let less = not_shorter n t ss in
          omega arith)
      | inr other ↦ (let less = longer n t ss (rw other at h) in omega arith)
    ]

-- ---- wanted arguments

contains_first : (x : ℕ) (xs : List ℕ) → Contains (x ∷ xs) x
contains_first x xs = (0, omega arith, refl)

contains_rest : (x y : ℕ) (xs : List ℕ) → Contains xs x → Contains (y ∷ xs) x
contains_rest x y xs h = Contains-append_right (y ∷ []) xs x h

contains_kept : (n m : ℕ) → (n == m) ≡ false → (xs : List ℕ) → has xs n ≡ true → has (filter (λ k. not (k == m)) xs) n ≡ true
contains_kept n m other [] h = absurd (true≢false (sym h))
contains_kept n m other (x ∷ xs) h = elim (cases_Bool (x == n)) [
  | inl same ↦ (
      let is : (x == m) ≡ false = ap (λ k. k == m) (eqb-true x n same) ∙ other in
      rw is (rw same refl))
  | inr apart ↦ (
      let rest : has (filter (λ k. not (k == m)) xs) n ≡ true = contains_kept n m other xs (rw apart at h) in
      elim (cases_Bool (x == m)) [ inl out ↦ rw out rest | inr kept ↦ rw kept (rw (apart, rest) refl) ])
]

has_once : (ns : List ℕ) (n : ℕ) → has ns n ≡ true → has (each_once ns) n ≡ true
has_once [] n h = absurd (true≢false (sym h))
has_once (m ∷ ns) n h = elim (cases_Bool (m == n)) [
  | inl same ↦ rw same refl
  | inr apart ↦ rw apart (contains_kept n m (turned n m ∙ apart) (each_once ns) (has_once ns n (rw apart at h)))
]

contains : (ns : List ℕ) (n : ℕ) → has ns n ≡ true → Contains ns n
contains [] n h = absurd (true≢false (sym h))
contains (m ∷ ns) n h = elim (cases_Bool (m == n)) [
  | inl same ↦ subst (Contains (m ∷ ns)) (eqb-true m n same) (contains_first m ns)
  | inr apart ↦ contains_rest n m ns (contains ns n (rw apart at h))
]

ok_same : {A E : Type 0} (x y : A) → (let r : Result A E = Ok x in r) ≡ Ok y → x ≡ y
ok_same {A} {E} x y h = cc

module _ {P : Type 0} (head : model.Hidden P) (raw : List (List (model.Hidden P))) (ps : List substitution.Part) (ss : List (substitution.Slot P)) (made : slots head raw ps ≡ Ok ss)
    (template : List (substitution.Slot P)) (is : (xs : List (List (model.Hidden P))) → result_map tokens_of (all_glued head (filled raw xs false ss)) ≡ Ok (filled_in xs template)) where
  only_wanted : (n : ℕ) → has_place n template ≡ true → has (wanted_slots false ss) n ≡ true
  only_wanted n h = elim (cases_Bool (has (wanted_slots false ss) n)) [
    | inl wanted ↦ wanted
    | inr other ↦ (
        let same : filled_in (only n head) template ≡ filled_in [] template =
        ok_same {E = Failure P} _ _ (sym (is (only n head)) ∙ (ap (λ qs. result_map tokens_of (all_glued head qs)) (same_pieces raw n head false ss other) ∙ is [])) in
        let less = longer n head template h in
        let lengths = ap length same in
        absurd (omega arith))
  ]

  pub place_wanted : (n : ℕ) → has_place n template ≡ true → Contains (each_once (wanted_places false ps)) n
  place_wanted n h =
      let wants = subst (λ r. IfOk r (λ ss. (wanted_slots false ss ≡ wanted_places false ps) × (begins_paste ss ≡ substitution.is_paste_next ps))) made (wants_are head raw false ps) in
      contains (each_once (wanted_places false ps)) n (has_once (wanted_places false ps) n (ap (λ ns. has ns n) (sym wants.0) ∙ only_wanted n h))

pub parts_wanted : (names : List (List ℕ)) (sets : List (List Name)) (wanted : List ℕ) (parts : List Part) → ((n : ℕ) → has_place n (map (seen_part names sets) parts) ≡ true → Contains wanted n)
    → All (IsWantedPart wanted) parts
parts_wanted names sets wanted [] h = λ k d less. absurd (omega arith)
parts_wanted names sets wanted (part.Token t ∷ ps) h = All-cons (IsWantedPart wanted) (part.Token t) ps tt (parts_wanted names sets wanted ps h)
parts_wanted names sets wanted (part.Argument n space ∷ ps) h =
    All-cons (IsWantedPart wanted) (part.Argument n space) ps (h n (rw (itself n) refl)) (parts_wanted names sets wanted ps (λ m later. h m (either (n == m) (has_place m (map (seen_part names sets) ps)) later)))
  where
    either : (a b : Bool) → b ≡ true → (a || b) ≡ true
    either true b k = refl
    either false b k = k

-- ---- wanted arguments, gathered one by one

neither_is : (a b : Bool) → (not b && not a) ≡ not (a || b)
neither_is true true = refl
neither_is true false = refl
neither_is false true = refl
neither_is false false = refl

-- those that are not there yet, behind those that are
abbrev pub added : List ℕ → List ℕ → List ℕ
added seen [] = seen
added seen (n ∷ ns) = added (with_one_more seen (Some n)) ns

any_has : (ns : List ℕ) (n : ℕ) → list_any (λ m. m == n) ns ≡ has ns n
any_has [] n = refl
any_has (m ∷ ms) n = ap (λ b. (m == n) || b) (any_has ms n)

-- names left out twice
left_out : (p q r : ℕ → Bool) → ((n : ℕ) → (q n && p n) ≡ r n) → (ns : List ℕ) → filter p (filter q ns) ≡ filter r ns
left_out p q r same [] = refl
left_out p q r same (n ∷ ns) = elim (cases_Bool (q n)) [
  | inl is ↦ (
      let here : p n ≡ r n = ap (λ b. b && p n) (sym is) ∙ same n in
      rw (is, here) (elim (cases_Bool (r n)) [ inl kept ↦ rw kept (ap (λ ms. n ∷ ms) (left_out p q r same ns)) | inr out ↦ rw out (left_out p q r same ns) ]))
  | inr other ↦ (
      let here : r n ≡ false = sym (same n) ∙ ap (λ b. b && p n) other in
      rw (other, here) (left_out p q r same ns))
]

has_push : (seen : List ℕ) (m n : ℕ) → has (seen ++ m ∷ []) n ≡ (has seen n || (m == n))
has_push [] m n = grind (arith, nat_tests)
has_push (x ∷ xs) m n = elim (cases_Bool (x == n)) [ inl here ↦ rw here refl | inr other ↦ rw other (has_push xs m n) ]

pub added_is : (seen ns : List ℕ) → added seen ns ≡ seen ++ filter (λ n. not (has seen n)) (each_once ns)
added_is seen [] = sym (append-nil seen)
added_is seen (m ∷ ns) = elim (cases_Bool (has seen m)) [
  | inl is ↦ rw (any_has seen m, is) (added_is seen ns ∙ ap (λ xs. seen ++ xs) (sym (left_out (λ n. not (has seen n)) (λ n. not (n == m)) (λ n. not (has seen n)) (known is) (each_once ns))))
  | inr other ↦ rw (any_has seen m, other) (added_is (seen ++ m ∷ []) ns
      ∙ (append_assoc seen (m ∷ []) (filter (λ n. not (has (seen ++ m ∷ []) n)) (each_once ns))
      ∙ ap (λ xs. seen ++ (m ∷ xs)) (sym (left_out (λ n. not (has seen n)) (λ n. not (n == m)) (λ n. not (has (seen ++ m ∷ []) n)) fresh (each_once ns)))))
]
  where
    known : has seen m ≡ true → (n : ℕ) → (not (n == m) && not (has seen n)) ≡ not (has seen n)
    known is n = elim (cases_Bool (n == m)) [
      | inl same ↦ rw same (sym (ap not (ap (has seen) (eqb-true n m same) ∙ is)))
      | inr apart ↦ rw apart refl
    ]

    fresh : (n : ℕ) → (not (n == m) && not (has seen n)) ≡ not (has (seen ++ m ∷ []) n)
    fresh n = ap (λ b. not b && not (has seen n)) (turned n m) ∙ (neither_is (has seen n) (m == n) ∙ ap not (sym (has_push seen m n)))

pub all_added : (ns : List ℕ) → added [] ns ≡ each_once ns
all_added ns = added_is [] ns ∙ every (each_once ns)
  where
    every : (ms : List ℕ) → filter (λ n. not (has [] n)) ms ≡ ms
    every [] = refl
    every (m ∷ ms) = ap (λ xs. m ∷ xs) (every ms)

wanted_step : (names : List (List ℕ)) (wanted : List ℕ) (behind : Bool) (p : ListPart) (ps : List substitution.Part)
    → added wanted (wanted_places behind (seen_list_part names p ∷ ps)) ≡ added (with_one_more wanted (place_of behind (seen_list_part names p) ps)) (wanted_places (is_paste_part p) ps)
wanted_step names wanted behind (list.Token item) ps = refl
wanted_step names wanted behind (list.Literal n hash) ps = refl
wanted_step names wanted behind (list.Parameter n space) ps = at (behind || substitution.is_paste_next ps)
  where
    at : (beside : Bool) → added wanted (if beside then wanted_places false ps else n ∷ wanted_places false ps) ≡ added (with_one_more wanted (if beside then None else Some n)) (wanted_places false ps)
    at true = refl
    at false = refl
wanted_step names wanted behind list.Paste ps = refl
wanted_step names wanted behind (list.Comma item n) ps = refl

-- one turn of the loop
pub wanted_turn : (names : List (List ℕ)) (parts : List ListPart) (i : ℕ) (d : ListPart) (wanted new : List ℕ) (behind next : Bool) (found : Option ℕ) → i < length parts
    → found ≡ place_of behind (seen_list_part names (get_or parts i d)) (map (seen_list_part names) (take (length parts - (i + 1)) (drop (i + 1) parts))) → new ≡ with_one_more wanted found
    → next ≡ is_paste_part (get_or parts i d)
    → added new (wanted_places next (map (seen_list_part names) (drop (i + 1) parts))) ≡ added wanted (wanted_places behind (map (seen_list_part names) (drop i parts)))
wanted_turn names parts i d wanted new behind next found h is more beside =
    let see : ListPart → substitution.Part = seen_list_part names in
    let rest : List ListPart = take (length parts - (i + 1)) (drop (i + 1) parts) in
    ap (λ ps. added new (wanted_places next (map see ps))) (sym (tail_at parts i))
    ∙ (ap (λ ns. added ns (wanted_places next (map see rest))) (more ∙ ap (with_one_more wanted) is)
    ∙ (ap (λ b. added (with_one_more wanted (place_of behind (see (get_or parts i d)) (map see rest))) (wanted_places b (map see rest))) beside
    ∙ (sym (wanted_step names wanted behind (get_or parts i d) (map see rest)) ∙ ap (λ ps. added wanted (wanted_places behind (map see ps))) (sym (from_at parts i d h)))))
