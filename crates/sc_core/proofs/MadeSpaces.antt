-- The space of a file that is made.
use Rattle.std.proofs.Common.{◌≡◌, ◌<◌, ◌&&◌, ℕ, zero, suc, Bool, true, not, List, [], ◌∷◌, All, length, map, slice_get, slice_index, Some, inl, inr, refl, arith, codes}
use Rattle.std.specs.Prelude.{AllPairs}
use Rattle.std.proofs.lemmas.Bool.{and_parts, cases_order, not-true}
use Rattle.std.proofs.lemmas.Cmp.{nat_list_cmp_total, tied_itself}
use Rattle.std.proofs.lemmas.List.Elements.{All-cons, All-nil}
use Rattle.std.proofs.lemmas.List.Kept.{AllPairs-cons}
use Rattle.std.proofs.lemmas.Option.{get_or_from_slice_get, slice_get_within}
use Rattle.std.specs.Cmp.Lexicographic.{slice_cmp}
use Rattle.std.specs.List.{list_all, list_any}
use Rattle.std.specs.Ordering.{is_lt, nat_cmp}
use Rattle.std.specs.declared.cmp.Ordering.{Ordering}
use Rattle.std.specs.declared.cmp.Ordering.TheVariants.{Less, Equal, Greater}
use Rattle.c11_macros.specs.Macros.{predefined_names}
use Rattle.c11_tokens.specs.Lex.{is_identifier}
use Rattle.sc_core.specs.Made.{made_space, made_variable}
use Rattle.sc_model.specs.Bytes.{same_bytes}
use Rattle.sc_model.specs.Growth.{IsOneToOne}
use Rattle.sc_model.specs.Space.{VariableOption, arities_of, number, undefined}
use Rattle.sc_space.specs.Settings.{is_directory}
use Rattle.sc_space.specs.SpaceFile.{is_ascii_identifier, is_protected}
use Rattle.sc_space.specs.Sound.{IsBefore, IsInRange, IsSound, IsSoundVariable}
use Rattle.sc_text.specs.Text.{is_word}

-- ---- the names

abbrev is_sound_name : List ℕ → Bool
is_sound_name name = is_ascii_identifier name && is_identifier name && is_word name && not (is_protected name) && not (list_any (same_bytes name) predefined_names)

abbrev names : List (List ℕ)
names = codes "W0" ∷ codes "W1" ∷ codes "W2" ∷ codes "W3" ∷ codes "W4" ∷ codes "W5" ∷ codes "W6" ∷ codes "W7" ∷ []

sound-names : list_all is_sound_name names ≡ true
unfolding is_ascii_identifier is_protected
sound-names = refl

options-differ : IsOneToOne (undefined ∷ number 1 ∷ [])
options-differ = record { same = by }
  where
    by : (i j : ℕ) (x : VariableOption) → slice_get (undefined ∷ number 1 ∷ []) i ≡ Some x → slice_get (undefined ∷ number 1 ∷ []) j ≡ Some x → i ≡ j
    by zero zero x a b = refl
    by zero (suc zero) x a b = cc
    by zero (suc (suc j)) x a b = cc
    by (suc zero) zero x a b = cc
    by (suc zero) (suc zero) x a b = refl
    by (suc zero) (suc (suc j)) x a b = cc
    by (suc (suc i)) j x a b = cc

sound-variable : (name : List ℕ) → is_sound_name name ≡ true → IsSoundVariable (made_variable name)
sound-variable name is =
    let a = and_parts (is_ascii_identifier name && is_identifier name && is_word name && not (is_protected name)) (not (list_any (same_bytes name) predefined_names)) is in
    let b = and_parts (is_ascii_identifier name && is_identifier name && is_word name) (not (is_protected name)) a.0 in
    let d = and_parts (is_ascii_identifier name && is_identifier name) (is_word name) b.0 in
    let e = and_parts (is_ascii_identifier name) (is_identifier name) d.0 in
    record {
      ascii = e.0;
      identifier = e.1;
      word = d.1;
      unprotected = not-true (is_protected name) b.1;
      not_predefined = not-true (list_any (same_bytes name) predefined_names) a.1;
      some = omega arith;
      few = omega arith;
      different = options-differ;
      in_range = All-cons IsInRange undefined (number 1 ∷ []) tt (All-cons IsInRange (number 1) [] (omega arith) (All-nil IsInRange));
    }

sound-variables : (ns : List (List ℕ)) → list_all is_sound_name ns ≡ true → All IsSoundVariable (map made_variable ns)
sound-variables [] is = All-nil IsSoundVariable
sound-variables (n ∷ ns) is =
    let parts = and_parts (is_sound_name n) (list_all is_sound_name ns) is in
    All-cons IsSoundVariable (made_variable n) (map made_variable ns) (sound-variable n parts.0) (sound-variables ns parts.1)

-- ---- their order

abbrev is_before : List ℕ → List ℕ → Bool
is_before a b = is_lt (slice_cmp nat_cmp a b)

before-is : (o : Ordering) → is_lt o ≡ true → o ≡ Less
before-is Less is = refl
before-is Equal is = cc
before-is Greater is = cc

before-all : (n : List ℕ) (ns : List (List ℕ)) → list_all (is_before n) ns ≡ true → All (IsBefore n) ns
before-all n [] is = All-nil (IsBefore n)
before-all n (m ∷ ns) is =
    let parts = and_parts (is_before n m) (list_all (is_before n) ns) is in
    All-cons (IsBefore n) m ns (before-is (slice_cmp nat_cmp n m) parts.0) (before-all n ns parts.1)

abbrev are_ascending : List (List ℕ) → Bool
are_ascending [] = true
are_ascending (n ∷ ns) = list_all (is_before n) ns && are_ascending ns

ascending-is : (ns : List (List ℕ)) → are_ascending ns ≡ true → AllPairs IsBefore ns
ascending-is [] is = λ i j d low below. absurd (omega (arith, below))
ascending-is (n ∷ ns) is =
    let parts = and_parts (list_all (is_before n) ns) (are_ascending ns) is in
    AllPairs-cons IsBefore n ns (before-all n ns parts.0) (ascending-is ns parts.1)

ascending : AllPairs IsBefore names
ascending = ascending-is names refl

names-apart : IsOneToOne names
names-apart = record {
  same = λ i j x a b. elim (cases_order i j) [
    | inl same ↦ same
    | inr (inl before) ↦ absurd (never i j x a b before)
    | inr (inr after) ↦ absurd (never j i x b a after)
  ];
}
  where
    never : (i j : ℕ) (x : List ℕ) → slice_get names i ≡ Some x → slice_get names j ≡ Some x → i < j → ⊥
    never i j x a b low =
        let less : IsBefore x x = rw (get_or_from_slice_get names i x x a, get_or_from_slice_get names j x x b) at (ascending i j x low (slice_get_within names j x b)) in
        let tied = tied_itself nat_list_cmp_total x in
        cc

-- ---- the space

has-option : (v : ℕ) → v < length (arities_of made_space) → 0 < slice_index (arities_of made_space) v
has-option zero below = omega arith
has-option (suc zero) below = omega arith
has-option (suc (suc zero)) below = omega arith
has-option (suc (suc (suc zero))) below = omega arith
has-option (suc (suc (suc (suc zero)))) below = omega arith
has-option (suc (suc (suc (suc (suc zero))))) below = omega arith
has-option (suc (suc (suc (suc (suc (suc zero)))))) below = omega arith
has-option (suc (suc (suc (suc (suc (suc (suc zero))))))) below = omega arith
has-option (suc (suc (suc (suc (suc (suc (suc (suc v)))))))) below = absurd (omega (arith, below))

pub made-sound : IsSound made_space
made-sound = record {
  each = sound-variables names sound-names;
  ascending = ascending;
  names_differ = names-apart;
  has_options = record { each = has-option };
  few_variables = omega arith;
  branches_least = omega arith;
  branches_most = omega arith;
  include_depth_least = omega arith;
  include_depth_most = omega arith;
  directories = All-nil (λ (name : List ℕ). is_directory name ≡ true);
  date_long = refl;
  date_plain = refl;
  time_long = refl;
  time_plain = refl;
}
