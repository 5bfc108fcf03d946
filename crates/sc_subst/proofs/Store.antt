-- Each set of a store is one list that is kept once.
use Rattle.std.proofs.Common.{◌≡◌, ℕ, ◌<◌, ◌==◌, Bool, List, [], length, map, get_or, Some, Result, Ok, Err, arith, refl, sym, ap, subst, ◌∙◌}
use Rattle.std.specs.Prelude.{All, IfErr, IfOk}
use Rattle.std.specs.Bool.{Decides}
use Rattle.std.specs.Cmp.Lexicographic.{pointwise}
use Rattle.std.proofs.lemmas.Bool.Decides.{Decides-eqb}
use Rattle.std.proofs.lemmas.List.{get_or-map, length-map}
use Rattle.std.proofs.lemmas.List.Elements.{All-push}
use Rattle.std.proofs.lemmas.Option.{slice_get-get_or}
use Rattle.std.proofs.lemmas.Slice.Eq.{slice_eq-Decides}
use Rattle.sc_base.specs.declared.id.Name.{Name}
use Rattle.sc_base.specs.Interns.{Interns, known, fresh}
use Rattle.sc_base.proofs.Growth.{Extends-keeps}
use Rattle.sc_base.proofs.InternLemmas.{Extends-Interns, IsOneToOne-Interns}
use Rattle.sc_subst.specs.Hides.{set_at, IsStore, IsCanonical}
use Rattle.sc_subst.specs.Rising.{IsRising}
use Rattle.sc_subst.proofs.RisingLaws.{one_list}

abbrev pub same_sets : List Name → List Name → Bool
same_sets one two = pointwise (λ (a b : Name). a.0 == b.0) one two

name_Decides : (a b : Name) → Decides (a.0 == b.0) (a ≡ b)
name_Decides a b = (λ h. ap (λ n. record { 0 = n }) ((Decides-eqb a.0 b.0).0 h), λ e. (Decides-eqb a.0 b.0).1 (ap (λ (n : Name). n.0) e))

pub same_sets-Decides : (one two : List Name) → Decides (same_sets one two) (one ≡ two)
same_sets-Decides one two = slice_eq-Decides name_Decides one two (same_sets one two) refl

all_rising : {old new : List (List Name)} {item : List Name} → Interns old new item → IsRising item → All IsRising old → All IsRising new
all_rising {old} {new} {item} (known has same) up rising = subst (All IsRising) (sym same) rising
all_rising {old} {new} {item} (fresh lacks last) up rising = subst (All IsRising) (sym last) (All-push IsRising old item rising up)

pub IsStore-Interns : {old new : List (List Name)} {item : List Name} → Interns old new item → IsRising item → IsStore old → IsStore new
IsStore-Interns {old} {new} {item} adds up store = record {
  one = IsOneToOne-Interns adds store.one;
  rising = all_rising adds up store.rising;
  first = Extends-keeps 0 [] store.first (Extends-Interns adds);
}

pub IsCanonical-IsStore : (sets : List (List Name)) → IsStore sets → IsCanonical sets
IsCanonical-IsStore sets store = record {
  one = λ a b in_a in_b same.
      store.one.same a b (set_at sets a) (slice_get-get_or sets a [] in_a)
      (slice_get-get_or sets b [] in_b ∙ ap Some (sym (one_list (set_at sets a) (set_at sets b) (store.rising a [] in_a) (store.rising b [] in_b) same)));
}

-- the set of an id, read from the table
pub set_read : {V : Type 0} (view : V → List Name) (keys slice : List V) (i : ℕ) (v : V) → slice ≡ keys → i < length (map view keys) → v ≡ get_or slice i v → set_at (map view keys) i ≡ view v
set_read {V} view keys slice i v same h is =
    let within : i < length keys = omega (arith, h, length-map keys view) in
    get_or-map view keys i v [] within ∙ ap view (sym (is ∙ ap (λ xs. get_or xs i v) same))

pub if_ok : {A E : Type 0} (P Q : A → Type 0) (r : Result A E) → ((a : A) → P a → Q a) → IfOk r P → IfOk r Q
if_ok P Q (Ok a) f h = f a h
if_ok P Q (Err e) f h = tt

pub both_ok : {A E : Type 0} (P Q R : A → Type 0) (r : Result A E) → ((a : A) → P a → Q a → R a) → IfOk r P → IfOk r Q → IfOk r R
both_ok P Q R (Ok a) f h k = f a h k
both_ok P Q R (Err e) f h k = tt

pub if_err : {A E : Type 0} (P Q : E → Type 0) (r : Result A E) → ((e : E) → P e → Q e) → IfErr r P → IfErr r Q
if_err P Q (Ok a) f h = tt
if_err P Q (Err e) f h = f e h
