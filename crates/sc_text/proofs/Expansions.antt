-- Conditions that are split by a variable: one condition for each option, of what remains.
use Rattle.std.proofs.Common.{◌≡◌, ℕ, suc, ◌+◌, ◌<◌, ◌≤◌, List, [], ◌∷◌, length, All, refl, sym, ◌∙◌, ap, inl, inr, arith}
use Rattle.std.proofs.lemmas.Bool.{cases_lt}
use Rattle.std.proofs.lemmas.List.{get_or-set_same, get_or-set_other}
use Rattle.std.specs.List.{AllZip}
use Rattle.std.specs.Prelude.{slice_index, slice_set}
use Rattle.sc_text.specs.Layout.{sets_of, AreSame}
use Rattle.sc_model.specs.Sets.{Sets, IsConfig, IsCond, IsCanonical, DependsFrom}
use Rattle.sc_model.specs.Space.{Space, arities_of}
use Rattle.sc_text.specs.Answer.{Condition}
use Rattle.sc_text.specs.Text.{condition_at}
use Rattle.sc_model.proofs.SetLemmas.{IsConfig-set, has-DependsFrom, DependsFrom-same}

-- each option of the variable has a condition of a smaller number, which depends on later variables
-- alone
pub record IsExpansion (s : Sets) (a v : ℕ) (parts : List ℕ) : Type 0 where
  pub own : IsCond s a
  pub within : v < length s.arities
  pub long : length parts ≡ slice_index s.arities v
  pub smaller : All (λ part. part < a) parts
  pub later : All (λ part. DependsFrom s part (v + 1)) parts
  pub means : (c : List ℕ) → IsConfig s.arities c → s.has a c ≡ s.has (slice_index parts (slice_index c v)) c

module _ {s : Sets} {a v : ℕ} {parts : List ℕ} (split : IsExpansion s a v parts) where
  -- a part has the configurations that the whole has with its option
  pub has-part : (k : ℕ) → k < length parts → (c : List ℕ) → IsConfig s.arities c → s.has (slice_index parts k) c ≡ s.has a (slice_set c v k)
  has-part k below c listed =
      let in_range : k < slice_index s.arities v = omega (arith, split.long) in
      let within = split.within in
      let placed : v < length c = omega (arith, listed.long) in
      let chosen : slice_index (slice_set c v k) v ≡ k = get_or-set_same c v k 0 placed in
      sym (split.means (slice_set c v k) (IsConfig-set v k listed within in_range) ∙ ap (λ o. s.has (slice_index parts o) (slice_set c v k)) chosen
      ∙ has-DependsFrom c v k (split.later k 0 below) (omega arith) listed within in_range)

  -- it depends on no variable before its own
  pub DependsFrom-IsExpansion : DependsFrom s a v
  DependsFrom-IsExpansion = record {
    free = λ u below depends.
        let c = depends.config in
        let changed = slice_set c u depends.option in
        let there = IsConfig-set u depends.option depends.listed depends.within depends.in_range in
        let x = slice_index c v in
        let small : x < length parts = omega (arith, depends.listed.each v split.within, split.long) in
        let chosen : slice_index changed v ≡ x = get_or-set_other c u v depends.option 0 (omega arith) in
        let kept = has-DependsFrom c u depends.option (split.later x 0 small) (omega arith) depends.listed depends.within depends.in_range in
        depends.changes (split.means c depends.listed ∙ sym kept ∙ ap (λ o. s.has (slice_index parts o) changed) (sym chosen) ∙ sym (split.means changed there));
  }

  -- it depends on its own variable
  pub le-IsExpansion : {n : ℕ} → IsCanonical s → 0 < a → DependsFrom s a n → n ≤ v
  le-IsExpansion {n} canonical positive from = elim (cases_lt v n) [ inl below ↦ absurd (free below) | inr above ↦ above ]
    where
      -- without an option there is no configuration, and else the first part is the whole
      free : v < n → ⊥
      free below = elim (cases_lt 0 (length parts)) [
        | inl some ↦
            (let one = canonical.one (slice_index parts 0) a (record { made = omega (arith, split.smaller 0 0 some, split.own.made) }) split.own (record {
              at = λ c listed. has-part 0 some c listed ∙ has-DependsFrom c v 0 from below listed split.within (omega (arith, split.long));
            }) in
            omega (arith, split.smaller 0 0 some))
        | inr none ↦
            (let one = canonical.one a 0 split.own (record { made = omega (arith, split.own.made) }) (record { at = λ c listed. absurd (omega (arith, listed.each v split.within, split.long)) }) in
            omega arith)
      ]

-- the number of one text and that of the other stand for the same set
pub record Corresponds (space : Space) (conditions others : List Condition) (a b : ℕ) : Type 0 where
  pub below : a < length conditions
  pub below_too : b < length others
  pub same : AreSame space (condition_at conditions a) (condition_at others b)

module _ {space : Space} {conditions others : List Condition} {a b : ℕ} where
  Corresponds-sym : Corresponds space conditions others a b → Corresponds space others conditions b a
  Corresponds-sym c = record { below = c.below_too; below_too = c.below; same = record { at = λ config listed. sym (c.same.at config listed) } }

  -- from where a condition depends is seen in its configurations
  DependsFrom-Corresponds : {v : ℕ} → Corresponds space conditions others a b → DependsFrom (sets_of space conditions) a v → DependsFrom (sets_of space others) b v
  DependsFrom-Corresponds c from = DependsFrom-same refl (λ config listed. sym (c.same.at config listed)) from

-- a relation that holds index by index
AllZip-from_index : (R : ℕ → ℕ → Type 0) (xs ys : List ℕ) → length xs ≡ length ys → ((k : ℕ) → k < length xs → R (slice_index xs k) (slice_index ys k)) → AllZip R xs ys
AllZip-from_index R [] [] long each = tt
AllZip-from_index R [] (y ∷ ys) long each = absurd (omega arith)
AllZip-from_index R (x ∷ xs) [] long each = absurd (omega arith)
AllZip-from_index R (x ∷ xs) (y ∷ ys) long each = (each 0 (omega arith), AllZip-from_index R xs ys (omega arith) (λ k below. each (suc k) (omega arith)))

-- the same set is split in one way
module _ {space : Space} {conditions others : List Condition} {a b v w : ℕ} {parts pieces : List ℕ} (canonical : IsCanonical (sets_of space conditions)) (canonical_too : IsCanonical (sets_of space others))
    (split : IsExpansion (sets_of space conditions) a v parts) (split_too : IsExpansion (sets_of space others) b w pieces) (positive : 0 < a) (positive_too : 0 < b) (c : Corresponds space conditions others a b) where
  pub one_variable : v ≡ w
  one_variable =
      let low = le-IsExpansion split canonical positive (DependsFrom-Corresponds (Corresponds-sym c) (DependsFrom-IsExpansion split_too)) in
      let high = le-IsExpansion split_too canonical_too positive_too (DependsFrom-Corresponds c (DependsFrom-IsExpansion split)) in
      omega arith

  pub parts_correspond : AllZip (Corresponds space conditions others) parts pieces
  parts_correspond = AllZip-from_index (Corresponds space conditions others) parts pieces long each
    where
      long : length parts ≡ length pieces
      long = split.long ∙ ap (slice_index (arities_of space)) one_variable ∙ sym split_too.long

      each : (k : ℕ) → k < length parts → Corresponds space conditions others (slice_index parts k) (slice_index pieces k)
      each k below =
          let below_too : k < length pieces = omega (arith, long) in
          record {
            below = omega (arith, split.smaller k 0 below, split.own.made);
            below_too = omega (arith, split_too.smaller k 0 below_too, split_too.own.made);
            same = record {
              at = λ config listed.
                  let there = IsConfig-set v k listed split.within (omega (arith, split.long)) in
                  has-part split k below config listed ∙ c.same.at (slice_set config v k) there ∙ ap (λ u. condition_at others b (slice_set config u k)) one_variable
                  ∙ sym (has-part split_too k below_too config listed);
            };
          }
