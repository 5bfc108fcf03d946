-- What an entry says at a configuration.
use Rattle.std.proofs.Common.{◌≡◌, ℕ, ◌≤◌, ◌&&◌, Bool, true, false, List, [], ◌∷◌, length, slice_get, Option, Some, None, refl, arith, if◌then◌else◌}
use Rattle.std.specs.Option.{option_to_list}
use Rattle.sc_guarded.specs.Items.{items_at}
use Rattle.sc_macro.specs.declared.definition.Definition.{Definition}
use Rattle.sc_model.proofs.SetLemmas.{IsConfig-kept}
use Rattle.sc_model.specs.Sets.{Sets, IsConfig, Keeps}
use Rattle.sc_table.specs.Parts.{Part, AreSome, AreParts}

pub one_item : {A : Type 0} (xs : List A) → length xs ≤ 1 → xs ≡ option_to_list (slice_get xs 0)
one_item [] few = refl
one_item (x ∷ []) few = refl
one_item (x ∷ (y ∷ xs)) few = absurd (omega arith)

few_items : {A : Type 0} (b : Bool) (o : Option A) → length (if b then option_to_list o else []) ≤ 1
few_items true None = omega arith
few_items true (Some x) = omega arith
few_items false o = omega arith

-- parts that say at most one thing at each configuration
pub AreParts-items : {old new : Sets} {parts : List Part} → Keeps old new → AreSome new parts → (b : List ℕ → Bool) (o : List ℕ → Option Definition)
    → ((c : List ℕ) → IsConfig old.arities c → items_at new parts c ≡ (if b c then option_to_list (o c) else [])) → AreParts new parts
AreParts-items keeps some b o items = record { each = some; one = λ c listed. rw (items c (IsConfig-kept keeps listed)) (few_items (b c) (o c)) }

pub both_same : {A : Type 0} (b : Bool) (x : A) → (if b && b then x ∷ [] else []) ≡ (if b then option_to_list (Some x) else [])
both_same true x = refl
both_same false x = refl
