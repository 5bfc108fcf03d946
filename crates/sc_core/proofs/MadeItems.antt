-- The items one after the other.
use Rattle.std.proofs.Common.{◌≡◌, ℕ, suc, ◌+◌, ◌/◌, ◌++◌, List, ◌∙◌, ap, sym}
use Rattle.std.proofs.lemmas.List.{append_assoc}
use Rattle.sc_core.specs.Made.{item_text, items_from, next}

-- one item more stands before the rest
pub item-more : (n m i x : ℕ) (file whole : List ℕ) → n ≡ suc m → file ++ items_from n i x ≡ whole → file ++ item_text i (next x / 65536) ++ items_from m (i + 1) (next x) ≡ whole
item-more n m i x file whole more is = append_assoc file (item_text i (next x / 65536)) (items_from m (i + 1) (next x)) ∙ ap (λ k. file ++ items_from k i x) (sym more) ∙ is
