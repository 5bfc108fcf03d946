use Rattle.std.proofs.Common.{◌≡◌, ◌∙◌, ◌-◌, ℕ, zero, suc, sym, map, List, [], ◌∷◌, length, get_or, refl, arith}
use Rattle.c11_macros.specs.Defines as model
use Rattle.c11_macros.specs.Substitution as substitution
use Rattle.sc_macro.specs.declared.definition.Item.{Item}
use Rattle.sc_model.specs.Token.{Item as Seen}
use Rattle.sc_macro.specs.Seen.{seen_item}
use Rattle.sc_macro.proofs.fit.ends_with_paste.Goals as goal

-- the end of a list tells
ends_by_last : (f : Item → Seen) (list : List Item) (n : ℕ) (d : Item) → suc n ≡ length list → model.ends_with_paste (map f list) ≡ substitution.is_paste (f (get_or list n d))
ends_by_last f [] n d last = absurd (omega arith)
ends_by_last f (i ∷ []) zero d last = refl
ends_by_last f (i ∷ []) (suc n) d last = absurd (omega arith)
ends_by_last f (i ∷ (j ∷ is)) zero d last = absurd (omega arith)
ends_by_last f (i ∷ (j ∷ is)) (suc n) d last = ends_by_last f (j ∷ is) n d (omega arith)

pub returns-in-len1-up : goal.returns-in-len1-up
returns-in-len1-up c = c.is_paste.ensures ∙ sym (ends_by_last (seen_item c.args.names.now) c.args.list.now (length c.args.list.now - 1) _ (omega (arith, c.in-len1-up.len_at_least)))
