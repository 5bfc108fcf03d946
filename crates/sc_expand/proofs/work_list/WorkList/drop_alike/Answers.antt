use Rattle.std.proofs.Common.{◌≡◌, ◌++◌, [], arith, subst, sym}
use Rattle.sc_expand.proofs.Facts.{common_steps, nil_from_length}
use Rattle.sc_expand.proofs.Terms.{DropsAlike, items_behind}
use Rattle.sc_expand.proofs.work_list.WorkList.drop_alike.Goals as goal

pub returns-then-is_empty : goal.returns-then-is_empty
returns-then-is_empty c =
    let front = c.self.inside.front.items in
    let none : front ≡ [] = nil_from_length front (grind (arith, common_steps, c.self.inside.front.ok)) in
    let drops = c.drop_alike.ensures in
    subst (λ l. DropsAlike l (front ++ items_behind c.drop_alike.new.self)) c.self.view_is
    (subst (λ l. DropsAlike (l ++ items_behind c.self.inside.behind) (l ++ items_behind c.drop_alike.new.self)) (sym none) drops)
