use Rattle.std.proofs.Common.{◌∙◌, ◌++◌, ◌∷◌, [], All, List, map, take, get_or, ap, sym, subst}
use Rattle.std.proofs.lemmas.List.{map-append, take_more}
use Rattle.std.proofs.lemmas.List.Elements.{All-push}
use Rattle.sc_base.proofs.Growth.{Extends-trans}
use Rattle.sc_macro.specs.Seen.{IsHeldItem, seen_item}
use Rattle.sc_model.specs.Token as model
use Rattle.sc_space.specs.Seen as spelled
use Rattle.sc_table.proofs.Growth.{IsHeldItem-Extends, items-Extends}
use Rattle.sc_table.proofs.start.list_macro.Goals as goal

pub loop-item-preserved : goal.loop-item-preserved
loop-item-preserved c =
    let was = c.loop-item.invariant in
    let names = c.list_item.new.names in
    let items = c.loop-item.items.items in
    let i = c.in_ok-list_item.field-0 in
    let grows = c.in_ok-list_item.ensures.grows in
    let list = c.args.list.now in
    let n = c.loop-item.item-index in
    let x = c.item-item.result in
    record {
      grows = Extends-trans was.grows grows;
      held = subst (All (IsHeldItem names)) (sym c.in_ok-push.ensures.items) (All-push (IsHeldItem names) items i (λ k d h. IsHeldItem-Extends grows _ (was.held k d h)) c.in_ok-list_item.ensures.held);
      seen =
          ap (map (seen_item names)) c.in_ok-push.ensures.items
          ∙ (map-append (seen_item names) items (i ∷ [])
          ∙ (ap (λ (is : List model.Item). is ++ seen_item names i ∷ []) (items-Extends grows items was.held ∙ was.seen)
          ∙ (ap (λ (y : model.Item). map spelled.seen_item (take n list) ++ y ∷ []) (c.in_ok-list_item.ensures.seen ∙ ap spelled.seen_item c.item-item.is)
          ∙ sym (ap (map spelled.seen_item) (take_more list n x c.loop-item-test.true) ∙ map-append spelled.seen_item (take n list) (get_or list n x ∷ [])))));
    }
