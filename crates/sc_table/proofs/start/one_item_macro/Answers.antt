use Rattle.std.proofs.Common.{◌≡◌, ◌∙◌, false, ◌++◌, ◌∷◌, [], sym, ap, subst, map, All, List, arith}
use Rattle.std.proofs.lemmas.List.Elements.{All-nil, All-cons}
use Rattle.std.specs.Prelude.{unwrap_or}
use Rattle.c11_macros.specs.Macros as model
use Rattle.sc_macro.specs.declared.definition.Item.{Item}
use Rattle.sc_macro.specs.Seen.{IsHeldItem, seen_item, text_of}
use Rattle.sc_model.specs.Token.{name_of}
use Rattle.sc_table.proofs.start.one_item_macro.Goals as goal

pub returns-clause-held : goal.returns-clause-held
returns-clause-held c =
    let names = c.intern.new.self in
    let spelling = c.in_ok-spelling.spelling in
    let item : Item = record { kind = c.args.kind; name = spelling; spelling = spelling; space = false } in
    let list : c.push.new.self.items ≡ item ∷ [] = c.in_ok-push.ensures.items ∙ ap (λ (is : List Item). is ++ item ∷ []) c.new-list.ensures.items in
    let text : text_of names spelling ≡ c.args.text.now = ap (λ t. unwrap_or t []) c.in_ok-spelling.ensures.named in
    let held : IsHeldItem names item = record { spelling = c.in_ok-spelling.ensures.own; name = c.in_ok-spelling.ensures.own; stands_for = text ∙ (sym c.requires.plain ∙ ap name_of (sym text)) } in
    record {
      name = omega (arith, c.requires.name, c.in_ok-spelling.ensures.grows.longer);
      form = tt;
      replacement = subst (All (IsHeldItem names)) (sym list) (All-cons (IsHeldItem names) item [] held (All-nil (IsHeldItem names)));
    }

pub returns-clause-seen : goal.returns-clause-seen
returns-clause-seen c =
    let names = c.intern.new.self in
    let spelling = c.in_ok-spelling.spelling in
    let item : Item = record { kind = c.args.kind; name = spelling; spelling = spelling; space = false } in
    let list : c.push.new.self.items ≡ item ∷ [] = c.in_ok-push.ensures.items ∙ ap (λ (is : List Item). is ++ item ∷ []) c.new-list.ensures.items in
    let text : text_of names spelling ≡ c.args.text.now = ap (λ t. unwrap_or t []) c.in_ok-spelling.ensures.named in
    ap (λ (is : List Item). model.object (model.items (map (seen_item names) is))) list ∙ ap (λ t. model.object (model.items (model.one_item c.args.kind t))) text
