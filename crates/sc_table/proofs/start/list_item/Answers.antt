use Rattle.std.proofs.Common.{◌≡◌, ◌∙◌, [], ap, sym, arith}
use Rattle.std.specs.Prelude.{unwrap_or}
use Rattle.sc_macro.specs.Seen.{text_of}
use Rattle.sc_model.specs.Token.{Item, name_of}
use Rattle.sc_table.proofs.Starting.{name-text}
use Rattle.sc_table.proofs.start.list_item.Goals as goal

pub returns-clause-held : goal.returns-clause-held
returns-clause-held c =
    let grows = c.in_ok-spelling.ensures.grows in
    let name = name-text grows c.in_ok-name.name c.name_of.result.now c.in_ok-name.ensures.own c.in_ok-name.ensures.named in
    let spelling : text_of c.intern-2.new.self c.in_ok-spelling.spelling ≡ c.args.item.now.spelling.items = ap (λ t. unwrap_or t []) c.in_ok-spelling.ensures.named ∙ c.deref-2.ensures.value in
    record {
      spelling = c.in_ok-spelling.ensures.own;
      name = omega (arith, c.in_ok-name.ensures.own, grows.longer);
      stands_for = name ∙ (c.name_of.ensures ∙ (ap name_of c.deref.ensures.value ∙ sym (ap name_of spelling)));
    }

pub returns-clause-seen : goal.returns-clause-seen
returns-clause-seen c =
    let spelling : text_of c.intern-2.new.self c.in_ok-spelling.spelling ≡ c.args.item.now.spelling.items = ap (λ t. unwrap_or t []) c.in_ok-spelling.ensures.named ∙ c.deref-2.ensures.value in
    ap (λ text. record { kind = c.args.item.now.kind; spelling = text; space = c.args.item.now.space }) spelling
