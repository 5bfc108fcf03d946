use Rattle.std.proofs.Common.{◌≡◌, ◌∙◌, ◌<◌, ◌||◌, [], ◌∷◌, Bool, length, ap, sym}
use Rattle.sc_expand.proofs.Facts.{All-cons, All-nil, held_common, held_union, or-false, same_sets, seen_common}
use Rattle.sc_expand.proofs.Terms.{Name, list_any, meet, same_bytes, set_at, texts_in}
use Rattle.sc_macro.specs.Seen.{AreHeld, text_of}
use Rattle.sc_expand.proofs.beginning.hide_of_call.Goals as goal

pub returns-clause-is : goal.returns-clause-is
returns-clause-is c =
    let names = c.args.names.now in
    let head = set_at c.args.sets.now c.args.head.hide.0 in
    let close = set_at c.args.sets.now c.args.close.hide.0 in
    let met = set_at c.meet.new.self c.in_ok-met.met.0 in
    let common : texts_in names met ≡ meet (texts_in names head) (texts_in names close) =
    seen_common names head close met c.requires.head.hide.held c.requires.close.hide.held c.in_ok-met.ensures.exact c.one_to_one.ensures in
    same_sets _ _ (λ text. c.in_ok-hide.ensures.exact (λ name. same_bytes (text_of names name) text) ∙ ap (λ s. s text || same_bytes (text_of names c.args.head.token.spelling) text) common)

pub returns-clause-held : goal.returns-clause-held
returns-clause-held c =
    let names = c.args.names.now in
    let spelling = c.args.head.token.spelling in
    let head = set_at c.args.sets.now c.args.head.hide.0 in
    let close = set_at c.args.sets.now c.args.close.hide.0 in
    let met = set_at c.meet.new.self c.in_ok-met.met.0 in
    let made = set_at c.with.new.self c.in_ok-hide.hide.0 in
    let P : Name → Type 0 = λ name. name.0 < length names in
    let held : AreHeld names met = held_common names head close met c.requires.head.hide.held c.requires.close.hide.held c.in_ok-met.ensures.exact in
    let one : AreHeld names (spelling ∷ []) = All-cons P spelling [] c.requires.head.token.spelling (All-nil P) in
    let exact : (test : Name → Bool) → list_any test made ≡ (list_any test met || list_any test (spelling ∷ [])) = λ test. c.in_ok-hide.ensures.exact test ∙ ap (λ b. list_any test met || b) (sym (or-false (test spelling))) in
    record { own = c.in_ok-hide.ensures.own; held = held_union names met (spelling ∷ []) made held one exact }
