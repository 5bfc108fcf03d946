use Rattle.std.proofs.Common.{◌++◌, ◌<◌, length, map, sym, ap, ◌∙◌, arith, take, take_all, ◌≡◌}
use Rattle.sc_show.proofs.LinesChoices.{choices_text-nil, choices_text-take, joined, word-at}
use Rattle.std.proofs.lemmas.List.{length-map}
use Rattle.sc_model.proofs.SpaceLemmas.{length-option_words}
use Rattle.sc_model.specs.Space.{option_words}
use Rattle.sc_space.specs.Seen.{seen_option}
use Rattle.sc_show.proofs.lines.write_condition.Goals as goal

pub loop-index-init : goal.loop-index-init
loop-index-init c = choices_text-nil _ _

pub loop-index-preserved : goal.loop-index-preserved
loop-index-preserved c =
    let options = c.args.variable.now.options.items in
    let within : c.loop-index.index < length options = omega (arith, c.requires) in
    choices_text-take (option_words (map seen_option options)) c.args.children.now c.loop-index.index _ _ _ _ (omega arith)
    (c.requires ∙ (sym (length-map options seen_option) ∙ sym (length-option_words (map seen_option options)))) (word-at options c.loop-index.index c.index.result.now within c.index.ensures)
    c.loop-index.invariant c.in_ok-write_choice.ensures

pub returns : goal.returns
returns c =
    let all : take c.loop-index.index c.args.children.now ≡ c.args.children.now = take_all _ _ (omega arith) in
    let chosen = rw all at c.loop-index.invariant in
    joined _ _ _ _ _ _ _ _ _ _ _ _ _ c.in_ok-extend_from_slice.ensures.items c.in_ok-write_number.ensures c.in_ok-extend_from_slice-2.ensures.items
    (c.in_ok-extend_from_slice-3.ensures.items ∙ ap (λ name. c.extend_from_slice-2.new.self.items ++ name) c.as_bytes.ensures.value) chosen c.in_ok-extend_from_slice-4.ensures.items
