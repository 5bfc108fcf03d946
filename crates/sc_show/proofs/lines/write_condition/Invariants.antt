use Rattle.std.proofs.Common.{◌≡◌, ◌++◌, map, take}
use Rattle.sc_model.specs.Space.{option_words}
use Rattle.sc_space.specs.Seen.{seen_option}
use Rattle.std.specs.List.{flat_map}
use Rattle.sc_text.specs.Text.{choice_text}
use Rattle.sc_show.specs.Prints.{choices_of}
use Rattle.sc_show.proofs.lines.write_condition.Given as goal

abbrev pub invariant-loop-index : goal.invariant-loop-index
invariant-loop-index l = l.text.items ≡ l.initial.text.items ++ flat_map choice_text (choices_of (option_words (map seen_option l.variable.options.items)) (take l.index l.children))
