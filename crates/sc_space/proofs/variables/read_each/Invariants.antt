use Rattle.std.proofs.Common.{◌≡◌, ◌++◌, drop, map, option_map}
use Rattle.sc_space.specs.Seen.{seen_option}
use Rattle.sc_space.specs.Texts.{AreTexts, Texts}
use Rattle.sc_space.specs.SpaceFile.{read_each}
use Rattle.toml.specs.View.{items_view}
use Rattle.sc_space.proofs.variables.read_each.Given as goal

abbrev pub invariant-loop-value : goal.invariant-loop-value
invariant-loop-value l =
    (texts : Texts) → AreTexts texts
    → read_each texts l.name (items_view l.values) ≡ option_map (λ os. map seen_option l.options.items ++ os) (read_each texts l.name (items_view (drop l.value-index l.values)))
