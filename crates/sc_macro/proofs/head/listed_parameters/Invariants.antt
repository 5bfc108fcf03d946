use Rattle.std.proofs.Common.{length, ◌-◌, ◌≡◌, ◌≤◌, [], map, drop}
use Rattle.c11_macros.specs.Defines as model
use Rattle.sc_base.specs.Seen.{seen}
use Rattle.sc_macro.specs.Seen.{AreHeld, texts_of}
use Rattle.sc_macro.proofs.head.listed_parameters.Given as goal

-- what is left says behind the parameters so far what the whole says
abbrev pub invariant-loop-at : goal.invariant-loop-at
invariant-loop-at l = record {
  left : model.parameters_after l.standard (texts_of l.names l.parameters.keys) (map (seen l.names []) (drop l.at l.line)) ≡ model.parameters_after l.standard [] (map (seen l.names []) l.line);
  within : l.at ≤ length l.line;
  own : AreHeld l.names l.parameters.keys;
}

abbrev pub decreases-loop-at : goal.decreases-loop-at
decreases-loop-at l = length l.line - l.at
