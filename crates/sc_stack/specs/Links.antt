-- The list that links of frames are.
use Rattle.std.specs.Prelude.{List, [], ◌∷◌}
use Rattle.sc_stack.specs.declared.link.Link.{Link}
use Rattle.sc_stack.specs.declared.link.Link.TheVariants.{Bottom, Frame'}
use Rattle.sc_stack.specs.Entries.{Entry}

abbrev pub entries_of : Link → List Entry
entries_of Bottom = []
entries_of (Frame' p below state value) = record { state = state; value = value } ∷ entries_of below
