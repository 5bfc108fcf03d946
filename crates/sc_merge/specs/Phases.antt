-- The phase of a subparser.
use Rattle.c11_parsing.specs.Core as core
use Rattle.c11_parsing.specs.Core.{between, at, named}
use Rattle.sc_merge.specs.declared.subparser.Phase.{Phase}
use Rattle.sc_merge.specs.declared.subparser.Phase.TheVariants.{Between, At, Named}

abbrev pub phase_of : Phase → core.Phase
phase_of (Between i) = between i
phase_of (At i) = at i
phase_of (Named i) = named i
