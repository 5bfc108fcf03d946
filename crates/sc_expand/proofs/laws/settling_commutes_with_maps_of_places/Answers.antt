use Rattle.sc_expand.proofs.SettledPlaces.{held-moved, settles-moved}
use Rattle.sc_expand.proofs.laws.settling_commutes_with_maps_of_places.Goals as goal

pub returns-clause-settled : goal.returns-clause-settled
returns-clause-settled g c = λ one two f kept macros list done rest settles. settles-moved f kept macros settles

pub returns-clause-held : goal.returns-clause-held
returns-clause-held g c = λ one two f kept macros list failure holds. held-moved f kept macros holds
