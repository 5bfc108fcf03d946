use Rattle.sc_expand.proofs.PlainPlaces.{expands-moved}
use Rattle.sc_expand.proofs.laws.expansion_commutes_with_maps_of_places.Goals as goal

pub returns : goal.returns
returns g c = λ one two f kept macros ts r d. (expands-moved f kept macros d).expands
