use Rattle.sc_merge.proofs.KeyLemmas.{keys-alike}
use Rattle.sc_merge.proofs.keys.keys_tell_what_can_be_merged.Goals as goal

pub returns : goal.returns
returns c = keys-alike
