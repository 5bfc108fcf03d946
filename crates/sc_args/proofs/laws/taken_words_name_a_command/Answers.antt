use Rattle.sc_args.proofs.Named.{taken_words_are_no_misuse}
use Rattle.sc_args.proofs.laws.taken_words_name_a_command.Goals as goal

pub returns : goal.returns
returns c = taken_words_are_no_misuse
