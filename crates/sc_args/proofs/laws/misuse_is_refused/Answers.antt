use Rattle.sc_args.proofs.Examples.{help_flag, help_word, no_word, project_too_few, parse_too_many, unknown_word, word_too_few, word_too_many}
use Rattle.sc_args.proofs.laws.misuse_is_refused.Goals as goal

pub returns : goal.returns
returns c = record { none = no_word; unknown = unknown_word; few = word_too_few; few_to_project = project_too_few; many_to_parse = parse_too_many; many = word_too_many; help = help_flag; help_command = help_word }
