use Rattle.std.proofs.Common.{◌≡◌, map, string_bytes, take}
use Rattle.sc_args.proofs.command.choices.Given as goal

abbrev pub invariant-loop-word : goal.invariant-loop-word
invariant-loop-word l = map string_bytes l.choices.items ≡ map (λ w. w.now) (take l.word-index l.words)
