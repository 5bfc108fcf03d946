use Rattle.std.proofs.Common.{◌≡◌, true, take}
use Rattle.c11_tokens.specs.Lex.{is_newline}
use Rattle.sc_lines.proofs.Splits.{is_open}
use Rattle.sc_lines.proofs.split.line_length.Given as goal

abbrev pub invariant-loop-i : goal.invariant-loop-i
invariant-loop-i l = is_open (λ t. is_newline t.kind) (take l.i l.tokens) ≡ true
