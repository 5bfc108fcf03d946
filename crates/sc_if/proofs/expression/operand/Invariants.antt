use Rattle.std.proofs.Common.{◌≡◌, [], map, drop}
use Rattle.c11_expressions.proofs.Reader.{run_tokens, wanting}
use Rattle.sc_if.proofs.expression.operand.Given as goal
use Rattle.sc_if.specs.Frames.{state_of}
use Rattle.sc_if.specs.Symbols.{symbol_at}

-- reading what is left comes to what reading all comes to
abbrev pub invariant-loop-token : goal.invariant-loop-token
invariant-loop-token l = run_tokens (wanting []) (map (symbol_at l.standard l.names) l.tokens) ≡ run_tokens (state_of l.frames.items l.last) (map (symbol_at l.standard l.names) (drop l.token-index l.tokens))
