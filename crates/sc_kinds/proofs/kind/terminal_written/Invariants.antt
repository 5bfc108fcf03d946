use Rattle.std.proofs.Common.{◌≡◌, ◌+◌, ◌-◌, take, drop}
use Rattle.std.specs.List.{position_from}
use Rattle.sc_grammar.specs.Terminals.{terminal_names}
use Rattle.sc_kinds.specs.Kinds.{terminal_written}
use Rattle.sc_model.specs.Bytes.{same_bytes}
use Rattle.sc_kinds.proofs.kind.terminal_written.Given as goal

abbrev pub invariant-loop-number : goal.invariant-loop-number
invariant-loop-number l =
    terminal_written l.fn.first.0 (l.fn.last.0 + 1 - l.fn.first.0) l.fn.spelling
    ≡ position_from (λ name. same_bytes name l.fn.spelling) l.number (take (l.fn.last.0 + 1 - l.number) (drop l.number terminal_names))
