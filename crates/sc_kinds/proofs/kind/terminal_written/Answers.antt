use Rattle.std.proofs.Common.{◌≡◌, ◌∙◌, true, false, sym, refl}
use Rattle.sc_grammar.specs.Terminals.{terminal_names}
use Rattle.sc_kinds.specs.Kinds.{terminal_written}
use Rattle.sc_model.specs.Bytes.{same_bytes}
use Rattle.sc_kinds.proofs.Written.{found, passed}
use Rattle.sc_kinds.proofs.kind.terminal_written.Goals as goal

pub loop-number-init : goal.loop-number-init
unfolding terminal_written
loop-number-init c = refl

pub returns-then-is_same : goal.returns-then-is_same
returns-then-is_same c =
    let same : same_bytes c.terminal_name.result.now c.args.spelling.now ≡ true = rw (← c.as_bytes.ensures.value) (sym c.is_same.ensures ∙ c.if-is_same.true) in
    sym (c.loop-number.invariant ∙ found (λ name. same_bytes name c.args.spelling.now) terminal_names c.loop-number.number c.args.last.0 c.terminal_name.result.now c.terminal_name.ensures c.loop-number-test.true same)

pub loop-number-preserved : goal.loop-number-preserved
loop-number-preserved c =
    let differs : same_bytes c.terminal_name.result.now c.args.spelling.now ≡ false = rw (← c.as_bytes.ensures.value) (sym c.is_same.ensures ∙ c.if-is_same.false) in
    c.loop-number.invariant ∙ passed (λ name. same_bytes name c.args.spelling.now) terminal_names c.loop-number.number c.args.last.0 c.terminal_name.result.now c.terminal_name.ensures c.loop-number-test.true differs
