use Rattle.std.proofs.Common.{◌≡◌, Some, sym, arith}
use Rattle.lr_tables.specs.declared.grammar.Action.TheVariants.{Shift}
use Rattle.sc_base.proofs.Growth.{Extends-refl}
use Rattle.sc_fork.proofs.ChoiceLemmas.{adds-branches}
use Rattle.sc_fork.proofs.PieceLemmas.{if-made}
use Rattle.sc_fork.specs.Pieces.{IsPast}
use Rattle.sc_fork.proofs.ShiftLemmas.{bad-token-events, syntax-events, accepted-events, shifted-events, shifted-row, shift-found, shift-missing}
use Rattle.sc_fork.proofs.StepLemmas.{found-within}
use Rattle.sc_fork.specs.Seen.{action_in}
use Rattle.sc_fork.proofs.shifting.shift.Goals as goal
use Rattle.sc_fork.proofs.shifting.shift.Goals.{In-Some-state_after}

action-is : (c : In-Some-state_after) → action_in c.args.source.now c.args.parent.now c.args.at ≡ Some (Shift c.in-Some-state_after.state)
action-is c =
    shift-found c.args.source.now c.args.parent.now c.args.at c.in-Some.terminal.0 c.state_after.result c.in-Some-state_after.state (sym c.in-Some.ensures) c.state_after.ensures
    c.in-Some-state_after.is

pub returns-in_default-clause-piece : goal.returns-in_default-clause-piece
returns-in_default-clause-piece c =
    λ sets.
    bad-token-events sets c.args.trees.now c.args.trees.now (Extends-refl c.args.trees.now) c.args.source.now c.args.parent.now c.args.at c.requires.phase c.requires.no_reduction
    c.refused.result c.place.result c.refused.ensures c.place.ensures (sym c.in_default.ensures)

pub returns-in_default-state_after-clause-piece : goal.returns-in_default-state_after-clause-piece
returns-in_default-state_after-clause-piece c =
    λ sets.
    syntax-events sets c.args.trees.now c.args.trees.now (Extends-refl c.args.trees.now) c.args.source.now c.args.parent.now c.args.at c.requires.phase c.requires.no_reduction
    c.refused-in_default-state_after.result c.place-in_default-state_after.result c.in-Some.terminal.0 c.refused-in_default-state_after.ensures
    c.place-in_default-state_after.ensures (sym c.in-Some.ensures)
    (shift-missing c.args.source.now c.args.parent.now c.args.at c.in-Some.terminal.0 c.state_after.result (sym c.in-Some.ensures) c.state_after.ensures c.in_default-state_after.is)

pub returns-in_err-shifted-clause-branches : goal.returns-in_err-shifted-clause-branches
returns-in_err-shifted-clause-branches c = λ sets own. adds-branches sets c.args.trees.now c.shift_token.new.trees c.shift_token.ensures.choices own

pub returns-in_err-accept-clause-branches : goal.returns-in_err-accept-clause-branches
returns-in_err-accept-clause-branches c = λ sets own. adds-branches sets c.args.trees.now c.accept.new.trees c.accept.ensures.choices own

pub returns-in_ok-shifted-clause-piece : goal.returns-in_ok-shifted-clause-piece
returns-in_ok-shifted-clause-piece c =
    let item = found-within c.args.source.now.list.now c.args.at (omega arith) in
    if-made _ c.going.result _ c.going.ensures
    (λ sets.
    shifted-events sets c.args.trees.now c.shift_token.new.trees c.shift_token.ensures.grows c.args.source.now c.args.parent.now c.args.at c.requires.phase c.requires.no_reduction
    c.in_ok-shifted.shifted item.0 c.in-Some.terminal.0 c.in-Some-state_after.state (c.in_ok-shifted.ensures.shifted item.0 item.1) item.1 (sym c.in-Some.ensures)
    (action-is (goal.at.returns-in_ok-shifted-clause-piece c).In-Some-state_after))

pub returns-in_ok-shifted-clause-own : goal.returns-in_ok-shifted-clause-own
returns-in_ok-shifted-clause-own c =
    let item = found-within c.args.source.now.list.now c.args.at (omega arith) in
    λ sets own.
    if-made _ c.going.result _ c.going.ensures
    (shifted-row sets c.args.trees.now c.shift_token.new.trees c.shift_token.ensures.grows c.args.parent.now c.in_ok-shifted.shifted item.0 c.args.at c.in-Some.terminal.0
    c.in-Some-state_after.state (c.in_ok-shifted.ensures.shifted item.0 item.1) c.args.source.now c.requires.source (omega arith) (sym c.in-Some.ensures)
    (action-is (goal.at.returns-in_ok-shifted-clause-own c).In-Some-state_after) own)

pub returns-in_ok-shifted-clause-numbered : goal.returns-in_ok-shifted-clause-numbered
returns-in_ok-shifted-clause-numbered c =
    let item = found-within c.args.source.now.list.now c.args.at (omega arith) in
    λ numbers has. if-made _ c.going.result _ c.going.ensures ((c.in_ok-shifted.ensures.shifted item.0 item.1).numbered numbers has)

pub returns-in_ok-shifted-clause-branches : goal.returns-in_ok-shifted-clause-branches
returns-in_ok-shifted-clause-branches c = λ sets own. adds-branches sets c.args.trees.now c.shift_token.new.trees c.shift_token.ensures.choices own

pub returns-in_ok-accept-clause-piece : goal.returns-in_ok-accept-clause-piece
returns-in_ok-accept-clause-piece c =
    λ sets.
    accepted-events sets c.args.trees.now c.accept.new.trees c.accept.ensures.grows c.args.source.now c.args.parent.now c.args.at c.requires.phase c.requires.no_reduction
    c.in_ok-accept.field-0 c.in-Some.terminal.0 c.in-Some-state_after.state c.in_ok-accept.ensures.accepted (omega arith) (sym c.in-Some.ensures)
    (action-is (goal.at.returns-in_ok-accept-clause-piece c).In-Some-state_after)

pub returns-in_ok-accept-clause-branches : goal.returns-in_ok-accept-clause-branches
returns-in_ok-accept-clause-branches c = λ sets own. adds-branches sets c.args.trees.now c.accept.new.trees c.accept.ensures.choices own

pub returns-in_ok-shifted-clause-phase : goal.returns-in_ok-shifted-clause-phase
returns-in_ok-shifted-clause-phase c =
    let item = found-within c.args.source.now.list.now c.args.at (omega arith) in
    let past : IsPast c.args.source.now c.args.at c.in_ok-shifted.shifted =
    record { within = omega arith; terminal = c.in-Some.terminal.0; found = sym c.in-Some.ensures; phase = (c.in_ok-shifted.ensures.shifted item.0 item.1).phase } in
    if-made _ c.going.result _ c.going.ensures past
