use Rattle.std.proofs.Common.{◌∙◌, subst}
use Rattle.sc_core.proofs.Listing.{none-fails, none-listed}
use Rattle.sc_core.proofs.listed.listed.Goals as goal
use Rattle.sc_core.specs.Outcome.{unsaid_somewhere}
use Rattle.sc_prep.specs.Valid.{FailsValid}
use Rattle.sc_space.specs.Seen.{seen_fault, seen_space}
use Rattle.sc_space.specs.SpaceFile.{bad_valid}

pub returns-then-is_never-clause-error : goal.returns-then-is_never-clause-error
returns-then-is_never-clause-error g c =
    let fault = seen_fault c.args.none in
    let made = c.in-Ok.ensures in
    let none = none-listed made.valid (made.keeps.arities ∙ c.requires.arities) fault (c.is_never.ensures.0 c.if-is_never.true) in
    none-fails (seen_space c.args.space.now) fault fault none c.in_ok-bad_space-in-Ok.field-0 c.in_ok-bad_space-in-Ok.ensures

pub returns-in-Err-Fault-clause-error : goal.returns-in-Err-Fault-clause-error
returns-in-Err-Fault-clause-error g c =
    let space = seen_space c.args.space.now in
    let cause = c.in-Err-Fault.cause in
    let fails = subst (FailsValid space space.branches) c.in-Err-Fault.field-0-is c.in-Err-Fault.ensures.fails in
    none-fails space (seen_fault c.args.none) (bad_valid cause) (unsaid_somewhere cause fails)
    c.in_ok-bad_space-in-Err-Fault.field-0 c.in_ok-bad_space-in-Err-Fault.ensures
