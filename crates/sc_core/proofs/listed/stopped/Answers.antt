use Rattle.std.proofs.Common.{subst, sym}
use Rattle.sc_base.specs.declared.stop.Stop.{Stop}
use Rattle.sc_core.proofs.listed.stopped.Goals as goal
use Rattle.sc_core.specs.declared.run_error.RunError.TheVariants as error
use Rattle.sc_core.specs.Texts.{TellsStop}

pub returns-in-ReadFault : goal.returns-in-ReadFault
returns-in-ReadFault c = subst (λ (stop : Stop). TellsStop stop error.ReadFault) (sym c.in-ReadFault.is) tt

pub returns-in-OutOfMemory : goal.returns-in-OutOfMemory
returns-in-OutOfMemory c = subst (λ (stop : Stop). TellsStop stop error.OutOfMemory) (sym c.in-OutOfMemory.is) tt

pub returns-in_ok-branches_line-in-BranchesFull : goal.returns-in_ok-branches_line-in-BranchesFull
returns-in_ok-branches_line-in-BranchesFull c =
    let line = c.in_ok-branches_line-in-BranchesFull.field-0 in
    subst (λ (stop : Stop). TellsStop stop (error.BranchesFull line)) (sym c.in-BranchesFull.is) c.in_ok-branches_line-in-BranchesFull.ensures
