use Rattle.std.proofs.Common.{◌≡◌, ◌∙◌, true, false, Some, None, if◌then◌else◌, sym, ap, rules}
use Rattle.sc_subst.proofs.parts.wants.Goals as goal

pub returns-in-Parameter : goal.returns-in-Parameter
returns-in-Parameter c = λ names.
    let apart : c.is_beside-beside.result ≡ false = search rules in
    rw c.in-Parameter.is (ap (λ b. if b then None else Some c.in-Parameter.parameter) (sym apart ∙ c.is_beside-beside.ensures names))

pub returns-in_default : goal.returns-in_default
returns-in_default c = λ names.
    let beside : c.is_beside-beside.result ≡ true = search rules in
    rw c.in-Parameter.is (ap (λ b. if b then None else Some c.in-Parameter.parameter) (sym beside ∙ c.is_beside-beside.ensures names))
