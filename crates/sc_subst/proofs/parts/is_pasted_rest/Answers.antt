use Rattle.std.proofs.Common.{◌≡◌, ◌&&◌, ◌==◌, not, true, sym, eq-eqb}
use Rattle.sc_subst.proofs.parts.is_pasted_rest.Goals as goal

pub returns-then-rest-parameter : goal.returns-then-rest-parameter
returns-then-rest-parameter c = λ names.
    let same : true ≡ (c.args.rest == c.in-Paste-Parameter.parameter) = sym (eq-eqb c.args.rest c.in-Paste-Parameter.parameter c.if-rest-parameter.true) in
    rw (c.in-Paste-Parameter.is-0, c.in-Paste-Parameter.is-1) (λ i. same i && not (c.begins_paste.ensures names i))
