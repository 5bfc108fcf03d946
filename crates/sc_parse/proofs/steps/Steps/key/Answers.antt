use Rattle.sc_parse.proofs.steps.Steps.key.Goals as goal

-- src/steps.rt:145:5
pub returns : goal.returns
returns c =
    let found = c.in-Some.ensures.some in
    (found.0, (found.1.0, found.1.2))
