use Rattle.std.proofs.lemmas.Result.{err_from_is_err_and}
use Rattle.sc_core.proofs.Listing.{stopped-under, unlisted-under}
use Rattle.sc_core.proofs.texts.tokens_in.Goals as goal
use Rattle.sc_core.specs.Ordinary.{HasManyFootprints}
use Rattle.sc_space.specs.Seen.{seen_space}

pub returns-in_err-live-clause-error : goal.returns-in_err-live-clause-error
returns-in_err-live-clause-error g c =
    let holds = g.S.Source.holds c.args.src.now in
    let faults = g.S.Source.faults c.args.src.now in
    let p = err_from_is_err_and c.from_residual-in_err-live.result c.from_residual-in_err-live.ensures.1 in
    rw (p.1, p.2) (unlisted-under (λ s. HasManyFootprints s) holds faults faults (seen_space c.args.space.now) c.args.file.now c.in_err-live.field-0.0
    c.in_err-live.ensures.error)

pub returns-clause-error : goal.returns-clause-error
returns-clause-error g c =
    stopped-under (λ s. HasManyFootprints s) (g.S.Source.holds c.args.src.now) (g.S.Source.faults c.args.src.now) (g.S.Source.faults c.text_under.new.src)
    (seen_space c.args.space.now) c.args.file.now c.in-Err.stop
    c.in-Err.ensures.stops c.in_ok-stopped-in-Err.field-0 c.in_ok-stopped-in-Err.ensures

pub returns-in_err-stopped-in-Err-clause-error : goal.returns-in_err-stopped-in-Err-clause-error
returns-in_err-stopped-in-Err-clause-error g c =
    let p = err_from_is_err_and c.from_residual-in_err-stopped-in-Err.result c.from_residual-in_err-stopped-in-Err.ensures.1 in
    rw (p.1, p.2) tt
