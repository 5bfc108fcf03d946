use Rattle.std.proofs.lemmas.Result.{err_from_is_err_and}
use Rattle.sc_space.specs.SpaceFile.{with_settings}
use Rattle.sc_space.proofs.Reading.{refused_first}
use Rattle.sc_space.proofs.settings.with_settings.Goals as goal

pub returns-in_err-include_depth : goal.returns-in_err-include_depth
unfolding with_settings
returns-in_err-include_depth c =
    let p = err_from_is_err_and c.from_residual-in_err-include_depth.result c.from_residual-in_err-include_depth.ensures.1 in
    rw (p.1, p.2, c.in_ok-branches.ensures) (refused_first _ _ _ c.in_err-include_depth.ensures)

pub returns-in_err-include : goal.returns-in_err-include
unfolding with_settings
returns-in_err-include c =
    let p = err_from_is_err_and c.from_residual-in_err-include.result c.from_residual-in_err-include.ensures.1 in
    rw (p.1, p.2, c.in_ok-branches.ensures, c.in_ok-include_depth.ensures) (refused_first _ _ _ c.in_err-include.ensures)

pub returns-in_err-date : goal.returns-in_err-date
unfolding with_settings
returns-in_err-date c =
    let p = err_from_is_err_and c.from_residual-in_err-date.result c.from_residual-in_err-date.ensures.1 in
    rw (p.1, p.2, c.in_ok-branches.ensures, c.in_ok-include_depth.ensures, c.in_ok-include.ensures) (refused_first _ _ _ c.in_err-date.ensures)

pub returns-in_err-time : goal.returns-in_err-time
unfolding with_settings
returns-in_err-time c =
    let p = err_from_is_err_and c.from_residual-in_err-time.result c.from_residual-in_err-time.ensures.1 in
    rw (p.1, p.2, c.in_ok-branches.ensures, c.in_ok-include_depth.ensures, c.in_ok-include.ensures, c.in_ok-date.ensures) (refused_first _ _ _ c.in_err-time.ensures)

pub returns-in_err-standard : goal.returns-in_err-standard
unfolding with_settings
returns-in_err-standard c =
    let p = err_from_is_err_and c.from_residual-in_err-standard.result c.from_residual-in_err-standard.ensures.1 in
    rw (p.1, p.2, c.in_ok-branches.ensures, c.in_ok-include_depth.ensures, c.in_ok-include.ensures, c.in_ok-date.ensures, c.in_ok-time.ensures) (refused_first _ _ _ c.in_err-standard.ensures)

pub returns-in_err-valid : goal.returns-in_err-valid
unfolding with_settings
returns-in_err-valid c =
    let p = err_from_is_err_and c.from_residual-in_err-valid.result c.from_residual-in_err-valid.ensures.1 in
    rw (p.1, p.2, c.in_ok-branches.ensures, c.in_ok-include_depth.ensures, c.in_ok-include.ensures, c.in_ok-date.ensures, c.in_ok-time.ensures, c.in_ok-standard.ensures)
    (refused_first _ _ _ c.in_err-valid.ensures)

pub returns : goal.returns
unfolding with_settings
returns c =
    rw (c.in_ok-branches.ensures, c.in_ok-include_depth.ensures, c.in_ok-include.ensures, c.in_ok-date.ensures, c.in_ok-time.ensures, c.in_ok-standard.ensures, c.in_ok-valid.ensures)
