use Rattle.std.proofs.Common.{◌∙◌, ap}
use Rattle.sc_base.specs.declared.place.Place.{Place}
use Rattle.sc_prep.proofs.Facts.{Extends-trans, err_from_is_err_and}
use Rattle.sc_prep.proofs.MainFile.{paths-interned}
use Rattle.sc_prep.proofs.main_file.preprocess.Goals as goal

pub walk_main-requires-clause-end : goal.walk_main-requires-clause-end
walk_main-requires-clause-end g c = ap (λ (p : Place). p.file) c.in_ok-walk.ensures.end ∙ c.first_place.ensures.in_file

pub walk_main-requires-clause-live_own : goal.walk_main-requires-clause-live_own
walk_main-requires-clause-live_own g c = c.requires.live_own

pub walk_main-requires-clause-file : goal.walk_main-requires-clause-file
walk_main-requires-clause-file g c = c.in_ok-file.ensures.own

pub returns-clause-ordinary : goal.returns-clause-ordinary
returns-clause-ordinary g c = rw c.into_prepared.ensures (c.in_ok-walk_main.ensures.prepares c.args.main.now c.in_ok-file.ensures.named).ordinary

pub returns-clause-end_held : goal.returns-clause-end_held
returns-clause-end_held g c = rw c.into_prepared.ensures (c.in_ok-walk_main.ensures.prepares c.args.main.now c.in_ok-file.ensures.named).end_held

pub returns-clause-live : goal.returns-clause-live
returns-clause-live g c = rw c.into_prepared.ensures (c.in_ok-walk_main.ensures.prepares c.args.main.now c.in_ok-file.ensures.named).live_is

pub returns-clause-owns : goal.returns-clause-owns
returns-clause-owns g c = rw c.into_prepared.ensures (c.in_ok-walk_main.ensures.prepares c.args.main.now c.in_ok-file.ensures.named).owns

pub returns-clause-shown : goal.returns-clause-shown
returns-clause-shown g c = λ paths plain. rw c.into_prepared.ensures ((c.in_ok-walk_main.ensures.prepares c.args.main.now c.in_ok-file.ensures.named).shown (paths-interned c.in_ok-file.ensures.adds paths plain) plain)

pub returns-in_err-walk_main-clause-names : goal.returns-in_err-walk_main-clause-names
returns-in_err-walk_main-clause-names g c = Extends-trans c.before_text.ensures.names c.walk_main.ensures.reads.names

pub returns-in_err-walk_main-clause-files : goal.returns-in_err-walk_main-clause-files
returns-in_err-walk_main-clause-files g c = Extends-trans c.intern.ensures.grows c.walk_main.ensures.reads.files

pub returns-in_err-walk_main-clause-kept : goal.returns-in_err-walk_main-clause-kept
returns-in_err-walk_main-clause-kept g c = c.walk_main.ensures.reads.kept

pub returns-in_err-walk_main-clause-counted : goal.returns-in_err-walk_main-clause-counted
returns-in_err-walk_main-clause-counted g c = c.walk_main.ensures.reads.counted

pub returns-clause-names : goal.returns-clause-names
returns-clause-names g c = Extends-trans c.before_text.ensures.names c.walk_main.ensures.reads.names

pub returns-clause-files : goal.returns-clause-files
returns-clause-files g c = Extends-trans c.intern.ensures.grows c.walk_main.ensures.reads.files

pub returns-clause-kept : goal.returns-clause-kept
returns-clause-kept g c = c.walk_main.ensures.reads.kept

pub returns-clause-counted : goal.returns-clause-counted
returns-clause-counted g c = c.walk_main.ensures.reads.counted

pub returns-in_err-walk_main-clause-stops : goal.returns-in_err-walk_main-clause-stops
returns-in_err-walk_main-clause-stops g c =
    let p = err_from_is_err_and c.from_residual-in_err-walk_main.result c.from_residual-in_err-walk_main.ensures.1 in
    rw (p.1, p.2) c.in_err-walk_main.ensures.stops

pub returns-in_err-walk_main-clause-footprints : goal.returns-in_err-walk_main-clause-footprints
returns-in_err-walk_main-clause-footprints g c = λ outside holds.
    let p = err_from_is_err_and c.from_residual-in_err-walk_main.result c.from_residual-in_err-walk_main.ensures.1 in
    rw (p.1, p.2) (c.in_err-walk_main.ensures.footprints outside c.args.main.now holds c.in_ok-file.ensures.named)
