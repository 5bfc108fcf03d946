use Rattle.std.proofs.Common.{length, refl, subst, sym}
use Rattle.sc_expand.proofs.FootprintLemmas.{stops-configs}
use Rattle.sc_expand.proofs.PlainTables.{entry_names, within-table}
use Rattle.sc_expand.proofs.SpanFootprints.{apart-stops}
use Rattle.sc_expand.specs.Seen.{AreHeld, provenance_of, stores}
use Rattle.sc_expand.specs.Settling.{IsSettled}
use Rattle.sc_prep.proofs.Facts.{Keeps-trans}
use Rattle.sc_prep.proofs.PragmaMoves.{owns-pragmas}
use Rattle.sc_prep.proofs.SettleMoves.{all-settled, has-settled, settled-stage, stays-stage}
use Rattle.sc_prep.proofs.SharesSettled.{shares-settled}
use Rattle.sc_prep.proofs.Terms.{StopsBy, macros_at, seen_hidden}
use Rattle.sc_prep.proofs.walk.Walk.settle_in.Goals as goal

pub settle-requires-clause-held : goal.settle-requires-clause-held
settle-requires-clause-held g c =
    let w = c.args.self.now in
    let stored = c.requires.stored in
    subst (AreHeld (stores (g.C.Conditions.sets c.args.conds.now) c.args.names.now w.runs.sets) (length c.args.files.now)) (sym c.in_ok-list.ensures) (record {
      own = stored.owns.runs.gathered;
      held = λ k d h. let known = stored.held.runs.gathered k d h in record { held = known.0; file = known.1 };
    })

pub keep_settled-requires : goal.keep_settled-requires
keep_settled-requires g c =
    let keeps = c.in-Ok.ensures.keeps in
    record {
      own = λ k d h. keeps.own _ (c.requires.stored.owns.runs.gathered k d h);
      pragmas = owns-pragmas keeps c.requires.stored.owns.runs.pragmas;
      settled = record { done = c.in-Ok.ensures.held.own; held = c.in-Ok.ensures.held.held; faults = c.in-Ok.ensures.held.faults_own };
      live = keeps.own _ c.requires.asked.live.own;
      asked = keeps.own _ c.requires.asked.own;
    }

pub returns-in_ok-keep_settled-in-Ok-clause-stays : goal.returns-in_ok-keep_settled-in-Ok-clause-stays
returns-in_ok-keep_settled-in-Ok-clause-stays g c =
    let w = c.args.self.now in
    let old = g.C.Conditions.sets c.args.conds.now in
    let x = c.in-Ok.ensures in
    let settles = subst (λ list. IsSettled (stores old c.args.names.now w.runs.sets) (stores (g.C.Conditions.sets c.settle.new.conds) c.settle.new.names c.settle.new.sets) c.args.files.now (macros_at old c.args.names.now w.table) list c.args.asked.0 c.in-Ok.settled)
    c.in_ok-list.ensures x.settles in
    settled-stage c.args.files.now x.keeps c.in_ok-keep_settled-in-Ok.ensures.keeps x.names w c.keep_settled.new.self x.sets c.args.live c.args.asked c.in-Ok.settled c.requires.stored c.requires.asked settles x.held
    c.in_ok-keep_settled-in-Ok.ensures.puts

pub returns-in_ok-keep_settled-in-Ok-clause-ends : goal.returns-in_ok-keep_settled-in-Ok-clause-ends
returns-in_ok-keep_settled-in-Ok-clause-ends g c = λ _.
    let w = c.args.self.now in
    let old = g.C.Conditions.sets c.args.conds.now in
    let x = c.in-Ok.ensures in
    let settles = subst (λ list. IsSettled (stores old c.args.names.now w.runs.sets) (stores (g.C.Conditions.sets c.settle.new.conds) c.settle.new.names c.settle.new.sets) c.args.files.now (macros_at old c.args.names.now w.table) list c.args.asked.0 c.in-Ok.settled)
    c.in_ok-list.ensures x.settles in
    let later = c.in_ok-keep_settled-in-Ok.ensures in (
      has-settled c.args.files.now x.keeps later.keeps x.names w c.keep_settled.new.self x.sets c.args.live c.args.asked c.in-Ok.settled c.requires.stored c.requires.asked settles x.held later.puts,
      all-settled c.args.files.now x.keeps later.keeps x.names w c.keep_settled.new.self x.sets c.args.live c.args.asked c.in-Ok.settled c.requires.stored c.requires.asked settles x.held later.puts,
    )

pub returns-in_ok-keep_settled-in-Ok-clause-shares : goal.returns-in_ok-keep_settled-in-Ok-clause-shares
returns-in_ok-keep_settled-in-Ok-clause-shares g c = λ _.
    let w = c.args.self.now in
    let old = g.C.Conditions.sets c.args.conds.now in
    let x = c.in-Ok.ensures in
    let settles = subst (λ list. IsSettled (stores old c.args.names.now w.runs.sets) (stores (g.C.Conditions.sets c.settle.new.conds) c.settle.new.names c.settle.new.sets) c.args.files.now (macros_at old c.args.names.now w.table) list c.args.asked.0 c.in-Ok.settled)
    c.in_ok-list.ensures x.settles in
    let later = c.in_ok-keep_settled-in-Ok.ensures in
    shares-settled c.args.files.now x.keeps later.keeps x.names w c.keep_settled.new.self x.sets c.args.live c.args.asked c.in-Ok.settled c.requires.stored c.requires.asked settles x.held later.puts

pub returns-in-Err-BranchesFull-clause-stays : goal.returns-in-Err-BranchesFull-clause-stays
returns-in-Err-BranchesFull-clause-stays g c =
    let x = c.in-Err-BranchesFull.ensures in
    stays-stage c.args.files.now x.keeps x.names c.args.self.now x.sets c.requires.stored

pub returns-in_err-keep_settled-in-Ok-clause-keeps : goal.returns-in_err-keep_settled-in-Ok-clause-keeps
returns-in_err-keep_settled-in-Ok-clause-keeps g c = Keeps-trans c.in-Ok.ensures.keeps c.in_err-keep_settled-in-Ok.ensures.keeps

pub returns-in_ok-keep_settled-in-Ok-clause-keeps : goal.returns-in_ok-keep_settled-in-Ok-clause-keeps
returns-in_ok-keep_settled-in-Ok-clause-keeps g c = Keeps-trans c.in-Ok.ensures.keeps c.in_ok-keep_settled-in-Ok.ensures.keeps

pub returns-in-Err-BranchesFull-clause-full : goal.returns-in-Err-BranchesFull-clause-full
returns-in-Err-BranchesFull-clause-full g c = λ _.
    let w = c.args.self.now in
    let old = g.C.Conditions.sets c.args.conds.now in
    let names = c.args.names.now in
    let see = seen_hidden names w.runs.sets in
    let places = provenance_of c.args.files.now in
    let macros = macros_at old names w.table in
    let stop = c.in-Err-BranchesFull.field-0 in
    let at_name = apart-stops see places macros (entry_names names w.table.entries.entries) (within-table old names w.table) old c.args.asked.0 c.in_ok-list.list c.args.limit stop c.in-Err-BranchesFull.ensures.stops in
    (refl, (subst (StopsBy old.arities c.args.limit) c.in-Err-BranchesFull.field-0-is (stops-configs see places macros old c.args.asked.0 c.in_ok-list.list c.args.limit stop at_name)).1)
