use Rattle.std.proofs.Common.{rules, length, sym, subst}
use Rattle.sc_expand.proofs.PhaseStops.{turns-less, turns-rested, turns-start, turns-stop, turns-taken}
use Rattle.sc_expand.proofs.Facts.{Keeps-trans}
use Rattle.sc_expand.proofs.PhaseSegments.{run-segments}
use Rattle.sc_expand.proofs.PlainTables.{entry_names, within-table}
use Rattle.sc_expand.proofs.RunLemmas.{less-le, rested-le, running-done, running-is, running-out}
use Rattle.sc_expand.proofs.SeenLemmas.{Grows-trans, IsTable-Grows}
use Rattle.sc_expand.proofs.Terms.{Extends, macros_at, stores}
use Rattle.sc_expand.proofs.expansion.Expansion.run.Goals as goal

pub loop-self-init : goal.loop-self-init
loop-self-init g c =
    turns-start c.args.files.now (macros_at (g.C.Conditions.sets c.args.conds.now) c.args.names.now c.args.table.now) (stores (g.C.Conditions.sets c.args.conds.now) c.args.names.now c.args.self.now.sets) c.args.self.now
    c.requires.held c.requires.untouched

pub drop_refused-requires : goal.drop_refused-requires
drop_refused-requires g c = record { held = (c.loop-self.names, (length c.args.files.now, c.loop-self.invariant.running.held)) }

pub returns-in_err-drop_refused-clause-grows : goal.returns-in_err-drop_refused-clause-grows
returns-in_err-drop_refused-clause-grows g c =
    let grows = c.loop-self.invariant.grows in
    record { sets = Keeps-trans grows.sets c.drop_refused.ensures.keeps; names = grows.names; hides = subst (Extends c.args.self.now.sets) (sym c.drop_refused.ensures.sets) grows.hides }

pub turn-requires : goal.turn-requires
turn-requires g c =
    let loop = turns-rested c.requires.table c.loop-self.invariant c.requires.held (c.in_ok-drop_refused.ensures.rested c.loop-self.names) in
    record { is = running-is loop.grows loop.running; table = IsTable-Grows loop.grows c.requires.table; ready = c.in_ok-drop_refused.ensures.ready }

pub returns-in_err-went-clause-stops : goal.returns-in_err-went-clause-stops
returns-in_err-went-clause-stops g c =
    let loop = turns-rested c.requires.table c.loop-self.invariant c.requires.held (c.in_ok-drop_refused.ensures.rested c.loop-self.names) in
    let stops = turns-stop c.requires.table loop c.requires.held c.args.limit c.in_err-went.field-0.0 c.in_err-went.ensures.stops in
    search (rules, stops)

pub returns-in_err-went-clause-grows : goal.returns-in_err-went-clause-grows
returns-in_err-went-clause-grows g c =
    let loop = turns-rested c.requires.table c.loop-self.invariant c.requires.held (c.in_ok-drop_refused.ensures.rested c.loop-self.names) in
    Grows-trans loop.grows (record { sets = c.turn.ensures.keeps; names = c.turn.ensures.names; hides = c.turn.ensures.sets })

pub returns-then-not-went : goal.returns-then-not-went
returns-then-not-went g c =
    let loop = turns-rested c.requires.table c.loop-self.invariant c.requires.held (c.in_ok-drop_refused.ensures.rested c.loop-self.names) in
    let turned = c.in_ok-went.ensures.turned in
    let after = turns-taken c.requires.table loop c.requires.held turned in
    let ended = turned.ended c.if-not-went.true in
    record {
      held = turned.held;
      done = λ config listed. (running-done after.running ended config listed, after.running.rest config listed);
      segments = run-segments after.running after.phase ended;
      out = running-out after.running ended;
      stops = tt;
      alike = λ one two p q here defines were. let now = after.alike.at one two p q defines were in (now.alike, now.rest);
      grows = after.grows;
    }

pub loop-self-smaller : goal.loop-self-smaller
loop-self-smaller g c =
    let i = c.loop-self.invariant in
    let rested = c.in_ok-drop_refused.ensures.rested c.loop-self.names in
    let loop = turns-rested c.requires.table i c.requires.held rested in
    less-le (turns-less c.requires.table loop c.requires.held c.in_ok-went.ensures.turned c.if-not-went.false)
    (rested-le i.grows i.running c.requires.held _ c.drop_refused.new.self rested (entry_names c.args.names.now c.args.table.now.entries.entries) (within-table (g.C.Conditions.sets c.args.conds.now) c.args.names.now c.args.table.now))

pub loop-self-preserved : goal.loop-self-preserved
loop-self-preserved g c =
    turns-taken c.requires.table (turns-rested c.requires.table c.loop-self.invariant c.requires.held (c.in_ok-drop_refused.ensures.rested c.loop-self.names)) c.requires.held c.in_ok-went.ensures.turned
