use Rattle.std.proofs.Common.{◌≡◌, ◌<◌, All, length, rules, subst, sym, true}
use Rattle.sc_expand.proofs.AlikeLemmas.{all-back}
use Rattle.sc_prep.proofs.Facts.{IsTable-Keeps, Keeps-trans, expand-stops}
use Rattle.sc_prep.proofs.NameStops.{run-stops}
use Rattle.sc_prep.proofs.Terms.{Cond, IsHeld, NameHas, StopsBy, StopsStage, Token, acts, macros_at, tokens_read}
use Rattle.sc_prep.proofs.walk.Walk.judge_runs.Goals as goal

pub expand-requires-clause-held : goal.expand-requires-clause-held
expand-requires-clause-held g c =
    all-back (IsHeld c.args.names.now) (λ (item : Cond × Token). item.1) c.in_ok-text.text
    (subst (All (IsHeld c.args.names.now)) (sym c.in_ok-text.ensures.tokens) (λ k d h. (c.requires.stored.held.runs.read k d h).held))

pub expand-requires-clause-placed : goal.expand-requires-clause-placed
expand-requires-clause-placed g c =
    all-back (λ (t : Token). t.place.file.0 < length c.args.files.now) (λ (item : Cond × Token). item.1) c.in_ok-text.text
    (subst (All (λ (t : Token). t.place.file.0 < length c.args.files.now)) (sym c.in_ok-text.ensures.tokens) (λ k d h. (c.requires.stored.held.runs.read k d h).file))

pub returns-in_err-expand-clause-stops : goal.returns-in_err-expand-clause-stops
returns-in_err-expand-clause-stops g c =
    let old = g.C.Conditions.sets c.args.conds.now in
    let s = g.C.Conditions.sets c.text_of.new.conds in
    let w = c.args.self.now in
    let names = c.args.names.now in
    let files = c.args.files.now in
    let stored = c.requires.stored in
    let text = c.in_ok-text.text in
    let keeps = c.in_ok-text.ensures.keeps in
    let stop = c.in_err-expand.field-0.0 in
    let stops = c.in_err-expand.ensures.stops in
    let kept : StopsStage old names files w (tokens_read w.runs.read) (λ config m f. (acts m ≡ true) × NameHas m.state.macros m.state.run f) c.args.limit stop =
    record {
      by = subst (λ arities. StopsBy arities c.args.limit stop) keeps.arities (expand-stops s names files (macros_at s names w.table) w.acting.0 text c.args.limit stop stops);
      at_place = run-stops names files keeps w stored.owns.acting stored.table text c.in_ok-text.ensures.tokens c.in_ok-text.ensures.at c.args.limit stop stops;
    } in
    search rules

pub expand-requires-clause-table : goal.expand-requires-clause-table
expand-requires-clause-table g c = IsTable-Keeps c.in_ok-text.ensures.keeps c.requires.stored.table

pub returns-clause-keeps : goal.returns-clause-keeps
returns-clause-keeps g c = Keeps-trans c.in_ok-text.ensures.keeps c.in_ok-expand.ensures.keeps
