use Rattle.std.proofs.Common.{◌≡◌, ◌+◌, ◌∙◌, Ok, subst, rules, ap, inl, map, sym, true}
use Rattle.sc_expand.specs.Moved.{moved}
use Rattle.sc_expand.specs.Stops.{HasConfigs}
use Rattle.sc_prep.proofs.Facts.{Extends-refl, Extends-trans, IsConfig-kept, Keeps-trans, items_at-Keeps}
use Rattle.sc_prep.proofs.SettleMoves.{settled-closes, settled-stops, stage-stored, stays-stage, stored-kept}
use Rattle.sc_prep.proofs.SharesLater.{shares-later, shares-same}
use Rattle.sc_prep.proofs.Terms.{NameHas, StopsStage, acts, seen_hidden, seen_place, tokens_read}
use Rattle.sc_prep.proofs.walk.Walk.settle_runs.Goals as goal

pub settle_within-requires : goal.settle_within-requires
settle_within-requires g c =
    let w = c.args.self.now in
    record { stored = stored-kept c.args.files.now c.in_ok-met.ensures.keeps (Extends-refl c.args.names.now) w (Extends-refl w.runs.sets) c.requires.stored }

pub judge_runs-requires : goal.judge_runs-requires
judge_runs-requires g c = record { stored = stage-stored c.in_ok-within.ensures.keeps c.in_ok-within.ensures.stays }

pub settle_within-requires-2 : goal.settle_within-requires-2
settle_within-requires-2 g c =
    let v = c.settle_within.new.self in
    let judged = c.in_ok-judge_runs.ensures in
    record { stored = stored-kept c.args.files.now judged.keeps judged.names v (Extends-refl v.runs.sets) (stage-stored c.in_ok-within.ensures.keeps c.in_ok-within.ensures.stays) }

pub returns-then-not-met-clause-stays : goal.returns-then-not-met-clause-stays
returns-then-not-met-clause-stays g c =
    let w = c.args.self.now in
    stays-stage c.args.files.now c.in_ok-met.ensures.keeps (Extends-refl c.args.names.now) w (Extends-refl w.runs.sets) c.requires.stored

pub returns-then-not-met-clause-ends : goal.returns-then-not-met-clause-ends
returns-then-not-met-clause-ends g c = λ config now acting.
    let w = c.args.self.now in
    let keeps = c.in_ok-met.ensures.keeps in
    let owns = c.requires.stored.owns in
    let listed = IsConfig-kept keeps now in
    let none = c.in_ok-met.ensures.none (ap Ok c.if-not-met.true) config listed (sym (keeps.at w.acting.0 config owns.acting listed) ∙ acting) in
    inl (ap (λ hs. map (moved (seen_place c.args.files.now)) (map (seen_hidden c.args.names.now w.runs.sets) hs)) (items_at-Keeps w.runs.gathered config keeps owns.runs.gathered listed ∙ none))

pub returns-then-within-clause-stays : goal.returns-then-within-clause-stays
returns-then-within-clause-stays g c =
    let w = c.args.self.now in
    let keeps = c.in_ok-met.ensures.keeps in
    settled-closes keeps (stays-stage c.args.files.now keeps (Extends-refl c.args.names.now) w (Extends-refl w.runs.sets) c.requires.stored) c.in_ok-within.ensures.stays

pub returns-then-within-clause-ends : goal.returns-then-within-clause-ends
returns-then-within-clause-ends g c = c.in_ok-within.ensures.ends (ap Ok c.if-within.true)

pub returns-in_err-judge_runs-clause-stops : goal.returns-in_err-judge_runs-clause-stops
returns-in_err-judge_runs-clause-stops g c =
    let old = g.C.Conditions.sets c.args.conds.now in
    let w = c.args.self.now in
    let keeps = c.in_ok-met.ensures.keeps in
    let stop = c.in_err-judge_runs.field-0.0 in
    let first = settled-closes keeps (stays-stage c.args.files.now keeps (Extends-refl c.args.names.now) w (Extends-refl w.runs.sets) c.requires.stored) c.in_ok-within.ensures.stays in
    let kept : StopsStage old c.args.names.now c.args.files.now w (tokens_read w.runs.read) (λ config m f. (acts m ≡ true) × NameHas m.state.macros m.state.run f) c.args.limit stop =
    settled-stops (Keeps-trans keeps c.in_ok-within.ensures.keeps) first c.args.limit stop c.in_err-judge_runs.ensures.stops in
    search rules

pub returns-then-settled-clause-stays : goal.returns-then-settled-clause-stays
returns-then-settled-clause-stays g c =
    let w = c.args.self.now in
    let v = c.settle_within.new.self in
    let judged = c.in_ok-judge_runs.ensures in
    let keeps = c.in_ok-met.ensures.keeps in
    let k2 = c.in_ok-within.ensures.keeps in
    let first = settled-closes keeps (stays-stage c.args.files.now keeps (Extends-refl c.args.names.now) w (Extends-refl w.runs.sets) c.requires.stored) c.in_ok-within.ensures.stays in
    let second = settled-closes (Keeps-trans keeps k2) first (stays-stage c.args.files.now judged.keeps judged.names v (Extends-refl v.runs.sets) (stage-stored k2 c.in_ok-within.ensures.stays)) in
    settled-closes (Keeps-trans keeps (Keeps-trans k2 judged.keeps)) second c.in_ok-settled.ensures.stays

pub returns-then-settled-clause-ends : goal.returns-then-settled-clause-ends
returns-then-settled-clause-ends g c = c.in_ok-settled.ensures.ends (ap Ok c.if-settled.true)

pub returns-then-within-clause-keeps : goal.returns-then-within-clause-keeps
returns-then-within-clause-keeps g c = Keeps-trans c.in_ok-met.ensures.keeps c.in_ok-within.ensures.keeps

pub returns-in_err-judge_runs-clause-keeps : goal.returns-in_err-judge_runs-clause-keeps
returns-in_err-judge_runs-clause-keeps g c = Keeps-trans c.in_ok-met.ensures.keeps (Keeps-trans c.in_ok-within.ensures.keeps c.in_err-judge_runs.ensures.keeps)

pub returns-in_err-settled-clause-keeps : goal.returns-in_err-settled-clause-keeps
returns-in_err-settled-clause-keeps g c = Keeps-trans c.in_ok-met.ensures.keeps (Keeps-trans c.in_ok-within.ensures.keeps (Keeps-trans c.in_ok-judge_runs.ensures.keeps c.in_err-settled.ensures.keeps))

pub returns-then-settled-clause-keeps : goal.returns-then-settled-clause-keeps
returns-then-settled-clause-keeps g c = Keeps-trans c.in_ok-met.ensures.keeps (Keeps-trans c.in_ok-within.ensures.keeps (Keeps-trans c.in_ok-judge_runs.ensures.keeps c.in_ok-settled.ensures.keeps))

pub returns-clause-keeps : goal.returns-clause-keeps
returns-clause-keeps g c = Keeps-trans c.in_ok-met.ensures.keeps (Keeps-trans c.in_ok-within.ensures.keeps (Keeps-trans c.in_ok-judge_runs.ensures.keeps c.in_ok-settled.ensures.keeps))

pub returns-in_err-settled-clause-names : goal.returns-in_err-settled-clause-names
returns-in_err-settled-clause-names g c = Extends-trans c.in_ok-within.ensures.names (Extends-trans c.in_ok-judge_runs.ensures.names c.in_err-settled.ensures.names)

pub returns-then-settled-clause-names : goal.returns-then-settled-clause-names
returns-then-settled-clause-names g c = Extends-trans c.in_ok-within.ensures.names (Extends-trans c.in_ok-judge_runs.ensures.names c.in_ok-settled.ensures.names)

pub returns-clause-names : goal.returns-clause-names
returns-clause-names g c = Extends-trans c.in_ok-within.ensures.names (Extends-trans c.in_ok-judge_runs.ensures.names c.in_ok-settled.ensures.names)

pub returns-then-not-met-clause-early : goal.returns-then-not-met-clause-early
returns-then-not-met-clause-early g c = λ few config listed acting some. absurd (some (c.in_ok-met.ensures.none (ap Ok c.if-not-met.true) config listed acting))

pub returns-then-within-clause-early : goal.returns-then-within-clause-early
returns-then-within-clause-early g c = λ few config listed acting some. c.in_ok-within.ensures.early (λ many. few (subst (λ arities. HasConfigs arities (c.args.limit + 1)) c.in_ok-met.ensures.keeps.arities many))

pub returns-then-settled-clause-early : goal.returns-then-settled-clause-early
returns-then-settled-clause-early g c = λ few config listed acting some. absurd (few (subst (λ arities. HasConfigs arities (c.args.limit + 1)) c.in_ok-met.ensures.keeps.arities (c.in_ok-within.ensures.full (ap Ok c.if-within.false))))

pub returns-then-not-met-clause-shares : goal.returns-then-not-met-clause-shares
returns-then-not-met-clause-shares g c = λ few. shares-same c.in_ok-met.ensures.keeps c.args.self.now c.requires.stored

pub returns-then-within-clause-shares : goal.returns-then-within-clause-shares
returns-then-within-clause-shares g c = λ few.
    let keeps = c.in_ok-met.ensures.keeps in
    shares-later keeps c.args.self.now c.requires.stored (c.in_ok-within.ensures.shares (λ many. few (subst (λ arities. HasConfigs arities (c.args.limit + 1)) keeps.arities many)))

pub returns-then-settled-clause-shares : goal.returns-then-settled-clause-shares
returns-then-settled-clause-shares g c = λ few. absurd (few (subst (λ arities. HasConfigs arities (c.args.limit + 1)) c.in_ok-met.ensures.keeps.arities (c.in_ok-within.ensures.full (ap Ok c.if-within.false))))
