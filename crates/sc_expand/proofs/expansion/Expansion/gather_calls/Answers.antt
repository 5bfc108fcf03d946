use Rattle.std.proofs.Common.{sym, subst}
use Rattle.sc_expand.proofs.Facts.{Keeps-trans}
use Rattle.sc_expand.proofs.GatherBranches.{branch-later, gathered-more, gathered-none}
use Rattle.sc_expand.proofs.GatherTaking.{head-held}
use Rattle.sc_expand.proofs.SeenLemmas.{Grows-refl, Grows-trans}
use Rattle.sc_expand.proofs.Terms.{Grows, IsBranch, IsHeldToken, stores}
use Rattle.sc_expand.proofs.expansion.Expansion.gather_calls.Goals as goal

pub loop-branch-init : goal.loop-branch-init
loop-branch-init g c =
    let st = stores (g.C.Conditions.sets c.args.conds.now) c.args.names.now c.args.self.now.sets in
    record { grows = Grows-refl st; gathered = gathered-none st c.args.self.now c.args.form.now c.args.items.now c.args.head }

pub gather_call-requires-clause-branch : goal.gather_call-requires-clause-branch
gather_call-requires-clause-branch g c =
    let old = stores (g.C.Conditions.sets c.args.conds.now) c.args.names.now c.args.self.now.sets in
    let was = c.loop-branch.invariant in
    let i = c.loop-branch.branch-index in
    let b = c.branch-item.result in
    let within = c.loop-branch-test.true in
    let head = head-held (IsHeldToken old c.requires.held.0) c.args.self.now.top.work c.args.head c.requires.held.1.top.work.held c.requires.head in
    branch-later was.grows c.args.form.now c.args.items.now c.args.head head.held c.requires.form c.requires.items c.args.self.now c.loop-branch.self c.args.branches.now i b within c.branch-item.is was.gathered c.requires.one
    (subst (IsBranch old c.args.self.now) (sym c.branch-item.is) (c.requires.branches i b within))

pub loop-branch-preserved : goal.loop-branch-preserved
loop-branch-preserved g c =
    let old = stores (g.C.Conditions.sets c.args.conds.now) c.args.names.now c.args.self.now.sets in
    let mid = stores (g.C.Conditions.sets c.loop-branch.conds) c.loop-branch.names c.loop-branch.self.sets in
    let st = stores (g.C.Conditions.sets c.gather_call.new.conds) c.gather_call.new.names c.gather_call.new.self.sets in
    let was = c.loop-branch.invariant in
    let step : Grows mid st = record { sets = c.gather_call.ensures.keeps; names = c.gather_call.ensures.names; hides = c.gather_call.ensures.sets } in
    let i = c.loop-branch.branch-index in
    let b = c.branch-item.result in
    let within = c.loop-branch-test.true in
    let head = head-held (IsHeldToken old c.requires.held.0) c.args.self.now.top.work c.args.head c.requires.held.1.top.work.held c.requires.head in
    let is = subst (IsBranch old c.args.self.now) (sym c.branch-item.is) (c.requires.branches i b within) in
    record {
      grows = Grows-trans was.grows step;
      gathered = gathered-more was.grows c.args.form.now c.args.items.now c.args.head head.held c.requires.form c.requires.items c.args.self.now c.loop-branch.self c.args.branches.now i b within c.branch-item.is
          was.gathered c.requires.one st c.gather_call.new.self c.in_ok-gather_call.ensures.gathered is.own;
    }

pub returns-in_err-gather_call-clause-keeps : goal.returns-in_err-gather_call-clause-keeps
returns-in_err-gather_call-clause-keeps g c = Keeps-trans c.loop-branch.invariant.grows.sets c.gather_call.ensures.keeps

pub gather_call-requires-clause-held : goal.gather_call-requires-clause-held
gather_call-requires-clause-held g c = (c.requires.held.0, c.loop-branch.invariant.gathered.held c.requires.held.0 c.requires.held.1)
