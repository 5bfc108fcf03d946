use Rattle.std.proofs.Common.{◌<◌, ◌∙◌, ap, length, rules, subst}
use Rattle.sc_expand.proofs.Ending.{bared}
use Rattle.sc_expand.proofs.Facts.{All-map, Keeps-trans, err_from_is_err_and}
use Rattle.sc_expand.proofs.GatherEnds.{stops-at}
use Rattle.sc_expand.proofs.GatherParts.{are-branches, is-gathered, one-at-most, parted-by, parted-held}
use Rattle.sc_expand.proofs.GatherTaking.{head-held}
use Rattle.sc_expand.proofs.Terms.{IsCond, IsHeldToken, LeavesOpen, UnterminatedCall, failure_at, is_whole, seen_hidden, stores}
use Rattle.sc_expand.proofs.expansion.Expansion.gather.Goals as goal

pub first_calls-requires-clause-own : goal.first_calls-requires-clause-own
first_calls-requires-clause-own g c =
    let s = g.C.Conditions.sets c.args.conds.now in
    All-map (λ item. IsCond s item.0.0) bared c.args.self.now.top.work c.requires.held.top.work.own

pub first_calls-requires-clause-held : goal.first_calls-requires-clause-held
first_calls-requires-clause-held g c =
    All-map (λ item. item.1.spelling.0 < length c.args.names.now) bared c.args.self.now.top.work (λ k d h. (c.requires.held.top.work.held k d h).held.token.spelling)

pub closed_calls-requires-clause-own : goal.closed_calls-requires-clause-own
closed_calls-requires-clause-own g c =
    let s = g.C.Conditions.sets c.first_calls.new.conds in
    All-map (λ item. IsCond s item.0.0) bared c.args.self.now.top.work (λ k d h. c.first_calls.ensures.keeps.own _ (c.requires.held.top.work.own k d h))

pub closed_calls-requires-clause-held : goal.closed_calls-requires-clause-held
closed_calls-requires-clause-held g c =
    All-map (λ item. item.1.spelling.0 < length c.args.names.now) bared c.args.self.now.top.work (λ k d h. (c.requires.held.top.work.held k d h).held.token.spelling)

pub returns-in_err-branches-clause-stops : goal.returns-in_err-branches-clause-stops
returns-in_err-branches-clause-stops g c =
    let p = err_from_is_err_and c.from_residual-in_err-branches.result c.from_residual-in_err-branches.ensures.1 in
    rw (p.1, p.2) (stops-at c.args.cond.0 c.args.self.now.top.work c.args.limit _ c.first_calls.ensures.keeps c.requires.held.top.work c.in_ok-found.ensures.closed c.in_err-branches.ensures.refused)

pub items_at-requires-clause-file : goal.items_at-requires-clause-file
items_at-requires-clause-file g c =
    let st = stores (g.C.Conditions.sets c.args.conds.now) c.args.names.now c.args.self.now.sets in
    let head = head-held (IsHeldToken st (length c.args.files.now)) c.args.self.now.top.work c.args.head c.requires.held.top.work.held c.requires.head in
    head.file

pub gather_calls-requires : goal.gather_calls-requires
gather_calls-requires g c =
    let s0 = g.C.Conditions.sets c.args.conds.now in
    let s1 = g.C.Conditions.sets c.first_calls.new.conds in
    let s2 = g.C.Conditions.sets c.closed_calls.new.conds in
    let s3 = g.C.Conditions.sets c.leave_open.new.conds in
    let n = c.args.names.now in
    let e0 = c.args.self.now in
    let files = length c.args.files.now in
    let ends = c.in_ok-found.found.ends in
    let parts = parted-by s0 s1 s2 s3 n c.items_at.new.names files e0 c.leave_open.new.self c.args.cond.0 ends.closed.0 ends.still.0 ends.bare.0 ends.alone.0 c.in_ok-uncalled.uncalled.0 c.in_ok-branches.branches.items c.deref-2.result.now
    (failure_at UnterminatedCall (seen_hidden n e0.sets c.args.head)) c.deref-2.ensures.value c.first_calls.ensures.keeps c.closed_calls.ensures.keeps c.leave_open.ensures.keeps c.items_at.ensures.names c.requires.held
    c.in_ok-found.ensures.closed c.in_ok-found.ensures.still c.in_ok-found.ensures.bare c.in_ok-found.ensures.alone c.in_ok-branches.ensures.lists c.in_ok-branches.ensures.branches (subst (λ b. LeavesOpen s2 s3 b ends.still.0 ends.bare.0 ends.alone.0 c.in_ok-uncalled.uncalled.0 (failure_at UnterminatedCall (seen_hidden n e0.sets c.args.head)) e0.refusals c.leave_open.new.self) (c.is_whole-whole.ensures ∙ ap is_whole c.deref.ensures.value) c.in_ok-uncalled.ensures.leaves)
    c.in_ok-branches.ensures.agree in
    let head = head-held (IsHeldToken (stores s0 n e0.sets) files) e0.top.work c.args.head c.requires.held.top.work.held c.requires.head in
    let held3 = parted-held parts head.file in
    record {
      held = (files, held3);
      head = search rules;
      form = search rules;
      function = search rules;
      items = search rules;
      branches = are-branches parts c.requires.stands c.requires.live c.requires.calls;
      one = one-at-most parts;
    }

pub returns : goal.returns
returns g c =
    let s0 = g.C.Conditions.sets c.args.conds.now in
    let s1 = g.C.Conditions.sets c.first_calls.new.conds in
    let s2 = g.C.Conditions.sets c.closed_calls.new.conds in
    let s3 = g.C.Conditions.sets c.leave_open.new.conds in
    let n = c.args.names.now in
    let e0 = c.args.self.now in
    let files = length c.args.files.now in
    let ends = c.in_ok-found.found.ends in
    let parts = parted-by s0 s1 s2 s3 n c.items_at.new.names files e0 c.leave_open.new.self c.args.cond.0 ends.closed.0 ends.still.0 ends.bare.0 ends.alone.0 c.in_ok-uncalled.uncalled.0 c.in_ok-branches.branches.items c.deref-2.result.now
    (failure_at UnterminatedCall (seen_hidden n e0.sets c.args.head)) c.deref-2.ensures.value c.first_calls.ensures.keeps c.closed_calls.ensures.keeps c.leave_open.ensures.keeps c.items_at.ensures.names c.requires.held
    c.in_ok-found.ensures.closed c.in_ok-found.ensures.still c.in_ok-found.ensures.bare c.in_ok-found.ensures.alone c.in_ok-branches.ensures.lists c.in_ok-branches.ensures.branches (subst (λ b. LeavesOpen s2 s3 b ends.still.0 ends.bare.0 ends.alone.0 c.in_ok-uncalled.uncalled.0 (failure_at UnterminatedCall (seen_hidden n e0.sets c.args.head)) e0.refusals c.leave_open.new.self) (c.is_whole-whole.ensures ∙ ap is_whole c.deref.ensures.value) c.in_ok-uncalled.ensures.leaves)
    c.in_ok-branches.ensures.agree in
    let head = head-held (IsHeldToken (stores s0 n e0.sets) files) e0.top.work c.args.head c.requires.held.top.work.held c.requires.head in
    let held3 = parted-held parts head.file in
    let s4 = g.C.Conditions.sets c.gather_calls.new.conds in
    let n2 = c.gather_calls.new.names in
    let e4 = c.gather_calls.new.self in
    let held4 = c.in_ok-gather_calls.ensures.gathered.held files held3 in
    let lists = c.in_ok-gather_calls.ensures.gathered.lists in
    record {
      held = held4;
      lists = record { below = lists.below; rest = lists.rest; out = lists.out; tokens = lists.tokens };
      gathered = is-gathered c.args.files.now c.args.head parts head.held c.args.definition.now c.deref-3.result.now _ c.requires.definition c.deref-3.ensures.value c.in_ok-items.ensures.own c.in_ok-items.ensures.is
          c.requires.function c.requires.stands c.requires.calls s4 n2 e4 c.gather_calls.ensures.keeps held4 c.in_ok-gather_calls.ensures.gathered;
      stops = tt;
      keeps = Keeps-trans (Keeps-trans (Keeps-trans c.first_calls.ensures.keeps c.closed_calls.ensures.keeps) c.leave_open.ensures.keeps) c.gather_calls.ensures.keeps;
      names = search rules;
      sets = search rules;
    }

pub returns-in_err-branches-clause-keeps : goal.returns-in_err-branches-clause-keeps
returns-in_err-branches-clause-keeps g c = Keeps-trans c.first_calls.ensures.keeps c.closed_calls.ensures.keeps

pub returns-in_err-uncalled-clause-keeps : goal.returns-in_err-uncalled-clause-keeps
returns-in_err-uncalled-clause-keeps g c = Keeps-trans (Keeps-trans c.first_calls.ensures.keeps c.closed_calls.ensures.keeps) c.leave_open.ensures.keeps

pub returns-in_err-items-clause-keeps : goal.returns-in_err-items-clause-keeps
returns-in_err-items-clause-keeps g c = Keeps-trans (Keeps-trans c.first_calls.ensures.keeps c.closed_calls.ensures.keeps) c.leave_open.ensures.keeps

pub returns-in_err-gather_calls-clause-keeps : goal.returns-in_err-gather_calls-clause-keeps
returns-in_err-gather_calls-clause-keeps g c = Keeps-trans (Keeps-trans (Keeps-trans c.first_calls.ensures.keeps c.closed_calls.ensures.keeps) c.leave_open.ensures.keeps) c.gather_calls.ensures.keeps
