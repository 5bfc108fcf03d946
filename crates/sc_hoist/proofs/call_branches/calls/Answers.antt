use Rattle.std.proofs.Common.{◌+◌, ◌<◌, ◌≤◌, List, length, refl, subst, sym, arith}
use Rattle.std.proofs.lemmas.Result.{err_from_is_err_and}
use Rattle.sc_hoist.specs.Added.{Adds}
use Rattle.sc_hoist.specs.declared.branch.Branch.{Branch}
use Rattle.sc_hoist.specs.declared.branch.Ends.TheVariants as ends
use Rattle.sc_hoist.specs.declared.state.Test.TheVariants.{IsClosed, IsStill, IsNoCall}
use Rattle.sc_hoist.specs.Leaves.{AreMet}
use Rattle.sc_hoist.specs.Reading.{passes}
use Rattle.sc_hoist.proofs.CallBranchLemmas.{AllAdded, AreMet-nil, HasRead, all_ends, all_lists, all_parts, refused_at}
use Rattle.sc_hoist.proofs.PartLemmas.{AreBranches-parts, HasLists-parts, at_most}
use Rattle.sc_hoist.proofs.StateLemmas.{AreEntries-Keeps}
use Rattle.sc_model.proofs.SetLemmas.{Keeps-refl, Keeps-trans}
use Rattle.sc_hoist.proofs.call_branches.calls.Goals as goal

pub add_branches-requires-clause-met : goal.add_branches-requires-clause-met
add_branches-requires-clause-met g c =
    let s1 = g.C.Conditions.sets c.call_items.new.conds in
    subst (AreMet s1) (sym {A = List Branch} c.new-branches.ensures.items) (AreMet-nil s1)

pub add_branches-requires-2-clause-own : goal.add_branches-requires-2-clause-own
add_branches-requires-2-clause-own g c =
    λ k d h. c.add_branches.ensures.keeps.own _ (c.in_ok-read.ensures.own k d h)

pub add_branches-requires-2-clause-states_own : goal.add_branches-requires-2-clause-states_own
add_branches-requires-2-clause-states_own g c =
    AreEntries-Keeps c.add_branches.ensures.keeps c.in_ok-read.ensures.states_own

pub add_branches-requires-2-clause-met : goal.add_branches-requires-2-clause-met
add_branches-requires-2-clause-met g c =
    c.in_ok-add_branches.ensures.added.met

pub add_branches-requires-3-clause-own : goal.add_branches-requires-3-clause-own
add_branches-requires-3-clause-own g c =
    λ k d h. (Keeps-trans c.add_branches.ensures.keeps c.add_branches-2.ensures.keeps).own _ (c.in_ok-read.ensures.own k d h)

pub add_branches-requires-3-clause-states_own : goal.add_branches-requires-3-clause-states_own
add_branches-requires-3-clause-states_own g c =
    AreEntries-Keeps (Keeps-trans c.add_branches.ensures.keeps c.add_branches-2.ensures.keeps) c.in_ok-read.ensures.states_own

pub add_branches-requires-3-clause-met : goal.add_branches-requires-3-clause-met
add_branches-requires-3-clause-met g c =
    c.in_ok-add_branches-2.ensures.added.met

pub returns-in_err-add_branches-clause-keeps : goal.returns-in_err-add_branches-clause-keeps
returns-in_err-add_branches-clause-keeps g c =
    Keeps-trans c.call_items.ensures.keeps c.add_branches.ensures.keeps

pub returns-in_err-add_branches-2-clause-keeps : goal.returns-in_err-add_branches-2-clause-keeps
returns-in_err-add_branches-2-clause-keeps g c =
    Keeps-trans c.call_items.ensures.keeps (Keeps-trans c.add_branches.ensures.keeps c.add_branches-2.ensures.keeps)

pub returns-in_err-add_branches-3-clause-keeps : goal.returns-in_err-add_branches-3-clause-keeps
returns-in_err-add_branches-3-clause-keeps g c =
    Keeps-trans c.call_items.ensures.keeps (Keeps-trans c.add_branches.ensures.keeps (Keeps-trans c.add_branches-2.ensures.keeps c.add_branches-3.ensures.keeps))

pub returns-then-is_full-clause-keeps : goal.returns-then-is_full-clause-keeps
returns-then-is_full-clause-keeps g c =
    Keeps-trans c.call_items.ensures.keeps (Keeps-trans c.add_branches.ensures.keeps (Keeps-trans c.add_branches-2.ensures.keeps c.add_branches-3.ensures.keeps))

pub returns-clause-keeps : goal.returns-clause-keeps
returns-clause-keeps g c =
    Keeps-trans c.call_items.ensures.keeps (Keeps-trans c.add_branches.ensures.keeps (Keeps-trans c.add_branches-2.ensures.keeps c.add_branches-3.ensures.keeps))

pub returns-in_err-add_branches-clause-refused : goal.returns-in_err-add_branches-clause-refused
returns-in_err-add_branches-clause-refused g c =
    let sets = g.C.Conditions.sets in
    let s = sets c.args.conds.now in
    let s1 = sets c.call_items.new.conds in
    let items = c.in_ok-read.read in
    let read : HasRead s s1 c.args.names.now (g.L.TokenList.tokens c.args.list.now) c.args.at c.args.cond.0 items.states.items items.conds.items = record {
      keeps = c.call_items.ensures.keeps;
      own = c.in_ok-read.ensures.own;
      states_own = c.in_ok-read.ensures.states_own;
      reached = c.in_ok-read.ensures.states;
      places = c.in_ok-read.ensures.places;
    } in
    let p = err_from_is_err_and c.from_residual-in_err-add_branches.result c.from_residual-in_err-add_branches.ensures.1 in
    rw (p.1, p.2) (refused_at read s1 (passes IsClosed) c.args.limit _ (Keeps-refl s1) c.requires.cond_own c.in_err-add_branches.ensures.refused)

pub returns-in_err-add_branches-2-clause-refused : goal.returns-in_err-add_branches-2-clause-refused
returns-in_err-add_branches-2-clause-refused g c =
    let sets = g.C.Conditions.sets in
    let s = sets c.args.conds.now in
    let s1 = sets c.call_items.new.conds in
    let items = c.in_ok-read.read in
    let read : HasRead s s1 c.args.names.now (g.L.TokenList.tokens c.args.list.now) c.args.at c.args.cond.0 items.states.items items.conds.items = record {
      keeps = c.call_items.ensures.keeps;
      own = c.in_ok-read.ensures.own;
      states_own = c.in_ok-read.ensures.states_own;
      reached = c.in_ok-read.ensures.states;
      places = c.in_ok-read.ensures.places;
    } in
    let p = err_from_is_err_and c.from_residual-in_err-add_branches-2.result c.from_residual-in_err-add_branches-2.ensures.1 in
    rw (p.1, p.2) (refused_at read (sets c.add_branches.new.conds) (passes IsStill) c.args.limit _ c.add_branches.ensures.keeps c.requires.cond_own c.in_err-add_branches-2.ensures.refused)

pub returns-in_err-add_branches-3-clause-refused : goal.returns-in_err-add_branches-3-clause-refused
returns-in_err-add_branches-3-clause-refused g c =
    let sets = g.C.Conditions.sets in
    let s = sets c.args.conds.now in
    let s1 = sets c.call_items.new.conds in
    let items = c.in_ok-read.read in
    let read : HasRead s s1 c.args.names.now (g.L.TokenList.tokens c.args.list.now) c.args.at c.args.cond.0 items.states.items items.conds.items = record {
      keeps = c.call_items.ensures.keeps;
      own = c.in_ok-read.ensures.own;
      states_own = c.in_ok-read.ensures.states_own;
      reached = c.in_ok-read.ensures.states;
      places = c.in_ok-read.ensures.places;
    } in
    let p = err_from_is_err_and c.from_residual-in_err-add_branches-3.result c.from_residual-in_err-add_branches-3.ensures.1 in
    rw (p.1, p.2) (refused_at read (sets c.add_branches-2.new.conds) (passes IsNoCall) c.args.limit _ (Keeps-trans c.add_branches.ensures.keeps c.add_branches-2.ensures.keeps) c.requires.cond_own c.in_err-add_branches-3.ensures.refused)

pub returns-then-is_full-clause-refused : goal.returns-then-is_full-clause-refused
returns-then-is_full-clause-refused g c =
    let sets = g.C.Conditions.sets in
    let s = sets c.args.conds.now in
    let s1 = sets c.call_items.new.conds in
    let items = c.in_ok-read.read in
    let read : HasRead s s1 c.args.names.now (g.L.TokenList.tokens c.args.list.now) c.args.at c.args.cond.0 items.states.items items.conds.items = record {
      keeps = c.call_items.ensures.keeps;
      own = c.in_ok-read.ensures.own;
      states_own = c.in_ok-read.ensures.states_own;
      reached = c.in_ok-read.ensures.states;
      places = c.in_ok-read.ensures.places;
    } in
    let s2 = sets c.add_branches.new.conds in
    let s3 = sets c.add_branches-2.new.conds in
    let s4 = sets c.add_branches-3.new.conds in
    let b1 = c.add_branches.new.branches.items in
    let b2 = c.add_branches-2.new.branches.items in
    let b3 = c.add_branches-3.new.branches.items in
    let added : AllAdded s1 s2 s3 s4 c.args.at items.states.items items.conds.items b1 b2 b3 = record {
      first = subst (λ (bs : List Branch). Adds s1 s2 items.states.items (passes IsClosed) c.args.at items.conds.items ends.Closed bs b1) c.new-branches.ensures.items c.in_ok-add_branches.ensures.added;
      second = c.in_ok-add_branches-2.ensures.added;
      third = c.in_ok-add_branches-3.ensures.added;
      keeps1 = c.add_branches.ensures.keeps;
      keeps2 = c.add_branches-2.ensures.keeps;
      keeps3 = c.add_branches-3.ensures.keeps;
    } in
    let many : c.args.limit < length b3 = subst (λ (bs : List Branch). c.args.limit < length bs) c.deref.ensures.value (c.is_full.ensures.0 c.if-is_full.true) in
    (refl, HasLists-parts (Keeps-trans c.call_items.ensures.keeps (Keeps-trans c.add_branches.ensures.keeps (Keeps-trans c.add_branches-2.ensures.keeps c.add_branches-3.ensures.keeps))) c.has_options.ensures (all_parts read added) (c.args.limit + 1) (omega arith))

pub returns-clause-lists : goal.returns-clause-lists
returns-clause-lists g c =
    let sets = g.C.Conditions.sets in
    let s = sets c.args.conds.now in
    let s1 = sets c.call_items.new.conds in
    let items = c.in_ok-read.read in
    let read : HasRead s s1 c.args.names.now (g.L.TokenList.tokens c.args.list.now) c.args.at c.args.cond.0 items.states.items items.conds.items = record {
      keeps = c.call_items.ensures.keeps;
      own = c.in_ok-read.ensures.own;
      states_own = c.in_ok-read.ensures.states_own;
      reached = c.in_ok-read.ensures.states;
      places = c.in_ok-read.ensures.places;
    } in
    let s2 = sets c.add_branches.new.conds in
    let s3 = sets c.add_branches-2.new.conds in
    let s4 = sets c.add_branches-3.new.conds in
    let b1 = c.add_branches.new.branches.items in
    let b2 = c.add_branches-2.new.branches.items in
    let b3 = c.add_branches-3.new.branches.items in
    let added : AllAdded s1 s2 s3 s4 c.args.at items.states.items items.conds.items b1 b2 b3 = record {
      first = subst (λ (bs : List Branch). Adds s1 s2 items.states.items (passes IsClosed) c.args.at items.conds.items ends.Closed bs b1) c.new-branches.ensures.items c.in_ok-add_branches.ensures.added;
      second = c.in_ok-add_branches-2.ensures.added;
      third = c.in_ok-add_branches-3.ensures.added;
      keeps1 = c.add_branches.ensures.keeps;
      keeps2 = c.add_branches-2.ensures.keeps;
      keeps3 = c.add_branches-3.ensures.keeps;
    } in
    all_lists read added

pub returns-clause-ends : goal.returns-clause-ends
returns-clause-ends g c =
    let sets = g.C.Conditions.sets in
    let s = sets c.args.conds.now in
    let s1 = sets c.call_items.new.conds in
    let items = c.in_ok-read.read in
    let read : HasRead s s1 c.args.names.now (g.L.TokenList.tokens c.args.list.now) c.args.at c.args.cond.0 items.states.items items.conds.items = record {
      keeps = c.call_items.ensures.keeps;
      own = c.in_ok-read.ensures.own;
      states_own = c.in_ok-read.ensures.states_own;
      reached = c.in_ok-read.ensures.states;
      places = c.in_ok-read.ensures.places;
    } in
    let s2 = sets c.add_branches.new.conds in
    let s3 = sets c.add_branches-2.new.conds in
    let s4 = sets c.add_branches-3.new.conds in
    let b1 = c.add_branches.new.branches.items in
    let b2 = c.add_branches-2.new.branches.items in
    let b3 = c.add_branches-3.new.branches.items in
    let added : AllAdded s1 s2 s3 s4 c.args.at items.states.items items.conds.items b1 b2 b3 = record {
      first = subst (λ (bs : List Branch). Adds s1 s2 items.states.items (passes IsClosed) c.args.at items.conds.items ends.Closed bs b1) c.new-branches.ensures.items c.in_ok-add_branches.ensures.added;
      second = c.in_ok-add_branches-2.ensures.added;
      third = c.in_ok-add_branches-3.ensures.added;
      keeps1 = c.add_branches.ensures.keeps;
      keeps2 = c.add_branches-2.ensures.keeps;
      keeps3 = c.add_branches-3.ensures.keeps;
    } in
    all_ends read added

pub returns-clause-branches : goal.returns-clause-branches
returns-clause-branches g c =
    let sets = g.C.Conditions.sets in
    let s = sets c.args.conds.now in
    let s1 = sets c.call_items.new.conds in
    let items = c.in_ok-read.read in
    let read : HasRead s s1 c.args.names.now (g.L.TokenList.tokens c.args.list.now) c.args.at c.args.cond.0 items.states.items items.conds.items = record {
      keeps = c.call_items.ensures.keeps;
      own = c.in_ok-read.ensures.own;
      states_own = c.in_ok-read.ensures.states_own;
      reached = c.in_ok-read.ensures.states;
      places = c.in_ok-read.ensures.places;
    } in
    let s2 = sets c.add_branches.new.conds in
    let s3 = sets c.add_branches-2.new.conds in
    let s4 = sets c.add_branches-3.new.conds in
    let b1 = c.add_branches.new.branches.items in
    let b2 = c.add_branches-2.new.branches.items in
    let b3 = c.add_branches-3.new.branches.items in
    let added : AllAdded s1 s2 s3 s4 c.args.at items.states.items items.conds.items b1 b2 b3 = record {
      first = subst (λ (bs : List Branch). Adds s1 s2 items.states.items (passes IsClosed) c.args.at items.conds.items ends.Closed bs b1) c.new-branches.ensures.items c.in_ok-add_branches.ensures.added;
      second = c.in_ok-add_branches-2.ensures.added;
      third = c.in_ok-add_branches-3.ensures.added;
      keeps1 = c.add_branches.ensures.keeps;
      keeps2 = c.add_branches-2.ensures.keeps;
      keeps3 = c.add_branches-3.ensures.keeps;
    } in
    AreBranches-parts (Keeps-trans c.call_items.ensures.keeps (Keeps-trans c.add_branches.ensures.keeps (Keeps-trans c.add_branches-2.ensures.keeps c.add_branches-3.ensures.keeps))) c.has_options.ensures (all_parts read added)

pub returns-clause-agree : goal.returns-clause-agree
returns-clause-agree g c =
    let sets = g.C.Conditions.sets in
    let s = sets c.args.conds.now in
    let s1 = sets c.call_items.new.conds in
    let items = c.in_ok-read.read in
    let read : HasRead s s1 c.args.names.now (g.L.TokenList.tokens c.args.list.now) c.args.at c.args.cond.0 items.states.items items.conds.items = record {
      keeps = c.call_items.ensures.keeps;
      own = c.in_ok-read.ensures.own;
      states_own = c.in_ok-read.ensures.states_own;
      reached = c.in_ok-read.ensures.states;
      places = c.in_ok-read.ensures.places;
    } in
    let s2 = sets c.add_branches.new.conds in
    let s3 = sets c.add_branches-2.new.conds in
    let s4 = sets c.add_branches-3.new.conds in
    let b1 = c.add_branches.new.branches.items in
    let b2 = c.add_branches-2.new.branches.items in
    let b3 = c.add_branches-3.new.branches.items in
    let added : AllAdded s1 s2 s3 s4 c.args.at items.states.items items.conds.items b1 b2 b3 = record {
      first = subst (λ (bs : List Branch). Adds s1 s2 items.states.items (passes IsClosed) c.args.at items.conds.items ends.Closed bs b1) c.new-branches.ensures.items c.in_ok-add_branches.ensures.added;
      second = c.in_ok-add_branches-2.ensures.added;
      third = c.in_ok-add_branches-3.ensures.added;
      keeps1 = c.add_branches.ensures.keeps;
      keeps2 = c.add_branches-2.ensures.keeps;
      keeps3 = c.add_branches-3.ensures.keeps;
    } in
    (all_parts read added).agree

pub returns-clause-few : goal.returns-clause-few
returns-clause-few g c =
    subst (λ (bs : List Branch). length bs ≤ c.args.limit) c.deref.ensures.value (at_most c.is_full.result c.args.limit (length c.deref.result.now) c.is_full.ensures.1 c.if-is_full.false)
