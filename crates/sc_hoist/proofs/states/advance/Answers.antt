use Rattle.std.proofs.Common.{◌≡◌, ◌≤◌, All, get_or, if◌then◌else◌, subst, sym, arith}
use Rattle.sc_hoist.specs.Reading.{depth_of, in_states, step}
use Rattle.sc_hoist.specs.declared.states.Entry.{Entry}
use Rattle.sc_hoist.proofs.StateLemmas.{advanced, in_states-same, unmoved}
use Rattle.sc_model.proofs.SetLemmas.{Keeps-trans, IsConfig-Keeps}
use Rattle.sc_model.specs.Sets.{IsCond}
use Rattle.sc_hoist.proofs.states.advance.Goals as goal

pub returns-then-stay-clause-states : goal.returns-then-stay-clause-states
returns-then-stay-clause-states g c = λ test x listed.
    let s = g.C.Conditions.sets c.args.conds.now in
    let role = c.args.role in
    let P : Entry → Type 0 = λ e. step role e.state ≡ e.state in
    let xs = c.args.entries.items in
    let stays : All P xs = subst (All P) c.deref.ensures.value (c.stay.ensures c.if-stay.true) in
    in_states-same s xs test (λ st. test (if s.has c.args.item.0 x then step role st else st)) x
    (λ k e within. unmoved test (s.has c.args.item.0 x) (get_or xs k e).state (step role (get_or xs k e).state) (stays k e within))

pub advance_one-requires-clause-entry_own : goal.advance_one-requires-clause-entry_own
advance_one-requires-clause-entry_own g c =
    let s = g.C.Conditions.sets c.args.conds.now in
    let entry = c.index-entry.result.now in
    let read : entry ≡ get_or c.args.entries.items c.loop-index.index entry = c.index-entry.ensures in
    c.loop-index.invariant.keeps.own _ (subst (λ (e : Entry). IsCond s e.cond.0) (sym read) (c.requires.own.own c.loop-index.index entry (omega arith)))

pub advance_one-requires-clause-item_own : goal.advance_one-requires-clause-item_own
advance_one-requires-clause-item_own g c = c.loop-index.invariant.keeps.own _ c.requires.item_own

pub returns-in_err-advance_one-clause-keeps : goal.returns-in_err-advance_one-clause-keeps
returns-in_err-advance_one-clause-keeps g c = Keeps-trans c.loop-index.invariant.keeps c.advance_one.ensures.keeps

pub loop-index-preserved : goal.loop-index-preserved
loop-index-preserved g c =
    let s = g.C.Conditions.sets c.args.conds.now in
    let mid = g.C.Conditions.sets c.loop-index.conds in
    let now = g.C.Conditions.sets c.advance_one.new.conds in
    let was = c.loop-index.invariant in
    let xs = c.args.entries.items in
    let i = c.loop-index.index in
    let entry = c.index-entry.result.now in
    let read : entry ≡ get_or xs i entry = c.index-entry.ensures in
    record {
      keeps = Keeps-trans was.keeps c.advance_one.ensures.keeps;
      own = c.in_ok-advance_one.ensures.own;
      states = λ test x listed.
          advanced s mid xs i entry c.args.item.0 c.args.role test x (in_states mid c.loop-index.next.items test x) (in_states now c.advance_one.new.next.items test x)
          was.keeps c.requires.own c.requires.item_own listed (omega arith) read (was.states test x listed) (c.in_ok-advance_one.ensures.states test x (IsConfig-Keeps was.keeps listed));
      shallow = λ bound were.
          c.in_ok-advance_one.ensures.shallow bound (was.shallow bound were) (subst (λ (e : Entry). depth_of e.state ≤ bound) (sym read) (were.each i entry (omega arith)));
    }
