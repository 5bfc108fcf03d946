use Rattle.std.proofs.Common.{◌≡◌, ◌+◌, ◌<◌, ◌≤◌, ◌∙◌, ◌&&◌, List, All, drop, length, ap, subst, sym, arith, true}
use Rattle.std.proofs.lemmas.List.{drop_all}
use Rattle.std.proofs.lemmas.Option.{slice_get_within, get_or_from_slice_get}
use Rattle.sc_base.specs.declared.id.Cond.{Cond}
use Rattle.sc_base.specs.declared.token.Token.{Token}
use Rattle.sc_hoist.specs.Reading.{in_states, is_final, state_after}
use Rattle.sc_hoist.specs.declared.state.State.TheVariants.{Alone}
use Rattle.sc_hoist.specs.declared.states.Entry.{Entry}
use Rattle.sc_hoist.proofs.StateLemmas.{in_states-final, read_more}
use Rattle.sc_model.proofs.SetLemmas.{Keeps-trans, IsConfig-Keeps}
use Rattle.sc_model.specs.Sets.{IsCond}
use Rattle.sc_hoist.proofs.ending.states_behind.Goals as goal

pub returns-then-all_final-clause-states : goal.returns-then-all_final-clause-states
returns-then-all_final-clause-states g c = λ test x listed.
    let s = g.C.Conditions.sets c.args.conds.now in
    let mid = g.C.Conditions.sets c.loop-index.conds in
    let P : Entry → Type 0 = λ e. is_final e.state ≡ true in
    let final : All P c.loop-index.states.items = subst (All P) c.deref.ensures.value (c.all_final.ensures c.if-all_final.true) in
    in_states-final s mid c.args.names.now (drop c.loop-index.index (g.L.TokenList.tokens c.args.list.now)) c.loop-index.states.items test x final ∙ c.loop-index.invariant.states test x listed

pub role_of-role-requires : goal.role_of-role-requires
role_of-role-requires g c =
    let tokens = g.L.TokenList.tokens c.args.list.now in
    let item : Cond × Token = (c.item-item.result.0, c.item-item.result.1) in
    let i = c.loop-index.index in
    subst (λ (it : Cond × Token). it.1.spelling.0 < length c.args.names.now) (get_or_from_slice_get tokens i item item c.item-item.ensures) (c.requires.held i item (slice_get_within tokens i item c.item-item.ensures))

pub advance-requires-clause-item_own : goal.advance-requires-clause-item_own
advance-requires-clause-item_own g c =
    let s = g.C.Conditions.sets c.args.conds.now in
    let tokens = g.L.TokenList.tokens c.args.list.now in
    let item : Cond × Token = (c.item-item.result.0, c.item-item.result.1) in
    let i = c.loop-index.index in
    c.loop-index.invariant.keeps.own _ (subst (λ (it : Cond × Token). IsCond s it.0.0) (get_or_from_slice_get tokens i item item c.item-item.ensures) (c.requires.own i item (slice_get_within tokens i item c.item-item.ensures)))

pub loop-index-preserved : goal.loop-index-preserved
loop-index-preserved g c =
    let s = g.C.Conditions.sets c.args.conds.now in
    let mid = g.C.Conditions.sets c.loop-index.conds in
    let now = g.C.Conditions.sets c.advance.new.conds in
    let was = c.loop-index.invariant in
    let tokens = g.L.TokenList.tokens c.args.list.now in
    let item : Cond × Token = (c.item-item.result.0, c.item-item.result.1) in
    let i = c.loop-index.index in
    let own : IsCond s item.0.0 = subst (λ (it : Cond × Token). IsCond s it.0.0) (get_or_from_slice_get tokens i item item c.item-item.ensures) (c.requires.own i item (slice_get_within tokens i item c.item-item.ensures)) in
    record {
      keeps = Keeps-trans was.keeps c.advance.ensures.keeps;
      own = c.in_ok-states.ensures.own;
      shallow = c.in_ok-states.ensures.shallow i was.shallow;
      states = λ test x listed.
          read_more s mid now c.args.names.now tokens i item c.role_of-role.result c.loop-index.states.items c.in_ok-states.states.items test x
          (s.has c.args.cond.0 x && test (state_after s c.args.names.now (drop (c.args.at + 1) tokens) x Alone)) c.item-item.ensures c.role_of-role.ensures (was.keeps.at _ x own listed) (was.states test x listed)
          (λ test. c.in_ok-states.ensures.states test x (IsConfig-Keeps was.keeps listed));
    }

pub returns-clause-states : goal.returns-clause-states
returns-clause-states g c = λ test x listed.
    let s = g.C.Conditions.sets c.args.conds.now in
    let mid = g.C.Conditions.sets c.loop-index.conds in
    let tokens = g.L.TokenList.tokens c.args.list.now in
    let past : length tokens ≤ c.loop-index.index = omega arith in
    ap (λ (items : List (Cond × Token)). in_states mid c.loop-index.states.items (λ st. test (state_after s c.args.names.now items x st)) x) (sym (drop_all c.loop-index.index tokens past)) ∙ c.loop-index.invariant.states test x listed
