use Rattle.std.proofs.Common.{◌≡◌, ℕ, ◌+◌, ◌<◌, ◌≤◌, ◌∙◌, ◌&&◌, ◌∷◌, ◌++◌, [], List, All, drop, length, length-append, slice_get, Some, ap, subst, sym, arith, true}
use Rattle.std.proofs.lemmas.List.{drop_all}
use Rattle.std.proofs.lemmas.List.Elements.{All-push}
use Rattle.std.proofs.lemmas.Option.{slice_get_within, get_or_from_slice_get}
use Rattle.sc_base.specs.declared.id.Cond.{Cond}
use Rattle.sc_base.specs.declared.token.Token.{Token}
use Rattle.sc_hoist.specs.Places.{places_from}
use Rattle.sc_hoist.specs.Reading.{in_states, is_final, state_after, takes, taken_from}
use Rattle.sc_hoist.specs.declared.state.State.TheVariants.{Alone}
use Rattle.sc_hoist.specs.declared.states.Entry.{Entry}
use Rattle.sc_hoist.proofs.ItemLemmas.{IsRead-all, IsRead-final, IsRead-more, places_from-Keeps, places_more}
use Rattle.sc_hoist.proofs.StateLemmas.{AreEntries-Keeps, in_states-final, in_states-Keeps, read_more}
use Rattle.sc_model.proofs.SetLemmas.{Keeps-trans, IsConfig-Keeps, Denotes-Keeps, Denotes-self}
use Rattle.sc_model.specs.Sets.{IsCond, Sets}
use Rattle.sc_hoist.proofs.call_items.call_items.Goals as goal

item_own : (s : Sets) (tokens : List (Cond × Token)) (i : ℕ) (item : Cond × Token) → All (λ (it : Cond × Token). IsCond s it.0.0) tokens → slice_get tokens i ≡ Some item → IsCond s item.0.0
item_own s tokens i item own is = subst (λ (it : Cond × Token). IsCond s it.0.0) (get_or_from_slice_get tokens i item item is) (own i item (slice_get_within tokens i item is))

pub returns-then-all_final-clause-states : goal.returns-then-all_final-clause-states
returns-then-all_final-clause-states g c = λ test x listed.
    let s = g.C.Conditions.sets c.args.conds.now in
    let mid = g.C.Conditions.sets c.loop-index.conds in
    let P : Entry → Type 0 = λ e. is_final e.state ≡ true in
    let final : All P c.loop-index.states.items = subst (All P) c.deref.ensures.value (c.all_final.ensures c.if-all_final.true) in
    in_states-final s mid c.args.names.now (drop c.loop-index.index (g.L.TokenList.tokens c.args.list.now)) c.loop-index.states.items test x final ∙ c.loop-index.invariant.states test x listed

pub returns-then-all_final-clause-places : goal.returns-then-all_final-clause-places
returns-then-all_final-clause-places g c = λ x listed had.
    let P : Entry → Type 0 = λ e. is_final e.state ≡ true in
    let final : All P c.loop-index.states.items = subst (All P) c.deref.ensures.value (c.all_final.ensures c.if-all_final.true) in
    IsRead-final final (c.loop-index.invariant.read x listed had)

pub role_of-role-requires : goal.role_of-role-requires
role_of-role-requires g c =
    let tokens = g.L.TokenList.tokens c.args.list.now in
    let item : Cond × Token = (c.item-item.result.0, c.item-item.result.1) in
    let i = c.loop-index.index in
    subst (λ (it : Cond × Token). it.1.spelling.0 < length c.args.names.now) (get_or_from_slice_get tokens i item item c.item-item.ensures) (c.requires.held i item (slice_get_within tokens i item c.item-item.ensures))

pub returns-in_err-taking-clause-keeps : goal.returns-in_err-taking-clause-keeps
returns-in_err-taking-clause-keeps g c = Keeps-trans c.loop-index.invariant.keeps c.passing.ensures.keeps

pub apply_and-requires-clause-a_own : goal.apply_and-requires-clause-a_own
apply_and-requires-clause-a_own g c =
    let s = g.C.Conditions.sets c.args.conds.now in
    let item : Cond × Token = (c.item-item.result.0, c.item-item.result.1) in
    (Keeps-trans c.loop-index.invariant.keeps c.passing.ensures.keeps).own _ (item_own s (g.L.TokenList.tokens c.args.list.now) c.loop-index.index item c.requires.own c.item-item.ensures)

pub returns-in_err-having-clause-keeps : goal.returns-in_err-having-clause-keeps
returns-in_err-having-clause-keeps g c = Keeps-trans c.loop-index.invariant.keeps (Keeps-trans c.passing.ensures.keeps c.apply_and.ensures.keeps)

pub returns-in_err-push-3-clause-keeps : goal.returns-in_err-push-3-clause-keeps
returns-in_err-push-3-clause-keeps g c = Keeps-trans c.loop-index.invariant.keeps (Keeps-trans c.passing.ensures.keeps c.apply_and.ensures.keeps)

pub advance-requires-clause-own : goal.advance-requires-clause-own
advance-requires-clause-own g c = AreEntries-Keeps (Keeps-trans c.passing.ensures.keeps c.apply_and.ensures.keeps) c.loop-index.invariant.states_own

pub advance-requires-clause-item_own : goal.advance-requires-clause-item_own
advance-requires-clause-item_own g c =
    let s = g.C.Conditions.sets c.args.conds.now in
    let item : Cond × Token = (c.item-item.result.0, c.item-item.result.1) in
    (Keeps-trans c.loop-index.invariant.keeps (Keeps-trans c.passing.ensures.keeps c.apply_and.ensures.keeps)).own _ (item_own s (g.L.TokenList.tokens c.args.list.now) c.loop-index.index item c.requires.own c.item-item.ensures)

pub returns-in_err-states-clause-keeps : goal.returns-in_err-states-clause-keeps
returns-in_err-states-clause-keeps g c = Keeps-trans (Keeps-trans c.loop-index.invariant.keeps (Keeps-trans c.passing.ensures.keeps c.apply_and.ensures.keeps)) c.advance.ensures.keeps

pub loop-index-preserved : goal.loop-index-preserved
loop-index-preserved g c =
    let s = g.C.Conditions.sets c.args.conds.now in
    let mid = g.C.Conditions.sets c.loop-index.conds in
    let between = g.C.Conditions.sets c.apply_and.new.self in
    let now = g.C.Conditions.sets c.advance.new.conds in
    let was = c.loop-index.invariant in
    let names = c.args.names.now in
    let tokens = g.L.TokenList.tokens c.args.list.now in
    let item : Cond × Token = (c.item-item.result.0, c.item-item.result.1) in
    let i = c.loop-index.index in
    let at = c.args.at in
    let role = c.role_of-role.result in
    let states = c.loop-index.states.items in
    let taken = c.loop-index.taken.items in
    let having = c.in_ok-having.having in
    let pushed = c.push-in-loop-index.new.self.items in
    let own : IsCond s item.0.0 = item_own s tokens i item c.requires.own c.item-item.ensures in
    let later = Keeps-trans c.passing.ensures.keeps c.apply_and.ensures.keeps in
    let whole = Keeps-trans was.keeps later in
    let all = Keeps-trans later c.advance.ensures.keeps in
    let is_pushed : pushed ≡ taken ++ having ∷ [] = c.in_ok-push-3.ensures.items in
    let longer : length pushed ≡ length taken + 1 = ap length is_pushed ∙ length-append taken (having ∷ []) in
    let P : Cond → Type 0 = λ item. IsCond now item.0 in
    let told = c.in_ok-having.ensures.meaning _ _ (Denotes-Keeps (Keeps-trans was.keeps c.passing.ensures.keeps) (Denotes-self s item.0.0 own)) c.in_ok-taking.ensures.meaning in
    record {
      keeps = Keeps-trans whole c.advance.ensures.keeps;
      own = subst (All P) (sym {A = List Cond} is_pushed) (All-push P taken having (λ k d h. all.own _ (was.own k d h)) (c.advance.ensures.keeps.own _ c.in_ok-having.ensures.own));
      states_own = c.in_ok-states.ensures.own;
      shallow = c.in_ok-states.ensures.shallow i was.shallow;
      long = omega (arith, longer, was.long);
      states = λ test x listed.
          read_more s between now names tokens i item role states c.in_ok-states.states.items test x (s.has c.args.cond.0 x && test (state_after s names (drop (at + 1) tokens) x Alone)) c.item-item.ensures c.role_of-role.ensures
          (whole.at _ x own listed)
          (in_states-Keeps states (λ st. test (state_after s names (drop i tokens) x st)) x later was.states_own.own (IsConfig-Keeps was.keeps listed) ∙ was.states test x listed)
          (λ test. c.in_ok-states.ensures.states test x (IsConfig-Keeps whole listed));
      read = λ x listed had.
          let here = IsConfig-Keeps whole listed in
          let there = IsConfig-Keeps was.keeps listed in
          IsRead-more s mid between now names tokens i item role states c.in_ok-states.states.items (places_from mid at taken x) (places_from now at pushed x) (at ∷ taken_from s names Alone (at + 1) (drop (at + 1) tokens) x) x
          (now.has having.0 x) c.item-item.ensures c.role_of-role.ensures (whole.at _ x own listed)
          (c.advance.ensures.keeps.at _ x c.in_ok-having.ensures.own here ∙ (told.at x here ∙ ap (λ (es : List Entry). s.has item.0.0 x && in_states mid es (takes role) x) c.deref-in-loop-index.ensures.value))
          (ap (λ (items : List Cond). places_from now at items x) is_pushed ∙ places_more now mid at i taken having x was.long (places_from-Keeps at taken x all was.own there))
          (λ test. in_states-Keeps states test x later was.states_own.own there)
          (λ test. c.in_ok-states.ensures.states test x here)
          (was.read x listed had);
    }

pub returns-clause-states : goal.returns-clause-states
returns-clause-states g c = λ test x listed.
    let s = g.C.Conditions.sets c.args.conds.now in
    let mid = g.C.Conditions.sets c.loop-index.conds in
    let tokens = g.L.TokenList.tokens c.args.list.now in
    let past : length tokens ≤ c.loop-index.index = omega arith in
    ap (λ (items : List (Cond × Token)). in_states mid c.loop-index.states.items (λ st. test (state_after s c.args.names.now items x st)) x) (sym (drop_all c.loop-index.index tokens past)) ∙ c.loop-index.invariant.states test x listed

pub returns-clause-places : goal.returns-clause-places
returns-clause-places g c = λ x listed had.
    let past : length (g.L.TokenList.tokens c.args.list.now) ≤ c.loop-index.index = omega arith in
    IsRead-all past (c.loop-index.invariant.read x listed had)
