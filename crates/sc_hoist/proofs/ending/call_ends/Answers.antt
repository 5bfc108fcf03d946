use Rattle.std.proofs.Common.{◌+◌, List, drop, subst}
use Rattle.sc_hoist.specs.Calls.{closed, still, bare, alone}
use Rattle.sc_hoist.specs.declared.state.Test.TheVariants.{IsClosed, IsStill, IsBare, IsAlone}
use Rattle.sc_hoist.specs.declared.states.Entry.{Entry}
use Rattle.sc_hoist.specs.Reading.{in_states, passes}
use Rattle.sc_hoist.proofs.StateLemmas.{Denotes-end}
use Rattle.sc_model.proofs.SetLemmas.{Keeps-refl, Keeps-trans}
use Rattle.sc_model.specs.Sets.{Denotes}
use Rattle.sc_hoist.proofs.ending.call_ends.Goals as goal

pub returns-in_err-still-clause-keeps : goal.returns-in_err-still-clause-keeps
returns-in_err-still-clause-keeps g c = Keeps-trans c.states_behind.ensures.keeps (Keeps-trans c.passing.ensures.keeps c.passing-2.ensures.keeps)

pub returns-in_err-bare-clause-keeps : goal.returns-in_err-bare-clause-keeps
returns-in_err-bare-clause-keeps g c = Keeps-trans c.states_behind.ensures.keeps (Keeps-trans c.passing.ensures.keeps (Keeps-trans c.passing-2.ensures.keeps c.passing-3.ensures.keeps))

pub returns-in_err-alone-clause-keeps : goal.returns-in_err-alone-clause-keeps
returns-in_err-alone-clause-keeps g c =
    Keeps-trans c.states_behind.ensures.keeps (Keeps-trans c.passing.ensures.keeps (Keeps-trans c.passing-2.ensures.keeps (Keeps-trans c.passing-3.ensures.keeps c.passing-4.ensures.keeps)))

pub returns-clause-keeps : goal.returns-clause-keeps
returns-clause-keeps g c =
    Keeps-trans c.states_behind.ensures.keeps (Keeps-trans c.passing.ensures.keeps (Keeps-trans c.passing-2.ensures.keeps (Keeps-trans c.passing-3.ensures.keeps c.passing-4.ensures.keeps)))

pub returns-clause-closed : goal.returns-clause-closed
returns-clause-closed g c =
    let sets = g.C.Conditions.sets in
    let start = c.states_behind.ensures.keeps in
    Denotes-end c.args.cond.0 c.args.names.now (drop (c.args.at + 1) (g.L.TokenList.tokens c.args.list.now)) closed c.in_ok-states.states.items start c.in_ok-states.ensures.own c.in_ok-states.ensures.states
    (Keeps-refl (sets c.states_behind.new.conds)) c.passing.ensures.keeps
    (subst (λ (es : List Entry). Denotes (sets c.passing.new.conds) c.in_ok-closed.closed.0 (λ x. in_states (sets c.states_behind.new.conds) es (passes IsClosed) x)) c.deref.ensures.value c.in_ok-closed.ensures.meaning)
    (Keeps-trans c.passing-2.ensures.keeps (Keeps-trans c.passing-3.ensures.keeps c.passing-4.ensures.keeps))

pub returns-clause-still : goal.returns-clause-still
returns-clause-still g c =
    let sets = g.C.Conditions.sets in
    let start = c.states_behind.ensures.keeps in
    Denotes-end c.args.cond.0 c.args.names.now (drop (c.args.at + 1) (g.L.TokenList.tokens c.args.list.now)) still c.in_ok-states.states.items start c.in_ok-states.ensures.own c.in_ok-states.ensures.states
    c.passing.ensures.keeps c.passing-2.ensures.keeps
    (subst (λ (es : List Entry). Denotes (sets c.passing-2.new.conds) c.in_ok-still.still.0 (λ x. in_states (sets c.passing.new.conds) es (passes IsStill) x)) c.deref-2.ensures.value c.in_ok-still.ensures.meaning)
    (Keeps-trans c.passing-3.ensures.keeps c.passing-4.ensures.keeps)

pub returns-clause-bare : goal.returns-clause-bare
returns-clause-bare g c =
    let sets = g.C.Conditions.sets in
    let start = c.states_behind.ensures.keeps in
    Denotes-end c.args.cond.0 c.args.names.now (drop (c.args.at + 1) (g.L.TokenList.tokens c.args.list.now)) bare c.in_ok-states.states.items start c.in_ok-states.ensures.own c.in_ok-states.ensures.states
    (Keeps-trans c.passing.ensures.keeps c.passing-2.ensures.keeps) c.passing-3.ensures.keeps
    (subst (λ (es : List Entry). Denotes (sets c.passing-3.new.conds) c.in_ok-bare.bare.0 (λ x. in_states (sets c.passing-2.new.conds) es (passes IsBare) x)) c.deref-3.ensures.value c.in_ok-bare.ensures.meaning)
    c.passing-4.ensures.keeps

pub returns-clause-alone : goal.returns-clause-alone
returns-clause-alone g c =
    let sets = g.C.Conditions.sets in
    let start = c.states_behind.ensures.keeps in
    Denotes-end c.args.cond.0 c.args.names.now (drop (c.args.at + 1) (g.L.TokenList.tokens c.args.list.now)) alone c.in_ok-states.states.items start c.in_ok-states.ensures.own c.in_ok-states.ensures.states
    (Keeps-trans c.passing.ensures.keeps (Keeps-trans c.passing-2.ensures.keeps c.passing-3.ensures.keeps)) c.passing-4.ensures.keeps
    (subst (λ (es : List Entry). Denotes (sets c.passing-4.new.conds) c.in_ok-alone.alone.0 (λ x. in_states (sets c.passing-3.new.conds) es (passes IsAlone) x)) c.deref-4.ensures.value c.in_ok-alone.ensures.meaning)
    (Keeps-refl (sets c.passing-4.new.conds))
