use Rattle.std.proofs.Common.{◌≡◌, ◌∙◌, ◌||◌, ◌&&◌, Bool, get_or, ap, sym, subst}
use Rattle.sc_hoist.specs.declared.states.Entry.{Entry}
use Rattle.sc_hoist.specs.declared.state.State.{State}
use Rattle.sc_hoist.specs.Reading.{in_states}
use Rattle.sc_hoist.proofs.StateLemmas.{in_states-set, in_states-Keeps}
use Rattle.sc_model.proofs.SetLemmas.{Denotes-self, IsConfig-Keeps}
use Rattle.sc_model.specs.Sets.{IsCond}
use Rattle.sc_hoist.proofs.states.join.Goals as goal

pub returns-clause-states : goal.returns-clause-states
returns-clause-states g c = λ state is test x listed.
    let s = g.C.Conditions.sets c.args.conds.now in
    let now = g.C.Conditions.sets c.apply_or.new.self in
    let keeps = c.apply_or.ensures.keeps in
    let entry = c.index-entry.result.now in
    let xs = c.args.entries.now.items in
    let i = c.args.index in
    let here = IsConfig-Keeps keeps listed in
    let read : entry ≡ get_or xs i entry = c.index-entry.ensures in
    let own = c.requires.own.own i entry c.requires.index in
    let told = c.in_ok-either.ensures.meaning _ _ (Denotes-self s entry.cond.0 (subst (λ (e : Entry). IsCond s e.cond.0) (sym read) own)) (Denotes-self s c.args.cond.0 c.requires.cond_own) in
    let more : Bool = s.has c.args.cond.0 x in
    let e : Entry = record { state = entry.state; cond = c.in_ok-either.either } in
    let joined : now.has e.cond.0 x ≡ (now.has (get_or xs i entry).cond.0 x || more) =
    told.at x here ∙ ap (λ (b : Bool). b || more) (ap (λ (e : Entry). s.has e.cond.0 x) read ∙ sym (keeps.at _ x own listed)) in
    in_states-set now xs i e entry more test x c.requires.index (ap (λ (e : Entry). e.state) (sym read)) joined
    ∙ (ap (λ (b : Bool). b || (test entry.state && more)) (in_states-Keeps xs test x keeps c.requires.own.own listed)
    ∙ ap (λ (st : State). in_states s xs test x || (test st && more)) (ap (λ (e : Entry). e.state) read ∙ is entry))
