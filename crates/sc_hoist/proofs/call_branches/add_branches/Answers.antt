use Rattle.std.proofs.Common.{◌∙◌, List, All, subst, sym}
use Rattle.std.proofs.lemmas.Result.{err_from_is_err_and}
use Rattle.sc_base.specs.declared.id.Cond.{Cond}
use Rattle.sc_hoist.specs.Places.{places_from}
use Rattle.sc_hoist.specs.Reading.{in_states, passes}
use Rattle.sc_hoist.proofs.CallBranchLemmas.{AreMet-Keeps, AreMet-more, Agree-more, Refuses-wider, ends_at-more, has_state, lists_at-more, part_is, places_seen}
use Rattle.sc_model.proofs.SetLemmas.{Keeps-trans, IsConfig-Keeps}
use Rattle.sc_model.specs.Sets.{IsCond}
use Rattle.sc_hoist.proofs.call_branches.add_branches.Goals as goal

pub branches_of-requires-clause-own : goal.branches_of-requires-clause-own
branches_of-requires-clause-own g c =
    let P : Cond → Type 0 = λ item. IsCond (g.C.Conditions.sets c.passing.new.conds) item.0 in
    subst (All P) (sym {A = List Cond} c.deref-2.ensures.value) (λ k d h. c.passing.ensures.keeps.own _ (c.requires.own k d h))

pub returns-in_err-found-clause-refused : goal.returns-in_err-found-clause-refused
returns-in_err-found-clause-refused g c =
    let s = g.C.Conditions.sets c.args.conds.now in
    let mid = g.C.Conditions.sets c.passing.new.conds in
    let keeps = c.passing.ensures.keeps in
    let read = c.args.read.now in
    let p = err_from_is_err_and c.from_residual-in_err-found.result c.from_residual-in_err-found.ensures.1 in
    rw (p.1, p.2)
    (λ cond within.
    Refuses-wider c.in_ok-cond.cond.0 cond (λ x. places_from mid c.args.at c.deref-2.result.now x) (λ x. places_from s c.args.at read.conds.items x) c.args.limit _ keeps
    (λ x listed had. within x listed (sym (has_state s mid read.states.items c.deref.result.now (passes c.args.test) c.in_ok-cond.cond.0 x c.deref.ensures.value c.in_ok-cond.ensures.meaning (IsConfig-Keeps keeps listed)) ∙ had))
    (λ x listed had. places_seen s mid c.args.at read.conds.items c.deref-2.result.now x c.deref-2.ensures.value keeps c.requires.own listed)
    c.in_err-found.ensures.refused)

pub returns-in_err-found-clause-keeps : goal.returns-in_err-found-clause-keeps
returns-in_err-found-clause-keeps g c = Keeps-trans c.passing.ensures.keeps c.branches_of.ensures.keeps

pub returns-in_err-push_all-clause-keeps : goal.returns-in_err-push_all-clause-keeps
returns-in_err-push_all-clause-keeps g c = Keeps-trans c.passing.ensures.keeps c.branches_of.ensures.keeps

pub returns-clause-keeps : goal.returns-clause-keeps
returns-clause-keeps g c = Keeps-trans c.passing.ensures.keeps c.branches_of.ensures.keeps

pub returns-clause-added : goal.returns-clause-added
returns-clause-added g c =
    let s = g.C.Conditions.sets c.args.conds.now in
    let mid = g.C.Conditions.sets c.passing.new.conds in
    let first = c.passing.ensures.keeps in
    let keeps = Keeps-trans first c.branches_of.ensures.keeps in
    let at = c.args.at in
    let read = c.args.read.now in
    let before = c.args.branches.now.items in
    let found = c.in_ok-found.found.items in
    let made = c.push_all.new.branches.items in
    let test = passes c.args.test in
    let is = c.in_ok-push_all.ensures in
    let cond = c.in_ok-cond.cond.0 in
    record {
      met = AreMet-more before found made c.args.ends (AreMet-Keeps keeps c.requires.met) c.in_ok-found.ensures.branches.own c.in_ok-found.ensures.branches.some is;
      lists = λ x listed.
          lists_at-more before found made c.args.ends x (in_states s read.states.items test x) (places_from s at read.conds.items x) keeps c.requires.met listed is
          (c.in_ok-found.ensures.lists x (IsConfig-Keeps first listed)
          ∙ part_is _ _ _ _ (has_state s mid read.states.items c.deref.result.now test cond x c.deref.ensures.value c.in_ok-cond.ensures.meaning (IsConfig-Keeps first listed))
          (places_seen s mid at read.conds.items c.deref-2.result.now x c.deref-2.ensures.value first c.requires.own listed));
      ends = λ x listed.
          ends_at-more before found made c.args.ends x (in_states s read.states.items test x) (places_from s at read.conds.items x) keeps c.requires.met listed is
          (c.in_ok-found.ensures.lists x (IsConfig-Keeps first listed)
          ∙ part_is _ _ _ _ (has_state s mid read.states.items c.deref.result.now test cond x c.deref.ensures.value c.in_ok-cond.ensures.meaning (IsConfig-Keeps first listed))
          (places_seen s mid at read.conds.items c.deref-2.result.now x c.deref-2.ensures.value first c.requires.own listed));
      agree = λ x y x_listed y_listed same places were.
          Agree-more before found made c.args.ends x y keeps c.requires.met x_listed y_listed is were
          (c.in_ok-found.ensures.agree x y (IsConfig-Keeps first x_listed) (IsConfig-Keeps first y_listed)
          (has_state s mid read.states.items c.deref.result.now test cond x c.deref.ensures.value c.in_ok-cond.ensures.meaning (IsConfig-Keeps first x_listed)
          ∙ (same ∙ sym (has_state s mid read.states.items c.deref.result.now test cond y c.deref.ensures.value c.in_ok-cond.ensures.meaning (IsConfig-Keeps first y_listed))))
          (places_seen s mid at read.conds.items c.deref-2.result.now x c.deref-2.ensures.value first c.requires.own x_listed
          ∙ (places ∙ sym (places_seen s mid at read.conds.items c.deref-2.result.now y c.deref-2.ensures.value first c.requires.own y_listed))));
    }
