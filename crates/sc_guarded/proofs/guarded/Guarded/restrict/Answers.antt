use Rattle.std.proofs.Common.{◌≡◌, ◌++◌, ◌&&◌, ◌∙◌, ap, ℕ, Bool, List, map, take, drop}
use Rattle.sc_base.specs.declared.id.Cond.{Cond}
use Rattle.sc_guarded.proofs.RestrictionLemmas.{front_same, each_met, rest_met, all_own}
use Rattle.sc_guarded.proofs.guarded.Guarded.restrict.Given.{Over}
use Rattle.sc_guarded.proofs.guarded.Guarded.restrict.Goals as goal
use Rattle.sc_guarded.proofs.guarded.Guarded.restrict.Goals.{After-drop-met}
use Rattle.sc_model.specs.Sets.{IsConfig}

-- the conditions of the new list
conditions : (g : Over) (c : After-drop-met g) → map (λ (item : Cond × g.row.T.Denot). item.0) c.set_conditions.new.items.items ≡ take c.args.from (map (λ (item : Cond × g.row.T.Denot). item.0) c.args.self.now) ++ c.in_ok-met.met.items
conditions g c =
    let f : Cond × g.row.T.Denot → Cond = λ item. item.0 in
    c.set_conditions.ensures.conditions
    ∙ (ap (λ xs. take c.args.from (map f xs) ++ c.deref-2.result.now) c.self.view_is ∙ ap (λ met. take c.args.from (map f c.args.self.now) ++ met) c.deref-2.ensures.value)

-- the items of the new list
items : (g : Over) (c : After-drop-met g) → map (λ (item : Cond × g.row.T.Denot). item.1) c.set_conditions.new.items.items ≡ map (λ (item : Cond × g.row.T.Denot). item.1) c.args.self.now
items g c = c.set_conditions.ensures.items ∙ ap (map (λ (item : Cond × g.row.T.Denot). item.1)) c.self.view_is

pub returns-clause-front : goal.returns-clause-front
returns-clause-front g c = front_same c.set_conditions.new.items.items c.args.self.now c.args.from c.in_ok-met.met.items c.requires.from (conditions g c) (items g c)

-- the met conditions, by the old list
meaning : (g : Over) (c : After-drop-met g) (x : List ℕ) → IsConfig (g.C.Conditions.sets c.args.conds.now).arities x
    → map (λ (cond : Cond). (g.C.Conditions.sets c.meets.new.conds).has cond.0 x) c.in_ok-met.met.items
    ≡ map (λ (item : Cond × g.row.T.Denot). (g.C.Conditions.sets c.args.conds.now).has item.0.0 x && (g.C.Conditions.sets c.args.conds.now).has c.args.by.0 x) (drop c.args.from c.args.self.now)
meaning g c x listed =
    let first = g.C.Conditions.sets c.args.conds.now in
    let F : Cond × g.row.T.Denot → Bool = λ item. first.has item.0.0 x && first.has c.args.by.0 x in
    c.in_ok-met.ensures.meaning x listed ∙ ap (λ xs. map F (drop c.args.from xs)) (c.deref.ensures.value ∙ c.self.view_is)

pub returns-clause-each : goal.returns-clause-each
returns-clause-each g c = λ x listed.
    let first = g.C.Conditions.sets c.args.conds.now in
    let now = g.C.Conditions.sets c.meets.new.conds in
    each_met c.set_conditions.new.items.items c.args.self.now c.args.from c.in_ok-met.met.items c.requires.from (conditions g c) (items g c) first now (first.has c.args.by.0 x) x (meaning g c x listed)

pub returns-clause-rest : goal.returns-clause-rest
returns-clause-rest g c = λ x listed.
    let first = g.C.Conditions.sets c.args.conds.now in
    let now = g.C.Conditions.sets c.meets.new.conds in
    rest_met c.set_conditions.new.items.items c.args.self.now c.args.from c.in_ok-met.met.items c.requires.from (conditions g c) (items g c) first now (first.has c.args.by.0 x) x (meaning g c x listed)

pub returns-clause-own : goal.returns-clause-own
returns-clause-own g c =
    let now = g.C.Conditions.sets c.meets.new.conds in
    all_own c.set_conditions.new.items.items c.args.self.now c.args.from c.in_ok-met.met.items c.requires.from (conditions g c) (items g c) now
    (λ k d h. c.meets.ensures.keeps.own _ (c.requires.own k d h)) c.in_ok-met.ensures.own
