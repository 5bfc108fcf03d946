use Rattle.std.proofs.Common.{◌≡◌, ℕ, ◌∙◌, ◌∷◌, [], List, All, subst, sym, if◌then◌else◌, IfOk, IfErr}
use Rattle.std.proofs.lemmas.List.Elements.{All-map}
use Rattle.sc_base.specs.declared.id.Cond.{Cond}
use Rattle.sc_base.specs.declared.token.Token.{Token}
use Rattle.sc_hoist.specs.Branches.{lists_at, Refuses}
use Rattle.sc_hoist.specs.Places.{places_from}
use Rattle.sc_model.specs.Sets.{IsConfig, IsCond}
use Rattle.sc_hoist.proofs.line_branches.lines.Goals as goal

pub branches_of-requires-clause-own : goal.branches_of-requires-clause-own
branches_of-requires-clause-own g c =
    let P : Cond → Type 0 = λ cond. IsCond (g.C.Conditions.sets c.args.conds.now) cond.0 in
    subst (All P) (sym (c.deref.ensures.value ∙ c.in_ok-items.ensures)) (All-map P (λ (item : Cond × Token). item.0) (g.L.TokenList.tokens c.args.list.now) c.requires.own)

pub returns-clause-lists : goal.returns-clause-lists
returns-clause-lists g c =
    let s = g.C.Conditions.sets c.args.conds.now in
    subst (λ (ks : List Cond). IfOk c.branches_of.result (λ r. (x : List ℕ) → IsConfig s.arities x → lists_at (g.C.Conditions.sets c.branches_of.new.conds) r.items x ≡ (if s.has c.args.cond.0 x then places_from s 0 ks x ∷ [] else [])))
    (c.deref.ensures.value ∙ c.in_ok-items.ensures) c.branches_of.ensures.lists

pub returns-clause-refused : goal.returns-clause-refused
returns-clause-refused g c =
    let s = g.C.Conditions.sets c.args.conds.now in
    subst (λ (ks : List Cond). IfErr c.branches_of.result (λ stop. Refuses s c.args.cond.0 (λ x. places_from s 0 ks x) c.args.limit stop)) (c.deref.ensures.value ∙ c.in_ok-items.ensures) c.branches_of.ensures.refused
