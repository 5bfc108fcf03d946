use Rattle.std.proofs.Common.{◌≡◌, ◌<◌, All, List, length, map, sym, subst, true}
use Rattle.sc_prep.proofs.BranchTokens.{alternatives-at, alternatives-each, alternatives-own, alternatives-some, bare-same, branches-below}
use Rattle.sc_prep.proofs.Facts.{Denotes-self, Keeps-refl, err_from_is_err_and}
use Rattle.sc_prep.proofs.Refusing.{stops-by, stops-by-lists}
use Rattle.sc_prep.proofs.Terms.{Branch, Cond, IsCond, IsHeld, Refuses, Token, alternative_tokens, branch_tokens, places_at}
use Rattle.sc_prep.proofs.alternatives.alternatives.Goals as goal

pub lines-requires-clause-own : goal.lines-requires-clause-own
lines-requires-clause-own g c =
    let s = g.C.Conditions.sets c.args.conds.now in
    let P : Cond × Token → Type 0 = λ item. IsCond s item.0.0 in
    subst (All P) (sym (bare-same c.args.list.now)) c.requires.list_own

pub returns-in_err-branches-clause-stops : goal.returns-in_err-branches-clause-stops
returns-in_err-branches-clause-stops g c =
    let s = g.C.Conditions.sets c.args.conds.now in
    let p = err_from_is_err_and c.from_residual.result c.from_residual.ensures.1 in
    rw (p.1, p.2) (stops-by s c.args.cond.0 _ c.args.limit _ c.in_err-branches.ensures.refused)

pub of_branches-requires : goal.of_branches-requires
of_branches-requires g c =
    let P : Branch → Type 0 = λ b. All (λ p. p < length c.args.list.now) b.places.items in
    subst (All P) (sym c.deref.ensures.value)
    (branches-below c.args.list.now c.args.cond.0 c.in_ok-branches.branches.items c.lines.ensures.keeps c.in_ok-branches.ensures.branches c.in_ok-branches.ensures.lists)

pub returns-clause-at : goal.returns-clause-at
returns-clause-at g c =
    alternatives-at c.args.list.now c.args.cond.0 c.in_ok-branches.branches.items c.lines.ensures.keeps c.in_ok-branches.ensures.branches c.in_ok-branches.ensures.lists c.in_ok-alternatives.alternatives.items
    (subst (λ bs. map alternative_tokens c.in_ok-alternatives.alternatives.items ≡ map (branch_tokens c.args.list.now) bs) c.deref.ensures.value c.in_ok-alternatives.ensures)

pub returns-clause-own : goal.returns-clause-own
returns-clause-own g c =
    alternatives-own c.args.list.now c.args.cond.0 c.in_ok-branches.branches.items c.lines.ensures.keeps c.in_ok-branches.ensures.branches c.in_ok-branches.ensures.lists c.in_ok-alternatives.alternatives.items
    (subst (λ bs. map alternative_tokens c.in_ok-alternatives.alternatives.items ≡ map (branch_tokens c.args.list.now) bs) c.deref.ensures.value c.in_ok-alternatives.ensures)

pub returns-clause-held : goal.returns-clause-held
returns-clause-held g c = λ names.
    alternatives-each c.args.list.now c.args.cond.0 c.in_ok-branches.branches.items c.lines.ensures.keeps c.in_ok-branches.ensures.branches c.in_ok-branches.ensures.lists c.in_ok-alternatives.alternatives.items
    (subst (λ bs. map alternative_tokens c.in_ok-alternatives.alternatives.items ≡ map (branch_tokens c.args.list.now) bs) c.deref.ensures.value c.in_ok-alternatives.ensures) (IsHeld names)

pub returns-clause-passed : goal.returns-clause-passed
returns-clause-passed g c = λ test.
    alternatives-each c.args.list.now c.args.cond.0 c.in_ok-branches.branches.items c.lines.ensures.keeps c.in_ok-branches.ensures.branches c.in_ok-branches.ensures.lists c.in_ok-alternatives.alternatives.items
    (subst (λ bs. map alternative_tokens c.in_ok-alternatives.alternatives.items ≡ map (branch_tokens c.args.list.now) bs) c.deref.ensures.value c.in_ok-alternatives.ensures) (λ (t : Token). test t ≡ true)

pub returns-clause-some : goal.returns-clause-some
returns-clause-some g c =
    alternatives-some c.args.list.now c.args.cond.0 c.in_ok-branches.branches.items c.lines.ensures.keeps c.in_ok-branches.ensures.branches c.in_ok-branches.ensures.lists c.in_ok-alternatives.alternatives.items
    (subst (λ bs. map alternative_tokens c.in_ok-alternatives.alternatives.items ≡ map (branch_tokens c.args.list.now) bs) c.deref.ensures.value c.in_ok-alternatives.ensures)

pub returns-in_err-branches-clause-lists : goal.returns-in_err-branches-clause-lists
returns-in_err-branches-clause-lists g c =
    let s = g.C.Conditions.sets c.args.conds.now in
    let p = err_from_is_err_and c.from_residual.result c.from_residual.ensures.1 in
    let own = subst (λ (l : List (Cond × Token)). Refuses s c.args.cond.0 (λ config. places_at s l config) c.args.limit c.in_err-branches.field-0.0) (bare-same c.args.list.now) c.in_err-branches.ensures.refused in
    rw (p.1, p.2) (stops-by-lists (Keeps-refl s) (Denotes-self s c.args.cond.0 c.requires.cond_own) c.args.list.now c.requires.list_own c.args.limit _ own)
