-- What a table of results says: each pair of it is one that was put in, and stays true as the store
-- grows.
use Rattle.std.proofs.Common.{◌≡◌, zero, suc, ◌==◌, ◌&&◌, ◌||◌, Bool, true, false, List, [], ◌∷◌, Contains, ◌⊎◌, inl, inr, refl, sym, ◌∙◌, ap, subst, arith, if◌then◌else◌, Option, Some, None, Result, Ok, Err}
use Rattle.std.specs.Prelude.{IfOk, IfErr, IfSome}
use Rattle.std.specs.List.{list_any}
use Rattle.std.proofs.lemmas.Bool.{cases_Bool, false≢true, eqb-true}
use Rattle.indexmap.specs.IndexMap.{insert_entry}
use Rattle.sc_base.specs.declared.id.Name.{Name}
use Rattle.sc_base.proofs.Growth.{Extends-within}
use Rattle.sc_model.specs.Growth.{Extends}
use Rattle.sc_subst.specs.declared.hidden.Hide.{Hide}
use Rattle.sc_subst.specs.declared.set_operation.SetOperation.{SetOperation}
use Rattle.sc_subst.specs.declared.set_operation.SetOperation.TheVariants.{With, Meet, Union}
use Rattle.sc_subst.specs.contracts.set_operation.SetOperationPartialEq.TheImpl as operation
use Rattle.sc_subst.specs.Hides.{set_at}
use Rattle.sc_subst.specs.Rising.{has_name}
use Rattle.sc_subst.specs.SetOperations.{IsSetOperation, Makes, IsMade, AreMade}
use Rattle.sc_subst.proofs.Later.{set_later}

both : (x y : Bool) → (x && y) ≡ true → (x ≡ true) × (y ≡ true)
both true true told = (refl, refl)
both true false told = absurd (false≢true told)
both false y told = absurd (false≢true told)

-- `==` tells operations apart
pub same_operation : (a b : SetOperation) → operation.eq-value.it a b ≡ true → a ≡ b
same_operation (With s n) (With t m) told =
    let is = both (s.0 == t.0) (n.0 == m.0) told in
    let set = eqb-true s.0 t.0 is.0 in
    let name = eqb-true n.0 m.0 is.1 in
    λ i. With (record { 0 = set i }) (record { 0 = name i })
same_operation (With s n) (Meet t u) told = absurd (false≢true told)
same_operation (With s n) (Union t u) told = absurd (false≢true told)
same_operation (Meet s r) (With t m) told = absurd (false≢true told)
same_operation (Meet s r) (Meet t u) told =
    let is = both (s.0 == t.0) (r.0 == u.0) told in
    let one = eqb-true s.0 t.0 is.0 in
    let two = eqb-true r.0 u.0 is.1 in
    λ i. Meet (record { 0 = one i }) (record { 0 = two i })
same_operation (Meet s r) (Union t u) told = absurd (false≢true told)
same_operation (Union s r) (With t m) told = absurd (false≢true told)
same_operation (Union s r) (Meet t u) told = absurd (false≢true told)
same_operation (Union s r) (Union t u) told =
    let is = both (s.0 == t.0) (r.0 == u.0) told in
    let one = eqb-true s.0 t.0 is.0 in
    let two = eqb-true r.0 u.0 is.1 in
    λ i. Union (record { 0 = one i }) (record { 0 = two i })

-- an insertion adds one pair at most
Contains-insert_entry : {K X : Type 0} (eq : K → K → Bool) → ((a b : K) → eq a b ≡ true → a ≡ b) → (es : List (K × X)) (k : K) (x : X) (e : K × X) → Contains (insert_entry eq es k x) e → Contains es e ⊎ (e ≡ (k, x))
Contains-insert_entry eq same [] k x e (zero, within, at) = inr (sym at)
Contains-insert_entry eq same [] k x e (suc i, within, at) = absurd (omega arith)
Contains-insert_entry {K} {X} eq same (y ∷ es) k x e has = elim (cases_Bool (eq k y.0)) [
  | inl told ↦ replaced (subst (λ b. Contains (if b then (y.0, x) ∷ es else y ∷ insert_entry eq es k x) e) told has) (sym (same k y.0 told))
  | inr other ↦ later (subst (λ b. Contains (if b then (y.0, x) ∷ es else y ∷ insert_entry eq es k x) e) other has) (Contains-insert_entry eq same es k x e)
]
  where
    replaced : Contains ((y.0, x) ∷ es) e → y.0 ≡ k → Contains (y ∷ es) e ⊎ (e ≡ (k, x))
    replaced (zero, within, at) is = inr (sym at ∙ ap (λ z. (z, x)) is)
    replaced (suc i, within, at) is = inl (suc i, omega arith, at)

    later : Contains (y ∷ insert_entry eq es k x) e → (Contains (insert_entry eq es k x) e → Contains es e ⊎ (e ≡ (k, x))) → Contains (y ∷ es) e ⊎ (e ≡ (k, x))
    later (zero, within, at) rest = inl (zero, omega arith, at)
    later (suc i, within, at) rest = elim (rest (i, omega arith, at)) [
      | inl has ↦ inl (suc has.0, omega (arith, has.1), has.2)
      | inr is ↦ inr is
    ]

-- one result more
pub AreMade-insert : (sets : List (List Name)) (known : List (SetOperation × Hide)) (what : SetOperation) (made : Hide)
    → AreMade sets known → IsMade sets what made → AreMade sets (insert_entry operation.eq-value.it known what made)
AreMade-insert sets known what made are is = record {
  each = λ e has. elim (Contains-insert_entry _ same_operation known what made e has) [
    | inl old ↦ are.each e old
    | inr new ↦ subst (λ p. IsMade sets p.0 p.1) (sym new) is
  ];
}

-- ---- as the store grows

operation_later : {old new : List (List Name)} (what : SetOperation) → Extends old new → IsSetOperation old what → IsSetOperation new what
operation_later (With set name) more own = Extends-within set.0 own more
operation_later (Meet one two) more own = (Extends-within one.0 own.0 more, Extends-within two.0 own.1 more)
operation_later (Union one two) more own = (Extends-within one.0 own.0 more, Extends-within two.0 own.1 more)

pub Makes-later : {old new : List (List Name)} (what : SetOperation) (made : List Name) → Extends old new → IsSetOperation old what → Makes old what made → Makes new what made
Makes-later {old} {new} (With set name) made more own makes = λ test. makes test ∙ ap (λ s. list_any test s || test name) (sym (set_later set.0 own more))
Makes-later {old} {new} (Meet one two) made more own makes =
    λ name. makes name ∙ (ap (λ s. has_name s name && has_name (set_at old two.0) name) (sym (set_later one.0 own.0 more))
    ∙ ap (λ s. has_name (set_at new one.0) name && has_name s name) (sym (set_later two.0 own.1 more)))
Makes-later {old} {new} (Union one two) made more own makes =
    λ test. makes test ∙ (ap (λ s. list_any test s || list_any test (set_at old two.0)) (sym (set_later one.0 own.0 more))
    ∙ ap (λ s. list_any test (set_at new one.0) || list_any test s) (sym (set_later two.0 own.1 more)))

pub IsMade-later : {old new : List (List Name)} (what : SetOperation) (made : Hide) → Extends old new → IsMade old what made → IsMade new what made
IsMade-later {old} {new} what made more is = record {
  operation = operation_later what more is.operation;
  own = Extends-within made.0 is.own more;
  makes = subst (Makes new what) (sym (set_later made.0 is.own more)) (Makes-later what (set_at old made.0) more is.operation is.makes);
}

pub AreMade-later : {old new : List (List Name)} (known : List (SetOperation × Hide)) → Extends old new → AreMade old known → AreMade new known
AreMade-later known more are = record { each = λ e has. IsMade-later e.0 e.1 more (are.each e has) }

pub some_made : {sets : List (List Name)} {known : List (SetOperation × Hide)} (what : SetOperation) (found : Option Hide)
    → AreMade sets known → IfSome found (λ made. Contains known (what, made)) → IfSome found (IsMade sets what)
some_made what (Some made) are has = are.each (what, made) has
some_made what None are has = tt

pub AreMade-noted : {A E : Type 0} {sets : List (List Name)} {old new : List (SetOperation × Hide)} {what : SetOperation} {made : Hide} (noted : Result A E)
    → AreMade sets old → IsMade sets what made
    → IfOk noted (λ _. new ≡ insert_entry operation.eq-value.it old what made) → IfErr noted (λ _. new ≡ old) → AreMade sets new
AreMade-noted {A} {E} {sets} {old} {new} {what} {made} (Ok a) are is ok err = subst (AreMade sets) (sym ok) (AreMade-insert sets old what made are is)
AreMade-noted {A} {E} {sets} (Err e) are is ok err = subst (AreMade sets) (sym err) are
