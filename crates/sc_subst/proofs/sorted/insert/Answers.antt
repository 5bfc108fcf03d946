use Rattle.std.proofs.Common.{◌≡◌, ℕ, suc, ◌+◌, ◌<◌, ◌≤◌, ◌==◌, nat_lt, false, List, [], ◌∷◌, ◌++◌, length, drop, get_or, append_assoc, add-one, sym, ap, ◌∙◌, arith, if◌then◌else◌}
use Rattle.std.proofs.Math.ListN.{drop_of_length-le}
use Rattle.std.proofs.Math.Seq.{drop-cons}
use Rattle.std.proofs.lemmas.Bool.Decides.{nat_tests}
use Rattle.sc_base.specs.declared.id.Name.{Name}
use Rattle.sc_subst.specs.Rising.{inserted}
use Rattle.sc_subst.proofs.sorted.insert.Goals as goal

differs : (a b : ℕ) → (a ≡ b → ⊥) → (a == b) ≡ false
differs a b h = grind (arith, nat_tests)

not_less : (a b : ℕ) → a ≤ b → nat_lt b a ≡ false
not_less a b h = grind (arith, nat_tests)

-- a smaller name stays in front
behind : (x : Name) (xs : List Name) (name : Name) → (x.0 ≡ name.0 → ⊥) → x.0 ≤ name.0 → inserted (x ∷ xs) name ≡ x ∷ inserted xs name
behind x xs name apart less =
    ap (λ b. if b then x ∷ xs else (if nat_lt name.0 x.0 then name ∷ (x ∷ xs) else x ∷ inserted xs name)) (differs x.0 name.0 apart)
    ∙ ap (λ b. if b then name ∷ (x ∷ xs) else x ∷ inserted xs name) (not_less x.0 name.0 less)

next : (made set : List Name) (i : ℕ) (d name : Name) → i < length set → ((get_or set i d).0 ≡ name.0 → ⊥) → (get_or set i d).0 ≤ name.0
    → (made ++ get_or set i d ∷ []) ++ inserted (drop (i + 1) set) name ≡ made ++ inserted (drop i set) name
next made set i d name h apart less =
    append_assoc made (get_or set i d ∷ []) (inserted (drop (i + 1) set) name)
    ∙ ap (λ ys. made ++ ys) (ap (λ k. get_or set i d ∷ inserted (drop k set) name) (add-one i)
    ∙ (sym (behind (get_or set i d) (drop (suc i) set) name apart less) ∙ ap (λ xs. inserted xs name) (sym (drop-cons set i d h))))

pub loop-i-preserved : goal.loop-i-preserved
loop-i-preserved c =
    ap (λ ys. ys ++ inserted (drop (c.loop-i.i + 1) c.args.set.now) c.args.name) c.in_ok-push-2.ensures.items
    ∙ (next c.loop-i.made.items c.args.set.now c.loop-i.i (record { 0 = 0 }) c.args.name c.loop-i-test.true c.if-other-name.false c.if-name-other.false ∙ c.loop-i.invariant)

pub returns : goal.returns
returns c =
    c.in_ok-push-3.ensures.items
    ∙ (ap (λ xs. c.loop-i.made.items ++ inserted xs c.args.name) (sym (drop_of_length-le c.args.set.now c.loop-i-test.false)) ∙ c.loop-i.invariant)
