-- The bindings of a name on two sides, made one.
use Rattle.std.proofs.Common.{◌≡◌, ℕ, ◌&&◌, ◌||◌, not, Bool, true, false, List, [], ◌∷◌, ◌++◌, Some, None, refl, ap, sym, ◌∙◌, if◌then◌else◌}
use Rattle.std.proofs.lemmas.List.Elements.{All-nil, All-cons}
use Rattle.c11_parsing.specs.Bindings as plain
use Rattle.sc_base.specs.declared.id.Cond.{Cond}
use Rattle.sc_guarded.specs.Items.{items_at}
use Rattle.sc_guarded.proofs.ItemLemmas.{items_at-append, items_at-Keeps}
use Rattle.sc_model.specs.Sets.{Sets, IsConfig, IsCond, Denotes, Keeps}
use Rattle.sc_model.proofs.SetLemmas.{IsConfig-Keeps, IsConfig-kept, Denotes-Keeps}
use Rattle.sc_scope.specs.declared.kind.NameKind.{NameKind}
use Rattle.sc_scope.specs.declared.kind.NameKind.TheVariants.{Variable, Typedef}
use Rattle.sc_scope.specs.declared.merge.Kinds.{Kinds}
use Rattle.sc_scope.specs.declared.search.Search.{Search}
use Rattle.sc_scope.specs.Kinds.{is_variable, first_at, AreEither, AreOfKinds, ArePartsOf, MergesBindings, NarrowsBindings}
use Rattle.sc_scope.specs.Search.{is_typedef, AreOwn, GoesOn}
use Rattle.sc_scope.specs.Shows.{first_kind}
use Rattle.sc_scope.proofs.SearchLemmas.{found_all}

-- ---- the parts of a condition by kind

last_typedef : (ks : List NameKind) → not (is_typedef (ks ++ Typedef ∷ [])) ≡ is_variable ks
last_typedef [] = refl
last_typedef (Variable ∷ ks) = refl
last_typedef (Typedef ∷ ks) = refl

or_swapped : (l t : Bool) → (l || t) ≡ (t || (l && true))
or_swapped true true = refl
or_swapped true false = refl
or_swapped false true = refl
or_swapped false false = refl

-- If bindings that end with a typedef are not found to be one, the first of them is a variable.
variable_rest : (h l t : Bool) (ks : List NameKind)
    → (t || (l && is_typedef (if h then Typedef ∷ [] else []))) ≡ (h && is_typedef (ks ++ (if h then Typedef ∷ [] else [])))
    → (h && not (l || t)) ≡ (h && is_variable ks)
variable_rest false l t ks e = refl
variable_rest true l t ks e = ap not (or_swapped l t ∙ e) ∙ last_typedef ks

pub parts_found : (s t u v : Sets) (cond never others : Cond) (found : Search) (kinds : Kinds) (bindings : List (Cond × NameKind))
    → IsCond s cond.0 → Denotes s never.0 (λ c. false) → Keeps t u → Keeps u v
    → GoesOn s t (record { left = cond; types = never }) found bindings []
    → Denotes u others.0 (λ c. t.has found.left.0 c || t.has found.types.0 c)
    → Denotes v kinds.variables.0 (λ c. u.has cond.0 c && not (u.has others.0 c)) → kinds.types ≡ found.types
    → ArePartsOf s v cond bindings kinds
parts_found s t u v cond never others found kinds bindings own none keeps_u keeps_v on or minus same_types =
    let all = found_all s t cond never found bindings none on (s.has cond.0) (record { own = own; at = λ c listed. refl }) in
    let types = Denotes-Keeps keeps_v (Denotes-Keeps keeps_u all) in
    record {
      variables = record { own = minus.own; at = λ c listed. minus.at c listed ∙ at c (IsConfig-kept on.keeps (IsConfig-kept keeps_u (IsConfig-kept keeps_v listed))) };
      types = rw (← same_types) at types;
    }
  where
    at : (c : List ℕ) → IsConfig s.arities c → (u.has cond.0 c && not (u.has others.0 c)) ≡ (s.has cond.0 c && is_variable (items_at s bindings c))
    at c listed =
        let P : Cond × NameKind → Type 0 = λ (b : Cond × NameKind). IsCond s b.0.0 in
        let owned : AreOwn s ((cond, Typedef) ∷ []) = record { each = All-cons P (cond, Typedef) [] own (All-nil P) } in
        let at_t = IsConfig-Keeps on.keeps listed in
        let cond_u : u.has cond.0 c ≡ s.has cond.0 c = keeps_u.at cond.0 c (on.keeps.own cond.0 own) at_t ∙ on.keeps.at cond.0 c own listed in
        let went = on.same ((cond, Typedef) ∷ []) owned c listed in
        let told =
        ap (λ h. t.has found.types.0 c || (t.has found.left.0 c && is_typedef (if h then Typedef ∷ [] else []))) (sym (on.keeps.at cond.0 c own listed))
        ∙ went
        ∙ ap (λ n. n || (s.has cond.0 c && is_typedef (items_at s (bindings ++ (cond, Typedef) ∷ []) c))) (none.at c listed)
        ∙ ap (λ ks. s.has cond.0 c && is_typedef ks) (items_at-append s bindings ((cond, Typedef) ∷ []) c) in
        ap (λ h. h && not (u.has others.0 c)) cond_u
        ∙ ap (λ o. s.has cond.0 c && not o) (or.at c (IsConfig-Keeps keeps_u at_t))
        ∙ variable_rest (s.has cond.0 c) (t.has found.left.0 c) (t.has found.types.0 c) (items_at s bindings c) told

-- ---- what a name is

first_on_left : (ks js : List NameKind) → (if (true && is_variable ks) || (false && is_variable js) then Some plain.variable
    else (if (true && is_typedef ks) || (false && is_typedef js) then Some plain.typedef else None)) ≡ first_kind ks
first_on_left [] js = refl
first_on_left (Variable ∷ ks) js = refl
first_on_left (Typedef ∷ ks) js = refl

first_on_right : (ks js : List NameKind) → (if (false && is_variable ks) || (true && is_variable js) then Some plain.variable
    else (if (false && is_typedef ks) || (true && is_typedef js) then Some plain.typedef else None)) ≡ first_kind js
first_on_right ks [] = refl
first_on_right ks (Variable ∷ js) = refl
first_on_right ks (Typedef ∷ js) = refl

first_in_part : (h : Bool) (ks : List NameKind) → (if h && is_variable ks then Some plain.variable else (if h && is_typedef ks then Some plain.typedef else None))
    ≡ (if h then first_kind ks else None)
first_in_part false ks = refl
first_in_part true [] = refl
first_in_part true (Variable ∷ ks) = refl
first_in_part true (Typedef ∷ ks) = refl

pub narrows : (s t : Sets) (cond : Cond) (kinds : Kinds) (bindings narrowed : List (Cond × NameKind)) → Keeps s t → ArePartsOf s t cond bindings kinds
    → AreOfKinds t kinds narrowed → NarrowsBindings s t cond bindings narrowed
narrows s t cond kinds bindings narrowed keeps parts of = record {
  own = of.own;
  first = λ c listed.
      let there = IsConfig-Keeps keeps listed in
      of.first c there
      ∙ ap (λ v. if v then Some plain.variable else (if t.has kinds.types.0 c then Some plain.typedef else None)) (parts.variables.at c there)
      ∙ ap (λ b. if s.has cond.0 c && is_variable (items_at s bindings c) then Some plain.variable else (if b then Some plain.typedef else None)) (parts.types.at c there)
      ∙ first_in_part (s.has cond.0 c) (items_at s bindings c);
}

-- ---- two sides

-- in the configurations of either part a kind is what it is on that side
either_at : {r s t u : Sets} (p : List NameKind → Bool) (here there a b both : Cond) (left right : List (Cond × NameKind)) (c : List ℕ) → Keeps r s → Keeps s t → Keeps t u
    → IsCond r there.0 → AreOwn r right → IsConfig r.arities c → Denotes s a.0 (λ c. r.has here.0 c && p (items_at r left c))
    → Denotes t b.0 (λ c. s.has there.0 c && p (items_at s right c)) → Denotes u both.0 (λ c. t.has a.0 c || t.has b.0 c)
    → u.has both.0 c ≡ ((r.has here.0 c && p (items_at r left c)) || (r.has there.0 c && p (items_at r right c)))
either_at {r} {s} {t} {u} p here there a b both left right c keeps_s keeps_t keeps_u there_own right_own listed is_a is_b is_both =
    let at_s = IsConfig-Keeps keeps_s listed in
    let at_t = IsConfig-Keeps keeps_t at_s in
    is_both.at c (IsConfig-Keeps keeps_u at_t)
    ∙ ap (λ h. h || t.has b.0 c) (keeps_t.at a.0 c is_a.own at_s ∙ is_a.at c at_s)
    ∙ ap (λ h. (r.has here.0 c && p (items_at r left c)) || h) (is_b.at c at_t)
    ∙ ap (λ h. (r.has here.0 c && p (items_at r left c)) || (h && p (items_at s right c))) (keeps_s.at there.0 c there_own listed)
    ∙ ap (λ ks. (r.has here.0 c && p (items_at r left c)) || (r.has there.0 c && p ks)) (items_at-Keeps right c keeps_s right_own.each listed)

pub merges : {r s t u : Sets} (here there : Cond) (a b both : Kinds) (left right bindings : List (Cond × NameKind)) → Keeps r s → Keeps s t → Keeps t u
    → IsCond r there.0 → AreOwn r right → ArePartsOf r s here left a → ArePartsOf s t there right b → AreEither t u a b both → AreOfKinds u both bindings
    → MergesBindings r u here there left right bindings
merges {r} {s} {t} {u} here there a b both left right bindings keeps_s keeps_t keeps_u there_own right_own is_a is_b is_both of = record {
  own = of.own;
  on_left = record {
    same = λ c only.
        first c only.listed
        ∙ ap (λ h. if (h && is_variable (items_at r left c)) || (r.has there.0 c && is_variable (items_at r right c)) then Some plain.variable
        else (if (h && is_typedef (items_at r left c)) || (r.has there.0 c && is_typedef (items_at r right c)) then Some plain.typedef else None)) only.inside
        ∙ ap (λ h. if (true && is_variable (items_at r left c)) || (h && is_variable (items_at r right c)) then Some plain.variable
        else (if (true && is_typedef (items_at r left c)) || (h && is_typedef (items_at r right c)) then Some plain.typedef else None)) only.outside
        ∙ first_on_left (items_at r left c) (items_at r right c);
  };
  on_right = record {
    same = λ c only.
        first c only.listed
        ∙ ap (λ h. if (h && is_variable (items_at r left c)) || (r.has there.0 c && is_variable (items_at r right c)) then Some plain.variable
        else (if (h && is_typedef (items_at r left c)) || (r.has there.0 c && is_typedef (items_at r right c)) then Some plain.typedef else None)) only.outside
        ∙ ap (λ h. if (false && is_variable (items_at r left c)) || (h && is_variable (items_at r right c)) then Some plain.variable
        else (if (false && is_typedef (items_at r left c)) || (h && is_typedef (items_at r right c)) then Some plain.typedef else None)) only.inside
        ∙ first_on_right (items_at r left c) (items_at r right c);
  };
}
  where
    first : (c : List ℕ) → IsConfig r.arities c → first_at u bindings c
        ≡ (if (r.has here.0 c && is_variable (items_at r left c)) || (r.has there.0 c && is_variable (items_at r right c)) then Some plain.variable
        else (if (r.has here.0 c && is_typedef (items_at r left c)) || (r.has there.0 c && is_typedef (items_at r right c)) then Some plain.typedef else None))
    first c listed =
        let at_u = IsConfig-Keeps keeps_u (IsConfig-Keeps keeps_t (IsConfig-Keeps keeps_s listed)) in
        of.first c at_u
        ∙ ap (λ v. if v then Some plain.variable else (if u.has both.types.0 c then Some plain.typedef else None))
        (either_at is_variable here there a.variables b.variables both.variables left right c keeps_s keeps_t keeps_u there_own right_own listed is_a.variables is_b.variables is_both.variables)
        ∙ ap (λ b. if (r.has here.0 c && is_variable (items_at r left c)) || (r.has there.0 c && is_variable (items_at r right c)) then Some plain.variable else (if b then Some plain.typedef else None))
        (either_at is_typedef here there a.types b.types both.types left right c keeps_s keeps_t keeps_u there_own right_own listed is_a.types is_b.types is_both.types)
