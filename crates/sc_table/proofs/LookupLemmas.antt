-- The parts of a look-up: those of the definitions, and the rest.
use Rattle.std.proofs.Common.{◌≡◌, ℕ, zero, suc, ◌&&◌, not, Bool, true, false, List, [], ◌∷◌, ◌++◌, All, Contains, map, slice_get, Option, Some, None, IfSome, is_some, append-nil, refl, ap, sym, ◌∙◌, if◌then◌else◌}
use Rattle.std.proofs.lemmas.List.Elements.{All-head, All-tail, All-nil, All-cons}
use Rattle.std.proofs.lemmas.List.{map-append}
use Rattle.std.proofs.lemmas.Option.{same_Some, slice_get-get_or}
use Rattle.std.specs.Option.{option_map, option_to_list}
use Rattle.std.specs.declared.rc.Rc.{Rc}
use Rattle.c11_macros.specs.Macros as model
use Rattle.sc_base.proofs.Growth.{IsOneToOne-push}
use Rattle.sc_base.specs.declared.id.Cond.{Cond}
use Rattle.sc_guarded.proofs.ItemLemmas.{items_at-append, items_at-Keeps, map-one}
use Rattle.sc_guarded.specs.Items.{items_at}
use Rattle.sc_macro.specs.declared.definition.Definition.{Definition}
use Rattle.sc_macro.specs.Seen.{IsHeldDefinition, seen_definition}
use Rattle.sc_model.specs.Growth.{IsOneToOne}
use Rattle.sc_model.specs.Sets.{Sets, IsConfig, Keeps}
use Rattle.sc_table.specs.Parts.{Part, AreSome, seen_all, valued}

module _ {A : Type 0} where
  abbrev pub answered : List (Cond × Rc Definition A) → List (Cond × Option (Rc Definition A))
  answered parts = map (λ part. (part.0, Some part.1)) parts

  pub all_answered : (P : Cond → Type 0) (parts : List (Cond × Rc Definition A)) → All (λ (p : Part). P p.0) (valued parts) → All (λ (q : Cond × Option (Rc Definition A)). P q.0) (answered parts)
  all_answered P [] all = All-nil (λ (q : Cond × Option (Rc Definition A)). P q.0)
  all_answered P (p ∷ parts) all =
      All-cons (λ (q : Cond × Option (Rc Definition A)). P q.0) (p.0, Some p.1) (answered parts) (All-head (λ (p : Part). P p.0) (p.0, p.1.value) (valued parts) all)
      (all_answered P parts (All-tail (λ (p : Part). P p.0) (p.0, p.1.value) (valued parts) all))

  pub held_answered : (names : List (List ℕ)) (parts : List (Cond × Rc Definition A)) → All (λ (p : Part). IsHeldDefinition names p.1) (valued parts)
      → All (λ (q : Cond × Option (Rc Definition A)). IfSome q.1 (λ shared. IsHeldDefinition names shared.value)) (answered parts)
  held_answered names [] all = All-nil (λ (q : Cond × Option (Rc Definition A)). IfSome q.1 (λ shared. IsHeldDefinition names shared.value))
  held_answered names (p ∷ parts) all =
      All-cons (λ (q : Cond × Option (Rc Definition A)). IfSome q.1 (λ shared. IsHeldDefinition names shared.value)) (p.0, Some p.1) (answered parts)
      (All-head (λ (p : Part). IsHeldDefinition names p.1) (p.0, p.1.value) (valued parts) all)
      (held_answered names parts (All-tail (λ (p : Part). IsHeldDefinition names p.1) (p.0, p.1.value) (valued parts) all))

  pub seen_answered : (names : List (List ℕ)) (parts : List (Cond × Rc Definition A))
      → map (λ (q : Cond × Option (Rc Definition A)). option_map (λ shared. seen_definition names shared.value) q.1) (answered parts) ≡ map (λ d. Some d) (seen_all names (valued parts))
  seen_answered names [] = refl
  seen_answered names (p ∷ parts) = ap (λ ds. Some (seen_definition names p.1.value) ∷ ds) (seen_answered names parts)

  pub items_answered : (s : Sets) (names : List (List ℕ)) (parts : List (Cond × Rc Definition A)) (c : List ℕ)
      → map (option_map (λ (shared : Rc Definition A). seen_definition names shared.value)) (items_at s (answered parts) c) ≡ map (λ d. Some (seen_definition names d)) (items_at s (valued parts) c)
  items_answered s names [] c = refl
  items_answered s names (p ∷ parts) c = by (s.has p.0.0 c) (items_answered s names parts c)
    where
      by : (b : Bool) → map (option_map (λ (shared : Rc Definition A). seen_definition names shared.value)) (items_at s (answered parts) c) ≡ map (λ d. Some (seen_definition names d)) (items_at s (valued parts) c)
          → map (option_map (λ (shared : Rc Definition A). seen_definition names shared.value)) (if b then Some p.1 ∷ items_at s (answered parts) c else items_at s (answered parts) c)
          ≡ map (λ d. Some (seen_definition names d)) (if b then p.1.value ∷ items_at s (valued parts) c else items_at s (valued parts) c)
      by true e = ap (λ ds. Some (seen_definition names p.1.value) ∷ ds) e
      by false e = e

-- what is shown of an item of a list with `Some` before each
slice_get-some : {B : Type 0} (xs : List B) (i : ℕ) (x : Option B) → slice_get (map (λ y. Some y) xs) i ≡ Some x → (y : B) × (x ≡ Some y) × (slice_get xs i ≡ Some y)
slice_get-some [] i x at = absurd (cc)
slice_get-some (y ∷ xs) zero x at = (y, sym (same_Some (Some y) x at), refl)
slice_get-some (y ∷ xs) (suc i) x at = slice_get-some xs i x at

pub IsOneToOne-some : {B : Type 0} (xs : List B) → IsOneToOne xs → IsOneToOne (map (λ y. Some y) xs)
IsOneToOne-some {B} xs one = record {
  same = λ i j x at_i at_j.
      let a = slice_get-some xs i x at_i in
      let b = slice_get-some xs j x at_j in
      one.same i j a.0 a.2 (b.2 ∙ ap Some (same_Some b.0 a.0 (sym b.1 ∙ a.1)));
}

lacks_none : {B : Type 0} (xs : List B) → Contains (map (λ y. Some y) xs) None → ⊥
lacks_none xs has =
    let at = slice_get-get_or (map (λ y. Some y) xs) has.0 None has.1 ∙ ap Some has.2 in
    let a = slice_get-some xs has.0 None at in
    cc (a.1)

pub IsOneToOne-none : {B : Type 0} (xs : List B) → IsOneToOne xs → IsOneToOne (map (λ y. Some y) xs ++ None ∷ [])
IsOneToOne-none xs one = IsOneToOne-push (map (λ y. Some y) xs) None (IsOneToOne-some xs one) (lacks_none xs)

-- at each configuration of the condition one definition or none
pub looked_up : (names : List (List ℕ)) (ds : List Definition) (b : Bool) (o : Option model.Definition) → map (seen_definition names) ds ≡ (if b then option_to_list o else [])
    → map (λ d. Some (seen_definition names d)) ds ++ (if b && not (is_some (slice_get ds 0)) then None ∷ [] else []) ≡ (if b then o ∷ [] else [])
looked_up names [] true None e = refl
looked_up names [] true (Some d) e = absurd (cc)
looked_up names [] false o e = refl
looked_up names (d ∷ ds) false o e = absurd (cc)
looked_up names (d ∷ ds) true None e = absurd (cc)
looked_up names (d ∷ []) true (Some x) e =
    let same : seen_definition names d ≡ x = cc in
    ap (λ y. Some y ∷ []) same
looked_up names (d ∷ (f ∷ ds)) true (Some x) e = absurd (cc)

module _ {A : Type 0} {old now : Sets} (keeps : Keeps old now) (names : List (List ℕ)) (parts : List (Cond × Rc Definition A)) (were : AreSome old (valued parts)) (x : List ℕ) (listed : IsConfig old.arities x) where
  answered_items : map (option_map (λ (shared : Rc Definition A). seen_definition names shared.value)) (items_at now (answered parts) x) ≡ map (λ d. Some (seen_definition names d)) (items_at old (valued parts) x)
  answered_items = items_answered now names parts x ∙ ap (map (λ d. Some (seen_definition names d))) (items_at-Keeps (valued parts) x keeps were.own listed)

  pub rest_items : (rest : Cond) (b : Bool) → now.has rest.0 x ≡ b
      → map (option_map (λ (shared : Rc Definition A). seen_definition names shared.value)) (items_at now (answered parts ++ (rest, None) ∷ []) x)
      ≡ map (λ d. Some (seen_definition names d)) (items_at old (valued parts) x) ++ (if b then None ∷ [] else [])
  rest_items rest b test =
      ap (map (option_map (λ (shared : Rc Definition A). seen_definition names shared.value))) (items_at-append now (answered parts) ((rest, None) ∷ []) x)
      ∙ (map-append (option_map (λ (shared : Rc Definition A). seen_definition names shared.value)) (items_at now (answered parts) x) (if now.has rest.0 x then None ∷ [] else [])
      ∙ (ap (λ ds. ds ++ map (option_map (λ (shared : Rc Definition A). seen_definition names shared.value)) (if now.has rest.0 x then None ∷ [] else [])) answered_items
      ∙ ap (λ ds. map (λ d. Some (seen_definition names d)) (items_at old (valued parts) x) ++ ds)
      (map-one (option_map (λ (shared : Rc Definition A). seen_definition names shared.value)) (now.has rest.0 x) None ∙ ap (λ t. if t then None ∷ [] else []) test)))

  pub no_rest_items : (b : Bool) → b ≡ false
      → map (option_map (λ (shared : Rc Definition A). seen_definition names shared.value)) (items_at now (answered parts) x)
      ≡ map (λ d. Some (seen_definition names d)) (items_at old (valued parts) x) ++ (if b then None ∷ [] else [])
  no_rest_items b test =
      answered_items ∙ (sym (append-nil (map (λ d. Some (seen_definition names d)) (items_at old (valued parts) x)))
      ∙ ap (λ t. map (λ d. Some (seen_definition names d)) (items_at old (valued parts) x) ++ (if t then None ∷ [] else [])) (sym test))
