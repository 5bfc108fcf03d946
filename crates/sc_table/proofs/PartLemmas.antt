-- Parts of a name, of which one more is added or left out.
use Rattle.std.proofs.Common.{◌≡◌, ℕ, ◌+◌, ◌<◌, ◌≤◌, ◌&&◌, Bool, true, false, List, [], ◌∷◌, ◌++◌, All, Contains, take, length, get_or, slice_get, Some, append-nil, refl, ap, sym, subst, ◌∙◌, inl, inr, arith, if◌then◌else◌}
use Rattle.std.proofs.lemmas.List.{map-append, length-map, get_or-map, take-map, take_more, take_all, length-take-le, get_or-take}
use Rattle.std.proofs.lemmas.Option.{slice_get-get_or}
use Rattle.std.specs.declared.rc.Rc.{Rc}
use Rattle.std.proofs.lemmas.List.Elements.{All-nil, All-push, Contains-push, Contains-push_cases, Contains-append_left}
use Rattle.c11_macros.specs.Macros as model
use Rattle.sc_base.proofs.Growth.{IsOneToOne-push}
use Rattle.sc_base.specs.declared.id.Cond.{Cond}
use Rattle.sc_guarded.proofs.ItemLemmas.{items_at-append, items_at-Keeps}
use Rattle.sc_guarded.specs.Items.{items_at}
use Rattle.sc_macro.specs.declared.definition.Definition.{Definition}
use Rattle.sc_macro.specs.Seen.{IsHeldDefinition, seen_definition}
use Rattle.sc_model.proofs.SetLemmas.{IsConfig-Keeps}
use Rattle.sc_model.specs.Growth.{IsOneToOne}
use Rattle.sc_model.specs.Sets.{Sets, IsConfig, IsCond, Keeps, IsNever}
use Rattle.sc_table.specs.Parts.{Part, AreSome, AreNamed, AreDrawn, seen_all, valued}

module _ {old new : Sets} {parts : List Part} (keeps : Keeps old new) where
  -- parts stay parts as the store grows
  pub AreSome-Keeps : AreSome old parts → AreSome new parts
  AreSome-Keeps were = record {
    own = λ k d h. keeps.own _ (were.own k d h);
    some = λ k d h never. were.some k d h (record { none = λ c listed. sym (keeps.at _ c (were.own k d h) listed) ∙ never.none c (IsConfig-Keeps keeps listed) });
  }

  -- what one more part adds at a configuration, or one that no configuration has
  module _ {c : List ℕ} (were : AreSome old parts) (listed : IsConfig old.arities c) where
    pub items_at-part : (part : Part) (b : Bool) → new.has part.0.0 c ≡ b → items_at new (parts ++ part ∷ []) c ≡ items_at old parts c ++ (if b then part.1 ∷ [] else [])
    items_at-part part b test =
        items_at-append new parts (part ∷ []) c
        ∙ (ap (λ ds. ds ++ (if new.has part.0.0 c then part.1 ∷ [] else [])) (items_at-Keeps parts c keeps were.own listed) ∙ ap (λ t. items_at old parts c ++ (if t then part.1 ∷ [] else [])) test)

    pub items_at-no_part : (d : Definition) (b : Bool) → b ≡ false → items_at new parts c ≡ items_at old parts c ++ (if b then d ∷ [] else [])
    items_at-no_part d b none =
        items_at-Keeps parts c keeps were.own listed ∙ (sym (append-nil (items_at old parts c)) ∙ ap (λ t. items_at old parts c ++ (if t then d ∷ [] else [])) (sym none))

pub AreSome-push : {s : Sets} {parts : List Part} (cond : Cond) (d : Definition) → AreSome s parts → IsCond s cond.0 → (IsNever s cond.0 → ⊥) → AreSome s (parts ++ (cond, d) ∷ [])
AreSome-push {s} {parts} cond d were own some = record {
  own = All-push (λ (part : Part). IsCond s part.0.0) parts (cond, d) were.own own;
  some = All-push (λ (part : Part). IsNever s part.0.0 → ⊥) parts (cond, d) were.some some;
}

module _ {names : List (List ℕ)} {from : List model.Definition} {parts : List Part} (drawn : AreDrawn names from parts) where
  pub AreDrawn-skip : (x : model.Definition) → AreDrawn names (from ++ x ∷ []) parts
  AreDrawn-skip x = record { named = drawn.named; among = λ d has. Contains-append_left from (x ∷ []) d (drawn.among d has) }

  pub AreDrawn-push : (cond : Cond) (d : Definition) → IsHeldDefinition names d → (Contains from (seen_definition names d) → ⊥) → AreDrawn names (from ++ seen_definition names d ∷ []) (parts ++ (cond, d) ∷ [])
  AreDrawn-push cond d held lacks =
      let x = seen_definition names d in
      let more : seen_all names (parts ++ (cond, d) ∷ []) ≡ seen_all names parts ++ x ∷ [] = map-append (λ (part : Part). seen_definition names part.1) parts ((cond, d) ∷ []) in
      record {
        named = record {
          held = All-push (λ (part : Part). IsHeldDefinition names part.1) parts (cond, d) drawn.named.held held;
          differ = subst IsOneToOne (sym more) (IsOneToOne-push (seen_all names parts) x drawn.named.differ (λ has. lacks (drawn.among x has)));
        };
        among = λ e has. elim (Contains-push_cases (seen_all names parts) x e (subst (λ ds. Contains ds e) more has)) [
          | inl was ↦ Contains-append_left from (x ∷ []) e (drawn.among e was)
          | inr same ↦ subst (Contains (from ++ x ∷ [])) same (Contains-push from x)
        ];
      }

-- an item stands nowhere before its place
pub lacks_earlier : {A : Type 0} (xs : List A) (i : ℕ) (x : A) → IsOneToOne xs → slice_get xs i ≡ Some x → i < length xs → Contains (take i xs) x → ⊥
lacks_earlier xs i x one at within has =
    let k = has.0 in
    let low : k < i = omega (arith, has.1, length-take-le i xs (omega arith)) in
    let there : slice_get xs k ≡ Some x = slice_get-get_or xs k x (omega arith) ∙ ap Some (sym (get_or-take i xs k x low) ∙ has.2) in
    let same : k ≡ i = one.same k i x there at in
    omega arith

module _ {A : Type 0} (parts : List (Cond × Rc Definition A)) (i : ℕ) (p : Cond × Rc Definition A) (within : i < length parts) (is : p ≡ get_or parts i p) where
  part_of : Cond × Rc Definition A → Part
  part_of q = (q.0, q.1.value)

  pub take-valued : take (i + 1) (valued parts) ≡ take i (valued parts) ++ (p.0, p.1.value) ∷ []
  take-valued =
      take-map (λ (q : Cond × Rc Definition A). (q.0, q.1.value)) (i + 1) parts
      ∙ (ap valued (take_more parts i p within)
      ∙ (map-append (λ (q : Cond × Rc Definition A). (q.0, q.1.value)) (take i parts) (get_or parts i p ∷ [])
      ∙ (ap (λ (xs : List Part). xs ++ ((get_or parts i p).0, (get_or parts i p).1.value) ∷ []) (sym (take-map (λ (q : Cond × Rc Definition A). (q.0, q.1.value)) i parts))
      ∙ ap (λ (q : Cond × Rc Definition A). take i (valued parts) ++ (q.0, q.1.value) ∷ []) (sym is))))

  pub at-valued : (d : Part) → get_or (valued parts) i d ≡ (p.0, p.1.value)
  at-valued d = get_or-map (λ (q : Cond × Rc Definition A). (q.0, q.1.value)) parts i p d within ∙ ap (λ (q : Cond × Rc Definition A). (q.0, q.1.value)) (sym is)

  pub long-valued : i < length (valued parts)
  long-valued = omega (arith, length-map {B = Part} parts (λ (q : Cond × Rc Definition A). (q.0, q.1.value)))

  -- what holds of each part
  pub each-valued : (P : Part → Type 0) → All P (valued parts) → P (p.0, p.1.value)
  each-valued P all = subst P (at-valued (p.0, p.1.value)) (all i (p.0, p.1.value) long-valued)

  module _ (names : List (List ℕ)) where
    pub take-seen_all : seen_all names (take (i + 1) (valued parts)) ≡ seen_all names (take i (valued parts)) ++ seen_definition names p.1.value ∷ []
    take-seen_all = ap (seen_all names) take-valued ∙ map-append (λ (part : Part). seen_definition names part.1) (take i (valued parts)) ((p.0, p.1.value) ∷ [])

    pub slice_get-seen_all : slice_get (seen_all names (valued parts)) i ≡ Some (seen_definition names p.1.value)
    slice_get-seen_all =
        let d = seen_definition names p.1.value in
        slice_get-get_or (seen_all names (valued parts)) i d (omega (arith, long-valued, length-map (valued parts) (λ (part : Part). seen_definition names part.1)))
        ∙ ap Some (get_or-map (λ (part : Part). seen_definition names part.1) (valued parts) i (p.0, p.1.value) d long-valued ∙ ap (λ (part : Part). seen_definition names part.1) (at-valued (p.0, p.1.value)))

    pub lacks-seen_all : AreNamed names (valued parts) → Contains (seen_all names (take i (valued parts))) (seen_definition names p.1.value) → ⊥
    lacks-seen_all named has =
        lacks_earlier (seen_all names (valued parts)) i (seen_definition names p.1.value) named.differ slice_get-seen_all
        (omega (arith, long-valued, length-map (valued parts) (λ (part : Part). seen_definition names part.1)))
        (subst (λ ds. Contains ds (seen_definition names p.1.value)) (sym (take-map (λ (part : Part). seen_definition names part.1) i (valued parts))) has)

-- parts more, met with a condition
pub met_more : {A : Type 0} (found found' was more vs : List A) (h b hl bl : Bool) → found' ≡ found ++ (if hl && bl then vs else []) → found ≡ (if b then was else [])
    → more ≡ was ++ (if h then vs else []) → hl ≡ h → bl ≡ b → found' ≡ (if b then more else [])
met_more {A} found found' was more vs h b hl bl step here next e f = by h b here (step ∙ ap (λ t. found ++ (if t then vs else [])) (ap (λ t. t && bl) e ∙ ap (λ t. h && t) f)) next
  where
    by : (h b : Bool) → found ≡ (if b then was else []) → found' ≡ found ++ (if h && b then vs else []) → more ≡ was ++ (if h then vs else []) → found' ≡ (if b then more else [])
    by true true here step next = step ∙ (ap (λ (xs : List A). xs ++ vs) here ∙ sym next)
    by false true here step next = step ∙ (ap (λ (xs : List A). xs ++ []) here ∙ sym next)
    by true false here step next = step ∙ ap (λ (xs : List A). xs ++ []) here
    by false false here step next = step ∙ ap (λ (xs : List A). xs ++ []) here

pub AreSome-nil : (s : Sets) → AreSome s []
AreSome-nil s = record { own = All-nil (λ (part : Part). IsCond s part.0.0); some = All-nil (λ (part : Part). IsNever s part.0.0 → ⊥) }

pub AreDrawn-nil : (names : List (List ℕ)) → AreDrawn names [] []
AreDrawn-nil names = record {
  named = record { held = All-nil (λ (part : Part). IsHeldDefinition names part.1); differ = record { same = λ i j x at_i at_j. absurd (cc) } };
  among = λ d has. has;
}

pub none_met : {A : Type 0} (b : Bool) → ◌≡◌ {A = List A} [] (if b then [] else [])
none_met true = refl
none_met false = refl

pub take-valued_all : {A : Type 0} (parts : List (Cond × Rc Definition A)) (i : ℕ) → length parts ≤ i → take i (valued parts) ≡ valued parts
take-valued_all {A} parts i past = take_all i (valued parts) (omega (arith, length-map {B = Part} parts (λ (q : Cond × Rc Definition A). (q.0, q.1.value))))

pub nothing_more : {A : Type 0} (xs : List A) (b : Bool) → xs ≡ xs ++ (if b then [] else [])
nothing_more xs true = sym (append-nil xs)
nothing_more xs false = sym (append-nil xs)

-- what a part adds, whose condition was made just before
pub part_items : {old mid : Sets} {parts : List Part} {c : List ℕ} {found : List Definition} {h b hm bm : Bool} → Keeps old mid → AreSome old parts → IsConfig old.arities c → (d : Definition)
    → found ≡ items_at mid parts c ++ (if hm && bm then d ∷ [] else []) → hm ≡ h → bm ≡ b → found ≡ items_at old parts c ++ (if h && b then d ∷ [] else [])
part_items {old} {mid} {parts} {c} {found} {h} {b} {hm} {bm} keeps were listed d step e f =
    step
    ∙ (ap (λ (ds : List Definition). ds ++ (if hm && bm then d ∷ [] else [])) (items_at-Keeps parts c keeps were.own listed)
    ∙ ap (λ t. items_at old parts c ++ (if t then d ∷ [] else [])) (ap (λ t. t && bm) e ∙ ap (λ t. h && t) f))
