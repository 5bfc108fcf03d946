-- A name that is defined once more: the part of the same definition is taken out, and put back with
-- more configurations.
use Rattle.std.proofs.Common.{◌≡◌, ℕ, suc, ◌+◌, ◌<◌, ◌≤◌, ◌&&◌, ◌||◌, not, Bool, true, false, List, [], ◌∷◌, ◌++◌, All, Contains, map, take, drop, length, length-append, get_or, slice_get, is_some, refl, ap, sym, subst, ◌∙◌, arith, if◌then◌else◌}
use Rattle.std.proofs.Math.Seq.{drop-cons}
use Rattle.std.proofs.lemmas.Bool.{true≢false, false≢true}
use Rattle.std.proofs.lemmas.List.{map-append, length-map, take-append-drop}
use Rattle.std.proofs.lemmas.List.Elements.{All-nil, All-cons, All-head, All-tail}
use Rattle.std.specs.List.{list_any, remove}
use Rattle.std.specs.declared.rc.Rc.{Rc}
use Rattle.c11_macros.specs.Macros as model
use Rattle.sc_base.specs.declared.id.Cond.{Cond}
use Rattle.sc_guarded.proofs.ItemLemmas.{items_at-append, items_at-Keeps, map-one}
use Rattle.sc_guarded.specs.Items.{items_at}
use Rattle.sc_macro.specs.declared.definition.Definition.{Definition}
use Rattle.sc_macro.specs.Seen.{IsHeldDefinition, seen_definition}
use Rattle.sc_model.specs.Growth.{IsOneToOne}
use Rattle.sc_model.specs.Sets.{Sets, IsConfig, IsCond, IsNever, Keeps}
use Rattle.sc_table.specs.Change.{Splits, none, same, other, Redefines}
use Rattle.sc_table.specs.Parts.{Part, AreParts, AreNamed, seen_all, valued}
use Rattle.sc_table.proofs.OneToOne.{IsOneToOne-without, lacks-without}

all_without : {A : Type 0} (P : A → Type 0) (xs ys : List A) (x : A) → All P (xs ++ x ∷ ys) → All P (xs ++ ys)
all_without P [] ys x all = All-tail P x ys all
all_without P (z ∷ xs) ys x all = All-cons P z (xs ++ ys) (All-head P z (xs ++ x ∷ ys) all) (all_without P xs ys x (All-tail P z (xs ++ x ∷ ys) all))

lacks_tail : {A : Type 0} (x d : A) (xs : List A) → (Contains (x ∷ xs) d → ⊥) → Contains xs d → ⊥
lacks_tail x d xs lacks has = lacks (suc has.0, omega (arith, has.1), has.2)

-- what no part says, no configuration has
pub lacks_items : (s : Sets) (names : List (List ℕ)) (parts : List Part) (c : List ℕ) (d : model.Definition) → (Contains (seen_all names parts) d → ⊥)
    → All (λ e. e ≡ d → ⊥) (map (seen_definition names) (items_at s parts c))
lacks_items s names [] c d lacks = All-nil (λ (e : model.Definition). e ≡ d → ⊥)
lacks_items s names (p ∷ parts) c d lacks = by (s.has p.0.0 c) (lacks_items s names parts c d (lacks_tail (seen_definition names p.1) d (seen_all names parts) lacks))
  where
    by : (b : Bool) → All (λ e. e ≡ d → ⊥) (map (seen_definition names) (items_at s parts c))
        → All (λ e. e ≡ d → ⊥) (map (seen_definition names) (if b then p.1 ∷ items_at s parts c else items_at s parts c))
    by false others = others
    by true others =
        All-cons (λ (e : model.Definition). e ≡ d → ⊥) (seen_definition names p.1) (map (seen_definition names) (items_at s parts c)) (λ same. lacks (0, omega arith, same)) others

-- one of at most one definition is taken out
pub splits : (d : model.Definition) (xs ys : List model.Definition) (b : Bool) → length (xs ++ (if b then d ∷ ys else ys)) ≤ 1 → All (λ e. e ≡ d → ⊥) (xs ++ ys)
    → Splits d (xs ++ (if b then d ∷ ys else ys)) (xs ++ ys) b
splits d [] [] true few differ = same
splits d [] [] false few differ = none
splits d [] (y ∷ ys) true few differ = absurd (omega arith)
splits d [] (y ∷ []) false few differ = other y (differ 0 y (omega arith))
splits d [] (y ∷ (z ∷ ys)) false few differ = absurd (omega arith)
splits d (x ∷ xs) ys true few differ = absurd (omega (arith, length-append xs (d ∷ ys)))
splits d (x ∷ []) [] false few differ = other x (differ 0 x (omega arith))
splits d (x ∷ []) (y ∷ ys) false few differ = absurd (omega arith)
splits d (x ∷ (z ∷ xs)) ys false few differ = absurd (omega (arith, length-append xs ys))

pub splits_none : (d : model.Definition) (xs : List model.Definition) → length xs ≤ 1 → All (λ e. e ≡ d → ⊥) xs → Splits d xs xs false
splits_none d [] few differ = none
splits_none d (x ∷ []) few differ = other x (differ 0 x (omega arith))
splits_none d (x ∷ (y ∷ xs)) few differ = absurd (omega arith)

-- parts without one of them
module _ (s : Sets) (front back : List Part) (part : Part) where
  items_with : (c : List ℕ) → items_at s (front ++ part ∷ back) c ≡ items_at s front c ++ (if s.has part.0.0 c then part.1 ∷ items_at s back c else items_at s back c)
  items_with c = items_at-append s front (part ∷ back) c

  pub one_without : (c : List ℕ) → IsConfig s.arities c → AreParts s (front ++ part ∷ back) → length (items_at s (front ++ back) c) + (if s.has part.0.0 c then 1 else 0) ≤ 1
  one_without c listed parts =
      by (s.has part.0.0 c) (items_at s front c) (items_at s back c) (items_at-append s front back c) (subst (λ (ds : List Definition). length ds ≤ 1) (items_with c) (parts.one c listed))
    where
      by : (b : Bool) (xs ys : List Definition) → items_at s (front ++ back) c ≡ xs ++ ys → length (xs ++ (if b then part.1 ∷ ys else ys)) ≤ 1 → length (items_at s (front ++ back) c) + (if b then 1 else 0) ≤ 1
      by true xs ys e few = omega (arith, ap length e, length-append xs ys, length-append xs (part.1 ∷ ys))
      by false xs ys e few = omega (arith, ap length e)

  pub AreParts-without : AreParts s (front ++ part ∷ back) → AreParts s (front ++ back)
  AreParts-without parts = record {
    each = record {
      own = all_without (λ (p : Part). IsCond s p.0.0) front back part parts.each.own;
      some = all_without (λ (p : Part). IsNever s p.0.0 → ⊥) front back part parts.each.some;
    };
    one = λ c listed. omega (arith, one_without c listed parts);
  }

  module _ (names : List (List ℕ)) (named : AreNamed names (front ++ part ∷ back)) where
    seen_with : seen_all names (front ++ part ∷ back) ≡ seen_all names front ++ seen_definition names part.1 ∷ seen_all names back
    seen_with = map-append (λ (p : Part). seen_definition names p.1) front (part ∷ back)

    seen_without : seen_all names (front ++ back) ≡ seen_all names front ++ seen_all names back
    seen_without = map-append (λ (p : Part). seen_definition names p.1) front back

    pub AreNamed-without : AreNamed names (front ++ back)
    AreNamed-without = record {
      held = all_without (λ (p : Part). IsHeldDefinition names p.1) front back part named.held;
      differ = subst IsOneToOne (sym seen_without) (IsOneToOne-without (seen_all names front) (seen_all names back) (seen_definition names part.1) (subst IsOneToOne seen_with named.differ));
    }

    pub lacks_taken : Contains (seen_all names (front ++ back)) (seen_definition names part.1) → ⊥
    lacks_taken has =
        lacks-without (seen_all names front) (seen_all names back) (seen_definition names part.1) (subst IsOneToOne seen_with named.differ)
        (subst (λ ds. Contains ds (seen_definition names part.1)) seen_without has)

    pub splits_without : (c : List ℕ) → IsConfig s.arities c → AreParts s (front ++ part ∷ back) → (d : model.Definition) → seen_definition names part.1 ≡ d
        → Splits d (map (seen_definition names) (items_at s (front ++ part ∷ back) c)) (map (seen_definition names) (items_at s (front ++ back) c)) (s.has part.0.0 c)
    splits_without c listed parts d is =
        let f = seen_definition names in
        let xs = map f (items_at s front c) in
        let ys = map f (items_at s back c) in
        let b = s.has part.0.0 c in
        let whole : map f (items_at s (front ++ part ∷ back) c) ≡ xs ++ (if b then d ∷ ys else ys) =
        ap (map f) (items_with c) ∙ (map-append f (items_at s front c) (if b then part.1 ∷ items_at s back c else items_at s back c) ∙ (ap (λ zs. xs ++ zs) (by b) ∙ ap (λ e. xs ++ (if b then e ∷ ys else ys)) is)) in
        let rest : map f (items_at s (front ++ back) c) ≡ xs ++ ys = ap (map f) (items_at-append s front back c) ∙ map-append f (items_at s front c) (items_at s back c) in
        let few : length (xs ++ (if b then d ∷ ys else ys)) ≤ 1 = omega (arith, ap length whole, length-map (items_at s (front ++ part ∷ back) c) f, parts.one c listed) in
        let differ : All (λ e. e ≡ d → ⊥) (xs ++ ys) = subst (All (λ (e : model.Definition). e ≡ d → ⊥)) rest (lacks_items s names (front ++ back) c d (λ has. lacks_taken (subst (Contains (seen_all names (front ++ back))) (sym is) has))) in
        subst (λ was. Splits d was (map f (items_at s (front ++ back) c)) b) (sym whole) (subst (λ left. Splits d (xs ++ (if b then d ∷ ys else ys)) left b) (sym rest) (splits d xs ys b few differ))
      where
        by : (b : Bool) → map (seen_definition names) (if b then part.1 ∷ items_at s back c else items_at s back c)
            ≡ (if b then seen_definition names part.1 ∷ map (seen_definition names) (items_at s back c) else map (seen_definition names) (items_at s back c))
        by true = refl
        by false = refl

-- the parts of a list, one of them in the middle
module _ {A : Type 0} (parts : List (Cond × Rc Definition A)) (i : ℕ) (p : Cond × Rc Definition A) (within : i < length parts) (is : p ≡ get_or parts i p) where
  abbrev pub before_part : List Part
  before_part = valued (take i parts)

  abbrev pub after_part : List Part
  after_part = valued (drop (suc i) parts)

  pub valued-with : valued parts ≡ before_part ++ (p.0, p.1.value) ∷ after_part
  valued-with =
      ap valued (sym (take-append-drop i parts) ∙ ap (λ (xs : List (Cond × Rc Definition A)). take i parts ++ xs) (drop-cons parts i p within ∙ ap (λ (q : Cond × Rc Definition A). q ∷ drop (suc i) parts) (sym is)))
      ∙ map-append (λ (q : Cond × Rc Definition A). (q.0, q.1.value)) (take i parts) (p ∷ drop (suc i) parts)

  pub valued-without : valued (remove parts i) ≡ before_part ++ after_part
  valued-without = map-append (λ (q : Cond × Rc Definition A). (q.0, q.1.value)) (take i parts) (drop (suc i) parts)

-- some part has a configuration where something is said there
pub any_items : (s : Sets) (parts : List Part) (c : List ℕ) → list_any (λ p. s.has p.0.0 c) parts ≡ is_some (slice_get (items_at s parts c) 0)
any_items s [] c = refl
any_items s (p ∷ parts) c = by (s.has p.0.0 c) (any_items s parts c)
  where
    by : (b : Bool) → list_any (λ (p : Part). s.has p.0.0 c) parts ≡ is_some (slice_get (items_at s parts c) 0)
        → (b || list_any (λ (p : Part). s.has p.0.0 c) parts) ≡ is_some (slice_get (if b then p.1 ∷ items_at s parts c else items_at s parts c) 0)
    by true e = refl
    by false e = e

some_first : {A B : Type 0} (f : A → B) (xs : List A) → is_some (slice_get xs 0) ≡ is_some (slice_get (map f xs) 0)
some_first f [] = refl
some_first f (x ∷ xs) = refl

pub any_seen : (s : Sets) (names : List (List ℕ)) (parts : List Part) (c : List ℕ) → list_any (λ p. s.has p.0.0 c) parts ≡ is_some (slice_get (map (seen_definition names) (items_at s parts c)) 0)
any_seen s names parts c = any_items s parts c ∙ some_first (seen_definition names) (items_at s parts c)

-- what a definition changes at a configuration
pub redefines : (d : model.Definition) {was others : List model.Definition} {mine : Bool} → Splits d was others mine → (now : List model.Definition) (live refused : Bool) → refused ≡ (live && is_some (slice_get others 0))
    → now ≡ others ++ (if mine || (live && not (is_some (slice_get others 0))) then d ∷ [] else []) → Redefines d was live refused now
redefines d none now true refused told made = record { refuses = (λ e. absurd (true≢false (sym e ∙ told)), λ h. absurd h.1); defines = rw told made }
redefines d none now false refused told made = record { refuses = (λ e. absurd (true≢false (sym e ∙ told)), λ h. absurd h.1); defines = made }
redefines d same now true refused told made = record { refuses = (λ e. absurd (true≢false (sym e ∙ told)), λ h. absurd (h.1 refl)); defines = rw told made }
redefines d same now false refused told made = record { refuses = (λ e. absurd (true≢false (sym e ∙ told)), λ h. absurd (h.1 refl)); defines = made }
redefines d (other x differ) now true refused told made = record { refuses = (λ e. (refl, differ), λ h. told); defines = rw told made }
redefines d (other x differ) now false refused told made = record { refuses = (λ e. absurd (true≢false (sym e ∙ told)), λ h. absurd (false≢true h.0)); defines = made }

-- at most one definition, and the one that is put there where there is none
pub few_put : {A : Type 0} (xs : List A) (x : A) (mine live : Bool) → length xs + (if mine then 1 else 0) ≤ 1 → length (xs ++ (if mine || (live && not (is_some (slice_get xs 0))) then x ∷ [] else [])) ≤ 1
few_put [] x true live few = omega arith
few_put [] x false true few = omega arith
few_put [] x false false few = omega arith
few_put (y ∷ xs) x true live few = absurd (omega arith)
few_put (y ∷ []) x false true few = omega arith
few_put (y ∷ []) x false false few = omega arith
few_put (y ∷ (z ∷ xs)) x false live few = absurd (omega arith)

-- what stands at a configuration once a definition is put there
pub put_items : {s now : Sets} {parts : List Part} {x : List ℕ} {found : List Definition} {whole any : Bool} → Keeps s now → AreParts s parts → IsConfig s.arities x → (d : Definition) (mine live : Bool)
    → found ≡ items_at now parts x ++ (if whole then d ∷ [] else []) → whole ≡ (mine || (live && not any)) → any ≡ list_any (λ p. s.has p.0.0 x) parts
    → found ≡ items_at s parts x ++ (if mine || (live && not (is_some (slice_get (items_at s parts x) 0))) then d ∷ [] else [])
put_items {s} {now} {parts} {x} {found} {whole} {any} keeps were listed d mine live made is all =
    made
    ∙ (ap (λ (ds : List Definition). ds ++ (if whole then d ∷ [] else [])) (items_at-Keeps parts x keeps were.each.own listed)
    ∙ (ap (λ b. items_at s parts x ++ (if b then d ∷ [] else [])) is
    ∙ ap (λ b. items_at s parts x ++ (if mine || (live && not b) then d ∷ [] else [])) (all ∙ any_items s parts x)))

-- the same through the table of texts
pub put_seen : (names : List (List ℕ)) (xs found : List Definition) (d : Definition) (mine live : Bool) → found ≡ xs ++ (if mine || (live && not (is_some (slice_get xs 0))) then d ∷ [] else [])
    → map (seen_definition names) found ≡ map (seen_definition names) xs ++ (if mine || (live && not (is_some (slice_get (map (seen_definition names) xs) 0))) then seen_definition names d ∷ [] else [])
put_seen names xs found d mine live made =
    let f = seen_definition names in
    ap (map f) made
    ∙ (map-append f xs (if mine || (live && not (is_some (slice_get xs 0))) then d ∷ [] else [])
    ∙ (ap (λ ys. map f xs ++ ys) (map-one f (mine || (live && not (is_some (slice_get xs 0)))) d)
    ∙ ap (λ b. map f xs ++ (if mine || (live && not b) then f d ∷ [] else [])) (some_first f xs)))
