-- Taking the first token of a list: what the parts of it come to together.
use Rattle.std.proofs.Common.{◌≡◌, ℕ, ◌<◌, get_or, zero, suc, ◌==◌, ◌||◌, ◌&&◌, not, Bool, true, false, List, [], ◌∷◌, All, map, length, refl, sym, ap, subst, ◌∙◌, arith, if◌then◌else◌, Result}
use Rattle.std.proofs.lemmas.Bool.Decides.{nat_tests}
use Rattle.c11_macros.specs.Macros as macros
use Rattle.sc_expand.proofs.Facts.{All-cons, All-head, All-nil, All-tail, Extends-refl, and-false, and-true, eqb-true, held_tail, held_union, hide_later, items_at-under, items_later, or-false, same_bytes-refl, same_bytes-true, seen_definition-Extends, text_later, true≢false}
use Rattle.sc_expand.proofs.SeenLemmas.{AreHeld-nil}
use Rattle.sc_expand.proofs.Terms.{Cond, Extends, Failure, Form, Hidden, HiddenToken, Hide, HideSet, IsCond, IsHeldDefinition, IsHeldHidden, IsHeldItem, IsHeldSet, IsHeldToken, IsOneToOne, Item, Name, Place, Provenance, Stores, hide_at, list_any, list_at, same_bytes, seen_at, seen_form, seen_hidden, seen_item, seen_replacement, substituted, text_at, texts_in, with_name}
use Rattle.sc_expand.specs.Seen as seen
use Rattle.sc_macro.proofs.Texts.{same_id}
use Rattle.sc_macro.specs.Seen.{AreHeld, text_of}
use Rattle.sc_macro.specs.declared.definition.Definition.{Definition}
use Rattle.sc_macro.specs.declared.definition.Item as declared_item
use Rattle.sc_model.specs.Token as Position
use Rattle.sc_subst.specs.Rising.{has_name}

-- names are one to one, so a set has a name where it has its text
pub same_test : (names : List (List ℕ)) (set : List Name) (name : Name) → IsOneToOne names → AreHeld names set → name.0 < length names
    → has_name set name ≡ texts_in names set (text_of names name)
same_test names [] name apart held own = refl
same_test names (x ∷ xs) name apart held own =
    let rest = same_test names xs name apart (held_tail names x xs held) own in
    ap (λ b. b || has_name xs name) (by (x.0 == name.0) refl (same_bytes (text_of names x) (text_of names name)) refl) ∙ ap (λ b. same_bytes (text_of names x) (text_of names name) || b) rest
  where
    by : (a : Bool) → (x.0 == name.0) ≡ a → (b : Bool) → same_bytes (text_of names x) (text_of names name) ≡ b → a ≡ b
    by true is true same = refl
    by false is false same = refl
    by true is false same = absurd (true≢false (sym (same_bytes-refl (text_of names name)) ∙ (ap (λ n. same_bytes (text_at names n) (text_of names name)) (sym (eqb-true x.0 name.0 is)) ∙ same)))
    by false is true same =
        let one : x.0 ≡ name.0 = same_id names x.0 name.0 apart (held 0 x (omega arith)) own (same_bytes-true _ _ same) in
        absurd (grind (arith, nat_tests))

-- a set with one name more
module _ (names : List (List ℕ)) (one made : List Name) (name : Name) (exact : (test : Name → Bool) → list_any test made ≡ (list_any test one || test name)) where
  pub held_with : AreHeld names one → name.0 < length names → AreHeld names made
  held_with held own = held_union names one (name ∷ []) made held (λ k d h. by k d h) (λ test. exact test ∙ ap (λ b. list_any test one || b) (sym (or-false (test name))))
    where
      by : (k : ℕ) (d : Name) → k < 1 → (get_or (name ∷ []) k d).0 < length names
      by zero d h = own
      by (suc k) d h = absurd (omega (arith, h))

-- the same question of tables that grew
pub same-result : {P : Type 0} (provenance : Provenance P) (head : HiddenToken P) {f g : Form} {is js : List Item} {m n : HideSet} (r : Result (List (HiddenToken P)) (Failure P))
    → f ≡ g → is ≡ js → m ≡ n → substituted provenance f is head [] [] m ≡ r → substituted provenance g js head [] [] n ≡ r
same-result provenance head r f i h given = sym (λ k. substituted provenance (f k) (i k) head [] [] (h k)) ∙ given

-- ---- lists of tokens

pub AreHeld-under : (st : Stores) (files : ℕ) (cond : Cond) (list : List Hidden) → IsCond st.sets cond.0 → All (IsHeldHidden st.names st.hides) list → All (λ h. h.token.place.file.0 < files) list
    → seen.AreHeld st files (map (λ t. (cond, t)) list)
AreHeld-under st files cond [] own held filed = AreHeld-nil st files
AreHeld-under st files cond (x ∷ xs) own held filed =
    let F : Hidden → Type 0 = λ h. h.token.place.file.0 < files in
    let H : Hidden → Type 0 = IsHeldHidden st.names st.hides in
    let rest = AreHeld-under st files cond xs own (All-tail H x xs held) (All-tail F x xs filed) in
    record {
      own = All-cons (λ (item : Cond × Hidden). IsCond st.sets item.0.0) (cond, x) (map (λ t. (cond, t)) xs) own rest.own;
      held = All-cons (λ (item : Cond × Hidden). IsHeldToken st files item.1) (cond, x) (map (λ t. (cond, t)) xs) (record { held = All-head H x xs held; file = All-head F x xs filed }) rest.held;
    }

pub seen-under : (st : Stores) (cond : Cond) (list : List Hidden) (c : List ℕ) (b : Bool) → st.sets.has cond.0 c ≡ b
    → seen_at st (map (λ t. (cond, t)) list) c ≡ (if b then map (seen_hidden st.names st.hides) list else [])
seen-under st cond list c b is = ap (map (seen_hidden st.names st.hides)) (items_at-under st.sets cond list c) ∙ by (st.sets.has cond.0 c) b is
  where
    by : (a b : Bool) → a ≡ b → map (seen_hidden st.names st.hides) (if a then list else []) ≡ (if b then map (seen_hidden st.names st.hides) list else [])
    by true true is = refl
    by false false is = refl
    by true false is = absurd (true≢false is)
    by false true is = absurd (true≢false (sym is))

pub file-placed : (place : Place) (files : ℕ) (list : List Hidden) → place.file.0 < files → All (λ h. h.token.place ≡ place) list → All (λ h. h.token.place.file.0 < files) list
file-placed place files list own placed = λ k d h. subst (λ p. p.file.0 < files) (sym (placed k d h)) own

pub AreHeld-single : (st : Stores) (files : ℕ) (cond : Cond) (t : Hidden) → IsCond st.sets cond.0 → IsHeldToken st files t → seen.AreHeld st files ((cond, t) ∷ [])
AreHeld-single st files cond t own held = record {
  own = All-cons (λ (item : Cond × Hidden). IsCond st.sets item.0.0) (cond, t) [] own (All-nil (λ (item : Cond × Hidden). IsCond st.sets item.0.0));
  held = All-cons (λ (item : Cond × Hidden). IsHeldToken st files item.1) (cond, t) [] held (All-nil (λ (item : Cond × Hidden). IsHeldToken st files item.1));
}

-- ---- what a replacement is made of, as the tables grow

pub grown-form : {names later : List (List ℕ)} (d : Definition) → IsHeldDefinition names d → Extends names later → seen_form later d.form ≡ seen_form names d.form
grown-form d held e = ap (λ (d : macros.Definition). d.form) (seen_definition-Extends e d held)

pub grown-list : {names mid later : List (List ℕ)} (d : Definition) (items : List declared_item.Item) (place : Position.Place) → IsHeldDefinition names d → All (IsHeldItem mid) items → Extends names mid → Extends mid later
    → map (seen_item mid) items ≡ list_at (seen_replacement mid d.replacement) place → map (seen_item later) items ≡ list_at (seen_replacement names d.replacement) place
grown-list d items place held own e f is = items_later items own f ∙ (is ∙ ap (λ (d : macros.Definition). list_at d.replacement place) (seen_definition-Extends e d held))

pub grown-hide : {names mid later : List (List ℕ)} {sets mid_sets later_sets : List (List Name)} (head : Hidden) (hide : Hide) → IsHeldHidden names sets head → Extends names mid → Extends mid later → Extends mid_sets later_sets
    → IsHeldSet mid mid_sets hide.0 → hide_at mid mid_sets hide.0 ≡ with_name (hide_at mid sets head.hide.0) (text_of mid head.token.spelling)
    → hide_at later later_sets hide.0 ≡ with_name (hide_at names sets head.hide.0) (text_of names head.token.spelling)
grown-hide {names} {mid} {later} {sets} {mid_sets} {later_sets} head hide held e f g own is =
    let one = hide_later head.hide.0 held.hide e (Extends-refl sets) in
    let text = text_later head.token.spelling held.token.spelling e in
    hide_later hide.0 own f g ∙ (is ∙ λ i. with_name (one i) (text i))

pub gone : (a b : Bool) → b ≡ true → (a && not b) ≡ false
gone a b is = ap (λ t. a && not t) is ∙ and-false a

pub stays-there : (a b : Bool) → b ≡ false → (a && not b) ≡ a
stays-there a b is = ap (λ t. a && not t) is ∙ and-true a
