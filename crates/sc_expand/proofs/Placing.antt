-- The tokens that replace a macro's name stand where the name does, or where those of its
-- arguments do.
use Rattle.std.proofs.Common.{◌≡◌, ℕ, zero, suc, ◌<◌, Bool, false, List, [], ◌∷◌, All, map, refl, sym, subst, ◌∙◌, get_or, IfOk, Ok}
use Rattle.sc_expand.proofs.AlikeLemmas.{all-back}
use Rattle.sc_expand.proofs.Facts.{All-cons, All-from_recursion, All-head, All-map, All-nil, All-tail, recursion_from_All}
use Rattle.sc_expand.proofs.Substituting.{substituted-of}
use Rattle.sc_expand.proofs.Terms.{AllByRecursion as Every, Form, Hidden, HiddenToken, HideSet, IsHeldPart, IsHeldPartIn, Item, Name, Place, Provenance, Stores, Text, completed, filled_in, hidden_by, hiding, no_names, provenance_of, seen_arguments, seen_hidden, seen_list, seen_part, substituted, with_space}
use Rattle.sc_subst.specs.declared.part.Part as declared_part
use Rattle.sc_subst.specs.declared.part.Part.TheVariants as part

any-items : (items : List Item) → Every (λ (item : Item). Unit {0}) items
any-items [] = tt
any-items (item ∷ items) = (tt, any-items items)

module _ {P : Type 0} (provenance : Provenance P) (mark : (p : P) → provenance.mark p ≡ p) (Q : P → Type 0) (head : HiddenToken P) (here : Q head.place) where
  abbrev Placed : HiddenToken P → Type 0
  Placed t = Q t.place

  -- where no argument expands to anything
  substituted-placed : (raw : List (List (HiddenToken P))) → Every (Every Placed) raw → (form : Form) (items : List Item) (names : HideSet) → IfOk (substituted provenance form items head raw [] names) (Every Placed)
  substituted-placed raw own form items names =
      substituted-of provenance Placed (λ (item : Item). Unit {0}) head
      (record { of_item = λ item h. here; of_literal = λ space ts h. here; of_paste = λ kind l r h k. h; of_space = λ space t h. h; of_hide = λ names t h. subst Q (sym (mark t.place)) h }) raw [] own tt form items names (any-items items)

-- without arguments, the tokens that were made stand where the macro's name does
pub placed-result : (provenance : Provenance Place) → ((p : Place) → provenance.mark p ≡ p) → (head : HiddenToken Place) (see : Hidden → HiddenToken Place) → ((h : Hidden) → (see h).place ≡ h.token.place)
    → (form : Form) (items : List Item) (names : HideSet) (made : List Hidden) → substituted provenance form items head [] [] names ≡ Ok (map see made) → All (λ h. h.token.place ≡ head.place) made
placed-result provenance mark head see is form items names made same =
    let Here : HiddenToken Place → Type 0 = λ t. t.place ≡ head.place in
    let placed = subst (λ o. IfOk o (Every Here)) same (substituted-placed provenance mark (λ p. p ≡ head.place) head refl [] tt form items names) in
    λ k d h. sym (is (get_or made k d)) ∙ all-back Here see made (All-from_recursion Here (map see made) placed) k d h

-- ---- the tokens of a template

abbrev IsIn : ℕ → HiddenToken Place → Type 0
IsIn files t = t.place.file.0 < files

held-parts : (st : Stores) (files : ℕ) (ps : List declared_part.Part) → All (IsHeldPart st.names st.hides) ps → Every (IsIn files) (filled_in [] (map (seen_part st.names st.hides) ps)) → All (IsHeldPartIn st files) ps
held-parts st files [] held placed = All-nil (IsHeldPartIn st files)
held-parts st files (part.Token t ∷ ps) held placed =
    let own = All-head (IsHeldPart st.names st.hides) (part.Token t) ps held in
    All-cons (IsHeldPartIn st files) (part.Token t) ps (record { held = own; file = placed.0 }) (held-parts st files ps (All-tail (IsHeldPart st.names st.hides) (part.Token t) ps held) placed.1)
held-parts st files (part.Argument zero space ∷ ps) held placed =
    All-cons (IsHeldPartIn st files) (part.Argument zero space) ps tt (held-parts st files ps (All-tail (IsHeldPart st.names st.hides) (part.Argument zero space) ps held) placed)
held-parts st files (part.Argument (suc n) space ∷ ps) held placed =
    All-cons (IsHeldPartIn st files) (part.Argument (suc n) space) ps tt (held-parts st files ps (All-tail (IsHeldPart st.names st.hides) (part.Argument (suc n) space) ps held) placed)

arguments-in : (names : List (List ℕ)) (sets : List (List Name)) (files : ℕ) (raw : List (List Hidden)) → All (All (λ (h : Hidden). h.token.place.file.0 < files)) raw → Every (Every (IsIn files)) (seen_arguments names sets raw)
arguments-in names sets files raw own =
    recursion_from_All (Every (IsIn files)) (seen_arguments names sets raw) (All-map (Every (IsIn files)) (seen_list names sets) raw
    (λ k d h. recursion_from_All (IsIn files) (seen_list names sets (get_or raw k d)) (All-map (IsIn files) (seen_hidden names sets) (get_or raw k d) (own k d h))))

unspaced : (files : ℕ) (space : Bool) (ts : List (HiddenToken Place)) → Every (IsIn files) (with_space space ts) → Every (IsIn files) ts
unspaced files space [] rest = tt
unspaced files space (t ∷ ts) rest = rest

-- A template completes the replacement whatever the arguments expand to, so also where each of them
-- expands to nothing. The tokens of the template are then all that there are.
pub held-template : (st : Stores) (files : ℕ) (form : Form) (items : List Item) (place : Place) (raw : List (List Hidden)) (ps : List declared_part.Part) → place.file.0 < files
    → All (All (λ (h : Hidden). h.token.place.file.0 < files)) raw → All (IsHeldPart st.names st.hides) ps
    → ((head : HiddenToken Place) (expanded : List (List (HiddenToken Place))) (provenance : Provenance Place) (hidden : HideSet) → head.place ≡ place
    → substituted provenance form items head (seen_arguments st.names st.hides raw) expanded hidden ≡ completed provenance head hidden expanded (Ok (map (seen_part st.names st.hides) ps)))
    → All (IsHeldPartIn st files) ps
held-template st files form items place raw ps here own held completes =
    let provenance = provenance_of [] in
    let head : HiddenToken Place = record { kind = Text; spelling = []; space = false; place = place; hide = no_names } in
    let tokens = filled_in [] (map (seen_part st.names st.hides) ps) in
    let spaced = with_space false tokens in
    let Q : Place → Type 0 = λ p. p.file.0 < files in
    let placed = subst (λ o. IfOk o (Every (IsIn files))) (completes head [] provenance no_names refl)
    (substituted-placed provenance (λ p. refl) Q head here (seen_arguments st.names st.hides raw) (arguments-in st.names st.hides files raw own) form items no_names) in
    let unhidden = all-back (IsIn files) (hidden_by provenance no_names) spaced (All-from_recursion (IsIn files) (hiding provenance no_names spaced) placed) in
    held-parts st files ps held (unspaced files false tokens (recursion_from_All (IsIn files) spaced unhidden))
