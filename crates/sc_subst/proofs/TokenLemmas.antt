-- The tokens of a template, put in one by one.
use Rattle.std.proofs.Common.{◌≡◌, ℕ, suc, ◌<◌, ◌+◌, ◌-◌, ◌==◌, Bool, true, false, List, [], ◌∷◌, ◌++◌, append_assoc, length, map, get_or, take, drop, refl, sym, ap, subst, ◌∙◌, add-one, arith}
use Rattle.std.specs.Prelude.{All}
use Rattle.std.proofs.lemmas.Bool.{eqb-true, true≢false}
use Rattle.std.proofs.lemmas.List.{append-nil, map-append, take_all}
use Rattle.std.proofs.lemmas.List.Elements.{All-push, All-append, All-cons}
use Rattle.std.proofs.Math.Seq.{drop-cons}
use Rattle.c11_macros.specs.Hidden as model
use Rattle.c11_macros.specs.Hidden.{Provenance, union}
use Rattle.c11_macros.specs.Substitution.{hidden_by, with_space}
use Rattle.sc_base.specs.declared.id.Name.{Name}
use Rattle.sc_base.specs.declared.place.Place.{Place}
use Rattle.sc_subst.specs.declared.hidden.Hidden.{Hidden}
use Rattle.sc_subst.specs.declared.hidden.Hide.{Hide}
use Rattle.sc_subst.specs.declared.part.Part.{Part}
use Rattle.sc_subst.specs.Parts.{filled_in, first_spaced, seen_part}
use Rattle.sc_subst.proofs.Gluing.{filled_append}
use Rattle.sc_subst.specs.Seen.{IsHeldHidden, IsHeldSet, hide_at, seen_hidden}
use Rattle.sc_macro.specs.Seen.{text_of}
use Rattle.sc_model.specs.Growth.{Extends}
use Rattle.sc_subst.proofs.Later.{hide_later}
use Rattle.sc_subst.proofs.Quoting.{AreHeld-tail, blank}

pub put_none : (see : Hidden → model.Hidden Place) (tokens : List Hidden) (space : Bool) (made : List Hidden) → (length tokens == 0) ≡ true → map see made ≡ map see made ++ with_space space (map see tokens)
put_none see [] space made h = sym (append-nil (map see made))
put_none see (t ∷ ts) space made h =
    let none : suc (length ts) ≡ 0 = eqb-true (suc (length ts)) 0 h in
    absurd (omega arith)

pub put_some : (names : List (List ℕ)) (sets : List (List Name)) (tokens : List Hidden) (space : Bool) (spaced : Hidden) (made mid new : List Hidden) → (length tokens == 0) ≡ false
    → spaced ≡ record { token = record (get_or tokens 0 blank).token { space = space }; hide = (get_or tokens 0 blank).hide } → mid ≡ made ++ spaced ∷ [] → new ≡ mid ++ take (length tokens - 1) (drop 1 tokens)
    → map (seen_hidden names sets) new ≡ map (seen_hidden names sets) made ++ with_space space (map (seen_hidden names sets) tokens)
put_some names sets [] space spaced made mid new some is pushed more = absurd (true≢false some)
put_some names sets (t ∷ ts) space spaced made mid new some is pushed more =
    let see : Hidden → model.Hidden Place = seen_hidden names sets in
    let all : take (suc (length ts) - 1) ts ≡ ts = take_all (suc (length ts) - 1) ts (omega arith) in
    ap (map see) (more ∙ (ap (λ us. mid ++ us) all ∙ (ap (λ m. m ++ ts) pushed ∙ append_assoc made (spaced ∷ []) ts)))
    ∙ (map-append see made (spaced ∷ ts) ∙ ap (λ h. map see made ++ (see h ∷ map see ts)) is)

spaced_held : {names : List (List ℕ)} {sets : List (List Name)} (t : Hidden) (space : Bool) → IsHeldHidden names sets t → IsHeldHidden names sets (record { token = record t.token { space = space }; hide = t.hide })
spaced_held {names} {sets} t space held =
    record { token = record { spelling = held.token.spelling; name = held.token.name; stands_for = held.token.stands_for }; hide = held.hide }

pub held_put : (names : List (List ℕ)) (sets : List (List Name)) (tokens : List Hidden) (space : Bool) (spaced : Hidden) (made mid new : List Hidden) → (length tokens == 0) ≡ false
    → spaced ≡ record { token = record (get_or tokens 0 blank).token { space = space }; hide = (get_or tokens 0 blank).hide } → mid ≡ made ++ spaced ∷ [] → new ≡ mid ++ take (length tokens - 1) (drop 1 tokens)
    → All (IsHeldHidden names sets) made → All (IsHeldHidden names sets) tokens → All (IsHeldHidden names sets) new
held_put names sets [] space spaced made mid new some is pushed more held_made held = absurd (true≢false some)
held_put names sets (t ∷ ts) space spaced made mid new some is pushed more held_made held =
    let all : take (suc (length ts) - 1) ts ≡ ts = take_all (suc (length ts) - 1) ts (omega arith) in
    let first : IsHeldHidden names sets spaced = subst (IsHeldHidden names sets) (sym is) (spaced_held t space (held 0 blank (omega arith))) in
    let front : All (IsHeldHidden names sets) mid = subst (All (IsHeldHidden names sets)) (sym pushed) (All-push (IsHeldHidden names sets) made spaced held_made first) in
    subst (All (IsHeldHidden names sets)) (sym (more ∙ ap (λ us. mid ++ us) all)) (All-append (IsHeldHidden names sets) mid ts front (AreHeld-tail t ts held))

-- ---- the last steps

pub spaced_first : (names : List (List ℕ)) (sets : List (List Name)) (tokens : List Hidden) (space : Bool) → map (seen_hidden names sets) (first_spaced space tokens) ≡ with_space space (map (seen_hidden names sets) tokens)
spaced_first names sets [] space = refl
spaced_first names sets (t ∷ ts) space = refl

pub held_first : (names : List (List ℕ)) (sets : List (List Name)) (tokens : List Hidden) (space : Bool) → All (IsHeldHidden names sets) tokens → All (IsHeldHidden names sets) (first_spaced space tokens)
held_first names sets [] space held = held
held_first names sets (t ∷ ts) space held = All-cons (IsHeldHidden names sets) (record { token = record t.token { space = space }; hide = t.hide }) ts (spaced_held t space (held 0 blank (omega arith))) (AreHeld-tail t ts held)

-- one token hides more names
pub hides_more : {names later : List (List ℕ)} {sets mid later_sets : List (List Name)} (provenance : Provenance Place) (t : Hidden) (hide made : Hide) → ((p : Place) → provenance.mark p ≡ p)
    → IsHeldHidden names sets t → IsHeldSet names sets hide.0 → IsHeldSet names mid made.0 → hide_at names mid made.0 ≡ union (hide_at names sets t.hide.0) (hide_at names sets hide.0)
    → Extends names later → Extends sets later_sets → Extends mid later_sets
    → seen_hidden later later_sets (record { token = t.token; hide = made }) ≡ hidden_by provenance (hide_at later later_sets hide.0) (seen_hidden later later_sets t)
hides_more {names} {later} {sets} {mid} {later_sets} provenance t hide made mark held held_hide held_made joins e s m =
    let own : hide_at later later_sets t.hide.0 ≡ hide_at names sets t.hide.0 = hide_later t.hide.0 held.hide e s in
    let added : hide_at later later_sets hide.0 ≡ hide_at names sets hide.0 = hide_later hide.0 held_hide e s in
    let all : hide_at later later_sets made.0 ≡ union (hide_at later later_sets t.hide.0) (hide_at later later_sets hide.0) =
    hide_later made.0 held_made e m ∙ (joins ∙ (ap (λ h. union h (hide_at names sets hide.0)) (sym own) ∙ ap (λ h. union (hide_at later later_sets t.hide.0) h) (sym added))) in
    ap (λ h. record { kind = t.token.kind; spelling = text_of later t.token.spelling; space = t.token.space; place = t.token.place; hide = h }) all
    ∙ ap (λ p. record { kind = t.token.kind; spelling = text_of later t.token.spelling; space = t.token.space; place = p; hide = union (hide_at later later_sets t.hide.0) (hide_at later later_sets hide.0) }) (sym (mark t.token.place))

-- one turn of a loop that maps
pub mapped_more : {A B C : Type 0} (see : A → B) (see' : C → B) (f : B → B) (all made new : List A) (tokens : List C) (whole : List B) (i : ℕ) (d : C) (x : A) → i < length tokens
    → map see made ++ map f (map see' (drop i tokens)) ≡ whole → new ≡ made ++ x ∷ [] → see x ≡ f (see' (get_or tokens i d)) → map see new ++ map f (map see' (drop (i + 1) tokens)) ≡ whole
mapped_more {A} {B} {C} see see' f all made new tokens whole i d x h so_far pushed is =
    let left : List B = map f (map see' (drop (i + 1) tokens)) in
    ap (λ xs. map see xs ++ left) pushed
    ∙ (ap (λ ys. ys ++ left) (map-append see made (x ∷ []))
    ∙ (append_assoc (map see made) (see x ∷ []) left
    ∙ (ap (λ y. map see made ++ (y ∷ left)) is
    ∙ (ap (λ ts. map see made ++ map f (map see' ts)) (ap (λ k. get_or tokens i d ∷ drop k tokens) (add-one i) ∙ sym (drop-cons tokens i d h)) ∙ so_far))))

-- one part more
pub put_more : (names : List (List ℕ)) (sets : List (List Name)) (xs : List (List (model.Hidden Place))) (made new : List Hidden) (template : List Part) (i : ℕ) (d : Part) → i < length template
    → map (seen_hidden names sets) new ≡ map (seen_hidden names sets) made ++ filled_in xs (seen_part names sets (get_or template i d) ∷ [])
    → map (seen_hidden names sets) new ++ filled_in xs (map (seen_part names sets) (drop (i + 1) template)) ≡ map (seen_hidden names sets) made ++ filled_in xs (map (seen_part names sets) (drop i template))
put_more names sets xs made new template i d h put =
    let rest = map (seen_part names sets) (drop (i + 1) template) in
    ap (λ ts. ts ++ filled_in xs rest) put
    ∙ (append_assoc (map (seen_hidden names sets) made) (filled_in xs (seen_part names sets (get_or template i d) ∷ [])) (filled_in xs rest)
    ∙ (ap (λ ts. map (seen_hidden names sets) made ++ ts) (sym (filled_append xs (seen_part names sets (get_or template i d) ∷ []) rest))
    ∙ ap (λ ps. map (seen_hidden names sets) made ++ filled_in xs (map (seen_part names sets) ps)) (ap (λ k. get_or template i d ∷ drop k template) (add-one i) ∙ sym (drop-cons template i d h))))
