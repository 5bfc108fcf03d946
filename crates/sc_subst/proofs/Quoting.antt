-- The string literal of the spellings of tokens.
use Rattle.std.proofs.Common.{◌≡◌, ℕ, suc, ◌<◌, Bool, true, false, List, [], ◌∷◌, ◌++◌, length, map, Ok, Err, refl, sym, ap, ◌∙◌, arith}
use Rattle.std.specs.Prelude.{All}
use Rattle.c11_macros.specs.Hidden as model
use Rattle.c11_macros.specs.Hidden.{HideSet, failure_at, no_names}
use Rattle.c11_macros.specs.Substitution.{is_text_kind, literal_of, spellings, stringized}
use Rattle.c11_tokens.specs.Relex.{relexed}
use Rattle.sc_base.specs.declared.id.Name.{Name}
use Rattle.sc_base.specs.declared.place.Place.{Place}
use Rattle.sc_base.specs.declared.token.Token.{Token}
use Rattle.sc_base.proofs.Growth.{Extends-trans}
use Rattle.sc_model.specs.declared.cause.Cause.TheVariants.{BadStringize}
use Rattle.sc_model.specs.declared.kind.Kind.TheVariants.{Identifier, Text}
use Rattle.sc_model.specs.Growth.{Extends}
use Rattle.sc_subst.specs.declared.hidden.Hidden.{Hidden}
use Rattle.sc_subst.specs.declared.hidden.Hide.{Hide}
use Rattle.sc_subst.specs.Hides.{set_at}
use Rattle.sc_subst.specs.Seen.{IsHeldHidden, IsHeldSet, Lasting, hide_at, seen_hidden, texts_in}
use Rattle.sc_subst.proofs.Later.{IsMade, hidden_later, made_seen, set_later}

abbrev pub blank : Hidden
blank = record { token = record { kind = Identifier; name = record { 0 = 0 }; spelling = record { 0 = 0 }; space = false; place = record { file = record { 0 = 0 }; line = 0; column = 0 } }; hide = record { 0 = 0 } }

pub AreHeld-tail : {names : List (List ℕ)} {sets : List (List Name)} (x : Hidden) (xs : List Hidden) → All (IsHeldHidden names sets) (x ∷ xs) → All (IsHeldHidden names sets) xs
AreHeld-tail {names} {sets} x xs held = λ k d h. held (suc k) d (omega arith)

pub list_later : {names later : List (List ℕ)} {sets later_sets : List (List Name)} (xs : List Hidden) → All (IsHeldHidden names sets) xs → Extends names later → Extends sets later_sets
    → map (seen_hidden later later_sets) xs ≡ map (seen_hidden names sets) xs
list_later {names} {later} {sets} {later_sets} [] held e s = refl
list_later {names} {later} {sets} {later_sets} (x ∷ xs) held e s =
    ap (λ t. t ∷ map (seen_hidden later later_sets) xs) (hidden_later x (held 0 x (omega arith)) e s)
    ∙ ap (λ ts. seen_hidden names sets x ∷ ts) (list_later xs (AreHeld-tail x xs held) e s)

pub empty_later : (later : List (List ℕ)) {sets later_sets : List (List Name)} (hide : ℕ) → hide < length sets → set_at sets hide ≡ [] → Extends sets later_sets → hide_at later later_sets hide ≡ no_names
empty_later later {sets} {later_sets} hide own none s = ap (texts_in later) (set_later hide own s ∙ none)

literal_some : (head : model.Hidden Place) (space : Bool) (text : List ℕ) → is_text_kind (relexed text) ≡ true
    → literal_of head space text ≡ Ok (record { kind = Text; spelling = text; space = space; place = head.place; hide = no_names })
literal_some head space text is = rw is refl

literal_none : (head : model.Hidden Place) (space : Bool) (text : List ℕ) → is_text_kind (relexed text) ≡ false → literal_of head space text ≡ Err (failure_at BadStringize head)
literal_none head space text is = rw is refl

module _ (names : List (List ℕ)) (sets : List (List Name)) (raw : List Hidden) (held : All (IsHeldHidden names sets) raw) (space : Bool) (place : Place) (spelling : List ℕ)
    (spelled : spelling ≡ 34 ∷ spellings (map (seen_hidden names sets) raw) ++ 34 ∷ []) where
  spelled_later : {later : List (List ℕ)} {later_sets : List (List Name)} → Extends names later → Extends sets later_sets → 34 ∷ spellings (map (seen_hidden later later_sets) raw) ++ 34 ∷ [] ≡ spelling
  spelled_later {later} {later_sets} e s = ap (λ ts. 34 ∷ spellings ts ++ 34 ∷ []) (list_later raw held e s) ∙ sym spelled

  pub literal_made : (new_names : List (List ℕ)) (t : Token) (hide : Hide) → true ≡ is_text_kind (relexed spelling) → IsMade new_names t Text spelling space place → hide.0 < length sets
      → set_at sets hide.0 ≡ [] → Extends names new_names
      → Lasting new_names sets (λ n s. (head : model.Hidden Place) → head.place ≡ place → stringized head space (map (seen_hidden n s) raw) ≡ Ok (seen_hidden n s (record { token = t; hide = hide })))
  literal_made new_names t hide is made own none e = record {
    at = λ n s en es head at.
        ap (literal_of head space) (spelled_later (Extends-trans e en) es)
        ∙ (literal_some head space spelling (sym is)
        ∙ (ap (λ p. Ok (record { kind = Text; spelling = spelling; space = space; place = p; hide = no_names })) at
        ∙ (ap (λ h. Ok (record { kind = Text; spelling = spelling; space = space; place = place; hide = h })) (sym (empty_later n hide.0 own none es))
        ∙ ap Ok (sym (made_seen (hide_at n s hide.0) made en)))));
  }

  pub literal_refused : false ≡ is_text_kind (relexed spelling)
      → Lasting names sets (λ n s. (head : model.Hidden Place) → head.place ≡ place → stringized head space (map (seen_hidden n s) raw) ≡ Err (failure_at BadStringize head))
  literal_refused is = record { at = λ n s en es head at. ap (literal_of head space) (spelled_later en es) ∙ literal_none head space spelling (sym is) }

pub held_none : {names : List (List ℕ)} {sets : List (List Name)} (hide : ℕ) → hide < length sets → set_at sets hide ≡ [] → IsHeldSet names sets hide
held_none {names} {sets} hide own none = record { own = own; held = rw none (λ k d h. absurd (omega arith)) }
