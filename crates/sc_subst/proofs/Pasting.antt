-- A token that was made of two spellings is what `##` makes.
use Rattle.std.proofs.Common.{◌≡◌, ℕ, List, ◌++◌, Some, Ok, sym, ap, ◌∙◌}
use Rattle.c11_macros.specs.Hidden as model
use Rattle.c11_macros.specs.Hidden.{meet}
use Rattle.c11_macros.specs.Substitution.{pasted, pasted_as, piece}
use Rattle.c11_tokens.specs.Relex.{relexed}
use Rattle.sc_base.specs.declared.id.Name.{Name}
use Rattle.sc_base.specs.declared.place.Place.{Place}
use Rattle.sc_base.specs.declared.token.Token.{Token}
use Rattle.sc_base.proofs.Growth.{Extends-trans}
use Rattle.sc_macro.specs.Seen.{text_of}
use Rattle.sc_model.specs.declared.kind.Kind.{Kind}
use Rattle.sc_model.specs.Growth.{Extends}
use Rattle.sc_subst.specs.declared.hidden.Hidden.{Hidden}
use Rattle.sc_subst.specs.declared.hidden.Hide.{Hide}
use Rattle.sc_subst.specs.Seen.{IsHeldHidden, IsHeldSet, Lasting, hide_at, seen_hidden}
use Rattle.sc_subst.proofs.Later.{IsMade, made_seen, hide_later, text_later}

module _ (names : List (List ℕ)) (sets : List (List Name)) (left right : Hidden) (held_left : IsHeldHidden names sets left) (held_right : IsHeldHidden names sets right) (spelling : List ℕ)
    (spelled : spelling ≡ text_of names left.token.spelling ++ text_of names right.token.spelling) where
  spelled_later : {later : List (List ℕ)} → Extends names later → text_of later left.token.spelling ++ text_of later right.token.spelling ≡ spelling
  spelled_later {later} e =
      ap (λ t. t ++ text_of later right.token.spelling) (text_later left.token.spelling held_left.token.spelling e)
      ∙ (ap (λ t. text_of names left.token.spelling ++ t) (text_later right.token.spelling held_right.token.spelling e) ∙ sym spelled)

  pub pasted_made : (new_names : List (List ℕ)) (new_sets : List (List Name)) (t : Token) (hide : Hide) (kind : Kind) → Some kind ≡ relexed spelling
      → IsMade new_names t kind spelling left.token.space left.token.place → IsHeldSet names new_sets hide.0
      → hide_at names new_sets hide.0 ≡ meet (hide_at names sets left.hide.0) (hide_at names sets right.hide.0) → Extends names new_names → Extends sets new_sets
      → Lasting new_names new_sets (λ n s. (head : model.Hidden Place) → pasted head (seen_hidden n s left) (seen_hidden n s right) ≡ Ok (piece (seen_hidden n s (record { token = t; hide = hide }))))
  pasted_made new_names new_sets t hide kind is made held meets e s = record {
    at = λ n z en es head.
        let names_later = Extends-trans e en in
        let text = spelled_later names_later in
        let first : hide_at n z left.hide.0 ≡ hide_at names sets left.hide.0 = hide_later left.hide.0 held_left.hide names_later (Extends-trans s es) in
        let second : hide_at n z right.hide.0 ≡ hide_at names sets right.hide.0 = hide_later right.hide.0 held_right.hide names_later (Extends-trans s es) in
        let both : meet (hide_at n z left.hide.0) (hide_at n z right.hide.0) ≡ hide_at n z hide.0 =
        ap (λ h. meet h (hide_at n z right.hide.0)) first
        ∙ (ap (λ h. meet (hide_at names sets left.hide.0) h) second ∙ (sym meets ∙ sym (hide_later hide.0 held names_later es))) in
        ap (pasted_as head (seen_hidden n z left) (seen_hidden n z right)) (ap relexed text ∙ sym is)
        ∙ (ap (λ x. Ok (piece (record { kind = kind; spelling = x; space = left.token.space; place = left.token.place; hide = meet (hide_at n z left.hide.0) (hide_at n z right.hide.0) }))) text
        ∙ (ap (λ h. Ok (piece (record { kind = kind; spelling = spelling; space = left.token.space; place = left.token.place; hide = h }))) both
        ∙ ap (λ x. Ok (piece x)) (sym (made_seen (hide_at n z hide.0) made en))));
  }
