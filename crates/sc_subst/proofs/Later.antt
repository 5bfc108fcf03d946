-- What the tables hold stays as it is seen while they grow.
use Rattle.std.proofs.Common.{◌≡◌, ℕ, ◌<◌, ◌||◌, Bool, List, [], ◌∷◌, length, get_or, slice_get, Some, refl, sym, ap, ◌∙◌, arith}
use Rattle.std.specs.Prelude.{unwrap_or}
use Rattle.std.proofs.lemmas.Option.{get_or_from_slice_get, slice_get-get_or, slice_get_within, same_Some}
use Rattle.c11_macros.specs.Hidden as model
use Rattle.c11_macros.specs.Hidden.{HideSet, Failure}
use Rattle.sc_base.specs.declared.id.Name.{Name}
use Rattle.sc_base.specs.declared.place.Place.{Place}
use Rattle.sc_base.specs.declared.token.Token.{Token}
use Rattle.sc_base.specs.Seen.{IsHeld, position_of}
use Rattle.sc_base.proofs.Growth.{Extends-refl, Extends-within, Extends-keeps}
use Rattle.sc_lex.specs.Spell.{lexeme_at}
use Rattle.sc_macro.specs.Seen.{AreHeld, text_of}
use Rattle.sc_model.specs.declared.kind.Kind.{Kind}
use Rattle.sc_model.specs.Bytes.{same_bytes}
use Rattle.sc_model.specs.Growth.{Extends}
use Rattle.sc_model.specs.Token.{Lexeme, name_of}
use Rattle.sc_subst.specs.declared.hidden.Hidden.{Hidden}
use Rattle.sc_subst.specs.Hides.{set_at}
use Rattle.sc_subst.specs.Seen.{IsHeldHidden, IsHeldSet, hide_at, seen_hidden, texts_in}
use Rattle.sc_subst.proofs.SeenLaws.{held_tail, same_sets}

pub text_later : {names later : List (List ℕ)} (name : Name) → name.0 < length names → Extends names later → text_of later name ≡ text_of names name
text_later {names} {later} name own e = ap (λ text. unwrap_or text []) (e.kept name.0 own)

pub text_is : {names later : List (List ℕ)} (name : Name) (text : List ℕ) → slice_get names name.0 ≡ Some text → Extends names later → text_of later name ≡ text
text_is {names} {later} name text at e = ap (λ t. unwrap_or t []) (Extends-keeps name.0 text at e)

texts_later : {names later : List (List ℕ)} (set : List Name) → AreHeld names set → Extends names later → texts_in later set ≡ texts_in names set
texts_later {names} {later} [] held e = refl
texts_later {names} {later} (x ∷ xs) held e =
    let first : text_of later x ≡ text_of names x = text_later x (held 0 x (omega arith)) e in
    let rest : texts_in later xs ≡ texts_in names xs = texts_later xs (held_tail names x xs held) e in
    same_sets _ _ (λ text. ap (λ t. same_bytes t text || texts_in later xs text) first ∙ ap (λ s. same_bytes (text_of names x) text || s text) rest)

pub set_later : {sets later : List (List Name)} (hide : ℕ) → hide < length sets → Extends sets later → set_at later hide ≡ set_at sets hide
set_later {sets} {later} hide own e = get_or_from_slice_get later hide (set_at sets hide) [] (e.kept hide own ∙ slice_get-get_or sets hide [] own)

pub hide_later : {names later : List (List ℕ)} {sets later_sets : List (List Name)} (hide : ℕ) → IsHeldSet names sets hide → Extends names later → Extends sets later_sets
    → hide_at later later_sets hide ≡ hide_at names sets hide
hide_later {names} {later} {sets} {later_sets} hide held e s =
    ap (texts_in later) (set_later hide held.own s) ∙ texts_later (set_at sets hide) held.held e

pub hidden_later : {names later : List (List ℕ)} {sets later_sets : List (List Name)} (h : Hidden) → IsHeldHidden names sets h → Extends names later → Extends sets later_sets
    → seen_hidden later later_sets h ≡ seen_hidden names sets h
hidden_later {names} {later} {sets} {later_sets} h held e s =
    let text : text_of later h.token.spelling ≡ text_of names h.token.spelling = text_later h.token.spelling held.token.spelling e in
    let hide : hide_at later later_sets h.hide.0 ≡ hide_at names sets h.hide.0 = hide_later h.hide.0 held.hide e s in
    ap (λ t. record { kind = h.token.kind; spelling = t; space = h.token.space; place = h.token.place; hide = hide_at later later_sets h.hide.0 }) text
    ∙ ap (λ x. record { kind = h.token.kind; spelling = text_of names h.token.spelling; space = h.token.space; place = h.token.place; hide = x }) hide

pub IsHeld-Extends : {names later : List (List ℕ)} (t : Token) → IsHeld names t → Extends names later → IsHeld later t
IsHeld-Extends {names} {later} t held e = record {
  spelling = Extends-within t.spelling.0 held.spelling e;
  name = Extends-within t.name.0 held.name e;
  stands_for = text_later t.name held.name e ∙ (held.stands_for ∙ ap name_of (sym (text_later t.spelling held.spelling e)));
}

AreHeld-Extends : {names later : List (List ℕ)} (set : List Name) → AreHeld names set → Extends names later → AreHeld later set
AreHeld-Extends {names} {later} set held e = λ k d h. Extends-within (get_or set k d).0 (held k d h) e

pub IsHeldSet-Extends : {names later : List (List ℕ)} {sets later_sets : List (List Name)} (hide : ℕ) → IsHeldSet names sets hide → Extends names later → Extends sets later_sets
    → IsHeldSet later later_sets hide
IsHeldSet-Extends {names} {later} {sets} {later_sets} hide held e s = record {
  own = Extends-within hide held.own s;
  held = rw (set_later hide held.own s) (AreHeld-Extends (set_at sets hide) held.held e);
}

pub IsHeldHidden-Extends : {names later : List (List ℕ)} {sets later_sets : List (List Name)} (h : Hidden) → IsHeldHidden names sets h → Extends names later → Extends sets later_sets
    → IsHeldHidden later later_sets h
IsHeldHidden-Extends {names} {later} {sets} {later_sets} h held e s = record {
  token = IsHeld-Extends h.token held.token e;
  hide = IsHeldSet-Extends h.hide.0 held.hide e s;
}

-- ---- a token that was made

-- what `token` promises
pub record IsMade (names : List (List ℕ)) (t : Token) (kind : Kind) (spelling : List ℕ) (space : Bool) (place : Place) : Type 0 where
  pub spelled : lexeme_at names t ≡ Some (record { kind = kind; spelling = spelling; space = space; position = position_of place })
  pub named : slice_get names t.name.0 ≡ Some (name_of spelling)
  pub text : slice_get names t.spelling.0 ≡ Some spelling
  pub placed : t.place ≡ place

pub IsHeld-IsMade : {names : List (List ℕ)} {t : Token} {kind : Kind} {spelling : List ℕ} {space : Bool} {place : Place} → IsMade names t kind spelling space place → IsHeld names t
IsHeld-IsMade {names} {t} {kind} {spelling} {space} {place} made = record {
  spelling = slice_get_within names t.spelling.0 spelling made.text;
  name = slice_get_within names t.name.0 (name_of spelling) made.named;
  stands_for = text_is t.name (name_of spelling) made.named (Extends-refl names) ∙ ap name_of (sym (text_is t.spelling spelling made.text (Extends-refl names)));
}

pub made_seen : {names later : List (List ℕ)} {t : Token} {kind : Kind} {spelling : List ℕ} {space : Bool} {place : Place} (hide : HideSet)
    → IsMade names t kind spelling space place → Extends names later
    → record { kind = t.kind; spelling = text_of later t.spelling; space = t.space; place = t.place; hide = hide }
    ≡ (let made : model.Hidden Place = record { kind = kind; spelling = spelling; space = space; place = place; hide = hide } in made)
made_seen {names} {later} {t} {kind} {spelling} {space} {place} hide made e =
    let lexeme : record { kind = t.kind; spelling = spelling; space = t.space; position = position_of t.place }
    ≡ (let l : Lexeme = record { kind = kind; spelling = spelling; space = space; position = position_of place } in l) =
    same_Some _ _ (rw made.text at made.spelled) in
    let kinds : t.kind ≡ kind = ap (λ (l : Lexeme). l.kind) lexeme in
    let spaces : t.space ≡ space = ap (λ (l : Lexeme). l.space) lexeme in
    ap (λ x. record { kind = x; spelling = text_of later t.spelling; space = t.space; place = t.place; hide = hide }) kinds
    ∙ (ap (λ x. record { kind = kind; spelling = x; space = t.space; place = t.place; hide = hide }) (text_is t.spelling spelling made.text e)
    ∙ (ap (λ x. record { kind = kind; spelling = spelling; space = x; place = t.place; hide = hide }) spaces
    ∙ ap (λ x. record { kind = kind; spelling = spelling; space = space; place = x; hide = hide }) made.placed))
