-- Tokens of an expansion as the tables of texts and of hide sets let them be seen.
use Rattle.std.specs.Prelude.{ℕ, ◌<◌, List, length}
use Rattle.std.specs.List.{list_any}
use Rattle.c11_macros.specs.Hidden.{HideSet}
use Rattle.c11_macros.specs.Hidden as model
use Rattle.sc_base.specs.declared.id.Name.{Name}
use Rattle.sc_base.specs.declared.place.Place.{Place}
use Rattle.sc_base.specs.Seen.{IsHeld}
use Rattle.sc_macro.specs.Seen.{AreHeld, text_of}
use Rattle.sc_model.specs.Bytes.{same_bytes}
use Rattle.sc_model.specs.Growth.{Extends}
use Rattle.sc_subst.specs.declared.hidden.Hidden.{Hidden}
use Rattle.sc_subst.specs.Hides.{set_at}

-- the texts of the names that a set has
abbrev pub texts_in : List (List ℕ) → List Name → HideSet
texts_in names set text = list_any (λ name. same_bytes (text_of names name) text) set

abbrev pub hide_at : List (List ℕ) → List (List Name) → ℕ → HideSet
hide_at names sets hide = texts_in names (set_at sets hide)

-- the place is kept as it is
abbrev pub seen_hidden : List (List ℕ) → List (List Name) → Hidden → model.Hidden Place
seen_hidden names sets h = record {
  kind = h.token.kind;
  spelling = text_of names h.token.spelling;
  space = h.token.space;
  place = h.token.place;
  hide = hide_at names sets h.hide.0;
}

-- the tables hold the set and its names
pub record IsHeldSet (names : List (List ℕ)) (sets : List (List Name)) (hide : ℕ) : Type 0 where
  pub own : hide < length sets
  pub held : AreHeld names (set_at sets hide)

-- the tables hold the token
pub record IsHeldHidden (names : List (List ℕ)) (sets : List (List Name)) (h : Hidden) : Type 0 where
  pub token : IsHeld names h.token
  pub hide : IsHeldSet names sets h.hide.0

-- the claim is true of the tables, and of all that they grow to
pub record Lasting (names : List (List ℕ)) (sets : List (List Name)) (claim : List (List ℕ) → List (List Name) → Type 0) : Type 0 where
  pub at : (later : List (List ℕ)) (later_sets : List (List Name)) → Extends names later → Extends sets later_sets → claim later later_sets
