-- A template in the making: what stands before the pieces that are left.
use Rattle.std.specs.Prelude.{Bool, true, false, ℕ, List, ◌∷◌, ◌++◌, map, Result}
use Rattle.c11_macros.specs.Hidden as model
use Rattle.c11_macros.specs.Hidden.{Failure}
use Rattle.c11_macros.specs.Results.{result_map}
use Rattle.c11_macros.specs.Substitution as substitution
use Rattle.c11_macros.specs.Substitution.{all_glued, glued, tokens_of}
use Rattle.sc_base.specs.declared.id.Name.{Name}
use Rattle.sc_base.specs.declared.place.Place.{Place}
use Rattle.sc_subst.specs.declared.glue.Left.{Left}
use Rattle.sc_subst.specs.declared.glue.Left.TheVariants as left
use Rattle.sc_subst.specs.declared.glue.Piece.{Piece}
use Rattle.sc_subst.specs.declared.glue.Piece.TheVariants as piece
use Rattle.sc_subst.specs.declared.part.Part.{Part}
use Rattle.sc_subst.specs.declared.slots.Slot.{Slot}
use Rattle.sc_subst.specs.declared.slots.Slot.TheVariants as slot
use Rattle.sc_subst.specs.Parts.{filled_in, seen_part}
use Rattle.sc_subst.specs.Seen.{IsHeldHidden, seen_hidden}

abbrev pub seen_piece : List (List ℕ) → List (List Name) → Piece → substitution.Piece Place
seen_piece names sets (piece.Token t) = substitution.piece (seen_hidden names sets t)
seen_piece names sets piece.Operator = substitution.operator
seen_piece names sets piece.Placemarker = substitution.placemarker

abbrev pub IsHeldPiece : List (List ℕ) → List (List Name) → Piece → Type 0
IsHeldPiece names sets (piece.Token t) = IsHeldHidden names sets t
IsHeldPiece names sets piece.Operator = Unit {0}
IsHeldPiece names sets piece.Placemarker = Unit {0}

abbrev pub IsHeldLeft : List (List ℕ) → List (List Name) → Left → Type 0
IsHeldLeft names sets left.Nothing = Unit {0}
IsHeldLeft names sets (left.Operand p) = IsHeldPiece names sets p
IsHeldLeft names sets (left.Pasting p) = IsHeldPiece names sets p

abbrev pub is_pasting : Left → Bool
is_pasting (left.Pasting p) = true
is_pasting _ = false

abbrev pub is_operator : Piece → Bool
is_operator piece.Operator = true
is_operator _ = false

-- the pieces pasted behind what was read
abbrev pub glued_behind : List (List ℕ) → List (List Name) → model.Hidden Place → Left → List (substitution.Piece Place) → Result (List (substitution.Piece Place)) (Failure Place)
glued_behind names sets head left.Nothing ps = all_glued head ps
glued_behind names sets head (left.Operand p) ps = glued head (seen_piece names sets p) ps
glued_behind names sets head (left.Pasting p) ps = glued head (seen_piece names sets p) (substitution.operator ∷ ps)

-- the tokens of a template that is made so far, with these arguments, and those that the pieces
-- make
abbrev pub tokens_behind : List (List ℕ) → List (List Name) → model.Hidden Place → List (List (model.Hidden Place)) → List Part → Left → List (substitution.Piece Place)
    → Result (List (model.Hidden Place)) (Failure Place)
tokens_behind names sets head expanded parts before ps = result_map (λ qs. filled_in expanded (map (seen_part names sets) parts) ++ tokens_of qs) (glued_behind names sets head before ps)

abbrev pub begins_operator : {P : Type 0} → List (substitution.Piece P) → Bool
begins_operator (substitution.operator ∷ ps) = true
begins_operator _ = false

abbrev pub is_paste_slot : Slot → Bool
is_paste_slot slot.Paste = true
is_paste_slot _ = false
