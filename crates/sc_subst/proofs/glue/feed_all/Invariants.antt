use Rattle.std.proofs.Common.{◌≡◌, ◌++◌, false, List, map, drop}
use Rattle.std.specs.Prelude.{All}
use Rattle.c11_macros.specs.Hidden as model
use Rattle.c11_macros.specs.Substitution as substitution
use Rattle.c11_macros.specs.Substitution.{pieces_of}
use Rattle.sc_base.specs.declared.place.Place.{Place}
use Rattle.sc_model.specs.Growth.{Extends}
use Rattle.sc_subst.specs.Glue.{IsHeldLeft, is_pasting, tokens_behind}
use Rattle.sc_subst.specs.Parts.{IsHeldPart}
use Rattle.sc_subst.specs.Seen.{Lasting, seen_hidden}
use Rattle.sc_subst.proofs.glue.feed_all.Given as goal

-- what was read, and the tokens that are left
abbrev pub invariant-loop-token : goal.invariant-loop-token
invariant-loop-token l = record {
  names_grow : Extends l.fn.names l.names;
  sets_grow : Extends l.fn.sets l.sets;
  parts : All (IsHeldPart l.names l.sets) l.parts.items;
  held : IsHeldLeft l.names l.sets l.left;
  pasting : is_pasting l.fn.left ≡ false → is_pasting l.left ≡ false;
  is : Lasting l.names l.sets (λ names sets. (head : model.Hidden Place) (expanded : List (List (model.Hidden Place))) (ps : List (substitution.Piece Place))
      → tokens_behind names sets head expanded l.fn.parts.items l.fn.left (pieces_of (map (seen_hidden names sets) l.tokens) ++ ps)
      ≡ tokens_behind names sets head expanded l.parts.items l.left (pieces_of (map (seen_hidden names sets) (drop l.token-index l.tokens)) ++ ps));
}
