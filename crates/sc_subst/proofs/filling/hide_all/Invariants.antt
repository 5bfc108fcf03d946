use Rattle.std.proofs.Common.{◌≡◌, ◌++◌, map, drop}
use Rattle.std.specs.Prelude.{All}
use Rattle.c11_macros.specs.Hidden.{Provenance}
use Rattle.c11_macros.specs.Substitution.{hiding}
use Rattle.sc_base.specs.declared.place.Place.{Place}
use Rattle.sc_model.specs.Growth.{Extends}
use Rattle.sc_subst.specs.Seen.{IsHeldHidden, Lasting, hide_at, seen_hidden}
use Rattle.sc_subst.proofs.filling.hide_all.Given as goal

-- what was made, and the tokens that are left
abbrev pub invariant-loop-token : goal.invariant-loop-token
invariant-loop-token l = record {
  grows : Extends l.fn.sets l.sets;
  own : All (IsHeldHidden l.names l.sets) l.made.items;
  is : Lasting l.names l.sets (λ names sets. (provenance : Provenance Place) → ((p : Place) → provenance.mark p ≡ p)
      → map (seen_hidden names sets) l.made.items ++ hiding provenance (hide_at names sets l.hide.0) (map (seen_hidden names sets) (drop l.token-index l.tokens))
      ≡ hiding provenance (hide_at names sets l.hide.0) (map (seen_hidden names sets) l.tokens));
}
