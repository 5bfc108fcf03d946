use Rattle.std.proofs.Common.{◌≡◌, ◌++◌, List, drop, map}
use Rattle.c11_macros.specs.Substitution.{spellings_after}
use Rattle.sc_base.specs.declared.id.Name.{Name}
use Rattle.sc_subst.specs.Seen.{seen_hidden}
use Rattle.sc_subst.proofs.literal.push_rest.Given as goal

-- what was written, and the tokens that are left
abbrev pub invariant-loop-hidden : goal.invariant-loop-hidden
invariant-loop-hidden l = (sets : List (List Name)) → l.bytes.items ++ spellings_after (map (seen_hidden l.names sets) (drop l.hidden-index l.rest)) ≡ l.fn.bytes.items ++ spellings_after (map (seen_hidden l.names sets) l.rest)
