use Rattle.std.proofs.Common.{◌≡◌, ℕ, List, ◌++◌, drop, map, option_map}
use Rattle.c11_headers.specs.Headers.{up_to_angle}
use Rattle.sc_base.specs.Seen.{seen}
use Rattle.sc_include.proofs.header.up_to_angle.Given as goal

abbrev pub invariant-loop-token : goal.invariant-loop-token
invariant-loop-token l = (files : List (List ℕ))
    → up_to_angle (map (seen l.names files) l.tokens)
    ≡ option_map (λ rest. l.name.items ++ rest) (up_to_angle (map (seen l.names files) (drop l.token-index l.tokens)))
