use Rattle.std.proofs.Common.{◌≡◌, ◌++◌, drop, map, string_bytes, Ok}
use Rattle.sc_space.specs.SpaceFile.{◌>>=◌, read_directories}
use Rattle.toml.specs.View.{items_view}
use Rattle.sc_space.proofs.settings.read_directories.Given as goal

abbrev pub invariant-loop-place : goal.invariant-loop-place
invariant-loop-place l =
    read_directories 0 (items_view l.values) ≡ (read_directories l.place (items_view (drop l.place l.values)) >>= (λ names. Ok (map string_bytes l.directories.items ++ names)))
