use Rattle.std.proofs.Common.{◌≡◌, ◌++◌, map, string_bytes, take}
use Rattle.c11_headers.specs.Headers.{in_directory}
use Rattle.sc_include.proofs.candidate.push_in_each.Given as goal

abbrev pub invariant-loop-directory : goal.invariant-loop-directory
invariant-loop-directory l =
    map string_bytes l.names.items
    ≡ map string_bytes l.initial.names.items ++ map (in_directory l.name) (map string_bytes (take l.directory-index l.directories))
