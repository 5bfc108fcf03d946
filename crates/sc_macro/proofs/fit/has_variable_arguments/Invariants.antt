use Rattle.std.proofs.Common.{◌≡◌, drop, map, codes}
use Rattle.std.specs.List.{list_any}
use Rattle.sc_model.specs.Bytes.{same_bytes}
use Rattle.sc_macro.specs.Seen.{seen_item}
use Rattle.sc_macro.proofs.fit.has_variable_arguments.Given as goal

-- an item that is left is one where any is
abbrev pub invariant-loop-item : goal.invariant-loop-item
invariant-loop-item l =
    list_any (λ i. same_bytes i.spelling (codes "__VA_ARGS__")) (map (seen_item l.names) (drop l.item-index l.list))
    ≡ list_any (λ i. same_bytes i.spelling (codes "__VA_ARGS__")) (map (seen_item l.names) l.list)
