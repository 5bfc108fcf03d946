use Rattle.std.proofs.Common.{◌≡◌, ◌<◌, ℕ, All, length, map, take}
use Rattle.std.specs.Option.{option_map}
use Rattle.c11_macros.specs.Macros.{definition_of}
use Rattle.sc_macro.specs.Seen.{seen_definition}
use Rattle.sc_model.specs.Growth.{Extends, IsOneToOne}
use Rattle.sc_space.specs.Seen.{seen_option}
use Rattle.sc_table.specs.Table.{AreHeldOptions, definition_at}
use Rattle.sc_table.proofs.StartOptions.{seen_list}
use Rattle.sc_table.proofs.start.option_macros.Given as goal

abbrev pub invariant-loop-option : goal.invariant-loop-option
invariant-loop-option l = record {
  grows : Extends l.fn.names l.names;
  held : AreHeldOptions l.names l.definitions.items;
  differ : IsOneToOne (seen_list l.names l.definitions.items);
  within : All (λ place. place < length l.definitions.items) l.places.items;
  seen : map (λ place. option_map (seen_definition l.names) (definition_at l.definitions.items place)) l.places.items ≡ map definition_of (map seen_option (take l.option-index l.options));
}
