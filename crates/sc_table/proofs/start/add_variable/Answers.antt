use Rattle.std.proofs.Common.{◌∙◌, ℕ, List, Some, map, ap, sym, arith}
use Rattle.std.proofs.lemmas.List.{length-map}
use Rattle.std.proofs.lemmas.Result.{on_ok_weaker}
use Rattle.std.specs.Option.{option_and_then}
use Rattle.std.specs.Prelude.{slice_get, slice_index, string_bytes}
use Rattle.c11_macros.specs.Macros.{definition_of}
use Rattle.sc_space.specs.declared.option.VariableOption.{VariableOption}
use Rattle.sc_space.specs.Seen.{seen_option}
use Rattle.sc_base.proofs.Growth.{Extends-trans}
use Rattle.sc_table.proofs.Starting.{name-text, named-as, options-entry, started-Extends}
use Rattle.sc_table.proofs.start.add_variable.Goals as goal

pub returns-clause-added : goal.returns-clause-added
returns-clause-added c = on_ok_weaker c.put_entry.result (λ put arities macros started within wide.
    let names = c.option_macros.new.names in
    let options = map seen_option c.args.variable.now.options.items in
    let says = λ (config : List ℕ). option_and_then definition_of (slice_get options (slice_index config c.args.index)) in
    let grows = c.in_ok-places.ensures.grows in
    named-as macros says _ (string_bytes c.args.variable.now.name) (name-text grows c.in_ok-name.name _ c.in_ok-name.ensures.own (c.in_ok-name.ensures.named ∙ ap Some c.as_bytes.ensures.value))
    (put names arities macros says c.one_to_one.ensures (omega (arith, c.in_ok-name.ensures.own, grows.longer)) (started-Extends (Extends-trans c.in_ok-name.ensures.grows grows) started)
    (options-entry arities names c.args.index c.in_ok-places.places c.in_ok-places.definitions options c.in_ok-places.ensures.named (c.in_ok-places.ensures.seen ∙ ap (λ (os : List VariableOption). map definition_of (map seen_option os)) c.as_slice.ensures.value) within (wide ∙ sym (length-map c.args.variable.now.options.items seen_option)))))
    c.put_entry.ensures
