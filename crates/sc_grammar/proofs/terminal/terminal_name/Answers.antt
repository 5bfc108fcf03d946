use Rattle.std.proofs.Common.{ℕ, List, ◌≡◌, ◌<◌, ◌∙◌, sym, ap, refl, length, map, slice_get, get_or, Some, option_map, arith, Bor}
use Rattle.std.proofs.lemmas.List.{length-map}
use Rattle.std.proofs.lemmas.Option.{slice_get-map, slice_get-get_or}
use Rattle.lr_tables.specs.declared.grammar.Terminal.{Terminal}
use Rattle.sc_grammar.specs.declared.TheConstants.{TERMINALS}
use Rattle.sc_grammar.specs.Terminals.{terminal_names}
use Rattle.sc_grammar.proofs.terminal.terminal_name.Goals as goal

count : length terminal_names ≡ TERMINALS
unfolding terminal_names
count = refl

abbrev name_of : Terminal × Bor (List ℕ) → List ℕ
name_of entry = entry.1.now

within : (entries : List (Terminal × Bor (List ℕ))) (k : ℕ) → map name_of entries ≡ terminal_names → k < TERMINALS → k < length entries
within entries k same h = omega (arith, length-map entries name_of, ap length same, count)

name_at : (entries : List (Terminal × Bor (List ℕ))) (k : ℕ) (d : Terminal × Bor (List ℕ)) → map name_of entries ≡ terminal_names → k < TERMINALS → slice_get terminal_names k ≡ Some (name_of (get_or entries k d))
name_at entries k d same h =
    ap (λ texts. slice_get texts k) (sym same) ∙ slice_get-map name_of entries k ∙ ap (option_map name_of) (slice_get-get_or entries k d (within entries k same h))

pub bounds-names-terminal : goal.bounds-names-terminal
bounds-names-terminal c = within c.names.result.now c.args.terminal.0 c.names.ensures.names c.requires

pub returns : goal.returns
returns c = name_at c.names.result.now c.args.terminal.0 _ c.names.ensures.names c.requires
