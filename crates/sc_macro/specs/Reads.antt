-- What a #define line defines.
use Rattle.std.specs.Prelude.{◌≡◌, ℕ, List, map, drop, Ok, Err}
use Rattle.c11_macros.specs.Defines.{reads, Defined}
use Rattle.sc_base.specs.declared.token.Token.{Token}
use Rattle.sc_base.specs.Seen.{seen}
use Rattle.sc_macro.specs.declared.definition.Definition.{Definition}
use Rattle.sc_macro.specs.declared.stop.DefineStop.{DefineStop}
use Rattle.sc_macro.specs.declared.stop.DefineStop.TheVariants.{Fault, OutOfMemory}
use Rattle.sc_macro.specs.Seen.{seen_definition, text_of}
use Rattle.sc_model.specs.declared.standard.Standard.{Standard}

-- what a line defines, by the name
abbrev pub seen_defined : List (List ℕ) → Definition → Defined
seen_defined names d = record { name = text_of names d.name; definition = seen_definition names d }

-- the tokens of a line behind the word define, whatever the names of files
abbrev pub Reads : Standard → List (List ℕ) → List Token → Definition → Type 0
Reads standard names line d = (files : List (List ℕ)) → reads standard (map (seen names files) (drop 2 line)) ≡ Ok (seen_defined names d)

-- what a refusal says
abbrev pub Refuses : Standard → List (List ℕ) → List Token → DefineStop → Type 0
Refuses standard names line (Fault cause) = (files : List (List ℕ)) → reads standard (map (seen names files) (drop 2 line)) ≡ Err cause
Refuses standard names line OutOfMemory = Unit {0}
