-- The file that is made from a number, and the space in which it is read.
use Rattle.std.specs.Prelude.{ℕ, zero, suc, ◌+◌, ◌*◌, ◌/◌, ◌%◌, ◌^◌, ◌==◌, ◌++◌, List, [], ◌∷◌, Some, None, codes, decimal, if◌then◌else◌, map, string_bytes}
use Rattle.std.specs.Str.{bytes_eq}
use Rattle.sc_core.specs.declared.made.MadeFile.{MadeFile}
use Rattle.sc_model.specs.Outside.{Files}
use Rattle.sc_model.specs.Space.{Space, Variable, number, undefined}
use Rattle.sc_model.specs.declared.standard.Standard.TheVariants.{C11}

-- the numbers from which the items are chosen
abbrev pub next : ℕ → ℕ
next x = (1103515245 * x + 12345) % 2 ^ 31

abbrev pub declaration_text : ℕ → ℕ → List ℕ
declaration_text i v = codes "#ifdef W" ++ decimal v ++ codes "\nint a" ++ decimal i ++ codes ";\n#else\nlong a" ++ decimal i ++ codes ";\n#endif\n"

abbrev pub call_text : ℕ → ℕ → List ℕ
call_text i v = codes "PAIR(a" ++ decimal i ++ codes ",\n#ifdef W" ++ decimal v ++ codes "\n1\n#else\n2\n#endif\n)\n"

abbrev pub definition_text : ℕ → ℕ → List ℕ
definition_text i v = codes "#ifdef W" ++ decimal v ++ codes "\ntypedef int a" ++ decimal i ++ codes ";\n#else\nint a" ++ decimal i
    ++ codes ";\n#endif\nvoid u" ++ decimal i ++ codes "(int p) { a" ++ decimal i ++ codes " * p; }\n"

abbrev pub function_text : ℕ → ℕ → List ℕ
function_text i v = codes "void a" ++ decimal i ++ codes "(int p) {\n#ifdef W" ++ decimal v ++ codes "\nif (p) p = 1; else\n#endif\np = 2;\n}\n"

-- an item of each kind, with its index and its variable
abbrev pub text_of_kind : ℕ → ℕ → ℕ → List ℕ
text_of_kind kind i v =
    if kind == 0 then declaration_text i v else if kind == 1 then call_text i v else if kind == 2 then definition_text i v else function_text i v

abbrev pub item_text : ℕ → ℕ → List ℕ
item_text i r = text_of_kind (r / 8 % 4) i (r % 8)

-- so many items from this index on, behind this number
abbrev pub items_from : ℕ → ℕ → ℕ → List ℕ
items_from zero i x = []
items_from (suc n) i x = item_text i (next x / 65536) ++ items_from n (i + 1) (next x)

abbrev pub first_line : List ℕ
first_line = codes "#define PAIR(p, q) int p = q;\n"

-- the file of so many items
abbrev pub made_bytes : ℕ → List ℕ
made_bytes n = first_line ++ items_from n 0 n

-- ---- where it stands

abbrev pub made_name : List ℕ
made_name = codes "make.c"

-- a file of this name alone
abbrev pub alone : List ℕ → Files
alone bytes name = if bytes_eq name made_name then Some bytes else None

abbrev pub made_files : ℕ → Files
made_files items = alone (made_bytes items)

abbrev pub holds_of : MadeFile → Files
holds_of file = alone (string_bytes file.text)

-- ---- the space

abbrev pub made_variable : List ℕ → Variable
made_variable name = record { name = name; options = undefined ∷ number 1 ∷ [] }

-- eight variables, and what a space file has that says no more
abbrev pub made_space : Space
made_space = record {
  variables = map made_variable (codes "W0" ∷ codes "W1" ∷ codes "W2" ∷ codes "W3" ∷ codes "W4" ∷ codes "W5" ∷ codes "W6" ∷ codes "W7" ∷ []);
  include = [];
  branches = 4096;
  include_depth = 64;
  date = codes "Jan  1 1970";
  time = codes "00:00:00";
  standard = C11;
  valid = None;
}
