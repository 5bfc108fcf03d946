-- The summary of a file that is made.
use Rattle.std.specs.Prelude.{ℕ, ◌++◌, List, [], ◌∷◌, Option, Some, None, codes}
use Rattle.sc_project.specs.declared.size.TreeSize.{TreeSize}
use Rattle.sc_show.specs.declared.summary.Summary.{Summary}
use Rattle.sc_text.specs.Text.{numeral, line_text, end_line}

-- the numbers of leaves and of other nodes, where there is a tree
abbrev pub size_text : Option TreeSize → List ℕ
size_text None = codes "- -"
size_text (Some size) = numeral size.leaves ++ codes " " ++ numeral size.nodes

abbrev pub count_line : List ℕ → ℕ → List ℕ
count_line word count = word ++ codes " " ++ numeral count ++ codes "\n"

abbrev pub size_line : List ℕ → Option TreeSize → List ℕ
size_line word size = word ++ codes " " ++ size_text size ++ codes "\n"

abbrev pub summary_pieces : Summary → List (List ℕ)
summary_pieces s =
    count_line (codes "items") s.items ∷ size_line (codes "first") s.first ∷ size_line (codes "last") s.last
    ∷ count_line (codes "faults") s.faults ∷ count_line (codes "classes") s.classes ∷ line_text end_line ∷ []
