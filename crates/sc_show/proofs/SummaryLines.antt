-- The lines of a summary.
use Rattle.std.proofs.Common.{◌≡◌, ℕ, false, List, [], ◌∷◌, ◌++◌, All, Option, Some, None, refl, codes}
use Rattle.std.proofs.lemmas.List.{append-nil, append_assoc}
use Rattle.std.proofs.lemmas.List.Elements.{All-cons, All-nil}
use Rattle.std.specs.List.{concat}
use Rattle.sc_project.specs.declared.size.TreeSize.{TreeSize}
use Rattle.sc_show.proofs.Pieces.{has_newline, is_line, newline-append, numeral_one_line, line_text_is_line}
use Rattle.sc_show.specs.declared.summary.Summary.{Summary}
use Rattle.sc_show.specs.Pieces.{IsLine}
use Rattle.sc_show.specs.Summary.{count_line, size_line, size_text, summary_pieces}
use Rattle.sc_text.specs.Text.{numeral, line_text, end_line}

count-line : (word : List ℕ) (count : ℕ) → has_newline word ≡ false → IsLine (count_line word count)
count-line word count plain = is_line (word ++ codes " " ++ numeral count) (simp (newline-append, numeral_one_line, plain))

size_one_line : (size : Option TreeSize) → has_newline (size_text size) ≡ false
size_one_line None = refl
size_one_line (Some size) = simp (newline-append, numeral_one_line)

size-line : (word : List ℕ) (size : Option TreeSize) → has_newline word ≡ false → IsLine (size_line word size)
size-line word size plain = is_line (word ++ codes " " ++ size_text size) (simp (newline-append, size_one_line size, plain))

pub summary-lines : (s : Summary) → All IsLine (summary_pieces s)
summary-lines s =
    let items = count_line (codes "items") s.items in
    let first = size_line (codes "first") s.first in
    let last = size_line (codes "last") s.last in
    let faults = count_line (codes "faults") s.faults in
    let classes = count_line (codes "classes") s.classes in
    let end = line_text end_line in
    All-cons IsLine items (first ∷ last ∷ faults ∷ classes ∷ end ∷ []) (count-line (codes "items") s.items refl)
    (All-cons IsLine first (last ∷ faults ∷ classes ∷ end ∷ []) (size-line (codes "first") s.first refl)
    (All-cons IsLine last (faults ∷ classes ∷ end ∷ []) (size-line (codes "last") s.last refl)
    (All-cons IsLine faults (classes ∷ end ∷ []) (count-line (codes "faults") s.faults refl)
    (All-cons IsLine classes (end ∷ []) (count-line (codes "classes") s.classes refl) (All-cons IsLine end [] (line_text_is_line end_line refl) (All-nil IsLine))))))

-- pieces that are put one behind the other
pub six-joined : (a b c d e f : List ℕ) → [] ++ a ++ b ++ c ++ d ++ e ++ f ≡ concat (a ∷ b ∷ c ∷ d ∷ e ∷ f ∷ [])
six-joined a b c d e f = simp (append_assoc, append-nil)
