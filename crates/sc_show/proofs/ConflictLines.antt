-- Conflicts as text.
use Rattle.std.proofs.Common.{◌≡◌, ℕ, zero, suc, ◌+◌, ◌<◌, ◌≤◌, true, false, List, [], ◌∷◌, ◌++◌, length, map, take, get_or, codes, All, refl, sym, ap, ◌∙◌, arith, append-nil}
use Rattle.std.specs.List.{concat, list_all}
use Rattle.std.proofs.lemmas.Bool.{and_parts, not-true}
use Rattle.std.proofs.lemmas.List.{map-append, take_more}
use Rattle.std.proofs.lemmas.List.Elements.{Contains-get_or, All-cons}
use Rattle.std.proofs.lemmas.List.Folds.{concat-append}
use Rattle.sc_grammar.specs.declared.TheConstants.{TERMINALS}
use Rattle.sc_grammar.specs.Terminals.{terminal_names}
use Rattle.sc_lalr.specs.declared.tables.Tables.{Tables}
use Rattle.sc_lalr.specs.Tables.{AreTables, conflicts_of}
use Rattle.sc_base.specs.Seen.{text_at}
use Rattle.lr_tables.specs.declared.grammar.Action.{Action}
use Rattle.lr_tables.specs.declared.grammar.Action.TheVariants.{Shift, Reduce}
use Rattle.lr_tables.specs.declared.grammar.Conflict.{Conflict}
use Rattle.lr_tables.specs.declared.grammar.Grammar.{Grammar}
use Rattle.sc_text.specs.Text.{numeral, line_text, end_line}
use Rattle.sc_model.specs.Bytes.{has_no_newline}
use Rattle.sc_show.specs.Conflicts.{IsNamed, action_text, conflict_text, conflict_pieces}
use Rattle.sc_show.specs.Pieces.{IsLine}
use Rattle.sc_show.proofs.Pieces.{has_newline, is_line, newline-append, numeral_one_line, line_text_is_line}

-- the conflicts of the tables of a grammar with no more terminals than have names
pub are_named : {g : Grammar} {tables : Tables} → AreTables g tables → g.terminals ≤ TERMINALS → All IsNamed (conflicts_of tables)
are_named {g} {tables} are few = λ k d h.
    let is = (are.exact.conflict (get_or (conflicts_of tables) k d)).0 (Contains-get_or (conflicts_of tables) k d h) in
    record { terminal = let t = is.terminal in omega arith }

-- no newline stands in the fields
names_one_line : list_all has_no_newline terminal_names ≡ true
unfolding terminal_names
names_one_line = refl

text_at_one_line : (texts : List (List ℕ)) (k : ℕ) → list_all has_no_newline texts ≡ true → has_newline (text_at texts k) ≡ false
text_at_one_line [] k h = refl
text_at_one_line (x ∷ xs) zero h = not-true (has_newline x) (and_parts (has_no_newline x) (list_all has_no_newline xs) h).0
text_at_one_line (x ∷ xs) (suc k) h = text_at_one_line xs k (and_parts (has_no_newline x) (list_all has_no_newline xs) h).1

action_one_line : (action : Action) → has_newline (action_text action) ≡ false
action_one_line (Shift state) = refl
action_one_line (Reduce production) = numeral_one_line production

conflict_text_is_line : (c : Conflict) → IsLine (conflict_text c)
conflict_text_is_line c =
    is_line (codes "k " ++ numeral c.state ++ codes " " ++ text_at terminal_names c.terminal.0 ++ codes " " ++ action_text c.kept ++ codes " " ++ action_text (Reduce c.lost))
    (simp (newline-append, numeral_one_line, text_at_one_line terminal_names c.terminal.0 names_one_line, action_one_line c.kept))

pub conflict_lines : (conflicts : List Conflict) → All IsLine (conflict_pieces conflicts)
conflict_lines [] = All-cons IsLine (line_text end_line) [] (line_text_is_line end_line refl) (λ k d h. absurd (omega arith))
conflict_lines (c ∷ cs) = All-cons IsLine (conflict_text c) (conflict_pieces cs) (conflict_text_is_line c) (conflict_lines cs)

-- the text with one conflict more
pub conflicts_more : (conflicts : List Conflict) (i : ℕ) (d : Conflict) (text more : List ℕ) → i < length conflicts → text ≡ concat (map conflict_text (take i conflicts))
    → more ≡ text ++ conflict_text (get_or conflicts i d) → more ≡ concat (map conflict_text (take (i + 1) conflicts))
conflicts_more conflicts i d text more h before now =
    now ∙ ap (λ t. t ++ conflict_text (get_or conflicts i d)) before
    ∙ sym (ap (λ cs. concat (map conflict_text cs)) (take_more conflicts i d h) ∙ ap concat (map-append conflict_text (take i conflicts) (get_or conflicts i d ∷ []))
    ∙ concat-append (map conflict_text (take i conflicts)) (conflict_text (get_or conflicts i d) ∷ []) ∙ ap (λ t. concat (map conflict_text (take i conflicts)) ++ t) (append-nil _))

-- the whole text
pub conflicts_whole : (conflicts : List Conflict) (text whole : List ℕ) → text ≡ concat (map conflict_text conflicts) → whole ≡ text ++ line_text end_line → whole ≡ concat (conflict_pieces conflicts)
conflicts_whole conflicts text whole before now = now ∙ ap (λ t. t ++ line_text end_line) before ∙ sym (concat-append (map conflict_text conflicts) (line_text end_line ∷ []))
