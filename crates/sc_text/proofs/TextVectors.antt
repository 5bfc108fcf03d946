-- The text of an answer, computed on an example.
use Rattle.std.proofs.Common.{◌≡◌, ℕ, refl, arith, codes, List, [], ◌∷◌, None, Some, Result, Ok}
use Rattle.std.specs.List.{flat_map}
use Rattle.std.specs.Fmt.{digits}
use Rattle.sc_text.specs.Answer.{Condition, token_list, Answer, At, accepted}
use Rattle.sc_text.specs.Layout.{Counts, at_start, next_condition, next_file, nothing, known, new, LaysOut, done, shows}
use Rattle.sc_model.specs.Fault.{Fault}
use Rattle.sc_model.specs.Space as model
use Rattle.sc_model.specs.Space.{Space}
use Rattle.sc_model.specs.Token.{Shown}
use Rattle.sc_text.specs.Text.{TextLine, condition_line, file_line, token_line, end_line, line_text, Printed, condition_numbered, file_numbered, answer_said, Reading, nothing_read, read_lines, numeral}
use Rattle.sc_model.specs.declared.standard.Standard.TheVariants.{C11}

abbrev space : Space
space = record { variables = record { name = codes "A"; options = model.undefined ∷ model.number 1 ∷ [] } ∷ []; include = []; branches = 4096; include_depth = 64; date = []; time = []; standard = C11; valid = None }

abbrev place : ℕ → Printed
place line = record { file = 0; position = record { line = line; column = 1 } }

abbrev example : List TextLine
example =
    condition_line 2 (codes "A") ((codes "undef", 0) ∷ (codes "1", 1) ∷ [])
    ∷ file_line 0 (codes "m.c")
    ∷ token_line 2 (place 2) (codes "x")
    ∷ condition_line 3 (codes "A") ((codes "undef", 1) ∷ (codes "1", 0) ∷ [])
    ∷ token_line 3 (place 4) (codes "y") ∷ end_line ∷ []

example-text : flat_map line_text example ≡ codes "c 2 A undef:0 1:1\ns 0 m.c\nt 2 0:2:1 x\nc 3 A undef:1 1:0\nt 3 0:4:1 y\nend\n"
unfolding digits numeral
example-text = refl

abbrev shown_at : ℕ → List ℕ → Shown
shown_at line spelling = record { place = record { file = codes "m.c"; position = record { line = line; column = 1 } }; spelling = spelling }

abbrev example_answer : Condition → Condition → Answer token_list
example_answer defined undefined = record { body = (defined, shown_at 2 (codes "x")) ∷ (undefined, shown_at 4 (codes "y")) ∷ []; faults = [] }

-- what is read of the lines, and what that is at a configuration
record IsAt (config : List ℕ) (result : Result (List Shown) Fault) : Type 0 where
  reading : Reading
  read : read_lines space nothing_read example ≡ Some reading
  answer : Answer token_list
  says : reading.said ≡ answer_said answer
  at : At answer config result

example-defined : IsAt (1 ∷ []) (Ok (shown_at 2 (codes "x") ∷ []))
unfolding digits numeral
example-defined = record { reading = _; read = refl; answer = example_answer _ _; says = refl; at = accepted _ refl refl }

example-undefined : IsAt (0 ∷ []) (Ok (shown_at 4 (codes "y") ∷ []))
unfolding digits numeral
example-undefined = record { reading = _; read = refl; answer = example_answer _ _; says = refl; at = accepted _ refl refl }

-- the lines of the example stand where the rules want them
abbrev counts : ℕ → ℕ → Counts
counts conditions files = record { conditions = conditions; files = files }

example-laid : LaysOut at_start (token_line 2 (place 2) (codes "x") ∷ token_line 3 (place 4) (codes "y") ∷ end_line ∷ []) example (counts 4 1)
example-laid =
    let undefined : List (List ℕ × ℕ) = (codes "undef", 0) ∷ (codes "1", 1) ∷ [] in
    let defined : List (List ℕ × ℕ) = (codes "undef", 1) ∷ (codes "1", 0) ∷ [] in
    shows at_start (counts 3 1) (counts 4 1) _ _ (condition_line 2 (codes "A") undefined ∷ file_line 0 (codes "m.c") ∷ []) _
    (new at_start (counts 2 0) (counts 3 0) (counts 3 1) (condition_line 2 (codes "A") undefined) (condition_numbered 2) (file_numbered 0 ∷ []) [] (file_line 0 (codes "m.c") ∷ [])
    (known at_start (counts 2 0) (condition_numbered 0) (condition_numbered 1 ∷ []) [] (omega arith) (known at_start (counts 2 0) (condition_numbered 1) [] [] (omega arith) (nothing (counts 2 0))))
    (next_condition (counts 2 0) (codes "A") undefined)
    (new (counts 3 0) (counts 3 0) (counts 3 1) (counts 3 1) (file_line 0 (codes "m.c")) (file_numbered 0) [] [] [] (nothing (counts 3 0)) (next_file (counts 3 0) (codes "m.c")) (nothing (counts 3 1))))
    (shows (counts 3 1) (counts 4 1) (counts 4 1) _ _ (condition_line 3 (codes "A") defined ∷ []) _
    (new (counts 3 1) (counts 3 1) (counts 4 1) (counts 4 1) (condition_line 3 (codes "A") defined) (condition_numbered 3) (file_numbered 0 ∷ []) [] []
    (known (counts 3 1) (counts 3 1) (condition_numbered 1) (condition_numbered 0 ∷ []) [] (omega arith) (known (counts 3 1) (counts 3 1) (condition_numbered 0) [] [] (omega arith) (nothing (counts 3 1))))
    (next_condition (counts 3 1) (codes "A") defined)
    (known (counts 4 1) (counts 4 1) (file_numbered 0) [] [] (omega arith) (nothing (counts 4 1))))
    (shows (counts 4 1) (counts 4 1) (counts 4 1) end_line [] [] [] (nothing (counts 4 1)) (done (counts 4 1))))
