-- The text of a result, read from its first line to its last.
use Rattle.std.specs.Prelude.{◌≡◌, ℕ, zero, suc, ◌+◌, ◌==◌, ◌&&◌, not, nat_lt, Bool, true, false, List, [], ◌∷◌, ◌++◌, length, map, get_or, codes, Option, Some, None, slice_index, ◌||◌, if◌then◌else◌}
use Rattle.std.specs.Fmt.{digits_onto}
use Rattle.std.specs.List.{list_all, list_any, flat_map}
use Rattle.std.specs.Option.{option_and_then, option_to_list}
use Rattle.sc_model.specs.declared.cause.Cause.{Cause}
use Rattle.sc_model.specs.Bytes.{same_bytes, has_no_newline}
use Rattle.sc_model.specs.Cause.{code_of, name_of as name_of_cause}
use Rattle.sc_model.specs.Fault.{Fault}
use Rattle.sc_model.specs.Space.{Variable, Space, option_words}
use Rattle.sc_model.specs.Token.{Position, Place, Shown}
use Rattle.sc_text.specs.Answer.{Condition, Part, leaf_part, node_part, choice_part, BodyKind, token_list, tree_parts, Body, Answer}

-- ---- how the lines are written

-- A place as it is printed: the number of a file, and a line and a column.
pub record Printed : Type 0 where
  pub file : ℕ
  pub position : Position

pub data TextLine : Type 0 where
  -- a node of a decision diagram: its number, its variable, and for each option its text and the
  -- number of what remains
  condition_line : (id : ℕ) (variable : List ℕ) (options : List (List ℕ × ℕ)) → TextLine
  file_line : (id : ℕ) (name : List ℕ) → TextLine
  token_line : (condition : ℕ) (place : Printed) (spelling : List ℕ) → TextLine
  -- the parts of a tree, each with its number
  leaf_line : (id : ℕ) (place : Printed) (spelling : List ℕ) → TextLine
  node_line : (id production : ℕ) (children : List ℕ) → TextLine
  -- for each branch the number of its condition and that of its part
  choice_line : (id : ℕ) (branches : List (ℕ × ℕ)) → TextLine
  root_line : Option ℕ → TextLine
  fault_line : (condition : ℕ) (cause : Cause) (place : Printed) → TextLine
  end_line : TextLine

-- the decimal digits of a number of any size
unfoldable pub numeral : ℕ → List ℕ
numeral n = digits_onto (suc n) 10 false n []

abbrev pub place_text : Printed → List ℕ
place_text p = numeral p.file ++ codes ":" ++ numeral p.position.line ++ codes ":" ++ numeral p.position.column

abbrev pub choice_text : List ℕ × ℕ → List ℕ
choice_text choice = codes " " ++ choice.0 ++ codes ":" ++ numeral choice.1

abbrev pub child_text : ℕ → List ℕ
child_text child = codes " " ++ numeral child

abbrev pub branch_text : ℕ × ℕ → List ℕ
branch_text branch = codes " " ++ numeral branch.0 ++ codes ":" ++ numeral branch.1

abbrev pub root_text : Option ℕ → List ℕ
root_text None = codes "-"
root_text (Some number) = numeral number

abbrev pub line_text : TextLine → List ℕ
line_text (condition_line id variable options) = codes "c " ++ numeral id ++ codes " " ++ variable ++ flat_map choice_text options ++ codes "\n"
line_text (file_line id name) = codes "s " ++ numeral id ++ codes " " ++ name ++ codes "\n"
line_text (token_line cond place spelling) = codes "t " ++ numeral cond ++ codes " " ++ place_text place ++ codes " " ++ spelling ++ codes "\n"
line_text (leaf_line id place spelling) = codes "l " ++ numeral id ++ codes " " ++ place_text place ++ codes " " ++ spelling ++ codes "\n"
line_text (node_line id production children) = codes "n " ++ numeral id ++ codes " " ++ numeral production ++ flat_map child_text children ++ codes "\n"
line_text (choice_line id branches) = codes "x " ++ numeral id ++ flat_map branch_text branches ++ codes "\n"
line_text (root_line root) = codes "root " ++ root_text root ++ codes "\n"
line_text (fault_line cond cause place) =
    codes "f " ++ numeral cond ++ codes " " ++ numeral (code_of cause) ++ codes " " ++ name_of_cause cause ++ codes " " ++ place_text place ++ codes "\n"
line_text end_line = codes "end\n"

abbrev pub is_wordless : ℕ → Bool
is_wordless b = b == 10 || b == 32

-- nothing in the line can be taken for the end of a field or of the line
abbrev pub is_word : List ℕ → Bool
is_word text = not (list_any is_wordless text)

abbrev pub is_clear : TextLine → Bool
is_clear (condition_line id variable choices) = is_word variable && list_all (λ choice. is_word choice.0 && not (list_any (λ b. b == 58) choice.0)) choices
is_clear (file_line id name) = has_no_newline name
is_clear (token_line cond place spelling) = has_no_newline spelling
is_clear (leaf_line id place spelling) = has_no_newline spelling
is_clear line = true

-- ---- what a line needs

-- a line that another needs before it: that of a condition, or of a file, with this number
pub data Need : Type 0 where
  condition_numbered : ℕ → Need
  file_numbered : ℕ → Need

-- what a line needs before it, in order
abbrev pub needs : TextLine → List Need
needs (condition_line id variable options) = map (λ (option : List ℕ × ℕ). condition_numbered option.1) options
needs (token_line cond place spelling) = condition_numbered cond ∷ file_numbered place.file ∷ []
needs (leaf_line id place spelling) = file_numbered place.file ∷ []
needs (choice_line id branches) = map (λ (branch : ℕ × ℕ). condition_numbered branch.0) branches
needs (fault_line cond cause place) = condition_numbered cond ∷ file_numbered place.file ∷ []
needs line = []

-- ---- what the lines say

-- what one line says of the answer
pub data Said : Type 0 where
  token_said : Condition × Shown → Said
  part_said : ℕ → Part → Said
  root_said : Option ℕ → Said
  fault_said : Condition × Fault → Said
  end_said : Said

-- the condition of a number; a number without one has no configuration
abbrev pub condition_at : List Condition → ℕ → Condition
condition_at [] id config = false
condition_at (test ∷ tests) zero config = test config
condition_at (test ∷ tests) (suc id) config = condition_at tests id config

-- the place that is printed so
abbrev pub place_of : List (List ℕ) → Printed → Place
place_of files p = record { file = get_or files p.file []; position = p.position }

-- the branches that are printed so
abbrev pub branches_of : List Condition → List (ℕ × ℕ) → List (Condition × ℕ)
branches_of conditions branches = map (λ (branch : ℕ × ℕ). (condition_at conditions branch.0, branch.1)) branches

-- what a line says, by the conditions and the files of the text
abbrev pub says : List Condition → List (List ℕ) → TextLine → Option Said
says conditions files (token_line cond place spelling) = Some (token_said (condition_at conditions cond, record { place = place_of files place; spelling = spelling }))
says conditions files (leaf_line id place spelling) = Some (part_said id (leaf_part (record { place = place_of files place; spelling = spelling })))
says conditions files (node_line id production children) = Some (part_said id (node_part production children))
says conditions files (choice_line id branches) = Some (part_said id (choice_part (branches_of conditions branches)))
says conditions files (root_line root) = Some (root_said root)
says conditions files (fault_line cond cause place) = Some (fault_said (condition_at conditions cond, record { cause = cause; place = place_of files place }))
says conditions files end_line = Some end_said
says conditions files line = None

-- what the lines of an answer say, in order: its body, its faults and the end
abbrev pub parts_said : ℕ → List Part → List Said
parts_said next [] = []
parts_said next (part ∷ parts) = part_said next part ∷ parts_said (next + 1) parts

abbrev pub body_said : (kind : BodyKind) → Body kind → List Said
body_said token_list items = map token_said items
body_said tree_parts body = parts_said 0 body.parts ++ root_said body.root ∷ []

abbrev pub answer_said : {kind : BodyKind} → Answer kind → List Said
answer_said {kind} answer = body_said kind answer.body ++ (map fault_said answer.faults ++ end_said ∷ [])

-- ---- how they are read

-- What the lines so far say. Condition 0 has no configuration and 1 has all.
pub record Reading : Type 0 where
  pub conditions : List Condition
  pub files : List (List ℕ)
  pub said : List Said
  pub ended : Bool

abbrev pub nothing_read : Reading
nothing_read = record { conditions = (λ _. false) ∷ (λ _. true) ∷ []; files = []; said = []; ended = false }

-- the place of the variable of a name among the variables, which are counted from this number
abbrev pub variable_from : ℕ → List Variable → List ℕ → Option (ℕ × Variable)
variable_from n [] name = None
variable_from n (v ∷ vs) name = if same_bytes v.name name then Some (n, v) else variable_from (n + 1) vs name

-- the texts of all options in order, each with the number of a condition before this one
abbrev pub are_options : ℕ → List (List ℕ) → List (List ℕ × ℕ) → Bool
are_options id [] [] = true
are_options id (text ∷ texts) [] = false
are_options id [] (choice ∷ choices) = false
are_options id (text ∷ texts) (choice ∷ choices) = same_bytes choice.0 text && nat_lt choice.1 id && are_options id texts choices

-- the configurations that the condition for their option of the variable has
abbrev pub chosen : List Condition → ℕ → List (List ℕ × ℕ) → Condition
chosen conditions variable choices config = condition_at conditions (slice_index (map (λ choice. choice.1) choices) (slice_index config variable)) config

abbrev pub with_condition : Reading → Condition → Reading
with_condition r test = record { conditions = r.conditions ++ test ∷ []; files = r.files; said = r.said; ended = r.ended }

abbrev pub with_file : Reading → List ℕ → Reading
with_file r name = record { conditions = r.conditions; files = r.files ++ name ∷ []; said = r.said; ended = r.ended }

abbrev pub is_end : TextLine → Bool
is_end end_line = true
is_end line = false

abbrev pub with_line : Reading → TextLine → Reading
with_line r line = record { conditions = r.conditions; files = r.files; said = r.said ++ option_to_list (says r.conditions r.files line); ended = is_end line }

-- the condition or the file of this number stands above
abbrev pub is_read : Reading → Need → Bool
is_read r (condition_numbered number) = nat_lt number (length r.conditions)
is_read r (file_numbered number) = nat_lt number (length r.files)

-- one line more, unless it says what can't be
abbrev pub read_condition : Reading → ℕ → List (List ℕ × ℕ) → Option (ℕ × Variable) → Option Reading
read_condition r id choices None = None
read_condition r id choices (Some found) =
    if (id == length r.conditions) && are_options id (option_words found.1.options) choices
    then Some (with_condition r (chosen r.conditions found.0 choices)) else None

abbrev pub read_line : Space → Reading → TextLine → Option Reading
read_line space r (condition_line id variable choices) = read_condition r id choices (variable_from 0 space.variables variable)
read_line space r (file_line id name) = if id == length r.files then Some (with_file r name) else None
read_line space r line = if list_all (is_read r) (needs line) then Some (with_line r line) else None

-- the lines from first to last; nothing stands after the end
abbrev pub read_lines : Space → Reading → List TextLine → Option Reading
read_lines space r [] = Some r
read_lines space r (line ∷ lines) = if r.ended then None else option_and_then (λ s. read_lines space s lines) (read_line space r line)

-- The pieces are the lines of a text, whole ones, that read as this answer.
pub record Reads {kind : BodyKind} (space : Space) (pieces : List (List ℕ)) (answer : Answer kind) : Type 0 where
  pub lines : List TextLine
  pub clear : list_all is_clear lines ≡ true
  pub written : pieces ≡ map line_text lines
  pub reading : Reading
  pub read : read_lines space nothing_read lines ≡ Some reading
  pub answer_is : reading.said ≡ answer_said answer
