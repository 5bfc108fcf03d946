-- The rules of a text: which lines it has, and in which order.
--
-- A condition is printed as its reduced ordered decision diagram (Bryant): conditions with the same
-- configurations have one number, and what remains of one for an option of its variable depends on
-- later variables alone.
use Rattle.std.specs.Prelude.{◌≡◌, ℕ, ◌+◌, ◌<◌, nat_lt, Bool, true, false, List, [], ◌∷◌, ◌++◌, length, map, All, Some, slice_get}
use Rattle.std.specs.Cmp.Lexicographic.{slice_cmp}
use Rattle.std.specs.List.{AllZip, list_all}
use Rattle.std.specs.Option.{option_to_list}
use Rattle.std.specs.Ordering.{nat_cmp, ordering_then}
use Rattle.std.specs.declared.cmp.Ordering.{Ordering}
use Rattle.std.specs.declared.cmp.Ordering.TheVariants.{Less}
use Rattle.sc_model.specs.Cause.{code_of}
use Rattle.sc_model.specs.Growth.{IsOneToOne}
use Rattle.sc_model.specs.Fault.{Fault}
use Rattle.sc_model.specs.Sets.{Sets, IsConfig, IsCanonical, DependsFrom}
use Rattle.sc_model.specs.Space.{Space, Variable, arities_of}
use Rattle.sc_text.specs.Answer.{Condition, Part, leaf_part, node_part, choice_part, BodyKind, token_list, tree_parts, Body, Answer, project}
use Rattle.sc_text.specs.Text.{TextLine, condition_line, file_line, token_line, fault_line, Need, condition_numbered, file_numbered, needs, Reading, condition_at, variable_from, Reads}

-- ---- the order of the lines

-- how many conditions and files have a number
pub record Counts : Type 0 where
  pub conditions : ℕ
  pub files : ℕ

-- The numbers of never and always stand before the first line.
abbrev pub at_start : Counts
at_start = record { conditions = 2; files = 0 }

-- the line that is needed stands already
abbrev pub IsKnown : Counts → Need → Type 0
IsKnown counts (condition_numbered number) = number < counts.conditions
IsKnown counts (file_numbered number) = number < counts.files

-- The line is the one that is needed: it gives the next number. The last counts are those
-- afterwards.
pub data Gives : Counts → TextLine → Need → Counts → Type 0 where
  next_condition : (counts : Counts) (variable : List ℕ) (options : List (List ℕ × ℕ))
      → Gives counts (condition_line counts.conditions variable options) (condition_numbered counts.conditions) (record { conditions = counts.conditions + 1; files = counts.files })
  next_file : (counts : Counts) (name : List ℕ) → Gives counts (file_line counts.files name) (file_numbered counts.files) (record { conditions = counts.conditions; files = counts.files + 1 })

-- The lines before a line that needs these: none for one that stands already, else those that it
-- needs itself, in their order, and then its own.
pub data Introduces : Counts → List Need → List TextLine → Counts → Type 0 where
  nothing : (counts : Counts) → Introduces counts [] [] counts
  known : (counts now : Counts) (need : Need) (others : List Need) (lines : List TextLine) → IsKnown counts need → Introduces counts others lines now → Introduces counts (need ∷ others) lines now
  new : (counts before after now : Counts) (line : TextLine) (need : Need) (others : List Need) (lines more : List TextLine)
      → Introduces counts (needs line) lines before → Gives before line need after → Introduces after others more now → Introduces counts (need ∷ others) (lines ++ line ∷ more) now

-- items in their order, each directly after the lines that it needs
pub data LaysOut : Counts → List TextLine → List TextLine → Counts → Type 0 where
  done : (counts : Counts) → LaysOut counts [] [] counts
  shows : (counts after now : Counts) (item : TextLine) (items first more : List TextLine)
      → Introduces counts (needs item) first after → LaysOut after items more now → LaysOut counts (item ∷ items) (first ++ item ∷ more) now

-- ---- the conditions and the faults

-- the sets of configurations for which the numbers of a text stand
abbrev pub sets_of : Space → List Condition → Sets
sets_of space conditions = record { arities = arities_of space; count = length conditions; has = condition_at conditions }

-- what remains for an option of a variable depends on later variables alone
pub record IsOrdered (space : Space) (conditions : List Condition) (name : List ℕ) (options : List (List ℕ × ℕ)) : Type 0 where
  pub later : (place : ℕ) (variable : Variable) → variable_from 0 space.variables name ≡ Some (place, variable)
      → All (λ (option : List ℕ × ℕ). DependsFrom (sets_of space conditions) option.1 (place + 1)) options

abbrev pub HasOrder : Space → List Condition → TextLine → Type 0
HasOrder space conditions (condition_line id name options) = IsOrdered space conditions name options
HasOrder space conditions line = Unit {0}

-- by the bytes of the file's name, then by line, column and code
abbrev pub fault_order : Fault → Fault → Ordering
fault_order f g =
    ordering_then
    (ordering_then (ordering_then (slice_cmp nat_cmp f.place.file g.place.file) (nat_cmp f.place.position.line g.place.position.line)) (nat_cmp f.place.position.column g.place.position.column))
    (nat_cmp (code_of f.cause) (code_of g.cause))

-- each fault is before the next, so no two are of one cause and place
pub record IsAscending (faults : List Fault) : Type 0 where
  pub each : (k : ℕ) (f g : Fault) → slice_get faults k ≡ Some f → slice_get faults (k + 1) ≡ Some g → fault_order f g ≡ Less

-- ---- the order of the parts

-- the numbers of the parts that a part names
abbrev pub children_named : Part → List ℕ
children_named (leaf_part shown) = []
children_named (node_part production children) = children
children_named (choice_part branches) = map (λ (branch : Condition × ℕ). branch.1) branches

-- A walk to parts that goes children first and from left to right, and comes to each part once,
-- gives the next numbers. The last number is the next one afterwards.
pub data Finishes (parts : List Part) : ℕ → List ℕ → ℕ → Type 0 where
  nowhere : (next : ℕ) → Finishes parts next [] next
  was_there : (next now id : ℕ) (others : List ℕ) → id < next → Finishes parts next others now → Finishes parts next (id ∷ others) now
  comes : (next id now : ℕ) (others : List ℕ) (part : Part) → slice_get parts id ≡ Some part
      → Finishes parts next (children_named part) id → Finishes parts (id + 1) others now → Finishes parts next (id ∷ others) now

-- tokens stand as they are, and parts as a walk from the root finishes them
abbrev pub IsInOrder : (kind : BodyKind) → Body kind → Type 0
IsInOrder token_list items = Unit {0}
IsInOrder tree_parts body = Finishes body.parts 0 (option_to_list body.root) (length body.parts)

-- ---- the rules

-- a line of a body, a fault or the end, but no token or fault that no configuration has
abbrev pub is_item : TextLine → Bool
is_item (condition_line id variable options) = false
is_item (file_line id name) = false
is_item (token_line cond place spelling) = nat_lt 0 cond
is_item (fault_line cond cause place) = nat_lt 0 cond
is_item line = true

-- The lines of a text that were read so keep the rules.
pub record KeepsRules (space : Space) (lines : List TextLine) (reading : Reading) : Type 0 where
  pub items : List TextLine
  pub now : Counts
  pub right : list_all is_item items ≡ true
  pub laid : LaysOut at_start items lines now
  pub reduced : IsCanonical (sets_of space reading.conditions)
  pub ordered : All (HasOrder space reading.conditions) lines
  pub named_once : IsOneToOne reading.files

-- The pieces are the lines of a text that keeps the rules and reads as this answer.
pub record IsTextOf {kind : BodyKind} (space : Space) (pieces : List (List ℕ)) (answer : Answer kind) : Type 0 where
  pub reads : Reads space pieces answer
  pub rules : KeepsRules space reads.lines reads.reading
  pub in_order : IsInOrder kind answer.body
  pub ascending : IsAscending (map (λ fault. fault.1) answer.faults)

-- ---- what has one text

-- Conditions are compared at all well-formed configurations, as their diagrams have a branch for
-- each of them.

-- both have the same configurations
pub record AreSame (space : Space) (f g : Condition) : Type 0 where
  pub at : (config : List ℕ) → IsConfig (arities_of space) config → f config ≡ g config

-- no configuration has it
pub record IsEmpty (space : Space) (f : Condition) : Type 0 where
  pub none : (config : List ℕ) → IsConfig (arities_of space) config → f config ≡ false

-- the same items under the same conditions, but for those that no configuration has
pub data AreAlike {T : Type 0} (space : Space) : List (Condition × T) → List (Condition × T) → Type 0 where
  no_item : AreAlike space [] []
  left_out : (f : Condition) (item : T) (xs ys : List (Condition × T)) → IsEmpty space f → AreAlike space xs ys → AreAlike space ((f, item) ∷ xs) ys
  left_out_there : (f : Condition) (item : T) (xs ys : List (Condition × T)) → IsEmpty space f → AreAlike space xs ys → AreAlike space xs ((f, item) ∷ ys)
  both : (f g : Condition) (item : T) (xs ys : List (Condition × T)) → AreSame space f g → AreAlike space xs ys → AreAlike space ((f, item) ∷ xs) ((g, item) ∷ ys)

-- the same child under the same configurations
pub record IsSameBranch (space : Space) (x y : Condition × ℕ) : Type 0 where
  pub cond : AreSame space x.0 y.0
  pub child : x.1 ≡ y.1

-- parts that are one but for how their conditions are made
abbrev pub IsSamePart : Space → Part → Part → Type 0
IsSamePart space (leaf_part shown) (leaf_part other) = shown ≡ other
IsSamePart space (node_part production children) (node_part other others) = (production ≡ other) × (children ≡ others)
IsSamePart space (choice_part branches) (choice_part others) = AllZip (IsSameBranch space) branches others
IsSamePart space part other = ⊥

-- the same items, or the same parts under the same numbers
abbrev pub AreAlikeBodies : (kind : BodyKind) → Space → Body kind → Body kind → Type 0
AreAlikeBodies token_list space items others = AreAlike space items others
AreAlikeBodies tree_parts space body other = AllZip (IsSamePart space) body.parts other.parts × (body.root ≡ other.root)

-- the same bodies, and at each configuration the same faults
pub record IsSameAnswer {kind : BodyKind} (space : Space) (a b : Answer kind) : Type 0 where
  pub body : AreAlikeBodies kind space a.body b.body
  pub faults : (config : List ℕ) → IsConfig (arities_of space) config → project a.faults config ≡ project b.faults config
