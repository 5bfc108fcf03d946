-- Preprocessing of one configuration (C11 6.10): the walk of a file's groups.
use Rattle.std.specs.Prelude.{◌≡◌, ℕ, ◌<◌, ◌⊎◌, Bool, true, false, not, List, [], ◌∷◌, ◌++◌, ◌+◌, codes, length, map, Option, Some, None, is_some, Result, Ok, Err, if◌then◌else◌}
use Rattle.std.specs.List.{list_any}
use Rattle.std.specs.Map.{update}
use Rattle.std.specs.Option.{option_map}
use Rattle.sc_model.specs.declared.cause.Cause.{Cause}
use Rattle.sc_model.specs.declared.cause.Cause.TheVariants.{NotFound, FileTooLarge, UnterminatedComment, BadNesting, BadDirective, Redefined, ProtectedName, IncludeDepth, ErrorDirective}
use Rattle.c11_directives.specs.declared.directive.Directive.{Directive}
use Rattle.c11_directives.specs.declared.directive.Directive.TheVariants as directive
use Rattle.c11_directives.specs.declared.directive.Test.TheVariants as test
use Rattle.c11_directives.specs.Behind.{behind_name, Says, is_numbering}
use Rattle.c11_expressions.specs.Lines as expressions
use Rattle.c11_headers.specs.Headers.{Header, header_of, candidates}
use Rattle.c11_tokens.specs.Lex.{is_identifier_kind, Lexed}
use Rattle.c11_directives.specs.Pragmas.{RunBecomes}
use Rattle.c11_directives.specs.Lines.{Line, lines_of, test_of, hash_of, Group, Branches, empty, plain, section, closing, otherwise, alternative, Tree}
use Rattle.sc_model.specs.Fault.{Fault, fault_at, first_place}
use Rattle.sc_model.specs.Outside.{Files, largest_file}
use Rattle.sc_model.specs.Space.{Space}
use Rattle.c11_macros.specs.Defines.{Defined, is_protected, reads}
use Rattle.c11_macros.specs.Macros.{Definition, Macros, initial_macros}
use Rattle.c11_macros.specs.Hidden.{Failure}
use Rattle.c11_macros.specs.Results.{result_map}
use Rattle.c11_macros.specs.Text.{fault_of, place_alone, unhidden}
use Rattle.sc_model.specs.Bytes.{same_bytes}
use Rattle.sc_model.specs.Token.{Position, Place, Lexeme, Token, in_file}
use Rattle.sc_model.specs.declared.standard.Standard.{Standard}

-- what doesn't change during a run
pub record Context : Type 0 where
  pub files : Files
  pub include : List (List ℕ)
  pub include_depth : ℕ
  pub standard : Standard

-- the macros that are defined, the text since the last barrier, what was put out, how deep the
-- files are nested, the name of the innermost, and the names of those that are entered no more
pub record State : Type 0 where
  pub macros : Macros
  pub run : List Token
  pub output : List Token
  pub depth : ℕ
  pub file : List ℕ
  pub once : List (List ℕ)

-- the place of a token
abbrev pub place_in : State → Token → Place
place_in s t = t.place

-- the line is text
abbrev pub with_text : State → Line → State
with_text s line = record s { run = s.run ++ line.tokens }

-- the run is put out as these tokens
abbrev pub put_out : State → List Token → State
put_out s output = record s { run = []; output = s.output ++ output }

-- a barrier closes the run, which is put out as what it becomes
pub data Closes (s : State) : Result State Fault → Type 0 where
  closed : (output : List Token) → RunBecomes s.macros s.run (Ok output) → Closes s (Ok (put_out s output))
  refused : (fault : Fault) → RunBecomes s.macros s.run (Err fault) → Closes s (Err fault)

-- a refusal at the # of a directive
pub record RefusedAt (s : State) (line : Line) (cause : Cause) (fault : Fault) : Type 0 where
  pub cause_is : fault.cause ≡ cause
  pub place_is : option_map (place_in s) (hash_of line) ≡ Some fault.place

-- the identifier after the directive's name
abbrev pub operand_in : List Token → Option (List ℕ)
operand_in (hash ∷ word ∷ name ∷ rest) = if is_identifier_kind name.kind then Some name.spelling else None
operand_in _ = None

abbrev pub operand_of : Line → Option (List ℕ)
operand_of line = operand_in line.tokens

-- what an expression comes to, with its fault as the walk has it
abbrev pub decision_of : Result Bool (Failure Place) → Result Bool Fault
decision_of (Ok is_taken) = Ok is_taken
decision_of (Err failure) = Err (fault_of failure)

-- Whether a conditional directive takes its group (6.10.1).
pub data Decides (context : Context) (s : State) (line : Line) : Result Bool Fault → Type 0 where
  if_defined : (name : List ℕ) → test_of line ≡ Some test.Defined → operand_of line ≡ Some name
      → Decides context s line (Ok (is_some (s.macros name)))
  if_undefined : (name : List ℕ) → test_of line ≡ Some test.Undefined → operand_of line ≡ Some name
      → Decides context s line (Ok (not (is_some (s.macros name))))
  no_name : (fault : Fault) → (test_of line ≡ Some test.Defined) ⊎ (test_of line ≡ Some test.Undefined) → operand_of line ≡ None
      → RefusedAt s line BadDirective fault → Decides context s line (Err fault)
  expression : (hash : Token) (answer : Result Bool (Failure Place)) → test_of line ≡ Some test.Expression
      → hash_of line ≡ Some hash → expressions.Decides line.standard place_alone s.macros (place_in s hash) (map unhidden (behind_name line)) answer
      → Decides context s line (decision_of answer)

-- the state that deciding a directive leaves
abbrev pub decided : State → Line → State
decided s line = s

-- the macros with one more, or with another in the place of one
abbrev pub with_macro : Macros → Defined → Macros
with_macro macros d = update same_bytes macros d.name (Some d.definition)

abbrev pub without_macro : Macros → List ℕ → Macros
without_macro macros name = update same_bytes macros name None

-- What a definition makes of the macros. A macro is defined again only as it is (6.10.3p2).
pub data Defines (macros : Macros) (d : Defined) : Result Macros Cause → Type 0 where
  fresh : macros d.name ≡ None → Defines macros d (Ok (with_macro macros d))
  again : macros d.name ≡ Some d.definition → Defines macros d (Ok (with_macro macros d))
  redefined : (other : Definition) → macros d.name ≡ Some other → (other ≡ d.definition → ⊥) → Defines macros d (Err Redefined)

-- A macro is taken back by its name (6.10.3.5p2), unless no directive may (6.10.8p2).
abbrev pub undefined : Macros → Option (List ℕ) → Result Macros Cause
undefined macros None = Err BadDirective
undefined macros (Some name) = if is_protected name then Err ProtectedName else Ok (without_macro macros name)

-- the directive ends a run
abbrev pub is_barrier : Directive → Bool
is_barrier (directive.Conditional c) = false
is_barrier directive.Null = false
is_barrier directive.Include = true
is_barrier directive.Define = true
is_barrier directive.Undef = true
is_barrier directive.Line = true
is_barrier directive.Error = true
is_barrier directive.Pragma = true
is_barrier directive.Warning = true
is_barrier directive.Unknown = true

-- the directive changes no macro
abbrev pub is_ignored : Directive → Bool
is_ignored directive.Pragma = true
is_ignored directive.Warning = true
is_ignored _ = false

-- what a directive makes of the macros, or why it is refused
pub data Changes (macros : Macros) (line : Line) : Directive → Result Macros Cause → Type 0 where
  ignored : {d : Directive} → is_ignored d ≡ true → Changes macros line d (Ok macros)
  unknown : Changes macros line directive.Unknown (Err BadDirective)
  error : Changes macros line directive.Error (Err ErrorDirective)
  defines : {r : Result Macros Cause} (d : Defined) → reads line.standard (behind_name line) ≡ Ok d → Defines macros d r → Changes macros line directive.Define r
  defines_nothing : (cause : Cause) → reads line.standard (behind_name line) ≡ Err cause → Changes macros line directive.Define (Err cause)
  undefines : Changes macros line directive.Undef (undefined macros (operand_of line))

-- a pragma asks that its file is entered no more
abbrev pub names_once : Option (List ℕ) → Bool
names_once None = false
names_once (Some word) = same_bytes word (codes "once")

abbrev pub is_once : Line → Bool
is_once line = names_once (operand_of line)

-- and the file in which a token stands
abbrev pub with_file_of : List (List ℕ) → Option Token → List (List ℕ)
with_file_of once None = once
with_file_of once (Some t) = t.place.file ∷ once

-- the files that are entered no more behind a directive
abbrev pub once_behind : List (List ℕ) → Line → Directive → List (List ℕ)
once_behind once line directive.Pragma = if is_once line then with_file_of once (hash_of line) else once
once_behind once line _ = once

abbrev pub is_once_file : State → List ℕ → Bool
is_once_file s name = list_any (same_bytes name) s.once

-- the state behind a directive that leaves these macros
abbrev pub state_behind : State → Line → Directive → Macros → State
state_behind s line d macros = record s { macros = macros; once = once_behind s.once line d }

-- the directive is carried out by what it says behind its name
abbrev pub is_said : Directive → Bool
is_said directive.Include = true
is_said directive.Line = true
is_said _ = false

-- a file that was found: its name and its bytes
pub record File : Type 0 where
  pub name : List ℕ
  pub bytes : List ℕ

abbrev pub file_with : List ℕ → List ℕ → File
file_with name bytes = record { name = name; bytes = bytes }

abbrev pub found_or : Option File → List ℕ → Option (List ℕ) → Option File
found_or later name None = later
found_or later name (Some bytes) = Some (file_with name bytes)

-- the file of the first name that one has
abbrev pub search : Files → List (List ℕ) → Option File
search files [] = None
search files (name ∷ names) = found_or (search files names) name (files name)

-- one file deeper
abbrev pub deeper : State → State
deeper s = record s { depth = s.depth + 1 }

-- the state in which the walk of a file begins
abbrev pub inside : File → State → State
inside file s = record s { file = file.name }

-- back in the file and at the depth of a state
abbrev pub back : State → State → State
back s t = record t { depth = s.depth; file = s.file }

-- the lines of a file with these tokens
abbrev pub file_lines : Context → File → List Lexeme → List Line
file_lines context file tokens = lines_of context.standard (map (in_file file.name) tokens)

mutual
  -- What a line that is no conditional directive does. Every directive but the null one is a
  -- barrier.
  pub data Steps (context : Context) : Line → State → Result State Fault → Type 0 where
    text : {line : Line} {s : State} → line.directive ≡ None → Steps context line s (Ok (with_text s line))
    null : {line : Line} {s : State} → line.directive ≡ Some directive.Null → Steps context line s (Ok s)
    stopped : {line : Line} {s : State} (d : Directive) (fault : Fault) → line.directive ≡ Some d → is_barrier d ≡ true → Closes s (Err fault)
        → Steps context line s (Err fault)
    carried_out : {line : Line} {s : State} {r : Result State Fault} (d : Directive) (t : State) → line.directive ≡ Some d → is_barrier d ≡ true → Closes s (Ok t)
        → Carries context line t d r → Steps context line s r

  -- What a directive does that is a barrier, where the run before it was closed.
  pub data Carries (context : Context) : Line → State → Directive → Result State Fault → Type 0 where
    changed : {line : Line} {s : State} {d : Directive} (macros : Macros) → Changes s.macros line d (Ok macros)
        → Carries context line s d (Ok (state_behind s line d macros))
    not_changed : {line : Line} {s : State} {d : Directive} (cause : Cause) (fault : Fault) → Changes s.macros line d (Err cause)
        → RefusedAt s line cause fault → Carries context line s d (Err fault)
    not_expanded : {line : Line} {s : State} {d : Directive} (fault : Fault) → is_said d ≡ true → Says s.macros line (Err fault)
        → Carries context line s d (Err fault)
    -- the number of a line is checked and has no effect
    numbered : {line : Line} {s : State} (ts : List Token) → Says s.macros line (Ok ts) → is_numbering ts ≡ true
        → Carries context line s directive.Line (Ok s)
    not_numbered : {line : Line} {s : State} (ts : List Token) (fault : Fault) → Says s.macros line (Ok ts) → is_numbering ts ≡ false
        → RefusedAt s line BadDirective fault → Carries context line s directive.Line (Err fault)
    no_header : {line : Line} {s : State} (ts : List Token) (cause : Cause) (fault : Fault) → Says s.macros line (Ok ts) → header_of ts ≡ Err cause
        → RefusedAt s line cause fault → Carries context line s directive.Include (Err fault)
    too_deep : {line : Line} {s : State} (ts : List Token) (header : Header) (fault : Fault) → Says s.macros line (Ok ts) → header_of ts ≡ Ok header
        → (s.depth < context.include_depth → ⊥) → RefusedAt s line IncludeDepth fault → Carries context line s directive.Include (Err fault)
    included : {line : Line} {s : State} {r : Result State Fault} (ts : List Token) (header : Header) (hash : Token) → Says s.macros line (Ok ts)
        → header_of ts ≡ Ok header → s.depth < context.include_depth → hash_of line ≡ Some hash
        → Includes context (candidates header s.file context.include) (place_in s hash) (deeper s) r
        → Carries context line s directive.Include (result_map (back s) r)

  -- The walk of a group from a state, up to its end or its first fault. After a branch was taken,
  -- no later one is decided.
  pub data Walks (context : Context) : Group → State → Result State Fault → Type 0 where
    done : {s : State} → Walks context empty s (Ok s)
    line : {line : Line} {rest : Group} {s : State} {r : Result State Fault} (t : State)
        → Steps context line s (Ok t) → Walks context rest t r → Walks context (plain line rest) s r
    line_stops : {line : Line} {rest : Group} {s : State} (fault : Fault)
        → Steps context line s (Err fault) → Walks context (plain line rest) s (Err fault)
    taken : {head : Line} {group : Group} {branches : Branches} {rest : Group} {s : State} {r : Result State Fault} (t : State)
        → Decides context s head (Ok true) → Walks context group (decided s head) (Ok t) → Walks context rest t r → Walks context (section head group branches rest) s r
    taken_stops : {head : Line} {group : Group} {branches : Branches} {rest : Group} {s : State} (fault : Fault)
        → Decides context s head (Ok true) → Walks context group (decided s head) (Err fault) → Walks context (section head group branches rest) s (Err fault)
    passed : {head : Line} {group : Group} {branches : Branches} {rest : Group} {s : State} {r : Result State Fault} (t : State)
        → Decides context s head (Ok false) → WalksBranches context branches (decided s head) (Ok t) → Walks context rest t r → Walks context (section head group branches rest) s r
    passed_stops : {head : Line} {group : Group} {branches : Branches} {rest : Group} {s : State} (fault : Fault)
        → Decides context s head (Ok false) → WalksBranches context branches (decided s head) (Err fault) → Walks context (section head group branches rest) s (Err fault)
    head_stops : {head : Line} {group : Group} {branches : Branches} {rest : Group} {s : State} (fault : Fault)
        → Decides context s head (Err fault) → Walks context (section head group branches rest) s (Err fault)

  pub data WalksBranches (context : Context) : Branches → State → Result State Fault → Type 0 where
    none_taken : {line : Line} {s : State} → WalksBranches context (closing line) s (Ok s)
    last_taken : {head : Line} {group : Group} {line : Line} {s : State} {r : Result State Fault}
        → Walks context group s r → WalksBranches context (otherwise head group line) s r
    later_taken : {head : Line} {group : Group} {branches : Branches} {s : State} {r : Result State Fault}
        → Decides context s head (Ok true) → Walks context group (decided s head) r → WalksBranches context (alternative head group branches) s r
    later_passed : {head : Line} {group : Group} {branches : Branches} {s : State} {r : Result State Fault}
        → Decides context s head (Ok false) → WalksBranches context branches (decided s head) r → WalksBranches context (alternative head group branches) s r
    later_stops : {head : Line} {group : Group} {branches : Branches} {s : State} (fault : Fault)
        → Decides context s head (Err fault) → WalksBranches context (alternative head group branches) s (Err fault)

  -- Entering a file. The order of the causes is that of the cases. Its nesting is decided on the
  -- whole file.
  pub data Enters (context : Context) : File → State → Result State Fault → Type 0 where
    too_large : {file : File} {s : State} → largest_file < length file.bytes → Enters context file s (Err (fault_at FileTooLarge (first_place file.name)))
    unended : {file : File} {s : State} (position : Position) → (largest_file < length file.bytes → ⊥)
        → Lexed file.bytes (Err position) → Enters context file s (Err (fault_at UnterminatedComment (record { file = file.name; position = position })))
    badly_nested : {file : File} {s : State} (tokens : List Lexeme) (place : Place) → (largest_file < length file.bytes → ⊥)
        → Lexed file.bytes (Ok tokens) → Tree (file_lines context file tokens) (Err place) → Enters context file s (Err (fault_at BadNesting place))
    stopped_inside : {file : File} {s : State} (tokens : List Lexeme) (group : Group) (fault : Fault) → (largest_file < length file.bytes → ⊥)
        → Lexed file.bytes (Ok tokens) → Tree (file_lines context file tokens) (Ok group) → Walks context group (inside file s) (Err fault)
        → Enters context file s (Err fault)
    walked : {file : File} {s : State} {r : Result State Fault} (tokens : List Lexeme) (group : Group) (t : State) → (largest_file < length file.bytes → ⊥)
        → Lexed file.bytes (Ok tokens) → Tree (file_lines context file tokens) (Ok group) → Walks context group (inside file s) (Ok t) → Closes t r
        → Enters context file s r

  -- The file that is asked for at this place is searched for by these names, then entered, unless
  -- it is one that is entered no more.
  pub data Includes (context : Context) : List (List ℕ) → Place → State → Result State Fault → Type 0 where
    missing : {names : List (List ℕ)} {asked : Place} {s : State} → search context.files names ≡ None → Includes context names asked s (Err (fault_at NotFound asked))
    left_out : {names : List (List ℕ)} {asked : Place} {s : State} (file : File) → search context.files names ≡ Some file → is_once_file s file.name ≡ true
        → Includes context names asked s (Ok s)
    entered : {names : List (List ℕ)} {asked : Place} {s : State} {r : Result State Fault} (file : File) → search context.files names ≡ Some file
        → is_once_file s file.name ≡ false → Enters context file s r → Includes context names asked s r

abbrev pub context_of : Space → Files → Context
context_of space files = record {
  files = files;
  include = space.include;
  include_depth = space.include_depth;
  standard = space.standard;
}

abbrev pub initial_state : Space → (main config : List ℕ) → State
initial_state space main config = record { macros = initial_macros space config; run = []; output = []; depth = 0; file = main; once = [] }

abbrev pub output_of : Result State Fault → Result (List Token) Fault
output_of (Ok s) = Ok s.output
output_of (Err fault) = Err fault

-- the tokens of a configuration, or its first fault
pub record Pre (space : Space) (files : Files) (main config : List ℕ) (r : Result (List Token) Fault) : Type 0 where
  pub end : Result State Fault
  pub walked : Includes (context_of space files) (main ∷ []) (first_place main) (initial_state space main config) end
  pub is : r ≡ output_of end
