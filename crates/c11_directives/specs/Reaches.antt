-- The moments to which the walk of a configuration comes, each in a state (C11 6.10).
use Rattle.std.specs.Prelude.{◌≡◌, ℕ, ◌<◌, true, false, List, [], ◌∷◌, Some, Ok, length}
use Rattle.c11_directives.specs.declared.directive.Directive.TheVariants as directive
use Rattle.c11_directives.specs.Behind.{Says}
use Rattle.c11_directives.specs.Lines.{Branches, Group, Line, Tree, alternative, hash_of, otherwise, plain, section}
use Rattle.c11_directives.specs.Pre.{Closes, Context, Decides, File, State, Steps, Walks, WalksBranches, context_of, decided, deeper, file_lines, initial_state, inside, is_once_file, place_in, search}
use Rattle.c11_headers.specs.Headers.{Header, candidates, header_of}
use Rattle.c11_tokens.specs.Lex.{Lexed}
use Rattle.sc_model.specs.Outside.{Files, largest_file}
use Rattle.sc_model.specs.Space.{Space}
use Rattle.sc_model.specs.Token.{Lexeme, Place, Token}

pub data Moment : Type 0 where
  -- a file is entered
  entered : File → State → Moment
  -- a line that is no conditional directive is next
  at_line : Line → State → Moment
  -- whether a group is taken is to be decided by its first line
  at_head : Line → State → Moment
  -- the group of an #else is taken
  at_else : Line → State → Moment
  -- all lines of a file are done
  at_end : State → Moment

-- Behind which #includes the moment lies is told by their places, the outermost first.
mutual
  -- A line that is no conditional directive comes to the moment: its own, or one of the file that
  -- it includes.
  pub data LineReaches (context : Context) : Line → State → List Place → Moment → Type 0 where
    itself : {line : Line} {s : State} → LineReaches context line s [] (at_line line s)
    in_file : {line : Line} {s : State} {chain : List Place} {k : Moment} (t : State) (ts : List Token) (header : Header) (hash : Token) (file : File)
        → line.directive ≡ Some directive.Include → Closes s (Ok t) → Says t.macros line (Ok ts) → header_of ts ≡ Ok header → t.depth < context.include_depth
        → hash_of line ≡ Some hash → search context.files (candidates header t.file context.include) ≡ Some file → is_once_file t file.name ≡ false
        → FileReaches context file (deeper t) chain k
        → LineReaches context line s (place_in t hash ∷ chain) k

  -- the walk of a group comes to the moment
  pub data GroupReaches (context : Context) : Group → State → List Place → Moment → Type 0 where
    line : {line : Line} {rest : Group} {s : State} {chain : List Place} {k : Moment} → LineReaches context line s chain k
        → GroupReaches context (plain line rest) s chain k
    after_line : {line : Line} {rest : Group} {s : State} {chain : List Place} {k : Moment} (t : State) → Steps context line s (Ok t)
        → GroupReaches context rest t chain k → GroupReaches context (plain line rest) s chain k
    head : {head : Line} {group : Group} {branches : Branches} {rest : Group} {s : State} → GroupReaches context (section head group branches rest) s [] (at_head head s)
    taken : {head : Line} {group : Group} {branches : Branches} {rest : Group} {s : State} {chain : List Place} {k : Moment} → Decides context s head (Ok true)
        → GroupReaches context group (decided s head) chain k → GroupReaches context (section head group branches rest) s chain k
    after_taken : {head : Line} {group : Group} {branches : Branches} {rest : Group} {s : State} {chain : List Place} {k : Moment} (t : State)
        → Decides context s head (Ok true) → Walks context group (decided s head) (Ok t) → GroupReaches context rest t chain k
        → GroupReaches context (section head group branches rest) s chain k
    passed : {head : Line} {group : Group} {branches : Branches} {rest : Group} {s : State} {chain : List Place} {k : Moment} → Decides context s head (Ok false)
        → BranchesReach context branches (decided s head) chain k → GroupReaches context (section head group branches rest) s chain k
    after_passed : {head : Line} {group : Group} {branches : Branches} {rest : Group} {s : State} {chain : List Place} {k : Moment} (t : State)
        → Decides context s head (Ok false) → WalksBranches context branches (decided s head) (Ok t) → GroupReaches context rest t chain k
        → GroupReaches context (section head group branches rest) s chain k

  pub data BranchesReach (context : Context) : Branches → State → List Place → Moment → Type 0 where
    last : {head : Line} {group : Group} {line : Line} {s : State} → BranchesReach context (otherwise head group line) s [] (at_else head s)
    in_last : {head : Line} {group : Group} {line : Line} {s : State} {chain : List Place} {k : Moment} → GroupReaches context group s chain k
        → BranchesReach context (otherwise head group line) s chain k
    later_head : {head : Line} {group : Group} {branches : Branches} {s : State} → BranchesReach context (alternative head group branches) s [] (at_head head s)
    later_taken : {head : Line} {group : Group} {branches : Branches} {s : State} {chain : List Place} {k : Moment} → Decides context s head (Ok true)
        → GroupReaches context group (decided s head) chain k → BranchesReach context (alternative head group branches) s chain k
    later_passed : {head : Line} {group : Group} {branches : Branches} {s : State} {chain : List Place} {k : Moment} → Decides context s head (Ok false)
        → BranchesReach context branches (decided s head) chain k → BranchesReach context (alternative head group branches) s chain k

  pub data FileReaches (context : Context) : File → State → List Place → Moment → Type 0 where
    enters : {file : File} {s : State} → FileReaches context file s [] (entered file s)
    within : {file : File} {s : State} {chain : List Place} {k : Moment} (tokens : List Lexeme) (group : Group) → (largest_file < length file.bytes → ⊥)
        → Lexed file.bytes (Ok tokens) → Tree (file_lines context file tokens) (Ok group) → GroupReaches context group (inside file s) chain k
        → FileReaches context file s chain k
    end : {file : File} {s : State} (tokens : List Lexeme) (group : Group) (t : State) → (largest_file < length file.bytes → ⊥)
        → Lexed file.bytes (Ok tokens) → Tree (file_lines context file tokens) (Ok group) → Walks context group (inside file s) (Ok t)
        → FileReaches context file s [] (at_end t)

-- the configuration's walk of the main file comes to the moment
pub record Reaches (space : Space) (files : Files) (main config : List ℕ) (chain : List Place) (k : Moment) : Type 0 where
  pub file : File
  pub found : search files (main ∷ []) ≡ Some file
  pub reaches : FileReaches (context_of space files) file (initial_state space main config) chain k
