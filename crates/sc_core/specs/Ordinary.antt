-- What ordinary translation of a file gives at one configuration: preprocessing, then parsing.
use Rattle.std.specs.Prelude.{◌≡◌, ◌⊎◌, ◌<◌, ◌≤◌, ◌+◌, ℕ, true, List, length, All, AllPairs, Some, Result, Ok, Err}
use Rattle.std.specs.Result.{is_ok}
use Rattle.c11_directives.specs.Footprints.{Has, HasFootprints, SourceFootprint}
use Rattle.c11_directives.specs.Listed.{IsListed}
use Rattle.c11_directives.specs.Pre.{Pre}
use Rattle.c11_directives.specs.PutOut.{FilesPutOut}
use Rattle.c11_parsing.specs.Classes.{Input, HasMoreClasses, project}
use Rattle.c11_parsing.specs.LR.{LR}
use Rattle.c11_parsing.specs.Parser.{Parser}
use Rattle.c11_parsing.specs.Trees.{Tree}
use Rattle.c11_tokens.specs.Lex.{end_position}
use Rattle.sc_core.specs.OneItem.{HaveOneItem}
use Rattle.sc_fork.specs.Parsers.{IsC11Parser}
use Rattle.sc_model.specs.Fault.{Fault}
use Rattle.sc_model.specs.Outside.{Files}
use Rattle.sc_model.specs.Sets.{IsConfig}
use Rattle.sc_model.specs.Space.{Space, arities_of}
use Rattle.sc_model.specs.Token.{Place, Token}
use Rattle.sc_parse.specs.MostClasses.{HasMostClasses}

-- ---- what a translation is about

-- The variables with their options, and what else a space says: directories, limits, date and time.
-- Then the files, which of them is the main one, and what parses it.
pub record Setting : Type 0 where
  pub space : Space
  pub files : Files
  pub main : List ℕ
  pub parser : Parser

-- ---- at one configuration

abbrev pub Preprocesses : Setting → List ℕ → Result (List Token) Fault → Type 0
Preprocesses s config answer = Pre s.space s.files s.main config answer

-- where the main file with these bytes ends
abbrev pub main_end : Setting → List ℕ → Place
main_end s bytes = record { file = s.main; position = end_position bytes }

-- Preprocessing refuses the file, or parsing has this answer on its tokens and its end.
pub data Translates (s : Setting) (config : List ℕ) : Result Tree Fault → Type 0 where
  not_prepared : (fault : Fault) → Preprocesses s config (Err fault) → Translates s config (Err fault)
  parsed : (tokens : List Token) (bytes : List ℕ) (answer : Result Tree Fault) → Preprocesses s config (Ok tokens) → s.files s.main ≡ Some bytes
      → LR s.parser (main_end s bytes) tokens answer → Translates s config answer

-- ---- where configurations differ

-- there are more configurations than branches, listed or not
pub record HasManyConfigs (space : Space) : Type 0 where
  pub configs : List (List ℕ)
  pub many : space.branches < length configs
  pub formed : All (IsConfig (arities_of space)) configs
  pub apart : AllPairs (λ c d. c ≡ d → ⊥) configs

-- At one macro name of the files that are preprocessed, or at one directive line, that which says
-- which configurations are listed among them, more configurations than branches have footprints
-- that differ from each other.
abbrev pub HasManyFootprints : Setting → Type 0
HasManyFootprints s = HasFootprints (IsConfig (arities_of s.space)) (Has s.space s.files s.main) (s.space.branches + 1)

-- at the configuration the input has the file's tokens and its end, where preprocessing accepts it
pub record IsPreparedAt (s : Setting) (input : Input) (config : List ℕ) : Type 0 where
  pub answer : Result (List Token) Fault
  pub preprocessed : Preprocesses s config answer
  pub live : input.live config ≡ is_ok answer
  pub tokens : (ts : List Token) → answer ≡ Ok ts → project config input.items ≡ ts
  pub ends : (ts : List Token) (bytes : List ℕ) → answer ≡ Ok ts → s.files s.main ≡ Some bytes → input.end ≡ main_end s bytes

-- The main file as it is parsed under all listed configurations, and under no other. Where there
-- are no more configurations than branches, what they put out of a token that they expand alike is
-- one item.
pub record IsFileInput (s : Setting) (input : Input) : Type 0 where
  pub parser : input.parser ≡ s.parser
  pub arities : input.arities ≡ arities_of s.space
  pub each : (config : List ℕ) → IsListed s.space config → IsPreparedAt s input config
  pub listed : (config : List ℕ) → input.live config ≡ true → IsListed s.space config
  pub thin : (HasManyConfigs s.space → ⊥) → (c d : List ℕ) → input.live c ≡ true → input.live d ≡ true → (f : SourceFootprint) (index n m : ℕ)
      → FilesPutOut s.space s.files s.main c f index n → FilesPutOut s.space s.files s.main d f index m → HaveOneItem input.items c d n m

-- at some place of the file, as C11 is parsed, there are more classes than branches
pub record HasManyClasses (s : Setting) : Type 0 where
  pub c11 : IsC11Parser s.space.standard s.parser
  pub input : Input
  pub is_input : IsFileInput s input
  pub more : HasMoreClasses input s.space.branches

-- a list of the file has at one place, as C11 is parsed, so many classes, and at none more
pub record HasClasses (s : Setting) (most : ℕ) : Type 0 where
  pub c11 : IsC11Parser s.space.standard s.parser
  pub input : Input
  pub is_input : IsFileInput s input
  pub most_are : HasMostClasses input most

-- a list of the file has at no place more classes than branches
pub record HasFewClasses (s : Setting) : Type 0 where
  pub most : ℕ
  pub classes : HasClasses s most
  pub few : most ≤ s.space.branches

-- preprocessing or parsing has at some place more branches than the space allows
abbrev pub HasManyBranches : Setting → Type 0
HasManyBranches s = HasManyFootprints s ⊎ HasManyClasses s
