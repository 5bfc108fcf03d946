-- What the groups of a file are.
use Rattle.std.specs.Prelude.{◌≡◌, ℕ, List, map, Err, All}
use Rattle.sc_base.specs.declared.id.FileId.{FileId}
use Rattle.sc_base.specs.declared.place.Place.{Place}
use Rattle.sc_base.specs.declared.token.Token.{Token}
use Rattle.sc_base.specs.Seen.{seen, seen_place}
use Rattle.sc_lines.specs.declared.line.FileTree.{FileTree}
use Rattle.sc_lines.specs.declared.stop.NestStop.{NestStop}
use Rattle.sc_lines.specs.declared.stop.NestStop.TheVariants.{Nesting, OutOfMemory}
use Rattle.sc_lines.specs.Branches.{HasBranches}
use Rattle.sc_lines.specs.Split.{AreLines}
use Rattle.c11_directives.specs.Lines as model
use Rattle.sc_model.specs.declared.standard.Standard.{Standard}

-- the line of these tokens, with any names of files
abbrev pub seen_line : Standard → List (List ℕ) → List (List ℕ) → List Token → model.Line
seen_line standard names files line = model.line_of standard (map (seen names files) line)

-- the lines of the tokens
abbrev pub seen_lines : Standard → List (List ℕ) → List (List ℕ) → List Token → List model.Line
seen_lines standard names files tokens = model.lines_of standard (map (seen names files) tokens)

-- the tree has the lines of the tokens, which are nested, and their branches
pub record IsTreeOf (standard : Standard) (names : List (List ℕ)) (tokens : List Token) (tree : FileTree) : Type 0 where
  pub lines : AreLines standard names tokens tree.lines.items
  pub nested : (files : List (List ℕ)) → (group : model.Group) × model.IsTree (seen_lines standard names files tokens) group
  pub branches : (files : List (List ℕ)) → HasBranches (seen_lines standard names files tokens) tree.lines.items

-- the nesting is at fault at this place, which is in the file of the tokens
pub record IsFaultAt (standard : Standard) (names : List (List ℕ)) (tokens : List Token) (place : Place) : Type 0 where
  pub tree : (files : List (List ℕ)) → model.Tree (seen_lines standard names files tokens) (Err (seen_place files place))
  pub placed : (file : FileId) → All (λ (t : Token). t.place.file ≡ file) tokens → place.file ≡ file

-- what a refusal says
abbrev pub Refuses : Standard → List (List ℕ) → List Token → NestStop → Type 0
Refuses standard names tokens (Nesting place) = IsFaultAt standard names tokens place
Refuses standard names tokens OutOfMemory = Unit {0}
