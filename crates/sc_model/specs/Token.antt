-- Tokens, and where they stand.
use Rattle.std.specs.Prelude.{ℕ, Bool, List, codes, if◌then◌else◌}
use Rattle.sc_model.specs.declared.kind.Kind.{Kind}
use Rattle.sc_model.specs.Bytes.{same_bytes}

-- a line and a column of a file, counted in physical lines and bytes from 1
pub record Position : Type 0 where
  pub line : ℕ
  pub column : ℕ

-- a preprocessing token of a replacement list
pub record Item : Type 0 where
  pub kind : Kind
  pub spelling : List ℕ
  -- white space stands before it
  pub space : Bool

-- a token of one file
pub record Lexeme : Type 0 where
  pub kind : Kind
  pub spelling : List ℕ
  -- white space or a newline stands before it
  pub space : Bool
  pub position : Position

-- a position in a file, which its name tells
pub record Place : Type 0 where
  pub file : List ℕ
  pub position : Position

pub record Token : Type 0 where
  pub kind : Kind
  pub spelling : List ℕ
  pub space : Bool
  pub place : Place

-- a file's token with the file's name
abbrev pub in_file : List ℕ → Lexeme → Token
in_file file t = record { kind = t.kind; spelling = t.spelling; space = t.space; place = record { file = file; position = t.position } }

-- what a spelling stands for: a digraph acts as another punctuator (C11 6.4.6p3)
abbrev pub name_of : List ℕ → List ℕ
name_of spelling =
    if same_bytes spelling (codes "<:") then codes "["
    else (if same_bytes spelling (codes ":>") then codes "]"
    else (if same_bytes spelling (codes "<%") then codes "{"
    else (if same_bytes spelling (codes "%>") then codes "}"
    else (if same_bytes spelling (codes "%:") then codes "#"
    else (if same_bytes spelling (codes "%:%:") then codes "##"
    else spelling)))))

-- what a text shows of a token
pub record Shown : Type 0 where
  pub place : Place
  pub spelling : List ℕ

abbrev pub shown : Token → Shown
shown t = record { place = t.place; spelling = t.spelling }
