-- Which header an #include names, and under which names its file is looked for (C11 6.10.2).
use Rattle.std.specs.Prelude.{ℕ, ◌-◌, ◌==◌, ◌&&◌, not, Bool, List, [], ◌∷◌, ◌++◌, length, map, take, drop, codes, Option, Some, None, Result, Ok, Err, if◌then◌else◌}
use Rattle.std.specs.List.{list_any}
use Rattle.std.specs.Option.{option_map}
use Rattle.std.specs.Str.{is_utf8}
use Rattle.sc_model.specs.declared.cause.Cause.{Cause}
use Rattle.sc_model.specs.declared.cause.Cause.TheVariants.{BadInclude}
use Rattle.sc_model.specs.declared.kind.Kind.{Kind}
use Rattle.sc_model.specs.declared.kind.Kind.TheVariants as kind
use Rattle.sc_model.specs.Bytes.{same_bytes, begins_with}
use Rattle.sc_model.specs.Token.{Token}
use Rattle.c11_headers.specs.declared.kind.HeaderKind.{HeaderKind}
use Rattle.c11_headers.specs.declared.kind.HeaderKind.TheVariants.{Quoted, Angle}

pub record Header : Type 0 where
  pub kind : HeaderKind
  pub name : List ℕ

abbrev pub header_with : HeaderKind → List ℕ → Header
header_with kind name = record { kind = kind; name = name }

-- of a header name token, as the lexer has it (6.4.7)
abbrev pub kind_of_name : List ℕ → HeaderKind
kind_of_name spelling = if begins_with (codes "<") spelling then Angle else Quoted

-- what stands between the delimiters
abbrev pub delimited : List ℕ → List ℕ
delimited spelling = take (length spelling - 2) (drop 1 spelling)

-- a token's spelling, after one space where white space stands before it
abbrev pub spaced : Token → List ℕ
spaced t = (if t.space then codes " " else []) ++ t.spelling

-- the spellings up to the first > (6.10.2p4: how tokens are combined is left to this project)
abbrev pub up_to_angle : List Token → Option (List ℕ)
up_to_angle [] = None
up_to_angle (t ∷ ts) = if same_bytes t.spelling (codes ">") then Some [] else option_map (λ name. spaced t ++ name) (up_to_angle ts)

-- A header name token, or of an expanded line a string literal without prefix, or < and a later >
-- (6.10.2p2 to p4). What follows is ignored.
abbrev pub form_by : Kind → List ℕ → List Token → Option Header
form_by kind.Header spelling rest = Some (header_with (kind_of_name spelling) (delimited spelling))
form_by kind.Text spelling rest = if begins_with (34 ∷ []) spelling then Some (header_with Quoted (delimited spelling)) else None
form_by kind.Punctuator spelling rest = if same_bytes spelling (codes "<") then option_map (header_with Angle) (up_to_angle rest) else None
form_by _ spelling rest = None

-- the header that the tokens spell, whatever its name
abbrev pub form_of : List Token → Option Header
form_of [] = None
form_of (t ∷ ts) = form_by t.kind t.spelling ts

-- a name that a file can have
abbrev pub is_file_name : List ℕ → Bool
is_file_name name = not (length name == 0) && is_utf8 name

-- the header, if a file can have its name
abbrev pub with_file_name : Option Header → Result Header Cause
with_file_name None = Err BadInclude
with_file_name (Some header) = if is_file_name header.name then Ok header else Err BadInclude

-- the header that the tokens behind #include name
abbrev pub header_of : List Token → Result Header Cause
header_of ts = with_file_name (form_of ts)

abbrev pub is_slash : ℕ → Bool
is_slash b = b == 47

-- the name of a file up to and with its last slash
abbrev pub directory_of : List ℕ → List ℕ
directory_of [] = []
directory_of (b ∷ bs) = if list_any is_slash (b ∷ bs) then b ∷ directory_of bs else []

abbrev pub is_absolute : List ℕ → Bool
is_absolute name = begins_with (codes "/") name

abbrev pub in_directory : List ℕ → List ℕ → List ℕ
in_directory name directory = directory ++ codes "/" ++ name

-- a quoted name is looked for beside the file that includes it (6.10.2p3)
abbrev pub beside : HeaderKind → List ℕ → List ℕ → List (List ℕ)
beside Quoted name including = (directory_of including ++ name) ∷ []
beside Angle name including = []

-- The names under which a header's file is looked for, in order: the places are this project's
-- (6.10.2p2, p3). No name is normalised.
abbrev pub candidates : Header → List ℕ → List (List ℕ) → List (List ℕ)
candidates header including directories =
    if is_absolute header.name then header.name ∷ []
    else beside header.kind header.name including ++ map (in_directory header.name) directories
