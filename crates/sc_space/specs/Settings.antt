-- The settings of a run, as values of a space file give them.
use Rattle.std.specs.Prelude.{ℕ, ◌==◌, ◌&&◌, not, nat_le, Bool, List, length, codes, pos, Option, Some, None, if◌then◌else◌}
use Rattle.std.specs.List.{list_all}
use Rattle.sc_model.specs.Bytes.{is_between, same_bytes}
use Rattle.sc_model.specs.declared.standard.Standard.{Standard}
use Rattle.sc_model.specs.declared.standard.Standard.TheVariants.{C11, C23, Gnu11}
use Rattle.toml.specs.Data.{Data, string, integer}

-- what the value says, or the default where there is none
abbrev pub setting : {A : Type 0} → A → (Data → Option A) → Option Data → Option A
setting default read None = Some default
setting default read (Some value) = read value

-- a whole number from the least to the most
unfoldable pub limit_of : ℕ → ℕ → Data → Option ℕ
limit_of least most (integer (pos n)) = if is_between least most n then Some n else None
limit_of least most _ = None

-- it stands on one line, without tabs and the like
abbrev pub has_no_control : List ℕ → Bool
has_no_control bytes = list_all (nat_le 32) bytes

-- a name that is not empty, without bytes below 32
abbrev pub is_directory : List ℕ → Bool
is_directory name = not (length name == 0) && has_no_control name

unfoldable pub directory_of : Data → Option (List ℕ)
directory_of (string name) = if is_directory name then Some name else None
directory_of _ = None

-- a printable character of ASCII that may stand in a string literal as it is (C11 6.4.5): no `"`
-- and no `\`
abbrev pub is_date_byte : ℕ → Bool
is_date_byte b = is_between 32 126 b && not (b == 34) && not (b == 92)

-- a text of so many bytes
unfoldable pub date_of : ℕ → Data → Option (List ℕ)
date_of size (string text) = if (length text == size) && list_all is_date_byte text then Some text else None
date_of size _ = None

abbrev pub standard_named : List ℕ → Option Standard
standard_named name =
    if same_bytes name (codes "c11") then Some C11
    else (if same_bytes name (codes "c23") then Some C23
    else (if same_bytes name (codes "gnu11") then Some Gnu11
    else None))

-- the text that names a standard
unfoldable pub standard_of : Data → Option Standard
standard_of (string name) = standard_named name
standard_of _ = None

-- a text without bytes below 32, which is read as the tokens of a line
unfoldable pub valid_of : Data → Option (List ℕ)
valid_of (string text) = if has_no_control text then Some text else None
valid_of _ = None
