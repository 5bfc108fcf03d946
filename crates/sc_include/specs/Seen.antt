-- Headers as the definitions see them.
use Rattle.std.specs.Prelude.{◌≡◌, ℕ, List, map, Option, string_bytes, Ok, Err}
use Rattle.std.specs.Option.{option_map}
use Rattle.c11_headers.specs.Headers as headers
use Rattle.sc_base.specs.Seen.{seen}
use Rattle.sc_base.specs.declared.token.Token.{Token}
use Rattle.sc_include.specs.declared.header.Form.{Form}
use Rattle.sc_include.specs.declared.header.Header.{Header}
use Rattle.sc_include.specs.declared.stop.IncludeStop.{IncludeStop}
use Rattle.sc_include.specs.declared.stop.IncludeStop.TheVariants as stop
use Rattle.sc_model.specs.declared.cause.Cause.TheVariants.{BadInclude}

abbrev pub seen_header : Header → headers.Header
seen_header h = headers.header_with h.kind (string_bytes h.name)

abbrev pub seen_form : Form → headers.Header
seen_form f = headers.header_with f.kind f.name.items

-- of a refusal this is true
abbrev pub OnBadInclude : IncludeStop → Type 0 → Type 0
OnBadInclude stop.BadInclude claim = claim
OnBadInclude stop.OutOfMemory claim = Unit {0}

-- the tokens name this header, whatever their files are
abbrev pub NamesHeader : List (List ℕ) → List Token → Header → Type 0
NamesHeader names tokens header = (files : List (List ℕ)) → headers.header_of (map (seen names files) tokens) ≡ Ok (seen_header header)

-- the tokens name none
abbrev pub NamesNone : List (List ℕ) → List Token → IncludeStop → Type 0
NamesNone names tokens stop = OnBadInclude stop ((files : List (List ℕ)) → headers.header_of (map (seen names files) tokens) ≡ Err BadInclude)

-- the form that the tokens have
abbrev pub HasForm : List (List ℕ) → List Token → Option Form → Type 0
HasForm names tokens found = (files : List (List ℕ)) → headers.form_of (map (seen names files) tokens) ≡ option_map seen_form found
