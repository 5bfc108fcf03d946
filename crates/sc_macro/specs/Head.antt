-- The form that the tokens behind a macro's name tell.
use Rattle.std.specs.Prelude.{◌≡◌, ℕ, ◌≤◌, ◌-◌, ◌+◌, ◌&&◌, List, [], map, drop, length, codes, Option, Some, None, if◌then◌else◌}
use Rattle.c11_macros.specs.Defines as model
use Rattle.sc_base.specs.declared.token.Token as declared
use Rattle.sc_base.specs.Seen.{seen}
use Rattle.sc_model.specs.Token.{Token}
use Rattle.sc_model.specs.declared.standard.Standard.{Standard}
use Rattle.sc_macro.specs.declared.head.Head.{Head}
use Rattle.sc_macro.specs.declared.head.Turn.{Turn}
use Rattle.sc_macro.specs.declared.head.Turn.TheVariants.{More, Last, Dots, Named, Wrong}
use Rattle.sc_macro.specs.Seen.{seen_form, IsHeldForm}

-- The form is that of the definition, and the tokens that follow it. So many tokens stand before
-- these.
pub record IsHead (names : List (List ℕ)) (tokens : List declared.Token) (before : ℕ) (head : Head) (found : Option model.Head) : Type 0 where
  pub is : found ≡ Some (record { form = seen_form names head.form; rest = map (seen names []) (drop (head.length - before) tokens) })
  pub behind : before ≤ head.length
  pub within : head.length ≤ before + length tokens
  pub held : IsHeldForm names head.form

abbrev pub Heads : List (List ℕ) → List declared.Token → ℕ → Option Head → Option model.Head → Type 0
Heads names tokens before None found = found ≡ None
Heads names tokens before (Some head) found = IsHead names tokens before head found

-- what two tokens are behind these parameters
abbrev pub turn_of : Standard → List (List ℕ) → Token → Token → Turn
turn_of standard before t u =
    if model.is_parameter before t && model.is_spelled (codes ",") u then More
    else (if model.is_parameter before t && model.is_spelled (codes ")") u then Last
    else (if model.is_spelled (codes "...") t && model.is_spelled (codes ")") u then Dots
    else (if model.names_rest standard && (model.is_parameter before t && model.is_spelled (codes "...") u) then Named
    else Wrong)))
