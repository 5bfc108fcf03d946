-- What a text expands to stands on one line, where its tokens and the macros' lists do; and which
-- macros' lists do.
use Rattle.std.proofs.Common.{◌≡◌, ℕ, zero, suc, true, List, [], ◌∷◌, All, map, codes, decimal, Option, Some, None, Result, Ok, Err, refl, sym, subst, slice_get}
use Rattle.std.specs.Map.{update}
use Rattle.sc_expand.proofs.Facts.{All-from_recursion, All-head, All-map, All-tail, All-weaker, PlainDefinition, PlainItem, PlainToken, both}
use Rattle.sc_expand.proofs.PlainLines.{decimal-plain, escaped-plain, quoted-plain, stays-on_one_line}
use Rattle.sc_expand.proofs.Terms.{AllByRecursion as Every, AreOneLine, Definition, Expands, Failure, HiddenToken as Hidden, IfSome, IsOneLine, Macros, TextExpands, definition_named, definition_of, escaped, has_no_newline, initial_macros, number_item, option_and_then, option_or, place_alone, predefined_macros, same_bytes, string_item, text_of_answer, token_of, unhidden, variable_definition}
use Rattle.sc_model.specs.Space as space_model
use Rattle.sc_model.specs.Space.{Space, Variable, VariableOption}
use Rattle.sc_model.specs.Token.{Place, Token}

-- ---- the expansion of a text

module _ (macros : Macros) (lists : AreOneLine macros) where
  -- what a text expands to is spelled on one line
  pub text-stays_on_one_line : (text output : List Token) → All PlainToken text → All (λ (t : Token). has_no_newline t.place.file ≡ true) text → TextExpands macros text (Ok output) → All PlainToken output
  text-stays_on_one_line text output spelled named d = by d.answer d.expands d.is
    where
      begun : All (IsOneLine place_alone) (map unhidden text)
      begun = All-map (IsOneLine place_alone) unhidden text (λ k t h. record { spelling = spelled k t h; file = named k t h })

      by : (answer : Result (List (Hidden Place)) (Failure Place)) → Expands place_alone macros (map unhidden text) answer → Ok output ≡ text_of_answer answer → All PlainToken output
      by (Ok out) e is =
          let same : output ≡ map token_of out = cc in
          let plain = stays-on_one_line place_alone macros lists (record { place = λ p. refl }) (map unhidden text) out begun e in
          subst (All PlainToken) (sym same)
          (All-map PlainToken token_of out (All-weaker (IsOneLine place_alone) (λ (t : Hidden Place). has_no_newline t.spelling ≡ true) (λ t h. h.spelling) out plain))
      by (Err failure) e is = absurd (cc)

-- ---- definitions

one_line-from : (macros : Macros) → ((name : List ℕ) → IfSome (macros name) PlainDefinition) → AreOneLine macros
one_line-from macros h = record { each = λ name d is. subst (λ (o : Option Definition). IfSome o PlainDefinition) is (h name) }

some-from : (o : Option Definition) → ((d : Definition) → o ≡ Some d → PlainDefinition d) → IfSome o PlainDefinition
some-from None h = tt
some-from (Some d) h = h d refl

-- a macro more, in the place of another or not, and a macro less
pub update-one_line : (macros : Macros) (name : List ℕ) (o : Option Definition) → AreOneLine macros → IfSome o PlainDefinition → AreOneLine (update same_bytes macros name o)
update-one_line macros name o lists h =
    one_line-from (update same_bytes macros name o)
    (λ other. both (λ (p : Option Definition). IfSome p PlainDefinition) (same_bytes name other) o (macros other) h (some-from (macros other) (lists.each other)))

-- ---- the macros with which a configuration starts

named-plain : (macros : List (List ℕ × Definition)) → Every (λ (m : List ℕ × Definition). PlainDefinition m.1) macros → (name : List ℕ) → IfSome (definition_named macros name) PlainDefinition
named-plain [] h name = tt
named-plain (m ∷ ms) h name = both (λ (o : Option Definition). IfSome o PlainDefinition) (same_bytes name m.0) (Some m.1) (definition_named ms name) h.0 (named-plain ms h.1 name)

string-plain : (text : List ℕ) → has_no_newline text ≡ true → All PlainItem (string_item text)
string-plain text h = All-from_recursion PlainItem (string_item text) (quoted-plain (escaped text) (escaped-plain text h), tt)

number-plain : (text : List ℕ) → has_no_newline text ≡ true → All PlainItem (number_item text)
number-plain text h = All-from_recursion PlainItem (number_item text) (h, tt)

-- the list of a text stands on one line
abbrev pub PlainOption : VariableOption → Type 0
PlainOption space_model.undefined = Unit {0}
PlainOption (space_model.number n) = Unit {0}
PlainOption (space_model.text bytes list) = All PlainItem list

option-plain : (options : List VariableOption) (k : ℕ) → All PlainOption options → IfSome (option_and_then definition_of (slice_get options k)) PlainDefinition
option-plain [] k plain = tt
option-plain (o ∷ os) zero plain = by o (All-head PlainOption o os plain)
  where
    by : (o : VariableOption) → PlainOption o → IfSome (definition_of o) PlainDefinition
    by space_model.undefined plain = tt
    by (space_model.number n) plain = number-plain (decimal n) (decimal-plain n)
    by (space_model.text bytes list) plain = plain
option-plain (o ∷ os) (suc k) plain = option-plain os k (All-tail PlainOption o os plain)

abbrev pub PlainVariable : Variable → Type 0
PlainVariable v = All PlainOption v.options

variable-plain : (variables : List Variable) (config name : List ℕ) → All PlainVariable variables → IfSome (variable_definition variables config name) PlainDefinition
variable-plain [] config name plain = tt
variable-plain (v ∷ vs) [] name plain = tt
variable-plain (v ∷ vs) (k ∷ ks) name plain =
    both (λ (o : Option Definition). IfSome o PlainDefinition) (same_bytes v.name name) (option_and_then definition_of (slice_get v.options k)) (variable_definition vs ks name)
    (option-plain v.options k (All-head PlainVariable v vs plain)) (variable-plain vs ks name (All-tail PlainVariable v vs plain))

either-plain : (o p : Option Definition) → IfSome o PlainDefinition → IfSome p PlainDefinition → IfSome (option_or o p) PlainDefinition
either-plain None p h k = k
either-plain (Some d) p h k = h

pub initial-one_line : (space : Space) (config : List ℕ) → All PlainVariable space.variables → has_no_newline space.date ≡ true → has_no_newline space.time ≡ true → AreOneLine (initial_macros space config)
initial-one_line space config variables date time =
    let one = number-plain (codes "1") refl in
    let predefined : Every (λ (m : List ℕ × Definition). PlainDefinition m.1) (predefined_macros space.date space.time) =
    (tt, (tt, (string-plain space.date date, (string-plain space.time time, (one, (number-plain (codes "201112L") refl, (one, tt))))))) in
    one_line-from (initial_macros space config)
    (λ name. either-plain (definition_named (predefined_macros space.date space.time) name) (variable_definition space.variables config name)
    (named-plain (predefined_macros space.date space.time) predefined name) (variable-plain space.variables config name variables))
