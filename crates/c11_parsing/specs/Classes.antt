-- Lists of tokens under conditions, and the classes of their configurations at a place.
use Rattle.std.specs.Prelude.{◌≡◌, ℕ, ◌+◌, ◌<◌, true, List, [], ◌∷◌, length, map, drop, All, AllPairs, if◌then◌else◌}
use Rattle.std.specs.List.{position_or_len}
use Rattle.sc_model.specs.Sets.{IsConfig}
use Rattle.sc_model.specs.Token.{Place, Token}
use Rattle.c11_parsing.specs.LR.{Frame, Run, reading, on, Reaches, start}
use Rattle.c11_parsing.specs.Parser.{Parser}
use Rattle.c11_parsing.specs.Trees.{Condition}

-- What is parsed: a list of tokens, each under its condition, with the place of its end, for the
-- configurations that are live. How many options each variable has tells which configurations
-- there are.
pub record Input : Type 0 where
  pub parser : Parser
  pub arities : List ℕ
  pub items : List (Condition × Token)
  pub end : Place
  pub live : Condition

-- the tokens whose condition has the configuration
abbrev pub project : List ℕ → List (Condition × Token) → List Token
project c [] = []
project c (item ∷ items) = if item.0 c then item.1 ∷ project c items else project c items

-- what is left of them from a place of the list on
abbrev pub left_from : Input → ℕ → List ℕ → List Token
left_from input i c = project c (drop i input.items)

-- the index of the configuration's next element at or after the place, or the length
abbrev pub next_from : Input → ℕ → List ℕ → ℕ
next_from input i c = i + position_or_len (λ item. item.0 c) (drop i input.items)

abbrev pub states_of : List Frame → List ℕ
states_of stack = map (λ (frame : Frame). frame.state) stack

pub record Class : Type 0 where
  pub states : List ℕ
  pub next : ℕ
  pub depth : ℕ

abbrev pub class_of : Input → ℕ → List ℕ → Run → Class
class_of input i c r = record { states = states_of r.stack; next = next_from input i c; depth = length r.levels }

-- The configuration is live at the place, as this run: all its tokens before the place were
-- shifted, and nothing was done since.
pub record IsLive (input : Input) (i : ℕ) (c : List ℕ) (r : Run) : Type 0 where
  pub is_config : IsConfig input.arities c
  pub unrefused : input.live c ≡ true
  pub reached : Reaches input.parser input.end (on (start (project c input.items))) (on r)
  pub phase : r.phase ≡ reading
  pub left : r.left ≡ left_from input i c

-- the configuration's class at the place
pub record IsClass (input : Input) (i : ℕ) (c : List ℕ) (class : Class) : Type 0 where
  pub run : Run
  pub live : IsLive input i c run
  pub is : class ≡ class_of input i c run

-- Configurations that are live at the place, any two of them in different classes.
pub record AreDistinct (input : Input) (i : ℕ) (configs : List (List ℕ)) : Type 0 where
  pub classes : All (λ c. (class : Class) × IsClass input i c class) configs
  pub different : AllPairs (λ c d. (class : Class) → IsClass input i c class → IsClass input i d class → ⊥) configs

-- at some place there are more classes than so many
pub record HasMoreClasses (input : Input) (branches : ℕ) : Type 0 where
  pub place : ℕ
  pub within : place < length input.items + 1
  pub configs : List (List ℕ)
  pub distinct : AreDistinct input place configs
  pub more : branches < length configs
