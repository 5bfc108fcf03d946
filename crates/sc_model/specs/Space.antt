-- Configurations: the variables and their options.
use Rattle.std.specs.Prelude.{ℕ, ◌+◌, ◌++◌, List, [], ◌∷◌, length, map, codes, decimal, Option}
use Rattle.sc_model.specs.declared.standard.Standard.{Standard}
use Rattle.sc_model.specs.Token.{Item}

-- The name of a variable starts without a definition, or as a macro without arguments that stands
-- for a number or for the list that a text is.
pub data VariableOption : Type 0 where
  undefined : VariableOption
  number : (n : ℕ) → VariableOption
  text : (bytes : List ℕ) → (list : List Item) → VariableOption

pub record Variable : Type 0 where
  pub name : List ℕ
  pub options : List VariableOption

pub record Space : Type 0 where
  pub variables : List Variable
  pub include : List (List ℕ)
  pub branches : ℕ
  pub include_depth : ℕ
  pub date : List ℕ
  pub time : List ℕ
  pub standard : Standard
  -- which configurations are meant, as behind `#if`; all where there is none
  pub valid : Option (List ℕ)

-- how many options each variable has
abbrev pub arities_of : Space → List ℕ
arities_of space = map (λ v. length v.options) space.variables

-- how the option of this index is written and chosen
abbrev pub option_word : ℕ → VariableOption → List ℕ
option_word k undefined = codes "undef"
option_word k (number n) = decimal n
option_word k (text bytes list) = codes "t" ++ decimal k

-- the words of options, of which the first has this index
abbrev pub words_from : ℕ → List VariableOption → List (List ℕ)
words_from k [] = []
words_from k (option ∷ options) = option_word k option ∷ words_from (k + 1) options

abbrev pub option_words : List VariableOption → List (List ℕ)
option_words options = words_from 0 options
