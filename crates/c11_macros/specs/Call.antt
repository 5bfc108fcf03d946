-- The call of a function-like macro: what stands between its parentheses (C11 6.10.3p10 to p12,
-- 6.10.3.1).
use Rattle.std.specs.Prelude.{ℕ, zero, suc, ◌+◌, ◌==◌, ◌&&◌, ◌||◌, Bool, true, false, List, [], ◌∷◌, ◌++◌, length, codes, Option, Some, None, is_some, if◌then◌else◌}
use Rattle.c11_macros.specs.Hidden.{Hidden}
use Rattle.c11_macros.specs.Macros.{Form, object_like, function_like}
use Rattle.sc_model.specs.Bytes.{same_bytes}

-- what a token is in a call
pub data Role : Type 0 where
  opening : Role
  closing : Role
  comma : Role
  other : Role

abbrev pub role_of : List ℕ → Role
role_of spelling =
    if same_bytes spelling (codes "(") then opening
    else (if same_bytes spelling (codes ")") then closing
    else (if same_bytes spelling (codes ",") then comma
    else other))

-- the arguments as they are parted, the closing parenthesis, and what follows it
pub record Call (P : Type 0) : Type 0 where
  pub arguments : List (List (Hidden P))
  pub close : Hidden P
  pub rest : List (Hidden P)

-- the token stands first in the first argument
abbrev pub onto_argument : {P : Type 0} → Hidden P → List (List (Hidden P)) → List (List (Hidden P))
onto_argument t [] = (t ∷ []) ∷ []
onto_argument t (argument ∷ arguments) = (t ∷ argument) ∷ arguments

abbrev pub onto : {P : Type 0} → Hidden P → Option (Call P) → Option (Call P)
onto t None = None
onto t (Some call) = Some (record call { arguments = onto_argument t call.arguments })

-- an argument that is empty so far stands before the others
abbrev pub apart : {P : Type 0} → Option (Call P) → Option (Call P)
apart None = None
apart (Some call) = Some (record call { arguments = [] ∷ call.arguments })

-- One token of a call, at a depth of inner parentheses, where so many commas may still part
-- arguments. What follows is read by go.
abbrev pub call_step : {P : Type 0} → Role → ℕ → ℕ → Hidden P → List (Hidden P) → (ℕ → ℕ → Option (Call P)) → Option (Call P)
call_step closing commas zero t ts go = Some (record { arguments = [] ∷ []; close = t; rest = ts })
call_step closing commas (suc depth) t ts go = onto t (go commas depth)
call_step opening commas depth t ts go = onto t (go commas (suc depth))
call_step comma (suc commas) zero t ts go = apart (go commas zero)
call_step comma zero zero t ts go = onto t (go zero zero)
call_step comma commas (suc depth) t ts go = onto t (go commas (suc depth))
call_step other commas depth t ts go = onto t (go commas depth)

-- the call whose opening parenthesis stands before these tokens, where one closes it
abbrev pub call_of : {P : Type 0} → ℕ → ℕ → List (Hidden P) → Option (Call P)
call_of commas depth [] = None
call_of commas depth (t ∷ ts) = call_step (role_of t.spelling) commas depth t ts (λ c d. call_of c d ts)

-- so many arguments fit the parameters; for the rest none need be given (own)
abbrev pub counts_for : List (List ℕ) → Bool → ℕ → Bool
counts_for parameters variadic n = n == length parameters || (variadic && n == length parameters + 1)

abbrev pub counts : Form → ℕ → Bool
counts object_like n = false
counts (function_like parameters rest) n = counts_for parameters (is_some rest) n

-- nothing stands between the parentheses
abbrev pub is_nothing : {A : Type 0} → List (List A) → Bool
is_nothing ([] ∷ []) = true
is_nothing _ = false

-- A macro without parameters that is called with nothing has no argument; else each list is one.
abbrev pub given : {A : Type 0} → List (List ℕ) → Bool → List (List A) → List (List A)
given [] false arguments = if is_nothing arguments then [] else arguments
given parameters variadic arguments = arguments

-- one argument for each parameter and for the rest, which may be empty
abbrev pub filled_up : {A : Type 0} → List (List ℕ) → Bool → List (List A) → List (List A)
filled_up parameters variadic arguments = if variadic && length arguments == length parameters then arguments ++ [] ∷ [] else arguments

-- the arguments for the parameters, where so many fit
abbrev pub arguments_for : {A : Type 0} → List (List ℕ) → Bool → List (List A) → Option (List (List A))
arguments_for parameters variadic arguments =
    if counts_for parameters variadic (length (given parameters variadic arguments))
    then Some (filled_up parameters variadic (given parameters variadic arguments)) else None
