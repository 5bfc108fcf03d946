-- Reading an expression from left to right: what waits for the rest, innermost first, and the
-- operand that was read last.
use Rattle.std.specs.Prelude.{ℕ, nat_le, List, [], ◌∷◌, ◌||◌, Bool, true, false, not, Option, Some, None, Result, Ok, Err, if◌then◌else◌, pos}
use Rattle.std.specs.Option.{option_and_then}
use Rattle.c11_expressions.specs.Arithmetic.{Typed, typed, binary_unsigned, binary_value, converted, is_zero, truth, unary_unsigned, unary_value}
use Rattle.c11_expressions.specs.declared.binary.Binary.{Binary}
use Rattle.c11_expressions.specs.declared.punctuator.Punctuator.TheVariants as punctuator
use Rattle.c11_expressions.specs.declared.unary.Unary.{Unary}
use Rattle.c11_expressions.specs.Evaluates.{Symbols}
use Rattle.c11_expressions.specs.Expressions.{constant_outcome, is_decided}
use Rattle.c11_expressions.specs.Grammar.{Symbol, operand, mark, as_unary, level_of}
use Rattle.c11_expressions.specs.Waiting.{Operand, value, fault, unevaluated, evaluated, operand_of, Waiting, parenthesis, prefix, left, condition, branch, is_evaluated}
use Rattle.sc_model.specs.declared.cause.Cause.{Cause}

-- ---- operands

-- of a fault the type does not count
abbrev pub is_unsigned : Operand → Bool
is_unsigned (value v) = v.unsigned
is_unsigned (fault cause) = false
is_unsigned (unevaluated unsigned) = unsigned

-- the value or the cause; what is not evaluated has neither
abbrev pub result_of_operand : Operand → Result Typed Cause
result_of_operand (value v) = Ok v
result_of_operand (fault cause) = Err cause
result_of_operand (unevaluated unsigned) = Ok (typed unsigned (pos 0))

abbrev pub unary_operand : Unary → Operand → Operand
unary_operand op (value v) = evaluated (unary_value op v)
unary_operand op (fault cause) = fault cause
unary_operand op (unevaluated unsigned) = unevaluated (unary_unsigned op unsigned)

-- behind a left operand that does not decide
abbrev pub operand_behind : Binary → Typed → Operand → Operand
operand_behind op v (value w) = evaluated (binary_value op v w)
operand_behind op v (fault cause) = fault cause
operand_behind op v (unevaluated unsigned) = unevaluated unsigned

abbrev pub binary_operand : Binary → Operand → Operand → Operand
binary_operand op (value v) y = if is_decided op v.number then value (typed false (truth (not (is_zero v.number)))) else operand_behind op v y
binary_operand op (fault cause) y = fault cause
binary_operand op (unevaluated unsigned) y = unevaluated (binary_unsigned op unsigned (is_unsigned y))

-- in the common type with this other one
abbrev pub converted_operand : Bool → Operand → Operand
converted_operand other (value v) = value (typed (v.unsigned || other) (converted (v.unsigned || other) v.number))
converted_operand other (fault cause) = fault cause
converted_operand other (unevaluated unsigned) = unevaluated (unsigned || other)

abbrev pub conditional_operand : Operand → Operand → Operand → Operand
conditional_operand (value v) x y = if is_zero v.number then converted_operand (is_unsigned x) y else converted_operand (is_unsigned y) x
conditional_operand (fault cause) x y = fault cause
conditional_operand (unevaluated unsigned) x y = unevaluated (is_unsigned x || is_unsigned y)

-- ---- what waits

-- whether it takes an operand as its last before a symbol of this level
abbrev pub binds : ℕ → Waiting → Bool
binds p parenthesis = false
binds p (prefix op) = true
binds p (left op x) = nat_le p (level_of op)
binds p (condition c) = false
binds p (branch c x) = nat_le p 0

abbrev pub closed : Waiting → Operand → Operand
closed parenthesis y = y
closed (prefix op) y = unary_operand op y
closed (left op x) y = binary_operand op x y
closed (condition c) y = y
closed (branch c x) y = conditional_operand c x y

-- what waits, and the operand that it waits for
pub record Held : Type 0 where
  pub frames : List Waiting
  pub operand : Operand

abbrev pub held : List Waiting → Operand → Held
held fs x = record { frames = fs; operand = x }

abbrev pub settled : ℕ → List Waiting → Operand → Held
settled p [] x = held [] x
settled p (f ∷ fs) x = if binds p f then settled p fs (closed f x) else held (f ∷ fs) x

pub data State : Type 0 where
  wanting : List Waiting → State
  having : List Waiting → Operand → State

abbrev pub as_prefix : List Waiting → Option Unary → Option State
as_prefix fs None = None
as_prefix fs (Some op) = Some (wanting (prefix op ∷ fs))

-- a symbol where an operand is wanted
abbrev pub begun : List Waiting → Symbol → Option State
begun fs (operand v) = Some (having fs (operand_of (is_evaluated fs) (constant_outcome v)))
begun fs (mark punctuator.Open) = Some (wanting (parenthesis ∷ fs))
begun fs (mark p) = as_prefix fs (as_unary p)

abbrev pub at_colon : List Waiting → Operand → Option State
at_colon (condition c ∷ fs) y = Some (wanting (branch c y ∷ fs))
at_colon _ y = None

abbrev pub at_close : List Waiting → Operand → Option State
at_close (parenthesis ∷ fs) y = Some (having fs y)
at_close _ y = None

abbrev pub at_end : List Waiting → Operand → Option Operand
at_end [] y = Some y
at_end (f ∷ fs) y = None

abbrev pub at_infix : Binary → Held → State
at_infix op h = wanting (left op h.operand ∷ h.frames)

abbrev pub at_question : Held → State
at_question h = wanting (condition h.operand ∷ h.frames)

-- a symbol behind an operand
abbrev pub gone_on : List Waiting → Operand → Symbol → Option State
gone_on fs x (operand v) = None
gone_on fs x (mark punctuator.Open) = None
gone_on fs x (mark (punctuator.Unary op)) = None
gone_on fs x (mark (punctuator.Binary op)) = Some (at_infix op (settled (level_of op) fs x))
gone_on fs x (mark punctuator.Question) = Some (at_question (settled 1 fs x))
gone_on fs x (mark punctuator.Colon) = at_colon (settled 0 fs x).frames (settled 0 fs x).operand
gone_on fs x (mark punctuator.Close) = at_close (settled 0 fs x).frames (settled 0 fs x).operand

abbrev pub step : State → Symbol → Option State
step (wanting fs) t = begun fs t
step (having fs x) t = gone_on fs x t

abbrev pub run : State → List Symbol → Option State
run s [] = Some s
run s (t ∷ ts) = option_and_then (λ n. run n ts) (step s t)

abbrev pub finished : State → Option Operand
finished (wanting fs) = None
finished (having fs x) = at_end (settled 0 fs x).frames (settled 0 fs x).operand

abbrev pub reading : List Symbol → Option Operand
reading ts = option_and_then finished (run (wanting []) ts)

-- ---- the same for tokens

abbrev pub read_token : State → Option Symbol → Option State
read_token s t = option_and_then (step s) t

abbrev pub run_tokens : State → Symbols → Option State
run_tokens s [] = Some s
run_tokens s (t ∷ ts) = option_and_then (λ n. run_tokens n ts) (read_token s t)

abbrev pub reading_tokens : Symbols → Option Operand
reading_tokens ts = option_and_then finished (run_tokens (wanting []) ts)
