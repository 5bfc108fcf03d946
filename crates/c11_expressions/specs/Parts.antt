-- What waits at a place of the line of an #if: what stands before a token, as far as that token
-- lets it be read (C11 6.5, 6.6).
use Rattle.std.specs.Prelude.{◌≡◌, ℕ, ◌≤◌, List, ◌∷◌, ◌++◌, map, Option, Some, None}
use Rattle.c11_expressions.specs.declared.binary.Binary.{Binary}
use Rattle.c11_expressions.specs.declared.punctuator.Punctuator.TheVariants.{Close, Question, Colon, Binary as Infix}
use Rattle.c11_expressions.specs.Evaluates.{Symbols}
use Rattle.c11_expressions.specs.Expressions.{Expression, outcome}
use Rattle.c11_expressions.specs.Grammar.{Symbol, mark, level_of, Phrase}
use Rattle.c11_expressions.specs.Waiting.{AreWaiting, Operand, Waiting, condition, is_evaluated, needed, operand_of, parenthesis}

-- what waits for an operand, and the operand that stands behind it, unless one is wanted
pub record Part : Type 0 where
  pub waiting : List Waiting
  pub operand : Option Operand

-- The symbol ends an operand of this level that these wait for, and no larger one.
pub data Ends : Symbol → ℕ → List Waiting → Type 0 where
  operator : (op : Binary) (ws : List Waiting) → needed ws ≤ level_of op → Ends (mark (Infix op)) (level_of op) ws
  question : (ws : List Waiting) → needed ws ≡ 0 → Ends (mark Question) 1 ws
  colon : (c : Operand) (ws : List Waiting) → Ends (mark Colon) 0 (condition c ∷ ws)
  close : (ws : List Waiting) → Ends (mark Close) 0 (parenthesis ∷ ws)

-- what waits behind symbols, where this one comes next
pub data WaitsBefore (next : Symbol) : Part → List Symbol → Type 0 where
  wanted : (ws : List Waiting) (ts : List Symbol) → AreWaiting ws ts → WaitsBefore next (record { waiting = ws; operand = None }) ts
  ended : (ws : List Waiting) (ts xs : List Symbol) (level : ℕ) (x : Operand) (a : Expression) → AreWaiting ws ts → Ends next level ws → Phrase level xs a
      → x ≡ operand_of (is_evaluated ws) (outcome a) → WaitsBefore next (record { waiting = ws; operand = Some x }) (ts ++ xs)

-- what waits behind tokens, where this one comes next
pub record IsPart (next : Option Symbol) (ts : Symbols) (p : Part) : Type 0 where
  pub symbol : Symbol
  pub symbols : List Symbol
  pub is : next ≡ Some symbol
  pub each : ts ≡ map Some symbols
  pub waits : WaitsBefore symbol p symbols
