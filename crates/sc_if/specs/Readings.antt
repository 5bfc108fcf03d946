-- What was read of the line of an #if, by condition.
use Rattle.std.specs.Prelude.{◌≡◌, ℕ, ◌≤◌, not, Bool, true, List, [], ◌∷◌, ◌++◌, All, AllPairs, length, map, Option, Some, None, option_map, Result, Err, if◌then◌else◌}
use Rattle.std.specs.Option.{option_and_then}
use Rattle.c11_expressions.proofs.Reader.{State, finished, result_of_operand, run_tokens, step, wanting}
use Rattle.c11_expressions.specs.Arithmetic.{is_zero}
use Rattle.c11_expressions.specs.Grammar as grammar
use Rattle.c11_expressions.specs.Waiting as waiting
use Rattle.c11_macros.specs.Results.{result_map}
use Rattle.sc_base.specs.declared.id.Cond.{Cond}
use Rattle.sc_base.specs.declared.token.Token.{Token}
use Rattle.sc_guarded.specs.Items.{items_at}
use Rattle.sc_hoist.specs.Alike.{AreAlike}
use Rattle.sc_if.specs.declared.reading.Reading.{Reading}
use Rattle.sc_if.specs.declared.readings.Readings.{Readings}
use Rattle.sc_if.specs.Frames.{state_of}
use Rattle.sc_if.specs.Symbols.{symbol_at}
use Rattle.sc_model.specs.declared.cause.Cause.{Cause}
use Rattle.sc_model.specs.declared.cause.Cause.TheVariants.{BadIf}
use Rattle.sc_model.specs.Sets.{Sets, IsCond, IsConfig, IsNever}
use Rattle.sc_model.specs.declared.standard.Standard.{Standard}

abbrev pub state_in : Reading → State
state_in r = state_of r.frames.items r.last

-- what was read, or that it is the beginning of no expression
abbrev pub seen_reading : Option Reading → Option State
seen_reading r = option_map state_in r

-- ---- at one configuration

-- what was read for a configuration, of each reading that has it
abbrev pub readings_at : Sets → List (Cond × Option Reading) → List ℕ → List (Option State)
readings_at s readings c = map seen_reading (items_at s readings c)

-- what reading its tokens comes to
abbrev pub read_at : Standard → Sets → List (List ℕ) → List (Cond × Token) → List ℕ → Option State
read_at standard s names list c = run_tokens (wanting []) (map (symbol_at standard names) (items_at s list c))

-- one symbol more; there is none where the token is none
abbrev pub read_behind : Option grammar.Symbol → Option State → Option State
read_behind symbol before = option_and_then (λ state. option_and_then (step state) symbol) before

-- and that where the element is had
abbrev pub moved : Bool → Option grammar.Symbol → Option State → Option State
moved had symbol before = if had then read_behind symbol before else before

-- ---- the answer

abbrev pub verdict_of : waiting.Operand → Result Bool Cause
verdict_of x = result_map (λ v. not (is_zero v.number)) (result_of_operand x)

abbrev pub verdict_on : Option waiting.Operand → Result Bool Cause
verdict_on None = Err BadIf
verdict_on (Some x) = verdict_of x

-- whether the group of a line that was read is taken, or why the line is refused
abbrev pub answer_of : Option State → Result Bool Cause
answer_of state = verdict_on (option_and_then finished state)

-- ---- under conditions

-- each configuration of the condition has the item
pub record IsWithin (s : Sets) (cond item : ℕ) : Type 0 where
  pub own : IsCond s item
  pub at : (c : List ℕ) → IsConfig s.arities c → s.has cond c ≡ true → s.has item c ≡ true

-- Each has configurations, which all have the item, and they go on behind it; no two are the same.
pub record HaveRead (s : Sets) (item : ℕ) (readings : List (Cond × Option Reading)) : Type 0 where
  pub some : All (λ reading. IsNever s reading.0.0 → ⊥) readings
  pub within : All (λ reading. IsWithin s reading.0.0 item) readings
  pub going : All (λ reading. seen_reading reading.1 ≡ None → ⊥) readings
  pub apart : AllPairs (λ a b. seen_reading a.1 ≡ seen_reading b.1 → ⊥) readings

-- The configurations of a condition have this reading more, those of them that had none.
pub record IsPut (old new : Sets) (cond : ℕ) (reading : Option State) (before after : List (Cond × Option Reading)) : Type 0 where
  pub own : All (λ reading. IsCond new reading.0.0) after
  pub at : (c : List ℕ) → IsConfig old.arities c → (old.has cond c ≡ true → readings_at old before c ≡ [])
      → readings_at new after c ≡ (if old.has cond c then reading ∷ [] else readings_at old before c)
  pub alike : (a b : List ℕ) → IsConfig old.arities a → IsConfig old.arities b → old.has cond a ≡ old.has cond b → AreAlike old a b before → AreAlike new a b after

-- those that lack the last element, and those that have it
abbrev pub all_of : Readings → List (Cond × Option Reading)
all_of r = r.left.items ++ r.moved.items

-- the same, where those that have an element have read its symbol too
pub record ArePartedBy (old new : Sets) (item : ℕ) (symbol : Option grammar.Symbol) (cond : ℕ) (reading : Option State) (before after : Readings) : Type 0 where
  pub own : All (λ reading. IsCond new reading.0.0) (all_of after)
  pub read : HaveRead old item before.moved.items → HaveRead new item after.moved.items
  pub at : (c : List ℕ) → IsConfig old.arities c → (old.has cond c ≡ true → readings_at old (all_of before) c ≡ [])
      → readings_at new (all_of after) c ≡ (if old.has cond c then moved (old.has item c) symbol reading ∷ [] else readings_at old (all_of before) c)
  pub alike : (a b : List ℕ) → IsConfig old.arities a → IsConfig old.arities b → old.has item a ≡ old.has item b → old.has cond a ≡ old.has cond b
      → AreAlike old a b (all_of before) → AreAlike new a b (all_of after)

-- those that have an element have read its symbol
pub record AreMoved (old new : Sets) (item : ℕ) (symbol : Option grammar.Symbol) (before : List (Cond × Option Reading)) (after : Readings) : Type 0 where
  pub own : All (λ reading. IsCond new reading.0.0) (all_of after)
  pub read : HaveRead new item after.moved.items
  pub at : (c : List ℕ) → IsConfig old.arities c → length (readings_at old before c) ≤ 1
      → readings_at new (all_of after) c ≡ map (moved (old.has item c) symbol) (readings_at old before c)
  pub alike : (a b : List ℕ) → IsConfig old.arities a → IsConfig old.arities b → old.has item a ≡ old.has item b → AreAlike old a b before → AreAlike new a b (all_of after)

-- each configuration of the condition has what reading its tokens comes to, and the others nothing
pub record AreReadings (standard : Standard) (old new : Sets) (names : List (List ℕ)) (list : List (Cond × Token)) (live : ℕ) (readings : List (Cond × Option Reading)) : Type 0 where
  pub own : All (λ reading. IsCond new reading.0.0) readings
  pub at : (c : List ℕ) → IsConfig old.arities c → readings_at new readings c ≡ (if old.has live c then read_at standard old names list c ∷ [] else [])
  pub alike : (a b : List ℕ) → IsConfig old.arities a → IsConfig old.arities b → old.has live a ≡ old.has live b → AreAlike old a b list → AreAlike new a b readings
