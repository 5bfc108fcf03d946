-- What parts of the line of an #if come to, and both halves of one.
use Rattle.std.specs.Prelude.{◌≡◌, ℕ, ◌≤◌, true, false, List, [], ◌∷◌, ◌++◌, All, length, map, Option, option_map, if◌then◌else◌}
use Rattle.std.specs.Option.{option_and_then}
use Rattle.c11_expressions.proofs.Reader.{State, run_tokens}
use Rattle.c11_expressions.specs.Grammar as grammar
use Rattle.sc_base.specs.declared.id.Cond.{Cond}
use Rattle.sc_base.specs.declared.token.Token.{Token}
use Rattle.sc_guarded.specs.Items.{items_at}
use Rattle.sc_hoist.specs.Alike.{AreAlike}
use Rattle.sc_if.specs.declared.halves.Way.{Way}
use Rattle.sc_if.specs.declared.reading.Reading.{Reading}
use Rattle.sc_if.specs.declared.symbol.Symbol.{Symbol}
use Rattle.sc_if.specs.Readings.{readings_at, state_in}
use Rattle.sc_if.specs.Symbols.{seen_symbol, symbol_at}
use Rattle.sc_model.specs.Sets.{Sets, IsCond, IsConfig}
use Rattle.sc_model.specs.declared.standard.Standard.{Standard}

-- what each element is in an expression
abbrev pub seen_line : List (Cond × Option Symbol) → List (Cond × Option grammar.Symbol)
seen_line line = map (λ x. (x.0, option_map seen_symbol x.1)) line

-- the same of tokens
abbrev pub line_of : Standard → List (List ℕ) → List (Cond × Token) → List (Cond × Option grammar.Symbol)
line_of standard names list = map (λ x. (x.0, symbol_at standard names x.1)) list

-- what reading a part of a line comes to, behind what was read in front of it
abbrev pub read_on : Sets → List (Cond × Option Symbol) → List ℕ → State → Option State
read_on s line c state = run_tokens state (map (option_map seen_symbol) (items_at s line c))

-- each configuration of the condition has what reading the part comes to, and the others nothing
pub record AreReadFrom (old new : Sets) (line : List (Cond × Option Symbol)) (live : ℕ) (start : State) (ends : List (Cond × Option Reading)) : Type 0 where
  pub own : All (λ reading. IsCond new reading.0.0) ends
  pub at : (c : List ℕ) → IsConfig old.arities c → readings_at new ends c ≡ (if old.has live c then read_on old line c start ∷ [] else [])
  pub alike : (a b : List ℕ) → IsConfig old.arities a → IsConfig old.arities b → old.has live a ≡ old.has live b → AreAlike old a b line → AreAlike new a b ends

-- each way says what reading the part comes to from its beginning
abbrev pub AreWays : Sets → Sets → List (Cond × Option Symbol) → ℕ → List Way → Type 0
AreWays old new line live ways = All (λ way. AreReadFrom old new line live (state_in way.start) way.ends.items) ways

-- the store made their conditions
abbrev pub OwnWays : Sets → List Way → Type 0
OwnWays s ways = All (λ way. All (λ reading. IsCond s reading.0.0) way.ends.items) ways

-- The configurations of a condition have these readings more, where that makes one at most.
pub record AreFollowed (old new : Sets) (cond : ℕ) (more before after : List (Cond × Option Reading)) : Type 0 where
  pub own : All (λ reading. IsCond new reading.0.0) after
  pub at : (c : List ℕ) → IsConfig old.arities c → (old.has cond c ≡ true → length (readings_at old before c ++ readings_at old more c) ≤ 1)
      → readings_at new after c ≡ (if old.has cond c then readings_at old before c ++ readings_at old more c else readings_at old before c)
  pub alike : (a b : List ℕ) → IsConfig old.arities a → IsConfig old.arities b → old.has cond a ≡ old.has cond b → AreAlike old a b more → AreAlike old a b before → AreAlike new a b after

-- each configuration, where one of the condition alone came so far, has read the part too
pub record AreJoined (old new : Sets) (back : List (Cond × Option Symbol)) (live : ℕ) (middle ends : List (Cond × Option Reading)) : Type 0 where
  pub own : All (λ reading. IsCond new reading.0.0) ends
  pub at : (c : List ℕ) → IsConfig old.arities c → length (readings_at old middle c) ≤ 1 → (old.has live c ≡ false → readings_at old middle c ≡ [])
      → readings_at new ends c ≡ map (option_and_then (read_on old back c)) (readings_at old middle c)
  pub alike : (a b : List ℕ) → IsConfig old.arities a → IsConfig old.arities b → old.has live a ≡ old.has live b → AreAlike old a b back → AreAlike old a b middle → AreAlike new a b ends
