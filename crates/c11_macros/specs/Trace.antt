-- What an expansion used: the names that it looked up, the tokens that it took from its list, and
-- its steps.
use Rattle.std.specs.Prelude.{◌≡◌, ℕ, suc, ◌+◌, List, [], ◌∷◌, ◌++◌, length, Result, if◌then◌else◌}
use Rattle.c11_macros.specs.Expansion.{is_looked_up, Expands, empty, stay, object, unterminated, miscounted, call, Each, none, next, stops, Rescans, on, refused}
use Rattle.c11_macros.specs.Hidden.{Hidden, Provenance, Failure}
use Rattle.c11_macros.specs.Macros.{Macros}

-- What was used, in order. A number says how many tokens of the list are left.
pub data Use : Type 0 where
  -- the next of so many tokens is looked at
  stands : ℕ → Use
  -- these names are looked up
  looks_up : List (List ℕ) → Use
  -- a call is taken, and so many tokens follow it
  takes : ℕ → Use
  -- there is no answer
  fails : Use

pub record Trace : Type 0 where
  pub steps : ℕ
  pub looked_up : List (List ℕ)
  pub uses : List Use

abbrev pub no_trace : Trace
no_trace = record { steps = 0; looked_up = []; uses = [] }

abbrev pub failing : Trace
failing = record no_trace { uses = fails ∷ [] }

-- An argument's trace with one step more. What it stood at and took is its own list's.
abbrev pub after_step : Trace → Trace
after_step x = record { steps = x.steps + 1; looked_up = x.looked_up; uses = looks_up x.looked_up ∷ [] }

abbrev pub both : Trace → Trace → Trace
both x y = record { steps = x.steps + y.steps; looked_up = x.looked_up ++ y.looked_up; uses = x.uses ++ y.uses }

-- the name of a token is looked up where it is one that is not hidden
abbrev pub looked_up_at : {P : Type 0} → Hidden P → List (List ℕ)
looked_up_at t = if is_looked_up t then t.spelling ∷ [] else []

-- the token was looked at, with the rest behind it
abbrev pub taking : {P : Type 0} → Hidden P → List (Hidden P) → Trace
taking t rest = record { steps = 1; looked_up = looked_up_at t; uses = stands (suc (length rest)) ∷ looks_up (looked_up_at t) ∷ [] }

-- a call was taken that these tokens follow
abbrev pub taking_call : {P : Type 0} → List (Hidden P) → Trace
taking_call after = record no_trace { uses = takes (length after) ∷ [] }

abbrev mutual
  pub trace : {P : Type 0} {provenance : Provenance P} {macros : Macros} {ts : List (Hidden P)} {r : Result (List (Hidden P)) (Failure P)} → Expands provenance macros ts r → Trace
  trace empty = no_trace
  trace (stay {t} {rest} is d) = both (taking t rest) (trace d)
  trace (object {t} {rest} d is more) = both (taking t rest) (trace_rescan more)
  trace (unterminated {t} {rest} is) = both (taking t rest) failing
  trace (miscounted {t} {rest} after is) = both (taking t rest) (both (taking_call after) failing)
  trace (call {t} {rest} d arguments close after results is each more) = both (both (taking t rest) (taking_call after)) (both (trace_each each) (trace_rescan more))

  pub trace_each : {P : Type 0} {provenance : Provenance P} {macros : Macros} {asks : List (ℕ × List (Hidden P))} {lists : List (List (Hidden P))} {r : Result (List (List (Hidden P))) (Failure P)} → Each provenance macros asks lists r → Trace
  trace_each none = no_trace
  trace_each (next list first others) = both (after_step (trace first)) (trace_each others)
  trace_each (stops failure first) = after_step (trace first)

  pub trace_rescan : {P : Type 0} {provenance : Provenance P} {macros : Macros} {made : Result (List (Hidden P)) (Failure P)} {rest : List (Hidden P)} {r : Result (List (Hidden P)) (Failure P)} → Rescans provenance macros made rest r → Trace
  trace_rescan (on more) = trace more
  trace_rescan (refused failure) = failing

-- the same answer by the same trace
pub record Same {A : Type 0} (r s : A) (x y : Trace) : Type 0 where
  pub answer : r ≡ s
  pub trace : x ≡ y

-- both tables define each of these names alike, or not at all
abbrev pub Agree : Macros → Macros → List (List ℕ) → Type 0
Agree one two [] = Unit {0}
Agree one two (name ∷ names) = (one name ≡ two name) × Agree one two names

-- the list expands to this answer by this trace
pub record ExpandsBy {P : Type 0} (provenance : Provenance P) (macros : Macros) (ts : List (Hidden P)) (r : Result (List (Hidden P)) (Failure P)) (x : Trace) : Type 0 where
  pub expands : Expands provenance macros ts r
  pub by : trace expands ≡ x
