-- How far the call of a name was read, for all configurations at once.
use Rattle.std.specs.Prelude.{ℕ, ◌+◌, ◌-◌, ◌==◌, ◌≤◌, ◌&&◌, ◌||◌, Bool, true, false, List, [], ◌∷◌, All, codes, if◌then◌else◌}
use Rattle.sc_base.specs.declared.id.Cond.{Cond}
use Rattle.sc_base.specs.declared.token.Token.{Token}
use Rattle.sc_base.specs.Seen.{text_at}
use Rattle.sc_hoist.specs.Calls.{CallEnd, closed, still, bare, alone, is_end}
use Rattle.sc_hoist.specs.declared.state.Role.{Role}
use Rattle.sc_hoist.specs.declared.state.Role.TheVariants.{Opening, Closing, Other}
use Rattle.sc_hoist.specs.declared.state.State.{State}
use Rattle.sc_hoist.specs.declared.state.State.TheVariants.{Alone, Inside, Closed, Bare}
use Rattle.sc_hoist.specs.declared.state.Test.{Test}
use Rattle.sc_hoist.specs.declared.state.Test.TheVariants.{IsClosed, IsStill, IsBare, IsAlone, IsNoCall, Takes}
use Rattle.sc_hoist.specs.declared.states.Entry.{Entry}
use Rattle.sc_model.specs.Bytes.{same_bytes}
use Rattle.sc_model.specs.Sets.{Sets, IsCond}

abbrev pub role_in : List ℕ → Role
role_in text = if same_bytes text (codes "(") then Opening else (if same_bytes text (codes ")") then Closing else Other)

abbrev pub step : Role → State → State
step Opening Alone = Inside 0
step Closing Alone = Bare
step Other Alone = Bare
step Opening (Inside depth) = Inside (depth + 1)
step Closing (Inside depth) = if depth == 0 then Closed else Inside (depth - 1)
step Other (Inside depth) = Inside depth
step role Closed = Closed
step role Bare = Bare

-- the next token is one of the call
abbrev pub takes : Role → State → Bool
takes Opening Alone = true
takes Closing Alone = false
takes Other Alone = false
takes role (Inside depth) = true
takes role Closed = false
takes role Bare = false

abbrev pub end_in : State → CallEnd
end_in Alone = alone
end_in (Inside depth) = still
end_in Closed = closed
end_in Bare = bare

-- no token that follows changes it
abbrev pub is_final : State → Bool
is_final Alone = false
is_final (Inside depth) = false
is_final Closed = true
is_final Bare = true

abbrev pub depth_of : State → ℕ
depth_of Alone = 0
depth_of (Inside depth) = depth
depth_of Closed = 0
depth_of Bare = 0

abbrev pub passes : Test → State → Bool
passes IsClosed state = is_end closed (end_in state)
passes IsStill state = is_end still (end_in state)
passes IsBare state = is_end bare (end_in state)
passes IsAlone state = is_end alone (end_in state)
passes IsNoCall state = is_end bare (end_in state) || is_end alone (end_in state)
passes (Takes role) state = takes role state

-- the state once the items were read that the configuration has
abbrev pub state_after : Sets → List (List ℕ) → List (Cond × Token) → List ℕ → State → State
state_after s names [] c state = state
state_after s names (item ∷ items) c state =
    state_after s names items c (if s.has item.0.0 c then step (role_in (text_at names item.1.spelling.0)) state else state)

-- the configuration is in a state that passes the test
abbrev pub in_states : Sets → List Entry → (State → Bool) → List ℕ → Bool
in_states s [] test c = false
in_states s (entry ∷ entries) test c = (test entry.state && s.has entry.cond.0 c) || in_states s entries test c

-- the indexes, counted from n, of the items of the call that the configuration has
abbrev pub taken_from : Sets → List (List ℕ) → State → ℕ → List (Cond × Token) → List ℕ → List ℕ
taken_from s names state n [] c = []
taken_from s names state n (item ∷ items) c =
    if s.has item.0.0 c && takes (role_in (text_at names item.1.spelling.0)) state
    then n ∷ taken_from s names (if s.has item.0.0 c then step (role_in (text_at names item.1.spelling.0)) state else state) (n + 1) items c
    else taken_from s names (if s.has item.0.0 c then step (role_in (text_at names item.1.spelling.0)) state else state) (n + 1) items c

pub record AreEntries (s : Sets) (entries : List Entry) : Type 0 where
  pub own : All (λ entry. IsCond s entry.cond.0) entries

-- no state is deeper
pub record AreShallow (bound : ℕ) (entries : List Entry) : Type 0 where
  pub each : All (λ entry. depth_of entry.state ≤ bound) entries
