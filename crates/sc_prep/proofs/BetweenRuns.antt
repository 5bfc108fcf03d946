-- Where the run of a machine was closed.
use Rattle.std.proofs.Common.{◌≡◌, ◌&&◌, Bool, true, false, List, [], Option, Some, None, Result, Ok, Err, if◌then◌else◌, refl, ap, ◌∙◌, IfOk, ℕ, is_none}
use Rattle.sc_model.specs.Token.{Place, Token}
use Rattle.sc_prep.proofs.Terms.{Carries, Closes, Context, Directive, Enters, Fault, File, Includes, IsBetweenRuns, Line, Machine, State, acts, arriving, back, badly_nested, changed, closed, closing_run, entered, included, left_out, missing, no_header, not_changed, not_expanded, not_numbered, numbered, put_out, refused, result_map, stopped_inside, too_deep, too_large, unended, walked}

-- ---- the run of a state

abbrev pub LeavesNoRun : Result State Fault → Type 0
LeavesNoRun r = IfOk r (λ s. s.run ≡ [])

closes-run : {s : State} {r : Result State Fault} → Closes s r → LeavesNoRun r
closes-run (closed output is) = refl
closes-run (refused fault is) = tt

-- the last run of a file is closed
pub enters-run : {x : Context} {f : File} {s : State} {r : Result State Fault} → Enters x f s r → LeavesNoRun r
enters-run (too_large much) = tt
enters-run (unended position few lexed) = tt
enters-run (badly_nested tokens place few lexed tree) = tt
enters-run (stopped_inside tokens group fault few lexed tree walks) = tt
enters-run (walked tokens group t few lexed tree walks closes) = closes-run closes

includes-run : {x : Context} {names : List (List ℕ)} {asked : Place} {s : State} {r : Result State Fault} → Includes x names asked s r → s.run ≡ [] → LeavesNoRun r
includes-run (missing none) ended = tt
includes-run (left_out f found once) ended = ended
includes-run (entered f found new enters) ended = enters-run enters

back-run : (s : State) (r : Result State Fault) → LeavesNoRun r → LeavesNoRun (result_map (back s) r)
back-run s (Ok t) is = is
back-run s (Err fault) is = tt

-- a directive gathers nothing
pub carries-run : {x : Context} {l : Line} {s : State} {d : Directive} {r : Result State Fault} → Carries x l s d r → s.run ≡ [] → LeavesNoRun r
carries-run (changed macros changes) none = none
carries-run (not_changed cause fault changes at) none = tt
carries-run (not_expanded fault is says) none = tt
carries-run (numbered ts says is) none = none
carries-run (not_numbered ts fault says is at) none = tt
carries-run (no_header ts cause fault says is at) none = tt
carries-run (too_deep ts header fault says is deep at) none = tt
carries-run {s = s} (included {r = r} ts header hash says is deep at does) none = back-run s r (includes-run does none)

-- ---- the run of a machine

-- a machine that was refused does nothing
pub refused-acts : (active : Bool) (f : Option Fault) (fault : Fault) → (active && is_none (if active && is_none f then Some fault else f)) ≡ true → ⊥
refused-acts true None fault e = cc
refused-acts true (Some f) fault e = cc
refused-acts false f fault e = cc

pub closing-between : (m : Machine) (r : Result (List Token) Fault) → IsBetweenRuns (closing_run m r)
closing-between m (Ok output) acting = ap (λ b. (if b then put_out m.state output else m.state).run) acting
closing-between m (Err fault) acting = absurd (refused-acts m.active m.fault fault acting)

pub arriving-between : (m : Machine) (r : Result State Fault) → (acts m ≡ true → LeavesNoRun r) → IsBetweenRuns (arriving m r)
arriving-between m (Ok s) leaves acting = ap (λ b. (if b then s else m.state).run) acting ∙ leaves acting
arriving-between m (Err fault) leaves acting = absurd (refused-acts m.active m.fault fault acting)
