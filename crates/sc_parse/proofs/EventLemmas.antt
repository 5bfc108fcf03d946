-- One event: it is a step of the run, and what it ends has ended at an element before the place.
use Rattle.std.proofs.Common.{◌≡◌, ℕ, zero, suc, ◌+◌, ◌<◌, ◌≤◌, ◌&&◌, Bool, true, false, List, [], ◌∷◌, ◌++◌, All, append_assoc, drop, get_or, length, map, slice_get, take, Option, Some, if◌then◌else◌, refl, sym, ap, ◌∙◌, subst, arith}
use Rattle.std.proofs.lemmas.List.{map-append, take_more}
use Rattle.std.proofs.lemmas.List.Elements.{All-append, All-cons, All-head, All-nil, All-tail}
use Rattle.std.proofs.lemmas.Option.{same_Some}
use Rattle.c11_parsing.proofs.Events.{all-left, all-row, run-stands, start-stands}
use Rattle.c11_parsing.specs.Classes.{Input, left_from, project}
use Rattle.c11_parsing.specs.Core as core
use Rattle.c11_parsing.specs.Core.{alone, after_event, Classified, classifies, CoreRun, CoreStep, filled, going, index_of, IsReached, IsStepped, Makes, merged, none, nothing, one, over, over_in, part, reduces, run_of, shifts, splits, Stands}
use Rattle.c11_parsing.specs.Trees.{Condition}
use Rattle.sc_fork.specs.Bundles.{AreApplied, event_by, events_of}
use Rattle.sc_fork.specs.Cores.{AreOver, AreRows, empty_row, event_of, full_row, IsApplied, IsCore, more_over, no_rows, none_over}
use Rattle.sc_fork.specs.declared.event.Event.{Event}
use Rattle.sc_fork.specs.declared.event.Kind.{Kind}
use Rattle.sc_fork.specs.declared.event.Event.TheVariants.{Split, Reduce, Shift, Classify, Merge}
use Rattle.sc_fork.specs.declared.piece.Ended.{Ended}
use Rattle.sc_fork.specs.Enabled.{Has}
use Rattle.sc_fork.specs.Seen.{IsNext, IsSeen, next_element, next_end, next_kind, next_unknown}
use Rattle.sc_fork.specs.View.{View}
use Rattle.sc_merge.specs.declared.subparser.Subparser.{Subparser}
use Rattle.sc_merge.specs.Phases.{phase_of}
use Rattle.sc_model.specs.Sets.{IsConfig}
use Rattle.sc_model.specs.Token.{Token}
use Rattle.sc_parse.specs.declared.steps.Steps.{Steps}
use Rattle.sc_parse.specs.Runs.{EndsBefore, HaveEndedBefore, IsBefore, IsRun, IsStepTo}
use Rattle.sc_tree.specs.Reads.{Tables}

-- ---- the tokens that are left

project-more : (c : List ℕ) (item : Condition × Token) (items : List (Condition × Token)) → length (project c items) ≤ length (project c (item ∷ items))
project-more c item items = by (item.0 c)
  where
    by : (b : Bool) → length (project c items) ≤ length (if b then item.1 ∷ project c items else project c items)
    by true = omega arith
    by false = omega arith

left-most : (c : List ℕ) (items : List (Condition × Token)) (n : ℕ) → length (project c (drop n items)) ≤ length (project c items)
left-most c [] zero = omega arith
left-most c [] (suc n) = omega arith
left-most c (item ∷ items) zero = omega arith
left-most c (item ∷ items) (suc n) = omega (arith, left-most c items n, project-more c item items)

-- behind an element of the configuration fewer are left
left-fewer : (c : List ℕ) (items : List (Condition × Token)) (i place : ℕ) (item : Condition × Token) → slice_get items i ≡ Some item → item.0 c ≡ true → i < place
    → length (project c (drop place items)) < length (project c (drop i items))
left-fewer c [] i place item at has low = absurd (cc)
left-fewer c (x ∷ items) zero zero item at has low = absurd (omega arith)
left-fewer c (x ∷ items) zero (suc place) item at has low =
    let first : x.0 c ≡ true = ap (λ (y : Condition × Token). y.0 c) (same_Some x item at) ∙ has in
    let here : project c (x ∷ items) ≡ x.1 ∷ project c items = ap (λ b. if b then x.1 ∷ project c items else project c items) first in
    omega (arith, left-most c items place, ap length here)
left-fewer c (x ∷ items) (suc i) zero item at has low = absurd (omega arith)
left-fewer c (x ∷ items) (suc i) (suc place) item at has low = left-fewer c items i place item at has (omega arith)

-- ---- what an event ends

-- what is seen to have ended has ended before the place
abbrev pub EndsAll : Input → ℕ → core.Ended → Type 0
EndsAll input place f = (c : List ℕ) → IsConfig input.arities c → f.condition c ≡ true → EndsBefore input place c

abbrev IsSeenBefore : List (Option core.Subparser) → ℕ → core.Event → Type 0
IsSeenBefore rows place (core.split n) = Unit {0}
IsSeenBefore rows place (core.merge n m) = Unit {0}
IsSeenBefore rows place (core.reduce n) = (t : core.Subparser) → slice_get rows n ≡ Some (Some t) → index_of t.phase < place
IsSeenBefore rows place (core.shift n) = (t : core.Subparser) → slice_get rows n ≡ Some (Some t) → index_of t.phase < place
IsSeenBefore rows place (core.classify n) = (t : core.Subparser) → slice_get rows n ≡ Some (Some t) → index_of t.phase < place

-- the element that comes next for a subparser is the configuration's
abbrev HasNexts : Input → List (Option core.Subparser) → Type 0
HasNexts input rows = (n : ℕ) (t : core.Subparser) → slice_get rows n ≡ Some (Some t) → (c : List ℕ) → IsConfig input.arities c → t.condition c ≡ true → IsNext input c t.phase

parts-go : (s : core.Subparser) (parts : List (ℕ × Condition)) → over_in (map (part s) parts) ≡ []
parts-go s [] = refl
parts-go s (p ∷ parts) = parts-go s parts

over-append : (xs ys : List core.Piece) → over_in (xs ++ ys) ≡ over_in xs ++ over_in ys
over-append [] ys = refl
over-append (going s ∷ xs) ys = over-append xs ys
over-append (over e ∷ xs) ys = ap (λ es. e ∷ es) (over-append xs ys)

and-left : (a b : Bool) → (a && b) ≡ true → a ≡ true
and-left true b h = refl
and-left false b h = h

at-between : (j i : ℕ) → core.at j ≡ core.between i → ⊥
at-between j i e = absurd (cc)

named-between : (j i : ℕ) → core.named j ≡ core.between i → ⊥
named-between j i e = absurd (cc)

module _ (input : Input) (place : ℕ) (within : place < length input.items + 1) where
  passed : (c : List ℕ) (phase : core.Phase) → IsNext input c phase → ((i : ℕ) → phase ≡ core.between i → ⊥) → index_of phase < place
      → length (left_from input place c) < length (left_from input (index_of phase) c)
  passed c _ (next_unknown i) looks low = absurd (looks i refl)
  passed c _ (next_element i item at has) looks low = left-fewer c input.items i place item at has low
  passed c _ next_end looks low = absurd (omega arith)
  passed c _ (next_kind i item at has) looks low = left-fewer c input.items i place item at has low

  -- more is left for the subparser than from the place on
  abbrev Passes : core.Subparser → Type 0
  Passes s = (c : List ℕ) → IsConfig input.arities c → s.condition c ≡ true → length (left_from input place c) < length (left_from input (index_of s.phase) c)

  stepped-ends : (s : core.Subparser) (phase : core.Phase) (test : List ℕ → Bool) (piece : core.Piece) → IsStepped input s phase test piece
      → ((c : List ℕ) → test c ≡ true → s.condition c ≡ true) → IsReached input (going s) → Passes s → All (EndsAll input place) (over_in (piece ∷ []))
  stepped-ends s phase test (going t) step own reached passes = All-nil (EndsAll input place)
  stepped-ends s phase test (over f) step own reached passes =
      All-cons (EndsAll input place) f []
      (λ c config has.
      let of : s.condition c ≡ true = own c (sym (step.has c config) ∙ has) in
      record { run = run_of input s c; reached = reached c config of; answer = f.answer c; last = step.stepped c config has; more = passes c config of })
      (All-nil (EndsAll input place))

  classified-ends : (s : core.Subparser) (j : ℕ) (test : List ℕ → Bool) (pieces : List core.Piece) → Classified input s j test pieces → IsReached input (going s) → Passes s
      → All (EndsAll input place) (over_in pieces)
  classified-ends s j test _ (none never) reached passes = All-nil (EndsAll input place)
  classified-ends s j test _ (one piece step) reached passes =
      stepped-ends s (core.between (j + 1)) (λ c. s.condition c && test c) piece step (λ c. and-left (s.condition c) (test c)) reached passes

  module _ (rows : List (Option core.Subparser)) (nexts : HasNexts input rows) where
    passes-row : (n : ℕ) (s : core.Subparser) → slice_get rows n ≡ Some (Some s) → ((i : ℕ) → s.phase ≡ core.between i → ⊥) → index_of s.phase < place → Passes s
    passes-row n s at looks low = λ c config has. passed c s.phase (nexts n s at c config has) looks low

    made-ends : (n : ℕ) (s : core.Subparser) (event : ℕ → core.Event) (pieces : List core.Piece) → slice_get rows n ≡ Some (Some s) → Makes input s event pieces → IsReached input (going s)
        → IsSeenBefore rows place (event n) → All (EndsAll input place) (over_in pieces)
    made-ends n s _ _ at (splits i parts phase are) reached before = subst (All (EndsAll input place)) (sym (parts-go s parts)) (All-nil (EndsAll input place))
    made-ends n s _ _ at (reduces j p piece phase action step) reached before =
        stepped-ends s _ s.condition piece step (λ c has. has) reached (passes-row n s at (λ i e. at-between j i (sym phase ∙ e)) (before s at))
    made-ends n s _ _ at (shifts j piece phase action step) reached before =
        stepped-ends s _ s.condition piece step (λ c has. has) reached (passes-row n s at (λ i e. at-between j i (sym phase ∙ e)) (before s at))
    made-ends n s _ _ at (classifies j item types variables phase found first second) reached before =
        let passes = passes-row n s at (λ i e. named-between j i (sym phase ∙ e)) (before s at) in
        subst (All (EndsAll input place)) (sym (over-append types variables))
        (All-append (EndsAll input place) (over_in types) (over_in variables) (classified-ends s j _ types first reached passes) (classified-ends s j _ variables second reached passes))

  -- what has ended after the event
  step-ends : (before after : core.Core) (event : core.Event) → CoreStep input before event after → Stands input before → HasNexts input before.rows → IsSeenBefore before.rows place event
      → All (EndsAll input place) before.ended → All (EndsAll input place) after.ended
  step-ends before _ _ (alone event n s pieces at makes) stands nexts low ended =
      let reached = all-row (IsReached input) before.rows n s at (all-left (IsReached input) (filled before.rows) (map over before.ended) stands.reached) in
      All-append (EndsAll input place) before.ended (over_in pieces) ended (made-ends before.rows nexts n s event pieces at makes reached low)
  step-ends before _ _ (merged n o s t u other at_s at_t phase states depth join) stands nexts low ended =
      All-append (EndsAll input place) before.ended [] ended (All-nil (EndsAll input place))

-- ---- one event more

run-more : (input : Input) (a b : core.Core) (events : List core.Event) (event : core.Event) (c : core.Core) → CoreRun input a events b → CoreStep input b event c
    → CoreRun input a (events ++ event ∷ []) c
run-more input a _ _ event c nothing step = after_event step nothing
run-more input a b _ event c (after_event {event = e} {next} {events} first rest) step = after_event first (run-more input next b events event c rest step)

pub events-more : (before : List Event) (event : Event) (after : List Event) → after ≡ before ++ event ∷ [] → map event_of after ≡ map event_of before ++ event_of event ∷ []
events-more before event after is = ap (map event_of) is ∙ map-append event_of before (event ∷ [])

-- ---- as it is kept

module _ (w : Tables) (input : Input) where
  pub row-kept : (rows : List (Option Subparser)) (others : List (Option core.Subparser)) (n : ℕ) (t : core.Subparser) → AreRows w input rows others → slice_get others n ≡ Some (Some t)
      → (s : Subparser) × (Has rows n s × IsSeen w input s t)
  row-kept _ _ n t no_rows at = absurd (cc)
  row-kept _ _ zero t (empty_row rows others rest) at = absurd (cc)
  row-kept _ _ (suc n) t (empty_row rows others rest) at = row-kept rows others n t rest at
  row-kept _ _ zero t (full_row s u rows others seen rest) at =
      let same : u ≡ t = cc in
      (s, (refl, subst (λ x. IsSeen w input s x) same seen))
  row-kept _ _ (suc n) t (full_row s u rows others seen rest) at = row-kept rows others n t rest at

  rows-next : (rows : List (Option Subparser)) (others : List (Option core.Subparser)) → AreRows w input rows others → HasNexts input others
  rows-next rows others are n t at c config has = ((row-kept rows others n t are at).1.1.each c config has).next

  row-before : (rows : List (Option Subparser)) (others : List (Option core.Subparser)) (place n : ℕ) → AreRows w input rows others
      → ((s : Subparser) → Has rows n s → index_of (phase_of s.phase) < place) → (t : core.Subparser) → slice_get others n ≡ Some (Some t) → index_of t.phase < place
  row-before rows others place n are before t at =
      let row = row-kept rows others n t are at in
      subst (λ phase. index_of phase < place) (sym row.1.1.phase) (before row.0 row.1.0)

  seen-before : (rows : List (Option Subparser)) (others : List (Option core.Subparser)) (place : ℕ) (event : Event) → AreRows w input rows others → IsBefore rows place event
      → IsSeenBefore others place (event_of event)
  seen-before rows others place (Split n) are before = tt
  seen-before rows others place (Merge n m) are before = tt
  seen-before rows others place (Reduce n) are before = row-before rows others place n are before
  seen-before rows others place (Shift n) are before = row-before rows others place n are before
  seen-before rows others place (Classify n) are before = row-before rows others place n are before

  pub ended-seen : (place : ℕ) (es : List Ended) (fs : List core.Ended) → AreOver w input es fs → HaveEndedBefore w.sets input place es → All (EndsAll input place) fs
  ended-seen place _ _ none_over ended = All-nil (EndsAll input place)
  ended-seen place _ _ (more_over e f es fs seen rest) ended =
      let P : Ended → Type 0 = λ x. (c : List ℕ) → IsConfig input.arities c → w.sets.has x.cond.0 c ≡ true → EndsBefore input place c in
      All-cons (EndsAll input place) f fs (λ c config has. All-head P e es ended c config (sym (seen.has c config) ∙ has)) (ended-seen place es fs rest (All-tail P e es ended))

  pub seen-ended : (place : ℕ) (es : List Ended) (fs : List core.Ended) → AreOver w input es fs → All (EndsAll input place) fs → HaveEndedBefore w.sets input place es
  seen-ended place _ _ none_over ended = All-nil (λ (x : Ended). (c : List ℕ) → IsConfig input.arities c → w.sets.has x.cond.0 c ≡ true → EndsBefore input place c)
  seen-ended place _ _ (more_over e f es fs seen rest) ended =
      All-cons (λ (x : Ended). (c : List ℕ) → IsConfig input.arities c → w.sets.has x.cond.0 c ≡ true → EndsBefore input place c) e es
      (λ c config has. All-head (EndsAll input place) f fs ended c config (seen.has c config ∙ has))
      (seen-ended place es fs rest (All-tail (EndsAll input place) f fs ended))

-- ---- what goes on

pub run-stands-seen : (w : Tables) (input : Input) (first : core.Core) (s : Steps) (run : IsRun w input first s) → Stands input run.last
run-stands-seen w input first s run = run-stands input first run.last (map event_of s.events.items) run.run (start-stands input first run.start)

-- what has ended after one event
pub view-ended : (w v : Tables) (input : Input) (before : View) (event : Event) (after : View) (made : List ℕ) (seen : core.Core) → IsCore w input before seen → Stands input seen
    → IsApplied w v input before event after made seen → (place : ℕ) → IsBefore before.subparsers place event → place < length input.items + 1 → HaveEndedBefore w.sets input place before.ended
    → HaveEndedBefore v.sets input place after.ended
view-ended w v input before event after made seen is stands applied place low within ended =
    seen-ended v input place after.ended applied.next.ended applied.seen_after.ended
    (step-ends input place within seen applied.next (event_of event) applied.step stands (rows-next w input before.subparsers seen.rows is.rows)
    (seen-before w input before.subparsers seen.rows place event is.rows low) (ended-seen w input place before.ended seen.ended is.ended ended))

module _ (w v : Tables) (input : Input) (first : core.Core) (s : Steps) (event : Event) (after : Steps) (made : List ℕ) (run : IsRun w input first s)
    (applied : IsApplied w v input s.core event after.core made run.last) where
  pub event-step : IsStepTo w v input s.core event after.core
  event-step = record { before = run.last; was = run.is; stands = run-stands-seen w input first s run; after = applied.next; step = applied.step; is = applied.seen_after }

  pub event-run : after.events.items ≡ s.events.items ++ event ∷ [] → IsRun v input first after
  event-run is = record {
    start = run.start;
    last = applied.next;
    run = subst (λ es. CoreRun input first es applied.next) (sym (events-more s.events.items event after.events.items is))
        (run-more input first run.last (map event_of s.events.items) (event_of event) applied.next run.run applied.step);
    is = applied.seen_after;
  }

  pub event-ended : (place : ℕ) → IsBefore s.core.subparsers place event → place < length input.items + 1 → HaveEndedBefore w.sets input place s.core.ended
      → HaveEndedBefore v.sets input place after.core.ended
  event-ended = view-ended w v input s.core event after.core made run.last run.is (run-stands-seen w input first s run) applied

run-append : (input : Input) (a b c : core.Core) (xs ys : List core.Event) → CoreRun input a xs b → CoreRun input b ys c → CoreRun input a (xs ++ ys) c
run-append input a _ c _ ys nothing run = run
run-append input a b c _ ys (after_event {event = e} {next} {events} first rest) run = after_event first (run-append input next b c events ys rest run)

pub events-append : (before events after : List Event) → after ≡ before ++ events → map event_of after ≡ map event_of before ++ map event_of events
events-append before events after is = ap (map event_of) is ∙ map-append event_of before events

-- a run is one still after several events
pub all-run : (w v : Tables) (input : Input) (first : core.Core) (s : Steps) (events : List Event) (after : Steps) (made : List ℕ) (run : IsRun w input first s)
    → AreApplied w v input s.core events after.core made run.last → after.events.items ≡ s.events.items ++ events → IsRun v input first after
all-run w v input first s events after made run applied is = record {
  start = run.start;
  last = applied.next;
  run = subst (λ es. CoreRun input first es applied.next) (sym (events-append s.events.items events after.events.items is))
      (run-append input first run.last applied.next (map event_of s.events.items) (map event_of events) run.run applied.run);
  is = applied.seen_after;
}

-- the event of one member more
pub event-pushed : (kind : Kind) (before now after : List Event) (members : List ℕ) (i : ℕ) (event : Event) → i < length members → now ≡ before ++ events_of kind (take i members)
    → event ≡ event_by kind (get_or members i 0) → after ≡ now ++ event ∷ [] → after ≡ before ++ events_of kind (take (i + 1) members)
event-pushed kind before now after members i event within was same is =
    let n = get_or members i 0 in
    let last : events_of kind (take i members) ++ event_by kind n ∷ [] ≡ events_of kind (take (i + 1) members) =
    sym (ap (map (event_by kind)) (take_more members i 0 within) ∙ map-append (event_by kind) (take i members) (n ∷ [])) in
    is ∙ ap (λ es. es ++ event ∷ []) was ∙ append_assoc before (events_of kind (take i members)) (event ∷ [])
    ∙ ap (λ es. before ++ es) (ap (λ e. events_of kind (take i members) ++ e ∷ []) same ∙ last)
