-- The parts that a subparser is split into.
use Rattle.std.proofs.Common.{◌≡◌, ℕ, zero, suc, ◌+◌, ◌<◌, ◌≤◌, ◌==◌, ◌&&◌, Bool, true, false, List, [], ◌∷◌, ◌++◌, All, length, map, Option, Some, None, refl, sym, ap, ◌∙◌, subst, arith, get_or, if◌then◌else◌}
use Rattle.std.specs.Global.{Vec}
use Rattle.std.specs.List.{Contains}
use Rattle.std.specs.Prelude.{slice_get, slice_set}
use Rattle.std.proofs.lemmas.Bool.{true≢false, eqb-true}
use Rattle.std.proofs.lemmas.List.{length-set}
use Rattle.std.proofs.lemmas.List.Elements.{All-cons, All-contains, All-head, All-nil, All-tail}
use Rattle.std.proofs.lemmas.List.FromFn.{get_or-range_with_len, length-range_with_len}
use Rattle.std.proofs.lemmas.Option.{none-some}
use Rattle.c11_parsing.proofs.Events.{all-left, all-row, count-append}
use Rattle.c11_parsing.specs.Classes as classes
use Rattle.c11_parsing.specs.Classes.{Class, Input, next_from}
use Rattle.c11_parsing.specs.Core as core
use Rattle.c11_parsing.specs.Core.{CoreStep, alone, merged, AreParts, condition_of, count, filled, frames, going, going_in, IsReached, part, pieces_of, run_of, Stands, with_pieces, without}
use Rattle.c11_parsing.specs.Trees.{Condition, Tree}
use Rattle.sc_fork.proofs.CoreLemmas.{count-row, row-seen, shown-levels}
use Rattle.sc_fork.proofs.StepLemmas.{same-length}
use Rattle.sc_fork.specs.View.{View, states_in, depth_of}
use Rattle.sc_fork.specs.declared.piece.Piece.{Piece}
use Rattle.sc_fork.specs.declared.source.Source.{Source}
use Rattle.sc_fork.specs.declared.event.Event.TheVariants.{Split}
use Rattle.sc_fork.specs.Enabled.{Has}
use Rattle.sc_fork.specs.Owns.{IsWithin}
use Rattle.sc_fork.specs.Pieces.{going_of, HasMade, IfGoing, LooksFrom, Makes, splits}
use Rattle.sc_fork.specs.Seen.{IsSeen}
use Rattle.sc_merge.specs.declared.subparser.Phase.{Phase}
use Rattle.sc_merge.specs.declared.subparser.Phase.TheVariants.{At, Between, Named}
use Rattle.sc_merge.specs.declared.subparser.Subparser.{Subparser}
use Rattle.sc_merge.specs.Merges.{tables_with}
use Rattle.sc_merge.specs.Phases.{phase_of}
use Rattle.sc_model.specs.Sets.{IsConfig, Sets}
use Rattle.sc_parse.proofs.MergeLemmas.{rows-length, same-subparser}
use Rattle.sc_parse.proofs.NumberLemmas.{each-append, each-kept, each-of, each-then, event-replaces, fewer-numbers, filled-most, made-each, numbers-after, replaces-then, times-append}
use Rattle.sc_parse.proofs.RowLemmas.{apart-kept, row-times}
use Rattle.sc_parse.proofs.RunLemmas.{goes-then, row-owned, waiting-kept}
use Rattle.sc_parse.specs.declared.rows.Rows.{Rows}
use Rattle.sc_parse.specs.declared.steps.Steps.{Steps}
use Rattle.sc_parse.specs.Filed.{AreFiled, HasNoneBefore, numbers_in}
use Rattle.sc_parse.specs.Numbers.{AreNumbers, Each, IsAt, IsBetween, Replaces, times}
use Rattle.sc_parse.specs.Runs.{AreWaiting, GoesOn, IsRun, IsStepTo, IsWaiting, OwnsSteps}
use Rattle.sc_tree.specs.Lines.{Line}
use Rattle.sc_tree.specs.Reads.{Tables}

-- ---- a split of a seen core

-- the parts of the subparser are put in its place
record IsSplit (input : Input) (seen : core.Core) (n : ℕ) (next : core.Core) : Type 0 where
  subparser : core.Subparser
  at : slice_get seen.rows n ≡ Some (Some subparser)
  from : ℕ
  phase : subparser.phase ≡ core.between from
  parts : List (ℕ × Condition)
  are : AreParts input subparser from parts
  is : next ≡ with_pieces (map (part subparser) parts) (without n seen)

is-made : (input : Input) (seen : core.Core) (n m : ℕ) (s : core.Subparser) (event : ℕ → core.Event) (pieces : List core.Piece) → slice_get seen.rows m ≡ Some (Some s)
    → core.Makes input s event pieces → event m ≡ core.split n → IsSplit input seen n (with_pieces pieces (without m seen))
is-made input seen n m s _ _ at (core.splits i parts phase are) same =
    let number : m ≡ n = cc in
    record {
      subparser = s;
      at = subst (λ k. slice_get seen.rows k ≡ Some (Some s)) number at;
      from = i;
      phase = phase;
      parts = parts;
      are = are;
      is = ap (λ k. with_pieces (map (part s) parts) (without k seen)) number;
    }
is-made input seen n m s _ _ at (core.reduces j p piece phase action stepped) same = absurd (cc)
is-made input seen n m s _ _ at (core.shifts j piece phase action stepped) same = absurd (cc)
is-made input seen n m s _ _ at (core.classifies j item types variables phase found first second) same = absurd (cc)

is-split : (input : Input) (seen : core.Core) (event : core.Event) (n : ℕ) (next : core.Core) → CoreStep input seen event next → event ≡ core.split n → IsSplit input seen n next
is-split input seen _ n _ (alone event m s pieces at makes) same = is-made input seen n m s event pieces at makes same
is-split input seen _ n _ (merged m o s t u apart at_m at_o phase states depth merges) same = absurd (cc)

-- ---- where a part is

record IsPartOf (s : core.Subparser) (parts : List (ℕ × Condition)) (t : core.Subparser) : Type 0 where
  of : ℕ × Condition
  member : Contains parts of
  is : t ≡ record s { condition = of.1; phase = core.at of.0 }

part-at : (s : core.Subparser) (parts : List (ℕ × Condition)) (k : ℕ) (t : core.Subparser) → slice_get (going_in (map (part s) parts)) k ≡ Some (Some t) → IsPartOf s parts t
part-at s [] k t at = absurd (none-some (Some t) at)
part-at s (p ∷ parts) zero t at =
    let q : core.Subparser = record s { condition = p.1; phase = core.at p.0 } in
    let same : t ≡ q = cc in
    record { of = p; member = (0, omega arith, refl); is = same }
part-at s (p ∷ parts) (suc k) t at =
    let found = part-at s parts k t at in
    record { of = found.of; member = (suc found.member.0, omega (arith, found.member.1), found.member.2); is = found.is }

behind-at : {A : Type 0} (xs ys : List A) (k n : ℕ) → n ≡ length xs + k → slice_get (xs ++ ys) n ≡ slice_get ys k
behind-at [] ys k n e = ap (slice_get ys) (let same : n ≡ k = omega (arith, e) in same)
behind-at (x ∷ xs) ys k zero e = absurd (omega (arith, e))
behind-at (x ∷ xs) ys k (suc n) e = behind-at xs ys k n (omega (arith, e))

-- ---- a configuration of a part

states-in-frames : (states : List ℕ) (trees : List (Option Tree)) → classes.states_of (frames states trees) ≡ states
states-in-frames [] trees = refl
states-in-frames (state ∷ states) [] = ap (λ xs. state ∷ xs) (states-in-frames states [])
states-in-frames (state ∷ states) (tree ∷ trees) = ap (λ xs. state ∷ xs) (states-in-frames states trees)

row-reached : (input : Input) (seen : core.Core) (n : ℕ) (s : core.Subparser) → slice_get seen.rows n ≡ Some (Some s) → Stands input seen → IsReached input (going s)
row-reached input seen n s at stands =
    all-row (IsReached input) seen.rows n s at (all-left (IsReached input) (filled seen.rows) (map core.over seen.ended) stands.reached)

row-live : (input : Input) (seen : core.Core) (n : ℕ) (s : core.Subparser) (c : List ℕ) → slice_get seen.rows n ≡ Some (Some s) → Stands input seen → IsConfig input.arities c
    → s.condition c ≡ true → input.live c ≡ true
row-live input seen n s c at stands config has = by (input.live c) refl (stands.counted c config)
  where
    by : (b : Bool) → input.live c ≡ b → count c (pieces_of seen) ≡ (if b then 1 else 0) → input.live c ≡ true
    by true live counted = live
    by false live counted = absurd (omega (arith, counted, count-append c (filled seen.rows) (map core.over seen.ended), count-row c seen.rows n s at has))

both : (a b : Bool) → (a && b) ≡ true → (a ≡ true) × (b ≡ true)
both true b e = (refl, e)
both false b e = absurd (true≢false (sym e))

at-of : (phase : Phase) (k : ℕ) → phase_of phase ≡ core.at k → phase ≡ At k
at-of (Between i) k e = absurd (cc)
at-of (At i) k e = ap At (let same : i ≡ k = cc in same)
at-of (Named i) k e = absurd (cc)

same-class : (a b : List ℕ) (m n d e : ℕ) → a ≡ b → m ≡ n → d ≡ e → ◌≡◌ {A = Class} (record { states = a; next = m; depth = d }) (record { states = b; next = n; depth = e })
same-class a b m n d e states next depth = cc

module _ (v : Tables) (input : Input) (seen : core.Core) (n place : ℕ) (stands : Stands input seen) (s : core.Subparser) (parts : List (ℕ × Condition))
    (at : slice_get seen.rows n ≡ Some (Some s)) (phase : s.phase ≡ core.between place) (are : AreParts input s place parts) where
  part-waits : (t : Subparser) (u : core.Subparser) → IsPartOf s parts u → IsSeen v input t u → IsWaiting v.sets input place t
  part-waits t u is is_seen = record {
    next = p.0;
    phase = at-of t.phase p.0 (sym is_seen.phase ∙ ap (λ (x : core.Subparser). x.phase) is.is);
    each = λ c config has.
        let inside : u.condition c ≡ true = is_seen.has c config ∙ has in
        let mine : p.1 c ≡ true = sym (ap (λ (x : core.Subparser). x.condition c) is.is) ∙ inside in
        let test = both (s.condition c) (next_from input place c == p.0) (sym (All-contains (λ (q : ℕ × Condition). core.Has input q.1 (λ d. s.condition d && next_from input place d == q.0)) parts p are.each is.member c config) ∙ mine) in
        record {
          run = run_of input s c;
          live = record {
            is_config = config;
            unrefused = row-live input seen n s c at stands config test.0;
            reached = row-reached input seen n s at stands c config test.0;
            phase = ap core.plain_phase phase;
            left = ap (λ (x : core.Phase). classes.left_from input (core.index_of x) c) phase;
          };
          class =
              let states = states-in-frames s.states (s.trees c) ∙ sym (ap (λ (x : core.Subparser). x.states) is.is) ∙ is_seen.states in
              let depth = sym (ap (λ (x : core.Subparser). length (x.levels c)) is.is) ∙ sym (shown-levels v.sets v.names c _ (u.levels c) (is_seen.each c config inside).shows.scopes) in
              same-class (classes.states_of (frames s.states (s.trees c))) (states_in t) (next_from input place c) p.0 (length (s.levels c)) (depth_of t) states
              (eqb-true (next_from input place c) p.0 test.1) depth;
        };
  }
    where
      p : ℕ × Condition
      p = is.of

-- the parts of a subparser between the elements wait at its place
pub parts-wait : (w v : Tables) (input : Input) (before after : View) (n place : ℕ) (numbers : List ℕ) → IsStepTo w v input before (Split n) after → HasMade before (Split n) after numbers
    → Each (IsBetween place) before.subparsers (n ∷ []) → Each (λ s. Unit {0}) after.subparsers numbers → AreWaiting v.sets input place after.subparsers numbers
parts-wait w v input before after n place numbers step has between there = λ k d below.
    let one = there k d below in
    let m = get_or numbers k d in
    let row = row-seen v input after.subparsers step.after.rows m one.0 step.is.rows one.1.0 in
    let before_rows = step.before.rows in
    let count = length (going_of has.pieces) in
    let number : m ≡ length before.subparsers + k =
    ap (λ ns. get_or ns k d) has.becomes.numbers
    ∙ get_or-range_with_len (length before.subparsers) count k d (omega (arith, below, ap length has.becomes.numbers, length-range_with_len (length before.subparsers) count))
    in
    let long = rows-length w input before.subparsers before_rows step.was.rows in
    let rest = going_in (map (part split.subparser) split.parts) in
    let behind = behind-at (slice_set before_rows n None) rest k m (omega (arith, number, long, length-set before_rows n None)) in
    let found = part-at split.subparser split.parts k row.other (sym behind ∙ sym (ap (λ (x : core.Core). slice_get x.rows m) split.is) ∙ row.at) in
    (one.0, (one.1.0, part-waits v input step.before n place step.stands split.subparser split.parts split.at phase (subst (λ i. AreParts input split.subparser i split.parts) from split.are) one.0 row.other found row.seen))
  where
    split : IsSplit input step.before n step.after
    split = is-split input step.before (core.split n) n step.after step.step refl

    phase : split.subparser.phase ≡ core.between place
    phase =
        let old = All-head (λ (m : ℕ). (t : Subparser) × (Has before.subparsers m t × IsBetween place t)) n [] between in
        let row = row-seen w input before.subparsers step.before.rows n old.0 step.was.rows old.1.0 in
        let same : row.other ≡ split.subparser = cc (row.at, split.at) in
        sym (ap (λ (x : core.Subparser). x.phase) same) ∙ row.seen.phase ∙ ap phase_of old.1.1

    from : split.from ≡ place
    from = let both_are : core.between split.from ≡ core.between place = sym split.phase ∙ phase in cc

-- the place of a subparser between the elements is one of the list or its end
pub place-within : (sets : Sets) (lines : List Line) (number place : ℕ) (s : Steps) (names files : List (List ℕ)) (input : Input) (first : core.Core) → OwnsSteps sets (length lines) s
    → IsRun (tables_with sets lines names files) input first s → Each (IsBetween place) s.core.subparsers (number ∷ []) → place < length input.items + 1
place-within sets lines number place s names files input first own run between =
    let one = All-head (λ (m : ℕ). (t : Subparser) × (Has s.core.subparsers m t × IsBetween place t)) number [] between in
    let within : place ≤ length s.core.source.list.now =
    subst (IsWithin (length s.core.source.list.now)) one.1.1 (row-owned sets (length lines) s number one.0 own one.1.0).within
    in
    omega (arith, within, same-length (tables_with sets lines names files) s.core.source input run.is.source)

-- ---- part by part

-- Parts of a subparser are in their rows, and the numbers of the others are left. Those that are
-- in the rows at first wait for the place of the subparser, and so do all then.
pub record ArePartlyFiled (old new : Sets) (lines added : List Line) (number : ℕ) (before : Rows) (s : Steps) (left : List ℕ) (after : Rows) (t : Steps) : Type 0 where
  pub goes_on : (place : ℕ) → GoesOn old new lines added place s t
  pub replaces : Replaces s.core.subparsers t.core.subparsers (number ∷ numbers_in before) (left ++ numbers_in after)
  pub filed : AreFiled t.core.subparsers after
  pub look : (i : ℕ) → Each (IsBetween i) s.core.subparsers (number ∷ []) → Each (LooksFrom i (length s.core.source.list.now)) t.core.subparsers left
  pub done : (i : ℕ) → Each (IsBetween i) s.core.subparsers (number ∷ []) → HasNoneBefore before i → HasNoneBefore after i
  pub long : length after.rows.items ≡ length before.rows.items
  pub limit : after.branches ≡ before.branches
  pub waiting : (names files : List (List ℕ)) (input : Input) (first : core.Core) (place : ℕ) → IsRun (tables_with old lines names files) input first s
      → Each (IsBetween place) s.core.subparsers (number ∷ []) → AreWaiting old input place s.core.subparsers (numbers_in before)
      → AreWaiting new input place t.core.subparsers (left ++ numbers_in after)

split-looks : (source : Source) (rows : List (Option Subparser)) (n i : ℕ) (pieces : List Piece) → Makes source rows (Split n) pieces → Each (IsBetween i) rows (n ∷ [])
    → All (IfGoing (LooksFrom i (length source.list.now))) pieces
split-looks source rows _ i _ (splits n from s pieces has phase looks before) each =
    let mine = All-head (λ (m : ℕ). (t : Subparser) × (Has rows m t × IsBetween i t)) n [] each in
    let same : mine.0 ≡ s = same-subparser rows n mine.0 s mine.1.0 has in
    let is : Between from ≡ Between i = sym phase ∙ sym (ap (λ (x : Subparser). x.phase) same) ∙ mine.1.1 in
    let number : from ≡ i = cc in
    subst (λ k. All (IfGoing (LooksFrom k (length source.list.now))) pieces) number looks

filed-kept : (old new : List (Option Subparser)) (gone made : List ℕ) (r : Rows) → Replaces old new gone made → ((n : ℕ) → 0 < times n (numbers_in r) → times n gone ≡ 0) → AreFiled old r
    → AreFiled new r
filed-kept old new gone made r replaces stay filed = record {
  at = λ k row at. each-kept (IsAt k) old new gone made row.items replaces (filed.at k row at) (within k row at);
  apart = λ k row at. apart-kept (IsAt k) old new gone made row.items replaces (filed.at k row at) (within k row at) (filed.apart k row at);
  count = filed.count;
  few = filed.few;
}
  where
    within : (k : ℕ) (row : Vec ℕ) → slice_get r.rows.items k ≡ Some row → (n : ℕ) → 0 < times n row.items → times n gone ≡ 0
    within k row at n some = stay n (omega (arith, some, row-times r.rows.items k n row at))

module _ (old new : Sets) (lines added : List Line) (number : ℕ) (r : Rows) (s t : Steps) (numbers : List ℕ) (own : OwnsSteps old (length lines) s)
    (are : AreNumbers s.core.subparsers (number ∷ numbers_in r)) (has : HasMade s.core (Split number) t.core numbers) (goes : (place : ℕ) → GoesOn old new lines added place s t)
    (step : (names files : List (List ℕ)) (input : Input) (first : core.Core) → IsRun (tables_with old lines names files) input first s
    → IsStepTo (tables_with old lines names files) (tables_with new added names files) input s.core (Split number) t.core) where
  one-replaced : Replaces s.core.subparsers t.core.subparsers (number ∷ []) numbers
  one-replaced = event-replaces s.core t.core (Split number) numbers has (fewer-numbers s.core.subparsers (number ∷ numbers_in r) (number ∷ []) are (λ n. omega arith))

  others-stay : (n : ℕ) → 0 < times n (numbers_in r) → times n (number ∷ []) ≡ 0
  others-stay n some = omega (arith, some, are.once n, filled-most s.core.subparsers n)

  looking : (i : ℕ) → Each (IsBetween i) s.core.subparsers (number ∷ []) → Each (LooksFrom i (length s.core.source.list.now)) t.core.subparsers numbers
  looking i between = made-each (LooksFrom i (length s.core.source.list.now)) s.core t.core (Split number) numbers has (split-looks s.core.source s.core.subparsers number i has.pieces has.makes between)

  pub parts-start : AreFiled s.core.subparsers r → ArePartlyFiled old new lines added number r s numbers r t
  parts-start filed = record {
    goes_on = goes;
    replaces = record {
      counts = λ n. omega (arith, one-replaced.counts n, times-append n numbers (numbers_in r));
      kept = λ n x has_x none. one-replaced.kept n x has_x (omega (arith, none));
    };
    filed = filed-kept s.core.subparsers t.core.subparsers (number ∷ []) numbers r one-replaced others-stay filed;
    look = looking;
    done = λ i between none. none;
    long = refl;
    limit = refl;
    waiting = λ names files input first place run between waits.
        each-append (IsWaiting new input place) t.core.subparsers numbers (numbers_in r)
        (parts-wait (tables_with old lines names files) (tables_with new added names files) input s.core t.core number place numbers (step names files input first run) has between
        (each-then (LooksFrom place (length s.core.source.list.now)) (λ x. Unit {0}) t.core.subparsers numbers (λ x looks. tt) (looking place between)))
        (waiting-kept old new lines added place s t names files input first (number ∷ []) numbers (numbers_in r) (goes place) own run one-replaced waits others-stay);
  }

module _ (old mid : Sets) (lines more : List Line) (number : ℕ) (before now : Rows) (s t : Steps) (next : ℕ) (left : List ℕ)
    (was : ArePartlyFiled old mid lines more number before s (next ∷ left) now t) (are : AreNumbers s.core.subparsers (number ∷ numbers_in before)) where
  pub left-numbers : AreNumbers t.core.subparsers ((next ∷ left) ++ numbers_in now)
  left-numbers = numbers-after s.core.subparsers t.core.subparsers (number ∷ numbers_in before) ((next ∷ left) ++ numbers_in now) was.replaces are

  pub next-numbers : AreNumbers t.core.subparsers (next ∷ numbers_in now)
  next-numbers = fewer-numbers t.core.subparsers ((next ∷ left) ++ numbers_in now) (next ∷ numbers_in now) left-numbers (λ n. omega (arith, times-append n left (numbers_in now)))

  left-stay : (n : ℕ) → 0 < times n left → times n (next ∷ numbers_in now) ≡ 0
  left-stay n some = omega (arith, some, left-numbers.once n, filled-most t.core.subparsers n, times-append n left (numbers_in now))

  pub next-looks : (i : ℕ) → Each (IsBetween i) s.core.subparsers (number ∷ [])
      → (x : Subparser) × (Has t.core.subparsers next x × LooksFrom i (length s.core.source.list.now) x)
  next-looks i between =
      All-head (λ (m : ℕ). (x : Subparser) × (Has t.core.subparsers m x × LooksFrom i (length s.core.source.list.now) x)) next left (was.look i between)

  pub next-waits : (names files : List (List ℕ)) (input : Input) (first : core.Core) (place : ℕ) → IsRun (tables_with old lines names files) input first s
      → Each (IsBetween place) s.core.subparsers (number ∷ []) → AreWaiting old input place s.core.subparsers (numbers_in before)
      → AreWaiting mid input place t.core.subparsers (next ∷ numbers_in now)
  next-waits names files input first place run between waits =
      each-of (IsWaiting mid input place) t.core.subparsers ((next ∷ left) ++ numbers_in now) (next ∷ numbers_in now) (was.waiting names files input first place run between waits)
      (λ n none. omega (arith, none, times-append n left (numbers_in now)))

  module _ (new : Sets) (added : List Line) (after : Rows) (u : Steps) (goes : (place : ℕ) → GoesOn mid new more added place t u)
      (replaces : Replaces t.core.subparsers u.core.subparsers (next ∷ numbers_in now) (numbers_in after)) where
    replaced : Replaces s.core.subparsers u.core.subparsers (number ∷ numbers_in before) (left ++ numbers_in after)
    replaced =
        replaces-then s.core.subparsers t.core.subparsers u.core.subparsers (number ∷ numbers_in before) ((next ∷ left) ++ numbers_in now) (next ∷ numbers_in now) (numbers_in after)
        (number ∷ numbers_in before) (left ++ numbers_in after) was.replaces replaces
        (λ n. omega (arith, times-append n left (numbers_in now), times-append n left (numbers_in after))) (λ n none. none)
        (λ n none zero. omega (arith, zero, times-append n left (numbers_in now)))

    pub parts-next : AreFiled u.core.subparsers after
        → ((i k : ℕ) → Each (IsAt k) t.core.subparsers (next ∷ []) → i ≤ k → HasNoneBefore now i → HasNoneBefore after i)
        → length after.rows.items ≡ length now.rows.items → after.branches ≡ now.branches
        → ((names files : List (List ℕ)) (input : Input) (first : core.Core) (place : ℕ) → IsRun (tables_with mid more names files) input first t
        → AreWaiting mid input place t.core.subparsers (next ∷ numbers_in now) → AreWaiting new input place u.core.subparsers (numbers_in after))
        → ArePartlyFiled old new lines added number before s left after u
    parts-next filed done long limit waiting = record {
      goes_on = λ place. goes-then old mid new lines more added place s t u (was.goes_on place) (goes place);
      replaces = replaced;
      filed = filed;
      look = λ i between.
          each-kept (LooksFrom i (length s.core.source.list.now)) t.core.subparsers u.core.subparsers (next ∷ numbers_in now) (numbers_in after) left replaces
          (All-tail (λ (m : ℕ). (x : Subparser) × (Has t.core.subparsers m x × LooksFrom i (length s.core.source.list.now) x)) next left (was.look i between)) left-stay;
      done = λ i between none.
          let one = next-looks i between in
          let P = λ (m : ℕ). (x : Subparser) × (Has t.core.subparsers m x × IsAt one.1.1.at x) in
          done i one.1.1.at (All-cons P next [] (one.0, (one.1.0, one.1.1.phase)) (All-nil P)) one.1.1.low (was.done i between none);
      long = long ∙ was.long;
      limit = limit ∙ was.limit;
      waiting = λ names files input first place run between waits.
          let run_then = (was.goes_on place).run names files input first run in
          let all = was.waiting names files input first place run between waits in
          each-append (IsWaiting new input place) u.core.subparsers left (numbers_in after)
          (waiting-kept mid new more added place t u names files input first (next ∷ numbers_in now) (numbers_in after) left (goes place) (was.goes_on place).own run_then replaces
          (each-of (IsWaiting mid input place) t.core.subparsers ((next ∷ left) ++ numbers_in now) left all (λ n none. omega (arith, none, times-append n left (numbers_in now)))) left-stay)
          (waiting names files input first place run_then (next-waits names files input first place run between waits));
    }
