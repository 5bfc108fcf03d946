-- From the first element to the end.
use Rattle.std.proofs.Common.{◌≡◌, ℕ, zero, suc, max, ◌+◌, ◌<◌, ◌≤◌, true, false, List, [], ◌∷◌, All, length, map, slice_get, Option, Some, None, refl, sym, ap, ◌∙◌, subst, arith, inl, inr}
use Rattle.std.proofs.lemmas.Bool.Decides.{eqb_tells}
use Rattle.std.proofs.lemmas.Int.{clamps}
use Rattle.std.proofs.lemmas.List.{length-map}
use Rattle.std.proofs.lemmas.List.Elements.{All-cons, All-nil}
use Rattle.std.proofs.lemmas.Option.{slice_get_within}
use Rattle.std.specs.Prelude.{IfSome, is_some}
use Rattle.std.specs.Global.{Vec}
use Rattle.c11_parsing.specs.Classes.{Input}
use Rattle.c11_parsing.specs.Core as core
use Rattle.c11_parsing.specs.Trees.{Condition}
use Rattle.sc_base.specs.declared.id.Cond.{Cond}
use Rattle.sc_base.specs.declared.token.Token as base
use Rattle.sc_base.specs.Seen.{seen}
use Rattle.sc_fork.specs.Cores.{event_of, IsFinished}
use Rattle.sc_fork.specs.declared.piece.Ended.{Ended}
use Rattle.sc_fork.specs.declared.source.Source.{Source}
use Rattle.sc_fork.specs.Enabled.{Has, HasNone}
use Rattle.sc_fork.specs.Seen.{IsInput}
use Rattle.sc_merge.specs.declared.keys.Key.{Key}
use Rattle.sc_merge.specs.declared.subparser.Subparser.{Subparser}
use Rattle.sc_merge.specs.Keys.{IsKeyOf}
use Rattle.sc_merge.specs.Merges.{tables_with}
use Rattle.sc_model.specs.Sets.{IsConfig, Sets}
use Rattle.sc_model.specs.Token as plain
use Rattle.sc_parse.proofs.NumberLemmas.{filled, has-filled, one_if}
use Rattle.sc_parse.proofs.PlaceLemmas.{classes-at, counted-all, counted-more, counted-none, place-at}
use Rattle.sc_parse.proofs.RowLemmas.{IsEmpty, no-numbers}
use Rattle.sc_parse.proofs.RunLemmas.{goes-nowhere, goes-then}
use Rattle.sc_parse.specs.declared.rows.Rows.{Rows}
use Rattle.sc_parse.specs.declared.steps.Steps.{Steps}
use Rattle.sc_parse.specs.Filed.{AreAllFiled, AreFiled, HasNoneBefore, numbers_in}
use Rattle.sc_parse.specs.Numbers.{Each, filled_at, IsBetween, Replaces, times}
use Rattle.sc_parse.specs.Runs.{AreWaiting, EndsBefore, GoesOn, HaveEndedBefore, IsRun, IsWaiting, OwnsSteps}
use Rattle.sc_parse.specs.MostClasses.{HasMostClasses}
use Rattle.sc_parse.specs.Places.{HasPlace}
use Rattle.sc_parse.specs.Turns.{HasBegun, HasMostBefore, IsAtPlace}
use Rattle.sc_tree.specs.Lines.{Line, OwnsBranches}
use Rattle.sc_tree.specs.Reads.{Tables}

-- the elements before this one are done, and the most classes at one of their places are so many
pub record HasComeTo (old new : Sets) (lines added : List Line) (elements branches i classes : ℕ) (before after : Steps) (r : Rows) : Type 0 where
  pub goes : GoesOn old new lines added (elements + 1) before after
  pub filed : AreAllFiled after.core r i
  pub limit : r.branches ≡ branches
  pub place : (names files : List (List ℕ)) (input : Input) (first : core.Core) → IsRun (tables_with old lines names files) input first before
      → IsAtPlace (tables_with new added names files) input first after r i
  pub most : (names files : List (List ℕ)) (input : Input) (first : core.Core) → IsRun (tables_with old lines names files) input first before → HasMostBefore input i classes
  pub few : classes ≤ branches

-- what is parsed has as many elements as the list
pub input-long : (w : Tables) (source : Source) (input : Input) → IsInput w source input → length input.items ≡ length source.list.now
input-long w source input is =
    sym (length-map input.items (λ (item : Condition × plain.Token). item.1)) ∙ ap length is.tokens ∙ length-map source.list.now (λ (item : Cond × base.Token). seen w.names w.files item.1)

-- no place is behind the end
pub goes-end : (old new : Sets) (lines added : List Line) (place elements : ℕ) (s t : Steps) → GoesOn old new lines added place s t → elements ≡ length s.core.source.list.now
    → GoesOn old new lines added (elements + 1) s t
goes-end old new lines added place elements s t goes long =
    record {
      keeps = goes.keeps;
      grows = goes.grows;
      branches = goes.branches;
      own = goes.own;
      source = goes.source;
      leaves = goes.leaves;
      run = goes.run;
      ended = λ names files input first run within ended.
          let all = input-long (tables_with old lines names files) s.core.source input run.is.source in
          absurd (omega (arith, within, all, long));
      sound = goes.sound;
      more = goes.more;
      events = goes.events;
    }

-- ---- the start

-- the first subparser, where there is one
pub first-there : (c : Steps) (r : Option (Cond × Key)) → IfSome r (λ found. (s : Subparser) × (Has c.core.subparsers 0 s × (found.0 ≡ s.cond) × IsKeyOf found.1 s)) → true ≡ is_some r
    → (s : Subparser) × Has c.core.subparsers 0 s
first-there c None found there = absurd (cc)
first-there c (Some x) found there = (found.0, found.1.0)

pub first-none : (r : Option (Cond × Key)) → false ≡ is_some r → r ≡ None
first-none None there = refl
first-none (Some x) there = absurd (cc)

pub first-between : (c : Steps) → HasBegun c.core → (s : Subparser) → Has c.core.subparsers 0 s → Each (IsBetween 0) c.core.subparsers (0 ∷ [])
first-between c begun s has = All-cons (λ n. (t : Subparser) × (Has c.core.subparsers n t × IsBetween 0 t)) 0 [] (s, (has, (begun.rows 0 s has).1)) (All-nil (λ n. (t : Subparser) × (Has c.core.subparsers n t × IsBetween 0 t)))

none-of : (a : ℕ) → (0 < a → ⊥) → a ≡ 0
none-of zero not = refl
none-of (suc a) not = absurd (not (omega arith))

filled-none : (rows : List (Option Subparser)) (n : ℕ) → HasNone rows n → filled_at rows n ≡ 0
filled-none rows n none = none-of (filled_at rows n) (λ full. let found = has-filled rows n full in none found.0 found.1)

first-filled : (c : Steps) → HasBegun c.core → (s : Subparser) → Has c.core.subparsers 0 s → (n : ℕ) → filled_at c.core.subparsers n ≡ times n (0 ∷ [])
first-filled c begun s has n = elim (eqb_tells n 0) [
  | inl same ↦
      let full : filled_at c.core.subparsers n ≡ 1 = ap (filled_at c.core.subparsers) same.1 ∙ filled c.core.subparsers 0 s has in
      omega (arith, full, ap one_if same.0)
  | inr other ↦
      let none : filled_at c.core.subparsers n ≡ 0 = filled-none c.core.subparsers n (λ t there. other.1 (begun.rows n t there).0) in
      omega (arith, none, ap one_if other.0)
]

pub no-waiting : (sets : Sets) (input : Input) (i : ℕ) (rows : List (Option Subparser)) (numbers : List ℕ) → numbers ≡ [] → AreWaiting sets input i rows numbers
no-waiting sets input i rows numbers none =
    subst (AreWaiting sets input i rows) (sym none) (All-nil (λ n. (t : Subparser) × (Has rows n t × IsWaiting sets input i t)))

no-ended : (sets : Sets) (input : Input) (i : ℕ) (c : Steps) → HasBegun c.core → HaveEndedBefore sets input i c.core.ended
no-ended sets input i c begun =
    subst (HaveEndedBefore sets input i) (sym begun.none) (All-nil (λ (e : Ended). (d : List ℕ) → IsConfig input.arities d → sets.has e.cond.0 d ≡ true → EndsBefore input i d))

none-before : (r : Rows) → HasNoneBefore r 0
none-before r = record { empty = λ k row low at. absurd (omega (arith, low)) }

-- at the first place the events so far suffice
at-start : (w : Tables) (input : Input) (first : core.Core) (s : Steps) (r : Rows) → IsRun w input first s → AreAllFiled s.core r 0
    → AreWaiting w.sets input 0 s.core.subparsers (numbers_in r) → HaveEndedBefore w.sets input 0 s.core.ended → IsAtPlace w input first s r 0
at-start w input first s r run filed waits ended = record {
  run = run;
  waiting = λ within. waits;
  ended = λ within. ended;
  places = λ k low within.
      let same : 0 ≡ k = omega (arith, low) in
      subst (HasPlace input first (map event_of s.events.items)) same (place-at w input first s r 0 0 run filed waits ended);
}

-- there is no first subparser
pub come-empty : (sets : Sets) (lines : List Line) (elements branches : ℕ) (s : Steps) (r : Rows) → OwnsSteps sets (length lines) s → OwnsBranches sets lines
    → elements ≡ length s.core.source.list.now → HasBegun s.core → HasNone s.core.subparsers 0 → numbers_in r ≡ [] → AreFiled s.core.subparsers r → length r.rows.items ≡ elements + 1
    → r.branches ≡ branches → HasComeTo sets sets lines lines elements branches 0 0 s s r
come-empty sets lines elements branches s r own owns long begun none empty filed rows limit =
    let all : AreAllFiled s.core r 0 = record {
      filed = filed;
      all = λ n.
          let zero_times : times n (numbers_in r) ≡ 0 = ap (times n) empty in
          zero_times ∙ sym (filled-none s.core.subparsers n (λ t there. none t (subst (λ m. Has s.core.subparsers m t) (begun.rows n t there).0 there)));
      done = none-before r;
      long = rows ∙ ap (λ n. n + 1) long;
    } in
    record {
      goes = goes-nowhere sets lines (elements + 1) s own owns;
      filed = all;
      limit = limit;
      place = λ names files input first run.
          let w = tables_with sets lines names files in
          at-start w input first s r run all (no-waiting sets input 0 s.core.subparsers (numbers_in r) empty) (no-ended sets input 0 s begun);
      most = λ names files input first run. counted-none input;
      few = omega arith;
    }

-- the first subparser was parted
pub come-parted : (old new : Sets) (lines added : List Line) (elements branches : ℕ) (s t : Steps) (r q : Rows) (sub : Subparser) → elements ≡ length s.core.source.list.now → HasBegun s.core
    → Has s.core.subparsers 0 sub → numbers_in r ≡ [] → length r.rows.items ≡ elements + 1 → r.branches ≡ branches → ((place : ℕ) → GoesOn old new lines added place s t)
    → Replaces s.core.subparsers t.core.subparsers (0 ∷ numbers_in r) (numbers_in q) → AreFiled t.core.subparsers q → length q.rows.items ≡ length r.rows.items → q.branches ≡ r.branches
    → ((names files : List (List ℕ)) (input : Input) (first : core.Core) (place : ℕ) → IsRun (tables_with old lines names files) input first s
    → Each (IsBetween place) s.core.subparsers (0 ∷ []) → AreWaiting old input place s.core.subparsers (numbers_in r) → AreWaiting new input place t.core.subparsers (numbers_in q))
    → HasComeTo old new lines added elements branches 0 0 s t q
come-parted old new lines added elements branches s t r q sub long begun has empty rows limit goes replaces filed same_long same_limit waits =
    let all : AreAllFiled t.core q 0 = record {
      filed = filed;
      all = λ n.
          let one : times n (0 ∷ numbers_in r) ≡ times n (0 ∷ []) = ap (λ ns. times n (0 ∷ ns)) empty in
          omega (arith, replaces.counts n, one, first-filled s begun sub has n);
      done = none-before q;
      long = same_long ∙ rows ∙ ap (λ n. n + 1) (long ∙ ap (λ (x : Source). length x.list.now) (sym (goes 0).source));
    } in
    record {
      goes = goes (elements + 1);
      filed = all;
      limit = same_limit ∙ limit;
      place = λ names files input first run.
          at-start (tables_with new added names files) input first t q ((goes 0).run names files input first run) all
          (waits names files input first 0 run (first-between s begun sub has) (no-waiting old input 0 s.core.subparsers (numbers_in r) empty))
          ((goes 0).ended names files input first run (omega arith) (no-ended old input 0 s begun));
      most = λ names files input first run. counted-none input;
      few = omega arith;
    }

-- ---- one element more

pub come-on : (old mid new : Sets) (one two three : List Line) (elements branches i classes : ℕ) (s t u : Steps) (r q : Rows) → elements ≡ length s.core.source.list.now → i < elements + 1
    → HasComeTo old mid one two elements branches i classes s t r → GoesOn mid new two three (i + 1) t u → AreAllFiled u.core q (i + 1) → q.branches ≡ r.branches
    → ((names files : List (List ℕ)) (input : Input) (first : core.Core) → IsAtPlace (tables_with mid two names files) input first t r i
    → IsAtPlace (tables_with new three names files) input first u q (i + 1))
    → HasComeTo old new one three elements branches (i + 1) (max classes r.count) s u q
come-on old mid new one two three elements branches i classes s t u r q long low come goes filed limit place = record {
  goes =
      goes-then old mid new one two three (elements + 1) s t u come.goes
      (goes-end mid new two three (i + 1) elements t u goes (long ∙ ap (λ (x : Source). length x.list.now) (sym come.goes.source)));
  filed = filed;
  limit = limit ∙ come.limit;
  place = λ names files input first run. place names files input first (come.place names files input first run);
  most = λ names files input first run.
      let all = input-long (tables_with old one names files) s.core.source input run.is.source in
      let within : i < length input.items + 1 = omega (arith, low, long, all) in
      let at = come.place names files input first run in
      counted-more input i classes r.count within (come.most names files input first run)
      (classes-at (tables_with mid two names files) input first t r i i at.run come.filed (at.waiting within) (at.ended within));
  few = omega (arith, clamps, come.few, come.limit, come.filed.filed.few);
}

-- ---- the end

none-all : (rows : List (Option Subparser)) → ((n : ℕ) → filled_at rows n ≡ 0) → All (λ (row : Option Subparser). row ≡ None) rows
none-all [] none = All-nil (λ (row : Option Subparser). row ≡ None)
none-all (None ∷ rows) none = All-cons (λ (row : Option Subparser). row ≡ None) None rows refl (none-all rows (λ n. none (suc n)))
none-all (Some s ∷ rows) none = absurd (omega (arith, none 0))

all-empty : (rows : List (Vec ℕ)) → ((k : ℕ) (row : Vec ℕ) → slice_get rows k ≡ Some row → row.items ≡ []) → All IsEmpty rows
all-empty [] empty = All-nil IsEmpty
all-empty (row ∷ rows) empty = All-cons IsEmpty row rows (empty 0 row refl) (all-empty rows (λ k other at. empty (suc k) other at))

pub finished : (sets : Sets) (count : ℕ) (s : Steps) (r : Rows) (elements : ℕ) → OwnsSteps sets count s → AreAllFiled s.core r (elements + 1) → elements ≡ length s.core.source.list.now
    → IsFinished s.core
finished sets count s r elements own filed long =
    let empty : numbers_in r ≡ [] =
    no-numbers r.rows.items
    (all-empty r.rows.items (λ k row at. filed.done.empty k row (omega (arith, slice_get_within r.rows.items k row at, filed.long, long)) at))
    in
    record { rows = none-all s.core.subparsers (λ n. sym (filed.all n) ∙ ap (times n) empty); usable = own.usable }

module _ (old new : Sets) (lines added : List Line) (elements branches i classes : ℕ) (s t : Steps) (r : Rows) (long : elements ≡ length s.core.source.list.now) (over : elements < i)
    (come : HasComeTo old new lines added elements branches i classes s t r) (names files : List (List ℕ)) (input : Input) (first : core.Core)
    (run : IsRun (tables_with old lines names files) input first s) where
  all-long : length input.items ≡ length s.core.source.list.now
  all-long = input-long (tables_with old lines names files) s.core.source input run.is.source

  pub places-all : (k : ℕ) → k < length input.items + 1 → HasPlace input first (map event_of t.events.items) k
  places-all k within = (come.place names files input first run).places k (omega (arith, within, all-long, long, over)) within

  pub classes-all : HasMostClasses input classes
  classes-all = counted-all input i classes (omega (arith, all-long, long, over)) (come.most names files input first run)
