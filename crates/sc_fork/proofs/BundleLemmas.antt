-- Events of several subparsers, one after the other.
use Rattle.std.proofs.Common.{◌≡◌, ℕ, zero, suc, ◌+◌, ◌-◌, ◌==◌, Bool, true, false, ◌<◌, ◌≤◌, ◌⊎◌, inl, inr, List, [], ◌∷◌, ◌++◌, length, map, get_or, take, drop, refl, sym, ap, ◌∙◌, subst, arith, length-append, Option, None}
use Rattle.std.specs.Prelude.{slice_set}
use Rattle.std.specs.List.{Contains, list_any, range_with_len}
use Rattle.std.proofs.lemmas.Bool.{true≢false, eqb-true}
use Rattle.std.proofs.lemmas.List.{drop_more, map-append, take-append-drop, take_all, take_more}
use Rattle.std.proofs.lemmas.List.Elements.{All-append, All-cons, All-nil}
use Rattle.std.proofs.lemmas.List.Folds.{Any-from_list_any, list_any_at}
use Rattle.std.proofs.lemmas.List.Quantifiers.{all_pairs_push}
use Rattle.c11_parsing.proofs.Events.{run-stands}
use Rattle.c11_parsing.specs.Classes.{Input}
use Rattle.c11_parsing.specs.Core as core
use Rattle.c11_parsing.specs.Core.{CoreRun, CoreStep, Stands, nothing, after_event}
use Rattle.sc_base.proofs.Growth.{Extends-refl, Extends-trans}
use Rattle.sc_fork.proofs.ChoiceLemmas.{leaves-none, leaves-then}
use Rattle.sc_fork.proofs.ReplaceLemmas.{length-without}
use Rattle.sc_fork.proofs.SplitLemmas.{same-number}
use Rattle.sc_fork.specs.Bundles.{AreApplied, AreDone, AreEnabled, IsDone, IsFirstRefused, Leads, event_by, events_of, first_refused, first_twice, none_done, one_more}
use Rattle.sc_fork.specs.Choices.{AddsLeaves, AreSound}
use Rattle.sc_fork.specs.Cores.{IsCore, event_of}
use Rattle.sc_fork.specs.declared.enabled.Enabled.{Enabled}
use Rattle.sc_fork.specs.declared.event.Event.{Event}
use Rattle.sc_fork.specs.declared.event.Event.TheVariants.{Reduce, Shift}
use Rattle.sc_fork.specs.declared.event.CoreStop.{CoreStop}
use Rattle.sc_fork.specs.declared.event.CoreStop.TheVariants.{NotEnabled, GivenUp, OutOfMemory}
use Rattle.sc_fork.specs.declared.event.Fact.{Fact}
use Rattle.sc_fork.specs.declared.event.Fact.TheVariants.{SameSubparser}
use Rattle.sc_fork.specs.declared.event.Kind.{Kind}
use Rattle.sc_fork.specs.declared.event.Kind.TheVariants as kinds
use Rattle.sc_fork.specs.declared.source.Source.{Source}
use Rattle.sc_fork.specs.Enabled.{IsEnabled, IsRefused, can_reduce, can_shift, none_to_reduce, none_to_shift, no_lookahead_to_reduce, no_lookahead_to_shift, no_reduction, reduction, Has}
use Rattle.sc_fork.specs.Pieces.{HasMade, going_of, numbers_of, without}
use Rattle.sc_fork.specs.View.{View}
use Rattle.sc_merge.specs.declared.subparser.Subparser.{Subparser}
use Rattle.sc_merge.specs.Merges.{tables_with}
use Rattle.sc_model.proofs.SetLemmas.{Keeps-refl, Keeps-trans}
use Rattle.sc_model.specs.Sets.{Sets}
use Rattle.sc_tree.specs.Lines.{Line}

-- ---- what is so after any number of them

pub leads-none : {a : Sets} {lines : List Line} {view : View} → Leads a a lines lines view view
leads-none {a} {lines} {view} = record { leaves = leaves-none view.source.list.now lines lines refl; source = refl; keeps = Keeps-refl a; grows = Extends-refl lines }

pub leads-then : {a b c : Sets} {one two three : List Line} {first second third : View} → Leads a b one two first second → Leads b c two three second third → Leads a c one three first third
leads-then {a} {b} {c} {one} {two} {three} {first} {second} {third} before after = record {
  leaves = leaves-then first.source.list.now one two three before.leaves (subst (λ (s : Source). AddsLeaves s.list.now two three) before.source after.leaves);
  source = after.source ∙ before.source;
  keeps = Keeps-trans before.keeps after.keeps;
  grows = Extends-trans before.grows after.grows;
}

-- whether it is given up is not of this
pub leads-given_up : {a b : Sets} {one two : List Line} {first second : View} → Leads a b one two first second → Leads a b one two first (record second { is_given_up = true })
leads-given_up leads = record { leaves = leads.leaves; source = leads.source; keeps = leads.keeps; grows = leads.grows }

pub done-leads : (old : Sets) (lines : List Line) (before : View) (events : List Event) (new : Sets) (added : List Line) (after : View) (made : List ℕ)
    → AreDone old lines before events new added after made → Leads old new lines added before after
done-leads old lines before _ _ _ _ _ none_done = leads-none
done-leads old lines before _ new added after _ (one_more events event sets _ trees _ between _ made more done last) =
    leads-then (done-leads old lines before events sets trees between made done)
    last.leads

pub done-more : (old sets new : Sets) (lines trees added : List Line) (before between after : View) (kind : Kind) (members : List ℕ) (i d : ℕ) (made more all : List ℕ) → i < length members
    → AreDone old lines before (events_of kind (take i members)) sets trees between made → IsDone sets new trees added between (event_by kind (get_or members i d)) after more → all ≡ made ++ more
    → AreDone old lines before (events_of kind (take (i + 1) members)) new added after all
done-more old sets new lines trees added before between after kind members i d made more all within done last is =
    let event = event_by kind (get_or members i d) in
    let events : events_of kind (take (i + 1) members) ≡ events_of kind (take i members) ++ event ∷ [] =
    ap (map (event_by kind)) (take_more members i d within) ∙ map-append (event_by kind) (take i members) (get_or members i d ∷ []) in
    subst (AreDone old lines before (events_of kind (take (i + 1) members)) new added after) (sym is)
    (subst (λ es. AreDone old lines before es new added after (made ++ more)) (sym events) (one_more (events_of kind (take i members)) event sets new trees added between after made more done last))

pub done-all : (old new : Sets) (lines added : List Line) (before after : View) (kind : Kind) (members : List ℕ) (i : ℕ) (made : List ℕ) → length members ≤ i
    → AreDone old lines before (events_of kind (take i members)) new added after made → AreDone old lines before (events_of kind members) new added after made
done-all old new lines added before after kind members i made over done =
    subst (λ ms. AreDone old lines before (events_of kind ms) new added after made) (take_all i members over) done

-- ---- how an event ends

pub still-usable : (old new : Bool) (stops : Type 0) → (new ≡ true → stops ⊎ (old ≡ true)) → (stops → ⊥) → old ≡ false → new ≡ false
still-usable old true stops why goes was = elim (why refl) [ inl h ↦ absurd (goes h) | inr h ↦ absurd (true≢false (sym h ∙ was)) ]
still-usable old false stops why goes was = refl

-- of the three causes two are left out
pub is-memory : (stop : CoreStop) → ((fact : Fact) → stop ≡ NotEnabled fact → ⊥) → (stop ≡ GivenUp → ⊥) → stop ≡ OutOfMemory
is-memory (NotEnabled fact) can usable = absurd (can fact refl)
is-memory GivenUp can usable = absurd (usable refl)
is-memory OutOfMemory can usable = refl

-- ---- as the core is seen

range-append : (a m k : ℕ) → range_with_len a m ++ range_with_len (a + m) k ≡ range_with_len a (m + k)
range-append a zero k = ap (λ n. range_with_len n k) (let e : a + 0 ≡ a = omega arith in e) ∙ ap (range_with_len a) (let e : k ≡ 0 + k = omega arith in e)
range-append a (suc m) k =
    ap (λ n. (a ∷ range_with_len (a + 1) m) ++ range_with_len n k) (let e : a + suc m ≡ (a + 1) + m = omega arith in e)
    ∙ ap (λ ns. a ∷ ns) (range-append (a + 1) m k) ∙ ap (range_with_len a) (let e : suc (m + k) ≡ suc m + k = omega arith in e)

made-longer : (before after : View) (event : Event) (made : List ℕ) → HasMade before event after made → length before.subparsers ≤ length after.subparsers
made-longer before after event made has =
    let all = ap length has.becomes.rows ∙ length-append (without (numbers_of event) before.subparsers) (going_of has.pieces) in
    omega (arith, all, length-without (numbers_of event) before.subparsers)

run-more : (input : Input) (a b c : core.Core) (events : List core.Event) (event : core.Event) → CoreRun input a events b → CoreStep input b event c → CoreRun input a (events ++ event ∷ []) c
run-more input a _ c _ event nothing step = after_event step nothing
run-more input a b c _ event (after_event {event = e} {next} {events} first rest) step = after_event first (run-more input next b c events event rest step)

-- the core that is seen in the end stands
pub record IsSeenRun (old new : Sets) (lines added : List Line) (names files : List (List ℕ)) (input : Input) (before : View) (events : List Event) (after : View) (made : List ℕ) (seen : core.Core)
    : Type 0 where
  pub applied : AreApplied (tables_with old lines names files) (tables_with new added names files) input before events after made seen
  pub stands : Stands input applied.next
  pub longer : length before.subparsers ≤ length after.subparsers
  pub sound : AreSound old lines → AreSound new added

module _ (names files : List (List ℕ)) (input : Input) where
  pub done-seen : (old : Sets) (lines : List Line) (before : View) (events : List Event) (new : Sets) (added : List Line) (after : View) (made : List ℕ) (seen : core.Core)
      → AreDone old lines before events new added after made
      → IsCore (tables_with old lines names files) input before seen → Stands input seen → IsSeenRun old new lines added names files input before events after made seen
  done-seen old lines before _ _ _ _ _ seen none_done is stands = record {
    applied = record { next = seen; run = nothing; seen_after = is; numbers = ap (range_with_len (length before.subparsers)) (let e : 0 ≡ length before.subparsers - length before.subparsers = omega arith in e) };
    stands = stands;
    longer = omega arith;
    sound = λ sound. sound;
  }
  done-seen old lines before _ new added after _ seen (one_more events event sets _ trees _ between _ made more done last) is stands =
      let was = done-seen old lines before events sets trees between made seen done is stands in
      let first = was.applied in
      let next = last.applied names files input first.next first.seen_after was.stands in
      let longer = made-longer between after event more last.rows in
      let a = length before.subparsers in
      let m = length between.subparsers - a in
      let k = length after.subparsers - length between.subparsers in
      let run = run-more input seen first.next next.next (map event_of events) (event_of event) first.run next.step in
      record {
        applied = record {
          next = next.next;
          run = subst (λ es. CoreRun input seen es next.next) (sym (map-append event_of events (event ∷ []))) run;
          seen_after = next.seen_after;
          numbers =
              ap (λ ns. ns ++ more) first.numbers ∙ ap (λ ns. range_with_len a m ++ ns) next.numbers
              ∙ ap (λ n. range_with_len a m ++ range_with_len n k) (let e : length between.subparsers ≡ a + m = omega (arith, was.longer) in e)
              ∙ range-append a m k ∙ ap (range_with_len a) (let e : m + k ≡ length after.subparsers - a = omega (arith, was.longer, longer) in e);
        };
        stands = run-stands input first.next next.next (event_of event ∷ []) (after_event next.step nothing) was.stands;
        longer = omega (arith, was.longer, longer);
        sound = λ sound. last.choices names files input first.next first.seen_after was.stands (was.sound sound);
      }

-- ---- what is enabled

-- an event that the core can do is not refused
pub not-refused : (source : Source) (rows : List (Option Subparser)) (kind : Kind) (n : ℕ) (e : Enabled) (fact : Fact) → IsEnabled source rows (event_by kind n) e
    → IsRefused source rows (event_by kind n) fact → ⊥
not-refused source rows kinds.Reduce _ _ _ (can_reduce n j p s has phase does) refused = by refused
  where
    by : {fact : Fact} → IsRefused source rows (Reduce n) fact → ⊥
    by (none_to_reduce _ none) = none s has
    by (no_lookahead_to_reduce _ t other not_at) = let same : t ≡ s = cc in not_at j (ap (λ (x : Subparser). x.phase) same ∙ phase)
    by (no_reduction _ i t other at never) =
        let same : t ≡ s = cc in
        let here : i ≡ j = cc in
        never p (cc)
not-refused source rows kinds.Shift _ _ _ (can_shift n j s has phase never) refused = by refused
  where
    by : {fact : Fact} → IsRefused source rows (Shift n) fact → ⊥
    by (none_to_shift _ none) = none s has
    by (no_lookahead_to_shift _ t other not_at) = let same : t ≡ s = cc in not_at j (ap (λ (x : Subparser). x.phase) same ∙ phase)
    by (reduction _ i p t other at does) =
        let same : t ≡ s = cc in
        let here : i ≡ j = cc in
        never p (cc)

-- a subparser that the event does not name has its number still
pub kept-row : (rows : List (Option Subparser)) (more : List (Option Subparser)) (n m : ℕ) (s : Subparser) → (n ≡ m → ⊥) → Has rows m s → Has (slice_set rows n None ++ more) m s
kept-row [] more n m s other has = absurd (cc)
kept-row (row ∷ rows) more zero zero s other has = absurd (other refl)
kept-row (row ∷ rows) more zero (suc m) s other has = front rows m has
  where
    front : (rows : List (Option Subparser)) (m : ℕ) → Has rows m s → Has (rows ++ more) m s
    front [] m has = absurd (cc)
    front (row ∷ rows) zero has = has
    front (row ∷ rows) (suc m) has = front rows m has
kept-row (row ∷ rows) more (suc n) zero s other has = has
kept-row (row ∷ rows) more (suc n) (suc m) s other has = kept-row rows more n m s (λ e. other (ap suc e)) has

still-can : (source : Source) (rows more : List (Option Subparser)) (kind : Kind) (n m : ℕ) (e : Enabled) → (n ≡ m → ⊥) → IsEnabled source rows (event_by kind m) e
    → IsEnabled source (slice_set rows n None ++ more) (event_by kind m) e
still-can source rows more kinds.Reduce n _ _ other (can_reduce m j p s has phase does) = can_reduce m j p s (kept-row rows more n m s other has) phase does
still-can source rows more kinds.Shift n _ _ other (can_shift m j s has phase never) = can_shift m j s (kept-row rows more n m s other has) phase never

-- what an event leaves is enabled still
pub still-enabled : (before after : View) (kind : Kind) (n : ℕ) (members made : List ℕ) → AreEnabled before.source before.subparsers kind (n ∷ members)
    → HasMade before (event_by kind n) after made → after.source ≡ before.source → AreEnabled after.source after.subparsers kind members
still-enabled before after kind n members made are has same = record {
  each = λ k d below.
      let m = get_or members k d in
      let can = are.each (suc k) d (omega (arith, below)) in
      let other : n ≡ m → ⊥ = are.once 0 (suc k) d (omega arith) (omega (arith, below)) in
      (can.0, rw (same, has.becomes.rows, one kind) (still-can before.source before.subparsers (going_of has.pieces) kind n m can.0 other can.1));
  once = λ i j d low below. are.once (suc i) (suc j) d (omega (arith, low)) (omega (arith, below));
}
  where
    one : (kind : Kind) → without (numbers_of (event_by kind n)) before.subparsers ≡ slice_set before.subparsers n None
    one kinds.Reduce = refl
    one kinds.Shift = refl

module _ (source : Source) (rows : List (Option Subparser)) (kind : Kind) where
  abbrev Can : ℕ → Type 0
  Can n = (e : Enabled) × IsEnabled source rows (event_by kind n) e

  pub enabled-none : AreEnabled source rows kind []
  enabled-none = record { each = All-nil Can; once = λ i j d low below. absurd (omega (arith, below)) }

  pub enabled-more : (members : List ℕ) (i d : ℕ) → i < length members → AreEnabled source rows kind (take i members) → Can (get_or members i d)
      → list_any (λ y. y == get_or members i d) (take i members) ≡ false → AreEnabled source rows kind (take (i + 1) members)
  enabled-more members i d within are can new =
      let n : ℕ = get_or members i d in
      subst (AreEnabled source rows kind) (sym (take_more members i d within))
      (record {
        each = All-append Can (take i members) (n ∷ []) are.each (All-cons Can n [] can (All-nil Can));
        once = all_pairs_push (λ x y. x ≡ y → ⊥) (take i members) n are.once
            (λ k z below same. true≢false (sym (list_any_at (λ y. y == n) (take i members) k z below (ap (λ x. x == n) same ∙ same-number n)) ∙ new));
      })

  pub next-left : (members : List ℕ) (i d : ℕ) → i < length members → AreEnabled source rows kind (drop i members) → AreEnabled source rows kind (get_or members i d ∷ drop (i + 1) members)
  next-left members i d within are = subst (AreEnabled source rows kind) (drop_more members i d within) are

  parted : (members : List ℕ) (i d : ℕ) → i < length members → take i members ++ get_or members i d ∷ drop (i + 1) members ≡ members
  parted members i d within = ap (λ ns. take i members ++ ns) (sym (drop_more members i d within)) ∙ take-append-drop i members

  pub refused-at : (members : List ℕ) (i d : ℕ) (fact : Fact) → i < length members → AreEnabled source rows kind (take i members)
      → IsRefused source rows (event_by kind (get_or members i d)) fact → IsFirstRefused source rows kind members fact
  refused-at members i d fact within are refused =
      subst (λ ms. IsFirstRefused source rows kind ms fact) (parted members i d within) (first_refused (take i members) (get_or members i d) (drop (i + 1) members) fact are refused)

  pub twice-at : (members : List ℕ) (i d : ℕ) → i < length members → AreEnabled source rows kind (take i members) → list_any (λ y. y == get_or members i d) (take i members) ≡ true
      → IsFirstRefused source rows kind members SameSubparser
  twice-at members i d within are found =
      let n : ℕ = get_or members i d in
      let at = Any-from_list_any (λ y. y == n) (take i members) found in
      subst (λ ms. IsFirstRefused source rows kind ms SameSubparser) (parted members i d within)
      (first_twice (take i members) n (drop (i + 1) members) are
      (subst (Contains (take i members)) (eqb-true at.1 n at.4) (at.0, at.2, at.3)))
