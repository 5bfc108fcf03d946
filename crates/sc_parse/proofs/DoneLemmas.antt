-- What events of several subparsers make, one after the other.
use Rattle.std.proofs.Common.{◌≡◌, ℕ, zero, suc, ◌+◌, ◌<◌, inl, inr, List, [], ◌∷◌, ◌++◌, All, length, get_or, Option, refl, sym, ap, ◌∙◌, subst, arith}
use Rattle.std.proofs.lemmas.Bool.Decides.{eqb_tells}
use Rattle.std.proofs.lemmas.List.Elements.{All-head, All-nil, All-tail}
use Rattle.c11_parsing.specs.Classes.{Input}
use Rattle.c11_parsing.specs.Core as core
use Rattle.c11_parsing.specs.Core.{Stands}
use Rattle.sc_fork.proofs.BundleLemmas.{done-leads, done-seen, not-refused}
use Rattle.sc_fork.specs.Bundles.{AreDone, AreEnabled, event_by, events_of, first_refused, first_twice, IsFirstRefused, none_done, one_more}
use Rattle.sc_fork.specs.Cores.{IsCore}
use Rattle.sc_fork.specs.declared.event.Event.{Event}
use Rattle.sc_fork.specs.declared.event.Fact.{Fact}
use Rattle.sc_fork.specs.declared.event.Kind.{Kind}
use Rattle.sc_fork.specs.declared.event.Kind.TheVariants as kinds
use Rattle.sc_fork.specs.declared.source.Source.{Source}
use Rattle.sc_fork.specs.Enabled.{can_reduce, can_shift, Has, IsEnabled}
use Rattle.sc_fork.specs.Pieces.{HasMade, numbers_of}
use Rattle.sc_fork.specs.View.{View}
use Rattle.sc_merge.specs.declared.subparser.Subparser.{Subparser}
use Rattle.sc_merge.specs.Merges.{tables_with}
use Rattle.sc_model.specs.Sets.{Sets}
use Rattle.sc_parse.proofs.EventLemmas.{view-ended}
use Rattle.sc_parse.proofs.MergeLemmas.{same-subparser, times-two}
use Rattle.sc_parse.proofs.NumberLemmas.{all-times, each-append, each-kept, each-of, event-replaces, fewer-numbers, filled, filled-most, has-filled, one-number, one_if, replaces-same, replaces-then, times-all, times-append, times-head}
use Rattle.sc_parse.specs.Numbers.{AreNumbers, Each, IsReady, Replaces, times}
use Rattle.sc_parse.specs.Runs.{HaveEndedBefore, IsBefore, StandsBefore}
use Rattle.sc_parse.specs.Weights.{IsReducing}
use Rattle.sc_tree.specs.Lines.{Line}

-- ---- what the core can do

distinct : (rows : List (Option Subparser)) (ns : List ℕ) → AreNumbers rows ns → (i k d : ℕ) → i < k → k < length ns → get_or ns i d ≡ get_or ns k d → ⊥
distinct rows ns are i k d low within same =
    let two = times-two ns i k d (omega (arith, low, within)) within (λ e. omega (arith, low, e)) same in
    omega (arith, two, are.once (get_or ns k d), filled-most rows (get_or ns k d))

pub reducing-enabled : (source : Source) (rows : List (Option Subparser)) (p : ℕ) (ns : List ℕ) → AreNumbers rows ns → Each (IsReducing source p) rows ns → AreEnabled source rows kinds.Reduce ns
reducing-enabled source rows p ns are each = record {
  each = times-all (λ n. (e : _) × IsEnabled source rows (event_by kinds.Reduce n) e) ns (λ n some.
      let h = all-times (λ m. (s : Subparser) × (Has rows m s × IsReducing source p s)) ns n each some in
      (_, can_reduce n h.1.1.at p h.0 h.1.0 h.1.1.phase h.1.1.action));
  once = distinct rows ns are;
}

pub ready-enabled : (source : Source) (rows : List (Option Subparser)) (j : ℕ) (ns : List ℕ) → AreNumbers rows ns → Each (IsReady source j) rows ns → AreEnabled source rows kinds.Shift ns
ready-enabled source rows j ns are each = record {
  each = times-all (λ n. (e : _) × IsEnabled source rows (event_by kinds.Shift n) e) ns (λ n some.
      let h = all-times (λ m. (s : Subparser) × (Has rows m s × IsReady source j s)) ns n each some in
      (_, can_shift n j h.0 h.1.0 h.1.1.at h.1.1.shifts));
  once = distinct rows ns are;
}

middle : (P : ℕ → Type 0) (front : List ℕ) (n : ℕ) (back : List ℕ) → All P (front ++ n ∷ back) → P n
middle P [] n back all = All-head P n back all
middle P (m ∷ front) n back all = middle P front n back (All-tail P m (front ++ n ∷ back) all)

-- a number among the first ones is not that behind them
not-among : (front : List ℕ) (n : ℕ) (back : List ℕ) (k d : ℕ) → k < length front → get_or front k d ≡ n
    → ((i m e : ℕ) → i < m → m < length (front ++ n ∷ back) → get_or (front ++ n ∷ back) i e ≡ get_or (front ++ n ∷ back) m e → ⊥) → ⊥
not-among [] n back k d within at once = absurd (omega (arith, within))
not-among (x ∷ front) n back zero d within at once =
    once 0 (suc (length front)) d (omega arith) (long front) (at ∙ sym (behind front))
  where
    long : (xs : List ℕ) → suc (length xs) < suc (length (xs ++ n ∷ back))
    long [] = omega arith
    long (y ∷ xs) = omega (arith, long xs)

    behind : (xs : List ℕ) → get_or (xs ++ n ∷ back) (length xs) d ≡ n
    behind [] = refl
    behind (y ∷ xs) = behind xs
not-among (x ∷ front) n back (suc k) d within at once =
    not-among front n back k d (omega (arith, within)) at (λ i m e low high same. once (suc i) (suc m) e (omega (arith, low)) (omega (arith, high)) same)

pub not-first-refused : (source : Source) (rows : List (Option Subparser)) (kind : Kind) (members : List ℕ) (fact : Fact) → IsFirstRefused source rows kind members fact
    → AreEnabled source rows kind members → ⊥
not-first-refused source rows kind _ _ (first_refused front n back fact are refused) all =
    let can = middle (λ m. (e : _) × IsEnabled source rows (event_by kind m) e) front n back all.each in
    not-refused source rows kind n can.0 fact can.1 refused
not-first-refused source rows kind _ _ (first_twice front n back are there) all = not-among front n back there.0 n there.1 there.2 all.once

-- ---- one event of them

-- the last one of the events is that of the last member
record IsLast (kind : Kind) (members : List ℕ) (events : List Event) (event : Event) : Type 0 where
  front : List ℕ
  n : ℕ
  members_are : members ≡ front ++ n ∷ []
  events_are : events ≡ events_of kind front
  event_is : event ≡ event_by kind n

no-members : (kind : Kind) (members : List ℕ) → [] ≡ events_of kind members → members ≡ []
no-members kind [] is = refl
no-members kind (m ∷ members) is = absurd (cc)

abbrev first-of : Event → List Event → Event
first-of event [] = event
first-of event (e ∷ events) = e

abbrev rest-of : List Event → List Event
rest-of [] = []
rest-of (e ∷ events) = events

last-event : (kind : Kind) (members : List ℕ) (events : List Event) (event : Event) → events ++ event ∷ [] ≡ events_of kind members → IsLast kind members events event
last-event kind [] [] event is = absurd (cc)
last-event kind [] (e ∷ events) event is = absurd (cc)
last-event kind (m ∷ []) [] event is = record { front = []; n = m; members_are = refl; events_are = refl; event_is = ap (first-of event) is }
last-event kind (m ∷ (k ∷ members)) [] event is = let rest = ap rest-of is in absurd (cc)
last-event kind (m ∷ members) (e ∷ events) event is =
    let last = last-event kind members events event (ap rest-of is) in
    record {
      front = m ∷ last.front;
      n = last.n;
      members_are = ap (λ ns. m ∷ ns) last.members_are;
      events_are = ap (λ x. x ∷ events) (ap (first-of event) is) ∙ ap (λ es. event_by kind m ∷ es) last.events_are;
      event_is = last.event_is;
    }

one-named : (kind : Kind) (n : ℕ) → numbers_of (event_by kind n) ≡ n ∷ []
one-named kinds.Reduce n = refl
one-named kinds.Shift n = refl

stands-before : (kind : Kind) (rows : List (Option Subparser)) (place n : ℕ) (s : Subparser) → Has rows n s → StandsBefore place s → IsBefore rows place (event_by kind n)
stands-before kinds.Reduce rows place n s has low = λ t there. subst (StandsBefore place) (same-subparser rows n s t has there) low
stands-before kinds.Shift rows place n s has low = λ t there. subst (StandsBefore place) (same-subparser rows n s t has there) low

one-replaces : (kind : Kind) (between after : View) (event : Event) (n : ℕ) (more : List ℕ) (s : Subparser) → event ≡ event_by kind n → Has between.subparsers n s → HasMade between event after more
    → Replaces between.subparsers after.subparsers (n ∷ []) more
one-replaces kind between after event n more s is has made =
    let named = ap numbers_of is ∙ one-named kind n in
    subst (λ ns. Replaces between.subparsers after.subparsers ns more) named
    (event-replaces between after event more made (subst (AreNumbers between.subparsers) (sym named) (one-number between.subparsers n s has)))

-- ---- all of them

module _ (rows between : List (Option Subparser)) (front made : List ℕ) (n : ℕ) (are : AreNumbers rows (front ++ n ∷ [])) where
  front-numbers : AreNumbers rows front
  front-numbers = fewer-numbers rows (front ++ n ∷ []) front are (λ k. omega (arith, times-append k front (n ∷ [])))

  last-row : (s : Subparser) × Has rows n s
  last-row = has-filled rows n (omega (arith, are.once n, times-append n front (n ∷ []), times-head n []))

  module _ (was : Replaces rows between front made) where
    -- the subparser of the next member is still there
    still-has : (s : Subparser) → Has rows n s → Has between n s
    still-has s has = was.kept n s has (omega (arith, are.once n, filled-most rows n, times-append n front (n ∷ []), times-head n []))

    apart : (s : Subparser) → Has rows n s → (k : ℕ) → 0 < times k made → times k (n ∷ []) ≡ 0
    apart s has k some = elim (eqb_tells k n) [
      | inl same ↦
          let there : 0 < times n made = subst (λ m. 0 < times m made) same.1 some in
          absurd (omega (arith, there, was.counts n, filled rows n s has, filled between n s (still-has s has), are.once n, times-append n front (n ∷ []), times-head n []))
      | inr other ↦ omega (arith, ap one_if other.0)
    ]

module _ (kind : Kind) (before : View) where
  pub done-replaces : (old : Sets) (lines : List Line) (events : List Event) (new : Sets) (added : List Line) (after : View) (made : List ℕ) → AreDone old lines before events new added after made
      → (members : List ℕ) → events ≡ events_of kind members → AreNumbers before.subparsers members → Replaces before.subparsers after.subparsers members made
  done-replaces old lines _ _ _ _ _ none_done members is are =
      subst (λ ns. Replaces before.subparsers before.subparsers ns []) (sym (no-members kind members is)) (replaces-same before.subparsers [])
  done-replaces old lines _ new added after _ (one_more events event sets _ trees _ between _ made more done last) members is are =
      let rows = before.subparsers in
      let l = last-event kind members events event is in
      let all = subst (AreNumbers rows) l.members_are are in
      let was = done-replaces old lines events sets trees between made done l.front l.events_are (front-numbers rows between.subparsers l.front made l.n all) in
      let s = last-row rows between.subparsers l.front made l.n all in
      let now = still-has rows between.subparsers l.front made l.n all was s.0 s.1 in
      subst (λ ns. Replaces rows after.subparsers ns (made ++ more)) (sym l.members_are)
      (replaces-then rows between.subparsers after.subparsers l.front made (l.n ∷ []) more (l.front ++ l.n ∷ []) (made ++ more) was
      (one-replaces kind between after event l.n more s.0 l.event_is now last.rows)
      (λ k. omega (arith, times-append k l.front (l.n ∷ []), times-append k made more)) (λ k none. omega (arith, none, times-append k l.front (l.n ∷ [])))
      (λ k none without. omega (arith, none, times-append k l.front (l.n ∷ []))))

  module _ (P Q : Subparser → Type 0) (link : (between after : View) (n : ℕ) (s : Subparser) (more : List ℕ) → between.source ≡ before.source → Q s → Has between.subparsers n s
      → HasMade between (event_by kind n) after more → Each P after.subparsers more) where
    pub done-each : (old : Sets) (lines : List Line) (events : List Event) (new : Sets) (added : List Line) (after : View) (made : List ℕ) → AreDone old lines before events new added after made
        → (members : List ℕ) → events ≡ events_of kind members → AreNumbers before.subparsers members → Each Q before.subparsers members → Each P after.subparsers made
    done-each old lines _ _ _ _ _ none_done members is are each = All-nil (λ n. (x : Subparser) × (Has before.subparsers n x × P x))
    done-each old lines _ new added after _ (one_more events event sets _ trees _ between _ made more done last) members is are each =
        let rows = before.subparsers in
        let l = last-event kind members events event is in
        let all = subst (AreNumbers rows) l.members_are are in
        let front = front-numbers rows between.subparsers l.front made l.n all in
        let was = done-replaces old lines events sets trees between made done l.front l.events_are front in
        let these : Each Q rows (l.front ++ l.n ∷ []) = subst (Each Q rows) l.members_are each in
        let s = middle (λ m. (x : Subparser) × (Has rows m x × Q x)) l.front l.n [] these in
        let now = still-has rows between.subparsers l.front made l.n all was s.0 s.1.0 in
        let first = done-each old lines events sets trees between made done l.front l.events_are front
        (each-of Q rows (l.front ++ l.n ∷ []) l.front these (λ k none. omega (arith, none, times-append k l.front (l.n ∷ [])))) in
        each-append P after.subparsers made more
        (each-kept P between.subparsers after.subparsers (l.n ∷ []) more made (one-replaces kind between after event l.n more s.0 l.event_is now last.rows) first
        (apart rows between.subparsers l.front made l.n all was s.0 s.1.0))
        (link between after l.n s.0 more (done-leads old lines before events sets trees between made done).source s.1.1 now (subst (λ e. HasMade between e after more) l.event_is last.rows))

  module _ (names files : List (List ℕ)) (input : Input) (place : ℕ) (within : place < length input.items + 1) (seen : core.Core) where
    -- what has ended after them
    pub done-ended : (old : Sets) (lines : List Line) (events : List Event) (new : Sets) (added : List Line) (after : View) (made : List ℕ) → AreDone old lines before events new added after made
        → (members : List ℕ) → events ≡ events_of kind members → AreNumbers before.subparsers members → Each (StandsBefore place) before.subparsers members
        → IsCore (tables_with old lines names files) input before seen → Stands input seen → HaveEndedBefore old input place before.ended → HaveEndedBefore new input place after.ended
    done-ended old lines _ _ _ _ _ none_done members is are each is_seen stands ended = ended
    done-ended old lines _ new added after _ (one_more events event sets _ trees _ between _ made more done last) members is are each is_seen stands ended =
        let rows = before.subparsers in
        let l = last-event kind members events event is in
        let all = subst (AreNumbers rows) l.members_are are in
        let front = front-numbers rows between.subparsers l.front made l.n all in
        let was = done-replaces old lines events sets trees between made done l.front l.events_are front in
        let these : Each (StandsBefore place) rows (l.front ++ l.n ∷ []) = subst (Each (StandsBefore place) rows) l.members_are each in
        let s = middle (λ m. (x : Subparser) × (Has rows m x × StandsBefore place x)) l.front l.n [] these in
        let now = still-has rows between.subparsers l.front made l.n all was s.0 s.1.0 in
        let run = done-seen names files input old lines before events sets trees between made seen done is_seen stands in
        view-ended (tables_with sets trees names files) (tables_with new added names files) input between event after more run.applied.next run.applied.seen_after run.stands
        (last.applied names files input run.applied.next run.applied.seen_after run.stands) place
        (subst (IsBefore between.subparsers place) (sym l.event_is) (stands-before kind between.subparsers place l.n s.0 now s.1.1)) within
        (done-ended old lines events sets trees between made done l.front l.events_are front
        (each-of (StandsBefore place) rows (l.front ++ l.n ∷ []) l.front these (λ k none. omega (arith, none, times-append k l.front (l.n ∷ []))))
        is_seen stands ended)
