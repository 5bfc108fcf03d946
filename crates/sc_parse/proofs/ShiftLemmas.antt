-- What shifts make of subparsers.
use Rattle.std.proofs.Common.{◌≡◌, ℕ, ◌+◌, ◌<◌, List, [], ◌∷◌, ◌++◌, All, length, Option, ◌⊎◌, inl, inr, if◌then◌else◌, refl, sym, ap, ◌∙◌, subst, arith, append-nil, append_assoc}
use Rattle.std.proofs.lemmas.Bool.Decides.{eqb_tells}
use Rattle.std.proofs.lemmas.List.Elements.{All-cons, All-head, All-nil, All-tail}
use Rattle.c11_parsing.specs.Core.{index_of}
use Rattle.sc_fork.specs.declared.event.Event.TheVariants.{Shift, Classify}
use Rattle.sc_fork.specs.declared.event.Fact.{Fact}
use Rattle.sc_fork.specs.declared.piece.Piece.{Piece}
use Rattle.sc_fork.specs.declared.source.Source.{Source}
use Rattle.sc_fork.specs.Enabled.{Has, IsRefused, none_to_classify, not_named}
use Rattle.sc_fork.specs.Pieces.{HasMade, IfGoing, IsPast, Makes, shifts, classifies}
use Rattle.sc_merge.specs.declared.subparser.Phase.TheVariants.{At, Between, Named}
use Rattle.sc_merge.specs.declared.subparser.Subparser.{Subparser}
use Rattle.sc_merge.specs.Phases.{phase_of}
use Rattle.sc_model.specs.Sets.{Sets}
use Rattle.sc_parse.proofs.MergeLemmas.{same-subparser}
use Rattle.sc_parse.proofs.NumberLemmas.{each-append, each-kept, each-then, event-replaces, filled-most, made-each, numbers-after, one-number, replaces-then, times-append}
use Rattle.sc_parse.proofs.RunLemmas.{goes-then}
use Rattle.sc_parse.specs.declared.steps.Steps.{Steps}
use Rattle.sc_parse.specs.Numbers.{AreNumbers, Each, IsAt, IsBetween, IsReady, Replaces, times}
use Rattle.sc_parse.specs.Runs.{GoesOn, IsBefore, StandsBefore}
use Rattle.sc_parse.specs.Turns.{HasShifted}
use Rattle.sc_parse.proofs.DoneLemmas.{done-each, done-replaces}
use Rattle.sc_parse.proofs.WeightLemmas.{at-before}
use Rattle.sc_fork.specs.Bundles.{AreDone, events_of}
use Rattle.sc_fork.specs.declared.event.Kind.TheVariants as kinds
use Rattle.sc_tree.specs.Lines.{Line}

-- ---- the events

same-place : (i j : ℕ) (t s : Subparser) → t.phase ≡ At i → s.phase ≡ At j → t ≡ s → i ≡ j
same-place i j t s one two same = cc

same-name : (i j : ℕ) (t s : Subparser) → t.phase ≡ Named i → s.phase ≡ Named j → t ≡ s → i ≡ j
same-name i j t s one two same = cc

pub classify-enabled : (source : Source) (rows : List (Option Subparser)) (number j : ℕ) (s : Subparser) → Has rows number s → s.phase ≡ Named j → (fact : Fact)
    → IsRefused source rows (Classify number) fact → ⊥
classify-enabled source rows number j s has named _ (none_to_classify _ none) = none s has
classify-enabled source rows number j s has named _ (not_named _ t there other) = other j (ap (λ (x : Subparser). x.phase) (same-subparser rows number t s there has) ∙ named)

pub classify-before : (rows : List (Option Subparser)) (number j : ℕ) (s : Subparser) → Has rows number s → s.phase ≡ Named j → IsBefore rows (j + 1) (Classify number)
classify-before rows number j s has named t there =
    let same : t.phase ≡ Named j = ap (λ (x : Subparser). x.phase) (same-subparser rows number t s there has) ∙ named in
    subst (λ phase. index_of (phase_of phase) < j + 1) (sym same) (let low : j < j + 1 = omega arith in low)

shift-pieces : (source : Source) (rows : List (Option Subparser)) (number j : ℕ) (s : Subparser) (pieces : List Piece) → Has rows number s → s.phase ≡ At j
    → Makes source rows (Shift number) pieces → All (IfGoing (IsPast source j)) pieces
shift-pieces source rows number j s _ has at (shifts _ i t piece there phase past) =
    let here = same-place i j t s phase at (same-subparser rows number t s there has) in
    All-cons (IfGoing (IsPast source j)) piece [] (subst (λ k. IfGoing (IsPast source k) piece) here past) (All-nil (IfGoing (IsPast source j)))

classify-pieces : (source : Source) (rows : List (Option Subparser)) (number j : ℕ) (s : Subparser) (pieces : List Piece) → Has rows number s → s.phase ≡ Named j
    → Makes source rows (Classify number) pieces → All (IfGoing (IsBetween (j + 1))) pieces
classify-pieces source rows number j s _ has named (classifies _ i t pieces there phase next) =
    let here = same-name i j t s phase named (same-subparser rows number t s there has) in
    subst (λ k. All (IfGoing (IsBetween (k + 1))) pieces) here next

-- ---- from one to the next

-- The shifts of these made subparsers: those that are left, which are behind the element, and
-- others, or those whose kinds were shifted.
pub record IsShifting (old new : Sets) (lines added : List Line) (j : ℕ) (before after : Steps) (gone made left : List ℕ) : Type 0 where
  pub goes : GoesOn old new lines added (j + 1) before after
  pub replaces : Replaces before.core.subparsers after.core.subparsers gone (made ++ left)
  pub numbers : AreNumbers after.core.subparsers (made ++ left)
  pub behind : Each (IsBetween (j + 1)) after.core.subparsers made
  pub past : Each (IsPast before.core.source j) after.core.subparsers left
  pub none : j ≡ length before.core.source.list.now → made ≡ []

ready-at : (source : Source) (rows : List (Option Subparser)) (j : ℕ) (ns : List ℕ) → Each (IsReady source j) rows ns → Each (IsAt j) rows ns
ready-at source rows j ns ready = each-then (IsReady source j) (IsAt j) rows ns (λ s is. is.at) ready

pub ready-before : (source : Source) (rows : List (Option Subparser)) (j : ℕ) (ns : List ℕ) → Each (IsReady source j) rows ns → Each (StandsBefore (j + 1)) rows ns
ready-before source rows j ns ready = at-before rows ns j (ready-at source rows j ns ready)

pub shift-begins : (a b : Sets) (lines added : List Line) (s t : Steps) (j : ℕ) (ready made : List ℕ) → AreNumbers s.core.subparsers ready → Each (IsReady s.core.source j) s.core.subparsers ready
    → AreDone a lines s.core (events_of kinds.Shift ready) b added t.core made → GoesOn a b lines added (j + 1) s t → IsShifting a b lines added j s t ready [] made
shift-begins a b lines added s t j ready made numbers are done goes =
    let replaces = done-replaces kinds.Shift s.core a lines (events_of kinds.Shift ready) b added t.core made done ready refl numbers in
    record {
      goes = goes;
      replaces = replaces;
      numbers = numbers-after s.core.subparsers t.core.subparsers ready made replaces numbers;
      behind = All-nil (λ n. (x : Subparser) × (Has t.core.subparsers n x × IsBetween (j + 1) x));
      past =
          done-each kinds.Shift s.core (IsPast s.core.source j) (IsAt j)
          (λ between after n x more same at now has.
          subst (λ (source : Source). Each (IsPast source j) after.subparsers more) same
          (made-each (IsPast between.source j) between after (Shift n) more has (shift-pieces between.source between.subparsers n j x has.pieces now at has.makes)))
          a lines (events_of kinds.Shift ready) b added t.core made done ready refl numbers (ready-at s.core.source s.core.subparsers j ready are);
      none = λ end. refl;
    }

-- a name waits for its kind, anything else is behind the element
past-phase : (source : Source) (j : ℕ) (x : Subparser) → IsPast source j x → (x.phase ≡ Named j) ⊎ (x.phase ≡ Between (j + 1))
past-phase source j x past = elim (eqb_tells past.terminal 0) [
  | inl same ↦ inl (past.phase ∙ ap (λ b. if b then Named j else Between (j + 1)) same.0)
  | inr other ↦ inr (past.phase ∙ ap (λ b. if b then Named j else Between (j + 1)) other.0)
]

past-between : (source : Source) (j : ℕ) (x : Subparser) → IsPast source j x → ((k : ℕ) → x.phase ≡ Named k → ⊥) → x.phase ≡ Between (j + 1)
past-between source j x past other = elim (past-phase source j x past) [ inl named ↦ absurd (other j named) | inr between ↦ between ]

past-named : (source : Source) (j k : ℕ) (x : Subparser) → IsPast source j x → x.phase ≡ Named k → x.phase ≡ Named j
past-named source j k x past named = elim (past-phase source j x past) [ inl here ↦ here | inr between ↦ absurd (cc) ]

pub no-items : {count : ℕ} (items : List ℕ) → count ≡ length items → count ≡ 0 → items ≡ []
no-items [] is none = refl
no-items (n ∷ items) is none = absurd (omega (arith, is, none))

-- the number that is taken next
pub shift-next : {a b : Sets} {lines added : List Line} {j : ℕ} {s t : Steps} {gone made items : List ℕ} {m : ℕ} {left : List ℕ} → items ≡ m ∷ left
    → IsShifting a b lines added j s t gone made items → IsShifting a b lines added j s t gone made (m ∷ left)
shift-next {a} {b} {lines} {added} {j} {s} {t} {gone} {made} is was = subst (IsShifting a b lines added j s t gone made) is was

pub shift-ends : {a b : Sets} {lines added : List Line} {j : ℕ} {s t : Steps} {gone made items : List ℕ} → items ≡ [] → IsShifting a b lines added j s t gone made items
    → HasShifted a b lines added j s t gone made
shift-ends {s = s} {t = t} {gone = gone} {made = made} is was = record {
  goes_on = was.goes;
  replaces = subst (Replaces s.core.subparsers t.core.subparsers gone) (ap (λ ns. made ++ ns) is ∙ append-nil made) was.replaces;
  behind = was.behind;
  none = was.none;
}

-- of a list of numbers of subparsers, the one in the middle is not among the others
apart-left : (rows : List (Option Subparser)) (xs : List ℕ) (m : ℕ) (ys : List ℕ) → AreNumbers rows (xs ++ m ∷ ys) → (n : ℕ) → 0 < times n xs → times n (m ∷ []) ≡ 0
apart-left rows xs m ys are n some = omega (arith, are.once n, filled-most rows n, some, times-append n xs (m ∷ ys))

apart-right : (rows : List (Option Subparser)) (xs : List ℕ) (m : ℕ) (ys : List ℕ) → AreNumbers rows (xs ++ m ∷ ys) → (n : ℕ) → 0 < times n ys → times n (m ∷ []) ≡ 0
apart-right rows xs m ys are n some = omega (arith, are.once n, filled-most rows n, some, times-append n xs (m ∷ ys))

module _ {a b : Sets} {lines added : List Line} {j : ℕ} {s t : Steps} {gone made : List ℕ} {m : ℕ} {left : List ℕ} (was : IsShifting a b lines added j s t gone made (m ∷ left)) where
  pub next-past : (x : Subparser) × (Has t.core.subparsers m x × IsPast s.core.source j x)
  next-past = All-head (λ n. (x : Subparser) × (Has t.core.subparsers n x × IsPast s.core.source j x)) m left was.past

  pub next-named : (x : Subparser) (k : ℕ) → Has t.core.subparsers m x → x.phase ≡ Named k → x.phase ≡ Named j
  next-named x k has named =
      past-named s.core.source j k x (subst (IsPast s.core.source j) (same-subparser t.core.subparsers m next-past.0 x next-past.1.0 has) next-past.1.1) named

  -- one that has its kind already
  pub shift-kept : (x : Subparser) → Has t.core.subparsers m x → ((k : ℕ) → x.phase ≡ Named k → ⊥) → IsShifting a b lines added j s t gone (made ++ m ∷ []) left
  shift-kept x has other = record {
    goes = was.goes;
    replaces = subst (Replaces s.core.subparsers t.core.subparsers gone) (sym (append_assoc made (m ∷ []) left)) was.replaces;
    numbers = subst (AreNumbers t.core.subparsers) (sym (append_assoc made (m ∷ []) left)) was.numbers;
    behind = each-append (IsBetween (j + 1)) t.core.subparsers made (m ∷ []) was.behind
        (All-cons (λ n. (y : Subparser) × (Has t.core.subparsers n y × IsBetween (j + 1) y)) m [] (
          next-past.0,
          (
            next-past.1.0,
            past-between s.core.source j next-past.0 next-past.1.1
                (λ k named. other k (ap (λ (y : Subparser). y.phase) (same-subparser t.core.subparsers m x next-past.0 has next-past.1.0) ∙ named)),
          ),
        )
        (All-nil (λ n. (y : Subparser) × (Has t.core.subparsers n y × IsBetween (j + 1) y))));
    past = All-tail (λ n. (x : Subparser) × (Has t.core.subparsers n x × IsPast s.core.source j x)) m left was.past;
    none = λ end. absurd (omega (arith, end, next-past.1.1.within));
  }

  -- one whose kinds are shifted
  pub shift-kinds : AreNumbers s.core.subparsers gone → (c : Sets) (more : List Line) (u : Steps) (x : Subparser) (k : ℕ) (kinds : List ℕ) → Has t.core.subparsers m x → x.phase ≡ Named k
      → HasMade t.core (Classify m) u.core kinds → GoesOn b c added more (j + 1) t u → IsShifting a c lines more j s u gone (made ++ kinds) left
  shift-kinds first c more u x k kinds has named is_made goes = record {
    goes = goes-then a b c lines added more (j + 1) s t u was.goes goes;
    replaces = after;
    numbers = numbers-after s.core.subparsers u.core.subparsers gone ((made ++ kinds) ++ left) after first;
    behind = each-append (IsBetween (j + 1)) u.core.subparsers made kinds
        (each-kept (IsBetween (j + 1)) t.core.subparsers u.core.subparsers (m ∷ []) kinds made replaces was.behind (apart-left t.core.subparsers made m left was.numbers))
        (made-each (IsBetween (j + 1)) t.core u.core (Classify m) kinds is_made (classify-pieces t.core.source t.core.subparsers m j x is_made.pieces has (next-named x k has named) is_made.makes));
    past = each-kept (IsPast s.core.source j) t.core.subparsers u.core.subparsers (m ∷ []) kinds left replaces
        (All-tail (λ n. (x : Subparser) × (Has t.core.subparsers n x × IsPast s.core.source j x)) m left was.past) (apart-right t.core.subparsers made m left was.numbers);
    none = λ end. absurd (omega (arith, end, next-past.1.1.within));
  }
    where
      replaces : Replaces t.core.subparsers u.core.subparsers (m ∷ []) kinds
      replaces = event-replaces t.core u.core (Classify m) kinds is_made (one-number t.core.subparsers m x has)

      after : Replaces s.core.subparsers u.core.subparsers gone ((made ++ kinds) ++ left)
      after =
          replaces-then s.core.subparsers t.core.subparsers u.core.subparsers gone (made ++ m ∷ left) (m ∷ []) kinds gone ((made ++ kinds) ++ left) was.replaces replaces
          (λ n. omega (arith, times-append n made (m ∷ left), times-append n (made ++ kinds) left, times-append n made kinds))
          (λ n none. none) (λ n none no_made. omega (arith, no_made, times-append n made (m ∷ left)))

-- ---- all of a row

-- what becomes of a row whose subparsers are first reduced and then shifted
pub shifted-then : (a b c : Sets) (lines added more : List Line) (j : ℕ) (s t u : Steps) (row ready made : List ℕ) → Replaces s.core.subparsers t.core.subparsers row ready
    → GoesOn a b lines added (j + 1) s t → HasShifted b c added more j t u ready made → HasShifted a c lines more j s u row made
shifted-then a b c lines added more j s t u row ready made replaces goes shifted = record {
  goes_on = goes-then a b c lines added more (j + 1) s t u goes shifted.goes_on;
  replaces =
      replaces-then s.core.subparsers t.core.subparsers u.core.subparsers row ready ready made row made replaces shifted.replaces (λ n. omega arith) (λ n none. none) (λ n none no_made. no_made);
  behind = shifted.behind;
  none = λ end. shifted.none (end ∙ ap (λ (x : Source). length x.list.now) (sym goes.source));
}
