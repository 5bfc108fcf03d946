-- What becomes of the subparsers when one element is taken.
use Rattle.std.proofs.Common.{◌≡◌, ℕ, zero, suc, ◌+◌, ◌<◌, ◌≤◌, Bool, true, false, List, [], ◌∷◌, All, drop, length, map, Option, Some, inl, inr, if◌then◌else◌, refl, sym, ap, ◌∙◌, subst, arith, add-one}
use Rattle.std.specs.Global.{Vec}
use Rattle.std.specs.List.{position_or_len}
use Rattle.std.specs.Prelude.{not, slice_get}
use Rattle.std.proofs.lemmas.Bool.{cases_lt}
use Rattle.std.proofs.lemmas.List.Elements.{All-cons, All-head, All-nil, All-tail, All-weaker}
use Rattle.std.proofs.lemmas.Option.{same_Some}
use Rattle.c11_parsing.specs.Classes.{class_of, Class, Input, left_from, next_from, project}
use Rattle.c11_parsing.specs.Core as core
use Rattle.c11_parsing.specs.Trees.{Condition}
use Rattle.sc_fork.specs.Cores.{event_of}
use Rattle.sc_fork.specs.declared.piece.Ended.{Ended}
use Rattle.sc_fork.specs.declared.source.Source.{Source}
use Rattle.sc_fork.specs.Enabled.{Has}
use Rattle.sc_merge.specs.declared.subparser.Phase.TheVariants.{At}
use Rattle.sc_merge.specs.declared.subparser.Subparser.{Subparser}
use Rattle.sc_merge.specs.Merges.{tables_with}
use Rattle.sc_model.specs.Sets.{IsConfig, Sets}
use Rattle.sc_model.specs.Token.{Token}
use Rattle.sc_parse.proofs.NumberLemmas.{each-kept, each-of, each-then, filled-most}
use Rattle.sc_parse.proofs.PartLemmas.{place-within}
use Rattle.sc_parse.proofs.PlaceLemmas.{place-at, place-more}
use Rattle.sc_parse.proofs.RowLemmas.{apart-kept, each-in, row-times}
use Rattle.sc_parse.proofs.RunLemmas.{goes-then, waiting-kept}
use Rattle.sc_parse.specs.declared.rows.Rows.{Rows}
use Rattle.sc_parse.specs.declared.steps.Steps.{Steps}
use Rattle.sc_parse.specs.Filed.{AreAllFiled, AreFiled, HasNoneBefore, numbers_in}
use Rattle.sc_parse.specs.Numbers.{AreNumbers, Each, filled_at, IsAt, IsBetween, Replaces, times}
use Rattle.sc_parse.specs.Runs.{AreWaiting, EndsBefore, GoesOn, HaveEndedBefore, IsOfClass, IsRun, IsWaiting, OwnsSteps}
use Rattle.sc_parse.specs.Places.{HasPlace}
use Rattle.sc_parse.specs.Turns.{IsAtPlace}
use Rattle.sc_tree.specs.Lines.{Line}

-- ---- from a place to the next one

module _ (c : List ℕ) where
  abbrev position : List (Condition × Token) → ℕ
  position items = position_or_len (λ (item : Condition × Token). item.0 c) items

  -- where another element comes next, as much is left
  left-later : (items : List (Condition × Token)) (i : ℕ) → (position (drop i items) ≡ 0 → ⊥) → project c (drop i items) ≡ project c (drop (suc i) items)
  left-later [] zero moves = refl
  left-later [] (suc i) moves = refl
  left-later (item ∷ items) zero moves = by (item.0 c) refl
    where
      by : (b : Bool) → item.0 c ≡ b → project c (item ∷ items) ≡ project c items
      by true e = absurd (moves (ap (λ b. if not b then 1 + position items else 0) e))
      by false e = ap (λ b. if b then item.1 ∷ project c items else project c items) e
  left-later (item ∷ items) (suc i) moves = left-later items i moves

  next-later : (items : List (Condition × Token)) (i : ℕ) → (position (drop i items) ≡ 0 → ⊥) → suc i + position (drop (suc i) items) ≡ i + position (drop i items)
  next-later [] zero moves = absurd (moves refl)
  next-later [] (suc i) moves = absurd (moves refl)
  next-later (item ∷ items) zero moves = by (item.0 c) refl
    where
      by : (b : Bool) → item.0 c ≡ b → 1 + position items ≡ 0 + position (item ∷ items)
      by true e = absurd (moves (ap (λ b. if not b then 1 + position items else 0) e))
      by false e = omega (arith, ap (λ b. if not b then 1 + position items else 0) e)
  next-later (item ∷ items) (suc i) moves = omega (arith, next-later items i moves)

  -- no more is left
  left-fewer : (items : List (Condition × Token)) (i : ℕ) → length (project c (drop (suc i) items)) ≤ length (project c (drop i items))
  left-fewer [] zero = omega arith
  left-fewer [] (suc i) = omega arith
  left-fewer (item ∷ items) zero = by (item.0 c)
    where
      by : (b : Bool) → length (project c items) ≤ length (if b then item.1 ∷ project c items else project c items)
      by true = omega arith
      by false = omega arith
  left-fewer (item ∷ items) (suc i) = left-fewer items i

class-later : (input : Input) (i : ℕ) (c : List ℕ) (s : Subparser) (next : ℕ) → i < next → IsOfClass input i c s next → IsOfClass input (suc i) c s next
class-later input i c s next low was =
    let at : next_from input i c ≡ next = ap (λ (k : Class). k.next) was.class in
    let moves : position c (drop i input.items) ≡ 0 → ⊥ = λ none. absurd (omega (arith, at, none, low)) in
    record {
      run = was.run;
      live = record {
        is_config = was.live.is_config;
        unrefused = was.live.unrefused;
        reached = was.live.reached;
        phase = was.live.phase;
        left = was.live.left ∙ left-later c input.items i moves;
      };
      class = ap (λ (n : ℕ). record (class_of input i c was.run) { next = n }) (next-later c input.items i moves) ∙ was.class;
    }

waiting-later : (sets : Sets) (input : Input) (i k : ℕ) (s : Subparser) → IsWaiting sets input i s → IsAt k s → i < k → IsWaiting sets input (i + 1) s
waiting-later sets input i k s was at low =
    let same : At was.next ≡ At k = sym was.phase ∙ at in
    let next : was.next ≡ k = cc in
    record {
      next = was.next;
      phase = was.phase;
      each = λ c config has. subst (λ m. IsOfClass input m c s was.next) (sym (add-one i)) (class-later input i c s was.next (omega (arith, next, low)) (was.each c config has));
    }

ended-later : (sets : Sets) (input : Input) (i : ℕ) (ended : List Ended) → HaveEndedBefore sets input i ended → HaveEndedBefore sets input (i + 1) ended
ended-later sets input i ended have =
    All-weaker (λ (e : Ended). (c : List ℕ) → IsConfig input.arities c → sets.has e.cond.0 c ≡ true → EndsBefore input i c)
    (λ (e : Ended). (c : List ℕ) → IsConfig input.arities c → sets.has e.cond.0 c ≡ true → EndsBefore input (i + 1) c)
    (λ e was c config has.
    let one = was c config has in
    record {
      run = one.run;
      reached = one.reached;
      answer = one.answer;
      last = one.last;
      more = subst (λ m. length (left_from input m c) < length one.run.left) (sym (add-one i)) (omega (arith, one.more, left-fewer c input.items i));
    }) ended have

-- ---- the rows

each-both : (P Q : Subparser → Type 0) (rows : List (Option Subparser)) (ns : List ℕ) → Each P rows ns → Each Q rows ns → Each (λ s. P s × Q s) rows ns
each-both P Q rows ns one two = λ i d below.
    let p = one i d below in
    let q = two i d below in
    let same : q.0 ≡ p.0 = same_Some q.0 p.0 (same_Some (Some q.0) (Some p.0) (sym q.1.0 ∙ p.1.0)) in
    (p.0, (p.1.0, (p.1.1, subst Q same q.1.1)))

-- this element or one behind it comes next
abbrev IsFrom : ℕ → Subparser → Type 0
IsFrom i s = (k : ℕ) × ((i ≤ k) × IsAt k s)

rows-from : (subparsers : List (Option Subparser)) (r : Rows) (i : ℕ) → AreFiled subparsers r → HasNoneBefore r i → Each (IsFrom i) subparsers (numbers_in r)
rows-from subparsers r i filed none = each-in (IsFrom i) subparsers r.rows.items by
  where
    Q : ℕ → Type 0
    Q n = (s : Subparser) × (Has subparsers n s × IsFrom i s)

    by : (k : ℕ) (row : Vec ℕ) → slice_get r.rows.items k ≡ Some row → Each (IsFrom i) subparsers row.items
    by k row is = elim (cases_lt k i) [
      | inl low ↦ subst (All (λ n. (s : Subparser) × (Has subparsers n s × IsFrom i s))) (sym (none.empty k row low is)) (All-nil (λ n. (s : Subparser) × (Has subparsers n s × IsFrom i s)))
      | inr high ↦ each-then (IsAt k) (IsFrom i) subparsers row.items (λ s at. (k, (high, at))) (filed.at k row is)
    ]

-- rows whose subparsers stay are as they were
filed-kept : (old new : List (Option Subparser)) (r : Rows) (gone made : List ℕ) → AreFiled old r → Replaces old new gone made → ((n : ℕ) → 0 < times n (numbers_in r) → times n gone ≡ 0)
    → AreFiled new r
filed-kept old new r gone made filed replaces stays = record {
  at = λ k row is. each-kept (IsAt k) old new gone made row.items replaces (filed.at k row is) (λ n some. stays n (omega (arith, some, row-times r.rows.items k n row is)));
  apart = λ k row is.
      apart-kept (IsAt k) old new gone made row.items replaces (filed.at k row is) (λ n some. stays n (omega (arith, some, row-times r.rows.items k n row is))) (filed.apart k row is);
  count = filed.count;
  few = filed.few;
}

-- ---- a turn

-- The subparsers that come of the row of an element are behind it: some are in the rows, with all
-- others, and the rest is left.
pub record ArePutBack (old new : Sets) (lines added : List Line) (before after : Steps) (r now : Rows) (at : ℕ) (left : List ℕ) : Type 0 where
  pub goes : GoesOn old new lines added (at + 1) before after
  pub filed : AreFiled after.core.subparsers now
  pub all : (n : ℕ) → times n left + times n (numbers_in now) ≡ filled_at after.core.subparsers n
  pub done : HasNoneBefore now (at + 1)
  pub long : length now.rows.items ≡ length after.core.source.list.now + 1
  pub limit : now.branches ≡ r.branches
  pub between : Each (IsBetween (at + 1)) after.core.subparsers left
  pub waiting : (names files : List (List ℕ)) (input : Input) (first : core.Core) → IsAtPlace (tables_with old lines names files) input first before r at
      → at + 1 < length input.items + 1 → AreWaiting new input (at + 1) after.core.subparsers (numbers_in now)

-- the row is taken, and what comes of it is left
pub turn-begins : (a b : Sets) (lines added : List Line) (s t : Steps) (r taken : Rows) (at : ℕ) (row left : List ℕ) → OwnsSteps a (length lines) s → AreAllFiled s.core r at
    → ((n : ℕ) → times n (numbers_in taken) + times n row ≡ times n (numbers_in r)) → AreFiled s.core.subparsers taken → HasNoneBefore taken (at + 1)
    → length taken.rows.items ≡ length r.rows.items → taken.branches ≡ r.branches → GoesOn a b lines added (at + 1) s t → Replaces s.core.subparsers t.core.subparsers row left
    → Each (IsBetween (at + 1)) t.core.subparsers left → ArePutBack a b lines added s t r taken at left
turn-begins a b lines added s t r taken at row left own was parts filed none long limit goes replaces between = record {
  goes = goes;
  filed = filed-kept s.core.subparsers t.core.subparsers taken row left filed replaces stays;
  all = λ n. omega (arith, replaces.counts n, was.all n, parts n);
  done = none;
  long = long ∙ was.long ∙ ap (λ (x : Source). length x.list.now + 1) (sym goes.source);
  limit = limit;
  between = between;
  waiting = λ names files input first place within.
      waiting-kept a b lines added (at + 1) s t names files input first row left (numbers_in taken) goes own place.run replaces (later input (place.waiting (omega (arith, within)))) stays;
}
  where
    stays : (n : ℕ) → 0 < times n (numbers_in taken) → times n row ≡ 0
    stays n some = omega (arith, some, parts n, was.all n, filled-most s.core.subparsers n)

    later : (input : Input) → AreWaiting a input at s.core.subparsers (numbers_in r) → AreWaiting a input (at + 1) s.core.subparsers (numbers_in taken)
    later input waits =
        each-then (λ x. IsWaiting a input at x × IsFrom (at + 1) x) (IsWaiting a input (at + 1)) s.core.subparsers (numbers_in taken)
        (λ x both. waiting-later a input at both.1.0 x both.0 both.1.1.1 (omega (arith, both.1.1.0)))
        (each-both (IsWaiting a input at) (IsFrom (at + 1)) s.core.subparsers (numbers_in taken)
        (each-of (IsWaiting a input at) s.core.subparsers (numbers_in r) (numbers_in taken) waits (λ n empty. omega (arith, empty, parts n)))
        (rows-from s.core.subparsers taken (at + 1) filed none))

pub turn-next : {a b : Sets} {lines added : List Line} {s t : Steps} {r now : Rows} {at : ℕ} {items : List ℕ} {m : ℕ} {left : List ℕ} → items ≡ m ∷ left
    → ArePutBack a b lines added s t r now at items → ArePutBack a b lines added s t r now at (m ∷ left)
turn-next {a} {b} {lines} {added} {s} {t} {r} {now} {at} is was = subst (ArePutBack a b lines added s t r now at) is was

module _ {a b : Sets} {lines added : List Line} {s t : Steps} {r now : Rows} {at m : ℕ} {left : List ℕ} (was : ArePutBack a b lines added s t r now at (m ∷ left)) where
  pub next-numbers : AreNumbers t.core.subparsers (m ∷ numbers_in now)
  next-numbers = record { once = λ n. omega (arith, was.all n) }

  pub next-between : Each (IsBetween (at + 1)) t.core.subparsers (m ∷ [])
  next-between = All-cons (λ n. (x : Subparser) × (Has t.core.subparsers n x × IsBetween (at + 1) x)) m []
      (All-head (λ n. (x : Subparser) × (Has t.core.subparsers n x × IsBetween (at + 1) x)) m left was.between) (All-nil (λ n. (x : Subparser) × (Has t.core.subparsers n x × IsBetween (at + 1) x)))

  pub next-waits : (names files : List (List ℕ)) (input : Input) (first : core.Core) → IsAtPlace (tables_with a lines names files) input first s r at
      → AreWaiting b input (at + 1) t.core.subparsers (numbers_in now)
  next-waits names files input first place =
      let run = was.goes.run names files input first place.run in
      was.waiting names files input first place (place-within b added m (at + 1) t names files input first was.goes.own run next-between)

  pub turn-more : (c : Sets) (more : List Line) (u : Steps) (after : Rows) → GoesOn b c added more (at + 1) t u
      → Replaces t.core.subparsers u.core.subparsers (m ∷ numbers_in now) (numbers_in after) → AreFiled u.core.subparsers after → HasNoneBefore after (at + 1)
      → length after.rows.items ≡ length now.rows.items → after.branches ≡ now.branches
      → ((names files : List (List ℕ)) (input : Input) (first : core.Core) → IsRun (tables_with b added names files) input first t → AreWaiting b input (at + 1) t.core.subparsers (numbers_in now)
      → AreWaiting c input (at + 1) u.core.subparsers (numbers_in after))
      → ArePutBack a c lines more s u r after at left
  turn-more c more u after goes replaces filed none long limit waits = record {
    goes = goes-then a b c lines added more (at + 1) s t u was.goes goes;
    filed = filed;
    all = λ n. omega (arith, replaces.counts n, was.all n);
    done = none;
    long = long ∙ was.long ∙ ap (λ (x : Source). length x.list.now + 1) (sym goes.source);
    limit = limit ∙ was.limit;
    between = each-kept (IsBetween (at + 1)) t.core.subparsers u.core.subparsers (m ∷ numbers_in now) (numbers_in after) left replaces
        (All-tail (λ n. (x : Subparser) × (Has t.core.subparsers n x × IsBetween (at + 1) x)) m left was.between)
        (λ n some. omega (arith, some, was.all n, filled-most t.core.subparsers n));
    waiting = λ names files input first place within.
        waits names files input first (was.goes.run names files input first place.run) (was.waiting names files input first place within);
  }

pub turn-ends : {a b : Sets} {lines added : List Line} {s t : Steps} {r now : Rows} {at : ℕ} {items : List ℕ} → items ≡ [] → ArePutBack a b lines added s t r now at items
    → ArePutBack a b lines added s t r now at []
turn-ends {a} {b} {lines} {added} {s} {t} {r} {now} {at} is was = subst (ArePutBack a b lines added s t r now at) is was

module _ {a b : Sets} {lines added : List Line} {s t : Steps} {r now : Rows} {at : ℕ} (was : ArePutBack a b lines added s t r now at []) where
  pub turn-filed : AreAllFiled t.core now (at + 1)
  turn-filed = record { filed = was.filed; all = λ n. omega (arith, was.all n); done = was.done; long = was.long }

  pub turn-place : (names files : List (List ℕ)) (input : Input) (first : core.Core) → IsAtPlace (tables_with a lines names files) input first s r at
      → IsAtPlace (tables_with b added names files) input first t now (at + 1)
  turn-place names files input first place = record {
    run = run;
    waiting = was.waiting names files input first place;
    ended = ended;
    places = places;
  }
    where
      run : IsRun (tables_with b added names files) input first t
      run = was.goes.run names files input first place.run

      ended : at + 1 < length input.items + 1 → HaveEndedBefore b input (at + 1) t.core.ended
      ended within = was.goes.ended names files input first place.run within (ended-later a input at s.core.ended (place.ended (omega (arith, within))))

      places : (k : ℕ) → k ≤ at + 1 → k < length input.items + 1 → HasPlace input first (map event_of t.events.items) k
      places k up within = elim (cases_lt k (at + 1)) [
        | inl low ↦ place-more input first (map event_of s.events.items) was.goes.more (map event_of t.events.items) k was.goes.events (place.places k (omega (arith, low)) within)
        | inr high ↦
            let same : at + 1 ≡ k = omega (arith, up, high) in
            subst (HasPlace input first (map event_of t.events.items)) same
            (let in_list : at + 1 < length input.items + 1 = omega (arith, within, same) in
            place-at (tables_with b added names files) input first t now (at + 1) (at + 1) run turn-filed (was.waiting names files input first place in_list) (ended in_list))
      ]
