-- What waits at a place: each configuration that is live there, in one subparser of its class.
use Rattle.std.proofs.Common.{◌≡◌, ℕ, suc, max, ◌+◌, ◌<◌, ◌≤◌, Bool, true, false, List, [], ◌∷◌, ◌++◌, All, length, map, slice_get, take, Option, Some, None, Result, inl, inr, refl, sym, ap, ◌∙◌, subst, arith, length-append}
use Rattle.std.specs.Prelude.{AllPairs}
use Rattle.std.specs.List.{Contains}
use Rattle.std.proofs.lemmas.Bool.{cases_lt}
use Rattle.std.proofs.lemmas.Bool.Decides.{eqb_tells}
use Rattle.std.proofs.lemmas.Int.{clamps}
use Rattle.std.proofs.lemmas.List.{take_all, take-append-le}
use Rattle.std.proofs.lemmas.List.Elements.{All-contains, All-head, All-tail, All-weaker, Contains-append_cases}
use Rattle.std.proofs.lemmas.Option.{get_or_from_slice_get, slice_get_within}
use Rattle.c11_parsing.proofs.Events.{left-passed}
use Rattle.c11_parsing.proofs.OneAnswer.{one_way}
use Rattle.c11_parsing.proofs.OneClass.{reaches-most, waits, work}
use Rattle.c11_parsing.specs.Classes.{AreDistinct, Class, Input, IsClass, IsLive, left_from, next_from, project}
use Rattle.c11_parsing.specs.Core as core
use Rattle.c11_parsing.specs.Core.{condition_of, CoreRun, count, filled, going, index_of, over, pieces_of}
use Rattle.c11_parsing.specs.LR.{answered, here, later, on, Point, Reaches, Run, start, step}
use Rattle.c11_parsing.specs.Parser.{Parser}
use Rattle.c11_parsing.specs.Trees.{Tree}
use Rattle.lr_tables.proofs.Members.{cons_cases, cons_head, cons_tail, map_member, no_member}
use Rattle.sc_fork.specs.Cores.{event_of}
use Rattle.sc_fork.specs.Enabled.{Has}
use Rattle.sc_fork.specs.Seen.{IsSeen}
use Rattle.sc_merge.specs.declared.subparser.Phase.TheVariants.{At}
use Rattle.sc_merge.specs.declared.subparser.Subparser.{Subparser}
use Rattle.sc_merge.specs.Phases.{phase_of}
use Rattle.sc_model.specs.Fault.{Fault}
use Rattle.sc_model.specs.Sets.{IsConfig}
use Rattle.sc_model.specs.Token.{Place}
use Rattle.sc_parse.proofs.ClassLemmas.{class_with, distinct, IsOfNumber}
use Rattle.sc_parse.proofs.EventLemmas.{ended-seen, EndsAll, row-kept, run-stands-seen}
use Rattle.sc_parse.proofs.NumberLemmas.{all-times, filled as is-filled, one_if}
use Rattle.sc_parse.proofs.RowLemmas.{all-apart, pairs-head, pairs-tail}
use Rattle.sc_parse.specs.declared.rows.Rows.{Rows}
use Rattle.sc_parse.specs.declared.steps.Steps.{Steps}
use Rattle.sc_parse.specs.Filed.{AreAllFiled, numbers_in}
use Rattle.sc_parse.specs.Numbers.{AreApart, filled_at, times}
use Rattle.sc_parse.specs.MostClasses.{HasMostClasses}
use Rattle.sc_parse.specs.Places.{HasPlace, HasShifted}
use Rattle.sc_parse.specs.Runs.{AreWaiting, EndsBefore, HaveEndedBefore, IsRun, IsWaiting}
use Rattle.sc_parse.specs.Turns.{HasMostBefore}
use Rattle.sc_tree.specs.Reads.{Tables}

-- ---- lists

row-member : {A : Type 0} (xs : List A) (n : ℕ) (x : A) → slice_get xs n ≡ Some x → Contains xs x
row-member xs n x at = (n, slice_get_within xs n x at, get_or_from_slice_get xs n x x at)

pairs-weaker : {A : Type 0} (R S : A → A → Type 0) → ((x y : A) → R x y → S x y) → (xs : List A) → AllPairs R xs → AllPairs S xs
pairs-weaker R S by xs pairs = λ i j d low below. by _ _ (pairs i j d low below)

-- the list with the number once less
record IsLess (n : ℕ) (ns : List ℕ) : Type 0 where
  pub rest : List ℕ
  pub long : length ns ≡ 1 + length rest
  pub others : (m : ℕ) → (m ≡ n → ⊥) → times m rest ≡ times m ns

less : (n : ℕ) (ns : List ℕ) → 0 < times n ns → IsLess n ns
less n [] some = absurd (omega (arith, some))
less n (x ∷ ns) some = elim (eqb_tells n x) [
  | inl same ↦ record {
    rest = ns;
    long = omega arith;
    others = λ m other. elim (eqb_tells m x) [ inl at ↦ absurd (other (at.1 ∙ sym same.1)) | inr apart ↦ omega (arith, ap one_if apart.0) ];
  }
  | inr other ↦
      let left = less n ns (omega (arith, some, ap one_if other.0)) in
      record { rest = x ∷ left.rest; long = omega (arith, left.long); others = λ m apart. omega (arith, left.others m apart) }
]

-- Each has a number, and no two have one number: there are no more than numbers.
pub pigeon : {A : Type 0} (Of : A → ℕ → Type 0) (xs : List A) (ns : List ℕ) → All (λ x. (n : ℕ) × (0 < times n ns × Of x n)) xs
    → AllPairs (λ x y. (n : ℕ) → Of x n → Of y n → ⊥) xs → length xs ≤ length ns
pigeon Of [] ns each apart = omega arith
pigeon {A} Of (x ∷ xs) ns each apart =
    let Held : List ℕ → A → Type 0 = λ ms y. (n : ℕ) × (0 < times n ms × Of y n) in
    let R : A → A → Type 0 = λ y z. (n : ℕ) → Of y n → Of z n → ⊥ in
    let mine = All-head (Held ns) x xs each in
    let left = less mine.0 ns mine.1.0 in
    let others : All (R x) xs = pairs-head R x xs apart in
    let rest : All (Held left.rest) xs =
    λ k d below.
    let of = All-tail (Held ns) x xs each k d below in
    (of.0, (omega (arith, of.1.0, left.others of.0 (λ same. others k d below mine.0 mine.1.1 (subst (Of _) same of.1.1))), of.1.1))
    in
    omega (arith, left.long, pigeon Of xs left.rest rest (pairs-tail R x xs apart))

rows-few : (rows : List (Option core.Subparser)) (a : ℕ) (ns : List ℕ) → ((n : ℕ) (t : core.Subparser) → slice_get rows n ≡ Some (Some t) → 0 < times (a + n) ns)
    → length (filled rows) ≤ length ns
rows-few [] a ns full = omega arith
rows-few (None ∷ rows) a ns full =
    rows-few rows (a + 1) ns (λ n t at. subst (λ m. 0 < times m ns) (let same : a + suc n ≡ (a + 1) + n = omega arith in same) (full (suc n) t at))
rows-few (Some t ∷ rows) a ns full =
    let left = less (a + 0) ns (full 0 t refl) in
    let rest = rows-few rows (a + 1) left.rest (λ n u at.
    let more : 0 < times (a + suc n) ns = full (suc n) u at in
    let kept : times (a + suc n) left.rest ≡ times (a + suc n) ns = left.others (a + suc n) (λ same. omega (arith, same)) in
    subst (λ m. 0 < times m left.rest) (let same : a + suc n ≡ (a + 1) + n = omega arith in same) (omega (arith, more, kept))) in
    omega (arith, left.long, rest)

at-named : (i j : ℕ) → core.at i ≡ core.named j → ⊥
at-named i j e = absurd (cc)

at-same : (i j : ℕ) → At i ≡ At j → i ≡ j
at-same i j e = cc

same_row : (rows : List (Option Subparser)) (n : ℕ) (s t : Subparser) → Has rows n s → Has rows n t → s ≡ t
same_row rows n s t has_s has_t = cc

-- ---- what is live at a place has not ended before it

no-way : (m : Parser) (end : Place) (x : Point) (a : Result Tree Fault) (r : Run) → x ≡ answered a → Reaches m end x (on r) → ⊥
no-way m end _ a r e here = absurd (cc)
no-way m end _ a r e (later {r = q} d) = absurd (cc)

-- behind a step that answers nothing comes
last-stays : (m : Parser) (end : Place) (q r : Run) (a : Result Tree Fault) → step m end q ≡ answered a → Reaches m end (on q) (on r) → q.left ≡ r.left
last-stays m end q _ a last here = refl
last-stays m end q r a last (later d) = absurd (no-way m end (step m end q) a r last d)

pub ends-not-live : (input : Input) (i : ℕ) (c : List ℕ) (r : Run) → EndsBefore input i c → IsLive input i c r → ⊥
ends-not-live input i c r ends live =
    let fewer : length r.left < length ends.run.left = subst (λ ts. length ts < length ends.run.left) (sym live.left) ends.more in
    elim (one_way input.parser input.end (on (start (project c input.items))) (on ends.run) (on r) ends.reached live.reached) [
      | inl to ↦ omega (arith, fewer, ap length (last-stays input.parser input.end ends.run r ends.answer ends.last to))
      | inr back ↦ omega (arith, fewer, reaches-most input.parser input.end (work r) (on r) (on ends.run) (omega arith) back, ap waits live.phase)
    ]

-- ---- in which subparser it is

found-piece : (c : List ℕ) (pieces : List core.Piece) → 0 < count c pieces → (p : core.Piece) × (Contains pieces p × (condition_of p c ≡ true))
found-piece c [] some = absurd (omega (arith, some))
found-piece c (p ∷ pieces) some = by (condition_of p c) refl (found-piece c pieces)
  where
    by : (b : Bool) → condition_of p c ≡ b → (0 < count c pieces → (q : core.Piece) × (Contains pieces q × (condition_of q c ≡ true)))
        → (q : core.Piece) × (Contains (p ∷ pieces) q × (condition_of q c ≡ true))
    by true has rest = (p, (cons_head p pieces, has))
    by false lacks more =
        let rest = more (omega (arith, some, ap one_if lacks)) in
        (rest.0, (cons_tail p rest.0 pieces rest.1.0, rest.1.1))

record IsRow (rows : List (Option core.Subparser)) (p : core.Piece) : Type 0 where
  pub number : ℕ
  pub subparser : core.Subparser
  pub at : slice_get rows number ≡ Some (Some subparser)
  pub is : p ≡ going subparser

found-row : (rows : List (Option core.Subparser)) (p : core.Piece) → Contains (filled rows) p → IsRow rows p
found-row [] p has = absurd (no_member p has)
found-row (None ∷ rows) p has =
    let row = found-row rows p has in
    record { number = suc row.number; subparser = row.subparser; at = row.at; is = row.is }
found-row (Some t ∷ rows) p has = elim (cons_cases (going t) p (filled rows) has) [
  | inl first ↦ record { number = 0; subparser = t; at = refl; is = sym first }
  | inr rest ↦ let row = found-row rows p rest in record { number = suc row.number; subparser = row.subparser; at = row.at; is = row.is }
]

-- the configuration is one of a subparser, which is seen so
pub record IsHeld (w : Tables) (input : Input) (c : List ℕ) (s : Steps) (seen : core.Core) : Type 0 where
  pub number : ℕ
  pub subparser : Subparser
  pub has : Has s.core.subparsers number subparser
  pub other : core.Subparser
  pub at : slice_get seen.rows number ≡ Some (Some other)
  pub is : IsSeen w input subparser other
  pub holds : other.condition c ≡ true

module _ (w : Tables) (input : Input) (first : core.Core) (s : Steps) (i : ℕ) (run : IsRun w input first s) where
  -- what is live at the place is held, where all that has ended has ended before it
  pub live-held : HaveEndedBefore w.sets input i s.core.ended → (c : List ℕ) (r : Run) → IsLive input i c r → IsHeld w input c s run.last
  live-held ended c r live =
      let stands = run-stands-seen w input first s run in
      let one : count c (pieces_of run.last) ≡ 1 = stands.counted c live.is_config ∙ ap one_if live.unrefused in
      let piece = found-piece c (pieces_of run.last) (omega (arith, one)) in
      elim (Contains-append_cases (filled run.last.rows) (map over run.last.ended) piece.0 piece.1.0) [
        | inl going_on ↦
            let row = found-row run.last.rows piece.0 going_on in
            let kept = row-kept w input s.core.subparsers run.last.rows row.number row.subparser run.is.rows row.at in
            record {
              number = row.number;
              subparser = kept.0;
              has = kept.1.0;
              other = row.subparser;
              at = row.at;
              is = kept.1.1;
              holds = ap (λ p. condition_of p c) (sym row.is) ∙ piece.1.1;
            }
        | inr past ↦
            let e = map_member over piece.0 run.last.ended past in
            let all = ended-seen w input i s.core.ended run.last.ended run.is.ended ended in
            let has : e.0.condition c ≡ true = ap (λ p. condition_of p c) e.2 ∙ piece.1.1 in
            absurd (ends-not-live input i c r (All-contains (EndsAll input i) run.last.ended e.0 all e.1 c live.is_config has) live)
      ]

  module _ (numbers : List ℕ) (all : (n : ℕ) → times n numbers ≡ filled_at s.core.subparsers n) (waits : AreWaiting w.sets input i s.core.subparsers numbers) where
    waiting-of : (n : ℕ) (t : Subparser) → Has s.core.subparsers n t → IsWaiting w.sets input i t
    waiting-of n t has =
        let found = all-times (λ m. (u : Subparser) × (Has s.core.subparsers m u × IsWaiting w.sets input i u)) numbers n waits (omega (arith, all n, is-filled s.core.subparsers n t has)) in
        let same : found.0 ≡ t = cc in
        subst (IsWaiting w.sets input i) same found.1.1

    -- it has shifted all elements before the place
    held-shifted : (c : List ℕ) → IsConfig input.arities c → IsHeld w input c s run.last → HasShifted input c run.last i
    held-shifted c config held =
        let waiting = waiting-of held.number held.subparser held.has in
        let has : w.sets.has held.subparser.cond.0 c ≡ true = sym (held.is.has c config) ∙ held.holds in
        let class = waiting.each c config has in
        let phase : held.other.phase ≡ core.at waiting.next = held.is.phase ∙ ap phase_of waiting.phase in
        let next : next_from input i c ≡ waiting.next = ap (λ (k : Class). k.next) class.class in
        record {
          subparser = held.other;
          member = row-member run.last.rows held.number (Some held.other) held.at;
          has = held.holds;
          not_named = λ j named. at-named waiting.next j (sym phase ∙ named);
          left = ap (λ (p : core.Phase). left_from input (index_of p) c) phase ∙ ap (λ j. left_from input j c) (sym next) ∙ left-passed input i c;
        }

    -- it is of the class of a number
    held-number : (c : List ℕ) → IsConfig input.arities c → IsHeld w input c s run.last → (n : ℕ) × (0 < times n numbers × IsOfNumber input i s.core.subparsers c n)
    held-number c config held =
        let waiting = waiting-of held.number held.subparser held.has in
        let has : w.sets.has held.subparser.cond.0 c ≡ true = sym (held.is.has c config) ∙ held.holds in
        let class = waiting.each c config has in (
          held.number,
          (
            omega (arith, all held.number, is-filled s.core.subparsers held.number held.subparser held.has),
            record { subparser = held.subparser; has = held.has; next = waiting.next; phase = waiting.phase; class = record { run = class.run; live = class.live; is = sym class.class } },
          ),
        )

    module _ (ended : HaveEndedBefore w.sets input i s.core.ended) where
      -- there are no more classes than numbers
      pub classes-few : (configs : List (List ℕ)) → AreDistinct input i configs → length configs ≤ length numbers
      classes-few configs are =
          pigeon (λ c n. IsOfNumber input i s.core.subparsers c n) configs numbers
          (All-weaker (λ c. (class : Class) × IsClass input i c class) (λ c. (n : ℕ) × (0 < times n numbers × IsOfNumber input i s.core.subparsers c n))
          (λ c of. held-number c of.1.live.is_config (live-held ended c of.1.run of.1.live)) configs are.classes)
          (pairs-weaker (λ c d. (class : Class) → IsClass input i c class → IsClass input i d class → ⊥)
          (λ c d. (n : ℕ) → IsOfNumber input i s.core.subparsers c n → IsOfNumber input i s.core.subparsers d n → ⊥)
          (λ c d differ n one two.
          let same : one.subparser ≡ two.subparser = same_row s.core.subparsers n one.subparser two.subparser one.has two.has in
          let next : one.next ≡ two.next = at-same one.next two.next (sym one.phase ∙ ap (λ (t : Subparser). t.phase) same ∙ two.phase) in
          let class : class_with one.subparser one.next ≡ class_with two.subparser two.next = ap (λ t. class_with t one.next) same ∙ ap (class_with two.subparser) next in
          differ (class_with two.subparser two.next) (subst (IsClass input i c) class one.class) two.class)
          configs are.different)

      pub place-reached : AreApart s.core.subparsers numbers → HasPlace input first (map event_of s.events.items) i
      place-reached apart =
          let events = map event_of s.events.items in
          let classes = distinct w input first i s run numbers waits apart in
          record {
            count = length events;
            within = omega arith;
            seen = run.last;
            run = subst (λ es. CoreRun input first es run.last) (sym (take_all (length events) events (omega arith))) run.run;
            each = λ c r live. held-shifted c live.is_config (live-held ended c r live);
            configs = classes.configs;
            distinct = classes.distinct;
            few = omega (
              arith,
              classes.many,
              rows-few run.last.rows 0 numbers (λ n t at.
                  let kept = row-kept w input s.core.subparsers run.last.rows n t run.is.rows at in
                  let full : 0 < times n numbers = omega (arith, all n, is-filled s.core.subparsers n kept.0 kept.1.0) in
                  subst (λ m. 0 < times m numbers) (let same : n ≡ 0 + n = omega arith in same) full),
            );
          }

-- at the place there are so many classes
pub record AreClassesAt (input : Input) (i count : ℕ) : Type 0 where
  pub configs : List (List ℕ)
  pub distinct : AreDistinct input i configs
  pub many : length configs ≡ count
  pub none_more : (others : List (List ℕ)) → AreDistinct input i others → length others ≤ count

module _ (w : Tables) (input : Input) (first : core.Core) (s : Steps) (r : Rows) (i j : ℕ) (run : IsRun w input first s) (filed : AreAllFiled s.core r j)
    (waits : AreWaiting w.sets input i s.core.subparsers (numbers_in r)) (ended : HaveEndedBefore w.sets input i s.core.ended) where
  -- where all subparsers are in rows, the events lead by the place
  pub place-at : HasPlace input first (map event_of s.events.items) i
  place-at = place-reached w input first s i run (numbers_in r) filed.all waits ended (all-apart s.core.subparsers r filed.filed)

  -- and there are as many classes at it as subparsers
  pub classes-at : AreClassesAt input i r.count
  classes-at =
      let classes = distinct w input first i s run (numbers_in r) waits (all-apart s.core.subparsers r filed.filed) in
      record {
        configs = classes.configs;
        distinct = classes.distinct;
        many = classes.many ∙ sym filed.filed.count;
        none_more = λ others are. omega (arith, classes-few w input first s i run (numbers_in r) filed.all waits ended others are, filed.filed.count);
      }

-- that stays as events are added
pub place-more : (input : Input) (first : core.Core) (events more all : List core.Event) (k : ℕ) → all ≡ events ++ more → HasPlace input first events k → HasPlace input first all k
place-more input first events more all k is place = record {
  count = place.count;
  within = omega (arith, place.within, ap length is, length-append events more);
  seen = place.seen;
  run =
      let within : place.count ≤ length events = place.within in
      subst (λ es. CoreRun input first es place.seen) (sym (ap (take place.count) is ∙ take-append-le place.count events more within)) place.run;
  each = place.each;
  configs = place.configs;
  distinct = place.distinct;
  few = place.few;
}

-- ---- the most classes

-- no place is before the first
pub counted-none : (input : Input) → HasMostBefore input 0 0
counted-none input = record {
  place = 0;
  within = omega arith;
  configs = [];
  distinct = record { classes = λ k d below. absurd (omega (arith, below)); different = λ k l d low below. absurd (omega (arith, below)) };
  many = refl;
  none_more = λ k low others are. absurd (omega (arith, low));
}

-- one place more
pub counted-more : (input : Input) (i most count : ℕ) → i < length input.items + 1 → HasMostBefore input i most → AreClassesAt input i count → HasMostBefore input (i + 1) (max most count)
counted-more input i most count within was now = elim (cases_lt most count) [
  | inl more ↦
      let is : max most count ≡ count = omega (arith, clamps, more) in
      record { place = i; within = within; configs = now.configs; distinct = now.distinct; many = now.many ∙ sym is; none_more = none_more }
  | inr less ↦
      let is : max most count ≡ most = omega (arith, clamps, less) in
      record { place = was.place; within = was.within; configs = was.configs; distinct = was.distinct; many = was.many ∙ sym is; none_more = none_more }
]
  where
    none_more : (k : ℕ) → k < i + 1 → (others : List (List ℕ)) → AreDistinct input k others → length others ≤ max most count
    none_more k low others are = elim (cases_lt k i) [
      | inl before ↦ omega (arith, clamps, was.none_more k before others are)
      | inr at ↦
          let same : k ≡ i = omega (arith, low, at) in
          omega (arith, clamps, now.none_more others (subst (λ n. AreDistinct input n others) same are))
    ]

-- all places are before the one behind the end
pub counted-all : (input : Input) (i most : ℕ) → length input.items < i → HasMostBefore input i most → HasMostClasses input most
counted-all input i most past was = record {
  place = was.place;
  within = was.within;
  configs = was.configs;
  distinct = was.distinct;
  many = was.many;
  none_more = λ more. let within = more.within in omega (arith, past, within, was.none_more more.place (omega (arith, past, within)) more.configs more.distinct, more.more);
}
