-- What becomes of subparsers that are merged, and of a list of numbers with one more.
use Rattle.std.proofs.Common.{◌≡◌, ℕ, zero, suc, ◌+◌, ◌<◌, ◌≤◌, ◌||◌, ◌⊎◌, ◌==◌, if◌then◌else◌, Bool, true, false, List, [], ◌∷◌, ◌++◌, All, length, get_or, slice_get, Option, Some, None, refl, sym, ap, ◌∙◌, subst, arith, inl, inr}
use Rattle.std.specs.Prelude.{slice_set}
use Rattle.std.specs.List.{Contains}
use Rattle.std.proofs.lemmas.Bool.{true≢false}
use Rattle.std.proofs.lemmas.Bool.Decides.{eqb_tells}
use Rattle.std.specs.Cmp.Lexicographic.{pointwise}
use Rattle.std.proofs.lemmas.Grind.{get_or-set_at, get_or_default_zero}
use Rattle.std.proofs.lemmas.List.{get_or-set_other, length-set}
use Rattle.std.proofs.lemmas.List.Elements.{All-cons, All-contains_itself, All-head, All-nil, All-tail}
use Rattle.c11_parsing.specs.Classes.{Class, Input}
use Rattle.c11_parsing.specs.Core as core
use Rattle.c11_parsing.specs.Core.{alone, CoreStep, merged, Makes, splits, reduces, shifts, classifies}
use Rattle.sc_fork.proofs.CoreLemmas.{row-seen}
use Rattle.sc_fork.proofs.ReplaceLemmas.{length-without}
use Rattle.sc_fork.specs.declared.event.Event.TheVariants as event
use Rattle.sc_fork.specs.declared.event.Fact.{Fact}
use Rattle.sc_fork.specs.View.{View, states_in, depth_of}
use Rattle.sc_fork.specs.declared.piece.Piece.{Piece}
use Rattle.sc_fork.specs.declared.source.Source.{Source}
use Rattle.sc_fork.specs.Cores.{AreRows, no_rows, empty_row, full_row}
use Rattle.sc_fork.specs.Enabled.{Has, IsRefused, none_to_merge, none_to_merge_with, same, other_phase, other_states, other_levels}
use Rattle.sc_fork.specs.Pieces as pieces
use Rattle.sc_fork.specs.Pieces.{Becomes, HasMade, merges, without}
use Rattle.sc_merge.proofs.KeyLemmas.{keys-alike}
use Rattle.sc_merge.specs.declared.keys.Key.{Key}
use Rattle.sc_merge.specs.declared.subparser.Phase.TheVariants.{At}
use Rattle.sc_merge.specs.declared.subparser.Subparser.{Subparser}
use Rattle.sc_merge.specs.Keys.{AreAlike, IsKeyOf, numbers_of}
use Rattle.sc_merge.specs.Merges.{tables_with}
use Rattle.sc_model.proofs.ListLemmas.{slice_get-seam}
use Rattle.sc_model.specs.Sets.{IsConfig, Sets}
use Rattle.sc_parse.proofs.NumberLemmas.{all-times, each-of, fewer-numbers, filled-most, has-filled, times-all, times-append, times-head}
use Rattle.sc_parse.proofs.RunLemmas.{waiting-kept}
use Rattle.sc_parse.specs.declared.steps.Steps.{Steps}
use Rattle.sc_parse.specs.Numbers.{AreApart, AreLike, AreNumbers, Each, IsLikeOne, Replaces, times}
use Rattle.sc_parse.specs.Runs.{AreWaiting, GoesOn, IsRun, OwnsSteps, IsOfClass, IsStepTo, IsWaiting}
use Rattle.sc_tree.specs.Lines.{Line}
use Rattle.sc_tree.specs.Reads.{Tables}

-- ---- subparsers that are alike

pub same-subparser : (rows : List (Option Subparser)) (n : ℕ) (s t : Subparser) → Has rows n s → Has rows n t → s ≡ t
same-subparser rows n s t a b = cc (a, b)

pub alike-self : (s : Subparser) → AreAlike s s
alike-self s = record { phase = refl; states = refl; levels = refl }

pub alike-turned : (s t : Subparser) → AreAlike s t → AreAlike t s
alike-turned s t h = record { phase = sym h.phase; states = sym h.states; levels = sym h.levels }

pub alike-then : (s t u : Subparser) → AreAlike s t → AreAlike t u → AreAlike s u
alike-then s t u h k = record { phase = k.phase ∙ h.phase; states = k.states ∙ h.states; levels = k.levels ∙ h.levels }

-- two numbers whose subparsers are not alike
abbrev pub AreUnlike : List (Option Subparser) → ℕ → ℕ → Type 0
AreUnlike rows n m = (s t : Subparser) → Has rows n s → Has rows m t → AreAlike s t → ⊥

-- ---- numbers by their places

pub times-at : (ns : List ℕ) (k d : ℕ) → k < length ns → 0 < times (get_or ns k d) ns
times-at [] k d within = absurd (omega (arith, within))
times-at (n ∷ ns) zero d within = omega (arith, times-head n ns)
times-at (n ∷ ns) (suc k) d within = omega (arith, times-at ns k d (omega (arith, within)))

pub times-two : (ns : List ℕ) (i k d : ℕ) → i < length ns → k < length ns → (i ≡ k → ⊥) → get_or ns i d ≡ get_or ns k d → 1 < times (get_or ns k d) ns
times-two [] i k d one two apart e = absurd (omega (arith, one))
times-two (n ∷ ns) zero zero d one two apart e = absurd (apart refl)
times-two (n ∷ ns) zero (suc k) d one two apart e =
    subst (λ m. 1 < times m (n ∷ ns)) e
    (let some : 0 < times n ns = subst (λ m. 0 < times m ns) (sym e) (times-at ns k d (omega (arith, two))) in
    omega (arith, some, times-head n ns))
times-two (n ∷ ns) (suc i) zero d one two apart e =
    let some : 0 < times n ns = subst (λ m. 0 < times m ns) e (times-at ns i d (omega (arith, one))) in
    omega (arith, some, times-head n ns)
times-two (n ∷ ns) (suc i) (suc k) d one two apart e =
    omega (arith, times-two ns i k d (omega (arith, one)) (omega (arith, two)) (λ f. apart (ap suc f)) e)

-- The number at a place: it is one of the list, and another one can take the place.
place-times : (ns : List ℕ) (k m n : ℕ) → k < length ns → m ≡ get_or ns k m → times n (m ∷ []) ≤ times n ns
place-times [] k m n within at = absurd (omega (arith, within))
place-times (x ∷ ns) zero m n within at = subst (λ j. times n (j ∷ []) ≤ times n (x ∷ ns)) (sym at) (omega arith)
place-times (x ∷ ns) (suc k) m n within at = omega (arith, place-times ns k m n (omega (arith, within)) at)

times-set : (ns : List ℕ) (k m next n : ℕ) → k < length ns → m ≡ get_or ns k m → times n (slice_set ns k next) + times n (m ∷ []) ≡ times n ns + times n (next ∷ [])
times-set [] k m next n within at = absurd (omega (arith, within))
times-set (x ∷ ns) zero m next n within at = subst (λ j. times n (next ∷ ns) + times n (j ∷ []) ≡ times n (x ∷ ns) + times n (next ∷ [])) (sym at) (omega arith)
times-set (x ∷ ns) (suc k) m next n within at = omega (arith, times-set ns k m next n (omega (arith, within)) at)

times-other : (n m : ℕ) → (n ≡ m → ⊥) → times n (m ∷ []) ≡ 0
times-other n m other = elim (eqb_tells n m) [
  | inl is ↦ absurd (other is.1)
  | inr differs ↦ ap (λ b. (if b then 1 else 0) + 0) differs.0
]

member-of : (ns : List ℕ) (n : ℕ) → 0 < times n ns → Contains ns n
member-of ns n some = all-times (Contains ns) ns n (All-contains_itself ns) some

pub number-in : (rows : List (Option Subparser)) (ns : List ℕ) (n : ℕ) → AreNumbers rows ns → 0 < times n ns → (s : Subparser) × Has rows n s
number-in rows ns n are some = has-filled rows n (omega (arith, some, are.once n))

pub number-at : (rows : List (Option Subparser)) (ns : List ℕ) (k d : ℕ) → AreNumbers rows ns → k < length ns → (s : Subparser) × Has rows (get_or ns k d) s
number-at rows ns k d are within = number-in rows ns (get_or ns k d) are (times-at ns k d within)

pub others-are : (rows : List (Option Subparser)) (n : ℕ) (ns : List ℕ) → AreNumbers rows (n ∷ ns) → AreNumbers rows ns
others-are rows n ns are = fewer-numbers rows (n ∷ ns) ns are (λ m. omega arith)

-- ---- which one is like it

pub keyed-unlike : (rows : List (Option Subparser)) (n m : ℕ) (k l : Key) → (s : Subparser) × (Has rows n s × IsKeyOf k s) → (t : Subparser) × (Has rows m t × IsKeyOf l t)
    → pointwise ◌==◌ (numbers_of k) (numbers_of l) ≡ false → AreUnlike rows n m
keyed-unlike rows n m k l here there differ = λ s t has_s has_t alike.
    let is_s : s ≡ here.0 = same-subparser rows n s here.0 has_s here.1.0 in
    let is_t : t ≡ there.0 = same-subparser rows m t there.0 has_t there.1.0 in
    let both : AreAlike here.0 there.0 = subst (λ x. AreAlike here.0 x) is_t (subst (λ x. AreAlike x t) is_s alike) in
    true≢false (sym ((keys-alike k l here.0 there.0 here.1.1 there.1.1).1 both) ∙ differ)

pub unlike-more : (rows : List (Option Subparser)) (ns : List ℕ) (n i : ℕ) → ((k : ℕ) → k < i → AreUnlike rows (get_or ns k 0) n) → AreUnlike rows (get_or ns i 0) n
    → (k : ℕ) → k < i + 1 → AreUnlike rows (get_or ns k 0) n
unlike-more rows ns n i before here k within = elim (eqb_tells k i) [
  | inl is ↦ subst (λ j. AreUnlike rows (get_or ns j 0) n) (sym is.1) here
  | inr other ↦ before k (omega (arith, within, other.1))
]

-- ---- a merge

-- two numbers of one list of them are not the same
pub numbers-differ : (rows : List (Option Subparser)) (n m : ℕ) → AreNumbers rows (n ∷ (m ∷ [])) → n ≡ m → ⊥
numbers-differ rows n m are e =
    let two = times-head n (m ∷ []) in
    let one : times n (m ∷ []) ≡ 1 + times n [] = subst (λ k. times n (k ∷ []) ≡ 1 + times n []) e (times-head n []) in
    omega (arith, two, one, are.once n, filled-most rows n)

pub merge-enabled : (source : Source) (rows : List (Option Subparser)) (n m : ℕ) (fact : Fact) → AreNumbers rows (n ∷ (m ∷ []))
    → ((s t : Subparser) → Has rows n s → Has rows m t → AreAlike s t) → IsRefused source rows (event.Merge n m) fact → ⊥
merge-enabled source rows n m _ are alike (none_to_merge _ _ none) = let found = number-at rows (n ∷ (m ∷ [])) 0 0 are (omega arith) in none found.0 found.1
merge-enabled source rows n m _ are alike (none_to_merge_with _ _ none) = let found = number-at rows (n ∷ (m ∷ [])) 1 0 are (omega arith) in none found.0 found.1
merge-enabled source rows n _ _ are alike (same _ s has) = numbers-differ rows n n are refl
merge-enabled source rows n m _ are alike (other_phase _ _ s t has_s has_t apart other) = other (alike s t has_s has_t).phase
merge-enabled source rows n m _ are alike (other_states _ _ s t has_s has_t apart phase other) = other (alike s t has_s has_t).states
merge-enabled source rows n m _ are alike (other_levels _ _ s t has_s has_t apart phase states other) = other (alike s t has_s has_t).levels

-- the two subparsers and the one that comes of them
pub record IsMergedTo (before after : View) (n m : ℕ) (made : List ℕ) : Type 0 where
  pub first : Subparser
  pub second : Subparser
  pub next : Subparser
  pub has_first : Has before.subparsers n first
  pub has_second : Has before.subparsers m second
  pub alike : AreAlike first second
  pub alike_next : AreAlike first next
  pub is : made ≡ length before.subparsers ∷ []
  pub has : Has after.subparsers (length before.subparsers) next

pub merged-to : (before after : View) (n m : ℕ) (made : List ℕ) → HasMade before (event.Merge n m) after made → IsMergedTo before after n m made
merged-to before after n m made h = by h.pieces h.makes h.becomes
  where
    by : (ps : List Piece) → pieces.Makes before.source before.subparsers (event.Merge n m) ps → Becomes before (event.Merge n m) ps after made → IsMergedTo before after n m made
    by _ (merges _ _ s t u has_s has_t apart alike next) becomes =
        let gone = without (n ∷ (m ∷ [])) before.subparsers in
        record {
          first = s;
          second = t;
          next = u;
          has_first = has_s;
          has_second = has_t;
          alike = alike;
          alike_next = next;
          is = becomes.numbers;
          has = ap (λ rows. slice_get rows (length before.subparsers)) becomes.rows
              ∙ subst (λ k. slice_get (gone ++ Some u ∷ []) k ≡ Some (Some u)) (length-without (n ∷ (m ∷ [])) before.subparsers) (slice_get-seam gone (Some u) []);
        }

-- its number is the only one
pub merged-made : (before after : View) (n m : ℕ) (made : List ℕ) (number : ℕ) → HasMade before (event.Merge n m) after made → slice_get made 0 ≡ Some number → made ≡ number ∷ []
merged-made before after n m made number h is = let to = merged-to before after n m made h in cc (to.is, is)

pub merged-number : (before after : View) (n m : ℕ) (made : List ℕ) (number : ℕ) → HasMade before (event.Merge n m) after made → slice_get made 0 ≡ Some number
    → (s : Subparser) → Has before.subparsers n s → (u : Subparser) × (Has after.subparsers number u × AreAlike s u)
merged-number before after n m made number h is s has =
    let to = merged-to before after n m made h in
    let same_number : length before.subparsers ≡ number = cc (to.is, is) in (
      to.next,
      (
        subst (λ k. Has after.subparsers k to.next) same_number to.has,
        subst (λ x. AreAlike x to.next) (same-subparser before.subparsers n to.first s to.has_first has) to.alike_next,
      ),
    )

-- ---- as it is seen

-- the step of a merge
pub record IsMergeStep (input : Input) (seen after : core.Core) (n o : ℕ) : Type 0 where
  pub s : core.Subparser
  pub t : core.Subparser
  pub u : core.Subparser
  pub at_s : slice_get seen.rows n ≡ Some (Some s)
  pub at_t : slice_get seen.rows o ≡ Some (Some t)
  pub merged : core.IsMerged input s t u
  pub at_u : slice_get after.rows (length seen.rows) ≡ Some (Some u)

not-alone : (input : Input) (event : ℕ → core.Event) (k n o : ℕ) (s : core.Subparser) (ps : List core.Piece) → Makes input s event ps → event k ≡ core.merge n o → ⊥
not-alone input _ k n o s _ (splits i parts phase are) e = cc (e)
not-alone input _ k n o s _ (reduces j p piece phase action step) e = cc (e)
not-alone input _ k n o s _ (shifts j piece phase action step) e = cc (e)
not-alone input _ k n o s _ (classifies j item types variables phase at types_are others_are) e = cc (e)

pub merge-step : (input : Input) (seen after : core.Core) (n o : ℕ) → CoreStep input seen (core.merge n o) after → IsMergeStep input seen after n o
merge-step input seen after n o step = by (core.merge n o) after refl step
  where
    by : (e : core.Event) (last : core.Core) → e ≡ core.merge n o → CoreStep input seen e last → IsMergeStep input seen last n o
    by _ _ e (alone event k s ps at makes) = absurd (not-alone input event k n o s ps makes e)
    by _ _ e (merged k l s t u apart at_s at_t phase states depth joined) =
        let is_n : k ≡ n = cc (e) in
        let is_o : l ≡ o = cc (e) in
        let gone = slice_set (slice_set seen.rows k None) l None in
        record {
          s = s;
          t = t;
          u = u;
          at_s = subst (λ i. slice_get seen.rows i ≡ Some (Some s)) is_n at_s;
          at_t = subst (λ i. slice_get seen.rows i ≡ Some (Some t)) is_o at_t;
          merged = joined;
          at_u = subst (λ i. slice_get (gone ++ Some u ∷ []) i ≡ Some (Some u)) (length-set (slice_set seen.rows k None) l None ∙ length-set seen.rows k None) (slice_get-seam gone (Some u) []);
        }

pub rows-length : (w : Tables) (input : Input) (rows : List (Option Subparser)) (others : List (Option core.Subparser)) → AreRows w input rows others → length others ≡ length rows
rows-length w input _ _ no_rows = refl
rows-length w input _ _ (empty_row rows others rest) = ap suc (rows-length w input rows others rest)
rows-length w input _ _ (full_row s t rows others seen rest) = ap suc (rows-length w input rows others rest)

one-or-other : (a b : Bool) → (a || b) ≡ true → (a ≡ true) ⊎ (b ≡ true)
one-or-other true b has = inl refl
one-or-other false b has = inr has

-- where the merged subparser is, one of the two was
pub record IsOneOf (old new : Sets) (input : Input) (s t u : Subparser) : Type 0 where
  pub from : (c : List ℕ) → IsConfig input.arities c → new.has u.cond.0 c ≡ true → (old.has s.cond.0 c ≡ true) ⊎ (old.has t.cond.0 c ≡ true)

pub merged-conditions : (w v : Tables) (input : Input) (before after : View) (n m : ℕ) (made : List ℕ) (to : IsMergedTo before after n m made)
    → IsStepTo w v input before (event.Merge n m) after → IsOneOf w.sets v.sets input to.first to.second to.next
merged-conditions w v input before after n m made to step =
    let end = length before.subparsers in
    let seen = merge-step input step.before step.after n m step.step in
    let first = row-seen w input before.subparsers step.before.rows n to.first step.was.rows to.has_first in
    let second = row-seen w input before.subparsers step.before.rows m to.second step.was.rows to.has_second in
    let next = row-seen v input after.subparsers step.after.rows end to.next step.is.rows to.has in
    let at_end : slice_get step.after.rows end ≡ Some (Some seen.u) =
    subst (λ k. slice_get step.after.rows k ≡ Some (Some seen.u)) (rows-length w input before.subparsers step.before.rows step.was.rows) seen.at_u in
    let is_s : seen.s ≡ first.other = cc (seen.at_s, first.at) in
    let is_t : seen.t ≡ second.other = cc (seen.at_t, second.at) in
    let is_u : next.other ≡ seen.u = cc (next.at, at_end) in
    record {
      from = λ c config has.
          let in_u : seen.u.condition c ≡ true = ap (λ (x : core.Subparser). x.condition c) (sym is_u) ∙ next.seen.has c config ∙ has in
          elim (one-or-other (seen.s.condition c) (seen.t.condition c) (sym (seen.merged.has c config) ∙ in_u)) [
            | inl here ↦ inl (sym (first.seen.has c config) ∙ ap (λ (x : core.Subparser). x.condition c) (sym is_s) ∙ here)
            | inr there ↦ inr (sym (second.seen.has c config) ∙ ap (λ (x : core.Subparser). x.condition c) (sym is_t) ∙ there)
          ];
    }

-- ---- how it waits

class-alike : (input : Input) (i : ℕ) (c : List ℕ) (s u : Subparser) (next : ℕ) → AreAlike s u → IsOfClass input i c s next → IsOfClass input i c u next
class-alike input i c s u next alike h = record {
  run = h.run;
  live = h.live;
  class = h.class ∙ ap (λ states. the-class states next (depth_of s)) (sym alike.states)
      ∙ ap (λ depth. the-class (states_in u) next depth) (sym alike.levels);
}
  where
    the-class : List ℕ → ℕ → ℕ → Class
    the-class states next depth = record { states = states; next = next; depth = depth }

pub waits-alike : (old new : Sets) (input : Input) (i : ℕ) (s t u : Subparser) → AreAlike s t → AreAlike s u → IsOneOf old new input s t u → IsWaiting old input i s
    → IsWaiting old input i t → IsWaiting new input i u
waits-alike old new input i s t u alike_t alike_u one wait_s wait_t = record {
  next = wait_s.next;
  phase = alike_u.phase ∙ wait_s.phase;
  each = λ c config has. elim (one.from c config has) [
    | inl here ↦ class-alike input i c s u wait_s.next alike_u (wait_s.each c config here)
    | inr there ↦ class-alike input i c t u wait_s.next (alike-then t s u (alike-turned s t alike_t) alike_u)
        (subst (IsOfClass input i c t) same_next (wait_t.each c config there))
  ];
}
  where
    same_next : wait_t.next ≡ wait_s.next
    same_next = let e : At wait_t.next ≡ At wait_s.next = sym wait_t.phase ∙ alike_t.phase ∙ wait_s.phase in cc (e)

pub merged-waiting : (w v : Tables) (input : Input) (i : ℕ) (before after : View) (n m : ℕ) (made : List ℕ) (number : ℕ) → HasMade before (event.Merge n m) after made
    → slice_get made 0 ≡ Some number → IsStepTo w v input before (event.Merge n m) after → AreWaiting w.sets input i before.subparsers (n ∷ (m ∷ []))
    → AreWaiting v.sets input i after.subparsers (number ∷ [])
merged-waiting w v input i before after n m made number has_made is step waits =
    let to = merged-to before after n m made has_made in
    let Q : ℕ → Type 0 = λ k. (s : Subparser) × (Has before.subparsers k s × IsWaiting w.sets input i s) in
    let here = All-head Q n (m ∷ []) waits in
    let there = All-head Q m [] (All-tail Q n (m ∷ []) waits) in
    let wait_s : IsWaiting w.sets input i to.first = subst (IsWaiting w.sets input i) (same-subparser before.subparsers n here.0 to.first here.1.0 to.has_first) here.1.1 in
    let wait_t : IsWaiting w.sets input i to.second = subst (IsWaiting w.sets input i) (same-subparser before.subparsers m there.0 to.second there.1.0 to.has_second) there.1.1 in
    let wait_u = waits-alike w.sets v.sets input i to.first to.second to.next to.alike to.alike_next (merged-conditions w v input before after n m made to step) wait_s wait_t in
    let same_number : length before.subparsers ≡ number = cc (to.is, is) in
    let R : ℕ → Type 0 = λ k. (s : Subparser) × (Has after.subparsers k s × IsWaiting v.sets input i s) in
    All-cons R number [] (subst R same_number (to.next, (to.has, wait_u))) (All-nil R)

-- ---- one more of a list

-- It is put to them.
pub put-replaces : (rows : List (Option Subparser)) (number : ℕ) (others : List ℕ) → Replaces rows rows (number ∷ others) (others ++ number ∷ [])
put-replaces rows number others = record {
  counts = λ n. omega (arith, times-append n others (number ∷ []));
  kept = λ n s has gone. has;
}

put-times : (number : ℕ) (others : List ℕ) (n : ℕ) → times n (others ++ number ∷ []) ≡ times n (number ∷ others)
put-times number others n = omega (arith, times-append n others (number ∷ []))

pub kept-alike : (old new : List (Option Subparser)) (others : List ℕ) (n : ℕ) (s : Subparser) → Contains others n → Has old n s → Has new n s → IsLikeOne old others new n
kept-alike old new others n s member was has = record {
  other = n;
  member = member;
  now = s;
  has = has;
  alike = λ before is. subst (λ x. AreAlike before x) (same-subparser old n before s is was) (alike-self before);
}

pub put-alike : (rows : List (Option Subparser)) (number : ℕ) (others : List ℕ) → AreNumbers rows (number ∷ others) → AreLike rows (number ∷ others) rows (others ++ number ∷ [])
put-alike rows number others are =
    times-all (IsLikeOne rows (number ∷ others) rows) (others ++ number ∷ []) (λ n some.
    let within : 0 < times n (number ∷ others) = omega (arith, some, put-times number others n) in
    let found = number-in rows (number ∷ others) n are within in
    kept-alike rows rows (number ∷ others) n found.0 (member-of (number ∷ others) n within) found.1 found.1)

pub put-each : (P : Subparser → Type 0) (rows : List (Option Subparser)) (number : ℕ) (others : List ℕ) → Each P rows (number ∷ others) → Each P rows (others ++ number ∷ [])
put-each P rows number others each = each-of P rows (number ∷ others) (others ++ number ∷ []) each (λ n none. omega (arith, none, put-times number others n))

-- It is merged with the one at a place, and the new one takes the place.
pub two-numbers : (rows : List (Option Subparser)) (number : ℕ) (others : List ℕ) (place other : ℕ) → AreNumbers rows (number ∷ others) → place < length others
    → other ≡ get_or others place other → AreNumbers rows (other ∷ (number ∷ []))
two-numbers rows number others place other are within at =
    fewer-numbers rows (number ∷ others) (other ∷ (number ∷ [])) are (λ n. omega (arith, place-times others place other n within at))

pub two-each : (P : Subparser → Type 0) (rows : List (Option Subparser)) (number : ℕ) (others : List ℕ) (place other : ℕ) → place < length others → other ≡ get_or others place other
    → Each P rows (number ∷ others) → Each P rows (other ∷ (number ∷ []))
two-each P rows number others place other within at each =
    each-of P rows (number ∷ others) (other ∷ (number ∷ [])) each (λ n none. omega (arith, none, place-times others place other n within at))

module _ (old new : List (Option Subparser)) (number : ℕ) (others : List ℕ) (place other joint : ℕ) (are : AreNumbers old (number ∷ others)) (within : place < length others)
    (at : other ≡ get_or others place other) (replaces : Replaces old new (other ∷ (number ∷ [])) (joint ∷ [])) where
  pub set-replaces : Replaces old new (number ∷ others) (slice_set others place joint)
  set-replaces = record {
    counts = λ n. omega (arith, times-set others place other joint n within at, replaces.counts n);
    kept = λ n s has gone. replaces.kept n s has (omega (arith, gone, place-times others place other n within at));
  }

  -- what holds of the new one and of those that stay
  set-all : (Q : ℕ → Type 0) → Q joint → ((n : ℕ) → 0 < times n others → times n (other ∷ (number ∷ [])) ≡ 0 → Q n) → All Q (slice_set others place joint)
  set-all Q new_one stays = times-all Q (slice_set others place joint) (λ n some. elim (eqb_tells n joint) [
    | inl is ↦ subst Q (sym is.1) new_one
    | inr differs ↦
        let set = times-set others place other joint n within at in
        let none = times-other n joint differs.1 in
        stays n (omega (arith, some, set, none)) (omega (arith, some, set, none, are.once n, filled-most old n))
  ])

  others_are : AreNumbers old others
  others_are = others-are old number others are

  other_in : 0 < times other others
  other_in = omega (arith, times-head other [], place-times others place other other within at)

  pub set-alike : ((s : Subparser) → Has old other s → (u : Subparser) × (Has new joint u × AreAlike s u)) → AreLike old (number ∷ others) new (slice_set others place joint)
  set-alike comes =
      set-all (IsLikeOne old (number ∷ others) new)
      (let was = number-in old others other others_are other_in in
      let next = comes was.0 was.1 in
      record {
        other = other;
        member = member-of (number ∷ others) other (omega (arith, other_in));
        now = next.0;
        has = next.1.0;
        alike = λ before is. subst (λ x. AreAlike x next.0) (same-subparser old other was.0 before was.1 is) next.1.1;
      })
      (λ n some none.
      let found = number-in old others n others_are some in
      kept-alike old new (number ∷ others) n found.0 (member-of (number ∷ others) n (omega (arith, some))) found.1 (replaces.kept n found.0 found.1 none))

  at_zero : other ≡ get_or others place 0
  at_zero = at ∙ get_or_default_zero others place other within

  -- a subparser at another place has been there before
  stayed : (i : ℕ) (s : Subparser) → i < length others → (i ≡ place → ⊥) → Has new (get_or (slice_set others place joint) i 0) s → Has old (get_or others i 0) s
  stayed i s below apart has =
      let n = get_or others i 0 in
      let here : Has new n s = subst (λ k. Has new k s) (get_or-set_other others place i joint 0 apart) has in
      let found = number-at old others i 0 others_are below in
      let left = get_or others place 0 in
      let not_other = times-other n other (λ e. omega (arith, times-two others i place 0 below within apart (e ∙ at_zero), are.once left, filled-most old left)) in
      let gone : times n (other ∷ (number ∷ [])) ≡ 0 = omega (arith, not_other, times-at others i 0 below, are.once n, filled-most old n) in
      subst (λ x. Has old n x) (same-subparser new n found.0 s (replaces.kept n found.0 found.1 gone) here) found.1

  pub set-apart : ((s : Subparser) → Has old other s → (u : Subparser) × (Has new joint u × AreAlike s u)) → AreApart old others → AreApart new (slice_set others place joint)
  set-apart comes apart = λ i j d before below s t has_s has_t alike.
      let after = slice_set others place joint in
      let long = length-set others place joint in
      let j_below : j < length others = omega (arith, below, long) in
      let i_below : i < length others = omega (arith, before, j_below) in
      by i j before i_below j_below s t (subst (λ n. Has new n s) (get_or_default_zero after i d (omega (arith, i_below, long))) has_s)
      (subst (λ n. Has new n t) (get_or_default_zero after j d below) has_t) alike
    where
      -- the one that was at the place, which the new one is like
      came : (i : ℕ) (s : Subparser) → i ≡ place → Has new (get_or (slice_set others place joint) i 0) s → (was : Subparser) × (Has old (get_or others place 0) was × AreAlike was s)
      came i s e has =
          let here : Has new joint s = subst (λ n. Has new n s) (get_or-set_at others place i joint 0 e within) has in
          let was = number-in old others other others_are other_in in
          let next = comes was.0 was.1 in
          (was.0, (subst (λ n. Has old n was.0) at_zero was.1, subst (AreAlike was.0) (same-subparser new joint next.0 s next.1.0 here) next.1.1))

      by : (i j : ℕ) → i < j → i < length others → j < length others → AreUnlike new (get_or (slice_set others place joint) i 0) (get_or (slice_set others place joint) j 0)
      by i j before i_below j_below s t has_s has_t alike = elim (eqb_tells i place) [
        | inl is ↦
            let was = came i s is.1 has_s in
            apart place j 0 (omega (arith, before, is.1)) j_below was.0 t was.1.0 (stayed j t j_below (λ e. omega (arith, before, is.1, e)) has_t) (alike-then was.0 s t was.1.1 alike)
        | inr first ↦ elim (eqb_tells j place) [
          | inl is ↦
              let was = came j t is.1 has_t in
              apart i place 0 (omega (arith, before, is.1)) within s was.0 (stayed i s i_below first.1 has_s) was.1.0
              (alike-then s t was.0 alike (alike-turned was.0 t was.1.1))
          | inr second ↦ apart i j 0 before j_below s t (stayed i s i_below first.1 has_s) (stayed j t j_below second.1 has_t) alike
        ]
      ]

pub set-waiting : (old new : Sets) (lines added : List Line) (i : ℕ) (s t : Steps) (names files : List (List ℕ)) (input : Input) (first : core.Core) (number : ℕ) (others : List ℕ)
    (place other joint : ℕ) → AreNumbers s.core.subparsers (number ∷ others) → place < length others → other ≡ get_or others place other
    → Replaces s.core.subparsers t.core.subparsers (other ∷ (number ∷ [])) (joint ∷ []) → GoesOn old new lines added i s t → OwnsSteps old (length lines) s
    → IsRun (tables_with old lines names files) input first s → AreWaiting old input i s.core.subparsers (number ∷ others) → AreWaiting new input i t.core.subparsers (joint ∷ [])
    → AreWaiting new input i t.core.subparsers (slice_set others place joint)
set-waiting old new lines added i s t names files input first number others place other joint are within at replaces goes own run waits next =
    let P : ℕ → Type 0 = λ k. (x : Subparser) × (Has s.core.subparsers k x × IsWaiting old input i x) in
    let Q : ℕ → Type 0 = λ k. (x : Subparser) × (Has t.core.subparsers k x × IsWaiting new input i x) in
    set-all s.core.subparsers t.core.subparsers number others place other joint are within at replaces Q (All-head Q joint [] next)
    (λ n some none.
    let here : P n = all-times P (number ∷ others) n waits (omega (arith, some)) in
    All-head Q n []
    (waiting-kept old new lines added i s t names files input first (other ∷ (number ∷ [])) (joint ∷ []) (n ∷ []) goes own run replaces
    (All-cons P n [] here (All-nil P))
    (λ k found. elim (eqb_tells k n) [
      | inl is ↦ subst (λ m. times m (other ∷ (number ∷ [])) ≡ 0) (sym is.1) none
      | inr differs ↦ absurd (omega (arith, found, times-other k n differs.1))
    ])))
