-- What the tasks that are left print, and when it can be printed.
use Rattle.std.proofs.Common.{◌≡◌, ℕ, zero, suc, ◌<◌, ◌⊎◌, inl, inr, List, [], ◌∷◌, ◌++◌, length, map, Some, slice_get, All, refl, sym, ap, subst, ◌∙◌, arith}
use Rattle.std.specs.List.{Contains}
use Rattle.std.proofs.lemmas.List.Elements.{All-nil, All-cons, All-head, All-tail}
use Rattle.sc_base.specs.declared.id.TreeId.{TreeId}
use Rattle.std.proofs.lemmas.Option.{same_Some}
use Rattle.sc_base.proofs.Growth.{Extends-push, Extends-keeps, push_cases}
use Rattle.sc_model.proofs.ListLemmas.{slice_get-seam}
use Rattle.sc_tree.specs.Lines.{Line, children_of, ChildrenFirst}
use Rattle.sc_show.specs.declared.tree.Task.{Task}
use Rattle.sc_show.specs.declared.tree.Task.TheVariants as task
use Rattle.sc_show.specs.TreeShows.{FinishesIn, nowhere_in, was_there_in, comes_in}
use Rattle.sc_show.proofs.TreeNumbers.{number_at, contains_at}

-- ---- what the tasks print

-- all was printed, as far as the tasks say
abbrev pub Completes : List Line → List TreeId → List Task → List TreeId → Type 0
Completes store done [] now = now ≡ done
Completes store done (task.Tree id ∷ tasks) now = (after : List TreeId) × (FinishesIn store done (id ∷ []) after × Completes store after tasks now)
Completes store done (task.Line id ∷ tasks) now = Completes store (done ++ id ∷ []) tasks now

FinishesIn-append : {store : List Line} {done after now : List TreeId} {ids others : List TreeId} → FinishesIn store done ids after → FinishesIn store after others now → FinishesIn store done (ids ++ others) now
FinishesIn-append (nowhere_in done) b = b
FinishesIn-append {now = now} {others = others} (was_there_in done after id ids has rest) b = was_there_in done now id (ids ++ others) has (FinishesIn-append rest b)
FinishesIn-append {now = now} {others = others} (comes_in done before after id ids line fresh at below rest) b = comes_in done before now id (ids ++ others) line fresh at below (FinishesIn-append rest b)

-- trees that are tasks
completes_trees : (store : List Line) (done now ids : List TreeId) (tasks : List Task) → Completes store done (map task.Tree ids ++ tasks) now
    → (after : List TreeId) × (FinishesIn store done ids after × Completes store after tasks now)
completes_trees store done now [] tasks rest = (done, (nowhere_in done, rest))
completes_trees store done now (id ∷ ids) tasks (after, (first, rest)) =
    let others = completes_trees store after now ids tasks rest in
    (others.0, (FinishesIn-append first others.1.0, others.1.1))

pub completes_known : (store : List Line) {done : List TreeId} (now : List TreeId) (id : TreeId) (tasks : List Task) → Contains done id → Completes store done tasks now → Completes store done (task.Tree id ∷ tasks) now
completes_known store {done} now id tasks has rest = (done, (was_there_in done done id [] has (nowhere_in done), rest))

pub completes_new : (store : List Line) {done : List TreeId} (now : List TreeId) (id : TreeId) (line : Line) (tasks : List Task) → (Contains done id → ⊥) → slice_get store id.0 ≡ Some line
    → Completes store done (map task.Tree (children_of line) ++ task.Line id ∷ tasks) now → Completes store done (task.Tree id ∷ tasks) now
completes_new store {done} now id line tasks fresh at rest =
    let below = completes_trees store done now (children_of line) (task.Line id ∷ tasks) rest in
    (below.0 ++ id ∷ [], (comes_in done below.0 (below.0 ++ id ∷ []) id [] line fresh at below.1.0 (nowhere_in (below.0 ++ id ∷ [])), below.1.1))

-- ---- when a line can be printed

abbrev pub task_id : Task → TreeId
task_id (task.Tree id) = id
task_id (task.Line id) = id

-- it has a number, or a task before it gives it one
abbrev pub IsCovered : List TreeId → List TreeId → TreeId → Type 0
IsCovered done above id = Contains done id ⊎ Contains above id

-- the line can be printed once the tasks before it are done
pub record CanFollow (store : List Line) (done above : List TreeId) (id : TreeId) : Type 0 where
  pub fresh : Contains done id → ⊥
  pub lower : All (λ (other : TreeId). other.0 < id.0) above
  pub below : (line : Line) → slice_get store id.0 ≡ Some line → All (IsCovered done above) (children_of line)

-- each line can be printed once those before it are
abbrev pub AreReady : List Line → List TreeId → List TreeId → List Task → Type 0
AreReady store done above [] = Unit {0}
AreReady store done above (task.Tree id ∷ tasks) = AreReady store done (id ∷ above) tasks
AreReady store done above (task.Line id ∷ tasks) = CanFollow store done above id × AreReady store done (id ∷ above) tasks

-- more is covered, and nothing that is to come after it was printed
pub record Goes (done above now ahead : List TreeId) : Type 0 where
  pub covered : (id : TreeId) → IsCovered done above id → IsCovered now ahead id
  pub fresh : (id : TreeId) → All (λ (other : TreeId). other.0 < id.0) above → (Contains done id → ⊥) → Contains now id → ⊥
  pub lower : (id : TreeId) → All (λ (other : TreeId). other.0 < id.0) above → All (λ (other : TreeId). other.0 < id.0) ahead

contains_cons : {T : Type 0} {x : T} (xs : List T) (y : T) → Contains xs x → Contains (y ∷ xs) x
contains_cons {T} {x} xs y has = contains_at (y ∷ xs) (suc has.0) x (number_at xs x has)

contains_first : {T : Type 0} (x : T) (xs : List T) → Contains (x ∷ xs) x
contains_first x xs = contains_at (x ∷ xs) 0 x refl

contains_cases : {T : Type 0} (x y : T) (xs : List T) → Contains (y ∷ xs) x → (x ≡ y) ⊎ Contains xs x
contains_cases x y xs has = by has.0 (number_at (y ∷ xs) x has)
  where
    by : (n : ℕ) → slice_get (y ∷ xs) n ≡ Some x → (x ≡ y) ⊎ Contains xs x
    by zero at = inl (cc)
    by (suc n) at = inr (contains_at xs n x at)

Goes-cons : {done above now ahead : List TreeId} (id : TreeId) → Goes done above now ahead → Goes done (id ∷ above) now (id ∷ ahead)
Goes-cons {done} {above} {now} {ahead} id goes = record {
  covered = covered;
  fresh = λ x lower. goes.fresh x (All-tail (λ (other : TreeId). other.0 < x.0) id above lower);
  lower = λ x lower. All-cons (λ (other : TreeId). other.0 < x.0) id ahead (All-head (λ (other : TreeId). other.0 < x.0) id above lower) (goes.lower x (All-tail (λ (other : TreeId). other.0 < x.0) id above lower));
}
  where
    wider : (x : TreeId) → IsCovered now ahead x → IsCovered now (id ∷ ahead) x
    wider x (inl has) = inl has
    wider x (inr has) = inr (contains_cons ahead id has)

    within : (x : TreeId) → (x ≡ id) ⊎ Contains above x → IsCovered now (id ∷ ahead) x
    within x (inl same) = inr (subst (λ y. Contains (y ∷ ahead) x) same (contains_first x ahead))
    within x (inr has) = wider x (goes.covered x (inr has))

    covered : (x : TreeId) → IsCovered done (id ∷ above) x → IsCovered now (id ∷ ahead) x
    covered x (inl has) = wider x (goes.covered x (inl has))
    covered x (inr has) = within x (contains_cases x id above has)

AreReady-goes : (store : List Line) (tasks : List Task) (done above now ahead : List TreeId) → Goes done above now ahead → AreReady store done above tasks → AreReady store now ahead tasks
AreReady-goes store [] done above now ahead goes ready = tt
AreReady-goes store (task.Tree id ∷ tasks) done above now ahead goes ready = AreReady-goes store tasks done (id ∷ above) now (id ∷ ahead) (Goes-cons id goes) ready
AreReady-goes store (task.Line id ∷ tasks) done above now ahead goes (can, ready) = (
  record {
    fresh = goes.fresh id can.lower can.fresh;
    lower = goes.lower id can.lower;
    below = λ line at k d h. goes.covered _ (can.below line at k d h);
  },
  AreReady-goes store tasks done (id ∷ above) now (id ∷ ahead) (Goes-cons id goes) ready,
)

-- a tree that has a number is left out
pub ready_known : (store : List Line) (done : List TreeId) (id : TreeId) (tasks : List Task) → Contains done id → AreReady store done [] (task.Tree id ∷ tasks) → AreReady store done [] tasks
ready_known store done id tasks has ready = AreReady-goes store tasks done (id ∷ []) done [] (record {
  covered = covered;
  fresh = λ x lower fresh. fresh;
  lower = λ x lower. All-nil (λ (other : TreeId). other.0 < x.0);
}) ready
  where
    by : (x : TreeId) → (x ≡ id) ⊎ Contains [] x → IsCovered done [] x
    by x (inl same) = inl (subst (Contains done) (sym same) has)
    by x (inr none) = inr none

    covered : (x : TreeId) → IsCovered done (id ∷ []) x → IsCovered done [] x
    covered x (inl known) = inl known
    covered x (inr one) = by x (contains_cases x id [] one)

-- a line that was printed
pub ready_line : (store : List Line) (done : List TreeId) (id : TreeId) (tasks : List Task) → AreReady store done [] (task.Line id ∷ tasks) → AreReady store (done ++ id ∷ []) [] tasks
ready_line store done id tasks (can, ready) = AreReady-goes store tasks done (id ∷ []) (done ++ id ∷ []) [] (record {
  covered = covered;
  fresh = fresh;
  lower = λ x lower. All-nil (λ (other : TreeId). other.0 < x.0);
}) ready
  where
    longer : (x : TreeId) → Contains done x → Contains (done ++ id ∷ []) x
    longer x has = contains_at (done ++ id ∷ []) has.0 x (Extends-keeps has.0 x (number_at done x has) (Extends-push done id))

    last : Contains (done ++ id ∷ []) id
    last = contains_at (done ++ id ∷ []) (length done) id (slice_get-seam done id [])

    by : (x : TreeId) → (x ≡ id) ⊎ Contains [] x → IsCovered (done ++ id ∷ []) [] x
    by x (inl same) = inl (subst (Contains (done ++ id ∷ [])) (sym same) last)
    by x (inr none) = inr none

    covered : (x : TreeId) → IsCovered done (id ∷ []) x → IsCovered (done ++ id ∷ []) [] x
    covered x (inl known) = inl (longer x known)
    covered x (inr one) = by x (contains_cases x id [] one)

    parted : (x : TreeId) (n : ℕ) → All (λ (other : TreeId). other.0 < x.0) (id ∷ []) → (Contains done x → ⊥) → (slice_get done n ≡ Some x) ⊎ ((n ≡ length done) × (id ≡ x)) → ⊥
    parted x n lower fresh (inl at) = fresh (contains_at done n x at)
    parted x n lower fresh (inr (end, same)) =
        let less = All-head (λ (other : TreeId). other.0 < x.0) id [] lower in
        let e : id.0 ≡ x.0 = ap (λ (y : TreeId). y.0) same in
        omega (arith, less, e)

    fresh : (x : TreeId) → All (λ (other : TreeId). other.0 < x.0) (id ∷ []) → (Contains done x → ⊥) → Contains (done ++ id ∷ []) x → ⊥
    fresh x lower none has = parted x has.0 lower none (push_cases done id has.0 x (number_at (done ++ id ∷ []) x has))

-- the ids of trees, the last of them first, before these
abbrev turned : List TreeId → List TreeId → List TreeId
turned [] above = above
turned (id ∷ ids) above = turned ids (id ∷ above)

ready_trees : (store : List Line) (done above ids : List TreeId) (tasks : List Task) → AreReady store done (turned ids above) tasks → AreReady store done above (map task.Tree ids ++ tasks)
ready_trees store done above [] tasks ready = ready
ready_trees store done above (id ∷ ids) tasks ready = ready_trees store done (id ∷ above) ids tasks ready

turned_has : (ids above : List TreeId) (x : TreeId) → Contains above x → Contains (turned ids above) x
turned_has [] above x has = has
turned_has (id ∷ ids) above x has = turned_has ids (id ∷ above) x (contains_cons above id has)

turned_all : (P : TreeId → Type 0) (ids above : List TreeId) → All P ids → All P above → All P (turned ids above)
turned_all P [] above first rest = rest
turned_all P (id ∷ ids) above first rest = turned_all P ids (id ∷ above) (All-tail P id ids first) (All-cons P id above (All-head P id ids first) rest)

turned_each : (ids above : List TreeId) → All (Contains (turned ids above)) ids
turned_each [] above = All-nil (Contains (turned [] above))
turned_each (id ∷ ids) above =
    All-cons (Contains (turned ids (id ∷ above))) id ids (turned_has ids (id ∷ above) id (contains_first id above)) (turned_each ids (id ∷ above))

-- a tree that has no number gets one after those below it
pub ready_new : (store : List Line) (done : List TreeId) (id : TreeId) (line : Line) (tasks : List Task) → ChildrenFirst store → slice_get store id.0 ≡ Some line → (Contains done id → ⊥)
    → AreReady store done [] (task.Tree id ∷ tasks) → AreReady store done [] (map task.Tree (children_of line) ++ task.Line id ∷ tasks)
ready_new store done id line tasks first at fresh ready =
    ready_trees store done [] (children_of line) (task.Line id ∷ tasks) (
      record {
        fresh = fresh;
        lower = lower;
        below = λ other found. subst (λ ids. All (IsCovered done (turned (children_of line) [])) ids) (ap children_of (same_Some line other (sym at ∙ found)))
            (λ k d h. inr (turned_each (children_of line) [] k d h));
      },
      AreReady-goes store tasks done (id ∷ []) done (id ∷ turned (children_of line) []) (record {
        covered = covered;
        fresh = λ x lower none. none;
        lower = λ x less. let one = All-head (λ (other : TreeId). other.0 < x.0) id [] less in
            All-cons (λ (other : TreeId). other.0 < x.0) id (turned (children_of line) []) one (λ k d h. let l = lower k d h in omega (arith, l, one));
      }) ready,
    )
  where
    lower : All (λ (other : TreeId). other.0 < id.0) (turned (children_of line) [])
    lower = turned_all (λ (other : TreeId). other.0 < id.0) (children_of line) [] (first.each id.0 line at) (All-nil (λ (other : TreeId). other.0 < id.0))

    by : (x : TreeId) → (x ≡ id) ⊎ Contains [] x → IsCovered done (id ∷ turned (children_of line) []) x
    by x (inl same) = inr (subst (λ y. Contains (y ∷ turned (children_of line) []) x) same (contains_first x (turned (children_of line) [])))
    by x (inr none) = inr (contains_cons (turned (children_of line) []) id (turned_has (children_of line) [] x none))

    covered : (x : TreeId) → IsCovered done (id ∷ []) x → IsCovered done (id ∷ turned (children_of line) []) x
    covered x (inl known) = inl known
    covered x (inr one) = by x (contains_cases x id [] one)

-- the trees below a line that comes next are printed
pub below_printed : (store : List Line) (done : List TreeId) (id : TreeId) (line : Line) (tasks : List Task) → slice_get store id.0 ≡ Some line → AreReady store done [] (task.Line id ∷ tasks) → All (Contains done) (children_of line)
below_printed store done id line tasks at (can, ready) = λ k d h. by _ (can.below line at k d h)
  where
    by : (x : TreeId) → IsCovered done [] x → Contains done x
    by x (inl has) = has
    by x (inr none) = absurd (omega (arith, none.1))
