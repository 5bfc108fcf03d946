-- The expansion of one name of the list under all configurations that come to it: where each
-- stands, and what those that expand it alike have alike.
use Rattle.std.proofs.Common.{◌≡◌, ℕ, suc, ◌+◌, ◌-◌, ◌≤◌, List, [], ◌∷◌, Some, drop, length, slice_get, sym, ap, ◌∙◌, subst, arith, ◌⊎◌, ◌<◌, Bool, true, false, ◌++◌, All, map, take}
use Rattle.sc_expand.proofs.Behind.{below, same-end, seen-drop, seen-name, slice-drop}
use Rattle.sc_expand.proofs.Facts.{drop-cons, drop-drop, get_or_from_slice_get, length-drop, slice_get_within}
use Rattle.sc_expand.proofs.PassesLaws.{passes-end, run-same, Placed}
use Rattle.sc_expand.proofs.PhaseKeeps.{number}
use Rattle.sc_expand.proofs.Terms.{End, Expansion, HiddenToken, Macros, Passes, Place, Runs, Stores, Uses, provenance_of, seen_at, seen_hidden, AreAlike, ComesAt, Cond, Hidden, InSegments, IsAlikeExpansion, IsConfig, IsItself, IsPending, IsSameName, IsSettling, IsSpan, Others, PutsOutAt, State, Waits, WaitsAs, behind_at, bottom, indexes_in, items_at, lower_of, of_item, put_out, scanning, state_in, view_at}

abbrev pub state_now : Stores → Expansion → List ℕ → State Place
state_now st e c = state_in st e.below.items (view_at st e.top c) c

-- how many of the last n items of the list the configuration has
abbrev pub last_at : Stores → Expansion → ℕ → List ℕ → ℕ
last_at st e n c = length (below n (behind_at st.sets (bottom e).work c))

-- how many items of the list stand behind so many that stand behind the one at this index
abbrev pub bound_of : Expansion → ℕ → ℕ → ℕ
bound_of was at size = length (drop (at + 1) was.top.work) - size

-- The indexes by which what waits of a configuration is told, and what it has left: of the last n
-- items each by its own, all else by that of the item that is being expanded.
abbrev pub indexes_now : Stores → Expansion → (long n at : ℕ) → List (ℕ × (Cond × Hidden)) → List ℕ → List ℕ
indexes_now st e long n at kept c = indexes_in st.sets kept c ++ map (number long n at) (behind_at st.sets (bottom e).work c)

-- what the configuration has from an index of the list on
abbrev pub tokens_from : Stores → Expansion → ℕ → List ℕ → List (HiddenToken Place)
tokens_from old was at c = seen_at old (drop at was.top.work) c

-- the configuration has only the last n items of the list, and no call waits there
pub record IsOver (now : Stores) (e : Expansion) (n : ℕ) (c : List ℕ) : Type 0 where
  pub own : length (seen_at now (bottom e).work c) ≤ last_at now e n c
  pub stays : (now.sets.has e.refusals.live.0 c ≡ true) ⊎ (now.sets.has e.refusals.waiting.0 c ≡ true)
  pub rests : now.sets.has e.refusals.live.0 c ≡ true → IsPending (state_now now e c) (last_at now e n c) → ⊥

-- Two configurations have the same of an item that they expand alike, or neither has anything left
-- of it, and it became the same for both, but that the one may be ahead.
pub data PairStands (now : Stores) (e : Expansion) (others : Others) (n outs : ℕ) (of : List (Cond × Hidden)) (c d : List ℕ) : Type 0 where
  as_one : IsAlikeExpansion now.sets c d others e → AreAlike now.sets c d of → PairStands now e others n outs of c d
  come_through : IsOver now e n c → IsOver now e n d → IsSameName now.sets (drop outs (put_out e)) of c d → PairStands now e others n outs of c d

-- the configuration has the item at this index of the list
pub record HasItem (old : Stores) (was : Expansion) (at : ℕ) (c : List ℕ) : Type 0 where
  pub item : Cond × Hidden
  pub first : drop at was.top.work ≡ item ∷ drop (at + 1) was.top.work
  pub has : old.sets.has item.0.0 c ≡ true

module _ (files : List (List ℕ)) (macros : List ℕ → Macros) where
  -- the configuration comes to the item at this index
  abbrev pub Comes : Stores → Expansion → ℕ → List ℕ → Type 0
  Comes old was at c = ComesAt (seen_hidden old.names old.hides) (provenance_of files) macros old.sets was.top.work at c

  -- both have the same of so many items behind it, and take none but these
  abbrev pub Spans : Stores → Expansion → ℕ → ℕ → List ℕ → List ℕ → Type 0
  Spans old was at size c d = IsSpan (seen_hidden old.names old.hides) (provenance_of files) macros old.sets was.top.work at size c d

  -- the configuration's expansion of the list settles
  abbrev pub Settling : Stores → Expansion → List ℕ → Type 0
  Settling old was c = IsSettling (seen_hidden old.names old.hides) (provenance_of files) macros old.sets was.top.work c

  -- this is put out for the item at an index
  abbrev pub Puts : Stores → Expansion → ℕ → Stores → List (Cond × Hidden) → List ℕ → Type 0
  Puts old was at now out c = PutsOutAt (seen_hidden old.names old.hides) (provenance_of files) macros old.sets was.top.work at now.sets (seen_hidden now.names now.hides) out c

  -- and this for so many first items
  abbrev pub Segments : Stores → Expansion → Stores → ℕ → List (Cond × Hidden) → List (ℕ × (Cond × Hidden)) → Type 0
  Segments old was now count out kept = InSegments (seen_hidden old.names old.hides) (provenance_of files) macros old.sets was.top.work was.refusals.live.0 now.sets (seen_hidden now.names now.hides) count out kept

  -- The item at an index is being expanded, and it is known who came to it; or nothing was put out
  -- yet, and no configuration waits.
  pub data Begins (old now : Stores) (was e : Expansion) (came : List ℕ → Bool) (at next : ℕ) : Type 0 where
    at_item : next ≡ at + 1 → ((c : List ℕ) → IsConfig old.sets.arities c → old.sets.has was.refusals.live.0 c ≡ true → Settling old was c → came c ≡ false → Comes old was at c → ⊥) → Begins old now was e came at next
    at_start : next ≡ 0 → ((c : List ℕ) → came c ≡ false) → put_out e ≡ [] → ((c : List ℕ) → IsConfig old.sets.arities c → now.sets.has e.refusals.waiting.0 c ≡ false) → Begins old now was e came at next

  -- a configuration waits at an item, and these are the indexes of what waits
  abbrev pub Waiting : Stores → Expansion → List ℕ → List ℕ → Type 0
  Waiting old was indexes c = WaitsAs (seen_hidden old.names old.hides) (provenance_of files) macros old.sets was.top.work indexes c

  -- it comes to no item behind this one, for which this is put out
  pub record WaitsHere (old now : Stores) (was : Expansion) (at next : ℕ) (out : List (Cond × Hidden)) (indexes : List ℕ) (c : List ℕ) : Type 0 where
    pub puts : Puts old was at now out c
    pub waited : Waiting old was indexes c
    pub last : (index : ℕ) → next ≤ index → Comes old was index c → ⊥

  -- The item itself stands first, and all that was made is behind it: it is what each configuration
  -- has next that came to it.
  pub record IsFresh (old now : Stores) (was e : Expansion) (came : List ℕ → Bool) (at n : ℕ) (kept : List (ℕ × (Cond × Hidden))) : Type 0 where
    pub below : e.below.items ≡ []
    pub calls : e.top.calls.items ≡ []
    pub first : Cond × Hidden
    pub rest : List (Cond × Hidden)
    pub work : e.top.work ≡ first ∷ rest
    pub long : length rest ≡ n
    pub none : of_item at kept ≡ []
    pub has : (c : List ℕ) → IsConfig old.sets.arities c → came c ≡ true → now.sets.has first.0.0 c ≡ true
    pub starts : (c : List ℕ) → IsConfig old.sets.arities c → came c ≡ true → (item : HasItem old was at c) × (seen_at now e.top.work c ≡ seen_hidden old.names old.hides item.item.1 ∷ tokens_from old was (at + 1) c)

  -- where it waits the item itself does
  abbrev pub Itself : Stores → Expansion → ℕ → List ℕ → Type 0
  Itself old was at c = IsItself (seen_hidden old.names old.hides) (provenance_of files) macros old.sets was.top.work at c

  -- The item itself is gone: who came to it and goes on did not wait at once, and who has the item
  -- itself waiting has the first element of what waits of it, or none.
  pub record IsWorn (old now : Stores) (was e : Expansion) (came : List ℕ → Bool) (at n : ℕ) (kept : List (ℕ × (Cond × Hidden))) : Type 0 where
    pub moved : (c : List ℕ) → IsConfig old.sets.arities c → came c ≡ true → now.sets.has e.refusals.live.0 c ≡ true
        → (x : Comes old was at c) → Waits (macros c) (scanning [] (seen_hidden old.names old.hides x.item.1 ∷ tokens_from old was (at + 1) c)) → ⊥
    pub over : (c : List ℕ) → IsConfig old.sets.arities c → now.sets.has e.refusals.waiting.0 c ≡ true → Itself old was at c → IsOver now e n c
    pub first : (c : List ℕ) → IsConfig old.sets.arities c → now.sets.has e.refusals.waiting.0 c ≡ true → Itself old was at c → items_at now.sets (drop 1 (of_item at kept)) c ≡ []

  -- The list began as `was`, and the item at an index of it is being expanded. The last n items are
  -- its own.
  pub record Phase (old now : Stores) (was e : Expansion) : Type 0 where
    pub at : ℕ
    pub next : ℕ
    pub n : ℕ
    pub fits : n ≤ length (bottom e).work
    pub most : next + n ≤ length was.top.work
    pub outs : ℕ
    pub low : outs ≤ length (put_out e)
    pub faults : ℕ
    pub came : List ℕ → Bool
    pub begins : Begins old now was e came at next
    -- what was put out is that of the items before it, and then its own
    pub kept : List (ℕ × (Cond × Hidden))
    pub kept_is : e.rest ≡ map (λ x. x.1) kept
    pub behind : All (λ x. x.0 < length was.top.work - n) kept
    pub once : (k : ℕ) → next ≤ k → length (of_item k kept) ≤ 1
    pub worn : IsFresh old now was e came at n kept ⊎ IsWorn old now was e came at n kept
    pub before : Segments old was now at (take outs (put_out e)) kept
    pub waits : (c : List ℕ) → IsConfig old.sets.arities c → now.sets.has e.refusals.waiting.0 c ≡ true → WaitsHere old now was at next (drop outs (put_out e)) (indexes_now now e (length was.top.work) n at kept c) c
    pub has : (c : List ℕ) → IsConfig old.sets.arities c → came c ≡ true → HasItem old was at c
    pub place : (c : List ℕ) → IsConfig old.sets.arities c → now.sets.has e.refusals.live.0 c ≡ true
        → Placed (provenance_of files) (macros c) (seen_at old was.top.work c) (came c) (length (tokens_from old was next c)) (seen_at now (take outs (put_out e)) c) (state_now now e c) (last_at now e n c)
    -- its own items are the last that it had
    pub suffix : (c : List ℕ) → IsConfig old.sets.arities c → now.sets.has e.refusals.live.0 c ≡ true → (m : ℕ) → m ≤ n
        → (g : ℕ) × (below m (behind_at now.sets (bottom e).work c) ≡ drop g (below m (behind_at old.sets was.top.work c)))
    -- who expand it alike have the same of all that was made, or have come through it
    pub pairs : (size : ℕ) (c d : List ℕ) → IsConfig old.sets.arities c → IsConfig old.sets.arities d → Spans old was at size c d → came c ≡ true → came d ≡ true
        → PairStands now e (record { behind = lower_of (bound_of was at size) n; out = outs; faults = faults }) n outs (of_item at kept) c d

  -- the next turn takes no token but one that was made, or the name itself
  pub record IsReady {old now : Stores} {was e : Expansion} (phase : Phase old now was e) : Type 0 where
    pub below : e.below.items ≡ [] → e.top.calls.items ≡ [] → (e.top.work ≡ [] → ⊥) → suc phase.n ≤ length e.top.work

-- ---- the items of a list at a configuration: how many tokens stand from each on, and what it
-- becomes where the configuration comes to it

drop-slice : {A : Type 0} (n : ℕ) (xs : List A) (x : A) → slice_get xs n ≡ Some x → drop n xs ≡ x ∷ drop (n + 1) xs
drop-slice n xs x is =
    let next : suc n ≡ n + 1 = omega arith in
    drop-cons xs n x (slice_get_within xs n x is) ∙ (λ i. get_or_from_slice_get xs n x x is i ∷ drop (next i) xs)

-- from a later item on are no more tokens
pub from-later : (old : Stores) (was : Expansion) (c : List ℕ) (first later : ℕ) → first ≤ later → length (tokens_from old was later c) ≤ length (tokens_from old was first c)
from-later old was c first later le =
    let d = seen-drop old (later - first) (drop first was.top.work) c in
    let same : drop (later - first) (drop first was.top.work) ≡ drop later was.top.work = drop-drop (later - first) first was.top.work ∙ ap (λ (k : ℕ). drop k was.top.work) (omega (arith, le)) in
    let count = ap (λ l. length (seen_at old l c)) same in
    omega (arith, ap length d.1, length-drop d.0 (seen_at old (drop first was.top.work) c), count)

module _ (files : List (List ℕ)) (macros : List ℕ → Macros) (old : Stores) (was : Expansion) (at : ℕ) (c : List ℕ) where
  -- the item stands before those behind it
  pub come-many : Comes files macros old was at c → length (tokens_from old was at c) ≡ suc (length (tokens_from old was (at + 1) c))
  come-many x = ap length (seen-name old (drop at was.top.work) (drop (at + 1) was.top.work) x.item c (drop-slice at was.top.work x.item x.is) x.has)

  module _ (item : HasItem old was at c) {before rest : List (HiddenToken Place)} {t : HiddenToken Place} (passes : Passes (provenance_of files) (macros c) (seen_at old was.top.work c) before (t ∷ rest))
      (long : length rest ≡ length (tokens_from old was (at + 1) c)) where
    -- a name that so many tokens stand behind is the item's
    pub item-is : t ∷ rest ≡ seen_hidden old.names old.hides item.item.1 ∷ tokens_from old was (at + 1) c
    item-is =
        let there = seen-drop old at was.top.work c in
        let one = passes-end (provenance_of files) (macros c) passes in
        same-end one.0 there.0 (seen_at old was.top.work c) (t ∷ rest) (seen_hidden old.names old.hides item.item.1 ∷ tokens_from old was (at + 1) c) one.1
        (sym (seen-name old (drop at was.top.work) (drop (at + 1) was.top.work) item.item c item.first item.has) ∙ there.1) (ap suc long)

    -- it becomes what the name becomes
    abbrev pub comes-by : {done : List (HiddenToken Place)} {end : End Place} {u : Uses Place} → Runs (provenance_of files) (macros c) (t ∷ []) rest done end u → Comes files macros old was at c
    comes-by {done} {end} {u} runs = record {
      item = item.item;
      is = slice-drop at was.top.work item.item (drop (at + 1) was.top.work) item.first;
      has = item.has;
      before = before;
      passes = subst (Passes (provenance_of files) (macros c) (seen_at old was.top.work c) before) item-is passes;
      done = done;
      end = end;
      uses = u;
      runs = run-same (provenance_of files) (macros c) item-is runs;
    }
