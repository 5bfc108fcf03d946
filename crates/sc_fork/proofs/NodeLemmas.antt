-- A reduction adds one node at most, and a second one that would make it again adds none.
use Rattle.std.proofs.Common.{◌≡◌, ℕ, suc, ◌+◌, ◌-◌, ◌<◌, inl, inr, All, List, [], ◌∷◌, ◌++◌, Option, Some, drop, get_or, length, length-append, reverse, slice_get, take, refl, sym, ap, ◌∙◌, subst, arith}
use Rattle.std.specs.List.{filter_map}
use Rattle.std.proofs.lemmas.List.{drop_more}
use Rattle.std.proofs.lemmas.Option.{same_Some}
use Rattle.lr_tables.specs.Grammar.{Production}
use Rattle.sc_base.specs.declared.id.TreeId.{TreeId}
use Rattle.sc_fork.proofs.BundleLemmas.{kept-row}
use Rattle.sc_fork.specs.Bundles.{AreEnabled, event_by}
use Rattle.sc_fork.specs.declared.enabled.Enabled.{Enabled}
use Rattle.sc_fork.specs.declared.event.Event.{Event}
use Rattle.sc_fork.specs.declared.event.Event.TheVariants.{Reduce}
use Rattle.sc_fork.specs.declared.event.Kind.{Kind}
use Rattle.sc_fork.specs.declared.event.Kind.TheVariants as kinds
use Rattle.sc_fork.specs.declared.source.Source.{Source}
use Rattle.sc_fork.specs.Enabled.{IsEnabled, can_reduce}
use Rattle.sc_fork.specs.Nodes.{AddsNode, AddsOnce, AddsOwnNode, IsNodeBy, ReducesBy}
use Rattle.sc_fork.specs.Pieces.{HasMade, going_of}
use Rattle.sc_fork.specs.View.{View}
use Rattle.sc_grammar.specs.C11.{productions}
use Rattle.sc_merge.specs.declared.subparser.Subparser.{Subparser}
use Rattle.sc_stack.specs.Entries.{Entry, values_of}
use Rattle.sc_tree.specs.Lines.{Line, AddsAtMost, node}

pub adds-none : (lines added : List Line) (line : Line) → added ≡ lines → AddsOnce lines added line
adds-none lines added line same = record { most = inl same; once = λ last. same }

-- of the same line by other words
pub adds-line : (lines added : List Line) (line other : Line) → line ≡ other → AddsAtMost lines added line
    → (slice_get lines (length lines - 1) ≡ Some line → added ≡ lines) → AddsOnce lines added other
adds-line lines added line other same most once = subst (AddsOnce lines added) same (record { most = most; once = once })

-- the values that were taken from the stack are those of the production
pub adds-node : (p count : ℕ) (parent stack : List Entry) (values taken : List (Option TreeId)) (rule : Production) (lines added : List Line) → slice_get productions (p - 1) ≡ Some rule
    → count ≡ length rule.right → stack ≡ parent → taken ≡ reverse (values_of (take count stack)) → values ≡ taken
    → AddsOnce lines added (node p (filter_map (λ value. value) values)) → (line : Line) → IsNodeBy p parent line → AddsOnce lines added line
adds-node p count parent stack values taken rule lines added numbered long shared popped same adds line by =
    let is : rule ≡ by.rule = same_Some rule by.rule (sym numbered ∙ by.numbered) in
    let all = same ∙ popped ∙ ap (λ (es : List Entry). reverse (values_of (take count es))) shared ∙ ap (λ n. reverse (values_of (take n parent))) long
    ∙ ap (λ (r : Production). reverse (values_of (take (length r.right) parent))) is in
    subst (AddsOnce lines added) (ap (λ (vs : List (Option TreeId)). node p (filter_map (λ value. value) vs)) all ∙ sym by.is) adds

last-of : (lines : List Line) (line : Line) → slice_get (lines ++ line ∷ []) (length lines) ≡ Some line
last-of [] line = refl
last-of (first ∷ lines) line = last-of lines line

-- a second event that would add the line
pub adds-again : (a b c : List Line) (line : Line) → AddsAtMost a b line → AddsOnce b c line → AddsAtMost a c line
adds-again a b c line (inl same) adds = subst (λ ls. AddsAtMost ls c line) same adds.most
adds-again a b c line (inr more) adds =
    let end : length b - 1 ≡ length a = omega (arith, ap length more, length-append a (line ∷ [])) in
    inr (adds.once (ap (slice_get b) end ∙ ap (λ ls. slice_get ls (length a)) more ∙ last-of a line) ∙ more)

-- the subparser that an event names is the one that it was done with
adds-of : (source : Source) (rows : List (Option Subparser)) (n : ℕ) (e : Enabled) (lines added : List Line) → IsEnabled source rows (Reduce n) e → AddsOwnNode lines added e
    → (p : ℕ) (stack : List Entry) (line : Line) → ReducesBy source rows p stack n → IsNodeBy p stack line → AddsOnce lines added line
adds-of source rows _ _ lines added (can_reduce n j q s has phase does) own p stack line by is =
    let same : by.parent ≡ s = cc (by.has) in
    let here : by.at ≡ j = cc (by.phase) in
    let rule : p ≡ q = cc (by.does) in
    let stands : stack ≡ s.stack = sym by.stands ∙ ap (λ (t : Subparser). t.stack) same in
    own line (subst (λ m. IsNodeBy m s.stack line) rule (subst (λ st. IsNodeBy p st line) stands is))

pub adds-event : (source : Source) (rows : List (Option Subparser)) (event : Event) (e : Enabled) (lines added : List Line) → IsEnabled source rows event e → AddsOwnNode lines added e
    → (n : ℕ) → event ≡ Reduce n → (p : ℕ) (stack : List Entry) (line : Line) → ReducesBy source rows p stack n → IsNodeBy p stack line → AddsOnce lines added line
adds-event source rows event e lines added can own n is = adds-of source rows n e lines added (subst (λ ev. IsEnabled source rows ev e) is can) own

-- ---- of several subparsers, one after the other

-- what an event leaves reduces still
still-reduces : (before after : View) (n m p : ℕ) (stack : List Entry) (made : List ℕ) → (n ≡ m → ⊥) → ReducesBy before.source before.subparsers p stack m
    → HasMade before (Reduce n) after made → after.source ≡ before.source → ReducesBy after.source after.subparsers p stack m
still-reduces before after n m p stack made other by has same = record {
  parent = by.parent;
  at = by.at;
  has = rw has.becomes.rows (kept-row before.subparsers (going_of has.pieces) n m by.parent other by.has);
  phase = by.phase;
  does = rw same by.does;
  stands = by.stands;
}

-- if all reduce equal stacks by one production, those that are left do so still, and one node at
-- most is added
pub record HasAdded (kind : Kind) (members : List ℕ) (i : ℕ) (before now : View) (lines added : List Line) : Type 0 where
  pub left : (p : ℕ) (stack : List Entry) → kind ≡ kinds.Reduce → All (ReducesBy before.source before.subparsers p stack) members
      → All (ReducesBy now.source now.subparsers p stack) (drop i members)
  pub adds : (p : ℕ) (stack : List Entry) (line : Line) → kind ≡ kinds.Reduce → All (ReducesBy before.source before.subparsers p stack) members → IsNodeBy p stack line
      → AddsAtMost lines added line

pub added-none : (kind : Kind) (members : List ℕ) (before : View) (lines : List Line) → HasAdded kind members 0 before before lines lines
added-none kind members before lines = record { left = λ p stack is all. all; adds = λ p stack line is all by. inl refl }

module _ (kind : Kind) (members : List ℕ) (i : ℕ) (within : i < length members) (before now : View) (lines added : List Line) (was : HasAdded kind members i before now lines added) where
  left-then : (p : ℕ) (stack : List Entry) → kind ≡ kinds.Reduce → All (ReducesBy before.source before.subparsers p stack) members
      → All (ReducesBy now.source now.subparsers p stack) (get_or members i 0 ∷ drop (i + 1) members)
  left-then p stack is all = subst (All (ReducesBy now.source now.subparsers p stack)) (drop_more members i 0 within) (was.left p stack is all)

  pub adds-then : (more : List Line) → (kind ≡ kinds.Reduce → AddsNode now (get_or members i 0) added more) → (p : ℕ) (stack : List Entry) (line : Line) → kind ≡ kinds.Reduce
      → All (ReducesBy before.source before.subparsers p stack) members → IsNodeBy p stack line → AddsAtMost lines more line
  adds-then more once p stack line is all by =
      adds-again lines added more line (was.adds p stack line is all by) (once is p stack line (left-then p stack is all 0 0 (omega arith)) by)

  pub added-more : (more : List Line) (next : View) (made : List ℕ) → (kind ≡ kinds.Reduce → AddsNode now (get_or members i 0) added more)
      → AreEnabled now.source now.subparsers kind (get_or members i 0 ∷ drop (i + 1) members) → HasMade now (event_by kind (get_or members i 0)) next made → next.source ≡ now.source
      → HasAdded kind members (i + 1) before next lines more
  added-more more next made once are has same = record {
    left = λ p stack is all k d below.
        let n : ℕ = get_or members i 0 in
        still-reduces now next n (get_or (drop (i + 1) members) k d) p stack made (are.once 0 (suc k) d (omega arith) (omega (arith, below)))
        (left-then p stack is all (suc k) d (omega (arith, below))) (subst (λ ki. HasMade now (event_by ki n) next made) is has) same;
    adds = adds-then more once;
  }
