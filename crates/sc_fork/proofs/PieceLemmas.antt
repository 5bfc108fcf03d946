-- What an event makes of its subparsers, by what the functions of the events promise.
use Rattle.std.proofs.Common.{◌≡◌, ℕ, zero, suc, ◌⊎◌, inl, inr, List, [], ◌∷◌, ◌++◌, length, map, get_or, slice_get, is_some, Option, Some, All, sym, ap, ◌∙◌, subst}
use Rattle.std.specs.Prelude.{Result, Ok, Err, IfOk}
use Rattle.std.proofs.lemmas.List.Elements.{All-nil, All-cons}
use Rattle.std.proofs.lemmas.Option.{slice_get_within, get_or_from_slice_get}
use Rattle.lr_tables.proofs.Stacks.{same_symbols}
use Rattle.lr_tables.specs.declared.grammar.Action.TheVariants as action
use Rattle.lr_tables.specs.Paths.{Path}
use Rattle.sc_base.specs.declared.id.Cond.{Cond}
use Rattle.sc_base.specs.declared.id.TreeId.{TreeId}
use Rattle.sc_base.specs.declared.token.Token.{Token}
use Rattle.sc_fork.specs.Choices.{AddsLeaves}
use Rattle.sc_fork.specs.declared.enabled.Enabled.TheVariants.{Split, Reduce, Shift, Classify, Merge}
use Rattle.sc_fork.specs.declared.event.Event.{Event}
use Rattle.sc_fork.specs.declared.piece.Piece.{Piece}
use Rattle.sc_fork.specs.declared.source.Source.{Source}
use Rattle.sc_fork.specs.Enabled.{IsEnabled, can_split, can_reduce, can_shift, can_classify, can_merge}
use Rattle.sc_fork.specs.Owns.{HasC11Tables, IsOnPath, IsWithin, IsSource, OwnsRow, has_tree}
use Rattle.sc_fork.specs.Seen.{action_in}
use Rattle.sc_merge.specs.declared.subparser.Phase.TheVariants.{Between, At, Named}
use Rattle.sc_merge.specs.declared.subparser.Subparser.{Subparser}
use Rattle.sc_merge.specs.Keys.{AreAlike}
use Rattle.sc_merge.specs.Merges.{AddsPartings, IsParting, OwnsSubparser}
use Rattle.sc_model.specs.Sets.{Sets, IsCond, Keeps}
use Rattle.sc_stack.specs.Entries.{states_of, values_of}
use Rattle.sc_tree.specs.Lines.{Line, leaf, choice, branches_of, OwnsBranches}

-- ---- what an event that a core can do tells

pub split-phase : (source : Source) (rows : List (Option Subparser)) (event : Event) (s : Subparser) (i : ℕ) → IsEnabled source rows event (Split s i) → s.phase ≡ Between i
split-phase source rows _ _ _ (can_split n i s has phase) = phase

pub reduce-is : (source : Source) (rows : List (Option Subparser)) (event : Event) (s : Subparser) (j p : ℕ) → IsEnabled source rows event (Reduce s j p)
    → (s.phase ≡ At j) × (action_in source s j ≡ Some (action.Reduce p))
reduce-is source rows _ _ _ _ (can_reduce n j p s has phase does) = (phase, does)

pub shift-is : (source : Source) (rows : List (Option Subparser)) (event : Event) (s : Subparser) (j : ℕ) → IsEnabled source rows event (Shift s j)
    → (s.phase ≡ At j) × ((p : ℕ) → action_in source s j ≡ Some (action.Reduce p) → ⊥)
shift-is source rows _ _ _ (can_shift n j s has phase other) = (phase, other)

pub classify-phase : (source : Source) (rows : List (Option Subparser)) (event : Event) (s : Subparser) (j : ℕ) → IsEnabled source rows event (Classify s j) → s.phase ≡ Named j
classify-phase source rows _ _ _ (can_classify n j s has phase) = phase

pub merge-alike : (source : Source) (rows : List (Option Subparser)) (event : Event) (s t : Subparser) → IsEnabled source rows event (Merge s t) → AreAlike s t
merge-alike source rows _ _ _ (can_merge n m s t has has_other other alike) = alike

-- ---- what is owned

pub all-one : (P : Piece → Type 0) (pieces : List Piece) (piece : Piece) → pieces ≡ piece ∷ [] → P piece → All P pieces
all-one P pieces piece is holds = subst (All P) (sym is) (All-cons P piece [] holds (All-nil P))

-- stacks with the same states have trees for the same symbols
same-trees : (source : Source) (s t : Subparser) → HasC11Tables source.tables.now → ((c11 : HasC11Tables source.tables.now) → IsOnPath c11.are.grammar c11.states s.stack)
    → ((c11 : HasC11Tables source.tables.now) → IsOnPath c11.are.grammar c11.states t.stack) → states_of t.stack ≡ states_of s.stack
    → map is_some (values_of s.stack) ≡ map is_some (values_of t.stack)
same-trees source s t c11 s_path t_path same =
    let p = s_path c11 in
    let q = t_path c11 in
    let along : Path c11.are.grammar c11.states (states_of s.stack) q.symbols = subst (λ states. Path c11.are.grammar c11.states states q.symbols) same q.path in
    p.trees ∙ ap (map has_tree) (same_symbols c11.are.grammar c11.states (states_of s.stack) p.symbols q.symbols p.path along) ∙ sym q.trees

pub silent-alike : (sets : Sets) (count : ℕ) (source : Source) (s t : Subparser) → IsSource source → OwnsRow sets count source s → OwnsRow sets count source t → AreAlike s t
    → map is_some (values_of s.stack) ≡ map is_some (values_of t.stack)
silent-alike sets count source s t is own_s own_t alike = same-trees source s t is.tables own_s.path own_t.path alike.states

-- what is merged of two rows is a row
pub merged-row : (old new : Sets) (count more : ℕ) (source : Source) (s m : Subparser) → IsSource source → OwnsRow old count source s → AreAlike s m → OwnsSubparser new more m
    → map is_some (values_of m.stack) ≡ map is_some (values_of s.stack) → OwnsRow new more source m
merged-row old new count more source s m is own alike owns trees = record {
  owns = owns;
  within = subst (IsWithin (length source.list.now)) (sym alike.phase) own.within;
  path = λ c11.
      let p = own.path c11 in
      record { symbols = p.symbols; path = subst (λ states. Path c11.are.grammar c11.states states p.symbols) (sym alike.states) p.path; trees = trees ∙ p.trees };
}

-- what is so of the piece is so of what was made, where there was memory for it
pub if-made : {E : Type 0} (P : Piece → Type 0) (made : Result Piece E) (piece : Piece) → IfOk made (λ p. p ≡ piece) → P piece → IfOk made P
if-made P (Ok p) piece is holds = subst P (sym is) holds
if-made P (Err e) piece is holds = tt

-- ---- new choices

pub at-all : {A : Type 0} (P : A → Type 0) (xs : List A) (i : ℕ) (x : A) → All P xs → slice_get xs i ≡ Some x → P x
at-all P xs i x all at = subst P (get_or_from_slice_get xs i x x at) (all i x (slice_get_within xs i x at))

pub merge-leaves : (list : List (Cond × Token)) {sets : Sets} {a b : Cond} (old new : List Line) → AddsPartings sets a b old new → AddsLeaves list old new
merge-leaves list {sets} {a} {b} old new adds = record {
  added = adds.added;
  is = adds.is;
  leaves = λ i place spelling at.
      let made : IsParting sets a b (leaf place spelling) = at-all (IsParting sets a b) adds.added i (leaf place spelling) adds.choices at in
      let apart : leaf place spelling ≡ choice ((made.here, made.is.left) ∷ ((made.there, made.is.right) ∷ [])) = made.is.is in
      absurd (cc);
}

append-cases : {A : Type 0} (xs ys : List A) (i : ℕ) (x : A) → slice_get (xs ++ ys) i ≡ Some x → (slice_get xs i ≡ Some x) ⊎ ((j : ℕ) × (slice_get ys j ≡ Some x))
append-cases [] ys i x at = inr (i, at)
append-cases (z ∷ xs) ys zero x at = inl at
append-cases (z ∷ xs) ys (suc i) x at = append-cases xs ys i x at

pub merge-branches : (old new : Sets) (lines added : List Line) (a b : Cond) → Keeps old new → OwnsBranches old lines → AddsPartings new a b lines added → OwnsBranches new added
merge-branches old new lines added a b keeps own adds =
    subst (OwnsBranches new) (sym adds.is) (record { each = λ i line at. by i line (append-cases lines adds.added i line at) })
  where
    both : (here there : Cond) (left right : TreeId) → IsCond new here.0 → IsCond new there.0
        → All (λ (branch : Cond × TreeId). IsCond new branch.0.0) ((here, left) ∷ ((there, right) ∷ []))
    both here there left right own_here own_there =
        All-cons (λ (branch : Cond × TreeId). IsCond new branch.0.0) (here, left) ((there, right) ∷ []) own_here
        (All-cons (λ (branch : Cond × TreeId). IsCond new branch.0.0) (there, right) [] own_there (All-nil (λ (branch : Cond × TreeId). IsCond new branch.0.0)))

    by : (i : ℕ) (line : Line) → (slice_get lines i ≡ Some line) ⊎ ((j : ℕ) × (slice_get adds.added j ≡ Some line))
        → All (λ (branch : Cond × TreeId). IsCond new branch.0.0) (branches_of line)
    by i line (inl at) = λ k d below. keeps.own (get_or (branches_of line) k d).0.0 (own.each i line at k d below)
    by i line (inr found) =
        let made : IsParting new a b line = at-all (IsParting new a b) adds.added found.0 line adds.choices found.1 in
        subst (λ x. All (λ (branch : Cond × TreeId). IsCond new branch.0.0) (branches_of x)) (sym made.is.is)
        (both made.here made.there made.is.left made.is.right made.parts.own_here made.parts.own_there)
