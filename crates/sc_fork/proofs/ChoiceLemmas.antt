-- Stores to which no choice is added.
use Rattle.std.proofs.Common.{◌≡◌, ℕ, zero, suc, ◌⊎◌, inl, inr, List, [], ◌∷◌, ◌++◌, slice_get, Some, refl, sym, ap, ◌∙◌, subst, All, append_assoc}
use Rattle.std.specs.List.{Contains}
use Rattle.std.proofs.lemmas.List.{append-nil}
use Rattle.std.proofs.lemmas.List.Elements.{All-head, All-nil, All-tail}
use Rattle.std.proofs.lemmas.Option.{same_Some}
use Rattle.lr_tables.proofs.Members.{cons_head, cons_tail}
use Rattle.sc_base.specs.declared.id.Cond.{Cond}
use Rattle.sc_base.specs.declared.id.Name.{Name}
use Rattle.sc_base.specs.declared.id.TreeId.{TreeId}
use Rattle.sc_base.specs.declared.place.Place.{Place}
use Rattle.sc_base.specs.declared.token.Token.{Token}
use Rattle.sc_fork.specs.Choices.{AddsLeaves, AddsNoChoices}
use Rattle.sc_model.specs.Sets.{Sets, IsCond}
use Rattle.sc_tree.specs.Lines.{Line, leaf, node, choice, branches_of, AddsAtMost, OwnsBranches}

abbrev IsNoChoice : Line → Type 0
IsNoChoice line = (branches : List (Cond × TreeId)) → line ≡ choice branches → ⊥

pub append_cases : {A : Type 0} (xs ys : List A) (i : ℕ) (x : A) → slice_get (xs ++ ys) i ≡ Some x → (slice_get xs i ≡ Some x) ⊎ ((j : ℕ) × (slice_get ys j ≡ Some x))
append_cases [] ys i x at = inr (i, at)
append_cases (z ∷ xs) ys zero x at = inl at
append_cases (z ∷ xs) ys (suc i) x at = append_cases xs ys i x at

pub adds-none : (old new : List Line) → new ≡ old → AddsNoChoices old new
adds-none old new same = record { added = []; is = same ∙ sym (append-nil old); none = λ i branches at. absurd (cc) }

-- the conditions of the branches are the store's still
pub adds-branches : (s : Sets) (old new : List Line) → AddsNoChoices old new → OwnsBranches s old → OwnsBranches s new
adds-branches s old new adds own = subst (λ ls. OwnsBranches s ls) (sym adds.is) (record { each = λ i line at. by i line (append_cases old adds.added i line at) })
  where
    no-branches : (line : Line) → IsNoChoice line → All (λ (branch : Cond × TreeId). IsCond s branch.0.0) (branches_of line)
    no-branches (leaf place spelling) other = All-nil (λ (branch : Cond × TreeId). IsCond s branch.0.0)
    no-branches (node production children) other = All-nil (λ (branch : Cond × TreeId). IsCond s branch.0.0)
    no-branches (choice branches) other = absurd (other branches refl)

    by : (i : ℕ) (line : Line) → (slice_get old i ≡ Some line) ⊎ ((j : ℕ) × (slice_get adds.added j ≡ Some line)) → All (λ (branch : Cond × TreeId). IsCond s branch.0.0) (branches_of line)
    by i line (inl before) = own.each i line before
    by i line (inr new_one) = no-branches line (λ branches e. adds.none new_one.0 branches (new_one.1 ∙ ap Some e))

-- ---- leaves

contains-at : {A : Type 0} (xs : List A) (i : ℕ) (x : A) → slice_get xs i ≡ Some x → Contains xs x
contains-at [] i x at = absurd (cc)
contains-at (y ∷ xs) zero x at = subst (Contains (y ∷ xs)) (same_Some y x at) (cons_head y xs)
contains-at (y ∷ xs) (suc i) x at = cons_tail y x xs (contains-at xs i x at)

all-at : {A : Type 0} (P : A → Type 0) (xs : List A) (i : ℕ) (x : A) → All P xs → slice_get xs i ≡ Some x → P x
all-at P [] i x all at = absurd (cc)
all-at P (y ∷ xs) zero x all at = subst P (same_Some y x at) (All-head P y xs all)
all-at P (y ∷ xs) (suc i) x all at = all-at P xs i x (All-tail P y xs all) at

module _ (list : List (Cond × Token)) where
  abbrev IsOfList : Place → Name → Type 0
  IsOfList place spelling = (item : Cond × Token) × (Contains list item × (item.1.place ≡ place × item.1.spelling ≡ spelling))

  pub leaves-none : (old new : List Line) → new ≡ old → AddsLeaves list old new
  leaves-none old new same = record { added = []; is = same ∙ sym (append-nil old); leaves = λ i place spelling at. absurd (cc) }

  -- at most one line, which is no leaf or that of a token
  leaves-line : (old new : List Line) (line : Line) → ((place : Place) (spelling : Name) → line ≡ leaf place spelling → IsOfList place spelling) → AddsAtMost old new line
      → AddsLeaves list old new
  leaves-line old new line from (inl same) = leaves-none old new same
  leaves-line old new line from (inr more) = record { added = line ∷ []; is = more; leaves = leaves }
    where
      leaves : (i : ℕ) (place : Place) (spelling : Name) → slice_get (line ∷ []) i ≡ Some (leaf place spelling) → IsOfList place spelling
      leaves zero place spelling at = from place spelling (same_Some line (leaf place spelling) at)
      leaves (suc i) place spelling at = absurd (cc)

  pub leaves-leaf : (old new : List Line) (j : ℕ) (item : Cond × Token) → slice_get list j ≡ Some item → AddsAtMost old new (leaf item.1.place item.1.spelling) → AddsLeaves list old new
  leaves-leaf old new j item at =
      leaves-line old new (leaf item.1.place item.1.spelling) (λ place spelling e. (item, (contains-at list j item at, (let p : item.1.place ≡ place = cc in p, let n : item.1.spelling ≡ spelling = cc in n))))

pub leaves-then : (list : List (Cond × Token)) (one two three : List Line) → AddsLeaves list one two → AddsLeaves list two three → AddsLeaves list one three
leaves-then list one two three first second = record {
  added = first.added ++ second.added;
  is = second.is ∙ ap (λ ls. ls ++ second.added) first.is ∙ append_assoc one first.added second.added;
  leaves = λ i place spelling at. by i place spelling (append_cases first.added second.added i (leaf place spelling) at);
}
  where
    by : (i : ℕ) (place : Place) (spelling : Name) → (slice_get first.added i ≡ Some (leaf place spelling)) ⊎ ((j : ℕ) × (slice_get second.added j ≡ Some (leaf place spelling)))
        → (item : Cond × Token) × (Contains list item × (item.1.place ≡ place × item.1.spelling ≡ spelling))
    by i place spelling (inl at) = first.leaves i place spelling at
    by i place spelling (inr later) = second.leaves later.0 place spelling later.1
