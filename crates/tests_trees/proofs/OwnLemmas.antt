-- The conditions of branches are the store's as a tree is added.
use Rattle.std.proofs.Common.{◌≡◌, ℕ, ◌⊎◌, inl, inr, List, [], ◌∷◌, ◌++◌, length, slice_get, Some, All, sym, subst}
use Rattle.std.proofs.lemmas.Option.{none-some}
use Rattle.sc_base.specs.declared.id.Cond.{Cond}
use Rattle.sc_base.specs.declared.id.TreeId.{TreeId}
use Rattle.sc_base.proofs.Growth.{push_cases}
use Rattle.sc_model.specs.Sets.{Sets, IsCond}
use Rattle.sc_tree.specs.Lines.{AddsAtMost, Line, branches_of, OwnsBranches}

pub owns-none : (s : Sets) (lines : List Line) → lines ≡ [] → OwnsBranches s lines
owns-none s lines none = subst (λ ls. OwnsBranches s ls) (sym none) (record { each = λ i line at. absurd (none-some line at) })

pub owns-push : (s : Sets) (lines after : List Line) (line : Line) → OwnsBranches s lines → All (λ (branch : Cond × TreeId). IsCond s branch.0.0) (branches_of line)
    → after ≡ lines ++ line ∷ [] → OwnsBranches s after
owns-push s lines after line own new added = subst (λ ls. OwnsBranches s ls) (sym added) (record { each = λ i other at. by i other (push_cases lines line i other at) })
  where
    by : (i : ℕ) (other : Line) → (slice_get lines i ≡ Some other) ⊎ ((i ≡ length lines) × (line ≡ other)) → All (λ (branch : Cond × TreeId). IsCond s branch.0.0) (branches_of other)
    by i other (inl at) = own.each i other at
    by i other (inr (end, same)) = subst (λ (l : Line). All (λ (branch : Cond × TreeId). IsCond s branch.0.0) (branches_of l)) same new

-- a tree that may have been there
pub owns-shared : (s : Sets) (lines after : List Line) (line : Line) → OwnsBranches s lines → All (λ (branch : Cond × TreeId). IsCond s branch.0.0) (branches_of line)
    → AddsAtMost lines after line → OwnsBranches s after
owns-shared s lines after line own new (inl same) = subst (λ ls. OwnsBranches s ls) (sym same) own
owns-shared s lines after line own new (inr added) = owns-push s lines after line own new added
