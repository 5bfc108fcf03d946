-- Children stand before their tree.
use Rattle.std.proofs.Common.{◌≡◌, ℕ, ◌<◌, ◌⊎◌, inl, inr, List, [], ◌∷◌, ◌++◌, length, map, slice_get, Some, All, subst, sym, ◌∙◌, ap}
use Rattle.std.proofs.lemmas.List.{map-append}
use Rattle.sc_base.specs.declared.id.TreeId.{TreeId}
use Rattle.sc_base.proofs.Growth.{push_cases}
use Rattle.sc_tree.specs.declared.line.Line as kept
use Rattle.sc_tree.specs.Lines.{Line, children_of, ChildrenFirst}
use Rattle.sc_tree.specs.Views.{line_of}

-- a tree is added whose children were there
pub ChildrenFirst-push : (lines : List Line) (line : Line) → ChildrenFirst lines → All (λ child. child.0 < length lines) (children_of line)
    → ChildrenFirst (lines ++ line ∷ [])
ChildrenFirst-push lines line first own = record { each = λ i other at. by i other (push_cases lines line i other at) }
  where
    by : (i : ℕ) (other : Line) → (slice_get lines i ≡ Some other) ⊎ ((i ≡ length lines) × (line ≡ other)) → All (λ (child : TreeId). child.0 < i) (children_of other)
    by i other (inl at) = first.each i other at
    by i other (inr (end, same)) =
        let moved : All (λ (child : TreeId). child.0 < length lines) (children_of other)
        = subst (λ (l : Line). All (λ (child : TreeId). child.0 < length lines) (children_of l)) same own in
        subst (λ (n : ℕ). All (λ (child : TreeId). child.0 < n) (children_of other)) (sym end) moved

-- the same of the lines that the code keeps
pub kept_first : (lines : List kept.Line) (line : kept.Line) (after : List kept.Line) (seen : List Line) → map line_of lines ≡ seen
    → ChildrenFirst (map line_of lines) → All (λ child. child.0 < length seen) (children_of (line_of line)) → after ≡ lines ++ line ∷ []
    → ChildrenFirst (map line_of after)
kept_first lines line after seen same first own is =
    let own_here : All (λ (child : TreeId). child.0 < length (map line_of lines)) (children_of (line_of line))
    = subst (λ (ls : List Line). All (λ (child : TreeId). child.0 < length ls) (children_of (line_of line))) (sym same) own in
    let e : map line_of after ≡ map line_of lines ++ line_of line ∷ [] = ap (map line_of) is ∙ rw map-append in
    subst ChildrenFirst (sym e) (ChildrenFirst-push (map line_of lines) (line_of line) first own_here)
