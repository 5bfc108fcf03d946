-- The parts of a list, made one by one.
use Rattle.std.proofs.Common.{◌≡◌, ℕ, ◌<◌, ◌+◌, ◌-◌, List, ◌∷◌, ◌++◌, append_assoc, false, length, take, drop, get_or, sym, ap, ◌∙◌}
use Rattle.sc_macro.specs.declared.definition.Item.{Item}
use Rattle.sc_model.specs.declared.kind.Kind.TheVariants.{Identifier}
use Rattle.sc_subst.specs.declared.parts.ListPart.{ListPart}
use Rattle.sc_subst.specs.declared.parts.ListPart.TheVariants as list
use Rattle.sc_subst.proofs.Gluing.{from_at, tail_at}

abbrev pub blank_item : Item
blank_item = record { kind = Identifier; name = record { 0 = 0 }; spelling = record { 0 = 0 }; space = false }

abbrev pub blank_part : ListPart
blank_part = list.Token blank_item

-- one turn of a loop, which makes more of one element, and leaves the others
pub part_turn : {X Y : Type 0} (xs : List X) (i : ℕ) (d : X) (here left : List X → List Y) (whole made more new : List Y) → i < length xs → whole ≡ made ++ here (drop i xs)
    → here (get_or xs i d ∷ take (length xs - (i + 1)) (drop (i + 1) xs)) ≡ more ++ left (take (length xs - (i + 1)) (drop (i + 1) xs)) → new ≡ made ++ more
    → whole ≡ new ++ left (drop (i + 1) xs)
part_turn {X} {Y} xs i d here left whole made more new h so_far is pushed =
    let rest : List X = take (length xs - (i + 1)) (drop (i + 1) xs) in
    so_far
    ∙ (ap (λ ys. made ++ here ys) (from_at xs i d h)
    ∙ (ap (λ ys. made ++ ys) is
    ∙ (sym (append_assoc made more (left rest)) ∙ (ap (λ ys. ys ++ left rest) (sym pushed) ∙ ap (λ ys. new ++ left ys) (tail_at xs i)))))
