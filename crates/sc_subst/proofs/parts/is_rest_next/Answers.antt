use Rattle.std.proofs.Common.{◌≡◌, ◌∙◌, ◌≤◌, ◌-◌, List, [], ◌∷◌, map, length, get_or, take, drop, sym, ap, arith}
use Rattle.std.proofs.lemmas.List.{take_all}
use Rattle.c11_macros.specs.Substitution as substitution
use Rattle.sc_subst.specs.ListParts.{seen_list_part}
use Rattle.sc_subst.proofs.parts.is_rest_next.Goals as goal

front_two : {X : Type 0} (xs : List X) (d e : X) → 2 ≤ length xs → xs ≡ get_or xs 0 d ∷ (get_or xs 1 e ∷ take (length xs - 2) (drop 2 xs))
front_two {X} [] d e h = absurd (omega arith)
front_two {X} (x ∷ []) d e h = absurd (omega arith)
front_two {X} (x ∷ (y ∷ xs)) d e h = ap (λ ys. x ∷ (y ∷ ys)) (sym (take_all (length (x ∷ (y ∷ xs)) - 2) xs (omega arith)))

pub returns-in-len2-up : goal.returns-in-len2-up
returns-in-len2-up c = λ names.
    c.is_pasted_rest.ensures names ∙ ap (λ ps. substitution.is_rest_next c.args.rest (map (seen_list_part names) ps)) (sym (front_two c.args.parts.now _ _ c.in-len2-up.len_at_least))
