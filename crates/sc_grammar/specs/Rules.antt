-- Rules that the productions of C11 keep beyond those of every grammar.
use Rattle.std.specs.Prelude.{ℕ, ◌==◌, nat_lt, Bool, true, false, ◌&&◌, not, List, [], ◌∷◌}
use Rattle.std.specs.List.{list_all, list_any, range_with_len}
use Rattle.lr_tables.specs.Grammar.{Production}
use Rattle.lr_tables.specs.declared.grammar.Symbol.{Symbol}
use Rattle.lr_tables.specs.declared.grammar.Symbol.TheVariants.{Terminal, Nonterminal}

abbrev pub rises_at : ℕ → List Symbol → Bool
rises_at left (Nonterminal n ∷ []) = nat_lt left n.0
rises_at left rest = true

-- where one nonterminal is the whole right side, it stands later in the order of the nonterminals
-- than the left side
abbrev pub rises_along_units : List Production → Bool
rises_along_units ps = list_all (λ (p : Production). rises_at p.left p.right) ps

-- each of so many nonterminals has a production
abbrev pub all_have_productions : List Production → ℕ → Bool
all_have_productions ps count = list_all (λ n. list_any (λ (p : Production). p.left == n) ps) (range_with_len 0 count)

abbrev pub is_nonterminal : ℕ → Symbol → Bool
is_nonterminal n (Terminal t) = false
is_nonterminal n (Nonterminal m) = m.0 == n

-- the first two productions are those of nonterminal 0, which stands on no right side
abbrev pub starts_apart : List Production → Bool
starts_apart [] = false
starts_apart (p ∷ []) = false
starts_apart (p ∷ (q ∷ ps)) =
    (p.left == 0) && (q.left == 0) && list_all (λ (r : Production). not (r.left == 0)) ps
    && list_all (λ (r : Production). not (list_any (is_nonterminal 0) r.right)) (p ∷ (q ∷ ps))
