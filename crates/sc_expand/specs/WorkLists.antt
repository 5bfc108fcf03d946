-- Lists of tokens that are still to be expanded.
use Rattle.std.specs.Prelude.{◌≡◌, ℕ, ◌<◌, ◌++◌, List, [], All, Some, drop, length, map, slice_get, take, true, if◌then◌else◌}
use Rattle.sc_base.specs.declared.id.Cond.{Cond}
use Rattle.sc_expand.specs.declared.source.Behind.{Behind}
use Rattle.sc_expand.specs.declared.source.Behind.TheVariants as is
use Rattle.sc_expand.specs.declared.source.Rest.{Rest}
use Rattle.sc_expand.specs.declared.source.Source.{Source}
use Rattle.sc_expand.specs.Having.{has_each}
use Rattle.sc_guarded.specs.Items.{items_at}
use Rattle.sc_hoist.specs.Alike.{AreAlike}
use Rattle.sc_model.specs.Sets.{Sets, IsCond, IsConfig}
use Rattle.sc_subst.specs.declared.hidden.Hidden.{Hidden}

-- the tokens of an argument, of which the next ones were restricted
abbrev pub items_of : Rest → List (Cond × Hidden)
items_of rest = map (λ t. (rest.by, t)) (take rest.restricted rest.tokens) ++ map (λ t. (rest.cond, t)) (drop rest.restricted rest.tokens)

-- the tokens of the whole list that are left
abbrev pub items_left : Source → List (Cond × Hidden)
items_left source = drop source.next source.items.items

abbrev pub items_behind : Behind → List (Cond × Hidden)
items_behind (is.Argument rest) = items_of rest
items_behind (is.Source source) = items_left source

-- the same tokens, each under a condition of the store's
pub record KeepsItems (now : Sets) (before after : List (Cond × Hidden)) : Type 0 where
  pub items : map (λ item. item.1) after ≡ map (λ item. item.1) before
  pub own : All (λ item. IsCond now item.0.0) after

-- so many of the first tokens were restricted to the configurations of a condition
pub record RestrictsFirst (old new : Sets) (by count : ℕ) (before after : List (Cond × Hidden)) : Type 0 where
  pub rest : drop count after ≡ drop count before
  pub restricted : (c : List ℕ) → IsConfig old.arities c → items_at new (take count after) c ≡ (if old.has by c then items_at old (take count before) c else [])
  pub others : (c : List ℕ) → IsConfig old.arities c → old.has by c ≡ true → has_each new after c ≡ has_each old before c
  pub alike : (c d : List ℕ) (first : ℕ) → IsConfig old.arities c → IsConfig old.arities d → old.has by c ≡ old.has by d
      → AreAlike old c d (take first before) → AreAlike new c d (take first after)

-- the first token is dropped, and some of those behind it that stand under its condition
pub record DropsAlike (before after : List (Cond × Hidden)) : Type 0 where
  pub count : ℕ
  pub is : after ≡ drop count before
  pub alike : (first : Cond × Hidden) → slice_get before 0 ≡ Some first → All (λ item. item.0 ≡ first.0) (take count before)
  pub less : 0 < length before → length after < length before
