-- Which tokens of a list a configuration has.
use Rattle.std.specs.Prelude.{◌≡◌, ◌⊎◌, ℕ, suc, ◌≤◌, ◌++◌, Bool, List, [], ◌∷◌, All, drop, length, map, take, if◌then◌else◌}
use Rattle.sc_base.specs.declared.id.Cond.{Cond}
use Rattle.sc_base.specs.declared.token.Token.{Token}
use Rattle.sc_guarded.specs.Items.{items_at}
use Rattle.sc_model.specs.Sets.{Sets}
use Rattle.sc_subst.specs.declared.hidden.Hidden.{Hidden}

-- for each token whether the configuration has it
abbrev pub has_each : {T : Type 0} → Sets → List (Cond × T) → List ℕ → List Bool
has_each s list c = map (λ item. s.has item.0.0 c) list

-- the tokens of a list without their hide sets
abbrev pub tokens_in : List (Cond × Hidden) → List (Cond × Token)
tokens_in list = map (λ item. (item.0, item.1.token)) list

-- for each item of a list that the configuration has, how many items of the list stand behind it
abbrev pub behind_at : {T : Type 0} → Sets → List (Cond × T) → List ℕ → List ℕ
behind_at s [] c = []
behind_at s (item ∷ items) c = if s.has item.0.0 c then length items ∷ behind_at s items c else behind_at s items c

-- The configuration has lost its first items; or others stand before those that it had, or in the
-- place of the first of them.
pub record HasLast (old new : Sets) (before after : List (Cond × Hidden)) (c : List ℕ) : Type 0 where
  pub made : List ℕ
  pub gone : ℕ
  pub is : behind_at new after c ≡ made ++ drop gone (behind_at old before c)
  pub high : All (λ n. length before ≤ suc n) made
  pub few : (made ≡ []) ⊎ (gone ≤ length (items_at old (take 1 before) c))

-- other items stand before all those of the list, of which the configuration has the same
pub record HasMore (old new : Sets) (before after : List (Cond × Hidden)) (c : List ℕ) : Type 0 where
  pub made : List ℕ
  pub is : behind_at new after c ≡ made ++ behind_at old before c
  pub high : All (λ n. length before ≤ n) made
