-- The arguments of a call, by the tokens between its parentheses (C11 6.10.3p11).
use Rattle.std.specs.Prelude.{◌≡◌, ℕ, zero, suc, ◌+◌, ◌-◌, ◌<◌, ◌++◌, List, [], ◌∷◌}
use Rattle.c11_macros.specs.Call.{Role, opening, closing, comma, other, role_of, onto_argument}
use Rattle.c11_macros.specs.Hidden.{Hidden}
use Rattle.sc_expand.specs.declared.role.Role as declared
use Rattle.sc_expand.specs.declared.role.Role.TheVariants as is

abbrev pub seen_role : declared.Role → Role
seen_role is.Opening = opening
seen_role is.Closing = closing
seen_role is.Comma = comma
seen_role is.Other = other

-- One token at a depth of inner parentheses, where so many commas may still part arguments. What
-- follows is parted by go.
abbrev pub parting_step : {P : Type 0} → Role → ℕ → ℕ → Hidden P → (ℕ → ℕ → List (List (Hidden P))) → List (List (Hidden P))
parting_step opening commas depth t go = onto_argument t (go commas (suc depth))
parting_step closing commas zero t go = onto_argument t (go commas zero)
parting_step closing commas (suc depth) t go = onto_argument t (go commas depth)
parting_step comma (suc commas) zero t go = [] ∷ go commas zero
parting_step comma zero zero t go = onto_argument t (go zero zero)
parting_step comma commas (suc depth) t go = onto_argument t (go commas (suc depth))
parting_step other commas depth t go = onto_argument t (go commas depth)

-- the tokens between the parentheses of a call, parted at so many commas outside inner ones
abbrev pub parted : {P : Type 0} → ℕ → ℕ → List (Hidden P) → List (List (Hidden P))
parted commas depth [] = [] ∷ []
parted commas depth (t ∷ ts) = parting_step (role_of t.spelling) commas depth t (λ c d. parted c d ts)

-- the token parts two arguments
pub record IsParting (role : Role) (commas depth : ℕ) : Type 0 where
  pub separates : role ≡ comma
  pub some : 0 < commas
  pub outside : depth ≡ 0

-- the depth of inner parentheses behind the token
abbrev pub depth_behind : Role → ℕ → ℕ
depth_behind opening depth = depth + 1
depth_behind closing depth = depth - 1
depth_behind comma depth = depth
depth_behind other depth = depth

-- these tokens before those of the first list
abbrev pub begun_with : {A : Type 0} → List A → List (List A) → List (List A)
begun_with front [] = front ∷ []
begun_with front (list ∷ lists) = (front ++ list) ∷ lists
