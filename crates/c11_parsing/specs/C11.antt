-- The declarators of C11 (6.7.6), by the numbers of the productions. A production with one symbol
-- on its right side has no node.
use Rattle.std.specs.Prelude.{ℕ, ◌==◌, ◌||◌, Bool, Option, Some, None, if◌then◌else◌}
use Rattle.c11_parsing.specs.Bindings.{Declarators}

-- In a function's header (9), behind a pointer (158) and in parentheses (160) the declarator is the
-- second child, in a parameter (67) too; before a suffix (161 to 163), in an enumerator with its
-- value (155) and in a name (287, 288) it is the first.
abbrev pub declarator_child : ℕ → Option ℕ
declarator_child p =
    if p == 9 || p == 67 || p == 158 || p == 160 then Some 1
    else (if p == 155 || p == 161 || p == 162 || p == 163 || p == 287 || p == 288 then Some 0 else None)

-- behind the declarator the parameters (162), or behind a parenthesis the identifiers (163)
abbrev pub parameters_child : ℕ → Option ℕ
parameters_child p = if p == 162 then Some 1 else (if p == 163 then Some 2 else None)

-- a declared parameter (67), or a name in a list of identifiers (288)
abbrev pub is_parameter : ℕ → Bool
is_parameter p = p == 67 || p == 288

-- parameters in parentheses (186), with an ellipsis (64), and a list before a comma (66, 71)
abbrev pub earlier_child : ℕ → Option ℕ
earlier_child p = if p == 186 then Some 1 else (if p == 64 || p == 66 || p == 71 then Some 0 else None)

-- what follows the comma
abbrev pub last_child : ℕ → Option ℕ
last_child p = if p == 66 || p == 71 then Some 2 else None

abbrev pub c11_declarators : Declarators
c11_declarators = record {
  declarator = declarator_child;
  parameters = parameters_child;
  is_parameter = is_parameter;
  earlier = earlier_child;
  last = last_child;
}
