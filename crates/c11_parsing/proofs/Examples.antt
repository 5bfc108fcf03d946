-- Parsing computed on a small grammar: a text is one name, or empty.
use Rattle.std.proofs.Common.{◌≡◌, ℕ, ◌==◌, ◌&&◌, if◌then◌else◌, [], ◌∷◌, false, Option, Some, None, Ok, Err, codes, refl}
use Rattle.lr_tables.specs.declared.grammar.Action.{Action}
use Rattle.lr_tables.specs.declared.grammar.Action.TheVariants.{Shift, Reduce}
use Rattle.lr_tables.specs.declared.grammar.Mark.TheVariants.{PushParameters, BindTypedef}
use Rattle.lr_tables.specs.declared.grammar.Symbol.TheVariants.{Terminal, Nonterminal}
use Rattle.sc_model.specs.declared.cause.Cause.TheVariants.{Syntax}
use Rattle.sc_model.specs.declared.kind.Kind.TheVariants.{Other}
use Rattle.sc_model.specs.Fault.{fault_at}
use Rattle.sc_model.specs.Token.{Place, Token}
use Rattle.c11_parsing.specs.Bindings.{Declarators, typedef, variable, innermost, join, marked, declared}
use Rattle.c11_parsing.specs.LR.{LR, here, later}
use Rattle.c11_parsing.specs.Parser.{Parser}
use Rattle.c11_parsing.specs.Trees.{Tree, leaf, node, no_trees, trees}

place : ℕ → Place
place n = record { file = []; position = record { line = 1; column = n } }

abbrev x : Token
x = record { kind = Other; spelling = codes "x"; space = false; place = place 1 }

abbrev y : Token
y = record { kind = Other; spelling = codes "y"; space = false; place = place 2 }

-- the name of a declarator is its first child, that of production 4 its second; production 5 has
-- its parameters in its second child, and production 6 is a list of two
abbrev declarators : Declarators
declarators = record {
  declarator = λ p. (if p == 4 then Some 1 else Some 0);
  parameters = λ p. (if p == 5 then Some 1 else None);
  is_parameter = λ p. p == 3;
  earlier = λ p. (if p == 6 then Some 0 else None);
  last = λ p. (if p == 6 then Some 1 else None);
}

abbrev name : Token → Tree
name t = node 3 (trees (leaf t) no_trees)

-- a pointer to x
declared-pointer : declared declarators (node 4 (trees (leaf y) (trees (name x) no_trees))) ≡ codes "x" ∷ []
declared-pointer = refl

-- the parameters x and y of a function x are bound in order in a level of their own
header : marked declarators (Some PushParameters) (Some (node 5 (trees (name x) (trees (node 6 (trees (name x) (trees (name y) no_trees))) no_trees)))) ([] ∷ [])
    ≡ (record { name = codes "y"; kind = variable } ∷ record { name = codes "x"; kind = variable } ∷ []) ∷ ([] ∷ [])
header = refl

-- an inner variable hides a typedef, also after its level was joined to the outer one
hides : innermost (codes "x") (join ((record { name = codes "x"; kind = variable } ∷ []) ∷ ((record { name = codes "x"; kind = typedef } ∷ []) ∷ []))) ≡ Some variable
hides = refl

-- NAME is 0, its kinds are 1 and 2, the end is 3
abbrev action : ℕ → ℕ → Option Action
action state t =
    if state == 0 && t == 0 then Some (Shift 1)
    else (if state == 1 && t == 2 then Some (Shift 2)
    else (if state == 2 && t == 3 then Some (Reduce 3)
    else (if state == 3 && t == 3 then Some (Shift 4)
    else (if state == 0 && t == 3 then Some (Shift 5)
    else None))))

abbrev small : Parser
small = record {
  productions =
      record { left = 0; right = Nonterminal (record { 0 = 1 }) ∷ Terminal (record { 0 = 3 }) ∷ []; mark = None }
      ∷ record { left = 0; right = Terminal (record { 0 = 3 }) ∷ []; mark = None }
      ∷ record { left = 1; right = Terminal (record { 0 = 0 }) ∷ Terminal (record { 0 = 2 }) ∷ []; mark = Some BindTypedef } ∷ [];
  terminals = 4;
  tables = record { states = []; action = action; goto = λ s n. (if s == 0 && n == 1 then Some 3 else None); conflicts = [] };
  terminal_of = λ t. Some 0;
  name = 0;
  typedef_kind = 1;
  variable_kind = 2;
  end = 3;
  declarators = declarators;
}

one-name : LR small (place 9) (x ∷ []) (Ok (node 1 (trees (name x) no_trees)))
one-name = record { run = later (later (later (later (later (later here))))) }

no-name : LR small (place 9) [] (Ok (node 2 no_trees))
no-name = record { run = later (later here) }

-- the second name has no action
two-names : LR small (place 9) (x ∷ y ∷ []) (Err (fault_at Syntax (place 2)))
two-names = record { run = later (later (later (later (later here)))) }
