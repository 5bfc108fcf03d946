-- LR parsing of one configuration's tokens, where the kind of a name is chosen behind it.
use Rattle.std.specs.Prelude.{ℕ, ◌-◌, ◌==◌, List, [], ◌∷◌, length, take, drop, slice_get, Option, Some, None, is_some, Result, Ok, Err, if◌then◌else◌}
use Rattle.lr_tables.specs.Grammar.{Production}
use Rattle.lr_tables.specs.declared.grammar.Action.{Action}
use Rattle.lr_tables.specs.declared.grammar.Action.TheVariants.{Shift, Reduce}
use Rattle.sc_model.specs.declared.cause.Cause.{Cause}
use Rattle.sc_model.specs.declared.cause.Cause.TheVariants.{BadToken, Syntax}
use Rattle.sc_model.specs.Fault.{Fault, fault_at}
use Rattle.sc_model.specs.Token.{Place, Token}
use Rattle.c11_parsing.specs.Bindings.{NameKind, typedef, Level, innermost, marked}
use Rattle.c11_parsing.specs.Parser.{Parser}
use Rattle.c11_parsing.specs.Trees.{Tree, leaf, node, Forest, no_trees, with_tree}

-- a state above the lowest, and the tree of its symbol
pub record Frame : Type 0 where
  pub state : ℕ
  pub tree : Option Tree

pub data Phase : Type 0 where
  -- the next token is not looked at yet
  reading : Phase
  looking : Phase
  -- a name was shifted, its kind was not
  named : Phase

-- A parser at work: its stack and its levels, the top first, and the tokens that are left.
pub record Run : Type 0 where
  pub stack : List Frame
  pub levels : List Level
  pub left : List Token
  pub phase : Phase

pub data Point : Type 0 where
  on : Run → Point
  answered : Result Tree Fault → Point

abbrev pub top : List Frame → ℕ
top [] = 0
top (frame ∷ stack) = frame.state

abbrev pub next_terminal : Parser → List Token → Option ℕ
next_terminal m [] = Some m.end
next_terminal m (t ∷ ts) = m.terminal_of t

-- the place of the next token, or of the end
abbrev pub next_place : Place → List Token → Place
next_place end [] = end
next_place end (t ∷ ts) = t.place

abbrev pub refused : Place → List Token → Cause → Point
refused end ts cause = answered (Err (fault_at cause (next_place end ts)))

-- ---- trees of frames, which are given top first

abbrev pub trees_of : List Frame → Forest → Forest
trees_of [] forest = forest
trees_of (frame ∷ frames) forest = trees_of frames (with_tree frame.tree forest)

-- the tree of a production's left side; that of one symbol is passed on
abbrev pub tree_of : ℕ → List Frame → Option Tree
tree_of p (frame ∷ []) = frame.tree
tree_of p frames = Some (node p (trees_of frames no_trees))

-- the tree of a whole text: production 2 is that of an empty one
abbrev pub whole_tree : List Frame → Tree
whole_tree [] = node 2 no_trees
whole_tree stack = node 1 (trees_of stack no_trees)

-- ---- steps

-- a reduction by production p, which leads to this state
abbrev pub reduced_to : Parser → Place → Run → ℕ → Production → Option ℕ → Point
reduced_to m end r p production None = refused end r.left Syntax
reduced_to m end r p production (Some state) =
    let tree = tree_of p (take (length production.right) r.stack) in
    on (record {
      stack = record { state = state; tree = tree } ∷ drop (length production.right) r.stack;
      levels = marked m.declarators production.mark tree r.levels;
      left = r.left;
      phase = looking;
    })

abbrev pub reduced : Parser → Place → Run → ℕ → Option Production → Point
reduced m end r p None = refused end r.left Syntax
reduced m end r p (Some production) =
    reduced_to m end r p production (m.tables.goto (top (drop (length production.right) r.stack)) production.left)

-- The terminal x is shifted. At the end the text is a whole one; a name is still left for its kind.
abbrev pub shifted : Parser → Run → (state x : ℕ) → List Token → Point
shifted m r state x [] = answered (Ok (whole_tree r.stack))
shifted m r state x (t ∷ ts) =
    let stack = record { state = state; tree = Some (leaf t) } ∷ r.stack in
    on (if x == m.name then record r { stack = stack; phase = named } else record r { stack = stack; left = ts; phase = reading })

abbrev pub acted : Parser → Place → Run → ℕ → Option Action → Point
acted m end r x None = refused end r.left Syntax
acted m end r x (Some (Reduce p)) = reduced m end r p (slice_get m.productions (p - 1))
acted m end r x (Some (Shift state)) = shifted m r state x r.left

abbrev pub looked : Parser → Place → Run → Option ℕ → Point
looked m end r None = refused end r.left BadToken
looked m end r (Some x) = acted m end r x (m.tables.action (top r.stack) x)

-- the kind is a typedef where the innermost binding of the name is one and the state accepts it
abbrev pub kind_in : Parser → ℕ → Option NameKind → ℕ
kind_in m state (Some typedef) = if is_some (m.tables.action state m.typedef_kind) then m.typedef_kind else m.variable_kind
kind_in m state _ = m.variable_kind

abbrev pub kind_of : Parser → ℕ → List Level → Token → ℕ
kind_of m state levels t = kind_in m state (innermost t.spelling levels)

abbrev pub kind_shifted : Place → Run → Option Action → List Token → Point
kind_shifted end r (Some (Shift state)) ts = on (record r { stack = record { state = state; tree = None } ∷ r.stack; left = ts; phase = reading })
kind_shifted end r _ ts = refused end r.left Syntax

abbrev pub classified : Parser → Place → Run → List Token → Point
classified m end r [] = refused end r.left Syntax
classified m end r (t ∷ ts) = kind_shifted end r (m.tables.action (top r.stack) (kind_of m (top r.stack) r.levels t)) ts

abbrev pub step_in : Parser → Place → Run → Phase → Point
step_in m end r reading = on (record r { phase = looking })
step_in m end r looking = looked m end r (next_terminal m r.left)
step_in m end r named = classified m end r r.left

-- the one step from here; end is the place of the end of the tokens
abbrev pub step : Parser → Place → Run → Point
step m end r = step_in m end r r.phase

-- some steps lead from one point to the other
pub data Reaches (m : Parser) (end : Place) : Point → Point → Type 0 where
  here : {x : Point} → Reaches m end x x
  later : {r : Run} {x : Point} → Reaches m end (step m end r) x → Reaches m end (on r) x

-- the lowest state alone, one empty level
abbrev pub start : List Token → Run
start ts = record { stack = []; levels = [] ∷ []; left = ts; phase = reading }

-- the answer on these tokens
pub record LR (m : Parser) (end : Place) (ts : List Token) (answer : Result Tree Fault) : Type 0 where
  pub run : Reaches m end (on (start ts)) (answered answer)
