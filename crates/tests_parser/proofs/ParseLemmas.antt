-- The lines of trees, and lists that are read.
use Rattle.std.proofs.Common.{◌≡◌, ◌<◌, ℕ, ◌∙◌, ap, arith, unwrap_or, List, [], ◌∷◌, ◌++◌, All, length, map, get_or, slice_get, Option, Some, sym, subst}
use Rattle.std.specs.Prelude.{IfOk, Result, Ok, Err}
use Rattle.std.proofs.lemmas.List.Elements.{All-append, All-cons, All-head, All-nil, All-tail}
use Rattle.lr_tables.specs.declared.grammar.Grammar.{Grammar}
use Rattle.lr_tables.specs.Grammar.{entries_of}
use Rattle.sc_base.specs.declared.id.Cond.{Cond}
use Rattle.sc_base.specs.declared.id.TreeId.{TreeId}
use Rattle.sc_base.specs.declared.token.Token.{Token}
use Rattle.sc_base.specs.Seen.{IsHeld, text_at}
use Rattle.sc_fork.specs.Owns.{HasC11Tables}
use Rattle.sc_grammar.specs.C11.{productions}
use Rattle.sc_lalr.specs.declared.tables.Tables as code
use Rattle.sc_lalr.specs.Tables.{AreTables}
use Rattle.sc_model.specs.Growth.{Extends}
use Rattle.sc_model.specs.Token.{name_of}
use Rattle.sc_tree.specs.Lines.{ChildrenFirst, choice, Line, node}

-- each tree stands below its node
pub child-below : (lines : List Line) (id production : ℕ) (children : List TreeId) → ChildrenFirst lines → slice_get lines id ≡ Some (node production children)
    → All (λ (child : TreeId). child.0 < id) children
child-below lines id production children first at = first.each id (node production children) at

of-branches : (bound : ℕ) (branches : List (Cond × TreeId)) → All (λ (child : TreeId). child.0 < bound) (map (λ (branch : Cond × TreeId). branch.1) branches)
    → All (λ (branch : Cond × TreeId). branch.1.0 < bound) branches
of-branches bound [] h = All-nil (λ (branch : Cond × TreeId). branch.1.0 < bound)
of-branches bound (b ∷ bs) h =
    All-cons (λ (branch : Cond × TreeId). branch.1.0 < bound) b bs (All-head (λ (child : TreeId). child.0 < bound) b.1 (map (λ (branch : Cond × TreeId). branch.1) bs) h)
    (of-branches bound bs (All-tail (λ (child : TreeId). child.0 < bound) b.1 (map (λ (branch : Cond × TreeId). branch.1) bs) h))

-- and below its choice
pub branch-below : (lines : List Line) (id : ℕ) (branches : List (Cond × TreeId)) → ChildrenFirst lines → slice_get lines id ≡ Some (choice branches)
    → All (λ (branch : Cond × TreeId). branch.1.0 < id) branches
branch-below lines id branches first at = of-branches id branches (first.each id (choice branches) at)

pub all-pushed : {A : Type 0} (P : A → Type 0) (xs ys : List A) (x : A) → ys ≡ xs ++ x ∷ [] → All P xs → P x → All P ys
all-pushed P xs ys x same all one = subst (All P) (sym same) (All-append P xs (x ∷ []) all (All-cons P x [] one (All-nil P)))

-- the tables of the grammar of C11 are those
pub c11-tables : {E : Type 0} (grammar : Grammar) (built : Result code.Tables E) → IfOk built (AreTables grammar) → grammar.entries.now ≡ entries_of productions → grammar.terminals ≡ 96
    → grammar.nonterminals ≡ 100 → IfOk built HasC11Tables
c11-tables grammar (Err e) are entries terminals nonterminals = tt
c11-tables grammar (Ok tables) are entries terminals nonterminals =
    record { states = are.states; are = record { grammar = grammar; entries = entries; terminals = terminals; nonterminals = nonterminals; exact = are.exact } }

-- a token that is held is held still
held-later : (names more : List (List ℕ)) (t : Token) → Extends names more → IsHeld names t → IsHeld more t
held-later names more t grows held = record {
  spelling = omega (arith, held.spelling, grows.longer);
  name = omega (arith, held.name, grows.longer);
  stands_for = same t.name.0 held.name ∙ held.stands_for ∙ ap name_of (sym (same t.spelling.0 held.spelling));
}
  where
    same : (id : ℕ) → id < length names → text_at more id ≡ text_at names id
    same id below = ap (λ (found : Option (List ℕ)). unwrap_or found []) (grows.kept id below)

pub list-later : (names more : List (List ℕ)) (list : List (Cond × Token)) → Extends names more → All (λ (item : Cond × Token). IsHeld names item.1) list
    → All (λ (item : Cond × Token). IsHeld more item.1) list
list-later names more list grows held = λ k d within. held-later names more (get_or list k d).1 grows (held k d within)
