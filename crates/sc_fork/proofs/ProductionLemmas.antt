-- What the tables of C11 say of a reduction.
use Rattle.std.proofs.Common.{◌≡◌, ℕ, zero, suc, ◌<◌, ◌≤◌, ◌+◌, ◌-◌, ◌^◌, ◌==◌, ◌&&◌, not, nat_lt, Bool, true, false, IsTrue, List, [], ◌∷◌, length, take, drop, slice_get, option_map, option_and_then, Option, Some, None, refl, sym, ap, ◌∙◌, subst, arith, if◌then◌else◌}
use Rattle.std.specs.Prelude.{count_by, unwrap_or}
use Rattle.std.specs.List.{list_all, position_from}
use Rattle.std.proofs.lemmas.Bool.{true≢false, eqb-true}
use Rattle.std.proofs.lemmas.List.{length-take}
use Rattle.std.proofs.lemmas.Option.{same_Some, none-some}
use Rattle.lr_tables.specs.declared.grammar.Entry.{Entry}
use Rattle.lr_tables.specs.declared.grammar.Entry.TheVariants.{Left, Right}
use Rattle.lr_tables.specs.declared.grammar.Grammar.{Grammar}
use Rattle.lr_tables.specs.declared.grammar.Mark.{Mark}
use Rattle.lr_tables.specs.declared.grammar.Nonterminal.{Nonterminal}
use Rattle.lr_tables.specs.declared.grammar.Terminal.{Terminal}
use Rattle.lr_tables.specs.Grammar.{Production, entries_of, symbol_number, right_in, left_in, is_left, after, begun, is_known, all_filled, IsGrammar}
use Rattle.lr_tables.specs.declared.grammar.Action.TheVariants.{Reduce}
use Rattle.lr_tables.specs.Paths.{top, Path, StartsApart}
use Rattle.lr_tables.specs.Tables.{IsGoto, IsStates, CanReduce}
use Rattle.lr_tables.proofs.Members.{and-left, and-right, passes}
use Rattle.lr_tables.proofs.Productions.{can-reduce, counted, left_at, lefts, production_of, right_at, right_side, symbols_of}
use Rattle.lr_tables.proofs.Stacks.{reduces}
use Rattle.sc_base.specs.declared.id.Cond.{Cond}
use Rattle.sc_base.specs.declared.token.Token.{Token}
use Rattle.sc_base.specs.Seen.{text_at}
use Rattle.sc_fork.specs.declared.source.Source.{Source}
use Rattle.sc_fork.specs.Owns.{AreTerminals, HasC11Tables, IsSource, IsOnPath}
use Rattle.sc_fork.specs.Seen.{terminal_in, action_by, action_in}
use Rattle.sc_grammar.specs.C11.{productions}
use Rattle.sc_grammar.specs.Terminals.{terminal_names}
use Rattle.sc_kinds.specs.Kinds.{is_constant, terminal_written, keyword, terminal_of}
use Rattle.sc_lalr.specs.Tables.{action_of}
use Rattle.sc_merge.specs.declared.subparser.Subparser.{Subparser}
use Rattle.sc_model.specs.Token.{name_of}
use Rattle.sc_model.specs.declared.kind.Kind.{Kind}
use Rattle.sc_model.specs.declared.kind.Kind.TheVariants.{Identifier, Number, Character, Text, Punctuator}
use Rattle.sc_stack.specs.Entries.{Entry as StackEntry, state_of, states_of}
use Rattle.sc_model.specs.declared.standard.Standard.{Standard}

-- ---- terminals

position-below : {K : Type 0} (t : K → Bool) (first : ℕ) (xs : List K) (n : ℕ) → position_from t first xs ≡ Some n → n < first + length xs
position-below t first [] n e = absurd (cc)
position-below {K} t first (x ∷ xs) n e = by (t x) e (position-below t (first + 1) xs n)
  where
    by : (b : Bool) → (if b then Some first else position_from t (first + 1) xs) ≡ Some n → (position_from t (first + 1) xs ≡ Some n → n < first + 1 + length xs)
        → n < first + length (x ∷ xs)
    by true e rest = let same : first ≡ n = same_Some first n e in omega (arith, same)
    by false e rest = let h = rest e in omega (arith, h)

written-below : (first count : ℕ) (spelling : List ℕ) (n : ℕ) → terminal_written first count spelling ≡ Some n → n < first + count
unfolding terminal_written
written-below first count spelling n e =
    let h = position-below _ first (take count (drop first terminal_names)) n e in
    omega (arith, h, length-take count (drop first terminal_names))

-- each terminal of a token is before the end's
pub terminal-below : (standard : Standard) (kind : Kind) (spelling : List ℕ) (x : ℕ) → terminal_of standard kind spelling ≡ Some x → x < 95
unfolding terminal_of
terminal-below standard Identifier spelling x e = by (keyword spelling) refl e
  where
    by : (k : Option ℕ) → keyword spelling ≡ k → Some (unwrap_or k 0) ≡ Some x → x < 95
    by None is e = let same : 0 ≡ x = same_Some 0 x e in omega (arith, same)
    by (Some n) is e = let same : n ≡ x = same_Some n x e in let h = written-below 5 44 spelling n is in omega (arith, same, h)
terminal-below standard Number spelling x e = by (is_constant standard spelling) e
  where
    by : (b : Bool) → (if b then Some 3 else None) ≡ Some x → x < 95
    by true e = let same : 3 ≡ x = same_Some 3 x e in omega (arith, same)
    by false e = absurd (none-some x e)
terminal-below standard Character spelling x e = let same : 3 ≡ x = same_Some 3 x e in omega (arith, same)
terminal-below standard Text spelling x e = let same : 4 ≡ x = same_Some 4 x e in omega (arith, same)
terminal-below standard Punctuator spelling x e = let h = written-below 49 46 (name_of spelling) x e in omega (arith, h)
terminal-below standard _ spelling x e = absurd (none-some x e)

terminals-below : (standard : Standard) (names : List (List ℕ)) (list : List (Cond × Token)) (ts : List (Option Terminal)) (j x : ℕ) → AreTerminals standard names list ts
    → option_map (λ (y : Terminal). y.0) (option_and_then (λ (y : Option Terminal). y) (slice_get ts j)) ≡ Some x → x < 96
terminals-below standard names list [] j x are e = absurd (cc)
terminals-below standard names [] (t ∷ ts) j x are e = absurd (cc)
terminals-below standard names (item ∷ list) (None ∷ ts) zero x are e = absurd (cc)
terminals-below standard names (item ∷ list) (Some t ∷ ts) zero x are e =
    let first : Some t.0 ≡ terminal_of standard item.1.kind (text_at names item.1.spelling.0) = cc in
    let h = terminal-below standard item.1.kind (text_at names item.1.spelling.0) x (sym first ∙ e) in omega (arith, h)
terminals-below standard names (item ∷ list) (t ∷ ts) (suc j) x are e =
    let rest : AreTerminals standard names list ts = cc in terminals-below standard names list ts j x rest e

pub source-terminal : (source : Source) (standard : Standard) (names : List (List ℕ)) (j x : ℕ) → AreTerminals standard names source.list.now source.terminals.items → terminal_in source j ≡ Some x → x < 96
source-terminal source standard names j x are e = by (nat_lt j (length source.terminals.items)) e
  where
    by : (b : Bool) → (if b then option_map (λ (y : Terminal). y.0) (option_and_then (λ (y : Option Terminal). y) (slice_get source.terminals.items j)) else Some 95) ≡ Some x → x < 96
    by true e = terminals-below standard names source.list.now source.terminals.items j x are e
    by false e = let same : 95 ≡ x = same_Some 95 x e in omega (arith, same)

-- ---- the entries of C11

known-all : IsTrue (list_all (is_known 96 100) (entries_of productions))
known-all = refl

filled-all : IsTrue (all_filled (entries_of productions))
filled-all = refl

-- nonterminal 0 is on no right side
abbrev is_apart : Entry → Bool
is_apart (Left n mark) = true
is_apart (Right x) = not (symbol_number 96 x == 96)

apart-all : IsTrue (list_all is_apart (entries_of productions))
apart-all = refl

-- so many left sides are nonterminal 0
abbrev start_first : ℕ → List Entry → Bool
start_first zero entries = true
start_first (suc k) [] = true
start_first (suc k) (Left n mark ∷ entries) = (n.0 == 0) && start_first k entries
start_first (suc k) (Right x ∷ entries) = start_first (suc k) entries

two-starts : IsTrue (start_first 2 (entries_of productions))
two-starts = refl

starts-at : (k : ℕ) (entries : List Entry) (j m : ℕ) (n : Nonterminal) (mark : Option Mark) → start_first k entries ≡ true → slice_get entries j ≡ Some (Left n mark) → m ≡ j + 1
    → lefts (take m entries) ≤ k → n.0 ≡ 0
starts-at k entries j zero n mark test at long few = absurd (omega (arith, long))
starts-at k [] j (suc m) n mark test at long few = absurd (cc)
starts-at zero (Left o other ∷ entries) j (suc m) n mark test at long few = absurd (omega (arith, few))
starts-at zero (Right x ∷ entries) zero (suc m) n mark test at long few = absurd (cc)
starts-at zero (Right x ∷ entries) (suc j) (suc m) n mark test at long few = starts-at zero entries j m n mark refl at (omega (arith, long)) few
starts-at (suc k) (Left o other ∷ entries) zero (suc m) n mark test at long few =
    let same : o ≡ n = cc in subst (λ (z : Nonterminal). z.0 ≡ 0) same (eqb-true o.0 0 (and-left (o.0 == 0) (start_first k entries) test))
starts-at (suc k) (Left o other ∷ entries) (suc j) (suc m) n mark test at long few =
    starts-at k entries j m n mark (and-right (o.0 == 0) (start_first k entries) test) at (omega (arith, long)) (omega (arith, few))
starts-at (suc k) (Right x ∷ entries) zero (suc m) n mark test at long few = absurd (cc)
starts-at (suc k) (Right x ∷ entries) (suc j) (suc m) n mark test at long few = starts-at (suc k) entries j m n mark test at (omega (arith, long)) few

start-number : (entries : List Entry) (j x : ℕ) → start_first 2 entries ≡ true → left_at 96 entries j ≡ Some x → count_by is_left (take (j + 1) entries) < 3 → x ≡ 96
start-number entries j x test begins few = by (slice_get entries j) refl begins
  where
    by : (e : Option Entry) → slice_get entries j ≡ e → option_and_then (left_in 96) e ≡ Some x → x ≡ 96
    by None at begins = absurd (cc)
    by (Some (Right y)) at begins = absurd (cc)
    by (Some (Left n mark)) at begins =
        let zero_is : n.0 ≡ 0 = starts-at 2 entries j (j + 1) n mark test at refl (omega (arith, few, counted (take (j + 1) entries))) in
        let is : 96 + n.0 ≡ x = same_Some (96 + n.0) x begins in
        omega (arith, zero_is, is)

not-start : (entries : List Entry) (i x : ℕ) → list_all is_apart entries ≡ true → right_at 96 entries i ≡ Some x → x ≡ 96 → ⊥
not-start entries i x test over start = by (slice_get entries i) refl over
  where
    by : (e : Option Entry) → slice_get entries i ≡ e → option_and_then (right_in 96) e ≡ Some x → ⊥
    by None at over = absurd (cc)
    by (Some (Left n mark)) at over = absurd (cc)
    by (Some (Right y)) at over =
        let is : symbol_number 96 y ≡ 96 = same_Some (symbol_number 96 y) x over ∙ start in
        let fails : not (symbol_number 96 y == 96) ≡ true = passes is_apart entries i (Right y) test at in
        true≢false (sym fails ∙ ap (λ n. not (n == 96)) is)

module _ (g : Grammar) (entries : g.entries.now ≡ entries_of productions) (terminals : g.terminals ≡ 96) (nonterminals : g.nonterminals ≡ 100) where
  pub is-grammar : IsGrammar g
  is-grammar = record {
    small = subst (λ t. t + g.nonterminals < 2 ^ 32) (sym terminals) (subst (λ n. 96 + n < 2 ^ 32) (sym nonterminals) (omega arith));
    known = subst (λ es. IsTrue (list_all (is_known g.terminals g.nonterminals) es)) (sym entries)
        (subst (λ t. IsTrue (list_all (is_known t g.nonterminals) (entries_of productions))) (sym terminals)
        (subst (λ n. IsTrue (list_all (is_known 96 n) (entries_of productions))) (sym nonterminals) known-all));
    filled = subst (λ es. IsTrue (all_filled es)) (sym entries) filled-all;
  }

  begun-at : (j x : ℕ) → begun g j ≡ Some x → left_at 96 (entries_of productions) j ≡ Some x
  begun-at j x begins = subst (λ es. left_at 96 es j ≡ Some x) entries (subst (λ t. left_at t g.entries.now j ≡ Some x) terminals begins)

  after-at : (i : ℕ) (x : Option ℕ) → after g i ≡ x → right_at 96 (entries_of productions) (i + 1) ≡ x
  after-at i x over = subst (λ es. right_at 96 es (i + 1) ≡ x) entries (subst (λ t. right_at t g.entries.now (i + 1) ≡ x) terminals over)

  pub starts-apart : StartsApart g
  starts-apart = record {
    apart = λ i j x start begins over.
        not-start (entries_of productions) (i + 1) x apart-all (after-at i (Some x) over)
        (start-number (entries_of productions) j x two-starts (begun-at j x begins) (subst (λ es. count_by is_left (take (j + 1) es) < 3) entries start.first_two));
  }

-- ---- reductions

-- What a reduction finds on a stack. The head of its right side is the symbol on top.
pub record Reduction (g : Grammar) (states : List (List ℕ)) (stack symbols : List ℕ) (number : ℕ) : Type 0 where
  pub production : Production
  pub some : 0 < number
  pub at : slice_get productions (number - 1) ≡ Some production
  pub not_empty : 0 < length production.right
  pub high : length production.right ≤ length stack
  pub goto : (t : ℕ) × IsGoto g states (top (drop (length production.right) stack)) (96 + production.left) t
  pub head : length production.right ≡ 1 → slice_get symbols 0 ≡ option_map (symbol_number 96) (slice_get production.right 0)

module _ (g : Grammar) (entries : g.entries.now ≡ entries_of productions) (terminals : g.terminals ≡ 96) (nonterminals : g.nonterminals ≡ 100) where
  pub reduction : (states : List (List ℕ)) (stack symbols : List ℕ) (t p : ℕ) → IsStates g states → Path g states stack symbols → CanReduce g states (top stack) t p → Reduction g states stack symbols p
  reduction states stack symbols t p are path can =
      let r = reduces g states stack symbols t p (is-grammar g entries terminals nonterminals) are (starts-apart g entries terminals nonterminals) path can in
      let right = right_side g states stack symbols p path r in
      let a = production_of g productions entries symbols r.first r.size r.left p right in
      record {
        production = a.production;
        some = a.some;
        at = a.at;
        not_empty = omega (arith, r.some, a.is_size);
        high = omega (arith, r.high, a.is_size);
        goto = (
          r.goto.0,
          subst (λ n. IsGoto g states (top (drop n stack)) (96 + a.production.left) r.goto.0) a.is_size
              (subst (λ x. IsGoto g states (top (drop r.size stack)) x r.goto.0) (a.is_left ∙ ap (λ t. t + a.production.left) terminals) r.goto.1),
        );
        head = λ one. subst (λ t. slice_get symbols 0 ≡ option_map (symbol_number t) (slice_get a.production.right 0)) terminals
            (symbols_of g productions entries symbols r.first r.size r.left p right a 0 0 (omega (arith, one, a.is_size)));
      }

pub top-state : (stack : List StackEntry) → top (states_of stack) ≡ state_of stack
top-state [] = refl
top-state (entry ∷ stack) = refl

-- what the subparser finds on its stack
pub reduction-of : (source : Source) (parent : Subparser) (at number : ℕ) → IsSource source → (c11 : HasC11Tables source.tables.now) (on : IsOnPath c11.are.grammar c11.states parent.stack)
    → action_in source parent at ≡ Some (Reduce number) → Reduction c11.are.grammar c11.states (states_of parent.stack) on.symbols number
reduction-of source parent at number is c11 on acts = by (terminal_in source at) refl acts
  where
    by : (x : Option ℕ) → terminal_in source at ≡ x → action_by source.tables.now (state_of parent.stack) x ≡ Some (Reduce number)
        → Reduction c11.are.grammar c11.states (states_of parent.stack) on.symbols number
    by None is_none acts = absurd (none-some (Reduce number) acts)
    by (Some x) is_some acts =
        let below : x < c11.are.grammar.terminals = omega (arith, source-terminal source is.standard is.names at x is.terminals is_some, c11.are.terminals) in
        let can = can-reduce c11.are.grammar c11.states (state_of parent.stack) x number (action_of source.tables.now (state_of parent.stack) x)
        (c11.are.exact.action (state_of parent.stack) x below) acts in
        reduction c11.are.grammar c11.are.entries c11.are.terminals c11.are.nonterminals c11.states (states_of parent.stack) on.symbols x number c11.are.exact.are_states on.path
        (subst (λ s. CanReduce c11.are.grammar c11.states s x number) (sym (top-state parent.stack)) can)
