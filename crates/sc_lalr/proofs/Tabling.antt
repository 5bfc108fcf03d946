-- The tables from their rows.
use Rattle.std.proofs.Common.{◌≡◌, ◌<◌, ◌+◌, ℕ, List, [], ◌∷◌, ◌++◌, length, slice_get, Option, Some, None, MatchOption, option_and_then, Vec, inl, inr, refl, sym, ap, ◌∙◌, arith}
use Rattle.std.specs.declared.alloc.Global.{Global}
use Rattle.std.proofs.lemmas.List.{length_push}
use Rattle.std.proofs.lemmas.Option.{slice_get_within, none-some}
use Rattle.lr_tables.specs.Tables.{IsStates, IsGoto, IsAction, none, CanReduce, Before, NoGoto}
use Rattle.lr_tables.specs.declared.grammar.Grammar.{Grammar}
use Rattle.lr_tables.specs.declared.grammar.Action.{Action}
use Rattle.lr_tables.specs.declared.grammar.Conflict.{Conflict}
use Rattle.lr_tables.proofs.Members.{slice_some}
use Rattle.sc_items.proofs.Opening.{each-push}
use Rattle.sc_lalr.specs.Tables.{AreTables, entry, action_of, goto_of}
use Rattle.sc_lalr.specs.Building.{AreActions, AreGotos, AreConflicts}
use Rattle.sc_lalr.specs.declared.tables.Tables.{Tables}
use Rattle.sc_lalr.proofs.Looking.{lookahead_has}

pub record TablesSoFar (g : Grammar) (states : List (List ℕ)) (n : ℕ) (actions : List (Vec (Option Action) Global)) (gotos : List (Vec (Option ℕ) Global)) (conflicts : List Conflict) : Type 0 where
  pub actions_long : length actions ≡ n
  pub gotos_long : length gotos ≡ n
  pub actions_are : (s : ℕ) (row : Vec (Option Action) Global) → slice_get actions s ≡ Some row → AreActions g states s g.terminals row.items
  pub gotos_are : (s : ℕ) (row : Vec (Option ℕ) Global) → slice_get gotos s ≡ Some row → AreGotos g states s g.nonterminals row.items
  pub conflicts_are : AreConflicts g states n 0 conflicts

pub TablesSoFar-none : (g : Grammar) (states : List (List ℕ)) → TablesSoFar g states 0 [] [] []
TablesSoFar-none g states = record {
  actions_long = refl;
  gotos_long = refl;
  actions_are = λ s row at. absurd (none-some row at);
  gotos_are = λ s row at. absurd (none-some row at);
  conflicts_are = record {
    sound = λ c w. absurd (omega (arith, w.1));
    earlier = λ c w. absurd (omega (arith, w.1));
    complete = λ c k before. absurd (nothing_before c before);
    in_order = record { before = λ i j c d lower a b. absurd (none-some c a) };
  };
}
  where
    nothing_before : (c : Conflict) → Before c.state c.terminal.0 0 0 → ⊥
    nothing_before c (inl a) = omega (arith, a)
    nothing_before c (inr a) = omega (arith, a.1)

pub TablesSoFar-step : (g : Grammar) (states : List (List ℕ)) (n : ℕ) (actions : List (Vec (Option Action) Global)) (gotos : List (Vec (Option ℕ) Global)) (old new : List Conflict) (row : Vec (Option Action) Global) (gotos_row : Vec (Option ℕ) Global) → TablesSoFar g states n actions gotos old → AreActions g states n g.terminals row.items → AreGotos g states n g.nonterminals gotos_row.items → AreConflicts g states (n + 1) 0 new → TablesSoFar g states (n + 1) (actions ++ row ∷ []) (gotos ++ gotos_row ∷ []) new
TablesSoFar-step g states n actions gotos old new row gotos_row h a b k = record {
  actions_long = length_push actions row ∙ ap (λ z. z + 1) h.actions_long;
  gotos_long = length_push gotos gotos_row ∙ ap (λ z. z + 1) h.gotos_long;
  actions_are = each-push (λ s (r : Vec (Option Action) Global). AreActions g states s g.terminals r.items) actions row n h.actions_long h.actions_are a;
  gotos_are = each-push (λ s (r : Vec (Option ℕ) Global). AreGotos g states s g.nonterminals r.items) gotos gotos_row n h.gotos_long h.gotos_are b;
  conflicts_are = k;
}

-- ---- an entry, by its row
module _ {A : Type 0} (rows : List (Vec (Option A) Global)) (s x : ℕ) where
  pub entry_at : (row : Vec (Option A) Global) (e : Option A) → slice_get rows s ≡ Some row → slice_get row.items x ≡ Some e → entry rows s x ≡ e
  entry_at row e a b = ap (λ o. option_and_then (λ (row : Vec (Option A) Global). option_and_then (λ (e : Option A). e) (slice_get row.items x)) o) a ∙ ap (λ o. option_and_then (λ (e : Option A). e) o) b

  pub entry_short : (row : Vec (Option A) Global) → slice_get rows s ≡ Some row → slice_get row.items x ≡ None → entry rows s x ≡ None
  entry_short row a b = ap (λ o. option_and_then (λ (row : Vec (Option A) Global). option_and_then (λ (e : Option A). e) (slice_get row.items x)) o) a ∙ ap (λ o. option_and_then (λ (e : Option A). e) o) b

  pub entry_past : slice_get rows s ≡ None → entry rows s x ≡ None
  entry_past a = ap (λ o. option_and_then (λ (row : Vec (Option A) Global). option_and_then (λ (e : Option A). e) (slice_get row.items x)) o) a

pub AreTables-done : (g : Grammar) (states : List (List ℕ)) (tables : Tables) → IsStates g states → TablesSoFar g states (length states) tables.actions.items tables.gotos.items tables.conflicts.items → AreTables g tables
AreTables-done g states tables are h = record {
  states = states;
  exact = record {
    are_states = are;
    action = action;
    goto = goto;
    conflict = λ c. (h.conflicts_are.sound c, λ k. h.conflicts_are.complete c k (inl k.state));
    in_order = h.conflicts_are.in_order;
  };
}
  where
    goto_in : (s x r : ℕ) → IsGoto g states s x r → s < length states
    goto_in s x r k = slice_get_within states s k.source k.source_at

    reduce_in : (s t p : ℕ) → CanReduce g states s t p → s < length states
    reduce_in s t p k = let has = lookahead_has g states t s k.item k.ahead in slice_get_within states s has.kernel has.kernel_at

    action : (s t : ℕ) → t < g.terminals → IsAction g states s t (action_of tables s t)
    action s t t_in = go (slice_get tables.actions.items s) refl
      where
        go : (o : Option (Vec (Option Action) Global)) → slice_get tables.actions.items s ≡ o → IsAction g states s t (action_of tables s t)
        go (Some row) at =
            let row_is = h.actions_are s row at in
            let there = slice_some row.items t (omega (arith, row_is.long)) in
            rw (entry_at tables.actions.items s t row there.0 at there.1) (row_is.each t there.0 there.1)
        go None at =
            let past : s < length states → ⊥ = λ s_in. (let row = slice_some tables.actions.items s (omega (arith, h.actions_long)) in none-some row.0 (sym at ∙ row.1)) in
            rw (entry_past tables.actions.items s t at) (none (λ r k. past (goto_in s t r k)) (λ p k. past (reduce_in s t p k)))

    goto : (s n : ℕ) → n < g.nonterminals → MatchOption (goto_of tables s n) (NoGoto g states s (g.terminals + n)) (IsGoto g states s (g.terminals + n))
    goto s n n_in = go (slice_get tables.gotos.items s) refl
      where
        go : (o : Option (Vec (Option ℕ) Global)) → slice_get tables.gotos.items s ≡ o → MatchOption (goto_of tables s n) (NoGoto g states s (g.terminals + n)) (IsGoto g states s (g.terminals + n))
        go (Some row) at =
            let row_is = h.gotos_are s row at in
            let there = slice_some row.items n (omega (arith, row_is.long)) in
            rw (entry_at tables.gotos.items s n row there.0 at there.1) (row_is.each n there.0 there.1)
        go None at =
            let past : s < length states → ⊥ = λ s_in. (let row = slice_some tables.gotos.items s (omega (arith, h.gotos_long)) in none-some row.0 (sym at ∙ row.1)) in
            rw (entry_past tables.gotos.items s n at) (record { none = λ r k. past (goto_in s (g.terminals + n) r k) })
