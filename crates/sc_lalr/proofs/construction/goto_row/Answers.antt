use Rattle.std.proofs.Common.{◌≡◌, ◌+◌, ◌++◌, ◌∷◌, [], ℕ, List, Option, MatchOption, refl, ap, ◌∙◌, arith}
use Rattle.std.proofs.lemmas.List.{length_push}
use Rattle.std.proofs.lemmas.Option.{none-some}
use Rattle.lr_tables.specs.Tables.{IsGoto, NoGoto}
use Rattle.lr_tables.specs.declared.grammar.Grammar.{Grammar}
use Rattle.sc_items.specs.States.{kernels_of}
use Rattle.sc_items.proofs.Opening.{each-push}
use Rattle.sc_lalr.specs.Building.{AreGotos}
use Rattle.sc_lalr.proofs.construction.goto_row.Goals as goal

gotos_more : (g : Grammar) (states : List (List ℕ)) (s n : ℕ) (row : List (Option ℕ)) (to : Option ℕ) → AreGotos g states s n row → MatchOption to (NoGoto g states s (g.terminals + n)) (IsGoto g states s (g.terminals + n)) → AreGotos g states s (n + 1) (row ++ to ∷ [])
gotos_more g states s n row to h one = record {
  long = length_push row to ∙ ap (λ k. k + 1) h.long;
  each = each-push (λ x other. MatchOption other (NoGoto g states s (g.terminals + x)) (IsGoto g states s (g.terminals + x))) row to n h.long h.each one;
}

pub loop-nonterminal-init : goal.loop-nonterminal-init
loop-nonterminal-init c = rw c.in_ok-row.ensures.items (record { long = refl; each = λ x to at. absurd (none-some to at) })

pub loop-nonterminal-preserved : goal.loop-nonterminal-preserved
loop-nonterminal-preserved c = rw c.in_ok-push.ensures.items (gotos_more c.args.grammar.now (kernels_of c.args.states.now) c.args.state c.loop-nonterminal.nonterminal c.loop-nonterminal.row.items c.goto.result c.loop-nonterminal.invariant (c.goto.ensures.exact c.args.grammar.now c.requires.grammar c.requires.states))

pub returns : goal.returns
returns c = let e : c.loop-nonterminal.nonterminal ≡ c.args.grammar.now.nonterminals = omega arith in record { long = c.loop-nonterminal.invariant.long ∙ e; each = c.loop-nonterminal.invariant.each }
