-- The weights of subparsers, and how reductions lower them.
use Rattle.std.proofs.Common.{◌≡◌, ℕ, zero, suc, ◌+◌, ◌-◌, ◌*◌, ◌<◌, ◌≤◌, ◌&&◌, nat_lt, Bool, true, false, IsTrue, List, [], ◌∷◌, ◌++◌, All, length, drop, get_or, slice_get, take, option_and_then, option_map, Option, Some, None, if◌then◌else◌, refl, sym, ap, ◌∙◌, subst, arith}
use Rattle.std.specs.Prelude.{cond, IsSome, max}
use Rattle.std.specs.Global.{Vec}
use Rattle.std.specs.List.{list_all, range_with_len}
use Rattle.std.specs.BTreeMap.{insert_entry, is_at}
use Rattle.std.specs.Map.{keys_of, lookup, remove_entry}
use Rattle.std.specs.Ordering.{is_eq, is_lt, match_ordering, MatchOrdering, nat_cmp, ordering_then}
use Rattle.std.specs.declared.cmp.Ordering.{Ordering}
use Rattle.std.specs.declared.cmp.Ordering.TheVariants.{Less, Equal, Greater}
use Rattle.std.proofs.lemmas.Bool.{and_parts, false≢true, ltb-true}
use Rattle.std.proofs.lemmas.Cmp.{ranked}
use Rattle.std.proofs.lemmas.List.{append-nil, take-append-drop, take_all}
use Rattle.std.proofs.lemmas.List.Elements.{All-contains, All-cons, All-head, All-nil, All-tail, All-weaker}
use Rattle.std.proofs.lemmas.Option.{none-some, same_Some, slice_get_within}
use Rattle.c11_parsing.specs.Core.{index_of}
use Rattle.lr_tables.proofs.Determined.{goto_member}
use Rattle.lr_tables.proofs.Stacks.{same_symbols}
use Rattle.lr_tables.specs.declared.grammar.Action.TheVariants.{Reduce as Reduction}
use Rattle.lr_tables.specs.declared.grammar.Entry.{Entry as RuleEntry}
use Rattle.lr_tables.specs.declared.grammar.Entry.TheVariants.{Left, Right}
use Rattle.lr_tables.specs.declared.grammar.Grammar.{Grammar}
use Rattle.lr_tables.specs.declared.grammar.Symbol.{Symbol}
use Rattle.lr_tables.specs.declared.grammar.Symbol.TheVariants.{Terminal, Nonterminal}
use Rattle.lr_tables.specs.Grammar.{after, entries_of, is_known, IsGrammar, Production, right_in, symbol_number}
use Rattle.lr_tables.specs.Paths.{Path, above, lowest, top}
use Rattle.sc_fork.proofs.ProductionLemmas.{is-grammar, reduction-of}
use Rattle.lr_tables.proofs.Members.{passes}
use Rattle.sc_fork.specs.Bundles.{AreDone, events_of}
use Rattle.sc_fork.specs.declared.event.Event.TheVariants.{Reduce}
use Rattle.sc_fork.specs.declared.event.Kind.TheVariants as kinds
use Rattle.sc_fork.specs.View.{View, states_in}
use Rattle.sc_fork.specs.declared.piece.Piece.{Piece}
use Rattle.sc_fork.specs.declared.piece.Piece.TheVariants.{Going, Over}
use Rattle.sc_fork.specs.declared.source.Source.{Source}
use Rattle.sc_fork.specs.declared.event.Fact.{Fact}
use Rattle.sc_fork.specs.Enabled.{Has, IsRefused, no_lookahead_to_reduce, no_reduction, none_to_reduce}
use Rattle.sc_fork.specs.Owns.{HasC11Tables, OwnsRow}
use Rattle.sc_fork.specs.Pieces.{going_of, HasMade, IfGoing, IsReducedBy, Makes, reduces}
use Rattle.sc_fork.specs.Seen.{action_in}
use Rattle.sc_grammar.specs.C11.{productions}
use Rattle.sc_merge.specs.declared.subparser.Phase.{Phase}
use Rattle.sc_merge.specs.declared.subparser.Phase.TheVariants.{At}
use Rattle.sc_merge.specs.declared.subparser.Subparser.{Subparser}
use Rattle.sc_merge.specs.Keys.{AreAlike}
use Rattle.sc_merge.specs.Phases.{phase_of}
use Rattle.sc_model.specs.Growth.{Extends}
use Rattle.sc_model.specs.Sets.{Keeps, Sets}
use Rattle.sc_base.proofs.Growth.{Extends-trans}
use Rattle.sc_model.proofs.SetLemmas.{Keeps-trans}
use Rattle.sc_parse.proofs.DoneLemmas.{done-each}
use Rattle.sc_parse.proofs.NumberLemmas.{all-times, each-append, each-both, each-kept, each-of, each-then, fewer-numbers, filled-most, first-number, made-each, numbers-after, replaces-same, replaces-then, times-all, times-append}
use Rattle.sc_parse.proofs.RunLemmas.{goes-nowhere, goes-then, row-owned}
use Rattle.sc_parse.specs.declared.reductions.Weight.{Weight}
use Rattle.sc_parse.specs.declared.steps.Steps.{Steps}
use Rattle.sc_parse.specs.Numbers.{AreLike, AreNumbers, Each, IsAt, IsLikeOne, IsReady, Replaces, given, times}
use Rattle.sc_parse.specs.Runs.{GoesOn, OwnsSteps, StandsBefore}
use Rattle.sc_parse.specs.Weights.{ActsBy, AreBelow, AreReducing, AreWeighed, HasWeight, IsRanked, IsReducing, IsWeighed, Moves, number_of, numbers_of, rank_of}
use Rattle.sc_tree.specs.Lines.{Line, OwnsBranches}

abbrev Entry : Type 0
Entry = Weight × Vec ℕ

-- ---- entries of one weight

abbrev pub items_in : Option (Vec ℕ) → List ℕ
items_in None = []
items_in (Some v) = v.items

pub times-taken : (n : ℕ) (test : Weight → Bool) (es : List Entry) → times n (numbers_of es) ≡ times n (items_in (lookup test es)) + times n (numbers_of (remove_entry test es))
times-taken n test [] = refl
times-taken n test (e ∷ es) = by (times-taken n test es) (test e.0)
  where
    by : times n (numbers_of es) ≡ times n (items_in (lookup test es)) + times n (numbers_of (remove_entry test es)) → (b : Bool)
        → times n (numbers_of (e ∷ es)) ≡ times n (items_in (cond b (Some e.1) (lookup test es))) + times n (numbers_of (cond b es (e ∷ remove_entry test es)))
    by later true = times-append n e.1.items (numbers_of es)
    by later false =
        let more = times-append n e.1.items (numbers_of es) in
        let less = times-append n e.1.items (numbers_of (remove_entry test es)) in
        omega (arith, more, less, later)

pub times-put : (cmp : Weight → Weight → Ordering) (n : ℕ) (es : List Entry) (w : Weight) (v : Vec ℕ) → lookup (is_at (cmp w)) es ≡ None
    → times n (numbers_of (insert_entry cmp es w v)) ≡ times n v.items + times n (numbers_of es)
times-put cmp n [] w v none = times-append n v.items []
times-put cmp n (e ∷ es) w v none = by (times-put cmp n es w v) (cmp w e.0) none
  where
    by : (lookup (is_at (cmp w)) es ≡ None → times n (numbers_of (insert_entry cmp es w v)) ≡ times n v.items + times n (numbers_of es))
        → (o : Ordering) → cond (is_eq o) (Some e.1) (lookup (is_at (cmp w)) es) ≡ None
        → times n (numbers_of (match_ordering o ((w, v) ∷ (e ∷ es)) ((e.0, v) ∷ es) (e ∷ insert_entry cmp es w v))) ≡ times n v.items + times n (numbers_of (e ∷ es))
    by later Less none = times-append n v.items (numbers_of (e ∷ es))
    by later Equal none = absurd (none-some e.1 (sym none))
    by later Greater none =
        let more = times-append n e.1.items (numbers_of (insert_entry cmp es w v)) in
        let less = times-append n e.1.items (numbers_of es) in
        let rest = later none in omega (arith, more, less, rest)

pub all-removed : (P : Entry → Type 0) (test : Weight → Bool) (es : List Entry) → All P es → All P (remove_entry test es)
all-removed P test [] all = all
all-removed P test (e ∷ es) all = by (all-removed P test es (All-tail P e es all)) (test e.0)
  where
    by : All P (remove_entry test es) → (b : Bool) → All P (cond b es (e ∷ remove_entry test es))
    by later true = All-tail P e es all
    by later false = All-cons P e (remove_entry test es) (All-head P e es all) later

pub all-put : (P : Entry → Type 0) (cmp : Weight → Weight → Ordering) (es : List Entry) (w : Weight) (v : Vec ℕ) → lookup (is_at (cmp w)) es ≡ None → All P es → P (w, v) → All P (insert_entry cmp es w v)
all-put P cmp [] w v none all put = All-cons P (w, v) [] put (All-nil P)
all-put P cmp (e ∷ es) w v none all put = by (λ absent. all-put P cmp es w v absent (All-tail P e es all) put) (cmp w e.0) none
  where
    by : (lookup (is_at (cmp w)) es ≡ None → All P (insert_entry cmp es w v)) → (o : Ordering) → cond (is_eq o) (Some e.1) (lookup (is_at (cmp w)) es) ≡ None → All P (match_ordering o ((w, v) ∷ (e ∷ es)) ((e.0, v) ∷ es) (e ∷ insert_entry cmp es w v))
    by later Less none = All-cons P (w, v) (e ∷ es) put all
    by later Equal none = absurd (none-some e.1 (sym none))
    by later Greater none = All-cons P e (insert_entry cmp es w v) (All-head P e es all) (later none)

-- what is true of each entry is true of the one that is found
pub found-entry : (P : Entry → Type 0) (test : Weight → Bool) (es : List Entry) (v : Vec ℕ) → All P es → lookup test es ≡ Some v → (k : Weight) × ((test k ≡ true) × P (k, v))
found-entry P test [] v all found = absurd (none-some v found)
found-entry P test (e ∷ es) v all found = by (found-entry P test es v (All-tail P e es all)) (test e.0) refl found
  where
    by : (lookup test es ≡ Some v → (k : Weight) × ((test k ≡ true) × P (k, v))) → (b : Bool) → test e.0 ≡ b → cond b (Some e.1) (lookup test es) ≡ Some v → (k : Weight) × ((test k ≡ true) × P (k, v))
    by later true is found = (e.0, (is, subst (λ (z : Vec ℕ). P (e.0, z)) (same_Some e.1 v found) (All-head P e es all)))
    by later false is found = later found

-- ---- weights in order

-- first by height, then by rank
abbrev pub weight_cmp : Weight → Weight → Ordering
weight_cmp a b = ordering_then (nat_cmp a.height b.height) (nat_cmp a.rank b.rank)

pub weight-same : (a b : Weight) → is_eq (weight_cmp a b) ≡ true → b ≡ a
weight-same a b e = by (nat_cmp a.height b.height) (nat_cmp a.rank b.rank) (ranked a.height b.height (nat_cmp a.height b.height) refl) (ranked a.rank b.rank (nat_cmp a.rank b.rank) refl) e
  where
    by : (o p : Ordering) → MatchOrdering o (a.height < b.height) (a.height ≡ b.height) (b.height < a.height) → MatchOrdering p (a.rank < b.rank) (a.rank ≡ b.rank) (b.rank < a.rank)
        → is_eq (ordering_then o p) ≡ true → b ≡ a
    by Less p h r e = absurd (false≢true e)
    by Greater p h r e = absurd (false≢true e)
    by Equal Less h r e = absurd (false≢true e)
    by Equal Greater h r e = absurd (false≢true e)
    by Equal Equal h r e = sym (ap (λ k. record { height = k; rank = a.rank }) h ∙ ap (λ k. record { height = b.height; rank = k }) r)

pub weight-lower : (a b : Weight) → is_lt (weight_cmp a b) ≡ true → a.rank ≤ 100 → number_of a < number_of b
weight-lower a b e low = by (nat_cmp a.height b.height) (nat_cmp a.rank b.rank) (ranked a.height b.height (nat_cmp a.height b.height) refl) (ranked a.rank b.rank (nat_cmp a.rank b.rank) refl) e
  where
    by : (o p : Ordering) → MatchOrdering o (a.height < b.height) (a.height ≡ b.height) (b.height < a.height) → MatchOrdering p (a.rank < b.rank) (a.rank ≡ b.rank) (b.rank < a.rank)
        → is_lt (ordering_then o p) ≡ true → number_of a < number_of b
    by Less p h r e = omega (arith, h, low)
    by Greater p h r e = absurd (false≢true e)
    by Equal Less h r e = omega (arith, h, r)
    by Equal Greater h r e = absurd (false≢true e)
    by Equal Equal h r e = absurd (false≢true e)

-- ---- bounds of weights

-- the least number that is above all weights
abbrev pub bound_of : List Entry → ℕ
bound_of [] = 0
bound_of (e ∷ es) = max (number_of e.0 + 1) (bound_of es)

pub bound-least : (b : ℕ) (es : List Entry) → AreBelow b es → bound_of es ≤ b
bound-least b [] below = omega arith
bound-least b (e ∷ es) below =
    let first = All-head (λ (entry : Entry). number_of entry.0 < b) e es below in
    let rest = bound-least b es (All-tail (λ (entry : Entry). number_of entry.0 < b) e es below) in
    omega (arith, first, rest)

pub last-bound : (es : List Entry) (e : Entry) → number_of e.0 < bound_of (es ++ e ∷ [])
last-bound [] e = omega arith
last-bound (x ∷ es) e = let h = last-bound es e in omega (arith, h)

-- a weight that is before another in the order is below it
pub below-last : (R : Weight → Type 0) (p : Weight) → ((q : Weight) → R q → q.rank ≤ 100 → number_of q < number_of p) → (es : List Entry) → All R (keys_of es)
    → All (λ (entry : Entry). entry.0.rank ≤ 100) es → AreBelow (number_of p) es
below-last R p lower [] keys low = All-nil (λ (entry : Entry). number_of entry.0 < number_of p)
below-last R p lower (e ∷ es) keys low =
    let L : Entry → Type 0 = λ entry. entry.0.rank ≤ 100 in
    All-cons (λ (entry : Entry). number_of entry.0 < number_of p) e es (lower e.0 (All-head R e.0 (keys_of es) keys) (All-head L e es low))
    (below-last R p lower es (All-tail R e.0 (keys_of es) keys) (All-tail L e es low))

-- ---- subparsers of their weights

pub weighed-kept : (source : Source) (old new : List (Option Subparser)) (gone made : List ℕ) (es : List Entry) → Replaces old new gone made → AreWeighed source old es
    → ((n : ℕ) → 0 < times n (numbers_of es) → times n gone ≡ 0) → AreWeighed source new es
weighed-kept source old new gone made [] replaces weighed apart = All-nil (IsWeighed source new)
weighed-kept source old new gone made (e ∷ es) replaces weighed apart =
    let first = All-head (IsWeighed source old) e es weighed in
    All-cons (IsWeighed source new) e es
    (record {
      low = first.low;
      each = each-kept (HasWeight source e.0) old new gone made e.1.items replaces first.each
          (λ n some. apart n (let t = times-append n e.1.items (numbers_of es) in omega (arith, some, t)));
    })
    (weighed-kept source old new gone made es replaces (All-tail (IsWeighed source old) e es weighed)
    (λ n some. apart n (let t = times-append n e.1.items (numbers_of es) in omega (arith, some, t))))

pub weighed-then : (source : Source) (old new : List (Option Subparser)) (gone made whole : List ℕ) (es : List Entry) → Replaces old new gone made → AreNumbers old whole
    → ((n : ℕ) → times n gone + times n (numbers_of es) ≤ times n whole) → AreWeighed source old es → AreWeighed source new es
weighed-then source old new gone made whole es replaces are among weighed =
    weighed-kept source old new gone made es replaces weighed
    (λ n some. let one = are.once n in let most = filled-most old n in let few = among n in omega (arith, one, most, few, some))

-- those of the weight that is found
pub taken-weighed : (source : Source) (rows : List (Option Subparser)) (test : Weight → Bool) (es : List Entry) (w : Weight) → ((k : Weight) → test k ≡ true → k ≡ w) → AreWeighed source rows es
    → Each (HasWeight source w) rows (items_in (lookup test es))
taken-weighed source rows test es w same weighed = by (lookup test es) refl
  where
    by : (found : Option (Vec ℕ)) → lookup test es ≡ found → Each (HasWeight source w) rows (items_in found)
    by None is = All-nil (λ n. (s : Subparser) × (Has rows n s × HasWeight source w s))
    by (Some v) is =
        let h = found-entry (IsWeighed source rows) test es v weighed is in
        subst (λ (k : Weight). Each (HasWeight source k) rows v.items) (same h.0 h.1.0) h.1.1.each

-- what is kept by subparsers that are alike
pub each-like : (P : Subparser → Type 0) → ((s t : Subparser) → AreAlike s t → P s → P t) → (old new : List (Option Subparser)) (others numbers : List ℕ) → AreLike old others new numbers
    → Each P old others → Each P new numbers
each-like P keep old new others numbers like each =
    All-weaker (IsLikeOne old others new) (λ n. (s : Subparser) × (Has new n s × P s))
    (λ n one.
    let h = All-contains (λ m. (s : Subparser) × (Has old m s × P s)) others one.other each one.member in
    (one.now, (one.has, keep h.0 one.now (one.alike h.0 h.1.0) h.1.1)))
    numbers like

pub like-ranked : (source : Source) (rank : ℕ) (s t : Subparser) → AreAlike s t → IsRanked source rank s → IsRanked source rank t
like-ranked source rank s t alike ranked = record {
  path = λ c11.
      let p = ranked.path c11 in
      (p.0, (subst (λ states. Path c11.are.grammar c11.states states p.0) (sym alike.states) p.1.0, p.1.1));
}

pub like-weight : (source : Source) (w : Weight) (s t : Subparser) → AreAlike s t → HasWeight source w s → HasWeight source w t
like-weight source w s t alike has = record { height = ap length alike.states ∙ has.height; ranked = like-ranked source w.rank s t alike has.ranked }

pub like-at : (j : ℕ) (s t : Subparser) → AreAlike s t → IsAt j s → IsAt j t
like-at j s t alike at = alike.phase ∙ at

-- ---- ranks

known-below : (terminals nonterminals x : ℕ) (entry : RuleEntry) → is_known terminals nonterminals entry ≡ true → right_in terminals entry ≡ Some x → x < terminals + nonterminals
known-below terminals nonterminals x (Left n mark) known is = absurd (none-some x is)
known-below terminals nonterminals x (Right (Terminal a)) known is =
    let same : a.0 ≡ x = same_Some a.0 x is in let low = ltb-true a.0 terminals known in omega (arith, same, low)
known-below terminals nonterminals x (Right (Nonterminal a)) known is =
    let same : terminals + a.0 ≡ x = same_Some (terminals + a.0) x is in let low = ltb-true a.0 nonterminals known in omega (arith, same, low)

symbol-below : (g : Grammar) (i x : ℕ) → IsGrammar g → after g i ≡ Some x → x < g.terminals + g.nonterminals
symbol-below g i x rules is = by (slice_get g.entries.now (i + 1)) refl is
  where
    by : (e : Option RuleEntry) → slice_get g.entries.now (i + 1) ≡ e → option_and_then (right_in g.terminals) e ≡ Some x → x < g.terminals + g.nonterminals
    by None at is = absurd (none-some x is)
    by (Some entry) at is = known-below g.terminals g.nonterminals x entry (passes (is_known g.terminals g.nonterminals) g.entries.now (i + 1) entry rules.known at) is

rank-most : (g : Grammar) (entries : g.entries.now ≡ entries_of productions) (terminals : g.terminals ≡ 96) (nonterminals : g.nonterminals ≡ 100) (states : List (List ℕ)) (stack symbols : List ℕ)
    → Path g states stack symbols → rank_of symbols ≤ 100
rank-most g entries terminals nonterminals states _ _ lowest = omega arith
rank-most g entries terminals nonterminals states _ _ (above t x stack symbols goto path) =
    let moved = goto_member g states (top stack) x t goto in
    let small = symbol-below g moved.from x (is-grammar g entries terminals nonterminals) moved.over in
    by (nat_lt x 96) (omega (arith, small, terminals, nonterminals))
  where
    by : (b : Bool) → x < 196 → (if b then 100 else x - 96) ≤ 100
    by true below = omega arith
    by false below = omega (arith, below)

-- no symbol has a higher rank
pub first-ranked : (sets : Sets) (count : ℕ) (source : Source) (s : Subparser) → OwnsRow sets count source s → IsRanked source 100 s
first-ranked sets count source s own = record {
  path = λ c11.
      let on = own.path c11 in
      (on.symbols, (on.path, rank-most c11.are.grammar c11.are.entries c11.are.terminals c11.are.nonterminals c11.states (states_in s) on.symbols on.path));
}

-- the left side of a production has a lower rank than one symbol that is the whole right side
abbrev unit_falls : ℕ → List Symbol → Bool
unit_falls left [] = true
unit_falls left (x ∷ []) = nat_lt left (rank_of (symbol_number 96 x ∷ []))
unit_falls left (x ∷ (y ∷ xs)) = true

abbrev falls : Production → Bool
falls p = nat_lt p.left 100 && unit_falls p.left p.right

all-fall : IsTrue (list_all falls productions)
all-fall = refl

rule-falls : (p : ℕ) (rule : Production) → slice_get productions (p - 1) ≡ Some rule → (rule.left < 100) × (unit_falls rule.left rule.right ≡ true)
rule-falls p rule numbered =
    let parts = and_parts (nat_lt rule.left 100) (unit_falls rule.left rule.right) (passes falls productions (p - 1) rule all-fall numbered) in
    (ltb-true rule.left 100 parts.0, parts.1)

pub rule-left : (p : ℕ) (rule : Production) → slice_get productions (p - 1) ≡ Some rule → rule.left < 100
rule-left p rule numbered = (rule-falls p rule numbered).0

unit-falls : (left rank : ℕ) (right : List Symbol) (symbols : List ℕ) → length right ≡ 1 → unit_falls left right ≡ true → slice_get symbols 0 ≡ option_map (symbol_number 96) (slice_get right 0)
    → rank_of symbols ≤ rank → left < rank
unit-falls left rank [] symbols one falls head most = absurd (omega (arith, one))
unit-falls left rank (x ∷ []) [] one falls head most = absurd (none-some (symbol_number 96 x) head)
unit-falls left rank (x ∷ []) (y ∷ symbols) one falls head most =
    let same : y ≡ symbol_number 96 x = same_Some y (symbol_number 96 x) head in
    let less : left < rank_of (symbol_number 96 x ∷ []) = ltb-true left (rank_of (symbol_number 96 x ∷ [])) falls in
    let is : rank_of (y ∷ []) ≡ rank_of (symbol_number 96 x ∷ []) = ap (λ z. rank_of (z ∷ [])) same in
    omega (arith, less, is, most)
unit-falls left rank (x ∷ (y ∷ right)) symbols one falls head most = absurd (omega (arith, one))

left-rank : (left : ℕ) (symbols : List ℕ) → rank_of ((96 + left) ∷ symbols) ≤ left
left-rank left symbols = by (nat_lt (96 + left) 96) refl
  where
    by : (b : Bool) → nat_lt (96 + left) 96 ≡ b → (if b then 100 else 96 + left - 96) ≤ left
    by true is = absurd (let h = ltb-true (96 + left) 96 is in omega (arith, h))
    by false is = omega arith

module _ (source : Source) (j p : ℕ) (s t : Subparser) (by : IsReducedBy source j p s t) where
  pub reduced-ranked : IsRanked source by.rule.left t
  reduced-ranked = record {
    path = λ c11.
        let sides = by.sides c11 in
        ((96 + by.rule.left) ∷ drop (length by.rule.right) sides.symbols, (sides.becomes, left-rank by.rule.left (drop (length by.rule.right) sides.symbols)));
  }

  -- where the right side is one symbol, the rank falls
  pub unit-lowers : HasC11Tables source.tables.now → (rank : ℕ) → IsRanked source rank s → length by.rule.right ≡ 1 → by.rule.left < rank
  unit-lowers c11 rank ranked one =
      let sides = by.sides c11 in
      let path = ranked.path c11 in
      let same = same_symbols c11.are.grammar c11.states (states_in s) sides.symbols path.0 sides.was path.1.0 in
      unit-falls by.rule.left rank by.rule.right path.0 one (rule-falls p by.rule by.numbered).1
      (subst (λ symbols. slice_get symbols 0 ≡ option_map (symbol_number 96) (slice_get by.rule.right 0)) same (sides.alone one)) path.1.1

  pub lighter : HasC11Tables source.tables.now → (rank : ℕ) → IsRanked source rank s
      → 101 * length (states_in t) + by.rule.left < 101 * length (states_in s) + rank
  lighter c11 rank ranked = sized (length by.rule.right) refl
    where
      sized : (n : ℕ) → length by.rule.right ≡ n → 101 * length (states_in t) + by.rule.left < 101 * length (states_in s) + rank
      sized zero is = absurd (omega (arith, is, by.some))
      sized (suc zero) is = let less = unit-lowers c11 rank ranked is in omega (arith, is, less, by.height)
      sized (suc (suc n)) is = let low = (rule-falls p by.rule by.numbered).0 in omega (arith, is, low, by.height)

-- ---- what a reduction makes

-- the pieces are of the subparser, and there is one
record AreOfOne (source : Source) (s : Subparser) (pieces : List Piece) : Type 0 where
  j : ℕ
  p : ℕ
  phase : s.phase ≡ At j
  action : action_in source s j ≡ Some (Reduction p)
  each : All (IfGoing (IsReducedBy source j p s)) pieces
  one : length (going_of pieces) ≤ 1

of-one : (source : Source) (rows : List (Option Subparser)) (n : ℕ) (pieces : List Piece) (s : Subparser) → Has rows n s → Makes source rows (Reduce n) pieces → AreOfOne source s pieces
of-one source rows n _ s has (reduces _ j p t piece there phase action by) =
    let same : t ≡ s = same_Some t s (same_Some (Some t) (Some s) (sym there ∙ has)) in
    record {
      j = j;
      p = p;
      phase = subst (λ (z : Subparser). z.phase ≡ At j) same phase;
      action = subst (λ (z : Subparser). action_in source z j ≡ Some (Reduction p)) same action;
      each = All-cons (IfGoing (IsReducedBy source j p s)) piece [] (subst (λ (z : Subparser). IfGoing (IsReducedBy source j p z) piece) same by) (All-nil (IfGoing (IsReducedBy source j p s)));
      one = few piece;
    }
  where
    few : (piece : Piece) → length (going_of (piece ∷ [])) ≤ 1
    few (Going s) = omega arith
    few (Over e) = omega arith

one-at : (s : Subparser) (i j : ℕ) → s.phase ≡ At i → s.phase ≡ At j → i ≡ j
one-at s i j first second = ap (λ (phase : Phase). index_of (phase_of phase)) (sym first ∙ second)

one-reduction : (source : Source) (s : Subparser) (i j p q : ℕ) → i ≡ j → action_in source s i ≡ Some (Reduction p) → action_in source s j ≡ Some (Reduction q) → p ≡ q
one-reduction source s i j p q same first second =
    let e : Some (Reduction p) ≡ Some (Reduction q) = sym first ∙ ap (action_in source s) same ∙ second in
    cc

-- each subparser that a reduction makes is reduced by the production
pub made-reduced : (before after : View) (n : ℕ) (made : List ℕ) (s : Subparser) (j p : ℕ) → HasMade before (Reduce n) after made → Has before.subparsers n s → s.phase ≡ At j
    → action_in before.source s j ≡ Some (Reduction p) → Each (IsReducedBy before.source j p s) after.subparsers made
made-reduced before after n made s j p has there phase action =
    let of = of-one before.source before.subparsers n has.pieces s there has.makes in
    let at : of.j ≡ j = one-at s of.j j of.phase phase in
    let same : of.p ≡ p = one-reduction before.source s of.j j of.p p at of.action action in
    subst (λ q. Each (IsReducedBy before.source j q s) after.subparsers made) same
    (subst (λ i. Each (IsReducedBy before.source i of.p s) after.subparsers made) at
    (made-each (IsReducedBy before.source of.j of.p s) before after (Reduce n) made has of.each))

pub made-few : (before after : View) (n : ℕ) (made : List ℕ) (s : Subparser) → HasMade before (Reduce n) after made → Has before.subparsers n s → length made ≤ 1
made-few before after n made s has there =
    let of = of-one before.source before.subparsers n has.pieces s there has.makes in
    subst (λ ns. length ns ≤ 1) (sym has.becomes.numbers) (subst (λ k. k ≤ 1) (sym (long (length before.subparsers) (length (going_of has.pieces)))) of.one)
  where
    long : (a n : ℕ) → length (range_with_len a n) ≡ n
    long a zero = refl
    long a (suc n) = ap suc (long (a + 1) n)

-- ---- what moves

-- beside the subparsers that are gone and those that have come, there are others
pub replaces-among : (old new : List (Option Subparser)) (gone news others all ends : List ℕ) → Replaces old new gone news → ((n : ℕ) → times n all ≡ times n gone + times n others)
    → ((n : ℕ) → times n ends ≡ times n news + times n others) → Replaces old new all ends
replaces-among old new gone news others all ends replaces whole comes = record {
  counts = λ n. let was = replaces.counts n in let a = whole n in let b = comes n in omega (arith, was, a, b);
  kept = λ n s has none. replaces.kept n s has (let a = whole n in omega (arith, a, none));
}

pub others-kept : (P : Subparser → Type 0) (old new : List (Option Subparser)) (gone news others whole : List ℕ) → Replaces old new gone news → AreNumbers old whole
    → ((n : ℕ) → times n gone + times n others ≤ times n whole) → Each P old others → Each P new others
others-kept P old new gone news others whole replaces are among each =
    each-kept P old new gone news others replaces each
    (λ n some. let one = are.once n in let most = filled-most old n in let few = among n in omega (arith, one, most, few, some))

pub numbers-then : (old new : List (Option Subparser)) (gone news others whole ends : List ℕ) → Replaces old new gone news → AreNumbers old whole
    → ((n : ℕ) → times n whole ≡ times n gone + times n others) → ((n : ℕ) → times n ends ≡ times n news + times n others) → AreNumbers new ends
numbers-then old new gone news others whole ends replaces are counts comes = record {
  once = λ n. let was = replaces.counts n in let one = are.once n in let a = counts n in let b = comes n in omega (arith, was, one, a, b);
}

-- what is true of those that have come, and of the others, is true of all
pub each-then-others : (P : Subparser → Type 0) (old new : List (Option Subparser)) (gone news others whole ends : List ℕ) → Replaces old new gone news → AreNumbers old whole
    → ((n : ℕ) → times n whole ≡ times n gone + times n others) → ((n : ℕ) → times n ends ≡ times n news + times n others) → Each P old whole → Each P new news → Each P new ends
each-then-others P old new gone news others whole ends replaces are counts comes each first =
    each-of P new (news ++ others) ends
    (each-append P new news others first
    (others-kept P old new gone news others whole replaces are (λ n. let a = counts n in omega (arith, a))
    (each-of P old whole others each (λ n none. let a = counts n in omega (arith, a, none)))))
    (λ n none. let t = times-append n news others in let b = comes n in omega (arith, t, b, none))

pub moves-nowhere : (sets : Sets) (lines : List Line) (j : ℕ) (s : Steps) (ns : List ℕ) → OwnsSteps sets (length lines) s → OwnsBranches sets lines → Each (IsAt j) s.core.subparsers ns
    → Moves sets sets lines lines j s s ns ns
moves-nowhere sets lines j s ns own branches at = record {
  goes_on = goes-nowhere sets lines (j + 1) s own branches;
  replaces = replaces-same s.core.subparsers ns;
  at = at;
}

pub moves-then : (a b c : Sets) (one two three : List Line) (j : ℕ) (s t u : Steps) (all whole gone news others ends : List ℕ) → Moves a b one two j s t all whole → AreNumbers t.core.subparsers whole
    → GoesOn b c two three (j + 1) t u → Replaces t.core.subparsers u.core.subparsers gone news → ((n : ℕ) → times n whole ≡ times n gone + times n others)
    → ((n : ℕ) → times n ends ≡ times n news + times n others) → Each (IsAt j) u.core.subparsers news → Moves a c one three j s u all ends
moves-then a b c one two three j s t u all whole gone news others ends first are goes replaces counts comes at = record {
  goes_on = goes-then a b c one two three (j + 1) s t u first.goes_on goes;
  replaces = replaces-then s.core.subparsers t.core.subparsers u.core.subparsers all whole gone news all ends first.replaces replaces
      (λ n. let x = counts n in let y = comes n in omega (arith, x, y)) (λ n none. none) (λ n none without. let x = counts n in omega (arith, x, without));
  at = each-then-others (IsAt j) t.core.subparsers u.core.subparsers gone news others whole ends replaces are counts comes first.at at;
}

-- ---- one reduction

pub at-number : (P : Subparser → Type 0) (rows : List (Option Subparser)) (n : ℕ) (ns : List ℕ) (s : Subparser) → Has rows n s → Each P rows (n ∷ ns) → P s
at-number P rows n ns s has each =
    let h = All-head (λ m. (t : Subparser) × (Has rows m t × P t)) n ns each in
    subst P (same_Some h.0 s (same_Some (Some h.0) (Some s) (sym h.1.0 ∙ has))) h.1.1

tail-of : (P : Subparser → Type 0) (rows : List (Option Subparser)) (n : ℕ) (ns : List ℕ) → Each P rows (n ∷ ns) → Each P rows ns
tail-of P rows n ns each = All-tail (λ m. (t : Subparser) × (Has rows m t × P t)) n ns each

-- the number of a production by which subparsers are reduced
pub reduction-number : (sets : Sets) (count : ℕ) (s : Steps) (ns : List ℕ) (p : ℕ) → OwnsSteps sets count s → 0 < length ns → Each (IsReducing s.core.source p) s.core.subparsers ns → (1 ≤ p) × (p ≤ 288)
reduction-number sets count s [] p own some each = absurd (omega (arith, some))
reduction-number sets count s (n ∷ ns) p own some each =
    let h = All-head (λ m. (t : Subparser) × (Has s.core.subparsers m t × IsReducing s.core.source p t)) n ns each in
    let row = row-owned sets count s n h.0 own h.1.0 in
    let c11 = own.core.source.tables in
    let r = reduction-of s.core.source h.0 h.1.1.at p own.core.source c11 (row.path c11) h.1.1.action in
    let within : p - 1 < length productions = slice_get_within productions (p - 1) r.production r.at in
    let long : length productions ≡ 288 = refl in
    let first = r.some in
    (omega (arith, first), omega (arith, within, long, first))

-- the element that comes next is before the one behind it
pub at-before : (rows : List (Option Subparser)) (ns : List ℕ) (j : ℕ) → Each (IsAt j) rows ns → Each (StandsBefore (j + 1)) rows ns
at-before rows ns j each = each-then (IsAt j) (StandsBefore (j + 1)) rows ns (λ s at. let e = ap (λ (phase : Phase). index_of (phase_of phase)) at in omega (arith, e)) each

-- ---- what one reduction makes, and what several make

pub one-each : (before after : View) (n p : ℕ) (made : List ℕ) → HasMade before (Reduce n) after made → Each (IsReducing before.source p) before.subparsers (n ∷ []) → (P Q : Subparser → Type 0)
    → ((i : ℕ) (x y : Subparser) → Q x → x.phase ≡ At i → IsReducedBy before.source i p x y → P y) → Each Q before.subparsers (n ∷ []) → Each P after.subparsers made
one-each before after n p made has reducing P Q gives each =
    let r = All-head (λ m. (x : Subparser) × (Has before.subparsers m x × IsReducing before.source p x)) n [] reducing in
    each-then (IsReducedBy before.source r.1.1.at p r.0) P after.subparsers made
    (λ y by. gives r.1.1.at r.0 y (at-number Q before.subparsers n [] r.0 r.1.0 each) r.1.1.phase by)
    (made-reduced before after n made r.0 r.1.1.at p has r.1.0 r.1.1.phase r.1.1.action)

pub group-each : (old : Sets) (lines : List Line) (before : View) (new : Sets) (added : List Line) (after : View) (made group : List ℕ) (p : ℕ)
    → AreDone old lines before (events_of kinds.Reduce group) new added after made → AreNumbers before.subparsers group → Each (IsReducing before.source p) before.subparsers group
    → (P Q : Subparser → Type 0) → ((i : ℕ) (x y : Subparser) → Q x → x.phase ≡ At i → IsReducedBy before.source i p x y → P y) → Each Q before.subparsers group → Each P after.subparsers made
group-each old lines before new added after made group p done numbers reducing P Q gives each =
    done-each kinds.Reduce before P (λ x. Q x × IsReducing before.source p x)
    (λ between next n x more same q now has.
    each-then (IsReducedBy between.source q.1.at p x) P next.subparsers more
    (λ y by. gives q.1.at x y q.0 q.1.phase (subst (λ (source : Source). IsReducedBy source q.1.at p x y) same by))
    (made-reduced between next n more x q.1.at p has now q.1.phase (subst (λ (source : Source). action_in source x q.1.at ≡ Some (Reduction p)) (sym same) q.1.action)))
    old lines (events_of kinds.Reduce group) new added after made done group refl numbers (each-both Q (IsReducing before.source p) before.subparsers group each reducing)

-- by this rank the subparser is below the weight
abbrev pub IsLighter : ℕ → Weight → Subparser → Type 0
IsLighter rank w s = 101 * length (states_in s) + rank < number_of w

-- A group was reduced. What has come of it and is left has this rank, and the others wait.
pub record HasReduced (old new : Sets) (lines added : List Line) (before after : Steps) (group : List ℕ) (waited : List Entry) (rank : ℕ) (left : List ℕ) (waiting : List Entry) : Type 0 where
  pub own : OwnsSteps new (length added) after
  pub branches : OwnsBranches new added
  pub keeps : Keeps old new
  pub grows : Extends lines added
  pub numbers : AreNumbers after.core.subparsers (left ++ numbers_of waiting)
  pub weighed : AreWeighed after.core.source after.core.subparsers waiting
  pub ranked : Each (IsRanked after.core.source rank) after.core.subparsers left
  pub moves : (j : ℕ) → Each (IsAt j) before.core.subparsers (group ++ numbers_of waited)
      → Moves old new lines added j before after (group ++ numbers_of waited) (left ++ numbers_of waiting)
  pub below : (w : Weight) → Each (HasWeight before.core.source w) before.core.subparsers group → AreBelow (number_of w) waited
      → AreBelow (number_of w) waiting × Each (IsLighter rank w) after.core.subparsers left

module _ (old new : Sets) (lines added : List Line) (s t : Steps) (group : List ℕ) (p : ℕ) (rule : Production) (es : List Entry) (made : List ℕ) (own : OwnsSteps old (length lines) s)
    (branches : OwnsBranches old lines) (numbers : AreNumbers s.core.subparsers (group ++ numbers_of es)) (j : ℕ) (at : Each (IsAt j) s.core.subparsers (group ++ numbers_of es))
    (weighed : AreWeighed s.core.source s.core.subparsers es) (numbered : slice_get productions (p - 1) ≡ Some rule) (replaced : Replaces s.core.subparsers t.core.subparsers group made)
    (each-made : (P Q : Subparser → Type 0) → ((i : ℕ) (x y : Subparser) → Q x → x.phase ≡ At i → IsReducedBy s.core.source i p x y → P y) → Each Q s.core.subparsers group → Each P t.core.subparsers made)
    (goes : (place : ℕ) → Each (StandsBefore place) s.core.subparsers group → GoesOn old new lines added place s t) where
  counts : (m : ℕ) → times m (group ++ numbers_of es) ≡ times m group + times m (numbers_of es)
  counts m = times-append m group (numbers_of es)

  group-at : (i : ℕ) → Each (IsAt i) s.core.subparsers (group ++ numbers_of es) → Each (IsAt i) s.core.subparsers group
  group-at i each = each-of (IsAt i) s.core.subparsers (group ++ numbers_of es) group each (λ k none. let e = counts k in omega (arith, e, none))

  same-rule : (i : ℕ) (x y : Subparser) (by : IsReducedBy s.core.source i p x y) → by.rule.left ≡ rule.left
  same-rule i x y by = ap (λ (q : Production). q.left) (same_Some by.rule rule (sym by.numbered ∙ numbered))

  goes-at : (i : ℕ) → Each (IsAt i) s.core.subparsers (group ++ numbers_of es) → GoesOn old new lines added (i + 1) s t
  goes-at i each = goes (i + 1) (at-before s.core.subparsers group i (group-at i each))

  went : GoesOn old new lines added (j + 1) s t
  went = goes-at j at

  pub reduced-first : HasReduced old new lines added s t group es rule.left made es
  reduced-first = record {
    own = went.own;
    branches = went.branches;
    keeps = went.keeps;
    grows = went.grows;
    numbers = numbers-then s.core.subparsers t.core.subparsers group made (numbers_of es) (group ++ numbers_of es) (made ++ numbers_of es) replaced numbers counts (λ m. times-append m made (numbers_of es));
    weighed = subst (λ source. AreWeighed source t.core.subparsers es) (sym went.source)
        (weighed-then s.core.source s.core.subparsers t.core.subparsers group made (group ++ numbers_of es) es replaced numbers (λ m. let e = counts m in omega (arith, e)) weighed);
    ranked = subst (λ source. Each (IsRanked source rule.left) t.core.subparsers made) (sym went.source)
        (each-made (IsRanked s.core.source rule.left) (IsAt j)
        (λ i x y look phase by. subst (λ rank. IsRanked s.core.source rank y) (same-rule i x y by) (reduced-ranked s.core.source i p x y by)) (group-at j at));
    moves = λ i each.
        moves-then old old new lines lines added i s s t (group ++ numbers_of es) (group ++ numbers_of es) group made (numbers_of es) (made ++ numbers_of es)
        (moves-nowhere old lines i s (group ++ numbers_of es) own branches each) numbers (goes-at i each) replaced counts (λ m. times-append m made (numbers_of es))
        (each-made (IsAt i) (IsAt i) (λ k x y look phase by. by.phase ∙ ap At (one-at x k i phase look)) (group-at i each));
    below = λ w heavy low. (
      low,
      each-made (IsLighter rule.left w) (HasWeight s.core.source w)
          (λ i x y weight phase by.
          let less = lighter s.core.source i p x y by own.core.source.tables w.rank weight.ranked in
          let height = weight.height in
          let left = same-rule i x y by in
          omega (arith, less, height, left))
          heavy,
    );
  }

module _ (a b c : Sets) (one two three : List Line) (s t u : Steps) (group : List ℕ) (waited : List Entry) (rank m : ℕ) (rest : List ℕ) (es new : List Entry) (h : HasReduced a b one two s t group waited rank (m ∷ rest) es)
    (goes : (place : ℕ) → GoesOn b c two three place t u) (replaces : Replaces t.core.subparsers u.core.subparsers (m ∷ numbers_of es) (numbers_of new)) (weighed : AreWeighed u.core.source u.core.subparsers new)
    (at : (j : ℕ) → Each (IsAt j) t.core.subparsers (m ∷ numbers_of es) → Each (IsAt j) u.core.subparsers (numbers_of new))
    (below : (bound : ℕ) (x : Subparser) → Has t.core.subparsers m x → AreBelow bound es → 101 * length (states_in x) + rank < bound → AreBelow bound new) where
  counts-2 : (k : ℕ) → times k ((m ∷ rest) ++ numbers_of es) ≡ times k (m ∷ numbers_of es) + times k rest
  counts-2 k = let e = times-append k (m ∷ rest) (numbers_of es) in omega (arith, e)

  comes-2 : (k : ℕ) → times k (rest ++ numbers_of new) ≡ times k (numbers_of new) + times k rest
  comes-2 k = let e = times-append k rest (numbers_of new) in omega (arith, e)

  kept-2 : (P : Subparser → Type 0) → Each P t.core.subparsers (m ∷ rest) → Each P u.core.subparsers rest
  kept-2 P each =
      others-kept P t.core.subparsers u.core.subparsers (m ∷ numbers_of es) (numbers_of new) rest ((m ∷ rest) ++ numbers_of es) replaces h.numbers
      (λ k. let e = counts-2 k in omega (arith, e)) (tail-of P t.core.subparsers m rest each)

  pub reduced-next : HasReduced a c one three s u group waited rank rest new
  reduced-next = record {
    own = (goes 0).own;
    branches = (goes 0).branches;
    keeps = Keeps-trans h.keeps (goes 0).keeps;
    grows = Extends-trans h.grows (goes 0).grows;
    numbers = numbers-then t.core.subparsers u.core.subparsers (m ∷ numbers_of es) (numbers_of new) rest ((m ∷ rest) ++ numbers_of es) (rest ++ numbers_of new) replaces h.numbers counts-2 comes-2;
    weighed = weighed;
    ranked = subst (λ source. Each (IsRanked source rank) u.core.subparsers rest) (sym (goes 0).source) (kept-2 (IsRanked t.core.source rank) h.ranked);
    moves = λ j each.
        let first = h.moves j each in
        moves-then a b c one two three j s t u (group ++ numbers_of waited) ((m ∷ rest) ++ numbers_of es) (m ∷ numbers_of es) (numbers_of new) rest (rest ++ numbers_of new) first h.numbers
        (goes (j + 1)) replaces counts-2 comes-2
        (at j (each-of (IsAt j) t.core.subparsers ((m ∷ rest) ++ numbers_of es) (m ∷ numbers_of es) first.at (λ k none. let e = counts-2 k in omega (arith, e, none))));
    below = λ w heavy low.
        let first = h.below w heavy low in
        let head = All-head (λ k. (x : Subparser) × (Has t.core.subparsers k x × IsLighter rank w x)) m rest first.1 in
        (below (number_of w) head.0 head.1.0 first.0 head.1.1, kept-2 (IsLighter rank w) first.1);
  }

pub none-left : (xs : List ℕ) → length xs ≡ 0 → xs ≡ []
none-left [] none = refl
none-left (x ∷ xs) none = absurd (omega (arith, none))

-- ---- reductions of one weight

-- Of the heaviest subparsers some are taken: they are ready or were reduced. What is left is of
-- their weight.
pub record HasTaken (old new : Sets) (lines added : List Line) (before after : Steps) (was_ready heaviest : List ℕ) (waited : List Entry) (ready left : List ℕ) (waiting : List Entry) : Type 0 where
  pub own : OwnsSteps new (length added) after
  pub branches : OwnsBranches new added
  pub keeps : Keeps old new
  pub grows : Extends lines added
  pub numbers : AreNumbers after.core.subparsers (ready ++ (left ++ numbers_of waiting))
  pub weighed : AreWeighed after.core.source after.core.subparsers waiting
  pub moves : (j : ℕ) → Each (IsAt j) before.core.subparsers (was_ready ++ (heaviest ++ numbers_of waited))
      → Moves old new lines added j before after (was_ready ++ (heaviest ++ numbers_of waited)) (ready ++ (left ++ numbers_of waiting))
  pub are_ready : (j : ℕ) → Each (IsAt j) before.core.subparsers (was_ready ++ (heaviest ++ numbers_of waited)) → Each (IsReady before.core.source j) before.core.subparsers was_ready
      → Each (IsReady after.core.source j) after.core.subparsers ready
  pub below : (w : Weight) → Each (HasWeight before.core.source w) before.core.subparsers heaviest → AreBelow (number_of w) waited
      → AreBelow (number_of w) waiting × Each (HasWeight after.core.source w) after.core.subparsers left

pub taken-first : (sets : Sets) (lines : List Line) (s : Steps) (ready heaviest left : List ℕ) (es : List Entry) → left ≡ heaviest → OwnsSteps sets (length lines) s → OwnsBranches sets lines
    → AreNumbers s.core.subparsers (ready ++ (heaviest ++ numbers_of es)) → AreWeighed s.core.source s.core.subparsers es
    → HasTaken sets sets lines lines s s ready heaviest es ready left es
taken-first sets lines s ready heaviest left es same own branches numbers weighed =
    let G : GoesOn sets sets lines lines 0 s s = goes-nowhere sets lines 0 s own branches in
    subst (λ ns. HasTaken sets sets lines lines s s ready heaviest es ready ns es) (sym same)
    (record {
      own = own;
      branches = branches;
      keeps = G.keeps;
      grows = G.grows;
      numbers = numbers;
      weighed = weighed;
      moves = λ j at. moves-nowhere sets lines j s (ready ++ (heaviest ++ numbers_of es)) own branches at;
      are_ready = λ j at first. first;
      below = λ w heavy low. (low, heavy);
    })

module _ (a b : Sets) (one two : List Line) (s t : Steps) (was_ready heaviest : List ℕ) (waited : List Entry) (ready group rest : List ℕ) (es : List Entry)
    (h : HasTaken a b one two s t was_ready heaviest waited ready (group ++ rest) es) where
  abbrev all-3 : List ℕ
  all-3 = was_ready ++ (heaviest ++ numbers_of waited)

  abbrev whole-3 : List ℕ
  whole-3 = ready ++ ((group ++ rest) ++ numbers_of es)

  parts-3 : (k : ℕ) → times k whole-3 ≡ times k ready + (times k group + (times k rest + times k (numbers_of es)))
  parts-3 k =
      let e = times-append k ready ((group ++ rest) ++ numbers_of es) in
      let f = times-append k (group ++ rest) (numbers_of es) in
      let o = times-append k group rest in
      omega (arith, e, f, o)

  -- those that come next, and those that wait
  pub next-numbers : AreNumbers t.core.subparsers (group ++ numbers_of es)
  next-numbers = fewer-numbers t.core.subparsers whole-3 (group ++ numbers_of es) h.numbers (λ k. let e = parts-3 k in let f = times-append k group (numbers_of es) in omega (arith, e, f))

  pub next-at : (j : ℕ) → Each (IsAt j) s.core.subparsers all-3 → Each (IsAt j) t.core.subparsers (group ++ numbers_of es)
  next-at j each =
      each-of (IsAt j) t.core.subparsers whole-3 (group ++ numbers_of es) (h.moves j each).at (λ k none. let e = parts-3 k in let f = times-append k group (numbers_of es) in omega (arith, e, f, none))

  module _ (c : Sets) (three : List Line) (u : Steps) (new : List Entry) (i : ℕ) (each-i : Each (IsAt i) s.core.subparsers all-3)
      (went : (j : ℕ) → Each (IsAt j) t.core.subparsers (group ++ numbers_of es) → Moves b c two three j t u (group ++ numbers_of es) (numbers_of new))
      (weighed : AreWeighed u.core.source u.core.subparsers new)
      (below : (w : Weight) → Each (HasWeight t.core.source w) t.core.subparsers group → AreBelow (number_of w) es → AreBelow (number_of w) new) where
    went-i : Moves b c two three i t u (group ++ numbers_of es) (numbers_of new)
    went-i = went i (next-at i each-i)

    counts-3 : (k : ℕ) → times k whole-3 ≡ times k (group ++ numbers_of es) + times k (ready ++ rest)
    counts-3 k = let e = parts-3 k in let f = times-append k ready rest in let o = times-append k group (numbers_of es) in omega (arith, e, f, o)

    comes-3 : (k : ℕ) → times k (ready ++ (rest ++ numbers_of new)) ≡ times k (numbers_of new) + times k (ready ++ rest)
    comes-3 k =
        let e = times-append k ready (rest ++ numbers_of new) in
        let f = times-append k rest (numbers_of new) in
        let r = times-append k ready rest in
        omega (arith, e, f, r)

    -- what is true of others stays true
    kept-3 : (P : Subparser → Type 0) (ns : List ℕ) → ((k : ℕ) → times k ns ≤ times k (ready ++ rest)) → Each P t.core.subparsers ns → Each P u.core.subparsers ns
    kept-3 P ns few each =
        others-kept P t.core.subparsers u.core.subparsers (group ++ numbers_of es) (numbers_of new) ns whole-3 went-i.replaces h.numbers
        (λ k. let e = counts-3 k in let f = few k in omega (arith, e, f)) each

    pub taken-reduced : HasTaken a c one three s u was_ready heaviest waited ready rest new
    taken-reduced = record {
      own = went-i.goes_on.own;
      branches = went-i.goes_on.branches;
      keeps = Keeps-trans h.keeps went-i.goes_on.keeps;
      grows = Extends-trans h.grows went-i.goes_on.grows;
      numbers = numbers-then t.core.subparsers u.core.subparsers (group ++ numbers_of es) (numbers_of new) (ready ++ rest) whole-3 (ready ++ (rest ++ numbers_of new)) went-i.replaces h.numbers
          counts-3 comes-3;
      weighed = weighed;
      moves = λ j each.
          let now = went j (next-at j each) in
          moves-then a b c one two three j s t u all-3 whole-3 (group ++ numbers_of es) (numbers_of new) (ready ++ rest) (ready ++ (rest ++ numbers_of new)) (h.moves j each) h.numbers now.goes_on
          now.replaces counts-3 comes-3 now.at;
      are_ready = λ j each before.
          subst (λ source. Each (IsReady source j) u.core.subparsers ready) (sym went-i.goes_on.source)
          (kept-3 (IsReady t.core.source j) ready (λ k. let e = times-append k ready rest in omega (arith, e)) (h.are_ready j each before));
      below = λ w heavy low.
          let first = h.below w heavy low in
          let of : (ns : List ℕ) → ((k : ℕ) → times k ns ≤ times k (group ++ rest)) → Each (HasWeight t.core.source w) t.core.subparsers ns = λ ns few.
          each-of (HasWeight t.core.source w) t.core.subparsers (group ++ rest) ns first.1 (λ k none. let e = few k in omega (arith, e, none))
          in (
            below w (of group (λ k. let e = times-append k group rest in omega (arith, e))) first.0,
            subst (λ source. Each (HasWeight source w) u.core.subparsers rest) (sym went-i.goes_on.source)
                (kept-3 (HasWeight t.core.source w) rest (λ k. let e = times-append k ready rest in omega (arith, e)) (of rest (λ k. let e = times-append k group rest in omega (arith, e)))),
          );
    }

-- one whose action is no reduction is ready
module _ (a b : Sets) (one two : List Line) (s t : Steps) (was_ready heaviest : List ℕ) (waited : List Entry) (ready : List ℕ) (m : ℕ) (rest : List ℕ) (es : List Entry)
    (h : HasTaken a b one two s t was_ready heaviest waited ready (m ∷ rest) es)
    (shifts : (j : ℕ) (x : Subparser) → Has t.core.subparsers m x → IsAt j x → (p : ℕ) → action_in t.core.source x j ≡ Some (Reduction p) → ⊥) where
  same-3 : (k : ℕ) → times k ((ready ++ m ∷ []) ++ (rest ++ numbers_of es)) ≡ times k (ready ++ ((m ∷ rest) ++ numbers_of es))
  same-3 k =
      let e = parts-3 a b one two s t was_ready heaviest waited ready (m ∷ []) rest es h k in
      let f = times-append k (ready ++ m ∷ []) (rest ++ numbers_of es) in
      let o = times-append k ready (m ∷ []) in
      let r = times-append k rest (numbers_of es) in
      omega (arith, e, f, o, r)

  pub taken-ready : HasTaken a b one two s t was_ready heaviest waited (ready ++ m ∷ []) rest es
  taken-ready = record {
    own = h.own;
    branches = h.branches;
    keeps = h.keeps;
    grows = h.grows;
    numbers = fewer-numbers t.core.subparsers (ready ++ ((m ∷ rest) ++ numbers_of es)) ((ready ++ m ∷ []) ++ (rest ++ numbers_of es)) h.numbers (λ k. let e = same-3 k in omega (arith, e));
    weighed = h.weighed;
    moves = λ j each.
        let first = h.moves j each in
        record {
          goes_on = first.goes_on;
          replaces = record { counts = λ k. let e = same-3 k in let was = first.replaces.counts k in omega (arith, e, was); kept = first.replaces.kept };
          at = each-of (IsAt j) t.core.subparsers (ready ++ ((m ∷ rest) ++ numbers_of es)) ((ready ++ m ∷ []) ++ (rest ++ numbers_of es)) first.at (λ k none. let e = same-3 k in omega (arith, e, none));
        };
    are_ready = λ j each before.
        let at = All-head (λ k. (x : Subparser) × (Has t.core.subparsers k x × IsAt j x)) m (numbers_of es) (next-at a b one two s t was_ready heaviest waited ready (m ∷ []) rest es h j each) in
        let R : ℕ → Type 0 = λ k. (x : Subparser) × (Has t.core.subparsers k x × IsReady t.core.source j x) in
        each-append (IsReady t.core.source j) t.core.subparsers ready (m ∷ []) (h.are_ready j each before)
        (All-cons R m [] (at.0, (at.1.0, record { at = at.1.1; shifts = shifts j at.0 at.1.0 at.1.1 })) (All-nil R));
    below = λ w heavy low. let first = h.below w heavy low in (first.0, tail-of (HasWeight t.core.source w) t.core.subparsers m rest first.1);
  }

-- the action of a subparser that is reduced
pub reducing-one : (source : Source) (rows : List (Option Subparser)) (n j p : ℕ) (ns : List ℕ) → Each (IsAt j) rows (n ∷ ns)
    → ((s : Subparser) → Has rows n s → IsAt j s → action_in source s j ≡ Some (Reduction p)) → Each (IsReducing source p) rows (n ∷ [])
reducing-one source rows n j p ns each acts =
    let at = All-head (λ k. (x : Subparser) × (Has rows k x × IsAt j x)) n ns each in
    let R : ℕ → Type 0 = λ k. (x : Subparser) × (Has rows k x × IsReducing source p x) in
    All-cons R n [] (at.0, (at.1.0, record { at = j; phase = at.1.1; action = acts at.0 at.1.0 at.1.1 })) (All-nil R)

-- the actions of those that are reduced together
pub reducing-all : (source : Source) (rows : List (Option Subparser)) (ns : List ℕ) (j p : ℕ) → Each (IsAt j) rows ns
    → All (ActsBy source p rows) ns → Each (IsReducing source p) rows ns
reducing-all source rows ns j p each acts =
    times-all (λ n. (s : Subparser) × (Has rows n s × IsReducing source p s)) ns (λ n some.
    let at = all-times (λ m. (x : Subparser) × (Has rows m x × IsAt j x)) ns n each some in
    let act = all-times (ActsBy source p rows) ns n acts some in
    (at.0, (at.1.0, record { at = j; phase = at.1.1; action = act at.0 j (record { has = at.1.0; phase = at.1.1 }) })))

-- what is split in two
pub seam : (count : ℕ) (left group rest : List ℕ) → group ≡ take count left → rest ≡ drop count left → left ≡ group ++ rest
seam count left group rest front back =
    sym (take-append-drop count left) ∙ ap (λ ns. ns ++ drop count left) (sym front) ∙ ap (λ ns. group ++ ns) (sym back)

pub first-left : (left rest : List ℕ) → 0 < length left → rest ≡ drop 1 left → left ≡ get_or left 0 0 ∷ rest
first-left [] rest some is = absurd (omega (arith, some))
first-left (n ∷ left) rest some is = ap (λ ns. n ∷ ns) (sym is)

-- the group and the others are those that are left
pub taken-split : {a b : Sets} {one two : List Line} {s t : Steps} {was_ready heaviest : List ℕ} {waited : List Entry} {ready left : List ℕ} {es : List Entry} (count : ℕ) (group rest : List ℕ)
    → group ≡ take count left → rest ≡ drop count left → HasTaken a b one two s t was_ready heaviest waited ready left es
    → HasTaken a b one two s t was_ready heaviest waited ready (group ++ rest) es
taken-split {a} {b} {one} {two} {s} {t} {was_ready} {heaviest} {waited} {ready} {left} {es} count group rest front back h =
    subst (λ ns. HasTaken a b one two s t was_ready heaviest waited ready ns es) (seam count left group rest front back) h

pub first-one : (P : ℕ → Type 0) (left : List ℕ) → 0 < length left → P (get_or left 0 0) → All P (take 1 left)
first-one P [] some first = absurd (omega (arith, some))
first-one P (n ∷ left) some first = All-cons P n [] first (All-nil P)

pub tail-whole : (left : List ℕ) → take (length left - 1) (drop 1 left) ≡ drop 1 left
tail-whole [] = refl
tail-whole (n ∷ left) = take_all (length (n ∷ left) - 1) left (omega arith)

some-taken : (count : ℕ) (left : List ℕ) → 0 < count → count ≤ length left → 0 < length (take count left)
some-taken zero left some few = absurd (omega (arith, some))
some-taken (suc count) [] some few = absurd (omega (arith, few))
some-taken (suc count) (n ∷ left) some few = omega arith

-- the first ones of those that are left are reduced by the production: they are a group
pub group-reducing : (source : Source) (rows : List (Option Subparser)) (left group : List ℕ) (count j p : ℕ) → 0 < count → count ≤ length left
    → All (ActsBy source p rows) (take count left) → group ≡ take count left → Each (IsAt j) rows group → AreReducing source p rows group
group-reducing source rows left group count j p some few acts is at = record {
  some = subst (λ ns. 0 < length ns) (sym is) (some-taken count left some few);
  each = reducing-all source rows group j p at (subst (All (ActsBy source p rows)) (sym is) acts);
}

-- what is left behind a group is less
pub shorter : (count : ℕ) (left rest : List ℕ) → 0 < count → count ≤ length left → rest ≡ drop count left → length rest < length left
shorter zero left rest some few is = absurd (omega (arith, some))
shorter (suc count) [] rest some few is = absurd (omega (arith, few))
shorter (suc count) (n ∷ left) rest some few is = let long = ap length is in let most = fewer count left in omega (arith, long, most)
  where
    fewer : (k : ℕ) (xs : List ℕ) → length (drop k xs) ≤ length xs
    fewer zero xs = omega arith
    fewer (suc k) [] = omega arith
    fewer (suc k) (x ∷ xs) = let h = fewer k xs in omega (arith, h)

-- ---- one subparser alone

-- a list of one number at most is what is first of it
pub given-first : (xs : List ℕ) → length xs ≤ 1 → given (slice_get xs 0) ≡ xs
given-first [] few = refl
given-first (x ∷ []) few = refl
given-first (x ∷ (y ∷ xs)) few = absurd (omega (arith, few))

-- a core can do the reduction of a subparser whose action is one
pub reduction-enabled : (source : Source) (rows : List (Option Subparser)) (n : ℕ) (s : Subparser) (j p : ℕ) (fact : Fact) → Has rows n s → s.phase ≡ At j → action_in source s j ≡ Some (Reduction p)
    → IsRefused source rows (Reduce n) fact → ⊥
reduction-enabled source rows n s j p _ has phase acts (none_to_reduce _ none) = none s has
reduction-enabled source rows n s j p _ has phase acts (no_lookahead_to_reduce _ t there other) =
    let same : s ≡ t = same_Some s t (same_Some (Some s) (Some t) (sym has ∙ there)) in other j (subst (λ (z : Subparser). z.phase ≡ At j) same phase)
reduction-enabled source rows n s j p _ has phase acts (no_reduction _ i t there at other) =
    let same : s ≡ t = same_Some s t (same_Some (Some s) (Some t) (sym has ∙ there)) in
    let here : j ≡ i = one-at t j i (subst (λ (z : Subparser). z.phase ≡ At j) same phase) at in
    other p (subst (λ k. action_in source t k ≡ Some (Reduction p)) here (subst (λ (z : Subparser). action_in source z j ≡ Some (Reduction p)) same acts))

abbrev height_in : Option (Option Subparser) → ℕ
height_in (Some (Some s)) = length (states_in s)
height_in _ = 0

-- how high the stack of the subparser is
abbrev pub height_at : List (Option Subparser) → ℕ → ℕ
height_at rows n = height_in (slice_get rows n)

-- what has come of the one subparser, and its rank
pub record IsAlone (old new : Sets) (lines added : List Line) (before after : Steps) (first number rank : ℕ) : Type 0 where
  pub own : OwnsSteps new (length added) after
  pub branches : OwnsBranches new added
  pub keeps : Keeps old new
  pub grows : Extends lines added
  pub numbers : AreNumbers after.core.subparsers (number ∷ [])
  pub ranked : Each (IsRanked after.core.source rank) after.core.subparsers (number ∷ [])
  pub moves : (j : ℕ) → Each (IsAt j) before.core.subparsers (first ∷ []) → Moves old new lines added j before after (first ∷ []) (number ∷ [])

pub first-alone : (sets : Sets) (lines : List Line) (s : Steps) (n : ℕ) → OwnsSteps sets (length lines) s → OwnsBranches sets lines → AreNumbers s.core.subparsers (n ∷ []) → IsAlone sets sets lines lines s s n n 100
first-alone sets lines s n own branches numbers =
    let G : GoesOn sets sets lines lines 0 s s = goes-nowhere sets lines 0 s own branches in
    let there = first-number s.core.subparsers n [] numbers in
    let R : ℕ → Type 0 = λ m. (x : Subparser) × (Has s.core.subparsers m x × IsRanked s.core.source 100 x) in
    record {
      own = own;
      branches = branches;
      keeps = G.keeps;
      grows = G.grows;
      numbers = numbers;
      ranked = All-cons R n [] (there.0, (there.1, first-ranked sets (length lines) s.core.source there.0 (row-owned sets (length lines) s n there.0 own there.1))) (All-nil R);
      moves = λ j at. moves-nowhere sets lines j s (n ∷ []) own branches at;
    }

-- where one symbol is the whole right side, the rank of the subparser is higher than its left side
pub rank-falls : (sets : Sets) (count : ℕ) (s : Steps) (n rank p : ℕ) (rule : Production) → OwnsSteps sets count s → Each (IsRanked s.core.source rank) s.core.subparsers (n ∷ [])
    → Each (IsReducing s.core.source p) s.core.subparsers (n ∷ []) → slice_get productions (p - 1) ≡ Some rule → length rule.right ≤ 1 → rule.left < rank
rank-falls sets count s n rank p rule own ranked reducing numbered few =
    let h = All-head (λ m. (t : Subparser) × (Has s.core.subparsers m t × IsReducing s.core.source p t)) n [] reducing in
    let row = row-owned sets count s n h.0 own h.1.0 in
    let c11 = own.core.source.tables in
    let on = row.path c11 in
    let path = (at-number (IsRanked s.core.source rank) s.core.subparsers n [] h.0 h.1.0 ranked).path c11 in
    let r = reduction-of s.core.source h.0 h.1.1.at p own.core.source c11 on h.1.1.action in
    let same : r.production ≡ rule = same_Some r.production rule (sym r.at ∙ numbered) in
    let long : length r.production.right ≡ length rule.right = ap (λ (q : Production). length q.right) same in
    let some = r.not_empty in
    let symbols = same_symbols c11.are.grammar c11.states (states_in h.0) on.symbols path.0 on.path path.1.0 in
    unit-falls rule.left rank rule.right path.0 (omega (arith, some, few, long)) (rule-falls p rule numbered).1
    (subst (λ xs. slice_get xs 0 ≡ option_map (symbol_number 96) (slice_get rule.right 0)) symbols
    (subst (λ (q : Production). slice_get on.symbols 0 ≡ option_map (symbol_number 96) (slice_get q.right 0)) same (r.head (omega (arith, some, few, long)))))
    path.1.1

module _ (a b c : Sets) (one two three : List Line) (s t u : Steps) (first n rank left : ℕ) (made : List ℕ) (alone : IsAlone a b one two s t first n rank)
    (h : HasReduced b c two three t u (n ∷ []) [] left made []) where
  -- what is made of the one subparser takes its place
  pub alone-moves : (j : ℕ) → Each (IsAt j) s.core.subparsers (first ∷ []) → Moves a c one three j s u (first ∷ []) made
  alone-moves j each =
      let before = alone.moves j each in
      let now = h.moves j before.at in
      moves-then a b c one two three j s t u (first ∷ []) (n ∷ []) (n ∷ []) (made ++ []) [] made before alone.numbers now.goes_on now.replaces (λ k. omega arith)
      (λ k. let e = times-append k made [] in omega (arith, e)) now.at

  pub alone-keeps : Keeps a c
  alone-keeps = Keeps-trans alone.keeps h.keeps

  pub alone-grows : Extends one three
  alone-grows = Extends-trans alone.grows h.grows

  module _ (m : ℕ) (same : made ≡ m ∷ []) where
    pub alone-next : IsAlone a c one three s u first m left
    alone-next = record {
      own = h.own;
      branches = h.branches;
      keeps = alone-keeps;
      grows = alone-grows;
      numbers = subst (λ ns. AreNumbers u.core.subparsers (ns ++ [])) same h.numbers;
      ranked = subst (λ ns. Each (IsRanked u.core.source left) u.core.subparsers ns) same h.ranked;
      moves = λ j each. subst (λ ns. Moves a c one three j s u (first ∷ []) ns) same (alone-moves j each);
    }

    -- the stack is less high, or the rank is lower
    pub alone-lower : 101 * height_at u.core.subparsers m + left < 101 * height_at t.core.subparsers n + rank
    alone-lower =
        let before = All-head (λ k. (x : Subparser) × (Has t.core.subparsers k x × IsRanked t.core.source rank x)) n [] alone.ranked in
        let w : Weight = record { height = length (states_in before.0); rank = rank } in
        let W : ℕ → Type 0 = λ k. (x : Subparser) × (Has t.core.subparsers k x × HasWeight t.core.source w x) in
        let light = (h.below w (All-cons W n [] (before.0, (before.1.0, record { height = refl; ranked = before.1.1 })) (All-nil W)) (All-nil (λ (entry : Entry). number_of entry.0 < number_of w))).1 in
        let after = All-head (λ k. (x : Subparser) × (Has u.core.subparsers k x × IsLighter left w x)) m [] (subst (λ ns. Each (IsLighter left w) u.core.subparsers ns) same light) in
        let high : height_at t.core.subparsers n ≡ length (states_in before.0) = ap height_in before.1.0 in
        let low : height_at u.core.subparsers m ≡ length (states_in after.0) = ap height_in after.1.0 in
        let less = after.1.1 in
        omega (arith, high, low, less)

pub alone-ready : (source : Source) (rows : List (Option Subparser)) (n j : ℕ) → Each (IsAt j) rows (n ∷ [])
    → ((s : Subparser) → Has rows n s → IsAt j s → (p : ℕ) → action_in source s j ≡ Some (Reduction p) → ⊥) → Each (IsReady source j) rows (n ∷ [])
alone-ready source rows n j each shifts =
    let at = All-head (λ k. (x : Subparser) × (Has rows k x × IsAt j x)) n [] each in
    let R : ℕ → Type 0 = λ k. (x : Subparser) × (Has rows k x × IsReady source j x) in
    All-cons R n [] (at.0, (at.1.0, record { at = at.1.1; shifts = shifts at.0 at.1.0 at.1.1 })) (All-nil R)

-- ---- all reductions at one element

-- Of the subparsers some are ready, some are left, and the others wait.
pub record HasGone (old new : Sets) (lines added : List Line) (before after : Steps) (all ready left : List ℕ) (waiting : List Entry) : Type 0 where
  pub own : OwnsSteps new (length added) after
  pub branches : OwnsBranches new added
  pub keeps : Keeps old new
  pub grows : Extends lines added
  pub numbers : AreNumbers after.core.subparsers (ready ++ (left ++ numbers_of waiting))
  pub weighed : AreWeighed after.core.source after.core.subparsers waiting
  pub moves : (j : ℕ) → Each (IsAt j) before.core.subparsers all → Moves old new lines added j before after all (ready ++ (left ++ numbers_of waiting))
  pub are_ready : (j : ℕ) → Each (IsAt j) before.core.subparsers all → Each (IsReady after.core.source j) after.core.subparsers ready

pub gone-first : (sets : Sets) (lines : List Line) (s : Steps) (all left : List ℕ) (es : List Entry) → left ≡ all → es ≡ [] → OwnsSteps sets (length lines) s → OwnsBranches sets lines
    → AreNumbers s.core.subparsers all → HasGone sets sets lines lines s s all [] left es
gone-first sets lines s all left es same none own branches numbers =
    let G : GoesOn sets sets lines lines 0 s s = goes-nowhere sets lines 0 s own branches in
    let whole : all ++ [] ≡ all = append-nil all in
    subst (λ entries. HasGone sets sets lines lines s s all [] left entries) (sym none)
    (subst (λ ns. HasGone sets sets lines lines s s all [] ns []) (sym same)
    (record {
      own = own;
      branches = branches;
      keeps = G.keeps;
      grows = G.grows;
      numbers = subst (λ ns. AreNumbers s.core.subparsers ns) (sym whole) numbers;
      weighed = All-nil (IsWeighed s.core.source s.core.subparsers);
      moves = λ j at. subst (λ ns. Moves sets sets lines lines j s s all ns) (sym whole) (moves-nowhere sets lines j s all own branches at);
      are_ready = λ j at. All-nil (λ n. (x : Subparser) × (Has s.core.subparsers n x × IsReady s.core.source j x));
    }))

-- the next one of those that are left is put to those that wait
pub gone-waiting : (a b c : Sets) (one two three : List Line) (s t u : Steps) (all : List ℕ) (m : ℕ) (rest : List ℕ) (es new : List Entry) → HasGone a b one two s t all [] (m ∷ rest) es
    → ((place : ℕ) → GoesOn b c two three place t u) → Replaces t.core.subparsers u.core.subparsers (m ∷ numbers_of es) (numbers_of new) → AreWeighed u.core.source u.core.subparsers new
    → ((j : ℕ) → Each (IsAt j) t.core.subparsers (m ∷ numbers_of es) → Each (IsAt j) u.core.subparsers (numbers_of new)) → HasGone a c one three s u all [] rest new
gone-waiting a b c one two three s t u all m rest es new h goes replaces weighed at = record {
  own = (goes 0).own;
  branches = (goes 0).branches;
  keeps = Keeps-trans h.keeps (goes 0).keeps;
  grows = Extends-trans h.grows (goes 0).grows;
  numbers = numbers-then t.core.subparsers u.core.subparsers (m ∷ numbers_of es) (numbers_of new) rest ((m ∷ rest) ++ numbers_of es) (rest ++ numbers_of new) replaces h.numbers counts comes;
  weighed = weighed;
  moves = λ j each.
      let first = h.moves j each in
      moves-then a b c one two three j s t u all ((m ∷ rest) ++ numbers_of es) (m ∷ numbers_of es) (numbers_of new) rest (rest ++ numbers_of new) first h.numbers
      (goes (j + 1)) replaces counts comes
      (at j (each-of (IsAt j) t.core.subparsers ((m ∷ rest) ++ numbers_of es) (m ∷ numbers_of es) first.at (λ k none. let e = counts k in omega (arith, e, none))));
  are_ready = λ j each. All-nil (λ n. (x : Subparser) × (Has u.core.subparsers n x × IsReady u.core.source j x));
}
  where
    counts : (k : ℕ) → times k ((m ∷ rest) ++ numbers_of es) ≡ times k (m ∷ numbers_of es) + times k rest
    counts k = let e = times-append k (m ∷ rest) (numbers_of es) in omega (arith, e)

    comes : (k : ℕ) → times k (rest ++ numbers_of new) ≡ times k (numbers_of new) + times k rest
    comes k = let e = times-append k rest (numbers_of new) in omega (arith, e)

-- ---- the heaviest ones

pub times-last : (n : ℕ) (es : List Entry) (e : Entry) → times n (numbers_of (es ++ e ∷ [])) ≡ times n e.1.items + times n (numbers_of es)
times-last n [] e = times-append n e.1.items []
times-last n (x ∷ es) e =
    let first = times-append n x.1.items (numbers_of (es ++ e ∷ [])) in
    let second = times-append n x.1.items (numbers_of es) in
    omega (arith, first, second, times-last n es e)

pub all-front : (P : Entry → Type 0) (es : List Entry) (e : Entry) → All P (es ++ e ∷ []) → All P es × P e
all-front P [] e all = (All-nil P, All-head P e [] all)
all-front P (x ∷ es) e all =
    let rest = all-front P es e (All-tail P x (es ++ e ∷ []) all) in
    (All-cons P x es (All-head P x (es ++ e ∷ []) all) rest.0, rest.1)

pub none-popped : (es : List Entry) (r : Option Entry) → r ≡ None → (0 < length es → IsSome r) → es ≡ []
none-popped [] r none some = refl
none-popped (e ∷ es) r none some = absurd (false≢true (subst (λ (o : Option Entry). IsSome o) none (some (omega arith))))

module _ (a b : Sets) (one two : List Line) (s t : Steps) (all ready : List ℕ) (entries es : List Entry) (w : Weight) (v : Vec ℕ) (h : HasGone a b one two s t all ready [] entries)
    (popped : entries ≡ es ++ (w, v) ∷ []) where
  same-numbers : (n : ℕ) → times n (ready ++ (v.items ++ numbers_of es)) ≡ times n (ready ++ ([] ++ numbers_of entries))
  same-numbers n =
      let e = times-append n ready (v.items ++ numbers_of es) in
      let f = times-append n v.items (numbers_of es) in
      let o = times-append n ready (numbers_of entries) in
      let p : times n (numbers_of entries) ≡ times n v.items + times n (numbers_of es) = ap (λ (xs : List Entry). times n (numbers_of xs)) popped ∙ times-last n es (w, v) in
      omega (arith, e, f, o, p)

  pub popped-numbers : AreNumbers t.core.subparsers (ready ++ (v.items ++ numbers_of es))
  popped-numbers = fewer-numbers t.core.subparsers (ready ++ ([] ++ numbers_of entries)) (ready ++ (v.items ++ numbers_of es)) h.numbers (λ n. let e = same-numbers n in omega (arith, e))

  pub popped-at : (j : ℕ) → Each (IsAt j) s.core.subparsers all → Each (IsAt j) t.core.subparsers (ready ++ (v.items ++ numbers_of es))
  popped-at j each = each-of (IsAt j) t.core.subparsers (ready ++ ([] ++ numbers_of entries)) (ready ++ (v.items ++ numbers_of es)) (h.moves j each).at (λ n none. let e = same-numbers n in omega (arith, e, none))

  parts : AreWeighed t.core.source t.core.subparsers es × IsWeighed t.core.source t.core.subparsers (w, v)
  parts = all-front (IsWeighed t.core.source t.core.subparsers) es (w, v) (subst (λ (xs : List Entry). AreWeighed t.core.source t.core.subparsers xs) popped h.weighed)

  pub popped-weighed : AreWeighed t.core.source t.core.subparsers es
  popped-weighed = parts.0

  pub gone-reduced : (c : Sets) (three : List Line) (u : Steps) (news : List ℕ) (new : List Entry) (i : ℕ) → Each (IsAt i) s.core.subparsers all
      → ((j : ℕ) → Each (IsAt j) t.core.subparsers (ready ++ (v.items ++ numbers_of es)) → Moves b c two three j t u (ready ++ (v.items ++ numbers_of es)) (news ++ numbers_of new))
      → ((j : ℕ) → Each (IsAt j) t.core.subparsers (ready ++ (v.items ++ numbers_of es)) → Each (IsReady t.core.source j) t.core.subparsers ready → Each (IsReady u.core.source j) u.core.subparsers news)
      → AreWeighed u.core.source u.core.subparsers new → HasGone a c one three s u all news [] new
  gone-reduced c three u news new i each-i goes are weighed =
      let now = goes i (popped-at i each-i) in
      record {
        own = now.goes_on.own;
        branches = now.goes_on.branches;
        keeps = Keeps-trans h.keeps now.goes_on.keeps;
        grows = Extends-trans h.grows now.goes_on.grows;
        numbers = numbers-after t.core.subparsers u.core.subparsers (ready ++ (v.items ++ numbers_of es)) (news ++ numbers_of new) now.replaces popped-numbers;
        weighed = weighed;
        moves = λ j each.
            let later = goes j (popped-at j each) in
            moves-then a b c one two three j s t u all (ready ++ ([] ++ numbers_of entries)) (ready ++ (v.items ++ numbers_of es)) (news ++ numbers_of new) [] (news ++ ([] ++ numbers_of new))
            (h.moves j each) h.numbers later.goes_on later.replaces (λ n. let e = same-numbers n in omega (arith, e)) (λ n. omega arith) later.at;
        are_ready = λ j each. are j (popped-at j each) (h.are_ready j each);
      }

  -- what waits then is lighter
  pub gone-lower : (new : List Entry) → All (λ q. weight_cmp q w ≡ Less) (keys_of es)
      → ((x : Weight) → Each (HasWeight t.core.source x) t.core.subparsers v.items → AreBelow (number_of x) es → AreBelow (number_of x) new) → bound_of new < bound_of entries
  gone-lower new keys below =
      let low = All-weaker (IsWeighed t.core.source t.core.subparsers) (λ (e : Entry). e.0.rank ≤ 100) (λ e one. one.low) es parts.0 in
      let under = below-last (λ q. weight_cmp q w ≡ Less) w (λ q before rank. weight-lower q w (ap is_lt before) rank) es keys low in
      let least = bound-least (number_of w) new (below w parts.1.each under) in
      let last = last-bound es (w, v) in
      let same : bound_of entries ≡ bound_of (es ++ (w, v) ∷ []) = ap bound_of popped in
      omega (arith, least, last, same)

pub one-item : (xs : List ℕ) → 1 ≤ length xs → length xs < 2 → xs ≡ get_or xs 0 0 ∷ []
one-item [] some few = absurd (omega (arith, some))
one-item (x ∷ []) some few = refl
one-item (x ∷ (y ∷ xs)) some few = absurd (omega (arith, few))
