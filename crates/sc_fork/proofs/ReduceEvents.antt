-- A reduction is the step of LR parsing at each configuration.
use Rattle.std.proofs.Common.{◌≡◌, ℕ, ◌<◌, ◌≤◌, ◌-◌, ◌+◌, true, List, [], ◌∷◌, All, IfSome, length, option_map, take, drop, reverse, slice_get, is_some, Option, Some, None, refl, sym, ap, ◌∙◌, subst, arith}
use Rattle.std.specs.List.{take-map}
use Rattle.std.proofs.lemmas.List.{drop-map, length-drop, reverse-append}
use Rattle.std.proofs.lemmas.List.Elements.{All-cons, All-drop, All-head, All-tail, All-push, All-take}
use Rattle.std.proofs.lemmas.Option.{IfSome_then, same_Some, none-some, slice_get_within}
use Rattle.c11_parsing.specs.Bindings.{Declarators, marked}
use Rattle.c11_parsing.specs.C11.{c11_declarators}
use Rattle.c11_parsing.specs.Classes.{Input}
use Rattle.c11_parsing.specs.Core as core
use Rattle.c11_parsing.specs.Core.{frames, run_of, Piece, going, IsStepped, Makes, reduces}
use Rattle.c11_parsing.specs.LR as lr
use Rattle.c11_parsing.specs.LR.{Frame, Point, on, looking, step, acted, reduced, reduced_to, tree_of}
use Rattle.c11_parsing.specs.Parser.{Parser}
use Rattle.c11_parsing.specs.Trees.{Tree}
use Rattle.lr_tables.specs.declared.grammar.Action.TheVariants.{Reduce}
use Rattle.lr_tables.specs.Grammar.{Production, symbol_number}
use Rattle.lr_tables.specs.Paths.{Path}
use Rattle.sc_base.specs.declared.id.Cond.{Cond}
use Rattle.sc_base.specs.declared.id.TreeId.{TreeId}
use Rattle.sc_base.proofs.Growth.{Extends-refl}
use Rattle.sc_fork.specs.declared.piece.Piece.TheVariants.{Going}
use Rattle.sc_fork.specs.declared.source.Source.{Source}
use Rattle.sc_fork.specs.Owns.{HasC11Tables, IsSource, IsOnPath, IsWithin, OwnsRow}
use Rattle.sc_fork.specs.Reducing.{IsValueOf, Rebinds}
use Rattle.sc_fork.specs.Seen.{IsInput, IsNext, IsSeen, IsSeenAt, going_seen, AreSeen, none_seen, more_seen, terminal_in, action_in, action_by}
use Rattle.sc_fork.specs.Pieces.{IsReducedBy, ReplacesSide}
use Rattle.sc_fork.proofs.ProductionLemmas.{Reduction, reduction-of}
use Rattle.sc_fork.proofs.ReduceLemmas.{left-tree, on-path, path-after, goes-on, frames-read, below-reads, left-read, frames-below}
use Rattle.sc_fork.proofs.StepLemmas.{looking_run, step-acted, action-same, top-frames, top-states}
use Rattle.sc_grammar.specs.C11.{productions}
use Rattle.sc_lalr.specs.Tables.{goto_of}
use Rattle.sc_merge.specs.declared.subparser.Phase.TheVariants.{At}
use Rattle.sc_merge.specs.declared.subparser.Subparser.{Subparser}
use Rattle.sc_merge.specs.Merges.{OwnsSubparser, OwnsValues, tables_with}
use Rattle.sc_merge.specs.Phases.{phase_of}
use Rattle.sc_merge.specs.Shows.{ValueReads, ValuesRead, more_values}
use Rattle.sc_merge.proofs.ShowLemmas.{ValuesRead-Grows}
use Rattle.sc_model.specs.Growth.{Extends, IsOneToOne}
use Rattle.sc_model.specs.Token.{Place}
use Rattle.sc_model.specs.Sets.{Sets, IsConfig, IsCond, Keeps}
use Rattle.sc_model.proofs.SetLemmas.{Keeps-refl}
use Rattle.sc_scope.specs.Search.{OwnsLevels}
use Rattle.sc_scope.specs.Seen.{levels_in}
use Rattle.sc_stack.specs.Entries.{Entry, state_of, states_of, values_of}
use Rattle.sc_tree.specs.Lines.{Line, OwnsBranches}
use Rattle.sc_tree.specs.Reads.{Tables, Grows}

-- the action was found at a terminal
has-terminal : (source : Source) (parent : Subparser) (at number : ℕ) → action_in source parent at ≡ Some (Reduce number) → (x : ℕ) × (terminal_in source at ≡ Some x)
has-terminal source parent at number acts = by (terminal_in source at) refl acts
  where
    by : (x : Option ℕ) → terminal_in source at ≡ x → action_by source.tables.now (state_of parent.stack) x ≡ Some (Reduce number) → (x : ℕ) × (terminal_in source at ≡ Some x)
    by None is_none acts = absurd (none-some (Reduce number) acts)
    by (Some x) is_some acts = (x, is_some)

-- the run after a reduction
abbrev after_reduction : lr.Run → ℕ → Production → ℕ → Declarators → List Frame → Point
after_reduction r number rule state declarators below = on (record {
  stack = record { state = state; tree = tree_of number (take (length rule.right) r.stack) } ∷ below;
  levels = marked declarators rule.mark (tree_of number (take (length rule.right) r.stack)) r.levels;
  left = r.left;
  phase = looking;
})

reduced-point : (m : Parser) (end : Place) (r : lr.Run) (x number state : ℕ) (rule : Production) (below : List Frame) → slice_get m.productions (number - 1) ≡ Some rule
    → m.tables.goto (lr.top (drop (length rule.right) r.stack)) rule.left ≡ Some state → m.declarators ≡ c11_declarators → drop (length rule.right) r.stack ≡ below
    → acted m end r x (Some (Reduce number)) ≡ after_reduction r number rule state c11_declarators below
reduced-point m end r x number state rule below numbered goes declarators rest =
    ap (reduced m end r number) numbered
    ∙ ap (reduced_to m end r number rule) goes
    ∙ ap (λ d. after_reduction r number rule state d (drop (length rule.right) r.stack)) declarators
    ∙ ap (after_reduction r number rule state c11_declarators) rest

-- the parent was reduced to this subparser, which LR parsing does where names differ in their texts
pub record IsReduced (j number : ℕ) (old new : Sets) (before after : List Line) (source : Source) (parent s : Subparser) : Type 0 where
  pub row : OwnsRow new (length after) source s
  pub by : IsReducedBy source j number parent s
  pub pieces : (names files : List (List ℕ)) (input : Input) (t : core.Subparser) → IsOneToOne names → IsInput (tables_with old before names files) source input
      → IsSeen (tables_with old before names files) input parent t → (qs : List Piece) × (Makes input t core.reduce qs × AreSeen (tables_with new after names files) input (Going s ∷ []) qs)

module _ (old new : Sets) (before after : List Line) (source : Source) (parent s : Subparser) (j number state : ℕ) (rule : Production) (value : Option TreeId) (source_is : IsSource source)
    (looks : parent.phase ≡ At j) (acts : action_in source parent j ≡ Some (Reduce number)) (own : OwnsRow old (length before) source parent)
    (keeps : Keeps old new) (grows : Extends before after) (numbered : slice_get productions (number - 1) ≡ Some rule)
    (goes : goto_of source.tables.now (state_of (drop (length rule.right) parent.stack)) rule.left ≡ Some state)
    (value_is : IsValueOf after number (reverse (values_of (take (length rule.right) parent.stack))) value) (value_own : IfSome value (λ id. id.0 < length after)) (cond : s.cond ≡ parent.cond)
    (stack : s.stack ≡ record { state = state; value = value } ∷ drop (length rule.right) parent.stack) (phase : s.phase ≡ parent.phase) (levels_own : OwnsLevels new (levels_in s.scopes))
    (levels : Rebinds old new after parent.cond value (marked c11_declarators rule.mark) (levels_in parent.scopes) (levels_in s.scopes)) where
  abbrev size : ℕ
  size = length rule.right

  owns : OwnsSubparser new (length after) s
  owns = record {
    cond = subst (λ (k : Cond). IsCond new k.0) (sym cond) (keeps.own parent.cond.0 own.owns.cond);
    values = subst (λ (es : List Entry). OwnsValues (length after) (values_of es)) (sym stack)
        (record { each = All-cons Own value (values_of (drop size parent.stack)) value_own (subst (All Own) (drop-map (λ (entry : Entry). entry.value) size parent.stack) (All-drop Own size (values_of parent.stack) grown)) });
    levels = levels_own;
  }
    where
      Own : Option TreeId → Type 0
      Own v = IfSome v (λ (id : TreeId). id.0 < length after)

      grown : All Own (values_of parent.stack)
      grown = λ k d below. IfSome_then _ {P = λ (id : TreeId). id.0 < length before} {Q = λ (id : TreeId). id.0 < length after} (own.owns.values.each k d below) (λ id low. omega (arith, low, grows.longer))

  path : (c11 : HasC11Tables source.tables.now) → IsOnPath c11.are.grammar c11.states s.stack
  path c11 =
      let onto = own.path c11 in
      let r = reduction-of source parent j number source_is c11 onto acts in
      let same : rule ≡ r.production = same_Some rule r.production (sym numbered ∙ r.at) in
      let goto = goes-on c11.are.grammar c11.states parent.stack onto number r source.tables.now c11.are.exact c11.are.terminals c11.are.nonterminals (Some state)
      (subst (λ (p : Production). goto_of source.tables.now (state_of (drop (length p.right) parent.stack)) p.left ≡ Some state) same goes) in
      let some = left-tree c11.are.grammar c11.states parent.stack onto number r after value
      (subst (λ (p : Production). IsValueOf after number (reverse (values_of (take (length p.right) parent.stack))) value) same value_is) in
      subst (λ (es : List Entry). IsOnPath c11.are.grammar c11.states es) (sym stack)
      (subst (λ (p : Production). IsOnPath c11.are.grammar c11.states (record { state = state; value = value } ∷ drop (length p.right) parent.stack)) (sym same)
      (on-path c11.are.grammar c11.states parent.stack onto number r state value goto some))

  -- the parent's path with the left side on top
  pub by-production : IsReducedBy source j number parent s
  by-production = record {
    phase = phase ∙ looks;
    rule = rule;
    numbered = numbered;
    some = subst (λ (p : Production). 0 < length p.right) (sym same) found.not_empty;
    height =
        let high : length rule.right ≤ length (states_of parent.stack) = subst (λ (p : Production). length p.right ≤ length (states_of parent.stack)) (sym same) found.high in
        let states : states_of s.stack ≡ state ∷ drop size (states_of parent.stack) = ap states_of stack ∙ ap (λ ss. state ∷ ss) (sym (drop-map (λ (entry : Entry). entry.state) size parent.stack)) in
        omega (arith, high, ap length states, length-drop size (states_of parent.stack));
    sides = sides;
  }
    where
      found : Reduction source_is.tables.are.grammar source_is.tables.states (states_of parent.stack) (own.path source_is.tables).symbols number
      found = reduction-of source parent j number source_is source_is.tables (own.path source_is.tables) acts

      same : rule ≡ found.production
      same = same_Some rule found.production (sym numbered ∙ found.at)

      sides : (c11 : HasC11Tables source.tables.now) → ReplacesSide c11.are.grammar c11.states (states_of parent.stack) (states_of s.stack) rule
      sides c11 =
          let onto = own.path c11 in
          let r = reduction-of source parent j number source_is c11 onto acts in
          let is : rule ≡ r.production = same_Some rule r.production (sym numbered ∙ r.at) in
          let goto = goes-on c11.are.grammar c11.states parent.stack onto number r source.tables.now c11.are.exact c11.are.terminals c11.are.nonterminals (Some state)
          (subst (λ (p : Production). goto_of source.tables.now (state_of (drop (length p.right) parent.stack)) p.left ≡ Some state) is goes) in
          record {
            symbols = onto.symbols;
            was = onto.path;
            becomes = subst (λ (es : List Entry). Path c11.are.grammar c11.states (states_of es) ((96 + rule.left) ∷ drop (length rule.right) onto.symbols)) (sym stack)
                (subst (λ (p : Production). Path c11.are.grammar c11.states (states_of (record { state = state; value = value } ∷ drop (length p.right) parent.stack)) ((96 + p.left) ∷ drop (length p.right) onto.symbols))
                (sym is) (path-after c11.are.grammar c11.states parent.stack onto number r state value goto));
            alone = subst (λ (p : Production). length p.right ≡ 1 → slice_get onto.symbols 0 ≡ option_map (symbol_number 96) (slice_get p.right 0)) (sym is) r.head;
          }

  own-reduced : OwnsRow new (length after) source s
  own-reduced = record { owns = owns; within = subst (λ p. IsWithin (length source.list.now) p) (sym phase) own.within; path = path }

  -- what the subparser is seen as
  abbrev tree_at : core.Subparser → List ℕ → Option Tree
  tree_at t c = tree_of number (take size (frames t.states (t.trees c)))

  abbrev reduced_of : core.Subparser → core.Subparser
  reduced_of t = record {
    condition = t.condition;
    phase = core.at j;
    states = state ∷ drop size t.states;
    trees = λ c. tree_at t c ∷ drop size (t.trees c);
    levels = λ c. marked c11_declarators rule.mark (tree_at t c) (t.levels c);
  }

  module _ (names files : List (List ℕ)) (input : Input) (t : core.Subparser) (one : IsOneToOne names) (is : IsInput (tables_with old before names files) source input)
      (seen : IsSeen (tables_with old before names files) input parent t) where
    phase_is : t.phase ≡ core.at j
    phase_is = seen.phase ∙ ap phase_of looks

    next : (c : List ℕ) → IsConfig input.arities c → t.condition c ≡ true → IsNext input c (core.at j)
    next c config holds = subst (IsNext input c) phase_is (seen.each c config holds).next

    listed : (c : List ℕ) → IsConfig input.arities c → IsConfig old.arities c
    listed c config = subst (λ ns. IsConfig ns c) is.arities config

    below-is : (c : List ℕ) → lr.top (drop size (frames t.states (t.trees c))) ≡ state_of (drop size parent.stack)
    below-is c =
        ap lr.top (frames-below size t.states (t.trees c)) ∙ top-frames (drop size t.states) (drop size (t.trees c)) ∙ ap (λ ss. core.top_of (drop size ss)) seen.states
        ∙ ap core.top_of (drop-map (λ (entry : Entry). entry.state) size parent.stack) ∙ top-states (drop size parent.stack)

    stepped : IsStepped input t (core.at j) t.condition (going (reduced_of t))
    stepped = record { possible = seen.possible; has = λ c config. refl; in_phase = refl; stepped = at }
      where
        at : (c : List ℕ) → IsConfig input.arities c → t.condition c ≡ true → step input.parser input.end (run_of input t c) ≡ on (run_of input (reduced_of t) c)
        at c config holds =
            let x = has-terminal source parent j number acts in
            step-acted (tables_with old before names files) source input is parent t j x.0 c phase_is seen.states (next c config holds) x.1
            ∙ ap (acted input.parser input.end (looking_run input t j c) x.0) acts
            ∙ reduced-point input.parser input.end (looking_run input t j c) x.0 number state rule (frames (drop size t.states) (drop size (t.trees c)))
            (ap (λ (m : Parser). slice_get m.productions (number - 1)) is.parser ∙ numbered)
            (ap (λ (m : Parser). m.tables.goto (lr.top (drop size (frames t.states (t.trees c)))) rule.left) is.parser
            ∙ ap (λ n. goto_of source.tables.now n rule.left) (below-is c) ∙ goes)
            (ap (λ (m : Parser). m.declarators) is.parser) (frames-below size t.states (t.trees c))

    seen-each : (c : List ℕ) → IsConfig input.arities c → t.condition c ≡ true → IsSeenAt (tables_with new after names files) input s (reduced_of t) c
    seen-each c config holds = record {
      shows = record {
        values = subst (λ (es : List Entry). ValuesRead (tables_with new after names files) c (values_of es) (tree_at t c ∷ drop size (t.trees c))) (sym stack)
            (ValuesRead-Grows middle (tables_with new after names files) c later is_config _ _ (more_values value (values_of (drop size parent.stack)) (tree_at t c) (drop size (t.trees c)) first (below-reads middle c size parent.stack (t.trees c) reads)));
        scopes = levels.shows names files c (tree_at t c) (t.levels c) one is_config (sym (seen.has c config) ∙ holds) first was.shows.scopes;
      };
      next = next c config holds;
    }
      where
        middle : Tables
        middle = tables_with old after names files

        was : IsSeenAt (tables_with old before names files) input parent t c
        was = seen.each c config holds

        is_config : IsConfig old.arities c
        is_config = listed c config

        sooner : Grows (tables_with old before names files) middle
        sooner = record { sets = Keeps-refl old; names = Extends-refl names; files = Extends-refl files; lines = grows }

        later : Grows middle (tables_with new after names files)
        later = record { sets = keeps; names = Extends-refl names; files = Extends-refl files; lines = Extends-refl after }

        reads : ValuesRead middle c (values_of parent.stack) (t.trees c)
        reads = ValuesRead-Grows (tables_with old before names files) middle c sooner is_config _ _ was.shows.values

        first : ValueReads middle c value (tree_at t c)
        first = subst (λ ss. ValueReads middle c value (tree_of number (take size (frames ss (t.trees c))))) (sym seen.states)
            (left-read middle c number (values_of (take size parent.stack)) (take size (frames (states_of parent.stack) (t.trees c))) value (frames-read middle c size parent.stack (t.trees c) reads) value_is)

    seen-reduced : IsSeen (tables_with new after names files) input s (reduced_of t)
    seen-reduced = record {
      owns = owns;
      has = λ c config. seen.has c config ∙ sym (keeps.at parent.cond.0 c own.owns.cond (listed c config)) ∙ ap (λ (k : Cond). new.has k.0 c) (sym cond);
      possible = seen.possible;
      phase = sym (ap phase_of (phase ∙ looks));
      states = ap (λ ss. state ∷ drop size ss) seen.states ∙ ap (λ ss. state ∷ ss) (drop-map (λ (entry : Entry). entry.state) size parent.stack) ∙ sym (ap states_of stack);
      each = seen-each;
    }

    reduced-pieces : (qs : List Piece) × (Makes input t core.reduce qs × AreSeen (tables_with new after names files) input (Going s ∷ []) qs)
    reduced-pieces = (
      going (reduced_of t) ∷ [],
      (
        reduces j number (going (reduced_of t)) phase_is (action-same (tables_with old before names files) source input is parent t j seen.states ∙ acts) stepped,
        more_seen (Going s) (going (reduced_of t)) [] [] (going_seen s (reduced_of t) seen-reduced) none_seen,
      ),
    )

  pub is-reduced : IsReduced j number old new before after source parent s
  is-reduced = record { row = own-reduced; by = by-production; pieces = λ names files input t one is seen. reduced-pieces names files input t one is seen }

-- ---- what the calls ask

-- the number is that of a production
pub in-range : (old : Sets) (lines : ℕ) (source : Source) (parent : Subparser) (j number : ℕ) → IsSource source → OwnsRow old lines source parent → action_in source parent j ≡ Some (Reduce number)
    → (1 ≤ number) × (number ≤ 288)
in-range old lines source parent j number is own acts =
    let r = reduction-of source parent j number is is.tables (own.path is.tables) acts in
    let below : number - 1 < 288 = slice_get_within productions (number - 1) r.production r.at in
    (r.some, omega (arith, below))

-- the state below the right side has a goto
pub never-refused : (old : Sets) (lines : ℕ) (source : Source) (parent : Subparser) (j number : ℕ) (rule : Production) → IsSource source → OwnsRow old lines source parent
    → action_in source parent j ≡ Some (Reduce number) → slice_get productions (number - 1) ≡ Some rule
    → goto_of source.tables.now (state_of (drop (length rule.right) parent.stack)) rule.left ≡ None → ⊥
never-refused old lines source parent j number rule is own acts numbered nowhere =
    let c11 = is.tables in
    let r = reduction-of source parent j number is c11 (own.path c11) acts in
    let same : rule ≡ r.production = same_Some rule r.production (sym numbered ∙ r.at) in
    goes-on c11.are.grammar c11.states parent.stack (own.path c11) number r source.tables.now c11.are.exact c11.are.terminals c11.are.nonterminals None
    (subst (λ (p : Production). goto_of source.tables.now (state_of (drop (length p.right) parent.stack)) p.left ≡ None) same nowhere)

reversed-all : {X : Type 0} (P : X → Type 0) (xs : List X) → All P xs → All P (reverse xs)
reversed-all P [] all = all
reversed-all P (x ∷ xs) all =
    subst (All P) (sym (reverse-append (x ∷ []) xs)) (All-push P (reverse xs) x (reversed-all P xs (All-tail P x xs all)) (All-head P x xs all))

-- the values that are taken are the store's
pub taken-own : (count n : ℕ) (stack : List Entry) → OwnsValues count (values_of stack) → All (λ (v : Option TreeId). IfSome v (λ id. id.0 < count)) (reverse (values_of (take n stack)))
taken-own count n stack own =
    let Own : Option TreeId → Type 0 = λ v. IfSome v (λ (id : TreeId). id.0 < count) in
    reversed-all Own (values_of (take n stack)) (subst (All Own) (take-map (λ (entry : Entry). entry.value) n stack) (All-take Own n (values_of stack) own.each))

pub branches-Keeps : (old new : Sets) (lines : List Line) → Keeps old new → OwnsBranches old lines → OwnsBranches new lines
branches-Keeps old new lines keeps own = record { each = λ i line at k d below. keeps.own _ (own.each i line at k d below) }
