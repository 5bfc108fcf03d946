-- A shift is the step of LR parsing at each configuration.
use Rattle.std.proofs.Common.{◌≡◌, ℕ, ◌<◌, ◌≤◌, ◌+◌, ◌==◌, Bool, true, false, is_some, List, [], ◌∷◌, length, map, reverse, slice_get, option_map, Option, Some, None, Err, Ok, refl, sym, ap, ◌∙◌, subst, All, arith, if◌then◌else◌}
use Rattle.std.specs.Option.{IfSome}
use Rattle.std.proofs.lemmas.Bool.{lt-ltb}
use Rattle.std.proofs.lemmas.List.{length-map}
use Rattle.std.proofs.lemmas.List.Elements.{All-cons, All-weaker}
use Rattle.std.proofs.lemmas.Option.{slice_get_within, IfSome_then}
use Rattle.c11_parsing.specs.Classes.{Input, left_from}
use Rattle.c11_parsing.specs.Core as core
use Rattle.c11_parsing.specs.Core.{between, at, named, frames, run_of, index_of, plain_phase, terminal_at, action_at, after_shift, Piece, going, over, point_of, IsStepped, Makes, shifts}
use Rattle.c11_parsing.specs.LR.{Run, on, answered, step, shifted, acted, whole_tree, trees_of}
use Rattle.c11_parsing.specs.Trees as plain
use Rattle.c11_parsing.specs.Trees.{Tree, no_trees}
use Rattle.lr_tables.specs.declared.grammar.Action.{Action}
use Rattle.lr_tables.specs.declared.grammar.Action.TheVariants.{Shift, Reduce}
use Rattle.lr_tables.specs.declared.grammar.Grammar.{Grammar}
use Rattle.lr_tables.specs.declared.grammar.Terminal.{Terminal}
use Rattle.lr_tables.specs.Paths.{Path, top, above}
use Rattle.lr_tables.specs.Tables as tables
use Rattle.lr_tables.specs.Tables.{IsGoto, IsAction}
use Rattle.sc_base.specs.declared.id.Cond.{Cond}
use Rattle.sc_base.specs.declared.id.TreeId.{TreeId}
use Rattle.sc_base.specs.declared.place.Place as declared
use Rattle.sc_base.specs.declared.token.Token as base
use Rattle.sc_base.specs.Seen.{text_at, seen as seen_token, seen_place}
use Rattle.sc_fork.proofs.TerminalLemmas.{IsTokens, terminal-tokens}
use Rattle.sc_fork.proofs.StepLemmas.{drop-at, next_of, listed, listed-inside, slice_get-past-end, looking_run, action-same, same-length, name-is, terminal-same, left-end, no-terminal, step-acted, refused-point, element-left, keeps-element, token-at, refused-seen}
use Rattle.sc_fork.proofs.ValueLemmas.{trees_among, All-reverse, among-All, stack-read}
use Rattle.sc_fork.specs.declared.piece.Piece as kept
use Rattle.sc_fork.specs.declared.piece.Piece.TheVariants.{Going, Over}
use Rattle.sc_fork.specs.declared.source.Source.{Source}
use Rattle.sc_fork.specs.Owns.{HasC11Tables, IsSource, IsWithin, OwnsRow, has_tree}
use Rattle.sc_fork.specs.Seen.{terminal_in, action_by, action_in, IsInput, IsNext, next_unknown, IsSeen, IsSeenAt, is_tree, IsOver, IsSeenPiece, going_seen, over_seen, none_seen, more_seen, Events, place_in, shift_in}
use Rattle.sc_fork.specs.Shifts.{IsShifted, IsAccepted, whole_production}
use Rattle.sc_kinds.specs.Kinds.{terminal_of}
use Rattle.sc_lalr.specs.Tables.{action_of, tables_of}
use Rattle.sc_merge.specs.declared.subparser.Phase.TheVariants.{Between, At, Named}
use Rattle.sc_merge.specs.declared.subparser.Subparser.{Subparser}
use Rattle.sc_merge.specs.Merges.{OwnsValues, OwnsSubparser, tables_with}
use Rattle.sc_model.specs.Growth.{Extends}
use Rattle.sc_model.specs.Sets.{Sets, IsCond, IsConfig}
use Rattle.sc_scope.specs.Search.{OwnsLevels}
use Rattle.sc_stack.specs.Entries.{Entry, state_of, states_of, values_of}
use Rattle.sc_tree.specs.Lines.{Line, node}
use Rattle.sc_base.proofs.Growth.{Extends-refl}
use Rattle.sc_fork.specs.declared.piece.Answer.TheVariants.{Root, Refused}
use Rattle.sc_fork.specs.declared.piece.Ended.{Ended}
use Rattle.sc_merge.proofs.ShowLemmas.{ShowsAt-Grows}
use Rattle.sc_merge.specs.Phases.{phase_of}
use Rattle.sc_merge.specs.Shows.{tree_reads, ValuesRead, no_values, more_values, ShowsAt}
use Rattle.sc_model.proofs.SetLemmas.{Keeps-refl}
use Rattle.sc_model.specs.declared.cause.Cause.{Cause}
use Rattle.sc_model.specs.declared.cause.Cause.TheVariants.{BadToken, Syntax}
use Rattle.sc_model.specs.Fault.{fault_at}
use Rattle.sc_model.specs.Token.{Token}
use Rattle.sc_scope.specs.Shows.{Shows}
use Rattle.sc_tree.specs.Reads.{Tables, Grows, IsTokenAt, Reads, leaf_reads, node_reads, none_read}

-- ---- what is owned

pub own-children : (count : ℕ) (stack : List Entry) (values : List (Option TreeId)) (children : List TreeId) → OwnsValues count (values_of stack)
    → values ≡ reverse (values_of stack) → children ≡ trees_among values → All (λ (id : TreeId). id.0 < count) children
own-children count stack values children own order present =
    subst (λ ids. All (λ (id : TreeId). id.0 < count) ids) (sym (present ∙ ap trees_among order))
    (among-All (λ (id : TreeId). id.0 < count) (reverse (values_of stack))
    (All-reverse (λ (value : Option TreeId). IfSome value (λ (id : TreeId). id.0 < count)) (values_of stack) own.each))

-- the terminal of an element is a token's
element-tokens : (source : Source) (j x : ℕ) → IsSource source → j < length source.list.now → terminal_in source j ≡ Some x → IsTokens x
element-tokens source j x is within some = by (slice_get source.list.now j) refl
  where
    f : Cond × base.Token → Option ℕ
    f item = terminal_of is.standard item.1.kind (text_at is.names item.1.spelling.0)

    same-length : length source.terminals.items ≡ length source.list.now
    same-length =
        sym (length-map source.terminals.items (option_map (λ (t : Terminal). t.0))) ∙ ap length is.terminals ∙ length-map source.list.now f

    first : listed source.terminals.items j ≡ Some x
    first = sym (ap (λ b. if b then listed source.terminals.items j else Some 95) (lt-ltb j (length source.terminals.items) (omega (arith, within, same-length)))) ∙ some

    by : (found : Option (Cond × base.Token)) → slice_get source.list.now j ≡ found → IsTokens x
    by None none = absurd (omega (arith, within, slice_get-past-end source.list.now j none))
    by (Some item) found =
        terminal-tokens is.standard item.1.kind (text_at is.names item.1.spelling.0) x
        (sym (ap (next_of None f) (drop-at source.list.now j item found))
        ∙ listed-inside None f source.terminals.items source.list.now j is.terminals (omega (arith, within, same-length)) ∙ first)

-- a shift goes to the goto
goto-of-shift : (g : Grammar) (t : tables.Tables) (s x r : ℕ) → tables.AreTables g t → x < g.terminals → t.action s x ≡ Some (Shift r) → IsGoto g t.states s x r
goto-of-shift g t s x r are within is = by (t.action s x) (are.action s x within) is
  where
    by : (a : Option Action) → IsAction g t.states s x a → a ≡ Some (Shift r) → IsGoto g t.states s x r
    by _ (tables.shifts q leads) e = let same : q ≡ r = cc in subst (IsGoto g t.states s x) same leads
    by _ (tables.reduces p none can least) e = absurd (cc)
    by _ (tables.none no_goto no_reduction) e = absurd (cc)

top-states : (stack : List Entry) → top (states_of stack) ≡ state_of stack
top-states [] = refl
top-states (entry ∷ stack) = refl

OwnsValues-grow : (old new : ℕ) (values : List (Option TreeId)) → old ≤ new → OwnsValues old values → OwnsValues new values
OwnsValues-grow old new values longer own = record {
  each = All-weaker (λ (value : Option TreeId). IfSome value (λ (id : TreeId). id.0 < old)) (λ (value : Option TreeId). IfSome value (λ (id : TreeId). id.0 < new))
      (λ value own_one. IfSome_then value own_one (λ id below. omega (arith, longer, below))) values own.each;
}

module _ (sets : Sets) (old new : List Line) (grows : Extends old new) (parent s : Subparser) (item : Cond × base.Token) (j x state : ℕ) (is : IsShifted new item j x state parent s) where
  entry : Entry
  entry = record { state = state; value = Some is.id }

  pub shifted-owns : OwnsSubparser sets (length old) parent → OwnsSubparser sets (length new) s
  unfolding entry
  shifted-owns own = record {
    cond = subst (λ (k : Cond). IsCond sets k.0) (sym is.cond) own.cond;
    values = subst (λ (es : List Entry). OwnsValues (length new) (values_of es)) (sym is.stack) values;
    levels = subst (λ ls. OwnsLevels sets ls) (sym is.levels) own.levels;
  }
    where
      rest : OwnsValues (length new) (values_of parent.stack)
      rest = OwnsValues-grow (length old) (length new) (values_of parent.stack) grows.longer own.values

      values : OwnsValues (length new) (values_of (entry ∷ parent.stack))
      values = record {
        each = All-cons (λ (value : Option TreeId). IfSome value (λ (id : TreeId). id.0 < length new)) (Some is.id) (values_of parent.stack)
            (slice_get_within new is.id.0 _ is.tree) rest.each;
      }

  pub shifted-row : (source : Source) → IsSource source → j < length source.list.now → terminal_in source j ≡ Some x
      → action_in source parent j ≡ Some (Shift state) → OwnsRow sets (length old) source parent → OwnsRow sets (length new) source s
  shifted-row source sound within some action own = record {
    owns = shifted-owns own.owns;
    within = subst (IsWithin (length source.list.now)) (sym is.phase) (phase-within (x == 0));
    path = λ c11. record {
      symbols = x ∷ (own.path c11).symbols;
      path = subst (λ (es : List Entry). Path c11.are.grammar c11.states (states_of es) (x ∷ (own.path c11).symbols)) (sym is.stack)
          (above state x (states_of parent.stack) (own.path c11).symbols (goto c11) (own.path c11).path);
      trees = subst (λ (es : List Entry). map is_some (values_of es) ≡ map has_tree (x ∷ (own.path c11).symbols)) (sym is.stack)
          (ap (λ b. b ∷ map is_some (values_of parent.stack)) (sym tokens.tree) ∙ ap (λ bs. has_tree x ∷ bs) (own.path c11).trees);
    };
  }
    where
      tokens : IsTokens x
      tokens = element-tokens source j x sound within some

      phase-within : (b : Bool) → IsWithin (length source.list.now) (if b then Named j else Between (j + 1))
      phase-within true = within
      phase-within false = omega (arith, within)

      goto : (c11 : HasC11Tables source.tables.now) → IsGoto c11.are.grammar c11.states (top (states_of parent.stack)) x state
      goto c11 =
          subst (λ n. IsGoto c11.are.grammar c11.states n x state) (sym (top-states parent.stack))
          (goto-of-shift c11.are.grammar (tables_of c11.states source.tables.now) (state_of parent.stack) x state c11.are.exact
          (let w = tokens.within in omega (arith, w, c11.are.terminals)) (sym (ap (action_by source.tables.now (state_of parent.stack)) some) ∙ action))

-- ---- the action

shift-inverse : (action : Option Action) (state : ℕ) → shift_in action ≡ Some state → action ≡ Some (Shift state)
shift-inverse None state is = absurd (cc)
shift-inverse (Some (Shift other)) state is = let same : other ≡ state = cc in ap (λ n. Some (Shift n)) same
shift-inverse (Some (Reduce p)) state is = absurd (cc)

pub shift-found : (source : Source) (s : Subparser) (j x : ℕ) (found : Option ℕ) (state : ℕ) → terminal_in source j ≡ Some x
    → found ≡ shift_in (action_of source.tables.now (state_of s.stack) x) → found ≡ Some state → action_in source s j ≡ Some (Shift state)
shift-found source s j x found state some is goes =
    ap (action_by source.tables.now (state_of s.stack)) some ∙ shift-inverse (action_of source.tables.now (state_of s.stack) x) state (sym is ∙ goes)

pub shift-missing : (source : Source) (s : Subparser) (j x : ℕ) (found : Option ℕ) → terminal_in source j ≡ Some x
    → found ≡ shift_in (action_of source.tables.now (state_of s.stack) x) → found ≡ None → (state : ℕ) → action_in source s j ≡ Some (Shift state) → ⊥
shift-missing source s j x found some is goes state shift =
    let action : action_of source.tables.now (state_of s.stack) x ≡ Some (Shift state) = sym (ap (action_by source.tables.now (state_of s.stack)) some) ∙ shift in
    let both : None ≡ Some state = sym goes ∙ is ∙ ap shift_in action in cc

-- ---- the step

not-acted : (a : Option Action) → ((state : ℕ) → a ≡ Some (Shift state) → ⊥) → ((p : ℕ) → a ≡ Some (Reduce p) → ⊥) → a ≡ None
not-acted None shift reduce = refl
not-acted (Some (Shift state)) shift reduce = absurd (shift state refl)
not-acted (Some (Reduce p)) shift reduce = absurd (reduce p refl)

whole-reads : (w : Tables) (c : List ℕ) (stack : List Entry) (trees : List (Option Tree)) (id : ℕ)
    → slice_get w.lines id ≡ Some (node (whole_production stack) (trees_among (reverse (values_of stack)))) → ValuesRead w c (values_of stack) trees
    → Reads w c id (whole_tree (frames (states_of stack) trees))
whole-reads w c [] _ id is no_values = node_reads id 2 [] no_trees is none_read
whole-reads w c (entry ∷ stack) _ id is (more_values value values tree trees first rest) =
    node_reads id 1 (trees_among (reverse (values_of (entry ∷ stack)))) (trees_of (frames (states_of (entry ∷ stack)) (tree ∷ trees)) no_trees) is
    (stack-read w c (entry ∷ stack) (tree ∷ trees) (more_values value values tree trees first rest))

module _ (sets : Sets) (old new : List Line) (grows : Extends old new) (source : Source) (parent : Subparser) (j : ℕ) (phase : parent.phase ≡ At j)
    (no_reduction : (p : ℕ) → action_in source parent j ≡ Some (Reduce p) → ⊥) where
  -- what is owed of the one piece
  abbrev Steps : kept.Piece → Type 0
  Steps piece =
      (names files : List (List ℕ)) (input : Input) (t : core.Subparser) → IsInput (tables_with sets old names files) source input
      → IsSeen (tables_with sets old names files) input parent t
      → (q : Piece) × (IsStepped input t (after_shift input j (terminal_at input j)) t.condition q × IsSeenPiece (tables_with sets new names files) input piece q)

  events-of : (piece : kept.Piece) → Steps piece → Events sets sets old new source parent core.shift (piece ∷ [])
  events-of piece steps = λ names files input t is seen.
      let one = steps names files input t is seen in
      let no_reduction_seen : (p : ℕ) → action_at input t j ≡ Some (Reduce p) → ⊥ =
      λ p e. no_reduction p (sym (action-same (tables_with sets old names files) source input is parent t j seen.states) ∙ e) in
      (one.0 ∷ [], (shifts j one.0 (seen.phase ∙ ap phase_of phase) no_reduction_seen one.1.0, more_seen piece one.0 [] [] one.1.1 none_seen))

  next-of : (w : Tables) (input : Input) (t : core.Subparser) (c : List ℕ) → IsSeen w input parent t → IsConfig input.arities c → t.condition c ≡ true → IsNext input c (at j)
  next-of w input t c seen config holds = subst (IsNext input c) (seen.phase ∙ ap phase_of phase) (seen.each c config holds).next

  -- ---- a refusal

  refused-steps : (cause : Cause)
      → ((names files : List (List ℕ)) (input : Input) (t : core.Subparser) (c : List ℕ) → IsInput (tables_with sets old names files) source input
      → IsSeen (tables_with sets old names files) input parent t → IsNext input c (at j)
      → step input.parser input.end (run_of input t c) ≡ answered (Err (fault_at cause (seen_place files (place_in source j)))))
      → Steps (Over (record { cond = parent.cond; answer = Refused cause (place_in source j) }))
  refused-steps cause stepped names files input t is seen =
      let w = tables_with sets old names files in
      let f : core.Ended = record { condition = t.condition; answer = λ c. Err (fault_at cause (seen_place files (place_in source j))) } in (
        over f,
        (
          record { possible = seen.possible; has = λ c config. refl; in_phase = tt; stepped = λ c config holds. stepped names files input t c is seen (next-of w input t c seen config holds) },
          over_seen (record { cond = parent.cond; answer = Refused cause (place_in source j) }) f
              (refused-seen (tables_with sets new names files) input parent.cond t.condition cause (place_in source j) seen.owns.cond seen.has seen.possible),
        ),
      )

  refused-at : (cause : Cause) (place : declared.Place) (piece : kept.Piece) → piece ≡ Over (record { cond = parent.cond; answer = Refused cause place }) → place ≡ place_in source j
      → Over (record { cond = parent.cond; answer = Refused cause (place_in source j) }) ≡ piece
  refused-at cause place piece is here = sym (is ∙ ap (λ p. Over (record { cond = parent.cond; answer = Refused cause p })) here)

  pub bad-token-events : (piece : kept.Piece) (place : declared.Place) → piece ≡ Over (record { cond = parent.cond; answer = Refused BadToken place }) → place ≡ place_in source j
      → terminal_in source j ≡ None → Events sets sets old new source parent core.shift (piece ∷ [])
  bad-token-events piece place is here none =
      events-of piece
      (subst Steps (refused-at BadToken place piece is here)
      (refused-steps BadToken
      (λ names files input t c given seen next. no-terminal (tables_with sets old names files) source input given t j c (seen.phase ∙ ap phase_of phase) next none)))

  pub syntax-events : (piece : kept.Piece) (place : declared.Place) (x : ℕ) → piece ≡ Over (record { cond = parent.cond; answer = Refused Syntax place })
      → place ≡ place_in source j → terminal_in source j ≡ Some x → ((state : ℕ) → action_in source parent j ≡ Some (Shift state) → ⊥) → Events sets sets old new source parent core.shift (piece ∷ [])
  syntax-events piece place x is here some no_shift =
      events-of piece
      (subst Steps (refused-at Syntax place piece is here)
      (refused-steps Syntax
      (λ names files input t c given seen next.
      let w = tables_with sets old names files in
      step-acted w source input given parent t j x c (seen.phase ∙ ap phase_of phase) seen.states next some
      ∙ ap (acted input.parser input.end (looking_run input t j c) x) (not-acted (action_in source parent j) no_shift no_reduction)
      ∙ refused-point w source input given c j Syntax next)))

  grown : (names files : List (List ℕ)) → Grows (tables_with sets old names files) (tables_with sets new names files)
  grown names files = record { sets = Keeps-refl sets; names = Extends-refl names; files = Extends-refl files; lines = grows }

  shows-of : (names files : List (List ℕ)) (input : Input) (t : core.Subparser) (c : List ℕ) → IsInput (tables_with sets old names files) source input
      → IsSeen (tables_with sets old names files) input parent t → IsConfig input.arities c → t.condition c ≡ true
      → ShowsAt (tables_with sets new names files) parent c (t.trees c) (t.levels c)
  shows-of names files input t c is seen config holds =
      ShowsAt-Grows (tables_with sets old names files) (tables_with sets new names files) c (grown names files) (subst (λ ns. IsConfig ns c) is.arities config)
      parent (t.trees c) (t.levels c) refl seen.owns.levels (seen.each c config holds).shows

  -- ---- the whole text

  pub accepted-events : (e : Ended) (x state : ℕ) → IsAccepted new parent e → j ≡ length source.list.now → terminal_in source j ≡ Some x
      → action_in source parent j ≡ Some (Shift state) → Events sets sets old new source parent core.shift (Over e ∷ [])
  accepted-events e x state is end some action = events-of (Over e) steps
    where
      steps : Steps (Over e)
      steps names files input t given seen = (
        over f,
        (record { possible = seen.possible; has = λ c config. refl; in_phase = tt; stepped = stepped }, over_seen e f (subst (λ k. IsOver v input k f) (sym is.is) ended)),
      )
        where
          w : Tables
          w = tables_with sets old names files

          v : Tables
          v = tables_with sets new names files

          f : core.Ended
          f = record { condition = t.condition; answer = λ c. Ok (whole_tree (frames t.states (t.trees c))) }

          nothing_left : (c : List ℕ) → left_from input j c ≡ []
          nothing_left c = ap (λ n. left_from input n c) (end ∙ sym (same-length w source input given)) ∙ left-end input c

          stepped : (c : List ℕ) → IsConfig input.arities c → t.condition c ≡ true → step input.parser input.end (run_of input t c) ≡ answered (Ok (whole_tree (frames t.states (t.trees c))))
          stepped c config holds =
              step-acted w source input given parent t j x c (seen.phase ∙ ap phase_of phase) seen.states (next-of w input t c seen config holds) some
              ∙ ap (acted input.parser input.end (looking_run input t j c) x) action
              ∙ ap (shifted input.parser (looking_run input t j c) state x) (nothing_left c)

          ended : IsOver v input (record { cond = parent.cond; answer = Root is.id }) f
          ended = record {
            own = seen.owns.cond;
            has = seen.has;
            possible = seen.possible;
            each = λ c config holds. is_tree is.id (whole_tree (frames t.states (t.trees c)))
                (subst (λ states. Reads v c is.id.0 (whole_tree (frames states (t.trees c)))) (sym seen.states)
                (whole-reads v c parent.stack (t.trees c) is.id.0 is.tree (shows-of names files input t c given seen config holds).values));
          }

  -- ---- a token

  module _ (s : Subparser) (item : Cond × base.Token) (x state : ℕ) (is : IsShifted new item j x state parent s) (found : slice_get source.list.now j ≡ Some item)
      (some : terminal_in source j ≡ Some x) (action : action_in source parent j ≡ Some (Shift state)) where
    abbrev shifted_phase : Bool → core.Phase
    shifted_phase b = if b then named j else between (j + 1)

    abbrev shown : Token → Bool → core.Subparser → core.Subparser
    shown token b t = record {
      condition = t.condition;
      phase = shifted_phase b;
      states = state ∷ t.states;
      trees = λ c. Some (plain.leaf token) ∷ t.trees c;
      levels = t.levels;
    }

    abbrev run_with : Input → Token → core.Subparser → List ℕ → core.Phase → Run
    run_with input token t c p = record {
      stack = record { state = state; tree = Some (plain.leaf token) } ∷ frames t.states (t.trees c);
      levels = t.levels c;
      left = left_from input (index_of p) c;
      phase = plain_phase p;
    }

    -- the point after the step
    shifted-point : (input : Input) (token : Token) (t : core.Subparser) (c : List ℕ) (b : Bool)
        → (if b then run_with input token t c (named j) else run_with input token t c (between (j + 1))) ≡ run_of input (shown token b t) c
    shifted-point input token t c true = refl
    shifted-point input token t c false = refl

    next-after : (input : Input) (c : List ℕ) (b : Bool) → j < length input.items → IsNext input c (at j) → IsNext input c (shifted_phase b)
    next-after input c true within next = keeps-element input c j within next
    next-after input c false within next = next_unknown (j + 1)

    phase-after : (b : Bool) → shifted_phase b ≡ phase_of (if b then Named j else Between (j + 1))
    phase-after true = refl
    phase-after false = refl

    pub shifted-events : Events sets sets old new source parent core.shift (Going s ∷ [])
    shifted-events = events-of (Going s) steps
      where
        steps : Steps (Going s)
        steps names files input t given seen = (
          going u,
          (record { possible = seen.possible; has = λ c config. refl; in_phase = sym (ap (after_shift input j) terminal); stepped = stepped }, going_seen s u seen_after),
        )
          where
            w : Tables
            w = tables_with sets old names files

            v : Tables
            v = tables_with sets new names files

            token : Token
            token = seen_token names files item.1

            terminal : terminal_at input j ≡ Some x
            terminal = terminal-same w source input given j ∙ some

            u : core.Subparser
            u = shown token (x == input.parser.name) t

            stepped : (c : List ℕ) → IsConfig input.arities c → t.condition c ≡ true → step input.parser input.end (run_of input t c) ≡ on (run_of input u c)
            stepped c config holds =
                let next = next-of w input t c seen config holds in
                step-acted w source input given parent t j x c (seen.phase ∙ ap phase_of phase) seen.states next some
                ∙ ap (acted input.parser input.end (looking_run input t j c) x) action
                ∙ ap (shifted input.parser (looking_run input t j c) state x) (element-left w source input given c j item next found)
                ∙ ap on (shifted-point input token t c (x == input.parser.name))

            read : IsTokenAt w item.1.place item.1.spelling token
            read = token-at w source input given j item found

            within : j < length input.items
            within = omega (arith, slice_get_within source.list.now j item found, same-length w source input given)

            each : (c : List ℕ) → IsConfig input.arities c → t.condition c ≡ true → IsSeenAt v input s u c
            each c config holds =
                let before = shows-of names files input t c given seen config holds in
                let leaf_read : Reads v c is.id.0 (plain.leaf token) =
                leaf_reads is.id.0 item.1.place item.1.spelling token is.tree (record { spelling = read.spelling; file = read.file; position = read.position }) in
                record {
                  shows = record {
                    values = subst (λ (es : List Entry). ValuesRead v c (values_of es) (Some (plain.leaf token) ∷ t.trees c)) (sym is.stack)
                        (more_values (Some is.id) (values_of parent.stack) (Some (plain.leaf token)) (t.trees c) (tree_reads is.id (plain.leaf token) leaf_read) before.values);
                    scopes = subst (λ ls. Shows sets names c ls (t.levels c)) (sym is.levels) before.scopes;
                  };
                  next = next-after input c (x == input.parser.name) within (next-of w input t c seen config holds);
                }

            seen_after : IsSeen v input s u
            seen_after = record {
              owns = shifted-owns sets old new grows parent s item j x state is seen.owns;
              has = λ c config. seen.has c config ∙ ap (λ (k : Cond). sets.has k.0 c) (sym is.cond);
              possible = seen.possible;
              phase = ap (λ n. shifted_phase (x == n)) (name-is w source input given) ∙ phase-after (x == 0) ∙ ap phase_of (sym is.phase);
              states = ap (λ states. state ∷ states) seen.states ∙ ap states_of (sym is.stack);
              each = each;
            }
