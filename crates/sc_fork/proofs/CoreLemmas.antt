-- What an event does to a core is the step of a core.
use Rattle.std.proofs.Common.{◌≡◌, ℕ, zero, suc, ◌+◌, ◌-◌, ◌<◌, ◌≤◌, ◌||◌, Bool, true, false, List, [], ◌∷◌, ◌++◌, All, length, map, slice_get, Option, Some, None, refl, sym, ap, ◌∙◌, subst, arith, length-append, if◌then◌else◌}
use Rattle.std.specs.Prelude.{slice_set}
use Rattle.std.specs.List.{range_with_len}
use Rattle.std.proofs.lemmas.Bool.{true≢false}
use Rattle.std.proofs.lemmas.List.Elements.{All-head}
use Rattle.c11_parsing.specs.Bindings as bindings
use Rattle.c11_parsing.specs.Classes.{Input}
use Rattle.c11_parsing.specs.Core as core
use Rattle.c11_parsing.specs.Core.{CoreStep, alone, merged, Has, IsPossible, Makes, going_in, over_in, filled, count, condition_of, over, Stands, SameDepth, with_pieces}
use Rattle.sc_fork.proofs.GrowLemmas.{IsInput-Grows, rows-Grow, over-Grow}
use Rattle.sc_fork.proofs.ReplaceLemmas.{length-without}
use Rattle.sc_fork.specs.declared.enabled.Enabled.{Enabled}
use Rattle.sc_fork.specs.declared.event.Event.{Event}
use Rattle.sc_fork.specs.declared.event.Event.TheVariants as event
use Rattle.sc_fork.specs.View.{View}
use Rattle.sc_fork.specs.declared.piece.Ended.{Ended}
use Rattle.sc_fork.specs.declared.piece.Piece as kept
use Rattle.sc_fork.specs.declared.piece.Piece.TheVariants.{Going}
use Rattle.sc_fork.specs.Cores.{AreRows, no_rows, empty_row, full_row, AreOver, none_over, more_over, IsCore, IsApplied, event_of}
use Rattle.sc_fork.specs.Enabled.{IsEnabled, can_split, can_reduce, can_shift, can_classify, can_merge}
use Rattle.sc_fork.specs.Owns.{OwnsPiece}
use Rattle.sc_fork.specs.Pieces.{AreMade, Becomes, IsMerged, going_of, over_of, numbers_of, without}
use Rattle.sc_fork.specs.Seen.{AreSeen, none_seen, more_seen, going_seen, over_seen, Events, IsInput, IsNext, IsSeen}
use Rattle.sc_merge.specs.declared.subparser.Subparser.{Subparser}
use Rattle.sc_merge.specs.Keys.{AreAlike}
use Rattle.sc_merge.specs.Merges.{OwnsSubparser, tables_with}
use Rattle.sc_merge.specs.Phases.{phase_of}
use Rattle.sc_merge.specs.Shows.{ShowsAt}
use Rattle.sc_model.specs.Growth.{Extends}
use Rattle.sc_model.specs.Sets.{Sets, IsConfig, Denotes, Keeps}
use Rattle.sc_model.proofs.SetLemmas.{Denotes-self}
use Rattle.sc_scope.specs.Levels.{Level}
use Rattle.sc_scope.specs.Seen.{levels_in}
use Rattle.sc_scope.specs.Shows.{Shows, none_shown, more_shown}
use Rattle.sc_tree.specs.Lines.{Line}
use Rattle.sc_tree.specs.Reads.{Tables}

-- ---- rows

module _ (w : Tables) (input : Input) where
  pub rows-append : (xs ys : List (Option Subparser)) (bs cs : List (Option core.Subparser)) → AreRows w input xs bs → AreRows w input ys cs → AreRows w input (xs ++ ys) (bs ++ cs)
  rows-append _ ys _ cs no_rows more = more
  rows-append _ ys _ cs (empty_row rows others rest) more = empty_row (rows ++ ys) (others ++ cs) (rows-append rows ys others cs rest more)
  rows-append _ ys _ cs (full_row s t rows others seen rest) more = full_row s t (rows ++ ys) (others ++ cs) seen (rows-append rows ys others cs rest more)

  pub over-append : (xs ys : List Ended) (bs cs : List core.Ended) → AreOver w input xs bs → AreOver w input ys cs → AreOver w input (xs ++ ys) (bs ++ cs)
  over-append _ ys _ cs none_over more = more
  over-append _ ys _ cs (more_over e f es fs seen rest) more = more_over e f (es ++ ys) (fs ++ cs) seen (over-append es ys fs cs rest more)

  pub rows-without : (rows : List (Option Subparser)) (others : List (Option core.Subparser)) (n : ℕ) → AreRows w input rows others → AreRows w input (slice_set rows n None) (slice_set others n None)
  rows-without _ _ n no_rows = no_rows
  rows-without _ _ zero (empty_row rows others rest) = empty_row rows others rest
  rows-without _ _ (suc n) (empty_row rows others rest) = empty_row (slice_set rows n None) (slice_set others n None) (rows-without rows others n rest)
  rows-without _ _ zero (full_row s t rows others seen rest) = empty_row rows others rest
  rows-without _ _ (suc n) (full_row s t rows others seen rest) = full_row s t (slice_set rows n None) (slice_set others n None) seen (rows-without rows others n rest)

  pub rows-going : (ps : List kept.Piece) (qs : List core.Piece) → AreSeen w input ps qs → AreRows w input (going_of ps) (going_in qs)
  rows-going _ _ none_seen = no_rows
  rows-going _ _ (more_seen _ _ ps qs (going_seen s t seen) rest) = full_row s t (going_of ps) (going_in qs) seen (rows-going ps qs rest)
  rows-going _ _ (more_seen _ _ ps qs (over_seen e f seen) rest) = rows-going ps qs rest

  pub over-over : (ps : List kept.Piece) (qs : List core.Piece) → AreSeen w input ps qs → AreOver w input (over_of ps) (over_in qs)
  over-over _ _ none_seen = none_over
  over-over _ _ (more_seen _ _ ps qs (going_seen s t seen) rest) = over-over ps qs rest
  over-over _ _ (more_seen _ _ ps qs (over_seen e f seen) rest) = more_over e f (over_of ps) (over_in qs) seen (over-over ps qs rest)

  -- the subparser of a number, as it is seen
  pub record IsSeenRow (others : List (Option core.Subparser)) (n : ℕ) (s : Subparser) : Type 0 where
    pub other : core.Subparser
    pub at : slice_get others n ≡ Some (Some other)
    pub seen : IsSeen w input s other

  pub row-seen : (rows : List (Option Subparser)) (others : List (Option core.Subparser)) (n : ℕ) (s : Subparser) → AreRows w input rows others → slice_get rows n ≡ Some (Some s)
      → IsSeenRow others n s
  row-seen _ _ n s no_rows at = absurd (cc)
  row-seen _ _ zero s (empty_row rows others rest) at = absurd (cc)
  row-seen _ _ (suc n) s (empty_row rows others rest) at =
      let found = row-seen rows others n s rest at in
      record { other = found.other; at = found.at; seen = found.seen }
  row-seen _ _ zero s (full_row r t rows others seen rest) at =
      let same : r ≡ s = cc in
      record { other = t; at = refl; seen = subst (λ x. IsSeen w input x t) same seen }
  row-seen _ _ (suc n) s (full_row r t rows others seen rest) at =
      let found = row-seen rows others n s rest at in
      record { other = found.other; at = found.at; seen = found.seen }

-- ---- the step

module _ (old new : Sets) (lines added : List Line) (names files : List (List ℕ)) (input : Input) where
  -- a core is seen as before in stores that have grown
  pub IsCore-Grows : (c : View) (seen : core.Core) → Keeps old new → Extends lines added → IsCore (tables_with old lines names files) input c seen → IsCore (tables_with new added names files) input c seen
  IsCore-Grows c seen keeps longer is = record {
    source = IsInput-Grows names files c.source input keeps is.source;
    rows = rows-Grow keeps longer names files input is.source.arities c.subparsers seen.rows is.rows;
    ended = over-Grow keeps longer names files input is.source.arities c.ended seen.ended is.ended;
  }

  -- the core after an event that leaves these numbers and has these pieces
  pub seen-after : (before after : View) (e : Event) (seen : core.Core) (gone : List (Option core.Subparser)) (pieces : List kept.Piece) (qs : List core.Piece) (made : List ℕ)
      → Keeps old new → Extends lines added → IsCore (tables_with old lines names files) input before seen → after.source ≡ before.source → Becomes before e pieces after made
      → AreRows (tables_with new added names files) input (without (numbers_of e) before.subparsers) gone → AreSeen (tables_with new added names files) input pieces qs
      → IsCore (tables_with new added names files) input after (record { rows = gone ++ going_in qs; ended = seen.ended ++ over_in qs })
  seen-after before after e seen gone pieces qs made keeps longer is source becomes rows pieces_seen =
      let v = tables_with new added names files in
      let grown = IsCore-Grows before seen keeps longer is in
      record {
        source = subst (λ s. IsInput v s input) (sym source) grown.source;
        rows = subst (λ rs. AreRows v input rs (gone ++ going_in qs)) (sym becomes.rows)
            (rows-append v input (without (numbers_of e) before.subparsers) (going_of pieces) gone (going_in qs) rows (rows-going v input pieces qs pieces_seen));
        ended = subst (λ es. AreOver v input es (seen.ended ++ over_in qs)) (sym becomes.ended)
            (over-append v input before.ended (over_of pieces) seen.ended (over_in qs) grown.ended (over-over v input pieces qs pieces_seen));
      }

  numbers-are : (before after : View) (e : Event) (pieces : List kept.Piece) (made : List ℕ) → Becomes before e pieces after made
      → made ≡ range_with_len (length before.subparsers) (length after.subparsers - length before.subparsers)
  numbers-are before after e pieces made becomes =
      let all = ap length becomes.rows ∙ length-append (without (numbers_of e) before.subparsers) (going_of pieces) in
      let kept_rows = length-without (numbers_of e) before.subparsers in
      let more : length (going_of pieces) ≡ length after.subparsers - length before.subparsers = omega (arith, all, kept_rows) in
      becomes.numbers ∙ ap (range_with_len (length before.subparsers)) more

  -- an event of one subparser
  alone-applied : (before after : View) (e : Event) (event : ℕ → core.Event) (n : ℕ) (s : Subparser) (seen : core.Core) (pieces : List kept.Piece) (made : List ℕ)
      → event_of e ≡ event n → numbers_of e ≡ n ∷ [] → Keeps old new → Extends lines added → IsCore (tables_with old lines names files) input before seen
      → slice_get before.subparsers n ≡ Some (Some s) → Events old new lines added before.source s event pieces → after.source ≡ before.source → Becomes before e pieces after made
      → IsApplied (tables_with old lines names files) (tables_with new added names files) input before e after made seen
  alone-applied before after e event n s seen pieces made is_event one keeps longer is at events source becomes =
      let w = tables_with old lines names files in
      let v = tables_with new added names files in
      let row = row-seen w input before.subparsers seen.rows n s is.rows at in
      let made_of = events names files input row.other is.source row.seen in
      let qs = made_of.0 in
      let gone : AreRows v input (without (numbers_of e) before.subparsers) (slice_set seen.rows n None) =
      subst (λ ns. AreRows v input (without ns before.subparsers) (slice_set seen.rows n None)) (sym one)
      (rows-without v input before.subparsers seen.rows n (rows-Grow keeps longer names files input is.source.arities before.subparsers seen.rows is.rows))
      in
      record {
        next = record { rows = slice_set seen.rows n None ++ going_in qs; ended = seen.ended ++ over_in qs };
        step = subst (λ ev. CoreStep input seen ev (record { rows = slice_set seen.rows n None ++ going_in qs; ended = seen.ended ++ over_in qs })) (sym is_event)
            (alone event n row.other qs row.at made_of.1.0);
        seen_after = seen-after before after e seen (slice_set seen.rows n None) pieces qs made keeps longer is source becomes gone made_of.1.1;
        numbers = numbers-are before after e pieces made becomes;
      }

-- ---- no configuration has two subparsers

one-more : (b : Bool) (n : ℕ) → b ≡ true → 0 < (if b then 1 else 0) + n
one-more true n h = omega arith
one-more false n h = absurd (true≢false (sym h))

two-more : (b : Bool) (n : ℕ) → b ≡ true → 0 < n → 1 < (if b then 1 else 0) + n
two-more true n h more = omega (arith, more)
two-more false n h more = absurd (true≢false (sym h))

more-stays : (b : Bool) (k n : ℕ) → k < n → k < (if b then 1 else 0) + n
more-stays true k n more = omega (arith, more)
more-stays false k n more = omega (arith, more)

count-append : (c : List ℕ) (xs ys : List core.Piece) → count c (xs ++ ys) ≡ count c xs + count c ys
count-append c [] ys = omega arith
count-append c (p ∷ xs) ys = by (condition_of p c) (count-append c xs ys)
  where
    by : (b : Bool) → count c (xs ++ ys) ≡ count c xs + count c ys → (if b then 1 else 0) + count c (xs ++ ys) ≡ ((if b then 1 else 0) + count c xs) + count c ys
    by true e = omega (arith, e)
    by false e = omega (arith, e)

pub count-row : (c : List ℕ) (rows : List (Option core.Subparser)) (n : ℕ) (s : core.Subparser) → slice_get rows n ≡ Some (Some s) → s.condition c ≡ true → 0 < count c (filled rows)
count-row c [] n s at has = absurd (cc)
count-row c (None ∷ rows) zero s at has = absurd (cc)
count-row c (None ∷ rows) (suc n) s at has = count-row c rows n s at has
count-row c (Some t ∷ rows) zero s at has =
    let same : t ≡ s = cc in
    one-more (t.condition c) (count c (filled rows)) (ap (λ (x : core.Subparser). x.condition c) same ∙ has)
count-row c (Some t ∷ rows) (suc n) s at has = more-stays (t.condition c) 0 (count c (filled rows)) (count-row c rows n s at has)

count-two : (c : List ℕ) (rows : List (Option core.Subparser)) (n o : ℕ) (s t : core.Subparser) → (n ≡ o → ⊥) → slice_get rows n ≡ Some (Some s) → slice_get rows o ≡ Some (Some t)
    → s.condition c ≡ true → t.condition c ≡ true → 1 < count c (filled rows)
count-two c [] n o s t apart at_n at_o has_s has_t = absurd (cc)
count-two c (row ∷ rows) zero zero s t apart at_n at_o has_s has_t = absurd (apart refl)
count-two c (None ∷ rows) zero (suc o) s t apart at_n at_o has_s has_t = absurd (cc)
count-two c (None ∷ rows) (suc n) zero s t apart at_n at_o has_s has_t = absurd (cc)
count-two c (None ∷ rows) (suc n) (suc o) s t apart at_n at_o has_s has_t = count-two c rows n o s t (λ e. apart (ap suc e)) at_n at_o has_s has_t
count-two c (Some r ∷ rows) zero (suc o) s t apart at_n at_o has_s has_t =
    let same : r ≡ s = cc in
    two-more (r.condition c) (count c (filled rows)) (ap (λ (x : core.Subparser). x.condition c) same ∙ has_s) (count-row c rows o t at_o has_t)
count-two c (Some r ∷ rows) (suc n) zero s t apart at_n at_o has_s has_t =
    let same : r ≡ t = cc in
    two-more (r.condition c) (count c (filled rows)) (ap (λ (x : core.Subparser). x.condition c) same ∙ has_t) (count-row c rows n s at_n has_s)
count-two c (Some r ∷ rows) (suc n) (suc o) s t apart at_n at_o has_s has_t =
    more-stays (r.condition c) 1 (count c (filled rows)) (count-two c rows n o s t (λ e. apart (ap suc e)) at_n at_o has_s has_t)

at-most-one : (b : Bool) (n : ℕ) → n ≡ (if b then 1 else 0) → n ≤ 1
at-most-one true n e = omega (arith, e)
at-most-one false n e = omega (arith, e)

-- the second subparser lacks each configuration of the first
pub record IsApart (input : Input) (s t : core.Subparser) : Type 0 where
  pub outside : (c : List ℕ) → IsConfig input.arities c → s.condition c ≡ true → t.condition c ≡ false

pub rows-apart : (input : Input) (seen : core.Core) (n o : ℕ) (s t : core.Subparser) → Stands input seen → (n ≡ o → ⊥) → slice_get seen.rows n ≡ Some (Some s)
    → slice_get seen.rows o ≡ Some (Some t) → IsApart input s t
rows-apart input seen n o s t stands apart at_n at_o = record { outside = λ c config has. by c config has (t.condition c) refl }
  where
    by : (c : List ℕ) → IsConfig input.arities c → s.condition c ≡ true → (b : Bool) → t.condition c ≡ b → t.condition c ≡ false
    by c config has false lacks = lacks
    by c config has true also =
        let two = count-two c seen.rows n o s t apart at_n at_o has also in
        let all = count-append c (filled seen.rows) (map over seen.ended) in
        let most = at-most-one (input.live c) (count c (filled seen.rows ++ map over seen.ended)) (stands.counted c config) in
        absurd (omega (arith, two, all, most))

-- ---- a merge

pub shown-levels : (sets : Sets) (names : List (List ℕ)) (c : List ℕ) (levels : List Level) (others : List bindings.Level) → Shows sets names c levels others → length levels ≡ length others
shown-levels sets names c _ _ none_shown = refl
shown-levels sets names c _ _ (more_shown level b levels others first rest) = ap suc (shown-levels sets names c levels others rest)

-- at each configuration what the one or the other has there
abbrev pub merged_of : core.Subparser → core.Subparser → core.Subparser
merged_of s t = record {
  condition = λ c. s.condition c || t.condition c;
  phase = s.phase;
  states = s.states;
  trees = λ c. if s.condition c then s.trees c else t.trees c;
  levels = λ c. if s.condition c then s.levels c else t.levels c;
}

module _ (input : Input) (s t : core.Subparser) (apart : IsApart input s t) where
  other-lacks : (c : List ℕ) → IsConfig input.arities c → t.condition c ≡ true → s.condition c ≡ false
  other-lacks c config has = by (s.condition c) refl
    where
      by : (b : Bool) → s.condition c ≡ b → s.condition c ≡ false
      by false lacks = lacks
      by true also = absurd (true≢false (sym has ∙ apart.outside c config also))

  is-merged : core.IsMerged input s t (merged_of s t)
  is-merged = record {
    has = λ c config. refl;
    phase = refl;
    states = refl;
    first = λ c config has. (ap (λ b. if b then s.trees c else t.trees c) has, ap (λ b. if b then s.levels c else t.levels c) has);
    second = λ c config has.
        let lacks = other-lacks c config has in
        (ap (λ b. if b then s.trees c else t.trees c) lacks, ap (λ b. if b then s.levels c else t.levels c) lacks);
  }

module _ (old new : Sets) (lines added : List Line) (names files : List (List ℕ)) (input : Input) (a b m : Subparser) (s t : core.Subparser) where
  merged-seen : Keeps old new → input.arities ≡ old.arities → IsSeen (tables_with old lines names files) input a s → IsSeen (tables_with old lines names files) input b t → AreAlike a b
      → IsMerged old new lines added a b m → OwnsSubparser new (length added) m → IsApart input s t → IsSeen (tables_with new added names files) input m (merged_of s t)
  merged-seen keeps arities seen_a seen_b alike merges owns apart = record {
    owns = owns;
    has = λ c config.
        ap (λ x. x || t.condition c) (seen_a.has c config) ∙ ap (λ x. old.has a.cond.0 c || x) (seen_b.has c config) ∙ sym (either.at c (to_new c config));
    possible = record {
      config = seen_a.possible.config;
      is_config = seen_a.possible.is_config;
      has = ap (λ x. x || t.condition seen_a.possible.config) seen_a.possible.has;
    };
    phase = seen_a.phase ∙ ap phase_of (sym merges.alike.phase);
    states = seen_a.states ∙ sym merges.alike.states;
    each = λ c config has. record { shows = shown c config (s.condition c) refl has; next = next c config (s.condition c) refl has };
  }
    where
      v : Tables
      v = tables_with new added names files

      either : Denotes new m.cond.0 (λ c. old.has a.cond.0 c || old.has b.cond.0 c)
      either = merges.cond (old.has a.cond.0) (old.has b.cond.0) (Denotes-self old a.cond.0 seen_a.owns.cond) (Denotes-self old b.cond.0 seen_b.owns.cond)

      to_old : (c : List ℕ) → IsConfig input.arities c → IsConfig old.arities c
      to_old c config = subst (λ ns. IsConfig ns c) arities config

      to_new : (c : List ℕ) → IsConfig input.arities c → IsConfig new.arities c
      to_new c config = subst (λ ns. IsConfig ns c) (arities ∙ sym keeps.arities) config

      shown : (c : List ℕ) → IsConfig input.arities c → (x : Bool) → s.condition c ≡ x → (x || t.condition c) ≡ true
          → ShowsAt (tables_with new added names files) m c (if x then s.trees c else t.trees c) (if x then s.levels c else t.levels c)
      shown c config true inside has =
          merges.first.shows names files c (s.trees c) (s.levels c)
          (record { listed = to_old c config; inside = sym (seen_a.has c config) ∙ inside; outside = sym (seen_b.has c config) ∙ apart.outside c config inside })
          (seen_a.each c config inside).shows
      shown c config false outside has =
          merges.second.shows names files c (t.trees c) (t.levels c)
          (record { listed = to_old c config; inside = sym (seen_b.has c config) ∙ has; outside = sym (seen_a.has c config) ∙ outside })
          (seen_b.each c config has).shows

      next : (c : List ℕ) → IsConfig input.arities c → (x : Bool) → s.condition c ≡ x → (x || t.condition c) ≡ true → IsNext input c s.phase
      next c config true inside has = (seen_a.each c config inside).next
      next c config false outside has = subst (IsNext input c) (seen_b.phase ∙ ap phase_of alike.phase ∙ sym seen_a.phase) (seen_b.each c config has).next

module _ (old new : Sets) (lines added : List Line) (names files : List (List ℕ)) (input : Input) where
  merged-applied : (before after : View) (n o : ℕ) (a b m : Subparser) (seen : core.Core) (made : List ℕ) → Keeps old new → Extends lines added
      → IsCore (tables_with old lines names files) input before seen → Stands input seen → slice_get before.subparsers n ≡ Some (Some a) → slice_get before.subparsers o ≡ Some (Some b)
      → (n ≡ o → ⊥) → AreAlike a b → IsMerged old new lines added a b m → OwnsSubparser new (length added) m → after.source ≡ before.source
      → Becomes before (event.Merge n o) (Going m ∷ []) after made → IsApplied (tables_with old lines names files) (tables_with new added names files) input before (event.Merge n o) after made seen
  merged-applied before after n o a b m seen made keeps longer is stands at_n at_o apart alike merges owns source becomes =
      let w = tables_with old lines names files in
      let v = tables_with new added names files in
      let first = row-seen w input before.subparsers seen.rows n a is.rows at_n in
      let second = row-seen w input before.subparsers seen.rows o b is.rows at_o in
      let s = first.other in
      let t = second.other in
      let away = rows-apart input seen n o s t stands apart first.at second.at in
      let u_seen = merged-seen old new lines added names files input a b m s t keeps is.source.arities first.seen second.seen alike merges owns away in
      let rows = rows-Grow keeps longer names files input is.source.arities before.subparsers seen.rows is.rows in
      let gone = rows-without v input (slice_set before.subparsers n None) (slice_set seen.rows n None) o (rows-without v input before.subparsers seen.rows n rows) in
      let depth : SameDepth input s t = λ c d config other has_s has_t.
      sym (shown-levels old names c (levels_in a.scopes) (s.levels c) (first.seen.each c config has_s).shows.scopes) ∙ sym alike.levels
      ∙ shown-levels old names d (levels_in b.scopes) (t.levels d) (second.seen.each d other has_t).shows.scopes
      in
      record {
        next = record { rows = slice_set (slice_set seen.rows n None) o None ++ Some (merged_of s t) ∷ []; ended = seen.ended ++ [] };
        step = merged n o s t (merged_of s t) apart first.at second.at (second.seen.phase ∙ ap phase_of alike.phase ∙ sym first.seen.phase)
            (second.seen.states ∙ alike.states ∙ sym first.seen.states) depth (is-merged input s t away);
        seen_after =
            seen-after old new lines added names files input before after (event.Merge n o) seen (slice_set (slice_set seen.rows n None) o None) (Going m ∷ []) (core.going (merged_of s t) ∷ []) made
            keeps longer is source becomes gone (more_seen (Going m) (core.going (merged_of s t)) [] [] (going_seen m (merged_of s t) u_seen) none_seen);
        numbers = numbers-are old new lines added names files input before after (event.Merge n o) (Going m ∷ []) made becomes;
      }

  pub applied : (before after : View) (e : Event) (can : Enabled) (seen : core.Core) (pieces : List kept.Piece) (made : List ℕ) → Keeps old new → Extends lines added
      → IsCore (tables_with old lines names files) input before seen → Stands input seen → IsEnabled before.source before.subparsers e can
      → AreMade old new lines added before.source can pieces → All (OwnsPiece new (length added) before.source) pieces → after.source ≡ before.source → Becomes before e pieces after made
      → IsApplied (tables_with old lines names files) (tables_with new added names files) input before e after made seen
  applied before after _ _ seen pieces made keeps longer is stands (can_split n i s has phase) events own source becomes =
      alone-applied old new lines added names files input before after (event.Split n) core.split n s seen pieces made refl refl keeps longer is has events source becomes
  applied before after _ _ seen pieces made keeps longer is stands (can_reduce n j p s has phase action) events own source becomes =
      alone-applied old new lines added names files input before after (event.Reduce n) core.reduce n s seen pieces made refl refl keeps longer is has events source becomes
  applied before after _ _ seen pieces made keeps longer is stands (can_shift n j s has phase action) events own source becomes =
      alone-applied old new lines added names files input before after (event.Shift n) core.shift n s seen pieces made refl refl keeps longer is has events source becomes
  applied before after _ _ seen pieces made keeps longer is stands (can_classify n j s has phase) events own source becomes =
      alone-applied old new lines added names files input before after (event.Classify n) core.classify n s seen pieces made refl refl keeps longer is has events source becomes
  applied before after _ _ seen pieces made keeps longer is stands (can_merge n o s t has_n has_o apart alike) merges own source becomes =
      let m = merges.merged in
      let P : kept.Piece → Type 0 = OwnsPiece new (length added) before.source in
      let mine = All-head P (Going m) [] (subst (All P) merges.is own) in
      merged-applied before after n o s t m seen made keeps longer is stands has_n has_o apart alike merges.merges mine.owns source
      (subst (λ ps. Becomes before (event.Merge n o) ps after made) merges.is becomes)
