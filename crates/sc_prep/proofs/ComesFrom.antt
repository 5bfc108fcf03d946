-- That the walk of a file comes to each moment to which its machine comes.
use Rattle.std.proofs.Common.{◌≡◌, ◌<◌, ◌&&◌, ◌⊎◌, inl, inr, not, Bool, true, false, List, [], ◌∷◌, ◌++◌, map, Option, Some, None, Result, Ok, Err, append-nil, refl, sym, ap, ◌∙◌, subst, length, is_none}
use Rattle.c11_directives.specs.Lines.{Line, Group, Branches, IsTree, empty, plain, section, closing, otherwise, alternative, group_lines, branch_lines, IsGroup, AreBranches, conditional_of, nested, split_lines}
use Rattle.c11_directives.specs.Reaches as moments
use Rattle.sc_prep.proofs.Machine.{EndsAs, HaveHashes, after, and_false, alternative_unasked, follows, given, hashes-parts, inert, inert_line, inert_opens, inert_takes, lines-hashes, opens_taken, plain_takes, plain_unasked, runs-join, step_is, takes_conditional, takes_unasked, taking, untaken}
use Rattle.sc_prep.proofs.Terms.{BranchesReach, ComesAt, ComesIn, ComesOver, Conditional, Context, Decides, Endif, Fault, File, FileReaches, GroupReaches, Lexed, Lexeme, LineReaches, Machine, Moment, Place, Runs, State, Steps, Takes, Walks, acts, asks_by, at_end, at_head, branched_as, decides, does, done, file_lines, here, in_file, inside, is_newline, largest_file, later, next_branch, opened, opened_as, passed, past_all, start, taken, turned, within}
use Rattle.sc_prep.specs.Machine as machine

-- ---- at which line the machine comes to a moment

at-conditional : {x : Context} {chain : List Place} {k : Moment} {m : Machine} {l : Line} {c : Conditional} → conditional_of l ≡ Some c → ComesAt x m l chain k → asks_by m (Some c) ≡ true
at-conditional named (does acting none reaches) = let both = sym named ∙ none in cc
at-conditional {m} named (decides asks) = sym (ap (asks_by m) named) ∙ asks

-- it comes to its own moment alone
at-own : {x : Context} {chain : List Place} {k : Moment} {m : Machine} {l : Line} {c : Conditional} (P : List Place → Moment → Type 0) → conditional_of l ≡ Some c → ComesAt x m l chain k → P [] (at_head l m.state) → P chain k
at-own P named (does acting none reaches) own = let both = sym named ∙ none in cc
at-own P named (decides asks) own = own

at-plain : {x : Context} {chain : List Place} {k : Moment} {m : Machine} {l : Line} → conditional_of l ≡ None → ComesAt x m l chain k → LineReaches x l m.state chain k
at-plain none (does acting unconditional reaches) = reaches
at-plain {m} {l} none (decides asks) = let both = sym (plain_unasked m l none) ∙ asks in cc

-- the line asks nothing
at-unasked : {x : Context} {chain : List Place} {k : Moment} {m : Machine} {l : Line} {c : Conditional} → conditional_of l ≡ Some c → asks_by m (Some c) ≡ false → ComesAt x m l chain k → ⊥
at-unasked named quiet at = let both = sym quiet ∙ at-conditional named at in cc

-- nor does it do anything
at-inert : {x : Context} {chain : List Place} {k : Moment} {m : Machine} {l : Line} → acts m ≡ false → asks_by m (conditional_of l) ≡ false → ComesAt x m l chain k → ⊥
at-inert e quiet (does acting none reaches) = let both = sym e ∙ acting in cc
at-inert e quiet (decides asks) = let both = sym quiet ∙ asks in cc

module _ {x : Context} {chain : List Place} {k : Moment} where
  pub comes-none : {m : Machine} → ComesIn x chain k m [] → ⊥
  comes-none c = elim c [ ]

  -- at the first line, or at one behind it
  pub comes-more : {m : Machine} {l : Line} {ls : List Line} → ComesIn x chain k m (l ∷ ls) → ComesAt x m l chain k ⊎ ((n : Machine) × Takes x m l n × ComesIn x chain k n ls)
  comes-more (here at) = inl at
  comes-more (later {n} first rest) = inr (n, first, rest)

  pub comes-append : (xs ys : List Line) {m : Machine} → ComesIn x chain k m (xs ++ ys) → ComesIn x chain k m xs ⊎ ((n : Machine) × Runs x m xs n × ComesIn x chain k n ys)
  comes-append [] ys {m} c = inr (m, machine.no_line, c)
  comes-append (l ∷ ls) ys c = elim (comes-more c) [
    | inl at ↦ inl (here at)
    | inr next ↦ elim (comes-append ls ys next.2) [
      | inl before ↦ inl (later next.1 before)
      | inr past ↦ inr (past.0, machine.line next.1 past.1, past.2)
    ]
  ]

  -- an #endif comes to none
  comes-endif : {m : Machine} {l : Line} → conditional_of l ≡ Some Endif → ComesIn x chain k m (l ∷ []) → ⊥
  comes-endif named c = elim (comes-more c) [ inl at ↦ at-unasked named refl at | inr next ↦ comes-none next.2 ]

  comes-before : (g : Group) (l : Line) {m : Machine} → conditional_of l ≡ Some Endif → ComesIn x chain k m (group_lines g ++ l ∷ []) → ComesIn x chain k m (group_lines g)
  comes-before g l named c = elim (comes-append (group_lines g) (l ∷ []) c) [ inl before ↦ before | inr past ↦ absurd (comes-endif named past.2) ]

  -- ---- a machine that does nothing comes to none

  mutual
    pub inert-comes : (g : Group) → IsGroup g → (m : Machine) → acts m ≡ false → ComesIn x chain k m (group_lines g) → ⊥
    inert-comes empty w m e c = comes-none c
    inert-comes (plain l rest) w m e c = elim (comes-more c) [
      | inl at ↦ at-inert e (plain_unasked m l w.0) at
      | inr next ↦ inert-comes rest w.1 next.0 (ap acts (inert_line e w.0 next.1) ∙ e) next.2
    ]
    inert-comes (section h g bs rest) w m e c = elim (comes-more c) [
      | inl at ↦ at-inert e (inert_opens m h w.0 e).quiet at
      | inr next ↦
          let o = inert_opens m h w.0 e in
          let opens : next.0 ≡ opened m o.test = inert_takes e o.quiet next.1 ∙ o.opens in
          let still : acts next.0 ≡ false = ap acts opens ∙ and_false m.active o.test (is_none m.fault) e in
          elim (comes-append (group_lines g ++ branch_lines bs) (group_lines rest) next.2) [
            | inl before ↦ elim (comes-append (group_lines g) (branch_lines bs) before) [
              | inl first ↦ inert-comes g w.1 next.0 still first
              | inr past ↦
                  let group : past.0 ≡ opened m o.test = inert g w.1 next.0 still past.1 ∙ opens in
                  inert-branches-come bs w.2 m.active (m.active && not o.test) m.sections past.0 (ap (λ k. k.sections) group)
                  (ap (λ k. (m.active && not o.test) && is_none k.fault) group ∙ and_false m.active (not o.test) (is_none m.fault) e) past.2
            ]
            | inr past ↦
                let same = inert (section h g bs empty) (w.0, w.1, w.2, tt) m e (machine.line next.1 (runs-join (group_lines g ++ branch_lines bs) past.1 machine.no_line)) in
                inert-comes rest w.3 past.0 (ap acts same ∙ e) past.2
          ]
    ]

    inert-branches-come : (bs : Branches) → AreBranches bs → (a u : Bool) (ss : List (Bool × Bool)) (m : Machine) → m.sections ≡ (a, u) ∷ ss → (u && is_none m.fault) ≡ false
        → ComesIn x chain k m (branch_lines bs) → ⊥
    inert-branches-come (closing l) w a u ss m s e c = comes-endif w c
    inert-branches-come (otherwise h g l) w a u ss m s e c = elim (comes-more c) [
      | inl at ↦ at-unasked w.0 refl at
      | inr next ↦
          let turns : next.0 ≡ turned m u ((a, false) ∷ ss) = takes_unasked w.0 refl next.1 ∙ ap (next_branch m true) s in
          inert-comes g w.1 next.0 (ap acts turns ∙ e) (comes-before g l w.2 next.2)
    ]
    inert-branches-come (alternative h g bs) w a u ss m s e c = elim (comes-more c) [
      | inl at ↦ at-unasked w.0.named (alternative_unasked w.0.test m a u ss s e) at
      | inr next ↦
          let turn = turned m false ((a, u) ∷ ss) in
          let turns : next.0 ≡ turn = takes_unasked w.0.named (alternative_unasked w.0.test m a u ss s e) next.1 ∙ ap (next_branch m false) s in
          elim (comes-append (group_lines g) (branch_lines bs) next.2) [
            | inl before ↦ inert-comes g w.1 next.0 (ap acts turns) before
            | inr past ↦
                let group : past.0 ≡ turn = inert g w.1 next.0 (ap acts turns) past.1 ∙ turns in
                inert-branches-come bs w.2 a u ss past.0 (ap (λ k. k.sections) group) (ap (λ k. u && is_none k.fault) group ∙ e) past.2
          ]
    ]

pub comes-inert : {x : Context} {chain : List Place} {k : Moment} {lines : List Line} {group : Group} (m : Machine) → IsTree lines group → acts m ≡ false → ComesOver x lines m chain k → ⊥
comes-inert {x} {chain} {k} {group = group} m tree e (within c) = inert-comes group tree.grouped m e (subst (λ ls. ComesIn x chain k m ls) (sym tree.whole) c)
comes-inert {x} {group = group} m tree e (past_all n ran acting) =
    let still = inert group tree.grouped m e (subst (λ ls. Runs x m ls n) (sym tree.whole) ran) in
    let both = sym acting ∙ (ap acts still ∙ e) in cc

-- ---- where the machine comes to it, the walk does

module _ (x : Context) (chain : List Place) (k : Moment) where
  -- taking lines from a state
  abbrev Reaches : List Line → (State → Type 0) → State → Type 0
  Reaches lines has s = (ss : List (Bool × Bool)) → ComesIn x chain k (taking ss s) lines → has s

  -- in the branches behind one that wasn't taken
  abbrev ReachesLater : Branches → State → Type 0
  ReachesLater bs s = (active : Bool) (ss : List (Bool × Bool)) → ComesIn x chain k (untaken active ss s) (branch_lines bs) → BranchesReach x bs s chain k

  -- behind what is walked first
  behind : (walk : State → Result State Fault → Type 0) (rest : Group) → IsGroup rest → ((t : State) → Reaches (group_lines rest) (λ s. GroupReaches x rest s chain k) t)
      → (s : State) (ss : List (Bool × Bool)) (n : Machine) → EndsAs walk s ss n → ComesIn x chain k n (group_lines rest) → (t : State) × walk s (Ok t) × GroupReaches x rest t chain k
  behind walk rest w reaches s ss n e c = by e.end e.fault e.walks (subst (λ m. ComesIn x chain k m (group_lines rest)) e.is c)
    where
      by : (end : State) (fault : Option Fault) → walk s (given end fault) → ComesIn x chain k (after ss end fault) (group_lines rest) → (t : State) × walk s (Ok t) × GroupReaches x rest t chain k
      by end None walks c = (end, walks, reaches end ss c)
      by end (Some fault) walks c = absurd (inert-comes rest w (after ss end (Some fault)) refl c)

  behind-section : {h : Line} {g : Group} {bs : Branches} {rest : Group} {s t : State} → Walks x (section h g bs empty) s (Ok t) → GroupReaches x rest t chain k → GroupReaches x (section h g bs rest) s chain k
  behind-section (taken t d a done) has = moments.after_taken t d a has
  behind-section (passed t d a done) has = moments.after_passed t d a has

  -- from the head of a branch on, by what it decides
  decided : (h : Line) (g : Group) (bs : Branches) (s : State) (ss : List (Bool × Bool)) → IsGroup g → AreBranches bs → HaveHashes (group_lines g)
      → Reaches (group_lines g) (λ s. GroupReaches x g s chain k) s → ReachesLater bs s → (Whole : Type 0)
      → (Decides x s h (Ok true) → GroupReaches x g s chain k → Whole) → (Decides x s h (Ok false) → BranchesReach x bs s chain k → Whole)
      → (says : Result Bool Fault) → Decides x s h says → (mid : Machine) → mid ≡ opened_as (taking ss s) says → ComesIn x chain k mid (group_lines g ++ branch_lines bs) → Whole
  decided h g bs s ss w v hashes first others Whole enter pass (Ok true) d mid opens c = elim (comes-append (group_lines g) (branch_lines bs) c) [
    | inl before ↦ enter d (first ((true, false) ∷ ss) (subst (λ m. ComesIn x chain k m (group_lines g)) opens before))
    | inr past ↦
        let e = follows x g w hashes s ((true, false) ∷ ss) past.0 (subst (λ m. Runs x m (group_lines g) past.0) opens past.1) in
        absurd (inert-branches-come bs v true false ss past.0 (ap (λ k. k.sections) e.is) refl past.2)
  ]
  decided h g bs s ss w v hashes first others Whole enter pass (Ok false) d mid opens c = elim (comes-append (group_lines g) (branch_lines bs) c) [
    | inl before ↦ absurd (inert-comes g w mid (ap acts opens) before)
    | inr past ↦
        let group : past.0 ≡ untaken false ss s = inert g w mid (ap acts opens) past.1 ∙ opens in
        pass d (others false ss (subst (λ m. ComesIn x chain k m (branch_lines bs)) group past.2))
  ]
  decided h g bs s ss w v hashes first others Whole enter pass (Err fault) d mid opens c = elim (comes-append (group_lines g) (branch_lines bs) c) [
    | inl before ↦ absurd (inert-comes g w mid (ap acts opens) before)
    | inr past ↦
        let group = inert g w mid (ap acts opens) past.1 ∙ opens in
        absurd (inert-branches-come bs v true true ss past.0 (ap (λ k. k.sections) group) (ap (λ k. is_none k.fault) group) past.2)
  ]

  -- a head's decision in a later branch is that in a first one
  branched-opened : (active : Bool) (ss : List (Bool × Bool)) (s : State) (says : Result Bool Fault) → branched_as (untaken active ss s) says ≡ opened_as (taking ss s) says
  branched-opened active ss s (Ok true) = refl
  branched-opened active ss s (Ok false) = refl
  branched-opened active ss s (Err fault) = refl

  mutual
    reaches : (g : Group) → IsGroup g → HaveHashes (group_lines g) → (s : State) → Reaches (group_lines g) (λ s. GroupReaches x g s chain k) s
    reaches empty w has s ss c = absurd (comes-none c)
    reaches (plain l rest) w has s ss c = elim (comes-more c) [
      | inl at ↦ moments.line (at-plain w.0 at)
      | inr next ↦
          let past = behind (Steps x l) rest w.1 (reaches rest w.1 has.1) s ss next.0 (plain_takes x l s has.0 w.0 ss next.1) next.2 in
          moments.after_line past.0 past.1 past.2
    ]
    reaches (section h g bs rest) w has s ss c = elim (comes-more c) [
      | inl at ↦ at-own (GroupReaches x (section h g bs rest) s) w.0.named at moments.head
      | inr next ↦
          let parts = hashes-parts (group_lines g ++ branch_lines bs) (group_lines rest) has.1 in
          let inner = hashes-parts (group_lines g) (branch_lines bs) parts.0 in
          elim (comes-append (group_lines g ++ branch_lines bs) (group_lines rest) next.2) [
            | inl before ↦
                let o = opens_taken x h s w.0 ss next.1 in
                decided h g bs s ss w.1 w.2 inner.0 (reaches g w.1 inner.0 s) (reaches-branches bs w.2 inner.1 s) (GroupReaches x (section h g bs rest) s chain k) moments.taken moments.passed
                o.says o.decides next.0 o.opens before
            | inr past ↦
                let ends = follows x (section h g bs empty) (w.0, w.1, w.2, tt) (has.0, subst HaveHashes (sym (append-nil (group_lines g ++ branch_lines bs))) parts.0) s ss past.0
                (machine.line next.1 (runs-join (group_lines g ++ branch_lines bs) past.1 machine.no_line)) in
                let after = behind (Walks x (section h g bs empty)) rest w.3 (reaches rest w.3 parts.1) s ss past.0 ends past.2 in
                behind-section after.1 after.2
          ]
    ]

    reaches-branches : (bs : Branches) → AreBranches bs → HaveHashes (branch_lines bs) → (s : State) → ReachesLater bs s
    reaches-branches (closing l) w has s active ss c = absurd (comes-endif w c)
    reaches-branches (otherwise h g l) w has s active ss c = elim (comes-more c) [
      | inl at ↦ absurd (at-unasked w.0 refl at)
      | inr next ↦
          moments.in_last (reaches g w.1 (hashes-parts (group_lines g) (l ∷ []) has.1).0 s ((true, false) ∷ ss)
          (subst (λ m. ComesIn x chain k m (group_lines g)) (takes_unasked w.0 refl next.1) (comes-before g l w.2 next.2)))
    ]
    reaches-branches (alternative h g bs) w has s active ss c = elim (comes-more c) [
      | inl at ↦ at-own (BranchesReach x (alternative h g bs) s) w.0.named at moments.later_head
      | inr next ↦
          let turn = takes_conditional w.0.named next.1 in
          let inner = hashes-parts (group_lines g) (branch_lines bs) has.1 in
          decided h g bs s ss w.1 w.2 inner.0 (reaches g w.1 inner.0 s) (reaches-branches bs w.2 inner.1 s) (BranchesReach x (alternative h g bs) s chain k) moments.later_taken moments.later_passed
          turn.decision (turn.answers.asked (ap (asks_by (untaken active ss s)) w.0.named)) next.0
          (turn.is ∙ (step_is (untaken active ss s) h turn.decision w.0.named ∙ branched-opened active ss s turn.decision)) next.2
    ]

-- ---- a file that is entered

module _ (x : Context) (f : File) (s : State) (lexemes : List Lexeme) (group : Group) (few : largest_file < length f.bytes → ⊥) (lexed : Lexed f.bytes (Ok lexemes)) {lines : List Line}
    (are : lines ≡ file_lines x f lexemes) (tree : IsTree lines group) where
  grouped : IsTree (file_lines x f lexemes) group
  grouped = subst (λ ls. IsTree ls group) are tree

  hashes : HaveHashes (group_lines group)
  hashes = subst HaveHashes (sym grouped.whole) (lines-hashes x.standard (split_lines (λ t. is_newline t.kind) (map (in_file f.name) lexemes)))

  ended : (n : Machine) (end : State) (fault : Option Fault) → Walks x group (inside f s) (given end fault) → n ≡ after [] end fault → acts n ≡ true → FileReaches x f s [] (at_end n.state)
  ended n end None walks is acting =
      subst (λ (m : Machine). FileReaches x f s [] (at_end m.state)) (sym is) (moments.end lexemes group end few lexed (nested group grouped) walks)
  ended n end (Some fault) walks is acting = let both : true ≡ false = sym acting ∙ ap acts is in cc

  pub comes-entered : {chain : List Place} {k : Moment} → ComesOver x lines (start (inside f s)) chain k → FileReaches x f s chain k
  comes-entered {chain} {k} (within c) = moments.within lexemes group few lexed (nested group grouped)
      (reaches x chain k group grouped.grouped hashes (inside f s) [] (subst (λ ls. ComesIn x chain k (start (inside f s)) ls) (sym tree.whole) c))
  comes-entered (past_all n ran acting) =
      let e = follows x group grouped.grouped hashes (inside f s) [] n (subst (λ ls. Runs x (start (inside f s)) ls n) (sym tree.whole) ran) in
      ended n e.end e.fault e.walks e.is acting
