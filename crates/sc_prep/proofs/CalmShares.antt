-- What configurations share stays so over a line that is no text.
use Rattle.std.proofs.Common.{◌≡◌, ℕ, Bool, true, false, true≢false, List, [], All, length, Option, Some, None, Result, Ok, Err, refl, sym, ap, subst, ◌∙◌, is_none, if◌then◌else◌}
use Rattle.c11_directives.specs.declared.directive.Directive.TheVariants as directive
use Rattle.sc_model.specs.Fault.{Fault}
use Rattle.sc_prep.proofs.BetweenRuns.{closing-between}
use Rattle.sc_prep.proofs.EnterMoves.{acts-unfaulty}
use Rattle.sc_prep.proofs.Facts.{Extends-refl, IsConfig-Keeps}
use Rattle.sc_prep.proofs.LineSteps.{line-grown}
use Rattle.sc_prep.proofs.Machine.{branch-kept, end-kept, inert_arriving, inert_changing}
use Rattle.sc_prep.proofs.SettleMoves.{same-machine}
use Rattle.sc_prep.proofs.SharesEntered.{between-idle, live-unfaulty}
use Rattle.sc_prep.proofs.SharesKept.{KeepsMacros, shares-behind, shares-stay}
use Rattle.sc_prep.proofs.TakeLine.{directive-is}
use Rattle.sc_prep.proofs.Terms.{Alternative, Carried, Closed, Conditional, Context, Decided, Directive, Else, Endif, Extends, IsBetweenRuns, IsHeld, IsConfig, IsNever, IsStored, Keeps, Line, LineStage, Machine, Macros, Opening, Sets, Simulates, SimulatesOneOf, SimulatesStep, Stage, Standard, State, StepsBetweenRuns, Token, Walk, acts, branched_as, changed_by, changing, conditional_in, conditional_of, directive_at, ended, ends_run, is_barrier, next_branch, opened_as, plain_by, seen_line, step_by}
use Rattle.sc_prep.specs.Simulates.{Arrives}
use Rattle.sc_prep.specs.Thin.{KeepsShares, TextShares}

-- ---- a conditional directive

-- nothing is refused and the macros stay
abbrev Stays : Machine → Machine → Type 0
Stays m n = n.fault ≡ None → (m.fault ≡ None) × (n.state.macros ≡ m.state.macros)

both-stay : (m n : Machine) → (n.fault ≡ m.fault) × (n.state ≡ m.state) → Stays m n
both-stay m n same none = (sym same.0 ∙ none, ap (λ (s : State). s.macros) same.1)

opened-stays : (m : Machine) (r : Result Bool Fault) → Stays m (opened_as m r)
opened-stays m (Ok test) none = (none, refl)
opened-stays m (Err fault) none = absurd (cc)

branched-stays : (m : Machine) (r : Result Bool Fault) → Stays m (branched_as m r)
branched-stays m (Ok test) none = both-stay m (next_branch m test m.sections) (branch-kept m test m.sections) none
branched-stays m (Err fault) none = let some = sym (branch-kept (record m { fault = Some fault }) false m.sections).0 ∙ none in absurd (cc)

step-stays : (m : Machine) (l : Line) (r : Result Bool Fault) (c : Conditional) → Stays m (step_by m l r (Some c))
step-stays m l r (Opening test) = opened-stays m r
step-stays m l r (Alternative test) = branched-stays m r
step-stays m l r Else = both-stay m (next_branch m true m.sections) (branch-kept m true m.sections)
step-stays m l r Endif = both-stay m (ended m m.sections) (end-kept m m.sections)

none-live : {s : Sets} {names files : List (List ℕ)} {walk : Walk} {c : List ℕ} {m : Machine} → Simulates s names files walk c m → m.fault ≡ None
    → s.has walk.prepared.live.0 c ≡ true
none-live at none = at.prepared.live ∙ ap is_none none

pub decided-shares : (files : List (List ℕ)) {names more : List (List ℕ)} {old new : Sets} (keeps : Keeps old new) (grows : Extends names more) {walk next : Walk}
    → IsStored old names (length files) walk → (x : Context) (l : Line) (cond : Conditional) → conditional_of l ≡ Some cond
    → Stage files names old walk more new next (λ config m n. Decided x m l n) → KeepsShares files names old walk files more new next
decided-shares files keeps grows {walk} {next} stored x l cond is stage =
    shares-stay keeps grows (Extends-refl files) walk next stored stage.text.runs stage.text.list (λ c listed live k at _.
    let a = stage.simulates.at c k listed at in
    let none : a.machine.fault ≡ None = live-unfaulty a.simulates live in
    let stays = subst (Stays k) (sym (a.done.is ∙ ap (step_by k l a.done.decision) is)) (step-stays k l a.done.decision cond) none in
    λ _ _ i name. (a.simulates.macros none name ∙ (ap (λ (ms : Macros). ms name) stays.1 ∙ sym (at.macros stays.0 name))) i)

-- ---- one after the other

module _ (files : List (List ℕ)) {names more : List (List ℕ)} {old mid : Sets} (keeps : Keeps old mid) {w v : Walk} {does : List ℕ → Machine → Machine → Type 0}
    (first : SimulatesOneOf files names old w more mid v does) (shares : KeepsShares files names old w files more mid v) where
  -- who is not refused at the end was not before
  pub then-shares : {much : List (List ℕ)} {new : Sets} {next : Walk} → KeepsShares files more mid v files much new next
      → ((c : List ℕ) (m : Machine) → IsConfig mid.arities c → Simulates mid more files v c m → new.has next.prepared.live.0 c ≡ true → m.fault ≡ None)
      → KeepsShares files names old w files much new next
  then-shares second back =
      shares-behind keeps
      (λ c k listed at _ live.
      let a = first.at c k listed at in
      record { machine = a.machine; simulates = a.simulates; live = none-live a.simulates (back c a.machine (IsConfig-Keeps keeps listed) a.simulates live); is = tt })
      second shares

  -- A directive follows that ends the runs, and these were closed: it leaves a machine that doesn't
  -- act.
  pub closed-shares : {much : List (List ℕ)} {new : Sets} {next : Walk} (later : Keeps mid new) (grows : Extends more much) (stored : IsStored mid more (length files) v)
      → next.runs ≡ v.runs → next.prepared.list ≡ v.prepared.list → ((c : List ℕ) (m n : Machine) → does c m n → IsBetweenRuns n)
      → ((c : List ℕ) (m : Machine) → IsConfig mid.arities c → Simulates mid more files v c m → IsBetweenRuns m → Arrives new much files next c (λ n. acts m ≡ false → n ≡ m))
      → KeepsShares files names old w files much new next
  closed-shares {much} {new} {next} later grows stored runs list between second =
      shares-behind keeps
      (λ c k listed at _ live.
      let a = first.at c k listed at in
      let empty = between c k a.machine a.done in
      record {
        machine = a.machine;
        simulates = a.simulates;
        live = none-live a.simulates (ends c a.machine (IsConfig-Keeps keeps listed) a.simulates empty live).0;
        is = empty;
      })
      (shares-stay later grows (Extends-refl files) v next stored runs list (λ c listed live m at empty. (ends c m listed at empty live).1)) shares
    where
      Has : List ℕ → Machine → Type 0
      Has c m = (m.fault ≡ None) × KeepsMacros later grows (Extends-refl files) v next stored runs list c

      ends : (c : List ℕ) (m : Machine) → IsConfig mid.arities c → Simulates mid more files v c m → IsBetweenRuns m → new.has next.prepared.live.0 c ≡ true
          → Has c m
      ends c m listed at empty live = by (acts m) refl (second c m listed at empty)
        where
          by : (b : Bool) → acts m ≡ b → Arrives new much files next c (λ n. acts m ≡ false → n ≡ m) → Has c m
          by true is a =
              let unrefused = acts-unfaulty m is in
              (unrefused, λ _ come. absurd (true≢false (sym is ∙ between-idle at unrefused empty come)))
          by false is a =
              let simulates = subst (Simulates new much files next c) (a.done is) a.simulates in
              let none = live-unfaulty simulates live in
              (none, λ _ _ i name. (simulates.macros none name ∙ sym (at.macros none name)) i)

-- a directive is no text
pub none-put : {files names more : List (List ℕ)} {old new : Sets} {walk next : Walk} {l : Line} {d : Directive} → l.directive ≡ Some d
    → TextShares files names old walk l more new next
none-put is c e p q live live_e k m at at_e acting acting_e f index n i one other = let text = one.is_text in absurd (cc)

-- no configuration acts
pub never-text : (files names : List (List ℕ)) (s : Sets) (walk next : Walk) (l : Line) → IsNever s walk.acting.0 → TextShares files names s walk l names s next
never-text files names s walk next l never c d p q live live_d k m at at_d acting acting_d f index n i one other =
    absurd (true≢false (sym (at.acting ∙ acting) ∙ never.none c p))

-- ---- the lines of a walk

-- what is shared, whatever the files hold
abbrev any_context : Standard → Context
any_context standard = record { files = λ name. None; include = []; include_depth = 0; standard = standard }

-- a conditional directive
pub conditional-shares : (standard : Standard) (files : List (List ℕ)) {names more : List (List ℕ)} {old new : Sets} → Keeps old new → Extends names more
    → {walk next : Walk} → IsStored old names (length files) walk → (line : List Token) (cond : Conditional)
    → Some (directive.Conditional cond) ≡ directive_at standard names line
    → ((x : Context) → Stage files names old walk more new next (λ config m n. Decided x m (seen_line standard names files line) n))
    → KeepsShares files names old walk files more new next
conditional-shares standard files {names} keeps grows stored line cond at stage =
    decided-shares files keeps grows stored (any_context standard) (seen_line standard names files line) cond
    (ap conditional_in (directive-is standard names files line (Some (directive.Conditional cond)) at)) (stage (any_context standard))

pub directive-puts : (standard : Standard) (files : List (List ℕ)) {names more : List (List ℕ)} {old new : Sets} {walk next : Walk} (line : List Token) (d : Directive)
    → Some d ≡ directive_at standard names line
    → TextShares files names old walk (seen_line standard names files line) more new next
directive-puts standard files {names} line d at = none-put (directive-is standard names files line (Some d) at)

-- a line that ends no runs
mild-fault : (m : Machine) (l : Line) (d : Option Directive) → ends_run d ≡ false → (plain_by m l d).fault ≡ m.fault
mild-fault m l None mild = refl
mild-fault m l (Some d) mild = ap (λ b. (if b then changing m l d (changed_by m.state.macros l d) else m).fault) mild

module _ (standard : Standard) (files : List (List ℕ)) {names more : List (List ℕ)} {old mid : Sets} (keeps : Keeps old mid) (grows : Extends names more)
    {w v : Walk} (first : LineStage files names old w [] more mid v (λ config m n. n ≡ m)) (line : List Token) (d : Option Directive) where
  pub mild-shares : {next : Walk} → ends_run d ≡ false → SimulatesStep more mid v mid next (λ paths config m. plain_by m (seen_line standard more paths line) d)
      → KeepsShares files names old w files more mid v → KeepsShares files more mid v files more mid next
      → KeepsShares files names old w files more mid next
  mild-shares mild moved one two =
      then-shares files keeps first.simulates one two
      (λ c m listed at live. sym (mild-fault m (seen_line standard more files line) d mild) ∙ live-unfaulty (moved.at files c m listed first.simulates.table at) live)

  pub mild-puts : {next : Walk} → All (IsHeld names) line → d ≡ directive_at standard names line
      → (d ≡ None → TextShares files more mid v (seen_line standard more files line) more mid next)
      → TextShares files names old w (seen_line standard names files line) more mid next
  mild-puts {next} held at text = by d refl
    where
      by : (e : Option Directive) → d ≡ e → TextShares files names old w (seen_line standard names files line) more mid next
      by (Some e) is = directive-puts standard files line e (sym is ∙ at)
      by None is =
          let puts = subst (λ l. TextShares files more mid v l more mid next) (line-grown files grows standard line held) (text is) in
          λ c e p q live live_e k l sim sim_e acting acting_e f index n m one other.
          puts c e (IsConfig-Keeps keeps p) (IsConfig-Keeps keeps q) live live_e k l (same-machine keeps first c k p sim) (same-machine keeps first e l q sim_e) acting acting_e f index n m one
          other

-- a directive that ends the runs
inert-barrier : (m : Machine) (l : Line) (d : Directive) → acts m ≡ false → plain_by m l (Some d) ≡ m
inert-barrier m l d idle = by (is_barrier d)
  where
    by : (b : Bool) → (if b then changing m l d (changed_by m.state.macros l d) else m) ≡ m
    by true = inert_changing m l d (changed_by m.state.macros l d) idle
    by false = refl

module _ (standard : Standard) (files : List (List ℕ)) {names more : List (List ℕ)} {old mid : Sets} (keeps : Keeps old mid) {w v : Walk}
    (closing : LineStage files names old w [] more mid v (λ config m n. Closed m n)) (shares : KeepsShares files names old w files more mid v)
    (line : List Token) where
  closed-stored : IsStored mid more (length files) v
  closed-stored = record { owns = closing.simulates.owns; table = closing.simulates.table; held = closing.held }

  between : (c : List ℕ) (m n : Machine) → Closed m n → IsBetweenRuns n
  between c m n done = subst IsBetweenRuns (sym done.is) (closing-between m done.answer)

  pub number-shares : {much : List (List ℕ)} {new : Sets} {next : Walk} → Keeps mid new → Extends more much
      → ((x : Context) → Stage files more mid v much new next (λ config m n. Carried x (seen_line standard more files line) directive.Line m n))
      → KeepsShares files names old w files much new next
  number-shares later grows stage =
      let there = stage (any_context standard) in
      closed-shares files keeps closing.simulates shares later grows closed-stored there.text.runs there.text.list between
      (λ c m listed at empty.
      let a = there.simulates.at c m listed at in
      record { machine = a.machine; done = λ idle. a.done.is ∙ inert_arriving m a.done.end idle; simulates = a.simulates })

  pub directive-shares : {new : Sets} {next : Walk} (d : Directive) → Keeps mid new
      → StepsBetweenRuns more mid v new next (λ paths config m. plain_by m (seen_line standard more paths line) (Some d)) → next.runs ≡ v.runs
      → next.prepared.list ≡ v.prepared.list
      → KeepsShares files names old w files more new next
  directive-shares d later moved runs list =
      closed-shares files keeps closing.simulates shares later (Extends-refl more) closed-stored runs list between
      (λ c m listed at empty. record {
        machine = plain_by m (seen_line standard more files line) (Some d);
        done = λ idle. inert-barrier m (seen_line standard more files line) d idle;
        simulates = moved.at files c m listed closing.simulates.table at empty;
      })
