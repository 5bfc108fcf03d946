-- What a line does at each configuration, once the runs that it ends are closed.
use Rattle.std.proofs.Common.{◌≡◌, ℕ, Bool, true, false, List, All, length, Option, Some, None, Ok, refl, sym, ap, ◌∙◌, subst, if◌then◌else◌}
use Rattle.c11_directives.specs.declared.directive.Directive.TheVariants as directive
use Rattle.sc_prep.proofs.BetweenRuns.{closing-between}
use Rattle.sc_prep.proofs.Facts.{IsConfig-Keeps, directive-files}
use Rattle.sc_prep.proofs.Grown.{placed-grown}
use Rattle.sc_prep.proofs.LineSteps.{directive-grown, line-grown, plain-is}
use Rattle.sc_prep.proofs.Terms.{AllPass, Carried, Closed, Conditional, Context, Decided, Directive, Extends, GathersFrom, IsBetweenRuns, IsHeld, IsHeldWalk, IsPlaced, IsStored, IsTable, Keeps, LineStage, Machine, Sets, Simulates, SimulatesOneOf, SimulatesStep, Standard, StaysHeld, StepsBetweenRuns, Takes, Token, Walk, any_token, asks_by, carries, closes, conditional_in, directive_at, ends_run, is_barrier, is_plain, is_said, option_map, plain_by, seen_line, step, step_by, takes}

-- the tables hold the walk, and what was put out passes another test
pub with-test : (names : List (List ℕ)) (files : ℕ) (test other : Token → Bool) (w : Walk) → IsHeldWalk names files test w → AllPass other w.prepared.list → IsHeldWalk names files other w
with-test names files test other w held passed = record { runs = held.runs; list = held.list; passed = passed; faults = held.faults; once = held.once }

-- what was put out stays plain
pub stays-plain : (names : List (List ℕ)) (files : ℕ) (line : List Token) (w next : Walk) → StaysHeld names line w next → All (IsPlaced names files) line → IsHeldWalk names files any_token w
    → AllPass (is_plain names) w.prepared.list → AllPass (is_plain names) next.prepared.list
stays-plain names files line w next stays placed held passed = (stays files (is_plain names) placed (with-test names files any_token (is_plain names) w held passed)).passed

pub directive-is : (standard : Standard) (names files : List (List ℕ)) (line : List Token) (d : Option Directive) → d ≡ directive_at standard names line
    → (seen_line standard names files line).directive ≡ d
directive-is standard names files line d at = directive-files standard names files line ∙ sym at

-- a conditional directive that decides nothing here
pub decides-unasked : (standard : Standard) {names : List (List ℕ)} (files : List (List ℕ)) {old new : Sets} {w next : Walk} (line : List Token) (c : Conditional) → Some (directive.Conditional c) ≡ directive_at standard names line
    → ((m : Machine) → asks_by m (Some c) ≡ false) → IsTable old names w.table → SimulatesStep names old w new next (λ paths config m. step_by m (seen_line standard names paths line) (Ok false) (Some c))
    → (x : Context) → SimulatesOneOf files names old w names new next (λ config m n. Decided x m (seen_line standard names files line) n)
decides-unasked standard {names} files line c at quiet is moved x =
    let named : conditional_in (seen_line standard names files line).directive ≡ Some c = ap conditional_in (directive-is standard names files line (Some (directive.Conditional c)) at) in
    record {
      owns = moved.owns;
      table = moved.table is;
      at = λ config m listed simulates. record {
        machine = step_by m (seen_line standard names files line) (Ok false) (Some c);
        done = record {
          decision = Ok false;
          answers = record { asked = λ asks. let both = sym (quiet m) ∙ (sym (ap (asks_by m) named) ∙ asks) in absurd (cc); not_asked = λ _. refl };
          is = ap (step_by m (seen_line standard names files line) (Ok false)) (sym named);
        };
        simulates = moved.at files config m listed is simulates;
      };
    }

-- a conditional directive ends no run
pub takes-decided : (standard : Standard) {names more : List (List ℕ)} {old new : Sets} {w next : Walk} (files : List (List ℕ)) (line : List Token) (c : Conditional) → Some (directive.Conditional c) ≡ directive_at standard names line
    → (x : Context) → SimulatesOneOf files names old w more new next (λ config m n. Decided x m (seen_line standard names files line) n)
    → SimulatesOneOf files names old w more new next (λ config m n. Takes x m (seen_line standard names files line) n)
takes-decided standard {names} files line c at x decides = record {
  owns = decides.owns;
  table = decides.table;
  at = λ config m listed simulates.
      let a = decides.at config m listed simulates in
      let l = seen_line standard names files line in
      record {
        machine = a.machine;
        done = subst (Takes x m l) (sym a.done.is) (takes a.done.decision (ap ends_run (directive-is standard names files line (Some (directive.Conditional c)) at)) a.done.answers);
        simulates = a.simulates;
      };
}

-- a line that is no conditional directive and ends no run
takes-plain : (standard : Standard) {names : List (List ℕ)} (files : List (List ℕ)) {old new : Sets} {w next : Walk} (line : List Token) (d : Option Directive) → d ≡ directive_at standard names line → ends_run d ≡ false → conditional_in d ≡ None
    → IsTable old names w.table → SimulatesStep names old w new next (λ paths config m. plain_by m (seen_line standard names paths line) d)
    → (x : Context) → SimulatesOneOf files names old w names new next (λ config m n. Takes x m (seen_line standard names files line) n)
takes-plain standard {names} files line d at mild none is moved x =
    let l = seen_line standard names files line in
    let named : conditional_in l.directive ≡ None = ap conditional_in (directive-is standard names files line d at) ∙ none in
    record {
      owns = moved.owns;
      table = moved.table is;
      at = λ config m listed simulates. record {
        machine = plain_by m l d;
        done = subst (Takes x m l) (sym (plain-is standard names files line m (Ok false) d at none))
            (takes (Ok false) (ap ends_run (directive-is standard names files line d at) ∙ mild)
            (record { asked = λ asks. let both = sym (ap (asks_by m) named) ∙ asks in absurd (cc); not_asked = λ _. refl }));
        simulates = moved.at files config m listed is simulates;
      };
    }

-- the same, where the table of texts grew before it
pub plain-stage : (standard : Standard) {names more : List (List ℕ)} (files : List (List ℕ)) {s : Sets} {w next : Walk} (line : List Token) (d : Option Directive) → d ≡ directive_at standard names line → ends_run d ≡ false → conditional_in d ≡ None
    → Extends names more → All (IsPlaced names (length files)) line → IsStored s more (length files) w → SimulatesStep more s w s next (λ paths config m. plain_by m (seen_line standard more paths line) d)
    → StaysHeld more line w next → GathersFrom line w next → (x : Context) → LineStage files more s w line more s next (λ config m n. Takes x m (seen_line standard names files line) n)
plain-stage standard {names} {more} files {s} {w} {next} line d at mild none grows placed stored moved stays gathers x =
    let held : All (IsHeld names) line = λ k e h. (placed k e h).held in
    let later : All (IsPlaced more (length files)) line = λ k e h. placed-grown grows (length files) _ (placed k e h) in
    record {
      simulates = subst (λ l. SimulatesOneOf files more s w more s next (λ config m n. Takes x m l n)) (line-grown files grows standard line held)
          (takes-plain standard files line d (at ∙ sym (directive-grown standard grows line held)) mild none stored.table moved x);
      held = stays (length files) any_token later stored.held;
      plain = λ plain was. stays-plain more (length files) line w next stays later stored.held was;
      gathers = gathers;
    }

-- a directive that ends the runs, which were closed
pub takes-closed : (standard : Standard) {names more : List (List ℕ)} (files : List (List ℕ)) {old mid new : Sets} {w v next : Walk} (line : List Token) (d : Directive) → Some d ≡ directive_at standard names line
    → is_barrier d ≡ true → is_said d ≡ false → conditional_in (Some d) ≡ None → Extends names more → All (IsHeld names) line → Keeps old mid
    → SimulatesOneOf files names old w more mid v (λ config m n. Closed m n) → StepsBetweenRuns more mid v new next (λ paths config m. plain_by m (seen_line standard more paths line) (Some d))
    → (x : Context) → SimulatesOneOf files names old w more new next (λ config m n. Takes x m (seen_line standard names files line) n)
takes-closed standard {names} {more} files {new = new} {next = next} line d at barrier unsaid none grows held keeps closing moved x = record {
  owns = moved.owns;
  table = moved.table closing.table;
  at = λ config m listed simulates.
      let a = closing.at config m listed simulates in
      let l = seen_line standard names files line in
      record {
        machine = step a.machine l (Ok false);
        done = subst (λ k. Takes x m l (step k l (Ok false))) (sym a.done.is) (closes d a.done.answer (directive-is standard names files line (Some d) at) barrier unsaid a.done.expands);
        simulates = subst (Simulates new more files next config) (ap (λ k. plain_by a.machine k (Some d)) (line-grown files grows standard line held) ∙ plain-is standard names files line a.machine (Ok false) (Some d) at none)
            (moved.at files config a.machine (IsConfig-Keeps keeps listed) closing.table a.simulates (subst IsBetweenRuns (sym a.done.is) (closing-between m a.done.answer)));
      };
}

-- a directive that is carried out by what it says, after the runs were closed
pub takes-carried : (standard : Standard) {names more much : List (List ℕ)} (files : List (List ℕ)) {old mid new : Sets} {w v next : Walk} (line : List Token) (d : Directive) → Some d ≡ directive_at standard names line
    → is_said d ≡ true → Extends names more → All (IsHeld names) line → Keeps old mid → SimulatesOneOf files names old w more mid v (λ config m n. Closed m n) → (x : Context)
    → SimulatesOneOf files more mid v much new next (λ config m n. Carried x (seen_line standard more files line) d m n)
    → SimulatesOneOf files names old w much new next (λ config m n. Takes x m (seen_line standard names files line) n)
takes-carried standard {names} {more} files line d at said grows held keeps closing x carried = record {
  owns = carried.owns;
  table = carried.table;
  at = λ config m listed simulates.
      let a = closing.at config m listed simulates in
      let b = carried.at config a.machine (IsConfig-Keeps keeps listed) a.simulates in
      let l = seen_line standard names files line in
      record {
        machine = b.machine;
        done = by m a.machine b.machine a.done (subst (λ k. Carried x k d a.machine b.machine) (line-grown files grows standard line held) b.done);
        simulates = b.simulates;
      };
}
  where
    by : (m n o : Machine) → Closed m n → Carried x (seen_line standard names files line) d n o → Takes x m (seen_line standard names files line) o
    by m n o was does =
        let l = seen_line standard names files line in
        let end = subst (λ k. Carried x l d k o) was.is does in
        subst (Takes x m l) (sym end.is) (carries d was.answer end.end (directive-is standard names files line (Some d) at) said was.expands end.carries)

-- ---- which directives end runs, and which of them are carried out by what they say

-- a barrier is no conditional directive
pub barrier-unconditional : (d : Directive) → is_barrier d ≡ true → conditional_in (Some d) ≡ None
barrier-unconditional (directive.Conditional c) barrier = absurd (cc)
barrier-unconditional directive.Include barrier = refl
barrier-unconditional directive.Define barrier = refl
barrier-unconditional directive.Undef barrier = refl
barrier-unconditional directive.Line barrier = refl
barrier-unconditional directive.Error barrier = refl
barrier-unconditional directive.Pragma barrier = refl
barrier-unconditional directive.Warning barrier = refl
barrier-unconditional directive.Null barrier = refl
barrier-unconditional directive.Unknown barrier = refl

-- only #include and #line are carried out by what they say
pub unsaid : (d : Directive) → (d ≡ directive.Include → ⊥) → (d ≡ directive.Line → ⊥) → is_said d ≡ false
unsaid (directive.Conditional c) include line = refl
unsaid directive.Include include line = absurd (include refl)
unsaid directive.Define include line = refl
unsaid directive.Undef include line = refl
unsaid directive.Line include line = absurd (line refl)
unsaid directive.Error include line = refl
unsaid directive.Pragma include line = refl
unsaid directive.Warning include line = refl
unsaid directive.Null include line = refl
unsaid directive.Unknown include line = refl

-- the directive that ends the runs
pub barrier-found : (d : Option Directive) (b : Directive) → Some b ≡ (if ends_run d then d else None) → (Some b ≡ d) × (is_barrier b ≡ true)
barrier-found None b e = absurd (cc)
barrier-found (Some d) b e = by (is_barrier d) refl e
  where
    by : (t : Bool) → is_barrier d ≡ t → Some b ≡ (if t then Some d else None) → (Some b ≡ Some d) × (is_barrier b ≡ true)
    by true is h = (h, ap ends_run h ∙ is)
    by false is h = absurd (cc)

pub barrier-missing : (d : Option Directive) → None ≡ (if ends_run d then d else None) → ends_run d ≡ false
barrier-missing None e = refl
barrier-missing (Some d) e = by (is_barrier d) refl e
  where
    by : (t : Bool) → is_barrier d ≡ t → None ≡ (if t then Some d else None) → is_barrier d ≡ false
    by true is h = absurd (cc)
    by false is h = is

-- the conditional directive that a line is
pub conditional-found : (d : Option Directive) (c : Conditional) → Some c ≡ conditional_in d → Some (directive.Conditional c) ≡ d
conditional-found None c e = absurd (cc)
conditional-found (Some (directive.Conditional k)) c e = ap (option_map directive.Conditional) e
conditional-found (Some directive.Include) c e = absurd (cc)
conditional-found (Some directive.Define) c e = absurd (cc)
conditional-found (Some directive.Undef) c e = absurd (cc)
conditional-found (Some directive.Line) c e = absurd (cc)
conditional-found (Some directive.Error) c e = absurd (cc)
conditional-found (Some directive.Pragma) c e = absurd (cc)
conditional-found (Some directive.Warning) c e = absurd (cc)
conditional-found (Some directive.Null) c e = absurd (cc)
conditional-found (Some directive.Unknown) c e = absurd (cc)
