-- How a walk that enters a file simulates the machine of each configuration.
use Rattle.std.proofs.Common.{◌≡◌, ℕ, ◌&&◌, ◌++◌, ◌∷◌, not, Bool, true, false, List, [], All, map, reverse, append-nil, if◌then◌else◌, Option, Some, None, Ok, Err, refl, sym, ap, ◌∙◌, subst, is_none}
use Rattle.sc_base.specs.declared.fault.Fault as base
use Rattle.sc_model.specs.Token.{Token}
use Rattle.sc_prep.proofs.Facts.{IsConfig-Keeps, and-false, and-true, faults_at-append, map-append, map-one}
use Rattle.sc_prep.proofs.Machine.{after, right-none}
use Rattle.sc_prep.proofs.SettledText.{text-empty}
use Rattle.sc_prep.proofs.Terms.{Around, Begins, Cond, Context, Fault, IsBetweenRuns, IsCond, IsConfig, IsTable, Keeps, Leaves, Machine, Owns, OwnsSection, RefusesEach, RunAt, Sets, Simulates, State, Walk, acts, arriving, back, faults_at, has_none, is_empty, is_once_file, items_at, option_to_list, section_at, seen, seen_fault, start}
use Rattle.sc_prep.proofs.Texts.{run-empty}
use Rattle.sc_prep.proofs.WalkMoves.{simulates-kept, sections-kept}
use Rattle.sc_prep.specs.Includes.{EntersAt, elsewhere, inert, left_out}

pub acts-unfaulty : (m : Machine) → acts m ≡ true → m.fault ≡ None
acts-unfaulty m e = right-none m.active m.fault e

-- the machine of a configuration that does not enter the file, of which nothing was gathered: this
-- was put out
abbrev pub idle : Machine → List Token → Machine
idle m output = record m { active = false; sections = []; state = record m.state { run = []; output = output } }

-- the state with which a file is entered
abbrev pub entering : ℕ → List ℕ → State → State
entering depth name s = record s { depth = depth; file = name }

-- the machine around a file, behind it
abbrev pub resumed : Machine → Machine → (run output : List Token) → Machine
resumed m n run output = record n { active = m.active; sections = m.sections; state = record (back m.state n.state) { run = run; output = output } }

-- before the first line of the file
module _ (s : Sets) (names files : List (List ℕ)) (w next : Walk) (within : Cond) (around : Around) (config : List ℕ) (m : Machine)
    (begins : Begins s w within next around) (at : Simulates s names files w config m) (listed : IsConfig s.arities config) where
  abbrev pub put-before : List Token
  put-before = map (seen names files) (items_at s w.prepared.list config)

  run-begins : (state : State) → state.run ≡ [] → put-before ≡ state.output → RunAt s names files next.runs w.prepared.list config state
  run-begins state empty same = run-empty listed state begins.pragmas begins.gathered begins.held begins.read empty same

  none-open : map (section_at s config) (reverse next.sections.items) ≡ []
  none-open = ap (λ xs. map (section_at s config) (reverse xs)) begins.sections

  pub begins-idle : s.has within.0 config ≡ false → Simulates s names files next config (idle m put-before)
  begins-idle out = subst (λ (v : Walk). Simulates s names files v config (idle m put-before)) (sym begins.is) (record {
    active = out;
    acting = out;
    sections = none-open;
    prepared = record { live = at.prepared.live; fault = at.prepared.fault };
    text = λ none. run-begins (idle m put-before).state refl refl;
    macros = at.macros;
    once = at.once;
  })

  pub begins-start : s.has within.0 config ≡ true → acts m ≡ true → IsBetweenRuns m → (depth : ℕ) (name : List ℕ) → Simulates s names files next config (start (entering depth name m.state))
  begins-start here acting between depth name =
      let none = acts-unfaulty m acting in
      subst (λ (v : Walk). Simulates s names files v config (start (entering depth name m.state))) (sym begins.is) (record {
        active = here;
        acting = here;
        sections = none-open;
        prepared = record { live = at.prepared.live ∙ ap is_none none; fault = at.prepared.fault ∙ ap option_to_list none };
        text = λ _. run-begins (entering depth name m.state) (between acting) (text-empty m.state _ _ _ _ (between acting) (at.text none).text).1;
        macros = λ _. at.macros none;
        once = λ _. at.once none;
      })

-- behind the last line of the file
module _ {old new : Sets} (keeps : Keeps old new) (names files : List (List ℕ)) (w next : Walk) (around : Around) (leaves : Leaves old w around new next) (owns : Owns old w)
    (is : IsTable old names w.table) (group_own : IsCond old around.group.0) (sections_own : All (OwnsSection old) around.sections.items) (config : List ℕ) (listed : IsConfig old.arities config) where
  module _ (m n : Machine) (at : Simulates old names files w config n) (group : old.has around.group.0 config ≡ m.active)
      (sections : map (section_at old config) (reverse around.sections.items) ≡ m.sections) where
    kept : Simulates new names files w config n
    kept = simulates-kept keeps w owns names files config n listed is at

    active-now : new.has around.group.0 config ≡ m.active
    active-now = keeps.at around.group.0 config group_own listed ∙ group

    sections-now : map (section_at new config) (reverse around.sections.items) ≡ m.sections
    sections-now = sections-kept keeps config listed around.sections.items sections_own ∙ sections

    acting-now : new.has next.acting.0 config ≡ (m.active && is_none n.fault)
    acting-now = leaves.acting.at config (IsConfig-Keeps keeps listed) ∙ (ap (λ b. b && old.has w.prepared.live.0 config) group ∙ ap (λ b. m.active && b) at.prepared.live)

    abbrev put-now : List Token
    put-now = map (seen names files) (items_at new w.prepared.list config)

    -- what was put out in the file where its run was closed
    pub put-inside : n.fault ≡ None → n.state.run ≡ [] → put-now ≡ n.state.output
    put-inside none unrun = (text-empty n.state _ put-now _ _ unrun (kept.text none).text).1

    -- the machine goes on in the state around, with the text that was read there
    pub resumes : (run output : List Token) → (n.fault ≡ None → RunAt new names files around.runs w.prepared.list config (resumed m n run output).state)
        → Simulates new names files next config (resumed m n run output)
    resumes run output text = subst (λ (v : Walk). Simulates new names files v config (resumed m n run output)) (sym leaves.is) (record {
      active = active-now;
      acting = acting-now;
      sections = sections-now;
      prepared = record { live = kept.prepared.live; fault = kept.prepared.fault };
      text = text;
      macros = kept.macros;
      once = kept.once;
    })

    -- or is refused in the file
    pub refuses-inside : (fault : Fault) → n.fault ≡ Some fault → Simulates new names files next config (record m { fault = Some fault })
    refuses-inside fault told = subst (λ (v : Walk). Simulates new names files v config (record m { fault = Some fault })) (sym leaves.is) (record {
      active = active-now;
      acting = acting-now ∙ ap (λ f. m.active && is_none f) told;
      sections = sections-now;
      prepared = record {
        live = kept.prepared.live ∙ ap is_none told;
        fault = kept.prepared.fault ∙ ap option_to_list told;
      };
      text = λ none. cc;
      macros = λ none. cc;
      once = λ none. cc;
    })

-- ---- a fault of some configurations

module _ {old new : Sets} (keeps : Keeps old new) (names files : List (List ℕ)) (w next : Walk) (fault : base.Fault) (refuses : RefusesEach old w (fault ∷ []) new next)
    (owns : Owns old w) (is : IsTable old names w.table) (config : List ℕ) (listed : IsConfig old.arities config) (m : Machine) (at : Simulates old names files w config m) where
  -- the walk where nothing but its faults differs
  refused-walk : Simulates new names files w config m
  refused-walk = simulates-kept keeps w owns names files config m listed is at

  now-listed : IsConfig new.arities config
  now-listed = IsConfig-Keeps keeps listed

  faults-now : (own : IsCond old fault.cond.0) → map (seen_fault files) (faults_at new next.prepared.faults.items config)
      ≡ option_to_list m.fault ++ (if old.has fault.cond.0 config then seen_fault files fault ∷ [] else [])
  faults-now own =
      ap (λ fs. map (seen_fault files) (faults_at new fs config)) refuses.faults
      ∙ (ap (map (seen_fault files)) (faults_at-append new w.prepared.faults.items (fault ∷ []) config)
      ∙ (map-append (seen_fault files) (faults_at new w.prepared.faults.items config) (if new.has fault.cond.0 config then fault ∷ [] else [])
      ∙ (ap (λ fs. fs ++ map (seen_fault files) (if new.has fault.cond.0 config then fault ∷ [] else [])) refused-walk.prepared.fault
      ∙ (ap (λ b. option_to_list m.fault ++ map (seen_fault files) (if b then fault ∷ [] else [])) (keeps.at fault.cond.0 config own listed)
      ∙ ap (λ fs. option_to_list m.fault ++ fs) (map-one (seen_fault files) (old.has fault.cond.0 config) fault)))))

  live-now : new.has next.prepared.live.0 config ≡ (is_none m.fault && is_empty (if old.has fault.cond.0 config then fault ∷ [] else []))
  live-now = refuses.live.at config now-listed ∙ ap (λ b. b && has_none old (fault ∷ []) config) at.prepared.live

  acting-then : new.has next.acting.0 config ≡ (acts m && is_empty (if old.has fault.cond.0 config then fault ∷ [] else []))
  acting-then = refuses.acting.at config now-listed ∙ ap (λ b. b && has_none old (fault ∷ []) config) at.acting

  pub refused-not : IsCond old fault.cond.0 → old.has fault.cond.0 config ≡ false → Simulates new names files next config m
  refused-not own out = subst (λ (v : Walk). Simulates new names files v config m) (sym refuses.same) (record {
    active = refused-walk.active;
    acting = acting-then ∙ (ap (λ b. acts m && is_empty (if b then fault ∷ [] else [])) out ∙ and-true (acts m));
    sections = refused-walk.sections;
    prepared = record {
      live = live-now ∙ (ap (λ b. is_none m.fault && is_empty (if b then fault ∷ [] else [])) out ∙ and-true (is_none m.fault));
      fault = faults-now own ∙ (ap (λ b. option_to_list m.fault ++ (if b then seen_fault files fault ∷ [] else [])) out ∙ append-nil (option_to_list m.fault));
    };
    text = refused-walk.text;
    macros = refused-walk.macros;
    once = refused-walk.once;
  })

  pub refused-here : IsCond old fault.cond.0 → old.has fault.cond.0 config ≡ true → m.fault ≡ None → Simulates new names files next config (record m { fault = Some (seen_fault files fault) })
  refused-here own here none = subst (λ (v : Walk). Simulates new names files v config (record m { fault = Some (seen_fault files fault) })) (sym refuses.same) (record {
    active = refused-walk.active;
    acting = acting-then ∙ (ap (λ b. acts m && is_empty (if b then fault ∷ [] else [])) here ∙ (and-false (acts m) ∙ sym (and-false m.active)));
    sections = refused-walk.sections;
    prepared = record {
      live = live-now ∙ (ap (λ b. is_none m.fault && is_empty (if b then fault ∷ [] else [])) here ∙ and-false (is_none m.fault));
      fault = faults-now own ∙ (ap (λ b. option_to_list m.fault ++ (if b then seen_fault files fault ∷ [] else [])) here ∙ ap (λ f. option_to_list f ++ seen_fault files fault ∷ []) none);
    };
    text = λ absurd_. cc;
    macros = λ absurd_. cc;
    once = λ absurd_. cc;
  })

-- ---- what entering comes to

module _ (x : Context) (name : List ℕ) (depth : ℕ) (m : Machine) where
  -- a configuration that is not among those that enter, that is refused or takes no line, or that
  -- enters the file no more
  pub not-entered : (has acting once : Bool) → acts m ≡ acting → (acts m ≡ true → is_once_file m.state name ≡ once) → ((has && acting) && not once) ≡ false → EntersAt x name depth m has m
  not-entered false acting once e is none = elsewhere
  not-entered true false once e is none = inert e
  not-entered true true true e is none = left_out e (is e)
  not-entered true true false e is none = cc

  -- the machine that is refused
  pub refused-at : (fault : Fault) → acts m ≡ true → record m { fault = Some fault } ≡ arriving m (Err fault)
  refused-at fault acting = ap (λ b. record m { fault = if b then Some fault else m.fault }) (sym acting)

  pub arrived-at : (n : Machine) (u : State) → acts m ≡ true → n ≡ after [] u None → record n { active = m.active; sections = m.sections; state = back m.state n.state } ≡ arriving m (Ok (back m.state u))
  arrived-at n u acting is =
      ap (λ (k : Machine). record k { active = m.active; sections = m.sections; state = back m.state k.state }) is
      ∙ (ap (λ (f : Option Fault). record { active = m.active; sections = m.sections; state = back m.state u; fault = f }) (sym (acts-unfaulty m acting))
      ∙ ap (λ b. record m { state = if b then back m.state u else m.state }) (sym acting))
