-- A stage of the walk that refuses the configurations of its faults.
use Rattle.std.proofs.Common.{◌≡◌, ℕ, ◌<◌, ◌&&◌, Bool, true, false, true≢false, List, [], ◌∷◌, ◌++◌, All, map, length, Option, Some, None, append-nil, refl, sym, ap, subst, ◌∙◌, is_none, is_some}
use Rattle.sc_base.specs.declared.fault.Fault as base
use Rattle.sc_prep.proofs.Grown.{held-later, simulates-later}
use Rattle.sc_prep.proofs.Facts.{All-append, Extends-refl, IsConfig-Keeps, IsTable-Keeps, faults_at-Keeps, faults_at-append, map-append}
use Rattle.sc_prep.proofs.Terms.{Extends, Fault, IsCond, IsConfig, IsHeldWalk, IsTable, Keeps, Machine, MacroTable, Owns, RefusesEach, Sets, Simulates, Stage, Walk, acts, any_token, faults_at, has_none, is_empty, macros_at, option_to_list, seen_fault}
use Rattle.sc_prep.proofs.WalkMoves.{owns-kept, same-owns, simulates-kept}

abbrev pub first_fault : {F : Type 0} → Option F → Option F → Option F
first_fault None f = f
first_fault (Some x) f = Some x

-- the machine with this fault, if it is one
abbrev pub with_fault : Machine → Option Fault → Machine
with_fault m fault = record m { fault = first_fault fault m.fault }

-- At the configuration the faults are this one or none, and the machine does this with it.
pub record FaultsAt (s : Sets) (files : List (List ℕ)) (faults : List base.Fault) (c : List ℕ) (m : Machine) (does : Machine → Type 0) : Type 0 where
  pub fault : Option Fault
  pub told : map (seen_fault files) (faults_at s faults c) ≡ option_to_list fault
  pub fresh : is_some fault ≡ true → m.fault ≡ None
  pub done : does (with_fault m fault)

-- without a fault, and with one of a configuration that had none
pub no-fault : {s : Sets} {files : List (List ℕ)} {faults : List base.Fault} {c : List ℕ} {m : Machine} {does : Machine → Type 0}
    → map (seen_fault files) (faults_at s faults c) ≡ [] → does (with_fault m None) → FaultsAt s files faults c m does
no-fault told done = record { fault = None; told = told; fresh = λ some. absurd (true≢false (sym some)); done = done }

pub one-fault : {s : Sets} {files : List (List ℕ)} {faults : List base.Fault} {c : List ℕ} {m : Machine} {does : Machine → Type 0} (fault : Fault)
    → map (seen_fault files) (faults_at s faults c) ≡ fault ∷ [] → m.fault ≡ None → does (with_fault m (Some fault)) → FaultsAt s files faults c m does
one-fault fault told clean done = record { fault = Some fault; told = told; fresh = λ _. clean; done = done }

none-told : {F : Type 0} (f : base.Fault → F) (xs : List base.Fault) (o : Option F) → map f xs ≡ option_to_list o → is_empty xs ≡ is_none o
none-told f [] None e = refl
none-told f [] (Some y) e = absurd (cc)
none-told f (x ∷ xs) None e = absurd (cc)
none-told f (x ∷ xs) (Some y) e = refl

live-with : {F : Type 0} (f o : Option F) → (is_none f && is_none o) ≡ is_none (first_fault o f)
live-with None None = refl
live-with (Some x) None = refl
live-with None (Some y) = refl
live-with (Some x) (Some y) = refl

acts-with : {F : Type 0} (a : Bool) (f o : Option F) → ((a && is_none f) && is_none o) ≡ (a && is_none (first_fault o f))
acts-with true f o = live-with f o
acts-with false f o = refl

faults-with : {F : Type 0} (f o : Option F) → (is_some o ≡ true → f ≡ None) → option_to_list f ++ option_to_list o ≡ option_to_list (first_fault o f)
faults-with f None fresh = append-nil (option_to_list f)
faults-with f (Some x) fresh = ap (λ g. option_to_list g ++ x ∷ []) (fresh refl)

none-first : {F : Type 0} (f o : Option F) → first_fault o f ≡ None → f ≡ None
none-first f None e = e
none-first f (Some x) e = absurd (cc)

module _ (files names more : List (List ℕ)) {old mid new : Sets} (keeps : Keeps old mid) (later : Keeps mid new) (grows : Extends names more) (w next : Walk) (table : MacroTable) (faults : List base.Fault)
    (owns : Owns old w) (is : IsTable old names w.table) (held : IsHeldWalk names (length files) any_token w) (is_table : IsTable mid more table)
    (still : (c text : List ℕ) → IsConfig old.arities c → macros_at mid more table c text ≡ macros_at old names w.table c text)
    (own : All (λ (f : base.Fault). IsCond mid f.cond.0) faults) (refuses : RefusesEach mid (record w { table = table }) faults new next) where
  abbrev turned_to : Walk
  turned_to = record w { table = table }

  owns_mid : Owns mid turned_to
  owns_mid = same-owns keeps w owns table

  module _ (c : List ℕ) (m : Machine) (listed : IsConfig old.arities c) (simulates : Simulates old names files w c m) where
    listed_mid : IsConfig mid.arities c
    listed_mid = IsConfig-Keeps keeps listed

    listed_new : IsConfig new.arities c
    listed_new = IsConfig-Keeps later listed_mid

    at_mid : Simulates mid more files turned_to c m
    at_mid =
        let same = simulates-later grows (Extends-refl files) mid w c m (IsTable-Keeps keeps is) held (simulates-kept keeps w owns names files c m listed is simulates) in
        record {
          active = same.active;
          acting = same.acting;
          sections = same.sections;
          prepared = same.prepared;
          text = same.text;
          macros = λ clean name. still c name listed ∙ simulates.macros clean name;
          once = same.once;
        }

    stored : Simulates new more files turned_to c m
    stored = simulates-kept later turned_to owns_mid more files c m listed_mid is_table at_mid

    entered : (fault : Option Fault) → map (seen_fault files) (faults_at mid faults c) ≡ option_to_list fault → (is_some fault ≡ true → m.fault ≡ None)
        → Simulates new more files next c (with_fault m fault)
    entered fault told fresh =
        let none : has_none mid faults c ≡ is_none fault = none-told (seen_fault files) (faults_at mid faults c) fault told in
        subst (λ (v : Walk). Simulates new more files v c (with_fault m fault)) (sym refuses.same)
        (record {
          active = stored.active;
          acting = refuses.acting.at c listed_new ∙ (ap (λ b. b && has_none mid faults c) at_mid.acting ∙ (ap (λ b. acts m && b) none ∙ acts-with m.active m.fault fault));
          sections = stored.sections;
          prepared = record {
            live = refuses.live.at c listed_new ∙ (ap (λ b. b && has_none mid faults c) at_mid.prepared.live ∙ (ap (λ b. is_none m.fault && b) none ∙ live-with m.fault fault));
            fault =
                ap (λ fs. map (seen_fault files) (faults_at new fs c)) refuses.faults
                ∙ (ap (map (seen_fault files)) (faults_at-append new w.prepared.faults.items faults c)
                ∙ (map-append (seen_fault files) (faults_at new w.prepared.faults.items c) (faults_at new faults c)
                ∙ (ap (λ fs. fs ++ map (seen_fault files) (faults_at new faults c)) stored.prepared.fault
                ∙ (ap (λ fs. option_to_list m.fault ++ fs) (ap (map (seen_fault files)) (faults_at-Keeps faults c later own listed_mid) ∙ told)
                ∙ faults-with m.fault fault fresh))));
          };
          text = λ clean. stored.text (none-first m.fault fault clean);
          macros = λ clean. stored.macros (none-first m.fault fault clean);
          once = λ clean. stored.once (none-first m.fault fault clean);
        })

  owns_next : Owns new next
  owns_next =
      let kept = owns-kept later turned_to owns_mid in
      let IsOwn : base.Fault → Type 0 = λ f. IsCond new f.cond.0 in
      subst (λ (v : Walk). Owns new v) (sym refuses.same) (record {
        group = kept.group;
        acting = refuses.acting.own;
        sections = kept.sections;
        runs = kept.runs;
        once = kept.once;
        prepared = record {
          list = kept.prepared.list;
          faults = subst (All IsOwn) (sym refuses.faults) (All-append IsOwn w.prepared.faults.items faults kept.prepared.faults (λ k d h. later.own _ (own k d h)));
          live = refuses.live.own;
        };
      })

  -- what the stage does with the fault of each configuration
  pub refused-stage : (does : List ℕ → Machine → Machine → Type 0) → All (λ (f : base.Fault). f.place.file.0 < length files) faults
      → ((c : List ℕ) (m : Machine) → IsConfig old.arities c → Simulates old names files w c m → FaultsAt mid files faults c m (does c m))
      → Stage files names old w more new next does
  refused-stage does placed each =
      let IsIn : base.Fault → Type 0 = λ f. f.place.file.0 < length files in
      record {
        simulates = record {
          owns = owns_next;
          table = subst (λ (v : Walk). IsTable new more v.table) (sym refuses.same) (IsTable-Keeps later is_table);
          at = λ c m listed simulates.
              let x = each c m listed simulates in
              record { machine = with_fault m x.fault; done = x.done; simulates = entered c m listed simulates x.fault x.told x.fresh };
        };
        text = record {
          held = subst (λ (v : Walk). IsHeldWalk more (length files) any_token v) (sym refuses.same) (record {
            runs = (held-later grows (Extends-refl files) w held).runs;
            list = (held-later grows (Extends-refl files) w held).list;
            passed = λ k d h. refl;
            faults = subst (All IsIn) (sym refuses.faults) (All-append IsIn w.prepared.faults.items faults held.faults placed);
            once = held.once;
          });
          list = ap (λ (v : Walk). v.prepared.list) refuses.same;
          runs = ap (λ (v : Walk). v.runs) refuses.same;
        };
      }
