-- What is shown of a list.
use Rattle.std.proofs.Common.{◌≡◌, ℕ, zero, suc, ◌+◌, Bool, true, false, List, [], ◌∷◌, ◌++◌, map, take, slice_get, Some, unwrap_or, All, sym, ap, subst, ◌∙◌, add-one, if◌then◌else◌}
use Rattle.std.proofs.lemmas.List.{map-append}
use Rattle.std.proofs.lemmas.Option.{same_Some, slice_get_within, get_or_from_slice_get}
use Rattle.sc_base.specs.declared.fault.Fault as base
use Rattle.sc_base.specs.declared.id.Cond.{Cond}
use Rattle.sc_guarded.proofs.ItemLemmas.{map-one}
use Rattle.sc_guarded.specs.Items.{faults_at}
use Rattle.sc_base.specs.declared.token.Token.{Token}
use Rattle.sc_base.specs.Seen.{text_at}
use Rattle.sc_model.specs.declared.cause.Cause.TheVariants.{NotFound}
use Rattle.sc_model.specs.Sets.{Sets, IsConfig, IsCond, Keeps}
use Rattle.sc_guarded.specs.Printable.{IsShowable, IsShowableFault}

-- what an index past the end reads
abbrev pub no_fault : base.Fault
no_fault = record { cond = record { 0 = 0 }; cause = NotFound; place = record { file = record { 0 = 0 }; line = 0; column = 0 } }

-- the item at the configurations of a condition
abbrev pub when : {T : Type 0} → Bool → T → List T
when holds item = if holds then item ∷ [] else []

-- one fault more
pub faults_at-more : (s : Sets) (faults : List base.Fault) (i : ℕ) (fault : base.Fault) (c : List ℕ) → slice_get faults i ≡ Some fault
    → faults_at s (take (suc i) faults) c ≡ faults_at s (take i faults) c ++ when (s.has fault.cond.0 c) fault
faults_at-more s [] i fault c at = absurd (cc)
faults_at-more s (x ∷ xs) zero fault c at = ap (λ (y : base.Fault). when (s.has y.cond.0 c) y) (same_Some x fault at)
faults_at-more s (x ∷ xs) (suc i) fault c at = by (s.has x.cond.0 c) (faults_at-more s xs i fault c at)
  where
    by : (b : Bool) → faults_at s (take (suc i) xs) c ≡ faults_at s (take i xs) c ++ when (s.has fault.cond.0 c) fault
        → (if b then x ∷ faults_at s (take (suc i) xs) c else faults_at s (take (suc i) xs) c)
        ≡ (if b then x ∷ faults_at s (take i xs) c else faults_at s (take i xs) c) ++ when (s.has fault.cond.0 c) fault
    by true ih = ap (λ r. x ∷ r) ih
    by false ih = ih

-- the seen faults with one more
pub faults_more : {U : Type 0} (f : base.Fault → U) (old now : Sets) (faults : List base.Fault) (i : ℕ) (fault : base.Fault) (c : List ℕ) → Keeps old now → IsCond old fault.cond.0 → IsConfig old.arities c
    → slice_get faults i ≡ Some fault → map f (faults_at old (take i faults) c) ++ when (now.has fault.cond.0 c) (f fault) ≡ map f (faults_at old (take (i + 1) faults) c)
faults_more f old now faults i fault c keeps own listed at =
    let more = ap (map f) (faults_at-more old faults i fault c at) ∙ map-append f (faults_at old (take i faults) c) (when (old.has fault.cond.0 c) fault)
    ∙ ap (λ r. map f (faults_at old (take i faults) c) ++ r) (map-one f (old.has fault.cond.0 c) fault) in
    rw add-one (ap (λ b. map f (faults_at old (take i faults) c) ++ when b (f fault)) (keeps.at fault.cond.0 c own listed) ∙ sym more)

-- what can be shown still can
pub IsShowable-Keeps : {old new : Sets} {names files : List (List ℕ)} {item : Cond × Token} → Keeps old new → IsShowable old names files item → IsShowable new names files item
IsShowable-Keeps keeps can = record { own = keeps.own _ can.own; held = can.held; file = can.file; plain = can.plain }

pub IsShowableFault-Keeps : {old new : Sets} {files : List (List ℕ)} {fault : base.Fault} → Keeps old new → IsShowableFault old files fault → IsShowableFault new files fault
IsShowableFault-Keeps keeps can = record { own = keeps.own _ can.own; file = can.file }

pub showable_at : {s : Sets} {names files : List (List ℕ)} (list : List (Cond × Token)) (i : ℕ) (item : Cond × Token) → All (IsShowable s names files) list → slice_get list i ≡ Some item
    → IsShowable s names files item
showable_at {s} {names} {files} list i item all at = subst (IsShowable s names files) (get_or_from_slice_get list i item item at) (all i item (slice_get_within list i item at))

pub text_at-slice_get : (texts : List (List ℕ)) (id : ℕ) (text : List ℕ) → slice_get texts id ≡ Some text → text ≡ text_at texts id
text_at-slice_get texts id text at = sym (ap (λ o. unwrap_or o []) at)
