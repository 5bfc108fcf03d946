-- What the answers of a line tell of its configurations.
use Rattle.std.proofs.Common.{◌≡◌, ℕ, Bool, true, false, List, [], ◌∷◌, map, Result, Ok, Err, refl, sym, ap, ◌∙◌}
use Rattle.c11_expressions.specs.Lines.{failure}
use Rattle.c11_macros.specs.Hidden.{Failure}
use Rattle.c11_macros.specs.Text.{fault_of}
use Rattle.sc_base.specs.declared.fault.Fault.{Fault}
use Rattle.sc_base.specs.declared.id.Cond.{Cond}
use Rattle.sc_base.specs.declared.place.Place.{Place}
use Rattle.sc_base.specs.declared.token.Token.{Token}
use Rattle.sc_base.specs.Seen.{seen_place}
use Rattle.sc_guarded.specs.Items.{faults_at, seen_fault}
use Rattle.sc_hoist.specs.Alike.{AreAlike}
use Rattle.sc_if.specs.Decided.{AreAnswers, AreDecided, AreDecidedAlike, IsDecided, Stands, at_hash, failures_of, seen_failure, takes}
use Rattle.sc_if.specs.declared.deciding.Decided.{Decided}
use Rattle.sc_model.proofs.SetLemmas.{IsConfig-Keeps}
use Rattle.sc_model.specs.declared.cause.Cause.{Cause}
use Rattle.sc_model.specs.Fault as model
use Rattle.sc_model.specs.Sets.{Sets, IsConfig, Keeps}
use Rattle.sc_model.specs.declared.standard.Standard.{Standard}

-- ---- faults

abbrev fault_seen : List (List ℕ) → Failure Place → model.Fault
fault_seen files f = fault_of (failure f.cause (seen_place files f.place))

seen-faults : (files : List (List ℕ)) (fs : List Fault) → map (seen_fault files) fs ≡ map (fault_seen files) (map seen_failure fs)
seen-faults files [] = refl
seen-faults files (f ∷ fs) = ap (λ l. seen_fault files f ∷ l) (seen-faults files fs)

no-faults : (fs : List Fault) → map seen_failure fs ≡ [] → fs ≡ []
no-faults [] is = refl
no-faults (f ∷ fs) is = absurd (cc)

stand : (files : List (List ℕ)) (hash : Place) (answer : Result Bool Cause) (taken : Bool) (fs : List Fault) → taken ≡ takes answer → map seen_failure fs ≡ failures_of hash answer
    → Stands (at_hash (seen_place files hash) answer) taken (map (seen_fault files) fs)
stand files hash (Ok is_taken) taken fs is failures = (is, seen-faults files fs ∙ ap (map (fault_seen files)) failures)
stand files hash (Err cause) taken fs is failures = (is, seen-faults files fs ∙ ap (map (fault_seen files)) failures)

-- ---- the answers of a line

module _ {standard : Standard} {old mid new : Sets} {names : List (List ℕ)} {list : List (Cond × Token)} {live : ℕ} {answers : List (Cond × Result Bool Cause)} {hash : Place} {d : Decided}
    (keeps : Keeps old mid) (are : AreAnswers standard old mid names list live answers) (done : AreDecided mid new hash answers d) where
  pub line-decided : (files : List (List ℕ)) (c : List ℕ) → IsConfig old.arities c → old.has live c ≡ true → IsDecided standard old new names files list hash d c
  line-decided files c listed has =
      let place = seen_place files hash in
      let it = are.each c listed has in
      let both = done.each c it.answer (IsConfig-Keeps keeps listed) it.is in
      record {
        answer = at_hash place it.answer;
        comes = it.answers.comes files place;
        stands = stand files hash it.answer (new.has d.taken.0 c) (faults_at new d.faults.items c) both.0 both.1;
      }

  pub line-others : (c : List ℕ) → IsConfig old.arities c → old.has live c ≡ false → (new.has d.taken.0 c ≡ false) × (faults_at new d.faults.items c ≡ [])
  line-others c listed has =
      let it = done.others c (IsConfig-Keeps keeps listed) (are.others c listed has) in
      (it.0, no-faults (faults_at new d.faults.items c) it.1)

  pub line-alike : (a b : List ℕ) → IsConfig old.arities a → IsConfig old.arities b → old.has live a ≡ true → old.has live b ≡ true → AreAlike old a b list → AreDecidedAlike new a b d
  line-alike a b la lb has also same = done.alike a b (IsConfig-Keeps keeps la) (IsConfig-Keeps keeps lb) (are.alike a b la lb (has ∙ sym also) same)
