use Rattle.std.proofs.Common.{Bool, List, ℕ, [], length, lit≤, not, sym, subst, true, false, ◌∷◌, ◌≡◌, ◌≤◌, if◌then◌else◌}
use Rattle.std.proofs.lemmas.List.Elements.{All-nil, All-cons}
use Rattle.sc_base.specs.declared.fault.Fault.{Fault}
use Rattle.sc_base.specs.declared.id.Cond.{Cond}
use Rattle.sc_base.specs.declared.id.FileId.{FileId}
use Rattle.sc_guarded.specs.Items.{faults_at}
use Rattle.sc_guarded.specs.Printable.{IsShowableFault}
use Rattle.sc_model.specs.Sets.{Sets, Denotes}
use Rattle.sc_model.specs.declared.cause.Cause.TheVariants.{BadNesting}
use Rattle.tests_texts.proofs.show.text_of_two_faults.Goals as goal

abbrev fault_under : FileId → Cond → Fault
fault_under file cond = record { cond = cond; cause = BadNesting; place = record { file = file; line = 1; column = 1 } }

pub show_tokens-requires-clause-faults : goal.show_tokens-requires-clause-faults
show_tokens-requires-clause-faults g c =
    let P = IsShowableFault (g.C.Conditions.sets c.negate.new.self) c.intern.new.self in
    let first = fault_under c.in_ok-file.file c.in_ok-with.with in
    let second = fault_under c.in_ok-file.file c.in_ok-without.without in
    All-cons P first (second ∷ []) (record { own = c.negate.ensures.keeps.own _ c.in_ok-with.ensures.own; file = c.in_ok-file.ensures.own })
    (All-cons P second [] (record { own = c.in_ok-without.ensures.own; file = c.in_ok-file.ensures.own }) (All-nil P))

few : (p : Bool) (a b : Fault) → length (if p then a ∷ (if not p then b ∷ [] else []) else (if not p then b ∷ [] else [])) ≤ 1
few true a b = lit≤ tt
few false a b = lit≤ tt

-- one of the faults stands where the other does not
one_of : (s : Sets) (a b : Fault) (x : List ℕ) → s.has b.cond.0 x ≡ not (s.has a.cond.0 x) → length (faults_at s (a ∷ b ∷ []) x) ≤ 1
one_of s a b x e =
    let p : Bool = s.has a.cond.0 x in
    subst (λ (q : Bool). length (if p then a ∷ (if q then b ∷ [] else []) else (if q then b ∷ [] else [])) ≤ 1) (sym e) (few p a b)

pub show_tokens-requires-clause-apart : goal.show_tokens-requires-clause-apart
show_tokens-requires-clause-apart g c =
    let s : Sets = g.C.Conditions.sets c.negate.new.self in
    let first = fault_under c.in_ok-file.file c.in_ok-with.with in
    let second = fault_under c.in_ok-file.file c.in_ok-without.without in
    let own = c.in_ok-with.ensures.own in
    let means : Denotes (g.C.Conditions.sets c.choose.new.self) first.cond.0 (s.has first.cond.0) =
    record { own = own; at = λ x listed. sym (c.negate.ensures.keeps.at _ x own listed) } in
    record {
      few = λ x listed.
          one_of s first second x
          ((c.in_ok-without.ensures.meaning (s.has first.cond.0) means).at x listed);
    }
