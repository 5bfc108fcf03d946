-- One step of an operation: the operation on what remains for each option of the first variable.
use Rattle.std.proofs.Common.{◌≡◌, ℕ, zero, suc, ◌-◌, ◌<◌, ◌≤◌, List, [], ◌∷◌, ◌++◌, length, inl, inr, sym, ◌∙◌, ap, subst, arith}
use Rattle.std.specs.Prelude.{slice_index}
use Rattle.std.proofs.lemmas.Bool.{cases_lt}
use Rattle.std.proofs.lemmas.List.{length_push, get_or_push, get_or_append_left}
use Rattle.sc_diagram.specs.declared.operation.Application.{Application}
use Rattle.sc_diagram.specs.Diagram.{Diagram, IsDiagram, variable_of}
use Rattle.sc_diagram.specs.Grown.{Grows, IsChoice, AddsOnly, AddsBelow}
use Rattle.sc_diagram.specs.Applied.{IsApplication, Applies, AppliesEach, IsUndecided, application_at, first_of}
use Rattle.sc_diagram.proofs.AppliedLemmas.{first-le, later_cofactor, IsApplication-at, Applies-IsChoice, IsApplication-Grows, Applies-Grows, application_at-Grows, first_of-Grows, IsBefore-Grows}
use Rattle.sc_diagram.proofs.GrownLemmas.{Grows-refl, Grows-trans, AddsBelow-push, AddsBelow-refl}

-- what was made for each option stays
AppliesEach-Grows : {d e : Diagram} {what : Application} {v : ℕ} {results : List ℕ} → Grows d e → IsApplication d what → AppliesEach d what v results → AppliesEach e what v results
AppliesEach-Grows {d} {e} {what} {v} {results} grows is each = record {
  each = λ k within. subst (λ w. Applies e w (slice_index results k)) (sym (application_at-Grows grows what v k is)) (Applies-Grows grows (each.each k within));
}

-- one more option
AppliesEach-push : {d : Diagram} {what : Application} {v r : ℕ} {results : List ℕ} → AppliesEach d what v results → Applies d (application_at d what v (length results)) r → AppliesEach d what v (results ++ r ∷ [])
AppliesEach-push {d} {what} {v} {r} {results} each more = record {
  each = λ k within. elim (cases_lt k (length results)) [
    | inl old ↦ subst (Applies d (application_at d what v k)) (sym (get_or_append_left results (r ∷ []) 0 k old)) (each.each k old)
    | inr past ↦ (
        let at : k ≡ length results = omega (arith, within, length_push results r) in
        let read : slice_index (results ++ r ∷ []) k ≡ r = get_or_push results r 0 k (sym at) in
        subst (Applies d (application_at d what v k)) (sym read) (subst (λ j. Applies d (application_at d what v j) r) (sym at) more)
        )
  ];
}

-- d is the diagram where the operation began, and e the one now
module _ {d e : Diagram} {what : Application} {v : ℕ} (is : IsApplication d what) (open_ : IsUndecided d what) (first : v ≡ first_of d what) (grows : Grows d e) where
  from : v ≤ variable_of d what.left
  from = omega (arith, first, (first-le (variable_of d what.left) (variable_of d what.right)).left)

  within : v < length e.arities
  within = omega (arith, first, open_.inner, ap length grows.arities)

  first_now : v ≡ first_of e what
  first_now = first ∙ sym (first_of-Grows grows what is)

  -- what remains of the nodes decides by later variables
  later_at : (k : ℕ) → k < slice_index e.arities v → v < first_of e (application_at e what v k)
  later_at k in_range =
      let now = IsApplication-Grows grows is in
      let least = first-le (variable_of e what.left) (variable_of e what.right) in
      let left = later_cofactor grows.valid what.left now.left v k within in_range (omega (arith, first_now, least.left)) in
      let right = later_cofactor grows.valid what.right now.right v k within in_range (omega (arith, first_now, least.right)) in
      omega (arith, left, right)

  -- so there is a call for each variable at most
  pub call_is : (w : Application) (k : ℕ) → k < slice_index e.arities v → w ≡ application_at e what v k
      → record { deeper : length e.arities - first_of e w < length d.arities - first_of d what; application : IsApplication e w }
  call_is w k in_range same = record {
    deeper = subst (λ x. length e.arities - first_of e x < length d.arities - first_of d what) (sym same) (omega (arith, later_at k in_range, first, within, ap length grows.arities));
    application = subst (IsApplication e) (sym same) (IsApplication-at grows.valid what (IsApplication-Grows grows is) v k within in_range);
  }

  pub own_tops : {results : List ℕ} → AppliesEach e what v results → (k : ℕ) → k < length results → slice_index results k < length e.nodes
  own_tops each k in_range = (each.each k in_range).own

  -- the results decide by later variables
  pub later_tops : {results : List ℕ} → AppliesEach e what v results → length results ≡ slice_index e.arities v → (k : ℕ) → k < length results → v < variable_of e (slice_index results k)
  later_tops {results} each full k in_range =
      let later = later_at k (omega (arith, full)) in
      let least = first-le (variable_of e (application_at e what v k).left) (variable_of e (application_at e what v k).right) in
      (each.each k in_range).from (suc v) (omega (arith, later, least.left)) (omega (arith, later, least.right))

  -- one more result, in a diagram that has grown again
  pub AppliesEach-more : {f : Diagram} {results : List ℕ} {r : ℕ} (w : Application) → Grows e f → AppliesEach e what v results → w ≡ application_at e what v (length results) → Applies f w r → AppliesEach f what v (results ++ r ∷ [])
  AppliesEach-more {f} {results} {r} w more each same applies =
      let now = IsApplication-Grows grows is in
      AppliesEach-push (AppliesEach-Grows more now each) (subst (λ x. Applies f x r) (same ∙ sym (application_at-Grows more what v (length results) now)) applies)

  -- the choice between the results is the result
  pub Applies-results : {f : Diagram} {results : List ℕ} (r : ℕ) → Grows e f → AppliesEach e what v results → length results ≡ slice_index e.arities v → r < length f.nodes → IsChoice f r v results → Applies f what r
  Applies-results {f} {results} r more each full own choice =
      let all = Grows-trans grows more in
      let now = IsApplication-Grows grows is in
      Applies-IsChoice all.valid what (IsApplication-Grows all is) r v results (IsBefore-Grows all what.operation what.left is.left open_.before) (first ∙ sym (first_of-Grows all what is))
      (omega (arith, within, ap length more.arities)) (omega (arith, full, ap (λ ns. slice_index ns v) more.arities)) own (AppliesEach-Grows more now each) choice

-- the operation on what remains with the first and with the second of two options, one by one
module _ {d : Diagram} {what : Application} {v : ℕ} (valid : IsDiagram d) (is : IsApplication d what) (open_ : IsUndecided d what) (first : v ≡ first_of d what) (two : slice_index d.arities v ≡ 2) where
  pub first_call : (w : Application) → w ≡ application_at d what v 0 → record { deeper : length d.arities - first_of d w < length d.arities - first_of d what; application : IsApplication d w }
  first_call w same = call_is is open_ first (Grows-refl d valid) w 0 (omega (arith, two)) same

  module _ {e : Diagram} (one : Grows d e) where
    two_now : slice_index e.arities v ≡ 2
    two_now = ap (λ ns. slice_index ns v) one.arities ∙ two

    pub second_call : (w : Application) → w ≡ application_at d what v 1 → record { deeper : length e.arities - first_of e w < length d.arities - first_of d what; application : IsApplication e w }
    second_call w same = call_is is open_ first one w 1 (omega (arith, two_now)) (same ∙ sym (application_at-Grows one what v 1 is))

    pub full-both : {f : Diagram} → Grows e f → 2 ≡ slice_index f.arities v
    full-both more = sym (ap (λ ns. slice_index ns v) more.arities ∙ two_now)

    module _ {f : Diagram} (more : Grows e f) {a b : ℕ} (w u : Application) (w_is : w ≡ application_at d what v 0) (u_is : u ≡ application_at d what v 1) (made : Applies e w a) (made_next : Applies f u b) where
      pub each-both : AppliesEach f what v (a ∷ b ∷ [])
      each-both = AppliesEach-more is open_ first one u more (AppliesEach-more is open_ first (Grows-refl d valid) w one none w_is made) (u_is ∙ sym (application_at-Grows one what v 1 is)) made_next
        where
          none : AppliesEach d what v []
          none = record { each = λ k within. absurd (omega (arith, within)) }

      pub adds-both : AddsOnly d e a → AddsOnly e f b → AddsBelow d f (a ∷ b ∷ [])
      adds-both here next = AddsBelow-push more tops (AddsBelow-push one (λ k within. absurd (omega (arith, within))) (AddsBelow-refl d []) here) next
        where
          tops : (k : ℕ) → k < 1 → slice_index (a ∷ []) k < length e.nodes
          tops zero within = made.own
          tops (suc k) within = absurd (omega (arith, within))
