-- What remains of a condition for the options of a variable, and the order that this gives.
use Rattle.std.proofs.Common.{◌≡◌, ℕ, zero, suc, ◌+◌, ◌<◌, ◌≤◌, ◌⊎◌, inl, inr, List, [], ◌∷◌, ◌++◌, length, slice_get, slice_index, get_or, Some, All, sym, ap, subst, ◌∙◌, arith, length-append}
use Rattle.std.proofs.lemmas.Bool.{cases_lt}
use Rattle.std.proofs.lemmas.List.{get_or_default}
use Rattle.std.proofs.lemmas.List.Elements.{All-nil, All-cons}
use Rattle.std.proofs.lemmas.Option.{same_Some}
use Rattle.std.proofs.Math.ListN.{get_or-append}
use Rattle.std.proofs.Math.Seq.{get_or-append_seam}
use Rattle.sc_base.specs.declared.id.Cond.{Cond}
use Rattle.sc_base.proofs.Growth.{Extends-keeps}
use Rattle.sc_model.specs.Growth.{Extends}
use Rattle.sc_text.specs.Layout.{HasOrder, sets_of}
use Rattle.sc_model.specs.Sets.{Sets, IsConfig, IsCond, Keeps, DependsFrom}
use Rattle.sc_model.specs.Space.{Space, Variable, arities_of, option_words}
use Rattle.sc_text.specs.Text.{condition_line, condition_at}
use Rattle.sc_model.proofs.SetLemmas.{IsConfig-kept, DependsFrom-same, DependsFrom-Keeps}
use Rattle.sc_show.specs.Prints.{HasWordNames, choices_of}
use Rattle.sc_show.specs.Rules.{tests_of}
use Rattle.sc_show.proofs.PrinterReading.{variable_from-found}

-- the condition of this number is what remains of another for an option of a variable, and depends
-- on later variables alone
pub record IsChild (s : Sets) (conditions : List Cond) (a : Cond) (variable option number : ℕ) : Type 0 where
  pub child : Cond
  pub found : slice_get conditions number ≡ Some child
  pub own : IsCond s child.0
  pub later : DependsFrom s child.0 (variable + 1)
  pub agrees : (c : List ℕ) → IsConfig s.arities c → slice_index c variable ≡ option → s.has child.0 c ≡ s.has a.0 c

-- the numbers are those of the first options
pub record HasChildren (s : Sets) (conditions : List Cond) (a : Cond) (variable : ℕ) (numbers : List ℕ) : Type 0 where
  pub each : (k : ℕ) → k < length numbers → IsChild s conditions a variable k (slice_index numbers k)

module _ {old new : Sets} {ks ls : List Cond} {a : Cond} {v : ℕ} (keeps : Keeps old new) (own : IsCond old a.0) (grows : Extends ks ls) where
  IsChild-grows : {k n : ℕ} → IsChild old ks a v k n → IsChild new ls a v k n
  IsChild-grows is = record {
    child = is.child;
    found = Extends-keeps _ _ is.found grows;
    own = keeps.own _ is.own;
    later = DependsFrom-Keeps keeps is.own is.later;
    agrees = λ c listed chosen.
        let was = IsConfig-kept keeps listed in
        keeps.at is.child.0 c is.own was ∙ is.agrees c was chosen ∙ sym (keeps.at a.0 c own was);
  }

  pub HasChildren-grows : {ns : List ℕ} → HasChildren old ks a v ns → HasChildren new ls a v ns
  HasChildren-grows has = record { each = λ k h. IsChild-grows (has.each k h) }

pub HasChildren-none : {s : Sets} {ks : List Cond} {a : Cond} {v : ℕ} → HasChildren s ks a v []
HasChildren-none = record { each = λ k h. absurd (omega arith) }

pub HasChildren-push : {s : Sets} {ks : List Cond} {a : Cond} {v : ℕ} {ns : List ℕ} (n : ℕ) → IsChild s ks a v (length ns) n → HasChildren s ks a v ns → HasChildren s ks a v (ns ++ n ∷ [])
HasChildren-push {s} {ks} {a} {v} {ns} n child has = record { each = λ k h. by k h (cases_lt k (length ns)) }
  where
    by : (k : ℕ) → k < length (ns ++ n ∷ []) → (k < length ns) ⊎ (length ns ≤ k) → IsChild s ks a v k (slice_index (ns ++ n ∷ []) k)
    by k h (inl below) = subst (IsChild s ks a v k) (sym (get_or-append ns (n ∷ []) 0 k below)) (has.each k below)
    by k h (inr above) =
        let last : length ns ≡ k = omega (arith, length-append ns (n ∷ [])) in
        let at : slice_index (ns ++ n ∷ []) (length ns) ≡ n = get_or-append_seam ns n [] 0 in
        subst (λ j. IsChild s ks a v j (slice_index (ns ++ n ∷ []) j)) last (subst (IsChild s ks a v (length ns)) (sym at) child)

condition_at-tests : (s : Sets) (ks : List Cond) (n : ℕ) (a : Cond) (c : List ℕ) → slice_get ks n ≡ Some a → condition_at (tests_of s ks) n c ≡ s.has a.0 c
condition_at-tests s [] n a c at = absurd (cc)
condition_at-tests s (k ∷ ks) zero a c at = ap (λ (x : Cond). s.has x.0 c) (same_Some k a at)
condition_at-tests s (k ∷ ks) (suc n) a c at = condition_at-tests s ks n a c at

All-choices : (P : ℕ → Type 0) (os : List (List ℕ)) (ns : List ℕ) → All P ns → All (λ (choice : List ℕ × ℕ). P choice.1) (choices_of os ns)
All-choices P [] ns all = All-nil (λ (choice : List ℕ × ℕ). P choice.1)
All-choices P (o ∷ os) [] all = All-nil (λ (choice : List ℕ × ℕ). P choice.1)
All-choices P (o ∷ os) (n ∷ ns) all =
    All-cons (λ (choice : List ℕ × ℕ). P choice.1) (o, n) (choices_of os ns) (all 0 n (omega arith)) (All-choices P os ns (λ k d h. all (suc k) d (omega arith)))

-- a condition's line has the order
pub HasOrder-node : {space : Space} {s : Sets} {ks : List Cond} {a : Cond} {v : ℕ} {ns : List ℕ} (number : ℕ) (variable : Variable) → HasWordNames space → s.arities ≡ arities_of space
    → slice_get space.variables v ≡ Some variable → HasChildren s ks a v ns → HasOrder space (tests_of s ks) (condition_line number variable.name (choices_of (option_words variable.options) ns))
HasOrder-node {space} {s} {ks} {a} {v} {ns} number variable words arities named has = record {
  later = λ place other found.
      let placed = same_Some (0 + v, variable) (place, other) (sym (variable_from-found 0 space.variables v variable words.differ named) ∙ found) in
      let here : v ≡ place = let e : 0 + v ≡ place = ap (λ at. at.0) placed in omega arith in
      All-choices (λ n. DependsFrom (sets_of space (tests_of s ks)) n (place + 1)) (option_words variable.options) ns
      (subst (λ u. All (λ n. DependsFrom (sets_of space (tests_of s ks)) n (u + 1)) ns) here later);
}
  where
    later : (k : ℕ) (d : ℕ) → k < length ns → DependsFrom (sets_of space (tests_of s ks)) (get_or ns k d) (v + 1)
    later k d h =
        let is = has.each k h in
        subst (λ n. DependsFrom (sets_of space (tests_of s ks)) n (v + 1)) (get_or_default ns k 0 d h)
        (DependsFrom-same {s = s} {t = sets_of space (tests_of s ks)} {a = is.child.0} (sym arities) (λ c listed. condition_at-tests s ks _ is.child c is.found) is.later)
