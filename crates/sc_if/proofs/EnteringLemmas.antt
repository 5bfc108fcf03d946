-- An answer that is entered for the configurations of a condition.
use Rattle.std.proofs.Common.{◌≡◌, ◌∷◌, ◌++◌, ◌&&◌, ◌||◌, Bool, true, false, List, [], All, Ok, Err, map, refl, sym, ap, subst, ◌∙◌, append-nil, if◌then◌else◌}
use Rattle.std.proofs.lemmas.List.{map-append}
use Rattle.std.proofs.lemmas.List.Elements.{All-push}
use Rattle.c11_macros.specs.Hidden.{Failure}
use Rattle.sc_base.specs.declared.fault.Fault.{Fault}
use Rattle.sc_base.specs.declared.id.Cond.{Cond}
use Rattle.sc_base.specs.declared.place.Place.{Place}
use Rattle.sc_guarded.proofs.ItemLemmas.{faults_at-append, faults_at-Keeps, map-one}
use Rattle.sc_guarded.specs.Items.{faults_at}
use Rattle.sc_hoist.specs.Alike.{AreAlikeFaults, IsAlike}
use Rattle.sc_if.specs.Decided.{IsEntered, failures_at, seen_failure}
use Rattle.sc_if.specs.declared.deciding.Decided.{Decided}
use Rattle.sc_model.proofs.SetLemmas.{IsConfig-Keeps}
use Rattle.sc_model.specs.declared.cause.Cause.{Cause}
use Rattle.sc_model.specs.Sets.{Sets, Denotes, IsCond, Keeps}

-- no failure more
none-more : (b : Bool) (l : List (Failure Place)) → l ≡ l ++ (if b then [] else [])
none-more true l = sym (append-nil l)
none-more false l = sym (append-nil l)

-- these configurations take the group
pub entered-taken : (s t : Sets) (hash : Place) (cond : Cond) (d e : Decided) → Keeps s t → e.faults ≡ d.faults → Denotes t e.taken.0 (λ c. s.has d.taken.0 c || s.has cond.0 c) → IsEntered s t hash cond (Ok true) d e
entered-taken s t hash cond d e keeps same told =
    let Placed : Fault → Type 0 = λ f. f.place ≡ hash in
    let Own : Fault → Type 0 = λ f. IsCond t f.cond.0 in
    let items : e.faults.items ≡ d.faults.items = ap (λ fs. fs.items) same in
    record {
      own = told.own;
      faults_own = λ own. subst (All Own) (sym items) (λ k f h. keeps.own _ (own k f h));
      places = λ placed. subst (All Placed) (sym items) placed;
      taken = λ c listed. told.at c (IsConfig-Keeps keeps listed) ∙ ap (λ b. s.has d.taken.0 c || b) (and-true (s.has cond.0 c));
      failures = λ c listed own. ap (λ fs. failures_at t fs c) items ∙ (ap (map seen_failure) (faults_at-Keeps d.faults.items c keeps own listed) ∙ none-more (s.has cond.0 c) (failures_at s d.faults.items c));
      alike = λ a b la lb owned same was. record {
        taken = told.at a (IsConfig-Keeps keeps la) ∙ (ap (λ h. h || s.has cond.0 a) was.taken ∙ (ap (λ h. s.has d.taken.0 b || h) same ∙ sym (told.at b (IsConfig-Keeps keeps lb))));
        faults = subst (AreAlikeFaults t a b) (sym items) (λ k f h. keeps.at _ a (owned k f h) la ∙ (was.faults k f h ∙ sym (keeps.at _ b (owned k f h) lb)));
      };
    }
  where
    and-true : (b : Bool) → b ≡ (b && true)
    and-true true = refl
    and-true false = refl

-- these don't, and nothing changes
pub entered-untaken : (s : Sets) (hash : Place) (cond : Cond) (d : Decided) → IsCond s d.taken.0 → IsEntered s s hash cond (Ok false) d d
entered-untaken s hash cond d own = record {
  own = own;
  faults_own = λ own. own;
  places = λ placed. placed;
  taken = λ c listed. or-none (s.has d.taken.0 c) (s.has cond.0 c);
  failures = λ c listed own. none-more (s.has cond.0 c) (failures_at s d.faults.items c);
  alike = λ a b la lb owned same was. was;
}
  where
    or-none : (t b : Bool) → t ≡ (t || (b && false))
    or-none true b = refl
    or-none false true = refl
    or-none false false = refl

-- the line is refused in these
pub entered-refused : (s : Sets) (cond : Cond) (cause : Cause) (hash : Place) (d e : Decided) → IsCond s d.taken.0 → IsCond s cond.0 → e.taken ≡ d.taken → e.faults.items ≡ d.faults.items ++ (record { cond = cond; cause = cause; place = hash }) ∷ []
    → IsEntered s s hash cond (Err cause) d e
entered-refused s cond cause hash d e own cond_own same items =
    let fault : Fault = record { cond = cond; cause = cause; place = hash } in
    let Placed : Fault → Type 0 = λ f. f.place ≡ hash in
    let Own : Fault → Type 0 = λ f. IsCond s f.cond.0 in
    record {
      own = subst (λ (k : Cond). IsCond s k.0) (sym same) own;
      faults_own = λ owned. subst (All Own) (sym items) (All-push Own d.faults.items fault owned cond_own);
      places = λ placed. subst (All Placed) (sym items) (All-push Placed d.faults.items fault placed refl);
      taken = λ c listed. ap (λ (k : Cond). s.has k.0 c) same ∙ or-none (s.has d.taken.0 c) (s.has cond.0 c);
      failures = λ c listed owned.
          ap (λ fs. failures_at s fs c) items
          ∙ (ap (map seen_failure) (faults_at-append s d.faults.items (fault ∷ []) c)
          ∙ (map-append seen_failure (faults_at s d.faults.items c) (faults_at s (fault ∷ []) c)
          ∙ ap (λ l. failures_at s d.faults.items c ++ l) (map-one seen_failure (s.has cond.0 c) fault)));
      alike = λ a b la lb owned told was. record {
        taken = ap (λ (k : Cond). s.has k.0 a) same ∙ (was.taken ∙ sym (ap (λ (k : Cond). s.has k.0 b) same));
        faults = subst (AreAlikeFaults s a b) (sym items) (All-push (λ (f : Fault). IsAlike s a b f.cond) d.faults.items fault was.faults told);
      };
    }
  where
    or-none : (t b : Bool) → t ≡ (t || (b && false))
    or-none true b = refl
    or-none false true = refl
    or-none false false = refl
