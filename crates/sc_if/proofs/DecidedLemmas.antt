-- Decisions that are made answer by answer.
use Rattle.std.proofs.Common.{◌≡◌, ℕ, ◌+◌, ◌<◌, ◌&&◌, ◌||◌, Bool, true, false, List, [], ◌∷◌, ◌++◌, All, Result, take, length, get_or, refl, sym, ap, subst, ◌∙◌, arith, append-nil, if◌then◌else◌}
use Rattle.std.proofs.lemmas.List.{length-append, take_more}
use Rattle.std.proofs.lemmas.List.Elements.{All-head, All-nil}
use Rattle.sc_base.specs.declared.fault.Fault.{Fault}
use Rattle.sc_base.specs.declared.id.Cond.{Cond}
use Rattle.sc_base.specs.declared.place.Place as declared_place
use Rattle.sc_guarded.proofs.ItemLemmas.{items_at-take}
use Rattle.sc_guarded.specs.Items.{items_at}
use Rattle.sc_hoist.specs.Alike.{AreAlikeFaults, IsAlike}
use Rattle.sc_if.proofs.PutLemmas.{all-parts}
use Rattle.sc_if.specs.Decided.{AreDecided, IsEntered, failures_at, failures_of, takes}
use Rattle.sc_if.specs.declared.deciding.Decided.{Decided}
use Rattle.sc_model.proofs.SetLemmas.{IsConfig-Keeps}
use Rattle.sc_model.specs.declared.cause.Cause.{Cause}
use Rattle.sc_model.specs.Sets.{Sets, Denotes, IsCond, IsConfig, Keeps}

abbrev Answer : Type 0
Answer = Result Bool Cause

-- the only answer is this one, or one before
last-only : (had : Bool) (x : Answer) (before : List Answer) (y : Answer) → before ++ (if had then x ∷ [] else []) ≡ y ∷ [] → had ≡ true → (before ≡ []) × (x ≡ y)
last-only true x [] y is h = (refl, cc)
last-only true x (z ∷ zs) y is h = let long = ap length is in absurd (omega (arith, long, length-append (z ∷ zs) (x ∷ [])))
last-only false x before y is h = absurd (cc)

none-at-all : (had : Bool) (x : Answer) (before : List Answer) → before ++ (if had then x ∷ [] else []) ≡ [] → (before ≡ []) × (had ≡ false)
none-at-all true x [] is = absurd (cc)
none-at-all false x [] is = (refl, refl)
none-at-all had x (z ∷ zs) is = absurd (let long = ap length is in omega (arith, long, length-append (z ∷ zs) (if had then x ∷ [] else [])))

-- ---- no answer yet

pub decided-none : (s : Sets) (hash : declared_place.Place) (d : Decided) → d.faults.items ≡ [] → Denotes s d.taken.0 (λ _. false) → AreDecided s s hash [] d
decided-none s hash d empty never = record {
  own = never.own;
  faults_own = subst (All (λ (f : Fault). IsCond s f.cond.0)) (sym empty) (All-nil (λ (f : Fault). IsCond s f.cond.0));
  places = subst (All (λ (f : Fault). f.place ≡ hash)) (sym empty) (All-nil (λ (f : Fault). f.place ≡ hash));
  each = λ c answer listed is. absurd (nothing answer is);
  others = λ c listed is. (never.at c listed, ap (λ fs. failures_at s fs c) empty);
  alike = λ a b la lb same. record { taken = never.at a la ∙ sym (never.at b lb); faults = subst (AreAlikeFaults s a b) (sym empty) (All-nil (λ (f : Fault). IsAlike s a b f.cond)) };
}
  where
    nothing : (x : Answer) → (let none : List Answer = [] in none) ≡ x ∷ [] → ⊥
    nothing x is = cc

-- ---- one answer more

module _ {old mid new : Sets} {hash : declared_place.Place} (xs : List (Cond × Answer)) (i : ℕ) (x : Cond × Answer) (d e : Decided) (within : i < length xs) (is_next : x ≡ get_or xs i x)
    (keeps : Keeps old mid) (own : IsCond old x.0.0) (done : AreDecided old mid hash (take i xs) d) (more : IsEntered mid new hash x.0 x.1 d e) where
  module _ (c : List ℕ) (listed : IsConfig old.arities c) where
    same_cond : mid.has x.0.0 c ≡ old.has x.0.0 c
    same_cond = keeps.at x.0.0 c own listed

    taken-is : new.has e.taken.0 c ≡ (mid.has d.taken.0 c || (old.has x.0.0 c && takes x.1))
    taken-is = more.taken c (IsConfig-Keeps keeps listed) ∙ ap (λ h. mid.has d.taken.0 c || (h && takes x.1)) same_cond

    failures-are : failures_at new e.faults.items c ≡ failures_at mid d.faults.items c ++ (if old.has x.0.0 c then failures_of hash x.1 else [])
    failures-are = more.failures c (IsConfig-Keeps keeps listed) done.faults_own ∙ ap (λ h. failures_at mid d.faults.items c ++ (if h then failures_of hash x.1 else [])) same_cond

    answers-are : items_at old (take (i + 1) xs) c ≡ items_at old (take i xs) c ++ (if old.has x.0.0 c then x.1 ∷ [] else [])
    answers-are = items_at-take old xs i x c within is_next

    -- what this answer leaves
    taken-other : (had : Bool) → old.has x.0.0 c ≡ had → had ≡ false → new.has e.taken.0 c ≡ mid.has d.taken.0 c
    taken-other true is lacks = absurd (cc)
    taken-other false is lacks = taken-is ∙ (ap (λ h. mid.has d.taken.0 c || (h && takes x.1)) is ∙ or-false (mid.has d.taken.0 c))
      where
        or-false : (t : Bool) → (t || false) ≡ t
        or-false true = refl
        or-false false = refl

    failures-other : (had : Bool) → old.has x.0.0 c ≡ had → had ≡ false → failures_at new e.faults.items c ≡ failures_at mid d.faults.items c
    failures-other true is lacks = absurd (cc)
    failures-other false is lacks = failures-are ∙ (ap (λ h. failures_at mid d.faults.items c ++ (if h then failures_of hash x.1 else [])) is ∙ append-nil (failures_at mid d.faults.items c))

    next-others : items_at old (take (i + 1) xs) c ≡ [] → (new.has e.taken.0 c ≡ false) × (failures_at new e.faults.items c ≡ [])
    next-others is =
        let none = none-at-all (old.has x.0.0 c) x.1 (items_at old (take i xs) c) (sym answers-are ∙ is) in
        let before = done.others c listed none.0 in
        (taken-other (old.has x.0.0 c) refl none.1 ∙ before.0, failures-other (old.has x.0.0 c) refl none.1 ∙ before.1)

    next-each : (had : Bool) → old.has x.0.0 c ≡ had → (y : Answer) → items_at old (take (i + 1) xs) c ≡ y ∷ [] → (new.has e.taken.0 c ≡ takes y) × (failures_at new e.faults.items c ≡ failures_of hash y)
    next-each true has y is =
        let only = last-only true x.1 (items_at old (take i xs) c) y (sym (answers-are ∙ ap (λ h. items_at old (take i xs) c ++ (if h then x.1 ∷ [] else [])) has) ∙ is) refl in
        let before = done.others c listed only.0 in
        (taken-is ∙ ((λ j. before.0 j || (has j && takes x.1)) ∙ ap takes only.1), failures-are ∙ ((λ j. before.1 j ++ (if has j then failures_of hash x.1 else [])) ∙ ap (failures_of hash) only.1))
    next-each false has y is =
        let answers = sym (answers-are ∙ (ap (λ h. items_at old (take i xs) c ++ (if h then x.1 ∷ [] else [])) has ∙ append-nil (items_at old (take i xs) c))) ∙ is in
        let before = done.each c y listed answers in
        (taken-other false has refl ∙ before.0, failures-other false has refl ∙ before.1)

  pub decided-more : AreDecided old new hash (take (i + 1) xs) e
  decided-more = record {
    own = more.own;
    faults_own = more.faults_own done.faults_own;
    places = more.places done.places;
    each = λ c answer listed is. next-each c listed (old.has x.0.0 c) refl answer is;
    others = λ c listed is. next-others c listed is;
    alike = λ p q lp lq same.
        let Same : Cond × Answer → Type 0 = λ y. IsAlike old p q y.0 in
        let both = all-parts Same (take i xs) (get_or xs i x ∷ []) (subst (All Same) (take_more xs i x within) same) in
        let here : IsAlike old p q x.0 = subst Same (sym is_next) (All-head Same (get_or xs i x) [] both.1) in
        more.alike p q (IsConfig-Keeps keeps lp) (IsConfig-Keeps keeps lq) done.faults_own (same_cond p lp ∙ (here ∙ sym (same_cond q lq))) (done.alike p q lp lq both.0);
  }
