-- Tokens that wait, where nothing follows them.
use Rattle.std.proofs.Common.{◌≡◌, ℕ, zero, suc, ◌+◌, ◌&&◌, ◌||◌, not, Bool, true, false, List, [], ◌∷◌, ◌++◌, All, Some, map, take, slice_get, refl, sym, ap, ◌∙◌, subst, arith, append-nil, if◌then◌else◌}
use Rattle.sc_expand.proofs.Ending.{bared}
use Rattle.sc_expand.proofs.Facts.{All-cons, All-head, All-nil, All-push, All-tail, IsConfig-Keeps, IsConfig-kept, faults_at-Keeps, faults_at-append, items_at-append, map-append, map-one}
use Rattle.sc_expand.proofs.Terms.{AreAlike, Cond, Denotes, Failure, Fault, Hidden, IsAlike, IsCond, IsConfig, IsNever, IsRestricted, Keeps, Place, Sets, Token, UnterminatedCall, empty, failures_at, faults_at, is_several, items_at, seen_failure, unclosed_at}
use Rattle.sc_expand.proofs.KeptLemmas.{both-Keeps, restricted-append, restricted-Keeps}
use Rattle.sc_expand.specs.Restricted as restricted

-- the list has an item
abbrev pub is_any : {A : Type 0} → List A → Bool
is_any [] = false
is_any (x ∷ xs) = true

pub any-push : {A : Type 0} (xs : List A) (b : Bool) (x : A) → is_any (xs ++ (if b then x ∷ [] else [])) ≡ (is_any xs || b)
any-push [] true x = refl
any-push [] false x = refl
any-push (y ∷ ys) b x = refl

pub several-push : {A : Type 0} (xs : List A) (b : Bool) (x : A) → is_several (xs ++ (if b then x ∷ [] else [])) ≡ (is_several xs || (b && is_any xs))
several-push [] true x = refl
several-push [] false x = refl
several-push (y ∷ []) true x = refl
several-push (y ∷ []) false x = refl
several-push (y ∷ (z ∷ ys)) b x = refl

module _ {T : Type 0} where
  -- the item of an index is the next of those that were met
  pub next-item : (xs : List (Cond × T)) (i : ℕ) (x : Cond × T) → slice_get xs i ≡ Some x → take (i + 1) xs ≡ take i xs ++ x ∷ []
  next-item [] i x is = absurd (cc)
  next-item (y ∷ ys) zero x is = let same : y ≡ x = cc in ap (λ z. z ∷ []) same
  next-item (y ∷ ys) (suc i) x is = let more : suc i + 1 ≡ suc (i + 1) = omega arith in ap (λ n. take n (y ∷ ys)) more ∙ ap (λ l. y ∷ l) (next-item ys i x is)

  pub next-items : (s : Sets) (xs : List (Cond × T)) (i : ℕ) (x : Cond × T) (c : List ℕ) → slice_get xs i ≡ Some x → items_at s (take (i + 1) xs) c ≡ items_at s (take i xs) c ++ (if s.has x.0.0 c then x.1 ∷ [] else [])
  next-items s xs i x c is = ap (λ l. items_at s l c) (next-item xs i x is) ∙ items_at-append s (take i xs) (x ∷ []) c

-- ---- the items of a list by their index

module _ {T : Type 0} where
  pub at-index : (P : T → Type 0) (xs : List T) (i : ℕ) (x : T) → slice_get xs i ≡ Some x → All P xs → P x
  at-index P [] i x is all = absurd (cc)
  at-index P (y ∷ ys) zero x is all = let same : y ≡ x = cc in subst P same (All-head P y ys all)
  at-index P (y ∷ ys) (suc i) x is all = at-index P ys i x is (All-tail P y ys all)

-- ---- the fault of the first token

pub fault-step : {A B : Type 0} (u : A → B) (here has : Bool) (xs : List A) (x : A)
    → (if here then map u (take 1 xs) else []) ++ (if has && (here && not (is_any xs)) then u x ∷ [] else []) ≡ (if here then map u (take 1 (xs ++ (if has then x ∷ [] else []))) else [])
fault-step u false true xs x = refl
fault-step u false false xs x = refl
fault-step u true true [] x = refl
fault-step u true false [] x = refl
fault-step u true true (y ∷ ys) x = refl
fault-step u true false (y ∷ ys) x = refl

pub left-step : (here a has : Bool) → ((here && not a) && not has) ≡ (here && not (a || has))
left-step true true has = refl
left-step true false has = refl
left-step false a has = refl

-- ---- what is pushed, unless no configuration has it

pub own-bared : (s : Sets) (xs : List (Cond × Hidden)) (n : ℕ) → All (λ (x : Cond × Hidden). IsCond s x.0.0) xs → All (λ (x : Cond × Token). IsCond s x.0.0) (map bared (take n xs))
own-bared s xs zero all = All-nil (λ (x : Cond × Token). IsCond s x.0.0)
own-bared s [] (suc n) all = All-nil (λ (x : Cond × Token). IsCond s x.0.0)
own-bared s (x ∷ xs) (suc n) all =
    All-cons (λ (x : Cond × Token). IsCond s x.0.0) (bared x) (map bared (take n xs)) (All-head (λ (x : Cond × Hidden). IsCond s x.0.0) x xs all) (own-bared s xs n (All-tail (λ (x : Cond × Hidden). IsCond s x.0.0) x xs all))

pub data Adds {X : Type 0} (s : Sets) (cond : ℕ) (x : X) (before after : List X) : Type 0 where
  added : (IsNever s cond → ⊥) → after ≡ before ++ x ∷ [] → Adds s cond x before after
  left_out : IsNever s cond → after ≡ before → Adds s cond x before after

pub restricted-next : {T : Type 0} {old new : Sets} (keeps : Keeps old new) (live : ℕ) → IsCond old live → (xs us after : List (Cond × T)) → All (λ (x : Cond × T). IsCond old x.0.0) xs → (x : Cond × T) → IsCond old x.0.0 → (cond : Cond)
    → Denotes new cond.0 (λ c. old.has x.0.0 c && old.has live c) → Adds new cond.0 (cond, x.1) us after → IsRestricted old live xs us → IsRestricted new live (xs ++ x ∷ []) after
restricted-next {old = old} {new} keeps live live_own xs us after own x x_own cond met adds r = by adds
  where
    here : (c : List ℕ) → IsConfig new.arities c → new.has cond.0 c ≡ (new.has x.0.0 c && new.has live c)
    here c listed = met.at c listed ∙ sym (both-Keeps keeps x.0.0 live x_own live_own c (IsConfig-kept keeps listed))

    by : Adds new cond.0 (cond, x.1) us after → IsRestricted new live (xs ++ x ∷ []) after
    by (added some is) = subst (IsRestricted new live (xs ++ x ∷ [])) (sym is)
        (restricted-append new live xs (x ∷ []) us ((cond, x.1) ∷ []) (restricted-Keeps keeps live live_own xs us own r) (restricted.kept cond x [] [] (record { own = met.own; at = here }) some empty))
    by (left_out never is) = subst (IsRestricted new live (xs ++ x ∷ [])) (append-nil us ∙ sym is)
        (restricted-append new live xs (x ∷ []) us [] (restricted-Keeps keeps live live_own xs us own r) (restricted.left_out x [] [] (λ c listed. sym (here c listed) ∙ never.none c listed) empty))

-- ---- the faults

items-alike : {T : Type 0} (s : Sets) (c d : List ℕ) (n : ℕ) (xs : List (Cond × T)) → AreAlike s c d xs → items_at s (take n xs) c ≡ items_at s (take n xs) d
items-alike s c d zero xs all = refl
items-alike s c d (suc n) [] all = refl
items-alike {T} s c d (suc n) (x ∷ xs) all =
    let P : Cond × T → Type 0 = λ x. IsAlike s c d x.0 in
    let first : s.has x.0.0 c ≡ s.has x.0.0 d = All-head P x xs all in
    let rest = items-alike s c d n xs (All-tail P x xs all) in
    λ i. if first i then x.1 ∷ rest i else rest i

abbrev pub faults_told : Sets → ℕ → List (Cond × Hidden) → List ℕ → List (Failure Place)
faults_told s cond list c = if s.has cond c then map unclosed_at (take 1 (items_at s list c)) else []

module _ {first old now : Sets} (was : Keeps first old) (keeps : Keeps old now) (list : List (Cond × Hidden)) (i : ℕ) (item : Cond × Hidden) (at : slice_get list i ≡ Some item)
    (cond : ℕ) (met : Cond) (told : Denotes now met.0 (λ c. first.has item.0.0 c && (first.has cond c && not (is_any (items_at first (take i list) c))))) where
  abbrev fault : Fault
  fault = record { cond = met; cause = UnterminatedCall; place = item.1.token.place }

  here : (c : List ℕ) → IsConfig first.arities c → now.has met.0 c ≡ (first.has item.0.0 c && (first.has cond c && not (is_any (items_at first (take i list) c))))
  here c listed = told.at c (IsConfig-Keeps keeps (IsConfig-Keeps was listed))

  one-more : (before after : List Fault) → Adds now met.0 fault before after → (c : List ℕ) → IsConfig first.arities c → failures_at now after c ≡ failures_at now before c ++ (if now.has met.0 c then unclosed_at item.1 ∷ [] else [])
  one-more before after (added some is) c listed =
      ap (λ l. failures_at now l c) is
      ∙ (ap (map seen_failure) (faults_at-append now before (fault ∷ []) c)
      ∙ (map-append seen_failure (faults_at now before c) (faults_at now (fault ∷ []) c) ∙ ap (λ l. failures_at now before c ++ l) (map-one seen_failure (now.has met.0 c) fault)))
  one-more before after (left_out never is) c listed =
      ap (λ l. failures_at now l c) is
      ∙ (sym (append-nil (failures_at now before c)) ∙ ap (λ b. failures_at now before c ++ (if b then unclosed_at item.1 ∷ [] else [])) (sym (never.none c (IsConfig-Keeps keeps (IsConfig-Keeps was listed)))))

  pub faults-next : (before after : List Fault) → Adds now met.0 fault before after → All (λ (f : Fault). IsCond old f.cond.0) before → ((c : List ℕ) → IsConfig first.arities c → failures_at old before c ≡ faults_told first cond (take i list) c)
      → (c : List ℕ) → IsConfig first.arities c → failures_at now after c ≡ faults_told first cond (take (i + 1) list) c
  faults-next before after adds own faults c listed =
      let items = items_at first (take i list) c in
      one-more before after adds c listed
      ∙ (ap (λ l. map seen_failure l ++ (if now.has met.0 c then unclosed_at item.1 ∷ [] else [])) (faults_at-Keeps before c keeps own (IsConfig-Keeps was listed))
      ∙ (ap (λ l. l ++ (if now.has met.0 c then unclosed_at item.1 ∷ [] else [])) (faults c listed)
      ∙ (ap (λ b. faults_told first cond (take i list) c ++ (if b then unclosed_at item.1 ∷ [] else [])) (here c listed)
      ∙ (fault-step unclosed_at (first.has cond c) (first.has item.0.0 c) items item.1 ∙ ap (λ l. if first.has cond c then map unclosed_at (take 1 l) else []) (sym (next-items first list i item c at))))))

  -- what holds of the faults and of the new one, which some configuration has
  pub all-next : (P : Fault → Type 0) (before after : List Fault) → Adds now met.0 fault before after → All P before → ((IsNever now met.0 → ⊥) → P fault) → All P after
  all-next P before after (added some is) all last = subst (All P) (sym is) (All-push P before fault all (last some))
  all-next P before after (left_out never is) all last = subst (All P) (sym is) all

  pub met-alike : (c d : List ℕ) → IsConfig first.arities c → IsConfig first.arities d → first.has cond c ≡ first.has cond d → AreAlike first c d list → now.has met.0 c ≡ now.has met.0 d
  met-alike c d p q same all =
      let item_same : first.has item.0.0 c ≡ first.has item.0.0 d = at-index (λ (x : Cond × Hidden). IsAlike first c d x.0) list i item at all in
      let items = items-alike first c d i list all in
      here c p ∙ ((λ k. item_same k && (same k && not (is_any (items k)))) ∙ sym (here d q))
