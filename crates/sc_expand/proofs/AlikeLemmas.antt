-- Configurations that have the same keep it while the store of conditions grows.
use Rattle.std.proofs.Common.{◌≡◌, ◌≤◌, ◌++◌, ◌∷◌, ◌-◌, ℕ, zero, suc, Bool, List, [], All, Some, drop, get_or, length, slice_get, take, inl, inr, refl, sym, ap, subst, arith, ◌∙◌, map, true, false, if◌then◌else◌, ◌&&◌, length-append}
use Rattle.sc_expand.proofs.Facts.{All-cons, All-drop, All-head, All-nil, All-push, All-tail, All-take, cases_lt, get_or_from_slice_get, slice_get-front, slice_get-seam, slice_get_within, All-map, All-set, IsConfig-Keeps, push_cases}
use Rattle.sc_expand.proofs.Terms.{AreAlike, AreAlikeFaults, AreAlikeRefusals, AreHeld, Call, Cond, Denotes, Enclosing, Expansion, Fault, Frame, Hidden, IsAlike, IsAlikeCall, IsAlikeEnclosing, IsAlikeExpansion, IsAlikeFrame, IsAlikeIn, IsCond, IsConfig, IsHeldCall, IsHeldEnclosing, IsHeldExpansion, IsHeldFrame, IsHeldRefusals, Keeps, Others, Refusals, Sets, Span, Stores, no_others, others_at, HasEntered, IsResumed, Wanted, items_at}
use Rattle.std.proofs.lemmas.List.{take-take, take_all, get_or-map, length-map}

-- what holds where both others do
pub All-both : {A : Type 0} (P Q R : A → Type 0) → ((x : A) → P x → Q x → R x) → (xs : List A) → All P xs → All Q xs → All R xs
All-both P Q R both xs p q = λ k d below. both (get_or xs k d) (p k d below) (q k d below)

-- what holds of all holds of the one that stands there
pub All-at : {A : Type 0} (P : A → Type 0) (xs : List A) (i : ℕ) (x : A) → slice_get xs i ≡ Some x → All P xs → P x
All-at P xs i x is all = subst P (get_or_from_slice_get xs i x x is) (all i x (slice_get_within xs i x is))

pub none-told : {A : Type 0} (b : Bool) → ◌≡◌ {A = List A} [] (if b then [] else [])
none-told true = refl
none-told false = refl

pub lacks-first : {A : Type 0} (b : Bool) (x : A) (xs : List A) → (if b then x ∷ xs else xs) ≡ [] → b ≡ false
lacks-first true x xs is = absurd (cc)
lacks-first false x xs is = refl

-- what holds of all that the items are mapped to
pub all-back : {A B : Type 0} (P : B → Type 0) (f : A → B) (xs : List A) → All P (map f xs) → All (λ x. P (f x)) xs
all-back P f xs all = λ k d h. subst P (get_or-map f xs k d (f d) h) (all k (f d) (omega (arith, length-map xs f, h)))

-- ---- a condition that is made of others

pub alike-of : {s : Sets} {c d : List ℕ} {cond : Cond} {f : List ℕ → Bool} → Denotes s cond.0 f → IsConfig s.arities c → IsConfig s.arities d → f c ≡ f d → IsAlike s c d cond
alike-of denotes p q same = denotes.at _ p ∙ (same ∙ sym (denotes.at _ q))

-- ---- the store grows

module _ {old new : Sets} (keeps : Keeps old new) {c d : List ℕ} (p : IsConfig old.arities c) (q : IsConfig old.arities d) where
  pub IsAlike-Keeps : {cond : Cond} → IsCond old cond.0 → IsAlike old c d cond → IsAlike new c d cond
  IsAlike-Keeps {cond} own alike = keeps.at cond.0 c own p ∙ (alike ∙ sym (keeps.at cond.0 d own q))

  pub AreAlike-Keeps : {T : Type 0} (list : List (Cond × T)) → All (λ item. IsCond old item.0.0) list → AreAlike old c d list → AreAlike new c d list
  AreAlike-Keeps {T} list own alike = All-both (λ (item : Cond × T). IsCond old item.0.0) (λ item. IsAlike old c d item.0) (λ item. IsAlike new c d item.0) (λ item made same. IsAlike-Keeps made same) list own alike

  pub AreAlikeFaults-Keeps : (faults : List Fault) → All (λ f. IsCond old f.cond.0) faults → AreAlikeFaults old c d faults → AreAlikeFaults new c d faults
  AreAlikeFaults-Keeps faults own alike = All-both (λ (f : Fault). IsCond old f.cond.0) (λ f. IsAlike old c d f.cond) (λ f. IsAlike new c d f.cond) (λ f made same. IsAlike-Keeps made same) faults own alike

  pub AreAlikeRefusals-Keeps : {files : ℕ} (others : ℕ) (r : Refusals) → IsHeldRefusals old files r → AreAlikeRefusals old c d others r → AreAlikeRefusals new c d others r
  AreAlikeRefusals-Keeps others r held alike = record {
    live = IsAlike-Keeps held.live alike.live;
    waiting = IsAlike-Keeps held.waiting alike.waiting;
    faults = AreAlikeFaults-Keeps (drop others r.faults.items) (All-drop (λ (f : Fault). IsCond old f.cond.0) others r.faults.items held.own) alike.faults;
  }

module _ {old : Stores} {new : Sets} (keeps : Keeps old.sets new) {c d : List ℕ} (p : IsConfig old.sets.arities c) (q : IsConfig old.sets.arities d) {files : ℕ} where
  pub IsAlikeCall-Keeps : (call : Call) → IsHeldCall old files call → IsAlikeCall old.sets c d call → IsAlikeCall new c d call
  IsAlikeCall-Keeps call held alike = record {
    cond = IsAlike-Keeps keeps p q held.own alike.cond;
    expanded = All-both (AreHeld old files) (AreAlike old.sets c d) (AreAlike new c d) (λ list made same. AreAlike-Keeps keeps p q list made.own same) call.expanded.items held.expanded alike.expanded;
  }

  pub IsAlikeFrame-Keeps : (others : Others) (frame : Frame) → IsHeldFrame old files frame → IsAlikeFrame old.sets c d others frame → IsAlikeFrame new c d others frame
  IsAlikeFrame-Keeps others frame held alike =
      let Own : Cond × Hidden → Type 0 = λ item. IsCond old.sets item.0.0 in
      let n = length frame.work - others.behind in
      record {
        work = AreAlike-Keeps keeps p q (take n frame.work) (All-take Own n frame.work held.work.own) alike.work;
        out = AreAlike-Keeps keeps p q (drop others.out frame.out) (All-drop Own others.out frame.out held.out.own) alike.out;
        calls = All-both (IsHeldCall old files) (IsAlikeCall old.sets c d) (IsAlikeCall new c d) (λ call made same. IsAlikeCall-Keeps call made same) frame.calls.items held.calls alike.calls;
      }

  pub IsAlikeEnclosing-Keeps : (others : Others) (o : Enclosing) → IsHeldEnclosing old files o → IsAlikeEnclosing old.sets c d others o → IsAlikeEnclosing new c d others o
  IsAlikeEnclosing-Keeps others o held alike = record { frame = IsAlikeFrame-Keeps others o.frame held.frame alike.frame; call = IsAlikeCall-Keeps o.call held.call alike.call }

  pub IsAlikeExpansion-Keeps : (others : Others) (e : Expansion) → IsHeldExpansion old files e → IsAlikeExpansion old.sets c d others e → IsAlikeExpansion new c d others e
  IsAlikeExpansion-Keeps others e held alike = record {
    refusals = AreAlikeRefusals-Keeps keeps p q others.faults e.refusals held.refusals alike.refusals;
    top = IsAlikeFrame-Keeps (others_at others (length e.below.items)) e.top held.top alike.top;
    below = λ n o is. IsAlikeEnclosing-Keeps (others_at others n) o (All-at (IsHeldEnclosing old files) e.below.items n o is held.below) (alike.below n o is);
  }

  pub IsAlikeIn-Keeps : (span : Span) (e : Expansion) → IsHeldExpansion old files e → IsAlikeIn old.sets c d span e → IsAlikeIn new c d span e
  IsAlikeIn-Keeps span e held alike = record {
    refusals = AreAlikeRefusals-Keeps keeps p q span.faults e.refusals held.refusals alike.refusals;
    work = AreAlike-Keeps keeps p q (take span.work e.top.work) (All-take (λ (item : Cond × Hidden). IsCond old.sets item.0.0) span.work e.top.work held.top.work.own) alike.work;
    out = AreAlike-Keeps keeps p q (drop span.out e.top.out) (All-drop (λ (item : Cond × Hidden). IsCond old.sets item.0.0) span.out e.top.out held.top.out.own) alike.out;
    calls = All-both (IsHeldCall old files) (IsAlikeCall old.sets c d) (IsAlikeCall new c d) (λ call made same. IsAlikeCall-Keeps call made same) e.top.calls.items held.top.calls alike.calls;
  }

-- ---- all that is looked at is the longest span

abbrev pub whole : Others → Expansion → Span
whole others e =
    let here = others_at others (length e.below.items) in
    record { work = length e.top.work - here.behind; out = here.out; faults = others.faults }

pub in-whole : {s : Sets} {c d : List ℕ} (others : Others) (e : Expansion) → IsAlikeExpansion s c d others e → IsAlikeIn s c d (whole others e) e
in-whole others e alike = record { refusals = alike.refusals; work = alike.top.work; out = alike.top.out; calls = alike.top.calls }

-- the span of as many tokens or more
pub whole-in : {s : Sets} {c d : List ℕ} (others : Others) (span : Span) (e : Expansion) → (whole others e).work ≤ span.work → span.out ≡ (whole others e).out → span.faults ≡ others.faults → IsAlikeIn s c d span e
    → ((n : ℕ) (o : Enclosing) → slice_get e.below.items n ≡ Some o → IsAlikeEnclosing s c d (others_at others n) o) → IsAlikeExpansion s c d others e
whole-in {s} {c} {d} others span e all out faults alike below =
    let n = (whole others e).work in
    record {
      refusals = record { live = alike.refusals.live; waiting = alike.refusals.waiting; faults = subst (λ k. AreAlikeFaults s c d (drop k e.refusals.faults.items)) faults alike.refusals.faults };
      top = record {
        work = subst (AreAlike s c d) (take-take n span.work e.top.work all) (All-take (λ (item : Cond × Hidden). IsAlike s c d item.0) n (take span.work e.top.work) alike.work);
        out = subst (λ k. AreAlike s c d (drop k e.top.out)) out alike.out;
        calls = alike.calls;
      };
      below = below;
    }

-- ---- the lists below

module _ {s : Sets} {c d : List ℕ} {others : Others} (e : Expansion) (below : List Enclosing) (o : Enclosing) (are : e.below.items ≡ below ++ o ∷ []) (alike : IsAlikeExpansion s c d others e) where
  pub enclosing-last : IsAlikeEnclosing s c d (others_at others (length below)) o
  enclosing-last = alike.below (length below) o (ap (λ l. slice_get l (length below)) are ∙ slice_get-seam below o [])

  pub enclosing-others : (n : ℕ) (k : Enclosing) → slice_get below n ≡ Some k → IsAlikeEnclosing s c d (others_at others n) k
  enclosing-others n k is = alike.below n k (ap (λ l. slice_get l n) are ∙ (slice_get-front below (o ∷ []) n (slice_get_within below n k is) ∙ is))

-- ---- where there are no others

pub others-none : (n : ℕ) → others_at no_others n ≡ no_others
others-none zero = refl
others-none (suc n) = refl

module _ {T : Type 0} (s : Sets) (c d : List ℕ) (list : List (Cond × T)) where
  pub of-all : AreAlike s c d list → AreAlike s c d (take (length list - 0) list)
  of-all alike = All-take (λ (item : Cond × T). IsAlike s c d item.0) (length list - 0) list alike

  pub all-of : AreAlike s c d (take (length list - 0) list) → AreAlike s c d list
  all-of alike = subst (AreAlike s c d) (take_all (length list - 0) list (omega arith)) alike

-- ---- one more behind so many others

pub All-drop-push : {A : Type 0} (P : A → Type 0) (n : ℕ) (xs : List A) (x : A) → All P (drop n xs) → P x → All P (drop n (xs ++ x ∷ []))
All-drop-push P zero xs x all is = All-push P xs x all is
All-drop-push P (suc n) [] x all is = All-drop P n [] (All-nil P)
All-drop-push P (suc n) (y ∷ ys) x all is = All-drop-push P n ys x all is

-- ---- all but so many at the end

module _ {A : Type 0} (P : A → Type 0) (n : ℕ) where
  pub All-but-tail : (x : A) (xs : List A) → All P (take (length (x ∷ xs) - n) (x ∷ xs)) → All P (take (length xs - n) xs)
  All-but-tail x xs all = elim (cases_lt (length xs) n) [
    | inl few ↦
        let none : length xs - n ≡ 0 = omega (arith, few) in
        subst (λ k. All P (take k xs)) (sym none) (All-nil P)
    | inr many ↦
        let one : length (x ∷ xs) - n ≡ suc (length xs - n) = omega (arith, many) in
        All-tail P x (take (length xs - n) xs) (subst (λ k. All P (take k (x ∷ xs))) one all)
  ]

  -- others before them
  pub All-but-put : (xs ys : List A) → All P xs → All P (take (length ys - n) ys) → All P (take (length (xs ++ ys) - n) (xs ++ ys))
  All-but-put [] ys first rest = rest
  All-but-put (x ∷ xs) ys first rest =
      let later = All-but-put xs ys (All-tail P x xs first) rest in
      elim (cases_lt (length (xs ++ ys)) n) [
        | inl few ↦
            let none : length (x ∷ (xs ++ ys)) - n ≡ 0 = omega (arith, few) in
            subst (λ k. All P (take k (x ∷ (xs ++ ys)))) (sym none) (All-nil P)
        | inr many ↦
            let one : length (x ∷ (xs ++ ys)) - n ≡ suc (length (xs ++ ys) - n) = omega (arith, many) in
            subst (λ k. All P (take k (x ∷ (xs ++ ys)))) (sym one) (All-cons P x (take (length (xs ++ ys) - n) (xs ++ ys)) (All-head P x xs first) later)
      ]

-- configurations that have the same of a call have the same of what replaces it, and of its
-- argument as it is entered and left

-- ---- lists

module _ {T : Type 0} (s : Sets) (c d : List ℕ) where
  abbrev pub Same : Cond × T → Type 0
  Same item = IsAlike s c d item.0

  -- the items that stand at both are the same
  pub items_at-alike : (list : List (Cond × T)) → AreAlike s c d list → items_at s list c ≡ items_at s list d
  items_at-alike [] alike = refl
  items_at-alike (x ∷ xs) alike =
      ap (λ b. if b then x.1 ∷ items_at s xs c else items_at s xs c) (All-head Same x xs alike)
      ∙ ap (λ r. if s.has x.0.0 d then x.1 ∷ r else r) (items_at-alike xs (All-tail Same x xs alike))

  pub AreAlike-nil : AreAlike {T = T} s c d []
  AreAlike-nil = All-nil Same

  -- items under the same conditions
  pub AreAlike-conditions : (xs ys : List (Cond × T)) → map (λ (item : Cond × T). item.0) ys ≡ map (λ (item : Cond × T). item.0) xs → AreAlike s c d xs → AreAlike s c d ys
  AreAlike-conditions xs [] same alike = All-nil Same
  AreAlike-conditions [] (y ∷ ys) same alike = absurd (cc)
  AreAlike-conditions (x ∷ xs) (y ∷ ys) same alike =
      let cond : y.0 ≡ x.0 = cc in
      let rest : map (λ (item : Cond × T). item.0) ys ≡ map (λ (item : Cond × T). item.0) xs = cc in
      All-cons Same y ys (subst (λ (k : Cond). IsAlike s c d k) (sym cond) (All-head Same x xs alike)) (AreAlike-conditions xs ys rest (All-tail Same x xs alike))

-- each of several lists
pub lists-Keeps : {old new : Sets} (keeps : Keeps old new) {c d : List ℕ} (p : IsConfig old.arities c) (q : IsConfig old.arities d) {T : Type 0} (lists : List (List (Cond × T)))
    → All (All (λ (item : Cond × T). IsCond old item.0.0)) lists → All (AreAlike old c d) lists → All (AreAlike new c d) lists
lists-Keeps {old} {new} keeps {c} {d} p q {T} lists own alike =
    All-both (All (λ (item : Cond × T). IsCond old item.0.0)) (AreAlike old c d) (AreAlike new c d) (λ list made same. AreAlike-Keeps keeps p q list made same) lists own alike

-- ---- a call that goes on

-- the call, in those that were not refused
pub alike-narrowed : {old : Stores} {new : Sets} (keeps : Keeps old.sets new) {c d : List ℕ} (p : IsConfig old.sets.arities c) (q : IsConfig old.sets.arities d) {files : ℕ} (live : Cond) (call later : Call)
    → IsHeldCall old files call → Denotes new later.cond.0 (λ x. old.sets.has call.cond.0 x && old.sets.has live.0 x) → later.expanded ≡ call.expanded
    → IsAlike old.sets c d live → IsAlikeCall old.sets c d call → IsAlikeCall new c d later
alike-narrowed {old} {new} keeps {c} {d} p q {files} live call later held meaning expanded live_alike alike = record {
  cond = alike-of meaning (IsConfig-Keeps keeps p) (IsConfig-Keeps keeps q) (λ i. alike.cond i && live_alike i);
  expanded = subst (λ lists. All (AreAlike new c d) lists.items) (sym expanded) (IsAlikeCall-Keeps {old = old} keeps p q call held alike).expanded;
}

module _ (s : Sets) (c d : List ℕ) (others : Others) (e after : Expansion) where
  long : (o : Enclosing) (below : List Enclosing) → length (below ++ o ∷ []) ≡ suc (length below)
  long o below = omega (arith, length-append below (o ∷ []))

  -- an argument is entered
  pub alike-enter : (call : Call) (w : Wanted) → after.refusals ≡ e.refusals → HasEntered e after call w → IsAlikeCall s c d call → IsAlikeExpansion s c d others e → IsAlikeExpansion s c d others after
  alike-enter call w refusals entered call_alike alike =
      let o : Enclosing = record { frame = e.top; call = call; parameter = w.parameter } in
      let above : length after.below.items ≡ suc (length e.below.items) = ap length entered.below ∙ long o e.below.items in
      record {
        refusals = subst (AreAlikeRefusals s c d others.faults) (sym refusals) alike.refusals;
        top = subst (λ n. IsAlikeFrame s c d (others_at others n) after.top) (sym above) (record {
          work = of-all s c d after.top.work (subst (AreAlike s c d) (sym entered.work) (All-map (Same {T = Hidden} s c d) (λ (t : Hidden). (call.cond, t)) w.tokens (λ k t within. call_alike.cond)));
          out = subst (AreAlike s c d) (sym entered.out) (All-nil (Same {T = Hidden} s c d));
          calls = subst (All (IsAlikeCall s c d)) (sym entered.calls) (All-nil (IsAlikeCall s c d));
        });
        below = λ n k is. elim (push_cases e.below.items o n k (sym (ap (λ l. slice_get l n) entered.below) ∙ is)) [
          | inl before ↦ alike.below n k before
          | inr last ↦
              subst (λ (x : Enclosing). IsAlikeEnclosing s c d (others_at others n) x) last.1
              (subst (λ m. IsAlikeEnclosing s c d (others_at others m) o) (sym last.0) (record { frame = alike.top; call = call_alike }))
        ];
      }

  -- an argument is left, and its call waits again
  pub alike-leave : (below : List Enclosing) (o : Enclosing) → e.below.items ≡ below ++ o ∷ [] → after.below.items ≡ below → after.refusals ≡ e.refusals
      → after.top.work ≡ o.frame.work → after.top.out ≡ o.frame.out → IsResumed o e.top.out after.top.calls.items → IsAlikeExpansion s c d others e → IsAlikeExpansion s c d others after
  alike-leave below o were are refusals work out resumed alike =
      let enclosing = enclosing-last {others = others} e below o were alike in
      let above : length e.below.items ≡ suc (length below) = ap length were ∙ long o below in
      let top : IsAlikeFrame s c d no_others e.top = subst (λ n. IsAlikeFrame s c d (others_at others n) e.top) above alike.top in
      let call : IsAlikeCall s c d resumed.call = record {
        cond = subst (λ (k : Cond). IsAlike s c d k) (sym resumed.cond) enclosing.call.cond;
        expanded = subst (All (AreAlike s c d)) (sym resumed.expanded) (All-set (AreAlike s c d) o.call.expanded.items o.parameter e.top.out top.out enclosing.call.expanded);
      } in
      let here = others_at others (length below) in
      record {
        refusals = subst (AreAlikeRefusals s c d others.faults) (sym refusals) alike.refusals;
        top = subst (λ (l : List Enclosing). IsAlikeFrame s c d (others_at others (length l)) after.top) (sym are) (record {
          work = subst (λ l. AreAlike s c d (take (length l - here.behind) l)) (sym work) enclosing.frame.work;
          out = subst (λ l. AreAlike s c d (drop here.out l)) (sym out) enclosing.frame.out;
          calls = subst (All (IsAlikeCall s c d)) (sym resumed.is) (All-push (IsAlikeCall s c d) o.frame.calls.items resumed.call enclosing.frame.calls call);
        });
        below = subst (λ l. (n : ℕ) (k : Enclosing) → slice_get l n ≡ Some k → IsAlikeEnclosing s c d (others_at others n) k) (sym are) (enclosing-others {others = others} e below o were alike);
      }
