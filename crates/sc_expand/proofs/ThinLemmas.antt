-- A list that has settled is thin.
use Rattle.std.proofs.Common.{◌≡◌, inl, inr, ℕ, zero, suc, ◌-◌, ◌<◌, ◌&&◌, Bool, true, false, true≢false, List, [], ◌∷◌, ◌++◌, append-nil, drop, length, map, Option, Some, None, slice_get, refl, sym, ap, subst, ◌∙◌, arith, if◌then◌else◌}
use Rattle.c11_macros.specs.Runs.{End, Runs, Uses, alone, bad_call, bad_count, bad_object, call, is_function_named, is_last_name, no_uses, object, open_call, stay, used_up}
use Rattle.sc_expand.proofs.Behind.{length-behind}
use Rattle.sc_expand.proofs.Facts.{All-head, All-nil, All-tail, map-append, slice_get-front, slice_get_within, nil_from_length}
use Rattle.sc_expand.proofs.PhaseKeeps.{same-slice}
use Rattle.sc_expand.proofs.Terms.{Agree, AreAlike, Cond, Definition, Form, HiddenToken as Hidden, InSegments, IsAlike, IsConfig, IsSameName, IsSettling, IsSpan, Macros, Provenance, Sets, behind, behind_at, case_of, defined_case, form_case, function_like, is_function_like, is_looked_up, items_at, looked_up_at, looked_up_case, object_like, of_item, stays}
use Rattle.sc_expand.specs.Spans as spans
use Rattle.sc_expand.specs.Thin.{InSpan, IsNth, IsThin, Stays}

-- ---- the n-th elements of a list

same-front : (xs ys zs : List ℕ) (n i j : ℕ) → zs ≡ [] → slice_get (xs ++ ys) n ≡ Some i → slice_get (xs ++ zs) n ≡ Some j → i ≡ j
same-front xs ys zs n i j none one other =
    let alone : slice_get xs n ≡ Some j = ap (λ l. slice_get l n) (sym (append-nil xs) ∙ ap (λ l. xs ++ l) (sym none)) ∙ other in
    let both : Some i ≡ Some j = sym one ∙ (slice_get-front xs ys n (slice_get_within xs n j alone) ∙ alone) in
    cc

module _ {T : Type 0} (s : Sets) where
  none-nth : (c : List ℕ) (list : List (Cond × T)) → items_at s list c ≡ [] → (n i : ℕ) → IsNth s list c n i → ⊥
  none-nth c list none n i is =
      let empty = nil_from_length (behind_at s list c) (length-behind s c list ∙ ap length none) in
      let at = sym (ap (λ l. slice_get (map (λ (m : ℕ). length list - suc m) l) n) empty) ∙ is in
      cc

  abbrev SameFront : (c d : List ℕ) → List (Cond × T) → List ℕ → List ℕ → Type 0
  SameFront c d last xs ys = (ms : List ℕ) × (xs ≡ ms ++ behind_at s last c) × (ys ≡ ms ++ behind_at s last d)

  behind-front : (c d : List ℕ) (first last : List (Cond × T)) → AreAlike s c d first → SameFront c d last (behind_at s (first ++ last) c) (behind_at s (first ++ last) d)
  behind-front c d [] last alike = ([], refl, refl)
  behind-front c d (z ∷ zs) last alike =
      let P : Cond × T → Type 0 = λ item. IsAlike s c d item.0 in
      by (s.has z.0.0 c) (s.has z.0.0 d) (All-head P z zs alike) (behind-front c d zs last (All-tail P z zs alike))
    where
      by : (a b : Bool) → a ≡ b → SameFront c d last (behind_at s (zs ++ last) c) (behind_at s (zs ++ last) d)
          → SameFront c d last (if a then length (zs ++ last) ∷ behind_at s (zs ++ last) c else behind_at s (zs ++ last) c) (if b then length (zs ++ last) ∷ behind_at s (zs ++ last) d else behind_at s (zs ++ last) d)
      by true true same r = (length (zs ++ last) ∷ r.0, ap (λ l. length (zs ++ last) ∷ l) r.1, ap (λ l. length (zs ++ last) ∷ l) r.2)
      by false false same r = r
      by true false same r = absurd (true≢false same)
      by false true same r = absurd (true≢false (sym same))

  -- of first items that are alike, behind which the one has none
  nth-ahead : (c d : List ℕ) (list first last : List (Cond × T)) → list ≡ first ++ last → AreAlike s c d first → items_at s last d ≡ [] → (n i j : ℕ) → IsNth s list c n i → IsNth s list d n j → i ≡ j
  nth-ahead c d list first last is alike none n i j p q =
      let r = behind-front c d first last alike in
      let f : ℕ → ℕ = λ m. length (first ++ last) - suc m in
      let empty = nil_from_length (behind_at s last d) (length-behind s d last ∙ ap length none) in
      same-front (map f r.0) (map f (behind_at s last c)) (map f (behind_at s last d)) n i j (ap (map f) empty)
      (ap (λ l. slice_get l n) (sym (map-append f r.0 (behind_at s last c)) ∙ ap (map f) (sym r.1)) ∙ subst (λ l. IsNth s l c n i) is p)
      (ap (λ l. slice_get l n) (sym (map-append f r.0 (behind_at s last d)) ∙ ap (map f) (sym r.2)) ∙ subst (λ l. IsNth s l d n j) is q)

  nth-alike : (c d : List ℕ) (list : List (Cond × T)) → AreAlike s c d list → (n i j : ℕ) → IsNth s list c n i → IsNth s list d n j → i ≡ j
  nth-alike c d list alike = nth-ahead c d list list [] (sym (append-nil list)) alike refl

  nth-first : (c : List ℕ) (list : List (Cond × T)) → items_at s (drop 1 list) c ≡ [] → (n i : ℕ) → IsNth s list c n i → i ≡ 0
  nth-first c [] none n i p = absurd (cc)
  nth-first c (z ∷ zs) none n i p = by (s.has z.0.0 c) (nil_from_length (behind_at s zs c) (length-behind s c zs ∙ ap length none)) n p
    where
      by : (b : Bool) → behind_at s zs c ≡ [] → (n : ℕ) → slice_get (map (λ m. suc (length zs) - suc m) (if b then length zs ∷ behind_at s zs c else behind_at s zs c)) n ≡ Some i → i ≡ 0
      by true empty zero p = let first : suc (length zs) - suc (length zs) ≡ i = cc in omega (arith, first)
      by true empty (suc n) p = let at = sym (ap (λ l. slice_get (map (λ (m : ℕ). suc (length zs) - suc m) l) n) empty) ∙ p in absurd (cc)
      by false empty n p = let at = sym (ap (λ l. slice_get (map (λ (m : ℕ). suc (length zs) - suc m) l) n) empty) ∙ p in absurd (cc)

  nth-put : (out of : List (Cond × T)) (c d : List ℕ) → IsSameName s out of c d → (n i j : ℕ) → IsNth s out c n i → IsNth s out d n j → i ≡ j
  nth-put out of c d (spans.same one two) n i j p q = nth-alike c d out one n i j p q
  nth-put out of c d (spans.one_ahead a) n i j p q = nth-ahead c d out a.first a.last a.is a.alike a.other n i j p q
  nth-put out of c d (spans.other_ahead a) n i j p q = sym (nth-ahead d c out a.first a.last a.is a.alike a.other n j i q p)

  nth-waits : (out of : List (Cond × T)) (c d : List ℕ) → IsSameName s out of c d → (n i j : ℕ) → IsNth s of c n i → IsNth s of d n j → i ≡ j
  nth-waits out of c d (spans.same one two) n i j p q = nth-alike c d of two n i j p q
  nth-waits out of c d (spans.one_ahead a) n i j p q = absurd (none-nth c of a.nothing n i p)
  nth-waits out of c d (spans.other_ahead a) n i j p q = absurd (none-nth d of a.nothing n j q)

-- ---- an item that stays

module _ {P : Type 0} where
  undefined : (m : Option Definition) (rest : List (Hidden P)) → defined_case m rest ≡ stays → is_function_named m ≡ false → m ≡ None
  undefined None rest is bare = refl
  undefined (Some d) rest is bare = absurd (by d.form is bare)
    where
      by : (f : Form) → form_case d f rest ≡ stays → is_function_like f ≡ false → ⊥
      by object_like is bare = cc
      by (function_like parameters more) is bare = true≢false bare

  -- no table defines it
  stays-agree : (one other : Macros) (t : Hidden P) (rest more : List (Hidden P)) → case_of one t rest ≡ stays → is_last_name one t [] ≡ false → case_of other t more ≡ stays → is_last_name other t [] ≡ false → Agree one other (looked_up_at t)
  stays-agree one other t rest more = by (is_looked_up t)
    where
      by : (b : Bool) → looked_up_case one b t.spelling rest ≡ stays → (b && is_function_named (one t.spelling)) ≡ false → looked_up_case other b t.spelling more ≡ stays → (b && is_function_named (other t.spelling)) ≡ false
          → Agree one other (if b then t.spelling ∷ [] else [])
      by true is bare there single = (undefined (one t.spelling) rest is bare ∙ sym (undefined (other t.spelling) more there single), tt)
      by false is bare there _ = tt

  last-none : (macros : Macros) (t : Hidden P) (rest : List (Hidden P)) → is_last_name macros t [] ≡ false → is_last_name macros t rest ≡ false
  last-none macros t [] bare = bare
  last-none macros t (u ∷ us) bare = refl

  nothing-runs : {provenance : Provenance P} {macros : Macros} {source done : List (Hidden P)} {end : End P} {u : Uses P} → Runs provenance macros [] source done end u → u ≡ no_uses
  nothing-runs used_up = refl

  stays-uses : {provenance : Provenance P} {macros : Macros} {t : Hidden P} {source done : List (Hidden P)} {end : End P} {u : Uses P} → Runs provenance macros (t ∷ []) source done end u → case_of macros t source ≡ stays
      → is_last_name macros t source ≡ false → (u.taken ≡ []) × (u.looked_up ≡ looked_up_at t ++ [])
  stays-uses {t = t} (stay is free run) here bare = let none = nothing-runs run in (ap (λ v. v.taken) none, ap (λ v. looked_up_at t ++ v.looked_up) none)
  stays-uses (alone is) here bare = absurd (true≢false (sym is ∙ bare))
  stays-uses (open_call is) here bare = absurd (cc)
  stays-uses (object d body is made run) here bare = absurd (cc)
  stays-uses (call d arguments close after left rest taken body results is leaves each made run) here bare = absurd (cc)
  stays-uses (bad_object d failure is made) here bare = absurd (cc)
  stays-uses (bad_count after left rest taken is leaves) here bare = absurd (cc)
  stays-uses (bad_call d arguments close after left rest taken results failure is leaves each made) here bare = absurd (cc)

module _ {T P : Type 0} (see : T → Hidden P) (provenance : Provenance P) (macros : List ℕ → Macros) (s : Sets) (list : List (Cond × T)) where
  abbrev left : ℕ → List ℕ → List (Hidden P)
  left at c = behind see provenance macros s list at c

  -- who has it stay expands it alike
  stays-span : (at : ℕ) (c d : List ℕ) → Stays see provenance macros s list at c → Stays see provenance macros s list at d → IsSpan see provenance macros s list at 0 c d
  stays-span at c d x y = record {
    one = x.comes;
    other = y.comes;
    alike = All-nil (λ (item : Cond × T). IsAlike s c d item.0);
    one_within = let none = ap length used.0 in omega (arith, none);
    other_within = let none = ap length (stays-uses y.comes.runs y.is (last-none (macros d) (see y.comes.item.1) (left at d) y.bare)).0 in omega (arith, none);
    agree = subst (Agree (macros c) (macros d)) (sym (used.1 ∙ append-nil (looked_up_at (see x.comes.item.1))))
        (stays-agree (macros c) (macros d) (see x.comes.item.1) (left at c) (left at d) x.is x.bare (ap (λ t. case_of (macros d) t (left at d)) token ∙ y.is) (ap (λ t. is_last_name (macros d) t []) token ∙ y.bare));
  }
    where
      used : (x.comes.uses.taken ≡ []) × (x.comes.uses.looked_up ≡ looked_up_at (see x.comes.item.1) ++ [])
      used = stays-uses x.comes.runs x.is (last-none (macros c) (see x.comes.item.1) (left at c) x.bare)

      token : see x.comes.item.1 ≡ see y.comes.item.1
      token = ap (λ (z : Cond × T). see z.1) (same-slice list at x.comes.item y.comes.item x.comes.is y.comes.is)

  pub segments-thin : {cond : ℕ} {later : Sets} {look : T → Hidden P} {count : ℕ} {out : List (Cond × T)} {kept : List (ℕ × (Cond × T))} (b : InSegments see provenance macros s list cond later look count out kept) (at : ℕ) (x : List (Cond × T))
      → slice_get b.segments at ≡ Some x → (c d : List ℕ) → IsConfig s.arities c → IsConfig s.arities d → s.has cond c ≡ true → s.has cond d ≡ true → IsSettling see provenance macros s list c → IsSettling see provenance macros s list d
      → IsThin see provenance macros s list at later x (of_item at kept) c d
  segments-thin {later = later} {kept = kept} b at x found c d p q here there one two = record {
    puts = λ n i j same. elim same [
      | inl span ↦ nth-put later x (of_item at kept) c d (names span) n i j
      | inr both ↦ nth-put later x (of_item at kept) c d (names (0, stays-span at c d both.0 both.1)) n i j
    ];
    waits = λ n i j same. elim same [
      | inl span ↦ nth-waits later x (of_item at kept) c d (names span) n i j
      | inr both ↦ λ v w.
          let less : at < _ = (let within = slice_get_within b.segments at x found in let many = b.many in omega (arith, within, many)) in
          nth-first later c (of_item at kept) (b.itself at less c p here one both.0) n i v ∙ sym (nth-first later d (of_item at kept) (b.itself at less d q there two both.1) n j w)
    ];
  }
    where
      names : InSpan see provenance macros s list at c d → IsSameName later x (of_item at kept) c d
      names span = b.names at x found span.0 c d p q here there one two span.1
