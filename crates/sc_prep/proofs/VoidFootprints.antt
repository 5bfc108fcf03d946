-- Footprints of the configurations of a test, where some of them come to no machine: these have any
-- footprint, so another one is made for each.
use Rattle.std.proofs.Common.{◌≡◌, ℕ, ◌+◌, ◌<◌, ◌&&◌, not, Bool, true, false, List, [], ◌∷◌, All, length, replicate, Option, None, get_or, refl, sym, ap, ◌∙◌, arith, cond, AllPairs}
use Rattle.sc_prep.proofs.ApartLemmas.{pairs-head, pairs-tail}
use Rattle.sc_prep.proofs.Facts.{All-cons, All-head, All-nil, All-tail, AllPairs-cons, AllPairs-filter, and_from, length-replicate, not-true, true≢false}
use Rattle.sc_prep.proofs.Terms.{Definition, HasFootprints, HaveLists, IsConfig, Used, filter, looked_up_in, source}

-- how many definitions these footprints have in all
abbrev definition_count : List (List ℕ × Used) → ℕ
definition_count [] = 0
definition_count (p ∷ ps) = length (looked_up_in p.1) + definition_count ps

-- one with more is none of them
none-like : (f : Used) (ps : List (List ℕ × Used)) → definition_count ps < length (looked_up_in f) → All (λ p. f ≡ p.1 → ⊥) ps
none-like f [] more = All-nil (λ p. f ≡ p.1 → ⊥)
none-like f (p ∷ ps) more =
    All-cons (λ p. f ≡ p.1 → ⊥) p ps (λ e. omega (arith, more, ap (λ (x : Used). length (looked_up_in x)) e)) (none-like f ps (omega (arith, more)))

-- those that pass, with what holds of all
passing : {A : Type 0} (p : A → Bool) (P : A → Type 0) (xs : List A) → All P xs → All (λ x. (p x ≡ true) × P x) (filter p xs)
passing p P [] all = All-nil (λ x. (p x ≡ true) × P x)
passing {A} p P (x ∷ xs) all = by (p x) refl (passing p P xs (All-tail P x xs all))
  where
    by : (b : Bool) → p x ≡ b → All (λ x. (p x ≡ true) × P x) (filter p xs) → All (λ x. (p x ≡ true) × P x) (cond b (x ∷ filter p xs) (filter p xs))
    by true e rest = All-cons (λ x. (p x ≡ true) × P x) x (filter p xs) (e, All-head P x xs all) rest
    by false e rest = rest

parts-long : {A : Type 0} (p : A → Bool) (xs : List A) → length (filter (λ x. not (p x)) xs) + length (filter p xs) ≡ length xs
parts-long p [] = refl
parts-long {A} p (x ∷ xs) = by (p x) (filter (λ x. not (p x)) xs) (filter p xs) (parts-long p xs)
  where
    by : (b : Bool) (us vs : List A) → length us + length vs ≡ length xs → length (cond (not b) (x ∷ us) us) + length (cond b (x ∷ vs) vs) ≡ length (x ∷ xs)
    by true us vs e = omega (arith, e)
    by false us vs e = omega (arith, e)

module _ {K : Type 0} (arities : List ℕ) (has : List ℕ → K × Used → Type 0) (live : List ℕ → Bool) where
  -- the footprints, with one for each of more configurations, but for no further one that is not
  -- live
  record Filled (voids : List (List ℕ)) (count : ℕ) : Type 0 where
    all : HasFootprints (IsConfig arities) has (length voids + count)
    others : (c : List ℕ) → live c ≡ false → All (λ v. c ≡ v → ⊥) voids → All (λ p. c ≡ p.0 → ⊥) all.footprints

  -- the configuration has any footprint
  record IsVoid (c : List ℕ) : Type 0 where
    dead : live c ≡ false
    listed : IsConfig arities c
    each : (f : K × Used) → has c f

  filled : {count : ℕ} → HasFootprints (IsConfig arities) (λ c f. (live c ≡ true) × has c f) count → (voids : List (List ℕ)) → All IsVoid voids → AllPairs (λ c d. c ≡ d → ⊥) voids → Filled voids count
  filled h [] each apart = record {
    all = record {
      at = h.at;
      footprints = h.footprints;
      many = omega (arith, h.many);
      listed = h.listed;
      each = λ k d within. (h.each k d within).1;
      apart = h.apart;
    };
    others = λ c dead none. λ k d within e. true≢false (sym (h.each k d within).0 ∙ (ap live (sym e) ∙ dead));
  }
  filled h (v ∷ vs) each apart =
      let rest = filled h vs (All-tail IsVoid v vs each) (pairs-tail (λ c d. c ≡ d → ⊥) v vs apart) in
      let it = All-head IsVoid v vs each in
      let ps = rest.all.footprints in
      let more = definition_count ps in
      let f : Used = source [] (replicate (more + 1) ([], None)) in
      let other = rest.others v it.dead (pairs-head (λ c d. c ≡ d → ⊥) v vs apart) in
      let fresh = none-like f ps (omega (arith, length-replicate {A = List ℕ × Option Definition} (more + 1) ([], None))) in
      record {
        all = record {
          at = rest.all.at;
          footprints = (v, f) ∷ ps;
          many = omega (arith, rest.all.many);
          listed = All-cons (λ p. IsConfig arities p.0) (v, f) ps it.listed rest.all.listed;
          each = All-cons (λ p. has p.0 (rest.all.at, p.1)) (v, f) ps (it.each (rest.all.at, f)) rest.all.each;
          apart = AllPairs-cons (λ p q. (p.0 ≡ q.0 → ⊥) × (p.1 ≡ q.1 → ⊥)) (v, f) ps (λ k d within. (other k d within, fresh k d within)) rest.all.apart;
        };
        others = λ c dead none. All-cons (λ p. c ≡ p.0 → ⊥) (v, f) ps (All-head (λ u. c ≡ u → ⊥) v vs none) (rest.others c dead (All-tail (λ u. c ≡ u → ⊥) v vs none));
      }

  -- Where a configuration that is not live has any footprint, those with different lists have
  -- different footprints, if the live ones among them do.
  pub void-footprints : (test : List ℕ → Bool) (list : List ℕ → List ℕ) (count : ℕ) → ((c : List ℕ) → IsConfig arities c → test c ≡ true → live c ≡ false → (f : K × Used) → has c f)
      → ((n : ℕ) → HaveLists arities (λ c. test c && live c) list n → HasFootprints (IsConfig arities) (λ c f. (live c ≡ true) × has c f) n)
      → HaveLists arities test list count → HasFootprints (IsConfig arities) has count
  void-footprints test list count void footprints h =
      let Listed : List ℕ → Type 0 = λ c. IsConfig arities c × (test c ≡ true) in
      let Apart : List ℕ → List ℕ → Type 0 = λ c d. list c ≡ list d → ⊥ in
      let each : All Listed h.configs = λ k d within. (h.listed k d within, h.among k d within) in
      let lives = filter live h.configs in
      let voids = filter (λ c. not (live c)) h.configs in
      let living = passing live Listed h.configs each in
      let dead = passing (λ c. not (live c)) Listed h.configs each in
      let some = footprints (length lives) (record {
        configs = lives;
        many = omega arith;
        listed = λ k d within. (living k d within).1.0;
        among = λ k d within. and_from (test (get_or lives k d)) (live (get_or lives k d)) (living k d within).1.1 (living k d within).0;
        apart = AllPairs-filter Apart live h.configs h.apart;
      }) in
      let all = filled some voids
      (λ k d within. let x = dead k d within in let off = not-true (live (get_or voids k d)) x.0 in record { dead = off; listed = x.1.0; each = void (get_or voids k d) x.1.0 x.1.1 off })
      (λ i j d low within e. AllPairs-filter Apart (λ c. not (live c)) h.configs h.apart i j d low within (ap list e)) in
      record {
        at = all.all.at;
        footprints = all.all.footprints;
        many = omega (arith, all.all.many, h.many, parts-long live h.configs);
        listed = all.all.listed;
        each = all.all.each;
        apart = all.all.apart;
      }
