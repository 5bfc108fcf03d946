-- What stays of a condition as its store grows, and what a part of one depends on.
use Rattle.std.proofs.Common.{◌≡◌, ℕ, ◌+◌, ◌<◌, ◌≤◌, Bool, true, false, List, length, refl, sym, ◌∙◌, ap, subst, inl, inr, arith}
use Rattle.std.proofs.lemmas.Bool.{cases_eq, cases_lt, true≢false, false≢true}
use Rattle.std.proofs.lemmas.List.{length-set, get_or-set_same, get_or-set_other, set-get_or, set-set, set_comm}
use Rattle.std.specs.Prelude.{slice_index, slice_set}
use Rattle.sc_model.specs.Sets.{Sets, IsConfig, IsCond, Denotes, Keeps, IsNever, IsAlways, IsSame, DependsOn, DependsFrom, IsTop}

-- a configuration with one variable set to another of its options is one
pub IsConfig-set : {ns c : List ℕ} (v k : ℕ) → IsConfig ns c → v < length ns → k < slice_index ns v → IsConfig ns (slice_set c v k)
IsConfig-set {ns} {c} v k config within in_range =
    let placed : v < length c = omega (arith, config.long) in
    record {
      long = length-set c v k ∙ config.long;
      each = λ u below. elim (cases_eq u v) [
        | inl same ↦ rw (same, get_or-set_same c v k 0 placed) in_range
        | inr other ↦ rw (get_or-set_other c v u k 0 other) (config.each u below)
      ];
    }

pub Keeps-refl : (s : Sets) → Keeps s s
Keeps-refl s = record { arities = refl; own = λ a own. own; at = λ a c own listed. refl }

pub Keeps-trans : {r s t : Sets} → Keeps r s → Keeps s t → Keeps r t
Keeps-trans k l = record {
  arities = l.arities ∙ k.arities;
  own = λ a own. l.own a (k.own a own);
  at = λ a c own listed. l.at a c (k.own a own) (subst (λ ns. IsConfig ns c) (sym k.arities) listed) ∙ k.at a c own listed;
}

-- a condition passes its own test
pub Denotes-self : (s : Sets) (a : ℕ) → IsCond s a → Denotes s a (s.has a)
Denotes-self s a own = record { own = own; at = λ c listed. refl }

-- conditions with the same configurations depend on the same variables
pub DependsOn-same : {s t : Sets} {a b v : ℕ} → t.arities ≡ s.arities → ((c : List ℕ) → IsConfig s.arities c → t.has b c ≡ s.has a c) → DependsOn t b v → DependsOn s a v
DependsOn-same {s} {t} {a} {b} {v} arities same depends =
    let listed : IsConfig s.arities depends.config = subst (λ ns. IsConfig ns depends.config) arities depends.listed in
    let within : v < length s.arities = subst (λ ns. v < length ns) arities depends.within in
    let in_range : depends.option < slice_index s.arities v = subst (λ ns. depends.option < slice_index ns v) arities depends.in_range in
    record {
      config = depends.config;
      option = depends.option;
      listed = listed;
      within = within;
      in_range = in_range;
      changes = λ still. depends.changes (same _ listed ∙ still ∙ sym (same _ (IsConfig-set v _ listed within in_range)));
    }

pub DependsFrom-same : {s t : Sets} {a b v : ℕ} → t.arities ≡ s.arities → ((c : List ℕ) → IsConfig s.arities c → t.has b c ≡ s.has a c) → DependsFrom s a v → DependsFrom t b v
DependsFrom-same arities same from = record { free = λ u below depends. from.free u below (DependsOn-same arities same depends) }

module _ {old new : Sets} where
  -- the configurations are those that they were
  pub IsConfig-Keeps : {c : List ℕ} → Keeps old new → IsConfig old.arities c → IsConfig new.arities c
  IsConfig-Keeps {c} keeps listed = subst (λ ns. IsConfig ns c) (sym keeps.arities) listed

  pub IsConfig-kept : {c : List ℕ} → Keeps old new → IsConfig new.arities c → IsConfig old.arities c
  IsConfig-kept {c} keeps listed = subst (λ ns. IsConfig ns c) keeps.arities listed

  pub IsCond-Keeps : {a : ℕ} → Keeps old new → IsCond old a → IsCond new a
  IsCond-Keeps {a} keeps own = keeps.own a own

  pub Denotes-Keeps : {a : ℕ} {f : List ℕ → Bool} → Keeps old new → Denotes old a f → Denotes new a f
  Denotes-Keeps {a} keeps told = record {
    own = keeps.own a told.own;
    at = λ c listed. let was = IsConfig-kept keeps listed in keeps.at a c told.own was ∙ told.at c was;
  }

  pub IsNever-Keeps : {a : ℕ} → Keeps old new → IsCond old a → IsNever old a → IsNever new a
  IsNever-Keeps {a} keeps own never = record {
    none = λ c listed. let was = IsConfig-kept keeps listed in keeps.at a c own was ∙ never.none c was;
  }

  pub IsAlways-Keeps : {a : ℕ} → Keeps old new → IsCond old a → IsAlways old a → IsAlways new a
  IsAlways-Keeps {a} keeps own always = record {
    all = λ c listed. let was = IsConfig-kept keeps listed in keeps.at a c own was ∙ always.all c was;
  }

  pub IsSame-Keeps : {a b : ℕ} → Keeps old new → IsCond old a → IsCond old b → IsSame old a b → IsSame new a b
  IsSame-Keeps {a} {b} keeps own_a own_b same = record {
    at = λ c listed. let was = IsConfig-kept keeps listed in keeps.at a c own_a was ∙ same.at c was ∙ sym (keeps.at b c own_b was);
  }

  -- what a condition depends on, it depended on
  pub DependsOn-kept : {a v : ℕ} → Keeps old new → IsCond old a → DependsOn new a v → DependsOn old a v
  DependsOn-kept {a} keeps own depends = DependsOn-same keeps.arities (λ c listed. keeps.at a c own listed) depends

  pub DependsOn-Keeps : {a v : ℕ} → Keeps old new → IsCond old a → DependsOn old a v → DependsOn new a v
  DependsOn-Keeps {a} keeps own depends = DependsOn-same (sym keeps.arities) (λ c listed. sym (keeps.at a c own (IsConfig-kept keeps listed))) depends

  pub DependsFrom-Keeps : {a v : ℕ} → Keeps old new → IsCond old a → DependsFrom old a v → DependsFrom new a v
  DependsFrom-Keeps {a} keeps own from = DependsFrom-same keeps.arities (λ c listed. keeps.at a c own listed) from

  pub IsTop-Keeps : {a v : ℕ} → Keeps old new → IsCond old a → IsTop old a v → IsTop new a v
  IsTop-Keeps keeps own top = record { depends = DependsOn-Keeps keeps own top.depends; first = DependsFrom-Keeps keeps own top.first }

-- the first variable is not before one that the condition starts from
pub le-IsTop : {s : Sets} {a v n : ℕ} → IsTop s a v → DependsFrom s a n → n ≤ v
le-IsTop {s} {a} {v} {n} top from = elim (cases_lt v n) [ inl below ↦ absurd (from.free v below top.depends) | inr above ↦ above ]

-- two tests that can't differ are the same
stable : (x y : Bool) → ((x ≡ y → ⊥) → ⊥) → x ≡ y
stable true true h = refl
stable false false h = refl
stable true false h = absurd (h (λ e. absurd (true≢false e)))
stable false true h = absurd (h (λ e. absurd (false≢true e)))

-- the option of a variable on which the condition does not depend makes no difference
pub has-DependsFrom : {s : Sets} {a n : ℕ} (c : List ℕ) (v k : ℕ) → DependsFrom s a n → v < n → IsConfig s.arities c → v < length s.arities → k < slice_index s.arities v → s.has a (slice_set c v k) ≡ s.has a c
has-DependsFrom {s} {a} c v k from below listed within in_range = stable _ _ (λ differ. from.free v below (record {
  config = c;
  option = k;
  listed = listed;
  within = within;
  in_range = in_range;
  changes = λ same. differ (sym same);
}))

-- a condition that depends on a variable is not never, and not always
pub IsNever-DependsOn : {s : Sets} {a v : ℕ} → DependsOn s a v → IsNever s a → ⊥
IsNever-DependsOn {s} {a} {v} depends never =
    depends.changes (never.none _ depends.listed ∙ sym (never.none _ (IsConfig-set v _ depends.listed depends.within depends.in_range)))

pub IsAlways-DependsOn : {s : Sets} {a v : ℕ} → DependsOn s a v → IsAlways s a → ⊥
IsAlways-DependsOn {s} {a} {v} depends always =
    depends.changes (always.all _ depends.listed ∙ sym (always.all _ (IsConfig-set v _ depends.listed depends.within depends.in_range)))

-- b is what remains of a where the variable v has the option k
pub record IsPart (old new : Sets) (a v k b : ℕ) : Type 0 where
  pub own : IsCond old a
  pub within : v < length old.arities
  pub in_range : k < slice_index old.arities v
  pub at : (c : List ℕ) → IsConfig old.arities c → new.has b c ≡ old.has a (slice_set c v k)

module _ {old new : Sets} {a v k b : ℕ} where
  -- what a store's `part` makes is one
  pub IsPart-Denotes : IsCond old a → v < length old.arities → k < slice_index old.arities v → Keeps old new → Denotes new b (λ c. old.has a (slice_set c v k)) → IsPart old new a v k b
  IsPart-Denotes own within in_range keeps told = record {
    own = own;
    within = within;
    in_range = in_range;
    at = λ c listed. told.at c (IsConfig-Keeps keeps listed);
  }

  -- a part has the configurations with its option that the whole has
  pub has-IsPart : IsPart old new a v k b → (c : List ℕ) → IsConfig old.arities c → slice_index c v ≡ k → new.has b c ≡ old.has a c
  has-IsPart part c listed chosen = part.at c listed ∙ ap (old.has a) (subst (λ x. slice_set c v x ≡ c) chosen (set-get_or c v 0))

  -- a part does not depend on its variable, and else only on what the whole depends on
  pub DependsOn-IsPart : {u : ℕ} → Keeps old new → IsPart old new a v k b → DependsOn new b u → record { other : u ≡ v → ⊥; whole : DependsOn old a u }
  DependsOn-IsPart {u} keeps part depends =
      let c = depends.config in
      let o = depends.option in
      let listed = IsConfig-kept keeps depends.listed in
      let within : u < length old.arities = subst (λ ns. u < length ns) keeps.arities depends.within in
      let in_range : o < slice_index old.arities u = subst (λ ns. o < slice_index ns u) keeps.arities depends.in_range in
      let here = part.at c listed in
      let there = part.at (slice_set c u o) (IsConfig-set u o listed within in_range) in
      let other : u ≡ v → ⊥ = λ same. depends.changes (here ∙ ap (old.has a) (rw same (sym (set-set c v o k))) ∙ sym there) in
      record {
        other = other;
        whole = record {
          config = slice_set c v k;
          option = o;
          listed = IsConfig-set v k listed part.within part.in_range;
          within = within;
          in_range = in_range;
          changes = λ same. depends.changes (here ∙ same ∙ ap (old.has a) (set_comm c v u k o (λ e. other (sym e))) ∙ sym there);
        };
      }

  pub DependsFrom-IsPart : Keeps old new → IsPart old new a v k b → DependsFrom old a v → DependsFrom new b (v + 1)
  DependsFrom-IsPart keeps part from = record {
    free = λ u below depends.
        let found = DependsOn-IsPart keeps part depends in
        from.free u (omega (arith, found.other)) found.whole;
  }

-- a part stays one as the store grows
pub IsPart-Keeps : {old mid new : Sets} {a v k b : ℕ} → IsPart old mid a v k b → Keeps old mid → IsCond mid b → Keeps mid new → IsPart old new a v k b
IsPart-Keeps {old} {mid} {new} {a} {v} {k} {b} part keeps own later = record {
  own = part.own;
  within = part.within;
  in_range = part.in_range;
  at = λ c listed. later.at b c own (IsConfig-Keeps keeps listed) ∙ part.at c listed;
}

-- the parts at a variable on which the condition depends are not all the same
pub parts_differ : {old new : Sets} {a v : ℕ} (b : ℕ → ℕ) (j : ℕ) → Keeps old new → DependsOn old a v → ((k : ℕ) → k < slice_index old.arities v → IsPart old new a v k (b k))
    → ((k : ℕ) → k < slice_index old.arities v → IsSame new (b k) (b j)) → ⊥
parts_differ {old} {new} {a} {v} b j keeps depends parts same =
    let c = depends.config in
    let o = depends.option in
    let x = slice_index c v in
    let low : x < slice_index old.arities v = depends.listed.each v depends.within in
    let listed = IsConfig-Keeps keeps depends.listed in
    let here = has-IsPart (parts x low) c depends.listed refl in
    let there = (parts o depends.in_range).at c depends.listed in
    depends.changes (sym here ∙ (same x low).at c listed ∙ sym ((same o depends.in_range).at c listed) ∙ there)

-- for the `using` of a function that makes several conditions
pub ruleset conditions = (Keeps-refl, Keeps-trans, IsCond-Keeps, Denotes-Keeps, DependsFrom-Keeps)
