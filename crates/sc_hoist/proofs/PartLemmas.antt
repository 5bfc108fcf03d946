-- Branches that part a condition: no two are of configurations with the same places.
use Rattle.std.proofs.Common.{◌≡◌, ℕ, zero, suc, ◌<◌, ◌≤◌, Bool, true, false, List, [], ◌∷◌, All, length, take, get_or, map, refl, ap, sym, subst, ◌∙◌, arith, inl, inr, ◌⊎◌, if◌then◌else◌}
use Rattle.std.proofs.lemmas.Bool.{cases_eq, cases_lt, true≢false}
use Rattle.std.proofs.lemmas.List.{take_all}
use Rattle.std.proofs.lemmas.List.Elements.{All-head, All-tail}
use Rattle.sc_base.specs.declared.id.Cond.{Cond}
use Rattle.sc_hoist.specs.declared.branch.Branch.{Branch}
use Rattle.sc_hoist.specs.Branches.{lists_at, AreBranches, HasLists}
use Rattle.sc_hoist.specs.Leaves.{AreLeaves, AreMet, Agree, SameBelow, placed}
use Rattle.sc_hoist.specs.Places.{places_from}
use Rattle.sc_hoist.proofs.PlaceLemmas.{SameBelow-places}
use Rattle.sc_model.proofs.SetLemmas.{IsConfig-kept}
use Rattle.sc_model.specs.Sets.{Sets, IsConfig, HasOptions, Keeps, IsNever, config_count}
use Rattle.sc_presence.proofs.RankLemmas.{rank-lt, config_at-rank, IsConfig-config_at}
use Rattle.sc_presence.specs.Rank.{strides_of, rank, config_at}

-- a configuration of a condition
pub record IsMet (s : Sets) (a : ℕ) : Type 0 where
  pub config : List ℕ
  pub listed : IsConfig s.arities config
  pub has : s.has a config ≡ true

found_below : (test : ℕ → Bool) (n : ℕ) → ((i : ℕ) × (test i ≡ true)) ⊎ ((i : ℕ) → i < n → test i ≡ false)
found_below test zero = inr (λ i below. absurd (omega arith))
found_below test (suc n) = by (test n) refl (found_below test n)
  where
    by : (b : Bool) → test n ≡ b → ((i : ℕ) × (test i ≡ true)) ⊎ ((i : ℕ) → i < n → test i ≡ false) → ((i : ℕ) × (test i ≡ true)) ⊎ ((i : ℕ) → i < suc n → test i ≡ false)
    by true is before = inl (n, is)
    by false is (inl found) = inl found
    by false is (inr none) = inr (λ i below. elim (cases_eq i n) [ inl same ↦ subst (λ (k : ℕ). test k ≡ false) (sym same) is | inr other ↦ none i (omega arith) ])

-- a condition that some configuration has, since there are finitely many
pub met : (s : Sets) (a : ℕ) → HasOptions s.arities → (IsNever s a → ⊥) → IsMet s a
met s a options some = by (found_below (λ i. s.has a (config_at s.arities i)) (config_count s.arities))
  where
    by : ((i : ℕ) × (s.has a (config_at s.arities i) ≡ true)) ⊎ ((i : ℕ) → i < config_count s.arities → s.has a (config_at s.arities i) ≡ false) → IsMet s a
    by (inl found) = record { config = config_at s.arities found.0; listed = IsConfig-config_at s.arities found.0 options; has = found.1 }
    by (inr none) = absurd (some (record { none = λ c listed. ap (s.has a) (sym (config_at-rank s.arities c listed)) ∙ none (rank (strides_of s.arities) c) (rank-lt s.arities c listed) }))

-- a configuration of no branch is in none
pub no_branch : (s : Sets) (branches : List Branch) (c : List ℕ) → lists_at s branches c ≡ [] → (k : ℕ) (x : Branch) → k < length branches → s.has (get_or branches k x).cond.0 c ≡ false
no_branch s [] c none k x within = absurd (omega arith)
no_branch s (y ∷ ys) c none k x within = by (s.has y.cond.0 c) refl none k within (λ e j below. no_branch s ys c e j x below)
  where
    by : (b : Bool) → s.has y.cond.0 c ≡ b → (if b then y.places.items ∷ lists_at s ys c else lists_at s ys c) ≡ [] → (k : ℕ) → k < length (y ∷ ys)
        → (lists_at s ys c ≡ [] → (j : ℕ) → j < length ys → s.has (get_or ys j x).cond.0 c ≡ false) → s.has (get_or (y ∷ ys) k x).cond.0 c ≡ false
    by true is e k within rest = absurd (cc)
    by false is e zero within rest = is
    by false is e (suc k) within rest = rest e k (omega arith)

-- the one list of a configuration is that of each branch that has it
pub one_list : (s : Sets) (branches : List Branch) (c : List ℕ) (h : Bool) (list : List ℕ) → lists_at s branches c ≡ (if h then list ∷ [] else []) → (k : ℕ) (x : Branch) → k < length branches
    → s.has (get_or branches k x).cond.0 c ≡ true → (h ≡ true) × ((get_or branches k x).places.items ≡ list)
one_list s [] c h list one k x within has = absurd (omega arith)
one_list s (y ∷ ys) c h list one k x within has = by (s.has y.cond.0 c) h refl one k within has (λ e j below had. one_list s ys c h list e j x below had)
  where
    by : (b t : Bool) → s.has y.cond.0 c ≡ b → (if b then y.places.items ∷ lists_at s ys c else lists_at s ys c) ≡ (if t then list ∷ [] else []) → (k : ℕ) → k < length (y ∷ ys)
        → s.has (get_or (y ∷ ys) k x).cond.0 c ≡ true
        → (lists_at s ys c ≡ (if t then list ∷ [] else []) → (j : ℕ) → j < length ys → s.has (get_or ys j x).cond.0 c ≡ true → (t ≡ true) × ((get_or ys j x).places.items ≡ list))
        → (t ≡ true) × ((get_or (y ∷ ys) k x).places.items ≡ list)
    by true true is e zero within had rest = (refl, cc)
    by true true is e (suc k) within had rest = let none : lists_at s ys c ≡ [] = cc in absurd (true≢false (sym had ∙ no_branch s ys c none k x (omega arith)))
    by true false is e k within had rest = absurd (cc)
    by false t is e zero within had rest = absurd (true≢false (sym had ∙ is))
    by false t is e (suc k) within had rest = rest e k (omega arith) had

-- and no two branches have it
pub one_branch : (s : Sets) (branches : List Branch) (c : List ℕ) (h : Bool) (list : List ℕ) → lists_at s branches c ≡ (if h then list ∷ [] else []) → (i j : ℕ) (x : Branch) → i < j → j < length branches
    → s.has (get_or branches i x).cond.0 c ≡ true → s.has (get_or branches j x).cond.0 c ≡ true → ⊥
one_branch s [] c h list one i j x order within first second = absurd (omega arith)
one_branch s (y ∷ ys) c h list one i j x order within first second = by (s.has y.cond.0 c) h refl one i j order within first second (λ e k l before below had has. one_branch s ys c h list e k l x before below had has)
  where
    by : (b t : Bool) → s.has y.cond.0 c ≡ b → (if b then y.places.items ∷ lists_at s ys c else lists_at s ys c) ≡ (if t then list ∷ [] else []) → (i j : ℕ) → i < j → j < length (y ∷ ys)
        → s.has (get_or (y ∷ ys) i x).cond.0 c ≡ true → s.has (get_or (y ∷ ys) j x).cond.0 c ≡ true
        → (lists_at s ys c ≡ (if t then list ∷ [] else []) → (k l : ℕ) → k < l → l < length ys → s.has (get_or ys k x).cond.0 c ≡ true → s.has (get_or ys l x).cond.0 c ≡ true → ⊥) → ⊥
    by b t is e i zero order within had has rest = absurd (omega arith)
    by true true is e i (suc j) order within had has rest = let none : lists_at s ys c ≡ [] = cc in true≢false (sym has ∙ no_branch s ys c none j x (omega arith))
    by true false is e i (suc j) order within had has rest = absurd (cc)
    by false t is e zero (suc j) order within had has rest = true≢false (sym had ∙ is)
    by false t is e (suc i) (suc j) order within had has rest = rest e i j (omega arith) (omega arith) had has

-- a configuration of each branch
pub record Chosen (s : Sets) (branches : List Branch) : Type 0 where
  pub configs : List (List ℕ)
  pub long : length configs ≡ length branches
  pub each : (k : ℕ) (x : Branch) (c : List ℕ) → k < length branches → IsConfig s.arities (get_or configs k c) × (s.has (get_or branches k x).cond.0 (get_or configs k c) ≡ true)

chosen : (s : Sets) (branches : List Branch) → HasOptions s.arities → All (λ (branch : Branch). IsNever s branch.cond.0 → ⊥) branches → Chosen s branches
chosen s [] options some = record { configs = []; long = refl; each = λ k x c within. absurd (omega arith) }
chosen s (y ∷ ys) options some = one_more (met s y.cond.0 options (All-head (λ (branch : Branch). IsNever s branch.cond.0 → ⊥) y ys some)) (chosen s ys options (All-tail (λ (branch : Branch). IsNever s branch.cond.0 → ⊥) y ys some))
  where
    one_more : IsMet s y.cond.0 → Chosen s ys → Chosen s (y ∷ ys)
    one_more first rest = record { configs = first.config ∷ rest.configs; long = ap suc rest.long; each = λ k x c within. at first rest k x c within }
      where
        at : (first : IsMet s y.cond.0) (rest : Chosen s ys) (k : ℕ) (x : Branch) (c : List ℕ) → k < length (y ∷ ys)
            → IsConfig s.arities (get_or (first.config ∷ rest.configs) k c) × (s.has (get_or (y ∷ ys) k x).cond.0 (get_or (first.config ∷ rest.configs) k c) ≡ true)
        at first rest zero x c within = (first.listed, first.has)
        at first rest (suc k) x c within = rest.each k x c (omega arith)

first_of : (branches : List Branch) (k : ℕ) → k < length branches → Branch
first_of [] k within = absurd (omega arith)
first_of (x ∷ xs) k within = x

-- Branches with the lists of the configurations so far. Those with equal whole lists are together.
pub record ArePartsOf (first now : Sets) (cond : ℕ) (part whole : List ℕ → List ℕ) (branches : List Branch) : Type 0 where
  pub met : AreMet now branches
  pub lists : (c : List ℕ) → IsConfig first.arities c → lists_at now branches c ≡ (if first.has cond c then part c ∷ [] else [])
  pub agree : (c d : List ℕ) → IsConfig first.arities c → IsConfig first.arities d → first.has cond c ≡ first.has cond d → whole c ≡ whole d → Agree now branches c d

module _ {first now : Sets} {cond : ℕ} {part whole : List ℕ → List ℕ} {branches : List Branch} where
  -- configurations of two branches have different lists
  pub two_lists : ArePartsOf first now cond part whole branches → (i j : ℕ) (x : Branch) (c d : List ℕ) → i < j → j < length branches → IsConfig first.arities c → IsConfig first.arities d
      → now.has (get_or branches i x).cond.0 c ≡ true → now.has (get_or branches j x).cond.0 d ≡ true → whole c ≡ whole d → ⊥
  two_lists parts i j x c d order within c_listed d_listed in_i in_j same =
      let at_c = one_list now branches c (first.has cond c) (part c) (parts.lists c c_listed) i x (omega arith) in_i in
      let at_d = one_list now branches d (first.has cond d) (part d) (parts.lists d d_listed) j x within in_j in
      let both = (parts.agree c d c_listed d_listed (at_c.0 ∙ sym at_d.0) same).each i x (omega arith) in
      one_branch now branches d (first.has cond d) (part d) (parts.lists d d_listed) i j x order within (sym both ∙ in_i) in_j

  -- so the branches count different lists
  pub HasLists-parts : Keeps first now → HasOptions first.arities → ArePartsOf first now cond part whole branches → (n : ℕ) → n ≤ length branches → HasLists first cond whole n
  HasLists-parts keeps options parts n most =
      let here : HasOptions now.arities = subst HasOptions (sym keeps.arities) options in
      let picked = chosen now branches here parts.met.some in
      record {
        configs = picked.configs;
        many = omega (arith, picked.long);
        listed = λ k c within.
            let below : k < length branches = omega (arith, picked.long) in
            IsConfig-kept keeps (picked.each k (first_of branches k below) c below).0;
        has = λ k c within.
            let below : k < length branches = omega (arith, picked.long) in
            let x = first_of branches k below in
            let one = picked.each k x c below in
            (one_list now branches (get_or picked.configs k c) (first.has cond (get_or picked.configs k c)) (part (get_or picked.configs k c)) (parts.lists (get_or picked.configs k c) (IsConfig-kept keeps one.0)) k x below one.1).0;
        apart = λ i j c order within same.
            let below : j < length branches = omega (arith, picked.long) in
            let x = first_of branches j below in
            let a = picked.each i x c (omega arith) in
            let b = picked.each j x c below in
            two_lists parts i j x (get_or picked.configs i c) (get_or picked.configs j c) order below (IsConfig-kept keeps a.0) (IsConfig-kept keeps b.0) a.1 b.1 same;
      }

-- at the end no two have equal places
pub AreBranches-parts : {first now : Sets} {cond : ℕ} {list : List ℕ → List ℕ} {branches : List Branch} → Keeps first now → HasOptions first.arities → ArePartsOf first now cond list list branches → AreBranches now branches
AreBranches-parts {first} {now} {cond} {list} {branches} keeps options parts =
    let here : HasOptions now.arities = subst HasOptions (sym keeps.arities) options in
    record {
      own = parts.met.own;
      some = parts.met.some;
      apart = λ i j x order within same.
          let a = met now (get_or branches i x).cond.0 here (parts.met.some i x (omega arith)) in
          let b = met now (get_or branches j x).cond.0 here (parts.met.some j x within) in
          let a_listed = IsConfig-kept keeps a.listed in
          let b_listed = IsConfig-kept keeps b.listed in
          let at_a = one_list now branches a.config (first.has cond a.config) (list a.config) (parts.lists a.config a_listed) i x (omega arith) a.has in
          let at_b = one_list now branches b.config (first.has cond b.config) (list b.config) (parts.lists b.config b_listed) j x within b.has in
          two_lists parts i j x a.config b.config order within a_listed b_listed a.has b.has (sym at_a.1 ∙ (same ∙ at_b.1));
    }

-- a list that gets one place more
pub if_placed : (b had : Bool) (place : ℕ) (list more : List ℕ) → more ≡ placed had place list → map (placed had place) (if b then list ∷ [] else []) ≡ (if b then more ∷ [] else [])
if_placed true had place list more is = ap (λ (ps : List ℕ). ps ∷ []) (sym is)
if_placed false had place list more is = refl

-- branches by the first items
pub ArePartsOf-items : {first now : Sets} {cond : ℕ} (n : ℕ) (items : List Cond) (i : ℕ) (branches : List Branch) → i ≤ length items → AreLeaves now branches
    → ((c : List ℕ) → IsConfig first.arities c → lists_at now branches c ≡ (if first.has cond c then places_from first n (take i items) c ∷ [] else []))
    → ((c d : List ℕ) → IsConfig first.arities c → IsConfig first.arities d → first.has cond c ≡ first.has cond d → SameBelow first items i c d → Agree now branches c d)
    → ArePartsOf first now cond (λ c. places_from first n (take i items) c) (λ c. places_from first n items c) branches
ArePartsOf-items {first} n items i branches within leaves lists agree = record {
  met = record { own = leaves.own; some = leaves.some };
  lists = lists;
  agree = λ c d c_listed d_listed same equal. agree c d c_listed d_listed same (SameBelow-places first n items c d i within equal);
}

-- by all of them
pub ArePartsOf-all : {first now : Sets} {cond : ℕ} (n : ℕ) (items : List Cond) (i : ℕ) (branches : List Branch) → i ≡ length items → ArePartsOf first now cond (λ c. places_from first n (take i items) c) (λ c. places_from first n items c) branches
    → ArePartsOf first now cond (λ c. places_from first n items c) (λ c. places_from first n items c) branches
ArePartsOf-all {first} {now} {cond} n items i branches end parts = record {
  met = parts.met;
  lists = λ c listed. let past : length items ≤ i = omega arith in
      parts.lists c listed ∙ ap (λ (ks : List Cond). if first.has cond c then places_from first n ks c ∷ [] else []) (take_all i items past);
  agree = parts.agree;
}

-- a test that fails says the opposite
pub at_most : (test : Bool) (n m : ℕ) → (n < m → test ≡ true) → test ≡ false → m ≤ n
at_most test n m more fails = elim (cases_lt n m) [ inl below ↦ absurd (true≢false (sym (more below) ∙ fails)) | inr above ↦ above ]
