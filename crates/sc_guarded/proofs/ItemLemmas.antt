-- What stands at one configuration, of lists that are joined, kept or restricted.
use Rattle.std.proofs.Common.{◌≡◌, ℕ, ◌+◌, ◌<◌, ◌&&◌, Bool, true, false, List, [], ◌∷◌, ◌++◌, All, map, take, length, get_or, refl, ap, sym, ◌∙◌, if◌then◌else◌}
use Rattle.std.proofs.lemmas.List.{map-append, take_more}
use Rattle.std.proofs.lemmas.List.Elements.{All-nil, All-cons, All-head, All-tail}
use Rattle.sc_base.specs.declared.fault.Fault.{Fault}
use Rattle.sc_base.specs.declared.id.Cond.{Cond}
use Rattle.sc_guarded.specs.Items.{items_at, faults_at}
use Rattle.sc_model.specs.Sets.{Sets, IsConfig, IsCond, Keeps, IsNever}

-- what is made of one item, or of none
pub map-one : {A B : Type 0} (f : A → B) (b : Bool) (x : A) → map f (if b then x ∷ [] else []) ≡ (if b then f x ∷ [] else [])
map-one f true x = refl
map-one f false x = refl

module _ {T : Type 0} where
  pub items_at-append : (s : Sets) (xs ys : List (Cond × T)) (c : List ℕ) → items_at s (xs ++ ys) c ≡ items_at s xs c ++ items_at s ys c
  items_at-append s [] ys c = refl
  items_at-append s (x ∷ xs) ys c = by (s.has x.0.0 c) (items_at-append s xs ys c)
    where
      by : (b : Bool) → items_at s (xs ++ ys) c ≡ items_at s xs c ++ items_at s ys c
          → (if b then x.1 ∷ items_at s (xs ++ ys) c else items_at s (xs ++ ys) c) ≡ (if b then x.1 ∷ items_at s xs c else items_at s xs c) ++ items_at s ys c
      by true e = ap (λ zs. x.1 ∷ zs) e
      by false e = e

  -- items whose conditions the store keeps stand where they stood
  pub items_at-Keeps : {old new : Sets} (items : List (Cond × T)) (c : List ℕ) → Keeps old new → All (λ (item : Cond × T). IsCond old item.0.0) items → IsConfig old.arities c
      → items_at new items c ≡ items_at old items c
  items_at-Keeps [] c keeps own listed = refl
  items_at-Keeps {old} {new} (x ∷ xs) c keeps own listed =
      let P : Cond × T → Type 0 = λ item. IsCond old item.0.0 in
      ap (λ b. if b then x.1 ∷ items_at new xs c else items_at new xs c) (keeps.at x.0.0 c (All-head P x xs own) listed)
      ∙ ap (λ r. if old.has x.0.0 c then x.1 ∷ r else r) (items_at-Keeps xs c keeps (All-tail P x xs own) listed)

  -- the same items, each condition met with one more test
  pub items_at-met : (old new : Sets) (b : Bool) (c : List ℕ) (xs ys : List (Cond × T)) → map (λ (item : Cond × T). item.1) xs ≡ map (λ (item : Cond × T). item.1) ys
      → map (λ (item : Cond × T). new.has item.0.0 c) xs ≡ map (λ (item : Cond × T). old.has item.0.0 c && b) ys → items_at new xs c ≡ (if b then items_at old ys c else [])
  items_at-met old new true c [] [] same met = refl
  items_at-met old new false c [] [] same met = refl
  items_at-met old new b c [] (y ∷ ys) same met = absurd (cc)
  items_at-met old new b c (x ∷ xs) [] same met = absurd (cc)
  items_at-met old new b c (x ∷ xs) (y ∷ ys) same met =
      let item : x.1 ≡ y.1 = cc in
      let test : new.has x.0.0 c ≡ (old.has y.0.0 c && b) = cc in
      let same_rest : map (λ (item : Cond × T). item.1) xs ≡ map (λ (item : Cond × T). item.1) ys = cc in
      let met_rest : map (λ (item : Cond × T). new.has item.0.0 c) xs ≡ map (λ (item : Cond × T). old.has item.0.0 c && b) ys = cc in
      let rest = items_at-met old new b c xs ys same_rest met_rest in
      ap (λ t. if t then x.1 ∷ items_at new xs c else items_at new xs c) test
      ∙ (ap (λ r. if old.has y.0.0 c && b then x.1 ∷ r else r) rest
      ∙ (ap (λ i. if old.has y.0.0 c && b then i ∷ (if b then items_at old ys c else []) else (if b then items_at old ys c else [])) item ∙ by (old.has y.0.0 c) b))
    where
      by : (h b : Bool) → (if h && b then y.1 ∷ (if b then items_at old ys c else []) else (if b then items_at old ys c else []))
          ≡ (if b then (if h then y.1 ∷ items_at old ys c else items_at old ys c) else [])
      by true true = refl
      by true false = refl
      by false true = refl
      by false false = refl

  -- one item more
  pub items_at-take : (s : Sets) (xs : List (Cond × T)) (i : ℕ) (x : Cond × T) (c : List ℕ) → i < length xs → x ≡ get_or xs i x
      → items_at s (take (i + 1) xs) c ≡ items_at s (take i xs) c ++ (if s.has x.0.0 c then x.1 ∷ [] else [])
  items_at-take s xs i x c within is =
      ap (λ ys. items_at s ys c) (take_more xs i x within ∙ ap (λ y. take i xs ++ y ∷ []) (sym is)) ∙ items_at-append s (take i xs) (x ∷ []) c

  -- items that all stand under one condition
  abbrev pub under : Cond → List T → List (Cond × T)
  under cond xs = map (λ x. (cond, x)) xs

  pub items_at-under : (s : Sets) (cond : Cond) (xs : List T) (c : List ℕ) → items_at s (under cond xs) c ≡ (if s.has cond.0 c then xs else [])
  items_at-under s cond [] c = by (s.has cond.0 c)
    where
      by : (b : Bool) → ◌≡◌ {A = List T} [] (if b then [] else [])
      by true = refl
      by false = refl
  items_at-under s cond (x ∷ xs) c = by (s.has cond.0 c) (items_at-under s cond xs c)
    where
      by : (b : Bool) → items_at s (under cond xs) c ≡ (if b then xs else []) → (if b then x ∷ items_at s (under cond xs) c else items_at s (under cond xs) c) ≡ (if b then x ∷ xs else [])
      by true e = ap (λ ys. x ∷ ys) e
      by false e = e

  -- what one item more adds to what is made of the items
  pub map-items_at-take : {X : Type 0} (f : T → X) (s : Sets) (xs : List (Cond × T)) (i : ℕ) (x : Cond × T) (c : List ℕ) (b : Bool) (made : List X) → i < length xs → x ≡ get_or xs i x → s.has x.0.0 c ≡ b
      → made ≡ map f (items_at s (take i xs) c) → made ++ (if b then f x.1 ∷ [] else []) ≡ map f (items_at s (take (i + 1) xs) c)
  map-items_at-take {X} f s xs i x c b made within is test was =
      ap (λ ys. ys ++ (if b then f x.1 ∷ [] else [])) was
      ∙ (ap (λ ys. map f (items_at s (take i xs) c) ++ ys) (sym (map-one f b x.1))
      ∙ (sym (map-append f (items_at s (take i xs) c) (if b then x.1 ∷ [] else []))
      ∙ (ap (λ t. map f (items_at s (take i xs) c ++ (if t then x.1 ∷ [] else []))) (sym test) ∙ ap (map f) (sym (items_at-take s xs i x c within is)))))

  -- the conditions of items whose conditions are these
  pub map-condition : {X : Type 0} (f : Cond → X) (xs : List (Cond × T)) (cs : List Cond) → map (λ (item : Cond × T). item.0) xs ≡ cs → map (λ (item : Cond × T). f item.0) xs ≡ map f cs
  map-condition f [] [] same = refl
  map-condition f [] (c ∷ cs) same = absurd (cc)
  map-condition f (x ∷ xs) [] same = absurd (cc)
  map-condition f (x ∷ xs) (c ∷ cs) same =
      let head : x.0 ≡ c = cc in
      let rest : map (λ (item : Cond × T). item.0) xs ≡ cs = cc in
      let tail = map-condition f xs cs rest in
      ap (λ y. f y ∷ map (λ (item : Cond × T). f item.0) xs) head ∙ ap (λ ys. f c ∷ ys) tail

  -- lists with the same conditions and the same items are one
  pub same_pairs : (xs ys : List (Cond × T)) → map (λ (item : Cond × T). item.0) xs ≡ map (λ (item : Cond × T). item.0) ys → map (λ (item : Cond × T). item.1) xs ≡ map (λ (item : Cond × T). item.1) ys → xs ≡ ys
  same_pairs [] [] conds items = refl
  same_pairs [] (y ∷ ys) conds items = absurd (cc)
  same_pairs (x ∷ xs) [] conds items = absurd (cc)
  same_pairs (x ∷ xs) (y ∷ ys) conds items =
      let head : x.0 ≡ y.0 = cc in
      let item : x.1 ≡ y.1 = cc in
      let conds_rest : map (λ (item : Cond × T). item.0) xs ≡ map (λ (item : Cond × T). item.0) ys = cc in
      let items_rest : map (λ (item : Cond × T). item.1) xs ≡ map (λ (item : Cond × T). item.1) ys = cc in
      ap (λ c. (c, x.1) ∷ xs) head ∙ (ap (λ i. (y.0, i) ∷ xs) item ∙ ap (λ zs. y ∷ zs) (same_pairs xs ys conds_rest items_rest))

pub faults_at-append : (s : Sets) (xs ys : List Fault) (c : List ℕ) → faults_at s (xs ++ ys) c ≡ faults_at s xs c ++ faults_at s ys c
faults_at-append s [] ys c = refl
faults_at-append s (x ∷ xs) ys c = by (s.has x.cond.0 c) (faults_at-append s xs ys c)
  where
    by : (b : Bool) → faults_at s (xs ++ ys) c ≡ faults_at s xs c ++ faults_at s ys c
        → (if b then x ∷ faults_at s (xs ++ ys) c else faults_at s (xs ++ ys) c) ≡ (if b then x ∷ faults_at s xs c else faults_at s xs c) ++ faults_at s ys c
    by true e = ap (λ zs. x ∷ zs) e
    by false e = e

-- faults whose conditions the store keeps stand where they stood
pub faults_at-Keeps : {old new : Sets} (faults : List Fault) (c : List ℕ) → Keeps old new → All (λ (fault : Fault). IsCond old fault.cond.0) faults → IsConfig old.arities c
    → faults_at new faults c ≡ faults_at old faults c
faults_at-Keeps [] c keeps own listed = refl
faults_at-Keeps {old} {new} (x ∷ xs) c keeps own listed =
    let P : Fault → Type 0 = λ fault. IsCond old fault.cond.0 in
    ap (λ b. if b then x ∷ faults_at new xs c else faults_at new xs c) (keeps.at x.cond.0 c (All-head P x xs own) listed)
    ∙ ap (λ r. if old.has x.cond.0 c then x ∷ r else r) (faults_at-Keeps xs c keeps (All-tail P x xs own) listed)

-- faults that no configuration has stand at none
pub faults_at-never : (s : Sets) (faults : List Fault) → All (λ (fault : Fault). IsNever s fault.cond.0) faults → (c : List ℕ) → IsConfig s.arities c → faults_at s faults c ≡ []
faults_at-never s [] never c listed = refl
faults_at-never s (x ∷ xs) never c listed =
    let P : Fault → Type 0 = λ fault. IsNever s fault.cond.0 in
    ap (λ b. if b then x ∷ faults_at s xs c else faults_at s xs c) ((All-head P x xs never).none c listed) ∙ faults_at-never s xs (All-tail P x xs never) c listed

-- and faults that stand at none are those that no configuration has
pub never-faults_at : (s : Sets) (faults : List Fault) → ((c : List ℕ) → IsConfig s.arities c → faults_at s faults c ≡ []) → All (λ (fault : Fault). IsNever s fault.cond.0) faults
never-faults_at s [] none = All-nil (λ (fault : Fault). IsNever s fault.cond.0)
never-faults_at s (x ∷ xs) none =
    All-cons (λ (fault : Fault). IsNever s fault.cond.0) x xs
    (record { none = λ c listed. (by (s.has x.cond.0 c) (faults_at s xs c) (none c listed)).0 })
    (never-faults_at s xs (λ c listed. (by (s.has x.cond.0 c) (faults_at s xs c) (none c listed)).1))
  where
    by : (b : Bool) (rest : List Fault) → (if b then x ∷ rest else rest) ≡ [] → (b ≡ false) × (rest ≡ [])
    by true rest e = absurd (cc)
    by false rest e = (refl, e)
