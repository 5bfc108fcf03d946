-- Items whose conditions are met with another from an index on.
use Rattle.std.proofs.Common.{◌≡◌, ℕ, ◌+◌, ◌<◌, ◌≤◌, ◌&&◌, Bool, List, [], ◌∷◌, ◌++◌, All, map, take, drop, length, get_or, set, ◌-◌, refl, ap, subst, sym, ◌∙◌, arith, if◌then◌else◌}
use Rattle.std.proofs.lemmas.List.{map-append, take_more, append_assoc, take-map, take_at, take_more_set, map-set, set-get_or, drop_at, drop-append-le, drop-map, get_or-map, length-take-le, length-map}
use Rattle.std.proofs.lemmas.List.Elements.{All-head, All-tail, All-append, All-take, All-map}
use Rattle.sc_base.specs.declared.id.Cond.{Cond}
use Rattle.sc_guarded.specs.Items.{items_at}
use Rattle.sc_guarded.proofs.ItemLemmas.{items_at-met, map-condition, same_pairs}
use Rattle.sc_model.proofs.SetLemmas.{IsConfig-Keeps}
use Rattle.sc_model.specs.Sets.{Sets, IsConfig, IsCond, Denotes, Keeps}

-- conditions that the store keeps have the configurations that they had
map-has-Keeps : {old new : Sets} (conds : List Cond) (c : List ℕ) → Keeps old new → All (λ (cond : Cond). IsCond old cond.0) conds → IsConfig old.arities c
    → map (λ (cond : Cond). new.has cond.0 c) conds ≡ map (λ (cond : Cond). old.has cond.0 c) conds
map-has-Keeps [] c keeps own listed = refl
map-has-Keeps {old} {new} (x ∷ xs) c keeps own listed =
    let P : Cond → Type 0 = λ cond. IsCond old cond.0 in
    ap (λ b. b ∷ map (λ (cond : Cond). new.has cond.0 c) xs) (keeps.at x.0 c (All-head P x xs own) listed)
    ∙ ap (λ bs. old.has x.0 c ∷ bs) (map-has-Keeps xs c keeps (All-tail P x xs own) listed)

All-unmap : {X Y : Type 0} (P : Y → Type 0) (f : X → Y) (xs : List X) → All P (map f xs) → All (λ x. P (f x)) xs
All-unmap P f xs all = λ k d h. subst P (get_or-map f xs k d (f d) h) (all k (f d) (omega (arith, length-map xs f, h)))

-- the part of a list between two indices, with the second one step on
drop-take_more : {X : Type 0} (xs : List X) (from i : ℕ) (x : X) → from ≤ i → i < length xs → x ≡ get_or xs i x → drop from (take (i + 1) xs) ≡ drop from (take i xs) ++ x ∷ []
drop-take_more xs from i x le within is =
    let long : length (take i xs) ≡ i = length-take-le i xs (omega arith) in
    ap (drop from) (take_more xs i x within ∙ ap (λ y. take i xs ++ y ∷ []) (sym is)) ∙ drop-append-le from (take i xs) (x ∷ []) (omega (arith, long))

module _ {T : Type 0} where
  -- one more condition is met
  pub meets_more : (first old new : Sets) (items : List (Cond × T)) (from i : ℕ) (item : Cond × T) (by made : Cond) (met : List Cond) (c : List ℕ) → from ≤ i → i < length items → item ≡ get_or items i item
      → Keeps first old → Keeps old new → All (λ (cond : Cond). IsCond old cond.0) met → IsCond first item.0.0 → IsCond first by.0 → IsConfig first.arities c
      → Denotes new made.0 (λ x. old.has item.0.0 x && old.has by.0 x)
      → map (λ (cond : Cond). old.has cond.0 c) met ≡ map (λ (item : Cond × T). first.has item.0.0 c && first.has by.0 c) (drop from (take i items))
      → map (λ (cond : Cond). new.has cond.0 c) (met ++ made ∷ []) ≡ map (λ (item : Cond × T). first.has item.0.0 c && first.has by.0 c) (drop from (take (i + 1) items))
  meets_more first old new items from i item by made met c le within is before after own item_own by_own listed told was =
      let F : Cond × T → Bool = λ item. first.has item.0.0 c && first.has by.0 c in
      let G : Cond → Bool = λ cond. new.has cond.0 c in
      let here : IsConfig old.arities c = IsConfig-Keeps before listed in
      let test : new.has made.0 c ≡ F item =
      told.at c (IsConfig-Keeps after here) ∙ (ap (λ b. b && old.has by.0 c) (before.at item.0.0 c item_own listed) ∙ ap (λ b. first.has item.0.0 c && b) (before.at by.0 c by_own listed)) in
      map-append G met (made ∷ [])
      ∙ (ap (λ bs. bs ++ new.has made.0 c ∷ []) (map-has-Keeps met c after own here ∙ was)
      ∙ (ap (λ b. map F (drop from (take i items)) ++ b ∷ []) test ∙ (sym (map-append F (drop from (take i items)) (item ∷ [])) ∙ ap (map F) (sym (drop-take_more items from i item le within is)))))

  -- one more item has its condition
  pub conditions_more : (xs : List (Cond × T)) (i from : ℕ) (front conds : List Cond) (item : T) (d : Cond) → from ≤ i → i < length xs → i - from < length conds
      → map (λ (item : Cond × T). item.0) (take i xs) ≡ front ++ take (i - from) conds
      → map (λ (item : Cond × T). item.0) (take (i + 1) (set xs i (get_or conds (i - from) d, item))) ≡ front ++ take (i + 1 - from) conds
  conditions_more xs i from front conds item d le within some was =
      let f : Cond × T → Cond = λ item. item.0 in
      let cond = get_or conds (i - from) d in
      let step : i - from + 1 ≡ i + 1 - from = omega arith in
      ap (map f) (take_more_set xs i (cond, item) within)
      ∙ (map-append f (take i xs) ((cond, item) ∷ [])
      ∙ (ap (λ cs. cs ++ cond ∷ []) was
      ∙ (append_assoc front (take (i - from) conds) (cond ∷ []) ∙ (ap (λ cs. front ++ cs) (sym (take_more conds (i - from) d some)) ∙ ap (λ n. front ++ take n conds) step))))

  -- the item stays as its condition is set
  pub items_stay : (xs : List (Cond × T)) (i : ℕ) (cond : Cond) (x : Cond × T) → x ≡ get_or xs i x → map (λ (item : Cond × T). item.1) (set xs i (cond, x.1)) ≡ map (λ (item : Cond × T). item.1) xs
  items_stay xs i cond x is =
      let f : Cond × T → T = λ item. item.1 in
      map-set f xs i (cond, x.1) ∙ (sym (map-set f xs i x) ∙ ap (map f) (ap (set xs i) is ∙ set-get_or xs i x))

  module _ (xs ys : List (Cond × T)) (from : ℕ) (met : List Cond) (low : from ≤ length ys)
      (conds : map (λ (item : Cond × T). item.0) xs ≡ take from (map (λ (item : Cond × T). item.0) ys) ++ met) (items : map (λ (item : Cond × T). item.1) xs ≡ map (λ (item : Cond × T). item.1) ys) where
    front_long : length (take from (map (λ (item : Cond × T). item.0) ys)) ≡ from
    front_long = length-take-le from (map (λ (item : Cond × T). item.0) ys) (omega (arith, length-map ys (λ (item : Cond × T). item.0)))

    -- the items before the index stay
    pub front_same : take from xs ≡ take from ys
    front_same =
        let f : Cond × T → Cond = λ item. item.0 in
        let g : Cond × T → T = λ item. item.1 in
        same_pairs (take from xs) (take from ys) (sym (take-map f from xs) ∙ (ap (take from) conds ∙ (take_at (take from (map f ys)) met from front_long ∙ take-map f from ys)))
        (sym (take-map g from xs) ∙ (ap (take from) items ∙ take-map g from ys))

    -- the conditions of the others are the met ones
    rest_conds : map (λ (item : Cond × T). item.0) (drop from xs) ≡ met
    rest_conds =
        let f : Cond × T → Cond = λ item. item.0 in
        sym (drop-map f from xs) ∙ (ap (drop from) conds ∙ drop_at (take from (map f ys)) met from front_long)

    module _ (old new : Sets) (b : Bool) (c : List ℕ) (meaning : map (λ (cond : Cond). new.has cond.0 c) met ≡ map (λ (item : Cond × T). old.has item.0.0 c && b) (drop from ys)) where
      -- each of the others has what it had where the test holds
      pub each_met : map (λ (item : Cond × T). new.has item.0.0 c) (drop from xs) ≡ map (λ (item : Cond × T). old.has item.0.0 c && b) (drop from ys)
      each_met = map-condition (λ (cond : Cond). new.has cond.0 c) (drop from xs) met rest_conds ∙ meaning

      -- the others stand where they stood and the test holds
      pub rest_met : items_at new (drop from xs) c ≡ (if b then items_at old (drop from ys) c else [])
      rest_met =
          let g : Cond × T → T = λ item. item.1 in
          items_at-met old new b c (drop from xs) (drop from ys) (sym (drop-map g from xs) ∙ (ap (drop from) items ∙ drop-map g from ys)) each_met

    -- all conditions are the store's
    pub all_own : (s : Sets) → All (λ (item : Cond × T). IsCond s item.0.0) ys → All (λ (cond : Cond). IsCond s cond.0) met → All (λ (item : Cond × T). IsCond s item.0.0) xs
    all_own s ys_own met_own =
        let P : Cond → Type 0 = λ cond. IsCond s cond.0 in
        let f : Cond × T → Cond = λ item. item.0 in
        All-unmap P f xs (subst (All P) (sym conds) (All-append P (take from (map f ys)) met (All-take P from (map f ys) (All-map P f ys ys_own)) met_own))
