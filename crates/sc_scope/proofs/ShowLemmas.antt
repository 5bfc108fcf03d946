-- What the calls do to levels, and what the marks of a grammar do at one configuration.
use Rattle.std.proofs.Common.{◌≡◌, ℕ, ◌==◌, Bool, true, false, List, [], ◌∷◌, ◌++◌, Option, Some, slice_get, drop, refl, ap, sym, subst, ◌∙◌, if◌then◌else◌}
use Rattle.std.proofs.lemmas.Bool.{eq-eqb, eqb-true}
use Rattle.std.proofs.lemmas.Option.{same_Some}
use Rattle.c11_parsing.specs.Bindings as plain
use Rattle.c11_parsing.specs.Bindings.{Binding, first_in, or_else, innermost}
use Rattle.sc_base.specs.declared.id.Cond.{Cond}
use Rattle.sc_guarded.specs.Items.{items_at}
use Rattle.sc_guarded.proofs.ItemLemmas.{items_at-append, items_at-Keeps}
use Rattle.sc_model.specs.Bytes.{same_bytes}
use Rattle.sc_model.specs.Growth.{IsOneToOne}
use Rattle.sc_model.specs.Sets.{Sets, IsConfig, Keeps}
use Rattle.sc_model.proofs.ByteLemmas.{same_bytes-refl, same_bytes-true}
use Rattle.sc_scope.specs.declared.kind.NameKind.{NameKind}
use Rattle.sc_scope.specs.declared.kind.NameKind.TheVariants.{Variable, Typedef}
use Rattle.sc_scope.specs.Levels.{Level, no_bindings, with_binding, bound, joined}
use Rattle.sc_scope.specs.Search.{bindings_in, is_typedef, is_typedef_at, OwnsLevels}
use Rattle.sc_scope.specs.Shows.{kind_of, first_kind, is_type, Shows, none_shown, more_shown}
use Rattle.sc_scope.proofs.SearchLemmas.{AreOwn-front, AreOwn-back}

-- ---- first kinds

first_kind-append : (xs ys : List NameKind) → first_kind (xs ++ ys) ≡ or_else (first_kind xs) (first_kind ys)
first_kind-append [] ys = refl
first_kind-append (x ∷ xs) ys = refl

first_in-append : (text : List ℕ) (xs ys : plain.Level) → first_in text (xs ++ ys) ≡ or_else (first_in text xs) (first_in text ys)
first_in-append text [] ys = refl
first_in-append text (x ∷ xs) ys = by (same_bytes x.name text) (first_in-append text xs ys)
  where
    by : (b : Bool) → first_in text (xs ++ ys) ≡ or_else (first_in text xs) (first_in text ys)
        → (if b then Some x.kind else first_in text (xs ++ ys)) ≡ or_else (if b then Some x.kind else first_in text xs) (first_in text ys)
    by true rest = refl
    by false rest = rest

is_typedef-first : (kinds : List NameKind) → is_typedef kinds ≡ is_type (first_kind kinds)
is_typedef-first [] = refl
is_typedef-first (Variable ∷ kinds) = refl
is_typedef-first (Typedef ∷ kinds) = refl

-- ---- names and texts

both_ways : (a b : Bool) → (a ≡ true → b ≡ true) → (b ≡ true → a ≡ true) → a ≡ b
both_ways true true f g = refl
both_ways true false f g = sym (f refl)
both_ways false true f g = g refl
both_ways false false f g = refl

-- names are the same where their texts are
same_test : (names : List (List ℕ)) (n name : ℕ) (other text : List ℕ) → IsOneToOne names → slice_get names n ≡ Some other → slice_get names name ≡ Some text
    → (n == name) ≡ same_bytes text other
same_test names n name other text one at_n at_name = both_ways (n == name) (same_bytes text other) forth back
  where
    forth : (n == name) ≡ true → same_bytes text other ≡ true
    forth is =
        let e : n ≡ name = eqb-true n name is in
        let texts : Some text ≡ Some other = sym at_name ∙ (ap (slice_get names) (sym e) ∙ at_n) in
        subst (λ (t : List ℕ). same_bytes text t ≡ true) (same_Some text other texts) (same_bytes-refl text)

    back : same_bytes text other ≡ true → (n == name) ≡ true
    back is = eq-eqb n name (one.same n name other at_n (at_name ∙ ap Some (same_bytes-true text other is)))

-- ---- levels

inside : (sets : Sets) (c : List ℕ) (cond : Cond) (kind : NameKind) (older : List (Cond × NameKind)) (b : Bool) (other : Option plain.NameKind)
    → sets.has cond.0 c ≡ true → first_kind (items_at sets older c) ≡ other
    → first_kind (items_at sets (if b then (cond, kind) ∷ older else older) c) ≡ (if b then Some (kind_of kind) else other)
inside sets c cond kind older true other has same = ap (λ h. first_kind (if h then kind ∷ items_at sets older c else items_at sets older c)) has
inside sets c cond kind older false other has same = same

outside : (sets : Sets) (c : List ℕ) (cond : Cond) (kind : NameKind) (older : List (Cond × NameKind)) (b : Bool) → sets.has cond.0 c ≡ false
    → first_kind (items_at sets (if b then (cond, kind) ∷ older else older) c) ≡ first_kind (items_at sets older c)
outside sets c cond kind older true hasnt = ap (λ h. first_kind (if h then kind ∷ items_at sets older c else items_at sets older c)) hasnt
outside sets c cond kind older false hasnt = refl

module _ (sets : Sets) (names : List (List ℕ)) (c : List ℕ) where
  pub push-shows : (levels : List Level) (others : List plain.Level) → Shows sets names c levels others → Shows sets names c (no_bindings ∷ levels) ([] ∷ others)
  push-shows levels others shows = more_shown no_bindings [] levels others (record { same = λ name text at. refl }) shows

  pub pop-shows : (levels : List Level) (others : List plain.Level) → Shows sets names c levels others → Shows sets names c (drop 1 levels) (plain.pop others)
  pop-shows _ _ none_shown = none_shown
  pop-shows _ _ (more_shown level bindings levels others first shows) = shows

  pub join-shows : (levels : List Level) (others : List plain.Level) → Shows sets names c levels others → Shows sets names c (joined levels) (plain.join others)
  join-shows _ _ none_shown = none_shown
  join-shows _ _ (more_shown top bindings _ _ first none_shown) = more_shown top bindings [] [] first none_shown
  join-shows _ _ (more_shown top bindings _ _ first (more_shown below older levels others second shows)) =
      more_shown (λ n. top n ++ below n) (bindings ++ older) levels others
      (record {
        same = λ name text at.
            ap first_kind (items_at-append sets (top name) (below name) c)
            ∙ first_kind-append (items_at sets (top name) c) (items_at sets (below name) c)
            ∙ ap (λ k. or_else k (first_kind (items_at sets (below name) c))) (first.same name text at)
            ∙ ap (λ k. or_else (first_in text bindings) k) (second.same name text at)
            ∙ sym (first_in-append text bindings older);
      })
      shows

  pub bind-shows : (name : ℕ) (text : List ℕ) (cond : Cond) (kind : NameKind) (levels : List Level) (others : List plain.Level) → IsOneToOne names
      → slice_get names name ≡ Some text → sets.has cond.0 c ≡ true → Shows sets names c levels others
      → Shows sets names c (bound name (cond, kind) levels) (plain.bind (kind_of kind) text others)
  bind-shows name text cond kind _ _ one at has none_shown = none_shown
  bind-shows name text cond kind _ _ one at has (more_shown level bindings levels others first shows) =
      more_shown (with_binding name (cond, kind) level) (record { name = text; kind = kind_of kind } ∷ bindings) levels others
      (record {
        same = λ n other at_n.
            inside sets c cond kind (level n) (n == name) (first_in other bindings) has (first.same n other at_n)
            ∙ ap (λ b. if b then Some (kind_of kind) else first_in other bindings) (same_test names n name other text one at_n at);
      })
      shows

  pub bind-outside : (name : ℕ) (cond : Cond) (kind : NameKind) (levels : List Level) (others : List plain.Level) → sets.has cond.0 c ≡ false
      → Shows sets names c levels others → Shows sets names c (bound name (cond, kind) levels) others
  bind-outside name cond kind _ _ hasnt none_shown = none_shown
  bind-outside name cond kind _ _ hasnt (more_shown level bindings levels others first shows) =
      more_shown (with_binding name (cond, kind) level) bindings levels others
      (record { same = λ n other at_n. outside sets c cond kind (level n) (n == name) hasnt ∙ first.same n other at_n })
      shows

  innermost-shown : (name : ℕ) (text : List ℕ) (levels : List Level) (others : List plain.Level) → slice_get names name ≡ Some text → Shows sets names c levels others
      → first_kind (items_at sets (bindings_in name levels) c) ≡ innermost text others
  innermost-shown name text _ _ at none_shown = refl
  innermost-shown name text _ _ at (more_shown level bindings levels others first shows) =
      ap first_kind (items_at-append sets (level name) (bindings_in name levels) c)
      ∙ first_kind-append (items_at sets (level name) c) (items_at sets (bindings_in name levels) c)
      ∙ ap (λ k. or_else k (first_kind (items_at sets (bindings_in name levels) c))) (first.same name text at)
      ∙ ap (λ k. or_else (first_in text bindings) k) (innermost-shown name text levels others at shows)

  pub typedef-shown : (name : ℕ) (text : List ℕ) (levels : List Level) (others : List plain.Level) → slice_get names name ≡ Some text → Shows sets names c levels others
      → is_typedef_at sets levels name c ≡ is_type (innermost text others)
  typedef-shown name text levels others at shows =
      is_typedef-first (items_at sets (bindings_in name levels) c) ∙ ap is_type (innermost-shown name text levels others at shows)

-- what levels show stays as the store of conditions grows
pub Shows-Keeps : {old new : Sets} (names : List (List ℕ)) (c : List ℕ) (levels : List Level) (others : List plain.Level) → Keeps old new
    → IsConfig old.arities c → OwnsLevels old levels → Shows old names c levels others → Shows new names c levels others
Shows-Keeps names c _ _ keeps listed own none_shown = none_shown
Shows-Keeps {old} {new} names c _ _ keeps listed own (more_shown level bindings levels others first shows) =
    more_shown level bindings levels others
    (record {
      same = λ name text at.
          ap first_kind (items_at-Keeps (level name) c keeps (AreOwn-front old (level name) (bindings_in name levels) (own.each name)).each listed)
          ∙ first.same name text at;
    })
    (Shows-Keeps names c levels others keeps listed
    (record { each = λ name. AreOwn-back old (level name) (bindings_in name levels) (own.each name) }) shows)
