-- A search over bindings, one after the other.
use Rattle.std.proofs.Common.{◌≡◌, ℕ, ◌&&◌, ◌||◌, not, Bool, true, false, List, [], ◌∷◌, ◌++◌, refl, ap, sym, subst, ◌∙◌, append_assoc, if◌then◌else◌}
use Rattle.std.proofs.lemmas.List.{append-nil}
use Rattle.std.proofs.lemmas.List.Elements.{All-append, All-nil, All-head, All-tail, All-cons}
use Rattle.sc_base.specs.declared.id.Cond.{Cond}
use Rattle.sc_guarded.specs.Items.{items_at}
use Rattle.sc_guarded.proofs.ItemLemmas.{items_at-Keeps}
use Rattle.sc_model.specs.Sets.{Sets, IsConfig, IsCond, Denotes, Keeps}
use Rattle.sc_model.proofs.SetLemmas.{Keeps-trans, IsConfig-Keeps, IsConfig-kept}
use Rattle.sc_scope.specs.declared.kind.NameKind.{NameKind}
use Rattle.sc_scope.specs.declared.kind.NameKind.TheVariants.{Variable, Typedef}
use Rattle.sc_scope.specs.declared.search.Search.{Search}
use Rattle.sc_scope.specs.Search.{is_typedef, AreOwn, found, GoesOn}

pub AreOwn-Keeps : {old new : Sets} (bindings : List (Cond × NameKind)) → Keeps old new → AreOwn old bindings → AreOwn new bindings
AreOwn-Keeps bindings keeps own = record { each = λ k d below. keeps.own _ (own.each k d below) }

pub AreOwn-append : (s : Sets) (xs ys : List (Cond × NameKind)) → AreOwn s xs → AreOwn s ys → AreOwn s (xs ++ ys)
AreOwn-append s xs ys a b = record { each = All-append (λ (binding : Cond × NameKind). IsCond s binding.0.0) xs ys a.each b.each }

-- ---- steps of a search

pub GoesOn-trans : {r s t : Sets} {x y z : Search} (ks ls ms : List (Cond × NameKind)) → GoesOn r s x y ks ls → GoesOn s t y z ls ms → GoesOn r t x z ks ms
GoesOn-trans ks ls ms a b = record {
  keeps = Keeps-trans a.keeps b.keeps;
  left = b.left;
  types = b.types;
  same = λ rest own c listed. b.same rest (AreOwn-Keeps rest a.keeps own) c (IsConfig-Keeps a.keeps listed) ∙ a.same rest own c listed;
}

-- bindings that were not looked at are left
pub GoesOn-more : {s t : Sets} {x y : Search} (bindings others : List (Cond × NameKind)) → AreOwn s others → GoesOn s t x y bindings []
    → GoesOn s t x y (bindings ++ others) others
GoesOn-more {s} {t} {x} {y} bindings others own_others on = record {
  keeps = on.keeps;
  left = on.left;
  types = on.types;
  same = λ rest own c listed. on.same (others ++ rest) (AreOwn-append s others rest own_others own) c listed
      ∙ ap (λ bs. found s x bs c) (sym (append_assoc bindings others rest));
}

-- a typedef takes what is left of its condition
typedef_taken : (t l h : Bool) (ks : List NameKind) → ((t || (l && h)) || ((l && not h) && is_typedef ks)) ≡ (t || (l && is_typedef (if h then Typedef ∷ ks else ks)))
typedef_taken true l h ks = refl
typedef_taken false true true ks = refl
typedef_taken false true false ks = refl
typedef_taken false false h ks = refl

variable_taken : (t l h : Bool) (ks : List NameKind) → (t || ((l && not h) && is_typedef ks)) ≡ (t || (l && is_typedef (if h then Variable ∷ ks else ks)))
variable_taken true l h ks = refl
variable_taken false true true ks = refl
variable_taken false true false ks = refl
variable_taken false false h ks = refl

pub GoesOn-typedef : (s t : Sets) (x y : Search) (cond : Cond) → Keeps s t → IsCond s x.left.0 → IsCond s x.types.0 → IsCond s cond.0
    → Denotes t y.types.0 (λ c. s.has x.types.0 c || (s.has x.left.0 c && s.has cond.0 c))
    → Denotes t y.left.0 (λ c. s.has x.left.0 c && not (s.has cond.0 c)) → GoesOn s t x y ((cond, Typedef) ∷ []) []
GoesOn-typedef s t x y cond keeps left_own types_own own types left = record {
  keeps = keeps;
  left = left.own;
  types = types.own;
  same = λ rest own_rest c listed.
      let there = IsConfig-Keeps keeps listed in
      ap (λ b. b || (t.has y.left.0 c && is_typedef (items_at t rest c))) (types.at c there)
      ∙ ap (λ b. (s.has x.types.0 c || (s.has x.left.0 c && s.has cond.0 c)) || (b && is_typedef (items_at t rest c))) (left.at c there)
      ∙ ap (λ ks. (s.has x.types.0 c || (s.has x.left.0 c && s.has cond.0 c)) || ((s.has x.left.0 c && not (s.has cond.0 c)) && is_typedef ks))
      (items_at-Keeps rest c keeps own_rest.each listed)
      ∙ typedef_taken (s.has x.types.0 c) (s.has x.left.0 c) (s.has cond.0 c) (items_at s rest c);
}

pub GoesOn-variable : (s t : Sets) (x y : Search) (cond : Cond) → Keeps s t → IsCond s x.types.0 → y.types ≡ x.types
    → Denotes t y.left.0 (λ c. s.has x.left.0 c && not (s.has cond.0 c)) → GoesOn s t x y ((cond, Variable) ∷ []) []
GoesOn-variable s t x y cond keeps types_own same_types left = record {
  keeps = keeps;
  left = left.own;
  types = let e : y.types.0 ≡ x.types.0 = ap (λ (k : Cond). k.0) same_types in rw e (keeps.own x.types.0 types_own);
  same = λ rest own_rest c listed.
      let there = IsConfig-Keeps keeps listed in
      ap (λ (k : Cond). t.has k.0 c || (t.has y.left.0 c && is_typedef (items_at t rest c))) same_types
      ∙ ap (λ b. b || (t.has y.left.0 c && is_typedef (items_at t rest c))) (keeps.at x.types.0 c types_own listed)
      ∙ ap (λ b. s.has x.types.0 c || (b && is_typedef (items_at t rest c))) (left.at c there)
      ∙ ap (λ ks. s.has x.types.0 c || ((s.has x.left.0 c && not (s.has cond.0 c)) && is_typedef ks))
      (items_at-Keeps rest c keeps own_rest.each listed)
      ∙ variable_taken (s.has x.types.0 c) (s.has x.left.0 c) (s.has cond.0 c) (items_at s rest c);
}

-- a condition has what it has
pub Denotes-has : {s : Sets} {a : ℕ} → IsCond s a → Denotes s a (s.has a)
Denotes-has own = record { own = own; at = λ c listed. refl }

pub AreOwn-head : (s : Sets) (binding : Cond × NameKind) (bindings : List (Cond × NameKind)) → AreOwn s (binding ∷ bindings) → IsCond s binding.0.0
AreOwn-head s binding bindings own = All-head (λ (b : Cond × NameKind). IsCond s b.0.0) binding bindings own.each

pub AreOwn-tail : (s : Sets) (binding : Cond × NameKind) (bindings : List (Cond × NameKind)) → AreOwn s (binding ∷ bindings) → AreOwn s bindings
AreOwn-tail s binding bindings own = record { each = All-tail (λ (b : Cond × NameKind). IsCond s b.0.0) binding bindings own.each }

-- ---- the bindings that are left begin with some

pub own_first : (s : Sets) (here : List (Cond × NameKind)) (binding : Cond × NameKind) (older : List (Cond × NameKind)) → here ≡ binding ∷ older → AreOwn s here
    → IsCond s binding.0.0
own_first s here binding older is own = AreOwn-head s binding older (subst (AreOwn s) is own)

pub AreOwn-front : (s : Sets) (xs ys : List (Cond × NameKind)) → AreOwn s (xs ++ ys) → AreOwn s xs
AreOwn-front s [] ys own = record { each = All-nil (λ (b : Cond × NameKind). IsCond s b.0.0) }
AreOwn-front s (x ∷ xs) ys own =
    let rest = AreOwn-front s xs ys (AreOwn-tail s x (xs ++ ys) own) in
    record { each = All-cons (λ (b : Cond × NameKind). IsCond s b.0.0) x xs (AreOwn-head s x (xs ++ ys) own) rest.each }

pub AreOwn-back : (s : Sets) (xs ys : List (Cond × NameKind)) → AreOwn s (xs ++ ys) → AreOwn s ys
AreOwn-back s [] ys own = own
AreOwn-back s (x ∷ xs) ys own = AreOwn-back s xs ys (AreOwn-tail s x (xs ++ ys) own)

-- the bindings that are left are the store's
pub own_rest : (s : Sets) (here some others : List (Cond × NameKind)) → here ≡ some ++ others → AreOwn s here → AreOwn s others
own_rest s here some others is own = AreOwn-back s some others (subst (AreOwn s) is own)

pub own_some : (s : Sets) (here some others : List (Cond × NameKind)) → here ≡ some ++ others → AreOwn s here → AreOwn s some
own_some s here some others is own = AreOwn-front s some others (subst (AreOwn s) is own)

-- the search goes over the first of them
pub GoesOn-over : {r s t : Sets} {x y z : Search} (all here some others : List (Cond × NameKind)) → here ≡ some ++ others → AreOwn r here
    → GoesOn r s x y all here → GoesOn s t y z some [] → GoesOn r t x z all others
GoesOn-over {r} {s} {t} {x} {y} {z} all here some others is own before on =
    let more = GoesOn-more some others (AreOwn-Keeps others before.keeps (own_rest r here some others is own)) on in
    GoesOn-trans all here others before (subst (λ bs. GoesOn s t y z bs others) (sym is) more)

-- ---- a whole search

or_none : (t l : Bool) → (t || (l && false)) ≡ t
or_none true l = refl
or_none false true = refl
or_none false false = refl

-- what was found over all bindings is where the first is a typedef
pub found_all : (s t : Sets) (cond never : Cond) (after : Search) (bindings : List (Cond × NameKind)) → Denotes s never.0 (λ c. false)
    → GoesOn s t (record { left = cond; types = never }) after bindings [] → (f : List ℕ → Bool) → Denotes s cond.0 f
    → Denotes t after.types.0 (λ c. f c && is_typedef (items_at s bindings c))
found_all s t cond never after bindings none on f told = record {
  own = on.types;
  at = λ c there.
      let listed : IsConfig s.arities c = IsConfig-kept on.keeps there in
      sym (or_none (t.has after.types.0 c) (t.has after.left.0 c))
      ∙ on.same [] (record { each = All-nil (λ (b : Cond × NameKind). IsCond s b.0.0) }) c listed
      ∙ ap (λ bs. s.has never.0 c || (s.has cond.0 c && is_typedef (items_at s bs c))) (append-nil bindings)
      ∙ ap (λ b. b || (s.has cond.0 c && is_typedef (items_at s bindings c))) (none.at c listed)
      ∙ ap (λ b. b && is_typedef (items_at s bindings c)) (told.at c listed);
}
