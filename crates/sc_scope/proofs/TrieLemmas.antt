-- Bindings of all names, by those at the root and on both sides of it.
use Rattle.std.proofs.Common.{◌≡◌, ℕ, zero, suc, ◌+◌, ◌*◌, ◌/◌, ◌%◌, ◌==◌, Bool, true, false, List, [], None, refl, ap, sym, subst, ◌∙◌, arith, if◌then◌else◌}
use Rattle.std.proofs.lemmas.Bool.{eq-eqb}
use Rattle.std.proofs.lemmas.List.Elements.{All-nil}
use Rattle.sc_base.specs.declared.id.Cond.{Cond}
use Rattle.sc_guarded.proofs.ItemLemmas.{items_at-Keeps}
use Rattle.sc_model.specs.Sets.{Sets, IsConfig, IsCond, Keeps}
use Rattle.sc_model.proofs.SetLemmas.{Keeps-refl, Keeps-trans, IsConfig-Keeps}
use Rattle.sc_scope.specs.declared.kind.NameKind.{NameKind}
use Rattle.sc_scope.specs.declared.trie.Trie.{Trie}
use Rattle.sc_scope.specs.declared.trie.Trie.TheVariants.{Empty, Full'}
use Rattle.sc_scope.specs.Kept.{at_branch}
use Rattle.sc_scope.specs.Kinds.{first_at, IsOnlyIn, KeepsKind, MergesBindings, MergesLevel, NarrowsBindings, NarrowsLevel, OwnsLevel}
use Rattle.sc_scope.specs.Levels.{Level, no_bindings}
use Rattle.sc_scope.specs.Search.{AreOwn}
use Rattle.sc_scope.specs.Shows.{first_kind}
use Rattle.sc_scope.proofs.SearchLemmas.{AreOwn-Keeps}

-- ---- parts

abbrev pub height : Trie → ℕ
height Empty = 0
height (Full' number p left here q right) = 1 + (height left + height right)

even_at : (left right : Level) (n : ℕ) → (if (2 * n) % 2 == 0 then left ((2 * n) / 2) else right ((2 * n) / 2)) ≡ left n
even_at left right n =
    let test : ((2 * n) % 2 == 0) ≡ true = eq-eqb ((2 * n) % 2) 0 (omega arith) in
    let half : (2 * n) / 2 ≡ n = omega arith in
    ap (λ b. if b then left ((2 * n) / 2) else right ((2 * n) / 2)) test ∙ ap left half

odd_at : (left right : Level) (n : ℕ) → (if (2 * n + 1) % 2 == 0 then left ((2 * n + 1) / 2) else right ((2 * n + 1) / 2)) ≡ right n
odd_at left right n =
    let one : (2 * n + 1) % 2 ≡ 1 = omega arith in
    let half : (2 * n + 1) / 2 ≡ n = omega arith in
    ap (λ r. if r == 0 then left ((2 * n + 1) / 2) else right ((2 * n + 1) / 2)) one ∙ ap right half

pub own-left : {s : Sets} (left right : Level) (top : List (Cond × NameKind)) → OwnsLevel s (at_branch left top right) → OwnsLevel s left
own-left {s} left right top own = record { each = λ n. subst (AreOwn s) (even_at left right n) (own.each (suc (2 * n))) }

pub own-right : {s : Sets} (left right : Level) (top : List (Cond × NameKind)) → OwnsLevel s (at_branch left top right) → OwnsLevel s right
own-right {s} left right top own = record { each = λ n. subst (AreOwn s) (odd_at left right n) (own.each (suc (2 * n + 1))) }

pub own-top : {s : Sets} (left right : Level) (top : List (Cond × NameKind)) → OwnsLevel s (at_branch left top right) → AreOwn s top
own-top left right top own = own.each 0

pub own-level : {s t : Sets} {level : Level} → Keeps s t → OwnsLevel s level → OwnsLevel t level
own-level {s} {t} {level} keeps own = record { each = λ name. AreOwn-Keeps (level name) keeps (own.each name) }

-- ---- as the store grows

pub only-Keeps : {s t : Sets} {cond other : Cond} {c : List ℕ} → Keeps s t → IsCond s cond.0 → IsCond s other.0 → IsOnlyIn s cond other c → IsOnlyIn t cond other c
only-Keeps {s} {t} {cond} {other} {c} keeps own other_own only = record {
  listed = IsConfig-Keeps keeps only.listed;
  inside = keeps.at cond.0 c own only.listed ∙ only.inside;
  outside = keeps.at other.0 c other_own only.listed ∙ only.outside;
}

pub first_at-Keeps : {s t : Sets} (bindings : List (Cond × NameKind)) (c : List ℕ) → Keeps s t → AreOwn s bindings → IsConfig s.arities c
    → first_at t bindings c ≡ first_at s bindings c
first_at-Keeps bindings c keeps own listed = ap first_kind (items_at-Keeps bindings c keeps own.each listed)

kept_kind : {r s t u : Sets} {cond other : Cond} {bindings others : List (Cond × NameKind)} → Keeps r s → Keeps s t → Keeps t u → IsCond r cond.0 → IsCond r other.0
    → AreOwn r bindings → AreOwn t others → KeepsKind s t cond other bindings others → KeepsKind r u cond other bindings others
kept_kind {r} {s} {t} {u} {cond} {other} {bindings} {others} before during after own other_own own_before own_others kept = record {
  same = λ c only.
      let only_s = only-Keeps before own other_own only in
      first_at-Keeps others c after own_others (IsConfig-Keeps during only_s.listed) ∙ kept.same c only_s ∙ first_at-Keeps bindings c before own_before only.listed;
}

-- a merge is one between stores that grew before and after it
pub merged-within : {r s t u : Sets} {here there : Cond} {left right merged : List (Cond × NameKind)} → Keeps r s → Keeps s t → Keeps t u → IsCond r here.0
    → IsCond r there.0 → AreOwn r left → AreOwn r right → MergesBindings s t here there left right merged → MergesBindings r u here there left right merged
merged-within {r} {s} {t} {u} {here} {there} {left} {right} {merged} before during after here_own there_own left_own right_own m = record {
  own = AreOwn-Keeps merged after m.own;
  on_left = kept_kind before during after here_own there_own left_own m.own m.on_left;
  on_right = kept_kind before during after there_own here_own right_own m.own m.on_right;
}

narrowed-within : {r s t u : Sets} {cond : Cond} {bindings narrowed : List (Cond × NameKind)} → Keeps r s → Keeps s t → Keeps t u → IsCond r cond.0
    → AreOwn r bindings → NarrowsBindings s t cond bindings narrowed → NarrowsBindings r u cond bindings narrowed
narrowed-within {r} {s} {t} {u} {cond} {bindings} {narrowed} before during after own own_before n = record {
  own = AreOwn-Keeps narrowed after n.own;
  first = λ c listed.
      let at_s = IsConfig-Keeps before listed in
      first_at-Keeps narrowed c after n.own (IsConfig-Keeps during at_s)
      ∙ n.first c at_s
      ∙ ap (λ b. if b then first_at s bindings c else None) (before.at cond.0 c own listed)
      ∙ ap (λ k. if r.has cond.0 c then k else None) (first_at-Keeps bindings c before own_before listed);
}

-- ---- both sides and the root

branch_each : (P : List (Cond × NameKind) → List (Cond × NameKind) → List (Cond × NameKind) → Type 0) (left left' left'' right right' right'' : Level)
    (top top' top'' : List (Cond × NameKind)) → ((n : ℕ) → P (left n) (left' n) (left'' n)) → P top top' top'' → ((n : ℕ) → P (right n) (right' n) (right'' n))
    → (n : ℕ) → P (at_branch left top right n) (at_branch left' top' right' n) (at_branch left'' top'' right'' n)
branch_each P left left' left'' right right' right'' top top' top'' on_left on_top on_right zero = on_top
branch_each P left left' left'' right right' right'' top top' top'' on_left on_top on_right (suc n) = by (n % 2 == 0)
  where
    by : (b : Bool) → P (if b then left (n / 2) else right (n / 2)) (if b then left' (n / 2) else right' (n / 2)) (if b then left'' (n / 2) else right'' (n / 2))
    by true = on_left (n / 2)
    by false = on_right (n / 2)

pub full-narrows : {r s t u : Sets} (cond : Cond) (left right left' right' : Level) (top top' : List (Cond × NameKind)) → Keeps r s → Keeps s t → Keeps t u
    → IsCond r cond.0 → OwnsLevel r (at_branch left top right) → NarrowsLevel r s cond left left' → NarrowsBindings s t cond top top'
    → NarrowsLevel t u cond right right' → NarrowsLevel r u cond (at_branch left top right) (at_branch left' top' right')
full-narrows {r} {s} {t} {u} cond left right left' right' top top' keeps_s keeps_t keeps_u own owns on_left on_top on_right = record {
  each = branch_each (λ bs cs ds. NarrowsBindings r u cond bs ds) left left left' right right right' top top top'
      (λ n. narrowed-within (Keeps-refl r) keeps_s (Keeps-trans keeps_t keeps_u) own ((own-left left right top owns).each n) (on_left.each n))
      (narrowed-within keeps_s keeps_t keeps_u own (own-top left right top owns) on_top)
      (λ n. narrowed-within (Keeps-trans keeps_s keeps_t) keeps_u (Keeps-refl u) own ((own-right left right top owns).each n) (on_right.each n));
}

pub full-merges : {r s t u : Sets} (here there : Cond) (left right left' right' left'' right'' after : Level) (top top' top'' : List (Cond × NameKind))
    → Keeps r s → Keeps s t → Keeps t u → IsCond r here.0 → IsCond r there.0 → OwnsLevel r (at_branch left top right) → OwnsLevel r (at_branch left' top' right')
    → MergesLevel r s here there left left' left'' → MergesBindings s t here there top top' top'' → MergesLevel t u here there right right' right''
    → ((n : ℕ) → after n ≡ at_branch left'' top'' right'' n) → MergesLevel r u here there (at_branch left top right) (at_branch left' top' right') after
full-merges {r} {s} {t} {u} here there left right left' right' left'' right'' after top top' top'' keeps_s keeps_t keeps_u own own' owns owns' on_left on_top on_right same = record {
  each = λ name. subst (λ bs. MergesBindings r u here there (at_branch left top right name) (at_branch left' top' right' name) bs) (sym (same name)) (all name);
}
  where
    all : (n : ℕ) → MergesBindings r u here there (at_branch left top right n) (at_branch left' top' right' n) (at_branch left'' top'' right'' n)
    all = branch_each (MergesBindings r u here there) left left' left'' right right' right'' top top' top''
        (λ n. merged-within (Keeps-refl r) keeps_s (Keeps-trans keeps_t keeps_u) own own' ((own-left left right top owns).each n) ((own-left left' right' top' owns').each n) (on_left.each n))
        (merged-within keeps_s keeps_t keeps_u own own' (own-top left right top owns) (own-top left' right' top' owns') on_top)
        (λ n. merged-within (Keeps-trans keeps_s keeps_t) keeps_u (Keeps-refl u) own own' ((own-right left right top owns).each n) ((own-right left' right' top' owns').each n) (on_right.each n))

-- ---- one side alone

pub none-narrows : (s : Sets) (cond : Cond) → NarrowsLevel s s cond no_bindings no_bindings
none-narrows s cond = record {
  each = λ name. record {
    own = record { each = All-nil (λ (b : Cond × NameKind). IsCond s b.0.0) };
    first = λ c listed. neither (s.has cond.0 c);
  };
}
  where
    neither : (b : Bool) → first_kind [] ≡ (if b then first_kind [] else None)
    neither true = refl
    neither false = refl

pub left-merges : {s t : Sets} (here there : Cond) (level narrowed : Level) → NarrowsLevel s t here level narrowed → MergesLevel s t here there level no_bindings narrowed
left-merges {s} {t} here there level narrowed n = record {
  each = λ name. record {
    own = (n.each name).own;
    on_left = record { same = λ c only. (n.each name).first c only.listed ∙ ap (λ b. if b then first_at s (level name) c else None) only.inside };
    on_right = record { same = λ c only. (n.each name).first c only.listed ∙ ap (λ b. if b then first_at s (level name) c else None) only.outside };
  };
}

pub right-merges : {s t : Sets} (here there : Cond) (level narrowed : Level) → NarrowsLevel s t there level narrowed → MergesLevel s t here there no_bindings level narrowed
right-merges {s} {t} here there level narrowed n = record {
  each = λ name. record {
    own = (n.each name).own;
    on_left = record { same = λ c only. (n.each name).first c only.listed ∙ ap (λ b. if b then first_at s (level name) c else None) only.outside };
    on_right = record { same = λ c only. (n.each name).first c only.listed ∙ ap (λ b. if b then first_at s (level name) c else None) only.inside };
  };
}

-- ---- both sides alike

-- what both sides have does for both
pub same-merges : {s : Sets} (here there : Cond) (level other : Level) → level ≡ other → OwnsLevel s level → MergesLevel s s here there level other level
same-merges {s} here there level other same own =
    subst (λ on_right. MergesLevel s s here there level on_right level) same
    (record { each = λ name. record { own = own.each name; on_left = record { same = λ c only. refl }; on_right = record { same = λ c only. refl } } })
