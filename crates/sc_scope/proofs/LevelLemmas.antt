-- Levels on two sides, gone through one after the other.
use Rattle.std.proofs.Common.{◌≡◌, ℕ, ◌+◌, List, [], ◌∷◌, ◌++◌, length, refl, ap, ◌∙◌, append_assoc, arith, length-append}
use Rattle.std.proofs.lemmas.List.Elements.{All-nil}
use Rattle.c11_parsing.specs.Bindings as plain
use Rattle.sc_base.specs.declared.id.Cond.{Cond}
use Rattle.sc_model.specs.Sets.{Sets, IsConfig, IsCond, Keeps}
use Rattle.sc_model.proofs.SetLemmas.{Keeps-refl, Keeps-trans}
use Rattle.sc_scope.specs.declared.kind.NameKind.{NameKind}
use Rattle.sc_scope.specs.Kinds.{first_at, kinds_at, IsOnlyIn, KeepsKind, KeepsKinds, KeepsSome, MergesLevel, OwnsLevel}
use Rattle.sc_scope.specs.Levels.{Level}
use Rattle.sc_scope.specs.Search.{bindings_in, AreOwn, OwnsLevels}
use Rattle.sc_scope.specs.Shows.{Shows, none_shown, more_shown}
use Rattle.sc_scope.proofs.SearchLemmas.{AreOwn-Keeps, AreOwn-append, AreOwn-front, AreOwn-back}
use Rattle.sc_scope.proofs.TrieLemmas.{first_at-Keeps, only-Keeps}

-- ---- ownership

pub owns-first : {s : Sets} {level : Level} {levels : List Level} → OwnsLevels s (level ∷ levels) → OwnsLevel s level
owns-first {s} {level} {levels} own = record { each = λ name. AreOwn-front s (level name) (bindings_in name levels) (own.each name) }

pub owns-rest : {s : Sets} {level : Level} {levels : List Level} → OwnsLevels s (level ∷ levels) → OwnsLevels s levels
owns-rest {s} {level} {levels} own = record { each = λ name. AreOwn-back s (level name) (bindings_in name levels) (own.each name) }

owns-after : (s : Sets) (levels : List Level) (level : Level) (name : ℕ) → AreOwn s (bindings_in name levels) → AreOwn s (level name) → AreOwn s (bindings_in name (levels ++ level ∷ []))
owns-after s [] level name own own_level = AreOwn-append s (level name) [] own_level own
owns-after s (l ∷ levels) level name own own_level =
    AreOwn-append s (l name) (bindings_in name (levels ++ level ∷ [])) (AreOwn-front s (l name) (bindings_in name levels) own)
    (owns-after s levels level name (AreOwn-back s (l name) (bindings_in name levels) own) own_level)

-- ---- what names are

kinds_at-append : (s : Sets) (levels others : List Level) (name : ℕ) (c : List ℕ) → kinds_at s (levels ++ others) name c ≡ kinds_at s levels name c ++ kinds_at s others name c
kinds_at-append s [] others name c = refl
kinds_at-append s (level ∷ levels) others name c = ap (λ ks. first_at s (level name) c ∷ ks) (kinds_at-append s levels others name c)

kinds_at-Keeps : {s t : Sets} (levels : List Level) (name : ℕ) (c : List ℕ) → Keeps s t → OwnsLevels s levels → IsConfig s.arities c
    → kinds_at t levels name c ≡ kinds_at s levels name c
kinds_at-Keeps [] name c keeps own listed = refl
kinds_at-Keeps {s} {t} (level ∷ levels) name c keeps own listed =
    ap (λ k. k ∷ kinds_at t levels name c) (first_at-Keeps (level name) c keeps ((owns-first own).each name) listed)
    ∙ ap (λ ks. first_at s (level name) c ∷ ks) (kinds_at-Keeps levels name c keeps (owns-rest own) listed)

-- one level more is kept
kept-more : {r s t : Sets} (cond other : Cond) (levels kept rest : List Level) (level merged : Level) → Keeps r s → Keeps s t → IsCond r cond.0 → IsCond r other.0
    → OwnsLevels r (level ∷ rest) → OwnsLevels s kept → ((name : ℕ) → KeepsKind s t cond other (level name) (merged name))
    → KeepsSome r s cond other levels kept (level ∷ rest) → KeepsSome r t cond other levels (kept ++ merged ∷ []) rest
kept-more {r} {s} {t} cond other levels kept rest level merged before during own other_own owns owns_kept one some = record {
  same = λ name c only.
      let only_s = only-Keeps before own other_own only in
      let added : kinds_at t (kept ++ merged ∷ []) name c ≡ kinds_at s kept name c ++ first_at r (level name) c ∷ []
      = kinds_at-append t kept (merged ∷ []) name c
      ∙ ap (λ ks. ks ++ first_at t (merged name) c ∷ []) (kinds_at-Keeps kept name c during owns_kept only_s.listed)
      ∙ ap (λ k. kinds_at s kept name c ++ k ∷ []) ((one name).same c only_s ∙ first_at-Keeps (level name) c before ((owns-first owns).each name) only.listed) in
      ap (λ ks. ks ++ kinds_at r rest name c) added
      ∙ append_assoc (kinds_at s kept name c) (first_at r (level name) c ∷ []) (kinds_at r rest name c)
      ∙ some.same name c only;
}

-- ---- the loop

-- both sides to a place, with what stands for them
pub record MergesSome (r s : Sets) (here there : Cond) (left right tops rest others : List Level) : Type 0 where
  pub keeps : Keeps r s
  pub same_count : length rest ≡ length others
  pub count : length tops + length rest ≡ length left
  pub left_own : OwnsLevels r rest
  pub right_own : OwnsLevels r others
  pub owned : OwnsLevels s tops
  pub on_left : KeepsSome r s here there left tops rest
  pub on_right : KeepsSome r s there here right tops others

pub some-none : (r : Sets) (here there : Cond) (left right : List Level) → length left ≡ length right → OwnsLevels r left → OwnsLevels r right
    → MergesSome r r here there left right [] left right
some-none r here there left right count own others = record {
  keeps = Keeps-refl r;
  same_count = count;
  count = omega arith;
  left_own = own;
  right_own = others;
  owned = record { each = λ name. record { each = All-nil (λ (b : Cond × NameKind). IsCond r b.0.0) } };
  on_left = record { same = λ name c only. refl };
  on_right = record { same = λ name c only. refl };
}

pub some-more : {r s t : Sets} (here there : Cond) (left right tops rest others more : List Level) (level other merged : Level) → Keeps s t → IsCond r here.0 → IsCond r there.0
    → MergesLevel s t here there level other merged → more ≡ tops ++ merged ∷ [] → MergesSome r s here there left right tops (level ∷ rest) (other ∷ others)
    → MergesSome r t here there left right more rest others
some-more {r} {s} {t} here there left right tops rest others more level other merged keeps here_own there_own merges added some = record {
  keeps = Keeps-trans some.keeps keeps;
  same_count = cc (some.same_count);
  count = rw (added, length-append) (omega (arith, some.count));
  left_own = owns-rest some.left_own;
  right_own = owns-rest some.right_own;
  owned = record { each = λ name. rw added (owns-after t tops merged name (AreOwn-Keeps (bindings_in name tops) keeps (some.owned.each name)) (merges.each name).own) };
  on_left = rw added (kept-more here there left tops rest level merged some.keeps keeps here_own there_own some.left_own some.owned (λ name. (merges.each name).on_left) some.on_left);
  on_right = rw added (kept-more there here right tops others other merged some.keeps keeps there_own here_own some.right_own some.owned (λ name. (merges.each name).on_right) some.on_right);
}

-- ---- what is shown

-- levels in which each name is the same show the same
pub kinds-show : (old new : Sets) (names : List (List ℕ)) (c : List ℕ) (levels others : List Level) (bindings : List plain.Level)
    → ((name : ℕ) → kinds_at new others name c ≡ kinds_at old levels name c) → Shows old names c levels bindings → Shows new names c others bindings
kinds-show old new names c _ [] _ same none_shown = none_shown
kinds-show old new names c _ (other ∷ others) _ same none_shown = absurd (cc (same 0))
kinds-show old new names c _ [] _ same (more_shown level top levels rest first shows) = absurd (cc (same 0))
kinds-show old new names c _ (other ∷ others) _ same (more_shown level top levels rest first shows) =
    more_shown other top others rest
    (record { same = λ name text at. let e : first_at new (other name) c ≡ first_at old (level name) c = cc (same name) in e ∙ first.same name text at })
    (kinds-show old new names c levels others rest (λ name. let e : kinds_at new others name c ≡ kinds_at old levels name c = cc (same name) in e) shows)

pub keeps-show : (old new : Sets) (names : List (List ℕ)) (c : List ℕ) (cond other : Cond) (levels others : List Level) (bindings : List plain.Level)
    → KeepsKinds old new cond other levels others → IsOnlyIn old cond other c → Shows old names c levels bindings → Shows new names c others bindings
keeps-show old new names c cond other levels others bindings keeps only shows =
    kinds-show old new names c levels others bindings (λ name. keeps.same name c only) shows
