-- Numbers of tries stay as more are given.
use Rattle.std.proofs.Common.{◌≡◌, ℕ, List, [], ◌∷◌, ◌++◌, All, map, append_assoc, length, Option, None, Some, slice_get, refl, ap, sym, subst, ◌∙◌}
use Rattle.std.proofs.lemmas.List.{map-append}
use Rattle.std.proofs.lemmas.List.Elements.{All-append, All-cons, All-head, All-nil, All-tail, All-weaker}
use Rattle.std.proofs.lemmas.Option.{same_Some}
use Rattle.sc_base.proofs.Growth.{Extends-append, Extends-keeps}
use Rattle.sc_model.specs.Growth.{Extends}
use Rattle.sc_scope.specs.declared.levels.Levels as declared
use Rattle.sc_scope.specs.declared.levels.Levels.TheVariants.{Bottom, Level'}
use Rattle.sc_scope.specs.declared.trie.Trie.{Trie}
use Rattle.sc_scope.specs.declared.trie.Trie.TheVariants.{Empty, Full'}
use Rattle.sc_scope.specs.Kept.{bindings_at}
use Rattle.sc_scope.specs.Levels.{Level}
use Rattle.sc_scope.specs.Numbered.{IsNumbered, IsNumberedIfSome, AreNumbered}

pub IsNumbered-Extends : {old new : List Level} (trie : Trie) → Extends old new → IsNumbered old trie → IsNumbered new trie
IsNumbered-Extends Empty longer numbered = tt
IsNumbered-Extends {old} {new} (Full' n p left here q right) longer numbered =
    (Extends-keeps n _ numbered.0 longer, (IsNumbered-Extends left longer numbered.1.0, IsNumbered-Extends right longer numbered.1.1))

pub some-Extends : {old new : List Level} (trie : Option Trie) → Extends old new → IsNumberedIfSome old trie → IsNumberedIfSome new trie
some-Extends None longer numbered = tt
some-Extends (Some trie) longer numbered = IsNumbered-Extends trie longer numbered

pub AreNumbered-Extends : {old new : List Level} (levels : declared.Levels) → Extends old new → AreNumbered old levels → AreNumbered new levels
AreNumbered-Extends Bottom longer numbered = tt
AreNumbered-Extends {old} {new} (Level' p below top) longer numbered = (IsNumbered-Extends top longer numbered.0, AreNumbered-Extends below longer numbered.1)

-- what stands under one number is one
pub one-level : (made : List Level) (n m : ℕ) (left right : Level) → n ≡ m → slice_get made n ≡ Some left → slice_get made m ≡ Some right → left ≡ right
one-level made n m left right same at_n at_m = same_Some left right (sym at_n ∙ ap (slice_get made) same ∙ at_m)

module _ (made : List Level) where
  pub tops-Extends : {new : List Level} (tops : List Trie) → Extends made new → All (IsNumbered made) tops → All (IsNumbered new) tops
  tops-Extends {new} tops longer numbered = All-weaker (IsNumbered made) (IsNumbered new) (λ trie. IsNumbered-Extends trie longer) tops numbered

  pub tops-more : (tops : List Trie) (top : Trie) → All (IsNumbered made) tops → IsNumbered made top → All (IsNumbered made) (tops ++ top ∷ [])
  tops-more tops top before last =
      All-append (IsNumbered made) tops (top ∷ []) before (All-cons (IsNumbered made) top [] last (All-nil (IsNumbered made)))

  pub tops-front : (tops : List Trie) (top : Trie) → All (IsNumbered made) (tops ++ top ∷ []) → All (IsNumbered made) tops
  tops-front [] top all = All-nil (IsNumbered made)
  tops-front (t ∷ tops) top all =
      All-cons (IsNumbered made) t tops (All-head (IsNumbered made) t (tops ++ top ∷ []) all) (tops-front tops top (All-tail (IsNumbered made) t (tops ++ top ∷ []) all))

  pub tops-last : (tops : List Trie) (top : Trie) → All (IsNumbered made) (tops ++ top ∷ []) → IsNumbered made top
  tops-last [] top all = All-head (IsNumbered made) top [] all
  tops-last (t ∷ tops) top all = tops-last tops top (All-tail (IsNumbered made) t (tops ++ top ∷ []) all)

-- the last of the tops stands before the levels
pub levels-moved : (before after : List Trie) (top : Trie) (levels : List Level) → before ≡ after ++ top ∷ []
    → map bindings_at before ++ levels ≡ map bindings_at after ++ bindings_at top ∷ levels
levels-moved before after top levels is =
    ap (λ (ts : List Trie). map bindings_at ts ++ levels) is ∙ ap (λ (ls : List Level). ls ++ levels) (map-append bindings_at after (top ∷ []))
    ∙ append_assoc (map bindings_at after) (bindings_at top ∷ []) levels

pub levels-grow : (before after : List Trie) (trie : Trie) → after ≡ before ++ trie ∷ [] → Extends (map bindings_at before) (map bindings_at after)
levels-grow before after trie is =
    subst (Extends (map bindings_at before)) (sym (ap (map bindings_at) is ∙ map-append bindings_at before (trie ∷ []))) (Extends-append (map bindings_at before) (bindings_at trie ∷ []))

-- the last trie stands under the number that was next
pub level-last : (before after : List Trie) (trie : Trie) (n : ℕ) → n ≡ length before → after ≡ before ++ trie ∷ [] → slice_get (map bindings_at after) n ≡ Some (bindings_at trie)
level-last before after trie n counted is = ap (λ (ts : List Trie). slice_get (map bindings_at ts) n) is ∙ at before n counted
  where
    at : (tries : List Trie) (k : ℕ) → k ≡ length tries → slice_get (map bindings_at (tries ++ trie ∷ [])) k ≡ Some (bindings_at trie)
    at [] k same = ap (slice_get (bindings_at trie ∷ [])) same
    at (t ∷ tries) k same = ap (slice_get (map bindings_at ((t ∷ tries) ++ trie ∷ []))) same ∙ at tries (length tries) refl

pub ruleset numbered = (IsNumbered-Extends, some-Extends, AreNumbered-Extends)
