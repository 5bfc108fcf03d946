-- In which phases the pieces of an event are.
use Rattle.std.proofs.Common.{◌≡◌, ℕ, ◌+◌, ◌<◌, ◌≤◌, List, Option, [], ◌∷◌, ◌++◌, All, get_or, length, refl, sym, ap, ◌∙◌, subst, arith}
use Rattle.std.specs.Prelude.{AllPairs}
use Rattle.std.proofs.lemmas.List.Elements.{All-head, All-map, All-nil, All-append}
use Rattle.std.proofs.lemmas.List.Kept.{AllPairs-cons}
use Rattle.sc_base.specs.declared.id.Cond.{Cond}
use Rattle.sc_fork.specs.declared.enabled.Enabled.{Enabled}
use Rattle.sc_fork.specs.declared.event.Event.{Event}
use Rattle.sc_fork.specs.declared.event.Event.TheVariants as event
use Rattle.sc_fork.specs.Enabled.{IsEnabled, can_split, can_reduce, can_shift, can_classify, can_merge}
use Rattle.sc_fork.specs.declared.piece.Piece.{Piece}
use Rattle.sc_fork.specs.declared.piece.Piece.TheVariants.{Going}
use Rattle.sc_fork.specs.declared.source.Source.{Source}
use Rattle.sc_fork.specs.Kinds.{AddsKind, IsKind, no_part, refused_part, shifted_part}
use Rattle.sc_fork.specs.Pieces.{AreInOrder, IfGoing, InNextPhase, IsPast, IsReducedBy, LooksBefore, LooksFrom, Makes, splits, reduces, shifts, classifies, merges}
use Rattle.sc_fork.specs.Seen.{part_of, parts_of}
use Rattle.sc_fork.proofs.PieceLemmas.{all-one}
use Rattle.sc_fork.proofs.SplitLemmas.{rising-head, rising-tail}
use Rattle.sc_merge.specs.declared.subparser.Phase.TheVariants.{At, Between}
use Rattle.sc_merge.specs.declared.subparser.Subparser.{Subparser}
use Rattle.sc_merge.specs.Keys.{AreAlike}
use Rattle.sc_model.specs.Sets.{Sets}

-- ---- parts

module _ (parent : Subparser) where
  pub parts-look : (first end : ℕ) (parts : List (Cond × ℕ)) → All (λ (p : Cond × ℕ). (first ≤ p.1) × (p.1 ≤ end)) parts → All (IfGoing (LooksFrom first end)) (parts_of parent parts)
  parts-look first end parts within =
      All-map (IfGoing (LooksFrom first end)) (λ (p : Cond × ℕ). Going (part_of parent p)) parts
      (λ k d below. let bounds = within k d below in record { at = (get_or parts k d).1; phase = refl; low = bounds.0; high = bounds.1 })

  looks-before : (p q : Cond × ℕ) → p.1 < q.1 → LooksBefore (Going (part_of parent p)) (Going (part_of parent q))
  looks-before p q below = record { before = λ a b i j first second at_i at_j. by a b i j first second at_i at_j }
    where
      by : (a b : Subparser) (i j : ℕ) → Going (part_of parent p) ≡ Going a → Going (part_of parent q) ≡ Going b → a.phase ≡ At i → b.phase ≡ At j → i < j
      by a b i j first second at_i at_j =
          let same : part_of parent p ≡ a = cc in
          let same_other : part_of parent q ≡ b = cc in
          let left : At p.1 ≡ At i = ap (λ (u : Subparser). u.phase) same ∙ at_i in
          let right : At q.1 ≡ At j = ap (λ (u : Subparser). u.phase) same_other ∙ at_j in
          let left_is : p.1 ≡ i = cc in
          let right_is : q.1 ≡ j = cc in
          subst (λ n. n < j) left_is (subst (λ n. p.1 < n) right_is below)

  pub parts-rise : (parts : List (Cond × ℕ)) → AllPairs (λ (a b : Cond × ℕ). a.1 < b.1) parts → AllPairs LooksBefore (parts_of parent parts)
  parts-rise [] rising = λ i j d low below. absurd (omega (arith, below))
  parts-rise (p ∷ parts) rising =
      let above = rising-head p parts rising in
      AllPairs-cons LooksBefore (Going (part_of parent p)) (parts_of parent parts)
      (All-map (LooksBefore (Going (part_of parent p))) (λ (q : Cond × ℕ). Going (part_of parent q)) parts (λ k d below. looks-before p (get_or parts k d) (above k d below)))
      (parts-rise parts (rising-tail p parts rising))

-- ---- kinds

kind-phase : (sets : Sets) (source : Source) (parent : Subparser) (j : ℕ) (cond : Cond) (kind : ℕ) (pieces : List Piece) → IsKind sets source parent j cond kind pieces
    → All (IfGoing (λ next. next.phase ≡ Between (j + 1))) pieces
kind-phase sets source parent j cond kind _ (no_part never) = All-nil (IfGoing (λ next. next.phase ≡ Between (j + 1)))
kind-phase sets source parent j cond kind _ (refused_part item some got none_shifted) = all-one (IfGoing (λ next. next.phase ≡ Between (j + 1))) _ _ refl tt
kind-phase sets source parent j cond kind _ (shifted_part state next some shifted steps) = all-one (IfGoing (λ next. next.phase ≡ Between (j + 1))) _ (Going next) refl steps.phase

pub kind-phases : (sets : Sets) (source : Source) (parent : Subparser) (j : ℕ) (types variables : Cond) (start first second : List Piece) → start ≡ []
    → AddsKind sets source parent j types 1 start first → AddsKind sets source parent j variables 2 first second → All (IfGoing (λ next. next.phase ≡ Between (j + 1))) second
kind-phases sets source parent j types variables start first second fresh adds then_adds =
    let both : second ≡ adds.added ++ then_adds.added = then_adds.is ∙ ap (λ ps. ps ++ then_adds.added) (adds.is ∙ ap (λ ps. ps ++ adds.added) fresh) in
    subst (All (IfGoing (λ next. next.phase ≡ Between (j + 1)))) (sym both)
    (All-append (IfGoing (λ next. next.phase ≡ Between (j + 1))) adds.added then_adds.added (kind-phase sets source parent j types 1 adds.added adds.part)
    (kind-phase sets source parent j variables 2 then_adds.added then_adds.part))

-- ---- what an event makes

pub makes : (source : Source) (rows : List (Option Subparser)) (event : Event) (e : Enabled) (pieces : List Piece) → IsEnabled source rows event e → All (InNextPhase source e) pieces
    → AreInOrder e pieces → Makes source rows event pieces
makes source rows _ _ pieces (can_split n i s has between) next order = splits n i s pieces has between next order
makes source rows _ _ pieces (can_reduce n j p s has looks acts) next order = alone pieces next order
  where
    alone : (pieces : List Piece) → All (IfGoing (IsReducedBy source j p s)) pieces → length pieces ≡ 1 → Makes source rows (event.Reduce n) pieces
    alone [] next one = absurd (omega (arith, one))
    alone (piece ∷ []) next one = reduces n j p s piece has looks acts (All-head (IfGoing (IsReducedBy source j p s)) piece [] next)
    alone (piece ∷ (other ∷ pieces)) next one = absurd (omega (arith, one))
makes source rows _ _ pieces (can_shift n j s has looks acts) next order = alone pieces next order
  where
    alone : (pieces : List Piece) → All (IfGoing (IsPast source j)) pieces → length pieces ≡ 1 → Makes source rows (event.Shift n) pieces
    alone [] next one = absurd (omega (arith, one))
    alone (piece ∷ []) next one = shifts n j s piece has looks (All-head (IfGoing (IsPast source j)) piece [] next)
    alone (piece ∷ (other ∷ pieces)) next one = absurd (omega (arith, one))
makes source rows _ _ pieces (can_classify n j s has named) next order = classifies n j s pieces has named next
makes source rows _ _ pieces (can_merge n m s t has other apart alike) next order =
    let At_once : Piece → Type 0 = IfGoing (AreAlike s) in
    let merged : AreAlike s order.0 = All-head At_once (Going order.0) [] (subst (All At_once) order.1 next) in
    subst (Makes source rows (event.Merge n m)) (sym order.1) (merges n m s t order.0 has other apart alike merged)
