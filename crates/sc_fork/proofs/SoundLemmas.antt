-- The choices that an event adds are sound.
use Rattle.std.proofs.Common.{◌≡◌, ℕ, suc, ◌+◌, ◌-◌, ◌<◌, ◌≤◌, ◌⊎◌, inl, inr, List, [], ◌∷◌, ◌++◌, All, length, slice_get, Some, sym, ap, ◌∙◌, subst, arith}
use Rattle.std.proofs.lemmas.Bool.{cases_lt, true≢false}
use Rattle.std.proofs.lemmas.List.Elements.{All-nil, All-cons}
use Rattle.std.proofs.lemmas.List.Kept.{AllPairs-cons}
use Rattle.std.proofs.lemmas.Option.{slice_get_within, get_or_from_slice_get}
use Rattle.c11_parsing.specs.Classes.{Input}
use Rattle.c11_parsing.specs.Core as core
use Rattle.c11_parsing.specs.Core.{Stands}
use Rattle.sc_base.specs.declared.id.Cond.{Cond}
use Rattle.sc_base.specs.declared.id.TreeId.{TreeId}
use Rattle.sc_fork.proofs.CoreLemmas.{IsApart, rows-apart, row-seen}
use Rattle.sc_fork.specs.declared.enabled.Enabled.{Enabled}
use Rattle.sc_fork.specs.declared.event.Event.{Event}
use Rattle.sc_fork.specs.View.{View}
use Rattle.sc_fork.specs.Choices.{AddsNoChoices, AreDisjoint, AreSound, IsSoundChoice}
use Rattle.sc_fork.specs.Cores.{IsCore}
use Rattle.sc_fork.specs.Enabled.{IsEnabled, can_split, can_reduce, can_shift, can_classify, can_merge}
use Rattle.sc_fork.specs.Pieces.{AddsOwnChoices}
use Rattle.sc_fork.specs.Seen.{IsSeen}
use Rattle.sc_merge.specs.declared.subparser.Subparser.{Subparser}
use Rattle.sc_merge.specs.Merges.{AddsPartings, IsParting, tables_with}
use Rattle.sc_model.proofs.ListLemmas.{slice_get-front}
use Rattle.sc_model.proofs.SetLemmas.{IsConfig-Keeps, IsConfig-kept}
use Rattle.sc_model.specs.Sets.{Sets, IsConfig, IsCond, IsNever, Keeps}
use Rattle.sc_scope.specs.Kinds.{IsOnlyIn}
use Rattle.sc_tree.specs.Lines.{Line, choice, OwnsBranches}

-- a choice stays sound as the conditions grow
choice-Keeps : (old new : Sets) (branches : List (Cond × TreeId)) → Keeps old new → All (λ (branch : Cond × TreeId). IsCond old branch.0.0) branches → IsSoundChoice old branches
    → IsSoundChoice new branches
choice-Keeps old new branches keeps own sound = record {
  some = sound.some;
  apart = λ i j d low below c config has other.
      let was = IsConfig-kept keeps config in
      let first = keeps.at _ c (own i d (omega (arith, low, below))) was in
      let second = keeps.at _ c (own j d below) was in
      sound.apart i j d low below c was (sym first ∙ has) (sym second ∙ other);
  possible = λ k d below never. sound.possible k d below
      (record { none = λ c config. sym (keeps.at _ c (own k d below) config) ∙ never.none c (IsConfig-Keeps keeps config) });
}

slice_get-behind : {A : Type 0} (xs ys : List A) (i : ℕ) → slice_get (xs ++ ys) (length xs + i) ≡ slice_get ys i
slice_get-behind [] ys i = ap (slice_get ys) (let e : 0 + i ≡ i = omega arith in e)
slice_get-behind (x ∷ xs) ys i = ap (slice_get (x ∷ (xs ++ ys))) (let e : suc (length xs) + i ≡ suc (length xs + i) = omega arith in e) ∙ slice_get-behind xs ys i

-- the choices that were there are sound, and those that are added
sound-more : (old new : Sets) (lines more added : List Line) → added ≡ lines ++ more → Keeps old new → OwnsBranches old lines → AreSound old lines
    → ((i : ℕ) (branches : List (Cond × TreeId)) → slice_get more i ≡ Some (choice branches) → IsSoundChoice new branches) → AreSound new added
sound-more old new lines more added is keeps own sound fresh = record { each = λ i branches at. by i branches (ap (λ ls. slice_get ls i) (sym is) ∙ at) (cases_lt i (length lines)) }
  where
    by : (i : ℕ) (branches : List (Cond × TreeId)) → slice_get (lines ++ more) i ≡ Some (choice branches) → (i < length lines) ⊎ (length lines ≤ i) → IsSoundChoice new branches
    by i branches at (inl below) =
        let was = sym (slice_get-front lines more i below) ∙ at in
        choice-Keeps old new branches keeps (own.each i (choice branches) was) (sound.each i branches was)
    by i branches at (inr past) =
        let place : i ≡ length lines + (i - length lines) = omega (arith, past) in
        fresh (i - length lines) branches (sym (slice_get-behind lines more (i - length lines)) ∙ ap (slice_get (lines ++ more)) (sym place) ∙ at)

sound-none : (old new : Sets) (lines added : List Line) → AddsNoChoices lines added → Keeps old new → OwnsBranches old lines → AreSound old lines → AreSound new added
sound-none old new lines added adds keeps own sound = sound-more old new lines adds.added added adds.is keeps own sound (λ i branches at. absurd (adds.none i branches at))

sound-two : (new : Sets) (here there : Cond) (left right : TreeId) → AreDisjoint new here.0 there.0 → (IsNever new here.0 → ⊥) → (IsNever new there.0 → ⊥)
    → IsSoundChoice new ((here, left) ∷ ((there, right) ∷ []))
sound-two new here there left right apart first second =
    let R : Cond × TreeId → Cond × TreeId → Type 0 = λ a b. AreDisjoint new a.0.0 b.0.0 in
    let P : Cond × TreeId → Type 0 = λ branch. IsNever new branch.0.0 → ⊥ in
    let rest : List (Cond × TreeId) = (there, right) ∷ [] in
    record {
      some = omega arith;
      apart = AllPairs-cons R (here, left) rest (All-cons (R (here, left)) (there, right) [] apart (All-nil (R (here, left))))
          (AllPairs-cons R (there, right) [] (All-nil (R (there, right))) (λ i j d low below. absurd (omega (arith, below))));
      possible = All-cons P (here, left) rest first (All-cons P (there, right) [] second (All-nil P));
    }

-- two conditions, each of which has a configuration alone, are parted by sound choices
sound-merge : (old new : Sets) (lines added : List Line) (a b : Cond) → AddsPartings new a b lines added → (c : List ℕ) × IsOnlyIn new a b c → (c : List ℕ) × IsOnlyIn new b a c
    → Keeps old new → OwnsBranches old lines → AreSound old lines → AreSound new added
sound-merge old new lines added a b adds first second keeps own sound =
    sound-more old new lines adds.added added adds.is keeps own sound (λ i branches at. by i branches at)
  where
    by : (i : ℕ) (branches : List (Cond × TreeId)) → slice_get adds.added i ≡ Some (choice branches) → IsSoundChoice new branches
    by i branches at =
        let line : IsParting new a b (choice branches) =
        subst (IsParting new a b) (get_or_from_slice_get adds.added i (choice branches) (choice branches) at)
        (adds.choices i (choice branches) (slice_get_within adds.added i (choice branches) at))
        in
        let same : branches ≡ (line.here, line.is.left) ∷ ((line.there, line.is.right) ∷ []) = cc (line.is.is) in
        subst (IsSoundChoice new) (sym same) (sound-two new line.here line.there line.is.left line.is.right line.parts.apart
        (λ never. true≢false (sym (line.parts.first first.0 first.1) ∙ never.none first.0 first.1.listed))
        (λ never. true≢false (sym (line.parts.second second.0 second.1) ∙ never.none second.0 second.1.listed)))

-- a condition that is seen has a configuration, which another one that is apart has not
only-in : (old new : Sets) (lines : List Line) (names files : List (List ℕ)) (input : Input) (a b : Subparser) (s t : core.Subparser) → Keeps old new → input.arities ≡ old.arities
    → IsSeen (tables_with old lines names files) input a s → IsSeen (tables_with old lines names files) input b t → IsApart input s t → (c : List ℕ) × IsOnlyIn new a.cond b.cond c
only-in old new lines names files input a b s t keeps arities seen_a seen_b apart =
    let c = seen_a.possible.config in
    let here = seen_a.possible.is_config in
    let was : IsConfig old.arities c = subst (λ ns. IsConfig ns c) arities here in (
      c,
      record {
        listed = IsConfig-Keeps keeps was;
        inside = keeps.at a.cond.0 c seen_a.owns.cond was ∙ sym (seen_a.has c here) ∙ seen_a.possible.has;
        outside = keeps.at b.cond.0 c seen_b.owns.cond was ∙ sym (seen_b.has c here) ∙ apart.outside c here seen_a.possible.has;
      },
    )

pub choices-sound : (old new : Sets) (lines added : List Line) (names files : List (List ℕ)) (input : Input) (before : View) (seen : core.Core) (e : Event) (can : Enabled) → Keeps old new
    → OwnsBranches old lines → IsCore (tables_with old lines names files) input before seen → Stands input seen → IsEnabled before.source before.subparsers e can
    → AddsOwnChoices new lines added can → AreSound old lines → AreSound new added
choices-sound old new lines added names files input before seen _ _ keeps own is stands (can_split n i s has phase) adds sound = sound-none old new lines added adds keeps own sound
choices-sound old new lines added names files input before seen _ _ keeps own is stands (can_reduce n j p s has phase action) adds sound =
    sound-none old new lines added adds keeps own sound
choices-sound old new lines added names files input before seen _ _ keeps own is stands (can_shift n j s has phase action) adds sound =
    sound-none old new lines added adds keeps own sound
choices-sound old new lines added names files input before seen _ _ keeps own is stands (can_classify n j s has phase) adds sound = sound-none old new lines added adds keeps own sound
choices-sound old new lines added names files input before seen _ _ keeps own is stands (can_merge n o s t has_n has_o apart alike) adds sound =
    let w = tables_with old lines names files in
    let first = row-seen w input before.subparsers seen.rows n s is.rows has_n in
    let second = row-seen w input before.subparsers seen.rows o t is.rows has_o in
    let away = rows-apart input seen n o first.other second.other stands apart first.at second.at in
    let back = rows-apart input seen o n second.other first.other stands (λ same. apart (sym same)) second.at first.at in
    let arities = is.source.arities in
    sound-merge old new lines added s.cond t.cond adds
    (only-in old new lines names files input s t first.other second.other keeps arities first.seen second.seen away)
    (only-in old new lines names files input t s second.other first.other keeps arities second.seen first.seen back) keeps own sound
