-- Which rows have a subparser, and which fact stands against an event.
use Rattle.std.proofs.Common.{◌≡◌, ℕ, ◌<◌, ◌≤◌, false, List, Option, Some, None, length, get_or, sym, subst}
use Rattle.std.specs.Prelude.{IsTrue}
use Rattle.std.proofs.lemmas.Bool.{true≢false}
use Rattle.std.proofs.lemmas.Option.{slice_get-get_or, slice_get_past}
use Rattle.sc_fork.specs.declared.event.Event.TheVariants as event
use Rattle.sc_fork.specs.declared.event.Fact.{Fact}
use Rattle.sc_fork.specs.declared.event.Fact.TheVariants.{SameSubparser}
use Rattle.sc_fork.specs.declared.source.Source.{Source}
use Rattle.sc_fork.specs.Enabled.{Has, HasNone, IsMissing, missing, IsNotLooking, none_looks, other_phase, IsRefused, none_to_split, none_to_reduce, none_to_shift, none_to_classify, none_to_merge, none_to_merge_with, no_lookahead_to_reduce, no_lookahead_to_shift, same}
use Rattle.sc_merge.specs.declared.subparser.Subparser.{Subparser}

pub none_past : (rows : List (Option Subparser)) (n : ℕ) → length rows ≤ n → HasNone rows n
none_past rows n past = λ s has. let e = slice_get_past rows n past in cc

pub none_at : (rows : List (Option Subparser)) (n : ℕ) (row : Option Subparser) → n < length rows → row ≡ get_or rows n row → row ≡ None → HasNone rows n
none_at rows n row below is none = λ s has. let e = slice_get-get_or rows n row below in cc

pub has_at : (rows : List (Option Subparser)) (n : ℕ) (row : Option Subparser) (s : Subparser) → n < length rows → row ≡ get_or rows n row → row ≡ Some s → Has rows n s
has_at rows n row s below is some = let e = slice_get-get_or rows n row below in cc

pub missing_looks : (rows : List (Option Subparser)) (n : ℕ) (fact : Fact) → IsMissing rows n fact → IsNotLooking rows n fact
missing_looks rows n _ (missing none) = none_looks none

module _ (source : Source) (rows : List (Option Subparser)) where
  pub split_missing : (n : ℕ) (fact : Fact) → IsMissing rows n fact → IsRefused source rows (event.Split n) fact
  split_missing n _ (missing none) = none_to_split n none

  pub classify_missing : (n : ℕ) (fact : Fact) → IsMissing rows n fact → IsRefused source rows (event.Classify n) fact
  classify_missing n _ (missing none) = none_to_classify n none

  pub merge_missing : (n m : ℕ) (fact : Fact) → IsMissing rows n fact → IsRefused source rows (event.Merge n m) fact
  merge_missing n m _ (missing none) = none_to_merge n m none

  pub merge_missing_other : (n m : ℕ) (fact : Fact) → IsMissing rows m fact → IsRefused source rows (event.Merge n m) fact
  merge_missing_other n m _ (missing none) = none_to_merge_with n m none

  pub reduce_not_looking : (n : ℕ) (fact : Fact) → IsNotLooking rows n fact → IsRefused source rows (event.Reduce n) fact
  reduce_not_looking n _ (none_looks none) = none_to_reduce n none
  reduce_not_looking n _ (other_phase s has other) = no_lookahead_to_reduce n s has other

  pub shift_not_looking : (n : ℕ) (fact : Fact) → IsNotLooking rows n fact → IsRefused source rows (event.Shift n) fact
  shift_not_looking n _ (none_looks none) = none_to_shift n none
  shift_not_looking n _ (other_phase s has other) = no_lookahead_to_shift n s has other

  pub merge_same : (n m : ℕ) (s : Subparser) → n ≡ m → Has rows n s → IsRefused source rows (event.Merge n m) SameSubparser
  merge_same n m s e has = subst (λ k. IsRefused source rows (event.Merge n k) SameSubparser) e (same n s has)

pub not_true : IsTrue false → ⊥
not_true is = true≢false (sym is)
