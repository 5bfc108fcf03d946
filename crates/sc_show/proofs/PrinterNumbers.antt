-- What numbers of conditions stand for, as more conditions get numbers.
use Rattle.std.proofs.Common.{◌≡◌, ℕ, zero, suc, ◌+◌, ◌<◌, ◌==◌, ◌||◌, not, cond, Bool, true, false, List, [], ◌∷◌, ◌++◌, length, slice_get, slice_index_or, position, get_or, Some, refl, sym, ap, subst, ◌∙◌, arith, if◌then◌else◌}
use Rattle.std.specs.List.{list_any, position_or_len}
use Rattle.std.proofs.lemmas.Bool.{true≢false, eqb-true, ltb-true}
use Rattle.std.proofs.lemmas.List.Sums.{passes_at_first}
use Rattle.std.proofs.lemmas.List.Elements.{All-append}
use Rattle.std.proofs.lemmas.Option.{cond_some, slice_get_within, slice_get-get_or, get_or_from_slice_get}
use Rattle.indexmap.specs.IndexSet.{insert_key}
use Rattle.sc_base.specs.declared.id.Cond.{Cond}
use Rattle.sc_base.specs.declared.id.FileId.{FileId}
use Rattle.sc_base.proofs.Growth.{Extends-push, Extends-refl, Extends-keeps}
use Rattle.sc_model.specs.Growth.{Extends}
use Rattle.sc_model.specs.Sets.{Sets, IsCond, Keeps}
use Rattle.sc_model.proofs.SetLemmas.{Keeps-refl, Denotes-Keeps}
use Rattle.sc_show.specs.Prints.{IsNumberOf, IsTable}

IsNumberOf-grows : {old new : Sets} {ks ls : List Cond} {test : List ℕ → Bool} {n : ℕ} → Keeps old new → Extends ks ls → IsNumberOf old ks test n → IsNumberOf new ls test n
IsNumberOf-grows keeps grows number = record {
  cond = number.cond;
  found = Extends-keeps _ _ number.found grows;
  means = Denotes-Keeps keeps number.means;
}

pub IsTable-Keeps : {old new : Sets} {ks : List Cond} → Keeps old new → IsTable old ks → IsTable new ks
IsTable-Keeps {ks = ks} keeps table = record {
  own = λ k d h. keeps.own _ (table.own k d h);
  never = IsNumberOf-grows keeps (Extends-refl ks) table.never;
  always = IsNumberOf-grows keeps (Extends-refl ks) table.always;
}

-- a condition with a number was made
pub owned_at : {s : Sets} {ks : List Cond} (n : ℕ) (a : Cond) → IsTable s ks → slice_get ks n ≡ Some a → IsCond s a.0
owned_at {s} {ks} n a table at = subst (λ (k : Cond). IsCond s k.0) (get_or_from_slice_get ks n a a at) (table.own n a (slice_get_within ks n a at))

-- a condition more is owned as the others are
pub IsTable-push : {s : Sets} {ks : List Cond} (cond : Cond) → IsCond s cond.0 → IsTable s ks → IsTable s (ks ++ cond ∷ [])
IsTable-push {s} {ks} cond own table = record {
  own = All-append (λ (k : Cond). IsCond s k.0) ks (cond ∷ []) table.own one;
  never = IsNumberOf-grows (Keeps-refl s) (Extends-push ks cond) table.never;
  always = IsNumberOf-grows (Keeps-refl s) (Extends-push ks cond) table.always;
}
  where
    one : (k : ℕ) (d : Cond) → k < length (cond ∷ []) → IsCond s (get_or (cond ∷ []) k d).0
    one zero d h = own
    one (suc k) d h = absurd (omega arith)

pub same_cond : (a b : Cond) → (a.0 == b.0) ≡ true → a ≡ b
same_cond a b same = ap (λ (n : ℕ). let x : Cond = record { 0 = n } in x) (eqb-true a.0 b.0 same)

pub same_file : (a b : FileId) → (a.0 == b.0) ≡ true → a ≡ b
same_file a b same = ap (λ (n : ℕ). let x : FileId = record { 0 = n } in x) (eqb-true a.0 b.0 same)

-- the item where `position` says passes the test
pub position_passes : {X : Type 0} (p : X → Bool) (xs : List X) (i : ℕ) → position p xs ≡ Some i → (x : X) × (slice_get xs i ≡ Some x) × (p x ≡ true)
position_passes p [] i h = absurd (cc)
position_passes p (x ∷ xs) i h =
    let found = cond_some _ (position_or_len p (x ∷ xs)) i h in
    let within = ltb-true _ _ found.0 in
    (slice_index_or (x ∷ xs) (position_or_len p (x ∷ xs)) x, ap (slice_get (x ∷ xs)) (sym found.1) ∙ slice_get-get_or (x ∷ xs) _ x within, passes_at_first p (x ∷ xs) x within)

pub slice_get-position : (ks : List Cond) (a : Cond) (n : ℕ) → Some n ≡ position (λ (k : Cond). a.0 == k.0) ks → slice_get ks n ≡ Some a
slice_get-position ks a n found = let at = position_passes (λ (k : Cond). a.0 == k.0) ks n (sym found) in at.1 ∙ ap Some (sym (same_cond a at.0 at.2))

-- nothing passes, so the first place that does is the end
position_or_len-none : {T : Type 0} (p : T → Bool) (xs : List T) → list_any p xs ≡ false → position_or_len p xs ≡ length xs
position_or_len-none p [] h = refl
position_or_len-none p (x ∷ xs) h = by (p x) (list_any p xs) h (position_or_len-none p xs)
  where
    by : (a b : Bool) → (a || b) ≡ false → (b ≡ false → position_or_len p xs ≡ length xs) → cond (not a) (1 + position_or_len p xs) 0 ≡ length (x ∷ xs)
    by true b h ih = absurd (true≢false h)
    by false b h ih = let e = ih h in omega arith

-- What an insertion into a set answers.
module _ {T : Type 0} (eq : T → T → Bool) (key : T) (keys new : List T) (number : ℕ) where
  pub absent : true ≡ not (list_any (eq key) keys) → list_any (eq key) keys ≡ false
  absent fresh = by (list_any (eq key) keys) fresh
    where
      by : (b : Bool) → true ≡ not b → b ≡ false
      by true h = absurd (true≢false h)
      by false h = refl

  pub present : false ≡ not (list_any (eq key) keys) → list_any (eq key) keys ≡ true
  present known = by (list_any (eq key) keys) known
    where
      by : (b : Bool) → false ≡ not b → b ≡ true
      by true h = refl
      by false h = absurd (true≢false (sym h))

  -- the key goes last
  pub pushed : true ≡ not (list_any (eq key) keys) → new ≡ insert_key eq keys key → new ≡ keys ++ key ∷ []
  pushed fresh inserted = inserted ∙ ap (λ b. if b then keys else keys ++ key ∷ []) (absent fresh)

  pub pushed_at : true ≡ not (list_any (eq key) keys) → number ≡ position_or_len (eq key) keys → number ≡ length keys
  pushed_at fresh at = at ∙ position_or_len-none (eq key) keys (absent fresh)

  pub stays : false ≡ not (list_any (eq key) keys) → new ≡ insert_key eq keys key → new ≡ keys
  stays known inserted = inserted ∙ ap (λ b. if b then keys else keys ++ key ∷ []) (present known)
