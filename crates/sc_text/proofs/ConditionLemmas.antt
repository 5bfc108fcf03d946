-- Conditions by their numbers, and the options of one.
use Rattle.std.proofs.Common.{◌≡◌, ℕ, zero, suc, ◌<◌, ◌≤◌, ◌&&◌, nat_lt, true, List, [], ◌∷◌, ◌++◌, length, map, slice_index, refl, sym, ap, arith}
use Rattle.std.proofs.lemmas.Bool.{ltb-true, true≢false, and_parts}
use Rattle.sc_model.proofs.ByteLemmas.{same_bytes-true}
use Rattle.sc_model.specs.Bytes.{same_bytes}
use Rattle.sc_text.specs.Answer.{Condition}
use Rattle.sc_text.specs.Text.{condition_at, are_options, chosen}

-- the condition of a number stays as conditions are read
pub condition_at-push : (tests : List Condition) (test : Condition) (n : ℕ) → n < length tests → condition_at (tests ++ test ∷ []) n ≡ condition_at tests n
condition_at-push [] test n h = absurd (omega arith)
condition_at-push (t ∷ tests) test zero h = refl
condition_at-push (t ∷ tests) test (suc n) h = condition_at-push tests test n (omega arith)

pub condition_at-last : (tests : List Condition) (test : Condition) (c : List ℕ) → condition_at (tests ++ test ∷ []) (length tests) c ≡ test c
condition_at-last [] test c = refl
condition_at-last (t ∷ tests) test c = condition_at-last tests test c

-- the first option, and those after it
pub are_options-cons : {id : ℕ} (text : List ℕ) (texts : List (List ℕ)) (option : List ℕ × ℕ) (options : List (List ℕ × ℕ)) → are_options id (text ∷ texts) (option ∷ options) ≡ true
    → (option.0 ≡ text) × (option.1 < id) × (are_options id texts options ≡ true)
are_options-cons {id} text texts option options fits =
    let parts = and_parts (same_bytes option.0 text && nat_lt option.1 id) (are_options id texts options) fits in
    let first = and_parts (same_bytes option.0 text) (nat_lt option.1 id) parts.0 in
    (same_bytes-true option.0 text first.0, ltb-true option.1 id first.1, parts.1)

-- an option has the number of a condition before this one; past the options stands that of the
-- first
option_below : {n id : ℕ} (texts : List (List ℕ)) (options : List (List ℕ × ℕ)) (k : ℕ) → 0 < n → id ≤ n → are_options id texts options ≡ true
    → slice_index (map (λ option. option.1) options) k < n
option_below texts [] k begun below fits = begun
option_below [] (option ∷ options) k begun below fits = absurd (true≢false (sym fits))
option_below (text ∷ texts) (option ∷ options) zero begun below fits = let first = (are_options-cons text texts option options fits).1 in omega (arith, first, below)
option_below (text ∷ texts) (option ∷ options) (suc k) begun below fits = option_below texts options k begun below (are_options-cons text texts option options fits).2

-- what an option chooses stays as conditions are read
pub chosen-kept : {id : ℕ} (conditions more : List Condition) (texts : List (List ℕ)) (options : List (List ℕ × ℕ)) (place : ℕ) (config : List ℕ) → 0 < length conditions → id ≤ length conditions
    → are_options id texts options ≡ true → ((n : ℕ) → n < length conditions → condition_at more n ≡ condition_at conditions n) → chosen more place options config ≡ chosen conditions place options config
chosen-kept conditions more texts options place config begun below fits kept = ap (λ f. f config) (kept _ (option_below texts options (slice_index config place) begun below fits))
