-- Configurations with the same places have calls that end alike, and are in one branch.
use Rattle.std.proofs.Common.{◌≡◌, ℕ, zero, suc, ◌+◌, ◌-◌, ◌==◌, ◌≤◌, ◌&&◌, Bool, true, false, List, [], ◌∷◌, take, map, refl, ap, sym, ◌∙◌, arith, if◌then◌else◌}
use Rattle.sc_base.specs.declared.id.Cond.{Cond}
use Rattle.sc_base.specs.declared.token.Token.{Token}
use Rattle.sc_base.specs.Seen.{text_at}
use Rattle.sc_guarded.specs.Items.{items_at}
use Rattle.sc_hoist.specs.Calls.{call_end, ends_of, spelled_at}
use Rattle.sc_hoist.specs.Places.{places_from}
use Rattle.sc_hoist.specs.Reading.{role_in, step, takes, end_in, state_after, taken_from}
use Rattle.sc_hoist.specs.declared.state.Role as declared
use Rattle.sc_hoist.specs.declared.state.Role.TheVariants.{Opening, Closing, Other}
use Rattle.sc_hoist.specs.declared.state.State.{State}
use Rattle.sc_hoist.specs.declared.state.State.TheVariants.{Alone, Inside, Closed, Bare}
use Rattle.sc_hoist.proofs.CallLemmas.{length_from, length_from-step, end_in-after}
use Rattle.sc_model.specs.Sets.{Sets}

-- the state as far as the tokens of the call tell it
abbrev pub told : State → State
told Alone = Alone
told (Inside depth) = Inside depth
told Closed = Closed
told Bare = Alone

-- a token that is none of the call tells nothing
told-step : (had : Bool) (role : declared.Role) (state : State) → told (if had then step role state else state) ≡ (if had && takes role state then step role (told state) else told state)
told-step false role state = refl
told-step true Opening Alone = refl
told-step true Closing Alone = refl
told-step true Other Alone = refl
told-step true Opening (Inside depth) = refl
told-step true Closing (Inside depth) = by (depth == 0)
  where
    by : (b : Bool) → told (if b then Closed else Inside (depth - 1)) ≡ (if b then Closed else Inside (depth - 1))
    by true = refl
    by false = refl
told-step true Other (Inside depth) = refl
told-step true Opening Closed = refl
told-step true Closing Closed = refl
told-step true Other Closed = refl
told-step true Opening Bare = refl
told-step true Closing Bare = refl
told-step true Other Bare = refl

-- and it tells how the call ends
told-ends : (one two : State) → told one ≡ told two → ends_of (end_in one) ≡ ends_of (end_in two)
told-ends one two same = seen one ∙ (ap (λ (st : State). ends_of (end_in st)) same ∙ sym (seen two))
  where
    seen : (st : State) → ends_of (end_in st) ≡ ends_of (end_in (told st))
    seen Alone = refl
    seen (Inside depth) = refl
    seen Closed = refl
    seen Bare = refl

module _ (s : Sets) (names : List (List ℕ)) where
  -- no place is below the first index
  taken_above : (state : State) (n m : ℕ) (items : List (Cond × Token)) (c ps : List ℕ) → taken_from s names state n items c ≡ m ∷ ps → n ≤ m
  taken_above state n m [] c ps is = absurd (cc)
  taken_above state n m (item ∷ items) c ps is =
      by (s.has item.0.0 c && takes (role_in (text_at names item.1.spelling.0)) state) (if s.has item.0.0 c then step (role_in (text_at names item.1.spelling.0)) state else state) is (λ st e. taken_above st (n + 1) m items c ps e)
    where
      by : (taken : Bool) (st : State) → (if taken then n ∷ taken_from s names st (n + 1) items c else taken_from s names st (n + 1) items c) ≡ m ∷ ps
          → ((st : State) → taken_from s names st (n + 1) items c ≡ m ∷ ps → n + 1 ≤ m) → n ≤ m
      by true st e rest = let same : n ≡ m = cc in omega arith
      by false st e rest = omega (arith, rest st e)

  -- configurations with the same places have the same tokens in their calls
  pub same_told : (one two : State) (n : ℕ) (items : List (Cond × Token)) (c d : List ℕ) → taken_from s names one n items c ≡ taken_from s names two n items d → told one ≡ told two
      → told (state_after s names items c one) ≡ told (state_after s names items d two)
  same_told one two n [] c d same was = was
  same_told one two n (item ∷ items) c d same was =
      same_told (next (s.has item.0.0 c) one) (next (s.has item.0.0 d) two) (n + 1) items c d parts.1
      (told-step (s.has item.0.0 c) role one ∙ (by_taken (s.has item.0.0 c && takes role one) (s.has item.0.0 d && takes role two) parts.0 ∙ sym (told-step (s.has item.0.0 d) role two)))
    where
      role : declared.Role
      role = role_in (text_at names item.1.spelling.0)

      next : Bool → State → State
      next had state = if had then step role state else state

      by : (a b : Bool) (left right : List ℕ) → (if a then n ∷ left else left) ≡ (if b then n ∷ right else right) → ((ps : List ℕ) → left ≡ n ∷ ps → ⊥) → ((ps : List ℕ) → right ≡ n ∷ ps → ⊥) → (a ≡ b) × (left ≡ right)
      by true true left right e low high = (refl, cc)
      by true false left right e low high = absurd (high left (sym e))
      by false true left right e low high = absurd (low right e)
      by false false left right e low high = (refl, e)

      parts : ((s.has item.0.0 c && takes role one) ≡ (s.has item.0.0 d && takes role two)) × (taken_from s names (next (s.has item.0.0 c) one) (n + 1) items c ≡ taken_from s names (next (s.has item.0.0 d) two) (n + 1) items d)
      parts = by (s.has item.0.0 c && takes role one) (s.has item.0.0 d && takes role two) (taken_from s names (next (s.has item.0.0 c) one) (n + 1) items c) (taken_from s names (next (s.has item.0.0 d) two) (n + 1) items d) same
          (λ ps e. let above : n + 1 ≤ n = taken_above (next (s.has item.0.0 c) one) (n + 1) n items c ps e in absurd (omega arith))
          (λ ps e. let above : n + 1 ≤ n = taken_above (next (s.has item.0.0 d) two) (n + 1) n items d ps e in absurd (omega arith))

      by_taken : (a b : Bool) → a ≡ b → (if a then step role (told one) else told one) ≡ (if b then step role (told two) else told two)
      by_taken a b e = ap (λ (x : Bool). if x then step role (told one) else told one) e ∙ ap (λ (st : State). if b then step role st else st) was

  pub same_ends : (n : ℕ) (items : List (Cond × Token)) (c d : List ℕ) → taken_from s names Alone n items c ≡ taken_from s names Alone n items d
      → ends_of (call_end (spelled_at s names items c)) ≡ ends_of (call_end (spelled_at s names items d))
  same_ends n items c d same =
      ap ends_of (sym (end_in-after s names items c Alone))
      ∙ (told-ends (state_after s names items c Alone) (state_after s names items d Alone) (same_told Alone Alone n items c d same refl) ∙ ap ends_of (end_in-after s names items d Alone))

  -- the places that were taken are the first ones
  pub taken_from-take : (state : State) (n : ℕ) (items : List (Cond × Token)) (c : List ℕ)
      → taken_from s names state n items c ≡ take (length_from state (spelled_at s names items c)) (places_from s n (map (λ (item : Cond × Token). item.0) items) c)
  taken_from-take state n [] c = sym (nothing (length_from state []))
    where
      nothing : (k : ℕ) → take k (places_from s n [] c) ≡ []
      nothing zero = refl
      nothing (suc k) = refl
  taken_from-take state n (item ∷ items) c = by (s.has item.0.0 c) (λ st. taken_from-take st (n + 1) items c)
    where
      text : List ℕ
      text = text_at names item.1.spelling.0

      conds : List Cond
      conds = map (λ (item : Cond × Token). item.0) items

      rest : List (List ℕ)
      rest = spelled_at s names items c

      taken : (b : Bool) (left : List ℕ) → left ≡ take (length_from (step (role_in text) state) rest) (places_from s (n + 1) conds c) → (b ≡ false → left ≡ [])
          → (if b then n ∷ left else left) ≡ take (if b then suc (length_from (step (role_in text) state) rest) else 0) (n ∷ places_from s (n + 1) conds c)
      taken true left is none = ap (λ ps. n ∷ ps) is
      taken false left is none = none refl

      by : (had : Bool) → ((st : State) → taken_from s names st (n + 1) items c ≡ take (length_from st rest) (places_from s (n + 1) conds c))
          → (if had && takes (role_in text) state then n ∷ taken_from s names (if had then step (role_in text) state else state) (n + 1) items c else taken_from s names (if had then step (role_in text) state else state) (n + 1) items c)
          ≡ take (length_from state (map (λ (t : Token). text_at names t.spelling.0) (if had then item.1 ∷ items_at s items c else items_at s items c))) (if had then n ∷ places_from s (n + 1) conds c else places_from s (n + 1) conds c)
      by true go =
          taken (takes (role_in text) state) (taken_from s names (step (role_in text) state) (n + 1) items c) (go (step (role_in text) state))
          (λ none. go (step (role_in text) state) ∙ ap (λ k. take k (places_from s (n + 1) conds c)) (untaken (role_in text) state none))
          ∙ ap (λ k. take k (n ∷ places_from s (n + 1) conds c)) (sym (length_from-step state text rest))
        where
          untaken : (role : declared.Role) (st : State) → takes role st ≡ false → length_from (step role st) rest ≡ 0
          untaken Opening Alone e = absurd (cc)
          untaken Closing Alone e = refl
          untaken Other Alone e = refl
          untaken role (Inside depth) e = absurd (cc)
          untaken Opening Closed e = refl
          untaken Closing Closed e = refl
          untaken Other Closed e = refl
          untaken Opening Bare e = refl
          untaken Closing Bare e = refl
          untaken Other Bare e = refl
      by false go = go state
