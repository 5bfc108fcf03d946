-- The end of a call, found by reading it.
use Rattle.std.proofs.Common.{◌≡◌, ℕ, zero, suc, ◌+◌, ◌-◌, ◌==◌, Bool, true, false, List, [], ◌∷◌, length, codes, map, refl, ap, sym, ◌∙◌, arith, Option, Some, None, if◌then◌else◌}
use Rattle.std.proofs.lemmas.Bool.{eqb-true}
use Rattle.std.specs.Option.{option_map}
use Rattle.c11_macros.specs.Call.{Call, Role, opening, closing, comma, other, role_of, call_of, call_step, onto, apart}
use Rattle.c11_macros.specs.Hidden.{Hidden}
use Rattle.sc_base.specs.declared.id.Cond.{Cond}
use Rattle.sc_base.specs.declared.token.Token.{Token}
use Rattle.sc_base.specs.Seen.{text_at}
use Rattle.sc_guarded.specs.Items.{items_at}
use Rattle.sc_hoist.specs.Calls.{CallEnd, closed, bare, closing_at, closing_step, opened_end, opened_length, call_end, call_length, ClosesAt, spelled_at}
use Rattle.sc_hoist.specs.Reading.{role_in, step, takes, end_in, is_final, state_after}
use Rattle.sc_hoist.specs.declared.state.Role as declared
use Rattle.sc_hoist.specs.declared.state.Role.TheVariants.{Opening, Closing, Other}
use Rattle.sc_hoist.specs.declared.state.State.{State}
use Rattle.sc_hoist.specs.declared.state.State.TheVariants.{Alone, Inside, Closed, Bare}
use Rattle.sc_model.specs.Bytes.{same_bytes}
use Rattle.sc_model.specs.Sets.{Sets}

-- ---- the end of a call is where the arguments are read to

module _ {P : Type 0} where
  closes_onto : (t : Hidden P) (ts : List (Hidden P)) (index : Option ℕ) (call : Option (Call P)) → ClosesAt ts index call → ClosesAt (t ∷ ts) (option_map suc index) (onto t call)
  closes_onto t ts None None is = tt
  closes_onto t ts None (Some call) is = absurd is
  closes_onto t ts (Some index) None is = absurd is
  closes_onto t ts (Some index) (Some call) is = (is.0, is.1)

  closes_apart : (t : Hidden P) (ts : List (Hidden P)) (index : Option ℕ) (call : Option (Call P)) → ClosesAt ts index call → ClosesAt (t ∷ ts) (option_map suc index) (apart call)
  closes_apart t ts None None is = tt
  closes_apart t ts None (Some call) is = absurd is
  closes_apart t ts (Some index) None is = absurd is
  closes_apart t ts (Some index) (Some call) is = (is.0, is.1)

  pub closes_at : (commas depth : ℕ) (ts : List (Hidden P)) → ClosesAt ts (closing_at depth (map (λ (t : Hidden P). t.spelling) ts)) (call_of commas depth ts)
  closes_at commas depth [] = tt
  closes_at commas depth (t ∷ ts) = by (role_of t.spelling) commas depth (λ c d. closes_at c d ts)
    where
      by : (role : Role) (commas depth : ℕ) → ((c d : ℕ) → ClosesAt ts (closing_at d (map (λ (t : Hidden P). t.spelling) ts)) (call_of c d ts))
          → ClosesAt (t ∷ ts) (closing_step role depth (λ d. closing_at d (map (λ (t : Hidden P). t.spelling) ts))) (call_step role commas depth t ts (λ c d. call_of c d ts))
      by closing commas zero go = (refl, refl)
      by closing commas (suc depth) go = closes_onto t ts _ _ (go commas depth)
      by opening commas depth go = closes_onto t ts _ _ (go commas (suc depth))
      by comma (suc commas) zero go = closes_apart t ts _ _ (go commas zero)
      by comma zero zero go = closes_onto t ts _ _ (go zero zero)
      by comma zero (suc depth) go = closes_onto t ts _ _ (go zero (suc depth))
      by comma (suc commas) (suc depth) go = closes_onto t ts _ _ (go (suc commas) (suc depth))
      by other commas depth go = closes_onto t ts _ _ (go commas depth)

-- ---- the same by reading a token at a time

-- how the call goes on from a state
abbrev pub end_from : State → List (List ℕ) → CallEnd
end_from Alone ts = call_end ts
end_from (Inside depth) ts = opened_end (closing_at depth ts)
end_from Closed ts = closed
end_from Bare ts = bare

-- how many tokens it takes from there
abbrev pub length_from : State → List (List ℕ) → ℕ
length_from Alone ts = call_length ts
length_from (Inside depth) ts = opened_length (length ts) (closing_at depth ts)
length_from Closed ts = 0
length_from Bare ts = 0

same_end : (o : Option ℕ) → opened_end (option_map suc o) ≡ opened_end o
same_end None = refl
same_end (Some index) = refl

longer : (n : ℕ) (o : Option ℕ) → opened_length (suc n) (option_map suc o) ≡ suc (opened_length n o)
longer n None = refl
longer n (Some index) = refl

-- what a spelling is to a call, in both forms
pub data Reads : Bool → Role → declared.Role → Type 0 where
  opens : Reads true opening Opening
  closes : Reads false closing Closing
  parts : Reads false comma Other
  passes : Reads false other Other

reads : (t : List ℕ) → Reads (same_bytes t (codes "(")) (role_of t) (role_in t)
reads t = by (same_bytes t (codes "(")) (same_bytes t (codes ")")) (same_bytes t (codes ","))
  where
    by : (o c m : Bool) → Reads o (if o then opening else (if c then closing else (if m then comma else other))) (if o then Opening else (if c then Closing else Other))
    by true c m = opens
    by false true m = closes
    by false false true = parts
    by false false false = passes

less : (depth : ℕ) → step Closing (Inside (suc depth)) ≡ Inside depth
less depth = by (suc depth == 0) refl
  where
    by : (b : Bool) → (suc depth == 0) ≡ b → (if b then Closed else Inside (suc depth - 1)) ≡ Inside depth
    by true is = let none : suc depth ≡ 0 = eqb-true (suc depth) 0 is in absurd (omega arith)
    by false is = let e : suc depth - 1 ≡ depth = omega arith in ap Inside e

more : (depth : ℕ) → Inside (depth + 1) ≡ Inside (suc depth)
more depth = let e : depth + 1 ≡ suc depth = omega arith in ap Inside e

pub end_from-step : (state : State) (t : List ℕ) (ts : List (List ℕ)) → end_from state (t ∷ ts) ≡ end_from (step (role_in t) state) ts
end_from-step Alone t ts = by _ _ _ (reads t)
  where
    by : (o : Bool) (role : Role) (read : declared.Role) → Reads o role read → (if o then opened_end (closing_at 0 ts) else bare) ≡ end_from (step read Alone) ts
    by o role read opens = refl
    by o role read closes = refl
    by o role read parts = refl
    by o role read passes = refl
end_from-step (Inside depth) t ts = by _ _ _ (reads t) depth
  where
    by : (o : Bool) (role : Role) (read : declared.Role) → Reads o role read → (depth : ℕ) → opened_end (closing_step role depth (λ d. closing_at d ts)) ≡ end_from (step read (Inside depth)) ts
    by o role read opens depth = same_end (closing_at (suc depth) ts) ∙ ap (λ (st : State). end_from st ts) (sym (more depth))
    by o role read closes zero = refl
    by o role read closes (suc depth) = same_end (closing_at depth ts) ∙ ap (λ (st : State). end_from st ts) (sym (less depth))
    by o role read parts depth = same_end (closing_at depth ts)
    by o role read passes depth = same_end (closing_at depth ts)
end_from-step Closed t ts = refl
end_from-step Bare t ts = refl

-- a token that is one of the call counts
pub length_from-step : (state : State) (t : List ℕ) (ts : List (List ℕ)) → length_from state (t ∷ ts) ≡ (if takes (role_in t) state then suc (length_from (step (role_in t) state) ts) else 0)
length_from-step Alone t ts = by _ _ _ (reads t)
  where
    by : (o : Bool) (role : Role) (read : declared.Role) → Reads o role read
        → (if o then suc (opened_length (length ts) (closing_at 0 ts)) else 0) ≡ (if takes read Alone then suc (length_from (step read Alone) ts) else 0)
    by o role read opens = refl
    by o role read closes = refl
    by o role read parts = refl
    by o role read passes = refl
length_from-step (Inside depth) t ts = by _ _ _ (reads t) depth
  where
    by : (o : Bool) (role : Role) (read : declared.Role) → Reads o role read → (depth : ℕ)
        → opened_length (suc (length ts)) (closing_step role depth (λ d. closing_at d ts)) ≡ (if takes read (Inside depth) then suc (length_from (step read (Inside depth)) ts) else 0)
    by o role read opens depth = longer (length ts) (closing_at (suc depth) ts) ∙ ap (λ (st : State). suc (length_from st ts)) (sym (more depth))
    by o role read closes zero = refl
    by o role read closes (suc depth) = longer (length ts) (closing_at depth ts) ∙ ap (λ (st : State). suc (length_from st ts)) (sym (less depth))
    by o role read parts depth = longer (length ts) (closing_at depth ts)
    by o role read passes depth = longer (length ts) (closing_at depth ts)
length_from-step Closed t ts = refl
length_from-step Bare t ts = refl

final_step : (had : Bool) (role : declared.Role) (state : State) → is_final state ≡ true → (if had then step role state else state) ≡ state
final_step had role Alone final = absurd (cc)
final_step had role (Inside depth) final = absurd (cc)
final_step true Opening Closed final = refl
final_step true Closing Closed final = refl
final_step true Other Closed final = refl
final_step false role Closed final = refl
final_step true Opening Bare final = refl
final_step true Closing Bare final = refl
final_step true Other Bare final = refl
final_step false role Bare final = refl

-- ---- over the items that a configuration has

module _ (s : Sets) (names : List (List ℕ)) where
  pub end_in-after : (items : List (Cond × Token)) (c : List ℕ) (state : State) → end_in (state_after s names items c state) ≡ end_from state (spelled_at s names items c)
  end_in-after [] c Alone = refl
  end_in-after [] c (Inside depth) = refl
  end_in-after [] c Closed = refl
  end_in-after [] c Bare = refl
  end_in-after (item ∷ items) c state = by (s.has item.0.0 c) (λ st. end_in-after items c st)
    where
      text : List ℕ
      text = text_at names item.1.spelling.0

      by : (had : Bool) → ((st : State) → end_in (state_after s names items c st) ≡ end_from st (spelled_at s names items c))
          → end_in (state_after s names items c (if had then step (role_in text) state else state))
          ≡ end_from state (map (λ (t : Token). text_at names t.spelling.0) (if had then item.1 ∷ items_at s items c else items_at s items c))
      by true rest = rest (step (role_in text) state) ∙ sym (end_from-step state text (spelled_at s names items c))
      by false rest = rest state

  -- a final state stays
  pub final_stays : (items : List (Cond × Token)) (c : List ℕ) (state : State) → is_final state ≡ true → state_after s names items c state ≡ state
  final_stays [] c state final = refl
  final_stays (item ∷ items) c state final =
      ap (λ (st : State). state_after s names items c st) (final_step (s.has item.0.0 c) (role_in (text_at names item.1.spelling.0)) state final) ∙ final_stays items c state final
