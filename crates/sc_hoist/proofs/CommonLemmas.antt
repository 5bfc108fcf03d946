-- The call of a name where a configuration has all items that are read.
use Rattle.std.proofs.Common.{◌≡◌, ◌≤◌, ◌-◌, ◌==◌, ℕ, ◌+◌, ◌&&◌, arith, not, Bool, true, false, List, [], ◌∷◌, ◌++◌, drop, slice_get, Option, IfSome, Some, None, refl, ap, sym, ◌∙◌, append_assoc, append-nil, if◌then◌else◌}
use Rattle.std.proofs.lemmas.Bool.{eqb-true, not-false}
use Rattle.std.proofs.lemmas.List.{drop_more}
use Rattle.std.proofs.lemmas.Option.{slice_get_within, get_or_from_slice_get}
use Rattle.sc_base.specs.declared.id.Cond.{Cond}
use Rattle.sc_base.specs.declared.token.Token.{Token}
use Rattle.sc_base.specs.Seen.{text_at}
use Rattle.sc_hoist.specs.Calls.{IsClosedCall}
use Rattle.sc_hoist.specs.Reading.{depth_of, end_in, is_final, role_in, state_after, step, takes, taken_from}
use Rattle.sc_hoist.specs.declared.state.Role.{Role}
use Rattle.sc_hoist.specs.declared.state.Role.TheVariants.{Opening, Closing, Other}
use Rattle.sc_hoist.specs.declared.state.State.{State}
use Rattle.sc_hoist.specs.declared.state.State.TheVariants.{Alone, Inside, Closed, Bare}
use Rattle.sc_hoist.proofs.EndLemmas.{taken_from-take}
use Rattle.sc_hoist.proofs.CallLemmas.{end_in-after, final_stays}
use Rattle.sc_hoist.proofs.ItemLemmas.{taken_final}
use Rattle.sc_model.specs.Sets.{Sets}

-- what is left to be read from a state at an index ends the call, and its items behind these places
-- are those of the call
pub record Reads (s : Sets) (names : List (List ℕ)) (tokens : List (Cond × Token)) (at i : ℕ) (state : State) (places c : List ℕ) : Type 0 where
  pub ends : state_after s names (drop i tokens) c state ≡ state_after s names (drop (at + 1) tokens) c Alone
  pub placed : places ++ taken_from s names state i (drop i tokens) c ≡ at ∷ taken_from s names Alone (at + 1) (drop (at + 1) tokens) c

takes-going : (role : Role) (state : State) → is_final state ≡ false → (step role state ≡ Bare → ⊥) → takes role state ≡ true
takes-going Opening Alone goes other = refl
takes-going Closing Alone goes other = absurd (other refl)
takes-going Other Alone goes other = absurd (other refl)
takes-going role (Inside depth) goes other = refl
takes-going role Closed goes other = absurd (cc)
takes-going role Bare goes other = absurd (cc)

module _ (s : Sets) (names : List (List ℕ)) (tokens : List (Cond × Token)) (at : ℕ) where
  -- an item more
  pub Reads-more : (i : ℕ) (item : Cond × Token) (role : Role) (state : State) (places c : List ℕ) → slice_get tokens i ≡ Some item → role ≡ role_in (text_at names item.1.spelling.0) → s.has item.0.0 c ≡ true
      → is_final state ≡ false → (step role state ≡ Bare → ⊥) → Reads s names tokens at i state places c → Reads s names tokens at (i + 1) (step role state) (places ++ i ∷ []) c
  Reads-more i item role state places c is is_role has goes other was =
      let rest : List (Cond × Token) = drop (i + 1) tokens in
      let split : drop i tokens ≡ item ∷ rest = drop_more tokens i item (slice_get_within tokens i item is) ∙ ap (λ (x : Cond × Token). x ∷ rest) (get_or_from_slice_get tokens i item item is) in
      let text : List ℕ = text_at names item.1.spelling.0 in
      let h : Bool = s.has item.0.0 c in
      let took : Bool → Bool → State → List ℕ = λ b t st. if b && t then i ∷ taken_from s names st (i + 1) rest c else taken_from s names st (i + 1) rest c in
      let next : Bool → Role → State = λ b r. if b then step r state else state in
      let now : step role state ≡ next h (role_in text) = ap (λ (r : Role). step r state) is_role ∙ ap (λ (b : Bool). next b (role_in text)) (sym has) in
      let taken : takes (role_in text) state ≡ true = ap (λ (r : Role). takes r state) (sym is_role) ∙ takes-going role state goes other in
      let both : (i ∷ taken_from s names (step role state) (i + 1) rest c) ≡ took h (takes (role_in text) state) (next h (role_in text)) =
      ap (took true true) now ∙ (ap (λ (b : Bool). took b true (next h (role_in text))) (sym has) ∙ ap (λ (t : Bool). took h t (next h (role_in text))) (sym taken)) in
      record {
        ends =
            ap (λ (st : State). state_after s names rest c st) now
            ∙ (ap (λ (items : List (Cond × Token)). state_after s names items c state) (sym split) ∙ was.ends);
        placed =
            append_assoc places (i ∷ []) (taken_from s names (step role state) (i + 1) rest c)
            ∙ (ap (λ (ps : List ℕ). places ++ ps) both
            ∙ (ap (λ (items : List (Cond × Token)). places ++ taken_from s names state i items c) (sym split) ∙ was.placed));
      }

  -- all of the call was read
  pub Reads-closed : (i : ℕ) (places c : List ℕ) → Reads s names tokens at i Closed places c → IsClosedCall s names tokens at places c
  Reads-closed i places c was =
      let rest : List (Cond × Token) = drop (at + 1) tokens in
      let last : state_after s names rest c Alone ≡ Closed = sym was.ends ∙ final_stays s names (drop i tokens) c Closed refl in
      record {
        ends = sym (end_in-after s names rest c Alone) ∙ ap end_in last;
        placed = ap (λ (ps : List ℕ). at ∷ ps) (sym (taken_from-take s names Alone (at + 1) rest c)) ∙ (sym was.placed
            ∙ (ap (λ (ps : List ℕ). places ++ ps) (taken_final s names Closed i (drop i tokens) c refl) ∙ append-nil places));
      }

pub depth-step : (role : Role) (state : State) → depth_of (step role state) ≤ depth_of state + 1
depth-step Opening Alone = omega arith
depth-step Closing Alone = omega arith
depth-step Other Alone = omega arith
depth-step Opening (Inside depth) = omega arith
depth-step Closing (Inside depth) = by (depth == 0)
  where
    by : (b : Bool) → depth_of (if b then Closed else Inside (depth - 1)) ≤ depth + 1
    by true = omega arith
    by false = omega arith
depth-step Other (Inside depth) = omega arith
depth-step role Closed = omega arith
depth-step role Bare = omega arith

pub both-some : {A : Type 0} {P Q R : A → Type 0} (o : Option A) → ((a : A) → P a → Q a → R a) → IfSome o P → IfSome o Q → IfSome o R
both-some None f p q = p
both-some (Some a) f p q = f a p q

pub same-cond : (a b : Cond) → not (a.0 == b.0) ≡ false → a ≡ b
same-cond a b is = ap (λ (k : ℕ). let cond : Cond = record { 0 = k } in cond) (eqb-true a.0 b.0 (not-false _ is))
