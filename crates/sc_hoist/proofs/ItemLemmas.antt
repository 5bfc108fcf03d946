-- The conditions under which items are of a call, while it is read.
use Rattle.std.proofs.Common.{◌≡◌, ℕ, ◌+◌, ◌≤◌, ◌&&◌, ◌||◌, Bool, true, false, List, [], ◌∷◌, ◌++◌, All, length, drop, slice_get, Some, refl, ap, sym, ◌∙◌, append_assoc, append-nil, if◌then◌else◌}
use Rattle.std.proofs.lemmas.List.{drop_more, drop_all}
use Rattle.std.proofs.lemmas.List.Elements.{All-head, All-tail}
use Rattle.std.proofs.lemmas.Option.{slice_get_within, get_or_from_slice_get}
use Rattle.sc_base.specs.declared.id.Cond.{Cond}
use Rattle.sc_base.specs.declared.token.Token.{Token}
use Rattle.sc_base.specs.Seen.{text_at}
use Rattle.sc_hoist.specs.Leaves.{placed}
use Rattle.sc_hoist.specs.Places.{places_from}
use Rattle.sc_hoist.specs.Reading.{in_states, is_final, role_in, step, takes, taken_from}
use Rattle.sc_hoist.specs.declared.state.Role.{Role}
use Rattle.sc_hoist.specs.declared.state.Role.TheVariants.{Opening, Closing, Other}
use Rattle.sc_hoist.specs.declared.state.State.{State}
use Rattle.sc_hoist.specs.declared.state.State.TheVariants.{Alone, Inside, Closed, Bare}
use Rattle.sc_hoist.specs.declared.states.Entry.{Entry}
use Rattle.sc_hoist.proofs.PlaceLemmas.{places_from-push}
use Rattle.sc_hoist.proofs.StateLemmas.{in_states-same}
use Rattle.sc_model.specs.Sets.{Sets, IsConfig, IsCond, Keeps}

pub places_from-Keeps : {old new : Sets} (n : ℕ) (items : List Cond) (c : List ℕ) → Keeps old new → All (λ (item : Cond). IsCond old item.0) items → IsConfig old.arities c → places_from new n items c ≡ places_from old n items c
places_from-Keeps n [] c keeps own listed = refl
places_from-Keeps {old} {new} n (x ∷ items) c keeps own listed =
    let P : Cond → Type 0 = λ item. IsCond old item.0 in
    ap (λ b. if b then n ∷ places_from new (n + 1) items c else places_from new (n + 1) items c) (keeps.at x.0 c (All-head P x items own) listed)
    ∙ ap (λ ps. if old.has x.0 c then n ∷ ps else ps) (places_from-Keeps (n + 1) items c keeps (All-tail P x items own) listed)

-- what is known of a configuration once the items before an index were read
pub record IsRead (s now : Sets) (names : List (List ℕ)) (tokens : List (Cond × Token)) (i : ℕ) (states : List Entry) (found answer : List ℕ) (c : List ℕ) : Type 0 where
  pub state : State
  pub in_state : (test : State → Bool) → in_states now states test c ≡ test state
  pub places : found ++ taken_from s names state i (drop i tokens) c ≡ answer

one_more : (taken : Bool) (i : ℕ) (found rest : List ℕ) → placed taken i found ++ rest ≡ found ++ (if taken then i ∷ rest else rest)
one_more true i found rest = append_assoc found (i ∷ []) rest
one_more false i found rest = refl

pub IsRead-more : (s mid between new : Sets) (names : List (List ℕ)) (tokens : List (Cond × Token)) (i : ℕ) (item : Cond × Token) (role : Role) (before made : List Entry) (found more answer c : List ℕ) (having : Bool) → slice_get tokens i ≡ Some item
    → role ≡ role_in (text_at names item.1.spelling.0) → between.has item.0.0 c ≡ s.has item.0.0 c → having ≡ (s.has item.0.0 c && in_states mid before (takes role) c)
    → more ≡ placed having i found
    → ((test : State → Bool) → in_states between before test c ≡ in_states mid before test c)
    → ((test : State → Bool) → in_states new made test c ≡ in_states between before (λ st. test (if between.has item.0.0 c then step role st else st)) c)
    → IsRead s mid names tokens i before found answer c → IsRead s new names tokens (i + 1) made more answer c
IsRead-more s mid between new names tokens i item role before made found more answer c having is is_role same had placing kept moved was =
    let rest : List (Cond × Token) = drop (i + 1) tokens in
    let split : drop i tokens ≡ item ∷ rest = drop_more tokens i item (slice_get_within tokens i item is) ∙ ap (λ (x : Cond × Token). x ∷ rest) (get_or_from_slice_get tokens i item item is) in
    let text : List ℕ = text_at names item.1.spelling.0 in
    let h : Bool = s.has item.0.0 c in
    let next : State = if h then step (role_in text) was.state else was.state in
    let left : List ℕ = taken_from s names next (i + 1) rest c in
    let taken : having ≡ (h && takes (role_in text) was.state) = had ∙ (ap (λ b. h && b) (was.in_state (takes role)) ∙ ap (λ (r : Role). h && takes r was.state) is_role) in
    record {
      state = next;
      in_state = λ test.
          moved test
          ∙ (ap (λ (b : Bool). in_states between before (λ st. test (if b then step role st else st)) c) same
          ∙ (kept (λ st. test (if h then step role st else st))
          ∙ (was.in_state (λ st. test (if h then step role st else st))
          ∙ ap (λ (r : Role). test (if h then step r was.state else was.state)) is_role)));
      places =
          ap (λ (ps : List ℕ). ps ++ left) (placing ∙ ap (λ (b : Bool). placed b i found) taken)
          ∙ (one_more (h && takes (role_in text) was.state) i found left
          ∙ (ap (λ (items : List (Cond × Token)). found ++ taken_from s names was.state i items c) (sym split) ∙ was.places));
    }

final_takes : (role : Role) (state : State) → is_final state ≡ true → takes role state ≡ false
final_takes role Alone final = absurd (cc)
final_takes role (Inside depth) final = absurd (cc)
final_takes role Closed final = refl
final_takes role Bare final = refl

final_step : (had : Bool) (role : Role) (state : State) → is_final state ≡ true → (if had then step role state else state) ≡ state
final_step had role Alone final = absurd (cc)
final_step had role (Inside depth) final = absurd (cc)
final_step true Opening Closed final = refl
final_step true Closing Closed final = refl
final_step true Other Closed final = refl
final_step false role Closed final = refl
final_step true Opening Bare final = refl
final_step true Closing Bare final = refl
final_step true Other Bare final = refl
final_step false role Bare final = refl

and_false : (a : Bool) → (a && false) ≡ false
and_false true = refl
and_false false = refl

-- a call that has ended takes nothing
pub taken_final : (s : Sets) (names : List (List ℕ)) (state : State) (n : ℕ) (items : List (Cond × Token)) (c : List ℕ) → is_final state ≡ true → taken_from s names state n items c ≡ []
taken_final s names state n [] c final = refl
taken_final s names state n (item ∷ items) c final =
    let role : Role = role_in (text_at names item.1.spelling.0) in
    let h : Bool = s.has item.0.0 c in
    let next : State = if h then step role state else state in
    ap (λ (b : Bool). if h && b then n ∷ taken_from s names next (n + 1) items c else taken_from s names next (n + 1) items c) (final_takes role state final)
    ∙ (ap (λ (b : Bool). if b then n ∷ taken_from s names next (n + 1) items c else taken_from s names next (n + 1) items c) (and_false h)
    ∙ (ap (λ (st : State). taken_from s names st (n + 1) items c) (final_step h role state final) ∙ taken_final s names state (n + 1) items c final))

module _ {s now : Sets} {names : List (List ℕ)} {tokens : List (Cond × Token)} {i : ℕ} {states : List Entry} {found answer c : List ℕ} where
  -- all items were read
  pub IsRead-all : length tokens ≤ i → IsRead s now names tokens i states found answer c → found ≡ answer
  IsRead-all past was =
      sym (append-nil found) ∙ (ap (λ (items : List (Cond × Token)). found ++ taken_from s names was.state i items c) (sym (drop_all i tokens past)) ∙ was.places)

  -- or no other can be of a call
  pub IsRead-final : All (λ (x : Entry). is_final x.state ≡ true) states → IsRead s now names tokens i states found answer c → found ≡ answer
  IsRead-final final was =
      let ended : is_final was.state ≡ true = sym (was.in_state is_final) ∙ (in_states-same now states is_final (λ st. true) c final ∙ was.in_state (λ st. true)) in
      sym (append-nil found) ∙ (ap (λ (ps : List ℕ). found ++ ps) (sym (taken_final s names was.state i (drop i tokens) c ended)) ∙ was.places)

-- a condition more
pub places_more : (now mid : Sets) (at i : ℕ) (items : List Cond) (item : Cond) (c : List ℕ) → at + length items ≡ i → places_from now at items c ≡ places_from mid at items c
    → places_from now at (items ++ item ∷ []) c ≡ placed (now.has item.0 c) i (places_from mid at items c)
places_more now mid at i items item c long kept =
    places_from-push now at items item c ∙ (ap (λ (k : ℕ). placed (now.has item.0 c) k (places_from now at items c)) long ∙ ap (λ (ps : List ℕ). placed (now.has item.0 c) i ps) kept)

-- the start, before any item
pub IsRead-start : (s : Sets) (names : List (List ℕ)) (tokens : List (Cond × Token)) (at : ℕ) (cond : Cond) (e : Entry) (c : List ℕ) → e.state ≡ Alone → e.cond ≡ cond → s.has cond.0 c ≡ true
    → IsRead s s names tokens (at + 1) (e ∷ []) (places_from s at (cond ∷ []) c) (at ∷ taken_from s names Alone (at + 1) (drop (at + 1) tokens) c) c
IsRead-start s names tokens at cond e c is is_cond had = record {
  state = Alone;
  in_state = λ test. ap (λ (st : State). (test st && s.has e.cond.0 c) || false) is ∙ (ap (λ (k : Cond). (test Alone && s.has k.0 c) || false) is_cond ∙ (ap (λ (b : Bool). (test Alone && b) || false) had ∙ plain (test Alone)));
  places = ap (λ (b : Bool). (if b then at ∷ [] else []) ++ taken_from s names Alone (at + 1) (drop (at + 1) tokens) c) had;
}
  where
    plain : (a : Bool) → ((a && true) || false) ≡ a
    plain true = refl
    plain false = refl
