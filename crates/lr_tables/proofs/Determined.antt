-- Two tables of one grammar are equal.
use Rattle.std.proofs.Common.{zero, suc, ◌≡◌, ◌<◌, ◌≤◌, ◌+◌, ◌⊎◌, ℕ, List, [], ◌∷◌, length, get_or, slice_get, Option, Some, None, MatchOption, inl, inr, refl, sym, ap, ◌∙◌, subst, arith}
use Rattle.std.proofs.lemmas.List.Elements.{Contains-get_or}
use Rattle.std.proofs.lemmas.Option.{same_Some, slice_get_within}
use Rattle.std.proofs.lemmas.Bool.{cases_lt}
use Rattle.lr_tables.specs.Tables.{AreSame, AreTables, ConflictBefore, IsAction, IsConflict, IsGoto, IsLeastPair, IsStates, Moved, NoGoto, Tables, Before, shifts, reduces, none}
use Rattle.lr_tables.specs.declared.grammar.Action.{Action}
use Rattle.lr_tables.specs.declared.grammar.Action.TheVariants.{Shift, Reduce}
use Rattle.lr_tables.specs.declared.grammar.Grammar.{Grammar}
use Rattle.lr_tables.proofs.Members.{ordered_same, rising_same, slice_some}
use Rattle.lr_tables.proofs.Pairs.{before_cycle, before_or_not, conflict_cycle}

-- ---- gotos
-- a goto has a member
pub goto_member : (g : Grammar) (states : List (List ℕ)) (s x t : ℕ) (h : IsGoto g states s x t) → Moved g h.source x (get_or h.target 0 0)
goto_member g states s x t h = (h.moved (get_or h.target 0 0)).0 (Contains-get_or h.target 0 0 h.some)

-- gotos of one item set by one symbol are one item set
target_same : (g : Grammar) (a b : List (List ℕ)) (s r x t u : ℕ) → IsStates g a → IsStates g b → (h : IsGoto g a s x t) (k : IsGoto g b r x u) → h.source ≡ k.source → h.target ≡ k.target
target_same g a b s r x t u p q h k e =
    rising_same h.target k.target (p.rising t h.target h.target_at) (q.rising u k.target k.target_at)
    (λ v w. (k.moved v).1 (subst (λ zs. Moved g zs x v) e ((h.moved v).0 w)))
    (λ v w. (h.moved v).1 (subst (λ zs. Moved g zs x v) (sym e) ((k.moved v).0 w)))

-- a state has one goto by a symbol
pub goto_unique : (g : Grammar) (states : List (List ℕ)) (s x r t : ℕ) → IsStates g states → IsGoto g states s x r → IsGoto g states s x t → r ≡ t
goto_unique g states s x r t h a b =
    let same = target_same g states states s s x r t h h a b (same_Some a.source b.source (sym a.source_at ∙ b.source_at)) in
    h.different.same r t b.target (a.target_at ∙ ap (λ zs. Some zs) same) b.target_at

-- ---- states
-- the first n states are the same
abbrev Agree : List (List ℕ) → List (List ℕ) → ℕ → Type 0
Agree a b n = (i : ℕ) → i < n → slice_get a i ≡ slice_get b i

record Follows (g : Grammar) (a b : List (List ℕ)) (s x n : ℕ) : Type 0 where
  state : ℕ
  goto : IsGoto g b s x state
  same : slice_get b state ≡ slice_get a n

-- a goto in the one list is one in the other, to the same state
follows : (g : Grammar) (a b : List (List ℕ)) (n s x t : ℕ) → IsStates g a → IsStates g b → Agree a b n → s < n → IsGoto g a s x t → Follows g a b s x t
follows g a b n s x t p q agree below h =
    let source_at : slice_get b s ≡ Some h.source = sym (agree s below) ∙ h.source_at in
    let other = q.closed s x (get_or h.target 0 0) h.source source_at (goto_member g a s x t h) in
    let k = other.1 in
    let same : k.target ≡ h.target = target_same g b a s s x other.0 t q p k h (same_Some k.source h.source (sym k.source_at ∙ source_at)) in
    record { state = other.0; goto = k; same = k.target_at ∙ ap (λ zs. Some zs) same ∙ sym h.target_at }

-- a state that agrees with a state of the first n and stands in the same list is that one
not_earlier : (g : Grammar) (a b : List (List ℕ)) (n t : ℕ) (kernel : List ℕ) → IsStates g a → Agree a b n → t < n → slice_get a n ≡ Some kernel → slice_get b t ≡ Some kernel → ⊥
not_earlier g a b n t kernel p agree below at same =
    let e : t ≡ n = p.different.same t n kernel (agree t below ∙ same) at in
    omega arith

-- the least pair of a later state of which a pair of an earlier state leads is not after that pair
later_than : (g : Grammar) (b : List (List ℕ)) (n t s x r y : ℕ) → IsStates g b → IsLeastPair g b n r y → n < t → s < n → IsGoto g b s x t → Before r y s x
later_than g b n t s x r y q least above below goto =
    let found = q.found t (omega arith) (slice_get_within b t goto.target goto.target_at) in
    let first = found.1.1 in
    let before : Before r y found.0 found.1.0 = q.in_order n t r y found.0 found.1.0 above least first in
    before_or_not found.0 found.1.0 s x (λ early. first.least s x goto (omega arith) early) r y before

next_same : (g : Grammar) (a b : List (List ℕ)) (n : ℕ) → IsStates g a → IsStates g b → Agree a b n → Agree b a n → 0 < n → n < length a → slice_get b n ≡ slice_get a n
next_same g a b n p q agree back pos within =
    let found = p.found n pos within in
    let s = found.0 in
    let x = found.1.0 in
    let least = found.1.1 in
    let f = follows g a b n s x n p q agree least.earlier least.leads in
    go s x least f (cases_lt f.state n) (cases_lt n f.state)
  where
    go : (s x : ℕ) → IsLeastPair g a n s x → (f : Follows g a b s x n) → (f.state < n) ⊎ (n ≤ f.state) → (n < f.state) ⊎ (f.state ≤ n) → slice_get b n ≡ slice_get a n
    go s x least f (inl earlier) other = absurd (not_earlier g a b n f.state least.leads.target p agree earlier least.leads.target_at (f.same ∙ least.leads.target_at))
    go s x least f (inr u) (inr v) = let e : f.state ≡ n = omega arith in subst (λ z. slice_get b z ≡ slice_get a n) e f.same
    go s x least f (inr u) (inl later) =
        let n_in : n < length b = omega (arith, slice_get_within b f.state f.goto.target f.goto.target_at) in
        let found = q.found n pos n_in in
        let first = found.1.1 in
        let earlier : Before found.0 found.1.0 s x = later_than g b n f.state s x found.0 found.1.0 q first later least.earlier f.goto in
        let h = follows g b a n found.0 found.1.0 n q p back first.earlier first.leads in
        absurd (wrong found.0 found.1.0 first earlier h (cases_lt h.state n) (cases_lt n h.state))
      where
        wrong : (r y : ℕ) → IsLeastPair g b n r y → Before r y s x → (h : Follows g b a r y n) → (h.state < n) ⊎ (n ≤ h.state) → (n < h.state) ⊎ (h.state ≤ n) → ⊥
        wrong r y first earlier h (inl below) other = not_earlier g b a n h.state first.leads.target q back below first.leads.target_at (h.same ∙ first.leads.target_at)
        wrong r y first earlier h (inr c) (inr d) = let e : h.state ≡ n = omega arith in least.least r y (subst (λ z. IsGoto g a r y z) e h.goto) first.earlier earlier
        wrong r y first earlier h (inr c) (inl above) = before_cycle r y s x earlier (later_than g a n h.state r y s x p least above first.earlier h.goto)

first_same : (g : Grammar) (a b : List (List ℕ)) → IsStates g a → IsStates g b → slice_get b 0 ≡ slice_get a 0
first_same g a b p q =
    let same : q.first ≡ p.first = rising_same q.first p.first (q.rising 0 q.first q.first_at) (p.rising 0 p.first p.first_at) (λ v w. (p.starts v).1 ((q.starts v).0 w)) (λ v w. (q.starts v).1 ((p.starts v).0 w)) in
    q.first_at ∙ ap (λ zs. Some zs) same ∙ sym p.first_at

some_within : (a b : List (List ℕ)) (n : ℕ) → n < length a → slice_get b n ≡ slice_get a n → n < length b
some_within a b n h e = let x = slice_some a n h in slice_get_within b n x.0 (e ∙ x.1)

agrees : (g : Grammar) (a b : List (List ℕ)) → IsStates g a → IsStates g b → (n : ℕ) → n ≤ length a → Agree a b n
agrees g a b p q zero h = λ i below. absurd (omega (arith, below))
agrees g a b p q (suc n) h = go (agrees g a b p q n (omega (arith, h))) (cases_lt 0 n)
  where
    go : Agree a b n → (0 < n) ⊎ (n ≤ 0) → Agree a b (suc n)
    go agree (inl pos) = λ i below. elim (cases_lt i n) [ inl u ↦ agree i u | inr u ↦ (let e : n ≡ i = omega arith in subst (λ z. slice_get a z ≡ slice_get b z) e (sym (next_same g a b n p q agree (λ j w. sym (agree j w)) pos (omega (arith, h))))) ]
    go agree (inr z) = λ i below. (let e : 0 ≡ i = omega arith in subst (λ z. slice_get a z ≡ slice_get b z) e (sym (first_same g a b p q)))

ext : (a b : List (List ℕ)) → length a ≡ length b → Agree a b (length a) → a ≡ b
ext [] [] h e = refl
ext [] (y ∷ b) h e = absurd (omega (arith, h))
ext (x ∷ a) [] h e = absurd (omega (arith, h))
ext (x ∷ a) (y ∷ b) h e = ap (λ z. z ∷ a) (same_Some x y (e 0 (omega arith))) ∙ ap (λ zs. y ∷ zs) (ext a b (omega (arith, h)) (λ i below. e (suc i) (omega (arith, below))))

no_longer : (g : Grammar) (a b : List (List ℕ)) → IsStates g a → IsStates g b → length a ≤ length b
no_longer g a b p q = elim (cases_lt (length b) (length a)) [
  | inl h ↦ (let x = slice_some a (length b) h in absurd (absurd_past (slice_get_within b (length b) x.0 (sym (agrees g a b p q (length a) (omega arith) (length b) h) ∙ x.1))))
  | inr h ↦ h
]
  where
    absurd_past : length b < length b → ⊥
    absurd_past h = omega (arith, h)

pub states_same : (g : Grammar) (a b : List (List ℕ)) → IsStates g a → IsStates g b → a ≡ b
states_same g a b p q = let u = no_longer g a b p q in let v = no_longer g b a q p in ext a b (omega arith) (agrees g a b p q (length a) (omega arith))

-- ---- actions
pub action_unique : (g : Grammar) (states : List (List ℕ)) (s t : ℕ) → (a b : Option Action) → IsStates g states → IsAction g states s t a → IsAction g states s t b → a ≡ b
action_unique g states s t a b are (shifts r h) (shifts q k) = ap (λ z. Some (Shift z)) (goto_unique g states s t r q are h k)
action_unique g states s t a b are (shifts r h) (reduces p stay can least) = absurd (stay r h)
action_unique g states s t a b are (shifts r h) (none stay never) = absurd (stay r h)
action_unique g states s t a b are (reduces p stay can least) (shifts q k) = absurd (stay q k)
action_unique g states s t a b are (reduces p stay can least) (reduces q stay2 can' least') = let x = least q can' in let y = least' p can in let e : p ≡ q = omega arith in ap (λ z. Some (Reduce z)) e
action_unique g states s t a b are (reduces p stay can least) (none stay2 never) = absurd (never p can)
action_unique g states s t a b are (none stay never) (shifts q k) = absurd (stay q k)
action_unique g states s t a b are (none stay never) (reduces q stay2 can' least') = absurd (never q can')
action_unique g states s t a b are (none stay never) (none stay2 never') = refl

-- ---- tables
gotos_same : (g : Grammar) (states : List (List ℕ)) (s x : ℕ) → IsStates g states → (a b : Option ℕ)
    → MatchOption a (NoGoto g states s x) (IsGoto g states s x) → MatchOption b (NoGoto g states s x) (IsGoto g states s x) → a ≡ b
gotos_same g states s x are None None h k = refl
gotos_same g states s x are None (Some t) h k = absurd (h.none t k)
gotos_same g states s x are (Some r) None h k = absurd (k.none r h)
gotos_same g states s x are (Some r) (Some t) h k = ap (λ z. Some z) (goto_unique g states s x r t are h k)

pub tables_same : (g : Grammar) (a b : Tables) → AreTables g a → AreTables g b → AreSame g a b
tables_same g a b h k =
    let states : b.states ≡ a.states = states_same g b.states a.states k.are_states h.are_states in
    record {
      states = sym states;
      actions = λ s t t_in. action_unique g a.states s t (a.action s t) (b.action s t) h.are_states (h.action s t t_in)
          (subst (λ z. IsAction g z s t (b.action s t)) states (k.action s t t_in));
      gotos = λ s n n_in. gotos_same g a.states s (g.terminals + n) h.are_states (a.goto s n) (b.goto s n) (h.goto s n n_in)
          (subst (λ z. MatchOption (b.goto s n) (NoGoto g z s (g.terminals + n)) (IsGoto g z s (g.terminals + n))) states (k.goto s n n_in));
      conflicts = ordered_same ConflictBefore conflict_cycle a.conflicts b.conflicts h.in_order k.in_order
          (λ c w. (k.conflict c).1 (subst (λ z. IsConflict g z c) (sym states) ((h.conflict c).0 w)))
          (λ c w. (h.conflict c).1 (subst (λ z. IsConflict g z c) states ((k.conflict c).0 w)));
    }
