-- Entries of a store: which configurations are in a state that passes a test.
use Rattle.std.proofs.Common.{◌≡◌, ℕ, zero, suc, ◌+◌, ◌-◌, ◌==◌, ◌<◌, ◌≤◌, ◌&&◌, ◌||◌, not, Bool, true, false, List, [], ◌∷◌, ◌++◌, All, length, take, drop, set, get_or, slice_get, Some, refl, ap, sym, subst, ◌∙◌, arith, if◌then◌else◌}
use Rattle.std.proofs.lemmas.List.{take_more, drop_more}
use Rattle.std.proofs.lemmas.Option.{slice_get_within, get_or_from_slice_get}
use Rattle.std.proofs.lemmas.List.Elements.{All-nil, All-head, All-tail, All-push}
use Rattle.sc_base.specs.declared.id.Cond.{Cond}
use Rattle.sc_hoist.specs.Reading.{AreEntries, depth_of, in_states, end_in, is_final, role_in, state_after, step}
use Rattle.sc_hoist.specs.declared.state.Role.{Role}
use Rattle.sc_hoist.specs.declared.state.State.{State}
use Rattle.sc_hoist.specs.declared.states.Entry.{Entry}
use Rattle.sc_model.specs.Sets.{Sets, IsConfig, IsCond, Keeps, Denotes}
use Rattle.sc_model.proofs.SetLemmas.{Keeps-trans, IsConfig-Keeps, IsConfig-kept, Denotes-Keeps}
use Rattle.sc_base.specs.declared.token.Token.{Token}
use Rattle.sc_hoist.specs.Calls.{CallEnd, call_end, is_end, spelled_at}
use Rattle.sc_base.specs.Seen.{text_at}
use Rattle.sc_hoist.specs.declared.state.Role.TheVariants.{Opening, Closing, Other}
use Rattle.sc_hoist.specs.declared.state.State.TheVariants.{Alone, Inside, Closed, Bare}
use Rattle.sc_hoist.proofs.CallLemmas.{end_in-after, final_stays}

or_assoc : (a b c : Bool) → ((a || b) || c) ≡ (a || (b || c))
or_assoc true b c = refl
or_assoc false b c = refl

or_false : (a : Bool) → (a || false) ≡ a
or_false true = refl
or_false false = refl

pub in_states-append : (s : Sets) (xs ys : List Entry) (test : State → Bool) (c : List ℕ) → in_states s (xs ++ ys) test c ≡ (in_states s xs test c || in_states s ys test c)
in_states-append s [] ys test c = refl
in_states-append s (x ∷ xs) ys test c =
    ap (λ b. (test x.state && s.has x.cond.0 c) || b) (in_states-append s xs ys test c) ∙ sym (or_assoc (test x.state && s.has x.cond.0 c) (in_states s xs test c) (in_states s ys test c))

-- one entry more
pub in_states-push : (s : Sets) (xs : List Entry) (x : Entry) (test : State → Bool) (c : List ℕ) → in_states s (xs ++ x ∷ []) test c ≡ (in_states s xs test c || (test x.state && s.has x.cond.0 c))
in_states-push s xs x test c = in_states-append s xs (x ∷ []) test c ∙ ap (λ b. in_states s xs test c || b) (or_false (test x.state && s.has x.cond.0 c))

pub in_states-take : (s : Sets) (xs : List Entry) (i : ℕ) (x : Entry) (test : State → Bool) (c : List ℕ) → i < length xs
    → in_states s (take (i + 1) xs) test c ≡ (in_states s (take i xs) test c || (test (get_or xs i x).state && s.has (get_or xs i x).cond.0 c))
in_states-take s xs i x test c within = ap (λ (es : List Entry). in_states s es test c) (take_more xs i x within) ∙ in_states-push s (take i xs) (get_or xs i x) test c

-- entries whose conditions the store keeps have the configurations that they had
pub in_states-Keeps : {old new : Sets} (xs : List Entry) (test : State → Bool) (c : List ℕ) → Keeps old new → All (λ (x : Entry). IsCond old x.cond.0) xs → IsConfig old.arities c → in_states new xs test c ≡ in_states old xs test c
in_states-Keeps [] test c keeps own listed = refl
in_states-Keeps {old} {new} (x ∷ xs) test c keeps own listed =
    let P : Entry → Type 0 = λ x. IsCond old x.cond.0 in
    ap (λ b. (test x.state && b) || in_states new xs test c) (keeps.at x.cond.0 c (All-head P x xs own) listed)
    ∙ ap (λ b. (test x.state && old.has x.cond.0 c) || b) (in_states-Keeps xs test c keeps (All-tail P x xs own) listed)

pub AreEntries-nil : (s : Sets) → AreEntries s []
AreEntries-nil s = record { own = All-nil (λ (x : Entry). IsCond s x.cond.0) }

pub AreEntries-push : {s : Sets} (xs : List Entry) (x : Entry) → AreEntries s xs → IsCond s x.cond.0 → AreEntries s (xs ++ x ∷ [])
AreEntries-push {s} xs x were own = record { own = All-push (λ (x : Entry). IsCond s x.cond.0) xs x were.own own }

pub AreEntries-Keeps : {old new : Sets} {xs : List Entry} → Keeps old new → AreEntries old xs → AreEntries new xs
AreEntries-Keeps keeps were = record { own = λ k d h. keeps.own _ (were.own k d h) }

-- configurations joined to an entry of their state
pub in_states-set : (s : Sets) (xs : List Entry) (i : ℕ) (e : Entry) (x : Entry) (more : Bool) (test : State → Bool) (c : List ℕ) → i < length xs → (get_or xs i x).state ≡ e.state → s.has e.cond.0 c ≡ (s.has (get_or xs i x).cond.0 c || more)
    → in_states s (set xs i e) test c ≡ (in_states s xs test c || (test e.state && more))
in_states-set s [] i e x more test c within same joined = absurd (omega arith)
in_states-set s (y ∷ ys) zero e x more test c within same joined =
    ap (λ b. (test e.state && b) || in_states s ys test c) joined
    ∙ (here (test e.state) (s.has y.cond.0 c) more (in_states s ys test c) ∙ ap (λ (st : State). ((test st && s.has y.cond.0 c) || in_states s ys test c) || (test e.state && more)) (sym same))
  where
    here : (t a b r : Bool) → ((t && (a || b)) || r) ≡ (((t && a) || r) || (t && b))
    here true true b r = refl
    here true false true true = refl
    here true false true false = refl
    here true false false true = refl
    here true false false false = refl
    here false a b true = refl
    here false a b false = refl
in_states-set s (y ∷ ys) (suc i) e x more test c within same joined =
    ap (λ b. (test y.state && s.has y.cond.0 c) || b) (in_states-set s ys i e x more test c (omega arith) same joined)
    ∙ sym (or_assoc (test y.state && s.has y.cond.0 c) (in_states s ys test c) (test e.state && more))

-- both parts of an entry, and the whole
pub parted : (test : State → Bool) (before next : State) (whole item : Bool)
    → ((test before && (whole && not item)) || (test next && (whole && item))) ≡ (test (if item then next else before) && whole)
parted test before next true true = by (test before) (test next)
  where
    by : (a b : Bool) → ((a && false) || (b && true)) ≡ (b && true)
    by true b = refl
    by false b = refl
parted test before next true false = by (test before) (test next)
  where
    by : (a b : Bool) → ((a && true) || (b && false)) ≡ (a && true)
    by true b = refl
    by false true = refl
    by false false = refl
parted test before next false item = by (test before) (test next) (test (if item then next else before))
  where
    by : (a b c : Bool) → ((a && false) || (b && false)) ≡ (c && false)
    by true true true = refl
    by true true false = refl
    by true false true = refl
    by true false false = refl
    by false true true = refl
    by false true false = refl
    by false false true = refl
    by false false false = refl

-- added one after the other
pub both_parts : (test : State → Bool) (before next : State) (whole item found mid all lacking having : Bool) → mid ≡ (found || (test before && lacking)) → all ≡ (mid || (test next && having))
    → lacking ≡ (whole && not item) → having ≡ (whole && item) → all ≡ (found || (test (if item then next else before) && whole))
both_parts test before next whole item found mid all lacking having first second is_lacking is_having =
    second ∙ (ap (λ b. b || (test next && having)) first ∙ (ap (λ b. (found || (test before && b)) || (test next && having)) is_lacking ∙ (ap (λ b. (found || (test before && (whole && not item))) || (test next && b)) is_having
    ∙ (or_assoc found (test before && (whole && not item)) (test next && (whole && item)) ∙ ap (λ b. found || b) (parted test before next whole item)))))

-- a test that says the same of each entry's state
pub in_states-same : (s : Sets) (xs : List Entry) (one two : State → Bool) (c : List ℕ) → All (λ (x : Entry). one x.state ≡ two x.state) xs → in_states s xs one c ≡ in_states s xs two c
in_states-same s [] one two c same = refl
in_states-same s (x ∷ xs) one two c same =
    let P : Entry → Type 0 = λ x. one x.state ≡ two x.state in
    ap (λ b. (b && s.has x.cond.0 c) || in_states s xs one c) (All-head P x xs same) ∙ ap (λ b. (two x.state && s.has x.cond.0 c) || b) (in_states-same s xs one two c (All-tail P x xs same))

-- a token that changes no state changes none where the item is had
pub unmoved : (test : State → Bool) (had : Bool) (before next : State) → next ≡ before → test before ≡ test (if had then next else before)
unmoved test true before next same = ap test (sym same)
unmoved test false before next same = refl

pub and_comm : (a b : Bool) → (a && b) ≡ (b && a)
and_comm true true = refl
and_comm true false = refl
and_comm false true = refl
and_comm false false = refl

-- one entry, at the start
pub in_states-one : (s : Sets) (e : Entry) (test : State → Bool) (c : List ℕ) → in_states s (e ∷ []) test c ≡ (s.has e.cond.0 c && test e.state)
in_states-one s e test c = or_false (test e.state && s.has e.cond.0 c) ∙ and_comm (test e.state) (s.has e.cond.0 c)

-- entries of final states read the rest without a change
pub in_states-final : (s t : Sets) (names : List (List ℕ)) (items : List (Cond × Token)) (entries : List Entry) (test : State → Bool) (c : List ℕ) → All (λ (x : Entry). is_final x.state ≡ true) entries
    → in_states t entries test c ≡ in_states t entries (λ st. test (state_after s names items c st)) c
in_states-final s t names items entries test c final =
    in_states-same t entries test (λ st. test (state_after s names items c st)) c (λ k x within. ap test (sym (final_stays s names items c (get_or entries k x).state (final k x within))))

-- the configurations whose call goes on in this way
pub Denotes-end : {s mid before made last : Sets} {a : ℕ} (cond : ℕ) (names : List (List ℕ)) (items : List (Cond × Token)) (end : CallEnd) (entries : List Entry) → Keeps s mid → AreEntries mid entries
    → ((test : State → Bool) (c : List ℕ) → IsConfig s.arities c → in_states mid entries test c ≡ (s.has cond c && test (state_after s names items c Alone)))
    → Keeps mid before → Keeps before made → Denotes made a (λ c. in_states before entries (λ st. is_end end (end_in st)) c) → Keeps made last
    → Denotes last a (λ c. s.has cond c && is_end end (call_end (spelled_at s names items c)))
Denotes-end {s} {mid} {before} {made} {last} {a} cond names items end entries start own states first making told later = record {
  own = later.own a told.own;
  at = λ c listed.
      let all = Keeps-trans start (Keeps-trans first (Keeps-trans making later)) in
      let was = IsConfig-kept all listed in
      let test : State → Bool = λ st. is_end end (end_in st) in
      (Denotes-Keeps later told).at c listed
      ∙ (in_states-Keeps entries test c first own.own (IsConfig-Keeps start was)
      ∙ (states test c was ∙ ap (λ (e : CallEnd). s.has cond c && is_end end e) (end_in-after s names items c Alone)));
}

-- the entries that were read, and one more
pub advanced : (s mid : Sets) (xs : List Entry) (i : ℕ) (entry : Entry) (item : ℕ) (role : Role) (test : State → Bool) (c : List ℕ) (found all : Bool) → Keeps s mid → AreEntries s xs → IsCond s item → IsConfig s.arities c → i < length xs → entry ≡ get_or xs i entry
    → found ≡ in_states s (take i xs) (λ st. test (if s.has item c then step role st else st)) c
    → all ≡ (found || (test (if mid.has item c then step role entry.state else entry.state) && mid.has entry.cond.0 c))
    → all ≡ in_states s (take (i + 1) xs) (λ st. test (if s.has item c then step role st else st)) c
advanced s mid xs i entry item role test c found all keeps were own listed within read first second =
    let f : State → Bool = λ st. test (if s.has item c then step role st else st) in
    let entry_own : IsCond s entry.cond.0 = subst (λ (e : Entry). IsCond s e.cond.0) (sym read) (were.own i entry within) in
    second
    ∙ (ap (λ b. found || (test (if b then step role entry.state else entry.state) && mid.has entry.cond.0 c)) (keeps.at item c own listed)
    ∙ (ap (λ b. found || (f entry.state && b)) (keeps.at entry.cond.0 c entry_own listed)
    ∙ (ap (λ b. b || (f entry.state && s.has entry.cond.0 c)) first
    ∙ (ap (λ (e : Entry). in_states s (take i xs) f c || (f e.state && s.has e.cond.0 c)) read ∙ sym (in_states-take s xs i entry f c within)))))

-- one item more that was read
pub read_more : (s mid new : Sets) (names : List (List ℕ)) (tokens : List (Cond × Token)) (i : ℕ) (item : Cond × Token) (role : Role) (before made : List Entry) (test : State → Bool) (c : List ℕ) (answer : Bool) → slice_get tokens i ≡ Some item
    → role ≡ role_in (text_at names item.1.spelling.0) → mid.has item.0.0 c ≡ s.has item.0.0 c → in_states mid before (λ st. test (state_after s names (drop i tokens) c st)) c ≡ answer
    → ((test : State → Bool) → in_states new made test c ≡ in_states mid before (λ st. test (if mid.has item.0.0 c then step role st else st)) c)
    → in_states new made (λ st. test (state_after s names (drop (i + 1) tokens) c st)) c ≡ answer
read_more s mid new names tokens i item role before made test c answer is is_role same was moved =
    let rest : List (Cond × Token) = drop (i + 1) tokens in
    let split : drop i tokens ≡ item ∷ rest = drop_more tokens i item (slice_get_within tokens i item is) ∙ ap (λ (x : Cond × Token). x ∷ rest) (get_or_from_slice_get tokens i item item is) in
    moved (λ st. test (state_after s names rest c st))
    ∙ (ap (λ (b : Bool). in_states mid before (λ st. test (state_after s names rest c (if b then step role st else st))) c) same
    ∙ (ap (λ (r : Role). in_states mid before (λ st. test (state_after s names rest c (if s.has item.0.0 c then step r st else st))) c) is_role
    ∙ (ap (λ (xs : List (Cond × Token)). in_states mid before (λ st. test (state_after s names xs c st)) c) (sym split) ∙ was)))

-- a token opens one parenthesis at most
pub depth_of-step : (role : Role) (state : State) → depth_of (step role state) ≤ depth_of state + 1
depth_of-step Opening Alone = omega arith
depth_of-step Closing Alone = omega arith
depth_of-step Other Alone = omega arith
depth_of-step Opening (Inside depth) = omega arith
depth_of-step Closing (Inside depth) = by (depth == 0)
  where
    by : (b : Bool) → depth_of (if b then Closed else Inside (depth - 1)) ≤ depth + 1
    by true = omega arith
    by false = omega arith
depth_of-step Other (Inside depth) = omega arith
depth_of-step Opening Closed = omega arith
depth_of-step Closing Closed = omega arith
depth_of-step Other Closed = omega arith
depth_of-step Opening Bare = omega arith
depth_of-step Closing Bare = omega arith
depth_of-step Other Bare = omega arith
