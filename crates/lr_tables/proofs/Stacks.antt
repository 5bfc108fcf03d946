-- What stands on a stack of states.
use Rattle.std.proofs.Common.{zero, suc, ◌≡◌, ◌<◌, ◌≤◌, ◌+◌, ◌-◌, ℕ, List, [], ◌∷◌, length, drop, get_or, slice_get, IsTrue, Option, Some, None, inl, inr, refl, sym, ap, ◌∙◌, subst, arith}
use Rattle.std.specs.List.{Contains}
use Rattle.std.specs.Prelude.{option_and_then}
use Rattle.std.proofs.lemmas.Option.{same_Some, none-some}
use Rattle.std.proofs.lemmas.Bool.{cases_lt, true≢false}
use Rattle.lr_tables.specs.Grammar.{after, begun, right_in, left_in, Ends, IsStart, all_filled, IsGrammar}
use Rattle.lr_tables.specs.Tables.{Closure, given, opened, Moved, IsGoto, IsStates, Lookahead, spontaneous, moved, CanReduce}
use Rattle.lr_tables.specs.Tables as tables
use Rattle.lr_tables.specs.Paths.{top, Path, lowest, above, StartsApart, Reduces}
use Rattle.lr_tables.specs.declared.grammar.Entry.{Entry}
use Rattle.lr_tables.specs.declared.grammar.Entry.TheVariants.{Left, Right}
use Rattle.lr_tables.specs.declared.grammar.Grammar.{Grammar}
use Rattle.lr_tables.proofs.Determined.{goto_member}

-- ---- one symbol for each state
pub one_symbol : (g : Grammar) (states : List (List ℕ)) (s r x y t : ℕ) → IsGoto g states s x t → IsGoto g states r y t → x ≡ y
one_symbol g states s r x y t a b =
    let m = goto_member g states s x t a in
    let same : b.target ≡ a.target = same_Some b.target a.target (sym b.target_at ∙ a.target_at) in
    let n = goto_member g states r y t b in
    let e : m.from ≡ n.from = omega (arith, m.to, n.to, ap (λ zs. get_or zs 0 0) same) in
    same_Some x y (sym m.over ∙ ap (after g) e ∙ n.over)

pub same_symbols : (g : Grammar) (states : List (List ℕ)) (stack xs ys : List ℕ) → Path g states stack xs → Path g states stack ys → xs ≡ ys
same_symbols g states _ _ _ lowest lowest = refl
same_symbols g states _ _ _ (above t x stack xs a p) (above _ y _ ys b q) =
    ap (λ z. z ∷ xs) (one_symbol g states (top stack) (top stack) x y t a b) ∙ ap (λ zs. y ∷ zs) (same_symbols g states stack xs ys p q)

-- ---- where the production of an item begins
no_value : {x : ℕ} → None ≡ Some x → ⊥
no_value {x} e = none-some x e

-- an entry is of the one kind or of the other
pub not_both : (terminals x y : ℕ) (e : Option Entry) → option_and_then (right_in terminals) e ≡ Some x → option_and_then (left_in terminals) e ≡ Some y → ⊥
not_both terminals x y None a b = no_value b
not_both terminals x y (Some (Left n mark)) a b = no_value a
not_both terminals x y (Some (Right s)) a b = no_value b

-- the item has its dot behind n symbols of the production that begins at b
pub record Behind (g : Grammar) (i b n : ℕ) : Type 0 where
  pub left : ℕ
  pub begins : begun g b ≡ Some left
  pub place : b + n ≡ i
  pub symbols : (k : ℕ) → k < n → (x : ℕ) × (after g (b + k) ≡ Some x)

abbrev behind_itself : (g : Grammar) (i x : ℕ) → begun g i ≡ Some x → Behind g i i 0
behind_itself g i x h = record { left = x; begins = h; place = omega arith; symbols = λ k below. absurd (omega (arith, below)) }

abbrev behind_more : (g : Grammar) (i b n x : ℕ) → after g i ≡ Some x → Behind g i b n → Behind g (i + 1) b (suc n)
behind_more g i b n x h d = record {
  left = d.left;
  begins = d.begins;
  place = omega (arith, d.place);
  symbols = λ k below. elim (cases_lt k n) [
    | inl lower ↦ d.symbols k lower
    | inr over ↦ (x, ap (after g) (let e : b + k ≡ i = omega (arith, d.place) in e) ∙ h)
  ];
}

no_longer : (g : Grammar) (i b c n o : ℕ) → Behind g i b n → Behind g i c o → n < o → ⊥
no_longer g i b c n o d e less =
    let k = o - suc n in
    let x = e.symbols k (omega arith) in
    let at : c + k + 1 ≡ b = omega (arith, d.place, e.place) in
    not_both g.terminals x.0 d.left (slice_get g.entries.now (c + k + 1)) x.1 (ap (begun g) at ∙ d.begins)

one_beginning : (g : Grammar) (i b c n o : ℕ) → Behind g i b n → Behind g i c o → b ≡ c
one_beginning g i b c n o d e = elim (cases_lt n o) [
  | inl less ↦ absurd (no_longer g i b c n o d e less)
  | inr other ↦ elim (cases_lt o n) [
    | inl more ↦ absurd (no_longer g i c b o n e d more)
    | inr same ↦ omega (arith, d.place, e.place)
  ]
]

-- ---- the state below a right side
pub record Below (g : Grammar) (states : List (List ℕ)) (stack symbols : List ℕ) (i : ℕ) : Type 0 where
  pub first : ℕ
  pub size : ℕ
  pub behind : Behind g i first size
  pub high : size ≤ length stack
  pub on_top : (k : ℕ) → k < size → slice_get symbols k ≡ after g (i - suc k)
  pub kernel : List ℕ
  pub kernel_at : slice_get states (top (drop size stack)) ≡ Some kernel
  pub within : Closure g kernel first

below_itself : (g : Grammar) (states : List (List ℕ)) (stack symbols kernel : List ℕ) (i x : ℕ) → slice_get states (top stack) ≡ Some kernel → Closure g kernel i → begun g i ≡ Some x
    → Below g states stack symbols i
below_itself g states stack symbols kernel i x at within h = record {
  first = i;
  size = 0;
  behind = behind_itself g i x h;
  high = omega arith;
  on_top = λ k low. absurd (omega (arith, low));
  kernel = kernel;
  kernel_at = at;
  within = within;
}

below_more : (g : Grammar) (states : List (List ℕ)) (t x i m : ℕ) (stack symbols : List ℕ) → after g i ≡ Some x → m ≡ i + 1 → Below g states stack symbols i
    → Below g states (t ∷ stack) (x ∷ symbols) m
below_more g states t x i m stack symbols h to d = record {
  first = d.first;
  size = suc d.size;
  behind = subst (λ z. Behind g z d.first (suc d.size)) (sym to) (behind_more g i d.first d.size x h d.behind);
  high = omega (arith, d.high);
  on_top = on_top;
  kernel = d.kernel;
  kernel_at = d.kernel_at;
  within = d.within;
}
  where
    on_top : (k : ℕ) → k < suc d.size → slice_get (x ∷ symbols) k ≡ after g (m - suc k)
    on_top zero low = sym h ∙ ap (after g) (let e : i ≡ m - 1 = omega (arith, to) in e)
    on_top (suc k) low = d.on_top k (omega (arith, low)) ∙ ap (after g) (let e : i - suc k ≡ m - suc (suc k) = omega (arith, to) in e)

pub climb : (g : Grammar) (states : List (List ℕ)) → IsStates g states → (stack symbols kernel : List ℕ) (i : ℕ) → Path g states stack symbols → slice_get states (top stack) ≡ Some kernel
    → Closure g kernel i → Below g states stack symbols i
climb g states are stack symbols kernel j path at (opened i _ x c over begins) = below_itself g states stack symbols kernel j x at (opened i j x c over begins) begins
climb g states are _ _ kernel i lowest at (given _ h) =
    let start = (are.starts i).0 (subst (λ zs. Contains zs i) (same_Some kernel are.first (sym at ∙ are.first_at)) h) in
    below_itself g states [] [] kernel i start.symbol at (given i h) start.begins
climb g states are _ _ kernel i (above t x stack symbols goto path) at (given _ h) =
    let m = (goto.moved i).0 (subst (λ zs. Contains zs i) (same_Some kernel goto.target (sym at ∙ goto.target_at)) h) in
    below_more g states t x m.from i stack symbols m.over m.to (climb g states are stack symbols goto.source m.from path goto.source_at m.within)

-- ---- lookaheads
record InState (g : Grammar) (states : List (List ℕ)) (s i : ℕ) : Type 0 where
  kernel : List ℕ
  at : slice_get states s ≡ Some kernel
  within : Closure g kernel i

in_state : (g : Grammar) (states : List (List ℕ)) (t s j : ℕ) → Lookahead g states t s j → InState g states s j
in_state g states t s j (spontaneous _ i _ x y kernel at within over next first begins) = record { kernel = kernel; at = at; within = opened i j x within over begins }
in_state g states t s j (tables.opened _ i _ x ahead over last begins) =
    let below = in_state g states t s i ahead in
    record { kernel = below.kernel; at = below.at; within = opened i j x below.within over begins }
in_state g states t r _ (moved s i x _ ahead over goto) =
    let below = in_state g states t s i ahead in
    let same : below.kernel ≡ goto.source = same_Some below.kernel goto.source (sym below.at ∙ goto.source_at) in
    record { kernel = goto.target; at = goto.target_at; within = given (i + 1) ((goto.moved (i + 1)).1 (record { from = i; within = subst (λ zs. Closure g zs i) same below.within; over = over; to = refl })) }

-- the item of a lookahead belongs to a production whose left side stands after a dot
record Wanted (g : Grammar) (i : ℕ) : Type 0 where
  first : ℕ
  size : ℕ
  behind : Behind g i first size
  item : ℕ
  before : after g item ≡ Some behind.left

wanted : (g : Grammar) (states : List (List ℕ)) (t s j : ℕ) → Lookahead g states t s j → Wanted g j
wanted g states t s j (spontaneous _ i _ x y kernel at within over next first begins) = record { first = j; size = 0; behind = behind_itself g j x begins; item = i; before = over }
wanted g states t s j (tables.opened _ i _ x ahead over last begins) = record { first = j; size = 0; behind = behind_itself g j x begins; item = i; before = over }
wanted g states t r _ (moved s i x _ ahead over goto) =
    let w = wanted g states t s i ahead in
    record { first = w.first; size = suc w.size; behind = behind_more g i w.first w.size x over w.behind; item = w.item; before = w.before }

-- ---- reductions
filled_at : (terminals left : ℕ) (entries : List Entry) (b : ℕ) → IsTrue (all_filled entries) → option_and_then (left_in terminals) (slice_get entries b) ≡ Some left
    → option_and_then (right_in terminals) (slice_get entries (suc b)) ≡ None → ⊥
filled_at terminals left [] b h begins none = no_value begins
filled_at terminals left (Left n mark ∷ []) b h begins none = true≢false (sym h)
filled_at terminals left (Left n mark ∷ (Left m other ∷ rest)) b h begins none = true≢false (sym h)
filled_at terminals left (Left n mark ∷ (Right x ∷ rest)) zero h begins none = no_value (sym none)
filled_at terminals left (Left n mark ∷ (Right x ∷ rest)) (suc zero) h begins none = no_value begins
filled_at terminals left (Left n mark ∷ (Right x ∷ rest)) (suc (suc b)) h begins none = filled_at terminals left rest b h begins none
filled_at terminals left (Right x ∷ rest) zero h begins none = no_value begins
filled_at terminals left (Right x ∷ rest) (suc b) h begins none = filled_at terminals left rest b h begins none

-- an item that begins an opened production can be passed
goto_left : (g : Grammar) (states : List (List ℕ)) (s b item left : ℕ) (kernel : List ℕ) → IsStates g states → StartsApart g → slice_get states s ≡ Some kernel → begun g b ≡ Some left → after g item ≡ Some left
    → Closure g kernel b → ((i : ℕ) → Contains kernel i → begun g i ≡ Some left → IsStart g i) → (t : ℕ) × IsGoto g states s left t
goto_left g states s b item left kernel are apart at begins over (given _ h) starts = absurd (apart.apart item b left (starts b h begins) begins over)
goto_left g states s b item left kernel are apart at begins over (opened i _ y within over_y begins_y) starts =
    are.closed s left (i + 1) kernel at (record { from = i; within = within; over = over_y ∙ sym begins_y ∙ begins; to = refl })

-- a kernel item that begins a production is a start
kernel_starts : (g : Grammar) (states : List (List ℕ)) (stack symbols kernel : List ℕ) (i left : ℕ) → IsStates g states → Path g states stack symbols → slice_get states (top stack) ≡ Some kernel
    → Contains kernel i → begun g i ≡ Some left → IsStart g i
kernel_starts g states _ _ kernel i left are lowest at h begins = (are.starts i).0 (subst (λ zs. Contains zs i) (same_Some kernel are.first (sym at ∙ are.first_at)) h)
kernel_starts g states _ _ kernel i left are (above t x stack symbols goto path) at h begins =
    let m = (goto.moved i).0 (subst (λ zs. Contains zs i) (same_Some kernel goto.target (sym at ∙ goto.target_at)) h) in
    absurd (not_both g.terminals x left (slice_get g.entries.now (m.from + 1)) m.over (ap (begun g) (sym m.to) ∙ begins))

pub drop_path : (g : Grammar) (states : List (List ℕ)) (n : ℕ) (stack symbols : List ℕ) → Path g states stack symbols → Path g states (drop n stack) (drop n symbols)
drop_path g states zero stack symbols path = path
drop_path g states (suc n) _ _ lowest = lowest
drop_path g states (suc n) _ _ (above t x stack symbols goto path) = drop_path g states n stack symbols path

pub reduces : (g : Grammar) (states : List (List ℕ)) (stack symbols : List ℕ) (t p : ℕ) → IsGrammar g → IsStates g states → StartsApart g → Path g states stack symbols → CanReduce g states (top stack) t p
    → Reduces g states stack symbols p
reduces g states stack symbols t p is are apart path can =
    let within = in_state g states t (top stack) can.item can.ahead in
    let d = climb g states are stack symbols within.kernel can.item path within.at within.within in
    let w = wanted g states t (top stack) can.item can.ahead in
    let same : w.first ≡ d.first = one_beginning g can.item w.first d.first w.size d.size w.behind d.behind in
    let lefts : w.behind.left ≡ d.behind.left = same_Some w.behind.left d.behind.left (sym w.behind.begins ∙ ap (begun g) same ∙ d.behind.begins) in
    record {
      first = d.first;
      size = d.size;
      left = d.behind.left;
      begins = d.behind.begins;
      ends = subst (λ z. Ends g z p) (sym d.behind.place) can.ends;
      some = some d.size d.first d.behind.left d.behind.begins d.behind.place;
      high = d.high;
      on_top = λ k low. d.on_top k low ∙ ap (λ z. after g (z - suc k)) (sym d.behind.place);
      goto = goto_left g states (top (drop d.size stack)) d.first w.item d.behind.left d.kernel are apart d.kernel_at d.behind.begins (w.before ∙ ap (λ z. Some z) lefts) d.within
          (λ i h begins. kernel_starts g states (drop d.size stack) (drop d.size symbols) d.kernel i d.behind.left are (drop_path g states d.size stack symbols path) d.kernel_at h begins);
    }
  where
    some : (n b left : ℕ) → begun g b ≡ Some left → b + n ≡ can.item → 0 < n
    some (suc n) b left begins place = omega arith
    some zero b left begins place = absurd (filled_at g.terminals left g.entries.now b is.filled begins
        (ap (λ z. option_and_then (right_in g.terminals) (slice_get g.entries.now z)) (let e : suc b ≡ can.item + 1 = omega (arith, place) in e) ∙ can.ends.at_end))
