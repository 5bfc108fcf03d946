-- Which production of a list an item of its entries is of.
use Rattle.std.proofs.Common.{◌≡◌, ℕ, zero, suc, ◌<◌, ◌≤◌, ◌+◌, ◌-◌, List, [], ◌∷◌, ◌++◌, length, take, drop, get_or, slice_get, option_map, option_and_then, Option, Some, None, refl, sym, ap, ◌∙◌, subst, arith, if◌then◌else◌}
use Rattle.std.specs.List.{Contains}
use Rattle.std.specs.Prelude.{count_by}
use Rattle.std.proofs.lemmas.List.Recursion.{is_count_by}
use Rattle.std.proofs.lemmas.Option.{same_Some, none-some}
use Rattle.lr_tables.specs.declared.grammar.Action.{Action}
use Rattle.lr_tables.specs.declared.grammar.Action.TheVariants.{Shift, Reduce}
use Rattle.lr_tables.specs.declared.grammar.Entry.{Entry}
use Rattle.lr_tables.specs.declared.grammar.Entry.TheVariants.{Left, Right}
use Rattle.lr_tables.specs.declared.grammar.Grammar.{Grammar}
use Rattle.lr_tables.specs.declared.grammar.Symbol.{Symbol}
use Rattle.lr_tables.specs.Grammar.{Production, entries_of, right_entries, symbol_number, right_in, left_in, is_left, after, begun, Ends, IsStart}
use Rattle.lr_tables.specs.Paths.{top, Path, lowest, above, StartsApart, Reduces}
use Rattle.lr_tables.specs.Tables.{Closure, given, opened, IsGoto, IsStates, IsAction, shifts, reduces, none, CanReduce}
use Rattle.lr_tables.proofs.Determined.{goto_member}
use Rattle.lr_tables.proofs.Members.{slice_some}
use Rattle.lr_tables.proofs.Stacks.{climb, drop_path, not_both}

abbrev pub right_at : ℕ → List Entry → ℕ → Option ℕ
right_at terminals entries i = option_and_then (right_in terminals) (slice_get entries i)

abbrev pub left_at : ℕ → List Entry → ℕ → Option ℕ
left_at terminals entries i = option_and_then (left_in terminals) (slice_get entries i)

-- how many left sides there are
abbrev pub lefts : List Entry → ℕ
lefts [] = 0
lefts (Left n mark ∷ entries) = 1 + lefts entries
lefts (Right x ∷ entries) = lefts entries

lefts-more : (e : Entry) (entries : List Entry) → lefts (e ∷ entries) ≡ (if is_left e then 1 + lefts entries else lefts entries)
lefts-more (Left n mark) entries = refl
lefts-more (Right x) entries = refl

pub counted : (entries : List Entry) → lefts entries ≡ count_by is_left entries
counted = is_count_by lefts is_left refl lefts-more

no-right : (terminals : ℕ) (ps : List Production) → right_at terminals (entries_of ps) 0 ≡ None
no-right terminals [] = refl
no-right terminals (p ∷ ps) = refl

right-size : (terminals : ℕ) (xs : List Symbol) (ps : List Production) (size : ℕ)
    → ((k : ℕ) → k < size → (x : ℕ) × (right_at terminals (right_entries xs ++ entries_of ps) k ≡ Some x))
    → right_at terminals (right_entries xs ++ entries_of ps) size ≡ None → size ≡ length xs
right-size terminals [] ps zero some end = refl
right-size terminals [] ps (suc size) some end =
    let first = some 0 (omega arith) in absurd (none-some first.0 (sym (no-right terminals ps) ∙ first.1))
right-size terminals (x ∷ xs) ps zero some end = absurd (none-some (symbol_number terminals x) (sym end))
right-size terminals (x ∷ xs) ps (suc size) some end = ap suc (right-size terminals xs ps size (λ k below. some (suc k) (omega (arith, below))) end)

right-lefts : (xs : List Symbol) (rest : List Entry) (n : ℕ) → n ≡ length xs → lefts (take n (right_entries xs ++ rest)) ≡ 0
right-lefts [] rest zero long = refl
right-lefts [] rest (suc n) long = absurd (omega (arith, long))
right-lefts (x ∷ xs) rest zero long = refl
right-lefts (x ∷ xs) rest (suc n) long = right-lefts xs rest n (omega (arith, long))

right-symbol : (terminals : ℕ) (xs : List Symbol) (rest : List Entry) (k : ℕ) → k < length xs
    → right_at terminals (right_entries xs ++ rest) k ≡ option_map (symbol_number terminals) (slice_get xs k)
right-symbol terminals [] rest k below = absurd (omega (arith, below))
right-symbol terminals (x ∷ xs) rest zero below = refl
right-symbol terminals (x ∷ xs) rest (suc k) below = right-symbol terminals xs rest k (omega (arith, below))

-- a left side stands behind a right side
behind-right : (terminals : ℕ) (xs : List Symbol) (rest : List Entry) (i left : ℕ) → left_at terminals (right_entries xs ++ rest) i ≡ Some left → (k : ℕ) × (i ≡ length xs + k)
behind-right terminals [] rest i left is = (i, omega arith)
behind-right terminals (x ∷ xs) rest zero left is = absurd (cc)
behind-right terminals (x ∷ xs) rest (suc i) left is = let b = behind-right terminals xs rest i left is in (b.0, omega (arith, b.1))

get-behind : (xs : List Symbol) (rest : List Entry) (i k : ℕ) → i ≡ length xs + k → slice_get (right_entries xs ++ rest) i ≡ slice_get rest k
get-behind [] rest i k is = ap (slice_get rest) (let e : i ≡ k = omega (arith, is) in e)
get-behind (x ∷ xs) rest zero k is = absurd (omega (arith, is))
get-behind (x ∷ xs) rest (suc i) k is = get-behind xs rest i k (omega (arith, is))

lefts-behind : (xs : List Symbol) (rest : List Entry) (n m : ℕ) → n ≡ length xs + m → lefts (take n (right_entries xs ++ rest)) ≡ lefts (take m rest)
lefts-behind [] rest n m is = ap (λ k. lefts (take k rest)) (let e : n ≡ m = omega (arith, is) in e)
lefts-behind (x ∷ xs) rest zero m is = absurd (omega (arith, is))
lefts-behind (x ∷ xs) rest (suc n) m is = lefts-behind xs rest n m (omega (arith, is))

-- the production that begins at this place, and its symbols
pub record IsAt (terminals : ℕ) (ps : List Production) (first size left p : ℕ) : Type 0 where
  pub production : Production
  pub some : 0 < p
  pub at : slice_get ps (p - 1) ≡ Some production
  pub is_left : left ≡ terminals + production.left
  pub is_size : size ≡ length production.right
  pub symbols : (k i : ℕ) → k < size → i ≡ first + 1 + k → right_at terminals (entries_of ps) i ≡ option_map (symbol_number terminals) (slice_get production.right k)

found-first : (terminals : ℕ) (q : Production) (ps : List Production) (size left p : ℕ) → Some (terminals + q.left) ≡ Some left
    → size ≡ length q.right → p ≡ 1 + lefts (take size (right_entries q.right ++ entries_of ps)) → IsAt terminals (q ∷ ps) 0 size left p
found-first terminals q ps size left p begins long number =
    let one : p ≡ 1 = omega (arith, number, right-lefts q.right (entries_of ps) size long) in
    record {
      production = q;
      some = omega (arith, one);
      at = ap (λ n. slice_get (q ∷ ps) (n - 1)) one;
      is_left = sym (same_Some (terminals + q.left) left begins);
      is_size = long;
      symbols = λ k i below is.
          ap (right_at terminals (entries_of (q ∷ ps))) (let e : i ≡ suc k = omega (arith, is) in e)
          ∙ right-symbol terminals q.right (entries_of ps) k (omega (arith, below, long));
    }

found-later : (terminals : ℕ) (q : Production) (ps : List Production) (first k size left p n : ℕ) → first ≡ 1 + length q.right + k → p ≡ 1 + n → IsAt terminals ps k size left n → IsAt terminals (q ∷ ps) first size left p
found-later terminals q ps first k size left p n place number later = record {
  production = later.production;
  some = omega (arith, number);
  at = ap (slice_get (q ∷ ps)) (let e : p - 1 ≡ suc (n - 1) = omega (arith, number, later.some) in e) ∙ later.at;
  is_left = later.is_left;
  is_size = later.is_size;
  symbols = symbols;
}
  where
    symbols : (j i : ℕ) → j < size → i ≡ first + 1 + j → right_at terminals (entries_of (q ∷ ps)) i ≡ option_map (symbol_number terminals) (slice_get later.production.right j)
    symbols j zero below is = absurd (omega (arith, is))
    symbols j (suc i) below is =
        ap (option_and_then (right_in terminals)) (get-behind q.right (entries_of ps) i (k + 1 + j) (omega (arith, is, place)))
        ∙ later.symbols j (k + 1 + j) below refl

found : (terminals : ℕ) (ps : List Production) (first size left p n : ℕ) → left_at terminals (entries_of ps) first ≡ Some left
    → ((k i : ℕ) → k < size → i ≡ first + 1 + k → (x : ℕ) × (right_at terminals (entries_of ps) i ≡ Some x))
    → ((i : ℕ) → i ≡ first + 1 + size → right_at terminals (entries_of ps) i ≡ None) → n ≡ first + 1 + size → p ≡ lefts (take n (entries_of ps)) → IsAt terminals ps first size left p
found terminals [] first size left p n begins some end long number = absurd (cc)
found terminals (q ∷ ps) first size left p zero begins some end long number = absurd (omega (arith, long))
found terminals (q ∷ ps) zero size left p (suc n) begins some end long number =
    let same : n ≡ size = omega (arith, long) in
    found-first terminals q ps size left p begins
    (right-size terminals q.right ps size (λ k below. some k (suc k) below (omega arith)) (end (suc size) (omega arith)))
    (number ∙ ap (λ m. 1 + lefts (take m (right_entries q.right ++ entries_of ps))) same)
found terminals (q ∷ ps) (suc first) size left p (suc n) begins some end long number =
    let b = behind-right terminals q.right (entries_of ps) first left begins in
    let begins_later : left_at terminals (entries_of ps) b.0 ≡ Some left = sym (ap (option_and_then (left_in terminals)) (get-behind q.right (entries_of ps) first b.0 b.1)) ∙ begins in
    found-later terminals q ps (suc first) b.0 size left p (lefts (take (b.0 + 1 + size) (entries_of ps))) (omega (arith, b.1))
    (number ∙ ap (λ m. 1 + m) (lefts-behind q.right (entries_of ps) n (b.0 + 1 + size) (omega (arith, long, b.1))))
    (found terminals ps b.0 size left (lefts (take (b.0 + 1 + size) (entries_of ps))) (b.0 + 1 + size) begins_later
    (λ k i below is.
    let x = some k (suc (length q.right + i)) below (omega (arith, is, b.1)) in
    (x.0, sym (ap (option_and_then (right_in terminals)) (get-behind q.right (entries_of ps) (length q.right + i) i refl)) ∙ x.1))
    (λ i is.
    sym (ap (option_and_then (right_in terminals)) (get-behind q.right (entries_of ps) (length q.right + i) i refl))
    ∙ end (suc (length q.right + i)) (omega (arith, is, b.1)))
    refl refl)

pub as-many-symbols : (g : Grammar) (states : List (List ℕ)) (stack symbols : List ℕ) → Path g states stack symbols → length symbols ≡ length stack
as-many-symbols g states _ _ lowest = refl
as-many-symbols g states _ _ (above t x stack symbols goto path) = ap suc (as-many-symbols g states stack symbols path)

-- the item at the end of production p has all of its right side on top of the stack
pub record HasRightSide (g : Grammar) (symbols : List ℕ) (first size left p : ℕ) : Type 0 where
  pub begins : begun g first ≡ Some left
  pub ends : Ends g (first + size) p
  pub high : size ≤ length symbols
  pub on_top : (k : ℕ) → k < size → slice_get symbols k ≡ after g (first + size - suc k)

-- and so its symbols are those of the production
module _ (g : Grammar) (ps : List Production) (entries : g.entries.now ≡ entries_of ps) where
  after-at : (i j : ℕ) → i ≡ j + 1 → right_at g.terminals (entries_of ps) i ≡ after g j
  after-at i j is = ap (right_at g.terminals (entries_of ps)) is ∙ sym (ap (λ es. right_at g.terminals es (j + 1)) entries)

  pub production_of : (symbols : List ℕ) (first size left p : ℕ) → HasRightSide g symbols first size left p → IsAt g.terminals ps first size left p
  production_of symbols first size left p r =
      found g.terminals ps first size left p (first + size + 1)
      (sym (ap (λ es. left_at g.terminals es first) entries) ∙ r.begins)
      some (λ i is. after-at i (first + size) (omega (arith, is)) ∙ r.ends.at_end) (omega arith)
      (sym r.ends.production ∙ ap (λ es. count_by is_left (take (first + size + 1) es)) entries ∙ sym (counted (take (first + size + 1) (entries_of ps))))
    where
      some : (k i : ℕ) → k < size → i ≡ first + 1 + k → (x : ℕ) × (right_at g.terminals (entries_of ps) i ≡ Some x)
      some k i below is =
          let q = size - suc k in
          let symbol = slice_some symbols q (omega (arith, r.high, below)) in
          let place : first + k ≡ first + size - suc q = omega (arith, below) in
          (symbol.0, after-at i (first + k) (omega (arith, is)) ∙ ap (after g) place ∙ sym (r.on_top q (omega (arith, below))) ∙ symbol.1)

  pub symbols_of : (symbols : List ℕ) (first size left p : ℕ) → HasRightSide g symbols first size left p → (a : IsAt g.terminals ps first size left p)
      → (k j : ℕ) → k + suc j ≡ size → slice_get symbols k ≡ option_map (symbol_number g.terminals) (slice_get a.production.right j)
  symbols_of symbols first size left p r a k j is =
      r.on_top k (omega (arith, is)) ∙ sym (after-at (first + 1 + j) (first + size - suc k) (omega (arith, is))) ∙ a.symbols j (first + 1 + j) (omega (arith, is)) refl

pub right_side : (g : Grammar) (states : List (List ℕ)) (stack symbols : List ℕ) (p : ℕ) → Path g states stack symbols → (r : Reduces g states stack symbols p) → HasRightSide g symbols r.first r.size r.left p
right_side g states stack symbols p path r =
    record { begins = r.begins; ends = r.ends; high = omega (arith, r.high, as-many-symbols g states stack symbols path); on_top = r.on_top }

-- ---- the stack below the end of a text

lefts-mono : (entries : List Entry) (n m : ℕ) → n ≤ m → lefts (take n entries) ≤ lefts (take m entries)
lefts-mono entries zero m le = omega arith
lefts-mono [] (suc n) m le = omega arith
lefts-mono (e ∷ entries) (suc n) zero le = absurd (omega (arith, le))
lefts-mono (Left o mark ∷ entries) (suc n) (suc m) le = let h = lefts-mono entries n m (omega (arith, le)) in omega (arith, h)
lefts-mono (Right x ∷ entries) (suc n) (suc m) le = lefts-mono entries n m (omega (arith, le))

-- an item that begins production 1 or 2 is in the lowest state alone
only_lowest : (g : Grammar) (states : List (List ℕ)) (stack symbols kernel : List ℕ) (first : ℕ) → StartsApart g → Path g states stack symbols → slice_get states (top stack) ≡ Some kernel
    → Closure g kernel first → IsStart g first → stack ≡ []
only_lowest g states stack symbols kernel first apart path at (opened i _ x closure over begins) start = absurd (apart.apart i first x start begins over)
only_lowest g states _ _ kernel first apart lowest at (given _ has) start = refl
only_lowest g states _ _ kernel first apart (above t x stack symbols goto path) at (given _ has) start =
    let m = (goto.moved first).0 (subst (λ zs. Contains zs first) (same_Some kernel goto.target (sym at ∙ goto.target_at)) has) in
    absurd (not_both g.terminals x start.symbol (slice_get g.entries.now (m.from + 1)) m.over (ap (begun g) (sym m.to) ∙ start.begins))

-- with the end on top the whole stack is the right side of production 1 or 2
pub record IsWholeText (g : Grammar) (stack symbols : List ℕ) : Type 0 where
  pub first : ℕ
  pub size : ℕ
  pub left : ℕ
  pub production : ℕ
  pub low : production < 3
  pub right : HasRightSide g symbols first size left production
  pub whole : size ≡ length stack

no-more : {A : Type 0} (n : ℕ) (xs : List A) → drop n xs ≡ [] → length xs ≤ n
no-more zero xs empty = let h = ap length empty in omega (arith, h)
no-more (suc n) [] empty = omega arith
no-more (suc n) (x ∷ xs) empty = let h = no-more n xs empty in omega (arith, h)

pub whole_text : (g : Grammar) (states : List (List ℕ)) (stack symbols : List ℕ) (e t : ℕ) → IsStates g states → StartsApart g → Path g states stack symbols → IsGoto g states (top stack) e t
    → ((i : ℕ) → after g i ≡ Some e → (p : ℕ) × Ends g (i + 1) p × (p < 3)) → IsWholeText g (t ∷ stack) (e ∷ symbols)
whole_text g states stack symbols e t are apart path goto last =
    let m = goto_member g states (top stack) e t goto in
    let item = get_or goto.target 0 0 in
    let l = last m.from m.over in
    let higher = above t e stack symbols goto path in
    let b = climb g states are (t ∷ stack) (e ∷ symbols) goto.target item higher goto.target_at (given item ((goto.moved item).1 m)) in
    let ends : Ends g (b.first + b.size) l.0 = subst (λ i. Ends g i l.0) (let same : m.from + 1 ≡ b.first + b.size = omega (arith, m.to, b.behind.place) in same) l.1 in
    let few = lefts-mono g.entries.now (b.first + 1) (b.first + b.size + 1) (omega arith) in
    let start : IsStart g b.first = record {
      symbol = b.behind.left;
      begins = b.behind.begins;
      first_two = omega (arith, few, counted (take (b.first + 1) g.entries.now), counted (take (b.first + b.size + 1) g.entries.now), ends.production, l.2);
    } in
    let nothing = only_lowest g states (drop b.size (t ∷ stack)) (drop b.size (e ∷ symbols)) b.kernel b.first apart (drop_path g states b.size (t ∷ stack) (e ∷ symbols) higher) b.kernel_at b.within start in
    let long = no-more b.size (t ∷ stack) nothing in
    record {
      first = b.first;
      size = b.size;
      left = b.behind.left;
      production = l.0;
      low = l.2;
      right = record {
        begins = b.behind.begins;
        ends = ends;
        high = omega (arith, b.high, as-many-symbols g states (t ∷ stack) (e ∷ symbols) higher);
        on_top = λ k below. b.on_top k below ∙ ap (λ i. after g (i - suc k)) (sym b.behind.place);
      };
      whole = omega (arith, b.high, long);
    }

-- ---- what an action says

pub can-shift : (g : Grammar) (states : List (List ℕ)) (s x t : ℕ) (a : Option Action) → IsAction g states s x a → a ≡ Some (Shift t) → IsGoto g states s x t
can-shift g states s x t _ (shifts r goto) e = let same : r ≡ t = cc in subst (IsGoto g states s x) same goto
can-shift g states s x t _ (reduces p nowhere can least) e = absurd (cc)
can-shift g states s x t _ (none nowhere cannot) e = absurd (cc)

pub can-reduce : (g : Grammar) (states : List (List ℕ)) (s x p : ℕ) (a : Option Action) → IsAction g states s x a → a ≡ Some (Reduce p) → CanReduce g states s x p
can-reduce g states s x p _ (shifts r goto) e = absurd (cc)
can-reduce g states s x p _ (reduces q nowhere can least) e = let same : q ≡ p = cc in subst (CanReduce g states s x) same can
can-reduce g states s x p _ (none nowhere cannot) e = absurd (cc)
