-- What one turn of the search adds.
use Rattle.std.proofs.Common.{zero, suc, ◌≡◌, ◌↔◌, ◌<◌, ◌+◌, ◌⊎◌, ℕ, Bool, true, false, IsTrue, List, [], ◌∷◌, ◌++◌, length, slice_get, Option, Some, None, Vec, inl, inr, refl, sym, ap, ◌∙◌, subst, arith}
use Rattle.std.specs.List.{Contains, list_all}
use Rattle.std.specs.declared.alloc.Global.{Global}
use Rattle.std.proofs.lemmas.List.{length_push, get_or_past}
use Rattle.std.proofs.lemmas.Option.{same_Some, none-some, option_and_then_some}
use Rattle.std.proofs.lemmas.Bool.{and_parts, cases_lt, false≢true}
use Rattle.std.proofs.lemmas.Bool.Decides.{nat_tests}
use Rattle.lr_tables.specs.Grammar.{IsGrammar, after, begun, right_in, left_in, is_known}
use Rattle.lr_tables.specs.Tables.{Closure, given, opened, Moved, IsGoto}
use Rattle.lr_tables.specs.declared.grammar.Grammar.{Grammar}
use Rattle.lr_tables.specs.declared.grammar.Entry.{Entry}
use Rattle.lr_tables.specs.declared.grammar.Entry.TheVariants.{Left, Right}
use Rattle.lr_tables.specs.declared.grammar.Symbol.TheVariants.{Terminal, Nonterminal}
use Rattle.sc_model.specs.Growth.{Extends}
use Rattle.sc_base.proofs.Growth.{Extends-keeps, Extends-push, Extends-refl, Extends-trans, push_cases}
use Rattle.sc_items.specs.Reach.{marked, Reaches, start, step, IsReached}
use Rattle.sc_items.specs.Kernel.{MovedIn, IsListOf, IsMoved, IsOpened}
use Rattle.sc_items.specs.Found.{Found, IsGotoRow, IsStep, nothing, follows}
use Rattle.sc_items.proofs.Finding.{Found-new, Found-old, Found-skip}
use Rattle.lr_tables.proofs.Members.{no_member}
use Rattle.sc_items.proofs.Opening.{after_within}

-- ---- the symbols of a grammar are in range
list_all_at : {A : Type 0} (p : A → Bool) (xs : List A) (i : ℕ) (x : A) → list_all p xs ≡ true → slice_get xs i ≡ Some x → p x ≡ true
list_all_at p [] i x h at = absurd (none-some x at)
list_all_at p (y ∷ ys) zero x h at = subst (λ z. p z ≡ true) (same_Some y x at) (and_parts (p y) (list_all p ys) h).0
list_all_at p (y ∷ ys) (suc i) x h at = list_all_at p ys i x (and_parts (p y) (list_all p ys) h).1 at

right_small : (t n x : ℕ) (e : Entry) → is_known t n e ≡ true → right_in t e ≡ Some x → x < t + n
right_small t n x (Left l mark) known is = absurd (none-some x is)
right_small t n x (Right (Terminal a)) known is = let e : a.0 ≡ x = same_Some a.0 x is in grind (arith, nat_tests)
right_small t n x (Right (Nonterminal a)) known is = let e : t + a.0 ≡ x = same_Some (t + a.0) x is in grind (arith, nat_tests)

pub after_small : (g : Grammar) (i x : ℕ) → IsGrammar g → after g i ≡ Some x → x < g.terminals + g.nonterminals
after_small g i x h e = option_and_then_some (right_in g.terminals) (slice_get g.entries.now (i + 1)) x e (λ entry at is. right_small g.terminals g.nonterminals x entry (list_all_at (is_known g.terminals g.nonterminals) g.entries.now (i + 1) entry h.known at) is)

left_small : (t n x : ℕ) (e : Entry) → is_known t n e ≡ true → left_in t e ≡ Some x → x < t + n
left_small t n x (Left l mark) known is = let e : t + l.0 ≡ x = same_Some (t + l.0) x is in grind (arith, nat_tests)
left_small t n x (Right symbol) known is = absurd (none-some x is)

pub begun_small : (g : Grammar) (i x : ℕ) → IsGrammar g → begun g i ≡ Some x → x < g.terminals + g.nonterminals
begun_small g i x h e = option_and_then_some (left_in g.terminals) (slice_get g.entries.now i) x e (λ entry at is. left_small g.terminals g.nonterminals x entry (list_all_at (is_known g.terminals g.nonterminals) g.entries.now i entry h.known at) is)

-- ---- the closure is what can be reached along the edges that are opened
pub closure_from_reached : (g : Grammar) (rows : List (Vec ℕ Global)) (kernel : List ℕ) → IsOpened g rows → (i : ℕ) → Reaches rows kernel i → Closure g kernel i
closure_from_reached g rows kernel h i (start j w) = given j w
closure_from_reached g rows kernel h i (step from j r edge) =
    let o = h.sound from j edge in
    opened from j o.symbol (closure_from_reached g rows kernel h from r) o.over o.begins

pub reached_from_closure : (g : Grammar) (rows : List (Vec ℕ Global)) (kernel : List ℕ) → IsOpened g rows → (i : ℕ) → Closure g kernel i → Reaches rows kernel i
reached_from_closure g rows kernel h i (given j w) = start j w
reached_from_closure g rows kernel h i (opened from j x c over begins) =
    step from j (reached_from_closure g rows kernel h from c) (h.complete from j (record { symbol = x; over = over; begins = begins }))

pub closure_is : (g : Grammar) (rows : List (Vec ℕ Global)) (kernel : List ℕ) (marks : List Bool) → IsOpened g rows → IsReached rows kernel marks → (i : ℕ) → IsTrue (marked marks i) ↔ Closure g kernel i
closure_is g rows kernel marks h r i = (λ m. closure_from_reached g rows kernel h i (r.sound i m), λ c. r.complete i (reached_from_closure g rows kernel h i c))

-- the members of a state are its closure
pub record AreMembers (g : Grammar) (kernel items : List ℕ) : Type 0 where
  pub sound : (i : ℕ) → Contains items i → Closure g kernel i
  pub complete : (i : ℕ) → Closure g kernel i → Contains items i

pub members_are : (g : Grammar) (kernel items : List ℕ) (marks : List Bool) → IsListOf (length marks) (λ i. IsTrue (marked marks i)) items → ((i : ℕ) → IsTrue (marked marks i) ↔ Closure g kernel i) → AreMembers g kernel items
members_are g kernel items marks h c = record {
  sound = λ i w. (c i).0 (h.sound i w);
  complete = λ i w. let m = (c i).1 w in h.complete i (within i m) m;
}
  where
    within : (i : ℕ) → IsTrue (marked marks i) → i < length marks
    within i m = elim (cases_lt i (length marks)) [ inl a ↦ a | inr a ↦ absurd (false≢true (sym (get_or_past marks i false a) ∙ m)) ]

moved_from : (g : Grammar) (kernel items : List ℕ) (x m : ℕ) → AreMembers g kernel items → MovedIn g items x m → Moved g kernel x m
moved_from g kernel items x m h o = record { from = o.from; within = h.sound o.from o.within; over = o.over; to = o.to }

moved_to : (g : Grammar) (kernel items : List ℕ) (x m : ℕ) → AreMembers g kernel items → Moved g kernel x m → MovedIn g items x m
moved_to g kernel items x m h o = record { from = o.from; within = h.complete o.from o.within; over = o.over; to = o.to }

-- ---- a state over its first symbols
pub record Explored (g : Grammar) (old new : List (List ℕ)) (s x : ℕ) (row : List (Option ℕ)) : Type 0 where
  pub found : Found g new s x
  pub keeps : Extends old new
  pub kernel : List ℕ
  pub kernel_at : slice_get old s ≡ Some kernel
  pub row_is : IsGotoRow g new s kernel row x

pub goto_keeps : (g : Grammar) (old new : List (List ℕ)) (s x t : ℕ) → Extends old new → IsGoto g old s x t → IsGoto g new s x t
goto_keeps g old new s x t k h = record {
  source = h.source;
  target = h.target;
  source_at = Extends-keeps s h.source h.source_at k;
  target_at = Extends-keeps t h.target h.target_at k;
  some = h.some;
  moved = h.moved;
}

row_none : (g : Grammar) (new : List (List ℕ)) (s x : ℕ) (kernel : List ℕ) (row : List (Option ℕ)) → IsGotoRow g new s kernel row x → ((m : ℕ) → Moved g kernel x m → ⊥) → IsGotoRow g new s kernel (row ++ None ∷ []) (x + 1)
row_none g new s x kernel row h none = record {
  long = length_push row None ∙ ap (λ n. n + 1) h.long;
  some = λ y t at. elim (push_cases row None y (Some t) at) [ inl a ↦ h.some y t a | inr e ↦ absurd (none-some t e.1) ];
  none = λ y at m w. elim (push_cases row None y None at) [ inl a ↦ h.none y a m w | inr e ↦ none m (subst (λ z. Moved g kernel z m) (e.0 ∙ h.long) w) ];
}

row_some : (g : Grammar) (old new : List (List ℕ)) (s x u : ℕ) (kernel : List ℕ) (row : List (Option ℕ)) → Extends old new → IsGotoRow g old s kernel row x → IsGoto g new s x u → IsGotoRow g new s kernel (row ++ Some u ∷ []) (x + 1)
row_some g old new s x u kernel row k h goto = record {
  long = length_push row (Some u) ∙ ap (λ n. n + 1) h.long;
  some = λ y t at. elim (push_cases row (Some u) y (Some t) at) [
    | inl a ↦ goto_keeps g old new s y t k (h.some y t a)
    | inr e ↦ subst (λ z. IsGoto g new s z t) (sym (e.0 ∙ h.long)) (subst (λ v. IsGoto g new s x v) (same_Some u t e.1) goto)
  ];
  none = λ y at m w. elim (push_cases row (Some u) y None at) [ inl a ↦ h.none y a m w | inr e ↦ absurd (none-some u (sym e.1)) ];
}

pub Explored-begin : (g : Grammar) (old : List (List ℕ)) (s : ℕ) (kernel : List ℕ) → Found g old s 0 → slice_get old s ≡ Some kernel → Explored g old old s 0 []
Explored-begin g old s kernel f at = record {
  found = f;
  keeps = Extends-refl old;
  kernel = kernel;
  kernel_at = at;
  row_is = record { long = refl; some = λ y t w. absurd (none-some (Some t) w); none = λ y w. absurd (none-some None w) };
}

pub Explored-step : (g : Grammar) (old now new : List (List ℕ)) (s x : ℕ) (row : List (Option ℕ)) (kernel items k : List ℕ) (to : Option ℕ) → slice_get old s ≡ Some kernel → AreMembers g kernel items → Explored g old now s x row → IsMoved g items x k → IsStep k now new to → Explored g old new s (x + 1) (row ++ to ∷ [])
Explored-step g old now new s x row kernel items k to at members h is (nothing e none) =
    let kernel_is : h.kernel ≡ kernel = same_Some h.kernel kernel (sym h.kernel_at ∙ at) in
    let empty : (m : ℕ) → Moved g kernel x m → ⊥ = λ m w. no_member m (subst (λ zs. Contains zs m) none ((is.moved m).1 (moved_to g kernel items x m members w))) in
    subst (λ states. Explored g old states s (x + 1) (row ++ None ∷ [])) (sym e) (record {
      found = Found-skip g now s x kernel h.found (Extends-keeps s kernel at h.keeps) empty;
      keeps = h.keeps;
      kernel = kernel;
      kernel_at = at;
      row_is = row_none g now s x kernel row (subst (λ zs. IsGotoRow g now s zs row x) kernel_is h.row_is) empty;
    })
Explored-step g old now new s x row kernel items k to at members h is (follows t some n) = go n.grown
  where
    now_at : slice_get now s ≡ Some kernel
    now_at = Extends-keeps s kernel at h.keeps

    k_moved : (m : ℕ) → Contains k m ↔ Moved g kernel x m
    k_moved m = (λ w. moved_from g kernel items x m members ((is.moved m).0 w), λ w. (is.moved m).1 (moved_to g kernel items x m members w))

    goto_in : (states : List (List ℕ)) → slice_get states s ≡ Some kernel → slice_get states t ≡ Some k → IsGoto g states s x t
    goto_in states source_at target_at = record { source = kernel; target = k; source_at = source_at; target_at = target_at; some = some; moved = k_moved }

    row_now : IsGotoRow g now s kernel row x
    row_now = subst (λ zs. IsGotoRow g now s zs row x) (same_Some h.kernel kernel (sym h.kernel_at ∙ at)) h.row_is

    k_within : (i : ℕ) → Contains k i → i < length g.entries.now
    k_within i w = let o = (is.moved i).0 w in omega (arith, o.to, after_within g o.from x o.over)

    go : (new ≡ now) ⊎ ((new ≡ now ++ k ∷ []) × (t ≡ length now) × ((u : ℕ) → slice_get now u ≡ Some k → ⊥)) → Explored g old new s (x + 1) (row ++ Some t ∷ [])
    go (inl e) =
        let there : slice_get now t ≡ Some k = subst (λ states. slice_get states t ≡ Some k) e n.at in
        let goto = goto_in now now_at there in
        subst (λ states. Explored g old states s (x + 1) (row ++ Some t ∷ [])) (sym e) (record {
          found = Found-old g now s x t h.found goto;
          keeps = h.keeps;
          kernel = kernel;
          kernel_at = at;
          row_is = row_some g now now s x t kernel row (Extends-refl now) row_now goto;
        })
    go (inr e) =
        let grown : Extends now (now ++ k ∷ []) = Extends-push now k in
        let there : slice_get (now ++ k ∷ []) t ≡ Some k = subst (λ states. slice_get states t ≡ Some k) e.0 n.at in
        subst (λ states. Explored g old states s (x + 1) (row ++ Some t ∷ [])) (sym e.0) (record {
          found = Found-new g now k s x kernel h.found now_at is.rising k_within some k_moved e.2;
          keeps = Extends-trans h.keeps grown;
          kernel = kernel;
          kernel_at = at;
          row_is = row_some g now (now ++ k ∷ []) s x t kernel row grown row_now (goto_in (now ++ k ∷ []) (Extends-keeps s kernel now_at grown) there);
        })

-- ---- the same facts for values that are read through references
pub closure_of : (g : Grammar) (rows : List (Vec ℕ Global)) (kernel slice : List ℕ) (marks : List Bool) → IsOpened g rows → slice ≡ kernel → IsReached rows slice marks → (i : ℕ) → IsTrue (marked marks i) ↔ Closure g kernel i
closure_of g rows kernel slice marks h e r = closure_is g rows kernel marks h (subst (λ zs. IsReached rows zs marks) e r)

pub members_of : (g : Grammar) (kernel items : List ℕ) (marks view : List Bool) → view ≡ marks → IsListOf (length view) (λ i. IsTrue (marked view i)) items → ((i : ℕ) → IsTrue (marked marks i) ↔ Closure g kernel i) → AreMembers g kernel items
members_of g kernel items marks view e h c = members_are g kernel items marks (subst (λ zs. IsListOf (length zs) (λ i. IsTrue (marked zs i)) items) e h) c

pub members_within : (n : ℕ) (items : List ℕ) (marks view : List Bool) → view ≡ marks → length marks ≡ n → IsListOf (length view) (λ i. IsTrue (marked view i)) items → (i : ℕ) → Contains items i → i < n
members_within n items marks view e f h i w = omega (arith, h.below i w, ap length e, f)

pub members_list : (g : Grammar) (kernel items : List ℕ) (marks view : List Bool) → view ≡ marks → length marks ≡ length g.entries.now → IsListOf (length view) (λ i. IsTrue (marked view i)) items → ((i : ℕ) → IsTrue (marked marks i) ↔ Closure g kernel i) → IsListOf (length g.entries.now) (Closure g kernel) items
members_list g kernel items marks view e f h c =
    let are = members_of g kernel items marks view e h c in
    record { rising = h.rising; below = members_within (length g.entries.now) items marks view e f h; sound = are.sound; complete = λ i i_in w. are.complete i w }
