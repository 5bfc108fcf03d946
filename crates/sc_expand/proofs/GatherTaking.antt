-- The call of a branch is taken out of its list, and begins to wait or is refused.
use Rattle.std.proofs.Common.{◌≡◌, ℕ, zero, suc, ◌<◌, ◌==◌, ◌&&◌, Bool, true, false, List, [], ◌∷◌, ◌++◌, All, map, length, Some, None, get_or, subst, if◌then◌else◌, drop, Option, IsTrue, slice_get, refl, sym, ap, ◌∙◌, is_some}
use Rattle.sc_expand.proofs.AlikeLemmas.{all-back, IsAlike-Keeps, lacks-first}
use Rattle.sc_expand.proofs.Facts.{All-append, All-cons, All-head, All-nil, All-tail, Extends-refl, Extends-trans, IsConfig-Keeps, form_later, hidden_later, items_later, All-map}
use Rattle.sc_expand.proofs.GatherCases.{case-closed}
use Rattle.sc_expand.proofs.SeenLemmas.{IsHeldExpansion-Grows, at-Grows}
use Rattle.sc_expand.proofs.TakingSteps.{decided-called, decided-misfit, has_first-Keeps, no-wait, seen-first, state-scanning}
use Rattle.sc_expand.proofs.Terms.{Hidden, HiddenToken, IsHeldHidden, IsHeldToken, Place, Role, Stores, arguments_for, closing, comma, counts_for, filled_up, given, is_nothing, onto_argument, opening, other, parted, parting_step, role_of, seen_arguments, seen_hidden, seen_list, AreHeld, AreHeldArguments, At, Branch, Cond, Definition, EndsBy, Expansion, Extends, Failure, Form, Frame, Gathers, Grows, HasLast, IsAlike, IsAlikeIn, IsConfig, IsHeldEnclosing, IsHeldExpansion, IsHeldForm, IsHeldFrame, IsHeldItem, IsHeldRefusals, KeepsLists, Macros, Name, Provenance, Rest, Sets, Span, Waits, WrongArguments, at, called, case_of, ends_at, failure_at, fitted_case, function_like, has_each, has_first, is_function_like, is_whole, lists_at, misfit, object_like, seen_at, seen_form, stores, view_at, with_call, with_end}
use Rattle.sc_expand.proofs.WorkListLemmas.{last-later, has_each-Keeps}
use Rattle.sc_expand.specs.Called.{AreGathered, Begins, HasBegun, HasLeft, IsBranch, IsMacro, refused, waits}
use Rattle.sc_expand.specs.Gather as gathers
use Rattle.sc_expand.specs.Plain.{Fails, bad_stringize, gathered, miscounted, scanning}
use Rattle.sc_expand.specs.Turn as turn
use Rattle.sc_macro.specs.declared.definition.Item as declared_item
use Rattle.sc_macro.specs.declared.form.Form as declared_form

-- ---- one configuration

module _ (provenance : Provenance Place) (macros : Macros) (t : HiddenToken Place) (rest after : List (HiddenToken Place)) (a mid b : At) (work : a.view.work ≡ t ∷ rest) (calls : a.view.calls ≡ [])
    (taken : mid ≡ record a { view = record a.view { work = after } }) where
  -- a failure, whatever follows the list
  failed-gathers : (failure : Failure Place) → Fails provenance macros (scanning a.view.out (t ∷ rest)) failure → (Waits macros (scanning a.view.out (t ∷ rest)) → ⊥)
      → b.live ≡ false → b.ends ≡ with_end mid.ends (turn.fails failure) → Gathers provenance macros t rest a b false
  failed-gathers failure fails free dead ends =
      gathers.ended (turn.fails failure) (subst (λ s. EndsBy provenance macros a.whole s (turn.fails failure)) (state-scanning a.view (t ∷ rest) work calls) (turn.refused failure fails (λ whole. free)))
      (record { live = dead; ends = ends ∙ ap (λ (m : At). with_end m.ends (turn.fails failure)) taken; view = λ no. absurd (no-wait no) })

  -- a call that begins was taken out
  begun-gathers : (d : Definition) (close : HiddenToken Place) (arguments : List (List (HiddenToken Place))) → case_of macros t rest ≡ called d arguments close after
      → Begins provenance d t close arguments mid b → Gathers provenance macros t rest a b false
  begun-gathers d close arguments case (waits template stands same) =
      let w = gathered provenance d t arguments close template in
      let put : At → At = λ m. record m { view = with_call m.view w } in
      gathers.taken_out d arguments close after template case stands (same ∙ (ap put taken ∙ (λ i. record a { view = record a.view { work = after; calls = calls i ++ w ∷ [] } })))
  begun-gathers d close arguments case (refused failure each dead ends) =
      let fails = bad_stringize a.view.out rest after t close d arguments failure case each in
      failed-gathers failure fails (decided-called macros a.view.out t rest d arguments close after case) dead ends

  -- another number of arguments is a failure
  misfit-gathers : case_of macros t rest ≡ misfit after → b.live ≡ false → b.ends ≡ with_end mid.ends (turn.fails (failure_at WrongArguments t)) → Gathers provenance macros t rest a b false
  misfit-gathers case dead ends = failed-gathers (failure_at WrongArguments t) (miscounted a.view.out rest after t case) (decided-misfit macros a.view.out t rest after case) dead ends

-- ---- lists

pub rest-is : (st : Stores) (list : List (Cond × Hidden)) (c : List ℕ) (t : HiddenToken Place) (rest : List (HiddenToken Place)) → has_first st.sets list c ≡ true → seen_at st list c ≡ t ∷ rest → rest ≡ seen_at st (drop 1 list) c
rest-is st [] c t rest has is = absurd (cc)
rest-is st (x ∷ xs) c t rest has is =
    let two : seen_hidden st.names st.hides x.1 ∷ seen_at st xs c ≡ t ∷ rest =
    sym (seen-first st x xs c ∙ ap (λ b. if b then seen_hidden st.names st.hides x.1 ∷ seen_at st xs c else seen_at st xs c) has) ∙ is in
    cc

pub head-held : (P : Hidden → Type 0) (list : List (Cond × Hidden)) (h : Hidden) → All (λ (item : Cond × Hidden). P item.1) list → slice_get (map (λ (item : Cond × Hidden). item.1) list) 0 ≡ Some h → P h
head-held P [] h held is = absurd (cc)
head-held P (x ∷ xs) h held is = let same : x.1 ≡ h = cc in subst P same (All-head (λ (item : Cond × Hidden). P item.1) x xs held)

one-has : {A : Type 0} (b : Bool) (x y : A) → (if b then x ∷ [] else []) ≡ y ∷ [] → b ≡ true
one-has true x y is = refl
one-has false x y is = absurd (cc)

pub record IsFunction (f : Form) : Type 0 where
  pub parameters : List (List ℕ)
  pub variadic : Option Rest
  pub is : f ≡ function_like parameters variadic

pub function-form : (f : Form) → IsTrue (is_function_like f) → IsFunction f
function-form object_like is = absurd (cc)
function-form (function_like parameters variadic) is = record { parameters = parameters; variadic = variadic; is = refl }

seen_list-later : {names later : List (List ℕ)} {sets later_sets : List (List Name)} (list : List Hidden) → All (IsHeldHidden names sets) list → Extends names later → Extends sets later_sets
    → seen_list later later_sets list ≡ seen_list names sets list
seen_list-later [] held e f = refl
seen_list-later {names} {later} {sets} {later_sets} (x ∷ xs) held e f =
    let H : Hidden → Type 0 = IsHeldHidden names sets in
    let first = hidden_later x (All-head H x xs held) e f in
    let rest = seen_list-later xs (All-tail H x xs held) e f in
    λ i. first i ∷ rest i

seen_arguments-later : {names later : List (List ℕ)} {sets later_sets : List (List Name)} (lists : List (List Hidden)) → AreHeldArguments names sets lists → Extends names later → Extends sets later_sets
    → seen_arguments later later_sets lists ≡ seen_arguments names sets lists
seen_arguments-later [] held e f = refl
seen_arguments-later {names} {later} {sets} {later_sets} (x ∷ xs) held e f =
    let H : List Hidden → Type 0 = All (IsHeldHidden names sets) in
    let first = seen_list-later x (All-head H x xs held) e f in
    let rest = seen_arguments-later xs (All-tail H x xs held) e f in
    λ i. first i ∷ rest i

abbrev pub seen_fit : List (List ℕ) → List (List Name) → Option (List (List Hidden)) → Option (List (List (HiddenToken Place)))
seen_fit names sets None = None
seen_fit names sets (Some raw) = Some (seen_arguments names sets raw)

-- ---- the call has left the list

-- the list on top, those below and what was put out are as they were
pub record KeepsWork (was now : Expansion) : Type 0 where
  pub work : now.top.work ≡ was.top.work
  pub below : now.below ≡ was.below
  pub out : now.top.out ≡ was.top.out
  pub rest : now.rest ≡ was.rest

module _ {s0 s1 : Sets} {names : List (List ℕ)} {e0 e1 : Expansion} {branch : Branch} {between : List Hidden} {close : Hidden} (left : HasLeft s0 s1 names e0 e1 branch between close)
    (files : ℕ) (held : IsHeldExpansion (stores s0 names e0.sets) files e0) where
  abbrev old : Stores
  old = stores s0 names e0.sets

  abbrev mid : Stores
  mid = stores s1 names e1.sets

  pub left-grows : Grows old mid
  left-grows = record { sets = left.keeps; names = Extends-refl names; hides = subst (Extends e0.sets) (sym left.sets) (Extends-refl e0.sets) }

  left-work : AreHeld mid files e1.top.work
  left-work = left.held files held.top.work

  pub left-held : IsHeldExpansion mid files e1
  left-held =
      let later = IsHeldExpansion-Grows left-grows e0 held in
      record {
        refusals = subst (IsHeldRefusals s1 files) (sym left.refusals) later.refusals;
        rest = subst (AreHeld mid files) (sym left.waiting) later.rest;
        top = subst (IsHeldFrame mid files) (sym left.top) (record { work = left-work; out = later.top.out; calls = later.top.calls });
        below = subst (λ b. All (IsHeldEnclosing mid files) b.items) (sym left.below) later.below;
      }

  left-at : (c : List ℕ) → IsConfig s0.arities c → (ws : List (HiddenToken Place)) → seen_at mid e1.top.work c ≡ ws → at mid e1 c ≡ record (at old e0 c) { view = record (at old e0 c).view { work = ws } }
  left-at c listed ws is =
      let put : At → List (HiddenToken Place) → At = λ a l. record a { view = record a.view { work = l } } in
      let one : at mid e1 c ≡ put (at mid e0 c) (seen_at mid e1.top.work c) =
      λ i. record { live = s1.has (left.refusals i).live.0 c; whole = is_whole (left.below i).items; view = view_at mid (left.top i) c; ends = ends_at s1 (left.refusals i) c } in
      one ∙ (λ i. put (at-Grows left-grows c listed e0 held i) (is i))

  pub left-other : (c : List ℕ) → IsConfig s0.arities c → s0.has branch.cond.0 c ≡ false → at mid e1 c ≡ at old e0 c
  left-other c listed lacks = left-at c listed (seen_at old e0.top.work c) (left.others c listed lacks).0

  -- what is to be done at the name of the call
  module _ (form : declared_form.Form) (items : List declared_item.Item) (head : Hidden) (is_branch : IsBranch old e0 branch) (function : IsTrue (is_function_like (seen_form names form))) (fit : Option (List (List Hidden)))
      (fits : (parameters : List (List ℕ)) (variadic : Option Rest) → seen_form names form ≡ function_like parameters variadic
      → seen_fit names e0.sets fit ≡ arguments_for parameters (is_some variadic) (parted (length parameters) 0 (seen_list names e0.sets between))) where
    left-case : (c : List ℕ) (provenance : Provenance Place) (macros : Macros) (d : Definition) (rest : List (HiddenToken Place)) → IsConfig s0.arities c → s0.has branch.cond.0 c ≡ true
        → (at old e0 c).view.work ≡ seen_hidden names e0.sets head ∷ rest → IsMacro old provenance macros form items head d
        → case_of macros (seen_hidden names e0.sets head) rest ≡ fitted_case d (seen_hidden names e0.sets close) (seen_at mid e1.top.work c) (seen_fit names e0.sets fit)
    left-case c provenance macros d rest listed has work is =
        let t = seen_hidden names e0.sets head in
        let f = function-form (seen_form names form) function in
        let after = seen_at mid e1.top.work c in
        let behind = rest-is old e0.top.work c t rest (is_branch.each c listed has).stands work in
        ap (case_of macros t) behind
        ∙ (case-closed macros t d is.looked_up is.defined f.parameters f.variadic (is.formed ∙ f.is) (seen_at old (drop 1 e0.top.work) c) (seen_list names e0.sets between) (seen_hidden names e0.sets close) after (left.call c listed has)
        ∙ ap (fitted_case d (seen_hidden names e0.sets close) after) (sym (fits f.parameters f.variadic f.is)))

    module _ (names2 : List (List ℕ)) (s2 : Sets) (e2 : Expansion) (grows : Grows mid (stores s2 names2 e2.sets)) (kept : KeepsWork e1 e2)
        (later_held : (n : ℕ) → IsHeldExpansion old n e0 → IsHeldExpansion (stores s2 names2 e2.sets) n e2)
        (others : (c : List ℕ) → IsConfig s1.arities c → s1.has branch.cond.0 c ≡ false → at (stores s2 names2 e2.sets) e2 c ≡ at mid e1 c)
        (alike : (c d : List ℕ) (span : Span) → IsConfig s1.arities c → IsConfig s1.arities d → IsAlike s1 c d branch.cond → IsAlikeIn s1 c d span e1 → IsAlikeIn s2 c d span e2) where
      abbrev new : Stores
      new = stores s2 names2 e2.sets

      has-later : (c : List ℕ) → IsConfig s0.arities c → s1.has branch.cond.0 c ≡ s0.has branch.cond.0 c
      has-later c listed = left.keeps.at branch.cond.0 c is_branch.own listed

      gathered-first : (c place : List ℕ) → IsConfig s0.arities c → lists_at s0 (branch ∷ []) c ≡ place ∷ [] → has_first s2 e2.top.work c ≡ false
      gathered-first c place listed lists =
          ap (λ l. has_first s2 l c) kept.work ∙ (has_first-Keeps grows.sets e1.top.work left-work.own c (IsConfig-Keeps left.keeps listed) ∙ left.first c listed (one-has (s0.has branch.cond.0 c) branch.places.items place lists))

      gathered-others : (c : List ℕ) → IsConfig s0.arities c → lists_at s0 (branch ∷ []) c ≡ [] → (at new e2 c ≡ at old e0 c) × (has_each s2 e2.top.work c ≡ has_each s0 e0.top.work c)
      gathered-others c listed lists =
          let lacks = lacks-first (s0.has branch.cond.0 c) branch.places.items [] lists in
          let listed1 = IsConfig-Keeps left.keeps listed in (
            others c listed1 (has-later c listed ∙ lacks) ∙ left-other c listed lacks,
            ap (λ l. has_each s2 l c) kept.work ∙ (has_each-Keeps e1.top.work c grows.sets left-work.own listed1 ∙ (left.others c listed lacks).1),
          )

      gathered-rest : (c : List ℕ) → IsConfig s0.arities c → HasLast s0 s2 e0.top.work e2.top.work c
      gathered-rest c listed = last-later (left.rest c listed) (ap (λ l. has_each s2 l c) kept.work ∙ has_each-Keeps e1.top.work c grows.sets left-work.own (IsConfig-Keeps left.keeps listed))

      gathered-lists : KeepsLists e0 e2
      gathered-lists =
          let tokens = λ (l : List (Cond × Hidden)). map (λ (item : Cond × Hidden). item.1) l in
          record { below = kept.below ∙ left.below; rest = kept.rest ∙ left.waiting; out = kept.out ∙ ap (λ (f : Frame). f.out) left.top; tokens = ap tokens kept.work ∙ left.tokens }

      gathered-alike : (c d : List ℕ) (span : Span) → IsConfig s0.arities c → IsConfig s0.arities d → All (λ b. IsAlike s0 c d b.cond) (branch ∷ []) → IsAlikeIn s0 c d span e0 → IsAlikeIn s2 c d span e2
      gathered-alike c d span at_c at_d branches was =
          let same = All-head (λ (b : Branch). IsAlike s0 c d b.cond) branch [] branches in
          alike c d span (IsConfig-Keeps left.keeps at_c) (IsConfig-Keeps left.keeps at_d) (IsAlike-Keeps left.keeps at_c at_d is_branch.own same) (left.alike c d span at_c at_d same was)

      pub begun-gathered : (raw : List (List Hidden)) → fit ≡ Some raw → IsHeldHidden names e0.sets head → IsHeldHidden names e0.sets close → AreHeldArguments names e0.sets raw → IsHeldForm names form → All (IsHeldItem names) items
          → HasBegun mid new e1 e2 branch.cond.0 form items head close raw → AreGathered old new e0 e2 form items head (branch ∷ [])
      begun-gathered raw some head_held close_held raw_held form_held items_held begun = record {
        held = later_held;
        lists = gathered-lists;
        gathers = λ c place provenance macros d rest listed lists work is.
            let has = one-has (s0.has branch.cond.0 c) branch.places.items place lists in
            let later = Extends-trans left-grows.hides grows.hides in
            let t = seen_hidden names e0.sets head in
            let x = seen_hidden names e0.sets close in
            let arguments = seen_arguments names e0.sets raw in
            let after = seen_at mid e1.top.work c in
            let B : HiddenToken Place → HiddenToken Place → List (List (HiddenToken Place)) → Type 0 = λ t x l. Begins provenance d t x l (at mid e1 c) (at new e2 c) in
            let begins = begun.begins c provenance d (IsConfig-Keeps left.keeps listed) (has-later c listed ∙ has) (is.formed ∙ sym (form_later form form_held grows.names)) (is.list ∙ sym (items_later items items_held grows.names)) in
            let one = subst (λ t. B t (seen_hidden names2 e2.sets close) (seen_arguments names2 e2.sets raw)) (hidden_later head head_held grows.names later) begins in
            let two = subst (λ x. B t x (seen_arguments names2 e2.sets raw)) (hidden_later close close_held grows.names later) one in
            let three = subst (λ l. B t x l) (seen_arguments-later raw raw_held grows.names later) two in
            let case = left-case c provenance macros d rest listed has work is ∙ ap (λ o. fitted_case d x after (seen_fit names e0.sets o)) some in
            begun-gathers provenance macros t rest after (at old e0 c) (at mid e1 c) (at new e2 c) work (is_branch.each c listed has).calls (left-at c listed after refl) d x arguments case three;
        first = gathered-first;
        others = gathered-others;
        alike = gathered-alike;
        rest = gathered-rest;
      }

      pub misfit-gathered : fit ≡ None → ((c : List ℕ) → IsConfig s1.arities c → s1.has branch.cond.0 c ≡ true → (at new e2 c).live ≡ false)
          → ((c : List ℕ) → IsConfig s1.arities c → s1.has branch.cond.0 c ≡ true → (at new e2 c).ends ≡ with_end (at mid e1 c).ends (turn.fails (failure_at WrongArguments (seen_hidden names e0.sets head))))
          → AreGathered old new e0 e2 form items head (branch ∷ [])
      misfit-gathered none dead ends = record {
        held = later_held;
        lists = gathered-lists;
        gathers = λ c place provenance macros d rest listed lists work is.
            let has = one-has (s0.has branch.cond.0 c) branch.places.items place lists in
            let listed1 = IsConfig-Keeps left.keeps listed in
            let has1 = has-later c listed ∙ has in
            let t = seen_hidden names e0.sets head in
            let after = seen_at mid e1.top.work c in
            let case = left-case c provenance macros d rest listed has work is ∙ ap (λ o. fitted_case d (seen_hidden names e0.sets close) after (seen_fit names e0.sets o)) none in
            misfit-gathers provenance macros t rest after (at old e0 c) (at mid e1 c) (at new e2 c) work (is_branch.each c listed has).calls (left-at c listed after refl) case (dead c listed1 has1) (ends c listed1 has1);
        first = gathered-first;
        others = gathered-others;
        alike = gathered-alike;
        rest = gathered-rest;
      }

-- ---- what is so of each token between the parentheses of a call is so of those of its arguments

module _ {P : Type 0} (F : HiddenToken P → Type 0) where
  abbrev Each : List (List (HiddenToken P)) → Type 0
  Each lists = All (All F) lists

  each-onto : (t : HiddenToken P) (lists : List (List (HiddenToken P))) → F t → Each lists → Each (onto_argument t lists)
  each-onto t [] here all = All-cons (All F) (t ∷ []) [] (All-cons F t [] here (All-nil F)) (All-nil (All F))
  each-onto t (l ∷ lists) here all = All-cons (All F) (t ∷ l) lists (All-cons F t l here (All-head (All F) l lists all)) (All-tail (All F) l lists all)

  each-apart : (lists : List (List (HiddenToken P))) → Each lists → Each ([] ∷ lists)
  each-apart lists all = All-cons (All F) [] lists (All-nil F) all

  each-step : (role : Role) (c d : ℕ) (t : HiddenToken P) (go : ℕ → ℕ → List (List (HiddenToken P))) → F t → ((c d : ℕ) → Each (go c d)) → Each (parting_step role c d t go)
  each-step opening c d t go here all = each-onto t (go c (suc d)) here (all c (suc d))
  each-step closing c zero t go here all = each-onto t (go c zero) here (all c zero)
  each-step closing c (suc d) t go here all = each-onto t (go c d) here (all c d)
  each-step comma (suc c) zero t go here all = each-apart (go c zero) (all c zero)
  each-step comma zero zero t go here all = each-onto t (go zero zero) here (all zero zero)
  each-step comma zero (suc d) t go here all = each-onto t (go zero (suc d)) here (all zero (suc d))
  each-step comma (suc c) (suc d) t go here all = each-onto t (go (suc c) (suc d)) here (all (suc c) (suc d))
  each-step other c d t go here all = each-onto t (go c d) here (all c d)

  each-parted : (c d : ℕ) (ts : List (HiddenToken P)) → All F ts → Each (parted c d ts)
  each-parted c d [] all = All-cons (All F) [] [] (All-nil F) (All-nil (All F))
  each-parted c d (t ∷ ts) all = each-step (role_of t.spelling) c d t (λ c d. parted c d ts) (All-head F t ts all) (λ c d. each-parted c d ts (All-tail F t ts all))

  each-given : (parameters : List (List ℕ)) (variadic : Bool) (lists : List (List (HiddenToken P))) → Each lists → Each (given parameters variadic lists)
  each-given [] false lists all = by (is_nothing lists)
    where
      by : (b : Bool) → Each (if b then [] else lists)
      by true = All-nil (All F)
      by false = all
  each-given [] true lists all = all
  each-given (p ∷ ps) variadic lists all = all

  each-filled : (parameters : List (List ℕ)) (variadic : Bool) (lists : List (List (HiddenToken P))) → Each lists → Each (filled_up parameters variadic lists)
  each-filled parameters variadic lists all = by (variadic && length lists == length parameters)
    where
      by : (b : Bool) → Each (if b then lists ++ [] ∷ [] else lists)
      by true = All-append (All F) lists ([] ∷ []) all (All-cons (All F) [] [] (All-nil F) (All-nil (All F)))
      by false = all

  each-fitting : (parameters : List (List ℕ)) (variadic : Bool) (lists fit : List (List (HiddenToken P))) → Each lists → arguments_for parameters variadic lists ≡ Some fit → Each fit
  each-fitting parameters variadic lists fit all is = by (counts_for parameters variadic (length (given parameters variadic lists))) is
    where
      made : List (List (HiddenToken P))
      made = filled_up parameters variadic (given parameters variadic lists)

      by : (b : Bool) → (if b then Some made else None) ≡ Some fit → Each fit
      by true e = let same : made ≡ fit = cc in subst Each same (each-filled parameters variadic (given parameters variadic lists) (each-given parameters variadic lists all))
      by false e = absurd (cc)

-- the arguments stand in files that the table tells where the tokens of the call do
pub arguments-held : (st : Stores) (files : ℕ) (between : List Hidden) (raw : List (List Hidden)) (parameters : List (List ℕ)) (variadic : Bool)
    → arguments_for parameters variadic (parted (length parameters) 0 (seen_list st.names st.hides between)) ≡ Some (seen_arguments st.names st.hides raw)
    → All (IsHeldToken st files) between → All (All (IsHeldHidden st.names st.hides)) raw → All (All (IsHeldToken st files)) raw
arguments-held st files between raw parameters variadic fits held own =
    let see = seen_hidden st.names st.hides in
    let F : HiddenToken Place → Type 0 = λ t. t.place.file.0 < files in
    let each : List Hidden → List (HiddenToken Place) = seen_list st.names st.hides in
    let here : All F (seen_list st.names st.hides between) = All-map F see between (λ k d h. (held k d h).file) in
    let all : All (All F) (map each raw) = each-fitting F parameters variadic (parted (length parameters) 0 (seen_list st.names st.hides between)) (seen_arguments st.names st.hides raw)
    (each-parted F (length parameters) 0 (seen_list st.names st.hides between) here) fits in
    let back : All (λ (a : List Hidden). All F (each a)) raw = all-back (All F) each raw all in
    λ k d h j x i. record { held = own k d h j x i; file = all-back F see (get_or raw k d) (back k d h) j x i }
