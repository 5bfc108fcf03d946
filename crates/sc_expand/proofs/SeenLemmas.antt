-- What a configuration has of held lists, calls and frames stays while the stores grow.
use Rattle.std.proofs.Common.{◌≡◌, ℕ, Bool, true, false, List, [], ◌∷◌, ◌++◌, All, map, reverse, get_or, Ok, refl, sym, ap, subst, ◌∙◌, if◌then◌else◌}
use Rattle.sc_expand.proofs.Facts.{All-append, All-cons, All-head, All-nil, All-tail, All-weaker, Extends-refl, Extends-trans, IsHeldHidden-Extends, IsHeldSet-Extends, IsTable-Extends, IsTable-Keeps, Keeps-refl, Keeps-trans, faults_at-Keeps, hidden_later, hide_later, items_at-append, macros_at-Extends, macros_at-Keeps, map-append, reverse-append}
use Rattle.sc_expand.proofs.Terms.{AreHeld, Call, Cond, Enclosing, Expansion, Fault, Frame, Grows, Hidden, HiddenToken, IsCond, IsConfig, IsHeldCall, IsHeldEnclosing, IsHeldExpansion, IsHeldFrame, IsHeldPartIn, IsHeldRefusals, IsHeldTemplate, IsHeldToken, IsTable, MacroTable, Part, Place, Refusals, Stores, Template, Waiting, Wanted, at, calls_at, ends_at, failures_at, filled_by, is_whole, items_at, macros_at, seen_at, seen_failure, seen_hidden, seen_part, seen_template, seen_wanted, view_at, waiting_at}
use Rattle.sc_expand.specs.declared.call.Template.TheVariants.{Parts, Refused}
use Rattle.sc_subst.specs.declared.part.Part.TheVariants as part

pub Grows-refl : (st : Stores) → Grows st st
Grows-refl st = record { sets = Keeps-refl st.sets; names = Extends-refl st.names; hides = Extends-refl st.hides }

pub Grows-trans : {old mid new : Stores} → Grows old mid → Grows mid new → Grows old new
Grows-trans g h = record { sets = Keeps-trans g.sets h.sets; names = Extends-trans g.names h.names; hides = Extends-trans g.hides h.hides }

-- ---- lists

pub seen_at-append : (st : Stores) (xs ys : List (Cond × Hidden)) (c : List ℕ) → seen_at st (xs ++ ys) c ≡ seen_at st xs c ++ seen_at st ys c
seen_at-append st xs ys c = ap (map (seen_hidden st.names st.hides)) (items_at-append st.sets xs ys c) ∙ map-append (seen_hidden st.names st.hides) (items_at st.sets xs c) (items_at st.sets ys c)

pub AreHeld-append : {st : Stores} {files : ℕ} (xs ys : List (Cond × Hidden)) → AreHeld st files xs → AreHeld st files ys → AreHeld st files (xs ++ ys)
AreHeld-append {st} {files} xs ys a b = record {
  own = All-append (λ (item : Cond × Hidden). IsCond st.sets item.0.0) xs ys a.own b.own;
  held = All-append (λ (item : Cond × Hidden). IsHeldToken st files item.1) xs ys a.held b.held;
}

pub AreHeld-nil : (st : Stores) (files : ℕ) → AreHeld st files []
AreHeld-nil st files = record { own = All-nil (λ (item : Cond × Hidden). IsCond st.sets item.0.0); held = All-nil (λ (item : Cond × Hidden). IsHeldToken st files item.1) }

pub AreHeld-tail : {st : Stores} {files : ℕ} (x : Cond × Hidden) (xs : List (Cond × Hidden)) → AreHeld st files (x ∷ xs) → AreHeld st files xs
AreHeld-tail {st} {files} x xs a = record {
  own = All-tail (λ (item : Cond × Hidden). IsCond st.sets item.0.0) x xs a.own;
  held = All-tail (λ (item : Cond × Hidden). IsHeldToken st files item.1) x xs a.held;
}

same-map : {A B : Type 0} (P : A → Type 0) (f g : A → B) → ((x : A) → P x → f x ≡ g x) → (xs : List A) → All P xs → map f xs ≡ map g xs
same-map P f g same [] held = refl
same-map P f g same (x ∷ xs) held = ap (λ y. y ∷ map f xs) (same x (All-head P x xs held)) ∙ ap (λ ys. g x ∷ ys) (same-map P f g same xs (All-tail P x xs held))

All-back : {A : Type 0} (P : A → Type 0) (xs : List A) → All P xs → All P (reverse xs)
All-back P [] held = All-nil P
All-back P (x ∷ xs) held = subst (All P) (sym (reverse-append (x ∷ []) xs)) (All-append P (reverse xs) (x ∷ []) (All-back P xs (All-tail P x xs held)) (All-cons P x [] (All-head P x xs held) (All-nil P)))

-- ---- the stores grow

module _ {old new : Stores} (grows : Grows old new) where
  pub token-Grows : {files : ℕ} (h : Hidden) → IsHeldToken old files h → IsHeldToken new files h
  token-Grows h held = record { held = IsHeldHidden-Extends h held.held grows.names grows.hides; file = held.file }

  pub seen_hidden-Grows : {files : ℕ} (h : Hidden) → IsHeldToken old files h → seen_hidden new.names new.hides h ≡ seen_hidden old.names old.hides h
  seen_hidden-Grows h held = hidden_later h held.held grows.names grows.hides

  pub AreHeld-Grows : {files : ℕ} (list : List (Cond × Hidden)) → AreHeld old files list → AreHeld new files list
  AreHeld-Grows {files} list held = record {
    own = All-weaker (λ (item : Cond × Hidden). IsCond old.sets item.0.0) (λ item. IsCond new.sets item.0.0) (λ item own. grows.sets.own item.0.0 own) list held.own;
    held = All-weaker (λ (item : Cond × Hidden). IsHeldToken old files item.1) (λ item. IsHeldToken new files item.1) (λ item own. token-Grows item.1 own) list held.held;
  }

  template-Grows : (files : ℕ) (template : Template) → IsHeldTemplate old files template → IsHeldTemplate new files template
  template-Grows files (Parts parts) held = All-weaker (IsHeldPartIn old files) (IsHeldPartIn new files) part-Grows parts.items held
    where
      part-Grows : (p : Part) → IsHeldPartIn old files p → IsHeldPartIn new files p
      part-Grows (part.Token t) held = token-Grows t held
      part-Grows (part.Argument n space) held = tt
  template-Grows files (Refused cause) held = tt

  pub IsHeldCall-Grows : {files : ℕ} (call : Call) → IsHeldCall old files call → IsHeldCall new files call
  IsHeldCall-Grows {files} call held = record {
    own = grows.sets.own call.cond.0 held.own;
    head = token-Grows call.head held.head;
    hide = IsHeldSet-Extends call.hide.0 held.hide grows.names grows.hides;
    template = template-Grows files call.template held.template;
    wanted = All-weaker (λ (w : Wanted). All (IsHeldToken old files) w.tokens) (λ w. All (IsHeldToken new files) w.tokens)
        (λ w own. All-weaker (IsHeldToken old files) (IsHeldToken new files) (λ h own. token-Grows h own) w.tokens own) call.wanted.items held.wanted;
    expanded = All-weaker (AreHeld old files) (AreHeld new files) (λ list own. AreHeld-Grows list own) call.expanded.items held.expanded;
  }

  pub IsHeldFrame-Grows : {files : ℕ} (frame : Frame) → IsHeldFrame old files frame → IsHeldFrame new files frame
  IsHeldFrame-Grows {files} frame held = record {
    work = AreHeld-Grows frame.work held.work;
    out = AreHeld-Grows frame.out held.out;
    calls = All-weaker (IsHeldCall old files) (IsHeldCall new files) (λ call own. IsHeldCall-Grows call own) frame.calls.items held.calls;
  }

  pub IsHeldEnclosing-Grows : {files : ℕ} (e : Enclosing) → IsHeldEnclosing old files e → IsHeldEnclosing new files e
  IsHeldEnclosing-Grows e held = record { frame = IsHeldFrame-Grows e.frame held.frame; call = IsHeldCall-Grows e.call held.call }

  pub IsHeldRefusals-Grows : {files : ℕ} (r : Refusals) → IsHeldRefusals old.sets files r → IsHeldRefusals new.sets files r
  IsHeldRefusals-Grows {files} r held = record {
    live = grows.sets.own r.live.0 held.live;
    own = λ k d h. grows.sets.own (get_or r.faults.items k d).cond.0 (held.own k d h);
    waiting = grows.sets.own _ held.waiting;
    placed = held.placed;
  }

  pub IsHeldExpansion-Grows : {files : ℕ} (e : Expansion) → IsHeldExpansion old files e → IsHeldExpansion new files e
  IsHeldExpansion-Grows {files} e held = record {
    refusals = IsHeldRefusals-Grows e.refusals held.refusals;
    rest = AreHeld-Grows e.rest held.rest;
    top = IsHeldFrame-Grows e.top held.top;
    below = All-weaker (IsHeldEnclosing old files) (IsHeldEnclosing new files) (λ e own. IsHeldEnclosing-Grows e own) e.below.items held.below;
  }

  pub seen_parts-Grows : (files : ℕ) (parts : List Part) → All (IsHeldPartIn old files) parts → map (seen_part new.names new.hides) parts ≡ map (seen_part old.names old.hides) parts
  seen_parts-Grows files parts held = same-map (IsHeldPartIn old files) (seen_part new.names new.hides) (seen_part old.names old.hides) each parts held
    where
      each : (p : Part) → IsHeldPartIn old files p → seen_part new.names new.hides p ≡ seen_part old.names old.hides p
      each (part.Token t) held = ap (λ h. filled_by h) (hidden_later t held.held grows.names grows.hides)
      each (part.Argument n space) held = refl

  module _ (c : List ℕ) (listed : IsConfig old.sets.arities c) where
    pub seen_at-Grows : {files : ℕ} (list : List (Cond × Hidden)) → AreHeld old files list → seen_at new list c ≡ seen_at old list c
    seen_at-Grows {files} [] held = refl
    seen_at-Grows {files} (x ∷ xs) held = by (new.sets.has x.0.0 c) (old.sets.has x.0.0 c) (grows.sets.at x.0.0 c (All-head (λ (item : Cond × Hidden). IsCond old.sets item.0.0) x xs held.own) listed)
        (seen_hidden-Grows x.1 (All-head (λ (item : Cond × Hidden). IsHeldToken old files item.1) x xs held.held)) (seen_at-Grows xs (AreHeld-tail x xs held))
      where
        by : (now was : Bool) → now ≡ was → seen_hidden new.names new.hides x.1 ≡ seen_hidden old.names old.hides x.1 → seen_at new xs c ≡ seen_at old xs c
            → map (seen_hidden new.names new.hides) (if now then x.1 ∷ items_at new.sets xs c else items_at new.sets xs c) ≡ map (seen_hidden old.names old.hides) (if was then x.1 ∷ items_at old.sets xs c else items_at old.sets xs c)
        by true true is same rest = ap (λ h. h ∷ seen_at new xs c) same ∙ ap (λ r. seen_hidden old.names old.hides x.1 ∷ r) rest
        by false false is same rest = rest
        by true false is same rest = absurd (cc)
        by false true is same rest = absurd (cc)

    wanted-Grows : {files : ℕ} (w : Wanted) → All (IsHeldToken old files) w.tokens → seen_wanted new w ≡ seen_wanted old w
    wanted-Grows {files} w held = ap (λ list. (w.parameter, list)) (same-map (IsHeldToken old files) (seen_hidden new.names new.hides) (seen_hidden old.names old.hides) (λ h own. seen_hidden-Grows h own) w.tokens held)

    seen_template-Grows : (files : ℕ) (place : Place) (template : Template) → IsHeldTemplate old files template → seen_template new place template ≡ seen_template old place template
    seen_template-Grows files place (Parts parts) held = ap (λ slots. Ok slots) (seen_parts-Grows files parts.items held)
    seen_template-Grows files place (Refused cause) held = refl

    pub waiting_at-Grows : {files : ℕ} (call : Call) → IsHeldCall old files call → waiting_at new call c ≡ waiting_at old call c
    waiting_at-Grows {files} call held =
        let head = seen_hidden-Grows call.head held.head in
        let template = seen_template-Grows files call.head.token.place call.template held.template in
        let wanted = same-map (λ (w : Wanted). All (IsHeldToken old files) w.tokens) (seen_wanted new) (seen_wanted old) (λ w own. wanted-Grows w own) (reverse call.wanted.items)
        (All-back (λ (w : Wanted). All (IsHeldToken old files) w.tokens) call.wanted.items held.wanted) in
        let expanded = same-map (AreHeld old files) (λ list. seen_at new list c) (λ list. seen_at old list c) (λ list own. seen_at-Grows list own) call.expanded.items held.expanded in
        let names = hide_later call.hide.0 held.hide grows.names grows.hides in
        record_same head template wanted expanded names
      where
        record_same : {h k : HiddenToken Place} {t u : _} {w v : _} {x y : _} {n m : _} → h ≡ k → t ≡ u → w ≡ v → x ≡ y → n ≡ m
            → (let one : Waiting Place = record { head = h; template = t; wanted = w; expanded = x; names = n } in one) ≡ record { head = k; template = u; wanted = v; expanded = y; names = m }
        record_same h t w x n = λ i. record { head = h i; template = t i; wanted = w i; expanded = x i; names = n i }

    pub calls_at-Grows : {files : ℕ} (calls : List Call) → All (IsHeldCall old files) calls → calls_at new calls c ≡ calls_at old calls c
    calls_at-Grows {files} [] held = refl
    calls_at-Grows {files} (x ∷ xs) held =
        let first = All-head (IsHeldCall old files) x xs held in
        ap (λ b. if b then waiting_at new x c ∷ calls_at new xs c else calls_at new xs c) (grows.sets.at x.cond.0 c first.own listed)
        ∙ (ap (λ w. if old.sets.has x.cond.0 c then w ∷ calls_at new xs c else calls_at new xs c) (waiting_at-Grows x first)
        ∙ ap (λ r. if old.sets.has x.cond.0 c then waiting_at old x c ∷ r else r) (calls_at-Grows xs (All-tail (IsHeldCall old files) x xs held)))

    pub view_at-Grows : {files : ℕ} (frame : Frame) → IsHeldFrame old files frame → view_at new frame c ≡ view_at old frame c
    view_at-Grows frame held =
        let out = seen_at-Grows frame.out held.out in
        let work = seen_at-Grows frame.work held.work in
        let calls = calls_at-Grows frame.calls.items held.calls in
        λ i. record { out = out i; work = work i; calls = calls i }

    pub failures_at-Grows : (faults : List Fault) → All (λ f. IsCond old.sets f.cond.0) faults → failures_at new.sets faults c ≡ failures_at old.sets faults c
    failures_at-Grows faults own = ap (map seen_failure) (faults_at-Keeps faults c grows.sets own listed)

    pub ends_at-Grows : {files : ℕ} (r : Refusals) → IsHeldRefusals old.sets files r → ends_at new.sets r c ≡ ends_at old.sets r c
    ends_at-Grows r held =
        let failures = failures_at-Grows r.faults.items held.own in
        let waiting = grows.sets.at r.waiting.0 c held.waiting listed in
        λ i. record { failures = failures i; waiting = waiting i }

    pub at-Grows : {files : ℕ} (e : Expansion) → IsHeldExpansion old files e → at new e c ≡ at old e c
    at-Grows e held =
        let live = grows.sets.at e.refusals.live.0 c held.refusals.live listed in
        let view = view_at-Grows e.top held.top in
        let ends = ends_at-Grows e.refusals held.refusals in
        λ i. record { live = live i; whole = is_whole e.below.items; view = view i; ends = ends i }

-- ---- tables

-- each name stays defined as it was
pub macros_at-Grows : {old new : Stores} {table : MacroTable} → Grows old new → IsTable old.sets old.names table → (c text : List ℕ) → IsConfig old.sets.arities c
    → macros_at new.sets new.names table c text ≡ macros_at old.sets old.names table c text
macros_at-Grows {old} {new} {table} grows is c text listed = macros_at-Extends grows.names (IsTable-Keeps grows.sets is) c text ∙ macros_at-Keeps {names = old.names} grows.sets is c text listed

pub IsTable-Grows : {old new : Stores} {table : MacroTable} → Grows old new → IsTable old.sets old.names table → IsTable new.sets new.names table
IsTable-Grows grows is = IsTable-Extends grows.names (IsTable-Keeps grows.sets is)
