-- A turn of the loop, by what it takes.
use Rattle.std.proofs.Common.{◌≡◌, inl, inr, ℕ, suc, ◌≤◌, Bool, true, false, true≢false, List, [], ◌∷◌, ◌++◌, All, length, append-nil, Option, Some, None, option_to_list, slice_get, refl, sym, ap, subst, ◌∙◌, arith, if◌then◌else◌}
use Rattle.sc_expand.proofs.AlikeLemmas.{alike-leave}
use Rattle.sc_expand.proofs.WaitingLemmas.{bottom-held, bottom-less, bottom-same, more-none, same-left}
use Rattle.sc_expand.proofs.Rests.{IsNone, next-argument, next-call, put-less, put-same, some-same, none-some}
use Rattle.sc_expand.proofs.Facts.{All-head, All-pop, IsConfig-Keeps}
use Rattle.sc_expand.proofs.MachineCalls.{calls_at-append, last-alone}
use Rattle.sc_expand.proofs.MachineGoesOn.{left-held, left-progress}
use Rattle.sc_expand.proofs.MachineLemmas.{stands-cases, turn-progress}
use Rattle.sc_expand.proofs.SeenLemmas.{Grows-refl, seen_at-Grows}
use Rattle.sc_expand.proofs.Terms.{AreHeld, Call, CallNextAlike, Cond, DefineNextAlike, Enclosing, Expansion, Frame, Grows, HasLast, HasMore, Hidden, IsAlikeCall, IsAlikeEnclosing, IsAlikeExpansion, IsAlikeFrame, IsConfig, IsExpansion, IsFirstIn, IsHeldCall, IsHeldEnclosing, IsHeldExpansion, IsHeldFrame, IsResumed, Macros, Others, Progress, Sets, Stands, Stores, TakesName, Vec, View, at, at_call, calls_at, others_at, provenance_of, rests, seen_at, state_in, view_at, waiting_at, with_call}
use Rattle.sc_expand.proofs.KeptLemmas.{never-empty}
use Rattle.sc_expand.specs.Running as running
use Rattle.sc_expand.specs.Running.{GoesOn, IsAsLong, IsReady, IsTurned, KeepsLeft, KeepsNext, Pushes, PutsOut, Rest, TakesFirst, bottom, bottom_by, last_of, next_by, next_of, put_by, put_out}
use Rattle.sc_expand.specs.Restricted.{IsPushed}

-- the calls on top are these
abbrev pub with_calls : Expansion → Vec Call → Expansion
with_calls e calls = record e { top = record e.top { calls = calls } }

-- and the lists below
abbrev pub with_below : Expansion → Vec Call → Vec Enclosing → Expansion
with_below e calls below = record e { top = record e.top { calls = calls }; below = below }

-- ---- what was put out

pub put_by-held : {st : Stores} {files : ℕ} (below : List Enclosing) (top : Frame) → All (IsHeldEnclosing st files) below → IsHeldFrame st files top → AreHeld st files (put_by below top)
put_by-held {st} {files} [] top held here = here.out
put_by-held {st} {files} (e ∷ es) top held here = (All-head (IsHeldEnclosing st files) e es held).frame.out

module _ {old new : Stores} (grows : Grows old new) {files : ℕ} (live : ℕ) where
  pub puts-nothing : (list : List (Cond × Hidden)) → AreHeld old files list → PutsOut old new live list list
  puts-nothing list held = record {
    apart = λ c listed refused. seen_at-Grows grows c listed list held;
    some = λ some. λ k d h never. some k d h (record { none = λ c listed. sym (grows.sets.at _ c (held.own k d h) listed) ∙ never.none c (IsConfig-Keeps grows.sets listed) });
  }

  -- the list below all others is as it was
  pub puts-same : (e after : Expansion) → IsHeldExpansion old files e → put_out after ≡ put_out e → PutsOut old new live (put_out e) (put_out after)
  puts-same e after held same = subst (PutsOut old new live (put_out e)) (sym same) (puts-nothing (put_out e) (put_by-held e.below.items e.top held.below held.top))

  -- only the list on top is another
  pub puts-top : (e after : Expansion) → IsHeldExpansion old files e → after.below ≡ e.below → PutsOut old new live e.top.out after.top.out → PutsOut old new live (put_out e) (put_out after)
  puts-top e after held below puts = subst (λ b. PutsOut old new live (put_out e) (put_by b.items after.top)) (sym below) (by e.below.items held.below)
    where
      by : (bs : List Enclosing) → All (IsHeldEnclosing old files) bs → PutsOut old new live (put_by bs e.top) (put_by bs after.top)
      by [] own = puts
      by (b ∷ bs) own = puts-nothing b.frame.out (All-head (IsHeldEnclosing old files) b bs own).frame.out

-- ---- what is known before a turn

pub next-first : (e : Expansion) (item : Cond × Hidden) → e.top.calls.items ≡ [] → slice_get e.top.work 0 ≡ Some item → next_of e ≡ Some item.0
next-first e item none first =
    ap (λ (ks : List Call). next_by (last_of ks) (slice_get e.top.work 0) (last_of e.below.items)) none ∙ ap (λ r. next_by None r (last_of e.below.items)) first

-- nothing is next
next-none : (e : Expansion) → e.top.calls.items ≡ [] → e.top.work ≡ [] → e.below.items ≡ [] → next_of e ≡ None
next-none e none empty less =
    ap (λ (ks : List Call). next_by (last_of ks) (slice_get e.top.work 0) (last_of e.below.items)) none
    ∙ (ap (λ (ts : List (Cond × Hidden)). next_by None (slice_get ts 0) (last_of e.below.items)) empty ∙ ap (λ (es : List Enclosing). next_by None None (last_of es)) less)

module _ (st : Stores) (c : List ℕ) where
  few-calls : {below : List Enclosing} {v : View} → Stands st c below v → length v.calls ≤ 1
  few-calls stands = elim (stands-cases st c stands) [ inl top ↦ top.1 | inr below ↦ subst (λ (v : View). length v.calls ≤ 1) (sym below.1) (omega arith) ]

  module _ (e : Expansion) (calls : Vec Call) (call : Call) (popped : e.top.calls.items ≡ calls.items ++ call ∷ []) where
    pub calls-popped : calls_at st e.top.calls.items c ≡ calls_at st calls.items c ++ (if st.sets.has call.cond.0 c then waiting_at st call c ∷ [] else [])
    calls-popped = ap (λ l. calls_at st l c) popped ∙ calls_at-append st c calls.items (call ∷ [])

    -- a configuration of the call has no other
    pub call-alone : Stands st c e.below.items (view_at st e.top c) → st.sets.has call.cond.0 c ≡ true → calls_at st calls.items c ≡ []
    call-alone stands has =
        let whole = calls-popped ∙ ap (λ b. calls_at st calls.items c ++ (if b then waiting_at st call c ∷ [] else [])) has in
        last-alone (calls_at st calls.items c) (waiting_at st call c) (subst (λ l. length l ≤ 1) whole (few-calls stands))

    pub at_call-popped : at_call st (with_calls e calls) call c ≡ at st e c
    at_call-popped =
        ap (λ v. record (at st e c) { view = v }) (by (st.sets.has call.cond.0 c)
        ∙ ap (λ l. record (view_at st e.top c) { calls = l }) (sym calls-popped))
      where
        v : View
        v = view_at st (record e.top { calls = calls }) c

        by : (b : Bool) → (if b then with_call v (waiting_at st call c) else v) ≡ record (view_at st e.top c) { calls = calls_at st calls.items c ++ (if b then waiting_at st call c ∷ [] else []) }
        by true = refl
        by false = ap (λ l. record (view_at st e.top c) { calls = l }) (sym (append-nil (calls_at st calls.items c)))

  -- no call was popped
  pub at-none : (e : Expansion) (calls : Vec Call) → IsNone Call e.top.calls.items calls.items → at st (with_calls e calls) c ≡ at st e c
  at-none e calls none = ap (λ l. record (at st e c) { view = record (view_at st e.top c) { calls = calls_at st l c } }) (none.after ∙ sym none.before)

-- ---- held

module _ {st : Stores} {files : ℕ} (e : Expansion) (held : IsHeldExpansion st files e) (calls : Vec Call) where
  pub popped-held : (r : Option Call) → e.top.calls.items ≡ calls.items ++ option_to_list r → IsHeldExpansion st files (with_calls e calls)
  popped-held r popped = record {
    refusals = held.refusals;
    rest = held.rest;
    top = record { work = held.top.work; out = held.top.out; calls = (All-pop (IsHeldCall st files) e.top.calls.items calls.items r popped held.top.calls).0 };
    below = held.below;
  }

  pub call-held : (call : Call) → e.top.calls.items ≡ calls.items ++ call ∷ [] → IsHeldCall st files call
  call-held call popped = (All-pop (IsHeldCall st files) e.top.calls.items calls.items (Some call) popped held.top.calls).1

  pub below-held : (r : Option Call) (below : Vec Enclosing) (o : Option Enclosing) → e.top.calls.items ≡ calls.items ++ option_to_list r → e.below.items ≡ below.items ++ option_to_list o → IsHeldExpansion st files (with_below e calls below)
  below-held r below o popped less = record {
    refusals = held.refusals;
    rest = held.rest;
    top = (popped-held r popped).top;
    below = (All-pop (IsHeldEnclosing st files) e.below.items below.items o less held.below).0;
  }

  pub enclosing-held : (below : Vec Enclosing) (o : Enclosing) → e.below.items ≡ below.items ++ o ∷ [] → IsHeldEnclosing st files o
  enclosing-held below o less = (All-pop (IsHeldEnclosing st files) e.below.items below.items (Some o) less held.below).1

none-split : {A : Type 0} {xs ys : List A} → IsNone A xs ys → xs ≡ ys ++ []
none-split none = none.before ∙ ap (λ ks. ks ++ []) (sym none.after)

-- ---- what two configurations have alike

module _ {s : Sets} {c d : List ℕ} {others : Others} (e : Expansion) (alike : IsAlikeExpansion s c d others e) (calls : Vec Call) where
  popped-alike : (r : Option Call) → e.top.calls.items ≡ calls.items ++ option_to_list r → IsAlikeExpansion s c d others (with_calls e calls)
  popped-alike r popped = record {
    refusals = alike.refusals;
    top = record { work = alike.top.work; out = alike.top.out; calls = (All-pop (IsAlikeCall s c d) e.top.calls.items calls.items r popped alike.top.calls).0 };
    below = alike.below;
  }

  call-alike : (call : Call) → e.top.calls.items ≡ calls.items ++ call ∷ [] → IsAlikeCall s c d call
  call-alike call popped = (All-pop (IsAlikeCall s c d) e.top.calls.items calls.items (Some call) popped alike.top.calls).1

  -- there is no call
  none-alike : IsNone Call e.top.calls.items calls.items → IsAlikeExpansion s c d others (with_calls e calls)
  none-alike none = popped-alike None (none-split none)

  -- and no list below
  alone-alike : (below : Vec Enclosing) → IsNone Call e.top.calls.items calls.items → IsNone Enclosing e.below.items below.items → IsAlikeExpansion s c d others (with_below e calls below)
  alone-alike below none less =
      let lists : e.below.items ≡ below.items = less.before ∙ sym less.after in
      record {
        refusals = alike.refusals;
        top = subst (λ (l : List Enclosing). IsAlikeFrame s c d (others_at others (length l)) (with_calls e calls).top) lists (none-alike none).top;
        below = subst (λ l. (n : ℕ) (o : Enclosing) → slice_get l n ≡ Some o → IsAlikeEnclosing s c d (others_at others n) o) lists alike.below;
      }

-- what the next turn takes, where no call was popped
module _ {st : Stores} {macros : Macros} {c : List ℕ} (e : Expansion) (calls : Vec Call) (none : IsNone Call e.top.calls.items calls.items) where
  pub takes-name : TakesName st macros (with_calls e calls) c → TakesName st macros e c
  takes-name takes = record { item = takes.item; first = takes.first; calls = none.before; has = takes.has; live = takes.live; looked_up = takes.looked_up; function = takes.function }

  defines-next : {other : Macros} → DefineNextAlike st macros other c e → DefineNextAlike st macros other c (with_calls e calls)
  defines-next defines = record { same = λ item first empty has live looks. defines.same item first none.before has live looks }

  calls-next : {d : List ℕ} → CallNextAlike st macros c d e → CallNextAlike st macros c d (with_calls e calls)
  calls-next call = record { same = λ takes. call.same (takes-name takes) }

first-next : {others : Others} (e : Expansion) (calls : Vec Call) → IsNone Call e.top.calls.items calls.items → IsFirstIn others e → IsFirstIn others (with_calls e calls)
first-next e calls none inside = record { is = λ item first empty. inside.is item first none.before }

-- ---- the list below all others

-- it stays as the first token of the list on top is taken, or is that list
module _ {old new : Stores} (grows : Grows old new) (e after : Expansion) (same : after.below ≡ e.below) (none : e.top.calls.items ≡ []) (item : Cond × Hidden) (first : slice_get e.top.work 0 ≡ Some item) where
  rest-taken : {files : ℕ} {c : List ℕ} → IsHeldExpansion old files e → IsConfig old.sets.arities c → HasLast old.sets new.sets e.top.work after.top.work c → Rest old new e after c
  rest-taken {files} {c} held p last = by e.below.items refl
    where
      by : (bs : List Enclosing) → e.below.items ≡ bs → Rest old new e after c
      by [] is =
          let was : (bottom e).work ≡ e.top.work = ap (λ l. (bottom_by l e.top).work) is in
          let now : (bottom after).work ≡ after.top.work = ap (λ b. (bottom_by b.items after.top).work) same ∙ ap (λ l. (bottom_by l after.top).work) is in
          running.took item is none first (subst (λ l. HasLast old.sets new.sets l (bottom after).work c) (sym was) (subst (λ l. HasLast old.sets new.sets e.top.work l c) (sym now) last))
      by (b ∷ bs) is =
          let was : (bottom e).work ≡ b.frame.work = ap (λ l. (bottom_by l e.top).work) is in
          let now : (bottom after).work ≡ b.frame.work = ap (λ b. (bottom_by b.items after.top).work) same ∙ ap (λ l. (bottom_by l after.top).work) is in
          running.put (more-none grows.sets p (bottom e).work (bottom after).work (bottom-held e held) (now ∙ sym was))

  long-taken : length e.top.work ≤ suc (length after.top.work) → IsAsLong e after
  long-taken long = by e.below.items refl
    where
      by : (bs : List Enclosing) → e.below.items ≡ bs → IsAsLong e after
      by [] is =
          let was : (bottom e).work ≡ e.top.work = ap (λ l. (bottom_by l e.top).work) is in
          let now : (bottom after).work ≡ after.top.work = ap (λ b. (bottom_by b.items after.top).work) same ∙ ap (λ l. (bottom_by l after.top).work) is in
          running.but_first item is none first (omega (arith, long, ap length was, ap length now))
      by (b ∷ bs) is =
          let was : (bottom e).work ≡ b.frame.work = ap (λ l. (bottom_by l e.top).work) is in
          let now : (bottom after).work ≡ b.frame.work = ap (λ b. (bottom_by b.items after.top).work) same ∙ ap (λ l. (bottom_by l after.top).work) is in
          running.all (omega (arith, ap length was, ap length now))

  -- only what is put out there is put out of the whole list
  push-taken : ((x : Cond × Hidden) → slice_get e.top.work 0 ≡ Some x → (cond : Cond) × IsPushed new.sets cond x.1 e.top.out after.top.out) → Pushes new.sets e after true
  push-taken pushes = by e.below.items refl
    where
      by : (bs : List Enclosing) → e.below.items ≡ bs → Pushes new.sets e after true
      by [] is =
          let was : put_out e ≡ e.top.out = ap (λ l. put_by l e.top) is in
          let now : put_out after ≡ after.top.out = ap (λ b. put_by b.items after.top) same ∙ ap (λ l. put_by l after.top) is in
          let p = pushes item first in
          running.first item p.0 is none first (subst (λ (z : List (Cond × Hidden) × List (Cond × Hidden)). IsPushed new.sets p.0 item.1 z.0 z.1) (λ i. (sym was i, sym now i)) p.1)
      by (b ∷ bs) is = running.nothing (ap (λ b. put_by b.items after.top) same ∙ (ap (λ l. put_by l after.top) is ∙ sym (ap (λ l. put_by l e.top) is)))

-- it is as it was
module _ (st : Stores) (e after : Expansion) (same : (bottom after).work ≡ (bottom e).work) where
  rest-same : {files : ℕ} {c : List ℕ} → IsHeldExpansion st files e → IsConfig st.sets.arities c → Rest st st e after c
  rest-same held p = running.put (more-none (Grows-refl st).sets p (bottom e).work (bottom after).work (bottom-held e held) same)

  long-same : IsAsLong e after
  long-same = running.all (omega (arith, ap length same))

-- ---- what waits, where a call was popped

left-over : {old new : Stores} (e after : Expansion) (calls : Vec Call) (r : Option Call) → e.top.calls.items ≡ calls.items ++ option_to_list r → KeepsLeft old new (with_calls e calls) after → KeepsLeft old new e after
left-over {old} {new} e after calls r popped kept = record {
  left = λ c listed apart waits. kept.left c listed apart waits ∙ ap (λ (l : List (Cond × Hidden)). seen_at old e.rest c ++ seen_at old l c) (bottom-same e.below.items (with_calls e calls).top e.top refl);
  put = λ c listed apart waits. kept.put c listed apart waits ∙ ap (λ (l : List (Cond × Hidden)). seen_at old l c) (put-same e.below.items (with_calls e calls).top e.top refl);
  others = kept.others;
  some = kept.some;
}

keeps-over : {old new : Sets} (e after : Expansion) (calls : Vec Call) → IsNone Call e.top.calls.items calls.items → KeepsNext old new (with_calls e calls) after true → KeepsNext old new e after true
keeps-over e after calls none (running.nothing_kept empty same) = running.nothing_kept (λ whole uncalled. empty whole none.after) same
keeps-over e after calls none (running.first_kept item cond whole empty first put has) = running.first_kept item cond whole none.before first put has

-- ---- turns

module _ {old new : Stores} (grows : Grows old new) (files : List (List ℕ)) (macros : List ℕ → Macros) (e after : Expansion) (is : IsExpansion old (length files) e) where
  -- a turn of the configurations that have what is next
  next-turn : (next : Cond) → next_of e ≡ Some next → IsReady old.sets e → IsHeldExpansion new (length files) after → PutsOut old new e.refusals.live.0 (put_out e) (put_out after) → Pushes new.sets e after true → KeepsLeft old new e after → KeepsNext old.sets new.sets e after true
      → IsAsLong e after → ((c : List ℕ) → IsConfig old.sets.arities c → Rest old new e after c)
      → ((c d : List ℕ) (others : Others) → IsConfig old.sets.arities c → IsConfig old.sets.arities d → DefineNextAlike old (macros c) (macros d) c e → CallNextAlike old (macros c) c d e → IsFirstIn others e
      → IsAlikeExpansion old.sets c d others e → IsAlikeExpansion new.sets c d others after)
      → ((c : List ℕ) → IsConfig old.sets.arities c → Progress (provenance_of files) (macros c) old new c e.below.items after.below.items (at old e c) (at new after c) (old.sets.has next.0 c)) → IsTurned files macros old new e after true
  next-turn next here ready held out pushes left keeps long rest alike progress = record {
    grows = grows;
    held = held;
    out = out;
    pushes = pushes;
    takes = λ c. old.sets.has next.0 c;
    progress = progress;
    left = left;
    keeps = keeps;
    long = long;
    which = λ cond is c. ap (λ (k : Cond). old.sets.has k.0 c) (some-same (sym here ∙ is));
    some = λ went. ready.some next here;
    ended = λ not. absurd (true≢false not);
    alike = alike;
    rest = rest;
  }

  pub called-turn : (calls : Vec Call) (call : Call) → e.top.calls.items ≡ calls.items ++ call ∷ [] → IsReady old.sets e → GoesOn old new (with_calls e calls) after call → IsTurned files macros old new e after true
  called-turn calls call popped ready gone =
      let whole : (bottom (with_calls e calls)).work ≡ (bottom e).work = bottom-same e.below.items (with_calls e calls).top e.top refl in
      let out : put_out after ≡ put_out e = gone.out ∙ put-same e.below.items (with_calls e calls).top e.top refl in
      next-turn call.cond (next-call e calls.items call popped) ready
      (gone.held (length files) (popped-held e is.held calls (Some call) popped) (call-held e is.held calls call popped))
      (puts-same grows e.refusals.live.0 e after is.held out)
      (running.nothing out)
      (left-over e after calls (Some call) popped (gone.left (length files) (popped-held e is.held calls (Some call) popped) (call-held e is.held calls call popped)))
      (running.nothing_kept (λ whole none. absurd (never-empty calls.items call (sym popped ∙ none))) gone.waits)
      (running.all (omega (arith, gone.long, ap length whole)))
      (λ c listed. running.put (subst (λ l. HasMore old.sets new.sets l (bottom after).work c) whole (gone.rest c listed)))
      (λ c d others p q defines same inside both. gone.alike c d others p q (call-alike e both calls call popped) (popped-alike e both calls (Some call) popped))
      (λ c listed. subst (λ a. Progress (provenance_of files) (macros c) old new c e.below.items after.below.items a (at new after c) (old.sets.has call.cond.0 c)) (at_call-popped old c e calls call popped) (gone.progress files (macros c) c listed))

  pub taken-turn : (calls : Vec Call) → IsNone Call e.top.calls.items calls.items → (item : Cond × Hidden) → slice_get e.top.work 0 ≡ Some item → IsReady old.sets e
      → TakesFirst files macros old new (with_calls e calls) after item.0.0 → IsTurned files macros old new e after true
  taken-turn calls none item first ready taken = next-turn item.0 (next-first e item none.before first) ready taken.held
      (puts-top grows e.refusals.live.0 e after is.held taken.below taken.out)
      (push-taken grows e after taken.below none.before item first taken.pushes)
      (left-over e after calls None (none-split none) taken.left)
      (keeps-over e after calls none taken.keeps)
      (long-taken grows e after taken.below none.before item first taken.long)
      (λ c listed. rest-taken grows e after taken.below none.before item first is.held listed (taken.rest c listed))
      (λ c d others p q defines same inside both. taken.alike c d others p q (defines-next e calls none defines) (calls-next e calls none same) (first-next e calls none inside) (none-alike e both calls none))
      (λ c listed.
      let progress = turn-progress (provenance_of files) (macros c) grows (length files) c listed e.below.items is.held.below refl (taken.turns c listed) in
      subst (λ b. Progress (provenance_of files) (macros c) old new c e.below.items b.items (at old e c) (at new after c) (old.sets.has item.0.0 c)) (sym taken.below)
      (subst (λ a. Progress (provenance_of files) (macros c) old new c e.below.items e.below.items a (at new after c) (old.sets.has item.0.0 c)) (at-none old c e calls none) progress))

-- a finished argument is left
module _ (st : Stores) (files : List (List ℕ)) (macros : List ℕ → Macros) (e after : Expansion) (is : IsExpansion st (length files) e) where
  left-bottom : (below : Vec Enclosing) (o : Enclosing) → e.below.items ≡ below.items ++ o ∷ [] → after.top.work ≡ o.frame.work → after.below ≡ below → (bottom after).work ≡ (bottom e).work
  left-bottom below o less work later =
      ap (λ b. (bottom_by b.items after.top).work) later
      ∙ (bottom-same below.items after.top o.frame work ∙ (sym (ap (λ f. f.work) (bottom-less below.items o e.top)) ∙ sym (ap (λ bs. (bottom_by bs e.top).work) less)))

  left-out : (below : Vec Enclosing) (o : Enclosing) → e.below.items ≡ below.items ++ o ∷ [] → after.top.out ≡ o.frame.out → after.below ≡ below → put_out after ≡ put_out e
  left-out below o less out later =
      ap (λ b. put_by b.items after.top) later ∙ (put-same below.items after.top o.frame out ∙ (sym (put-less below.items o e.top) ∙ sym (ap (λ bs. put_by bs e.top) less)))

  pub left-turn : (calls : Vec Call) (below : Vec Enclosing) (o : Enclosing) → IsNone Call e.top.calls.items calls.items → e.top.work ≡ [] → e.below.items ≡ below.items ++ o ∷ [] → IsReady st.sets e
      → IsResumed o e.top.out after.top.calls.items → after.top.work ≡ o.frame.work → after.top.out ≡ o.frame.out → after.refusals ≡ e.refusals → after.below ≡ below → after.rest ≡ e.rest → IsTurned files macros st st e after true
  left-turn calls below o none empty less ready resumed work out refusals later waiting = record {
    grows = Grows-refl st;
    held = left-held (provenance_of files) (macros []) st [] below.items o (with_below e calls below) after resumed work out refusals empty none.after waiting (length files)
        (below-held e is.held calls None below (Some o) (none-split none) less) (enclosing-held e is.held calls below o less) later;
    out = puts-same (Grows-refl st) e.refusals.live.0 e after is.held (left-out below o less out later);
    pushes = running.nothing (left-out below o less out later);
    takes = λ c. st.sets.has o.call.cond.0 c;
    progress = λ c listed.
        subst (λ b. Progress (provenance_of files) (macros c) st st c e.below.items b.items (at st e c) (at st after c) (st.sets.has o.call.cond.0 c)) (sym later)
        (subst (λ bs. Progress (provenance_of files) (macros c) st st c bs below.items (at st e c) (at st after c) (st.sets.has o.call.cond.0 c)) (sym less)
        (left-progress (provenance_of files) (macros c) st c below.items o e after resumed work out refusals empty none.before waiting));
    keeps = running.nothing_kept (λ whole uncalled. empty) waiting;
    left = same-left (Grows-refl st) e after is.held waiting (left-bottom below o less work later) (left-out below o less out later);
    long = long-same st e after (left-bottom below o less work later);
    which = λ cond is c. ap (λ (k : Cond). st.sets.has k.0 c) (some-same (sym (next-argument e below.items o none.before empty less) ∙ is));
    some = λ went. ready.some o.call.cond (next-argument e below.items o none.before empty less);
    ended = λ not. absurd (true≢false not);
    alike = λ c d others p q defines same inside alike. alike-leave st.sets c d others e after below.items o less (ap (λ b. b.items) later) refusals work out resumed alike;
    rest = λ c listed. rest-same st e after (left-bottom below o less work later) is.held listed;
  }

  alone-bottom : (calls : Vec Call) (below : Vec Enclosing) → IsNone Enclosing e.below.items below.items → (bottom (with_below e calls below)).work ≡ (bottom e).work
  alone-bottom calls below less = ap (λ bs. (bottom_by bs (with_calls e calls).top).work) (less.after ∙ sym less.before) ∙ bottom-same e.below.items (with_calls e calls).top e.top refl

  alone-out : (calls : Vec Call) (below : Vec Enclosing) → IsNone Enclosing e.below.items below.items → put_out (with_below e calls below) ≡ put_out e
  alone-out calls below less = ap (λ bs. put_by bs (with_calls e calls).top) (less.after ∙ sym less.before) ∙ put-same e.below.items (with_calls e calls).top e.top refl

  -- nothing was left
  pub no-turn : (calls : Vec Call) (below : Vec Enclosing) → IsNone Call e.top.calls.items calls.items → e.top.work ≡ [] → IsNone Enclosing e.below.items below.items → IsTurned files macros st st e (with_below e calls below) false
  no-turn calls below none empty less = record {
    grows = Grows-refl st;
    held = below-held e is.held calls None below None (none-split none) (none-split less);
    out = puts-same (Grows-refl st) e.refusals.live.0 e (with_below e calls below) is.held (alone-out calls below less);
    pushes = running.nothing (alone-out calls below less);
    takes = λ c. false;
    progress = λ c listed.
        let same = at-none st c e calls none in
        let view = ap (λ a. a.view) same in
        let lists = less.after ∙ sym less.before in
        rests refl refl (λ live stands. (
          subst (λ bs. Stands st c bs (view_at st (record e.top { calls = calls }) c)) (sym lists) (subst (Stands st c e.below.items) (sym view) stands),
          ap (λ v. state_in st e.below.items v c) (sym view) ∙ ap (λ bs. state_in st bs (view_at st (record e.top { calls = calls }) c) c) (sym lists),
        ));
    keeps = running.nothing_kept (λ whole uncalled. empty) refl;
    left = same-left (Grows-refl st) e (with_below e calls below) is.held refl (alone-bottom calls below less) (alone-out calls below less);
    long = long-same st e (with_below e calls below) (alone-bottom calls below less);
    which = λ cond is c. absurd (none-some (sym (next-none e none.before empty less.before) ∙ is));
    some = λ went. absurd (true≢false (sym went));
    ended = λ went. record { below = less.after; work = empty; calls = none.after };
    alike = λ c d others p q defines same inside alike. alone-alike e alike calls below none less;
    rest = λ c listed. rest-same st e (with_below e calls below) (alone-bottom calls below less) is.held listed;
  }
