-- What drops out of the frame on top, with all that is next for refused configurations alone, and
-- what does not: no configuration that was not refused moves.
use Rattle.std.proofs.Common.{◌≡◌, ℕ, zero, suc, ◌-◌, ◌&&◌, Bool, true, false, true≢false, List, [], ◌∷◌, ◌++◌, All, drop, length, map, take, length-append, append-nil, Option, Some, None, slice_get, refl, sym, ap, subst, ◌∙◌, arith, ◌+◌, MatchOption, option_to_list, is_some}
use Rattle.sc_expand.proofs.AlikeLemmas.{All-at, All-but-tail, IsAlikeExpansion-Keeps, enclosing-last, enclosing-others}
use Rattle.sc_expand.proofs.WaitingLemmas.{behind-Keeps, behind-other, bottom-held, bottom-less, bottom-same, kept-held, kept-later}
use Rattle.sc_expand.proofs.Facts.{All-head, All-pop, All-tail, IsConfig-Keeps, IsConfig-kept, Keeps-refl, cond-false, false_from_ne_true, slice_get-seam}
use Rattle.sc_expand.proofs.KeptLemmas.{gone-first, gone-nothing, gone-then, never-empty, not-both}
use Rattle.sc_expand.proofs.MachineCalls.{calls_at-append, leave-other}
use Rattle.sc_expand.proofs.MachineLemmas.{Stands-Grows, state_in-Grows}
use Rattle.sc_expand.proofs.SeenLemmas.{AreHeld-tail, Grows-refl, Grows-trans, IsHeldExpansion-Grows, at-Grows}
use Rattle.sc_expand.proofs.Terms.{AreAlike, AreAlikeRefusals, AreHeld, At, Call, Cond, Denotes, Enclosing, EndsBy, Expansion, Frame, Grows, Hidden, IsAlike, IsAlikeCall, IsAlikeEnclosing, IsAlikeFrame, IsCond, IsConfig, IsDropped, IsHeldCall, IsHeldEnclosing, IsHeldExpansion, IsHeldFrame, IsHeldRefusals, IsNever, IsReady, IsRested, IsUncalled, Keeps, KeepsFirst, KeepsGone, Macros, Moves, Place, Progress, Provenance, Sets, Stands, Stores, Waits, at, behind_at, bottom, bottom_by, calls_at, ends, ends_at, gone, items_at, last_of, next_by, next_of, others_at, put_by, rests, seen_at, seen_hidden, state_in, steps, view_at, waiting_at, with_end}
use Rattle.sc_expand.specs.Running as running
use Rattle.sc_expand.specs.Waiting as waiting

-- ---- what is next

pub last-is : {A : Type 0} (xs : List A) (x : A) → last_of (xs ++ x ∷ []) ≡ Some x
last-is [] x = refl
last-is {A} (y ∷ ys) x = ap (λ n. slice_get ((y ∷ ys) ++ x ∷ []) n) (long (y ∷ ys)) ∙ slice_get-seam (y ∷ ys) x []
  where
    long : (zs : List A) → length (zs ++ x ∷ []) - 1 ≡ length zs
    long zs = omega (arith, length-append zs (x ∷ []))

pub next-call : (e : Expansion) (calls : List Call) (k : Call) → e.top.calls.items ≡ calls ++ k ∷ [] → next_of e ≡ Some k.cond
next-call e calls k is = ap (λ ks. next_by (last_of ks) (slice_get e.top.work 0) (last_of e.below.items)) is ∙ ap (λ r. next_by r (slice_get e.top.work 0) (last_of e.below.items)) (last-is calls k)

pub next-token : (e : Expansion) (item : Cond × Hidden) (rest : List (Cond × Hidden)) → e.top.calls.items ≡ [] → e.top.work ≡ item ∷ rest → next_of e ≡ Some item.0
next-token e item rest none is =
    ap (λ (ks : List Call). next_by (last_of ks) (slice_get e.top.work 0) (last_of e.below.items)) none ∙ ap (λ (ts : List (Cond × Hidden)). next_by None (slice_get ts 0) (last_of e.below.items)) is

pub next-argument : (e : Expansion) (below : List Enclosing) (o : Enclosing) → e.top.calls.items ≡ [] → e.top.work ≡ [] → e.below.items ≡ below ++ o ∷ [] → next_of e ≡ Some o.call.cond
next-argument e below o none empty is =
    ap (λ (ks : List Call). next_by (last_of ks) (slice_get e.top.work 0) (last_of e.below.items)) none
    ∙ (ap (λ (ts : List (Cond × Hidden)). next_by None (slice_get ts 0) (last_of e.below.items)) empty
    ∙ (ap (λ es. next_by None None (last_of es)) is ∙ ap (λ r. next_by None None r) (last-is below o)))

pub some-same : {A : Type 0} {x y : A} → Some x ≡ Some y → x ≡ y
some-same is = cc

pub none-some : {A : Type 0} {x : A} → None ≡ Some x → ⊥
none-some is = cc

pub first-is : {A : Type 0} (xs : List A) (x : A) → slice_get xs 0 ≡ Some x → xs ≡ x ∷ drop 1 xs
first-is [] x is = cc
first-is (y ∷ ys) x is = ap (λ z. z ∷ ys) (some-same is)

-- ---- what was put out

pub put-same : (below : List Enclosing) (t u : Frame) → t.out ≡ u.out → put_by below t ≡ put_by below u
put-same [] t u same = same
put-same (e ∷ es) t u same = refl

pub put-less : (below : List Enclosing) (o : Enclosing) (t : Frame) → put_by (below ++ o ∷ []) t ≡ put_by below o.frame
put-less [] o t = refl
put-less (e ∷ es) o t = refl

-- ---- one turn after another

module _ {provenance : Provenance Place} {macros : Macros} {old mid new : Stores} {c : List ℕ} {one two three : List Enclosing} {x y z : At} where
  -- where a configuration rested, the next turn is the only one
  pub progress-then : (first second : Bool) → first ≡ false → Progress provenance macros old mid c one two x y first → Progress provenance macros mid new c two three y z second → Progress provenance macros old new c one three x z second
  progress-then first second not (rests still same stays) (rests still' same' stays') =
      rests (still' ∙ still) (same' ∙ same) (λ live stands. let r = stays live stands in let q = stays' (still ∙ live) r.0 in (q.0, r.1 ∙ q.1))
  progress-then first second not (rests still same stays) (gone was ended same') = gone (sym still ∙ was) ended (same' ∙ same)
  progress-then first second not (rests still same stays) (steps was now same' free move) =
      steps (sym still ∙ was) now (same' ∙ same) (λ stands w. (let r = stays (sym still ∙ was) stands in free r.0 (subst (Waits macros) r.1 w))) (λ stands. let r = stays (sym still ∙ was) stands in let q = move r.0 in (q.0, subst (λ s. Moves provenance macros s (state_in new three z.view c)) (sym r.1) q.1))
  progress-then first second not (rests still same stays) (ends end was ended same' by) =
      ends end (sym still ∙ was) ended (same' ∙ ap (λ l. with_end l end) same) (λ stands. let r = stays (sym still ∙ was) stands in subst (λ s. EndsBy provenance macros true s end) (sym r.1) (by r.0))
  progress-then first second not (gone was ended same) (rests still' same' stays') = gone was (still' ∙ ended) (same' ∙ same)
  progress-then first second not (gone was ended same) (gone was' ended' same') = gone was ended' (same' ∙ same)
  progress-then first second not (gone was ended same) (steps was' now same' free move) = absurd (true≢false (sym was' ∙ ended))
  progress-then first second not (gone was ended same) (ends end was' ended' same' by) = absurd (true≢false (sym was' ∙ ended))
  progress-then first second not (steps was now same free move) q = absurd (true≢false not)
  progress-then first second not (ends end was ended same by) q = absurd (true≢false not)

-- ---- nothing happens

module _ {old new : Stores} (grows : Grows old new) (e : Expansion) where
  pub rested-Grows : IsRested old new e e
  rested-Grows = record {
    grows = grows;
    refusals = refl;
    sets = refl;
    out = refl;
    held = λ files held. IsHeldExpansion-Grows grows e held;
    progress = λ files provenance macros c held listed.
        let now = at-Grows grows c listed e held in
        let view = ap (λ a. a.view) now in
        rests (ap (λ a. a.live) now) (ap (λ a. a.ends) now) (λ live stands. (
          subst (Stands new c e.below.items) (sym view) (Stands-Grows grows files c listed held.below stands),
          sym (ap (λ v. state_in new e.below.items v c) view ∙ state_in-Grows grows files c listed e.below.items (view_at old e.top c) held.below),
        ));
    keeps = λ files held. gone-nothing new.sets e e refl refl;
    uncalled = λ uncalled. uncalled;
    alike = λ files c d others held p q alike. IsAlikeExpansion-Keeps grows.sets p q others e held alike;
    rest = λ files c held p live. behind-Keeps grows.sets p (bottom e).work (bottom-held e held);
  }

-- ---- what is next drops out, and only refused configurations have it

module _ (st : Stores) (e after : Expansion) (refusals : after.refusals ≡ e.refusals) (sets : after.sets ≡ e.sets) where
  -- a configuration that has it was refused
  by_view : {provenance : Provenance Place} {macros : Macros} (c : List ℕ)
      → (st.sets.has e.refusals.live.0 c ≡ true → Stands st c e.below.items (view_at st e.top c)
      → Stands st c after.below.items (view_at st after.top c) × (state_in st e.below.items (view_at st e.top c) c ≡ state_in st after.below.items (view_at st after.top c) c))
      → Progress provenance macros st st c e.below.items after.below.items (at st e c) (at st after c) false
  by_view c stays = rests (ap (λ r. st.sets.has r.live.0 c) refusals) (ap (λ r. ends_at st.sets r c) refusals) stays

  same_view : (c : List ℕ) → after.below ≡ e.below → view_at st after.top c ≡ view_at st e.top c → Stands st c e.below.items (view_at st e.top c)
      → Stands st c after.below.items (view_at st after.top c) × (state_in st e.below.items (view_at st e.top c) c ≡ state_in st after.below.items (view_at st after.top c) c)
  same_view c below view stands = (
    subst (λ bs. Stands st c bs (view_at st after.top c)) (sym (ap (λ b. b.items) below)) (subst (Stands st c e.below.items) (sym view) stands),
    ap (λ v. state_in st e.below.items v c) (sym view) ∙ ap (λ bs. state_in st bs (view_at st after.top c) c) (sym (ap (λ b. b.items) below)),
  )

  -- the list on top is the one below all others, or another is
  behind-top : (c : List ℕ) (below : List Enclosing) (t u : Frame) → behind_at st.sets u.work c ≡ behind_at st.sets t.work c → behind_at st.sets (bottom_by below u).work c ≡ behind_at st.sets (bottom_by below t).work c
  behind-top c [] t u same = same
  behind-top c (b ∷ bs) t u same = refl

  -- the frame on top has less, and all else is as it was
  rested-top : after.below ≡ e.below → after.top.out ≡ e.top.out
      → ((files : ℕ) → IsHeldExpansion st files e → AreHeld st files after.rest × (AreHeld st files after.top.work × All (IsHeldCall st files) after.top.calls.items))
      → ((c : List ℕ) → IsConfig st.sets.arities c → st.sets.has e.refusals.live.0 c ≡ true
      → (seen_at st after.top.work c ≡ seen_at st e.top.work c) × (calls_at st after.top.calls.items c ≡ calls_at st e.top.calls.items c))
      → KeepsGone st.sets e after → (IsUncalled e → IsUncalled after)
      → ((c d : List ℕ) (n : ℕ) → AreAlike st.sets c d (take (length e.top.work - n) e.top.work) → AreAlike st.sets c d (take (length after.top.work - n) after.top.work))
      → ((c d : List ℕ) → All (IsAlikeCall st.sets c d) e.top.calls.items → All (IsAlikeCall st.sets c d) after.top.calls.items)
      → ((c : List ℕ) → IsConfig st.sets.arities c → st.sets.has e.refusals.live.0 c ≡ true → behind_at st.sets after.top.work c ≡ behind_at st.sets e.top.work c) → IsRested st st e after
  rested-top below out held same keeps uncalled works calls behind = record {
    grows = Grows-refl st;
    refusals = refusals;
    sets = sets;
    out = ap (λ b. put_by b.items after.top) below ∙ put-same e.below.items after.top e.top out;
    held = λ files was.
        let now = held files was in
        record {
          refusals = subst (IsHeldRefusals st.sets files) (sym refusals) was.refusals;
          rest = now.0;
          top = record { work = now.1.0; out = subst (AreHeld st files) (sym out) was.top.out; calls = now.1.1 };
          below = subst (λ b. All (IsHeldEnclosing st files) b.items) (sym below) was.below;
        };
    progress = λ files provenance macros c held listed. by_view c (λ live. same_view c below (
        let lists = same c listed live in
        let first = ap (λ l. seen_at st l c) out in
        λ i. record { out = first i; work = lists.0 i; calls = lists.1 i }));
    keeps = λ files held. keeps;
    uncalled = uncalled;
    alike = λ files c d others held p q alike.
        let here = others_at others (length e.below.items) in
        record {
          refusals = subst (AreAlikeRefusals st.sets c d others.faults) (sym refusals) alike.refusals;
          top = subst (λ b. IsAlikeFrame st.sets c d (others_at others (length b.items)) after.top) (sym below)
              (record { work = works c d here.behind alike.top.work; out = subst (λ l. AreAlike st.sets c d (drop here.out l)) (sym out) alike.top.out; calls = calls c d alike.top.calls });
          below = subst (λ b. (n : ℕ) (o : Enclosing) → slice_get b.items n ≡ Some o → IsAlikeEnclosing st.sets c d (others_at others n) o) (sym below) alike.below;
        };
    rest = λ files c held p live. ap (λ b. behind_at st.sets (bottom_by b.items after.top).work c) below ∙ behind-top c e.below.items e.top after.top (behind c p live);
  }

  -- the first token, also where calls wait
  pub rested-token : (item : Cond × Hidden) → ((c : List ℕ) → IsConfig st.sets.arities c → st.sets.has item.0.0 c ≡ true → st.sets.has e.refusals.live.0 c ≡ true → ⊥)
      → e.top.work ≡ item ∷ after.top.work → after.top.calls.items ≡ e.top.calls.items → after.top.out ≡ e.top.out → after.below ≡ e.below
      → KeepsFirst st.sets st.sets e.refusals.waiting.0 e.below.items e.top.work e.rest after.rest → IsRested st st e after
  rested-token item never work calls out below kept_first =
      let lacks : (c : List ℕ) → IsConfig st.sets.arities c → st.sets.has e.refusals.live.0 c ≡ true → st.sets.has item.0.0 c ≡ false = λ c listed live. false_from_ne_true (st.sets.has item.0.0 c) (λ has. never c listed has live) in
      rested-top below out
      (λ files held. (
        kept-held st (Keeps-refl st.sets) held.top.work.own files held.top.work.held kept_first held.rest,
        (AreHeld-tail item after.top.work (subst (AreHeld st files) work held.top.work), subst (All (IsHeldCall st files)) (sym calls) held.top.calls),
      ))
      (λ c listed live. (
        sym (ap (λ l. seen_at st l c) work
            ∙ ap (map (seen_hidden st.names st.hides)) (cond-false (st.sets.has item.0.0 c) (item.1 ∷ items_at st.sets after.top.work c) (items_at st.sets after.top.work c) (lacks c listed live))),
        ap (λ l. calls_at st l c) calls,
      ))
      (gone-first st.sets e after item work below kept_first)
      (λ uncalled. record { below = ap (λ b. b.items) below ∙ uncalled.below; calls = calls ∙ uncalled.calls })
      (λ c d n all. All-but-tail (λ (x : Cond × Hidden). IsAlike st.sets c d x.0) n item after.top.work (subst (λ l. AreAlike st.sets c d (take (length l - n) l)) work all))
      (λ c d all. subst (All (IsAlikeCall st.sets c d)) (sym calls) all)
      (λ c p live. behind-other st.sets c item e.top.work after.top.work work (lacks c p live))

  pub rested-dropped : ((cond : Cond) → next_of e ≡ Some cond → (c : List ℕ) → IsConfig st.sets.arities c → st.sets.has cond.0 c ≡ true → st.sets.has e.refusals.live.0 c ≡ true → ⊥)
      → IsDropped st.sets st.sets e after → IsRested st st e after
  rested-dropped never (running.call k calls work out below rest) = rested-top below out
      (λ files held. (
        subst (AreHeld st files) (sym rest) held.rest,
        (subst (AreHeld st files) (sym work) held.top.work, (All-pop (IsHeldCall st files) e.top.calls.items after.top.calls.items (Some k) calls held.top.calls).0),
      ))
      (λ c listed live. (
        ap (λ l. seen_at st l c) work,
        sym (ap (λ ks. calls_at st ks c) calls ∙ (calls_at-append st c after.top.calls.items (k ∷ [])
            ∙ (ap (λ ws. calls_at st after.top.calls.items c ++ ws) (cond-false (st.sets.has k.cond.0 c) (waiting_at st k c ∷ []) [] (false_from_ne_true (st.sets.has k.cond.0 c) (λ has. never k.cond (next-call e after.top.calls.items k calls) c listed has live)))
            ∙ append-nil (calls_at st after.top.calls.items c)))),
      ))
      (gone-nothing st.sets e after (ap (λ b. (bottom_by b.items after.top).work) below ∙ bottom-same e.below.items after.top e.top work) rest)
      (λ uncalled. absurd (never-empty after.top.calls.items k (sym calls ∙ uncalled.calls)))
      (λ c d n all. subst (λ l. AreAlike st.sets c d (take (length l - n) l)) (sym work) all)
      (λ c d all. (All-pop (IsAlikeCall st.sets c d) e.top.calls.items after.top.calls.items (Some k) calls all).0)
      (λ c p live. ap (λ l. behind_at st.sets l c) work)
  rested-dropped never (running.token item none later work out below kept_first) =
      rested-token item (λ c listed has live. never item.0 (next-token e item after.top.work none work) c listed has live) work (later ∙ sym none) out below kept_first
  rested-dropped never (running.argument o none empty below top rest) = record {
    grows = Grows-refl st;
    refusals = refusals;
    sets = sets;
    out = ap (λ t. put_by after.below.items t) top ∙ (sym (put-less after.below.items o e.top) ∙ sym (ap (λ bs. put_by bs e.top) below));
    held = λ files held.
        let popped = All-pop (IsHeldEnclosing st files) e.below.items after.below.items (Some o) below held.below in
        record {
          refusals = subst (IsHeldRefusals st.sets files) (sym refusals) held.refusals;
          rest = subst (AreHeld st files) (sym rest) held.rest;
          top = subst (IsHeldFrame st files) (sym top) popped.1.frame;
          below = popped.0;
        };
    progress = λ files provenance macros c held listed. by_view c (λ live stands.
        let not = false_from_ne_true (st.sets.has o.call.cond.0 c) (λ has. never o.call.cond (next-argument e after.below.items o none empty below) c listed has live) in
        let r = leave-other st c o provenance macros after.below.items (view_at st e.top c) not (subst (λ bs. Stands st c bs (view_at st e.top c)) below stands) in (
          subst (λ t. Stands st c after.below.items (view_at st t c)) (sym top) r.0,
          ap (λ bs. state_in st bs (view_at st e.top c) c) below ∙ (r.1 ∙ ap (λ t. state_in st after.below.items (view_at st t c) c) (sym top)),
        ));
    keeps = λ files held.
        gone-nothing st.sets e after
        (ap (λ t. (bottom_by after.below.items t).work) top ∙ (sym (ap (λ f. f.work) (bottom-less after.below.items o e.top)) ∙ sym (ap (λ bs. (bottom_by bs e.top).work) below))) rest;
    uncalled = λ uncalled. absurd (never-empty after.below.items o (sym below ∙ uncalled.below));
    alike = λ files c d others held p q alike.
        let last = enclosing-last {others = others} e after.below.items o below alike in
        record {
          refusals = subst (AreAlikeRefusals st.sets c d others.faults) (sym refusals) alike.refusals;
          top = subst (IsAlikeFrame st.sets c d (others_at others (length after.below.items))) (sym top) last.frame;
          below = enclosing-others {others = others} e after.below.items o below alike;
        };
    rest = λ files c held p live.
        ap (λ l. behind_at st.sets l c) (ap (λ t. (bottom_by after.below.items t).work) top ∙ (sym (ap (λ f. f.work) (bottom-less after.below.items o e.top)) ∙ sym (ap (λ bs. (bottom_by bs e.top).work) below)));
  }

-- the store grew as what is next was dropped
pub dropped-later : {old : Stores} (new : Stores) {files : ℕ} → Keeps old.sets new.sets → {e after : Expansion} → IsHeldExpansion old files e → IsDropped old.sets new.sets e after → IsDropped new.sets new.sets e after
dropped-later new keeps held (running.call k calls work out below rest) = running.call k calls work out below rest
dropped-later new keeps held (running.token item none later work out below kept_first) = running.token item none later work out below (kept-later keeps held.top.work.own held.refusals.waiting kept_first)
dropped-later new keeps held (running.argument o none empty below top rest) = running.argument o none empty below top rest

-- ---- one after the other

pub rested-then : {old mid new : Stores} {one two three : Expansion} → IsRested old mid one two → IsRested mid new two three → IsRested old new one three
rested-then {old} {mid} {new} {one} {two} {three} a b = record {
  grows = Grows-trans a.grows b.grows;
  refusals = b.refusals ∙ a.refusals;
  sets = b.sets ∙ a.sets;
  out = b.out ∙ a.out;
  held = λ files held. b.held files (a.held files held);
  progress = λ files provenance macros c held listed.
      progress-then false false refl (a.progress files provenance macros c held listed) (b.progress files provenance macros c (a.held files held) (IsConfig-Keeps a.grows.sets listed));
  keeps = λ files held. gone-then one two three a.grows b.grows.sets held a.refusals (a.keeps files held) (b.keeps files (a.held files held));
  uncalled = λ uncalled. b.uncalled (a.uncalled uncalled);
  alike = λ files c d others held p q alike. b.alike files c d others (a.held files held) (IsConfig-Keeps a.grows.sets p) (IsConfig-Keeps a.grows.sets q) (a.alike files c d others held p q alike);
  rest = λ files c held p live.
      let still : mid.sets.has two.refusals.live.0 c ≡ true = ap (λ r. mid.sets.has r.live.0 c) a.refusals ∙ (a.grows.sets.at one.refusals.live.0 c held.refusals.live p ∙ live) in
      b.rest files c (a.held files held) (IsConfig-Keeps a.grows.sets p) still ∙ a.rest files c held p live;
}

abbrev with_work : Expansion → List (Cond × Hidden) → Expansion
with_work e work = record e { top = record e.top { work = work } }

-- first tokens that all stand under one condition
module _ (st : Stores) (e : Expansion) (inside : e.below.items ≡ [] → ⊥) (cond : Cond) (never : (c : List ℕ) → IsConfig st.sets.arities c → st.sets.has cond.0 c ≡ true → st.sets.has e.refusals.live.0 c ≡ true → ⊥) where
  pub rested-tokens : (n : ℕ) (work : List (Cond × Hidden)) → All (λ (item : Cond × Hidden). item.0 ≡ cond) (take n work) → IsRested st st (with_work e work) (with_work e (drop n work))
  rested-tokens zero work same = rested-Grows (Grows-refl st) (with_work e work)
  rested-tokens (suc n) [] same = rested-Grows (Grows-refl st) (with_work e [])
  rested-tokens (suc n) (item ∷ work) same =
      let Same : Cond × Hidden → Type 0 = λ x. x.0 ≡ cond in
      let is : item.0 ≡ cond = All-head Same item (take n work) same in
      rested-then (rested-token st (with_work e (item ∷ work)) (with_work e work) refl refl item (λ c listed has. never c listed (subst (λ (x : Cond). st.sets.has x.0 c ≡ true) is has)) refl refl refl refl (waiting.none (λ whole. absurd (inside whole)) refl))
      (rested-tokens n work (All-tail Same item (take n work) same))

-- ---- whether not all that have what is next were refused

module _ {st : Stores} {files : ℕ} (e : Expansion) (held : IsHeldExpansion st files e) where
  pub next-own : (cond : Cond) → next_of e ≡ Some cond → IsCond st.sets cond.0
  next-own cond is = by (last_of e.top.calls.items) (slice_get e.top.work 0) (last_of e.below.items) refl refl refl is
    where
      by : (call : Option Call) (first : Option (Cond × Hidden)) (o : Option Enclosing) → last_of e.top.calls.items ≡ call → slice_get e.top.work 0 ≡ first → last_of e.below.items ≡ o → next_by call first o ≡ Some cond → IsCond st.sets cond.0
      by (Some k) first o here work below is = subst (λ (x : Cond). IsCond st.sets x.0) (some-same is) (All-at (IsHeldCall st files) e.top.calls.items (length e.top.calls.items - 1) k here held.top.calls).own
      by None (Some item) o here work below is = subst (λ (x : Cond). IsCond st.sets x.0) (some-same is) (All-at (λ (item : Cond × Hidden). IsCond st.sets item.0.0) e.top.work 0 item work held.top.work.own)
      by None None (Some o) here work below is = subst (λ (x : Cond). IsCond st.sets x.0) (some-same is) (All-at (IsHeldEnclosing st files) e.below.items (length e.below.items - 1) o below held.below).call.own
      by None None None here work below is = absurd (cc)

module _ {old new : Sets} (keeps : Keeps old new) (e : Expansion) (next met : Cond) (is : next_of e ≡ Some next) (own : IsCond old next.0) (live_own : IsCond old e.refusals.live.0)
    (both : Denotes new met.0 (λ c. old.has next.0 c && old.has e.refusals.live.0 c)) where
  pub ready-some : (IsNever new met.0 → ⊥) → IsReady new e
  ready-some not = record {
    some = λ cond other none. not (record {
      none = λ c listed.
          let was = IsConfig-kept keeps listed in
          let same : next ≡ cond = some-same (sym is ∙ other) in
          both.at c listed ∙ not-both (old.has next.0 c) (old.has e.refusals.live.0 c)
          (λ has live. none c listed (subst (λ (x : Cond). new.has x.0 c ≡ true) same (keeps.at next.0 c own was ∙ has)) (keeps.at e.refusals.live.0 c live_own was ∙ live));
    });
  }

  pub never-next : IsNever new met.0 → (cond : Cond) → next_of e ≡ Some cond → (c : List ℕ) → IsConfig new.arities c → new.has cond.0 c ≡ true → new.has e.refusals.live.0 c ≡ true → ⊥
  never-next never cond other c listed has live =
      let was = IsConfig-kept keeps listed in
      let same : next ≡ cond = some-same (sym is ∙ other) in
      let first : old.has next.0 c ≡ true = sym (keeps.at next.0 c own was) ∙ subst (λ (x : Cond). new.has x.0 c ≡ true) (sym same) has in
      let second : old.has e.refusals.live.0 c ≡ true = sym (keeps.at e.refusals.live.0 c live_own was) ∙ live in
      true≢false ((λ i. sym first i && sym second i) ∙ (sym (both.at c listed) ∙ never.none c listed))

pub never-Keeps : {old new : Sets} → Keeps old new → {cond : Cond} → IsCond old cond.0 → IsNever old cond.0 → IsNever new cond.0
never-Keeps keeps {cond} own never = record { none = λ c listed. (let was = IsConfig-kept keeps listed in keeps.at cond.0 c own was ∙ never.none c was) }

-- two conditions that no configuration has both
pub never-at : {old new : Sets} → Keeps old new → (a b met : Cond) → IsCond old a.0 → IsCond old b.0 → Denotes new met.0 (λ c. old.has a.0 c && old.has b.0 c) → IsNever new met.0
    → (c : List ℕ) → IsConfig new.arities c → new.has a.0 c ≡ true → new.has b.0 c ≡ true → ⊥
never-at {old} {new} keeps a b met own other both never c listed has live =
    let was = IsConfig-kept keeps listed in
    let first : old.has a.0 c ≡ true = sym (keeps.at a.0 c own was) ∙ has in
    let second : old.has b.0 c ≡ true = sym (keeps.at b.0 c other was) ∙ live in
    true≢false ((λ i. sym first i && sym second i) ∙ (sym (both.at c listed) ∙ never.none c listed))

-- ---- what is next drops out

-- where nothing was popped, there is nothing
pub record IsNone (A : Type 0) (xs ys : List A) : Type 0 where
  pub before : xs ≡ []
  pub after : ys ≡ []

pub none-popped : {A : Type 0} (xs ys : List A) (n m : ℕ) (r : Option A) → xs ≡ ys ++ option_to_list r → ys ≡ take (n - 1) xs → MatchOption r ((n ≡ 0) × (m ≡ 0)) (λ x. m + 1 ≡ n) → is_some r ≡ false → IsNone A xs ys
none-popped xs ys n m None is rest empty lacks =
    let none : ys ≡ [] = rest ∙ ap (λ k. take (k - 1) xs) empty.0 in
    record { before = is ∙ (append-nil ys ∙ none); after = none }
none-popped xs ys n m (Some x) is rest empty lacks = absurd (cc)

pub not-some : {A : Type 0} (r : Option A) → ((x : A) → r ≡ Some x → ⊥) → is_some r ≡ false
not-some None lacks = refl
not-some (Some x) lacks = absurd (lacks x refl)

module _ {old new : Sets} (e after : Expansion) where
  pub dropped-call : (r : Option Call) → e.top.calls.items ≡ after.top.calls.items ++ option_to_list r → is_some r ≡ true
      → after.top.work ≡ e.top.work → after.top.out ≡ e.top.out → after.below ≡ e.below → after.rest ≡ e.rest → IsDropped old new e after
  dropped-call (Some k) is found work out below rest = running.call k is work out below rest
  dropped-call None is found work out below rest = absurd (cc)

  pub dropped-token : (first : Option (Cond × Hidden)) → IsNone Call e.top.calls.items after.top.calls.items → first ≡ slice_get e.top.work 0 → is_some first ≡ true → after.top.work ≡ drop 1 e.top.work → after.top.out ≡ e.top.out
      → after.below ≡ e.below → KeepsFirst old new e.refusals.waiting.0 e.below.items e.top.work e.rest after.rest → IsDropped old new e after
  dropped-token first none is found work out below kept_first = by e.top.work first is found refl work
    where
      by : (was : List (Cond × Hidden)) (first : Option (Cond × Hidden)) → first ≡ slice_get was 0 → is_some first ≡ true → e.top.work ≡ was → after.top.work ≡ drop 1 was → IsDropped old new e after
      by [] first is found was work = let lacks : is_some first ≡ false = ap (λ (r : Option (Cond × Hidden)). is_some r) is in absurd (cc)
      by (item ∷ rest) first is found was work = running.token item none.before none.after (was ∙ ap (λ l. item ∷ l) (sym work)) out below kept_first

pub no-first : (work : List (Cond × Hidden)) (first : Option (Cond × Hidden)) → first ≡ slice_get work 0 → is_some first ≡ false → work ≡ []
no-first [] first is lacks = refl
no-first (item ∷ rest) first is lacks = let found : is_some first ≡ true = ap (λ (r : Option (Cond × Hidden)). is_some r) is in absurd (cc)

pub dropped-argument : {old new : Sets} (e after : Expansion) (calls : List Call) (first : Option (Cond × Hidden)) (o : Enclosing) → IsNone Call e.top.calls.items calls → first ≡ slice_get e.top.work 0 → is_some first ≡ false
    → e.below.items ≡ after.below.items ++ option_to_list (Some o) → after.top ≡ o.frame → after.rest ≡ e.rest → IsDropped old new e after
dropped-argument e after calls first o none is lacks below top rest = running.argument o none.before (no-first e.top.work first is lacks) below top rest
