-- What configurations that wait keep of the whole list.
use Rattle.std.proofs.Common.{◌≡◌, ℕ, ◌&&◌, Bool, true, false, List, [], ◌∷◌, ◌++◌, All, append-nil, drop, slice_get, Some, refl, sym, ap, subst, ◌∙◌, if◌then◌else◌, ◌≤◌, length, length-append, arith}
use Rattle.sc_expand.proofs.AlikeLemmas.{All-at}
use Rattle.sc_expand.proofs.Facts.{All-head, IsConfig-Keeps, IsConfig-kept, and-false, and-true, append_assoc, All-append, All-cons, All-nil, All-tail, map-one}
use Rattle.sc_expand.proofs.SeenLemmas.{seen_at-Grows, seen_at-append, AreHeld-append}
use Rattle.sc_expand.proofs.TakingLemmas.{AreHeld-single}
use Rattle.sc_expand.proofs.TakingSteps.{seen-first}
use Rattle.sc_expand.proofs.Terms.{AreHeld, Cond, Enclosing, Expansion, Grows, Hidden, IsApart, IsCond, IsConfig, IsHeldExpansion, IsHeldToken, IsNever, Keeps, KeepsFirst, KeepsLeft, Sets, Stores, bottom, bottom_by, is_whole, put_out, seen_at, seen_hidden, AreAlike, IsAlike, IsPushed, absent, pushed, Frame, HasMore, IsHeldEnclosing, IsHeldFrame, behind_at}
use Rattle.sc_expand.proofs.WorkListLemmas.{behind-each, has_each-Keeps}
use Rattle.sc_expand.specs.Waiting as waiting

-- ---- how many stand behind each

pub behind-Keeps : {old new : Sets} → Keeps old new → {c : List ℕ} → IsConfig old.arities c → (list : List (Cond × Hidden)) → All (λ item. IsCond old item.0.0) list → behind_at new list c ≡ behind_at old list c
behind-Keeps {old} {new} keeps {c} p list own = behind-each new old list list c c (has_each-Keeps list c keeps own p)

-- what stands before a list
module _ {T : Type 0} (s : Sets) (c : List ℕ) (ys : List (Cond × T)) where
  pub record StandsBefore (list : List (Cond × T)) : Type 0 where
    pub made : List ℕ
    pub is : behind_at s list c ≡ made ++ behind_at s ys c
    pub high : All (λ n. length ys ≤ n) made

  pub behind-before : (xs : List (Cond × T)) → StandsBefore (xs ++ ys)
  behind-before [] = record { made = []; is = refl; high = All-nil (λ n. length ys ≤ n) }
  behind-before (x ∷ xs) = by (s.has x.0.0 c) refl (behind-before xs)
    where
      High : ℕ → Type 0
      High n = length ys ≤ n

      long : (zs : List (Cond × T)) → length ys ≤ length (zs ++ ys)
      long zs = omega (arith, length-append zs ys)

      by : (b : Bool) → s.has x.0.0 c ≡ b → StandsBefore (xs ++ ys) → StandsBefore (x ∷ (xs ++ ys))
      by true has r = record {
        made = length (xs ++ ys) ∷ r.made;
        is = ap (λ b. if b then length (xs ++ ys) ∷ behind_at s (xs ++ ys) c else behind_at s (xs ++ ys) c) has ∙ ap (λ l. length (xs ++ ys) ∷ l) r.is;
        high = All-cons High (length (xs ++ ys)) r.made (long xs) r.high;
      }
      by false has r = record { made = r.made; is = ap (λ b. if b then length (xs ++ ys) ∷ behind_at s (xs ++ ys) c else behind_at s (xs ++ ys) c) has ∙ r.is; high = r.high }

-- ---- a list that has more

-- the first token is another configuration's
pub behind-other : {T : Type 0} (s : Sets) (c : List ℕ) (item : Cond × T) (before after : List (Cond × T)) → before ≡ item ∷ after → s.has item.0.0 c ≡ false → behind_at s after c ≡ behind_at s before c
behind-other s c item before after is not =
    sym (ap (λ l. behind_at s l c) is ∙ ap (λ b. if b then length after ∷ behind_at s after c else behind_at s after c) not)

-- nothing was put
pub more-none : {old new : Sets} → Keeps old new → {c : List ℕ} → IsConfig old.arities c → (before after : List (Cond × Hidden)) → All (λ item. IsCond old item.0.0) before → after ≡ before → HasMore old new before after c
more-none {old} {new} keeps {c} p before after own same = record { made = []; is = ap (λ l. behind_at new l c) same ∙ behind-Keeps keeps p before own; high = All-nil (λ n. length before ≤ n) }

pub more-put : {old new : Sets} → Keeps old new → {c : List ℕ} → IsConfig old.arities c → (before made after : List (Cond × Hidden)) → All (λ item. IsCond old item.0.0) before → after ≡ made ++ before → HasMore old new before after c
more-put {old} {new} keeps {c} p before made after own same =
    let stand = behind-before new c before made in
    record { made = stand.made; is = ap (λ l. behind_at new l c) same ∙ (stand.is ∙ ap (λ l. stand.made ++ l) (behind-Keeps keeps p before own)); high = stand.high }

-- where the store grew before
pub more-Keeps : {old mid new : Sets} → Keeps old mid → {c : List ℕ} → IsConfig old.arities c → (before after : List (Cond × Hidden)) → All (λ item. IsCond old item.0.0) before → HasMore mid new before after c → HasMore old new before after c
more-Keeps keeps p before after own more = record { made = more.made; is = more.is ∙ ap (λ l. more.made ++ l) (behind-Keeps keeps p before own); high = more.high }

-- ---- in the list below all others

pub bottom-same : (below : List Enclosing) (t u : Frame) → t.work ≡ u.work → (bottom_by below t).work ≡ (bottom_by below u).work
bottom-same [] t u same = same
bottom-same (e ∷ es) t u same = refl

pub bottom-less : (below : List Enclosing) (o : Enclosing) (t : Frame) → bottom_by (below ++ o ∷ []) t ≡ bottom_by below o.frame
bottom-less [] o t = refl
bottom-less (e ∷ es) o t = refl

-- a list on top that is as long
pub bottom-long : (below : List Enclosing) (t u : Frame) → length t.work ≤ length u.work → length (bottom_by below t).work ≤ length (bottom_by below u).work
bottom-long [] t u long = long
bottom-long (e ∷ es) t u long = omega arith

pub bottom-frame : {st : Stores} {files : ℕ} (e : Expansion) → IsHeldExpansion st files e → IsHeldFrame st files (bottom e)
bottom-frame {st} {files} e held = by e.below.items held.below
  where
    by : (below : List Enclosing) → All (IsHeldEnclosing st files) below → IsHeldFrame st files (bottom_by below e.top)
    by [] own = held.top
    by (b ∷ bs) own = (All-head (IsHeldEnclosing st files) b bs own).frame

pub bottom-held : {st : Stores} {files : ℕ} (e : Expansion) → IsHeldExpansion st files e → All (λ item. IsCond st.sets item.0.0) (bottom e).work
bottom-held e held = (bottom-frame e held).work.own

-- others are put before the list on top
pub more-bottom : {st : Stores} {new : Sets} → Keeps st.sets new → {c : List ℕ} → IsConfig st.sets.arities c → {files : ℕ} (e : Expansion) → IsHeldExpansion st files e → (top : Frame) (made : List (Cond × Hidden)) → top.work ≡ made ++ e.top.work
    → HasMore st.sets new (bottom e).work (bottom_by e.below.items top).work c
more-bottom {st} {new} keeps {c} p {files} e held top made work = by e.below.items held.below
  where
    by : (below : List Enclosing) → All (IsHeldEnclosing st files) below → HasMore st.sets new (bottom_by below e.top).work (bottom_by below top).work c
    by [] own = more-put keeps p e.top.work made top.work held.top.work.own work
    by (b ∷ bs) own = more-none keeps p b.frame.work b.frame.work (All-head (IsHeldEnclosing st files) b bs own).frame.work.own refl

abbrev Item : Type 0
Item = Cond × Hidden

pub some-Keeps : {T : Type 0} {old new : Sets} → Keeps old new → (list : List (Cond × T)) → All (λ (item : Cond × T). IsCond old item.0.0) list
    → All (λ (item : Cond × T). IsNever old item.0.0 → ⊥) list → All (λ (item : Cond × T). IsNever new item.0.0 → ⊥) list
some-Keeps {T} {new = new} keeps [] own some = All-nil (λ (item : Cond × T). IsNever new item.0.0 → ⊥)
some-Keeps {T} {old} {new} keeps (x ∷ xs) own some =
    let Own : Cond × T → Type 0 = λ item. IsCond old item.0.0 in
    let Some : Cond × T → Type 0 = λ item. IsNever old item.0.0 → ⊥ in
    All-cons (λ (item : Cond × T). IsNever new item.0.0 → ⊥) x xs
    (λ never. All-head Some x xs some (record { none = λ c listed. sym (keeps.at x.0.0 c (All-head Own x xs own) listed) ∙ never.none c (IsConfig-Keeps keeps listed) }))
    (some-Keeps keeps xs (All-tail Own x xs own) (All-tail Some x xs some))

-- ---- one token more

pub pushed-seen : (st : Stores) {cond : Cond} {token : Hidden} {before after : List (Cond × Hidden)} → IsPushed st.sets cond token before after → (c : List ℕ) → IsConfig st.sets.arities c
    → seen_at st after c ≡ seen_at st before c ++ (if st.sets.has cond.0 c then seen_hidden st.names st.hides token ∷ [] else [])
pushed-seen st {cond} {token} {before} (pushed some is) c listed =
    ap (λ l. seen_at st l c) is
    ∙ (seen_at-append st before ((cond, token) ∷ []) c ∙ ap (λ ts. seen_at st before c ++ ts) (map-one (seen_hidden st.names st.hides) (st.sets.has cond.0 c) token))
pushed-seen st {cond} {token} {before} (absent never is) c listed =
    ap (λ l. seen_at st l c) is
    ∙ (sym (append-nil (seen_at st before c)) ∙ ap (λ b. seen_at st before c ++ (if b then seen_hidden st.names st.hides token ∷ [] else [])) (sym (never.none c listed)))

pub pushed-held : (st : Stores) (files : ℕ) {cond : Cond} {token : Hidden} {before after : List (Cond × Hidden)} → IsPushed st.sets cond token before after
    → IsCond st.sets cond.0 → IsHeldToken st files token → AreHeld st files before → AreHeld st files after
pushed-held st files {cond} {token} {before} (pushed some is) own held was = subst (AreHeld st files) (sym is) (AreHeld-append before ((cond, token) ∷ []) was (AreHeld-single st files cond token own held))
pushed-held st files (absent never is) own held was = subst (AreHeld st files) (sym is) was

pub pushed-some : {s : Sets} {cond : Cond} {token : Hidden} {before after : List (Cond × Hidden)} → IsPushed s cond token before after
    → All (λ (item : Item). IsNever s item.0.0 → ⊥) before → All (λ (item : Item). IsNever s item.0.0 → ⊥) after
pushed-some {s} {cond} {token} {before} (pushed some is) all =
    let Some : Item → Type 0 = λ item. IsNever s item.0.0 → ⊥ in
    subst (All Some) (sym is) (All-append Some before ((cond, token) ∷ []) all (All-cons Some (cond, token) [] some (All-nil Some)))
pushed-some {s} (absent never is) all = subst (All (λ (item : Item). IsNever s item.0.0 → ⊥)) (sym is) all

pub pushed-alike : (s : Sets) (c d : List ℕ) {cond : Cond} {token : Hidden} {before after : List (Cond × Hidden)} → IsPushed s cond token before after → IsAlike s c d cond → AreAlike s c d before → AreAlike s c d after
pushed-alike s c d {cond} {token} {before} (pushed some is) same all =
    let Same : Item → Type 0 = λ item. IsAlike s c d item.0 in
    subst (AreAlike s c d) (sym is) (All-append Same before ((cond, token) ∷ []) all (All-cons Same (cond, token) [] same (All-nil Same)))
pushed-alike s c d (absent never is) same all = subst (AreAlike s c d) (sym is) all

pub below-none : (below : List Enclosing) → is_whole below ≡ true → below ≡ []
below-none [] is = refl
below-none (e ∷ es) is = cc

pub below-some : (below : List Enclosing) → is_whole below ≡ false → below ≡ [] → ⊥
below-some [] is none = cc
below-some (e ∷ es) is none = cc

-- ---- the first token

first-is : (list : List (Cond × Hidden)) (item : Cond × Hidden) → slice_get list 0 ≡ Some item → list ≡ item ∷ drop 1 list
first-is [] item is = absurd (cc)
first-is (x ∷ xs) item is = let same : x ≡ item = cc in ap (λ y. y ∷ xs) same

split : (b : Bool) {A : Type 0} (front behind : List A) (h : A) → (front ++ (if b then h ∷ [] else [])) ++ behind ≡ front ++ (if b then h ∷ behind else behind)
split true front behind h = append_assoc front (h ∷ []) behind
split false front behind h = ap (λ l. l ++ behind) (append-nil front)

module _ {old : Sets} (st : Stores) (keeps : Keeps old st.sets) {waits : ℕ} {below : List Enclosing} {work before after : List (Cond × Hidden)} (own : All (λ (item : Cond × Hidden). IsCond old item.0.0) work) where
  -- those that wait have left the same
  pub kept-left : KeepsFirst old st.sets waits below work before after → below ≡ [] → (c : List ℕ) → IsConfig old.arities c → old.has waits c ≡ true
      → seen_at st after c ++ seen_at st (drop 1 work) c ≡ seen_at st before c ++ seen_at st work c
  kept-left (waiting.kept item cond whole first meets put) is c listed has =
      let h = seen_hidden st.names st.hides item.1 in
      let cond_is : st.sets.has cond.0 c ≡ st.sets.has item.0.0 c =
      meets.at c (IsConfig-Keeps keeps listed) ∙ (ap (λ b. old.has item.0.0 c && b) has ∙ (and-true (old.has item.0.0 c) ∙ sym (keeps.at item.0.0 c (All-at (λ (item : Cond × Hidden). IsCond old item.0.0) work 0 item first own) listed))) in
      ap (λ l. l ++ seen_at st (drop 1 work) c) (pushed-seen st put c (IsConfig-Keeps keeps listed) ∙ ap (λ b. seen_at st before c ++ (if b then h ∷ [] else [])) cond_is)
      ∙ (split (st.sets.has item.0.0 c) (seen_at st before c) (seen_at st (drop 1 work) c) h
      ∙ ap (λ l. seen_at st before c ++ l) (sym (ap (λ l. seen_at st l c) (first-is work item first) ∙ seen-first st item (drop 1 work) c)))
  kept-left (waiting.none empty same) is c listed has = (λ i. seen_at st (same i) c ++ seen_at st (drop 1 (empty is i)) c) ∙ ap (λ l. seen_at st before c ++ seen_at st l c) (sym (empty is))

  -- the others have nothing new that waits
  pub kept-others : KeepsFirst old st.sets waits below work before after → (c : List ℕ) → IsConfig old.arities c → old.has waits c ≡ false → seen_at st after c ≡ seen_at st before c
  kept-others (waiting.kept item cond whole first meets put) c listed lacks =
      pushed-seen st put c (IsConfig-Keeps keeps listed)
      ∙ (ap (λ b. seen_at st before c ++ (if b then seen_hidden st.names st.hides item.1 ∷ [] else [])) (meets.at c (IsConfig-Keeps keeps listed) ∙ (ap (λ b. old.has item.0.0 c && b) lacks ∙ and-false (old.has item.0.0 c)))
      ∙ append-nil (seen_at st before c))
  kept-others (waiting.none empty same) c listed lacks = ap (λ l. seen_at st l c) same

  pub kept-inside : KeepsFirst old st.sets waits below work before after → (below ≡ [] → ⊥) → after ≡ before
  kept-inside (waiting.kept item cond whole first meets put) inside = absurd (inside whole)
  kept-inside (waiting.none empty same) inside = same

  pub kept-some : KeepsFirst old st.sets waits below work before after → All (λ (item : Cond × Hidden). IsNever st.sets item.0.0 → ⊥) before → All (λ (item : Cond × Hidden). IsNever st.sets item.0.0 → ⊥) after
  kept-some (waiting.kept item cond whole first meets put) some = pushed-some put some
  kept-some (waiting.none empty same) some = subst (All (λ (item : Cond × Hidden). IsNever st.sets item.0.0 → ⊥)) (sym same) some

  pub kept-held : (files : ℕ) → All (λ (item : Cond × Hidden). IsHeldToken st files item.1) work → KeepsFirst old st.sets waits below work before after → AreHeld st files before → AreHeld st files after
  kept-held files held (waiting.kept item cond whole first meets put) was = pushed-held st files put meets.own (All-at (λ (x : Cond × Hidden). IsHeldToken st files x.1) work 0 item first held) was
  kept-held files held (waiting.none empty same) was = subst (AreHeld st files) (sym same) was

-- the store grew before
pub kept-later : {old new : Sets} (keeps : Keeps old new) {waits : ℕ} {below : List Enclosing} {work before after : List (Cond × Hidden)} → All (λ (item : Cond × Hidden). IsCond old item.0.0) work → IsCond old waits
    → KeepsFirst old new waits below work before after → KeepsFirst new new waits below work before after
kept-later {old} {new} keeps {waits} {work = work} own waits_own (waiting.kept item cond whole first meets put) =
    waiting.kept item cond whole first (record {
      own = meets.own;
      at = λ c listed.
          let was = IsConfig-kept keeps listed in
          meets.at c listed ∙ (λ i. sym (keeps.at item.0.0 c (All-at (λ (x : Cond × Hidden). IsCond old x.0.0) work 0 item first own) was) i && sym (keeps.at waits c waits_own was) i);
    }) put
kept-later keeps own waits_own (waiting.none empty same) = waiting.none empty same

-- a condition of which all go on has none that waits
pub unless : (s : Sets) (cond : ℕ) (e : Expansion) (c : List ℕ) → (s.has cond c ≡ true → s.has e.refusals.live.0 c ≡ true) → IsApart s e c → s.has e.refusals.waiting.0 c ≡ true → s.has cond c ≡ false
unless s cond e c live apart waits = by (s.has cond c) refl
  where
    by : (b : Bool) → s.has cond c ≡ b → b ≡ false
    by true has = sym waits ∙ apart (live has)
    by false lacks = refl

-- ---- all that is left

-- the list below all others, what it was expanded to and what waits are as they were
pub same-left : {old new : Stores} {files : ℕ} → Grows old new → (was now : Expansion) → IsHeldExpansion old files was → now.rest ≡ was.rest → (bottom now).work ≡ (bottom was).work → put_out now ≡ put_out was → KeepsLeft old new was now
same-left {old} {new} grows was now held rest work out = record {
  left = λ c listed apart waits.
      let first = ap (λ l. seen_at new l c) rest ∙ seen_at-Grows grows c listed was.rest held.rest in
      let second = ap (λ l. seen_at new l c) work ∙ seen_at-Grows grows c listed (bottom was).work (bottom-frame was held).work in
      λ i. first i ++ second i;
  put = λ c listed apart waits. ap (λ l. seen_at new l c) out ∙ seen_at-Grows grows c listed (put_out was) (bottom-frame was held).out;
  others = λ c listed lacks. ap (λ l. seen_at new l c) rest ∙ seen_at-Grows grows c listed was.rest held.rest;
  some = λ all. subst (All (λ (item : Cond × Hidden). IsNever new.sets item.0.0 → ⊥)) (sym rest) (some-Keeps grows.sets was.rest held.rest.own all);
}

-- the store grew before
pub left-Grows : {old mid new : Stores} {files : ℕ} {was now : Expansion} → Grows old mid → IsHeldExpansion old files was → KeepsLeft mid new was now → KeepsLeft old new was now
left-Grows {old} {mid} {new} {files} {was} {now} grows held kept = record {
  left = λ c listed apart waits. kept.left c (IsConfig-Keeps grows.sets listed) (later c listed apart) waits
      ∙ (let one = seen_at-Grows grows c listed was.rest held.rest in let two = seen_at-Grows grows c listed (bottom was).work (bottom-frame was held).work in λ i. one i ++ two i);
  put = λ c listed apart waits. kept.put c (IsConfig-Keeps grows.sets listed) (later c listed apart) waits ∙ seen_at-Grows grows c listed (put_out was) (bottom-frame was held).out;
  others = λ c listed lacks. kept.others c (IsConfig-Keeps grows.sets listed) lacks ∙ seen_at-Grows grows c listed was.rest held.rest;
  some = λ all. kept.some (some-Keeps grows.sets was.rest held.rest.own all);
}
  where
    later : (c : List ℕ) → IsConfig old.sets.arities c → IsApart old.sets was c → IsApart mid.sets was c
    later c listed apart live = grows.sets.at was.refusals.waiting.0 c held.refusals.waiting listed ∙ apart (sym (grows.sets.at was.refusals.live.0 c held.refusals.live listed) ∙ live)

-- others are put before the list on top, and none of them where a configuration waits
pub put-left : {old new : Stores} {files : ℕ} → Grows old new → (was now : Expansion) → IsHeldExpansion old files was → (made : List (Cond × Hidden)) → now.rest ≡ was.rest → now.below ≡ was.below → now.top.out ≡ was.top.out
    → now.top.work ≡ made ++ was.top.work → ((c : List ℕ) → IsConfig old.sets.arities c → IsApart old.sets was c → new.sets.has now.refusals.waiting.0 c ≡ true → seen_at new made c ≡ []) → KeepsLeft old new was now
put-left {old} {new} {files} grows was now held made rest below out work none = by was.below.items refl
  where
    by : (bs : List Enclosing) → was.below.items ≡ bs → KeepsLeft old new was now
    by [] is =
        let bottom_was : bottom was ≡ was.top = ap (λ l. bottom_by l was.top) is in
        let bottom_now : bottom now ≡ now.top = ap (λ l. bottom_by l.items now.top) below ∙ ap (λ l. bottom_by l now.top) is in
        let put : put_out now ≡ put_out was = ap (λ f. f.out) bottom_now ∙ (out ∙ sym (ap (λ f. f.out) bottom_was)) in
        let same = same-left grows was (record now { top = record now.top { work = was.top.work } }) held rest
        (ap (λ l. (bottom_by l.items (record now.top { work = was.top.work })).work) below ∙ (ap (λ l. (bottom_by l (record now.top { work = was.top.work })).work) is ∙ sym (ap (λ f. f.work) bottom_was)))
        (ap (λ l. (bottom_by l.items (record now.top { work = was.top.work })).out) below ∙ (ap (λ l. (bottom_by l (record now.top { work = was.top.work })).out) is ∙ (out ∙ sym (ap (λ f. f.out) bottom_was)))) in
        record {
          left = λ c listed apart waits.
              let nothing = ap (λ l. seen_at new l c) work ∙ (seen_at-append new made was.top.work c ∙ ap (λ l. l ++ seen_at new was.top.work c) (none c listed apart waits)) in
              ap (λ f. seen_at new now.rest c ++ seen_at new f.work c) bottom_now
              ∙ ((let one = ap (λ l. seen_at new l c) rest ∙ seen_at-Grows grows c listed was.rest held.rest in let two = nothing ∙ seen_at-Grows grows c listed was.top.work held.top.work in λ i. one i ++ two i)
              ∙ sym (ap (λ f. seen_at old was.rest c ++ seen_at old f.work c) bottom_was));
          put = λ c listed apart waits. ap (λ l. seen_at new l c) put ∙ seen_at-Grows grows c listed (put_out was) (bottom-frame was held).out;
          others = same.others;
          some = same.some;
        }
    by (b ∷ bs) is =
        let bottom_same : bottom now ≡ bottom was = ap (λ l. bottom_by l.items now.top) below ∙ (ap (λ l. bottom_by l now.top) is ∙ sym (ap (λ l. bottom_by l was.top) is)) in
        same-left grows was now held rest (ap (λ f. f.work) bottom_same) (ap (λ f. f.out) bottom_same)
