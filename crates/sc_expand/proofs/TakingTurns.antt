-- A turn that takes the first token of a list, by what taking the token comes to.
use Rattle.std.proofs.Common.{◌≡◌, ◌∙◌, ◌∷◌, ◌++◌, ◌&&◌, ℕ, Bool, true, false, List, [], All, Some, ap, refl, sym, subst, length, drop, map, append-nil, arith, true≢false, if◌then◌else◌, slice_get, ◌<◌}
use Rattle.sc_expand.proofs.AlikeLemmas.{others-none}
use Rattle.sc_expand.proofs.Facts.{All-drop, All-head, Denotes-self, Extends-refl, IsConfig-Keeps, IsConfig-kept, and_parts, and_right, length-map, and-false, slice_get_within}
use Rattle.sc_expand.proofs.Rests.{first-is, some-same, none-some}
use Rattle.sc_expand.proofs.SeenLemmas.{AreHeld-append, at-Grows, macros_at-Grows, seen_at-Grows, seen_at-append, seen_hidden-Grows, token-Grows, Grows-trans}
use Rattle.sc_expand.proofs.TakingSteps.{Ends, comes-turn, comes-waits, has_first-Keeps, same-step, seen-first}
use Rattle.sc_expand.proofs.Terms.{AreHeld, Comes, Cond, Denotes, Expansion, Grows, HasPutOut, HiddenToken, IsApart, IsBegun, IsCond, IsConfig, IsHeldCall, IsHeldEnclosing, IsHeldExpansion, IsHeldRefusals, IsHeldTaken, IsHeldToken, IsTable, Keeps, MacroTable, Macros, Place, Provenance, Sets, Step, Stores, Taken, Takes, View, at, calls_at, ends_at, has_first, items_at, macros_at, provenance_of, seen_at, seen_hidden, step_at, stores, text_of, untaken, Enclosing, Hidden, IsFirstIn, IsNever, IsPushed, KeepsFirst, KeepsLeft, KeepsLists, KeepsNext, bottom, bottom_by, no_others}
use Rattle.sc_expand.proofs.WaitingLemmas.{pushed-held, pushed-seen, kept-held, some-Keeps, kept-inside, kept-left, kept-others, kept-some, same-left}
use Rattle.sc_expand.proofs.WorkListLemmas.{last-earlier, has_each-Keeps, first-still}
use Rattle.sc_expand.specs.Running as running
use Rattle.sc_expand.specs.Turn.{At, Turn, over, passed}
use Rattle.sc_expand.specs.Waiting as waiting
use Rattle.sc_subst.specs.declared.hidden.Hidden as declared

-- ---- the first item of a list

pub first-token : (work : List (Cond × declared.Hidden)) (item : Cond × declared.Hidden) → slice_get work 0 ≡ Some item → slice_get (map (λ (x : Cond × declared.Hidden). x.1) work) 0 ≡ Some item.1
first-token work item is = ap (λ l. slice_get (map (λ (x : Cond × declared.Hidden). x.1) l) 0) (first-is work item is)

first-held : (st : Stores) (files : ℕ) (work : List (Cond × declared.Hidden)) (item : Cond × declared.Hidden) → slice_get work 0 ≡ Some item → AreHeld st files work → IsHeldToken st files item.1
first-held st files work item is held = All-head (λ (x : Cond × declared.Hidden). IsHeldToken st files x.1) item (drop 1 work) (subst (All (λ (x : Cond × declared.Hidden). IsHeldToken st files x.1)) (first-is work item is) held.held)

pub first-own : (st : Stores) (files : ℕ) (work : List (Cond × declared.Hidden)) (item : Cond × declared.Hidden) → slice_get work 0 ≡ Some item → AreHeld st files work → IsCond st.sets item.0.0
first-own st files work item is held = All-head (λ (x : Cond × declared.Hidden). IsCond st.sets x.0.0) item (drop 1 work) (subst (All (λ (x : Cond × declared.Hidden). IsCond st.sets x.0.0)) (first-is work item is) held.own)

first-begun : (st : Stores) (e : Expansion) (item : Cond × declared.Hidden) (c : List ℕ) → slice_get e.top.work 0 ≡ Some item → e.top.calls.items ≡ [] → st.sets.has item.0.0 c ≡ true → st.sets.has e.refusals.live.0 c ≡ true
    → IsBegun (seen_hidden st.names st.hides item.1) (untaken st e c)
first-begun st e item c is none has live =
    let left = seen_at st (drop 1 e.top.work) c in
    let t = seen_hidden st.names st.hides item.1 in
    record {
      live = live;
      rest = left;
      work = ap (λ l. seen_at st l c) (first-is e.top.work item is) ∙ (seen-first st item (drop 1 e.top.work) c ∙ ap (λ b. if b then t ∷ left else left) has);
      calls = ap (λ l. calls_at st l c) none;
      first = ap (λ l. has_first st.sets l c) (first-is e.top.work item is) ∙ has;
      stays = refl;
      made = refl;
    }

-- the list at a configuration, by whether this has the first item
seen-by-first : (st : Stores) (work : List (Cond × declared.Hidden)) (token : declared.Hidden) (c : List ℕ) → slice_get (map (λ (x : Cond × declared.Hidden). x.1) work) 0 ≡ Some token
    → seen_at st work c ≡ (if has_first st.sets work c then seen_hidden st.names st.hides token ∷ seen_at st (drop 1 work) c else seen_at st (drop 1 work) c)
seen-by-first st [] token c is = absurd (cc)
seen-by-first st (x ∷ xs) token c is =
    let same : x.1 ≡ token = cc in
    seen-first st x xs c ∙ ap (λ h. if st.sets.has x.0.0 c then seen_hidden st.names st.hides h ∷ seen_at st xs c else seen_at st xs c) same

-- ---- the token is put out

module _ (st : Stores) {now next : Expansion} {taken : Taken} {token : declared.Hidden} {before : Sets} (put : HasPutOut before st.sets taken token now next) where
  pub put-ends : (c : List ℕ) → IsConfig st.sets.arities c → slice_get (map (λ (x : Cond × declared.Hidden). x.1) now.top.work) 0 ≡ Some token
      → Ends (seen_hidden st.names st.hides token) (seen_hidden st.names st.hides token) (seen_at st (drop 1 now.top.work) c) (step_at st now taken c) (at st next c)
  put-ends c listed first = record {
    live = ap (λ r. st.sets.has r.live.0 c) put.refusals;
    ends = ap (λ r. ends_at st.sets r c) put.refusals;
    out = pushed-seen st put.out c listed;
    calls = ap (λ l. calls_at st l.items c) put.calls;
    work = ap (λ l. seen_at st l c) put.work ∙ seen_at-append st taken.made.items (drop 1 now.top.work) c;
    first = seen-by-first st now.top.work token c first;
  }

  pub put-held : Keeps before st.sets → All (λ (x : Cond × declared.Hidden). IsCond before x.0.0) now.top.work → (files : ℕ) → IsHeldExpansion st files now → IsHeldTaken st files taken → IsHeldToken st files token → IsHeldExpansion st files next
  put-held keeps now_own files held made own = record {
    refusals = subst (IsHeldRefusals st.sets files) (sym put.refusals) held.refusals;
    rest = kept-held st keeps now_own files held.top.work.held put.rest held.rest;
    top = record {
      work = subst (AreHeld st files) (sym put.work) (AreHeld-append taken.made.items (drop 1 now.top.work) made.made (record {
        own = All-drop (λ (x : Cond × declared.Hidden). IsCond st.sets x.0.0) 1 now.top.work held.top.work.own;
        held = All-drop (λ (x : Cond × declared.Hidden). IsHeldToken st files x.1) 1 now.top.work held.top.work.held;
      }));
      out = pushed-held st files put.out made.stays own held.top.out;
      calls = subst (λ l. All (IsHeldCall st files) l.items) (sym put.calls) held.top.calls;
    };
    below = subst (λ l. All (IsHeldEnclosing st files) l.items) (sym put.below) held.below;
  }

-- the token as it is seen before it is put out
pub put-seen : {st last : Stores} {now next : Expansion} {taken : Taken} {token : declared.Hidden} {files : ℕ} → Grows st last → IsHeldExpansion st files now → IsCond st.sets taken.stays.0 → HasPutOut st.sets last.sets taken token now next
    → (c : List ℕ) → IsConfig st.sets.arities c → seen_at last next.top.out c ≡ seen_at st now.top.out c ++ (if st.sets.has taken.stays.0 c then seen_hidden last.names last.hides token ∷ [] else [])
put-seen {st} {last} {now} {next} {taken} {token} later held own put c listed =
    pushed-seen last put.out c (IsConfig-Keeps later.sets listed)
    ∙ (let first = seen_at-Grows later c listed now.top.out held.top.out in let has = later.sets.at taken.stays.0 c own listed in
    λ i. first i ++ (if has i then seen_hidden last.names last.hides token ∷ [] else []))

-- a step as it is seen before the token is put out
pub step-Grows : {st last : Stores} {files : ℕ} → Grows st last → (now : Expansion) (taken : Taken) → IsHeldExpansion st files now → IsHeldTaken st files taken → (c : List ℕ) → IsConfig st.sets.arities c → step_at last now taken c ≡ step_at st now taken c
step-Grows later now taken held made c listed =
    same-step (at-Grows later c listed now held) (has_first-Keeps later.sets now.top.work held.top.work.own c listed) (later.sets.at taken.stays.0 c made.stays listed) (seen_at-Grows later c listed taken.made.items made.made)

-- ---- the turn

same-view : (v w : View) (left : List (HiddenToken Place)) → w.out ≡ v.out ++ [] → w.work ≡ left → v.work ≡ left → w.calls ≡ v.calls → w ≡ v
same-view v w left out work is calls = λ i. record { out = (out ∙ append-nil v.out) i; work = (work ∙ sym is) i; calls = calls i }

-- by whether the configuration has the token, and whether it was refused
turn-by : (provenance : Provenance Place) (macros : Macros) (t x : HiddenToken Place) (left : List (HiddenToken Place)) (a b : At) (s : Step) (has live : Bool) → a.live ≡ live → a.view.calls ≡ []
    → (has ≡ true → live ≡ true → (rest : List (HiddenToken Place)) × (a.view.work ≡ t ∷ rest × Comes provenance macros t rest a s))
    → ((has && live) ≡ false → s ≡ record { at = a; first = has; stays = false; made = [] }) → Ends t x left s b → Turn provenance macros a b has
turn-by provenance macros t x left a b s true true is calls comes others ends =
    let came = comes refl refl in
    comes-turn provenance macros t x came.0 left a b is came.1.0 calls s came.1.1 ends
turn-by provenance macros t x left a b s true false is calls comes others ends =
    let e = subst (λ s. Ends t x left s b) (others refl) ends in
    over is (e.live ∙ is) e.ends
turn-by provenance macros t x left a b s false true is calls comes others ends =
    let e = subst (λ s. Ends t x left s b) (others refl) ends in
    passed e.live e.ends (λ live. same-view a.view b.view left e.out e.work e.first e.calls)
turn-by provenance macros t x left a b s false false is calls comes others ends =
    let e = subst (λ s. Ends t x left s b) (others refl) ends in
    passed e.live e.ends (λ live. absurd (true≢false (sym live ∙ is)))

-- the stores grew, and nothing is known of the token still
untaken-Grows : {old new : Stores} {files : ℕ} → Grows old new → (e : Expansion) → IsHeldExpansion old files e → (c : List ℕ) → IsConfig old.sets.arities c → untaken new e c ≡ untaken old e c
untaken-Grows grows e held c listed = same-step (at-Grows grows c listed e held) (has_first-Keeps grows.sets e.top.work held.top.work.own c listed) refl refl

-- what is known where the first token is taken: the condition has the configurations of the token
-- that were not refused
pub record FirstTaken (s0 s1 : Sets) (n files : List (List ℕ)) (table : MacroTable) (was : Expansion) (item : Cond × declared.Hidden) (cond : Cond) : Type 0 where
  pub keeps : Keeps s0 s1
  pub held : IsHeldExpansion (stores s0 n was.sets) (length files) was
  pub is_table : IsTable s0 n table
  pub first : slice_get was.top.work 0 ≡ Some item
  pub calls : was.top.calls.items ≡ []
  pub meets : Denotes s1 cond.0 (λ c. s0.has item.0.0 c && s0.has was.refusals.live.0 c)

pub first-taken : {s0 s1 : Sets} {n : List (List ℕ)} (files : List (List ℕ)) {table : MacroTable} {was : Expansion} {item : Cond × declared.Hidden} (cond : Cond) → Keeps s0 s1 → IsHeldExpansion (stores s0 n was.sets) (length files) was → IsTable s0 n table
    → slice_get was.top.work 0 ≡ Some item → was.top.calls.items ≡ [] → ((f g : List ℕ → Bool) → Denotes s0 item.0.0 f → Denotes s0 was.refusals.live.0 g → Denotes s1 cond.0 (λ c. f c && g c)) → FirstTaken s0 s1 n files table was item cond
first-taken {s0} {s1} {n} files {table} {was} {item} cond keeps held is_table first calls meaning = record {
  keeps = keeps;
  held = held;
  is_table = is_table;
  first = first;
  calls = calls;
  meets = meaning _ _ (Denotes-self s0 item.0.0 (first-own (stores s0 n was.sets) (length files) was.top.work item first held.top.work)) (Denotes-self s0 was.refusals.live.0 held.refusals.live);
}

module _ {s0 s1 : Sets} {n files : List (List ℕ)} {table : MacroTable} {was : Expansion} {item : Cond × declared.Hidden} {cond : Cond} (known : FirstTaken s0 s1 n files table was item cond) where
  abbrev st0 : Stores
  st0 = stores s0 n was.sets

  abbrev st1 : Stores
  st1 = stores s1 n was.sets

  pub first-grew : Grows st0 st1
  first-grew = record { sets = known.keeps; names = Extends-refl n; hides = Extends-refl was.sets }

  pub first-both : (c : List ℕ) → IsConfig s1.arities c → s1.has cond.0 c ≡ true → (s0.has item.0.0 c ≡ true) × (s0.has was.refusals.live.0 c ≡ true)
  first-both c listed has = and_parts (s0.has item.0.0 c) (s0.has was.refusals.live.0 c) (sym (known.meets.at c listed) ∙ has)

  pub first-item : IsHeldToken st0 (length files) item.1
  first-item = first-held st0 (length files) was.top.work item known.first known.held.top.work

  pub first-ready : (c : List ℕ) → IsConfig s1.arities c → s1.has cond.0 c ≡ true → IsBegun (seen_hidden n was.sets item.1) (untaken st1 was c)
  first-ready c listed has =
      let listed0 = IsConfig-kept known.keeps listed in
      let both = first-both c listed has in
      let own = first-own st0 (length files) was.top.work item known.first known.held.top.work in
      first-begun st1 was item c known.first known.calls (known.keeps.at item.0.0 c own listed0 ∙ both.0) (known.keeps.at was.refusals.live.0 c known.held.refusals.live listed0 ∙ both.1)

  module _ {st : Stores} {now : Expansion} {taken : Taken} (grows : Grows st1 st) (told : Takes files (macros_at s1 n table) st1 st was now taken item.1 cond.0) (next : Expansion) where
    pub take-turn : (c : List ℕ) (left : List (HiddenToken Place)) (b : At) → IsConfig s0.arities c → Ends (seen_hidden st.names st.hides item.1) (seen_hidden st.names st.hides item.1) left (step_at st now taken c) b
        → Turn (provenance_of files) (macros_at s0 n table c) (at st0 was c) b (s0.has item.0.0 c)
    take-turn c left b listed ends =
        let a = at st0 was c in
        let macros = macros_at s0 n table c in
        let t = seen_hidden n was.sets item.1 in
        let u = seen_hidden st.names st.hides item.1 in
        let s = step_at st now taken c in
        let listed1 = IsConfig-Keeps known.keeps listed in
        let kept = at-Grows first-grew c listed was known.held in
        let same : u ≡ t = seen_hidden-Grows grows item.1 (token-Grows first-grew item.1 first-item) in
        let firsts : has_first s0 was.top.work c ≡ s0.has item.0.0 c = ap (λ l. has_first s0 l c) (first-is was.top.work item known.first) in
        turn-by (provenance_of files) macros t u left a b s (s0.has item.0.0 c) (s0.has was.refusals.live.0 c) refl (ap (λ l. calls_at st0 l c) known.calls)
        (λ has live.
        let begun = first-begun st0 was item c known.first known.calls has live in
        let both : s1.has cond.0 c ≡ true = known.meets.at c listed1 ∙ (λ i. has i && live i) in (
          begun.rest,
          (
            begun.work,
            subst (λ a. Comes (provenance_of files) macros t begun.rest a s) kept
                (told.comes c macros begun.rest listed1 both (ap (λ (a : At). a.view.work) kept ∙ begun.work) (sym (macros_at-Grows first-grew known.is_table c (text_of n item.1.token.spelling) listed))),
          ),
        ))
        (λ no. told.others c listed1 (known.meets.at c listed1 ∙ no) ∙ (untaken-Grows first-grew was known.held c listed ∙ same-step refl firsts refl refl))
        (subst (λ v. Ends v u left s b) same ends)

    -- a configuration that was refused puts out nothing more
    pub refused-out : {last : Stores} → Grows st last → IsHeldExpansion st (length files) now → HasPutOut st.sets last.sets taken item.1 now next → (c : List ℕ) → IsConfig s0.arities c → s0.has was.refusals.live.0 c ≡ false
        → seen_at last next.top.out c ≡ seen_at st0 was.top.out c
    refused-out {last} later held put c listed dead =
        let listed1 = IsConfig-Keeps known.keeps listed in
        let same = told.others c listed1 (known.meets.at c listed1 ∙ and_right (s0.has item.0.0 c) (s0.has was.refusals.live.0 c) dead) ∙ untaken-Grows first-grew was known.held c listed in
        put-seen later held told.taken.stays put c (IsConfig-Keeps grows.sets listed1)
        ∙ (ap (λ (s : Step). s.at.view.out ++ (if s.stays then seen_hidden last.names last.hides item.1 ∷ [] else [])) same ∙ append-nil (seen_at st0 was.top.out c))

    -- a configuration that waits has what it had, and puts out nothing more
    pub take-waits : (c : List ℕ) → IsConfig s0.arities c → IsApart s0 was c → st.sets.has now.refusals.waiting.0 c ≡ true
        → ((at st now c).view ≡ (at st0 was c).view) × ((st.sets.has taken.stays.0 c ≡ false) × (seen_at st taken.made.items c ≡ []))
    take-waits c listed apart waits = by (s0.has item.0.0 c) (s0.has was.refusals.live.0 c) refl refl
      where
        listed1 : IsConfig s1.arities c
        listed1 = IsConfig-Keeps known.keeps listed

        untouched : (s0.has item.0.0 c && s0.has was.refusals.live.0 c) ≡ false → ((at st now c).view ≡ (at st0 was c).view) × ((st.sets.has taken.stays.0 c ≡ false) × (seen_at st taken.made.items c ≡ []))
        untouched lacks =
            let same = told.others c listed1 (known.meets.at c listed1 ∙ lacks) ∙ untaken-Grows first-grew was known.held c listed in
            (ap (λ (s : Step). s.at.view) same, (ap (λ (s : Step). s.stays) same, ap (λ (s : Step). s.made) same))

        by : (b l : Bool) → s0.has item.0.0 c ≡ b → s0.has was.refusals.live.0 c ≡ l → ((at st now c).view ≡ (at st0 was c).view) × ((st.sets.has taken.stays.0 c ≡ false) × (seen_at st taken.made.items c ≡ []))
        by true true has live =
            let a = at st0 was c in
            let macros = macros_at s0 n table c in
            let t = seen_hidden n was.sets item.1 in
            let kept = at-Grows first-grew c listed was known.held in
            let begun = first-begun st0 was item c known.first known.calls has live in
            let both : s1.has cond.0 c ≡ true = known.meets.at c listed1 ∙ (λ i. has i && live i) in
            let comes = subst (λ a. Comes (provenance_of files) macros t begun.rest a (step_at st now taken c)) kept
            (told.comes c macros begun.rest listed1 both (ap (λ (a : At). a.view.work) kept ∙ begun.work) (sym (macros_at-Grows first-grew known.is_table c (text_of n item.1.token.spelling) listed))) in
            comes-waits (provenance_of files) macros t begun.rest a (step_at st now taken c) comes (apart live) waits
        by true false has dead = untouched ((λ i. has i && dead i))
        by false l lacks live = untouched ((λ i. lacks i && s0.has was.refusals.live.0 c))

    -- it has the token still, where it had it
    pub take-first : (c : List ℕ) → IsConfig s0.arities c → IsApart s0 was c → st.sets.has now.refusals.waiting.0 c ≡ true → has_first st.sets now.top.work c ≡ s0.has item.0.0 c
    take-first c listed apart waits = by (s0.has item.0.0 c) (s0.has was.refusals.live.0 c) refl refl
      where
        listed1 : IsConfig s1.arities c
        listed1 = IsConfig-Keeps known.keeps listed

        firsts : has_first s0 was.top.work c ≡ s0.has item.0.0 c
        firsts = ap (λ l. has_first s0 l c) (first-is was.top.work item known.first)

        untouched : (s0.has item.0.0 c && s0.has was.refusals.live.0 c) ≡ false → has_first st.sets now.top.work c ≡ s0.has item.0.0 c
        untouched lacks =
            let same = told.others c listed1 (known.meets.at c listed1 ∙ lacks) ∙ untaken-Grows first-grew was known.held c listed in
            ap (λ (s : Step). s.first) same ∙ firsts

        by : (b l : Bool) → s0.has item.0.0 c ≡ b → s0.has was.refusals.live.0 c ≡ l → has_first st.sets now.top.work c ≡ b
        by true true has live =
            let view = ap (λ (v : View). length v.work) (take-waits c listed apart waits).0 in
            let tokens = ap length told.lists.tokens in
            let long : length now.top.work ≡ length was.top.work = omega (arith, tokens, length-map now.top.work (λ (x : Cond × declared.Hidden). x.1), length-map was.top.work (λ (x : Cond × declared.Hidden). x.1)) in
            let count : length (items_at st.sets now.top.work c) ≡ length (items_at s0 was.top.work c)
            = omega (arith, view, length-map (items_at st.sets now.top.work c) (seen_hidden st.names st.hides), length-map (items_at s0 was.top.work c) (seen_hidden n was.sets)) in
            first-still (last-earlier {s0 = s0} {s1 = s1} {s2 = st.sets} (has_each-Keeps was.top.work c known.keeps known.held.top.work.own listed) (told.rest c listed1).rest) long count (firsts ∙ has)
        by true false has dead = untouched ((λ i. has i && dead i)) ∙ has
        by false l lacks live = untouched ((λ i. lacks i && s0.has was.refusals.live.0 c)) ∙ lacks

-- ---- what configurations that wait have left as the first token of a list is taken

pub put-out-left : {old st new : Stores} {files : ℕ} → Grows old st → Grows st new → (was now next : Expansion) (taken : Taken) (token : Hidden) → IsHeldExpansion old files was → IsHeldExpansion st files now → IsHeldTaken st files taken
    → KeepsLists was now → HasPutOut st.sets new.sets taken token now next
    → ((c : List ℕ) → IsConfig old.sets.arities c → IsApart old.sets was c → st.sets.has now.refusals.waiting.0 c ≡ true
    → ((at st now c).view ≡ (at old was c).view) × ((st.sets.has taken.stays.0 c ≡ false) × (seen_at st taken.made.items c ≡ []))) → KeepsLeft old new was next
put-out-left {old} {st} {new} {files} grows later was now next taken token held held_now made lists put waits_same = by was.below.items refl
  where
    all : Grows old new
    all = Grows-trans grows later

    below_same : next.below ≡ was.below
    below_same = put.below ∙ lists.below

    still : (c : List ℕ) → IsConfig old.sets.arities c → (b : Bool) → new.sets.has next.refusals.waiting.0 c ≡ b → st.sets.has now.refusals.waiting.0 c ≡ b
    still c listed b waits = sym (ap (λ r. new.sets.has r.waiting.0 c) put.refusals ∙ later.sets.at now.refusals.waiting.0 c held_now.refusals.waiting (IsConfig-Keeps grows.sets listed)) ∙ waits

    by : (bs : List Enclosing) → was.below.items ≡ bs → KeepsLeft old new was next
    by [] is =
        let none : now.below.items ≡ [] = ap (λ b. b.items) lists.below ∙ is in
        let bottom_was : bottom was ≡ was.top = ap (λ l. bottom_by l was.top) is in
        let bottom_next : bottom next ≡ next.top = ap (λ l. bottom_by l.items next.top) below_same ∙ ap (λ l. bottom_by l next.top) is in
        record {
          left = λ c listed apart waits.
              let listed1 = IsConfig-Keeps grows.sets listed in
              let has = still c listed true waits in
              let same = waits_same c listed apart has in
              let nothing = seen_at-Grows later c listed1 taken.made.items made.made ∙ same.1.1 in
              let work = ap (λ l. seen_at new l c) put.work ∙ (seen_at-append new taken.made.items (drop 1 now.top.work) c ∙ ap (λ l. l ++ seen_at new (drop 1 now.top.work) c) nothing) in
              let rest = ap (λ l. seen_at new l c) lists.rest ∙ seen_at-Grows all c listed was.rest held.rest in
              let list = seen_at-Grows later c listed1 now.top.work held_now.top.work ∙ ap (λ (v : View). v.work) same.0 in
              ap (λ f. seen_at new next.rest c ++ seen_at new f.work c) bottom_next
              ∙ (ap (λ l. seen_at new next.rest c ++ l) work
              ∙ (kept-left new later.sets held_now.top.work.own put.rest none c listed1 has
              ∙ ((λ i. rest i ++ list i) ∙ sym (ap (λ f. seen_at old was.rest c ++ seen_at old f.work c) bottom_was))));
          put = λ c listed apart waits.
              let listed1 = IsConfig-Keeps grows.sets listed in
              let same = waits_same c listed apart (still c listed true waits) in
              ap (λ f. seen_at new f.out c) bottom_next
              ∙ (put-seen later held_now made.stays put c listed1
              ∙ (ap (λ b. seen_at st now.top.out c ++ (if b then seen_hidden new.names new.hides token ∷ [] else [])) same.1.0
              ∙ (append-nil (seen_at st now.top.out c) ∙ (ap (λ (v : View). v.out) same.0 ∙ sym (ap (λ f. seen_at old f.out c) bottom_was)))));
          others = λ c listed lacks.
              kept-others new later.sets held_now.top.work.own put.rest c (IsConfig-Keeps grows.sets listed) (still c listed false lacks)
              ∙ (ap (λ l. seen_at new l c) lists.rest ∙ seen_at-Grows all c listed was.rest held.rest);
          some = λ every. kept-some new later.sets held_now.top.work.own put.rest (subst (All (λ (item : Cond × Hidden). IsNever new.sets item.0.0 → ⊥)) (sym lists.rest) (some-Keeps all.sets was.rest held.rest.own every));
        }
    by (b ∷ bs) is =
        let rest = kept-inside new later.sets held_now.top.work.own put.rest (λ whole. (let no : b ∷ bs ≡ [] = sym is ∙ (sym (ap (λ b. b.items) lists.below) ∙ whole) in cc)) in
        let bottom_same : bottom next ≡ bottom was = ap (λ l. bottom_by l.items next.top) below_same ∙ (ap (λ l. bottom_by l next.top) is ∙ sym (ap (λ l. bottom_by l was.top) is)) in
        same-left all was next held (rest ∙ lists.rest) (ap (λ f. f.work) bottom_same) (ap (λ f. f.out) bottom_same)

-- the token is kept where those that wait have it
pub put-out-keeps : {old st new : Stores} {files : ℕ} → Grows old st → Grows st new → (was now next : Expansion) (taken : Taken) (token : Hidden) (item : Cond × Hidden) → IsHeldExpansion st files now → KeepsLists was now
    → HasPutOut st.sets new.sets taken token now next → was.top.calls.items ≡ [] → slice_get was.top.work 0 ≡ Some item
    → ((c : List ℕ) → IsConfig old.sets.arities c → IsApart old.sets was c → st.sets.has now.refusals.waiting.0 c ≡ true → has_first st.sets now.top.work c ≡ old.sets.has item.0.0 c) → KeepsNext old.sets new.sets was next true
put-out-keeps {old} {st} {new} grows later was now next taken token item held lists put calls first firsts = by put.rest
  where
    token-is : (x : Cond × Hidden) → slice_get now.top.work 0 ≡ Some x → x.1 ≡ item.1
    token-is x at = some-same (sym (first-token now.top.work x at) ∙ (ap (λ l. slice_get l 0) lists.tokens ∙ first-token was.top.work item first))

    has : (x : Cond × Hidden) (cond : Cond) → slice_get now.top.work 0 ≡ Some x → Denotes new.sets cond.0 (λ c. st.sets.has x.0.0 c && st.sets.has now.refusals.waiting.0 c) → (c : List ℕ) → IsConfig old.sets.arities c → IsApart old.sets was c
        → new.sets.has cond.0 c ≡ (old.sets.has item.0.0 c && new.sets.has next.refusals.waiting.0 c)
    has x cond at meets c listed apart = meets.at c (IsConfig-Keeps later.sets listed1) ∙ by (st.sets.has now.refusals.waiting.0 c) refl
      where
        listed1 : IsConfig st.sets.arities c
        listed1 = IsConfig-Keeps grows.sets listed

        still : new.sets.has next.refusals.waiting.0 c ≡ st.sets.has now.refusals.waiting.0 c
        still = ap (λ r. new.sets.has r.waiting.0 c) put.refusals ∙ later.sets.at now.refusals.waiting.0 c held.refusals.waiting listed1

        by : (b : Bool) → st.sets.has now.refusals.waiting.0 c ≡ b → (st.sets.has x.0.0 c && st.sets.has now.refusals.waiting.0 c) ≡ (old.sets.has item.0.0 c && new.sets.has next.refusals.waiting.0 c)
        by true waits =
            let same : st.sets.has x.0.0 c ≡ old.sets.has item.0.0 c = sym (ap (λ l. has_first st.sets l c) (first-is now.top.work x at)) ∙ firsts c listed apart waits in
            λ i. same i && sym still i
        by false not =
            let none = still ∙ not in
            (ap (λ b. st.sets.has x.0.0 c && b) not ∙ and-false (st.sets.has x.0.0 c)) ∙ sym (ap (λ b. old.sets.has item.0.0 c && b) none ∙ and-false (old.sets.has item.0.0 c))

    by : KeepsFirst st.sets new.sets now.refusals.waiting.0 now.below.items now.top.work now.rest next.rest → KeepsNext old.sets new.sets was next true
    by (waiting.none empty same) =
        running.nothing_kept (λ whole uncalled. absurd (none-some (ap (λ (l : List (Cond × Hidden)). slice_get (map (λ (x : Cond × Hidden). x.1) l) 0) (sym (empty (ap (λ b. b.items) lists.below ∙ whole)))
        ∙ (ap (λ l. slice_get l 0) lists.tokens ∙ first-token was.top.work item first)))) (same ∙ lists.rest)
    by (waiting.kept x cond whole at meets push) =
        running.first_kept item cond (sym (ap (λ b. b.items) lists.below) ∙ whole) calls first
        (subst (λ (z : Hidden × List (Cond × Hidden)). IsPushed new.sets cond z.0 z.1 next.rest) (λ i. (token-is x at i, lists.rest i)) push) (has x cond at meets)

-- the first token is one of all that are looked at
pub first-of-all : (e : Expansion) → IsFirstIn no_others e
first-of-all e = record { is = λ item first none. subst (λ o. o.behind < length e.top.work) (sym (others-none (length e.below.items))) (slice_get_within e.top.work 0 item first) }
