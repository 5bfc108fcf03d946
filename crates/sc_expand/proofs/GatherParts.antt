-- The parts of the configurations of a name, by how its call goes on.
use Rattle.std.proofs.Common.{◌≡◌, ℕ, ◌≤◌, not, ◌&&◌, ◌||◌, Bool, true, false, List, [], ◌∷◌, All, length, get_or, refl, sym, ap, subst, ◌<◌, true≢false, ◌∙◌, arith, if◌then◌else◌, map, IsTrue}
use Rattle.sc_expand.proofs.AlikeTaking.{each-end, each-same-call}
use Rattle.sc_expand.proofs.AlikeLemmas.{IsAlike-Keeps, IsAlikeIn-Keeps}
use Rattle.sc_expand.proofs.Facts.{Extends-refl, IsConfig-Keeps, IsConfig-kept, Keeps-trans, and-false, and_parts, hidden_later, lists_at-Keeps}
use Rattle.sc_expand.proofs.GatherCases.{and_known}
use Rattle.sc_expand.proofs.GatherBranches.{called-later, spelled-same}
use Rattle.sc_expand.proofs.GatherEnds.{Ending, end-behind, end-is, ended-first, ended-gathers, ended-other, macro-is}
use Rattle.sc_expand.proofs.WorkListLemmas.{last-earlier, last-later, has_each-Keeps}
use Rattle.sc_expand.proofs.SeenLemmas.{Grows-trans, IsHeldExpansion-Grows, at-Grows, view_at-Grows}
use Rattle.sc_expand.proofs.TakingLemmas.{gone, stays-there}
use Rattle.sc_expand.proofs.TakingSteps.{has_first-Keeps}
use Rattle.sc_expand.proofs.Terms.{AreBranches, AreGathered, At, Branch, CallEnd, Denotes, Expansion, Extends, Failure, Grows, Hidden, IsAlike, IsAlikeIn, IsBranch, IsCalled, IsConfig, IsGathered, IsHeldDefinition, IsHeldExpansion, IsHeldHidden, IsHeldItem, IsSameCall, Keeps, LeavesOpen, Place, Refusals, Sets, Span, Stores, UnterminatedCall, alone, at, bare, call_end, call_end_at, call_places, closed, ends_at, failure_at, has_first, is_end, is_function_like, is_left, is_whole, left_end, list_at, lists_at, provenance_of, seen_definition, seen_form, seen_hidden, seen_item, seen_place, seen_replacement, still, stores, tokens_in, with_end}
use Rattle.sc_hoist.proofs.PartLemmas.{one_list}
use Rattle.sc_hoist.specs.Leaves.{Agree}
use Rattle.sc_macro.specs.declared.definition.Definition as declared_definition
use Rattle.sc_macro.specs.declared.definition.Item as declared_item

-- the configurations were parted, and those of a call that is not closed were refused
pub record Parted (s0 s1 s2 s3 : Sets) (names later : List (List ℕ)) (files : ℕ) (e : Expansion) (r : Refusals) (cond closes opens bares alones uncalled : ℕ) (branches : List Branch) (failure : Failure Place) : Type 0 where
  pub first : Keeps s0 s1
  pub second : Keeps s1 s2
  pub third : Keeps s2 s3
  pub longer : Extends names later
  pub held : IsHeldExpansion (stores s0 names e.sets) files e
  pub closed_is : Denotes s1 closes (λ c. s0.has cond c && is_end closed (call_end_at s0 names (tokens_in e.top.work) 0 c))
  pub open_is : Denotes s1 opens (λ c. s0.has cond c && is_end still (call_end_at s0 names (tokens_in e.top.work) 0 c))
  pub bare_is : Denotes s1 bares (λ c. s0.has cond c && is_end bare (call_end_at s0 names (tokens_in e.top.work) 0 c))
  pub alone_is : Denotes s1 alones (λ c. s0.has cond c && is_end alone (call_end_at s0 names (tokens_in e.top.work) 0 c))
  pub lists : (c : List ℕ) → IsConfig s1.arities c → lists_at s2 branches c ≡ (if s1.has closes c then call_places s1 names (tokens_in e.top.work) 0 c ∷ [] else [])
  pub are : AreBranches s2 branches
  pub leaves : LeavesOpen s2 s3 (is_whole e.below.items) opens bares alones uncalled failure e.refusals r
  pub agree : (c d : List ℕ) → IsConfig s1.arities c → IsConfig s1.arities d → s1.has closes c ≡ s1.has closes d
      → call_places s1 names (tokens_in e.top.work) 0 c ≡ call_places s1 names (tokens_in e.top.work) 0 d → Agree s2 branches c d

part-same : (end one two : CallEnd) (has had : Bool) → has ≡ had → (has ≡ true → one ≡ two) → (has && is_end end one) ≡ (had && is_end end two)
part-same end one two has had is same = ap (λ b. b && is_end end one) is ∙ and_known had (is_end end one) (is_end end two) (λ here. ap (is_end end) (same (is ∙ here)))

module _ {s0 s1 s2 s3 : Sets} {names later : List (List ℕ)} {files : ℕ} {e : Expansion} {r : Refusals} {cond closes opens bares alones uncalled : ℕ} {branches : List Branch} {failure : Failure Place}
    (parts : Parted s0 s1 s2 s3 names later files e r cond closes opens bares alones uncalled branches failure) where
  abbrev st0 : Stores
  st0 = stores s0 names e.sets

  abbrev st1 : Stores
  st1 = stores s1 names e.sets

  abbrev st2 : Stores
  st2 = stores s2 names e.sets

  abbrev st3 : Stores
  st3 = stores s3 later e.sets

  abbrev refused : Expansion
  refused = record e { refusals = r }

  g01 : Grows st0 st1
  g01 = record { sets = parts.first; names = Extends-refl names; hides = Extends-refl e.sets }

  g12 : Grows st1 st2
  g12 = record { sets = parts.second; names = Extends-refl names; hides = Extends-refl e.sets }

  g23 : Grows st2 st3
  g23 = record { sets = parts.third; names = parts.longer; hides = Extends-refl e.sets }

  g02 : Grows st0 st2
  g02 = Grows-trans g01 g12

  held1 : IsHeldExpansion st1 files e
  held1 = IsHeldExpansion-Grows g01 e parts.held

  held2 : IsHeldExpansion st2 files e
  held2 = IsHeldExpansion-Grows g12 e held1

  abbrev whole : Bool
  whole = is_whole e.below.items

  -- those that are left open
  abbrev left : List ℕ → Bool
  left c = is_left whole (s2.has opens c) (s2.has alones c)

  left-is : (c : List ℕ) → IsConfig s1.arities c
      → left c ≡ is_left whole (s0.has cond c && is_end still (call_end_at s0 names (tokens_in e.top.work) 0 c)) (s0.has cond c && is_end alone (call_end_at s0 names (tokens_in e.top.work) 0 c))
  left-is c listed1 =
      let stills = parts.second.at opens c parts.open_is.own listed1 ∙ parts.open_is.at c listed1 in
      let alone_too = parts.second.at alones c parts.alone_is.own listed1 ∙ parts.alone_is.at c listed1 in
      λ i. is_left whole (stills i) (alone_too i)

  other : (c : List ℕ) → IsConfig s2.arities c → left c ≡ false → at st3 refused c ≡ at st2 e c
  other c listed lacks =
      let lives = parts.leaves.live.at c (IsConfig-Keeps parts.third listed) ∙ stays-there (s2.has e.refusals.live.0 c) (left c) lacks in
      let view = view_at-Grows g23 c listed e.top held2.top in
      let ends = parts.leaves.ends c listed held2.refusals.own held2.refusals.waiting ∙ ap (λ b. if b then with_end (ends_at s2 e.refusals c) (left_end whole failure) else ends_at s2 e.refusals c) lacks in
      λ i. record { live = lives i; whole = whole; view = view i; ends = ends i }

  pub one-at-most : (c : List ℕ) → IsConfig s3.arities c → length (lists_at s3 branches c) ≤ 1
  one-at-most c listed =
      let listed2 = IsConfig-kept parts.third listed in
      let listed1 = IsConfig-kept parts.second listed2 in
      let place = call_places s1 names (tokens_in e.top.work) 0 c in
      let is = lists_at-Keeps branches c parts.third parts.are.own listed2 ∙ parts.lists c listed1 in
      subst (λ l. length l ≤ 1) (sym is) (few-of (s1.has closes c) place)
    where
      few-of : (b : Bool) (place : List ℕ) → length (if b then place ∷ [] else []) ≤ 1
      few-of true place = omega arith
      few-of false place = omega arith

  module _ (stands : (c : List ℕ) → IsConfig s0.arities c → s0.has cond c ≡ true → has_first s0 e.top.work c ≡ true)
      (lives : (c : List ℕ) → IsConfig s0.arities c → s0.has cond c ≡ true → s0.has e.refusals.live.0 c ≡ true)
      (waits : (c : List ℕ) → IsConfig s0.arities c → s0.has cond c ≡ true → (at st0 e c).view.calls ≡ []) where
    branch-called : (c places : List ℕ) → IsConfig s1.arities c → s1.has closes c ≡ true → places ≡ call_places s1 names (tokens_in e.top.work) 0 c → IsCalled st3 refused places c
    branch-called c places listed1 has is =
        let listed0 = IsConfig-kept parts.first listed1 in
        let listed2 = IsConfig-Keeps parts.second listed1 in
        let end = call_end_at s0 names (tokens_in e.top.work) 0 c in
        let two = and_parts (s0.has cond c) (is_end closed end) (sym (parts.closed_is.at c listed1) ∙ has) in
        let ends = end-is closed end two.1 in
        let no_fault : left c ≡ false = left-is c listed1 ∙ ((λ i. is_left whole (two.0 i && is_end still (ends i)) (two.0 i && is_end alone (ends i))) ∙ and-false whole) in
        let first = stands c listed0 two.0 in
        let own = parts.held.top.work.own in
        let same1 = at-Grows g01 c listed0 e parts.held in
        let each1 = has_each-Keeps e.top.work c parts.first own listed0 in
        let called : IsCalled st1 e places c = record {
          stands = has_first-Keeps parts.first e.top.work own c listed0 ∙ first;
          stand_at = is;
          closed = ap call_end (spelled-same st0 st1 e e c same1 each1 first) ∙ ends;
          live = parts.first.at e.refusals.live.0 c parts.held.refusals.live listed0 ∙ lives c listed0 two.0;
          calls = ap (λ (a : At). a.view.calls) same1 ∙ waits c listed0 two.0;
        } in
        called-later st1 st3 e refused c (other c listed2 no_fault ∙ at-Grows g12 c listed1 e held1) (has_each-Keeps e.top.work c (Keeps-trans parts.second parts.third) held1.top.work.own listed1) places called

    pub are-branches : All (IsBranch st3 refused) branches
    are-branches = λ k d h. record {
      own = parts.third.own _ (parts.are.own k d h);
      some = λ never. parts.are.some k d h (record { none = λ c listed. sym (parts.third.at _ c (parts.are.own k d h) listed) ∙ never.none c (IsConfig-Keeps parts.third listed) });
      each = λ c listed has.
          let listed2 = IsConfig-kept parts.third listed in
          let listed1 = IsConfig-kept parts.second listed2 in
          let had = sym (parts.third.at (get_or branches k d).cond.0 c (parts.are.own k d h) listed2) ∙ has in
          let list = one_list s2 branches c (s1.has closes c) (call_places s1 names (tokens_in e.top.work) 0 c) (parts.lists c listed1) k d h had in
          branch-called c (get_or branches k d).places.items listed1 list.0 list.1;
    }

  -- ---- two configurations

  lacking : (c : List ℕ) → IsConfig s1.arities c → s1.has closes c ≡ false → (k : ℕ) (x : Branch) → k < length branches → s2.has (get_or branches k x).cond.0 c ≡ false
  lacking c listed none k x h = by (s2.has (get_or branches k x).cond.0 c) refl
    where
      by : (b : Bool) → s2.has (get_or branches k x).cond.0 c ≡ b → b ≡ false
      by true is = absurd (true≢false (sym (one_list s2 branches c (s1.has closes c) (call_places s1 names (tokens_in e.top.work) 0 c) (parts.lists c listed) k x h is).0 ∙ none))
      by false is = refl

  -- both have the name and its call, or neither has the name
  module _ (c d : List ℕ) (at_c : IsConfig s0.arities c) (at_d : IsConfig s0.arities d) (same : s0.has cond c ≡ s0.has cond d) (call : s0.has cond c ≡ true → IsSameCall s0 names c d e.top.work) where
    pub end-alike : (end : CallEnd) → (s0.has cond c && is_end end (call_end_at s0 names (tokens_in e.top.work) 0 c)) ≡ (s0.has cond d && is_end end (call_end_at s0 names (tokens_in e.top.work) 0 d))
    end-alike end = part-same end (call_end_at s0 names (tokens_in e.top.work) 0 c) (call_end_at s0 names (tokens_in e.top.work) 0 d) (s0.has cond c) (s0.has cond d) same (λ has. (call has).ends)

    c1 : IsConfig s1.arities c
    c1 = IsConfig-Keeps parts.first at_c

    d1 : IsConfig s1.arities d
    d1 = IsConfig-Keeps parts.first at_d

    c2 : IsConfig s2.arities c
    c2 = IsConfig-Keeps parts.second c1

    d2 : IsConfig s2.arities d
    d2 = IsConfig-Keeps parts.second d1

    closes-alike : s1.has closes c ≡ s1.has closes d
    closes-alike = parts.closed_is.at c c1 ∙ (end-alike closed ∙ sym (parts.closed_is.at d d1))

    branches-alike : (has : Bool) → s1.has closes c ≡ has → All (λ (b : Branch). IsAlike s2 c d b.cond) branches
    branches-alike true is =
        let own = parts.held.top.work.own in
        let two = and_parts (s0.has cond c) (is_end closed (call_end_at s0 names (tokens_in e.top.work) 0 c)) (sym (parts.closed_is.at c c1) ∙ is) in
        let later : IsSameCall s1 names c d e.top.work = each-same-call e.top.work e.top.work g01 parts.held.top.work refl (has_each-Keeps e.top.work c parts.first own at_c) (has_each-Keeps e.top.work d parts.first own at_d) (call two.0) in
        let closes = each-end e.top.work e.top.work g01 parts.held.top.work refl c (has_each-Keeps e.top.work c parts.first own at_c) ∙ end-is closed (call_end_at s0 names (tokens_in e.top.work) 0 c) two.1 in
        (parts.agree c d c1 d1 closes-alike (later.places closes)).each
    branches-alike false is = λ k x h. lacking c c1 is k x h ∙ sym (lacking d d1 (sym closes-alike ∙ is) k x h)

    pub each-branch : All (λ (b : Branch). IsAlike s3 c d b.cond) branches
    each-branch = λ k x h. IsAlike-Keeps parts.third c2 d2 (parts.are.own k x h) (branches-alike (s1.has closes c) refl k x h)

    later-alike : (end : CallEnd) (k : ℕ) → Denotes s1 k (λ c. s0.has cond c && is_end end (call_end_at s0 names (tokens_in e.top.work) 0 c)) → s2.has k c ≡ s2.has k d
    later-alike end k told =
        let both = told.at c c1 ∙ (end-alike end ∙ sym (told.at d d1)) in
        parts.second.at k c told.own c1 ∙ (both ∙ sym (parts.second.at k d told.own d1))

    pub uncalled-alike : s3.has uncalled c ≡ s3.has uncalled d
    uncalled-alike =
        let bare_too = later-alike bare bares parts.bare_is in
        let alone_too = later-alike alone alones parts.alone_is in
        parts.leaves.uncalled_is.at c (IsConfig-Keeps parts.third c2) ∙ ((λ i. bare_too i || (not whole && alone_too i)) ∙ sym (parts.leaves.uncalled_is.at d (IsConfig-Keeps parts.third d2)))

    pub parted-alike : (span : Span) → IsAlikeIn s0 c d span e → IsAlikeIn s3 c d span refused
    parted-alike span alike =
        let kept = IsAlikeIn-Keeps (Keeps-trans parts.first parts.second) at_c at_d span e parts.held alike in
        let later = IsAlikeIn-Keeps parts.third c2 d2 span e held2 kept in
        record {
          refusals = parts.leaves.alike c d span.faults c2 d2 held2.refusals.own held2.refusals.waiting (later-alike still opens parts.open_is) (later-alike alone alones parts.alone_is) kept.refusals;
          work = later.work;
          out = later.out;
          calls = later.calls;
        }

  -- ---- the end

  pub ending : (s4 : Sets) (last_names : List (List ℕ)) (e2 : Expansion) → Keeps s3 s4 → IsHeldExpansion (stores s4 last_names e2.sets) files e2 → (c : List ℕ) → IsConfig s0.arities c → (has : Bool) → s0.has cond c ≡ has
      → Ending st0 st3 (stores s4 last_names e2.sets) (stores s4 last_names e2.sets) e refused e2 branches failure c (call_places s1 names (tokens_in e.top.work) 0 c) whole (left c) (s4.has uncalled c)
      has (call_end_at s0 names (tokens_in e.top.work) 0 c)
  ending s4 last_names e2 fourth held4 c listed0 has has_is =
      let listed1 = IsConfig-Keeps parts.first listed0 in
      let listed2 = IsConfig-Keeps parts.second listed1 in
      let listed3 = IsConfig-Keeps parts.third listed2 in
      let place = call_places s1 names (tokens_in e.top.work) 0 c in
      let end = call_end_at s0 names (tokens_in e.top.work) 0 c in
      let same = at-Grows g02 c listed0 e parts.held in
      let bare_now = parts.second.at bares c parts.bare_is.own listed1 ∙ (parts.bare_is.at c listed1 ∙ ap (λ b. b && is_end bare end) has_is) in
      let alone_now = parts.second.at alones c parts.alone_is.own listed1 ∙ (parts.alone_is.at c listed1 ∙ ap (λ b. b && is_end alone end) has_is) in
      record {
        lists = lists_at-Keeps branches c parts.third parts.are.own listed2 ∙ (parts.lists c listed1 ∙ ap (λ b. if b then place ∷ [] else []) (parts.closed_is.at c listed1 ∙ ap (λ b. b && is_end closed end) has_is));
        refused_is = left-is c listed1 ∙ ap (λ b. is_left whole (b && is_end still end) (b && is_end alone end)) has_is;
        uncalled_is = fourth.at uncalled c parts.leaves.uncalled_is.own listed3 ∙ (parts.leaves.uncalled_is.at c listed3 ∙ (λ i. bare_now i || (not whole && alone_now i)));
        other = λ lacks. other c listed2 lacks ∙ same;
        dead = λ has. parts.leaves.live.at c listed3 ∙ gone (s2.has e.refusals.live.0 c) (left c) has;
        ends = λ has. parts.leaves.ends c listed2 held2.refusals.own held2.refusals.waiting ∙ (ap (λ b. if b then with_end (ends_at s2 e.refusals c) (left_end whole failure) else ends_at s2 e.refusals c) has
            ∙ ap (λ (a : At). with_end a.ends (left_end whole failure)) same);
        view = view_at-Grows g23 c listed2 e.top held2.top ∙ ap (λ (a : At). a.view) same;
        each = has_each-Keeps e.top.work c (Keeps-trans parts.first (Keeps-trans parts.second parts.third)) parts.held.top.work.own listed0;
        last = refl;
        last_each = refl;
      }

  pub parted-config : (c : List ℕ) → IsConfig s0.arities c → IsConfig s3.arities c
  parted-config c listed = IsConfig-Keeps parts.third (IsConfig-Keeps parts.second (IsConfig-Keeps parts.first listed))

  pub parted-held : failure.place.file.0 < files → IsHeldExpansion st3 files refused
  parted-held within =
      let later = IsHeldExpansion-Grows g23 e held2 in
      record { refusals = parts.leaves.held files within held2.refusals; rest = later.rest; top = later.top; below = later.below }

-- ---- all configurations

-- what was promised of the branches that were found is so of them where they are read
pub parted-by : (s0 s1 s2 s3 : Sets) (names later : List (List ℕ)) (files : ℕ) (e : Expansion) (r : Refusals) (cond closes opens bares alones uncalled : ℕ) (found branches : List Branch) (failure : Failure Place) → branches ≡ found
    → Keeps s0 s1 → Keeps s1 s2 → Keeps s2 s3 → Extends names later → IsHeldExpansion (stores s0 names e.sets) files e
    → Denotes s1 closes (λ c. s0.has cond c && is_end closed (call_end_at s0 names (tokens_in e.top.work) 0 c))
    → Denotes s1 opens (λ c. s0.has cond c && is_end still (call_end_at s0 names (tokens_in e.top.work) 0 c))
    → Denotes s1 bares (λ c. s0.has cond c && is_end bare (call_end_at s0 names (tokens_in e.top.work) 0 c))
    → Denotes s1 alones (λ c. s0.has cond c && is_end alone (call_end_at s0 names (tokens_in e.top.work) 0 c))
    → ((c : List ℕ) → IsConfig s1.arities c → lists_at s2 found c ≡ (if s1.has closes c then call_places s1 names (tokens_in e.top.work) 0 c ∷ [] else [])) → AreBranches s2 found
    → LeavesOpen s2 s3 (is_whole e.below.items) opens bares alones uncalled failure e.refusals r
    → ((c d : List ℕ) → IsConfig s1.arities c → IsConfig s1.arities d → s1.has closes c ≡ s1.has closes d
    → call_places s1 names (tokens_in e.top.work) 0 c ≡ call_places s1 names (tokens_in e.top.work) 0 d → Agree s2 found c d)
    → Parted s0 s1 s2 s3 names later files e r cond closes opens bares alones uncalled branches failure
parted-by s0 s1 s2 s3 names later files e r cond closes opens bares alones uncalled found branches failure value first second third longer held closed_is open_is bare_is alone_is lists are leaves agree = record {
  first = first;
  second = second;
  third = third;
  longer = longer;
  held = held;
  closed_is = closed_is;
  open_is = open_is;
  bare_is = bare_is;
  alone_is = alone_is;
  lists = λ c listed. ap (λ bs. lists_at s2 bs c) value ∙ lists c listed;
  are = subst (AreBranches s2) (sym value) are;
  leaves = leaves;
  agree = λ c d at_c at_d same placed. subst (λ bs. Agree s2 bs c d) (sym value) (agree c d at_c at_d same placed);
}

module _ {s0 s1 s2 s3 : Sets} {names later : List (List ℕ)} {e : Expansion} {r : Refusals} {cond closes opens bares alones uncalled : ℕ} {branches : List Branch} (files : List (List ℕ)) (head : Hidden)
    (parts : Parted s0 s1 s2 s3 names later (length files) e r cond closes opens bares alones uncalled branches (failure_at UnterminatedCall (seen_hidden names e.sets head)))
    (head_held : IsHeldHidden names e.sets head) (definition : declared_definition.Definition) (items made : List declared_item.Item) (is_definition : IsHeldDefinition names definition) (value : items ≡ made) (own : All (IsHeldItem later) made)
    (list : map (seen_item later) made ≡ list_at (seen_replacement later definition.replacement) (seen_place files head.token.place)) (function : IsTrue (is_function_like (seen_form names definition.form)))
    (stands : (c : List ℕ) → IsConfig s0.arities c → s0.has cond c ≡ true → has_first s0 e.top.work c ≡ true) (waits : (c : List ℕ) → IsConfig s0.arities c → s0.has cond c ≡ true → (at (stores s0 names e.sets) e c).view.calls ≡ [])
    (s4 : Sets) (last : List (List ℕ)) (e4 : Expansion) (fourth : Keeps s3 s4) (held4 : IsHeldExpansion (stores s4 last e4.sets) (length files) e4)
    (done : AreGathered (stores s3 later e.sets) (stores s4 last e4.sets) (record e { refusals = r }) e4 definition.form items head branches) where
  ended : (c : List ℕ) → IsConfig s0.arities c → (has : Bool) → s0.has cond c ≡ has
      → Ending (stores s0 names e.sets) (stores s3 later e.sets) (stores s4 last e4.sets) (stores s4 last e4.sets) e (record e { refusals = r }) e4 branches (failure_at UnterminatedCall (seen_hidden names e.sets head)) c
      (call_places s1 names (tokens_in e.top.work) 0 c) (is_whole e.below.items) (left parts c) (s4.has uncalled c) has (call_end_at s0 names (tokens_in e.top.work) 0 c)
  ended = ending parts s4 last e4 fourth held4

  pub is-gathered : IsGathered files (stores s0 names e.sets) (stores s4 last e4.sets) e e4 cond uncalled definition head
  is-gathered = record {
    own = fourth.own _ parts.leaves.uncalled_is.own;
    gathers = λ c macros rest listed has work looked is.
        let st0 = stores s0 names e.sets in
        let provenance = provenance_of files in
        let here = ap (map (seen_item later)) value ∙ list in
        let macro = macro-is s3 names later e.sets provenance macros definition head items head_held is_definition (subst (All (IsHeldItem later)) (sym value) own) parts.longer looked is here in
        ended-gathers st0 (stores s3 later e.sets) (stores s4 last e4.sets) (stores s4 last e4.sets) e (record e { refusals = r }) e4 branches definition.form items head c (call_places s1 names (tokens_in e.top.work) 0 c) (is_whole e.below.items) (left parts c)
        (s4.has uncalled c) (parted-config parts c listed) done provenance macros (seen_definition names definition) rest work (waits c listed has) (hidden_later head head_held parts.longer (Extends-refl e.sets)) looked is function macro refl
        (call_end_at s0 names (tokens_in e.top.work) 0 c) (ended c listed true has) (end-behind st0 e.top.work c (seen_hidden names e.sets head) rest (stands c listed has) work);
    others = λ c listed lacks.
        ended-other (stores s0 names e.sets) (stores s3 later e.sets) (stores s4 last e4.sets) (stores s4 last e4.sets) e (record e { refusals = r }) e4 branches definition.form items head c (call_places s1 names (tokens_in e.top.work) 0 c)
        (is_whole e.below.items) (left parts c) (s4.has uncalled c) (parted-config parts c listed) done (call_end_at s0 names (tokens_in e.top.work) 0 c) (ended c listed false lacks);
    first = λ c listed has live.
        ended-first (stores s0 names e.sets) (stores s3 later e.sets) (stores s4 last e4.sets) (stores s4 last e4.sets) e (record e { refusals = r }) e4 branches definition.form items head c (call_places s1 names (tokens_in e.top.work) 0 c)
        (is_whole e.below.items) (left parts c) (s4.has uncalled c) (parted-config parts c listed) done (call_end_at s0 names (tokens_in e.top.work) 0 c) (ended c listed true has) (stands c listed has) live;
    alike = λ c d span at_c at_d same call was.
        let c3 = parted-config parts c at_c in
        let d3 = parted-config parts d at_d in
        let kept = done.alike c d span c3 d3 (each-branch parts c d at_c at_d same call) (parted-alike parts c d at_c at_d same call span was) in (
          kept,
          fourth.at uncalled c parts.leaves.uncalled_is.own c3 ∙ (uncalled-alike parts c d at_c at_d same call ∙ sym (fourth.at uncalled d parts.leaves.uncalled_is.own d3)),
        );
    rest = λ c listed. (let it = ended c listed (s0.has cond c) refl in last-earlier it.each (last-later (done.rest c (parted-config parts c listed)) it.last_each));
  }
