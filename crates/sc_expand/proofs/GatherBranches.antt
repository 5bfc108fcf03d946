-- The calls of branches leave their list one after the other.
use Rattle.std.proofs.Common.{◌≡◌, ℕ, zero, suc, ◌+◌, ◌<◌, ◌≤◌, Bool, true, false, List, [], ◌∷◌, ◌++◌, All, map, take, drop, length, get_or, refl, sym, ap, subst, ◌∙◌, arith, append-nil, if◌then◌else◌}
use Rattle.sc_expand.proofs.AlikeTaking.{each-behind, places-same}
use Rattle.sc_expand.proofs.AlikeLemmas.{IsAlike-Keeps}
use Rattle.sc_expand.proofs.BeginningLemmas.{same_conds}
use Rattle.sc_expand.proofs.Facts.{All-cons, All-nil, IsConfig-Keeps, IsConfig-kept, form_later, get_or-take, hidden_later, items_later, length-append, length-take, lists_at-append, take_more, text_later}
use Rattle.sc_expand.proofs.GatherPlaces.{spelled-behind}
use Rattle.sc_expand.proofs.TakingSteps.{lists-same, lists-then, seen-first}
use Rattle.sc_expand.proofs.WorkListLemmas.{last-each, last-earlier, last-later}
use Rattle.sc_expand.proofs.Terms.{AreGathered, At, Branch, Cond, Definition, Expansion, Gathers, Grows, HasLast, Hidden, HiddenToken, IsAlike, IsBranch, IsCalled, IsCond, IsConfig, IsHeldForm, IsHeldHidden, IsHeldItem, IsMacro, Macros, Place, Provenance, Sets, Stores, at, call_end, call_length, has_each, has_first, is_looked_up, lists_at, places_from, seen_at, seen_hidden, spelled_at, tokens_in}
use Rattle.sc_macro.specs.declared.definition.Item as declared_item
use Rattle.sc_macro.specs.declared.form.Form as declared_form

-- ---- lists of branches

lists_at-take : (s : Sets) (bs : List Branch) (i : ℕ) (b : Branch) (c : List ℕ) → i < length bs → b ≡ get_or bs i b → lists_at s (take (i + 1) bs) c ≡ lists_at s (take i bs) c ++ (if s.has b.cond.0 c then b.places.items ∷ [] else [])
lists_at-take s bs i b c within is =
    ap (λ l. lists_at s l c) (take_more bs i b within) ∙ (lists_at-append s (take i bs) (get_or bs i b ∷ []) c ∙ ap (λ x. lists_at s (take i bs) c ++ lists_at s (x ∷ []) c) (sym is))

-- no list is of a branch before this one, where no two are of the configuration
pub none-earlier : (s : Sets) (bs : List Branch) (i : ℕ) (b : Branch) (c : List ℕ) → i < length bs → b ≡ get_or bs i b → s.has b.cond.0 c ≡ true → length (lists_at s bs c) ≤ 1 → lists_at s (take i bs) c ≡ []
none-earlier s [] i b c within is has one = absurd (omega (arith, within))
none-earlier s (y ∷ ys) zero b c within is has one = refl
none-earlier s (y ∷ ys) (suc i) b c within is has one = by (s.has y.cond.0 c) one (λ le. none-earlier s ys i b c (omega (arith, within)) is has le)
  where
    some : (ys : List Branch) (i : ℕ) → i < length ys → b ≡ get_or ys i b → 1 ≤ length (lists_at s ys c)
    some [] i h e = absurd (omega (arith, h))
    some (z ∷ zs) zero h e = at (s.has z.cond.0 c) (ap (λ x. s.has x.cond.0 c) (sym e) ∙ has)
      where
        at : (t : Bool) → t ≡ true → 1 ≤ length (if t then z.places.items ∷ lists_at s zs c else lists_at s zs c)
        at true e = omega arith
        at false e = absurd (cc)
    some (z ∷ zs) (suc i) h e = at (s.has z.cond.0 c) (some zs i (omega (arith, h)) e)
      where
        at : (t : Bool) → 1 ≤ length (lists_at s zs c) → 1 ≤ length (if t then z.places.items ∷ lists_at s zs c else lists_at s zs c)
        at true e = omega arith
        at false e = e

    by : (t : Bool) → length (if t then y.places.items ∷ lists_at s ys c else lists_at s ys c) ≤ 1 → (length (lists_at s ys c) ≤ 1 → lists_at s (take i ys) c ≡ [])
        → (if t then y.places.items ∷ lists_at s (take i ys) c else lists_at s (take i ys) c) ≡ []
    by false le rest = rest le
    by true le rest = absurd (omega (arith, some ys i (omega (arith, within)) is, le))

-- ---- what tells the tokens of a configuration

pub first-of-each : (s t : Sets) (xs ys : List (Cond × Hidden)) (c : List ℕ) → has_each s xs c ≡ has_each t ys c → has_first s xs c ≡ has_first t ys c
first-of-each s t [] [] c is = refl
first-of-each s t [] (y ∷ ys) c is = absurd (cc)
first-of-each s t (x ∷ xs) [] c is = absurd (cc)
first-of-each s t (x ∷ xs) (y ∷ ys) c is = cc

seen-whole : (st : Stores) (list : List (Cond × Hidden)) (c : List ℕ) → has_first st.sets list c ≡ true → (t : HiddenToken Place) × (seen_at st list c ≡ t ∷ seen_at st (drop 1 list) c)
seen-whole st [] c has = absurd (cc)
seen-whole st (x ∷ xs) c has =
    (seen_hidden st.names st.hides x.1, seen-first st x xs c ∙ ap (λ b. if b then seen_hidden st.names st.hides x.1 ∷ seen_at st xs c else seen_at st xs c) has)

module _ (old new : Stores) (e0 e1 : Expansion) (c : List ℕ) (same : at new e1 c ≡ at old e0 c) (each : has_each new.sets e1.top.work c ≡ has_each old.sets e0.top.work c) where
  pub spelled-same : has_first old.sets e0.top.work c ≡ true → spelled_at new.sets new.names (drop 1 (tokens_in e1.top.work)) c ≡ spelled_at old.sets old.names (drop 1 (tokens_in e0.top.work)) c
  spelled-same has =
      let two = seen-whole old e0.top.work c has in
      let one = seen-whole new e1.top.work c (first-of-each new.sets old.sets e1.top.work e0.top.work c each ∙ has) in
      let both : one.0 ∷ seen_at new (drop 1 e1.top.work) c ≡ two.0 ∷ seen_at old (drop 1 e0.top.work) c = sym one.1 ∙ (ap (λ (a : At). a.view.work) same ∙ two.1) in
      let rest : seen_at new (drop 1 e1.top.work) c ≡ seen_at old (drop 1 e0.top.work) c = cc in
      spelled-behind new.names new.sets c new.hides e1.top.work ∙ (ap (map (λ (t : HiddenToken Place). t.spelling)) rest ∙ sym (spelled-behind old.names old.sets c old.hides e0.top.work))

  pub called-later : (places : List ℕ) → IsCalled old e0 places c → IsCalled new e1 places c
  called-later places is =
      let spelled = spelled-same is.stands in
      let from = ap (λ cs. places_from new.sets 1 cs c) (same_conds e1.top.work)
      ∙ (places-same new.sets old.sets c c 1 (drop 1 e1.top.work) (drop 1 e0.top.work) (each-behind new.sets old.sets c c e1.top.work e0.top.work each) ∙ sym (ap (λ cs. places_from old.sets 1 cs c) (same_conds e0.top.work))) in
      record {
        stands = first-of-each new.sets old.sets e1.top.work e0.top.work c each ∙ is.stands;
        stand_at = is.stand_at ∙ sym (λ i. 0 ∷ take (call_length (spelled i)) (from i));
        closed = ap call_end spelled ∙ is.closed;
        live = ap (λ (a : At). a.live) same ∙ is.live;
        calls = ap (λ (a : At). a.view.calls) same ∙ is.calls;
      }

-- ---- one branch more

module _ {old mid : Stores} (grows : Grows old mid) (form : declared_form.Form) (items : List declared_item.Item) (head : Hidden) (head_held : IsHeldHidden old.names old.hides head) (form_held : IsHeldForm old.names form) (items_held : All (IsHeldItem old.names) items) where
  pub head-same : seen_hidden mid.names mid.hides head ≡ seen_hidden old.names old.hides head
  head-same = hidden_later head head_held grows.names grows.hides

  IsMacro-Grows : (provenance : Provenance Place) (macros : Macros) (d : Definition) → IsMacro old provenance macros form items head d → IsMacro mid provenance macros form items head d
  IsMacro-Grows provenance macros d is = record {
    looked_up = ap is_looked_up head-same ∙ is.looked_up;
    defined = ap macros (text_later head.token.spelling head_held.token.spelling grows.names) ∙ is.defined;
    formed = is.formed ∙ sym (form_later form form_held grows.names);
    list = is.list ∙ sym (items_later items items_held grows.names);
  }

  module _ (e0 e1 : Expansion) (bs : List Branch) (i : ℕ) (b : Branch) (within : i < length bs) (is_next : b ≡ get_or bs i b) (done : AreGathered old mid e0 e1 form items head (take i bs))
      (one : (c : List ℕ) → IsConfig old.sets.arities c → length (lists_at old.sets bs c) ≤ 1) where
    pub branch-later : IsBranch old e0 b → IsBranch mid e1 b
    branch-later is = record {
      own = grows.sets.own b.cond.0 is.own;
      some = λ never. is.some (record { none = λ c listed. sym (grows.sets.at b.cond.0 c is.own listed) ∙ never.none c (IsConfig-Keeps grows.sets listed) });
      each = λ c listed has.
          let first = IsConfig-kept grows.sets listed in
          let had = sym (grows.sets.at b.cond.0 c is.own first) ∙ has in
          let other = done.others c first (none-earlier old.sets bs i b c within is_next had (one c first)) in
          called-later old mid e0 e1 c other.0 other.1 b.places.items (is.each c first had);
    }

    module _ (st : Stores) (e2 : Expansion) (more : AreGathered mid st e1 e2 form items head (b ∷ [])) (own : IsCond old.sets b.cond.0) where
      -- the configuration is of this branch, or of one before, or of none
      split : (had : Bool) (before all : List (List ℕ)) → all ≡ before ++ (if had then b.places.items ∷ [] else []) → (place : List ℕ) → all ≡ place ∷ [] → had ≡ true → before ≡ []
      split true [] all is place single h = refl
      split true (x ∷ xs) all is place single h =
          let two : (x ∷ xs) ++ b.places.items ∷ [] ≡ place ∷ [] = sym is ∙ single in
          let long = ap length two in
          absurd (omega (arith, long, length-append (x ∷ xs) (b.places.items ∷ [])))
      split false before all is place single h = absurd (cc)

      empty : (had : Bool) (before all : List (List ℕ)) → all ≡ before ++ (if had then b.places.items ∷ [] else []) → all ≡ [] → (before ≡ []) × (had ≡ false)
      empty true [] all is none = let two : b.places.items ∷ [] ≡ [] = sym is ∙ none in absurd (cc)
      empty false [] all is none = (refl, refl)
      empty had (x ∷ xs) all is none = let two : (x ∷ xs) ++ (if had then b.places.items ∷ [] else []) ≡ [] = sym is ∙ none in absurd (let long = ap length two in omega (arith, long, length-append (x ∷ xs) (if had then b.places.items ∷ [] else [])))

      module _ (c : List ℕ) (listed : IsConfig old.sets.arities c) where
        later : IsConfig mid.sets.arities c
        later = IsConfig-Keeps grows.sets listed

        one-list : (had : Bool) → old.sets.has b.cond.0 c ≡ had → lists_at mid.sets (b ∷ []) c ≡ (if had then b.places.items ∷ [] else [])
        one-list had is = ap (λ t. if t then b.places.items ∷ [] else []) (grows.sets.at b.cond.0 c own listed ∙ is)

        all-lists : (had : Bool) → old.sets.has b.cond.0 c ≡ had → lists_at old.sets (take (i + 1) bs) c ≡ lists_at old.sets (take i bs) c ++ (if had then b.places.items ∷ [] else [])
        all-lists had is = lists_at-take old.sets bs i b c within is_next ∙ ap (λ t. lists_at old.sets (take i bs) c ++ (if t then b.places.items ∷ [] else [])) is

        gathers-next : (had : Bool) → old.sets.has b.cond.0 c ≡ had → (place : List ℕ) (provenance : Provenance Place) (macros : Macros) (d : Definition) (rest : List (HiddenToken Place))
            → lists_at old.sets (take (i + 1) bs) c ≡ place ∷ [] → (at old e0 c).view.work ≡ seen_hidden old.names old.hides head ∷ rest → IsMacro old provenance macros form items head d
            → Gathers provenance macros (seen_hidden old.names old.hides head) rest (at old e0 c) (at st e2 c) false
        gathers-next true has place provenance macros d rest lists work is =
            let none = split true (lists_at old.sets (take i bs) c) (lists_at old.sets (take (i + 1) bs) c) (all-lists true has) place lists refl in
            let other = done.others c listed none in
            let here = ap (λ (a : At). a.view.work) other.0 ∙ (work ∙ ap (λ t. t ∷ rest) (sym head-same)) in
            let it = more.gathers c b.places.items provenance macros d rest later (one-list true has) here (IsMacro-Grows provenance macros d is) in
            subst (λ t. Gathers provenance macros t rest (at old e0 c) (at st e2 c) false) head-same (subst (λ a. Gathers provenance macros (seen_hidden mid.names mid.hides head) rest a (at st e2 c) false) other.0 it)
        gathers-next false has place provenance macros d rest lists work is =
            let before = sym (all-lists false has ∙ append-nil (lists_at old.sets (take i bs) c)) ∙ lists in
            let it = done.gathers c place provenance macros d rest listed before work is in
            subst (λ b. Gathers provenance macros (seen_hidden old.names old.hides head) rest (at old e0 c) b false) (sym (more.others c later (one-list false has)).0) it

        first-next : (had : Bool) → old.sets.has b.cond.0 c ≡ had → (place : List ℕ) → lists_at old.sets (take (i + 1) bs) c ≡ place ∷ [] → has_first st.sets e2.top.work c ≡ false
        first-next true has place lists = more.first c b.places.items later (one-list true has)
        first-next false has place lists =
            let before = sym (all-lists false has ∙ append-nil (lists_at old.sets (take i bs) c)) ∙ lists in
            first-of-each st.sets mid.sets e2.top.work e1.top.work c (more.others c later (one-list false has)).1 ∙ done.first c place listed before

        others-next : (had : Bool) → old.sets.has b.cond.0 c ≡ had → lists_at old.sets (take (i + 1) bs) c ≡ []
            → (at st e2 c ≡ at old e0 c) × (has_each st.sets e2.top.work c ≡ has_each old.sets e0.top.work c)
        others-next had is none =
            let parts = empty had (lists_at old.sets (take i bs) c) (lists_at old.sets (take (i + 1) bs) c) (all-lists had is) none in
            let one = more.others c later (one-list had is ∙ ap (λ t. if t then b.places.items ∷ [] else []) parts.1) in
            let two = done.others c listed parts.0 in
            (one.0 ∙ two.0, one.1 ∙ two.1)

        rest-next : (had : Bool) → old.sets.has b.cond.0 c ≡ had → HasLast old.sets st.sets e0.top.work e2.top.work c
        rest-next true has = last-earlier (done.others c listed (none-earlier old.sets bs i b c within is_next has (one c listed))).1 (more.rest c later)
        rest-next false has = last-later (done.rest c listed) (more.others c later (one-list false has)).1

      pub gathered-more : AreGathered old st e0 e2 form items head (take (i + 1) bs)
      gathered-more = record {
        held = λ files held. more.held files (done.held files held);
        lists = lists-then done.lists more.lists;
        gathers = λ c place provenance macros d rest listed lists work is. gathers-next c listed (old.sets.has b.cond.0 c) refl place provenance macros d rest lists work is;
        first = λ c place listed lists. first-next c listed (old.sets.has b.cond.0 c) refl place lists;
        others = λ c listed none. others-next c listed (old.sets.has b.cond.0 c) refl none;
        alike = λ c d span at_c at_d same was.
            let P : Branch → Type 0 = λ x. IsAlike old.sets c d x.cond in
            let before : All P (take i bs) = λ k z h. (
            let low : k < i = omega (arith, h, length-take i bs) in
            let here = same k z (omega (arith, low, within, length-take (i + 1) bs)) in
            subst P (get_or-take (i + 1) bs k z (omega (arith, low)) ∙ sym (get_or-take i bs k z low)) here) in
            let last : P b = subst P (get_or-take (i + 1) bs i b (omega arith) ∙ sym is_next) (same i b (omega (arith, within, length-take (i + 1) bs))) in
            let next = IsAlike-Keeps grows.sets at_c at_d own last in
            more.alike c d span (later c at_c) (later d at_d) (All-cons (λ (x : Branch). IsAlike mid.sets c d x.cond) b [] next (All-nil (λ (x : Branch). IsAlike mid.sets c d x.cond)))
            (done.alike c d span at_c at_d before was);
        rest = λ c listed. rest-next c listed (old.sets.has b.cond.0 c) refl;
      }

-- no call was taken out yet
pub gathered-none : (st : Stores) (e : Expansion) (form : declared_form.Form) (items : List declared_item.Item) (head : Hidden) → AreGathered st st e e form items head []
gathered-none st e form items head = record {
  held = λ files held. held;
  lists = lists-same e;
  gathers = λ c place provenance macros d rest listed lists work is. absurd (none place lists);
  first = λ c place listed lists. absurd (none place lists);
  others = λ c listed lists. (refl, refl);
  alike = λ c d span at_c at_d same was. was;
  rest = λ c listed. last-each refl;
}
  where
    none : (place : List ℕ) → (let nothing : List (List ℕ) = [] in nothing) ≡ place ∷ [] → ⊥
    none place is = cc
