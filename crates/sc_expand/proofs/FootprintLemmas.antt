-- Configurations with different footprints of one name of a list.
use Rattle.std.proofs.Common.{◌≡◌, ℕ, ◌+◌, List, [], ◌∷◌, All, AllPairs, Option, Some, Result, drop, map, slice_get, refl, sym, ap, subst, ◌∙◌, arith, zero, suc, ◌-◌, true, false, Bool, length, take, if◌then◌else◌}
use Rattle.c11_macros.specs.Footprint.{Arrives, begins, footprint_from, goes_on}
use Rattle.sc_expand.proofs.Ending.{bared}
use Rattle.sc_expand.proofs.Facts.{one_footprint, All-head, All-tail, All-weaker, drop-map, length-map, slice_get-map}
use Rattle.sc_expand.proofs.PlainPlaces.{case_of-moved, expands-moved, moved_case, stays-moved}
use Rattle.sc_expand.proofs.Terms.{Agree, BranchesFull, Cond, Expands, Failure, Footprint, HasFootprints, HiddenToken as Hidden, IsSameUse, Macros, OutOfMemory, Provenance, ReadFault, ReplacesAt, Sets, Stop, StopsAtName, Token, UsesAt, footprint, items_at, place_alone, seen, taken_behind, unhidden, Case, IsKept, Name, behind_at, case_of, moved, moved_answer, option_map, provenance_of, seen_hidden, seen_place, set_at}
use Rattle.sc_expand.proofs.TextLemmas.{places-kept, seen_hidden-begun}
use Rattle.sc_expand.specs.Stops.{HasConfigs, StopsBy}
use Rattle.sc_subst.specs.declared.hidden.Hidden as declared_hidden

module _ {T P : Type 0} {see : T → Hidden P} {provenance : Provenance P} {macros : Macros} {s : Sets} {list : List (Cond × T)} {at : ℕ} {c : List ℕ} where
  abbrev pub print_of : UsesAt see provenance macros s list at c → Footprint
  print_of x = footprint x.expands

same_Some : {A : Type 0} (x y : A) (o : Option A) → o ≡ Some x → o ≡ Some y → x ≡ y
same_Some x y o is also = cc

-- what follows of each pair where something holds of its first
pub pairs : {A : Type 0} (R S : A → A → Type 0) (Holds : A → Type 0) → ((x y : A) → Holds x → R x y → S x y) → (xs : List A) → All Holds xs → AllPairs R xs → AllPairs S xs
pairs R S Holds weaker xs all related i j d less within = weaker _ _ (all i d (omega (arith, less, within))) (related i j d less within)

-- what follows of each pair where something holds of both
pub pairs-both : {A : Type 0} (R S : A → A → Type 0) (Holds : A → Type 0) → ((x y : A) → Holds x → Holds y → R x y → S x y) → (xs : List A) → All Holds xs → AllPairs R xs → AllPairs S xs
pairs-both R S Holds weaker xs all related i j d less within = weaker _ _ (all i d (omega (arith, less, within))) (all j d within) (related i j d less within)

pub Agree-refl : (macros : Macros) (names : List (List ℕ)) → Agree macros macros names
Agree-refl macros [] = tt
Agree-refl macros (name ∷ names) = (refl, Agree-refl macros names)

module _ {T P : Type 0} (see : T → Hidden P) (provenance : Provenance P) where
  print-by : (macros : Macros) (rest : List (Hidden P)) (one other : Cond × T) → one ≡ other → {r s : Result (List (Hidden P)) (Failure P)} (d : Expands provenance macros (see one.1 ∷ rest) r) (e : Expands provenance macros (see other.1 ∷ rest) s)
      → footprint d ≡ footprint e
  print-by macros rest one other same {r} {s} d =
      subst (λ (item : Cond × T). (e : Expands provenance macros (see item.1 ∷ rest) s) → footprint d ≡ footprint e) same (λ e. one_footprint d e)

  -- the footprint of a name is one
  pub same-print : {macros : Macros} {s : Sets} {list : List (Cond × T)} {at : ℕ} {c : List ℕ} (x y : UsesAt see provenance macros s list at c) → print_of x ≡ print_of y
  same-print {macros} {s} {list} {at} {c} x y = print-by macros (map see (items_at s (drop (at + 1) list) c)) x.item y.item (same_Some x.item y.item (slice_get list at) x.is y.is) x.expands y.expands

  -- with the same uses each other use is the same
  pub same-use : {macros : List ℕ → Macros} {s : Sets} {list : List (Cond × T)} {at : ℕ} {c d : List ℕ} (x : UsesAt see provenance (macros c) s list at c) (y : UsesAt see provenance (macros d) s list at d)
      → IsSameUse see provenance macros s list at c d
      → (taken_behind s list at (print_of x) c ≡ taken_behind s list at (print_of y) d) × Agree (macros c) (macros d) (print_of x).looked_up
  same-use {macros} {s} {list} {at} {c} {d} x y same =
      let one : print_of same.one ≡ print_of x = same-print same.one x in
      let other : print_of same.other ≡ print_of y = same-print same.other y in (
        sym (ap (λ f. taken_behind s list at f c) one) ∙ same.taken ∙ ap (λ f. taken_behind s list at f d) other,
        subst (λ (f : Footprint). Agree (macros c) (macros d) f.looked_up) one same.agree,
      )

  -- configurations that are the same have the same footprint
  pub one-use : {macros : List ℕ → Macros} {s : Sets} {list : List (Cond × T)} {at : ℕ} {c : List ℕ} → UsesAt see provenance (macros c) s list at c → (d : List ℕ) → c ≡ d → IsSameUse see provenance macros s list at c d
  one-use {macros} {s} {list} {at} {c} x d same =
      subst (IsSameUse see provenance macros s list at c) same (record { one = x; other = x; taken = refl; agree = Agree-refl (macros c) (print_of x).looked_up })

  -- so configurations that differ in their footprints differ
  pub footprints-configs : (macros : List ℕ → Macros) (s : Sets) (cond : ℕ) (list : List (Cond × T)) (count : ℕ) → HasFootprints see provenance macros s cond list count → HasConfigs s.arities count
  footprints-configs macros s cond list count has = record {
    configs = has.configs;
    many = has.many;
    listed = has.listed;
    apart = pairs (λ c d. IsSameUse see provenance macros s list has.at c d → ⊥) (λ a b. a ≡ b → ⊥) (λ c. ReplacesAt see provenance (macros c) s list has.at c)
        (λ c d come apart same. apart (one-use come.uses d same)) has.configs has.come has.apart;
  }

  pub stops-configs : (macros : List ℕ → Macros) (s : Sets) (cond : ℕ) (list : List (Cond × T)) (limit : ℕ) (stop : Stop) → StopsAtName see provenance macros s cond list limit stop → StopsBy s.arities limit stop
  stops-configs macros s cond list limit (BranchesFull count) stops = (stops.0, footprints-configs macros s cond list (limit + 1) stops.1)
  stops-configs macros s cond list limit ReadFault stops = stops
  stops-configs macros s cond list limit OutOfMemory stops = tt

-- what stops the expansion of a list that a text is made of, of configurations that differ
pub expand-stops : (s : Sets) (names files : List (List ℕ)) (macros : List ℕ → Macros) (live : ℕ) (list : List (Cond × Token)) (limit : ℕ) (stop : Stop)
    → StopsAtName (λ t. unhidden (seen names files t)) place_alone macros s live list limit stop → StopsBy s.arities limit stop
expand-stops s names files macros live list limit stop stops = stops-configs (λ t. unhidden (seen names files t)) place_alone macros s live list limit stop stops

-- ---- footprints with something else kept of the places of tokens

module _ {P Q : Type 0} (f : P → Q) {one : Provenance P} {two : Provenance Q} (kept : IsKept one two f) (macros : Macros) where
  -- the expansion of a list whose first token and others were mapped, with the same footprint
  pub record HasPrint (u : Hidden Q) (others : List (Hidden Q)) (print : Footprint) : Type 0 where
    pub answer : Result (List (Hidden Q)) (Failure Q)
    pub expands : Expands two macros (u ∷ others) answer
    pub is : footprint expands ≡ print

  pub print-moved : (t : Hidden P) (rest : List (Hidden P)) (r : Result (List (Hidden P)) (Failure P)) (d : Expands one macros (t ∷ rest) r) → HasPrint (moved f t) (map (moved f) rest) (footprint d)
  print-moved t rest r d =
      let e = expands-moved f kept macros d in
      record { answer = moved_answer f r; expands = e.expands; is = λ i. footprint_from (length-map rest (moved f) i) (e.by i).uses }

  -- an expansion that comes to a token comes to it where they are mapped
  pub arrives-moved : {ts us : List (Hidden P)} → Arrives one macros ts us → Arrives two macros (map (moved f) ts) (map (moved f) us)
  arrives-moved begins = begins
  arrives-moved {ts} (goes_on {t} {rest} {r} before d not) =
      let e = print-moved t rest r d in
      let left : length (map (moved f) rest) - (footprint e.expands).left ≡ length rest - (footprint d).left = λ i. length-map rest (moved f) i - (e.is i).left in
      subst (Arrives two macros (map (moved f) ts)) (ap (λ n. drop n (map (moved f) rest)) left ∙ drop-map (moved f) (length rest - (footprint d).left) rest)
      (goes_on (arrives-moved before) e.expands (ap (λ (p : Footprint). p.fails) e.is ∙ not))

same-arrives : {P : Type 0} (provenance : Provenance P) (macros : Macros) {ts us vs ws : List (Hidden P)} → ts ≡ us → vs ≡ ws → Arrives provenance macros ts vs → Arrives provenance macros us ws
same-arrives provenance macros {ts} {us} {vs} {ws} first second arrives = subst (λ l. Arrives provenance macros l ws) first (subst (Arrives provenance macros ts) second arrives)

-- a list of other tokens, each with the condition of its own
abbrev pub each_as : {T U : Type 0} → (T → U) → List (Cond × T) → List (Cond × U)
each_as g list = map (λ item. (item.0, g item.1)) list

module _ {T U : Type 0} (g : T → U) (s : Sets) (c : List ℕ) where
  behind-as : (list : List (Cond × T)) → behind_at s (each_as g list) c ≡ behind_at s list c
  behind-as [] = refl
  behind-as (item ∷ items) = λ i. if s.has item.0.0 c then length-map {B = Cond × U} items (λ (x : Cond × T). (x.0, g x.1)) i ∷ behind-as items i else behind-as items i

module _ {T U P Q : Type 0} (see : T → Hidden P) (look : U → Hidden Q) (g : T → U) (f : P → Q) {one : Provenance P} {two : Provenance Q} (kept : IsKept one two f) (s : Sets) where
  -- the tokens look as those of the list, mapped
  abbrev pub AreMoved : List (Cond × T) → Type 0
  AreMoved = All (λ (item : Cond × T). look (g item.1) ≡ moved f (see item.1))

  seen-moved : (list : List (Cond × T)) (c : List ℕ) → AreMoved list → map look (items_at s (each_as g list) c) ≡ map (moved f) (map see (items_at s list c))
  seen-moved [] c same = refl
  seen-moved (item ∷ items) c same =
      by (s.has item.0.0 c) (All-head (λ (x : Cond × T). look (g x.1) ≡ moved f (see x.1)) item items same)
      (seen-moved items c (All-tail (λ (x : Cond × T). look (g x.1) ≡ moved f (see x.1)) item items same))
    where
      by : (b : Bool) → look (g item.1) ≡ moved f (see item.1) → map look (items_at s (each_as g items) c) ≡ map (moved f) (map see (items_at s items c))
          → map look (if b then g item.1 ∷ items_at s (each_as g items) c else items_at s (each_as g items) c) ≡ map (moved f) (map see (if b then item.1 ∷ items_at s items c else items_at s items c))
      by true first rest = λ i. first i ∷ rest i
      by false first rest = rest

  AreMoved-drop : (n : ℕ) (list : List (Cond × T)) → AreMoved list → AreMoved (drop n list)
  AreMoved-drop zero list same = same
  AreMoved-drop (suc n) [] same = same
  AreMoved-drop (suc n) (item ∷ items) same = AreMoved-drop n items (All-tail (λ (x : Cond × T). look (g x.1) ≡ moved f (see x.1)) item items same)

  at-item : (list : List (Cond × T)) (n : ℕ) (item : Cond × T) → AreMoved list → slice_get list n ≡ Some item → look (g item.1) ≡ moved f (see item.1)
  at-item [] n item same is = absurd (cc)
  at-item (x ∷ xs) zero item same is =
      let first : x ≡ item = cc in
      subst (λ (y : Cond × T). look (g y.1) ≡ moved f (see y.1)) first (All-head (λ (x : Cond × T). look (g x.1) ≡ moved f (see x.1)) x xs same)
  at-item (x ∷ xs) (suc n) item same is = at-item xs n item (All-tail (λ (x : Cond × T). look (g x.1) ≡ moved f (see x.1)) x xs same) is

  -- the use of a list, where its tokens are mapped, with the same footprint and the same case
  pub record UsesAs (macros : Macros) (list : List (Cond × T)) (at : ℕ) (c : List ℕ) (print : Footprint) (case : Case P) : Type 0 where
    pub uses : UsesAt look two macros s (each_as g list) at c
    pub is : print_of uses ≡ print
    pub case_is : case_of macros (look uses.item.1) (map look (items_at s (drop (at + 1) (each_as g list)) c)) ≡ moved_case f case

  pub uses-moved : (macros : Macros) (list : List (Cond × T)) (at : ℕ) (c : List ℕ) → AreMoved list → (x : UsesAt see one macros s list at c) → UsesAs macros list at c (print_of x) (case_of macros (see x.item.1) (map see (items_at s (drop (at + 1) list) c)))
  uses-moved macros list at c same x =
      let behind = items_at s (drop (at + 1) list) c in
      let first : look (g x.item.1) ≡ moved f (see x.item.1) = at-item list at x.item same x.is in
      let rest : map look (items_at s (drop (at + 1) (each_as g list)) c) ≡ map (moved f) (map see behind) =
      ap (λ l. map look (items_at s l c)) (drop-map (λ (item : Cond × T). (item.0, g item.1)) (at + 1) list) ∙ seen-moved (drop (at + 1) list) c (AreMoved-drop (at + 1) list same) in
      let p = subst (λ l. HasPrint f kept macros (look (g x.item.1)) l (print_of x)) (sym rest)
      (subst (λ u. HasPrint f kept macros u (map (moved f) (map see behind)) (print_of x)) (sym first) (print-moved f kept macros (see x.item.1) (map see behind) x.answer x.expands)) in
      record {
        uses = record {
          item = (x.item.0, g x.item.1);
          is = slice_get-map (λ (item : Cond × T). (item.0, g item.1)) list at ∙ ap (option_map (λ (item : Cond × T). (item.0, g item.1))) x.is;
          has = x.has;
          answer = p.answer;
          expands = p.expands;
          arrives = same-arrives two macros (sym (seen-moved list c same)) (λ i. sym first i ∷ sym rest i) (arrives-moved f kept macros x.arrives);
        };
        is = p.is;
        case_is = (λ i. case_of macros (first i) (rest i)) ∙ case_of-moved f macros (see x.item.1) (map see behind);
      }

  pub replaces-moved : (macros : Macros) (list : List (Cond × T)) (at : ℕ) (c : List ℕ) → AreMoved list → ReplacesAt see one macros s list at c → ReplacesAt look two macros s (each_as g list) at c
  replaces-moved macros list at c same x =
      let u = uses-moved macros list at c same x.uses in
      let case = case_of macros (see x.uses.item.1) (map see (items_at s (drop (at + 1) list) c)) in
      record { uses = u.uses; replaces = λ stay. x.replaces (stays-moved f case (sym u.case_is ∙ stay)) }

  taken-as : (list : List (Cond × T)) (at : ℕ) (print : Footprint) (c : List ℕ) → taken_behind s (each_as g list) at print c ≡ taken_behind s list at print c
  taken-as list at print c =
      ap (λ l. take (length l - print.left) l) (ap (λ l. behind_at s l c) (drop-map (λ (item : Cond × T). (item.0, g item.1)) (at + 1) list) ∙ behind-as g s c (drop (at + 1) list))

  -- different footprints of a name of the list are so where its tokens are mapped
  pub footprints-moved : (macros : List ℕ → Macros) (cond : ℕ) (list : List (Cond × T)) (count : ℕ) → AreMoved list → HasFootprints see one macros s cond list count → HasFootprints look two macros s cond (each_as g list) count
  footprints-moved macros cond list count same has = record {
    at = has.at;
    configs = has.configs;
    many = has.many;
    listed = has.listed;
    has = has.has;
    come = λ k d within. replaces-moved (macros _) list has.at _ same (has.come k d within);
    apart = pairs-both (λ c d. IsSameUse see one macros s list has.at c d → ⊥) (λ c d. IsSameUse look two macros s (each_as g list) has.at c d → ⊥) (λ c. ReplacesAt see one (macros c) s list has.at c)
        (λ c d x y apart also.
        let u = uses-moved (macros c) list has.at c same x.uses in
        let v = uses-moved (macros d) list has.at d same y.uses in
        let both = same-use look two u.uses v.uses also in
        apart (record {
          one = x.uses;
          other = y.uses;
          taken =
              sym (taken-as list has.at (print_of x.uses) c)
              ∙ ap (λ p. taken_behind s (each_as g list) has.at p c) (sym u.is)
              ∙ both.0
              ∙ ap (λ p. taken_behind s (each_as g list) has.at p d) v.is
              ∙ taken-as list has.at (print_of y.uses) d;
          agree = subst (λ (p : Footprint). Agree (macros c) (macros d) p.looked_up) u.is both.1;
        })) has.configs has.come has.apart;
  }

-- ---- the tokens of a text

module _ (s : Sets) (names files : List (List ℕ)) (hides : List (List Name)) where
  unhidden-moved : (h : declared_hidden.Hidden) → set_at hides h.hide.0 ≡ [] → unhidden (seen names files h.token) ≡ moved (seen_place files) (seen_hidden names hides h)
  unhidden-moved h none = sym (ap (moved (seen_place files)) (seen_hidden-begun names hides h none))

  -- what stops the expansion of a list stops that of the text
  pub text-stops : (macros : List ℕ → Macros) (cond : ℕ) (work : List (Cond × declared_hidden.Hidden)) (list : List (Cond × Token)) (limit : ℕ) (stop : Stop) → map bared work ≡ list
      → All (λ (item : Cond × declared_hidden.Hidden). set_at hides item.1.hide.0 ≡ []) work → StopsAtName (seen_hidden names hides) (provenance_of files) macros s cond work limit stop
      → StopsAtName (λ t. unhidden (seen names files t)) place_alone macros s cond list limit stop
  text-stops macros cond work list limit (BranchesFull count) tokens none stops = (
    stops.0,
    subst (λ l. HasFootprints (λ t. unhidden (seen names files t)) place_alone macros s cond l (limit + 1)) tokens
        (footprints-moved (seen_hidden names hides) (λ t. unhidden (seen names files t)) (λ (h : declared_hidden.Hidden). h.token) (seen_place files) (places-kept files) s macros cond work (limit + 1)
        (All-weaker (λ (item : Cond × declared_hidden.Hidden). set_at hides item.1.hide.0 ≡ []) (λ (item : Cond × declared_hidden.Hidden). unhidden (seen names files item.1.token) ≡ moved (seen_place files) (seen_hidden names hides item.1))
        (λ item unhid. unhidden-moved item.1 unhid) work none) stops.1),
  )
  text-stops macros cond work list limit ReadFault tokens none stops = stops
  text-stops macros cond work list limit OutOfMemory tokens none stops = tt
