-- Branches whose calls end in one way, put behind others.
use Rattle.std.proofs.Common.{◌≡◌, ℕ, ◌+◌, ◌<◌, ◌&&◌, Bool, true, false, List, [], ◌∷◌, ◌++◌, All, length, map, drop, get_or, refl, ap, sym, subst, ◌∙◌, arith, if◌then◌else◌}
use Rattle.std.proofs.lemmas.Bool.{and_parts}
use Rattle.std.proofs.lemmas.List.Elements.{All-head, All-tail, All-append, All-map, All-nil}
use Rattle.sc_base.specs.declared.id.Cond.{Cond}
use Rattle.sc_base.specs.declared.stop.Stop.{Stop}
use Rattle.sc_base.specs.declared.stop.Stop.TheVariants.{BranchesFull, ReadFault, OutOfMemory}
use Rattle.sc_base.specs.declared.token.Token.{Token}
use Rattle.sc_hoist.specs.declared.branch.Branch.{Branch}
use Rattle.sc_hoist.specs.declared.branch.Ends.{Ends}
use Rattle.sc_hoist.specs.declared.branch.Ends.TheVariants as ends
use Rattle.sc_hoist.specs.declared.state.State.{State}
use Rattle.sc_hoist.specs.declared.state.State.TheVariants.{Alone, Inside, Closed, Bare}
use Rattle.sc_hoist.specs.declared.state.Test.TheVariants.{IsClosed, IsStill, IsNoCall}
use Rattle.sc_hoist.specs.Branches.{lists_at, Refuses}
use Rattle.sc_hoist.specs.Calls.{call_end_at, call_places, ends_at, ends_of, with_ends}
use Rattle.sc_hoist.specs.Leaves.{Agree, AreMet}
use Rattle.sc_hoist.specs.Places.{places_from}
use Rattle.sc_hoist.specs.Reading.{AreEntries, end_in, in_states, passes, state_after, taken_from}
use Rattle.sc_hoist.proofs.BranchLemmas.{lists_at-append, lists_at-Keeps, Agree-nil}
use Rattle.sc_hoist.proofs.CallLemmas.{end_in-after}
use Rattle.sc_hoist.proofs.EndLemmas.{told, same_told, taken_from-take}
use Rattle.sc_hoist.proofs.ItemLemmas.{places_from-Keeps}
use Rattle.sc_hoist.proofs.PartLemmas.{ArePartsOf, no_branch}
use Rattle.sc_hoist.proofs.StateLemmas.{in_states-Keeps}
use Rattle.sc_hoist.specs.Added.{Adds}
use Rattle.sc_hoist.specs.declared.states.Entry.{Entry}
use Rattle.sc_model.proofs.SetLemmas.{IsConfig-Keeps, IsConfig-kept, Keeps-refl, Keeps-trans}
use Rattle.sc_model.specs.Sets.{Sets, IsConfig, IsCond, Keeps, IsNever, Denotes}

lists_at-with_ends : (s : Sets) (e : Ends) (xs : List Branch) (c : List ℕ) → lists_at s (map (with_ends e) xs) c ≡ lists_at s xs c
lists_at-with_ends s e [] c = refl
lists_at-with_ends s e (x ∷ xs) c = ap (λ ls. if s.has x.cond.0 c then x.places.items ∷ ls else ls) (lists_at-with_ends s e xs c)

ends_at-with_ends : (s : Sets) (e : Ends) (xs : List Branch) (c : List ℕ) → ends_at s (map (with_ends e) xs) c ≡ map (λ (ps : List ℕ). e) (lists_at s xs c)
ends_at-with_ends s e [] c = refl
ends_at-with_ends s e (x ∷ xs) c = by (s.has x.cond.0 c) (ends_at-with_ends s e xs c)
  where
    by : (b : Bool) → ends_at s (map (with_ends e) xs) c ≡ map (λ (ps : List ℕ). e) (lists_at s xs c)
        → (if b then e ∷ ends_at s (map (with_ends e) xs) c else ends_at s (map (with_ends e) xs) c) ≡ map (λ (ps : List ℕ). e) (if b then x.places.items ∷ lists_at s xs c else lists_at s xs c)
    by true is = ap (λ es. e ∷ es) is
    by false is = is

ends_at-append : (s : Sets) (xs ys : List Branch) (c : List ℕ) → ends_at s (xs ++ ys) c ≡ ends_at s xs c ++ ends_at s ys c
ends_at-append s [] ys c = refl
ends_at-append s (x ∷ xs) ys c = by (s.has x.cond.0 c) (ends_at-append s xs ys c)
  where
    by : (b : Bool) → ends_at s (xs ++ ys) c ≡ ends_at s xs c ++ ends_at s ys c → (if b then x.ends ∷ ends_at s (xs ++ ys) c else ends_at s (xs ++ ys) c) ≡ (if b then x.ends ∷ ends_at s xs c else ends_at s xs c) ++ ends_at s ys c
    by true is = ap (λ es. x.ends ∷ es) is
    by false is = is

ends_at-Keeps : {old new : Sets} (xs : List Branch) (c : List ℕ) → Keeps old new → All (λ (x : Branch). IsCond old x.cond.0) xs → IsConfig old.arities c → ends_at new xs c ≡ ends_at old xs c
ends_at-Keeps [] c keeps own listed = refl
ends_at-Keeps {old} {new} (x ∷ xs) c keeps own listed =
    let P : Branch → Type 0 = λ x. IsCond old x.cond.0 in
    ap (λ b. if b then x.ends ∷ ends_at new xs c else ends_at new xs c) (keeps.at x.cond.0 c (All-head P x xs own) listed)
    ∙ ap (λ es. if old.has x.cond.0 c then x.ends ∷ es else es) (ends_at-Keeps xs c keeps (All-tail P x xs own) listed)

-- the lists and the ends of branches put behind others
pub lists_at-more : {old new : Sets} (before found made : List Branch) (e : Ends) (c : List ℕ) (h : Bool) (place : List ℕ) → Keeps old new → AreMet old before → IsConfig old.arities c → made ≡ before ++ map (with_ends e) found
    → lists_at new found c ≡ (if h then place ∷ [] else []) → lists_at new made c ≡ lists_at old before c ++ (if h then place ∷ [] else [])
lists_at-more {old} {new} before found made e c h place keeps met listed is one =
    ap (λ (bs : List Branch). lists_at new bs c) is
    ∙ (lists_at-append new before (map (with_ends e) found) c
    ∙ (ap (λ ls. ls ++ lists_at new (map (with_ends e) found) c) (lists_at-Keeps before c keeps met.own listed) ∙ ap (λ ls. lists_at old before c ++ ls) (lists_at-with_ends new e found c ∙ one)))

pub ends_at-more : {old new : Sets} (before found made : List Branch) (e : Ends) (c : List ℕ) (h : Bool) (place : List ℕ) → Keeps old new → AreMet old before → IsConfig old.arities c → made ≡ before ++ map (with_ends e) found
    → lists_at new found c ≡ (if h then place ∷ [] else []) → ends_at new made c ≡ ends_at old before c ++ (if h then e ∷ [] else [])
ends_at-more {old} {new} before found made e c h place keeps met listed is one =
    ap (λ (bs : List Branch). ends_at new bs c) is
    ∙ (ends_at-append new before (map (with_ends e) found) c
    ∙ (ap (λ ls. ls ++ ends_at new (map (with_ends e) found) c) (ends_at-Keeps before c keeps met.own listed)
    ∙ ap (λ ls. ends_at old before c ++ ls) (ends_at-with_ends new e found c ∙ (ap (map (λ (ps : List ℕ). e)) one ∙ by h))))
  where
    by : (b : Bool) → map (λ (ps : List ℕ). e) (if b then place ∷ [] else []) ≡ (if b then e ∷ [] else [])
    by true = refl
    by false = refl

pub AreMet-Keeps : {old new : Sets} {xs : List Branch} → Keeps old new → AreMet old xs → AreMet new xs
AreMet-Keeps keeps were = record {
  own = λ k d h. keeps.own _ (were.own k d h);
  some = λ k d h never. were.some k d h (record { none = λ c listed. sym (keeps.at _ c (were.own k d h) listed) ∙ never.none c (IsConfig-Keeps keeps listed) });
}

pub AreMet-more : {s : Sets} (before found made : List Branch) (e : Ends) → AreMet s before → All (λ (x : Branch). IsCond s x.cond.0) found → All (λ (x : Branch). IsNever s x.cond.0 → ⊥) found → made ≡ before ++ map (with_ends e) found → AreMet s made
AreMet-more {s} before found made e were own some is =
    let P : Branch → Type 0 = λ x. IsCond s x.cond.0 in
    let Q : Branch → Type 0 = λ x. IsNever s x.cond.0 → ⊥ in
    subst (AreMet s) (sym is) (record {
      own = All-append P before (map (with_ends e) found) were.own (All-map P (with_ends e) found own);
      some = All-append Q before (map (with_ends e) found) were.some (All-map Q (with_ends e) found some);
    })

pub AreMet-nil : (s : Sets) → AreMet s []
AreMet-nil s = record { own = All-nil (λ (x : Branch). IsCond s x.cond.0); some = All-nil (λ (x : Branch). IsNever s x.cond.0 → ⊥) }

pub Agree-more : {old new : Sets} (before found made : List Branch) (e : Ends) (c d : List ℕ) → Keeps old new → AreMet old before → IsConfig old.arities c → IsConfig old.arities d → made ≡ before ++ map (with_ends e) found
    → Agree old before c d → Agree new found c d → Agree new made c d
Agree-more {old} {new} before found made e c d keeps met c_listed d_listed is were more =
    let P : Branch → Type 0 = λ x. new.has x.cond.0 c ≡ new.has x.cond.0 d in
    subst (λ (bs : List Branch). Agree new bs c d) (sym is) (record {
      each = All-append P before (map (with_ends e) found)
          (λ k x h. keeps.at _ c (met.own k x h) c_listed ∙ (were.each k x h ∙ sym (keeps.at _ d (met.own k x h) d_listed)))
          (All-map P (with_ends e) found more.each);
    })

-- why there is no answer, for a part of the configurations and for all of them
pub Refuses-wider : {s t : Sets} (sub cond : ℕ) (one two : List ℕ → List ℕ) (limit : ℕ) (stop : Stop) → Keeps s t → ((c : List ℕ) → IsConfig s.arities c → t.has sub c ≡ true → s.has cond c ≡ true)
    → ((c : List ℕ) → IsConfig s.arities c → t.has sub c ≡ true → one c ≡ two c) → Refuses t sub one limit stop → Refuses s cond two limit stop
Refuses-wider sub cond one two limit (BranchesFull count) keeps within same (is, lists) = (
  is,
  record {
    configs = lists.configs;
    many = lists.many;
    listed = λ k c h. IsConfig-kept keeps (lists.listed k c h);
    has = λ k c h. within (get_or lists.configs k c) (IsConfig-kept keeps (lists.listed k c h)) (lists.has k c h);
    apart = λ i j c order h equal.
        let low : i < length lists.configs = omega arith in
        let at_i = same (get_or lists.configs i c) (IsConfig-kept keeps (lists.listed i c low)) (lists.has i c low) in
        let at_j = same (get_or lists.configs j c) (IsConfig-kept keeps (lists.listed j c h)) (lists.has j c h) in
        lists.apart i j c order h (at_i ∙ (equal ∙ sym at_j));
  },
)
Refuses-wider sub cond one two limit ReadFault keeps within same refuses = refuses
Refuses-wider sub cond one two limit OutOfMemory keeps within same refuses = tt

-- a configuration passes one of the three tests
pub one_of_three : (h : Bool) (st : State) (first second third whole : List ℕ) → (h ≡ true → first ≡ whole) → (h ≡ true → second ≡ whole) → (h ≡ true → third ≡ whole)
    → ((([] ++ (if h && passes IsClosed st then first ∷ [] else [])) ++ (if h && passes IsStill st then second ∷ [] else [])) ++ (if h && passes IsNoCall st then third ∷ [] else [])) ≡ (if h then whole ∷ [] else [])
one_of_three false st first second third whole one two three = refl
one_of_three true Closed first second third whole one two three = ap (λ ps. ps ∷ []) (one refl)
one_of_three true (Inside depth) first second third whole one two three = ap (λ ps. ps ∷ []) (two refl)
one_of_three true Alone first second third whole one two three = ap (λ ps. ps ∷ []) (three refl)
one_of_three true Bare first second third whole one two three = ap (λ ps. ps ∷ []) (three refl)

pub one_end : (h : Bool) (st : State)
    → ((([] ++ (if h && passes IsClosed st then ends.Closed ∷ [] else [])) ++ (if h && passes IsStill st then ends.Still ∷ [] else [])) ++ (if h && passes IsNoCall st then ends.NoCall ∷ [] else [])) ≡ (if h then ends_of (end_in st) ∷ [] else [])
one_end false st = refl
one_end true Closed = refl
one_end true (Inside depth) = refl
one_end true Alone = refl
one_end true Bare = refl

-- the tests ask what the tokens of the call tell
closed_told : (st : State) → passes IsClosed st ≡ passes IsClosed (told st)
closed_told Alone = refl
closed_told (Inside depth) = refl
closed_told Closed = refl
closed_told Bare = refl

still_told : (st : State) → passes IsStill st ≡ passes IsStill (told st)
still_told Alone = refl
still_told (Inside depth) = refl
still_told Closed = refl
still_told Bare = refl

none_told : (st : State) → passes IsNoCall st ≡ passes IsNoCall (told st)
none_told Alone = refl
none_told (Inside depth) = refl
none_told Closed = refl
none_told Bare = refl

pub record SameTests (one two : State) : Type 0 where
  pub closed : passes IsClosed one ≡ passes IsClosed two
  pub still : passes IsStill one ≡ passes IsStill two
  pub none : passes IsNoCall one ≡ passes IsNoCall two

module _ (s : Sets) (names : List (List ℕ)) (tokens : List (Cond × Token)) (at : ℕ) where
  pub call_places-taken : (c : List ℕ) → at ∷ taken_from s names Alone (at + 1) (drop (at + 1) tokens) c ≡ call_places s names tokens at c
  call_places-taken c = ap (λ (ps : List ℕ). at ∷ ps) (taken_from-take s names Alone (at + 1) (drop (at + 1) tokens) c)

  -- configurations with the same call pass the same tests
  pub same_tests : (c d : List ℕ) → call_places s names tokens at c ≡ call_places s names tokens at d → SameTests (state_after s names (drop (at + 1) tokens) c Alone) (state_after s names (drop (at + 1) tokens) d Alone)
  same_tests c d same =
      let items : List (Cond × Token) = drop (at + 1) tokens in
      let left : List ℕ = taken_from s names Alone (at + 1) items c in
      let right : List ℕ = taken_from s names Alone (at + 1) items d in
      let whole : at ∷ left ≡ at ∷ right = call_places-taken c ∙ (same ∙ sym (call_places-taken d)) in
      let taken : left ≡ right = cc in
      let one : State = state_after s names items c Alone in
      let two : State = state_after s names items d Alone in
      let tells : told one ≡ told two = same_told s names Alone Alone (at + 1) items c d taken refl in
      record {
        closed = closed_told one ∙ (ap (λ (st : State). passes IsClosed st) tells ∙ sym (closed_told two));
        still = still_told one ∙ (ap (λ (st : State). passes IsStill st) tells ∙ sym (still_told two));
        none = none_told one ∙ (ap (λ (st : State). passes IsNoCall st) tells ∙ sym (none_told two));
      }

  pub end_is : (c : List ℕ) → ends_of (end_in (state_after s names (drop (at + 1) tokens) c Alone)) ≡ ends_of (call_end_at s names tokens at c)
  end_is c = ap ends_of (end_in-after s names (drop (at + 1) tokens) c Alone)

-- configurations of no branch
pub Agree-none : (s : Sets) (xs : List Branch) (c d : List ℕ) → lists_at s xs c ≡ [] → lists_at s xs d ≡ [] → Agree s xs c d
Agree-none s xs c d none_c none_d = record { each = λ k x h. no_branch s xs c none_c k x h ∙ sym (no_branch s xs d none_d k x h) }

-- the condition of those that pass a test, and their list
pub has_state : (s mid : Sets) (entries seen : List Entry) (test : State → Bool) (cond : ℕ) (c : List ℕ) → seen ≡ entries → Denotes mid cond (λ c. in_states s seen test c) → IsConfig mid.arities c → mid.has cond c ≡ in_states s entries test c
has_state s mid entries seen test cond c is told listed = told.at c listed ∙ ap (λ (es : List Entry). in_states s es test c) is

pub places_seen : (s mid : Sets) (at : ℕ) (items seen : List Cond) (c : List ℕ) → seen ≡ items → Keeps s mid → All (λ (item : Cond). IsCond s item.0) items → IsConfig s.arities c → places_from mid at seen c ≡ places_from s at items c
places_seen s mid at items seen c is keeps own listed = ap (λ (ks : List Cond). places_from mid at ks c) is ∙ places_from-Keeps at items c keeps own listed

-- three times, for each kind of end
joined : {A : Type 0} (l0 l1 l2 l3 a1 a2 a3 b1 b2 b3 : List A) → l0 ≡ [] → l1 ≡ l0 ++ a1 → l2 ≡ l1 ++ a2 → l3 ≡ l2 ++ a3 → a1 ≡ b1 → a2 ≡ b2 → a3 ≡ b3 → l3 ≡ (([] ++ b1) ++ b2) ++ b3
joined l0 l1 l2 l3 a1 a2 a3 b1 b2 b3 e0 e1 e2 e3 f1 f2 f3 = cc

pub part_is : {A : Type 0} (b d : Bool) (x y : A) → b ≡ d → x ≡ y → (if b then x ∷ [] else []) ≡ (if d then y ∷ [] else [])
part_is b d x y e f = ap (λ (k : Bool). if k then x ∷ [] else []) e ∙ ap (λ z. if d then z ∷ [] else []) f

-- what was read of the call of a name
pub record HasRead (s t : Sets) (names : List (List ℕ)) (tokens : List (Cond × Token)) (at cond : ℕ) (states : List Entry) (conds : List Cond) : Type 0 where
  pub keeps : Keeps s t
  pub own : All (λ (item : Cond). IsCond t item.0) conds
  pub states_own : AreEntries t states
  pub reached : (test : State → Bool) (c : List ℕ) → IsConfig s.arities c → in_states t states test c ≡ (s.has cond c && test (state_after s names (drop (at + 1) tokens) c Alone))
  pub places : (c : List ℕ) → IsConfig s.arities c → s.has cond c ≡ true → places_from t at conds c ≡ at ∷ taken_from s names Alone (at + 1) (drop (at + 1) tokens) c

pub record AllAdded (t t1 t2 t3 : Sets) (at : ℕ) (states : List Entry) (conds : List Cond) (b1 b2 b3 : List Branch) : Type 0 where
  pub first : Adds t t1 states (passes IsClosed) at conds ends.Closed [] b1
  pub second : Adds t1 t2 states (passes IsStill) at conds ends.Still b1 b2
  pub third : Adds t2 t3 states (passes IsNoCall) at conds ends.NoCall b2 b3
  pub keeps1 : Keeps t t1
  pub keeps2 : Keeps t1 t2
  pub keeps3 : Keeps t2 t3

module _ {s t : Sets} {names : List (List ℕ)} {tokens : List (Cond × Token)} {at cond : ℕ} {states : List Entry} {conds : List Cond} (read : HasRead s t names tokens at cond states conds) where
  -- a later store says the same of the states and of the places
  later_state : (u : Sets) (test : State → Bool) (c : List ℕ) → Keeps t u → IsConfig s.arities c → in_states u states test c ≡ (s.has cond c && test (state_after s names (drop (at + 1) tokens) c Alone))
  later_state u test c keeps listed = in_states-Keeps states test c keeps read.states_own.own (IsConfig-Keeps read.keeps listed) ∙ read.reached test c listed

  later_places : (u : Sets) (c : List ℕ) → Keeps t u → IsConfig s.arities c → s.has cond c ≡ true → places_from u at conds c ≡ call_places s names tokens at c
  later_places u c keeps listed had = places_from-Keeps at conds c keeps read.own (IsConfig-Keeps read.keeps listed) ∙ (read.places c listed had ∙ call_places-taken s names tokens at c)

  pub wider : (u : Sets) (test : State → Bool) (c : List ℕ) → Keeps t u → IsConfig u.arities c → in_states u states test c ≡ true → u.has cond c ≡ s.has cond c → u.has cond c ≡ true
  wider u test c keeps listed in_state same =
      let was = IsConfig-kept (Keeps-trans read.keeps keeps) listed in
      same ∙ (and_parts (s.has cond c) (test (state_after s names (drop (at + 1) tokens) c Alone)) (sym (later_state u test c keeps was) ∙ in_state)).0

  -- why a step has no answer
  pub refused_at : (u : Sets) (test : State → Bool) (limit : ℕ) (stop : Stop) → Keeps t u → IsCond s cond
      → ((k : ℕ) → ((c : List ℕ) → IsConfig u.arities c → in_states u states test c ≡ true → u.has k c ≡ true) → Refuses u k (λ c. places_from u at conds c) limit stop)
      → Refuses s cond (λ c. call_places s names tokens at c) limit stop
  refused_at u test limit stop keeps own refused =
      let whole = Keeps-trans read.keeps keeps in
      Refuses-wider cond cond (λ c. places_from u at conds c) (λ c. call_places s names tokens at c) limit stop whole
      (λ c listed had. sym (whole.at cond c own listed) ∙ had)
      (λ c listed had. later_places u c keeps listed (sym (whole.at cond c own listed) ∙ had))
      (refused cond (λ c listed in_state. wider u test c keeps listed in_state (whole.at cond c own (IsConfig-kept whole listed))))

  module _ {t1 t2 t3 : Sets} {b1 b2 b3 : List Branch} (added : AllAdded t t1 t2 t3 at states conds b1 b2 b3) where
    pub all_lists : (c : List ℕ) → IsConfig s.arities c → lists_at t3 b3 c ≡ (if s.has cond c then call_places s names tokens at c ∷ [] else [])
    all_lists c listed =
        let two = Keeps-trans added.keeps1 added.keeps2 in
        let at0 = IsConfig-Keeps read.keeps listed in
        let at1 = IsConfig-Keeps added.keeps1 at0 in
        let at2 = IsConfig-Keeps added.keeps2 at1 in
        let h : Bool = s.has cond c in
        let st : State = state_after s names (drop (at + 1) tokens) c Alone in
        joined [] (lists_at t1 b1 c) (lists_at t2 b2 c) (lists_at t3 b3 c) _ _ _ _ _ _ refl (added.first.lists c at0) (added.second.lists c at1) (added.third.lists c at2)
        (part_is _ _ _ _ (later_state t (passes IsClosed) c (Keeps-refl t) listed) refl)
        (part_is _ _ _ _ (later_state t1 (passes IsStill) c added.keeps1 listed) refl)
        (part_is _ _ _ _ (later_state t2 (passes IsNoCall) c two listed) refl)
        ∙ one_of_three h st (places_from t at conds c) (places_from t1 at conds c) (places_from t2 at conds c) (call_places s names tokens at c)
        (later_places t c (Keeps-refl t) listed) (later_places t1 c added.keeps1 listed) (later_places t2 c two listed)

    pub all_ends : (c : List ℕ) → IsConfig s.arities c → ends_at t3 b3 c ≡ (if s.has cond c then ends_of (call_end_at s names tokens at c) ∷ [] else [])
    all_ends c listed =
        let two = Keeps-trans added.keeps1 added.keeps2 in
        let at0 = IsConfig-Keeps read.keeps listed in
        let at1 = IsConfig-Keeps added.keeps1 at0 in
        let at2 = IsConfig-Keeps added.keeps2 at1 in
        let h : Bool = s.has cond c in
        let st : State = state_after s names (drop (at + 1) tokens) c Alone in
        joined [] (ends_at t1 b1 c) (ends_at t2 b2 c) (ends_at t3 b3 c) _ _ _ _ _ _ refl (added.first.ends c at0) (added.second.ends c at1) (added.third.ends c at2)
        (part_is _ _ _ _ (later_state t (passes IsClosed) c (Keeps-refl t) listed) refl)
        (part_is _ _ _ _ (later_state t1 (passes IsStill) c added.keeps1 listed) refl)
        (part_is _ _ _ _ (later_state t2 (passes IsNoCall) c two listed) refl)
        ∙ (one_end h st ∙ ap (λ (e : Ends). if h then e ∷ [] else []) (end_is s names tokens at c))

    all_agree : (h : Bool) (c d : List ℕ) → IsConfig s.arities c → IsConfig s.arities d → s.has cond c ≡ h → s.has cond d ≡ h → call_places s names tokens at c ≡ call_places s names tokens at d → Agree t3 b3 c d
    all_agree false c d c_listed d_listed no_c no_d same =
        Agree-none t3 b3 c d (all_lists c c_listed ∙ ap (λ (b : Bool). if b then call_places s names tokens at c ∷ [] else []) no_c) (all_lists d d_listed ∙ ap (λ (b : Bool). if b then call_places s names tokens at d ∷ [] else []) no_d)
    all_agree true c d c_listed d_listed had_c had_d same =
        let two = Keeps-trans added.keeps1 added.keeps2 in
        let c0 = IsConfig-Keeps read.keeps c_listed in
        let d0 = IsConfig-Keeps read.keeps d_listed in
        let c1 = IsConfig-Keeps added.keeps1 c0 in
        let d1 = IsConfig-Keeps added.keeps1 d0 in
        let tests = same_tests s names tokens at c d same in
        let both = had_c ∙ sym had_d in
        let state : (u : Sets) (test : State → Bool) → Keeps t u → test (state_after s names (drop (at + 1) tokens) c Alone) ≡ test (state_after s names (drop (at + 1) tokens) d Alone) → in_states u states test c ≡ in_states u states test d =
        λ u test keeps equal.
        later_state u test c keeps c_listed
        ∙ (ap (λ (b : Bool). b && test (state_after s names (drop (at + 1) tokens) c Alone)) both ∙ (ap (λ (b : Bool). s.has cond d && b) equal ∙ sym (later_state u test d keeps d_listed))) in
        let places : (u : Sets) → Keeps t u → places_from u at conds c ≡ places_from u at conds d =
        λ u keeps. later_places u c keeps c_listed had_c ∙ (same ∙ sym (later_places u d keeps d_listed had_d)) in
        added.third.agree c d (IsConfig-Keeps added.keeps2 c1) (IsConfig-Keeps added.keeps2 d1) (state t2 (passes IsNoCall) two tests.none) (places t2 two)
        (added.second.agree c d c1 d1 (state t1 (passes IsStill) added.keeps1 tests.still) (places t1 added.keeps1)
        (added.first.agree c d c0 d0 (state t (passes IsClosed) (Keeps-refl t) tests.closed) (places t (Keeps-refl t)) (Agree-nil t c d)))

    pub all_parts : ArePartsOf s t3 cond (λ c. call_places s names tokens at c) (λ c. call_places s names tokens at c) b3
    all_parts = record {
      met = added.third.met;
      lists = all_lists;
      agree = λ c d c_listed d_listed same equal. all_agree (s.has cond d) c d c_listed d_listed same refl equal;
    }
