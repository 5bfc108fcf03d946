-- A line that is read by halves.
use Rattle.std.proofs.Common.{◌≡◌, ℕ, ◌+◌, ◌<◌, ◌≤◌, ◌&&◌, Bool, true, false, List, [], ◌∷◌, ◌++◌, All, length, map, take, get_or, Option, Some, None, Result, Ok, Err, IfOk, IfErr, refl, sym, ap, subst, ◌∙◌, arith, option_map, append-nil, append_assoc, if◌then◌else◌}
use Rattle.std.proofs.lemmas.List.{length-append, map-append, take_more}
use Rattle.std.proofs.lemmas.List.Elements.{All-cons, All-head, All-map, All-nil, All-push, All-tail}
use Rattle.std.specs.Option.{option_and_then}
use Rattle.std.specs.Prelude.{IfSome}
use Rattle.c11_expressions.proofs.Reader.{State, read_token, run_tokens, wanting}
use Rattle.c11_expressions.specs.Evaluates.{Symbols}
use Rattle.c11_expressions.specs.Grammar as grammar
use Rattle.sc_base.specs.declared.id.Cond.{Cond}
use Rattle.sc_base.specs.declared.token.Token.{Token}
use Rattle.sc_guarded.proofs.ItemLemmas.{items_at-Keeps, items_at-append, items_at-take, map-one}
use Rattle.sc_guarded.specs.Items.{items_at}
use Rattle.sc_hoist.specs.Alike.{AreAlike, IsAlike}
use Rattle.sc_if.proofs.PutLemmas.{Entry, alike-Keeps, all-parts, none-both, own-Keeps, readings_at-Keeps, readings_at-cons}
use Rattle.sc_if.proofs.ReadingLemmas.{few-one, run-push}
use Rattle.sc_if.specs.declared.halves.Way.{Way}
use Rattle.sc_if.specs.declared.reading.Reading.{Reading}
use Rattle.sc_if.specs.declared.readings.Readings.{Readings}
use Rattle.sc_if.specs.declared.symbol.Symbol.{Symbol}
use Rattle.sc_if.specs.Halves.{AreFollowed, AreJoined, AreReadFrom, AreWays, line_of, read_on, seen_line}
use Rattle.sc_if.specs.Readings.{AreMoved, AreReadings, IsPut, all_of, moved, readings_at, seen_reading, state_in}
use Rattle.sc_if.specs.Symbols.{seen_symbol, symbol_at}
use Rattle.sc_model.proofs.SetLemmas.{IsConfig-Keeps, IsConfig-kept, Keeps-refl, Keeps-trans}
use Rattle.sc_model.specs.Sets.{Sets, IsCond, IsConfig, IsNever, Keeps}
use Rattle.sc_model.specs.declared.standard.Standard.{Standard}

-- an element of a line, and what it is in an expression
abbrev pub Element : Type 0
Element = Cond × Option Symbol

-- ---- readings of which a configuration has at most one

no-more : (xs : List (Option State)) (x : Option State) → length (xs ++ x ∷ []) ≤ 1 → xs ≡ []
no-more [] x few = refl
no-more (y ∷ ys) x few = absurd (omega (arith, few, length-append (y ∷ ys) (x ∷ [])))

module _ (s : Sets) (c : List ℕ) (xs : List Entry) (i : ℕ) (x : Entry) (within : i < length xs) (is : x ≡ get_or xs i x) where
  pub readings_at-take : readings_at s (take (i + 1) xs) c ≡ readings_at s (take i xs) c ++ (if s.has x.0.0 c then seen_reading x.1 ∷ [] else [])
  readings_at-take =
      ap (map seen_reading) (items_at-take s xs i x c within is)
      ∙ (map-append seen_reading (items_at s (take i xs) c) (if s.has x.0.0 c then x.1 ∷ [] else []) ∙ ap (λ l. readings_at s (take i xs) c ++ l) (map-one seen_reading (s.has x.0.0 c) x.1))

  take-parts : (P : Cond → Type 0) → All (λ (y : Entry). P y.0) (take (i + 1) xs) → All (λ (y : Entry). P y.0) (take i xs) × P x.0
  take-parts P all =
      let Q : Entry → Type 0 = λ y. P y.0 in
      let both = all-parts Q (take i xs) (x ∷ []) (subst (All Q) (take_more xs i x within ∙ ap (λ y. take i xs ++ y ∷ []) (sym is)) all) in
      (both.0, All-head Q x [] both.1)

-- ---- what stays as the store grows

module _ {old mid new : Sets} {line : List Element} {live : ℕ} {start : State} {ends : List Entry} where
  pub read-Keeps : Keeps old mid → Keeps mid new → AreReadFrom old mid line live start ends → AreReadFrom old new line live start ends
  read-Keeps keeps later was = record {
    own = own-Keeps later ends was.own;
    at = λ c listed. readings_at-Keeps later ends c was.own (IsConfig-Keeps keeps listed) ∙ was.at c listed;
    alike = λ a b la lb same all. alike-Keeps later ends a b was.own (IsConfig-Keeps keeps la) (IsConfig-Keeps keeps lb) (was.alike a b la lb same all);
  }

  pub read-before : Keeps old mid → All (λ (x : Element). IsCond old x.0.0) line → IsCond old live → AreReadFrom mid new line live start ends → AreReadFrom old new line live start ends
  read-before keeps own live_own was = record {
    own = was.own;
    at = λ c listed.
        let live_same = keeps.at live c live_own listed in
        let line_same = items_at-Keeps line c keeps own listed in
        was.at c (IsConfig-Keeps keeps listed) ∙ (λ j. let l : List (Option State) = if live_same j then run_tokens start (map (option_map seen_symbol) (line_same j)) ∷ [] else [] in l);
    alike = λ a b la lb same all.
        was.alike a b (IsConfig-Keeps keeps la) (IsConfig-Keeps keeps lb) (keeps.at live a live_own la ∙ (same ∙ sym (keeps.at live b live_own lb))) (alike-Keeps keeps line a b own la lb all);
  }

  pub read-later : Keeps old mid → Keeps mid new → All (λ (x : Element). IsCond old x.0.0) line → IsCond old live → AreReadFrom old mid line live start ends → AreReadFrom new new line live start ends
  read-later first later own live_own was =
      let keeps : Keeps old new = Keeps-trans first later in
      let now = read-Keeps first later was in
      record {
        own = now.own;
        at = λ c listed.
            let before = IsConfig-kept keeps listed in
            let live_same = keeps.at live c live_own before in
            let line_same = items_at-Keeps line c keeps own before in
            now.at c before ∙ sym (λ j. let l : List (Option State) = if live_same j then run_tokens start (map (option_map seen_symbol) (line_same j)) ∷ [] else [] in l);
        alike = λ a b la lb same all.
            let ha = IsConfig-kept keeps la in
            let hb = IsConfig-kept keeps lb in
            now.alike a b ha hb (sym (keeps.at live a live_own ha) ∙ (same ∙ keeps.at live b live_own hb))
            (λ k d h. sym (keeps.at _ a (own k d h) ha) ∙ (all k d h ∙ keeps.at _ b (own k d h) hb));
      }

-- ---- readings that are added under two conditions

pub put-never : (s : Sets) (xs : List Entry) (cond : ℕ) (r : Option State) → All (λ (x : Entry). IsCond s x.0.0) xs → IsNever s cond → IsPut s s cond r xs xs
put-never s xs cond r own never = record {
  own = own;
  at = λ c listed none. ap (λ b. if b then r ∷ [] else readings_at s xs c) (sym (never.none c listed));
  alike = λ a b la lb same were. were;
}

pub followed-put : {old mid new : Sets} {both : ℕ} {before after : List Entry} (cond other : Cond) (r : Option Reading) → Keeps old mid → All (λ (x : Entry). IsCond old x.0.0) before
    → ((c : List ℕ) → IsConfig old.arities c → mid.has both c ≡ (old.has cond.0 c && old.has other.0 c)) → IsPut mid new both (seen_reading r) before after → AreFollowed old new cond.0 ((other, r) ∷ []) before after
followed-put {old} {mid} {new} {both} {before} {after} cond other r keeps own is_both put = record {
  own = put.own;
  at = λ c listed few.
      let B = readings_at old before c in
      let same = readings_at-Keeps keeps before c own listed in
      let more = readings_at-cons old c (other, r) [] in
      let few_one = λ (t : old.has cond.0 c ≡ true). subst (λ l. length (B ++ l) ≤ 1) more (few t) in
      put.at c (IsConfig-Keeps keeps listed) (λ t. same ∙ empty (old.has cond.0 c) (old.has other.0 c) B few_one (sym (is_both c listed) ∙ t))
      ∙ ((λ j. if is_both c listed j then seen_reading r ∷ [] else same j)
      ∙ (by (old.has cond.0 c) (old.has other.0 c) B few_one ∙ ap (λ l. if old.has cond.0 c then B ++ l else B) (sym more)));
  alike = λ a b la lb same more were.
      let also : IsAlike old a b other = All-head (λ (x : Entry). IsAlike old a b x.0) (other, r) [] more in
      put.alike a b (IsConfig-Keeps keeps la) (IsConfig-Keeps keeps lb) (is_both a la ∙ ((λ j. same j && also j) ∙ sym (is_both b lb))) (alike-Keeps keeps before a b own la lb were);
}
  where
    empty : (t o : Bool) (B : List (Option State)) → (t ≡ true → length (B ++ (if o then seen_reading r ∷ [] else [])) ≤ 1) → (t && o) ≡ true → B ≡ []
    empty true true B few e = no-more B (seen_reading r) (few refl)
    empty true false B few e = absurd (cc)
    empty false o B few e = absurd (cc)

    by : (t o : Bool) (B : List (Option State)) → (t ≡ true → length (B ++ (if o then seen_reading r ∷ [] else [])) ≤ 1)
        → (if t && o then seen_reading r ∷ [] else B) ≡ (if t then B ++ (if o then seen_reading r ∷ [] else []) else B)
    by true true B few = ap (λ l. l ++ seen_reading r ∷ []) (sym (no-more B (seen_reading r) (few refl)))
    by true false B few = sym (append-nil B)
    by false o B few = refl

pub followed-none : (s : Sets) (cond : ℕ) (before : List Entry) → All (λ (x : Entry). IsCond s x.0.0) before → AreFollowed s s cond [] before before
followed-none s cond before own = record {
  own = own;
  at = λ c listed few. by (s.has cond c) (readings_at s before c);
  alike = λ a b la lb same more were. were;
}
  where
    by : (t : Bool) (B : List (Option State)) → B ≡ (if t then B ++ [] else B)
    by true B = sym (append-nil B)
    by false B = refl

module _ {old mid new : Sets} {cond : ℕ} {before now after : List Entry} (more : List Entry) (i : ℕ) (x : Entry) (within : i < length more) (is : x ≡ get_or more i x) where
  pub followed-more : Keeps old mid → IsCond old cond → All (λ (y : Entry). IsCond old y.0.0) more → AreFollowed old mid cond (take i more) before now → AreFollowed mid new cond (x ∷ []) now after
      → AreFollowed old new cond (take (i + 1) more) before after
  followed-more keeps cond_own own was step =
      let x_own : IsCond old x.0.0 = subst (λ (y : Entry). IsCond old y.0.0) (sym is) (own i x within) in
      record {
        own = step.own;
        at = λ c listed few.
            let B = readings_at old before c in
            let M = readings_at old (take i more) c in
            let X : List (Option State) = if old.has x.0.0 c then seen_reading x.1 ∷ [] else [] in
            let one = readings_at-take old c more i x within is in
            let same = keeps.at cond c cond_own listed in
            let here = readings_at-cons mid c x [] ∙ ap (λ b. if b then seen_reading x.1 ∷ [] else []) (keeps.at _ c x_own listed) in
            let all = λ (t : old.has cond c ≡ true). subst (λ l. length (B ++ l) ≤ 1) one (few t) in
            let met = was.at c listed (λ t. omega (arith, all t, length-append B (M ++ X), length-append M X, length-append B M)) in
            step.at c (IsConfig-Keeps keeps listed) (λ t.
            let yes = sym same ∙ t in
            subst (λ l. length l ≤ 1) (sym (λ j. (met ∙ ap (λ b. if b then B ++ M else B) yes) j ++ here j)) (omega (arith, all yes, length-append (B ++ M) X, length-append B M, length-append B (M ++ X), length-append M X)))
            ∙ ((λ j. if same j then met j ++ here j else met j) ∙ by (old.has cond c) B M X (readings_at old (take (i + 1) more) c) one);
        alike = λ a b la lb equal all were.
            let parts = take-parts old a more i x within is (λ y. IsAlike old a b y) all in
            step.alike a b (IsConfig-Keeps keeps la) (IsConfig-Keeps keeps lb) (keeps.at cond a cond_own la ∙ (equal ∙ sym (keeps.at cond b cond_own lb)))
            (All-push (λ (y : Entry). IsAlike mid a b y.0) [] x (All-nil (λ (y : Entry). IsAlike mid a b y.0)) (keeps.at _ a x_own la ∙ (parts.1 ∙ sym (keeps.at _ b x_own lb)))) (was.alike a b la lb equal parts.0 were);
      }
    where
      by : (t : Bool) (B M X N : List (Option State)) → N ≡ M ++ X → (if t then (if t then B ++ M else B) ++ X else (if t then B ++ M else B)) ≡ (if t then B ++ N else B)
      by true B M X N one = append_assoc B M X ∙ ap (λ l. B ++ l) (sym one)
      by false B M X N one = refl

-- ---- one more of those that came so far

-- it has read the part too
pub record IsAdded (old mid new : Sets) (back : List Element) (live : ℕ) (x : Entry) (ends after : List Entry) : Type 0 where
  pub own : All (λ (y : Entry). IsCond new y.0.0) after
  pub at : (c : List ℕ) → IsConfig old.arities c → (old.has x.0.0 c ≡ true → readings_at mid ends c ≡ []) → (old.has x.0.0 c ≡ true → old.has live c ≡ true)
      → readings_at new after c ≡ (if old.has x.0.0 c then option_and_then (read_on old back c) (seen_reading x.1) ∷ [] else readings_at mid ends c)
  pub alike : (a b : List ℕ) → IsConfig old.arities a → IsConfig old.arities b → old.has live a ≡ old.has live b → IsAlike old a b x.0 → AreAlike old a b back → AreAlike mid a b ends → AreAlike new a b after

module _ {old mid new : Sets} {back : List Element} {live : ℕ} {ends after : List Entry} (x : Entry) (keeps : Keeps old mid) (x_own : IsCond old x.0.0) where
  pub added-none : seen_reading x.1 ≡ None → IsPut mid new x.0.0 None ends after → IsAdded old mid new back live x ends after
  added-none none put = record {
    own = put.own;
    at = λ c listed empty alive.
        let same = keeps.at _ c x_own listed in
        put.at c (IsConfig-Keeps keeps listed) (λ t. empty (sym same ∙ t)) ∙ (λ j. if same j then option_and_then (read_on old back c) (sym none j) ∷ [] else readings_at mid ends c);
    alike = λ a b la lb same here all were. put.alike a b (IsConfig-Keeps keeps la) (IsConfig-Keeps keeps lb) (keeps.at _ a x_own la ∙ (here ∙ sym (keeps.at _ b x_own lb))) were;
  }

  pub added-some : (way : Way) → seen_reading x.1 ≡ Some (state_in way.start) → AreReadFrom old old back live (state_in way.start) way.ends.items → AreFollowed mid new x.0.0 way.ends.items ends after
      → IsAdded old mid new back live x ends after
  added-some way begins read followed = record {
    own = followed.own;
    at = λ c listed empty alive.
        let same = keeps.at _ c x_own listed in
        let W = readings_at mid ends c in
        let o = read_on old back c (state_in way.start) in
        let told = readings_at-Keeps keeps way.ends.items c read.own listed ∙ read.at c listed in
        let one = λ (t : old.has x.0.0 c ≡ true). told ∙ ap (λ b. let l : List (Option State) = if b then o ∷ [] else [] in l) (alive t) in
        let whole : (t : old.has x.0.0 c ≡ true) → W ++ readings_at mid way.ends.items c ≡ o ∷ [] = λ t. (λ j. empty t j ++ one t j) in
        followed.at c (IsConfig-Keeps keeps listed) (λ t. subst (λ l. length l ≤ 1) (sym (whole (sym same ∙ t))) (omega arith))
        ∙ (ap (λ b. if b then W ++ readings_at mid way.ends.items c else W) same
        ∙ (by (old.has x.0.0 c) W (W ++ readings_at mid way.ends.items c) o whole ∙ ap (λ r. if old.has x.0.0 c then option_and_then (read_on old back c) r ∷ [] else W) (sym begins)));
    alike = λ a b la lb same here all were.
        followed.alike a b (IsConfig-Keeps keeps la) (IsConfig-Keeps keeps lb) (keeps.at _ a x_own la ∙ (here ∙ sym (keeps.at _ b x_own lb)))
        (alike-Keeps keeps way.ends.items a b read.own la lb (read.alike a b la lb same all)) were;
  }
    where
      by : (h : Bool) (W N : List (Option State)) (o : Option State) → (h ≡ true → N ≡ o ∷ []) → (if h then N else W) ≡ (if h then o ∷ [] else W)
      by true W N o is = is refl
      by false W N o is = refl

pub joined-none : (s : Sets) (back : List Element) (live : ℕ) → AreJoined s s back live [] []
joined-none s back live = record {
  own = All-nil (λ (x : Entry). IsCond s x.0.0);
  at = λ c listed few within. refl;
  alike = λ a b la lb same all were. All-nil (λ (x : Entry). IsAlike s a b x.0);
}

module _ {old mid new : Sets} {back : List Element} {live : ℕ} {ends after : List Entry} (middle : List Entry) (i : ℕ) (x : Entry) (within : i < length middle) (is : x ≡ get_or middle i x) where
  pub joined-more : AreJoined old mid back live (take i middle) ends → IsAdded old mid new back live x ends after → AreJoined old new back live (take (i + 1) middle) after
  joined-more was added = record {
    own = added.own;
    at = λ c listed few none.
        let f : Option State → Option State = option_and_then (read_on old back c) in
        let M = readings_at old (take i middle) c in
        let h = old.has x.0.0 c in
        let one = readings_at-take old c middle i x within is in
        let few_all = subst (λ l. length l ≤ 1) one few in
        let met = was.at c listed (less M h few_all) (λ dead. (none-both M (if h then seen_reading x.1 ∷ [] else []) (sym one ∙ none dead)).0) in
        added.at c listed (λ t. met ∙ ap (map f) (first M h few_all t)) (λ t. alive (old.has live c) M h t (λ dead. sym one ∙ none dead))
        ∙ (ap (λ l. if h then f (seen_reading x.1) ∷ [] else l) met ∙ (by f M h few_all ∙ ap (map f) (sym one)));
    alike = λ a b la lb same all were.
        let parts = take-parts old a middle i x within is (λ y. IsAlike old a b y) were in
        added.alike a b la lb same parts.1 all (was.alike a b la lb same all parts.0);
  }
    where
      less : (M : List (Option State)) (h : Bool) → length (M ++ (if h then seen_reading x.1 ∷ [] else [])) ≤ 1 → length M ≤ 1
      less M h few = omega (arith, few, length-append M (if h then seen_reading x.1 ∷ [] else []))

      first : (M : List (Option State)) (h : Bool) → length (M ++ (if h then seen_reading x.1 ∷ [] else [])) ≤ 1 → h ≡ true → M ≡ []
      first M true few e = no-more M (seen_reading x.1) few
      first M false few e = absurd (cc)

      alive : (l : Bool) (M : List (Option State)) (h : Bool) → h ≡ true → (l ≡ false → M ++ (if h then seen_reading x.1 ∷ [] else []) ≡ []) → l ≡ true
      alive true M h e none = refl
      alive false M true e none = let both = none-both M (seen_reading x.1 ∷ []) (none refl) in let last = both.1 in absurd (cc)
      alive false M false e none = absurd (cc)

      by : (f : Option State → Option State) (M : List (Option State)) (h : Bool) → length (M ++ (if h then seen_reading x.1 ∷ [] else [])) ≤ 1
          → (if h then f (seen_reading x.1) ∷ [] else map f M) ≡ map f (M ++ (if h then seen_reading x.1 ∷ [] else []))
      by f M true few = ap (λ l. map f (l ++ seen_reading x.1 ∷ [])) (sym (no-more M (seen_reading x.1) few))
      by f M false few = ap (map f) (sym (append-nil M))

-- ---- both halves

run-both : (state : State) (ts us : Symbols) → run_tokens state (ts ++ us) ≡ option_and_then (λ n. run_tokens n us) (run_tokens state ts)
run-both state [] us = refl
run-both state (t ∷ ts) us = by (read_token state t) (λ n. run-both n ts us)
  where
    by : (o : Option State) → ((n : State) → run_tokens n (ts ++ us) ≡ option_and_then (λ m. run_tokens m us) (run_tokens n ts))
        → option_and_then (λ n. run_tokens n (ts ++ us)) o ≡ option_and_then (λ m. run_tokens m us) (option_and_then (λ n. run_tokens n ts) o)
    by None more = refl
    by (Some n) more = more n

pub read-joined : {old new : Sets} {front back : List Element} {live : ℕ} {start : State} {middle ends : List Entry} → AreReadFrom old old front live start middle → AreJoined old new back live middle ends → AreReadFrom old new (front ++ back) live start ends
read-joined {old} {new} {front} {back} {live} {start} {middle} {ends} first joined = record {
  own = joined.own;
  at = λ c listed.
      let l = old.has live c in
      let q = read_on old front c start in
      let f : Option State → Option State = option_and_then (read_on old back c) in
      let g = option_map seen_symbol in
      let before = first.at c listed in
      let none = λ (dead : l ≡ false). before ∙ ap (λ b. let m : List (Option State) = if b then q ∷ [] else [] in m) dead in
      let whole : read_on old (front ++ back) c start ≡ f q =
      ap (λ ts. run_tokens start (map g ts)) (items_at-append old front back c) ∙ (ap (run_tokens start) (map-append g (items_at old front c) (items_at old back c)) ∙ run-both start (map g (items_at old front c)) (map g (items_at old back c))) in
      joined.at c listed (subst (λ m. length m ≤ 1) (sym before) (few-one l q)) none ∙ (ap (map f) before ∙ (map-one f l q ∙ ap (λ o. let m : List (Option State) = if l then o ∷ [] else [] in m) (sym whole)));
  alike = λ a b la lb same all.
      let parts = all-parts (λ (x : Element). IsAlike old a b x.0) front back all in
      joined.alike a b la lb same parts.1 (first.alike a b la lb same parts.0);
}

-- the ways through both halves of a line
pub ways-joined : {start mid last new : Sets} {line front back : List Element} {live : ℕ} (firsts seconds ways : List Way) → front ++ back ≡ line → Keeps start mid → Keeps mid last
    → All (λ (x : Element). IsCond start x.0.0) line → IsCond start live → AreWays start mid front live firsts → AreWays mid last back live seconds
    → (All (λ (x : Element). IsCond last x.0.0) (front ++ back) → IsCond last live → AreWays last last front live firsts → AreWays last last back live seconds → AreWays last new (front ++ back) live ways)
    → AreWays start new line live ways
ways-joined {start} {mid} {last} {new} {line} {front} {back} {live} firsts seconds ways whole first later own live_own fronts backs joined =
    let keeps : Keeps start last = Keeps-trans first later in
    let Own : Element → Type 0 = λ x. IsCond start x.0.0 in
    let both = subst (All Own) (sym whole) own in
    let parts = all-parts Own front back both in
    let made = joined (own-Keeps keeps (front ++ back) both) (keeps.own _ live_own) (λ k d below. read-later first later parts.0 live_own (fronts k d below))
    (λ k d below. read-later later (Keeps-refl last) (own-Keeps first back parts.1) (first.own _ live_own) (backs k d below)) in
    subst (λ l. AreWays start new l live ways) whole (λ k d below. read-before keeps both live_own (made k d below))

-- those that begin where nothing was read
pub halves-read : {old mid new : Sets} {line : List Element} {live : ℕ} {middle ends : List Entry} (ways : List Way) → Keeps old mid → All (λ (x : Element). IsCond old x.0.0) line → IsCond old live → AreWays old mid line live ways
    → AreReadFrom mid mid [] live (wanting []) middle → (AreWays mid mid line live ways → AreJoined mid new line live middle ends) → AreReadFrom old new line live (wanting []) ends
halves-read {mid = mid} ways keeps own live_own were unread joined =
    read-before keeps own live_own (read-joined unread (joined (λ k d below. read-later keeps (Keeps-refl mid) own live_own (were k d below))))

pub found-weaker : {A E : Type 0} {P Q : A → Type 0} (r : Result (Option A) E) → ((a : A) → P a → Q a) → IfOk r (λ o. IfSome o P) → IfOk r (λ o. IfSome o Q)
found-weaker (Ok (Some a)) f p = f a p
found-weaker (Ok None) f p = p
found-weaker (Err e) f p = p

pub ok-weaker : {A E : Type 0} {P Q : A → Type 0} (r : Result A E) → ((a : A) → P a → Q a) → IfOk r P → IfOk r Q
ok-weaker (Ok a) f p = f a p
ok-weaker (Err e) f p = p

pub err-weaker : {A E : Type 0} {P Q : E → Type 0} (r : Result A E) → ((e : E) → P e → Q e) → IfErr r P → IfErr r Q
err-weaker (Ok a) f p = p
err-weaker (Err e) f p = f e p

-- ---- one element

pub one-element : (line : List Element) (d : Element) → 1 ≤ length line → length line < 2 → get_or line 0 d ∷ [] ≡ line
one-element [] d least below = absurd (omega (arith, least))
one-element (x ∷ []) d least below = refl
one-element (x ∷ y ∷ more) d least below = absurd (omega (arith, below))

pub read-one : {old new : Sets} {next : Readings} (element : Element) (live : Cond) (start : State) (r : Option Reading) → seen_reading r ≡ Some start
    → AreMoved old new element.0.0 (option_map seen_symbol element.1) ((live, r) ∷ []) next → AreReadFrom old new (element ∷ []) live.0 start (all_of next)
read-one {old} {new} {next} element live start r is step = record {
  own = step.own;
  at = λ c listed.
      let l = old.has live.0 c in
      let h = old.has element.0.0 c in
      let t = option_map seen_symbol element.1 in
      let before = readings_at-cons old c (live, r) [] ∙ ap (λ o. let m : List (Option State) = if l then o ∷ [] else [] in m) is in
      step.at c listed (subst (λ m. length m ≤ 1) (sym before) (few-one l (Some start)))
      ∙ (ap (map (moved h t)) before ∙ (map-one (moved h t) l (Some start) ∙ ap (λ o. let m : List (Option State) = if l then o ∷ [] else [] in m) (by h)));
  alike = λ a b la lb same all.
      step.alike a b la lb (All-head (λ (x : Element). IsAlike old a b x.0) element [] all) (All-push (λ (x : Entry). IsAlike old a b x.0) [] (live, r) (All-nil (λ (x : Entry). IsAlike old a b x.0)) same);
}
  where
    by : (h : Bool) → moved h (option_map seen_symbol element.1) (Some start) ≡ run_tokens start (map (option_map seen_symbol) (if h then element.1 ∷ [] else []))
    by true = sym (run-push start [] (option_map seen_symbol element.1))
    by false = refl

-- ---- a whole line

items-seen : {T U : Type 0} (h : T → U) (s : Sets) (xs : List (Cond × T)) (c : List ℕ) → items_at s (map (λ (x : Cond × T). (x.0, h x.1)) xs) c ≡ map h (items_at s xs c)
items-seen h s [] c = refl
items-seen {T} {U} h s (x ∷ xs) c = by (s.has x.0.0 c) (items-seen h s xs c)
  where
    by : (b : Bool) → items_at s (map (λ (y : Cond × T). (y.0, h y.1)) xs) c ≡ map h (items_at s xs c)
        → (if b then h x.1 ∷ items_at s (map (λ (y : Cond × T). (y.0, h y.1)) xs) c else items_at s (map (λ (y : Cond × T). (y.0, h y.1)) xs) c) ≡ map h (if b then x.1 ∷ items_at s xs c else items_at s xs c)
    by true e = ap (λ l. h x.1 ∷ l) e
    by false e = e

all-unmapped : {X Y : Type 0} (P : Y → Type 0) (f : X → Y) (xs : List X) → All P (map f xs) → All (λ x. P (f x)) xs
all-unmapped P f [] all = All-nil (λ x. P (f x))
all-unmapped P f (x ∷ xs) all = All-cons (λ y. P (f y)) x xs (All-head P (f x) (map f xs) all) (all-unmapped P f xs (All-tail P (f x) (map f xs) all))

module _ (standard : Standard) (names : List (List ℕ)) (list : List (Cond × Token)) (line : List Element) (is : seen_line line ≡ line_of standard names list) where
  pub line-conditions : (P : Cond → Type 0) → All (λ (x : Cond × Token). P x.0) list → All (λ (x : Element). P x.0) line
  line-conditions P all =
      let Q : Cond × Option grammar.Symbol → Type 0 = λ y. P y.0 in
      all-unmapped Q (λ (x : Element). (x.0, option_map seen_symbol x.1)) line (subst (All Q) (sym is) (All-map Q (λ (x : Cond × Token). (x.0, symbol_at standard names x.1)) list all))

  pub line-read : {old new : Sets} {live : ℕ} {ends : List Entry} → AreReadFrom old new line live (wanting []) ends → AreReadings standard old new names list live ends
  line-read {old} {new} {live} {ends} read = record {
    own = read.own;
    at = λ c listed.
        let same = sym (items-seen (option_map seen_symbol) old line c) ∙ (ap (λ l. items_at old l c) is ∙ items-seen (symbol_at standard names) old list c) in
        read.at c listed ∙ ap (λ ts. let l : List (Option State) = if old.has live c then run_tokens (wanting []) ts ∷ [] else [] in l) same;
    alike = λ a b la lb same all. read.alike a b la lb same (line-conditions (λ x. IsAlike old a b x) all);
  }

pub symbols-more : (standard : Standard) (names : List (List ℕ)) (line : List Element) (list : List (Cond × Token)) (i : ℕ) (x : Cond × Token) (e : Option Symbol) → i < length list → x ≡ get_or list i x
    → option_map seen_symbol e ≡ symbol_at standard names x.1 → seen_line line ≡ line_of standard names (take i list) → seen_line (line ++ (x.0, e) ∷ []) ≡ line_of standard names (take (i + 1) list)
symbols-more standard names line list i x e within is symbol was =
    map-append (λ (y : Element). (y.0, option_map seen_symbol y.1)) line ((x.0, e) ∷ [])
    ∙ ((λ j. was j ++ (x.0, symbol j) ∷ [])
    ∙ sym (ap (line_of standard names) (take_more list i x within ∙ ap (λ y. take i list ++ y ∷ []) (sym is)) ∙ map-append (λ (y : Cond × Token). (y.0, symbol_at standard names y.1)) (take i list) (x ∷ [])))

pub unread-from : {standard : Standard} {s : Sets} {names : List (List ℕ)} {live : ℕ} {readings : List Entry} → AreReadings standard s s names [] live readings → AreReadFrom s s [] live (wanting []) readings
unread-from {standard} {s} {names} {live} {readings} read = record {
  own = read.own;
  at = λ c listed. read.at c listed;
  alike = λ a b la lb same all. read.alike a b la lb same (All-nil (λ (x : Cond × Token). IsAlike s a b x.0));
}

-- the same, from an earlier state of the store
pub readings-before : {standard : Standard} {old mid new : Sets} {names : List (List ℕ)} {live : ℕ} {list : List (Cond × Token)} {readings : List Entry} → Keeps old mid → All (λ (x : Cond × Token). IsCond old x.0.0) list → IsCond old live
    → AreReadings standard mid new names list live readings → AreReadings standard old new names list live readings
readings-before {standard} {old} {mid} {new} {names} {live} {list} {readings} keeps own live_own was = record {
  own = was.own;
  at = λ c listed.
      let live_same = keeps.at live c live_own listed in
      let list_same = items_at-Keeps list c keeps own listed in
      was.at c (IsConfig-Keeps keeps listed) ∙ (λ j. let l : List (Option State) = if live_same j then run_tokens (wanting []) (map (symbol_at standard names) (list_same j)) ∷ [] else [] in l);
  alike = λ a b la lb same all.
      was.alike a b (IsConfig-Keeps keeps la) (IsConfig-Keeps keeps lb) (keeps.at live a live_own la ∙ (same ∙ sym (keeps.at live b live_own lb))) (alike-Keeps keeps list a b own la lb all);
}
