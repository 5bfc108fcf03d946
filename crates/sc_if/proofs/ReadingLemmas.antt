-- A line that is read element by element.
use Rattle.std.proofs.Common.{◌≡◌, ℕ, zero, suc, ◌+◌, ◌<◌, ◌≤◌, Bool, true, false, List, [], ◌∷◌, ◌++◌, All, length, map, take, get_or, Option, Some, None, refl, sym, ap, subst, ◌∙◌, arith, append-nil, if◌then◌else◌}
use Rattle.std.proofs.lemmas.Bool.{true≢false}
use Rattle.std.proofs.lemmas.List.{length-append, length-map, map-append, take_all, take_more}
use Rattle.std.proofs.lemmas.List.Elements.{All-cons, All-head, All-nil, All-push, All-tail}
use Rattle.std.specs.Prelude.{slice_get}
use Rattle.std.specs.Option.{option_and_then}
use Rattle.c11_expressions.proofs.PartLemmas.{part-there, read_behind as read_behind_tokens, same-part}
use Rattle.c11_expressions.proofs.Reader.{State, read_token, run_tokens, wanting}
use Rattle.c11_expressions.specs.Evaluates.{Symbols}
use Rattle.c11_expressions.specs.Grammar as grammar
use Rattle.c11_expressions.specs.Parts.{IsPart, Part}
use Rattle.sc_base.specs.declared.id.Cond.{Cond}
use Rattle.sc_base.specs.declared.token.Token.{Token}
use Rattle.sc_guarded.proofs.ItemLemmas.{items_at-take, map-one}
use Rattle.sc_guarded.specs.Items.{items_at}
use Rattle.sc_hoist.proofs.PartLemmas.{met}
use Rattle.sc_hoist.specs.Alike.{AreAlike, IsAlike}
use Rattle.sc_if.proofs.PutLemmas.{Entry, all-parts, readings_at-append, readings_at-cons}
use Rattle.sc_if.specs.declared.reading.Reading.{Reading}
use Rattle.sc_if.specs.declared.readings.Readings.{Readings}
use Rattle.sc_if.specs.Parts.{HasPart, HasParts}
use Rattle.sc_if.specs.Readings.{AreMoved, AreReadings, all_of, moved, read_at, read_behind, readings_at, seen_reading}
use Rattle.sc_if.specs.Symbols.{symbol_at}
use Rattle.sc_model.proofs.SetLemmas.{IsConfig-Keeps, IsConfig-kept, Keeps-trans}
use Rattle.sc_model.specs.Sets.{Sets, HasOptions, IsCond, IsConfig, IsNever, Keeps}
use Rattle.sc_model.specs.declared.standard.Standard.{Standard}

-- ---- one that is moved more

pub moved-more : (f : Option State → Option State) (s : Sets) (left rest : List Entry) (x : Entry) (found next answer : List (Option State)) (c : List ℕ) → left ≡ x ∷ rest → length answer ≤ 1
    → found ++ map f (readings_at s left c) ≡ answer → ((s.has x.0.0 c ≡ true → found ≡ []) → next ≡ (if s.has x.0.0 c then f (seen_reading x.1) ∷ [] else found))
    → next ++ map f (readings_at s rest c) ≡ answer
moved-more f s left rest x found next answer c is few was made =
    by (s.has x.0.0 c) (ap (λ l. found ++ map f l) (sym (ap (λ l. readings_at s l c) is ∙ readings_at-cons s c x rest)) ∙ was) made
  where
    R : List (Option State)
    R = readings_at s rest c

    nothing : (fs : List (Option State)) → fs ++ (f (seen_reading x.1) ∷ map f R) ≡ answer → fs ≡ []
    nothing [] e = refl
    nothing (y ∷ ys) e = let long = ap length e in absurd (omega (arith, long, few, length-append (y ∷ ys) (f (seen_reading x.1) ∷ map f R)))

    by : (b : Bool) → found ++ map f (if b then seen_reading x.1 ∷ R else R) ≡ answer → ((b ≡ true → found ≡ []) → next ≡ (if b then f (seen_reading x.1) ∷ [] else found)) → next ++ map f R ≡ answer
    by true e made = ap (λ l. l ++ map f R) (made (λ t. nothing found e)) ∙ (ap (λ l. l ++ f (seen_reading x.1) ∷ map f R) (sym (nothing found e)) ∙ e)
    by false e made = ap (λ l. l ++ map f R) (made (λ t. absurd (cc))) ∙ e

pub few-moved : (f : Option State → Option State) (xs : List (Option State)) → length xs ≤ 1 → length (map f xs) ≤ 1
few-moved f xs few = omega (arith, few, length-map xs f)

-- ---- one token more

and-some : (o : Option State) → option_and_then (λ n. Some n) o ≡ o
and-some None = refl
and-some (Some n) = refl

pub run-push : (s : State) (ts : Symbols) (t : Option grammar.Symbol) → run_tokens s (ts ++ t ∷ []) ≡ read_behind t (run_tokens s ts)
run-push s [] t = and-some (read_token s t)
run-push s (u ∷ us) t = by (read_token s u) (λ n. run-push n us t)
  where
    by : (o : Option State) → ((n : State) → run_tokens n (us ++ t ∷ []) ≡ read_behind t (run_tokens n us))
        → option_and_then (λ n. run_tokens n (us ++ t ∷ [])) o ≡ read_behind t (option_and_then (λ n. run_tokens n us) o)
    by None more = refl
    by (Some n) more = more n

read_at-take : (standard : Standard) (s : Sets) (names : List (List ℕ)) (list : List (Cond × Token)) (i : ℕ) (x : Cond × Token) (c : List ℕ) → i < length list → x ≡ get_or list i x
    → read_at standard s names (take (i + 1) list) c ≡ moved (s.has x.0.0 c) (symbol_at standard names x.1) (read_at standard s names (take i list) c)
read_at-take standard s names list i x c within is = ap (λ ts. run_tokens (wanting []) (map (symbol_at standard names) ts)) (items_at-take s list i x c within is) ∙ by (s.has x.0.0 c) (items_at s (take i list) c)
  where
    by : (b : Bool) (ts : List Token) → run_tokens (wanting []) (map (symbol_at standard names) (ts ++ (if b then x.1 ∷ [] else [])))
        ≡ moved b (symbol_at standard names x.1) (run_tokens (wanting []) (map (symbol_at standard names) ts))
    by true ts = ap (run_tokens (wanting [])) (map-append (symbol_at standard names) ts (x.1 ∷ [])) ∙ run-push (wanting []) (map (symbol_at standard names) ts) (symbol_at standard names x.1)
    by false ts = ap (λ us. run_tokens (wanting []) (map (symbol_at standard names) us)) (append-nil ts)

pub few-one : (b : Bool) (x : Option State) → length (let l : List (Option State) = if b then x ∷ [] else [] in l) ≤ 1
few-one true x = omega arith
few-one false x = omega arith

-- all of them were read
pub read-all : {standard : Standard} {old new : Sets} {names : List (List ℕ)} {live : ℕ} {readings : List Entry} (list : List (Cond × Token)) (i : ℕ) → length list ≤ i → AreReadings standard old new names (take i list) live readings → AreReadings standard old new names list live readings
read-all {standard} {old} {new} {names} {live} {readings} list i past was = subst (λ l. AreReadings standard old new names l live readings) (take_all i list past) was

-- before any is read
pub unread-none : (standard : Standard) (s : Sets) (names : List (List ℕ)) (live : ℕ) → IsNever s live → AreReadings standard s s names [] live []
unread-none standard s names live never = record {
  own = All-nil (λ (x : Entry). IsCond s x.0.0);
  at = λ c listed. ap (λ b. let l : List (Option State) = if b then Some (wanting []) ∷ [] else [] in l) (sym (never.none c listed));
  alike = λ a b la lb same all. All-nil (λ (x : Entry). IsAlike s a b x.0);
}

pub unread-one : (standard : Standard) (s : Sets) (names : List (List ℕ)) (live : Cond) (r : Option Reading) → IsCond s live.0 → seen_reading r ≡ Some (wanting []) → AreReadings standard s s names [] live.0 ((live, r) ∷ [])
unread-one standard s names live r own start = record {
  own = All-push (λ (x : Entry). IsCond s x.0.0) [] (live, r) (All-nil (λ (x : Entry). IsCond s x.0.0)) own;
  at = λ c listed. readings_at-cons s c (live, r) [] ∙ ap (λ o. if s.has live.0 c then o ∷ [] else []) start;
  alike = λ a b la lb same all. All-push (λ (x : Entry). IsAlike s a b x.0) [] (live, r) (All-nil (λ (x : Entry). IsAlike s a b x.0)) same;
}

-- ---- configurations with the same items

pub items-alike : (s : Sets) (a b : List ℕ) (xs : List (Cond × Token)) → AreAlike s a b xs → items_at s xs a ≡ items_at s xs b
items-alike s a b [] same = refl
items-alike s a b (x ∷ xs) same =
    let Same : Cond × Token → Type 0 = λ y. IsAlike s a b y.0 in
    by _ _ _ _ (All-head Same x xs same) (items-alike s a b xs (All-tail Same x xs same))
  where
    by : (p q : Bool) (us vs : List Token) → p ≡ q → us ≡ vs → (if p then x.1 ∷ us else us) ≡ (if q then x.1 ∷ vs else vs)
    by true true us vs same more = ap (λ l. x.1 ∷ l) more
    by false false us vs same more = more
    by true false us vs same more = absurd (cc)
    by false true us vs same more = absurd (cc)

-- ---- why there are too many

-- something for each of a list
record Chosen {A B : Type 0} (Q : A → B → Type 0) (xs : List A) : Type 0 where
  all : List B
  long : length all ≡ length xs
  each : (k : ℕ) (x : A) (y : B) → k < length xs → Q (get_or xs k x) (get_or all k y)

chosen : {A B : Type 0} (Q : A → B → Type 0) (xs : List A) → ((k : ℕ) (x : A) → k < length xs → (y : B) × Q (get_or xs k x) y) → Chosen Q xs
chosen {A = A} {B = B} Q [] some = record { all = []; long = refl; each = λ k x y within. absurd (omega arith) }
chosen {A = A} {B = B} Q (a ∷ more) some =
    let first = some 0 a (omega arith) in
    let rest = chosen Q more (λ k x within. some (suc k) x (omega arith)) in
    record { all = first.0 ∷ rest.all; long = ap suc rest.long; each = λ k x y within. at first rest k x y within }
  where
    at : (first : (y : B) × Q a y) (rest : Chosen Q more) (k : ℕ) (x : A) (y : B) → k < length (a ∷ more) → Q (get_or (a ∷ more) k x) (get_or (first.0 ∷ rest.all) k y)
    at first rest zero x y within = first.1
    at first rest (suc k) x y within = rest.each k x y (omega arith)

-- what holds of all that is read at a configuration holds of each that has it
read-each : (s : Sets) (c : List ℕ) (P : Option State → Type 0) (xs : List Entry) → All P (readings_at s xs c) → All (λ x. s.has x.0.0 c ≡ true → P (seen_reading x.1)) xs
read-each s c P [] all = All-nil (λ x. s.has x.0.0 c ≡ true → P (seen_reading x.1))
read-each s c P (y ∷ ys) all = by (s.has y.0.0 c) refl (subst (All P) (readings_at-cons s c y ys) all) (read-each s c P ys)
  where
    Q : Entry → Type 0
    Q x = s.has x.0.0 c ≡ true → P (seen_reading x.1)

    by : (b : Bool) → s.has y.0.0 c ≡ b → All P (if b then seen_reading y.1 ∷ readings_at s ys c else readings_at s ys c) → (All P (readings_at s ys c) → All Q ys) → All Q (y ∷ ys)
    by true is all later = All-cons Q y ys (λ has. All-head P (seen_reading y.1) (readings_at s ys c) all) (later (All-tail P (seen_reading y.1) (readings_at s ys c) all))
    by false is all later = All-cons Q y ys (λ has. absurd (true≢false (sym has ∙ is))) (later all)

-- there is a reading, and it is this
abbrev Is : Bool → Option State → Option State → Type 0
Is there r o = (there ≡ true) × (o ≡ r)

all-is : (there : Bool) (r : Option State) → All (Is there r) (if there then r ∷ [] else [])
all-is true r = All-cons (Is true r) r [] (refl, refl) (All-nil (Is true r))
all-is false r = All-nil (Is false r)

-- ---- one element more

module _ {standard : Standard} {old mid new : Sets} {names : List (List ℕ)} {live : ℕ} {readings : List Entry} {next : Readings} {symbol : Option grammar.Symbol} (list : List (Cond × Token)) (i : ℕ) (x : Cond × Token) (within : i < length list) (is : x ≡ get_or list i x)
    (keeps : Keeps old mid) (own : IsCond old x.0.0) (is_symbol : symbol ≡ symbol_at standard names x.1) (was : AreReadings standard old mid names (take i list) live readings) (step : AreMoved mid new x.0.0 symbol readings next) where
  pub read-more : AreReadings standard old new names (take (i + 1) list) live (all_of next)
  read-more = record {
    own = step.own;
    at = λ c listed.
        let before = was.at c listed in
        let h = old.has live c in
        let r = read_at standard old names (take i list) c in
        let f : Bool → Option grammar.Symbol → Option State = λ b o. moved b o r in
        step.at c (IsConfig-Keeps keeps listed) (subst (λ l. length l ≤ 1) (sym before) (few-one h r))
        ∙ (ap (map (moved (mid.has x.0.0 c) symbol)) before
        ∙ (map-one (moved (mid.has x.0.0 c) symbol) h r
        ∙ ap (λ o. if h then o ∷ [] else []) (ap (λ b. f b symbol) (keeps.at _ c own listed) ∙ (ap (λ o. f (old.has x.0.0 c) o) is_symbol ∙ sym (read_at-take standard old names list i x c within is)))));
    alike = λ a b la lb same all.
        let both = all-parts (λ (y : Cond × Token). IsAlike old a b y.0) (take i list) (get_or list i x ∷ []) (subst (AreAlike old a b) (take_more list i x within) all) in
        let here : IsAlike old a b x.0 = subst (λ (y : Cond × Token). IsAlike old a b y.0) (sym is) (All-head (λ (y : Cond × Token). IsAlike old a b y.0) (get_or list i x) [] both.1) in
        step.alike a b (IsConfig-Keeps keeps la) (IsConfig-Keeps keeps lb) (keeps.at _ a own la ∙ (here ∙ sym (keeps.at _ b own lb))) (was.alike a b la lb same both.0);
  }

  -- what waits before the item, one for each that has read it
  module _ (grows : Keeps mid new) where
    abbrev whole : Keeps old new
    whole = Keeps-trans keeps grows

    abbrev front : List ℕ → Symbols
    front c = map (symbol_at standard names) (items_at old (take i list) c)

    -- a configuration that has the reading, and its part
    record IsOne (entry : Entry) (p : List ℕ × Part) : Type 0 where
      listed : IsConfig old.arities p.0
      among : old.has live p.0 ≡ true
      has : HasPart standard old names (take i list) x p
      read : seen_reading entry.1 ≡ read_behind_tokens (symbol_at standard names x.1) (front p.0)

    one : HasOptions old.arities → (k : ℕ) (d : Entry) → k < length next.moved.items → (p : List ℕ × Part) × IsOne (get_or next.moved.items k d) p
    one options k d below =
        let met_by = met new (get_or next.moved.items k d).0.0 (subst HasOptions (sym whole.arities) options) (step.read.some k d below) in
        let c = met_by.config in
        let listed = IsConfig-kept whole met_by.listed in
        let in_item = sym (whole.at _ c own listed) ∙ (step.read.within k d below).at c met_by.listed met_by.has in
        let P = Is (old.has live c) (read_at standard old names (take (i + 1) list) c) in
        let all = subst (All P) (sym (read-more.at c listed) ∙ readings_at-append new c next.left.items next.moved.items) (all-is (old.has live c) (read_at standard old names (take (i + 1) list) c)) in
        let found = read-each new c P next.moved.items (all-parts P (readings_at new next.left.items c) (readings_at new next.moved.items c) all).1 k d below met_by.has in
        let read = found.1 ∙ (read_at-take standard old names list i x c within is ∙ ap (λ b. moved b (symbol_at standard names x.1) (read_at standard old names (take i list) c)) in_item) in
        let part = part-there (symbol_at standard names x.1) (front c) (λ none. step.read.going k d below (read ∙ none)) in
        ((c, part.0), record { listed = listed; among = found.0; has = record { has = in_item; part = part.1 }; read = read })

    pub many-parts : HasOptions old.arities → slice_get list i ≡ Some x → (count : ℕ) → count ≤ length next.moved.items → HasParts standard old names list (old.has live) count
    many-parts options got count most =
        let xs = next.moved.items in
        let picked = chosen IsOne xs (one options) in
        let none : Entry = (x.0, None) in
        let at = λ (k : ℕ) (p : List ℕ × Part) (h : k < length picked.all). picked.each k none p (omega (arith, picked.long)) in
        record {
          index = i;
          item = x;
          is = got;
          parts = picked.all;
          many = omega (arith, picked.long, most);
          listed = λ k p h. (at k p h).listed;
          among = λ k p h. (at k p h).among;
          each = λ k p h. (at k p h).has;
          apart = λ j k p order h same.
              let a = at j p (omega (arith, order, h)) in
              let b = at k p h in
              let alike = same-part (symbol_at standard names x.1) (front (get_or picked.all j p).0) (front (get_or picked.all k p).0) (get_or picked.all j p).1 a.has.part
              (subst (IsPart (symbol_at standard names x.1) (front (get_or picked.all k p).0)) (sym same) b.has.part) in
              step.read.apart j k none order (omega (arith, picked.long, h)) (a.read ∙ (alike ∙ sym b.read));
        }
