-- The sets that rows make, and what the operations on rows do to them.
use Rattle.std.proofs.Common.{◌≡◌, ℕ, ◌<◌, ◌==◌, ◌&&◌, Bool, true, false, not, is_some, List, [], map, length, slice_get, ◌↔◌, Option, None, IfSome, IfNone, IsNone, Some, ◌⊎◌, inl, inr, refl, sym, ap, subst, ◌∙◌, arith}
use Rattle.std.specs.List.{zip, range_with_len}
use Rattle.std.specs.Prelude.{EachIndex, slice_index, slice_set}
use Rattle.std.proofs.lemmas.Bool.{false≢true, true≢false}
use Rattle.std.proofs.lemmas.Option.{slice_get_within, get_or_from_slice_get, slice_get-get_or}
use Rattle.std.proofs.lemmas.List.{length-map, get_or-map, ext_get_or, get_or-replicate}
use Rattle.std.proofs.lemmas.List.FromFn.{get_or-map-range_with_len}
use Rattle.std.proofs.lemmas.Slice.Zip.{length-zip, get_or-zip}
use Rattle.sc_diagram.specs.Simplified.{SaysWithin}
use Rattle.sc_model.specs.Growth.{Extends}
use Rattle.sc_model.specs.Sets.{Sets, IsConfig, IsCond, Denotes, Keeps, IsNever, IsAlways, IsSame, IsCanonical, IsTop, config_count}
use Rattle.sc_model.proofs.SetLemmas.{IsConfig-set, IsNever-DependsOn, IsAlways-DependsOn}
use Rattle.sc_presence.specs.Plain.{Plain, IsPlain, IsKept, Stores, row_of, sets_of}
use Rattle.sc_presence.specs.Rank.{strides_of, rank, digit, moved, config_at}
use Rattle.sc_presence.specs.Rows.{value_at, IsRowOf}
use Rattle.sc_presence.proofs.RankLemmas.{length-strides_of, rank-lt, digit-rank, moved-rank, rank-config_at-lt, IsConfig-config_at}

-- a row that stands at a place is the row of that place
row_of-stored : (p : Plain) (a : ℕ) (row : List Bool) → slice_get p.rows a ≡ Some row → row_of p a ≡ row
row_of-stored p a row stored = get_or_from_slice_get p.rows a row [] stored

-- rows that stay mean what they meant
pub Keeps-Extends : {p q : Plain} → q.arities ≡ p.arities → Extends p.rows q.rows → Keeps (sets_of p) (sets_of q)
Keeps-Extends {p} {q} same grows = record {
  arities = same;
  own = λ a own. record { made = omega (arith, own.made, grows.longer) };
  at = λ a c own listed.
      let there : slice_get q.rows a ≡ Some (row_of p a) = grows.kept a own.made ∙ slice_get-get_or p.rows a [] own.made in
      rw (same, row_of-stored q a _ there) refl;
}

module _ {p q : Plain} {r : ℕ} {row : List Bool} where
  pub IsCond-Stores : Stores p q r row → IsCond (sets_of q) r
  IsCond-Stores is = record { made = slice_get_within q.rows r row is.stored }

  -- a condition whose row passes the test at each configuration
  Denotes-Stores : (f : List ℕ → Bool) → Stores p q r row → ((c : List ℕ) → IsConfig p.arities c → value_at row (rank (strides_of p.arities) c) ≡ f c) → Denotes (sets_of q) r f
  Denotes-Stores f is told = record {
    own = IsCond-Stores is;
    at = λ c listed. rw (row_of-stored q r row is.stored, is.arities) (told c (subst (λ ns. IsConfig ns c) is.arities listed));
  }

  -- the same, for a row made from a test of the rank
  Denotes-tabulated : (test : ℕ → Bool) (n : ℕ) (f : List ℕ → Bool) → Stores p q r row → n ≡ config_count p.arities → row ≡ map test (range_with_len 0 n)
      → ((c : List ℕ) → IsConfig p.arities c → test (rank (strides_of p.arities) c) ≡ f c) → Denotes (sets_of q) r f
  Denotes-tabulated test n f is all made told = Denotes-Stores f is (λ c listed.
      let i = rank (strides_of p.arities) c in
      let low : i < n = omega (arith, rank-lt p.arities c listed) in
      ap (λ xs. value_at xs i) made ∙ get_or-map-range_with_len test 0 n i i false low (omega arith) ∙ told c listed)

  pub Denotes-choice : (v k n : ℕ) → Stores p q r row → v < length p.arities → n ≡ config_count p.arities
      → row ≡ map (λ i. digit (slice_index (strides_of p.arities) v) (slice_index p.arities v) i == k) (range_with_len 0 n)
      → Denotes (sets_of q) r (λ c. slice_index c v == k)
  Denotes-choice v k n is within all made = Denotes-tabulated _ n _ is all made (λ c listed. ap (λ x. x == k) (digit-rank p.arities c v listed within))

  pub Denotes-part : (a v k n : ℕ) → Stores p q r row → v < length p.arities → k < slice_index p.arities v → n ≡ config_count p.arities
      → row ≡ map (λ i. value_at (row_of p a) (moved (slice_index (strides_of p.arities) v) (slice_index p.arities v) k i)) (range_with_len 0 n)
      → (f : List ℕ → Bool) → Denotes (sets_of p) a f → Denotes (sets_of q) r (λ c. f (slice_set c v k))
  Denotes-part a v k n is within in_range all made f told = Denotes-tabulated _ n _ is all made (λ c listed.
      ap (value_at (row_of p a)) (moved-rank p.arities c v k listed within) ∙ told.at _ (IsConfig-set v k listed within in_range))

  pub Denotes-zip : (op : Bool → Bool → Bool) (a b : ℕ) → Stores p q r row → row ≡ map (λ x. op x.0 x.1) (zip (row_of p a) (row_of p b))
      → (f g : List ℕ → Bool) → Denotes (sets_of p) a f → Denotes (sets_of p) b g → Denotes (sets_of q) r (λ c. op (f c) (g c))
  Denotes-zip op a b is made f g told_a told_b = Denotes-Stores _ is (λ c listed.
      let i = rank (strides_of p.arities) c in
      let low = rank-lt p.arities c listed in
      let low_a : i < length (row_of p a) = omega (arith, is.plain.long a told_a.own.made) in
      let low_b : i < length (row_of p b) = omega (arith, is.plain.long b told_b.own.made) in
      let paired : i < length (zip (row_of p a) (row_of p b)) = omega (arith, length-zip (row_of p a) (row_of p b)) in
      ap (λ xs. value_at xs i) made
      ∙ get_or-map (λ (x : Bool × Bool). op x.0 x.1) _ i (false, false) false paired
      ∙ ap (λ (x : Bool × Bool). op x.0 x.1) (get_or-zip (row_of p a) (row_of p b) i (false, false) low_a low_b)
      ∙ ap (λ x. op x (value_at (row_of p b) i)) (told_a.at c listed)
      ∙ ap (op (f c)) (told_b.at c listed))

  pub Denotes-complement : (a : ℕ) → Stores p q r row → row ≡ map not (row_of p a)
      → (f : List ℕ → Bool) → Denotes (sets_of p) a f → Denotes (sets_of q) r (λ c. not (f c))
  Denotes-complement a is made f told = Denotes-Stores _ is (λ c listed.
      let i = rank (strides_of p.arities) c in
      let low : i < length (row_of p a) = omega (arith, rank-lt p.arities c listed, is.plain.long a told.own.made) in
      ap (λ xs. value_at xs i) made ∙ get_or-map not (row_of p a) i false false low ∙ ap not (told.at c listed))

-- a condition is read off its row
pub IsRowOf-row_of : (p : Plain) (a : ℕ) → IsRowOf (sets_of p) a p.arities (row_of p a)
IsRowOf-row_of p a = record { over = refl; at = λ c listed. refl }

module _ {p : Plain} (plain : IsPlain p) where
  -- conditions that mean the same have equal rows
  same_rows : (a b : ℕ) → IsCond (sets_of p) a → IsCond (sets_of p) b → IsSame (sets_of p) a b → row_of p a ≡ row_of p b
  same_rows a b own_a own_b same = ext_get_or false (row_of p a) (row_of p b) (plain.long a own_a.made ∙ sym (plain.long b own_b.made)) (λ i below.
      let low : i < config_count p.arities = omega (arith, plain.long a own_a.made) in
      let there = rank-config_at-lt p.arities i plain.options low in
      rw there at (same.at (config_at p.arities i) (IsConfig-config_at p.arities i plain.options)))

  -- so they are one
  pub IsCanonical-IsPlain : IsCanonical (sets_of p)
  IsCanonical-IsPlain = record {
    one = λ a b own_a own_b same. plain.different.same a b (row_of p a) (slice_get-get_or p.rows a [] own_a.made)
        (slice_get-get_or p.rows b [] own_b.made ∙ ap (λ row. Some row) (sym (same_rows a b own_a own_b same)));
  }

  pub IsCond-never : IsCond (sets_of p) 0
  IsCond-never = record { made = slice_get_within p.rows 0 _ plain.never }

  pub IsCond-always : IsCond (sets_of p) 1
  IsCond-always = record { made = slice_get_within p.rows 1 _ plain.always }

  pub Denotes-never : Denotes (sets_of p) 0 (λ _. false)
  Denotes-never = record {
    own = IsCond-never;
    at = λ c listed. rw (row_of-stored p 0 _ plain.never) (get_or-replicate _ _ false false (rank-lt p.arities c listed));
  }

  pub Denotes-always : Denotes (sets_of p) 1 (λ _. true)
  Denotes-always = record {
    own = IsCond-always;
    at = λ c listed. rw (row_of-stored p 1 _ plain.always) (get_or-replicate _ _ true false (rank-lt p.arities c listed));
  }

-- a zip of two rows is as long as they are
pub length-zipped : (op : Bool → Bool → Bool) (xs ys : List Bool) (n : ℕ) → length xs ≡ n → length ys ≡ n → length (map (λ (x : Bool × Bool). op x.0 x.1) (zip xs ys)) ≡ n
length-zipped op xs ys n long_x long_y = omega (arith, length-map (zip xs ys) (λ (x : Bool × Bool). op x.0 x.1), length-zip xs ys)

-- the first variable is missing exactly at never and always
pub IsNone-IsTop : {s : Sets} {a : ℕ} (o : Option ℕ) → IfSome o (IsTop s a) → IfNone o (IsNever s a ⊎ IsAlways s a) → IsNone o ↔ (IsNever s a ⊎ IsAlways s a)
IsNone-IsTop None top none = (λ _. none, λ _. refl)
IsNone-IsTop (Some v) top none = (
  λ e. absurd (true≢false e),
  λ constant. absurd (elim constant [ inl never ↦ IsNever-DependsOn top.depends never | inr always ↦ IsAlways-DependsOn top.depends always ]),
)

-- what is kept, at a configuration's rank
module _ {strides : List ℕ} {count : ℕ} {p : Plain} where
  pub long-IsKept : (c : List ℕ) → IsKept strides count p → IsConfig p.arities c → length c ≡ length strides
  long-IsKept c kept listed = listed.long ∙ sym (length-strides_of p.arities) ∙ ap length (sym kept.wide)

  pub rank-IsKept : (c : List ℕ) → IsKept strides count p → IsConfig p.arities c → rank strides c < config_count p.arities
  rank-IsKept c kept listed = rw kept.wide (rank-lt p.arities c listed)

-- the configuration at the rank of a value that is true
pub record IsExample (p : Plain) (a : ℕ) (into : List ℕ) : Type 0 where
  pub listed : IsConfig p.arities into
  pub has : (sets_of p).has a into ≡ true

pub IsExample-config_at : (p : Plain) (a i : ℕ) (into : List ℕ) → IsPlain p → IsCond (sets_of p) a → into ≡ config_at p.arities i → i < length (row_of p a) → value_at (row_of p a) i ≡ true → IsExample p a into
IsExample-config_at p a i into plain own same within holds = rw same (record {
  listed = IsConfig-config_at p.arities i plain.options;
  has = ap (value_at (row_of p a)) (rank-config_at-lt p.arities i plain.options (omega (arith, plain.long a own.made))) ∙ holds;
})

pub IsNever-IsExample : {p : Plain} {a : ℕ} {into : List ℕ} → IsExample p a into → IsNever (sets_of p) a → ⊥
IsNever-IsExample example never = false≢true (sym (never.none _ example.listed) ∙ example.has)

-- ---- two rows side by side, and the first place at which both pass a test

module _ {p : Plain} (plain : IsPlain p) (a b : ℕ) (own_a : IsCond (sets_of p) a) (own_b : IsCond (sets_of p) b) (op : Bool → Bool → Bool) (row : List Bool)
    (made : row ≡ map (λ x. op x.0 x.1) (zip (row_of p a) (row_of p b))) where
  long-zip : length row ≡ config_count p.arities
  long-zip = ap length made ∙ length-zipped op (row_of p a) (row_of p b) (config_count p.arities) (plain.long a own_a.made) (plain.long b own_b.made)

  value-zip : (c : List ℕ) → IsConfig p.arities c → value_at row (rank (strides_of p.arities) c) ≡ op ((sets_of p).has a c) ((sets_of p).has b c)
  value-zip c listed =
      let i = rank (strides_of p.arities) c in
      let low = rank-lt p.arities c listed in
      let low_a : i < length (row_of p a) = omega (arith, plain.long a own_a.made) in
      let low_b : i < length (row_of p b) = omega (arith, plain.long b own_b.made) in
      let paired : i < length (zip (row_of p a) (row_of p b)) = omega (arith, length-zip (row_of p a) (row_of p b)) in
      ap (λ xs. value_at xs i) made
      ∙ get_or-map (λ (x : Bool × Bool). op x.0 x.1) _ i (false, false) false paired
      ∙ ap (λ (x : Bool × Bool). op x.0 x.1) (get_or-zip (row_of p a) (row_of p b) i (false, false) low_a low_b)

  pub none-pass : (r : Option ℕ) → is_some r ≡ false → IfNone r (EachIndex row (λ i. value_at row i ≡ false)) → (c : List ℕ) → IsConfig p.arities c
      → op ((sets_of p).has a c) ((sets_of p).has b c) ≡ false
  none-pass None told each c listed = sym (value-zip c listed) ∙ each (rank (strides_of p.arities) c) (omega (arith, rank-lt p.arities c listed, long-zip))
  none-pass (Some i) told each c listed = absurd (true≢false told)

  pub some-passes : (r : Option ℕ) → is_some r ≡ true → IfSome r (λ i. (i < length row) × (value_at row i ≡ true))
      → record { config : List ℕ; listed : IsConfig p.arities config; passes : op ((sets_of p).has a config) ((sets_of p).has b config) ≡ true }
  some-passes None told first = absurd (false≢true told)
  some-passes (Some i) told first =
      let config = config_at p.arities i in
      let listed = IsConfig-config_at p.arities i plain.options in
      record {
        config = config;
        listed = listed;
        passes = sym (value-zip config listed) ∙ ap (value_at row) (rank-config_at-lt p.arities i plain.options (omega (arith, first.0, long-zip))) ∙ first.1;
      }

-- ---- what is simpler

has-both : (x y : Bool) → (x && y) ≡ true → (x ≡ true) × (y ≡ true)
has-both true y told = (refl, told)
has-both false y told = absurd (false≢true told)

has-first : (x y : Bool) → (x && not y) ≡ true → (x ≡ true) × (y ≡ false)
has-first true true told = absurd (false≢true told)
has-first true false told = (refl, refl)
has-first false y told = absurd (false≢true told)

pub not-outside : (x y : Bool) → (x && not y) ≡ false → x ≡ true → y ≡ true
not-outside true true none has = refl
not-outside true false none has = sym none
not-outside false y none has = absurd (false≢true has)

pub not-inside : (x y : Bool) → (x && y) ≡ false → x ≡ true → y ≡ false
not-inside true y none has = none
not-inside false y none has = absurd (false≢true has)

-- both values come, at these configurations
pub says-either : {s : Sets} {a within : ℕ} → record { config : List ℕ; listed : IsConfig s.arities config; passes : (s.has within config && not (s.has a config)) ≡ true }
    → record { config : List ℕ; listed : IsConfig s.arities config; passes : (s.has within config && s.has a config) ≡ true } → (says : Bool) → SaysWithin s a within says
says-either {s} {a} {within} outside inside true = let has = has-both _ _ inside.passes in record { config = inside.config; listed = inside.listed; held = has.0; is = has.1 }
says-either {s} {a} {within} outside inside false = let has = has-first _ _ outside.passes in record { config = outside.config; listed = outside.listed; held = has.0; is = has.1 }
