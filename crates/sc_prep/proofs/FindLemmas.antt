-- Looking names up, and the parts of files.
use Rattle.std.proofs.Common.{Global, lt-ltb, ◌≡◌, ℕ, zero, suc, ◌+◌, ◌<◌, ◌≤◌, ◌||◌, inl, inr, not, cond, AllPairs, append-nil, drop, take, Bool, true, false, List, [], ◌∷◌, ◌++◌, All, map, length, get_or, slice_get, Option, Some, None, refl, sym, ap, subst, ◌∙◌, arith, if◌then◌else◌, ◌==◌, slice_set}
use Rattle.sc_base.specs.Interns.{Interns, fresh, known}
use Rattle.std.proofs.lemmas.Bool.Decides.{eqb_tells}
use Rattle.std.specs.List.{prefix_len}
use Rattle.sc_expand.proofs.AlikeLemmas.{all-back}
use Rattle.sc_prep.proofs.ApartLemmas.{pairs-head, pairs-tail}
use Rattle.sc_prep.proofs.Facts.{All-tail, cases_lt, AllPairs-cons, All-cons, All-head, All-nil, All-push, IsConfig-Keeps, drop_more, eqb-true, map-append, position-Some, take-append-drop, or-false}
use Rattle.sc_prep.proofs.ListsAt.{items-keeps, items-push, map-next}
use Rattle.sc_prep.proofs.Terms.{AddsFile, AreOnce, ArePlainPaths, Cond, Content, Contents, Denotes, File, FileId, Files, Found, IsCond, IsConfig, Keeps, LooksUp, Part, Rc, Sets, Standard, file_with, files_at, found_or, has_no_newline, option_map, part_of, search}
use Rattle.sc_prep.specs.Contents.{Agrees, AreContents, IsContent, absent, content_at, nested, refused}

-- a name on one line that comes to a table of such names
pub interned-plain : {old new : List (List ℕ)} {name : List ℕ} → Interns old new name → ArePlainPaths (name ∷ []) → ArePlainPaths old → ArePlainPaths new
interned-plain (known had same) one all = subst ArePlainPaths (sym same) all
interned-plain {old} {new} {name} (fresh lacks same) one all =
    let P : List ℕ → Type 0 = λ path. has_no_newline path ≡ true in
    subst ArePlainPaths (sym same) (All-push P old name all (All-head P name [] one))

-- names of which no file has one are passed over
past_by : (later : Option File) (name : List ℕ) (o : Option (List ℕ)) → found_or later name o ≡ None → (o ≡ None) × (later ≡ None)
past_by later name None is = (refl, is)
past_by later name (Some bytes) is = absurd (cc)

pub search-past : (held : Files) (xs ys : List (List ℕ)) → search held xs ≡ None → search held (xs ++ ys) ≡ search held ys
search-past held [] ys none = refl
search-past held (x ∷ xs) ys none =
    let parts = past_by (search held xs) x (held x) none in
    ap (found_or (search held (xs ++ ys)) x) parts.0 ∙ search-past held xs ys parts.1

-- ---- more configurations for one part

or_true : (b : Bool) → (b || true) ≡ true
or_true true = refl
or_true false = refl

none-first : {A : Type 0} (b : Bool) (x : A) (xs : List A) → (if b then x ∷ xs else xs) ≡ [] → (b ≡ false) × (xs ≡ [])
none-first true x xs is = absurd (cc)
none-first false x xs is = (refl, is)

module _ (s : Sets) (c : List ℕ) (p : Part) where
  pub set-others : (parts : List Part) (i : ℕ) → i < length parts → p.file ≡ (get_or parts i p).file → s.has p.cond.0 c ≡ (s.has (get_or parts i p).cond.0 c || false) → files_at s (slice_set parts i p) c ≡ files_at s parts c
  set-others [] i within file has = refl
  set-others (x ∷ xs) zero within file has =
      ap (λ b. if b then p.file ∷ files_at s xs c else files_at s xs c) (has ∙ or-false (s.has x.cond.0 c))
      ∙ ap (λ f. if s.has x.cond.0 c then f ∷ files_at s xs c else files_at s xs c) file
  set-others (x ∷ xs) (suc i) within file has = ap (λ r. if s.has x.cond.0 c then x.file ∷ r else r) (set-others xs i (omega (arith, within)) file has)

  pub set-enters : (parts : List Part) (i : ℕ) → i < length parts → s.has p.cond.0 c ≡ (s.has (get_or parts i p).cond.0 c || true) → files_at s parts c ≡ [] → files_at s (slice_set parts i p) c ≡ p.file ∷ []
  set-enters [] i within has none = absurd (omega (arith, within))
  set-enters (x ∷ xs) zero within has none =
      let rest = none-first (s.has x.cond.0 c) x.file (files_at s xs c) none in
      ap (λ b. if b then p.file ∷ files_at s xs c else files_at s xs c) (has ∙ or_true (s.has x.cond.0 c)) ∙ ap (λ r. p.file ∷ r) rest.1
  set-enters (x ∷ xs) (suc i) within has none =
      let rest = none-first (s.has x.cond.0 c) x.file (files_at s xs c) none in
      ap (λ b. if b then x.file ∷ files_at s (slice_set xs i p) c else files_at s (slice_set xs i p) c) rest.0 ∙ set-enters xs i (omega (arith, within)) has rest.1

pub own-found : {s : Sets} (parts : List Part) (i : ℕ) (r : Part) (file : FileId) → part_of parts file.0 ≡ Some i → r ≡ get_or parts i r → All (λ (x : Part). IsCond s x.cond.0) parts → IsCond s r.cond.0
own-found {s} parts i r file at is own = subst (λ (x : Part). IsCond s x.cond.0) (sym is) (own i r (position-Some (λ (part : Part). part.file.0 == file.0) parts i r at).0)

module _ {old new : Sets} (keeps : Keeps old new) (parts : List Part) (i : ℕ) (p q r : Part) (cond : Cond) (file : FileId) (at : part_of parts file.0 ≡ Some i)
    (q_is : q ≡ get_or parts i q) (r_is : r ≡ get_or parts i r) (p_file : p.file ≡ q.file) (own : All (λ (x : Part). IsCond old x.cond.0) parts)
    (meaning : Denotes new p.cond.0 (λ c. old.has r.cond.0 c || old.has cond.0 c)) where
  within : i < length parts
  within = (position-Some (λ (part : Part). part.file.0 == file.0) parts i q at).0

  get-any : (xs : List Part) (k : ℕ) (a b : Part) → k < length xs → get_or xs k a ≡ get_or xs k b
  get-any [] k a b h = absurd (omega (arith, h))
  get-any (x ∷ xs) zero a b h = refl
  get-any (x ∷ xs) (suc k) a b h = get-any xs k a b (omega (arith, h))

  file-is : p.file ≡ file
  file-is =
      let same : q.file.0 ≡ file.0 = ap (λ (x : Part). x.file.0) q_is ∙ eqb-true (get_or parts i q).file.0 file.0 (position-Some (λ (part : Part). part.file.0 == file.0) parts i q at).1 in
      p_file ∙ ap (λ n. record { 0 = n }) same

  has-is : (c : List ℕ) → IsConfig old.arities c → new.has p.cond.0 c ≡ (new.has (get_or parts i p).cond.0 c || old.has cond.0 c)
  has-is c listed =
      let own_r : IsCond old r.cond.0 = subst (λ (x : Part). IsCond old x.cond.0) (sym r_is) (own i r within) in
      meaning.at c (IsConfig-Keeps keeps listed)
      ∙ (ap (λ b. b || old.has cond.0 c) (sym (keeps.at r.cond.0 c own_r listed)) ∙ ap (λ (x : Part). new.has x.cond.0 c || old.has cond.0 c) (r_is ∙ get-any parts i r p within))

  abbrev pair_of : Part → Cond × FileId
  pair_of part = (part.cond, part.file)

  kept-files : (c : List ℕ) → IsConfig old.arities c → files_at new parts c ≡ files_at old parts c
  kept-files c listed = items-keeps pair_of parts c keeps own listed

  pub joined-enters : (c : List ℕ) → IsConfig old.arities c → old.has cond.0 c ≡ true → files_at old parts c ≡ [] → files_at new (slice_set parts i p) c ≡ file ∷ []
  joined-enters c listed has none =
      set-enters new c p parts i within (has-is c listed ∙ ap (λ b. new.has (get_or parts i p).cond.0 c || b) has) (kept-files c listed ∙ none) ∙ ap (λ (f : FileId). f ∷ []) file-is

  pub joined-others : (c : List ℕ) → IsConfig old.arities c → old.has cond.0 c ≡ false → files_at new (slice_set parts i p) c ≡ files_at old parts c
  joined-others c listed has =
      set-others new c p parts i within (p_file ∙ ap (λ (x : Part). x.file) (q_is ∙ get-any parts i q p within)) (has-is c listed ∙ ap (λ b. new.has (get_or parts i p).cond.0 c || b) has)
      ∙ kept-files c listed

module _ (s : Sets) (parts next : List Part) (part : Part) (pushed : next ≡ parts ++ part ∷ []) (c : List ℕ) where
  pushed-files : files_at s next c ≡ files_at s parts c ++ (if s.has part.cond.0 c then part.file ∷ [] else [])
  pushed-files = ap (λ l. files_at s l c) pushed ∙ items-push (λ (x : Part). (x.cond, x.file)) s parts part c

  pub pushed-enters : s.has part.cond.0 c ≡ true → files_at s parts c ≡ [] → files_at s next c ≡ part.file ∷ []
  pushed-enters has none = pushed-files ∙ (ap (λ b. files_at s parts c ++ (if b then part.file ∷ [] else [])) has ∙ ap (λ l. l ++ part.file ∷ []) none)

  pub pushed-others : s.has part.cond.0 c ≡ false → files_at s next c ≡ files_at s parts c
  pushed-others has = pushed-files ∙ (ap (λ b. files_at s parts c ++ (if b then part.file ∷ [] else [])) has ∙ append-nil (files_at s parts c))

-- ---- each file once

pub pairs-push : {A : Type 0} (R : A → A → Type 0) (xs : List A) (x : A) → AllPairs R xs → All (λ y. R y x) xs → AllPairs R (xs ++ x ∷ [])
pairs-push R [] x pairs all = AllPairs-cons R x [] (All-nil (R x)) pairs
pairs-push R (y ∷ ys) x pairs all =
    AllPairs-cons R y (ys ++ x ∷ []) (All-push (R y) ys x (pairs-head R y ys pairs) (All-head (λ z. R z x) y ys all)) (pairs-push R ys x (pairs-tail R y ys pairs) (All-tail (λ z. R z x) y ys all))

ne-itself : (n : ℕ) → (n == n) ≡ false → ⊥
ne-itself n e = elim (eqb_tells n n) [
  | inl same ↦ (let both = sym same.0 ∙ e in cc)
  | inr other ↦ other.1 refl
]

-- how many of other files stand first
abbrev others_first : List Part → FileId → ℕ
others_first parts file = prefix_len (λ (part : Part). not (part.file.0 == file.0)) parts

all-others : (parts : List Part) (file : FileId) → length parts ≤ others_first parts file → All (λ f. f ≡ file → ⊥) (map (λ (part : Part). part.file) parts)
all-others [] file past = All-nil (λ (f : FileId). f ≡ file → ⊥)
all-others (p ∷ ps) file past = by (p.file.0 == file.0) refl past (all-others ps file)
  where
    by : (b : Bool) → (p.file.0 == file.0) ≡ b → suc (length ps) ≤ cond (not b) (1 + others_first ps file) 0
        → (length ps ≤ others_first ps file → All (λ f. f ≡ file → ⊥) (map (λ (part : Part). part.file) ps)) → All (λ f. f ≡ file → ⊥) (p.file ∷ map (λ (part : Part). part.file) ps)
    by true is past later = absurd (omega (arith, past))
    by false is past later =
        All-cons (λ (f : FileId). f ≡ file → ⊥) p.file (map (λ (part : Part). part.file) ps) (λ same. ne-itself file.0 (ap (λ (f : FileId). f.0 == file.0) (sym same) ∙ is)) (later (omega (arith, past)))

none-of : (parts : List Part) (file : FileId) → part_of parts file.0 ≡ None → All (λ f. f ≡ file → ⊥) (map (λ (part : Part). part.file) parts)
none-of parts file none = all-others parts file (elim (cases_lt (others_first parts file) (length parts)) [
  | inl under ↦ (let some = sym (ap (λ b. cond b (Some (others_first parts file)) None) (lt-ltb (others_first parts file) (length parts) under)) ∙ none in absurd (cc))
  | inr past ↦ past
])

pub once-pushed : (parts next : List Part) (part : Part) → next ≡ parts ++ part ∷ [] → part_of parts part.file.0 ≡ None → AreOnce parts → AreOnce next
once-pushed parts next part pushed none once =
    subst (AllPairs (λ (one : FileId) other. one ≡ other → ⊥)) (sym (ap (map (λ (p : Part). p.file)) pushed ∙ map-append (λ (p : Part). p.file) parts (part ∷ [])))
    (pairs-push (λ one other. one ≡ other → ⊥) (map (λ (p : Part). p.file) parts) part.file once (none-of parts part.file none))

pub once-none : AreOnce []
once-none i j d before below = absurd (omega (arith, below))

set-files : (p q : Part) (parts : List Part) (i : ℕ) → q ≡ get_or parts i q → p.file ≡ q.file → map (λ (part : Part). part.file) (slice_set parts i p) ≡ map (λ (part : Part). part.file) parts
set-files p q [] i is same = refl
set-files p q (x ∷ xs) zero is same = ap (λ f. f ∷ map (λ (part : Part). part.file) xs) (same ∙ ap (λ (part : Part). part.file) is)
set-files p q (x ∷ xs) (suc i) is same = ap (λ fs. x.file ∷ fs) (set-files p q xs i is same)

pub once-joined : (parts : List Part) (i : ℕ) (p q : Part) → q ≡ get_or parts i q → p.file ≡ q.file → AreOnce parts → AreOnce (slice_set parts i p)
once-joined parts i p q is same once = subst (AllPairs (λ (one : FileId) other. one ≡ other → ⊥)) (sym (set-files p q parts i is same)) once

-- ---- names in order

none-content : {standard : Standard} {names files : List (List ℕ)} {name : List ℕ} {b : Option (List ℕ)} → IsContent standard names files name b None → b ≡ None
none-content absent = refl

some-content : {standard : Standard} {names files : List (List ℕ)} {name : List ℕ} {b : Option (List ℕ)} {x : Content} → IsContent standard names files name b (Some x) → (bytes : List ℕ) × (b ≡ Some bytes)
some-content (refused bytes cause place all) = (bytes, refl)
some-content (nested bytes found are) = (bytes, refl)

module _ {standard : Standard} {names files : List (List ℕ)} (contents : Contents) (held : Files) (agrees : Agrees standard names files held contents) (file : FileId) (name : List ℕ) (named : slice_get files file.0 ≡ Some name) (o : Option (Rc Content Global))
    (at : content_at contents file.0 ≡ Some (option_map (λ shared. shared.value) o)) where
  pub name-absent : o ≡ None → held name ≡ None
  name-absent none = none-content (agrees.each file.0 name None named (at ∙ ap (λ (q : Option (Rc Content Global)). Some (option_map (λ shared. shared.value) q)) none))

  pub name-present : (x : Rc Content Global) → o ≡ Some x → (bytes : List ℕ) × (held name ≡ Some bytes)
  name-present x some = some-content (agrees.each file.0 name (Some x.value) named (at ∙ ap (λ (q : Option (Rc Content Global)). Some (option_map (λ shared. shared.value) q)) some))

module _ {A : Type 0} (f : A → List ℕ) (held : Files) (xs : List A) (i : ℕ) (x : A) (within : i < length xs) (is : x ≡ get_or xs i x) (none : search held (map f (take i xs)) ≡ None) where
  pub search-next : held (f x) ≡ None → search held (map f (take (i + 1) xs)) ≡ None
  search-next missing = ap (search held) (map-next f xs i x within is) ∙ (search-past held (map f (take i xs)) (f x ∷ []) none ∙ ap (found_or None (f x)) missing)

  pub search-here : (bytes : List ℕ) → held (f x) ≡ Some bytes → search held (map f xs) ≡ Some (file_with (f x) bytes)
  search-here bytes there =
      let rest = map f (drop (i + 1) xs) in
      let split : map f xs ≡ map f (take i xs) ++ f x ∷ rest =
      ap (map f) (sym (take-append-drop i xs)) ∙ (map-append f (take i xs) (drop i xs)
      ∙ ap (λ l. map f (take i xs) ++ map f l) (drop_more xs i x within ∙ ap (λ y. y ∷ drop (i + 1) xs) (sym is))) in
      ap (search held) split ∙ (search-past held (map f (take i xs)) (f x ∷ rest) none ∙ ap (found_or (search held rest) (f x)) there)

pub looks-more : {standard : Standard} {names files mid mid_files more more_files : List (List ℕ)} {contents middle later : Contents} {h k : Option Files} {A : Type 0} (f : A → List ℕ) (xs : List A) (i : ℕ) (x : A) → i < length xs → x ≡ get_or xs i x
    → LooksUp standard names files contents h mid mid_files middle (map f xs) → k ≡ h → LooksUp standard mid mid_files middle k more more_files later (f x ∷ []) → LooksUp standard names files contents h more more_files later (map f xs)
looks-more {standard} {more = more} {more_files = more_files} {later = later} f xs i x within is one same two =
    let P : List ℕ → Type 0 = λ path. has_no_newline path ≡ true in
    record {
      contents_are = subst (λ h. AreContents standard more more_files h later) same two.contents_are;
      reads = record { each = λ n c at. two.reads.each n c (one.reads.each n c at) };
      paths = λ all old. two.paths (All-cons P (f x) [] (subst (λ y. P (f y)) (sym is) (all-back P f xs all i x within)) (All-nil P)) (one.paths all old);
    }

-- ---- what was found for one header more

-- configurations that find no file
pub adds-none : {old new : Sets} (keeps : Keeps old new) (cond : Cond) (was next : Found) → next.parts ≡ was.parts → All (λ (x : Part). IsCond old x.cond.0) was.parts.items → IsCond new next.missing.0
    → Denotes new next.missing.0 (λ c. old.has was.missing.0 c || old.has cond.0 c) → AddsFile old cond.0 None was new next
adds-none {old} {new} keeps cond was next same own own_next meaning =
    let files : (c : List ℕ) → IsConfig old.arities c → files_at new next.parts.items c ≡ files_at old was.parts.items c =
    λ c listed. ap (λ ps. files_at new ps.items c) same ∙ items-keeps (λ (x : Part). (x.cond, x.file)) was.parts.items c keeps own listed in
    record {
      missing_own = own_next;
      files_here = λ c listed has none. files c listed ∙ none;
      missing_here = λ c listed has. meaning.at c (IsConfig-Keeps keeps listed) ∙ ap (λ b. old.has was.missing.0 c || b) has;
      files_others = λ c listed has. files c listed;
      missing_others = λ c listed has. meaning.at c (IsConfig-Keeps keeps listed) ∙ (ap (λ b. old.has was.missing.0 c || b) has ∙ or-false (old.has was.missing.0 c));
    }
