-- The files that are entered no more, as a walk goes on.
use Rattle.std.proofs.Common.{◌≡◌, ℕ, zero, suc, ◌+◌, ◌<◌, ◌&&◌, ◌||◌, not, Bool, true, false, List, [], ◌∷◌, ◌++◌, inl, inr, length, get_or, take, Option, Some, refl, sym, ap, ◌∙◌, subst, arith, if◌then◌else◌, ◌==◌, slice_set}
use Rattle.c11_directives.specs.declared.directive.Directive.TheVariants as directive
use Rattle.sc_prep.proofs.Facts.{All-head, All-set, All-tail, All-weaker, Denotes-self, Extends-within, IsConfig-Keeps, IsConfig-kept, cases_Bool, eqb-true, get_or_default, list_any-append, or-false, or_comm, or_self_left, position-Some, same_bytes-refl, same_bytes-true, slice_get-get_or}
use Rattle.sc_prep.proofs.RunLemmas.{denotes-as}
use Rattle.sc_prep.proofs.Terms.{AreOnceHeld, Cond, Denotes, Extends, FileId, IsCond, IsConfig, IsOneToOne, Keeps, Line, MarksFile, OnceFile, OwnsOnce, Sets, State, hash_of, is_marked, is_once, is_once_file, list_any, once_at, position, same_bytes, state_behind, text_at, unwrap_or, with_file_of}

abbrev pub Owned : Sets → OnceFile → Type 0
Owned s o = IsCond s o.cond.0

abbrev pub HeldFile : ℕ → OnceFile → Type 0
HeldFile files o = o.file.0 < files

-- ---- the stores grow

pub once-kept : {old new : Sets} → Keeps old new → (once : List OnceFile) → OwnsOnce old once → OwnsOnce new once
once-kept {old} {new} keeps once own = All-weaker (Owned old) (Owned new) (λ o h. keeps.own o.cond.0 h) once own

pub once-stays : {old new : Sets} → Keeps old new → (files : List (List ℕ)) (once : List OnceFile) (c name : List ℕ) → IsConfig old.arities c → OwnsOnce old once
    → once_at new files once c name ≡ once_at old files once c name
once-stays keeps files [] c name listed own = refl
once-stays {old} {new} keeps files (o ∷ os) c name listed own =
    ap (λ b. (b && same_bytes name (text_at files o.file.0)) || once_at new files os c name) (keeps.at o.cond.0 c (All-head (Owned old) o os own) listed)
    ∙ ap (λ b. is_marked old files c name o || b) (once-stays keeps files os c name listed (All-tail (Owned old) o os own))

pub once-later : {files more : List (List ℕ)} → Extends files more → (s : Sets) (once : List OnceFile) (c name : List ℕ) → AreOnceHeld (length files) once
    → once_at s more once c name ≡ once_at s files once c name
once-later grows s [] c name held = refl
once-later {files} {more} grows s (o ∷ os) c name held =
    ap (λ t. (s.has o.cond.0 c && same_bytes name t) || once_at s more os c name) (ap (λ t. unwrap_or t []) (grows.kept o.file.0 (All-head (HeldFile (length files)) o os held)))
    ∙ ap (λ b. is_marked s files c name o || b) (once-later grows s os c name (All-tail (HeldFile (length files)) o os held))

pub held-more : {files more : List (List ℕ)} → Extends files more → (once : List OnceFile) → AreOnceHeld (length files) once → AreOnceHeld (length more) once
held-more {files} {more} grows once held = All-weaker (HeldFile (length files)) (HeldFile (length more)) (λ o h. Extends-within o.file.0 h grows) once held

-- ---- a file is marked

pub pushed-once : (s : Sets) (files : List (List ℕ)) (once : List OnceFile) (o : OnceFile) (c name : List ℕ) → once_at s files (once ++ o ∷ []) c name ≡ (is_marked s files c name o || once_at s files once c name)
pushed-once s files once o c name =
    list_any-append (is_marked s files c name) once (o ∷ [])
    ∙ (ap (λ b. once_at s files once c name || b) (or-false (is_marked s files c name o)) ∙ or_comm (once_at s files once c name) (is_marked s files c name o))

joined-here : (x h t r : Bool) → (((x || h) && t) || r) ≡ ((h && t) || ((x && t) || r))
joined-here true true t r = sym (or_self_left t r)
joined-here true false t r = refl
joined-here false h t r = refl

joined-behind : (x m r : Bool) → (x || (m || r)) ≡ (m || (x || r))
joined-behind true true r = refl
joined-behind true false r = refl
joined-behind false m r = refl

-- more configurations of one of them
pub joined-once : (s : Sets) (files : List (List ℕ)) (c name : List ℕ) (o : OnceFile) (h : Bool) (once : List OnceFile) (i : ℕ) → i < length once → (get_or once i o).file.0 ≡ o.file.0
    → s.has o.cond.0 c ≡ (s.has (get_or once i o).cond.0 c || h)
    → once_at s files (slice_set once i o) c name ≡ ((h && same_bytes name (text_at files o.file.0)) || once_at s files once c name)
joined-once s files c name o h [] i within file has = absurd (omega (arith, within))
joined-once s files c name o h (x ∷ xs) zero within file has =
    ap (λ b. (b && same_bytes name (text_at files o.file.0)) || once_at s files xs c name) has
    ∙ (joined-here (s.has x.cond.0 c) h (same_bytes name (text_at files o.file.0)) (once_at s files xs c name)
    ∙ ap (λ n. (h && same_bytes name (text_at files o.file.0)) || ((s.has x.cond.0 c && same_bytes name (text_at files n)) || once_at s files xs c name)) (sym file))
joined-once s files c name o h (x ∷ xs) (suc i) within file has =
    ap (λ b. is_marked s files c name x || b) (joined-once s files c name o h xs i (omega (arith, within)) file has)
    ∙ joined-behind (is_marked s files c name x) (h && same_bytes name (text_at files o.file.0)) (once_at s files xs c name)

-- ---- what a pragma does to the state of a machine

-- the state of a machine that acts or not, behind a pragma that marks its file
pub behind-once : (acts : Bool) (l : Line) (s : State) (file name : List ℕ) → is_once l ≡ true → with_file_of s.once (hash_of l) ≡ file ∷ s.once
    → is_once_file (if acts then state_behind s l directive.Pragma s.macros else s) name ≡ ((acts && same_bytes name file) || is_once_file s name)
behind-once false l s file name is place = refl
behind-once true l s file name is place =
    ap (λ b. list_any (same_bytes name) (if b then with_file_of s.once (hash_of l) else s.once)) is ∙ ap (list_any (same_bytes name)) place

-- or behind another
pub behind-other : (acts : Bool) (l : Line) (s : State) → is_once l ≡ false → (if acts then state_behind s l directive.Pragma s.macros else s) ≡ s
behind-other false l s is = refl
behind-other true l s is = ap (λ b. record s { once = if b then with_file_of s.once (hash_of l) else s.once }) is

-- ---- the configurations in which a file is none of them

-- a file's name tells it from others
pub other-name : (files : List (List ℕ)) → IsOneToOne files → (file other : ℕ) → file < length files → other < length files → (other ≡ file → ⊥)
    → same_bytes (text_at files file) (text_at files other) ≡ false
other-name files apart file other here there differs = elim (cases_Bool (same_bytes (text_at files file) (text_at files other))) [
  | inl same ↦ (
      let name : Option (List ℕ) → List ℕ = λ o. unwrap_or o [] in
      let one = slice_get-get_or files file [] here in
      let two = slice_get-get_or files other [] there in
      let alike : get_or files file [] ≡ get_or files other [] = sym (ap name one) ∙ (same_bytes-true (text_at files file) (text_at files other) same ∙ ap name two) in
      absurd (differs (apart.same other file (get_or files other []) two (one ∙ ap Some alike)))
      )
  | inr unlike ↦ unlike
]

both-not : (a o m : Bool) → ((a && not o) && not m) ≡ (a && not (m || o))
both-not true true true = refl
both-not true true false = refl
both-not true false true = refl
both-not true false false = refl
both-not false o m = refl

-- with one more of them
pub without-next : {old mid new : Sets} → Keeps old mid → Keeps mid new → (files : List (List ℕ)) (once : List OnceFile) (i : ℕ) (o : OnceFile) (cond rest next : ℕ) (name : List ℕ)
    → take (i + 1) once ≡ take i once ++ o ∷ [] → IsCond old o.cond.0 → Denotes mid rest (λ c. old.has cond c && not (once_at old files (take i once) c name))
    → Denotes new next (λ c. mid.has rest c && not (is_marked mid files c name o)) → Denotes new next (λ c. old.has cond c && not (once_at old files (take (i + 1) once) c name))
without-next {old} {mid} first later files once i o cond rest next name cut own was now =
    denotes-as (λ c. mid.has rest c && not (is_marked mid files c name o)) (λ c. old.has cond c && not (once_at old files (take (i + 1) once) c name))
    (λ c listed.
    let before = IsConfig-kept later listed in
    ap (λ b. b && not (is_marked mid files c name o)) (was.at c before)
    ∙ (ap (λ b. (old.has cond c && not (once_at old files (take i once) c name)) && not (b && same_bytes name (text_at files o.file.0))) (first.at o.cond.0 c own (IsConfig-kept first before))
    ∙ (both-not (old.has cond c) (once_at old files (take i once) c name) (is_marked old files c name o)
    ∙ ap (λ b. old.has cond c && not b) (sym (ap (λ os. once_at old files os c name) cut ∙ pushed-once old files (take i once) o c name)))))
    now

and-true : (a h t : Bool) → t ≡ true → (a && not h) ≡ (a && not (h && t))
and-true a true t e = ap (λ b. a && not b) (sym e)
and-true a false t e = refl

and-false : (a h t : Bool) → t ≡ false → a ≡ (a && not (h && t))
and-false true true t e = ap not (sym e)
and-false true false t e = refl
and-false false h t e = refl

-- of another file
pub unless-other : (s : Sets) (files : List (List ℕ)) (o : OnceFile) (file cond : ℕ) → IsOneToOne files → file < length files → o.file.0 < length files → (o.file.0 ≡ file → ⊥) → IsCond s cond
    → Denotes s cond (λ c. s.has cond c && not (is_marked s files c (text_at files file) o))
unless-other s files o file cond apart here there differs own =
    denotes-as (s.has cond) (λ c. s.has cond c && not (is_marked s files c (text_at files file) o))
    (λ c listed. and-false (s.has cond c) (s.has o.cond.0 c) (same_bytes (text_at files file) (text_at files o.file.0)) (other-name files apart file o.file.0 here there differs)) (Denotes-self s cond own)

-- of this file
pub unless-same : (old new : Sets) (files : List (List ℕ)) (o : OnceFile) (file cond rest : ℕ) → o.file.0 ≡ file → Denotes new rest (λ c. old.has cond c && not (old.has o.cond.0 c))
    → Denotes new rest (λ c. old.has cond c && not (is_marked old files c (text_at files file) o))
unless-same old new files o file cond rest same meaning =
    denotes-as (λ c. old.has cond c && not (old.has o.cond.0 c)) (λ c. old.has cond c && not (is_marked old files c (text_at files file) o))
    (λ c listed. and-true (old.has cond c) (old.has o.cond.0 c) (same_bytes (text_at files file) (text_at files o.file.0))
    (ap (λ n. same_bytes (text_at files file) (text_at files n)) same ∙ same_bytes-refl (text_at files file))) meaning

-- of those that act
pub entering-as : {old mid new : Sets} → Keeps old mid → Keeps mid new → (files : List (List ℕ)) (once : List OnceFile) (cond acting inside rest : ℕ) (name : List ℕ) → OwnsOnce old once
    → Denotes mid inside (λ c. old.has cond c && old.has acting c) → Denotes new rest (λ c. mid.has inside c && not (once_at mid files once c name))
    → Denotes new rest (λ c. (old.has cond c && old.has acting c) && not (once_at old files once c name))
entering-as {old} {mid} first later files once cond acting inside rest name own both now =
    denotes-as (λ c. mid.has inside c && not (once_at mid files once c name)) (λ c. (old.has cond c && old.has acting c) && not (once_at old files once c name))
    (λ c listed.
    let before = IsConfig-kept later listed in
    ap (λ b. b && not (once_at mid files once c name)) (both.at c before)
    ∙ ap (λ b. (old.has cond c && old.has acting c) && not b) (once-stays first files once c name (IsConfig-kept first before) own))
    now

-- ---- the file of an index

-- the first of them with this file
abbrev pub OnceFile-position : List OnceFile → (file i : ℕ) → Type 0
OnceFile-position once file i = position (λ (o : OnceFile). o.file.0 == file) once ≡ Some i

pub found-owned : {s : Sets} (once : List OnceFile) (i : ℕ) (o : OnceFile) (file : FileId) → OnceFile-position once file.0 i → o ≡ get_or once i o → OwnsOnce s once → IsCond s o.cond.0
found-owned {s} once i o file at is own = subst (Owned s) (sym is) (own i o (position-Some (λ (x : OnceFile). x.file.0 == file.0) once i o at).0)

pub joins-file : {old new : Sets} (keeps : Keeps old new) (once : List OnceFile) (i : ℕ) (o : OnceFile) (file : FileId) (cond either : Cond) → OnceFile-position once file.0 i → o ≡ get_or once i o
    → OwnsOnce old once → Denotes new either.0 (λ c. old.has o.cond.0 c || old.has cond.0 c)
    → MarksFile old once file.0 cond.0 new (slice_set once i (record { file = file; cond = either }))
joins-file {old} {new} keeps once i o file cond either at is own meaning =
    let marked : OnceFile = record { file = file; cond = either } in
    let found = position-Some (λ (x : OnceFile). x.file.0 == file.0) once i marked at in
    let same : (get_or once i marked).file.0 ≡ file.0 = eqb-true (get_or once i marked).file.0 file.0 found.1 in
    let one : o ≡ get_or once i marked = is ∙ get_or_default once i o marked found.0 in
    let held : IsCond old o.cond.0 = found-owned once i o file at is own in
    record {
      own = All-set (Owned new) once i marked meaning.own (once-kept keeps once own);
      at = λ files c name listed.
          joined-once new files c name marked (old.has cond.0 c) once i found.0 same
          (meaning.at c (IsConfig-Keeps keeps listed) ∙ (ap (λ b. b || old.has cond.0 c) (sym (keeps.at o.cond.0 c held listed)) ∙ ap (λ (x : OnceFile). new.has x.cond.0 c || old.has cond.0 c) one))
          ∙ ap (λ b. (old.has cond.0 c && same_bytes name (text_at files file.0)) || b) (once-stays keeps files once c name listed own);
      held = λ files there held. All-set (HeldFile files) once i marked there held;
    }
