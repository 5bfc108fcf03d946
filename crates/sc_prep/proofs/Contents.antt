-- What was read of files stays while the tables of names and of texts grow.
use Rattle.std.proofs.Common.{◌≡◌, ℕ, zero, suc, ◌<◌, ◌⊎◌, inl, inr, ◌||◌, get_or, false, List, [], ◌∷◌, All, length, map, slice_get, Option, Some, None, Err, refl, sym, ap, ◌∙◌, subst, arith, ◌-◌, cond, drop, slice_set}
use Rattle.sc_base.specs.declared.place.Place.{Place}
use Rattle.sc_if.proofs.Replacements.{held-grown, text_at-grown}
use Rattle.sc_lines.specs.declared.line.Line.{Line}
use Rattle.sc_prep.proofs.Facts.{All-drop, All-head, All-tail, All-take, All-weaker, Extends-keeps, Extends-refl, Extends-within, cases_order, map-map, none-some, same_Some, same_bytes-refl, same_bytes-true, slice_get_within}
use Rattle.sc_prep.proofs.Terms.{Content, Contents, Enters, Extends, FileId, Files, HasBranches, IsHeld, IsOneToOne, IsPlaced, IsPlainOrNewline, IsTree, Standard, Token, directive_at, directive_of, directives_of, fault_at, file_with, has_no_newline, is_newline, lines_of, option_and_then, position_of, same_bytes, seen, seen_place, text_at, token_lines, tokens_of, unwrap_or, update}
use Rattle.sc_prep.specs.Contents.{Agrees, AreContents, IsContent, IsHeldContent, IsKept, IsReading, KeepsContents, ReadsSame, absent, content_at, known, nested, refused}
use Rattle.sc_prep.specs.declared.content.Content.TheVariants as content
use Rattle.sc_prep.specs.declared.content.Reading.{Reading}
use Rattle.std.proofs.lemmas.Bool.{false_from_ne_true}

-- ---- tokens that the tables hold look the same when they have more

module _ {names more : List (List ℕ)} (grows : Extends names more) where
  spelled-later : (files : List (List ℕ)) (ts : List Token) → All (IsHeld names) ts → map (seen more files) ts ≡ map (seen names files) ts
  spelled-later files [] held = refl
  spelled-later files (t ∷ ts) held =
      let first : seen more files t ≡ seen names files t =
      ap (λ s. record { kind = t.kind; spelling = s; space = t.space; place = seen_place files t.place }) (text_at-grown grows t.spelling.0 (All-head (IsHeld names) t ts held).spelling) in
      ap (λ s. s ∷ map (seen more files) ts) first ∙ ap (λ ss. seen names files t ∷ ss) (spelled-later files ts (All-tail (IsHeld names) t ts held))

  directives-later : (standard : Standard) (tokens : List Token) (lines : List Line) → All (IsHeld names) tokens → map (tokens_of tokens) lines ≡ token_lines tokens
      → map (directive_at standard more) (token_lines tokens) ≡ map (directive_at standard names) (token_lines tokens)
  directives-later standard tokens lines held are =
      let one : (l : Line) → directive_at standard more (tokens_of tokens l) ≡ directive_at standard names (tokens_of tokens l) = λ l. ap (directive_of (directives_of standard))
      (spelled-later [] (tokens_of tokens l) (All-take (IsHeld names) (l.end - l.first) (drop l.first tokens) (All-drop (IsHeld names) l.first tokens held))) in
      ap (map (directive_at standard more)) (sym are) ∙ (map-map (directive_at standard more) (tokens_of tokens) lines
      ∙ ((λ i. map (λ l. one l i) lines)
      ∙ (sym (map-map (directive_at standard names) (tokens_of tokens) lines) ∙ ap (map (directive_at standard names)) are)))

module _ {names more files more_files : List (List ℕ)} (grows : Extends names more) (files_grow : Extends files more_files) where
  pub IsPlaced-later : (t : Token) → IsPlaced names (length files) t → IsPlaced more (length more_files) t
  IsPlaced-later t placed = record { held = held-grown grows t placed.held; file = Extends-within t.place.file.0 placed.file files_grow }

  pub place-later : (p : Place) → p.file.0 < length files → seen_place more_files p ≡ seen_place files p
  place-later p there = ap (λ o. record { file = unwrap_or o []; position = position_of p }) (files_grow.kept p.file.0 there)

  placed-later : (ts : List Token) → All (IsPlaced names (length files)) ts → map (seen names more_files) ts ≡ map (seen names files) ts
  placed-later [] placed = refl
  placed-later (t ∷ ts) placed =
      let P = IsPlaced names (length files) in
      let first : seen names more_files t ≡ seen names files t =
      ap (λ p. record { kind = t.kind; spelling = text_at names t.spelling.0; space = t.space; place = p }) (place-later t.place (All-head P t ts placed).file) in
      ap (λ s. s ∷ map (seen names more_files) ts) first ∙ ap (λ ss. seen names files t ∷ ss) (placed-later ts (All-tail P t ts placed))

  pub tokens-later : (ts : List Token) → All (IsPlaced names (length files)) ts → map (seen more more_files) ts ≡ map (seen names files) ts
  tokens-later ts placed =
      spelled-later grows more_files ts (All-weaker (IsPlaced names (length files)) (IsHeld names) (λ t p. p.held) ts placed) ∙ placed-later ts placed

-- ---- what is kept of a name looks the same

-- its tokens or its place, seen through two pairs of tables
abbrev LooksSame : (names files more more_files : List (List ℕ)) → Option Content → Type 0
LooksSame names files more more_files None = Unit {0}
LooksSame names files more more_files (Some (content.Refused cause place)) = seen_place more_files place ≡ seen_place files place
LooksSame names files more more_files (Some (content.Lines found)) =
    (map (seen more more_files) found.tokens.items ≡ map (seen names files) found.tokens.items) × (seen_place more_files found.end ≡ seen_place files found.end)

looks-back : (names files more more_files : List (List ℕ)) (c : Option Content) → LooksSame names files more more_files c → LooksSame more more_files names files c
looks-back names files more more_files None same = tt
looks-back names files more more_files (Some (content.Refused cause place)) same = sym same
looks-back names files more more_files (Some (content.Lines found)) same = (sym same.0, sym same.1)

content-as : (names files more more_files : List (List ℕ)) (name : List ℕ) {bytes : Option (List ℕ)} {c : Option Content} {standard : Standard} → LooksSame names files more more_files c → IsContent standard names files name bytes c
    → IsContent standard more more_files name bytes c
content-as names files more more_files name same absent = absent
content-as names files more more_files name same (refused bytes cause place all) =
    refused bytes cause place (λ x s same_standard. subst (λ p. Enters x (file_with name bytes) s (Err (fault_at cause p))) (sym same) (all x s same_standard))
content-as names files more more_files name {standard = standard} same (nested bytes found are) = nested bytes found (record {
  few = are.few;
  lexemes = are.lexemes;
  lexed = are.lexed;
  tokens = same.0 ∙ are.tokens;
  group = are.group;
  tree = subst (λ ts. IsTree (lines_of standard ts) are.group) (sym same.0) are.tree;
  ends = same.1 ∙ are.ends;
})

abbrev AreHeldContents : Standard → List (List ℕ) → ℕ → ℕ → Option Content → Type 0
AreHeldContents standard names files file c = (x : Content) → c ≡ Some x → IsHeldContent standard names files (record { 0 = file }) x

module _ {names more files more_files : List (List ℕ)} (grows : Extends names more) (files_grow : Extends files more_files) where
  looks-later : (standard : Standard) (file : ℕ) (c : Option Content) → file < length files → AreHeldContents standard names (length files) file c → LooksSame names files more more_files c
  looks-later standard file None there held = tt
  looks-later standard file (Some (content.Refused cause place)) there held =
      place-later grows files_grow place (subst (λ (f : FileId). f.0 < length files) (sym (held (content.Refused cause place) refl)) there)
  looks-later standard file (Some (content.Lines found)) there held =
      let lines = held (content.Lines found) refl in
      (tokens-later grows files_grow found.tokens.items lines.placed, place-later grows files_grow found.end (subst (λ (f : FileId). f.0 < length files) (sym lines.end_inside) there))

  plain-later : (t : Token) → IsHeld names t → IsPlainOrNewline names t → IsPlainOrNewline more t
  plain-later t held plain = ap (λ text. is_newline t.kind || has_no_newline text) (text_at-grown grows t.spelling.0 held.spelling) ∙ plain

  held-later : (standard : Standard) (file : FileId) (x : Content) → IsHeldContent standard names (length files) file x → IsHeldContent standard more (length more_files) file x
  held-later standard file (content.Refused cause place) held = held
  held-later standard file (content.Lines found) held =
      let tokens = found.tokens.items in
      let all : All (IsHeld names) tokens = All-weaker (IsPlaced names (length files)) (IsHeld names) (λ t p. p.held) tokens held.placed in
      record {
        placed = All-weaker (IsPlaced names (length files)) (IsPlaced more (length more_files)) (IsPlaced-later grows files_grow) tokens held.placed;
        inside = held.inside;
        end_inside = held.end_inside;
        plain = λ k d h. plain-later (get_or tokens k d) (all k d h) (held.plain k d h);
        lines_are = record {
          tokens_are = held.lines_are.tokens_are;
          directives = held.lines_are.directives ∙ sym (directives-later grows standard tokens found.lines.items all held.lines_are.tokens_are);
          within = held.lines_are.within;
          follow = held.lines_are.follow;
        };
        branches = λ paths. subst (λ ts. HasBranches (lines_of standard ts) found.lines.items) (sym (spelled-later grows paths tokens all)) (held.branches paths);
      }

  module _ {standard : Standard} {holds : Option Files} {contents : Contents} (are : AreContents standard names files holds contents) where
    looks : (file : ℕ) (c : Option Content) → content_at contents file ≡ Some c → LooksSame names files more more_files c
    looks file c at = looks-later standard file c (are.named file c at) (λ x is. are.held (record { 0 = file }) x (at ∙ ap Some is))

    -- what is kept is what the same files hold, seen through the later tables
    pub agrees-later : (held : Files) → Agrees standard names files held contents → Agrees standard more more_files held contents
    agrees-later held agrees = record {
      each = λ file name c named at.
          content-as names files more more_files name (looks file c at) (agrees.each file name c (sym (files_grow.kept file (are.named file c at)) ∙ named) at);
    }

    pub contents-later : AreContents standard more more_files holds contents
    contents-later = record {
      some = (are.some.0, agrees-later are.some.0 are.some.1);
      told = λ held is. agrees-later held (are.told held is);
      held = λ file x at. held-later standard file x (are.held file x at);
      named = λ file c at. Extends-within file (are.named file c at) files_grow;
    }

    -- what later contents are is what the earlier ones were
    pub agrees-back : (held : Files) {later : Contents} → KeepsContents contents later → Agrees standard more more_files held later → Agrees standard names files held contents
    agrees-back held keeps agrees = record {
      each = λ file name c named at.
          content-as more more_files names files name (looks-back names files more more_files c (looks file c at))
          (agrees.each file name c (Extends-keeps file name named files_grow) (keeps.each file c at));
    }

-- ---- one reading more

different : (name other : List ℕ) → (name ≡ other → ⊥) → same_bytes name other ≡ false
different name other apart = false_from_ne_true (same_bytes name other) (λ same. apart (same_bytes-true name other same))

-- the test of ids, by cases
same_or : (i j : ℕ) → (i ≡ j) ⊎ (i ≡ j → ⊥)
same_or i j = elim (cases_order i j) [
  | inl same ↦ inl same
  | inr (inl less) ↦ inr (λ same. omega (arith, less, same))
  | inr (inr more) ↦ inr (λ same. omega (arith, more, same))
]

module _ {standard : Standard} {names more files : List (List ℕ)} {holds : Option Files} {old : Contents} (new : Contents) (grows : Extends names more) (are : AreContents standard names files holds old)
    (file : FileId) (c : Option Content) (kept : IsKept old.readings.items file.0 c new.readings.items) where
  module _ (name : List ℕ) (named : slice_get files file.0 ≡ Some name) (has : IsReading standard more files holds file c) where
    -- what holds of the new reading and of each other one holds of all
    each-kept : (P : ℕ → Option Content → Type 0) → P file.0 c → ((i : ℕ) (x : Option Content) → content_at old i ≡ Some x → (i ≡ file.0 → ⊥) → P i x)
        → (i : ℕ) (x : Option Content) → content_at new i ≡ Some x → P i x
    each-kept P here others i x at = elim (same_or i file.0) [
      | inl same ↦ subst (λ j. P j x) (sym same) (subst (P file.0) (same_Some c x (sym kept.here ∙ (ap (content_at new) (sym same) ∙ at))) here)
      | inr apart ↦ others i x (sym (kept.others i apart) ∙ at) apart
    ]

    agrees-kept : (before after : Files) → after name ≡ has.bytes
        → ((i : ℕ) (other : List ℕ) → slice_get files i ≡ Some other → (i ≡ file.0 → ⊥) → after other ≡ before other)
        → Agrees standard more files before old → Agrees standard more files after new
    agrees-kept before after holds_name same agrees = record {
      each = λ i other x there at. each-kept (λ j y. (n : List ℕ) → slice_get files j ≡ Some n → IsContent standard more files n (after n) y)
          (λ n is. subst (λ m. IsContent standard more files m (after m) c) (same_Some name n (sym named ∙ is)) (subst (λ b. IsContent standard more files name b c) (sym holds_name) (has.content name named)))
          (λ j y was apart n is. subst (λ b. IsContent standard more files n b y) (sym (same j n is apart)) (agrees.each j n y is was))
          i x at other there;
    }

    pub contents-kept : IsOneToOne files → AreContents standard more files holds new
    contents-kept one =
        let later : AreContents standard more files holds old = contents-later grows (Extends-refl files) are in
        record {
          some = (
            update same_bytes later.some.0 name has.bytes,
            agrees-kept later.some.0 (update same_bytes later.some.0 name has.bytes) (ap (λ b. cond b has.bytes (later.some.0 name)) (same_bytes-refl name))
                (λ i other there apart. ap (λ b. cond b has.bytes (later.some.0 other))
                (different name other (λ is. apart (one.same i file.0 other there (named ∙ ap Some is)))))
                later.some.1,
          );
          told = λ held is. agrees-kept held held (has.told held name is named) (λ i other there apart. refl) (later.told held is);
          held = λ f x at. each-kept (λ j y. (z : Content) → y ≡ Some z → IsHeldContent standard more (length files) (record { 0 = j }) z)
              (λ z is. has.held z is) (λ j y was apart z is. later.held (record { 0 = j }) z (was ∙ ap Some is)) f.0 (Some x) at x refl;
          named = each-kept (λ j y. j < length files) (slice_get_within files file.0 name named) (λ j y was apart. later.named j y was);
        }

-- ---- the list of readings

set-here : (xs : List Reading) (i : ℕ) (r : Reading) → i < length xs → slice_get (slice_set xs i r) i ≡ Some r
set-here [] i r within = absurd (omega (arith, within))
set-here (x ∷ xs) zero r within = refl
set-here (x ∷ xs) (suc i) r within = set-here xs i r (omega (arith, within))

set-other : (xs : List Reading) (i j : ℕ) (r : Reading) → (j ≡ i → ⊥) → slice_get (slice_set xs i r) j ≡ slice_get xs j
set-other [] i j r apart = refl
set-other (x ∷ xs) zero zero r apart = absurd (apart refl)
set-other (x ∷ xs) zero (suc j) r apart = refl
set-other (x ∷ xs) (suc i) zero r apart = refl
set-other (x ∷ xs) (suc i) (suc j) r apart = set-other xs i j r (λ same. apart (ap suc same))

pub set-kept : {old now : List Reading} (i : ℕ) (r : Reading) (c : Option Content) → ReadsSame old now → i < length now → known r ≡ Some c → IsKept old i c (slice_set now i r)
set-kept {old} {now} i r c same within is = record {
  here = ap (option_and_then known) (set-here now i r within) ∙ is;
  others = λ j apart. ap (option_and_then known) (set-other now i j r apart) ∙ same.each j;
}

-- ---- what a source has for a name

some-none : (x : Content) → None ≡ Some x → ⊥
some-none x e = cc

module _ {holds : Option Files} (files : List (List ℕ)) (file : FileId) (name : List ℕ) (named : slice_get files file.0 ≡ Some name) where
  told-as : (bytes : Option (List ℕ)) → ((held : Files) → holds ≡ Some held → bytes ≡ held name) → (held : Files) (other : List ℕ) → holds ≡ Some held → slice_get files file.0 ≡ Some other → held other ≡ bytes
  told-as bytes told held other is there = ap held (same_Some other name (sym there ∙ named)) ∙ sym (told held is)

  pub reads-absent : {standard : Standard} (names : List (List ℕ)) → ((held : Files) → holds ≡ Some held → None ≡ held name) → IsReading standard names files holds file None
  reads-absent names told = record { bytes = None; content = λ other there. absent; told = told-as None told; held = λ x is. absurd (some-none x is) }

  pub reads-content : {standard : Standard} (names : List (List ℕ)) (bytes : List ℕ) (c : Content) → ((held : Files) → holds ≡ Some held → Some bytes ≡ held name)
      → ((other : List (List ℕ)) (n : List ℕ) → slice_get other file.0 ≡ Some n → IsContent standard names other n (Some bytes) (Some c)) → ((count : ℕ) → file.0 < count → IsHeldContent standard names count file c)
      → IsReading standard names files holds file (Some c)
  reads-content {standard} names bytes c told is held = record {
    bytes = Some bytes;
    content = λ other there. is files other there;
    told = told-as (Some bytes) told;
    held = λ x same. subst (IsHeldContent standard names (length files) file) (same_Some c x same) (held (length files) (slice_get_within files file.0 name named));
  }

-- what is kept is what some files hold that the source may hold
pub record MayBeHeld (standard : Standard) (names files : List (List ℕ)) (holds : Option Files) (contents : Contents) : Type 0 where
  pub outside : Files
  pub held : (told : Files) → holds ≡ Some told → outside ≡ told
  pub agrees : Agrees standard names files outside contents

pub may-be-held : {standard : Standard} {names files : List (List ℕ)} (holds : Option Files) {contents : Contents} → AreContents standard names files holds contents → MayBeHeld standard names files holds contents
may-be-held None are = record { outside = are.some.0; held = λ told is. absurd (none-some told is); agrees = are.some.1 }
may-be-held (Some told) are = record { outside = told; held = λ other is. same_Some told other is; agrees = are.told told refl }
