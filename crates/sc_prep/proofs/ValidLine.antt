-- The line of a space's text, as the walk reads it.
use Rattle.std.proofs.Common.{◌≡◌, ℕ, zero, suc, ◌+◌, ◌<◌, ◌≤◌, ◌++◌, Bool, true, false, All, AllPairs, List, [], ◌∷◌, length, map, take, None, Some, Err, refl, sym, ap, ◌∙◌, subst, arith, slice_get}
use Rattle.std.proofs.lemmas.Bool.Decides.{nat_tests}
use Rattle.std.specs.List.{position_or_len}
use Rattle.std.specs.Prelude.{cond, if◌then◌else◌, nat_lt, not, slice_index}
use Rattle.c11_directives.proofs.IfLines.{if-asks}
use Rattle.c11_directives.proofs.ListedLaws.{says-unique}
use Rattle.c11_directives.specs.Footprints.{ValidHas, of_head}
use Rattle.c11_directives.specs.Listed.{HasOpenComment, IsRefusedBy, IsValidLine, if_bytes, if_line, unread, up_to}
use Rattle.sc_lex.proofs.SeenLemmas.{tokens-seen}
use Rattle.sc_model.specs.Cause.{code_of}
use Rattle.sc_model.specs.Sets.{HasOptions}
use Rattle.sc_model.specs.Token as model
use Rattle.sc_prep.proofs.ApartLemmas.{apart-left, pairs-map, pairs-unmap}
use Rattle.sc_prep.proofs.Contents.{IsPlaced-later, tokens-later}
use Rattle.sc_prep.proofs.Facts.{All-weaker, Extends-refl, get_or_append_left, length-append, length-map, take_all}
use Rattle.sc_prep.proofs.FileTokens.{file-placed}
use Rattle.sc_prep.specs.New.{IsNew}
use Rattle.sc_prep.proofs.Positions.{lexed-apart}
use Rattle.sc_prep.proofs.Stopping.{here_at, stops-as}
use Rattle.sc_prep.proofs.Terms.{AreTokensOf, AskedHas, Expression, Extends, FileId, IsConfig, IsHeld, IsPlaced, Line, OutOfMemory, Sets, Space, StandApart, Stop, StopsAtPlace, StopsBy, StopsStage, Token, UnterminatedComment, Walk, arities_of, in_file, initial_state, is_newline, line_of, position, seen, seen_line, start, test_of}
use Rattle.sc_prep.specs.declared.valid.ValidStop.TheVariants as valid
use Rattle.sc_prep.specs.declared.valid.ValidStop.{ValidStop}
use Rattle.sc_prep.specs.Valid.{FailsValid, RefusesText}

-- ---- what stands before the first that passes

module _ {A : Type 0} (test : A → Bool) where
  up_to-map : {B : Type 0} (f : B → A) (xs : List B) → map f (up_to (λ x. test (f x)) xs) ≡ up_to test (map f xs)
  up_to-map f [] = refl
  up_to-map f (x ∷ xs) = by (test (f x)) (up_to-map f xs)
    where
      by : (b : Bool) → map f (up_to (λ y. test (f y)) xs) ≡ up_to test (map f xs)
          → map f (if b then [] else x ∷ up_to (λ y. test (f y)) xs) ≡ (if b then [] else f x ∷ up_to test (map f xs))
      by true same = refl
      by false same = ap (λ ys. f x ∷ ys) same

  -- it is the front of the list
  front : (xs : List A) → (rest : List A) × (xs ≡ up_to test xs ++ rest)
  front [] = ([], refl)
  front (x ∷ xs) = by (test x) (front xs)
    where
      by : (b : Bool) → (rest : List A) × (xs ≡ up_to test xs ++ rest) → (rest : List A) × (x ∷ xs ≡ (if b then [] else x ∷ up_to test xs) ++ rest)
      by true more = (x ∷ xs, refl)
      by false more = (more.0, ap (λ ys. x ∷ ys) more.1)

  up_to-All : (P : A → Type 0) (xs : List A) → All P xs → All P (up_to test xs)
  up_to-All P xs all =
      let more = front xs in
      λ k d below.
      subst P (get_or_append_left (up_to test xs) more.0 d k below)
      (subst (All P) more.1 all k d (omega (arith, length-append (up_to test xs) more.0, below)))

  up_to-take : (xs : List A) → take (position_or_len test xs) xs ≡ up_to test xs
  up_to-take [] = refl
  up_to-take (x ∷ xs) = by (test x) (position_or_len test xs) (up_to-take xs)
    where
      by : (b : Bool) (n : ℕ) → take n xs ≡ up_to test xs → take (cond (not b) (1 + n) 0) (x ∷ xs) ≡ (if b then [] else x ∷ up_to test xs)
      by true n same = refl
      by false n same = let one : 1 + n ≡ suc n = omega arith in rw one (ap (λ ys. x ∷ ys) same)

  -- by the index of the first that passes
  pub up_to-first : (xs : List A) (n : ℕ) → position test xs ≡ Some n → take n xs ≡ up_to test xs
  up_to-first xs n is = ap (λ k. take k xs) (by (nat_lt (position_or_len test xs) (length xs)) is) ∙ up_to-take xs
    where
      by : (b : Bool) → cond b (Some (position_or_len test xs)) None ≡ Some n → n ≡ position_or_len test xs
      by true at = cc
      by false at = absurd (cc)

  -- none passes
  pub up_to-none : (xs : List A) → position test xs ≡ None → xs ≡ up_to test xs
  up_to-none xs is = sym (take_all (position_or_len test xs) xs (by (nat_lt (position_or_len test xs) (length xs)) refl is)) ∙ up_to-take xs
    where
      by : (b : Bool) → nat_lt (position_or_len test xs) (length xs) ≡ b → cond b (Some (position_or_len test xs)) None ≡ None
          → length xs ≤ position_or_len test xs
      by true below at = absurd (cc)
      by false below at = grind (arith, nat_tests)

-- ---- a text that has a comment without an end

zero-at : (ns : List ℕ) (v : ℕ) → slice_index (map (λ (n : ℕ). 0) ns) v ≡ 0
zero-at [] zero = refl
zero-at [] (suc v) = refl
zero-at (n ∷ ns) zero = refl
zero-at (n ∷ ns) (suc v) = zero-at ns v

-- each variable has a first option
first-formed : (ns : List ℕ) → HasOptions ns → IsConfig ns (map (λ (n : ℕ). 0) ns)
first-formed ns has = record { long = length-map ns (λ (n : ℕ). 0); each = λ v h. let none = zero-at ns v in let some = has.each v h in omega arith }

module _ (space : Space) (limit : ℕ) where
  -- then all configurations are refused
  refused-unread : HasOptions (arities_of space) → HasOpenComment space → IsRefusedBy space UnterminatedComment
  refused-unread has comment = record {
    config = map (λ (n : ℕ). 0) (arities_of space);
    formed = first-formed (arities_of space) has;
    says = unread comment;
    least = λ other lower formed below said.
        let same : Err lower ≡ Err UnterminatedComment = says-unique space said (unread comment) in
        let is : lower ≡ UnterminatedComment = cc in
        omega (arith, below, ap code_of is);
  }

  pub fails-memory : FailsValid space limit (valid.Stop OutOfMemory)
  fails-memory = (tt, tt)

  pub fails-text : HasOptions (arities_of space) → (text : List ℕ) → space.valid ≡ Some text → (stop : ValidStop) → RefusesText text stop
      → FailsValid space limit stop
  fails-text has text present (valid.Fault cause) refused =
      subst (IsRefusedBy space) (sym refused.0) (refused-unread has (record { text = text; place = refused.1.0; present = present; refused = refused.1.1 }))
  fails-text has text present (valid.Stop stop) is = subst (λ s. FailsValid space limit (valid.Stop s)) (sym is) fails-memory

-- ---- its tokens

module _ (space : Space) (text : List ℕ) (present : space.valid ≡ Some text) (files : List (List ℕ)) {names more : List (List ℕ)} {file : FileId}
    (grows : Extends names more) (there : file.0 < length files) (named : slice_get files file.0 ≡ Some []) (ts : List Token)
    (are : AreTokensOf names file (if_bytes text) ts) (held : All (IsHeld names) ts) where
  abbrev first_line : List Token
  first_line = up_to (λ (t : Token). is_newline t.kind) ts

  abbrev line : Line
  line = seen_line space.standard more files first_line

  placed : All (IsPlaced names (length files)) ts
  placed = file-placed names file (if_bytes text) ts are (length files) there held

  pub valid-placed : All (IsPlaced more (length files)) first_line
  valid-placed = up_to-All (λ (t : Token). is_newline t.kind) (IsPlaced more (length files)) ts
      (All-weaker (IsPlaced names (length files)) (IsPlaced more (length files)) (IsPlaced-later grows (Extends-refl files)) ts placed)

  tokens-are : map (seen more files) ts ≡ map (in_file []) are.lexemes
  tokens-are = tokens-later grows (Extends-refl files) ts placed ∙ tokens-seen names files file [] (if_bytes text) ts are named

  line-is : line ≡ if_line space.standard are.lexemes
  line-is =
      let ends : model.Token → Bool = λ t. is_newline t.kind in
      ap (line_of space.standard) (up_to-map ends (seen more files) ts ∙ (ap (up_to ends) tokens-are ∙ sym (up_to-map ends (in_file []) are.lexemes)))

  pub valid-line : IsValidLine space line
  valid-line = record { text = text; tokens = are.lexemes; present = present; lexed = are.lexed; is = line-is }

  pub valid-asks : test_of line ≡ Some Expression
  valid-asks = ap test_of line-is ∙ if-asks space.standard text are.lexemes are.lexed

  apart : StandApart first_line
  apart =
      let R : model.Token → model.Token → Type 0 = λ t u. t.place.position ≡ u.place.position → ⊥ in
      let lexemes = pairs-map R (in_file []) are.lexemes (lexed-apart (if_bytes text) are.lexemes are.lexed) in
      let whole : StandApart ts = pairs-unmap R (seen more files) ts (subst (AllPairs R) (sym tokens-are) lexemes) in
      let rest = front (λ (t : Token). is_newline t.kind) ts in
      apart-left first_line rest.0 (subst StandApart rest.1 whole)

  -- too many footprints of the expression are as many of the line, before any file
  pub fails-expression : {s : Sets} {walk : Walk} → IsNew s space more walk → (all limit : ℕ) (stop : Stop)
      → StopsStage s more files walk first_line (AskedHas s all line) limit stop → FailsValid space limit (valid.Stop stop)
  fails-expression fresh all limit stop stops = (
    subst (λ arities. StopsBy arities limit stop) fresh.arities stops.by,
    subst (λ arities. StopsAtPlace arities (ValidHas space) limit stop) fresh.arities (stops-as here_at (ValidHas space) limit stop (λ config f listed comes.
        let asked = comes (start (initial_state space [] config)) (fresh.starts (Extends-refl _) _ [] config listed) tt in
        record { line = line; is_line = valid-line; outside = refl; has = of_head asked.1 }) (stops.at_place apart)),
  )
