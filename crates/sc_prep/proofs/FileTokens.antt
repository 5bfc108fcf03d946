-- The tokens of a file, and that what comes of them can be shown.
use Rattle.std.proofs.Common.{◌≡◌, ℕ, ◌<◌, ◌≤◌, ◌||◌, true, List, [], ◌∷◌, All, length, map, Option, Some, None, sym, ap, ◌∙◌, subst, arith, slice_get}
use Rattle.sc_base.specs.declared.fault.Fault as base
use Rattle.sc_prep.proofs.Facts.{All-cons, All-nil, All-weaker, and_parts, length-map, lexed-plain}
use Rattle.sc_prep.proofs.Terms.{AllPass, AreApart, ArePlaced, ArePlainPaths, AreTokensOf, CanBeShown, Fault, FileId, IsHeld, IsPlaced, IsPlainOrNewline, Lexeme, OwnsList, Prepared, Sets, Token, faults_at, has_no_newline, is_newline, is_plain, lexeme_at, list_all, option_map, option_to_list, position_of, seen_fault, unwrap_or}

-- what the token's spelling is like, seen through the table
plain_by : (t : Token) (l : Lexeme) (o : Option (List ℕ)) → option_map (λ s. record { kind = t.kind; spelling = s; space = t.space; position = position_of t.place }) o ≡ Some l
    → (is_newline t.kind || has_no_newline (unwrap_or o [])) ≡ (is_newline l.kind || has_no_newline l.spelling)
plain_by t l None e = cc
plain_by t l (Some s) e = ap (λ (o : Option Lexeme). is_newline (unwrap_or o l).kind || has_no_newline (unwrap_or o l).spelling) e

module _ (names : List (List ℕ)) (file : FileId) where
  spelled-plain : (ls : List Lexeme) (ts : List Token) → map (lexeme_at names) ts ≡ map Some ls
      → list_all (λ (l : Lexeme). is_newline l.kind || has_no_newline l.spelling) ls ≡ true → All (IsPlainOrNewline names) ts
  spelled-plain ls [] e plain = All-nil (IsPlainOrNewline names)
  spelled-plain [] (t ∷ ts) e plain = cc
  spelled-plain (l ∷ ls) (t ∷ ts) e plain =
      let first : lexeme_at names t ≡ Some l = cc in
      let others : map (lexeme_at names) ts ≡ map Some ls = cc in
      let p = and_parts (is_newline l.kind || has_no_newline l.spelling) (list_all (λ (l : Lexeme). is_newline l.kind || has_no_newline l.spelling) ls) plain in
      All-cons (IsPlainOrNewline names) t ts (plain_by t l (slice_get names t.spelling.0) first ∙ p.0) (spelled-plain ls ts others p.1)

  module _ (bytes : List ℕ) (ts : List Token) (are : AreTokensOf names file bytes ts) where
    -- the tokens of a file are spelled on one line, but for newlines
    pub file-plain : All (IsPlainOrNewline names) ts
    file-plain = spelled-plain are.lexemes ts are.spell.each (lexed-plain bytes are.lexemes are.lexed)

    -- and stand in it
    pub file-in : (P : FileId → Type 0) → P file → All (λ (t : Token). P t.place.file) ts
    file-in P here = All-weaker (λ (t : Token). t.place.file ≡ file) (λ (t : Token). P t.place.file) (λ t e. subst P (sym e) here) ts are.spell.placed

    pub file-placed : (files : ℕ) → file.0 < files → All (IsHeld names) ts → All (IsPlaced names files) ts
    file-placed files there held = λ k d h. record { held = held k d h; file = file-in (λ f. f.0 < files) there k d h }

-- all that stands in files of the table can be shown
pub all-shown : (s : Sets) (names files : List (List ℕ)) (p : Prepared) → OwnsList s p → ArePlaced names (length files) p.list → All (λ (f : base.Fault). f.place.file.0 < length files) p.faults.items → AllPass (is_plain names) p.list → AreApart s p.faults.items
    → ArePlainPaths files → CanBeShown s names files p
all-shown s names files p owns placed there plain apart paths = record {
  list = λ k d h. record { own = owns.list k d h; held = (placed k d h).held; file = (placed k d h).file; plain = plain k d h };
  faults = λ k d h. record { own = owns.faults k d h; file = there k d h };
  apart = apart;
  paths = paths;
}

-- a configuration has one fault at most where its walk has
few_of : (o : Option Fault) → length (option_to_list o) ≤ 1
few_of None = omega arith
few_of (Some f) = omega arith

pub faults-few : (s : Sets) (files : List (List ℕ)) (faults : List base.Fault) (config : List ℕ) (o : Option Fault) → map (seen_fault files) (faults_at s faults config) ≡ option_to_list o
    → length (faults_at s faults config) ≤ 1
faults-few s files faults config o e =
    let same = ap (length {A = Fault}) e in
    omega (arith, few_of o, same, length-map (faults_at s faults config) (seen_fault files))
