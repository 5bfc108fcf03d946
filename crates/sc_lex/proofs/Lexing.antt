-- One piece after another, the tokens of a file.
use Rattle.std.proofs.Common.{◌≡◌, ℕ, ◌+◌, ◌<◌, ◌≤◌, Bool, true, false, List, [], ◌∷◌, ◌++◌, length, take, drop, Result, Ok, Err, Some, slice_get, refl, sym, ap, ◌∙◌, subst, arith, append_assoc, append-nil, length-drop}
use Rattle.std.specs.Option.{option_map}
use Rattle.std.proofs.lemmas.List.{drop-map, drop-drop, length-map}
use Rattle.sc_base.specs.declared.id.FileId.{FileId}
use Rattle.sc_base.specs.declared.place.Place.{Place}
use Rattle.sc_model.specs.declared.kind.Kind.{Kind}
use Rattle.sc_model.specs.Growth.{Extends}
use Rattle.sc_model.specs.Token.{Position, Lexeme, name_of}
use Rattle.c11_tokens.specs.Lex.{PieceKind, token, Marked, bytes_of, IsLongest, IsUnended, is_white, is_newline, line_after, with_first, Lexes, nothing, white, piece, unended, Lexed, phase_2}
use Rattle.sc_base.specs.declared.token.Token.{Token}
use Rattle.sc_lex.specs.declared.line.LineSoFar.{LineSoFar}
use Rattle.sc_lex.specs.Line.{so_far_of}
use Rattle.sc_base.specs.Seen.{position_of}
use Rattle.sc_lex.specs.Spell.{lexeme_at, Spell, AreTokensOf, IsUnendedAt}
use Rattle.sc_lex.proofs.Spells.{Spell-Extends, Spell-none, Spell-push}

-- these tokens first
abbrev with_all : List Lexeme → Result (List Lexeme) Position → Result (List Lexeme) Position
with_all ls (Ok rest) = Ok (ls ++ rest)
with_all ls (Err e) = Err e

-- The tokens so far, where this text is left: whatever it lexes to completes them.
pub record LexedSoFar (names : List (List ℕ)) (file : FileId) (bytes text : List ℕ) (so_far : LineSoFar) (space : Bool) (left : List Marked) (offset : ℕ) (ts : List Token) : Type 0 where
  pub lexemes : List Lexeme
  pub line : List (List ℕ)
  pub spell : Spell names file lexemes ts
  pub so_far_is : so_far_of line ≡ so_far
  pub left_is : bytes_of left ≡ drop offset text
  pub completes : (r : Result (List Lexeme) Position) → Lexes line space left r → Lexed bytes (with_all lexemes r)

with_all-none : (r : Result (List Lexeme) Position) → with_all [] r ≡ r
with_all-none (Ok rest) = refl
with_all-none (Err e) = refl

with_all-push : (ls : List Lexeme) (l : Lexeme) (r : Result (List Lexeme) Position) → with_all ls (with_first l r) ≡ with_all (ls ++ l ∷ []) r
with_all-push ls l (Ok rest) = ap (λ xs. Ok xs) (sym (append_assoc ls (l ∷ []) rest))
with_all-push ls l (Err e) = refl

-- the rules, where the bytes that are left are known
module _ (line : List (List ℕ)) (space : Bool) (bs : List ℕ) (some : 0 < length bs) where
  white-lexes : (left : List Marked) (n : ℕ) (kind : PieceKind) (r : Result (List Lexeme) Position) → bytes_of left ≡ bs → is_white kind ≡ true → IsLongest line bs kind n
      → Lexes line true (drop n left) r → Lexes line space left r
  white-lexes [] n kind r is w longest rest = let none = ap length is in absurd (omega arith)
  white-lexes (m ∷ ms) n kind r is w longest rest = white n kind w (subst (λ xs. IsLongest line xs kind n) (sym is) longest) rest

  piece-lexes : (left : List Marked) (n : ℕ) (kind : Kind) (p : Position) (r : Result (List Lexeme) Position) → bytes_of left ≡ bs
      → ((m : Marked) (ms : List Marked) → left ≡ m ∷ ms → m.position ≡ p) → IsLongest line bs (token kind) n
      → Lexes (line_after line kind (take n bs)) (is_newline kind) (drop n left) r
      → Lexes line space left (with_first (record { kind = kind; spelling = take n bs; space = space; position = p }) r)
  piece-lexes [] n kind p r is first longest rest = let none = ap length is in absurd (omega arith)
  piece-lexes (m ∷ ms) n kind p r is first longest rest =
      piece n kind (subst (λ xs. IsLongest line xs (token kind) n) (sym is) longest)
      (subst (λ xs. Lexes (line_after line kind (take n xs)) (is_newline kind) (drop n (m ∷ ms)) r) (sym is) rest)
      (ap (λ xs. with_first (record { kind = kind; spelling = take n xs; space = space; position = p }) r) (sym is)
      ∙ ap (λ q. with_first (record { kind = kind; spelling = take n (bytes_of (m ∷ ms)); space = space; position = q }) r) (sym (first m ms refl)))

  unended-lexes : (left : List Marked) (p : Position) → bytes_of left ≡ bs → ((m : Marked) (ms : List Marked) → left ≡ m ∷ ms → m.position ≡ p) → IsUnended bs → Lexes line space left (Err p)
  unended-lexes [] p is first u = let none = ap length is in absurd (omega arith)
  unended-lexes (m ∷ ms) p is first u = subst (λ q. Lexes line space (m ∷ ms) (Err q)) (first m ms refl) (unended (subst IsUnended (sym is) u))

pub nothing_yet : (names : List (List ℕ)) (file : FileId) (bytes text : List ℕ) (so_far : LineSoFar) (left : List Marked) → so_far_of [] ≡ so_far → left ≡ phase_2 bytes → text ≡ bytes_of (phase_2 bytes)
    → LexedSoFar names file bytes text so_far false left 0 []
nothing_yet names file bytes text so_far left start is text_is = record {
  lexemes = [];
  line = [];
  spell = Spell-none names file;
  so_far_is = start;
  left_is = ap bytes_of is ∙ sym text_is;
  completes = λ r lexes. subst (Lexed bytes) (sym (with_all-none r)) (subst (λ ms. Lexes [] false ms r) is lexes);
}

module _ {names : List (List ℕ)} {file : FileId} {bytes text : List ℕ} {so_far : LineSoFar} {space : Bool} {left : List Marked} {offset : ℕ} {ts : List Token}
    (so : LexedSoFar names file bytes text so_far space left offset ts) where
  -- the bytes that are left after a piece
  rest_is : (n : ℕ) (next : List Marked) → next ≡ drop n left → bytes_of next ≡ drop (offset + n) text
  rest_is n next is = ap bytes_of is ∙ sym (drop-map (λ m. m.byte) n left) ∙ ap (drop n) so.left_is ∙ drop-drop n offset text

  some_left : offset < length text → 0 < length (drop offset text)
  some_left within = omega (arith, length-drop offset text)

  pub after_white : (kind : PieceKind) (n : ℕ) (next : List Marked) → offset < length text → is_white kind ≡ true → ((line : List (List ℕ)) → so_far_of line ≡ so_far → IsLongest line (drop offset text) kind n)
      → next ≡ drop n left → LexedSoFar names file bytes text so_far true next (offset + n) ts
  after_white kind n next within w longest is = record {
    lexemes = so.lexemes;
    line = so.line;
    spell = so.spell;
    so_far_is = so.so_far_is;
    left_is = rest_is n next is;
    completes = λ r lexes. so.completes r (white-lexes so.line space (drop offset text) (some_left within) left n kind r so.left_is w (longest so.line so.so_far_is) (subst (λ ms. Lexes so.line true ms r) is lexes));
  }

  pub after_token : (new : List (List ℕ)) (t : Token) (kind : Kind) (n : ℕ) (p : Place) (next : List Marked) (so_far' : LineSoFar) → offset < length text
      → ((line : List (List ℕ)) → so_far_of line ≡ so_far → IsLongest line (drop offset text) (token kind) n)
      → ((line : List (List ℕ)) → so_far_of line ≡ so_far → so_far_of (line_after line kind (take n (drop offset text))) ≡ so_far')
      → ((m : Marked) (ms : List Marked) → left ≡ m ∷ ms → m.position ≡ position_of p) → next ≡ drop n left → Extends names new
      → lexeme_at new t ≡ Some (record { kind = kind; spelling = take n (drop offset text); space = space; position = position_of p })
      → slice_get new t.name.0 ≡ option_map name_of (slice_get new t.spelling.0) → t.place.file ≡ file
      → LexedSoFar new file bytes text so_far' (is_newline kind) next (offset + n) (ts ++ t ∷ [])
  after_token new t kind n p next so_far' within longest after first is grown spelled named placed = record {
    lexemes = so.lexemes ++ l ∷ [];
    line = line_after so.line kind (take n (drop offset text));
    spell = Spell-push l t (Spell-Extends so.spell grown) spelled named placed;
    so_far_is = after so.line so.so_far_is;
    left_is = rest_is n next is;
    completes = λ r lexes. subst (Lexed bytes) (with_all-push so.lexemes l r)
        (so.completes (with_first l r) (piece-lexes so.line space (drop offset text) (some_left within) left n kind (position_of p) r so.left_is first (longest so.line so.so_far_is)
        (subst (λ ms. Lexes (line_after so.line kind (take n (drop offset text))) (is_newline kind) ms r) is lexes)));
  }
    where
      l : Lexeme
      l = record { kind = kind; spelling = take n (drop offset text); space = space; position = position_of p }

  pub unended_here : (p : Place) → offset < length text → ((m : Marked) (ms : List Marked) → left ≡ m ∷ ms → m.position ≡ position_of p) → IsUnended (drop offset text) → p.file ≡ file → IsUnendedAt file bytes p
  unended_here p within first u in_file = record {
    lexed = so.completes (Err (position_of p)) (unended-lexes so.line space (drop offset text) (some_left within) left (position_of p) so.left_is first u);
    in_file = in_file;
  }

  pub all_lexed : length text ≤ offset → AreTokensOf names file bytes ts
  all_lexed past = record {
    lexemes = so.lexemes;
    lexed = subst (λ xs. Lexed bytes (Ok xs)) (append-nil so.lexemes) (so.completes (Ok []) (ends left (omega (arith, ap length so.left_is, length-drop offset text, length-map left (λ m. m.byte)))));
    spell = so.spell;
  }
    where
      ends : (left : List Marked) → length left ≤ 0 → Lexes so.line space left (Ok [])
      ends [] none = nothing
      ends (m ∷ ms) none = absurd (omega arith)

  pub still : (new : List (List ℕ)) → Extends names new → LexedSoFar new file bytes text so_far space left offset ts
  still new grown = record {
    lexemes = so.lexemes;
    line = so.line;
    spell = Spell-Extends so.spell grown;
    so_far_is = so.so_far_is;
    left_is = so.left_is;
    completes = so.completes;
  }
