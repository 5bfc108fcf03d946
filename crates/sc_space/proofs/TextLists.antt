-- What the texts of a space file define: each has one answer, and a list stands on one line.
use Rattle.std.proofs.Common.{◌≡◌, ℕ, zero, suc, ◌-◌, ◌||◌, Bool, true, false, List, [], ◌∷◌, All, length, map, take, drop, Option, Some, None, Result, Ok, Err, refl, sym, ap, subst, ◌∙◌, if◌then◌else◌}
use Rattle.std.proofs.lemmas.Bool.{and_parts, or_parts, and_from}
use Rattle.std.proofs.lemmas.List.Elements.{All-cons, All-nil, All-tail}
use Rattle.std.proofs.lemmas.Option.{same_Some}
use Rattle.std.proofs.lemmas.List.{drop-map, length-map, take-map}
use Rattle.std.specs.List.{list_all, list_any}
use Rattle.std.specs.Option.{option_and_then, option_map}
use Rattle.std.specs.Prelude.{slice_get, unwrap_or}
use Rattle.std.specs.Result.{result_ok}
use Rattle.c11_macros.proofs.OneLineLists.{PlainItem, PlainToken, reads-one_line}
use Rattle.c11_macros.specs.Defines.{Defined, reads}
use Rattle.c11_macros.specs.Macros.{IsOneLineList, Replacement, items, file_name, line_number}
use Rattle.c11_tokens.proofs.LexLaws.{lexes-unique}
use Rattle.c11_tokens.proofs.PlainLaws.{lexed-plain}
use Rattle.c11_tokens.proofs.SomeAnswer.{lexed-some}
use Rattle.c11_tokens.specs.Lex.{Lexed, is_newline}
use Rattle.sc_base.specs.declared.token.Token as base
use Rattle.sc_base.specs.Seen.{position_of, seen, text_at}
use Rattle.sc_lex.specs.Spell.{lexeme_at}
use Rattle.sc_macro.specs.declared.definition.Definition as macro
use Rattle.sc_macro.specs.Reads.{Reads}
use Rattle.sc_macro.specs.Seen.{seen_replacement}
use Rattle.sc_model.specs.declared.cause.Cause.{Cause}
use Rattle.sc_model.specs.Bytes.{has_no_newline}
use Rattle.sc_model.specs.Token.{Item, Lexeme, Position, Token, in_file}
use Rattle.sc_model.specs.declared.standard.Standard.TheVariants.{C11}
use Rattle.sc_space.specs.Texts.{AreTexts, Texts, define_line, line_defines, list_defined, list_of}

-- ---- each text has one answer

unfoldable pub the_texts : Texts
the_texts name text = option_and_then line_defines (result_ok (lexed-some (define_line name text)).0)

pub are_texts : AreTexts the_texts
unfolding the_texts
are_texts = record {
  each = λ name text r lexed. ap (λ s. option_and_then line_defines (result_ok s)) (lexes-unique (lexed-some (define_line name text)).1 lexed);
}

-- ---- a list stands on one line

abbrev is_plain : Lexeme → Bool
is_plain t = is_newline t.kind || has_no_newline t.spelling

abbrev ends_line : Lexeme → Bool
ends_line t = is_newline t.kind

all-take : {A : Type 0} (test : A → Bool) (n : ℕ) (xs : List A) → list_all test xs ≡ true → list_all test (take n xs) ≡ true
all-take test zero xs all = refl
all-take test (suc n) [] all = refl
all-take test (suc n) (x ∷ xs) all = let parts = and_parts (test x) (list_all test xs) all in and_from _ _ parts.0 (all-take test n xs parts.1)

tokens-plain : (ts : List Lexeme) → list_all is_plain ts ≡ true → list_any ends_line ts ≡ false → All PlainToken (map (in_file []) ts)
tokens-plain [] plain none = All-nil PlainToken
tokens-plain (t ∷ ts) plain none =
    let (first, others) = and_parts (is_plain t) (list_all is_plain ts) plain in
    let (here, later) = or_parts (ends_line t) (list_any ends_line ts) none in
    let spelled : has_no_newline t.spelling ≡ true = sym (ap (λ b. b || has_no_newline t.spelling) here) ∙ first in
    All-cons PlainToken (in_file [] t) (map (in_file []) ts) spelled (tokens-plain ts others later)

behind-plain : (ts : List Lexeme) → All PlainToken (map (in_file []) ts) → All PlainToken (map (in_file []) (drop 2 ts))
behind-plain [] plain = All-nil PlainToken
behind-plain (a ∷ []) plain = All-nil PlainToken
behind-plain (a ∷ (b ∷ ts)) plain =
    All-tail PlainToken (in_file [] b) (map (in_file []) ts) (All-tail PlainToken (in_file [] a) (map (in_file []) (b ∷ ts)) plain)

list-plain : (r : Replacement) (list : List Item) → list_of r ≡ Some list → IsOneLineList r → All PlainItem list
list-plain (items given) list is plain = subst (All PlainItem) (same_Some _ _ is) plain
list-plain file_name list is plain = absurd (cc)
list-plain line_number list is plain = absurd (cc)

defined-plain : (tokens : List Token) (r : Result Defined Cause) (list : List Item) → All PlainToken tokens → reads C11 tokens ≡ r → option_and_then (λ (d : Defined). list_of d.definition.replacement) (result_ok r) ≡ Some list
    → All PlainItem list
defined-plain tokens (Ok d) list plain read is = list-plain d.definition.replacement list is (reads-one_line C11 tokens d plain read)
defined-plain tokens (Err cause) list plain read is = absurd (cc)

line-plain : (ts : List Lexeme) (list : List Item) → list_all is_plain ts ≡ true → line_defines ts ≡ Some list → All PlainItem list
line-plain ts list plain is = by (list_any ends_line line) refl is
  where
    line : List Lexeme
    line = take (length ts - 1) ts

    by : (b : Bool) → list_any ends_line line ≡ b → (if b then None else list_defined line) ≡ Some list → All PlainItem list
    by true any is = absurd (cc)
    by false none is = defined-plain (map (in_file []) (drop 2 line)) _ list (behind-plain line (tokens-plain line (all-take is_plain (length ts - 1) ts plain) none)) refl is

pub text-plain : (texts : Texts) → AreTexts texts → (name text : List ℕ) (list : List Item) → texts name text ≡ Some list → All PlainItem list
text-plain texts are name text list is = by (lexed-some (define_line name text)).0 (lexed-some (define_line name text)).1
  where
    by : (r : Result (List Lexeme) Position) → Lexed (define_line name text) r → All PlainItem list
    by (Ok ts) lexed = line-plain ts list (lexed-plain (define_line name text) ts lexed) (sym (are.each name text (Ok ts) lexed) ∙ is)
    by (Err p) lexed = let none : None ≡ Some list = sym (are.each name text (Err p) lexed) ∙ is in absurd (cc)

-- ---- the tokens of a line as the code has them

no_text : (id : ℕ) → text_at [] id ≡ []
no_text zero = refl
no_text (suc id) = refl

seen-lexeme : (names : List (List ℕ)) (t : base.Token) (l : Lexeme) → lexeme_at names t ≡ Some l → seen names [] t ≡ in_file [] l
seen-lexeme names t l at = ap (λ (file : List ℕ). record { kind = t.kind; spelling = text_at names t.spelling.0; space = t.space; place = record { file = file; position = position_of t.place } }) (no_text t.place.file.0) ∙ by (slice_get names t.spelling.0) at
  where
    by : (o : Option (List ℕ)) → option_map (λ s. record { kind = t.kind; spelling = s; space = t.space; position = position_of t.place }) o ≡ Some l
        → record { kind = t.kind; spelling = unwrap_or o []; space = t.space; place = record { file = []; position = position_of t.place } } ≡ in_file [] l
    by None at = absurd (cc)
    by (Some s) at = ap (in_file []) (same_Some _ _ at)

pub seen-line : (names : List (List ℕ)) (ts : List base.Token) (ls : List Lexeme) → map (lexeme_at names) ts ≡ map Some ls → map (seen names []) ts ≡ map (in_file []) ls
seen-line names [] [] each = refl
seen-line names [] (l ∷ ls) each = absurd (cc)
seen-line names (t ∷ ts) [] each = absurd (cc)
seen-line names (t ∷ ts) (l ∷ ls) each =
    let first : lexeme_at names t ≡ Some l = cc in
    let others : map (lexeme_at names) ts ≡ map Some ls = cc in
    let here = seen-lexeme names t l first in
    let later = seen-line names ts ls others in
    cc

pub ends-line : (names : List (List ℕ)) (ts : List base.Token) (ls : List Lexeme) → map (lexeme_at names) ts ≡ map Some ls → list_any (λ (t : base.Token). is_newline t.kind) ts ≡ list_any ends_line ls
ends-line names [] [] each = refl
ends-line names [] (l ∷ ls) each = absurd (cc)
ends-line names (t ∷ ts) [] each = absurd (cc)
ends-line names (t ∷ ts) (l ∷ ls) each =
    let first : lexeme_at names t ≡ Some l = cc in
    let others : map (lexeme_at names) ts ≡ map Some ls = cc in
    let here : is_newline t.kind ≡ is_newline l.kind = ap (λ (u : Token). is_newline u.kind) (seen-lexeme names t l first) in
    let later = ends-line names ts ls others in
    ap (λ b. b || list_any (λ (t : base.Token). is_newline t.kind) ts) here ∙ ap (λ b. ends_line l || b) later

-- what a line defines, as the code reads it
module _ (names : List (List ℕ)) (line : List base.Token) (ts : List Lexeme) (each : map (lexeme_at names) line ≡ map Some ts) where
  abbrev list_from : Result Defined Cause → Option (List Item)
  list_from r = option_and_then (λ (d : Defined). list_of d.definition.replacement) (result_ok r)

  behind : map (seen names []) (drop 2 line) ≡ map (in_file []) (drop 2 ts)
  behind = sym (drop-map (seen names []) 2 line) ∙ (ap (drop 2) (seen-line names line ts each) ∙ drop-map (in_file []) 2 ts)

  pub defines-list : (d : macro.Definition) → Reads C11 names line d → list_of (seen_replacement names d.replacement) ≡ list_defined ts
  defines-list d read = sym (ap list_from (read [])) ∙ ap (λ (tokens : List Token). list_from (reads C11 tokens)) behind

  pub defines-nothing : (cause : Cause) → ((files : List (List ℕ)) → reads C11 (map (seen names files) (drop 2 line)) ≡ Err cause) → None ≡ list_defined ts
  defines-nothing cause read = sym (ap list_from (read [])) ∙ ap (λ (tokens : List Token). list_from (reads C11 tokens)) behind

-- the line without the token at its end
pub front-lexemes : (names : List (List ℕ)) (tokens : List base.Token) (ts : List Lexeme) (n : ℕ) → map (lexeme_at names) tokens ≡ map Some ts → map (lexeme_at names) (take n tokens) ≡ map Some (take n ts)
front-lexemes names tokens ts n each = sym (take-map (lexeme_at names) n tokens) ∙ (ap (take n) each ∙ take-map Some n ts)

pub same-length : (names : List (List ℕ)) (tokens : List base.Token) (ts : List Lexeme) → map (lexeme_at names) tokens ≡ map Some ts → length tokens ≡ length ts
same-length names tokens ts each = sym (length-map tokens (lexeme_at names)) ∙ (ap length each ∙ length-map ts Some)

module _ (names : List (List ℕ)) (tokens : List base.Token) (ts : List Lexeme) (each : map (lexeme_at names) tokens ≡ map Some ts) where
  pub front-each : map (lexeme_at names) (take (length tokens - 1) tokens) ≡ map Some (take (length ts - 1) ts)
  front-each = front-lexemes names tokens ts (length tokens - 1) each ∙ ap (λ (n : ℕ). map Some (take (n - 1) ts)) (same-length names tokens ts each)

  ends : list_any (λ (t : base.Token). is_newline t.kind) (take (length tokens - 1) tokens) ≡ list_any ends_line (take (length ts - 1) ts)
  ends = ends-line names (take (length tokens - 1) tokens) (take (length ts - 1) ts) front-each

  pub defines-more : list_any (λ (t : base.Token). is_newline t.kind) (take (length tokens - 1) tokens) ≡ true → None ≡ line_defines ts
  defines-more any = sym (ap (λ b. if b then None else list_defined (take (length ts - 1) ts)) (sym ends ∙ any))

  pub defines-line : list_any (λ (t : base.Token). is_newline t.kind) (take (length tokens - 1) tokens) ≡ false → list_defined (take (length ts - 1) ts) ≡ line_defines ts
  defines-line none = sym (ap (λ b. if b then None else list_defined (take (length ts - 1) ts)) (sym ends ∙ none))
