-- The token that bytes are exactly, without translation phases 1 and 2 (C11 6.4). A header name is
-- none.
use Rattle.std.specs.Prelude.{ℕ, ◌||◌, List, [], ◌∷◌, Option, Some, None, if◌then◌else◌}
use Rattle.c11_tokens.specs.Lex.{is_white_space, is_comment, is_identifier, is_number, is_character, is_text, is_punctuator, is_one_byte}
use Rattle.sc_model.specs.declared.kind.Kind.{Kind}
use Rattle.sc_model.specs.declared.kind.Kind.TheVariants.{Identifier, Number, Character, Text, Punctuator, Other, Newline}
use Rattle.sc_model.specs.Bytes.{same_bytes}

abbrev pub relexed : List ℕ → Option Kind
relexed bytes =
    if is_white_space bytes || is_comment bytes then None
    else (if same_bytes bytes (10 ∷ []) then Some Newline
    else (if is_identifier bytes then Some Identifier
    else (if is_number bytes then Some Number
    else (if is_character bytes then Some Character
    else (if is_text bytes then Some Text
    else (if is_punctuator bytes then Some Punctuator
    else (if is_one_byte bytes then Some Other else None)))))))
