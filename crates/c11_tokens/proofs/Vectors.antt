-- The definitions, computed on examples.
use Rattle.std.proofs.Common.{◌≡◌, ℕ, List, [], ◌∷◌, map, true, false, refl, codes}
use Rattle.c11_tokens.specs.Lex.{Marked, bytes_of, phase_2, end_position, is_identifier, is_number, is_character, is_text, is_header, is_punctuator, is_comment}

-- the byte, its line and its column
abbrev shown : Marked → List ℕ
shown m = m.byte ∷ m.position.line ∷ m.position.column ∷ []

spliced : map shown (phase_2 (codes "in\\\nt x;\n"))
    ≡ (105 ∷ 1 ∷ 1 ∷ []) ∷ (110 ∷ 1 ∷ 2 ∷ []) ∷ (116 ∷ 2 ∷ 1 ∷ []) ∷ (32 ∷ 2 ∷ 2 ∷ []) ∷ (120 ∷ 2 ∷ 3 ∷ []) ∷ (59 ∷ 2 ∷ 4 ∷ []) ∷ (10 ∷ 2 ∷ 5 ∷ []) ∷ []
spliced = refl

trigraph-replaced : map shown (phase_2 (codes "??=x")) ≡ (35 ∷ 1 ∷ 1 ∷ []) ∷ (120 ∷ 1 ∷ 4 ∷ []) ∷ (10 ∷ 1 ∷ 5 ∷ []) ∷ []
trigraph-replaced = refl

trigraphs-all : bytes_of (phase_2 (codes "??=??(??/??)??'??<??!??>??-???=??x\n")) ≡ codes "#[\\]^{|}~?#??x\n"
trigraphs-all = refl

trigraph-spliced : bytes_of (phase_2 (codes "??=define??/\n Z 1\n")) ≡ codes "#define Z 1\n"
trigraph-spliced = refl

-- what replacing and splicing make is not looked at again
spliced-once : bytes_of (phase_2 (codes "\\\\\n\nn?\\\n?=\n")) ≡ codes "\\\nn??=\n"
spliced-once = refl

spliced-return : bytes_of (phase_2 (codes "a\\\r\nb\r\r\n")) ≡ codes "ab\r\n"
spliced-return = refl

return-last : bytes_of (phase_2 (codes "a\r")) ≡ codes "a\r\n"
return-last = refl

newline-stays : map shown (phase_2 (codes "a\\\n")) ≡ (97 ∷ 1 ∷ 1 ∷ []) ∷ (10 ∷ 1 ∷ 3 ∷ []) ∷ []
newline-stays = refl

end-spliced : end_position (codes "a\\\n") ≡ record { line = 2; column = 1 }
end-spliced = refl

end-supplied : end_position (codes "\n\na") ≡ record { line = 4; column = 1 }
end-supplied = refl

end-backslash : end_position (codes "a\\") ≡ record { line = 2; column = 1 }
end-backslash = refl

end-mark : end_position (239 ∷ 187 ∷ 191 ∷ []) ≡ record { line = 1; column = 1 }
end-mark = refl

number-exponent : is_number (codes "0x1e+2.f") ≡ true
number-exponent = refl

number-sign_elsewhere : is_number (codes "1+2") ≡ false
number-sign_elsewhere = refl

number-point : is_number (codes ".5") ≡ true
number-point = refl

identifier-universal : is_identifier (codes "a\\u00e9_1") ≡ true
identifier-universal = refl

identifier-cut_short : is_identifier (codes "a\\u00e") ≡ false
identifier-cut_short = refl

identifier-digit_first : is_identifier (codes "1a") ≡ false
identifier-digit_first = refl

character-escaped_quote : is_character (codes "L'\\''") ≡ true
character-escaped_quote = refl

character-empty : is_character (codes "''") ≡ false
character-empty = refl

text-empty : is_text (codes "u8\"\"") ≡ true
text-empty = refl

text-two : is_text (codes "\"a\"b\"") ≡ false
text-two = refl

header-angle : is_header (codes "<a\"b>") ≡ true
header-angle = refl

header-empty : is_header (codes "<>") ≡ false
header-empty = refl

punctuator-longest : is_punctuator (codes "%:%:") ≡ true
punctuator-longest = refl

comment-short : is_comment (codes "/*/") ≡ false
comment-short = refl

comment-whole : is_comment (codes "/* * /**/") ≡ true
comment-whole = refl

comment-two : is_comment (codes "/**/*/") ≡ false
comment-two = refl
