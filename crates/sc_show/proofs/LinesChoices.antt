-- The choices of a condition's line.
use Rattle.std.proofs.Common.{◌≡◌, ℕ, zero, suc, ◌+◌, ◌<◌, ◌==◌, ◌&&◌, ◌||◌, ◌/◌, ◌%◌, not, Bool, true, false, List, [], ◌∷◌, ◌++◌, length, map, take, get_or, refl, sym, ap, ◌∙◌, arith, append-nil, append_assoc, add-one, if◌then◌else◌}
use Rattle.std.specs.List.{list_all, list_any, flat_map}
use Rattle.std.specs.Fmt.{digits, digits_onto, digit_glyph}
use Rattle.std.proofs.lemmas.List.Concat.{flat_map-append}
use Rattle.std.proofs.lemmas.Bool.{true≢false}
use Rattle.std.proofs.lemmas.Bool.Decides.{nat_tests}
use Rattle.std.proofs.lemmas.List.{get_or-map, length-map}
use Rattle.sc_model.proofs.SpaceLemmas.{option_words-at}
use Rattle.sc_model.specs.Space as model
use Rattle.sc_model.specs.Space.{VariableOption, option_word, option_words, words_from}
use Rattle.sc_text.specs.Text.{choice_text, is_word, is_wordless}
use Rattle.sc_show.specs.Prints.{choices_of}
use Rattle.sc_space.specs.declared.option.VariableOption as code
use Rattle.sc_space.specs.Seen.{seen_option}

pub choices_of-nil : (os : List (List ℕ)) → choices_of os [] ≡ []
choices_of-nil [] = refl
choices_of-nil (o ∷ os) = refl

pub choices_of-take : (os : List (List ℕ)) (ns : List ℕ) (i : ℕ) (d : List ℕ) → i < length ns → length ns ≡ length os
    → choices_of os (take (suc i) ns) ≡ choices_of os (take i ns) ++ (get_or os i d, get_or ns i 0) ∷ []
choices_of-take [] [] i d h e = absurd (omega arith)
choices_of-take [] (n ∷ ns) i d h e = absurd (omega arith)
choices_of-take (o ∷ os) [] i d h e = absurd (omega arith)
choices_of-take (o ∷ os) (n ∷ ns) zero d h e = ap (λ r. (o, n) ∷ r) (choices_of-nil os)
choices_of-take (o ∷ os) (n ∷ ns) (suc i) d h e = (ap (λ r. (o, n) ∷ r) (choices_of-take os ns i d (omega arith) (omega arith)))

-- the text with one choice more
pub choices_text-take : (os : List (List ℕ)) (ns : List ℕ) (i : ℕ) (o : List ℕ) (t u v : List ℕ) → i < length ns → length ns ≡ length os → o ≡ get_or os i o
    → u ≡ t ++ flat_map choice_text (choices_of os (take i ns)) → v ≡ u ++ choice_text (o, get_or ns i 0)
    → v ≡ t ++ flat_map choice_text (choices_of os (take (i + 1) ns))
choices_text-take os ns i o t u v h e at before after =
    let one = ap (λ x. choice_text (x, get_or ns i 0)) at in
    let more = ap (flat_map choice_text) (choices_of-take os ns i o h e) ∙ flat_map-append choice_text (choices_of os (take i ns)) ((get_or os i o, get_or ns i 0) ∷ [])
    ∙ ap (λ r. flat_map choice_text (choices_of os (take i ns)) ++ r) (append-nil (choice_text (get_or os i o, get_or ns i 0))) in
    rw add-one (after ∙ ap (λ x. x ++ choice_text (o, get_or ns i 0)) before
    ∙ append_assoc t (flat_map choice_text (choices_of os (take i ns))) (choice_text (o, get_or ns i 0))
    ∙ ap (λ x. t ++ (flat_map choice_text (choices_of os (take i ns)) ++ x)) one ∙ ap (λ x. t ++ x) (sym more))

pub word-at : (options : List code.VariableOption) (i : ℕ) (o : code.VariableOption) → i < length options → o ≡ get_or options i o
    → option_word i (seen_option o) ≡ get_or (option_words (map seen_option options)) i (option_word i (seen_option o))
word-at options i o within is =
    sym (option_words-at i (map seen_option options) (option_word i (seen_option o)) (seen_option o) (omega (arith, length-map options seen_option))
    ∙ ap (option_word i) (get_or-map seen_option options i o (seen_option o) within ∙ ap seen_option (sym is)))

pub choices_text-nil : (os : List (List ℕ)) (text : List ℕ) → text ≡ text ++ flat_map choice_text (choices_of os [])
choices_text-nil os text = sym (append-nil text) ∙ ap (λ r. text ++ flat_map choice_text r) (sym (choices_of-nil os))

-- the numbers are those that were chosen
pub numbers-choices_of : (os : List (List ℕ)) (ns : List ℕ) → length ns ≡ length os → map (λ choice. choice.1) (choices_of os ns) ≡ ns
numbers-choices_of [] [] e = refl
numbers-choices_of [] (n ∷ ns) e = absurd (omega arith)
numbers-choices_of (o ∷ os) [] e = refl
numbers-choices_of (o ∷ os) (n ∷ ns) e = ap (λ r. n ∷ r) (numbers-choices_of os ns (omega arith))

-- no byte that ends a word, and no colon
abbrev is_wide : ℕ → Bool
is_wide b = not (is_wordless b) && not (b == 58)

pub both : {a b : Bool} → a ≡ true → b ≡ true → (a && b) ≡ true
both {a} {b} p q = rw (p, q) refl

wide_glyph : (d : ℕ) → d < 10 → is_wide (digit_glyph false d) ≡ true
wide_glyph d h = grind (arith, nat_tests)

wide_digits : (k n : ℕ) (acc : List ℕ) → list_all is_wide acc ≡ true → list_all is_wide (digits_onto k 10 false n acc) ≡ true
wide_digits zero n acc h = h
wide_digits (suc k) n acc h = by (n / 10 == 0) (wide_digits k (n / 10) _ more)
  where
    more : list_all is_wide (digit_glyph false (n % 10) ∷ acc) ≡ true
    more = both (wide_glyph (n % 10) (omega arith)) h

    by : (b : Bool) → list_all is_wide (digits_onto k 10 false (n / 10) (digit_glyph false (n % 10) ∷ acc)) ≡ true → list_all is_wide (if b then digit_glyph false (n % 10) ∷ acc else digits_onto k 10 false (n / 10) (digit_glyph false (n % 10) ∷ acc)) ≡ true
    by true rest = more
    by false rest = rest

wide_option : (k : ℕ) (o : VariableOption) → list_all is_wide (option_word k o) ≡ true
unfolding digits
wide_option k model.undefined = refl
wide_option k (model.number n) = wide_digits 64 n [] refl
wide_option k (model.text bytes list) = both refl (wide_digits 64 k [] refl)

-- six pieces after one another
pub joined : (t t1 t2 t3 t4 t5 t6 a b c d e f : List ℕ) → t1 ≡ t ++ a → t2 ≡ t1 ++ b → t3 ≡ t2 ++ c → t4 ≡ t3 ++ d → t5 ≡ t4 ++ e → t6 ≡ t5 ++ f → t6 ≡ t ++ (a ++ b ++ c ++ d ++ e ++ f)
joined t t1 t2 t3 t4 t5 t6 a b c d e f h1 h2 h3 h4 h5 h6 = simp (h6, h5, h4, h3, h2, h1, append_assoc)

-- a text of such bytes is a word without a colon
word_wide : (text : List ℕ) → list_all is_wide text ≡ true → (is_word text && not (list_any (λ b. b == 58) text)) ≡ true
word_wide [] h = refl
word_wide (b ∷ bs) h = by (is_wordless b) (b == 58) (list_all is_wide bs) (list_any is_wordless bs) (list_any (λ b. b == 58) bs) h (word_wide bs)
  where
    by : (w v all some colon : Bool) → (not w && not v && all) ≡ true → (all ≡ true → (not some && not colon) ≡ true) → (not (w || some) && not (v || colon)) ≡ true
    by true v all some colon h ih = absurd (true≢false (sym h))
    by false true all some colon h ih = absurd (true≢false (sym h))
    by false false all some colon h ih = ih h

clear_from : (k : ℕ) (os : List VariableOption) (ns : List ℕ) → list_all (λ choice. is_word choice.0 && not (list_any (λ b. b == 58) choice.0)) (choices_of (words_from k os) ns) ≡ true
clear_from k [] ns = refl
clear_from k (o ∷ os) [] = refl
clear_from k (o ∷ os) (n ∷ ns) = both (word_wide (option_word k o) (wide_option k o)) (clear_from (k + 1) os ns)

pub clear_choices : (os : List VariableOption) (ns : List ℕ) → list_all (λ choice. is_word choice.0 && not (list_any (λ b. b == 58) choice.0)) (choices_of (option_words os) ns) ≡ true
clear_choices os ns = clear_from 0 os ns
