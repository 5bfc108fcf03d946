-- The words of options.
use Rattle.std.proofs.Common.{◌≡◌, ℕ, zero, suc, ◌+◌, ◌<◌, List, [], ◌∷◌, length, get_or, refl, ap, ◌∙◌, arith}
use Rattle.sc_model.specs.Space.{VariableOption, option_word, option_words, words_from}

length-words_from : (k : ℕ) (options : List VariableOption) → length (words_from k options) ≡ length options
length-words_from k [] = refl
length-words_from k (o ∷ os) = ap suc (length-words_from (k + 1) os)

pub length-option_words : (options : List VariableOption) → length (option_words options) ≡ length options
length-option_words options = length-words_from 0 options

words_from-at : (k i : ℕ) (options : List VariableOption) (d : List ℕ) (o : VariableOption) → i < length options → get_or (words_from k options) i d ≡ option_word (k + i) (get_or options i o)
words_from-at k i [] d o below = absurd (omega arith)
words_from-at k zero (p ∷ os) d o below = let same : k ≡ k + 0 = omega arith in ap (λ n. option_word n p) same
words_from-at k (suc i) (p ∷ os) d o below =
    let same : k + 1 + i ≡ k + suc i = omega arith in
    words_from-at (k + 1) i os d o (omega arith) ∙ ap (λ n. option_word n (get_or os i o)) same

-- the word of an option is that of its index
pub option_words-at : (i : ℕ) (options : List VariableOption) (d : List ℕ) (o : VariableOption) → i < length options → get_or (option_words options) i d ≡ option_word i (get_or options i o)
option_words-at i options d o below =
    let same : 0 + i ≡ i = omega arith in
    words_from-at 0 i options d o below ∙ ap (λ n. option_word n (get_or options i o)) same
