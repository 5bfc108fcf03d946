use Rattle.std.proofs.Common.{ℕ, Bool, true, ◌||◌, List, [], ◌∷◌, take}
use Rattle.c11_tokens.specs.Lex.{is_quoted, is_character}
use Rattle.sc_lex.proofs.Fronts.{IsLongestFront-same, longer}
use Rattle.sc_lex.proofs.Quotes.{behind, four_tests}
use Rattle.sc_lex.proofs.scan.character.Goals as goal

abbrev after : List ℕ → List ℕ → Bool
after prefix = behind prefix (is_quoted 39 true)

pub returns : goal.returns
returns c =
    let bs = c.args.text.now in
    let two = longer (after []) (after (76 ∷ [])) bs _ _ _ c.max.ensures c.prefixed.ensures c.prefixed-2.ensures in
    let three = longer (λ xs. after [] xs || after (76 ∷ []) xs) (after (117 ∷ [])) bs _ _ _ c.max-2.ensures two c.prefixed-3.ensures in
    let four = longer (λ xs. (after [] xs || after (76 ∷ []) xs) || after (117 ∷ []) xs) (after (85 ∷ [])) bs _ _ _ c.max-3.ensures three c.prefixed-4.ensures in
    IsLongestFront-same is_character (λ xs. ((after [] xs || after (76 ∷ []) xs) || after (117 ∷ []) xs) || after (85 ∷ []) xs) bs _
    (λ m positive. four_tests (after [] (take m bs)) (after (76 ∷ []) (take m bs)) (after (117 ∷ []) (take m bs)) (after (85 ∷ []) (take m bs))) four
