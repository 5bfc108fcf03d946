-- The pieces of a text are its lines.
use Rattle.std.proofs.Common.{◌≡◌, ℕ, suc, ◌==◌, ◌&&◌, ◌||◌, not, Bool, true, false, List, [], ◌∷◌, ◌++◌, map, codes, All, Some, None, refl, sym, ap, ◌∙◌, arith, append_assoc, if◌then◌else◌}
use Rattle.std.specs.List.{concat, flat_map, list_all, list_any}
use Rattle.std.proofs.lemmas.List.Folds.{list_any-append}
use Rattle.std.proofs.lemmas.List.Elements.{All-cons}
use Rattle.std.proofs.lemmas.Bool.{true≢false, and_parts, or_parts, or_from, not-true, not_from_false, eqb-true}
use Rattle.sc_model.specs.declared.cause.Cause.{Cause}
use Rattle.sc_model.specs.declared.cause.Cause.TheVariants.{NotFound}
use Rattle.sc_model.specs.Cause.{code_of, name_of}
use Rattle.sc_text.specs.Text.{TextLine, condition_line, file_line, token_line, leaf_line, node_line, choice_line, root_line, fault_line, end_line, numeral, place_text, choice_text, child_text, branch_text, line_text, is_word, is_wordless, is_clear}
use Rattle.sc_text.proofs.Numerals.{numeral-digits, is_no_digit}
use Rattle.sc_show.specs.Pieces.{IsLine, byte_before, split_lines_after}

-- no newline stands in these bytes
abbrev pub has_newline : List ℕ → Bool
has_newline text = list_any (λ b. b == 10) text

split_front : (front rest : List ℕ) → has_newline front ≡ false → split_lines_after (front ++ 10 ∷ rest) ≡ (front ++ 10 ∷ []) ∷ split_lines_after rest
split_front [] rest p = refl
split_front (b ∷ bs) rest p = let parts = or_parts (b == 10) (has_newline bs) p in by (b == 10) parts.0 (split_front bs rest parts.1)
  where
    by : (v : Bool) → v ≡ false → split_lines_after (bs ++ 10 ∷ rest) ≡ (bs ++ 10 ∷ []) ∷ split_lines_after rest
        → (if v then (b ∷ []) ∷ split_lines_after (bs ++ 10 ∷ rest) else byte_before b (split_lines_after (bs ++ 10 ∷ rest))) ≡ (b ∷ bs ++ 10 ∷ []) ∷ split_lines_after rest
    by true h ih = absurd (true≢false h)
    by false h ih = ap (byte_before b) ih

-- lines are cut apart again
pub split_lines : (pieces : List (List ℕ)) → All IsLine pieces → split_lines_after (concat pieces) ≡ pieces
split_lines [] all = refl
split_lines (piece ∷ pieces) all =
    let first = all 0 piece (omega arith) in
    ap (λ t. split_lines_after (t ++ concat pieces)) first.whole ∙ ap split_lines_after (append_assoc first.front (10 ∷ []) (concat pieces))
    ∙ split_front first.front (concat pieces) (not-true _ first.one_line) ∙ ap (λ p. p ∷ split_lines_after (concat pieces)) (sym first.whole)
    ∙ ap (λ ps. piece ∷ ps) (split_lines pieces (λ k d h. all (suc k) d (omega arith)))

-- texts without a newline
pub newline-append : (xs ys : List ℕ) → has_newline (xs ++ ys) ≡ (has_newline xs || has_newline ys)
newline-append xs ys = list_any-append (λ b. b == 10) xs ys

without : (stops : ℕ → Bool) → (stops 10 ≡ true) → (xs : List ℕ) → list_any stops xs ≡ false → has_newline xs ≡ false
without stops stop [] h = refl
without stops stop (x ∷ xs) h = let parts = or_parts (stops x) (list_any stops xs) h in or_from (x == 10) (has_newline xs) (by (x == 10) refl parts.0) (without stops stop xs parts.1)
  where
    by : (b : Bool) → (x == 10) ≡ b → stops x ≡ false → b ≡ false
    by true e h = absurd (true≢false (sym stop ∙ (ap stops (sym (eqb-true x 10 e)) ∙ h)))
    by false e h = refl

pub numeral_one_line : (n : ℕ) → has_newline (numeral n) ≡ false
numeral_one_line n = without is_no_digit refl (numeral n) (numeral-digits n)

word_one_line : (xs : List ℕ) → is_word xs ≡ true → has_newline xs ≡ false
word_one_line xs h = without is_wordless refl xs (not-true _ h)

name_one_line : (cause : Cause) → has_newline (name_of cause) ≡ false
name_one_line NotFound = refl
name_one_line _ = refl

choices_one_line : (os : List (List ℕ × ℕ)) → list_all (λ choice. is_word choice.0 && not (list_any (λ b. b == 58) choice.0)) os ≡ true → has_newline (flat_map choice_text os) ≡ false
choices_one_line [] h = refl
choices_one_line (o ∷ os) h =
    let parts = and_parts (is_word o.0 && not (list_any (λ b. b == 58) o.0)) (list_all (λ choice. is_word choice.0 && not (list_any (λ b. b == 58) choice.0)) os) h in
    let word = word_one_line o.0 (and_parts (is_word o.0) _ parts.0).0 in
    simp (newline-append, numeral_one_line, word, choices_one_line os parts.1)

children_one_line : (children : List ℕ) → has_newline (flat_map child_text children) ≡ false
children_one_line [] = refl
children_one_line (child ∷ children) = simp (newline-append, numeral_one_line, children_one_line children)

branches_one_line : (branches : List (ℕ × ℕ)) → has_newline (flat_map branch_text branches) ≡ false
branches_one_line [] = refl
branches_one_line (branch ∷ branches) = simp (newline-append, numeral_one_line, branches_one_line branches)

-- a text without a newline, and one behind it
pub is_line : (front : List ℕ) → has_newline front ≡ false → IsLine (front ++ codes "\n")
is_line front h = record { front = front; one_line = not_from_false (has_newline front) h; whole = refl }

pub line_text_is_line : (line : TextLine) → is_clear line ≡ true → IsLine (line_text line)
line_text_is_line (condition_line id variable options) h =
    let parts = and_parts (is_word variable) _ h in
    is_line (codes "c " ++ numeral id ++ codes " " ++ variable ++ flat_map choice_text options)
    (simp (newline-append, numeral_one_line, word_one_line variable parts.0, choices_one_line options parts.1))
line_text_is_line (file_line id name) h = is_line (codes "s " ++ numeral id ++ codes " " ++ name) (simp (newline-append, numeral_one_line, not-true (has_newline name) h))
line_text_is_line (token_line cond place spelling) h =
    is_line (codes "t " ++ numeral cond ++ codes " " ++ place_text place ++ codes " " ++ spelling)
    (simp (newline-append, numeral_one_line, not-true (has_newline spelling) h))
line_text_is_line (leaf_line id place spelling) h =
    is_line (codes "l " ++ numeral id ++ codes " " ++ place_text place ++ codes " " ++ spelling) (simp (newline-append, numeral_one_line, not-true (has_newline spelling) h))
line_text_is_line (node_line id production children) h =
    is_line (codes "n " ++ numeral id ++ codes " " ++ numeral production ++ flat_map child_text children) (simp (newline-append, numeral_one_line, children_one_line children))
line_text_is_line (choice_line id branches) h = is_line (codes "x " ++ numeral id ++ flat_map branch_text branches) (simp (newline-append, numeral_one_line, branches_one_line branches))
line_text_is_line (root_line None) h = is_line (codes "root -") refl
line_text_is_line (root_line (Some number)) h = is_line (codes "root " ++ numeral number) (numeral_one_line number)
line_text_is_line (fault_line cond cause place) h =
    is_line (codes "f " ++ numeral cond ++ codes " " ++ numeral (code_of cause) ++ codes " " ++ name_of cause ++ codes " " ++ place_text place)
    (simp (newline-append, numeral_one_line, name_one_line cause))
line_text_is_line end_line h = is_line (codes "end") refl

-- the lines of a text
pub text_lines : (lines : List TextLine) → list_all is_clear lines ≡ true → All IsLine (map line_text lines)
text_lines [] h = λ k d h. absurd (omega arith)
text_lines (line ∷ lines) h = let parts = and_parts (is_clear line) (list_all is_clear lines) h in All-cons IsLine (line_text line) (map line_text lines) (line_text_is_line line parts.0) (text_lines lines parts.1)
