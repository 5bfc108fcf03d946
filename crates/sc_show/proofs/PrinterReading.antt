-- Reading a text with one line more.
use Rattle.std.proofs.Common.{◌≡◌, ℕ, zero, suc, ◌+◌, ◌<◌, Bool, true, false, List, [], ◌∷◌, ◌++◌, length, map, slice_get, slice_index, Option, Some, None, option_map, refl, sym, ap, subst, ◌∙◌, arith, append-nil, append_assoc, if◌then◌else◌}
use Rattle.std.specs.List.{concat, list_all}
use Rattle.std.specs.Option.{option_and_then}
use Rattle.std.proofs.lemmas.Bool.{lt-ltb}
use Rattle.std.proofs.lemmas.List.{map-append}
use Rattle.std.proofs.lemmas.List.Folds.{concat-append, list_all-append}
use Rattle.std.proofs.lemmas.Option.{slice_get-map, same_Some}
use Rattle.sc_model.specs.Bytes.{same_bytes}
use Rattle.sc_model.specs.Growth.{IsOneToOne}
use Rattle.sc_model.specs.Space.{Variable, Space}
use Rattle.sc_text.specs.Text.{Reading, TextLine, line_text, read_lines, read_line, is_clear, variable_from, are_options}
use Rattle.sc_model.proofs.ByteLemmas.{same_bytes-refl, same_bytes-true}
use Rattle.sc_show.specs.Prints.{choices_of}
use Rattle.sc_show.proofs.LinesChoices.{both}

-- the last line is read at what was read before it
pub read_lines-push : (space : Space) (lines : List TextLine) (r t u : Reading) (line : TextLine) → read_lines space r lines ≡ Some t → t.ended ≡ false
    → read_line space t line ≡ Some u → read_lines space r (lines ++ line ∷ []) ≡ Some u
read_lines-push space [] r t u line before unended now =
    subst (λ x. read_lines space x (line ∷ []) ≡ Some u) (sym (same_Some r t before)) (by t.ended (read_line space t line) unended now)
  where
    by : (b : Bool) (o : Option Reading) → b ≡ false → o ≡ Some u → (if b then None else option_and_then (λ s. Some s) o) ≡ Some u
    by b o p q = rw (p, q) refl
read_lines-push space (l ∷ ls) r t u line before unended now =
    by r.ended (read_line space r l) (λ s h. read_lines-push space ls s t u line h unended now) before
  where
    by : (b : Bool) (o : Option Reading) → ((s : Reading) → read_lines space s ls ≡ Some t → read_lines space s (ls ++ line ∷ []) ≡ Some u)
        → (if b then None else option_and_then (λ s. read_lines space s ls) o) ≡ Some t
        → (if b then None else option_and_then (λ s. read_lines space s (ls ++ line ∷ [])) o) ≡ Some u
    by true o ih h = absurd (cc)
    by false None ih h = absurd (cc)
    by false (Some s) ih h = ih s h

-- a text after more lines
module _ (p : List ℕ) {q : List ℕ} where
  pub wrote-nothing : q ≡ p → q ≡ p ++ concat (map line_text [])
  wrote-nothing same = same ∙ sym (append-nil p)

  pub wrote-line : (line : TextLine) → q ≡ p ++ line_text line → q ≡ p ++ concat (map line_text (line ∷ []))
  wrote-line line wrote = wrote ∙ ap (λ t. p ++ t) (sym (append-nil (line_text line)))

  pub wrote-more : {r : List ℕ} (lines more : List TextLine) → q ≡ p ++ concat (map line_text lines) → r ≡ q ++ concat (map line_text more) → r ≡ p ++ concat (map line_text (lines ++ more))
  wrote-more lines more first rest =
      rest ∙ ap (λ t. t ++ concat (map line_text more)) first ∙ append_assoc p (concat (map line_text lines)) (concat (map line_text more))
      ∙ ap (λ t. p ++ t) (sym (ap concat (map-append line_text lines more) ∙ concat-append (map line_text lines) (map line_text more)))

pub clear-push : (lines : List TextLine) (line : TextLine) → list_all is_clear lines ≡ true → is_clear line ≡ true → list_all is_clear (lines ++ line ∷ []) ≡ true
clear-push lines line h k = list_all-append is_clear lines (line ∷ []) ∙ both h (both k refl)

-- a variable is found by its name
pub variable_from-found : (n : ℕ) (vs : List Variable) (v : ℕ) (found : Variable) → IsOneToOne (map (λ v. v.name) vs) → slice_get vs v ≡ Some found
    → variable_from n vs found.name ≡ Some (n + v, found)
variable_from-found n [] v found apart at = absurd (cc)
variable_from-found n (x ∷ vs) zero found apart at =
    let same : x ≡ found = same_Some x found at in
    let e : n ≡ n + 0 = omega arith in
    by (same_bytes x.name found.name) (ap (λ y. same_bytes y found.name) (ap (λ y. y.name) same) ∙ same_bytes-refl found.name)
    ∙ ap (λ y. Some (n, y)) same ∙ ap (λ k. Some (k, found)) e
  where
    by : (b : Bool) → b ≡ true → (if b then Some (n, x) else variable_from (n + 1) vs found.name) ≡ Some (n, x)
    by b p = rw p refl
variable_from-found n (x ∷ vs) (suc v) found apart at =
    let later = variable_from-found (n + 1) vs v found (record { same = λ i j y a b. let e = apart.same (suc i) (suc j) y a b in omega arith }) at in
    let e : n + 1 + v ≡ n + suc v = omega arith in
    by (same_bytes x.name found.name) refl (later ∙ ap (λ k. Some (k, found)) e)
  where
    by : (b : Bool) → same_bytes x.name found.name ≡ b → variable_from (n + 1) vs found.name ≡ Some (n + suc v, found)
        → (if b then Some (n, x) else variable_from (n + 1) vs found.name) ≡ Some (n + suc v, found)
    by true same later =
        let e = apart.same 0 (suc v) x.name refl (slice_get-map (λ y. y.name) vs v ∙ ap (option_map (λ y. y.name)) at ∙ ap Some (sym (same_bytes-true _ _ same))) in
        absurd (omega arith)
    by false other later = later

pub are_options-choices_of : (id : ℕ) (os : List (List ℕ)) (ns : List ℕ) → length ns ≡ length os → ((k : ℕ) → k < length ns → slice_index ns k < id)
    → are_options id os (choices_of os ns) ≡ true
are_options-choices_of id [] [] e below = refl
are_options-choices_of id [] (n ∷ ns) e below = absurd (omega arith)
are_options-choices_of id (o ∷ os) [] e below = absurd (omega arith)
are_options-choices_of id (o ∷ os) (n ∷ ns) e below =
    both (both (same_bytes-refl o) (lt-ltb n id (below 0 (omega arith)))) (are_options-choices_of id os ns (omega arith) (λ k h. below (suc k) (omega arith)))
