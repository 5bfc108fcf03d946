-- What the lines of a text read as, item by item.
use Rattle.std.proofs.Common.{◌≡◌, ℕ, ◌+◌, ◌<◌, ◌≤◌, ◌==◌, ◌&&◌, nat_lt, Bool, true, false, List, [], ◌∷◌, ◌++◌, length, map, slice_get, Option, Some, None, unwrap_or, All, refl, sym, ap, subst, ◌∙◌, arith, append-nil, append_assoc, if◌then◌else◌}
use Rattle.std.specs.List.{cons_option, filter_map, list_all}
use Rattle.std.specs.Option.{option_and_then, option_to_list}
use Rattle.std.proofs.lemmas.Bool.{and_parts, eqb-true, ltb-true}
use Rattle.std.proofs.lemmas.List.{length-append}
use Rattle.std.proofs.lemmas.List.Elements.{All-nil, All-cons, All-head}
use Rattle.std.proofs.lemmas.Option.{cond_some, same_Some, slice_get_within, unwrap_or-slice_get}
use Rattle.sc_text.specs.Answer.{Condition, choice_part, leaf_part}
use Rattle.sc_text.specs.Layout.{Counts, Gives, next_condition, next_file, Introduces, nothing, known, new, LaysOut, done, shows}
use Rattle.sc_model.specs.Space.{Variable, Space, option_words}
use Rattle.sc_text.specs.Text.{Printed, TextLine, condition_line, file_line, token_line, leaf_line, choice_line, fault_line, Need, condition_numbered, file_numbered, needs, token_said, part_said, fault_said, says, Reading, condition_at, place_of, branches_of, variable_from, are_options, chosen, with_condition, with_file, with_line, is_read, read_condition, read_line, read_lines}
use Rattle.sc_text.proofs.ConditionLemmas.{condition_at-push, condition_at-last, chosen-kept}
use Rattle.sc_model.proofs.ListLemmas.{slice_get-front, slice_get-seam}

-- a line of a condition: its variable, the options' texts, and the configurations that it has
pub record IsNode (space : Space) (conditions : List Condition) (id : ℕ) (name : List ℕ) (options : List (List ℕ × ℕ)) : Type 0 where
  pub place : ℕ
  pub variable : Variable
  pub found : variable_from 0 space.variables name ≡ Some (place, variable)
  pub fits : are_options id (option_words variable.options) options ≡ true
  pub below : id < length conditions
  pub means : (config : List ℕ) → condition_at conditions id config ≡ chosen conditions place options config

-- what is needed stands above
abbrev pub IsRead : List Condition → List (List ℕ) → Need → Type 0
IsRead conditions files (condition_numbered number) = number < length conditions
IsRead conditions files (file_numbered number) = number < length files

abbrev pub AreRead : List Condition → List (List ℕ) → List Need → Type 0
AreRead conditions files [] = Unit {0}
AreRead conditions files (need ∷ others) = IsRead conditions files need × AreRead conditions files others

-- what is right of a line that was read
abbrev pub Holds : Space → List Condition → List (List ℕ) → TextLine → Type 0
Holds space conditions files (condition_line id name options) = IsNode space conditions id name options
Holds space conditions files (file_line id name) = slice_get files id ≡ Some name
Holds space conditions files line = AreRead conditions files (needs line)

pub record HasRead (space : Space) (r s : Reading) (lines : List TextLine) : Type 0 where
  pub grows : length r.conditions ≤ length s.conditions
  pub kept : (n : ℕ) → n < length r.conditions → condition_at s.conditions n ≡ condition_at r.conditions n
  pub files_grow : length r.files ≤ length s.files
  pub files_kept : (n : ℕ) → n < length r.files → slice_get s.files n ≡ slice_get r.files n
  pub holds : All (Holds space s.conditions s.files) lines
  pub said : s.said ≡ r.said ++ filter_map (says s.conditions s.files) lines

-- ---- the lines of conditions and of files say nothing

module _ (conditions : List Condition) (files : List (List ℕ)) where
  given_said : {n m : Counts} {line : TextLine} {need : Need} (lines : List TextLine) → Gives n line need m → filter_map (says conditions files) (line ∷ lines) ≡ filter_map (says conditions files) lines
  given_said lines (next_condition counts variable options) = refl
  given_said lines (next_file counts name) = refl

  introduced_said : {n m : Counts} {others : List Need} {first : List TextLine} (lines : List TextLine) → Introduces n others first m → filter_map (says conditions files) (first ++ lines) ≡ filter_map (says conditions files) lines
  introduced_said lines (nothing counts) = refl
  introduced_said lines (known counts now need others first stands rest) = introduced_said lines rest
  introduced_said lines (new counts before after now line need others first more introduced gives rest) =
      ap (filter_map (says conditions files)) (append_assoc first (line ∷ more) lines) ∙ introduced_said (line ∷ (more ++ lines)) introduced ∙ given_said (more ++ lines) gives ∙ introduced_said lines rest

  pub laid_said : {n m : Counts} {items lines : List TextLine} → LaysOut n items lines m → filter_map (says conditions files) lines ≡ filter_map (says conditions files) items
  laid_said (done counts) = refl
  laid_said (shows counts after now item items first more introduced rest) = introduced_said (item ∷ more) introduced ∙ ap (cons_option (says conditions files item)) (laid_said rest)

-- ---- what stays as lines are read

IsNode-kept : {space : Space} {conditions more : List Condition} {id : ℕ} {name : List ℕ} {options : List (List ℕ × ℕ)} → 0 < length conditions → length conditions ≤ length more
    → ((n : ℕ) → n < length conditions → condition_at more n ≡ condition_at conditions n) → IsNode space conditions id name options → IsNode space more id name options
IsNode-kept {conditions} {more} {id} {options} begun grows kept was = record {
  place = was.place;
  variable = was.variable;
  found = was.found;
  fits = was.fits;
  below = omega (arith, grows, was.below);
  means = λ config.
      ap (λ f. f config) (kept id was.below) ∙ was.means config
      ∙ sym (chosen-kept conditions more _ options was.place config begun (omega (arith, was.below)) was.fits kept);
}

module _ {space : Space} {s t : Reading} {lines : List TextLine} (later : HasRead space s t lines) where
  AreRead-kept : (needed : List Need) → AreRead s.conditions s.files needed → AreRead t.conditions t.files needed
  AreRead-kept [] read = tt
  AreRead-kept (condition_numbered number ∷ others) read = (omega (arith, later.grows, read.0), AreRead-kept others read.1)
  AreRead-kept (file_numbered number ∷ others) read = (omega (arith, later.files_grow, read.0), AreRead-kept others read.1)

  Holds-kept : (line : TextLine) → 0 < length s.conditions → Holds space s.conditions s.files line → Holds space t.conditions t.files line
  Holds-kept (condition_line id name options) begun holds = IsNode-kept begun later.grows later.kept holds
  Holds-kept (file_line id name) begun holds = later.files_kept id (slice_get_within s.files id name holds) ∙ holds
  Holds-kept line begun holds = AreRead-kept (needs line) holds

  place-kept : (place : Printed) → place.file < length s.files → place_of t.files place ≡ place_of s.files place
  place-kept place below =
      let file = sym (unwrap_or-slice_get t.files place.file []) ∙ ap (λ o. unwrap_or o []) (later.files_kept place.file below) ∙ unwrap_or-slice_get s.files place.file [] in
      λ i. record { file = file i; position = place.position }

  branches-kept : (branches : List (ℕ × ℕ)) → AreRead s.conditions s.files (map (λ (branch : ℕ × ℕ). condition_numbered branch.0) branches) → branches_of t.conditions branches ≡ branches_of s.conditions branches
  branches-kept [] read = refl
  branches-kept (branch ∷ branches) read =
      let test = later.kept branch.0 read.0 in
      let others = branches-kept branches read.1 in
      λ i. (test i, branch.1) ∷ others i

  said-kept : (line : TextLine) → Holds space s.conditions s.files line → says t.conditions t.files line ≡ says s.conditions s.files line
  said-kept (token_line cond place spelling) holds =
      let test = later.kept cond holds.0 in
      let at = place-kept place holds.1.0 in
      λ i. Some (token_said (test i, record { place = at i; spelling = spelling }))
  said-kept (leaf_line id place spelling) holds = let at = place-kept place holds.0 in λ i. Some (part_said id (leaf_part (record { place = at i; spelling = spelling })))
  said-kept (choice_line id branches) holds = ap (λ told. Some (part_said id (choice_part told))) (branches-kept branches holds)
  said-kept (fault_line cond cause place) holds =
      let test = later.kept cond holds.0 in
      let at = place-kept place holds.1.0 in
      λ i. Some (fault_said (test i, record { cause = cause; place = at i }))
  said-kept line holds = refl

-- what one more says
said-cons : {T : Type 0} (o : Option T) (xs ys : List T) → (xs ++ cons_option o []) ++ ys ≡ xs ++ cons_option o ys
said-cons None xs ys = ap (λ zs. zs ++ ys) (append-nil xs)
said-cons (Some x) xs ys = append_assoc xs (x ∷ []) ys

said-one : {T : Type 0} (o : Option T) (xs : List T) → xs ++ option_to_list o ≡ xs ++ cons_option o []
said-one None xs = refl
said-one (Some x) xs = refl

-- one line, and then others
HasRead-cons : {space : Space} {r s t : Reading} {line : TextLine} {lines : List TextLine} → 0 < length r.conditions → HasRead space r s (line ∷ []) → HasRead space s t lines → HasRead space r t (line ∷ lines)
HasRead-cons {space} {r} {s} {t} {line} {lines} begun first later =
    let here = All-head (Holds space s.conditions s.files) line [] first.holds in
    record {
      grows = omega (arith, first.grows, later.grows);
      kept = λ n below. later.kept n (omega (arith, first.grows, below)) ∙ first.kept n below;
      files_grow = omega (arith, first.files_grow, later.files_grow);
      files_kept = λ n below. later.files_kept n (omega (arith, first.files_grow, below)) ∙ first.files_kept n below;
      holds = All-cons (Holds space t.conditions t.files) line lines (Holds-kept later line (omega (arith, first.grows, begun)) here) later.holds;
      said = later.said ∙ ap (λ said. said ++ filter_map (says t.conditions t.files) lines) (first.said ∙ ap (λ o. r.said ++ cons_option o []) (sym (said-kept later line here)))
          ∙ said-cons (says t.conditions t.files line) r.said (filter_map (says t.conditions t.files) lines);
    }

-- ---- one line

holds_alone : (space : Space) (conditions : List Condition) (files : List (List ℕ)) (line : TextLine) → Holds space conditions files line → All (Holds space conditions files) (line ∷ [])
holds_alone space conditions files line holds = All-cons (Holds space conditions files) line [] holds (All-nil (Holds space conditions files))

module _ (space : Space) (r : Reading) where
  -- a node has the configurations that its options choose
  adds_node : (id : ℕ) (name : List ℕ) (options : List (List ℕ × ℕ)) (place : ℕ) (variable : Variable) → 0 < length r.conditions → variable_from 0 space.variables name ≡ Some (place, variable)
      → id ≡ length r.conditions → are_options id (option_words variable.options) options ≡ true
      → HasRead space r (with_condition r (chosen r.conditions place options)) (condition_line id name options ∷ [])
  adds_node id name options place variable begun found last fits =
      let test = chosen r.conditions place options in
      let more : List Condition = r.conditions ++ test ∷ [] in
      let long : length more ≡ length r.conditions + 1 = length-append r.conditions (test ∷ []) in
      let kept = condition_at-push r.conditions test in
      let holds : IsNode space more id name options = record {
        place = place;
        variable = variable;
        found = found;
        fits = fits;
        below = omega (arith, last, long);
        means = λ config.
            ap (λ n. condition_at more n config) last ∙ condition_at-last r.conditions test config
            ∙ sym (chosen-kept r.conditions more _ options place config begun (omega (arith, last)) fits kept);
      } in
      record {
        grows = omega (arith, long);
        kept = kept;
        files_grow = omega arith;
        files_kept = λ n below. refl;
        holds = holds_alone space more r.files (condition_line id name options) holds;
        said = sym (append-nil r.said);
      }

  -- what is needed was read, as a test
  are_read : (needed : List Need) → list_all (is_read r) needed ≡ true → AreRead r.conditions r.files needed
  are_read [] read = tt
  are_read (condition_numbered number ∷ others) read = let parts = and_parts (nat_lt number (length r.conditions)) (list_all (is_read r) others) read in (ltb-true number _ parts.0, are_read others parts.1)
  are_read (file_numbered number ∷ others) read = let parts = and_parts (nat_lt number (length r.files)) (list_all (is_read r) others) read in (ltb-true number _ parts.0, are_read others parts.1)

  -- an item's line
  adds_item : (line : TextLine) → Holds space r.conditions r.files line → HasRead space r (with_line r line) (line ∷ [])
  adds_item line holds = record {
    grows = omega arith;
    kept = λ n below. refl;
    files_grow = omega arith;
    files_kept = λ n below. refl;
    holds = holds_alone space r.conditions r.files line holds;
    said = said-one (says r.conditions r.files line) r.said;
  }

  -- a line says what it reads as
  adds_line : (line : TextLine) (s : Reading) → 0 < length r.conditions → read_line space r line ≡ Some s → HasRead space r s (line ∷ [])
  adds_line (condition_line id name options) s begun read = by (variable_from 0 space.variables name) refl read
    where
      by : (o : Option (ℕ × Variable)) → variable_from 0 space.variables name ≡ o → read_condition r id options o ≡ Some s → HasRead space r s (condition_line id name options ∷ [])
      by None found read = absurd (cc)
      by (Some at) found read =
          let told = cond_some ((id == length r.conditions) && are_options id (option_words at.1.options) options) (with_condition r (chosen r.conditions at.0 options)) s read in
          let parts = and_parts (id == length r.conditions) _ told.0 in
          subst (λ s. HasRead space r s (condition_line id name options ∷ [])) told.1 (adds_node id name options at.0 at.1 begun found (eqb-true id _ parts.0) parts.1)
  adds_line (file_line id name) s begun read =
      let told = cond_some (id == length r.files) (with_file r name) s read in
      let long : length (r.files ++ name ∷ []) ≡ length r.files + 1 = length-append r.files (name ∷ []) in
      subst (λ s. HasRead space r s (file_line id name ∷ [])) told.1 (record {
        grows = omega arith;
        kept = λ n below. refl;
        files_grow = omega (arith, long);
        files_kept = slice_get-front r.files (name ∷ []);
        holds = holds_alone space r.conditions (r.files ++ name ∷ []) (file_line id name) (ap (slice_get (r.files ++ name ∷ [])) (eqb-true id _ told.0) ∙ slice_get-seam r.files name []);
        said = sym (append-nil r.said);
      })
  adds_line line s begun read =
      let told = cond_some (list_all (is_read r) (needs line)) (with_line r line) s read in
      subst (λ s. HasRead space r s (line ∷ [])) told.1 (adds_item line (are_read (needs line) told.0))

-- whatever lines are read after others
pub read-HasRead : (space : Space) (lines : List TextLine) (r s : Reading) → 0 < length r.conditions → read_lines space r lines ≡ Some s → HasRead space r s lines
read-HasRead space [] r s begun read = subst (λ s. HasRead space r s []) (same_Some r s read) (record {
  grows = omega arith;
  kept = λ n below. refl;
  files_grow = omega arith;
  files_kept = λ n below. refl;
  holds = All-nil (Holds space r.conditions r.files);
  said = sym (append-nil r.said);
})
read-HasRead space (line ∷ lines) r t begun read = by r.ended (read_line space r line) refl read (λ s before. read-HasRead space lines s t before)
  where
    by : (ended : Bool) (o : Option (Reading)) → read_line space r line ≡ o → (if ended then None else option_and_then (λ s. read_lines space s lines) o) ≡ Some t
        → ((s : Reading) → 0 < length s.conditions → read_lines space s lines ≡ Some t → HasRead space s t lines) → HasRead space r t (line ∷ lines)
    by true o here read others = absurd (cc)
    by false None here read others = absurd (cc)
    by false (Some s) here read others =
        let first = adds_line space r line s begun here in
        HasRead-cons begun first (others s (omega (arith, first.grows, begun)) read)
