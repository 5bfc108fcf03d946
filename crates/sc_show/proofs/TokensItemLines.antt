-- The lines of items, and what is read of them.
use Rattle.std.proofs.Common.{◌≡◌, ℕ, ◌<◌, Bool, true, false, List, [], ◌∷◌, length, map, get_or, slice_get, Some, option_map, All, refl, sym, ap, subst, ◌∙◌, if◌then◌else◌}
use Rattle.std.specs.List.{cons_option, filter_map, list_all}
use Rattle.std.proofs.lemmas.List.Elements.{All-nil, All-cons, All-head, All-tail}
use Rattle.std.proofs.lemmas.Option.{same_Some, slice_get-map, get_or_from_slice_get}
use Rattle.sc_base.specs.declared.fault.Fault as base
use Rattle.sc_base.specs.declared.id.Cond.{Cond}
use Rattle.sc_base.specs.declared.id.FileId.{FileId}
use Rattle.sc_guarded.specs.Items.{faults_at, seen_fault}
use Rattle.sc_base.specs.declared.token.Token.{Token}
use Rattle.sc_base.specs.Seen.{seen, text_at}
use Rattle.sc_base.specs.Seen.{position_of}
use Rattle.sc_text.specs.Answer.{Condition, project}
use Rattle.sc_text.specs.Layout.{IsAscending, AreAlike, no_item, left_out, both as same_item}
use Rattle.sc_model.specs.Sets.{Sets, IsConfig}
use Rattle.sc_model.specs.Space.{Space, arities_of}
use Rattle.sc_text.specs.Text.{TextLine, condition_numbered, file_numbered, needs, Said, token_said, fault_said, condition_at, says}
use Rattle.sc_model.specs.Token.{shown}
use Rattle.sc_text.proofs.Ascending.{IsBefore, IsAscending-nil, IsAscending-cons, IsAscending-head, IsAscending-tail}
use Rattle.sc_text.proofs.LayoutLemmas.{OfFiles}
use Rattle.sc_show.specs.Prints.{Agrees}
use Rattle.sc_show.specs.Rules.{Item, list_item, fault_item, AreLinesOf, no_line, without_line, line_of}
use Rattle.sc_show.proofs.LinesChoices.{both}

-- the id of this number is that of a file of the table
pub record IsFileOf (names : List FileId) (files : List (List ℕ)) (number : ℕ) : Type 0 where
  pub each : (id : FileId) → slice_get names number ≡ Some id → id.0 < length files

-- A list whose elements are shown as items: what the line of each says, under the set of its
-- condition's number.
module _ {X T : Type 0} (s : Sets) (ks : List Cond) (fs : List FileId) (tests : List Condition) (item : X → Item) (what : X → T) where
  abbrev pub pairs_of : (xs : List X) (lines : List TextLine) → AreLinesOf s ks fs (map item xs) lines → List (Condition × T)
  pairs_of [] lines no_line = []
  pairs_of (x ∷ xs) lines (without_line it items ls none rest) = pairs_of xs lines rest
  pairs_of (x ∷ xs) ls (line_of it number file items lines some numbered filed rest) = (condition_at tests number, what x) ∷ pairs_of xs lines rest

  pub pairs-said : (names : List (List ℕ)) (say : Condition × T → Said)
      → ((x : X) (number file : ℕ) → slice_get fs file ≡ Some (item x).file → says tests names ((item x).line number file) ≡ Some (say (condition_at tests number, what x)))
      → (xs : List X) (lines : List TextLine) (are : AreLinesOf s ks fs (map item xs) lines) → filter_map (says tests names) lines ≡ map say (pairs_of xs lines are)
  pairs-said names say each [] lines no_line = refl
  pairs-said names say each (x ∷ xs) lines (without_line it items ls none rest) = pairs-said names say each xs lines rest
  pairs-said names say each (x ∷ xs) ls (line_of it number file items lines some numbered filed rest) =
      ap (λ o. cons_option o (filter_map (says tests names) lines)) (each x number file filed) ∙ ap (λ said. say (condition_at tests number, what x) ∷ said) (pairs-said names say each xs lines rest)

  pub pairs-AreAlike : {space : Space} (xs : List X) (lines : List TextLine) → s.arities ≡ arities_of space → Agrees s ks tests → (are : AreLinesOf s ks fs (map item xs) lines)
      → AreAlike space (map (λ x. (s.has (item x).cond.0, what x)) xs) (pairs_of xs lines are)
  pairs-AreAlike [] lines arities agrees no_line = no_item
  pairs-AreAlike {space} (x ∷ xs) lines arities agrees (without_line it items ls none rest) =
      left_out (s.has (item x).cond.0) (what x) (map (λ y. (s.has (item y).cond.0, what y)) xs) (pairs_of xs lines rest) (record { none = λ c listed. none.none c (subst (λ ns. IsConfig ns c) (sym arities) listed) })
      (pairs-AreAlike xs lines arities agrees rest)
  pairs-AreAlike {space} (x ∷ xs) ls arities agrees (line_of it number file items lines some numbered filed rest) =
      same_item (s.has (item x).cond.0) (condition_at tests number) (what x) (map (λ y. (s.has (item y).cond.0, what y)) xs) (pairs_of xs lines rest)
      (record { at = λ c listed. sym (agrees.each number (item x).cond numbered c (subst (λ ns. IsConfig ns c) (sym arities) listed)) })
      (pairs-AreAlike xs lines arities agrees rest)

  -- what holds of all that the list shows holds of what is said
  pub pairs-All : (P : T → Type 0) (xs : List X) (lines : List TextLine) (are : AreLinesOf s ks fs (map item xs) lines) → All P (map what xs) → All P (map (λ pair. pair.1) (pairs_of xs lines are))
  pairs-All P [] lines no_line all = All-nil P
  pairs-All P (x ∷ xs) lines (without_line it items ls none rest) all = pairs-All P xs lines rest (All-tail P (what x) (map what xs) all)
  pairs-All P (x ∷ xs) ls (line_of it number file items lines some numbered filed rest) all =
      All-cons P (what x) (map (λ pair. pair.1) (pairs_of xs lines rest)) (All-head P (what x) (map what xs) all) (pairs-All P xs lines rest (All-tail P (what x) (map what xs) all))

module _ {X : Type 0} (s : Sets) (ks : List Cond) (fs : List FileId) (item : X → Item) where
  -- each line passes a test that those of all elements pass
  pub lines_pass : (test : TextLine → Bool) → ((x : X) (number file : ℕ) → 0 < number → test ((item x).line number file) ≡ true) → (xs : List X) (lines : List TextLine) → AreLinesOf s ks fs (map item xs) lines
      → list_all test lines ≡ true
  lines_pass test each [] lines no_line = refl
  lines_pass test each (x ∷ xs) lines (without_line it items ls none rest) = lines_pass test each xs lines rest
  lines_pass test each (x ∷ xs) ls (line_of it number file items lines some numbered filed rest) = both (each x number file some) (lines_pass test each xs lines rest)

  -- the files that the lines need are those of the elements
  pub lines_files : (files : List (List ℕ)) → ((x : X) (number file : ℕ) → needs ((item x).line number file) ≡ condition_numbered number ∷ file_numbered file ∷ []) → (xs : List X) (lines : List TextLine)
      → All (λ (x : X). (item x).file.0 < length files) xs → AreLinesOf s ks fs (map item xs) lines → All (λ line. All (OfFiles (IsFileOf fs files)) (needs line)) lines
  lines_files files named [] lines held no_line = All-nil (λ (line : TextLine). All (OfFiles (IsFileOf fs files)) (needs line))
  lines_files files named (x ∷ xs) lines held (without_line it items ls none rest) = lines_files files named xs lines (All-tail (λ (y : X). (item y).file.0 < length files) x xs held) rest
  lines_files files named (x ∷ xs) ls held (line_of it number file items lines some numbered filed rest) =
      let P = OfFiles (IsFileOf fs files) in
      All-cons (λ (line : TextLine). All P (needs line)) ((item x).line number file) lines
      (subst (All P) (sym (named x number file)) (All-cons P (condition_numbered number) (file_numbered file ∷ []) tt (All-cons P (file_numbered file) [] (record { each = each }) (All-nil P))))
      (lines_files files named xs lines (All-tail (λ (y : X). (item y).file.0 < length files) x xs held) rest)
    where
      each : (id : FileId) → slice_get fs file ≡ Some id → id.0 < length files
      each id at =
          let same : (item x).file ≡ id = same_Some (item x).file id (sym filed ∙ at) in
          subst (λ (f : FileId). f.0 < length files) same (All-head (λ (y : X). (item y).file.0 < length files) x xs held)

-- the name that a number stands for
pub name_read : (files : List (List ℕ)) (fs : List FileId) (names : List (List ℕ)) → names ≡ map (λ (f : FileId). text_at files f.0) fs → (number : ℕ) (id : FileId) → slice_get fs number ≡ Some id
    → get_or names number [] ≡ text_at files id.0
name_read files fs names named number id at =
    get_or_from_slice_get names number (text_at files id.0) []
    (ap (λ ns. slice_get ns number) named ∙ slice_get-map (λ (f : FileId). text_at files f.0) fs number ∙ ap (option_map (λ (f : FileId). text_at files f.0)) at)

-- what the lines of tokens and of faults say
module _ (fs : List FileId) (tests : List Condition) (files names : List (List ℕ)) (named : names ≡ map (λ (f : FileId). text_at files f.0) fs) where
  pub token_is : (texts : List (List ℕ)) (x : Cond × Token) (number file : ℕ) → slice_get fs file ≡ Some (list_item texts x).file
      → says tests names ((list_item texts x).line number file) ≡ Some (token_said (condition_at tests number, shown (seen texts files x.1)))
  token_is texts x number file filed =
      let name = name_read files fs names named file x.1.place.file filed in
      λ i. Some (token_said (condition_at tests number, record { place = record { file = name i; position = position_of x.1.place }; spelling = text_at texts x.1.spelling.0 }))

  pub fault_is : (x : base.Fault) (number file : ℕ) → slice_get fs file ≡ Some (fault_item x).file
      → says tests names ((fault_item x).line number file) ≡ Some (fault_said (condition_at tests number, seen_fault files x))
  fault_is x number file filed =
      let name = name_read files fs names named file x.place.file filed in
      λ i. Some (fault_said (condition_at tests number, record { cause = x.cause; place = record { file = name i; position = position_of x.place } }))

-- the faults that have a line are in the order of all
pub faults_ascend : (s : Sets) (ks : List Cond) (fs : List FileId) (tests : List Condition) (files : List (List ℕ)) (merged : List base.Fault) (lines : List TextLine) (are : AreLinesOf s ks fs (map fault_item merged) lines)
    → IsAscending (map (seen_fault files) merged) → IsAscending (map (λ pair. pair.1) (pairs_of s ks fs tests fault_item (seen_fault files) merged lines are))
faults_ascend s ks fs tests files [] lines no_line ascending = IsAscending-nil
faults_ascend s ks fs tests files (x ∷ xs) lines (without_line it items ls none rest) ascending = faults_ascend s ks fs tests files xs lines rest (IsAscending-tail ascending)
faults_ascend s ks fs tests files (x ∷ xs) ls (line_of it number file items lines some numbered filed rest) ascending =
    IsAscending-cons (seen_fault files x) (map (λ pair. pair.1) (pairs_of s ks fs tests fault_item (seen_fault files) xs lines rest))
    (pairs-All s ks fs tests fault_item (seen_fault files) (IsBefore (seen_fault files x)) xs lines rest (IsAscending-head (seen_fault files x) (map (seen_fault files) xs) ascending))
    (faults_ascend s ks fs tests files xs lines rest (IsAscending-tail ascending))

pub project-seen : (s : Sets) (files : List (List ℕ)) (faults : List base.Fault) (c : List ℕ) → project (map (λ (f : base.Fault). (s.has f.cond.0, seen_fault files f)) faults) c ≡ map (seen_fault files) (faults_at s faults c)
project-seen s files [] c = refl
project-seen s files (x ∷ xs) c = by (s.has x.cond.0 c) (project-seen s files xs c)
  where
    by : (b : Bool) → project (map (λ (f : base.Fault). (s.has f.cond.0, seen_fault files f)) xs) c ≡ map (seen_fault files) (faults_at s xs c)
        → (if b then seen_fault files x ∷ project (map (λ (f : base.Fault). (s.has f.cond.0, seen_fault files f)) xs) c else project (map (λ (f : base.Fault). (s.has f.cond.0, seen_fault files f)) xs) c)
        ≡ map (seen_fault files) (if b then x ∷ faults_at s xs c else faults_at s xs c)
    by true e = ap (λ fs. seen_fault files x ∷ fs) e
    by false e = e
