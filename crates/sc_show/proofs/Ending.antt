-- A whole text: its lines, the faults and the end.
use Rattle.std.proofs.Common.{◌≡◌, ℕ, zero, suc, ◌<◌, true, List, [], ◌∷◌, ◌++◌, length, map, get_or, slice_get, Some, All, refl, sym, ap, subst, ◌∙◌, arith, append_assoc}
use Rattle.std.specs.List.{concat, filter_map, list_all}
use Rattle.std.proofs.lemmas.Bool.{lt-ltb}
use Rattle.std.proofs.lemmas.List.Elements.{All-nil, All-cons, All-append}
use Rattle.std.proofs.lemmas.List.Folds.{list_all-append}
use Rattle.std.proofs.lemmas.Option.{slice_get-get_or, slice_get_within, unwrap_or-slice_get}
use Rattle.sc_base.specs.declared.fault.Fault as base
use Rattle.sc_base.specs.declared.id.Cond.{Cond}
use Rattle.sc_base.specs.declared.id.FileId.{FileId}
use Rattle.sc_base.proofs.Growth.{Extends-refl}
use Rattle.sc_base.specs.Seen.{text_at}
use Rattle.sc_guarded.specs.Items.{faults_at, seen_fault}
use Rattle.sc_guarded.specs.Printable.{IsShowableFault}
use Rattle.sc_model.specs.Fault.{Fault}
use Rattle.sc_model.specs.Growth.{IsOneToOne}
use Rattle.sc_model.specs.Sets.{Sets, IsConfig, IsCond, IsCanonical}
use Rattle.sc_model.specs.Space.{Space, arities_of}
use Rattle.sc_model.proofs.ListLemmas.{found_in}
use Rattle.sc_model.proofs.SetLemmas.{Keeps-refl}
use Rattle.sc_text.specs.Answer.{Condition, project, BodyKind, Answer}
use Rattle.sc_text.specs.Layout.{LaysOut, at_start, sets_of, HasOrder, IsAscending, IsInOrder, is_item, IsTextOf}
use Rattle.sc_text.specs.Text.{TextLine, end_line, needs, line_text, fault_said, end_said, says, body_said, answer_said, with_line, Reading, nothing_read, condition_at}
use Rattle.sc_text.proofs.Alike.{AreAlike-project}
use Rattle.sc_text.proofs.LayoutLemmas.{OfFiles, LaysOut-end, LaysOut-each_file, HasOrder-same}
use Rattle.sc_text.proofs.LayoutReading.{laid_said, read-HasRead}
use Rattle.sc_show.specs.declared.printer.Printer.{Printer}
use Rattle.sc_show.specs.Pieces.{split_lines_after}
use Rattle.sc_show.specs.Prints.{IsTable, Agrees, Prints}
use Rattle.sc_show.specs.Rules.{counts_of, tests_of, fault_item, AreLinesOf, AreMerged, LaidLines}
use Rattle.sc_show.proofs.LinesChoices.{both}
use Rattle.sc_show.proofs.Pieces.{split_lines, text_lines}
use Rattle.sc_show.proofs.PrinterReading.{read_lines-push, wrote-line, wrote-more, clear-push}
use Rattle.sc_show.proofs.TokensItemLines.{IsFileOf, pairs_of, pairs-said, pairs-AreAlike, lines_pass, lines_files, fault_is, faults_ascend, project-seen}

-- the sets of the numbers are those of their conditions
agrees_tests : (s : Sets) (ks : List Cond) (tests : List Condition) (n : ℕ) (c : List ℕ) → Agrees s ks tests → IsConfig s.arities c → condition_at tests n c ≡ condition_at (tests_of s ks) n c
agrees_tests s [] [] n c agrees listed = refl
agrees_tests s [] (test ∷ tests) n c agrees listed = absurd (omega (arith, agrees.long))
agrees_tests s (k ∷ ks) [] n c agrees listed = absurd (omega (arith, agrees.long))
agrees_tests s (k ∷ ks) (test ∷ tests) zero c agrees listed = agrees.each 0 k refl c listed
agrees_tests s (k ∷ ks) (test ∷ tests) (suc n) c agrees listed =
    agrees_tests s ks tests n c (record { long = omega (arith, agrees.long); each = λ m a at. agrees.each (suc m) a at }) listed

module _ {s : Sets} {ks : List Cond} {tests : List Condition} (agrees : Agrees s ks tests) (table : IsTable s ks) where
  -- the condition of a number
  numbered : (n : ℕ) → n < length tests → (a : Cond) × (slice_get ks n ≡ Some a) × IsCond s a.0
  numbered n below =
      let long : n < length ks = omega (arith, agrees.long) in
      let a = get_or ks n (record { 0 = 0 }) in
      (a, slice_get-get_or ks n (record { 0 = 0 }) long, table.own n (record { 0 = 0 }) long)

  -- no two numbers stand for one set
  numbers_reduced : (space : Space) → s.arities ≡ arities_of space → IsOneToOne ks → IsCanonical s → IsCanonical (sets_of space tests)
  numbers_reduced space arities differ canonical = record { one = λ i j own own_too same. by i j (numbered i own.made) (numbered j own_too.made) same.at }
    where
      by : (i j : ℕ) → (a : Cond) × (slice_get ks i ≡ Some a) × IsCond s a.0 → (b : Cond) × (slice_get ks j ≡ Some b) × IsCond s b.0
          → ((c : List ℕ) → IsConfig (arities_of space) c → condition_at tests i c ≡ condition_at tests j c) → i ≡ j
      by i j (a, at, own) (b, at_too, own_too) same =
          let one = canonical.one a.0 b.0 own own_too (record {
            at = λ c listed. sym (agrees.each i a at c listed) ∙ same c (subst (λ ns. IsConfig ns c) arities listed) ∙ agrees.each j b at_too c listed;
          }) in
          let is : b ≡ a = ap (λ (n : ℕ). let x : Cond = record { 0 = n } in x) (sym one) in
          differ.same i j a at (at_too ∙ ap Some is)

-- each name has one number
names_differ : (fs : List FileId) (files : List (List ℕ)) → IsOneToOne files → IsOneToOne fs → ((k : ℕ) → k < length fs → IsFileOf fs files k) → IsOneToOne (map (λ (f : FileId). text_at files f.0) fs)
names_differ fs files apart differ held = record { same = λ i j name at at_too. by i j name (found_in (λ (f : FileId). text_at files f.0) fs i name at) (found_in (λ (f : FileId). text_at files f.0) fs j name at_too) }
  where
    in_table : (i : ℕ) (name : List ℕ) (f : FileId) → slice_get fs i ≡ Some f → text_at files f.0 ≡ name → slice_get files f.0 ≡ Some name
    in_table i name f at is = slice_get-get_or files f.0 [] ((held i (slice_get_within fs i f at)).each f at) ∙ ap Some (sym (unwrap_or-slice_get files f.0 []) ∙ is)

    by : (i j : ℕ) (name : List ℕ) → (f : FileId) × (slice_get fs i ≡ Some f) × (text_at files f.0 ≡ name) → (g : FileId) × (slice_get fs j ≡ Some g) × (text_at files g.0 ≡ name) → i ≡ j
    by i j name (f, at, is) (g, at_too, is_too) =
        let one = apart.same f.0 g.0 name (in_table i name f at is) (in_table j name g at_too is_too) in
        let same : g ≡ f = ap (λ (n : ℕ). let x : FileId = record { 0 = n } in x) (sym one) in
        differ.same i j f at (at_too ∙ ap Some same)

-- ---- the faults

-- the lines of all faults, and what they say
pub record FaultsSaid (s : Sets) (fs : List FileId) (tests : List Condition) (files names : List (List ℕ)) (faults : List base.Fault) (shown : List TextLine) : Type 0 where
  pub pairs : List (Condition × Fault)
  pub said : filter_map (says tests names) shown ≡ map fault_said pairs
  pub right : list_all is_item shown ≡ true
  pub filed : All (λ line. All (OfFiles (IsFileOf fs files)) (needs line)) shown
  pub ascending : IsAscending (map (λ fault. fault.1) pairs)
  pub are : (c : List ℕ) → IsConfig s.arities c → project pairs c ≡ map (seen_fault files) (faults_at s faults c)

-- the merged faults could be shown in an earlier store
pub faults_told : (space : Space) {merging s : Sets} {ks : List Cond} {fs : List FileId} {tests : List Condition} {files names : List (List ℕ)} (faults merged : List base.Fault) (shown : List TextLine) → s.arities ≡ arities_of space → Agrees s ks tests
    → names ≡ map (λ (f : FileId). text_at files f.0) fs → All (IsShowableFault merging files) merged → AreMerged s files faults merged → AreLinesOf s ks fs (map fault_item merged) shown → FaultsSaid s fs tests files names faults shown
faults_told space {merging} {s} {ks} {fs} {tests} {files} {names} faults merged shown arities agrees named can merges are = record {
  pairs = pairs_of s ks fs tests fault_item (seen_fault files) merged shown are;
  said = pairs-said s ks fs tests fault_item (seen_fault files) names fault_said (fault_is fs tests files names named) merged shown are;
  right = lines_pass s ks fs fault_item is_item (λ x number file some. lt-ltb 0 number some) merged shown are;
  filed = lines_files s ks fs fault_item files (λ x number file. refl) merged shown (λ k d h. (can k d h).file) are;
  ascending = faults_ascend s ks fs tests files merged shown are merges.ascending;
  are = λ c listed.
      sym (AreAlike-project {space = space} c (subst (λ ns. IsConfig ns c) arities listed) (pairs-AreAlike s ks fs tests fault_item (seen_fault files) merged shown arities agrees are))
      ∙ project-seen s files merged c ∙ merges.same c listed;
}

-- ---- the text

-- the text is that of the answer
pub record IsWhole {kind : BodyKind} (space : Space) (text : List ℕ) (answer : Answer kind) : Type 0 where
  pub pieces : List (List ℕ)
  pub whole : text ≡ concat pieces
  pub cut : split_lines_after text ≡ pieces
  pub text_of : IsTextOf space pieces answer

-- what was laid out from an empty printer, with the last line
module _ {space : Space} {old s : Sets} {files : List (List ℕ)} {p q : Printer} {shown : List TextLine} (text : List ℕ) (arities : s.arities ≡ arities_of space) (apart : IsOneToOne files) (canonical : IsCanonical s)
    (begun : length p.conditions.keys ≡ 2) (no_files : p.files.keys ≡ []) (no_text : p.text.items ≡ []) (started : Prints space old files p []) (laid : LaidLines space old s files p q shown)
    (differ : IsOneToOne q.conditions.keys) (files_differ : IsOneToOne q.files.keys) (written : text ≡ q.text.items ++ line_text end_line) where
  pub all_printed : Prints space s files q laid.lines
  all_printed = laid.prints [] started

  from_start : LaysOut at_start shown laid.lines (counts_of q)
  from_start =
      let no_file = ap length no_files in
      let counted : counts_of p ≡ at_start = λ i. record { conditions = begun i; files = no_file i } in
      subst (λ n. LaysOut n shown laid.lines (counts_of q)) counted laid.laid

  tests_ordered : All (HasOrder space all_printed.reading.conditions) (laid.lines ++ end_line ∷ [])
  tests_ordered =
      let tests = all_printed.reading.conditions in
      let ks = q.conditions.keys in
      let same = λ (n : ℕ) (c : List ℕ) (listed : IsConfig (arities_of space) c). agrees_tests s ks tests n c all_printed.conditions (subst (λ ns. IsConfig ns c) (sym arities) listed) in
      All-append (HasOrder space tests) laid.lines (end_line ∷ []) (λ k d h. HasOrder-same space (tests_of s ks) tests same (get_or laid.lines k d) (laid.ordered s ks (Keeps-refl s) (Extends-refl ks) k d h))
      (All-cons (HasOrder space tests) end_line [] tt (All-nil (HasOrder space tests)))

  pub is_whole : {kind : BodyKind} (answer : Answer kind) → filter_map (says all_printed.reading.conditions all_printed.reading.files) shown ≡ body_said kind answer.body ++ map fault_said answer.faults → list_all is_item shown ≡ true
      → All (λ line. All (OfFiles (IsFileOf q.files.keys files)) (needs line)) shown → IsInOrder kind answer.body → IsAscending (map (λ fault. fault.1) answer.faults) → IsWhole space text answer
  is_whole {kind} answer says_it right filed in_order ascending =
      let lines : List TextLine = laid.lines ++ end_line ∷ [] in
      let reading : Reading = with_line all_printed.reading end_line in
      let read = read_lines-push space laid.lines nothing_read all_printed.reading reading end_line all_printed.read all_printed.unended refl in
      let told = read-HasRead space laid.lines nothing_read all_printed.reading (omega arith) all_printed.read in
      let said : reading.said ≡ answer_said answer =
      ap (λ said. said ++ end_said ∷ []) (told.said ∙ laid_said all_printed.reading.conditions all_printed.reading.files laid.laid ∙ says_it) ∙ append_assoc (body_said kind answer.body) (map fault_said answer.faults) (end_said ∷ []) in
      let clear = clear-push laid.lines end_line all_printed.clear refl in
      let whole : text ≡ concat (map line_text lines) = wrote-more p.text.items laid.lines (end_line ∷ []) laid.wrote (wrote-line q.text.items end_line written) ∙ ap (λ t. t ++ concat (map line_text lines)) no_text in
      record {
        pieces = map line_text lines;
        whole = whole;
        cut = ap split_lines_after whole ∙ split_lines (map line_text lines) (text_lines lines clear);
        text_of = record {
          reads = record { lines = lines; clear = clear; written = refl; reading = reading; read = read; answer_is = said };
          rules = record {
            items = shown ++ end_line ∷ [];
            now = counts_of q;
            right = list_all-append is_item shown (end_line ∷ []) ∙ both right refl;
            laid = LaysOut-end from_start;
            reduced = numbers_reduced all_printed.conditions laid.table space arities differ canonical;
            ordered = tests_ordered;
            named_once = subst IsOneToOne (sym all_printed.names) (names_differ q.files.keys files apart files_differ (λ k below. LaysOut-each_file (IsFileOf q.files.keys files) filed from_start k (omega arith) below));
          };
          in_order = in_order;
          ascending = ascending;
        };
      }
