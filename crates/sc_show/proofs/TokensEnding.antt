-- The whole text shows the list.
use Rattle.std.proofs.Common.{◌≡◌, ℕ, List, [], ◌++◌, length, map, All, refl, ◌∙◌, ap}
use Rattle.std.specs.List.{filter_map}
use Rattle.std.proofs.lemmas.Bool.{lt-ltb}
use Rattle.std.proofs.lemmas.List.Elements.{All-append, filter_map-append}
use Rattle.std.proofs.lemmas.List.Folds.{list_all-append}
use Rattle.sc_base.specs.declared.fault.Fault as base
use Rattle.sc_base.specs.declared.id.Cond.{Cond}
use Rattle.sc_base.specs.declared.token.Token.{Token}
use Rattle.sc_base.specs.Seen.{seen}
use Rattle.sc_base.proofs.Growth.{Extends-refl}
use Rattle.sc_guarded.specs.Printable.{IsShowable, IsShowableFault}
use Rattle.sc_model.specs.Growth.{IsOneToOne}
use Rattle.sc_model.specs.Sets.{Sets, IsCanonical, Keeps}
use Rattle.sc_model.specs.Space.{Space, arities_of}
use Rattle.sc_model.specs.Token.{shown}
use Rattle.sc_model.proofs.SetLemmas.{Keeps-refl}
use Rattle.sc_text.specs.Answer.{token_list, Answer}
use Rattle.sc_text.specs.Layout.{is_item}
use Rattle.sc_text.specs.Text.{TextLine, end_line, needs, line_text, token_said, says}
use Rattle.sc_text.proofs.LayoutLemmas.{OfFiles}
use Rattle.sc_show.specs.declared.printer.Printer.{Printer}
use Rattle.sc_show.specs.Prints.{Prints}
use Rattle.sc_show.specs.Rules.{list_item, fault_item, LaidOut, AreMerged}
use Rattle.sc_show.specs.Shows.{Shows}
use Rattle.sc_show.proofs.Ending.{all_printed, is_whole, faults_told}
use Rattle.sc_show.proofs.LinesChoices.{both}
use Rattle.sc_show.proofs.PrinterLaying.{LaidLines-trans}
use Rattle.sc_show.proofs.TokensItemLines.{IsFileOf, pairs_of, pairs-said, pairs-AreAlike, lines_pass, lines_files, token_is}

-- What was laid out from an empty printer, the tokens and the faults, with the last line. The list
-- and the merged faults could be shown in earlier stores.
pub Shows-end : {space : Space} {old made merging mid s : Sets} {texts files : List (List ℕ)} {p q u : Printer} (list : List (Cond × Token)) (faults merged : List base.Fault) (text : List ℕ)
    → s.arities ≡ arities_of space → IsOneToOne files → All (IsShowable made texts files) list → All (IsShowableFault merging files) merged → IsCanonical s → AreMerged s files faults merged → Keeps mid s
    → length p.conditions.keys ≡ 2 → p.files.keys ≡ [] → p.text.items ≡ [] → Prints space old files p [] → LaidOut space old mid files p q (map (list_item texts) list) → LaidOut space mid s files q u (map fault_item merged)
    → IsOneToOne u.conditions.keys → IsOneToOne u.files.keys → text ≡ u.text.items ++ line_text end_line → Shows space s texts files list faults text
Shows-end {space} {s = s} {texts = texts} {files = files} {u = u} list faults merged text arities apart can can_too canonical are keeps begun no_files no_text started a b differ files_differ written =
    let ks = u.conditions.keys in
    let fs = u.files.keys in
    let laid = LaidLines-trans keeps a.laid b.laid in
    let before = all_printed text arities apart canonical begun no_files no_text started laid differ files_differ written in
    let tests = before.reading.conditions in
    let names = before.reading.files in
    let are_tokens = a.are s ks fs keeps b.laid.grows b.laid.files_grow in
    let told = faults_told space faults merged b.shown arities before.conditions before.names can_too are (b.are s ks fs (Keeps-refl s) (Extends-refl ks) (Extends-refl fs)) in
    let pairs = pairs_of s ks fs tests (list_item texts) (λ x. shown (seen texts files x.1)) list a.shown are_tokens in
    let answer : Answer token_list = record { body = pairs; faults = told.pairs } in
    let said = pairs-said s ks fs tests (list_item texts) (λ x. shown (seen texts files x.1)) names token_said (token_is fs tests files names before.names texts) list a.shown are_tokens in
    let tokens = lines_pass s ks fs (list_item texts) is_item (λ x number file some. lt-ltb 0 number some) list a.shown are_tokens in
    let of_table = λ (line : TextLine). All (OfFiles (IsFileOf fs files)) (needs line) in
    let end = is_whole text arities apart canonical begun no_files no_text started laid differ files_differ written answer
    (filter_map-append (says tests names) a.shown b.shown ∙ ap (λ r. r ++ filter_map (says tests names) b.shown) said ∙ ap (λ r. map token_said pairs ++ r) told.said)
    (list_all-append is_item a.shown b.shown ∙ both tokens told.right)
    (All-append of_table a.shown b.shown (lines_files s ks fs (list_item texts) files (λ x number file. refl) list a.shown (λ k d h. (can k d h).file) are_tokens) told.filed)
    tt told.ascending in
    record {
      pieces = end.pieces;
      answer = answer;
      whole = end.whole;
      cut = end.cut;
      text_of = end.text_of;
      tokens = pairs-AreAlike s ks fs tests (list_item texts) (λ x. shown (seen texts files x.1)) list a.shown arities before.conditions are_tokens;
      faults_are = told.are;
    }
