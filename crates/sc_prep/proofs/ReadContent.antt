-- What a file's bytes hold.
use Rattle.std.proofs.Common.{◌≡◌, ◌∙◌, ℕ, ◌<◌, List, All, length, map, slice_get, Some, Err, sym, ap, subst}
use Rattle.sc_base.specs.declared.place.Place.{Place}
use Rattle.sc_lex.proofs.SeenLemmas.{place-seen, tokens-seen}
use Rattle.sc_lines.specs.declared.line.FileTree.{FileTree}
use Rattle.sc_lines.specs.declared.line.Line.{Line}
use Rattle.sc_model.specs.Fault as model
use Rattle.sc_prep.proofs.FileTokens.{file-placed, file-plain}
use Rattle.sc_prep.proofs.Terms.{AreLines, AreTokensOf, BadNesting, Enters, FileId, FileLines, FileTooLarge, HasBranches, IsFaultAt, IsHeld, IsPlaced, IsPlainOrNewline, IsTree, IsTreeOf, IsUnendedAt, Standard, Token, Tree, UnterminatedComment, badly_nested, end_position, fault_at, file_with, in_file, largest_file, lines_of, position_of, seen, seen_lines, seen_place, too_large, unended}
use Rattle.sc_prep.specs.Contents.{AreHeldLines, IsContent, nested, refused}
use Rattle.sc_prep.specs.declared.content.Content.TheVariants as content

module _ (standard : Standard) (names files : List (List ℕ)) (name bytes : List ℕ) where
  pub refused-large : (place : Place) → seen_place files place ≡ model.first_place name → largest_file < length bytes → IsContent standard names files name (Some bytes) (Some (content.Refused FileTooLarge place))
  refused-large place at large =
      refused bytes FileTooLarge place (λ x s by_standard. subst (λ p. Enters x (file_with name bytes) s (Err (fault_at FileTooLarge p))) (sym at) (too_large large))

  module _ (file : FileId) (named : slice_get files file.0 ≡ Some name) (few : largest_file < length bytes → ⊥) where
    pub refused-comment : (place : Place) → IsUnendedAt file bytes place → IsContent standard names files name (Some bytes) (Some (content.Refused UnterminatedComment place))
    refused-comment place is =
        refused bytes UnterminatedComment place
        (λ x s by_standard. subst (λ p. Enters x (file_with name bytes) s (Err (fault_at UnterminatedComment p))) (sym (place-seen files file name place named is.in_file))
        (unended (position_of place) few is.lexed))

    module _ (ts : List Token) (are : AreTokensOf names file bytes ts) where
      as_lexed : seen_lines standard names files ts ≡ lines_of standard (map (in_file name) are.lexemes)
      as_lexed = ap (lines_of standard) (tokens-seen names files file name bytes ts are named)

      pub refused-nesting : (place : Place) → IsFaultAt standard names ts place → IsContent standard names files name (Some bytes) (Some (content.Refused BadNesting place))
      refused-nesting place is =
          refused bytes BadNesting place
          (λ x s by_standard. badly_nested are.lexemes (seen_place files place) few are.lexed
          (subst (λ d. Tree (lines_of d (map (in_file name) are.lexemes)) (Err (seen_place files place))) (sym by_standard)
          (subst (λ ls. Tree ls (Err (seen_place files place))) as_lexed (is.tree files))))

      pub nested-lines : (tree : FileTree) (found : FileLines) → found.tokens.items ≡ ts → position_of found.end ≡ end_position bytes → found.end.file ≡ file → IsTreeOf standard names ts tree
          → IsContent standard names files name (Some bytes) (Some (content.Lines found))
      nested-lines tree found same ends end_inside is =
          let tokens_same = sym same in
          nested bytes found (record {
            few = few;
            lexemes = are.lexemes;
            lexed = are.lexed;
            tokens = subst (λ us. map (seen names files) us ≡ map (in_file name) are.lexemes) tokens_same (tokens-seen names files file name bytes ts are named);
            group = (is.nested files).0;
            tree = subst (λ us. IsTree (seen_lines standard names files us) (is.nested files).0) tokens_same (is.nested files).1;
            ends = place-seen files file name found.end named end_inside ∙ ap (λ p. record { file = name; position = p }) ends;
          })

pub held-lines : (standard : Standard) {names : List (List ℕ)} (files : ℕ) (file : FileId) (bytes : List ℕ) (ts : List Token) (tree : FileTree) (found : FileLines) → found.tokens.items ≡ ts → found.lines.items ≡ tree.lines.items → found.end.file ≡ file → file.0 < files
    → AreTokensOf names file bytes ts → All (IsHeld names) ts → IsTreeOf standard names ts tree → AreHeldLines standard names files file found
held-lines standard {names} files file bytes ts tree found same lines_same end_inside there are held is = record {
  placed = subst (All (IsPlaced names files)) (sym same) (file-placed names file bytes ts are files there held);
  inside = subst (All (λ (t : Token). t.place.file ≡ file)) (sym same) are.spell.placed;
  end_inside = end_inside;
  plain = subst (All (IsPlainOrNewline names)) (sym same) (file-plain names file bytes ts are);
  lines_are = subst (λ (us : List Token). AreLines standard names us found.lines.items) (sym same) (subst (λ (ls : List Line). AreLines standard names ts ls) (sym lines_same) is.lines);
  branches = λ paths. subst (λ (us : List Token). HasBranches (seen_lines standard names paths us) found.lines.items) (sym same)
      (subst (λ (ls : List Line). HasBranches (seen_lines standard names paths ts) ls) (sym lines_same) (is.branches paths));
}
