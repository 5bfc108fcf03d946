-- The lines of a file are nested, or have a first fault.
use Rattle.std.proofs.Common.{◌≡◌, List, [], ◌∷◌, ◌++◌, map, Option, Some, None, Result, Ok, Err, refl, sym, ap, ◌∙◌, subst, append_assoc, append-nil}
use Rattle.std.specs.Option.{option_and_then, option_map}
use Rattle.std.proofs.lemmas.Option.{none-some}
use Rattle.c11_directives.specs.declared.directive.Conditional.TheVariants.{Opening}
use Rattle.c11_directives.specs.Lines.{Group, Line, Tree, conditional_in, conditional_of, hash_of, hash_place, line_of, lines_of, nested, split_lines}
use Rattle.c11_directives.specs.Sections.{Sections, nest_by}
use Rattle.c11_directives.proofs.Nesting.{accepted, head_named, head_within, misplaced_at, nest, nest_all, nest_all-append, open_at_end}
use Rattle.c11_tokens.specs.Lex.{is_newline}
use Rattle.sc_model.specs.Token.{Place, Token}
use Rattle.sc_model.specs.declared.standard.Standard.{Standard}

-- each directive has its #
pub record HaveHashes (lines : List Line) : Type 0 where
  pub each : (before : List Line) (line : Line) (after : List Line) → lines ≡ before ++ line ∷ after → (line.directive ≡ None → ⊥) → (hash : Token) × (hash_of line ≡ Some hash)

line-hash : (standard : Standard) (ts : List Token) → ((line_of standard ts).directive ≡ None → ⊥) → (hash : Token) × (hash_of (line_of standard ts) ≡ Some hash)
line-hash standard [] some = absurd (some refl)
line-hash standard (t ∷ ts) some = (t, refl)

hashes-at : (standard : Standard) (all : List (List Token)) (before : List Line) (line : Line) (after : List Line) → map (line_of standard) all ≡ before ++ line ∷ after → (line.directive ≡ None → ⊥)
    → (hash : Token) × (hash_of line ≡ Some hash)
hashes-at standard [] [] line after e some = absurd (cc)
hashes-at standard [] (b ∷ before) line after e some = absurd (cc)
hashes-at standard (ts ∷ all) [] line after e some =
    let same : line_of standard ts ≡ line = cc in
    subst (λ l. (l.directive ≡ None → ⊥) → (hash : Token) × (hash_of l ≡ Some hash)) same (line-hash standard ts) some
hashes-at standard (ts ∷ all) (b ∷ before) line after e some = let rest : map (line_of standard) all ≡ before ++ line ∷ after = cc in hashes-at standard all before line after rest some

pub lines-hashes : (standard : Standard) (ts : List Token) → HaveHashes (lines_of standard ts)
lines-hashes standard ts = record { each = λ before line after e some. hashes-at standard (split_lines (λ t. is_newline t.kind) ts) before line after e some }

place-of : (line : Line) → ((line.directive ≡ None → ⊥) → (hash : Token) × (hash_of line ≡ Some hash)) → (conditional_of line ≡ None → ⊥) → (place : Place) × (hash_place line ≡ Some place)
place-of line hash some =
    let at = hash (λ none. some (ap conditional_in none)) in
    (at.0.place, ap (option_map (λ (t : Token). t.place)) at.1)

some-tree : (after before : List Line) (ss : Sections Line) → HaveHashes (before ++ after) → nest_all before [] ≡ Some ss → (r : Result Group Place) × Tree (before ++ after) r
some-tree [] before [] hashes e =
    let group = accepted before e in
    subst (λ ls. (r : Result Group Place) × Tree ls r) (sym (append-nil before)) (Ok group.0, nested group.0 group.1)
some-tree [] before (s ∷ ss) hashes e =
    let opens = head_named before s ss e in
    let at = head_within before s ss e in
    let place = place-of s.0 (hashes.each at.before s.0 at.after (append-nil before ∙ at.whole)) (λ none. none-some (Opening opens.test) (sym none ∙ opens.named)) in
    subst (λ ls. (r : Result Group Place) × Tree ls r) (sym (append-nil before)) (Err place.0, open_at_end before s ss place.0 e place.1)
some-tree (line ∷ after) before ss hashes e =
    by (λ next there. some-tree after (before ++ line ∷ []) next (subst HaveHashes (sym (append_assoc before (line ∷ []) after)) hashes)
    (nest_all-append before (line ∷ []) [] ∙ ap (option_and_then (nest_all (line ∷ []))) e ∙ ap (option_and_then (nest_all [])) there)) (nest line ss) refl
  where
    by : ((next : Sections Line) → nest line ss ≡ Some next → (r : Result Group Place) × Tree ((before ++ line ∷ []) ++ after) r) → (n : Option (Sections Line)) → nest line ss ≡ n
        → (r : Result Group Place) × Tree (before ++ line ∷ after) r
    by later (Some next) is = subst (λ ls. (r : Result Group Place) × Tree ls r) (append_assoc before (line ∷ []) after) (later next is)
    by later None is =
        let place = place-of line (hashes.each before line after refl) (λ plain. none-some ss (sym is ∙ ap (nest_by line ss) plain)) in
        (Err place.0, misplaced_at before line after ss place.0 e is place.1)

pub tree-some : (lines : List Line) → HaveHashes lines → (r : Result Group Place) × Tree lines r
tree-some lines hashes = some-tree lines [] [] hashes refl
