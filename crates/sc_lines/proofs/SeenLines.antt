-- The lines of tokens, seen through the tables of texts and of files.
use Rattle.std.proofs.Common.{◌≡◌, ℕ, zero, suc, ◌-◌, ◌<◌, Bool, true, false, List, [], ◌∷◌, length, map, take, drop, get_or, Option, Some, None, Err, refl, sym, ap, ◌∙◌, subst, inl, inr, arith}
use Rattle.std.proofs.Math.Seq.{drop-cons}
use Rattle.std.proofs.Math.ListN.{drop_of_length-le}
use Rattle.std.proofs.lemmas.Bool.{cases_lt}
use Rattle.std.proofs.lemmas.List.{map-id}
use Rattle.std.proofs.lemmas.Simd.{map-map}
use Rattle.std.specs.Prelude.{slice_range, if◌then◌else◌}
use Rattle.sc_base.specs.declared.token.Token.{Token}
use Rattle.sc_base.specs.Seen.{seen, seen_place}
use Rattle.sc_lines.specs.declared.line.Line.{Line}
use Rattle.sc_lines.specs.Judges.{no_line, line_at, FailsAt, Judges, no_token}
use Rattle.sc_lines.specs.Nests.{seen_line, seen_lines}
use Rattle.sc_lines.specs.Split.{AreLines, tokens_of, token_lines, directive_at}
use Rattle.sc_lines.proofs.Judging.{same_at, same_length}
use Rattle.c11_tokens.specs.Lex.{is_newline}
use Rattle.c11_directives.specs.Lines as model
use Rattle.sc_model.specs.declared.standard.Standard.{Standard}

onto_first-map : {A B : Type 0} (f : A → B) (t : A) (lines : List (List A)) → model.onto_first (f t) (map (map f) lines) ≡ map (map f) (model.onto_first t lines)
onto_first-map f t [] = refl
onto_first-map f t (line ∷ lines) = refl

split_lines-map : {A B : Type 0} (f : A → B) (ends : B → Bool) (ts : List A) → model.split_lines ends (map f ts) ≡ map (map f) (model.split_lines (λ t. ends (f t)) ts)
split_lines-map f ends [] = refl
split_lines-map f ends (t ∷ ts) =
    ap (λ rest. if ends (f t) then [] ∷ rest else model.onto_first (f t) rest) (split_lines-map f ends ts)
    ∙ elim (ends (f t)) as (λ b. (if b then [] ∷ map (map f) (model.split_lines (λ u. ends (f u)) ts) else model.onto_first (f t) (map (map f) (model.split_lines (λ u. ends (f u)) ts)))
    ≡ map (map f) (if b then [] ∷ model.split_lines (λ u. ends (f u)) ts else model.onto_first t (model.split_lines (λ u. ends (f u)) ts))) [
      | true ↦ refl
      | false ↦ onto_first-map f t (model.split_lines (λ u. ends (f u)) ts)
    ]

map-same : {A B : Type 0} (f g : A → B) → ((x : A) → f x ≡ g x) → (xs : List A) → map f xs ≡ map g xs
map-same f g same [] = refl
map-same f g same (x ∷ xs) = ap (λ y. y ∷ map f xs) (same x) ∙ ap (λ ys. g x ∷ ys) (map-same f g same xs)

-- which directive a line is doesn't depend on the names of files
pub directive-files : (standard : Standard) (names files : List (List ℕ)) (line : List Token) → (seen_line standard names files line).directive ≡ directive_at standard names line
directive-files standard names files [] = refl
directive-files standard names files (hash ∷ []) = refl
directive-files standard names files (hash ∷ word ∷ rest) = refl

module _ (standard : Standard) (names : List (List ℕ)) (tokens : List Token) (lines : List Line) (are : AreLines standard names tokens lines) where
  own-directives : map (λ l. l.directive) lines ≡ map (λ l. directive_at standard names (tokens_of tokens l)) lines
  own-directives = are.directives ∙ (ap (map (directive_at standard names)) (sym are.tokens_are) ∙ map-map (directive_at standard names) (tokens_of tokens) lines)

  -- the directive of a line is that of its tokens
  pub directive-own : (i : ℕ) (d : Line) → i < length lines → (get_or lines i d).directive ≡ directive_at standard names (tokens_of tokens (get_or lines i d))
  directive-own i d h = same_at (λ l. l.directive) (λ l. directive_at standard names (tokens_of tokens l)) lines lines i d d own-directives h

  module _ (files : List (List ℕ)) where
    pub lines-seen : seen_lines standard names files tokens ≡ map (λ l. seen_line standard names files (tokens_of tokens l)) lines
    lines-seen =
        ap (map (model.line_of standard)) (split_lines-map (seen names files) (λ t. is_newline t.kind) tokens)
        ∙ (map-map (model.line_of standard) (map (seen names files)) (token_lines tokens)
        ∙ (ap (map (seen_line standard names files)) (sym are.tokens_are) ∙ map-map (seen_line standard names files) (tokens_of tokens) lines))

    pub conditionals-seen : map model.conditional_of (seen_lines standard names files tokens) ≡ map (λ l. model.conditional_in l.directive) lines
    conditionals-seen =
        ap (map model.conditional_of) lines-seen
        ∙ (map-map model.conditional_of (λ l. seen_line standard names files (tokens_of tokens l)) lines
        ∙ (map-same (λ l. model.conditional_of (seen_line standard names files (tokens_of tokens l))) (λ l. model.conditional_in (directive_at standard names (tokens_of tokens l)))
        (λ l. ap model.conditional_in (directive-files standard names files (tokens_of tokens l))) lines
        ∙ (sym (map-map model.conditional_in (λ l. directive_at standard names (tokens_of tokens l)) lines)
        ∙ (ap (map model.conditional_in) (sym own-directives) ∙ map-map model.conditional_in (λ (l : Line). l.directive) lines))))

-- the first token of a line that is a directive
pub record FirstToken (standard : Standard) (names files : List (List ℕ)) (tokens : List Token) (first end : ℕ) (token : Token) : Type 0 where
  pub within : first < length tokens
  pub place : model.hash_place (seen_line standard names files (slice_range tokens first end)) ≡ Some (seen_place files token.place)

taken_none : (standard : Standard) (names files : List (List ℕ)) (n : ℕ) → model.conditional_of (seen_line standard names files (take n [])) ≡ None
taken_none standard names files zero = refl
taken_none standard names files (suc n) = refl

-- a prefix of a list that isn't empty
first_of : (standard : Standard) (names files : List (List ℕ)) (n : ℕ) (t : Token) (ts : List Token) → (model.conditional_of (seen_line standard names files (take n (t ∷ ts))) ≡ None → ⊥)
    → model.hash_place (seen_line standard names files (take n (t ∷ ts))) ≡ Some (seen_place files t.place)
first_of standard names files zero t ts directive = absurd (directive refl)
first_of standard names files (suc n) t ts directive = refl

pub first_token : (standard : Standard) (names files : List (List ℕ)) (tokens : List Token) (first end : ℕ) (d : Token)
    → (model.conditional_of (seen_line standard names files (slice_range tokens first end)) ≡ None → ⊥) → FirstToken standard names files tokens first end (get_or tokens first d)
first_token standard names files tokens first end d directive =
    elim (cases_lt first (length tokens)) [
      | inl h ↦ (let whole : drop first tokens ≡ get_or tokens first d ∷ drop (suc first) tokens = drop-cons tokens first d h in
          record {
            within = h;
            place = ap (λ ts. model.hash_place (seen_line standard names files (take (end - first) ts))) whole
                ∙ first_of standard names files (end - first) (get_or tokens first d) (drop (suc first) tokens)
                (λ e. directive (ap (λ ts. model.conditional_of (seen_line standard names files (take (end - first) ts))) whole ∙ e));
          })
      | inr past ↦ absurd (directive (ap (λ ts. model.conditional_of (seen_line standard names files (take (end - first) ts))) (drop_of_length-le tokens past) ∙ taken_none standard names files (end - first)))
    ]

module _ (standard : Standard) (names files : List (List ℕ)) (tokens : List Token) (lines : List Line) (are : AreLines standard names tokens lines) where
  -- the line of a number
  pub line-seen : (i : ℕ) (d : Line) → i < length lines → line_at (seen_lines standard names files tokens) i ≡ seen_line standard names files (tokens_of tokens (get_or lines i d))
  line-seen i d h = same_at (λ l. l) (λ l. seen_line standard names files (tokens_of tokens l)) (seen_lines standard names files tokens) lines i no_line d (map-id (seen_lines standard names files tokens) ∙ lines-seen standard names tokens lines are files) h

-- the line at which the nesting fails, whatever the names of files are
pub fails : (standard : Standard) (names : List (List ℕ)) (tokens : List Token) (lines : List Line) (found : Option ℕ) (at : ℕ) → AreLines standard names tokens lines → found ≡ Some at
    → ((ms : List model.Line) → map model.conditional_of ms ≡ map (λ l. model.conditional_in l.directive) lines → Judges ms found)
    → (files : List (List ℕ)) → FailsAt (seen_lines standard names files tokens) at
fails standard names tokens lines found at are is judged files =
    subst (Judges (seen_lines standard names files tokens)) is (judged (seen_lines standard names files tokens) (conditionals-seen standard names tokens lines are files))

module _ (standard : Standard) (names : List (List ℕ)) (tokens : List Token) (lines : List Line) (are : AreLines standard names tokens lines) (at : ℕ) (at_fault : (files : List (List ℕ)) → FailsAt (seen_lines standard names files tokens) at) where
  pub fault-within : at < length lines
  fault-within = omega (arith, (at_fault []).within, same_length model.conditional_of (λ l. model.conditional_in l.directive) (seen_lines standard names [] tokens) lines (conditionals-seen standard names tokens lines are []))

  fault-line : (files : List (List ℕ)) (line : Line) → line ≡ get_or lines at line → line_at (seen_lines standard names files tokens) at ≡ seen_line standard names files (tokens_of tokens line)
  fault-line files line is = line-seen standard names files tokens lines are at line fault-within ∙ ap (λ l. seen_line standard names files (tokens_of tokens l)) (sym is)

  fault-token : (files : List (List ℕ)) (line : Line) (d : Token) → line ≡ get_or lines at line → FirstToken standard names files tokens line.first line.end (get_or tokens line.first d)
  fault-token files line d is =
      first_token standard names files tokens line.first line.end d (λ e. (at_fault files).directive (ap model.conditional_of (fault-line files line is) ∙ e))

  -- its first token is there
  pub fault-first : (line : Line) → line ≡ get_or lines at line → line.first < length tokens
  fault-first line is = (fault-token [] line no_token is).within

  -- and has the place of the fault
  pub fault-tree : (files : List (List ℕ)) (line : Line) (d : Token) → line ≡ get_or lines at line
      → model.Tree (seen_lines standard names files tokens) (Err (seen_place files (get_or tokens line.first d).place))
  fault-tree files line d is = (at_fault files).fault _ (ap model.hash_place (fault-line files line is) ∙ (fault-token files line d is).place)
