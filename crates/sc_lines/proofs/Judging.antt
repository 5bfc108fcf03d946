-- The line at which a nesting fails, by the numbers of lines.
use Rattle.std.proofs.Common.{◌≡◌, ℕ, zero, suc, ◌+◌, ◌<◌, Bool, true, false, List, [], ◌∷◌, ◌++◌, length, map, take, drop, get_or, Option, Some, None, Err, refl, sym, ap, ◌∙◌, subst, inl, inr, arith}
use Rattle.std.proofs.Math.Seq.{split_at, take-length}
use Rattle.std.proofs.lemmas.Bool.{cases_lt}
use Rattle.std.proofs.lemmas.List.{take_more, get_or_past, reverse-append}
use Rattle.std.specs.Prelude.{if◌then◌else◌}
use Rattle.std.specs.Option.{option_map, option_and_then}
use Rattle.sc_lines.specs.declared.section.Open.{Open}
use Rattle.sc_lines.specs.Judges.{no_line, line_at, FailsAt}
use Rattle.c11_directives.specs.Sections.{Sections, nest_by}
use Rattle.sc_lines.specs.Sections.{sections_of}
use Rattle.c11_directives.proofs.Nesting.{nest, nest_all, nest_all-append, accepted, misplaced_at, open_at_end, head_named}
use Rattle.c11_directives.specs.declared.directive.Conditional.{Conditional}
use Rattle.c11_directives.specs.declared.directive.Conditional.TheVariants.{Opening, Alternative, Else, Endif}
use Rattle.c11_directives.specs.Lines.{Line, Group, IsTree, conditional_of, Opens, Tree}

-- the sections with their first lines in the place of their numbers
abbrev pub with_lines : List Line → Sections ℕ → Sections Line
with_lines lines ss = map (λ s. (line_at lines s.0, s.1)) ss

-- the sections after the first i lines
pub record Nests (lines : List Line) (i : ℕ) (ss : Sections ℕ) : Type 0 where
  pub so_far : nest_all (take i lines) [] ≡ Some (with_lines lines ss)

-- lists that agree through two functions agree at each place
pub same_at : {A B C : Type 0} (f : A → C) (g : B → C) (xs : List A) (ys : List B) (i : ℕ) (d : A) (e : B) → map f xs ≡ map g ys → i < length ys → f (get_or xs i d) ≡ g (get_or ys i e)
same_at f g [] [] i d e same h = absurd (omega arith)
same_at f g [] (y ∷ ys) i d e same h = cc
same_at f g (x ∷ xs) [] i d e same h = cc
same_at f g (x ∷ xs) (y ∷ ys) zero d e same h = cc
same_at f g (x ∷ xs) (y ∷ ys) (suc i) d e same h = let tails : map f xs ≡ map g ys = cc in same_at f g xs ys i d e tails (omega arith)

pub same_length : {A B C : Type 0} (f : A → C) (g : B → C) (xs : List A) (ys : List B) → map f xs ≡ map g ys → length xs ≡ length ys
same_length f g [] [] same = refl
same_length f g [] (y ∷ ys) same = cc
same_length f g (x ∷ xs) [] same = cc
same_length f g (x ∷ xs) (y ∷ ys) same = let tails : map f xs ≡ map g ys = cc in ap suc (same_length f g xs ys tails)

nest-lines : (lines : List Line) (i : ℕ) (ss : Sections ℕ) (c : Option Conditional) → nest_by (line_at lines i) (with_lines lines ss) c ≡ option_map (with_lines lines) (nest_by i ss c)
nest-lines lines i ss None = refl
nest-lines lines i ss (Some (Opening test)) = refl
nest-lines lines i [] (Some (Alternative test)) = refl
nest-lines lines i (s ∷ ss) (Some (Alternative test)) =
    elim s.1 as (λ b. (if b then None else Some ((line_at lines s.0, false) ∷ with_lines lines ss)) ≡ option_map (with_lines lines) (if b then None else Some ((s.0, false) ∷ ss))) [ true ↦ refl | false ↦ refl ]
nest-lines lines i [] (Some Else) = refl
nest-lines lines i (s ∷ ss) (Some Else) =
    elim s.1 as (λ b. (if b then None else Some ((line_at lines s.0, true) ∷ with_lines lines ss)) ≡ option_map (with_lines lines) (if b then None else Some ((s.0, true) ∷ ss))) [ true ↦ refl | false ↦ refl ]
nest-lines lines i [] (Some Endif) = refl
nest-lines lines i (s ∷ ss) (Some Endif) = refl

module _ (lines : List Line) (i : ℕ) (ss : Sections ℕ) (c : Option Conditional) where
  step-is : conditional_of (line_at lines i) ≡ c → nest (line_at lines i) (with_lines lines ss) ≡ option_map (with_lines lines) (nest_by i ss c)
  step-is e = ap (nest_by (line_at lines i) (with_lines lines ss)) e ∙ nest-lines lines i ss c

  -- one line more
  pub nests-more : i < length lines → conditional_of (line_at lines i) ≡ c → (next : Sections ℕ) → nest_by i ss c ≡ Some next → Nests lines i ss → Nests lines (i + 1) next
  nests-more h e next fits n = record {
    so_far =
        ap (λ ls. nest_all ls []) (take_more lines i no_line h)
        ∙ (nest_all-append (take i lines) (line_at lines i ∷ []) []
        ∙ (ap (option_and_then (nest_all (line_at lines i ∷ []))) n.so_far
        ∙ ap (option_and_then (nest_all [])) (step-is e ∙ ap (option_map (with_lines lines)) fits)));
  }

  -- a line that may not stand here
  pub nests-fails : i < length lines → conditional_of (line_at lines i) ≡ c → nest_by i ss c ≡ None → Nests lines i ss → FailsAt lines i
  nests-fails h e fails n =
      let none : nest (line_at lines i) (with_lines lines ss) ≡ None = step-is e ∙ ap (option_map (with_lines lines)) fails in
      record {
        within = h;
        directive = λ plain. let some : nest (line_at lines i) (with_lines lines ss) ≡ Some (with_lines lines ss) = ap (nest_by (line_at lines i) (with_lines lines ss)) plain in cc;
        fault = λ place at.
            subst (λ ls. Tree ls (Err place)) (sym (split_at lines i no_line h))
            (misplaced_at (take i lines) (line_at lines i) (drop (suc i) lines) (with_lines lines ss) place n.so_far none at);
      }

-- all lines were taken
pub nests-whole : (lines : List Line) (ss : Sections ℕ) (n : ℕ) → n ≡ length lines → Nests lines n ss → nest_all lines [] ≡ Some (with_lines lines ss)
nests-whole lines ss n e nests = ap (λ ls. nest_all ls []) (sym (ap (λ k. take k lines) e ∙ take-length lines)) ∙ nests.so_far

pub nests-accepted : (lines : List Line) (ss : Sections ℕ) → ss ≡ [] → nest_all lines [] ≡ Some (with_lines lines ss) → (group : Group) × IsTree lines group
nests-accepted lines ss e all = accepted lines (all ∙ ap (λ s. Some (with_lines lines s)) e)

named-within : (lines : List Line) (i : ℕ) → Opens (line_at lines i) → i < length lines
named-within lines i o =
    elim (cases_lt i (length lines)) [
      | inl h ↦ h
      | inr past ↦ (let nothing : line_at lines i ≡ no_line = get_or_past lines i no_line past in let none : conditional_of (line_at lines i) ≡ None = ap conditional_of nothing in let some : conditional_of (line_at lines i) ≡ Some (Opening o.test) = o.named in cc)
    ]

pub nests-open : (lines : List Line) (s : ℕ × Bool) (ss rest : Sections ℕ) → ss ≡ s ∷ rest → nest_all lines [] ≡ Some (with_lines lines ss) → FailsAt lines s.0
nests-open lines s ss rest e all =
    let whole : nest_all lines [] ≡ Some ((line_at lines s.0, s.1) ∷ with_lines lines rest) = all ∙ ap (λ t. Some (with_lines lines t)) e in
    let head = head_named lines (line_at lines s.0, s.1) (with_lines lines rest) whole in
    record {
      within = named-within lines s.0 head;
      directive = λ plain. let named : conditional_of (line_at lines s.0) ≡ Some (Opening head.test) = head.named in cc;
      fault = λ place at. open_at_end lines (line_at lines s.0, s.1) (with_lines lines rest) place whole at;
    }

-- the newest section of a stack
pub sections-push : (stack : List Open) (o : Open) → sections_of (stack ++ o ∷ []) ≡ (o.head, o.has_else) ∷ sections_of stack
sections-push stack o = ap (map (λ (s : Open). (s.head, s.has_else))) (reverse-append stack (o ∷ []))
