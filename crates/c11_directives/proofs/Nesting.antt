-- The nesting of conditional directives, line by line, and the groups that it makes.
use Rattle.std.proofs.Common.{◌≡◌, Bool, true, false, List, [], ◌∷◌, ◌++◌, Option, Some, None, Err, refl, sym, ap, ◌∙◌, subst, append_assoc, append-nil}
use Rattle.std.proofs.lemmas.Option.{option_and_then_some}
use Rattle.std.specs.Option.{option_and_then}
use Rattle.c11_directives.specs.declared.directive.Conditional.{Conditional}
use Rattle.c11_directives.specs.declared.directive.Conditional.TheVariants.{Opening, Alternative, Else, Endif}
use Rattle.c11_directives.specs.declared.directive.Directive.TheVariants as directive
use Rattle.c11_directives.specs.Lines.{Line, conditional_of, Group, Branches, empty, plain, section, closing, otherwise, alternative, group_lines, branch_lines, Opens, IsGroup, AreBranches, IsTree, GoesOn, IsOpenAtEnd, Unclosed, first, more, last, hash_place, Tree, misplaced, unclosed}
use Rattle.sc_model.specs.Token.{Place}
use Rattle.sc_model.specs.declared.standard.Standard.TheVariants.{C11}
use Rattle.c11_directives.specs.Sections.{Sections, closes_section, next_branch, nest_by}

abbrev pub nest : Line → Sections Line → Option (Sections Line)
nest line ss = nest_by line ss (conditional_of line)

abbrev pub nest_all : List Line → Sections Line → Option (Sections Line)
nest_all [] ss = Some ss
nest_all (line ∷ lines) ss = option_and_then (nest_all lines) (nest line ss)

nest_is : (line : Line) (ss : Sections Line) {c : Option Conditional} → conditional_of line ≡ c → nest line ss ≡ nest_by line ss c
nest_is line ss e = ap (nest_by line ss) e

pub nest_all-append : (xs ys : List Line) (ss : Sections Line) → nest_all (xs ++ ys) ss ≡ option_and_then (nest_all ys) (nest_all xs ss)
nest_all-append [] ys ss = refl
nest_all-append (x ∷ xs) ys ss =
    elim (nest x ss) as (λ r. option_and_then (nest_all (xs ++ ys)) r ≡ option_and_then (nest_all ys) (option_and_then (nest_all xs) r)) [ None ↦ refl | Some tt' ↦ nest_all-append xs ys tt' ]

opens : (line : Line) (ss : Sections Line) → Opens line → nest line ss ≡ Some ((line, false) ∷ ss)
opens line ss o = nest_is line ss o.named

-- a group leaves the sections as they were
mutual
  pub nest-group : (g : Group) → IsGroup g → (ss : Sections Line) → nest_all (group_lines g) ss ≡ Some ss
  nest-group empty w ss = refl
  nest-group (plain line rest) w ss = ap (option_and_then (nest_all (group_lines rest))) (nest_is line ss w.0) ∙ nest-group rest w.1 ss
  nest-group (section head g bs rest) w ss =
      ap (option_and_then (nest_all (group_lines g ++ branch_lines bs ++ group_lines rest))) (opens head ss w.0)
      ∙ (nest_all-append (group_lines g ++ branch_lines bs) (group_lines rest) ((head, false) ∷ ss)
      ∙ (ap (option_and_then (nest_all (group_lines rest)))
      (nest_all-append (group_lines g) (branch_lines bs) ((head, false) ∷ ss)
      ∙ (ap (option_and_then (nest_all (branch_lines bs))) (nest-group g w.1 ((head, false) ∷ ss)) ∙ nest-branches bs w.2 head ss))
      ∙ nest-group rest w.3 ss))

  nest-branches : (bs : Branches) → AreBranches bs → (head : Line) (ss : Sections Line) → nest_all (branch_lines bs) ((head, false) ∷ ss) ≡ Some ss
  nest-branches (closing line) w head ss = ap (option_and_then (nest_all [])) (nest_is line ((head, false) ∷ ss) w)
  nest-branches (otherwise next g line) w head ss =
      ap (option_and_then (nest_all (group_lines g ++ line ∷ []))) (nest_is next ((head, false) ∷ ss) w.0)
      ∙ (nest_all-append (group_lines g) (line ∷ []) ((head, true) ∷ ss)
      ∙ (ap (option_and_then (nest_all (line ∷ []))) (nest-group g w.1 ((head, true) ∷ ss)) ∙ ap (option_and_then (nest_all [])) (nest_is line ((head, true) ∷ ss) w.2)))
  nest-branches (alternative next g bs) w head ss =
      ap (option_and_then (nest_all (group_lines g ++ branch_lines bs))) (nest_is next ((head, false) ∷ ss) w.0.named)
      ∙ (nest_all-append (group_lines g) (branch_lines bs) ((head, false) ∷ ss)
      ∙ (ap (option_and_then (nest_all (branch_lines bs))) (nest-group g w.1 ((head, false) ∷ ss)) ∙ nest-branches bs w.2 head ss))

-- two groups one after the other
abbrev joined : Group → Group → Group
joined empty h = h
joined (plain line rest) h = plain line (joined rest h)
joined (section head g bs rest) h = section head g bs (joined rest h)

joined-lines : (g h : Group) → group_lines (joined g h) ≡ group_lines g ++ group_lines h
joined-lines empty h = refl
joined-lines (plain line rest) h = ap (λ ls. line ∷ ls) (joined-lines rest h)
joined-lines (section head g bs rest) h =
    ap (λ ls. head ∷ group_lines g ++ branch_lines bs ++ ls) (joined-lines rest h) ∙ sym (append_assoc (head ∷ group_lines g ++ branch_lines bs) (group_lines rest) (group_lines h))

joined-IsGroup : (g h : Group) → IsGroup g → IsGroup h → IsGroup (joined g h)
joined-IsGroup empty h w v = v
joined-IsGroup (plain line rest) h w v = (w.0, joined-IsGroup rest h w.1 v)
joined-IsGroup (section head g bs rest) h w v = (w.0, w.1, w.2, joined-IsGroup rest h w.3 v)

-- a section that isn't closed, and a group more
unclosed-group : {b : Bool} {xs : List Line} → Unclosed b xs → (h : Group) → IsGroup h → Unclosed b (xs ++ group_lines h)
unclosed-group (first g w) h v = subst (Unclosed false) (joined-lines g h) (first (joined g h) (joined-IsGroup g h w v))
unclosed-group (more {lines} head g u e w) h v =
    subst (Unclosed false) (ap (λ ls. lines ++ head ∷ ls) (joined-lines g h) ∙ sym (append_assoc lines (head ∷ group_lines g) (group_lines h))) (more head (joined g h) u e (joined-IsGroup g h w v))
unclosed-group (last {lines} head g u e w) h v =
    subst (Unclosed true) (ap (λ ls. lines ++ head ∷ ls) (joined-lines g h) ∙ sym (append_assoc lines (head ∷ group_lines g) (group_lines h))) (last head (joined g h) u e (joined-IsGroup g h w v))

-- a section's first group and its branches
record Closed (xs : List Line) : Type 0 where
  group : Group
  branches : Branches
  grouped : IsGroup group
  branched : AreBranches branches
  whole : xs ≡ group_lines group ++ branch_lines branches

closed-by : {xs : List Line} → Unclosed false xs → (bs : Branches) → AreBranches bs → Closed (xs ++ branch_lines bs)
closed-by (first g w) bs v = record { group = g; branches = bs; grouped = w; branched = v; whole = refl }
closed-by (more {lines} head g u e w) bs v =
    subst Closed (sym (append_assoc lines (head ∷ group_lines g) (branch_lines bs))) (closed-by u (alternative head g bs) (e, w, v))

closes : {b : Bool} {xs : List Line} → Unclosed b xs → (line : Line) → conditional_of line ≡ Some Endif → Closed (xs ++ line ∷ [])
closes (first g w) line v = closed-by (first g w) (closing line) v
closes (more {lines} head g u e w) line v = closed-by (more head g u e w) (closing line) v
closes (last {lines} head g u e w) line v =
    subst Closed (sym (append_assoc lines (head ∷ group_lines g) (line ∷ []))) (closed-by u (otherwise head g line) (e, w, v))

-- The lines so far: a group, and behind it each open section with what it has.
pub data Nested : Sections Line → List Line → Type 0 where
  outside : (g : Group) → IsGroup g → Nested [] (group_lines g)
  inside : {ss : Sections Line} {before lines : List Line} {b : Bool} (head : Line) → Nested ss before → Opens head → Unclosed b lines → Nested ((head, b) ∷ ss) (before ++ head ∷ lines)

nested-group : {ss : Sections Line} {xs : List Line} → Nested ss xs → (h : Group) → IsGroup h → Nested ss (xs ++ group_lines h)
nested-group (outside g w) h v = subst (Nested []) (joined-lines g h) (outside (joined g h) (joined-IsGroup g h w v))
nested-group (inside {before = before} {lines = lines} head n o u) h v =
    subst (Nested _) (sym (append_assoc before (head ∷ lines) (group_lines h))) (inside head n o (unclosed-group u h v))

-- the innermost section is closed
nested-close : {ss : Sections Line} {before lines : List Line} {b : Bool} (head : Line) → Nested ss before → Opens head → Unclosed b lines → (line : Line) → conditional_of line ≡ Some Endif
    → Nested ss ((before ++ head ∷ lines) ++ line ∷ [])
nested-close {ss} {before} {lines} head n o u line e =
    let c = closes u line e in
    subst (Nested ss)
    (ap (λ ls. before ++ head ∷ ls) (append-nil (group_lines c.group ++ branch_lines c.branches) ∙ sym c.whole) ∙ sym (append_assoc before (head ∷ lines) (line ∷ [])))
    (nested-group n (section head c.group c.branches empty) (o, c.grouped, c.branched, tt))

-- one line more
nested-next : {ss : Sections Line} {xs : List Line} (is_last : Bool) → Nested ss xs → (line : Line) → (ss' : Sections Line)
    → ((lines : List Line) → Unclosed false lines → Unclosed is_last (lines ++ line ∷ [])) → next_branch is_last ss ≡ Some ss' → Nested ss' (xs ++ line ∷ [])
nested-next is_last (outside g w) line ss' grow e = cc
nested-next is_last (inside {b = true} head n o u) line ss' grow e = cc
nested-next is_last (inside {ss = ss} {before = before} {lines = lines} {b = false} head n o u) line ss' grow e =
    let same : (head, is_last) ∷ ss ≡ ss' = cc in
    subst (λ t. Nested t ((before ++ head ∷ lines) ++ line ∷ [])) same
    (subst (Nested ((head, is_last) ∷ ss)) (sym (append_assoc before (head ∷ lines) (line ∷ []))) (inside head n o (grow lines u)))

nested-closed : {ss : Sections Line} {xs : List Line} → Nested ss xs → (line : Line) → conditional_of line ≡ Some Endif → (ss' : Sections Line) → closes_section ss ≡ Some ss' → Nested ss' (xs ++ line ∷ [])
nested-closed (outside g w) line e ss' s = cc
nested-closed (inside {ss = ss} {before = before} {lines = lines} head n o u) line e ss' s =
    let same : ss ≡ ss' = cc in
    subst (λ r. Nested r ((before ++ head ∷ lines) ++ line ∷ [])) same (nested-close head n o u line e)

nested-open : {ss : Sections Line} {xs : List Line} → Nested ss xs → (line : Line) → Opens line → (ss' : Sections Line) → Some ((line, false) ∷ ss) ≡ Some ss' → Nested ss' (xs ++ line ∷ [])
nested-open {ss} {xs} n line o ss' s =
    let same : (line, false) ∷ ss ≡ ss' = cc in
    subst (λ r. Nested r (xs ++ line ∷ [])) same (inside line n o (first empty tt))

nested-by : {ss : Sections Line} {xs : List Line} → Nested ss xs → (line : Line) → (c : Option Conditional) → conditional_of line ≡ c → (ss' : Sections Line) → nest_by line ss c ≡ Some ss' → Nested ss' (xs ++ line ∷ [])
nested-by {ss} {xs} n line None e ss' s =
    let same : ss ≡ ss' = cc in
    subst (λ r. Nested r (xs ++ line ∷ [])) same (nested-group n (plain line empty) (e, tt))
nested-by n line (Some (Opening test)) e ss' s = nested-open n line (record { test = test; named = e }) ss' s
nested-by n line (Some (Alternative test)) e ss' s = nested-next false n line ss' (λ lines u. more line empty u (record { test = test; named = e }) tt) s
nested-by n line (Some Else) e ss' s = nested-next true n line ss' (λ lines u. last line empty u e tt) s
nested-by n line (Some Endif) e ss' s = nested-closed n line e ss' s

-- all lines
nested-all : (ys : List Line) (ss : Sections Line) (xs : List Line) → Nested ss xs → (ss' : Sections Line) → nest_all ys ss ≡ Some ss' → Nested ss' (xs ++ ys)
nested-all [] ss xs n ss' e =
    let same : ss ≡ ss' = cc in
    subst (Nested ss') (sym (append-nil xs)) (subst (λ r. Nested r xs) same n)
nested-all (y ∷ ys) ss xs n ss' e =
    option_and_then_some (nest_all ys) (nest y ss) ss' e (λ next here rest.
    subst (Nested ss') (append_assoc xs (y ∷ []) ys) (nested-all ys next (xs ++ y ∷ []) (nested-by n y (conditional_of y) refl next here) ss' rest))

pub nested-lines : (lines : List Line) → (ss : Sections Line) → nest_all lines [] ≡ Some ss → Nested ss lines
nested-lines lines ss e = nested-all lines [] [] (outside empty tt) ss e

-- a line that closes a section
endif : Line
endif = record { tokens = []; directive = Some (directive.Conditional Endif); standard = C11 }

endif-closes : conditional_of endif ≡ Some Endif
unfolding endif
endif-closes = refl

goes_on : (ss : Sections Line) {xs : List Line} → Nested ss xs → GoesOn xs
goes_on [] (outside g w) = record { group = g; more = []; grouped = w; begins = sym (append-nil (group_lines g)) }
goes_on (s ∷ ss) (inside {before = before} {lines = lines} head n o u) =
    let g = goes_on ss (nested-close head n o u endif endif-closes) in
    record { group = g.group; more = endif ∷ g.more; grouped = g.grouped; begins = g.begins ∙ append_assoc (before ++ head ∷ lines) (endif ∷ []) g.more }

-- lines that are nested make a group
record Grouped (lines : List Line) : Type 0 where
  group : Group
  tree : IsTree lines group

grouped-outside : {xs : List Line} → Nested [] xs → Grouped xs
grouped-outside (outside g w) = record { group = g; tree = record { grouped = w; whole = refl } }

pub accepted : (lines : List Line) → nest_all lines [] ≡ Some [] → (group : Group) × IsTree lines group
accepted lines e = let g = grouped-outside (nested-lines lines [] e) in (g.group, g.tree)

-- a line that may not stand where it does
pub misplaced_at : (before : List Line) (line : Line) (after : List Line) (ss : Sections Line) (place : Place)
    → nest_all before [] ≡ Some ss → nest line ss ≡ None → hash_place line ≡ Some place → Tree (before ++ line ∷ after) (Err place)
misplaced_at before line after ss place e none at = misplaced place (record {
  before = before;
  line = line;
  after = after;
  whole = refl;
  fine = goes_on ss (nested-lines before ss e);
  stuck = λ g.
      let all : nest_all (before ++ line ∷ [] ++ g.more) [] ≡ Some [] = ap (λ ls. nest_all ls []) (sym g.begins) ∙ nest-group g.group g.grouped [] in
      let first : nest_all (before ++ line ∷ [] ++ g.more) [] ≡ None =
      nest_all-append (before ++ line ∷ []) g.more [] ∙ ap (option_and_then (nest_all g.more))
      (nest_all-append before (line ∷ []) [] ∙ (ap (option_and_then (nest_all (line ∷ []))) e ∙ ap (option_and_then (nest_all [])) none)) in
      cc;
  at = at;
})

-- a section that is open at the end
open-inside : {s : Line × Bool} {ss : Sections Line} {xs : List Line} (place : Place) → Nested (s ∷ ss) xs → hash_place s.0 ≡ Some place → IsOpenAtEnd xs place
open-inside {s} {ss} place (inside {before = before} {lines = lines} {b = b} head n o u) at = record {
  before = before;
  head = head;
  after = lines;
  whole = refl;
  fine = goes_on (s ∷ ss) (inside head n o u);
  opens = o;
  has_else = b;
  unclosed = u;
  at = at;
}

pub open_at_end : (lines : List Line) (s : Line × Bool) (ss : Sections Line) (place : Place) → nest_all lines [] ≡ Some (s ∷ ss) → hash_place s.0 ≡ Some place → Tree lines (Err place)
open_at_end lines s ss place e at = unclosed place (open-inside place (nested-lines lines (s ∷ ss) e) at)

opens_inside : {s : Line × Bool} {ss : Sections Line} {xs : List Line} → Nested (s ∷ ss) xs → Opens s.0
opens_inside (inside head n o u) = o

-- the first line of an open section is a directive
pub head_named : (lines : List Line) (s : Line × Bool) (ss : Sections Line) → nest_all lines [] ≡ Some (s ∷ ss) → Opens s.0
head_named lines s ss e = opens_inside (nested-lines lines (s ∷ ss) e)

-- and stands among the lines
pub record Stands (line : Line) (lines : List Line) : Type 0 where
  pub before : List Line
  pub after : List Line
  pub whole : lines ≡ before ++ line ∷ after

stands_inside : {s : Line × Bool} {ss : Sections Line} {xs : List Line} → Nested (s ∷ ss) xs → Stands s.0 xs
stands_inside (inside {before = before} {lines = lines} head n o u) = record { before = before; after = lines; whole = refl }

pub head_within : (lines : List Line) (s : Line × Bool) (ss : Sections Line) → nest_all lines [] ≡ Some (s ∷ ss) → Stands s.0 lines
head_within lines s ss e = stands_inside (nested-lines lines (s ∷ ss) e)
