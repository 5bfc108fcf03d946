-- The lines of a file are nested in one way.
use Rattle.std.proofs.Common.{◌≡◌, Bool, true, false, List, [], ◌∷◌, ◌++◌, Option, Some, None, Result, Ok, Err, refl, sym, ap, ◌∙◌, subst, append_assoc, append-nil}
use Rattle.c11_directives.specs.declared.directive.Conditional.{Conditional}
use Rattle.c11_directives.specs.declared.directive.Conditional.TheVariants.{Opening, Alternative, Else, Endif}
use Rattle.c11_directives.specs.Lines.{Line, conditional_of, Group, Branches, empty, plain, section, closing, otherwise, alternative, group_lines, branch_lines, Opens, IsGroup, AreBranches, IsTree, GoesOn, IsMisplaced, IsOpenAtEnd, Unclosed, first, more, last, hash_place, Tree, nested, misplaced, unclosed}
use Rattle.sc_model.specs.Token.{Place}

-- the directive goes on with a section or ends it
abbrev is_branch : Option Conditional → Bool
is_branch (Some (Alternative test)) = true
is_branch (Some Else) = true
is_branch (Some Endif) = true
is_branch _ = false

Opens-branch : {line : Line} → Opens line → is_branch (conditional_of line) ≡ false
Opens-branch o = ap is_branch o.named

-- a group can't go on with these lines
abbrev stops : List Line → Bool
stops [] = true
stops (line ∷ lines) = is_branch (conditional_of line)

stops-branches : (bs : Branches) → AreBranches bs → (rest : List Line) → stops (branch_lines bs ++ rest) ≡ true
stops-branches (closing line) w rest = ap is_branch w
stops-branches (otherwise head g line) w rest = ap is_branch w.0
stops-branches (alternative head g bs) w rest = ap is_branch w.0.named

-- two groups with what stands behind them
record Same {T : Type 0} (x y : T) (r s : List Line) : Type 0 where
  one : x ≡ y
  rest : r ≡ s

-- no line is both a plain one, or one that opens a section, and the first behind a group
past-plain : {line : Line} {lines rest : List Line} {P : Type 0} → conditional_of line ≡ None → stops rest ≡ true → line ∷ lines ≡ rest → P
past-plain {line} {lines} {rest} named stop e =
    let fails : stops (line ∷ lines) ≡ false = ap is_branch named in
    let same : stops (line ∷ lines) ≡ stops rest = ap stops e in
    cc

past-opening : {head : Line} {lines rest : List Line} {P : Type 0} → Opens head → stops rest ≡ true → head ∷ lines ≡ rest → P
past-opening {head} {lines} {rest} opens stop e =
    let fails : stops (head ∷ lines) ≡ false = Opens-branch opens in
    let same : stops (head ∷ lines) ≡ stops rest = ap stops e in
    cc

plain-opening : {line : Line} {P : Type 0} → conditional_of line ≡ None → Opens line → P
plain-opening none opens = let some = opens.named in cc

mutual
  group-same : (g h : Group) → IsGroup g → IsGroup h → (r s : List Line) → stops r ≡ true → stops s ≡ true → group_lines g ++ r ≡ group_lines h ++ s → Same g h r s
  group-same empty empty w v r s stop stop' e = record { one = refl; rest = e }
  group-same empty (plain line rest) w v r s stop stop' e = past-plain v.0 stop (sym e)
  group-same empty (section head g bs rest) w v r s stop stop' e = past-opening v.0 stop (sym e)
  group-same (plain line rest) empty w v r s stop stop' e = past-plain w.0 stop' e
  group-same (plain line rest) (plain line' rest') w v r s stop stop' e =
      let lines : line ≡ line' = cc in
      let rests : group_lines rest ++ r ≡ group_lines rest' ++ s = cc in
      let more = group-same rest rest' w.1 v.1 r s stop stop' rests in
      let one = more.one in
      record { one = cc; rest = more.rest }
  group-same (plain line rest) (section head g bs rest') w v r s stop stop' e =
      let lines : line ≡ head = cc in
      plain-opening (subst (λ l. conditional_of l ≡ None) lines w.0) v.0
  group-same (section head g bs rest) empty w v r s stop stop' e = past-opening w.0 stop' e
  group-same (section head g bs rest) (plain line rest') w v r s stop stop' e =
      let lines : head ≡ line = cc in
      plain-opening v.0 (subst Opens lines w.0)
  group-same (section head g bs rest) (section head' g' bs' rest') w v r s stop stop' e =
      let heads : head ≡ head' = cc in
      let all : (group_lines g ++ branch_lines bs ++ group_lines rest) ++ r ≡ (group_lines g' ++ branch_lines bs' ++ group_lines rest') ++ s = cc in
      let apart : group_lines g ++ (branch_lines bs ++ (group_lines rest ++ r)) ≡ group_lines g' ++ (branch_lines bs' ++ (group_lines rest' ++ s)) = simp append_assoc at all in
      let groups = group-same g g' w.1 v.1 (branch_lines bs ++ (group_lines rest ++ r)) (branch_lines bs' ++ (group_lines rest' ++ s)) (stops-branches bs w.2 (group_lines rest ++ r)) (stops-branches bs' v.2 (group_lines rest' ++ s)) apart in
      let branches = branches-same bs bs' w.2 v.2 (group_lines rest ++ r) (group_lines rest' ++ s) groups.rest in
      let more = group-same rest rest' w.3 v.3 r s stop stop' branches.rest in
      let a = groups.one in
      let b = branches.one in
      let c = more.one in
      record { one = cc; rest = more.rest }

  branches-same : (bs cs : Branches) → AreBranches bs → AreBranches cs → (r s : List Line) → branch_lines bs ++ r ≡ branch_lines cs ++ s → Same bs cs r s
  branches-same (closing line) (closing line') w v r s e =
      let lines : line ≡ line' = cc in
      record { one = cc; rest = cc }
  branches-same (closing line) (otherwise head g line') w v r s e = cc
  branches-same (closing line) (alternative head g bs) w v r s e = cc
  branches-same (otherwise head g line) (closing line') w v r s e = cc
  branches-same (otherwise head g line) (otherwise head' g' line') w v r s e =
      let heads : head ≡ head' = cc in
      let all : (group_lines g ++ line ∷ []) ++ r ≡ (group_lines g' ++ line' ∷ []) ++ s = cc in
      let apart : group_lines g ++ line ∷ r ≡ group_lines g' ++ line' ∷ s = simp append_assoc at all in
      let groups = group-same g g' w.1 v.1 (line ∷ r) (line' ∷ s) (ap is_branch w.2) (ap is_branch v.2) apart in
      let a = groups.one in
      let b = groups.rest in
      record { one = cc; rest = cc }
  branches-same (otherwise head g line) (alternative head' g' bs') w v r s e = cc
  branches-same (alternative head g bs) (closing line) w v r s e = cc
  branches-same (alternative head g bs) (otherwise head' g' line) w v r s e = cc
  branches-same (alternative head g bs) (alternative head' g' bs') w v r s e =
      let heads : head ≡ head' = cc in
      let all : (group_lines g ++ branch_lines bs) ++ r ≡ (group_lines g' ++ branch_lines bs') ++ s = cc in
      let apart : group_lines g ++ (branch_lines bs ++ r) ≡ group_lines g' ++ (branch_lines bs' ++ s) = simp append_assoc at all in
      let groups = group-same g g' w.1 v.1 (branch_lines bs ++ r) (branch_lines bs' ++ s) (stops-branches bs w.2 r) (stops-branches bs' v.2 s) apart in
      let branches = branches-same bs bs' w.2 v.2 r s groups.rest in
      let a = groups.one in
      let b = branches.one in
      record { one = cc; rest = branches.rest }

pub tree-same : {lines : List Line} {g h : Group} → IsTree lines g → IsTree lines h → g ≡ h
tree-same {lines} {g} {h} t u =
    (group-same g h t.grouped u.grouped [] [] refl refl (append-nil (group_lines g) ∙ (t.whole ∙ (sym u.whole ∙ sym (append-nil (group_lines h)))))).one

-- The first lines of the sections that are open, the innermost first, after one more line.
abbrev open_by : Line → List Line → Option Conditional → List Line
open_by line heads (Some (Opening test)) = line ∷ heads
open_by line [] (Some Endif) = []
open_by line (head ∷ heads) (Some Endif) = heads
open_by line heads _ = heads

abbrev open_after : List Line → List Line → List Line
open_after heads [] = heads
open_after heads (line ∷ lines) = open_after (open_by line heads (conditional_of line)) lines

open_after-append : (heads xs ys : List Line) → open_after heads (xs ++ ys) ≡ open_after (open_after heads xs) ys
open_after-append heads [] ys = refl
open_after-append heads (x ∷ xs) ys = open_after-append (open_by x heads (conditional_of x)) xs ys

open_by-is : (line : Line) (heads : List Line) {c : Option Conditional} → conditional_of line ≡ c → open_by line heads (conditional_of line) ≡ open_by line heads c
open_by-is line heads e = ap (open_by line heads) e

Opens-open : (line : Line) (heads : List Line) → Opens line → open_by line heads (conditional_of line) ≡ line ∷ heads
Opens-open line heads o = open_by-is line heads o.named

-- a group closes what it opens
mutual
  group-open : (g : Group) → IsGroup g → (heads : List Line) → open_after heads (group_lines g) ≡ heads
  group-open empty w heads = refl
  group-open (plain line rest) w heads = ap (λ hs. open_after hs (group_lines rest)) (open_by-is line heads w.0) ∙ group-open rest w.1 heads
  group-open (section head g bs rest) w heads =
      ap (λ hs. open_after hs (group_lines g ++ branch_lines bs ++ group_lines rest)) (Opens-open head heads w.0)
      ∙ (open_after-append (head ∷ heads) (group_lines g ++ branch_lines bs) (group_lines rest)
      ∙ (ap (λ hs. open_after hs (group_lines rest)) (open_after-append (head ∷ heads) (group_lines g) (branch_lines bs)
      ∙ (ap (λ hs. open_after hs (branch_lines bs)) (group-open g w.1 (head ∷ heads)) ∙ branches-open bs w.2 head heads))
      ∙ group-open rest w.3 heads))

  branches-open : (bs : Branches) → AreBranches bs → (head : Line) (heads : List Line) → open_after (head ∷ heads) (branch_lines bs) ≡ heads
  branches-open (closing line) w head heads = open_by-is line (head ∷ heads) w
  branches-open (otherwise next g line) w head heads =
      ap (λ hs. open_after hs (group_lines g ++ line ∷ [])) (open_by-is next (head ∷ heads) w.0)
      ∙ (open_after-append (head ∷ heads) (group_lines g) (line ∷ [])
      ∙ (ap (λ hs. open_after hs (line ∷ [])) (group-open g w.1 (head ∷ heads)) ∙ open_by-is line (head ∷ heads) w.2))
  branches-open (alternative next g bs) w head heads =
      ap (λ hs. open_after hs (group_lines g ++ branch_lines bs)) (open_by-is next (head ∷ heads) w.0.named)
      ∙ (open_after-append (head ∷ heads) (group_lines g) (branch_lines bs)
      ∙ (ap (λ hs. open_after hs (branch_lines bs)) (group-open g w.1 (head ∷ heads)) ∙ branches-open bs w.2 head heads))

-- the last branch so far, behind others
branch-open : (lines : List Line) (head : Line) (g : Group) (heads : List Line) (c : Conditional) → conditional_of head ≡ Some c → open_by head heads (Some c) ≡ heads → IsGroup g
    → open_after heads lines ≡ heads → open_after heads (lines ++ head ∷ group_lines g) ≡ heads
branch-open lines head g heads c named stays w before =
    open_after-append heads lines (head ∷ group_lines g)
    ∙ (ap (λ hs. open_after hs (head ∷ group_lines g)) before
    ∙ (ap (λ hs. open_after hs (group_lines g)) (open_by-is head heads named ∙ stays) ∙ group-open g w heads))

Unclosed-open : {has_else : Bool} {lines : List Line} → Unclosed has_else lines → (heads : List Line) → open_after heads lines ≡ heads
Unclosed-open (first g w) heads = group-open g w heads
Unclosed-open (more {lines} head g u named w) heads = branch-open lines head g heads (Alternative named.test) named.named refl w (Unclosed-open u heads)
Unclosed-open (last {lines} head g u named w) heads = branch-open lines head g heads Else named refl w (Unclosed-open u heads)

open-tree : {lines : List Line} {g : Group} → IsTree lines g → open_after [] lines ≡ []
open-tree {lines} {g} t = ap (open_after []) (sym t.whole) ∙ group-open g t.grouped []

open-at_end : {lines : List Line} {place : Place} (e : IsOpenAtEnd lines place) → open_after [] lines ≡ e.head ∷ open_after [] e.before
open-at_end e =
    ap (open_after []) e.whole
    ∙ (open_after-append [] e.before (e.head ∷ e.after)
    ∙ (ap (λ hs. open_after hs e.after) (Opens-open e.head (open_after [] e.before) e.opens) ∙ Unclosed-open e.unclosed (e.head ∷ open_after [] e.before)))

-- the front of a list
record IsFront (xs ys : List Line) : Type 0 where
  rest : List Line
  whole : ys ≡ xs ++ rest

GoesOn-front : {xs ys : List Line} → IsFront xs ys → GoesOn ys → GoesOn xs
GoesOn-front {xs} f g = record {
  group = g.group;
  more = f.rest ++ g.more;
  grouped = g.grouped;
  begins = g.begins ∙ (ap (λ ls. ls ++ g.more) f.whole ∙ append_assoc xs f.rest g.more);
}

-- of two places in a list they are one, or one is before the other
data Places (xs : List Line) (x : Line) (ys : List Line) (y : Line) : Type 0 where
  one : x ≡ y → Places xs x ys y
  before : IsFront (xs ++ x ∷ []) ys → Places xs x ys y
  after : IsFront (ys ++ y ∷ []) xs → Places xs x ys y

IsFront-cons : {z w : Line} {xs ys : List Line} → z ≡ w → IsFront xs ys → IsFront (z ∷ xs) (w ∷ ys)
IsFront-cons e f = record { rest = f.rest; whole = (let whole = f.whole in cc) }

places : (xs : List Line) (x : Line) (xs' ys : List Line) (y : Line) (ys' : List Line) → xs ++ x ∷ xs' ≡ ys ++ y ∷ ys' → Places xs x ys y
places [] x xs' [] y ys' e = one cc
places [] x xs' (w ∷ ys) y ys' e = before (record { rest = ys; whole = cc })
places (z ∷ xs) x xs' [] y ys' e = after (record { rest = xs; whole = cc })
places (z ∷ xs) x xs' (w ∷ ys) y ys' e =
    let same : z ≡ w = cc in
    elim (places xs x xs' ys y ys' cc) [
      | one s ↦ one s
      | before f ↦ before (IsFront-cons same f)
      | after f ↦ after (IsFront-cons (sym same) f)
    ]

-- a prefix of lines that go on isn't stuck
misplaced-not : {lines : List Line} {place : Place} {P : Type 0} → IsMisplaced lines place → GoesOn lines → P
misplaced-not m g = absurd (m.stuck (GoesOn-front (record { rest = m.after; whole = m.whole ∙ sym (append_assoc m.before (m.line ∷ []) m.after) }) g))

IsTree-goes_on : {lines : List Line} {g : Group} → IsTree lines g → GoesOn lines
IsTree-goes_on {lines} {g} t = record { group = g; more = []; grouped = t.grouped; begins = t.whole ∙ sym (append-nil lines) }

misplaced-same : {lines : List Line} {p q : Place} → IsMisplaced lines p → IsMisplaced lines q → p ≡ q
misplaced-same m n =
    elim (places m.before m.line m.after n.before n.line n.after (sym m.whole ∙ n.whole)) [
      | one e ↦ (let a = m.at in let b = n.at in let c = ap hash_place e in cc)
      | before f ↦ absurd (m.stuck (GoesOn-front f n.fine))
      | after f ↦ absurd (n.stuck (GoesOn-front f m.fine))
    ]

open_at_end-same : {lines : List Line} {p q : Place} → IsOpenAtEnd lines p → IsOpenAtEnd lines q → p ≡ q
open_at_end-same d e =
    let heads : d.head ∷ open_after [] d.before ≡ e.head ∷ open_after [] e.before = sym (open-at_end d) ∙ open-at_end e in
    let head : d.head ≡ e.head = cc in
    let a = d.at in
    let b = e.at in
    let c = ap hash_place head in
    cc

nested-closed : {lines : List Line} {g : Group} {place : Place} {P : Type 0} → IsTree lines g → IsOpenAtEnd lines place → P
nested-closed t e =
    let none = open-tree t in
    let some = open-at_end e in
    cc

pub tree-unique : {lines : List Line} {r s : Result Group Place} → Tree lines r → Tree lines s → r ≡ s
tree-unique (nested g t) (nested h u) = ap Ok (tree-same t u)
tree-unique (nested g t) (misplaced q n) = misplaced-not n (IsTree-goes_on t)
tree-unique (nested g t) (unclosed q e) = nested-closed t e
tree-unique (misplaced p m) (nested h u) = misplaced-not m (IsTree-goes_on u)
tree-unique (misplaced p m) (misplaced q n) = ap Err (misplaced-same m n)
tree-unique (misplaced p m) (unclosed q e) = misplaced-not m e.fine
tree-unique (unclosed p d) (nested h u) = nested-closed u d
tree-unique (unclosed p d) (misplaced q n) = misplaced-not n d.fine
tree-unique (unclosed p d) (unclosed q e) = ap Err (open_at_end-same d e)
