-- The branches of lines that are nested, read from the last line to the first.
use Rattle.std.proofs.Common.{◌≡◌, ℕ, zero, suc, ◌+◌, ◌-◌, ◌<◌, ◌≤◌, true, List, [], ◌∷◌, ◌++◌, length, map, take, drop, get_or, set, add-one, Option, Some, None, refl, sym, ap, ◌∙◌, subst, append_assoc, append-nil, arith}
use Rattle.std.proofs.Math.Seq.{take-append_seam, drop-nil}
use Rattle.std.proofs.lemmas.List.{get_or-drop, get_or-map, length-append, length-map, drop-set}
use Rattle.std.proofs.lemmas.List.Elements.{All-map}
use Rattle.std.proofs.lemmas.Simd.{map-map}
use Rattle.std.specs.Prelude.{All, slice_get}
use Rattle.sc_base.specs.declared.token.Token.{Token}
use Rattle.sc_lines.specs.Branches.{begins_branch, ends_branch, IsNextBranch, ClosesAt, last_branch, more_branches, IsBranchOf, HasBranch, HasBranches, without_branch}
use Rattle.sc_lines.specs.declared.line.Branch.{Branch}
use Rattle.sc_lines.specs.declared.line.Line as declared_line
use Rattle.sc_lines.specs.Judges.{no_line, line_at}
use Rattle.sc_lines.specs.Split.{FollowFrom, AreLines, tokens_of}
use Rattle.sc_lines.specs.Unread.{branch_at, sections_at}
use Rattle.c11_directives.specs.declared.directive.Conditional.{Conditional}
use Rattle.c11_directives.specs.declared.directive.Conditional.TheVariants.{Opening, Alternative, Else, Endif}
use Rattle.c11_directives.specs.Lines.{Line, conditional_in, conditional_of, Group, Branches, empty, plain, section, closing, otherwise, alternative, group_lines, branch_lines, Opens, IsGroup, AreBranches, IsTree}
use Rattle.sc_model.specs.declared.standard.Standard.{Standard}

-- the sections that are open before the lines of these directives, from line i to the last
abbrev pub sections_from : ℕ → List (Option Conditional) → List Branch
sections_from i [] = []
sections_from i (c ∷ cs) = sections_at i (sections_from (suc i) cs) c

-- and the branches of these lines
abbrev pub branches_from : ℕ → List (Option Conditional) → List (Option Branch)
branches_from i [] = []
branches_from i (c ∷ cs) = branch_at (sections_from (suc i) cs) c ∷ branches_from (suc i) cs

-- the list from a place on
rest-at : {T : Type 0} (xs : List T) (i : ℕ) (y : T) (ys : List T) → drop i xs ≡ y ∷ ys → drop (suc i) xs ≡ ys
rest-at {T} [] i y ys e = let none = drop-nil {A = T} i in cc
rest-at (x ∷ xs) zero y ys e = cc
rest-at (x ∷ xs) (suc i) y ys e = rest-at xs i y ys e

past-at : {T : Type 0} (ms xs ys : List T) (i j : ℕ) → j ≡ i + length xs → drop i ms ≡ xs ++ ys → drop j ms ≡ ys
past-at ms [] ys i j at e = let same : j ≡ i = omega arith in ap (λ k. drop k ms) same ∙ e
past-at ms (x ∷ xs) ys i j at e = past-at ms xs ys (suc i) j (omega arith) (rest-at ms i x (xs ++ ys) e)

first-at : {T : Type 0} (xs : List T) (i : ℕ) (d y : T) (ys : List T) → drop i xs ≡ y ∷ ys → get_or xs i d ≡ y
first-at xs i d y ys e =
    let same : i + 0 ≡ i = omega arith in
    ap (λ k. get_or xs k d) (sym same) ∙ (sym (get_or-drop i xs 0 d) ∙ ap (λ l. get_or l 0 d) e)

module _ (ms : List Line) where
  -- from line i on, each line has the branch of the list
  abbrev pub AllFrom : ℕ → List (Option Branch) → Type 0
  AllFrom i [] = Unit {0}
  AllFrom i (b ∷ bs) = HasBranch ms i b × AllFrom (suc i) bs

  -- the lines from line i on were read, and these sections are open before them
  pub record AreRead (i : ℕ) (lines : List Line) (ss : List Branch) : Type 0 where
    pub sections : sections_from i (map conditional_of lines) ≡ ss
    pub branches : AllFrom i (branches_from i (map conditional_of lines))

  line-is : (i : ℕ) (line : Line) (lines : List Line) (c : Option Conditional) → drop i ms ≡ line ∷ lines → conditional_of line ≡ c → conditional_of (line_at ms i) ≡ c
  line-is i line lines c placed e = ap conditional_of (first-at ms i no_line line lines placed) ∙ e

  -- one line more
  read-more : (i : ℕ) (line : Line) (lines : List Line) (c : Option Conditional) (ss : List Branch)
      → conditional_of line ≡ c → HasBranch ms i (branch_at ss c) → AreRead (suc i) lines ss → AreRead i (line ∷ lines) (sections_at i ss c)
  read-more i line lines c ss e has r = record {
    sections = ap (sections_at i (sections_from (suc i) (map conditional_of lines))) e ∙ ap (λ s. sections_at i s c) r.sections;
    branches = (subst (HasBranch ms i) (sym (ap (branch_at (sections_from (suc i) (map conditional_of lines))) e ∙ ap (λ s. branch_at s c) r.sections)) has, r.branches);
  }

  -- the line behind a group
  next-branch : (g : Group) → IsGroup g → (i j : ℕ) (head next : Line) (rest : List Line) → j ≡ suc i + length (group_lines g) → drop i ms ≡ head ∷ (group_lines g ++ next ∷ rest)
      → begins_branch (conditional_of head) ≡ true → ends_branch (conditional_of next) ≡ true → IsNextBranch ms i j
  next-branch g w i j head next rest at placed begins ends =
      let lines = group_lines g in
      let behind : drop (suc i) ms ≡ lines ++ next ∷ rest = rest-at ms i head (lines ++ next ∷ rest) placed in
      let start : i + 1 ≡ suc i = omega arith in
      let size : j - (i + 1) ≡ length lines = omega arith in
      record {
        after = omega arith;
        begins = ap begins_branch (line-is i head (lines ++ next ∷ rest) _ placed refl) ∙ begins;
        between = (
          g,
          record {
            grouped = w;
            whole = sym (ap (λ n. take n (drop (i + 1) ms)) size ∙ (ap (λ k. take (length lines) (drop k ms)) start ∙ (ap (take (length lines)) behind ∙ take-append_seam lines (next ∷ rest))));
          },
        );
        ends = ap ends_branch (line-is j next rest _ (past-at ms lines (next ∷ rest) (suc i) j at behind) refl) ∙ ends;
      }

  -- from line i on, lines that end a branch of a section: its other branches, and what follows
  record Continues (i : ℕ) (lines : List Line) (ss : List Branch) : Type 0 where
    close : ℕ
    first : Line
    rest : List Line
    whole : lines ≡ first ∷ rest
    ends : ends_branch (conditional_of first) ≡ true
    read : AreRead i lines (record { next = i; close = close } ∷ ss)
    closes : (h : ℕ) → IsNextBranch ms h i → ClosesAt ms h close

  -- a branch whose group is followed by such lines
  branch-of : (g : Group) → IsGroup g → (i j : ℕ) (head : Line) (lines : List Line) (ss : List Branch) → j ≡ suc i + length (group_lines g) → drop i ms ≡ head ∷ (group_lines g ++ lines)
      → begins_branch (conditional_of head) ≡ true → (k : Continues j lines ss) → IsBranchOf ms i (record { next = j; close = k.close })
  branch-of g w i j head lines ss at placed begins k =
      let next = next-branch g w i j head k.first k.rest at (placed ∙ ap (λ ls. head ∷ (group_lines g ++ ls)) k.whole) begins k.ends in
      record { next = next; close = k.closes i next }

  closing-read : (line : Line) → conditional_of line ≡ Some Endif → (i j : ℕ) (rest : List Line) (ss : List Branch) → j ≡ suc i → drop i ms ≡ line ∷ rest → AreRead j rest ss → Continues i (line ∷ rest) ss
  closing-read line e i j rest ss at placed r = record {
    close = i;
    first = line;
    rest = rest;
    whole = refl;
    ends = ap ends_branch e;
    read = read-more i line rest (Some Endif) ss e (ap begins_branch (line-is i line rest (Some Endif) placed e)) (subst (λ k. AreRead k rest ss) at r);
    closes = λ h next. last_branch next (line-is i line rest (Some Endif) placed e);
  }

  -- an #elif or #else, its group, and what follows
  later-read : (c : Conditional) → begins_branch (Some c) ≡ true → ends_branch (Some c) ≡ true
      → ((i : ℕ) (b : Branch) (ss : List Branch) → sections_at i (b ∷ ss) (Some c) ≡ record { next = i; close = b.close } ∷ ss)
      → ((b : Branch) (ss : List Branch) → branch_at (b ∷ ss) (Some c) ≡ Some b)
      → (g : Group) → IsGroup g → (i j : ℕ) (head : Line) (lines : List Line) (ss : List Branch) → conditional_of head ≡ Some c → j ≡ suc i + length (group_lines g)
      → drop i ms ≡ head ∷ (group_lines g ++ lines) → (k : Continues j lines ss) → AreRead (suc i) (group_lines g ++ lines) (record { next = j; close = k.close } ∷ ss)
      → Continues i (head ∷ (group_lines g ++ lines)) ss
  later-read c begins ends sections branch g w i j head lines ss e at placed k r =
      let here : Branch = record { next = j; close = k.close } in
      let of : IsBranchOf ms i here = branch-of g w i j head lines ss at placed (ap begins_branch e ∙ begins) k in
      record {
        close = k.close;
        first = head;
        rest = group_lines g ++ lines;
        whole = refl;
        ends = ap ends_branch e ∙ ends;
        read = subst (AreRead i (head ∷ (group_lines g ++ lines))) (sections i here ss)
            (read-more i head (group_lines g ++ lines) (Some c) (here ∷ ss) e (subst (HasBranch ms i) (sym (branch here ss)) of) r);
        closes = λ h next. more_branches next of.close;
      }

  -- the first line of a section
  opening-read : (i : ℕ) (head : Line) (lines : List Line) (b : Branch) (ss : List Branch) → Opens head
      → (begins_branch (conditional_of head) ≡ true → IsBranchOf ms i b) → AreRead (suc i) lines (b ∷ ss) → AreRead i (head ∷ lines) ss
  opening-read i head lines b ss o of r = read-more i head lines (Some (Opening o.test)) (b ∷ ss) o.named (of (ap begins_branch o.named)) r

  -- a group leaves the sections as they were
  mutual
    group-read : (g : Group) → IsGroup g → (i j : ℕ) (rest : List Line) (ss : List Branch) → j ≡ i + length (group_lines g) → drop i ms ≡ group_lines g ++ rest
        → AreRead j rest ss → AreRead i (group_lines g ++ rest) ss
    group-read empty w i j rest ss at placed r = let same : j ≡ i = omega arith in subst (λ k. AreRead k rest ss) same r
    group-read (plain line more) w i j rest ss at placed r =
        read-more i line (group_lines more ++ rest) None ss w.0 (ap begins_branch (line-is i line (group_lines more ++ rest) None placed w.0))
        (group-read more w.1 (suc i) j rest ss (omega arith) (rest-at ms i line (group_lines more ++ rest) placed) r)
    group-read (section head g bs more) w i j rest ss at placed r =
        let tail = group_lines more ++ rest in
        let n = suc i + length (group_lines g) in
        let m = n + length (branch_lines bs) in
        let apart : ((group_lines g ++ branch_lines bs) ++ group_lines more) ++ rest ≡ group_lines g ++ (branch_lines bs ++ tail) =
        append_assoc (group_lines g ++ branch_lines bs) (group_lines more) rest ∙ append_assoc (group_lines g) (branch_lines bs) tail in
        let whole : drop i ms ≡ head ∷ (group_lines g ++ (branch_lines bs ++ tail)) = placed ∙ ap (λ ls. head ∷ ls) apart in
        let first_group = rest-at ms i head (group_lines g ++ (branch_lines bs ++ tail)) whole in
        let first_branch = past-at ms (group_lines g) (branch_lines bs ++ tail) (suc i) n refl first_group in
        let behind = past-at ms (branch_lines bs) tail n m refl first_branch in
        let size : j ≡ m + length (group_lines more) = omega (arith, at, length-append (group_lines g ++ branch_lines bs) (group_lines more), length-append (group_lines g) (branch_lines bs)) in
        let k = branches-read bs w.2 n m tail ss refl first_branch (group-read more w.3 m j rest ss size behind r) in
        let here : Branch = record { next = n; close = k.close } in
        subst (λ ls. AreRead i (head ∷ ls) ss) (sym apart)
        (opening-read i head (group_lines g ++ (branch_lines bs ++ tail)) here ss w.0
        (λ begins. branch-of g w.1 i n head (branch_lines bs ++ tail) ss refl whole begins k)
        (group-read g w.1 (suc i) n (branch_lines bs ++ tail) (here ∷ ss) refl first_group k.read))

    branches-read : (bs : Branches) → AreBranches bs → (i j : ℕ) (rest : List Line) (ss : List Branch) → j ≡ i + length (branch_lines bs) → drop i ms ≡ branch_lines bs ++ rest
        → AreRead j rest ss → Continues i (branch_lines bs ++ rest) ss
    branches-read (closing line) w i j rest ss at placed r = closing-read line w i j rest ss (omega arith) placed r
    branches-read (otherwise head g line) w i j rest ss at placed r =
        let n = suc i + length (group_lines g) in
        let apart : (group_lines g ++ line ∷ []) ++ rest ≡ group_lines g ++ line ∷ rest = append_assoc (group_lines g) (line ∷ []) rest in
        let whole : drop i ms ≡ head ∷ (group_lines g ++ line ∷ rest) = placed ∙ ap (λ ls. head ∷ ls) apart in
        let group = rest-at ms i head (group_lines g ++ line ∷ rest) whole in
        let behind = past-at ms (group_lines g) (line ∷ rest) (suc i) n refl group in
        let size : j ≡ suc n = omega (arith, at, length-append (group_lines g) (line ∷ [])) in
        let k = closing-read line w.2 n j rest ss size behind r in
        subst (λ ls. Continues i (head ∷ ls) ss) (sym apart)
        (later-read Else refl refl (λ i b ss. refl) (λ b ss. refl) g w.1 i n head (line ∷ rest) ss w.0 refl whole k
        (group-read g w.1 (suc i) n (line ∷ rest) (record { next = n; close = k.close } ∷ ss) refl group k.read))
    branches-read (alternative head g bs) w i j rest ss at placed r =
        let n = suc i + length (group_lines g) in
        let apart : (group_lines g ++ branch_lines bs) ++ rest ≡ group_lines g ++ (branch_lines bs ++ rest) = append_assoc (group_lines g) (branch_lines bs) rest in
        let whole : drop i ms ≡ head ∷ (group_lines g ++ (branch_lines bs ++ rest)) = placed ∙ ap (λ ls. head ∷ ls) apart in
        let group = rest-at ms i head (group_lines g ++ (branch_lines bs ++ rest)) whole in
        let behind = past-at ms (group_lines g) (branch_lines bs ++ rest) (suc i) n refl group in
        let size : j ≡ n + length (branch_lines bs) = omega (arith, at, length-append (group_lines g) (branch_lines bs)) in
        let k = branches-read bs w.2 n j rest ss size behind r in
        subst (λ ls. Continues i (head ∷ ls) ss) (sym apart)
        (later-read (Alternative w.0.test) refl refl (λ i b ss. refl) (λ b ss. refl) g w.1 i n head (branch_lines bs ++ rest) ss w.0.named refl whole k
        (group-read g w.1 (suc i) n (branch_lines bs ++ rest) (record { next = n; close = k.close } ∷ ss) refl group k.read))

  -- the lines of a whole file
  tree-read : (g : Group) → IsTree ms g → AreRead 0 ms []
  tree-read g t =
      let all : group_lines g ++ [] ≡ ms = append-nil (group_lines g) ∙ t.whole in
      subst (λ ls. AreRead 0 ls []) all (group-read g t.grouped 0 (0 + length (group_lines g)) [] [] refl (sym all) (record { sections = refl; branches = tt }))

  branch-each : (i : ℕ) (found : List declared_line.Line) → AllFrom i (map (λ l. l.branch) found) → (k n : ℕ) → n ≡ i + k → (line : declared_line.Line) → slice_get found k ≡ Some line → HasBranch ms n line.branch
  branch-each i [] all k n at line e = cc
  branch-each i (l ∷ ls) all zero n at line e =
      let here : i ≡ n = omega arith in
      let same : l ≡ line = cc in
      subst (λ m. HasBranch ms m line.branch) here (subst (λ (x : declared_line.Line). HasBranch ms i x.branch) same all.0)
  branch-each i (l ∷ ls) all (suc k) n at line e = branch-each (suc i) ls all.1 k n (omega arith) line e

  pub has-branches : (g : Group) → IsTree ms g → (found : List declared_line.Line) → map (λ l. l.branch) found ≡ branches_from 0 (map conditional_of ms) → HasBranches ms found
  has-branches g t found e =
      let r = tree-read g t in
      record { each = λ i line is. branch-each 0 found (subst (AllFrom 0) (sym e) r.branches) i i (omega arith) line is }

-- a step to the line in front
pub record IsReadFrom (lines : List declared_line.Line) (i : ℕ) (ss : List Branch) : Type 0 where
  pub sections : ss ≡ sections_from i (map (λ l. conditional_in l.directive) (drop i lines))
  pub branches : map (λ l. l.branch) (drop i lines) ≡ branches_from i (map (λ l. conditional_in l.directive) (drop i lines))

pub read-step : (lines : List declared_line.Line) (i j : ℕ) (d : declared_line.Line) (b : Option Branch) (ss next : List Branch) → i ≡ suc j → j < length lines
    → b ≡ branch_at ss (conditional_in (get_or lines j d).directive) → next ≡ sections_at j ss (conditional_in (get_or lines j d).directive) → IsReadFrom lines i ss → IsReadFrom (set lines j (record (get_or lines j d) { branch = b })) j next
read-step lines i j d b ss next at h is_b is_next r =
    let line = get_or lines j d in
    let rest = drop (suc j) lines in
    let read : IsReadFrom lines (suc j) ss = subst (λ k. IsReadFrom lines k ss) at r in
    let from : drop j (set lines j (record line { branch = b })) ≡ record line { branch = b } ∷ rest =
    drop-set lines j (record line { branch = b }) h ∙ ap (λ k. record line { branch = b } ∷ drop k lines) (add-one j) in
    record {
      sections = is_next ∙ (ap (λ s. sections_at j s (conditional_in line.directive)) read.sections ∙ ap (λ ls. sections_from j (map (λ (l : declared_line.Line). conditional_in l.directive) ls)) (sym from));
      branches =
          ap (map (λ (l : declared_line.Line). l.branch)) from
          ∙ (ap (λ x. x ∷ map (λ (l : declared_line.Line). l.branch) rest) (is_b ∙ ap (λ s. branch_at s (conditional_in line.directive)) read.sections)
          ∙ (ap (λ bs. branch_at (sections_from (suc j) (map (λ (l : declared_line.Line). conditional_in l.directive) rest)) (conditional_in line.directive) ∷ bs) read.branches
          ∙ ap (λ ls. branches_from j (map (λ (l : declared_line.Line). conditional_in l.directive) ls)) (sym from)));
    }

-- what doesn't depend on the branches of the lines
pub others-same : {T : Type 0} (f : declared_line.Line → T) (a b : List declared_line.Line) → map without_branch a ≡ map without_branch b
    → map (λ l. f (without_branch l)) a ≡ map (λ l. f (without_branch l)) b
others-same f a b e = sym (map-map f without_branch a) ∙ (ap (map f) e ∙ map-map f without_branch b)

all-others : (P : declared_line.Line → Type 0) (ls : List declared_line.Line) → All P (map without_branch ls) → All (λ l. P (without_branch l)) ls
all-others P ls all = λ k d h. subst P (get_or-map without_branch ls k d (without_branch d) h) (all k (without_branch d) (omega (arith, length-map ls without_branch, h)))

-- where lines stand doesn't depend on their branches
follow-without : (n : ℕ) (ls : List declared_line.Line) → FollowFrom n ls → FollowFrom n (map without_branch ls)
follow-without n [] f = tt
follow-without n (l ∷ ls) f = (f.0, follow-without (l.end + 1) ls f.1)

follow-with : (n : ℕ) (ls : List declared_line.Line) → FollowFrom n (map without_branch ls) → FollowFrom n ls
follow-with n [] f = tt
follow-with n (l ∷ ls) f = (f.0, follow-with (l.end + 1) ls f.1)

follow-others : (n : ℕ) (a b : List declared_line.Line) → map without_branch a ≡ map without_branch b → FollowFrom n b → FollowFrom n a
follow-others n a b e f = follow-with n a (subst (FollowFrom n) (sym e) (follow-without n b f))

pub lines-same : (standard : Standard) (names : List (List ℕ)) (tokens : List Token) (a b : List declared_line.Line) → map without_branch a ≡ map without_branch b → AreLines standard names tokens b → AreLines standard names tokens a
lines-same standard names tokens a b e are = record {
  tokens_are = others-same (tokens_of tokens) a b e ∙ are.tokens_are;
  directives = others-same (λ l. l.directive) a b e ∙ are.directives;
  within =
      let within = λ (l : declared_line.Line). (l.first ≤ l.end) × (l.end ≤ length tokens) in
      all-others within a (subst (All within) (sym e) (All-map within without_branch b are.within));
  follow = follow-others 0 a b e are.follow;
}
