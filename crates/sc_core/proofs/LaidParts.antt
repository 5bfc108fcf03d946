-- The parts of a tree that is laid out.
use Rattle.std.proofs.Common.{◌≡◌, ◌∙◌, ℕ, zero, suc, ◌+◌, ◌<◌, ◌≤◌, false, true, List, [], ◌∷◌, ◌++◌, All, length, length-append, map, slice_get, Some, arith, refl, sym, ap, ap₂, subst}
use Rattle.std.proofs.lemmas.Bool.{both_ways}
use Rattle.std.proofs.lemmas.List.{map-append}
use Rattle.std.proofs.lemmas.List.Elements.{All-head, All-tail}
use Rattle.std.proofs.lemmas.Option.{same_Some}
use Rattle.std.specs.List.{Contains}
use Rattle.c11_parsing.specs.Trees.{Tree, Forest}
use Rattle.sc_base.specs.declared.id.TreeId.{TreeId}
use Rattle.sc_base.specs.Seen.{text_at, seen_place}
use Rattle.sc_model.specs.Sets.{Sets}
use Rattle.sc_project.proofs.Laying.{Stand, Stand-back, Stand-front, Stand-whole, choice_only, cons_first, leaf_only, node_only, root_is_last}
use Rattle.sc_project.specs.Layout.{AllLaid, LaysOut, leaf_laid, node_laid, choice_laid, none_laid, more_laid}
use Rattle.sc_show.proofs.TreeNumbers.{number_at}
use Rattle.sc_show.proofs.TreeShown.{shown_token}
use Rattle.sc_show.specs.PlainText.{all_parts_from, behind, parts_from, root_from, roots_from}
use Rattle.sc_show.specs.TreeShows.{FinishesIn, nowhere_in, was_there_in, comes_in, AreNumbersOf, no_numbers, more_numbers, ArePartsOf, no_parts, more_parts, IsPartOf, leaf_shown, node_shown, choice_shown, shown_forest, shown_tree}
use Rattle.sc_text.specs.Answer.{Part, choice_part, leaf_part, node_part}
use Rattle.sc_tree.specs.Lines.{Line, leaf, node, choice, children_of}
use Rattle.sc_tree.specs.Reads.{AllRead, Reads, Tables, leaf_reads, node_reads, choice_reads, none_read, more_read}
use Rattle.sc_tree.specs.Walks.{is_choice}

-- ---- ids in order

-- so many ids, from this number on
abbrev pub ids_from : ℕ → ℕ → List TreeId
ids_from start zero = []
ids_from start (suc n) = record { 0 = start } ∷ ids_from (suc start) n

length-ids : (start n : ℕ) → length (ids_from start n) ≡ n
length-ids start zero = refl
length-ids start (suc n) = ap suc (length-ids (suc start) n)

ids-more : (start n : ℕ) (id : TreeId) → id.0 ≡ start + n → ids_from start n ++ id ∷ [] ≡ ids_from start (suc n)
ids-more start zero id is =
    let same : id.0 ≡ start = is ∙ omega arith in
    ap (λ (k : ℕ). let x : TreeId = record { 0 = k } in x ∷ []) same
ids-more start (suc n) id is = ap (λ (ids : List TreeId). record { 0 = start } ∷ ids) (ids-more (suc start) n id (is ∙ omega arith))

pub id-at : (start n k : ℕ) (id : TreeId) → slice_get (ids_from start n) k ≡ Some id → id.0 ≡ start + k
id-at start zero k id at = absurd (cc)
id-at start (suc n) zero id at =
    let same : start ≡ id.0 = ap (λ (x : TreeId). x.0) (same_Some (record { 0 = start }) id at) in
    sym same ∙ omega arith
id-at start (suc n) (suc k) id at = id-at (suc start) n k id at ∙ omega arith

within-ids : (n : ℕ) (id : TreeId) → Contains (ids_from 0 n) id → id.0 < n
within-ids n id has =
    let is = id-at 0 n has.0 id (number_at (ids_from 0 n) id has) in
    let long = length-ids 0 n in
    let below = has.1 in
    omega (arith, is, long, below)

-- ---- the walk to what is laid out

-- The root of what is laid out stands in the store, and a walk that has come to all before it
-- finishes what is below it.
record IsPlaced (store : List Line) (start root : ℕ) (laid : List Line) : Type 0 where
  line : Line
  at : slice_get store root ≡ Some line
  later : start ≤ root
  last : root + 1 ≡ start + length laid
  below : (before : List TreeId) → FinishesIn store (ids_from 0 start) (children_of line) before → before ≡ ids_from 0 root

-- the walk comes to the root, and finishes all of it
passes : {store laid : List Line} {start root : ℕ} → IsPlaced store start root laid → (top : TreeId) → top.0 ≡ root → {others now : List TreeId}
    → FinishesIn store (ids_from 0 start) (top ∷ others) now → FinishesIn store (ids_from 0 (start + length laid)) others now
passes {start = start} placed top is (was_there_in _ now _ others has rest) =
    let below = within-ids start top has in
    let later = placed.later in
    absurd (omega (arith, is, below, later))
passes {store = store} {laid = laid} {start = start} {root = root} placed top is (comes_in _ before now _ others line fresh at under rest) =
    let same : line ≡ placed.line = same_Some line placed.line (sym at ∙ (ap (slice_get store) is ∙ placed.at)) in
    let done = placed.below before (subst (λ (l : Line). FinishesIn store (ids_from 0 start) (children_of l) before) same under) in
    let last = placed.last in
    let more : suc root ≡ start + length laid = omega (arith, last) in
    let ids = ap (λ (ids : List TreeId). ids ++ top ∷ []) done ∙ (ids-more 0 root top (is ∙ omega arith) ∙ ap (ids_from 0) more) in
    subst (λ (ids : List TreeId). FinishesIn store ids others now) ids rest

-- a walk to nowhere finishes nothing
pub nothing-more : {store : List Line} {done now : List TreeId} → FinishesIn store done [] now → now ≡ done
nothing-more (nowhere_in _) = refl

module _ (sets : Sets) (lines : List Line) (c : List ℕ) (store : List Line) where
  mutual
    placed : {id start root : ℕ} {laid : List Line} → LaysOut sets lines c id start laid root → Stand store start laid → IsPlaced store start root laid
    placed (leaf_laid id start place spelling at) stand = record {
      line = leaf place spelling;
      at = let here : start ≡ start + 0 = omega arith in ap (slice_get store) here ∙ stand.each 0 (omega arith);
      later = omega arith;
      last = refl;
      below = λ before finishes. nothing-more finishes;
    }
    placed (node_laid id start production children roots below at all) stand = record {
      line = node production roots;
      at =
          let here : start + length below ≡ (start + length below) + 0 = omega arith in
          ap (slice_get store) here ∙ (Stand-back store below (node production roots ∷ []) start stand).each 0 (omega arith);
      later = omega arith;
      last = root_is_last sets lines c id start (start + length below) (below ++ node production roots ∷ []) (node_laid id start production children roots below at all);
      below = all-finish all (Stand-front store below (node production roots ∷ []) start stand);
    }
    placed (choice_laid id start root branches child laid at own one rest) stand = placed rest stand

    all-finish : {children roots : List TreeId} {start : ℕ} {below : List Line} → AllLaid sets lines c children start below roots → Stand store start below
        → (now : List TreeId) → FinishesIn store (ids_from 0 start) roots now → now ≡ ids_from 0 (start + length below)
    all-finish (none_laid start) stand now finishes = let same : start ≡ start + 0 = omega arith in nothing-more finishes ∙ ap (ids_from 0) same
    all-finish (more_laid child root children roots start laid rest first others) stand now finishes =
        let passed = passes (placed first (Stand-front store laid rest start stand)) root refl finishes in
        let long : (start + length laid) + length rest ≡ start + length (laid ++ rest) = simp length-append (omega arith) in
        all-finish others (Stand-back store laid rest start stand) now passed ∙ ap (ids_from 0) long

-- a walk to the root of a store that is laid out finishes its lines in order
pub laid-ids : (sets : Sets) (lines : List Line) (c : List ℕ) (id : ℕ) (root : TreeId) (store : List Line) (ids : List TreeId) → LaysOut sets lines c id 0 store root.0
    → FinishesIn store [] (root ∷ []) ids → ids ≡ ids_from 0 (length store)
laid-ids sets lines c id root store ids out finishes =
    let whole : 0 + length store ≡ length store = omega arith in
    nothing-more (passes (placed sets lines c store out (Stand-whole store)) root refl finishes) ∙ ap (ids_from 0) whole

-- ---- the parts of its lines

-- what a line without choices is shown as, where the ids are the numbers
abbrev pub part_of_line : (names files : List (List ℕ)) → Line → Part
part_of_line names files (leaf place spelling) = leaf_part (record { place = seen_place files place; spelling = text_at names spelling.0 })
part_of_line names files (node production children) = node_part production (map (λ (child : TreeId). child.0) children)
part_of_line names files (choice branches) = choice_part []

numbers-are : (n : ℕ) {children : List TreeId} {numbers : List ℕ} → AreNumbersOf (ids_from 0 n) children numbers → numbers ≡ map (λ (child : TreeId). child.0) children
numbers-are n no_numbers = refl
numbers-are n (more_numbers id number others numbers at rest) =
    let here : number ≡ id.0 = sym (id-at 0 n number id at ∙ omega arith) in
    ap₂ (λ (k : ℕ) (ks : List ℕ). k ∷ ks) here (numbers-are n rest)

module _ {s : Sets} {names files : List (List ℕ)} (n : ℕ) where
  part-is : {line : Line} {part : Part} → IsPartOf s names files (ids_from 0 n) line part → is_choice line ≡ false → part ≡ part_of_line names files line
  part-is (leaf_shown place spelling) plain = refl
  part-is (node_shown production children numbers are) plain = ap (node_part production) (numbers-are n are)
  part-is (choice_shown branches tests are) plain = absurd (both_ways true plain refl)

  pub parts-are : {store : List Line} (start : ℕ) (lines : List Line) {parts : List Part} → Stand store start lines → All (λ (line : Line). is_choice line ≡ false) lines
      → ArePartsOf s names files store (ids_from 0 n) (ids_from start (length lines)) parts → parts ≡ map (part_of_line names files) lines
  parts-are start [] stand plain no_parts = refl
  parts-are {store = store} start (x ∷ xs) stand plain (more_parts _ line part _ parts at is rest) =
      let here : start ≡ start + 0 = omega arith in
      let same : line ≡ x = same_Some line x (sym at ∙ (ap (slice_get store) here ∙ stand.each 0 (omega arith))) in
      let next : start + 1 ≡ suc start = omega arith in
      let first = part-is (subst (λ (l : Line). IsPartOf s names files (ids_from 0 n) l part) same is) (All-head (λ (l : Line). is_choice l ≡ false) x xs plain) in
      let behind = subst (λ (k : ℕ). Stand store k xs) next (Stand-back store (x ∷ []) xs start stand) in
      ap₂ (λ (p : Part) (ps : List Part). p ∷ ps) first (parts-are (suc start) xs behind (All-tail (λ (l : Line). is_choice l ≡ false) x xs plain) rest)

-- ---- they are those of the tree

record IsRow (w : Tables) (start : ℕ) (below : List Line) (roots : List TreeId) (forest : Forest) : Type 0 where
  parts : map (part_of_line w.names w.files) below ≡ all_parts_from start (shown_forest forest)
  numbers : map (λ (root : TreeId). root.0) roots ≡ roots_from start (shown_forest forest)
  next : start + length below ≡ behind start (shown_forest forest)

-- what is laid out of a tree is shown as its parts
pub record IsShownAs (w : Tables) (start root : ℕ) (laid : List Line) (tree : Tree) : Type 0 where
  pub parts : map (part_of_line w.names w.files) laid ≡ parts_from start (shown_tree tree)
  pub number : root ≡ root_from start (shown_tree tree)

module _ (w : Tables) (c : List ℕ) where
  mutual
    pub shown-as : (id start root : ℕ) (laid : List Line) (tree : Tree) → Reads w c id tree → LaysOut w.sets w.lines c id start laid root → IsShownAs w start root laid tree
    shown-as id start root laid _ (leaf_reads _ place spelling token at token_at) out =
        let only = leaf_only w.sets w.lines c id start root laid place spelling out at in
        let same = shown_token w.sets w.names w.files w.lines [] w place spelling token refl refl token_at in
        record { parts = ap (map (part_of_line w.names w.files)) only.0 ∙ ap (λ shown. leaf_part shown ∷ []) same; number = only.1 }
    shown-as id start root laid _ (node_reads _ production children forest at read) out =
        let only = node_only w.sets w.lines c id start root laid production children out at in
        let row = all-shown-as children start only.roots only.below forest read only.out in
        record {
          parts =
              ap (map (part_of_line w.names w.files)) only.whole ∙ map-append (part_of_line w.names w.files) only.below (node production only.roots ∷ [])
              ∙ ap₂ (λ (ps : List Part) (ks : List ℕ). ps ++ node_part production ks ∷ []) row.parts row.numbers;
          number = only.last ∙ row.next;
        }
    shown-as id start root laid _ (choice_reads _ branches child tree at own one read) out =
        let only = choice_only w.sets w.lines c id start root laid branches out at in
        let same : only.child ≡ child = cons_first (sym only.one ∙ one) in
        shown-as child.0 start root laid tree read (subst (λ (x : TreeId). LaysOut w.sets w.lines c x.0 start laid root) same only.out)

    all-shown-as : (children : List TreeId) (start : ℕ) (roots : List TreeId) (below : List Line) (forest : Forest) → AllRead w c children forest
        → AllLaid w.sets w.lines c children start below roots → IsRow w start below roots forest
    all-shown-as _ start _ _ _ none_read (none_laid _) = record { parts = refl; numbers = refl; next = omega arith }
    all-shown-as _ start _ _ _ (more_read child children tree forest first rest) (more_laid _ root _ roots _ laid others out all) =
        let one = shown-as child.0 start root.0 laid tree first out in
        let row = all-shown-as children (start + length laid) roots others forest rest all in
        let next : start + length laid ≡ root_from start (shown_tree tree) + 1 = sym (root_is_last w.sets w.lines c child.0 start root.0 laid out) ∙ ap (λ (k : ℕ). k + 1) one.number in
        let long : start + length (laid ++ others) ≡ (start + length laid) + length others = simp length-append (omega arith) in
        record {
          parts =
              map-append (part_of_line w.names w.files) laid others
              ∙ ap₂ (λ (ps qs : List Part). ps ++ qs) one.parts (row.parts ∙ ap (λ (k : ℕ). all_parts_from k (shown_forest forest)) next);
          numbers = ap₂ (λ (k : ℕ) (ks : List ℕ). k ∷ ks) one.number (row.numbers ∙ ap (λ (k : ℕ). roots_from k (shown_forest forest)) next);
          next = long ∙ (row.next ∙ ap (λ (k : ℕ). behind k (shown_forest forest)) next);
        }
