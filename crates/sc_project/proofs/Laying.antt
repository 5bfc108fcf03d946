-- What is laid out, and what it stands for.
use Rattle.std.proofs.Common.{◌≡◌, ℕ, ◌+◌, ◌<◌, List, [], ◌∷◌, ◌++◌, length, Some, slice_get, All, false, refl, sym, ◌∙◌, ap, subst, arith, zero-add, suc-add, length-append}
use Rattle.std.proofs.lemmas.List.Elements.{All-nil, All-cons, All-append}
use Rattle.std.proofs.lemmas.Option.{slice_get_within}
use Rattle.c11_parsing.specs.Trees.{Tree, Forest}
use Rattle.sc_base.specs.declared.id.Cond.{Cond}
use Rattle.sc_base.specs.declared.id.Name.{Name}
use Rattle.sc_base.specs.declared.id.TreeId.{TreeId}
use Rattle.sc_base.specs.declared.place.Place.{Place}
use Rattle.sc_guarded.specs.Items.{items_at}
use Rattle.sc_model.specs.Sets.{Sets, IsCond}
use Rattle.sc_model.specs.Token.{Token}
use Rattle.sc_model.proofs.ListLemmas.{slice_get-front}
use Rattle.sc_tree.specs.Lines.{Line, leaf, node, choice}
use Rattle.sc_tree.specs.Reads.{Tables, IsTokenAt, Reads, leaf_reads, node_reads, choice_reads, AllRead, none_read, more_read}
use Rattle.sc_tree.specs.Walks.{is_choice}
use Rattle.sc_project.specs.Layout.{LaysOut, leaf_laid, node_laid, choice_laid, AllLaid, none_laid, more_laid}

pub cons_first : {x y : TreeId} → ◌≡◌ {A = List TreeId} (x ∷ []) (y ∷ []) → x ≡ y
cons_first e = cc

-- ---- what stands for a tree can be laid out

pub record Laid (sets : Sets) (lines : List Line) (c : List ℕ) (id start : ℕ) : Type 0 where
  pub laid : List Line
  pub root : ℕ
  pub out : LaysOut sets lines c id start laid root

record Row (sets : Sets) (lines : List Line) (c : List ℕ) (children : List TreeId) (start : ℕ) : Type 0 where
  below : List Line
  roots : List TreeId
  out : AllLaid sets lines c children start below roots

mutual
  pub lay : (w : Tables) (c : List ℕ) (id : ℕ) (tree : Tree) → Reads w c id tree → (start : ℕ) → Laid w.sets w.lines c id start
  lay w c id _ (leaf_reads _ place spelling token at token_at) start = record { laid = leaf place spelling ∷ []; root = start; out = leaf_laid id start place spelling at }
  lay w c id _ (node_reads _ production children forest at read) start =
      let row : Row w.sets w.lines c children start = lay_all w c children forest read start in
      record {
        laid = row.below ++ node production row.roots ∷ [];
        root = start + length row.below;
        out = node_laid id start production children row.roots row.below at row.out;
      }
  lay w c id _ (choice_reads _ branches child tree at own one read) start =
      let under : Laid w.sets w.lines c child.0 start = lay w c child.0 tree read start in
      record { laid = under.laid; root = under.root; out = choice_laid id start under.root branches child under.laid at own one under.out }

  lay_all : (w : Tables) (c : List ℕ) (children : List TreeId) (forest : Forest) → AllRead w c children forest → (start : ℕ)
      → Row w.sets w.lines c children start
  lay_all w c _ _ none_read start = record { below = []; roots = []; out = none_laid start }
  lay_all w c _ _ (more_read child children tree forest first rest) start =
      let one : Laid w.sets w.lines c child.0 start = lay w c child.0 tree first start in
      let others : Row w.sets w.lines c children (start + length one.laid) = lay_all w c children forest rest (start + length one.laid) in
      record {
        below = one.laid ++ others.below;
        roots = record { 0 = one.root } ∷ others.roots;
        out = more_laid child (record { 0 = one.root }) children others.roots start one.laid others.below one.out others.out;
      }

-- ---- what is laid out of a leaf, a node and a choice

module _ (sets : Sets) (lines : List Line) (c : List ℕ) where
  pub within_lines : (id start root : ℕ) (laid : List Line) → LaysOut sets lines c id start laid root → id < length lines
  within_lines id start _ _ (leaf_laid _ _ place spelling at) = slice_get_within lines id _ at
  within_lines id start _ _ (node_laid _ _ production children roots below at all) = slice_get_within lines id _ at
  within_lines id start root laid (choice_laid _ _ _ branches child _ at own one under) = slice_get_within lines id _ at

  pub leaf_only : (id start root : ℕ) (laid : List Line) (place : Place) (spelling : Name) → LaysOut sets lines c id start laid root
      → slice_get lines id ≡ Some (leaf place spelling) → (laid ≡ leaf place spelling ∷ []) × (root ≡ start)
  leaf_only id start _ _ place spelling (leaf_laid _ _ other_place other at) is = ((cc), refl)
  leaf_only id start _ _ place spelling (node_laid _ _ production children roots below at all) is = absurd (cc)
  leaf_only id start root laid place spelling (choice_laid _ _ _ branches child _ at own one under) is = absurd (cc)

  pub record NodeLaid (start root : ℕ) (laid : List Line) (production : ℕ) (children : List TreeId) : Type 0 where
    pub below : List Line
    pub roots : List TreeId
    pub out : AllLaid sets lines c children start below roots
    pub whole : laid ≡ below ++ node production roots ∷ []
    pub last : root ≡ start + length below

  pub node_only : (id start root : ℕ) (laid : List Line) (production : ℕ) (children : List TreeId) → LaysOut sets lines c id start laid root
      → slice_get lines id ≡ Some (node production children) → NodeLaid start root laid production children
  node_only id start _ _ production children (leaf_laid _ _ place spelling at) is = absurd (cc)
  node_only id start _ _ production children (node_laid _ _ number ids roots below at all) is =
      let same : ids ≡ children = cc in
      record {
        below = below;
        roots = roots;
        out = subst (λ (xs : List TreeId). AllLaid sets lines c xs start below roots) same all;
        whole = cc;
        last = refl;
      }
  node_only id start root laid production children (choice_laid _ _ _ branches child _ at own one under) is = absurd (cc)

  pub record ChoiceLaid (start root : ℕ) (laid : List Line) (branches : List (Cond × TreeId)) : Type 0 where
    pub child : TreeId
    pub own : All (λ (branch : Cond × TreeId). IsCond sets branch.0.0) branches
    pub one : items_at sets branches c ≡ child ∷ []
    pub out : LaysOut sets lines c child.0 start laid root

  pub choice_only : (id start root : ℕ) (laid : List Line) (branches : List (Cond × TreeId)) → LaysOut sets lines c id start laid root
      → slice_get lines id ≡ Some (choice branches) → ChoiceLaid start root laid branches
  choice_only id start _ _ branches (leaf_laid _ _ place spelling at) is = absurd (cc)
  choice_only id start _ _ branches (node_laid _ _ production children roots below at all) is = absurd (cc)
  choice_only id start root laid branches (choice_laid _ _ _ others child _ at own one under) is =
      let same : others ≡ branches = cc in
      record {
        child = child;
        own = subst (λ (bs : List (Cond × TreeId)). All (λ (branch : Cond × TreeId). IsCond sets branch.0.0) bs) same own;
        one = subst (λ (bs : List (Cond × TreeId)). items_at sets bs c ≡ child ∷ []) same one;
        out = under;
      }

  -- ---- the root is last, and there are no choices

  pub root_is_last : (id start root : ℕ) (laid : List Line) → LaysOut sets lines c id start laid root → root + 1 ≡ start + length laid
  root_is_last id start _ _ (leaf_laid _ _ place spelling at) = refl
  root_is_last id start _ _ (node_laid _ _ production children roots below at all) = simp length-append (omega arith)
  root_is_last id start root laid (choice_laid _ _ _ branches child _ at own one under) = root_is_last child.0 start root laid under

  mutual
    pub has_no_choice : (id start root : ℕ) (laid : List Line) → LaysOut sets lines c id start laid root → All (λ (line : Line). is_choice line ≡ false) laid
    has_no_choice id start _ _ (leaf_laid _ _ place spelling at) = All-cons (λ (line : Line). is_choice line ≡ false) (leaf place spelling) [] refl (All-nil (λ (line : Line). is_choice line ≡ false))
    has_no_choice id start _ _ (node_laid _ _ production children roots below at all) =
        All-append (λ (line : Line). is_choice line ≡ false) below (node production roots ∷ []) (have_no_choice children start roots below all)
        (All-cons (λ (line : Line). is_choice line ≡ false) (node production roots) [] refl (All-nil (λ (line : Line). is_choice line ≡ false)))
    has_no_choice id start root laid (choice_laid _ _ _ branches child _ at own one under) = has_no_choice child.0 start root laid under

    have_no_choice : (children : List TreeId) (start : ℕ) (roots : List TreeId) (below : List Line) → AllLaid sets lines c children start below roots
        → All (λ (line : Line). is_choice line ≡ false) below
    have_no_choice _ start _ _ (none_laid _) = All-nil (λ (line : Line). is_choice line ≡ false)
    have_no_choice _ start _ _ (more_laid child root children roots _ laid rest out all) =
        All-append (λ (line : Line). is_choice line ≡ false) laid rest (has_no_choice child.0 start root.0 laid out) (have_no_choice children (start + length laid) roots rest all)

-- ---- what is laid out reads as the same tree at every configuration

-- the lines of the part stand in the whole, from the number on
pub record Stand (whole : List Line) (start : ℕ) (part : List Line) : Type 0 where
  pub each : (i : ℕ) → i < length part → slice_get whole (start + i) ≡ slice_get part i

slice_get-back : (xs ys : List Line) (n : ℕ) → slice_get (xs ++ ys) (length xs + n) ≡ slice_get ys n
slice_get-back [] ys n = rw zero-add refl
slice_get-back (x ∷ xs) ys n = rw suc-add (slice_get-back xs ys n)

pub Stand-front : (whole a b : List Line) (start : ℕ) → Stand whole start (a ++ b) → Stand whole start a
Stand-front whole a b start stand = record {
  each = λ i h. stand.each i (simp length-append (omega (arith, h))) ∙ slice_get-front a b i h;
}

pub Stand-back : (whole a b : List Line) (start : ℕ) → Stand whole start (a ++ b) → Stand whole (start + length a) b
Stand-back whole a b start stand = record {
  each = λ i h.
      let e : (start + length a) + i ≡ start + (length a + i) = omega arith in
      ap (slice_get whole) e ∙ (stand.each (length a + i) (simp length-append (omega (arith, h))) ∙ slice_get-back a b i);
}

-- a list stands in itself
pub Stand-whole : (whole : List Line) → Stand whole 0 whole
Stand-whole whole = record { each = λ i h. let e : 0 + i ≡ i = omega arith in ap (slice_get whole) e }

-- the first of a part
Stand-first : (whole part : List Line) (start : ℕ) (line : Line) → part ≡ line ∷ [] → Stand whole start part → slice_get whole start ≡ Some line
Stand-first whole part start line is stand =
    let e : start ≡ start + 0 = omega arith in
    let h : 0 < length part = rw is (omega arith) in
    let f : slice_get part 0 ≡ Some line = ap (λ (p : List Line). slice_get p 0) is in
    ap (slice_get whole) e ∙ (stand.each 0 h ∙ f)

module _ (old new : Tables) (c d : List ℕ) (names : new.names ≡ old.names) (files : new.files ≡ old.files) where
  same_token : (place : Place) (name : Name) (token : Token) → IsTokenAt old place name token → IsTokenAt new place name token
  same_token place name token at = record {
    spelling = rw names at.spelling;
    file = rw files at.file;
    position = at.position;
  }

  mutual
    pub reads_again : (id start root : ℕ) (laid : List Line) (tree : Tree) → Reads old c id tree → LaysOut old.sets old.lines c id start laid root
        → Stand new.lines start laid → Reads new d root tree
    reads_again id start root laid _ (leaf_reads _ place spelling token at token_at) out stand =
        let only = leaf_only old.sets old.lines c id start root laid place spelling out at in
        let here : slice_get new.lines root ≡ Some (leaf place spelling) = rw only.1 (Stand-first new.lines laid start (leaf place spelling) only.0 stand) in
        leaf_reads root place spelling token here (same_token place spelling token token_at)
    reads_again id start root laid _ (node_reads _ production children forest at read) out stand =
        let only = node_only old.sets old.lines c id start root laid production children out at in
        let parts : Stand new.lines start (only.below ++ node production only.roots ∷ []) = subst (Stand new.lines start) only.whole stand in
        let here : slice_get new.lines root ≡ Some (node production only.roots)
        = ap (slice_get new.lines) only.last ∙ Stand-first new.lines (node production only.roots ∷ []) (start + length only.below) (node production only.roots) refl
        (Stand-back new.lines only.below (node production only.roots ∷ []) start parts) in
        node_reads root production only.roots forest here
        (read_again children start only.roots only.below forest read only.out (Stand-front new.lines only.below (node production only.roots ∷ []) start parts))
    reads_again id start root laid _ (choice_reads _ branches child tree at own one read) out stand =
        let only = choice_only old.sets old.lines c id start root laid branches out at in
        let same : only.child ≡ child = cons_first (sym only.one ∙ one) in
        reads_again child.0 start root laid tree read (subst (λ (x : TreeId). LaysOut old.sets old.lines c x.0 start laid root) same only.out) stand

    read_again : (children : List TreeId) (start : ℕ) (roots : List TreeId) (below : List Line) (forest : Forest) → AllRead old c children forest
        → AllLaid old.sets old.lines c children start below roots → Stand new.lines start below → AllRead new d roots forest
    read_again _ start _ _ _ none_read (none_laid _) stand = none_read
    read_again _ start _ _ _ (more_read child children tree forest first rest) (more_laid _ root _ roots _ laid others out all) stand =
        more_read root roots tree forest (reads_again child.0 start root.0 laid tree first out (Stand-front new.lines laid others start stand))
        (read_again children (start + length laid) roots others forest rest all (Stand-back new.lines laid others start stand))
