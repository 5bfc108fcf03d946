-- The tasks that are left, and what comes of them.
use Rattle.std.proofs.Common.{◌≡◌, ℕ, ◌+◌, ◌<◌, ◌≤◌, List, [], ◌∷◌, ◌++◌, length, map, take, drop, get_or, reverse, Some, slice_get, All, refl, sym, ◌∙◌, ap, subst, arith, length-append, append-nil, append_assoc}
use Rattle.std.proofs.lemmas.List.{reverse-append, take_at, drop_at, nil_from_length}
use Rattle.std.proofs.lemmas.List.Elements.{All-nil, All-push, All-take, All-weaker}
use Rattle.sc_base.specs.declared.id.Cond.{Cond}
use Rattle.sc_base.specs.declared.id.Name.{Name}
use Rattle.sc_base.specs.declared.id.TreeId.{TreeId}
use Rattle.sc_base.specs.declared.place.Place.{Place}
use Rattle.sc_guarded.specs.Items.{items_at}
use Rattle.sc_model.specs.Sets.{Sets, IsCond}
use Rattle.sc_tree.specs.Lines.{Line, leaf, node, choice}
use Rattle.sc_project.specs.declared.tree.Task.{Task}
use Rattle.sc_project.specs.declared.tree.Task.TheVariants.{Tree, Node}
use Rattle.sc_project.specs.Layout.{HasTree, LaysOut, AllLaid, none_laid, more_laid}
use Rattle.sc_project.proofs.Laying.{Laid, lay, within_lines, leaf_only, node_only, choice_only}

-- From the roots and lines so far the tasks, the first of them next, lead to all lines and one
-- root.
pub data Leads (sets : Sets) (lines : List Line) (c : List ℕ) : List Task → List TreeId → List Line → List Line → ℕ → Type 0 where
  ends : (root : ℕ) (laid : List Line) → Leads sets lines c [] (record { 0 = root } ∷ []) laid laid root
  makes_tree : (id : TreeId) (tasks : List Task) (roots : List TreeId) (laid more all : List Line) (start root final : ℕ) → start ≡ length laid
      → LaysOut sets lines c id.0 start more root → Leads sets lines c tasks (roots ++ record { 0 = root } ∷ []) (laid ++ more) all final
      → Leads sets lines c (Tree id ∷ tasks) roots laid all final
  makes_node : (production first : ℕ) (tasks : List Task) (roots below children : List TreeId) (laid all : List Line) (root final : ℕ)
      → roots ≡ below ++ children → first ≡ length below → root ≡ length laid
      → Leads sets lines c tasks (below ++ record { 0 = root } ∷ []) (laid ++ node production children ∷ []) all final
      → Leads sets lines c (Node production first ∷ tasks) roots laid all final

module _ (sets : Sets) (lines : List Line) (c : List ℕ) where
  record TreeNext (id : TreeId) (tasks : List Task) (roots : List TreeId) (laid all : List Line) (final : ℕ) : Type 0 where
    more : List Line
    start : ℕ
    root : ℕ
    here : start ≡ length laid
    out : LaysOut sets lines c id.0 start more root
    rest : Leads sets lines c tasks (roots ++ record { 0 = root } ∷ []) (laid ++ more) all final

  tree_next : (id : TreeId) (tasks : List Task) (roots : List TreeId) (laid all : List Line) (final : ℕ) → Leads sets lines c (Tree id ∷ tasks) roots laid all final
      → TreeNext id tasks roots laid all final
  tree_next _ _ roots laid all final (makes_tree id tasks _ _ more _ start root _ here out rest) =
      record { more = more; start = start; root = root; here = here; out = out; rest = rest }

  -- trees one after the other
  leads_all : (children : List TreeId) (start : ℕ) (made : List TreeId) (below : List Line) (tasks : List Task) (roots : List TreeId) (laid all : List Line) (final : ℕ)
      → AllLaid sets lines c children start below made → start ≡ length laid → Leads sets lines c tasks (roots ++ made) (laid ++ below) all final
      → Leads sets lines c (map Tree children ++ tasks) roots laid all final
  leads_all _ start _ _ tasks roots laid all final (none_laid _) here rest =
      rw (append-nil laid) at (rw (append-nil roots) at rest)
  leads_all _ start _ _ tasks roots laid all final (more_laid child root children made _ one others out row) here rest =
      let next : start + length one ≡ length (laid ++ one) = ap (λ n. n + length one) here ∙ sym (length-append laid one) in
      let moved : Leads sets lines c tasks ((roots ++ root ∷ []) ++ made) ((laid ++ one) ++ others) all final
      = rw (append_assoc roots (root ∷ []) made, append_assoc laid one others) rest in
      makes_tree child (map Tree children ++ tasks) roots laid one all start root.0 final here out
      (leads_all children (start + length one) made others tasks (roots ++ root ∷ []) (laid ++ one) all final row next moved)

  -- ---- each step leads to the same

  pub leads_leaf : (id : TreeId) (tasks : List Task) (roots : List TreeId) (laid all : List Line) (count final : ℕ) (place : Place) (spelling : Name)
      → Leads sets lines c (Tree id ∷ tasks) roots laid all final → count ≡ length laid → slice_get lines id.0 ≡ Some (leaf place spelling)
      → Leads sets lines c tasks (roots ++ record { 0 = count } ∷ []) (laid ++ leaf place spelling ∷ []) all final
  leads_leaf id tasks roots laid all count final place spelling leads counted at =
      let next : TreeNext id tasks roots laid all final = tree_next id tasks roots laid all final leads in
      let only = leaf_only sets lines c id.0 next.start next.root next.more place spelling next.out at in
      let same : next.root ≡ count = cc in
      subst (λ (more : List Line). Leads sets lines c tasks (roots ++ record { 0 = count } ∷ []) (laid ++ more) all final) only.0
      (subst (λ (n : ℕ). Leads sets lines c tasks (roots ++ record { 0 = n } ∷ []) (laid ++ next.more) all final) same next.rest)

  pub leads_node : (id : TreeId) (tasks : List Task) (roots : List TreeId) (laid all : List Line) (final production : ℕ) (children : List TreeId)
      → Leads sets lines c (Tree id ∷ tasks) roots laid all final → slice_get lines id.0 ≡ Some (node production children)
      → Leads sets lines c (map Tree children ++ Node production (length roots) ∷ tasks) roots laid all final
  leads_node id tasks roots laid all final production children leads at =
      let next : TreeNext id tasks roots laid all final = tree_next id tasks roots laid all final leads in
      let only = node_only sets lines c id.0 next.start next.root next.more production children next.out at in
      let last : next.root ≡ length (laid ++ only.below) = only.last ∙ (ap (λ n. n + length only.below) next.here ∙ sym (length-append laid only.below)) in
      let whole : laid ++ next.more ≡ (laid ++ only.below) ++ node production only.roots ∷ [] = ap (λ (xs : List Line). laid ++ xs) only.whole ∙ sym (append_assoc laid only.below (node production only.roots ∷ [])) in
      leads_all children next.start only.roots only.below (Node production (length roots) ∷ tasks) roots laid all final only.out next.here
      (makes_node production (length roots) tasks (roots ++ only.roots) roots only.roots (laid ++ only.below) all next.root final refl refl last
      (subst (λ (xs : List Line). Leads sets lines c tasks (roots ++ record { 0 = next.root } ∷ []) xs all final) whole next.rest))

  first_same : (x y : TreeId) → ◌≡◌ {A = List TreeId} (x ∷ []) (y ∷ []) → x ≡ y
  first_same x y e = cc

  pub leads_choice : (id child : TreeId) (tasks : List Task) (roots : List TreeId) (laid all : List Line) (final : ℕ) (branches : List (Cond × TreeId))
      → Leads sets lines c (Tree id ∷ tasks) roots laid all final → slice_get lines id.0 ≡ Some (choice branches) → items_at sets branches c ≡ child ∷ []
      → Leads sets lines c (Tree child ∷ tasks) roots laid all final
  leads_choice id child tasks roots laid all final branches leads at one =
      let next : TreeNext id tasks roots laid all final = tree_next id tasks roots laid all final leads in
      let only = choice_only sets lines c id.0 next.start next.root next.more branches next.out at in
      let same : only.child ≡ child = first_same only.child child (sym only.one ∙ one) in
      makes_tree child tasks roots laid next.more all next.start next.root final next.here
      (subst (λ (x : TreeId). LaysOut sets lines c x.0 next.start next.more next.root) same only.out) next.rest

  pub record NodeNext (production first : ℕ) (tasks : List Task) (roots : List TreeId) (laid all : List Line) (count final : ℕ) : Type 0 where
    pub within : first ≤ length roots
    pub rest : Leads sets lines c tasks (take first roots ++ record { 0 = count } ∷ []) (laid ++ node production (drop first roots) ∷ []) all final

  pub leads_made : (production first : ℕ) (tasks : List Task) (roots : List TreeId) (laid all : List Line) (count final : ℕ)
      → Leads sets lines c (Node production first ∷ tasks) roots laid all final → count ≡ length laid
      → NodeNext production first tasks roots laid all count final
  leads_made _ _ _ roots laid all count final (makes_node production first tasks _ below children _ _ root _ whole is last rest) counted =
      let same : root ≡ count = cc in
      let front : take first roots ≡ below = ap (take first) whole ∙ take_at below children first (sym is) in
      let back : drop first roots ≡ children = ap (drop first) whole ∙ drop_at below children first (sym is) in
      record {
        within = rw (whole, length-append below children) (omega (arith, is));
        rest = rw (front, back) (subst (λ (n : ℕ). Leads sets lines c tasks (below ++ record { 0 = n } ∷ []) (laid ++ node production children ∷ []) all final) same rest);
      }

  pub record End (roots : List TreeId) (laid all : List Line) (final : ℕ) : Type 0 where
    pub one : roots ≡ record { 0 = final } ∷ []
    pub whole : laid ≡ all

  pub leads_nowhere : (roots : List TreeId) (laid all : List Line) (final : ℕ) → Leads sets lines c [] roots laid all final → End roots laid all final
  leads_nowhere _ _ _ _ (ends root laid) = record { one = refl; whole = refl }

-- the task that was taken is this one
pub taken : (tasks others : List Task) (task this : Task) → tasks ≡ others ++ task ∷ [] → task ≡ this → tasks ≡ others ++ this ∷ []
taken tasks others task this is same = is ∙ ap (λ (t : Task). others ++ t ∷ []) same

-- the node's task stands below those of its children
pub node_pushed : (others longer : List Task) (production first : ℕ) (roots : List TreeId) → longer ≡ others ++ Node production first ∷ [] → first ≡ length roots
    → reverse longer ≡ Node production (length roots) ∷ reverse others
node_pushed others longer production first roots adds is =
    ap reverse adds ∙ (reverse-append others (Node production first ∷ []) ∙ ap (λ n. Node production n ∷ reverse others) is)

-- the root that is read
pub root_read : (roots : List TreeId) (final : ℕ) (root : TreeId) → roots ≡ record { 0 = final } ∷ [] → root ≡ get_or roots 0 root → final ≡ root.0
root_read roots final root one is = sym (ap (λ (x : TreeId). x.0) (is ∙ ap (λ (xs : List TreeId). get_or xs 0 root) one))

-- what holds between two tasks, the last of which is next
pub record IsUnderway (sets : Sets) (lines : List Line) (c : List ℕ) (root : ℕ) (tasks : List Task) (roots : List TreeId) (laid : List Line) (count : ℕ) : Type 0 where
  pub all : List Line
  pub final : ℕ
  pub whole : LaysOut sets lines c root 0 all final
  pub leads : Leads sets lines c (reverse tasks) roots laid all final
  pub own : All (λ (id : TreeId). id.0 < length laid) roots
  pub counted : count ≡ length laid

module _ (sets : Sets) (lines : List Line) (c : List ℕ) (root : ℕ) where
  pub underway_first : (id : TreeId) (tasks : List Task) (roots : List TreeId) (laid : List Line) (count : ℕ) → id.0 ≡ root → HasTree sets lines c root → tasks ≡ Tree id ∷ []
      → roots ≡ [] → laid ≡ [] → count ≡ 0 → IsUnderway sets lines c root tasks roots laid count
  underway_first id tasks roots laid count same tree is no_roots no_lines none =
      let out : Laid sets lines c root 0 = lay (record { sets = sets; names = tree.names; files = tree.files; lines = lines }) c root tree.tree tree.reads 0 in
      let first : LaysOut sets lines c id.0 0 out.laid out.root = subst (λ (n : ℕ). LaysOut sets lines c n 0 out.laid out.root) (sym same) out.out in
      record {
        all = out.laid;
        final = out.root;
        whole = out.out;
        leads = rw (is, no_roots, no_lines) (makes_tree id [] [] [] out.laid out.laid 0 out.root out.root refl first (ends out.root out.laid));
        own = rw (no_roots, no_lines) (All-nil (λ (id : TreeId). id.0 < 0));
        counted = rw (none, no_lines) refl;
      }

  -- the task that was taken comes first
  leads_now : (tasks others : List Task) (task : Task) (roots : List TreeId) (laid all : List Line) (final : ℕ) → tasks ≡ others ++ task ∷ []
      → Leads sets lines c (reverse tasks) roots laid all final → Leads sets lines c (task ∷ reverse others) roots laid all final
  leads_now tasks others task roots laid all final is leads =
      let turned : reverse tasks ≡ task ∷ reverse others = ap reverse is ∙ reverse-append others (task ∷ []) in
      subst (λ (ts : List Task). Leads sets lines c ts roots laid all final) turned leads

  own_more : (roots below : List TreeId) (laid : List Line) (line : Line) (count : ℕ) → count ≡ length laid → All (λ (id : TreeId). id.0 < length laid) below
      → roots ≡ below ++ record { 0 = count } ∷ [] → All (λ (id : TreeId). id.0 < length (laid ++ line ∷ [])) roots
  own_more roots below laid line count counted own is =
      let long : length (laid ++ line ∷ []) ≡ length laid + 1 = length-append laid (line ∷ []) in
      let lower : All (λ (id : TreeId). id.0 < length (laid ++ line ∷ [])) below
      = All-weaker (λ (id : TreeId). id.0 < length laid) (λ (id : TreeId). id.0 < length (laid ++ line ∷ [])) (λ id h. omega arith) below own in
      rw is (All-push (λ (id : TreeId). id.0 < length (laid ++ line ∷ [])) below (record { 0 = count }) lower (omega arith))

  module _ (tasks others : List Task) (roots made : List TreeId) (laid longer : List Line) (count more : ℕ) where
    pub underway_leaf : (id : TreeId) (place : Place) (spelling : Name) → IsUnderway sets lines c root tasks roots laid count → tasks ≡ others ++ Tree id ∷ []
        → slice_get lines id.0 ≡ Some (leaf place spelling) → longer ≡ laid ++ leaf place spelling ∷ [] → made ≡ roots ++ record { 0 = count } ∷ [] → more ≡ count + 1
        → IsUnderway sets lines c root others made longer more
    underway_leaf id place spelling under is at adds makes counts =
        let leads = leads_now tasks others (Tree id) roots laid under.all under.final is under.leads in
        record {
          all = under.all;
          final = under.final;
          whole = under.whole;
          leads = rw (adds, makes) (leads_leaf sets lines c id (reverse others) roots laid under.all count under.final place spelling leads under.counted at);
          own = rw adds (own_more made roots laid (leaf place spelling) count under.counted under.own makes);
          counted = rw (counts, adds, length-append laid (leaf place spelling ∷ [])) (ap (λ n. n + 1) under.counted);
        }

    pub underway_made : (production first : ℕ) → IsUnderway sets lines c root tasks roots laid count → tasks ≡ others ++ Node production first ∷ []
        → longer ≡ laid ++ node production (drop first roots) ∷ [] → made ≡ take first roots ++ record { 0 = count } ∷ [] → more ≡ count + 1
        → IsUnderway sets lines c root others made longer more
    underway_made production first under is adds makes counts =
        let leads = leads_now tasks others (Node production first) roots laid under.all under.final is under.leads in
        let next = leads_made sets lines c production first (reverse others) roots laid under.all count under.final leads under.counted in
        record {
          all = under.all;
          final = under.final;
          whole = under.whole;
          leads = rw (adds, makes) next.rest;
          own = rw adds (own_more made (take first roots) laid (node production (drop first roots)) count under.counted
              (All-take (λ (id : TreeId). id.0 < length laid) first roots under.own) makes);
          counted = rw (counts, adds, length-append laid (node production (drop first roots) ∷ [])) (ap (λ n. n + 1) under.counted);
        }

  module _ (tasks others after : List Task) (roots : List TreeId) (laid : List Line) (count : ℕ) (id : TreeId) (under : IsUnderway sets lines c root tasks roots laid count)
      (is : tasks ≡ others ++ Tree id ∷ []) where
    pub underway_node : (production : ℕ) (children : List TreeId) → slice_get lines id.0 ≡ Some (node production children)
        → reverse after ≡ map Tree children ++ Node production (length roots) ∷ reverse others → IsUnderway sets lines c root after roots laid count
    underway_node production children at turned =
        let leads = leads_now tasks others (Tree id) roots laid under.all under.final is under.leads in
        record {
          all = under.all;
          final = under.final;
          whole = under.whole;
          leads = rw turned (leads_node sets lines c id (reverse others) roots laid under.all under.final production children leads at);
          own = under.own;
          counted = under.counted;
        }

    pub underway_choice : (child : TreeId) (branches : List (Cond × TreeId)) → slice_get lines id.0 ≡ Some (choice branches) → items_at sets branches c ≡ child ∷ []
        → after ≡ others ++ Tree child ∷ [] → IsUnderway sets lines c root after roots laid count
    underway_choice child branches at one adds =
        let leads = leads_now tasks others (Tree id) roots laid under.all under.final is under.leads in
        let turned : reverse after ≡ Tree child ∷ reverse others = ap reverse adds ∙ reverse-append others (Tree child ∷ []) in
        record {
          all = under.all;
          final = under.final;
          whole = under.whole;
          leads = rw turned (leads_choice sets lines c id child (reverse others) roots laid under.all under.final branches leads at one);
          own = under.own;
          counted = under.counted;
        }

    -- the tree is there, and the conditions of a choice are the store's
    pub underway_within : id.0 < length lines
    underway_within =
        let next : TreeNext sets lines c id (reverse others) roots laid under.all under.final
        = tree_next sets lines c id (reverse others) roots laid under.all under.final (leads_now tasks others (Tree id) roots laid under.all under.final is under.leads) in
        within_lines sets lines c id.0 next.start next.root next.more next.out

    pub underway_chosen : (branches : List (Cond × TreeId)) → slice_get lines id.0 ≡ Some (choice branches)
        → All (λ (branch : Cond × TreeId). IsCond sets branch.0.0) branches × ((child : TreeId) × (items_at sets branches c ≡ child ∷ []))
    underway_chosen branches at =
        let next : TreeNext sets lines c id (reverse others) roots laid under.all under.final
        = tree_next sets lines c id (reverse others) roots laid under.all under.final (leads_now tasks others (Tree id) roots laid under.all under.final is under.leads) in
        let only = choice_only sets lines c id.0 next.start next.root next.more branches next.out at in
        (only.own, (only.child, only.one))

  -- the roots of a node's children are there
  pub underway_first_root : (tasks others : List Task) (roots : List TreeId) (laid : List Line) (count production first : ℕ) → IsUnderway sets lines c root tasks roots laid count
      → tasks ≡ others ++ Node production first ∷ [] → first ≤ length roots
  underway_first_root tasks others roots laid count production first under is =
      let leads = leads_now tasks others (Node production first) roots laid under.all under.final is under.leads in
      (leads_made sets lines c production first (reverse others) roots laid under.all count under.final leads under.counted).within

  -- no task is left
  pub record IsLaid (roots : List TreeId) (laid : List Line) : Type 0 where
    pub final : ℕ
    pub one : roots ≡ record { 0 = final } ∷ []
    pub out : LaysOut sets lines c root 0 laid final

  pub laid_at_end : (tasks : List Task) (roots : List TreeId) (laid : List Line) (count : ℕ) → IsUnderway sets lines c root tasks roots laid count → length tasks ≡ 0
      → IsLaid roots laid
  laid_at_end tasks roots laid count under none =
      let turned : reverse tasks ≡ [] = ap reverse (nil_from_length tasks none) in
      let end = leads_nowhere sets lines c roots laid under.all under.final (subst (λ (ts : List Task). Leads sets lines c ts roots laid under.all under.final) turned under.leads) in
      record { final = under.final; one = end.one; out = rw end.whole under.whole }
