-- A tree of one configuration behind a choice.
use Rattle.std.proofs.Common.{◌≡◌, ℕ, zero, suc, ◌<◌, Bool, true, false, not, List, [], ◌∷◌, slice_get, get_or, Some, All, refl, ◌∙◌, ap, sym, subst, arith}
use Rattle.std.proofs.lemmas.List.Elements.{All-nil, All-cons}
use Rattle.c11_parsing.specs.Trees as plain
use Rattle.c11_parsing.specs.Trees.{Tree, Forest, no_trees, trees}
use Rattle.sc_base.specs.declared.id.Cond.{Cond}
use Rattle.sc_base.specs.declared.id.Name.{Name}
use Rattle.sc_base.specs.declared.id.TreeId.{TreeId}
use Rattle.sc_base.specs.declared.place.Place.{Place}
use Rattle.sc_base.specs.Seen.{position_of}
use Rattle.sc_guarded.specs.Items.{items_at}
use Rattle.sc_model.specs.declared.kind.Kind.TheVariants.{Identifier}
use Rattle.sc_model.specs.Sets.{Sets, IsConfig, IsCond, Denotes, Keeps}
use Rattle.sc_model.specs.Token.{Token}
use Rattle.sc_tree.specs.Lines.{Line, leaf, node, choice}
use Rattle.sc_tree.specs.Reads.{Tables, Reads, leaf_reads, node_reads, choice_reads, none_read, more_read}
use Rattle.sc_project.specs.Layout.{HasTree}

-- three names and a file, all of which are empty
abbrev texts : Sets → List Line → Tables
texts sets lines = record { sets = sets; names = [] ∷ [] ∷ [] ∷ []; files = [] ∷ []; lines = lines }

abbrev empty_token : Place → Token
empty_token place = record { kind = Identifier; spelling = []; space = false; place = record { file = []; position = position_of place } }

module _ (sets : Sets) (lines : List Line) (c : List ℕ) (place : Place) (first second : Cond) (once twice pair either root : TreeId) (one two : Name) (in_file : place.file.0 ≡ 0)
    (is_one : one.0 ≡ 1) (is_two : two.0 ≡ 2) (at_once : slice_get lines once.0 ≡ Some (leaf place one)) (at_twice : slice_get lines twice.0 ≡ Some (leaf place two))
    (at_pair : slice_get lines pair.0 ≡ Some (node 7 (twice ∷ twice ∷ []))) (at_either : slice_get lines either.0 ≡ Some (choice ((first, once) ∷ (second, pair) ∷ [])))
    (at_root : slice_get lines root.0 ≡ Some (node 9 (either ∷ twice ∷ []))) (own_first : IsCond sets first.0) (own_second : IsCond sets second.0) where
  once_reads : Reads (texts sets lines) c once.0 (plain.leaf (empty_token place))
  once_reads = leaf_reads once.0 place one (empty_token place) at_once (record { spelling = rw is_one refl; file = rw in_file refl; position = refl })

  twice_reads : Reads (texts sets lines) c twice.0 (plain.leaf (empty_token place))
  twice_reads = leaf_reads twice.0 place two (empty_token place) at_twice (record { spelling = rw is_two refl; file = rw in_file refl; position = refl })

  pair_reads : Reads (texts sets lines) c pair.0 (plain.node 7 (trees (plain.leaf (empty_token place)) (trees (plain.leaf (empty_token place)) no_trees)))
  pair_reads =
      node_reads pair.0 7 (twice ∷ twice ∷ []) (trees (plain.leaf (empty_token place)) (trees (plain.leaf (empty_token place)) no_trees)) at_pair
      (more_read twice (twice ∷ []) (plain.leaf (empty_token place)) (trees (plain.leaf (empty_token place)) no_trees) twice_reads
      (more_read twice [] (plain.leaf (empty_token place)) no_trees twice_reads none_read))

  own : All (λ (branch : Cond × TreeId). IsCond sets branch.0.0) ((first, once) ∷ (second, pair) ∷ [])
  own =
      All-cons (λ (branch : Cond × TreeId). IsCond sets branch.0.0) (first, once) ((second, pair) ∷ []) own_first
      (All-cons (λ (branch : Cond × TreeId). IsCond sets branch.0.0) (second, pair) [] own_second (All-nil (λ (branch : Cond × TreeId). IsCond sets branch.0.0)))

  behind : (child : TreeId) (tree : Tree) → items_at sets ((first, once) ∷ (second, pair) ∷ []) c ≡ child ∷ [] → Reads (texts sets lines) c child.0 tree
      → HasTree sets lines c root.0
  behind child tree is read = record {
    names = [] ∷ [] ∷ [] ∷ [];
    files = [] ∷ [];
    tree = plain.node 9 (trees tree (trees (plain.leaf (empty_token place)) no_trees));
    reads = node_reads root.0 9 (either ∷ twice ∷ []) (trees tree (trees (plain.leaf (empty_token place)) no_trees)) at_root
        (more_read either (twice ∷ []) tree (trees (plain.leaf (empty_token place)) no_trees) (choice_reads either.0 ((first, once) ∷ (second, pair) ∷ []) child tree at_either own is read)
        (more_read twice [] (plain.leaf (empty_token place)) no_trees twice_reads none_read));
  }

  pub has_tree : sets.has first.0 c ≡ not (sets.has second.0 c) → HasTree sets lines c root.0
  has_tree other = by (sets.has second.0 c) refl
    where
      by : (b : Bool) → sets.has second.0 c ≡ b → HasTree sets lines c root.0
      by true is =
          let no_first : sets.has first.0 c ≡ false = other ∙ ap not is in
          behind pair (plain.node 7 (trees (plain.leaf (empty_token place)) (trees (plain.leaf (empty_token place)) no_trees))) (rw (no_first, is) refl) pair_reads
      by false is =
          let has_first : sets.has first.0 c ≡ true = other ∙ ap not is in
          behind once (plain.leaf (empty_token place)) (rw (has_first, is) refl) once_reads

-- ---- the configurations of one variable with two options

is_config : (arities : List ℕ) (option : ℕ) → arities ≡ 2 ∷ [] → option < 2 → IsConfig arities (option ∷ [])
is_config arities option is below = subst (λ (xs : List ℕ). IsConfig xs (option ∷ [])) (sym is) (record { long = refl; each = by })
  where
    by : (v : ℕ) → v < 1 → get_or (option ∷ []) v 0 < get_or (2 ∷ []) v 0
    by zero within = below
    by (suc v) within = absurd (omega arith)

-- a condition and what was made of it by `negate` are opposite
pub opposite : (old new : Sets) (cond negated : Cond) (f : List ℕ → Bool) (option : ℕ) → old.arities ≡ 2 ∷ [] → option < 2 → Denotes old cond.0 f
    → Denotes new negated.0 (λ c. not (f c)) → Keeps old new → new.has negated.0 (option ∷ []) ≡ not (new.has cond.0 (option ∷ []))
opposite old new cond negated f option is below means negates keeps =
    let there : IsConfig old.arities (option ∷ []) = is_config old.arities option is below in
    let here : IsConfig new.arities (option ∷ []) = is_config new.arities option (keeps.arities ∙ is) below in
    negates.at (option ∷ []) here ∙ ap not (sym (keeps.at cond.0 (option ∷ []) means.own there ∙ means.at (option ∷ []) there))
