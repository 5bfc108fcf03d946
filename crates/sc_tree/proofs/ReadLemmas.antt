-- An id means the same tree as the tables grow.
use Rattle.std.proofs.Common.{ℕ, List, All, ◌∙◌}
use Rattle.c11_parsing.specs.Trees.{Tree, Forest}
use Rattle.sc_base.specs.declared.id.Cond.{Cond}
use Rattle.sc_base.specs.declared.id.Name.{Name}
use Rattle.sc_base.specs.declared.id.TreeId.{TreeId}
use Rattle.sc_base.specs.declared.place.Place.{Place}
use Rattle.sc_base.proofs.Growth.{Extends-keeps}
use Rattle.sc_guarded.proofs.ItemLemmas.{items_at-Keeps}
use Rattle.sc_model.specs.Sets.{Sets, IsConfig, IsCond, Keeps}
use Rattle.sc_model.specs.Token.{Token}
use Rattle.sc_tree.specs.Reads.{Tables, Grows, IsTokenAt, Reads, leaf_reads, node_reads, choice_reads, AllRead, none_read, more_read}

IsTokenAt-Grows : {old new : Tables} {place : Place} {spelling : Name} {token : Token} → Grows old new → IsTokenAt old place spelling token
    → IsTokenAt new place spelling token
IsTokenAt-Grows grows at = record {
  spelling = Extends-keeps _ _ at.spelling grows.names;
  file = Extends-keeps _ _ at.file grows.files;
  position = at.position;
}

own_conditions : (old new : Sets) (branches : List (Cond × TreeId)) → Keeps old new → All (λ (branch : Cond × TreeId). IsCond old branch.0.0) branches
    → All (λ (branch : Cond × TreeId). IsCond new branch.0.0) branches
own_conditions old new branches keeps own = λ k d below. keeps.own _ (own k d below)

mutual
  pub Reads-Grows : (old new : Tables) (c : List ℕ) (id : ℕ) (tree : Tree) → Grows old new → IsConfig old.sets.arities c → Reads old c id tree
      → Reads new c id tree
  Reads-Grows old new c id _ grows is (leaf_reads _ place spelling token at token_at) =
      leaf_reads id place spelling token (Extends-keeps _ _ at grows.lines) (IsTokenAt-Grows grows token_at)
  Reads-Grows old new c id _ grows is (node_reads _ production children forest at read) =
      node_reads id production children forest (Extends-keeps _ _ at grows.lines) (AllRead-Grows old new c children forest grows is read)
  Reads-Grows old new c id _ grows is (choice_reads _ branches child tree at own one read) =
      choice_reads id branches child tree (Extends-keeps _ _ at grows.lines) (own_conditions old.sets new.sets branches grows.sets own)
      (items_at-Keeps branches c grows.sets own is ∙ one) (Reads-Grows old new c child.0 tree grows is read)

  AllRead-Grows : (old new : Tables) (c : List ℕ) (children : List TreeId) (forest : Forest) → Grows old new → IsConfig old.sets.arities c
      → AllRead old c children forest → AllRead new c children forest
  AllRead-Grows old new c _ _ grows is none_read = none_read
  AllRead-Grows old new c _ _ grows is (more_read child children tree forest first rest) =
      more_read child children tree forest (Reads-Grows old new c child.0 tree grows is first) (AllRead-Grows old new c children forest grows is rest)
