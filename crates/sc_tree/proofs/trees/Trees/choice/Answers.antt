use Rattle.std.proofs.Common.{◌<◌, length}
use Rattle.std.proofs.lemmas.List.Elements.{All-map}
use Rattle.sc_base.specs.declared.id.Cond.{Cond}
use Rattle.sc_base.specs.declared.id.TreeId.{TreeId}
use Rattle.sc_tree.proofs.trees.Trees.choice.Goals as goal

pub share-requires : goal.share-requires
share-requires c = All-map (λ (child : TreeId). child.0 < length c.args.self.now) (λ (branch : Cond × TreeId). branch.1) c.args.branches.now c.requires
