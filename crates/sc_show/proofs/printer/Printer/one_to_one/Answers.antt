use Rattle.std.proofs.Common.{◌==◌, refl}
use Rattle.std.proofs.lemmas.Bool.{eq-eqb}
use Rattle.sc_base.specs.declared.id.Cond.{Cond}
use Rattle.sc_base.specs.declared.id.FileId.{FileId}
use Rattle.sc_base.specs.declared.id.TreeId.{TreeId}
use Rattle.sc_base.proofs.Growth.{IsOneToOne-IsDistinct}
use Rattle.sc_show.proofs.printer.Printer.one_to_one.Goals as goal

pub returns-clause-conditions : goal.returns-clause-conditions
returns-clause-conditions c = IsOneToOne-IsDistinct (λ (a b : Cond). a.0 == b.0) c.args.self.now.conditions.keys (λ a. eq-eqb a.0 a.0 refl) c.len-conditions.ensures.unique

pub returns-clause-files : goal.returns-clause-files
returns-clause-files c = IsOneToOne-IsDistinct (λ (a b : FileId). a.0 == b.0) c.args.self.now.files.keys (λ f. eq-eqb f.0 f.0 refl) c.len-files.ensures.unique

pub returns-clause-trees : goal.returns-clause-trees
returns-clause-trees c = IsOneToOne-IsDistinct (λ (a b : TreeId). a.0 == b.0) c.args.self.now.trees.keys (λ t. eq-eqb t.0 t.0 refl) c.len-trees.ensures.unique
