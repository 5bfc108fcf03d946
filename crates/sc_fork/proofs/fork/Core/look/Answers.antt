use Rattle.std.proofs.Common.{ap, sym, subst, ◌∙◌, List, Option, Some}
use Rattle.sc_fork.specs.Enabled.{Has}
use Rattle.sc_fork.specs.View.{View}
use Rattle.sc_fork.proofs.EnabledLemmas.{has_at}
use Rattle.sc_merge.specs.declared.subparser.Subparser.{Subparser}
use Rattle.sc_fork.proofs.fork.Core.look.Goals as goal

pub returns-clause-some : goal.returns-clause-some
returns-clause-some c =
    let s = c.head-subparser.result in
    let l = c.in_ok-get.ensures.lookup in (
      s,
      (
        subst (λ (rows : List (Option Subparser)). Has rows c.args.number s) (c.deref.ensures.value ∙ ap (λ (v : View). v.subparsers) c.self.view_is)
            (has_at c.deref.result.now c.args.number c.in_ok-get.field-0.now s l.3.0 l.1 (sym c.in_ok-lent.ensures ∙ ap (λ (p : Subparser). Some p) (sym c.head-subparser.ensures))),
        ap (λ (p : Subparser). p.cond) c.subparser.view_is,
        c.key.ensures,
      ),
    )
