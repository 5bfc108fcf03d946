use Rattle.std.proofs.Common.{◌≡◌, ◌∙◌, List, ap}
use Rattle.sc_base.specs.declared.id.Cond.{Cond}
use Rattle.sc_hoist.specs.declared.branch.Branch.{Branch}
use Rattle.sc_hoist.specs.Branches.{lists_at}
use Rattle.sc_hoist.proofs.BranchLemmas.{lists_at-push}
use Rattle.sc_model.proofs.SetLemmas.{Keeps-refl}
use Rattle.sc_hoist.proofs.division.add_branch.Goals as goal

pub returns-clause-lists : goal.returns-clause-lists
returns-clause-lists g c = λ x listed.
    let s = g.C.Conditions.sets c.args.conds.now in
    let branch = c.without_call.result in
    let is : branch.places.items ≡ c.args.places.now = cc (c.in_ok-copy.ensures.items) in
    ap (λ (bs : List Branch). lists_at s bs x) c.in_ok-push.ensures.items
    ∙ lists_at-push c.args.divided.now.items branch (s.has c.args.cond.0 x) c.args.places.now x (Keeps-refl s) c.requires.leaves listed (ap (λ (k : Cond). s.has k.0 x) c.without_call.ensures.cond) is
