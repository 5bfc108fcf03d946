use Rattle.std.proofs.Common.{◌≡◌, [], subst}
use Rattle.sc_core.proofs.SummaryLemmas.{has-tree, size-read}
use Rattle.sc_core.proofs.summaries.size_at.Goals as goal
use Rattle.sc_guarded.specs.Items.{faults_at}

pub tree_size-requires-clause-tree : goal.tree_size-requires-clause-tree
tree_size-requires-clause-tree g c =
    let s = g.C.Conditions.sets c.args.conds.now in
    let parsed = c.args.parsed.now in
    let config = c.args.config.now in
    let nothing : faults_at s parsed.faults.items config ≡ [] = subst (λ fs. faults_at s fs config ≡ []) c.deref.ensures.value (c.is_refused.ensures.none c.if-is_refused.false) in
    has-tree s c.requires.answered.0 c.requires.answered.1 parsed config c.requires.answered.2 c.requires.config c.in-Some.root c.in-Some.is nothing

pub returns : goal.returns
returns g c = λ names files o stands.
    let s = g.C.Conditions.sets c.args.conds.now in
    let parsed = c.args.parsed.now in
    let config = c.args.config.now in
    let nothing : faults_at s parsed.faults.items config ≡ [] = subst (λ fs. faults_at s fs config ≡ []) c.deref.ensures.value (c.is_refused.ensures.none c.if-is_refused.false) in
    size-read s names files parsed config o c.in-Some.root c.in_ok-size.size c.in-Some.is nothing (λ tree reads. c.in_ok-size.ensures names files tree reads) stands
