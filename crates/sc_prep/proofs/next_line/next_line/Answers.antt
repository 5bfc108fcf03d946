use Rattle.std.proofs.Common.{◌≡◌, ◌+◌, true, None, sym, subst, MatchBool}
use Rattle.sc_prep.proofs.Passing.{branch-over, found-branch}
use Rattle.sc_prep.proofs.Terms.{EndsAt, HasBranch}
use Rattle.sc_prep.proofs.next_line.next_line.Goals as goal

pub returns-in-Some : goal.returns-in-Some
returns-in-Some c = λ ms stand.
    let number = c.args.number in
    let next = c.in-Some.branch.next in
    let passed : c.args.is_passed ≡ true = c.if-not-is_passed.false in
    let has = subst (HasBranch ms number) c.in-Some.is (found-branch ms c.args.lines.now stand number (record { first = 0; end = 0; directive = None; branch = None }) c.requires.within) in
    subst (λ b. MatchBool b (EndsAt ms (number + 1) next) (next ≡ number + 1)) (sym passed) (branch-over ms number c.in-Some.branch has)
