use Rattle.std.proofs.Common.{[], ◌∷◌, ap, sym, subst, ◌∙◌}
use Rattle.std.proofs.lemmas.Bool.{true≢false}
use Rattle.sc_fork.specs.Owns.{IsFirst}
use Rattle.sc_fork.specs.Starts.{AreFirst, no_first, one_first}
use Rattle.sc_fork.proofs.fork.first_rows.Goals as goal

pub returns-then-is_never : goal.returns-then-is_never
returns-then-is_never g c = subst (AreFirst (g.C.Conditions.sets c.args.conds.now) c.args.live) (sym c.new.ensures.items) (no_first (c.is_never.ensures.0 c.if-is_never.true))

pub returns : goal.returns
returns g c =
    subst (AreFirst (g.C.Conditions.sets c.args.conds.now) c.args.live) (sym (c.in_ok-vec.ensures.items ∙ ap (λ row. row ∷ []) c.in_ok-row.ensures))
    (one_first c.in_ok-held.held (λ never. true≢false (sym (c.is_never.ensures.1 never) ∙ c.if-is_never.false)) (subst (IsFirst c.args.live) (sym c.in_ok-held.ensures) c.in_ok-subparser.ensures))
