use Rattle.std.proofs.Common.{◌≡◌, [], ◌∷◌, ◌++◌, ℕ, IfSome, List, Ok, slice_get, length, ap, ◌∙◌, sym, subst}
use Rattle.sc_fork.specs.declared.event.Event.TheVariants.{Reduce}
use Rattle.sc_fork.specs.Bundles.{IsDone}
use Rattle.sc_fork.specs.Owns.{OwnsCore}
use Rattle.sc_fork.specs.Pieces.{HasMade}
use Rattle.sc_fork.specs.View.{View}
use Rattle.sc_model.specs.Sets.{Sets}
use Rattle.sc_parse.proofs.PassLemmas.{done-goes-on, made-first}
use Rattle.sc_parse.specs.declared.steps.Steps.{Steps}
use Rattle.sc_parse.specs.Runs.{GoesOn, IsBefore}
use Rattle.sc_tree.specs.Lines.{Line, OwnsBranches}
use Rattle.sc_parse.proofs.steps.Steps.reduce.Goals as goal
use Rattle.sc_parse.proofs.steps.Steps.reduce.Goals.{In-Some, In_default}

pub pass_on-requires : goal.pass_on-requires
pass_on-requires g c = record { own = (g.C.Conditions.sets c.args.conds.now, (length c.args.trees.now, c.requires.own.core)) }

-- ---- it was done in place

done : (g : _) (c : In-Some g)
    → IsDone (g.C.Conditions.sets c.args.conds.now) (g.C.Conditions.sets c.args.conds.now) c.args.trees.now c.args.trees.now
    c.args.self.now.core (Reduce c.args.number) c.pass_on.new.self (c.in-Some.made ∷ [])
done g c =
    let old = c.args.self.now.core in
    let Does : ℕ → Type 0 = λ made. (sets : Sets) (lines : List Line) → OwnsCore sets (length lines) old → OwnsBranches sets lines
    → IsDone sets sets lines lines old (Reduce c.args.number) c.pass_on.new.self (made ∷ []) in
    subst (λ passed. IfSome passed Does) c.in-Some.is c.in_ok-made.ensures.done
    (g.C.Conditions.sets c.args.conds.now) c.args.trees.now c.requires.own.core c.requires.branches

pub returns-clause-made : goal.returns-clause-made
returns-clause-made g c = (done g (goal.at.returns-clause-made g c).In-Some).rows

pub returns-clause-goes_on : goal.returns-clause-goes_on
returns-clause-goes_on g c = λ place before.
    let s = g.C.Conditions.sets c.args.conds.now in
    let old = c.args.self.now in
    let pushed = c.in_ok-push.ensures.items ∙ ap (λ event. old.events.items ++ event ∷ []) c.in_ok-packed.ensures in
    let new : Steps = record { core = c.pass_on.new.self; events = c.push.new.self } in
    done-goes-on s s c.args.trees.now c.args.trees.now old new (Reduce c.args.number) (c.in-Some.made ∷ []) place
    (done g (goal.at.returns-clause-goes_on g c).In-Some) pushed before

-- ---- it was not

still : (g : _) (c : In_default g) → c.pass_on.new.self ≡ c.args.self.now.core
still g c = c.in_ok-made.ensures.not_done (ap Ok c.in_default.is)

-- the numbers that `apply` answers are the number that is answered
numbered : (g : _) (c : goal.After-drop-numbers g) → c.copied.result ≡ slice_get c.in_ok-numbers.numbers.items 0
numbered g c = c.copied.ensures ∙ c.first.ensures.value ∙ ap (λ ns. slice_get ns 0) c.deref.ensures.value

pub returns-in_default-clause-made : goal.returns-in_default-clause-made
returns-in_default-clause-made g c =
    let core = still g (goal.at.returns-in_default-clause-made g c).In_default in
    let numbers = c.in_ok-numbers.numbers.items in
    let made = subst (λ (v : View). HasMade v (Reduce c.args.number) c.apply.new.self.core numbers) core c.in_ok-numbers.ensures.made in
    made-first c.args.self.now.core c.apply.new.self.core c.args.number numbers c.copied.result c.requires.there.0 made c.requires.there.1 (numbered g c)

pub returns-in_default-clause-goes_on : goal.returns-in_default-clause-goes_on
returns-in_default-clause-goes_on g c = λ place before.
    let s = g.C.Conditions.sets in
    let core = still g (goal.at.returns-in_default-clause-goes_on g c).In_default in
    let Goes : Steps → Type 0 = λ old. GoesOn (s c.args.conds.now) (s c.apply.new.conds) c.args.trees.now c.apply.new.trees place old c.apply.new.self in
    subst Goes (ap (λ v. record { core = v; events = c.args.self.now.events }) core)
    (c.in_ok-numbers.ensures.goes_on place (subst (λ (v : View). IsBefore v.subparsers place (Reduce c.args.number)) (sym core) before))
