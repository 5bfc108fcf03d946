use Rattle.std.proofs.Common.{◌∙◌, subst, ap}
use Rattle.std.proofs.lemmas.Bool.{true≢false}
use Rattle.sc_presence.specs.Plain.{IsPlain}
use Rattle.sc_presence.specs.Rank.{config_at}
use Rattle.sc_presence.proofs.SetsLemmas.{IsExample, IsExample-config_at, IsNever-IsExample}
use Rattle.sc_presence.proofs.plain_sets.PlainSetsConditions.example.Goals as goal

found : (c : goal.After-slice_known-2-1) → IsExample c.args.self.now c.args.a.0 c.write_config.new.into
found c =
    let plain = subst IsPlain c.self.view_is c.self.invariant.plain in
    let same = c.write_config.ensures ∙ ap (λ ns. config_at ns c.in-Some.rank) (c.deref-2.ensures.value ∙ ap (λ p. p.arities) c.self.view_is) in
    let some = rw c.row.ensures.row at c.in-Some.ensures.some in
    IsExample-config_at _ _ _ _ plain c.requires.own same some.0 some.1

pub returns-clause-never : goal.returns-clause-never
returns-clause-never c = (λ e. absurd (true≢false e), λ never. absurd (IsNever-IsExample (found c) never))

pub returns-clause-config : goal.returns-clause-config
returns-clause-config c = (found c).listed

pub returns-clause-has : goal.returns-clause-has
returns-clause-has c = (found c).has
