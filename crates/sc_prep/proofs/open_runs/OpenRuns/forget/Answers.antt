use Rattle.std.proofs.Common.{◌∙◌, sym, subst}
use Rattle.sc_prep.proofs.Terms.{Forgets}
use Rattle.sc_prep.proofs.open_runs.OpenRuns.forget.Goals as goal
use Rattle.sc_prep.specs.Gathered.{forgets, keeps_all}
use Rattle.std.proofs.lemmas.List.{nil_from_length}

pub returns-in_ok-self : goal.returns-in_ok-self
returns-in_ok-self c =
    let runs = c.args.self.now in
    let none = c.if-as_slice-eq0.true in
    subst (λ read. Forgets runs (record runs { read = read })) (sym c.in_ok-self.ensures)
    (forgets (nil_from_length runs.gathered (sym c.len.ensures ∙ c.if-len-eq0.true)) (sym c.as_slice.ensures.value ∙ nil_from_length c.as_slice.result.now none))

pub returns-else-len-eq0 : goal.returns-else-len-eq0
returns-else-len-eq0 c = keeps_all
