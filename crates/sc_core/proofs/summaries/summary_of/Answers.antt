use Rattle.std.proofs.Common.{◌∙◌, List, ap, arith, refl, subst, sym}
use Rattle.sc_base.specs.declared.fault.Fault as base
use Rattle.sc_core.proofs.SummaryLemmas.{first-chosen, first-is, last-chosen, last-is}
use Rattle.sc_core.proofs.summaries.summary_of.Goals as goal
use Rattle.sc_core.specs.Texts.{Stands, seen_by}
use Rattle.sc_model.specs.Space.{arities_of}
use Rattle.sc_show.specs.FaultCount.{AreFaultsOf}

pub size_at-requires-clause-config : goal.size_at-requires-clause-config
size_at-requires-clause-config g c =
    first-chosen c.args.space.now c.len.result c.deref.result.now (g.C.Conditions.sets c.args.conds.now) (omega (arith, c.args.space.now.variables.ok.0, c.len.ensures)) c.requires.space (c.requires.arities ∙ ap arities_of c.requires.space)
    (c.deref.ensures.value ∙ c.in_ok-first.ensures.items_if_clones_equal (λ y e. e))

pub size_at-requires-2-clause-config : goal.size_at-requires-2-clause-config
size_at-requires-2-clause-config g c =
    last-chosen c.args.space.now c.len-2.result c.deref-2.result.now (g.C.Conditions.sets c.args.conds.now) (omega (arith, c.args.space.now.variables.ok.0, c.len-2.ensures)) c.requires.space (c.requires.arities ∙ ap arities_of c.requires.space)
    (c.deref-2.ensures.value ∙ c.in_ok-last.ensures.items_if_clones_equal (λ y e. e))

pub size_at-requires-clause-own : goal.size_at-requires-clause-own
size_at-requires-clause-own g c = λ k d h. (c.requires.shown k d h).own

pub size_at-requires-2-clause-own : goal.size_at-requires-2-clause-own
size_at-requires-2-clause-own g c = λ k d h. (c.requires.shown k d h).own

pub size_at-requires-clause-answered : goal.size_at-requires-clause-answered
size_at-requires-clause-answered g c = (c.requires.answered.0, c.args.files.now, c.requires.answered.1)

pub size_at-requires-2-clause-answered : goal.size_at-requires-2-clause-answered
size_at-requires-2-clause-answered g c = (c.requires.answered.0, c.args.files.now, c.requires.answered.1)

pub returns : goal.returns
returns g c = λ names.
    let s = g.C.Conditions.sets c.args.conds.now in
    let files = c.args.files.now in
    let p = c.args.parsed.now in
    let arities = c.requires.arities ∙ ap arities_of c.requires.space in
    let zeros = c.deref.ensures.value ∙ c.in_ok-first.ensures.items_if_clones_equal (λ y e. e) in
    let ones = c.deref-2.ensures.value ∙ c.in_ok-last.ensures.items_if_clones_equal (λ y e. e) in
    let first_is = first-is c.args.space.now c.len.result c.deref.result.now s (omega (arith, c.args.space.now.variables.ok.0, c.len.ensures)) c.requires.space arities zeros in
    let last_is = last-is c.args.space.now c.len-2.result c.deref-2.result.now s (omega (arith, c.args.space.now.variables.ok.0, c.len-2.ensures)) c.requires.space arities ones in
    let different = c.in_ok-count_faults.ensures in
    record {
      items_are = refl;
      first = λ o stands. c.in_ok-size_at.ensures names files o (subst (λ d. Stands (seen_by s names files p) p.root p.faults.items d o) (sym first_is) stands);
      last = λ o stands. c.in_ok-size_at-2.ensures names files o (subst (λ d. Stands (seen_by s names files p) p.root p.faults.items d o) (sym last_is) stands);
      different = different.0;
      of = subst (λ (faults : List base.Fault). AreFaultsOf s files faults different.0) c.deref-3.ensures.value different.1;
      many = different.2;
      classes = refl;
    }
