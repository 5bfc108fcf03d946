use Rattle.std.proofs.Common.{◌∙◌, false, map, ap, sym}
use Rattle.c11_macros.specs.Substitution.{wanted_places}
use Rattle.std.proofs.lemmas.List.{drop_all}
use Rattle.sc_subst.specs.ListParts.{seen_list_part}
use Rattle.sc_subst.proofs.PartTurns.{blank_part}
use Rattle.sc_subst.proofs.Wanted.{added, all_added, wanted_turn}
use Rattle.sc_subst.proofs.parts.wanted_in.Goals as goal

pub loop-i-preserved : goal.loop-i-preserved
loop-i-preserved c = λ names.
    wanted_turn names c.args.parts.now c.loop-i.i blank_part c.loop-i.wanted.items c.add.new.wanted.items c.loop-i.behind c.is_paste-behind.result c.wants-found.result c.loop-i-test.true (c.wants-found.ensures names)
    c.in_ok-add.ensures c.is_paste-behind.ensures
    ∙ c.loop-i.invariant names

pub returns : goal.returns
returns c = λ names.
    ap (λ ps. added c.loop-i.wanted.items (wanted_places c.loop-i.behind (map (seen_list_part names) ps))) (sym (drop_all c.loop-i.i c.args.parts.now c.loop-i-test.false))
    ∙ (c.loop-i.invariant names ∙ all_added (wanted_places false (map (seen_list_part names) c.args.parts.now)))
