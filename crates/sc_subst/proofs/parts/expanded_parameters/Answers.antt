use Rattle.std.proofs.Common.{◌∙◌, false, map, ap}
use Rattle.c11_macros.specs.Substitution.{each_once, wanted_places}
use Rattle.sc_subst.specs.ListParts.{seen_list_part}
use Rattle.sc_subst.proofs.parts.expanded_parameters.Goals as goal

pub returns : goal.returns
returns c =
    c.in_ok-wanted.ensures c.args.names.now
    ∙ (ap (λ ps. each_once (wanted_places false (map (seen_list_part c.args.names.now) ps))) c.deref.ensures.value ∙ ap (λ ps. each_once (wanted_places false ps)) c.in_ok-parts.ensures.is)
