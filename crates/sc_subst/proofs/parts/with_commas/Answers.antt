use Rattle.std.proofs.Common.{List, Some, map}
use Rattle.std.specs.Prelude.{option_to_list}
use Rattle.c11_macros.specs.Substitution as substitution
use Rattle.sc_subst.specs.declared.parts.ListPart.{ListPart}
use Rattle.sc_subst.specs.ListParts.{seen_joint, seen_list_part}
use Rattle.sc_subst.proofs.PartTurns.{blank_part, part_turn}
use Rattle.sc_subst.proofs.parts.with_commas.Goals as goal

pub loop-i-preserved : goal.loop-i-preserved
loop-i-preserved c =
    let names = c.args.names.now in
    let turn = c.next_joint-turn.result in
    let see : List ListPart → List substitution.Part = map (seen_list_part names) in
    record {
      own = c.in_ok-push.ensures.own names c.loop-i.invariant.own c.next_joint-turn.ensures.own;
      is = part_turn c.args.parts.now c.loop-i.i blank_part (λ ps. substitution.with_commas (Some c.args.rest) (seen_joint c.loop-i.before) (see ps))
          (λ ps. substitution.with_commas (Some c.args.rest) (seen_joint turn.before) (see ps)) _ (see c.loop-i.made.items) (see (option_to_list turn.made)) (see c.push.new.made.items) c.loop-i-test.true
          c.loop-i.invariant.is c.next_joint-turn.ensures.is (c.in_ok-push.ensures.is names);
    }
