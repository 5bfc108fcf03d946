use Rattle.std.proofs.Common.{List, map}
use Rattle.std.specs.Prelude.{option_to_list}
use Rattle.c11_macros.specs.Substitution as substitution
use Rattle.sc_macro.specs.Seen.{seen_form, seen_item}
use Rattle.sc_subst.specs.declared.parts.ListPart.{ListPart}
use Rattle.sc_subst.specs.ListParts.{seen_before, seen_list_part}
use Rattle.sc_subst.proofs.PartTurns.{blank_item, part_turn}
use Rattle.sc_subst.proofs.parts.operands.Goals as goal

pub loop-i-preserved : goal.loop-i-preserved
loop-i-preserved c =
    let names = c.args.names.now in
    let form = seen_form names c.args.form.now in
    let turn = c.next-turn.result in
    let see : List ListPart → List substitution.Part = map (seen_list_part names) in
    record {
      own = c.in_ok-push.ensures.own names c.loop-i.invariant.own c.next-turn.ensures.own;
      is = part_turn c.args.items.now c.loop-i.i blank_item (λ xs. substitution.parts form (seen_before c.loop-i.before) (map (seen_item names) xs))
          (λ xs. substitution.parts form (seen_before turn.before) (map (seen_item names) xs)) _ (see c.loop-i.made.items) (see (option_to_list turn.made)) (see c.push.new.made.items) c.loop-i-test.true
          c.loop-i.invariant.is c.next-turn.ensures.is (c.in_ok-push.ensures.is names);
    }
