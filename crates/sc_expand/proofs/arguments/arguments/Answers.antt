use Rattle.sc_expand.proofs.arguments.arguments.Goals as goal

pub returns-in_ok-fit-in-Function-clause-own : goal.returns-in_ok-fit-in-Function-clause-own
returns-in_ok-fit-in-Function-clause-own c = λ sets held. c.in_ok-fit-in-Function.ensures.own c.args.names.now sets (c.in_ok-parted-in-Function.ensures.own sets held)
