use Rattle.sc_lalr.proofs.Leading.{first_is}
use Rattle.sc_lalr.proofs.first.beginners.Goals as goal

pub returns-clause-exact : goal.returns-clause-exact
returns-clause-exact c = λ g b x h b_in t_in. first_is g c.args.leading.now c.args.from b c.in_ok-words.words.items c.spread.new.words.items h b_in t_in c.in_ok-words.ensures.len c.in_ok-words.ensures.own c.in_ok-spread.ensures x
