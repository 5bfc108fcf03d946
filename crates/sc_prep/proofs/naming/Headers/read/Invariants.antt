use Rattle.std.proofs.Common.{◌≡◌, take, true}
use Rattle.sc_base.specs.declared.token.Token as base
use Rattle.sc_prep.proofs.Terms.{AreHeaders, ArePlainNames, EachToken, Keeps, is_plain}
use Rattle.sc_prep.proofs.naming.Headers.read.Given as goal

abbrev pub invariant-loop-alternative : goal.invariant-loop-alternative
invariant-loop-alternative g l =
    let old = g.C.Conditions.sets l.fn.conds in
    let now = g.C.Conditions.sets l.conds in
    record {
      keeps : Keeps old now;
      headers : AreHeaders old l.names (take l.alternative-index l.alternatives) now l.headers;
      plain : EachToken (λ (t : base.Token). is_plain l.names t ≡ true) l.alternatives → ArePlainNames l.headers.named.items;
    }
