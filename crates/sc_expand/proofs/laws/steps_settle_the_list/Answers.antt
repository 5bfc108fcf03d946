use Rattle.std.proofs.Common.{[]}
use Rattle.sc_expand.proofs.PlainSettles.{opens-end, opens-fail, opens-leads, opens-start, opens-wait}
use Rattle.sc_expand.proofs.Terms.{scanning}
use Rattle.sc_expand.proofs.laws.steps_settle_the_list.Goals as goal

pub returns-clause-whole : goal.returns-clause-whole
returns-clause-whole g c = λ provenance macros list out leads. opens-end provenance macros list out (opens-leads provenance macros list (scanning [] list) (scanning out []) (opens-start provenance macros list) leads)

pub returns-clause-waits : goal.returns-clause-waits
returns-clause-waits g c = λ provenance macros list out rest leads.
    opens-wait provenance macros list out rest (opens-leads provenance macros list (scanning [] list) (scanning out rest) (opens-start provenance macros list) leads)

pub returns-clause-held : goal.returns-clause-held
returns-clause-held g c = λ provenance macros list s failure leads. opens-fail provenance macros list s failure (opens-leads provenance macros list (scanning [] list) s (opens-start provenance macros list) leads)
