use Rattle.std.proofs.Common.{ap, false, sym, subst, drop, get_or}
use Rattle.sc_prep.proofs.Facts.{All-get_or, drop-cons, on_ok_weaker}
use Rattle.sc_prep.proofs.Held.{refused-held}
use Rattle.sc_prep.proofs.Terms.{Identifier, IsPlaced, SimulatesStep, Token, Walk, refusing_if, seen_line}
use Rattle.sc_prep.proofs.WalkMoves.{refuses, refuses-none}
use Rattle.sc_prep.proofs.walk.Walk.refuse.Goals as goal

-- what stands past the last token
abbrev no_token : Token
no_token = record { kind = Identifier; name = record { 0 = 0 }; spelling = record { 0 = 0 }; space = false; place = record { file = record { 0 = 0 }; line = 0; column = 0 } }

pub returns-clause-moved : goal.returns-clause-moved
returns-clause-moved g c = on_ok_weaker c.refuse_at.result (λ refused. λ standard names t part.
    let old = g.C.Conditions.sets c.args.conds.now in
    let w = c.args.self.now in
    let line = c.args.line.now in
    subst (λ l. SimulatesStep names old w (g.C.Conditions.sets c.refuse_at.new.conds) c.refuse_at.new.self (λ files config m. refusing_if (t config) m (seen_line standard names files l) c.args.cause))
    (sym (drop-cons line 0 no_token c.requires.line))
    (refuses standard names c.refuse_at.ensures.keeps w c.requires.owns c.args.part t c.args.cause (get_or line 0 no_token) (drop 1 line) c.refuse_at.new.self part refused))
    c.refuse_at.ensures.refuses

pub returns-clause-printable : goal.returns-clause-printable
returns-clause-printable g c = on_ok_weaker c.refuse_at.result (λ refused. λ names files test all held.
    refused-held names files test c.args.self.now c.refuse_at.new.self _ refused (All-get_or (IsPlaced names files) c.args.line.now 0 no_token c.requires.line all).file held)
    c.refuse_at.ensures.refuses

pub returns-then-is_never-clause-moved : goal.returns-then-is_never-clause-moved
returns-then-is_never-clause-moved g c = λ standard names t part.
    refuses-none standard names (g.C.Conditions.sets c.args.conds.now) c.args.self.now c.requires.owns c.args.part t c.args.cause part (c.is_never.ensures.0 c.if-is_never.true) c.args.line.now

pub returns-clause-list : goal.returns-clause-list
returns-clause-list g c = on_ok_weaker c.refuse_at.result (λ refused. ap (λ (v : Walk). v.prepared.list) refused.same) c.refuse_at.ensures.refuses

pub returns-clause-runs : goal.returns-clause-runs
returns-clause-runs g c = on_ok_weaker c.refuse_at.result (λ refused. ap (λ (v : Walk). v.runs) refused.same) c.refuse_at.ensures.refuses
