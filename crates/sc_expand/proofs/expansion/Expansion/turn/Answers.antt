use Rattle.std.proofs.Common.{length, Some, true, vec_len, sym, subst, ◌∙◌}
use Rattle.sc_expand.proofs.Rests.{no-first, none-popped, not-some}
use Rattle.sc_expand.proofs.Facts.{Extends-refl}
use Rattle.sc_expand.proofs.Terms.{Grows, IsTurned, macros_at, stores}
use Rattle.sc_expand.proofs.Turning.{call-alone, call-held, called-turn, left-turn, no-turn, popped-held, taken-turn}
use Rattle.sc_expand.proofs.expansion.Expansion.turn.Goals as goal

pub go_on-requires-clause-held : goal.go_on-requires-clause-held
go_on-requires-clause-held g c = (
  length c.args.files.now,
  (popped-held c.args.self.now c.requires.is.held c.pop.new.self (Some c.in-Some.call) c.in-Some.ensures.items, call-held c.args.self.now c.requires.is.held c.pop.new.self c.in-Some.call c.in-Some.ensures.items),
)

pub go_on-requires-clause-calls : goal.go_on-requires-clause-calls
go_on-requires-clause-calls g c = λ config listed has live.
    call-alone (stores (g.C.Conditions.sets c.args.conds.now) c.args.names.now c.args.self.now.sets) config c.args.self.now c.pop.new.self c.in-Some.call c.in-Some.ensures.items (c.requires.is.stands config listed live) has

pub returns-in-Some-clause-turned : goal.returns-in-Some-clause-turned
returns-in-Some-clause-turned g c =
    let old = stores (g.C.Conditions.sets c.args.conds.now) c.args.names.now c.args.self.now.sets in
    let new = stores (g.C.Conditions.sets c.go_on.new.conds) c.args.names.now c.go_on.new.self.sets in
    let grows : Grows old new = record { sets = c.go_on.ensures.keeps; names = Extends-refl c.args.names.now; hides = c.go_on.ensures.sets } in
    let macros = macros_at (g.C.Conditions.sets c.args.conds.now) c.args.names.now c.args.table.now in
    called-turn grows c.args.files.now macros c.args.self.now c.go_on.new.self c.requires.is c.pop.new.self c.in-Some.call c.in-Some.ensures.items c.requires.ready c.in_ok-go_on.ensures.gone_on

pub take-requires-clause-held : goal.take-requires-clause-held
take-requires-clause-held g c = popped-held c.args.self.now c.requires.is.held c.pop.new.self c.pop.result c.pop.ensures.items

pub take-requires-clause-calls : goal.take-requires-clause-calls
take-requires-clause-calls g c =
    let none = none-popped c.args.self.now.top.calls.items c.pop.new.self.items (vec_len c.args.self.now.top.calls) (vec_len c.pop.new.self) c.pop.result c.pop.ensures.items c.pop.ensures.rest c.pop.ensures.cases (not-some c.pop.result c.in_default.not-Some) in
    none.after

pub returns-in-Some-first-clause-turned : goal.returns-in-Some-first-clause-turned
returns-in-Some-first-clause-turned g c =
    let old = stores (g.C.Conditions.sets c.args.conds.now) c.args.names.now c.args.self.now.sets in
    let new = stores (g.C.Conditions.sets c.take.new.conds) c.take.new.names c.take.new.self.sets in
    let grows : Grows old new = record { sets = c.take.ensures.keeps; names = c.take.ensures.names; hides = c.take.ensures.sets } in
    let none = none-popped c.args.self.now.top.calls.items c.pop.new.self.items (vec_len c.args.self.now.top.calls) (vec_len c.pop.new.self) c.pop.result c.pop.ensures.items c.pop.ensures.rest c.pop.ensures.cases (not-some c.pop.result c.in_default.not-Some) in
    taken-turn grows c.args.files.now (macros_at (g.C.Conditions.sets c.args.conds.now) c.args.names.now c.args.table.now) c.args.self.now c.take.new.self c.requires.is c.pop.new.self none (c.in-Some-first.has, c.in-Some-first.token) (sym c.first.ensures ∙ c.in-Some-first.is)
    c.requires.ready c.in_ok-take.ensures.taken

pub returns-in-Some-pop-clause-turned : goal.returns-in-Some-pop-clause-turned
returns-in-Some-pop-clause-turned g c =
    let old = stores (g.C.Conditions.sets c.args.conds.now) c.args.names.now c.args.self.now.sets in
    let macros = macros_at (g.C.Conditions.sets c.args.conds.now) c.args.names.now c.args.table.now in
    let none = none-popped c.args.self.now.top.calls.items c.pop.new.self.items (vec_len c.args.self.now.top.calls) (vec_len c.pop.new.self) c.pop.result c.pop.ensures.items c.pop.ensures.rest c.pop.ensures.cases (not-some c.pop.result c.in_default.not-Some) in
    let empty = no-first c.args.self.now.top.work c.first.result c.first.ensures (not-some c.first.result c.in_default-first.not-Some) in
    subst (λ h. IsTurned c.args.files.now macros old (stores (g.C.Conditions.sets c.args.conds.now) c.args.names.now h) c.args.self.now c.leave.new.self true) (sym c.leave.ensures.sets)
    (left-turn old c.args.files.now macros c.args.self.now c.leave.new.self c.requires.is c.pop.new.self c.pop-2.new.self c.in-Some-pop.enclosing none empty c.in-Some-pop.ensures.items c.requires.ready
    c.in_ok-leave.ensures.calls c.in_ok-leave.ensures.work c.in_ok-leave.ensures.out c.leave.ensures.refusals c.leave.ensures.below c.leave.ensures.rest)

pub returns-clause-turned : goal.returns-clause-turned
returns-clause-turned g c =
    let none = none-popped c.args.self.now.top.calls.items c.pop.new.self.items (vec_len c.args.self.now.top.calls) (vec_len c.pop.new.self) c.pop.result c.pop.ensures.items c.pop.ensures.rest c.pop.ensures.cases (not-some c.pop.result c.in_default.not-Some) in
    let less = none-popped c.args.self.now.below.items c.pop-2.new.self.items (vec_len c.args.self.now.below) (vec_len c.pop-2.new.self) c.pop-2.result c.pop-2.ensures.items c.pop-2.ensures.rest c.pop-2.ensures.cases (not-some c.pop-2.result c.in_default-pop.not-Some) in
    let empty = no-first c.args.self.now.top.work c.first.result c.first.ensures (not-some c.first.result c.in_default-first.not-Some) in
    no-turn (stores (g.C.Conditions.sets c.args.conds.now) c.args.names.now c.args.self.now.sets) c.args.files.now (macros_at (g.C.Conditions.sets c.args.conds.now) c.args.names.now c.args.table.now) c.args.self.now c.args.self.now c.requires.is c.pop.new.self c.pop-2.new.self none empty less
