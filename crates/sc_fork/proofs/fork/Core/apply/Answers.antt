use Rattle.std.proofs.Common.{length, refl}
use Rattle.std.proofs.lemmas.Bool.{true≢false}
use Rattle.sc_fork.specs.Owns.{OwnsRow}
use Rattle.sc_fork.specs.Pieces.{numbers_of}
use Rattle.sc_fork.proofs.NumberLemmas.{rows-numbered}
use Rattle.sc_scope.specs.Numbered.{HasNumbers}
use Rattle.sc_fork.proofs.PhaseLemmas.{makes}
use Rattle.sc_fork.proofs.CoreLemmas.{applied}
use Rattle.sc_fork.proofs.NodeLemmas.{adds-event, adds-none}
use Rattle.sc_fork.proofs.OwnLemmas.{each-is, numbers-within, owns-after, owns-given_up}
use Rattle.sc_fork.proofs.ReplaceLemmas.{becomes}
use Rattle.sc_fork.proofs.SoundLemmas.{choices-sound}
use Rattle.sc_fork.proofs.fork.Core.apply.Goals as goal

pub pieces_of-pieces-requires-clause-own : goal.pieces_of-pieces-requires-clause-own
pieces_of-pieces-requires-clause-own g c =
    let core = c.self.inside in
    let can = rw c.deref.ensures.value at c.in-Ok.ensures.ok in
    let own = rw (← c.self.view_is) at c.requires.own in
    each-is (OwnsRow (g.C.Conditions.sets c.args.conds.now) (length c.args.trees.now) core.source) core.rows.items core.source c.args.event c.in-Ok.enabled can (own.rows c.if-self.false)

pub pieces_of-pieces-requires-clause-numbered : goal.pieces_of-pieces-requires-clause-numbered
pieces_of-pieces-requires-clause-numbered g c =
    let core = c.self.inside in
    let can = rw c.deref.ensures.value at c.in-Ok.ensures.ok in
    each-is (λ s. HasNumbers core.scope_numbers s.scopes) core.rows.items core.source c.args.event c.in-Ok.enabled can (c.self.invariant c.if-self.false)

pub replace-requires : goal.replace-requires
replace-requires g c =
    let core = c.self.inside in
    let can = rw c.deref.ensures.value at c.in-Ok.ensures.ok in
    numbers-within core.source core.rows.items c.args.event c.in-Ok.enabled can

pub invariant_of-self-in-Ok-replace : goal.invariant_of-self-in-Ok-replace
invariant_of-self-in-Ok-replace g c = λ usable.
    let core = c.self.inside in
    rows-numbered core.scope_numbers c.pieces_of-pieces.new.numbers core.rows.items c.replace.new.rows.items (numbers_of c.args.event) c.in-Ok-pieces.pieces.items
    c.pieces_of-pieces.ensures.numbers c.in-Ok-replace.ensures.rows_are (c.self.invariant c.if-self.false) c.in-Ok-pieces.ensures.numbered

pub returns-in_default-clause-choices : goal.returns-in_default-clause-choices
returns-in_default-clause-choices g c =
    let s = g.C.Conditions.sets in
    let can = rw c.deref.ensures.value at c.in-Ok.ensures.ok in
    rw (← c.self.view_is)
    (λ names files input seen is stands sound.
    choices-sound (s c.args.conds.now) (s c.pieces_of-pieces.new.conds) c.args.trees.now c.pieces_of-pieces.new.trees names files input _ seen c.args.event c.in-Ok.enabled
    c.pieces_of-pieces.ensures.keeps c.requires.branches is stands can c.pieces_of-pieces.ensures.choices sound)

pub returns-in_default-replace-clause-choices : goal.returns-in_default-replace-clause-choices
returns-in_default-replace-clause-choices g c =
    let s = g.C.Conditions.sets in
    let can = rw c.deref.ensures.value at c.in-Ok.ensures.ok in
    rw (← c.self.view_is)
    (λ names files input seen is stands sound.
    choices-sound (s c.args.conds.now) (s c.pieces_of-pieces.new.conds) c.args.trees.now c.pieces_of-pieces.new.trees names files input _ seen c.args.event c.in-Ok.enabled
    c.pieces_of-pieces.ensures.keeps c.requires.branches is stands can c.pieces_of-pieces.ensures.choices sound)

pub returns-clause-applied : goal.returns-clause-applied
returns-clause-applied g c =
    let s = g.C.Conditions.sets in
    let can = rw c.deref.ensures.value at c.in-Ok.ensures.ok in
    rw (← c.self.view_is)
    (λ names files input seen is stands.
    applied (s c.args.conds.now) (s c.pieces_of-pieces.new.conds) c.args.trees.now c.pieces_of-pieces.new.trees names files input _ _ c.args.event c.in-Ok.enabled seen
    c.in-Ok-pieces.pieces.items c.in-Ok-replace.made.items c.pieces_of-pieces.ensures.keeps c.pieces_of-pieces.ensures.grows is stands can c.in-Ok-pieces.ensures.pieces c.in-Ok-pieces.ensures.own
    refl (becomes _ _ c.args.event c.in-Ok-pieces.pieces.items c.in-Ok-replace.made.items c.in-Ok-replace.ensures))

pub returns-clause-choices : goal.returns-clause-choices
returns-clause-choices g c =
    let s = g.C.Conditions.sets in
    let can = rw c.deref.ensures.value at c.in-Ok.ensures.ok in
    rw (← c.self.view_is)
    (λ names files input seen is stands sound.
    choices-sound (s c.args.conds.now) (s c.pieces_of-pieces.new.conds) c.args.trees.now c.pieces_of-pieces.new.trees names files input _ seen c.args.event c.in-Ok.enabled
    c.pieces_of-pieces.ensures.keeps c.requires.branches is stands can c.pieces_of-pieces.ensures.choices sound)

pub returns-in_default-clause-own : goal.returns-in_default-clause-own
returns-in_default-clause-own g c = owns-given_up _ _ c.pieces_of-pieces.ensures.keeps (rw (← c.self.view_is) at c.requires.own) refl true≢false

pub returns-in_default-replace-clause-own : goal.returns-in_default-replace-clause-own
returns-in_default-replace-clause-own g c = owns-given_up _ _ c.pieces_of-pieces.ensures.keeps (rw (← c.self.view_is) at c.requires.own) refl true≢false

pub returns-clause-own : goal.returns-clause-own
returns-clause-own g c =
    owns-after _ _ c.pieces_of-pieces.ensures.keeps (rw (← c.self.view_is) at c.requires.own) refl c.args.event c.in-Ok-pieces.pieces.items c.in-Ok-replace.made.items
    c.pieces_of-pieces.ensures.grows c.if-self.false (becomes _ _ c.args.event c.in-Ok-pieces.pieces.items c.in-Ok-replace.made.items c.in-Ok-replace.ensures) c.in-Ok-pieces.ensures.own

pub returns-clause-rows : goal.returns-clause-rows
returns-clause-rows g c =
    let core = c.self.inside in
    let can = rw c.deref.ensures.value at c.in-Ok.ensures.ok in
    rw (← c.self.view_is)
    (record {
      pieces = c.in-Ok-pieces.pieces.items;
      makes = makes core.source core.rows.items c.args.event c.in-Ok.enabled c.in-Ok-pieces.pieces.items can c.in-Ok-pieces.ensures.phases c.in-Ok-pieces.ensures.order;
      becomes = becomes _ _ c.args.event c.in-Ok-pieces.pieces.items c.in-Ok-replace.made.items c.in-Ok-replace.ensures;
    })

pub returns-then-self-clause-adds : goal.returns-then-self-clause-adds
returns-then-self-clause-adds g c = λ number is p stack line by made. adds-none _ _ _ refl

pub returns-in-Err-clause-adds : goal.returns-in-Err-clause-adds
returns-in-Err-clause-adds g c = λ number is p stack line by made. adds-none _ _ _ refl

pub returns-in_default-clause-adds : goal.returns-in_default-clause-adds
returns-in_default-clause-adds g c =
    let core = c.self.inside in
    let can = rw c.deref.ensures.value at c.in-Ok.ensures.ok in
    rw (← c.self.view_is) (adds-event core.source core.rows.items c.args.event c.in-Ok.enabled _ _ can c.pieces_of-pieces.ensures.adds)

pub returns-in_default-replace-clause-adds : goal.returns-in_default-replace-clause-adds
returns-in_default-replace-clause-adds g c =
    let core = c.self.inside in
    let can = rw c.deref.ensures.value at c.in-Ok.ensures.ok in
    rw (← c.self.view_is) (adds-event core.source core.rows.items c.args.event c.in-Ok.enabled _ _ can c.pieces_of-pieces.ensures.adds)

pub returns-clause-adds : goal.returns-clause-adds
returns-clause-adds g c =
    let core = c.self.inside in
    let can = rw c.deref.ensures.value at c.in-Ok.ensures.ok in
    rw (← c.self.view_is) (adds-event core.source core.rows.items c.args.event c.in-Ok.enabled _ _ can c.pieces_of-pieces.ensures.adds)
