use Rattle.std.proofs.Common.{ap, length, subst, sym, ◌∙◌}
use Rattle.sc_expand.proofs.ExpandLemmas.{begun-alike, begun-held, settled-alike, settled-held, settled-is}
use Rattle.sc_expand.proofs.Terms.{AreHeld, Cond, DefineAlike, Expansion, Extends, IsCond, IsHeldSettled, IsSettled, IsUntouched, macros_at, provenance_of, seen_at, stores}
use Rattle.sc_expand.proofs.settling.settle.Goals as goal

pub run-ran-requires-clause-held : goal.run-ran-requires-clause-held
run-ran-requires-clause-held g c =
    let s = g.C.Conditions.sets c.args.conds.now in
    let n = c.args.names.now in
    let files = length c.args.files.now in
    let e = c.in_ok-expansion.ensures in
    let fresh = e.untouched s (record { none = λ x listed. c.never-never.ensures.meaning.at x listed }) in
    let begun : Expansion = record c.in_ok-expansion.expansion { sets = c.swap.new.y } in
    let held = subst (λ h. AreHeld (stores s n h) files c.args.list) (sym c.swap.ensures.y_after) c.requires.held in
    begun-held (stores s n c.swap.new.y) begun c.args.list c.args.live (record { below = fresh.below; out = fresh.out; calls = fresh.calls; faults = fresh.faults; rest = fresh.rest; waiting = fresh.waiting }) e.live e.work files held c.requires.live_own
    (subst (λ (k : Cond). IsCond s k.0) (sym e.waiting) c.never-never.ensures.own)

pub run-ran-requires-clause-untouched : goal.run-ran-requires-clause-untouched
run-ran-requires-clause-untouched g c =
    let s = g.C.Conditions.sets c.args.conds.now in
    let fresh = c.in_ok-expansion.ensures.untouched s (record { none = λ x listed. c.never-never.ensures.meaning.at x listed }) in
    record { below = fresh.below; out = fresh.out; calls = fresh.calls; faults = fresh.faults; rest = fresh.rest; waiting = fresh.waiting }

pub returns : goal.returns
returns g c =
    let s = g.C.Conditions.sets c.args.conds.now in
    let last = g.C.Conditions.sets c.run-ran.new.conds in
    let n = c.args.names.now in
    let later = c.run-ran.new.names in
    let files = c.args.files.now in
    let macros = macros_at s n c.args.table.now in
    let list = c.args.list in
    let live = c.args.live in
    let e = c.in_ok-expansion.ensures in
    let began = e.untouched s (record { none = λ x listed. c.never-never.ensures.meaning.at x listed }) in
    let begun : Expansion = record c.in_ok-expansion.expansion { sets = c.swap.new.y } in
    let fresh : IsUntouched s begun = record { below = began.below; out = began.out; calls = began.calls; faults = began.faults; rest = began.rest; waiting = began.waiting } in
    let ran = c.in_ok-ran.ensures in
    let after = c.run-ran.new.self in
    let settled = c.in_ok-settled.settled in
    let f = c.in_ok-settled.ensures in
    let old = stores s n c.swap.new.y in
    let new = stores last later after.sets in
    let into = c.swap.ensures.y_after in
    let back = sym c.swap-2.ensures.x_after in
    record {
      settles =
          subst (λ h. IsSettled (stores s n c.args.sets.now) (stores last later h) files macros list live.0 settled) back
          (subst (λ h. IsSettled (stores s n h) new files macros list live.0 settled) into
          (settled-is old begun list live fresh e.live e.work new after settled f.done f.rest f.held files macros ran.out (λ config listed. (ran.done config listed).0) ran.segments));
      held = subst (λ h. IsHeldSettled (stores last later h) (length files) settled) back (settled-held old begun list live fresh e.live e.work new after settled f.done f.rest f.held (length files) ran.held ran.out);
      stops = tt;
      alike = λ one two p q here there same defines.
          let looked = subst (λ h. DefineAlike (provenance_of files) (macros one) (macros two) (seen_at (stores s n h) list one)) (sym into) defines in
          let looks = subst (λ l. DefineAlike (provenance_of files) (macros one) (macros two) (seen_at old l one)) (sym e.work) looked in
          let start = begun-alike old begun list live fresh e.live e.work one two p q (here ∙ sym there) same in
          let both = ran.alike one two p q (ap (λ (k : Cond). s.has k.0 one) e.live ∙ here) looks start in
          settled-alike old begun list live fresh e.live e.work new after settled f.done f.rest f.held one two both.0 both.1;
      keeps = c.run-ran.ensures.grows.sets;
      names = c.run-ran.ensures.grows.names;
      sets = subst (λ h. Extends c.args.sets.now h) back (subst (λ h. Extends h after.sets) into c.run-ran.ensures.grows.hides);
    }
