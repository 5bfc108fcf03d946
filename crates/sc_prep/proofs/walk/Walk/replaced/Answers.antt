use Rattle.std.proofs.Common.{◌≡◌, List, length, sym, subst, ◌∙◌, ◌&&◌, is_none, map, ◌<◌}
use Rattle.sc_base.specs.declared.fault.Fault.{Fault}
use Rattle.sc_prep.proofs.ExpressionMoves.{replaces-at}
use Rattle.sc_prep.proofs.Facts.{All-weaker, Denotes-self, IsConfig-Keeps, IsTable-Keeps, Keeps-trans, macros_at-Keeps}
use Rattle.sc_prep.proofs.StageRefusals.{refused-stage}
use Rattle.sc_prep.proofs.Terms.{IsPlaced, RefusesEach, ReplacesAt, Token, Walk, items_at, seen, seen_place}
use Rattle.sc_prep.proofs.WalkMoves.{owns-kept}
use Rattle.sc_prep.proofs.walk.Walk.replaced.Goals as goal

pub replace_defined-requires-clause-table : goal.replace_defined-requires-clause-table
replace_defined-requires-clause-table g c = IsTable-Keeps c.in_ok-live.ensures.keeps c.requires.table

pub returns-clause-replaces : goal.returns-clause-replaces
returns-clause-replaces g c =
    let old = g.C.Conditions.sets c.args.conds.now in
    let w = c.args.self.now in
    let names = c.args.names.now in
    let more = c.replace_defined.new.names in
    let table = c.replace_defined.new.table in
    let k1 = c.in_ok-live.ensures.keeps in
    let x = c.in_ok-replaced.ensures in
    let k3 = c.in_ok-refuse_each.ensures.keeps in
    let e = c.in_ok-replaced.replaced in
    let new = g.C.Conditions.sets c.refuse_each.new.conds in
    let moved : Walk = record w { table = table } in
    let refuses = subst (λ (fs : List Fault). RefusesEach (g.C.Conditions.sets c.replace_defined.new.conds) moved fs new c.refuse_each.new.self) c.deref.ensures.value c.in_ok-refuse_each.ensures.refuses in
    let live = c.in_ok-live.ensures.meaning (old.has c.args.among.0) (old.has w.prepared.live.0) (Denotes-self old c.args.among.0 c.requires.among_own) (Denotes-self old w.prepared.live.0 c.requires.owns.prepared.live) in
    record {
      own = λ k d h. k3.own _ (x.list.own k d h);
      placed = λ files placed k d h. record {
        held = x.list.held k d h;
        file = x.placed files (All-weaker (IsPlaced names files) (λ (t : Token). t.place.file.0 < files) (λ t p. p.file) c.args.text.now placed) k d h;
      };
      different = x.different;
      stage = λ files there held.
          refused-stage files names more (Keeps-trans k1 x.keeps) k3 x.names w c.refuse_each.new.self table e.faults.items c.requires.owns c.requires.table held x.table
          (λ config text listed. x.still config text (IsConfig-Keeps k1 listed) ∙ macros_at-Keeps k1 c.requires.table config text listed) x.faults_own refuses
          (λ config m n. ReplacesAt (map (seen names files) c.args.text.now) (seen_place files c.args.hash) (old.has c.args.among.0 config && is_none m.fault) m (map (seen more files) (items_at new e.list config)) n)
          (All-weaker (λ (f : Fault). f.place ≡ c.args.hash) (λ (f : Fault). f.place.file.0 < length files) (λ f is. subst (λ p. p.file.0 < length files) (sym is) there) _ x.faults_placed)
          (replaces-at k1 w c.args.among c.in_ok-live.live live c.requires.table files more x.keeps k3 c.args.text.now c.args.hash e x.list.own x.replaced x.others);
    }

pub refuse_each-requires-clause-live : goal.refuse_each-requires-clause-live
refuse_each-requires-clause-live g c = (owns-kept (Keeps-trans c.in_ok-live.ensures.keeps c.in_ok-replaced.ensures.keeps) c.args.self.now c.requires.owns).prepared.live

pub refuse_each-requires-clause-acting : goal.refuse_each-requires-clause-acting
refuse_each-requires-clause-acting g c = (owns-kept (Keeps-trans c.in_ok-live.ensures.keeps c.in_ok-replaced.ensures.keeps) c.args.self.now c.requires.owns).acting

pub returns-in_err-refuse_each-clause-keeps : goal.returns-in_err-refuse_each-clause-keeps
returns-in_err-refuse_each-clause-keeps g c = Keeps-trans c.in_ok-live.ensures.keeps (Keeps-trans c.in_ok-replaced.ensures.keeps c.in_err-refuse_each.ensures.keeps)

pub returns-clause-keeps : goal.returns-clause-keeps
returns-clause-keeps g c = Keeps-trans c.in_ok-live.ensures.keeps (Keeps-trans c.in_ok-replaced.ensures.keeps c.in_ok-refuse_each.ensures.keeps)
