use Rattle.std.proofs.Common.{◌≡◌, List, rules, subst, ◌∙◌, ◌&&◌, true, is_none, map}
use Rattle.sc_base.specs.declared.fault.Fault.{Fault}
use Rattle.sc_if.proofs.AlikeReplacing.{AreAlike-Keeps}
use Rattle.sc_prep.proofs.ExpandedBefore.{define-alike, text-expands}
use Rattle.sc_prep.proofs.ExpressionMoves.{expands-at}
use Rattle.sc_prep.proofs.Facts.{Denotes-self, IsConfig-Keeps, IsTable-Keeps, Keeps-trans, expand-stops, macros_at-Keeps}
use Rattle.sc_prep.proofs.NameStops.{list-stops}
use Rattle.sc_prep.proofs.StageRefusals.{refused-stage}
use Rattle.sc_prep.proofs.Terms.{AreDifferent, ExpandsAt, NameHas, RefusesEach, StopsBy, StopsWalk, any_machine, items_at, macros_at, seen}
use Rattle.sc_prep.proofs.WalkMoves.{owns-kept}
use Rattle.sc_prep.proofs.walk.Walk.expanded.Goals as goal

pub expand-requires-clause-table : goal.expand-requires-clause-table
expand-requires-clause-table g c = IsTable-Keeps c.in_ok-live.ensures.keeps c.requires.stored.table

pub expand-requires-clause-own : goal.expand-requires-clause-own
expand-requires-clause-own g c = λ k d h. c.in_ok-live.ensures.keeps.own _ (c.requires.list_own k d h)

pub expand-requires-clause-held : goal.expand-requires-clause-held
expand-requires-clause-held g c = λ k d h. (c.requires.placed k d h).held

pub expand-requires-clause-placed : goal.expand-requires-clause-placed
expand-requires-clause-placed g c = λ k d h. (c.requires.placed k d h).file

pub returns-in_err-expanded-clause-stops : goal.returns-in_err-expanded-clause-stops
returns-in_err-expanded-clause-stops g c =
    let old = g.C.Conditions.sets c.args.conds.now in
    let mid = g.C.Conditions.sets c.apply_and.new.self in
    let w = c.args.self.now in
    let names = c.args.names.now in
    let files = c.args.files.now in
    let list = c.args.list.now in
    let stop = c.in_err-expanded.field-0.0 in
    let stops = c.in_err-expanded.ensures.stops in
    let keeps = c.in_ok-live.ensures.keeps in
    let live = c.in_ok-live.ensures.meaning (old.has c.args.among.0) (old.has w.prepared.live.0) (Denotes-self old c.args.among.0 c.requires.among_own)
    (Denotes-self old w.prepared.live.0 c.requires.stored.owns.prepared.live) in
    let kept : StopsBy old.arities c.args.limit stop × (AreDifferent names files list → StopsWalk old names files w any_machine
    (λ config m f. ((old.has c.args.among.0 config && is_none m.fault) ≡ true) × NameHas m.state.macros (map (seen names files) (items_at old list config)) f) c.args.limit stop) = (
      subst (λ a. StopsBy a c.args.limit stop) keeps.arities (expand-stops mid names files (macros_at mid names w.table) c.in_ok-live.live.0 list c.args.limit stop stops),
      λ different. list-stops names files keeps w c.args.among c.in_ok-live.live live c.requires.stored.table list c.requires.list_own c.args.limit stop stops different,
    ) in
    search rules

pub returns-clause-expands : goal.returns-clause-expands
returns-clause-expands g c =
    let old = g.C.Conditions.sets c.args.conds.now in
    let w = c.args.self.now in
    let names = c.args.names.now in
    let files = c.args.files.now in
    let list = c.args.list.now in
    let more = c.expand.new.names in
    let k1 = c.in_ok-live.ensures.keeps in
    let x = c.in_ok-expanded.ensures in
    let k3 = c.in_ok-refuse_each.ensures.keeps in
    let e = c.in_ok-expanded.expanded in
    let new = g.C.Conditions.sets c.refuse_each.new.conds in
    let table = c.requires.stored.table in
    let refuses = subst (λ (fs : List Fault). RefusesEach (g.C.Conditions.sets c.expand.new.conds) w fs new c.refuse_each.new.self) c.deref.ensures.value c.in_ok-refuse_each.ensures.refuses in
    let live = c.in_ok-live.ensures.meaning (old.has c.args.among.0) (old.has w.prepared.live.0) (Denotes-self old c.args.among.0 c.requires.among_own)
    (Denotes-self old w.prepared.live.0 c.requires.stored.owns.prepared.live) in
    record {
      own = λ k d h. k3.own _ (x.held.own k d h);
      placed = λ k d h. record { held = x.held.held k d h; file = x.held.placed k d h };
      stage = refused-stage files names more (Keeps-trans k1 x.keeps) k3 x.names w c.refuse_each.new.self w.table e.faults.items c.requires.stored.owns table c.requires.stored.held x.table
          (λ config text listed. x.still config text (IsConfig-Keeps k1 listed) ∙ macros_at-Keeps k1 table config text listed) x.held.faults_own refuses
          (λ config m n. ExpandsAt (map (seen names files) (items_at old list config)) (old.has c.args.among.0 config && is_none m.fault) m (map (seen more files) (items_at new e.list config)) n)
          x.held.faults_placed (expands-at k1 w c.args.among c.in_ok-live.live live table x.keeps k3 list c.requires.list_own e x.held x.expands x.others);
      answers = λ config listed asked.
          let now = IsConfig-Keeps k1 listed in
          let is = x.expands config now (live.at config now ∙ asked) in
          (is.answer, text-expands k1 names files w.table table list c.requires.list_own config listed is.answer is.expands);
      alike = λ one other here there one_asked other_asked same define.
          let p = IsConfig-Keeps k1 here in
          let q = IsConfig-Keeps k1 there in
          let made = x.alike one other p q (live.at one p ∙ one_asked) (live.at other q ∙ other_asked) (AreAlike-Keeps k1 here there list c.requires.list_own same)
          (define-alike k1 names files w.table table list c.requires.list_own one other here there define) in
          AreAlike-Keeps k3 (IsConfig-Keeps x.keeps p) (IsConfig-Keeps x.keeps q) e.list x.held.own made.0;
    }

pub refuse_each-requires-clause-live : goal.refuse_each-requires-clause-live
refuse_each-requires-clause-live g c = (owns-kept (Keeps-trans c.in_ok-live.ensures.keeps c.in_ok-expanded.ensures.keeps) c.args.self.now c.requires.stored.owns).prepared.live

pub refuse_each-requires-clause-acting : goal.refuse_each-requires-clause-acting
refuse_each-requires-clause-acting g c = (owns-kept (Keeps-trans c.in_ok-live.ensures.keeps c.in_ok-expanded.ensures.keeps) c.args.self.now c.requires.stored.owns).acting

pub returns-in_err-refuse_each-clause-keeps : goal.returns-in_err-refuse_each-clause-keeps
returns-in_err-refuse_each-clause-keeps g c = Keeps-trans c.in_ok-live.ensures.keeps (Keeps-trans c.in_ok-expanded.ensures.keeps c.in_err-refuse_each.ensures.keeps)

pub returns-clause-keeps : goal.returns-clause-keeps
returns-clause-keeps g c = Keeps-trans c.in_ok-live.ensures.keeps (Keeps-trans c.in_ok-expanded.ensures.keeps c.in_ok-refuse_each.ensures.keeps)
