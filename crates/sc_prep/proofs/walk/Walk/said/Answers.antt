use Rattle.std.proofs.Common.{◌≡◌, ℕ, Bool, List, drop, map, refl, sym, ap, ◌∙◌, false, true, length}
use Rattle.sc_model.specs.Token as model
use Rattle.sc_prep.proofs.DirectiveStops.{behind-different, header-stops, name-said-stops, said-stops}
use Rattle.sc_prep.proofs.Facts.{IfErr-weaker, IfOk-weaker, drop-map}
use Rattle.sc_prep.proofs.SaidMoves.{expands-to, list-is, list-own, list-placed, stands}
use Rattle.sc_prep.proofs.Terms.{Standard, Token, begins_with_header, behind_name, items_at, seen, seen_line}
use Rattle.sc_prep.proofs.walk.Walk.said.Goals as goal

-- what stands behind the name was tested
tested-line : (standard : Standard) (names files : List (List ℕ)) (line behind : List Token) (b : Bool) → behind ≡ drop 2 line → begins_with_header (map (seen names files) behind) ≡ b
    → begins_with_header (behind_name (seen_line standard names files line)) ≡ b
tested-line standard names files line behind b is tested = ap begins_with_header (drop-map (seen names files) 2 line ∙ ap (map (seen names files)) (sym is)) ∙ tested

pub returns-then-begins_with_header-clause-says : goal.returns-then-begins_with_header-clause-says
returns-then-begins_with_header-clause-says g c =
    let s = g.C.Conditions.sets c.args.conds.now in
    let w = c.args.self.now in
    let names = c.args.names.now in
    let files = c.args.files.now in
    let line = c.args.line.now in
    let list = c.in_ok-list.list in
    let stored = c.requires.stored in
    let same = list-is w line c.behind_name-behind.result.now list c.behind_name-behind.ensures c.in_ok-list.ensures in
    let tested : begins_with_header (map (seen names files) c.behind_name-behind.result.now) ≡ true = sym (c.begins_with_header.ensures names files) ∙ c.if-begins_with_header.true in
    let header = λ (standard : Standard). tested-line standard names files line c.behind_name-behind.result.now true c.behind_name-behind.ensures tested in
    record {
      own = list-own s w line list same stored.owns;
      placed = list-placed names (length files) w line list same c.requires.placed;
      stage = λ standard. record {
        simulates = stands names files s w line list same standard stored.owns stored.table (header standard);
        text = record { held = stored.held; list = refl; runs = refl };
      };
      lists = λ standard d count directed says apart lists. header-stops names files s w line list same standard d directed says apart (header standard) count lists;
    }

pub expanded-requires-clause-list_own : goal.expanded-requires-clause-list_own
expanded-requires-clause-list_own g c =
    list-own (g.C.Conditions.sets c.args.conds.now) c.args.self.now c.args.line.now c.in_ok-list.list
    (list-is c.args.self.now c.args.line.now c.behind_name-behind.result.now c.in_ok-list.list c.behind_name-behind.ensures c.in_ok-list.ensures) c.requires.stored.owns

pub expanded-requires-clause-placed : goal.expanded-requires-clause-placed
expanded-requires-clause-placed g c =
    list-placed c.args.names.now (length c.args.files.now) c.args.self.now c.args.line.now c.in_ok-list.list
    (list-is c.args.self.now c.args.line.now c.behind_name-behind.result.now c.in_ok-list.list c.behind_name-behind.ensures c.in_ok-list.ensures) c.requires.placed

pub returns-clause-says : goal.returns-clause-says
returns-clause-says g c =
    let s = g.C.Conditions.sets c.args.conds.now in
    let w = c.args.self.now in
    let names = c.args.names.now in
    let files = c.args.files.now in
    let line = c.args.line.now in
    let new = g.C.Conditions.sets c.expanded.new.conds in
    let text = c.in_ok-list.list in
    let same = list-is w line c.behind_name-behind.result.now text c.behind_name-behind.ensures c.in_ok-list.ensures in
    let tested : begins_with_header (map (seen names files) c.behind_name-behind.result.now) ≡ false = sym (c.begins_with_header.ensures names files) ∙ c.if-begins_with_header.false in
    let other = λ (standard : Standard). tested-line standard names files line c.behind_name-behind.result.now false c.behind_name-behind.ensures tested in
    IfOk-weaker c.expanded.result _ _ (λ list expands.
    let ts : List ℕ → List model.Token = λ config. map (seen c.expanded.new.names files) (items_at new list config) in
    let stage = expands.stage in
    record {
      own = expands.own;
      placed = expands.placed;
      stage = λ standard. record { simulates = expands-to names files s w line text same standard ts (other standard) stage.simulates; text = stage.text };
      lists = λ standard d count directed says apart lists.
          said-stops names files s w line text same standard d directed says apart (other standard) c.expanded.ensures.keeps list ts
          (list-own s w line text same c.requires.stored.owns) expands.own stage.simulates expands.answers expands.alike count lists;
    }) c.expanded.ensures.expands

pub returns-clause-stops : goal.returns-clause-stops
returns-clause-stops g c =
    let w = c.args.self.now in
    let names = c.args.names.now in
    let files = c.args.files.now in
    let line = c.args.line.now in
    let same = list-is w line c.behind_name-behind.result.now c.in_ok-list.list c.behind_name-behind.ensures c.in_ok-list.ensures in
    let tested : begins_with_header (map (seen names files) c.behind_name-behind.result.now) ≡ false = sym (c.begins_with_header.ensures names files) ∙ c.if-begins_with_header.false in
    IfErr-weaker c.expanded.result _ _ (λ stop stops. record {
      by = stops.0;
      at_place = λ standard d directed says apart.
          name-said-stops names files (g.C.Conditions.sets c.args.conds.now) w line c.in_ok-list.list same standard d directed says
          (tested-line standard names files line c.behind_name-behind.result.now false c.behind_name-behind.ensures tested) c.args.limit stop
          (stops.1 (behind-different names files w line c.in_ok-list.list same apart));
    }) c.expanded.ensures.stops
