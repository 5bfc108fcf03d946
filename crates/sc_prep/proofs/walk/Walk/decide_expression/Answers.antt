use Rattle.std.proofs.Common.{ℕ, ◌≡◌, List, Some, get_or, refl, rules, sym, subst, ap, ◌∙◌, length, ◌&&◌, All, drop, false, is_none, map, ◌<◌}
use Rattle.sc_model.specs.Token as model
use Rattle.sc_prep.proofs.ApartLemmas.{apart-drop}
use Rattle.sc_prep.proofs.DirectiveStops.{name-stops, part-stops}
use Rattle.sc_prep.proofs.ExpressionMoves.{decides-by, decides-none}
use Rattle.sc_prep.proofs.ExpressionSteps.{asking-long, hash-line}
use Rattle.sc_prep.proofs.Facts.{All-drop, All-get_or, Denotes-self, Extends-trans, IfErr-weaker, IfOk-weaker, IsConfig-Keeps, IsTable-Keeps, Keeps-trans, drop-map}
use Rattle.sc_prep.proofs.Stages.{no-memory, text-then}
use Rattle.sc_prep.proofs.Terms.{AskedHas, Cond, Expression, Identifier, IsHeld, IsPlaced, ReplacesAt, Sets, SimulatesOneOf, StandApart, Standard, StopsBy, StopsStage, Token, Walk, behind_name, items_at, seen, seen_line, test_of}
use Rattle.sc_prep.proofs.WalkMoves.{owns-kept}
use Rattle.sc_prep.proofs.walk.Walk.decide_expression.Goals as goal

-- what stands past the last token
abbrev no_token : Token
no_token = record { kind = Identifier; name = record { 0 = 0 }; spelling = record { 0 = 0 }; space = false; place = record { file = record { 0 = 0 }; line = 0; column = 0 } }

pub bounds-line-0 : goal.bounds-line-0
bounds-line-0 g c = asking-long c.args.standard c.args.names.now c.args.files.now c.args.line.now c.requires.line

pub replaced-requires-clause-held : goal.replaced-requires-clause-held
replaced-requires-clause-held g c = subst (All (IsHeld c.args.names.now)) (sym c.behind_name-behind.ensures) (All-drop (IsHeld c.args.names.now) 2 c.args.line.now (λ k d h. (c.requires.placed k d h).held))

pub replaced-requires-clause-owns : goal.replaced-requires-clause-owns
replaced-requires-clause-owns g c = owns-kept c.in_ok-live.ensures.keeps c.args.self.now c.requires.stored.owns

pub replaced-requires-clause-table : goal.replaced-requires-clause-table
replaced-requires-clause-table g c = IsTable-Keeps c.in_ok-live.ensures.keeps c.requires.stored.table

pub expanded-requires-clause-placed : goal.expanded-requires-clause-placed
expanded-requires-clause-placed g c =
    let IsIn = IsPlaced c.args.names.now (length c.args.files.now) in
    c.in_ok-replaced.ensures.replaces.placed (length c.args.files.now) (subst (All IsIn) (sym c.behind_name-behind.ensures) (All-drop IsIn 2 c.args.line.now c.requires.placed))

pub expanded-requires-clause-among_own : goal.expanded-requires-clause-among_own
expanded-requires-clause-among_own g c = c.in_ok-replaced.ensures.keeps.own _ c.in_ok-live.ensures.own

there : (standard : Standard) (names files : List (List ℕ)) (line : List Token) → test_of (seen_line standard names files line) ≡ Some Expression → All (IsPlaced names (length files)) line → (get_or line 0 no_token).place.file.0 < length files
there standard names files line asks placed = (All-get_or (IsPlaced names (length files)) line 0 no_token (asking-long standard names files line asks) placed).file

pub expanded-requires-clause-stored : goal.expanded-requires-clause-stored
expanded-requires-clause-stored g c =
    let files = c.args.files.now in
    let stage = c.in_ok-replaced.ensures.replaces.stage files (there c.args.standard c.args.names.now files c.args.line.now c.requires.line c.requires.placed) c.requires.stored.held in
    record { owns = stage.simulates.owns; table = stage.simulates.table; held = stage.text.held }

pub evaluated-requires-clause-held : goal.evaluated-requires-clause-held
evaluated-requires-clause-held g c = λ k d h. (c.in_ok-expanded.ensures.expands.placed k d h).held

pub evaluated-requires-clause-among_own : goal.evaluated-requires-clause-among_own
evaluated-requires-clause-among_own g c = c.in_ok-expanded.ensures.keeps.own _ (c.in_ok-replaced.ensures.keeps.own _ c.in_ok-live.ensures.own)

-- what the replaced tokens stand behind is the name of the line
replaces-behind : (standard : Standard) (files names : List (List ℕ)) (line : List Token) {more : List (List ℕ)} (s t : Sets) (w v : Walk) (behind : List Token) → behind ≡ drop 2 line → (live : Cond) (list : List (Cond × Token))
    → SimulatesOneOf files names s w more t v (λ config m n. ReplacesAt (map (seen names files) behind) (seen names files (get_or line 0 no_token)).place (s.has live.0 config && is_none m.fault) m
    (map (seen more files) (items_at t list config)) n)
    → SimulatesOneOf files names s w more t v (λ config m n. ReplacesAt (behind_name (seen_line standard names files line)) (seen names files (get_or line 0 no_token)).place (s.has live.0 config && is_none m.fault) m
    (map (seen more files) (items_at t list config)) n)
replaces-behind standard files names line {more} s t w v behind is live list =
    let hash = seen names files (get_or line 0 no_token) in
    subst (λ ts. SimulatesOneOf files names s w more t v (λ config m n. ReplacesAt ts hash.place (s.has live.0 config && is_none m.fault) m (map (seen more files) (items_at t list config)) n))
    (ap (map (seen names files)) is ∙ sym (drop-map (seen names files) 2 line))

pub returns-in_err-replaced-clause-stops : goal.returns-in_err-replaced-clause-stops
returns-in_err-replaced-clause-stops g c =
    let s = g.C.Conditions.sets c.args.conds.now in
    let w = c.args.self.now in
    let l = seen_line c.args.standard c.args.names.now c.args.files.now c.args.line.now in
    let kept : StopsStage s c.args.names.now c.args.files.now w c.args.line.now (AskedHas s c.args.among.0 l) c.args.limit c.in_err-replaced.field-0.0 =
    no-memory s c.args.names.now c.args.files.now w c.args.line.now (AskedHas s c.args.among.0 l) c.args.limit c.in_err-replaced.field-0.0 c.in_err-replaced.ensures.memory in
    search rules

pub returns-in_err-expanded-clause-keeps : goal.returns-in_err-expanded-clause-keeps
returns-in_err-expanded-clause-keeps g c = Keeps-trans c.in_ok-live.ensures.keeps (Keeps-trans c.in_ok-replaced.ensures.keeps c.in_err-expanded.ensures.keeps)

pub returns-then-is_never-clause-decides : goal.returns-then-is_never-clause-decides
returns-then-is_never-clause-decides g c =
    let old = g.C.Conditions.sets c.args.conds.now in
    let w = c.args.self.now in
    let k1 = c.in_ok-live.ensures.keeps in
    let live = c.in_ok-live.ensures.meaning (old.has c.args.among.0) (old.has w.prepared.live.0) (Denotes-self old c.args.among.0 c.requires.among_own)
    (Denotes-self old w.prepared.live.0 c.requires.stored.owns.prepared.live) in
    record {
      own = c.never.ensures.own;
      at = λ x. record {
        simulates = decides-none c.args.files.now c.args.names.now k1 w c.requires.stored.owns c.requires.stored.table c.args.among c.in_ok-live.live live x
            (seen_line c.args.standard c.args.names.now c.args.files.now c.args.line.now) c.never.result
            (λ config listed. (c.is_never.ensures.0 c.if-is_never.true).none config (IsConfig-Keeps k1 listed)) (λ config listed. c.never.ensures.meaning.at config (IsConfig-Keeps k1 listed));
        text = record { held = c.requires.stored.held; list = refl; runs = refl };
      };
    }

pub returns : goal.returns
returns g c =
    let old = g.C.Conditions.sets c.args.conds.now in
    let w = c.args.self.now in
    let names = c.args.names.now in
    let files = c.args.files.now in
    let line = c.args.line.now in
    let stored = c.requires.stored in
    let among = c.args.among in
    let k1 = c.in_ok-live.ensures.keeps in
    let a = c.in_ok-replaced.ensures in
    let b = c.in_ok-expanded.ensures in
    let e = c.evaluated.ensures in
    let s = g.C.Conditions.sets c.apply_and.new.self in
    let s1 = g.C.Conditions.sets c.replaced.new.conds in
    let s2 = g.C.Conditions.sets c.expanded.new.conds in
    let s3 = g.C.Conditions.sets c.evaluated.new.conds in
    let l = seen_line c.args.standard names files line in
    let hash = seen names files (get_or line 0 no_token) in
    let in_file = there c.args.standard names files line c.requires.line c.requires.placed in
    let live = c.in_ok-live.ensures.meaning (old.has among.0) (old.has w.prepared.live.0) (Denotes-self old among.0 c.requires.among_own) (Denotes-self old w.prepared.live.0 stored.owns.prepared.live) in
    let first = a.replaces.stage files in_file stored.held in
    let second = b.expands.stage in
    let replaces = replaces-behind c.args.standard files names line s s1 w c.replaced.new.self c.behind_name-behind.result.now c.behind_name-behind.ensures c.in_ok-live.live c.in_ok-replaced.replaced first.simulates in
    let text : List ℕ → List model.Token = λ config. map (seen c.replaced.new.names files) (items_at s1 c.in_ok-replaced.replaced config) in
    let left : List ℕ → List model.Token = λ config. map (seen c.expanded.new.names files) (items_at s2 c.in_ok-expanded.expanded config) in
    record {
      decides = IfOk-weaker c.evaluated.result _ _ (λ taken evaluates.
          let third = evaluates.stage files in_file second.text.held in
          record {
            own = evaluates.own;
            at = λ x. record {
              simulates = decides-by files names k1 w stored.owns stored.table among c.in_ok-live.live live x l a.keeps b.keeps e.keeps c.in_ok-live.ensures.own
                  hash c.requires.line (hash-line c.args.standard names files line no_token (asking-long c.args.standard names files line c.requires.line)) text left (s3.has taken.0) replaces second.simulates third.simulates;
              text = text-then w c.expanded.new.self c.evaluated.new.self
                  (text-then w c.replaced.new.self c.expanded.new.self first.text second.text.held second.text.list second.text.runs) third.text.held third.text.list third.text.runs;
            };
          }) e.evaluates;
      stops = IfErr-weaker c.evaluated.result _ _ (λ stop stops. record {
        by = subst (λ arities. StopsBy arities c.args.limit stop) (b.keeps.arities ∙ (a.keeps.arities ∙ k1.arities)) stops.0;
        at_place = λ apart.
            part-stops files names k1 w stored.owns stored.table among c.in_ok-live.live live l hash c.requires.line a.keeps c.in_ok-replaced.replaced replaces
            c.args.limit b.keeps c.in_ok-expanded.expanded second.simulates stop stops.1;
      }) e.stops;
      keeps = Keeps-trans k1 (Keeps-trans a.keeps (Keeps-trans b.keeps e.keeps));
      names = Extends-trans a.names b.names;
    }

pub returns-in_err-replaced-clause-keeps : goal.returns-in_err-replaced-clause-keeps
returns-in_err-replaced-clause-keeps g c = Keeps-trans c.in_ok-live.ensures.keeps c.in_err-replaced.ensures.keeps

pub returns-in_err-expanded-clause-stops : goal.returns-in_err-expanded-clause-stops
returns-in_err-expanded-clause-stops g c =
    let old = g.C.Conditions.sets c.args.conds.now in
    let w = c.args.self.now in
    let names = c.args.names.now in
    let files = c.args.files.now in
    let line = c.args.line.now in
    let stored = c.requires.stored in
    let among = c.args.among in
    let k1 = c.in_ok-live.ensures.keeps in
    let a = c.in_ok-replaced.ensures in
    let s = g.C.Conditions.sets c.apply_and.new.self in
    let l = seen_line c.args.standard names files line in
    let stop = c.in_err-expanded.field-0.0 in
    let stops = c.in_err-expanded.ensures.stops in
    let live = c.in_ok-live.ensures.meaning (old.has among.0) (old.has w.prepared.live.0) (Denotes-self old among.0 c.requires.among_own) (Denotes-self old w.prepared.live.0 stored.owns.prepared.live) in
    let first = a.replaces.stage files (there c.args.standard names files line c.requires.line c.requires.placed) stored.held in
    let kept : StopsStage old names files w line (AskedHas old among.0 l) c.args.limit stop =
    record {
      by = subst (λ arities. StopsBy arities c.args.limit stop) (a.keeps.arities ∙ k1.arities) stops.0;
      at_place = λ apart.
          name-stops files names k1 w stored.owns stored.table among c.in_ok-live.live live l (seen names files (get_or line 0 no_token)) c.requires.line a.keeps c.in_ok-replaced.replaced
          (replaces-behind c.args.standard files names line s (g.C.Conditions.sets c.replaced.new.conds) w c.replaced.new.self c.behind_name-behind.result.now c.behind_name-behind.ensures c.in_ok-live.live
          c.in_ok-replaced.replaced first.simulates)
          c.args.limit stop (stops.1 (a.replaces.different files (subst StandApart (sym c.behind_name-behind.ensures) (apart-drop 2 line apart))));
    } in
    search rules
