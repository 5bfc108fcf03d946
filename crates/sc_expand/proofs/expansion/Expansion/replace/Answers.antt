use Rattle.std.proofs.Common.{◌≡◌, ◌-◌, ◌++◌, All, Ok, arith, length, length-append, map, take, refl, sym, ap, subst, ◌∙◌}
use Rattle.sc_expand.proofs.AlikeLemmas.{All-but-put, IsAlikeExpansion-Keeps}
use Rattle.sc_expand.proofs.WaitingLemmas.{bottom-held, bottom-long, more-bottom, more-none, put-left, same-left, unless}
use Rattle.sc_expand.proofs.Facts.{Extends-refl}
use Rattle.sc_expand.proofs.LeavingLemmas.{refused-ends-if, refused-held}
use Rattle.sc_expand.proofs.MachineGoesOn.{refused-turn, replaced-turn}
use Rattle.sc_expand.proofs.SeenLemmas.{AreHeld-append, IsHeldExpansion-Grows}
use Rattle.sc_expand.proofs.TakingSteps.{on-ok}
use Rattle.sc_expand.proofs.Terms.{AreAlike, AreHeld, Cond, Grows, Hidden, IsAlike, IsHeldPartIn, IsHeldTemplate, bottom, others_at, seen_part, seen_template, stores}
use Rattle.sc_expand.proofs.expansion.Expansion.replace.Goals as goal

pub returns-in-Parts-clause-replaced : goal.returns-in-Parts-clause-replaced
returns-in-Parts-clause-replaced g c =
    let e = c.args.self.now in
    let held = c.requires.held.1.0 in
    let old = stores (g.C.Conditions.sets c.args.conds.now) c.args.names.now e.sets in
    let new = stores (g.C.Conditions.sets c.fill.new.conds) c.args.names.now c.fill.new.sets in
    let filled = c.in_ok-made-in-Parts.ensures in
    let made = c.in_ok-made-in-Parts.made.items in
    let grows : Grows old new = record { sets = filled.keeps; names = Extends-refl c.args.names.now; hides = filled.sets } in
    let work : c.put_first.new.self ≡ made ++ e.top.work = c.in_ok-put_first-in-Parts.ensures ∙ ap (λ l. l ++ e.top.work) c.deref-in-Parts.ensures.value in
    record {
      held = λ files held held_call.
          let later = IsHeldExpansion-Grows grows e held in
          let parts : All (IsHeldPartIn old files) c.deref.result.now = subst (All (IsHeldPartIn old files)) (sym c.deref.ensures.value) (subst (IsHeldTemplate old files) c.in-Parts.is held_call.template) in
          record {
            refusals = later.refusals;
            rest = later.rest;
            top = record { work = subst (AreHeld new files) (sym work) (AreHeld-append made e.top.work (filled.held files parts held_call) later.top.work); out = later.top.out; calls = later.top.calls };
            below = later.below;
          };
      waits = refl;
      left = λ files held held_call. put-left {old = old} {new = new} grows e (record e { sets = c.fill.new.sets; top = record e.top { work = c.put_first.new.self } }) held made refl refl refl work (λ config listed apart waits.
          filled.none config listed (unless (g.C.Conditions.sets c.args.conds.now) c.args.call.cond.0 e config (c.requires.live config listed) apart (sym (filled.keeps.at e.refusals.waiting.0 config held.refusals.waiting listed) ∙ waits)));
      below = refl;
      out = refl;
      turns = λ table macros config listed.
          replaced-turn grows c.requires.held.0 e (record e { sets = c.fill.new.sets; top = record e.top { work = c.put_first.new.self } }) c.args.call held refl refl c.requires.wanted
          table macros config listed made work refl c.deref.result.now
          (ap (seen_template old c.args.call.head.token.place) c.in-Parts.is ∙ ap (λ l. Ok (map (seen_part old.names old.hides) l)) (sym c.deref.ensures.value))
          (λ has. c.requires.live config listed has) (λ has. c.requires.calls config listed has) (λ has. filled.is config listed has) (λ absent. filled.none config listed absent);
      alike = λ x y others p q call_alike alike.
          let later = IsAlikeExpansion-Keeps {old = old} filled.keeps p q others e held alike in
          let here = others_at others (length e.below.items) in
          let Same : Cond × Hidden → Type 0 = λ item. IsAlike new.sets x y item.0 in
          record {
            refusals = later.refusals;
            top = record {
              work = subst (λ l. AreAlike new.sets x y (take (length l - here.behind) l)) (sym work) (All-but-put Same here.behind made e.top.work (filled.alike x y p q call_alike) later.top.work);
              out = later.top.out;
              calls = later.top.calls;
            };
            below = later.below;
          };
      long = bottom-long e.below.items e.top (record e.top { work = c.put_first.new.self }) (omega (arith, ap length work, length-append made e.top.work));
      rest = λ config listed. more-bottom filled.keeps listed e held (record e.top { work = c.put_first.new.self }) made work;
    }

pub returns-clause-replaced : goal.returns-clause-replaced
returns-clause-replaced g c = on-ok c.refuse.result
    (λ refuses.
    let e = c.args.self.now in
    let held = c.requires.held.1.0 in
    let old = stores (g.C.Conditions.sets c.args.conds.now) c.args.names.now e.sets in
    let new = stores (g.C.Conditions.sets c.refuse.new.conds) c.args.names.now e.sets in
    let grows : Grows old new = record { sets = c.refuse.ensures.keeps; names = Extends-refl c.args.names.now; hides = Extends-refl e.sets } in
    record {
      held = λ files held held_call. refused-held grows e held refuses held_call.head.file;
      waits = refl;
      left = λ files held held_call. same-left {old = old} {new = new} grows e (record e { refusals = c.refuse.new.self }) held refl refl refl;
      below = refl;
      out = refl;
      turns = λ table macros config listed.
          refused-turn grows c.requires.held.0 e (record e { refusals = c.refuse.new.self }) c.args.call held refl refl c.requires.wanted
          table macros config listed c.in-Refused.cause refl (ap (seen_template old c.args.call.head.token.place) c.in-Refused.is) refuses.live
          (refused-ends-if grows e held refuses (old.sets.has c.args.call.cond.0 config) config listed refl) (λ has. c.requires.live config listed has) (λ has. c.requires.calls config listed has);
      alike = λ x y others p q call_alike alike.
          let later = IsAlikeExpansion-Keeps {old = old} c.refuse.ensures.keeps p q others e held alike in
          record { refusals = refuses.alike x y others.faults p q held.refusals.own held.refusals.waiting call_alike.cond alike.refusals; top = later.top; below = later.below };
      long = omega arith;
      rest = λ config listed. more-none c.refuse.ensures.keeps listed (bottom e).work (bottom e).work (bottom-held e held) refl;
    })
    c.refuse.ensures.refuses
