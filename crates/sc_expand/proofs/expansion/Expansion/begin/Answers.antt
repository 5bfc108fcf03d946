use Rattle.std.proofs.Common.{All, map, refl, sym, ap, subst, ◌∙◌}
use Rattle.sc_expand.proofs.AlikeTaking.{begun-alike}
use Rattle.sc_expand.proofs.BeginningLemmas.{in_none, in_some, is_gathered, is_template}
use Rattle.sc_expand.proofs.Facts.{All-push, Keeps-refl}
use Rattle.sc_expand.proofs.LeavingLemmas.{pushed-at, pushed-held, pushed-other, refused-alike, refused-ends, refused-held, refused-live, refused-other}
use Rattle.sc_expand.proofs.SeenLemmas.{IsHeldExpansion-Grows}
use Rattle.sc_expand.proofs.TakingSteps.{on-ok}
use Rattle.sc_expand.proofs.Terms.{BadStringize, Call, Form, Grows, IsAlikeCall, failure_at, list_slots, seen_arguments, seen_hidden, seen_item, seen_template, stores}
use Rattle.sc_expand.specs.Beginning as beginning
use Rattle.sc_expand.specs.Called.{refused, waits}
use Rattle.sc_expand.proofs.expansion.Expansion.begin.Goals as goal

pub returns-in_ok-push-in-Some-clause-begun : goal.returns-in_ok-push-in-Some-clause-begun
returns-in_ok-push-in-Some-clause-begun g c =
    let s = g.C.Conditions.sets c.args.conds.now in
    let n = c.begin_call.new.names in
    let h = c.begin_call.new.sets in
    let e = c.args.self.now in
    let held = c.requires.held.1 in
    let call = c.in-Some.call in
    let pushed = c.in_ok-push-in-Some.ensures.items in
    let begun = in_some _ c.in_ok-made.made call c.in-Some.is c.in_ok-made.ensures.some in
    let grows : Grows (stores s c.args.names.now e.sets) (stores s n h) = record { sets = Keeps-refl s; names = c.begin_call.ensures.names; hides = c.begin_call.ensures.sets } in
    record {
      held = λ files held head raw.
          let later = IsHeldExpansion-Grows grows e held in
          let told = in_some _ c.in_ok-made.made call c.in-Some.is c.in_ok-made.ensures.held in
          record { refusals = later.refusals; rest = later.rest; top = pushed-held grows e held call c.push.new.self pushed (told s files c.requires.cond_own head raw); below = later.below };
      begins = λ x provenance d listed has formed list.
          let items = map (seen_item n) c.args.items.now in
          let raw = c.args.raw.now in
          let here = subst (λ (f : Form). beginning.Begins n h f items c.args.cond c.args.head c.args.close raw call) (sym formed) begun in
          waits (seen_template (stores s n h) c.args.head.token.place call.template) (is_template n h provenance d items c.args.cond c.args.head c.args.close raw call s list here)
          (pushed-at grows e held call c.push.new.self pushed x _ listed (ap (λ a. s.has a.0 x) begun.under ∙ has) (is_gathered n h provenance d items c.args.cond c.args.head c.args.close raw call s x list here));
      others = λ x listed lacks. pushed-other grows e held call c.push.new.self pushed x listed (ap (λ a. s.has a.0 x) begun.under ∙ lacks);
      work = refl;
      below = refl;
      rest = refl;
      out = refl;
      alike = λ x y span p q same alike.
          let P : Call → Type 0 = IsAlikeCall s x y in
          record { refusals = alike.refusals; work = alike.work; out = alike.out; calls = subst (All P) (sym pushed) (All-push P e.top.calls.items call alike.calls (begun-alike s x y begun same)) };
    }

pub returns-in-None-clause-begun : goal.returns-in-None-clause-begun
returns-in-None-clause-begun g c = on-ok c.refuse.result
    (λ refuses.
    let n = c.begin_call.new.names in
    let h = c.begin_call.new.sets in
    let e = c.args.self.now in
    let held = c.requires.held.1 in
    let grows : Grows (stores (g.C.Conditions.sets c.args.conds.now) c.args.names.now e.sets) (stores (g.C.Conditions.sets c.refuse.new.conds) n h) =
    record { sets = c.refuse.ensures.keeps; names = c.begin_call.ensures.names; hides = c.begin_call.ensures.sets } in
    record {
      held = λ files held head raw. refused-held grows e held refuses head.file;
      begins = λ x provenance d listed has formed list.
          let t = seen_hidden n h c.args.head in
          let none = in_none c.in_ok-made.made c.in-None.is c.in_ok-made.ensures.none in
          refused (failure_at BadStringize t) ((λ i. list_slots t (seen_arguments n h c.args.raw.now) (formed i) (list i)) ∙ none t refl)
          (refused-live grows e held refuses x listed has) (refused-ends grows e held refuses x listed has);
      others = λ x listed lacks. refused-other grows e held refuses x listed lacks;
      work = refl;
      below = refl;
      rest = refl;
      out = refl;
      alike = λ x y span p q same alike. refused-alike grows e held refuses x y span p q same alike;
    })
    c.refuse.ensures.refuses
