use Rattle.std.proofs.Common.{rules, ◌≡◌, ◌&&◌, append-nil, ◌++◌, All, Some, None, option_to_list, length, reverse, map, refl, sym, ap, subst, ◌∙◌, arith, if◌then◌else◌}
use Rattle.sc_expand.proofs.AlikeLemmas.{alike-enter, alike-narrowed, IsAlikeExpansion-Keeps}
use Rattle.sc_expand.proofs.WaitingLemmas.{bottom-held, bottom-less, more-Keeps, more-none, left-Grows, same-left}
use Rattle.sc_expand.proofs.Facts.{All-pop, Denotes-self, Extends-refl, IsConfig-Keeps, IsConfig-kept, Keeps-trans, and-true, and_parts}
use Rattle.sc_expand.proofs.MachineGoesOn.{entered-held, entered-progress, later-held, replaced-progress}
use Rattle.sc_expand.proofs.Rests.{put-same}
use Rattle.sc_expand.proofs.SeenLemmas.{IsHeldCall-Grows, IsHeldExpansion-Grows, calls_at-Grows, ends_at-Grows, view_at-Grows, waiting_at-Grows}
use Rattle.sc_expand.proofs.TakingSteps.{on-ok}
use Rattle.sc_expand.proofs.Terms.{GoesOn, Grows, IsHeldToken, Progress, Wanted, at, at_call, bottom, bottom_by, provenance_of, put_by, seen_wanted, stores, waiting_at, with_call}
use Rattle.sc_expand.proofs.expansion.Expansion.go_on.Goals as goal

pub returns-in-Some-clause-gone_on : goal.returns-in-Some-clause-gone_on
returns-in-Some-clause-gone_on g c = on-ok c.enter.result
    (λ entered.
    let e = c.args.self.now in
    let after = c.enter.new.self in
    let n = c.args.names.now in
    let call = c.args.call in
    let was = g.C.Conditions.sets c.args.conds.now in
    let old = stores was n e.sets in
    let mid = stores (g.C.Conditions.sets c.apply_and.new.self) n e.sets in
    let keeps = c.apply_and.ensures.keeps in
    let grows : Grows old mid = record { sets = keeps; names = Extends-refl n; hides = Extends-refl e.sets } in
    let w = c.in-Some.wanted in
    let later = record call { cond = c.in_ok-call.field-0; wanted = c.pop.new.self } in
    let popped : call.wanted.items ≡ c.pop.new.self.items ++ option_to_list (Some w) = c.in-Some.ensures.items in
    let held = c.requires.held.1.0 in
    let held_call = c.requires.held.1.1 in
    let both = c.in_ok-call.ensures.meaning (was.has call.cond.0) (was.has e.refusals.live.0) (Denotes-self was call.cond.0 held_call.own) (Denotes-self was e.refusals.live.0 held.refusals.live) in
    let whole : bottom after ≡ bottom e = ap (λ bs. bottom_by bs after.top) entered.below ∙ bottom-less e.below.items (record { frame = e.top; call = later; parameter = w.parameter }) after.top in
    subst (λ h. GoesOn old (stores mid.sets n h) e after call) (sym c.enter.ensures.sets) (record {
      held = λ files held held_call.
          let wide = IsHeldCall-Grows grows call held_call in
          let P : Wanted → Type 0 = λ w. All (IsHeldToken mid files) w.tokens in
          let tokens : P w = (All-pop P call.wanted.items c.pop.new.self.items (Some w) popped wide.wanted).1 in
          entered-held mid files e after later w (IsHeldExpansion-Grows grows e held) (later-held call later (Some w) wide c.in_ok-call.ensures.own popped refl refl refl refl) tokens c.enter.ensures.refusals entered;
      progress = λ table macros config listed.
          entered-progress (provenance_of table) macros grows c.requires.held.0 config listed e after call later w c.pop.new.self.items held held_call (both.at config (IsConfig-Keeps keeps listed)) popped refl c.enter.ensures.refusals entered;
      waits = entered.rest;
      left = λ files held held_call. same-left {old = old} {new = mid} grows e after held entered.rest (ap (λ f. f.work) whole) (ap (λ f. f.out) whole);
      out = ap (λ f. f.out) whole;
      alike = λ x y others p q call_alike alike.
          let narrowed = alike-narrowed {old = old} keeps p q e.refusals.live call later held_call both refl alike.refusals.live call_alike in
          alike-enter mid.sets x y others e after later w c.enter.ensures.refusals entered narrowed (IsAlikeExpansion-Keeps {old = old} keeps p q others e held alike);
      long = omega (arith, ap (λ f. length f.work) whole);
      rest = λ config listed. more-none keeps listed (bottom e).work (bottom after).work (bottom-held e held) (ap (λ f. f.work) whole);
    }))
    c.enter.ensures.entered

pub replace-requires : goal.replace-requires
replace-requires g c =
    let e = c.args.self.now in
    let call = c.args.call in
    let was = g.C.Conditions.sets c.args.conds.now in
    let keeps = c.apply_and.ensures.keeps in
    let grows : Grows (stores was c.args.names.now e.sets) (stores (g.C.Conditions.sets c.apply_and.new.self) c.args.names.now e.sets) = record { sets = keeps; names = Extends-refl c.args.names.now; hides = Extends-refl e.sets } in
    let held = c.requires.held.1.0 in
    let held_call = c.requires.held.1.1 in
    let popped : call.wanted.items ≡ c.pop.new.self.items ++ option_to_list None = c.in-None.ensures.items in
    let both = c.in_ok-call.ensures.meaning (was.has call.cond.0) (was.has e.refusals.live.0) (Denotes-self was call.cond.0 held_call.own) (Denotes-self was e.refusals.live.0 held.refusals.live) in
    record {
      held = (
        c.requires.held.0,
        (
          IsHeldExpansion-Grows grows e held,
          later-held call (record call { cond = c.in_ok-call.field-0; wanted = c.pop.new.self }) None (IsHeldCall-Grows grows call held_call) c.in_ok-call.ensures.own popped refl refl refl refl,
        ),
      );
      wanted = search rules;
      live = λ config listed has. keeps.at e.refusals.live.0 config held.refusals.live (IsConfig-kept keeps listed) ∙ (and_parts _ _ (sym (both.at config listed) ∙ has)).1;
      calls = λ config listed has.
          let before = IsConfig-kept keeps listed in
          let parts = and_parts _ _ (sym (both.at config listed) ∙ has) in
          calls_at-Grows grows config before e.top.calls.items held.top.calls ∙ c.requires.calls config before parts.0 parts.1;
    }

pub returns-in-None-clause-gone_on : goal.returns-in-None-clause-gone_on
returns-in-None-clause-gone_on g c = on-ok c.replace.result
    (λ replaced.
    let e = c.args.self.now in
    let after = c.replace.new.self in
    let n = c.args.names.now in
    let call = c.args.call in
    let was = g.C.Conditions.sets c.args.conds.now in
    let old = stores was n e.sets in
    let mid = stores (g.C.Conditions.sets c.apply_and.new.self) n e.sets in
    let new = stores (g.C.Conditions.sets c.replace.new.conds) n after.sets in
    let keeps = c.apply_and.ensures.keeps in
    let grows : Grows old mid = record { sets = keeps; names = Extends-refl n; hides = Extends-refl e.sets } in
    let whole : Grows old new = record { sets = Keeps-trans keeps c.replace.ensures.keeps; names = Extends-refl n; hides = c.replace.ensures.sets } in
    let later = record call { cond = c.in_ok-call.field-0; wanted = c.pop.new.self } in
    let popped : call.wanted.items ≡ c.pop.new.self.items ++ option_to_list None = c.in-None.ensures.items in
    let held = c.requires.held.1.0 in
    let held_call = c.requires.held.1.1 in
    let both = c.in_ok-call.ensures.meaning (was.has call.cond.0) (was.has e.refusals.live.0) (Denotes-self was call.cond.0 held_call.own) (Denotes-self was e.refusals.live.0 held.refusals.live) in
    let below = ap (λ l. l.items) replaced.below in
    record {
      held = λ files held held_call.
          replaced.held files (IsHeldExpansion-Grows grows e held) (later-held call later None (IsHeldCall-Grows grows call held_call) c.in_ok-call.ensures.own popped refl refl refl refl);
      progress = λ table macros config listed.
          let there = IsConfig-Keeps keeps listed in
          let narrowed : mid.sets.has later.cond.0 config ≡ (was.has call.cond.0 config && was.has e.refusals.live.0 config) = both.at config there in
          let call_is : waiting_at mid later config ≡ waiting_at old call config =
          ap (λ ws. record (waiting_at mid call config) { wanted = map (seen_wanted mid) (reverse ws) }) (sym (append-nil c.pop.new.self.items) ∙ sym popped) ∙ waiting_at-Grows grows config listed call held_call in
          let top = view_at-Grows grows config listed e.top held.top in
          let progress = replaced-progress (provenance_of table) macros whole c.requires.held.0 config listed e.below.items held.below (at_call old e call config) (at_call mid e later config) (at new after config)
          (was.has call.cond.0 config) (mid.sets.has later.cond.0 config) (replaced.turns table macros config there)
          (keeps.at e.refusals.live.0 config held.refusals.live listed) refl (ends_at-Grows grows config listed e.refusals held.refusals) refl
          (λ live.
          let has : mid.sets.has later.cond.0 config ≡ was.has call.cond.0 config = narrowed ∙ (ap (λ l. was.has call.cond.0 config && l) live ∙ and-true (was.has call.cond.0 config)) in
          (λ i. if has i then with_call (top i) (call_is i) else top i, has)) in
          subst (λ l. Progress (provenance_of table) macros old new config e.below.items l (at_call old e call config) (at new after config) (was.has call.cond.0 config)) (sym below) progress;
      waits = replaced.waits;
      left = λ files held held_call. left-Grows grows held (replaced.left files (IsHeldExpansion-Grows grows e held) (later-held call later None (IsHeldCall-Grows grows call held_call) c.in_ok-call.ensures.own popped refl refl refl refl));
      out = ap (λ bs. put_by bs after.top) below ∙ put-same e.below.items after.top e.top replaced.out;
      alike = λ x y others p q call_alike alike.
          let narrowed = alike-narrowed {old = old} keeps p q e.refusals.live call later held_call both refl alike.refusals.live call_alike in
          replaced.alike x y others (IsConfig-Keeps keeps p) (IsConfig-Keeps keeps q) narrowed (IsAlikeExpansion-Keeps {old = old} keeps p q others e held alike);
      long = replaced.long;
      rest = λ config listed. more-Keeps keeps listed (bottom e).work (bottom after).work (bottom-held e held) (replaced.rest config (IsConfig-Keeps keeps listed));
    })
    c.replace.ensures.replaced

pub returns-in-None-clause-keeps : goal.returns-in-None-clause-keeps
returns-in-None-clause-keeps g c = Keeps-trans c.apply_and.ensures.keeps c.replace.ensures.keeps
