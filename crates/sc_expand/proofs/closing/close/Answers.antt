use Rattle.std.proofs.Common.{◌<◌, ◌&&◌, ◌∙◌, [], not, ap, map, sym, take, if◌then◌else◌}
use Rattle.sc_expand.proofs.AlikeLemmas.{items_at-alike}
use Rattle.sc_expand.proofs.Ending.{bared, items-bared}
use Rattle.sc_expand.proofs.Facts.{All-map, Denotes-Keeps, Denotes-self, IsConfig-Keeps, Keeps-trans, items_at-Keeps}
use Rattle.sc_expand.proofs.KeptLemmas.{restricted-alike, restricted-all, restricted-items, restricted-own, restricted-some}
use Rattle.sc_expand.proofs.Terms.{AreAlike, Cond, Hidden, IsAlike, IsHeld, Keeps, Token, is_several, items_at, unclosed_at}
use Rattle.sc_expand.proofs.closing.close.Goals as goal

pub returns-clause-closed : goal.returns-clause-closed
returns-clause-closed g c =
    let s = g.C.Conditions.sets c.args.conds.now in
    let mid = g.C.Conditions.sets c.tokens_under.new.conds in
    let end = g.C.Conditions.sets c.unclosed.new.conds in
    let rest = c.args.rest.now in
    let list = c.in_ok-list.list in
    let last = Keeps-trans c.apply_and.ensures.keeps c.tokens_under.ensures.keeps in
    let two = Keeps-trans c.with_several.ensures.keeps c.apply_without.ensures.keeps in
    let keeps : Keeps s mid = Keeps-trans two last in
    let later : Keeps mid end = c.unclosed.ensures.keeps in
    let under = Denotes-self s c.args.under.0 c.requires.under_own in
    let several = c.in_ok-several.ensures.several in
    let alone = Denotes-Keeps last (c.in_ok-alone.ensures.meaning _ _ (Denotes-Keeps c.with_several.ensures.keeps under) several) in
    let called = Denotes-Keeps c.tokens_under.ensures.keeps (c.in_ok-called.ensures.meaning _ _ (Denotes-Keeps two under) (Denotes-Keeps c.apply_without.ensures.keeps several)) in
    let restricted = c.in_ok-list.ensures.restricted in
    let own = restricted-own mid c.in_ok-alone.alone.0 restricted in
    let faults = c.in_ok-faults.ensures in
    record {
      list = λ x listed.
          let there = IsConfig-Keeps keeps listed in
          items_at-Keeps list x later own there
          ∙ (restricted-items mid c.in_ok-alone.alone.0 restricted x there
          ∙ (ap (λ b. if b then items_at mid (map bared rest) x else []) (alone.at x there)
          ∙ ap (λ l. if s.has c.args.under.0 x && not (is_several (items_at s rest x)) then l else []) (items-bared mid rest x ∙ ap (map (λ (h : Hidden). h.token)) (items_at-Keeps rest x keeps c.requires.own listed))));
      faults = λ x listed.
          let there = IsConfig-Keeps keeps listed in
          faults.faults x there
          ∙ (ap (λ b. if b then map unclosed_at (take 1 (items_at mid rest x)) else []) (called.at x there)
          ∙ ap (λ l. if s.has c.args.under.0 x && is_several (items_at s rest x) then map unclosed_at (take 1 l) else []) (items_at-Keeps rest x keeps c.requires.own listed));
      own = λ k d h. later.own _ (own k d h);
      some = λ k d h never. restricted-some mid c.in_ok-alone.alone.0 restricted k d h (record { none = λ x listed. sym (later.at _ x (own k d h) listed) ∙ never.none x (IsConfig-Keeps later listed) });
      held = λ names all. restricted-all mid c.in_ok-alone.alone.0 (IsHeld names) restricted (All-map (λ (x : Cond × Token). IsHeld names x.1) bared rest all);
      placed = λ files all. restricted-all mid c.in_ok-alone.alone.0 (λ t. t.place.file.0 < files) restricted (All-map (λ (x : Cond × Token). x.1.place.file.0 < files) bared rest all);
      faults_placed = faults.placed;
      faults_some = faults.some;
      faults_own = faults.own;
      alike = λ x y p q same all.
          let here = IsConfig-Keeps keeps p in
          let there = IsConfig-Keeps keeps q in
          let items = items_at-alike s x y rest all in
          let both : AreAlike mid x y rest = λ k d h. keeps.at _ x (c.requires.own k d h) p ∙ (all k d h ∙ sym (keeps.at _ y (c.requires.own k d h) q)) in
          let first = alone.at x here ∙ ((λ i. same i && not (is_several (items i))) ∙ sym (alone.at y there)) in
          let second = called.at x here ∙ ((λ i. same i && is_several (items i)) ∙ sym (called.at y there)) in
          let tokens = restricted-alike mid c.in_ok-alone.alone.0 restricted x y here there first (All-map (λ (x2 : Cond × Token). IsAlike mid x y x2.0) bared rest both) in
          (λ k d h. later.at _ x (own k d h) here ∙ (tokens k d h ∙ sym (later.at _ y (own k d h) there)), faults.alike x y here there second both);
    }

pub returns-in_err-called-clause-keeps : goal.returns-in_err-called-clause-keeps
returns-in_err-called-clause-keeps g c = Keeps-trans c.with_several.ensures.keeps (Keeps-trans c.apply_without.ensures.keeps c.apply_and.ensures.keeps)

pub returns-in_err-list-clause-keeps : goal.returns-in_err-list-clause-keeps
returns-in_err-list-clause-keeps g c = Keeps-trans c.with_several.ensures.keeps (Keeps-trans c.apply_without.ensures.keeps (Keeps-trans c.apply_and.ensures.keeps c.tokens_under.ensures.keeps))

pub unclosed-requires-clause-own : goal.unclosed-requires-clause-own
unclosed-requires-clause-own g c =
    let keeps = Keeps-trans c.with_several.ensures.keeps (Keeps-trans c.apply_without.ensures.keeps (Keeps-trans c.apply_and.ensures.keeps c.tokens_under.ensures.keeps)) in
    λ k d h. keeps.own _ (c.requires.own k d h)

pub returns-in_err-faults-clause-keeps : goal.returns-in_err-faults-clause-keeps
returns-in_err-faults-clause-keeps g c = Keeps-trans c.with_several.ensures.keeps (Keeps-trans c.apply_without.ensures.keeps (Keeps-trans c.apply_and.ensures.keeps (Keeps-trans c.tokens_under.ensures.keeps c.unclosed.ensures.keeps)))

pub returns-clause-keeps : goal.returns-clause-keeps
returns-clause-keeps g c = Keeps-trans c.with_several.ensures.keeps (Keeps-trans c.apply_without.ensures.keeps (Keeps-trans c.apply_and.ensures.keeps (Keeps-trans c.tokens_under.ensures.keeps c.unclosed.ensures.keeps)))
