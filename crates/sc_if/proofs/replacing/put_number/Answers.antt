use Rattle.std.proofs.Common.{◌<◌, ap, not, sym, subst, ◌∙◌}
use Rattle.sc_base.specs.Seen.{IsHeld}
use Rattle.sc_if.proofs.AlikeReplacing.{AreAlike-Keeps, both-same}
use Rattle.sc_if.proofs.Replacements.{IsHeldList-Keeps, both-added, number-held}
use Rattle.sc_model.proofs.SetLemmas.{Denotes-Keeps, Denotes-self, IsConfig-Keeps, Keeps-trans}
use Rattle.sc_if.proofs.DifferentReplacing.{number-adds}
use Rattle.sc_if.proofs.replacing.put_number.Goals as goal

pub returns-in_err-push-2-clause-keeps : goal.returns-in_err-push-2-clause-keeps
returns-in_err-push-2-clause-keeps g c = Keeps-trans c.apply_and.ensures.keeps c.apply_without.ensures.keeps

pub returns-clause-keeps : goal.returns-clause-keeps
returns-clause-keeps g c = Keeps-trans c.apply_and.ensures.keeps c.apply_without.ensures.keeps

pub returns-clause-at : goal.returns-clause-at
returns-clause-at g c = λ x listed.
    let old = g.C.Conditions.sets c.args.conds.now in
    let one = c.apply_and.ensures.keeps in
    let two = c.apply_without.ensures.keeps in
    let keeps = Keeps-trans one two in
    let now = IsConfig-Keeps keeps listed in
    let live = Denotes-self old c.args.live.0 c.requires.live_own in
    let defined = Denotes-self old c.args.defined.0 c.requires.defined_own in
    let yes = Denotes-Keeps two (c.in_ok-with.ensures.meaning _ _ live defined) in
    let no = c.in_ok-without.ensures.meaning _ _ (Denotes-Keeps one live) (Denotes-Keeps one defined) in
    both-added c.args.live c.args.defined c.in_ok-with.with c.in_ok-without.without c.args.digits.one c.args.digits.zero c.args.token c.number.result c.number-2.result c.args.list.now c.push.new.list c.push-2.new.list x
    keeps c.requires.list listed (yes.at x now) (no.at x now)
    c.number.ensures c.number-2.ensures (c.in_ok-push.ensures.at x now) (c.in_ok-push-2.ensures.at x now)

pub returns-clause-list : goal.returns-clause-list
returns-clause-list g c = λ names digits was.
    let keeps = Keeps-trans c.apply_and.ensures.keeps c.apply_without.ensures.keeps in
    let held = number-held c.args.token digits in
    c.in_ok-push-2.ensures.list names (subst (IsHeld names) (sym c.number-2.ensures) held.1)
    (c.in_ok-push.ensures.list names (subst (IsHeld names) (sym c.number.ensures) held.0) (IsHeldList-Keeps keeps was))

pub returns-clause-placed : goal.returns-clause-placed
returns-clause-placed g c = λ files here were.
    c.in_ok-push-2.ensures.placed files (subst (λ t. t.place.file.0 < files) (sym c.number-2.ensures) here)
    (c.in_ok-push.ensures.placed files (subst (λ t. t.place.file.0 < files) (sym c.number.ensures) here) were)

pub returns-clause-alike : goal.returns-clause-alike
returns-clause-alike g c = λ x y p q live_alike defined_alike list_alike.
    let old = g.C.Conditions.sets c.args.conds.now in
    let one = c.apply_and.ensures.keeps in
    let two = c.apply_without.ensures.keeps in
    let keeps = Keeps-trans one two in
    let here = IsConfig-Keeps keeps p in
    let there = IsConfig-Keeps keeps q in
    let live = Denotes-self old c.args.live.0 c.requires.live_own in
    let defined = Denotes-self old c.args.defined.0 c.requires.defined_own in
    let yes = Denotes-Keeps two (c.in_ok-with.ensures.meaning _ _ live defined) in
    let no = c.in_ok-without.ensures.meaning _ _ (Denotes-Keeps one live) (Denotes-Keeps one defined) in
    c.in_ok-push-2.ensures.alike x y (no.at x here ∙ (both-same live_alike (λ is. ap not (defined_alike is)) ∙ sym (no.at y there)))
    (c.in_ok-push.ensures.alike x y (yes.at x here ∙ (both-same live_alike defined_alike ∙ sym (yes.at y there))) (AreAlike-Keeps keeps p q c.args.list.now c.requires.list list_alike))

pub returns-clause-adds : goal.returns-clause-adds
returns-clause-adds g c = λ names digits.
    number-adds names c.args.digits.one c.args.digits.zero c.args.token c.number.result c.number-2.result c.in_ok-with.with c.in_ok-without.without c.args.list.now c.push.new.list c.push-2.new.list
    digits c.number.ensures c.number-2.ensures c.in_ok-push.ensures.adds c.in_ok-push-2.ensures.adds
