use Rattle.std.proofs.Common.{◌≡◌, ◌∙◌, ℕ, List, [], false, true, not, ap, inl, inr, take, if◌then◌else◌}
use Rattle.sc_expand.proofs.AlikeLemmas.{AreAlike-Keeps, alike-of}
use Rattle.sc_expand.proofs.BeginningLemmas.{first_gone, taken_out}
use Rattle.sc_expand.proofs.Facts.{All-take, Denotes-self, IsConfig-Keeps, Keeps-trans, cases_Bool, items_at-Keeps}
use Rattle.sc_expand.proofs.WorkListLemmas.{last-each, last-out, has_each-Keeps}
use Rattle.sc_expand.proofs.Terms.{Cond, Hidden, IsCond, IsConfig, has_each, items_at}
use Rattle.sc_expand.proofs.beginning.take_out.Goals as goal

pub returns : goal.returns
returns g c =
    let old = g.C.Conditions.sets c.args.conds.now in
    let mid = g.C.Conditions.sets c.negate.new.self in
    let now = g.C.Conditions.sets c.restrict_before.new.conds in
    let list = c.args.list.now in
    let after = c.restrict_before.new.self in
    let n = c.args.count in
    let has = old.has c.args.cond.0 in
    let first = c.in_ok-others.ensures.keeps in
    let keeps = Keeps-trans first c.in_ok-restrict_before.ensures.keeps in
    let restricts = c.in_ok-restrict_before.ensures.restricts in
    let told = c.in_ok-others.ensures.meaning _ (Denotes-self old c.args.cond.0 c.requires.cond_own) in
    let each : (x : List ℕ) → IsConfig old.arities x → has x ≡ false → has_each now after x ≡ has_each old list x = λ x listed no.
    let here = IsConfig-Keeps first listed in
    restricts.others x here (told.at x here ∙ ap not no) ∙ has_each-Keeps list x first c.requires.own listed in
    let none : (x : List ℕ) → IsConfig old.arities x → has x ≡ true → items_at now (take n after) x ≡ [] = λ x listed has.
    let here = IsConfig-Keeps first listed in
    restricts.restricted x here ∙ ap (λ b. if b then items_at mid (take n list) x else []) (told.at x here ∙ ap not has) in
    record {
      taken = λ x listed.
          let here = IsConfig-Keeps first listed in
          let same = items_at-Keeps (take n list) x first (All-take (λ (item : Cond × Hidden). IsCond old item.0.0) n list c.requires.own) listed in
          taken_out old now list after n (has x) x keeps listed c.requires.own restricts.rest (restricts.restricted x here ∙ (λ i. if told.at x here i then same i else []));
      others = each;
      first = λ x listed has some. first_gone now after n x some (none x listed has);
      rest = λ x listed. elim (cases_Bool (has x)) [
        | inl is ↦ last-out n keeps listed c.requires.own restricts.rest (none x listed is)
        | inr is ↦ last-each (each x listed is)
      ];
      own = c.in_ok-restrict_before.ensures.items.own;
      alike = λ x y m p q same alike.
          let here = IsConfig-Keeps first p in
          let there = IsConfig-Keeps first q in
          restricts.alike x y m here there (alike-of told here there (ap not same)) (AreAlike-Keeps first p q (take m list) (All-take (λ (item : Cond × Hidden). IsCond old item.0.0) m list c.requires.own) alike);
      items = c.in_ok-restrict_before.ensures.items.items;
      keeps = keeps;
    }
