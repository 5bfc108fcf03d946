use Rattle.std.proofs.Common.{◌∙◌, ◌++◌, refl, map, ap, sym, subst, append-nil, length}
use Rattle.sc_expand.proofs.AlikeLemmas.{AreAlike-Keeps}
use Rattle.sc_expand.proofs.AlikeTaking.{alike-append, alike-under}
use Rattle.sc_expand.proofs.Facts.{Keeps-refl}
use Rattle.sc_expand.proofs.LeavingLemmas.{refused-alike, refused-ends, refused-held, refused-live, refused-other}
use Rattle.sc_expand.proofs.SeenLemmas.{AreHeld-Grows, AreHeld-append, IsHeldExpansion-Grows, at-Grows, seen_at-Grows, seen_at-append}
use Rattle.sc_expand.proofs.TakingLemmas.{AreHeld-under, file-placed, seen-under}
use Rattle.sc_expand.proofs.Terms.{AreAlike, AreHeld, Grows, failure_at, seen_at, seen_hidden, stores}
use Rattle.sc_expand.specs.Taking.{put_in, refused}
use Rattle.sc_expand.proofs.expansion.Expansion.put_object.Goals as goal

pub returns-in_ok-put_under-in-Ok : goal.returns-in_ok-put_under-in-Ok
returns-in_ok-put_under-in-Ok g c =
    let s = g.C.Conditions.sets c.args.conds.now in
    let st = stores s c.list_for.new.names c.list_for.new.sets in
    let files = length c.args.files.now in
    let grows : Grows (stores s c.args.names.now c.args.self.now.sets) st = record { sets = Keeps-refl s; names = c.list_for.ensures.names; hides = c.list_for.ensures.sets } in
    let held = IsHeldExpansion-Grows grows c.args.self.now c.requires.held in
    let list = c.in-Ok.list.items in
    let before = c.args.made.now.items in
    let made = c.in_ok-put_under-in-Ok.ensures ∙ ap (λ ts. before ++ map (λ t. (c.args.cond, t)) ts) c.deref.ensures.value in
    record {
      put = record {
        held = record { refusals = held.refusals; rest = held.rest; top = held.top; below = held.below };
        made = subst (AreHeld st files) (sym made) (AreHeld-append before (map (λ t. (c.args.cond, t)) list) (AreHeld-Grows grows before c.requires.made)
            (AreHeld-under st files c.args.cond list c.requires.cond_own c.in-Ok.ensures.own (file-placed c.args.head.token.place files list c.requires.head.file c.in-Ok.ensures.placed)));
        below = refl;
        rest = refl;
        top = refl;
        replaces = λ x listed has.
            let front = seen_at-Grows grows x listed before c.requires.made in
            let back = seen-under st c.args.cond list x _ has in
            put_in (map (seen_hidden st.names st.hides) list) c.in-Ok.ensures.ok (at-Grows grows x listed c.args.self.now c.requires.held)
            (ap (λ l. seen_at st l x) made ∙ (seen_at-append st before (map (λ t. (c.args.cond, t)) list) x ∙ λ i. front i ++ back i));
        others = λ x listed has.
            let front = seen_at-Grows grows x listed before c.requires.made in
            let back = seen-under st c.args.cond list x _ has in (
              at-Grows grows x listed c.args.self.now c.requires.held,
              ap (λ l. seen_at st l x) made ∙ (seen_at-append st before (map (λ t. (c.args.cond, t)) list) x ∙ ((λ i. front i ++ back i) ∙ append-nil _)),
            );
        alike = λ x y span p q same was alike. (
          record { refusals = alike.refusals; work = alike.work; out = alike.out; calls = alike.calls },
          subst (AreAlike s x y) (sym made) (alike-append s x y before (map (λ t. (c.args.cond, t)) list) was (alike-under s x y c.args.cond list same)),
        );
      };
      stops = tt;
      keeps = Keeps-refl s;
      names = grows.names;
      sets = grows.hides;
    }

pub returns-in_ok-refuse-in-Err-Fault : goal.returns-in_ok-refuse-in-Err-Fault
returns-in_ok-refuse-in-Err-Fault g c =
    let s = g.C.Conditions.sets c.args.conds.now in
    let e = c.args.self.now in
    let held = c.requires.held in
    let before = c.args.made.now.items in
    let keeps = c.refuse.ensures.keeps in
    let refuses = c.in_ok-refuse-in-Err-Fault.ensures.refuses in
    let grows : Grows (stores s c.args.names.now e.sets) (stores (g.C.Conditions.sets c.refuse.new.conds) c.list_for.new.names c.list_for.new.sets) = record { sets = keeps; names = c.list_for.ensures.names; hides = c.list_for.ensures.sets } in
    record {
      put = record {
        held = refused-held grows e held refuses c.requires.head.file;
        made = AreHeld-Grows grows before c.requires.made;
        below = refl;
        rest = refl;
        top = refl;
        replaces = λ x listed has.
            refused (failure_at c.in-Err-Fault.cause (seen_hidden c.args.names.now e.sets c.args.head)) (rw c.in-Err-Fault.field-0-is at c.in-Err-Fault.ensures.err)
            (refused-live grows e held refuses x listed has) (refused-ends grows e held refuses x listed has);
        others = λ x listed has. (refused-other grows e held refuses x listed has, seen_at-Grows grows x listed before c.requires.made);
        alike = λ x y span p q same was alike. (refused-alike grows e held refuses x y span p q same alike, AreAlike-Keeps keeps p q before c.requires.made.own was);
      };
      stops = tt;
      keeps = keeps;
      names = grows.names;
      sets = grows.hides;
    }
