use Rattle.std.proofs.Common.{◌≡◌, ◌∙◌, ◌∷◌, ℕ, [], List, true, ap, map, subst, sym, if◌then◌else◌, refl}
use Rattle.sc_expand.proofs.AlikeTaking.{each-same-call, found-alike, same-defined}
use Rattle.sc_expand.proofs.AlikeLemmas.{alike-of, IsAlike-Keeps, IsAlikeIn-Keeps}
use Rattle.sc_expand.proofs.Facts.{All-nil, Extends-refl, IsConfig-Keeps, IsConfig-kept, Keeps-trans, err_from_is_err_and}
use Rattle.sc_expand.proofs.SeenLemmas.{IsHeldExpansion-Grows, at-Grows}
use Rattle.sc_expand.proofs.GatherEnds.{stops-earlier}
use Rattle.sc_expand.proofs.WorkListLemmas.{taken-earlier, has_each-Keeps}
use Rattle.sc_expand.proofs.TakingParts.{found-function, none-found, one-found, seen_by, still-untaken}
use Rattle.sc_expand.proofs.Terms.{AreAlike, At, Comes, Cond, Grows, Hidden, IsAlike, IsBegun, IsFunctionLike, TakesPart, is_looked_up, items_at, macros_at, provenance_of, seen_hidden, step_at, stores, text_of}
use Rattle.sc_expand.proofs.expansion.Expansion.take_name.Goals as goal

pub take_parts-requires-clause-held : goal.take_parts-requires-clause-held
take_parts-requires-clause-held g c =
    let n = c.args.names.now in
    let h = c.args.self.now.sets in
    let grows : Grows (stores (g.C.Conditions.sets c.args.conds.now) n h) (stores (g.C.Conditions.sets c.lookup.new.conds) n h) = record { sets = c.lookup.ensures.keeps; names = Extends-refl n; hides = Extends-refl h } in
    IsHeldExpansion-Grows grows c.args.self.now c.requires.held

pub take_parts-requires-clause-begun : goal.take_parts-requires-clause-begun
take_parts-requires-clause-begun g c = λ x listed one.
    let s1 = g.C.Conditions.sets c.lookup.new.conds in
    let n = c.args.names.now in
    let h = c.args.self.now.sets in
    let grows : Grows (stores (g.C.Conditions.sets c.args.conds.now) n h) (stores s1 n h) = record { sets = c.lookup.ensures.keeps; names = Extends-refl n; hides = Extends-refl h } in
    let first = IsConfig-kept c.lookup.ensures.keeps listed in
    let found = ap (λ l. map (seen_by n) (items_at s1 l x)) c.deref.ensures.value ∙ c.in_ok-parts.ensures.parts x first in
    let has = one-found (seen_by n) (items_at s1 c.deref.result.now x) _ _ found one in
    subst (IsBegun (seen_hidden n h c.args.head)) (sym (still-untaken grows c.args.self.now (record { stays = c.never.result; made = c.new.result }) c.requires.held c.never.ensures.meaning c.new.ensures.items x first))
    (c.requires.begun x first has)

pub returns-in_err-take_parts-clause-stops : goal.returns-in_err-take_parts-clause-stops
returns-in_err-take_parts-clause-stops g c =
    let p = err_from_is_err_and c.from_residual-in_err-take_parts.result c.from_residual-in_err-take_parts.ensures.1 in
    let s0 = g.C.Conditions.sets c.args.conds.now in
    let s1 = g.C.Conditions.sets c.lookup.new.conds in
    let n = c.args.names.now in
    let h = c.args.self.now.sets in
    let work = c.args.self.now.top.work in
    let keeps = c.lookup.ensures.keeps in
    let grows : Grows (stores s0 n h) (stores s1 n h) = record { sets = keeps; names = Extends-refl n; hides = Extends-refl h } in
    let Part : List ℕ → Type 0 = λ x. TakesPart s1 n c.deref.result.now x in
    let Like : List ℕ → Type 0 = λ x. (s0.has c.args.cond.0 x ≡ true) × (is_looked_up (seen_hidden n h c.args.head) ≡ true) × IsFunctionLike (macros_at s0 n c.args.table.now x (text_of n c.args.head.token.spelling)) in
    rw (p.1, p.2) (stops-earlier Part Like work work c.args.limit _ grows c.requires.held.top.work refl
    (λ x listed takes.
    let first = IsConfig-kept keeps listed in
    let found = found-function s1 n c.in_ok-parts.parts.items x _ _ (c.in_ok-parts.ensures.parts x first) (subst (λ l. TakesPart s1 n l x) c.deref.ensures.value takes) in
    ((found.0, c.requires.name, found.1), has_each-Keeps work x keeps c.requires.held.top.work.own first)) c.in_err-take_parts.ensures.stops)

pub returns : goal.returns
returns g c =
    let s0 = g.C.Conditions.sets c.args.conds.now in
    let s1 = g.C.Conditions.sets c.lookup.new.conds in
    let n = c.args.names.now in
    let h = c.args.self.now.sets in
    let e = c.args.self.now in
    let work = e.top.work in
    let text = text_of n c.args.head.token.spelling in
    let keeps = c.lookup.ensures.keeps in
    let grows : Grows (stores s0 n h) (stores s1 n h) = record { sets = keeps; names = Extends-refl n; hides = Extends-refl h } in
    let now = stores (g.C.Conditions.sets c.take_parts.new.conds) c.take_parts.new.names c.take_parts.new.self.sets in
    let found = c.in_ok-parts.ensures in
    let value = c.deref.ensures.value in
    let told = c.in_ok-take_parts.ensures in
    let never = c.never.ensures.meaning in
    let done = told.done in
    record {
      takes = record {
        held = done.held;
        taken = done.taken;
        lists = done.lists;
        comes = λ x macros rest listed has work is.
            let same = at-Grows grows x listed e c.requires.held in
            let one = ap (λ l. map (seen_by n) (items_at s1 l x)) value ∙ (found.parts x listed ∙ (ap (λ b. if b then macros_at s0 n c.args.table.now x text ∷ [] else []) has ∙ ap (λ m. m ∷ []) (sym is))) in
            subst (λ a. Comes (provenance_of c.args.files.now) macros (seen_hidden n h c.args.head) rest a (step_at now c.take_parts.new.self c.take_parts.new.taken x)) same
            (done.comes x macros rest (IsConfig-Keeps keeps listed) (ap (λ (a : At). a.view.work) same ∙ work) one);
        others = λ x listed no.
            let none = ap (λ l. map (seen_by n) (items_at s1 l x)) value ∙ (found.parts x listed ∙ ap (λ b. if b then macros_at s0 n c.args.table.now x text ∷ [] else []) no) in
            done.others x (IsConfig-Keeps keeps listed) (none-found (seen_by n) (items_at s1 c.deref.result.now x) none)
            ∙ still-untaken grows e (record { stays = c.never.result; made = c.new.result }) c.requires.held never c.new.ensures.items x listed;
        rest = λ x listed. taken-earlier (has_each-Keeps work x keeps c.requires.held.top.work.own listed) (done.rest x (IsConfig-Keeps keeps listed));
        alike = λ x y span p q same called defined alike.
            let own = c.requires.held.top.work.own in
            let parts = c.in_ok-parts.parts.items in
            let one = found.parts x p in
            let both = same-defined (s0.has c.args.cond.0 x) (s0.has c.args.cond.0 y) _ _ same (λ has. defined has c.requires.name) in
            let alike_parts = found-alike (seen_by n) s1 parts x y found.differ (one ∙ (both ∙ sym (found.parts y q))) in
            done.alike x y span (IsConfig-Keeps keeps p) (IsConfig-Keeps keeps q) (subst (AreAlike s1 x y) (sym value) alike_parts)
            (λ takes.
            let function = found-function s1 n parts x _ _ one (subst (λ l. TakesPart s1 n l x) value takes) in
            each-same-call work work grows c.requires.held.top.work refl (has_each-Keeps work x keeps own p) (has_each-Keeps work y keeps own q) (called function.0 c.requires.name function.1))
            (record { stays = IsAlike-Keeps keeps p q never.own (alike-of never p q refl); made = subst (AreAlike s1 x y) (sym c.new.ensures.items) (All-nil (λ (item : Cond × Hidden). IsAlike s1 x y item.0)) })
            (IsAlikeIn-Keeps keeps p q span e c.requires.held alike);
      };
      stops = tt;
      keeps = Keeps-trans keeps c.take_parts.ensures.keeps;
      names = c.take_parts.ensures.names;
      sets = c.take_parts.ensures.sets;
    }

pub returns-in_err-take_parts-clause-keeps : goal.returns-in_err-take_parts-clause-keeps
returns-in_err-take_parts-clause-keeps g c = Keeps-trans c.lookup.ensures.keeps c.take_parts.ensures.keeps
