use Rattle.std.proofs.Common.{◌≡◌, ◌∙◌, ◌||◌, ℕ, true, List, IsTrue, Some, ap, subst, sym}
use Rattle.sc_expand.proofs.AlikeLemmas.{alike-of, AreAlike-Keeps, IsAlikeIn-Keeps}
use Rattle.sc_expand.proofs.Facts.{Denotes-self, Extends-refl, IsConfig-Keeps, if_err, or-false, or_right}
use Rattle.sc_expand.proofs.TakingSteps.{lists-same, has_first-Keeps, last-undefined, on-ok, same-step, case-undefined}
use Rattle.sc_expand.proofs.SeenLemmas.{AreHeld-Grows, IsHeldExpansion-Grows, at-Grows, seen_at-Grows}
use Rattle.sc_expand.proofs.GatherEnds.{stops-weaker}
use Rattle.sc_expand.proofs.WorkListLemmas.{taken-each, has_each-Keeps}
use Rattle.sc_expand.proofs.Terms.{Grows, is_function_like, option_map, seen_definition, seen_hidden, stores}
use Rattle.sc_expand.specs.Taking.{IsFunction, IsTaken, kept}
use Rattle.sc_expand.proofs.expansion.Expansion.take_part.Goals as goal

pub returns-in_ok-taken-in-None-clause-taken : goal.returns-in_ok-taken-in-None-clause-taken
returns-in_ok-taken-in-None-clause-taken g c =
    let s = g.C.Conditions.sets c.args.conds.now in
    let n = c.args.names.now in
    let e = c.args.self.now in
    let before = c.args.taken.now in
    let keeps = c.apply_or.ensures.keeps in
    let grows : Grows (stores s n e.sets) (stores (g.C.Conditions.sets c.apply_or.new.self) n e.sets) = record { sets = keeps; names = Extends-refl n; hides = Extends-refl e.sets } in
    let own = c.requires.held.top.work.own in
    let told = c.in_ok-taken-in-None.ensures.meaning _ _ (Denotes-self s before.stays.0 c.requires.taken.stays) (Denotes-self s c.args.cond.0 c.requires.cond_own) in
    record {
      held = IsHeldExpansion-Grows grows e c.requires.held;
      taken = record { stays = told.own; made = AreHeld-Grows grows before.made.items c.requires.taken.made };
      lists = lists-same e;
      comes = λ x macros rest listed has work is.
          let begun = c.requires.begun x listed has in
          kept (case-undefined macros (seen_hidden n e.sets c.args.head) rest c.requires.name (is ∙ ap (option_map (λ shared. seen_definition n shared.value)) c.in-None.is))
          (λ whole. last-undefined macros (seen_hidden n e.sets c.args.head) rest (is ∙ ap (option_map (λ shared. seen_definition n shared.value)) c.in-None.is))
          (same-step (at-Grows grows x listed e c.requires.held) (has_first-Keeps keeps e.top.work own x listed ∙ begun.first)
          (told.at x (IsConfig-Keeps keeps listed) ∙ or_right (s.has before.stays.0 x) (s.has c.args.cond.0 x) has) (seen_at-Grows grows x listed before.made.items c.requires.taken.made ∙ begun.made));
      others = λ x listed no.
          same-step (at-Grows grows x listed e c.requires.held) (has_first-Keeps keeps e.top.work own x listed)
          (told.at x (IsConfig-Keeps keeps listed) ∙ (ap (λ b. s.has before.stays.0 x || b) no ∙ or-false (s.has before.stays.0 x))) (seen_at-Grows grows x listed before.made.items c.requires.taken.made);
      others_each = λ x listed no. has_each-Keeps e.top.work x keeps own listed;
      alike = λ x y span p q same called taken alike.
          let stayed = taken.stays in (
            IsAlikeIn-Keeps keeps p q span e c.requires.held alike,
            record { stays = alike-of told (IsConfig-Keeps keeps p) (IsConfig-Keeps keeps q) (λ i. stayed i || same i); made = AreAlike-Keeps keeps p q before.made.items c.requires.taken.made.own taken.made },
          );
      rest = λ x listed. taken-each (has_each-Keeps e.top.work x keeps own listed);
    }

pub returns-in-Some-clause-taken : goal.returns-in-Some-clause-taken
returns-in-Some-clause-taken g c = on-ok c.take_defined.result
    (λ taken.
    let n = c.args.names.now in
    let e = c.args.self.now in
    let after = c.take_defined.new.self in
    let old = stores (g.C.Conditions.sets c.args.conds.now) n e.sets in
    let new = stores (g.C.Conditions.sets c.take_defined.new.conds) c.take_defined.new.names after.sets in
    let same = ap (λ d. Some (seen_definition n d)) c.deref.ensures ∙ sym (ap (option_map (λ shared. seen_definition n shared.value)) c.in-Some.is) in
    subst (IsTaken c.args.files.now old new e after c.args.taken.now c.take_defined.new.taken c.args.head c.args.cond.0) same taken)
    c.take_defined.ensures.taken

pub returns-in-Some-clause-stops : goal.returns-in-Some-clause-stops
returns-in-Some-clause-stops g c = if_err _ _ c.take_defined.result
    (λ stop is.
    let s = g.C.Conditions.sets c.args.conds.now in
    let n = c.args.names.now in
    let One : List ℕ → Type 0 = λ x. (s.has c.args.cond.0 x ≡ true) × IsTrue (is_function_like (seen_definition n c.deref.result.now).form) in
    let Part : List ℕ → Type 0 = λ x. (s.has c.args.cond.0 x ≡ true) × IsFunction n c.args.definition.now in
    stops-weaker s n One Part c.args.self.now.top.work c.args.limit stop
    (λ x listed takes. (takes.0, subst (IsFunction n) (sym c.in-Some.is) (ap (λ d. is_function_like (seen_definition n d).form) (sym c.deref.ensures) ∙ takes.1))) is)
    c.take_defined.ensures.stops
