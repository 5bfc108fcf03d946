use Rattle.std.proofs.Common.{◌≡◌, ◌∙◌, ◌||◌, ℕ, true, List, IsTrue, inl, inr, ap, map, sym}
use Rattle.sc_expand.proofs.AlikeLemmas.{alike-of, AreAlike-Keeps, IsAlike-Keeps, IsAlikeIn-Keeps}
use Rattle.sc_expand.proofs.Facts.{Denotes-self, Extends-refl, IsConfig-Keeps, Keeps-trans, cases_Bool, err_from_is_err_and, items_at-Keeps, or-false}
use Rattle.sc_expand.proofs.GatherBranches.{first-of-each}
use Rattle.sc_expand.proofs.WorkListLemmas.{last-later, has_each-Keeps, taken-each}
use Rattle.sc_expand.proofs.SeenLemmas.{AreHeld-Grows, IsHeldExpansion-Grows, at-Grows, seen_at-Grows}
use Rattle.sc_expand.proofs.GatherEnds.{stops-weaker}
use Rattle.sc_expand.proofs.TakingParts.{none-found}
use Rattle.sc_expand.proofs.TakingSteps.{called-comes, has_first-Keeps, object-comes, on-ok, same-step}
use Rattle.sc_expand.proofs.Terms.{Cond, Frame, Grows, Hidden, IsConfig, at, has_each, has_first, is_function_like, items_at, provenance_of, seen_definition, seen_hidden, stores}
use Rattle.sc_expand.proofs.expansion.Expansion.take_defined.Goals as goal

pub returns-then-is_function_like-clause-taken : goal.returns-then-is_function_like-clause-taken
returns-then-is_function_like-clause-taken g c =
    let s0 = g.C.Conditions.sets c.args.conds.now in
    let s1 = g.C.Conditions.sets c.gather.new.conds in
    let s2 = g.C.Conditions.sets c.apply_or.new.self in
    let was = c.args.self.now in
    let e = c.gather.new.self in
    let n = c.gather.new.names in
    let first = c.gather.ensures.keeps in
    let second = c.apply_or.ensures.keeps in
    let later : Grows (stores s1 n e.sets) (stores s2 n e.sets) = record { sets = second; names = Extends-refl n; hides = Extends-refl e.sets } in
    let all : Grows (stores s0 c.args.names.now was.sets) (stores s2 n e.sets) = record { sets = Keeps-trans first second; names = c.gather.ensures.names; hides = c.gather.ensures.sets } in
    let held = c.in_ok-uncalled.ensures.held in
    let gathered = c.in_ok-uncalled.ensures.gathered in
    let uncalled = c.in_ok-uncalled.uncalled.0 in
    let before = c.args.taken.now in
    let own = c.requires.taken.stays in
    let told = c.in_ok-taken.ensures.meaning _ _ (Denotes-self s1 before.stays.0 (first.own _ own)) (Denotes-self s1 uncalled gathered.own) in
    let each = λ (x : List ℕ) (listed : IsConfig (g.C.Conditions.sets c.args.conds.now).arities x). has_each-Keeps e.top.work x second held.top.work.own (IsConfig-Keeps first listed) in
    record {
      held = IsHeldExpansion-Grows later e held;
      taken = record { stays = c.in_ok-taken.ensures.own; made = AreHeld-Grows all before.made.items c.requires.taken.made };
      lists = c.in_ok-uncalled.ensures.lists;
      comes = λ x macros rest listed has work is.
          let begun = c.requires.begun x listed has in
          let mid = IsConfig-Keeps first listed in
          let stays = told.at x (IsConfig-Keeps second mid) ∙ ap (λ b. b || s1.has uncalled x) (first.at before.stays.0 x own listed ∙ begun.stays) in
          called-comes (provenance_of c.args.files.now) macros (seen_hidden c.args.names.now was.sets c.args.head) rest
          (at (stores s0 c.args.names.now was.sets) was x) (at (stores s1 n e.sets) e x) (at (stores s2 n e.sets) e x) (s1.has uncalled x)
          _ _ _ (at-Grows later x mid e held) begun.live
          (λ live. has_first-Keeps second e.top.work held.top.work.own x mid ∙ gathered.first x listed has live)
          stays (seen_at-Grows all x listed before.made.items c.requires.taken.made ∙ begun.made) (gathered.gathers x macros rest listed has work c.requires.name is);
      others = λ x listed no.
          let mid = IsConfig-Keeps first listed in
          let other = gathered.others x listed no in
          same-step (at-Grows later x mid e held ∙ other.0.0)
          (has_first-Keeps second e.top.work held.top.work.own x mid ∙ first-of-each s1 s0 e.top.work was.top.work x other.1)
          (told.at x (IsConfig-Keeps second mid) ∙ (ap (λ b. b || s1.has uncalled x) (first.at before.stays.0 x own listed) ∙ (ap (λ b. s0.has before.stays.0 x || b) other.0.1 ∙ or-false (s0.has before.stays.0 x))))
          (seen_at-Grows all x listed before.made.items c.requires.taken.made);
      others_each = λ x listed no. each x listed ∙ (gathered.others x listed no).1;
      alike = λ x y span p q same called taken alike.
          let p1 = IsConfig-Keeps first p in
          let q1 = IsConfig-Keeps first q in
          let function = sym (c.is_function_like.ensures c.args.names.now) ∙ c.if-is_function_like.true in
          let came = gathered.alike x y span p q same (λ has. called has function) alike in
          let stayed = IsAlike-Keeps first p q own taken.stays in (
            IsAlikeIn-Keeps second p1 q1 span e held came.0,
            record {
              stays = alike-of told (IsConfig-Keeps second p1) (IsConfig-Keeps second q1) (λ i. stayed i || came.1 i);
              made = AreAlike-Keeps all.sets p q before.made.items c.requires.taken.made.own taken.made;
            },
          );
      rest = λ x listed. record {
        rest = last-later (gathered.rest x listed) (each x listed);
        made = elim (cases_Bool (s0.has c.args.cond.0 x)) [
          | inl has ↦ inl (items_at-Keeps before.made.items x all.sets c.requires.taken.made.own listed
              ∙ none-found (seen_hidden c.args.names.now was.sets) (items_at s0 before.made.items x) (c.requires.begun x listed has).made)
          | inr lacks ↦ inr (each x listed ∙ (gathered.others x listed lacks).1)
        ];
      };
    }

pub returns-clause-taken : goal.returns-clause-taken
returns-clause-taken g c = on-ok c.put_object.result
    (λ put.
    let s1 = g.C.Conditions.sets c.put_object.new.conds in
    let keeps = c.put_object.ensures.keeps in
    let n = c.args.names.now in
    let was = c.args.self.now in
    let own = c.requires.held.top.work.own in
    let stays = c.args.taken.now.stays in
    let has_first-same = λ (x : List ℕ) (listed : IsConfig (g.C.Conditions.sets c.args.conds.now).arities x). ap (λ (f : Frame). has_first s1 f.work x) put.top ∙ has_first-Keeps keeps was.top.work own x listed in
    let each = λ (x : List ℕ) (listed : IsConfig (g.C.Conditions.sets c.args.conds.now).arities x). ap (λ (f : Frame). has_each s1 f.work x) put.top ∙ has_each-Keeps was.top.work x keeps own listed in
    record {
      held = put.held;
      taken = record { stays = keeps.own _ c.requires.taken.stays; made = put.made };
      lists = record { below = put.below; rest = put.rest; out = ap (λ (f : Frame). f.out) put.top; tokens = ap (λ (f : Frame). map (λ (item : Cond × Hidden). item.1) f.work) put.top };
      comes = λ x macros rest listed has work is.
          let begun = c.requires.begun x listed has in
          let formed = sym (c.is_function_like.ensures n) ∙ c.if-is_function_like.false in
          object-comes (provenance_of c.args.files.now) macros (seen_hidden n was.sets c.args.head) rest (seen_definition n c.args.definition.now) (at (stores (g.C.Conditions.sets c.args.conds.now) n was.sets) was x) _ _ _ _ _
          c.requires.name is formed work begun.calls begun.made (has_first-same x listed ∙ begun.first) (keeps.at stays.0 x c.requires.taken.stays listed ∙ begun.stays) (put.replaces x listed has);
      others = λ x listed no.
          let other = put.others x listed no in
          same-step other.0 (has_first-same x listed) (keeps.at stays.0 x c.requires.taken.stays listed) other.1;
      others_each = λ x listed no. each x listed;
      alike = λ x y span p q same called taken alike.
          let came = put.alike x y span p q same taken.made alike in
          (came.0, record { stays = IsAlike-Keeps keeps p q c.requires.taken.stays taken.stays; made = came.1 });
      rest = λ x listed. taken-each (each x listed);
    })
    c.put_object.ensures.put

pub returns-in_err-uncalled-clause-stops : goal.returns-in_err-uncalled-clause-stops
returns-in_err-uncalled-clause-stops g c =
    let p = err_from_is_err_and c.from_residual.result c.from_residual.ensures.1 in
    let s = g.C.Conditions.sets c.args.conds.now in
    let n = c.args.names.now in
    let Has : List ℕ → Type 0 = λ x. s.has c.args.cond.0 x ≡ true in
    let Calls : List ℕ → Type 0 = λ x. (s.has c.args.cond.0 x ≡ true) × IsTrue (is_function_like (seen_definition n c.args.definition.now).form) in
    rw (p.1, p.2) (stops-weaker s n Has Calls c.args.self.now.top.work c.args.limit _ (λ x listed has. (has, sym (c.is_function_like.ensures n) ∙ c.if-is_function_like.true)) c.in_err-uncalled.ensures.stops)

pub returns-in_err-taken-clause-keeps : goal.returns-in_err-taken-clause-keeps
returns-in_err-taken-clause-keeps g c = Keeps-trans c.gather.ensures.keeps c.apply_or.ensures.keeps

pub returns-then-is_function_like-clause-keeps : goal.returns-then-is_function_like-clause-keeps
returns-then-is_function_like-clause-keeps g c = Keeps-trans c.gather.ensures.keeps c.apply_or.ensures.keeps
