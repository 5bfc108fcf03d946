use Rattle.std.proofs.Common.{◌≡◌, ℕ, ◌&&◌, true, ◌++◌, ◌∷◌, [], ◌∙◌, List, Option, Some, option_map, ap, subst, sym}
use Rattle.std.proofs.lemmas.Bool.{and_parts, eqb-true, true≢false}
use Rattle.std.proofs.lemmas.Result.{on_ok_weaker}
use Rattle.c11_expressions.proofs.Reader.{State}
use Rattle.sc_if.proofs.PutLemmas.{Entry, HaveRead-Keeps, IsWithin-Keeps, all-parts, moved-all, moved-no, none-had, on_ok_both, own-Keeps, parted-before, parted-one, put-before, put-front, put-pushed}
use Rattle.sc_if.specs.Readings.{IsPut, state_in}
use Rattle.sc_if.specs.Symbols.{seen_symbol}
use Rattle.sc_model.proofs.SetLemmas.{Denotes-self, IsConfig-Keeps, IsConfig-kept, Keeps-refl, Keeps-trans}
use Rattle.sc_model.specs.Sets.{IsCond, IsConfig, IsNever}
use Rattle.sc_if.proofs.readings.Readings.divide.Goals as goal

pub returns-then-is_never-clause-parted : goal.returns-then-is_never-clause-parted
returns-then-is_never-clause-parted g c =
    let s = g.C.Conditions.sets c.args.conds.now in
    let mid = g.C.Conditions.sets c.apply_and.new.self in
    let keeps = c.apply_and.ensures.keeps in
    let left = c.args.self.now.left.items in
    let gone = c.args.self.now.moved.items in
    let Own : Entry → Type 0 = λ x. IsCond s x.0.0 in
    let own = all-parts Own left gone c.requires.own in
    let symbol = option_map seen_symbol c.args.symbol in
    let both = c.in_ok-having.ensures.meaning _ _ (Denotes-self s c.args.cond.0 c.requires.cond_own) (Denotes-self s c.args.item.0 c.requires.item_own) in
    let never = c.is_never.ensures.0 c.if-is_never.true in
    let pushed = put-front (Keeps-refl mid) left (left ++ (c.args.cond, Some c.args.before) ∷ []) gone (own-Keeps keeps gone own.1)
    (put-pushed mid left c.args.cond (Some c.args.before) (own-Keeps keeps left own.0) (keeps.own _ c.requires.cond_own)) in
    let put = subst (λ (l : List Entry). IsPut mid mid c.args.cond.0 (Some (state_in c.args.before)) (left ++ gone) (l ++ gone)) (sym {A = List Entry} c.in_ok-push.ensures.items) pushed in
    parted-one
    (λ x listed has. moved-no (s.has c.args.item.0 x) symbol (Some (state_in c.args.before)) (none-had _ _ has (sym (both.at x (IsConfig-Keeps keeps listed)) ∙ never.none x (IsConfig-Keeps keeps listed))))
    (λ were. HaveRead-Keeps keeps gone own.1 were) (put-before keeps c.requires.own c.requires.cond_own put)

pub go_on-requires : goal.go_on-requires
go_on-requires g c =
    let mid = g.C.Conditions.sets c.apply_and.new.self in
    let keeps = c.apply_and.ensures.keeps in
    record {
      own = own-Keeps keeps (c.args.self.now.left.items ++ c.args.self.now.moved.items) c.requires.own;
      cond_own = keeps.own _ c.requires.cond_own;
      some = λ never. true≢false (sym (c.is_never.ensures.1 (subst (IsNever mid) (sym (eqb-true c.in_ok-having.having.0 c.args.cond.0 (sym c.eq.ensures ∙ c.if-eq.true))) never)) ∙ c.if-is_never.false);
    }

pub returns-then-eq-clause-parted : goal.returns-then-eq-clause-parted
returns-then-eq-clause-parted g c =
    let s = g.C.Conditions.sets c.args.conds.now in
    let mid = g.C.Conditions.sets c.apply_and.new.self in
    let new = g.C.Conditions.sets c.go_on.new.conds in
    let keeps = c.apply_and.ensures.keeps in
    let left = c.args.self.now.left.items in
    let gone = c.args.self.now.moved.items in
    let Own : Entry → Type 0 = λ x. IsCond s x.0.0 in
    let own = all-parts Own left gone c.requires.own in
    let symbol = option_map seen_symbol c.args.symbol in
    let st : Option State = Some (state_in c.args.before) in
    let both = c.in_ok-having.ensures.meaning _ _ (Denotes-self s c.args.cond.0 c.requires.cond_own) (Denotes-self s c.args.item.0 c.requires.item_own) in
    let equal = eqb-true c.in_ok-having.having.0 c.args.cond.0 (sym c.eq.ensures ∙ c.if-eq.true) in
    let had : (x : List ℕ) → IsConfig s.arities x → s.has c.args.cond.0 x ≡ true → s.has c.args.item.0 x ≡ true = λ x listed has.
    let all = ap (λ k. mid.has k x) equal ∙ (keeps.at c.args.cond.0 x c.requires.cond_own listed ∙ has) in
    (and_parts (s.has c.args.cond.0 x) (s.has c.args.item.0 x) (sym (both.at x (IsConfig-Keeps keeps listed)) ∙ all)).1 in
    on_ok_both c.go_on.result c.go_on.ensures.put c.go_on.ensures.read
    (λ put read. parted-one (λ x listed has. c.in_ok-after.ensures ∙ moved-all (s.has c.args.item.0 x) symbol st (had x listed has))
    (λ were. read c.args.item.0 (IsWithin-Keeps keeps c.requires.cond_own (record { own = c.requires.item_own; at = had })) (HaveRead-Keeps keeps gone own.1 were))
    (put-before keeps c.requires.own c.requires.cond_own put))

pub halve-requires : goal.halve-requires
halve-requires g c =
    let s = g.C.Conditions.sets c.args.conds.now in
    let mid = g.C.Conditions.sets c.apply_and.new.self in
    let keeps = c.apply_and.ensures.keeps in
    let both = c.in_ok-having.ensures.meaning _ _ (Denotes-self s c.args.cond.0 c.requires.cond_own) (Denotes-self s c.args.item.0 c.requires.item_own) in
    record {
      own = own-Keeps keeps (c.args.self.now.left.items ++ c.args.self.now.moved.items) c.requires.own;
      cond_own = keeps.own _ c.requires.cond_own;
      item_own = keeps.own _ c.requires.item_own;
      having = record {
        own = both.own;
        at = λ x listed. let was = IsConfig-kept keeps listed in both.at x listed ∙ (λ j. sym (keeps.at _ x c.requires.cond_own was) j && sym (keeps.at _ x c.requires.item_own was) j);
      };
      some = λ never. true≢false (sym (c.is_never.ensures.1 never) ∙ c.if-is_never.false);
    }

pub returns-clause-parted : goal.returns-clause-parted
returns-clause-parted g c =
    let keeps = c.apply_and.ensures.keeps in
    let own = all-parts (λ (x : Entry). IsCond (g.C.Conditions.sets c.args.conds.now) x.0.0) c.args.self.now.left.items c.args.self.now.moved.items c.requires.own in
    on_ok_weaker c.halve.result (parted-before keeps c.requires.own own.1 c.requires.cond_own c.requires.item_own) c.halve.ensures.parted

pub returns-clause-keeps : goal.returns-clause-keeps
returns-clause-keeps g c = Keeps-trans c.apply_and.ensures.keeps c.halve.ensures.keeps

pub returns-then-eq-clause-keeps : goal.returns-then-eq-clause-keeps
returns-then-eq-clause-keeps g c = Keeps-trans c.apply_and.ensures.keeps c.go_on.ensures.keeps
