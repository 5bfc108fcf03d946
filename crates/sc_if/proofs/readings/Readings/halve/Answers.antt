use Rattle.std.proofs.Common.{◌++◌, ◌∷◌, [], ◌∙◌, All, List, Some, option_map, ap, subst, sym}
use Rattle.std.proofs.lemmas.List.Elements.{All-append, All-push}
use Rattle.std.proofs.lemmas.Bool.{and_parts}
use Rattle.sc_if.proofs.PutLemmas.{Entry, HaveRead-Keeps, IsWithin-Keeps, all-parts, on_ok_both, own-Keeps, parted-two, put-front, put-pushed}
use Rattle.sc_if.specs.Readings.{IsPut, all_of, read_behind, state_in}
use Rattle.sc_if.specs.Symbols.{seen_symbol}
use Rattle.sc_model.proofs.SetLemmas.{Denotes-Keeps, Denotes-self, IsConfig-Keeps, Keeps-refl, Keeps-trans}
use Rattle.sc_model.specs.Sets.{IsCond}
use Rattle.sc_if.proofs.readings.Readings.halve.Goals as goal

pub go_on-requires : goal.go_on-requires
go_on-requires g c =
    let s = g.C.Conditions.sets c.args.conds.now in
    let mid = g.C.Conditions.sets c.apply_without.new.self in
    let keeps = c.apply_without.ensures.keeps in
    let left = c.args.self.now.left.items in
    let gone = c.args.self.now.moved.items in
    let Own : Entry → Type 0 = λ x. IsCond s x.0.0 in
    let Now : Entry → Type 0 = λ x. IsCond mid x.0.0 in
    let own = all-parts Own left gone c.requires.own in
    let made = c.requires.having.own in
    record {
      own = All-append Now _ gone (subst (All Now) (sym {A = List Entry} c.in_ok-push.ensures.items)
          (All-push Now left (c.in_ok-lacking.lacking, Some c.args.before) (own-Keeps keeps left own.0) c.in_ok-lacking.ensures.own)) (own-Keeps keeps gone own.1);
      cond_own = keeps.own _ made;
      some = λ never. c.requires.some (record { none = λ x listed. sym (keeps.at _ x made listed) ∙ never.none x (IsConfig-Keeps keeps listed) });
    }

pub returns-clause-parted : goal.returns-clause-parted
returns-clause-parted g c =
    let s = g.C.Conditions.sets c.args.conds.now in
    let mid = g.C.Conditions.sets c.apply_without.new.self in
    let new = g.C.Conditions.sets c.go_on.new.conds in
    let keeps = c.apply_without.ensures.keeps in
    let left = c.args.self.now.left.items in
    let gone = c.args.self.now.moved.items in
    let Own : Entry → Type 0 = λ x. IsCond s x.0.0 in
    let own = all-parts Own left gone c.requires.own in
    let symbol = option_map seen_symbol c.args.symbol in
    let st = state_in c.args.before in
    let less = c.in_ok-lacking.lacking in
    let whole = Denotes-self s c.args.cond.0 c.requires.cond_own in
    let having = c.requires.having in
    let lacking = c.in_ok-lacking.ensures.meaning _ _ whole (Denotes-self s c.args.item.0 c.requires.item_own) in
    let after = c.in_ok-after.ensures ∙ ap (λ t. read_behind symbol (Some t)) c.in_ok-copy.ensures in
    let first = subst (λ (l : List Entry). IsPut mid mid less.0 (Some st) (left ++ gone) (l ++ gone)) (sym {A = List Entry} c.in_ok-push.ensures.items)
    (put-front (Keeps-refl mid) left (left ++ (less, Some c.args.before) ∷ []) gone (own-Keeps keeps gone own.1)
    (put-pushed mid left less (Some c.args.before) (own-Keeps keeps left own.0) c.in_ok-lacking.ensures.own)) in
    on_ok_both c.go_on.result c.go_on.ensures.put c.go_on.ensures.read
    (λ put read. parted-two keeps
    (λ x listed. lacking.at x (IsConfig-Keeps keeps listed))
    (λ x listed. (Denotes-Keeps keeps having).at x (IsConfig-Keeps keeps listed))
    c.requires.own first (subst (λ r. IsPut mid new c.args.having.0 r (c.push.new.self.items ++ gone) (all_of c.go_on.new.self)) after put)
    (λ were. read c.args.item.0
    (IsWithin-Keeps keeps having.own (record { own = c.requires.item_own; at = λ x listed has. (and_parts (s.has c.args.cond.0 x) (s.has c.args.item.0 x) (sym (having.at x listed) ∙ has)).1 }))
    (HaveRead-Keeps keeps gone own.1 were)))

pub returns-clause-keeps : goal.returns-clause-keeps
returns-clause-keeps g c = Keeps-trans c.apply_without.ensures.keeps c.go_on.ensures.keeps
