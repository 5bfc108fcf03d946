use Rattle.std.proofs.Common.{◌≡◌, ◌∙◌, ◌<◌, ◌≤◌, ◌+◌, ◌∷◌, ◌++◌, sym, ap, subst, Option, Contains, length, slice_get, map, ℕ, if◌then◌else◌, arith}
use Rattle.std.proofs.lemmas.List.{length-map}
use Rattle.std.proofs.lemmas.Option.{same_Some}
use Rattle.sc_guarded.specs.Items.{items_at}
use Rattle.sc_macro.specs.Seen.{seen_definition}
use Rattle.sc_model.specs.Sets.{IsCond}
use Rattle.sc_table.specs.Change.{Splits, FindsSame}
use Rattle.sc_table.specs.Parts.{AreParts, AreNamed, seen_all, valued}
use Rattle.sc_table.proofs.ChangeLemmas.{AreParts-without, AreNamed-without, one_without, lacks_taken, splits_without, lacks_items, splits_none, before_part, after_part, valued-with, valued-without}
use Rattle.sc_table.proofs.PartLemmas.{each-valued, slice_get-seen_all}
use Rattle.sc_table.proofs.change.take_same.Goals as goal

pub remove-requires : goal.remove-requires
remove-requires g c = omega (arith, c.in-Some.ensures.within, c.deref.ensures.len)

pub returns-in-None-clause-splits : goal.returns-in-None-clause-splits
returns-in-None-clause-splits g c = λ names one named held x listed.
    let s = g.C.Conditions.sets c.args.conds.now in
    let f = seen_definition names in
    let d = f c.args.definition.now in
    let parts = valued c.args.parts.now.items in
    let items = items_at s parts x in
    let finds = c.same_part.ensures.found names one (subst (AreNamed names) (sym (ap valued c.deref.ensures.value)) named) held in
    let found = subst (λ (o : Option ℕ). FindsSame (seen_all names (valued c.deref.result.now)) d o) c.in-None.is finds in
    let lacks = subst (λ ps. Contains (seen_all names (valued ps)) d → ⊥) c.deref.ensures.value found in
    let few : length (map f items) ≤ 1 = omega (arith, length-map items f, c.requires.one x listed) in
    subst (λ b. Splits d (map f items) (map f items) b) (sym (c.never.ensures.meaning.at x listed)) (splits_none d (map f items) few (lacks_items s names parts x d lacks))

pub returns-in-Some-clause-own : goal.returns-in-Some-clause-own
returns-in-Some-clause-own g c =
    let s = g.C.Conditions.sets c.args.conds.now in
    let within : c.in-Some.index < length c.args.parts.now.items = omega (arith, c.in-Some.ensures.within, c.deref.ensures.len) in
    each-valued c.args.parts.now.items c.in-Some.index c.remove.result within c.remove.ensures.value (λ part. IsCond s part.0.0) c.requires.each.own

pub returns-in-Some-clause-parts : goal.returns-in-Some-clause-parts
returns-in-Some-clause-parts g c =
    let s = g.C.Conditions.sets c.args.conds.now in
    let parts = c.args.parts.now.items in
    let i = c.in-Some.index in
    let p = c.remove.result in
    let within : i < length parts = omega (arith, c.in-Some.ensures.within, c.deref.ensures.len) in
    let made = AreParts-without s (before_part parts i p within c.remove.ensures.value) (after_part parts i p within c.remove.ensures.value) (p.0, p.1.value) (subst (AreParts s) (valued-with parts i p within c.remove.ensures.value) c.requires) in
    subst (AreParts s) (sym (ap valued c.remove.ensures.items ∙ valued-without parts i p within c.remove.ensures.value)) made

pub returns-in-Some-clause-one : goal.returns-in-Some-clause-one
returns-in-Some-clause-one g c = λ x listed.
    let s = g.C.Conditions.sets c.args.conds.now in
    let parts = c.args.parts.now.items in
    let i = c.in-Some.index in
    let p = c.remove.result in
    let within : i < length parts = omega (arith, c.in-Some.ensures.within, c.deref.ensures.len) in
    subst (λ ps. length (items_at s ps x) + (if s.has p.0.0 x then 1 else 0) ≤ 1) (sym (ap valued c.remove.ensures.items ∙ valued-without parts i p within c.remove.ensures.value))
    (one_without s (before_part parts i p within c.remove.ensures.value) (after_part parts i p within c.remove.ensures.value) (p.0, p.1.value) x listed (subst (AreParts s) (valued-with parts i p within c.remove.ensures.value) c.requires))

pub returns-in-Some-clause-named : goal.returns-in-Some-clause-named
returns-in-Some-clause-named g c = λ names one named held.
    let s = g.C.Conditions.sets c.args.conds.now in
    let parts = c.args.parts.now.items in
    let i = c.in-Some.index in
    let p = c.remove.result in
    let within : i < length parts = omega (arith, c.in-Some.ensures.within, c.deref.ensures.len) in
    subst (AreNamed names) (sym (ap valued c.remove.ensures.items ∙ valued-without parts i p within c.remove.ensures.value))
    (AreNamed-without s (before_part parts i p within c.remove.ensures.value) (after_part parts i p within c.remove.ensures.value) (p.0, p.1.value) names (subst (AreNamed names) (valued-with parts i p within c.remove.ensures.value) named))

pub returns-in-Some-clause-lacks : goal.returns-in-Some-clause-lacks
returns-in-Some-clause-lacks g c = λ names one named held.
    let s = g.C.Conditions.sets c.args.conds.now in
    let parts = c.args.parts.now.items in
    let i = c.in-Some.index in
    let p = c.remove.result in
    let d = seen_definition names c.args.definition.now in
    let within : i < length parts = omega (arith, c.in-Some.ensures.within, c.deref.ensures.len) in
    let finds = c.in-Some.ensures.found names one (subst (AreNamed names) (sym (ap valued c.deref.ensures.value)) named) held in
    let at = ap (λ ps. slice_get (seen_all names (valued ps)) i) (sym c.deref.ensures.value) ∙ finds in
    let same : seen_definition names p.1.value ≡ d = same_Some _ _ (sym (slice_get-seen_all parts i p within c.remove.ensures.value names) ∙ at) in
    let told = lacks_taken s (before_part parts i p within c.remove.ensures.value) (after_part parts i p within c.remove.ensures.value) (p.0, p.1.value) names (subst (AreNamed names) (valued-with parts i p within c.remove.ensures.value) named) in
    subst (λ ps. Contains (seen_all names ps) d → ⊥) (sym (ap valued c.remove.ensures.items ∙ valued-without parts i p within c.remove.ensures.value))
    (subst (λ e. Contains (seen_all names (before_part parts i p within c.remove.ensures.value ++ after_part parts i p within c.remove.ensures.value)) e → ⊥) same told)

pub returns-in-Some-clause-splits : goal.returns-in-Some-clause-splits
returns-in-Some-clause-splits g c = λ names one named held x listed.
    let s = g.C.Conditions.sets c.args.conds.now in
    let parts = c.args.parts.now.items in
    let i = c.in-Some.index in
    let p = c.remove.result in
    let f = seen_definition names in
    let d = f c.args.definition.now in
    let within : i < length parts = omega (arith, c.in-Some.ensures.within, c.deref.ensures.len) in
    let finds = c.in-Some.ensures.found names one (subst (AreNamed names) (sym (ap valued c.deref.ensures.value)) named) held in
    let at = ap (λ ps. slice_get (seen_all names (valued ps)) i) (sym c.deref.ensures.value) ∙ finds in
    let same : f p.1.value ≡ d = same_Some _ _ (sym (slice_get-seen_all parts i p within c.remove.ensures.value names) ∙ at) in
    let whole = valued-with parts i p within c.remove.ensures.value in
    let rest = ap valued c.remove.ensures.items ∙ valued-without parts i p within c.remove.ensures.value in
    let front = before_part parts i p within c.remove.ensures.value in
    let back = after_part parts i p within c.remove.ensures.value in
    let told = splits_without s front back (p.0, p.1.value) names (subst (AreNamed names) whole named) x listed (subst (AreParts s) whole c.requires) d same in
    subst (λ ps. Splits d (map f (items_at s ps x)) (map f (items_at s (valued c.remove.new.self.items) x)) (s.has p.0.0 x)) (sym whole)
    (subst (λ ps. Splits d (map f (items_at s (front ++ (p.0, p.1.value) ∷ back) x)) (map f (items_at s ps x)) (s.has p.0.0 x)) (sym rest) told)
