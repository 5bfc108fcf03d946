use Rattle.std.proofs.Common.{◌≡◌, ◌∙◌, ◌==◌, ◌<◌, sym, ap, subst, refl, length, List, [], IfSome, arith, if◌then◌else◌}
use Rattle.std.specs.Option.{option_to_list}
use Rattle.std.specs.Prelude.{slice_index}
use Rattle.sc_guarded.proofs.ItemLemmas.{items_at-Keeps}
use Rattle.sc_guarded.specs.Items.{items_at}
use Rattle.sc_macro.specs.Seen.{IsHeldDefinition}
use Rattle.sc_model.proofs.SetLemmas.{Keeps-refl, Keeps-trans, IsConfig-Keeps}
use Rattle.sc_table.specs.Parts.{Part, AreSome, AreDrawn, valued}
use Rattle.sc_table.specs.Table.{definition_at}
use Rattle.sc_table.proofs.OptionLemmas.{definition_at-more, seen_options-more, lacks-options, all_options}
use Rattle.sc_table.proofs.PartLemmas.{AreSome-Keeps, AreSome-nil, AreDrawn-nil, met_more, none_met}
use Rattle.sc_table.proofs.PlaceLemmas.{option_at-place}
use Rattle.sc_table.proofs.entry.chosen.Goals as goal

pub loop-place-init : goal.loop-place-init
loop-place-init g c =
    let s = g.C.Conditions.sets c.args.conds.now in
    let empty : valued c.new-met.result.items ≡ [] = ap valued c.new-met.ensures.items in
    record {
      keeps = Keeps-refl s;
      parts = subst (AreSome s) (sym empty) (AreSome-nil s);
      items = λ x listed. ap (λ (ps : List Part). items_at s ps x) empty ∙ none_met (s.has c.args.by.0 x);
      drawn = λ names named. subst (AreDrawn names []) (sym empty) (AreDrawn-nil names);
    }

pub at_place-requires-clause-variable : goal.at_place-requires-clause-variable
at_place-requires-clause-variable g c = rw c.loop-place.invariant.keeps.arities c.requires.variable

pub at_place-requires-clause-places : goal.at_place-requires-clause-places
at_place-requires-clause-places g c = rw c.loop-place.invariant.keeps.arities c.requires.places

pub add_option-requires-clause-parts : goal.add_option-requires-clause-parts
add_option-requires-clause-parts g c = AreSome-Keeps c.at_place.ensures.keeps c.loop-place.invariant.parts

pub add_option-requires-clause-by_own : goal.add_option-requires-clause-by_own
add_option-requires-clause-by_own g c = c.at_place.ensures.keeps.own _ (c.loop-place.invariant.keeps.own _ c.requires.by_own)

pub loop-place-preserved : goal.loop-place-preserved
loop-place-preserved g c =
    let first = g.C.Conditions.sets c.args.conds.now in
    let was = c.loop-place.invariant in
    let definitions = c.args.definitions.now in
    let i = c.loop-place.place in
    let o = c.index-definitions-place.result in
    let is = c.index-definitions-place.is in
    let placed = c.at_place.ensures.keeps in
    record {
      keeps = Keeps-trans was.keeps (Keeps-trans placed c.add_option.ensures.keeps);
      parts = c.in_ok-add_option.ensures.parts;
      items = λ x listed.
          let here = IsConfig-Keeps was.keeps listed in
          let there = IsConfig-Keeps placed here in
          met_more _ _ _ _ _ (slice_index c.args.places.now (slice_index x c.args.variable) == i) (first.has c.args.by.0 x) _ _ (c.in_ok-add_option.ensures.items x there)
          (items_at-Keeps (valued c.loop-place.met.items) x placed was.parts.own here ∙ was.items x listed)
          (definition_at-more definitions i o c.loop-place-test.true is (slice_index c.args.places.now (slice_index x c.args.variable))) (c.in_ok-cond.ensures.meaning.at x there)
          (placed.at _ x (was.keeps.own _ c.requires.by_own) here ∙ was.keeps.at _ x c.requires.by_own listed);
      drawn = λ names named.
          subst (λ ds. AreDrawn names ds (valued c.add_option.new.parts.items)) (sym (seen_options-more definitions i o c.loop-place-test.true is names))
          (c.in_ok-add_option.ensures.drawn names _ (was.drawn names named)
          (subst (λ x. IfSome x (λ shared. IsHeldDefinition names shared.value)) (sym is) (named.0 i o c.loop-place-test.true))
          (lacks-options definitions i o c.loop-place-test.true is names named.1));
    }

pub returns-in_err-cond-clause-keeps : goal.returns-in_err-cond-clause-keeps
returns-in_err-cond-clause-keeps g c = Keeps-trans c.loop-place.invariant.keeps c.at_place.ensures.keeps

pub returns-in_err-add_option-clause-keeps : goal.returns-in_err-add_option-clause-keeps
returns-in_err-add_option-clause-keeps g c = Keeps-trans c.loop-place.invariant.keeps (Keeps-trans c.at_place.ensures.keeps c.add_option.ensures.keeps)

pub returns-clause-items : goal.returns-clause-items
returns-clause-items g c = λ x listed.
    let first = g.C.Conditions.sets c.args.conds.now in
    let within : slice_index x c.args.variable < length c.args.places.now = omega (arith, listed.each c.args.variable (omega (arith, listed.long, c.requires.variable)), c.requires.places) in
    c.loop-place.invariant.items x listed
    ∙ (ap (λ os. if first.has c.args.by.0 x then option_to_list (definition_at os (slice_index c.args.places.now (slice_index x c.args.variable))) else []) (all_options c.args.definitions.now c.loop-place.place (omega arith))
    ∙ ap (λ o. if first.has c.args.by.0 x then option_to_list o else []) (option_at-place c.args.places.now c.args.definitions.now (slice_index x c.args.variable) within))

pub returns-clause-named : goal.returns-clause-named
returns-clause-named g c = λ names named. (c.loop-place.invariant.drawn names named).named
