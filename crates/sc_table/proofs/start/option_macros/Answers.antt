use Rattle.std.proofs.Common.{◌∙◌, ◌<◌, ◌++◌, ◌∷◌, [], ℕ, All, List, Option, length, map, take, get_or, ap, sym, subst, arith}
use Rattle.std.proofs.lemmas.List.{map-append, take_more}
use Rattle.std.proofs.lemmas.List.Elements.{All-push, All-weaker}
use Rattle.c11_macros.specs.Macros as model
use Rattle.c11_macros.specs.Macros.{definition_of}
use Rattle.sc_base.proofs.Growth.{Extends-trans}
use Rattle.sc_model.specs.Growth.{IsOneToOne}
use Rattle.sc_space.specs.declared.option.VariableOption.{VariableOption}
use Rattle.sc_space.specs.Seen.{seen_option}
use Rattle.sc_table.proofs.Growth.{all_options-Extends}
use Rattle.sc_table.proofs.PuttingOptions.{said-all, said-put, said_at}
use Rattle.sc_table.proofs.StartOptions.{options-named, seen_list-Extends}
use Rattle.sc_table.proofs.start.option_macros.Goals as goal

pub loop-option-preserved : goal.loop-option-preserved
loop-option-preserved c =
    let was = c.loop-option.invariant in
    let before = c.loop-option.names in
    let names = c.option_macro.new.names in
    let grows = c.in_ok-definition.ensures.grows in
    let o = c.in_ok-definition.definition in
    let old = c.loop-option.definitions.items in
    let new = c.put_definition.new.definitions.items in
    let places = c.loop-option.places.items in
    let place = c.in_ok-put_definition.field-0 in
    let puts = c.in_ok-put_definition.ensures in
    let held = all_options-Extends grows old was.held in
    let own = c.in_ok-definition.ensures.held in
    let one = c.one_to_one.ensures in
    let options = c.args.options.now in
    let i = c.loop-option.option-index in
    let x = c.option-item.result in
    let earlier = map seen_option (take i options) in
    let said = said_at names new in
    record {
      grows = Extends-trans was.grows grows;
      held = puts.held names held own;
      differ = puts.differ names one held own (subst IsOneToOne (sym (seen_list-Extends grows old was.held)) was.differ);
      within =
          subst (All (λ (p : ℕ). p < length new)) (sym c.in_ok-push.ensures.items)
          (All-push (λ (p : ℕ). p < length new) places place (All-weaker (λ (p : ℕ). p < length old) (λ (p : ℕ). p < length new) (λ p h. omega (arith, h, puts.longer)) places was.within) puts.within);
      seen =
          ap (map said) c.in_ok-push.ensures.items
          ∙ (map-append said places (place ∷ [])
          ∙ (ap (λ (ds : List (Option model.Definition)). ds ++ said place ∷ []) (said-all before names old new places grows was.held puts.kept was.within ∙ was.seen)
          ∙ (ap (λ (d : Option model.Definition). map definition_of earlier ++ d ∷ []) (said-put names new place o (puts.at names one held own) ∙ (c.in_ok-definition.ensures.seen ∙ ap (λ (y : VariableOption). definition_of (seen_option y)) c.option-item.is))
          ∙ sym (ap (λ (os : List VariableOption). map definition_of (map seen_option os)) (take_more options i x c.loop-option-test.true)
          ∙ (ap (map definition_of) (map-append seen_option (take i options) (get_or options i x ∷ [])) ∙ map-append definition_of earlier (seen_option (get_or options i x) ∷ []))))));
    }

pub returns-clause-named : goal.returns-clause-named
returns-clause-named c = options-named c.loop-option.names c.loop-option.definitions.items c.loop-option.invariant.held c.loop-option.invariant.differ
