use Rattle.std.proofs.Common.{◌∙◌, ◌-◌, length, drop, take, map, get_or, sym, ap, subst, true, false, [], refl}
use Rattle.std.proofs.lemmas.List.{take_rest}
use Rattle.std.proofs.lemmas.Option.{same_Some}
use Rattle.std.specs.Prelude.{All}
use Rattle.c11_macros.specs.Defines as model
use Rattle.sc_base.specs.Seen.{seen}
use Rattle.sc_macro.specs.Head.{Heads}
use Rattle.sc_macro.specs.Seen.{IsHeldItem, text_of, seen_form, seen_item}
use Rattle.sc_macro.proofs.Reading.{no_form, held_list, outcome_is}
use Rattle.sc_macro.proofs.Texts.{held_at}
use Rattle.sc_macro.proofs.Turns.{no_token}
use Rattle.sc_macro.proofs.define.read_define.Goals as goal

pub returns-in_default-clause-err : goal.returns-in_default-clause-err
returns-in_default-clause-err c =
    no_form c.args.standard c.args.names.now c.args.line.now _ c.if-line-lt3.false (sym c.is_identifier.ensures ∙ c.if-not-is_identifier.false) (take_rest c.args.line.now 3)
    (subst (λ h. Heads c.args.names.now (take (length c.args.line.now - 3) (drop 3 c.args.line.now)) 0 h (model.head_of c.args.standard (map (seen c.args.names.now []) (take (length c.args.line.now - 3) (drop 3 c.args.line.now))))) c.in_default.is c.in_ok-head.ensures)

pub fits-requires-clause-list : goal.fits-requires-clause-list
fits-requires-clause-list c =
    let names = c.args.names.now in
    let line = c.args.line.now in
    let rest = take (length line - 3) (drop 3 line) in
    let is_name = sym c.is_identifier.ensures ∙ c.if-not-is_identifier.false in
    let told = subst (λ h. Heads names rest 0 h (model.head_of c.args.standard (map (seen names []) rest))) c.in-Some.is c.in_ok-head.ensures in
    subst (All (IsHeldItem names)) (sym c.deref.ensures.value)
    (held_list c.args.standard names line rest c.if-line-lt3.false is_name (take_rest line 3) c.in-Some.head told c.in_ok-list.list.items c.in_ok-list.ensures c.requires)

pub returns-then-not-fits-clause-err : goal.returns-then-not-fits-clause-err
returns-then-not-fits-clause-err c =
    let names = c.args.names.now in
    let line = c.args.line.now in
    let rest = take (length line - 3) (drop 3 line) in
    let is_name = sym c.is_identifier.ensures ∙ c.if-not-is_identifier.false in
    let told = subst (λ h. Heads names rest 0 h (model.head_of c.args.standard (map (seen names []) rest))) c.in-Some.is c.in_ok-head.ensures in
    let fits = c.fits.ensures ∙ ap (λ is. model.fits (seen_form names c.in-Some.head.form) (map (seen_item names) is)) c.deref.ensures.value in
    outcome_is c.args.standard names line rest c.if-line-lt3.false is_name (take_rest line 3) c.in-Some.head told c.in_ok-list.list.items c.in_ok-list.ensures
    false (model.is_protected (text_of names (get_or line 2 no_token).spelling)) (sym c.if-not-fits.true ∙ fits) refl

pub returns-then-is_protected-clause-err : goal.returns-then-is_protected-clause-err
returns-then-is_protected-clause-err c =
    let names = c.args.names.now in
    let line = c.args.line.now in
    let rest = take (length line - 3) (drop 3 line) in
    let is_name = sym c.is_identifier.ensures ∙ c.if-not-is_identifier.false in
    let told = subst (λ h. Heads names rest 0 h (model.head_of c.args.standard (map (seen names []) rest))) c.in-Some.is c.in_ok-head.ensures in
    let fits = c.fits.ensures ∙ ap (λ is. model.fits (seen_form names c.in-Some.head.form) (map (seen_item names) is)) c.deref.ensures.value in
    let guards = c.is_protected.ensures ∙ ap model.is_protected (same_Some _ _ (sym c.text.ensures ∙ held_at names (get_or line 2 no_token).spelling.0 (c.requires 2 no_token c.if-line-lt3.false).spelling)) in
    outcome_is c.args.standard names line rest c.if-line-lt3.false is_name (take_rest line 3) c.in-Some.head told c.in_ok-list.list.items c.in_ok-list.ensures
    true true (sym c.if-not-fits.false ∙ fits) (sym c.if-is_protected.true ∙ guards)

pub returns-clause-ok : goal.returns-clause-ok
returns-clause-ok c =
    let names = c.args.names.now in
    let line = c.args.line.now in
    let rest = take (length line - 3) (drop 3 line) in
    let is_name = sym c.is_identifier.ensures ∙ c.if-not-is_identifier.false in
    let told = subst (λ h. Heads names rest 0 h (model.head_of c.args.standard (map (seen names []) rest))) c.in-Some.is c.in_ok-head.ensures in
    let fits = c.fits.ensures ∙ ap (λ is. model.fits (seen_form names c.in-Some.head.form) (map (seen_item names) is)) c.deref.ensures.value in
    let guards = c.is_protected.ensures ∙ ap model.is_protected (same_Some _ _ (sym c.text.ensures ∙ held_at names (get_or line 2 no_token).spelling.0 (c.requires 2 no_token c.if-line-lt3.false).spelling)) in
    outcome_is c.args.standard names line rest c.if-line-lt3.false is_name (take_rest line 3) c.in-Some.head told c.in_ok-list.list.items c.in_ok-list.ensures
    true false (sym c.if-not-fits.false ∙ fits) (sym c.if-is_protected.false ∙ guards)

pub returns-clause-own : goal.returns-clause-own
returns-clause-own c =
    let names = c.args.names.now in
    let line = c.args.line.now in
    let rest = take (length line - 3) (drop 3 line) in
    let is_name = sym c.is_identifier.ensures ∙ c.if-not-is_identifier.false in
    let told = subst (λ h. Heads names rest 0 h (model.head_of c.args.standard (map (seen names []) rest))) c.in-Some.is c.in_ok-head.ensures in
    record {
      name = (c.requires 2 no_token c.if-line-lt3.false).spelling;
      form = told.held;
      replacement = held_list c.args.standard names line rest c.if-line-lt3.false is_name (take_rest line 3) c.in-Some.head told c.in_ok-list.list.items c.in_ok-list.ensures c.requires;
    }
