use Rattle.std.proofs.Common.{◌≡◌, ◌∙◌, ◌+◌, ◌<◌, ◌∷◌, [], map, drop, length, sym, ap, subst, refl, not, get_or, Some, None, List, ℕ, ◌≤◌, length-drop, arith, take, ◌-◌, if◌then◌else◌}
use Rattle.std.specs.List.{list_any}
use Rattle.std.proofs.lemmas.List.{drop-drop, take_rest}
use Rattle.std.proofs.lemmas.Bool.{and_parts}
use Rattle.sc_model.specs.Bytes.{same_bytes}
use Rattle.sc_macro.specs.declared.head.Turn.TheVariants.{More, Last, Named}
use Rattle.c11_macros.specs.Defines as model
use Rattle.c11_macros.specs.Macros.{function_like}
use Rattle.sc_base.specs.declared.token.Token as declared
use Rattle.sc_base.specs.Seen.{seen}
use Rattle.sc_macro.specs.Seen.{IsHeldForm, text_of, texts_of, seen_form}
use Rattle.sc_macro.specs.declared.form.Form.TheVariants.{Function}
use Rattle.sc_model.specs.declared.standard.Standard.{Standard}
use Rattle.sc_macro.proofs.Turns.{by_turn, own_name, no_token, turned, parameter_there, added, texts-push, AreHeld-push, told}
use Rattle.sc_macro.proofs.head.listed_parameters.Goals as goal

pub loop-at-preserved : goal.loop-at-preserved
loop-at-preserved c =
    let names = c.args.names.now in
    let line = c.args.line.now in
    let at = c.loop-at.at in
    let inv = c.loop-at.invariant in
    let before = c.loop-at.parameters.keys in
    let turn = sym c.next_turn-turn.ensures ∙ c.in-More.is in
    let here : at < length line = omega (arith, c.loop-at-test.true) in
    let word = get_or line at no_token in
    let own = (c.requires at no_token here).spelling in
    let new = c.insert.new.self.keys in
    let is = parameter_there c.args.standard (texts_of names before) (seen names [] word) (seen names [] (get_or line (at + 1) no_token)) More refl turn in
    let fresh = (and_parts _ (not (list_any (same_bytes (text_of names word.spelling)) (texts_of names before))) is).1 in
    let keys = added names c.one_to_one.ensures before new inv.own word.spelling own fresh c.in_ok-insert-in-More.ensures.keys in
    record {
      left = ap (λ ts. model.parameters_after c.args.standard ts (map (seen names []) (drop (at + 2) line))) (texts-push names before new word.spelling keys)
          ∙ (sym (turned c.args.standard names (texts_of names before) line at no_token no_token c.loop-at-test.true ∙ ap (by_turn _ _ _ _ _) turn) ∙ inv.left);
      within = omega (arith, c.loop-at-test.true);
      own = AreHeld-push names before new word.spelling keys inv.own own;
    }

pub returns-in-Last : goal.returns-in-Last
returns-in-Last c =
    let names = c.args.names.now in
    let line = c.args.line.now in
    let at = c.loop-at.at in
    let inv = c.loop-at.invariant in
    let before = c.loop-at.parameters.keys in
    let turn = sym c.next_turn-turn.ensures ∙ c.in-Last.is in
    let here : at < length line = omega (arith, c.loop-at-test.true) in
    let word = get_or line at no_token in
    let own = (c.requires at no_token here).spelling in
    let new = c.insert-in-Last.new.self.keys in
    let is = parameter_there c.args.standard (texts_of names before) (seen names [] word) (seen names [] (get_or line (at + 1) no_token)) Last refl turn in
    let fresh = (and_parts _ (not (list_any (same_bytes (text_of names word.spelling)) (texts_of names before))) is).1 in
    let keys = added names c.one_to_one.ensures before new inv.own word.spelling own fresh c.in_ok-insert-in-Last.ensures.keys in
    record {
      is = sym inv.left ∙ (turned c.args.standard names (texts_of names before) line at no_token no_token c.loop-at-test.true ∙ (ap (by_turn _ _ _ _ _) turn
          ∙ told names line c.function_like.result _ (at + 2) (ap (seen_form names) c.function_like.ensures.form ∙ ap (λ ts. function_like ts None) (texts-push names before new word.spelling keys)) c.function_like.ensures.length));
      behind = omega (arith, c.function_like.ensures.length);
      within = omega (arith, c.loop-at-test.true, c.function_like.ensures.length);
      held = subst (IsHeldForm names) (sym c.function_like.ensures.form) (AreHeld-push names before new word.spelling keys inv.own own, tt);
    }

pub returns-in-Dots : goal.returns-in-Dots
returns-in-Dots c =
    let names = c.args.names.now in
    let line = c.args.line.now in
    let at = c.loop-at.at in
    let inv = c.loop-at.invariant in
    let turn = sym c.next_turn-turn.ensures ∙ c.in-Dots.is in
    let is = c.function_like-in-Dots.ensures.form ∙ ap (λ r. Function c.loop-at.parameters (Some r)) c.rest-rest.ensures in
    record {
      is = sym inv.left ∙ (turned c.args.standard names _ line at _ _ c.loop-at-test.true ∙ (ap (by_turn _ _ _ _ _) turn
          ∙ told names line c.function_like-in-Dots.result _ (at + 2) (ap (seen_form names) is) c.function_like-in-Dots.ensures.length));
      behind = omega (arith, c.function_like-in-Dots.ensures.length);
      within = omega (arith, c.loop-at-test.true, c.function_like-in-Dots.ensures.length);
      held = subst (IsHeldForm names) (sym is) (inv.own, tt);
    }

-- the rest that is named
pub returns-in-Named : goal.returns-in-Named
returns-in-Named c =
    let names = c.args.names.now in
    let line = c.args.line.now in
    let at = c.loop-at.at in
    let inv = c.loop-at.invariant in
    let before = texts_of names c.loop-at.parameters.keys in
    let turn = sym c.next_turn-turn.ensures ∙ c.in-Named.is in
    let here : at < length line = omega (arith, c.loop-at-test.true) in
    let word = get_or line at no_token in
    let is_word = parameter_there c.args.standard before (seen names [] word) (seen names [] (get_or line (at + 1) no_token)) Named refl turn in
    let is = c.function_like-in-Named.ensures.form ∙ ap (λ r. Function c.loop-at.parameters (Some r)) c.rest-rest-in-Named.ensures in
    let form = function_like before (model.rest_named c.args.standard (text_of names word.spelling)) in
    let left = c.closes.ensures.some c.if-closes.true in
    let size = ap length (take_rest line (at + 2)) ∙ length-drop (at + 2) line in
    record {
      is = sym inv.left ∙ (turned c.args.standard names before line at no_token no_token c.loop-at-test.true ∙ (ap (by_turn _ _ _ _ _) turn
          ∙ (ap (λ ts. model.closed form (map (seen names []) ts)) (sym (take_rest line (at + 2))) ∙ (c.closes.ensures.is form
          ∙ (ap (λ b. if b then Some (record { form = form; rest = map (seen names []) (drop 1 (take (length line - (at + 2)) (drop (at + 2) line))) }) else None) c.if-closes.true
          ∙ (ap (λ ts. Some (record { form = form; rest = map (seen names []) ts })) (ap (drop 1) (take_rest line (at + 2)) ∙ drop-drop 1 (at + 2) line)
          ∙ told names line c.function_like-in-Named.result form (at + 2 + 1) (ap (seen_form names) is) c.function_like-in-Named.ensures.length))))));
      behind = omega (arith, c.function_like-in-Named.ensures.length);
      within = omega (arith, c.loop-at-test.true, c.function_like-in-Named.ensures.length, left, size);
      held = subst (IsHeldForm names) (sym is) (inv.own, ((c.requires at no_token here).spelling, own_name names before word is_word));
    }

pub returns-in-Named-2 : goal.returns-in-Named-2
returns-in-Named-2 c =
    let names = c.args.names.now in
    let line = c.args.line.now in
    let at = c.loop-at.at in
    let before = texts_of names c.loop-at.parameters.keys in
    let form = function_like before (model.rest_named c.args.standard (text_of names (get_or line at no_token).spelling)) in
    sym c.loop-at.invariant.left ∙ (turned c.args.standard names before line at no_token no_token c.loop-at-test.true ∙ (ap (by_turn _ _ _ _ _) (sym c.next_turn-turn.ensures ∙ c.in-Named.is)
    ∙ (ap (λ ts. model.closed form (map (seen names []) ts)) (sym (take_rest line (at + 2))) ∙ (c.closes.ensures.is form
    ∙ ap (λ b. if b then Some (record { form = form; rest = map (seen names []) (drop 1 (take (length line - (at + 2)) (drop (at + 2) line))) }) else None) c.if-closes.false))))

pub returns-in-Wrong : goal.returns-in-Wrong
returns-in-Wrong c =
    sym c.loop-at.invariant.left ∙ (turned c.args.standard c.args.names.now _ c.args.line.now c.loop-at.at _ _ c.loop-at-test.true ∙ ap (by_turn _ _ _ _ _) (sym c.next_turn-turn.ensures ∙ c.in-Wrong.is))

-- one token is left at most
too_few : (standard : Standard) (names before : List (List ℕ)) (rest : List declared.Token) → length rest ≤ 1 → model.parameters_after standard before (map (seen names []) rest) ≡ None
too_few standard names before [] h = refl
too_few standard names before (t ∷ []) h = refl
too_few standard names before (t ∷ (u ∷ ts)) h = absurd (omega arith)

pub returns : goal.returns
returns c =
    sym c.loop-at.invariant.left ∙ too_few c.args.standard c.args.names.now (texts_of c.args.names.now c.loop-at.parameters.keys) (drop c.loop-at.at c.args.line.now)
    (omega (arith, length-drop c.loop-at.at c.args.line.now, c.loop-at-test.false))
