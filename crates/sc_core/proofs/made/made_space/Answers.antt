use Rattle.std.proofs.Common.{◌≡◌, ◌∙◌, [], None, ap, arith, map, string_bytes, take_all}
use Rattle.sc_core.specs.Made.{made_variable}
use Rattle.sc_core.proofs.made.made_space.Goals as goal
use Rattle.sc_model.specs.declared.standard.Standard.TheVariants.{C11}

pub returns : goal.returns
returns c =
    let variables = c.loop-name.invariant ∙ ap (map (λ name. made_variable name.now)) (take_all c.loop-name.name-index _ (omega (arith, c.loop-name-test.false))) in
    let include : map string_bytes c.new.result.items ≡ [] = ap (map string_bytes) c.new.ensures.items in
    let date = c.in_ok-from_str.ensures.ok in
    let time = c.in_ok-from_str-2.ensures.ok in
    λ i. record { variables = variables i; include = include i; branches = 4096; include_depth = 64; date = date i; time = time i; standard = C11; valid = None }
