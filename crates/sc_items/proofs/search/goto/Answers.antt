use Rattle.std.proofs.Common.{◌≡◌, ◌<◌, length, vec_len, refl, arith}
use Rattle.std.proofs.lemmas.Bool.Decides.{nat_tests}
use Rattle.std.proofs.lemmas.List.{nil_from_length}
use Rattle.sc_items.specs.Found.{nothing, follows}
use Rattle.sc_items.proofs.search.goto.Goals as goal

pub returns-then-is_empty : goal.returns-then-is_empty
returns-then-is_empty c =
    let long : vec_len c.args.kernel ≡ length c.args.kernel.items = c.args.kernel.ok.0 in
    let empty = c.if-is_empty.ensures in
    let none : length c.args.kernel.items ≡ 0 = grind (arith, nat_tests) in
    nothing refl (nil_from_length c.args.kernel.items none)

pub returns : goal.returns
returns c =
    let long : vec_len c.args.kernel ≡ length c.args.kernel.items = c.args.kernel.ok.0 in
    let filled = c.if-is_empty.ensures in
    let some : 0 < length c.args.kernel.items = grind (arith, nat_tests) in
    follows c.in_ok-number.field-0 some c.in_ok-number.ensures
