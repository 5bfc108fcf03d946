use Rattle.std.proofs.Common.{◌≡◌, ◌+◌, length, vec_len, ◌∙◌, arith}
use Rattle.std.specs.Prelude.{slice_index}
use Rattle.std.proofs.lemmas.List.{get_or_default}
use Rattle.sc_diagram.specs.Chains.{links}
use Rattle.sc_diagram.proofs.ChainLemmas.{AreLinked-push}
use Rattle.sc_diagram.proofs.chains.link.Goals as goal

pub returns-clause-linked : goal.returns-clause-linked
returns-clause-linked c = λ hashes long are.
    let one : c.in-Some.link ≡ length hashes + 1 = omega (arith, c.in-Ok.ensures, c.in-Some.ensures, long) in
    let read : c.index.result.now ≡ slice_index c.args.newest.now.items c.slot_in-slot.result = c.index.ensures ∙ get_or_default c.args.newest.now.items c.slot_in-slot.result _ _ (omega (arith, c.slot_in-slot.ensures.within, c.len.ensures)) in
    let len : vec_len c.args.newest.now ≡ length c.args.newest.now.items = c.args.newest.now.ok.0 in
    rw (c.in_ok-push.ensures.items, one, read, c.slot_in-slot.ensures.slot, c.len.ensures, len) (AreLinked-push (links hashes c.args.older.now.items c.args.newest.now.items) c.args.hash c.requires are)
