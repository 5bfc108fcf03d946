use Rattle.sc_items.proofs.Numbering.{numbered}
use Rattle.sc_items.proofs.kernel.number.Goals as goal

pub returns : goal.returns
returns c =
    let keys = c.in_ok-number.ensures.keys in
    let index = c.in_ok-number.ensures.index in
    numbered c.args.kernel c.args.kernels.now.keys c.insert_full.new.self.keys c.in_ok-number.number keys index
