use Rattle.std.proofs.Common.{◌==◌, ap, ◌∙◌, length}
use Rattle.indexmap.specs.IndexSet.{insert_key}
use Rattle.sc_base.specs.declared.id.Cond.{Cond}
use Rattle.sc_show.proofs.PrinterSteps.{IsTable-first, Prints-nothing, never_always, two_keys}
use Rattle.sc_show.proofs.printer.Printer.new.Goals as goal

pub returns : goal.returns
returns g c =
    let other = never_always c.never.result c.always.result c.has_options.ensures c.never.ensures.meaning c.always.ensures.meaning in
    let first = c.in_ok-insert.ensures.keys ∙ ap (λ ks. insert_key (λ (a b : Cond). a.0 == b.0) ks c.never.result) c.new-conditions.ensures.empty in
    let keys = two_keys c.never.result c.always.result _ _ other first c.in_ok-insert-2.ensures.keys in
    record {
      table = IsTable-first c.never.result c.always.result c.never.ensures.meaning c.always.ensures.meaning keys;
      conditions = ap length keys;
      files = c.new-2.ensures.empty;
      trees = c.new-3.ensures.empty;
      text = c.new.ensures.items;
      prints = λ space files. Prints-nothing c.never.result c.always.result c.never.ensures.meaning c.always.ensures.meaning keys c.new-2.ensures.empty;
    }
