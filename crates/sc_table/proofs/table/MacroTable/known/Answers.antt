use Rattle.std.proofs.Common.{◌∙◌, refl, sym, ap, Some}
use Rattle.std.specs.Option.{option_copied}
use Rattle.sc_table.proofs.TableLemmas.{known_cond}
use Rattle.sc_table.proofs.table.MacroTable.known.Goals as goal

pub returns-in-Some-Parts : goal.returns-in-Some-Parts
returns-in-Some-Parts c = λ names s one is own.
    known_cond s names one c.args.name own _ (λ k. refl) c.args.self.now is c.in-Some-Parts.field-0-0 c.in-Some-Parts.defined
    (sym c.get.ensures.value ∙ ap option_copied c.in-Some-Parts.is ∙ ap Some c.in-Some-Parts.field-0-is)
