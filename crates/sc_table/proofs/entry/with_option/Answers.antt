use Rattle.std.proofs.Common.{◌∙◌, ◌==◌, ◌&&◌, ◌||◌, ap, sym}
use Rattle.std.specs.Prelude.{slice_index}
use Rattle.sc_model.proofs.SetLemmas.{Denotes-Keeps}
use Rattle.sc_table.proofs.entry.with_option.Goals as goal

pub returns-clause-meaning : goal.returns-clause-meaning
returns-clause-meaning g c = λ f told.
    let made = c.in_ok-more.ensures.meaning _ f c.in_ok-chosen.ensures.meaning (Denotes-Keeps c.choose.ensures.keeps told) in
    record {
      own = made.own;
      at = λ x listed. made.at x listed ∙ ap (λ b. b && (slice_index x c.args.variable == c.args.option) || f x) (sym c.if-not-is_taken.false);
    }
