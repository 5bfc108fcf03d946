use Rattle.std.proofs.Common.{◌∙◌, ap, sym, refl, Some, true, length}
use Rattle.c11_directives.specs.declared.directive.Directive.TheVariants as directive
use Rattle.sc_prep.proofs.Facts.{directive-files}
use Rattle.sc_prep.proofs.TakeLine.{decides-unasked}
use Rattle.sc_prep.proofs.Terms.{Else, Endif, any_token, conditional_in}
use Rattle.sc_prep.proofs.walk.Walk.conditional_line.Goals as goal

pub open_section-requires-clause-line : goal.open_section-requires-clause-line
open_section-requires-clause-line g c =
    ap conditional_in (directive-files c.args.standard c.args.names.now c.args.files.now c.args.line.now ∙ sym (ap (λ k. Some (directive.Conditional k)) (sym c.in-Opening.is) ∙ c.requires.directive))

pub continue_section-requires-clause-line : goal.continue_section-requires-clause-line
continue_section-requires-clause-line g c =
    ap conditional_in (directive-files c.args.standard c.args.names.now c.args.files.now c.args.line.now ∙ sym (ap (λ k. Some (directive.Conditional k)) (sym c.in-Alternative.is) ∙ c.requires.directive))

pub returns-in_ok-begin_branch-in-Else-clause-decides : goal.returns-in_ok-begin_branch-in-Else-clause-decides
returns-in_ok-begin_branch-in-Else-clause-decides g c = λ x.
    let begins = c.in_ok-begin_branch-in-Else.ensures in
    record {
      simulates = decides-unasked c.args.standard c.args.files.now c.args.line.now Else (ap (λ k. Some (directive.Conditional k)) (sym c.in-Else.is) ∙ c.requires.directive) (λ m. refl) c.requires.stored.table
          (begins.moved c.args.names.now (λ _. true) c.always-always.ensures.meaning) x;
      text = record {
        held = begins.printable c.args.names.now c.args.line.now (length c.args.files.now) any_token c.requires.placed c.requires.stored.held;
        list = begins.list;
        runs = begins.runs;
      };
    }

pub returns-in_ok-end_section-in-Endif-clause-decides : goal.returns-in_ok-end_section-in-Endif-clause-decides
returns-in_ok-end_section-in-Endif-clause-decides g c = λ x.
    let ends = c.in_ok-end_section-in-Endif.ensures in
    record {
      simulates = decides-unasked c.args.standard c.args.files.now c.args.line.now Endif (ap (λ k. Some (directive.Conditional k)) (sym c.in-Endif.is) ∙ c.requires.directive) (λ m. refl) c.requires.stored.table
          (ends.moved c.args.names.now) x;
      text = record {
        held = ends.printable c.args.names.now c.args.line.now (length c.args.files.now) any_token c.requires.placed c.requires.stored.held;
        list = ends.list;
        runs = ends.runs;
      };
    }
