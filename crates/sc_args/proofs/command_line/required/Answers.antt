use Rattle.std.proofs.Common.{◌∙◌, ap, true}
use Rattle.clap.specs.Words.{Rule, rule_of}
use Rattle.clap.specs.declared.builder.arg.Arg.{Arg}
use Rattle.sc_args.proofs.command_line.required.Goals as goal

pub returns : goal.returns
returns c =
    let is_global = λ (a : Arg). a.global in
    let as_required = λ (rule : Rule). record rule { required = true } in
    let with_one_name = λ (rule : Rule). record rule { value_names = 1 } in
    record {
      rule = ap rule_of c.help.ensures ∙ ap rule_of c.value_name.ensures ∙ ap with_one_name (ap rule_of c.required.ensures ∙ ap as_required c.new.ensures.rule);
      local = ap is_global c.help.ensures ∙ ap is_global c.value_name.ensures ∙ ap is_global c.required.ensures ∙ c.new.ensures.optional.1;
    }
