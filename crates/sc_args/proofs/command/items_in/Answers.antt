use Rattle.std.proofs.Common.{rules, ap, sym, subst, ℕ, Option, None, Some, if◌then◌else◌}
use Rattle.std.specs.Str.Parse.{digits_value, ParsesUnsigned}
use Rattle.sc_args.proofs.Counts.{no-count}
use Rattle.sc_args.proofs.command.items_in.Goals as goal

pub returns-in_default-2 : goal.returns-in_default-2
returns-in_default-2 c =
    let word = c.args.word.now in
    let parsed = subst (ParsesUnsigned 32 10 word) c.in_default.is c.parse.ensures.value.0 in
    sym (ap (λ b. if◌then◌else◌ {A = Option ℕ} b (Some (digits_value 10 word)) None) (no-count word c.in_default.field-0 (search rules) parsed))
