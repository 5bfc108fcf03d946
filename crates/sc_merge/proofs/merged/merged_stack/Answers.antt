use Rattle.std.proofs.Common.{length, ap, sym, ◌∙◌}
use Rattle.std.proofs.lemmas.List.{length-map, length-reverse}
use Rattle.sc_merge.proofs.ValueLemmas.{own-reversed, silent-reversed, values-back, values-length}
use Rattle.sc_stack.specs.Entries.{values_of}
use Rattle.sc_merge.proofs.merged.merged_stack.Goals as goal

pub merged_values-requires : goal.merged_values-requires
merged_values-requires c = rw (c.deref.ensures.value, c.deref-2.ensures.value, c.in_ok-left_values.ensures, c.in_ok-right_values.ensures) (record {
  left_own = own-reversed (values_of c.args.left.now) c.requires.left_own;
  right_own = own-reversed (values_of c.args.right.now) c.requires.right_own;
  silent = silent-reversed (values_of c.args.left.now) (values_of c.args.right.now) c.requires.silent;
})

pub merge_values-requires : goal.merge_values-requires
merge_values-requires c =
    ap length c.deref-3.ensures.value
    ∙ values-length c.in_ok-values.ensures.left
    ∙ ap length (c.deref.ensures.value ∙ c.in_ok-left_values.ensures)
    ∙ length-reverse (values_of c.args.left.now)
    ∙ length-map c.args.left.now _
    ∙ sym (ap length c.in_ok-stack.ensures)

pub returns-clause-own : goal.returns-clause-own
returns-clause-own c = rw (c.in_ok-merge_values.ensures.values, c.deref-3.ensures.value) (own-reversed c.in_ok-values.values.items c.in_ok-values.ensures.own)

pub returns-clause-left : goal.returns-clause-left
returns-clause-left c =
    rw (c.in_ok-merge_values.ensures.values, c.deref-3.ensures.value) (values-back (c.deref.ensures.value ∙ c.in_ok-left_values.ensures) c.in_ok-values.ensures.left)

pub returns-clause-right : goal.returns-clause-right
returns-clause-right c =
    rw (c.in_ok-merge_values.ensures.values, c.deref-3.ensures.value) (values-back (c.deref-2.ensures.value ∙ c.in_ok-right_values.ensures) c.in_ok-values.ensures.right)
