use Rattle.std.proofs.Common.{◌∙◌, ◌+◌, ◌-◌, length, take, map, drop, sym, ap}
use Rattle.c11_macros.specs.Substitution.{filled}
use Rattle.std.proofs.Math.ListN.{drop_of_length-le}
use Rattle.sc_base.proofs.Growth.{Extends-trans}
use Rattle.sc_subst.specs.Glue.{tokens_behind}
use Rattle.sc_subst.specs.Parts.{seen_arguments, seen_slot}
use Rattle.sc_subst.proofs.Gluing.{arguments_later, from_at, tail_at}
use Rattle.sc_subst.proofs.Turns.{on_fault, slot_later}
use Rattle.sc_subst.proofs.glue.glue.Goals as goal

pub returns-in-Err-clause-err : goal.returns-in-Err-clause-err
returns-in-Err-clause-err c =
    on_fault _ _ c.in-Err.stop
    (λ cause h. record {
      at = λ n s en es head xs.
          c.loop-i.invariant.is.at n s (Extends-trans c.read.ensures.names en) (Extends-trans c.read.ensures.sets es) head xs
          ∙ (ap (λ ss. tokens_behind n s head xs c.loop-i.parts.items c.loop-i.left (filled (seen_arguments n s c.args.raw.now) xs c.loop-i.behind (map (seen_slot n s) ss))) (from_at c.args.slots.now c.loop-i.i _ c.loop-i-test.true)
          ∙ h.at n s en es head xs);
    }) c.in-Err.ensures.err

pub loop-i-preserved : goal.loop-i-preserved
loop-i-preserved c = record {
  names_grow = Extends-trans c.loop-i.invariant.names_grow c.read.ensures.names;
  sets_grow = Extends-trans c.loop-i.invariant.sets_grow c.read.ensures.sets;
  parts = c.in-Ok.ensures.parts;
  held = c.in-Ok.ensures.left;
  pasting = λ h. c.in-Ok.ensures.pasting (sym c.is_paste-behind.ensures ∙ h);
  is = record {
    at = λ n s en es head xs.
        c.loop-i.invariant.is.at n s (Extends-trans c.read.ensures.names en) (Extends-trans c.read.ensures.sets es) head xs
        ∙ (ap (λ ss. tokens_behind n s head xs c.loop-i.parts.items c.loop-i.left (filled (seen_arguments n s c.args.raw.now) xs c.loop-i.behind (map (seen_slot n s) ss))) (from_at c.args.slots.now c.loop-i.i _ c.loop-i-test.true)
        ∙ (c.in-Ok.ensures.ok.at n s en es head xs
        ∙ (ap (λ b. tokens_behind n s head xs c.read.new.parts.items c.in-Ok.next (filled (seen_arguments n s c.args.raw.now) xs b (map (seen_slot n s) (take (length c.args.slots.now - (c.loop-i.i + 1)) (drop (c.loop-i.i + 1) c.args.slots.now))))) (sym c.is_paste-behind.ensures)
        ∙ ap (λ ss. tokens_behind n s head xs c.read.new.parts.items c.in-Ok.next (filled (seen_arguments n s c.args.raw.now) xs c.is_paste-behind.result (map (seen_slot n s) ss))) (tail_at c.args.slots.now c.loop-i.i))));
  };
}

pub returns-clause-ok : goal.returns-clause-ok
returns-clause-ok c = record {
  at = λ n s en es head xs.
      c.loop-i.invariant.is.at n s en es head xs
      ∙ (ap (λ ss. tokens_behind n s head xs c.loop-i.parts.items c.loop-i.left (filled (seen_arguments n s c.args.raw.now) xs c.loop-i.behind (map (seen_slot n s) ss))) (drop_of_length-le c.args.slots.now c.loop-i-test.false)
      ∙ c.in_ok-settle.ensures.ends n s head xs);
}

pub read-requires : goal.read-requires
read-requires c = record {
  parts = c.loop-i.invariant.parts;
  left = c.loop-i.invariant.held;
  pasting = c.loop-i.invariant.pasting;
  slot = slot_later _ (c.requires.slots c.loop-i.i _ c.loop-i-test.true) c.loop-i.invariant.names_grow c.loop-i.invariant.sets_grow;
  raw = arguments_later c.args.raw.now c.requires.raw c.loop-i.invariant.names_grow c.loop-i.invariant.sets_grow;
}

pub returns-clause-own : goal.returns-clause-own
returns-clause-own c = c.in_ok-settle.ensures.own c.loop-i.names c.loop-i.sets c.loop-i.invariant.parts c.loop-i.invariant.held
