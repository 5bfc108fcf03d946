use Rattle.std.proofs.Common.{◌∙◌, ◌++◌, map, sym, ap, subst}
use Rattle.std.specs.Prelude.{All}
use Rattle.std.proofs.lemmas.List.{append-nil}
use Rattle.std.proofs.lemmas.List.Elements.{All-push}
use Rattle.c11_macros.specs.Substitution.{argument, pieces_of, with_space}
use Rattle.sc_subst.specs.declared.part.Part.TheVariants as part
use Rattle.sc_subst.specs.Parts.{IsHeldPart, filled_in, seen_part}
use Rattle.sc_subst.proofs.Gluing.{begins_pieces, filled_push, placed}
use Rattle.sc_subst.proofs.glue.place.Goals as goal

pub returns-clause-is : goal.returns-clause-is
returns-clause-is c = λ n s head xs ps apart none.
    c.in_ok-settle.ensures.apart n s head xs (pieces_of (with_space c.args.space (argument xs c.args.parameter)) ++ ps) apart (begins_pieces (with_space c.args.space (argument xs c.args.parameter)) ps none)
    ∙ placed n s head xs c.settle.new.parts.items c.push.new.self.items (with_space c.args.space (argument xs c.args.parameter)) ps none
    (ap (λ ps. filled_in xs (map (seen_part n s) ps)) c.in_ok-push.ensures.items
    ∙ (filled_push n s xs c.settle.new.parts.items (part.Argument c.args.parameter c.args.space)
    ∙ ap (λ ts. filled_in xs (map (seen_part n s) c.settle.new.parts.items) ++ ts) (append-nil (with_space c.args.space (argument xs c.args.parameter)))))

pub returns-clause-own : goal.returns-clause-own
returns-clause-own c = λ n s parts left.
    subst (All (IsHeldPart n s)) (sym c.in_ok-push.ensures.items) (All-push (IsHeldPart n s) c.settle.new.parts.items (part.Argument c.args.parameter c.args.space) (c.in_ok-settle.ensures.own n s parts left) tt)
