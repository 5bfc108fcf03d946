use Rattle.std.proofs.Common.{◌≡◌, map, Ok, Err, sym, ap, subst}
use Rattle.c11_macros.specs.Hidden as model
use Rattle.c11_macros.specs.Hidden.{failure_at}
use Rattle.c11_macros.specs.Substitution.{filled_by, stringized}
use Rattle.sc_base.specs.declared.place.Place.{Place}
use Rattle.sc_subst.specs.Seen.{Lasting, seen_hidden}
use Rattle.sc_subst.proofs.Turns.{literal_is, on_fault}
use Rattle.sc_subst.proofs.slots.slot_from.Goals as goal

pub returns-in-Token-clause-ok : goal.returns-in-Token-clause-ok
returns-in-Token-clause-ok c =
    rw c.in-Token.is (record { at = λ n s en es head at. ap (λ t. Ok (filled_by t)) (sym ((c.own_token.ensures.is c.args.names.now).at n s en es head at)) })

pub returns-in-Comma-clause-ok : goal.returns-in-Comma-clause-ok
returns-in-Comma-clause-ok c =
    rw c.in-Comma.is (record { at = λ n s en es head at. ap (λ t. Ok (filled_by t)) (sym ((c.own_token-in-Comma.ensures.is c.args.names.now).at n s en es head at)) })

pub returns-in-Ok-clause-ok : goal.returns-in-Ok-clause-ok
returns-in-Ok-clause-ok c =
    rw c.in-Literal.is (literal_is c.in-Literal.parameter c.in-Literal.hash c.stringize.new.names c.args.sets.now c.args.raw.now c.args.place (λ n s head. Ok (seen_hidden n s c.in-Ok.literal))
    (subst (λ ts. Lasting c.stringize.new.names c.args.sets.now (λ n s. (head : model.Hidden Place) → head.place ≡ c.args.place → stringized head c.in-Literal.hash.space (map (seen_hidden n s) ts) ≡ Ok (seen_hidden n s c.in-Ok.literal)))
    c.argument.ensures c.in-Ok.ensures.ok))

pub returns-in-Err-clause-err : goal.returns-in-Err-clause-err
returns-in-Err-clause-err c =
    rw c.in-Literal.is (on_fault _ _ c.in-Err.stop
    (λ cause h. literal_is c.in-Literal.parameter c.in-Literal.hash c.stringize.new.names c.args.sets.now c.args.raw.now c.args.place (λ n s head. Err (failure_at cause head))
    (subst (λ ts. Lasting c.stringize.new.names c.args.sets.now (λ n s. (head : model.Hidden Place) → head.place ≡ c.args.place → stringized head c.in-Literal.hash.space (map (seen_hidden n s) ts) ≡ Err (failure_at cause head)))
    c.argument.ensures h)) c.in-Err.ensures.err)
