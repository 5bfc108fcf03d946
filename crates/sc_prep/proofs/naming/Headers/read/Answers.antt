use Rattle.std.proofs.Common.{◌≡◌, All, sym, subst, true}
use Rattle.sc_prep.proofs.Facts.{All-nil, Keeps-refl, Keeps-trans}
use Rattle.sc_prep.proofs.HeaderLemmas.{IsPlainName, none-named, one-named}
use Rattle.sc_prep.proofs.Terms.{ArePlainNames, IsCond, IsHeld, Token, is_plain}
use Rattle.sc_prep.specs.declared.alternatives.Alternative.{Alternative}
use Rattle.sc_prep.proofs.naming.Headers.read.Goals as goal

pub loop-alternative-init : goal.loop-alternative-init
loop-alternative-init g c =
    let old = g.C.Conditions.sets c.args.conds.now in
    record {
      keeps = Keeps-refl old;
      headers = none-named old c.args.names.now (record { named = c.new.result; unnamed = c.never.result }) c.new.ensures.items c.never.ensures.meaning;
      plain = λ all. subst ArePlainNames (sym c.new.ensures.items) (All-nil IsPlainName);
    }

pub loop-alternative-preserved : goal.loop-alternative-preserved
loop-alternative-preserved g c =
    let old = g.C.Conditions.sets c.args.conds.now in
    let was = c.loop-alternative.invariant in
    let i = c.loop-alternative.alternative-index in
    let a = c.alternative-item.result in
    let within = c.loop-alternative-test.true in
    let own = subst (λ (x : Alternative). IsCond old x.cond.0) (sym c.alternative-item.is) (c.requires.own i a within) in
    record {
      keeps = Keeps-trans was.keeps c.add.ensures.keeps;
      headers = one-named c.args.names.now c.args.alternatives.now i a c.loop-alternative.headers c.add.new.self was.keeps within c.alternative-item.is own was.headers c.in_ok-add.ensures.adds;
      plain = λ all. c.in_ok-add.ensures.plain (subst (λ (x : Alternative). All (λ (t : Token). is_plain c.args.names.now t ≡ true) x.tokens.items) (sym c.alternative-item.is) (all i a within)) (was.plain all);
    }

pub add-requires-clause-own : goal.add-requires-clause-own
add-requires-clause-own g c =
    let old = g.C.Conditions.sets c.args.conds.now in
    let own = subst (λ (x : Alternative). IsCond old x.cond.0) (sym c.alternative-item.is) (c.requires.own c.loop-alternative.alternative-index c.alternative-item.result c.loop-alternative-test.true) in
    c.loop-alternative.invariant.keeps.own _ own

pub add-requires-clause-held : goal.add-requires-clause-held
add-requires-clause-held g c =
    let P : Alternative → Type 0 = λ x. All (IsHeld c.args.names.now) x.tokens.items in
    subst P (sym c.alternative-item.is) (c.requires.held c.loop-alternative.alternative-index c.alternative-item.result c.loop-alternative-test.true)

pub returns-in_err-add-clause-keeps : goal.returns-in_err-add-clause-keeps
returns-in_err-add-clause-keeps g c = Keeps-trans c.loop-alternative.invariant.keeps c.add.ensures.keeps
