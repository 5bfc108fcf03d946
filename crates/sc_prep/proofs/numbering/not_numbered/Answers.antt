use Rattle.std.proofs.Common.{◌≡◌, ◌≤◌, not, Bool, true, false, List, [], length, map, take, ap, arith, sym, subst}
use Rattle.sc_prep.proofs.Facts.{Denotes-Keeps, Denotes-self, Keeps-trans, take_all}
use Rattle.sc_prep.proofs.NumberMoves.{none-passes, one-passes, tested}
use Rattle.sc_prep.proofs.Terms.{Denotes, IsCond, Token, is_numbering, list_any, seen}
use Rattle.sc_prep.specs.Alternatives.{tokens_in}
use Rattle.sc_prep.specs.declared.alternatives.Alternative.{Alternative}
use Rattle.sc_prep.proofs.numbering.not_numbered.Goals as goal

pub apply_or-requires-clause-a_own : goal.apply_or-requires-clause-a_own
apply_or-requires-clause-a_own g c = (c.loop-alternative.invariant.meaning []).own

pub loop-alternative-preserved-then-is_numbering : goal.loop-alternative-preserved-then-is_numbering
loop-alternative-preserved-then-is_numbering g c =
    let names = c.args.names.now in
    let a = c.alternative-item.result in
    record {
      meaning = λ files.
          let numbering : is_numbering (map (seen names files) a.tokens.items) ≡ true = tested names files c.deref.ensures.value (c.is_numbering.ensures files) c.if-is_numbering.true in
          none-passes (λ ts. not (is_numbering (map (seen names files) ts))) (g.C.Conditions.sets c.args.conds.now) c.args.alternatives.now c.loop-alternative.alternative-index a
          c.loop-alternative-test.true c.alternative-item.is (ap not numbering) (c.loop-alternative.invariant.meaning files);
      keeps = c.loop-alternative.invariant.keeps;
    }

pub loop-alternative-preserved : goal.loop-alternative-preserved
loop-alternative-preserved g c =
    let old = g.C.Conditions.sets c.args.conds.now in
    let names = c.args.names.now in
    let alternatives = c.args.alternatives.now in
    let i = c.loop-alternative.alternative-index in
    let a = c.alternative-item.result in
    let was = c.loop-alternative.invariant in
    let own : IsCond old a.cond.0 = subst (λ (x : Alternative). IsCond old x.cond.0) (sym c.alternative-item.is) (c.requires.own i a c.loop-alternative-test.true) in
    record {
      meaning = λ files.
          let test : List Token → Bool = λ ts. not (is_numbering (map (seen names files) ts)) in
          let other : is_numbering (map (seen names files) a.tokens.items) ≡ false = tested names files c.deref.ensures.value (c.is_numbering.ensures files) c.if-is_numbering.false in
          one-passes test old alternatives i a c.loop-alternative-test.true c.alternative-item.is (ap not other)
          (c.in_ok-others.ensures.meaning (λ config. list_any test (tokens_in old (take i alternatives) config)) (old.has a.cond.0) (was.meaning files) (Denotes-Keeps was.keeps (Denotes-self old a.cond.0 own)));
      keeps = Keeps-trans was.keeps c.in_ok-others.ensures.keeps;
    }

pub returns-clause-meaning : goal.returns-clause-meaning
returns-clause-meaning g c = λ files.
    let old = g.C.Conditions.sets c.args.conds.now in
    let test : List Token → Bool = λ ts. not (is_numbering (map (seen c.args.names.now files) ts)) in
    let end : length c.args.alternatives.now ≤ c.loop-alternative.alternative-index = omega arith in
    subst (λ xs. Denotes (g.C.Conditions.sets c.loop-alternative.conds) c.loop-alternative.others.0 (λ config. list_any test (tokens_in old xs config))) (take_all c.loop-alternative.alternative-index c.args.alternatives.now end)
    (c.loop-alternative.invariant.meaning files)
