use Rattle.std.proofs.Common.{◌≡◌, ◌++◌, ◌∙◌, List, map, ap, sym, arith}
use Rattle.sc_expand.proofs.RestrictLemmas.{first_moved, items_of-empty, items_of-unrestricted}
use Rattle.sc_expand.proofs.Terms.{Cond, Hidden, items_of}
use Rattle.sc_expand.proofs.work_list.settle.Goals as goal
use Rattle.sc_expand.proofs.work_list.settle.Goals.{then-loop-rest-test+else-len-gt0, else-loop-rest-test}

pub loop-rest-preserved : goal.loop-rest-preserved
loop-rest-preserved c =
    let front = c.loop-rest.front.items in
    let behind = items_of c.loop-rest.rest in
    record {
      is = rw (c.in_ok-push_back.ensures.items, c.drop_first.ensures.is) (first_moved front behind c.item.result c.item.ensures ∙ c.loop-rest.invariant.is);
      cond = c.drop_first.ensures.cond ∙ c.loop-rest.invariant.cond;
    }

pub returns-clause-is : goal.returns-clause-is
returns-clause-is c =
    let rest = c.loop-rest.rest in
    let whole : items_of rest ≡ map (λ t. (rest.cond, t)) rest.tokens = elim c.loop-rest-test.branch [
      | then-loop-rest-test+else-len-gt0 w ↦ items_of-empty rest (omega (arith, w.len.ensures))
      | else-loop-rest-test w ↦ items_of-unrestricted rest (omega arith)
    ] in
    let F : List (Cond × Hidden) → List (Cond × Hidden) = λ items. c.loop-rest.front.items ++ items in
    ap F (sym whole) ∙ c.loop-rest.invariant.is
