use Rattle.std.proofs.Common.{◌≡◌, ◌++◌, ◌∷◌, [], length, take, ap, ◌∙◌, arith}
use Rattle.std.specs.Prelude.{slice_get}
use Rattle.std.proofs.lemmas.List.{length-map, take_at}
use Rattle.sc_base.specs.Interns.{fresh}
use Rattle.sc_diagram.specs.Diagram.{branch}
use Rattle.sc_diagram.specs.Unique.{branch_at, branches_of}
use Rattle.sc_diagram.proofs.UniqueLemmas.{AreRows-kept, AreRows-push, branches-kept, branches-push, get-last, on_err}
use Rattle.sc_diagram.proofs.unique.UniqueTable.insert.Goals as goal

pub invariant_of-self : goal.invariant_of-self
invariant_of-self c = AreRows-kept c.put_row.ensures.kept c.self.invariant

pub returns-in_err-row-clause-err : goal.returns-in_err-row-clause-err
returns-in_err-row-clause-err c = on_err _ (branches-kept _ _ _ c.self.invariant.within c.put_row.ensures.kept ∙ c.self.view_is)

pub invariant_of-self-in_err-push : goal.invariant_of-self-in_err-push
invariant_of-self-in_err-push c = rw c.in_err-push.ensures.items (AreRows-kept c.put_row.ensures.kept c.self.invariant)

pub returns-in_err-push-clause-err : goal.returns-in_err-push-clause-err
returns-in_err-push-clause-err c =
    on_err _ (ap (branches_of c.put_row.new.all.items) c.in_err-push.ensures.items ∙ branches-kept _ _ _ c.self.invariant.within c.put_row.ensures.kept ∙ c.self.view_is)

pub invariant_of-self-in-Ok : goal.invariant_of-self-in-Ok
invariant_of-self-in-Ok c =
    rw (c.in_ok-push.ensures.items, c.in-Ok.ensures.ok, c.hash_of-hash.ensures)
    (AreRows-push c.in_ok-row.row _ (AreRows-kept c.put_row.ensures.kept c.self.invariant) c.in_ok-row.ensures.within c.in_ok-row.ensures.row)

-- the branches that were there, and one more
more : (c : goal.In-Ok) → branches_of c.put_row.new.all.items c.push.new.self.items ≡ c.args.self.now ++ branch c.args.variable c.args.children.now ∷ []
more c =
    ap (branches_of c.put_row.new.all.items) c.in_ok-push.ensures.items
    ∙ branches-push c.put_row.new.all.items c.self.inside.rows.items c.in_ok-row.row _ c.in_ok-row.ensures.row
    ∙ ap (λ bs. bs ++ branch c.args.variable c.args.children.now ∷ []) (branches-kept _ _ _ c.self.invariant.within c.put_row.ensures.kept ∙ c.self.view_is)

pub returns-in-Ok-clause-interns : goal.returns-in-Ok-clause-interns
returns-in-Ok-clause-interns c = fresh c.in_default.ensures.none (more c)

pub returns-in-Ok-clause-stored : goal.returns-in-Ok-clause-stored
returns-in-Ok-clause-stored c =
    let long : c.len-number.result ≡ length c.args.self.now =
    omega (arith, c.len-number.ensures, c.self.inside.rows.ok.0, length-map c.self.inside.rows.items (branch_at c.self.inside.children.items), ap length c.self.view_is)
    in
    ap (λ bs. slice_get bs c.len-number.result) (more c) ∙ get-last c.args.self.now _ c.len-number.result long

-- the row is taken off again
rows : (c : goal.After-truncate) → c.truncate.new.self.items ≡ c.self.inside.rows.items
rows c =
    c.truncate.ensures.items ∙ ap (take c.len-number.result) c.in_ok-push.ensures.items
    ∙ take_at c.self.inside.rows.items (c.in_ok-row.row ∷ []) c.len-number.result (omega (arith, c.len-number.ensures, c.self.inside.rows.ok.0))

pub invariant_of-self-in-Err : goal.invariant_of-self-in-Err
invariant_of-self-in-Err c = rw (rows c, c.in-Err.ensures.err) (AreRows-kept c.put_row.ensures.kept c.self.invariant)

pub returns-in-Err-clause-err : goal.returns-in-Err-clause-err
returns-in-Err-clause-err c =
    ap (branches_of c.put_row.new.all.items) (rows c) ∙ branches-kept _ _ _ c.self.invariant.within c.put_row.ensures.kept ∙ c.self.view_is
