use Rattle.std.proofs.Common.{◌≡◌, ◌∙◌, sym, ap, subst, ℕ, List, map, arith}
use Rattle.std.proofs.lemmas.List.{with_items_is}
use Rattle.std.proofs.lemmas.List.Elements.{All-get_or}
use Rattle.std.specs.Vec.{with_items}
use Rattle.sc_base.specs.declared.token.Token.{Token}
use Rattle.sc_lines.specs.declared.line.Line.{Line}
use Rattle.sc_lines.specs.Branches.{HasBranches, without_branch}
use Rattle.sc_lines.specs.Judges.{Judges, FailsAt, no_token}
use Rattle.sc_lines.specs.Nests.{seen_lines}
use Rattle.sc_lines.specs.Split.{AreLines}
use Rattle.sc_lines.proofs.Branching.{lines-same}
use Rattle.sc_lines.proofs.Judging.{same_length}
use Rattle.sc_lines.proofs.SeenLines.{conditionals-seen, fails, fault-within, fault-first, fault-tree}
use Rattle.c11_directives.specs.Lines as model
use Rattle.sc_lines.proofs.tree.groups.Goals as goal
use Rattle.sc_lines.proofs.tree.groups.Goals.{In-None, In-Some}

failed : (c : In-Some) → (files : List (List ℕ)) → FailsAt (seen_lines c.args.standard c.args.names.now files c.args.tokens.now) c.in-Some.at
failed c = fails c.args.standard c.args.names.now c.args.tokens.now c.in_ok-lines.lines.items c.in_ok-fault_line.field-0 c.in-Some.at c.in_ok-lines.ensures c.in-Some.is
    (λ ms same. c.in_ok-fault_line.ensures ms (same ∙ ap (map (λ (l : Line). model.conditional_in l.directive)) (sym c.deref.ensures.value)))

pub index-requires : goal.index-requires
index-requires c =
    omega (arith, c.in_ok-lines.lines.ok.0, fault-within c.args.standard c.args.names.now c.args.tokens.now c.in_ok-lines.lines.items c.in_ok-lines.ensures c.in-Some.at (failed (goal.at.index-requires c).In-Some))

pub place_of-requires : goal.place_of-requires
place_of-requires c =
    fault-first c.args.standard c.args.names.now c.args.tokens.now c.in_ok-lines.lines.items c.in_ok-lines.ensures c.in-Some.at (failed (goal.at.place_of-requires c).In-Some) c.index.result.now c.index.ensures

nested : (c : In-None) → (files : List (List ℕ)) → (group : model.Group) × model.IsTree (seen_lines c.args.standard c.args.names.now files c.args.tokens.now) group
nested c files =
    let seen = seen_lines c.args.standard c.args.names.now files c.args.tokens.now in
    subst (Judges seen) c.in-None.is
    (c.in_ok-fault_line.ensures seen
    (conditionals-seen c.args.standard c.args.names.now c.args.tokens.now c.in_ok-lines.lines.items c.in_ok-lines.ensures files ∙ ap (map (λ (l : Line). model.conditional_in l.directive)) (sym c.deref.ensures.value)))

pub returns-in_ok-set_branches-in-None-clause-ok : goal.returns-in_ok-set_branches-in-None-clause-ok
returns-in_ok-set_branches-in-None-clause-ok c =
    let standard = c.args.standard in
    let names = c.args.names.now in
    let tokens = c.args.tokens.now in
    let lines = c.in_ok-lines.lines.items in
    let found = c.set_branches.new.lines in
    let set = c.in_ok-set_branches-in-None.ensures in
    let tree = nested (goal.at.returns-in_ok-set_branches-in-None-clause-ok c).In-None in
    let others : map without_branch found ≡ map without_branch lines = set.others ∙ ap (map without_branch) c.deref_mut.ensures.value in
    let written : found ≡ (with_items c.in_ok-lines.lines found).items =
    sym (with_items_is c.in_ok-lines.lines found (same_length without_branch without_branch found lines others ∙ sym c.in_ok-lines.lines.ok.0)) in
    record {
      lines = subst (AreLines standard names tokens) written (lines-same standard names tokens found lines others c.in_ok-lines.ensures);
      nested = tree;
      branches = λ files.
          subst (HasBranches (seen_lines standard names files tokens)) written
          (set.branches (seen_lines standard names files tokens) (tree files).0
          (conditionals-seen standard names tokens lines c.in_ok-lines.ensures files ∙ ap (map (λ (l : Line). model.conditional_in l.directive)) (sym c.deref_mut.ensures.value)) (tree files).1);
    }

pub returns-in-Some-clause-err : goal.returns-in-Some-clause-err
returns-in-Some-clause-err c = record {
  tree = λ files.
      rw c.place_of.ensures
      (fault-tree c.args.standard c.args.names.now c.args.tokens.now c.in_ok-lines.lines.items c.in_ok-lines.ensures c.in-Some.at (failed (goal.at.returns-in-Some-clause-err c).In-Some) files c.index.result.now no_token c.index.ensures);
  placed = λ file all.
      rw c.place_of.ensures
      (All-get_or (λ (t : Token). t.place.file ≡ file) c.args.tokens.now c.index.result.now.first no_token
      (fault-first c.args.standard c.args.names.now c.args.tokens.now c.in_ok-lines.lines.items c.in_ok-lines.ensures c.in-Some.at (failed (goal.at.returns-in-Some-clause-err c).In-Some) c.index.result.now c.index.ensures) all);
}
