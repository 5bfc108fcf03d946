use Rattle.std.proofs.Common.{◌≡◌, ◌∙◌, true, sym, subst}
use Rattle.std.proofs.lemmas.List.Elements.{All-nil}
use Rattle.std.proofs.lemmas.Result.{err_from_is_err_and}
use Rattle.c11_directives.specs.Listed.{IsListed}
use Rattle.sc_core.proofs.Choices.{choices-sound, rooted}
use Rattle.sc_core.proofs.TreeTelling.{answer-told, tells-tree, tree-lines}
use Rattle.sc_core.proofs.tree_texts.tree_under.Goals as goal
use Rattle.sc_model.specs.Bytes.{has_no_newline}
use Rattle.sc_prep.specs.Printable.{ArePlainPaths}
use Rattle.sc_fork.proofs.OutcomeLemmas.{sound-same}
use Rattle.sc_text.specs.Answer.{Answer, HasSoundChoices, IsRooted, tree_parts}
use Rattle.sc_space.specs.Seen.{seen_space}

pub parsed-requires-clause-paths : goal.parsed-requires-clause-paths
parsed-requires-clause-paths g c = subst ArePlainPaths (sym c.in_ok-files.ensures) (All-nil (λ path. has_no_newline path ≡ true))

pub returns-clause-lines : goal.returns-clause-lines
returns-clause-lines g c = tree-lines c.in_ok-parsed.parsed c.in_ok-text_of.field-0.lines.items c.in_ok-text_of.ensures.text

pub returns-clause-tree : goal.returns-clause-tree
returns-clause-tree g c =
    let made = c.in_ok-parsed.ensures in
    let text = c.in_ok-text_of.ensures in
    let s = g.C.Conditions.sets c.parsed.new.conds in
    let new = g.C.Conditions.sets c.text_of.new.conds in
    let names = c.parsed.new.names in
    let files = c.parsed.new.files in
    let space = seen_space c.args.space.now in
    let main = c.args.file.now in
    let p = c.in_ok-parsed.parsed in
    let out = c.in_ok-text_of.field-0 in
    let holds = g.S.Source.holds c.args.src.now in
    let arities = made.keeps.arities ∙ c.requires.arities in
    let sound = sound-same s new p.trees text.keeps made.shown.branches made.choices in
    let told = answer-told text.keeps names files space p out text.text made.shown arities text.none text.some holds main p.classes made.translated in
    record {
      tells = tells-tree text.keeps names files space p out text.text made.shown arities text.none text.some holds main p.classes made.translated;
      choices = subst (λ (answer : Answer tree_parts). HasSoundChoices space answer.body.parts) told (choices-sound text.keeps names files space p out text.text made.shown arities sound);
      rooted = subst (IsRooted (IsListed space)) told (rooted text.keeps names files space p out text.text made.shown arities made.answered);
    }

pub returns-in_err-text_of-clause-stops : goal.returns-in_err-text_of-clause-stops
returns-in_err-text_of-clause-stops g c =
    let p = err_from_is_err_and c.from_residual-in_err-text_of.result c.from_residual-in_err-text_of.ensures.1 in
    rw (p.1, p.2) tt
