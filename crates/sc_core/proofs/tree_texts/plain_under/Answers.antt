use Rattle.std.proofs.Common.{◌≡◌, ◌∙◌, true, sym, subst}
use Rattle.std.proofs.lemmas.List.Elements.{All-nil}
use Rattle.std.proofs.lemmas.Result.{err_from_is_err_and}
use Rattle.sc_core.proofs.Cuts.{only-formed}
use Rattle.sc_core.proofs.Listing.{one-listed}
use Rattle.sc_core.proofs.PlainTelling.{tells-plain}
use Rattle.sc_core.proofs.TreeTelling.{tree-lines}
use Rattle.sc_core.proofs.tree_texts.plain_under.Goals as goal
use Rattle.sc_model.specs.Bytes.{has_no_newline}
use Rattle.sc_prep.specs.Printable.{ArePlainPaths}
use Rattle.sc_space.specs.Seen.{seen_space}

pub parsed-requires-clause-paths : goal.parsed-requires-clause-paths
parsed-requires-clause-paths g c = subst ArePlainPaths (sym c.in_ok-files.ensures) (All-nil (λ path. has_no_newline path ≡ true))

pub returns-clause-lines : goal.returns-clause-lines
returns-clause-lines g c = tree-lines c.in_ok-plain.plain c.in_ok-text_of.field-0.lines.items c.in_ok-text_of.ensures.text

pub returns-clause-tree : goal.returns-clause-tree
returns-clause-tree g c =
    let made = c.in_ok-parsed.ensures in
    let only = c.in_ok-plain.ensures in
    let text = c.in_ok-text_of.ensures in
    let space = seen_space c.args.space.now in
    tells-plain text.keeps c.parsed.new.names c.parsed.new.files space c.in_ok-parsed.parsed c.in_ok-plain.plain c.in_ok-text_of.field-0 text.text only.shown (made.keeps.arities ∙ c.requires.arities)
    (one-listed c.requires.listed c.requires.arities (only-formed space c.requires.sound.has_options) c.requires.one c.requires.some) c.requires.one only.plain made.answered text.none text.some (g.S.Source.holds c.args.src.now) c.args.file.now c.in_ok-parsed.parsed.classes made.translated

pub returns-in_err-text_of-clause-stops : goal.returns-in_err-text_of-clause-stops
returns-in_err-text_of-clause-stops g c =
    let p = err_from_is_err_and c.from_residual-in_err-text_of.result c.from_residual-in_err-text_of.ensures.1 in
    rw (p.1, p.2) tt
