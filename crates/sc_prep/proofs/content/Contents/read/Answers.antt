use Rattle.std.proofs.Common.{[], get_or, sym, subst}
use Rattle.sc_prep.proofs.Contents.{contents-kept}
use Rattle.sc_prep.proofs.Facts.{slice_get-get_or}
use Rattle.sc_prep.proofs.Terms.{AreContents}
use Rattle.sc_prep.proofs.content.Contents.read.Goals as goal

pub returns-clause-contents : goal.returns-clause-contents
returns-clause-contents g c =
    let files = c.args.files.now in
    subst (λ h. AreContents c.args.standard c.read_file.new.names files h (record { readings = c.keep.new.readings })) (sym c.read_file.ensures.kept)
    (contents-kept (record { readings = c.keep.new.readings }) c.read_file.ensures.names c.requires.contents c.args.file _ c.in_ok-keep.ensures (get_or files c.args.file.0 [])
    (slice_get-get_or files c.args.file.0 [] c.requires.file) c.in_ok-content.ensures.reading c.one_to_one.ensures)
