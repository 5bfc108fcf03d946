use Rattle.std.proofs.Common.{subst}
use Rattle.sc_prep.proofs.Contents.{contents-later}
use Rattle.sc_prep.proofs.Facts.{Extends-refl}
use Rattle.sc_prep.proofs.FindLemmas.{interned-plain}
use Rattle.sc_prep.proofs.Terms.{AreContents}
use Rattle.sc_prep.proofs.finding.look_up.Goals as goal

pub read-requires-clause-contents : goal.read-requires-clause-contents
read-requires-clause-contents g c = contents-later (Extends-refl c.args.names.now) c.in_ok-file.ensures.grows c.requires.contents

pub returns-clause-looks : goal.returns-clause-looks
returns-clause-looks g c = record {
  contents_are = subst (λ h. AreContents c.args.standard c.read.new.names c.intern.new.self h c.read.new.self) c.read.ensures.kept c.in_ok-content.ensures.contents;
  reads = c.in_ok-content.ensures.keeps;
  paths = λ one all. interned-plain c.in_ok-file.ensures.adds one all;
}
