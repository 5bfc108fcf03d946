use Rattle.std.proofs.Common.{◌∙◌, Some, [], ◌∷◌, map, sym, ap, subst, arith, string_bytes}
use Rattle.c11_directives.specs.Pre as model
use Rattle.sc_prep.proofs.Contents.{agrees-back}
use Rattle.sc_prep.proofs.Facts.{Extends-trans, take_all}
use Rattle.sc_prep.proofs.FindLemmas.{looks-more, name-absent, name-present, search-here, search-next}
use Rattle.sc_prep.specs.Finding.{LooksUp, absent, present}
use Rattle.sc_prep.proofs.finding.search.Goals as goal

pub returns-in-Some-clause-searched : goal.returns-in-Some-clause-searched
returns-in-Some-clause-searched g c = λ held agrees.
    let was = c.loop-name.invariant in
    let x = c.name-item.result in
    let before = agrees-back c.look_up.ensures.names c.look_up.ensures.files was.looks.contents_are held c.in_ok-file.ensures.looks.reads agrees in
    let named = c.in_ok-file.ensures.named ∙ ap Some c.as_str.ensures.value in
    let there = name-present c.look_up.new.contents held agrees c.in_ok-file.file (string_bytes x) named c.in_ok-file.content c.in_ok-file.ensures.content c.in-Some.content c.in-Some.is in
    present c.in_ok-file.file (model.file_with (string_bytes x) there.0)
    (search-here string_bytes held c.args.candidates.now c.loop-name.name-index x c.loop-name-test.true c.name-item.is (was.absent held before) there.0 there.1) named

pub returns-in-Some-clause-looks : goal.returns-in-Some-clause-looks
returns-in-Some-clause-looks g c =
    let was = c.loop-name.invariant in
    looks-more string_bytes c.args.candidates.now c.loop-name.name-index c.name-item.result c.loop-name-test.true c.name-item.is was.looks was.kept
    (subst (λ t. LooksUp c.args.standard c.loop-name.names c.loop-name.files c.loop-name.contents (g.S.Source.holds c.loop-name.src) c.look_up.new.names c.look_up.new.files c.look_up.new.contents (t ∷ []))
    c.as_str.ensures.value c.in_ok-file.ensures.looks)

pub loop-name-preserved : goal.loop-name-preserved
loop-name-preserved g c =
    let was = c.loop-name.invariant in
    let x = c.name-item.result in
    let named = c.in_ok-file.ensures.named ∙ ap Some c.as_str.ensures.value in
    record {
      names = Extends-trans was.names c.look_up.ensures.names;
      files = Extends-trans was.files c.look_up.ensures.files;
      kept = c.look_up.ensures.kept ∙ was.kept;
      counted = omega (arith, was.counted, c.look_up.ensures.counted);
      looks = looks-more string_bytes c.args.candidates.now c.loop-name.name-index x c.loop-name-test.true c.name-item.is was.looks was.kept
          (subst (λ t. LooksUp c.args.standard c.loop-name.names c.loop-name.files c.loop-name.contents (g.S.Source.holds c.loop-name.src) c.look_up.new.names c.look_up.new.files c.look_up.new.contents (t ∷ []))
          c.as_str.ensures.value c.in_ok-file.ensures.looks);
      absent = λ held agrees.
          let before = agrees-back c.look_up.ensures.names c.look_up.ensures.files was.looks.contents_are held c.in_ok-file.ensures.looks.reads agrees in
          search-next string_bytes held c.args.candidates.now c.loop-name.name-index x c.loop-name-test.true c.name-item.is (was.absent held before)
          (name-absent c.look_up.new.contents held agrees c.in_ok-file.file (string_bytes x) named c.in_ok-file.content c.in_ok-file.ensures.content c.in_default.is);
    }

pub returns-clause-searched : goal.returns-clause-searched
returns-clause-searched g c = λ held agrees.
    absent (ap (λ l. model.search held (map string_bytes l)) (sym (take_all c.loop-name.name-index c.args.candidates.now (omega (arith, c.loop-name-test.false)))) ∙ c.loop-name.invariant.absent held agrees)
