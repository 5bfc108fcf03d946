use Rattle.std.proofs.Common.{◌≡◌, ◌∙◌, map, true, sym, ap, subst, string_bytes, []}
use Rattle.sc_prep.proofs.Facts.{Extends-refl, Keeps-refl, Keeps-trans}
use Rattle.sc_prep.proofs.FindLemmas.{once-none}
use Rattle.sc_prep.proofs.FoundFiles.{asked-plain, nothing-found, one-found, parts-kept}
use Rattle.sc_prep.proofs.LeadMoves.{contents-stay, contents-then, reads-none, reads-then}
use Rattle.sc_prep.proofs.PlainRuns.{path-plain}
use Rattle.sc_prep.proofs.Terms.{AreContents, AreOnce, ArePlainPaths, IsCond, IsSearched, Named, candidates, has_no_newline, option_map, seen_header, text_at, unwrap_or}
use Rattle.sc_prep.proofs.finding.Found.find.Goals as goal

pub loop-name-init : goal.loop-name-init
loop-name-init g c = record {
  keeps = Keeps-refl (g.C.Conditions.sets c.args.conds.now);
  reads = reads-none (Extends-refl c.args.names.now);
  read = c.requires.contents;
  stays = contents-stay c.args.contents.now;
  paths = λ directories names files. files;
  found = nothing-found (g.C.Conditions.sets c.args.conds.now) (text_at c.args.files.now c.args.including.0) (map string_bytes c.args.directories.now) c.args.names.now c.args.files.now c.args.contents.now
      (record { parts = c.new.result; missing = c.never.result }) c.new.ensures.items c.never.ensures.meaning;
  once = subst AreOnce (sym c.new.ensures.items) once-none;
}

pub add-requires-clause-own : goal.add-requires-clause-own
add-requires-clause-own g c =
    let own = subst (λ (x : Named). IsCond (g.C.Conditions.sets c.args.conds.now) x.cond.0) (sym c.name-item.is) (c.requires.own c.loop-name.name-index c.name-item.result c.loop-name-test.true) in
    c.loop-name.invariant.keeps.own _ own

pub returns-in_err-file-clause-reads : goal.returns-in_err-file-clause-reads
returns-in_err-file-clause-reads g c = reads-then c.loop-name.invariant.reads
    (record { kept = c.search.ensures.kept; counted = c.search.ensures.counted; names = c.search.ensures.names; files = c.search.ensures.files })

pub returns-in_err-add-clause-reads : goal.returns-in_err-add-clause-reads
returns-in_err-add-clause-reads g c = reads-then c.loop-name.invariant.reads
    (record { kept = c.search.ensures.kept; counted = c.search.ensures.counted; names = c.search.ensures.names; files = c.search.ensures.files })

pub returns-in_err-add-clause-keeps : goal.returns-in_err-add-clause-keeps
returns-in_err-add-clause-keeps g c = Keeps-trans c.loop-name.invariant.keeps c.add.ensures.keeps

pub loop-name-preserved : goal.loop-name-preserved
loop-name-preserved g c =
    let old = g.C.Conditions.sets c.args.conds.now in
    let was = c.loop-name.invariant in
    let i = c.loop-name.name-index in
    let n = c.name-item.result in
    let within = c.loop-name-test.true in
    let looks = c.in_ok-file.ensures.looks in
    let directories = map string_bytes c.args.directories.now in
    let including = text_at c.args.files.now c.args.including.0 in
    let own = subst (λ (x : Named). IsCond old x.cond.0) (sym c.name-item.is) (c.requires.own i n within) in
    let asked : map string_bytes c.deref.result.now ≡ candidates (seen_header n.header) including directories =
    ap (map string_bytes) c.deref.ensures.value
    ∙ (c.in_ok-paths.ensures ∙ ap (λ t. candidates (seen_header n.header) t directories) (sym (ap (λ o. unwrap_or o []) c.text.ensures) ∙ ap (λ o. unwrap_or o []) (was.reads.files.kept c.args.including.0 c.requires.including))) in
    let searched = reads-then was.reads
    (record { kept = c.search.ensures.kept; counted = c.search.ensures.counted; names = c.search.ensures.names; files = c.search.ensures.files }) in
    record {
      keeps = Keeps-trans was.keeps c.add.ensures.keeps;
      reads = searched;
      read = subst (λ h. AreContents c.args.standard c.search.new.names c.search.new.files h c.search.new.contents) was.reads.kept looks.contents_are;
      stays = contents-then was.stays looks.reads;
      paths = λ all plain files.
          let name = subst (λ (x : Named). has_no_newline (string_bytes x.header.name) ≡ true) (sym c.name-item.is) (plain i n within) in
          looks.paths (subst ArePlainPaths (sym asked) (asked-plain n.header including directories name (path-plain c.args.files.now c.args.including.0 c.requires.including files) all)) (was.paths all plain files);
      found = one-found c.args.named.now i n (option_map (λ pair. pair.0) c.in_ok-file.file) c.search.ensures.names c.search.ensures.files was.read looks.reads was.keeps within c.name-item.is own was.found
          c.in_ok-add.ensures.adds (λ held agrees. subst (λ paths. IsSearched held c.search.new.files paths (option_map (λ pair. pair.0) c.in_ok-file.file)) asked (c.in_ok-file.ensures.searched held agrees))
          (c.in_ok-add.ensures.parts c.search.new.contents c.in_ok-file.ensures.content (parts-kept looks.reads was.found.parts));
      once = c.in_ok-add.ensures.once was.once;
    }

pub returns-in_err-paths-clause-reads : goal.returns-in_err-paths-clause-reads
returns-in_err-paths-clause-reads g c = c.loop-name.invariant.reads

pub returns-clause-reads : goal.returns-clause-reads
returns-clause-reads g c = c.loop-name.invariant.reads
