use Rattle.std.proofs.Common.{true≢false, ◌∙◌, ◌<◌, Global, Option, Some, ap, length, refl, sym, subst}
use Rattle.c11_directives.specs.Footprints.{FilesHave}
use Rattle.sc_base.specs.declared.place.Place.{Place}
use Rattle.sc_prep.proofs.Contents.{may-be-held}
use Rattle.sc_prep.proofs.Facts.{Denotes-self, Extends-keeps, Extends-within, Keeps-trans, err_from_is_err_and, none-some}
use Rattle.sc_prep.proofs.FindLemmas.{name-absent}
use Rattle.sc_prep.proofs.LeadMoves.{reads-of, reads-then, stops-later}
use Rattle.sc_prep.proofs.MainFile.{contents-new, end-inside, entered-stops, main-end, new-later, none-passed, plain-new, prepares-main, ready-new, refused-is, refused-live, refused-out, refused-owns, refused-shown, space-context}
use Rattle.sc_prep.proofs.MainWalk.{missing-ordinary}
use Rattle.sc_prep.proofs.NamedFiles.{reading-stops}
use Rattle.sc_prep.proofs.Stopping.{reading-stops-none}
use Rattle.sc_prep.proofs.Terms.{Content, FileId, IsRefused, NotFound, Prepared, Rc, Walk, context_of, end_place, fault_at, is_plain, option_map, seen_place, seen_space}
use Rattle.sc_prep.proofs.walk.Walk.walk_main.Goals as goal
use Rattle.sc_prep.specs.Valid.{IsOf}

pub read-requires-clause-contents : goal.read-requires-clause-contents
read-requires-clause-contents g c = contents-new c.args.space.now.standard c.args.names.now c.args.files.now (g.S.Source.holds c.args.src.now) c.new-contents.result c.new-contents.ensures

-- ---- there is no such file

pub returns-in_default-clause-prepares : goal.returns-in_default-clause-prepares
returns-in_default-clause-prepares g c = λ main named.
    let files = c.args.files.now in
    let fresh = new-later c.read.ensures.names c.requires.fresh in
    let may = may-be-held _ c.in_ok-content.ensures.contents in
    let absent = name-absent c.read.new.self may.outside may.agrees c.args.file main named c.in_ok-content.field-0 c.in_ok-content.ensures.content c.in_default.is in
    let sets = g.C.Conditions.sets c.refuse_at.new.conds in
    let ended : Prepared = record c.refuse_at.new.self.prepared { live = c.never-self.result } in
    let keeps = c.refuse_at.ensures.keeps in
    let refuses = c.in_ok-refuse_at.ensures.refuses in
    let none = c.never-self.ensures.meaning in
    record {
      ordinary = record {
        outside = may.outside;
        held = λ told is. may.held told (c.read.ensures.kept ∙ is);
        ordinary = λ config listed there.
            missing-ordinary sets c.read.new.names files ended (seen_space c.args.space.now) may.outside main config absent
            (subst (λ place. IsRefused sets c.read.new.names files ended (fault_at NotFound place) config) (c.first_place.ensures.place files main named)
            (refused-is files fresh keeps main _ c.requires.live_own refuses c.never-self.result none config listed there));
        others = λ config listed out. refused-out files fresh keeps main _ c.requires.live_own refuses c.never-self.result none config listed out;
        thin = λ few. record { one = λ d e now _ live _ _ _ _ _ _ _. absurd (true≢false (sym live ∙ none.at d now)) };
        ends = λ bytes config there listed live. absurd (none-some bytes (sym absent ∙ there));
      };
      end_held =
          let same = ap (λ (w : Walk). w.prepared.end.file) refuses.same ∙ c.requires.end in
          subst (λ (f : FileId). f.0 < length files) (sym same) c.requires.file;
      live_is = refused-live files fresh keeps main _ c.requires.live_own refuses c.never-self.result none;
      owns = refused-owns files fresh keeps main _ c.requires.live_own refuses c.never-self.result none;
      shown = λ paths plain.
          refused-shown files fresh keeps main _ c.requires.live_own refuses c.never-self.result none
          (subst (λ (f : FileId). f.0 < length files) (sym c.first_place.ensures.in_file) c.requires.file) paths;
    }

-- ---- its lines are walked

pub enter-requires-clause-ready : goal.enter-requires-clause-ready
enter-requires-clause-ready g c = ready-new c.args.files.now (new-later c.read.ensures.names c.requires.fresh) c.in_ok-content.ensures.contents

pub returns-clause-prepares : goal.returns-clause-prepares
returns-clause-prepares g c = λ main named.
    let entered = c.in_ok-enter.ensures in
    let goes = entered.goes in
    let may = may-be-held _ entered.ready.read in
    let context = space-context (seen_space c.args.space.now) may.outside in
    let content = c.in-Some.content.value in
    let at = c.in_ok-content.ensures.content ∙ ap (λ (o : Option (Rc Content Global)). Some (option_map (λ held. held.value) o)) c.in-Some.is in
    let s1 = g.C.Conditions.sets c.enter.new.conds in
    let live = c.args.live in
    let p = c.enter.new.self.prepared in
    let end = ap end_place c.deref-2.ensures in
    let fresh = new-later c.read.ensures.names c.requires.fresh in
    prepares-main fresh entered.keeps c.in_ok-met.ensures.keeps main c.args.file named live c.requires.live_own may.outside (goes.leads _ context may.agrees) entered.ready c.in_ok-met.met
    (c.in_ok-met.ensures.meaning (s1.has p.live.0) (s1.has live.0) (Denotes-self s1 p.live.0 entered.ready.owns.prepared.live) (Denotes-self s1 live.0 (entered.keeps.own live.0 c.requires.live_own))) c.end_place-self.result
    (λ told is. may.held told (entered.reads.kept ∙ (c.read.ensures.kept ∙ is)))
    (λ few. entered.once.put _ context may.agrees few tt)
    (λ bytes config there ordinary now.
    ap (seen_place c.enter.new.files) (c.end_place-self.ensures ∙ end)
    ∙ main-end (seen_space c.args.space.now) may.outside main config there
    (may.agrees.each c.args.file.0 main (Some content) (Extends-keeps c.args.file.0 main named goes.files_grow) (goes.read.each c.args.file.0 (Some content) at)) ordinary now)
    (let same = ap (λ (p : Place). p.file) (c.end_place-self.ensures ∙ end)
    ∙ end-inside c.args.space.now.standard c.read.new.names (length c.args.files.now) content (c.in_ok-content.ensures.contents.held c.args.file content at) in
    Extends-within c.end_place-self.result.file.0 (subst (λ (f : FileId). f.0 < length c.args.files.now) (sym same) c.requires.file) goes.files_grow)
    (λ paths one_line.
    let each = plain-new c.args.files.now fresh main c.requires.sound one_line in (
      goes.plain tt _ context may.agrees c.requires.sound paths each (none-passed c.args.files.now fresh (is_plain c.read.new.names)),
      goes.paths tt _ context may.agrees c.requires.sound paths each,
    ))

pub apply_and-requires-clause-b_own : goal.apply_and-requires-clause-b_own
apply_and-requires-clause-b_own g c = c.enter.ensures.keeps.own c.args.live.0 c.requires.live_own

-- ---- at every outcome

pub returns-in_err-enter-clause-reads : goal.returns-in_err-enter-clause-reads
returns-in_err-enter-clause-reads g c = reads-then (reads-of c.read.ensures.kept c.read.ensures.counted c.read.ensures.names) c.enter.ensures.reads

pub returns-in_err-met-clause-reads : goal.returns-in_err-met-clause-reads
returns-in_err-met-clause-reads g c = reads-then (reads-of c.read.ensures.kept c.read.ensures.counted c.read.ensures.names) c.enter.ensures.reads

pub returns-clause-reads : goal.returns-clause-reads
returns-clause-reads g c = reads-then (reads-of c.read.ensures.kept c.read.ensures.counted c.read.ensures.names) c.enter.ensures.reads

pub returns-in_err-met-clause-keeps : goal.returns-in_err-met-clause-keeps
returns-in_err-met-clause-keeps g c = Keeps-trans c.enter.ensures.keeps c.apply_and.ensures.keeps

pub returns-clause-keeps : goal.returns-clause-keeps
returns-clause-keeps g c = Keeps-trans c.enter.ensures.keeps c.apply_and.ensures.keeps

-- ---- where it stops

pub returns-in_err-content-clause-stops : goal.returns-in_err-content-clause-stops
returns-in_err-content-clause-stops g c =
    let p = err_from_is_err_and c.from_residual.result c.from_residual.ensures.1 in
    rw (p.1, p.2) (reading-stops (g.C.Conditions.sets c.args.conds.now).arities c.args.space.now.limits.branches (g.S.Source.faults c.args.src.now) (g.S.Source.faults c.read.new.src)
    c.in_err-content.field-0.0 c.in_err-content.ensures.stops)

pub returns-in_err-content-clause-footprints : goal.returns-in_err-content-clause-footprints
returns-in_err-content-clause-footprints g c = λ outside main holds named.
    let p = err_from_is_err_and c.from_residual.result c.from_residual.ensures.1 in
    rw (p.1, p.2) (reading-stops-none (IsOf (g.C.Conditions.sets c.args.conds.now) c.args.live.0) (FilesHave (seen_space c.args.space.now) outside main) c.args.space.now.limits.branches
    (g.S.Source.faults c.args.src.now) (g.S.Source.faults c.read.new.src) c.in_err-content.field-0.0 c.in_err-content.ensures.stops)

pub returns-in_err-refuse_at-clause-stops : goal.returns-in_err-refuse_at-clause-stops
returns-in_err-refuse_at-clause-stops g c =
    let p = err_from_is_err_and c.from_residual-in_err-refuse_at.result c.from_residual-in_err-refuse_at.ensures.1 in
    rw (p.1, p.2) tt

pub returns-in_err-refuse_at-clause-footprints : goal.returns-in_err-refuse_at-clause-footprints
returns-in_err-refuse_at-clause-footprints g c = λ outside main holds named.
    let p = err_from_is_err_and c.from_residual-in_err-refuse_at.result c.from_residual-in_err-refuse_at.ensures.1 in
    rw (p.1, p.2) tt

pub returns-in_err-enter-clause-stops : goal.returns-in_err-enter-clause-stops
returns-in_err-enter-clause-stops g c =
    let p = err_from_is_err_and c.from_residual-in_err-enter.result c.from_residual-in_err-enter.ensures.1 in
    let now = (g.C.Conditions.sets c.args.conds.now).arities in
    stops-later {now = now} {mid = g.S.Source.faults c.read.new.src} c.args.space.now.limits.branches (g.S.Source.faults c.enter.new.src) c.from_residual-in_err-enter.result
    refl c.read.ensures.counted (rw (p.1, p.2) c.in_err-enter.ensures.stops)

pub returns-in_err-enter-clause-footprints : goal.returns-in_err-enter-clause-footprints
returns-in_err-enter-clause-footprints g c = λ outside main holds named.
    let space = seen_space c.args.space.now in
    let fresh = new-later c.read.ensures.names c.requires.fresh in
    let stop = err_from_is_err_and c.from_residual-in_err-enter.result c.from_residual-in_err-enter.ensures.1 in
    let full = c.in_err-enter.ensures.footprints (context_of space outside) (space-context space outside) (c.read.ensures.kept ∙ holds) in
    rw (stop.1, stop.2) (entered-stops c.args.files.now fresh main outside c.args.file c.args.live named space.branches c.in_err-enter.field-0.0 full)

pub returns-in_err-met-clause-footprints : goal.returns-in_err-met-clause-footprints
returns-in_err-met-clause-footprints g c = λ outside main holds named.
    let p = err_from_is_err_and c.from_residual-in_err-met.result c.from_residual-in_err-met.ensures.1 in
    rw (p.1, p.2) tt

pub returns-in_err-content-clause-reads : goal.returns-in_err-content-clause-reads
returns-in_err-content-clause-reads g c = reads-of c.read.ensures.kept c.read.ensures.counted c.read.ensures.names

pub returns-in_err-refuse_at-clause-reads : goal.returns-in_err-refuse_at-clause-reads
returns-in_err-refuse_at-clause-reads g c = reads-of c.read.ensures.kept c.read.ensures.counted c.read.ensures.names

pub returns-in_default-clause-reads : goal.returns-in_default-clause-reads
returns-in_default-clause-reads g c = reads-of c.read.ensures.kept c.read.ensures.counted c.read.ensures.names
