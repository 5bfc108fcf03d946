use Rattle.std.proofs.Common.{rules, ◌≡◌, ◌∙◌, ℕ, ◌+◌, ◌<◌, ◌≤◌, List, [], All, Some, refl, sym, ap, subst, arith, length}
use Rattle.c11_directives.specs.declared.directive.Directive.TheVariants as kind
use Rattle.sc_expand.specs.Stops.{HasConfigs}
use Rattle.sc_lines.specs.declared.line.Line.{Line}
use Rattle.sc_prep.proofs.ApartLemmas.{gathers-same, gathers-then, apart-left, apart-right, lines-apart}
use Rattle.sc_prep.proofs.Contents.{agrees-back, IsPlaced-later}
use Rattle.sc_prep.proofs.DirectiveStops.{carried-stops, closing-stops}
use Rattle.sc_prep.proofs.EnterLeads.{begun-plain, held-lines, held-refusal, kept-lines, kept-refusal, leads-inside, leads-nowhere, leads-refused, left-plain, refused-list}
use Rattle.sc_prep.proofs.ExpressionMoves.{empty_context}
use Rattle.sc_prep.proofs.Facts.{All-get_or, All-weaker, Extends-refl, Extends-within, IfErr-weaker, Keeps-trans, directive-files, err_from_is_err_and, on_ok_weaker}
use Rattle.sc_prep.proofs.FileStops.{comes-inside}
use Rattle.sc_prep.proofs.Going.{entry-within}
use Rattle.sc_prep.proofs.IncludeLeads.{gone-entered, gone-found, gone-taken, parts-later}
use Rattle.sc_prep.proofs.LeadMoves.{content-named, leads-one, limit-stops, reads-none, reads-then, ready-moved, ready-begun, ready-kept, ready-left, ready-refused, stops-later, stored-ready}
use Rattle.sc_prep.proofs.LineSteps.{directive-long, lines-stand}
use Rattle.sc_prep.proofs.SharedLines.{shares-any, shares-none}
use Rattle.sc_prep.proofs.SharedText.{on_ok_both, text-put}
use Rattle.sc_prep.proofs.Grown.{held-later}
use Rattle.sc_prep.proofs.Passing.{next-after}
use Rattle.sc_prep.proofs.PlainRuns.{path-plain}
use Rattle.sc_prep.proofs.SharesEntered.{puts-inside, puts-nowhere, puts-refused, shares-around, shares-still}
use Rattle.sc_prep.proofs.SharesIncluded.{entered-all, entered-more, entered-none, finds-later}
use Rattle.sc_prep.proofs.Stopping.{answer-stops}
use Rattle.sc_prep.proofs.Terms.{AllPass, AreOnce, ArePartsOf, Around, EntersAt, IsBetweenRuns, IsCond, IsIn, IsPlaced, Part, StandFor, Walk, content_at, directive_at, is_plain, seen_line, seen_lines, seen_space, text_at, tokens_read, tokens_of}
use Rattle.sc_prep.proofs.WalkLeads.{gone-line, gone-nowhere, gone-over, gone-stage, line-directive, line-placed-now, once-next, once-over}
use Rattle.sc_prep.proofs.WalkMoves.{owns-kept}
use Rattle.sc_prep.proofs.WalkStops.{apart-first, apart-line, apart-next, end-stops, file-stops, line-stops, to_come}
use Rattle.sc_prep.specs.Going.{Gone}
use Rattle.sc_prep.specs.Machine as machine
use Rattle.sc_prep.proofs.walk.Walk.+files.Goals as goal
use Rattle.sc_prep.proofs.walk.Walk.+files.Goals.{take_line-in_default-via-in-Some+in_default, take_line-in_default-via-in_default}

pub enter-entering-requires-clause-owns : goal.enter-entering-requires-clause-owns
enter-entering-requires-clause-owns g t c = c.requires.ready.owns

pub enter-entering-requires-clause-file : goal.enter-entering-requires-clause-file
enter-entering-requires-clause-file g t c = c.requires.ready.read.named c.args.entry.file.0 _ c.requires.content

pub enter-entering-requires-clause-once : goal.enter-entering-requires-clause-once
enter-entering-requires-clause-once g t c = c.requires.ready.held.once

-- ---- no configuration enters the file

pub enter-returns-then-is_never-clause-goes : goal.enter-returns-then-is_never-clause-goes
enter-returns-then-is_never-clause-goes g t c =
    gone-stage c.in_ok-inside.ensures.keeps (Extends-refl c.args.names.now)
    (λ x context agrees. leads-nowhere c.args.files.now c.args.cond c.args.entry c.in_ok-inside.ensures.keeps c.in_ok-inside.ensures.entering
    c.requires.ready.owns c.requires.ready.table x (c.is_never.ensures.0 c.if-is_never.true))
    (λ given each list. list)

pub enter-returns-then-is_never-clause-ready : goal.enter-returns-then-is_never-clause-ready
enter-returns-then-is_never-clause-ready g t c = ready-kept c.in_ok-inside.ensures.keeps c.requires.ready

-- ---- its lines are walked

pub enter-walk_lines-requires : goal.enter-walk_lines-requires
enter-walk_lines-requires g t c κs given = (
  omega (arith, c.decreases),
  (
    given.0,
    (
      given.1,
      (
        held-lines c.args.entry.file _ c.requires.ready.read c.requires.content c.in-Lines.is,
        (
          c.requires.deep,
          (
            c.in_ok-around-in-Lines.ensures.sections,
            ready-begun c.in_ok-around-in-Lines.ensures c.in_ok-inside.ensures.entering.own (ready-kept c.in_ok-inside.ensures.keeps c.requires.ready),
          ),
        ),
      ),
    ),
  ),
)

pub enter-returns-in_ok-end_file-in-Lines-clause-goes : goal.enter-returns-in_ok-end_file-in-Lines-clause-goes
enter-returns-in_ok-end_file-in-Lines-clause-goes g t c =
    let walked = c.in_ok-walk_lines-in-Lines.ensures in
    let goes = walked.goes in
    let ready = c.requires.ready in
    let inside = c.in_ok-inside.ensures.entering in
    let end = c.in_ok-end_file-in-Lines.ensures in
    let begins = c.in_ok-around-in-Lines.ensures in
    let files = c.args.files.now in
    let more = c.walk_lines.new.names in
    let more_files = c.walk_lines.new.files in
    let keeps = c.in_ok-inside.ensures.keeps in
    let named = content-named ready.read c.args.entry.file.0 c.requires.content in
    let begun = begun-plain files c.args.cond c.args.entry keeps inside ready.owns ready.table more more_files goes.keeps end.keeps begins end.leaves
    named in
    let one_line = path-plain files c.args.entry.file.0 (ready.read.named c.args.entry.file.0 _ c.requires.content) in
    record {
      keeps = Keeps-trans keeps (Keeps-trans goes.keeps end.keeps);
      names_grow = goes.names_grow;
      files_grow = goes.files_grow;
      read = goes.read;
      leads = λ x context agrees.
          let held = agrees-back goes.names_grow goes.files_grow ready.read x.files goes.read agrees in
          leads-inside files c.args.cond c.args.entry keeps inside ready.owns ready.table more more_files goes.keeps end.keeps begins end.leaves goes.names_grow goes.files_grow ready.held walked.ready.owns
          walked.ready.table x context.standard _ named (kept-lines c.args.entry.file.0 _ held named c.requires.content c.in-Lines.is) (goes.leads x context agrees);
      plain = λ given x context agrees sound paths each.
          left-plain files c.args.cond c.args.entry keeps inside ready.owns ready.table more more_files goes.keeps end.keeps begins end.leaves more
          (goes.plain tt x context agrees sound paths (begun (one_line paths) each));
      paths = λ given x context agrees sound paths each. goes.paths tt x context agrees sound paths (begun (one_line paths) each);
    }

pub enter-returns-in_ok-end_file-in-Lines-clause-ready : goal.enter-returns-in_ok-end_file-in-Lines-clause-ready
enter-returns-in_ok-end_file-in-Lines-clause-ready g t c =
    let w = c.args.self.now in
    let walked = c.in_ok-walk_lines-in-Lines.ensures in
    let ready = c.requires.ready in
    let end = c.in_ok-end_file-in-Lines.ensures in
    ready-left end.keeps walked.ready end.leaves c.in_ok-around-in-Lines.ensures (owns-kept (Keeps-trans c.in_ok-inside.ensures.keeps walked.keeps) w ready.owns) (held-later walked.goes.names_grow walked.goes.files_grow w ready.held)

-- what was gathered around the file is there again
pub enter-returns-in_ok-end_file-in-Lines-clause-runs : goal.enter-returns-in_ok-end_file-in-Lines-clause-runs
enter-returns-in_ok-end_file-in-Lines-clause-runs g t c =
    ap (λ (v : Walk). v.runs) c.in_ok-end_file-in-Lines.ensures.leaves.is ∙ ap (λ (a : Around). a.runs) c.in_ok-around-in-Lines.ensures.around_is

-- ---- whoever enters it is refused

pub enter-refuse_at-requires-clause-live : goal.enter-refuse_at-requires-clause-live
enter-refuse_at-requires-clause-live g t c = (ready-kept c.in_ok-inside.ensures.keeps c.requires.ready).owns.prepared.live

pub enter-refuse_at-requires-clause-acting : goal.enter-refuse_at-requires-clause-acting
enter-refuse_at-requires-clause-acting g t c = (ready-kept c.in_ok-inside.ensures.keeps c.requires.ready).owns.acting

pub enter-returns-in_ok-refuse_at-in-Refused-clause-goes : goal.enter-returns-in_ok-refuse_at-in-Refused-clause-goes
enter-returns-in_ok-refuse_at-in-Refused-clause-goes g t c =
    let ready = c.requires.ready in
    let named = content-named ready.read c.args.entry.file.0 c.requires.content in
    let refused = c.in_ok-refuse_at-in-Refused.ensures in
    gone-stage (Keeps-trans c.in_ok-inside.ensures.keeps refused.keeps) (Extends-refl c.args.names.now)
    (λ x context agrees. leads-refused c.args.files.now c.args.cond c.args.entry c.in_ok-inside.ensures.keeps c.in_ok-inside.ensures.entering ready.owns ready.table _ _ refused.keeps refused.refuses x context.standard
    (kept-refusal c.args.entry.file.0 _ _ agrees named c.requires.content c.in-Refused.is))
    (λ given each. subst (AllPass (is_plain c.args.names.now)) (sym (refused-list refused.refuses)))

pub enter-returns-in_ok-refuse_at-in-Refused-clause-ready : goal.enter-returns-in_ok-refuse_at-in-Refused-clause-ready
enter-returns-in_ok-refuse_at-in-Refused-clause-ready g t c =
    ready-refused c.in_ok-refuse_at-in-Refused.ensures.keeps (ready-kept c.in_ok-inside.ensures.keeps c.requires.ready) c.in_ok-refuse_at-in-Refused.ensures.refuses c.in_ok-inside.ensures.entering.own
    (held-refusal c.args.entry.file _ _ c.requires.ready.read c.requires.content c.in-Refused.is)

pub enter-returns-in_ok-refuse_at-in-Refused-clause-runs : goal.enter-returns-in_ok-refuse_at-in-Refused-clause-runs
enter-returns-in_ok-refuse_at-in-Refused-clause-runs g t c = ap (λ (v : Walk). v.runs) c.in_ok-refuse_at-in-Refused.ensures.refuses.same

pub take_line-include_line-requires : goal.take_line-include_line-requires
take_line-include_line-requires g t c κs given =
    let at = rw c.in-Some-Include.is at c.in-Some-Include.field-0-is in (
      omega (arith, c.decreases),
      (given.0, (given.1, (c.requires.placed, (sym c.requires.directive ∙ (c.in-Some-Include.is ∙ ap Some at), (c.requires.entry, (c.requires.deep, c.requires.ready)))))),
    )

pub take_line-local_line-requires-clause-stored : goal.take_line-local_line-requires-clause-stored
take_line-local_line-requires-clause-stored g t c = stored-ready c.requires.ready

pub take_line-returns-in_default-clause-goes : goal.take_line-returns-in_default-clause-goes
take_line-returns-in_default-clause-goes g t c =
    on_ok_weaker c.local_line.result (λ takes.
    gone-stage c.local_line.ensures.keeps c.local_line.ensures.names (λ x context agrees. leads-one (IsIn c.args.files.now c.args.entry) (takes x).simulates) (λ given. (takes empty_context).plain))
    c.local_line.ensures.takes

pub take_line-returns-in_default-clause-ready : goal.take_line-returns-in_default-clause-ready
take_line-returns-in_default-clause-ready g t c = on_ok_weaker c.local_line.result (λ takes.
    let stage = takes empty_context in
    ready-moved c.local_line.ensures.names stage.simulates stage.held c.requires.ready) c.local_line.ensures.takes

pub take_line-returns-in_default-clause-gathers : goal.take_line-returns-in_default-clause-gathers
take_line-returns-in_default-clause-gathers g t c = on_ok_weaker c.local_line.result (λ takes. (takes empty_context).gathers) c.local_line.ensures.takes

pub take_line-returns-in_default-clause-stops : goal.take_line-returns-in_default-clause-stops
take_line-returns-in_default-clause-stops g t c =
    limit-stops (g.C.Conditions.sets c.args.conds.now).arities c.args.space.now.limits.branches (g.S.Source.faults c.args.src.now) (g.S.Source.faults c.args.src.now) c.local_line.result
    (IfErr-weaker c.local_line.result _ _ (λ stop stops. stops.by) (c.local_line.ensures.stops empty_context))

pub walk_lines-loop-number-init : goal.walk_lines-loop-number-init
walk_lines-loop-number-init g t c = record {
  ready = c.requires.ready;
  gone = gone-nowhere (λ x config m. machine.no_line);
  apart = apart-first c.args.entry c.args.file.now c.requires.lines c.args.self.now;
  shares = λ x context agreed few. shares-none;
  reads = reads-none (Extends-refl c.args.names.now);
}

pub walk_lines-returns-clause-goes : goal.walk_lines-returns-clause-goes
walk_lines-returns-clause-goes g t c = on_ok_weaker c.close_runs.result (λ closed.
    gone-over c.args.entry c.args.file.now c.requires.lines c.loop-number.number c.loop-number.invariant.gone c.loop-number.invariant.ready.read (omega (arith, c.loop-number-test.false, c.len.ensures))
    c.close_runs.ensures.keeps c.close_runs.ensures.names closed.simulates closed.plain) c.close_runs.ensures.closes

pub walk_lines-returns-clause-ready : goal.walk_lines-returns-clause-ready
walk_lines-returns-clause-ready g t c =
    on_ok_weaker c.close_runs.result (λ closed. ready-moved c.close_runs.ensures.names closed.simulates closed.held c.loop-number.invariant.ready) c.close_runs.ensures.closes

pub walk_lines-returns-clause-stops : goal.walk_lines-returns-clause-stops
walk_lines-returns-clause-stops g t c =
    stops-later c.args.space.now.limits.branches (g.S.Source.faults c.loop-number.src) c.close_runs.result c.loop-number.invariant.gone.keeps.arities c.loop-number.invariant.reads.counted
    (limit-stops (g.C.Conditions.sets c.loop-number.conds).arities c.args.space.now.limits.branches (g.S.Source.faults c.loop-number.src) (g.S.Source.faults c.loop-number.src) c.close_runs.result
    (IfErr-weaker c.close_runs.result _ _ (λ stop stops. stops.by) c.close_runs.ensures.stops))

pub walk_lines-returns-in_err-take_line-clause-keeps : goal.walk_lines-returns-in_err-take_line-clause-keeps
walk_lines-returns-in_err-take_line-clause-keeps g t c = Keeps-trans c.loop-number.invariant.gone.keeps c.in_err-take_line.ensures.keeps

pub walk_lines-returns-in_err-take_line-clause-reads : goal.walk_lines-returns-in_err-take_line-clause-reads
walk_lines-returns-in_err-take_line-clause-reads g t c = reads-then c.loop-number.invariant.reads c.in_err-take_line.ensures.reads

pub walk_lines-returns-clause-keeps : goal.walk_lines-returns-clause-keeps
walk_lines-returns-clause-keeps g t c = Keeps-trans c.loop-number.invariant.gone.keeps c.close_runs.ensures.keeps

pub walk_lines-returns-clause-reads : goal.walk_lines-returns-clause-reads
walk_lines-returns-clause-reads g t c = reads-then c.loop-number.invariant.reads (reads-none c.close_runs.ensures.names)

pub walk_lines-close_runs-requires : goal.walk_lines-close_runs-requires
walk_lines-close_runs-requires g t c = record { stored = stored-ready c.loop-number.invariant.ready }

pub include_line-close_runs-requires : goal.include_line-close_runs-requires
include_line-close_runs-requires g t c = record { stored = stored-ready c.requires.ready }

pub include_line-included-requires-clause-ready : goal.include_line-included-requires-clause-ready
include_line-included-requires-clause-ready g t c = ready-moved c.in_ok-close_runs.ensures.names c.in_ok-close_runs.ensures.closes.simulates c.in_ok-close_runs.ensures.closes.held c.requires.ready

pub include_line-loop-part-init : goal.include_line-loop-part-init
include_line-loop-part-init g t c =
    let closed = c.in_ok-close_runs.ensures in
    let found = c.in_ok-parts.ensures in
    record {
      ready = found.ready;
      parts = subst (ArePartsOf (g.C.Conditions.sets c.included.new.conds) c.included.new.contents) (sym c.deref-part-items.ensures.value) found.parts.parts;
      gone = gone-found c.args.space.now.standard c.args.entry c.args.line.now c.requires.placed (directive-files c.args.space.now.standard c.args.names.now c.args.files.now c.args.line.now ∙ c.requires.directive) c.in_ok-parts.parts.items c.deref-part-items.result.now c.deref-part-items.ensures.value
          (gone-stage closed.keeps closed.names (λ x context agrees. leads-one (IsIn c.args.files.now c.args.entry) closed.closes.simulates) (λ given. closed.closes.plain))
          (ready-moved closed.names closed.closes.simulates closed.closes.held c.requires.ready).read found.goes;
      reads = reads-then (reads-none closed.names) found.reads;
      gathers = gathers-then [] c.args.line.now c.args.self.now c.close_runs.new.self c.included.new.self closed.closes.gathers (gathers-same c.args.line.now c.close_runs.new.self c.included.new.self found.text.0);
      once = subst AreOnce (sym c.deref-part-items.ensures.value) found.parts.once;
      entered = λ x context agrees few.
          entered-none (seen_line c.args.space.now.standard c.args.names.now c.args.files.now c.args.line.now) c.deref-part-items.result.now closed.keeps found.keeps found.reads.names found.reads.files
          (stored-ready (ready-moved closed.names closed.closes.simulates closed.closes.held c.requires.ready)) found.text.0 found.text.1 closed.closes.simulates (closed.shares few)
          (finds-later c.args.space.now.standard closed.names c.args.line.now c.requires.placed c.in_ok-parts.parts.items c.deref-part-items.result.now c.deref-part-items.ensures.value (found.goes.leads x context agrees));
    }

pub walk_lines-take_line-requires : goal.walk_lines-take_line-requires
walk_lines-take_line-requires g t c κs given =
    let line = c.index-line.result.now in
    let lines = c.args.file.now in
    let inv = c.loop-number.invariant in
    let i = c.loop-number.number in
    let within : i < length lines.lines.items = omega (arith, c.loop-number-test.true, c.len.ensures) in
    let same = ap (λ ts. tokens_of ts line) c.deref.ensures.value ∙ ap (tokens_of lines.tokens.items) c.index-line.ensures in (
      omega (arith, c.decreases),
      (
        given.0,
        (
          given.1,
          (
            subst (All (IsPlaced c.loop-number.names (length c.loop-number.files))) (sym same) (line-placed-now c.args.entry lines c.requires.lines i inv.gone inv.ready.read line within),
            (
              ap (λ (l : Line). l.directive) c.index-line.ensures
                  ∙ (line-directive c.args.entry lines c.requires.lines i inv.gone inv.ready.read line within ∙ ap (directive_at c.args.space.now.standard c.loop-number.names) (sym same)),
              (
                Extends-within c.args.entry.file.0 (entry-within lines c.requires.lines i within) inv.gone.files_grow,
                (
                  c.requires.deep,
                  inv.ready,
                ),
              ),
            ),
          ),
        ),
      ),
    )

pub walk_lines-next_line-number-requires-clause-branches : goal.walk_lines-next_line-number-requires-clause-branches
walk_lines-next_line-number-requires-clause-branches g t c =
    let lines = c.args.file.now in
    let names = c.args.names.now in (
      seen_lines c.args.space.now.standard names [] lines.tokens.items,
      subst (StandFor (seen_lines c.args.space.now.standard names [] lines.tokens.items)) (sym c.deref-in-loop-number.ensures.value)
          (lines-stand c.args.space.now.standard names lines.tokens.items lines.lines.items c.requires.lines.lines_are c.requires.lines.branches []),
    )

pub walk_lines-loop-number-smaller : goal.walk_lines-loop-number-smaller
walk_lines-loop-number-smaller g t c =
    let lines = c.args.file.now in
    let names = c.args.names.now in
    let stand : (files : List (List ℕ)) → StandFor (seen_lines c.args.space.now.standard names files lines.tokens.items) c.deref-in-loop-number.result.now = λ files.
    subst (StandFor (seen_lines c.args.space.now.standard names files lines.tokens.items)) (sym c.deref-in-loop-number.ensures.value)
    (lines-stand c.args.space.now.standard names lines.tokens.items lines.lines.items c.requires.lines.lines_are c.requires.lines.branches files) in
    let after =
    next-after (seen_lines c.args.space.now.standard names [] lines.tokens.items) c.loop-number.number c.next_line-number.result c.is_never.result
    (c.next_line-number.ensures (seen_lines c.args.space.now.standard names [] lines.tokens.items) (stand [])) in
    let test = c.loop-number-test.true in
    omega (arith, after, test, c.len.ensures)

pub walk_lines-loop-number-preserved : goal.walk_lines-loop-number-preserved
walk_lines-loop-number-preserved g t c =
    let lines = c.args.file.now in
    let names = c.args.names.now in
    let stand : (files : List (List ℕ)) → StandFor (seen_lines c.args.space.now.standard names files lines.tokens.items) c.deref-in-loop-number.result.now = λ files.
    subst (StandFor (seen_lines c.args.space.now.standard names files lines.tokens.items)) (sym c.deref-in-loop-number.ensures.value)
    (lines-stand c.args.space.now.standard names lines.tokens.items lines.lines.items c.requires.lines.lines_are c.requires.lines.branches files) in
    let files = c.args.files.now in
    let line = c.index-line.result.now in
    let inv = c.loop-number.invariant in
    let taken = c.in_ok-take_line.ensures in
    record {
      ready = taken.ready;
      gone = gone-line c.args.entry lines c.requires.lines c.loop-number.number inv.gone inv.ready.read line (omega (arith, c.loop-number-test.true, c.len.ensures)) (tokens_of c.deref.result.now line)
          (ap (λ ts. tokens_of ts line) c.deref.ensures.value ∙ ap (tokens_of lines.tokens.items) c.index-line.ensures)
          taken.goes c.next_line-number.result c.is_never.result
          (c.next_line-number.ensures (seen_lines c.args.space.now.standard names files lines.tokens.items) (stand files)) c.is_never.ensures.0;
      apart = λ none apart.
          apart-next c.args.entry lines c.requires.lines c.loop-number.number line (omega (arith, c.loop-number-test.true, c.len.ensures)) (tokens_of c.deref.result.now line)
          (ap (λ ts. tokens_of ts line) c.deref.ensures.value ∙ ap (tokens_of lines.tokens.items) c.index-line.ensures)
          c.loop-number.self (inv.apart none apart) c.take_line.new.self c.next_line-number.result
          (next-after (seen_lines c.args.space.now.standard names files lines.tokens.items) c.loop-number.number c.next_line-number.result c.is_never.result (c.next_line-number.ensures (seen_lines c.args.space.now.standard names files lines.tokens.items) (stand files)))
          taken.gathers;
      shares = once-next c.args.entry lines c.requires.lines c.loop-number.number inv.gone inv.ready.read inv.shares line (omega (arith, c.loop-number-test.true, c.len.ensures)) (tokens_of c.deref.result.now line)
          (ap (λ ts. tokens_of ts line) c.deref.ensures.value ∙ ap (tokens_of lines.tokens.items) c.index-line.ensures)
          taken.goes taken.once c.next_line-number.result c.is_never.result
          (c.next_line-number.ensures (seen_lines c.args.space.now.standard names files lines.tokens.items) (stand files)) c.is_never.ensures.0;
      reads = reads-then inv.reads taken.reads;
    }

pub include_line-included-requires-clause-placed : goal.include_line-included-requires-clause-placed
include_line-included-requires-clause-placed g t c =
    All-weaker (IsPlaced c.args.names.now (length c.args.files.now)) (IsPlaced c.close_runs.new.names (length c.args.files.now))
    (IsPlaced-later c.in_ok-close_runs.ensures.names (Extends-refl c.args.files.now)) c.args.line.now c.requires.placed

pub include_line-included-requires-clause-line : goal.include_line-included-requires-clause-line
include_line-included-requires-clause-line g t c = directive-long c.args.space.now.standard c.args.names.now c.args.line.now (Some kind.Include) (sym c.requires.directive) (λ e. cc)

pub include_line-enter-requires : goal.include_line-enter-requires
include_line-enter-requires g t c κs given =
    let inv = c.loop-part.invariant in
    let parts = c.deref-part-items.result.now in
    let i = c.loop-part.part-index in
    let within = c.loop-part-test.true in
    let deep = c.in_ok-parts.ensures.parts.deep (omega (arith, within, ap (length {A = Part}) c.deref-part-items.ensures.value)) in (
      omega (arith, deep, c.decreases),
      (
        given.0,
        (
          given.1,
          (
            subst (λ (part : Part). IsCond (g.C.Conditions.sets c.loop-part.conds) part.cond.0) (sym c.part-item.is) (All-get_or (λ (part : Part). IsCond (g.C.Conditions.sets c.loop-part.conds) part.cond.0) parts i c.part-item.result within inv.parts.own),
            (
              subst (λ (part : Part). content_at c.loop-part.contents part.file.0 ≡ Some (Some part.content.value)) (sym c.part-item.is)
                  (All-get_or (λ (part : Part). content_at c.loop-part.contents part.file.0 ≡ Some (Some part.content.value)) parts i c.part-item.result within inv.parts.kept) ∙ ap (λ x. Some (Some x)) (sym c.deref.ensures),
              (
                omega (arith, deep),
                inv.ready,
              ),
            ),
          ),
        ),
      ),
    )

pub include_line-loop-part-preserved : goal.include_line-loop-part-preserved
include_line-loop-part-preserved g t c =
    let inv = c.loop-part.invariant in
    let parts = c.deref-part-items.result.now in
    let i = c.loop-part.part-index in
    let within = c.loop-part-test.true in
    let entered = c.in_ok-enter.ensures in
    record {
      ready = entered.ready;
      parts = parts-later entered.keeps entered.goes.read inv.parts;
      gone = gone-entered c.args.space.now.standard c.args.entry c.args.line.now c.requires.placed (directive-files c.args.space.now.standard c.args.names.now c.args.files.now c.args.line.now ∙ c.requires.directive) parts i c.part-item.result c.part-item.is within inv.parts.own
          inv.gone inv.ready.read
          (subst (λ depth. Gone (seen_space c.args.space.now) (g.C.Conditions.sets c.loop-part.conds) c.loop-part.names c.loop-part.files c.loop-part.self c.loop-part.contents
          (g.C.Conditions.sets c.enter.new.conds) c.enter.new.names c.enter.new.files c.enter.new.self c.enter.new.contents (Unit {0}) IsBetweenRuns
          (λ x config m n. EntersAt x (text_at c.loop-part.files c.part-item.result.file.0) depth m ((g.C.Conditions.sets c.loop-part.conds).has c.part-item.result.cond.0 config) n)) c.deeper.ensures entered.goes);
      reads = reads-then inv.reads entered.reads;
      gathers = λ rest apart. gathers-same [] c.loop-part.self c.enter.new.self entered.runs rest (inv.gathers rest apart);
      once = inv.once;
      entered = λ x context agreed few.
          let before = agrees-back entered.goes.names_grow entered.goes.files_grow inv.ready.read x.files entered.goes.read agreed in
          let few_then = subst (λ arities. HasConfigs arities (c.args.space.now.limits.branches + 1) → ⊥) (sym inv.gone.keeps.arities) few in
          entered-more parts i c.part-item.result c.deeper.result c.part-item.is within c.deeper.ensures inv.parts.own inv.gone.keeps entered.keeps entered.reads.names entered.reads.files inv.ready.owns.prepared.list
          (inv.gone.leads x context before) (entered.goes.leads x context agreed) (entered.once.shares x context agreed few_then) (entered.once.put x context agreed few_then tt) (inv.entered x context before few);
    }

pub include_line-returns-clause-goes : goal.include_line-returns-clause-goes
include_line-returns-clause-goes g t c =
    gone-taken c.args.space.now.standard c.args.entry c.args.line.now c.requires.placed (directive-files c.args.space.now.standard c.args.names.now c.args.files.now c.args.line.now ∙ c.requires.directive)
    c.deref-part-items.result.now c.loop-part.part-index (omega (arith, c.loop-part-test.false, c.loop-part.auto.part-index-end)) c.loop-part.invariant.gone

pub include_line-returns-clause-ready : goal.include_line-returns-clause-ready
include_line-returns-clause-ready g t c = c.loop-part.invariant.ready

pub include_line-returns-clause-keeps : goal.include_line-returns-clause-keeps
include_line-returns-clause-keeps g t c = c.loop-part.invariant.gone.keeps

pub include_line-returns-clause-reads : goal.include_line-returns-clause-reads
include_line-returns-clause-reads g t c = c.loop-part.invariant.reads

pub include_line-returns-in_err-close_runs-clause-reads : goal.include_line-returns-in_err-close_runs-clause-reads
include_line-returns-in_err-close_runs-clause-reads g t c = reads-none c.in_err-close_runs.ensures.names

pub include_line-returns-in_err-parts-clause-reads : goal.include_line-returns-in_err-parts-clause-reads
include_line-returns-in_err-parts-clause-reads g t c = reads-then (reads-none c.in_ok-close_runs.ensures.names) c.in_err-parts.ensures.reads

pub include_line-returns-clause-gathers : goal.include_line-returns-clause-gathers
include_line-returns-clause-gathers g t c = c.loop-part.invariant.gathers

pub include_line-returns-in_err-enter-clause-keeps : goal.include_line-returns-in_err-enter-clause-keeps
include_line-returns-in_err-enter-clause-keeps g t c = Keeps-trans c.loop-part.invariant.gone.keeps c.in_err-enter.ensures.keeps

pub include_line-returns-in_err-enter-clause-reads : goal.include_line-returns-in_err-enter-clause-reads
include_line-returns-in_err-enter-clause-reads g t c = reads-then c.loop-part.invariant.reads c.in_err-enter.ensures.reads

pub enter-end_file-requires-clause-group : goal.enter-end_file-requires-clause-group
enter-end_file-requires-clause-group g t c =
    subst (λ (a : Around). IsCond (g.C.Conditions.sets c.walk_lines.new.conds) a.group.0) (sym c.in_ok-around-in-Lines.ensures.around_is)
    (c.in_ok-walk_lines-in-Lines.ensures.keeps.own c.args.self.now.group.0 (c.in_ok-inside.ensures.keeps.own c.args.self.now.group.0 c.requires.ready.owns.group))

pub enter-returns-in_err-walk_lines-in-Lines-clause-keeps : goal.enter-returns-in_err-walk_lines-in-Lines-clause-keeps
enter-returns-in_err-walk_lines-in-Lines-clause-keeps g t c = Keeps-trans c.in_ok-inside.ensures.keeps c.in_err-walk_lines-in-Lines.ensures.keeps

pub enter-returns-in_err-end_file-in-Lines-clause-keeps : goal.enter-returns-in_err-end_file-in-Lines-clause-keeps
enter-returns-in_err-end_file-in-Lines-clause-keeps g t c =
    Keeps-trans c.in_ok-inside.ensures.keeps (Keeps-trans c.in_ok-walk_lines-in-Lines.ensures.keeps c.in_err-end_file-in-Lines.ensures.keeps)

pub enter-returns-in_err-refuse_at-in-Refused-clause-keeps : goal.enter-returns-in_err-refuse_at-in-Refused-clause-keeps
enter-returns-in_err-refuse_at-in-Refused-clause-keeps g t c = Keeps-trans c.in_ok-inside.ensures.keeps c.in_err-refuse_at-in-Refused.ensures.keeps

pub enter-returns-in_ok-end_file-in-Lines-clause-keeps : goal.enter-returns-in_ok-end_file-in-Lines-clause-keeps
enter-returns-in_ok-end_file-in-Lines-clause-keeps g t c =
    Keeps-trans c.in_ok-inside.ensures.keeps (Keeps-trans c.in_ok-walk_lines-in-Lines.ensures.keeps c.in_ok-end_file-in-Lines.ensures.keeps)

pub enter-returns-in_ok-refuse_at-in-Refused-clause-keeps : goal.enter-returns-in_ok-refuse_at-in-Refused-clause-keeps
enter-returns-in_ok-refuse_at-in-Refused-clause-keeps g t c = Keeps-trans c.in_ok-inside.ensures.keeps c.in_ok-refuse_at-in-Refused.ensures.keeps

pub walk_lines-returns-in_err-take_line-clause-stops : goal.walk_lines-returns-in_err-take_line-clause-stops
walk_lines-returns-in_err-take_line-clause-stops g t c =
    stops-later c.args.space.now.limits.branches (g.S.Source.faults c.take_line.new.src) c.from_residual.result c.loop-number.invariant.gone.keeps.arities c.loop-number.invariant.reads.counted (search rules)

pub include_line-returns-in_err-enter-clause-stops : goal.include_line-returns-in_err-enter-clause-stops
include_line-returns-in_err-enter-clause-stops g t c =
    stops-later c.args.space.now.limits.branches (g.S.Source.faults c.enter.new.src) c.from_residual-in_err-enter.result c.loop-part.invariant.gone.keeps.arities c.loop-part.invariant.reads.counted (search rules)

pub include_line-returns-in_err-parts-clause-keeps : goal.include_line-returns-in_err-parts-clause-keeps
include_line-returns-in_err-parts-clause-keeps g t c = Keeps-trans c.in_ok-close_runs.ensures.keeps c.in_err-parts.ensures.keeps

-- ---- where it stops for the footprints of one place

pub take_line-returns-in_default-clause-footprints : goal.take_line-returns-in_default-clause-footprints
take_line-returns-in_default-clause-footprints g t c = λ x context told apart.
    answer-stops (λ at. at) _ c.args.space.now.limits.branches c.local_line.result refl (λ config f listed comes. λ m at from. comes m at tt)
    (IfErr-weaker c.local_line.result _ _ (λ stop stops. stops.at_place apart) (c.local_line.ensures.stops x))

pub walk_lines-returns-in_err-take_line-clause-footprints : goal.walk_lines-returns-in_err-take_line-clause-footprints
walk_lines-returns-in_err-take_line-clause-footprints g t c = λ x context told none apart.
    let lines = c.args.file.now in
    let line = c.index-line.result.now in
    let inv = c.loop-number.invariant in
    let i = c.loop-number.number in
    let below : i < length lines.lines.items = omega (arith, c.loop-number-test.true, c.len.ensures) in
    let same = ap (λ ts. tokens_of ts line) c.deref.ensures.value ∙ ap (tokens_of lines.tokens.items) c.index-line.ensures in
    let stops = c.in_err-take_line.ensures.footprints x context (inv.reads.kept ∙ told)
    (apart-line c.args.entry lines c.requires.lines i line below (tokens_of c.deref.result.now line) same c.loop-number.self (inv.apart none apart)) in
    line-stops c.args.space.now.limits.branches c.from_residual.result c.args.entry lines c.requires.lines i inv.gone inv.ready.read x context (inv.reads.kept ∙ told) line below (tokens_of c.deref.result.now line) same (search (rules, stops))

pub walk_lines-returns-clause-footprints : goal.walk_lines-returns-clause-footprints
walk_lines-returns-clause-footprints g t c = λ x context told none apart.
    let inv = c.loop-number.invariant in
    end-stops c.args.space.now.limits.branches c.close_runs.result c.args.entry c.args.file.now c.requires.lines c.loop-number.number inv.gone inv.ready.read x context (inv.reads.kept ∙ told)
    (omega (arith, c.loop-number-test.false, c.len.ensures)) (IfErr-weaker c.close_runs.result _ _
    (λ stop stops. stops.at_place (apart-left _ (to_come c.args.file.now c.loop-number.number) (inv.apart none apart))) c.close_runs.ensures.stops)

pub include_line-returns-in_err-close_runs-clause-footprints : goal.include_line-returns-in_err-close_runs-clause-footprints
include_line-returns-in_err-close_runs-clause-footprints g t c = λ x context told apart.
    let line = c.args.line.now in
    let stops = c.in_err-close_runs.ensures.stops.at_place (apart-left _ line apart) in
    closing-stops c.args.space.now.limits.branches c.from_residual.result c.args.space.now.standard c.args.names.now c.args.files.now (g.C.Conditions.sets c.args.conds.now) c.args.self.now
    (IsIn c.args.files.now c.args.entry) x line kind.Include (sym c.requires.directive) refl
    (search (rules, stops))

pub include_line-returns-in_err-parts-clause-footprints : goal.include_line-returns-in_err-parts-clause-footprints
include_line-returns-in_err-parts-clause-footprints g t c = λ x context told apart.
    let line = c.args.line.now in
    let closed = c.in_ok-close_runs.ensures in
    carried-stops c.args.space.now.limits.branches c.from_residual-in_err-parts.result c.args.space.now.standard c.args.names.now c.args.files.now (g.C.Conditions.sets c.args.conds.now) c.args.self.now
    (IsIn c.args.files.now c.args.entry) x line kind.Include (sym c.requires.directive) refl
    closed.names (λ k d h. (c.requires.placed k d h).held) closed.keeps closed.closes.simulates
    (λ d directed says. let stops = c.in_err-parts.ensures.footprints d directed says (apart-right (tokens_read c.args.self.now.runs.read) line apart) in search (rules, stops))

pub include_line-returns-in_err-enter-clause-footprints : goal.include_line-returns-in_err-enter-clause-footprints
include_line-returns-in_err-enter-clause-footprints g t c = λ x context told apart.
    let names = c.args.names.now in
    let files = c.args.files.now in
    let line = c.args.line.now in
    let inv = c.loop-part.invariant in
    let stops = c.in_err-enter.ensures.footprints x context (inv.reads.kept ∙ told) in
    file-stops c.args.space.now.limits.branches c.from_residual-in_err-enter.result c.args.space.now.standard names files c.args.entry line (directive-files c.args.space.now.standard names files line ∙ c.requires.directive)
    (g.C.Conditions.sets c.args.conds.now) c.args.self.now x c.deref-part-items.result.now c.loop-part.part-index c.part-item.result c.deeper.result c.part-item.is c.loop-part-test.true c.deeper.ensures
    inv.gone inv.ready.read context (inv.reads.kept ∙ told) (search (rules, stops))

pub enter-returns-in_err-walk_lines-in-Lines-clause-footprints : goal.enter-returns-in_err-walk_lines-in-Lines-clause-footprints
enter-returns-in_err-walk_lines-in-Lines-clause-footprints g t c = λ x context told.
    let old = g.C.Conditions.sets c.args.conds.now in
    let w = c.args.self.now in
    let ready = c.requires.ready in
    let keeps = c.in_ok-inside.ensures.keeps in
    let begins = c.in_ok-around-in-Lines.ensures in
    let named = content-named ready.read c.args.entry.file.0 c.requires.content in
    let has = kept-lines c.args.entry.file.0 _ (ready.read.told x.files told) named c.requires.content c.in-Lines.is in
    let stops = c.in_err-walk_lines-in-Lines.ensures.footprints x context told begins.read (lines-apart has.are) in
    let p = err_from_is_err_and c.from_residual-in_err-walk_lines-in-Lines.result c.from_residual-in_err-walk_lines-in-Lines.ensures.1 in
    answer-stops (λ at. at) _ c.args.space.now.limits.branches c.from_residual-in_err-walk_lines-in-Lines.result keeps.arities
    (comes-inside c.args.files.now c.args.cond c.args.entry keeps
    c.in_ok-inside.ensures.entering
    ready.owns ready.table begins x context.standard c.in-Lines.file named has) (rw (p.1, p.2) stops)

pub enter-returns-in_err-walk_lines-in-Lines-clause-stops : goal.enter-returns-in_err-walk_lines-in-Lines-clause-stops
enter-returns-in_err-walk_lines-in-Lines-clause-stops g t c =
    let same : g.S.Source.faults c.args.src.now ≤ g.S.Source.faults c.args.src.now = omega arith in
    let stops = c.in_err-walk_lines-in-Lines.ensures.stops in
    let p = err_from_is_err_and c.from_residual-in_err-walk_lines-in-Lines.result c.from_residual-in_err-walk_lines-in-Lines.ensures.1 in
    stops-later c.args.space.now.limits.branches (g.S.Source.faults c.walk_lines.new.src) c.from_residual-in_err-walk_lines-in-Lines.result c.in_ok-inside.ensures.keeps.arities same
    (rw (p.1, p.2) stops)

-- ---- what configurations share

pub enter-returns-then-is_never-clause-once : goal.enter-returns-then-is_never-clause-once
enter-returns-then-is_never-clause-once g t c = record {
  shares = λ x context agrees few. shares-still c.in_ok-inside.ensures.keeps c.args.names.now c.args.files.now c.args.self.now c.args.self.now (stored-ready c.requires.ready) refl refl refl;
  put = λ x context agrees few apart. puts-nowhere c.args.files.now c.args.cond c.args.entry c.in_ok-inside.ensures.keeps c.in_ok-inside.ensures.entering c.requires.ready.owns c.requires.ready.table x
      (c.is_never.ensures.0 c.if-is_never.true) c.args.self.now _;
}

pub enter-returns-in_ok-refuse_at-in-Refused-clause-once : goal.enter-returns-in_ok-refuse_at-in-Refused-clause-once
enter-returns-in_ok-refuse_at-in-Refused-clause-once g t c =
    let refused = c.in_ok-refuse_at-in-Refused.ensures in
    record {
      shares = λ x context agrees few.
          shares-still (Keeps-trans c.in_ok-inside.ensures.keeps refused.keeps) c.args.names.now c.args.files.now c.args.self.now c.refuse_at.new.self (stored-ready c.requires.ready)
          (ap (λ (v : Walk). v.runs) refused.refuses.same) (refused-list refused.refuses) (ap (λ (v : Walk). v.table) refused.refuses.same);
      put = λ x context agrees few apart.
          puts-refused c.args.files.now c.args.cond c.args.entry c.in_ok-inside.ensures.keeps c.in_ok-inside.ensures.entering c.requires.ready.owns c.requires.ready.table x _ _ refused.keeps refused.refuses _;
    }

pub enter-returns-in_ok-end_file-in-Lines-clause-once : goal.enter-returns-in_ok-end_file-in-Lines-clause-once
enter-returns-in_ok-end_file-in-Lines-clause-once g t c =
    let walked = c.in_ok-walk_lines-in-Lines.ensures in
    let goes = walked.goes in
    let ready = c.requires.ready in
    let inside = c.in_ok-inside.ensures.entering in
    let end = c.in_ok-end_file-in-Lines.ensures in
    let begins = c.in_ok-around-in-Lines.ensures in
    let files = c.args.files.now in
    let more = c.walk_lines.new.names in
    let more_files = c.walk_lines.new.files in
    let keeps = c.in_ok-inside.ensures.keeps in
    let named = content-named ready.read c.args.entry.file.0 c.requires.content in
    record {
      shares = λ x context agrees few.
          let held = agrees-back goes.names_grow goes.files_grow ready.read x.files goes.read agrees in
          let has = kept-lines c.args.entry.file.0 _ held named c.requires.content c.in-Lines.is in
          let put_more = (walked.once.shares x context agrees (subst (λ arities. HasConfigs arities (c.args.space.now.limits.branches + 1) → ⊥) (sym keeps.arities) few)).longer in
          let leads = leads-inside files c.args.cond c.args.entry keeps inside ready.owns ready.table more more_files goes.keeps end.keeps begins end.leaves goes.names_grow goes.files_grow ready.held walked.ready.owns
          walked.ready.table x context.standard _ named has (goes.leads x context agrees) in
          shares-around files c.args.cond c.args.entry keeps inside ready.owns ready.table more more_files goes.keeps end.keeps begins end.leaves goes.names_grow goes.files_grow ready.held walked.ready.owns
          walked.ready.table x context.standard _ named has (goes.leads x context agrees) put_more.0 put_more.1 (stored-ready ready) leads;
      put = λ x context agrees few apart.
          let held = agrees-back goes.names_grow goes.files_grow ready.read x.files goes.read agrees in
          let has = kept-lines c.args.entry.file.0 _ held named c.requires.content c.in-Lines.is in
          let few_then = subst (λ arities. HasConfigs arities (c.args.space.now.limits.branches + 1) → ⊥) (sym keeps.arities) few in
          let put_more = (walked.once.shares x context agrees few_then).longer in
          puts-inside files c.args.cond c.args.entry keeps inside ready.owns ready.table more more_files goes.keeps end.keeps begins end.leaves goes.names_grow goes.files_grow ready.held walked.ready.owns
          walked.ready.table x context.standard _ named has (goes.leads x context agrees) put_more.0 put_more.1 (walked.once.put x context agrees few_then (lines-apart has.are));
    }

pub include_line-returns-clause-once : goal.include_line-returns-clause-once
include_line-returns-clause-once g t c = record {
  shares = λ x context agrees few. (c.loop-part.invariant.entered x context agrees few).shares;
  put = λ x context agrees few apart.
      entered-all c.deref-part-items.result.now c.loop-part.part-index (omega (arith, c.loop-part-test.false, c.loop-part.auto.part-index-end)) c.loop-part.invariant.once c.one_to_one.ensures
      (directive-files c.args.space.now.standard c.args.names.now c.args.files.now c.args.line.now ∙ c.requires.directive) (c.loop-part.invariant.entered x context agrees few);
}

pub take_line-returns-in_default-clause-once : goal.take_line-returns-in_default-clause-once
take_line-returns-in_default-clause-once g t c =
    let line = seen_line c.args.space.now.standard c.args.names.now c.args.files.now c.args.tokens.now in
    let other : line.directive ≡ Some kind.Include → ⊥ = λ is.
    let e : c.args.line.now.directive ≡ Some kind.Include =
    c.requires.directive ∙ (sym (directive-files c.args.space.now.standard c.args.names.now c.args.files.now c.args.tokens.now) ∙ is) in
    elim c.in_default.branch [
      | take_line-in_default-via-in-Some+in_default w ↦ first_of (cc, search rules)
      | take_line-in_default-via-in_default w ↦ first_of (cc, search rules)
    ] in
    on_ok_both c.local_line.result (λ shares text. record {
      shares = λ x context agreed few. shares-any (IsIn c.args.files.now c.args.entry) (shares few);
      put = λ x context agreed few apart. text-put (IsIn c.args.files.now c.args.entry) line other (text few apart);
    }) c.local_line.ensures.shares c.local_line.ensures.text

pub walk_lines-returns-clause-once : goal.walk_lines-returns-clause-once
walk_lines-returns-clause-once g t c =
    let inv = c.loop-number.invariant in
    on_ok_both c.close_runs.result (λ closed shares.
    once-over c.args.entry c.args.file.now c.requires.lines c.loop-number.number inv.gone inv.ready.read inv.shares (omega (arith, c.loop-number-test.false, c.len.ensures))
    c.close_runs.ensures.names closed.simulates shares) c.close_runs.ensures.closes c.close_runs.ensures.shares

pub enter-returns-in_err-inside-clause-reads : goal.enter-returns-in_err-inside-clause-reads
enter-returns-in_err-inside-clause-reads g t c = reads-none (Extends-refl c.args.names.now)

pub enter-returns-then-is_never-clause-reads : goal.enter-returns-then-is_never-clause-reads
enter-returns-then-is_never-clause-reads g t c = reads-none (Extends-refl c.args.names.now)

pub enter-returns-in_err-around-in-Lines-clause-reads : goal.enter-returns-in_err-around-in-Lines-clause-reads
enter-returns-in_err-around-in-Lines-clause-reads g t c = reads-none (Extends-refl c.args.names.now)

pub enter-returns-in_err-refuse_at-in-Refused-clause-reads : goal.enter-returns-in_err-refuse_at-in-Refused-clause-reads
enter-returns-in_err-refuse_at-in-Refused-clause-reads g t c = reads-none (Extends-refl c.args.names.now)

pub enter-returns-in_ok-refuse_at-in-Refused-clause-reads : goal.enter-returns-in_ok-refuse_at-in-Refused-clause-reads
enter-returns-in_ok-refuse_at-in-Refused-clause-reads g t c = reads-none (Extends-refl c.args.names.now)

pub enter-returns-in_err-walk_lines-in-Lines-clause-reads : goal.enter-returns-in_err-walk_lines-in-Lines-clause-reads
enter-returns-in_err-walk_lines-in-Lines-clause-reads g t c = c.in_err-walk_lines-in-Lines.ensures.reads

pub enter-returns-in_err-end_file-in-Lines-clause-reads : goal.enter-returns-in_err-end_file-in-Lines-clause-reads
enter-returns-in_err-end_file-in-Lines-clause-reads g t c = c.in_ok-walk_lines-in-Lines.ensures.reads

pub enter-returns-in_ok-end_file-in-Lines-clause-reads : goal.enter-returns-in_ok-end_file-in-Lines-clause-reads
enter-returns-in_ok-end_file-in-Lines-clause-reads g t c = c.in_ok-walk_lines-in-Lines.ensures.reads

pub take_line-returns-in_default-clause-reads : goal.take_line-returns-in_default-clause-reads
take_line-returns-in_default-clause-reads g t c = reads-none c.local_line.ensures.names
