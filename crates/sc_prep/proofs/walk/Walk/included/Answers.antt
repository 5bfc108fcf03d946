use Rattle.std.proofs.Common.{rules, ◌≡◌, ◌∙◌, ◌<◌, All, List, ℕ, arith, length, map, sym, ap, subst, string_bytes}
use Rattle.sc_prep.proofs.Contents.{IsPlaced-later, contents-later}
use Rattle.sc_prep.proofs.ExpressionMoves.{empty_context}
use Rattle.sc_prep.proofs.Facts.{All-nil, All-weaker, Extends-refl, Extends-trans, IfErr-weaker, IsTable-Extends, IsTable-Keeps, Keeps-trans}
use Rattle.sc_prep.proofs.FindLemmas.{once-none}
use Rattle.sc_prep.proofs.IncludeLeads.{parts-later}
use Rattle.sc_prep.proofs.LeadMoves.{contents-stay, limit-stops, reads-none, reads-then, stored-ready}
use Rattle.sc_prep.proofs.Grown.{held-later, plain-grown}
use Rattle.sc_prep.proofs.NamedFiles.{deep-leads, found-leads, has-hash, reading-stops, sound-plain}
use Rattle.sc_prep.proofs.Stopping.{reading-stops-nowhere}
use Rattle.sc_prep.proofs.Terms.{AllPass, AreFound, AreOnce, ArePartsOf, ArePlainNames, ArePlainPaths, C11, Finds, IsCond, IsIn, IsPlaced, Leads, Named, Part, ReadsNothing, Stops, StopsAtPlace, any_token, files_at, is_plain, seen_line, text_at}
use Rattle.sc_prep.proofs.WalkLeads.{gone-stage}
use Rattle.sc_prep.proofs.WalkMoves.{owns-kept}
use Rattle.sc_prep.proofs.walk.Walk.included.Goals as goal

-- ---- the headers are named

pub named-requires-clause-stored : goal.named-requires-clause-stored
named-requires-clause-stored g c = stored-ready c.requires.ready

pub returns-in_err-named-clause-stops : goal.returns-in_err-named-clause-stops
returns-in_err-named-clause-stops g c =
    let stops = c.in_err-named.ensures.stops.by in
    limit-stops (g.C.Conditions.sets c.args.conds.now).arities c.args.space.now.limits.branches (g.S.Source.faults c.args.src.now) (g.S.Source.faults c.args.src.now) c.from_residual.result (search (rules, stops))

pub returns-in_err-named-clause-footprints : goal.returns-in_err-named-clause-footprints
returns-in_err-named-clause-footprints g c = λ d directed says apart. let stops = c.in_err-named.ensures.stops.at_place c.args.space.now.standard d directed says apart in search (rules, stops)

-- ---- they are nested too deep

pub refuse_all-requires-clause-owns : goal.refuse_all-requires-clause-owns
refuse_all-requires-clause-owns g c = (c.in_ok-named.ensures.named.at C11 empty_context).simulates.owns

pub returns-in_err-refuse_all-clause-keeps : goal.returns-in_err-refuse_all-clause-keeps
returns-in_err-refuse_all-clause-keeps g c = Keeps-trans c.in_ok-named.ensures.keeps c.in_err-refuse_all.ensures.keeps

pub returns-then-entry-space-clause-goes : goal.returns-then-entry-space-clause-goes
returns-then-entry-space-clause-goes g c =
    let new = g.C.Conditions.sets c.refuse_all.new.conds in
    let files = c.args.files.now in
    let before = c.args.names.now in
    let line = c.args.line.now in
    let named = c.in_ok-named.ensures in
    let hash = has-hash c.args.space.now.standard before files line c.requires.line in
    gone-stage (Keeps-trans named.keeps c.in_ok-refuse_all.ensures.keeps) named.names
    (λ x context agrees.
    let depth : x.include_depth ≡ c.args.space.now.limits.include_depth = context.depth in
    subst (λ (parts : List Part). Leads files before (g.C.Conditions.sets c.args.conds.now) c.args.self.now files c.named.new.names new c.refuse_all.new.self (IsIn files c.args.entry)
    (λ config m n. Finds x (seen_line c.args.space.now.standard before files line) files m (files_at new parts config) n)) (sym c.new.ensures.items)
    (deep-leads c.args.space.now.standard x line hash.0 c.in_ok-named.named.items c.args.entry named.keeps c.requires.placed hash.1 (named.named.at c.args.space.now.standard x).simulates named.names
    (λ less. omega (arith, less, depth, c.if-entry-space.true)) (c.in_ok-refuse_all.ensures.moved c.args.space.now.standard c.named.new.names)))
    (λ given each list. subst (AllPass (is_plain c.named.new.names)) (sym (c.in_ok-refuse_all.ensures.list ∙ (named.named.at C11 empty_context).text.list))
    (plain-grown named.names (length files) c.args.self.now.prepared.list c.requires.ready.held.list list))

pub returns-then-entry-space-clause-parts : goal.returns-then-entry-space-clause-parts
returns-then-entry-space-clause-parts g c = record {
  parts = subst (ArePartsOf (g.C.Conditions.sets c.refuse_all.new.conds) c.args.contents.now) (sym c.new.ensures.items) (record { own = All-nil _; kept = All-nil _ });
  once = subst AreOnce (sym c.new.ensures.items) once-none;
  deep = λ some. absurd (omega (arith, subst (λ (parts : List Part). 0 < length parts) c.new.ensures.items some));
}

pub returns-then-entry-space-clause-ready : goal.returns-then-entry-space-clause-ready
returns-then-entry-space-clause-ready g c =
    let files = c.args.files.now in
    let texts = c.named.new.names in
    let named = c.in_ok-named.ensures in
    let moved = c.in_ok-refuse_all.ensures.moved C11 texts in
    let placed = All-weaker (IsPlaced c.args.names.now (length files)) (IsPlaced texts (length files)) (IsPlaced-later named.names (Extends-refl files)) c.args.line.now c.requires.placed in
    record {
      owns = moved.owns;
      table = moved.table (named.named.at C11 empty_context).simulates.table;
      held = c.in_ok-refuse_all.ensures.printable texts (length files) any_token placed (named.named.at C11 empty_context).text.held;
      read = contents-later named.names (Extends-refl files) c.requires.ready.read;
    }

pub returns-then-entry-space-clause-text : goal.returns-then-entry-space-clause-text
returns-then-entry-space-clause-text g c =
    let text = (c.in_ok-named.ensures.named.at C11 empty_context).text in
    (c.in_ok-refuse_all.ensures.runs ∙ text.runs, c.in_ok-refuse_all.ensures.list ∙ text.list)

pub returns-then-entry-space-clause-reads : goal.returns-then-entry-space-clause-reads
returns-then-entry-space-clause-reads g c = reads-none c.in_ok-named.ensures.names

pub returns-then-entry-space-clause-keeps : goal.returns-then-entry-space-clause-keeps
returns-then-entry-space-clause-keeps g c = Keeps-trans c.in_ok-named.ensures.keeps c.in_ok-refuse_all.ensures.keeps

-- ---- their files are found

pub find-requires-clause-own : goal.find-requires-clause-own
find-requires-clause-own g c =
    subst (λ (each : List Named). All (λ (n : Named). IsCond (g.C.Conditions.sets c.named.new.conds) n.cond.0) each) (sym c.deref-2.ensures.value) c.in_ok-named.ensures.named.own

pub find-requires-clause-contents : goal.find-requires-clause-contents
find-requires-clause-contents g c = contents-later c.in_ok-named.ensures.names (Extends-refl c.args.files.now) c.requires.ready.read

pub returns-in_err-found-clause-stops : goal.returns-in_err-found-clause-stops
returns-in_err-found-clause-stops g c =
    let arities = (g.C.Conditions.sets c.args.conds.now).arities in
    let limit = c.args.space.now.limits.branches in
    let old = g.S.Source.faults c.args.src.now in
    let new = g.S.Source.faults c.find.new.src in
    IfErr-weaker c.from_residual-in_err-found.result (ReadsNothing old new) (Stops arities limit old new) (reading-stops arities limit old new) (search rules)

pub returns-in_err-found-clause-reads : goal.returns-in_err-found-clause-reads
returns-in_err-found-clause-reads g c = reads-then (reads-none c.in_ok-named.ensures.names) c.in_err-found.ensures.reads

pub returns-in_err-found-clause-keeps : goal.returns-in_err-found-clause-keeps
returns-in_err-found-clause-keeps g c = Keeps-trans c.in_ok-named.ensures.keeps c.in_err-found.ensures.keeps

-- ---- those that find none are refused

pub refuse_acting-requires-clause-owns : goal.refuse_acting-requires-clause-owns
refuse_acting-requires-clause-owns g c = owns-kept c.in_ok-found.ensures.keeps c.named.new.self (c.in_ok-named.ensures.named.at C11 empty_context).simulates.owns

pub refuse_acting-requires-clause-own : goal.refuse_acting-requires-clause-own
refuse_acting-requires-clause-own g c = c.in_ok-found.ensures.found.missing

pub returns-in_err-refuse_acting-clause-reads : goal.returns-in_err-refuse_acting-clause-reads
returns-in_err-refuse_acting-clause-reads g c = reads-then (reads-none c.in_ok-named.ensures.names) c.in_ok-found.ensures.reads

pub returns-in_err-refuse_acting-clause-keeps : goal.returns-in_err-refuse_acting-clause-keeps
returns-in_err-refuse_acting-clause-keeps g c = Keeps-trans c.in_ok-named.ensures.keeps (Keeps-trans c.in_ok-found.ensures.keeps c.in_err-refuse_acting.ensures.keeps)

pub returns-clause-goes : goal.returns-clause-goes
returns-clause-goes g c =
    let old = g.C.Conditions.sets c.named.new.conds in
    let new = g.C.Conditions.sets c.find.new.conds in
    let files = c.args.files.now in
    let before = c.args.names.now in
    let line = c.args.line.now in
    let named = c.in_ok-named in
    let more = c.find.new.files in
    let later = c.find.new.names in
    let contents = c.find.new.contents in
    let found = c.in_ok-found.found in
    let including = text_at files c.args.entry.file.0 in
    let hash = has-hash c.args.space.now.standard before files line c.requires.line in
    let refused = c.in_ok-refuse_acting.ensures in
    record {
      keeps = Keeps-trans named.ensures.keeps (Keeps-trans c.in_ok-found.ensures.keeps refused.keeps);
      names_grow = Extends-trans named.ensures.names c.in_ok-found.ensures.reads.names;
      files_grow = c.in_ok-found.ensures.reads.files;
      read = c.in_ok-found.ensures.read;
      leads = λ x context agrees.
          let depth : x.include_depth ≡ c.args.space.now.limits.include_depth = context.depth in
          let directories : map string_bytes c.deref.result.now ≡ x.include = ap (map string_bytes) c.deref.ensures.value ∙ sym context.include in
          let of_each = subst (λ (each : List Named). AreFound c.args.space.now.standard old each including (map string_bytes c.deref.result.now) later more contents new found) c.deref-2.ensures.value c.in_ok-found.ensures.found in
          found-leads c.args.space.now.standard x line hash.0 named.named.items c.args.entry named.ensures.keeps c.requires.placed hash.1 (named.ensures.named.at c.args.space.now.standard x).simulates named.ensures.names
          found c.in_ok-found.ensures.keeps c.in_ok-refuse_acting.ensures.keeps c.in_ok-found.ensures.reads.names c.in_ok-found.ensures.reads.files (named.ensures.named.at C11 empty_context).text.held
          (omega (arith, depth, c.if-entry-space.false)) agrees
          (subst (λ (each : List (List ℕ)). AreFound c.args.space.now.standard old named.named.items including each later more contents new found) directories of_each)
          (c.in_ok-refuse_acting.ensures.moved c.args.space.now.standard later);
      plain = λ spelled x context agrees sound paths each list.
          subst (AllPass (is_plain later)) (sym (refused.list ∙ (named.ensures.named.at C11 empty_context).text.list))
          (plain-grown (Extends-trans named.ensures.names c.in_ok-found.ensures.reads.names) (length files) c.args.self.now.prepared.list c.requires.ready.held.list list);
      paths = λ spelled x context agrees sound paths each.
          c.in_ok-found.ensures.paths (subst ArePlainPaths (sym (ap (map string_bytes) c.deref.ensures.value)) (sound-plain sound))
          (subst ArePlainNames (sym c.deref-2.ensures.value) (named.ensures.plain c.args.entry spelled paths each)) paths;
    }

pub returns-clause-parts : goal.returns-clause-parts
returns-clause-parts g c = record {
  parts = parts-later c.in_ok-refuse_acting.ensures.keeps (contents-stay c.find.new.contents) c.in_ok-found.ensures.found.parts;
  once = c.in_ok-found.ensures.once;
  deep = λ some. omega (arith, c.if-entry-space.false);
}

pub returns-clause-ready : goal.returns-clause-ready
returns-clause-ready g c =
    let files = c.args.files.now in
    let more = c.find.new.files in
    let later = c.find.new.names in
    let named = c.in_ok-named.ensures in
    let found = c.in_ok-found.ensures in
    let moved = c.in_ok-refuse_acting.ensures.moved C11 later in
    let placed =
    All-weaker (IsPlaced c.args.names.now (length files)) (IsPlaced later (length more)) (IsPlaced-later (Extends-trans named.names found.reads.names) found.reads.files) c.args.line.now c.requires.placed in
    record {
      owns = moved.owns;
      table = moved.table (IsTable-Extends found.reads.names (IsTable-Keeps found.keeps (named.named.at C11 empty_context).simulates.table));
      held = c.in_ok-refuse_acting.ensures.printable later (length more) any_token placed (held-later found.reads.names found.reads.files c.named.new.self (named.named.at C11 empty_context).text.held);
      read = found.contents;
    }

pub returns-clause-text : goal.returns-clause-text
returns-clause-text g c =
    let text = (c.in_ok-named.ensures.named.at C11 empty_context).text in
    (c.in_ok-refuse_acting.ensures.runs ∙ text.runs, c.in_ok-refuse_acting.ensures.list ∙ text.list)

pub returns-clause-reads : goal.returns-clause-reads
returns-clause-reads g c = reads-then (reads-none c.in_ok-named.ensures.names) c.in_ok-found.ensures.reads

pub returns-clause-keeps : goal.returns-clause-keeps
returns-clause-keeps g c = Keeps-trans c.in_ok-named.ensures.keeps (Keeps-trans c.in_ok-found.ensures.keeps c.in_ok-refuse_acting.ensures.keeps)

pub returns-in_err-found-clause-footprints : goal.returns-in_err-found-clause-footprints
returns-in_err-found-clause-footprints g c = λ d directed says apart.
    let old = g.S.Source.faults c.args.src.now in
    let new = g.S.Source.faults c.find.new.src in
    IfErr-weaker c.from_residual-in_err-found.result (ReadsNothing old new) (StopsAtPlace _ _ _) (reading-stops-nowhere _ _ _ old new) (search rules)

pub returns-in_err-named-clause-reads : goal.returns-in_err-named-clause-reads
returns-in_err-named-clause-reads g c = reads-none c.in_err-named.ensures.names

pub returns-in_err-refuse_all-clause-reads : goal.returns-in_err-refuse_all-clause-reads
returns-in_err-refuse_all-clause-reads g c = reads-none c.in_ok-named.ensures.names
