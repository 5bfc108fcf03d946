use Rattle.std.proofs.Common.{◌≡◌, ◌∙◌, ◌+◌, true, sym, subst, List}
use Rattle.std.proofs.lemmas.List.Elements.{All-nil}
use Rattle.std.specs.Prelude.{All}
use Rattle.sc_base.specs.declared.fault.Fault as base
use Rattle.std.proofs.lemmas.Result.{err_from_is_err_and}
use Rattle.sc_core.proofs.Filling.{stops-before}
use Rattle.sc_core.specs.Ordinary.{HasManyFootprints}
use Rattle.sc_core.proofs.Listing.{files-stop, has-listed, listed-or-out, prepared-live, some-listed}
use Rattle.sc_core.proofs.Telling.{tells-tokens}
use Rattle.sc_core.proofs.texts.text_under.Goals as goal
use Rattle.sc_expand.specs.Stops.{HasConfigs}
use Rattle.sc_guarded.specs.Printable.{AreApart, IsShowableFault}
use Rattle.sc_model.specs.Bytes.{has_no_newline}
use Rattle.sc_model.specs.Sets.{IsConfig, IsNever}
use Rattle.sc_prep.specs.Printable.{ArePlainPaths}
use Rattle.sc_show.proofs.Pieces.{text_lines}
use Rattle.sc_show.specs.Pieces.{IsLine}
use Rattle.sc_show.specs.Shows.{Shows}
use Rattle.sc_space.specs.Seen.{seen_space}

pub returns-clause-lines : goal.returns-clause-lines
returns-clause-lines g c =
    let shows = c.in_ok-lines.ensures.text in
    subst (All IsLine) (sym (shows.cut ∙ shows.text_of.reads.written)) (text_lines shows.text_of.reads.lines shows.text_of.reads.clear)

pub returns-clause-tokens : goal.returns-clause-tokens
returns-clause-tokens g c =
    let s = g.C.Conditions.sets c.preprocess.new.conds in
    let space = seen_space c.args.space.now in
    let p = c.in_ok-prepared.prepared in
    let from = c.in_ok-prepared.ensures.ordinary in
    let shows = subst (λ (fs : List base.Fault). Shows space (g.C.Conditions.sets c.show_tokens.new.conds) c.preprocess.new.names c.preprocess.new.files p.list fs c.in_ok-lines.lines.items) c.deref-2.ensures.value c.in_ok-lines.ensures.text in
    record {
      files = from.outside;
      held = from.held;
      text_of = tells-tokens c.in_ok-lines.ensures.keeps c.preprocess.new.names c.preprocess.new.files space from.outside c.args.file.now p
          (record { lines = c.in_ok-lines.lines; is_refused = c.has_fault-is_refused.result })
          shows c.in_ok-prepared.ensures.owns (c.in_ok-prepared.ensures.keeps.arities ∙ c.requires.arities)
          (some-listed c.requires.listed c.requires.arities c.requires.some)
          (λ config listed. from.ordinary config (subst (λ ns. IsConfig ns config) (sym c.requires.arities) listed.formed) (has-listed c.requires.listed c.requires.arities config listed))
          (listed-or-out c.requires.listed c.requires.arities c.in_ok-prepared.ensures.keeps from.others)
          (λ e. subst (All (λ (f : base.Fault). IsNever s f.cond.0)) c.deref.ensures.value (c.has_fault-is_refused.ensures.none e))
          (λ e all. c.has_fault-is_refused.ensures.some e (subst (All (λ (f : base.Fault). IsNever s f.cond.0)) (sym c.deref.ensures.value) all))
          (prepared-live c.requires.listed c.requires.arities c.in_ok-prepared.ensures.keeps from c.in_ok-prepared.ensures.live)
          (λ few. from.thin (subst (λ ns. HasConfigs ns (space.branches + 1) → ⊥) c.in_ok-prepared.ensures.keeps.arities few));
    }

pub show_tokens-requires-clause-files : goal.show_tokens-requires-clause-files
show_tokens-requires-clause-files g c =
    (c.in_ok-prepared.ensures.shown (subst ArePlainPaths (sym c.in_ok-files.ensures) (All-nil (λ path. has_no_newline path ≡ true))) c.requires.plain).paths

pub show_tokens-requires-clause-faults : goal.show_tokens-requires-clause-faults
show_tokens-requires-clause-faults g c =
    let shown = c.in_ok-prepared.ensures.shown (subst ArePlainPaths (sym c.in_ok-files.ensures) (All-nil (λ path. has_no_newline path ≡ true))) c.requires.plain in
    subst (All (IsShowableFault (g.C.Conditions.sets c.preprocess.new.conds) c.preprocess.new.files)) (sym c.deref-2.ensures.value) shown.faults

pub show_tokens-requires-clause-apart : goal.show_tokens-requires-clause-apart
show_tokens-requires-clause-apart g c =
    let shown = c.in_ok-prepared.ensures.shown (subst ArePlainPaths (sym c.in_ok-files.ensures) (All-nil (λ path. has_no_newline path ≡ true))) c.requires.plain in
    subst (AreApart (g.C.Conditions.sets c.preprocess.new.conds)) (sym c.deref-2.ensures.value) shown.apart

pub show_tokens-requires-clause-list : goal.show_tokens-requires-clause-list
show_tokens-requires-clause-list g c =
    (c.in_ok-prepared.ensures.shown (subst ArePlainPaths (sym c.in_ok-files.ensures) (All-nil (λ path. has_no_newline path ≡ true))) c.requires.plain).list

pub returns-in_err-prepared-clause-stops : goal.returns-in_err-prepared-clause-stops
returns-in_err-prepared-clause-stops g c =
    let p = err_from_is_err_and c.from_residual-in_err-prepared.result c.from_residual-in_err-prepared.ensures.1 in
    rw (p.1, p.2) (stops-before (λ s. HasManyFootprints s) (λ s many. many) (g.C.Conditions.sets c.args.conds.now).arities (seen_space c.args.space.now) c.args.file.now (g.S.Source.holds c.args.src.now) _ _
    c.requires.arities c.in_err-prepared.field-0.0 c.in_err-prepared.ensures.stops (λ outside held.
    files-stop c.requires.listed c.requires.arities outside c.args.file.now (seen_space c.args.space.now).branches c.in_err-prepared.field-0.0 (c.in_err-prepared.ensures.footprints outside held)))

pub returns-in_err-lines-clause-stops : goal.returns-in_err-lines-clause-stops
returns-in_err-lines-clause-stops g c =
    let p = err_from_is_err_and c.from_residual-in_err-lines.result c.from_residual-in_err-lines.ensures.1 in
    rw (p.1, p.2) tt
