use Rattle.std.proofs.Common.{◌≡◌, ◌∙◌, ◌+◌, ℕ, true, List, All, Some, inl, refl, sym, subst}
use Rattle.std.proofs.lemmas.List.Elements.{All-weaker}
use Rattle.std.proofs.lemmas.Result.{err_from_is_err_and}
use Rattle.c11_directives.specs.Listed.{IsListed}
use Rattle.sc_base.specs.declared.id.Cond.{Cond}
use Rattle.sc_base.specs.declared.token.Token.{Token}
use Rattle.sc_base.specs.Seen.{IsHeld}
use Rattle.sc_expand.specs.Stops.{HasConfigs}
use Rattle.sc_core.proofs.ParsedFiles.{c11-is, c11-parser, file-input, input, is-input, is-listed-input, listed_input, others-after, parsed-answers, parsed-apart, parsed-faults, parsed-leaves, stops-in, translated-at}
use Rattle.sc_core.proofs.Choices.{no-choices}
use Rattle.sc_core.proofs.Filling.{stops-before}
use Rattle.sc_core.proofs.Listing.{files-stop, formed-before, formed-now, has-listed, prepared-listed, prepared-live, prepared-ordinary, prepared-others}
use Rattle.sc_core.proofs.ToldFiles.{ends-told, ordinary-told, thin-told}
use Rattle.sc_core.proofs.tree_texts.parsed.Goals as goal
use Rattle.sc_core.proofs.tree_texts.parsed.Goals.{After-drop-prepared-2}
use Rattle.sc_core.specs.Ordinary.{HasManyBranches}
use Rattle.sc_core.specs.Texts.{AreTranslated, HasAnswers}
use Rattle.sc_fork.specs.Choices.{AddsLeaves}
use Rattle.sc_guarded.specs.Printable.{AreApart, IsShowable, IsShowableFault}
use Rattle.sc_merge.specs.Merges.{tables_with}
use Rattle.sc_model.proofs.SetLemmas.{Keeps-trans}
use Rattle.sc_model.specs.Sets.{IsConfig}
use Rattle.sc_space.specs.Seen.{seen_space}
use Rattle.sc_tree.specs.Lines.{Line}

pub parse-requires-clause-held : goal.parse-requires-clause-held
parse-requires-clause-held g c =
    let list = c.in_ok-prepared.prepared.list in
    let shown = c.in_ok-prepared.ensures.shown c.requires.paths c.requires.plain in
    All-weaker (IsShowable (g.C.Conditions.sets c.preprocess.new.conds) c.preprocess.new.names c.preprocess.new.files) (λ (item : Cond × Token). IsHeld c.preprocess.new.names item.1) (λ item is. is.held) list shown.list

pub returns-in_err-prepared-clause-stops : goal.returns-in_err-prepared-clause-stops
returns-in_err-prepared-clause-stops g c =
    let p = err_from_is_err_and c.from_residual.result c.from_residual.ensures.1 in
    rw (p.1, p.2) (stops-before (λ s. HasManyBranches s) (λ s many. inl many) (g.C.Conditions.sets c.args.conds.now).arities (seen_space c.args.space.now) c.args.file.now (g.S.Source.holds c.args.src.now) _ _ c.requires.arities c.in_err-prepared.field-0.0
    c.in_err-prepared.ensures.stops (λ outside held.
    files-stop c.requires.listed c.requires.arities outside c.args.file.now (seen_space c.args.space.now).branches c.in_err-prepared.field-0.0 (c.in_err-prepared.ensures.footprints outside held)))

pub returns-in_err-parsed-clause-stops : goal.returns-in_err-parsed-clause-stops
returns-in_err-parsed-clause-stops g c =
    let s = g.C.Conditions.sets c.preprocess.new.conds in
    let names = c.preprocess.new.names in
    let files = c.preprocess.new.files in
    let prepared = c.in_ok-prepared.prepared in
    let tables = c.in_ok-tables.tables in
    let are = c.in_ok-tables.ensures in
    let made = c.in_ok-prepared.ensures in
    let shown = made.shown c.requires.paths c.requires.plain in
    let space = seen_space c.args.space.now in
    let main = c.args.file.now in
    let arities = made.keeps.arities ∙ c.requires.arities in
    let p = err_from_is_err_and c.from_residual-in_err-parsed.result c.from_residual-in_err-parsed.ensures.1 in
    rw (p.1, p.2) (stops-in s names files prepared tables c.args.space.now.standard are shown space refl main (g.S.Source.holds c.args.src.now) _ _ arities
    (λ outside holds. file-input s names files prepared tables c.args.space.now.standard are shown space main outside arities
    (λ config listed. ordinary-told made.ordinary outside holds config (formed-before c.requires.listed c.requires.arities made.keeps made.ordinary made.live config listed) (has-listed c.requires.listed c.requires.arities config listed))
    (prepared-listed c.requires.listed c.requires.arities made.keeps made.ordinary made.live)
    (λ bytes held config listed live. ends-told made.ordinary outside holds bytes config held (subst (λ ns. IsConfig ns config) made.keeps.arities listed) live)
    (λ few. thin-told made.ordinary outside holds (subst (λ ns. HasConfigs ns (space.branches + 1) → ⊥) made.keeps.arities few)))
    c.in_err-parsed.field-0.0 (c.in_err-parsed.ensures.stops files (listed_input s names files prepared tables c.args.space.now.standard are shown) (is-listed-input s names files prepared tables c.args.space.now.standard are shown c.new-trees.result)))

pub returns-in_err-parsed-clause-keeps : goal.returns-in_err-parsed-clause-keeps
returns-in_err-parsed-clause-keeps g c = Keeps-trans c.preprocess.ensures.keeps c.parse.ensures.keeps

pub returns-in_err-append-clause-keeps : goal.returns-in_err-append-clause-keeps
returns-in_err-append-clause-keeps g c = Keeps-trans c.preprocess.ensures.keeps c.parse.ensures.keeps

pub returns-clause-shown : goal.returns-clause-shown
returns-clause-shown g c =
    let s = g.C.Conditions.sets c.preprocess.new.conds in
    let new = g.C.Conditions.sets c.parse.new.conds in
    let names = c.preprocess.new.names in
    let files = c.preprocess.new.files in
    let prepared = c.in_ok-prepared.prepared in
    let tables = c.in_ok-tables.tables in
    let are = c.in_ok-tables.ensures in
    let made = c.in_ok-prepared.ensures in
    let shown = made.shown c.requires.paths c.requires.plain in
    let parsed = c.in_ok-parsed.parsed in
    let is = is-input s names files prepared tables c.args.space.now.standard are shown c.new-trees.result in
    let parse = c.in_ok-parsed.ensures.parse files (input s names files prepared tables c.args.space.now.standard are shown) is in
    let schedule = c.in_ok-parsed.ensures.schedule files (input s names files prepared tables c.args.space.now.standard are shown) is in
    let items = c.in_ok-append.ensures.items in
    let space = seen_space c.args.space.now in
    record {
      leaves = parsed-leaves shown (subst (λ (old : List Line). AddsLeaves prepared.list old c.parse.new.trees) c.new-trees.ensures c.in_ok-parsed.ensures.leaves);
      branches = c.parse.ensures.owns;
      root = c.in_ok-parsed.ensures.own.root;
      faults = subst (All (IsShowableFault new files)) (sym items) (parsed-faults shown c.parse.ensures.keeps c.in_ok-parsed.ensures.own made.end_held);
      apart = subst (AreApart new) (sym items) (parsed-apart s new c.parse.ensures.keeps names files prepared tables c.args.space.now.standard are shown made.owns c.parse.new.trees parsed parsed.events.items parse schedule (IsListed space)
          (formed-now c.requires.listed c.requires.arities made.keeps made.ordinary made.live) (prepared-live c.requires.listed c.requires.arities made.keeps made.ordinary made.live)
          (prepared-listed c.requires.listed c.requires.arities made.keeps made.ordinary made.live));
      paths = shown.paths;
    }

pub returns-clause-translated : goal.returns-clause-translated
returns-clause-translated g c =
    let s = g.C.Conditions.sets c.preprocess.new.conds in
    let new = g.C.Conditions.sets c.parse.new.conds in
    let names = c.preprocess.new.names in
    let files = c.preprocess.new.files in
    let prepared = c.in_ok-prepared.prepared in
    let tables = c.in_ok-tables.tables in
    let are = c.in_ok-tables.ensures in
    let made = c.in_ok-prepared.ensures in
    let shown = made.shown c.requires.paths c.requires.plain in
    let parsed = c.in_ok-parsed.parsed in
    let is = is-input s names files prepared tables c.args.space.now.standard are shown c.new-trees.result in
    let parse = c.in_ok-parsed.ensures.parse files (input s names files prepared tables c.args.space.now.standard are shown) is in
    let schedule = c.in_ok-parsed.ensures.schedule files (input s names files prepared tables c.args.space.now.standard are shown) is in
    let space = seen_space c.args.space.now in
    let main = c.args.file.now in
    let arities = made.keeps.arities ∙ c.requires.arities in
    let ordinary = prepared-ordinary c.requires.listed c.requires.arities made.keeps made.ordinary made.live in
    let listed_of = prepared-listed c.requires.listed c.requires.arities made.keeps made.ordinary made.live in
    let ends = λ (bytes : List ℕ) (held : made.ordinary.outside main ≡ Some bytes) (config : List ℕ) (listed : IsConfig s.arities config) (live : s.has prepared.live.0 config ≡ true).
    made.ordinary.ends bytes config held (subst (λ ns. IsConfig ns config) made.keeps.arities listed) live in
    subst (λ faults. AreTranslated (g.S.Source.holds c.args.src.now) space main (tables_with new c.parse.new.trees names files) parsed.root faults parsed.classes) (sym c.in_ok-append.ensures.items)
    (record {
      parser = c11-parser c.args.space.now.standard are;
      c11 = c11-is c.args.space.now.standard are;
      files = made.ordinary.outside;
      held = made.ordinary.held;
      each = translated-at s new c.parse.ensures.keeps names files prepared tables c.args.space.now.standard are shown made.owns c.parse.new.trees parsed parsed.events.items parse schedule space main made.ordinary.outside
          arities ordinary ends;
      others = others-after s new c.parse.ensures.keeps names files prepared tables c.args.space.now.standard are shown made.owns c.parse.new.trees parsed parsed.events.items parse schedule space main made.ordinary.outside
          arities ordinary ends (prepared-others c.requires.listed c.requires.arities made.keeps made.ordinary made.live);
      classes = record {
        c11 = c11-is c.args.space.now.standard are;
        input = listed_input s names files prepared tables c.args.space.now.standard are shown;
        is_input = file-input s names files prepared tables c.args.space.now.standard are shown space main made.ordinary.outside arities ordinary listed_of ends
            (λ few. made.ordinary.thin (subst (λ ns. HasConfigs ns (space.branches + 1) → ⊥) made.keeps.arities few));
        most_are = (c.in_ok-parsed.ensures.parse files (listed_input s names files prepared tables c.args.space.now.standard are shown) (is-listed-input s names files prepared tables c.args.space.now.standard are shown c.new-trees.result)).classes;
      };
      few = c.in_ok-parsed.ensures.few;
    })

pub returns-clause-answered : goal.returns-clause-answered
returns-clause-answered g c =
    let s = g.C.Conditions.sets c.preprocess.new.conds in
    let new = g.C.Conditions.sets c.parse.new.conds in
    let names = c.preprocess.new.names in
    let files = c.preprocess.new.files in
    let prepared = c.in_ok-prepared.prepared in
    let tables = c.in_ok-tables.tables in
    let are = c.in_ok-tables.ensures in
    let made = c.in_ok-prepared.ensures in
    let shown = made.shown c.requires.paths c.requires.plain in
    let parsed = c.in_ok-parsed.parsed in
    let is = is-input s names files prepared tables c.args.space.now.standard are shown c.new-trees.result in
    let parse = c.in_ok-parsed.ensures.parse files (input s names files prepared tables c.args.space.now.standard are shown) is in
    let schedule = c.in_ok-parsed.ensures.schedule files (input s names files prepared tables c.args.space.now.standard are shown) is in
    let lines = c.parse.new.trees in
    subst (HasAnswers (IsListed (seen_space c.args.space.now)) (tables_with new lines names files) parsed.root) (sym c.in_ok-append.ensures.items)
    (parsed-answers s new c.parse.ensures.keeps names files prepared tables c.args.space.now.standard are shown made.owns lines parsed parsed.events.items parse schedule (IsListed (seen_space c.args.space.now))
    (formed-now c.requires.listed c.requires.arities made.keeps made.ordinary made.live) (prepared-live c.requires.listed c.requires.arities made.keeps made.ordinary made.live)
    (prepared-listed c.requires.listed c.requires.arities made.keeps made.ordinary made.live))

pub returns-clause-keeps : goal.returns-clause-keeps
returns-clause-keeps g c = Keeps-trans c.preprocess.ensures.keeps c.parse.ensures.keeps

pub returns-clause-choices : goal.returns-clause-choices
returns-clause-choices g c =
    let s = g.C.Conditions.sets c.preprocess.new.conds in
    let names = c.preprocess.new.names in
    let files = c.preprocess.new.files in
    let prepared = c.in_ok-prepared.prepared in
    let tables = c.in_ok-tables.tables in
    let are = c.in_ok-tables.ensures in
    let shown = c.in_ok-prepared.ensures.shown c.requires.paths c.requires.plain in
    c.in_ok-parsed.ensures.choices files (input s names files prepared tables c.args.space.now.standard are shown) (is-input s names files prepared tables c.args.space.now.standard are shown c.new-trees.result) (no-choices s c.new-trees.result c.new-trees.ensures)
