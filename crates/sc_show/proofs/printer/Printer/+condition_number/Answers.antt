use Rattle.std.proofs.Common.{◌≡◌, ◌+◌, ◌<◌, ◌≤◌, ◌==◌, ◌∙◌, ap, sym, refl, subst, length, length-append, rules, arith}
use Rattle.indexmap.proofs.CallerLemmas.{Contains-list_any}
use Rattle.sc_base.specs.declared.id.Cond.{Cond}
use Rattle.sc_model.proofs.SetLemmas.{Keeps-refl, Keeps-trans, DependsFrom-Keeps, IsConfig-kept, le-IsTop, IsTop-Keeps}
use Rattle.std.proofs.lemmas.List.{length-map}
use Rattle.sc_space.specs.Seen.{seen_option, seen_space, seen_variable}
use Rattle.sc_show.specs.Rules.{AreFrom, Introduced}
use Rattle.sc_show.proofs.PrinterChildren.{HasChildren, HasChildren-none, HasChildren-grows, HasChildren-push}
use Rattle.sc_show.proofs.PrinterNumbers.{same_cond, present, slice_get-position, IsTable-Keeps, pushed, pushed_at}
use Rattle.sc_show.proofs.PrinterIntroducing.{AreFrom-none, AreFrom-before, AreFrom-push, AreFrom-trans, AreFrom-absent, Introduced-trans, Introduced-nothing, Introduced-known, Introduced-node, numbered, absent_cond}
use Rattle.sc_show.proofs.PrinterSteps.{variable_within, variable_at, arity_at}
use Rattle.sc_show.proofs.printer.Printer.+condition_number.Goals as goal

pub part-requires-clause-option : goal.part-requires-clause-option
part-requires-clause-option g t c =
    let below = variable_within c.args.space.now _ c.in-Some-top.variable c.requires.arities c.in-Some-top.ensures.some.depends.within in
    let arity = arity_at (seen_space c.args.space.now) _ _ (seen_variable c.index-named.result.now) (c.loop-option.invariant.keeps.arities ∙ c.requires.arities) (variable_at c.args.space.now _ _ c.index-named.ensures below) in
    omega (arith, arity, length-map c.index-named.result.now.options.items seen_option)

pub returns-in_err-part-clause-keeps : goal.returns-in_err-part-clause-keeps
returns-in_err-part-clause-keeps g t c = Keeps-trans c.loop-option.invariant.keeps c.part.ensures.keeps

pub condition_number-requires : goal.condition_number-requires
condition_number-requires g t c κs within =
    let ahead : c.args.from ≤ c.in-Some-top.variable = le-IsTop c.in-Some-top.ensures.some c.requires.from in
    let below = variable_within c.args.space.now _ c.in-Some-top.variable c.requires.arities c.in-Some-top.ensures.some.depends.within in
    let arities = c.part.ensures.keeps.arities ∙ c.loop-option.invariant.keeps.arities ∙ c.requires.arities in
    let table = IsTable-Keeps c.part.ensures.keeps c.loop-option.invariant.lines.table in (
      search rules,
      (within, (c.in_ok-part.ensures.own, (c.in_ok-part.ensures.later c.loop-option.invariant.later, (arities, (c.requires.names, table))))),
    )

pub returns-in_err-child-clause-keeps : goal.returns-in_err-child-clause-keeps
returns-in_err-child-clause-keeps g t c = Keeps-trans c.loop-option.invariant.keeps (Keeps-trans c.part.ensures.keeps c.condition_number.ensures.keeps)

pub returns-in_err-push-clause-keeps : goal.returns-in_err-push-clause-keeps
returns-in_err-push-clause-keeps g t c = Keeps-trans c.loop-option.invariant.keeps (Keeps-trans c.part.ensures.keeps c.condition_number.ensures.keeps)

pub loop-option-init : goal.loop-option-init
loop-option-init g t c = record {
  own = c.requires.own;
  later = c.in-Some-top.ensures.some.first;
  keeps = Keeps-refl _;
  lines = subst (Introduced (seen_space c.args.space.now) _ _ c.args.self.now c.args.self.now) (sym c.new-children.ensures.items) (Introduced-nothing (Keeps-refl _) c.requires.table);
  from = AreFrom-none;
  children = subst (HasChildren _ _ _ _) (sym c.new-children.ensures.items) HasChildren-none;
  count = ap length c.new-children.ensures.items;
}

pub loop-option-preserved : goal.loop-option-preserved
loop-option-preserved g t c =
    let was = c.loop-option.invariant in
    let more = c.in_ok-child.ensures.lines in
    let later = c.condition_number.ensures.keeps in
    let kept = Keeps-trans c.part.ensures.keeps later in
    let longer : length c.push.new.self.items ≡ length c.loop-option.children.items + 1 = ap length c.in_ok-push.ensures.items ∙ length-append _ _ in
    record {
      own = kept.own _ was.own;
      later = DependsFrom-Keeps kept was.own was.later;
      keeps = Keeps-trans was.keeps kept;
      lines = subst (Introduced (seen_space c.args.space.now) _ _ _ _) (sym c.in_ok-push.ensures.items)
          (Introduced-trans kept was.lines (Introduced-trans later (Introduced-nothing c.part.ensures.keeps was.lines.table) more));
      from = AreFrom-trans kept was.lines.table more.grows was.from c.in_ok-child.ensures.later;
      children = subst (HasChildren _ _ _ _) (sym c.in_ok-push.ensures.items)
          (HasChildren-push c.in_ok-child.child (record {
            child = c.in_ok-part.part;
            found = c.in_ok-child.ensures.number;
            own = later.own _ c.in_ok-part.ensures.own;
            later = DependsFrom-Keeps later c.in_ok-part.ensures.own (c.in_ok-part.ensures.later was.later);
            agrees = λ x listed chosen.
                let between = IsConfig-kept later listed in
                let before = IsConfig-kept c.part.ensures.keeps between in
                later.at _ x c.in_ok-part.ensures.own between ∙ c.in_ok-part.ensures.chosen x before (chosen ∙ was.count) ∙ sym (kept.at _ x was.own before);
          }) (HasChildren-grows kept was.own more.grows was.children));
      count = longer ∙ ap (λ n. n + 1) was.count;
    }

-- never and always have numbers from the start
pub unreachable-requires : goal.unreachable-requires
unreachable-requires g t c =
    absent_cond c.args.self.now.conditions.keys c.args.cond c.in_default.ensures.found
    (numbered c.args.cond c.canonical.ensures c.requires.table c.requires.own (c.in_default-top.ensures.none.0 (search rules)))

-- a condition that has a number prints nothing
pub returns-in-Some : goal.returns-in-Some
returns-in-Some g t c =
    let number = slice_get-position _ _ _ c.in-Some.ensures.index in
    record { number = number; lines = Introduced-known c.args.cond _ c.requires.table number; later = AreFrom-none; keeps = Keeps-refl _ }

pub returns-then-not-is_new : goal.returns-then-not-is_new
returns-then-not-is_new g t c =
    let was = c.loop-option.invariant in
    let has = Contains-list_any (λ (a b : Cond). a.0 == b.0) same_cond c.loop-option.self.conditions.keys c.args.cond
    (present (λ (a b : Cond). a.0 == b.0) c.args.cond c.loop-option.self.conditions.keys c.insert_full.new.self.keys c.in_ok-number.number (sym c.if-not-is_new.true ∙ c.in_ok-number.ensures.added)) in
    absurd (AreFrom-absent c.args.cond was.lines.grows was.from (IsTop-Keeps was.keeps c.requires.own c.in-Some-top.ensures.some)
    (absent_cond c.args.self.now.conditions.keys c.args.cond c.in_default.ensures.found) has)

pub returns-clause-lines : goal.returns-clause-lines
returns-clause-lines g t c =
    let was = c.loop-option.invariant in
    let below = variable_within c.args.space.now _ c.in-Some-top.variable c.requires.arities c.in-Some-top.ensures.some.depends.within in
    let arities = was.keeps.arities ∙ c.requires.arities in
    let placed = subst (λ ns. c.in-Some-top.variable < length ns) (sym was.keeps.arities) c.in-Some-top.ensures.some.depends.within in
    let fresh = sym c.if-not-is_new.false ∙ c.in_ok-number.ensures.added in
    Introduced-node c.args.cond (seen_variable c.index-named.result.now) c.in-Some-top.variable c.in_ok-number.number c.deref.result.now c.requires.names arities
    (variable_at c.args.space.now _ _ c.index-named.ensures below) placed was.own was.lines was.children (omega (arith, length-map c.index-named.result.now.options.items seen_option))
    (pushed_at (λ (a b : Cond). a.0 == b.0) _ _ c.insert_full.new.self.keys _ fresh c.in_ok-number.ensures.index) (pushed (λ (a b : Cond). a.0 == b.0) _ _ _ c.in_ok-number.number fresh c.in_ok-number.ensures.keys)
    refl refl c.deref.ensures.value c.in_ok-write_condition.ensures

pub returns-clause-later : goal.returns-clause-later
returns-clause-later g t c =
    let was = c.loop-option.invariant in
    let fresh = sym c.if-not-is_new.false ∙ c.in_ok-number.ensures.added in
    let ahead : c.args.from ≤ c.in-Some-top.variable = le-IsTop c.in-Some-top.ensures.some c.requires.from in
    subst (λ ks. AreFrom (g.C.Conditions.sets c.loop-option.conds) c.args.self.now.conditions.keys ks c.args.from)
    (sym (pushed (λ (a b : Cond). a.0 == b.0) _ _ _ c.in_ok-number.number fresh c.in_ok-number.ensures.keys))
    (AreFrom-push c.args.cond (DependsFrom-Keeps was.keeps c.requires.own c.requires.from) (AreFrom-before (omega arith) was.from))
