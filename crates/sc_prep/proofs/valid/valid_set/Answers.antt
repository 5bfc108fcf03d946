use Rattle.std.proofs.Common.{◌∙◌, All, Bool, List, None, Ok, Some, ap, length, subst, sym, ◌≡◌}
use Rattle.std.specs.Prelude.{string_bytes}
use Rattle.c11_directives.specs.Listed.{IsValidLine, SaysValid, absent, up_to}
use Rattle.sc_base.specs.declared.fault.Fault.{Fault}
use Rattle.sc_prep.proofs.Facts.{err_from_is_err_and}
use Rattle.sc_prep.proofs.MainFile.{stored-new}
use Rattle.sc_prep.proofs.Terms.{AskedHas, Expression, IsCond, IsPlaced, StopsStage, Token, context_of, is_newline, option_map, seen_line, seen_space, test_of}
use Rattle.sc_prep.proofs.valid.valid_set.Goals as goal
use Rattle.sc_prep.proofs.ValidLine.{fails-expression, fails-text, valid-asks, valid-line, valid-placed}
use Rattle.sc_prep.proofs.ValidMoves.{refused-by, valid-is}
use Rattle.sc_prep.specs.Valid.{FindsLeast}

abbrev ends : Token → Bool
ends t = is_newline t.kind

pub returns-in_default-clause-valid : goal.returns-in_default-clause-valid
returns-in_default-clause-valid g c =
    let space = seen_space c.args.space.now in
    let none : space.valid ≡ None = ap (option_map string_bytes) c.in_default.is in
    record {
      own = c.always.ensures.own;
      says = λ config listed. subst (λ b. SaysValid space config (Ok b)) (sym (c.always.ensures.meaning.at config listed)) (absent none);
    }

pub returns-in_err-tokens-clause-fails : goal.returns-in_err-tokens-clause-fails
returns-in_err-tokens-clause-fails g c =
    let space = seen_space c.args.space.now in
    let present : space.valid ≡ Some c.as_str.result.now = ap (option_map string_bytes) c.in-Some.is ∙ ap Some (sym c.as_str.ensures.value) in
    let p = err_from_is_err_and c.from_residual-in_err-tokens.result c.from_residual-in_err-tokens.ensures.1 in
    rw (p.1, p.2)
    (fails-text space c.args.branches c.requires.sound.has_options c.as_str.result.now present c.in_err-tokens.field-0.0 c.in_err-tokens.ensures.refused)

pub decide_expression-requires-clause-placed : goal.decide_expression-requires-clause-placed
decide_expression-requires-clause-placed g c =
    let space = seen_space c.args.space.now in
    let present : space.valid ≡ Some c.as_str.result.now = ap (option_map string_bytes) c.in-Some.is ∙ ap Some (sym c.as_str.ensures.value) in
    let files = c.intern.new.self in
    let ts = c.in_ok-tokens.tokens.items in
    let file = c.in_ok-file.ensures in
    let tokens = c.in_ok-tokens.ensures in
    let names = c.before_text.new.names in
    let line_is : c.first_line-line.result.now ≡ up_to ends ts = c.first_line-line.ensures ∙ ap (up_to ends) c.deref.ensures.value in
    subst (All (IsPlaced names (length files))) (sym line_is)
    (valid-placed space c.as_str.result.now present files c.in_ok-walk.ensures.names file.own file.named ts tokens.ok tokens.held)

pub decide_expression-requires-clause-line : goal.decide_expression-requires-clause-line
decide_expression-requires-clause-line g c =
    let space = seen_space c.args.space.now in
    let present : space.valid ≡ Some c.as_str.result.now = ap (option_map string_bytes) c.in-Some.is ∙ ap Some (sym c.as_str.ensures.value) in
    let files = c.intern.new.self in
    let ts = c.in_ok-tokens.tokens.items in
    let file = c.in_ok-file.ensures in
    let tokens = c.in_ok-tokens.ensures in
    let names = c.before_text.new.names in
    let line_is : c.first_line-line.result.now ≡ up_to ends ts = c.first_line-line.ensures ∙ ap (up_to ends) c.deref.ensures.value in
    subst (λ (line : List Token). test_of (seen_line space.standard names files line) ≡ Some Expression) (sym line_is)
    (valid-asks space c.as_str.result.now present files c.in_ok-walk.ensures.names file.own file.named ts tokens.ok tokens.held)

pub decide_expression-requires-clause-stored : goal.decide_expression-requires-clause-stored
decide_expression-requires-clause-stored g c =
    let space = seen_space c.args.space.now in
    let files = c.intern.new.self in
    let names = c.before_text.new.names in
    let fresh = c.in_ok-walk.ensures.begins in
    stored-new files fresh

pub returns-in_err-valid-clause-fails : goal.returns-in_err-valid-clause-fails
returns-in_err-valid-clause-fails g c =
    let space = seen_space c.args.space.now in
    let present : space.valid ≡ Some c.as_str.result.now = ap (option_map string_bytes) c.in-Some.is ∙ ap Some (sym c.as_str.ensures.value) in
    let files = c.intern.new.self in
    let ts = c.in_ok-tokens.tokens.items in
    let file = c.in_ok-file.ensures in
    let tokens = c.in_ok-tokens.ensures in
    let names = c.before_text.new.names in
    let line_is : c.first_line-line.result.now ≡ up_to ends ts = c.first_line-line.ensures ∙ ap (up_to ends) c.deref.ensures.value in
    let fresh = c.in_ok-walk.ensures.begins in
    let s = g.C.Conditions.sets c.args.conds.now in
    let all = c.always-all.result.0 in
    let stop = c.in_err-valid.field-0.0 in
    let Stops : List Token → Type 0 = λ line.
    StopsStage s names files c.in_ok-walk.walk line (AskedHas s all (seen_line space.standard names files line)) c.args.branches stop in
    let stops = subst Stops line_is c.in_err-valid.ensures.stops in
    let p = err_from_is_err_and c.from_residual-in_err-valid.result c.from_residual-in_err-valid.ensures.1 in
    rw (p.1, p.2)
    (fails-expression space c.as_str.result.now present files c.in_ok-walk.ensures.names file.own file.named ts tokens.ok tokens.held
    fresh all c.args.branches stop stops)

pub least_cause-requires-clause-own : goal.least_cause-requires-clause-own
least_cause-requires-clause-own g c =
    let t = g.C.Conditions.sets c.decide_expression.new.conds in
    let stage = c.in_ok-valid.ensures.decides.at (context_of (seen_space c.args.space.now) (λ name. None)) in
    subst (All (λ (f : Fault). IsCond t f.cond.0)) (sym c.deref-2.ensures.value) stage.simulates.owns.prepared.faults

pub returns-in-Some-2-clause-fails : goal.returns-in-Some-2-clause-fails
returns-in-Some-2-clause-fails g c =
    let space = seen_space c.args.space.now in
    let present : space.valid ≡ Some c.as_str.result.now = ap (option_map string_bytes) c.in-Some.is ∙ ap Some (sym c.as_str.ensures.value) in
    let files = c.intern.new.self in
    let ts = c.in_ok-tokens.tokens.items in
    let file = c.in_ok-file.ensures in
    let tokens = c.in_ok-tokens.ensures in
    let names = c.before_text.new.names in
    let line_is : c.first_line-line.result.now ≡ up_to ends ts = c.first_line-line.ensures ∙ ap (up_to ends) c.deref.ensures.value in
    let fresh = c.in_ok-walk.ensures.begins in
    let t = g.C.Conditions.sets c.decide_expression.new.conds in
    let line = seen_line space.standard names files c.first_line-line.result.now in
    let is_line : IsValidLine space line = subst (λ (ts : List Token). IsValidLine space (seen_line space.standard names files ts)) (sym line_is)
    (valid-line space c.as_str.result.now present files c.in_ok-walk.ensures.names file.own file.named ts tokens.ok tokens.held) in
    let least = subst (λ (fs : List Fault). FindsLeast t fs (Some c.in-Some-2.cause)) c.deref-2.ensures.value
    (subst (FindsLeast t c.deref-2.result.now) c.in-Some-2.is c.in_ok-cause.ensures) in
    refused-by fresh c.decide_expression.ensures.keeps line is_line c.always-all.result.0 c.in_ok-valid.valid.0
    c.always-all.ensures.meaning.at c.in_ok-valid.ensures.decides c.in-Some-2.cause least

pub returns-clause-valid : goal.returns-clause-valid
returns-clause-valid g c =
    let space = seen_space c.args.space.now in
    let present : space.valid ≡ Some c.as_str.result.now = ap (option_map string_bytes) c.in-Some.is ∙ ap Some (sym c.as_str.ensures.value) in
    let files = c.intern.new.self in
    let ts = c.in_ok-tokens.tokens.items in
    let file = c.in_ok-file.ensures in
    let tokens = c.in_ok-tokens.ensures in
    let names = c.before_text.new.names in
    let line_is : c.first_line-line.result.now ≡ up_to ends ts = c.first_line-line.ensures ∙ ap (up_to ends) c.deref.ensures.value in
    let fresh = c.in_ok-walk.ensures.begins in
    let t = g.C.Conditions.sets c.decide_expression.new.conds in
    let line = seen_line space.standard names files c.first_line-line.result.now in
    let is_line : IsValidLine space line = subst (λ (ts : List Token). IsValidLine space (seen_line space.standard names files ts)) (sym line_is)
    (valid-line space c.as_str.result.now present files c.in_ok-walk.ensures.names file.own file.named ts tokens.ok tokens.held) in
    let never = subst (λ (fs : List Fault). FindsLeast t fs None) c.deref-2.ensures.value
    (subst (FindsLeast t c.deref-2.result.now) c.in-None.is c.in_ok-cause.ensures) in
    valid-is fresh c.decide_expression.ensures.keeps line is_line c.always-all.result.0 c.in_ok-valid.valid.0
    c.always-all.ensures.meaning.at c.in_ok-valid.ensures.decides never

pub returns-in_err-cause-clause-fails : goal.returns-in_err-cause-clause-fails
returns-in_err-cause-clause-fails g c =
    let p = err_from_is_err_and c.from_residual-in_err-cause.result c.from_residual-in_err-cause.ensures.1 in
    rw (p.1, p.2) (tt, tt)

pub returns-in_err-valid-clause-keeps : goal.returns-in_err-valid-clause-keeps
returns-in_err-valid-clause-keeps g c = c.decide_expression.ensures.keeps

pub returns-in_err-cause-clause-keeps : goal.returns-in_err-cause-clause-keeps
returns-in_err-cause-clause-keeps g c = c.decide_expression.ensures.keeps

pub returns-in-Some-2-clause-keeps : goal.returns-in-Some-2-clause-keeps
returns-in-Some-2-clause-keeps g c = c.decide_expression.ensures.keeps

pub returns-clause-keeps : goal.returns-clause-keeps
returns-clause-keeps g c = c.decide_expression.ensures.keeps
