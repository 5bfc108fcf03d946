use Rattle.std.proofs.Common.{◌&&◌, [], ◌∷◌, false, ◌<◌, ◌∙◌, get_or, is_none, length, refl, sym}
use Rattle.sc_base.specs.declared.fault.Fault.{Fault}
use Rattle.sc_prep.proofs.ExpressionMoves.{decides-none}
use Rattle.sc_prep.proofs.ExpressionSteps.{hash-line}
use Rattle.sc_prep.proofs.Facts.{All-cons, All-get_or, All-nil, Denotes-Keeps, Denotes-self, Extends-refl, IsConfig-Keeps, IsTable-Keeps, Keeps-trans, macros_at-Keeps}
use Rattle.sc_prep.proofs.NameSteps.{decides-by-name, refuses-no-name}
use Rattle.sc_prep.proofs.StageRefusals.{refused-stage}
use Rattle.sc_prep.proofs.Terms.{BadDirective, DecidesAt, Identifier, IsCond, IsPlaced, Token, is_taken, macros_at, seen, seen_line, text_at}
use Rattle.sc_prep.proofs.WalkMoves.{same-macros, still-after}
use Rattle.sc_prep.proofs.walk.Walk.decide_name.Goals as goal

-- what stands past the last token
abbrev no_token : Token
no_token = record { kind = Identifier; name = record { 0 = 0 }; spelling = record { 0 = 0 }; space = false; place = record { file = record { 0 = 0 }; line = 0; column = 0 } }

pub taken-requires-clause-table : goal.taken-requires-clause-table
taken-requires-clause-table g c = IsTable-Keeps c.in_ok-live.ensures.keeps c.requires.table

pub returns-in_err-apply_and-in-Some-clause-keeps : goal.returns-in_err-apply_and-in-Some-clause-keeps
returns-in_err-apply_and-in-Some-clause-keeps g c =
    Keeps-trans c.in_ok-live.ensures.keeps (Keeps-trans c.in_ok-found-in-Some.ensures.keeps c.in_err-apply_and-in-Some.ensures.keeps)

pub returns-in_ok-apply_and-in-Some-clause-keeps : goal.returns-in_ok-apply_and-in-Some-clause-keeps
returns-in_ok-apply_and-in-Some-clause-keeps g c =
    Keeps-trans c.in_ok-live.ensures.keeps (Keeps-trans c.in_ok-found-in-Some.ensures.keeps c.in_ok-apply_and-in-Some.ensures.keeps)

pub returns-then-is_never-clause-decides : goal.returns-then-is_never-clause-decides
returns-then-is_never-clause-decides g c = λ standard files asks placed held.
    let old = g.C.Conditions.sets c.args.conds.now in
    let w = c.args.self.now in
    let k1 = c.in_ok-live.ensures.keeps in
    let live = c.in_ok-live.ensures.meaning (old.has c.args.among.0) (old.has w.prepared.live.0) (Denotes-self old c.args.among.0 c.requires.among_own) (Denotes-self old w.prepared.live.0 c.requires.owns.prepared.live) in
    record {
      own = c.never.ensures.own;
      at = λ x. record {
        simulates = decides-none files c.args.names.now k1 w c.requires.owns c.requires.table c.args.among c.in_ok-live.live live x (seen_line standard c.args.names.now files c.args.line.now) c.never.result
            (λ config listed. (c.is_never.ensures.0 c.if-is_never.true).none config (IsConfig-Keeps k1 listed)) (λ config listed. c.never.ensures.meaning.at config (IsConfig-Keeps k1 listed));
        text = record { held = held; list = refl; runs = refl };
      };
    }

pub returns-in_ok-refuse_at-in-None-clause-decides : goal.returns-in_ok-refuse_at-in-None-clause-decides
returns-in_ok-refuse_at-in-None-clause-decides g c = λ standard files asks placed held.
    let old = g.C.Conditions.sets c.args.conds.now in
    let s = g.C.Conditions.sets c.apply_and.new.self in
    let new = g.C.Conditions.sets c.refuse_at.new.conds in
    let w = c.args.self.now in
    let names = c.args.names.now in
    let line = c.args.line.now in
    let l = seen_line standard names files line in
    let k1 = c.in_ok-live.ensures.keeps in
    let k2 = c.in_ok-refuse_at-in-None.ensures.keeps in
    let live = c.in_ok-live.ensures.meaning (old.has c.args.among.0) (old.has w.prepared.live.0) (Denotes-self old c.args.among.0 c.requires.among_own) (Denotes-self old w.prepared.live.0 c.requires.owns.prepared.live) in
    let hash = get_or line 0 no_token in
    let never = c.never-in-None.result in
    let fault : Fault = record { cond = c.in_ok-live.live; cause = BadDirective; place = hash.place } in
    let IsOwn : Fault → Type 0 = λ f. IsCond s f.cond.0 in
    let refuses = c.in_ok-refuse_at-in-None.ensures.refuses in
    let there = (All-get_or (IsPlaced names (length files)) line 0 no_token c.requires.line placed).file in
    let IsIn : Fault → Type 0 = λ f. f.place.file.0 < length files in
    record {
      own = c.never-in-None.ensures.own;
      at = λ x. refused-stage files names names k1 k2 (Extends-refl names) w c.refuse_at.new.self w.table (fault ∷ []) c.requires.owns c.requires.table held (IsTable-Keeps k1 c.requires.table)
          (macros_at-Keeps k1 c.requires.table) (All-cons IsOwn fault [] live.own (All-nil IsOwn)) refuses
          (λ config m n. DecidesAt x l (old.has c.args.among.0 config && is_none m.fault) m (new.has never.0 config) n) (All-cons IsIn fault [] there (All-nil IsIn))
          (refuses-no-name k1 w c.args.among c.in_ok-live.live live names files x l c.args.wanted asks new (seen names files hash) hash.place (sym (c.in-None.ensures.text standard files))
          (hash-line standard names files line no_token c.requires.line) refl never (λ config listed. c.never-in-None.ensures.meaning.at config (IsConfig-Keeps k2 (IsConfig-Keeps k1 listed))));
    }

pub returns-in_ok-apply_and-in-Some-clause-decides : goal.returns-in_ok-apply_and-in-Some-clause-decides
returns-in_ok-apply_and-in-Some-clause-decides g c = λ standard files asks placed held.
    let old = g.C.Conditions.sets c.args.conds.now in
    let s = g.C.Conditions.sets c.apply_and.new.self in
    let w = c.args.self.now in
    let names = c.args.names.now in
    let table = c.taken.new.table in
    let text = text_at names c.in-Some.name.0 in
    let k1 = c.in_ok-live.ensures.keeps in
    let k2 = c.in_ok-found-in-Some.ensures.keeps in
    let k3 = c.in_ok-apply_and-in-Some.ensures.keeps in
    let k12 = Keeps-trans k1 k2 in
    let live = c.in_ok-live.ensures.meaning (old.has c.args.among.0) (old.has w.prepared.live.0) (Denotes-self old c.args.among.0 c.requires.among_own) (Denotes-self old w.prepared.live.0 c.requires.owns.prepared.live) in
    let found = c.in_ok-found-in-Some.ensures.meaning in
    let taken = c.in_ok-apply_and-in-Some.ensures.meaning (λ config. is_taken (macros_at s names w.table config) c.args.wanted text) (s.has c.in_ok-live.live.0) found (Denotes-Keeps k2 (Denotes-self s c.in_ok-live.live.0 live.own)) in
    record {
      own = c.in_ok-apply_and-in-Some.ensures.own;
      at = λ x. record {
        simulates = decides-by-name k1 w c.args.among c.in_ok-live.live live names files x (seen_line standard names files c.args.line.now) c.args.wanted asks text (sym (c.in-Some.ensures.text standard files)) (Keeps-trans k12 k3)
            c.requires.table c.in_ok-apply_and-in-Some.field-0 taken
            (same-macros names (Keeps-trans k12 k3) w c.requires.owns table (IsTable-Keeps k3 c.in_ok-found-in-Some.ensures.table) (still-after w.table table k12 k3 c.in_ok-found-in-Some.ensures.table
            (λ config name listed. c.in_ok-found-in-Some.ensures.still config name (IsConfig-Keeps k1 listed) ∙ macros_at-Keeps k1 c.requires.table config name listed)));
        text = record { held = held; list = refl; runs = refl };
      };
    }
