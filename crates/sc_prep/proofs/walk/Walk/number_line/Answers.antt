use Rattle.std.proofs.Common.{◌+◌, not, Bool, false, List, [], get_or, length, map, sym, subst, rules}
use Rattle.sc_prep.proofs.Grown.{placed-grown}
use Rattle.sc_prep.proofs.DirectiveStops.{lists-stop}
use Rattle.sc_prep.proofs.ExpressionSteps.{hash-line}
use Rattle.sc_prep.proofs.Facts.{Keeps-trans}
use Rattle.sc_prep.proofs.LineSteps.{line-grown}
use Rattle.sc_prep.proofs.NumberMoves.{line-numbered}
use Rattle.sc_prep.proofs.Stages.{text-then}
use Rattle.sc_prep.proofs.Terms.{C11, Denotes, Identifier, IsHeld, StopsBy, StopsSaid, Token, any_token, is_numbering, list_any, seen}
use Rattle.sc_prep.proofs.WalkMoves.{owns-kept}
use Rattle.sc_prep.specs.Alternatives.{EachToken, OwnsEach, tokens_in}
use Rattle.sc_prep.proofs.walk.Walk.number_line.Goals as goal

-- what stands past the last token
abbrev no_token : Token
no_token = record { kind = Identifier; name = record { 0 = 0 }; spelling = record { 0 = 0 }; space = false; place = record { file = record { 0 = 0 }; line = 0; column = 0 } }

pub not_numbered-requires-clause-own : goal.not_numbered-requires-clause-own
not_numbered-requires-clause-own g c = subst (OwnsEach (g.C.Conditions.sets c.alternatives.new.conds)) (sym c.deref.ensures.value) c.in_ok-parts.ensures.own

pub not_numbered-requires-clause-held : goal.not_numbered-requires-clause-held
not_numbered-requires-clause-held g c =
    subst (EachToken (IsHeld c.said.new.names)) (sym c.deref.ensures.value) (c.in_ok-parts.ensures.held c.said.new.names (λ k d h. (c.in_ok-list.ensures.says.placed k d h).held))

pub alternatives-requires-clause-cond_own : goal.alternatives-requires-clause-cond_own
alternatives-requires-clause-cond_own g c = (c.in_ok-list.ensures.says.stage C11).simulates.owns.acting

pub refuse-requires-clause-owns : goal.refuse-requires-clause-owns
refuse-requires-clause-owns g c = owns-kept (Keeps-trans c.in_ok-parts.ensures.keeps c.in_ok-others.ensures.keeps) c.said.new.self (c.in_ok-list.ensures.says.stage C11).simulates.owns

pub refuse-requires-clause-own : goal.refuse-requires-clause-own
refuse-requires-clause-own g c = (c.in_ok-others.ensures.meaning []).own

pub returns-in_err-parts-clause-stops : goal.returns-in_err-parts-clause-stops
returns-in_err-parts-clause-stops g c =
    let s = g.C.Conditions.sets c.args.conds.now in
    let stop = c.in_err-parts.field-0.0 in
    let list = c.in_ok-list.ensures in
    let kept : StopsSaid s c.args.names.now c.args.files.now c.args.self.now c.args.line.now c.args.limit stop =
    record {
      by = subst (λ a. StopsBy a c.args.limit stop) list.keeps.arities c.in_err-parts.ensures.stops;
      at_place = λ standard d directed says apart. lists-stop c.args.limit stop list.keeps.arities (list.says.lists standard d (c.args.limit + 1) directed says apart) c.in_err-parts.ensures.lists;
    } in
    search rules

pub returns-in_err-parts-clause-keeps : goal.returns-in_err-parts-clause-keeps
returns-in_err-parts-clause-keeps g c = Keeps-trans c.in_ok-list.ensures.keeps c.in_err-parts.ensures.keeps

pub returns-in_err-others-clause-keeps : goal.returns-in_err-others-clause-keeps
returns-in_err-others-clause-keeps g c = Keeps-trans c.in_ok-list.ensures.keeps (Keeps-trans c.in_ok-parts.ensures.keeps c.in_err-others.ensures.keeps)

pub returns-in_err-refuse-clause-keeps : goal.returns-in_err-refuse-clause-keeps
returns-in_err-refuse-clause-keeps g c =
    Keeps-trans c.in_ok-list.ensures.keeps (Keeps-trans c.in_ok-parts.ensures.keeps (Keeps-trans c.in_ok-others.ensures.keeps c.in_err-refuse.ensures.keeps))

pub returns-clause-keeps : goal.returns-clause-keeps
returns-clause-keeps g c =
    Keeps-trans c.in_ok-list.ensures.keeps (Keeps-trans c.in_ok-parts.ensures.keeps (Keeps-trans c.in_ok-others.ensures.keeps c.in_ok-refuse.ensures.keeps))

pub returns-clause-carries : goal.returns-clause-carries
returns-clause-carries g c = λ standard x.
    let names = c.args.names.now in
    let more = c.said.new.names in
    let files = c.args.files.now in
    let line = c.args.line.now in
    let list = c.in_ok-list.ensures in
    let said = list.says.stage standard in
    let refuse = c.in_ok-refuse.ensures in
    let s2 = g.C.Conditions.sets c.alternatives.new.conds in
    let s3 = g.C.Conditions.sets c.not_numbered.new.conds in
    let test : List Token → Bool = λ ts. not (is_numbering (map (seen more files) ts)) in
    let wrong = subst (λ xs. Denotes s3 c.in_ok-others.others.0 (λ config. list_any test (tokens_in s2 xs config))) c.deref.ensures.value (c.in_ok-others.ensures.meaning files) in
    record {
      simulates = line-numbered standard files names more list.keeps c.in_ok-parts.ensures.keeps c.in_ok-others.ensures.keeps c.args.self.now c.said.new.self line c.in_ok-list.list
          said.simulates c.in_ok-parts.parts.items c.in_ok-parts.ensures.at c.refuse.new.self c.in_ok-others.others.0 wrong (refuse.moved standard more)
          (line-grown files list.names standard line (λ k d h. (c.requires.placed k d h).held)) (seen names files (get_or line 0 no_token)) (hash-line standard names files line no_token c.requires.line) x;
      text = text-then c.args.self.now c.said.new.self c.refuse.new.self said.text
          (refuse.printable more (length files) any_token (λ k d h. placed-grown list.names (length files) _ (c.requires.placed k d h)) said.text.held) refuse.list refuse.runs;
    }
