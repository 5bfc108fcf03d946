use Rattle.std.proofs.Common.{◌<◌, ◌≤◌, ◌+◌, length, drop, refl, arith, ap, ◌∙◌, length-drop}
use Rattle.std.proofs.lemmas.List.{take_rest}
use Rattle.c11_tokens.specs.Lex.{goes_on}
use Rattle.sc_lex.specs.Scan.{letter_length}
use Rattle.sc_lex.proofs.Fronts.{longest_where_stuck, IsStuck-end}
use Rattle.sc_lex.proofs.Names.{letter-steps, more_parts, last_part}
use Rattle.sc_lex.proofs.scan.letters.Goals as goal
use Rattle.sc_lex.proofs.scan.letters.Goals.{After-letter-part}

some_left : (c : After-letter-part) → 0 < length (drop c.loop-length.length c.args.text.now)
some_left c = omega (arith, length-drop c.loop-length.length c.args.text.now)

pub returns-then-part-eq0 : goal.returns-then-part-eq0
returns-then-part-eq0 c =
    last_part _ _ c.loop-length.invariant refl (letter-steps _ (some_left (goal.at.returns-then-part-eq0 c).After-letter-part)) (c.letter-part.ensures ∙ ap letter_length (take_rest c.args.text.now c.loop-length.length)) c.if-part-eq0.true

pub loop-length-preserved : goal.loop-length-preserved
loop-length-preserved c =
    more_parts _ _ c.loop-length.invariant (letter-steps _ (some_left (goal.at.loop-length-preserved c).After-letter-part)) (c.letter-part.ensures ∙ ap letter_length (take_rest c.args.text.now c.loop-length.length)) c.if-part-eq0.false

pub overflow_add-length : goal.overflow_add-length
overflow_add-length c =
    let more = more_parts _ _ c.loop-length.invariant (letter-steps _ (some_left (goal.at.overflow_add-length c).After-letter-part)) (c.letter-part.ensures ∙ ap letter_length (take_rest c.args.text.now c.loop-length.length)) c.if-part-eq0.false in
    let within : c.loop-length.length + c.letter-part.result ≤ length c.args.text.now = more.within in
    omega arith

pub returns : goal.returns
returns c = longest_where_stuck c.loop-length.invariant refl (IsStuck-end (goes_on 0) _ (omega (arith, length-drop c.loop-length.length c.args.text.now)))
