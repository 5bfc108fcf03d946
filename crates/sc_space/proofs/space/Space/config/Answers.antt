use Rattle.std.proofs.Common.{◌+◌, [], ◌∷◌, map, drop, string_bytes}
use Rattle.std.proofs.lemmas.List.{drop_more, drop_all}
use Rattle.std.proofs.lemmas.Result.{err_from_is_err_and}
use Rattle.sc_space.specs.Config.{Fills}
use Rattle.sc_space.specs.Seen.{seen_space}
use Rattle.sc_space.proofs.Choosing.{HasRead, HasRead-more, HasRead-refused, HasRead-all, formed}
use Rattle.sc_space.proofs.space.Space.config.Goals as goal

pub returns-in_err-choice-clause-answer : goal.returns-in_err-choice-clause-answer
returns-in_err-choice-clause-answer c =
    let p = err_from_is_err_and c.from_residual-in_err-choice.result c.from_residual-in_err-choice.ensures.1 in
    let words = c.args.words.now in
    let h : HasRead (seen_space c.args.self.now) (map string_bytes words) (string_bytes c.word-item.result ∷ map string_bytes (drop (c.loop-word.word-index + 1) words)) c.loop-word.chosen.items =
    rw (drop_more words _ c.word-item.result c.loop-word-test.true, ← c.word-item.is) at c.loop-word.invariant in
    let fills : Fills h.before c.deref.result.now = rw c.deref.ensures.value h.fills in
    rw (p.1, p.2) (HasRead-refused _ _ _ _ _ h _ (rw c.as_str.ensures.value at (c.in_err-choice.ensures.answer h.before fills)))

pub loop-word-preserved : goal.loop-word-preserved
loop-word-preserved c =
    let words = c.args.words.now in
    let h : HasRead (seen_space c.args.self.now) (map string_bytes words) (string_bytes c.word-item.result ∷ map string_bytes (drop (c.loop-word.word-index + 1) words)) c.loop-word.chosen.items =
    rw (drop_more words _ c.word-item.result c.loop-word-test.true, ← c.word-item.is) at c.loop-word.invariant in
    let fills : Fills h.before c.deref.result.now = rw c.deref.ensures.value h.fills in
    HasRead-more _ _ _ _ _ h c.in_ok-choice.choice (rw c.as_str.ensures.value at (c.in_ok-choice.ensures.answer h.before fills)) (rw c.deref.ensures.value at c.in_ok-choice.ensures.within)

pub returns-clause-answer : goal.returns-clause-answer
returns-clause-answer c =
    let words = c.args.words.now in
    let h : HasRead (seen_space c.args.self.now) (map string_bytes words) [] c.loop-word.chosen.items = rw (drop_all _ words c.loop-word-test.false) at c.loop-word.invariant in
    rw (c.in_ok-filled.ensures, c.deref-2.ensures.value) (HasRead-all _ _ _ h)

pub returns-clause-formed : goal.returns-clause-formed
returns-clause-formed c =
    let words = c.args.words.now in
    let h : HasRead (seen_space c.args.self.now) (map string_bytes words) [] c.loop-word.chosen.items = rw (drop_all _ words c.loop-word-test.false) at c.loop-word.invariant in
    λ some. rw (c.in_ok-filled.ensures, c.deref-2.ensures.value) (formed _ _ _ some (HasRead-all _ _ _ h))
