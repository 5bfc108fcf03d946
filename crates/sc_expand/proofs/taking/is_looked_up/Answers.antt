use Rattle.std.proofs.Common.{◌&&◌, not, ap, sym, ◌∙◌}
use Rattle.sc_expand.proofs.TakingLemmas.{same_test}
use Rattle.sc_expand.proofs.Terms.{is_identifier_kind, set_at, text_of, texts_in}
use Rattle.sc_expand.proofs.taking.is_looked_up.Goals.{in-Identifier, in_default}
use Rattle.sc_expand.proofs.taking.is_looked_up.Goals as goal

pub returns-then-matches : goal.returns-then-matches
returns-then-matches c =
    let names = c.args.names.now in
    let t = c.args.token in
    let set = set_at c.args.sets.now t.hide.0 in
    elim c.match-matches.branch [
      | in-Identifier w ↦ ap not (c.has.ensures ∙ same_test names set t.token.spelling c.one_to_one.ensures c.requires.hide.held c.requires.token.spelling)
          ∙ ap (λ k. is_identifier_kind k && not (texts_in names set (text_of names t.token.spelling))) (sym w.in-Identifier.is)
      | in_default w ↦ (let on = c.if-matches.true in let off = w.matches-is in absurd (cc))
    ]
