use Rattle.std.proofs.Common.{Bool, rules, sym, tests, ◌∙◌}
use Rattle.std.proofs.lemmas.Iterator.{YieldsList-from_slice}
use Rattle.std.proofs.lemmas.Iterator.Search.{position_from_yields_List}
use Rattle.sc_prep.proofs.Terms.{Token, is_newline}
use Rattle.sc_prep.proofs.valid.first_line.Goals as goal
use Rattle.sc_prep.proofs.ValidLine.{up_to-first, up_to-none}

abbrev ends : Token → Bool
ends t = is_newline t.kind

pub returns-in-Some : goal.returns-in-Some
returns-in-Some c =
    let ts = c.args.tokens.now in
    let at = position_from_yields_List ends _ _ c.position.result c.position.ensures.ran (YieldsList-from_slice ts cc) (λ x b q k. search (rules, tests)) in
    up_to-first ends ts c.in-Some.end (sym at ∙ c.in-Some.is)

pub returns-in-None : goal.returns-in-None
returns-in-None c =
    let ts = c.args.tokens.now in
    let at = position_from_yields_List ends _ _ c.position.result c.position.ensures.ran (YieldsList-from_slice ts cc) (λ x b q k. search (rules, tests)) in
    up_to-none ends ts (sym at ∙ c.in-None.is)
