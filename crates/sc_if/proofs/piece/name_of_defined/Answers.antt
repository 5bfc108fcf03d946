use Rattle.std.proofs.Common.{◌∷◌, All, map, ap, sym, ◌∙◌, subst}
use Rattle.std.proofs.lemmas.List.Elements.{All-head, All-tail}
use Rattle.c11_expressions.specs.Lines.{without_defined}
use Rattle.sc_base.specs.Seen.{IsHeld}
use Rattle.sc_if.proofs.Pieces.{IsEnd-behind, IsEnd-refl, if_none, if_some, named, parenthesized, unnamed}
use Rattle.sc_if.specs.Replaced.{unhidden}
use Rattle.sc_if.proofs.piece.name_of_defined.Goals as goal

pub is_spelled-requires : goal.is_spelled-requires
is_spelled-requires c =
    let held = IsHeld c.args.names.now in
    All-head held _ _ (subst (All held) c.in_ok-first.ensures.cases.0 c.requires)

pub name_in_parentheses-requires : goal.name_in_parentheses-requires
name_in_parentheses-requires c =
    let held = IsHeld c.args.names.now in
    All-tail held _ _ (subst (All held) c.in_ok-first.ensures.cases.0 c.requires)

pub returns-then-is_identifier-clause-some : goal.returns-then-is_identifier-clause-some
returns-then-is_identifier-clause-some c = λ macros t is.
    let names = c.args.names.now in
    let first = c.in_ok-first.first.now in
    let behind = c.in_ok-first.behind.now in
    ap (λ ts. without_defined macros (t ∷ map (unhidden names) ts)) c.in_ok-first.ensures.cases.0
    ∙ named macros t is (unhidden names first) (map (unhidden names) behind) (sym (c.is_identifier.ensures names) ∙ c.if-is_identifier.true)

pub returns-then-is_identifier-clause-part : goal.returns-then-is_identifier-clause-part
returns-then-is_identifier-clause-part c = IsEnd-behind _ _ _ _ c.in_ok-first.ensures.cases.0 (IsEnd-refl _)

pub returns-then-not-is_spelled-clause-none : goal.returns-then-not-is_spelled-clause-none
returns-then-not-is_spelled-clause-none c = λ macros t is.
    let names = c.args.names.now in
    let first = c.in_ok-first.first.now in
    let behind = c.in_ok-first.behind.now in
    ap (λ ts. without_defined macros (t ∷ map (unhidden names) ts)) c.in_ok-first.ensures.cases.0
    ∙ unnamed macros t is (unhidden names first) (map (unhidden names) behind) (sym (c.is_identifier.ensures names) ∙ c.if-is_identifier.false) (sym c.is_spelled.ensures ∙ c.if-not-is_spelled.true)

pub returns-clause-some : goal.returns-clause-some
returns-clause-some c =
    let names = c.args.names.now in
    let first = c.in_ok-first.first.now in
    let behind = c.in_ok-first.behind.now in
    if_some _ _ c.name_in_parentheses.result (λ read told macros t is.
    ap (λ ts. without_defined macros (t ∷ map (unhidden names) ts)) c.in_ok-first.ensures.cases.0
    ∙ (parenthesized macros t is (unhidden names first) (map (unhidden names) behind) (sym (c.is_identifier.ensures names) ∙ c.if-is_identifier.false) (sym c.is_spelled.ensures ∙ c.if-not-is_spelled.false)
    ∙ told macros t)) c.name_in_parentheses.ensures.some

pub returns-clause-part : goal.returns-clause-part
returns-clause-part c = if_some _ _ c.name_in_parentheses.result (λ read part. IsEnd-behind _ _ _ _ c.in_ok-first.ensures.cases.0 part) c.name_in_parentheses.ensures.part

pub returns-clause-none : goal.returns-clause-none
returns-clause-none c =
    let names = c.args.names.now in
    let first = c.in_ok-first.first.now in
    let behind = c.in_ok-first.behind.now in
    if_none _ _ c.name_in_parentheses.result (λ told macros t is.
    ap (λ ts. without_defined macros (t ∷ map (unhidden names) ts)) c.in_ok-first.ensures.cases.0
    ∙ (parenthesized macros t is (unhidden names first) (map (unhidden names) behind) (sym (c.is_identifier.ensures names) ∙ c.if-is_identifier.false) (sym c.is_spelled.ensures ∙ c.if-not-is_spelled.false)
    ∙ told macros t)) c.name_in_parentheses.ensures.none
