use Rattle.std.proofs.Common.{◌∷◌, All, map, ap, sym, ◌∙◌, subst}
use Rattle.std.proofs.lemmas.List.Elements.{All-head, All-tail}
use Rattle.c11_expressions.specs.Lines as lines
use Rattle.sc_base.specs.Seen.{IsHeld}
use Rattle.sc_if.proofs.Pieces.{IsEnd-behind, IsEnd-refl, closed, nameless, unclosed}
use Rattle.sc_if.proofs.piece.name_in_parentheses.Goals.{else-is_identifier-via-then-is_identifier+else-is_spelled, else-is_identifier-via-else-is_identifier}
use Rattle.sc_if.specs.Replaced.{unhidden}
use Rattle.sc_if.proofs.piece.name_in_parentheses.Goals as goal

pub is_spelled-requires : goal.is_spelled-requires
is_spelled-requires c =
    let held = IsHeld c.args.names.now in
    let one = subst (All held) c.in_ok-name.ensures.cases.0 c.requires in
    All-head held _ _ (subst (All held) c.in_ok-close.ensures.cases.0 (All-tail held _ _ one))

pub returns-then-is_spelled-clause-some : goal.returns-then-is_spelled-clause-some
returns-then-is_spelled-clause-some c = λ macros t.
    let names = c.args.names.now in
    let name = c.in_ok-name.name.now in
    let close = c.in_ok-close.close.now in
    let left = c.in_ok-close.left.now in
    ap (λ ts. lines.in_parentheses macros t (map (unhidden names) ts)) (c.in_ok-name.ensures.cases.0 ∙ ap (λ ts. name ∷ ts) c.in_ok-close.ensures.cases.0)
    ∙ closed macros t (unhidden names name) (unhidden names close) (map (unhidden names) left) (sym (c.is_identifier.ensures names) ∙ c.if-is_identifier.true) (sym c.is_spelled.ensures ∙ c.if-is_spelled.true)

pub returns-then-is_spelled-clause-part : goal.returns-then-is_spelled-clause-part
returns-then-is_spelled-clause-part c = IsEnd-behind _ _ _ _ c.in_ok-name.ensures.cases.0 (IsEnd-behind _ _ _ _ c.in_ok-close.ensures.cases.0 (IsEnd-refl _))

pub returns-clause-none : goal.returns-clause-none
returns-clause-none c = λ macros t.
    let names = c.args.names.now in
    let name = c.in_ok-name.name.now in
    let close = c.in_ok-close.close.now in
    let left = c.in_ok-close.left.now in
    let is = ap (λ ts. lines.in_parentheses macros t (map (unhidden names) ts)) (c.in_ok-name.ensures.cases.0 ∙ ap (λ ts. name ∷ ts) c.in_ok-close.ensures.cases.0) in
    elim c.else-is_identifier.branch [
      | else-is_identifier-via-then-is_identifier+else-is_spelled w ↦ is ∙ unclosed macros t (unhidden names name) (unhidden names close) (map (unhidden names) left) (sym (c.is_identifier.ensures names) ∙ w.if-is_identifier.true) (sym w.is_spelled.ensures ∙ w.if-is_spelled.false)
      | else-is_identifier-via-else-is_identifier w ↦ is ∙ nameless macros t (unhidden names name) (unhidden names close) (map (unhidden names) left) (sym (c.is_identifier.ensures names) ∙ w.if-is_identifier.false)
    ]
