-- What is seen of frames and of an operand tells them.
use Rattle.std.proofs.Common.{◌≡◌, List, [], ◌∷◌, map, reverse, Option, Some, None, refl, sym, ap, ◌∙◌}
use Rattle.std.proofs.lemmas.List.{reverse-reverse}
use Rattle.c11_expressions.specs.Arithmetic.{Typed}
use Rattle.sc_if.specs.declared.frame.Frame.{Frame}
use Rattle.sc_if.specs.declared.frame.Frame.TheVariants.{Branch, Condition, Left, Parenthesis, Prefix}
use Rattle.sc_if.specs.declared.operand.Operand.{Operand}
use Rattle.sc_if.specs.declared.operand.Operand.TheVariants as operand
use Rattle.sc_if.specs.declared.value.Value.{Value}
use Rattle.sc_if.specs.declared.value.Value.TheVariants as value
use Rattle.sc_if.specs.Frames.{seen_frame, stack_of, state_of}
use Rattle.sc_if.specs.Operands.{seen_operand}
use Rattle.sc_if.specs.Seen.{seen_value}

value-one : (v w : Value) → seen_value v ≡ seen_value w → v ≡ w
value-one (value.Signed m) (value.Signed n) e = ap value.Signed (ap (λ (t : Typed). t.number) e)
value-one (value.Unsigned m) (value.Unsigned n) e = let same = ap (λ (t : Typed). t.number) e in cc
value-one (value.Signed m) (value.Unsigned n) e = let same = ap (λ (t : Typed). t.unsigned) e in absurd (cc)
value-one (value.Unsigned m) (value.Signed n) e = let same = ap (λ (t : Typed). t.unsigned) e in absurd (cc)

operand-one : (x y : Operand) → seen_operand x ≡ seen_operand y → x ≡ y
operand-one (operand.Value v) (operand.Value w) e = let same : seen_value v ≡ seen_value w = cc in ap operand.Value (value-one v w same)
operand-one (operand.Fault p) (operand.Fault q) e = cc
operand-one (operand.Unevaluated a) (operand.Unevaluated b) e = cc
operand-one _ _ e = absurd (cc)

frame-one : (f g : Frame) → seen_frame f ≡ seen_frame g → f ≡ g
frame-one Parenthesis Parenthesis e = refl
frame-one (Prefix p) (Prefix q) e = cc
frame-one (Left p x) (Left q y) e = let same : seen_operand x ≡ seen_operand y = cc in let one = operand-one x y same in cc
frame-one (Condition x) (Condition y) e = let same : seen_operand x ≡ seen_operand y = cc in ap Condition (operand-one x y same)
frame-one (Branch x u) (Branch y v) e =
    let first : seen_operand x ≡ seen_operand y = cc in
    let second : seen_operand u ≡ seen_operand v = cc in
    let one = operand-one x y first in
    let other = operand-one u v second in
    cc
frame-one _ _ e = absurd (cc)

frames-one : (fs gs : List Frame) → map seen_frame fs ≡ map seen_frame gs → fs ≡ gs
frames-one [] [] e = refl
frames-one [] (g ∷ gs) e = absurd (cc)
frames-one (f ∷ fs) [] e = absurd (cc)
frames-one (f ∷ fs) (g ∷ gs) e =
    let head : seen_frame f ≡ seen_frame g = cc in
    let tail : map seen_frame fs ≡ map seen_frame gs = cc in
    let first = frame-one f g head in
    let rest = frames-one fs gs tail in
    cc

stack-one : (fs gs : List Frame) → stack_of fs ≡ stack_of gs → fs ≡ gs
stack-one fs gs e = frames-one fs gs (sym (reverse-reverse (map seen_frame fs)) ∙ (ap reverse e ∙ reverse-reverse (map seen_frame gs)))

pub state-one : (fs gs : List Frame) (x y : Option Operand) → state_of fs x ≡ state_of gs y → (fs ≡ gs) × (x ≡ y)
state-one fs gs None None e = let same : stack_of fs ≡ stack_of gs = cc in (stack-one fs gs same, refl)
state-one fs gs (Some x) (Some y) e =
    let same : stack_of fs ≡ stack_of gs = cc in
    let seen : seen_operand x ≡ seen_operand y = cc in
    (stack-one fs gs same, ap Some (operand-one x y seen))
state-one fs gs None (Some y) e = absurd (cc)
state-one fs gs (Some x) None e = absurd (cc)
