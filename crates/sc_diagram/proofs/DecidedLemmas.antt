-- Operations whose result is told by the nodes at hand.
use Rattle.std.proofs.Common.{◌≡◌, ℕ, zero, suc, ◌-◌, ◌<◌, ◌≤◌, ◌==◌, ◌&&◌, ◌||◌, not, Bool, true, false, List, length, inl, inr, refl, sym, ◌∙◌, ap, arith}
use Rattle.std.specs.Prelude.{IfNone, None, Option, Some}
use Rattle.std.proofs.lemmas.Option.{slice_get_within}
use Rattle.sc_model.specs.Sets.{IsConfig}
use Rattle.sc_diagram.specs.declared.operation.Operation.{Operation}
use Rattle.sc_diagram.specs.declared.operation.Operation.TheVariants.{And, Or, Without, Negate, Part}
use Rattle.sc_diagram.specs.Diagram.{Diagram, IsDiagram, variable_of, sets_of}
use Rattle.sc_diagram.specs.Applied.{combine, IsApplication, Applies, IsBefore, IsRest, IsShort, IsUndecided, left_absorbs, right_neutral, same, right_absorbs, left_neutral, nothing, whole, application, cofactor}
use Rattle.sc_diagram.proofs.DiagramLemmas.{has_end, variable-le, variable_end}
use Rattle.sc_diagram.proofs.AppliedLemmas.{first-le, own_cofactor, from_cofactor, has_cofactor-set}

and_itself : (x y : Bool) → x ≡ y → x ≡ (x && y)
and_itself true y e = e
and_itself false y e = refl

or_itself : (x y : Bool) → x ≡ y → x ≡ (x || y)
or_itself true y e = refl
or_itself false y e = e

and_true : (x : Bool) → x ≡ (x && true)
and_true true = refl
and_true false = refl

and_false : (x : Bool) → false ≡ (x && false)
and_false true = refl
and_false false = refl

or_true : (x : Bool) → true ≡ (x || true)
or_true true = refl
or_true false = refl

or_false : (x : Bool) → x ≡ (x || false)
or_false true = refl
or_false false = refl

and_not_itself : (x y : Bool) → x ≡ y → false ≡ (x && not y)
and_not_itself true y e = ap not e
and_not_itself false y e = refl

pub IfNone_then : {X P Q : Type 0} (r : Option X) → IfNone r P → (P → Q) → IfNone r Q
IfNone_then None p f = f p
IfNone_then (Some x) p f = tt

module _ {d : Diagram} (valid : IsDiagram d) (l r : ℕ) where
  -- the left node, or the right one, has the configurations that the operation makes
  Applies-left : (op : Operation) → IsApplication d (application op l r) → ((c : List ℕ) → IsConfig d.arities c → (sets_of d).has l c ≡ combine op ((sets_of d).has l) ((sets_of d).has r) c) → Applies d (application op l r) l
  Applies-left op is at = record { application = is; own = is.left; from = λ u left right. left; at = at }

  Applies-right : (op : Operation) → IsApplication d (application op l r) → ((c : List ℕ) → IsConfig d.arities c → (sets_of d).has r c ≡ combine op ((sets_of d).has l) ((sets_of d).has r) c) → Applies d (application op l r) r
  Applies-right op is at = record { application = is; own = is.right; from = λ u left right. right; at = at }

  has_never : (n : ℕ) (c : List ℕ) → IsConfig d.arities c → n ≡ 0 → (sets_of d).has n c ≡ false
  has_never n c listed at = ap (λ m. (sets_of d).has m c) at ∙ has_end valid c listed 0 (omega arith)

  has_always : (n : ℕ) (c : List ℕ) → IsConfig d.arities c → n ≡ 1 → (sets_of d).has n c ≡ true
  has_always n c listed at = ap (λ m. (sets_of d).has m c) at ∙ has_end valid c listed 1 (omega arith)

  pub Applies-And : (n : ℕ) → IsApplication d (application And l r) → IsShort l r 0 1 n → Applies d (application And l r) n
  Applies-And n is (left_absorbs at) = Applies-left And is (λ c listed. has_never l c listed at ∙ ap (λ x. x && (sets_of d).has r c) (sym (has_never l c listed at)))
  Applies-And n is (right_neutral at) = Applies-left And is (λ c listed. and_true ((sets_of d).has l c) ∙ ap (λ x. (sets_of d).has l c && x) (sym (has_always r c listed at)))
  Applies-And n is (same at) = Applies-left And is (λ c listed. and_itself _ _ (ap (λ m. (sets_of d).has m c) at))
  Applies-And n is (right_absorbs at) = Applies-right And is (λ c listed. has_never r c listed at ∙ and_false ((sets_of d).has l c) ∙ ap (λ x. (sets_of d).has l c && x) (sym (has_never r c listed at)))
  Applies-And n is (left_neutral at) = Applies-right And is (λ c listed. ap (λ x. x && (sets_of d).has r c) (sym (has_always l c listed at)))

  pub Applies-Or : (n : ℕ) → IsApplication d (application Or l r) → IsShort l r 1 0 n → Applies d (application Or l r) n
  Applies-Or n is (left_absorbs at) = Applies-left Or is (λ c listed. has_always l c listed at ∙ ap (λ x. x || (sets_of d).has r c) (sym (has_always l c listed at)))
  Applies-Or n is (right_neutral at) = Applies-left Or is (λ c listed. or_false ((sets_of d).has l c) ∙ ap (λ x. (sets_of d).has l c || x) (sym (has_never r c listed at)))
  Applies-Or n is (same at) = Applies-left Or is (λ c listed. or_itself _ _ (ap (λ m. (sets_of d).has m c) at))
  Applies-Or n is (right_absorbs at) = Applies-right Or is (λ c listed. has_always r c listed at ∙ or_true ((sets_of d).has l c) ∙ ap (λ x. (sets_of d).has l c || x) (sym (has_always r c listed at)))
  Applies-Or n is (left_neutral at) = Applies-right Or is (λ c listed. ap (λ x. x || (sets_of d).has r c) (sym (has_never l c listed at)))

  -- the left node whole, or nothing of it
  pub Applies-Without : (n : ℕ) → IsApplication d (application Without l r) → IsRest l r n → Applies d (application Without l r) n
  Applies-Without n is (whole at) = Applies-left Without is (λ c listed. and_true ((sets_of d).has l c) ∙ ap (λ x. (sets_of d).has l c && not x) (sym (has_never r c listed at)))
  Applies-Without n is (nothing cases) = record {
    application = is;
    own = slice_get_within d.nodes 0 _ valid.never;
    from = λ u left right. omega (arith, left, variable_end valid 0 (omega arith), variable-le valid l is.left);
    at = λ c listed. has_end valid c listed 0 (omega arith) ∙ elim cases [
      | inl none ↦ ap (λ x. x && not ((sets_of d).has r c)) (sym (has_never l c listed none))
      | inr others ↦ elim others [
        | inl all ↦ and_false ((sets_of d).has l c) ∙ ap (λ x. (sets_of d).has l c && not x) (sym (has_always r c listed all))
        | inr both ↦ and_not_itself _ _ (ap (λ m. (sets_of d).has m c) both)
      ]
    ];
  }

  -- ---- what can't be told from the first variables alone

  pub undecided-before : (op : Operation) → l < length d.nodes → variable_of d l < length d.arities → IsBefore d op l → IsUndecided d (application op l r)
  undecided-before op own within before = record {
    inner = omega (arith, (first-le (variable_of d l) (variable_of d r)).left, within);
    before = before;
  }

  pub undecided-left : (op : Operation) → l < length d.nodes → 2 ≤ l → IsBefore d op l → IsUndecided d (application op l r)
  undecided-left op own inner before = undecided-before op own (valid.decisions l inner own).within before

  pub undecided-right : (op : Operation) → r < length d.nodes → 2 ≤ r → IsBefore d op l → IsUndecided d (application op l r)
  undecided-right op own inner before = record {
    inner = omega (arith, (first-le (variable_of d l) (variable_of d r)).right, (valid.decisions r inner own).within);
    before = before;
  }

  -- the other end
  pub Applies-Negate : (n : ℕ) → IsApplication d (application Negate l r) → l < 2 → n ≡ 1 - l → Applies d (application Negate l r) n
  Applies-Negate n is low at =
      let low_n : n < 2 = omega (arith, at) in
      record {
        application = is;
        own = omega (arith, slice_get_within d.nodes 1 _ valid.always);
        from = λ u left right. omega (arith, left, variable_end valid l low, variable_end valid n low_n);
        at = λ c listed. has_end valid c listed n low_n ∙ ap (λ m. m == 1) at ∙ turned l low ∙ ap not (sym (has_end valid c listed l low));
      }
    where
      turned : (m : ℕ) → m < 2 → ((1 - m) == 1) ≡ not (m == 1)
      turned zero low = refl
      turned (suc zero) low = refl
      turned (suc (suc m)) low = absurd (omega arith)

  -- the child for the option, or the node where it decides by later variables alone
  pub Applies-Part : (v k n : ℕ) → IsApplication d (application (Part v k) l r) → v ≤ variable_of d l → n ≡ cofactor d l v k → Applies d (application (Part v k) l r) n
  Applies-Part v k n is from at =
      let within = is.operation.within in
      let in_range = is.operation.in_range in
      record {
        application = is;
        own = omega (arith, at, own_cofactor valid l is.left v k within in_range);
        from = λ u left right. omega (arith, ap (variable_of d) at, from_cofactor valid l is.left v k within in_range u left);
        at = λ c listed. ap (λ m. (sets_of d).has m c) at ∙ has_cofactor-set valid l is.left v k within in_range from c listed;
      }
