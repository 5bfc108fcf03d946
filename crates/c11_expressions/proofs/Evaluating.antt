-- What tokens come to is what reading them finds.
use Rattle.std.proofs.Common.{◌≡◌, List, [], ◌∷◌, Option, Some, None, Result, Err, true, refl, sym, ap, ◌∙◌, subst, map, IfSome}
use Rattle.std.specs.Option.{option_and_then}
use Rattle.c11_expressions.specs.Arithmetic.{Typed}
use Rattle.c11_expressions.specs.Evaluates.{Symbols, IsExpression, Evaluates, evaluated, refused}
use Rattle.c11_expressions.specs.Expressions.{Expression, outcome}
use Rattle.c11_expressions.specs.Grammar.{Symbol}
use Rattle.c11_expressions.specs.Waiting.{Operand, operand_of}
use Rattle.c11_expressions.proofs.Operands.{result-evaluated}
use Rattle.c11_expressions.proofs.Reader.{State, wanting, step, run, finished, reading, run_tokens, reading_tokens, result_of_operand}
use Rattle.c11_expressions.proofs.Reading.{Found, found, reads}
use Rattle.sc_model.specs.declared.cause.Cause.{Cause}
use Rattle.sc_model.specs.declared.cause.Cause.TheVariants.{BadIf}

-- the symbols that tokens are, and what reading them gives
pub record SymbolsRun (s n : State) (ts : Symbols) : Type 0 where
  pub symbols : List Symbol
  pub each : ts ≡ map Some symbols
  pub runs : run s symbols ≡ Some n

pub run-symbols : (s : State) (ts : Symbols) (ss : List Symbol) → ts ≡ map Some ss → run_tokens s ts ≡ run s ss
run-symbols s [] [] e = refl
run-symbols s [] (y ∷ ys) e = absurd (cc)
run-symbols s (t ∷ ts) [] e = absurd (cc)
run-symbols s (t ∷ ts) (y ∷ ys) e =
    let head : t ≡ Some y = cc in
    let tail : ts ≡ map Some ys = cc in
    ap (λ o. option_and_then (λ n. run_tokens n ts) (option_and_then (step s) o)) head ∙ by (step s y) (λ n. run-symbols n ts ys tail)
  where
    by : (o : Option State) → ((n : State) → run_tokens n ts ≡ run n ys) → option_and_then (λ n. run_tokens n ts) o ≡ option_and_then (λ n. run n ys) o
    by None same = refl
    by (Some n) same = same n

symbols-none : (s n : State) (t : Option Symbol) (ts : Symbols) (o : Option Symbol) → t ≡ o
    → ((y : Symbol) (m : State) → step s y ≡ Some m → run_tokens m ts ≡ Some n → t ≡ Some y → SymbolsRun s n (t ∷ ts))
    → option_and_then (λ m. run_tokens m ts) (option_and_then (step s) o) ≡ Some n → SymbolsRun s n (t ∷ ts)
symbols-none s n t ts None is go e = absurd (cc)
symbols-none s n t ts (Some y) is go e = by (step s y) refl e
  where
    by : (o : Option State) → step s y ≡ o → option_and_then (λ m. run_tokens m ts) o ≡ Some n → SymbolsRun s n (t ∷ ts)
    by None k e = absurd (cc)
    by (Some m) k e = go y m k e is

pub symbols-run : (s n : State) (ts : Symbols) → run_tokens s ts ≡ Some n → SymbolsRun s n ts
symbols-run s n [] e = record { symbols = []; each = refl; runs = e }
symbols-run s n (t ∷ ts) e = symbols-none s n t ts t refl (λ y m k r is. onto s n t ts y m k is (symbols-run m n ts r)) e
  where
    onto : (s n : State) (t : Option Symbol) (ts : Symbols) (y : Symbol) (m : State) → step s y ≡ Some m → t ≡ Some y → SymbolsRun m n ts → SymbolsRun s n (t ∷ ts)
    onto s n t ts y m k is rest = record { symbols = y ∷ rest.symbols; each = cc (is, rest.each); runs = ap (option_and_then (λ m. run m rest.symbols)) k ∙ rest.runs }

-- an expression is read
pub reads_tokens : (ts : Symbols) (e : Expression) → IsExpression ts e → reading_tokens ts ≡ Some (operand_of true (outcome e))
reads_tokens ts e is = ap (option_and_then finished) (run-symbols (wanting []) ts is.symbols is.each) ∙ reads is.symbols e is.form

-- what is read is an expression
pub evaluates_ok : (ts : Symbols) (o : Operand) → reading_tokens ts ≡ Some o → Evaluates ts (result_of_operand o)
evaluates_ok ts o e = by (run_tokens (wanting []) ts) refl e
  where
    final : (n : State) → SymbolsRun (wanting []) n ts → finished n ≡ Some o → Evaluates ts (result_of_operand o)
    final n s e =
        let same : reading s.symbols ≡ Some o = ap (option_and_then finished) s.runs ∙ e in
        let f : Found s.symbols o = subst (λ x. IfSome x (Found s.symbols)) same (found s.symbols) in
        subst (Evaluates ts) (sym (ap result_of_operand f.is ∙ result-evaluated (outcome f.expression))) (evaluated f.expression (record { symbols = s.symbols; each = s.each; form = f.form }))

    by : (r : Option State) → run_tokens (wanting []) ts ≡ r → option_and_then finished r ≡ Some o → Evaluates ts (result_of_operand o)
    by None k e = absurd (cc)
    by (Some n) k e = final n (symbols-run (wanting []) n ts k) e

pub evaluates_err : (ts : Symbols) → reading_tokens ts ≡ None → Evaluates ts (Err BadIf)
evaluates_err ts none = refused (λ e is. absurd (clash (reading_tokens ts) none (reads_tokens ts e is)))
  where
    clash : {o : Operand} → (r : Option Operand) → r ≡ None → r ≡ Some o → ⊥
    clash r a b = cc

-- tokens come to one result
pub one_result : (ts : Symbols) (r s : Result Typed Cause) → Evaluates ts r → Evaluates ts s → r ≡ s
one_result ts r s (evaluated a is) (evaluated b at) =
    let same : Some (operand_of true (outcome a)) ≡ Some (operand_of true (outcome b)) = sym (reads_tokens ts a is) ∙ reads_tokens ts b at in
    let o : operand_of true (outcome a) ≡ operand_of true (outcome b) = cc in
    sym (result-evaluated (outcome a)) ∙ (ap result_of_operand o ∙ result-evaluated (outcome b))
one_result ts r s (evaluated a is) (refused none) = absurd (none a is)
one_result ts r s (refused none) (evaluated b at) = absurd (none b at)
one_result ts r s (refused none) (refused other) = refl

pub has_result : (ts : Symbols) → (r : Result Typed Cause) × Evaluates ts r
has_result ts = by (reading_tokens ts) refl
  where
    by : (o : Option Operand) → reading_tokens ts ≡ o → (r : Result Typed Cause) × Evaluates ts r
    by None is = (Err BadIf, evaluates_err ts is)
    by (Some o) is = (result_of_operand o, evaluates_ok ts o is)
