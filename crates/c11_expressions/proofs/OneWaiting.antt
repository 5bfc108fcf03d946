-- What waits behind symbols is one list: it is what reading them leaves.
use Rattle.std.proofs.Common.{◌≡◌, ℕ, ◌≤◌, List, [], ◌∷◌, ◌++◌, Option, Some, None, refl, sym, ap, ◌∙◌, arith}
use Rattle.std.specs.Option.{option_and_then}
use Rattle.std.proofs.lemmas.Bool.Decides.{nat_tests}
use Rattle.c11_expressions.specs.declared.punctuator.Punctuator.TheVariants as punctuator
use Rattle.c11_expressions.specs.Expressions.{Expression}
use Rattle.c11_expressions.specs.Grammar.{Phrase, Symbol, level_of, mark}
use Rattle.c11_expressions.specs.Waiting.{AreWaiting, Operand, Waiting, asked, before, branch, condition, infixed, left, needed, opened, parenthesis, parted, prefix, start}
use Rattle.c11_expressions.proofs.Reader.{Held, State, at_colon, at_infix, at_question, having, held, run, settled, step, wanting}
use Rattle.c11_expressions.proofs.Reading.{Waits, arrives, begun-prefix, kept, level-least, level-most, settled-waits}

pub waits-needed : (n : ℕ) (ws : List Waiting) → needed ws ≤ n → Waits n ws
waits-needed n [] h = tt
waits-needed n (parenthesis ∷ ws) h = λ p a b c. refl
waits-needed n (prefix op ∷ ws) h = λ p a b c. absurd (omega arith)
waits-needed n (left op x ∷ ws) h = λ p a b c. grind (arith, nat_tests)
waits-needed n (condition x ∷ ws) h = λ p a b c. refl
waits-needed n (branch x y ∷ ws) h = λ p a b c. grind (arith, nat_tests)

pub run-append : (s : State) (ts us : List Symbol) → run s (ts ++ us) ≡ option_and_then (λ n. run n us) (run s ts)
run-append s [] us = refl
run-append s (t ∷ ts) us = by (step s t) (λ n. run-append n ts us)
  where
    by : (o : Option State) → ((n : State) → run n (ts ++ us) ≡ option_and_then (λ m. run m us) (run n ts))
        → option_and_then (λ n. run n (ts ++ us)) o ≡ option_and_then (λ m. run m us) (option_and_then (λ n. run n ts) o)
    by None more = refl
    by (Some n) more = more n

-- an expression of a level under these, before a symbol of the level
read-before : (n : ℕ) (ws : List Waiting) (xs : List Symbol) (a : Expression) → Phrase n xs a → needed ws ≤ n → 1 ≤ n → n ≤ 10 → (rest : List Symbol)
    → (next : Option State) → ((fs : List Waiting) (x : Operand) → settled n fs x ≡ held ws (kept ws a) → run (having fs x) rest ≡ next) → run (wanting ws) (xs ++ rest) ≡ next
read-before n ws xs a form fit least most rest next then =
    let w = waits-needed n ws fit in
    let x = arrives n xs a form ws w in
    x.runs rest ∙ then x.frames x.operand (x.settles n (omega arith) ∙ settled-waits n ws (kept ws a) least most w)

-- what stands before `:`
then-colon : (ws : List Waiting) (x y : Operand) (xs : List Symbol) (a : Expression) → Phrase 0 xs a → y ≡ kept (condition x ∷ ws) a
    → run (wanting (condition x ∷ ws)) (xs ++ mark punctuator.Colon ∷ []) ≡ Some (wanting (branch x y ∷ ws))
then-colon ws x y xs a form same =
    let b = arrives 0 xs a form (condition x ∷ ws) (λ p i j k. refl) in
    b.runs (mark punctuator.Colon ∷ []) ∙ (ap (λ (h : Held). option_and_then (λ n. run n []) (at_colon h.frames h.operand)) (b.settles 0 (omega arith)) ∙ ap (λ k. Some (wanting (branch x k ∷ ws))) (sym same))

pub reads-waiting : (ws : List Waiting) (ts : List Symbol) → AreWaiting ws ts → run (wanting []) ts ≡ Some (wanting ws)
reads-waiting ws ts start = refl
reads-waiting ws ts (opened vs us d) = run-append (wanting []) us (mark punctuator.Open ∷ []) ∙ ap (option_and_then (λ n. run n (mark punctuator.Open ∷ []))) (reads-waiting vs us d)
reads-waiting ws ts (before vs us p op d is) =
    run-append (wanting []) us (mark p ∷ []) ∙ (ap (option_and_then (λ n. run n (mark p ∷ []))) (reads-waiting vs us d) ∙ ap (option_and_then (λ n. run n [])) (begun-prefix p op vs is))
reads-waiting ws ts (infixed vs us xs op x a d fit form same) =
    run-append (wanting []) us (xs ++ mark (punctuator.Binary op) ∷ []) ∙ (ap (option_and_then (λ n. run n (xs ++ mark (punctuator.Binary op) ∷ []))) (reads-waiting vs us d)
    ∙ read-before (level_of op) vs xs a form fit (level-least op) (level-most op) (mark (punctuator.Binary op) ∷ []) (Some (wanting ws)) (λ fs y e. ap (λ h. Some (at_infix op h)) e ∙ ap (λ z. Some (wanting (left op z ∷ vs))) (sym same)))
reads-waiting ws ts (asked vs us cs x c d none form same) =
    run-append (wanting []) us (cs ++ mark punctuator.Question ∷ []) ∙ (ap (option_and_then (λ n. run n (cs ++ mark punctuator.Question ∷ []))) (reads-waiting vs us d)
    ∙ read-before 1 vs cs c form (omega (arith, none)) (omega arith) (omega arith) (mark punctuator.Question ∷ []) (Some (wanting ws)) (λ fs y e. ap (λ h. Some (at_question h)) e ∙ ap (λ z. Some (wanting (condition z ∷ vs))) (sym same)))
reads-waiting ws ts (parted vs us cs xs x y c a d none c_form form c_same same) =
    let more = xs ++ mark punctuator.Colon ∷ [] in
    run-append (wanting []) us (cs ++ mark punctuator.Question ∷ more) ∙ (ap (option_and_then (λ n. run n (cs ++ mark punctuator.Question ∷ more))) (reads-waiting vs us d)
    ∙ read-before 1 vs cs c c_form (omega (arith, none)) (omega arith) (omega arith) (mark punctuator.Question ∷ more) (Some (wanting ws))
    (λ fs z e. ap (λ h. run (at_question h) more) e ∙ (ap (λ k. run (wanting (condition k ∷ vs)) more) (sym c_same) ∙ then-colon vs x y xs a form same)))

pub one_waiting : (ts : List Symbol) (ws vs : List Waiting) → AreWaiting ws ts → AreWaiting vs ts → ws ≡ vs
one_waiting ts ws vs d e = let same : Some (wanting ws) ≡ Some (wanting vs) = sym (reads-waiting ws ts d) ∙ reads-waiting vs ts e in cc
