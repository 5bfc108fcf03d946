-- Reading from left to right finds what the grammar says.
use Rattle.std.proofs.Common.{◌≡◌, ℕ, zero, suc, ◌≤◌, ◌+◌, ◌-◌, nat_le, List, [], ◌∷◌, ◌++◌, ℤ, Bool, true, false, Option, Some, None, Result, Ok, Err, refl, sym, ap, ◌∙◌, arith, append_assoc, append-nil, subst, IfSome, if◌then◌else◌}
use Rattle.std.specs.Option.{option_and_then}
use Rattle.std.proofs.lemmas.Bool.{leb-true, leb-false}
use Rattle.std.proofs.lemmas.Bool.Decides.{nat_tests}
use Rattle.c11_expressions.specs.Arithmetic.{Typed, typed}
use Rattle.c11_expressions.specs.declared.binary.Binary.{Binary}
use Rattle.c11_expressions.specs.declared.binary.Binary.TheVariants.{Multiply}
use Rattle.c11_expressions.specs.declared.punctuator.Punctuator.{Punctuator}
use Rattle.c11_expressions.specs.declared.punctuator.Punctuator.TheVariants as punctuator
use Rattle.c11_expressions.specs.declared.unary.Unary.{Unary}
use Rattle.c11_expressions.specs.Expressions.{Expression, constant, unary, binary, conditional, outcome, constant_outcome, result_of}
use Rattle.sc_model.specs.declared.cause.Cause.{Cause}
use Rattle.c11_expressions.specs.Grammar.{Symbol, operand, mark, as_unary, level_of, Phrase, number, parenthesized, prefixed, joined, chosen, tighter}
use Rattle.c11_expressions.specs.Waiting.{Operand, unevaluated, operand_of, Waiting, parenthesis, prefix, left, condition, branch, is_evaluated, needed, AreWaiting, start, opened, before, infixed, asked, parted}
use Rattle.c11_expressions.proofs.Operands.{closed-unary, closed-binary, closed-conditional, outcome_of, result-evaluated}
use Rattle.c11_expressions.proofs.Reader.{is_unsigned, result_of_operand, binds, closed, Held, held, settled, State, wanting, having, as_prefix, begun, at_colon, at_close, at_end, at_infix, at_question, gone_on, step, run, finished, reading}

-- ---- what the grammar has is read

-- the innermost frame binds no operator of this level or of a tighter one
abbrev pub Waits : ℕ → List Waiting → Type 0
Waits n [] = Unit {0}
Waits n (f ∷ fs) = (p : ℕ) → 1 ≤ p → p ≤ 10 → n ≤ p → binds p f ≡ false

-- reading the symbols under these frames leaves others that come to the same before a symbol of
-- this level or a looser one
pub record Arrives (n : ℕ) (fs : List Waiting) (ts : List Symbol) (x : Operand) : Type 0 where
  pub frames : List Waiting
  pub operand : Operand
  pub runs : (rest : List Symbol) → run (wanting fs) (ts ++ rest) ≡ run (having frames operand) rest
  pub settles : (p : ℕ) → p ≤ n → settled p frames operand ≡ settled p fs x

pub level-least : (op : Binary) → 1 ≤ level_of op
level-least op = elim op as (λ k. 1 ≤ level_of k) [ Multiply ↦ omega arith | _ ↦ omega arith ]

pub level-most : (op : Binary) → level_of op ≤ 10
level-most op = elim op as (λ k. level_of k ≤ 10) [ Multiply ↦ omega arith | _ ↦ omega arith ]

waits-tighter : (n : ℕ) (fs : List Waiting) → Waits n fs → Waits (suc n) fs
waits-tighter n [] w = tt
waits-tighter n (f ∷ fs) w = λ p a b c. w p a b (omega arith)

pub settled-waits : (n : ℕ) (fs : List Waiting) (x : Operand) → 1 ≤ n → n ≤ 10 → Waits n fs → settled n fs x ≡ held fs x
settled-waits n [] x a b w = refl
settled-waits n (f ∷ fs) x a b w = rw (w n a b (omega arith)) refl

waits-left : (op : Binary) (x : Operand) (fs : List Waiting) → Waits (suc (level_of op)) (left op x ∷ fs)
waits-left op x fs = λ p a b c. grind (arith, nat_tests)

arrives-number : (v : Typed) (fs : List Waiting) → Arrives 12 fs (operand v ∷ []) (operand_of (is_evaluated fs) (constant_outcome v))
arrives-number v fs = record { frames = fs; operand = operand_of (is_evaluated fs) (constant_outcome v); runs = λ rest. refl; settles = λ p h. refl }

pub begun-prefix : (p : Punctuator) (op : Unary) (fs : List Waiting) → as_unary p ≡ Some op → begun fs (mark p) ≡ Some (wanting (prefix op ∷ fs))
begun-prefix punctuator.Open op fs is = absurd (cc)
begun-prefix p op fs is = ap (as_prefix fs) is

arrives-prefix : (p : Punctuator) (op : Unary) (fs : List Waiting) (ts : List Symbol) (x : Operand) → as_unary p ≡ Some op
    → Arrives 11 (prefix op ∷ fs) ts x → Arrives 11 fs (mark p ∷ ts) (closed (prefix op) x)
arrives-prefix p op fs ts x is a = record {
  frames = a.frames;
  operand = a.operand;
  runs = λ rest. ap (λ s. option_and_then (λ n. run n (ts ++ rest)) s) (begun-prefix p op fs is) ∙ a.runs rest;
  settles = a.settles;
}

arrives-parenthesized : (fs : List Waiting) (ts : List Symbol) (x : Operand) → Arrives 0 (parenthesis ∷ fs) ts x → Arrives 12 fs (mark punctuator.Open ∷ (ts ++ mark punctuator.Close ∷ [])) x
arrives-parenthesized fs ts x a = record {
  frames = fs;
  operand = x;
  runs = λ rest. ap (run (wanting (parenthesis ∷ fs))) (append_assoc ts (mark punctuator.Close ∷ []) rest) ∙ a.runs (mark punctuator.Close ∷ rest) ∙ rw (a.settles 0 (omega arith)) refl;
  settles = λ p h. refl;
}

arrives-joined : (op : Binary) (fs : List Waiting) (xs ys : List Symbol) (x y : Operand) → Waits (level_of op) fs → Arrives (level_of op) fs xs x
    → Arrives (suc (level_of op)) (left op x ∷ fs) ys y → Arrives (level_of op) fs (xs ++ mark (punctuator.Binary op) ∷ ys) (closed (left op x) y)
arrives-joined op fs xs ys x y w a b =
    let e = a.settles (level_of op) (omega arith) ∙ settled-waits (level_of op) fs x (level-least op) (level-most op) w in
    record {
      frames = b.frames;
      operand = b.operand;
      runs = λ rest. ap (run (wanting fs)) (append_assoc xs (mark (punctuator.Binary op) ∷ ys) rest) ∙ a.runs (mark (punctuator.Binary op) ∷ (ys ++ rest)) ∙ ap (λ h. run (at_infix op h) (ys ++ rest)) e ∙ b.runs rest;
      settles = λ p h. b.settles p (omega arith) ∙ (let t : nat_le p (level_of op) ≡ true = grind (arith, nat_tests) in rw t refl);
    }

arrives-chosen : (fs : List Waiting) (cs xs ys : List Symbol) (c x y : Operand) → Waits 1 fs → Arrives 1 fs cs c → Arrives 0 (condition c ∷ fs) xs x
    → Arrives 0 (branch c x ∷ fs) ys y → Arrives 0 fs (cs ++ mark punctuator.Question ∷ (xs ++ mark punctuator.Colon ∷ ys)) (closed (branch c x) y)
arrives-chosen fs cs xs ys c x y w a b d =
    let e = a.settles 1 (omega arith) ∙ settled-waits 1 fs c (omega arith) (omega arith) w in
    record {
      frames = d.frames;
      operand = d.operand;
      runs = λ rest. ap (run (wanting fs)) (append_assoc cs (mark punctuator.Question ∷ (xs ++ mark punctuator.Colon ∷ ys)) rest) ∙ a.runs (mark punctuator.Question ∷ ((xs ++ mark punctuator.Colon ∷ ys) ++ rest))
          ∙ ap (λ h. run (at_question h) ((xs ++ mark punctuator.Colon ∷ ys) ++ rest)) e ∙ ap (run (wanting (condition c ∷ fs))) (append_assoc xs (mark punctuator.Colon ∷ ys) rest)
          ∙ b.runs (mark punctuator.Colon ∷ (ys ++ rest)) ∙ rw (b.settles 0 (omega arith)) refl ∙ d.runs rest;
      settles = λ p h. d.settles p h ∙ (let t : nat_le p 0 ≡ true = grind (arith, nat_tests) in rw t refl);
    }

arrives-looser : (n : ℕ) (fs : List Waiting) (ts : List Symbol) (x : Operand) → Arrives (suc n) fs ts x → Arrives n fs ts x
arrives-looser n fs ts x a = record { frames = a.frames; operand = a.operand; runs = a.runs; settles = λ p h. a.settles p (omega arith) }

-- what is kept of an expression behind these
abbrev pub kept : List Waiting → Expression → Operand
kept fs e = operand_of (is_evaluated fs) (outcome e)

same-arrives : (n : ℕ) (fs : List Waiting) (ts : List Symbol) (x y : Operand) → x ≡ y → Arrives n fs ts x → Arrives n fs ts y
same-arrives n fs ts x y e a = subst (Arrives n fs ts) e a

pub arrives : (n : ℕ) (ts : List Symbol) (e : Expression) → Phrase n ts e → (fs : List Waiting) → Waits n fs → Arrives n fs ts (kept fs e)
arrives n ts e (number v) = λ fs w. arrives-number v fs
arrives n ts e (parenthesized us a d) = λ fs w. arrives-parenthesized fs us (kept fs a) (arrives 0 us a d (parenthesis ∷ fs) (λ p a b c. refl))
arrives n ts e (prefixed p op us a is d) = λ fs w.
    same-arrives n fs ts _ _ (closed-unary op (is_evaluated fs) (outcome a))
    (arrives-prefix p op fs us (kept fs a) is (arrives 11 us a d (prefix op ∷ fs) (λ p a b c. absurd (omega arith))))
arrives n ts e (joined op xs ys a b d f) = λ fs w.
    let x = kept fs a in
    same-arrives n fs ts _ _ (closed-binary op fs (is_evaluated fs) (outcome a) (outcome b))
    (arrives-joined op fs xs ys x (kept (left op x ∷ fs) b) w (arrives _ xs a d fs w) (arrives _ ys b f (left op x ∷ fs) (waits-left op x fs)))
arrives n ts e (chosen cs xs ys c a b d f g) = λ fs w.
    let z = kept fs c in
    let x = kept (condition z ∷ fs) a in
    same-arrives n fs ts _ _ (closed-conditional fs (is_evaluated fs) (outcome c) (outcome a) (outcome b))
    (arrives-chosen fs cs xs ys z x (kept (branch z x ∷ fs) b) (waits-tighter 0 fs w) (arrives 1 cs c d fs (waits-tighter 0 fs w))
    (arrives 0 xs a f (condition z ∷ fs) (λ p a b c. refl)) (arrives 0 ys b g (branch z x ∷ fs) (λ p a b c. grind (arith, nat_tests))))
arrives n ts e (tighter m us a d) = λ fs w. arrives-looser n fs ts (kept fs e) (arrives (suc n) ts e d fs (waits-tighter n fs w))

-- an expression is read as what evaluating it gives
pub reads : (ts : List Symbol) (e : Expression) → Phrase 0 ts e → reading ts ≡ Some (operand_of true (outcome e))
reads ts e d =
    let a = arrives 0 ts e d [] tt in
    ap (λ us. option_and_then finished (run (wanting []) us)) (sym (append-nil ts)) ∙ ap (option_and_then finished) (a.runs []) ∙ rw (a.settles 0 (omega arith)) refl

-- ---- what is read is of the grammar

-- the symbols are those of the frames, and then an operand that they take, of this level or a
-- tighter one
pub record Has (p : ℕ) (fs : List Waiting) (x : Operand) (ts : List Symbol) : Type 0 where
  pub first : List Symbol
  pub last : List Symbol
  pub level : ℕ
  pub expression : Expression
  pub under : AreWaiting fs first
  pub form : Phrase level last expression
  pub fits : needed fs ≤ level
  pub tight : p ≤ level
  pub is : x ≡ kept fs expression
  pub whole : ts ≡ first ++ last

looser_by : (k m n : ℕ) (ts : List Symbol) (e : Expression) → n ≡ m + k → Phrase n ts e → Phrase m ts e
looser_by zero m n ts e is d = let same : n ≡ m = omega arith in subst (λ l. Phrase l ts e) same d
looser_by (suc k) m n ts e is d = tighter m ts e (looser_by k (suc m) n ts e (omega arith) d)

pub looser : (m n : ℕ) (ts : List Symbol) (e : Expression) → m ≤ n → Phrase n ts e → Phrase m ts e
looser m n ts e h d = looser_by (n - m) m n ts e (omega arith) d

needed-most : (fs : List Waiting) → needed fs ≤ 11
needed-most [] = omega arith
needed-most (parenthesis ∷ fs) = omega arith
needed-most (prefix op ∷ fs) = omega arith
needed-most (left op x ∷ fs) = omega (arith, level-most op)
needed-most (condition c ∷ fs) = omega arith
needed-most (branch c x ∷ fs) = omega arith

-- no frame takes just the operators
pub needed-none : (fs : List Waiting) → needed fs ≤ 1 → needed fs ≡ 0
needed-none [] h = refl
needed-none (parenthesis ∷ fs) h = refl
needed-none (prefix op ∷ fs) h = absurd (omega arith)
needed-none (left op x ∷ fs) h = absurd (omega (arith, level-least op))
needed-none (condition c ∷ fs) h = refl
needed-none (branch c x ∷ fs) h = refl

unbound : (p : ℕ) (f : Waiting) (fs : List Waiting) → binds p f ≡ false → needed (f ∷ fs) ≤ p
unbound p parenthesis fs h = omega arith
unbound p (prefix op) fs h = absurd (cc)
unbound p (left op x) fs h = omega (arith, leb-false p (level_of op) h)
unbound p (condition c) fs h = omega arith
unbound p (branch c x) fs h = omega arith

closes-prefix : (p : ℕ) (op : Unary) (fs : List Waiting) (x : Operand) (ts first last : List Symbol) (n : ℕ) (e : Expression) → AreWaiting (prefix op ∷ fs) first → p ≤ 11
    → Phrase n last e → 11 ≤ n → x ≡ kept fs e → ts ≡ first ++ last → Has p fs (closed (prefix op) x) ts
closes-prefix p op fs x ts first last n e (before gs us q o under is) low form fits same whole = record {
  first = us;
  last = mark q ∷ last;
  level = 11;
  expression = unary op e;
  under = under;
  form = prefixed q op last e is (looser 11 n last e fits form);
  fits = needed-most fs;
  tight = low;
  is = ap (closed (prefix op)) same ∙ closed-unary op (is_evaluated fs) (outcome e);
  whole = whole ∙ append_assoc us (mark q ∷ []) last;
}

closes-left : (p : ℕ) (op : Binary) (y : Operand) (fs : List Waiting) (x : Operand) (ts first last : List Symbol) (n : ℕ) (e : Expression) → AreWaiting (left op y ∷ fs) first → p ≤ level_of op
    → Phrase n last e → suc (level_of op) ≤ n → x ≡ kept (left op y ∷ fs) e → ts ≡ first ++ last → Has p fs (closed (left op y) x) ts
closes-left p op y fs x ts first last n e (infixed gs us xs o z a under fit left_form left_same) low form fits same whole = record {
  first = us;
  last = xs ++ mark (punctuator.Binary op) ∷ last;
  level = level_of op;
  expression = binary op a e;
  under = under;
  form = joined op xs last a e left_form (looser (suc (level_of op)) n last e fits form);
  fits = fit;
  tight = low;
  is = ap (closed (left op y)) same ∙ (ap (λ z. closed (left op z) (kept (left op z ∷ fs) e)) left_same ∙ closed-binary op fs (is_evaluated fs) (outcome a) (outcome e));
  whole = whole ∙ append_assoc us (xs ++ mark (punctuator.Binary op) ∷ []) last ∙ ap (λ vs. us ++ vs) (append_assoc xs (mark (punctuator.Binary op) ∷ []) last);
}

closes-branch : (p : ℕ) (v y : Operand) (fs : List Waiting) (x : Operand) (ts first last : List Symbol) (n : ℕ) (e : Expression) → AreWaiting (branch v y ∷ fs) first → p ≤ 0
    → Phrase n last e → x ≡ kept (branch v y ∷ fs) e → ts ≡ first ++ last → Has p fs (closed (branch v y) x) ts
closes-branch p v y fs x ts first last n e (parted gs us cs xs w z c a under none c_form a_form c_same a_same) low form same whole = record {
  first = us;
  last = cs ++ mark punctuator.Question ∷ (xs ++ mark punctuator.Colon ∷ last);
  level = 0;
  expression = conditional c a e;
  under = under;
  form = chosen cs xs last c a e c_form a_form (looser 0 n last e (omega arith) form);
  fits = omega arith;
  tight = low;
  is = ap (closed (branch v y)) same ∙ (ap (λ z. closed (branch v z) (kept (branch v z ∷ fs) e)) a_same
      ∙ (ap (λ w. closed (branch w (kept (condition w ∷ fs) a)) (kept (branch w (kept (condition w ∷ fs) a) ∷ fs) e)) c_same ∙ closed-conditional fs (is_evaluated fs) (outcome c) (outcome a) (outcome e)));
  whole = whole ∙ append_assoc us (cs ++ mark punctuator.Question ∷ (xs ++ mark punctuator.Colon ∷ [])) last
      ∙ ap (λ vs. us ++ vs) (append_assoc cs (mark punctuator.Question ∷ (xs ++ mark punctuator.Colon ∷ [])) last ∙ ap (λ vs. cs ++ mark punctuator.Question ∷ vs) (append_assoc xs (mark punctuator.Colon ∷ []) last));
}

closes : (p : ℕ) (f : Waiting) (fs : List Waiting) (x : Operand) (ts : List Symbol) → p ≤ 10 → binds p f ≡ true → Has p (f ∷ fs) x ts → Has p fs (closed f x) ts
closes p parenthesis fs x ts low b h = absurd (cc)
closes p (prefix op) fs x ts low b h = closes-prefix p op fs x ts h.first h.last h.level h.expression h.under (omega arith) h.form h.fits h.is h.whole
closes p (left op y) fs x ts low b h = closes-left p op y fs x ts h.first h.last h.level h.expression h.under (leb-true p (level_of op) b) h.form h.fits h.is h.whole
closes p (condition c) fs x ts low b h = absurd (cc)
closes p (branch c y) fs x ts low b h = closes-branch p c y fs x ts h.first h.last h.level h.expression h.under (leb-true p 0 b) h.form h.is h.whole

-- settled frames take this level
pub settles : (p : ℕ) (fs : List Waiting) (x : Operand) (ts : List Symbol) → p ≤ 10 → Has p fs x ts
    → Has p (settled p fs x).frames (settled p fs x).operand ts × (needed (settled p fs x).frames ≤ p)
settles p [] x ts low h = (h, omega arith)
settles p (f ∷ fs) x ts low h = by (binds p f) refl (λ e. settles p fs (closed f x) ts low (closes p f fs x ts low e h))
  where
    by : (b : Bool) → binds p f ≡ b
        → (binds p f ≡ true → Has p (settled p fs (closed f x)).frames (settled p fs (closed f x)).operand ts × (needed (settled p fs (closed f x)).frames ≤ p))
        → Has p (if b then settled p fs (closed f x) else held (f ∷ fs) x).frames (if b then settled p fs (closed f x) else held (f ∷ fs) x).operand ts
        × (needed (if b then settled p fs (closed f x) else held (f ∷ fs) x).frames ≤ p)
    by true e lower = lower e
    by false e lower = (h, unbound p f fs e)

-- the symbols bring the reader to this state
abbrev pub Stands : State → List Symbol → Type 0
Stands (wanting fs) ts = AreWaiting fs ts
Stands (having fs x) ts = Has 12 fs x ts

same-under : (fs : List Waiting) (ts us : List Symbol) → us ≡ ts → AreWaiting fs ts → AreWaiting fs us
same-under fs ts us e u = subst (λ vs. AreWaiting fs vs) (sym e) u

has-number : (fs : List Waiting) (ts : List Symbol) (v : Typed) → AreWaiting fs ts → Has 12 fs (operand_of (is_evaluated fs) (constant_outcome v)) (ts ++ operand v ∷ [])
has-number fs ts v u = record {
  first = ts;
  last = operand v ∷ [];
  level = 12;
  expression = constant v;
  under = u;
  form = number v;
  fits = omega (arith, needed-most fs);
  tight = omega arith;
  is = refl;
  whole = refl;
}

begins-prefix : (fs : List Waiting) (ts : List Symbol) (p : Punctuator) (o : Option Unary) → as_unary p ≡ o → AreWaiting fs ts → IfSome (as_prefix fs o) (λ s. Stands s (ts ++ mark p ∷ []))
begins-prefix fs ts p None e u = tt
begins-prefix fs ts p (Some op) e u = before fs ts p op u e

begins : (fs : List Waiting) (ts : List Symbol) (t : Symbol) → AreWaiting fs ts → IfSome (begun fs t) (λ s. Stands s (ts ++ t ∷ []))
begins fs ts (operand v) u = has-number fs ts v u
begins fs ts (mark punctuator.Open) u = opened fs ts u
begins fs ts (mark p) u = begins-prefix fs ts p (as_unary p) refl u

goes-infix : (op : Binary) (h : Held) (ts : List Symbol) → Has (level_of op) h.frames h.operand ts → needed h.frames ≤ level_of op → Stands (at_infix op h) (ts ++ mark (punctuator.Binary op) ∷ [])
goes-infix op h ts has fit =
    same-under (left op h.operand ∷ h.frames) _ _ (ap (λ us. us ++ mark (punctuator.Binary op) ∷ []) has.whole ∙ append_assoc has.first has.last (mark (punctuator.Binary op) ∷ []))
    (infixed h.frames has.first has.last op h.operand has.expression has.under fit (looser (level_of op) has.level has.last has.expression has.tight has.form) has.is)

goes-question : (h : Held) (ts : List Symbol) → Has 1 h.frames h.operand ts → needed h.frames ≤ 1 → Stands (at_question h) (ts ++ mark punctuator.Question ∷ [])
goes-question h ts has fit =
    same-under (condition h.operand ∷ h.frames) _ _ (ap (λ us. us ++ mark punctuator.Question ∷ []) has.whole ∙ append_assoc has.first has.last (mark punctuator.Question ∷ []))
    (asked h.frames has.first has.last h.operand has.expression has.under (needed-none h.frames fit) (looser 1 has.level has.last has.expression has.tight has.form) has.is)

goes-branch : (fs : List Waiting) (c y : Operand) (first last : List Symbol) (a : Expression) → AreWaiting (condition c ∷ fs) first → Phrase 0 last a → y ≡ kept (condition c ∷ fs) a
    → AreWaiting (branch c y ∷ fs) (first ++ (last ++ mark punctuator.Colon ∷ []))
goes-branch fs c y first last a (asked gs us cs x e under none form same) d is =
    same-under (branch c y ∷ fs) _ _ (append_assoc us (cs ++ mark punctuator.Question ∷ []) (last ++ mark punctuator.Colon ∷ [])
    ∙ ap (λ vs. us ++ vs) (append_assoc cs (mark punctuator.Question ∷ []) (last ++ mark punctuator.Colon ∷ [])))
    (parted fs us cs last c y e a under none form d same is)

goes-colon : (fs : List Waiting) (y : Operand) (ts : List Symbol) → Has 0 fs y ts → IfSome (at_colon fs y) (λ s. Stands s (ts ++ mark punctuator.Colon ∷ []))
goes-colon (condition c ∷ fs) y ts h =
    same-under (branch c y ∷ fs) _ _ (ap (λ us. us ++ mark punctuator.Colon ∷ []) h.whole ∙ append_assoc h.first h.last (mark punctuator.Colon ∷ []))
    (goes-branch fs c y h.first h.last h.expression h.under (looser 0 h.level h.last h.expression (omega arith) h.form) h.is)
goes-colon _ y ts h = tt

goes-out : (fs : List Waiting) (y : Operand) (ts first last : List Symbol) (a : Expression) → AreWaiting (parenthesis ∷ fs) first → Phrase 0 last a → y ≡ kept fs a → ts ≡ first ++ last
    → Has 12 fs y (ts ++ mark punctuator.Close ∷ [])
goes-out fs y ts first last a (opened gs us under) d is whole = record {
  first = us;
  last = mark punctuator.Open ∷ (last ++ mark punctuator.Close ∷ []);
  level = 12;
  expression = a;
  under = under;
  form = parenthesized last a d;
  fits = omega (arith, needed-most fs);
  tight = omega arith;
  is = is;
  whole = ap (λ vs. vs ++ mark punctuator.Close ∷ []) (whole ∙ append_assoc us (mark punctuator.Open ∷ []) last) ∙ append_assoc us (mark punctuator.Open ∷ last) (mark punctuator.Close ∷ []);
}

goes-close : (fs : List Waiting) (y : Operand) (ts : List Symbol) → Has 0 fs y ts → IfSome (at_close fs y) (λ s. Stands s (ts ++ mark punctuator.Close ∷ []))
goes-close (parenthesis ∷ fs) y ts h = goes-out fs y ts h.first h.last h.expression h.under (looser 0 h.level h.last h.expression (omega arith) h.form) h.is h.whole
goes-close _ y ts h = tt

pub weaker : (p : ℕ) (fs : List Waiting) (x : Operand) (ts : List Symbol) → p ≤ 10 → Has 12 fs x ts → Has p fs x ts
weaker p fs x ts low h = record {
  first = h.first;
  last = h.last;
  level = h.level;
  expression = h.expression;
  under = h.under;
  form = h.form;
  fits = h.fits;
  tight = omega (arith, h.tight);
  is = h.is;
  whole = h.whole;
}

goes : (fs : List Waiting) (x : Operand) (ts : List Symbol) (t : Symbol) → Has 12 fs x ts → IfSome (gone_on fs x t) (λ s. Stands s (ts ++ t ∷ []))
goes fs x ts (operand v) h = tt
goes fs x ts (mark punctuator.Open) h = tt
goes fs x ts (mark (punctuator.Unary op)) h = tt
goes fs x ts (mark (punctuator.Binary op)) h =
    let s = settles (level_of op) fs x ts (level-most op) (weaker (level_of op) fs x ts (level-most op) h) in goes-infix op (settled (level_of op) fs x) ts s.0 s.1
goes fs x ts (mark punctuator.Question) h = let s = settles 1 fs x ts (omega arith) (weaker 1 fs x ts (omega arith) h) in goes-question (settled 1 fs x) ts s.0 s.1
goes fs x ts (mark punctuator.Colon) h = let s = settles 0 fs x ts (omega arith) (weaker 0 fs x ts (omega arith) h) in goes-colon _ _ ts s.0
goes fs x ts (mark punctuator.Close) h = let s = settles 0 fs x ts (omega arith) (weaker 0 fs x ts (omega arith) h) in goes-close _ _ ts s.0

steps : (s : State) (ts : List Symbol) (t : Symbol) → Stands s ts → IfSome (step s t) (λ n. Stands n (ts ++ t ∷ []))
steps (wanting fs) ts t h = begins fs ts t h
steps (having fs x) ts t h = goes fs x ts t h

pub runs : (s : State) (ts us : List Symbol) → Stands s ts → IfSome (run s us) (λ n. Stands n (ts ++ us))
runs s ts [] h = subst (λ vs. Stands s vs) (sym (append-nil ts)) h
runs s ts (u ∷ us) h = by (step s u) (steps s ts u h) (λ n k. runs n (ts ++ u ∷ []) us k)
  where
    by : (o : Option State) → IfSome o (λ n. Stands n (ts ++ u ∷ [])) → ((n : State) → Stands n (ts ++ u ∷ []) → IfSome (run n us) (λ m. Stands m ((ts ++ u ∷ []) ++ us)))
        → IfSome (option_and_then (λ n. run n us) o) (λ n. Stands n (ts ++ u ∷ us))
    by None k rest = tt
    by (Some n) k rest = subst (λ vs. IfSome (run n us) (λ m. Stands m vs)) (append_assoc ts (u ∷ []) us) (rest n k)

-- an expression and what evaluating it gives
pub record Found (ts : List Symbol) (x : Operand) : Type 0 where
  pub expression : Expression
  pub form : Phrase 0 ts expression
  pub is : x ≡ operand_of true (outcome expression)

ends : (fs : List Waiting) (y : Operand) (ts : List Symbol) → Has 0 fs y ts → IfSome (at_end fs y) (Found ts)
ends [] y ts h = found h.first h.last h.under h.form h.whole
  where
    found : (first last : List Symbol) → AreWaiting [] first → Phrase h.level last h.expression → ts ≡ first ++ last → Found ts y
    found first last start form whole = record { expression = h.expression; form = looser 0 h.level ts h.expression (omega arith) (subst (λ vs. Phrase h.level vs h.expression) (sym whole) form); is = h.is }
ends (f ∷ fs) y ts h = tt

finishes : (s : State) (ts : List Symbol) → Stands s ts → IfSome (finished s) (Found ts)
finishes (wanting fs) ts h = tt
finishes (having fs x) ts h = let s = settles 0 fs x ts (omega arith) (weaker 0 fs x ts (omega arith) h) in ends _ _ ts s.0

-- what is read is an expression
pub found : (ts : List Symbol) → IfSome (reading ts) (Found ts)
found ts = by (run (wanting []) ts) (runs (wanting []) [] ts start)
  where
    by : (o : Option State) → IfSome o (λ n. Stands n ts) → IfSome (option_and_then finished o) (Found ts)
    by None k = tt
    by (Some n) k = finishes n ts k

-- ---- symbols are read in one way

abbrev settled_by : Option State → Held
settled_by (Some (having fs x)) = settled 0 fs x
settled_by _ = held [] (unevaluated false)

-- under these, whichever expression they are
one-read : (fs : List Waiting) (ts : List Symbol) (a b : Expression) → Waits 0 fs → Phrase 0 ts a → Phrase 0 ts b → settled 0 fs (kept fs a) ≡ settled 0 fs (kept fs b)
one-read fs ts a b w d e =
    let x = arrives 0 ts a d fs w in
    let y = arrives 0 ts b e fs w in
    sym (x.settles 0 (omega arith)) ∙ (sym (ap settled_by (x.runs [])) ∙ (ap settled_by (y.runs []) ∙ y.settles 0 (omega arith)))

pub one_outcome : (ts : List Symbol) (a b : Expression) → Phrase 0 ts a → Phrase 0 ts b → outcome a ≡ outcome b
one_outcome ts a b d e =
    let quiet : List Waiting = condition (unevaluated false) ∷ [] in
    by _ _ _ _ (ap (λ (h : Held). is_unsigned h.operand) (one-read quiet ts a b (λ p i j k. refl) d e))
    (sym (result-evaluated (outcome a)) ∙ (ap (λ (h : Held). result_of_operand h.operand) (one-read [] ts a b tt d e) ∙ result-evaluated (outcome b)))
  where
    by : (u v : Bool) (m n : Result ℤ Cause) → u ≡ v → result_of (outcome_of u m) ≡ result_of (outcome_of v n) → outcome_of u m ≡ outcome_of v n
    by u v (Ok m) (Ok n) same is = let t : typed u m ≡ typed v n = cc in let k : m ≡ n = ap (λ (x : Typed). x.number) t in cc
    by u v (Err c) (Err d) same is = cc
    by u v (Ok m) (Err d) same is = absurd (cc)
    by u v (Err c) (Ok n) same is = absurd (cc)
