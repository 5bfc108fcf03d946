-- What waits before a symbol is what reading tells: as far as the symbol lets it be settled.
use Rattle.std.proofs.Common.{◌≡◌, true, ℕ, ◌≤◌, List, [], ◌∷◌, ◌++◌, Option, Some, None, IfSome, refl, sym, ap, subst, ◌∙◌, arith, append-nil}
use Rattle.std.specs.Option.{option_and_then}
use Rattle.c11_expressions.specs.declared.punctuator.Punctuator.TheVariants as punctuator
use Rattle.c11_expressions.specs.Evaluates.{IsExpression, Symbols}
use Rattle.c11_expressions.specs.Expressions.{Expression, outcome}
use Rattle.c11_expressions.specs.Grammar.{Phrase, Symbol, level_of, mark, operand}
use Rattle.c11_expressions.specs.Parts.{Ends, IsPart, Part, WaitsBefore, close, colon, ended, operator, question, wanted}
use Rattle.c11_expressions.specs.Waiting.{AreWaiting, Operand, Waiting, condition, operand_of, parenthesis, start}
use Rattle.c11_expressions.proofs.Evaluating.{SymbolsRun, reads_tokens, run-symbols, symbols-run}
use Rattle.c11_expressions.proofs.OneWaiting.{reads-waiting, run-append, waits-needed}
use Rattle.c11_expressions.proofs.Reader.{Held, State, at_close, at_colon, begun, finished, gone_on, having, held, run, read_token, run_tokens, settled, step, wanting, at_infix, at_question}
use Rattle.c11_expressions.proofs.Reading.{Has, Stands, Waits, arrives, kept, level-least, level-most, looser, needed-none, runs, settled-waits, settles, weaker}

abbrev part : List Waiting → Option Operand → Part
part ws x = record { waiting = ws; operand = x }

abbrev part_held : Held → Part
part_held h = part h.frames (Some h.operand)

-- what was read, settled as far as the symbol lets it
abbrev part_of : State → Symbol → Part
part_of (wanting fs) t = part fs None
part_of (having fs x) (mark (punctuator.Binary op)) = part_held (settled (level_of op) fs x)
part_of (having fs x) (mark punctuator.Question) = part_held (settled 1 fs x)
part_of (having fs x) (mark punctuator.Colon) = part_held (settled 0 fs x)
part_of (having fs x) (mark punctuator.Close) = part_held (settled 0 fs x)
part_of (having fs x) _ = part fs (Some x)

-- what is read of the symbol behind it
abbrev read_from : List Waiting → Option Operand → Symbol → Option State
read_from ws None t = begun ws t
read_from ws (Some x) (mark (punctuator.Binary op)) = Some (at_infix op (held ws x))
read_from ws (Some x) (mark punctuator.Question) = Some (at_question (held ws x))
read_from ws (Some x) (mark punctuator.Colon) = at_colon ws x
read_from ws (Some x) (mark punctuator.Close) = at_close ws x
read_from ws (Some x) _ = None

step-from : (s : State) (t : Symbol) → step s t ≡ read_from (part_of s t).waiting (part_of s t).operand t
step-from (wanting fs) t = refl
step-from (having fs x) (operand v) = refl
step-from (having fs x) (mark punctuator.Open) = refl
step-from (having fs x) (mark (punctuator.Unary op)) = refl
step-from (having fs x) (mark (punctuator.Binary op)) = refl
step-from (having fs x) (mark punctuator.Question) = refl
step-from (having fs x) (mark punctuator.Colon) = refl
step-from (having fs x) (mark punctuator.Close) = refl

-- ---- what waits is read

-- reading leaves this state, of which the symbol makes the part
record IsRead (t : Symbol) (read : Option State) (p : Part) : Type 0 where
  state : State
  left : read ≡ Some state
  is : part_of state t ≡ p

read-ended : (t : Symbol) (n : ℕ) (ws : List Waiting) (ts xs : List Symbol) (x : Operand) (a : Expression) → AreWaiting ws ts → Waits n ws → Phrase n xs a → x ≡ kept ws a
    → ((fs : List Waiting) (y : Operand) → settled n fs y ≡ held ws (kept ws a) → part_of (having fs y) t ≡ part_held (held ws (kept ws a)))
    → settled n ws (kept ws a) ≡ held ws (kept ws a) → IsRead t (run (wanting []) (ts ++ xs)) (part ws (Some x))
read-ended t n ws ts xs x a d w form same tells stays =
    let r = arrives n xs a form ws w in
    record {
      state = having r.frames r.operand;
      left = run-append (wanting []) ts xs ∙ (ap (option_and_then (λ s. run s xs)) (reads-waiting ws ts d) ∙ (ap (run (wanting ws)) (sym (append-nil xs)) ∙ r.runs []));
      is = tells r.frames r.operand (r.settles n (omega arith) ∙ stays) ∙ ap (λ y. part ws (Some y)) (sym same);
    }

waits-read : (t : Symbol) (ts : List Symbol) (p : Part) → WaitsBefore t p ts → IsRead t (run (wanting []) ts) p
waits-read t ts p (wanted ws us d) = record { state = wanting ws; left = reads-waiting ws us d; is = refl }
waits-read t ts p (ended ws us xs level x a d (operator op vs fit) form same) =
    let w = waits-needed (level_of op) ws fit in
    read-ended (mark (punctuator.Binary op)) (level_of op) ws us xs x a d w form same (λ fs y e. ap part_held e) (settled-waits (level_of op) ws (kept ws a) (level-least op) (level-most op) w)
waits-read t ts p (ended ws us xs level x a d (question vs none) form same) =
    let w = waits-needed 1 ws (omega (arith, none)) in
    read-ended (mark punctuator.Question) 1 ws us xs x a d w form same (λ fs y e. ap part_held e) (settled-waits 1 ws (kept ws a) (omega arith) (omega arith) w)
waits-read t ts p (ended ws us xs level x a d (colon c vs) form same) =
    read-ended (mark punctuator.Colon) 0 ws us xs x a d (λ p i j k. refl) form same (λ fs y e. ap part_held e) refl
waits-read t ts p (ended ws us xs level x a d (close vs) form same) =
    read-ended (mark punctuator.Close) 0 ws us xs x a d (λ p i j k. refl) form same (λ fs y e. ap part_held e) refl

-- ---- what is read waits

has-ended : (t : Symbol) (p n : ℕ) (fs : List Waiting) (y : Operand) (ts : List Symbol) → n ≤ p → Ends t n fs → Has p fs y ts → WaitsBefore t (part fs (Some y)) ts
has-ended t p n fs y ts low ends h =
    subst (WaitsBefore t (part fs (Some y))) (sym h.whole) (ended fs h.first h.last n y h.expression h.under ends (looser n h.level h.last h.expression (omega (arith, h.tight)) h.form) h.is)

colon-waits : (fs : List Waiting) (y : Operand) (ts : List Symbol) (n : State) → Has 0 fs y ts → at_colon fs y ≡ Some n → WaitsBefore (mark punctuator.Colon) (part fs (Some y)) ts
colon-waits (condition c ∷ fs) y ts n h reads = has-ended (mark punctuator.Colon) 0 0 (condition c ∷ fs) y ts (omega arith) (colon c fs) h
colon-waits _ y ts n h reads = absurd (cc)

close-waits : (fs : List Waiting) (y : Operand) (ts : List Symbol) (n : State) → Has 0 fs y ts → at_close fs y ≡ Some n → WaitsBefore (mark punctuator.Close) (part fs (Some y)) ts
close-waits (parenthesis ∷ fs) y ts n h reads = has-ended (mark punctuator.Close) 0 0 (parenthesis ∷ fs) y ts (omega arith) (close fs) h
close-waits _ y ts n h reads = absurd (cc)

behind-waits : (fs : List Waiting) (x : Operand) (ts : List Symbol) (t : Symbol) (n : State) → Has 12 fs x ts → gone_on fs x t ≡ Some n → WaitsBefore t (part_of (having fs x) t) ts
behind-waits fs x ts (operand v) n h reads = absurd (cc)
behind-waits fs x ts (mark punctuator.Open) n h reads = absurd (cc)
behind-waits fs x ts (mark (punctuator.Unary op)) n h reads = absurd (cc)
behind-waits fs x ts (mark (punctuator.Binary op)) n h reads =
    let level = level_of op in
    let s = settles level fs x ts (level-most op) (weaker level fs x ts (level-most op) h) in
    has-ended (mark (punctuator.Binary op)) level level _ _ ts (omega arith) (operator op _ s.1) s.0
behind-waits fs x ts (mark punctuator.Question) n h reads =
    let s = settles 1 fs x ts (omega arith) (weaker 1 fs x ts (omega arith) h) in
    has-ended (mark punctuator.Question) 1 1 _ _ ts (omega arith) (question _ (needed-none _ s.1)) s.0
behind-waits fs x ts (mark punctuator.Colon) n h reads =
    let s = settles 0 fs x ts (omega arith) (weaker 0 fs x ts (omega arith) h) in colon-waits _ _ ts n s.0 reads
behind-waits fs x ts (mark punctuator.Close) n h reads =
    let s = settles 0 fs x ts (omega arith) (weaker 0 fs x ts (omega arith) h) in close-waits _ _ ts n s.0 reads

waits-there : (s n : State) (ts : List Symbol) (t : Symbol) → Stands s ts → step s t ≡ Some n → WaitsBefore t (part_of s t) ts
waits-there (wanting fs) n ts t h reads = wanted fs ts h
waits-there (having fs x) n ts t h reads = behind-waits fs x ts t n h reads

-- ---- the same of tokens

module _ (t : Option Symbol) (ts : Symbols) where
  abbrev pub read_behind : Option State
  read_behind = option_and_then (λ s. read_token s t) (run_tokens (wanting []) ts)

  tokens-read : (p : Part) (x : IsPart t ts p) → IsRead x.symbol (run_tokens (wanting []) ts) p
  tokens-read p x = subst (λ o. IsRead x.symbol o p) (sym (run-symbols (wanting []) ts x.symbols x.each)) (waits-read x.symbol x.symbols p x.waits)

  -- the part tells what is read of the token
  part-tells : (p : Part) (x : IsPart t ts p) → read_behind ≡ read_from p.waiting p.operand x.symbol
  part-tells p x =
      let r = tokens-read p x in
      ap (option_and_then (λ s. read_token s t)) r.left ∙ (ap (option_and_then (step r.state)) x.is ∙ (step-from r.state x.symbol ∙ ap (λ (p : Part). read_from p.waiting p.operand x.symbol) r.is))

  pub one_part : (p q : Part) → IsPart t ts p → IsPart t ts q → p ≡ q
  one_part p q x y =
      let r = tokens-read p x in
      let other = tokens-read q y in
      let some : Some r.state ≡ Some other.state = sym r.left ∙ other.left in
      let state : r.state ≡ other.state = cc in
      let both : Some x.symbol ≡ Some y.symbol = sym x.is ∙ y.is in
      let symbol : x.symbol ≡ y.symbol = cc in
      sym r.is ∙ ((λ i. part_of (state i) (symbol i)) ∙ other.is)

  -- where the token is read there is a part
  pub part-there : (read_behind ≡ None → ⊥) → (p : Part) × IsPart t ts p
  part-there reads = between (run_tokens (wanting []) ts) refl reads
    where
      here : (s n : State) (y : Symbol) → t ≡ Some y → step s y ≡ Some n → SymbolsRun (wanting []) s ts → (p : Part) × IsPart t ts p
      here s n y is goes r =
          let stands = subst (λ o. IfSome o (λ m. Stands m r.symbols)) r.runs (runs (wanting []) [] r.symbols start) in
          (part_of s y, record { symbol = y; symbols = r.symbols; is = is; each = r.each; waits = waits-there s n r.symbols y stands goes })

      behind : (s : State) (y : Symbol) (n : Option State) → t ≡ Some y → step s y ≡ n → run_tokens (wanting []) ts ≡ Some s → (n ≡ None → ⊥) → (p : Part) × IsPart t ts p
      behind s y None is goes left reads = absurd (reads refl)
      behind s y (Some n) is goes left reads = here s n y is goes (symbols-run (wanting []) s ts left)

      by : (s : State) (o : Option Symbol) → t ≡ o → run_tokens (wanting []) ts ≡ Some s → (option_and_then (step s) o ≡ None → ⊥) → (p : Part) × IsPart t ts p
      by s None is left reads = absurd (reads refl)
      by s (Some y) is left reads = behind s y (step s y) is refl left reads

      between : (o : Option State) → run_tokens (wanting []) ts ≡ o → (option_and_then (λ s. read_token s t) o ≡ None → ⊥) → (p : Part) × IsPart t ts p
      between None left reads = absurd (reads refl)
      between (Some s) left reads = by s (t) refl left reads

-- two lists with one part: the token is read alike behind both
pub same-part : (t : Option Symbol) (ts us : Symbols) (p : Part) → IsPart t ts p → IsPart t us p → read_behind t ts ≡ read_behind t us
same-part t ts us p x y =
    let both : Some x.symbol ≡ Some y.symbol = sym x.is ∙ y.is in
    let symbol : x.symbol ≡ y.symbol = cc in
    part-tells t ts p x ∙ (ap (read_from p.waiting p.operand) symbol ∙ sym (part-tells t us p y))

-- ---- an expression has a part before each of its tokens

-- where a whole list is read, its tokens are
goes-through : (s : State) (ts : Symbols) (t : Option Symbol) (rest : Symbols) (o : Operand) → option_and_then finished (run_tokens s (ts ++ t ∷ rest)) ≡ Some o
    → option_and_then (λ m. read_token m t) (run_tokens s ts) ≡ None → ⊥
goes-through s [] t rest o whole none = let stops : option_and_then finished (option_and_then (λ m. run_tokens m rest) None) ≡ Some o = sym (ap (λ n. option_and_then finished (option_and_then (λ m. run_tokens m rest) n)) none) ∙ whole in absurd (cc)
goes-through s (u ∷ us) t rest o whole none = by (read_token s u) (λ m. goes-through m us t rest o) whole none
  where
    by : (n : Option State) → ((m : State) → option_and_then finished (run_tokens m (us ++ t ∷ rest)) ≡ Some o → option_and_then (λ k. read_token k t) (run_tokens m us) ≡ None → ⊥)
        → option_and_then finished (option_and_then (λ m. run_tokens m (us ++ t ∷ rest)) n) ≡ Some o → option_and_then (λ k. read_token k t) (option_and_then (λ k. run_tokens k us) n) ≡ None → ⊥
    by None more e none = absurd (cc)
    by (Some n) more e none = more n e none

pub has_part : (ts : Symbols) (next : Option Symbol) (rest : Symbols) (e : Expression) → IsExpression (ts ++ next ∷ rest) e → (p : Part) × IsPart next ts p
has_part ts next rest e is = part-there next ts (goes-through (wanting []) ts next rest (operand_of true (outcome e)) (reads_tokens (ts ++ next ∷ rest) e is))
