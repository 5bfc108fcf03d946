-- A configuration is live at a place as one run, so it has one class there.
use Rattle.std.proofs.Common.{◌≡◌, ◌≤◌, ◌+◌, ◌*◌, ◌-◌, ◌==◌, ℕ, Bool, true, false, List, [], ◌∷◌, length, Option, Some, None, inl, inr, refl, sym, ap, ◌∙◌, arith, if◌then◌else◌}
use Rattle.std.specs.Prelude.{slice_get}
use Rattle.lr_tables.specs.Grammar.{Production}
use Rattle.lr_tables.specs.declared.grammar.Action.{Action}
use Rattle.lr_tables.specs.declared.grammar.Action.TheVariants.{Shift, Reduce}
use Rattle.sc_model.specs.Token.{Place, Token}
use Rattle.c11_parsing.proofs.OneAnswer.{one_way}
use Rattle.c11_parsing.specs.Classes.{Input, project, Class, class_of, IsClass}
use Rattle.c11_parsing.specs.LR.{Run, Phase, reading, looking, named, Point, on, answered, Reaches, here, later, start, step, step_in, looked, acted, reduced, reduced_to, shifted, classified, kind_shifted, next_terminal}
use Rattle.c11_parsing.specs.Parser.{Parser}
use Rattle.c11_parsing.specs.Trees.{leaf}

abbrev pub waits : Phase → ℕ
waits reading = 1
waits looking = 0
waits named = 0

-- what is left to be read
abbrev pub work : Run → ℕ
work r = 2 * length r.left + waits r.phase

abbrev pub AtMost : ℕ → Point → Type 0
AtMost n (on r) = work r ≤ n
AtMost n (answered a) = Unit {0}

module _ (m : Parser) (end : Place) where
  reduced_to-most : (r : Run) (n p : ℕ) (production : Production) (to : Option ℕ) → 2 * length r.left ≤ n → AtMost n (reduced_to m end r p production to)
  reduced_to-most r n p production None h = tt
  reduced_to-most r n p production (Some state) h = omega (arith, h)

  reduced-most : (r : Run) (n p : ℕ) (production : Option Production) → 2 * length r.left ≤ n → AtMost n (reduced m end r p production)
  reduced-most r n p None h = tt
  reduced-most r n p (Some production) h = reduced_to-most r n p production _ h

  shifted-most : (r : Run) (n state x : ℕ) (ts : List Token) → r.left ≡ ts → 2 * length r.left ≤ n → AtMost n (shifted m r state x ts)
  shifted-most r n state x [] e h = tt
  shifted-most r n state x (t ∷ ts) e h = by (x == m.name)
    where
      by : (b : Bool) → work (if b then record r { stack = record { state = state; tree = Some (leaf t) } ∷ r.stack; phase = named }
          else record r { stack = record { state = state; tree = Some (leaf t) } ∷ r.stack; left = ts; phase = reading }) ≤ n
      by true = omega (arith, h)
      by false = omega (arith, h, ap length e)

  acted-most : (r : Run) (n x : ℕ) (action : Option Action) → 2 * length r.left ≤ n → AtMost n (acted m end r x action)
  acted-most r n x None h = tt
  acted-most r n x (Some (Reduce p)) h = reduced-most r n p (slice_get m.productions (p - 1)) h
  acted-most r n x (Some (Shift state)) h = shifted-most r n state x r.left refl h

  looked-most : (r : Run) (n : ℕ) (x : Option ℕ) → 2 * length r.left ≤ n → AtMost n (looked m end r x)
  looked-most r n None h = tt
  looked-most r n (Some x) h = acted-most r n x _ h

  kind-most : (r : Run) (n : ℕ) (t : Token) (ts : List Token) (action : Option Action) → r.left ≡ t ∷ ts → 2 * length r.left ≤ n → AtMost n (kind_shifted end r action ts)
  kind-most r n t ts None e h = tt
  kind-most r n t ts (Some (Reduce p)) e h = tt
  kind-most r n t ts (Some (Shift state)) e h = omega (arith, h, ap length e)

  classified-most : (r : Run) (n : ℕ) (ts : List Token) → r.left ≡ ts → 2 * length r.left ≤ n → AtMost n (classified m end r ts)
  classified-most r n [] e h = tt
  classified-most r n (t ∷ ts) e h = kind-most r n t ts _ e h

  step-most : (r : Run) (n : ℕ) (phase : Phase) → 2 * length r.left ≤ n → AtMost n (step_in m end r phase)
  step-most r n reading h = omega (arith, h)
  step-most r n looking h = looked-most r n (next_terminal m r.left) h
  step-most r n named h = classified-most r n r.left refl h

  pub reaches-most : (n : ℕ) (x y : Point) → AtMost n x → Reaches m end x y → AtMost n y
  reaches-most n x _ h here = h
  reaches-most n _ y h (later {r} d) = reaches-most n (step m end r) y (step-most r n r.phase (omega (arith, h))) d

  one-reading : (r s : Run) → r.phase ≡ reading → s.phase ≡ reading → r.left ≡ s.left → Reaches m end (on r) (on s) → r ≡ s
  one-reading r _ p q e here = refl
  one-reading r s p q e (later d) =
      let most = reaches-most (2 * length r.left) (step m end r) (on s) (step-most r (2 * length r.left) r.phase (omega arith)) d in
      absurd (omega (arith, most, ap waits q, ap length e))

pub one-class : (input : Input) (i : ℕ) (c : List ℕ) (a b : Class) → IsClass input i c a → IsClass input i c b → a ≡ b
one-class input i c a b h k = h.is ∙ ap (class_of input i c) same ∙ sym k.is
  where
    same : h.run ≡ k.run
    same = elim (one_way input.parser input.end (on (start (project c input.items))) (on h.run) (on k.run) h.live.reached k.live.reached) [
      | inl d ↦ one-reading input.parser input.end h.run k.run h.live.phase k.live.phase (h.live.left ∙ sym k.live.left) d
      | inr d ↦ sym (one-reading input.parser input.end k.run h.run k.live.phase h.live.phase (k.live.left ∙ sym h.live.left) d)
    ]
