-- What a state comes to in the end, and in how many steps.
use Rattle.std.proofs.Common.{◌≡◌, ℕ, suc, ◌+◌, ◌*◌, List, [], ◌∷◌, ◌++◌, Result, Ok, Err, refl, sym, ap, ◌∙◌, subst, arith}
use Rattle.sc_expand.proofs.Facts.{halts, one, agree-back, agree-front}
use Rattle.sc_expand.proofs.Terms.{Expands, Failure, HiddenToken as Hidden, IsWithin, Macros, Provenance, Rescans, Same, State, Waiting, after_these, expanding, on, refused, replacement_of, scanning, trace, trace_rescan, waiting, with_expanded, without_first, Agree}

-- The state comes to this list, or to this failure: what is put out stands before what the rest
-- expands to, and the arguments of a call expand one after the other, up to the first that fails.
pub data Completes {P : Type 0} (provenance : Provenance P) (macros : Macros) : State P → Result (List (Hidden P)) (Failure P) → Type 0 where
  scans : (out work : List (Hidden P)) (r : Result (List (Hidden P)) (Failure P)) → Expands provenance macros work r → Completes provenance macros (scanning out work) (after_these out r)
  replaces : (out work : List (Hidden P)) (w : Waiting P) (r : Result (List (Hidden P)) (Failure P)) → w.wanted ≡ []
      → Rescans provenance macros (replacement_of provenance w) work r → Completes provenance macros (waiting out work w) (after_these out r)
  asks : (out work : List (Hidden P)) (w : Waiting P) (first : ℕ × List (Hidden P)) (others : List (ℕ × List (Hidden P))) (r : Result (List (Hidden P)) (Failure P)) → w.wanted ≡ first ∷ others
      → Completes provenance macros (expanding out work (without_first w others) first.0 (scanning [] first.1)) r → Completes provenance macros (waiting out work w) r
  resumes : (out work : List (Hidden P)) (w : Waiting P) (n : ℕ) (s : State P) (list : List (Hidden P)) (r : Result (List (Hidden P)) (Failure P)) → Completes provenance macros s (Ok list)
      → Completes provenance macros (waiting out work (with_expanded w n list)) r → Completes provenance macros (expanding out work w n s) r
  refuses : (out work : List (Hidden P)) (w : Waiting P) (n : ℕ) (s : State P) (failure : Failure P) → Completes provenance macros s (Err failure) → Completes provenance macros (expanding out work w n s) (Err failure)

-- how many steps that takes at most
abbrev pub steps : {P : Type 0} {provenance : Provenance P} {macros : Macros} {s : State P} {r : Result (List (Hidden P)) (Failure P)} → Completes provenance macros s r → ℕ
steps (scans out work r d) = 2 * (trace d).steps
steps (replaces out work w r none g) = 1 + 2 * (trace_rescan g).steps
steps (asks out work w first others r some c) = 1 + steps c
steps (resumes out work w n s list r c d) = 1 + (steps c + steps d)
steps (refuses out work w n s failure c) = 1 + steps c

-- the names that are looked up
abbrev pub looked : {P : Type 0} {provenance : Provenance P} {macros : Macros} {s : State P} {r : Result (List (Hidden P)) (Failure P)} → Completes provenance macros s r → List (List ℕ)
looked (scans out work r d) = (trace d).looked_up
looked (replaces out work w r none g) = (trace_rescan g).looked_up
looked (asks out work w first others r some c) = looked c
looked (resumes out work w n s list r c d) = looked c ++ looked d
looked (refuses out work w n s failure c) = looked c

-- ---- what a completion is, by its state

pub record Scanned {P : Type 0} (provenance : Provenance P) (macros : Macros) (out work : List (Hidden P)) (r : Result (List (Hidden P)) (Failure P)) (count : ℕ) (names : List (List ℕ)) : Type 0 where
  pub answer : Result (List (Hidden P)) (Failure P)
  pub expands : Expands provenance macros work answer
  pub is : r ≡ after_these out answer
  pub counted : count ≡ 2 * (trace expands).steps
  pub named : names ≡ (trace expands).looked_up

-- a call by the arguments that are still to be expanded
pub data Waits {P : Type 0} (provenance : Provenance P) (macros : Macros) (out work : List (Hidden P)) (w : Waiting P) : List (ℕ × List (Hidden P)) → Result (List (Hidden P)) (Failure P) → ℕ → List (List ℕ) → Type 0 where
  waits_none : (r : Result (List (Hidden P)) (Failure P)) (g : Rescans provenance macros (replacement_of provenance w) work r) → Waits provenance macros out work w [] (after_these out r) (1 + 2 * (trace_rescan g).steps) (trace_rescan g).looked_up
  waits_for : (first : ℕ × List (Hidden P)) (others : List (ℕ × List (Hidden P))) (r : Result (List (Hidden P)) (Failure P))
      (c : Completes provenance macros (expanding out work (without_first w others) first.0 (scanning [] first.1)) r) → Waits provenance macros out work w (first ∷ others) r (1 + steps c) (looked c)

pub scanned : {P : Type 0} {provenance : Provenance P} {macros : Macros} {out work : List (Hidden P)} {r : Result (List (Hidden P)) (Failure P)} (c : Completes provenance macros (scanning out work) r) → Scanned provenance macros out work r (steps c) (looked c)
scanned (scans out work r d) = record { answer = r; expands = d; is = refl; counted = refl; named = refl }

pub waits : {P : Type 0} {provenance : Provenance P} {macros : Macros} {out work : List (Hidden P)} {w : Waiting P} {r : Result (List (Hidden P)) (Failure P)} (c : Completes provenance macros (waiting out work w) r) → Waits provenance macros out work w w.wanted r (steps c) (looked c)
waits {provenance = provenance} {macros = macros} (replaces out work w r none g) = subst (λ l. Waits provenance macros out work w l (after_these out r) (1 + 2 * (trace_rescan g).steps) (trace_rescan g).looked_up) (sym none) (waits_none r g)
waits {provenance = provenance} {macros = macros} (asks out work w first others r some c) = subst (λ l. Waits provenance macros out work w l r (1 + steps c) (looked c)) (sym some) (waits_for first others r c)

-- ---- a state has one completion

-- each completion of the state has this answer and this count
abbrev pub Only : {P : Type 0} (provenance : Provenance P) (macros : Macros) → State P → Result (List (Hidden P)) (Failure P) → ℕ → Type 0
Only {P} provenance macros s r count = (q : Result (List (Hidden P)) (Failure P)) (d : Completes provenance macros s q) → (r ≡ q) × (count ≡ steps d)

module _ {P : Type 0} (provenance : Provenance P) (macros : Macros) where
  abbrev Answer : Type 0
  Answer = Result (List (Hidden P)) (Failure P)

  only-scans : (out work : List (Hidden P)) (r : Answer) (d : Expands provenance macros work r) → Only provenance macros (scanning out work) (after_these out r) (2 * (trace d).steps)
  only-scans out work r d q c =
      let s = scanned c in
      let same = one d s.answer s.expands in
      (ap (after_these out) same.answer ∙ sym s.is, ap (λ x. 2 * x.steps) same.trace ∙ sym s.counted)

  same-rescan : (made : Answer) (rest : List (Hidden P)) (r q : Answer) (g : Rescans provenance macros made rest r) (h : Rescans provenance macros made rest q) → Same r q (trace_rescan g) (trace_rescan h)
  same-rescan (Ok body) rest r q (on d) (on e) = one d q e
  same-rescan (Err failure) rest r q (refused f) (refused h) = record { answer = refl; trace = refl }

  only-none : (out work : List (Hidden P)) (w : Waiting P) (r q : Answer) (g : Rescans provenance macros (replacement_of provenance w) work r) (count : ℕ) (names : List (List ℕ)) → Waits provenance macros out work w [] q count names
      → (after_these out r ≡ q) × (1 + 2 * (trace_rescan g).steps ≡ count)
  only-none out work w r q g count names (waits_none p h) = let same = same-rescan (replacement_of provenance w) work r p g h in (ap (after_these out) same.answer, ap (λ x. 1 + 2 * x.steps) same.trace)

  only-for : (out work : List (Hidden P)) (w : Waiting P) (first : ℕ × List (Hidden P)) (others : List (ℕ × List (Hidden P))) (r q : Answer) (less count : ℕ) (names : List (List ℕ))
      → Only provenance macros (expanding out work (without_first w others) first.0 (scanning [] first.1)) r less → Waits provenance macros out work w (first ∷ others) q count names → (r ≡ q) × (1 + less ≡ count)
  only-for out work w first others r q less count names only (waits_for f o p c) = let same = only p c in (same.0, ap (λ n. 1 + n) same.1)

  only-resumes : (out work : List (Hidden P)) (w : Waiting P) (n : ℕ) (s : State P) (list : List (Hidden P)) (r q : Answer) (x y : ℕ)
      → Only provenance macros s (Ok list) x → Only provenance macros (waiting out work (with_expanded w n list)) r y
      → (d : Completes provenance macros (expanding out work w n s) q) → (r ≡ q) × (1 + (x + y) ≡ steps d)
  only-resumes out work w n s list r q x y inner rest (resumes o k v m t other p c d) =
      let first = inner (Ok other) c in
      let same : list ≡ other = let h = first.0 in cc in
      let then = subst (λ l. Only provenance macros (waiting out work (with_expanded w n l)) r y) same rest p d in
      (then.0, omega (arith, first.1, then.1))
  only-resumes out work w n s list r q x y inner rest (refuses o k v m t failure c) = let first = (inner (Err failure) c).0 in cc

  only-refuses : (out work : List (Hidden P)) (w : Waiting P) (n : ℕ) (s : State P) (failure : Failure P) (q : Answer) (x : ℕ)
      → Only provenance macros s (Err failure) x → (d : Completes provenance macros (expanding out work w n s) q) → (Err failure ≡ q) × (1 + x ≡ steps d)
  only-refuses out work w n s failure q x inner (resumes o k v m t other p c d) = let first = (inner (Ok other) c).0 in cc
  only-refuses out work w n s failure q x inner (refuses o k v m t other c) = let first = inner (Err other) c in (first.0, ap (λ n. 1 + n) first.1)

  pub only : {s : State P} {r : Answer} (c : Completes provenance macros s r) → Only provenance macros s r (steps c)
  only (scans out work r d) = only-scans out work r d
  only (replaces out work w r none g) = λ q d. only-none out work w r q g (steps d) (looked d) (subst (λ l. Waits provenance macros out work w l q (steps d) (looked d)) none (waits d))
  only (asks out work w first others r some c) = λ q d. only-for out work w first others r q (steps c) (steps d) (looked d) (only c) (subst (λ l. Waits provenance macros out work w l q (steps d) (looked d)) some (waits d))
  only (resumes out work w n s list r c d) = λ q e. only-resumes out work w n s list r q (steps c) (steps d) (only c) (only d) e
  only (refuses out work w n s failure c) = λ q e. only-refuses out work w n s failure q (steps c) (only c) e

  -- ---- a state has a completion, where finitely many names are defined

  abbrev pub Ends : State P → Type 0
  Ends s = (r : Answer) × Completes provenance macros s r

  module _ (names : List (List ℕ)) (within : IsWithin names macros) where
    ends-scanning : (out work : List (Hidden P)) → Ends (scanning out work)
    ends-scanning out work = let h = halts provenance macros names within work in (after_these out h.0, scans out work h.0 h.1)

    rescans : (made : Answer) (rest : List (Hidden P)) → (r : Answer) × Rescans provenance macros made rest r
    rescans (Ok body) rest = let h = halts provenance macros names within (body ++ rest) in (h.0, on h.1)
    rescans (Err failure) rest = (Err failure, refused failure)

    -- an argument, and then the others
    ends-expanding : (out work : List (Hidden P)) (w : Waiting P) (n : ℕ) (s : State P) (r : Answer) → Completes provenance macros s r → ((list : List (Hidden P)) → Ends (waiting out work (with_expanded w n list)))
        → Ends (expanding out work w n s)
    ends-expanding out work w n s (Ok list) c others = let rest = others list in (rest.0, resumes out work w n s list rest.0 c rest.1)
    ends-expanding out work w n s (Err failure) c others = (Err failure, refuses out work w n s failure c)

    ends-waiting : (wanted : List (ℕ × List (Hidden P))) (out work : List (Hidden P)) (w : Waiting P) → w.wanted ≡ wanted → Ends (waiting out work w)
    ends-waiting [] out work w is = let g = rescans (replacement_of provenance w) work in (after_these out g.0, replaces out work w g.0 is g.1)
    ends-waiting (first ∷ others) out work w is =
        let inner = ends-scanning [] first.1 in
        let rest = ends-expanding out work (without_first w others) first.0 (scanning [] first.1) inner.0 inner.1 (λ list. ends-waiting others out work (with_expanded (without_first w others) first.0 list) refl) in
        (rest.0, asks out work w first others rest.0 is rest.1)

    pub ends : (s : State P) → Ends s
    ends (scanning out work) = ends-scanning out work
    ends (waiting out work w) = ends-waiting w.wanted out work w refl
    ends (expanding out work w n s) = let inner = ends s in ends-expanding out work w n s inner.0 inner.1 (λ list. ends-waiting w.wanted out work (with_expanded w n list) refl)

    -- one more than the steps of its completion
    unfoldable pub size : State P → ℕ
    size s = suc (steps (ends s).1)

    pub size-is : (s : State P) (r : Answer) (c : Completes provenance macros s r) → size s ≡ suc (steps c)
    unfolding size
    size-is s r c = ap suc (only (ends s).1 r c).1

-- ---- tables that define some names alike

agree-both : (one two : Macros) (xs ys : List (List ℕ)) → Agree one two xs → Agree one two ys → Agree one two (xs ++ ys)
agree-both one two [] ys first second = second
agree-both one two (x ∷ xs) ys first second = (first.0, agree-both one two xs ys first.1 second)

-- tables that agree on the first names agree on the second
pub record Covers (more fewer : List (List ℕ)) : Type 0 where
  pub agree : (one two : Macros) → Agree one two more → Agree one two fewer

pub covers-front : (xs ys : List (List ℕ)) → Covers (xs ++ ys) xs
covers-front xs ys = record { agree = λ one two. agree-front one two xs ys }

pub covers-back : (xs ys : List (List ℕ)) → Covers (xs ++ ys) ys
covers-back xs ys = record { agree = λ one two. agree-back one two xs ys }

pub covers-then : {xs ys zs : List (List ℕ)} → Covers xs ys → Covers ys zs → Covers xs zs
covers-then first second = record { agree = λ one two agree. second.agree one two (first.agree one two agree) }

pub covers-both : {xs ys zs : List (List ℕ)} → Covers xs ys → Covers xs zs → Covers xs (ys ++ zs)
covers-both {xs} {ys} {zs} first second = record { agree = λ one two agree. agree-both one two ys zs (first.agree one two agree) (second.agree one two agree) }

pub covers-same : {xs ys : List (List ℕ)} → xs ≡ ys → Covers xs ys
covers-same same = record { agree = λ one two. subst (Agree one two) same }
