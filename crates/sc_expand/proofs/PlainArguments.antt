-- The arguments of a call one after the other, and its replacement with what they expand to.
use Rattle.std.proofs.Common.{◌≡◌, ℕ, ◌+◌, ◌*◌, ◌≤◌, List, [], ◌∷◌, ◌++◌, append_assoc, append-nil, Result, Ok, Err, refl, sym, ◌∙◌, subst, arith}
use Rattle.sc_expand.proofs.Facts.{these-none}
use Rattle.sc_expand.proofs.PlainCompletes.{Completes, Waits, looked, refuses, resumes, scanned, steps, waits, waits_for, waits_none}
use Rattle.sc_expand.proofs.Terms.{Each, Expands, Failure, HiddenToken as Hidden, Macros, Provenance, Rescans, Waiting, after_these, expanding, next, none, refused, replacement_of, result_and_then, scanning, stops, trace, trace_each, trace_rescan, waiting, with_expanded, without_first}

module _ {P : Type 0} (provenance : Provenance P) (macros : Macros) where
  abbrev Answer : Type 0
  Answer = Result (List (Hidden P)) (Failure P)

  abbrev Lists : Type 0
  Lists = Result (List (List (Hidden P))) (Failure P)

  -- the call's replacement where its arguments expand to these lists, or the failure of one
  abbrev pub replaced_with : Waiting P → Lists → Answer
  replaced_with w results = result_and_then (λ lists. replacement_of provenance (record w { wanted = []; expanded = lists })) results

  -- What is left of a call's arguments expands to these lists, and the replacement with them is
  -- scanned with the rest: in so many steps, by these names.
  pub record Supplied (out work : List (Hidden P)) (w : Waiting P) (wanted : List (ℕ × List (Hidden P))) (r : Answer) (count : ℕ) (names : List (List ℕ)) : Type 0 where
    pub results : Lists
    pub each : Each provenance macros wanted w.expanded results
    pub answer : Answer
    pub rescans : Rescans provenance macros (replaced_with w results) work answer
    pub is : r ≡ after_these out answer
    pub few : count ≤ 1 + 2 * ((trace_each each).steps + (trace_rescan rescans).steps)
    pub named : names ≡ (trace_each each).looked_up ++ (trace_rescan rescans).looked_up

  -- what an argument expands to alone
  record Alone (ts : List (Hidden P)) (r : Answer) (count : ℕ) (names : List (List ℕ)) : Type 0 where
    expands : Expands provenance macros ts r
    counted : count ≡ 2 * (trace expands).steps
    named : names ≡ (trace expands).looked_up

  alone : (ts : List (Hidden P)) (r : Answer) (c : Completes provenance macros (scanning [] ts) r) → Alone ts r (steps c) (looked c)
  alone ts r c =
      let s = scanned c in
      subst (λ a. Alone ts a (steps c) (looked c)) (these-none s.answer ∙ sym s.is) (record { expands = s.expands; counted = s.counted; named = s.named })

  module _ (out work : List (Hidden P)) where
    -- one argument, and then the others
    argued : (w : Waiting P) (ask : ℕ × List (Hidden P)) (others : List (ℕ × List (Hidden P))) (r : Answer)
        → ((v : Waiting P) → v.wanted ≡ others → (c : Completes provenance macros (waiting out work v) r) → Supplied out work v others r (steps c) (looked c))
        → (c : Completes provenance macros (expanding out work (without_first w others) ask.0 (scanning [] ask.1)) r) → Supplied out work w (ask ∷ others) r (1 + steps c) (looked c)
    argued w ask others r later (resumes o k v m s list q c d) =
        let first = alone ask.1 (Ok list) c in
        let more = later (with_expanded (without_first w others) ask.0 list) refl d in
        let one = (trace first.expands).looked_up in
        let two = (trace_each more.each).looked_up in
        record {
          results = more.results;
          each = next list first.expands more.each;
          answer = more.answer;
          rescans = more.rescans;
          is = more.is;
          few = omega (arith, first.counted, more.few);
          named = (λ i. first.named i ++ more.named i) ∙ sym (append_assoc one two (trace_rescan more.rescans).looked_up);
        }
    argued w ask others r later (refuses o k v m s failure c) =
        let first = alone ask.1 (Err failure) c in
        record {
          results = Err failure;
          each = stops failure first.expands;
          answer = Err failure;
          rescans = refused failure;
          is = refl;
          few = omega (arith, first.counted);
          named = first.named ∙ sym (append-nil (trace first.expands).looked_up);
        }

    -- no argument is left
    all-supplied : (w : Waiting P) (r : Answer) (count : ℕ) (names : List (List ℕ)) → Waits provenance macros out work w [] r count names → Supplied out work w [] r count names
    all-supplied w r count names (waits_none a g) = record { results = Ok w.expanded; each = none; answer = a; rescans = g; is = refl; few = omega arith; named = refl }

    first-supplied : (w : Waiting P) (ask : ℕ × List (Hidden P)) (others : List (ℕ × List (Hidden P))) (r : Answer) (count : ℕ) (names : List (List ℕ))
        → ((v : Waiting P) → v.wanted ≡ others → (c : Completes provenance macros (waiting out work v) r) → Supplied out work v others r (steps c) (looked c))
        → Waits provenance macros out work w (ask ∷ others) r count names → Supplied out work w (ask ∷ others) r count names
    first-supplied w ask others r count names later (waits_for first rest q c) = argued w ask others r later c

    pub supplied : (wanted : List (ℕ × List (Hidden P))) (w : Waiting P) (r : Answer) → w.wanted ≡ wanted → (c : Completes provenance macros (waiting out work w) r)
        → Supplied out work w wanted r (steps c) (looked c)
    supplied [] w r is c = all-supplied w r (steps c) (looked c) (subst (λ l. Waits provenance macros out work w l r (steps c) (looked c)) is (waits c))
    supplied (ask ∷ others) w r is c =
        first-supplied w ask others r (steps c) (looked c) (λ v same d. supplied others v r same d) (subst (λ l. Waits provenance macros out work w l r (steps c) (looked c)) is (waits c))
