-- The number of a line, seen at each configuration (C11 6.10.4).
use Rattle.std.proofs.Common.{◌≡◌, ℕ, ◌+◌, ◌<◌, ◌&&◌, ◌||◌, not, Bool, true, false, List, [], ◌∷◌, map, take, length, get_or, Some, Ok, Err, refl, sym, ap, subst, ◌∙◌, if◌then◌else◌}
use Rattle.c11_directives.specs.declared.directive.Directive.TheVariants as directive
use Rattle.sc_model.specs.Token as model
use Rattle.sc_prep.proofs.Facts.{IsConfig-Keeps, IsConfig-kept, IsTable-Keeps, Keeps-trans, and_right, list_any-append, or-false, true≢false}
use Rattle.sc_prep.proofs.ListsAt.{items-next}
use Rattle.sc_prep.proofs.Machine.{inert_refusing}
use Rattle.sc_prep.proofs.NamedFiles.{refused-inert}
use Rattle.sc_prep.proofs.RunLemmas.{denotes-as}
use Rattle.sc_prep.proofs.Terms.{BadDirective, Cond, Context, Denotes, IsConfig, Keeps, Line, RefusedAt, Sets, SimulatesOneOf, SimulatesStep, Standard, Token, Walk, first_place, hash_of, is_numbering, items_at, list_any, not_expanded, not_numbered, numbered, option_map, place_in, seen, seen_line, unwrap_or}
use Rattle.sc_prep.proofs.WalkMoves.{same_state, simulates-kept}
use Rattle.sc_prep.specs.Alternatives.{alternative_tokens, tokens_in}
use Rattle.sc_prep.specs.Machine.{Carried, Machine, SaysAt, acts, arriving, inert, refusal, refused, refusing_if, said}
use Rattle.sc_prep.specs.declared.alternatives.Alternative.{Alternative}
use Rattle.sc_table.proofs.TableLemmas.{and_true}

-- whether a list of at most one element has one that passes
any-one : {X : Type 0} (test : X → Bool) (b : Bool) (x : X) → list_any test (if b then x ∷ [] else []) ≡ (b && test x)
any-one test true x = or-false (test x)
any-one test false x = refl

-- what a test of tokens told
pub tested : (names files : List (List ℕ)) {ts us : List Token} {told is : Bool} → ts ≡ us → told ≡ is_numbering (map (seen names files) ts) → told ≡ is → is_numbering (map (seen names files) us) ≡ is
tested names files same tells e = ap (λ xs. is_numbering (map (seen names files) xs)) (sym same) ∙ (sym tells ∙ e)

-- ---- alternatives, one by one

module _ (test : List Token → Bool) (s : Sets) (alternatives : List Alternative) (i : ℕ) (a : Alternative) (within : i < length alternatives) (is : a ≡ get_or alternatives i a) where
  any-next : (c : List ℕ) → list_any test (tokens_in s (take (i + 1) alternatives) c) ≡ (list_any test (tokens_in s (take i alternatives) c) || (s.has a.cond.0 c && test a.tokens.items))
  any-next c =
      ap (list_any test) (items-next alternative_tokens s alternatives i a c within is)
      ∙ (list_any-append test (tokens_in s (take i alternatives) c) (if s.has a.cond.0 c then a.tokens.items ∷ [] else [])
      ∙ ap (λ b. list_any test (tokens_in s (take i alternatives) c) || b) (any-one test (s.has a.cond.0 c) a.tokens.items))

  pub one-passes : {new : Sets} {others : ℕ} → test a.tokens.items ≡ true → Denotes new others (λ c. list_any test (tokens_in s (take i alternatives) c) || s.has a.cond.0 c)
      → Denotes new others (λ c. list_any test (tokens_in s (take (i + 1) alternatives) c))
  one-passes passes = denotes-as (λ c. list_any test (tokens_in s (take i alternatives) c) || s.has a.cond.0 c) (λ c. list_any test (tokens_in s (take (i + 1) alternatives) c))
      (λ c listed. sym (any-next c ∙ ap (λ b. list_any test (tokens_in s (take i alternatives) c) || b) (and_true (s.has a.cond.0 c) (test a.tokens.items) passes)))

  pub none-passes : {new : Sets} {others : ℕ} → test a.tokens.items ≡ false → Denotes new others (λ c. list_any test (tokens_in s (take i alternatives) c))
      → Denotes new others (λ c. list_any test (tokens_in s (take (i + 1) alternatives) c))
  none-passes fails = denotes-as (λ c. list_any test (tokens_in s (take i alternatives) c)) (λ c. list_any test (tokens_in s (take (i + 1) alternatives) c))
      (λ c listed. sym (any-next c ∙ (ap (λ b. list_any test (tokens_in s (take i alternatives) c) || b) (and_right (s.has a.cond.0 c) (test a.tokens.items) fails)
      ∙ or-false (list_any test (tokens_in s (take i alternatives) c)))))

-- ---- at one configuration

module _ (x : Context) (l : Line) (hash : model.Token) (hashed : hash_of l ≡ Some hash) where
  refusing-idle : (t : Bool) (m : Machine) → acts m ≡ false → refusing_if t m l BadDirective ≡ m
  refusing-idle true m e = inert_refusing m l BadDirective e
  refusing-idle false m e = refl

  refused-here : (m : Machine) → RefusedAt m.state l BadDirective (refusal m.state l BadDirective)
  refused-here m = record {
    cause_is = refl;
    place_is = ap (option_map (place_in m.state)) hashed ∙ sym (ap (λ h. Some (unwrap_or (option_map (place_in m.state) h) (first_place []))) hashed);
  }

  pub numbered-as : {m n : Machine} (ts : List model.Token) (t : Bool) → (acts n ≡ true → t ≡ not (is_numbering ts)) → SaysAt l m ts n → Carried x l directive.Line m (refusing_if t n l BadDirective)
  numbered-as {m} ts t tells (inert quiet none) = record {
    end = Ok m.state;
    carries = λ does. absurd (true≢false (sym does ∙ quiet));
    is = refusing-idle t m quiet ∙ same_state (acts m) m;
  }
  numbered-as {m} ts t tells (said does says) = by (is_numbering ts) refl
    where
      by : (b : Bool) → is_numbering ts ≡ b → Carried x l directive.Line m (refusing_if t m l BadDirective)
      by true e = record {
        end = Ok m.state;
        carries = λ _. numbered ts says e;
        is = ap (λ b. refusing_if b m l BadDirective) (tells does ∙ ap not e) ∙ same_state (acts m) m;
      }
      by false e = record {
        end = Err (refusal m.state l BadDirective);
        carries = λ _. not_numbered ts (refusal m.state l BadDirective) says e (refused-here m);
        is = ap (λ b. refusing_if b m l BadDirective) (tells does ∙ ap not e);
      }
  numbered-as {m} ts t tells (refused fault does says) = record {
    end = Err fault;
    carries = λ _. not_expanded fault refl says;
    is = refusing-idle t (arriving m (Err fault)) (refused-inert m fault does);
  }

-- ---- at each configuration

module _ (standard : Standard) (files names more : List (List ℕ)) {old s1 s2 s3 : Sets} (k1 : Keeps old s1) (k2 : Keeps s1 s2) (k3 : Keeps s2 s3) (w said_to : Walk) (line : List Token) (list : List (Cond × Token))
    (says : SimulatesOneOf files names old w more s1 said_to (λ c m n. SaysAt (seen_line standard names files line) m (map (seen more files) (items_at s1 list c)) n))
    (alternatives : List Alternative)
    (tokens : (c : List ℕ) → IsConfig s1.arities c → tokens_in s2 alternatives c ≡ (if s1.has said_to.acting.0 c then items_at s1 list c ∷ [] else [])) where
  -- whether the line is not numbered
  abbrev is_wrong : List ℕ → Bool
  is_wrong c = list_any (λ ts. not (is_numbering (map (seen more files) ts))) (tokens_in s2 alternatives c)

  wrong-at : (c : List ℕ) → IsConfig s1.arities c → is_wrong c ≡ (s1.has said_to.acting.0 c && not (is_numbering (map (seen more files) (items_at s1 list c))))
  wrong-at c listed =
      let test : List Token → Bool = λ ts. not (is_numbering (map (seen more files) ts)) in
      ap (list_any test) (tokens c listed) ∙ any-one test (s1.has said_to.acting.0 c) (items_at s1 list c)

  within-acting : (c : List ℕ) → IsConfig s3.arities c → is_wrong c ≡ (is_wrong c && s3.has said_to.acting.0 c)
  within-acting c listed =
      let back : IsConfig s1.arities c = IsConfig-kept (Keeps-trans k2 k3) listed in
      let wrong = wrong-at c back in
      let same : s3.has said_to.acting.0 c ≡ s1.has said_to.acting.0 c = (Keeps-trans k2 k3).at said_to.acting.0 c says.owns.acting back in
      wrong ∙ (by (s1.has said_to.acting.0 c) (not (is_numbering (map (seen more files) (items_at s1 list c))))
      ∙ (ap (λ b. b && s1.has said_to.acting.0 c) (sym wrong) ∙ ap (λ b. is_wrong c && b) (sym same)))
    where
      by : (a b : Bool) → (a && b) ≡ ((a && b) && a)
      by true true = refl
      by true false = refl
      by false b = refl

  pub line-numbered : {new : Sets} (next : Walk) (others : ℕ) → Denotes s3 others is_wrong
      → ((t : List ℕ → Bool) → Denotes s3 others (λ c. t c && s3.has said_to.acting.0 c) → SimulatesStep more s3 said_to new next (λ files config m. refusing_if (t config) m (seen_line standard more files line) BadDirective))
      → seen_line standard more files line ≡ seen_line standard names files line → (hash : model.Token) → hash_of (seen_line standard names files line) ≡ Some hash
      → (x : Context) → SimulatesOneOf files names old w more new next (λ c m n. Carried x (seen_line standard names files line) directive.Line m n)
  line-numbered next others meaning refuses same hash hashed x =
      let l = seen_line standard names files line in
      let keeps = Keeps-trans k2 k3 in
      let move = refuses is_wrong (denotes-as is_wrong (λ c. is_wrong c && s3.has said_to.acting.0 c) within-acting meaning) in
      record {
        owns = move.owns;
        table = move.table (IsTable-Keeps keeps says.table);
        at = λ c m listed simulates.
            let a = says.at c m listed simulates in
            let now : IsConfig s1.arities c = IsConfig-Keeps k1 listed in
            record {
              machine = refusing_if (is_wrong c) a.machine (seen_line standard more files line) BadDirective;
              done = subst (λ k. Carried x l directive.Line m (refusing_if (is_wrong c) a.machine k BadDirective)) (sym same)
                  (numbered-as x l hash hashed (map (seen more files) (items_at s1 list c)) (is_wrong c)
                  (λ does. wrong-at c now ∙ ap (λ b. b && not (is_numbering (map (seen more files) (items_at s1 list c)))) (a.simulates.acting ∙ does)) a.done);
              simulates = move.at files c a.machine (IsConfig-Keeps keeps now) (IsTable-Keeps keeps says.table) (simulates-kept keeps said_to says.owns more files c a.machine now says.table a.simulates);
            };
      }
