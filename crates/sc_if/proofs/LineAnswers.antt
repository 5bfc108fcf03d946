-- The answers of a line, where a `defined` is left over and elsewhere.
use Rattle.std.proofs.Common.{◌≡◌, ℕ, ◌+◌, ◌<◌, ◌&&◌, ◌||◌, not, Bool, true, false, List, [], ◌∷◌, ◌++◌, All, length, map, take, get_or, Option, Result, Err, refl, sym, ap, subst, ◌∙◌, if◌then◌else◌}
use Rattle.std.proofs.lemmas.List.Elements.{All-map, All-push, All-take}
use Rattle.std.proofs.lemmas.Option.{get_or_from_slice_get, slice_get_within}
use Rattle.std.specs.List.{list_any}
use Rattle.c11_expressions.proofs.Reader.{State, run_tokens, wanting}
use Rattle.c11_expressions.specs.Parts.{IsPart}
use Rattle.sc_base.specs.declared.id.Cond.{Cond}
use Rattle.sc_base.specs.declared.stop.Stop.{Stop}
use Rattle.sc_base.specs.declared.stop.Stop.TheVariants.{BranchesFull, OutOfMemory, ReadFault}
use Rattle.sc_base.specs.declared.token.Token.{Token}
use Rattle.sc_guarded.proofs.ItemLemmas.{items_at-Keeps, items_at-append, items_at-take}
use Rattle.sc_guarded.specs.Items.{items_at}
use Rattle.sc_hoist.specs.Alike.{AreAlike, IsAlike}
use Rattle.sc_if.proofs.AnswerLemmas.{answer-left_over, answer-read}
use Rattle.sc_if.proofs.PutLemmas.{Entry, alike-Keeps, readings_at-cons}
use Rattle.sc_if.proofs.ReadingLemmas.{items-alike}
use Rattle.sc_if.specs.Decided.{AreAnswers, IsAnswered, is_left_over}
use Rattle.sc_if.specs.Parts.{RefusesAt}
use Rattle.sc_if.specs.Readings.{AreReadings, answer_of, read_at, readings_at, seen_reading}
use Rattle.sc_if.specs.Symbols.{symbol_at}
use Rattle.sc_model.proofs.SetLemmas.{IsConfig-Keeps, IsConfig-kept}
use Rattle.sc_model.specs.declared.cause.Cause.{Cause}
use Rattle.sc_model.specs.declared.cause.Cause.TheVariants.{DefinedFromMacro}
use Rattle.sc_model.specs.Sets.{Sets, IsCond, IsConfig, IsNever, Keeps}
use Rattle.sc_model.specs.declared.standard.Standard.{Standard}

abbrev pub Answer : Type 0
Answer = Cond × Result Bool Cause

-- what each that was read says
abbrev pub answers_to : List Entry → List Answer
answers_to readings = map (λ reading. (reading.0, answer_of (seen_reading reading.1))) readings

pub answers-at : (s : Sets) (xs : List Entry) (c : List ℕ) → items_at s (answers_to xs) c ≡ map answer_of (readings_at s xs c)
answers-at s [] c = refl
answers-at s (x ∷ xs) c = by (s.has x.0.0 c) (answers-at s xs c) ∙ ap (map answer_of) (sym (readings_at-cons s c x xs))
  where
    by : (b : Bool) → items_at s (answers_to xs) c ≡ map answer_of (readings_at s xs c)
        → (if b then answer_of (seen_reading x.1) ∷ items_at s (answers_to xs) c else items_at s (answers_to xs) c) ≡ map answer_of (if b then seen_reading x.1 ∷ readings_at s xs c else readings_at s xs c)
    by true e = ap (λ l. answer_of (seen_reading x.1) ∷ l) e
    by false e = e

-- one that a condition has, or none
abbrev one : {A : Type 0} → Bool → A → List A
one b x = if b then x ∷ [] else []

-- whether a `defined` is left over, and the answer to what was read
abbrev has_left : Sets → List (List ℕ) → List (Cond × Token) → List ℕ → Bool
has_left s names list c = list_any (is_left_over names) (items_at s list c)

abbrev answer_at : Standard → Sets → List (List ℕ) → List (Cond × Token) → List ℕ → Result Bool Cause
answer_at standard s names list c = answer_of (run_tokens (wanting []) (map (symbol_at standard names) (items_at s list c)))

module _ {standard : Standard} {old mid new : Sets} {names : List (List ℕ)} {list : List (Cond × Token)} {rest : ℕ} {readings : List Entry} (live : ℕ) (found : Cond) (keeps : Keeps old mid) (later : Keeps mid new) (own : All (λ (x : Cond × Token). IsCond old x.0.0) list) (found_own : IsCond new found.0)
    (is_found : (c : List ℕ) → IsConfig old.arities c → new.has found.0 c ≡ (old.has live c && list_any (is_left_over names) (items_at old list c)))
    (is_rest : (c : List ℕ) → IsConfig old.arities c → mid.has rest c ≡ (old.has live c && not (list_any (is_left_over names) (items_at old list c))))
    (read : AreReadings standard mid new names list rest readings) where
  at : (c : List ℕ) → IsConfig old.arities c → items_at new (answers_to readings) c ≡ one (old.has live c && not (has_left old names list c)) (answer_of (run_tokens (wanting []) (map (symbol_at standard names) (items_at old list c))))
  at c listed =
      let here = IsConfig-Keeps keeps listed in
      let same = items_at-Keeps list c keeps own listed in
      answers-at new readings c ∙ (ap (map answer_of) (read.at c here) ∙ (by (mid.has rest c) (read_at standard mid names list c)
      ∙ (ap (λ b. one b (answer_of (read_at standard mid names list c))) (is_rest c listed) ∙ ap (λ ts. one (old.has live c && not (has_left old names list c)) (answer_of (run_tokens (wanting []) (map (symbol_at standard names) ts)))) same)))
    where
      by : (b : Bool) (o : Option State) → map answer_of (one b o) ≡ one b (answer_of o)
      by true o = refl
      by false o = refl

  same-rest : (a b : List ℕ) → IsConfig old.arities a → IsConfig old.arities b → old.has live a ≡ old.has live b → AreAlike old a b list → mid.has rest a ≡ mid.has rest b
  same-rest a b la lb same all =
      let items = items-alike old a b list all in
      is_rest a la ∙ ((λ j. same j && not (list_any (is_left_over names) (items j))) ∙ sym (is_rest b lb))

  alike-answers : (a b : List ℕ) → IsConfig old.arities a → IsConfig old.arities b → old.has live a ≡ old.has live b → AreAlike old a b list → AreAlike new a b (answers_to readings)
  alike-answers a b la lb same all =
      All-map (λ (x : Answer). IsAlike new a b x.0) (λ (x : Entry). (x.0, answer_of (seen_reading x.1))) readings
      (read.alike a b (IsConfig-Keeps keeps la) (IsConfig-Keeps keeps lb) (same-rest a b la lb same all) (alike-Keeps keeps list a b own la lb all))

  -- where a `defined` is left over in none
  pub answers-none : IsNever new found.0 → AreAnswers standard old new names list live (answers_to readings)
  answers-none never = record {
    own = All-map (λ (x : Answer). IsCond new x.0.0) (λ (x : Entry). (x.0, answer_of (seen_reading x.1))) readings read.own;
    each = λ c listed has.
        let none = no-left (old.has live c) (has_left old names list c) has (sym (is_found c listed) ∙ never.none c (IsConfig-Keeps later (IsConfig-Keeps keeps listed))) in
        record {
          answer = answer_of (run_tokens (wanting []) (map (symbol_at standard names) (items_at old list c)));
          answers = answer-read standard names (items_at old list c) none;
          is = at c listed ∙ (λ j. one (has j && not (none j)) (answer_of (run_tokens (wanting []) (map (symbol_at standard names) (items_at old list c)))));
        };
    others = λ c listed has. at c listed ∙ ap (λ b. one (b && not (has_left old names list c)) (answer_of (run_tokens (wanting []) (map (symbol_at standard names) (items_at old list c))))) has;
    alike = alike-answers;
  }
    where
      no-left : (t a : Bool) → t ≡ true → (t && a) ≡ false → a ≡ false
      no-left true a t e = e
      no-left false a t e = absurd (cc)

  -- and where it is in some
  pub answers-some : AreAnswers standard old new names list live (answers_to readings ++ (found, Err DefinedFromMacro) ∷ [])
  answers-some = record {
    own = All-push (λ (x : Answer). IsCond new x.0.0) (answers_to readings) (found, Err DefinedFromMacro)
        (All-map (λ (x : Answer). IsCond new x.0.0) (λ (x : Entry). (x.0, answer_of (seen_reading x.1))) readings read.own) found_own;
    each = λ c listed has. by c (old.has live c) (has_left old names list c) has refl (all c listed);
    others = λ c listed has. all c listed ∙ ap (λ b. one (b && not (has_left old names list c)) (answer_at standard old names list c) ++ one (b && has_left old names list c) (Err DefinedFromMacro)) has;
    alike = λ a b la lb same items.
        All-push (λ (x : Answer). IsAlike new a b x.0) (answers_to readings) (found, Err DefinedFromMacro) (alike-answers a b la lb same items)
        (is_found a la ∙ ((λ j. same j && list_any (is_left_over names) (items-alike old a b list items j)) ∙ sym (is_found b lb)));
  }
    where
      all : (c : List ℕ) → IsConfig old.arities c → items_at new (answers_to readings ++ (found, Err DefinedFromMacro) ∷ []) c ≡ one (old.has live c && not (has_left old names list c)) (answer_at standard old names list c) ++ one (old.has live c && has_left old names list c) (Err DefinedFromMacro)
      all c listed =
          items_at-append new (answers_to readings) ((found, Err DefinedFromMacro) ∷ []) c
          ∙ (ap (λ l. l ++ items_at new ((found, Err DefinedFromMacro) ∷ []) c) (at c listed) ∙ ap (λ b. one (old.has live c && not (has_left old names list c)) (answer_at standard old names list c) ++ one b (Err DefinedFromMacro)) (is_found c listed))

      by : (c : List ℕ) (t a : Bool) → t ≡ true → list_any (is_left_over names) (items_at old list c) ≡ a → items_at new (answers_to readings ++ (found, Err DefinedFromMacro) ∷ []) c ≡ one (t && not a) (answer_at standard old names list c) ++ one (t && a) (Err DefinedFromMacro)
          → IsAnswered standard names (items_at old list c) (items_at new (answers_to readings ++ (found, Err DefinedFromMacro) ∷ []) c)
      by c true true has is e = record { answer = Err DefinedFromMacro; answers = answer-left_over standard names (items_at old list c) is; is = e }
      by c true false has is e = record { answer = answer_of (run_tokens (wanting []) (map (symbol_at standard names) (items_at old list c))); answers = answer-read standard names (items_at old list c) is; is = e }
      by c false a has is e = absurd (cc)

-- ---- a `defined` that is left over

any-more : (p : Token → Bool) (xs : List Token) (x : Token) (b : Bool) → list_any p (xs ++ (if b then x ∷ [] else [])) ≡ (list_any p xs || (b && p x))
any-more p [] x true = or-false (p x)
  where
    or-false : (t : Bool) → (t || false) ≡ t
    or-false true = refl
    or-false false = refl
any-more p [] x false = refl
any-more p (y ∷ ys) x b = by (p y) (any-more p ys x b)
  where
    by : (t : Bool) → list_any p (ys ++ (if b then x ∷ [] else [])) ≡ (list_any p ys || (b && p x)) → (t || list_any p (ys ++ (if b then x ∷ [] else []))) ≡ ((t || list_any p ys) || (b && p x))
    by true e = refl
    by false e = e

pub left-more : (names : List (List ℕ)) (s : Sets) (list : List (Cond × Token)) (i : ℕ) (x : Cond × Token) (c : List ℕ) (live was : Bool) → i < length list → x ≡ get_or list i x
    → was ≡ (live && list_any (is_left_over names) (items_at s (take i list) c))
    → (was || (is_left_over names x.1 && (live && s.has x.0.0 c))) ≡ (live && list_any (is_left_over names) (items_at s (take (i + 1) list) c))
left-more names s list i x c live was within is e =
    let more = ap (list_any (is_left_over names)) (items_at-take s list i x c within is) ∙ any-more (is_left_over names) (items_at s (take i list) c) x.1 (s.has x.0.0 c) in
    ap (λ b. b || (is_left_over names x.1 && (live && s.has x.0.0 c))) e
    ∙ (by live (list_any (is_left_over names) (items_at s (take i list) c)) (is_left_over names x.1) (s.has x.0.0 c) ∙ ap (λ b. live && b) (sym more))
  where
    by : (l a p h : Bool) → ((l && a) || (p && (l && h))) ≡ (l && (a || (h && p)))
    by true true p h = refl
    by true false true true = refl
    by true false true false = refl
    by true false false true = refl
    by true false false false = refl
    by false a true h = refl
    by false a false h = refl

-- ---- why there are too many

-- so it was of a condition that has all of them, in an earlier state of the store
pub refuses-before : (standard : Standard) {old mid : Sets} (names : List (List ℕ)) (list : List (Cond × Token)) (live rest : List ℕ → Bool) (limit : ℕ) → Keeps old mid → All (λ (x : Cond × Token). IsCond old x.0.0) list
    → ((c : List ℕ) → IsConfig old.arities c → rest c ≡ true → live c ≡ true) → (stop : Stop) → RefusesAt standard mid names list rest limit stop → RefusesAt standard old names list live limit stop
refuses-before standard {old} {mid} names list live rest limit keeps own within (BranchesFull count) refuses =
    let was = refuses.1 in
    let i = was.index in
    let Own : Cond × Token → Type 0 = λ x. IsCond old x.0.0 in
    let item_own : IsCond old was.item.0.0 = subst Own (get_or_from_slice_get list i was.item was.item was.is) (own i was.item (slice_get_within list i was.item was.is)) in (
      refuses.0,
      record {
        index = i;
        item = was.item;
        is = was.is;
        parts = was.parts;
        many = was.many;
        listed = λ k d h. IsConfig-kept keeps (was.listed k d h);
        among = λ k d h. within _ (IsConfig-kept keeps (was.listed k d h)) (was.among k d h);
        each = λ k d h.
            let listed = IsConfig-kept keeps (was.listed k d h) in
            let p = get_or was.parts k d in
            record {
              has = sym (keeps.at _ _ item_own listed) ∙ (was.each k d h).has;
              part = subst (λ ts. IsPart (symbol_at standard names was.item.1) (map (symbol_at standard names) ts) p.1) (items_at-Keeps (take i list) p.0 keeps (All-take Own i list own) listed) (was.each k d h).part;
            };
        apart = was.apart;
      },
    )
refuses-before standard names list live rest limit keeps own within ReadFault refuses = refuses
refuses-before standard names list live rest limit keeps own within OutOfMemory refuses = tt
