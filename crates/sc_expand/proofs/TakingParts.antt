-- One part more of what a look-up gives is taken.
use Rattle.std.proofs.Common.{Global, ◌≡◌, ◌∙◌, ◌∷◌, ◌++◌, ℕ, zero, suc, ◌+◌, ◌<◌, ◌≤◌, Bool, true, false, List, [], Option, Some, None, ap, refl, sym, subst, length, take, get_or, map, append-nil, arith, if◌then◌else◌, IfSome, slice_get}
use Rattle.c11_macros.specs.Macros as model
use Rattle.sc_expand.proofs.AlikeTaking.{part-alike, part-each}
use Rattle.sc_expand.proofs.Facts.{IsConfig-Keeps, items_at-append, seen_definition-Extends, slice_get-map, take_more}
use Rattle.sc_expand.proofs.TakingSteps.{lists-same, lists-then, has_first-Keeps, none-before, same-step}
use Rattle.sc_expand.proofs.SeenLemmas.{at-Grows, seen_hidden-Grows}
use Rattle.sc_expand.proofs.WorkListLemmas.{taken-each, taken-earlier, taken-later}
use Rattle.sc_expand.proofs.Terms.{AreHeld, AreTaken, At, Comes, Cond, Denotes, Expansion, Extends, Grows, HasTaken, HiddenToken as Hidden, IsCond, IsConfig, IsFunctionLike, IsHeldDefinition, IsHeldExpansion, IsHeldTaken, IsHeldToken, IsTaken, Macros, Place, Rc, Sets, Step, Stores, Taken, TakesPart, at, items_at, option_map, provenance_of, seen_at, seen_definition, seen_hidden, step_at, text_of, untaken}
use Rattle.sc_macro.specs.declared.definition.Definition.{Definition}
use Rattle.sc_subst.specs.declared.hidden.Hidden as declared

abbrev pub seen_by : List (List ℕ) → Option (Rc Definition Global) → Option model.Definition
seen_by names o = option_map (λ shared. seen_definition names shared.value) o

seen_by-Extends : {names more : List (List ℕ)} → Extends names more → (o : Option (Rc Definition Global)) → IfSome o (λ shared. IsHeldDefinition names shared.value) → seen_by more o ≡ seen_by names o
seen_by-Extends grows None held = refl
seen_by-Extends grows (Some shared) held = ap (λ d. Some d) (seen_definition-Extends grows shared.value held)

-- the items of one part more
with-next : (s : Sets) (parts : List (Cond × Option (Rc Definition Global))) (i : ℕ) (part : Cond × Option (Rc Definition Global)) (c : List ℕ) → i < length parts → part ≡ get_or parts i part
    → items_at s (take (i + 1) parts) c ≡ items_at s (take i parts) c ++ (if s.has part.0.0 c then part.1 ∷ [] else [])
with-next s parts i part c within is =
    ap (λ l. items_at s l c) (take_more parts i part within ∙ ap (λ p. take i parts ++ p ∷ []) (sym is)) ∙ items_at-append s (take i parts) (part ∷ []) c

pub none-found : {A B : Type 0} (f : A → B) (xs : List A) → map f xs ≡ [] → xs ≡ []
none-found f [] is = refl
none-found f (x ∷ xs) is = cc

module _ {files : List (List ℕ)} {old mid new : Stores} {was now next : Expansion} {before after later : Taken} {head : declared.Hidden} (parts : List (Cond × Option (Rc Definition Global))) (i : ℕ) (part : Cond × Option (Rc Definition Global)) where
  pub part-taken : {counted : ℕ} → i < length parts → part ≡ get_or parts i part → Grows old mid → IsHeldToken old counted head → AreHeld old counted was.top.work → IsCond old.sets part.0.0
      → IfSome part.1 (λ shared. IsHeldDefinition old.names shared.value) → ((c : List ℕ) → IsConfig old.sets.arities c → length (items_at old.sets parts c) ≤ 1)
      → AreTaken files old mid was now before after head (take i parts) → IsTaken files mid new now next after later head part.0.0 (seen_by mid.names part.1) → AreTaken files old new was next before later head (take (i + 1) parts)
  part-taken within is grows held work_held own definition one done step = record {
    held = step.held;
    taken = step.taken;
    lists = lists-then done.lists step.lists;
    comes = λ c macros rest listed work found.
        came c macros rest listed work (old.sets.has part.0.0 c) refl (ap (map (seen_by old.names)) (sym (with-next old.sets parts i part c within is)) ∙ found);
    others = λ c listed none. left c listed (old.sets.has part.0.0 c) refl (sym (with-next old.sets parts i part c within is) ∙ none);
    others_each = part-each parts i part within is grows own done step;
    alike = part-alike parts i part within is grows own done step work_held definition one;
    rest = λ c listed. left-by c listed (old.sets.has part.0.0 c) refl;
  }
    where
      t : Hidden Place
      t = seen_hidden mid.names mid.hides head

      same : t ≡ seen_hidden old.names old.hides head
      same = seen_hidden-Grows grows head held

      has : (c : List ℕ) → IsConfig old.sets.arities c → (b : Bool) → old.sets.has part.0.0 c ≡ b → mid.sets.has part.0.0 c ≡ b
      has c listed b is = grows.sets.at part.0.0 c own listed ∙ is

      came : (c : List ℕ) (macros : Macros) (rest : List (Hidden Place)) → IsConfig old.sets.arities c → (at old was c).view.work ≡ seen_hidden old.names old.hides head ∷ rest → (b : Bool) → old.sets.has part.0.0 c ≡ b
          → map (seen_by old.names) (items_at old.sets (take i parts) c ++ (if b then part.1 ∷ [] else [])) ≡ macros (text_of old.names head.token.spelling) ∷ []
          → Comes (provenance_of files) macros (seen_hidden old.names old.hides head) rest (at old was c) (step_at new next later c)
      came c macros rest listed work true here found =
          let none = none-before old.sets parts i part c within is here (one c listed) in
          let kept : at mid now c ≡ at old was c = ap (λ (s : Step). s.at) (done.others c listed none.0) in
          let only : seen_by old.names part.1 ∷ [] ≡ macros (text_of old.names head.token.spelling) ∷ [] = ap (λ l. map (seen_by old.names) (l ++ part.1 ∷ [])) (sym none.0) ∙ found in
          let told : macros (text_of old.names head.token.spelling) ≡ seen_by old.names part.1 = cc in
          let came = step.comes c macros rest (IsConfig-Keeps grows.sets listed) (has c listed true here) (ap (λ (a : At). a.view.work) kept ∙ (work ∙ ap (λ t. t ∷ rest) (sym same)))
          (ap (λ (t : Hidden Place). macros t.spelling) same ∙ (told ∙ sym (seen_by-Extends grows.names part.1 definition))) in
          subst (λ t. Comes (provenance_of files) macros t rest (at old was c) (step_at new next later c)) same (subst (λ a. Comes (provenance_of files) macros t rest a (step_at new next later c)) kept came)
      came c macros rest listed work false elsewhere found =
          subst (Comes (provenance_of files) macros (seen_hidden old.names old.hides head) rest (at old was c)) (sym (step.others c (IsConfig-Keeps grows.sets listed) (has c listed false elsewhere)))
          (done.comes c macros rest listed work (ap (map (seen_by old.names)) (sym (append-nil (items_at old.sets (take i parts) c))) ∙ found))

      left : (c : List ℕ) → IsConfig old.sets.arities c → (b : Bool) → old.sets.has part.0.0 c ≡ b → items_at old.sets (take i parts) c ++ (if b then part.1 ∷ [] else []) ≡ [] → step_at new next later c ≡ step_at old was before c
      left c listed true here none = absurd (no_item (items_at old.sets (take i parts) c) none)
        where
          no_item : (l : List (Option (Rc Definition Global))) → l ++ part.1 ∷ [] ≡ [] → ⊥
          no_item [] none = cc
          no_item (x ∷ xs) none = cc
      left c listed false elsewhere none =
          step.others c (IsConfig-Keeps grows.sets listed) (has c listed false elsewhere) ∙ done.others c listed (sym (append-nil (items_at old.sets (take i parts) c)) ∙ none)

      left-by : (c : List ℕ) → IsConfig old.sets.arities c → (b : Bool) → old.sets.has part.0.0 c ≡ b → HasTaken old.sets new.sets was.top.work next.top.work later.made.items c
      left-by c listed true here =
          let none = none-before old.sets parts i part c within is here (one c listed) in
          taken-earlier (done.others_each c listed none.0) (step.rest c (IsConfig-Keeps grows.sets listed))
      left-by c listed false elsewhere =
          let listed1 = IsConfig-Keeps grows.sets listed in
          let elsewhere1 = has c listed false elsewhere in
          let made : seen_at new later.made.items c ≡ seen_at mid after.made.items c = ap (λ (s : Step). s.made) (step.others c listed1 elsewhere1) in
          taken-later (done.rest c listed) (step.others_each c listed1 elsewhere1)
          (λ none. none-found (seen_hidden new.names new.hides) (items_at new.sets later.made.items c) (made ∙ ap (map (seen_hidden mid.names mid.hides)) none))

-- ---- what a look-up gives

pub one-found : {A B : Type 0} (f : A → B) (xs : List A) (b : Bool) (y : B) → map f xs ≡ (if b then y ∷ [] else []) → length xs ≡ 1 → b ≡ true
one-found f xs true y is one = refl
one-found f xs false y is one = let none = none-found f xs is in absurd (omega (arith, one, ap length none))

found-item : {T : Type 0} (s : Sets) (xs : List (Cond × T)) (n : ℕ) (x : Cond × T) (c : List ℕ) → slice_get xs n ≡ Some x → s.has x.0.0 c ≡ true → (k : ℕ) × (slice_get (items_at s xs c) k ≡ Some x.1)
found-item s [] n x c at has = absurd (cc)
found-item s (y ∷ ys) zero x c at has =
    let same : y ≡ x = cc in
    (0, ap (λ b. slice_get (if b then y.1 ∷ items_at s ys c else items_at s ys c) 0) (ap (λ z. s.has z.0.0 c) same ∙ has) ∙ ap (λ z. Some z.1) same)
found-item {T} s (y ∷ ys) (suc n) x c at has = by (s.has y.0.0 c) (found-item s ys n x c at has)
  where
    by : (b : Bool) → (k : ℕ) × (slice_get (items_at s ys c) k ≡ Some x.1) → (k : ℕ) × (slice_get (if b then y.1 ∷ items_at s ys c else items_at s ys c) k ≡ Some x.1)
    by true found = (suc found.0, found.1)
    by false found = found

-- a part that defines a function-like macro is what a look-up gives
pub found-function : (s : Sets) (names : List (List ℕ)) (parts : List (Cond × Option (Rc Definition Global))) (c : List ℕ) (b : Bool) (m : Option model.Definition)
    → map (seen_by names) (items_at s parts c) ≡ (if b then m ∷ [] else []) → TakesPart s names parts c → (b ≡ true) × IsFunctionLike m
found-function s names parts c b m is takes =
    let found = found-item s parts takes.among.0 takes.part c takes.among.1 takes.has in
    let at = sym (ap (λ l. slice_get l found.0) is) ∙ (slice_get-map (seen_by names) (items_at s parts c) found.0 ∙ ap (option_map (seen_by names)) found.1) in
    by b found.0 at
  where
    by : (b : Bool) (k : ℕ) → slice_get (if b then m ∷ [] else []) k ≡ Some (seen_by names takes.part.1) → (b ≡ true) × IsFunctionLike m
    by true zero at = (let same : seen_by names takes.part.1 ≡ m = cc in (refl, subst IsFunctionLike same takes.function))
    by true (suc k) at = absurd (cc)
    by false k at = absurd (cc)

-- no part was taken yet
pub none-taken : {files : List (List ℕ)} {st : Stores} (e : Expansion) (taken : Taken) (head : declared.Hidden) → IsHeldExpansion st (length files) e → IsHeldTaken st (length files) taken → AreTaken files st st e e taken taken head []
none-taken e taken head held taken_held = record {
  held = held;
  taken = taken_held;
  lists = lists-same e;
  comes = λ c macros rest listed work found. absurd (cc);
  others = λ c listed none. refl;
  others_each = λ c listed none. refl;
  alike = λ c d span p q alike called made start. (start, made);
  rest = λ c listed. taken-each refl;
}

-- the stores grew, and nothing is known of the token still
pub still-untaken : {old new : Stores} {files : ℕ} → Grows old new → (e : Expansion) (taken : Taken) → IsHeldExpansion old files e → Denotes old.sets taken.stays.0 (λ c. false) → taken.made.items ≡ []
    → (c : List ℕ) → IsConfig old.sets.arities c → step_at new e taken c ≡ untaken old e c
still-untaken {old} {new} grows e taken held never none c listed =
    same-step (at-Grows grows c listed e held) (has_first-Keeps grows.sets e.top.work held.top.work.own c listed)
    (grows.sets.at taken.stays.0 c never.own listed ∙ never.at c listed) (ap (λ l. seen_at new l c) none)
