-- Substitution in two halves: a template, and what fills it, are the replacement of the definition,
-- whatever the arguments expand to.
use Rattle.std.proofs.Common.{◌≡◌, ℕ, ◌||◌, Bool, true, false, List, [], ◌∷◌, ◌++◌, Option, Some, None, Result, Ok, Err, if◌then◌else◌, inl, inr, refl, sym, ap, subst, ◌∙◌}
use Rattle.std.specs.Prelude.{IfOk, IfErr}
use Rattle.std.proofs.lemmas.Bool.{cases_Bool}
use Rattle.c11_macros.specs.Hidden as model
use Rattle.c11_macros.specs.Hidden.{Failure, HideSet, Provenance, failure_at}
use Rattle.c11_macros.specs.Macros as macros
use Rattle.c11_macros.specs.Results.{result_map, result_and_then}
use Rattle.c11_macros.specs.Substitution as substitution
use Rattle.c11_macros.specs.Substitution.{all_glued, argument, begins_paste, filled, glued, hiding, is_paste_next, list_slots, is_text_kind, joined, literal_of, pasted_as, slots, spellings, stringized, substituted, tokens_of, wanted_places, with_space, put_together}
use Rattle.c11_tokens.specs.Relex.{relexed}
use Rattle.sc_model.specs.Token as model_token
use Rattle.sc_model.specs.declared.cause.Cause.{Cause}
use Rattle.sc_model.specs.declared.cause.Cause.TheVariants.{BadPaste, BadStringize}
use Rattle.sc_model.specs.declared.kind.Kind.{Kind}
use Rattle.sc_subst.specs.Halves.{completed}
use Rattle.sc_subst.specs.Parts.{filled_in}
use Rattle.sc_subst.specs.Stops.{OnOperator}
use Rattle.sc_subst.proofs.Store.{if_ok}

if_mapped : {A B E : Type 0} (f : A → B) (P : B → Type 0) (r : Result A E) → IfOk r (λ a. P (f a)) → IfOk (result_map f r) P
if_mapped {A} {B} {E} f P (Ok a) h = h
if_mapped {A} {B} {E} f P (Err e) h = tt

if_then : {A B C E : Type 0} (f : A → B) (g : B → Result C E) (P : C → Type 0) (r : Result A E) → ((a : A) → IfOk (g (f a)) P) → IfOk (result_and_then g (result_map f r)) P
if_then {A} {B} {C} {E} f g P (Ok a) h = h a
if_then {A} {B} {C} {E} f g P (Err e) h = tt

err_mapped : {A B E : Type 0} (f : A → B) (P : E → Type 0) (r : Result A E) → IfErr r P → IfErr (result_map f r) P
err_mapped {A} {B} {E} f P (Ok a) h = tt
err_mapped {A} {B} {E} f P (Err e) h = h

err_then : {A B E : Type 0} (g : A → Result B E) (P : E → Type 0) (r : Result A E) → IfErr r P → ((a : A) → IfErr (g a) P) → IfErr (result_and_then g r) P
err_then {A} {B} {E} g P (Ok a) h k = k a
err_then {A} {B} {E} g P (Err e) h k = h

mapped : {A B C E : Type 0} (f : A → B) (g : B → C) (r : Result A E) → result_map (λ a. g (f a)) r ≡ result_map g (result_map f r)
mapped {A} {B} {C} {E} f g (Ok a) = refl
mapped {A} {B} {C} {E} f g (Err e) = refl

-- ---- which arguments the slots want

abbrev pub wanted_slots : {P : Type 0} → Bool → List (substitution.Slot P) → List ℕ
wanted_slots behind [] = []
wanted_slots behind (substitution.filled_by t ∷ ss) = wanted_slots false ss
wanted_slots behind (substitution.for_paste ∷ ss) = wanted_slots true ss
wanted_slots behind (substitution.for_parameter n space ∷ ss) = if behind || begins_paste ss then wanted_slots false ss else n ∷ wanted_slots false ss

abbrev Want : {P : Type 0} → Bool → List substitution.Part → List (substitution.Slot P) → Type 0
Want b ps ss = (wanted_slots b ss ≡ wanted_places b ps) × (begins_paste ss ≡ is_paste_next ps)

pub wants_are : {P : Type 0} (head : model.Hidden P) (raw : List (List (model.Hidden P))) (b : Bool) (ps : List substitution.Part) → IfOk (slots head raw ps) (Want b ps)
wants_are {P} head raw b [] = (refl, refl)
wants_are {P} head raw b (substitution.token item ∷ ps) = if_mapped _ (Want b (substitution.token item ∷ ps)) (slots head raw ps) (if_ok _ _ (slots head raw ps) (λ ss h. (h.0, refl)) (wants_are head raw false ps))
wants_are {P} head raw b (substitution.literal n space ∷ ps) =
    if_then substitution.filled_by (λ s. result_map (λ rest. s ∷ rest) (slots head raw ps)) (Want b (substitution.literal n space ∷ ps)) (stringized head space (argument raw n))
    (λ t. if_mapped _ (Want b (substitution.literal n space ∷ ps)) (slots head raw ps) (if_ok _ _ (slots head raw ps) (λ ss h. (h.0, refl)) (wants_are head raw false ps)))
wants_are {P} head raw b (substitution.parameter n space ∷ ps) =
    if_mapped _ (Want b (substitution.parameter n space ∷ ps)) (slots head raw ps)
    (if_ok _ _ (slots head raw ps)
    (λ ss h. (ap (λ next. if b || next then wanted_slots false ss else n ∷ wanted_slots false ss) h.1 ∙ ap (λ ns. if b || is_paste_next ps then ns else n ∷ ns) h.0, refl)) (wants_are head raw false ps))
wants_are {P} head raw b (substitution.paste ∷ ps) = if_mapped _ (Want b (substitution.paste ∷ ps)) (slots head raw ps) (if_ok _ _ (slots head raw ps) (λ ss h. (h.0, refl)) (wants_are head raw true ps))
wants_are {P} head raw b (substitution.comma item n ∷ ps) = if_mapped _ (Want b (substitution.comma item n ∷ ps)) (slots head raw ps) (if_ok _ _ (slots head raw ps) (λ ss h. (h.0, refl)) (wants_are head raw false ps))

-- ---- the law

module _ {P : Type 0} (provenance : Provenance P) (form : macros.Form) (items : List model_token.Item) (head : model.Hidden P) (raw expanded : List (List (model.Hidden P))) (hidden : HideSet) where
  -- the last steps
  abbrev finish : List (model.Hidden P) → List (model.Hidden P)
  finish ts = hiding provenance hidden (with_space head.space ts)

  pub in_halves : (ss : List (substitution.Slot P)) (template : Result (List (substitution.Slot P)) (Failure P)) → list_slots head raw form items ≡ Ok ss
      → result_map tokens_of (all_glued head (filled raw expanded false ss)) ≡ result_map (filled_in expanded) template
      → substituted provenance form items head raw expanded hidden ≡ completed provenance head hidden expanded template
  in_halves ss template made glues =
      ap (result_and_then (put_together provenance head raw expanded hidden)) made
      ∙ (mapped tokens_of finish (all_glued head (filled raw expanded false ss)) ∙ (ap (result_map finish) glues ∙ sym (mapped (filled_in expanded) finish template)))

-- ---- which failures there are

module _ {P : Type 0} (head : model.Hidden P) where
  abbrev IsOf : Failure P → Failure P → Type 0
  IsOf one failure = failure ≡ one

  pasting : (left right : model.Hidden P) (kind : Option Kind) → IfErr (pasted_as head left right kind) (IsOf (failure_at BadPaste head))
  pasting left right None = refl
  pasting left right (Some kind) = tt

  joining : (left right : substitution.Piece P) → IfErr (joined head left right) (IsOf (failure_at BadPaste head))
  joining (substitution.piece left) (substitution.piece right) = pasting left right (relexed (left.spelling ++ right.spelling))
  joining (substitution.piece left) substitution.operator = tt
  joining (substitution.piece left) substitution.placemarker = tt
  joining substitution.operator right = tt
  joining substitution.placemarker right = tt

  gluing : (left : substitution.Piece P) (ps : List (substitution.Piece P)) → IfErr (glued head left ps) (IsOf (failure_at BadPaste head))
  gluing left [] = tt
  gluing left (substitution.operator ∷ []) = tt
  gluing left (substitution.operator ∷ (right ∷ ps)) = err_then (λ p. glued head p ps) (IsOf (failure_at BadPaste head)) (joined head left right) (joining left right) (λ p. gluing p ps)
  gluing left (substitution.piece t ∷ ps) = err_mapped (λ rest. left ∷ rest) (IsOf (failure_at BadPaste head)) (glued head (substitution.piece t) ps) (gluing (substitution.piece t) ps)
  gluing left (substitution.placemarker ∷ ps) = err_mapped (λ rest. left ∷ rest) (IsOf (failure_at BadPaste head)) (glued head substitution.placemarker ps) (gluing substitution.placemarker ps)

  pub glue_fails : (ps : List (substitution.Piece P)) (failure : Failure P) → result_map tokens_of (all_glued head ps) ≡ Err failure → failure ≡ failure_at BadPaste head
  glue_fails [] failure is = cc
  glue_fails (p ∷ ps) failure is = subst (λ r. IfErr r (IsOf (failure_at BadPaste head))) is (err_mapped tokens_of (IsOf (failure_at BadPaste head)) (glued head p ps) (gluing p ps))

  literal_fails : (space : Bool) (spelling : List ℕ) → IfErr (literal_of head space spelling) (IsOf (failure_at BadStringize head))
  literal_fails space spelling = elim (cases_Bool (is_text_kind (relexed spelling))) [ inl is ↦ rw is tt | inr other ↦ rw other refl ]

  slots_err : (raw : List (List (model.Hidden P))) (ps : List substitution.Part) → IfErr (slots head raw ps) (IsOf (failure_at BadStringize head))
  slots_err raw [] = tt
  slots_err raw (p ∷ ps) =
      err_then (λ s. result_map (λ rest. s ∷ rest) (slots head raw ps)) (IsOf (failure_at BadStringize head)) (substitution.slot_of head raw p) (slot_err p)
      (λ s. err_mapped (λ rest. s ∷ rest) (IsOf (failure_at BadStringize head)) (slots head raw ps) (slots_err raw ps))
    where
      slot_err : (p : substitution.Part) → IfErr (substitution.slot_of head raw p) (IsOf (failure_at BadStringize head))
      slot_err (substitution.token item) = tt
      slot_err (substitution.literal n space) = err_mapped substitution.filled_by (IsOf (failure_at BadStringize head)) (stringized head space (argument raw n)) (literal_fails space (34 ∷ spellings (argument raw n) ++ 34 ∷ []))
      slot_err (substitution.parameter n space) = tt
      slot_err substitution.paste = tt
      slot_err (substitution.comma item n) = tt

  pub slots_fail : (raw : List (List (model.Hidden P))) (ps : List substitution.Part) (failure : Failure P) → slots head raw ps ≡ Err failure → failure ≡ failure_at BadStringize head
  slots_fail raw ps failure is = subst (λ r. IfErr r (IsOf (failure_at BadStringize head))) is (slots_err raw ps)

pub cause_of : {P : Type 0} (one two : Cause) (head : model.Hidden P) → failure_at one head ≡ failure_at two head → one ≡ two
cause_of {P} one two head is = ap (λ (f : Failure P). f.cause) is

pub by_hash : (cause : Cause) (hash paste : Type 0) → cause ≡ BadStringize → hash → OnOperator cause hash paste
by_hash cause hash paste is h = subst (λ c. OnOperator c hash paste) (sym is) h

pub by_paste : (cause : Cause) (hash paste : Type 0) → cause ≡ BadPaste → paste → OnOperator cause hash paste
by_paste cause hash paste is h = subst (λ c. OnOperator c hash paste) (sym is) h

-- what follows from each fault follows from a fault
pub by_operator : {P : Type 0} (head : model.Hidden P) (whole : Result (List (model.Hidden P)) (Failure P)) (cause : Cause) (hash paste : Type 0) → OnOperator cause hash paste
    → (hash → whole ≡ Err (failure_at BadStringize head)) → (paste → whole ≡ Err (failure_at BadPaste head)) → whole ≡ Err (failure_at cause head)
by_operator head whole BadStringize hash paste h one two = one h
by_operator head whole BadPaste hash paste h one two = two h
by_operator head whole other hash paste h one two = absurd h
