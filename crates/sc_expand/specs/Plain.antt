-- The expansion of a list step by step, from its first token on (C11 6.10.3.4): each argument of a
-- call is expanded alone before the call is replaced.
use Rattle.std.specs.Prelude.{◌≡◌, ℕ, List, [], ◌∷◌, ◌++◌, map, true, Result, Ok, Err, is_ok, slice_set}
use Rattle.c11_macros.specs.Expansion.{called, case_of, list_of, misfit, object_result, replaced, stays, unclosed}
use Rattle.c11_macros.specs.Hidden.{Failure, Hidden, HideSet, Provenance, failure_at, meet, with_name}
use Rattle.c11_macros.specs.Macros.{Definition, Macros}
use Rattle.c11_macros.specs.Substitution.{Slot, argument, list_slots, substituted, wanted_of}
use Rattle.sc_subst.specs.Halves.{completed}
use Rattle.sc_model.specs.declared.cause.Cause.TheVariants.{UnterminatedCall, WrongArguments}

-- a call that was taken out of its list and waits for its arguments
pub record Waiting (P : Type 0) : Type 0 where
  -- the macro's name
  pub head : Hidden P
  -- its replacement without the arguments that are expanded alone, or the failure of a ## in it
  pub template : Result (List (Slot P)) (Failure P)
  -- the parameters whose arguments are still to be expanded, each with its argument
  pub wanted : List (ℕ × List (Hidden P))
  -- a list for each parameter: its argument as it expanded, and nothing until then
  pub expanded : List (List (Hidden P))
  -- what all tokens of the replacement hide
  pub names : HideSet

-- What was put out, and what is still to be scanned. With a call between them, what is still to be
-- scanned follows the call; an argument of it may be expanding.
pub data State (P : Type 0) : Type 0 where
  scanning : (out work : List (Hidden P)) → State P
  waiting : (out work : List (Hidden P)) → Waiting P → State P
  expanding : (out work : List (Hidden P)) → Waiting P → (parameter : ℕ) → State P → State P

-- the call waits for these others
abbrev pub without_first : {P : Type 0} → Waiting P → List (ℕ × List (Hidden P)) → Waiting P
without_first w others = record w { wanted = others }

-- the argument of the parameter expanded to this
abbrev pub with_expanded : {P : Type 0} → Waiting P → ℕ → List (Hidden P) → Waiting P
with_expanded w n list = record w { expanded = slice_set w.expanded n list }

-- a call of which no argument is expanded yet
abbrev pub gathered : {P : Type 0} → Provenance P → Definition → Hidden P → List (List (Hidden P)) → Hidden P → Result (List (Slot P)) (Failure P) → Waiting P
gathered provenance d t arguments close template = record {
  head = t;
  template = template;
  wanted = map (λ n. (n, argument arguments n)) (wanted_of d.form (list_of provenance d t));
  expanded = map (λ a. []) arguments;
  names = with_name (meet t.hide close.hide) t.spelling;
}

-- no # of the list fails, and whatever the arguments of the call expand to, the template makes its
-- replacement with them
pub record IsTemplate {P : Type 0} (provenance : Provenance P) (d : Definition) (t : Hidden P) (arguments : List (List (Hidden P))) (template : Result (List (Slot P)) (Failure P)) : Type 0 where
  pub stringized : is_ok (list_slots t arguments d.form (list_of provenance d t)) ≡ true
  pub completes : (expanded : List (List (Hidden P))) (names : HideSet) → substituted provenance d.form (list_of provenance d t) t arguments expanded names ≡ completed provenance t names expanded template

-- the call's replacement, once its arguments are expanded; its failure is that of the template
abbrev pub replacement_of : {P : Type 0} → Provenance P → Waiting P → Result (List (Hidden P)) (Failure P)
replacement_of provenance w = completed provenance w.head w.names w.expanded w.template

-- one step
pub data Moves {P : Type 0} (provenance : Provenance P) (macros : Macros) : State P → State P → Type 0 where
  -- a token that is no call's name is put out
  stay : (out rest : List (Hidden P)) (t : Hidden P) → case_of macros t rest ≡ stays → Moves provenance macros (scanning out (t ∷ rest)) (scanning (out ++ t ∷ []) rest)
  -- an object-like macro's replacement is scanned again with the rest
  object : (out rest body : List (Hidden P)) (t : Hidden P) (d : Definition) → case_of macros t rest ≡ replaced d → object_result provenance d t ≡ Ok body
      → Moves provenance macros (scanning out (t ∷ rest)) (scanning out (body ++ rest))
  -- a call is taken out
  gather : (out rest after : List (Hidden P)) (t close : Hidden P) (d : Definition) (arguments : List (List (Hidden P))) (template : Result (List (Slot P)) (Failure P))
      → case_of macros t rest ≡ called d arguments close after → IsTemplate provenance d t arguments template
      → Moves provenance macros (scanning out (t ∷ rest)) (waiting out after (gathered provenance d t arguments close template))
  -- the next argument begins to expand
  enter : (out work list : List (Hidden P)) (w : Waiting P) (n : ℕ) (others : List (ℕ × List (Hidden P))) → w.wanted ≡ (n, list) ∷ others
      → Moves provenance macros (waiting out work w) (expanding out work (without_first w others) n (scanning [] list))
  -- it has expanded
  leave : (out work list : List (Hidden P)) (w : Waiting P) (n : ℕ) → Moves provenance macros (expanding out work w n (scanning list [])) (waiting out work (with_expanded w n list))
  -- the call's replacement is scanned again with what follows the call
  replace : (out work body : List (Hidden P)) (w : Waiting P) → w.wanted ≡ [] → replacement_of provenance w ≡ Ok body → Moves provenance macros (waiting out work w) (scanning out (body ++ work))
  -- a step of the argument that expands
  inside : (out work : List (Hidden P)) (w : Waiting P) (n : ℕ) {s t : State P} → Moves provenance macros s t → Moves provenance macros (expanding out work w n s) (expanding out work w n t)

-- the first failure of the list
pub data Fails {P : Type 0} (provenance : Provenance P) (macros : Macros) : State P → Failure P → Type 0 where
  bad_object : (out rest : List (Hidden P)) (t : Hidden P) (d : Definition) (failure : Failure P) → case_of macros t rest ≡ replaced d → object_result provenance d t ≡ Err failure
      → Fails provenance macros (scanning out (t ∷ rest)) failure
  open_call : (out rest : List (Hidden P)) (t : Hidden P) → case_of macros t rest ≡ unclosed → Fails provenance macros (scanning out (t ∷ rest)) (failure_at UnterminatedCall t)
  miscounted : (out rest after : List (Hidden P)) (t : Hidden P) → case_of macros t rest ≡ misfit after → Fails provenance macros (scanning out (t ∷ rest)) (failure_at WrongArguments t)
  -- a # fails, before any argument expands
  bad_stringize : (out rest after : List (Hidden P)) (t close : Hidden P) (d : Definition) (arguments : List (List (Hidden P))) (failure : Failure P)
      → case_of macros t rest ≡ called d arguments close after
      → list_slots t arguments d.form (list_of provenance d t) ≡ Err failure
      → Fails provenance macros (scanning out (t ∷ rest)) failure
  bad_paste : (out work : List (Hidden P)) (w : Waiting P) (failure : Failure P) → w.wanted ≡ [] → replacement_of provenance w ≡ Err failure → Fails provenance macros (waiting out work w) failure
  inside_fails : (out work : List (Hidden P)) (w : Waiting P) (n : ℕ) {s : State P} {failure : Failure P} → Fails provenance macros s failure → Fails provenance macros (expanding out work w n s) failure

-- steps from one state to another
pub data Leads {P : Type 0} (provenance : Provenance P) (macros : Macros) : State P → State P → Type 0 where
  no_step : {s : State P} → Leads provenance macros s s
  step : {s t u : State P} → Moves provenance macros s t → Leads provenance macros t u → Leads provenance macros s u
