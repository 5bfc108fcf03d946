-- Calls that are taken out of a list, each in the configurations that have its tokens.
use Rattle.std.specs.Prelude.{◌≡◌, ℕ, true, false, List, [], ◌∷◌, ◌++◌, All, Some, Result, Err, codes, drop, map}
use Rattle.c11_macros.specs.Call.{Call, call_of}
use Rattle.c11_macros.specs.Expansion.{is_looked_up, list_of}
use Rattle.c11_macros.specs.Hidden as model
use Rattle.c11_macros.specs.Hidden.{Failure, Provenance}
use Rattle.c11_macros.specs.Macros.{Definition, Macros}
use Rattle.c11_macros.specs.Substitution.{Slot, list_slots}
use Rattle.sc_base.specs.declared.place.Place.{Place}
use Rattle.sc_expand.specs.declared.expansion.Expansion.{Expansion}
use Rattle.sc_expand.specs.Gather.{Gathers}
use Rattle.sc_expand.specs.Alike.{IsAlikeIn, IsSameCall, Span}
use Rattle.sc_hoist.specs.Alike.{IsAlike}
use Rattle.sc_expand.specs.Having.{HasLast, has_each, tokens_in}
use Rattle.sc_expand.specs.Machine.{IsHeldExpansion, KeepsLists, at, with_call}
use Rattle.sc_expand.specs.Plain.{IsTemplate, gathered}
use Rattle.sc_expand.specs.Seen.{AreHeld, IsHeldToken, Stores, calls_at, provenance_of, seen_at, stores}
use Rattle.sc_expand.specs.Taking.{has_first}
use Rattle.sc_expand.specs.Turn.{At, fails, with_end}
use Rattle.sc_hoist.specs.Branches.{lists_at}
use Rattle.sc_hoist.specs.Calls.{call_end_at, call_places, closed}
use Rattle.sc_hoist.specs.declared.branch.Branch.{Branch}
use Rattle.sc_macro.specs.declared.definition.Definition as declared_definition
use Rattle.sc_macro.specs.declared.definition.Item as declared_item
use Rattle.sc_macro.specs.declared.form.Form as declared_form
use Rattle.sc_macro.specs.Seen.{seen_definition, seen_form, seen_item, text_of}
use Rattle.sc_model.specs.Bytes.{same_bytes}
use Rattle.sc_model.specs.Sets.{IsCond, IsConfig, IsNever, Keeps, Sets}
use Rattle.sc_subst.specs.declared.hidden.Hidden.{Hidden}
use Rattle.sc_subst.specs.Parts.{seen_arguments, seen_list}
use Rattle.sc_subst.specs.Seen.{seen_hidden}

-- ---- the call behind a name

-- the call whose opening parenthesis stands before these tokens is closed, and this follows it
pub record EndsBefore {P : Type 0} (commas : ℕ) (ts after : List (model.Hidden P)) : Type 0 where
  pub call : Call P
  pub is : call_of commas 0 ts ≡ Some call
  pub rest : call.rest ≡ after

-- these tokens are a parenthesis that opens a call, what stands between, the one that closes it,
-- and what follows
pub record IsCall {P : Type 0} (ts between : List (model.Hidden P)) (close : model.Hidden P) (after : List (model.Hidden P)) : Type 0 where
  pub opener : model.Hidden P
  pub is : ts ≡ opener ∷ (between ++ close ∷ after)
  pub opens : same_bytes opener.spelling (codes "(") ≡ true
  pub ends : (commas : ℕ) → EndsBefore commas (between ++ close ∷ after) after

-- ---- the configurations of a branch

-- a name stands first at the configuration and is called, the tokens of the call stand at these
-- places, and no other call waits
pub record IsCalled (st : Stores) (e : Expansion) (places c : List ℕ) : Type 0 where
  pub stands : has_first st.sets e.top.work c ≡ true
  pub stand_at : places ≡ call_places st.sets st.names (tokens_in e.top.work) 0 c
  pub closed : call_end_at st.sets st.names (tokens_in e.top.work) 0 c ≡ closed
  pub live : st.sets.has e.refusals.live.0 c ≡ true
  pub calls : calls_at st e.top.calls.items c ≡ []

-- some configurations, and each of them has the call
pub record IsBranch (st : Stores) (e : Expansion) (branch : Branch) : Type 0 where
  pub own : IsCond st.sets branch.cond.0
  pub some : IsNever st.sets branch.cond.0 → ⊥
  pub each : (c : List ℕ) → IsConfig st.sets.arities c → st.sets.has branch.cond.0 c ≡ true → IsCalled st e branch.places.items c

-- ---- what taking a call out does

-- the call of a branch was taken out of the list on top
pub record HasLeft (old new : Sets) (names : List (List ℕ)) (was now : Expansion) (branch : Branch) (between : List Hidden) (close : Hidden) : Type 0 where
  pub keeps : Keeps old new
  pub sets : now.sets ≡ was.sets
  pub top : now.top ≡ record was.top { work = now.top.work }
  pub refusals : now.refusals ≡ was.refusals
  pub below : now.below ≡ was.below
  pub waiting : now.rest ≡ was.rest
  pub tokens : map (λ item. item.1) now.top.work ≡ map (λ item. item.1) was.top.work
  pub call : (c : List ℕ) → IsConfig old.arities c → old.has branch.cond.0 c ≡ true
      → IsCall (seen_at (stores old names was.sets) (drop 1 was.top.work) c) (seen_list names was.sets between) (seen_hidden names was.sets close) (seen_at (stores new names now.sets) now.top.work c)
  pub first : (c : List ℕ) → IsConfig old.arities c → old.has branch.cond.0 c ≡ true → has_first new now.top.work c ≡ false
  pub others : (c : List ℕ) → IsConfig old.arities c → old.has branch.cond.0 c ≡ false
      → (seen_at (stores new names now.sets) now.top.work c ≡ seen_at (stores old names was.sets) was.top.work c) × (has_each new now.top.work c ≡ has_each old was.top.work c)
  pub alike : (c d : List ℕ) (span : Span) → IsConfig old.arities c → IsConfig old.arities d → IsAlike old c d branch.cond → IsAlikeIn old c d span was → IsAlikeIn new c d span now
  pub rest : (c : List ℕ) → IsConfig old.arities c → HasLast old new was.top.work now.top.work c
  pub own : (files : ℕ) → AreHeld (stores old names was.sets) files was.top.work → All (IsHeldToken (stores old names was.sets) files) (close ∷ between)
  pub held : (files : ℕ) → AreHeld (stores old names was.sets) files was.top.work → AreHeld (stores new names now.sets) files now.top.work

-- the call of the name with these arguments begins to wait for them, or a # in the macro's list
-- fails
pub data Begins (provenance : Provenance Place) (d : Definition) (t close : model.Hidden Place) (arguments : List (List (model.Hidden Place))) (a b : At) : Type 0 where
  waits : (template : Result (List (Slot Place)) (Failure Place)) → IsTemplate provenance d t arguments template
      → b ≡ record a { view = with_call a.view (gathered provenance d t arguments close template) } → Begins provenance d t close arguments a b
  refused : (failure : Failure Place) → list_slots t arguments d.form (list_of provenance d t) ≡ Err failure
      → b.live ≡ false → b.ends ≡ with_end a.ends (fails failure) → Begins provenance d t close arguments a b

-- The call of a name with these arguments begins to wait in the configurations of a condition, or
-- is refused; the others are as they were.
pub record HasBegun (old new : Stores) (was now : Expansion) (cond : ℕ) (form : declared_form.Form) (items : List declared_item.Item) (head close : Hidden) (raw : List (List Hidden)) : Type 0 where
  pub held : (files : ℕ) → IsHeldExpansion old files was → IsHeldToken old files head → All (All (IsHeldToken old files)) raw → IsHeldExpansion new files now
  pub begins : (c : List ℕ) (provenance : Provenance Place) (d : Definition) → IsConfig old.sets.arities c → old.sets.has cond c ≡ true → d.form ≡ seen_form new.names form
      → list_of provenance d (seen_hidden new.names new.hides head) ≡ map (seen_item new.names) items
      → Begins provenance d (seen_hidden new.names new.hides head) (seen_hidden new.names new.hides close) (seen_arguments new.names new.hides raw) (at old was c) (at new now c)
  pub others : (c : List ℕ) → IsConfig old.sets.arities c → old.sets.has cond c ≡ false → at new now c ≡ at old was c
  pub work : now.top.work ≡ was.top.work
  pub below : now.below ≡ was.below
  pub rest : now.rest ≡ was.rest
  pub out : now.top.out ≡ was.top.out
  pub alike : (c d : List ℕ) (span : Span) → IsConfig old.sets.arities c → IsConfig old.sets.arities d → old.sets.has cond c ≡ old.sets.has cond d
      → IsAlikeIn old.sets c d span was → IsAlikeIn new.sets c d span now

-- the name is looked up, and is that of a macro with this form and this list
pub record IsMacro (st : Stores) (provenance : Provenance Place) (macros : Macros) (form : declared_form.Form) (items : List declared_item.Item) (head : Hidden) (d : Definition) : Type 0 where
  pub looked_up : is_looked_up (seen_hidden st.names st.hides head) ≡ true
  pub defined : macros (text_of st.names head.token.spelling) ≡ Some d
  pub formed : d.form ≡ seen_form st.names form
  pub list : list_of provenance d (seen_hidden st.names st.hides head) ≡ map (seen_item st.names) items

-- the calls of these branches were taken out: a configuration of one of them made its step, and
-- each other is as it was
pub record AreGathered (old st : Stores) (was now : Expansion) (form : declared_form.Form) (items : List declared_item.Item) (head : Hidden) (branches : List Branch) : Type 0 where
  pub held : (files : ℕ) → IsHeldExpansion old files was → IsHeldExpansion st files now
  pub lists : KeepsLists was now
  pub gathers : (c place : List ℕ) (provenance : Provenance Place) (macros : Macros) (d : Definition) (rest : List (model.Hidden Place)) → IsConfig old.sets.arities c
      → lists_at old.sets branches c ≡ place ∷ [] → (at old was c).view.work ≡ seen_hidden old.names old.hides head ∷ rest → IsMacro old provenance macros form items head d
      → Gathers provenance macros (seen_hidden old.names old.hides head) rest (at old was c) (at st now c) false
  pub first : (c place : List ℕ) → IsConfig old.sets.arities c → lists_at old.sets branches c ≡ place ∷ [] → has_first st.sets now.top.work c ≡ false
  pub others : (c : List ℕ) → IsConfig old.sets.arities c → lists_at old.sets branches c ≡ []
      → (at st now c ≡ at old was c) × (has_each st.sets now.top.work c ≡ has_each old.sets was.top.work c)
  pub alike : (c d : List ℕ) (span : Span) → IsConfig old.sets.arities c → IsConfig old.sets.arities d → All (λ branch. IsAlike old.sets c d branch.cond) branches
      → IsAlikeIn old.sets c d span was → IsAlikeIn st.sets c d span now
  pub rest : (c : List ℕ) → IsConfig old.sets.arities c → HasLast old.sets st.sets was.top.work now.top.work c

-- The calls of a macro's name were taken out in the configurations of a condition: each of them
-- made its step, or has the name still, which is no call there. The others are as they were.
pub record IsGathered (files : List (List ℕ)) (old st : Stores) (was now : Expansion) (cond uncalled : ℕ) (definition : declared_definition.Definition) (head : Hidden) : Type 0 where
  pub own : IsCond st.sets uncalled
  pub gathers : (c : List ℕ) (macros : Macros) (rest : List (model.Hidden Place)) → IsConfig old.sets.arities c → old.sets.has cond c ≡ true
      → (at old was c).view.work ≡ seen_hidden old.names old.hides head ∷ rest → is_looked_up (seen_hidden old.names old.hides head) ≡ true
      → macros (text_of old.names head.token.spelling) ≡ Some (seen_definition old.names definition)
      → Gathers (provenance_of files) macros (seen_hidden old.names old.hides head) rest (at old was c) (at st now c) (st.sets.has uncalled c)
  pub first : (c : List ℕ) → IsConfig old.sets.arities c → old.sets.has cond c ≡ true → st.sets.has now.refusals.live.0 c ≡ true
      → has_first st.sets now.top.work c ≡ st.sets.has uncalled c
  pub others : (c : List ℕ) → IsConfig old.sets.arities c → old.sets.has cond c ≡ false
      → ((at st now c ≡ at old was c) × (st.sets.has uncalled c ≡ false)) × (has_each st.sets now.top.work c ≡ has_each old.sets was.top.work c)
  pub alike : (c d : List ℕ) (span : Span) → IsConfig old.sets.arities c → IsConfig old.sets.arities d → old.sets.has cond c ≡ old.sets.has cond d
      → (old.sets.has cond c ≡ true → IsSameCall old.sets old.names c d was.top.work) → IsAlikeIn old.sets c d span was
      → IsAlikeIn st.sets c d span now × (st.sets.has uncalled c ≡ st.sets.has uncalled d)
  pub rest : (c : List ℕ) → IsConfig old.sets.arities c → HasLast old.sets st.sets was.top.work now.top.work c
