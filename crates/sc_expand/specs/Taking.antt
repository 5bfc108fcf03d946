-- What taking the first token of a list comes to at a configuration.
use Rattle.std.specs.Prelude.{◌≡◌, ◌⊎◌, Bool, true, false, ℕ, List, [], ◌∷◌, ◌++◌, drop, length, map, Option, Some, Result, Ok, Err, slice_get}
use Rattle.std.specs.Option.{option_map}
use Rattle.std.specs.declared.rc.Rc.{Rc}
use Rattle.std.proofs.Common.{Global}
use Rattle.sc_guarded.specs.Items.{items_at}
use Rattle.sc_macro.specs.declared.definition.Definition as declared
use Rattle.sc_macro.specs.Seen.{seen_definition, text_of}
use Rattle.sc_subst.specs.Seen.{seen_hidden}
use Rattle.c11_macros.specs.Expansion.{case_of, called, is_looked_up, object_result, replaced, stays}
use Rattle.c11_macros.specs.Hidden as model
use Rattle.c11_macros.specs.Hidden.{Failure, Provenance}
use Rattle.c11_macros.specs.Macros.{Definition, Macros}
use Rattle.c11_macros.specs.Runs.{is_last_name}
use Rattle.c11_macros.specs.Substitution.{Slot}
use Rattle.sc_base.specs.declared.id.Cond.{Cond}
use Rattle.sc_base.specs.declared.place.Place.{Place}
use Rattle.sc_expand.specs.declared.expansion.Expansion.{Expansion}
use Rattle.sc_expand.specs.declared.taking.Taken.{Taken}
use Rattle.sc_expand.specs.Alike.{IsAlikeIn, IsAlikeTaken, IsFunctionLike, IsSameCall, Span}
use Rattle.sc_hoist.specs.Alike.{AreAlike}
use Rattle.sc_expand.specs.Gather.{IsEnded, without_call}
use Rattle.sc_expand.specs.Having.{HasLast, has_each}
use Rattle.sc_expand.specs.Machine.{IsHeldExpansion, KeepsLists, at}
use Rattle.sc_expand.specs.Plain.{IsTemplate, gathered}
use Rattle.sc_expand.specs.Seen.{AreHeld, Stores, provenance_of, seen_at, state_of}
use Rattle.sc_expand.specs.Turn.{At, End, EndsBy, fails, waits, with_end}
use Rattle.sc_expand.specs.Restricted.{IsPushed}
use Rattle.sc_expand.specs.Waiting.{KeepsFirst}
use Rattle.sc_model.specs.Sets.{Sets, IsCond, IsConfig}
use Rattle.sc_subst.specs.declared.hidden.Hidden.{Hidden}

-- the first token of the list is the configuration's
abbrev pub has_first : Sets → List (Cond × Hidden) → List ℕ → Bool
has_first s [] c = false
has_first s (item ∷ items) c = s.has item.0.0 c

-- the configuration, whether it has the first token still, whether the token stays, and what
-- replaces it
pub record Step : Type 0 where
  pub at : At
  pub first : Bool
  pub stays : Bool
  pub made : List (model.Hidden Place)

abbrev pub step_at : Stores → Expansion → Taken → List ℕ → Step
step_at st e taken c = record { at = at st e c; first = has_first st.sets e.top.work c; stays = st.sets.has taken.stays.0 c; made = seen_at st taken.made.items c }

-- nothing is known of the token yet
abbrev pub untaken : Stores → Expansion → List ℕ → Step
untaken st e c = record { at = at st e c; first = has_first st.sets e.top.work c; stays = false; made = [] }

pub record IsHeldTaken (st : Stores) (files : ℕ) (taken : Taken) : Type 0 where
  pub stays : IsCond st.sets taken.stays.0
  pub made : AreHeld st files taken.made.items

-- the token stands first at a configuration that takes part, no call waits, and nothing is known of
-- the token yet
pub record IsBegun (t : model.Hidden Place) (a : Step) : Type 0 where
  pub live : a.at.live ≡ true
  pub rest : List (model.Hidden Place)
  pub work : a.at.view.work ≡ t ∷ rest
  pub calls : a.at.view.calls ≡ []
  pub first : a.first ≡ true
  pub stays : a.stays ≡ false
  pub made : a.made ≡ []

-- What taking the token comes to, with this behind it: it stays, is replaced, is taken out with its
-- call, or is refused.
pub data Comes (provenance : Provenance Place) (macros : Macros) (t : model.Hidden Place) (rest : List (model.Hidden Place)) (a : At) (b : Step) : Type 0 where
  kept : case_of macros t rest ≡ stays → (a.whole ≡ true → is_last_name macros t rest ≡ false) → b ≡ record { at = a; first = true; stays = true; made = [] } → Comes provenance macros t rest a b
  put : (d : Definition) (body : List (model.Hidden Place)) → case_of macros t rest ≡ replaced d → object_result provenance d t ≡ Ok body
      → b ≡ record { at = a; first = true; stays = false; made = body } → Comes provenance macros t rest a b
  taken_out : (d : Definition) (arguments : List (List (model.Hidden Place))) (close : model.Hidden Place) (after : List (model.Hidden Place)) (template : Result (List (Slot Place)) (Failure Place))
      → case_of macros t rest ≡ called d arguments close after → IsTemplate provenance d t arguments template
      → b ≡ record { at = without_call a (gathered provenance d t arguments close template) after; first = false; stays = false; made = [] } → Comes provenance macros t rest a b
  ended : (end : End) → EndsBy provenance macros a.whole (state_of a.view) end → IsEnded a b.at end → (end ≡ waits → (b.stays ≡ false) × (b.made ≡ [])) → Comes provenance macros t rest a b

-- an object-like macro's name is replaced, or refused
pub data Replaces (r : Result (List (model.Hidden Place)) (Failure Place)) (a b : At) (before after : List (model.Hidden Place)) : Type 0 where
  put_in : (body : List (model.Hidden Place)) → r ≡ Ok body → b ≡ a → after ≡ before ++ body → Replaces r a b before after
  refused : (failure : Failure Place) → r ≡ Err failure → b.live ≡ false → b.ends ≡ with_end a.ends (fails failure) → Replaces r a b before after

-- the definition of a function-like macro
abbrev pub IsFunction : List (List ℕ) → Option (Rc declared.Definition Global) → Type 0
IsFunction names defined = IsFunctionLike (option_map (λ shared. seen_definition names shared.value) defined)

-- the configuration has a part that defines a function-like macro
pub record TakesPart (s : Sets) (names : List (List ℕ)) (parts : List (Cond × Option (Rc declared.Definition Global))) (c : List ℕ) : Type 0 where
  pub part : Cond × Option (Rc declared.Definition Global)
  pub among : (n : ℕ) × (slice_get parts n ≡ Some part)
  pub has : s.has part.0.0 c ≡ true
  pub function : IsFunction names part.1

-- The configuration has lost its first items, and none where others are made of the name.
pub record HasTaken (old new : Sets) (before after put : List (Cond × Hidden)) (c : List ℕ) : Type 0 where
  pub rest : HasLast old new before after c
  pub made : (items_at new put c ≡ []) ⊎ (has_each new after c ≡ has_each old before c)

-- The name that stands first was taken in the configurations of a condition, all of which define it
-- so; each other is as it was.
pub record IsTaken (files : List (List ℕ)) (old st : Stores) (was now : Expansion) (before after : Taken) (head : Hidden) (cond : ℕ) (defined : Option Definition) : Type 0 where
  pub held : IsHeldExpansion st (length files) now
  pub taken : IsHeldTaken st (length files) after
  pub lists : KeepsLists was now
  pub comes : (c : List ℕ) (macros : Macros) (rest : List (model.Hidden Place)) → IsConfig old.sets.arities c → old.sets.has cond c ≡ true → (at old was c).view.work ≡ seen_hidden old.names old.hides head ∷ rest
      → macros (text_of old.names head.token.spelling) ≡ defined → Comes (provenance_of files) macros (seen_hidden old.names old.hides head) rest (at old was c) (step_at st now after c)
  pub others : (c : List ℕ) → IsConfig old.sets.arities c → old.sets.has cond c ≡ false → step_at st now after c ≡ step_at old was before c
  pub others_each : (c : List ℕ) → IsConfig old.sets.arities c → old.sets.has cond c ≡ false → has_each st.sets now.top.work c ≡ has_each old.sets was.top.work c
  pub alike : (c d : List ℕ) (span : Span) → IsConfig old.sets.arities c → IsConfig old.sets.arities d → old.sets.has cond c ≡ old.sets.has cond d
      → (old.sets.has cond c ≡ true → IsFunctionLike defined → IsSameCall old.sets old.names c d was.top.work) → IsAlikeTaken old.sets c d before
      → IsAlikeIn old.sets c d span was → IsAlikeIn st.sets c d span now × IsAlikeTaken st.sets c d after
  pub rest : (c : List ℕ) → IsConfig old.sets.arities c → HasTaken old.sets st.sets was.top.work now.top.work after.made.items c

-- An object-like macro's name was replaced in the configurations of a condition, or refused; each
-- other is as it was.
pub record HasPut (files : List (List ℕ)) (old st : Stores) (was now : Expansion) (before after : List (Cond × Hidden)) (head : Hidden) (cond : ℕ) (definition : Definition) : Type 0 where
  pub held : IsHeldExpansion st (length files) now
  pub made : AreHeld st (length files) after
  pub below : now.below ≡ was.below
  pub rest : now.rest ≡ was.rest
  pub top : now.top ≡ was.top
  pub replaces : (c : List ℕ) → IsConfig old.sets.arities c → old.sets.has cond c ≡ true
      → Replaces (object_result (provenance_of files) definition (seen_hidden old.names old.hides head)) (at old was c) (at st now c) (seen_at old before c) (seen_at st after c)
  pub others : (c : List ℕ) → IsConfig old.sets.arities c → old.sets.has cond c ≡ false → (at st now c ≡ at old was c) × (seen_at st after c ≡ seen_at old before c)
  pub alike : (c d : List ℕ) (span : Span) → IsConfig old.sets.arities c → IsConfig old.sets.arities d → old.sets.has cond c ≡ old.sets.has cond d → AreAlike old.sets c d before
      → IsAlikeIn old.sets c d span was → IsAlikeIn st.sets c d span now × AreAlike st.sets c d after

-- the name is no longer first: it was put out where it stays, and what replaces it is first
pub record HasPutOut (old s : Sets) (taken : Taken) (token : Hidden) (was now : Expansion) : Type 0 where
  pub rest : KeepsFirst old s was.refusals.waiting.0 was.below.items was.top.work was.rest now.rest
  pub refusals : now.refusals ≡ was.refusals
  pub below : now.below ≡ was.below
  pub calls : now.top.calls ≡ was.top.calls
  pub work : now.top.work ≡ taken.made.items ++ drop 1 was.top.work
  pub out : IsPushed s taken.stays token was.top.out now.top.out

-- Of the parts of a look-up these were taken: a configuration of one of them has come to something,
-- and each other is as it was.
pub record AreTaken (files : List (List ℕ)) (old st : Stores) (was now : Expansion) (before after : Taken) (head : Hidden) (parts : List (Cond × Option (Rc declared.Definition Global))) : Type 0 where
  pub held : IsHeldExpansion st (length files) now
  pub taken : IsHeldTaken st (length files) after
  pub lists : KeepsLists was now
  pub comes : (c : List ℕ) (macros : Macros) (rest : List (model.Hidden Place)) → IsConfig old.sets.arities c → (at old was c).view.work ≡ seen_hidden old.names old.hides head ∷ rest
      → map (option_map (λ shared. seen_definition old.names shared.value)) (items_at old.sets parts c) ≡ macros (text_of old.names head.token.spelling) ∷ []
      → Comes (provenance_of files) macros (seen_hidden old.names old.hides head) rest (at old was c) (step_at st now after c)
  pub others : (c : List ℕ) → IsConfig old.sets.arities c → items_at old.sets parts c ≡ [] → step_at st now after c ≡ step_at old was before c
  pub others_each : (c : List ℕ) → IsConfig old.sets.arities c → items_at old.sets parts c ≡ [] → has_each st.sets now.top.work c ≡ has_each old.sets was.top.work c
  pub alike : (c d : List ℕ) (span : Span) → IsConfig old.sets.arities c → IsConfig old.sets.arities d → AreAlike old.sets c d parts
      → (TakesPart old.sets old.names parts c → IsSameCall old.sets old.names c d was.top.work) → IsAlikeTaken old.sets c d before
      → IsAlikeIn old.sets c d span was → IsAlikeIn st.sets c d span now × IsAlikeTaken st.sets c d after
  pub rest : (c : List ℕ) → IsConfig old.sets.arities c → HasTaken old.sets st.sets was.top.work now.top.work after.made.items c

-- The token that stands first was taken in the configurations of a condition, each as its table
-- defines it, and nothing was known of it before; each other is as it was.
pub record Takes (files : List (List ℕ)) (macros : List ℕ → Macros) (old st : Stores) (was now : Expansion) (after : Taken) (head : Hidden) (cond : ℕ) : Type 0 where
  pub held : IsHeldExpansion st (length files) now
  pub taken : IsHeldTaken st (length files) after
  pub lists : KeepsLists was now
  pub comes : (c : List ℕ) (table : Macros) (rest : List (model.Hidden Place)) → IsConfig old.sets.arities c → old.sets.has cond c ≡ true → (at old was c).view.work ≡ seen_hidden old.names old.hides head ∷ rest
      → table (text_of old.names head.token.spelling) ≡ macros c (text_of old.names head.token.spelling)
      → Comes (provenance_of files) table (seen_hidden old.names old.hides head) rest (at old was c) (step_at st now after c)
  pub others : (c : List ℕ) → IsConfig old.sets.arities c → old.sets.has cond c ≡ false → step_at st now after c ≡ untaken old was c
  pub rest : (c : List ℕ) → IsConfig old.sets.arities c → HasTaken old.sets st.sets was.top.work now.top.work after.made.items c
  pub alike : (c d : List ℕ) (span : Span) → IsConfig old.sets.arities c → IsConfig old.sets.arities d → old.sets.has cond c ≡ old.sets.has cond d
      → (old.sets.has cond c ≡ true → is_looked_up (seen_hidden old.names old.hides head) ≡ true → IsFunctionLike (macros c (text_of old.names head.token.spelling)) → IsSameCall old.sets old.names c d was.top.work)
      → (old.sets.has cond c ≡ true → is_looked_up (seen_hidden old.names old.hides head) ≡ true → macros c (text_of old.names head.token.spelling) ≡ macros d (text_of old.names head.token.spelling))
      → IsAlikeIn old.sets c d span was → IsAlikeIn st.sets c d span now × IsAlikeTaken st.sets c d after
