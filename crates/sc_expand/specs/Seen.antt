-- What a configuration has of lists that are expanded for all configurations at once.
use Rattle.std.specs.Prelude.{ℕ, ◌<◌, List, [], ◌∷◌, All, map, reverse, Result, Ok, Err, if◌then◌else◌}
use Rattle.c11_macros.specs.Hidden as model
use Rattle.c11_macros.specs.Hidden.{Failure, Provenance}
use Rattle.c11_macros.specs.Substitution.{Slot}
use Rattle.sc_base.specs.declared.fault.Fault.{Fault}
use Rattle.sc_base.specs.declared.id.Cond.{Cond}
use Rattle.sc_base.specs.declared.id.Name.{Name}
use Rattle.sc_base.specs.declared.place.Place.{Place}
use Rattle.sc_base.specs.Seen.{seen_place}
use Rattle.sc_expand.specs.Plain.{State, Waiting, scanning, waiting}
use Rattle.sc_expand.specs.declared.call.Call.{Call}
use Rattle.sc_expand.specs.declared.call.Template.{Template}
use Rattle.sc_expand.specs.declared.call.Template.TheVariants.{Parts, Refused}
use Rattle.sc_expand.specs.declared.call.Wanted.{Wanted}
use Rattle.sc_expand.specs.declared.frame.Enclosing.{Enclosing}
use Rattle.sc_expand.specs.declared.frame.Frame.{Frame}
use Rattle.sc_expand.specs.declared.refusals.Refusals.{Refusals}
use Rattle.sc_guarded.specs.Items.{faults_at, items_at}
use Rattle.sc_model.specs.Growth.{Extends}
use Rattle.sc_model.specs.Sets.{Sets, IsCond, Keeps}
use Rattle.sc_subst.specs.declared.hidden.Hidden.{Hidden}
use Rattle.sc_subst.specs.declared.part.Part.{Part}
use Rattle.sc_subst.specs.declared.part.Part.TheVariants as part
use Rattle.sc_subst.specs.Parts.{seen_list, seen_part}
use Rattle.sc_subst.specs.Seen.{IsHeldHidden, IsHeldSet, hide_at, seen_hidden}

-- the stores that ids are of: conditions, texts, and hide sets
pub record Stores : Type 0 where
  pub sets : Sets
  pub names : List (List ℕ)
  pub hides : List (List Name)

abbrev pub stores : Sets → List (List ℕ) → List (List Name) → Stores
stores sets names hides = record { sets = sets; names = names; hides = hides }

-- each id means what it meant
pub record Grows (old new : Stores) : Type 0 where
  pub sets : Keeps old.sets new.sets
  pub names : Extends old.names new.names
  pub hides : Extends old.hides new.hides

-- a token keeps its place, which the table of file names tells
abbrev pub provenance_of : List (List ℕ) → Provenance Place
provenance_of files = record { place = seen_place files; mark = λ p. p }

-- ---- lists

-- the tokens of a configuration
abbrev pub seen_at : Stores → List (Cond × Hidden) → List ℕ → List (model.Hidden Place)
seen_at st list c = map (seen_hidden st.names st.hides) (items_at st.sets list c)

-- the stores hold the token, and the table of file names its file
pub record IsHeldToken (st : Stores) (files : ℕ) (h : Hidden) : Type 0 where
  pub held : IsHeldHidden st.names st.hides h
  pub file : h.token.place.file.0 < files

pub record AreHeld (st : Stores) (files : ℕ) (list : List (Cond × Hidden)) : Type 0 where
  pub own : All (λ item. IsCond st.sets item.0.0) list
  pub held : All (λ item. IsHeldToken st files item.1) list

-- ---- calls

abbrev pub seen_template : Stores → Place → Template → Result (List (Slot Place)) (Failure Place)
seen_template st place (Parts parts) = Ok (map (seen_part st.names st.hides) parts.items)
seen_template st place (Refused cause) = Err (record { cause = cause; place = place })

abbrev pub seen_wanted : Stores → Wanted → ℕ × List (model.Hidden Place)
seen_wanted st w = (w.parameter, seen_list st.names st.hides w.tokens)

-- the call as it waits at a configuration; its next argument stands last
abbrev pub waiting_at : Stores → Call → List ℕ → Waiting Place
waiting_at st call c = record {
  head = seen_hidden st.names st.hides call.head;
  template = seen_template st call.head.token.place call.template;
  wanted = map (seen_wanted st) (reverse call.wanted.items);
  expanded = map (λ list. seen_at st list c) call.expanded.items;
  names = hide_at st.names st.hides call.hide.0;
}

abbrev pub calls_at : Stores → List Call → List ℕ → List (Waiting Place)
calls_at st [] c = []
calls_at st (call ∷ calls) c = if st.sets.has call.cond.0 c then waiting_at st call c ∷ calls_at st calls c else calls_at st calls c

-- the stores hold a part of a template
abbrev pub IsHeldPartIn : Stores → ℕ → Part → Type 0
IsHeldPartIn st files (part.Token t) = IsHeldToken st files t
IsHeldPartIn st files (part.Argument parameter space) = Unit {0}

abbrev pub IsHeldTemplate : Stores → ℕ → Template → Type 0
IsHeldTemplate st files (Parts parts) = All (IsHeldPartIn st files) parts.items
IsHeldTemplate st files (Refused cause) = Unit {0}

pub record IsHeldCall (st : Stores) (files : ℕ) (call : Call) : Type 0 where
  pub own : IsCond st.sets call.cond.0
  pub head : IsHeldToken st files call.head
  pub hide : IsHeldSet st.names st.hides call.hide.0
  pub template : IsHeldTemplate st files call.template
  pub wanted : All (λ w. All (IsHeldToken st files) w.tokens) call.wanted.items
  pub expanded : All (AreHeld st files) call.expanded.items

-- ---- frames

-- what a configuration has of a frame: what was put out, what is left, and the calls that wait
pub record View : Type 0 where
  pub out : List (model.Hidden Place)
  pub work : List (model.Hidden Place)
  pub calls : List (Waiting Place)

abbrev pub view_at : Stores → Frame → List ℕ → View
view_at st frame c = record { out = seen_at st frame.out c; work = seen_at st frame.work c; calls = calls_at st frame.calls.items c }

abbrev pub state_by : (out work : List (model.Hidden Place)) → List (Waiting Place) → State Place
state_by out work [] = scanning out work
state_by out work (w ∷ ws) = waiting out work w

abbrev pub state_of : View → State Place
state_of v = state_by v.out v.work v.calls

pub record IsHeldFrame (st : Stores) (files : ℕ) (frame : Frame) : Type 0 where
  pub work : AreHeld st files frame.work
  pub out : AreHeld st files frame.out
  pub calls : All (IsHeldCall st files) frame.calls.items

pub record IsHeldEnclosing (st : Stores) (files : ℕ) (e : Enclosing) : Type 0 where
  pub frame : IsHeldFrame st files e.frame
  pub call : IsHeldCall st files e.call

-- ---- faults

abbrev pub seen_failure : Fault → Failure Place
seen_failure f = record { cause = f.cause; place = f.place }

abbrev pub failures_at : Sets → List Fault → List ℕ → List (Failure Place)
failures_at s faults c = map seen_failure (faults_at s faults c)

pub record IsHeldRefusals (s : Sets) (files : ℕ) (r : Refusals) : Type 0 where
  pub live : IsCond s r.live.0
  pub waiting : IsCond s r.waiting.0
  pub own : All (λ f. IsCond s f.cond.0) r.faults.items
  pub placed : All (λ f. f.place.file.0 < files) r.faults.items
