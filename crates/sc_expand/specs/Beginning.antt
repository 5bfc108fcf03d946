-- A call that waits for its arguments, as it begins.
use Rattle.std.specs.Prelude.{◌≡◌, ℕ, List, [], true, is_ok, map, slice_index_or}
use Rattle.c11_macros.specs.Hidden as model
use Rattle.c11_macros.specs.Hidden.{HideSet, Provenance, meet, with_name}
use Rattle.c11_macros.specs.Macros.{Form}
use Rattle.sc_model.specs.Token.{Item}
use Rattle.c11_macros.specs.Substitution.{argument, list_slots, substituted, wanted_of}
use Rattle.sc_base.specs.declared.id.Cond.{Cond}
use Rattle.sc_base.specs.declared.id.Name.{Name}
use Rattle.sc_base.specs.declared.place.Place.{Place}
use Rattle.sc_expand.specs.declared.call.Call.{Call}
use Rattle.sc_expand.specs.declared.call.Template.{Template}
use Rattle.sc_expand.specs.declared.call.Template.TheVariants.{Refused}
use Rattle.sc_expand.specs.declared.call.Wanted.{Wanted}
use Rattle.sc_expand.specs.Seen.{seen_template, stores, waiting_at}
use Rattle.sc_model.specs.declared.cause.Cause.{Cause}
use Rattle.sc_model.specs.declared.cause.Cause.TheVariants.{BadStringize}
use Rattle.sc_model.specs.Sets.{Sets}
use Rattle.sc_subst.specs.declared.stop.SubstStop.{SubstStop}
use Rattle.sc_subst.specs.declared.stop.SubstStop.TheVariants.{Fault}
use Rattle.sc_subst.specs.declared.hidden.Hidden.{Hidden}
use Rattle.sc_subst.specs.Halves.{completed}
use Rattle.sc_subst.specs.Parts.{seen_arguments}
use Rattle.sc_subst.specs.Seen.{seen_hidden}

-- the token of this index, or the other one where the list is too short
abbrev pub token_at : List (Cond × Hidden) → Cond × Hidden → ℕ → Hidden
token_at list other place = (slice_index_or list place other).1

-- a parameter and its argument
abbrev pub tokens_of : Wanted → ℕ × List Hidden
tokens_of w = (w.parameter, w.tokens)

abbrev pub with_argument : List (List Hidden) → ℕ → ℕ × List Hidden
with_argument raw n = (n, argument raw n)

-- at a name at this place no # of the list fails, and whatever the arguments expand to, the
-- template makes its replacement with them
pub record IsTemplateOf (names : List (List ℕ)) (sets : List (List Name)) (form : Form) (items : List Item) (arguments : List (List (model.Hidden Place))) (place : Place) (template : Template) : Type 0 where
  pub stringized : (head : model.Hidden Place) → head.place ≡ place → is_ok (list_slots head arguments form items) ≡ true
  pub completes : (s : Sets) (head : model.Hidden Place) (expanded : List (List (model.Hidden Place))) (provenance : Provenance Place) (hidden : HideSet) → head.place ≡ place
      → substituted provenance form items head arguments expanded hidden ≡ completed provenance head hidden expanded (seen_template (stores s names sets) place template)

-- a ## fails, and no #
pub record IsRefused (stop : SubstStop) (template : Template) : Type 0 where
  pub cause : Cause
  pub is : stop ≡ Fault cause
  pub made : template ≡ Refused cause
  pub no_hash : cause ≡ BadStringize → ⊥

-- the call of the name with these arguments, none of which is expanded yet
pub record Begins (names : List (List ℕ)) (sets : List (List Name)) (form : Form) (items : List Item) (cond : Cond) (head close : Hidden) (raw : List (List Hidden)) (call : Call) : Type 0 where
  pub under : call.cond ≡ cond
  pub of_name : call.head ≡ head
  pub template : IsTemplateOf names sets form items (seen_arguments names sets raw) head.token.place call.template
  pub waits : (s : Sets) (c : List ℕ) → waiting_at (stores s names sets) call c ≡ record {
    head = seen_hidden names sets head;
    template = seen_template (stores s names sets) head.token.place call.template;
    wanted = map (λ n. (n, argument (seen_arguments names sets raw) n)) (wanted_of form items);
    expanded = map (λ a. []) raw;
    names = with_name (meet (seen_hidden names sets head).hide (seen_hidden names sets close).hide) (seen_hidden names sets head).spelling;
  }
