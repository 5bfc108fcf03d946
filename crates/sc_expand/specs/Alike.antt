-- Configurations that have the same of what is expanded: both have each part of it, or neither.
use Rattle.std.specs.Prelude.{◌≡◌, ℕ, zero, suc, ◌-◌, ◌<◌, IsTrue, true, List, [], All, Option, None, Result, Some, drop, length, map, slice_get, take}
use Rattle.c11_macros.specs.Defines.{is_function_like}
use Rattle.c11_macros.specs.Expansion.{Expands, is_looked_up}
use Rattle.c11_macros.specs.Hidden as model
use Rattle.c11_macros.specs.Hidden.{Failure, Provenance}
use Rattle.c11_macros.specs.Macros.{Definition, Macros}
use Rattle.c11_macros.specs.Text.{place_alone, unhidden}
use Rattle.c11_macros.specs.Trace.{Agree, trace}
use Rattle.sc_base.specs.declared.id.Cond.{Cond}
use Rattle.sc_expand.specs.declared.call.Call.{Call}
use Rattle.sc_expand.specs.declared.expansion.Expansion.{Expansion}
use Rattle.sc_expand.specs.declared.frame.Enclosing.{Enclosing}
use Rattle.sc_expand.specs.declared.frame.Frame.{Frame}
use Rattle.sc_expand.specs.declared.refusals.Refusals.{Refusals}
use Rattle.sc_expand.specs.declared.taking.Taken.{Taken}
use Rattle.sc_expand.specs.Having.{tokens_in}
use Rattle.sc_expand.specs.Seen.{Stores}
use Rattle.sc_hoist.specs.Alike.{AreAlike, AreAlikeFaults, IsAlike}
use Rattle.sc_hoist.specs.Calls.{call_end_at, call_places, closed}
use Rattle.sc_macro.specs.Seen.{text_of}
use Rattle.sc_model.specs.Sets.{Sets}
use Rattle.sc_model.specs.Token.{Token}
use Rattle.sc_subst.specs.declared.hidden.Hidden.{Hidden}
use Rattle.sc_subst.specs.Seen.{seen_hidden}

-- the call, and each token of its arguments that were expanded
pub record IsAlikeCall (s : Sets) (c d : List ℕ) (call : Call) : Type 0 where
  pub cond : IsAlike s c d call.cond
  pub expanded : All (AreAlike s c d) call.expanded.items

-- ---- parts of an expansion

-- The first tokens of the list on top, so many of them; the tokens put out and the faults after so
-- many others.
pub record Span : Type 0 where
  pub work : ℕ
  pub out : ℕ
  pub faults : ℕ

-- those that were not refused, and each fault after so many others
pub record AreAlikeRefusals (s : Sets) (c d : List ℕ) (others : ℕ) (r : Refusals) : Type 0 where
  pub live : IsAlike s c d r.live
  pub waiting : IsAlike s c d r.waiting
  pub faults : AreAlikeFaults s c d (drop others r.faults.items)

-- what the span has of the list on top, and each of its calls
pub record IsAlikeIn (s : Sets) (c d : List ℕ) (span : Span) (e : Expansion) : Type 0 where
  pub refusals : AreAlikeRefusals s c d span.faults e.refusals
  pub work : AreAlike s c d (take span.work e.top.work)
  pub out : AreAlike s c d (drop span.out e.top.out)
  pub calls : All (IsAlikeCall s c d) e.top.calls.items

-- what taking a token has come to
pub record IsAlikeTaken (s : Sets) (c d : List ℕ) (taken : Taken) : Type 0 where
  pub stays : IsAlike s c d taken.stays
  pub made : AreAlike s c d taken.made.items

-- the call of the name that stands first ends alike, and by the same tokens where one closes it
pub record IsSameCall (s : Sets) (names : List (List ℕ)) (c d : List ℕ) (list : List (Cond × Hidden)) : Type 0 where
  pub ends : call_end_at s names (tokens_in list) 0 c ≡ call_end_at s names (tokens_in list) 0 d
  pub places : call_end_at s names (tokens_in list) 0 c ≡ closed → call_places s names (tokens_in list) 0 c ≡ call_places s names (tokens_in list) 0 d

-- ---- all of an expansion

-- What is not looked at: so many tokens at the end of the whole list, the first tokens that were
-- put out, and the first faults.
pub record Others : Type 0 where
  pub behind : ℕ
  pub out : ℕ
  pub faults : ℕ

abbrev pub no_others : Others
no_others = record { behind = 0; out = 0; faults = 0 }

-- those of the list under which so many others lie
abbrev pub others_at : Others → ℕ → Others
others_at others zero = others
others_at others (suc n) = no_others

pub record IsAlikeFrame (s : Sets) (c d : List ℕ) (others : Others) (frame : Frame) : Type 0 where
  pub work : AreAlike s c d (take (length frame.work - others.behind) frame.work)
  pub out : AreAlike s c d (drop others.out frame.out)
  pub calls : All (IsAlikeCall s c d) frame.calls.items

pub record IsAlikeEnclosing (s : Sets) (c d : List ℕ) (others : Others) (o : Enclosing) : Type 0 where
  pub frame : IsAlikeFrame s c d others o.frame
  pub call : IsAlikeCall s c d o.call

pub record IsAlikeExpansion (s : Sets) (c d : List ℕ) (others : Others) (e : Expansion) : Type 0 where
  pub refusals : AreAlikeRefusals s c d others.faults e.refusals
  pub top : IsAlikeFrame s c d (others_at others (length e.below.items)) e.top
  pub below : (n : ℕ) (o : Enclosing) → slice_get e.below.items n ≡ Some o → IsAlikeEnclosing s c d (others_at others n) o

-- a token that the next turn takes is not one of those at the end
pub record IsFirstIn (others : Others) (e : Expansion) : Type 0 where
  pub is : (item : Cond × Hidden) → slice_get e.top.work 0 ≡ Some item → e.top.calls.items ≡ [] → (others_at others (length e.below.items)).behind < length e.top.work

-- The tables define the name alike that the next turn looks up, if it looks one up for the
-- configuration: that of the first token, where no call waits.
pub record DefineNextAlike (st : Stores) (one other : Macros) (c : List ℕ) (e : Expansion) : Type 0 where
  pub same : (item : Cond × Hidden) → slice_get e.top.work 0 ≡ Some item → e.top.calls.items ≡ [] → st.sets.has item.0.0 c ≡ true → st.sets.has e.refusals.live.0 c ≡ true
      → is_looked_up (seen_hidden st.names st.hides item.1) ≡ true → one (text_of st.names item.1.token.spelling) ≡ other (text_of st.names item.1.token.spelling)

-- a function-like macro's definition
abbrev pub IsFunctionLike : Option Definition → Type 0
IsFunctionLike None = ⊥
IsFunctionLike (Some d) = IsTrue (is_function_like d.form)

-- the next turn takes the name of a function-like macro for the configuration
pub record TakesName (st : Stores) (macros : Macros) (e : Expansion) (c : List ℕ) : Type 0 where
  pub item : Cond × Hidden
  pub first : slice_get e.top.work 0 ≡ Some item
  pub calls : e.top.calls.items ≡ []
  pub has : st.sets.has item.0.0 c ≡ true
  pub live : st.sets.has e.refusals.live.0 c ≡ true
  pub looked_up : is_looked_up (seen_hidden st.names st.hides item.1) ≡ true
  pub function : IsFunctionLike (macros (text_of st.names item.1.token.spelling))

-- where the next turn takes such a name both call it by the same tokens, or neither does
pub record CallNextAlike (st : Stores) (macros : Macros) (c d : List ℕ) (e : Expansion) : Type 0 where
  pub same : TakesName st macros e c → IsSameCall st.sets st.names c d e.top.work

-- ---- whole lists

-- the tables define the names alike that the expansion of the list with the first of them looks up
pub record DefineAlike {P : Type 0} (provenance : Provenance P) (one other : Macros) (list : List (model.Hidden P)) : Type 0 where
  pub agree : (r : Result (List (model.Hidden P)) (Failure P)) (expands : Expands provenance one list r) → Agree one other (trace expands).looked_up

-- the tables define the names alike that the expansion of the text with the first of them looks up
abbrev pub DefineTextAlike : Macros → Macros → List Token → Type 0
DefineTextAlike one other text = DefineAlike place_alone one other (map unhidden text)
