-- What configurations put out of a token that they expand alike is one element of the list.
use Rattle.std.specs.Prelude.{◌≡◌, ℕ, ◌+◌, ◌<◌, ◌++◌, true, false, List, length, map, slice_get, take, Some}
use Rattle.c11_directives.specs.Footprints.{Spot, Used}
use Rattle.c11_directives.specs.Lines.{Line}
use Rattle.c11_directives.specs.Pragmas.{is_pragma}
use Rattle.c11_directives.specs.Pre.{State}
use Rattle.c11_directives.specs.PutOut.{PutsOut}
use Rattle.c11_directives.specs.Reaches.{Moment, at_line}
use Rattle.c11_macros.specs.Hidden.{Hidden}
use Rattle.c11_macros.specs.Runs.{over}
use Rattle.c11_macros.specs.Text.{token_of}
use Rattle.sc_base.specs.declared.id.Cond.{Cond}
use Rattle.sc_base.specs.declared.place.Place as base_place
use Rattle.sc_base.specs.declared.token.Token as base_token
use Rattle.sc_base.specs.Seen.{seen_place}
use Rattle.sc_expand.specs.Moved.{moved}
use Rattle.sc_expand.specs.Seen.{provenance_of}
use Rattle.sc_expand.specs.Spans.{ComesAt, IsSpan}
use Rattle.sc_expand.specs.Stops.{HasConfigs}
use Rattle.sc_guarded.specs.Items.{items_at}
use Rattle.sc_model.specs.Sets.{IsConfig, Sets}
use Rattle.sc_model.specs.Token.{Place, Token}
use Rattle.sc_prep.specs.Closes.{has_none}
use Rattle.sc_prep.specs.Footprints.{any_machine}
use Rattle.sc_prep.specs.Machine.{Machine, acts}
pub use Rattle.sc_prep.specs.OneElement.{HaveOne, IsThin}
use Rattle.sc_prep.specs.Pragmas.{Awaited, AwaitsAt, awaits, no_operator, outside}
use Rattle.sc_prep.specs.Simulates.{Simulates}
use Rattle.sc_prep.specs.declared.walk.Walk.{Walk}
use Rattle.sc_subst.specs.Seen.{seen_hidden}
use Rattle.sc_table.specs.Table.{macros_at}

-- the tokens that an expansion made
abbrev pub tokens_made : (files : List (List ℕ)) → List (Hidden base_place.Place) → List Token
tokens_made files made = map token_of (map (moved (seen_place files)) made)

-- ---- on the way

module _ (s : Sets) (names files : List (List ℕ)) (walk : Walk) where
  -- the configuration comes to what is gathered at this index
  abbrev pub ComesTo : ℕ → List ℕ → Type 0
  ComesTo at c = ComesAt (seen_hidden names walk.runs.sets) (provenance_of files) (macros_at s names walk.table) s walk.runs.gathered at c

  abbrev pub AreSpan : (at size : ℕ) → (c d : List ℕ) → Type 0
  AreSpan at size c d = IsSpan (seen_hidden names walk.runs.sets) (provenance_of files) (macros_at s names walk.table) s walk.runs.gathered at size c d

  -- That becomes tokens, of which the one with this index will be put out as the one with this
  -- number.
  pub record WillPut {at : ℕ} {c : List ℕ} (x : ComesTo at c) (index number : ℕ) : Type 0 where
    pub after : List (Hidden base_place.Place)
    pub ends : x.end ≡ over after
    pub made : Hidden base_place.Place
    pub stands : slice_get x.done index ≡ Some made
    pub awaited : Awaited
    pub awaits_at : AwaitsAt s files walk.runs.pragmas c awaited
    pub free : awaits awaited (tokens_made files (x.before ++ take index x.done)) ≡ no_operator
    pub outside_is : is_pragma (token_of (moved (seen_place files) made)) ≡ false
    pub number_is : number ≡ length (items_at s walk.prepared.list c) + length (outside awaited (tokens_made files (x.before ++ take index x.done)))

  -- The one has it as the n-th and the other as the m-th element that it has of the list, or will
  -- have it, in one element. Or a fault holds one of them.
  pub data Shares (c d : List ℕ) (index n m : ℕ) : Type 0 where
    put : HaveOne s walk.prepared.list c d n m → Shares c d index n m
    waits : (at size : ℕ) (span : AreSpan at size c d) → at + size < length walk.runs.gathered → WillPut span.one index n → WillPut span.other index m → Shares c d index n m
    one_held : (has_none s walk.runs.held.items c ≡ true → ⊥) → Shares c d index n m
    other_held : (has_none s walk.runs.held.items d ≡ true → ⊥) → Shares c d index n m

-- From one walk to the next more is put out, and what two configurations share whose machines are
-- as this says they share, if neither is refused.
pub record KeepsSharesOf (from : Machine → Type 0) (files names : List (List ℕ)) (old : Sets) (walk : Walk) (more_files more : List (List ℕ)) (new : Sets) (next : Walk) : Type 0 where
  pub longer : (behind : List (Cond × base_token.Token)) × (next.prepared.list ≡ walk.prepared.list ++ behind)
  pub at : (c d : List ℕ) → IsConfig old.arities c → IsConfig old.arities d → new.has next.prepared.live.0 c ≡ true → new.has next.prepared.live.0 d ≡ true
      → (k l : Machine) → Simulates old names files walk c k → Simulates old names files walk d l → from k → from l
      → (index n m : ℕ) → Shares old names files walk c d index n m → Shares new more more_files next c d index n m

-- whichever machines they have
abbrev pub KeepsShares : (files names : List (List ℕ)) (old : Sets) (walk : Walk) (more_files more : List (List ℕ)) (new : Sets) (next : Walk) → Type 0
KeepsShares = KeepsSharesOf any_machine

-- the same, where there are no more configurations than the limit
abbrev pub SharesWithin : (limit : ℕ) (files names : List (List ℕ)) (old : Sets) (walk : Walk) (more_files more : List (List ℕ)) (new : Sets) (next : Walk) → Type 0
SharesWithin limit files names old walk more_files more new next = (HasConfigs old.arities (limit + 1) → ⊥) → KeepsShares files names old walk more_files more new next

-- Two configurations put out a token of one footprint, each at a line to which its machine comes
-- behind the same #includes, and neither is refused. Then this holds of their numbers.
abbrev pub WherePutOut : (files names : List (List ℕ)) (old : Sets) (walk : Walk) (from : Machine → Type 0) (comes : List ℕ → Machine → List Place → Moment → Type 0) (new : Sets) (next : Walk)
    (holds : (c d : List ℕ) (index n m : ℕ) → Type 0) → Type 0
WherePutOut files names old walk from comes new next holds =
    (c d : List ℕ) → IsConfig old.arities c → IsConfig old.arities d → new.has next.prepared.live.0 c ≡ true → new.has next.prepared.live.0 d ≡ true
    → (k l : Machine) → Simulates old names files walk c k → Simulates old names files walk d l → from k → from l
    → (chain : List Place) (line other : Line) (s t : State) (f : Spot × Used) (index n m : ℕ) → comes c k chain (at_line line s) → comes d l chain (at_line other t)
    → PutsOut s line f index n → PutsOut t other f index m → holds c d index n m

-- of a line of text that both take
abbrev pub TextShares : (files names : List (List ℕ)) (old : Sets) (walk : Walk) (line : Line) (more : List (List ℕ)) (new : Sets) (next : Walk) → Type 0
TextShares files names old walk line more new next =
    (c d : List ℕ) → IsConfig old.arities c → IsConfig old.arities d → new.has next.prepared.live.0 c ≡ true → new.has next.prepared.live.0 d ≡ true
    → (k l : Machine) → Simulates old names files walk c k → Simulates old names files walk d l → acts k ≡ true → acts l ≡ true
    → (f : Spot × Used) (index n m : ℕ) → PutsOut k.state line f index n → PutsOut l.state line f index m → Shares new more files next c d index n m
