-- The call of a name: what follows the name, on one configuration's list (C11 6.10.3p10).
use Rattle.std.specs.Prelude.{◌≡◌, ℕ, zero, suc, ◌+◌, Bool, true, false, List, [], ◌∷◌, length, codes, map, take, drop, slice_get, Option, Some, None, if◌then◌else◌}
use Rattle.std.specs.Option.{option_map}
use Rattle.c11_macros.specs.Call.{Call, Role, opening, closing, comma, other, role_of}
use Rattle.c11_macros.specs.Hidden.{Hidden}
use Rattle.sc_base.specs.declared.id.Cond.{Cond}
use Rattle.sc_base.specs.declared.token.Token.{Token}
use Rattle.sc_base.specs.Seen.{text_at}
use Rattle.sc_guarded.specs.Items.{items_at}
use Rattle.sc_hoist.specs.declared.branch.Branch.{Branch}
use Rattle.sc_hoist.specs.declared.branch.Ends.{Ends}
use Rattle.sc_hoist.specs.declared.branch.Ends.TheVariants as ends
use Rattle.sc_hoist.specs.Places.{places_from}
use Rattle.sc_model.specs.Bytes.{same_bytes}
use Rattle.sc_model.specs.Sets.{Sets}

-- One token of a call, at a depth of inner parentheses. In what follows go finds the closing one.
abbrev pub closing_step : Role → ℕ → (ℕ → Option ℕ) → Option ℕ
closing_step closing zero go = Some 0
closing_step closing (suc depth) go = option_map suc (go depth)
closing_step opening depth go = option_map suc (go (suc depth))
closing_step comma depth go = option_map suc (go depth)
closing_step other depth go = option_map suc (go depth)

-- the index of the parenthesis that closes a call whose opening one stands before these spellings
abbrev pub closing_at : ℕ → List (List ℕ) → Option ℕ
closing_at depth [] = None
closing_at depth (t ∷ ts) = closing_step (role_of t) depth (λ d. closing_at d ts)

-- how a call goes on behind its name
pub data CallEnd : Type 0 where
  -- a parenthesis opens it and one closes it
  closed : CallEnd
  -- a parenthesis opens it, and none closes it
  still : CallEnd
  -- another token follows the name
  bare : CallEnd
  -- no token follows the name
  alone : CallEnd

abbrev pub opened_end : Option ℕ → CallEnd
opened_end None = still
opened_end (Some index) = closed

abbrev pub call_end : List (List ℕ) → CallEnd
call_end [] = alone
call_end (t ∷ ts) = if same_bytes t (codes "(") then opened_end (closing_at 0 ts) else bare

-- how many of n tokens behind its opening parenthesis are the call's
abbrev pub opened_length : ℕ → Option ℕ → ℕ
opened_length n None = n
opened_length n (Some index) = suc index

-- how many of the tokens behind the name are the call's, its parentheses included
abbrev pub call_length : List (List ℕ) → ℕ
call_length [] = 0
call_length (t ∷ ts) = if same_bytes t (codes "(") then suc (opened_length (length ts) (closing_at 0 ts)) else 0

abbrev pub is_end : CallEnd → CallEnd → Bool
is_end closed closed = true
is_end still still = true
is_end bare bare = true
is_end alone alone = true
is_end _ _ = false

abbrev pub ends_of : CallEnd → Ends
ends_of closed = ends.Closed
ends_of still = ends.Still
ends_of bare = ends.NoCall
ends_of alone = ends.NoCall

-- the spellings of the items that the configuration has
abbrev pub spelled_at : Sets → List (List ℕ) → List (Cond × Token) → List ℕ → List (List ℕ)
spelled_at s names items c = map (λ t. text_at names t.spelling.0) (items_at s items c)

-- how the call of the name at this index goes on for the configuration
abbrev pub call_end_at : Sets → List (List ℕ) → List (Cond × Token) → ℕ → List ℕ → CallEnd
call_end_at s names items at c = call_end (spelled_at s names (drop (at + 1) items) c)

-- the index of the name, and those of the items of its call that the configuration has
abbrev pub call_places : Sets → List (List ℕ) → List (Cond × Token) → ℕ → List ℕ → List ℕ
call_places s names items at c = at ∷ take (call_length (spelled_at s names (drop (at + 1) items) c)) (places_from s (at + 1) (map (λ item. item.0) (drop (at + 1) items)) c)

-- how the calls of the branches end that have the configuration
abbrev pub ends_at : Sets → List Branch → List ℕ → List Ends
ends_at s [] c = []
ends_at s (branch ∷ branches) c = if s.has branch.cond.0 c then branch.ends ∷ ends_at s branches c else ends_at s branches c

-- the branch, whose calls end in this way
abbrev pub with_ends : Ends → Branch → Branch
with_ends ends branch = record branch { ends = ends }

-- A call of these tokens is closed where this index says so, and what follows it is left.
abbrev pub ClosesAt : {P : Type 0} → List (Hidden P) → Option ℕ → Option (Call P) → Type 0
ClosesAt ts None None = Unit {0}
ClosesAt ts None (Some call) = ⊥
ClosesAt ts (Some index) None = ⊥
ClosesAt ts (Some index) (Some call) = (slice_get ts index ≡ Some call.close) × (call.rest ≡ drop (suc index) ts)

-- the call of the name is closed, and its tokens and the name have these indexes
pub record IsClosedCall (s : Sets) (names : List (List ℕ)) (items : List (Cond × Token)) (at : ℕ) (places c : List ℕ) : Type 0 where
  pub ends : call_end_at s names items at c ≡ closed
  pub placed : call_places s names items at c ≡ places
