-- Tokens that are told from each other.
use Rattle.std.specs.Prelude.{◌≡◌, ℕ, ◌++◌, List, AllPairs, map}
use Rattle.sc_base.specs.declared.id.Cond.{Cond}
use Rattle.sc_base.specs.declared.token.Token.{Token}
use Rattle.sc_base.specs.Seen.{position_of, seen}
use Rattle.sc_prep.specs.Read.{tokens_read}
use Rattle.sc_prep.specs.declared.walk.Walk.{Walk}

abbrev pub tokens_in : List (Cond × Token) → List Token
tokens_in list = map (λ item. item.1) list

-- no two stand at one position
abbrev pub StandApart : List Token → Type 0
StandApart tokens = AllPairs (λ t u. position_of t.place ≡ position_of u.place → ⊥) tokens

-- no two are seen as one
abbrev pub AreDifferent : (names files : List (List ℕ)) → List (Cond × Token) → Type 0
AreDifferent names files list = AllPairs (λ a b. seen names files a.1 ≡ seen names files b.1 → ⊥) list

-- From one walk to the next only tokens of the line are read: with whatever follows they still
-- stand apart.
abbrev pub GathersFrom : List Token → Walk → Walk → Type 0
GathersFrom line old new = (rest : List Token) → StandApart (tokens_read old.runs.read ++ (line ++ rest)) → StandApart (tokens_read new.runs.read ++ rest)
