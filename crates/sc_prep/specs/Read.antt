-- The text of runs that have not ended, as it was read.
use Rattle.std.specs.List.{flat_map}
use Rattle.std.specs.Option.{option_to_list}
use Rattle.std.specs.Prelude.{◌≡◌, ◌⊎◌, ℕ, ◌++◌, true, List, [], ◌∷◌, All, Option, None, Some, map, reverse, if◌then◌else◌}
use Rattle.sc_base.specs.declared.id.Cond.{Cond}
use Rattle.sc_base.specs.declared.token.Token.{Token}
use Rattle.sc_guarded.specs.Items.{items_at}
use Rattle.sc_model.specs.Sets.{Sets, IsCond, IsConfig}

-- a run goes on with tokens, and the next one begins behind each end
abbrev pub last_run : {A : Type 0} → List A → List (Option A) → List A
last_run run [] = run
last_run run (Some t ∷ read) = last_run (run ++ t ∷ []) read
last_run run (None ∷ read) = last_run [] read

-- the text of the configuration's run
abbrev pub run_at : Sets → List (Cond × Option Token) → List ℕ → List Token
run_at s read c = last_run [] (items_at s read c)

-- the tokens that were read
abbrev pub tokens_read : List (Cond × Option Token) → List Token
tokens_read read = flat_map (λ item. option_to_list item.1) read

-- The runs of the configurations of the one condition end, and those of the other's go on. All
-- tokens are kept, or none.
pub record EndsRead (old : Sets) (read : List (Cond × Option Token)) (acting live : ℕ) (new : Sets) (next : List (Cond × Option Token)) : Type 0 where
  pub own : All (λ item. IsCond new item.0.0) next
  pub at : (c : List ℕ) → IsConfig old.arities c → old.has live c ≡ true → run_at new next c ≡ (if old.has acting c then [] else run_at old read c)
  pub tokens : (tokens_read next ≡ []) ⊎ (tokens_read next ≡ tokens_read read)

-- The text of the configurations of the one condition is taken out of what was read, from the end
-- on, the last token first: this is left to look at, for those that haven't come to where their
-- runs begin.
pub record TakesOut (first : Sets) (read : List (Cond × Option Token)) (under : ℕ) (now : Sets) (left : ℕ) (text : List (Cond × Token)) (front : List (Cond × Option Token)) : Type 0 where
  pub own : All (λ (item : Cond × Token). IsCond now item.0.0) text
  pub left_own : IsCond now left
  pub tokens : tokens_read read ≡ tokens_read front ++ reverse (map (λ item. item.1) text)
  pub at : (c : List ℕ) → IsConfig first.arities c → (if first.has under c then run_at first read c else []) ≡ (if now.has left c then run_at first front c else []) ++ reverse (items_at now text c)
