-- What a text can show of a list: no more than that its items and its faults are held, and stand on
-- one line.
use Rattle.std.specs.Prelude.{◌≡◌, ℕ, ◌<◌, ◌≤◌, List, length, true}
use Rattle.sc_base.specs.declared.fault.Fault.{Fault}
use Rattle.sc_base.specs.declared.id.Cond.{Cond}
use Rattle.sc_base.specs.declared.token.Token.{Token}
use Rattle.sc_base.specs.Seen.{IsHeld, text_at}
use Rattle.sc_guarded.specs.Items.{faults_at}
use Rattle.sc_model.specs.Bytes.{has_no_newline}
use Rattle.sc_model.specs.Sets.{Sets, IsConfig, IsCond}

-- an item that can be shown: its condition was made, its token is held, and its spelling and file
-- are of one line
pub record IsShowable (s : Sets) (names files : List (List ℕ)) (item : Cond × Token) : Type 0 where
  pub own : IsCond s item.0.0
  pub held : IsHeld names item.1
  pub file : item.1.place.file.0 < length files
  pub plain : has_no_newline (text_at names item.1.spelling.0) ≡ true

pub record IsShowableFault (s : Sets) (files : List (List ℕ)) (f : Fault) : Type 0 where
  pub own : IsCond s f.cond.0
  pub file : f.place.file.0 < length files

-- no configuration has two faults
pub record AreApart (s : Sets) (faults : List Fault) : Type 0 where
  pub few : (c : List ℕ) → IsConfig s.arities c → length (faults_at s faults c) ≤ 1
