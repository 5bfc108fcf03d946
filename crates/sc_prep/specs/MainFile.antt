-- What a walk of the main file leaves.
use Rattle.std.specs.Prelude.{◌≡◌, ℕ, ◌<◌, ◌&&◌, List, Option, length, true}
use Rattle.sc_model.specs.Bytes.{has_no_newline}
use Rattle.sc_model.specs.Outside.{Files}
use Rattle.sc_model.specs.Sets.{IsConfig, Sets}
use Rattle.sc_model.specs.Space.{Space}
use Rattle.sc_prep.specs.Closes.{has_none}
use Rattle.sc_prep.specs.Preprocesses.{IsPreparedFrom, OwnsList}
use Rattle.sc_prep.specs.Printable.{ArePlainPaths, CanBeShown}
use Rattle.sc_prep.specs.declared.prepared.Prepared.{Prepared}

-- It is what ordinary preprocessing gives, in the configurations of a condition, and can be shown.
pub record PreparesMain (old : Sets) (live : ℕ) (before : List (List ℕ)) (s : Sets) (names files : List (List ℕ)) (p : Prepared) (space : Space) (holds : Option Files) (main : List ℕ) : Type 0 where
  pub ordinary : IsPreparedFrom old live s names files p space holds main
  pub end_held : p.end.file.0 < length files
  pub live_is : (config : List ℕ) → IsConfig old.arities config → s.has p.live.0 config ≡ (old.has live config && has_none s p.faults.items config)
  pub owns : OwnsList s p
  pub shown : ArePlainPaths before → has_no_newline main ≡ true → CanBeShown s names files p
