-- How a walk enters a file and leaves it.
use Rattle.std.specs.Prelude.{◌≡◌, ◌&&◌, []}
use Rattle.sc_base.specs.declared.id.Cond.{Cond}
use Rattle.sc_model.specs.Sets.{Sets, Denotes}
use Rattle.sc_prep.specs.Pragmas.{HasNoPragma}
use Rattle.sc_prep.specs.declared.entering.Around.{Around}
use Rattle.sc_prep.specs.declared.walk.Walk.{Walk}

-- These configurations go on before the first line of a file, of which nothing was read yet,
-- and what is around it is kept.
pub record Begins (s : Sets) (walk : Walk) (entering : Cond) (next : Walk) (around : Around) : Type 0 where
  pub is : next ≡ record walk { group = entering; acting = entering; sections = next.sections; runs = next.runs }
  pub gathered : next.runs.gathered ≡ []
  pub held : next.runs.held.items ≡ []
  pub pragmas : HasNoPragma s next.runs.pragmas
  pub read : next.runs.read ≡ []
  pub sections : next.sections.items ≡ []
  pub around_is : around ≡ record { group = walk.group; sections = walk.sections; runs = walk.runs }

-- the configurations around a file go on where they stood, but for those that are refused
pub record Leaves (old : Sets) (walk : Walk) (around : Around) (new : Sets) (next : Walk) : Type 0 where
  pub is : next ≡ record walk { group = around.group; acting = next.acting; sections = around.sections; runs = around.runs }
  pub acting : Denotes new next.acting.0 (λ c. old.has around.group.0 c && old.has walk.prepared.live.0 c)
