-- What configurations that wait for what follows the whole list have left of it.
use Rattle.std.specs.Prelude.{◌≡◌, ℕ, ◌&&◌, List, [], drop, slice_get, Some}
use Rattle.sc_base.specs.declared.id.Cond.{Cond}
use Rattle.sc_expand.specs.declared.expansion.Expansion.{Expansion}
use Rattle.sc_expand.specs.declared.frame.Enclosing.{Enclosing}
use Rattle.sc_expand.specs.Restricted.{IsPushed}
use Rattle.sc_model.specs.Sets.{Sets, Denotes}
use Rattle.sc_subst.specs.declared.hidden.Hidden.{Hidden}

-- Those that wait keep the first token of the whole list, where they have it.
pub data KeepsFirst (old new : Sets) (waiting : ℕ) (below : List Enclosing) (work before after : List (Cond × Hidden)) : Type 0 where
  kept : (item : Cond × Hidden) (cond : Cond) → below ≡ [] → slice_get work 0 ≡ Some item → Denotes new cond.0 (λ c. old.has item.0.0 c && old.has waiting c)
      → IsPushed new cond item.1 before after → KeepsFirst old new waiting below work before after
  none : (below ≡ [] → work ≡ []) → after ≡ before → KeepsFirst old new waiting below work before after

-- the first token of the list on top is gone
pub record DropsFirst (old new : Sets) (was now : Expansion) : Type 0 where
  pub work : now.top.work ≡ drop 1 was.top.work
  pub out : now.top.out ≡ was.top.out
  pub calls : now.top.calls ≡ was.top.calls
  pub below : now.below ≡ was.below
  pub refusals : now.refusals ≡ was.refusals
  pub rest : KeepsFirst old new was.refusals.waiting.0 was.below.items was.top.work was.rest now.rest
