-- Definitions of one name, each with its configurations.
use Rattle.std.specs.Prelude.{ℕ, ◌≤◌, List, All, map, length, Contains}
use Rattle.c11_macros.specs.Macros as model
use Rattle.sc_base.specs.declared.id.Cond.{Cond}
use Rattle.sc_guarded.specs.Items.{items_at}
use Rattle.sc_macro.specs.declared.definition.Definition.{Definition}
use Rattle.sc_macro.specs.Seen.{IsHeldDefinition, seen_definition}
use Rattle.sc_model.specs.Growth.{IsOneToOne}
use Rattle.sc_model.specs.Sets.{Sets, IsConfig, IsCond, IsNever}
use Rattle.std.specs.declared.rc.Rc.{Rc}

abbrev pub Part : Type 0
Part = Cond × Definition

-- the parts without the sharing
abbrev pub valued : {A : Type 0} → List (Cond × Rc Definition A) → List Part
valued parts = map (λ part. (part.0, part.1.value)) parts

abbrev pub seen_all : List (List ℕ) → List Part → List model.Definition
seen_all names parts = map (λ part. seen_definition names part.1) parts

-- each part has a configuration
pub record AreSome (s : Sets) (parts : List Part) : Type 0 where
  pub own : All (λ part. IsCond s part.0.0) parts
  pub some : All (λ part. IsNever s part.0.0 → ⊥) parts

-- and no two have one in common
pub record AreParts (s : Sets) (parts : List Part) : Type 0 where
  pub each : AreSome s parts
  pub one : (c : List ℕ) → IsConfig s.arities c → length (items_at s parts c) ≤ 1

-- no two definitions are the same
pub record AreNamed (names : List (List ℕ)) (parts : List Part) : Type 0 where
  pub held : All (λ part. IsHeldDefinition names part.1) parts
  pub differ : IsOneToOne (seen_all names parts)

-- and each is one of these
pub record AreDrawn (names : List (List ℕ)) (from : List model.Definition) (parts : List Part) : Type 0 where
  pub named : AreNamed names parts
  pub among : (d : model.Definition) → Contains (seen_all names parts) d → Contains from d
