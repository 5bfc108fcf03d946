-- Nodes that are asked for in some configurations alone.
use Rattle.std.specs.Prelude.{◌≡◌, ℕ, ◌<◌, ◌≤◌, Bool, List, Contains, Option, Some, length, min, slice_index, slice_set, true}
use Rattle.sc_model.specs.Sets.{Sets, IsConfig}
use Rattle.sc_diagram.specs.declared.answers.Question.{Question}
use Rattle.sc_diagram.specs.Applied.{cofactor}
use Rattle.sc_diagram.specs.Diagram.{Diagram, sets_of, variable_of}

-- the nodes of the question are there
pub record IsQuestion (d : Diagram) (asked : Question) : Type 0 where
  pub node : asked.node < length d.nodes
  pub within : asked.within < length d.nodes

-- of a configuration of the second condition the first one says this
pub record SaysWithin (s : Sets) (a within : ℕ) (says : Bool) : Type 0 where
  pub config : List ℕ
  pub listed : IsConfig s.arities config
  pub held : s.has within config ≡ true
  pub is : s.has a config ≡ says

abbrev pub IsSaid : Diagram → Question → Bool → Type 0
IsSaid d asked says = SaysWithin (sets_of d) asked.node asked.within says

-- r has, of the configurations that are asked for, those that the node has, and decides by no
-- earlier variable. What it says of the others the node says of one that is asked for, if any is.
pub record Simplifies (d : Diagram) (asked : Question) (r : ℕ) : Type 0 where
  pub question : IsQuestion d asked
  pub own : r < length d.nodes
  pub from : variable_of d asked.node ≤ variable_of d r
  pub at : (c : List ℕ) → IsConfig d.arities c → (sets_of d).has asked.within c ≡ true → (sets_of d).has r c ≡ (sets_of d).has asked.node c
  pub said : (asked.within ≡ 0 → ⊥) → (c : List ℕ) → IsConfig d.arities c → IsSaid d asked ((sets_of d).has r c)

-- each pair is a question and what it came to
pub record AreAnswers (d : Diagram) (answers : List (Option (Question × ℕ))) : Type 0 where
  pub each : (e : Question × ℕ) → Contains answers (Some e) → Simplifies d e.0 e.1

-- the question on what remains of its nodes where a variable has an option
abbrev pub question_at : Diagram → Question → ℕ → ℕ → Question
question_at d asked variable option = record {
  node = cofactor d asked.node variable option;
  within = cofactor d asked.within variable option;
}

-- the first variable by which its nodes decide
abbrev pub first_asked : Diagram → Question → ℕ
first_asked d asked = min (variable_of d asked.node) (variable_of d asked.within)

-- with one of so many first options of the variable the node has the configuration
pub record HasOption (d : Diagram) (node variable count : ℕ) (c : List ℕ) : Type 0 where
  pub option : ℕ
  pub in_range : option < count
  pub has : (sets_of d).has node (slice_set c variable option) ≡ true

-- r has all configurations of the node, whatever its variable is, and decides by a later one
pub record IsWider (d : Diagram) (node r : ℕ) : Type 0 where
  pub own : r < length d.nodes
  pub later : variable_of d node < variable_of d r
  pub at : (c : List ℕ) → IsConfig d.arities c → (sets_of d).has node c ≡ true → (sets_of d).has r c ≡ true
  pub some : (c : List ℕ) → IsConfig d.arities c → (sets_of d).has r c ≡ true → HasOption d node (variable_of d node) (slice_index d.arities (variable_of d node)) c
