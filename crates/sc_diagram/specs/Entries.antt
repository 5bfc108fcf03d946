-- Results of operations as rows of numbers.
use Rattle.std.specs.Prelude.{ℕ, zero, suc, Option, Some, None, option_map}
use Rattle.sc_diagram.specs.declared.known.Entry.{Entry}
use Rattle.sc_diagram.specs.declared.operation.Operation.{Operation}
use Rattle.sc_diagram.specs.declared.operation.Operation.TheVariants.{And, Or, Without, Negate, Part}
use Rattle.sc_diagram.specs.declared.operation.Application.{Application}
use Rattle.sc_diagram.specs.Applied.{application}

-- the operation that two numbers stand for
abbrev pub operation_at : ℕ → ℕ → Option Operation
operation_at zero zero = Some And
operation_at (suc zero) zero = Some Or
operation_at (suc (suc zero)) zero = Some Without
operation_at (suc (suc (suc zero))) zero = Some Negate
operation_at (suc (suc (suc (suc kind)))) zero = None
operation_at variable (suc option) = Some (Part variable option)

-- the operation and its nodes with what it made, where the entry has one
abbrev pub result_of : Entry → Option (Application × ℕ)
result_of e = option_map (λ (operation : Operation). (application operation e.left e.right, e.result)) (operation_at e.kind e.option)
