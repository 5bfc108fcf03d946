use Rattle.std.proofs.Common.{◌∙◌, rules, string_bytes, sym}
use Rattle.std.proofs.lemmas.Iterator.{YieldsList-from_slice}
use Rattle.std.proofs.lemmas.Iterator.Search.{position_from_yields_List}
use borrow.Author.Tests.{tests}
use Rattle.sc_model.specs.Bytes.{same_bytes}
use Rattle.sc_space.specs.declared.space.Variable.{Variable}
use Rattle.sc_space.specs.Seen.{seen_variable}
use Rattle.sc_space.proofs.Choosing.{position-map}
use Rattle.sc_space.proofs.Reading.{same_bytes-bytes_eq}
use Rattle.sc_space.proofs.space.Space.variable_named.Goals as goal

pub returns : goal.returns
returns c =
    position_from_yields_List (λ (v : Variable). same_bytes (string_bytes v.name) c.args.name.now) _ _ _ c.position.ensures.ran (YieldsList-from_slice c.args.self.now.variables.items cc) (λ x b q k. search (rules, tests, same_bytes-bytes_eq))
    ∙ sym (position-map seen_variable (λ v. same_bytes v.name c.args.name.now) c.args.self.now.variables.items)
