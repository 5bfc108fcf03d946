use Rattle.sc_model.proofs.SetLemmas.{Denotes-Keeps}
use Rattle.sc_scope.proofs.SearchLemmas.{Denotes-has}
use Rattle.sc_scope.proofs.merge.either.Goals as goal

pub returns-clause-either : goal.returns-clause-either
returns-clause-either g c =
    let keeps = c.apply_or.ensures.keeps in
    record {
      variables = Denotes-Keeps c.apply_or-2.ensures.keeps (c.in_ok-variables.ensures.meaning _ _ (Denotes-has c.requires.a.variables) (Denotes-has c.requires.b.variables));
      types = c.in_ok-types.ensures.meaning _ _ (Denotes-Keeps keeps (Denotes-has c.requires.a.types)) (Denotes-Keeps keeps (Denotes-has c.requires.b.types));
    }
