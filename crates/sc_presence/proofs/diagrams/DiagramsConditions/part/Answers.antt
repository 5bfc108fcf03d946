use Rattle.sc_model.proofs.SetLemmas.{Denotes-self, IsPart-Denotes, DependsFrom-IsPart, has-IsPart}
use Rattle.sc_presence.proofs.diagrams.DiagramsConditions.part.Goals as goal

pub returns-clause-later : goal.returns-clause-later
returns-clause-later c = λ from.
    let made = c.in_ok-node.ensures in
    let part = IsPart-Denotes c.requires.own c.requires.variable c.requires.option made.keeps (made.meaning _ (Denotes-self _ _ c.requires.own)) in
    DependsFrom-IsPart made.keeps part from

pub returns-clause-chosen : goal.returns-clause-chosen
returns-clause-chosen c =
    let made = c.in_ok-node.ensures in
    has-IsPart (IsPart-Denotes c.requires.own c.requires.variable c.requires.option made.keeps (made.meaning _ (Denotes-self _ _ c.requires.own)))
