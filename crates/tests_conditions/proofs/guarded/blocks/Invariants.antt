use Rattle.tests_conditions.proofs.guarded.blocks.Given as goal

abbrev pub ghosts-checks_blocks : goal.ghosts-checks_blocks
ghosts-checks_blocks g a = record { name = a.blank.name; parts = a.blank.parts }
