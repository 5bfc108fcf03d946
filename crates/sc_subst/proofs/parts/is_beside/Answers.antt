use Rattle.sc_subst.proofs.parts.is_beside.Goals as goal

pub returns-else-behind : goal.returns-else-behind
returns-else-behind c = λ names. rw c.if-behind.false (c.begins_paste.ensures names)
