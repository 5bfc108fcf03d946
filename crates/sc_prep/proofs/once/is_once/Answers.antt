use Rattle.std.proofs.Common.{[], ap, sym, ◌∙◌, codes}
use Rattle.sc_prep.proofs.Terms.{names_once, same_bytes, unwrap_or}
use Rattle.sc_prep.proofs.once.is_once.Goals as goal

pub returns-in-None : goal.returns-in-None
returns-in-None c = λ standard files. ap names_once (c.in-None.ensures.text standard files)

pub returns-in-Some : goal.returns-in-Some
returns-in-Some c = λ standard files.
    c.is_same.ensures ∙ (ap (λ o. same_bytes (unwrap_or o []) (codes "once")) (sym c.text.ensures) ∙ ap names_once (c.in-Some.ensures.text standard files))
