use Rattle.std.proofs.lemmas.Result.{IfOk-weaker}
use Rattle.sc_scope.proofs.NumberLemmas.{IsNumbered-Extends}
use Rattle.sc_scope.proofs.trie.Trie.merged.Goals as goal

pub returns-in-None-clause-numbered : goal.returns-in-None-clause-numbered
returns-in-None-clause-numbered g c =
    IfOk-weaker c.share.result _ _ (λ trie keeps. keeps _ (IsNumbered-Extends c.args.self.now c.merge.ensures.grows c.requires.numbered)) c.share.ensures.numbered
