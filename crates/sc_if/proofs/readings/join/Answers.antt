use Rattle.std.proofs.Common.{◌≡◌, ◌||◌, ◌∙◌, ap, get_or, subst, sym}
use Rattle.sc_if.proofs.PutLemmas.{Entry, HaveRead-joined, put-joined, same-default}
use Rattle.sc_model.proofs.SetLemmas.{Denotes-self, IsConfig-Keeps}
use Rattle.sc_model.specs.Sets.{IsCond}
use Rattle.sc_if.proofs.readings.join.Goals as goal

pub returns-clause-put : goal.returns-clause-put
returns-clause-put g c = λ other.
    let s = g.C.Conditions.sets c.args.conds.now in
    let keeps = c.apply_or.ensures.keeps in
    let xs = c.args.readings.now.items in
    let i = c.args.index in
    let x = c.index.result.now in
    let e : Entry = (c.in_ok-either.either, c.index_mut.result.now.1) in
    let read : x ≡ get_or xs i other = c.index.ensures ∙ same-default xs i x other c.requires.index in
    let own = subst (λ (y : Entry). IsCond s y.0.0) (sym read) (c.requires.own i other c.requires.index) in
    let told = c.in_ok-either.ensures.meaning _ _ (Denotes-self s x.0.0 own) (Denotes-self s c.args.cond.0 c.requires.cond_own) in
    put-joined keeps xs i e other c.args.cond c.requires.index c.requires.own (ap (λ (y : Entry). y.1) (c.index_mut.ensures.value ∙ same-default xs i c.index_mut.result.now other c.requires.index)) c.in_ok-either.ensures.own
    (λ y listed. told.at y (IsConfig-Keeps keeps listed) ∙ ap (λ (z : Entry). s.has z.0.0 y || s.has c.args.cond.0 y) read)

pub returns-clause-read : goal.returns-clause-read
returns-clause-read g c = λ item in_item.
    let s = g.C.Conditions.sets c.args.conds.now in
    let keeps = c.apply_or.ensures.keeps in
    let xs = c.args.readings.now.items in
    let i = c.args.index in
    let x = c.index.result.now in
    let e : Entry = (c.in_ok-either.either, c.index_mut.result.now.1) in
    let read : x ≡ get_or xs i x = c.index.ensures in
    let own = subst (λ (y : Entry). IsCond s y.0.0) (sym read) (c.requires.own i x c.requires.index) in
    let told = c.in_ok-either.ensures.meaning _ _ (Denotes-self s x.0.0 own) (Denotes-self s c.args.cond.0 c.requires.cond_own) in
    HaveRead-joined keeps xs i e x c.args.cond c.requires.index c.requires.own (ap (λ (y : Entry). y.1) (c.index_mut.ensures.value ∙ same-default xs i c.index_mut.result.now x c.requires.index)) c.in_ok-either.ensures.own
    (λ y listed. told.at y (IsConfig-Keeps keeps listed) ∙ ap (λ (z : Entry). s.has z.0.0 y || s.has c.args.cond.0 y) read)
    item in_item
