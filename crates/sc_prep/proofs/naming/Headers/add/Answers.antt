use Rattle.std.proofs.Common.{refl, sym, subst}
use Rattle.sc_include.specs.Seen as include
use Rattle.sc_include.specs.declared.stop.IncludeStop.TheVariants as stop
use Rattle.sc_prep.proofs.Facts.{All-push, Denotes-self}
use Rattle.sc_prep.proofs.HeaderLemmas.{IsPlainName, adds-named, adds-unnamed, named-plain}
use Rattle.sc_prep.proofs.Terms.{ArePlainNames, NamesHeader}
use Rattle.sc_prep.proofs.naming.Headers.add.Goals as goal

pub returns-in_ok-push-in-Ok-clause-adds : goal.returns-in_ok-push-in-Ok-clause-adds
returns-in_ok-push-in-Ok-clause-adds g c =
    let s = g.C.Conditions.sets c.args.conds.now in
    let names = c.args.names.now in
    adds-named s names c.args.alternative.now c.args.self.now (record { named = c.push.new.self; unnamed = c.args.self.now.unnamed })
    (record { cond = c.args.alternative.now.cond; header = c.in-Ok.header }) c.requires.owns c.requires.own refl
    (subst (λ ts. NamesHeader names ts c.in-Ok.header) c.deref.ensures.value c.in-Ok.ensures.ok) c.in_ok-push-in-Ok.ensures.items refl

pub returns-in_ok-self-in-Err-BadInclude-clause-adds : goal.returns-in_ok-self-in-Err-BadInclude-clause-adds
returns-in_ok-self-in-Err-BadInclude-clause-adds g c =
    let old = g.C.Conditions.sets c.args.conds.now in
    let names = c.args.names.now in
    let was = c.args.self.now in
    let a = c.args.alternative.now in
    adds-unnamed names a was (record { named = was.named; unnamed = c.in_ok-self-in-Err-BadInclude.field-0 }) c.apply_or.ensures.keeps c.requires.owns c.requires.own
    (subst (λ ts. include.NamesNone names ts stop.BadInclude) c.deref.ensures.value (subst (include.NamesNone names c.deref.result.now) c.in-Err-BadInclude.field-0-is c.in-Err-BadInclude.ensures.err))
    refl c.in_ok-self-in-Err-BadInclude.ensures.own
    (c.in_ok-self-in-Err-BadInclude.ensures.meaning (old.has was.unnamed.0) (old.has a.cond.0) (Denotes-self old was.unnamed.0 c.requires.owns.unnamed) (Denotes-self old a.cond.0 c.requires.own))

pub returns-in_ok-push-in-Ok-clause-plain : goal.returns-in_ok-push-in-Ok-clause-plain
returns-in_ok-push-in-Ok-clause-plain g c = λ plain all.
    let names = c.args.names.now in
    let name = named-plain names c.args.alternative.now.tokens.items c.in-Ok.header plain (subst (λ ts. NamesHeader names ts c.in-Ok.header) c.deref.ensures.value c.in-Ok.ensures.ok) in
    subst ArePlainNames (sym c.in_ok-push-in-Ok.ensures.items) (All-push IsPlainName c.args.self.now.named.items (record { cond = c.args.alternative.now.cond; header = c.in-Ok.header }) all name)
