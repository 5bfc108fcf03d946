use Rattle.std.proofs.Common.{◌≡◌, ◌∙◌, ap, sym, subst, inl, inr, refl, true, [], ◌∷◌, List, map, string_bytes, Option}
use Rattle.clap.specs.Words.{App, HasKind, Kinds, Row, Text, fault_of, is_simple, is_simple_and_free, subcommand_of, kind_of}
use Rattle.clap.specs.declared.error.Error.{Error}
use Rattle.sc_args.specs.declared.stop.ArgsStop.{ArgsStop}
use Rattle.sc_args.specs.declared.stop.ArgsStop.TheVariants as stop
use Rattle.sc_args.specs.Refusal.{RefusesFor}
use Rattle.sc_args.specs.Seen.{Answers, Refuses}
use Rattle.sc_args.specs.Words.{asked_by, asked_of, asked_where, superc_app}
use Rattle.sc_args.proofs.command.Command.read.Goals as goal

simple : is_simple superc_app ≡ true
simple = refl

simple_and_free : is_simple_and_free superc_app ≡ true
simple_and_free = refl

-- an error that isn't want of memory comes only where there is a fault
refused_where : (faults : Kinds) (words : List Text) (e : Error) (r : ArgsStop) → HasKind faults e → RefusesFor (kind_of e) r → Refuses r (asked_where faults words)
refused_where [] words e (stop.Usage text) (inl memory) other = absurd (other memory)
refused_where [] words e (stop.Usage text) (inr never) other = absurd never
refused_where (fault ∷ faults) words e (stop.Usage text) has other = refl
refused_where faults words e stop.BadFile has never = absurd never
refused_where faults words e stop.BadCount has never = absurd never
refused_where faults words e stop.OutOfMemory has _ = tt

refused : (words : List Text) (e : Error) (r : ArgsStop) → HasKind (fault_of superc_app words) e → RefusesFor (kind_of e) r → Refuses r (asked_of words)
unfolding asked_of
refused words e r has other = refused_where (fault_of superc_app words) words e r has other

-- matches come only where there is none
taken : (words : List Text) (found : Option (Text × List Row)) → fault_of superc_app words ≡ [] → found ≡ subcommand_of superc_app words → asked_by found ≡ asked_of words
unfolding asked_of
taken words found none is = ap asked_by is ∙ sym (ap (λ faults. asked_where faults words) none)

pub returns-in-Err : goal.returns-in-Err
returns-in-Err c =
    let built = c.in_ok-superc.ensures in
    let words = map string_bytes c.args.words.now in
    let has = subst (λ (a : App). HasKind (fault_of a words) c.in-Err.refused) built (c.in-Err.ensures.kinds (ap is_simple_and_free built ∙ simple_and_free)) in
    refused words c.in-Err.refused c.refusal.result has c.refusal.ensures

pub returns : goal.returns
returns c =
    let built = c.in_ok-superc.ensures in
    let words = map string_bytes c.args.words.now in
    let none = sym (ap (λ (a : App). fault_of a words) built) ∙ c.in-Ok.ensures.kinds (ap is_simple_and_free built ∙ simple_and_free) in
    let found = (c.in-Ok.ensures.matches (ap is_simple built ∙ simple)).1 ∙ ap (λ (a : App). subcommand_of a words) built in
    subst (Answers c.named.result) (taken words _ none found) c.named.ensures
