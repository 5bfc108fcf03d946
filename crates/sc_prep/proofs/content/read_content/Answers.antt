use Rattle.std.proofs.Common.{Some, refl, sym, subst, arith}
use Rattle.sc_base.specs.declared.place.Place.{Place}
use Rattle.sc_lex.specs.Spell as lex
use Rattle.sc_lines.specs.Nests as nests
use Rattle.sc_prep.proofs.ReadContent.{held-lines, nested-lines, refused-comment, refused-large, refused-nesting}
use Rattle.sc_prep.proofs.Terms.{BadNesting, IsContent, IsUnendedAt, UnterminatedComment}
use Rattle.sc_prep.specs.declared.content.Content.TheVariants as content
use Rattle.sc_prep.proofs.content.read_content.Goals as goal

pub returns-then-bytes-gt-LARGEST_FILE-clause-content : goal.returns-then-bytes-gt-LARGEST_FILE-clause-content
returns-then-bytes-gt-LARGEST_FILE-clause-content c = λ files name named.
    refused-large c.args.standard c.args.names.now files name c.args.bytes.now c.first_place.result (c.first_place.ensures.place files name named) c.if-bytes-gt-LARGEST_FILE.true

pub returns-in-Err-Comment-clause-content : goal.returns-in-Err-Comment-clause-content
returns-in-Err-Comment-clause-content c = λ files name named.
    let unended_at : IsUnendedAt c.args.file c.args.bytes.now c.in-Err-Comment.place = subst (lex.Refuses c.args.file c.args.bytes.now) c.in-Err-Comment.field-0-is c.in-Err-Comment.ensures.err in
    subst (λ (p : Place). IsContent c.args.standard c.tokens.new.names files name (Some c.args.bytes.now) (Some (content.Refused UnterminatedComment p))) (sym c.in-Err-Comment.place-is)
    (refused-comment c.args.standard c.tokens.new.names files name c.args.bytes.now c.args.file named (λ big. omega (arith, big)) c.in-Err-Comment.place unended_at)

pub returns-in-Ok-groups-clause-content : goal.returns-in-Ok-groups-clause-content
returns-in-Ok-groups-clause-content c = λ files name named.
    nested-lines c.args.standard c.tokens.new.names files name c.args.bytes.now c.args.file named (λ big. omega (arith, big)) c.in-Ok.tokens.items c.in-Ok.ensures.ok c.in-Ok-groups.tree _ refl c.end.ensures.position c.end.ensures.in_file
    (subst (λ ts. nests.IsTreeOf c.args.standard c.tokens.new.names ts c.in-Ok-groups.tree) c.deref.ensures.value c.in-Ok-groups.ensures.ok)

pub returns-in-Ok-groups-clause-held : goal.returns-in-Ok-groups-clause-held
returns-in-Ok-groups-clause-held c = λ files there.
    held-lines c.args.standard files c.args.file c.args.bytes.now c.in-Ok.tokens.items c.in-Ok-groups.tree _ refl refl c.end.ensures.in_file there c.in-Ok.ensures.ok c.in-Ok.ensures.own
    (subst (λ ts. nests.IsTreeOf c.args.standard c.tokens.new.names ts c.in-Ok-groups.tree) c.deref.ensures.value c.in-Ok-groups.ensures.ok)

pub returns-in-Err-Nesting-clause-content : goal.returns-in-Err-Nesting-clause-content
returns-in-Err-Nesting-clause-content c = λ files name named.
    subst (λ (p : Place). IsContent c.args.standard c.tokens.new.names files name (Some c.args.bytes.now) (Some (content.Refused BadNesting p))) (sym c.in-Err-Nesting.place-is)
    (refused-nesting c.args.standard c.tokens.new.names files name c.args.bytes.now c.args.file named (λ big. omega (arith, big)) c.in-Ok.tokens.items c.in-Ok.ensures.ok c.in-Err-Nesting.place
    (subst (λ ts. nests.IsFaultAt c.args.standard c.tokens.new.names ts c.in-Err-Nesting.place) c.deref.ensures.value
    (subst (nests.Refuses c.args.standard c.tokens.new.names c.deref.result.now) c.in-Err-Nesting.field-0-is c.in-Err-Nesting.ensures.err)))
