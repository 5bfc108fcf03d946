use Rattle.std.proofs.Common.{◌≡◌, ℕ, false, refl}
use Rattle.c11_tokens.specs.Lex.{PieceKind, blank, comment, token, fits, is_header_name}
use Rattle.sc_model.specs.declared.kind.Kind.TheVariants.{Identifier, Number, Character, Text, Punctuator, Other, Newline}
use Rattle.sc_lex.specs.Scan.{IsLongestFront}
use Rattle.sc_lex.proofs.Best.{best_of_first, front_here, longest_of_best, one_byte_fits, some_byte}
use Rattle.sc_lex.proofs.FirstBytes.{longest_where_only}
use Rattle.sc_lex.proofs.piece.longest.Goals as goal

pub returns-in-Some-clause-some : goal.returns-in-Some-clause-some
returns-in-Some-clause-some c = λ line is. longest_where_only line c.args.text.now _ _ c.requires.some c.in-Some.ensures.only c.in-Some.ensures.longest

pub returns-clause-some : goal.returns-clause-some
returns-clause-some c = λ line is.
    let bs = c.args.text.now in
    let here = λ (kind : PieceKind) (n : ℕ) (off : is_header_name kind ≡ false) (front : IsLongestFront (fits kind) bs n). front_here line kind bs n off front in
    let b1 = best_of_first line bs _ (c.header.ensures line is) in
    let b2 = c.or_longer.ensures line bs 1 b1 refl (here blank _ refl c.blanks.ensures) in
    let b3 = c.or_longer-2.ensures line bs 2 b2 refl (here comment _ refl c.in_ok-comment.ensures.some) in
    let b4 = c.or_longer-3.ensures line bs 3 b3 refl (here (token Newline) _ refl c.newline.ensures) in
    let b5 = c.or_longer-4.ensures line bs 4 b4 refl (here (token Identifier) _ refl c.identifier.ensures) in
    let b6 = c.or_longer-5.ensures line bs 5 b5 refl (here (token Number) _ refl c.number.ensures) in
    let b7 = c.or_longer-6.ensures line bs 6 b6 refl (here (token Character) _ refl c.character.ensures) in
    let b8 = c.or_longer-7.ensures line bs 7 b7 refl (here (token Text) _ refl c.string.ensures) in
    let b9 = c.or_longer-8.ensures line bs 8 b8 refl (here (token Punctuator) _ refl c.punctuator.ensures) in
    let other = one_byte_fits bs c.requires.some in
    let b10 = c.or_longer-9.ensures line bs 9 b9 refl (here (token Other) _ refl other) in
    longest_of_best b10 (some_byte b10 c.requires.some) c.in_ok-comment.ensures.ended
