use Rattle.std.proofs.Common.{◌≡◌, ℕ, ◌-◌, ◌+◌, ◌<◌, List, [], ◌∷◌, ◌++◌, Some, length, take, drop, ◌⊎◌, inl, inr, true, false, refl, sym, ap, ◌∙◌, subst, arith}
use Rattle.std.proofs.lemmas.List.{take_rest, drop-drop}
use Rattle.c11_tokens.specs.Lex.{bytes_of, without_splices, is_newline, line_after, IsLongest, IsUnended, is_white}
use Rattle.sc_lex.specs.declared.piece.PieceKind.{PieceKind}
use Rattle.sc_lex.specs.declared.piece.PieceKind.TheVariants.{Blank, Comment}
use Rattle.sc_lex.specs.declared.line.LineSoFar.TheVariants.{Start}
use Rattle.sc_base.proofs.Growth.{Extends-refl, Extends-trans}
use Rattle.sc_lex.specs.Line.{so_far_of}
use Rattle.sc_lex.specs.Logical.{logical_of}
use Rattle.std.specs.Option.{option_map}
use Rattle.sc_model.specs.Token.{name_of}
use Rattle.sc_base.specs.Seen.{position_of}
use Rattle.sc_lex.specs.Piece.{kind_of}
use Rattle.sc_lex.specs.Unclosed.{AreUnclosed}
use Rattle.sc_lex.proofs.UnclosedLemmas.{IsUnclosed-none}
use Rattle.sc_lex.proofs.Lexing.{LexedSoFar, nothing_yet, after_white, after_token, unended_here, all_lexed}
use Rattle.sc_lex.proofs.Spells.{Spell-held}
use Rattle.sc_lex.proofs.lexer.tokens.Goals as goal
use Rattle.sc_lex.proofs.lexer.tokens.Goals.{After-longest, in-Blank, in-Token+in_ok-token-in-Token+in_ok-push-in-Token}

-- there are bytes left
some_left : (c : After-longest) → c.loop-offset.offset < length c.in_ok-text.text.items
some_left c = let len = c.len.ensures in let all = c.in_ok-text.text.ok.0 in omega arith

-- what `longest` is given
rest_is : (c : After-longest) → take (length c.deref.result.now - c.loop-offset.offset) (drop c.loop-offset.offset c.deref.result.now) ≡ drop c.loop-offset.offset c.in_ok-text.text.items
rest_is c = take_rest c.deref.result.now c.loop-offset.offset ∙ ap (drop c.loop-offset.offset) c.deref.ensures.value

is_white_piece : (kind : PieceKind) → (kind ≡ Blank) ⊎ (kind ≡ Comment) → is_white (kind_of kind) ≡ true
is_white_piece kind (inl e) = ap (λ r. is_white (kind_of r)) e
is_white_piece kind (inr e) = ap (λ r. is_white (kind_of r)) e

pub loop-offset-init : goal.loop-offset-init
loop-offset-init c = record {
  so_far = subst (λ ts. LexedSoFar c.args.names.now c.args.file c.args.bytes.now c.in_ok-text.text.items Start false (logical_of c.new-cursor.result) 0 ts) (sym c.new-tokens.ensures.items)
      (nothing_yet c.args.names.now c.args.file c.args.bytes.now c.in_ok-text.text.items Start (logical_of c.new-cursor.result) refl (ap without_splices c.new-cursor.ensures) (c.in_ok-text.ensures ∙ ap (λ ms. bytes_of (without_splices ms)) c.new.ensures));
  unclosed = record { single = IsUnclosed-none 39 c.in_ok-text.text.items; double = IsUnclosed-none 34 c.in_ok-text.text.items };
  grows = Extends-refl c.args.names.now;
  one_to_one = λ one. one;
}

-- what is known of the rest
known_here : (c : After-longest) → AreUnclosed (take (length c.deref.result.now - c.loop-offset.offset) (drop c.loop-offset.offset c.deref.result.now)) c.loop-offset.unclosed
known_here c = subst (λ bs. AreUnclosed bs c.loop-offset.unclosed) (sym (rest_is c)) c.loop-offset.invariant.unclosed

pub returns-in_default-clause-err : goal.returns-in_default-clause-err
returns-in_default-clause-err c =
    let d = (goal.at.returns-in_default-clause-err c).After-longest in
    unended_here c.loop-offset.invariant.so_far c.place-place.result (some_left d) c.place-place.ensures.first (subst IsUnended (rest_is d) c.in_default.ensures.none) c.place-place.ensures.in_file

pub loop-offset-preserved : goal.loop-offset-preserved
loop-offset-preserved c =
    let d = (goal.at.loop-offset-preserved c).After-longest in
    let so = c.loop-offset.invariant.so_far in
    let next = c.advance.ensures ∙ ap (drop c.in-Some.piece.length) c.place-place.ensures.same in
    let text = c.in_ok-text.text.items in
    let known : AreUnclosed (drop (c.loop-offset.offset + c.in-Some.piece.length) text) c.after-unclosed.result =
    subst (λ bs. AreUnclosed bs c.after-unclosed.result) (ap (drop c.in-Some.piece.length) (rest_is d) ∙ drop-drop c.in-Some.piece.length c.loop-offset.offset text) c.after-unclosed.ensures in
    let longest = λ (line : List (List ℕ)) (f : so_far_of line ≡ c.loop-offset.so_far). subst (λ bs. IsLongest line bs (kind_of c.in-Some.piece.kind) c.in-Some.piece.length) (rest_is d) (c.in-Some.ensures.some line (c.expects_header.ensures line f)) in
    elim c.match-piece.branch [
      | in-Blank w ↦ record {
        so_far = rw (w.names-is, w.tokens-is, w.so_far-is, w.space-is) (after_white so (kind_of c.in-Some.piece.kind) c.in-Some.piece.length _ (some_left d) (is_white_piece c.in-Some.piece.kind w.in-Blank.is) longest next);
        unclosed = known;
        grows = rw w.names-is c.loop-offset.invariant.grows;
        one_to_one = rw w.names-is c.loop-offset.invariant.one_to_one;
      }
      | in-Token+in_ok-token-in-Token+in_ok-push-in-Token w ↦ record {
        so_far =
            let t = w.in_ok-token-in-Token.field-0 in
            let n = c.in-Some.piece.length in
            let kind = w.in-Token.kind in
            let made = w.in_ok-token-in-Token.ensures in
            let items : c.match-piece.tokens.items ≡ c.loop-offset.tokens.items ++ t ∷ [] = ap (λ v. v.items) w.tokens-is ∙ w.in_ok-push-in-Token.ensures.items in
            let space : c.match-piece.space ≡ is_newline kind = w.space-is ∙ w.is_newline-space.ensures in
            rw (w.names-is, items, w.so_far-is, space)
            (after_token so w.token.new.names t kind n c.place-place.result _ w.after-so_far.result (some_left d)
            (λ line f. subst (λ kind. IsLongest line (drop c.loop-offset.offset c.in_ok-text.text.items) (kind_of kind) n) w.in-Token.is (longest line f))
            (λ line f. subst (λ bs. so_far_of (line_after line kind (take n bs)) ≡ w.after-so_far.result) (rest_is d) (w.after-so_far.ensures line f))
            c.place-place.ensures.first next w.token.ensures.grows
            (made.spelled ∙ ap (λ bs. Some (record { kind = kind; spelling = take n bs; space = c.loop-offset.space; position = position_of c.place-place.result })) (rest_is d))
            (made.named ∙ sym (ap (option_map name_of) made.text))
            (ap (λ p. p.file) made.placed ∙ c.place-place.ensures.in_file));
        unclosed = known;
        grows = rw w.names-is (Extends-trans c.loop-offset.invariant.grows w.token.ensures.grows);
        one_to_one = rw w.names-is (λ one. w.token.ensures.one_to_one);
      }
    ]

pub returns-clause-ok : goal.returns-clause-ok
returns-clause-ok c = all_lexed c.loop-offset.invariant.so_far (let len = c.len.ensures in let all = c.in_ok-text.text.ok.0 in let past = c.loop-offset-test.false in omega arith)

pub returns-clause-own : goal.returns-clause-own
returns-clause-own c = Spell-held c.loop-offset.invariant.so_far.spell
