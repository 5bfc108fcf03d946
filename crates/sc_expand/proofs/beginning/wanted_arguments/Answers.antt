use Rattle.std.proofs.Common.{◌≡◌, ◌∙◌, ◌+◌, ◌-◌, ◌<◌, ℕ, [], ◌∷◌, All, arith, map, drop, get_or, length, reverse, sym, ap, subst}
use Rattle.sc_expand.proofs.Facts.{All-push, drop_more, reverse-append}
use Rattle.sc_expand.proofs.Terms.{IsHeldToken, Wanted, tokens_of, with_argument}
use Rattle.sc_expand.proofs.beginning.wanted_arguments.Goals as goal

pub loop-index-preserved : goal.loop-index-preserved
loop-index-preserved c =
    let raw = c.args.raw.now in
    let wanted = c.args.wanted.now in
    let i = c.loop-index.index - 1 in
    let n = get_or wanted i 0 in
    let made = c.loop-index.made.items in
    let value : Wanted = record { parameter = n; tokens = c.in_ok-tokens.tokens } in
    let within : i < length wanted = omega (arith, c.loop-index-test.true, c.loop-index.auto.index) in
    let next : i + 1 ≡ c.loop-index.index = omega (arith, c.loop-index-test.true) in
    let rest : drop i wanted ≡ n ∷ drop c.loop-index.index wanted = drop_more wanted i 0 within ∙ ap (λ k. n ∷ drop k wanted) next in
    record {
      is = ap (λ l. map tokens_of (reverse l)) c.in_ok-push.ensures.items
          ∙ (ap (map tokens_of) (reverse-append made (value ∷ []))
          ∙ (ap (λ t. (let pair : ℕ × _ = (n, t) in pair) ∷ map tokens_of (reverse made)) c.in_ok-tokens.ensures.is
          ∙ (ap (λ r. with_argument raw n ∷ r) c.loop-index.invariant.is
          ∙ ap (map (with_argument raw)) (sym rest))));
      own = λ st files held.
          let P : Wanted → Type 0 = λ w. All (IsHeldToken st files) w.tokens in
          subst (All P) (sym c.in_ok-push.ensures.items) (All-push P made value (c.loop-index.invariant.own st files held) (c.in_ok-tokens.ensures.own st files held));
    }
