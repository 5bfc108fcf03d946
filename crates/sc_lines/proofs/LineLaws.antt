-- Tokens have one list of lines.
use Rattle.std.proofs.Common.{◌≡◌, ℕ, ◌+◌, ◌-◌, ◌≤◌, List, [], ◌∷◌, length, map, drop, None, refl, sym, ap, ◌∙◌, subst, arith}
use Rattle.std.proofs.lemmas.List.{length-drop, length-take-le}
use Rattle.std.proofs.lemmas.List.Elements.{All-head, All-tail}
use Rattle.std.specs.Prelude.{All}
use Rattle.sc_base.specs.declared.token.Token.{Token}
use Rattle.sc_lines.specs.declared.line.Line.{Line}
use Rattle.sc_lines.specs.Branches.{without_branch}
use Rattle.sc_lines.specs.Split.{AreLines, FollowFrom, tokens_of}
use Rattle.sc_model.specs.declared.standard.Standard.{Standard}

module _ (tokens : List Token) where
  abbrev IsWithin : Line → Type 0
  IsWithin l = (l.first ≤ l.end) × (l.end ≤ length tokens)

  size : (l : Line) → IsWithin l → length (tokens_of tokens l) ≡ l.end - l.first
  size l w =
      let first = w.0 in
      let last = w.1 in
      length-take-le (l.end - l.first) (drop l.first tokens) (omega (arith, first, last, length-drop l.first tokens))

  end-same : (x y : Line) → IsWithin x → IsWithin y → x.first ≡ y.first → tokens_of tokens x ≡ tokens_of tokens y → x.end ≡ y.end
  end-same x y w v first same =
      let sizes : x.end - x.first ≡ y.end - y.first = sym (size x w) ∙ (ap (length {A = Token}) same ∙ size y v) in
      let x_first = w.0 in
      let y_first = v.0 in
      omega (arith, sizes, first, x_first, y_first)

  lines-from : (n : ℕ) (a b : List Line) → map (tokens_of tokens) a ≡ map (tokens_of tokens) b → map (λ l. l.directive) a ≡ map (λ l. l.directive) b
      → All IsWithin a → All IsWithin b → FollowFrom n a → FollowFrom n b → map without_branch a ≡ map without_branch b
  lines-from n [] [] same told w v f g = refl
  lines-from n [] (y ∷ ys) same told w v f g = cc
  lines-from n (x ∷ xs) [] same told w v f g = cc
  lines-from n (x ∷ xs) (y ∷ ys) same told w v f g =
      let one : tokens_of tokens x ≡ tokens_of tokens y = cc in
      let others : map (tokens_of tokens) xs ≡ map (tokens_of tokens) ys = cc in
      let directive : x.directive ≡ y.directive = cc in
      let directives : map (λ (l : Line). l.directive) xs ≡ map (λ (l : Line). l.directive) ys = cc in
      let first : x.first ≡ y.first = f.0 ∙ sym g.0 in
      let end : x.end ≡ y.end = end-same x y (All-head IsWithin x xs w) (All-head IsWithin y ys v) first one in
      let rest = lines-from (y.end + 1) xs ys others directives (All-tail IsWithin x xs w) (All-tail IsWithin y ys v) (subst (λ e. FollowFrom (e + 1) xs) end f.1) g.1 in
      (λ i. record { first = first i; end = end i; directive = directive i; branch = None } ∷ rest i)

pub lines-one : (standard : Standard) (names : List (List ℕ)) (tokens : List Token) (a b : List Line) → AreLines standard names tokens a → AreLines standard names tokens b → map without_branch a ≡ map without_branch b
lines-one standard names tokens a b p q =
    lines-from tokens 0 a b (p.tokens_are ∙ sym q.tokens_are) (p.directives ∙ sym q.directives) p.within q.within p.follow q.follow
