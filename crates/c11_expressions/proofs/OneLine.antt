-- A line is decided in one way.
use Rattle.std.proofs.Common.{◌≡◌, ℕ, List, Bool, true, false, map, Result, Ok, Err, refl, sym, ap, subst}
use Rattle.std.specs.List.{list_any}
use Rattle.c11_expressions.specs.Lines.{without_defined, symbol_at, is_defined, Comes, unexpanded, left_over, evaluated, Decides, malformed, expanded, failure, verdict}
use Rattle.c11_expressions.proofs.Evaluating.{has_result, one_result}
use Rattle.c11_macros.proofs.Halting.{halts}
use Rattle.c11_macros.proofs.OneAnswer.{one}
use Rattle.c11_macros.specs.Expansion.{Expands, IsWithin}
use Rattle.c11_macros.specs.Hidden.{Hidden, Provenance, Failure}
use Rattle.c11_macros.specs.Macros.{Macros}
use Rattle.sc_model.specs.declared.cause.Cause.{Cause}
use Rattle.sc_model.specs.declared.cause.Cause.TheVariants.{DefinedFromMacro}
use Rattle.sc_model.specs.declared.standard.Standard.{Standard}

module _ {P : Type 0} {standard : Standard} {hash : P} where
  comes-one : (x : Result (List (Hidden P)) (Failure P)) (r s : Result Bool (Failure P)) → Comes standard hash x r → Comes standard hash x s → r ≡ s
  comes-one x r s (unexpanded a) (unexpanded b) = refl
  comes-one x r s (left_over a h) (left_over b k) = refl
  comes-one x r s (left_over a h) (evaluated b q k d) = absurd (cc)
  comes-one x r s (evaluated a q h d) (left_over b k) = absurd (cc)
  comes-one x r s (evaluated a q h d) (evaluated b p k e) = ap (verdict hash) (one_result _ q p d e)

  pub one_line : (provenance : Provenance P) (macros : Macros) (ts : List (Hidden P)) (r s : Result Bool (Failure P)) → Decides standard provenance macros hash ts r → Decides standard provenance macros hash ts s → r ≡ s
  one_line provenance macros ts r s (malformed a h) (malformed b k) = let same : a ≡ b = cc in ap (λ c. Err (failure c hash)) same
  one_line provenance macros ts r s (malformed a h) (expanded us x q k d f) = absurd (cc)
  one_line provenance macros ts r s (expanded us x q k d f) (malformed a h) = absurd (cc)
  one_line provenance macros ts r s (expanded us x q h d f) (expanded vs y p k e g) =
      let lists : vs ≡ us = cc in
      let same = one d y (subst (λ l. Expands provenance macros l y) lists e) in
      comes-one x r s f (subst (λ z. Comes standard hash z s) (sym same.answer) g)

module _ {P : Type 0} {standard : Standard} (hash : P) where
  comes-some : (x : Result (List (Hidden P)) (Failure P)) → (r : Result Bool (Failure P)) × Comes standard hash x r
  comes-some (Err refusal) = (Err refusal, unexpanded refusal)
  comes-some (Ok ts) = by (list_any is_defined ts) refl
    where
      by : (b : Bool) → list_any is_defined ts ≡ b → (r : Result Bool (Failure P)) × Comes standard hash (Ok ts) r
      by true is = (Err (failure DefinedFromMacro hash), left_over ts is)
      by false is = let value = has_result (map (symbol_at standard) ts) in (verdict hash value.0, evaluated ts value.0 is value.1)

  pub some_line : (provenance : Provenance P) (macros : Macros) (names : List (List ℕ)) → IsWithin names macros → (ts : List (Hidden P)) → (r : Result Bool (Failure P)) × Decides standard provenance macros hash ts r
  some_line provenance macros names within ts = by (without_defined macros ts) refl
    where
      by : (l : Result (List (Hidden P)) Cause) → without_defined macros ts ≡ l → (r : Result Bool (Failure P)) × Decides standard provenance macros hash ts r
      by (Err cause) is = (Err (failure cause hash), malformed cause is)
      by (Ok us) is =
          let x = halts provenance macros names within us in
          let r = comes-some x.0 in
          (r.0, expanded us x.0 r.0 is x.1 r.1)
