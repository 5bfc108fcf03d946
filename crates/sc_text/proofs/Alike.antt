-- Lists of the same items.
use Rattle.std.proofs.Common.{◌≡◌, ℕ, List, ◌∷◌, refl, sym, ap, ◌∙◌, if◌then◌else◌}
use Rattle.sc_text.specs.Layout.{AreAlike, no_item, left_out, left_out_there, both}
use Rattle.sc_model.specs.Sets.{IsConfig}
use Rattle.sc_model.specs.Space.{Space, arities_of}
use Rattle.sc_text.specs.Answer.{Condition, project}

-- the same items give each configuration the same list
pub AreAlike-project : {T : Type 0} {space : Space} {xs ys : List (Condition × T)} (config : List ℕ) → IsConfig (arities_of space) config → AreAlike space xs ys → project xs config ≡ project ys config
AreAlike-project config listed no_item = refl
AreAlike-project config listed (left_out f item xs ys empty rest) =
    ap (λ b. if b then item ∷ project xs config else project xs config) (empty.none config listed) ∙ AreAlike-project config listed rest
AreAlike-project config listed (left_out_there f item xs ys empty rest) =
    AreAlike-project config listed rest ∙ sym (ap (λ b. if b then item ∷ project ys config else project ys config) (empty.none config listed))
AreAlike-project config listed (both f g item xs ys same rest) =
    ap (λ b. if b then item ∷ project xs config else project xs config) (same.at config listed)
    ∙ ap (λ items. if g config then item ∷ items else items) (AreAlike-project config listed rest)
