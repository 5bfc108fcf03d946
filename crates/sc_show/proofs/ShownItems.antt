-- The items of a list at a configuration.
use Rattle.std.proofs.Common.{◌≡◌, ℕ, Bool, true, false, List, [], ◌∷◌, map, refl, ap, if◌then◌else◌}
use Rattle.sc_base.specs.declared.id.Cond.{Cond}
use Rattle.sc_guarded.specs.Items.{items_at}
use Rattle.sc_base.specs.declared.token.Token.{Token}
use Rattle.sc_base.specs.Seen.{seen}
use Rattle.sc_model.specs.Sets.{Sets}
use Rattle.sc_text.specs.Answer.{project}
use Rattle.sc_model.specs.Token.{Shown, shown}
use Rattle.sc_show.specs.Shows.{shown_items}

-- what is shown of a list at a configuration
pub project-shown_items : (s : Sets) (names files : List (List ℕ)) (list : List (Cond × Token)) (c : List ℕ)
    → project (shown_items s names files list) c ≡ map (λ t. shown (seen names files t)) (items_at s list c)
project-shown_items s names files [] c = refl
project-shown_items s names files (item ∷ items) c = by (s.has item.0.0 c) (project-shown_items s names files items c)
  where
    show : Token → Shown
    show t = shown (seen names files t)

    by : (b : Bool) → project (shown_items s names files items) c ≡ map show (items_at s items c)
        → (if b then show item.1 ∷ project (shown_items s names files items) c else project (shown_items s names files items) c)
        ≡ map show (if b then item.1 ∷ items_at s items c else items_at s items c)
    by true ih = ap (λ r. show item.1 ∷ r) ih
    by false ih = ih
