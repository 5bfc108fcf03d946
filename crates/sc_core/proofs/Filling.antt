-- That there are too many branches.
use Rattle.std.proofs.Common.{◌≡◌, ◌∙◌, ℕ, suc, zero, ◌+◌, ◌<◌, Bool, true, false, List, [], ◌∷◌, get_or, length, Option, Some, None, arith, refl, ap, subst}
use Rattle.std.proofs.lemmas.Bool.{false≢true}
use Rattle.std.proofs.lemmas.Bool.Decides.{nat_tests}
use Rattle.std.specs.Prelude.{◌&&◌, nat_lt, slice_index}
use Rattle.c11_directives.specs.Footprints.{Has}
use Rattle.c11_parsing.specs.Classes.{HasMoreClasses, IsClass, Input}
use Rattle.c11_parsing.specs.Parser.{Parser}
use Rattle.sc_base.specs.declared.stop.Stop.{Stop}
use Rattle.sc_base.specs.declared.stop.Stop.TheVariants.{BranchesFull, ReadFault, OutOfMemory}
use Rattle.sc_core.specs.Ordinary.{HasManyConfigs, HasManyFootprints, Setting}
use Rattle.sc_core.specs.Texts.{StopsIn, setting_of}
use Rattle.sc_expand.specs.Stops.{HasConfigs}
use Rattle.sc_fork.specs.Parsers.{c11_parser}
use Rattle.sc_model.specs.Outside.{Files}
use Rattle.sc_model.specs.Sets.{IsConfig}
use Rattle.sc_model.specs.Space.{Space, arities_of}
use Rattle.sc_prep.specs.Footprints.{StopsAmong}
use Rattle.sc_prep.specs.Preprocesses.{Stops}
use Rattle.sc_model.specs.declared.standard.Standard.TheVariants.{C11}

-- ---- whether a list is a configuration

abbrev pub is_config : (arities config : List ℕ) → Bool
is_config [] [] = true
is_config [] (k ∷ ks) = false
is_config (n ∷ ns) [] = false
is_config (n ∷ ns) (k ∷ ks) = nat_lt k n && is_config ns ks

below-is : (k n : ℕ) → k < n → nat_lt k n ≡ true
below-is k n below = grind (arith, nat_tests)

is-below : (k n : ℕ) → nat_lt k n ≡ true → k < n
is-below k n is = grind (arith, nat_tests)

pub config-is : (ns ks : List ℕ) → IsConfig ns ks → is_config ns ks ≡ true
config-is [] [] config = refl
config-is [] (k ∷ ks) config = let long : suc (length ks) ≡ 0 = config.long in absurd (omega arith)
config-is (n ∷ ns) [] config = let long : 0 ≡ suc (length ns) = config.long in absurd (omega arith)
config-is (n ∷ ns) (k ∷ ks) config =
    let long : suc (length ks) ≡ suc (length ns) = config.long in
    ap (λ b. b && is_config ns ks) (below-is k n (config.each 0 (omega arith)))
    ∙ config-is ns ks (record { long = omega (arith, long); each = λ v h. config.each (suc v) (omega (arith, h)) })

pub is-config : (ns ks : List ℕ) → is_config ns ks ≡ true → IsConfig ns ks
is-config [] [] is = record { long = refl; each = λ v h. absurd (omega (arith, h)) }
is-config [] (k ∷ ks) is = absurd (false≢true is)
is-config (n ∷ ns) [] is = absurd (false≢true is)
is-config (n ∷ ns) (k ∷ ks) is = by (nat_lt k n) refl is (λ more. is-config ns ks more)
  where
    each : k < n → IsConfig ns ks → (v : ℕ) → v < length (n ∷ ns) → slice_index (k ∷ ks) v < slice_index (n ∷ ns) v
    each first rest zero h = first
    each first rest (suc v) h = rest.each v (omega (arith, h))

    by : (b : Bool) → nat_lt k n ≡ b → (b && is_config ns ks) ≡ true → (is_config ns ks ≡ true → IsConfig ns ks) → IsConfig (n ∷ ns) (k ∷ ks)
    by true below more rest = record { long = ap suc (rest more).long; each = each (is-below k n below) (rest more) }
    by false below more rest = absurd (false≢true more)

-- ---- more configurations than branches

pub many-configs : (space : Space) → HasConfigs (arities_of space) (space.branches + 1) → HasManyConfigs space
many-configs space has = let many = has.many in record { configs = has.configs; many = omega (arith, many); formed = has.listed; apart = has.apart }

pub class-configs : (space : Space) (input : Input) → ((c : List ℕ) → input.live c ≡ true → IsConfig (arities_of space) c) → HasMoreClasses input space.branches → HasManyConfigs space
class-configs space input listed has =
    let distinct = has.distinct in
    record {
      configs = has.configs;
      many = has.more;
      formed = λ k d h. listed (get_or has.configs k d) (distinct.classes k d h).1.live.unrefused;
      apart = λ i j d below within alike.
          let first = distinct.classes i d (omega (arith, below, within)) in
          distinct.different i j d below within first.0 first.1 (subst (λ c. IsClass input has.place c first.0) alike first.1);
    }

-- ---- preprocessing stops

-- a parser, where none was made
pub any-parser : Parser
any-parser = c11_parser C11 (record { states = []; action = λ state symbol. None; goto = λ state symbol. None; conflicts = [] })

pub stops-before : (fills : Setting → Type 0) → ((s : Setting) → HasManyFootprints s → fills s) → (arities : List ℕ) (space : Space) (main : List ℕ) (holds : Option Files) (before after : ℕ) → arities ≡ arities_of space
    → (stop : Stop) → Stops arities space.branches before after stop → ((outside : Files) → holds ≡ Some outside → StopsAmong (IsConfig (arities_of space)) (Has space outside main) space.branches stop)
    → StopsIn fills holds before after space main stop
stops-before fills of arities space main holds before after same (BranchesFull count) stops here = (
  stops.0,
  record {
    configs = many-configs space (subst (λ ns. HasConfigs ns (space.branches + 1)) same stops.1);
    parser = any-parser;
    why = λ files told. of (setting_of space main any-parser files) (here files told);
  },
)
stops-before fills of arities space main holds before after same ReadFault stops here = stops
stops-before fills of arities space main holds before after same OutOfMemory stops here = tt
