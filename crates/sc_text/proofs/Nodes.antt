-- The line of a condition: its variable, and the texts of the options.
use Rattle.std.proofs.Common.{◌≡◌, ℕ, suc, ◌+◌, ◌<◌, Bool, true, false, List, [], ◌∷◌, length, map, All, Some, slice_get, refl, sym, ◌∙◌, ap, subst, arith, if◌then◌else◌}
use Rattle.std.proofs.lemmas.Bool.{true≢false}
use Rattle.std.proofs.lemmas.List.{length-map, get_or-map}
use Rattle.std.proofs.lemmas.List.Elements.{All-nil, All-cons, All-map}
use Rattle.std.proofs.lemmas.Option.{some_pair_parts, slice_get_within, get_or_from_slice_get, none-some, same_Some}
use Rattle.std.specs.List.{AllZip}
use Rattle.std.specs.Prelude.{slice_index}
use Rattle.sc_model.specs.Bytes.{same_bytes}
use Rattle.sc_text.specs.Layout.{sets_of, IsOrdered}
use Rattle.sc_model.specs.Sets.{IsCanonical, DependsFrom}
use Rattle.sc_model.proofs.SpaceLemmas.{length-option_words}
use Rattle.sc_model.specs.Space.{Variable, Space, arities_of, option_words}
use Rattle.sc_text.specs.Answer.{Condition}
use Rattle.sc_text.specs.Text.{variable_from, are_options}
use Rattle.sc_model.proofs.ByteLemmas.{same_bytes-true}
use Rattle.sc_text.proofs.ConditionLemmas.{are_options-cons}
use Rattle.sc_text.proofs.Expansions.{IsExpansion, Corresponds, one_variable, parts_correspond}
use Rattle.sc_text.proofs.LayoutReading.{IsNode}

-- the variable of a name stands at its place, and has the name
named_from : (n : ℕ) (vs : List Variable) (name : List ℕ) (place : ℕ) (variable : Variable) → variable_from n vs name ≡ Some (place, variable)
    → (k : ℕ) × (place ≡ n + k) × (slice_get vs k ≡ Some variable) × (variable.name ≡ name)
named_from n [] name place variable found = absurd (none-some _ found)
named_from n (v ∷ vs) name place variable found = by (same_bytes v.name name) refl found (named_from (n + 1) vs name place variable)
  where
    by : (b : Bool) → same_bytes v.name name ≡ b → (if b then Some (n, v) else variable_from (n + 1) vs name) ≡ Some (place, variable)
        → (variable_from (n + 1) vs name ≡ Some (place, variable) → (k : ℕ) × (place ≡ n + 1 + k) × (slice_get vs k ≡ Some variable) × (variable.name ≡ name))
        → (k : ℕ) × (place ≡ n + k) × (slice_get (v ∷ vs) k ≡ Some variable) × (variable.name ≡ name)
    by true same found later =
        let parts = some_pair_parts n place v variable found in
        (0, omega (arith, parts.0), ap Some parts.1, ap (λ (x : Variable). x.name) (sym parts.1) ∙ same_bytes-true v.name name same)
    by false other found later = let more = later found in (suc more.0, omega (arith, more.1), more.2, more.3)

-- the texts of the options, and smaller numbers
options-texts : (id : ℕ) (texts : List (List ℕ)) (options : List (List ℕ × ℕ)) → are_options id texts options ≡ true → map (λ (option : List ℕ × ℕ). option.0) options ≡ texts
options-texts id [] [] fits = refl
options-texts id (text ∷ texts) [] fits = absurd (true≢false (sym fits))
options-texts id [] (option ∷ options) fits = absurd (true≢false (sym fits))
options-texts id (text ∷ texts) (option ∷ options) fits =
    let parts = are_options-cons text texts option options fits in
    let first = parts.0 in
    let more = options-texts id texts options parts.2 in
    cc

options-smaller : (id : ℕ) (texts : List (List ℕ)) (options : List (List ℕ × ℕ)) → are_options id texts options ≡ true → All (λ part. part < id) (map (λ (option : List ℕ × ℕ). option.1) options)
options-smaller id [] [] fits = All-nil (λ part. part < id)
options-smaller id (text ∷ texts) [] fits = absurd (true≢false (sym fits))
options-smaller id [] (option ∷ options) fits = absurd (true≢false (sym fits))
options-smaller id (text ∷ texts) (option ∷ options) fits =
    let parts = are_options-cons text texts option options fits in
    All-cons (λ part. part < id) option.1 (map (λ (option : List ℕ × ℕ). option.1) options) parts.1 (options-smaller id texts options parts.2)

-- the options' texts with their numbers
pub same_options : (xs ys : List (List ℕ × ℕ)) → map (λ (option : List ℕ × ℕ). option.0) xs ≡ map (λ (option : List ℕ × ℕ). option.0) ys
    → map (λ (option : List ℕ × ℕ). option.1) xs ≡ map (λ (option : List ℕ × ℕ). option.1) ys → xs ≡ ys
same_options [] [] texts numbers = refl
same_options [] (y ∷ ys) texts numbers = cc
same_options (x ∷ xs) [] texts numbers = cc
same_options (x ∷ xs) (y ∷ ys) texts numbers =
    let text : x.0 ≡ y.0 = cc in
    let number : x.1 ≡ y.1 = cc in
    let first : x ≡ y = λ i. (text i, number i) in
    let more = same_options xs ys (cc) (cc) in
    cc

module _ {space : Space} {conditions : List Condition} {id : ℕ} {name : List ℕ} {options : List (List ℕ × ℕ)} (node : IsNode space conditions id name options) where
  -- the variable stands at its place, and has the name
  named : (slice_get space.variables node.place ≡ Some node.variable) × (node.variable.name ≡ name)
  named =
      let found = named_from 0 space.variables name node.place node.variable node.found in
      let same : found.0 ≡ node.place = omega (arith, found.1) in
      (subst (λ k. slice_get space.variables k ≡ Some node.variable) same found.2, found.3)

  -- a node splits its set
  IsExpansion-IsNode : IsOrdered space conditions name options → IsExpansion (sets_of space conditions) id node.place (map (λ (option : List ℕ × ℕ). option.1) options)
  IsExpansion-IsNode ordered = record {
    own = record { made = node.below };
    within = omega (arith, within, length-map space.variables (λ (v : Variable). length v.options));
    long = length-map options (λ (option : List ℕ × ℕ). option.1) ∙ sym (length-map options (λ (option : List ℕ × ℕ). option.0)) ∙ ap length (options-texts id (option_words node.variable.options) options node.fits)
        ∙ length-option_words node.variable.options ∙ sym arity;
    smaller = options-smaller id (option_words node.variable.options) options node.fits;
    later = All-map (λ part. DependsFrom (sets_of space conditions) part (node.place + 1)) (λ (option : List ℕ × ℕ). option.1) options (ordered.later node.place node.variable node.found);
    means = λ config listed. node.means config;
  }
    where
      within : node.place < length space.variables
      within = slice_get_within space.variables node.place node.variable named.0

      arity : slice_index (arities_of space) node.place ≡ length node.variable.options
      arity = get_or-map (λ (v : Variable). length v.options) space.variables node.place node.variable 0 within
          ∙ ap (λ (v : Variable). length v.options) (get_or_from_slice_get space.variables node.place node.variable node.variable named.0)

-- two nodes of one set: the same variable and texts, and numbers that stand for the same sets
pub record AreOneNode (space : Space) (conditions others : List Condition) (name label : List ℕ) (options choices : List (List ℕ × ℕ)) : Type 0 where
  pub names : name ≡ label
  pub texts : map (λ (option : List ℕ × ℕ). option.0) options ≡ map (λ (option : List ℕ × ℕ). option.0) choices
  pub numbers : AllZip (Corresponds space conditions others) (map (λ (option : List ℕ × ℕ). option.1) options) (map (λ (option : List ℕ × ℕ). option.1) choices)

pub one_node : {space : Space} {conditions others : List Condition} {a b : ℕ} {name label : List ℕ} {options choices : List (List ℕ × ℕ)} → IsCanonical (sets_of space conditions) → IsCanonical (sets_of space others)
    → IsNode space conditions a name options → IsOrdered space conditions name options → IsNode space others b label choices → IsOrdered space others label choices
    → 0 < a → 0 < b → Corresponds space conditions others a b → AreOneNode space conditions others name label options choices
one_node {space} {a = a} {b = b} {options = options} {choices = choices} canonical canonical_too node ordered node_too ordered_too positive positive_too c =
    let split = IsExpansion-IsNode node ordered in
    let split_too = IsExpansion-IsNode node_too ordered_too in
    let place = one_variable canonical canonical_too split split_too positive positive_too c in
    let found : Some node.variable ≡ Some node_too.variable = sym (named node).0 ∙ ap (slice_get space.variables) place ∙ (named node_too).0 in
    let variable = same_Some node.variable node_too.variable found in
    record {
      names = sym (named node).1 ∙ ap (λ (v : Variable). v.name) variable ∙ (named node_too).1;
      texts = options-texts a (option_words node.variable.options) options node.fits ∙ ap (λ (v : Variable). option_words v.options) variable
          ∙ sym (options-texts b (option_words node_too.variable.options) choices node_too.fits);
      numbers = parts_correspond canonical canonical_too split split_too positive positive_too c;
    }
