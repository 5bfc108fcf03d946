-- What words choose, step by step.
use Rattle.std.proofs.Common.{◌≡◌, ℕ, zero, suc, ◌+◌, ◌<◌, ◌≤◌, drop, add-one, if◌then◌else◌, true, false, Bool, cond, not, List, [], ◌∷◌, length, map, get_or, replicate, Option, Some, None, option_map, unwrap_or, Result, Ok, refl, sym, ap, subst, ◌∙◌, arith, inl, inr}
use Rattle.std.proofs.lemmas.Bool.{lt-ltb, le-ltb, eq-eqb, ne_eqb, cases_eq}
use Rattle.std.proofs.lemmas.List.{drop_all, length-map, length-set, length-replicate, get_or-map, get_or-replicate, get_or-set_same, get_or-set_other, same_lists}
use Rattle.std.proofs.lemmas.List.FromFn.{get_or-map-range_with_len, length-map-range_with_len}
use Rattle.std.proofs.lemmas.List.Quantifiers.{position-Some}
use Rattle.std.proofs.lemmas.List.Elements.{All-cons, All-nil, All-head, All-tail}
use Rattle.std.proofs.Math.Seq.{drop-cons}
use Rattle.std.proofs.lemmas.Iterator.Adapters.{position_from-zero}
use Rattle.std.specs.List.{All, position, position_from, position_or_len, before_first, after_first, range_with_len, slice_get}
use Rattle.std.specs.Option.{ok_or}
use Rattle.std.specs.Prelude.{◌==◌, slice_index, slice_set}
use Rattle.sc_model.specs.Bytes.{same_bytes}
use Rattle.sc_model.specs.Sets.{HasOptions, IsConfig}
use Rattle.sc_model.proofs.SpaceLemmas.{length-option_words}
use Rattle.sc_model.specs.Space.{Variable, Space, arities_of, option_word, option_words, words_from}
use Rattle.sc_space.specs.declared.config.Choice.{Choice}
use Rattle.sc_space.specs.declared.space.Variable.{Variable as ReadVariable}
use Rattle.sc_space.specs.Config.{split_word, variable_named, options_at, option_written, option_for, check_fresh, Fills, read_parts, read_choice, read_choices, config_of, read_config}
use Rattle.sc_space.specs.declared.fault.SpaceStop.{SpaceStop}
use Rattle.sc_space.specs.declared.option.VariableOption.{VariableOption as ReadOption}
use Rattle.sc_space.specs.Seen.{seen_option, seen_variable, Refuses}
use Rattle.sc_space.specs.SpaceFile.{Fault, unknown_variable, unknown_option, ◌>>=◌}
use Rattle.sc_space.proofs.Reading.{refused_first}
use Rattle.sc_space.proofs.Soundness.{was_some, same_Ok, went_on}

position_or_len-map : {A B : Type 0} (f : A → B) (p : B → Bool) (xs : List A) → position_or_len p (map f xs) ≡ position_or_len (λ x. p (f x)) xs
position_or_len-map f p [] = refl
position_or_len-map f p (x ∷ xs) = ap (λ n. cond (not (p (f x))) (1 + n) 0) (position_or_len-map f p xs)

pub position-map : {A B : Type 0} (f : A → B) (p : B → Bool) (xs : List A) → position p (map f xs) ≡ position (λ x. p (f x)) xs
position-map f p xs = rw (length-map xs f, position_or_len-map f p xs)

-- where a word is cut
pub split_word-at : (word : List ℕ) → position_or_len (λ b. b == 61) word < length word → split_word word ≡ Some (before_first (λ b. b == 61) word, after_first (λ b. b == 61) word)
split_word-at word within = rw (lt-ltb _ _ within)

pub split_word-none : (word : List ℕ) → position_or_len (λ b. b == 61) word ≡ length word → split_word word ≡ None
split_word-none word whole = rw (le-ltb (position_or_len (λ b. b == 61) word) (length word) (omega (arith, whole)))

pub options_at-seen : (vs : List ReadVariable) (v : ℕ) (variable : ReadVariable) → v < length vs → variable ≡ get_or vs v variable
    → unwrap_or (option_map (λ (v : Variable). v.options) (slice_get (map seen_variable vs) v)) [] ≡ map seen_option variable.options.items
options_at-seen [] v variable within is = absurd (omega arith)
options_at-seen (x ∷ vs) zero variable within is = ap (λ (v : ReadVariable). map seen_option v.options.items) (sym is)
options_at-seen (x ∷ vs) (suc v) variable within is = options_at-seen vs v variable (omega arith) is

-- ---- the places that are filled

pub Fills-first : (n : ℕ) → Fills [] (replicate n None)
Fills-first n =
    let none : Option ℕ = None in
    record { at = λ v below. get_or-replicate n v none none (omega (arith, length-replicate n none)) }

Fills-more : (choices : List Choice) (chosen : List (Option ℕ)) (choice : Choice) → Fills choices chosen → choice.variable < length chosen → Fills (choice ∷ choices) (slice_set chosen choice.variable (Some choice.option))
Fills-more choices chosen choice fills within = record {
  at = λ v below.
      elim (cases_eq choice.variable v) [
        | inl same ↦ rw (← same, eq-eqb choice.variable choice.variable refl) (get_or-set_same chosen choice.variable (Some choice.option) None within)
        | inr other ↦ rw (ne_eqb _ _ other)
            (get_or-set_other chosen choice.variable v (Some choice.option) None (λ same. other (sym same)) ∙ fills.at v (omega (arith, length-set chosen choice.variable (Some choice.option))))
      ];
}

filled_is : (space : Space) (choices : List Choice) (chosen : List (Option ℕ)) → Fills choices chosen → length chosen ≡ length space.variables → map (λ o. unwrap_or o 0) chosen ≡ config_of space choices
filled_is space choices chosen fills long =
    let option : ℕ → ℕ = λ v. unwrap_or (option_for choices v) 0 in
    same_lists (map (λ o. unwrap_or o 0) chosen) (map option (range_with_len 0 (length space.variables)))
    (length-map chosen (λ o. unwrap_or o 0) ∙ long ∙ sym (length-map-range_with_len option 0 (length space.variables)))
    (λ k d below.
    let within : k < length chosen = omega (arith, length-map chosen (λ (o : Option ℕ). unwrap_or o 0)) in
    get_or-map (λ o. unwrap_or o 0) chosen k None d within ∙ ap (λ o. unwrap_or o 0) (fills.at k within)
    ∙ sym (get_or-map-range_with_len option 0 (length space.variables) k k d (omega (arith, long)) (omega arith)))

-- what was chosen by the words before those that are left
pub record HasRead (space : Space) (words left : List (List ℕ)) (chosen : List (Option ℕ)) : Type 0 where
  pub before : List Choice
  pub same : read_choices space [] words ≡ read_choices space before left
  pub fills : Fills before chosen
  pub long : length chosen ≡ length space.variables

module _ (space : Space) (words : List (List ℕ)) where
  pub HasRead-first : (n : ℕ) → n ≡ length space.variables → HasRead space words words (replicate n None)
  HasRead-first n long = record { before = []; same = refl; fills = Fills-first n; long = length-replicate n None ∙ long }

  module _ (word : List ℕ) (left : List (List ℕ)) (chosen : List (Option ℕ)) (h : HasRead space words (word ∷ left) chosen) where
    pub HasRead-more : (choice : Choice) → read_choice space h.before word ≡ Ok choice → choice.variable < length chosen → HasRead space words left (slice_set chosen choice.variable (Some choice.option))
    unfolding read_choices
    HasRead-more choice read within = record {
      before = choice ∷ h.before;
      same = h.same ∙ rw read;
      fills = Fills-more h.before chosen choice h.fills within;
      long = length-set chosen choice.variable (Some choice.option) ∙ h.long;
    }

    pub HasRead-refused : (refused : SpaceStop) → Refuses refused (read_choice space h.before word) → Refuses refused (read_config space words)
    unfolding read_choices read_config
    HasRead-refused refused answer = rw h.same (refused_first refused _ _ (refused_first refused _ _ answer))

  pub HasRead-all : (chosen : List (Option ℕ)) → HasRead space words [] chosen → read_config space words ≡ Ok (map (λ o. unwrap_or o 0) chosen)
  unfolding read_choices read_config
  HasRead-all chosen h = rw h.same (ap Ok (sym (filled_is space h.before chosen h.fills h.long)))

-- ---- a configuration of the space

arity_at : (vs : List Variable) (v : ℕ) → length (unwrap_or (option_map (λ (v : Variable). v.options) (slice_get vs v)) []) ≡ slice_index (map (λ (v : Variable). length v.options) vs) v
arity_at [] v = refl
arity_at (x ∷ vs) zero = refl
arity_at (x ∷ vs) (suc v) = arity_at vs v

record IsWithin (space : Space) (choice : Choice) : Type 0 where
  below : choice.option < slice_index (arities_of space) choice.variable

parts_within : (space : Space) (before : List Choice) (parts : List ℕ × List ℕ) (choice : Choice) → read_parts space before parts ≡ Ok choice → IsWithin space choice
unfolding read_parts
parts_within space before parts choice read =
    let made : ℕ → ℕ → Result Choice Fault = λ v o. Ok (record { variable = v; option = o }) in
    let optioned : ℕ → Result Choice Fault = λ v. ok_or (option_written (options_at space v) parts.1) (unknown_option parts.0) >>= made v in
    let v = went_on (ok_or (variable_named space parts.0) (unknown_variable parts.0)) (λ v. check_fresh before v parts.0 >>= (λ _. optioned v)) choice read in
    let fresh = went_on (check_fresh before v.0 parts.0) (λ _. optioned v.0) choice v.2 in
    let o = went_on (ok_or (option_written (options_at space v.0) parts.1) (unknown_option parts.0)) (made v.0) choice fresh.2 in
    let words : o.0 < length (option_words (options_at space v.0)) = (position-Some (same_bytes parts.1) (option_words (options_at space v.0)) o.0 [] (was_some _ _ _ o.1)).0 in
    let found : o.0 < length (options_at space v.0) = omega (arith, words, length-option_words (options_at space v.0)) in
    let within : IsWithin space (record { variable = v.0; option = o.0 }) = record { below = omega (arith, found, arity_at space.variables v.0) } in
    let is_choice : record { variable = v.0; option = o.0 } ≡ choice = same_Ok _ _ o.2 in
    subst (IsWithin space) is_choice within

choice_within : (space : Space) (before : List Choice) (word : List ℕ) (choice : Choice) → read_choice space before word ≡ Ok choice → IsWithin space choice
unfolding read_choice
choice_within space before word choice read =
    let parts = went_on (ok_or (split_word word) (unknown_variable word)) (read_parts space before) choice read in
    parts_within space before parts.0 choice parts.2

choices_within : (space : Space) (before choices : List Choice) (words : List (List ℕ)) → All (IsWithin space) before → read_choices space before words ≡ Ok choices → All (IsWithin space) choices
unfolding read_choices
choices_within space before choices [] within read = subst (All (IsWithin space)) (same_Ok _ _ read) within
choices_within space before choices (word ∷ words) within read =
    let first = went_on _ _ choices read in
    choices_within space (first.0 ∷ before) choices words (All-cons (IsWithin space) first.0 before (choice_within space before word first.0 first.1) within) first.2

option_within : (space : Space) (choices : List Choice) (v : ℕ) → All (IsWithin space) choices → 0 < slice_index (arities_of space) v → unwrap_or (option_for choices v) 0 < slice_index (arities_of space) v
option_within space [] v within some = some
option_within space (choice ∷ choices) v within some =
    elim (cases_eq choice.variable v) [
      | inl same ↦ rw (← same, eq-eqb choice.variable choice.variable refl) (All-head (IsWithin space) choice choices within).below
      | inr other ↦ rw (ne_eqb _ _ other) (option_within space choices v (All-tail (IsWithin space) choice choices within) some)
    ]

pub formed : (space : Space) (words : List (List ℕ)) (config : List ℕ) → HasOptions (arities_of space) → read_config space words ≡ Ok config → IsConfig (arities_of space) config
unfolding read_config
formed space words config some read =
    let choices = went_on _ _ config read in
    let within = choices_within space [] choices.0 words (All-nil (IsWithin space)) choices.1 in
    let n = length space.variables in
    let option : ℕ → ℕ = λ v. unwrap_or (option_for choices.0 v) 0 in
    let arities = length-map space.variables (λ (v : Variable). length v.options) in
    subst (IsConfig (arities_of space)) (same_Ok _ _ choices.2) (record {
      long = length-map-range_with_len option 0 n ∙ sym arities;
      each = λ v below. rw (get_or-map-range_with_len option 0 n v v 0 (omega (arith, arities)) (omega arith)) (option_within space choices.0 v within (some.each v below));
    })

-- ---- the option that is written so

-- which option is the first one, where the options before this index are not written so
abbrev pub found_from : List ℕ → ℕ → List ReadOption → Option ℕ
found_from word i options = position_from (same_bytes word) i (words_from i (map seen_option options))

pub written-first : (word : List ℕ) (options : List ReadOption) → option_written (map seen_option options) word ≡ found_from word 0 options
written-first word options = position_from-zero (same_bytes word) (option_words (map seen_option options))

module _ (word : List ℕ) (options : List ReadOption) (i : ℕ) (o : ReadOption) (within : i < length options) (is : o ≡ get_or options i o) where
  left : found_from word i (drop i options) ≡ (if same_bytes word (option_word i (seen_option o)) then Some i else found_from word (i + 1) (drop (i + 1) options))
  left = ap (found_from word i) (drop-cons options i o within) ∙ rw (← is, add-one) refl

  pub written-here : same_bytes word (option_word i (seen_option o)) ≡ true → found_from word i (drop i options) ≡ Some i
  written-here same = left ∙ rw same refl

  pub written-later : same_bytes word (option_word i (seen_option o)) ≡ false → found_from word i (drop i options) ≡ found_from word (i + 1) (drop (i + 1) options)
  written-later other = left ∙ rw other refl

pub written-nowhere : (word : List ℕ) (options : List ReadOption) (i : ℕ) → length options ≤ i → found_from word i (drop i options) ≡ None
written-nowhere word options i past = ap (found_from word i) (drop_all i options past)
