-- Items that say the same have the same lines.
use Rattle.std.proofs.Common.{◌≡◌, ℕ, ◌+◌, ◌<◌, ◌⊎◌, List, [], ◌∷◌, ◌++◌, map, All, Some, slice_get, refl, sym, ap, subst, ◌∙◌, inl, inr, arith}
use Rattle.std.proofs.lemmas.Bool.{cases_lt}
use Rattle.std.proofs.lemmas.List.Elements.{All-head, All-tail}
use Rattle.std.proofs.lemmas.Option.{same_Some}
use Rattle.std.specs.List.{AllZip}
use Rattle.sc_text.specs.Answer.{Condition}
use Rattle.sc_text.specs.Layout.{Counts, IsKnown, Gives, next_condition, next_file, Introduces, nothing, known, new, LaysOut, done, shows, sets_of, HasOrder}
use Rattle.sc_model.specs.Growth.{IsOneToOne}
use Rattle.sc_model.specs.Sets.{IsCanonical}
use Rattle.sc_model.specs.Space.{Space}
use Rattle.sc_text.specs.Text.{TextLine, condition_line, file_line, Need, condition_numbered, file_numbered, needs}
use Rattle.sc_text.proofs.Expansions.{Corresponds}
use Rattle.sc_text.proofs.LayoutReading.{Holds}
use Rattle.sc_text.proofs.ListLemmas.{All-front, All-back}
use Rattle.sc_text.proofs.Nodes.{one_node, same_options}

-- a line that was read of a text, in the order of its conditions
abbrev pub Fits : Space → List Condition → List (List ℕ) → TextLine → Type 0
Fits space conditions files line = Holds space conditions files line × HasOrder space conditions line

-- the number of one text and that of the other stand for the same file
pub record IsSameFile (files names : List (List ℕ)) (u v : ℕ) : Type 0 where
  pub name : List ℕ
  pub found : slice_get files u ≡ Some name
  pub found_too : slice_get names v ≡ Some name

-- what the one text needs and what the other does stand for the same
abbrev pub IsSameNeed : Space → List Condition → List Condition → List (List ℕ) → List (List ℕ) → Need → Need → Type 0
IsSameNeed space conditions others files names (condition_numbered a) (condition_numbered b) = Corresponds space conditions others a b
IsSameNeed space conditions others files names (file_numbered a) (file_numbered b) = IsSameFile files names a b
IsSameNeed space conditions others files names a b = ⊥

-- the first numbers of both texts stand for the same
pub record AgreeBelow (space : Space) (conditions others : List Condition) (files names : List (List ℕ)) (counts : Counts) : Type 0 where
  pub positive : 0 < counts.conditions
  pub each : (need : Need) → IsKnown counts need → IsSameNeed space conditions others files names need need

-- lines that need the same, and are one where the numbers are
pub record IsSameItem (space : Space) (conditions others : List Condition) (files names : List (List ℕ)) (x y : TextLine) : Type 0 where
  pub same : AllZip (IsSameNeed space conditions others files names) (needs x) (needs y)
  pub one : needs x ≡ needs y → x ≡ y

-- ---- what lines give

-- what stands already still does
IsKnown-Gives : {n m : Counts} {line : TextLine} {need : Need} (other : Need) → Gives n line need m → IsKnown n other → IsKnown m other
IsKnown-Gives (condition_numbered u) (next_condition n variable options) below = omega arith
IsKnown-Gives (file_numbered u) (next_condition n variable options) below = below
IsKnown-Gives (condition_numbered u) (next_file n name) below = below
IsKnown-Gives (file_numbered u) (next_file n name) below = omega arith

pub IsKnown-Introduces : {n m : Counts} {us : List Need} {lines : List TextLine} (other : Need) → Introduces n us lines m → IsKnown n other → IsKnown m other
IsKnown-Introduces other (nothing n) below = below
IsKnown-Introduces other (known n m u us lines stands rest) below = IsKnown-Introduces other rest below
IsKnown-Introduces other (new n before after m line u us lines more introduced gives rest) below =
    IsKnown-Introduces other rest (IsKnown-Gives other gives (IsKnown-Introduces other introduced below))

-- what is given did not stand yet
is_new : {n m : Counts} {line : TextLine} {need : Need} → Gives n line need m → IsKnown n need → ⊥
is_new (next_condition n variable options) below = omega arith
is_new (next_file n name) below = omega arith

begun : {n m : Counts} {us : List Need} {lines : List TextLine} → Introduces n us lines m → 0 < n.conditions → 0 < m.conditions
begun {n} introduced positive = IsKnown-Introduces (condition_numbered 0) introduced positive

-- what stands afterwards stood before, or is what was given
known-Gives : {n m : Counts} {line : TextLine} {need : Need} (other : Need) → Gives n line need m → IsKnown m other → IsKnown n other ⊎ (need ≡ other)
known-Gives (condition_numbered u) (next_condition n variable options) below = elim (cases_lt u n.conditions) [ inl less ↦ inl less | inr most ↦ inr (ap condition_numbered (omega arith)) ]
known-Gives (file_numbered u) (next_condition n variable options) below = inl below
known-Gives (condition_numbered u) (next_file n name) below = inl below
known-Gives (file_numbered u) (next_file n name) below = elim (cases_lt u n.files) [ inl less ↦ inl less | inr most ↦ inr (ap file_numbered (omega arith)) ]

-- ---- the same lines, with the same numbers

pub record AreOneIntroduction (space : Space) (conditions others : List Condition) (files names : List (List ℕ)) (us vs : List Need) (xs ys : List TextLine) (m k : Counts) : Type 0 where
  pub needed : us ≡ vs
  pub lines : xs ≡ ys
  pub counts : m ≡ k
  pub agree : AgreeBelow space conditions others files names m

module _ (space : Space) (conditions others : List Condition) (files names : List (List ℕ)) (canonical : IsCanonical (sets_of space conditions)) (canonical_too : IsCanonical (sets_of space others)) (one : IsOneToOne files) (one_too : IsOneToOne names) where
  abbrev Same : Need → Need → Type 0
  Same = IsSameNeed space conditions others files names

  -- one number for one set, and for one file
  one_need : (u v : Need) → Same u v → Same v v → u ≡ v
  one_need (condition_numbered u) (condition_numbered v) c d =
      ap condition_numbered (canonical.one u v (record { made = c.below }) (record { made = d.below }) (record { at = λ config listed. c.same.at config listed ∙ sym (d.same.at config listed) }))
  one_need (file_numbered u) (file_numbered v) c d = ap file_numbered (one.same u v c.name c.found (d.found ∙ sym d.found_too ∙ c.found_too))
  one_need (condition_numbered u) (file_numbered v) c d = absurd c
  one_need (file_numbered u) (condition_numbered v) c d = absurd c

  one_need_too : (u v : Need) → Same u v → Same u u → u ≡ v
  one_need_too (condition_numbered u) (condition_numbered v) c d =
      ap condition_numbered (canonical_too.one u v (record { made = d.below_too }) (record { made = c.below_too }) (record { at = λ config listed. sym (d.same.at config listed) ∙ c.same.at config listed }))
  one_need_too (file_numbered u) (file_numbered v) c d = ap file_numbered (one_too.same u v c.name (d.found_too ∙ sym d.found ∙ c.found) c.found_too)
  one_need_too (condition_numbered u) (file_numbered v) c d = absurd c
  one_need_too (file_numbered u) (condition_numbered v) c d = absurd c

  AgreeBelow-Gives : {n m : Counts} {line : TextLine} {need : Need} → Gives n line need m → AgreeBelow space conditions others files names n → Same need need → AgreeBelow space conditions others files names m
  AgreeBelow-Gives {n} {need = need} gives agree here = record {
    positive = IsKnown-Gives (condition_numbered 0) gives agree.positive;
    each = λ other stands. elim (known-Gives other gives stands) [ inl before ↦ agree.each other before | inr is ↦ subst (λ w. Same w w) is here ];
  }

  same_children : (xs ys : List (List ℕ × ℕ)) → AllZip (Corresponds space conditions others) (map (λ (option : List ℕ × ℕ). option.1) xs) (map (λ (option : List ℕ × ℕ). option.1) ys)
      → AllZip Same (map (λ (option : List ℕ × ℕ). condition_numbered option.1) xs) (map (λ (option : List ℕ × ℕ). condition_numbered option.1) ys)
  same_children [] [] same = tt
  same_children [] (y ∷ ys) same = absurd same
  same_children (x ∷ xs) [] same = absurd same
  same_children (x ∷ xs) (y ∷ ys) same = (same.0, same_children xs ys same.1)

  -- the lines that give the same are the same where their numbers are
  same_given : {n l m k : Counts} {x y : TextLine} {u v : Need} → Gives n x u m → Gives l y v k → 0 < n.conditions → 0 < l.conditions → Fits space conditions files x → Fits space others names y → Same u v
      → AllZip Same (needs x) (needs y) × (n ≡ l → needs x ≡ needs y → (x ≡ y) × (u ≡ v) × (m ≡ k))
  same_given (next_condition n name options) (next_condition l label choices) positive positive_too fits fits_too same =
      let node = one_node canonical canonical_too fits.0 fits.1 fits_too.0 fits_too.1 positive positive_too same in (
        same_children options choices node.numbers,
        λ start needed.
            let chosen = same_options options choices node.texts (same_numbers options choices needed) in
            (λ i. condition_line (start i).conditions (node.names i) (chosen i), λ i. condition_numbered (start i).conditions, λ i. record { conditions = (start i).conditions + 1; files = (start i).files }),
      )
    where
      same_numbers : (xs ys : List (List ℕ × ℕ)) → map (λ (option : List ℕ × ℕ). condition_numbered option.1) xs ≡ map (λ (option : List ℕ × ℕ). condition_numbered option.1) ys
          → map (λ (option : List ℕ × ℕ). option.1) xs ≡ map (λ (option : List ℕ × ℕ). option.1) ys
      same_numbers [] [] needed = refl
      same_numbers [] (y ∷ ys) needed = cc
      same_numbers (x ∷ xs) [] needed = cc
      same_numbers (x ∷ xs) (y ∷ ys) needed =
          let first : x.1 ≡ y.1 = cc in
          let rest = same_numbers xs ys (cc) in
          cc
  same_given (next_file n name) (next_file l label) positive positive_too fits fits_too same =
      let spelled = same_Some name label (sym fits.0 ∙ same.found ∙ sym same.found_too ∙ fits_too.0) in
      (tt, λ start needed. (λ i. file_line (start i).files (spelled i), λ i. file_numbered (start i).files, λ i. record { conditions = (start i).conditions; files = (start i).files + 1 }))
  same_given (next_condition n variable options) (next_file l label) positive positive_too fits fits_too same = absurd same
  same_given (next_file n name) (next_condition l variable options) positive positive_too fits fits_too same = absurd same

  pub one_introduction : {n l m k : Counts} {us vs : List Need} {xs ys : List TextLine} → Introduces n us xs m → Introduces l vs ys k → n ≡ l → AgreeBelow space conditions others files names n
      → AllZip Same us vs → All (Fits space conditions files) xs → All (Fits space others names) ys → AreOneIntroduction space conditions others files names us vs xs ys m k
  one_introduction (nothing n) (nothing l) start agree same fits fits_too = record { needed = refl; lines = refl; counts = start; agree = agree }
  one_introduction (nothing n) (known l k v vs ys stands rest) start agree same fits fits_too = absurd same
  one_introduction (nothing n) (new l before after k y v vs ys more introduced gives rest) start agree same fits fits_too = absurd same
  one_introduction (known n m u us xs stands rest) (nothing l) start agree same fits fits_too = absurd same
  one_introduction (known n m u us xs stands rest) (known l k v vs ys stands_too rest_too) start agree same fits fits_too =
      let first = one_need u v same.0 (agree.each v (subst (λ c. IsKnown c v) (sym start) stands_too)) in
      let later = one_introduction rest rest_too start agree same.1 fits fits_too in
      record { needed = λ i. first i ∷ later.needed i; lines = later.lines; counts = later.counts; agree = later.agree }
  one_introduction (known n m u us xs stands rest) (new l before after k y v vs ys more introduced gives rest_too) start agree same fits fits_too =
      let first = one_need_too u v same.0 (agree.each u stands) in
      absurd (is_new gives (IsKnown-Introduces v introduced (subst (λ c. IsKnown c v) start (subst (IsKnown n) first stands))))
  one_introduction (new n before after m x u us xs more introduced gives rest) (nothing l) start agree same fits fits_too = absurd same
  one_introduction (new n before after m x u us xs more introduced gives rest) (known l k v vs ys stands rest_too) start agree same fits fits_too =
      let stood = subst (λ c. IsKnown c v) (sym start) stands in
      let first = one_need u v same.0 (agree.each v stood) in
      absurd (is_new gives (IsKnown-Introduces u introduced (subst (IsKnown n) (sym first) stood)))
  one_introduction (new n before after m x u us xs more introduced gives rest) (new l before_too after_too k y v vs ys more_too introduced_too gives_too rest_too) start agree same fits fits_too =
      let P = Fits space conditions files in
      let Q = Fits space others names in
      let later_fits = All-back P xs (x ∷ more) fits in
      let later_fits_too = All-back Q ys (y ∷ more_too) fits_too in
      let positive_too = subst (λ (c : Counts). 0 < c.conditions) start agree.positive in
      let alike = same_given gives gives_too (begun introduced agree.positive) (begun introduced_too positive_too) (All-head P x more later_fits) (All-head Q y more_too later_fits_too) same.0 in
      let below = one_introduction introduced introduced_too start agree alike.0 (All-front P xs (x ∷ more) fits) (All-front Q ys (y ∷ more_too) fits_too) in
      let line = alike.1 below.counts below.needed in
      let own = subst (λ w. Same u w) (sym line.1) same.0 in
      let later = one_introduction rest rest_too line.2 (AgreeBelow-Gives gives below.agree own) same.1 (All-tail P x more later_fits) (All-tail Q y more_too later_fits_too) in
      record {
        needed = λ i. line.1 i ∷ later.needed i;
        lines = λ i. below.lines i ++ line.0 i ∷ later.lines i;
        counts = later.counts;
        agree = later.agree;
      }

  pub one_layout : {n l m k : Counts} {items shown xs ys : List TextLine} → LaysOut n items xs m → LaysOut l shown ys k → n ≡ l → AgreeBelow space conditions others files names n
      → AllZip (IsSameItem space conditions others files names) items shown → All (Fits space conditions files) xs → All (Fits space others names) ys → xs ≡ ys
  one_layout (done n) (done l) start agree same fits fits_too = refl
  one_layout (done n) (shows l after k y shown first ys introduced rest) start agree same fits fits_too = absurd same
  one_layout (shows n after m x items first xs introduced rest) (done l) start agree same fits fits_too = absurd same
  one_layout (shows n after m x items first xs introduced rest) (shows l after_too k y shown first_too ys introduced_too rest_too) start agree same fits fits_too =
      let P = Fits space conditions files in
      let Q = Fits space others names in
      let before = one_introduction introduced introduced_too start agree same.0.same (All-front P first (x ∷ xs) fits) (All-front Q first_too (y ∷ ys) fits_too) in
      let item = same.0.one before.needed in
      let later = one_layout rest rest_too before.counts before.agree same.1 (All-tail P x xs (All-back P first (x ∷ xs) fits)) (All-tail Q y ys (All-back Q first_too (y ∷ ys) fits_too)) in
      λ i. before.lines i ++ item i ∷ later i
