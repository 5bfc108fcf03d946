-- Rows that are kept once each, and the sets that they make.
use Rattle.std.proofs.Common.{◌≡◌, ℕ, zero, suc, ◌<◌, Bool, true, false, List, [], ◌∷◌, ◌++◌, map, length, slice_get, get_or, replicate, Contains, inl, inr, refl, sym, ap, subst, ◌∙◌, arith}
use Rattle.std.specs.Bool.{Decides, beq}
use Rattle.std.specs.Cmp.Lexicographic.{pointwise}
use Rattle.std.specs.Prelude.{slice_index}
use Rattle.std.proofs.lemmas.Bool.{cases_lt, true≢false, false≢true}
use Rattle.std.proofs.lemmas.List.{get_or_read, length-map, get_or-map, length_push, get_or_push, get_or_append_left, length-replicate, get_or-replicate}
use Rattle.std.proofs.lemmas.Slice.Eq.{slice_eq-Decides}
use Rattle.sc_model.specs.Sets.{HasOptions, config_count}
use Rattle.sc_base.specs.Interns.{Interns, known, fresh}
use Rattle.sc_base.proofs.Growth.{Extends-keeps}
use Rattle.sc_base.proofs.InternLemmas.{Extends-Interns, IsOneToOne-Interns}
use Rattle.sc_presence.specs.Plain.{Plain, IsPlain, IsKept}
use Rattle.sc_presence.specs.Rank.{strides_of}
use Rattle.sc_presence.proofs.RankLemmas.{config_count_pos, length-strides_of, strides_of_pos}

-- `==` on truth values, and on rows, is equality
beq-Decides : (a b : Bool) → Decides (beq a b) (a ≡ b)
beq-Decides true true = (λ _. refl, λ _. refl)
beq-Decides false false = (λ _. refl, λ _. refl)
beq-Decides true false = (λ e. absurd (false≢true e), λ e. absurd (true≢false e))
beq-Decides false true = (λ e. absurd (false≢true e), λ e. absurd (false≢true e))

abbrev pub rows_eq : List Bool → List Bool → Bool
rows_eq = pointwise beq

pub rows_eq-Decides : (xs ys : List Bool) → Decides (rows_eq xs ys) (xs ≡ ys)
rows_eq-Decides xs ys = slice_eq-Decides beq-Decides xs ys _ refl

-- a row of no configuration is not one of all
never_not_always : (n k : ℕ) → 0 < n → k < 1 → get_or (replicate n false ∷ []) k (replicate n true) ≡ replicate n true → ⊥
never_not_always n zero pos within same =
    false≢true (sym (get_or-replicate n 0 false false pos) ∙ ap (λ row. get_or row 0 false) same ∙ get_or-replicate n 0 true false pos)
never_not_always n (suc k) pos within same = absurd (omega arith)

-- the first rows
pub rows_at_first : (n : ℕ) (one two : List (List Bool)) → 0 < n → Interns [] one (replicate n false) → Interns one two (replicate n true) → two ≡ replicate n false ∷ replicate n true ∷ []
rows_at_first n one two pos (known has same) second = absurd (omega (arith, has.1))
rows_at_first n one two pos (fresh lacks last) (known has same) =
    let has : Contains (replicate n false ∷ []) (replicate n true) = subst (λ rows. Contains rows (replicate n true)) last has in
    absurd (never_not_always n has.0 pos (omega (arith, has.1)) has.2)
rows_at_first n one two pos (fresh lacks last) (fresh lacks2 last2) = last2 ∙ ap (λ rows. rows ++ replicate n true ∷ []) last

pub IsPlain-first : (ns : List ℕ) (one two : List (List Bool)) → HasOptions ns → Interns [] one (replicate (config_count ns) false) → Interns one two (replicate (config_count ns) true)
    → IsPlain (record { arities = ns; rows = two })
IsPlain-first ns one two some first second =
    let n = config_count ns in
    let same = rows_at_first n one two (config_count_pos ns some) first second in
    record {
      options = some;
      long = subst (λ rows. (a : ℕ) → a < length rows → length (get_or rows a []) ≡ n) (sym same) (long_first n);
      never = ap (λ rows. slice_get rows 0) same;
      always = ap (λ rows. slice_get rows 1) same;
      different = IsOneToOne-Interns second (IsOneToOne-Interns first (record { same = λ i j x at_i at_j. cc }));
    }
  where
    long_first : (n a : ℕ) → a < 2 → length (get_or (replicate n false ∷ replicate n true ∷ []) a []) ≡ n
    long_first n zero within = length-replicate n false
    long_first n (suc zero) within = length-replicate n true
    long_first n (suc (suc a)) within = absurd (omega arith)

-- one more row
pub IsPlain-Interns : (p : Plain) (rows : List (List Bool)) (row : List Bool) → IsPlain p → length row ≡ config_count p.arities → Interns p.rows rows row → IsPlain (record { arities = p.arities; rows = rows })
IsPlain-Interns p rows row plain long adds = record {
  options = plain.options;
  long = by adds;
  never = Extends-keeps 0 _ plain.never (Extends-Interns adds);
  always = Extends-keeps 1 _ plain.always (Extends-Interns adds);
  different = IsOneToOne-Interns adds plain.different;
}
  where
    by : Interns p.rows rows row → (a : ℕ) → a < length rows → length (get_or rows a []) ≡ config_count p.arities
    by (known has same) = subst (λ rows. (a : ℕ) → a < length rows → length (get_or rows a []) ≡ config_count p.arities) (sym same) plain.long
    by (fresh lacks last) = subst (λ rows. (a : ℕ) → a < length rows → length (get_or rows a []) ≡ config_count p.arities) (sym last) (λ a within. elim (cases_lt a (length p.rows)) [
      | inl below ↦ ap length (get_or_append_left p.rows (row ∷ []) [] a below) ∙ plain.long a below
      | inr above ↦ ap length (get_or_push p.rows row [] a (omega (arith, length_push p.rows row))) ∙ long
    ])

module _ {strides : List ℕ} {count : ℕ} {p : Plain} where
  -- the strides that are kept are those of the arities
  pub lt-IsKept : {v : ℕ} → IsKept strides count p → v < length p.arities → v < length strides
  lt-IsKept kept within = omega (arith, ap length kept.wide, length-strides_of p.arities)

  pub stride-IsKept : (v x : ℕ) → IsKept strides count p → v < length p.arities → x ≡ get_or strides v x → x ≡ slice_index (strides_of p.arities) v
  stride-IsKept v x kept within read = get_or_read strides v x (lt-IsKept kept within) read 0 ∙ ap (λ ss. slice_index ss v) kept.wide

  pub stride_pos-IsKept : (v x : ℕ) → IsKept strides count p → v < length p.arities → x ≡ get_or strides v x → 0 < x
  stride_pos-IsKept v x kept within read = rw (stride-IsKept v x kept within read) (strides_of_pos p.arities v kept.plain.options within)

-- the row that is read at a place has a value for each configuration
pub length-row : {X : Type 0} (view : X → List Bool) (ns : List ℕ) (keys : List X) (a : ℕ) (x : X) → IsPlain (record { arities = ns; rows = map view keys }) → a < length keys → x ≡ get_or keys a x
    → length (view x) ≡ config_count ns
length-row view ns keys a x plain within read =
    ap (λ y. length (view y)) read ∙ ap length (sym (get_or-map view keys a x [] within)) ∙ plain.long a (omega (arith, length-map keys view))
