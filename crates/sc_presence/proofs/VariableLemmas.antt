-- On which variables the condition of a row depends.
use Rattle.std.proofs.Common.{◌≡◌, ◌≢◌, ℕ, zero, suc, ◌+◌, ◌*◌, ◌/◌, ◌%◌, ◌<◌, ◌≤◌, Bool, false, List, [], ◌∷◌, length, get_or, set, take, drop, ◌⊎◌, inl, inr, refl, sym, ◌∙◌, ap, subst, add-one, arith}
use Rattle.std.proofs.lemmas.Bool.{cases_Bool, cases_lt}
use Rattle.std.proofs.lemmas.List.{length-set, length-take-le, get_or-take, get_or-set_other, drop-set-lt}
use Rattle.std.proofs.lemmas.Nat.{mul-add-lt, mod-mul-add, div-add-mod', div_below}
use Rattle.std.proofs.Math.Nat.{mod-eq_of_lt, mod-le, mul_comm, le-mul_of_pos_right}
use Rattle.std.specs.Prelude.{slice_index}
use Rattle.sc_model.specs.Sets.{Sets, IsConfig, HasOptions, config_count, DependsOn, DependsFrom, IsTop, IsNever, IsAlways}
use Rattle.sc_model.proofs.SetLemmas.{IsConfig-set, has-DependsFrom}
use Rattle.sc_presence.specs.Rank.{strides_of, rank, config_at}
use Rattle.sc_presence.specs.Rows.{value_at, Varies, Repeats, IsRowOf}
use Rattle.sc_presence.proofs.RankLemmas.{rank-lt, rank-set, rank-drop, rank-drop_all, length-strides_of, strides_of_pos, IsConfig-config_at, rank-config_at, get_or-config_at, IsConfig-tail, HasOptions-tail}

-- the configuration with the first option of each variable before v
abbrev pub cleared : ℕ → List ℕ → List ℕ
cleared zero c = c
cleared (suc v) c = set (cleared v c) v 0

length-cleared : (v : ℕ) (c : List ℕ) → length (cleared v c) ≡ length c
length-cleared zero c = refl
length-cleared (suc v) c = length-set (cleared v c) v 0 ∙ length-cleared v c

-- the later options stay
get_or-cleared : (v u : ℕ) (c : List ℕ) → v ≤ u → get_or (cleared v c) u 0 ≡ get_or c u 0
get_or-cleared zero u c above = refl
get_or-cleared (suc v) u c above =
    let other : u ≢ v = omega arith in
    get_or-set_other (cleared v c) v u 0 0 other ∙ get_or-cleared v u c (omega arith)

-- and they make its rank
rank-cleared : (ss c : List ℕ) (v : ℕ) → v ≤ length ss → length c ≡ length ss → rank ss (cleared v c) ≡ rank (drop v ss) (drop v c)
rank-cleared ss c zero within long = refl
rank-cleared ss c (suc v) within long =
    let here : get_or (cleared v c) v 0 ≡ get_or c v 0 = get_or-cleared v v c (omega arith) in
    let moved = rw here at (rank-set ss (cleared v c) v 0 (omega arith) (omega (arith, length-cleared v c))) in
    let split = rw add-one at (rank-drop ss c v (omega arith) (omega arith)) in
    let before = rank-cleared ss c v (omega arith) long in
    omega (arith, moved, split, before)

-- the variables after v make less than its stride
rank-drop-lt : (ns c : List ℕ) (v : ℕ) → IsConfig ns c → v < length ns → rank (drop (suc v) (strides_of ns)) (drop (suc v) c) < slice_index (strides_of ns) v
rank-drop-lt [] c v config within = absurd (omega arith)
rank-drop-lt (n ∷ ns) [] v config within = absurd (omega (arith, config.long))
rank-drop-lt (n ∷ ns) (x ∷ xs) zero config within = rank-lt ns xs (IsConfig-tail config)
rank-drop-lt (n ∷ ns) (x ∷ xs) (suc v) config within = rank-drop-lt ns xs v (IsConfig-tail config) (omega arith)

-- the values of a variable and those after it are among all
pub stride_times_le : (ns : List ℕ) (v : ℕ) → HasOptions ns → v < length ns → slice_index (strides_of ns) v * slice_index ns v ≤ config_count ns
stride_times_le [] v some within = absurd (omega arith)
stride_times_le (n ∷ ns) zero some within = omega (arith, mul_comm n (config_count ns))
stride_times_le (n ∷ ns) (suc v) some within =
    omega (arith, stride_times_le ns v (HasOptions-tail some) (omega arith), le-mul_of_pos_right {m = n} (config_count ns) (some.each 0 (omega arith)), mul_comm n (config_count ns))

IsConfig-cleared : {ns c : List ℕ} (v : ℕ) → HasOptions ns → v ≤ length ns → IsConfig ns c → IsConfig ns (cleared v c)
IsConfig-cleared zero some within listed = listed
IsConfig-cleared {ns} (suc v) some within listed = IsConfig-set v 0 (IsConfig-cleared v some (omega arith) listed) (omega arith) (some.each v (omega arith))

-- where the first values repeat, an option of the variable makes no difference
value-Repeats : (row : List Bool) (stride arity x t : ℕ) → stride * arity ≤ length row → x < arity → t < stride → Repeats stride (take (stride * arity) row) → value_at row (x * stride + t) ≡ value_at row t
value-Repeats row stride arity x t within option low repeats =
    let n = stride * arity in
    let p = x * stride + t in
    let place : p < n = mul-add-lt x stride t arity option low in
    let all = length-take-le n row within in
    let first : p % stride ≡ t = mod-mul-add x stride t low in
    elim (cases_lt p stride) [
      | inl inside ↦ ap (value_at row) (sym (mod-eq_of_lt inside) ∙ first)
      | inr above ↦ sym (get_or-take n row p false place) ∙ repeats.alike p above (omega (arith, all)) ∙ ap (value_at (take n row)) first ∙ get_or-take n row t false (omega arith)
    ]

module _ (s : Sets) (a : ℕ) (row : List Bool) (some : HasOptions s.arities) (is : IsRowOf s a s.arities row) where
  -- options before the first variable on which the condition depends make no difference
  has-cleared : {n : ℕ} (v : ℕ) (c : List ℕ) → DependsFrom s a n → v ≤ n → v ≤ length s.arities → IsConfig s.arities c → s.has a (cleared v c) ≡ s.has a c
  has-cleared zero c from before within listed = refl
  has-cleared (suc v) c from before within listed =
      has-DependsFrom (cleared v c) v 0 from (omega arith) (IsConfig-cleared v some (omega arith) listed) (omega arith) (some.each v (omega arith))
      ∙ has-cleared v c from (omega arith) (omega arith) listed

  -- the value at a configuration is the value at the rank of its later options
  value_from : (v : ℕ) (c : List ℕ) → DependsFrom s a v → v < length s.arities → IsConfig s.arities c
      → s.has a c ≡ value_at row (get_or c v 0 * slice_index (strides_of s.arities) v + rank (drop (suc v) (strides_of s.arities)) (drop (suc v) c))
  value_from v c from within listed =
      let ss = strides_of s.arities in
      let wide : length ss ≡ length s.arities = length-strides_of s.arities in
      let split = rw add-one at (rank-drop ss c v (omega arith) (omega (arith, listed.long))) in
      sym (has-cleared v c from (omega arith) (omega arith) listed)
      ∙ is.at _ (IsConfig-cleared v some (omega arith) listed)
      ∙ ap (value_at row) (rank-cleared ss c v (omega arith) (listed.long ∙ sym wide) ∙ split)

  -- where the first values repeat, the variable makes no difference
  free-Repeats : (v : ℕ) → length row ≡ config_count s.arities → DependsFrom s a v → v < length s.arities
      → Repeats (slice_index (strides_of s.arities) v) (take (slice_index (strides_of s.arities) v * slice_index s.arities v) row) → DependsFrom s a (v + 1)
  free-Repeats v long from within repeats = record {
    free = λ u below depends. elim (cases_lt u v) [
      | inl before ↦ from.free u before depends
      | inr above ↦ here (let same : u ≡ v = omega arith in subst (DependsOn s a) same depends)
    ];
  }
    where
      here : DependsOn s a v → ⊥
      here depends =
          let ns = s.arities in
          let stride = slice_index (strides_of ns) v in
          let c = depends.config in
          let o = depends.option in
          let other = IsConfig-set v o depends.listed within depends.in_range in
          let fits : stride * slice_index ns v ≤ length row = omega (arith, stride_times_le ns v some within) in
          let one = value_from v c from within depends.listed ∙ value-Repeats row stride (slice_index ns v) _ _ fits (depends.listed.each v within) (rank-drop-lt ns c v depends.listed within) repeats in
          let two = value_from v _ from within other ∙ value-Repeats row stride (slice_index ns v) _ _ fits (other.each v within) (rank-drop-lt ns _ v other within) repeats in
          depends.changes (one ∙ ap (λ rest. value_at row (rank (drop (suc v) (strides_of ns)) rest)) (sym (drop-set-lt (suc v) c v o (omega arith))) ∙ sym two)

  -- where they don't, it does
  depends-Varies : (v : ℕ) → length row ≡ config_count s.arities → v < length s.arities
      → Varies (slice_index (strides_of s.arities) v) (take (slice_index (strides_of s.arities) v * slice_index s.arities v) row) → DependsOn s a v
  depends-Varies v long within varies =
      let ns = s.arities in
      let stride = slice_index (strides_of ns) v in
      let n = stride * slice_index ns v in
      let p = varies.place in
      let fits : n ≤ length row = omega (arith, stride_times_le ns v some within) in
      let all = length-take-le n row fits in
      let place : p < n = omega (arith, varies.within) in
      let c = config_at ns p in
      let listed = IsConfig-config_at ns p some in
      let whole : rank (strides_of ns) c ≡ p = rank-config_at ns p some ∙ mod-eq_of_lt (omega arith) in
      let option : slice_index c v ≡ p / stride = get_or-config_at ns p v within ∙ mod-eq_of_lt (div_below p stride (slice_index ns v) (strides_of_pos ns v some within) (omega (arith, mul_comm stride (slice_index ns v)))) in
      let moved = rw option at (rank-set (strides_of ns) c v 0 (omega (arith, length-strides_of ns)) (omega (arith, listed.long))) in
      let first : rank (strides_of ns) (set c v 0) ≡ p % stride = omega (arith, moved, whole, div-add-mod' p stride) in
      let low : p % stride < n = omega (arith, mod-le p stride) in
      record {
        config = c;
        option = 0;
        listed = listed;
        within = within;
        in_range = some.each v within;
        changes = λ same. varies.differs (
            get_or-take n row p false place ∙ sym (is.at c listed ∙ ap (value_at row) whole) ∙ same
            ∙ is.at _ (IsConfig-set v 0 listed within (some.each v within)) ∙ ap (value_at row) first ∙ sym (get_or-take n row _ false low));
      }

  -- a condition that depends on no variable is never or always
  constant-DependsFrom : {v : ℕ} → length s.arities ≤ v → DependsFrom s a v → IsNever s a ⊎ IsAlways s a
  constant-DependsFrom {v} all from = elim (cases_Bool (value_at row 0)) [
    | inl always ↦ inr (record { all = λ c listed. first c listed ∙ always })
    | inr never ↦ inl (record { none = λ c listed. first c listed ∙ never })
  ]
    where
      first : (c : List ℕ) → IsConfig s.arities c → s.has a c ≡ value_at row 0
      first c listed =
          let n = length s.arities in
          let wide : length (strides_of s.arities) ≡ n = length-strides_of s.arities in
          sym (has-cleared n c from all (omega arith) listed)
          ∙ is.at _ (IsConfig-cleared n some (omega arith) listed)
          ∙ ap (value_at row) (rank-cleared (strides_of s.arities) c n (omega arith) (listed.long ∙ sym wide) ∙ rank-drop_all (strides_of s.arities) c n (omega arith))

-- the same, where the row names the arities
module _ {s : Sets} {a : ℕ} {ns : List ℕ} {row : List Bool} where
  pub DependsFrom-Repeats : (v : ℕ) → IsRowOf s a ns row → HasOptions ns → length row ≡ config_count ns → v < length ns
      → Repeats (slice_index (strides_of ns) v) (take (slice_index (strides_of ns) v * slice_index ns v) row) → DependsFrom s a v → DependsFrom s a (v + 1)
  DependsFrom-Repeats v is = subst
      (λ ns. IsRowOf s a ns row → HasOptions ns → length row ≡ config_count ns → v < length ns
      → Repeats (slice_index (strides_of ns) v) (take (slice_index (strides_of ns) v * slice_index ns v) row) → DependsFrom s a v → DependsFrom s a (v + 1))
      is.over (λ is some long within repeats from. free-Repeats s a row some is v long from within repeats) is

  pub IsTop-Varies : (v : ℕ) → IsRowOf s a ns row → HasOptions ns → length row ≡ config_count ns → v < length ns
      → Varies (slice_index (strides_of ns) v) (take (slice_index (strides_of ns) v * slice_index ns v) row) → DependsFrom s a v → IsTop s a v
  IsTop-Varies v is = subst
      (λ ns. IsRowOf s a ns row → HasOptions ns → length row ≡ config_count ns → v < length ns
      → Varies (slice_index (strides_of ns) v) (take (slice_index (strides_of ns) v * slice_index ns v) row) → DependsFrom s a v → IsTop s a v)
      is.over (λ is some long within varies from. record { depends = depends-Varies s a row some is v long within varies; first = from }) is

  pub constant-IsRowOf : (v : ℕ) → IsRowOf s a ns row → HasOptions ns → length ns ≤ v → DependsFrom s a v → IsNever s a ⊎ IsAlways s a
  constant-IsRowOf v is = subst
      (λ ns. IsRowOf s a ns row → HasOptions ns → length ns ≤ v → DependsFrom s a v → IsNever s a ⊎ IsAlways s a)
      is.over (λ is some all from. constant-DependsFrom s a row some is all from) is
