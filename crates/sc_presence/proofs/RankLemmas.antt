-- Configurations and their places.
use Rattle.std.proofs.Common.{◌≡◌, ℕ, zero, suc, ◌+◌, ◌*◌, ◌/◌, ◌%◌, ◌<◌, ◌≤◌, List, [], ◌∷◌, length, get_or, set, drop, refl, sym, ◌∙◌, ap, arith}
use Rattle.std.proofs.lemmas.List.{drop_more, drop_all, get_or-drop, length-drop}
use Rattle.std.proofs.lemmas.Nat.{mul-add-lt, mul-lt, div-mul-add, mod_below}
use Rattle.std.proofs.Math.Nat.{mul-add-div_right, mul-add-mod_self_right, mod-eq_of_lt, mod-one, le-mul_of_pos_right}
use Rattle.std.proofs.Math.Arith.{mod-mul}
use Rattle.std.specs.Prelude.{slice_index}
use Rattle.sc_model.specs.Sets.{IsConfig, HasOptions, config_count}
use Rattle.sc_model.proofs.SetLemmas.{IsConfig-set}
use Rattle.sc_presence.specs.Rank.{strides_of, rank, digit, moved, config_at}

-- the first option of a configuration, and the others
pub IsConfig-head : {n : ℕ} {ns : List ℕ} {x : ℕ} {xs : List ℕ} → IsConfig (n ∷ ns) (x ∷ xs) → x < n
IsConfig-head config = config.each 0 (omega arith)

pub IsConfig-tail : {n : ℕ} {ns : List ℕ} {x : ℕ} {xs : List ℕ} → IsConfig (n ∷ ns) (x ∷ xs) → IsConfig ns xs
IsConfig-tail config = record { long = omega (arith, config.long); each = λ v below. config.each (suc v) (omega arith) }

pub HasOptions-tail : {n : ℕ} {ns : List ℕ} → HasOptions (n ∷ ns) → HasOptions ns
HasOptions-tail some = record { each = λ v below. some.each (suc v) (omega arith) }

-- where there is a configuration, each variable has an option
pub HasOptions-IsConfig : {ns c : List ℕ} → IsConfig ns c → HasOptions ns
HasOptions-IsConfig config = record { each = λ v below. omega (arith, config.each v below) }

-- a configuration comes before all of them are counted
pub rank-lt : (ns c : List ℕ) → IsConfig ns c → rank (strides_of ns) c < config_count ns
rank-lt [] c config = omega arith
rank-lt (n ∷ ns) [] config = absurd (omega (arith, config.long))
rank-lt (n ∷ ns) (x ∷ xs) config =
    omega (arith, mul-add-lt x (config_count ns) (rank (strides_of ns) xs) n (IsConfig-head config) (rank-lt ns xs (IsConfig-tail config)))

pub config_count_pos : (ns : List ℕ) → HasOptions ns → 0 < config_count ns
config_count_pos [] some = omega arith
config_count_pos (n ∷ ns) some = mul-lt 0 0 n (config_count ns) (some.each 0 (omega arith)) (config_count_pos ns (HasOptions-tail some))

-- a place does not change with what comes in whole rounds before it
pub config_at-round : (ns : List ℕ) (q r : ℕ) → HasOptions ns → config_at ns (q * config_count ns + r) ≡ config_at ns r
config_at-round [] q r some = refl
config_at-round (n ∷ ns) q r some =
    let m = config_count ns in
    let parts : q * (n * m) + r ≡ q * n * m + r = omega arith in
    let head : digit m n (q * (n * m) + r) ≡ digit m n r = rw (parts, mul-add-div_right (config_count_pos ns (HasOptions-tail some)) (q * n) r) (mul-add-mod_self_right q n (r / m)) in
    let tail : config_at ns (q * (n * m) + r) ≡ config_at ns r = ap (config_at ns) parts ∙ config_at-round ns (q * n) r (HasOptions-tail some) in
    cc

-- the configuration at a configuration's place is that configuration
pub config_at-rank : (ns c : List ℕ) → IsConfig ns c → config_at ns (rank (strides_of ns) c) ≡ c
config_at-rank [] [] config = refl
config_at-rank [] (x ∷ xs) config = absurd (omega (arith, config.long))
config_at-rank (n ∷ ns) [] config = absurd (omega (arith, config.long))
config_at-rank (n ∷ ns) (x ∷ xs) config =
    let m = config_count ns in
    let r = rank (strides_of ns) xs in
    let rest = IsConfig-tail config in
    let head : digit m n (x * m + r) ≡ x = rw (div-mul-add x m r (rank-lt ns xs rest)) (mod-eq_of_lt (IsConfig-head config)) in
    let tail : config_at ns (x * m + r) ≡ xs = config_at-round ns x r (HasOptions-IsConfig rest) ∙ config_at-rank ns xs rest in
    cc

-- the place of the configuration at a place is that place
pub rank-config_at : (ns : List ℕ) (i : ℕ) → HasOptions ns → rank (strides_of ns) (config_at ns i) ≡ i % config_count ns
rank-config_at [] i some = sym (mod-one i)
rank-config_at (n ∷ ns) i some =
    rw (rank-config_at ns i (HasOptions-tail some)) (sym (mod-mul i (some.each 0 (omega arith)) (config_count_pos ns (HasOptions-tail some))))

-- it is a configuration
pub IsConfig-config_at : (ns : List ℕ) (i : ℕ) → HasOptions ns → IsConfig ns (config_at ns i)
IsConfig-config_at [] i some = record { long = refl; each = λ v below. absurd (omega arith) }
IsConfig-config_at (n ∷ ns) i some =
    let rest = IsConfig-config_at ns i (HasOptions-tail some) in
    record { long = ap suc rest.long; each = λ v below. elim v as (λ v. v < length (n ∷ ns) → slice_index (config_at (n ∷ ns) i) v < slice_index (n ∷ ns) v) [ zero ↦ λ h. mod_below _ n (some.each 0 (omega arith)) | suc v ↦ λ h. rest.each v (omega arith) ] below }

-- its option of each variable
pub get_or-config_at : (ns : List ℕ) (i v : ℕ) → v < length ns → slice_index (config_at ns i) v ≡ digit (slice_index (strides_of ns) v) (slice_index ns v) i
get_or-config_at [] i v below = absurd (omega arith)
get_or-config_at (n ∷ ns) i zero below = refl
get_or-config_at (n ∷ ns) i (suc v) below = get_or-config_at ns i v (omega arith)

-- the place changes with one option by as many strides
pub rank-set : (ss c : List ℕ) (v k : ℕ) → v < length ss → v < length c → rank ss (set c v k) + get_or c v 0 * get_or ss v 0 ≡ rank ss c + k * get_or ss v 0
rank-set [] c v k below placed = absurd (omega arith)
rank-set (s ∷ ss) [] v k below placed = absurd (omega arith)
rank-set (s ∷ ss) (x ∷ xs) zero k below placed = omega arith
rank-set (s ∷ ss) (x ∷ xs) (suc v) k below placed = omega (arith, rank-set ss xs v k (omega arith) (omega arith))

-- one stride for each variable
pub length-strides_of : (ns : List ℕ) → length (strides_of ns) ≡ length ns
length-strides_of [] = refl
length-strides_of (n ∷ ns) = ap suc (length-strides_of ns)

pub lt-strides_of : {ss : List ℕ} (ns : List ℕ) {v : ℕ} → ss ≡ strides_of ns → v < length ss → v < length ns
lt-strides_of {ss} ns same below = omega (arith, ap length same, length-strides_of ns)

pub strides_of_pos : (ns : List ℕ) (v : ℕ) → HasOptions ns → v < length ns → 0 < slice_index (strides_of ns) v
strides_of_pos [] v some below = absurd (omega arith)
strides_of_pos (n ∷ ns) zero some below = config_count_pos ns (HasOptions-tail some)
strides_of_pos (n ∷ ns) (suc v) some below = strides_of_pos ns v (HasOptions-tail some) (omega arith)

pub length-config_at : (ns : List ℕ) (i : ℕ) → length (config_at ns i) ≡ length ns
length-config_at [] i = refl
length-config_at (n ∷ ns) i = ap suc (length-config_at ns i)

-- one variable's part of a rank
pub rank-drop : (ss c : List ℕ) (v : ℕ) → v < length ss → v < length c → rank (drop v ss) (drop v c) ≡ get_or c v 0 * get_or ss v 0 + rank (drop (v + 1) ss) (drop (v + 1) c)
rank-drop ss c v below placed = rw (drop_more ss v 0 below, drop_more c v 0 placed) refl

pub rank-drop_all : (ss c : List ℕ) (v : ℕ) → length ss ≤ v → rank (drop v ss) (drop v c) ≡ 0
rank-drop_all ss c v above = rw (drop_all v ss above) refl

-- the configurations of a variable and those after it
pub config_count-drop : (ns : List ℕ) (v : ℕ) → v < length ns → config_count (drop v ns) ≡ get_or ns v 0 * config_count (drop (v + 1) ns)
config_count-drop ns v below = rw (drop_more ns v 0 below) refl

pub strides_of-drop : (ns : List ℕ) (v : ℕ) → v < length ns → strides_of (drop v ns) ≡ config_count (drop (v + 1) ns) ∷ strides_of (drop (v + 1) ns)
strides_of-drop ns v below = rw (drop_more ns v 0 below) refl

pub HasOptions-drop : (ns : List ℕ) (v : ℕ) → HasOptions ns → HasOptions (drop v ns)
HasOptions-drop ns v some = record { each = λ u below. rw (get_or-drop v ns u 0) (some.each (v + u) (omega (arith, length-drop v ns))) }

-- a product without its last factor is no larger
pub product_le : (m a r t : ℕ) → 0 < r → m * (a * r) ≡ t → m * a ≤ t
product_le m a r t pos is = omega (arith, le-mul_of_pos_right (m * a) pos)

-- the option of a variable, read off the rank
pub digit-rank : (ns c : List ℕ) (v : ℕ) → IsConfig ns c → v < length ns → digit (slice_index (strides_of ns) v) (slice_index ns v) (rank (strides_of ns) c) ≡ slice_index c v
digit-rank ns c v listed within = sym (get_or-config_at ns (rank (strides_of ns) c) v within) ∙ ap (λ x. slice_index x v) (config_at-rank ns c listed)

-- the rank after an option is set
pub moved-rank : (ns c : List ℕ) (v k : ℕ) → IsConfig ns c → v < length ns → moved (slice_index (strides_of ns) v) (slice_index ns v) k (rank (strides_of ns) c) ≡ rank (strides_of ns) (set c v k)
moved-rank ns c v k listed within =
    let ss = strides_of ns in
    let wide : v < length ss = omega (arith, length-strides_of ns) in
    let placed : v < length c = omega (arith, listed.long) in
    rw (digit-rank ns c v listed within) (omega (arith, rank-set ss c v k wide placed, rank-set ss c v 0 wide placed))

pub rank-config_at-lt : (ns : List ℕ) (i : ℕ) → HasOptions ns → i < config_count ns → rank (strides_of ns) (config_at ns i) ≡ i
rank-config_at-lt ns i some below = rank-config_at ns i some ∙ mod-eq_of_lt below

-- which stays within the ranks
pub moved-lt : (ns : List ℕ) (v k i : ℕ) → HasOptions ns → v < length ns → k < slice_index ns v → i < config_count ns → moved (slice_index (strides_of ns) v) (slice_index ns v) k i < config_count ns
moved-lt ns v k i some within in_range below =
    let c = config_at ns i in
    let listed = IsConfig-config_at ns i some in
    let same = rw (rank-config_at-lt ns i some below) at (moved-rank ns c v k listed within) in
    rw same (rank-lt ns (set c v k) (IsConfig-set v k listed within in_range))
