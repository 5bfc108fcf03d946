-- Parentheses that belong together.
use Rattle.std.specs.Prelude.{◌≡◌, ℕ, zero, suc, ◌+◌, ◌-◌, ◌==◌, ◌<◌, Bool, true, false, List, [], ◌∷◌, codes, drop, Option, Some, None, slice_get}
use Rattle.std.specs.Option.{option_map}
use Rattle.sc_base.specs.Seen.{text_at}
use Rattle.sc_model.specs.Bytes.{same_bytes}
use Rattle.sc_subst.specs.declared.groups.Groups.{Groups}
use Rattle.sc_subst.specs.declared.hidden.Hidden.{Hidden}

-- One item at a depth of open groups. In what follows go finds the one that closes them.
abbrev pub group_step : Bool → Bool → ℕ → (ℕ → Option ℕ) → Option ℕ
group_step true closes depth go = option_map suc (go (suc depth))
group_step false true zero go = Some 0
group_step false true (suc depth) go = option_map suc (go depth)
group_step false false depth go = option_map suc (go depth)

-- the index of the item that closes a group which opens before these items, where so many others
-- have opened in it
abbrev pub group_end : {A : Type 0} → (A → Bool) → (A → Bool) → ℕ → List A → Option ℕ
group_end opens closes depth [] = None
group_end opens closes depth (x ∷ xs) = group_step (opens x) (closes x) depth (λ d. group_end opens closes d xs)

abbrev pub has_spelling : ℕ → Hidden → Bool
has_spelling id t = t.token.spelling.0 == id

abbrev pub has_text : List (List ℕ) → List ℕ → Hidden → Bool
has_text names text t = same_bytes (text_at names t.token.spelling.0) text

-- the item of this index opens a group, and the other one closes it
pub record IsGroup {A : Type 0} (opens closes : A → Bool) (list : List A) (index close : ℕ) : Type 0 where
  pub opening : (x : A) → slice_get list index ≡ Some x → opens x ≡ true
  pub behind : index < close
  pub is : group_end opens closes 0 (drop (index + 1) list) ≡ Some (close - (index + 1))

-- what is known of the parentheses of this list is so
abbrev pub AreGroups : List Hidden → Groups → Type 0
AreGroups list groups = (index close : ℕ) → slice_get groups.closes.items index ≡ Some close → 0 < close
    → IsGroup (has_spelling groups.opening.0) (has_spelling groups.closing.0) list index close

-- parentheses that belong together
abbrev pub IsParenthesized : List (List ℕ) → List Hidden → ℕ → ℕ → Type 0
IsParenthesized names list index close = IsGroup (has_text names (codes "(")) (has_text names (codes ")")) list index close
