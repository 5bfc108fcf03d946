-- The terminals of tokens are no kinds of names.
use Rattle.std.proofs.Common.{◌≡◌, ℕ, ◌<◌, ◌≤◌, ◌+◌, Bool, true, false, cond, List, [], ◌∷◌, length, take, drop, Option, Some, None, unwrap_or, refl, subst, arith, length-take, if◌then◌else◌}
use Rattle.std.specs.List.{position_from}
use Rattle.std.proofs.lemmas.Bool.Decides.{nat_tests}
use Rattle.sc_fork.specs.Owns.{has_tree}
use Rattle.sc_grammar.specs.Terminals.{terminal_names}
use Rattle.sc_kinds.specs.Kinds.{is_constant, terminal_of, terminal_written, keyword}
use Rattle.sc_model.specs.declared.kind.Kind.{Kind}
use Rattle.sc_model.specs.declared.kind.Kind.TheVariants.{Identifier, Number, Character, Text, Header, Punctuator, Other, Newline}
use Rattle.sc_model.specs.Bytes.{same_bytes}
use Rattle.sc_model.specs.Token.{name_of}
use Rattle.sc_model.specs.declared.standard.Standard.{Standard}

-- a terminal that has a tree, of those of the grammar
pub record IsTokens (x : ℕ) : Type 0 where
  pub tree : has_tree x ≡ true
  pub within : x < 96

tree-above : (x : ℕ) → 3 ≤ x → has_tree x ≡ true
tree-above x above = grind (arith, nat_tests)

position-in : {A : Type 0} (test : A → Bool) (first : ℕ) (xs : List A) (n : ℕ) → position_from test first xs ≡ Some n → (first ≤ n) × (n < first + length xs)
position-in test first [] n is = absurd (cc)
position-in test first (x ∷ xs) n is = by (test x) is (position-in test (first + 1) xs n)
  where
    by : (b : Bool) → cond b (Some first) (position_from test (first + 1) xs) ≡ Some n
        → (position_from test (first + 1) xs ≡ Some n → (first + 1 ≤ n) × (n < first + 1 + length xs)) → (first ≤ n) × (n < first + length (x ∷ xs))
    by true e rest = let same : first ≡ n = cc in (omega (arith, same), omega (arith, same))
    by false e rest = let r = rest e in (omega (arith, r.0), omega (arith, r.1))

written-in : (first count : ℕ) (spelling : List ℕ) (n : ℕ) → terminal_written first count spelling ≡ Some n → (first ≤ n) × (n < first + count)
unfolding terminal_written
written-in first count spelling n is =
    let r = position-in (λ name. same_bytes name spelling) first (take count (drop first terminal_names)) n is in
    (r.0, omega (arith, r.1, length-take count (drop first terminal_names)))

written-tokens : (first count : ℕ) (spelling : List ℕ) (n : ℕ) → 3 ≤ first → first + count ≤ 96 → terminal_written first count spelling ≡ Some n → IsTokens n
written-tokens first count spelling n low high is =
    let r = written-in first count spelling n is in record { tree = tree-above n (omega (arith, low, r.0)); within = omega (arith, high, r.1) }

same-tokens : (k x : ℕ) → IsTokens k → Some k ≡ Some x → IsTokens x
same-tokens k x is same = let e : k ≡ x = cc in subst IsTokens e is

pub terminal-tokens : (standard : Standard) (kind : Kind) (spelling : List ℕ) (x : ℕ) → terminal_of standard kind spelling ≡ Some x → IsTokens x
unfolding terminal_of
terminal-tokens standard Identifier spelling x is = by (keyword spelling) refl is
  where
    by : (found : Option ℕ) → keyword spelling ≡ found → Some (unwrap_or found 0) ≡ Some x → IsTokens x
    by None none e = same-tokens 0 x (record { tree = refl; within = omega arith }) e
    by (Some k) some e = same-tokens k x (written-tokens 5 44 spelling k (omega arith) (omega arith) some) e
terminal-tokens standard Number spelling x is = by (is_constant standard spelling) is
  where
    by : (b : Bool) → (if b then Some 3 else None) ≡ Some x → IsTokens x
    by true e = same-tokens 3 x (record { tree = refl; within = omega arith }) e
    by false e = absurd (cc)
terminal-tokens standard Character spelling x is = same-tokens 3 x (record { tree = refl; within = omega arith }) is
terminal-tokens standard Text spelling x is = same-tokens 4 x (record { tree = refl; within = omega arith }) is
terminal-tokens standard Punctuator spelling x is = written-tokens 49 46 (name_of spelling) x (omega arith) (omega arith) is
terminal-tokens standard Header spelling x is = absurd (cc)
terminal-tokens standard Other spelling x is = absurd (cc)
terminal-tokens standard Newline spelling x is = absurd (cc)
