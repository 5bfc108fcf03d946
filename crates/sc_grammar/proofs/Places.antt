-- Where the productions stand among the entries.
use Rattle.std.proofs.Common.{zero, suc, ◌≡◌, ◌<◌, ◌≤◌, ◌+◌, ◌-◌, ℕ, List, [], ◌∷◌, ◌++◌, length, slice_get, slice_range, take, drop, Option, Some, refl, sym, ap, ◌∙◌, subst, arith, zero-add}
use Rattle.std.proofs.lemmas.List.{append_assoc, length-append, drop_at, take_at, length_push}
use Rattle.std.proofs.lemmas.Option.{same_Some, none-some}
use Rattle.lr_tables.specs.Grammar.{Production as Rule, entries_of, right_entries}
use Rattle.lr_tables.specs.declared.grammar.Symbol.{Symbol}
use Rattle.lr_tables.specs.declared.grammar.Mark.{Mark}
use Rattle.lr_tables.specs.declared.grammar.Nonterminal.{Nonterminal}
use Rattle.lr_tables.specs.declared.grammar.Entry.{Entry}
use Rattle.lr_tables.specs.declared.grammar.Entry.TheVariants.{Left}
use Rattle.sc_model.proofs.ListLemmas.{slice_get-seam}
use Rattle.sc_grammar.specs.Production.{symbols_of, places_from}

length_right : (xs : List Symbol) → length (right_entries xs) ≡ length xs
length_right [] = refl
length_right (x ∷ xs) = ap suc (length_right xs)

pub symbols-right : (xs : List Symbol) → symbols_of (right_entries xs) ≡ xs
symbols-right [] = refl
symbols-right (x ∷ xs) = ap (λ zs. x ∷ zs) (symbols-right xs)

-- the entries before a production and after it, and where it begins and ends
pub record Stands (n : ℕ) (ps : List Rule) (k : ℕ) (p : Rule) : Type 0 where
  pub before : List Entry
  pub behind : List Entry
  pub entries : entries_of ps ≡ before ++ (Left (record { 0 = p.left }) p.mark ∷ (right_entries p.right ++ behind))
  pub begin : slice_get (places_from n ps) k ≡ Some (n + length before)
  pub end : slice_get (places_from n ps) (suc k) ≡ Some (n + length before + (length p.right + 1))

head_place : (n : ℕ) (ps : List Rule) → slice_get (places_from n ps) 0 ≡ Some n
head_place n [] = refl
head_place n (p ∷ ps) = refl

pub stands : (n : ℕ) (ps : List Rule) (k : ℕ) (p : Rule) → slice_get ps k ≡ Some p → Stands n ps k p
stands n [] k p h = absurd (none-some p h)
stands n (q ∷ ps) zero p h =
    let e : q ≡ p = same_Some q p h in
    subst (Stands n (q ∷ ps) 0) e (record {
      before = [];
      behind = entries_of ps;
      entries = refl;
      begin = ap (λ z. Some z) (omega arith);
      end = head_place (n + (length q.right + 1)) ps ∙ ap (λ z. Some z) (omega arith);
    })
stands n (q ∷ ps) (suc k) p h =
    let s = stands (n + (length q.right + 1)) ps k p h in
    let first : List Entry = Left (record { 0 = q.left }) q.mark ∷ right_entries q.right in
    let long : n + (length q.right + 1) + length s.before ≡ n + length (first ++ s.before) = omega (arith, length-append first s.before, length_right q.right) in
    record {
      before = first ++ s.before;
      behind = s.behind;
      entries = ap (λ zs. first ++ zs) s.entries ∙ sym (append_assoc first s.before (Left (record { 0 = p.left }) p.mark ∷ (right_entries p.right ++ s.behind)));
      begin = s.begin ∙ ap (λ z. Some z) long;
      end = s.end ∙ ap (λ z. Some (z + (length p.right + 1))) long;
    }

-- what is read between the two places is the production
pub reads : (ps : List Rule) (entries right : List Entry) (k begin end : ℕ) (p : Rule) → slice_get ps k ≡ Some p → entries ≡ entries_of ps → slice_get (places_from 0 ps) k ≡ Some begin → slice_get (places_from 0 ps) (suc k) ≡ Some end → right ≡ slice_range entries (begin + 1) end → (slice_get entries begin ≡ Some (Left (record { 0 = p.left }) p.mark)) × (symbols_of right ≡ p.right) × (begin < end) × (end ≤ length entries)
reads ps entries right k begin end p at e f h r =
    let s = stands 0 ps k p at in
    let begin_is : begin ≡ length s.before = same_Some begin (0 + length s.before) (sym f ∙ s.begin) ∙ zero-add (length s.before) in
    let end_is : end ≡ length s.before + (length p.right + 1) = omega (arith, same_Some end (0 + length s.before + (length p.right + 1)) (sym h ∙ s.end)) in
    let whole = e ∙ s.entries in
    let left : slice_get entries begin ≡ Some (Left (record { 0 = p.left }) p.mark) = rw (whole, begin_is) (slice_get-seam s.before (Left (record { 0 = p.left }) p.mark) (right_entries p.right ++ s.behind)) in
    let first : List Entry = s.before ++ (Left (record { 0 = p.left }) p.mark ∷ []) in
    let split : entries ≡ first ++ (right_entries p.right ++ s.behind) = whole ∙ sym (append_assoc s.before (Left (record { 0 = p.left }) p.mark ∷ []) (right_entries p.right ++ s.behind)) in
    let first_long : length first ≡ begin + 1 = length_push s.before (Left (record { 0 = p.left }) p.mark) ∙ ap (λ z. z + 1) (sym begin_is) in
    let right_is : right ≡ right_entries p.right =
    r ∙ ap (λ zs. take (end - (begin + 1)) (drop (begin + 1) zs)) split
    ∙ ap (take (end - (begin + 1))) (drop_at first (right_entries p.right ++ s.behind) (begin + 1) first_long)
    ∙ take_at (right_entries p.right) s.behind (end - (begin + 1)) (omega (arith, length_right p.right, begin_is, end_is)) in
    let long : length entries ≡ length first + (length (right_entries p.right) + length s.behind) = ap length split ∙ length-append first (right_entries p.right ++ s.behind) ∙ ap (λ z. length first + z) (length-append (right_entries p.right) s.behind) in
    (left, ap symbols_of right_is ∙ symbols-right p.right, omega (arith, begin_is, end_is), omega (arith, long, first_long, length_right p.right, begin_is, end_is))

rule : ℕ → List Symbol → Option Mark → Rule
rule left right mark = record { left = left; right = right; mark = mark }

pub rule_same : (p : Rule) (left : Nonterminal) (right : List Symbol) (mark : Option Mark) → Left (record { 0 = p.left }) p.mark ≡ Left left mark → right ≡ p.right → p ≡ record { left = left.0; right = right; mark = mark }
unfolding rule
rule_same p left right mark e f =
    let left_is : p.left ≡ left.0 = lefts (record { 0 = p.left }) left p.mark mark e in
    let mark_is : p.mark ≡ mark = marks (record { 0 = p.left }) left p.mark mark e in
    ap (λ z. rule z p.right p.mark) left_is ∙ ap (λ z. rule left.0 z p.mark) (sym f) ∙ ap (λ z. rule left.0 right z) mark_is
  where
    lefts : (a b : Nonterminal) (m n : Option Mark) → Left a m ≡ Left b n → a.0 ≡ b.0
    lefts a b m n h = ap (λ (z : Nonterminal). z.0) (same_left a b m n h)
      where
        same_left : (a b : Nonterminal) (m n : Option Mark) → Left a m ≡ Left b n → a ≡ b
        same_left a b m n h = cc

    marks : (a b : Nonterminal) (m n : Option Mark) → Left a m ≡ Left b n → m ≡ n
    marks a b m n h = cc
