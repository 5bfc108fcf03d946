-- The parser of C11 goes by the tables of its grammar.
use Rattle.std.proofs.Common.{◌≡◌, ℕ, zero, suc, ◌<◌, ◌≤◌, ◌+◌, ◌==◌, ◌&&◌, ◌||◌, not, nat_lt, Bool, true, false, IsTrue, List, [], ◌∷◌, length, take, Option, Some, None, refl, sym, ap, subst, arith}
use Rattle.std.specs.Prelude.{count_by}
use Rattle.std.proofs.lemmas.Bool.{true≢false, ltb-true}
use Rattle.std.proofs.lemmas.Option.{same_Some, none-some}
use Rattle.c11_parsing.specs.Derives.{IsParserOf}
use Rattle.lr_tables.specs.declared.grammar.Entry.{Entry}
use Rattle.lr_tables.specs.declared.grammar.Entry.TheVariants.{Left, Right}
use Rattle.lr_tables.specs.declared.grammar.Grammar.{Grammar}
use Rattle.lr_tables.specs.declared.grammar.Mark.{Mark}
use Rattle.lr_tables.specs.declared.grammar.Nonterminal.{Nonterminal}
use Rattle.lr_tables.specs.Grammar.{entries_of, symbol_number, is_left, after, production_at, Ends}
use Rattle.lr_tables.specs.Tables.{AreTables, Tables}
use Rattle.lr_tables.proofs.Members.{and-left, and-right}
use Rattle.lr_tables.proofs.Productions.{counted, lefts, right_at}
use Rattle.sc_fork.specs.Parsers.{c11_parser}
use Rattle.sc_fork.proofs.ProductionLemmas.{is-grammar, starts-apart, terminal-below}
use Rattle.sc_grammar.specs.C11.{productions}
use Rattle.sc_model.specs.declared.standard.Standard.{Standard}

-- ---- the end of a text

-- the next entry is of no right side
abbrev is_last : List Entry → Bool
is_last [] = true
is_last (Left n mark ∷ entries) = true
is_last (Right x ∷ entries) = false

-- the end stands last, in one of the first two productions; so many left sides stand before
abbrev end_last : ℕ → List Entry → Bool
end_last k [] = true
end_last k (Left n mark ∷ entries) = end_last (suc k) entries
end_last k (Right x ∷ entries) = (not (symbol_number 96 x == 95) || (nat_lt k 3 && is_last entries)) && end_last k entries

end-all : IsTrue (end_last 0 (entries_of productions))
end-all = refl

-- what the test says of the entry before this place, which is the end
record IsLast (k : ℕ) (entries : List Entry) (n : ℕ) : Type 0 where
  within : n ≤ length entries
  at_end : right_at 96 entries n ≡ None
  low : k + lefts (take n entries) < 3

more-lefts : (k : ℕ) (n : Nonterminal) (mark : Option Mark) (entries : List Entry) (m : ℕ) → IsLast (suc k) entries m → IsLast k (Left n mark ∷ entries) (suc m)
more-lefts k n mark entries m last = record { within = omega (arith, last.within); at_end = last.at_end; low = omega (arith, last.low) }

end-test : (x k : ℕ) (last : Bool) → (not (x == 95) || (nat_lt k 3 && last)) ≡ true → x ≡ 95 → (k < 3) × (last ≡ true)
end-test x k last test is = by (nat_lt k 3) refl (subst (λ y. (not (y == 95) || (nat_lt k 3 && last)) ≡ true) is test)
  where
    by : (b : Bool) → nat_lt k 3 ≡ b → (b && last) ≡ true → (k < 3) × (last ≡ true)
    by true low both = (ltb-true k 3 low, both)
    by false low both = absurd (true≢false (sym both))

none-behind : (entries : List Entry) → is_last entries ≡ true → right_at 96 entries 0 ≡ None
none-behind [] last = refl
none-behind (Left n mark ∷ entries) last = refl
none-behind (Right x ∷ entries) last = absurd (true≢false (sym last))

last-at : (k : ℕ) (entries : List Entry) (i n : ℕ) → end_last k entries ≡ true → right_at 96 entries i ≡ Some 95 → n ≡ i + 1 → IsLast k entries n
last-at k [] i n test is next = absurd (none-some 95 is)
last-at k (e ∷ entries) i zero test is next = absurd (omega (arith, next))
last-at k (Left o mark ∷ entries) zero (suc n) test is next = absurd (none-some 95 is)
last-at k (Left o mark ∷ entries) (suc i) (suc n) test is next = more-lefts k o mark entries n (last-at (suc k) entries i n test is (omega (arith, next)))
last-at k (Right x ∷ entries) (suc i) (suc n) test is next =
    let rest = last-at k entries i n (and-right (not (symbol_number 96 x == 95) || (nat_lt k 3 && is_last entries)) (end_last k entries) test) is (omega (arith, next)) in
    record { within = omega (arith, rest.within); at_end = rest.at_end; low = rest.low }
last-at k (Right x ∷ entries) zero (suc n) test is next =
    let passed = end-test (symbol_number 96 x) k (is_last entries) (and-left (not (symbol_number 96 x == 95) || (nat_lt k 3 && is_last entries)) (end_last k entries) test) (same_Some (symbol_number 96 x) 95 is) in
    let first : 0 ≡ n = omega (arith, next) in
    subst (λ m. IsLast k (Right x ∷ entries) (suc m)) first (record { within = omega arith; at_end = none-behind entries passed.1; low = omega (arith, passed.0) })

-- ---- the parser

module _ (g : Grammar) (entries : g.entries.now ≡ entries_of productions) (terminals : g.terminals ≡ 96) (nonterminals : g.nonterminals ≡ 100) where
  ends-last : (i : ℕ) → after g i ≡ Some 95 → (p : ℕ) × Ends g (i + 1) p × (p < 3)
  ends-last i is =
      let here : right_at 96 (entries_of productions) (i + 1) ≡ Some 95 = subst (λ es. right_at 96 es (i + 1) ≡ Some 95) entries (subst (λ t. right_at t g.entries.now (i + 1) ≡ Some 95) terminals is) in
      let last = last-at 0 (entries_of productions) (i + 1) (i + 1 + 1) end-all here refl in (
        production_at g (i + 1),
        record {
          within = omega (arith, last.within, ap length entries);
          at_end = subst (λ t. right_at t g.entries.now (i + 1 + 1) ≡ None) (sym terminals) (subst (λ es. right_at 96 es (i + 1 + 1) ≡ None) (sym entries) last.at_end);
          production = refl;
        },
        omega (arith, last.low, counted (take (i + 1 + 1) (entries_of productions)), ap (λ es. count_by is_left (take (i + 1 + 1) es)) entries),
      )

  pub is-parser : (standard : Standard) (tables seen : Tables) → AreTables g tables → seen.action ≡ tables.action → seen.goto ≡ tables.goto → IsParserOf g (c11_parser standard seen)
  is-parser standard tables seen are action goto = record {
    grammar = is-grammar g entries terminals nonterminals;
    entries = entries;
    terminals = terminals;
    tables = tables;
    are_tables = are;
    action = action;
    goto = goto;
    starts_apart = starts-apart g entries terminals nonterminals;
    whole = record {
      some_text = _;
      no_text = _;
      first = refl;
      second = refl;
      left = refl;
      text = _;
      end = _;
      is_end = refl;
      some_right = refl;
      no_right = refl;
      last = ends-last;
    };
    end = omega arith;
    tokens = λ t x is. let below = terminal-below standard t.kind t.spelling x is in record { within = omega (arith, below); not_end = λ e. omega (arith, below, e) };
    typedef_kind = record { within = omega arith; not_end = λ e. omega (arith, e) };
    variable_kind = record { within = omega arith; not_end = λ e. omega (arith, e) };
  }
