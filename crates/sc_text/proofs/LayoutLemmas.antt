-- Laid-out lines: one list after another, what each file's number stands in, and what the order of
-- the nodes rests on.
use Rattle.std.proofs.Common.{◌≡◌, ℕ, ◌<◌, ◌≤◌, inl, inr, true, List, [], ◌∷◌, ◌++◌, length, All, Some, None, refl, sym, ap, subst, arith, append_assoc, if◌then◌else◌}
use Rattle.std.specs.List.{list_all}
use Rattle.std.proofs.lemmas.Bool.{and_from, cases_lt, lt-ltb, true≢false}
use Rattle.std.proofs.lemmas.List.Elements.{All-nil, All-map, All-head, All-tail}
use Rattle.sc_text.specs.Answer.{Condition}
use Rattle.sc_text.specs.Layout.{Counts, IsKnown, Gives, next_condition, next_file, Introduces, nothing, known, new, LaysOut, done, shows, is_item, HasOrder}
use Rattle.sc_model.specs.Sets.{IsConfig}
use Rattle.sc_model.specs.Space.{Space, arities_of}
use Rattle.sc_text.specs.Text.{TextLine, condition_line, file_line, end_line, Need, condition_numbered, file_numbered, needs, condition_at, Reading, with_line, is_read, read_line}
use Rattle.sc_model.proofs.SetLemmas.{DependsFrom-same}
use Rattle.sc_text.proofs.OneLayout.{IsKnown-Introduces}

pub LaysOut-append : {n m k : Counts} {items others lines more : List TextLine} → LaysOut n items lines m → LaysOut m others more k → LaysOut n (items ++ others) (lines ++ more) k
LaysOut-append (done n) later = later
LaysOut-append {n} {k = k} {others = others} {more = more} (shows n1 after m item items first rest introduced laid) later =
    subst (λ t. LaysOut n (item ∷ (items ++ others)) t k) (sym (append_assoc first (item ∷ rest) more)) (shows n after k item (items ++ others) first (rest ++ more) introduced (LaysOut-append laid later))

-- the last line needs no other
pub LaysOut-end : {n m : Counts} {items lines : List TextLine} → LaysOut n items lines m → LaysOut n (items ++ end_line ∷ []) (lines ++ end_line ∷ []) m
LaysOut-end {m = m} laid = LaysOut-append laid (shows m m m end_line [] [] [] (nothing m) (done m))

-- ---- items

-- what is needed stands, and so was read
given_stands : {n m : Counts} {line : TextLine} {need : Need} → Gives n line need m → IsKnown m need
given_stands (next_condition n variable options) = omega arith
given_stands (next_file n name) = omega arith

module _ (r : Reading) where
  stands_read : {m : Counts} (need : Need) → m.conditions ≡ length r.conditions → m.files ≡ length r.files → IsKnown m need → is_read r need ≡ true
  stands_read (condition_numbered number) same same_files stands = lt-ltb number (length r.conditions) (omega (arith, same, stands))
  stands_read (file_numbered number) same same_files stands = lt-ltb number (length r.files) (omega (arith, same_files, stands))

  introduced_read : {n m : Counts} {needed : List Need} {lines : List TextLine} → Introduces n needed lines m → m.conditions ≡ length r.conditions → m.files ≡ length r.files → list_all (is_read r) needed ≡ true
  introduced_read (nothing n) same same_files = refl
  introduced_read (known n m need needed lines stands rest) same same_files =
      and_from (is_read r need) (list_all (is_read r) needed) (stands_read need same same_files (IsKnown-Introduces need rest stands)) (introduced_read rest same same_files)
  introduced_read (new n before after m line need needed lines more introduced gives rest) same same_files =
      and_from (is_read r need) (list_all (is_read r) needed) (stands_read need same same_files (IsKnown-Introduces need rest (given_stands gives))) (introduced_read rest same same_files)

  -- an item is read below the lines that it needs
  pub read_item : {n m : Counts} {lines : List TextLine} (space : Space) (line : TextLine) → is_item line ≡ true → Introduces n (needs line) lines m → m.conditions ≡ length r.conditions → m.files ≡ length r.files
      → read_line space r line ≡ Some (with_line r line)
  read_item space (condition_line id name options) right introduced same same_files = absurd (true≢false (sym right))
  read_item space (file_line id name) right introduced same same_files = absurd (true≢false (sym right))
  read_item space line right introduced same same_files = ap (λ b. if b then Some (with_line r line) else None) (introduced_read introduced same same_files)

pub item_ordered : (space : Space) (tests : List Condition) (line : TextLine) → is_item line ≡ true → HasOrder space tests line
item_ordered space tests (condition_line id name options) right = absurd (true≢false (sym right))
item_ordered space tests line right = tt

-- ---- files

-- of what is needed, the files
abbrev pub OfFiles : (ℕ → Type 0) → Need → Type 0
OfFiles P (condition_numbered number) = Unit {0}
OfFiles P (file_numbered number) = P number

-- a line that gives a number needs no file
no_file : {before after : Counts} {line : TextLine} {need : Need} (P : ℕ → Type 0) → Gives before line need after → All (OfFiles P) (needs line)
no_file P (next_condition before variable options) = All-map (OfFiles P) (λ (option : List ℕ × ℕ). condition_numbered option.1) options (λ k d below. tt)
no_file P (next_file before name) = All-nil (OfFiles P)

-- the file that it gives is the one that is needed
given_file : {before after : Counts} {line : TextLine} {need : Need} (P : ℕ → Type 0) → OfFiles P need → Gives before line need after → (k : ℕ) → before.files ≤ k → k < after.files → P k
given_file P holds (next_condition before variable options) k above below = absurd (omega arith)
given_file P holds (next_file before name) k above below = let same : before.files ≡ k = omega arith in subst P same holds

-- what holds of the numbers of files that items need holds of all that have a line
introduced_file : {n m : Counts} {others : List Need} {lines : List TextLine} (P : ℕ → Type 0) → All (OfFiles P) others → Introduces n others lines m → (k : ℕ) → n.files ≤ k → k < m.files → P k
introduced_file P holds (nothing n) k above below = absurd (omega arith)
introduced_file P holds (known n m need others lines stands rest) k above below = introduced_file P (All-tail (OfFiles P) need others holds) rest k above below
introduced_file P holds (new n before after m line need others lines more introduced gives rest) k above below = elim (cases_lt k before.files) [
  | inl sooner ↦ introduced_file P (no_file P gives) introduced k above sooner
  | inr not_sooner ↦
      elim (cases_lt k after.files) [
        | inl here ↦ given_file P (All-head (OfFiles P) need others holds) gives k not_sooner here
        | inr later ↦ introduced_file P (All-tail (OfFiles P) need others holds) rest k later below
      ]
]

pub LaysOut-each_file : {n m : Counts} {items lines : List TextLine} (P : ℕ → Type 0) → All (λ (item : TextLine). All (OfFiles P) (needs item)) items → LaysOut n items lines m → (k : ℕ) → n.files ≤ k → k < m.files → P k
LaysOut-each_file P holds (done n) k above below = absurd (omega arith)
LaysOut-each_file P holds (shows n after m item items first more introduced rest) k above below = elim (cases_lt k after.files) [
  | inl sooner ↦ introduced_file P (All-head (λ (line : TextLine). All (OfFiles P) (needs line)) item items holds) introduced k above sooner
  | inr later ↦ LaysOut-each_file P (All-tail (λ (line : TextLine). All (OfFiles P) (needs line)) item items holds) rest k later below
]

-- numbers that stand for the same sets have one order
pub HasOrder-same : (space : Space) (tests others : List Condition) → ((n : ℕ) (config : List ℕ) → IsConfig (arities_of space) config → condition_at others n config ≡ condition_at tests n config)
    → (line : TextLine) → HasOrder space tests line → HasOrder space others line
HasOrder-same space tests others same (condition_line id name options) ordered = record {
  later = λ place variable found k d h. DependsFrom-same refl (λ config listed. same _ config listed) (ordered.later place variable found k d h);
}
HasOrder-same space tests others same line ordered = ordered
