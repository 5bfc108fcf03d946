-- The lines of items, after one another.
use Rattle.std.specs.List.{concat}
use Rattle.std.proofs.Common.{◌≡◌, ℕ, zero, suc, ◌+◌, ◌<◌, true, false, List, [], ◌∷◌, ◌++◌, length, map, take, slice_get, Some, All, refl, sym, ap, subst, ◌∙◌, arith, append-nil, append_assoc}
use Rattle.std.proofs.lemmas.List.{map-append, take_more}
use Rattle.std.proofs.lemmas.List.Elements.{All-nil, All-append}
use Rattle.std.proofs.lemmas.Option.{same_Some, slice_get_within, get_or_from_slice_get}
use Rattle.sc_base.specs.declared.id.Cond.{Cond}
use Rattle.sc_base.specs.declared.id.FileId.{FileId}
use Rattle.sc_base.proofs.Growth.{Extends-refl, Extends-trans, Extends-keeps}
use Rattle.sc_model.specs.Growth.{Extends}
use Rattle.sc_text.specs.Layout.{Counts, Gives, next_condition, next_file, Introduces, nothing, known, new, LaysOut, done, shows, is_item, HasOrder}
use Rattle.sc_model.specs.Sets.{Sets, Keeps, IsNever}
use Rattle.sc_model.specs.Space.{Space}
use Rattle.sc_text.specs.Text.{TextLine, Need, condition_numbered, file_numbered, needs, is_clear, is_end, line_text}
use Rattle.sc_text.proofs.LayoutLemmas.{LaysOut-append, item_ordered}
use Rattle.sc_text.proofs.OneLayout.{IsKnown-Introduces}
use Rattle.sc_model.proofs.SetLemmas.{Keeps-trans, IsNever-Keeps}
use Rattle.sc_show.specs.declared.printer.Printer.{Printer}
use Rattle.sc_show.specs.Prints.{IsTable, Prints}
use Rattle.sc_show.specs.Rules.{Introduced, IntroducedFile, Item, AreLinesOf, no_line, without_line, line_of, LaidLines, LaidOut, counts_of, tests_of}
use Rattle.sc_text.proofs.ListLemmas.{All-one}
use Rattle.sc_show.proofs.PrinterIntroducing.{Introduces-append}
use Rattle.sc_show.proofs.PrinterNumbers.{owned_at}
use Rattle.sc_show.proofs.PrinterReading.{wrote-nothing, wrote-line, wrote-more}
use Rattle.sc_show.proofs.PrinterSteps.{Prints-item}

AreLinesOf-append : {s : Sets} {ks : List Cond} {fs : List FileId} {items others : List Item} {lines more : List TextLine} → AreLinesOf s ks fs items lines → AreLinesOf s ks fs others more
    → AreLinesOf s ks fs (items ++ others) (lines ++ more)
AreLinesOf-append no_line b = b
AreLinesOf-append {others = others} {more = more} (without_line item items lines none rest) b = without_line item (items ++ others) (lines ++ more) none (AreLinesOf-append rest b)
AreLinesOf-append {others = others} {more = more} (line_of item number file items lines some at file_at rest) b =
    line_of item number file (items ++ others) (lines ++ more) some at file_at (AreLinesOf-append rest b)

-- ---- lines

pub LaidLines-trans : {space : Space} {old mid new : Sets} {files : List (List ℕ)} {p q r : Printer} {shown more : List TextLine} → Keeps mid new → LaidLines space old mid files p q shown → LaidLines space mid new files q r more
    → LaidLines space old new files p r (shown ++ more)
LaidLines-trans {space} {old} {mid} {new} {files} {p} {q} {r} keeps a b = record {
  lines = a.lines ++ b.lines;
  wrote = wrote-more p.text.items a.lines b.lines a.wrote b.wrote;
  laid = LaysOut-append a.laid b.laid;
  ordered = λ s ks kept grows. All-append (HasOrder space (tests_of s ks)) a.lines b.lines (a.ordered s ks (Keeps-trans keeps kept) (Extends-trans b.grows grows)) (b.ordered s ks kept grows);
  table = b.table;
  grows = Extends-trans a.grows b.grows;
  files_grow = Extends-trans a.files_grow b.files_grow;
  prints = λ before was. subst (Prints space new files r) (append_assoc before a.lines b.lines) (b.prints (before ++ a.lines) (a.prints before was));
}

pub LaidLines-nothing : {space : Space} {s : Sets} {files : List (List ℕ)} {p : Printer} → IsTable s p.conditions.keys → LaidLines space s s files p p []
LaidLines-nothing {space} {s} {files} {p} table = record {
  lines = [];
  wrote = wrote-nothing p.text.items refl;
  laid = done (counts_of p);
  ordered = λ t ks kept grows. All-nil (HasOrder space (tests_of t ks));
  table = table;
  grows = Extends-refl p.conditions.keys;
  files_grow = Extends-refl p.files.keys;
  prints = λ before was. subst (Prints space s files p) (sym (append-nil before)) was;
}

-- an item's line, below those that it needs
module _ {space : Space} {old s : Sets} {files : List (List ℕ)} {p q : Printer} (u : Printer) (line : TextLine) (first : List TextLine) (right : is_item line ≡ true) (unended : is_end line ≡ false) (clear : is_clear line ≡ true)
    (wrote : q.text.items ≡ p.text.items ++ concat (map line_text first)) (written : u.text.items ≡ q.text.items ++ line_text line) (introduced : Introduces (counts_of p) (needs line) first (counts_of q))
    (ordered : (t : Sets) (ks : List Cond) → Keeps s t → Extends q.conditions.keys ks → All (HasOrder space (tests_of t ks)) first)
    (table : IsTable s q.conditions.keys) (grows : Extends p.conditions.keys q.conditions.keys) (files_grow : Extends p.files.keys q.files.keys)
    (kept : u.conditions.keys ≡ q.conditions.keys) (kept_files : u.files.keys ≡ q.files.keys)
    (prints : (before : List TextLine) → Prints space old files p before → Prints space s files q (before ++ first)) where
  pub LaidLines-one : LaidLines space old s files p u (line ∷ [])
  LaidLines-one =
      let conditions_are = ap length (sym kept) in
      let files_are = ap length (sym kept_files) in
      let counted : counts_of q ≡ counts_of u = λ i. record { conditions = conditions_are i; files = files_are i } in
      record {
        lines = first ++ line ∷ [];
        wrote = wrote-more p.text.items first (line ∷ []) wrote (wrote-line q.text.items line written);
        laid = shows (counts_of p) (counts_of u) (counts_of u) line [] first [] (subst (Introduces (counts_of p) (needs line) first) counted introduced) (done (counts_of u));
        ordered = λ t ks keeps more.
            All-append (HasOrder space (tests_of t ks)) first (line ∷ []) (ordered t ks keeps (subst (λ ls. Extends ls ks) kept more))
            (All-one (HasOrder space (tests_of t ks)) line (item_ordered space (tests_of t ks) line right));
        table = subst (IsTable s) (sym kept) table;
        grows = subst (Extends p.conditions.keys) (sym kept) grows;
        files_grow = subst (Extends p.files.keys) (sym kept_files) files_grow;
        prints = λ before was. subst (Prints space s files u) (append_assoc before first (line ∷ [])) (Prints-item line right unended clear introduced kept kept_files (prints before was));
      }

-- ---- items

pub LaidOut-trans : {space : Space} {old mid new : Sets} {files : List (List ℕ)} {p q r : Printer} {items more : List Item} → Keeps mid new → LaidOut space old mid files p q items → LaidOut space mid new files q r more
    → LaidOut space old new files p r (items ++ more)
LaidOut-trans keeps a b = record {
  shown = a.shown ++ b.shown;
  laid = LaidLines-trans keeps a.laid b.laid;
  are = λ s ks fs kept grows files_grow.
      AreLinesOf-append (a.are s ks fs (Keeps-trans keeps kept) (Extends-trans b.laid.grows grows) (Extends-trans b.laid.files_grow files_grow)) (b.are s ks fs kept grows files_grow);
  same_trees = b.same_trees ∙ a.same_trees;
}

pub LaidOut-nothing : {space : Space} {s : Sets} {files : List (List ℕ)} {p : Printer} → IsTable s p.conditions.keys → LaidOut space s s files p p []
LaidOut-nothing table = record { shown = []; laid = LaidLines-nothing table; are = λ t ks fs kept grows files_grow. no_line; same_trees = refl }

-- what never has has no number but 0, and nothing is printed for it
nothing_needed : {n m : Counts} {lines : List TextLine} → Introduces n [] lines m → (lines ≡ []) × (m ≡ n)
nothing_needed (nothing n) = (refl, refl)

given_number : {n m : Counts} {line : TextLine} {need : Need} → Gives n line need m → 0 < n.conditions → need ≡ condition_numbered 0 → ⊥
given_number (next_condition n variable options) some is = let none : n.conditions ≡ 0 = cc in omega arith
given_number (next_file n name) some is = cc

introduced_never : {n m : Counts} {needed : List Need} {lines : List TextLine} → Introduces n needed lines m → 0 < n.conditions → needed ≡ condition_numbered 0 ∷ [] → (lines ≡ []) × (m ≡ n)
introduced_never (nothing n) some is = cc
introduced_never (known n m need others lines stands rest) some is = by others rest (cc)
  where
    by : (others : List Need) → Introduces n others lines m → others ≡ [] → (lines ≡ []) × (m ≡ n)
    by [] rest none = nothing_needed rest
    by (need ∷ others) rest none = cc
introduced_never (new n before after m line need others lines more introduced gives rest) some is =
    absurd (given_number gives (IsKnown-Introduces (condition_numbered 0) introduced some) (cc))

-- no configuration has the item
pub LaidOut-never : {space : Space} {old s : Sets} {files : List (List ℕ)} {p q : Printer} (item : Item) (n : ℕ) → n ≡ 0 → IsTable old p.conditions.keys → Introduced space old s p q (n ∷ []) → slice_get q.conditions.keys n ≡ Some item.cond
    → LaidOut space old s files p q (item ∷ [])
LaidOut-never {space} {old} {s} {files} {p} {q} item n is table introduced numbered =
    let some : 0 < length p.conditions.keys = slice_get_within p.conditions.keys 0 table.never.cond table.never.found in
    let none = introduced_never introduced.introduces some (λ i. condition_numbered (is i) ∷ []) in
    let never = same_Some introduced.table.never.cond item.cond (sym introduced.table.never.found ∙ ap (slice_get q.conditions.keys) (sym is) ∙ numbered) in
    let empty : IsNever s item.cond.0 = record { none = λ c listed. ap (λ (k : Cond). s.has k.0 c) (sym never) ∙ introduced.table.never.means.at c listed } in
    record {
      shown = [];
      laid = record {
        lines = introduced.lines;
        wrote = introduced.wrote;
        laid = subst (λ lines. LaysOut (counts_of p) [] lines (counts_of q)) (sym none.0) (subst (LaysOut (counts_of p) [] []) (sym none.1) (done (counts_of p)));
        ordered = introduced.ordered;
        table = introduced.table;
        grows = introduced.grows;
        files_grow = subst (Extends p.files.keys) (sym introduced.same_files) (Extends-refl p.files.keys);
        prints = introduced.prints files;
      };
      are = λ t ks fs kept grows files_grow. without_line item [] [] (IsNever-Keeps kept (owned_at n item.cond introduced.table numbered) empty) no_line;
      same_trees = introduced.same_trees;
    }

pub not_zero : (n : ℕ) → (n ≡ 0 → ⊥) → 0 < n
not_zero zero other = absurd (other refl)
not_zero (suc n) other = omega arith

-- an item's line, after those of its condition and of its file
pub LaidOut-one : {space : Space} {old s : Sets} {files : List (List ℕ)} {p q r u : Printer} (item : Item) (n m : ℕ) → needs (item.line n m) ≡ condition_numbered n ∷ file_numbered m ∷ [] → is_item (item.line n m) ≡ true
    → is_end (item.line n m) ≡ false → is_clear (item.line n m) ≡ true → 0 < n → Introduced space old s p q (n ∷ []) → IntroducedFile files q r m → slice_get q.conditions.keys n ≡ Some item.cond
    → slice_get r.files.keys m ≡ Some item.file → u.conditions.keys ≡ r.conditions.keys → u.files.keys ≡ r.files.keys → u.trees.keys ≡ r.trees.keys → u.text.items ≡ r.text.items ++ line_text (item.line n m)
    → LaidOut space old s files p u (item ∷ [])
LaidOut-one {space} {old} {s} {files} {p} {q} {r} {u} item n m needs_are right unended clear some conditions file numbered file_found kept kept_files kept_trees written =
    let keys = file.same_conditions in
    record {
      shown = item.line n m ∷ [];
      laid = LaidLines-one u (item.line n m) (conditions.lines ++ file.lines) right unended clear
          (wrote-more p.text.items conditions.lines file.lines conditions.wrote file.wrote) written
          (subst (λ needed. Introduces (counts_of p) needed (conditions.lines ++ file.lines) (counts_of r)) (sym needs_are) (Introduces-append conditions.introduces file.introduces))
          (λ t ks keeps grows.
          All-append (HasOrder space (tests_of t ks)) conditions.lines file.lines (conditions.ordered t ks keeps (subst (λ ls. Extends ls ks) keys grows)) (file.ordered space (tests_of t ks)))
          (subst (IsTable s) (sym keys) conditions.table) (subst (Extends p.conditions.keys) (sym keys) conditions.grows) (subst (λ fs. Extends fs r.files.keys) conditions.same_files file.grows)
          kept kept_files
          (λ before was. subst (Prints space s files r) (append_assoc before conditions.lines file.lines) (file.prints space s (before ++ conditions.lines) (conditions.prints files before was)));
      are = λ t ks fs keeps grows files_grow.
          line_of item n m [] [] some (Extends-keeps _ _ (ap (λ ls. slice_get ls n) (kept ∙ keys) ∙ numbered) grows)
          (Extends-keeps _ _ (ap (λ gs. slice_get gs m) kept_files ∙ file_found) files_grow) no_line;
      same_trees = kept_trees ∙ file.same_trees ∙ conditions.same_trees;
    }

-- the items so far with the next one
pub LaidOut-more : {X : Type 0} {space : Space} {old mid new : Sets} {files : List (List ℕ)} {p q r : Printer} (f : X → Item) (xs : List X) (i : ℕ) (x : X) (item : Item) → slice_get xs i ≡ Some x → item ≡ f x → Keeps mid new
    → LaidOut space old mid files p q (map f (take i xs)) → LaidOut space mid new files q r (item ∷ []) → LaidOut space old new files p r (map f (take (i + 1) xs))
LaidOut-more {X} {space} {old} {mid} {new} {files} {p} {q} {r} f xs i x item at is keeps before one =
    let next : map f (take i xs) ++ item ∷ [] ≡ map f (take (i + 1) xs) =
    ap (λ y. map f (take i xs) ++ y ∷ []) is ∙ sym (map-append f (take i xs) (x ∷ [])) ∙ ap (λ y. map f (take i xs ++ y ∷ [])) (sym (get_or_from_slice_get xs i x x at))
    ∙ ap (map f) (sym (take_more xs i x (slice_get_within xs i x at))) in
    subst (LaidOut space old new files p r) next (LaidOut-trans keeps before one)
