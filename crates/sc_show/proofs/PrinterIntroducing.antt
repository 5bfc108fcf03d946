-- Lines that give numbers, after one another.
use Rattle.std.proofs.Common.{◌≡◌, ℕ, ◌+◌, ◌<◌, ◌≤◌, ◌⊎◌, inl, inr, ◌==◌, Bool, true, false, List, [], ◌∷◌, ◌++◌, length, map, slice_get, Some, All, refl, sym, ap, subst, ◌∙◌, arith, append-nil, append_assoc, length-append}
use Rattle.std.specs.List.{Contains, list_any}
use Rattle.std.proofs.lemmas.List.{map-append}
use Rattle.std.proofs.lemmas.Simd.{map-map}
use Rattle.std.proofs.lemmas.Bool.{cases_lt, true≢false}
use Rattle.std.proofs.lemmas.Cmp.{nat_eq_equiv, on_equiv}
use Rattle.std.proofs.lemmas.List.Elements.{All-nil, All-append}
use Rattle.std.proofs.lemmas.Map.Views.{list_any-from_Contains}
use Rattle.std.proofs.lemmas.Option.{same_Some, slice_get_within, slice_get-get_or, get_or_from_slice_get}
use Rattle.sc_base.specs.declared.id.Cond.{Cond}
use Rattle.sc_base.specs.declared.id.FileId.{FileId}
use Rattle.sc_base.proofs.Growth.{Extends-refl, Extends-trans, Extends-push}
use Rattle.sc_model.specs.Growth.{Extends}
use Rattle.sc_text.specs.Layout.{Counts, next_condition, next_file, Introduces, nothing, known, new, HasOrder}
use Rattle.sc_model.specs.Sets.{Sets, IsConfig, IsCond, Denotes, Keeps, IsCanonical, IsNever, IsAlways, DependsFrom, IsTop}
use Rattle.sc_model.proofs.SpaceLemmas.{length-option_words}
use Rattle.sc_model.specs.Space.{Space, Variable, arities_of, option_words}
use Rattle.sc_text.specs.Text.{TextLine, condition_line, file_line, Need, condition_numbered, file_numbered, line_text}
use Rattle.sc_model.specs.Bytes.{has_no_newline}
use Rattle.sc_model.proofs.ListLemmas.{slice_get-front, slice_get-seam}
use Rattle.sc_model.proofs.SetLemmas.{Keeps-trans, DependsFrom-Keeps}
use Rattle.sc_show.specs.declared.printer.Printer.{Printer}
use Rattle.sc_show.specs.Prints.{HasWordNames, IsTable, Prints, choices_of}
use Rattle.sc_show.specs.Rules.{AreFrom, Introduced, IntroducedFile, counts_of, tests_of}
use Rattle.sc_show.proofs.PrinterChildren.{HasChildren, HasChildren-grows, HasOrder-node}
use Rattle.sc_show.proofs.LinesChoices.{numbers-choices_of}
use Rattle.sc_show.proofs.PrinterNumbers.{IsTable-Keeps, IsTable-push, owned_at}
use Rattle.sc_show.proofs.PrinterReading.{wrote-nothing, wrote-line, wrote-more}
use Rattle.sc_show.proofs.PrinterSteps.{Prints-Keeps, Prints-printer, Prints-condition, Prints-file}
use Rattle.sc_text.proofs.ListLemmas.{All-one}

-- ---- which conditions got a number

pub AreFrom-none : {s : Sets} {ks : List Cond} {v : ℕ} → AreFrom s ks ks v
AreFrom-none {s} {ks} = record { each = λ n a above at. absurd (omega (arith, slice_get_within ks n a at)) }

pub AreFrom-before : {s : Sets} {ks ls : List Cond} {v w : ℕ} → v ≤ w → AreFrom s ks ls w → AreFrom s ks ls v
AreFrom-before {v = v} {w = w} ahead from = record {
  each = λ n a above at. let later = from.each n a above at in record { free = λ u below depends. later.free u (let far : u < w = omega (arith, ahead, below) in far) depends };
}

pub AreFrom-push : {s : Sets} {ks ls : List Cond} {v : ℕ} (a : Cond) → DependsFrom s a.0 v → AreFrom s ks ls v → AreFrom s ks (ls ++ a ∷ []) v
AreFrom-push {s} {ks} {ls} {v} a later from = record { each = λ n b above at. by n b above at (cases_lt n (length ls)) }
  where
    by : (n : ℕ) (b : Cond) → length ks ≤ n → slice_get (ls ++ a ∷ []) n ≡ Some b → (n < length ls) ⊎ (length ls ≤ n) → DependsFrom s b.0 v
    by n b above at (inl below) = from.each n b above (sym (slice_get-front ls (a ∷ []) n below) ∙ at)
    by n b above at (inr past) =
        let within = slice_get_within (ls ++ a ∷ []) n b at in
        let last : length ls ≡ n = omega (arith, length-append ls (a ∷ [])) in
        subst (λ (x : Cond). DependsFrom s x.0 v) (same_Some a b (sym (slice_get-seam ls a []) ∙ ap (slice_get (ls ++ a ∷ [])) last ∙ at)) later

pub AreFrom-trans : {old new : Sets} {ks ls ms : List Cond} {v : ℕ} → Keeps old new → IsTable old ls → Extends ls ms → AreFrom old ks ls v → AreFrom new ls ms v → AreFrom new ks ms v
AreFrom-trans {old} {new} {ks} {ls} {ms} {v} keeps table grows first second = record { each = λ n a above at. by n a above at (cases_lt n (length ls)) }
  where
    by : (n : ℕ) (a : Cond) → length ks ≤ n → slice_get ms n ≡ Some a → (n < length ls) ⊎ (length ls ≤ n) → DependsFrom new a.0 v
    by n a above at (inl below) = let was = sym (grows.kept n below) ∙ at in DependsFrom-Keeps keeps (owned_at n a table was) (first.each n a above was)
    by n a above at (inr past) = second.each n a past at

-- a condition gets no number from what depends on later variables than it does
pub AreFrom-absent : {s : Sets} {ks ls : List Cond} {v : ℕ} (a : Cond) → Extends ks ls → AreFrom s ks ls (v + 1) → IsTop s a.0 v → (Contains ks a → ⊥) → Contains ls a → ⊥
AreFrom-absent {s} {ks} {ls} {v} a grows from top absent has = by (cases_lt has.0 (length ks))
  where
    at : slice_get ls has.0 ≡ Some a
    at = slice_get-get_or ls has.0 a has.1 ∙ ap Some has.2

    by : (has.0 < length ks) ⊎ (length ks ≤ has.0) → ⊥
    by (inl below) = absent (has.0, below, get_or_from_slice_get ks has.0 a a (sym (grows.kept has.0 below) ∙ at))
    by (inr past) = (from.each has.0 a past at).free v (omega arith) top.depends

-- ---- the lines of conditions

pub Introduces-append : {n m i : Counts} {ns ms : List Need} {lines more : List TextLine} → Introduces n ns lines m → Introduces m ms more i → Introduces n (ns ++ ms) (lines ++ more) i
Introduces-append (nothing n) b = b
Introduces-append {i = i} {ms = ms} {more = more} (known n m need ns lines stands rest) b = known n i need (ns ++ ms) (lines ++ more) stands (Introduces-append rest b)
Introduces-append {n = n} {i = i} {ms = ms} {more = more0} (new n1 before after m line need ns lines more introduced gives rest) b =
    subst (λ t. Introduces n (need ∷ (ns ++ ms)) t i) (sym (append_assoc lines (line ∷ more) more0)) (new n before after i line need (ns ++ ms) lines (more ++ more0) introduced gives (Introduces-append rest b))

pub Introduced-trans : {space : Space} {s t u : Sets} {p q r : Printer} {ns ms : List ℕ} → Keeps t u → Introduced space s t p q ns → Introduced space t u q r ms → Introduced space s u p r (ns ++ ms)
Introduced-trans {space} {s} {t} {u} {p} {q} {r} {ns} {ms} keeps a b = record {
  lines = a.lines ++ b.lines;
  wrote = wrote-more p.text.items a.lines b.lines a.wrote b.wrote;
  introduces = subst (λ needed. Introduces (counts_of p) needed (a.lines ++ b.lines) (counts_of r)) (sym (map-append condition_numbered ns ms)) (Introduces-append a.introduces b.introduces);
  ordered = λ v ks kept grows. All-append (HasOrder space (tests_of v ks)) a.lines b.lines (a.ordered v ks (Keeps-trans keeps kept) (Extends-trans b.grows grows)) (b.ordered v ks kept grows);
  table = b.table;
  grows = Extends-trans a.grows b.grows;
  same_files = b.same_files ∙ a.same_files;
  same_trees = b.same_trees ∙ a.same_trees;
  prints = λ files before was. subst (Prints space u files r) (append_assoc before a.lines b.lines) (b.prints files (before ++ a.lines) (a.prints files before was));
}

-- nothing is printed as the store grows
pub Introduced-nothing : {space : Space} {old new : Sets} {p : Printer} → Keeps old new → IsTable old p.conditions.keys → Introduced space old new p p []
Introduced-nothing {space} {old} {new} {p} keeps table = record {
  lines = [];
  wrote = wrote-nothing p.text.items refl;
  introduces = nothing (counts_of p);
  ordered = λ s ks kept grows. All-nil (HasOrder space (tests_of s ks));
  table = IsTable-Keeps keeps table;
  grows = Extends-refl p.conditions.keys;
  same_files = refl;
  same_trees = refl;
  prints = λ files before was. subst (Prints space new files p) (sym (append-nil before)) (Prints-Keeps keeps table was);
}

-- a condition that has a number already
pub Introduced-known : {space : Space} {s : Sets} {p : Printer} (a : Cond) (n : ℕ) → IsTable s p.conditions.keys → slice_get p.conditions.keys n ≡ Some a → Introduced space s s p p (n ∷ [])
Introduced-known {space} {s} {p} a n table at = record {
  lines = [];
  wrote = wrote-nothing p.text.items refl;
  introduces = known (counts_of p) (counts_of p) (condition_numbered n) [] [] (slice_get_within p.conditions.keys n a at) (nothing (counts_of p));
  ordered = λ t ks kept grows. All-nil (HasOrder space (tests_of t ks));
  table = table;
  grows = Extends-refl p.conditions.keys;
  same_files = refl;
  same_trees = refl;
  prints = λ files before was. subst (Prints space s files p) (sym (append-nil before)) was;
}

-- a condition's line after those of its children
pub Introduced-node : {space : Space} {old s : Sets} {p q r : Printer} {ns : List ℕ} (a : Cond) (variable : Variable) (v number : ℕ) (shown : List ℕ) → HasWordNames space → s.arities ≡ arities_of space
    → slice_get space.variables v ≡ Some variable → v < length s.arities → IsCond s a.0 → Introduced space old s p q ns → HasChildren s q.conditions.keys a v ns → length ns ≡ length variable.options
    → number ≡ length q.conditions.keys → r.conditions.keys ≡ q.conditions.keys ++ a ∷ [] → r.files.keys ≡ q.files.keys → r.trees.keys ≡ q.trees.keys → shown ≡ ns
    → r.text.items ≡ q.text.items ++ line_text (condition_line number variable.name (choices_of (option_words variable.options) shown)) → Introduced space old s p r (number ∷ [])
Introduced-node {space} {old} {s} {p} {q} {r} {ns} a variable v number shown words arities named within own parts has count at keys same_files same_trees same written = record {
  lines = parts.lines ++ line ∷ [];
  wrote = wrote-more p.text.items parts.lines (line ∷ []) parts.wrote
      (wrote-line q.text.items line (written ∙ ap (λ ms. q.text.items ++ line_text (condition_line number variable.name (choices_of (option_words variable.options) ms))) same));
  introduces = placed;
  ordered = λ t ks kept grows.
      All-append (HasOrder space (tests_of t ks)) parts.lines (line ∷ []) (parts.ordered t ks kept (Extends-trans longer grows))
      (All-one (HasOrder space (tests_of t ks)) line (HasOrder-node number variable words (kept.arities ∙ arities) named (HasChildren-grows kept own (Extends-trans longer grows) has)));
  table = subst (IsTable s) (sym keys) (IsTable-push a own parts.table);
  grows = Extends-trans parts.grows longer;
  same_files = same_files ∙ parts.same_files;
  same_trees = same_trees ∙ parts.same_trees;
  prints = λ files before was.
      subst (Prints space s files r) (append_assoc before parts.lines (line ∷ []))
      (Prints-condition a variable v number ns words arities named within has count at keys same_files (parts.prints files before was));
}
  where
    options : List (List ℕ × ℕ)
    options = choices_of (option_words variable.options) ns

    line : TextLine
    line = condition_line number variable.name (choices_of (option_words variable.options) ns)

    longer : Extends q.conditions.keys r.conditions.keys
    longer = subst (Extends q.conditions.keys) (sym keys) (Extends-push q.conditions.keys a)

    after : Counts
    after = record { conditions = length q.conditions.keys + 1; files = length q.files.keys }

    counted : after ≡ counts_of r
    counted =
        let conditions = sym (ap length keys ∙ length-append q.conditions.keys (a ∷ [])) in
        let files = ap length (sym same_files) in
        λ i. record { conditions = conditions i; files = files i }

    children : Introduces (counts_of p) (map (λ (option : List ℕ × ℕ). condition_numbered option.1) options) parts.lines (counts_of q)
    children = subst (λ needed. Introduces (counts_of p) needed parts.lines (counts_of q))
        (ap (map condition_numbered) (sym (numbers-choices_of (option_words variable.options) ns (count ∙ sym (length-option_words variable.options)))) ∙ map-map condition_numbered (λ (option : List ℕ × ℕ). option.1) options) parts.introduces

    placed : Introduces (counts_of p) (condition_numbered number ∷ []) (parts.lines ++ line ∷ []) (counts_of r)
    placed = subst (Introduces (counts_of p) (condition_numbered number ∷ []) (parts.lines ++ line ∷ [])) counted
        (subst (λ n. Introduces (counts_of p) (condition_numbered n ∷ []) (parts.lines ++ condition_line n variable.name options ∷ []) after) (sym at)
        (new (counts_of p) (counts_of q) after after (condition_line (length q.conditions.keys) variable.name options) (condition_numbered (length q.conditions.keys)) [] parts.lines [] children
        (next_condition (counts_of q) variable.name options) (nothing after)))

-- never has number 0, and always has number 1
same_set : {s : Sets} (key a : Cond) (test : List ℕ → Bool) → IsCanonical s → Denotes s key.0 test → IsCond s a.0 → ((c : List ℕ) → IsConfig s.arities c → s.has a.0 c ≡ test c) → key ≡ a
same_set key a test canonical means own at =
    ap (λ (n : ℕ). let x : Cond = record { 0 = n } in x)
    (canonical.one key.0 a.0 means.own own (record { at = λ c listed. means.at c listed ∙ sym (at c listed) }))

pub numbered : {s : Sets} {ks : List Cond} (a : Cond) → IsCanonical s → IsTable s ks → IsCond s a.0 → IsNever s a.0 ⊎ IsAlways s a.0 → Contains ks a
numbered {s} {ks} a canonical table own either = by either
  where
    at : (n : ℕ) → slice_get ks n ≡ Some a → Contains ks a
    at n found = (n, slice_get_within ks n a found, get_or_from_slice_get ks n a a found)

    by : IsNever s a.0 ⊎ IsAlways s a.0 → Contains ks a
    by (inl never) = at 0 (table.never.found ∙ ap Some (same_set table.never.cond a (λ _. false) canonical table.never.means own never.none))
    by (inr always) = at 1 (table.always.found ∙ ap Some (same_set table.always.cond a (λ _. true) canonical table.always.means own always.all))

pub absent_cond : (ks : List Cond) (a : Cond) → false ≡ list_any (λ (k : Cond). a.0 == k.0) ks → Contains ks a → ⊥
absent_cond ks a none has = true≢false (sym (list_any-from_Contains (on_equiv (λ (k : Cond). k.0) nat_eq_equiv) a ks has) ∙ sym none)

-- ---- the lines of files

-- a file that has a number already
pub IntroducedFile-known : {files : List (List ℕ)} {p q : Printer} (number : ℕ) → number < length q.files.keys → q.files.keys ≡ p.files.keys
    → q.conditions.keys ≡ p.conditions.keys → q.trees.keys ≡ p.trees.keys → q.text.items ≡ p.text.items → IntroducedFile files p q number
IntroducedFile-known {files} {p} {q} number within keys same same_trees same_text = record {
  lines = [];
  wrote = wrote-nothing p.text.items same_text;
  introduces =
      let conditions = ap length (sym same) in
      let files_are = ap length (sym keys) in
      let counted : counts_of p ≡ counts_of q = λ i. record { conditions = conditions i; files = files_are i } in
      subst (Introduces (counts_of p) (file_numbered number ∷ []) []) counted
      (known (counts_of p) (counts_of p) (file_numbered number) [] [] (subst (λ fs. number < length fs) keys within) (nothing (counts_of p)));
  ordered = λ space tests. All-nil (HasOrder space tests);
  grows = subst (Extends p.files.keys) (sym keys) (Extends-refl p.files.keys);
  same_conditions = same;
  same_trees = same_trees;
  prints = λ space s before was. subst (Prints space s files q) (sym (append-nil before)) (Prints-printer same keys was);
}

pub IntroducedFile-new : {files : List (List ℕ)} {p q : Printer} (file : FileId) (name : List ℕ) (number : ℕ) → All (λ (name : List ℕ). has_no_newline name ≡ true) files → slice_get files file.0 ≡ Some name
    → number ≡ length p.files.keys → q.files.keys ≡ p.files.keys ++ file ∷ [] → q.conditions.keys ≡ p.conditions.keys → q.trees.keys ≡ p.trees.keys → q.text.items ≡ p.text.items ++ line_text (file_line number name)
    → IntroducedFile files p q number
IntroducedFile-new {files} {p} {q} file name number one_line named at keys same same_trees written =
    let after : Counts = record { conditions = length p.conditions.keys; files = length p.files.keys + 1 } in
    let conditions = ap length (sym same) in
    let files_are = sym (ap length keys ∙ length-append p.files.keys (file ∷ [])) in
    let counted : after ≡ counts_of q = λ i. record { conditions = conditions i; files = files_are i } in
    record {
      lines = file_line number name ∷ [];
      wrote = wrote-line p.text.items (file_line number name) written;
      introduces = subst (Introduces (counts_of p) (file_numbered number ∷ []) (file_line number name ∷ [])) counted
          (subst (λ n. Introduces (counts_of p) (file_numbered n ∷ []) (file_line n name ∷ []) after) (sym at)
          (new (counts_of p) (counts_of p) after after (file_line (length p.files.keys) name) (file_numbered (length p.files.keys)) [] [] [] (nothing (counts_of p)) (next_file (counts_of p) name) (nothing after)));
      ordered = λ space tests. All-one (HasOrder space tests) (file_line number name) tt;
      grows = subst (Extends p.files.keys) (sym keys) (Extends-push p.files.keys file);
      same_conditions = same;
      same_trees = same_trees;
      prints = λ space s before was. Prints-file file name number one_line named at keys same was;
    }
