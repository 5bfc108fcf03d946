-- The entry of a name, and the macros once it is another.
use Rattle.std.proofs.Common.{◌≡◌, ℕ, ◌<◌, ◌==◌, ◌&&◌, not, Bool, true, false, List, [], ◌∷◌, All, map, length, slice_get, Option, Some, None, IfSome, OnErr, Result, Ok, Err, is_some, Vec, Global, ◌↔◌, refl, ap, sym, subst, ◌∙◌, arith, if◌then◌else◌}
use Rattle.std.proofs.lemmas.Bool.{true≢false}
use Rattle.std.proofs.lemmas.Bool.Decides.{nat_tests}
use Rattle.std.proofs.lemmas.Option.{same_Some}
use Rattle.std.proofs.lemmas.List.Elements.{All-head, All-tail, All-nil, All-cons}
use Rattle.std.specs.Map.{lookup, update}
use Rattle.std.specs.Option.{option_map, option_to_list}
use Rattle.indexmap.specs.IndexMap.{insert_entry}
use Rattle.c11_macros.specs.Macros as model
use Rattle.c11_macros.specs.Macros.{Macros}
use Rattle.sc_base.specs.declared.id.Cond.{Cond}
use Rattle.sc_base.specs.declared.id.Name.{Name}
use Rattle.sc_guarded.specs.Items.{items_at}
use Rattle.sc_macro.specs.declared.definition.Definition.{Definition}
use Rattle.sc_macro.specs.Seen.{text_of, seen_definition}
use Rattle.sc_macro.proofs.Texts.{same_text}
use Rattle.sc_model.proofs.ByteLemmas.{same_bytes-refl, same_bytes-true}
use Rattle.sc_model.specs.Bytes.{same_bytes}
use Rattle.sc_model.specs.Growth.{IsOneToOne}
use Rattle.sc_model.specs.Sets.{Sets, IsConfig, Denotes, Keeps}
use Rattle.sc_table.specs.declared.entry.Entry.{Entry}
use Rattle.sc_table.specs.declared.entry.Entry.TheVariants.{Parts}
use Rattle.sc_table.specs.declared.table.MacroTable.{MacroTable}
use Rattle.std.specs.declared.rc.Rc.{Rc}
use Rattle.sc_table.specs.Change.{Redefines, IsOther}
use Rattle.sc_table.specs.Parts.{Part, AreParts, AreNamed, valued}
use Rattle.sc_table.specs.Table.{macros_in, macros_at, stored_at, IsTable, IsMade, IsNamed, IsStill, Puts}
use Rattle.sc_table.proofs.Growth.{macros_at-Keeps}
use Rattle.sc_table.proofs.Denoting.{Denotes-as}
use Rattle.sc_table.proofs.PartLemmas.{AreSome-nil, AreDrawn-nil}

swap_eq : (a b : ℕ) → (a == b) ≡ (b == a)
swap_eq a b = grind (arith, nat_tests)

-- what is true of each entry is true of the one that is found
module _ (test : Name → Bool) where
  pub found_entry : (P : Entry → Type 0) (entries : List (Name × Entry)) (e : Entry) → All (λ (x : Name × Entry). P x.1) entries → lookup test entries ≡ Some e → P e
  found_entry P [] e all at = absurd (cc)
  found_entry P (x ∷ entries) e all at = by (test x.0) (found_entry P entries e (All-tail (λ (x : Name × Entry). P x.1) x entries all)) at
    where
      by : (b : Bool) → (lookup test entries ≡ Some e → P e) → (if b then Some x.1 else lookup test entries) ≡ Some e → P e
      by true later at = subst P (same_Some x.1 e at) (All-head (λ (x : Name × Entry). P x.1) x entries all)
      by false later at = later at

module _ (s : Sets) (names : List (List ℕ)) (one : IsOneToOne names) (name : Name) (own : name.0 < length names) (c : List ℕ) where
  -- what an entry, or none, says
  abbrev pub entry_macro : Option Entry → Option model.Definition
  entry_macro None = None
  entry_macro (Some e) = option_map (seen_definition names) (stored_at s e c)

  -- the entry of the name tells
  module _ (test : Name → Bool) (tests : (k : Name) → test k ≡ (name.0 == k.0)) where
    pub macros_found : (entries : List (Name × Entry)) → All (λ (x : Name × Entry). x.0.0 < length names) entries
        → macros_in s names entries c (text_of names name) ≡ entry_macro (lookup test entries)
    macros_found [] held = refl
    macros_found (x ∷ entries) held =
        let P : Name × Entry → Type 0 = λ x. x.0.0 < length names in
        let same : same_bytes (text_of names x.0) (text_of names name) ≡ test x.0 = same_text names x.0.0 name.0 one (All-head P x entries held) own ∙ (swap_eq x.0.0 name.0 ∙ sym (tests x.0)) in
        ap (λ b. if b then option_map (seen_definition names) (stored_at s x.1 c) else macros_in s names entries c (text_of names name)) same ∙ by (test x.0) (macros_found entries (All-tail P x entries held))
      where
        by : (b : Bool) → macros_in s names entries c (text_of names name) ≡ entry_macro (lookup test entries)
            → (if b then option_map (seen_definition names) (stored_at s x.1 c) else macros_in s names entries c (text_of names name)) ≡ entry_macro (if b then Some x.1 else lookup test entries)
        by true e = refl
        by false e = e

  -- once the name has another entry, that one tells
  module _ (eq : Name → Name → Bool) (eqs : (k l : Name) → eq k l ≡ (k.0 == l.0)) (v : Entry) where
    pub macros_inserted : (entries : List (Name × Entry)) → All (λ (x : Name × Entry). x.0.0 < length names) entries → (text : List ℕ)
        → macros_in s names (insert_entry eq entries name v) c text
        ≡ (if same_bytes (text_of names name) text then option_map (seen_definition names) (stored_at s v c) else macros_in s names entries c text)
    macros_inserted [] held text = refl
    macros_inserted (x ∷ entries) held text =
        let P : Name × Entry → Type 0 = λ x. x.0.0 < length names in
        let same : same_bytes (text_of names name) (text_of names x.0) ≡ eq name x.0 = same_text names name.0 x.0.0 one own (All-head P x entries held) ∙ sym (eqs name x.0) in
        by (eq name x.0) (same_bytes (text_of names x.0) text) (same_bytes (text_of names name) text) refl refl same (macros_inserted entries (All-tail P x entries held) text)
      where
        now : Option model.Definition
        now = option_map (seen_definition names) (stored_at s v c)

        was : Option model.Definition
        was = option_map (seen_definition names) (stored_at s x.1 c)

        by : (b h k : Bool) → same_bytes (text_of names x.0) text ≡ h → same_bytes (text_of names name) text ≡ k → same_bytes (text_of names name) (text_of names x.0) ≡ b
            → macros_in s names (insert_entry eq entries name v) c text ≡ (if k then now else macros_in s names entries c text)
            → macros_in s names (if b then (x.0, v) ∷ entries else x ∷ insert_entry eq entries name v) c text ≡ (if k then now else (if h then was else macros_in s names entries c text))
        by true h k here there same rest =
            let texts : text_of names name ≡ text_of names x.0 = same_bytes-true _ _ same in
            let both : h ≡ k = sym here ∙ (ap (λ t. same_bytes t text) (sym texts) ∙ there) in
            ap (λ b. if b then now else macros_in s names entries c text) here ∙ at h k both
          where
            at : (h k : Bool) → h ≡ k → (if h then now else macros_in s names entries c text) ≡ (if k then now else (if h then was else macros_in s names entries c text))
            at true true e = refl
            at false false e = refl
            at true false e = absurd (true≢false e)
            at false true e = absurd (true≢false (sym e))
        by false true true here there same rest =
            let one_text : text_of names name ≡ text_of names x.0 = same_bytes-true _ _ there ∙ sym (same_bytes-true _ _ here) in
            absurd (true≢false (sym (ap (same_bytes (text_of names name)) (sym one_text) ∙ same_bytes-refl (text_of names name)) ∙ same))
        by false true false here there same rest = ap (λ b. if b then was else macros_in s names (insert_entry eq entries name v) c text) here
        by false false k here there same rest = ap (λ b. if b then was else macros_in s names (insert_entry eq entries name v) c text) here ∙ rest

-- what is true of each entry stays
module _ (eq : Name → Name → Bool) (name : Name) (v : Entry) where
  pub all_values : (P : Entry → Type 0) (entries : List (Name × Entry)) → P v → All (λ (x : Name × Entry). P x.1) entries → All (λ (x : Name × Entry). P x.1) (insert_entry eq entries name v)
  all_values P [] new all = All-cons (λ (x : Name × Entry). P x.1) (name, v) [] new (All-nil (λ (x : Name × Entry). P x.1))
  all_values P (x ∷ entries) new all = by (eq name x.0) (all_values P entries new (All-tail (λ (x : Name × Entry). P x.1) x entries all))
    where
      Q : Name × Entry → Type 0
      Q x = P x.1

      by : (b : Bool) → All Q (insert_entry eq entries name v) → All Q (if b then (x.0, v) ∷ entries else x ∷ insert_entry eq entries name v)
      by true rest = All-cons Q (x.0, v) entries new (All-tail Q x entries all)
      by false rest = All-cons Q x (insert_entry eq entries name v) (All-head Q x entries all) rest

  pub all_names : (P : Name → Type 0) (entries : List (Name × Entry)) → P name → All (λ (x : Name × Entry). P x.0) entries → All (λ (x : Name × Entry). P x.0) (insert_entry eq entries name v)
  all_names P [] new all = All-cons (λ (x : Name × Entry). P x.0) (name, v) [] new (All-nil (λ (x : Name × Entry). P x.0))
  all_names P (x ∷ entries) new all = by (eq name x.0) (all_names P entries new (All-tail (λ (x : Name × Entry). P x.0) x entries all))
    where
      Q : Name × Entry → Type 0
      Q x = P x.0

      by : (b : Bool) → All Q (insert_entry eq entries name v) → All Q (if b then (x.0, v) ∷ entries else x ∷ insert_entry eq entries name v)
      by true rest = All-cons Q (x.0, v) entries (All-head Q x entries all) (All-tail Q x entries all)
      by false rest = All-cons Q x (insert_entry eq entries name v) (All-head Q x entries all) rest

-- the first of the parts through the table of texts
pub first_seen : (names : List (List ℕ)) (ds : List Definition) → option_map (seen_definition names) (slice_get ds 0) ≡ slice_get (map (seen_definition names) ds) 0
first_seen names [] = refl
first_seen names (d ∷ ds) = refl

-- the new macros, where a name is defined or taken back under a test
pub changed_text : (macros : Macros) (name text : List ℕ) (d first : Option model.Definition) (b : Bool) → first ≡ (if b then d else macros name)
    → (if same_bytes name text then first else macros text) ≡ (if b then update same_bytes macros name d text else macros text)
changed_text macros name text d first b told = by (same_bytes name text) b refl told
  where
    by : (k b : Bool) → same_bytes name text ≡ k → first ≡ (if b then d else macros name) → (if k then first else macros text) ≡ (if b then (if k then d else macros text) else macros text)
    by true true same told = told
    by true false same told = told ∙ ap macros (same_bytes-true name text same)
    by false true same told = refl
    by false false same told = refl

pub first_of : {A : Type 0} (b : Bool) (d : A) (o : Option A) → slice_get (if b then d ∷ [] else option_to_list o) 0 ≡ (if b then Some d else o)
first_of true d o = refl
first_of false d None = refl
first_of false d (Some x) = refl

pub no_parts : (s : Sets) → AreParts s []
no_parts s = record { each = AreSome-nil s; one = λ c listed. omega arith }

pub no_names : (names : List (List ℕ)) → AreNamed names []
no_names names = (AreDrawn-nil names).named

pub map_met : {A B : Type 0} (f : A → B) (b : Bool) (o : Option A) → map f (if b then option_to_list o else []) ≡ (if b then option_to_list (option_map f o) else [])
map_met f true None = refl
map_met f true (Some x) = refl
map_met f false o = refl

pub nothing_met : {A : Type 0} (b : Bool) → ◌≡◌ {A = List A} [] (if b then option_to_list None else [])
nothing_met true = refl
nothing_met false = refl

module _ {s : Sets} {names : List (List ℕ)} {old new : MacroTable} where
  -- a table with the same entries
  pub IsTable-same : new.entries.entries ≡ old.entries.entries → IsTable s names old → IsTable s names new
  IsTable-same same is = record {
    held = subst (All (λ (x : Name × Entry). x.0.0 < length names)) (sym same) is.held;
    made = subst (All (λ (x : Name × Entry). IsMade s x.1)) (sym same) is.made;
    named = subst (All (λ (x : Name × Entry). IsNamed names x.1)) (sym same) is.named;
  }

  -- a table in which the name has these parts
  pub Puts-insert : (eq : Name → Name → Bool) (eqs : (k l : Name) → eq k l ≡ (k.0 == l.0)) (name : Name) (parts : Vec (Cond × Rc Definition Global) Global) (defined : Option Cond)
      → IsOneToOne names → IsTable s names old → name.0 < length names → AreParts s (valued parts.items) → AreNamed names (valued parts.items)
      → IfSome defined (λ cond. Denotes s cond.0 (λ c. is_some (slice_get (items_at s (valued parts.items) c) 0)))
      → new.entries.entries ≡ insert_entry eq old.entries.entries name (Parts parts defined) → Puts s names old new name (valued parts.items)
  Puts-insert eq eqs name parts defined one is own made named known made_so = record {
    table = record {
      held = subst (All (λ (x : Name × Entry). x.0.0 < length names)) (sym made_so) (all_names eq name (Parts parts defined) (λ k. k.0 < length names) old.entries.entries own is.held);
      made = subst (All (λ (x : Name × Entry). IsMade s x.1)) (sym made_so) (all_values eq name (Parts parts defined) (IsMade s) old.entries.entries (made, known) is.made);
      named = subst (All (λ (x : Name × Entry). IsNamed names x.1)) (sym made_so) (all_values eq name (Parts parts defined) (IsNamed names) old.entries.entries named is.named);
    };
    at = λ c text.
        ap (λ es. macros_in s names es c text) made_so
        ∙ (macros_inserted s names one name own c eq eqs (Parts parts defined) old.entries.entries is.held text
        ∙ ap (λ d. if same_bytes (text_of names name) text then d else macros_in s names old.entries.entries c text) (first_seen names (items_at s (valued parts.items) c)));
  }

module _ {s now : Sets} {names : List (List ℕ)} {old : MacroTable} (keeps : Keeps s now) (is : IsTable s names old) (new : MacroTable) where
  pub IsStill-same : new.entries.entries ≡ old.entries.entries → IsStill s now names old new
  IsStill-same same = λ c text listed. ap (λ es. macros_in now names es c text) same ∙ macros_at-Keeps keeps is c text listed

  -- where the new parts say this in some configurations and else what was said, the macros changed
  -- there alone
  pub Puts-changed : {name : Name} {parts : List Part} {c : List ℕ} (d : Option model.Definition) (b : Bool) → Puts now names old new name parts → IsConfig s.arities c
      → slice_get (map (seen_definition names) (items_at now parts c)) 0 ≡ (if b then d else macros_at s names old c (text_of names name)) → (text : List ℕ)
      → macros_at now names new c text ≡ (if b then update same_bytes (macros_at s names old c) (text_of names name) d text else macros_at s names old c text)
  Puts-changed {name} {parts} {c} d b puts listed first text =
      puts.at c text
      ∙ (ap (λ m. if same_bytes (text_of names name) text then slice_get (map (seen_definition names) (items_at now parts c)) 0 else m) (macros_at-Keeps keeps is c text listed)
      ∙ changed_text (macros_at s names old c) (text_of names name) text d _ b first)

-- what a definition changes, of the macros
pub first_defined : (d : model.Definition) (was now : List model.Definition) (live refused : Bool) (o : Option model.Definition) → Redefines d was live refused now → was ≡ option_to_list o
    → slice_get now 0 ≡ (if live && not refused then Some d else o)
first_defined d was now live refused o says is =
    ap (λ ds. slice_get ds 0) says.defines ∙ (ap (λ ds. slice_get (if live && not refused then d ∷ [] else ds) 0) is ∙ first_of (live && not refused) d o)

first_option : {A : Type 0} (o : Option A) → slice_get (option_to_list o) 0 ≡ o
first_option None = refl
first_option (Some x) = refl

pub refused_at : (d : model.Definition) (was now : List model.Definition) (live refused : Bool) (o : Option model.Definition) → Redefines d was live refused now → was ≡ option_to_list o
    → (refused ≡ true) ↔ ((live ≡ true) × IsOther d o)
refused_at d was now live refused o says is = subst (λ x. (refused ≡ true) ↔ ((live ≡ true) × IsOther d x)) (ap (λ ds. slice_get ds 0) is ∙ first_option o) says.refuses

-- what is left where a name is taken back
pub first_left : {A : Type 0} (live others : Bool) (o : Option A) → others ≡ not live → slice_get (if others then option_to_list o else []) 0 ≡ (if live then None else o)
first_left true true o e = absurd (true≢false e)
first_left true false o e = refl
first_left false true None e = refl
first_left false true (Some x) e = refl
first_left false false o e = absurd (true≢false (sym e))

-- everywhere is met
pub always_met : {A : Type 0} (b : Bool) (o : Option A) → b ≡ true → (if b then option_to_list o else []) ≡ option_to_list o
always_met true o e = refl
always_met false o e = absurd (true≢false (sym e))

is_some-map : {A B : Type 0} (f : A → B) (o : Option A) → is_some (option_map f o) ≡ is_some o
is_some-map f None = refl
is_some-map f (Some x) = refl

-- the condition that an entry keeps is that of its name
pub known_cond : (s : Sets) (names : List (List ℕ)) (one : IsOneToOne names) (name : Name) (own : name.0 < length names) (test : Name → Bool) (tests : (k : Name) → test k ≡ (name.0 == k.0)) (table : MacroTable)
    → IsTable s names table → (parts : Vec (Cond × Rc Definition Global) Global) (defined : Option Cond) → lookup test table.entries.entries ≡ Some (Parts parts defined)
    → IfSome defined (λ r. Denotes s r.0 (λ c. is_some (macros_at s names table c (text_of names name))))
known_cond s names one name own test tests table is parts defined found =
    by defined (found_entry test (IsMade s) table.entries.entries (Parts parts defined) is.made found).1
    (λ c. sym (ap is_some (macros_found s names one name own c test tests table.entries.entries is.held ∙ ap (entry_macro s names one name own c) found)
    ∙ is_some-map (seen_definition names) (slice_get (items_at s (valued parts.items) c) 0)))
  where
    by : (o : Option Cond) → IfSome o (λ r. Denotes s r.0 (λ c. is_some (slice_get (items_at s (valued parts.items) c) 0)))
        → ((c : List ℕ) → is_some (slice_get (items_at s (valued parts.items) c) 0) ≡ is_some (macros_at s names table c (text_of names name)))
        → IfSome o (λ r. Denotes s r.0 (λ c. is_some (macros_at s names table c (text_of names name))))
    by None told same = tt
    by (Some r) told same = Denotes-as (λ c. is_some (macros_at s names table c (text_of names name))) told (λ c listed. same c)

pub and_true : (a b : Bool) → b ≡ true → (a && b) ≡ a
and_true true b e = e
and_true false b e = refl

pub and_false : (a b : Bool) → b ≡ false → (a && b) ≡ false
and_false true b e = e
and_false false b e = refl

some_option : {A : Type 0} (o : Option A) → is_some (slice_get (option_to_list o) 0) ≡ is_some o
some_option None = refl
some_option (Some x) = refl

-- something is said where the name is defined
pub some_macro : (names : List (List ℕ)) (ds : List Definition) (o : Option model.Definition) → map (seen_definition names) ds ≡ option_to_list o → is_some (slice_get ds 0) ≡ is_some o
some_macro names ds o is = sym (is_some-map (seen_definition names) (slice_get ds 0)) ∙ (ap is_some (first_seen names ds) ∙ (ap (λ xs. is_some (slice_get xs 0)) is ∙ some_option o))

stays_text : (macros : Macros) (name text : List ℕ) (first : Option model.Definition) → first ≡ macros name → (if same_bytes name text then first else macros text) ≡ macros text
stays_text macros name text first told = by (same_bytes name text) refl
  where
    by : (k : Bool) → same_bytes name text ≡ k → (if k then first else macros text) ≡ macros text
    by true same = told ∙ ap macros (same_bytes-true name text same)
    by false same = refl

-- a name that gets the parts that say what it said
pub Puts-still : {s now : Sets} {names : List (List ℕ)} {old : MacroTable} (keeps : Keeps s now) (is : IsTable s names old) (new : MacroTable) {name : Name} {parts : List Part} → Puts now names old new name parts
    → ((c : List ℕ) → IsConfig s.arities c → map (seen_definition names) (items_at now parts c) ≡ option_to_list (macros_at s names old c (text_of names name))) → IsStill s now names old new
Puts-still {s} {now} {names} {old} keeps is new {name} {parts} puts says = λ c text listed.
    puts.at c text
    ∙ (ap (λ m. if same_bytes (text_of names name) text then slice_get (map (seen_definition names) (items_at now parts c)) 0 else m) (macros_at-Keeps keeps is c text listed)
    ∙ stays_text (macros_at s names old c) (text_of names name) text _ (ap (λ ds. slice_get ds 0) (says c listed) ∙ first_option (macros_at s names old c (text_of names name))))

-- what holds anyway holds after an error
pub on_err : {T E : Type 0} {P : Type 0} (r : Result T E) → P → OnErr r P
on_err (Ok x) p = tt
on_err (Err e) p = p
