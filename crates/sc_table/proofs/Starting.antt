-- How a table comes to the macros with which the configurations start.
use Rattle.std.proofs.Common.{◌≡◌, ℕ, zero, suc, ◌+◌, ◌<◌, Bool, true, false, List, [], ◌∷◌, ◌++◌, map, length, drop, get_or, slice_get, Option, Some, None, Vec, Global, All, refl, sym, ap, subst, ◌∙◌, arith, add-one, cond, if◌then◌else◌}
use Rattle.std.proofs.Math.Seq.{drop-cons}
use Rattle.std.proofs.lemmas.Bool.{true≢false}
use Rattle.std.proofs.lemmas.List.{drop_all, length-map}
use Rattle.std.proofs.lemmas.List.Elements.{All-nil}
use Rattle.std.proofs.lemmas.Option.{slice_get-map}
use Rattle.std.specs.List.{list_all}
use Rattle.std.specs.Map.{update}
use Rattle.std.specs.Option.{option_and_then, option_map, option_or}
use Rattle.std.specs.Prelude.{slice_index, unwrap_or, codes, ◌&&◌, not, ◌==◌}
use Rattle.std.specs.declared.rc.Rc.{Rc}
use Rattle.indexmap.specs.IndexMap.{insert_entry}
use Rattle.c11_macros.specs.Macros as model
use Rattle.c11_macros.specs.Macros.{Macros, definition_of, definition_named, predefined_macros, escaped, object, items, one_item, number_item, file_name, line_number, variable_definition}
use Rattle.sc_base.specs.declared.id.Name.{Name}
use Rattle.sc_macro.specs.declared.definition.Definition.{Definition}
use Rattle.sc_macro.specs.Seen.{IsHeldDefinition, seen_definition, text_of}
use Rattle.sc_model.proofs.ByteLemmas.{same_bytes-refl, same_bytes-true}
use Rattle.sc_model.specs.declared.kind.Kind.TheVariants as kind
use Rattle.sc_model.specs.Bytes.{same_bytes, is_between}
use Rattle.sc_model.specs.Growth.{Extends, IsOneToOne}
use Rattle.sc_model.specs.Sets.{IsConfig}
use Rattle.sc_model.specs.Space.{Variable, VariableOption}
use Rattle.sc_space.specs.Seen.{seen_option, seen_variable}
use Rattle.sc_space.specs.declared.space.Variable as declared
use Rattle.sc_space.specs.Settings.{is_date_byte}
use Rattle.sc_table.specs.declared.entry.Entry.{Entry}
use Rattle.sc_table.specs.declared.entry.Entry.TheVariants.{Everywhere, Options}
use Rattle.sc_table.specs.declared.table.MacroTable.{MacroTable}
use Rattle.sc_table.specs.Start.{IsEntry, IsStarted}
use Rattle.sc_table.specs.Table.{IsMade, IsNamed, AreOptionsNamed, macros_in, definition_at, option_at}
use Rattle.sc_table.proofs.Growth.{IsTable-Extends, macros_at-Extends}
use Rattle.sc_table.proofs.TableLemmas.{all_names, all_values, macros_inserted}

-- ---- the macros of a table, one entry after another

-- a table without entries
pub started-none : (arities : List ℕ) (names : List (List ℕ)) (table : MacroTable) → table.entries.entries ≡ [] → IsStarted arities names table (λ config text. None)
started-none arities names table empty = record {
  sound = λ s same. record {
    held = subst (All (λ (x : Name × Entry). x.0.0 < length names)) (sym empty) (All-nil (λ (x : Name × Entry). x.0.0 < length names));
    made = subst (All (λ (x : Name × Entry). IsMade s x.1)) (sym empty) (All-nil (λ (x : Name × Entry). IsMade s x.1));
    named = subst (All (λ (x : Name × Entry). IsNamed names x.1)) (sym empty) (All-nil (λ (x : Name × Entry). IsNamed names x.1));
  };
  at = λ s config text same listed. ap (λ es. macros_in s names es config text) empty;
}

pub started-Extends : {arities : List ℕ} {names more : List (List ℕ)} {table : MacroTable} {macros : List ℕ → Macros} → Extends names more → IsStarted arities names table macros → IsStarted arities more table macros
started-Extends grows started = record {
  sound = λ s same. IsTable-Extends grows (started.sound s same);
  at = λ s config text same listed. macros_at-Extends grows (started.sound s same) config text ∙ started.at s config text same listed;
}

pub started-as : {arities : List ℕ} {names : List (List ℕ)} {table : MacroTable} (f g : List ℕ → Macros) → ((config text : List ℕ) → IsConfig arities config → f config text ≡ g config text)
    → IsStarted arities names table f → IsStarted arities names table g
started-as f g same started = record { sound = started.sound; at = λ s config text over listed. started.at s config text over listed ∙ same config text listed }

-- a name gets an entry
pub started-insert : (eq : Name → Name → Bool) (eqs : (k l : Name) → eq k l ≡ (k.0 == l.0)) (names : List (List ℕ)) (arities : List ℕ) (macros : List ℕ → Macros) (says : List ℕ → Option model.Definition)
    (old new : MacroTable) (name : Name) (entry : Entry) → IsOneToOne names → name.0 < length names → IsStarted arities names old macros → IsEntry arities names entry says
    → new.entries.entries ≡ insert_entry eq old.entries.entries name entry → IsStarted arities names new (λ config. update same_bytes (macros config) (text_of names name) (says config))
started-insert eq eqs names arities macros says old new name entry one own started e made_so = record {
  sound = λ s same. record {
    held = subst (All (λ (x : Name × Entry). x.0.0 < length names)) (sym made_so) (all_names eq name entry (λ k. k.0 < length names) old.entries.entries own (started.sound s same).held);
    made = subst (All (λ (x : Name × Entry). IsMade s x.1)) (sym made_so) (all_values eq name entry (IsMade s) old.entries.entries (e.made s same) (started.sound s same).made);
    named = subst (All (λ (x : Name × Entry). IsNamed names x.1)) (sym made_so) (all_values eq name entry (IsNamed names) old.entries.entries e.named (started.sound s same).named);
  };
  at = λ s config text same listed.
      ap (λ es. macros_in s names es config text) made_so
      ∙ (macros_inserted s names one name own config eq eqs entry old.entries.entries (started.sound s same).held text
      ∙ (ap (λ d. if same_bytes (text_of names name) text then d else macros_in s names old.entries.entries config text) (e.at s config same)
      ∙ ap (λ d. if same_bytes (text_of names name) text then says config else d) (started.at s config text same listed)));
}

-- the text of a name in a table that has grown
pub name-text : {names more : List (List ℕ)} → Extends names more → (name : Name) (text : List ℕ) → name.0 < length names → slice_get names name.0 ≡ Some text → text_of more name ≡ text
name-text grows name text own named = ap (λ t. unwrap_or t []) (grows.kept name.0 own ∙ named)

pub named-as : {arities : List ℕ} {names : List (List ℕ)} {table : MacroTable} (macros : List ℕ → Macros) (says : List ℕ → Option model.Definition) (key text : List ℕ) → key ≡ text
    → IsStarted arities names table (λ config. update same_bytes (macros config) key (says config)) → IsStarted arities names table (λ config. update same_bytes (macros config) text (says config))
named-as {arities} {names} {table} macros says key text same started = subst (λ k. IsStarted arities names table (λ config. update same_bytes (macros config) k (says config))) same started

pub everywhere-entry : (arities : List ℕ) (names : List (List ℕ)) (shared : Rc Definition Global) (d : Definition) → shared.value ≡ d → IsHeldDefinition names d
    → IsEntry arities names (Everywhere shared) (λ config. Some (seen_definition names d))
everywhere-entry arities names shared d same held = record {
  made = λ s over. tt;
  named = subst (IsHeldDefinition names) (sym same) held;
  at = λ s config over. ap (λ v. Some (seen_definition names v)) same;
}

-- ---- the options of a variable

-- what stands past the last variable
abbrev pub no_variable : Variable
no_variable = record { name = []; options = [] }

joined : {A B : Type 0} (f : A → Option B) (o : Option A) → option_and_then f o ≡ option_and_then (λ x. x) (option_map f o)
joined f None = refl
joined f (Some x) = refl

parted : {A : Type 0} (names : List (List ℕ)) (definitions : List (Option (Rc Definition A))) (place : Option ℕ)
    → option_map (seen_definition names) (option_and_then (definition_at definitions) place) ≡ option_and_then (λ x. x) (option_map (λ p. option_map (seen_definition names) (definition_at definitions p)) place)
parted names definitions None = refl
parted names definitions (Some place) = refl

pub option-said : {A : Type 0} (names : List (List ℕ)) (places : List ℕ) (definitions : List (Option (Rc Definition A))) (options : List VariableOption)
    → map (λ p. option_map (seen_definition names) (definition_at definitions p)) places ≡ map definition_of options → (k : ℕ)
    → option_map (seen_definition names) (option_at places definitions k) ≡ option_and_then definition_of (slice_get options k)
option-said names places definitions options seen k =
    parted names definitions (slice_get places k)
    ∙ (ap (option_and_then (λ x. x)) (sym (slice_get-map (λ p. option_map (seen_definition names) (definition_at definitions p)) places k) ∙ (ap (λ ds. slice_get ds k) seen ∙ slice_get-map definition_of options k))
    ∙ sym (joined definition_of (slice_get options k)))

pub options-entry : (arities : List ℕ) (names : List (List ℕ)) (variable : ℕ) (places : Vec ℕ Global) (definitions : Vec (Option (Rc Definition Global)) Global) (options : List VariableOption) → AreOptionsNamed names definitions.items
    → map (λ p. option_map (seen_definition names) (definition_at definitions.items p)) places.items ≡ map definition_of options → variable < length arities → slice_index arities variable ≡ length options
    → IsEntry arities names (Options variable places definitions) (λ config. option_and_then definition_of (slice_get options (slice_index config variable)))
options-entry arities names variable places definitions options named seen within wide = record {
  made = λ s same. (
    subst (λ (a : List ℕ). variable < length a) (sym same) within,
    sym (length-map places.items (λ p. option_map (seen_definition names) (definition_at definitions.items p))) ∙ (ap length seen ∙ (length-map options definition_of ∙ (sym wide ∙ ap (λ (a : List ℕ). slice_index a variable) (sym same)))),
  );
  named = named;
  at = λ s config same. option-said names places.items definitions.items options seen (slice_index config variable);
}

-- one variable more, before the others
pub variable-first : (vs : List Variable) (config : List ℕ) (i : ℕ) → i < length vs → length config ≡ length vs → (text : List ℕ)
    → update same_bytes (variable_definition (drop (i + 1) vs) (drop (i + 1) config)) (get_or vs i no_variable).name
    (option_and_then definition_of (slice_get (get_or vs i no_variable).options (slice_index config i))) text ≡ variable_definition (drop i vs) (drop i config) text
variable-first vs config i within long text =
    rw (add-one, drop-cons vs i no_variable within, drop-cons config i 0 (omega (arith, within, long))) refl

pub variables-step : (vs : List Variable) (names : List (List ℕ)) (table : MacroTable) (left i : ℕ) → left ≡ i + 1 → i < length vs
    → IsStarted (map (λ v. length v.options) vs) names table (λ config. update same_bytes (variable_definition (drop left vs) (drop left config)) (get_or vs i no_variable).name
    (option_and_then definition_of (slice_get (get_or vs i no_variable).options (slice_index config i))))
    → IsStarted (map (λ v. length v.options) vs) names table (λ config. variable_definition (drop i vs) (drop i config))
variables-step vs names table left i one within started =
    started-as (λ config. update same_bytes (variable_definition (drop (i + 1) vs) (drop (i + 1) config)) (get_or vs i no_variable).name
    (option_and_then definition_of (slice_get (get_or vs i no_variable).options (slice_index config i)))) (λ config. variable_definition (drop i vs) (drop i config))
    (λ config text listed. variable-first vs config i within (listed.long ∙ length-map vs (λ v. length v.options)) text)
    (subst (λ (n : ℕ). IsStarted (map (λ v. length v.options) vs) names table (λ config. update same_bytes (variable_definition (drop n vs) (drop n config)) (get_or vs i no_variable).name
    (option_and_then definition_of (slice_get (get_or vs i no_variable).options (slice_index config i))))) one started)

-- before the last variable
pub variables-none : (vs : List Variable) (names : List (List ℕ)) (table : MacroTable) (n : ℕ) → length vs ≡ n → table.entries.entries ≡ []
    → IsStarted (map (λ v. length v.options) vs) names table (λ config. variable_definition (drop n vs) (drop n config))
variables-none vs names table n long empty =
    started-as (λ config text. None) (λ config. variable_definition (drop n vs) (drop n config))
    (λ config text listed. ap (λ (xs : List Variable). variable_definition xs (drop n config) text) (sym (drop_all n vs (omega (arith, long)))))
    (started-none (map (λ v. length v.options) vs) names table empty)

-- the variable of an index
pub seen-at : (xs : List declared.Variable) (i : ℕ) (x : declared.Variable) → i < length xs → x ≡ get_or xs i x → seen_variable x ≡ get_or (map seen_variable xs) i no_variable
seen-at [] i x within is = absurd (omega arith)
seen-at (y ∷ ys) zero x within is = ap seen_variable is
seen-at (y ∷ ys) (suc i) x within is = seen-at ys i x (omega (arith, within)) is

pub wide-at : (xs : List declared.Variable) (i : ℕ) (x : declared.Variable) → i < length xs → x ≡ get_or xs i x → slice_index (map (λ v. length v.options) (map seen_variable xs)) i ≡ length x.options.items
wide-at [] i x within is = absurd (omega arith)
wide-at (y ∷ ys) zero x within is = ap (λ (v : declared.Variable). length (map seen_option v.options.items)) (sym is) ∙ length-map x.options.items seen_option
wide-at (y ∷ ys) (suc i) x within is = wide-at ys i x (omega (arith, within)) is

-- ---- the macros of every program

same_bytes-swap : (xs ys : List ℕ) → same_bytes xs ys ≡ same_bytes ys xs
same_bytes-swap xs ys = by (same_bytes xs ys) (same_bytes ys xs) refl refl
  where
    by : (a b : Bool) → same_bytes xs ys ≡ a → same_bytes ys xs ≡ b → a ≡ b
    by true true e f = refl
    by false false e f = refl
    by true false e f = sym (same_bytes-refl ys) ∙ (ap (same_bytes ys) (sym (same_bytes-true xs ys e)) ∙ f)
    by false true e f = sym e ∙ (ap (same_bytes xs) (same_bytes-true ys xs f) ∙ same_bytes-refl xs)

named-first : (m : List ℕ × model.Definition) (ms : List (List ℕ × model.Definition)) (f : Macros) (text : List ℕ)
    → update same_bytes (λ text. option_or (definition_named ms text) (f text)) m.0 (Some m.1) text ≡ option_or (definition_named (m ∷ ms) text) (f text)
named-first m ms f text = ap (λ b. cond b (Some m.1) (option_or (definition_named ms text) (f text))) (same_bytes-swap m.0 text) ∙ by (same_bytes text m.0)
  where
    by : (b : Bool) → cond b (Some m.1) (option_or (definition_named ms text) (f text)) ≡ option_or (if b then Some m.1 else definition_named ms text) (f text)
    by true = refl
    by false = refl

-- macros that are defined in turn, the last one first
abbrev pub defined_over : List (List ℕ × model.Definition) → Macros → Macros
defined_over [] f = f
defined_over (m ∷ ms) f = update same_bytes (defined_over ms f) m.0 (Some m.1)

pub defined-named : (ms : List (List ℕ × model.Definition)) (f : Macros) (text : List ℕ) → defined_over ms f text ≡ option_or (definition_named ms text) (f text)
defined-named [] f text = refl
defined-named (m ∷ ms) f text = ap (cond (same_bytes m.0 text) (Some m.1)) (defined-named ms f text) ∙ named-first m ms f text

and-both : (a b : Bool) → (a && b) ≡ true → (a ≡ true) × (b ≡ true)
and-both true b h = (refl, h)
and-both false b h = absurd (true≢false (sym h))

not-true : (b : Bool) → not b ≡ true → b ≡ false
not-true true h = absurd (true≢false (sym h))
not-true false h = refl

-- a date or a time has nothing to escape
pub escaped-plain : (text : List ℕ) → list_all is_date_byte text ≡ true → escaped text ≡ text
escaped-plain [] plain = refl
escaped-plain (b ∷ bs) plain =
    let parts = and-both (is_date_byte b) (list_all is_date_byte bs) plain in
    let byte = and-both (is_between 32 126 b && not (b == 34)) (not (b == 92)) parts.0 in
    let quote : (b == 34) ≡ false = not-true (b == 34) (and-both (is_between 32 126 b) (not (b == 34)) byte.0).1 in
    let slash : (b == 92) ≡ false = not-true (b == 92) byte.1 in
    rw (quote, slash) (ap (λ ts. b ∷ ts) (escaped-plain bs parts.1))

-- the macros of every program, with these string literals for date and time
abbrev pub predefined_by : (date time : List ℕ) → List (List ℕ × model.Definition)
predefined_by date time =
    (codes "__FILE__", object file_name)
    ∷ (codes "__LINE__", object line_number)
    ∷ (codes "__DATE__", object (items (one_item kind.Text date)))
    ∷ (codes "__TIME__", object (items (one_item kind.Text time)))
    ∷ (codes "__STDC__", object (items (number_item (codes "1"))))
    ∷ (codes "__STDC_VERSION__", object (items (number_item (codes "201112L"))))
    ∷ (codes "__STDC_HOSTED__", object (items (number_item (codes "1"))))
    ∷ []

pub predefined-macros : (date time quoted_date quoted_time : List ℕ) → list_all is_date_byte date ≡ true → list_all is_date_byte time ≡ true
    → quoted_date ≡ 34 ∷ date ++ 34 ∷ [] → quoted_time ≡ 34 ∷ time ++ 34 ∷ [] → (f : Macros) (text : List ℕ)
    → defined_over (predefined_by quoted_date quoted_time) f text ≡ option_or (definition_named (predefined_macros date time) text) (f text)
predefined-macros date time quoted_date quoted_time plain_date plain_time dates times f text =
    let d : quoted_date ≡ 34 ∷ escaped date ++ 34 ∷ [] = dates ∙ ap (λ (t : List ℕ). 34 ∷ t ++ 34 ∷ []) (sym (escaped-plain date plain_date)) in
    let t : quoted_time ≡ 34 ∷ escaped time ++ 34 ∷ [] = times ∙ ap (λ (t : List ℕ). 34 ∷ t ++ 34 ∷ []) (sym (escaped-plain time plain_time)) in
    ap (λ (q : List ℕ). defined_over (predefined_by q quoted_time) f text) d
    ∙ (ap (λ (q : List ℕ). defined_over (predefined_by (34 ∷ escaped date ++ 34 ∷ []) q) f text) t
    ∙ defined-named (predefined_macros date time) f text)
