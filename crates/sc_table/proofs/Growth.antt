-- A table while the conditions and the texts grow. `tables` is the set of lemmas for a `using`.
use Rattle.std.proofs.Common.{◌≡◌, ℕ, zero, suc, ◌<◌, ◌≤◌, Bool, true, false, List, [], ◌∷◌, All, map, length, slice_get, Option, Some, None, IfSome, is_some, refl, ap, sym, subst, ◌∙◌, arith, if◌then◌else◌}
use Rattle.std.proofs.lemmas.List.Elements.{All-head, All-tail, All-nil, All-cons}
use Rattle.std.specs.Option.{option_and_then, option_map}
use Rattle.std.specs.Prelude.{slice_index, unwrap_or}
use Rattle.std.specs.declared.rc.Rc.{Rc}
use Rattle.c11_macros.specs.Macros as model
use Rattle.sc_base.specs.declared.id.Name.{Name}
use Rattle.sc_guarded.proofs.ItemLemmas.{items_at-Keeps}
use Rattle.sc_guarded.specs.Items.{items_at}
use Rattle.sc_macro.specs.declared.definition.Definition.{Definition}
use Rattle.sc_macro.specs.declared.definition.Item.{Item}
use Rattle.sc_macro.specs.declared.definition.Replacement.{Replacement}
use Rattle.sc_macro.specs.declared.definition.Replacement.TheVariants.{Items, FileName, LineNumber}
use Rattle.sc_macro.specs.declared.form.Form.{Form}
use Rattle.sc_macro.specs.declared.form.Form.TheVariants.{Object, Function}
use Rattle.sc_macro.specs.declared.form.Rest.{Rest}
use Rattle.sc_macro.specs.Seen.{text_of, texts_of, AreHeld, IsHeldRest, IsRestName, rest_name, seen_rest, seen_item, IsHeldItem, seen_form, IsHeldForm, seen_replacement, IsHeldReplacement, seen_definition, IsHeldDefinition}
use Rattle.sc_model.specs.Bytes.{same_bytes}
use Rattle.sc_model.specs.Growth.{Extends, IsOneToOne}
use Rattle.sc_model.specs.Sets.{Sets, IsConfig, Keeps}
use Rattle.sc_model.specs.Token.{name_of}
use Rattle.sc_model.proofs.SetLemmas.{IsConfig-kept, Denotes-Keeps}
use Rattle.sc_table.specs.declared.entry.Entry.{Entry}
use Rattle.sc_table.specs.declared.entry.Entry.TheVariants.{Everywhere, Options, Parts}
use Rattle.sc_table.specs.declared.table.MacroTable.{MacroTable}
use Rattle.sc_table.specs.Parts.{Part, valued, AreParts, seen_all}
use Rattle.sc_table.specs.Table.{IsTable, IsMade, IsNamed, IsStill, macros_at, macros_in, stored_at, definition_at, option_at, seen_options}
use Rattle.sc_table.proofs.Denoting.{Denotes-as}
use Rattle.sc_table.proofs.PartLemmas.{AreSome-Keeps}

module _ {old new : Sets} (keeps : Keeps old new) where
  pub AreParts-Keeps : {parts : List Part} → AreParts old parts → AreParts new parts
  AreParts-Keeps {parts} were = record {
    each = AreSome-Keeps keeps were.each;
    one = λ c listed. subst (λ ds. length ds ≤ 1) (sym (items_at-Keeps parts c keeps were.each.own (IsConfig-kept keeps listed))) (were.one c (IsConfig-kept keeps listed));
  }

  IsMade-Keeps : (e : Entry) → IsMade old e → IsMade new e
  IsMade-Keeps (Everywhere shared) made = tt
  IsMade-Keeps (Options variable places definitions) made =
      subst (λ ns. (variable < length ns) × (length places.items ≡ slice_index ns variable)) (sym keeps.arities) made
  IsMade-Keeps (Parts parts None) made = (AreParts-Keeps made.0, tt)
  IsMade-Keeps (Parts parts (Some cond)) made = (
    AreParts-Keeps made.0,
    Denotes-as (λ c. is_some (slice_get (items_at new (valued parts.items) c) 0)) (Denotes-Keeps keeps made.1)
        (λ c listed. ap (λ (ds : List Definition). is_some (slice_get ds 0)) (sym (items_at-Keeps (valued parts.items) c keeps made.0.each.own (IsConfig-kept keeps listed)))),
  )

  -- an entry says what it said
  stored_at-Keeps : (e : Entry) (c : List ℕ) → IsMade old e → IsConfig old.arities c → stored_at new e c ≡ stored_at old e c
  stored_at-Keeps (Everywhere shared) c made listed = refl
  stored_at-Keeps (Options variable places definitions) c made listed = refl
  stored_at-Keeps (Parts parts defined) c made listed = ap (λ (ds : List Definition). slice_get ds 0) (items_at-Keeps (valued parts.items) c keeps made.0.each.own listed)

  macros_in-Keeps : (names : List (List ℕ)) (entries : List (Name × Entry)) (c text : List ℕ) → All (λ (e : Name × Entry). IsMade old e.1) entries → IsConfig old.arities c
      → macros_in new names entries c text ≡ macros_in old names entries c text
  macros_in-Keeps names [] c text made listed = refl
  macros_in-Keeps names (e ∷ entries) c text made listed =
      let P : Name × Entry → Type 0 = λ e. IsMade old e.1 in
      ap (λ d. if same_bytes (text_of names e.0) text then option_map (seen_definition names) d else macros_in new names entries c text) (stored_at-Keeps e.1 c (All-head P e entries made) listed)
      ∙ ap (λ d. if same_bytes (text_of names e.0) text then option_map (seen_definition names) (stored_at old e.1 c) else d) (macros_in-Keeps names entries c text (All-tail P e entries made) listed)

pub IsTable-Keeps : {old new : Sets} {names : List (List ℕ)} {table : MacroTable} → Keeps old new → IsTable old names table → IsTable new names table
IsTable-Keeps {old} {new} {names} {table} keeps is = record { held = is.held; made = λ k d h. IsMade-Keeps keeps _ (is.made k d h); named = is.named }

pub macros_at-Keeps : {old new : Sets} {names : List (List ℕ)} {table : MacroTable} → Keeps old new → IsTable old names table → IsStill old new names table table
macros_at-Keeps {old} {new} {names} {table} keeps is = λ c text listed. macros_in-Keeps keeps names table.entries.entries c text is.made listed

-- what a table of texts shows, it shows when it has more
module _ {names more : List (List ℕ)} (grows : Extends names more) where
  text_of-Extends : (n : Name) → n.0 < length names → text_of more n ≡ text_of names n
  text_of-Extends n held = ap (λ t. unwrap_or t []) (grows.kept n.0 held)

  texts_of-Extends : (ns : List Name) → AreHeld names ns → texts_of more ns ≡ texts_of names ns
  texts_of-Extends [] held = refl
  texts_of-Extends (n ∷ ns) held =
      let P : Name → Type 0 = λ n. n.0 < length names in
      ap (λ t. t ∷ texts_of more ns) (text_of-Extends n (All-head P n ns held)) ∙ ap (λ ts. text_of names n ∷ ts) (texts_of-Extends ns (All-tail P n ns held))

  pub items-Extends : (is : List Item) → All (IsHeldItem names) is → map (seen_item more) is ≡ map (seen_item names) is
  items-Extends [] held = refl
  items-Extends (i ∷ is) held =
      ap (λ t. record { kind = i.kind; spelling = t; space = i.space } ∷ map (seen_item more) is) (text_of-Extends i.spelling (All-head (IsHeldItem names) i is held).spelling)
      ∙ ap (λ ts. seen_item names i ∷ ts) (items-Extends is (All-tail (IsHeldItem names) i is held))

  rest_name-Extends : (n : Option Name) → IfSome n (IsRestName names) → rest_name more n ≡ rest_name names n
  rest_name-Extends None held = refl
  rest_name-Extends (Some n) held = text_of-Extends n held.0

  seen_rest-Extends : (r : Option Rest) → IfSome r (IsHeldRest names) → option_map (seen_rest more) r ≡ option_map (seen_rest names) r
  seen_rest-Extends None held = refl
  seen_rest-Extends (Some r) held = ap (λ t. Some (record { name = t; deletes_comma = r.deletes_comma })) (rest_name-Extends r.name held)

  seen_form-Extends : (f : Form) → IsHeldForm names f → seen_form more f ≡ seen_form names f
  seen_form-Extends Object held = refl
  seen_form-Extends (Function parameters rest) held =
      ap (λ ts. model.function_like ts (option_map (seen_rest more) rest)) (texts_of-Extends parameters.keys held.0)
      ∙ ap (model.function_like (texts_of names parameters.keys)) (seen_rest-Extends rest held.1)

  seen_replacement-Extends : (r : Replacement) → IsHeldReplacement names r → seen_replacement more r ≡ seen_replacement names r
  seen_replacement-Extends (Items list) held = ap (λ is. model.items is) (items-Extends list.items held)
  seen_replacement-Extends FileName held = refl
  seen_replacement-Extends LineNumber held = refl

  pub seen_definition-Extends : (d : Definition) → IsHeldDefinition names d → seen_definition more d ≡ seen_definition names d
  seen_definition-Extends d held =
      ap (λ f. record { form = f; replacement = seen_replacement more d.replacement }) (seen_form-Extends d.form held.form)
      ∙ ap (λ r. record { form = seen_form names d.form; replacement = r }) (seen_replacement-Extends d.replacement held.replacement)

  pub IsHeldItem-Extends : (i : Item) → IsHeldItem names i → IsHeldItem more i
  IsHeldItem-Extends i held = record {
    spelling = omega (arith, held.spelling, grows.longer);
    name = omega (arith, held.name, grows.longer);
    stands_for = text_of-Extends i.name held.name ∙ held.stands_for ∙ ap name_of (sym (text_of-Extends i.spelling held.spelling));
  }

  IsRestName-Extends : (n : Option Name) → IfSome n (IsRestName names) → IfSome n (IsRestName more)
  IsRestName-Extends None held = tt
  IsRestName-Extends (Some n) held = (omega (arith, held.0, grows.longer), λ is. held.1 (sym (text_of-Extends n held.0) ∙ is))

  IsHeldRest-Extends : (r : Option Rest) → IfSome r (IsHeldRest names) → IfSome r (IsHeldRest more)
  IsHeldRest-Extends None held = tt
  IsHeldRest-Extends (Some r) held = IsRestName-Extends r.name held

  IsHeldForm-Extends : (f : Form) → IsHeldForm names f → IsHeldForm more f
  IsHeldForm-Extends Object held = tt
  IsHeldForm-Extends (Function parameters rest) held = (λ k d h. omega (arith, held.0 k d h, grows.longer), IsHeldRest-Extends rest held.1)

  IsHeldReplacement-Extends : (r : Replacement) → IsHeldReplacement names r → IsHeldReplacement more r
  IsHeldReplacement-Extends (Items list) held = λ k d h. IsHeldItem-Extends _ (held k d h)
  IsHeldReplacement-Extends FileName held = tt
  IsHeldReplacement-Extends LineNumber held = tt

  pub IsHeldDefinition-Extends : (d : Definition) → IsHeldDefinition names d → IsHeldDefinition more d
  IsHeldDefinition-Extends d held = record {
    name = omega (arith, held.name, grows.longer);
    form = IsHeldForm-Extends d.form held.form;
    replacement = IsHeldReplacement-Extends d.replacement held.replacement;
  }

  seen_all-Extends : (parts : List Part) → All (λ (p : Part). IsHeldDefinition names p.1) parts → seen_all more parts ≡ seen_all names parts
  seen_all-Extends [] held = refl
  seen_all-Extends (p ∷ parts) held =
      let P : Part → Type 0 = λ p. IsHeldDefinition names p.1 in
      ap (λ d. d ∷ seen_all more parts) (seen_definition-Extends p.1 (All-head P p parts held)) ∙ ap (λ ds. seen_definition names p.1 ∷ ds) (seen_all-Extends parts (All-tail P p parts held))

  module _ {A : Type 0} where
    pub all_options-Extends : (options : List (Option (Rc Definition A))) → All (λ o. IfSome o (λ shared. IsHeldDefinition names shared.value)) options → All (λ o. IfSome o (λ shared. IsHeldDefinition more shared.value)) options
    all_options-Extends [] held = All-nil (λ (o : Option (Rc Definition A)). IfSome o (λ shared. IsHeldDefinition more shared.value))
    all_options-Extends (o ∷ options) held =
        let P : Option (Rc Definition A) → Type 0 = λ o. IfSome o (λ shared. IsHeldDefinition names shared.value) in
        All-cons (λ (o : Option (Rc Definition A)). IfSome o (λ shared. IsHeldDefinition more shared.value)) o options (by o (All-head P o options held)) (all_options-Extends options (All-tail P o options held))
      where
        by : (o : Option (Rc Definition A)) → IfSome o (λ shared. IsHeldDefinition names shared.value) → IfSome o (λ shared. IsHeldDefinition more shared.value)
        by None held = tt
        by (Some shared) held = IsHeldDefinition-Extends shared.value held

    seen_options-Extends : (options : List (Option (Rc Definition A))) → All (λ o. IfSome o (λ shared. IsHeldDefinition names shared.value)) options → seen_options more options ≡ seen_options names options
    seen_options-Extends [] held = refl
    seen_options-Extends (None ∷ options) held = seen_options-Extends options (All-tail (λ (o : Option (Rc Definition A)). IfSome o (λ shared. IsHeldDefinition names shared.value)) None options held)
    seen_options-Extends (Some shared ∷ options) held =
        let P : Option (Rc Definition A) → Type 0 = λ o. IfSome o (λ shared. IsHeldDefinition names shared.value) in
        ap (λ d. d ∷ seen_options more options) (seen_definition-Extends shared.value (All-head P (Some shared) options held))
        ∙ ap (λ ds. seen_definition names shared.value ∷ ds) (seen_options-Extends options (All-tail P (Some shared) options held))

    pub option_held : (options : List (Option (Rc Definition A))) (k : ℕ) → All (λ o. IfSome o (λ shared. IsHeldDefinition names shared.value)) options → IfSome (definition_at options k) (IsHeldDefinition names)
    option_held [] k held = tt
    option_held (None ∷ options) zero held = tt
    option_held (Some shared ∷ options) zero held = All-head (λ (o : Option (Rc Definition A)). IfSome o (λ shared. IsHeldDefinition names shared.value)) (Some shared) options held
    option_held (o ∷ options) (suc k) held = option_held options k (All-tail (λ (o : Option (Rc Definition A)). IfSome o (λ shared. IsHeldDefinition names shared.value)) o options held)

    at_option_held : (options : List (Option (Rc Definition A))) (place : Option ℕ) → All (λ o. IfSome o (λ shared. IsHeldDefinition names shared.value)) options → IfSome (option_and_then (definition_at options) place) (IsHeldDefinition names)
    at_option_held options None held = tt
    at_option_held options (Some place) held = option_held options place held

  part_held : (s : Sets) (parts : List Part) (c : List ℕ) → All (λ (p : Part). IsHeldDefinition names p.1) parts → IfSome (slice_get (items_at s parts c) 0) (IsHeldDefinition names)
  part_held s [] c held = tt
  part_held s (p ∷ parts) c held =
      let P : Part → Type 0 = λ p. IsHeldDefinition names p.1 in
      by (s.has p.0.0 c) (All-head P p parts held) (part_held s parts c (All-tail P p parts held))
    where
      by : (b : Bool) → IsHeldDefinition names p.1 → IfSome (slice_get (items_at s parts c) 0) (IsHeldDefinition names) → IfSome (slice_get (if b then p.1 ∷ items_at s parts c else items_at s parts c) 0) (IsHeldDefinition names)
      by true here others = here
      by false here others = others

  stored_held : (s : Sets) (e : Entry) (c : List ℕ) → IsNamed names e → IfSome (stored_at s e c) (IsHeldDefinition names)
  stored_held s (Everywhere shared) c named = named
  stored_held s (Options variable places definitions) c named = at_option_held definitions.items (slice_get places.items (slice_index c variable)) named.0
  stored_held s (Parts parts defined) c named = part_held s (valued parts.items) c named.held

  pub seen_stored : (o : Option Definition) → IfSome o (IsHeldDefinition names) → option_map (seen_definition more) o ≡ option_map (seen_definition names) o
  seen_stored None held = refl
  seen_stored (Some d) held = ap (λ x. Some x) (seen_definition-Extends d held)

  IsNamed-Extends : (e : Entry) → IsNamed names e → IsNamed more e
  IsNamed-Extends (Everywhere shared) named = IsHeldDefinition-Extends shared.value named
  IsNamed-Extends (Options variable places definitions) named = (
    all_options-Extends definitions.items named.0,
    subst IsOneToOne (sym (seen_options-Extends definitions.items named.0)) named.1,
  )
  IsNamed-Extends (Parts parts defined) named = record {
    held = λ k d h. IsHeldDefinition-Extends _ (named.held k d h);
    differ = subst IsOneToOne (sym (seen_all-Extends (valued parts.items) named.held)) named.differ;
  }

  macros_in-Extends : (s : Sets) (entries : List (Name × Entry)) (c text : List ℕ) → All (λ (e : Name × Entry). e.0.0 < length names) entries → All (λ (e : Name × Entry). IsNamed names e.1) entries
      → macros_in s more entries c text ≡ macros_in s names entries c text
  macros_in-Extends s [] c text held named = refl
  macros_in-Extends s (e ∷ entries) c text held named =
      let P : Name × Entry → Type 0 = λ e. e.0.0 < length names in
      let Q : Name × Entry → Type 0 = λ e. IsNamed names e.1 in
      ap (λ t. if same_bytes t text then option_map (seen_definition more) (stored_at s e.1 c) else macros_in s more entries c text) (text_of-Extends e.0 (All-head P e entries held))
      ∙ (ap (λ d. if same_bytes (text_of names e.0) text then d else macros_in s more entries c text) (seen_stored (stored_at s e.1 c) (stored_held s e.1 c (All-head Q e entries named)))
      ∙ ap (λ d. if same_bytes (text_of names e.0) text then option_map (seen_definition names) (stored_at s e.1 c) else d) (macros_in-Extends s entries c text (All-tail P e entries held) (All-tail Q e entries named)))

pub IsTable-Extends : {s : Sets} {names more : List (List ℕ)} {table : MacroTable} → Extends names more → IsTable s names table → IsTable s more table
IsTable-Extends grows is = record { held = λ k d h. omega (arith, is.held k d h, grows.longer); made = is.made; named = λ k d h. IsNamed-Extends grows _ (is.named k d h) }

pub macros_at-Extends : {s : Sets} {names more : List (List ℕ)} {table : MacroTable} → Extends names more → IsTable s names table → (c text : List ℕ) → macros_at s more table c text ≡ macros_at s names table c text
macros_at-Extends {s} {names} {more} {table} grows is c text = macros_in-Extends grows s table.entries.entries c text is.held is.named

pub ruleset tables = (IsTable-Keeps, IsTable-Extends, macros_at-Keeps)
