-- What the tables hold of a definition, and what a part of its list makes.
use Rattle.std.proofs.Common.{◌≡◌, ℕ, zero, suc, ◌∷◌, ◌++◌, List, [], map, get_or, slice_index_or, append_assoc, Option, Some, None, Result, Ok, Err, refl, sym, ap, ◌∙◌, arith}
use Rattle.std.specs.Prelude.{All}
use Rattle.std.specs.Option.{IfSome, option_map}
use Rattle.c11_macros.specs.Hidden as model
use Rattle.c11_macros.specs.Hidden.{Failure}
use Rattle.c11_macros.specs.Macros as macros
use Rattle.c11_macros.specs.Results.{result_map}
use Rattle.c11_macros.specs.Substitution as substitution
use Rattle.c11_macros.specs.Substitution.{parts_of, slot_of, stringized, filled_by}
use Rattle.sc_base.specs.declared.id.Name.{Name}
use Rattle.sc_base.specs.declared.place.Place.{Place}
use Rattle.sc_base.proofs.Growth.{Extends-within}
use Rattle.sc_macro.specs.declared.definition.Item.{Item}
use Rattle.sc_macro.specs.declared.form.Form.{Form}
use Rattle.sc_macro.specs.declared.form.Form.TheVariants.{Object, Function}
use Rattle.sc_macro.specs.declared.form.Rest.{Rest}
use Rattle.sc_macro.specs.Seen.{AreHeld, IsHeldForm, IsHeldItem, IsHeldRest, IsRestName, rest_name, seen_form, seen_item, seen_rest, text_of, texts_of}
use Rattle.sc_model.specs.declared.cause.Cause.{Cause}
use Rattle.sc_model.specs.Growth.{Extends}
use Rattle.sc_model.specs.Token.{name_of}
use Rattle.sc_subst.specs.declared.hidden.Hidden.{Hidden}
use Rattle.sc_subst.specs.declared.parts.ListPart.{ListPart}
use Rattle.sc_subst.specs.declared.parts.ListPart.TheVariants as part
use Rattle.sc_subst.specs.declared.slots.Slot.{Slot}
use Rattle.sc_subst.specs.declared.slots.Slot.TheVariants as slot
use Rattle.sc_subst.specs.declared.stop.SubstStop.{SubstStop}
use Rattle.sc_subst.specs.declared.stop.SubstStop.TheVariants.{Fault, OutOfMemory}
use Rattle.sc_subst.specs.ListParts.{IsHeldListPart, seen_list_part}
use Rattle.sc_subst.specs.Parts.{AreHeldArguments, IsHeldSlot, seen_arguments, seen_list}
use Rattle.sc_subst.specs.Seen.{IsHeldHidden, Lasting, seen_hidden}
use Rattle.sc_subst.specs.Stops.{OnFault}
use Rattle.sc_subst.proofs.Later.{IsHeldHidden-Extends, text_later}
use Rattle.sc_subst.proofs.SeenLaws.{held_tail}

pub on_fault : (P Q : Cause → Type 0) (stop : SubstStop) → ((cause : Cause) → P cause → Q cause) → OnFault stop P → OnFault stop Q
on_fault P Q (Fault cause) f h = f cause h
on_fault P Q OutOfMemory f h = tt

-- ---- arguments

argument_at : (f : List Hidden → List (model.Hidden Place)) (none : f [] ≡ []) (raw : List (List Hidden)) (n : ℕ) → slice_index_or (map f raw) n [] ≡ f (slice_index_or raw n [])
argument_at f none [] n = sym none
argument_at f none (x ∷ xs) zero = refl
argument_at f none (x ∷ xs) (suc n) = argument_at f none xs n

pub argument_seen : (names : List (List ℕ)) (sets : List (List Name)) (raw : List (List Hidden)) (n : ℕ) → substitution.argument (seen_arguments names sets raw) n ≡ seen_list names sets (substitution.argument raw n)
argument_seen names sets raw n = argument_at (seen_list names sets) refl raw n

arguments_tail : {names : List (List ℕ)} {sets : List (List Name)} (x : List Hidden) (xs : List (List Hidden)) → AreHeldArguments names sets (x ∷ xs) → AreHeldArguments names sets xs
arguments_tail {names} {sets} x xs held = λ k d h. held (suc k) d (omega arith)

pub held_argument : {names : List (List ℕ)} {sets : List (List Name)} (raw : List (List Hidden)) (n : ℕ) → AreHeldArguments names sets raw → All (IsHeldHidden names sets) (substitution.argument raw n)
held_argument {names} {sets} [] n held = λ k d h. absurd (omega arith)
held_argument {names} {sets} (x ∷ xs) zero held = held 0 x (omega arith)
held_argument {names} {sets} (x ∷ xs) (suc n) held = held_argument xs n (arguments_tail x xs held)

-- ---- what the tables hold of a definition

pub item_later : {names later : List (List ℕ)} (item : Item) → IsHeldItem names item → Extends names later → seen_item later item ≡ seen_item names item
item_later {names} {later} item held e = ap (λ t. record { kind = item.kind; spelling = t; space = item.space }) (text_later item.spelling held.spelling e)

items_tail : {names : List (List ℕ)} (x : Item) (xs : List Item) → All (IsHeldItem names) (x ∷ xs) → All (IsHeldItem names) xs
items_tail {names} x xs held = λ k d h. held (suc k) d (omega arith)

pub items_later : {names later : List (List ℕ)} (items : List Item) → All (IsHeldItem names) items → Extends names later → map (seen_item later) items ≡ map (seen_item names) items
items_later {names} {later} [] held e = refl
items_later {names} {later} (x ∷ xs) held e =
    ap (λ i. i ∷ map (seen_item later) xs) (item_later x (held 0 x (omega arith)) e) ∙ ap (λ is. seen_item names x ∷ is) (items_later xs (items_tail x xs held) e)

parameters_later : {names later : List (List ℕ)} (ids : List Name) → AreHeld names ids → Extends names later → texts_of later ids ≡ texts_of names ids
parameters_later {names} {later} [] held e = refl
parameters_later {names} {later} (x ∷ xs) held e =
    ap (λ t. t ∷ texts_of later xs) (text_later x (held 0 x (omega arith)) e) ∙ ap (λ ts. text_of names x ∷ ts) (parameters_later xs (held_tail names x xs held) e)

rest_later : {names later : List (List ℕ)} (rest : Option Rest) → IfSome rest (IsHeldRest names) → Extends names later → option_map (seen_rest later) rest ≡ option_map (seen_rest names) rest
rest_later {names} {later} None held e = refl
rest_later {names} {later} (Some rest) held e = ap (λ t. Some (record { name = t; deletes_comma = rest.deletes_comma })) (by rest.name held)
  where
    by : (name : Option Name) → IfSome name (IsRestName names) → rest_name later name ≡ rest_name names name
    by None own = refl
    by (Some name) own = text_later name own.0 e

pub form_later : {names later : List (List ℕ)} (form : Form) → IsHeldForm names form → Extends names later → seen_form later form ≡ seen_form names form
form_later {names} {later} Object held e = refl
form_later {names} {later} (Function parameters rest) held e =
    ap (λ ts. macros.function_like ts (option_map (seen_rest later) rest)) (parameters_later parameters.keys held.0 e)
    ∙ ap (macros.function_like (texts_of names parameters.keys)) (rest_later rest held.1 e)

-- ---- the parts of a list

item_held : {names later : List (List ℕ)} (item : Item) → IsHeldItem names item → Extends names later → IsHeldItem later item
item_held {names} {later} item held e = record {
  spelling = Extends-within item.spelling.0 held.spelling e;
  name = Extends-within item.name.0 held.name e;
  stands_for = text_later item.name held.name e ∙ (held.stands_for ∙ ap name_of (sym (text_later item.spelling held.spelling e)));
}

pub list_part_held : {names later : List (List ℕ)} (p : ListPart) → IsHeldListPart names p → Extends names later → IsHeldListPart later p
list_part_held {names} {later} (part.Token item) held e = item_held item held e
list_part_held {names} {later} (part.Literal n hash) held e = tt
list_part_held {names} {later} (part.Parameter n space) held e = tt
list_part_held {names} {later} part.Paste held e = tt
list_part_held {names} {later} (part.Comma item n) held e = item_held item held e

list_part_later : {names later : List (List ℕ)} (p : ListPart) → IsHeldListPart names p → Extends names later → seen_list_part later p ≡ seen_list_part names p
list_part_later {names} {later} (part.Token item) held e = ap substitution.token (item_later item held e)
list_part_later {names} {later} (part.Literal n hash) held e = refl
list_part_later {names} {later} (part.Parameter n space) held e = refl
list_part_later {names} {later} part.Paste held e = refl
list_part_later {names} {later} (part.Comma item n) held e = ap (λ i. substitution.comma i n) (item_later item held e)

list_parts_later : {names later : List (List ℕ)} (ps : List ListPart) → All (IsHeldListPart names) ps → Extends names later → map (seen_list_part later) ps ≡ map (seen_list_part names) ps
list_parts_later {names} {later} [] held e = refl
list_parts_later {names} {later} (p ∷ ps) held e =
    ap (λ q. q ∷ map (seen_list_part later) ps) (list_part_later p (held 0 p (omega arith)) e)
    ∙ ap (λ qs. seen_list_part names p ∷ qs) (list_parts_later ps (λ k d h. held (suc k) d (omega arith)) e)

-- what the parts of a list are stays while the table grows
pub parts_later : {names later : List (List ℕ)} (ps : List ListPart) (form : Form) (items : List Item) → All (IsHeldListPart names) ps → IsHeldForm names form → All (IsHeldItem names) items
    → map (seen_list_part names) ps ≡ parts_of (seen_form names form) (map (seen_item names) items) → Extends names later
    → map (seen_list_part later) ps ≡ parts_of (seen_form later form) (map (seen_item later) items)
parts_later {names} {later} ps form items held held_form held_items is e =
    list_parts_later ps held e ∙ (is
    ∙ (ap (parts_of (seen_form names form)) (sym (items_later items held_items e)) ∙ ap (λ f. parts_of f (map (seen_item later) items)) (sym (form_later form held_form e))))

-- the literal of an argument, whatever was answered
pub literal_is : (n : ℕ) (hash : Item) (names : List (List ℕ)) (sets : List (List Name)) (raw : List (List Hidden)) (place : Place)
    (answer : List (List ℕ) → List (List Name) → model.Hidden Place → Result (model.Hidden Place) (Failure Place))
    → Lasting names sets (λ ns s. (head : model.Hidden Place) → head.place ≡ place → stringized head hash.space (map (seen_hidden ns s) (substitution.argument raw n)) ≡ answer ns s head)
    → Lasting names sets (λ ns s. (head : model.Hidden Place) → head.place ≡ place
    → slot_of head (seen_arguments ns s raw) (substitution.literal n hash.space) ≡ result_map filled_by (answer ns s head))
literal_is n hash names sets raw place answer claim = record {
  at = λ ns s en es head at.
      ap (λ ts. result_map filled_by (stringized head hash.space ts)) (argument_seen ns s raw n) ∙ ap (result_map filled_by) (claim.at ns s en es head at);
}

-- ---- an item and the rest

result_map_twice : {S E : Type 0} (made more : List S) (q : Result (List S) E) → result_map (λ ss. made ++ ss) (result_map (λ ss. more ++ ss) q) ≡ result_map (λ ss. (made ++ more) ++ ss) q
result_map_twice {S} {E} made more (Ok a) = ap Ok (sym (append_assoc made more a))
result_map_twice {S} {E} made more (Err e) = refl

-- one turn of the loop
pub turned : {S E : Type 0} (whole rest left : Result (List S) E) (made more new : List S) → whole ≡ result_map (λ ss. made ++ ss) rest → rest ≡ result_map (λ ss. more ++ ss) left → new ≡ made ++ more
    → whole ≡ result_map (λ ss. new ++ ss) left
turned {S} {E} whole rest left made more new h k e =
    h ∙ (ap (result_map (λ ss. made ++ ss)) k ∙ (result_map_twice made more left ∙ ap (λ m. result_map (λ ss. m ++ ss) left) (sym e)))

-- a failure of the rest is one of the whole
pub fails : {S E : Type 0} (whole rest : Result (List S) E) (made : List S) (e : E) → whole ≡ result_map (λ ss. made ++ ss) rest → rest ≡ Err e → whole ≡ Err e
fails {S} {E} whole rest made e h k = h ∙ ap (result_map (λ ss. made ++ ss)) k

pub slot_later : {names later : List (List ℕ)} {sets later_sets : List (List Name)} (s : Slot) → IsHeldSlot names sets s → Extends names later → Extends sets later_sets → IsHeldSlot later later_sets s
slot_later {names} {later} {sets} {later_sets} (slot.Token t) held e s = IsHeldHidden-Extends t held e s
slot_later {names} {later} {sets} {later_sets} (slot.Parameter n space) held e s = tt
slot_later {names} {later} {sets} {later_sets} slot.Paste held e s = tt

pub held_slots : {names later : List (List ℕ)} {sets later_sets : List (List Name)} (ss : List Slot) → All (IsHeldSlot names sets) ss → Extends names later → Extends sets later_sets → All (IsHeldSlot later later_sets) ss
held_slots {names} {later} {sets} {later_sets} ss held e s = λ k d h. slot_later (get_or ss k d) (held k d h) e s
