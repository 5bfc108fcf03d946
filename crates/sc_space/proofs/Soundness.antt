-- What the definition of a space file ensures of each space that it gives.
use Rattle.std.proofs.Common.{◌≡◌, if◌then◌else◌, nat_le, codes, ℕ, zero, suc, ◌+◌, ◌<◌, ◌≤◌, Bool, true, false, ◌||◌, cond, List, [], ◌∷◌, length, map, Option, Some, None, option_map, Result, Ok, Err, String, Global, pos, refl, sym, ap, subst, arith, inl, inr}
use Rattle.std.proofs.lemmas.Bool.{and_parts, or_parts, and_from, or_from, or_left, not-true, not_from_false, both_ways, leb-true, ltb-true, eq-eqb, eqb-true, cases_order}
use Rattle.std.proofs.lemmas.Bool.Decides.{nat_tests}
use Rattle.std.proofs.lemmas.Cmp.{nat_list_cmp_total, tied_itself}
use Rattle.std.proofs.lemmas.Option.{same_Some, cond_some, get_or_from_slice_get, slice_get_within}
use Rattle.std.proofs.lemmas.List.Elements.{All-cons, All-nil, All-map, All-weaker}
use Rattle.std.proofs.lemmas.Map.Keys.{Less-from_sorted, any_passes_from_place}
use Rattle.std.specs.Cmp.Lexicographic.{slice_cmp}
use Rattle.std.specs.List.{All, AllPairs, AllByRecursion, list_all, list_any, slice_get}
use Rattle.std.specs.List.Sorted.{IsStrictlySortedBy}
use Rattle.std.specs.Map.{keys_of}
use Rattle.std.specs.Result.{IfOk}
use Rattle.std.specs.Option.{ok_or, option_and_then}
use Rattle.std.specs.Ordering.{nat_cmp}
use Rattle.std.specs.String.{string_bytes, string_cmp}
use Rattle.std.specs.declared.cmp.Ordering.TheVariants.{Less}
use Rattle.sc_model.specs.Bytes.{same_bytes, is_digit, is_letter}
use Rattle.c11_tokens.specs.Lex.{goes_on, is_identifier}
use Rattle.sc_model.proofs.ByteLemmas.{same_bytes-refl}
use Rattle.sc_model.specs.Space as model
use Rattle.sc_model.specs.Space.{VariableOption, Variable, Space}
use Rattle.sc_model.specs.declared.standard.Standard.{Standard}
use Rattle.c11_macros.specs.Macros.{predefined_names}
use Rattle.sc_text.specs.Text.{is_word, is_wordless}
use Rattle.sc_space.specs.declared.fault.SpaceStop.{SpaceStop}
use Rattle.sc_space.specs.declared.space.Space.{Space as ReadSpace}
use Rattle.sc_space.specs.Seen.{seen_space, Answers}
use Rattle.sc_space.specs.Sound.{IsInRange, IsBefore, IsSoundVariable, IsSound, names_of}
use Rattle.sc_space.specs.Texts.{AreTexts, Texts}
use Rattle.sc_space.proofs.TextLists.{text-plain}
use Rattle.sc_space.specs.Settings.{setting, limit_of, is_directory, directory_of, is_date_byte, date_of}
use Rattle.sc_space.specs.SpaceFile.{Fault, ◌>>=◌, is_identifier_start, is_identifier_byte, is_ascii_identifier, is_protected, read_option, read_each, read_options, same_option, are_different, read_variable, read_variables, read_limit, read_directories, directories_of, read_include, read_date, read_standard, read_valid, with_settings}
use Rattle.toml.specs.Data.{Data, string, integer, array, Items, no_items, item, Members, no_members, member}
use Rattle.toml.specs.View.{members_view}
use Rattle.toml.specs.declared.value.Value.{Value}

-- what an answer without a fault says of its steps
pub passed : {A : Type 0} (test : Bool) (r : Result A Fault) (fault : Fault) (a : A) → cond test r (Err fault) ≡ Ok a → (test ≡ true) × (r ≡ Ok a)
passed true r fault a read = (refl, read)
passed false r fault a read = cc

pub was_some : {A : Type 0} (o : Option A) (fault : Fault) (a : A) → ok_or o fault ≡ Ok a → o ≡ Some a
was_some (Some x) fault a read = cc
was_some None fault a read = cc

pub same_Ok : {A : Type 0} (a b : A) → ◌≡◌ {A = Result A Fault} (Ok a) (Ok b) → a ≡ b
same_Ok a b same = cc

pub went_on : {A B : Type 0} (r : Result A Fault) (more : A → Result B Fault) (b : B) → (r >>= more) ≡ Ok b → (a : A) × (r ≡ Ok a) × (more a ≡ Ok b)
went_on (Ok a) more b read = (a, refl, read)
went_on (Err fault) more b read = cc

record ReadsVariable (texts : Texts) (name : List ℕ) (value : Data) (v : Variable) : Type 0 where
  identifier : is_ascii_identifier name ≡ true
  unprotected : is_protected name ≡ false
  options : read_options texts name value ≡ Some v.options
  different : are_different v.options ≡ true
  name_is : v.name ≡ name

variable_is : (texts : Texts) (name : List ℕ) (value : Data) (v : Variable) → read_variable texts name value ≡ Ok v → ReadsVariable texts name value v
unfolding read_variable
variable_is texts name value v read =
    let named = passed _ _ _ v read in
    let (identifier, unprotected) = and_parts _ _ named.0 in
    let optioned = went_on _ _ v named.1 in
    let parted = passed _ _ _ v optioned.2 in
    let same : record { name = name; options = optioned.0 } ≡ v = same_Ok _ _ parted.1 in
    let all : ReadsVariable texts name value (record { name = name; options = optioned.0 }) = record {
      identifier = identifier;
      unprotected = not-true _ unprotected;
      options = was_some _ _ _ optioned.1;
      different = parted.0;
      name_is = refl;
    } in
    subst (ReadsVariable texts name value) same all

-- the keys of members, in their order
abbrev member_keys : Members → List (List ℕ)
member_keys no_members = []
member_keys (member key value ms) = key ∷ member_keys ms

names-read : (texts : Texts) (ms : Members) (vs : List Variable) → read_variables texts ms ≡ Ok vs → names_of vs ≡ member_keys ms
unfolding read_variables
names-read texts no_members vs read = sym (ap names_of (same_Ok _ _ read))
names-read texts (member key value ms) vs read =
    let first = went_on _ _ vs read in
    let more = went_on _ _ vs first.2 in
    let same : first.0 ∷ more.0 ≡ vs = same_Ok _ _ more.2 in
    rw (← same, (variable_is texts key value first.0 first.1).name_is, names-read texts ms more.0 more.1)

all_before : (key : String Global) (keys : List (String Global)) → AllByRecursion (λ y. string_cmp key y ≡ Less) keys → AllByRecursion (IsBefore (string_bytes key)) (map string_bytes keys)
all_before key [] below = below
all_before key (y ∷ keys) below = (below.0, all_before key keys below.1)

sorted_texts : (keys : List (String Global)) → IsStrictlySortedBy string_cmp keys → IsStrictlySortedBy (slice_cmp nat_cmp) (map string_bytes keys)
unfolding IsStrictlySortedBy
sorted_texts [] sorted = sorted
sorted_texts (key ∷ keys) sorted = (all_before key keys sorted.0, sorted_texts keys sorted.1)

keys-members_view : (es : List (String Global × Value)) → member_keys (members_view es) ≡ map string_bytes (keys_of es)
keys-members_view [] = refl
keys-members_view (e ∷ es) = ap (λ ks. string_bytes e.0 ∷ ks) (keys-members_view es)

pub ascending_names : (texts : Texts) (es : List (String Global × Value)) (vs : List Variable) → IsStrictlySortedBy string_cmp (keys_of es) → read_variables texts (members_view es) ≡ Ok vs → AllPairs IsBefore (names_of vs)
ascending_names texts es vs sorted read =
    rw (names-read texts (members_view es) vs read, keys-members_view es) (λ i j d before within. Less-from_sorted (slice_cmp nat_cmp) (map string_bytes (keys_of es)) i j d (sorted_texts (keys_of es) sorted) before within)

-- ---- the parts of soundness

some_of : {A B : Type 0} (o : Option A) (more : A → Option B) (b : B) → option_and_then more o ≡ Some b → (a : A) × (o ≡ Some a) × (more a ≡ Some b)
some_of (Some a) more b found = (a, refl, found)
some_of None more b found = cc

mapped_of : {A B : Type 0} (o : Option A) (f : A → B) (b : B) → option_map f o ≡ Some b → (a : A) × (o ≡ Some a) × (f a ≡ b)
mapped_of (Some a) f b found = (a, refl, same_Some _ _ found)
mapped_of None f b found = cc

text_in_range : (texts : Texts) → AreTexts texts → (name bytes : List ℕ) (o : VariableOption) (b : Bool) → (if b then Some model.undefined else option_map (model.text bytes) (texts name bytes)) ≡ Some o → IsInRange o
text_in_range texts are name bytes o true read = subst IsInRange (same_Some _ _ read) tt
text_in_range texts are name bytes o false read =
    let list = mapped_of (texts name bytes) (model.text bytes) o read in
    subst IsInRange list.2 (text-plain texts are name bytes list.0 list.1)

option_in_range : (texts : Texts) → AreTexts texts → (name : List ℕ) (value : Data) (o : VariableOption) → read_option texts name value ≡ Some o → IsInRange o
unfolding read_option
option_in_range texts are name (string bytes) o read = text_in_range texts are name bytes o (same_bytes bytes (codes "undef")) read
option_in_range texts are name (integer (pos n)) o read = let (below, same) = cond_some _ _ _ read in subst IsInRange same (ltb-true _ _ below)
option_in_range texts are name _ o read = cc

options_in_range : (texts : Texts) → AreTexts texts → (name : List ℕ) (values : Items) (os : List VariableOption) → read_each texts name values ≡ Some os → All IsInRange os
unfolding read_each
options_in_range texts are name no_items os read = rw (← same_Some _ _ read) (All-nil IsInRange)
options_in_range texts are name (item value values) os read =
    let first = some_of _ _ os read in
    let more = mapped_of _ _ os first.2 in
    rw (← more.2) (All-cons IsInRange first.0 more.0 (option_in_range texts are name value first.0 first.1) (options_in_range texts are name values more.0 more.1))

record AreOptions (os : List VariableOption) : Type 0 where
  some : 1 ≤ length os
  few : length os ≤ 64
  in_range : All IsInRange os

options_are : (texts : Texts) → AreTexts texts → (name : List ℕ) (value : Data) (os : List VariableOption) → read_options texts name value ≡ Some os → AreOptions os
unfolding read_options
options_are texts are name (array values) os read =
    let each = some_of _ _ os read in
    let (between, same) = cond_some _ _ _ each.2 in
    let (low, high) = and_parts _ _ between in
    let all : AreOptions each.0 = record { some = leb-true _ _ low; few = leb-true _ _ high; in_range = options_in_range texts are name values each.0 each.1 } in
    subst AreOptions same all
options_are texts are name _ os read = cc

same_option-itself : (o : VariableOption) → same_option o o ≡ true
same_option-itself model.undefined = refl
same_option-itself (model.number n) = eq-eqb n n refl
same_option-itself (model.text bytes list) = same_bytes-refl bytes

not_later : (o x : VariableOption) (os : List VariableOption) (k : ℕ) → list_any (same_option o) os ≡ false → Some o ≡ Some x → slice_get os k ≡ Some x → ⊥
not_later o x os k none is_x at =
    both_ways _ none (any_passes_from_place (same_option o) os k o (rw (same_Some _ _ is_x) at) (same_option-itself o))

one_place : (os : List VariableOption) → are_different os ≡ true → (i j : ℕ) (x : VariableOption) → slice_get os i ≡ Some x → slice_get os j ≡ Some x → i ≡ j
unfolding are_different
one_place [] different i j x at_i at_j = cc
one_place (o ∷ os) different zero zero x at_i at_j = refl
one_place (o ∷ os) different zero (suc j) x at_i at_j = absurd (not_later o x os j (not-true _ (and_parts _ _ different).0) at_i at_j)
one_place (o ∷ os) different (suc i) zero x at_i at_j = absurd (not_later o x os i (not-true _ (and_parts _ _ different).0) at_j at_i)
one_place (o ∷ os) different (suc i) (suc j) x at_i at_j = ap suc (one_place os (and_parts _ _ different).1 i j x at_i at_j)

byte_of_word : (b : ℕ) → is_identifier_byte b ≡ true → is_wordless b ≡ false
byte_of_word b h = grind (arith, nat_tests)

byte_of_token : (b : ℕ) → is_identifier_byte b ≡ true → (is_letter b || is_digit b) ≡ true
byte_of_token b h = grind (arith, nat_tests)

bytes_of_word : (bs : List ℕ) → list_all is_identifier_byte bs ≡ true → list_any is_wordless bs ≡ false
bytes_of_word [] h = refl
bytes_of_word (b ∷ bs) h = let (first, more) = and_parts _ _ h in or_from _ _ (byte_of_word b first) (bytes_of_word bs more)

identifier_is_word : (name : List ℕ) → is_ascii_identifier name ≡ true → is_word name ≡ true
unfolding is_ascii_identifier
identifier_is_word [] h = cc
identifier_is_word (b ∷ bs) h =
    let (first, more) = and_parts (is_identifier_start b) (list_all is_identifier_byte bs) h in
    not_from_false _ (bytes_of_word (b ∷ bs) (and_from _ _ (or_left _ (is_digit b) first) more))

bytes_go_on : (bs : List ℕ) → list_all is_identifier_byte bs ≡ true → goes_on 0 bs ≡ true
bytes_go_on [] h = refl
bytes_go_on (b ∷ bs) h =
    let (first, more) = and_parts (is_identifier_byte b) (list_all is_identifier_byte bs) h in
    or_left _ _ (and_from _ _ (byte_of_token b first) (bytes_go_on bs more))

identifier_is_token : (name : List ℕ) → is_ascii_identifier name ≡ true → is_identifier name ≡ true
unfolding is_ascii_identifier
identifier_is_token [] h = cc
identifier_is_token (b ∷ bs) h =
    let (first, more) = and_parts (is_identifier_start b) (list_all is_identifier_byte bs) h in
    and_from _ _ (or_left _ _ (or_left _ (nat_le 128 b) first)) (bytes_go_on (b ∷ bs) (and_from _ _ (or_left _ (is_digit b) first) more))

protected_last : (name : List ℕ) → is_protected name ≡ false → list_any (same_bytes name) predefined_names ≡ false
unfolding is_protected
protected_last name h = (or_parts _ _ (or_parts (same_bytes name (codes "defined")) _ h).1).1

sound_variable : (texts : Texts) → AreTexts texts → (name : List ℕ) (value : Data) (v : Variable) → ReadsVariable texts name value v → IsSoundVariable v
sound_variable texts are name value v reads =
    let options = options_are texts are name value v.options reads.options in
    record {
      ascii = rw reads.name_is reads.identifier;
      identifier = rw reads.name_is (identifier_is_token name reads.identifier);
      word = rw reads.name_is (identifier_is_word name reads.identifier);
      unprotected = rw reads.name_is reads.unprotected;
      not_predefined = rw reads.name_is (protected_last name reads.unprotected);
      some = options.some;
      few = options.few;
      different = record { same = one_place v.options reads.different };
      in_range = options.in_range;
    }

sound_variables : (texts : Texts) → AreTexts texts → (ms : Members) (vs : List Variable) → read_variables texts ms ≡ Ok vs → All IsSoundVariable vs
unfolding read_variables
sound_variables texts are no_members vs read = rw (← same_Ok _ _ read) (All-nil IsSoundVariable)
sound_variables texts are (member key value ms) vs read =
    let first = went_on _ _ vs read in
    let more = went_on _ _ vs first.2 in
    subst (All IsSoundVariable) (same_Ok _ _ more.2)
    (All-cons IsSoundVariable first.0 more.0 (sound_variable texts are key value first.0 (variable_is texts key value first.0 first.1)) (sound_variables texts are ms more.0 more.1))

never_before : (names : List (List ℕ)) → AllPairs IsBefore names → (i j : ℕ) (x : List ℕ) → slice_get names i ≡ Some x → slice_get names j ≡ Some x → i < j → ⊥
never_before names ascending i j x at_i at_j before =
    let less : IsBefore x x = rw (get_or_from_slice_get names i x x at_i, get_or_from_slice_get names j x x at_j) at (ascending i j x before (slice_get_within names j x at_j)) in
    let tied = tied_itself nat_list_cmp_total x in
    cc

names_one_place : (names : List (List ℕ)) → AllPairs IsBefore names → (i j : ℕ) (x : List ℕ) → slice_get names i ≡ Some x → slice_get names j ≡ Some x → i ≡ j
names_one_place names ascending i j x at_i at_j =
    elim (cases_order i j) [
      | inl same ↦ same
      | inr (inl before) ↦ absurd (never_before names ascending i j x at_i at_j before)
      | inr (inr after) ↦ absurd (never_before names ascending j i x at_j at_i after)
    ]

-- what a setting is, where it was read
setting_is : {A : Type 0} (P : A → Type 0) (default : A) (read : Data → Option A) (found : Option Data) (fault : Fault) (a : A) → P default
    → ((value : Data) → read value ≡ Some a → P a) → ok_or (setting default read found) fault ≡ Ok a → P a
setting_is P default read None fault a is_default given said = subst P (same_Ok _ _ said) is_default
setting_is P default read (Some value) fault a is_default given said = given value (was_some _ _ _ said)

record IsLimit (least most n : ℕ) : Type 0 where
  low : least ≤ n
  high : n ≤ most

limit_is : (least most n : ℕ) (value : Data) → limit_of least most value ≡ Some n → IsLimit least most n
unfolding limit_of
limit_is least most n (integer (pos m)) read =
    let (between, same) = cond_some _ _ _ read in
    let (low, high) = and_parts _ _ between in
    subst (IsLimit least most) same (record { low = leb-true _ _ low; high = leb-true _ _ high })
limit_is least most n _ read = cc

read_limit-is : (key : List ℕ) (least most default n : ℕ) (document : Members) → IsLimit least most default → read_limit key least most default document ≡ Ok n → IsLimit least most n
unfolding read_limit
read_limit-is key least most default n document is_default read = setting_is (IsLimit least most) default _ _ _ n is_default (limit_is least most n) read

many_branches : IsLimit 1 1000000 4096
many_branches = record { low = omega arith; high = omega arith }

some_depth : IsLimit 15 200 64
some_depth = record { low = omega arith; high = omega arith }

record IsDate (size : ℕ) (text : List ℕ) : Type 0 where
  long : length text ≡ size
  plain : list_all is_date_byte text ≡ true

date_is : (size : ℕ) (text : List ℕ) (value : Data) → date_of size value ≡ Some text → IsDate size text
unfolding date_of
date_is size text (string given) read =
    let (plain, same) = cond_some _ _ _ read in
    let (long, bytes) = and_parts _ _ plain in
    subst (IsDate size) same (record { long = eqb-true _ _ long; plain = bytes })
date_is size text _ read = cc

read_date-is : (key : List ℕ) (size : ℕ) (default text : List ℕ) (document : Members) → IsDate size default → read_date key size default document ≡ Ok text → IsDate size text
unfolding read_date
read_date-is key size default text document is_default read = setting_is (IsDate size) default _ _ _ text is_default (date_is size text) read

directory_is : (value : Data) (name : List ℕ) → directory_of value ≡ Some name → is_directory name ≡ true
unfolding directory_of
directory_is (string text) name read = let (directory, same) = cond_some _ _ _ read in subst (λ n. is_directory n ≡ true) same directory
directory_is _ name read = cc

abbrev AreDirectories : List (List ℕ) → Type 0
AreDirectories names = All (λ name. is_directory name ≡ true) names

directories_are : (place : ℕ) (values : Items) (names : List (List ℕ)) → read_directories place values ≡ Ok names → AreDirectories names
unfolding read_directories
directories_are place no_items names read = rw (← same_Ok _ _ read) (All-nil (λ name. is_directory name ≡ true))
directories_are place (item value values) names read =
    let first = went_on _ _ names read in
    let more = went_on _ _ names first.2 in
    subst AreDirectories (same_Ok _ _ more.2)
    (All-cons (λ name. is_directory name ≡ true) first.0 more.0 (directory_is value first.0 (was_some _ _ _ first.1)) (directories_are (place + 1) values more.0 more.1))

include_is : (found : Option Data) (names : List (List ℕ)) → directories_of found ≡ Ok names → AreDirectories names
include_is None names read = rw (← same_Ok _ _ read) (All-nil (λ name. is_directory name ≡ true))
include_is (Some (array values)) names read = directories_are 0 values names read
include_is (Some _) names read = cc

read_include-is : (document : Members) (names : List (List ℕ)) → read_include document ≡ Ok names → AreDirectories names
unfolding read_include
read_include-is document names read = include_is _ names read

sound : (texts : Texts) → AreTexts texts → (ms document : Members) (vs : List Variable) (space : Space) → read_variables texts ms ≡ Ok vs → length vs ≤ 1024 → AllPairs IsBefore (names_of vs) → with_settings vs document ≡ Ok space → IsSound space
unfolding with_settings
sound texts are ms document vs space read few ascending whole =
    let each = sound_variables texts are ms vs read in
    let branches = went_on _ _ space whole in
    let depth = went_on _ _ space branches.2 in
    let include = went_on _ _ space depth.2 in
    let date = went_on _ _ space include.2 in
    let time = went_on _ _ space date.2 in
    let listing : Standard → Option (List ℕ) → Space = λ standard valid. record {
      variables = vs;
      include = include.0;
      branches = branches.0;
      include_depth = depth.0;
      date = date.0;
      time = time.0;
      standard = standard;
      valid = valid;
    } in
    let standard = went_on (read_standard document) (λ standard. read_valid document >>= (λ valid. Ok (listing standard valid))) space time.2 in
    let valid = went_on (read_valid document) (λ valid. Ok (listing standard.0 valid)) space standard.2 in
    let branches_are = read_limit-is _ _ _ _ _ document many_branches branches.1 in
    let depth_is = read_limit-is _ _ _ _ _ document some_depth depth.1 in
    let date_is = read_date-is (codes "date") 11 (codes "Jan  1 1970") _ document (record { long = refl; plain = refl }) date.1 in
    let time_is = read_date-is (codes "time") 8 (codes "00:00:00") _ document (record { long = refl; plain = refl }) time.1 in
    subst IsSound (same_Ok (listing standard.0 valid.0) space valid.2) (record {
      each = each;
      ascending = ascending;
      names_differ = record { same = names_one_place (names_of vs) ascending };
      has_options = record { each = λ v within. All-map (λ n. 0 < n) (λ (v : Variable). length v.options) vs (All-weaker IsSoundVariable (λ v. 0 < length v.options) (λ v is_sound. is_sound.some) vs each) v 0 within };
      few_variables = few;
      branches_least = branches_are.low;
      branches_most = branches_are.high;
      include_depth_least = depth_is.low;
      include_depth_most = depth_is.high;
      directories = read_include-is document include.0 include.1;
      date_long = date_is.long;
      date_plain = date_is.plain;
      time_long = time_is.long;
      time_plain = time_is.plain;
    })

pub sound_answer : (texts : Texts) → AreTexts texts → (ms document : Members) (vs : List Variable) (result : Result ReadSpace SpaceStop) → read_variables texts ms ≡ Ok vs → length vs ≤ 1024 → AllPairs IsBefore (names_of vs) → Answers seen_space result (with_settings vs document)
    → IfOk result (λ space. IsSound (seen_space space))
sound_answer texts are ms document vs (Ok space) read few ascending answer = sound texts are ms document vs (seen_space space) read few ascending answer
sound_answer texts are ms document vs (Err refused) read few ascending answer = tt
