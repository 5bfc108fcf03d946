-- One step of each reading, over lists and members.
use Rattle.std.proofs.Common.{◌≡◌, ℕ, suc, ◌&&◌, ◌||◌, not, add-one, drop, get_or, ◌+◌, ◌<◌, ◌≤◌, Bool, false, List, [], ◌∷◌, ◌++◌, length, decimal, map, Some, None, Result, Ok, Err, refl, sym, ap, ◌∙◌, append_assoc, rules, Decides}
use Rattle.std.proofs.lemmas.Bool.{false_from_ne_true, le-ltb, lt-ltb}
use Rattle.std.proofs.lemmas.Bool.Decides.{same_from_decides}
use Rattle.std.proofs.lemmas.List.{length-map}
use Rattle.std.proofs.lemmas.Slice.Eq.{compares_Decides, bytes_eq-Decides}
use Rattle.std.proofs.lemmas.Str.{IsUtf8-from_is_utf8, is_utf8-from_IsUtf8}
use Rattle.std.proofs.Math.Seq.{drop-cons}
use Rattle.std.specs.List.{list_any}
use Rattle.std.specs.Option.{ok_or}
use Rattle.std.specs.Str.{IsUtf8, bytes_eq}
use Rattle.sc_model.specs.Bytes.{same_bytes}
use Rattle.sc_model.specs.Outside.{largest_file}
use Rattle.sc_model.specs.Space.{Variable}
use Rattle.sc_space.specs.declared.fault.SpaceStop.{SpaceStop}
use Rattle.sc_space.specs.declared.fault.SpaceStop.TheVariants as stop
use Rattle.sc_space.specs.declared.space.Variable.{Variable as ReadVariable}
use Rattle.sc_space.specs.declared.option.VariableOption.{VariableOption as ReadOption}
use Rattle.sc_space.specs.Seen.{seen_option, seen_variable, Refuses}
use Rattle.sc_space.specs.Texts.{Texts}
use Rattle.sc_space.specs.Settings.{directory_of}
use Rattle.sc_space.specs.SpaceFile.{Fault, not_toml, unknown_key, bad_include, too_many, ◌>>=◌, read_document, known_keys, check_keys, are_different, same_option, read_variable, read_variables, read_directories, check_number}
use Rattle.toml.specs.Data.{Data, Items, item, Members, member}
use Rattle.toml.specs.Parse.{parse_document}

same_bytes-Decides : (xs ys : List ℕ) → Decides (same_bytes xs ys) (xs ≡ ys)
same_bytes-Decides = compares_Decides same_bytes (search rules)

-- the code's `==` on texts
pub same_bytes-bytes_eq : (xs ys : List ℕ) → same_bytes xs ys ≡ bytes_eq xs ys
same_bytes-bytes_eq xs ys = same_from_decides (same_bytes xs ys) (bytes_eq xs ys) (same_bytes-Decides xs ys) (bytes_eq-Decides xs ys)

pub same_bytes-differ : (xs ys : List ℕ) → (xs ≡ ys → ⊥) → same_bytes xs ys ≡ false
same_bytes-differ xs ys differ = false_from_ne_true _ (λ same. differ ((same_bytes-Decides xs ys).0 same))

pub read_document-text : (bytes : List ℕ) → length bytes ≤ largest_file → IsUtf8 bytes → read_document bytes ≡ ok_or (parse_document bytes) not_toml
unfolding read_document
read_document-text bytes fits text = rw (le-ltb largest_file (length bytes) fits, is_utf8-from_IsUtf8 bytes text)

pub read_document-no_text : (bytes : List ℕ) → length bytes ≤ largest_file → (IsUtf8 bytes → ⊥) → read_document bytes ≡ Err not_toml
unfolding read_document
read_document-no_text bytes fits no_text =
    rw (le-ltb largest_file (length bytes) fits, false_from_ne_true _ (λ text. no_text (IsUtf8-from_is_utf8 bytes text)))

pub check_keys-refused : (ms rest : Members) (key : List ℕ) (value : Data) → check_keys ms ≡ check_keys (member key value rest) → list_any (same_bytes key) known_keys ≡ false → check_keys ms ≡ Err (unknown_key key)
unfolding check_keys
check_keys-refused ms rest key value left unknown = left ∙ rw unknown

regrouped : {A : Type 0} (rest : Result (List A) Fault) (done : List A) (x : A)
    → (rest >>= (λ xs. Ok (x ∷ xs)) >>= (λ xs. Ok (done ++ xs))) ≡ (rest >>= (λ xs. Ok ((done ++ x ∷ []) ++ xs)))
regrouped (Ok xs) done x = ap Ok (sym (append_assoc done (x ∷ []) xs))
regrouped (Err fault) done x = refl

-- one more variable was read
pub read_variables-more : (texts : Texts) (all : Result (List Variable) Fault) (done : List Variable) (name : List ℕ) (value : Data) (v : Variable) (rest : Members)
    → all ≡ (read_variables texts (member name value rest) >>= (λ vs. Ok (done ++ vs))) → read_variable texts name value ≡ Ok v
    → all ≡ (read_variables texts rest >>= (λ vs. Ok ((done ++ v ∷ []) ++ vs)))
unfolding read_variables
read_variables-more texts all done name value v rest left read = left ∙ rw read (regrouped (read_variables texts rest) done v)

-- one more directory was read, or refused
module _ (all : Result (List (List ℕ)) Fault) (done : List (List ℕ)) (place : ℕ) (value : Data) (rest : Items) (left : all ≡ (read_directories place (item value rest) >>= (λ names. Ok (done ++ names)))) where
  pub read_directories-more : (name : List ℕ) → directory_of value ≡ Some name → all ≡ (read_directories (place + 1) rest >>= (λ names. Ok ((done ++ name ∷ []) ++ names)))
  unfolding read_directories
  read_directories-more name read = left ∙ rw read (regrouped (read_directories (place + 1) rest) done name)

  pub read_directories-refused : directory_of value ≡ None → all ≡ Err (bad_include (decimal place))
  unfolding read_directories
  read_directories-refused read = left ∙ rw read

-- the fault of a step is the fault of the whole
pub refused_first : {T U : Type 0} (refused : SpaceStop) (step : Result T Fault) (more : T → Result U Fault) → Refuses refused step → Refuses refused (step >>= more)
refused_first (stop.Fault refusal) step more answer = rw answer
refused_first stop.OutOfMemory step more answer = tt

list_any-map : {A B : Type 0} (test : B → Bool) (f : A → B) (xs : List A) → list_any test (map f xs) ≡ list_any (λ x. test (f x)) xs
list_any-map test f [] = refl
list_any-map test f (x ∷ xs) = ap (λ b. test (f x) || b) (list_any-map test f xs)

-- one more option is compared with those after it
pub are_different-step : (options : List ReadOption) (i : ℕ) (o : ReadOption) (b : Bool) → i < length options → o ≡ get_or options i o
    → b ≡ list_any (λ p. same_option (seen_option o) (seen_option p)) (drop (i + 1) options)
    → are_different (map seen_option (drop i options)) ≡ (not b && are_different (map seen_option (drop (i + 1) options)))
unfolding are_different
are_different-step options i o b within is among =
    ap (λ (os : List ReadOption). are_different (map seen_option os)) (drop-cons options i o within)
    ∙ rw (← is, add-one) (ap (λ c. not c && are_different (map seen_option (drop (suc i) options))) (list_any-map (same_option (seen_option o)) seen_option (drop (suc i) options) ∙ sym (rw add-one at among)))

pub check_number-many : (vs : List ReadVariable) → 1024 < length vs → check_number (map seen_variable vs) ≡ Err too_many
check_number-many vs many = rw (length-map vs seen_variable, lt-ltb _ _ many)

pub check_number-few : (vs : List ReadVariable) → length vs ≤ 1024 → check_number (map seen_variable vs) ≡ Ok tt
check_number-few vs few = rw (length-map vs seen_variable, le-ltb 1024 (length vs) few)
