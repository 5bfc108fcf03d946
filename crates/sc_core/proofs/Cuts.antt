-- A space that has one configuration alone.
use Rattle.std.proofs.Common.{◌≡◌, ◌∙◌, ℕ, zero, suc, ◌+◌, ◌<◌, ◌≤◌, ◌++◌, Bool, List, [], ◌∷◌, All, map, length, get_or, slice_get, take, drop, None, Option, Result, arith, refl, sym, ap, ap₂, subst}
use Rattle.std.proofs.lemmas.List.{length-map, map-append, take_all}
use Rattle.std.proofs.lemmas.List.Elements.{All-cons, All-nil, All-head, All-tail, All-take, All-drop}
use Rattle.std.proofs.lemmas.Option.{slice_get_within}
use Rattle.std.proofs.Math.ListN.{get_or-map}
use Rattle.std.proofs.Math.Path.{fun_ext}
use Rattle.std.specs.Option.{option_and_then, option_or}
use Rattle.std.specs.Prelude.{replicate, string_bytes, AllPairs, slice_index, if◌then◌else◌}
use Rattle.c11_directives.specs.Lines.{Line}
use Rattle.c11_directives.specs.Listed.{SaysValid, absent, decided, unread}
use Rattle.c11_directives.specs.Pre.{Decides, Includes, Pre, context_of}
use Rattle.c11_macros.specs.Macros.{Definition, Macros, definition_of, definition_named, initial_macros, predefined_macros, variable_definition}
use Rattle.sc_core.specs.Cut.{cut_space, cut_variables, first_config}
use Rattle.sc_core.specs.Ordinary.{HasManyConfigs}
use Rattle.sc_model.specs.Bytes.{same_bytes}
use Rattle.sc_model.specs.declared.cause.Cause.{Cause}
use Rattle.sc_model.specs.Fault.{Fault, first_place}
use Rattle.sc_model.specs.Growth.{IsOneToOne}
use Rattle.sc_model.specs.Outside.{Files}
use Rattle.sc_model.specs.Sets.{HasOptions, IsConfig}
use Rattle.sc_model.specs.Space.{Space, Variable, VariableOption, arities_of}
use Rattle.sc_model.specs.Token.{Token}
use Rattle.sc_space.specs.declared.space.Space as whole
use Rattle.sc_space.specs.declared.space.Variable as code
use Rattle.sc_space.specs.declared.option.VariableOption as option
use Rattle.sc_space.specs.Seen.{seen_option, seen_space, seen_variable}
use Rattle.sc_space.specs.Sound.{IsBefore, IsInRange, IsSound, IsSoundVariable, names_of}

abbrev sizes : List Variable → List ℕ
sizes variables = map (λ (v : Variable). length v.options) variables

abbrev ones : List Variable → List ℕ
ones variables = map (λ (v : Variable). 1) variables

abbrev zeros : List Variable → List ℕ
zeros variables = map (λ (v : Variable). 0) variables

-- ---- one option

pub take-one : {A : Type 0} (xs : List A) (k : ℕ) (x : A) → k < length xs → x ≡ get_or xs k x → take 1 (drop k xs) ≡ x ∷ []
take-one [] k x h is = absurd (omega arith)
take-one (y ∷ ys) zero x h is = ap (λ z. z ∷ []) (sym is)
take-one (y ∷ ys) (suc k) x h is = take-one ys k x (omega arith) is

take-some : {A : Type 0} (xs : List A) (k : ℕ) → k < length xs → length (take 1 (drop k xs)) ≡ 1
take-some [] k h = absurd (omega arith)
take-some (y ∷ ys) zero h = refl
take-some (y ∷ ys) (suc k) h = take-some ys k (omega arith)

get-one : {A : Type 0} (xs : List A) (k : ℕ) → slice_get (take 1 (drop k xs)) 0 ≡ slice_get xs k
get-one [] zero = refl
get-one [] (suc k) = refl
get-one (y ∷ ys) zero = refl
get-one (y ∷ ys) (suc k) = get-one ys k

short-one : {A : Type 0} (xs : List A) → length xs ≡ 1 → IsOneToOne xs
short-one xs one = record {
  same = λ i j x at also.
      let first = slice_get_within xs i x at in
      let second = slice_get_within xs j x also in
      omega arith;
}

-- ---- the variables of a configuration

head-below : (n k : ℕ) (ns ks : List ℕ) → IsConfig (n ∷ ns) (k ∷ ks) → k < n
head-below n k ns ks config = config.each 0 (omega arith)

tail-config : (n k : ℕ) (ns ks : List ℕ) → IsConfig (n ∷ ns) (k ∷ ks) → IsConfig ns ks
tail-config n k ns ks config = record { long = let long : suc (length ks) ≡ suc (length ns) = config.long in omega arith; each = λ v h. config.each (suc v) (omega (arith, h)) }

no-config : {A : Type 0} (n : ℕ) (ns : List ℕ) → IsConfig (n ∷ ns) [] → A
no-config n ns config = let long : 0 ≡ suc (length ns) = config.long in absurd (omega arith)

names-cut : (vs : List Variable) (ks : List ℕ) → IsConfig (sizes vs) ks → names_of (cut_variables vs ks) ≡ names_of vs
names-cut [] ks config = refl
names-cut (v ∷ vs) [] config = no-config (length v.options) (sizes vs) config
names-cut (v ∷ vs) (k ∷ ks) config = ap (λ names. v.name ∷ names) (names-cut vs ks (tail-config (length v.options) k (sizes vs) ks config))

-- each has one option
sizes-cut : (vs : List Variable) (ks : List ℕ) → IsConfig (sizes vs) ks → sizes (cut_variables vs ks) ≡ ones vs
sizes-cut [] ks config = refl
sizes-cut (v ∷ vs) [] config = no-config (length v.options) (sizes vs) config
sizes-cut (v ∷ vs) (k ∷ ks) config =
    ap₂ (λ n ns. n ∷ ns) (take-some v.options k (head-below (length v.options) k (sizes vs) ks config)) (sizes-cut vs ks (tail-config (length v.options) k (sizes vs) ks config))

-- the next variable
pub cut-next : (vs : List Variable) (ks : List ℕ) (i : ℕ) (v : Variable) → IsConfig (sizes vs) ks → i < length vs
    → take (suc i) (cut_variables vs ks) ≡ take i (cut_variables vs ks) ++ record { name = (get_or vs i v).name; options = take 1 (drop (get_or ks i 0) (get_or vs i v).options) } ∷ []
cut-next [] ks i v config h = absurd (omega arith)
cut-next (w ∷ vs) [] i v config h = no-config (length w.options) (sizes vs) config
cut-next (w ∷ vs) (k ∷ ks) zero v config h = refl
cut-next (w ∷ vs) (k ∷ ks) (suc i) v config h =
    ap (λ ws. record { name = w.name; options = take 1 (drop k w.options) } ∷ ws) (cut-next vs ks i v (tail-config (length w.options) k (sizes vs) ks config) (omega arith))

size-at : (vs : List Variable) (i : ℕ) (v : Variable) → i < length vs → slice_index (sizes vs) i ≡ length (get_or vs i v).options
size-at [] i v h = absurd (omega arith)
size-at (w ∷ vs) zero v h = refl
size-at (w ∷ vs) (suc i) v h = size-at vs i v (omega arith)

-- as the code makes it
module _ (vs : List code.Variable) (ks : List ℕ) (i : ℕ) (v : code.Variable) (config : IsConfig (sizes (map seen_variable vs)) ks) (within : i < length vs) (is : v ≡ get_or vs i v) where
  seen-at : get_or (map seen_variable vs) i (seen_variable v) ≡ seen_variable v
  seen-at = get_or-map seen_variable vs i v ∙ ap seen_variable (sym is)

  long-map : length (map seen_variable vs) ≡ length vs
  long-map = length-map vs seen_variable

  pub option-within : get_or ks i 0 < length v.options.items
  option-within =
      let long = long-map in
      let sized = length-map (map seen_variable vs) (λ (w : Variable). length w.options) in
      let below = config.each i (omega arith) in
      let size : slice_index (sizes (map seen_variable vs)) i ≡ length (map seen_option v.options.items) =
      size-at (map seen_variable vs) i (seen_variable v) (omega arith) ∙ ap (λ (w : Variable). length w.options) seen-at in
      omega (arith, length-map v.options.items seen_option)

  pub next-variable : (w : code.Variable) (o : option.VariableOption) (only : List code.Variable) → o ≡ get_or v.options.items (get_or ks i 0) o
      → seen_variable w ≡ record { name = string_bytes v.name; options = seen_option o ∷ [] } → map seen_variable only ≡ take i (cut_variables (map seen_variable vs) ks)
      → map seen_variable (only ++ w ∷ []) ≡ take (i + 1) (cut_variables (map seen_variable vs) ks)
  next-variable w o only at made so_far =
      let long = long-map in
      let next = cut-next (map seen_variable vs) ks i (seen_variable v) config (omega arith) in
      let k = get_or ks i 0 in
      let within : k < length (map seen_option v.options.items) = omega (arith, option-within, length-map v.options.items seen_option) in
      let one = take-one (map seen_option v.options.items) k (seen_option o) within (ap seen_option at ∙ sym (get_or-map seen_option v.options.items k o)) in
      let cut : record { name = (get_or (map seen_variable vs) i (seen_variable v)).name; options = take 1 (drop k (get_or (map seen_variable vs) i (seen_variable v)).options) } ≡ seen_variable w =
      ap (λ (u : Variable). record { name = u.name; options = take 1 (drop k u.options) }) seen-at
      ∙ (ap (λ (os : List VariableOption). record { name = string_bytes v.name; options = os }) one ∙ sym made) in
      let more : i + 1 ≡ suc i = omega arith in
      map-append seen_variable only (w ∷ [])
      ∙ (ap (λ us. us ++ seen_variable w ∷ []) so_far
      ∙ (ap (λ (u : Variable). take i (cut_variables (map seen_variable vs) ks) ++ u ∷ []) (sym cut)
      ∙ (sym next ∙ ap (λ n. take n (cut_variables (map seen_variable vs) ks)) (sym more))))

-- when all are there
long-cut : (vs : List Variable) (ks : List ℕ) → IsConfig (sizes vs) ks → length (cut_variables vs ks) ≡ length vs
long-cut [] ks config = refl
long-cut (v ∷ vs) [] config = no-config (length v.options) (sizes vs) config
long-cut (v ∷ vs) (k ∷ ks) config = ap suc (long-cut vs ks (tail-config (length v.options) k (sizes vs) ks config))

pub whole-cut : (vs : List Variable) (ks : List ℕ) (i : ℕ) → IsConfig (sizes vs) ks → length vs ≤ i → take i (cut_variables vs ks) ≡ cut_variables vs ks
whole-cut vs ks i config all = let long = long-cut vs ks config in take_all i (cut_variables vs ks) (omega arith)

sound-variable : (v : Variable) (k : ℕ) → IsSoundVariable v → k < length v.options → IsSoundVariable (record { name = v.name; options = take 1 (drop k v.options) })
sound-variable v k sound h =
    let one = take-some v.options k h in
    record {
      ascii = sound.ascii;
      identifier = sound.identifier;
      word = sound.word;
      unprotected = sound.unprotected;
      not_predefined = sound.not_predefined;
      some = omega arith;
      few = omega arith;
      different = short-one (take 1 (drop k v.options)) one;
      in_range = All-take IsInRange 1 (drop k v.options) (All-drop IsInRange k v.options sound.in_range);
    }

sound-variables : (vs : List Variable) (ks : List ℕ) → IsConfig (sizes vs) ks → All IsSoundVariable vs → All IsSoundVariable (cut_variables vs ks)
sound-variables [] ks config sound = All-nil IsSoundVariable
sound-variables (v ∷ vs) [] config sound = All-nil IsSoundVariable
sound-variables (v ∷ vs) (k ∷ ks) config sound =
    All-cons IsSoundVariable (record { name = v.name; options = take 1 (drop k v.options) }) (cut_variables vs ks)
    (sound-variable v k (All-head IsSoundVariable v vs sound) (head-below (length v.options) k (sizes vs) ks config))
    (sound-variables vs ks (tail-config (length v.options) k (sizes vs) ks config) (All-tail IsSoundVariable v vs sound))

ones-at : (vs : List Variable) (i : ℕ) → i < length (ones vs) → slice_index (ones vs) i ≡ 1
ones-at [] i h = absurd (omega arith)
ones-at (v ∷ vs) zero h = refl
ones-at (v ∷ vs) (suc i) h = ones-at vs i (omega arith)

ones-options : (vs : List Variable) → HasOptions (ones vs)
ones-options vs = record { each = λ i h. let one = ones-at vs i h in omega arith }

pub cut-sound : (space : Space) (config : List ℕ) → IsConfig (arities_of space) config → IsSound space → IsSound (cut_space space config)
cut-sound space config listed sound =
    let names = names-cut space.variables config listed in
    let sized = sizes-cut space.variables config listed in
    let long : length (cut_variables space.variables config) ≡ length space.variables =
    sym (length-map (cut_variables space.variables config) (λ (v : Variable). v.name)) ∙ (ap length names ∙ length-map space.variables (λ (v : Variable). v.name)) in
    record {
      each = sound-variables space.variables config listed sound.each;
      ascending = subst (AllPairs IsBefore) (sym names) sound.ascending;
      names_differ = subst (λ (ns : List (List ℕ)). IsOneToOne ns) (sym names) sound.names_differ;
      has_options = subst HasOptions (sym sized) (ones-options space.variables);
      few_variables = subst (λ n. n ≤ 1024) (sym long) sound.few_variables;
      branches_least = sound.branches_least;
      branches_most = sound.branches_most;
      include_depth_least = sound.include_depth_least;
      include_depth_most = sound.include_depth_most;
      directories = sound.directories;
      date_long = sound.date_long;
      date_plain = sound.date_plain;
      time_long = sound.time_long;
      time_plain = sound.time_plain;
    }

-- ---- its one configuration

zeros-only : (vs : List Variable) (c : List ℕ) → IsConfig (ones vs) c → c ≡ zeros vs
zeros-only [] [] config = refl
zeros-only [] (k ∷ ks) config = let long : suc (length ks) ≡ 0 = config.long in absurd (omega arith)
zeros-only (v ∷ vs) [] config = no-config 1 (ones vs) config
zeros-only (v ∷ vs) (k ∷ ks) config =
    let first : k < 1 = head-below 1 k (ones vs) ks config in
    let none : k ≡ 0 = omega (arith, first) in
    ap₂ (λ n ns. n ∷ ns) none (zeros-only vs ks (tail-config 1 k (ones vs) ks config))

zeros-at : (vs : List Variable) (i : ℕ) → slice_index (zeros vs) i ≡ 0
zeros-at [] i = refl
zeros-at (v ∷ vs) zero = refl
zeros-at (v ∷ vs) (suc i) = zeros-at vs i

zeros-listed : (vs : List Variable) → IsConfig (ones vs) (zeros vs)
zeros-listed vs = record {
  long = length-map vs (λ (v : Variable). 0) ∙ sym (length-map vs (λ (v : Variable). 1));
  each = λ i h. let one = ones-at vs i h in let none = zeros-at vs i in omega arith;
}

zeros-cut : (vs : List Variable) (ks : List ℕ) → IsConfig (sizes vs) ks → zeros (cut_variables vs ks) ≡ zeros vs
zeros-cut [] ks config = refl
zeros-cut (v ∷ vs) [] config = no-config (length v.options) (sizes vs) config
zeros-cut (v ∷ vs) (k ∷ ks) config = ap (λ ns. 0 ∷ ns) (zeros-cut vs ks (tail-config (length v.options) k (sizes vs) ks config))

module _ (space : Space) (config : List ℕ) (listed : IsConfig (arities_of space) config) where
  pub first-cut : first_config (cut_space space config) ≡ first_config space
  first-cut = zeros-cut space.variables config listed

  pub one-config : (c : List ℕ) → IsConfig (arities_of (cut_space space config)) c → c ≡ first_config (cut_space space config)
  one-config c is = zeros-only space.variables c (subst (λ ns. IsConfig ns c) (sizes-cut space.variables config listed) is) ∙ sym first-cut

  pub first-formed : IsConfig (arities_of (cut_space space config)) (first_config (cut_space space config))
  first-formed =
      subst (λ ns. IsConfig ns (first_config (cut_space space config))) (sym (sizes-cut space.variables config listed)) (subst (IsConfig (ones space.variables)) (sym first-cut) (zeros-listed space.variables))

-- ---- ordinary preprocessing there is that of the configuration

variable-cut : (vs : List Variable) (ks : List ℕ) (name : List ℕ) → IsConfig (sizes vs) ks
    → variable_definition (cut_variables vs ks) (zeros (cut_variables vs ks)) name ≡ variable_definition vs ks name
variable-cut [] ks name config = refl
variable-cut (v ∷ vs) [] name config = no-config (length v.options) (sizes vs) config
variable-cut (v ∷ vs) (k ∷ ks) name config =
    ap₂ (λ (o : Option VariableOption) (d : Option Definition). if same_bytes v.name name then option_and_then definition_of o else d) (get-one v.options k)
    (variable-cut vs ks name (tail-config (length v.options) k (sizes vs) ks config))

macros-cut : (space : Space) (config : List ℕ) → IsConfig (arities_of space) config → initial_macros (cut_space space config) (first_config (cut_space space config)) ≡ initial_macros space config
macros-cut space config listed =
    fun_ext (λ name. ap (λ (d : Option Definition). option_or (definition_named (predefined_macros space.date space.time) name) d) (variable-cut space.variables config name listed))

pub pre-cut : {space : Space} {files : Files} {main config : List ℕ} {r : Result (List Token) Fault} → IsConfig (arities_of space) config
    → Pre (cut_space space config) files main (first_config (cut_space space config)) r → Pre space files main config r
pre-cut {space} {files} {main} {config} listed pre = record {
  end = pre.end;
  walked = subst (λ (macros : Macros). Includes (context_of space files) (main ∷ []) (first_place main) (record { macros = macros; run = []; output = []; depth = 0; file = main; once = [] }) pre.end)
      (macros-cut space config listed) pre.walked;
  is = pre.is;
}

abbrev decides-with : Space → Line → Result Bool Fault → Macros → Type 0
decides-with space line answer macros =
    Decides (context_of space (λ name. None)) (record { macros = macros; run = []; output = []; depth = 0; file = []; once = [] }) line answer

-- what the text says of the configuration that is left it says of this one, and the other way round
module _ {space : Space} {config : List ℕ} (formed : IsConfig (arities_of space) config) where
  pub says-cut : {r : Result Bool Cause} → SaysValid (cut_space space config) (first_config (cut_space space config)) r → SaysValid space config r
  says-cut (absent none) = absent none
  says-cut (unread comment) = unread (record { text = comment.text; place = comment.place; present = comment.present; refused = comment.refused })
  says-cut (decided line answer is d) =
      decided line answer (record { text = is.text; tokens = is.tokens; present = is.present; lexed = is.lexed; is = is.is })
      (subst (decides-with space line answer) (macros-cut space config formed) d)

  pub says-whole : {r : Result Bool Cause} → SaysValid space config r → SaysValid (cut_space space config) (first_config (cut_space space config)) r
  says-whole (absent none) = absent none
  says-whole (unread comment) = unread (record { text = comment.text; place = comment.place; present = comment.present; refused = comment.refused })
  says-whole (decided line answer is d) =
      decided line answer (record { text = is.text; tokens = is.tokens; present = is.present; lexed = is.lexed; is = is.is })
      (subst (decides-with space line answer) (sym (macros-cut space config formed)) d)

-- ---- it never has more branches than are allowed

pub never-fills : (space : Space) → ((c : List ℕ) → IsConfig (arities_of space) c → c ≡ first_config space) → IsSound space → HasManyConfigs space → ⊥
never-fills space one sound has =
    let least = sound.branches_least in
    let many = has.many in
    let first = first_config space in
    has.apart 0 1 first (omega arith) (omega arith) (one (get_or has.configs 0 first) (has.formed 0 first (omega arith)) ∙ sym (one (get_or has.configs 1 first) (has.formed 1 first (omega arith))))

replicate-first : (space : Space) (n : ℕ) → length space.variables ≡ n → replicate n 0 ≡ first_config space
replicate-first space n long = by space.variables n long
  where
    by : (vs : List Variable) (n : ℕ) → length vs ≡ n → replicate n 0 ≡ zeros vs
    by [] zero is = refl
    by [] (suc n) is = absurd (omega arith)
    by (v ∷ vs) zero is = absurd (omega arith)
    by (v ∷ vs) (suc n) is = ap (λ ns. 0 ∷ ns) (by vs n (omega arith))

pub zeros-are : (space : whole.Space) (n : ℕ) (ks : List ℕ) → n ≡ length space.variables.items → ks ≡ replicate n 0 → ks ≡ first_config (seen_space space)
zeros-are space n ks long is = is ∙ replicate-first (seen_space space) n (length-map space.variables.items seen_variable ∙ sym long)

-- each variable has a first option
pub only-formed : (space : Space) → HasOptions (arities_of space) → IsConfig (arities_of space) (first_config space)
only-formed space has = record {
  long = length-map space.variables (λ (v : Variable). 0) ∙ sym (length-map space.variables (λ (v : Variable). length v.options));
  each = λ i h. let none = zeros-at space.variables i in let some = has.each i h in omega arith;
}
