-- What was printed, with one line more.
use Rattle.std.proofs.Common.{◌≡◌, ℕ, zero, suc, ◌+◌, ◌<◌, ◌≤◌, ◌⊎◌, inl, inr, ◌==◌, ◌||◌, unwrap_or, Bool, true, false, List, [], ◌∷◌, ◌++◌, length, map, slice_get, slice_index, get_or, Some, None, option_map, All, refl, sym, ap, subst, ◌∙◌, arith, length-append, if◌then◌else◌}
use Rattle.std.proofs.lemmas.Bool.{true≢false, eq-eqb, eqb-true, cases_lt}
use Rattle.std.proofs.lemmas.List.{map-append, length-map, get_or-map}
use Rattle.std.proofs.lemmas.Option.{slice_get-map, slice_get_within, same_Some, slice_get-get_or, get_or_from_slice_get}
use Rattle.sc_base.specs.declared.id.Cond.{Cond}
use Rattle.sc_base.specs.declared.id.FileId.{FileId}
use Rattle.sc_base.specs.Seen.{text_at}
use Rattle.indexmap.specs.IndexSet.{insert_key}
use Rattle.sc_model.specs.Sets.{Sets, IsConfig, IsCond, HasOptions, Denotes, Keeps}
use Rattle.sc_model.proofs.SpaceLemmas.{length-option_words}
use Rattle.sc_model.specs.Space.{Space, Variable, arities_of, option_words}
use Rattle.sc_text.specs.Answer.{Condition}
use Rattle.sc_text.specs.Layout.{Counts, Introduces, is_item}
use Rattle.sc_text.specs.Text.{Reading, TextLine, condition_line, file_line, needs, is_clear, is_end, is_word, read_line, condition_at, chosen, read_condition, variable_from, with_condition, with_file, with_line, nothing_read}
use Rattle.sc_text.proofs.LayoutLemmas.{read_item}
use Rattle.sc_model.specs.Bytes.{has_no_newline}
use Rattle.sc_model.proofs.ListLemmas.{slice_get-front, slice_get-seam}
use Rattle.sc_text.proofs.ConditionLemmas.{condition_at-push, condition_at-last}
use Rattle.sc_model.proofs.SetLemmas.{IsConfig-kept}
use Rattle.sc_space.specs.Seen.{seen_space, seen_variable}
use Rattle.sc_space.specs.declared.space.Space as declared_space
use Rattle.sc_space.specs.declared.space.Variable as declared_variable
use Rattle.sc_show.specs.declared.printer.Printer.{Printer}
use Rattle.sc_show.specs.Prints.{HasWordNames, Prints, Agrees, IsTable, choices_of}
use Rattle.sc_show.specs.Rules.{counts_of}
use Rattle.sc_show.proofs.PrinterChildren.{HasChildren}
use Rattle.sc_show.proofs.LinesChoices.{both, clear_choices, numbers-choices_of}
use Rattle.sc_show.proofs.PrinterReading.{read_lines-push, clear-push, variable_from-found, are_options-choices_of}
use Rattle.sc_show.proofs.PrinterNumbers.{owned_at}

-- one line more
Prints-push : {space : Space} {s : Sets} {files : List (List ℕ)} {p q : Printer} {before : List TextLine} (was : Prints space s files p before) (line : TextLine) (reading : Reading)
    → is_clear line ≡ true → read_line space was.reading line ≡ Some reading → reading.ended ≡ false
    → Agrees s q.conditions.keys reading.conditions → reading.files ≡ map (λ (f : FileId). text_at files f.0) q.files.keys → Prints space s files q (before ++ line ∷ [])
Prints-push {space} {before = before} was line reading clear read unended conditions names = record {
  clear = clear-push before line was.clear clear;
  reading = reading;
  read = read_lines-push space before _ was.reading reading line was.read was.unended read;
  unended = unended;
  conditions = conditions;
  names = names;
}

-- the sets grow
Agrees-Keeps : {old new : Sets} {ks : List Cond} {tests : List Condition} → Keeps old new → IsTable old ks → Agrees old ks tests → Agrees new ks tests
Agrees-Keeps keeps table agrees = record {
  long = agrees.long;
  each = λ n cond at c listed.
      let was = IsConfig-kept keeps listed in
      agrees.each n cond at c was ∙ sym (keeps.at cond.0 c (owned_at n cond table at) was);
}

pub Prints-Keeps : {space : Space} {old new : Sets} {files : List (List ℕ)} {p : Printer} {before : List TextLine} → Keeps old new → IsTable old p.conditions.keys → Prints space old files p before
    → Prints space new files p before
Prints-Keeps keeps table was = record {
  clear = was.clear;
  reading = was.reading;
  read = was.read;
  unended = was.unended;
  conditions = Agrees-Keeps keeps table was.conditions;
  names = was.names;
}

-- the same printer with other spare room
pub Prints-printer : {space : Space} {s : Sets} {files : List (List ℕ)} {p q : Printer} {before : List TextLine} → q.conditions.keys ≡ p.conditions.keys → q.files.keys ≡ p.files.keys
    → Prints space s files p before → Prints space s files q before
Prints-printer {space} {s} {files} keys same_files was = record {
  clear = was.clear;
  reading = was.reading;
  read = was.read;
  unended = was.unended;
  conditions = subst (λ ks. Agrees s ks was.reading.conditions) (sym keys) was.conditions;
  names = was.names ∙ ap (map (λ (f : FileId). text_at files f.0)) (sym same_files);
}

-- a variable of the configurations is one of the space, and where it stands
pub variable_within : (space : declared_space.Space) (arities : List ℕ) (v : ℕ) → arities ≡ arities_of (seen_space space) → v < length arities → v < length space.variables.items
variable_within space arities v e within =
    omega (arith, within, ap length e ∙ length-map (map seen_variable space.variables.items) (λ (v : Variable). length v.options) ∙ length-map space.variables.items seen_variable)

pub variable_at : (space : declared_space.Space) (v : ℕ) (named : declared_variable.Variable) → named ≡ get_or space.variables.items v named → v < length space.variables.items
    → slice_get (seen_space space).variables v ≡ Some (seen_variable named)
variable_at space v named is within =
    slice_get-map seen_variable space.variables.items v ∙ ap (option_map seen_variable) (slice_get-get_or space.variables.items v named within ∙ ap Some (sym is))

pub arity_at : (space : Space) (arities : List ℕ) (v : ℕ) (variable : Variable) → arities ≡ arities_of space → slice_get space.variables v ≡ Some variable
    → slice_index arities v ≡ length variable.options
arity_at space arities v variable e found =
    ap (λ ns. slice_index ns v) e ∙ get_or-map (λ (x : Variable). length x.options) space.variables v variable 0 (slice_get_within space.variables v variable found)
    ∙ ap (λ (x : Variable). length x.options) (get_or_from_slice_get space.variables v variable variable found)

-- a condition more, and what was read of it
Agrees-push : {s : Sets} {ks : List Cond} {tests : List Condition} (cond : Cond) (test : Condition) → Agrees s ks tests
    → ((c : List ℕ) → IsConfig s.arities c → test c ≡ s.has cond.0 c) → Agrees s (ks ++ cond ∷ []) (tests ++ test ∷ [])
Agrees-push {s} {ks} {tests} cond test agrees means = record {
  long = length-append tests (test ∷ []) ∙ ap (λ n. n + 1) agrees.long ∙ sym (length-append ks (cond ∷ []));
  each = λ n key at c listed. by n key at c listed (cases_lt n (length ks));
}
  where
    by : (n : ℕ) (key : Cond) → slice_get (ks ++ cond ∷ []) n ≡ Some key → (c : List ℕ) → IsConfig s.arities c → (n < length ks) ⊎ (length ks ≤ n)
        → condition_at (tests ++ test ∷ []) n c ≡ s.has key.0 c
    by n key at c listed (inl below) =
        let placed : n < length tests = omega (arith, agrees.long) in
        ap (λ (f : Condition). f c) (condition_at-push tests test n placed) ∙ agrees.each n key (sym (slice_get-front ks (cond ∷ []) n below) ∙ at) c listed
    by n key at c listed (inr above) =
        let within = slice_get_within (ks ++ cond ∷ []) n key at in
        let last : n ≡ length ks = omega (arith, length-append ks (cond ∷ [])) in
        let here : n ≡ length tests = omega (arith, agrees.long) in
        let same : cond ≡ key = same_Some cond key (sym (slice_get-seam ks cond []) ∙ ap (slice_get (ks ++ cond ∷ [])) (sym last) ∙ at) in
        ap (λ m. condition_at (tests ++ test ∷ []) m c) here ∙ condition_at-last tests test c ∙ means c listed ∙ ap (λ (k : Cond). s.has k.0 c) same

-- a condition's line
pub Prints-condition : {space : Space} {s : Sets} {files : List (List ℕ)} {p q : Printer} {before : List TextLine} (a : Cond) (variable : Variable) (v number : ℕ) (children : List ℕ)
    → HasWordNames space → s.arities ≡ arities_of space → slice_get space.variables v ≡ Some variable → v < length s.arities
    → HasChildren s p.conditions.keys a v children → length children ≡ length variable.options
    → number ≡ length p.conditions.keys → q.conditions.keys ≡ p.conditions.keys ++ a ∷ [] → q.files.keys ≡ p.files.keys
    → Prints space s files p before
    → Prints space s files q (before ++ condition_line number variable.name (choices_of (option_words variable.options) children) ∷ [])
Prints-condition {space} {s} {files} {p} {q} a variable v number children words arities found within has count at keys same_files was =
    let options = choices_of (option_words variable.options) children in
    Prints-push was (condition_line number variable.name options) (with_condition was.reading (chosen was.reading.conditions v options)) clear read was.unended
    (subst (λ ks. Agrees s ks (was.reading.conditions ++ chosen was.reading.conditions v options ∷ [])) (sym keys) (Agrees-push a (chosen was.reading.conditions v options) was.conditions means))
    (was.names ∙ ap (map (λ (f : FileId). text_at files f.0)) (sym same_files))
  where
    clear : is_clear (condition_line number variable.name (choices_of (option_words variable.options) children)) ≡ true
    clear =
        let here : (get_or space.variables v variable).name ≡ variable.name = ap (λ (x : Variable). x.name) (get_or_from_slice_get space.variables v variable variable found) in
        both (subst (λ name. is_word name ≡ true) here (words.words v variable (slice_get_within space.variables v variable found))) (clear_choices variable.options children)

    read : read_line space was.reading (condition_line number variable.name (choices_of (option_words variable.options) children))
        ≡ Some (with_condition was.reading (chosen was.reading.conditions v (choices_of (option_words variable.options) children)))
    read =
        let placed : variable_from 0 space.variables variable.name ≡ Some (v, variable) =
        variable_from-found 0 space.variables v variable words.differ found ∙ ap (λ k. Some (k, variable)) (let e : 0 + v ≡ v = omega arith in e) in
        let next : number ≡ length was.reading.conditions = at ∙ sym was.conditions.long in
        let lower = λ (k : ℕ) (h : k < length children). let is = has.each k h in subst (λ m. slice_index children k < m) (sym at) (slice_get_within p.conditions.keys (slice_index children k) is.child is.found) in
        ap (read_condition was.reading number (choices_of (option_words variable.options) children)) placed
        ∙ ap (λ b. if b then Some (with_condition was.reading (chosen was.reading.conditions v (choices_of (option_words variable.options) children))) else None)
        (both (eq-eqb number (length was.reading.conditions) next) (are_options-choices_of number (option_words variable.options) children (count ∙ sym (length-option_words variable.options)) lower))

    means : (c : List ℕ) → IsConfig s.arities c → chosen was.reading.conditions v (choices_of (option_words variable.options) children) c ≡ s.has a.0 c
    means c listed =
        let k = slice_index c v in
        let arity = arity_at space s.arities v variable arities found in
        let below : k < length children = omega (arith, listed.each v within, arity, count) in
        let is = has.each k below in
        ap (λ ns. condition_at was.reading.conditions (slice_index ns k) c) (numbers-choices_of (option_words variable.options) children (count ∙ sym (length-option_words variable.options)))
        ∙ was.conditions.each (slice_index children k) is.child is.found c listed ∙ is.agrees c listed refl

-- a file's line
pub Prints-file : {space : Space} {s : Sets} {files : List (List ℕ)} {p q : Printer} {before : List TextLine} (file : FileId) (name : List ℕ) (number : ℕ) → All (λ (name : List ℕ). has_no_newline name ≡ true) files
    → slice_get files file.0 ≡ Some name → number ≡ length p.files.keys → q.files.keys ≡ p.files.keys ++ file ∷ [] → q.conditions.keys ≡ p.conditions.keys
    → Prints space s files p before → Prints space s files q (before ++ file_line number name ∷ [])
Prints-file {space} {s} {files} {p} {q} file name number one_line named at keys same was =
    let clear = subst (λ (text : List ℕ). has_no_newline text ≡ true) (get_or_from_slice_get files file.0 name name named) (one_line file.0 name (slice_get_within files file.0 name named)) in
    let next : number ≡ length was.reading.files = at ∙ sym (ap length was.names ∙ length-map p.files.keys (λ (f : FileId). text_at files f.0)) in
    let read = ap (λ b. if b then Some (with_file was.reading name) else None) (eq-eqb number (length was.reading.files) next) in
    let named_so : text_at files file.0 ≡ name = ap (λ o. unwrap_or o []) named in
    let names : was.reading.files ++ name ∷ [] ≡ map (λ (f : FileId). text_at files f.0) q.files.keys =
    ap (λ fs. fs ++ name ∷ []) was.names ∙ ap (λ n. map (λ (f : FileId). text_at files f.0) p.files.keys ++ n ∷ []) (sym named_so)
    ∙ sym (ap (map (λ (f : FileId). text_at files f.0)) keys ∙ map-append (λ (f : FileId). text_at files f.0) p.files.keys (file ∷ [])) in
    Prints-push was (file_line number name) (with_file was.reading name) clear read was.unended (subst (λ ks. Agrees s ks was.reading.conditions) (sym same) was.conditions) names

-- an item's line, below those that it needs
pub Prints-item : {space : Space} {s : Sets} {files : List (List ℕ)} {p q : Printer} {before : List TextLine} {counts : Counts} {first : List TextLine} (line : TextLine) → is_item line ≡ true → is_end line ≡ false → is_clear line ≡ true
    → Introduces counts (needs line) first (counts_of p) → q.conditions.keys ≡ p.conditions.keys → q.files.keys ≡ p.files.keys → Prints space s files p before → Prints space s files q (before ++ line ∷ [])
Prints-item {space} {s} {files} {p} {q} line right unended clear introduced kept kept_files was =
    let named = ap length was.names ∙ length-map p.files.keys (λ (f : FileId). text_at files f.0) in
    Prints-push was line (with_line was.reading line) clear (read_item was.reading space line right introduced (sym was.conditions.long) (sym named)) unended
    (subst (λ ks. Agrees s ks was.reading.conditions) (sym kept) was.conditions)
    (was.names ∙ ap (map (λ (f : FileId). text_at files f.0)) (sym kept_files))

-- nothing was printed yet
pub Prints-nothing : {space : Space} {s : Sets} {files : List (List ℕ)} {p : Printer} (never always : Cond) → Denotes s never.0 (λ _. false) → Denotes s always.0 (λ _. true)
    → p.conditions.keys ≡ never ∷ always ∷ [] → p.files.keys ≡ [] → Prints space s files p []
Prints-nothing {space} {s} {files} {p} never always none all keys no_files = record {
  clear = refl;
  reading = nothing_read;
  read = refl;
  unended = refl;
  conditions = record { long = sym (ap length keys); each = λ n cond at c listed. by n cond (ap (λ ks. slice_get ks n) (sym keys) ∙ at) c listed };
  names = sym (ap (map (λ (f : FileId). text_at files f.0)) no_files);
}
  where
    by : (n : ℕ) (cond : Cond) → slice_get (never ∷ always ∷ []) n ≡ Some cond → (c : List ℕ) → IsConfig s.arities c → condition_at nothing_read.conditions n c ≡ s.has cond.0 c
    by zero cond at c listed = sym (none.at c listed) ∙ ap (λ (k : Cond). s.has k.0 c) (same_Some never cond at)
    by (suc zero) cond at c listed = sym (all.at c listed) ∙ ap (λ (k : Cond). s.has k.0 c) (same_Some always cond at)
    by (suc (suc n)) cond at c listed = absurd (cc)

-- the two conditions differ at some configuration
pub IsTable-first : {s : Sets} {ks : List Cond} (never always : Cond) → Denotes s never.0 (λ _. false) → Denotes s always.0 (λ _. true) → ks ≡ never ∷ always ∷ [] → IsTable s ks
IsTable-first {s} {ks} never always none all keys = subst (IsTable s) (sym keys) (record {
  own = own;
  never = record { cond = never; found = refl; means = none };
  always = record { cond = always; found = refl; means = all };
})
  where
    own : (k : ℕ) (d : Cond) → k < length (never ∷ always ∷ []) → IsCond s (get_or (never ∷ always ∷ []) k d).0
    own zero d h = none.own
    own (suc zero) d h = all.own
    own (suc (suc k)) d h = absurd (omega arith)

-- the configuration with the first option of each variable
first_config : (ns : List ℕ) → HasOptions ns → IsConfig ns (map (λ n. 0) ns)
first_config ns has = record {
  long = length-map ns (λ n. 0);
  each = λ v h. subst (λ x. x < slice_index ns v) (sym (get_or-map (λ (n : ℕ). 0) ns v 0 0 h)) (has.each v h);
}

pub never_always : {s : Sets} (never always : Cond) → HasOptions s.arities → Denotes s never.0 (λ _. false) → Denotes s always.0 (λ _. true) → (always.0 == never.0) ≡ false
never_always {s} never always has none all = by (always.0 == never.0) refl
  where
    by : (b : Bool) → (always.0 == never.0) ≡ b → b ≡ false
    by true same =
        let listed = first_config s.arities has in
        absurd (true≢false (sym (all.at _ listed) ∙ ap (λ a. s.has a (map (λ n. 0) s.arities)) (eqb-true always.0 never.0 same) ∙ none.at _ listed))
    by false other = refl

-- a second key that differs from the first goes last
pub two_keys : (never always : Cond) (one two : List Cond) → (always.0 == never.0) ≡ false → one ≡ insert_key (λ (a b : Cond). a.0 == b.0) [] never
    → two ≡ insert_key (λ (a b : Cond). a.0 == b.0) one always → two ≡ never ∷ always ∷ []
two_keys never always one two other first second =
    second ∙ ap (λ ks. insert_key (λ (a b : Cond). a.0 == b.0) ks always) first ∙ ap (λ b. if b || false then never ∷ [] else never ∷ always ∷ []) other
