-- Words without an error name a command with all that it requires.
use Rattle.std.proofs.Common.{◌≡◌, ◌∙◌, ap, sym, subst, refl, [], ◌∷◌, ◌++◌, codes, ℕ, List, length, true, false, ◌&&◌, ◌||◌, inl, inr}
use Rattle.std.specs.Prelude.{◌⊎◌, ◌≢◌, Option, Some, None, Ok, Err, if◌then◌else◌, Bool, is_some, not, fold, option_map, find, cond, unwrap_or}
use Rattle.std.specs.Option.{option_map_or}
use Rattle.std.specs.Str.{bytes_eq}
use Rattle.std.proofs.Math.Bool.{or-false}
use Rattle.std.proofs.lemmas.Bool.{both_ways, false≢true}
use Rattle.std.proofs.lemmas.Option.{none-some}
use Rattle.std.proofs.lemmas.Slice.Eq.{bytes_eq-Decides}
use Rattle.clap.specs.Kinds.{Kinds, or_else, range_kinds}
use Rattle.clap.specs.Faults.{entered_fault, fault_of, check_fault, level_fault, other_fault, step_fault, turn_fault, walk_fault, word_fault}
use Rattle.clap.specs.Simple.{App, Shape, argument_words, built, built_leaf, entered, filled, help_rule, help_shape, inherited, label_of, names_of, rows_at, subcommand_of, with_index}
use Rattle.clap.specs.Walk.{Held, Names, Outcome, Row, Rule, Step, Text, Waiting, Walk, after_flag, after_step, arg_by_index, arg_by_long, answers_to, bundle, finished, rows_after, done, idle, long_met, long_or_other, next, nothing_held, option, plain, plain_word, positional, first_of, reading_by, refused, short_or_plain, subcommand, subcommand_met, subcommand_or_other, to_positional, trailing, value, waits, walk, walk_from, walked, walked_from, word_met}
use Rattle.clap.specs.Lexer.{long_of, short_of}
use Rattle.clap.specs.declared.error.ErrorKind.TheVariants as kind
use Rattle.sc_args.proofs.Steps.{IsFaultless, both, level_steps, not_empty}
use Rattle.clap.specs.Takes.{is_given}
use Rattle.clap.specs.declared.parser.matches.ValueSource.TheVariants.{CommandLine}
use Rattle.sc_args.proofs.Values.{AllUsable, IsUsable, choices_are_full, finished_is_full, have_no_defaults, is_full, text_of_given, used_is_full, walk_is_full}
use Rattle.std.specs.Str.Parse.{digits_value}
use Rattle.sc_args.specs.Words.{Asked, asked_by, asked_of, asked_to_make, asked_where, asked_with, bad_count, bad_file, choices_in, choices_rule, conflicts, conflicts_app, file_app, is_count, is_file_name, make, make_app, parse, project, project_app, required_rule, superc_app, tokens, usage}

abbrev has_text : Text → List Row → Bool
has_text id rows = is_some (first_of id rows)

-- the command with that name, with both its files
abbrev NamesOnFiles : Text → Text × List Row → Type 0
NamesOnFiles name p = (p.0 ≡ name) × (has_text (codes "space") p.1 ≡ true) × (has_text (codes "file") p.1 ≡ true)

-- the command that makes a file, with its number
abbrev NamesMake : Text × List Row → Type 0
NamesMake p = (p.0 ≡ codes "make") × (has_text (codes "items") p.1 ≡ true)

-- A command is named: one on two files, `conflicts`, or one that makes a file.
abbrev NamesCommand : Option (Text × List Row) → Type 0
NamesCommand None = ⊥
NamesCommand (Some p) = NamesOnFiles (codes "tokens") p ⊎ (NamesOnFiles (codes "parse") p ⊎ (NamesOnFiles (codes "project") p ⊎ ((p.0 ≡ codes "conflicts") ⊎ NamesMake p)))

-- ---- the subcommand that a step names

abbrev named_by : Step → Option Text
named_by (subcommand name) = Some name
named_by _ = None

plain_names_none : (c : List Rule) (waiting : Waiting) (word : Text) (h : Held) → named_by (plain_word c waiting word h).1 ≡ None
plain_names_none c idle word h = refl
plain_names_none c (option id) word h = refl
plain_names_none c positional word h = refl

flag_names_none : (c : List Rule) (waiting : Waiting) (word : Text) (h : Held) (o : Outcome) → named_by (after_flag c waiting word h o).1 ≡ None
flag_names_none c waiting word h done = refl
flag_names_none c waiting word h (waits id) = refl
flag_names_none c waiting word h plain = plain_names_none c waiting word h
flag_names_none c waiting word h refused = plain_names_none c waiting word h

short_names_none : (c : List Rule) (waiting : Waiting) (word : Text) (flags : Option Text) (h : Held) → named_by (short_or_plain c waiting word flags h).1 ≡ None
short_names_none c waiting word (Some flags) h = flag_names_none c waiting word (bundle c flags h).0 (bundle c flags h).1
short_names_none c waiting word None h = plain_names_none c waiting word h

long_names_none : (c : List Rule) (waiting : Waiting) (word : Text) (long : Option (Text × Option Text)) (h : Held) → named_by (long_or_other c waiting word long h).1 ≡ None
long_names_none c waiting word (Some p) h = flag_names_none c waiting word (long_met c (arg_by_long c p.0) p.1 h).0 (long_met c (arg_by_long c p.0) p.1 h).1
long_names_none c waiting word None h = short_names_none c waiting word (short_of word) h

other_names : (c : List Rule) (met : Option Text) (waiting : Waiting) (position : ℕ) (word : Text) (h : Held) → named_by (subcommand_or_other c met waiting position word h).1 ≡ met
other_names c (Some name) waiting position word h = refl
other_names c None waiting position word h = dashes (bytes_eq word (45 ∷ 45 ∷ []))
  where
    dashes : (b : Bool) → named_by (if b then (h, trailing position) else long_or_other c waiting word (long_of word) h).1 ≡ None
    dashes true = refl
    dashes false = long_names_none c waiting word (long_of word) h

-- where a step ends the walk at a subcommand, it names that
positional_goes_on : (c : List Rule) (a : Option Rule) (word : Text) (w : Walk) (h : Held) → w.stopped ≡ None → (to_positional c a word w h).stopped ≡ None
positional_goes_on c None word w h e = e
positional_goes_on c (Some a) word w h e = refl

stop_is_named : (c : List Rule) (word : Text) (w : Walk) (h : Held) (step : Step) (q : Text × List Text)
    → w.stopped ≡ None → (after_step c word w h step).stopped ≡ Some q → named_by step ≡ Some q.0
stop_is_named c word w h (next waiting) q none e = absurd (none-some q (sym none ∙ e))
stop_is_named c word w h (trailing position) q none e = absurd (none-some q (sym none ∙ e))
stop_is_named c word w h (subcommand name) q none e = ap (option_map (λ p. p.0)) e
stop_is_named c word w h value q none e = absurd (none-some q (sym (positional_goes_on c (arg_by_index c w.position) word w h none) ∙ e))

-- ---- no subcommand of a walk without a fault is `help`

help_fails : (s : Shape) (name word : Text) (h : Held) → s.disable_help_subcommand ≡ false → other_fault s (Some name) word h ≡ [] → bytes_eq name (codes "help") ≡ false
help_fails s name word h enabled e = go (bytes_eq name (codes "help")) s.disable_help_subcommand enabled e
  where
    go : (b disabled : Bool) → disabled ≡ false → (if b && not disabled then kind.DisplayHelp ∷ kind.InvalidSubcommand ∷ [] else []) ≡ [] → b ≡ false
    go false disabled off e = refl
    go true false off e = absurd (not_empty kind.DisplayHelp (kind.InvalidSubcommand ∷ []) e)
    go true true off e = off

word_names_no_help : (s : Shape) (names : Names) (is_trailing : Bool) (waiting : Waiting) (position : ℕ) (word : Text) (h : Held) (name : Text) → s.disable_help_subcommand ≡ false
    → word_fault s names is_trailing waiting word h ≡ [] → named_by (word_met s.rules names is_trailing waiting position word h).1 ≡ Some name → bytes_eq name (codes "help") ≡ false
word_names_no_help s names true waiting position word h name enabled e named = absurd (none-some name named)
word_names_no_help s names false waiting position word h name enabled e named =
    let met : subcommand_met names waiting word ≡ Some name = sym (other_names s.rules (subcommand_met names waiting word) waiting position word h) ∙ named in
    help_fails s name word h enabled (subst (λ o. other_fault s o word h ≡ []) met e)

abbrev turn_kinds : Shape → Names → Walk → Text → Kinds
turn_kinds s names w word =
    let met = word_met s.rules names w.is_trailing w.waiting w.position word w.held in
    or_else (word_fault s names w.is_trailing w.waiting word w.held) (step_fault s w.position met.0 met.1)

turn_names_no_help : (s : Shape) (names : Names) (w : Walk) (word : Text) (q : Text × List Text) → s.disable_help_subcommand ≡ false → w.stopped ≡ None
    → turn_fault s names w word ≡ [] → (walked s.rules names w word).stopped ≡ Some q → bytes_eq q.0 (codes "help") ≡ false
unfolding walked
turn_names_no_help s names w word q enabled going e stops =
    let met = word_met s.rules names w.is_trailing w.waiting w.position word w.held in
    let kinds : turn_kinds s names w word ≡ [] = subst (λ (o : Option (Text × List Text)). (if is_some o then [] else turn_kinds s names w word) ≡ []) going e in
    let here : (after_step s.rules word w met.0 met.1).stopped ≡ Some q = sym (ap (λ o. (walked_from s.rules names o w word).stopped) going) ∙ stops in
    word_names_no_help s names w.is_trailing w.waiting w.position word w.held q.0 enabled (both _ _ kinds).0 (stop_is_named s.rules word w met.0 met.1 q going here)

-- the subcommand stays
still_stopped : (c : List Rule) (names : Names) (w : Walk) (word : Text) (q : Text × List Text) → w.stopped ≡ Some q → (walked c names w word).stopped ≡ Some (q.0, q.1 ++ word ∷ [])
unfolding walked
still_stopped c names w word q stopped = ap (λ o. (walked_from c names o w word).stopped) stopped

same_stop : (c : List Rule) (names : Names) (words : List Text) (w : Walk) (q p : Text × List Text) → w.stopped ≡ Some q
    → (fold (walked c names) w words).stopped ≡ Some p → q.0 ≡ p.0
same_stop c names [] w q p stopped ends = ap (λ o. option_map_or (λ r. r.0) o []) (sym stopped ∙ ends)
same_stop c names (word ∷ words) w q p stopped ends = same_stop c names words (walked c names w word) (q.0, q.1 ++ word ∷ []) p (still_stopped c names w word q stopped) ends

walk_names_no_help : (s : Shape) (names : Names) (words : List Text) (w : Walk) (p : Text × List Text) → s.disable_help_subcommand ≡ false → w.stopped ≡ None
    → walk_fault s names w words ≡ [] → (fold (walked s.rules names) w words).stopped ≡ Some p → bytes_eq p.0 (codes "help") ≡ false
unfolding walk_fault
walk_names_no_help s names [] w p enabled going e ends = absurd (none-some p (sym going ∙ ends))
walk_names_no_help s names (word ∷ words) w p enabled going e ends =
    go (walked s.rules names w word).stopped refl (λ next_going. walk_names_no_help s names words (walked s.rules names w word) p enabled next_going (both _ _ e).1 ends)
  where
    go : (o : Option (Text × List Text)) → (walked s.rules names w word).stopped ≡ o → ((walked s.rules names w word).stopped ≡ None → bytes_eq p.0 (codes "help") ≡ false)
        → bytes_eq p.0 (codes "help") ≡ false
    go None next_going later = later next_going
    go (Some q) stopped later = subst (λ t. bytes_eq t (codes "help") ≡ false) (same_stop s.rules names words (walked s.rules names w word) q p stopped ends)
        (turn_names_no_help s names w word q enabled going (both _ _ e).0 stopped)

-- ---- this command

abbrev whole : App
whole = built superc_app

abbrev stop_in : List Text → Option (Text × List Text)
stop_in words = (walk whole.top.rules (names_of whole) nothing_held words).stopped

required : (rows : List Row) (has : Bool) → check_fault whole.top rows has ≡ [] → has ≡ true
required rows true e = refl
required rows false e = absurd (not_empty kind.MissingSubcommand [] e)

-- the subcommands as they are built
abbrev files_built : Text → Shape
files_built name = built_leaf (inherited whole.top (file_app name).top)

abbrev project_built : Shape
project_built = built_leaf (inherited whole.top project_app.top)

abbrev conflicts_built : Shape
conflicts_built = built_leaf (inherited whole.top conflicts_app.top)

-- a subcommand that was entered and isn't `help`
record IsEntered (name : Text) (s : Shape) (p : Text × List Text) : Type 0 where
  named : name ≡ p.0
  rows : entered whole (Some p) ≡ Some (rows_at s p.1)
  kinds : entered_fault whole (Some p) ≡ level_fault s [] nothing_held p.1 false []

abbrev make_built : Shape
make_built = built_leaf (inherited whole.top make_app.top)

abbrev help_built : Shape
help_built = built_leaf help_shape

abbrev after_conflicts : List Shape
after_conflicts = make_built ∷ help_built ∷ []

abbrev after_project : List Shape
after_project = conflicts_built ∷ after_conflicts

abbrev after_parse : List Shape
after_parse = project_built ∷ after_project

abbrev after_tokens : List Shape
after_tokens = files_built (codes "parse") ∷ after_parse

built_subs : whole.subs ≡ files_built (codes "tokens") ∷ after_tokens
built_subs = refl

abbrev answers : Text × List Text → Shape → Bool
answers p s = answers_to p.0 (label_of s)

found_first : (test : Shape → Bool) (s : Shape) (rest : List Shape) → test s ≡ true → find test (s ∷ rest) ≡ Some s
found_first test s rest e = ap (λ b. cond b (Some s) (find test rest)) e

found_later : (test : Shape → Bool) (s : Shape) (rest : List Shape) → test s ≡ false → find test (s ∷ rest) ≡ find test rest
found_later test s rest e = ap (λ b. cond b (Some s) (find test rest)) e

entered_as : (name : Text) (s : Shape) (p : Text × List Text) → bytes_eq name p.0 ≡ true → find (answers p) whole.subs ≡ Some s → IsEntered name s p
entered_as name s p e found = record {
  named = (bytes_eq-Decides name p.0).0 e;
  rows = ap (option_map (λ s. rows_at s p.1)) found;
  kinds = ap (λ o. option_map_or (λ s. level_fault s [] nothing_held p.1 false []) o []) found;
}

abbrev IsEnteredCommand : Text × List Text → Type 0
IsEnteredCommand p = IsEntered (codes "tokens") (files_built (codes "tokens")) p ⊎ (IsEntered (codes "parse") (files_built (codes "parse")) p
    ⊎ (IsEntered (codes "project") project_built p ⊎ (IsEntered (codes "conflicts") conflicts_built p ⊎ IsEntered (codes "make") make_built p)))

-- a name that a shape without aliases answers to
named_so : (name : Text) (p : Text × List Text) → (bytes_eq name p.0 || false) ≡ true → bytes_eq name p.0 ≡ true
named_so name p e = sym (or-false (bytes_eq name p.0)) ∙ e

one_of_five : (p : Text × List Text) → bytes_eq p.0 (codes "help") ≡ false → is_some (entered whole (Some p)) ≡ true → IsEnteredCommand p
one_of_five p no_help is_entered =
    cases (answers p (files_built (codes "tokens"))) (answers p (files_built (codes "parse"))) (answers p project_built) (answers p conflicts_built) (answers p make_built) (answers p help_built) refl refl refl
    refl refl refl
  where
    no_tokens : answers p (files_built (codes "tokens")) ≡ false → find (answers p) whole.subs ≡ find (answers p) after_tokens
    no_tokens e = found_later (answers p) (files_built (codes "tokens")) after_tokens e

    no_parse : answers p (files_built (codes "parse")) ≡ false → find (answers p) after_tokens ≡ find (answers p) after_parse
    no_parse e = found_later (answers p) (files_built (codes "parse")) after_parse e

    no_project : answers p project_built ≡ false → find (answers p) after_parse ≡ find (answers p) after_project
    no_project e = found_later (answers p) project_built after_project e

    no_conflicts : answers p conflicts_built ≡ false → find (answers p) after_project ≡ find (answers p) after_conflicts
    no_conflicts e = found_later (answers p) conflicts_built after_conflicts e

    no_make : answers p make_built ≡ false → find (answers p) after_conflicts ≡ find (answers p) (help_built ∷ [])
    no_make e = found_later (answers p) make_built (help_built ∷ []) e

    cases : (a b c d m e : Bool) → answers p (files_built (codes "tokens")) ≡ a → answers p (files_built (codes "parse")) ≡ b → answers p project_built ≡ c → answers p conflicts_built ≡ d
        → answers p make_built ≡ m → answers p help_built ≡ e → IsEnteredCommand p
    cases true b c d m e ea eb ec ed em ee =
        inl (entered_as (codes "tokens") (files_built (codes "tokens")) p (named_so (codes "tokens") p ea) (found_first (answers p) (files_built (codes "tokens")) after_tokens ea))
    cases false true c d m e ea eb ec ed em ee = inr (inl (entered_as (codes "parse") (files_built (codes "parse")) p (named_so (codes "parse") p eb)
        (no_tokens ea ∙ found_first (answers p) (files_built (codes "parse")) after_parse eb)))
    cases false false true d m e ea eb ec ed em ee = inr (inr (inl (entered_as (codes "project") project_built p (named_so (codes "project") p ec)
        (no_tokens ea ∙ (no_parse eb ∙ found_first (answers p) project_built after_project ec)))))
    cases false false false true m e ea eb ec ed em ee = inr (inr (inr (inl (entered_as (codes "conflicts") conflicts_built p (named_so (codes "conflicts") p ed)
        (no_tokens ea ∙ (no_parse eb ∙ (no_project ec ∙ found_first (answers p) conflicts_built after_conflicts ed)))))))
    cases false false false false true e ea eb ec ed em ee = inr (inr (inr (inr (entered_as (codes "make") make_built p (named_so (codes "make") p em)
        (no_tokens ea ∙ (no_parse eb ∙ (no_project ec ∙ (no_conflicts ed ∙ found_first (answers p) make_built (help_built ∷ []) em))))))))
    cases false false false false false true ea eb ec ed em ee =
        let is_help : bytes_eq p.0 (codes "help") ≡ true =
        (bytes_eq-Decides p.0 (codes "help")).1 (sym ((bytes_eq-Decides (codes "help") p.0).0 (named_so (codes "help") p ee))) in
        absurd (both_ways (bytes_eq p.0 (codes "help")) no_help is_help)
    cases false false false false false false ea eb ec ed em ee =
        let nothing : find (answers p) whole.subs ≡ None = no_tokens ea ∙ (no_parse eb ∙ (no_project ec ∙ (no_conflicts ed ∙ (no_make em ∙ found_later (answers p) help_built [] ee)))) in
        absurd (both_ways (is_some (entered whole (Some p))) (ap (λ o. is_some (option_map (λ s. rows_at s p.1) o)) nothing) is_entered)

-- ---- what the words name

-- `space` and `file` take one value each, and `--help` always fails
abbrev one_value_rule : ℕ → Text → Rule
one_value_rule index id = with_index index (filled (required_rule id))

abbrev help_flag : Rule
help_flag = with_index 3 (filled help_rule)

takes_one : (index : ℕ) (id : Text) → IsUsable (one_value_rule index id)
takes_one index id again [] rows e full = absurd (not_empty kind.InvalidValue [] e)
takes_one index id again (v ∷ vs) rows e full = used_is_full id (reading_by (one_value_rule index id)) CommandLine v vs rows full

help_fails_always : IsUsable help_flag
help_fails_always again values rows e full = absurd (not_empty kind.DisplayHelp [] (both (range_kinds 0 0 (length values)) (kind.DisplayHelp ∷ []) e).1)

files_usable : (name : Text) → AllUsable (files_built name).rules
files_usable name test a found = go (test (one_value_rule 1 (codes "space"))) (test (one_value_rule 2 (codes "file"))) (test help_flag) found
  where
    go : (x y z : Bool) → cond x (Some (one_value_rule 1 (codes "space"))) (cond y (Some (one_value_rule 2 (codes "file"))) (cond z (Some help_flag) None)) ≡ Some a → IsUsable a
    go true y z e = subst IsUsable (ap (λ o. unwrap_or o help_flag) e) (takes_one 1 (codes "space"))
    go false true z e = subst IsUsable (ap (λ o. unwrap_or o help_flag) e) (takes_one 2 (codes "file"))
    go false false true e = subst IsUsable (ap (λ o. unwrap_or o help_flag) e) help_fails_always
    go false false false e = absurd (none-some a e)

abbrev several_rule : Rule
several_rule = with_index 3 (filled choices_rule)

takes_several_words : IsUsable several_rule
takes_several_words again [] rows e full = choices_are_full (reading_by several_rule) CommandLine [] rows full
takes_several_words again (v ∷ vs) rows e full = choices_are_full (reading_by several_rule) CommandLine (v ∷ vs) rows full

project_usable : AllUsable project_built.rules
project_usable test a found = go (test (one_value_rule 1 (codes "space"))) (test (one_value_rule 2 (codes "file"))) (test several_rule) (test help_flag) found
  where
    go : (x y z w : Bool)
        → cond x (Some (one_value_rule 1 (codes "space"))) (cond y (Some (one_value_rule 2 (codes "file"))) (cond z (Some several_rule) (cond w (Some help_flag) None))) ≡ Some a → IsUsable a
    go true y z w e = subst IsUsable (ap (λ o. unwrap_or o help_flag) e) (takes_one 1 (codes "space"))
    go false true z w e = subst IsUsable (ap (λ o. unwrap_or o help_flag) e) (takes_one 2 (codes "file"))
    go false false true w e = subst IsUsable (ap (λ o. unwrap_or o help_flag) e) takes_several_words
    go false false false true e = subst IsUsable (ap (λ o. unwrap_or o help_flag) e) help_fails_always
    go false false false false e = absurd (none-some a e)

-- rows of a command on files, which requires both
abbrev GivesBoth : Shape → Type 0
GivesBoth s = (rows : List Row) → check_fault s rows false ≡ [] → (is_given (codes "space") rows ≡ true) × (is_given (codes "file") rows ≡ true)

requires_both : (a b : Bool) → (if not a || (not b || false) then kind.MissingRequiredArgument ∷ [] else []) ≡ [] → (a ≡ true) × (b ≡ true)
requires_both true true e = (refl, refl)
requires_both false b e = absurd (not_empty kind.MissingRequiredArgument [] e)
requires_both true false e = absurd (not_empty kind.MissingRequiredArgument [] e)

files_given : (name : Text) → GivesBoth (files_built name)
files_given name rows e = requires_both (is_given (codes "space") rows) (is_given (codes "file") rows) e

project_given : GivesBoth project_built
project_given rows e = requires_both (is_given (codes "space") rows) (is_given (codes "file") rows) e

both_have : (s : Shape) → AllUsable s.rules → have_no_defaults s.rules ≡ true → GivesBoth s → (words : List Text) → level_fault s [] nothing_held words false [] ≡ []
    → (has_text (codes "space") (rows_after s.rules [] words) ≡ true) × (has_text (codes "file") (rows_after s.rules [] words) ≡ true)
both_have s usable bare gives words e = (text_of_given (codes "space") (finished s.rules end) refl full given.0, text_of_given (codes "file") (finished s.rules end) refl full given.1)
  where
    steps : IsFaultless s [] nothing_held words false []
    steps = level_steps s [] nothing_held words false [] e

    end : Held
    end = (walk s.rules [] nothing_held words).held

    given : (is_given (codes "space") (finished s.rules (walk s.rules [] nothing_held words).held) ≡ true)
        × (is_given (codes "file") (finished s.rules (walk s.rules [] nothing_held words).held) ≡ true)
    given = gives (finished s.rules (walk s.rules [] nothing_held words).held) steps.checks

    full : is_full (finished s.rules (walk s.rules [] nothing_held words).held) ≡ true
    full = finished_is_full s.rules usable s.args_override_self (walk s.rules [] nothing_held words).held bare steps.settles
        (walk_is_full s usable [] words (walk_from nothing_held) steps.walks refl)

entered_on_files : (name : Text) (p : Text × List Text) → entered_fault whole (Some p) ≡ [] → IsEntered name (files_built name) p
    → NamesOnFiles name (rows_at (files_built name) p.1)
entered_on_files name p e t =
    let have = both_have (files_built name) (files_usable name) refl (files_given name) p.1 (sym t.kinds ∙ e) in
    (refl, have.0, have.1)

make_usable : AllUsable make_built.rules
make_usable test a found = go (test (one_value_rule 1 (codes "items"))) (test help_flag) found
  where
    go : (x y : Bool) → cond x (Some (one_value_rule 1 (codes "items"))) (cond y (Some help_flag) None) ≡ Some a → IsUsable a
    go true y e = subst IsUsable (ap (λ o. unwrap_or o help_flag) e) (takes_one 1 (codes "items"))
    go false true e = subst IsUsable (ap (λ o. unwrap_or o help_flag) e) help_fails_always
    go false false e = absurd (none-some a e)

requires_items : (a : Bool) → (if not a || false then kind.MissingRequiredArgument ∷ [] else []) ≡ [] → a ≡ true
requires_items true e = refl
requires_items false e = absurd (not_empty kind.MissingRequiredArgument [] e)

makes : (words : List Text) → level_fault make_built [] nothing_held words false [] ≡ [] → has_text (codes "items") (rows_after make_built.rules [] words) ≡ true
makes words e =
    text_of_given (codes "items") (finished make_built.rules end) refl
    (finished_is_full make_built.rules make_usable make_built.args_override_self end refl steps.settles
    (walk_is_full make_built make_usable [] words (walk_from nothing_held) steps.walks refl))
    (requires_items (is_given (codes "items") (finished make_built.rules end)) steps.checks)
  where
    steps : IsFaultless make_built [] nothing_held words false []
    steps = level_steps make_built [] nothing_held words false [] e

    end : Held
    end = (walk make_built.rules [] nothing_held words).held

entered_command : (p : Text × List Text) → entered_fault whole (Some p) ≡ [] → IsEnteredCommand p → NamesCommand (entered whole (Some p))
entered_command p e (inl t) = subst NamesCommand (sym t.rows) (inl (entered_on_files (codes "tokens") p e t))
entered_command p e (inr (inl t)) = subst NamesCommand (sym t.rows) (inr (inl (entered_on_files (codes "parse") p e t)))
entered_command p e (inr (inr (inl t))) =
    let have = both_have project_built project_usable refl project_given p.1 (sym t.kinds ∙ e) in
    subst NamesCommand (sym t.rows) (inr (inr (inl (refl, have.0, have.1))))
entered_command p e (inr (inr (inr (inl t)))) = subst NamesCommand (sym t.rows) (inr (inr (inr (inl refl))))
entered_command p e (inr (inr (inr (inr t)))) = subst NamesCommand (sym t.rows) (inr (inr (inr (inr (refl, makes p.1 (sym t.kinds ∙ e))))))

faultless_words_name_a_command : (words : List Text) → fault_of superc_app words ≡ [] → NamesCommand (subcommand_of superc_app words)
faultless_words_name_a_command words e = go (stop_in (argument_words superc_app words)) refl steps.enters
    (required (finished whole.top.rules (walk whole.top.rules (names_of whole) nothing_held (argument_words superc_app words)).held)
    (is_some (entered whole (stop_in (argument_words superc_app words)))) steps.checks)
  where
    steps : IsFaultless whole.top (names_of whole) nothing_held (argument_words superc_app words) (is_some (entered whole (stop_in (argument_words superc_app words))))
        (entered_fault whole (stop_in (argument_words superc_app words)))
    steps = level_steps whole.top (names_of whole) nothing_held (argument_words superc_app words) (is_some (entered whole (stop_in (argument_words superc_app words))))
        (entered_fault whole (stop_in (argument_words superc_app words))) e

    go : (o : Option (Text × List Text)) → stop_in (argument_words superc_app words) ≡ o → entered_fault whole o ≡ [] → is_some (entered whole o) ≡ true → NamesCommand (entered whole o)
    go None stops below is_entered = absurd (both_ways false refl is_entered)
    go (Some p) stops below is_entered = entered_command p below
        (one_of_five p (walk_names_no_help whole.top (names_of whole) (argument_words superc_app words) (walk_from nothing_held) p refl refl steps.walks stops) is_entered)

-- what is asked for by a command that is named
asked_no_misuse : (asked : Asked) → Ok asked ≢ Err usage
asked_no_misuse asked e = cc

both_asked : (command : Text → Text → Asked) (space file : Option Text) → is_some space ≡ true → is_some file ≡ true → asked_with command space file ≢ Err usage
both_asked command (Some space) (Some file) p q = by (is_file_name file)
  where
    by : (b : Bool) → (if b then Ok (command space file) else Err bad_file) ≢ Err usage
    by true e = cc
    by false e = cc
both_asked command None file p q = absurd (false≢true p)
both_asked command (Some space) None p q = absurd (false≢true q)

make_asked : (word : Option Text) → is_some word ≡ true → asked_to_make word ≢ Err usage
make_asked (Some word) p = by (is_count word)
  where
    by : (b : Bool) → (if b then Ok (make (digits_value 10 word)) else Err bad_count) ≢ Err usage
    by true e = cc
    by false e = cc
make_asked None p = absurd (false≢true p)

named_is_asked : (found : Option (Text × List Row)) → NamesCommand found → asked_by found ≢ Err usage
named_is_asked None never = absurd never
named_is_asked (Some p) (inl t) = subst (λ name. asked_by (Some (name, p.1)) ≢ Err usage) (sym t.0)
    (both_asked tokens (first_of (codes "space") p.1) (first_of (codes "file") p.1) t.1 t.2)
named_is_asked (Some p) (inr (inl t)) = subst (λ name. asked_by (Some (name, p.1)) ≢ Err usage) (sym t.0)
    (both_asked parse (first_of (codes "space") p.1) (first_of (codes "file") p.1) t.1 t.2)
named_is_asked (Some p) (inr (inr (inl t))) = subst (λ name. asked_by (Some (name, p.1)) ≢ Err usage) (sym t.0)
    (both_asked (λ space file. project space file (choices_in p.1)) (first_of (codes "space") p.1) (first_of (codes "file") p.1) t.1 t.2)
named_is_asked (Some p) (inr (inr (inr (inl t)))) = subst (λ name. asked_by (Some (name, p.1)) ≢ Err usage) (sym t) (λ e. asked_no_misuse conflicts e)
named_is_asked (Some p) (inr (inr (inr (inr t)))) = subst (λ name. asked_by (Some (name, p.1)) ≢ Err usage) (sym t.0) (make_asked (first_of (codes "items") p.1) t.1)

pub taken_words_are_no_misuse : (words : List Text) → fault_of superc_app words ≡ [] → asked_of words ≢ Err usage
unfolding asked_of
taken_words_are_no_misuse words e = subst (λ kinds. asked_where kinds words ≢ Err usage) (sym e)
    (named_is_asked (subcommand_of superc_app words) (faultless_words_name_a_command words e))
