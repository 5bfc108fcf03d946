-- In a walk without a fault, each use of an argument that takes one value has a value.
use Rattle.std.proofs.Common.{◌≡◌, ◌∙◌, ◌||◌, ap, codes, subst, sym, refl, [], ◌∷◌, ◌++◌, ℕ, zero, suc, List, length, true, false, arith, ◌&&◌}
use Rattle.std.specs.Prelude.{Option, Some, None, if◌then◌else◌, Bool, is_some, fold, find, cond, slice_get, encode_utf8, drop, option_and_then}
use Rattle.std.specs.List.{list_all}
use Rattle.std.specs.Option.{option_map_or}
use Rattle.std.specs.Str.{bytes_eq, chars}
use Rattle.std.proofs.lemmas.Bool.{and_from, and_parts, both_ways, false≢true}
use Rattle.std.proofs.lemmas.List.Folds.{list_all-append}
use Rattle.std.proofs.lemmas.Slice.Eq.{bytes_eq-Decides}
use Rattle.clap.specs.Facts.{explicit_source}
use Rattle.clap.specs.Kinds.{Kinds, or_else}
use Rattle.clap.specs.Lexer.{long_of, short_of}
use Rattle.clap.specs.Faults.{bundle_fault, bundle_step_fault, flags_fault, flag_word_fault, long_fault, option_fault, other_fault, positional_fault, react_fault, settle_fault, short_fault, stray_fault, step_fault, turn_fault, use_fault, walk_fault, word_fault}
use Rattle.clap.specs.Simple.{Shape}
use Rattle.clap.specs.Takes.{is_given}
use Rattle.clap.specs.Walk.{Held, Names, Outcome, Row, Rule, Step, Text, Waiting, Walk, after_flag, after_step, arg_by_id, arg_by_index, arg_by_long, arg_by_short, at_row, attached_value, bundle, bundle_met, bundle_step, default_rows, done, finished, first_of, flag_met, has_row, is_empty, idle, is_pending, long_met, long_or_other, more_values, next, option, option_met, option_word, plain, plain_word, positional, pushed, reading_by, reacted, refused, settled, settled_rows, short_met, short_or_plain, subcommand, subcommand_met, subcommand_or_other, takes_several, takes_values, to_positional, trailing, used, used_by_id, value, waits, walked, walked_from, with_default, with_values, without, word_met}
use Rattle.clap.specs.declared.parser.matches.ValueSource.{ValueSource}
use Rattle.clap.specs.declared.builder.value_parser.Reading.{Reading}
use Rattle.clap.specs.declared.error.ErrorKind.TheVariants as kind
use Rattle.sc_args.proofs.Steps.{both}

-- each row has a value, but for that of the choices, which may have none
abbrev pub is_full_row : Row → Bool
is_full_row r = bytes_eq r.id (codes "choices") || is_some (slice_get r.values 0)

abbrev pub is_full : List Row → Bool
is_full = list_all is_full_row

full_at_row : (id : Text) (change : Row → List Row) (missing rows : List Row) → ((r : Row) → is_full_row r ≡ true → is_full (change r) ≡ true)
    → is_full missing ≡ true → is_full rows ≡ true → is_full (at_row id change missing rows) ≡ true
full_at_row id change missing [] keeps m e = m
full_at_row id change missing (r ∷ rs) keeps m e = go (bytes_eq r.id id) (full_at_row id change missing rs keeps m (and_parts (is_full_row r) (is_full rs) e).1)
  where
    parts : (is_full_row r ≡ true) × (is_full rs ≡ true)
    parts = and_parts (is_full_row r) (is_full rs) e

    go : (b : Bool) → is_full (at_row id change missing rs) ≡ true → is_full (if b then change r ++ rs else r ∷ at_row id change missing rs) ≡ true
    go true later = list_all-append is_full_row (change r) rs ∙ and_from (is_full (change r)) (is_full rs) (keeps r parts.0) parts.1
    go false later = and_from (is_full_row r) (is_full (at_row id change missing rs)) parts.0 later

more_is_full : (s : ValueSource) (values : List Text) (r : Row) → is_full_row r ≡ true → is_full (more_values s values r) ≡ true
more_is_full s values r e = go (bytes_eq r.id (codes "choices")) r.values e
  where
    go : (b : Bool) (vs : List Text) → (b || is_some (slice_get vs 0)) ≡ true → ((b || is_some (slice_get (vs ++ values) 0)) && true) ≡ true
    go true vs e = refl
    go false [] e = absurd (false≢true e)
    go false (v ∷ vs) e = refl

-- one use with a value
pub used_is_full : (id : Text) (how : Reading) (s : ValueSource) (v : Text) (vs : List Text) (rows : List Row) → is_full rows ≡ true
    → is_full (with_values id how s (v ∷ vs) (without id rows)) ≡ true
used_is_full id how s v vs rows e =
    full_at_row id (more_values s (v ∷ vs)) _ (without id rows) (λ r h. more_is_full s (v ∷ vs) r h) (first (bytes_eq id (codes "choices")))
    (full_at_row id (λ _. []) [] rows (λ _ _. refl) refl e)
  where
    first : (b : Bool) → ((b || true) && true) ≡ true
    first true = refl
    first false = refl

-- more words that choose
pub choices_are_full : (how : Reading) (s : ValueSource) (values : List Text) (rows : List Row) → is_full rows ≡ true → is_full (with_values (codes "choices") how s values rows) ≡ true
choices_are_full how s values rows e = full_at_row (codes "choices") (more_values s values) _ rows (λ r h. more_is_full s values r h) refl e

-- a use that doesn't fail leaves each row with a value
abbrev pub IsUsable : Rule → Type 0
IsUsable a = (again : Bool) (values : List Text) (rows : List Row) → use_fault again a values rows ≡ [] → is_full rows ≡ true → is_full (used a values rows) ≡ true

abbrev pub AllUsable : List Rule → Type 0
AllUsable c = (test : Rule → Bool) (a : Rule) → find test c ≡ Some a → IsUsable a

settled_is_full : (c : List Rule) → AllUsable c → (again : Bool) (h : Held) → settle_fault c again h ≡ [] → is_full h.rows ≡ true → is_full (settled c h).rows ≡ true
settled_is_full c usable again h e f = go h.pending e
  where
    by_id : (o : Option Rule) (values : List Text) → ((a : Rule) → o ≡ Some a → IsUsable a) → option_map_or (λ a. use_fault again a values h.rows) o [] ≡ []
        → is_full (used_by_id o values h.rows) ≡ true
    by_id None values ok e = f
    by_id (Some a) values ok e = ok a refl again values h.rows e f

    go : (o : Option (Text × List Text)) → option_map_or (λ p. option_map_or (λ a. use_fault again a p.1 h.rows) (arg_by_id c p.0) []) o [] ≡ [] → is_full (settled_rows c o h.rows) ≡ true
    go None e = f
    go (Some p) e = by_id (arg_by_id c p.0) p.1 (λ a is. usable _ a is) e

reacted_is_full : (c : List Rule) → AllUsable c → (again : Bool) (a : Rule) → IsUsable a → (values : List Text) (h : Held) → react_fault c again a values h ≡ [] → is_full h.rows ≡ true
    → is_full (reacted c a values h).rows ≡ true
reacted_is_full c usable again a ok values h e f =
    let parts = both (settle_fault c again h) (use_fault again a values (settled c h).rows) e in
    ok again values (settled c h).rows parts.1 (settled_is_full c usable again h parts.0 f)

option_is_full : (c : List Rule) → AllUsable c → (again : Bool) (a : Rule) → IsUsable a → (v : Option Text) (h : Held) → option_fault c again a v h ≡ [] → is_full h.rows ≡ true
    → is_full (option_met c a v h).0.rows ≡ true
option_is_full c usable again a ok (Some v) h e f = reacted_is_full c usable again a ok (v ∷ []) h e f
option_is_full c usable again a ok None h e f = settled_is_full c usable again h e f

long_is_full : (c : List Rule) → AllUsable c → (again : Bool) (o : Option Rule) → ((a : Rule) → o ≡ Some a → IsUsable a) → (v : Option Text) (h : Held)
    → long_fault c again o v h ≡ [] → is_full h.rows ≡ true → is_full (long_met c o v h).0.rows ≡ true
long_is_full c usable again None ok v h e f = f
long_is_full c usable again (Some a) ok v h e f = go (takes_values a) v e
  where
    go : (b : Bool) (v : Option Text) → (if b then option_fault c again a v h else (if is_some v then kind.TooManyValues ∷ [] else react_fault c again a [] h)) ≡ []
        → is_full (if b then option_met c a v h else flag_met c a v h).0.rows ≡ true
    go true v e = option_is_full c usable again a (ok a refl) v h e f
    go false (Some v) e = f
    go false None e = reacted_is_full c usable again a (ok a refl) [] h e f

short_is_full : (c : List Rule) → AllUsable c → (again : Bool) (o : Option Rule) → ((a : Rule) → o ≡ Some a → IsUsable a) → (rest : Text) (h : Held)
    (next_fault : Held → Kinds) (next_met : Held → Held × Outcome) → ((g : Held) → next_fault g ≡ [] → is_full g.rows ≡ true → is_full (next_met g).0.rows ≡ true)
    → short_fault c again o rest h next_fault ≡ [] → is_full h.rows ≡ true → is_full (short_met c o rest h next_met).0.rows ≡ true
short_is_full c usable again None ok rest h next_fault next_met later e f = f
short_is_full c usable again (Some a) ok rest h next_fault next_met later e f = go (takes_values a) e
  where
    go : (b : Bool) → (if b then option_fault c again a (attached_value rest) h else or_else (react_fault c again a [] h) (next_fault (reacted c a [] h))) ≡ []
        → is_full (if b then option_met c a (attached_value rest) h else next_met (reacted c a [] h)).0.rows ≡ true
    go true e = option_is_full c usable again a (ok a refl) (attached_value rest) h e f
    go false e =
        let parts = both (react_fault c again a [] h) (next_fault (reacted c a [] h)) e in
        later (reacted c a [] h) parts.1 (reacted_is_full c usable again a (ok a refl) [] h parts.0 f)

step_is_full : (c : List Rule) → AllUsable c → (again : Bool) (x : Option ℕ) (flags : Text) (skip : ℕ) (so_far : Outcome) (h : Held)
    (next_fault : Text → ℕ → Held → Kinds) (next_met : Text → ℕ → Outcome → Held → Held × Outcome)
    → ((flags : Text) (skip : ℕ) (so_far : Outcome) (g : Held) → next_fault flags skip g ≡ [] → is_full g.rows ≡ true → is_full (next_met flags skip so_far g).0.rows ≡ true)
    → bundle_step_fault c again x flags skip h next_fault ≡ [] → is_full h.rows ≡ true → is_full (bundle_step c x flags skip so_far h next_met).0.rows ≡ true
step_is_full c usable again None flags skip so_far h next_fault next_met later e f = f
step_is_full c usable again (Some x) flags zero so_far h next_fault next_met later e f =
    let rest = drop (length (encode_utf8 x)) flags in
    short_is_full c usable again (arg_by_short c x) (λ a is. usable _ a is) rest h (next_fault rest 0) (next_met rest 0 done) (λ g. later rest 0 done g) e f
step_is_full c usable again (Some x) flags (suc skip) so_far h next_fault next_met later e f = later (drop (length (encode_utf8 x)) flags) skip so_far h e f

bundle_is_full : (c : List Rule) → AllUsable c → (again : Bool) (k : ℕ) (flags : Text) (skip : ℕ) (so_far : Outcome) (h : Held)
    → flags_fault c again k flags skip h ≡ [] → is_full h.rows ≡ true → is_full (bundle_met c k flags skip so_far h).0.rows ≡ true
unfolding flags_fault bundle_met
bundle_is_full c usable again zero flags skip so_far h e f = f
bundle_is_full c usable again (suc k) flags skip so_far h e f =
    step_is_full c usable again (slice_get (chars flags) 0) flags skip so_far h (flags_fault c again k) (bundle_met c k) (bundle_is_full c usable again k) e f

-- ---- a word

option_word_rows : (o : Option Rule) (id word : Text) (h : Held) → (option_word o id word h).0.rows ≡ h.rows
option_word_rows None id word h = refl
option_word_rows (Some a) id word h = refl

plain_word_rows : (c : List Rule) (waiting : Waiting) (word : Text) (h : Held) → (plain_word c waiting word h).0.rows ≡ h.rows
plain_word_rows c idle word h = refl
plain_word_rows c (option id) word h = option_word_rows (arg_by_id c id) id word h
plain_word_rows c positional word h = refl

after_flag_rows : (c : List Rule) (waiting : Waiting) (word : Text) (h : Held) (o : Outcome) → (after_flag c waiting word h o).0.rows ≡ h.rows
after_flag_rows c waiting word h done = refl
after_flag_rows c waiting word h (waits id) = refl
after_flag_rows c waiting word h plain = plain_word_rows c waiting word h
after_flag_rows c waiting word h refused = plain_word_rows c waiting word h

full_as : (xs ys : List Row) → xs ≡ ys → is_full ys ≡ true → is_full xs ≡ true
full_as xs ys e f = ap is_full e ∙ f

flag_is_full : (c : List Rule) → AllUsable c → (again : Bool) (waiting : Waiting) (word : Text) (p : Option (Text × Option Text)) (h : Held)
    → flag_word_fault c again p word h ≡ [] → is_full h.rows ≡ true → is_full (long_or_other c waiting word p h).0.rows ≡ true
flag_is_full c usable again waiting word (Some p) h e f =
    let met = long_met c (arg_by_long c p.0) p.1 h in
    full_as _ met.0.rows (after_flag_rows c waiting word met.0 met.1) (long_is_full c usable again (arg_by_long c p.0) (λ a is. usable _ a is) p.1 h e f)
flag_is_full c usable again waiting word None h e f = go (short_of word) e
  where
    go : (o : Option Text) → option_map_or (λ flags. bundle_fault c again flags h) o [] ≡ [] → is_full (short_or_plain c waiting word o h).0.rows ≡ true
    go None e = full_as _ h.rows (plain_word_rows c waiting word h) f
    go (Some flags) e =
        let met = bundle c flags h in
        full_as _ met.0.rows (after_flag_rows c waiting word met.0 met.1)
        (bundle_is_full c usable again (length flags) flags h.skip plain (record h { skip = 0 }) e f)

word_is_full : (s : Shape) → AllUsable s.rules → (names : Names) (is_trailing : Bool) (waiting : Waiting) (position : ℕ) (word : Text) (h : Held)
    → word_fault s names is_trailing waiting word h ≡ [] → is_full h.rows ≡ true → is_full (word_met s.rules names is_trailing waiting position word h).0.rows ≡ true
word_is_full s usable names true waiting position word h e f = f
word_is_full s usable names false waiting position word h e f = go (subcommand_met names waiting word) e
  where
    dashes : (b : Bool) → (if b then [] else flag_word_fault s.rules s.args_override_self (long_of word) word h) ≡ []
        → is_full (if b then (h, trailing position) else long_or_other s.rules waiting word (long_of word) h).0.rows ≡ true
    dashes true e = f
    dashes false e = flag_is_full s.rules usable s.args_override_self waiting word (long_of word) h e f

    go : (o : Option Text) → other_fault s o word h ≡ [] → is_full (subcommand_or_other s.rules o waiting position word h).0.rows ≡ true
    go (Some name) e = f
    go None e = dashes (bytes_eq word (45 ∷ 45 ∷ [])) e

positional_rows : (c : List Rule) → AllUsable c → (again : Bool) (o : Option Rule) (word : Text) (w : Walk) (h : Held)
    → is_full h.rows ≡ true → ((a : Rule) → o ≡ Some a → positional_fault c again a h ≡ []) → is_full (to_positional c o word w h).held.rows ≡ true
positional_rows c usable again None word w h f ok = f
positional_rows c usable again (Some a) word w h f ok = go (is_pending a h.pending && takes_several a) (ok a refl)
  where
    go : (b : Bool) → (if b then [] else settle_fault c again h) ≡ [] → is_full (pushed a.id word (if b then h else settled c h)).rows ≡ true
    go true e = f
    go false e = settled_is_full c usable again h e f

after_step_is_full : (s : Shape) → AllUsable s.rules → (word : Text) (w : Walk) (h : Held) (step : Step) → step_fault s w.position h step ≡ [] → is_full h.rows ≡ true
    → is_full (after_step s.rules word w h step).held.rows ≡ true
after_step_is_full s usable word w h (next waiting) e f = f
after_step_is_full s usable word w h (trailing position) e f = f
after_step_is_full s usable word w h (subcommand name) e f = f
after_step_is_full s usable word w h value e f = positional_rows s.rules usable s.args_override_self (arg_by_index s.rules w.position) word w h f
    (λ a is. ap (λ o. option_map_or (λ a. positional_fault s.rules s.args_override_self a h) o (stray_fault s)) (sym is) ∙ e)

walked_is_full : (s : Shape) → AllUsable s.rules → (names : Names) (w : Walk) (word : Text) → turn_fault s names w word ≡ [] → is_full w.held.rows ≡ true
    → is_full (walked s.rules names w word).held.rows ≡ true
unfolding walked
walked_is_full s usable names w word e f = go w.stopped e
  where
    go : (o : Option (Text × List Text))
        → (if is_some o then [] else or_else (word_fault s names w.is_trailing w.waiting word w.held)
        (step_fault s w.position (word_met s.rules names w.is_trailing w.waiting w.position word w.held).0 (word_met s.rules names w.is_trailing w.waiting w.position word w.held).1)) ≡ []
        → is_full (walked_from s.rules names o w word).held.rows ≡ true
    go (Some p) e = f
    go None e =
        let met = word_met s.rules names w.is_trailing w.waiting w.position word w.held in
        let parts = both (word_fault s names w.is_trailing w.waiting word w.held) (step_fault s w.position met.0 met.1) e in
        after_step_is_full s usable word w met.0 met.1 parts.1 (word_is_full s usable names w.is_trailing w.waiting w.position word w.held parts.0 f)

pub walk_is_full : (s : Shape) → AllUsable s.rules → (names : Names) (words : List Text) (w : Walk) → walk_fault s names w words ≡ [] → is_full w.held.rows ≡ true
    → is_full (fold (walked s.rules names) w words).held.rows ≡ true
unfolding walk_fault
walk_is_full s usable names [] w e f = f
walk_is_full s usable names (word ∷ words) w e f =
    let parts = both (turn_fault s names w word) (walk_fault s names (walked s.rules names w word) words) e in
    walk_is_full s usable names words (walked s.rules names w word) parts.1 (walked_is_full s usable names w word parts.0 f)

-- no argument has a default
abbrev pub have_no_defaults : List Rule → Bool
have_no_defaults = list_all (λ a. is_empty a.defaults)

cons_not_empty : (d : Text) (ds : List Text) → is_empty (d ∷ ds) ≡ false
cons_not_empty d ds = grind arith

defaulted_rows : (rows : List Row) (a : Rule) → is_empty a.defaults ≡ true → with_default rows a ≡ rows
defaulted_rows rows a none = go (has_row a.id rows) a.defaults none
  where
    go : (b : Bool) (ds : List Text) → is_empty ds ≡ true → (if b then rows else default_rows a.id (reading_by a) ds rows) ≡ rows
    go true ds none = refl
    go false [] none = refl
    go false (d ∷ ds) none = absurd (false≢true (sym (cons_not_empty d ds) ∙ none))

defaults_keep_rows : (c : List Rule) (rows : List Row) → have_no_defaults c ≡ true → fold with_default rows c ≡ rows
defaults_keep_rows [] rows none = refl
defaults_keep_rows (a ∷ c) rows none =
    let parts = and_parts (is_empty a.defaults) (have_no_defaults c) none in
    ap (λ xs. fold with_default xs c) (defaulted_rows rows a parts.0) ∙ defaults_keep_rows c rows parts.1

pub finished_is_full : (c : List Rule) → AllUsable c → (again : Bool) (h : Held) → have_no_defaults c ≡ true → settle_fault c again h ≡ [] → is_full h.rows ≡ true
    → is_full (finished c h) ≡ true
finished_is_full c usable again h none e f = full_as (finished c h) (settled c h).rows (defaults_keep_rows c (settled c h).rows none) (settled_is_full c usable again h e f)

-- an argument but the choices that is given in such rows has a text
pub text_of_given : (id : Text) (rows : List Row) → bytes_eq id (codes "choices") ≡ false → is_full rows ≡ true → is_given id rows ≡ true → is_some (first_of id rows) ≡ true
text_of_given id [] other f given = given
text_of_given id (r ∷ rs) other f given = go (bytes_eq r.id id) refl (text_of_given id rs other (and_parts (is_full_row r) (is_full rs) f).1) given
  where
    valued : (b : Bool) → b ≡ false → (b || is_some (slice_get r.values 0)) ≡ true → is_some (slice_get r.values 0) ≡ true
    valued false is e = e
    valued true is e = absurd (both_ways true is refl)

    go : (b : Bool) → bytes_eq r.id id ≡ b → (is_given id rs ≡ true → is_some (first_of id rs) ≡ true)
        → option_map_or (λ r. explicit_source r.source) (cond b (Some r) (find (λ r. bytes_eq r.id id) rs)) false ≡ true
        → is_some (option_and_then (λ r. slice_get r.values 0) (cond b (Some r) (find (λ r. bytes_eq r.id id) rs))) ≡ true
    go true same later given =
        valued (bytes_eq r.id (codes "choices")) (subst (λ t. bytes_eq t (codes "choices") ≡ false) (sym ((bytes_eq-Decides r.id id).0 same)) other) (and_parts (is_full_row r) (is_full rs) f).0
    go false same later given = later given
