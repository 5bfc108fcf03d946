-- What comes next at a configuration, and what the tables say of it.
use Rattle.std.proofs.Common.{◌≡◌, ℕ, zero, suc, ◌<◌, ◌≤◌, ◌+◌, nat_lt, Bool, true, false, List, [], ◌∷◌, length, map, drop, get_or, slice_get, option_map, option_and_then, Option, Some, None, Err, refl, sym, ap, ◌∙◌, subst, ◌⊎◌, inl, inr, arith, if◌then◌else◌}
use Rattle.std.proofs.lemmas.List.{length-map}
use Rattle.std.proofs.lemmas.Bool.{cases_lt, lt-ltb, ltb-true, false_from_ne_true}
use Rattle.std.proofs.lemmas.Option.{slice_get-map, slice_get_within, slice_get_past, slice_get-get_or, unwrap_or-slice_get, get_or_from_slice_get, same_Some}
use Rattle.c11_parsing.specs.Classes.{Input, project, left_from}
use Rattle.c11_parsing.specs.Core as core
use Rattle.c11_parsing.specs.Core.{between, at, named, Has, IsPossible, frames, top_of, index_of, plain_phase, run_of, tokens_from, terminal_at, action_at}
use Rattle.c11_parsing.specs.LR as lr
use Rattle.c11_parsing.specs.LR.{Run, Point, answered, refused, looking, classified, next_terminal, next_place, step, looked, acted}
use Rattle.c11_parsing.specs.Parser.{Parser}
use Rattle.c11_parsing.specs.Trees.{Condition, Tree}
use Rattle.lr_tables.specs.declared.grammar.Terminal.{Terminal}
use Rattle.sc_base.specs.declared.id.Cond.{Cond}
use Rattle.sc_base.specs.declared.place.Place as declared
use Rattle.sc_base.specs.declared.token.Token as base
use Rattle.sc_base.specs.Seen.{IsHeld, seen, seen_place, text_at}
use Rattle.sc_fork.specs.declared.piece.Answer.TheVariants.{Refused}
use Rattle.sc_fork.specs.declared.source.Source.{Source}
use Rattle.sc_fork.specs.Seen.{IsInput, IsNext, next_element, next_end, next_kind, is_fault, IsOver, terminal_in, action_in, place_in, place_of, action_by}
use Rattle.sc_lalr.specs.Tables.{tables_of}
use Rattle.sc_merge.specs.declared.subparser.Subparser.{Subparser}
use Rattle.sc_model.specs.declared.cause.Cause.{Cause}
use Rattle.sc_model.specs.declared.cause.Cause.TheVariants.{BadToken}
use Rattle.sc_model.specs.Fault.{fault_at}
use Rattle.sc_model.specs.Sets.{IsCond}
use Rattle.sc_model.specs.Token.{Token}
use Rattle.sc_stack.specs.Entries.{Entry, state_of, states_of}
use Rattle.sc_tree.specs.Reads.{Tables, IsTokenAt}

-- ---- lists

pub drop-at : {A : Type 0} (xs : List A) (i : ℕ) (x : A) → slice_get xs i ≡ Some x → drop i xs ≡ x ∷ drop (i + 1) xs
drop-at [] i x is = absurd (cc)
drop-at (y ∷ xs) zero x is = ap (λ z. z ∷ xs) (same_Some y x is)
drop-at (y ∷ xs) (suc i) x is = drop-at xs i x is ∙ ap (λ n. x ∷ drop n (y ∷ xs)) (let e : suc (i + 1) ≡ suc i + 1 = omega arith in e)

drop-whole : {A : Type 0} (xs : List A) → drop (length xs) xs ≡ []
drop-whole [] = refl
drop-whole (x ∷ xs) = drop-whole xs

-- what comes next of a list, where the end has this value
abbrev pub next_of : {A : Type 0} → Option ℕ → (A → Option ℕ) → List A → Option ℕ
next_of last f [] = last
next_of last f (x ∷ xs) = f x

abbrev pub listed : List (Option Terminal) → ℕ → Option ℕ
listed ts j = option_map (λ (x : Terminal). x.0) (option_and_then (λ (x : Option Terminal). x) (slice_get ts j))

pub listed-inside : {A : Type 0} (last : Option ℕ) (f : A → Option ℕ) (ts : List (Option Terminal)) (xs : List A) (j : ℕ)
    → map (option_map (λ (x : Terminal). x.0)) ts ≡ map f xs → j < length ts → next_of last f (drop j xs) ≡ listed ts j
listed-inside last f [] xs j same below = absurd (omega (arith, below))
listed-inside last f (t ∷ ts) [] j same below = absurd (cc)
listed-inside last f (None ∷ ts) (x ∷ xs) zero same below = let e : None ≡ f x = cc in sym e
listed-inside last f (Some t ∷ ts) (x ∷ xs) zero same below = let e : Some t.0 ≡ f x = cc in sym e
listed-inside last f (t ∷ ts) (x ∷ xs) (suc j) same below =
    let e : map (option_map (λ (x : Terminal). x.0)) ts ≡ map f xs = cc in listed-inside last f ts xs j e (omega (arith, below))

listed-outside : {A : Type 0} (last : Option ℕ) (f : A → Option ℕ) (xs : List A) (j : ℕ) → length xs ≤ j → next_of last f (drop j xs) ≡ last
listed-outside last f [] zero past = refl
listed-outside last f [] (suc j) past = refl
listed-outside last f (x ∷ xs) zero past = absurd (omega (arith, past))
listed-outside last f (x ∷ xs) (suc j) past = listed-outside last f xs j (omega (arith, past))

pub found-within : {A : Type 0} (xs : List A) (i : ℕ) → i < length xs → (x : A) × (slice_get xs i ≡ Some x)
found-within [] i within = absurd (omega (arith, within))
found-within (x ∷ xs) zero within = (x, refl)
found-within (x ∷ xs) (suc i) within = found-within xs i (omega (arith, within))

text-found : (texts : List (List ℕ)) (id : ℕ) → id < length texts → slice_get texts id ≡ Some (text_at texts id)
text-found texts id within = slice_get-get_or texts id [] within ∙ ap Some (sym (unwrap_or-slice_get texts id []))

pub slice_get-past-end : {A : Type 0} (xs : List A) (j : ℕ) → slice_get xs j ≡ None → length xs ≤ j
slice_get-past-end [] j none = omega arith
slice_get-past-end (x ∷ xs) zero none = absurd (cc)
slice_get-past-end (x ∷ xs) (suc j) none = let h = slice_get-past-end xs j none in omega (arith, h)

not-below : (j n : ℕ) → n ≤ j → nat_lt j n ≡ false
not-below j n past = false_from_ne_true (nat_lt j n) (λ e. absurd (omega (arith, past, ltb-true j n e)))

next-listed : (m : Parser) (items : List (Condition × Token)) → next_terminal m (map (λ (item : Condition × Token). item.1) items) ≡ next_of (Some m.end) (λ (item : Condition × Token). m.terminal_of item.1) items
next-listed m [] = refl
next-listed m (item ∷ items) = refl

-- ---- the tokens that are left

project-next : (c : List ℕ) (item : Condition × Token) (items : List (Condition × Token)) → item.0 c ≡ true → project c (item ∷ items) ≡ item.1 ∷ project c items
project-next c item items has = ap (λ b. if b then item.1 ∷ project c items else project c items) has

-- where the element comes next, its token does
pub left-next : (input : Input) (i : ℕ) (item : Condition × Token) (c : List ℕ) → slice_get input.items i ≡ Some item → item.0 c ≡ true
    → left_from input i c ≡ item.1 ∷ left_from input (i + 1) c
left-next input i item c is has = ap (project c) (drop-at input.items i item is) ∙ project-next c item (drop (i + 1) input.items) has

pub left-end : (input : Input) (c : List ℕ) → left_from input (length input.items) c ≡ []
left-end input c = ap (project c) (drop-whole input.items)

-- ---- stacks

pub top-frames : (states : List ℕ) (trees : List (Option Tree)) → lr.top (frames states trees) ≡ top_of states
top-frames [] trees = refl
top-frames (state ∷ states) [] = refl
top-frames (state ∷ states) (tree ∷ trees) = refl

pub top-states : (stack : List Entry) → top_of (states_of stack) ≡ state_of stack
top-states [] = refl
top-states (entry ∷ stack) = refl

-- the name of an element that came next, where its kind comes next
pub keeps-element : (input : Input) (c : List ℕ) (j : ℕ) → j < length input.items → IsNext input c (at j) → IsNext input c (named j)
keeps-element input c _ within (next_element j item has holds) = next_kind j item has holds
keeps-element input c _ within next_end = absurd (omega (arith, within))

-- ---- steps

-- the subparser at a configuration, as it looks at an element
abbrev pub looking_run : Input → core.Subparser → ℕ → List ℕ → Run
looking_run input t j c = record { stack = frames t.states (t.trees c); levels = t.levels c; left = left_from input j c; phase = looking }

-- and as it waits for the kind of a name
abbrev pub named_run : Input → core.Subparser → ℕ → List ℕ → Run
named_run input t j c = record { stack = frames t.states (t.trees c); levels = t.levels c; left = left_from input j c; phase = lr.named }

abbrev run_in : Input → core.Subparser → List ℕ → core.Phase → Run
run_in input t c phase = record { stack = frames t.states (t.trees c); levels = t.levels c; left = left_from input (index_of phase) c; phase = plain_phase phase }

pub step-looking : (input : Input) (t : core.Subparser) (j : ℕ) (c : List ℕ) → t.phase ≡ at j
    → step input.parser input.end (run_of input t c) ≡ looked input.parser input.end (looking_run input t j c) (next_terminal input.parser (left_from input j c))
step-looking input t j c phase = ap (λ p. step input.parser input.end (run_in input t c p)) phase

pub step-named : (input : Input) (t : core.Subparser) (j : ℕ) (c : List ℕ) → t.phase ≡ named j
    → step input.parser input.end (run_of input t c) ≡ classified input.parser input.end (named_run input t j c) (left_from input j c)
step-named input t j c phase = ap (λ p. step input.parser input.end (run_in input t c p)) phase

-- ---- the source is what is parsed

module _ (w : Tables) (source : Source) (input : Input) (is : IsInput w source input) where
  pub same-length : length input.items ≡ length source.list.now
  same-length =
      sym (length-map input.items (λ (item : Condition × Token). item.1)) ∙ ap length is.tokens
      ∙ length-map source.list.now (λ (item : Cond × base.Token). seen w.names w.files item.1)

  pub as-many-terminals : length source.terminals.items ≡ length input.items
  as-many-terminals =
      sym (length-map source.terminals.items (option_map (λ (x : Terminal). x.0))) ∙ ap length is.terminals
      ∙ length-map input.items (λ (item : Condition × Token). input.parser.terminal_of item.1)

  -- the element's token is that of the source's
  pub token-seen : (j : ℕ) (item : Condition × Token) (own : Cond × base.Token) → slice_get input.items j ≡ Some item → slice_get source.list.now j ≡ Some own
      → item.1 ≡ seen w.names w.files own.1
  token-seen j item own here there =
      same_Some _ _
      (sym (slice_get-map (λ (i : Condition × Token). i.1) input.items j ∙ ap (option_map (λ (i : Condition × Token). i.1)) here)
      ∙ ap (λ ts. slice_get ts j) is.tokens
      ∙ slice_get-map (λ (i : Cond × base.Token). seen w.names w.files i.1) source.list.now j
      ∙ ap (option_map (λ (i : Cond × base.Token). seen w.names w.files i.1)) there)

  pub end-is : input.parser.end ≡ 95
  end-is = ap (λ (m : Parser). m.end) is.parser

  pub name-is : input.parser.name ≡ 0
  name-is = ap (λ (m : Parser). m.name) is.parser

  pub action-is : (state x : ℕ) → input.parser.tables.action state x ≡ (tables_of is.states source.tables.now).action state x
  action-is state x = ap (λ (m : Parser). m.tables.action state x) is.parser

  -- the terminal of the element, or the end's
  pub terminal-same : (j : ℕ) → terminal_at input j ≡ terminal_in source j
  terminal-same j = next-listed input.parser (drop j input.items) ∙ by (cases_lt j (length source.terminals.items))
    where
      first : Condition × Token → Option ℕ
      first item = input.parser.terminal_of item.1

      count : ℕ
      count = length source.terminals.items

      pick : Bool → Option ℕ
      pick b = if b then listed source.terminals.items j else Some 95

      by : (j < count) ⊎ (count ≤ j) → next_of (Some input.parser.end) first (drop j input.items) ≡ pick (nat_lt j count)
      by (inl within) = listed-inside (Some input.parser.end) first source.terminals.items input.items j is.terminals within ∙ sym (ap pick (lt-ltb j count within))
      by (inr past) =
          listed-outside (Some input.parser.end) first input.items j (omega (arith, past, as-many-terminals)) ∙ ap Some end-is
          ∙ sym (ap pick (not-below j count past))

  -- what the tables say of the subparser is what they say of what it is seen as
  pub action-same : (s : Subparser) (t : core.Subparser) (j : ℕ) → t.states ≡ states_of s.stack → action_at input t j ≡ action_in source s j
  action-same s t j states =
      ap (λ ss. core.action_by input (top_of ss) (terminal_at input j)) states
      ∙ ap (λ n. core.action_by input n (terminal_at input j)) (top-states s.stack)
      ∙ ap (core.action_by input (state_of s.stack)) (terminal-same j)
      ∙ by (terminal_in source j)
    where
      by : (x : Option ℕ) → core.action_by input (state_of s.stack) x ≡ action_by source.tables.now (state_of s.stack) x
      by None = refl
      by (Some x) = action-is (state_of s.stack) x

  -- ---- at a configuration for which the element, or the end, comes next

  -- the tokens that are left begin with its token
  pub left-terminal : (c : List ℕ) (j : ℕ) → IsNext input c (at j) → next_terminal input.parser (left_from input j c) ≡ terminal_in source j
  left-terminal c _ (next_element j item has holds) =
      ap (next_terminal input.parser) (left-next input j item c has holds) ∙ sym (ap (λ items. next_terminal input.parser (map (λ (i : Condition × Token). i.1) items)) (drop-at input.items j item has))
      ∙ terminal-same j
  left-terminal c _ next_end =
      ap (next_terminal input.parser) (left-end input c)
      ∙ sym (ap (λ items. next_terminal input.parser (map (λ (i : Condition × Token). i.1) items)) (drop-whole input.items))
      ∙ terminal-same (length input.items)

  pub left-place : (c : List ℕ) (j : ℕ) → IsNext input c (at j) → next_place input.end (left_from input j c) ≡ seen_place w.files (place_in source j)
  left-place c _ (next_element j item has holds) = ap (next_place input.end) (left-next input j item c has holds) ∙ by (slice_get source.list.now j) refl
    where
      by : (found : Option (Cond × base.Token)) → slice_get source.list.now j ≡ found → item.1.place ≡ seen_place w.files (place_of source.end found)
      by None none = absurd (omega (arith, same-length, slice_get_within input.items j item has, slice_get-past-end source.list.now j none))
      by (Some own) some = ap (λ (t : Token). t.place) (token-seen j item own has some)
  left-place c _ next_end =
      ap (next_place input.end) (left-end input c) ∙ is.end
      ∙ ap (λ found. seen_place w.files (place_of source.end found)) (sym (slice_get_past source.list.now (length input.items) (omega (arith, same-length))))

  pub refused-point : (c : List ℕ) (j : ℕ) (cause : Cause) → IsNext input c (at j)
      → refused input.end (left_from input j c) cause ≡ answered (Err (fault_at cause (seen_place w.files (place_in source j))))
  refused-point c j cause next = ap (λ place. answered (Err (fault_at cause place))) (left-place c j next)

  -- an element without a terminal
  pub no-terminal : (t : core.Subparser) (j : ℕ) (c : List ℕ) → t.phase ≡ at j → IsNext input c (at j) → terminal_in source j ≡ None
      → step input.parser input.end (run_of input t c) ≡ answered (Err (fault_at BadToken (seen_place w.files (place_in source j))))
  no-terminal t j c phase next none =
      step-looking input t j c phase ∙ ap (looked input.parser input.end (looking_run input t j c)) (left-terminal c j next ∙ none) ∙ refused-point c j BadToken next

  -- the action of the tables is done
  pub step-acted : (s : Subparser) (t : core.Subparser) (j x : ℕ) (c : List ℕ) → t.phase ≡ at j → t.states ≡ states_of s.stack → IsNext input c (at j)
      → terminal_in source j ≡ Some x → step input.parser input.end (run_of input t c) ≡ acted input.parser input.end (looking_run input t j c) x (action_in source s j)
  step-acted s t j x c phase states next some =
      step-looking input t j c phase ∙ ap (looked input.parser input.end (looking_run input t j c)) (left-terminal c j next ∙ some)
      ∙ ap (λ n. acted input.parser input.end (looking_run input t j c) x (input.parser.tables.action n x)) (top-frames t.states (t.trees c) ∙ ap top_of states ∙ top-states s.stack)
      ∙ ap (acted input.parser input.end (looking_run input t j c) x) (action-is (state_of s.stack) x ∙ sym (ap (action_by source.tables.now (state_of s.stack)) some))

  own-left : (c : List ℕ) (j : ℕ) (item : Condition × Token) (own : Cond × base.Token) → slice_get input.items j ≡ Some item → item.0 c ≡ true
      → slice_get source.list.now j ≡ Some own → left_from input j c ≡ seen w.names w.files own.1 ∷ left_from input (j + 1) c
  own-left c j item own has holds some = left-next input j item c has holds ∙ ap (λ token. token ∷ left_from input (j + 1) c) (token-seen j item own has some)

  -- the tokens that are left, where an element comes next
  pub element-left : (c : List ℕ) (j : ℕ) (own : Cond × base.Token) → IsNext input c (at j) → slice_get source.list.now j ≡ Some own
      → left_from input j c ≡ seen w.names w.files own.1 ∷ left_from input (j + 1) c
  element-left c _ own (next_element j item has holds) some = own-left c j item own has holds some
  element-left c _ own next_end some = absurd (omega (arith, same-length, slice_get_within source.list.now (length input.items) own some))

  -- the token of an element as a leaf knows it
  pub token-at : (j : ℕ) (own : Cond × base.Token) → slice_get source.list.now j ≡ Some own → IsTokenAt w own.1.place own.1.spelling (seen w.names w.files own.1)
  token-at j own some =
      let within = slice_get_within source.list.now j own some in
      let same : get_or source.list.now j own ≡ own = get_or_from_slice_get source.list.now j own own some in
      let held : IsHeld w.names own.1 = subst (λ (i : Cond × base.Token). IsHeld w.names i.1) same (is.held j own within) in
      let file : own.1.place.file.0 < length w.files = subst (λ (i : Cond × base.Token). i.1.place.file.0 < length w.files) same (is.files j own within) in
      record { spelling = text-found w.names own.1.spelling.0 held.spelling; file = text-found w.files own.1.place.file.0 file; position = refl }

-- ---- what has ended

-- a subparser that is refused at each configuration of a condition
pub refused-seen : (w : Tables) (input : Input) (cond : Cond) (condition : Condition) (cause : Cause) (place : declared.Place) → IsCond w.sets cond.0
    → Has input condition (w.sets.has cond.0) → IsPossible input condition
    → IsOver w input (record { cond = cond; answer = Refused cause place }) (record { condition = condition; answer = λ c. Err (fault_at cause (seen_place w.files place)) })
refused-seen w input cond condition cause place own has possible = record { own = own; has = has; possible = possible; each = λ c config holds. is_fault cause place }
