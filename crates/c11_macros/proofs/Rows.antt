-- Lists of tokens of which those far from the end hide names, and what a call and a replacement
-- make of such a list.
use Rattle.std.proofs.Common.{◌≡◌, ℕ, zero, suc, ◌<◌, ◌≤◌, ◌&&◌, ◌||◌, ◌==◌, ◌+◌, not, nat_le, Bool, true, false, List, [], ◌∷◌, ◌++◌, length, codes, Option, Some, None, Result, Ok, Err, refl, sym, ap, ◌∙◌, arith, if◌then◌else◌, is_some}
use Rattle.std.proofs.lemmas.Bool.{leb-true, and_parts, true≢false}
use Rattle.c11_macros.specs.Call.{Call, Role, opening, closing, comma, other, role_of, onto_argument, onto, apart, call_step, call_of, counts_for, is_nothing, given, filled_up}
use Rattle.c11_macros.specs.Expansion.{Case, stays, replaced, unclosed, misfit, called, is_looked_up, fitted_case, call_case, form_case, defined_case, looked_up_case, case_of, list_of, object_result, call_result}
use Rattle.c11_macros.specs.Hidden.{Hidden, HideSet, Provenance, Failure, with_name, meet}
use Rattle.c11_macros.specs.Macros.{Macros, Definition, Form, object_like, function_like}
use Rattle.sc_model.specs.Token.{Item}
use Rattle.c11_macros.specs.Results.{result_map, result_and_then}
use Rattle.c11_macros.specs.Substitution.{Piece, Slot, all_glued, filled, hiding, list_slots, put_together, substituted, tokens_of, with_space}
use Rattle.c11_tokens.specs.Lex.{is_identifier_kind}
use Rattle.sc_model.proofs.ByteLemmas.{same_bytes-true}
use Rattle.sc_model.specs.Bytes.{same_bytes}

-- A cut says that each token with at least so many tokens after it hides the name. The highest cut
-- stands first.
pub data Cuts : Type 0 where
  uncut : Cuts
  cut : ℕ → List ℕ → Cuts → Cuts

-- the set has each name whose cut is at most n
abbrev pub Fit : HideSet → ℕ → Cuts → Type 0
Fit set n uncut = Unit {0}
Fit set n (cut e name c) = (e ≤ n → set name ≡ true) × Fit set n c

-- each token hides what the cuts say
abbrev pub Row : {P : Type 0} → Cuts → List (Hidden P) → Type 0
Row c [] = Unit {0}
Row c (t ∷ ts) = Fit t.hide (length ts) c × Row c ts

-- each cut is at most n
abbrev pub AtMost : ℕ → Cuts → Type 0
AtMost n uncut = Unit {0}
AtMost n (cut e name c) = (e ≤ n) × AtMost n c

abbrev pub Sorted : Cuts → Type 0
Sorted uncut = Unit {0}
Sorted (cut e name c) = AtMost e c × Sorted c

-- the name is that of a cut
abbrev pub is_cut : List ℕ → Cuts → Bool
is_cut name uncut = false
is_cut name (cut e n c) = same_bytes name n || is_cut name c

-- the set has the names of all cuts
abbrev pub HasAll : HideSet → Cuts → Type 0
HasAll set uncut = Unit {0}
HasAll set (cut e name c) = (set name ≡ true) × HasAll set c

-- the cuts that are at most m, of sorted ones
abbrev pub kept : ℕ → Cuts → Cuts
kept m uncut = uncut
kept m (cut e name c) = if nat_le e m then cut e name c else kept m c

pub at_most-more : (m n : ℕ) (c : Cuts) → m ≤ n → AtMost m c → AtMost n c
at_most-more m n uncut h below = tt
at_most-more m n (cut e name c) h below = (omega (arith, below.0), at_most-more m n c h below.1)

pub fit-less : (set : HideSet) (m n : ℕ) (c : Cuts) → m ≤ n → Fit set n c → Fit set m c
fit-less set m n uncut h fit = tt
fit-less set m n (cut e name c) h fit = (λ below. fit.0 (omega arith), fit-less set m n c h fit.1)

fit-kept : (set : HideSet) (n m : ℕ) (c : Cuts) → Fit set n c → Fit set n (kept m c)
fit-kept set n m uncut fit = tt
fit-kept set n m (cut e name c) fit = by (nat_le e m) (fit-kept set n m c fit.1)
  where
    by : (b : Bool) → Fit set n (kept m c) → Fit set n (if b then cut e name c else kept m c)
    by true lower = fit
    by false lower = lower

has-at_most : (set : HideSet) (n e : ℕ) (c : Cuts) → e ≤ n → AtMost e c → Fit set n c → HasAll set c
has-at_most set n e uncut h below fit = tt
has-at_most set n e (cut f name c) h below fit = (fit.0 (omega (arith, below.0)), has-at_most set n e c h below.1 fit.1)

pub has-kept : (set : HideSet) (n m : ℕ) (c : Cuts) → m ≤ n → Sorted c → Fit set n c → HasAll set (kept m c)
has-kept set n m uncut h sorted fit = tt
has-kept set n m (cut e name c) h sorted fit = by (nat_le e m) refl (has-kept set n m c h sorted.1 fit.1)
  where
    by : (b : Bool) → nat_le e m ≡ b → HasAll set (kept m c) → HasAll set (if b then cut e name c else kept m c)
    by true low lower = let below : e ≤ n = omega (arith, leb-true e m low) in (fit.0 below, has-at_most set n e c below sorted.0 fit.1)
    by false high lower = lower

pub has-more : (one two : HideSet) (c : Cuts) → ((name : List ℕ) → one name ≡ true → two name ≡ true) → HasAll one c → HasAll two c
has-more one two uncut more has = tt
has-more one two (cut e name c) more has = (more name has.0, has-more one two c more has.1)

pub has-meet : (one two : HideSet) (c : Cuts) → HasAll one c → HasAll two c → HasAll (meet one two) c
has-meet one two uncut has has_too = tt
has-meet one two (cut e name c) has has_too = (ap (λ b. b && two name) has.0 ∙ has_too.0, has-meet one two c has.1 has_too.1)

-- a name that the set has not is that of no cut whose names it has
pub not-cut : (set : HideSet) (name : List ℕ) (c : Cuts) → set name ≡ false → HasAll set c → is_cut name c ≡ false
not-cut set name uncut out has = refl
not-cut set name (cut e n c) out has = by (same_bytes name n) refl (not-cut set name c out has.1)
  where
    by : (b : Bool) → same_bytes name n ≡ b → is_cut name c ≡ false → (b || is_cut name c) ≡ false
    by true same lower = absurd (true≢false (sym has.0 ∙ (ap set (sym (same_bytes-true name n same)) ∙ out)))
    by false differs lower = lower

-- ---- a replacement in a row

-- the token hides all that the set has
abbrev pub Covers : {P : Type 0} → HideSet → Hidden P → Type 0
Covers set t = (name : List ℕ) → set name ≡ true → t.hide name ≡ true

abbrev pub AllCover : {P : Type 0} → HideSet → List (Hidden P) → Type 0
AllCover set [] = Unit {0}
AllCover set (t ∷ ts) = Covers set t × AllCover set ts

abbrev pub Covered : {P : Type 0} → HideSet → Result (List (Hidden P)) (Failure P) → Type 0
Covered set (Ok body) = AllCover set body
Covered set (Err failure) = Unit {0}

or-right : (a b : Bool) → b ≡ true → (a || b) ≡ true
or-right true b h = refl
or-right false b h = h

or-left : (a b : Bool) → a ≡ true → (a || b) ≡ true
or-left a b h = ap (λ c. c || b) h

hiding-covers : {P : Type 0} (provenance : Provenance P) (set : HideSet) (ts : List (Hidden P)) → AllCover set (hiding provenance set ts)
hiding-covers provenance set [] = tt
hiding-covers provenance set (t ∷ ts) = (λ name h. or-right (t.hide name) (set name) h, hiding-covers provenance set ts)

made-covers : {P : Type 0} (provenance : Provenance P) (set : HideSet) (space : Bool) (pieces : Result (List (Piece P)) (Failure P)) → Covered set (result_map (λ ps. hiding provenance set (with_space space (tokens_of ps))) pieces)
made-covers provenance set space (Ok ps) = hiding-covers provenance set (with_space space (tokens_of ps))
made-covers provenance set space (Err failure) = tt

substituted-covers : {P : Type 0} (provenance : Provenance P) (form : Form) (items : List Item) (t : Hidden P) (raw expanded : List (List (Hidden P))) (set : HideSet)
    → Covered set (substituted provenance form items t raw expanded set)
substituted-covers {P} provenance form items t raw expanded set = by (list_slots t raw form items)
  where
    by : (made : Result (List (Slot P)) (Failure P)) → Covered set (result_and_then (put_together provenance t raw expanded set) made)
    by (Ok ss) = made-covers provenance set t.space (all_glued t (filled raw expanded false ss))
    by (Err failure) = tt

pub object-covers : {P : Type 0} (provenance : Provenance P) (d : Definition) (t : Hidden P) → Covered (with_name t.hide t.spelling) (object_result provenance d t)
object-covers provenance d t = substituted-covers provenance d.form (list_of provenance d t) t [] [] (with_name t.hide t.spelling)

pub call-covers : {P : Type 0} (provenance : Provenance P) (d : Definition) (t : Hidden P) (arguments : List (List (Hidden P))) (close : Hidden P) (expanded : Result (List (List (Hidden P))) (Failure P))
    → Covered (with_name (meet t.hide close.hide) t.spelling) (call_result provenance d t arguments close expanded)
call-covers provenance d t arguments close (Ok lists) = substituted-covers provenance d.form (list_of provenance d t) t arguments lists (with_name (meet t.hide close.hide) t.spelling)
call-covers provenance d t arguments close (Err failure) = tt

fit-has : {P : Type 0} (set : HideSet) (t : Hidden P) (n : ℕ) (c : Cuts) → Covers set t → HasAll set c → Fit t.hide n c
fit-has set t n uncut covers has = tt
fit-has set t n (cut e name c) covers has = (λ below. covers name has.0, fit-has set t n c covers has.1)

row-after : {P : Type 0} (c : Cuts) (m : ℕ) (name : List ℕ) (after : List (Hidden P)) → length after ≤ m → Row c after → Row (cut m name (kept m c)) after
row-after c m name [] h row = tt
row-after c m name (t ∷ ts) h row = ((λ below. absurd (omega arith), fit-kept t.hide (length ts) m c row.0), row-after c m name ts (omega arith) row.1)

-- what is replaced hides its name and those of the cuts that are kept
pub row-replaced : {P : Type 0} (c : Cuts) (name : List ℕ) (set : HideSet) (body after : List (Hidden P)) → set name ≡ true → HasAll set (kept (length after) c) → AllCover set body → Row c after
    → Row (cut (length after) name (kept (length after) c)) (body ++ after)
row-replaced c name set [] after own has cover row = row-after c (length after) name after (omega arith) row
row-replaced c name set (t ∷ body) after own has cover row =
    ((λ below. cover.0 name own, fit-has set t (length (body ++ after)) (kept (length after) c) cover.0 has), row-replaced c name set body after own has cover.1 row)

-- ---- a call in a row

abbrev pub AllRows : {P : Type 0} → Cuts → ℕ → List (List (Hidden P)) → Type 0
AllRows c n [] = Unit {0}
AllRows c n (argument ∷ arguments) = Row c argument × (length argument ≤ n) × AllRows c n arguments

pub record CallRow {P : Type 0} (c : Cuts) (n : ℕ) (call : Call P) : Type 0 where
  pub arguments : AllRows c n call.arguments
  pub close : Fit call.close.hide (length call.rest) c
  pub rest : Row c call.rest
  pub shorter : length call.rest < n

abbrev pub Inside : {P : Type 0} → Cuts → ℕ → Option (Call P) → Type 0
Inside c n None = Unit {0}
Inside c n (Some call) = CallRow c n call

rows-more : {P : Type 0} (c : Cuts) (m n : ℕ) (arguments : List (List (Hidden P))) → m ≤ n → AllRows c m arguments → AllRows c n arguments
rows-more c m n [] h rows = tt
rows-more c m n (a ∷ others) h rows = (rows.0, omega (arith, rows.1), rows-more c m n others h rows.2)

rows-onto : {P : Type 0} (c : Cuts) (n : ℕ) (t : Hidden P) (arguments : List (List (Hidden P))) → Fit t.hide n c → AllRows c n arguments → AllRows c (suc n) (onto_argument t arguments)
rows-onto c n t [] fit rows = ((fit-less t.hide 0 n c (omega arith) fit, tt), omega arith, tt)
rows-onto c n t (a ∷ others) fit rows = ((fit-less t.hide (length a) n c rows.1 fit, rows.0), omega (arith, rows.1), rows-more c n (suc n) others (omega arith) rows.2)

inside-onto : {P : Type 0} (c : Cuts) (n : ℕ) (t : Hidden P) (o : Option (Call P)) → Fit t.hide n c → Inside c n o → Inside c (suc n) (onto t o)
inside-onto c n t None fit within = tt
inside-onto c n t (Some call) fit within =
    record { arguments = rows-onto c n t call.arguments fit within.arguments; close = within.close; rest = within.rest; shorter = omega (arith, within.shorter) }

inside-apart : {P : Type 0} (c : Cuts) (n : ℕ) (o : Option (Call P)) → Inside c n o → Inside c (suc n) (apart o)
inside-apart c n None within = tt
inside-apart c n (Some call) within =
    record { arguments = (tt, omega arith, rows-more c n (suc n) call.arguments (omega arith) within.arguments); close = within.close; rest = within.rest; shorter = omega (arith, within.shorter) }

inside-step : {P : Type 0} (role : Role) (c : Cuts) (commas depth : ℕ) (t : Hidden P) (ts : List (Hidden P)) → Fit t.hide (length ts) c → Row c ts → (go : ℕ → ℕ → Option (Call P))
    → ((k d : ℕ) → Inside c (length ts) (go k d)) → Inside c (suc (length ts)) (call_step role commas depth t ts go)
inside-step closing c commas zero t ts fit row go within = record { arguments = (tt, omega arith, tt); close = fit; rest = row; shorter = omega arith }
inside-step closing c commas (suc depth) t ts fit row go within = inside-onto c (length ts) t (go commas depth) fit (within commas depth)
inside-step opening c commas depth t ts fit row go within = inside-onto c (length ts) t (go commas (suc depth)) fit (within commas (suc depth))
inside-step comma c (suc commas) zero t ts fit row go within = inside-apart c (length ts) (go commas zero) (within commas zero)
inside-step comma c zero zero t ts fit row go within = inside-onto c (length ts) t (go zero zero) fit (within zero zero)
inside-step comma c zero (suc depth) t ts fit row go within = inside-onto c (length ts) t (go zero (suc depth)) fit (within zero (suc depth))
inside-step comma c (suc commas) (suc depth) t ts fit row go within = inside-onto c (length ts) t (go (suc commas) (suc depth)) fit (within (suc commas) (suc depth))
inside-step other c commas depth t ts fit row go within = inside-onto c (length ts) t (go commas depth) fit (within commas depth)

inside : {P : Type 0} (c : Cuts) (commas depth : ℕ) (ts : List (Hidden P)) → Row c ts → Inside c (length ts) (call_of commas depth ts)
inside c commas depth [] row = tt
inside c commas depth (t ∷ ts) row = inside-step (role_of t.spelling) c commas depth t ts row.0 row.1 (λ k d. call_of k d ts) (λ k d. inside c k d ts row.1)

-- ---- the case at the first token of a row

rows-given : {P : Type 0} (c : Cuts) (n : ℕ) (parameters : List (List ℕ)) (variadic : Bool) (arguments : List (List (Hidden P))) → AllRows c n arguments → AllRows c n (given parameters variadic arguments)
rows-given c n [] true arguments rows = rows
rows-given c n (p ∷ ps) variadic arguments rows = rows
rows-given c n [] false arguments rows = by (is_nothing arguments)
  where
    by : (b : Bool) → AllRows c n (if b then [] else arguments)
    by true = tt
    by false = rows

rows-filled : {P : Type 0} (c : Cuts) (n : ℕ) (parameters : List (List ℕ)) (variadic : Bool) (arguments : List (List (Hidden P))) → AllRows c n arguments → AllRows c n (filled_up parameters variadic arguments)
rows-filled {P = P} c n parameters variadic arguments rows = by (variadic && length arguments == length parameters)
  where
    more : (list : List (List (Hidden P))) → AllRows c n list → AllRows c n (list ++ [] ∷ [])
    more [] r = (tt, omega arith, tt)
    more (a ∷ others) r = (r.0, r.1, more others r.2)

    by : (b : Bool) → AllRows c n (if b then arguments ++ [] ∷ [] else arguments)
    by true = more arguments rows
    by false = rows

-- what the case at a first token says of the list, where the name is defined so
abbrev pub CaseRow : {P : Type 0} → Macros → Cuts → Hidden P → ℕ → Case P → Type 0
CaseRow macros c t n stays = Unit {0}
CaseRow macros c t n (replaced d) = (macros t.spelling ≡ Some d) × (t.hide t.spelling ≡ false)
CaseRow macros c t n unclosed = Unit {0}
CaseRow macros c t n (misfit after) = Unit {0}
CaseRow macros c t n (called d arguments close after) =
    (macros t.spelling ≡ Some d) × (t.hide t.spelling ≡ false) × AllRows c n arguments × Fit close.hide (length after) c × Row c after × (length after ≤ n)

module _ {P : Type 0} (macros : Macros) (c : Cuts) (t : Hidden P) (free : t.hide t.spelling ≡ false) (d : Definition) (defined : macros t.spelling ≡ Some d) where
  call-row : (n : ℕ) (parameters : List (List ℕ)) (variadic : Bool) (o : Option (Call P)) → Inside c n o → CaseRow macros c t (suc n) (call_case d parameters variadic o)
  call-row n parameters variadic None within = tt
  call-row n parameters variadic (Some call) within = by (counts_for parameters variadic (length (given parameters variadic call.arguments)))
    where
      rows : AllRows c (suc n) (filled_up parameters variadic (given parameters variadic call.arguments))
      rows = rows-filled c (suc n) parameters variadic (given parameters variadic call.arguments) (rows-given c (suc n) parameters variadic call.arguments (rows-more c n (suc n) call.arguments (omega arith) within.arguments))

      by : (b : Bool) → CaseRow macros c t (suc n) (fitted_case d call.close call.rest (if b then Some (filled_up parameters variadic (given parameters variadic call.arguments)) else None))
      by true = (defined, free, rows, within.close, within.rest, omega (arith, within.shorter))
      by false = tt

  form-row : (form : Form) (rest : List (Hidden P)) → Row c rest → CaseRow macros c t (length rest) (form_case d form rest)
  form-row object_like rest row = (defined, free)
  form-row (function_like parameters variadic) [] row = tt
  form-row (function_like parameters variadic) (u ∷ us) row = by (same_bytes u.spelling (codes "("))
    where
      by : (b : Bool) → CaseRow macros c t (suc (length us)) (if b then call_case d parameters (is_some variadic) (call_of (length parameters) zero us) else stays)
      by true = call-row (length us) parameters (is_some variadic) (call_of (length parameters) zero us) (inside c (length parameters) zero us row.1)
      by false = tt

not-false : (b : Bool) → not b ≡ true → b ≡ false
not-false true h = sym h
not-false false h = refl

pub sound : {P : Type 0} (macros : Macros) (c : Cuts) (t : Hidden P) (rest : List (Hidden P)) → Row c rest → CaseRow macros c t (length rest) (case_of macros t rest)
sound {P} macros c t rest row = by (is_looked_up t) refl
  where
    defined-by : (o : Option Definition) → macros t.spelling ≡ o → is_looked_up t ≡ true → CaseRow macros c t (length rest) (defined_case o rest)
    defined-by None is looked = tt
    defined-by (Some d) is looked = form-row macros c t (not-false (t.hide t.spelling) (and_parts (is_identifier_kind t.kind) (not (t.hide t.spelling)) looked).1) d is d.form rest row

    by : (b : Bool) → is_looked_up t ≡ b → CaseRow macros c t (length rest) (looked_up_case macros b t.spelling rest)
    by true looked = defined-by (macros t.spelling) refl looked
    by false looked = tt
