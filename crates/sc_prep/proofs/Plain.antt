-- Where macros, text and names of files are spelled on one line, so is what the text expands to.
use Rattle.std.proofs.Common.{◌≡◌, ℕ, true, List, [], ◌∷◌, ◌++◌, All, map, Ok, refl, sym, ap, subst, ◌∙◌}
use Rattle.sc_expand.proofs.PlainLines.{settles-on_one_line}
use Rattle.sc_model.specs.Space as model
use Rattle.sc_model.specs.Token.{Place, Token}
use Rattle.sc_prep.proofs.Facts.{All-append, All-cons, All-from_recursion, All-head, All-map, All-nil, All-tail, All-weaker, PlainOption, PlainToken, PlainVariable, and_parts, initial-one_line, ne_eqb, not-true, map-append, not_from_false, or_from, text-stays_on_one_line}
use Rattle.sc_prep.proofs.Terms.{AllByRecursion as Every, AreOneLine, Failure, HasText, Hidden, IsInRange, IsOneLine, IsPlainToken, IsSound, IsSoundVariable, Macros, Settles, Space, State, TextExpands, VariableOption, has_no_newline, initial_macros, is_date_byte, list_all, place_alone, token_of, unhidden}
use Rattle.sc_prep.specs.Gathered.{refused, settling}
use Rattle.sc_prep.specs.Pragmas.{Awaited}

pub spelled-plain : (ts : List Token) → Every IsPlainToken ts → All PlainToken ts
spelled-plain ts plain = All-weaker IsPlainToken PlainToken (λ t p. p.spelling) ts (All-from_recursion IsPlainToken ts plain)

pub expands-plain : (macros : Macros) → AreOneLine macros → (text output : List Token) → Every IsPlainToken text → TextExpands macros text (Ok output) → All PlainToken output
expands-plain macros lists text output plain expands =
    text-stays_on_one_line macros lists text output (spelled-plain text plain)
    (All-weaker IsPlainToken (λ (t : Token). has_no_newline t.place.file ≡ true) (λ t p. p.file) text (All-from_recursion IsPlainToken text plain)) expands

-- and what settles of it, and waits
pub settles-plain : (macros : Macros) → AreOneLine macros → (ts out left : List (Hidden Place)) → All (IsOneLine place_alone) ts → Settles place_alone macros ts out left
    → All PlainToken (map token_of out) × All (IsOneLine place_alone) left
settles-plain macros lists ts out left plain settles =
    let both = settles-on_one_line place_alone macros lists (record { place = λ p. refl }) ts out left plain settles in
    (All-map PlainToken token_of out (All-weaker (IsOneLine place_alone) (λ (t : Hidden Place). has_no_newline t.spelling ≡ true) (λ t h. h.spelling) out both.0), both.1)

all-parts : {A : Type 0} (P : A → Type 0) (xs ys : List A) → All P (xs ++ ys) → All P xs × All P ys
all-parts P [] ys all = (All-nil P, all)
all-parts P (x ∷ xs) ys all = let rest = all-parts P xs ys (All-tail P x (xs ++ ys) all) in (All-cons P x xs (All-head P x (xs ++ ys) all) rest.0, rest.1)

-- what is gathered of a run that nothing holds
pub text-plain : (s : State) → AreOneLine s.macros → Every IsPlainToken s.run → (gathered : List (Hidden Place)) (list : List Token) (awaited : Awaited) (faults : List (Failure Place)) → faults ≡ [] → HasText s gathered list awaited faults
    → All (IsOneLine place_alone) gathered
text-plain s lists plain gathered list awaited _ none (settling before new out left run settles all is behind) =
    let whole = All-from_recursion IsPlainToken s.run plain in
    let shown : All (IsOneLine place_alone) (map unhidden s.run) = All-map (IsOneLine place_alone) unhidden s.run (λ k t h. let p = whole k t h in record { spelling = p.spelling; file = p.file }) in
    let parts = all-parts (IsOneLine place_alone) (map unhidden before) (map unhidden new) (subst (All (IsOneLine place_alone)) (ap (map unhidden) run ∙ map-append unhidden before new) shown) in
    subst (All (IsOneLine place_alone)) (sym all) (All-append (IsOneLine place_alone) left (map unhidden new) (settles-plain s.macros lists (map unhidden before) out left parts.0 settles).1 parts.1)
text-plain s lists plain gathered list awaited _ none (refused before new failure run is) = absurd (cc)

-- ---- the macros with which a configuration starts

date-plain : (bs : List ℕ) → list_all is_date_byte bs ≡ true → has_no_newline bs ≡ true
date-plain [] all = refl
date-plain (b ∷ bs) all =
    let parts = and_parts (is_date_byte b) (list_all is_date_byte bs) all in
    let differs = ne_eqb b 10 (λ e. let passes = sym (ap is_date_byte e) ∙ parts.0 in cc) in
    not_from_false _ (or_from _ _ differs (not-true _ (date-plain bs parts.1)))

option-plain : (o : VariableOption) → IsInRange o → PlainOption o
option-plain model.undefined sound = tt
option-plain (model.number n) sound = tt
option-plain (model.text bytes list) sound = sound

pub initial-plain : (space : Space) (config : List ℕ) → IsSound space → AreOneLine (initial_macros space config)
initial-plain space config sound =
    let variables = All-weaker IsSoundVariable PlainVariable (λ v is. All-weaker IsInRange PlainOption option-plain v.options is.in_range) space.variables sound.each in
    initial-one_line space config variables (date-plain space.date sound.date_plain) (date-plain space.time sound.time_plain)
