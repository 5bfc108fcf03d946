-- Pieces that are read one by one are pasted as the whole list is.
use Rattle.std.proofs.Common.{◌≡◌, ℕ, suc, ◌<◌, ◌+◌, ◌-◌, ◌==◌, add-one, drop, length-drop, take, Bool, true, false, List, [], ◌∷◌, ◌++◌, append_assoc, length, map, get_or, Result, Ok, Err, inl, inr, refl, sym, ap, subst, ◌∙◌, arith}
use Rattle.std.specs.Prelude.{All}
use Rattle.std.proofs.Math.Seq.{drop-cons}
use Rattle.std.proofs.lemmas.Bool.{cases_Bool, eqb-true, true≢false}
use Rattle.std.proofs.lemmas.List.{map-append, take_all}
use Rattle.c11_macros.specs.Hidden as model
use Rattle.c11_macros.specs.Hidden.{Failure}
use Rattle.c11_macros.specs.Results.{result_map, result_and_then}
use Rattle.c11_macros.specs.Substitution as substitution
use Rattle.c11_macros.specs.Substitution.{all_glued, argument, argument_pieces, begins_paste, filled, glued, joined, or_placemarker, pieces_of, tokens_of, with_space}
use Rattle.sc_base.specs.declared.id.Name.{Name}
use Rattle.sc_base.specs.declared.place.Place.{Place}
use Rattle.sc_model.specs.Growth.{Extends}
use Rattle.sc_subst.specs.declared.glue.Left.TheVariants as left
use Rattle.sc_subst.specs.declared.glue.Piece.{Piece}
use Rattle.sc_subst.specs.declared.glue.Piece.TheVariants as piece
use Rattle.sc_subst.specs.declared.hidden.Hidden.{Hidden}
use Rattle.sc_subst.specs.declared.part.Part.{Part}
use Rattle.sc_subst.specs.declared.part.Part.TheVariants as part
use Rattle.sc_subst.specs.Glue.{begins_operator, is_operator, seen_piece, tokens_behind}
use Rattle.sc_subst.specs.Parts.{AreHeldArguments, IsHeldPart, filled_in, seen_arguments, seen_part}
use Rattle.sc_subst.specs.Seen.{IsHeldHidden, seen_hidden}
use Rattle.sc_subst.proofs.Later.{IsHeldHidden-Extends}
use Rattle.sc_subst.proofs.Quoting.{AreHeld-tail, blank}
use Rattle.sc_subst.proofs.Turns.{argument_seen}

-- ---- parts

pub part_later : {names later : List (List ℕ)} {sets later_sets : List (List Name)} (p : Part) → IsHeldPart names sets p → Extends names later → Extends sets later_sets → IsHeldPart later later_sets p
part_later {names} {later} {sets} {later_sets} (part.Token t) held e s = IsHeldHidden-Extends t held e s
part_later {names} {later} {sets} {later_sets} (part.Argument n space) held e s = tt

pub parts_later : {names later : List (List ℕ)} {sets later_sets : List (List Name)} (ps : List Part) → All (IsHeldPart names sets) ps → Extends names later → Extends sets later_sets → All (IsHeldPart later later_sets) ps
parts_later {names} {later} {sets} {later_sets} ps held e s = λ k d h. part_later (get_or ps k d) (held k d h) e s

pub filled_append : {P : Type 0} (xs : List (List (model.Hidden P))) (one two : List (substitution.Slot P)) → filled_in xs (one ++ two) ≡ filled_in xs one ++ filled_in xs two
filled_append {P} xs [] two = refl
filled_append {P} xs (substitution.filled_by t ∷ ss) two = ap (λ ts. t ∷ ts) (filled_append xs ss two)
filled_append {P} xs (substitution.for_parameter n space ∷ ss) two =
    ap (λ ts. with_space space (argument xs n) ++ ts) (filled_append xs ss two) ∙ sym (append_assoc (with_space space (argument xs n)) (filled_in xs ss) (filled_in xs two))
filled_append {P} xs (substitution.for_paste ∷ ss) two = filled_append xs ss two

-- one part more
pub filled_push : (names : List (List ℕ)) (sets : List (List Name)) (xs : List (List (model.Hidden Place))) (parts : List Part) (p : Part)
    → filled_in xs (map (seen_part names sets) (parts ++ p ∷ [])) ≡ filled_in xs (map (seen_part names sets) parts) ++ filled_in xs (seen_part names sets p ∷ [])
filled_push names sets xs parts p = ap (filled_in xs) (map-append (seen_part names sets) parts (p ∷ [])) ∙ filled_append xs (map (seen_part names sets) parts) (seen_part names sets p ∷ [])

-- ---- one piece

tokens_first : {P : Type 0} (p : substitution.Piece P) (ps : List (substitution.Piece P)) → tokens_of (p ∷ ps) ≡ tokens_of (p ∷ []) ++ tokens_of ps
tokens_first {P} (substitution.piece t) ps = refl
tokens_first {P} substitution.operator ps = refl
tokens_first {P} substitution.placemarker ps = refl

result_twice : {A B C E : Type 0} (f : A → B) (g : B → C) (h : A → C) (same : (a : A) → g (f a) ≡ h a) (r : Result A E) → result_map g (result_map f r) ≡ result_map h r
result_twice {A} {B} {C} {E} f g h same (Ok a) = ap Ok (same a)
result_twice {A} {B} {C} {E} f g h same (Err e) = refl

-- an operand behind another one
behind_operand : (names : List (List ℕ)) (sets : List (List Name)) (head : model.Hidden Place) (l : substitution.Piece Place) (p : Piece) (ps : List (substitution.Piece Place)) → is_operator p ≡ false
    → glued head l (seen_piece names sets p ∷ ps) ≡ result_map (λ rest. l ∷ rest) (glued head (seen_piece names sets p) ps)
behind_operand names sets head l (piece.Token t) ps h = refl
behind_operand names sets head l piece.Operator ps h = cc
behind_operand names sets head l piece.Placemarker ps h = refl

pub fed_operand : (names : List (List ℕ)) (sets : List (List Name)) (head : model.Hidden Place) (xs : List (List (model.Hidden Place))) (parts new : List Part) (l p : Piece) (ps : List (substitution.Piece Place))
    → is_operator p ≡ false → filled_in xs (map (seen_part names sets) new) ≡ filled_in xs (map (seen_part names sets) parts) ++ tokens_of (seen_piece names sets l ∷ [])
    → tokens_behind names sets head xs parts (left.Operand l) (seen_piece names sets p ∷ ps) ≡ tokens_behind names sets head xs new (left.Operand p) ps
fed_operand names sets head xs parts new l p ps h filled =
    let old = filled_in xs (map (seen_part names sets) parts) in
    ap (result_map (λ qs. old ++ tokens_of qs)) (behind_operand names sets head (seen_piece names sets l) p ps h)
    ∙ result_twice (λ rest. seen_piece names sets l ∷ rest) (λ qs. old ++ tokens_of qs) (λ qs. filled_in xs (map (seen_part names sets) new) ++ tokens_of qs)
    (λ qs. ap (λ ts. old ++ ts) (tokens_first (seen_piece names sets l) qs) ∙ (sym (append_assoc old (tokens_of (seen_piece names sets l ∷ [])) (tokens_of qs)) ∙ ap (λ ts. ts ++ tokens_of qs) (sym filled)))
    (glued head (seen_piece names sets p) ps)

pub fed_pasting : (names : List (List ℕ)) (sets : List (List Name)) (head : model.Hidden Place) (xs : List (List (model.Hidden Place))) (parts : List Part) (l p : Piece) (ps : List (substitution.Piece Place))
    (answer : Result (substitution.Piece Place) (Failure Place)) → joined head (seen_piece names sets l) (seen_piece names sets p) ≡ answer
    → tokens_behind names sets head xs parts (left.Pasting l) (seen_piece names sets p ∷ ps)
    ≡ result_map (λ qs. filled_in xs (map (seen_part names sets) parts) ++ tokens_of qs) (result_and_then (λ q. glued head q ps) answer)
fed_pasting names sets head xs parts l p ps answer is = ap (λ r. result_map (λ qs. filled_in xs (map (seen_part names sets) parts) ++ tokens_of qs) (result_and_then (λ q. glued head q ps) r)) is

-- ---- what was read last, and an argument

settled_behind : {P : Type 0} (head : model.Hidden P) (l : substitution.Piece P) (ps : List (substitution.Piece P)) → begins_operator ps ≡ false → glued head l ps ≡ result_map (λ rest. l ∷ rest) (all_glued head ps)
settled_behind {P} head l [] h = refl
settled_behind {P} head l (substitution.piece t ∷ ps) h = refl
settled_behind {P} head l (substitution.operator ∷ ps) h = cc
settled_behind {P} head l (substitution.placemarker ∷ ps) h = refl

pub settled_operand : (names : List (List ℕ)) (sets : List (List Name)) (head : model.Hidden Place) (xs : List (List (model.Hidden Place))) (parts new : List Part) (l : Piece) (ps : List (substitution.Piece Place))
    → begins_operator ps ≡ false → filled_in xs (map (seen_part names sets) new) ≡ filled_in xs (map (seen_part names sets) parts) ++ tokens_of (seen_piece names sets l ∷ [])
    → tokens_behind names sets head xs parts (left.Operand l) ps ≡ tokens_behind names sets head xs new left.Nothing ps
settled_operand names sets head xs parts new l ps h filled =
    let old = filled_in xs (map (seen_part names sets) parts) in
    ap (result_map (λ qs. old ++ tokens_of qs)) (settled_behind head (seen_piece names sets l) ps h)
    ∙ result_twice (λ rest. seen_piece names sets l ∷ rest) (λ qs. old ++ tokens_of qs) (λ qs. filled_in xs (map (seen_part names sets) new) ++ tokens_of qs)
    (λ qs. ap (λ ts. old ++ ts) (tokens_first (seen_piece names sets l) qs) ∙ (sym (append_assoc old (tokens_of (seen_piece names sets l ∷ [])) (tokens_of qs)) ∙ ap (λ ts. ts ++ tokens_of qs) (sym filled)))
    (all_glued head ps)

pub begins_pieces : {P : Type 0} (ts : List (model.Hidden P)) (ps : List (substitution.Piece P)) → begins_operator ps ≡ false → begins_operator (pieces_of ts ++ ps) ≡ false
begins_pieces {P} [] ps h = h
begins_pieces {P} (t ∷ ts) ps h = refl

tokens_argument : {P : Type 0} (ts : List (model.Hidden P)) (qs : List (substitution.Piece P)) → tokens_of (pieces_of ts ++ qs) ≡ ts ++ tokens_of qs
tokens_argument {P} [] qs = refl
tokens_argument {P} (t ∷ ts) qs = ap (λ us. t ∷ us) (tokens_argument ts qs)

result_same : {A E : Type 0} (r : Result (List A) E) → r ≡ result_map (λ qs. [] ++ qs) r
result_same {A} {E} (Ok a) = refl
result_same {A} {E} (Err e) = refl

glued_argument : {P : Type 0} (head : model.Hidden P) (ts : List (model.Hidden P)) (ps : List (substitution.Piece P)) → begins_operator ps ≡ false
    → all_glued head (pieces_of ts ++ ps) ≡ result_map (λ qs. pieces_of ts ++ qs) (all_glued head ps)
glued_argument {P} head [] ps h = result_same (all_glued head ps)
glued_argument {P} head (t ∷ ts) ps h =
    settled_behind head (substitution.piece t) (pieces_of ts ++ ps) (begins_pieces ts ps h)
    ∙ (ap (result_map (λ rest. substitution.piece t ∷ rest)) (glued_argument head ts ps h)
    ∙ result_twice (λ qs. pieces_of ts ++ qs) (λ rest. substitution.piece t ∷ rest) (λ qs. substitution.piece t ∷ (pieces_of ts ++ qs)) (λ qs. refl) (all_glued head ps))

pub placed : (names : List (List ℕ)) (sets : List (List Name)) (head : model.Hidden Place) (xs : List (List (model.Hidden Place))) (parts new : List Part) (ts : List (model.Hidden Place)) (ps : List (substitution.Piece Place))
    → begins_operator ps ≡ false → filled_in xs (map (seen_part names sets) new) ≡ filled_in xs (map (seen_part names sets) parts) ++ ts
    → tokens_behind names sets head xs parts left.Nothing (pieces_of ts ++ ps) ≡ tokens_behind names sets head xs new left.Nothing ps
placed names sets head xs parts new ts ps h filled =
    let old = filled_in xs (map (seen_part names sets) parts) in
    ap (result_map (λ qs. old ++ tokens_of qs)) (glued_argument head ts ps h)
    ∙ result_twice (λ qs. pieces_of ts ++ qs) (λ qs. old ++ tokens_of qs) (λ qs. filled_in xs (map (seen_part names sets) new) ++ tokens_of qs)
    (λ qs. ap (λ us. old ++ us) (tokens_argument ts qs) ∙ (sym (append_assoc old ts (tokens_of qs)) ∙ ap (λ us. us ++ tokens_of qs) (sym filled))) (all_glued head ps)

pub begins_pieces_in : {P : Type 0} (raw xs : List (List (model.Hidden P))) (ss : List (substitution.Slot P)) → begins_paste ss ≡ false → begins_operator (filled raw xs false ss) ≡ false
begins_pieces_in {P} raw xs [] h = refl
begins_pieces_in {P} raw xs (substitution.filled_by t ∷ ss) h = refl
begins_pieces_in {P} raw xs (substitution.for_paste ∷ ss) h = cc
begins_pieces_in {P} raw xs (substitution.for_parameter n space ∷ ss) h = elim (cases_Bool (begins_paste ss)) [
  | inl beside ↦ rw beside (some (with_space space (argument raw n)) (filled raw xs false ss))
  | inr apart ↦ rw apart (begins_pieces (with_space space (argument xs n)) (filled raw xs false ss) (begins_pieces_in raw xs ss apart))
]
  where
    some : (ts : List (model.Hidden P)) (ps : List (substitution.Piece P)) → begins_operator (or_placemarker ts ++ ps) ≡ false
    some [] ps = refl
    some (t ∷ ts) ps = refl

-- ---- lists of tokens

pub from_token : (tokens : List Hidden) (i : ℕ) → i < length tokens → drop i tokens ≡ get_or tokens i blank ∷ drop (i + 1) tokens
from_token tokens i h = drop-cons tokens i blank h ∙ ap (λ k. get_or tokens i blank ∷ drop k tokens) (sym (add-one i))

pub no_argument : (see : Hidden → model.Hidden Place) (tokens : List Hidden) (space : Bool) (ps : List (substitution.Piece Place)) → (length tokens == 0) ≡ true
    → or_placemarker (with_space space (map see tokens)) ++ ps ≡ substitution.placemarker ∷ ps
no_argument see [] space ps h = refl
no_argument see (t ∷ ts) space ps h =
    let none : suc (length ts) ≡ 0 = eqb-true (suc (length ts)) 0 h in
    absurd (omega arith)

pub some_argument : (names : List (List ℕ)) (sets : List (List Name)) (tokens : List Hidden) (space : Bool) (ps : List (substitution.Piece Place)) → (length tokens == 0) ≡ false
    → or_placemarker (with_space space (map (seen_hidden names sets) tokens)) ++ ps
    ≡ substitution.piece (seen_hidden names sets (record { token = record (get_or tokens 0 blank).token { space = space }; hide = (get_or tokens 0 blank).hide }))
    ∷ (pieces_of (map (seen_hidden names sets) (take (length tokens - 1) (drop 1 tokens))) ++ ps)
some_argument names sets [] space ps h = absurd (true≢false h)
some_argument names sets (t ∷ ts) space ps h =
    ap (λ us. substitution.piece (seen_hidden names sets (record { token = record t.token { space = space }; hide = t.hide })) ∷ (pieces_of (map (seen_hidden names sets) us) ++ ps))
    (sym (take_all (suc (length ts) - 1) ts (omega arith)))

pub held_rest : {names : List (List ℕ)} {sets : List (List Name)} (tokens : List Hidden) → All (IsHeldHidden names sets) tokens → All (IsHeldHidden names sets) (take (length tokens - 1) (drop 1 tokens))
held_rest {names} {sets} [] held = λ k d h. absurd (omega arith)
held_rest {names} {sets} (t ∷ ts) held =
    let same : take (suc (length ts) - 1) ts ≡ ts = take_all (suc (length ts) - 1) ts (omega arith) in
    subst (All (IsHeldHidden names sets)) (sym same) (AreHeld-tail t ts held)

pub hiddens_later : {names later : List (List ℕ)} {sets later_sets : List (List Name)} (ts : List Hidden) → All (IsHeldHidden names sets) ts → Extends names later → Extends sets later_sets → All (IsHeldHidden later later_sets) ts
hiddens_later {names} {later} {sets} {later_sets} ts held e s = λ k d h. IsHeldHidden-Extends (get_or ts k d) (held k d h) e s

-- ---- a parameter

pub beside_is : (names : List (List ℕ)) (sets : List (List Name)) (raw : List (List Hidden)) (xs : List (List (model.Hidden Place))) (b : Bool) (n : ℕ) (space : Bool) (tokens : List Hidden)
    (ps : List (substitution.Piece Place)) → b ≡ true → tokens ≡ argument raw n
    → argument_pieces (seen_arguments names sets raw) xs b n space ++ ps ≡ or_placemarker (with_space space (map (seen_hidden names sets) tokens)) ++ ps
beside_is names sets raw xs b n space tokens ps h is =
    ap (λ b. argument_pieces (seen_arguments names sets raw) xs b n space ++ ps) h
    ∙ ap (λ ts. or_placemarker (with_space space ts) ++ ps) (argument_seen names sets raw n ∙ ap (map (seen_hidden names sets)) (sym is))

pub apart_is : (raw xs : List (List (model.Hidden Place))) (b : Bool) (n : ℕ) (space : Bool) (ps : List (substitution.Piece Place)) → b ≡ false
    → argument_pieces raw xs b n space ++ ps ≡ pieces_of (with_space space (argument xs n)) ++ ps
apart_is raw xs b n space ps h = ap (λ b. argument_pieces raw xs b n space ++ ps) h

pub settled_ends : (names : List (List ℕ)) (sets : List (List Name)) (xs : List (List (model.Hidden Place))) (parts new : List Part) (l : Piece)
    → filled_in xs (map (seen_part names sets) new) ≡ filled_in xs (map (seen_part names sets) parts) ++ tokens_of (seen_piece names sets l ∷ [])
    → (let r : Result (List (model.Hidden Place)) (Failure Place) = Ok (filled_in xs (map (seen_part names sets) parts) ++ tokens_of (seen_piece names sets l ∷ [])) in r) ≡ Ok (filled_in xs (map (seen_part names sets) new))
settled_ends names sets xs parts new l filled = ap Ok (sym filled)

pub argument_first : (names : List (List ℕ)) (sets : List (List Name)) (tokens : List Hidden) (space : Bool) (spaced : Hidden) (ps : List (substitution.Piece Place)) → (length tokens == 0) ≡ false
    → spaced ≡ record { token = record (get_or tokens 0 blank).token { space = space }; hide = (get_or tokens 0 blank).hide }
    → or_placemarker (with_space space (map (seen_hidden names sets) tokens)) ++ ps
    ≡ substitution.piece (seen_hidden names sets spaced) ∷ (pieces_of (map (seen_hidden names sets) (take (length tokens - 1) (drop 1 tokens))) ++ ps)
argument_first names sets tokens space spaced ps some is =
    some_argument names sets tokens space ps some
    ∙ ap (λ t. substitution.piece (seen_hidden names sets t) ∷ (pieces_of (map (seen_hidden names sets) (take (length tokens - 1) (drop 1 tokens))) ++ ps)) (sym is)

pub from_at : {X : Type 0} (xs : List X) (i : ℕ) (d : X) → i < length xs → drop i xs ≡ get_or xs i d ∷ take (length xs - (i + 1)) (drop (i + 1) xs)
from_at {X} xs i d h =
    drop-cons xs i d h ∙ ap (λ ys. get_or xs i d ∷ ys) (ap (λ k. drop k xs) (sym (add-one i)) ∙ sym (take_all (length xs - (i + 1)) (drop (i + 1) xs) (omega (arith, length-drop (i + 1) xs))))

pub tail_at : {X : Type 0} (xs : List X) (i : ℕ) → take (length xs - (i + 1)) (drop (i + 1) xs) ≡ drop (i + 1) xs
tail_at {X} xs i = take_all (length xs - (i + 1)) (drop (i + 1) xs) (omega (arith, length-drop (i + 1) xs))

pub arguments_later : {names later : List (List ℕ)} {sets later_sets : List (List Name)} (raw : List (List Hidden)) → AreHeldArguments names sets raw → Extends names later → Extends sets later_sets
    → AreHeldArguments later later_sets raw
arguments_later {names} {later} {sets} {later_sets} raw held e s = λ k d h. hiddens_later (get_or raw k d) (held k d h) e s
