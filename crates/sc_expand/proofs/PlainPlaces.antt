-- Expansion commutes with a map of what is kept of the places of tokens.
use Rattle.std.proofs.Common.{◌≡◌, is_ok, ℕ, zero, suc, ◌==◌, ◌&&◌, ◌||◌, Bool, true, false, List, [], ◌∷◌, ◌++◌, map, length, codes, Option, Some, None, Result, Ok, Err, refl, sym, ap, subst, ◌∙◌, if◌then◌else◌, is_some, not, cond}
use Rattle.c11_macros.specs.Call.{Call, Role, opening, closing, comma, other, apart, arguments_for, call_of, call_step, counts_for, filled_up, given, is_nothing, onto, onto_argument, role_of}
use Rattle.c11_macros.specs.Expansion.{Case, stays, replaced, unclosed, misfit, called, asked, call_case, call_result, case_of, defined_case, fitted_case, form_case, is_looked_up, list_of, looked_up_case, object_result, with_first, Expands, empty, stay, object, unterminated, miscounted, call, Each, next, none, stops, Rescans, on, refused}
use Rattle.c11_macros.specs.Substitution as substitution
use Rattle.c11_macros.specs.Substitution.{Part, Piece, Slot, all_glued, argument, argument_pieces, begins_paste, filled, filled_by, for_parameter, for_paste, glued, hidden_by, hiding, is_deleted, is_empty, is_text_kind, joined, kept, list_slots, literal_of, operator, or_placemarker, parts_of, put_together, wanted_of, pasted_as, piece, pieces_of, placemarker, quoted_spelling, slot_of, slots, spellings, spellings_after, stringized, substituted, tokens_of, with_space}
use Rattle.c11_macros.specs.Trace.{ExpandsBy, Trace, after_step, both, failing, looked_up_at, looks_up, stands, takes, taking, taking_call, trace, trace_each, trace_rescan}
use Rattle.sc_expand.proofs.Facts.{EachBy, RescansBy, get_or-map, length-map, map-append, map-set}
use Rattle.sc_expand.proofs.Terms.{BadStringize, Definition, Failure, Form, HiddenToken as Hidden, HideSet, IsKept, Item, Kind, Macros, Provenance, Text, failure_at, function_like, list_at, meet, moved, moved_answer, moved_failure, no_names, object_like, option_map, relexed, result_and_then, result_map, same_bytes, with_name}

-- ---- steps of which each may fail

-- what a step gives, and its failure, each mapped
abbrev pub carried : {A B E F : Type 0} → (A → B) → (E → F) → Result A E → Result B F
carried f g (Ok a) = Ok (f a)
carried f g (Err e) = Err (g e)

carried-map : {A B C D E F : Type 0} (a : A → B) (b : C → D) (e : E → F) (g : A → C) (h : B → D) → ((x : A) → h (a x) ≡ b (g x)) → (r : Result A E)
    → result_map h (carried a e r) ≡ carried b e (result_map g r)
carried-map a b e g h same (Ok x) = ap (λ y. Ok y) (same x)
carried-map a b e g h same (Err x) = refl

carried-then : {A B C D E F : Type 0} (a : A → B) (b : C → D) (e : E → F) (g : A → Result C E) (h : B → Result D F) → ((x : A) → h (a x) ≡ carried b e (g x)) → (r : Result A E)
    → result_and_then h (carried a e r) ≡ carried b e (result_and_then g r)
carried-then a b e g h same (Ok x) = same x
carried-then a b e g h same (Err x) = refl

carried-ok : {A B E F : Type 0} (a : A → B) (e : E → F) (r : Result A E) → is_ok (carried a e r) ≡ is_ok r
carried-ok a e (Ok x) = refl
carried-ok a e (Err x) = refl

carried-if : {A B : Type 0} (g : A → B) (c : Bool) (x y : A) → (if c then g x else g y) ≡ g (if c then x else y)
carried-if g true x y = refl
carried-if g false x y = refl

module _ {P Q : Type 0} (f : P → Q) where
  abbrev pub all : List (Hidden P) → List (Hidden Q)
  all = map (moved f)

  moved-carried : (r : Result (List (Hidden P)) (Failure P)) → carried all (moved_failure f) r ≡ moved_answer f r
  moved-carried (Ok ts) = refl
  moved-carried (Err e) = refl

  -- ---- the parts of a list

  abbrev moved_slot : Slot P → Slot Q
  moved_slot (filled_by t) = filled_by (moved f t)
  moved_slot (for_parameter n space) = for_parameter n space
  moved_slot for_paste = for_paste

  abbrev moved_piece : Piece P → Piece Q
  moved_piece (piece t) = piece (moved f t)
  moved_piece operator = operator
  moved_piece placemarker = placemarker

  argument-moved : (raw : List (List (Hidden P))) (n : ℕ) → argument (map all raw) n ≡ all (argument raw n)
  argument-moved raw n = get_or-map all raw n []

  spellings_after-moved : (ts : List (Hidden P)) → spellings_after (all ts) ≡ spellings_after ts
  spellings_after-moved [] = refl
  spellings_after-moved (t ∷ ts) = ap (λ s. (if t.space then 32 ∷ quoted_spelling t else quoted_spelling t) ++ s) (spellings_after-moved ts)

  spellings-moved : (ts : List (Hidden P)) → spellings (all ts) ≡ spellings ts
  spellings-moved [] = refl
  spellings-moved (t ∷ ts) = ap (λ s. quoted_spelling t ++ s) (spellings_after-moved ts)

  -- the string literal of #
  module _ (head : Hidden P) where
    literal-moved : (space : Bool) (spelling : List ℕ) → literal_of (moved f head) space spelling ≡ carried (moved f) (moved_failure f) (literal_of head space spelling)
    literal-moved space spelling =
        let text : Hidden P = record { kind = Text; spelling = spelling; space = space; place = head.place; hide = no_names } in
        carried-if (carried (moved f) (moved_failure f)) (is_text_kind (relexed spelling)) (Ok text) (Err (failure_at BadStringize head))

    stringized-moved : (space : Bool) (raw : List (Hidden P)) → stringized (moved f head) space (all raw) ≡ carried (moved f) (moved_failure f) (stringized head space raw)
    stringized-moved space raw =
        ap (λ s. literal_of (moved f head) space (34 ∷ s ++ 34 ∷ [])) (spellings-moved raw) ∙ literal-moved space (34 ∷ spellings raw ++ 34 ∷ [])

    module _ (raw : List (List (Hidden P))) where
      slot-moved : (p : Part) → slot_of (moved f head) (map all raw) p ≡ carried moved_slot (moved_failure f) (slot_of head raw p)
      slot-moved (substitution.token item) = refl
      slot-moved (substitution.literal n space) =
          ap (λ ts. result_map filled_by (stringized (moved f head) space ts)) (argument-moved raw n)
          ∙ ap (result_map filled_by) (stringized-moved space (argument raw n))
          ∙ carried-map (moved f) moved_slot (moved_failure f) filled_by filled_by (λ t. refl) (stringized head space (argument raw n))
      slot-moved (substitution.parameter n space) = refl
      slot-moved substitution.paste = refl
      slot-moved (substitution.comma item n) = refl

      slots-moved : (ps : List Part) → slots (moved f head) (map all raw) ps ≡ carried (map moved_slot) (moved_failure f) (slots head raw ps)
      slots-moved [] = refl
      slots-moved (p ∷ ps) =
          ap (result_and_then (λ s. result_map (λ rest. s ∷ rest) (slots (moved f head) (map all raw) ps))) (slot-moved p)
          ∙ carried-then moved_slot (map moved_slot) (moved_failure f) (λ s. result_map (λ rest. s ∷ rest) (slots head raw ps)) (λ s. result_map (λ rest. s ∷ rest) (slots (moved f head) (map all raw) ps))
          (λ s.
          ap (result_map (λ rest. moved_slot s ∷ rest)) (slots-moved ps)
          ∙ carried-map (map moved_slot) (map moved_slot) (moved_failure f) (λ rest. s ∷ rest) (λ rest. moved_slot s ∷ rest) (λ rest. refl) (slots head raw ps))
          (slot_of head raw p)

      -- the same commas are deleted
      deleted-moved : (p : Part) → is_deleted (map all raw) p ≡ is_deleted raw p
      deleted-moved (substitution.token item) = refl
      deleted-moved (substitution.literal n space) = refl
      deleted-moved (substitution.parameter n space) = refl
      deleted-moved substitution.paste = refl
      deleted-moved (substitution.comma item n) = ap is_empty (argument-moved raw n) ∙ empty-moved (argument raw n)
        where
          empty-moved : (ts : List (Hidden P)) → is_empty (all ts) ≡ is_empty ts
          empty-moved [] = refl
          empty-moved (t ∷ ts) = refl

      kept-moved : (ps : List Part) → kept (map all raw) ps ≡ kept raw ps
      kept-moved [] = refl
      kept-moved (p ∷ ps) =
          ap (λ b. cond (not b) (p ∷ kept (map all raw) ps) (kept (map all raw) ps)) (deleted-moved p)
          ∙ ap (λ qs. cond (not (is_deleted raw p)) (p ∷ qs) qs) (kept-moved ps)

      list_slots-moved : (form : Form) (items : List Item) → list_slots (moved f head) (map all raw) form items ≡ carried (map moved_slot) (moved_failure f) (list_slots head raw form items)
      list_slots-moved form items = ap (slots (moved f head) (map all raw)) (kept-moved (parts_of form items)) ∙ slots-moved (kept raw (parts_of form items))

  -- ---- arguments in the places of parameters

  with_space-moved : (space : Bool) (ts : List (Hidden P)) → with_space space (all ts) ≡ all (with_space space ts)
  with_space-moved space [] = refl
  with_space-moved space (t ∷ ts) = refl

  pieces-moved : (ts : List (Hidden P)) → pieces_of (all ts) ≡ map moved_piece (pieces_of ts)
  pieces-moved [] = refl
  pieces-moved (t ∷ ts) = ap (λ ps. piece (moved f t) ∷ ps) (pieces-moved ts)

  or_placemarker-moved : (ts : List (Hidden P)) → or_placemarker (all ts) ≡ map moved_piece (or_placemarker ts)
  or_placemarker-moved [] = refl
  or_placemarker-moved (t ∷ ts) = pieces-moved (t ∷ ts)

  begins_paste-moved : (ss : List (Slot P)) → begins_paste (map moved_slot ss) ≡ begins_paste ss
  begins_paste-moved [] = refl
  begins_paste-moved (filled_by t ∷ ss) = refl
  begins_paste-moved (for_parameter n space ∷ ss) = refl
  begins_paste-moved (for_paste ∷ ss) = refl

  module _ (raw expanded : List (List (Hidden P))) where
    argument_pieces-moved : (beside : Bool) (n : ℕ) (space : Bool) → argument_pieces (map all raw) (map all expanded) beside n space ≡ map moved_piece (argument_pieces raw expanded beside n space)
    argument_pieces-moved true n space =
        ap (λ ts. or_placemarker (with_space space ts)) (argument-moved raw n)
        ∙ (ap or_placemarker (with_space-moved space (argument raw n)) ∙ or_placemarker-moved (with_space space (argument raw n)))
    argument_pieces-moved false n space =
        ap (λ ts. pieces_of (with_space space ts)) (argument-moved expanded n)
        ∙ (ap pieces_of (with_space-moved space (argument expanded n)) ∙ pieces-moved (with_space space (argument expanded n)))

    filled-moved : (behind : Bool) (ss : List (Slot P)) → filled (map all raw) (map all expanded) behind (map moved_slot ss) ≡ map moved_piece (filled raw expanded behind ss)
    filled-moved behind [] = refl
    filled-moved behind (filled_by t ∷ ss) = ap (λ rest. piece (moved f t) ∷ rest) (filled-moved false ss)
    filled-moved behind (for_paste ∷ ss) = ap (λ rest. operator ∷ rest) (filled-moved true ss)
    filled-moved behind (for_parameter n space ∷ ss) =
        (λ i. argument_pieces (map all raw) (map all expanded) (behind || begins_paste-moved ss i) n space ++ filled-moved false ss i)
        ∙ (ap (λ here. here ++ map moved_piece (filled raw expanded false ss)) (argument_pieces-moved (behind || begins_paste ss) n space)
        ∙ sym (map-append moved_piece (argument_pieces raw expanded (behind || begins_paste ss) n space) (filled raw expanded false ss)))

  -- ---- tokens pasted at each ##

  module _ (head : Hidden P) where
    pasted_as-moved : (left right : Hidden P) (kind : Option Kind) → pasted_as (moved f head) (moved f left) (moved f right) kind ≡ carried moved_piece (moved_failure f) (pasted_as head left right kind)
    pasted_as-moved left right None = refl
    pasted_as-moved left right (Some kind) = refl

    joined-moved : (left right : Piece P) → joined (moved f head) (moved_piece left) (moved_piece right) ≡ carried moved_piece (moved_failure f) (joined head left right)
    joined-moved (piece left) (piece right) = pasted_as-moved left right (relexed (left.spelling ++ right.spelling))
    joined-moved (piece left) operator = refl
    joined-moved (piece left) placemarker = refl
    joined-moved operator right = refl
    joined-moved placemarker right = refl

    glued-moved : (left : Piece P) (ps : List (Piece P)) → glued (moved f head) (moved_piece left) (map moved_piece ps) ≡ carried (map moved_piece) (moved_failure f) (glued head left ps)
    glued-moved left [] = refl
    glued-moved left (operator ∷ []) = refl
    glued-moved left (operator ∷ (right ∷ ps)) =
        ap (result_and_then (λ p. glued (moved f head) p (map moved_piece ps))) (joined-moved left right)
        ∙ carried-then moved_piece (map moved_piece) (moved_failure f) (λ p. glued head p ps) (λ p. glued (moved f head) p (map moved_piece ps)) (λ p. glued-moved p ps) (joined head left right)
    glued-moved left (piece t ∷ ps) =
        ap (result_map (λ rest. moved_piece left ∷ rest)) (glued-moved (piece t) ps)
        ∙ carried-map (map moved_piece) (map moved_piece) (moved_failure f) (λ rest. left ∷ rest) (λ rest. moved_piece left ∷ rest) (λ rest. refl) (glued head (piece t) ps)
    glued-moved left (placemarker ∷ ps) =
        ap (result_map (λ rest. moved_piece left ∷ rest)) (glued-moved placemarker ps)
        ∙ carried-map (map moved_piece) (map moved_piece) (moved_failure f) (λ rest. left ∷ rest) (λ rest. moved_piece left ∷ rest) (λ rest. refl) (glued head placemarker ps)

    all_glued-moved : (ps : List (Piece P)) → all_glued (moved f head) (map moved_piece ps) ≡ carried (map moved_piece) (moved_failure f) (all_glued head ps)
    all_glued-moved [] = refl
    all_glued-moved (p ∷ ps) = glued-moved p ps

  tokens-moved : (ps : List (Piece P)) → tokens_of (map moved_piece ps) ≡ all (tokens_of ps)
  tokens-moved [] = refl
  tokens-moved (piece t ∷ ps) = ap (λ ts. moved f t ∷ ts) (tokens-moved ps)
  tokens-moved (operator ∷ ps) = tokens-moved ps
  tokens-moved (placemarker ∷ ps) = tokens-moved ps

  -- ---- what is to be done at a token

  abbrev moved_call : Call P → Call Q
  moved_call found = record { arguments = map all found.arguments; close = moved f found.close; rest = all found.rest }

  abbrev pub moved_case : Case P → Case Q
  moved_case stays = stays
  moved_case (replaced d) = replaced d
  moved_case unclosed = unclosed
  moved_case (misfit after) = misfit (all after)
  moved_case (called d arguments close after) = called d (map all arguments) (moved f close) (all after)

  onto_argument-moved : (t : Hidden P) (arguments : List (List (Hidden P))) → onto_argument (moved f t) (map all arguments) ≡ map all (onto_argument t arguments)
  onto_argument-moved t [] = refl
  onto_argument-moved t (argument ∷ arguments) = refl

  onto-moved : (t : Hidden P) (o : Option (Call P)) → onto (moved f t) (option_map moved_call o) ≡ option_map moved_call (onto t o)
  onto-moved t None = refl
  onto-moved t (Some found) = ap (λ arguments. Some (record { arguments = arguments; close = moved f found.close; rest = all found.rest })) (onto_argument-moved t found.arguments)

  apart-moved : (o : Option (Call P)) → apart (option_map moved_call o) ≡ option_map moved_call (apart o)
  apart-moved None = refl
  apart-moved (Some found) = refl

  call_step-moved : (role : Role) (commas depth : ℕ) (t : Hidden P) (ts : List (Hidden P)) (go : ℕ → ℕ → Option (Call P)) (other_go : ℕ → ℕ → Option (Call Q)) → ((c d : ℕ) → other_go c d ≡ option_map moved_call (go c d))
      → call_step role commas depth (moved f t) (all ts) other_go ≡ option_map moved_call (call_step role commas depth t ts go)
  call_step-moved closing commas zero t ts go other_go same = refl
  call_step-moved closing commas (suc depth) t ts go other_go same = ap (onto (moved f t)) (same commas depth) ∙ onto-moved t (go commas depth)
  call_step-moved opening commas depth t ts go other_go same = ap (onto (moved f t)) (same commas (suc depth)) ∙ onto-moved t (go commas (suc depth))
  call_step-moved comma (suc commas) zero t ts go other_go same = ap apart (same commas zero) ∙ apart-moved (go commas zero)
  call_step-moved comma zero zero t ts go other_go same = ap (onto (moved f t)) (same zero zero) ∙ onto-moved t (go zero zero)
  call_step-moved comma zero (suc depth) t ts go other_go same = ap (onto (moved f t)) (same zero (suc depth)) ∙ onto-moved t (go zero (suc depth))
  call_step-moved comma (suc commas) (suc depth) t ts go other_go same = ap (onto (moved f t)) (same (suc commas) (suc depth)) ∙ onto-moved t (go (suc commas) (suc depth))
  call_step-moved other commas depth t ts go other_go same = ap (onto (moved f t)) (same commas depth) ∙ onto-moved t (go commas depth)

  call_of-moved : (commas depth : ℕ) (ts : List (Hidden P)) → call_of commas depth (all ts) ≡ option_map moved_call (call_of commas depth ts)
  call_of-moved commas depth [] = refl
  call_of-moved commas depth (t ∷ ts) =
      call_step-moved (role_of t.spelling) commas depth t ts (λ c d. call_of c d ts) (λ c d. call_of c d (all ts)) (λ c d. call_of-moved c d ts)

  is_nothing-moved : (arguments : List (List (Hidden P))) → is_nothing (map all arguments) ≡ is_nothing arguments
  is_nothing-moved [] = refl
  is_nothing-moved ([] ∷ []) = refl
  is_nothing-moved ([] ∷ (a ∷ more)) = refl
  is_nothing-moved ((t ∷ ts) ∷ more) = refl

  given-moved : (parameters : List (List ℕ)) (variadic : Bool) (arguments : List (List (Hidden P))) → given parameters variadic (map all arguments) ≡ map all (given parameters variadic arguments)
  given-moved [] false arguments = ap (λ b. if b then [] else map all arguments) (is_nothing-moved arguments) ∙ carried-if (map all) (is_nothing arguments) [] arguments
  given-moved [] true arguments = refl
  given-moved (p ∷ ps) false arguments = refl
  given-moved (p ∷ ps) true arguments = refl

  filled_up-moved : (parameters : List (List ℕ)) (variadic : Bool) (arguments : List (List (Hidden P))) → filled_up parameters variadic (map all arguments) ≡ map all (filled_up parameters variadic arguments)
  filled_up-moved parameters variadic arguments =
      ap (λ n. if variadic && n == length parameters then map all arguments ++ [] ∷ [] else map all arguments) (length-map arguments all)
      ∙ ap (λ more. if variadic && length arguments == length parameters then more else map all arguments) (sym (map-append all arguments ([] ∷ [])))
      ∙ carried-if (map all) (variadic && length arguments == length parameters) (arguments ++ [] ∷ []) arguments

  fitting-moved : (parameters : List (List ℕ)) (variadic : Bool) (arguments : List (List (Hidden P)))
      → (if counts_for parameters variadic (length (map all arguments)) then Some (filled_up parameters variadic (map all arguments)) else None)
      ≡ option_map (map all) (if counts_for parameters variadic (length arguments) then Some (filled_up parameters variadic arguments) else None)
  fitting-moved parameters variadic arguments =
      ap (λ n. if counts_for parameters variadic n then Some (filled_up parameters variadic (map all arguments)) else None) (length-map arguments all)
      ∙ ap (λ xs. if counts_for parameters variadic (length arguments) then Some xs else None) (filled_up-moved parameters variadic arguments)
      ∙ carried-if (option_map (map all)) (counts_for parameters variadic (length arguments)) (Some (filled_up parameters variadic arguments)) None

  arguments_for-moved : (parameters : List (List ℕ)) (variadic : Bool) (arguments : List (List (Hidden P)))
      → arguments_for parameters variadic (map all arguments) ≡ option_map (map all) (arguments_for parameters variadic arguments)
  arguments_for-moved parameters variadic arguments =
      ap (λ xs. if counts_for parameters variadic (length xs) then Some (filled_up parameters variadic xs) else None) (given-moved parameters variadic arguments)
      ∙ fitting-moved parameters variadic (given parameters variadic arguments)

  fitted-moved : (d : Definition) (close : Hidden P) (rest : List (Hidden P)) (o : Option (List (List (Hidden P))))
      → fitted_case d (moved f close) (all rest) (option_map (map all) o) ≡ moved_case (fitted_case d close rest o)
  fitted-moved d close rest None = refl
  fitted-moved d close rest (Some arguments) = refl

  call_case-moved : (d : Definition) (parameters : List (List ℕ)) (variadic : Bool) (o : Option (Call P)) → call_case d parameters variadic (option_map moved_call o) ≡ moved_case (call_case d parameters variadic o)
  call_case-moved d parameters variadic None = refl
  call_case-moved d parameters variadic (Some found) =
      ap (fitted_case d (moved f found.close) (all found.rest)) (arguments_for-moved parameters variadic found.arguments)
      ∙ fitted-moved d found.close found.rest (arguments_for parameters variadic found.arguments)

  form_case-moved : (d : Definition) (form : Form) (rest : List (Hidden P)) → form_case d form (all rest) ≡ moved_case (form_case d form rest)
  form_case-moved d object_like rest = refl
  form_case-moved d (function_like parameters variadic) [] = refl
  form_case-moved d (function_like parameters variadic) (t ∷ ts) =
      let opens = same_bytes t.spelling (codes "(") in
      let here = call_of (length parameters) zero ts in
      ap (λ k. if opens then k else stays) (ap (call_case d parameters (is_some variadic)) (call_of-moved (length parameters) zero ts) ∙ call_case-moved d parameters (is_some variadic) here)
      ∙ carried-if moved_case opens (call_case d parameters (is_some variadic) here) stays

  defined_case-moved : (o : Option Definition) (rest : List (Hidden P)) → defined_case o (all rest) ≡ moved_case (defined_case o rest)
  defined_case-moved None rest = refl
  defined_case-moved (Some d) rest = form_case-moved d d.form rest

  looked_up_case-moved : (macros : Macros) (looked : Bool) (name : List ℕ) (rest : List (Hidden P)) → looked_up_case macros looked name (all rest) ≡ moved_case (looked_up_case macros looked name rest)
  looked_up_case-moved macros true name rest = defined_case-moved (macros name) rest
  looked_up_case-moved macros false name rest = refl

  pub case_of-moved : (macros : Macros) (t : Hidden P) (rest : List (Hidden P)) → case_of macros (moved f t) (all rest) ≡ moved_case (case_of macros t rest)
  case_of-moved macros t rest = looked_up_case-moved macros (is_looked_up t) t.spelling rest

  -- and it stays just if it did
  pub stays-moved : (k : Case P) → moved_case k ≡ stays → k ≡ stays
  stays-moved stays is = refl
  stays-moved (replaced d) is = absurd (cc)
  stays-moved unclosed is = absurd (cc)
  stays-moved (misfit after) is = absurd (cc)
  stays-moved (called d arguments close after) is = absurd (cc)

  -- an argument that is asked for, with its parameter
  abbrev moved_ask : ℕ × List (Hidden P) → ℕ × List (Hidden Q)
  moved_ask ask = (ask.0, all ask.1)

  asks-moved : (arguments : List (List (Hidden P))) (ns : List ℕ) → map (λ n. (n, argument (map all arguments) n)) ns ≡ map moved_ask (map (λ n. (n, argument arguments n)) ns)
  asks-moved arguments [] = refl
  asks-moved arguments (n ∷ ns) = λ i. (n, argument-moved arguments n i) ∷ asks-moved arguments ns i

  unexpanded-moved : (arguments : List (List (Hidden P))) → map {B = List (Hidden Q)} (λ a. []) (map all arguments) ≡ map all (map (λ a. []) arguments)
  unexpanded-moved [] = refl
  unexpanded-moved (a ∷ others) = ap (λ lists. [] ∷ lists) (unexpanded-moved others)

  with_first-moved : (t : Hidden P) (r : Result (List (Hidden P)) (Failure P)) → with_first (moved f t) (moved_answer f r) ≡ moved_answer f (with_first t r)
  with_first-moved t (Ok ts) = refl
  with_first-moved t (Err failure) = refl

  -- ---- what was used

  taking-moved : (t : Hidden P) (rest : List (Hidden P)) → taking (moved f t) (all rest) ≡ taking t rest
  taking-moved t rest = ap (λ n. record { steps = 1; looked_up = looked_up_at t; uses = stands (suc n) ∷ looks_up (looked_up_at t) ∷ [] }) (length-map rest (moved f))

  taking_call-moved : (after : List (Hidden P)) → taking_call (all after) ≡ taking_call after
  taking_call-moved after = ap (λ n. record { steps = 0; looked_up = []; uses = takes n ∷ [] }) (length-map after (moved f))

  -- ---- replacements and expansions

  module _ {one : Provenance P} {two : Provenance Q} (kept : IsKept one two f) where
    hiding-moved : (names : HideSet) (ts : List (Hidden P)) → hiding two names (all ts) ≡ all (hiding one names ts)
    hiding-moved names [] = refl
    hiding-moved names (t ∷ ts) =
        ap (λ place. record (hidden_by two names (moved f t)) { place = place } ∷ hiding two names (all ts)) (sym (kept.mark t.place))
        ∙ ap (λ rest. moved f (hidden_by one names t) ∷ rest) (hiding-moved names ts)

    list_of-moved : (d : Definition) (head : Hidden P) → list_of two d (moved f head) ≡ list_of one d head
    list_of-moved d head = ap (list_at d.replacement) (kept.place head.place)

    module _ (head : Hidden P) (raw expanded : List (List (Hidden P))) (names : HideSet) where
      put-moved : (ss : List (Slot P)) → put_together two (moved f head) (map all raw) (map all expanded) names (map moved_slot ss) ≡ carried all (moved_failure f) (put_together one head raw expanded names ss)
      put-moved ss =
          let ends : List (Piece P) → List (Hidden P) = λ pieces. hiding one names (with_space head.space (tokens_of pieces)) in
          let other_ends : List (Piece Q) → List (Hidden Q) = λ pieces. hiding two names (with_space head.space (tokens_of pieces)) in
          ap (λ ps. result_map other_ends (all_glued (moved f head) ps)) (filled-moved raw expanded false ss)
          ∙ ap (result_map other_ends) (all_glued-moved head (filled raw expanded false ss))
          ∙ carried-map (map moved_piece) all (moved_failure f) ends other_ends
          (λ pieces.
          ap (λ ts. hiding two names (with_space head.space ts)) (tokens-moved pieces)
          ∙ ap (hiding two names) (with_space-moved head.space (tokens_of pieces))
          ∙ hiding-moved names (with_space head.space (tokens_of pieces)))
          (all_glued head (filled raw expanded false ss))

      substituted-moved : (form : Form) (items : List Item) → substituted two form items (moved f head) (map all raw) (map all expanded) names ≡ moved_answer f (substituted one form items head raw expanded names)
      substituted-moved form items =
          ap (result_and_then (put_together two (moved f head) (map all raw) (map all expanded) names)) (list_slots-moved head raw form items)
          ∙ carried-then (map moved_slot) all (moved_failure f) (put_together one head raw expanded names) (put_together two (moved f head) (map all raw) (map all expanded) names) put-moved (list_slots head raw form items)
          ∙ moved-carried (substituted one form items head raw expanded names)

    pub object_result-moved : (d : Definition) (t : Hidden P) → object_result two d (moved f t) ≡ moved_answer f (object_result one d t)
    object_result-moved d t =
        ap (λ list. substituted two d.form list (moved f t) [] [] (with_name t.hide t.spelling)) (list_of-moved d t)
        ∙ substituted-moved t [] [] (with_name t.hide t.spelling) d.form (list_of one d t)

    pub call_result-moved : (d : Definition) (t : Hidden P) (arguments : List (List (Hidden P))) (close : Hidden P) (results : Result (List (List (Hidden P))) (Failure P))
        → call_result two d (moved f t) (map all arguments) (moved f close) (carried (map all) (moved_failure f) results) ≡ moved_answer f (call_result one d t arguments close results)
    call_result-moved d t arguments close (Ok lists) =
        ap (λ list. substituted two d.form list (moved f t) (map all arguments) (map all lists) (with_name (meet t.hide close.hide) t.spelling)) (list_of-moved d t)
        ∙ substituted-moved t arguments lists (with_name (meet t.hide close.hide) t.spelling) d.form (list_of one d t)
    call_result-moved d t arguments close (Err failure) = refl

    asked-moved : (d : Definition) (t : Hidden P) (arguments : List (List (Hidden P))) → asked two d (moved f t) (map all arguments) ≡ map moved_ask (asked one d t arguments)
    asked-moved d t arguments =
        let list = list_of one d t in
        let ask : List Item → Bool → List (ℕ × List (Hidden Q)) = λ items b. if b then map (λ n. (n, argument (map all arguments) n)) (wanted_of d.form items) else [] in
        ap (λ items. ask items (is_ok (list_slots (moved f t) (map all arguments) d.form items))) (list_of-moved d t)
        ∙ ap (ask list) (ap is_ok (list_slots-moved t arguments d.form list) ∙ carried-ok (map moved_slot) (moved_failure f) (list_slots t arguments d.form list))
        ∙ ap (λ asks. if is_ok (list_slots t arguments d.form list) then asks else []) (asks-moved arguments (wanted_of d.form list))
        ∙ carried-if (map moved_ask) (is_ok (list_slots t arguments d.form list)) (map (λ n. (n, argument arguments n)) (wanted_of d.form list)) []

    module _ (macros : Macros) where
      -- the arguments that are asked for
      asks-back : (d : Definition) (t : Hidden P) (arguments : List (List (Hidden P))) (results : Result (List (List (Hidden Q))) (Failure Q)) (x : Trace)
          → EachBy two macros (map moved_ask (asked one d t arguments)) (map all (map (λ a. []) arguments)) results x → EachBy two macros (asked two d (moved f t) (map all arguments)) (map (λ a. []) (map all arguments)) results x
      asks-back d t arguments results x = subst (λ (p : List (ℕ × List (Hidden Q)) × List (List (Hidden Q))). EachBy two macros p.0 p.1 results x) (λ i. (sym (asked-moved d t arguments) i, sym (unexpanded-moved arguments) i))

      mutual
        -- what a list expands to is mapped with the list, and its trace is the same
        pub expands-moved : {ts : List (Hidden P)} {r : Result (List (Hidden P)) (Failure P)} (d : Expands one macros ts r) → ExpandsBy two macros (map (moved f) ts) (moved_answer f r) (trace d)
        expands-moved empty = record { expands = empty; by = refl }
        expands-moved (stay {t} {rest} {r} is d) =
            let e = expands-moved d in
            subst (λ a. ExpandsBy two macros (moved f t ∷ all rest) a (both (taking t rest) (trace d))) (with_first-moved t r)
            (record { expands = stay (case_of-moved macros t rest ∙ ap moved_case is) e.expands; by = λ i. both (taking-moved t rest i) (e.by i) })
        expands-moved (object {t} {rest} {r} d is g) =
            let h = subst (λ made. RescansBy two macros made (all rest) (moved_answer f r) (trace_rescan g)) (sym (object_result-moved d t)) (rescans-moved g) in
            record { expands = object d (case_of-moved macros t rest ∙ ap moved_case is) h.goes; by = λ i. both (taking-moved t rest i) (h.by i) }
        expands-moved (unterminated {t} {rest} is) = record { expands = unterminated (case_of-moved macros t rest ∙ ap moved_case is); by = λ i. both (taking-moved t rest i) failing }
        expands-moved (miscounted {t} {rest} after is) =
            record { expands = miscounted (all after) (case_of-moved macros t rest ∙ ap moved_case is); by = λ i. both (taking-moved t rest i) (both (taking_call-moved after i) failing) }
        expands-moved (call {t} {rest} {r} d arguments close after results is each g) =
            let lists = carried (map all) (moved_failure f) results in
            let every = asks-back d t arguments lists (trace_each each) (each-moved each) in
            let h = subst (λ made. RescansBy two macros made (all after) (moved_answer f r) (trace_rescan g)) (sym (call_result-moved d t arguments close results)) (rescans-moved g) in
            record {
              expands = call d (map all arguments) (moved f close) (all after) lists (case_of-moved macros t rest ∙ ap moved_case is) every.each h.goes;
              by = λ i. both (both (taking-moved t rest i) (taking_call-moved after i)) (both (every.by i) (h.by i));
            }

        each-moved : {asks : List (ℕ × List (Hidden P))} {lists : List (List (Hidden P))} {r : Result (List (List (Hidden P))) (Failure P)} (each : Each one macros asks lists r)
            → EachBy two macros (map moved_ask asks) (map all lists) (carried (map all) (moved_failure f) r) (trace_each each)
        each-moved none = record { each = none; by = refl }
        each-moved (next {ask} {asks} {lists} {r} list first others) =
            let e = expands-moved first in
            let more = subst (λ l. EachBy two macros (map moved_ask asks) l (carried (map all) (moved_failure f) r) (trace_each others)) (map-set all lists ask.0 list) (each-moved others) in
            record { each = next (all list) e.expands more.each; by = λ i. both (after_step (e.by i)) (more.by i) }
        each-moved (stops failure first) = let e = expands-moved first in record { each = stops (moved_failure f failure) e.expands; by = ap after_step e.by }

        rescans-moved : {made : Result (List (Hidden P)) (Failure P)} {rest : List (Hidden P)} {r : Result (List (Hidden P)) (Failure P)} (g : Rescans one macros made rest r) → RescansBy two macros (moved_answer f made) (all rest) (moved_answer f r) (trace_rescan g)
        rescans-moved (on {body} {rest} {r} d) =
            let e = subst (λ ts. ExpandsBy two macros ts (moved_answer f r) (trace d)) (map-append (moved f) body rest) (expands-moved d) in
            record { goes = on e.expands; by = e.by }
        rescans-moved (refused failure) = record { goes = refused (moved_failure f failure); by = refl }

      pub called-each-moved : (d : Definition) (t : Hidden P) (arguments : List (List (Hidden P))) {results : Result (List (List (Hidden P))) (Failure P)} → Each one macros (asked one d t arguments) (map (λ a. []) arguments) results
          → Each two macros (asked two d (moved f t) (map all arguments)) (map (λ a. []) (map all arguments)) (carried (map all) (moved_failure f) results)
      called-each-moved d t arguments {results} each = (asks-back d t arguments (carried (map all) (moved_failure f) results) (trace_each each) (each-moved each)).each
