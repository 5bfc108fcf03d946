-- What holds of all tokens that a substitution makes, where it holds of the tokens of the list and
-- of the arguments, and lasts as tokens are made into string literals, pasted and hidden.
use Rattle.std.proofs.Common.{ℕ, zero, suc, ◌&&◌, ◌||◌, not, Bool, true, false, List, [], ◌∷◌, ◌++◌, IfOk, get_or, Option, Some, None, Result, Ok, Err, if◌then◌else◌, codes, cond}
use Rattle.c11_macros.specs.Substitution as substitution
use Rattle.c11_macros.specs.Substitution.{Before, Joint, Part, Piece, Slot, after_hash, after_paste, all_glued, apart, argument, argument_pieces, begins_paste, begins_with_parameter, behind_comma, behind_paste, comma_of, deleting_rest, filled, filled_by, first_part, for_parameter, for_paste, glued, hidden_by, hiding, is_after_paste, is_deleted, is_hash, is_paste, is_rest_next, is_text_kind, joined, joint_of, kept, list_slots, listed, neither, operand_part, operator, or_placemarker, parameter_of, parts, parts_of, pasted_as, piece, pieces_of, placemarker, put_together, slot_of, slots, spellings, stringized, substituted, tokens_of, with_commas, with_space}
use Rattle.sc_expand.proofs.Facts.{both, every-map}
use Rattle.sc_expand.proofs.Terms.{AllByRecursion as Every, BadStringize, Failure, Form, HiddenToken as Hidden, HideSet, Item, Kind, Provenance, Text, failure_at, meet, no_names, relexed, result_and_then, result_map, same_bytes}

-- ---- steps of which each may fail, lists

pub ok-map : {A B E : Type 0} (C : A → Type 0) (D : B → Type 0) (g : A → B) → ((x : A) → C x → D (g x)) → (r : Result A E) → IfOk r C → IfOk (result_map g r) D
ok-map C D g h (Ok x) k = h x k
ok-map C D g h (Err e) k = tt

pub ok-then : {A B E : Type 0} (C : A → Type 0) (D : B → Type 0) (g : A → Result B E) → ((x : A) → C x → IfOk (g x) D) → (r : Result A E) → IfOk r C → IfOk (result_and_then g r) D
ok-then C D g h (Ok x) k = h x k
ok-then C D g h (Err e) k = tt

pub every-append : {A : Type 0} (C : A → Type 0) (xs ys : List A) → Every C xs → Every C ys → Every C (xs ++ ys)
every-append C [] ys h k = k
every-append C (x ∷ xs) ys h k = (h.0, every-append C xs ys h.1 k)

every-get : {A : Type 0} (C : A → Type 0) (xs : List A) (n : ℕ) (d : A) → C d → Every C xs → C (get_or xs n d)
every-get C [] n d h k = h
every-get C (x ∷ xs) zero d h k = k.0
every-get C (x ∷ xs) (suc n) d h k = every-get C xs n d h k.1

module _ {P : Type 0} (provenance : Provenance P) (T : Hidden P → Type 0) (I : Item → Type 0) where
  -- in the place of this name
  pub record Lasts (head : Hidden P) : Type 0 where
    pub of_item : (item : Item) → I item → T (listed head item)
    pub of_literal : (space : Bool) (ts : List (Hidden P)) → Every T ts → T (record { kind = Text; spelling = 34 ∷ spellings ts ++ 34 ∷ []; space = space; place = head.place; hide = no_names })
    pub of_paste : (kind : Kind) (l r : Hidden P) → T l → T r → T (record { kind = kind; spelling = l.spelling ++ r.spelling; space = l.space; place = l.place; hide = meet l.hide r.hide })
    pub of_space : (space : Bool) (t : Hidden P) → T t → T (record t { space = space })
    pub of_hide : (names : HideSet) (t : Hidden P) → T t → T (hidden_by provenance names t)

  abbrev PartOf : Part → Type 0
  PartOf (substitution.token item) = I item
  PartOf (substitution.literal n space) = Unit {0}
  PartOf (substitution.parameter n space) = Unit {0}
  PartOf substitution.paste = Unit {0}
  PartOf (substitution.comma item n) = I item

  operand-of : (before : Before) (item : Item) (o : Option ℕ) → I item → PartOf (operand_part before item o)
  operand-of before item None h = h
  operand-of neither item (Some n) h = tt
  operand-of after_paste item (Some n) h = tt
  operand-of (after_hash space) item (Some n) h = tt

  parts-of : (form : Form) (before : Before) (list : List Item) → Every I list → Every PartOf (parts form before list)
  parts-of form before [] h = tt
  parts-of form before (item ∷ list) h =
      let operand = operand_part before item (parameter_of form item.spelling) ∷ parts form neither list in
      let literal = parts form (after_hash item.space) list in
      both (Every PartOf) (is_paste item && not (is_after_paste before)) (substitution.paste ∷ parts form after_paste list) (if is_hash item && begins_with_parameter form list then literal else operand)
      (tt, parts-of form after_paste list h.1)
      (both (Every PartOf) (is_hash item && begins_with_parameter form list) literal operand (parts-of form (after_hash item.space) list h.1)
      (operand-of before item (parameter_of form item.spelling) h.0, parts-of form neither list h.1))

  -- a part, or the comma that it is
  first-of : (rest : Option ℕ) (before : Joint) (p : Part) (ps others behind : List Part) → PartOf p → Every PartOf others → Every PartOf behind
      → Every PartOf (first_part (comma_of rest before p ps) p others behind)
  first-of None before p ps others behind h k m = (h, k)
  first-of (Some n) apart (substitution.token item) ps others behind h k m =
      both (λ o. Every PartOf (first_part o (substitution.token item) others behind)) (same_bytes item.spelling (codes ",") && is_rest_next n ps) (Some (substitution.comma item n)) None (h, m) (h, k)
  first-of (Some n) apart (substitution.literal m space) ps others behind h k l = (h, k)
  first-of (Some n) apart (substitution.parameter m space) ps others behind h k l = (h, k)
  first-of (Some n) apart substitution.paste ps others behind h k l = (h, k)
  first-of (Some n) apart (substitution.comma item m) ps others behind h k l = (h, k)
  first-of (Some n) behind_paste p ps others behind h k m = (h, k)
  first-of (Some n) behind_comma p ps others behind h k m = (h, k)

  commas-of : (rest : Option ℕ) (before : Joint) (ps : List Part) → Every PartOf ps → Every PartOf (with_commas rest before ps)
  commas-of rest before [] h = tt
  commas-of rest apart (p ∷ ps) h = first-of rest apart p ps (with_commas rest (joint_of p) ps) (with_commas rest behind_comma ps) h.0 (commas-of rest (joint_of p) ps h.1) (commas-of rest behind_comma ps h.1)
  commas-of rest behind_paste (p ∷ ps) h =
      first-of rest behind_paste p ps (with_commas rest (joint_of p) ps) (with_commas rest behind_comma ps) h.0 (commas-of rest (joint_of p) ps h.1) (commas-of rest behind_comma ps h.1)
  commas-of rest behind_comma (p ∷ ps) h = commas-of rest apart ps h.1

  kept-of : (raw : List (List (Hidden P))) (ps : List Part) → Every PartOf ps → Every PartOf (kept raw ps)
  kept-of raw [] h = tt
  kept-of raw (p ∷ ps) h = by (is_deleted raw p) (kept-of raw ps h.1)
    where
      by : (b : Bool) → Every PartOf (kept raw ps) → Every PartOf (cond (not b) (p ∷ kept raw ps) (kept raw ps))
      by true rest = rest
      by false rest = (h.0, rest)

  abbrev SlotOf : Slot P → Type 0
  SlotOf (filled_by t) = T t
  SlotOf (for_parameter n space) = Unit {0}
  SlotOf for_paste = Unit {0}

  abbrev PieceOf : Piece P → Type 0
  PieceOf (piece t) = T t
  PieceOf operator = Unit {0}
  PieceOf placemarker = Unit {0}

  pub argument-of : (lists : List (List (Hidden P))) (n : ℕ) → Every (Every T) lists → Every T (argument lists n)
  argument-of lists n h = every-get (Every T) lists n [] tt h

  tokens-of : (ps : List (Piece P)) → Every PieceOf ps → Every T (tokens_of ps)
  tokens-of [] h = tt
  tokens-of (piece t ∷ ps) h = (h.0, tokens-of ps h.1)
  tokens-of (operator ∷ ps) h = tokens-of ps h.1
  tokens-of (placemarker ∷ ps) h = tokens-of ps h.1

  pieces-of : (ts : List (Hidden P)) → Every T ts → Every PieceOf (pieces_of ts)
  pieces-of ts h = every-map T PieceOf piece (λ t k. k) ts h

  or_placemarker-of : (ts : List (Hidden P)) → Every T ts → Every PieceOf (or_placemarker ts)
  or_placemarker-of [] h = (tt, tt)
  or_placemarker-of (t ∷ ts) h = pieces-of (t ∷ ts) h

  module _ (head : Hidden P) (lasts : Lasts head) where
    with_space-of : (space : Bool) (ts : List (Hidden P)) → Every T ts → Every T (with_space space ts)
    with_space-of space [] h = tt
    with_space-of space (t ∷ ts) h = (lasts.of_space space t h.0, h.1)

    -- ---- tokens pasted at each ##

    pasted_as-of : (left right : Hidden P) (kind : Option Kind) → T left → T right → IfOk (pasted_as head left right kind) PieceOf
    pasted_as-of left right None h k = tt
    pasted_as-of left right (Some kind) h k = lasts.of_paste kind left right h k

    joined-of : (left right : Piece P) → PieceOf left → PieceOf right → IfOk (joined head left right) PieceOf
    joined-of (piece left) (piece right) h k = pasted_as-of left right (relexed (left.spelling ++ right.spelling)) h k
    joined-of (piece left) operator h k = h
    joined-of (piece left) placemarker h k = h
    joined-of operator right h k = k
    joined-of placemarker right h k = k

    glued-of : (left : Piece P) (ps : List (Piece P)) → PieceOf left → Every PieceOf ps → IfOk (glued head left ps) (Every PieceOf)
    glued-of left [] h k = (h, tt)
    glued-of left (operator ∷ []) h k = (h, tt)
    glued-of left (operator ∷ (right ∷ ps)) h k = ok-then PieceOf (Every PieceOf) (λ p. glued head p ps) (λ p one. glued-of p ps one k.1.1) (joined head left right) (joined-of left right h k.1.0)
    glued-of left (piece t ∷ ps) h k = ok-map (Every PieceOf) (Every PieceOf) (λ rest. left ∷ rest) (λ rest more. (h, more)) (glued head (piece t) ps) (glued-of (piece t) ps k.0 k.1)
    glued-of left (placemarker ∷ ps) h k = ok-map (Every PieceOf) (Every PieceOf) (λ rest. left ∷ rest) (λ rest more. (h, more)) (glued head placemarker ps) (glued-of placemarker ps tt k.1)

    all_glued-of : (ps : List (Piece P)) → Every PieceOf ps → IfOk (all_glued head ps) (Every PieceOf)
    all_glued-of [] h = tt
    all_glued-of (p ∷ ps) h = glued-of p ps h.0 h.1

    -- ---- arguments in the places of parameters

    module _ (raw expanded : List (List (Hidden P))) (each_raw : Every (Every T) raw) (each_expanded : Every (Every T) expanded) where
      slot-of : (p : Part) → PartOf p → IfOk (slot_of head raw p) SlotOf
      slot-of (substitution.token item) h = lasts.of_item item h
      slot-of (substitution.literal n space) h =
          let ts = argument raw n in
          let text : Hidden P = record { kind = Text; spelling = 34 ∷ spellings ts ++ 34 ∷ []; space = space; place = head.place; hide = no_names } in
          ok-map T SlotOf filled_by (λ t k. k) (stringized head space ts)
          (both (λ (r : Result (Hidden P) (Failure P)). IfOk r T) (is_text_kind (relexed text.spelling)) (Ok text) (Err (failure_at BadStringize head)) (lasts.of_literal space ts (argument-of raw n each_raw)) tt)
      slot-of (substitution.parameter n space) h = tt
      slot-of substitution.paste h = tt
      slot-of (substitution.comma item n) h = lasts.of_item item h

      slots-of : (ps : List Part) → Every PartOf ps → IfOk (slots head raw ps) (Every SlotOf)
      slots-of [] h = tt
      slots-of (p ∷ ps) h =
          ok-then SlotOf (Every SlotOf) (λ s. result_map (λ rest. s ∷ rest) (slots head raw ps))
          (λ s k. ok-map (Every SlotOf) (Every SlotOf) (λ rest. s ∷ rest) (λ rest more. (k, more)) (slots head raw ps) (slots-of ps h.1))
          (slot_of head raw p) (slot-of p h.0)

      argument_pieces-of : (beside : Bool) (n : ℕ) (space : Bool) → Every PieceOf (argument_pieces raw expanded beside n space)
      argument_pieces-of true n space = or_placemarker-of (with_space space (argument raw n)) (with_space-of space (argument raw n) (argument-of raw n each_raw))
      argument_pieces-of false n space = pieces-of (with_space space (argument expanded n)) (with_space-of space (argument expanded n) (argument-of expanded n each_expanded))

      filled-of : (behind : Bool) (ss : List (Slot P)) → Every SlotOf ss → Every PieceOf (filled raw expanded behind ss)
      filled-of behind [] h = tt
      filled-of behind (filled_by t ∷ ss) h = (h.0, filled-of false ss h.1)
      filled-of behind (for_paste ∷ ss) h = (tt, filled-of true ss h.1)
      filled-of behind (for_parameter n space ∷ ss) h =
          every-append PieceOf (argument_pieces raw expanded (behind || begins_paste ss) n space) (filled raw expanded false ss) (argument_pieces-of (behind || begins_paste ss) n space) (filled-of false ss h.1)

      pub substituted-of : (form : Form) (list : List Item) (names : HideSet) → Every I list → IfOk (substituted provenance form list head raw expanded names) (Every T)
      substituted-of form list names h =
          ok-then (Every SlotOf) (Every T) (put_together provenance head raw expanded names)
          (λ ss own.
          ok-map (Every PieceOf) (Every T) (λ pieces. hiding provenance names (with_space head.space (tokens_of pieces)))
          (λ pieces k. every-map T T (hidden_by provenance names) (lasts.of_hide names) (with_space head.space (tokens_of pieces)) (with_space-of head.space (tokens_of pieces) (tokens-of pieces k)))
          (all_glued head (filled raw expanded false ss)) (all_glued-of (filled raw expanded false ss) (filled-of false ss own)))
          (list_slots head raw form list) (slots-of (kept raw (parts_of form list)) (kept-of raw (parts_of form list) (commas-of (deleting_rest form) apart (parts form neither list) (parts-of form neither list h))))
