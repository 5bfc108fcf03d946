-- What a macro's replacement list becomes (C11 6.10.3.1 to 6.10.3.3): four steps, each over the
-- whole list.
use Rattle.std.specs.Prelude.{ℕ, ◌+◌, ◌==◌, ◌&&◌, ◌||◌, not, Bool, true, false, List, [], ◌∷◌, ◌++◌, map, filter, length, codes, Option, Some, None, is_some, Result, Ok, Err, slice_index_or, if◌then◌else◌}
use Rattle.c11_macros.specs.Results.{result_map, result_and_then}
use Rattle.c11_macros.specs.Hidden.{Hidden, HideSet, Provenance, Failure, failure_at, no_names, union, meet}
use Rattle.c11_macros.specs.Macros.{Form, object_like, function_like, Rest, escaped}
use Rattle.sc_model.specs.Token.{Item}
use Rattle.c11_tokens.specs.Relex.{relexed}
use Rattle.sc_model.specs.declared.cause.Cause.TheVariants.{BadPaste, BadStringize}
use Rattle.sc_model.specs.declared.kind.Kind.{Kind}
use Rattle.sc_model.specs.declared.kind.Kind.TheVariants.{Character, Text}
use Rattle.sc_model.specs.Bytes.{same_bytes}
use Rattle.sc_model.specs.Token.{name_of}

-- ---- parameters

-- the rest has this name
abbrev pub is_named : List ℕ → Option Rest → Bool
is_named name None = false
is_named name (Some rest) = same_bytes rest.name name

-- the place of a name among the parameters, the rest after them
abbrev pub parameter_from : ℕ → List (List ℕ) → Option Rest → List ℕ → Option ℕ
parameter_from n [] rest name = if is_named name rest then Some n else None
parameter_from n (p ∷ ps) rest name = if same_bytes p name then Some n else parameter_from (n + 1) ps rest name

abbrev pub parameter_of : Form → List ℕ → Option ℕ
parameter_of object_like name = None
parameter_of (function_like parameters rest) name = parameter_from 0 parameters rest name

-- the argument of a parameter
abbrev pub argument : {A : Type 0} → List (List A) → ℕ → List A
argument arguments n = slice_index_or arguments n []

-- ---- the parts of a list

-- What stands in a replacement list: a token of its own; a # with its parameter, and the white
-- space of the # (6.10.3.2); a parameter and its white space; a ## that joins its neighbours
-- (6.10.3.3); a comma that is deleted where this argument is empty (gcc's manual, Variadic Macros).
pub data Part : Type 0 where
  token : Item → Part
  literal : ℕ → Bool → Part
  parameter : ℕ → Bool → Part
  paste : Part
  comma : Item → ℕ → Part

abbrev pub is_hash : Item → Bool
is_hash item = same_bytes (name_of item.spelling) (codes "#")

abbrev pub is_paste : Item → Bool
is_paste item = same_bytes (name_of item.spelling) (codes "##")

-- what stands before an item: a ##, a # that stringizes it, with the white space of the #, or
-- neither
pub data Before : Type 0 where
  neither : Before
  after_paste : Before
  after_hash : Bool → Before

abbrev pub is_after_paste : Before → Bool
is_after_paste after_paste = true
is_after_paste _ = false

abbrev pub begins_with_parameter : Form → List Item → Bool
begins_with_parameter form [] = false
begins_with_parameter form (item ∷ items) = is_some (parameter_of form item.spelling)

-- the part that an item is which is no operator: a parameter, or a token
abbrev pub operand_part : Before → Item → Option ℕ → Part
operand_part before item None = token item
operand_part (after_hash space) item (Some n) = literal n space
operand_part before item (Some n) = parameter n item.space

-- The parts of a list. A ## behind an operator is its right operand; a # without a parameter, as in
-- an object-like macro, is a token.
abbrev pub parts : Form → Before → List Item → List Part
parts form before [] = []
parts form before (item ∷ items) =
    if is_paste item && not (is_after_paste before) then paste ∷ parts form after_paste items
    else (if is_hash item && begins_with_parameter form items then parts form (after_hash item.space) items
    else operand_part before item (parameter_of form item.spelling) ∷ parts form neither items)

-- ---- a comma, ## and the rest, with no other ## beside them (gcc's manual, Variadic Macros)

abbrev pub is_paste_next : List Part → Bool
is_paste_next (paste ∷ ps) = true
is_paste_next _ = false

-- what stands before a part: a ##, a comma that may be deleted, or neither
pub data Joint : Type 0 where
  apart : Joint
  behind_paste : Joint
  behind_comma : Joint

abbrev pub joint_of : Part → Joint
joint_of paste = behind_paste
joint_of (token item) = if is_paste item then behind_paste else apart
joint_of p = apart

-- the rest, where a comma before it may be deleted
abbrev pub deleting_rest : Form → Option ℕ
deleting_rest object_like = None
deleting_rest (function_like parameters None) = None
deleting_rest (function_like parameters (Some rest)) = if rest.deletes_comma then Some (length parameters) else None

-- ## and the rest come next, and then no ##
abbrev pub is_rest_next : ℕ → List Part → Bool
is_rest_next n (paste ∷ (parameter m space ∷ ps)) = n == m && not (is_paste_next ps)
is_rest_next n ps = false

-- the comma that a part is, where it may be deleted
abbrev pub comma_of : Option ℕ → Joint → Part → List Part → Option Part
comma_of (Some n) apart (token item) ps = if same_bytes item.spelling (codes ",") && is_rest_next n ps then Some (comma item n) else None
comma_of rest before p ps = None

abbrev pub first_part : Option Part → Part → List Part → List Part → List Part
first_part None p others behind = p ∷ others
first_part (Some c) p others behind = c ∷ behind

-- the ## behind a comma that may be deleted pastes nothing
abbrev pub with_commas : Option ℕ → Joint → List Part → List Part
with_commas rest before [] = []
with_commas rest behind_comma (p ∷ ps) = with_commas rest apart ps
with_commas rest before (p ∷ ps) = first_part (comma_of rest before p ps) p (with_commas rest (joint_of p) ps) (with_commas rest behind_comma ps)

abbrev pub parts_of : Form → List Item → List Part
parts_of form items = with_commas (deleting_rest form) apart (parts form neither items)

abbrev pub is_empty : {A : Type 0} → List A → Bool
is_empty [] = true
is_empty (x ∷ xs) = false

abbrev pub is_deleted : {A : Type 0} → List (List A) → Part → Bool
is_deleted raw (comma item n) = is_empty (argument raw n)
is_deleted raw p = false

-- the parts without the commas that are deleted
abbrev pub kept : {A : Type 0} → List (List A) → List Part → List Part
kept raw ps = filter (λ p. not (is_deleted raw p)) ps

-- ---- string literals in the place of each # with its parameter (6.10.3.2)

-- a token, a parameter that is still to be replaced, or a ##
pub data Slot (P : Type 0) : Type 0 where
  filled_by : Hidden P → Slot P
  for_parameter : ℕ → Bool → Slot P
  for_paste : Slot P

-- a token of the list itself, which stands where the macro's name does
abbrev pub listed : {P : Type 0} → Hidden P → Item → Hidden P
listed head item = record { kind = item.kind; spelling = item.spelling; space = item.space; place = head.place; hide = no_names }

abbrev pub is_quoted_kind : Kind → Bool
is_quoted_kind Character = true
is_quoted_kind Text = true
is_quoted_kind _ = false

abbrev pub quoted_spelling : {P : Type 0} → Hidden P → List ℕ
quoted_spelling t = if is_quoted_kind t.kind then escaped t.spelling else t.spelling

-- the spellings, with one space where white space stands between two
abbrev pub spellings_after : {P : Type 0} → List (Hidden P) → List ℕ
spellings_after [] = []
spellings_after (t ∷ ts) = (if t.space then 32 ∷ quoted_spelling t else quoted_spelling t) ++ spellings_after ts

abbrev pub spellings : {P : Type 0} → List (Hidden P) → List ℕ
spellings [] = []
spellings (t ∷ ts) = quoted_spelling t ++ spellings_after ts

abbrev pub is_text_kind : Option Kind → Bool
is_text_kind (Some Text) = true
is_text_kind _ = false

-- the string literal of this spelling, with the white space of its #
abbrev pub literal_of : {P : Type 0} → Hidden P → Bool → List ℕ → Result (Hidden P) (Failure P)
literal_of head space spelling =
    if is_text_kind (relexed spelling) then Ok (record { kind = Text; spelling = spelling; space = space; place = head.place; hide = no_names })
    else Err (failure_at BadStringize head)

abbrev pub stringized : {P : Type 0} → Hidden P → Bool → List (Hidden P) → Result (Hidden P) (Failure P)
stringized head space raw = literal_of head space (34 ∷ spellings raw ++ 34 ∷ [])

abbrev pub slot_of : {P : Type 0} → Hidden P → List (List (Hidden P)) → Part → Result (Slot P) (Failure P)
slot_of head raw (token item) = Ok (filled_by (listed head item))
slot_of head raw (literal n space) = result_map filled_by (stringized head space (argument raw n))
slot_of head raw (parameter n space) = Ok (for_parameter n space)
slot_of head raw paste = Ok for_paste
slot_of head raw (comma item n) = Ok (filled_by (listed head item))

abbrev pub slots : {P : Type 0} → Hidden P → List (List (Hidden P)) → List Part → Result (List (Slot P)) (Failure P)
slots head raw [] = Ok []
slots head raw (p ∷ ps) = result_and_then (λ s. result_map (λ rest. s ∷ rest) (slots head raw ps)) (slot_of head raw p)

-- the slots of a macro's list
abbrev pub list_slots : {P : Type 0} → Hidden P → List (List (Hidden P)) → Form → List Item → Result (List (Slot P)) (Failure P)
list_slots head raw form items = slots head raw (kept raw (parts_of form items))

-- ---- parameters replaced by arguments: as they are beside ##, expanded elsewhere (6.10.3.1)

pub data Piece (P : Type 0) : Type 0 where
  piece : Hidden P → Piece P
  operator : Piece P
  -- an empty argument beside ## (6.10.3.3p2)
  placemarker : Piece P

-- the first token has this white space
abbrev pub with_space : {P : Type 0} → Bool → List (Hidden P) → List (Hidden P)
with_space space [] = []
with_space space (t ∷ ts) = record t { space = space } ∷ ts

abbrev pub pieces_of : {P : Type 0} → List (Hidden P) → List (Piece P)
pieces_of ts = map piece ts

abbrev pub or_placemarker : {P : Type 0} → List (Hidden P) → List (Piece P)
or_placemarker [] = placemarker ∷ []
or_placemarker (t ∷ ts) = pieces_of (t ∷ ts)

abbrev pub begins_paste : {P : Type 0} → List (Slot P) → Bool
begins_paste (for_paste ∷ ss) = true
begins_paste _ = false

-- the argument of a parameter: as it is beside ##, or as it expands alone
abbrev pub argument_pieces : {P : Type 0} → List (List (Hidden P)) → List (List (Hidden P)) → Bool → ℕ → Bool → List (Piece P)
argument_pieces raw expanded true n space = or_placemarker (with_space space (argument raw n))
argument_pieces raw expanded false n space = pieces_of (with_space space (argument expanded n))

abbrev pub filled : {P : Type 0} → List (List (Hidden P)) → List (List (Hidden P)) → Bool → List (Slot P) → List (Piece P)
filled raw expanded behind [] = []
filled raw expanded behind (filled_by t ∷ ss) = piece t ∷ filled raw expanded false ss
filled raw expanded behind (for_paste ∷ ss) = operator ∷ filled raw expanded true ss
filled raw expanded behind (for_parameter n space ∷ ss) = argument_pieces raw expanded (behind || begins_paste ss) n space ++ filled raw expanded false ss

-- ---- tokens pasted at each ##, from the left (6.10.3.3)

abbrev pub pasted_as : {P : Type 0} → Hidden P → Hidden P → Hidden P → Option Kind → Result (Piece P) (Failure P)
pasted_as head left right None = Err (failure_at BadPaste head)
pasted_as head left right (Some kind) =
    Ok (piece (record { kind = kind; spelling = left.spelling ++ right.spelling; space = left.space; place = left.place; hide = meet left.hide right.hide }))

abbrev pub pasted : {P : Type 0} → Hidden P → Hidden P → Hidden P → Result (Piece P) (Failure P)
pasted head left right = pasted_as head left right (relexed (left.spelling ++ right.spelling))

-- what two operands make; with a placemarker the other one
abbrev pub joined : {P : Type 0} → Hidden P → Piece P → Piece P → Result (Piece P) (Failure P)
joined head (piece left) (piece right) = pasted head left right
joined head (piece left) other = Ok (piece left)
joined head other right = Ok right

-- the pieces behind a first one that was read
abbrev pub glued : {P : Type 0} → Hidden P → Piece P → List (Piece P) → Result (List (Piece P)) (Failure P)
glued head left [] = Ok (left ∷ [])
glued head left (operator ∷ []) = Ok (left ∷ [])
glued head left (operator ∷ (right ∷ ps)) = result_and_then (λ p. glued head p ps) (joined head left right)
glued head left (right ∷ ps) = result_map (λ rest. left ∷ rest) (glued head right ps)

abbrev pub all_glued : {P : Type 0} → Hidden P → List (Piece P) → Result (List (Piece P)) (Failure P)
all_glued head [] = Ok []
all_glued head (p ∷ ps) = glued head p ps

-- ---- the tokens that are left

abbrev pub tokens_of : {P : Type 0} → List (Piece P) → List (Hidden P)
tokens_of [] = []
tokens_of (piece t ∷ ps) = t ∷ tokens_of ps
tokens_of (p ∷ ps) = tokens_of ps

-- the token hides these names too, and is marked
abbrev pub hidden_by : {P : Type 0} → Provenance P → HideSet → Hidden P → Hidden P
hidden_by provenance names t = record t { hide = union t.hide names; place = provenance.mark t.place }

abbrev pub hiding : {P : Type 0} → Provenance P → HideSet → List (Hidden P) → List (Hidden P)
hiding provenance names ts = map (hidden_by provenance names) ts

-- the slots filled, and pasted
abbrev pub put_together : {P : Type 0} → Provenance P → Hidden P → List (List (Hidden P)) → List (List (Hidden P)) → HideSet → List (Slot P) → Result (List (Hidden P)) (Failure P)
put_together provenance head raw expanded names ss =
    result_map (λ pieces. hiding provenance names (with_space head.space (tokens_of pieces))) (all_glued head (filled raw expanded false ss))

-- The replacement of a macro's name: its list of items, with these arguments as they are and as
-- they expand.
abbrev pub substituted : {P : Type 0} → Provenance P → Form → List Item → Hidden P → List (List (Hidden P)) → List (List (Hidden P)) → HideSet → Result (List (Hidden P)) (Failure P)
substituted provenance form items head raw expanded names = result_and_then (put_together provenance head raw expanded names) (list_slots head raw form items)

-- ---- which arguments are expanded: those with a place beside no # and no ##

-- the parameters with such a place, in the order of the places
abbrev pub wanted_places : Bool → List Part → List ℕ
wanted_places behind [] = []
wanted_places behind (paste ∷ ps) = wanted_places true ps
wanted_places behind (parameter n space ∷ ps) = if behind || is_paste_next ps then wanted_places false ps else n ∷ wanted_places false ps
wanted_places behind (p ∷ ps) = wanted_places false ps

-- each of these once, where it first stands
abbrev pub each_once : List ℕ → List ℕ
each_once [] = []
each_once (n ∷ ns) = n ∷ filter (λ m. not (m == n)) (each_once ns)

-- each once, in the order of its first such place
abbrev pub wanted_of : Form → List Item → List ℕ
wanted_of form items = each_once (wanted_places false (parts_of form items))
