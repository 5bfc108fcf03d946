-- How far the configurations have read a `_Pragma` operator.
use Rattle.std.specs.Prelude.{◌≡◌, ℕ, ◌&&◌, ◌<◌, ◌++◌, not, Bool, true, false, List, [], ◌∷◌, All, Option, Some, None, is_some, is_none, length, map, slice_get, take, if◌then◌else◌}
use Rattle.std.specs.Option.{option_to_list}
use Rattle.c11_directives.specs.Pragmas.{is_closing, is_opening, is_pragma, is_text}
use Rattle.sc_base.specs.declared.fault.Fault as base
use Rattle.sc_base.specs.declared.id.Cond.{Cond}
use Rattle.sc_base.specs.declared.token.Token as base_token
use Rattle.sc_base.specs.declared.place.Place as base_place
use Rattle.sc_base.specs.Seen.{seen, seen_place}
use Rattle.sc_expand.specs.Thin.{IsNth}
use Rattle.sc_guarded.specs.Items.{faults_at, items_at, seen_fault}
use Rattle.sc_model.specs.declared.cause.Cause.TheVariants.{BadPragma}
use Rattle.sc_model.specs.Fault.{Fault, fault_at}
use Rattle.sc_model.specs.Sets.{Sets, IsCond, IsConfig, IsNever, Keeps}
use Rattle.sc_model.specs.Token.{Place, Token}
use Rattle.sc_prep.specs.Closes.{IsPart, has_none}
use Rattle.sc_prep.specs.declared.pragmas.Pragmas.{Pragmas}

-- What must come next of the operator that is being read, with the place of its name: nothing can
-- where it has no operand.
pub data Awaited : Type 0 where
  no_operator : Awaited
  opening : Place → Awaited
  text : Place → Awaited
  closing : Place → Awaited
  nothing : Place → Awaited

-- behind one more token
abbrev pub awaited_behind : Awaited → Token → Awaited
awaited_behind no_operator t = if is_pragma t then opening t.place else no_operator
awaited_behind (opening p) t = if is_opening t then text p else nothing p
awaited_behind (text p) t = if is_text t then closing p else nothing p
awaited_behind (closing p) t = if is_closing t then no_operator else nothing p
awaited_behind (nothing p) t = nothing p

-- the token is none of an operator
abbrev pub is_outside : Awaited → Token → Bool
is_outside no_operator t = not (is_pragma t)
is_outside _ t = false

-- behind all tokens, and which of them are none of an operator
abbrev pub awaits : Awaited → List Token → Awaited
awaits a [] = a
awaits a (t ∷ ts) = awaits (awaited_behind a t) ts

abbrev pub outside : Awaited → List Token → List Token
outside a [] = []
outside a (t ∷ ts) = if is_outside a t then t ∷ outside (awaited_behind a t) ts else outside (awaited_behind a t) ts

-- why the run is refused that ends here
abbrev pub fault_awaiting : Awaited → Option Fault
fault_awaiting no_operator = None
fault_awaiting (opening p) = Some (fault_at BadPragma p)
fault_awaiting (text p) = Some (fault_at BadPragma p)
fault_awaiting (closing p) = Some (fault_at BadPragma p)
fault_awaiting (nothing p) = Some (fault_at BadPragma p)

abbrev pub awaits_opening : Awaited → Bool
awaits_opening (opening p) = true
awaits_opening _ = false

abbrev pub awaits_text : Awaited → Bool
awaits_text (text p) = true
awaits_text _ = false

abbrev pub awaits_closing : Awaited → Bool
awaits_closing (closing p) = true
awaits_closing _ = false

-- the configuration awaits this
pub record AwaitsAt (s : Sets) (files : List (List ℕ)) (p : Pragmas) (c : List ℕ) (a : Awaited) : Type 0 where
  pub inside : s.has p.inside.0 c ≡ is_some (fault_awaiting a)
  pub opening : s.has p.opening.0 c ≡ awaits_opening a
  pub text : s.has p.text.0 c ≡ awaits_text a
  pub closing : s.has p.closing.0 c ≡ awaits_closing a
  pub faults : map (seen_fault files) (faults_at s p.faults.items c) ≡ option_to_list (fault_awaiting a)

pub record OwnsPragmas (s : Sets) (p : Pragmas) : Type 0 where
  pub inside : IsCond s p.inside.0
  pub opening : IsCond s p.opening.0
  pub text : IsCond s p.text.0
  pub closing : IsCond s p.closing.0
  pub faults : All (λ (f : base.Fault). IsCond s f.cond.0) p.faults.items

-- the faults are in files of which there are so many
abbrev pub ArePragmasPlaced : ℕ → Pragmas → Type 0
ArePragmasPlaced files p = All (λ (f : base.Fault). f.place.file.0 < files) p.faults.items

-- no configuration reads an operator
pub record HasNoPragma (s : Sets) (p : Pragmas) : Type 0 where
  pub owns : OwnsPragmas s p
  pub inside : IsNever s p.inside.0
  pub opening : IsNever s p.opening.0
  pub text : IsNever s p.text.0
  pub closing : IsNever s p.closing.0
  pub faults : p.faults.items ≡ []

-- From one state to the next each configuration awaits this behind what it awaited.
pub record MovesPragmas (old : Sets) (p : Pragmas) (new : Sets) (q : Pragmas) (behind : (files : List (List ℕ)) → List ℕ → Awaited → Awaited) : Type 0 where
  pub owns : OwnsPragmas new q
  pub at : (files : List (List ℕ)) (c : List ℕ) (a : Awaited) → IsConfig old.arities c → AwaitsAt old files p c a → AwaitsAt new files q c (behind files c a)
  pub placed : (files : ℕ) → ArePragmasPlaced files p → ArePragmasPlaced files q

-- behind a token, where an operator is being read
abbrev pub read_behind : Awaited → Token → Awaited
read_behind no_operator t = no_operator
read_behind a t = awaited_behind a t

-- The configurations of the condition read a token. The other condition has those of them that read
-- no operator.
pub record ReadsPragma (names : List (List ℕ)) (old : Sets) (p : Pragmas) (cond : ℕ) (t : base_token.Token) (new : Sets) (q : Pragmas) (free : ℕ) : Type 0 where
  pub moves : MovesPragmas old p new q (λ files c a. if old.has cond c then read_behind a (seen names files t) else a)
  pub own : IsCond new free
  pub within : (c : List ℕ) → IsConfig old.arities c → new.has free c ≡ true → old.has cond c ≡ true
  pub is_free : (files : List (List ℕ)) (c : List ℕ) (a : Awaited) → IsConfig old.arities c → AwaitsAt old files p c a → new.has free c ≡ (old.has cond c && is_none (fault_awaiting a))

-- the configurations of the condition, which read no operator, read the name of one
pub record BeginsPragma (old : Sets) (p : Pragmas) (cond : ℕ) (place : base_place.Place) (new : Sets) (q : Pragmas) : Type 0 where
  pub owns : OwnsPragmas new q
  pub at : (files : List (List ℕ)) (c : List ℕ) (a : Awaited) → IsConfig old.arities c → AwaitsAt old files p c a → (old.has cond c ≡ true → a ≡ no_operator)
      → AwaitsAt new files q c (if old.has cond c then opening (seen_place files place) else a)
  pub placed : (files : ℕ) → place.file.0 < files → ArePragmasPlaced files p → ArePragmasPlaced files q

-- the tokens of the items that the configuration has, if it is one of the condition
abbrev pub tokens_within : (names files : List (List ℕ)) → Sets → List (Cond × base_token.Token) → ℕ → List ℕ → List Token
tokens_within names files s items by c = if s.has by c then map (seen names files) (items_at s items c) else []

-- so many first tokens of those that it has of the items
abbrev pub first_tokens : (names files : List (List ℕ)) → Sets → List (Cond × base_token.Token) → List ℕ → ℕ → List Token
first_tokens names files s items c n = take n (map (seen names files) (items_at s items c))

-- An item that a configuration of the condition has, and that is none of an operator, is put out in
-- an element that the index of the item tells. It stands there behind what was put out of the items
-- before it.
pub record PutsEach (names : List (List ℕ)) (old : Sets) (p : Pragmas) (items : List (Cond × base_token.Token)) (by : ℕ)
    (new : Sets) (kept : List (Cond × base_token.Token)) : Type 0 where
  pub place : ℕ → ℕ
  pub at : (files : List (List ℕ)) (c : List ℕ) (a : Awaited) → IsConfig old.arities c → AwaitsAt old files p c a → old.has by c ≡ true
      → (n i : ℕ) (item : Cond × base_token.Token) → IsNth old items c n i → slice_get items i ≡ Some item
      → is_outside (awaits a (first_tokens names files old items c n)) (seen names files item.1) ≡ true
      → IsNth new kept c (length (outside a (first_tokens names files old items c n))) (place i)

-- The configurations of a condition read items, and those that are none of an operator are put
-- behind a list.
pub record PutsOutside (names : List (List ℕ)) (old : Sets) (p : Pragmas) (items : List (Cond × base_token.Token)) (by : ℕ) (list : List (Cond × base_token.Token))
    (new : Sets) (q : Pragmas) (longer : List (Cond × base_token.Token)) : Type 0 where
  pub kept : List (Cond × base_token.Token)
  pub is : longer ≡ list ++ kept
  pub part : IsPart items new kept
  pub among : (test : base_token.Token → Bool) (c : List ℕ) → IsConfig old.arities c → All (λ t. test t ≡ true) (if old.has by c then items_at old items c else [])
      → All (λ t. test t ≡ true) (items_at new kept c)
  pub owns : OwnsPragmas new q
  pub awaits : (files : List (List ℕ)) (c : List ℕ) (a : Awaited) → IsConfig old.arities c → AwaitsAt old files p c a
      → AwaitsAt new files q c (awaits a (tokens_within names files old items by c))
  pub puts : (files : List (List ℕ)) (c : List ℕ) (a : Awaited) → IsConfig old.arities c → AwaitsAt old files p c a
      → map (seen names files) (items_at new kept c) ≡ outside a (tokens_within names files old items by c)
  pub each : PutsEach names old p items by new kept
  pub placed : (files : ℕ) → All (λ item. item.1.place.file.0 < files) items → ArePragmasPlaced files p → ArePragmasPlaced files q

-- Runs end: the same, and where none of the faults stands, there is one more for an operator that
-- hasn't come to its end.
pub record EndsPragmas (names : List (List ℕ)) (old : Sets) (p : Pragmas) (items : List (Cond × base_token.Token)) (acting : ℕ) (list : List (Cond × base_token.Token)) (faults : List base.Fault)
    (new : Sets) (q : Pragmas) (longer : List (Cond × base_token.Token)) (more : List base.Fault) : Type 0 where
  pub middle : Sets
  pub read : Pragmas
  pub puts : PutsOutside names old p items acting list middle read longer
  pub until : Keeps old middle
  pub unread : List base.Fault
  pub is : more ≡ faults ++ unread
  pub faults_own : All (λ (f : base.Fault). IsCond new f.cond.0) unread
  pub placed : (files : ℕ) → ArePragmasPlaced files read → All (λ (f : base.Fault). f.place.file.0 < files) unread
  pub leaves : MovesPragmas middle read new q (λ files c a. if old.has acting c then no_operator else a)
  pub later : Keeps middle new
  pub told : (files : List (List ℕ)) (c : List ℕ) → IsConfig old.arities c
      → map (seen_fault files) (faults_at new unread c) ≡ (if old.has acting c && has_none old faults c then map (seen_fault files) (faults_at middle read.faults.items c) else [])
