-- Which configurations take the group of an #if or #elif, seen at one.
use Rattle.std.specs.Prelude.{◌≡◌, ℕ, ◌&&◌, ◌||◌, Bool, true, false, List, [], ◌∷◌, ◌++◌, All, codes, map, slice_get, Option, Some, None, Result, Ok, Err, if◌then◌else◌}
use Rattle.c11_expressions.specs.Lines.{Comes, failure}
use Rattle.c11_macros.specs.Hidden.{Failure, Hidden}
use Rattle.c11_macros.specs.Text.{fault_of, unhidden}
use Rattle.c11_tokens.specs.Lex.{is_identifier_kind}
use Rattle.sc_base.specs.declared.fault.Fault.{Fault}
use Rattle.sc_base.specs.declared.id.Cond.{Cond}
use Rattle.sc_base.specs.declared.place.Place as declared_place
use Rattle.sc_base.specs.declared.token.Token.{Token}
use Rattle.sc_base.specs.Seen.{seen, seen_place, text_at}
use Rattle.sc_guarded.specs.Items.{faults_at, items_at, seen_fault}
use Rattle.sc_hoist.specs.Alike.{AreAlike, AreAlikeFaults, IsAlike}
use Rattle.sc_if.specs.declared.deciding.Decided.{Decided}
use Rattle.sc_model.specs.Bytes.{same_bytes}
use Rattle.sc_model.specs.declared.cause.Cause.{Cause}
use Rattle.sc_model.specs.Fault as model
use Rattle.sc_model.specs.Sets.{Sets, IsConfig, IsCond}
use Rattle.sc_model.specs.Token.{Place}
use Rattle.sc_model.specs.declared.standard.Standard.{Standard}

-- ---- what is promised

-- the tokens of an expanded line
abbrev pub line_of : List (List ℕ) → List (List ℕ) → List Token → List (Hidden Place)
line_of names files ts = map unhidden (map (seen names files) ts)

-- The group is taken where the answer says so, without a fault. Where the line is refused, it is
-- not taken, and the failure is the one fault.
abbrev pub Stands : Result Bool (Failure Place) → Bool → List model.Fault → Type 0
Stands (Ok is_taken) taken faults = (taken ≡ is_taken) × (faults ≡ [])
Stands (Err failure) taken faults = (taken ≡ false) × (faults ≡ fault_of failure ∷ [])

-- at the configuration the line decides as it does by itself
pub record IsDecided (standard : Standard) (old new : Sets) (names files : List (List ℕ)) (list : List (Cond × Token)) (hash : declared_place.Place) (d : Decided) (c : List ℕ) : Type 0 where
  pub answer : Result Bool (Failure Place)
  pub comes : Comes standard (seen_place files hash) (Ok (line_of names files (items_at old list c))) answer
  pub stands : Stands answer (new.has d.taken.0 c) (map (seen_fault files) (faults_at new d.faults.items c))

-- both configurations take the group or neither does, and both have each fault or neither
pub record AreDecidedAlike (s : Sets) (a b : List ℕ) (d : Decided) : Type 0 where
  pub taken : IsAlike s a b d.taken
  pub faults : AreAlikeFaults s a b d.faults.items

-- ---- tokens at indexes

abbrev pub picked : Option (Cond × Token) → List Token → List Token
picked None ts = ts
picked (Some item) ts = item.1 ∷ ts

-- the tokens of a list at these indexes
abbrev pub tokens_at : List (Cond × Token) → List ℕ → List Token
tokens_at list [] = []
tokens_at list (place ∷ places) = picked (slice_get list place) (tokens_at list places)

-- ---- what a line with these tokens comes to

-- a `defined` that was not replaced
abbrev pub is_left_over : List (List ℕ) → Token → Bool
is_left_over names t = is_identifier_kind t.kind && same_bytes (text_at names t.spelling.0) (codes "defined")

-- a refusal stands at the # of the line
abbrev pub at_hash : {P : Type 0} → P → Result Bool Cause → Result Bool (Failure P)
at_hash hash (Ok is_taken) = Ok is_taken
at_hash hash (Err cause) = Err (failure cause hash)

-- a line with these tokens comes to this
pub record IsAnswer (standard : Standard) (names : List (List ℕ)) (ts : List Token) (answer : Result Bool Cause) : Type 0 where
  pub comes : (files : List (List ℕ)) (hash : Place) → Comes standard hash (Ok (line_of names files ts)) (at_hash hash answer)

-- one answer is given, that to these tokens
pub record IsAnswered (standard : Standard) (names : List (List ℕ)) (ts : List Token) (given : List (Result Bool Cause)) : Type 0 where
  pub answer : Result Bool Cause
  pub answers : IsAnswer standard names ts answer
  pub is : given ≡ answer ∷ []

-- each configuration of the condition has one answer, that to its tokens, and the others none
pub record AreAnswers (standard : Standard) (old new : Sets) (names : List (List ℕ)) (list : List (Cond × Token)) (live : ℕ) (answers : List (Cond × Result Bool Cause)) : Type 0 where
  pub own : All (λ answer. IsCond new answer.0.0) answers
  pub each : (c : List ℕ) → IsConfig old.arities c → old.has live c ≡ true → IsAnswered standard names (items_at old list c) (items_at new answers c)
  pub others : (c : List ℕ) → IsConfig old.arities c → old.has live c ≡ false → items_at new answers c ≡ []
  pub alike : (a b : List ℕ) → IsConfig old.arities a → IsConfig old.arities b → old.has live a ≡ old.has live b → AreAlike old a b list → AreAlike new a b answers

-- ---- answer by answer

abbrev pub takes : Result Bool Cause → Bool
takes (Ok is_taken) = is_taken
takes (Err cause) = false

abbrev pub failures_of : declared_place.Place → Result Bool Cause → List (Failure declared_place.Place)
failures_of hash (Ok is_taken) = []
failures_of hash (Err cause) = failure cause hash ∷ []

abbrev pub seen_failure : Fault → Failure declared_place.Place
seen_failure f = failure f.cause f.place

abbrev pub failures_at : Sets → List Fault → List ℕ → List (Failure declared_place.Place)
failures_at s faults c = map seen_failure (faults_at s faults c)

-- the configurations of a condition have this answer more
pub record IsEntered (old new : Sets) (hash : declared_place.Place) (cond : Cond) (answer : Result Bool Cause) (d e : Decided) : Type 0 where
  pub own : IsCond new e.taken.0
  pub faults_own : All (λ f. IsCond old f.cond.0) d.faults.items → All (λ f. IsCond new f.cond.0) e.faults.items
  pub places : All (λ f. f.place ≡ hash) d.faults.items → All (λ f. f.place ≡ hash) e.faults.items
  pub taken : (c : List ℕ) → IsConfig old.arities c → new.has e.taken.0 c ≡ (old.has d.taken.0 c || (old.has cond.0 c && takes answer))
  pub failures : (c : List ℕ) → IsConfig old.arities c → All (λ f. IsCond old f.cond.0) d.faults.items
      → failures_at new e.faults.items c ≡ failures_at old d.faults.items c ++ (if old.has cond.0 c then failures_of hash answer else [])
  pub alike : (a b : List ℕ) → IsConfig old.arities a → IsConfig old.arities b → All (λ f. IsCond old f.cond.0) d.faults.items → IsAlike old a b cond
      → AreDecidedAlike old a b d → AreDecidedAlike new a b e

-- the configurations have the answers that the list says, and the others none
pub record AreDecided (old new : Sets) (hash : declared_place.Place) (answers : List (Cond × Result Bool Cause)) (d : Decided) : Type 0 where
  pub own : IsCond new d.taken.0
  pub faults_own : All (λ f. IsCond new f.cond.0) d.faults.items
  pub places : All (λ f. f.place ≡ hash) d.faults.items
  pub each : (c : List ℕ) (answer : Result Bool Cause) → IsConfig old.arities c → items_at old answers c ≡ answer ∷ []
      → (new.has d.taken.0 c ≡ takes answer) × (failures_at new d.faults.items c ≡ failures_of hash answer)
  pub others : (c : List ℕ) → IsConfig old.arities c → items_at old answers c ≡ []
      → (new.has d.taken.0 c ≡ false) × (failures_at new d.faults.items c ≡ [])
  pub alike : (a b : List ℕ) → IsConfig old.arities a → IsConfig old.arities b → AreAlike old a b answers → AreDecidedAlike new a b d
