-- Each configuration has its tokens, or a first fault.
use Rattle.std.proofs.Common.{◌≡◌, ℕ, zero, suc, ◌+◌, ◌<◌, ◌≤◌, inl, inr, Bool, true, false, ◌||◌, All, List, [], ◌∷◌, ◌++◌, length, map, Option, Some, None, Result, Ok, Err, refl, sym, ap, ◌∙◌, subst, append_assoc, arith, if◌then◌else◌}
use Rattle.std.specs.List.{list_any}
use Rattle.std.specs.Option.{option_and_then, option_map, option_or}
use Rattle.std.specs.Prelude.{slice_get}
use Rattle.std.proofs.lemmas.List.Elements.{All-cons, All-head, All-nil, All-tail}
use Rattle.std.proofs.lemmas.List.Folds.{list_any-append}
use Rattle.std.proofs.lemmas.Option.{none-some}
use Rattle.std.proofs.lemmas.Bool.{cases_Bool, cases_lt, true≢false}
use Rattle.c11_directives.specs.declared.directive.Directive.{Directive}
use Rattle.c11_directives.specs.declared.directive.Directive.TheVariants as directive
use Rattle.c11_directives.specs.declared.directive.Test.{Test}
use Rattle.c11_directives.specs.Behind.{Says, as_it_stands, begins_with_header, behind_name, expanded, is_numbering}
use Rattle.c11_directives.specs.Lines.{Group, Branches, Line, IsGroup, AreBranches, Tree, alternative, closing, conditional_in, empty, group_lines, branch_lines, conditional_of, hash_of, nested, otherwise, plain, section, test_in, test_of}
use Rattle.c11_directives.proofs.PragmaLaws.{pragmas-some}
use Rattle.c11_directives.specs.Pragmas as pragma
use Rattle.c11_directives.specs.Pragmas.{RunBecomes}
use Rattle.c11_directives.specs.Pre.{Carries, Changes, Closes, Context, Decides, Defines, Enters, File, Includes, Pre, RefusedAt, State, Steps, Walks, WalksBranches, back, context_of, decided, deeper, file_lines, initial_state, inside, is_barrier, is_said, operand_of, output_of, place_in, put_out, search, is_once_file, state_behind, undefined, with_macro, with_text, without_macro}
use Rattle.c11_directives.specs.Pre as pre
use Rattle.c11_directives.proofs.DecidesLaws.{some_decision}
use Rattle.c11_directives.proofs.SomeNesting.{HaveHashes, lines-hashes, tree-some}
use Rattle.c11_headers.specs.Headers.{Header, candidates, header_of}
use Rattle.c11_macros.proofs.Halting.{halts}
use Rattle.c11_macros.proofs.SameLaws.{same_definition-false, same_definition-true}
use Rattle.c11_macros.specs.Defines.{Defined, is_protected, reads}
use Rattle.c11_macros.specs.Expansion.{IsWithin}
use Rattle.c11_macros.specs.Macros.{Definition, Macros, definition_named, definition_of, initial_macros, predefined_macros, variable_definition}
use Rattle.c11_macros.specs.Results.{result_map}
use Rattle.c11_macros.specs.Same.{same_definition}
use Rattle.c11_macros.specs.Text.{TextExpands, place_alone, text_of_answer, unhidden}
use Rattle.c11_tokens.proofs.SomeAnswer.{lexed-some}
use Rattle.sc_model.proofs.ByteLemmas.{same_bytes-refl, same_bytes-true}
use Rattle.sc_model.specs.Bytes.{same_bytes}
use Rattle.sc_model.specs.declared.cause.Cause.{Cause}
use Rattle.sc_model.specs.declared.cause.Cause.TheVariants.{BadDirective, BadNesting, ErrorDirective, FileTooLarge, IncludeDepth, NotFound, ProtectedName, Redefined, UnterminatedComment}
use Rattle.sc_model.specs.Fault.{Fault, fault_at, first_place}
use Rattle.sc_model.specs.Outside.{Files, largest_file}
use Rattle.sc_model.specs.Space.{Space, Variable}
use Rattle.c11_tokens.specs.Lex.{Lexed}
use Rattle.sc_model.specs.Token.{Lexeme, Place, Position, Token, in_file}

-- finitely many names are defined
pub record AreFinite (macros : Macros) : Type 0 where
  pub names : List (List ℕ)
  pub within : IsWithin names macros

-- a walk goes on from here: finitely many names are defined, and the files are nested so deep
record GoesOn (depth : ℕ) (s : State) : Type 0 where
  finite : AreFinite s.macros
  deep : s.depth ≡ depth

abbrev EndsWell : ℕ → Result State Fault → Type 0
EndsWell depth (Ok t) = GoesOn depth t
EndsWell depth (Err fault) = Unit {0}

-- there is an end of this, and where it is no fault a walk goes on from it
record HasEnd (depth : ℕ) (Ends : Result State Fault → Type 0) : Type 0 where
  end : Result State Fault
  ends : Ends end
  well : EndsWell depth end

-- ---- lists

all-left : {A : Type 0} (P : A → Type 0) (xs ys : List A) → All P (xs ++ ys) → All P xs
all-left P [] ys all = All-nil P
all-left P (x ∷ xs) ys all = All-cons P x xs (All-head P x (xs ++ ys) all) (all-left P xs ys (All-tail P x (xs ++ ys) all))

all-right : {A : Type 0} (P : A → Type 0) (xs ys : List A) → All P (xs ++ ys) → All P ys
all-right P [] ys all = all
all-right P (x ∷ xs) ys all = all-right P xs ys (All-tail P x (xs ++ ys) all)

-- ---- the macros

or-right : (a b : Bool) → b ≡ true → (a || b) ≡ true
or-right true b h = refl
or-right false b h = h

or-left : (a b : Bool) → a ≡ true → (a || b) ≡ true
or-left true b h = refl
or-left false b h = absurd (true≢false (sym h))

same-turned : (a b : List ℕ) → same_bytes a b ≡ true → same_bytes b a ≡ true
same-turned a b same = ap (same_bytes b) (same_bytes-true a b same) ∙ same_bytes-refl b

-- one more name
defined-finite : (macros : Macros) (d : Defined) → AreFinite macros → AreFinite (with_macro macros d)
defined-finite macros d finite = record { names = d.name ∷ finite.names; within = record { each = λ name def at. by name def (same_bytes d.name name) refl at } }
  where
    by : (name : List ℕ) (def : Definition) (b : Bool) → same_bytes d.name name ≡ b → (if b then Some d.definition else macros name) ≡ Some def → list_any (same_bytes name) (d.name ∷ finite.names) ≡ true
    by name def true same at = or-left (same_bytes name d.name) (list_any (same_bytes name) finite.names) (same-turned d.name name same)
    by name def false same at = or-right (same_bytes name d.name) (list_any (same_bytes name) finite.names) (finite.within.each name def at)

undefined-finite : (macros : Macros) (name : List ℕ) → AreFinite macros → AreFinite (without_macro macros name)
undefined-finite macros name finite = record { names = finite.names; within = record { each = λ other def at. by other def (same_bytes name other) at } }
  where
    by : (other : List ℕ) (def : Definition) (b : Bool) → (if b then None else macros other) ≡ Some def → list_any (same_bytes other) finite.names ≡ true
    by other def true at = absurd (none-some def at)
    by other def false at = finite.within.each other def at

named : (ms : List (List ℕ × Definition)) (name : List ℕ) (d : Definition) → definition_named ms name ≡ Some d → list_any (same_bytes name) (map (λ (m : List ℕ × Definition). m.0) ms) ≡ true
named [] name d at = absurd (none-some d at)
named (m ∷ ms) name d at = by (same_bytes name m.0) at (λ later. named ms name d later)
  where
    by : (b : Bool) → (if b then Some m.1 else definition_named ms name) ≡ Some d → (definition_named ms name ≡ Some d → list_any (same_bytes name) (map (λ (m : List ℕ × Definition). m.0) ms) ≡ true)
        → (b || list_any (same_bytes name) (map (λ (m : List ℕ × Definition). m.0) ms)) ≡ true
    by true at later = refl
    by false at later = later at

variable-named : (vs : List Variable) (config name : List ℕ) (d : Definition) → variable_definition vs config name ≡ Some d → list_any (same_bytes name) (map (λ (v : Variable). v.name) vs) ≡ true
variable-named [] config name d at = absurd (none-some d at)
variable-named (v ∷ vs) [] name d at = absurd (none-some d at)
variable-named (v ∷ vs) (k ∷ ks) name d at = by (same_bytes v.name name) refl at (λ later. variable-named vs ks name d later)
  where
    by : (b : Bool) → same_bytes v.name name ≡ b → (if b then option_and_then definition_of (slice_get v.options k) else variable_definition vs ks name) ≡ Some d
        → (variable_definition vs ks name ≡ Some d → list_any (same_bytes name) (map (λ (v : Variable). v.name) vs) ≡ true)
        → (same_bytes name v.name || list_any (same_bytes name) (map (λ (v : Variable). v.name) vs)) ≡ true
    by true same at later = or-left (same_bytes name v.name) _ (same-turned v.name name same)
    by false same at later = or-right (same_bytes name v.name) _ (later at)

abbrev own_names : Space → List (List ℕ)
own_names space = map (λ (m : List ℕ × Definition). m.0) (predefined_macros space.date space.time)

abbrev other_names : Space → List (List ℕ)
other_names space = map (λ (v : Variable). v.name) space.variables

pub initial-finite : (space : Space) (config : List ℕ) → AreFinite (initial_macros space config)
initial-finite space config =
    record { names = own_names space ++ other_names space; within = record { each = λ name d at. by name d (definition_named (predefined_macros space.date space.time) name) refl at } }
  where
    by : (name : List ℕ) (d : Definition) (first : Option Definition) → definition_named (predefined_macros space.date space.time) name ≡ first
        → option_or first (variable_definition space.variables config name) ≡ Some d → list_any (same_bytes name) (own_names space ++ other_names space) ≡ true
    by name d (Some e) is at =
        list_any-append (same_bytes name) (own_names space) (other_names space)
        ∙ or-left (list_any (same_bytes name) (own_names space)) (list_any (same_bytes name) (other_names space)) (named (predefined_macros space.date space.time) name e is)
    by name d None is at =
        list_any-append (same_bytes name) (own_names space) (other_names space)
        ∙ or-right (list_any (same_bytes name) (own_names space)) (list_any (same_bytes name) (other_names space)) (variable-named space.variables config name d at)

-- ---- one line

refused-at : (s : State) (line : Line) (hash : Token) (cause : Cause) → hash_of line ≡ Some hash → RefusedAt s line cause (fault_at cause (place_in s hash))
refused-at s line hash cause at = record { cause_is = refl; place_is = ap (option_map (place_in s)) at }

text-some : (macros : Macros) → AreFinite macros → (text : List Token) → (r : Result (List Token) Fault) × TextExpands macros text r
text-some macros finite text =
    let x = halts place_alone macros finite.names finite.within (map unhidden text) in
    (text_of_answer x.0, record { answer = x.0; expands = x.1; is = refl })

run-some : (macros : Macros) → AreFinite macros → (run : List Token) → (r : Result (List Token) Fault) × RunBecomes macros run r
run-some macros finite run = by (text-some macros finite run).0 (text-some macros finite run).1
  where
    by : (r : Result (List Token) Fault) → TextExpands macros run r → (s : Result (List Token) Fault) × RunBecomes macros run s
    by (Ok ts) is = let x = pragmas-some ts in (x.0, pragma.expanded ts is x.1)
    by (Err fault) is = (Err fault, pragma.not_expanded fault is)

closes-some : (depth : ℕ) (s : State) → GoesOn depth s → HasEnd depth (Closes s)
closes-some depth s goes = by (run-some s.macros goes.finite s.run).0 (run-some s.macros goes.finite s.run).1
  where
    by : (r : Result (List Token) Fault) → RunBecomes s.macros s.run r → HasEnd depth (Closes s)
    by (Ok output) is = record { end = Ok (put_out s output); ends = pre.closed output is; well = record { finite = goes.finite; deep = goes.deep } }
    by (Err fault) is = record { end = Err fault; ends = pre.refused fault is; well = tt }

says-some : (macros : Macros) → AreFinite macros → (line : Line) → (r : Result (List Token) Fault) × Says macros line r
says-some macros finite line = elim (cases_Bool (begins_with_header (behind_name line))) [
  | inl header ↦ (Ok (behind_name line), as_it_stands header)
  | inr other ↦ (let x = text-some macros finite (behind_name line) in (x.0, expanded other x.1))
]

defines-some : (macros : Macros) (d : Defined) → AreFinite macros → (r : Result Macros Cause) × Defines macros d r
defines-some macros d finite = by (macros d.name) refl
  where
    by : (o : Option Definition) → macros d.name ≡ o → (r : Result Macros Cause) × Defines macros d r
    by None is = (Ok (with_macro macros d), pre.fresh is)
    by (Some other) is = elim (cases_Bool (same_definition other d.definition)) [
      | inl same ↦ (Ok (with_macro macros d), pre.again (is ∙ ap Some (same_definition-true other d.definition same)))
      | inr differs ↦ (Err Redefined, pre.redefined other is (same_definition-false other d.definition differs))
    ]

module _ (context : Context) (depth : ℕ) (enter : (file : File) (t : State) → GoesOn (depth + 1) t → depth < context.include_depth → HasEnd (depth + 1) (Enters context file t)) where
  -- what a directive makes of the macros
  changes-some : (line : Line) (s : State) (d : Directive) (hash : Token) → hash_of line ≡ Some hash → GoesOn depth s → (r : Result Macros Cause) → Changes s.macros line d r
      → ((macros : Macros) → r ≡ Ok macros → AreFinite macros) → HasEnd depth (Carries context line s d)
  changes-some line s d hash at goes (Ok macros) changes finite =
      record { end = Ok (state_behind s line d macros); ends = pre.changed macros changes; well = record { finite = finite macros refl; deep = goes.deep } }
  changes-some line s d hash at goes (Err cause) changes finite =
      record { end = Err (fault_at cause (place_in s hash)); ends = pre.not_changed cause (fault_at cause (place_in s hash)) changes (refused-at s line hash cause at); well = tt }

  no-macros : {cause : Cause} (macros : Macros) → Err cause ≡ Ok macros → AreFinite macros
  no-macros macros e = absurd (cc)

  abbrev accepted : Macros → Result Macros Cause
  accepted macros = Ok macros

  same-macros : {old : Macros} → AreFinite old → (macros : Macros) → accepted old ≡ Ok macros → AreFinite macros
  same-macros {old} finite macros e = let same : old ≡ macros = cc in subst AreFinite same finite

  defining : (line : Line) (s : State) (hash : Token) → hash_of line ≡ Some hash → GoesOn depth s → (r : Result Defined Cause) → reads line.standard (behind_name line) ≡ r → HasEnd depth (Carries context line s directive.Define)
  defining line s hash at goes (Err cause) reads_as = changes-some line s directive.Define hash at goes (Err cause) (pre.defines_nothing cause reads_as) no-macros
  defining line s hash at goes (Ok d) reads_as =
      by (defines-some s.macros d goes.finite).0 (defines-some s.macros d goes.finite).1
    where
      by : (r : Result Macros Cause) → Defines s.macros d r → HasEnd depth (Carries context line s directive.Define)
      by r (pre.fresh none) = changes-some line s directive.Define hash at goes r (pre.defines d reads_as (pre.fresh none)) (same-macros (defined-finite s.macros d goes.finite))
      by r (pre.again same) = changes-some line s directive.Define hash at goes r (pre.defines d reads_as (pre.again same)) (same-macros (defined-finite s.macros d goes.finite))
      by r (pre.redefined other is differs) = changes-some line s directive.Define hash at goes r (pre.defines d reads_as (pre.redefined other is differs)) no-macros

  undefining : (line : Line) (s : State) (hash : Token) → hash_of line ≡ Some hash → GoesOn depth s → HasEnd depth (Carries context line s directive.Undef)
  undefining line s hash at goes = changes-some line s directive.Undef hash at goes (undefined s.macros (operand_of line)) pre.undefines (finite (operand_of line))
    where
      finite : (o : Option (List ℕ)) (macros : Macros) → undefined s.macros o ≡ Ok macros → AreFinite macros
      finite None macros e = absurd (cc)
      finite (Some name) macros e = by (is_protected name) e
        where
          by : (b : Bool) → (if b then Err ProtectedName else Ok (without_macro s.macros name)) ≡ Ok macros → AreFinite macros
          by true e = absurd (cc)
          by false e = same-macros (undefined-finite s.macros name goes.finite) macros e

  numbering : (line : Line) (s : State) (hash : Token) → hash_of line ≡ Some hash → GoesOn depth s → (r : Result (List Token) Fault) → Says s.macros line r → HasEnd depth (Carries context line s directive.Line)
  numbering line s hash at goes (Err fault) says = record { end = Err fault; ends = pre.not_expanded fault refl says; well = tt }
  numbering line s hash at goes (Ok ts) says = elim (cases_Bool (is_numbering ts)) [
    | inl fine ↦ record { end = Ok s; ends = pre.numbered ts says fine; well = goes }
    | inr bad ↦ record {
      end = Err (fault_at BadDirective (place_in s hash));
      ends = pre.not_numbered ts (fault_at BadDirective (place_in s hash)) says bad (refused-at s line hash BadDirective at);
      well = tt;
    }
  ]

  includes-some : (names : List (List ℕ)) (asked : Place) (t : State) → GoesOn (depth + 1) t → depth < context.include_depth → HasEnd (depth + 1) (Includes context names asked t)
  includes-some names asked t goes below = by (search context.files names) refl
    where
      by : (found : Option File) → search context.files names ≡ found → HasEnd (depth + 1) (Includes context names asked t)
      by None is = record { end = Err (fault_at NotFound asked); ends = pre.missing is; well = tt }
      by (Some file) is = elim (cases_Bool (is_once_file t file.name)) [
        | inl known ↦ record { end = Ok t; ends = pre.left_out file is known; well = goes }
        | inr new ↦ (let inner = enter file t goes below in record { end = inner.end; ends = pre.entered file is new inner.ends; well = inner.well })
      ]

  including : (line : Line) (s : State) (hash : Token) → hash_of line ≡ Some hash → GoesOn depth s → (r : Result (List Token) Fault) → Says s.macros line r → HasEnd depth (Carries context line s directive.Include)
  including line s hash at goes (Err fault) says = record { end = Err fault; ends = pre.not_expanded fault refl says; well = tt }
  including line s hash at goes (Ok ts) says = by (header_of ts) refl
    where
      entered : (header : Header) → header_of ts ≡ Ok header → depth < context.include_depth → HasEnd depth (Carries context line s directive.Include)
      entered header is below =
          let inner = includes-some (candidates header s.file context.include) (place_in s hash) (deeper s) (record { finite = goes.finite; deep = ap (λ n. n + 1) goes.deep }) below in
          record {
            end = result_map (back s) inner.end;
            ends = pre.included ts header hash says is (subst (λ n. n < context.include_depth) (sym goes.deep) below) at inner.ends;
            well = outside inner.end inner.well;
          }
        where
          outside : (r : Result State Fault) → EndsWell (depth + 1) r → EndsWell depth (result_map (back s) r)
          outside (Ok t) well = record { finite = well.finite; deep = goes.deep }
          outside (Err fault) well = tt

      by : (h : Result Header Cause) → header_of ts ≡ h → HasEnd depth (Carries context line s directive.Include)
      by (Err cause) is = record {
        end = Err (fault_at cause (place_in s hash));
        ends = pre.no_header ts cause (fault_at cause (place_in s hash)) says is (refused-at s line hash cause at);
        well = tt;
      }
      by (Ok header) is = elim (cases_lt depth context.include_depth) [
        | inl below ↦ entered header is below
        | inr limit ↦ record {
          end = Err (fault_at IncludeDepth (place_in s hash));
          ends = pre.too_deep ts header (fault_at IncludeDepth (place_in s hash)) says is (λ below. omega (arith, below, limit, goes.deep)) (refused-at s line hash IncludeDepth at);
          well = tt;
        }
      ]

  carries-some : (line : Line) (s : State) (d : Directive) (hash : Token) → hash_of line ≡ Some hash → is_barrier d ≡ true → GoesOn depth s → HasEnd depth (Carries context line s d)
  carries-some line s (directive.Conditional c) hash at barrier goes = absurd (true≢false (sym barrier))
  carries-some line s directive.Null hash at barrier goes = absurd (true≢false (sym barrier))
  carries-some line s directive.Include hash at barrier goes = let x = says-some s.macros goes.finite line in including line s hash at goes x.0 x.1
  carries-some line s directive.Define hash at barrier goes = defining line s hash at goes (reads line.standard (behind_name line)) refl
  carries-some line s directive.Undef hash at barrier goes = undefining line s hash at goes
  carries-some line s directive.Line hash at barrier goes = let x = says-some s.macros goes.finite line in numbering line s hash at goes x.0 x.1
  carries-some line s directive.Error hash at barrier goes = changes-some line s directive.Error hash at goes (Err ErrorDirective) pre.error no-macros
  carries-some line s directive.Pragma hash at barrier goes = changes-some line s directive.Pragma hash at goes (Ok s.macros) (pre.ignored refl) (same-macros goes.finite)
  carries-some line s directive.Warning hash at barrier goes = changes-some line s directive.Warning hash at goes (Ok s.macros) (pre.ignored refl) (same-macros goes.finite)
  carries-some line s directive.Unknown hash at barrier goes = changes-some line s directive.Unknown hash at goes (Err BadDirective) pre.unknown no-macros

  steps-some : (line : Line) (s : State) → conditional_of line ≡ None → ((line.directive ≡ None → ⊥) → (hash : Token) × (hash_of line ≡ Some hash)) → GoesOn depth s → HasEnd depth (Steps context line s)
  steps-some line s other hash goes = by line.directive refl other
    where
      barrier : (d : Directive) → line.directive ≡ Some d → is_barrier d ≡ true → HasEnd depth (Steps context line s)
      barrier d is ends = by (closes-some depth s goes).end (closes-some depth s goes).ends (closes-some depth s goes).well
        where
          by : (r : Result State Fault) → Closes s r → EndsWell depth r → HasEnd depth (Steps context line s)
          by (Err fault) closes well = record { end = Err fault; ends = pre.stopped d fault is ends closes; well = tt }
          by (Ok t) closes well =
              let at = hash (λ none. none-some d (sym none ∙ is)) in
              let rest = carries-some line t d at.0 at.1 ends well in
              record { end = rest.end; ends = pre.carried_out d t is ends closes rest.ends; well = rest.well }

      by : (o : Option Directive) → line.directive ≡ o → conditional_in o ≡ None → HasEnd depth (Steps context line s)
      by None is other = record { end = Ok (with_text s line); ends = pre.text is; well = record { finite = goes.finite; deep = goes.deep } }
      by (Some (directive.Conditional c)) is other = absurd (none-some c (sym other))
      by (Some directive.Null) is other = record { end = Ok s; ends = pre.null is; well = goes }
      by (Some directive.Include) is other = barrier directive.Include is refl
      by (Some directive.Define) is other = barrier directive.Define is refl
      by (Some directive.Undef) is other = barrier directive.Undef is refl
      by (Some directive.Line) is other = barrier directive.Line is refl
      by (Some directive.Error) is other = barrier directive.Error is refl
      by (Some directive.Pragma) is other = barrier directive.Pragma is refl
      by (Some directive.Warning) is other = barrier directive.Warning is refl
      by (Some directive.Unknown) is other = barrier directive.Unknown is refl

  -- ---- groups

  abbrev HasHash : Line → Type 0
  HasHash line = (line.directive ≡ None → ⊥) → (hash : Token) × (hash_of line ≡ Some hash)

  decides-some : (head : Line) (s : State) → HasHash head → (test : Test) → test_of head ≡ Some test → GoesOn depth s → (r : Result Bool Fault) × Decides context s head r
  decides-some head s hash test asked goes =
      let at = hash (λ none. none-some test (sym (ap (λ d. test_in (conditional_in d)) none) ∙ asked)) in
      some_decision context s goes.finite.names head at.0 goes.finite.within at.1 test asked

  line-then : (line : Line) (rest : Group) (s : State) (r : Result State Fault) → Steps context line s r → EndsWell depth r → ((t : State) → GoesOn depth t → HasEnd depth (Walks context rest t))
      → HasEnd depth (Walks context (plain line rest) s)
  line-then line rest s (Err fault) steps well later = record { end = Err fault; ends = pre.line_stops fault steps; well = tt }
  line-then line rest s (Ok t) steps well later = let next = later t well in record { end = next.end; ends = pre.line t steps next.ends; well = next.well }

  taken-then : (head : Line) (group : Group) (branches : Branches) (rest : Group) (s : State) → Decides context s head (Ok true) → (r : Result State Fault) → Walks context group s r → EndsWell depth r
      → ((t : State) → GoesOn depth t → HasEnd depth (Walks context rest t)) → HasEnd depth (Walks context (section head group branches rest) s)
  taken-then head group branches rest s decides (Err fault) walks well later = record { end = Err fault; ends = pre.taken_stops fault decides walks; well = tt }
  taken-then head group branches rest s decides (Ok t) walks well later = let next = later t well in record { end = next.end; ends = pre.taken t decides walks next.ends; well = next.well }

  passed-then : (head : Line) (group : Group) (branches : Branches) (rest : Group) (s : State) → Decides context s head (Ok false) → (r : Result State Fault) → WalksBranches context branches s r
      → EndsWell depth r → ((t : State) → GoesOn depth t → HasEnd depth (Walks context rest t)) → HasEnd depth (Walks context (section head group branches rest) s)
  passed-then head group branches rest s decides (Err fault) walks well later = record { end = Err fault; ends = pre.passed_stops fault decides walks; well = tt }
  passed-then head group branches rest s decides (Ok t) walks well later = let next = later t well in record { end = next.end; ends = pre.passed t decides walks next.ends; well = next.well }

  section-then : (head : Line) (group : Group) (branches : Branches) (rest : Group) (s : State) (r : Result Bool Fault) → Decides context s head r → HasEnd depth (Walks context group s)
      → HasEnd depth (WalksBranches context branches s) → ((t : State) → GoesOn depth t → HasEnd depth (Walks context rest t)) → HasEnd depth (Walks context (section head group branches rest) s)
  section-then head group branches rest s (Err fault) decides inner others later = record { end = Err fault; ends = pre.head_stops fault decides; well = tt }
  section-then head group branches rest s (Ok true) decides inner others later = taken-then head group branches rest s decides inner.end inner.ends inner.well later
  section-then head group branches rest s (Ok false) decides inner others later = passed-then head group branches rest s decides others.end others.ends others.well later

  alternative-then : (head : Line) (group : Group) (branches : Branches) (s : State) (r : Result Bool Fault) → Decides context s head r → HasEnd depth (Walks context group s)
      → HasEnd depth (WalksBranches context branches s) → HasEnd depth (WalksBranches context (alternative head group branches) s)
  alternative-then head group branches s (Err fault) decides inner others = record { end = Err fault; ends = pre.later_stops fault decides; well = tt }
  alternative-then head group branches s (Ok true) decides inner others = record { end = inner.end; ends = pre.later_taken decides inner.ends; well = inner.well }
  alternative-then head group branches s (Ok false) decides inner others = record { end = others.end; ends = pre.later_passed decides others.ends; well = others.well }

  mutual
    walks-some : (group : Group) (s : State) → IsGroup group → All HasHash (group_lines group) → GoesOn depth s → HasEnd depth (Walks context group s)
    walks-some empty s grouped hashes goes = record { end = Ok s; ends = pre.done; well = goes }
    walks-some (plain line rest) s grouped hashes goes =
        let step = steps-some line s grouped.0 (All-head HasHash line (group_lines rest) hashes) goes in
        line-then line rest s step.end step.ends step.well (λ t well. walks-some rest t grouped.1 (All-tail HasHash line (group_lines rest) hashes) well)
    walks-some (section head group branches rest) s grouped hashes goes =
        let lines = group_lines group ++ branch_lines branches ++ group_lines rest in
        let d = decides-some head s (All-head HasHash head lines hashes) grouped.0.test (ap test_in grouped.0.named) goes in
        let inside = All-tail HasHash head lines hashes in
        let both = all-left HasHash (group_lines group ++ branch_lines branches) (group_lines rest) inside in
        section-then head group branches rest s d.0 d.1 (walks-some group s grouped.1 (all-left HasHash (group_lines group) (branch_lines branches) both) goes)
        (branches-some branches s grouped.2 (all-right HasHash (group_lines group) (branch_lines branches) both) goes)
        (λ t well. walks-some rest t grouped.3 (all-right HasHash (group_lines group ++ branch_lines branches) (group_lines rest) inside) well)

    branches-some : (branches : Branches) (s : State) → AreBranches branches → All HasHash (branch_lines branches) → GoesOn depth s → HasEnd depth (WalksBranches context branches s)
    branches-some (closing line) s are hashes goes = record { end = Ok s; ends = pre.none_taken; well = goes }
    branches-some (otherwise head group line) s are hashes goes =
        let inner = walks-some group s are.1 (all-left HasHash (group_lines group) (line ∷ []) (All-tail HasHash head (group_lines group ++ line ∷ []) hashes)) goes in
        record { end = inner.end; ends = pre.last_taken inner.ends; well = inner.well }
    branches-some (alternative head group branches) s are hashes goes =
        let lines = group_lines group ++ branch_lines branches in
        let d = decides-some head s (All-head HasHash head lines hashes) are.0.test (ap test_in are.0.named) goes in
        let inside = All-tail HasHash head lines hashes in
        alternative-then head group branches s d.0 d.1 (walks-some group s are.1 (all-left HasHash (group_lines group) (branch_lines branches) inside) goes)
        (branches-some branches s are.2 (all-right HasHash (group_lines group) (branch_lines branches) inside) goes)

-- ---- files

hashes-all : (lines before : List Line) → HaveHashes (before ++ lines) → All (λ (line : Line). (line.directive ≡ None → ⊥) → (hash : Token) × (hash_of line ≡ Some hash)) lines
hashes-all [] before hashes = All-nil (λ (line : Line). (line.directive ≡ None → ⊥) → (hash : Token) × (hash_of line ≡ Some hash))
hashes-all (line ∷ lines) before hashes =
    All-cons (λ (line : Line). (line.directive ≡ None → ⊥) → (hash : Token) × (hash_of line ≡ Some hash)) line lines (hashes.each before line lines refl)
    (hashes-all lines (before ++ line ∷ []) (subst HaveHashes (sym (append_assoc before (line ∷ []) lines)) hashes))

module _ (context : Context) where
  entering : (depth : ℕ) (file : File) (s : State) → GoesOn depth s → ((f : File) (t : State) → GoesOn (depth + 1) t → depth < context.include_depth → HasEnd (depth + 1) (Enters context f t))
      → HasEnd depth (Enters context file s)
  entering depth file s goes enter = elim (cases_lt largest_file (length file.bytes)) [
    | inl large ↦ record { end = Err (fault_at FileTooLarge (first_place file.name)); ends = pre.too_large large; well = tt }
    | inr small ↦ lexed (λ large. omega (arith, large, small)) (lexed-some file.bytes).0 (lexed-some file.bytes).1
  ]
    where
      ended : (largest_file < length file.bytes → ⊥) → (tokens : List Lexeme) (group : Group) → Lexed file.bytes (Ok tokens) → Tree (file_lines context file tokens) (Ok group)
          → (r : Result State Fault) → Walks context group (inside file s) r → EndsWell depth r → HasEnd depth (Enters context file s)
      ended small tokens group lexes tree (Err fault) walks well = record { end = Err fault; ends = pre.stopped_inside tokens group fault small lexes tree walks; well = tt }
      ended small tokens group lexes tree (Ok t) walks well =
          let close = closes-some depth t well in
          record { end = close.end; ends = pre.walked tokens group t small lexes tree walks close.ends; well = close.well }

      nested_by : (largest_file < length file.bytes → ⊥) → (tokens : List Lexeme) → Lexed file.bytes (Ok tokens) → (r : Result Group Place) → Tree (file_lines context file tokens) r
          → HasEnd depth (Enters context file s)
      nested_by small tokens lexes (Err place) tree =
          record { end = Err (fault_at BadNesting place); ends = pre.badly_nested tokens place small lexes tree; well = tt }
      nested_by small tokens lexes _ (nested group tree) =
          let hashes = subst (λ ls. All (λ (line : Line). (line.directive ≡ None → ⊥) → (hash : Token) × (hash_of line ≡ Some hash)) ls) (sym tree.whole)
          (hashes-all (file_lines context file tokens) [] (lines-hashes context.standard (map (in_file file.name) tokens))) in
          let walk = walks-some context depth enter group (inside file s) tree.grouped hashes (record { finite = goes.finite; deep = goes.deep }) in
          ended small tokens group lexes (nested group tree) walk.end walk.ends walk.well

      lexed : (largest_file < length file.bytes → ⊥) → (r : Result (List Lexeme) Position) → Lexed file.bytes r → HasEnd depth (Enters context file s)
      lexed small (Err position) lexes = record {
        end = Err (fault_at UnterminatedComment (record { file = file.name; position = position }));
        ends = pre.unended position small lexes;
        well = tt;
      }
      lexed small (Ok tokens) lexes =
          let tree = tree-some (file_lines context file tokens) (lines-hashes context.standard (map (in_file file.name) tokens)) in
          nested_by small tokens lexes tree.0 tree.1

  -- the files may be nested n deeper
  enters-some : (n depth : ℕ) (file : File) (s : State) → GoesOn depth s → context.include_depth ≤ depth + n → HasEnd depth (Enters context file s)
  enters-some zero depth file s goes deep = entering depth file s goes (λ f t well below. absurd (omega (arith, deep, below)))
  enters-some (suc n) depth file s goes deep = entering depth file s goes (λ f t well below. enters-some n (depth + 1) f t well (omega (arith, deep)))

pub pre-some : (space : Space) (files : Files) (main config : List ℕ) → (r : Result (List Token) Fault) × Pre space files main config r
pre-some space files main config = by (search files (main ∷ [])) refl
  where
    by : (found : Option File) → search files (main ∷ []) ≡ found → (r : Result (List Token) Fault) × Pre space files main config r
    by None is = (Err (fault_at NotFound (first_place main)), record { end = Err (fault_at NotFound (first_place main)); walked = pre.missing is; is = refl })
    by (Some file) is =
        let start : GoesOn 0 (initial_state space main config) = record { finite = initial-finite space config; deep = refl } in
        let walk = enters-some (context_of space files) space.include_depth 0 file (initial_state space main config) start (omega arith) in
        (output_of walk.end, record { end = walk.end; walked = pre.entered file is refl walk.ends; is = refl })
