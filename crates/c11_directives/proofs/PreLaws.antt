-- A configuration has one sequence of tokens, or one fault.
use Rattle.std.proofs.Common.{◌≡◌, ◌⊎◌, inl, inr, ℕ, ◌<◌, not, Bool, true, false, List, [], length, map, Option, Some, None, is_some, Result, Ok, Err, refl, sym, ap, ◌∙◌, subst}
use Rattle.sc_model.specs.declared.cause.Cause.TheVariants.{NotFound, FileTooLarge, UnterminatedComment, BadNesting, BadDirective, Redefined, IncludeDepth, ErrorDirective}
use Rattle.sc_model.specs.declared.cause.Cause.{Cause}
use Rattle.c11_macros.specs.Defines.{Defined, reads}
use Rattle.c11_directives.specs.declared.directive.Test.{Test}
use Rattle.c11_directives.specs.declared.directive.Test.TheVariants as test
use Rattle.c11_directives.specs.declared.directive.Directive.{Directive}
use Rattle.c11_directives.specs.declared.directive.Directive.TheVariants as directive
use Rattle.std.specs.Option.{option_map}
use Rattle.std.specs.Prelude.{unwrap_or}
use Rattle.c11_tokens.specs.Lex.{Lexed}
use Rattle.c11_directives.specs.Behind.{behind_name, Says, as_it_stands, expanded, is_numbering}
use Rattle.c11_directives.specs.Lines.{Line, hash_of, test_of, Group, Branches, empty, plain, section, closing, otherwise, alternative, Tree}
use Rattle.c11_expressions.proofs.OneLine.{one_line}
use Rattle.c11_expressions.specs.Lines as expressions
use Rattle.c11_headers.specs.Headers.{Header, header_of, candidates}
use Rattle.sc_model.specs.Outside.{Files, largest_file}
use Rattle.sc_model.specs.Fault.{Fault, first_place, fault_at}
use Rattle.c11_directives.proofs.PragmaLaws.{pragmas-sole}
use Rattle.c11_directives.specs.Pragmas.{CarriesOutPragmas, RunBecomes, expanded as run_expanded, not_expanded as run_not_expanded}
use Rattle.c11_directives.specs.Pre.{Context, State, place_in, put_out, Closes, closed, refused, RefusedAt, operand_of, decision_of, Decides, if_defined, if_undefined, no_name, expression, with_text, with_macro, Defines, fresh, again, redefined, undefined, is_barrier, is_ignored, is_said, Changes, ignored, unknown, error, defines, defines_nothing, undefines, is_once_file, state_behind, Steps, text, null, stopped, carried_out, Carries, changed, not_changed, not_expanded, numbered, not_numbered, no_header, too_deep, included, deeper, back, Walks, done, line, line_stops, taken, taken_stops, passed, passed_stops, head_stops, WalksBranches, none_taken, last_taken, later_taken, later_passed, later_stops, File, search, inside, file_lines, Enters, too_large, unended, badly_nested, stopped_inside, walked, Includes, missing, left_out, entered, output_of, Pre}
use Rattle.sc_model.specs.Space.{Space}
use Rattle.c11_macros.specs.Hidden.{Failure}
use Rattle.c11_macros.specs.Macros.{Definition, Macros}
use Rattle.c11_macros.specs.Results.{result_map}
use Rattle.c11_macros.specs.Text.{TextExpands, text_of_answer, place_alone, unhidden}
use Rattle.c11_macros.proofs.OneAnswer.{one}
use Rattle.sc_model.specs.Token.{Position, Place, Lexeme, Token}
use Rattle.c11_tokens.proofs.LexLaws.{lexes-unique}
use Rattle.c11_directives.proofs.NestLaws.{tree-unique}

-- the relation has no other answer than this one
abbrev Sole : {A : Type 0} → (A → Type 0) → A → Type 0
Sole {A} R r = (s : A) → R s → r ≡ s

-- one step after another; a fault of the first is told as another fault
data Then {A B E F : Type 0} (told : E → F) (R : Result A E → Type 0) (S : A → Result B F → Type 0) : Result B F → Type 0 where
  goes : {r : Result B F} (a : A) → R (Ok a) → S a r → Then told R S r
  stops : (e : E) → R (Err e) → Then told R S (Err (told e))

module _ {A B E F : Type 0} {told : E → F} {R : Result A E → Type 0} {S : A → Result B F → Type 0} where
  goes-sole : {a : A} {r : Result B F} → Sole R (Ok a) → Sole (S a) r → Sole (Then told R S) r
  goes-sole {a} {r} one rest s (goes b first after) =
      let oks : Ok a ≡ Ok b = one (Ok b) first in
      let same : a ≡ b = cc in
      rest s (subst (λ c. S c s) (sym same) after)
  goes-sole {a} one rest _ (stops e first) = let other : Ok a ≡ Err e = one (Err e) first in cc

  stops-sole : {e : E} → Sole R (Err e) → Sole (Then told R S) (Err (told e))
  stops-sole {e} one s (goes b first after) = let other : Err e ≡ Ok b = one (Ok b) first in cc
  stops-sole {e} one _ (stops e' first) =
      let errs : Err e ≡ Err e' = one (Err e') first in
      let same : e ≡ e' = cc in
      ap (λ e. Err (told e)) same

  -- the fault is told otherwise
  told-sole : {e : E} {f : F} → f ≡ told e → Sole R (Err e) → Sole (Then told R S) (Err f)
  told-sole is one s d = ap Err is ∙ stops-sole one s d

  stops-as : (e : E) {f : F} → f ≡ told e → R (Err e) → Then told R S (Err f)
  stops-as e is first = subst (λ g. Then told R S (Err g)) (sym is) (stops e first)

abbrev same : Fault → Fault
same fault = fault

text-sole : {macros : Macros} {text : List Token} {r : Result (List Token) Fault} → TextExpands macros text r → Sole (TextExpands macros text) r
text-sole d s e = d.is ∙ (ap text_of_answer (one d.expands e.answer e.expands).answer ∙ sym e.is)

pub run-sole : {macros : Macros} {run : List Token} {r : Result (List Token) Fault} → RunBecomes macros run r → Sole (RunBecomes macros run) r
run-sole (run_expanded ts e d) s (run_expanded us f g) =
    let same : Ok ts ≡ Ok us = text-sole e (Ok us) f in
    let tokens : ts ≡ us = cc in
    pragmas-sole d s (subst (λ vs. CarriesOutPragmas vs s) (sym tokens) g)
run-sole (run_expanded ts e d) _ (run_not_expanded fault f) = let other = text-sole e (Err fault) f in cc
run-sole (run_not_expanded fault e) _ (run_expanded us f g) = let other = text-sole e (Ok us) f in cc
run-sole (run_not_expanded fault e) _ (run_not_expanded other f) = text-sole e (Err other) f

pub closes-sole : {s : State} {r : Result State Fault} → Closes s r → Sole (Closes s) r
closes-sole {s} (closed output b) _ (closed output' b') =
    let oks : Ok output ≡ Ok output' = run-sole b (Ok output') b' in
    let outputs : output ≡ output' = cc in
    ap (λ ts. Ok (put_out s ts)) outputs
closes-sole (closed output b) _ (refused fault b') = let other = run-sole b (Err fault) b' in cc
closes-sole (refused fault b) _ (closed output b') = let other = run-sole b (Ok output) b' in cc
closes-sole (refused fault b) _ (refused fault' b') = let errs = run-sole b (Err fault') b' in cc

-- the refusal of a directive, which has a first token
abbrev refusal : State → Line → Cause → Fault
refusal s l cause = fault_at cause (unwrap_or (option_map (place_in s) (hash_of l)) (first_place []))

refused-is : {s : State} {l : Line} {cause : Cause} {fault : Fault} → RefusedAt s l cause fault → fault ≡ refusal s l cause
refused-is {s} {l} {cause} {fault} at =
    let place : fault.place ≡ (refusal s l cause).place = sym (ap (λ o. unwrap_or o (first_place [])) at.place_is) in
    λ i. record { cause = at.cause_is i; place = place i }

-- ---- what a conditional directive decides

-- its operand
abbrev Named : State → Line → (Bool → Bool) → Option (List ℕ) → Result Bool Fault → Type 0
Named s l holds (Some name) r = r ≡ Ok (holds (is_some (s.macros name)))
Named s l holds None r = r ≡ Err (refusal s l BadDirective)

-- its expression
data Evaluated (s : State) (l : Line) : Result Bool Fault → Type 0 where
  evaluated : (hash : Token) (answer : Result Bool (Failure Place)) → hash_of l ≡ Some hash
      → expressions.Decides l.standard place_alone s.macros (place_in s hash) (map unhidden (behind_name l)) answer → Evaluated s l (decision_of answer)

abbrev as_it_is : Bool → Bool
as_it_is b = b

abbrev DecidesAs : State → Line → Option Test → Result Bool Fault → Type 0
DecidesAs s l (Some test.Defined) r = Named s l as_it_is (operand_of l) r
DecidesAs s l (Some test.Undefined) r = Named s l not (operand_of l) r
DecidesAs s l (Some test.Expression) r = Evaluated s l r
DecidesAs s l None r = ⊥

named-sole : (s : State) (l : Line) (holds : Bool → Bool) (name : Option (List ℕ)) (r : Result Bool Fault) → Named s l holds name r → Sole (Named s l holds name) r
named-sole s l holds (Some name) r d q e = d ∙ sym e
named-sole s l holds None r d q e = d ∙ sym e

evaluated-sole : {s : State} {l : Line} {r : Result Bool Fault} → Evaluated s l r → Sole (Evaluated s l) r
evaluated-sole {s} {l} (evaluated hash answer is d) q (evaluated hash' answer' is' d') =
    let hashes : Some hash' ≡ Some hash = sym is' ∙ is in
    let same : hash' ≡ hash = cc in
    let moved = subst (λ h. expressions.Decides l.standard place_alone s.macros (place_in s h) (map unhidden (behind_name l)) answer') same d' in
    ap decision_of (one_line place_alone s.macros (map unhidden (behind_name l)) answer answer' d moved)

decides-as-sole : (s : State) (l : Line) (asked : Option Test) (r : Result Bool Fault) → DecidesAs s l asked r → Sole (DecidesAs s l asked) r
decides-as-sole s l (Some test.Defined) r d q e = named-sole s l as_it_is (operand_of l) r d q e
decides-as-sole s l (Some test.Undefined) r d q e = named-sole s l not (operand_of l) r d q e
decides-as-sole s l (Some test.Expression) r d q e = evaluated-sole d q e
decides-as-sole s l None r d q e = absurd d

-- ---- what a directive makes of the macros

-- A relation of a directive to its answer is of one kind, so that only answers of that kind are
-- compared.
abbrev DefinedAs : Macros → Defined → Option Definition → Result Macros Cause → Type 0
DefinedAs macros d None r = r ≡ Ok (with_macro macros d)
DefinedAs macros d (Some other) r = ((other ≡ d.definition) × (r ≡ Ok (with_macro macros d))) ⊎ ((other ≡ d.definition → ⊥) × (r ≡ Err Redefined))

defined-as : {macros : Macros} {d : Defined} {r : Result Macros Cause} → Defines macros d r → DefinedAs macros d (macros d.name) r
defined-as (fresh e) = rw e refl
defined-as (again e) = rw e (inl (refl, refl))
defined-as (redefined other e n) = rw e (inr (n, refl))

defined-sole : (macros : Macros) (d : Defined) (found : Option Definition) (r : Result Macros Cause) → DefinedAs macros d found r → Sole (DefinedAs macros d found) r
defined-sole macros d None r e q f = e ∙ sym f
defined-sole macros d (Some other) r (inl e) q (inl f) = e.1 ∙ sym f.1
defined-sole macros d (Some other) r (inl e) q (inr f) = absurd (f.0 e.0)
defined-sole macros d (Some other) r (inr e) q (inl f) = absurd (e.0 f.0)
defined-sole macros d (Some other) r (inr e) q (inr f) = e.1 ∙ sym f.1

abbrev ReadAs : Macros → Result Defined Cause → Result Macros Cause → Type 0
ReadAs macros (Ok d) r = DefinedAs macros d (macros d.name) r
ReadAs macros (Err cause) r = r ≡ Err cause

abbrev ChangedAs : Macros → Line → Directive → Result Macros Cause → Type 0
ChangedAs macros l directive.Define r = ReadAs macros (reads l.standard (behind_name l)) r
ChangedAs macros l directive.Undef r = r ≡ undefined macros (operand_of l)
ChangedAs macros l directive.Error r = r ≡ Err ErrorDirective
ChangedAs macros l directive.Unknown r = r ≡ Err BadDirective
ChangedAs macros l d r = (is_ignored d ≡ true) × (r ≡ Ok macros)

ignored-as : (macros : Macros) (l : Line) (d : Directive) → is_ignored d ≡ true → ChangedAs macros l d (Ok macros)
ignored-as macros l (directive.Conditional c) e = (e, refl)
ignored-as macros l directive.Include e = (e, refl)
ignored-as macros l directive.Define e = cc
ignored-as macros l directive.Undef e = cc
ignored-as macros l directive.Line e = (e, refl)
ignored-as macros l directive.Error e = cc
ignored-as macros l directive.Pragma e = (e, refl)
ignored-as macros l directive.Warning e = (e, refl)
ignored-as macros l directive.Null e = (e, refl)
ignored-as macros l directive.Unknown e = cc

changed-as : {macros : Macros} {l : Line} {d : Directive} {r : Result Macros Cause} → Changes macros l d r → ChangedAs macros l d r
changed-as {macros} {l} {d} (ignored e) = ignored-as macros l d e
changed-as unknown = refl
changed-as error = refl
changed-as (defines d e f) = rw e (defined-as f)
changed-as (defines_nothing cause e) = rw e refl
changed-as undefines = refl

read-sole : (macros : Macros) (found : Result Defined Cause) (r : Result Macros Cause) → ReadAs macros found r → Sole (ReadAs macros found) r
read-sole macros (Ok d) r e q f = defined-sole macros d (macros d.name) r e q f
read-sole macros (Err cause) r e q f = e ∙ sym f

changed-sole : (macros : Macros) (l : Line) (d : Directive) (r : Result Macros Cause) → ChangedAs macros l d r → Sole (ChangedAs macros l d) r
changed-sole macros l directive.Define r e q f = read-sole macros (reads l.standard (behind_name l)) r e q f
changed-sole macros l (directive.Conditional c) r e q f = e.1 ∙ sym f.1
changed-sole macros l directive.Include r e q f = e.1 ∙ sym f.1
changed-sole macros l directive.Undef r e q f = e ∙ sym f
changed-sole macros l directive.Line r e q f = e.1 ∙ sym f.1
changed-sole macros l directive.Error r e q f = e ∙ sym f
changed-sole macros l directive.Pragma r e q f = e.1 ∙ sym f.1
changed-sole macros l directive.Warning r e q f = e.1 ∙ sym f.1
changed-sole macros l directive.Null r e q f = e.1 ∙ sym f.1
changed-sole macros l directive.Unknown r e q f = e ∙ sym f

-- such a directive says nothing behind its name that is expanded
not-said : (macros : Macros) (l : Line) (d : Directive) (r : Result Macros Cause) → ChangedAs macros l d r → is_said d ≡ false
not-said macros l (directive.Conditional c) r e = refl
not-said macros l directive.Include r e = absurd (cc)
not-said macros l directive.Define r e = refl
not-said macros l directive.Undef r e = refl
not-said macros l directive.Line r e = absurd (cc)
not-said macros l directive.Error r e = refl
not-said macros l directive.Pragma r e = refl
not-said macros l directive.Warning r e = refl
not-said macros l directive.Null r e = refl
not-said macros l directive.Unknown r e = refl

-- ---- what a directive does that says something

pub says-sole : {macros : Macros} {l : Line} {r : Result (List Token) Fault} → Says macros l r → Sole (Says macros l) r
says-sole (as_it_stands e) q (as_it_stands f) = refl
says-sole (as_it_stands e) q (expanded f d) = absurd (cc)
says-sole (expanded e d) q (as_it_stands f) = absurd (cc)
says-sole (expanded e d) q (expanded f c) = text-sole d q c

-- how deep the file would be that an #include asks for
data Nests (x : Context) (l : Line) (s : State) (header : Header) : Result State Fault → Type 0 where
  deep : (s.depth < x.include_depth → ⊥) → Nests x l s header (Err (refusal s l IncludeDepth))
  nests : {r : Result State Fault} (hash : Token) → s.depth < x.include_depth → hash_of l ≡ Some hash
      → Includes x (candidates header s.file x.include) (place_in s hash) (deeper s) r → Nests x l s header (result_map (back s) r)

abbrev NumberedAs : State → Line → Bool → Result State Fault → Type 0
NumberedAs s l true r = r ≡ Ok s
NumberedAs s l false r = r ≡ Err (refusal s l BadDirective)

abbrev SaidAs : Context → Line → State → Directive → List Token → Result State Fault → Type 0
SaidAs x l s directive.Include ts r = Then (refusal s l) (λ h. header_of ts ≡ h) (Nests x l s) r
SaidAs x l s directive.Line ts r = NumberedAs s l (is_numbering ts) r
SaidAs x l s _ ts r = ⊥

-- what a directive does that is a barrier
abbrev CarriedAs : Context → Line → State → Directive → Bool → Result State Fault → Type 0
CarriedAs x l s d true r = Then same (Says s.macros l) (SaidAs x l s d) r
CarriedAs x l s d false r = Then (refusal s l) (ChangedAs s.macros l d) (λ macros q. q ≡ Ok (state_behind s l d macros)) r

-- what a directive does that is a barrier or not
abbrev Does : Context → Line → State → Directive → Bool → Result State Fault → Type 0
Does x l s d false r = r ≡ Ok s
Does x l s d true r = Then same (Closes s) (λ t. Carries x l t d) r

-- what a line does
abbrev DoesLine : Context → Line → State → Option Directive → Result State Fault → Type 0
DoesLine x l s None r = r ≡ Ok (with_text s l)
DoesLine x l s (Some d) r = Does x l s d (is_barrier d) r

numbered-with : (s : State) (l : Line) (q : Result State Fault) {c b : Bool} → c ≡ b → NumberedAs s l c q → NumberedAs s l b q
numbered-with s l q e v = subst (λ o. NumberedAs s l o q) e v

header-sole : (ts : List Token) {h : Result Header Cause} → header_of ts ≡ h → Sole (λ k. header_of ts ≡ k) h
header-sole ts e k f = sym e ∙ f

lexed-sole : (bytes : List ℕ) {r : Result (List Lexeme) Position} → Lexed bytes r → Sole (Lexed bytes) r
lexed-sole bytes d s e = lexes-unique d e

tree-sole : {lines : List Line} {r : Result Group Place} → Tree lines r → Sole (Tree lines) r
tree-sole d s e = tree-unique d e

-- a file that isn't too large
abbrev comment_fault : File → Position → Fault
comment_fault file position = fault_at UnterminatedComment (record { file = file.name; position = position })

abbrev Goes : Context → File → State → Result State Fault → Type 0
Goes x file s =
    Then (comment_fault file) (Lexed file.bytes)
    (λ tokens. Then (fault_at BadNesting) (Tree (file_lines x file tokens))
    (λ g. Then same (Walks x g (inside file s)) Closes))

-- the bytes of a file, walked where they aren't too many
record Reads (x : Context) (file : File) (s : State) (r : Result State Fault) : Type 0 where
  large : largest_file < length file.bytes → r ≡ Err (fault_at FileTooLarge (first_place file.name))
  fits : (largest_file < length file.bytes → ⊥) → Goes x file s r

-- what is entered of a file, unless it is entered no more
abbrev EntersUnless : Context → File → State → Bool → Result State Fault → Type 0
EntersUnless x file s true r = r ≡ Ok s
EntersUnless x file s false r = Enters x file s r

-- what is entered of what a search finds
abbrev Found : Context → Place → State → Option File → Result State Fault → Type 0
Found x asked s None r = r ≡ Err (fault_at NotFound asked)
Found x asked s (Some file) r = EntersUnless x file s (is_once_file s file.name) r

-- what is walked of a section whose first group is taken or not
abbrev Taken : Context → Group → Branches → State → Bool → Result State Fault → Type 0
Taken x g bs s true = Walks x g s
Taken x g bs s false = WalksBranches x bs s

module _ {x : Context} where
  decides-as : {s : State} {l : Line} {r : Result Bool Fault} → Decides x s l r → DecidesAs s l (test_of l) r
  decides-as (if_defined name named operand) = rw (named, operand) refl
  decides-as (if_undefined name named operand) = rw (named, operand) refl
  decides-as (no_name fault (inl named) operand at) = rw (named, operand) (ap Err (refused-is at))
  decides-as (no_name fault (inr named) operand at) = rw (named, operand) (ap Err (refused-is at))
  decides-as (expression hash answer asked is d) = rw asked (evaluated hash answer is d)

  pub decides-sole : {s : State} {l : Line} {r : Result Bool Fault} → Decides x s l r → Sole (Decides x s l) r
  decides-sole {s} {l} {r} d q e = decides-as-sole s l (test_of l) r (decides-as d) q (decides-as e)

  steps-does : {l : Line} {s : State} {r : Result State Fault} → Steps x l s r → DoesLine x l s l.directive r
  steps-does (text e) = rw e refl
  steps-does (null e) = rw e refl
  steps-does (stopped d fault e b c) = rw (e, b) (stops fault c)
  steps-does {l} {s} {r} (carried_out d t e b c g) =
      subst (λ o. DoesLine x l s o r) (sym e) (subst (λ o. Does x l s d o r) (sym b) (goes t c g))

  -- what a line does whose directive is this one
  steps-with : {l : Line} {s : State} {r : Result State Fault} {o : Option Directive} → l.directive ≡ o → Steps x l s r → DoesLine x l s o r
  steps-with {l} {s} {r} e v = subst (λ o. DoesLine x l s o r) e (steps-does v)

  steps-barrier : {l : Line} {s : State} {r : Result State Fault} {d : Directive} → l.directive ≡ Some d → is_barrier d ≡ true → Steps x l s r
      → Then same (Closes s) (λ t. Carries x l t d) r
  steps-barrier {l} {s} {r} {d} e b v = subst (λ o. Does x l s d o r) b (steps-with e v)

  carries-as : {l : Line} {s : State} {d : Directive} {r : Result State Fault} → Carries x l s d r → CarriedAs x l s d (is_said d) r
  carries-as {l} {s} {d} (changed macros c) = rw (not-said s.macros l d (Ok macros) (changed-as c)) (goes macros (changed-as c) refl)
  carries-as {l} {s} {d} (not_changed cause fault c at) = rw (not-said s.macros l d (Err cause) (changed-as c)) (stops-as cause (refused-is at) (changed-as c))
  carries-as (not_expanded fault e says) = rw e (stops fault says)
  carries-as (numbered ts says e) = goes ts says (rw e refl)
  carries-as (not_numbered ts fault says e at) = goes ts says (rw e (ap Err (refused-is at)))
  carries-as (no_header ts cause fault says e at) = goes ts says (stops-as cause (refused-is at) e)
  carries-as {l} {s} (too_deep ts header fault says e n at) =
      goes ts says (goes header e (subst (λ f. Nests x l s header (Err f)) (sym (refused-is at)) (deep n)))
  carries-as (included ts header hash says e n is i) = goes ts says (goes header e (nests hash n is i))

  carries-with : {l : Line} {s : State} {d : Directive} {r : Result State Fault} {b : Bool} → is_said d ≡ b → Carries x l s d r → CarriedAs x l s d b r
  carries-with {l} {s} {d} {r} e v = subst (λ b. CarriedAs x l s d b r) e (carries-as v)

  deep-sole : {l : Line} {s : State} {header : Header} → (s.depth < x.include_depth → ⊥) → Sole (Nests x l s header) (Err (refusal s l IncludeDepth))
  deep-sole n q (deep m) = refl
  deep-sole n q (nests hash m is i) = absurd (n m)

  nests-sole : {l : Line} {s : State} {header : Header} {r : Result State Fault} {hash : Token} → s.depth < x.include_depth → hash_of l ≡ Some hash
      → Sole (Includes x (candidates header s.file x.include) (place_in s hash) (deeper s)) r → Sole (Nests x l s header) (result_map (back s) r)
  nests-sole n is one q (deep m) = absurd (m n)
  nests-sole {l} {s} {header} {r} {hash} n is one q (nests {r = r'} hash' m is' i) =
      let hashes : Some hash' ≡ Some hash = sym is' ∙ is in
      let same : hash' ≡ hash = cc in
      ap (result_map (back s)) (one r' (subst (λ h. Includes x (candidates header s.file x.include) (place_in s h) (deeper s) r') same i))

  walks-plain : {l : Line} {rest : Group} {s : State} {r : Result State Fault} → Walks x (plain l rest) s r → Then same (Steps x l s) (Walks x rest) r
  walks-plain (line t d w) = goes t d w
  walks-plain (line_stops fault d) = stops fault d

  walks-section : {head : Line} {g : Group} {bs : Branches} {rest : Group} {s : State} {r : Result State Fault}
      → Walks x (section head g bs rest) s r → Then same (Decides x s head) (λ b. Then same (Taken x g bs s b) (Walks x rest)) r
  walks-section (taken t d w v) = goes true d (goes t w v)
  walks-section (taken_stops fault d w) = goes true d (stops fault w)
  walks-section (passed t d w v) = goes false d (goes t w v)
  walks-section (passed_stops fault d w) = goes false d (stops fault w)
  walks-section (head_stops fault d) = stops fault d

  walks-otherwise : {head end : Line} {g : Group} {s : State} {r : Result State Fault} → WalksBranches x (otherwise head g end) s r → Walks x g s r
  walks-otherwise (last_taken w) = w

  walks-alternative : {head : Line} {g : Group} {bs : Branches} {s : State} {r : Result State Fault}
      → WalksBranches x (alternative head g bs) s r → Then same (Decides x s head) (Taken x g bs s) r
  walks-alternative (later_taken d w) = goes true d w
  walks-alternative (later_passed d w) = goes false d w
  walks-alternative (later_stops fault d) = stops fault d

  walks-empty : {s : State} {r : Result State Fault} → Walks x empty s r → Ok s ≡ r
  walks-empty done = refl

  walks-closing : {l : Line} {s : State} {r : Result State Fault} → WalksBranches x (closing l) s r → Ok s ≡ r
  walks-closing none_taken = refl

  small : {file : File} {s : State} {r : Result State Fault} → (largest_file < length file.bytes → ⊥) → Goes x file s r → Reads x file s r
  small fits d = record { large = λ large. absurd (fits large); fits = λ _. d }

  enters-reads : {file : File} {s : State} {r : Result State Fault} → Enters x file s r → Reads x file s r
  enters-reads (too_large large) = record { large = λ _. refl; fits = λ fits. absurd (fits large) }
  enters-reads (unended position fits l) = small fits (stops position l)
  enters-reads (badly_nested tokens place fits l t) = small fits (goes tokens l (stops place t))
  enters-reads (stopped_inside tokens g fault fits l t w) = small fits (goes tokens l (goes g t (stops fault w)))
  enters-reads (walked tokens g t fits l n w c) = small fits (goes tokens l (goes g n (goes t w c)))

  includes-found : {names : List (List ℕ)} {asked : Place} {s : State} {r : Result State Fault} → Includes x names asked s r → Found x asked s (search x.files names) r
  includes-found (missing e) = rw e refl
  includes-found (left_out file e known) = rw (e, known) refl
  includes-found (entered file e new d) = rw (e, new) d

  includes-with : {names : List (List ℕ)} {asked : Place} {s : State} {r : Result State Fault} {o : Option File} → search x.files names ≡ o
      → Includes x names asked s r → Found x asked s o r
  includes-with {asked = asked} {s = s} {r = r} e v = subst (λ o. Found x asked s o r) e (includes-found v)

  includes-file : {names : List (List ℕ)} {asked : Place} {s : State} {r : Result State Fault} {b : Bool} (file : File) → search x.files names ≡ Some file
      → is_once_file s file.name ≡ b → Includes x names asked s r → EntersUnless x file s b r
  includes-file {s = s} {r = r} file e known v = subst (λ b. EntersUnless x file s b r) known (includes-with e v)

  mutual
    pub steps-sole : {l : Line} {s : State} {r : Result State Fault} → Steps x l s r → Sole (Steps x l s) r
    steps-sole (text e) q v = sym (steps-with e v)
    steps-sole (null e) q v = sym (steps-with e v)
    steps-sole (stopped d fault e b c) q v = stops-sole (closes-sole c) q (steps-barrier e b v)
    steps-sole (carried_out d t e b c g) q v = goes-sole (closes-sole c) (carries-sole g) q (steps-barrier e b v)

    pub carries-sole : {l : Line} {s : State} {d : Directive} {r : Result State Fault} → Carries x l s d r → Sole (Carries x l s d) r
    carries-sole {l} {s} {d} (changed macros c) q v =
        goes-sole (changed-sole s.macros l d (Ok macros) (changed-as c)) (λ _ f. sym f) q (carries-with (not-said s.macros l d (Ok macros) (changed-as c)) v)
    carries-sole {l} {s} {d} (not_changed cause fault c at) q v =
        told-sole (refused-is at) (changed-sole s.macros l d (Err cause) (changed-as c)) q (carries-with (not-said s.macros l d (Err cause) (changed-as c)) v)
    carries-sole (not_expanded fault e says) q v = stops-sole (says-sole says) q (carries-with e v)
    carries-sole {l} {s} (numbered ts says e) q v = goes-sole (says-sole says) (λ p f. sym (numbered-with s l p e f)) q (carries-as v)
    carries-sole {l} {s} (not_numbered ts fault says e at) q v =
        goes-sole (says-sole says) (λ p f. ap Err (refused-is at) ∙ sym (numbered-with s l p e f)) q (carries-as v)
    carries-sole (no_header ts cause fault says e at) q v = goes-sole (says-sole says) (told-sole (refused-is at) (header-sole ts e)) q (carries-as v)
    carries-sole (too_deep ts header fault says e n at) q v =
        goes-sole (says-sole says) (goes-sole (header-sole ts e) (λ p f. ap Err (refused-is at) ∙ deep-sole n p f)) q (carries-as v)
    carries-sole (included ts header hash says e n is i) q v =
        goes-sole (says-sole says) (goes-sole (header-sole ts e) (nests-sole n is (includes-sole i))) q (carries-as v)

    walks-sole : {g : Group} {s : State} {r : Result State Fault} → Walks x g s r → Sole (Walks x g s) r
    walks-sole done s v = walks-empty v
    walks-sole (line t d w) s v = goes-sole (steps-sole d) (walks-sole w) s (walks-plain v)
    walks-sole (line_stops fault d) s v = stops-sole (steps-sole d) s (walks-plain v)
    walks-sole (taken t d w u) s v = goes-sole (decides-sole d) (goes-sole (walks-sole w) (walks-sole u)) s (walks-section v)
    walks-sole (taken_stops fault d w) s v = goes-sole (decides-sole d) (stops-sole (walks-sole w)) s (walks-section v)
    walks-sole (passed t d w u) s v = goes-sole (decides-sole d) (goes-sole (branches-sole w) (walks-sole u)) s (walks-section v)
    walks-sole (passed_stops fault d w) s v = goes-sole (decides-sole d) (stops-sole (branches-sole w)) s (walks-section v)
    walks-sole (head_stops fault d) s v = stops-sole (decides-sole d) s (walks-section v)

    branches-sole : {bs : Branches} {s : State} {r : Result State Fault} → WalksBranches x bs s r → Sole (WalksBranches x bs s) r
    branches-sole none_taken s v = walks-closing v
    branches-sole (last_taken w) s v = walks-sole w s (walks-otherwise v)
    branches-sole (later_taken d w) s v = goes-sole (decides-sole d) (walks-sole w) s (walks-alternative v)
    branches-sole (later_passed d w) s v = goes-sole (decides-sole d) (branches-sole w) s (walks-alternative v)
    branches-sole (later_stops fault d) s v = stops-sole (decides-sole d) s (walks-alternative v)

    enters-sole : {file : File} {s : State} {r : Result State Fault} → Enters x file s r → Sole (Enters x file s) r
    enters-sole (too_large large) q v = sym ((enters-reads v).large large)
    enters-sole {file} (unended position fits l) q v = stops-sole (lexed-sole file.bytes l) q ((enters-reads v).fits fits)
    enters-sole {file} (badly_nested tokens place fits l t) q v = goes-sole (lexed-sole file.bytes l) (stops-sole (tree-sole t)) q ((enters-reads v).fits fits)
    enters-sole {file} (stopped_inside tokens g fault fits l t w) q v =
        goes-sole (lexed-sole file.bytes l) (goes-sole (tree-sole t) (stops-sole (walks-sole w))) q ((enters-reads v).fits fits)
    enters-sole {file} (walked tokens g t fits l n w c) q v =
        goes-sole (lexed-sole file.bytes l) (goes-sole (tree-sole n) (goes-sole (walks-sole w) (closes-sole c))) q ((enters-reads v).fits fits)

    includes-sole : {names : List (List ℕ)} {asked : Place} {s : State} {r : Result State Fault} → Includes x names asked s r → Sole (Includes x names asked s) r
    includes-sole (missing e) q v = sym (includes-with e v)
    includes-sole (left_out file e known) q v = sym (includes-file file e known v)
    includes-sole (entered file e new d) q v = enters-sole d q (includes-file file e new v)

pub pre-unique : {space : Space} {files : Files} {main config : List ℕ} {r s : Result (List Token) Fault} → Pre space files main config r → Pre space files main config s → r ≡ s
pre-unique p q = p.is ∙ (ap output_of (includes-sole p.walked q.end q.walked) ∙ sym q.is)
