-- Calls and substitutions, computed on examples (C11 6.10.3.5).
use Rattle.std.proofs.Common.{◌≡◌, ℕ, Bool, true, false, List, [], ◌∷◌, ◌++◌, map, take, Option, Some, None, Result, Ok, Err, codes, refl, if◌then◌else◌}
use Rattle.c11_macros.specs.Call.{call_of, arguments_for}
use Rattle.c11_macros.specs.Defines.{Defined, reads, rest_named}
use Rattle.c11_macros.specs.Expansion as expansion
use Rattle.c11_macros.specs.Expansion.{Expands, asked, empty, stay, none, next, on}
use Rattle.c11_macros.specs.Footprint.{Footprint, footprint}
use Rattle.c11_macros.specs.Hidden.{Hidden, Provenance, Failure, failure_at, no_names}
use Rattle.c11_macros.specs.Macros.{Form, object_like, function_like, items, Macros}
use Rattle.sc_model.specs.Token.{Item}
use Rattle.c11_macros.specs.Substitution.{substituted, wanted_of}
use Rattle.c11_tokens.specs.Relex.{relexed}
use Rattle.sc_model.specs.Bytes.{same_bytes}
use Rattle.sc_model.specs.declared.cause.Cause.{Cause}
use Rattle.sc_model.specs.declared.cause.Cause.TheVariants.{BadDefine, ProtectedName, BadPaste, BadStringize, UnterminatedCall, WrongArguments}
use Rattle.sc_model.specs.declared.kind.Kind.{Kind}
use Rattle.sc_model.specs.declared.kind.Kind.TheVariants.{Other}
use Rattle.sc_model.specs.Token.{Place, Token}
use Rattle.sc_model.specs.declared.standard.Standard.TheVariants.{C11, C23, Gnu11}
use Rattle.std.specs.Prelude.{unwrap_or}

place : ℕ → Place
place n = record { file = []; position = record { line = 1; column = n } }

-- the number of a place stands for it
abbrev provenance : Provenance ℕ
provenance = record { place = place; mark = λ n. n }

abbrev kind_of : List ℕ → Kind
kind_of spelling = unwrap_or (relexed spelling) Other

-- a token, with white space before it or without
abbrev at : ℕ → Bool → List ℕ → Hidden ℕ
at n space spelling = record { kind = kind_of spelling; spelling = spelling; space = space; place = n; hide = no_names }

abbrev item : Bool → List ℕ → Item
item space spelling = record { kind = kind_of spelling; spelling = spelling; space = space }

abbrev head : Hidden ℕ
head = at 0 true (codes "m")

-- the spellings of what is substituted, and whether white space stands before each
abbrev shown : Result (List (Hidden ℕ)) (Failure ℕ) → Option (List (List ℕ × Bool))
shown (Ok ts) = Some (map (λ (t : Hidden ℕ). (t.spelling, t.space)) ts)
shown (Err failure) = None

abbrev x : List (List ℕ)
x = codes "x" ∷ []

abbrev xyz : List (List ℕ)
xyz = codes "x" ∷ codes "y" ∷ codes "z" ∷ []

-- #x, of B that would expand to 1
literal-of-the_argument : shown (substituted provenance (function_like x None) (item false (codes "#") ∷ item false (codes "x") ∷ []) head ((at 5 true (codes "B") ∷ []) ∷ []) ((at 5 true (codes "1") ∷ []) ∷ []) no_names)
    ≡ Some ((codes "\"B\"", true) ∷ [])
literal-of-the_argument = refl

-- a string literal within another, and white space in one place
literal-escaped : shown (substituted provenance (function_like x None) (item false (codes "#") ∷ item false (codes "x") ∷ []) head ((at 5 false (codes "a") ∷ at 6 true (codes "+") ∷ at 7 false (codes "\"b\\n\"") ∷ []) ∷ []) [] no_names)
    ≡ Some ((codes "\"a +\\\"b\\\\n\\\"\"", true) ∷ [])
literal-escaped = refl

-- # ## # of an object-like macro
hash_hash : shown (substituted provenance object_like (item false (codes "#") ∷ item true (codes "##") ∷ item true (codes "#") ∷ []) head [] [] no_names) ≡ Some ((codes "##", true) ∷ [])
hash_hash = refl

abbrev xyz_list : List Item
xyz_list = item false (codes "x") ∷ item true (codes "##") ∷ item true (codes "y") ∷ item true (codes "##") ∷ item true (codes "z") ∷ []

pasted-three : shown (substituted provenance (function_like xyz None) xyz_list head ((at 1 false (codes "1") ∷ []) ∷ (at 2 false (codes "2") ∷ []) ∷ (at 3 false (codes "3") ∷ []) ∷ []) [] no_names) ≡ Some ((codes "123", true) ∷ [])
pasted-three = refl

pasted-last_two : shown (substituted provenance (function_like xyz None) xyz_list head ([] ∷ (at 2 false (codes "4") ∷ []) ∷ (at 3 false (codes "5") ∷ []) ∷ []) [] no_names) ≡ Some ((codes "45", true) ∷ [])
pasted-last_two = refl

pasted-nothing : shown (substituted provenance (function_like xyz None) xyz_list head ([] ∷ [] ∷ [] ∷ []) [] no_names) ≡ Some []
pasted-nothing = refl

pasted-no_token : substituted provenance (function_like xyz None) xyz_list head ((at 1 false (codes "1") ∷ []) ∷ (at 2 false (codes "+") ∷ []) ∷ [] ∷ []) [] no_names ≡ Err (record { cause = BadPaste; place = 0 })
pasted-no_token = refl

stringized-no_literal : substituted provenance (function_like x None) (item false (codes "#") ∷ item false (codes "x") ∷ []) head ((at 5 false (codes "\\") ∷ []) ∷ []) [] no_names ≡ Err (record { cause = BadStringize; place = 0 })
stringized-no_literal = refl

-- a ## behind an operator is its operand
paste-operand : shown (substituted provenance object_like (item false (codes "#") ∷ item false (codes "##") ∷ item false (codes "##") ∷ []) head [] [] no_names) ≡ None
paste-operand = refl

-- x##x of an empty argument, and an argument that expands in one place alone
wants-beside : wanted_of (function_like x None) (item false (codes "x") ∷ item false (codes "##") ∷ item false (codes "x") ∷ []) ≡ []
wants-beside = refl

wants-elsewhere : wanted_of (function_like x None) (item false (codes "#") ∷ item false (codes "x") ∷ item false (codes "x") ∷ []) ≡ 0 ∷ []
wants-elsewhere = refl

-- of z x y x each once, in the order of the list
wants-in_order : wanted_of (function_like xyz None) (item false (codes "z") ∷ item false (codes "x") ∷ item false (codes "y") ∷ item false (codes "x") ∷ []) ≡ 2 ∷ 0 ∷ 1 ∷ []
wants-in_order = refl

-- #x y, where #x fails: y is not expanded
asks-nothing : asked provenance (record { form = function_like xyz None; replacement = items (item false (codes "#") ∷ item false (codes "x") ∷ item true (codes "y") ∷ []) }) head
    ((at 5 false (codes "\\") ∷ []) ∷ (at 6 false (codes "V") ∷ []) ∷ [] ∷ []) ≡ []
asks-nothing = refl

abbrev arguments_in : ℕ → List (Hidden ℕ) → Option (List (List (List ℕ)))
arguments_in commas ts = elim (call_of commas 0 ts) [
  | None ↦ None
  | Some call ↦ Some (map (map (λ (t : Hidden ℕ). t.spelling)) call.arguments)
]

-- f((a,b),c) with two parameters, and with none but ...
call-inner : arguments_in 2 (at 1 false (codes "(") ∷ at 2 false (codes "a") ∷ at 3 false (codes ",") ∷ at 4 false (codes "b") ∷ at 5 false (codes ")") ∷ at 6 false (codes ",") ∷ at 7 false (codes "c") ∷ at 8 false (codes ")") ∷ [])
    ≡ Some ((codes "(" ∷ codes "a" ∷ codes "," ∷ codes "b" ∷ codes ")" ∷ []) ∷ (codes "c" ∷ []) ∷ [])
call-inner = refl

call-variadic : arguments_in 0 (at 2 false (codes "a") ∷ at 3 false (codes ",") ∷ at 4 false (codes "b") ∷ at 5 false (codes ")") ∷ []) ≡ Some ((codes "a" ∷ codes "," ∷ codes "b" ∷ []) ∷ [])
call-variadic = refl

call-open : arguments_in 1 (at 1 false (codes "(") ∷ at 2 false (codes ")") ∷ []) ≡ None
call-open = refl

-- nothing between the parentheses
fits-no_parameter : arguments_for {A = ℕ} [] false ([] ∷ []) ≡ Some []
fits-no_parameter = refl

fits-one_parameter : arguments_for {A = ℕ} x false ([] ∷ []) ≡ Some ([] ∷ [])
fits-one_parameter = refl

fits-only_variadic : arguments_for {A = ℕ} [] true ([] ∷ []) ≡ Some ([] ∷ [])
fits-only_variadic = refl

fits-variadic : arguments_for {A = ℕ} x true ([] ∷ []) ≡ Some ([] ∷ [] ∷ [])
fits-variadic = refl

fits-not_two : arguments_for {A = ℕ} x false ([] ∷ [] ∷ []) ≡ None
fits-not_two = refl

-- ---- a comma, ## and the rest: x , ## r

abbrev comma_list : List Item
comma_list = item false (codes "x") ∷ item false (codes ",") ∷ item true (codes "##") ∷ item true (codes "r") ∷ []

abbrev gnu_form : Form
gnu_form = function_like x (rest_named Gnu11 (codes "r"))

comma-deleted : shown (substituted provenance gnu_form comma_list head ((at 1 false (codes "1") ∷ []) ∷ [] ∷ []) ((at 1 false (codes "1") ∷ []) ∷ [] ∷ []) no_names) ≡ Some ((codes "1", true) ∷ [])
comma-deleted = refl

-- R that expands to 2
comma-expanded : shown (substituted provenance gnu_form comma_list head ((at 1 false (codes "1") ∷ []) ∷ (at 2 false (codes "R") ∷ []) ∷ []) ((at 1 false (codes "1") ∷ []) ∷ (at 2 false (codes "2") ∷ []) ∷ []) no_names)
    ≡ Some ((codes "1", true) ∷ (codes ",", false) ∷ (codes "2", true) ∷ [])
comma-expanded = refl

comma-wants : wanted_of gnu_form comma_list ≡ 0 ∷ 1 ∷ []
comma-wants = refl

-- in C11 the comma is pasted
comma-pasted : shown (substituted provenance (function_like x (rest_named C11 (codes "r"))) comma_list head ((at 1 false (codes "1") ∷ []) ∷ [] ∷ []) ((at 1 false (codes "1") ∷ []) ∷ [] ∷ []) no_names)
    ≡ Some ((codes "1", true) ∷ (codes ",", false) ∷ [])
comma-pasted = refl

comma-with_paste : shown (substituted provenance gnu_form (comma_list ++ item true (codes "##") ∷ item true (codes "y") ∷ []) head ((at 1 false (codes "1") ∷ []) ∷ [] ∷ []) ((at 1 false (codes "1") ∷ []) ∷ [] ∷ []) no_names) ≡ None
comma-with_paste = refl

-- ---- lines that define

abbrev token : Bool → List ℕ → Token
token space spelling = record { kind = kind_of spelling; spelling = spelling; space = space; place = place 0 }

abbrev name_and_form : Result Defined Cause → Result (List ℕ × Form) Cause
name_and_form (Ok d) = Ok (d.name, d.definition.form)
name_and_form (Err cause) = Err cause

-- f(a, ...) and f (a)
reads-variadic : name_and_form (reads C11 (token true (codes "f") ∷ token false (codes "(") ∷ token false (codes "a") ∷ token false (codes ",") ∷ token true (codes "...") ∷ token false (codes ")") ∷ token true (codes "__VA_ARGS__") ∷ []))
    ≡ Ok (codes "f", function_like (codes "a" ∷ []) (rest_named C11 (codes "__VA_ARGS__")))
reads-variadic = refl

-- f(a, r...) in gnu11 and in C11
abbrev named_rest : List Token
named_rest = token true (codes "f") ∷ token false (codes "(") ∷ token false (codes "a") ∷ token false (codes ",") ∷ token true (codes "r") ∷ token false (codes "...") ∷ token false (codes ")") ∷ token true (codes "r") ∷ []

reads-named : name_and_form (reads Gnu11 named_rest) ≡ Ok (codes "f", function_like (codes "a" ∷ []) (rest_named Gnu11 (codes "r")))
reads-named = refl

reads-named_in_c11 : reads C11 named_rest ≡ Err BadDefine
reads-named_in_c11 = refl

reads-named_in_c23 : reads C23 named_rest ≡ Err BadDefine
reads-named_in_c23 = refl

reads-named_beside_dots : reads Gnu11 (token true (codes "f") ∷ token false (codes "(") ∷ token false (codes "r") ∷ token false (codes "...") ∷ token false (codes ")") ∷ token true (codes "__VA_ARGS__") ∷ []) ≡ Err BadDefine
reads-named_beside_dots = refl

reads-object : name_and_form (reads C11 (token true (codes "f") ∷ token true (codes "(") ∷ token false (codes "a") ∷ token false (codes ")") ∷ [])) ≡ Ok (codes "f", object_like)
reads-object = refl

reads-repeated : reads C11 (token true (codes "f") ∷ token false (codes "(") ∷ token false (codes "a") ∷ token false (codes ",") ∷ token true (codes "a") ∷ token false (codes ")") ∷ []) ≡ Err BadDefine
reads-repeated = refl

reads-early_end : reads C11 (token true (codes "f") ∷ token false (codes "(") ∷ token false (codes "a") ∷ []) ≡ Err BadDefine
reads-early_end = refl

reads-lone_hash : reads C11 (token true (codes "f") ∷ token false (codes "(") ∷ token false (codes ")") ∷ token true (codes "#") ∷ []) ≡ Err BadDefine
reads-lone_hash = refl

reads-hash_of_object : name_and_form (reads C11 (token true (codes "f") ∷ token true (codes "#") ∷ [])) ≡ Ok (codes "f", object_like)
reads-hash_of_object = refl

reads-paste_at_end : reads C11 (token true (codes "f") ∷ token true (codes "a") ∷ token true (codes "%:%:") ∷ []) ≡ Err BadDefine
reads-paste_at_end = refl

reads-protected : reads C11 (token true (codes "__VA_ARGS__") ∷ token true (codes "x") ∷ []) ≡ Err ProtectedName
reads-protected = refl

reads-no_name : reads C11 (token true (codes "1") ∷ []) ≡ Err BadDefine
reads-no_name = refl

-- ---- the footprint of a name

-- #define f(x) g and #define g(y) y
abbrev table : Macros
table name =
    if same_bytes name (codes "f") then Some (record { form = function_like x None; replacement = items (item false (codes "g") ∷ []) })
    else (if same_bytes name (codes "g") then Some (record { form = function_like (codes "y" ∷ []) None; replacement = items (item false (codes "y") ∷ []) })
    else None)

-- f(1)(2);
abbrev line : List (Hidden ℕ)
line = at 1 true (codes "f") ∷ at 2 false (codes "(") ∷ at 3 false (codes "1") ∷ at 4 false (codes ")") ∷ at 5 false (codes "(") ∷ at 6 false (codes "2") ∷ at 7 false (codes ")") ∷ at 8 false (codes ";") ∷ []

abbrev line_expands : (r : Result (List (Hidden ℕ)) (Failure ℕ)) × Expands provenance table line r
line_expands = (_, expansion.call _ _ _ _ _ refl none (on (expansion.call _ _ _ _ _ refl (next _ (stay refl empty) none) (on (stay refl (stay refl empty))))))

-- what g takes was behind f, and 1 and 2 are no names
footprint-goes_on : footprint line_expands.1 ≡ record { left = 1; looked_up = codes "f" ∷ codes "g" ∷ []; fails = false }
footprint-goes_on = refl

-- g(1,2); has no answer, and g(1 no end
abbrev misfit_line : List (Hidden ℕ)
misfit_line = at 1 true (codes "g") ∷ at 2 false (codes "(") ∷ at 3 false (codes "1") ∷ at 4 false (codes ",") ∷ at 5 false (codes "2") ∷ at 6 false (codes ")") ∷ at 7 false (codes ";") ∷ []

abbrev of_misfit : Footprint
of_misfit = let d : Expands provenance table misfit_line (Err (failure_at WrongArguments (at 1 true (codes "g")))) = expansion.miscounted _ refl in footprint d

footprint-misfit : of_misfit ≡ record { left = 1; looked_up = codes "g" ∷ []; fails = true }
footprint-misfit = refl

abbrev of_open : Footprint
of_open = let d : Expands provenance table (take 3 misfit_line) (Err (failure_at UnterminatedCall (at 1 true (codes "g")))) = expansion.unterminated refl in footprint d

footprint-open : of_open ≡ record { left = 2; looked_up = codes "g" ∷ []; fails = true }
footprint-open = refl
