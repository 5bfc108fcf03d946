-- Walking lines that are spelled on one line keeps the macros and the text so.
use Rattle.std.proofs.Common.{◌≡◌, ℕ, zero, suc, ◌==◌, ◌||◌, Bool, true, false, List, [], ◌∷◌, ◌++◌, All, codes, length, map, take, drop, Option, Some, None, Result, Ok, Err, refl, sym, subst, IfOk, ◌-◌, if◌then◌else◌}
use Rattle.c11_directives.specs.Lines.{Line, line_of, lines_of, split_lines, onto_first, Group, Branches, group_lines, branch_lines, Tree, nested}
use Rattle.c11_headers.specs.Headers.{Header, header_with, delimited, spaced, up_to_angle, form_by, form_of, is_file_name, with_file_name, header_of, is_slash, directory_of, is_absolute, in_directory, beside, candidates}
use Rattle.c11_headers.specs.declared.kind.HeaderKind.TheVariants.{Quoted, Angle}
use Rattle.c11_headers.specs.declared.kind.HeaderKind.{HeaderKind}
use Rattle.sc_model.specs.Token.{Lexeme, Place, Token, in_file}
use Rattle.sc_model.specs.declared.kind.Kind.TheVariants as kind
use Rattle.sc_model.specs.declared.kind.Kind.{Kind}
use Rattle.sc_prep.proofs.Facts.{PlainToken, and_parts, both, every-map, lexed-plain, not-true, not_from_false, or_from, or_parts, reads-one_line, recursion_from_All, update-one_line}
use Rattle.sc_prep.proofs.Plain.{expands-plain, spelled-plain}
use Rattle.sc_prep.proofs.Terms.{AllByRecursion as Every, AreOneLine, BadInclude, Carries, Cause, Changes, Closes, Context, Defined, Defines, Directive, Enters, Fault, File, Files, IfSome, Includes, IsOneLineList, IsPlainState, IsPlainToken, Lexed, Macros, ProtectedName, Says, Standard, State, Steps, TextExpands, Walks, WalksBranches, again, as_it_stands, back, badly_nested, begins_with, behind_name, carried_out, changed, closed, defines, defines_nothing, done, entered, error, expanded, file_lines, found_or, fresh, has_no_newline, head_stops, ignored, included, inside, is_newline, is_protected, last_taken, later_passed, later_stops, later_taken, left_out, line, line_stops, list_all, list_any, missing, no_header, none_taken, not_changed, not_expanded, not_numbered, null, numbered, operand_of, option_map, passed, passed_stops, reads, redefined, refused, result_map, same_bytes, search, stopped, stopped_inside, taken, taken_stops, text, too_deep, too_large, undefined, undefines, unended, unknown, walked, without_macro}

-- ---- lists

pub every-append : {A : Type 0} (P : A → Type 0) (xs ys : List A) → Every P xs → Every P ys → Every P (xs ++ ys)
every-append P [] ys p q = q
every-append P (x ∷ xs) ys p q = (p.0, every-append P xs ys p.1 q)

every-parts : {A : Type 0} (P : A → Type 0) (xs ys : List A) → Every P (xs ++ ys) → Every P xs × Every P ys
every-parts P [] ys all = (tt, all)
every-parts P (x ∷ xs) ys all = let parts = every-parts P xs ys all.1 in ((all.0, parts.0), parts.1)

pub every-drop : {A : Type 0} (P : A → Type 0) (n : ℕ) (xs : List A) → Every P xs → Every P (drop n xs)
every-drop P zero xs all = all
every-drop P (suc n) [] all = tt
every-drop P (suc n) (x ∷ xs) all = every-drop P n xs all.1

pub every-take : {A : Type 0} (P : A → Type 0) (n : ℕ) (xs : List A) → Every P xs → Every P (take n xs)
every-take P zero xs all = tt
every-take P (suc n) [] all = tt
every-take P (suc n) (x ∷ xs) all = (all.0, every-take P n xs all.1)

-- ---- names on one line

abbrev IsPlain : List ℕ → Type 0
IsPlain bs = has_no_newline bs ≡ true

abbrev IsInLine : ℕ → Type 0
IsInLine b = (b == 10) ≡ false

bytes-plain : (bs : List ℕ) → IsPlain bs → Every IsInLine bs
bytes-plain [] p = tt
bytes-plain (b ∷ bs) p = let parts = or_parts _ _ (not-true _ p) in (parts.0, bytes-plain bs (not_from_false _ parts.1))

from-bytes : (bs : List ℕ) → Every IsInLine bs → IsPlain bs
from-bytes [] all = refl
from-bytes (b ∷ bs) all = not_from_false _ (or_from _ _ all.0 (not-true _ (from-bytes bs all.1)))

append-plain : (xs ys : List ℕ) → IsPlain xs → IsPlain ys → IsPlain (xs ++ ys)
append-plain xs ys p q = from-bytes (xs ++ ys) (every-append IsInLine xs ys (bytes-plain xs p) (bytes-plain ys q))

delimited-plain : (spelling : List ℕ) → IsPlain spelling → IsPlain (delimited spelling)
delimited-plain spelling p =
    from-bytes (delimited spelling) (every-take IsInLine (length spelling - 2) (drop 1 spelling) (every-drop IsInLine 1 spelling (bytes-plain spelling p)))

directory-plain : (name : List ℕ) → Every IsInLine name → Every IsInLine (directory_of name)
directory-plain [] all = tt
directory-plain (b ∷ bs) all =
    both (Every IsInLine) (list_any is_slash (b ∷ bs)) (b ∷ directory_of bs) [] (all.0, directory-plain bs all.1) tt

-- ---- the header that an #include names

abbrev PlainHeader : Header → Type 0
PlainHeader header = IsPlain header.name

spaced-plain : (t : Token) → PlainToken t → IsPlain (spaced t)
spaced-plain t p = append-plain (if t.space then codes " " else []) t.spelling (both IsPlain t.space (codes " ") [] refl refl) p

some-map : {A B : Type 0} (P : A → Type 0) (Q : B → Type 0) (f : A → B) → ((a : A) → P a → Q (f a)) → (o : Option A) → IfSome o P → IfSome (option_map f o) Q
some-map P Q f h None p = tt
some-map P Q f h (Some a) p = h a p

angle-plain : (ts : List Token) → Every PlainToken ts → IfSome (up_to_angle ts) IsPlain
angle-plain [] all = tt
angle-plain (t ∷ ts) all =
    both (λ (o : Option (List ℕ)). IfSome o IsPlain) (same_bytes t.spelling (codes ">")) (Some []) (option_map (λ name. spaced t ++ name) (up_to_angle ts)) refl
    (some-map IsPlain IsPlain (λ name. spaced t ++ name) (λ name p. append-plain (spaced t) name (spaced-plain t all.0) p) (up_to_angle ts) (angle-plain ts all.1))

form_by-plain : (k : Kind) (spelling : List ℕ) (rest : List Token) → IsPlain spelling → Every PlainToken rest → IfSome (form_by k spelling rest) PlainHeader
form_by-plain kind.Header spelling rest p all = delimited-plain spelling p
form_by-plain kind.Text spelling rest p all =
    both (λ (o : Option Header). IfSome o PlainHeader) (begins_with (34 ∷ []) spelling) (Some (header_with Quoted (delimited spelling))) None (delimited-plain spelling p) tt
form_by-plain kind.Punctuator spelling rest p all =
    both (λ (o : Option Header). IfSome o PlainHeader) (same_bytes spelling (codes "<")) (option_map (header_with Angle) (up_to_angle rest)) None
    (some-map IsPlain PlainHeader (header_with Angle) (λ name q. q) (up_to_angle rest) (angle-plain rest all)) tt
form_by-plain kind.Identifier spelling rest p all = tt
form_by-plain kind.Number spelling rest p all = tt
form_by-plain kind.Character spelling rest p all = tt
form_by-plain kind.Other spelling rest p all = tt
form_by-plain kind.Newline spelling rest p all = tt

form-plain : (ts : List Token) → Every PlainToken ts → IfSome (form_of ts) PlainHeader
form-plain [] all = tt
form-plain (t ∷ ts) all = form_by-plain t.kind t.spelling ts all.0 all.1

file_name-plain : (o : Option Header) → IfSome o PlainHeader → IfOk (with_file_name o) PlainHeader
file_name-plain None p = tt
file_name-plain (Some header) p = both (λ (r : Result Header Cause). IfOk r PlainHeader) (is_file_name header.name) (Ok header) (Err BadInclude) p tt

pub header-plain : (ts : List Token) (header : Header) → Every PlainToken ts → header_of ts ≡ Ok header → IsPlain header.name
header-plain ts header all is = subst (λ (r : Result Header Cause). IfOk r PlainHeader) is (file_name-plain (form_of ts) (form-plain ts all))

-- ---- the file that is searched for

beside-plain : (k : HeaderKind) (name including : List ℕ) → IsPlain name → IsPlain including → Every IsPlain (beside k name including)
beside-plain Quoted name including p q = (append-plain (directory_of including) name (from-bytes (directory_of including) (directory-plain including (bytes-plain including q))) p, tt)
beside-plain Angle name including p q = tt

pub candidates-plain : (header : Header) (including : List ℕ) (directories : List (List ℕ)) → IsPlain header.name → IsPlain including → Every IsPlain directories
    → Every IsPlain (candidates header including directories)
candidates-plain header including directories p q all =
    let within = every-map IsPlain IsPlain (in_directory header.name) (λ directory r. append-plain (directory ++ codes "/") header.name (append-plain directory (codes "/") r refl) p) directories all in
    both (Every IsPlain) (is_absolute header.name) (header.name ∷ []) (beside header.kind header.name including ++ map (in_directory header.name) directories) (p, tt)
    (every-append IsPlain (beside header.kind header.name including) (map (in_directory header.name) directories) (beside-plain header.kind header.name including p q) within)

abbrev PlainFile : File → Type 0
PlainFile file = IsPlain file.name

found-plain : (later : Option File) (name : List ℕ) (bytes : Option (List ℕ)) → IsPlain name → IfSome later PlainFile → IfSome (found_or later name bytes) PlainFile
found-plain later name None p q = q
found-plain later name (Some bytes) p q = p

search-plain : (files : Files) (names : List (List ℕ)) → Every IsPlain names → IfSome (search files names) PlainFile
search-plain files [] all = tt
search-plain files (name ∷ names) all = found-plain (search files names) name (files name) all.0 (search-plain files names all.1)

pub searched-plain : (files : Files) (names : List (List ℕ)) (file : File) → Every IsPlain names → search files names ≡ Some file → IsPlain file.name
searched-plain files names file all is = subst (λ (o : Option File). IfSome o PlainFile) is (search-plain files names all)

-- ---- what a directive makes of the macros

abbrev PlainLine : Line → Type 0
PlainLine l = Every IsPlainToken l.tokens

abbrev pub PlainChange : Result Macros Cause → Type 0
PlainChange r = IfOk r AreOneLine

pub undefined-plain : (macros : Macros) (o : Option (List ℕ)) → AreOneLine macros → PlainChange (undefined macros o)
undefined-plain macros None lists = tt
undefined-plain macros (Some name) lists = both PlainChange (is_protected name) (Err ProtectedName) (Ok (without_macro macros name)) tt (update-one_line macros name None lists tt)

-- the list of a macro that a line defines
pub read-plain : (l : Line) (d : Defined) → Every IsPlainToken l.tokens → reads l.standard (behind_name l) ≡ Ok d → IsOneLineList d.definition.replacement
read-plain l d all is = reads-one_line l.standard (behind_name l) d (spelled-plain (behind_name l) (every-drop IsPlainToken 2 l.tokens all)) is

defines-plain : {macros : Macros} {d : Defined} {r : Result Macros Cause} → Defines macros d r → AreOneLine macros → IsOneLineList d.definition.replacement → PlainChange r
defines-plain {macros} {d} (fresh e) lists one = update-one_line macros d.name (Some d.definition) lists one
defines-plain {macros} {d} (again e) lists one = update-one_line macros d.name (Some d.definition) lists one
defines-plain (redefined other e n) lists one = tt

changes-plain : {macros : Macros} {l : Line} {d : Directive} {r : Result Macros Cause} → Changes macros l d r → AreOneLine macros → PlainLine l → PlainChange r
changes-plain (ignored e) lists all = lists
changes-plain unknown lists all = tt
changes-plain error lists all = tt
changes-plain {l = l} (defines d e f) lists all = defines-plain f lists (read-plain l d all e)
changes-plain (defines_nothing cause e) lists all = tt
changes-plain {macros} {l} undefines lists all = undefined-plain macros (operand_of l) lists

-- ---- what a line says

expanded-plain : (macros : Macros) (ts : List Token) (r : Result (List Token) Fault) → AreOneLine macros → Every IsPlainToken ts → TextExpands macros ts r → IfOk r (Every PlainToken)
expanded-plain macros ts (Ok output) lists all d = recursion_from_All PlainToken output (expands-plain macros lists ts output all d)
expanded-plain macros ts (Err fault) lists all d = tt

pub says-plain : {macros : Macros} {l : Line} {r : Result (List Token) Fault} → Says macros l r → AreOneLine macros → PlainLine l → IfOk r (Every PlainToken)
says-plain {l = l} (as_it_stands e) lists all = recursion_from_All PlainToken (behind_name l) (spelled-plain (behind_name l) (every-drop IsPlainToken 2 l.tokens all))
says-plain {macros} {l} (expanded {r = r} e d) lists all = expanded-plain macros (behind_name l) r lists (every-drop IsPlainToken 2 l.tokens all) d

-- ---- the lines of a file

-- a newline, or spelled on one line, in a file whose name is
pub record IsPlainAt (t : Token) : Type 0 where
  pub spelling : (is_newline t.kind || has_no_newline t.spelling) ≡ true
  pub file : has_no_newline t.place.file ≡ true

onto-plain : (t : Token) (lines : List (List Token)) → IsPlainToken t → Every (Every IsPlainToken) lines → Every (Every IsPlainToken) (onto_first t lines)
onto-plain t [] p all = ((p, tt), tt)
onto-plain t (l ∷ lines) p all = ((p, all.0), all.1)

split-plain : (ts : List Token) → Every IsPlainAt ts → Every (Every IsPlainToken) (split_lines (λ t. is_newline t.kind) ts)
split-plain [] all = tt
split-plain (t ∷ ts) all = by (split-plain ts all.1) (is_newline t.kind) all.0.spelling
  where
    by : Every (Every IsPlainToken) (split_lines (λ (t : Token). is_newline t.kind) ts) → (b : Bool) → (b || has_no_newline t.spelling) ≡ true
        → Every (Every IsPlainToken) (if b then [] ∷ split_lines (λ (t : Token). is_newline t.kind) ts else onto_first t (split_lines (λ (t : Token). is_newline t.kind) ts))
    by rest true e = (tt, rest)
    by rest false e = onto-plain t (split_lines (λ (t : Token). is_newline t.kind) ts) (record { spelling = e; file = all.0.file }) rest

pub lines-plain : (standard : Standard) (ts : List Token) → Every IsPlainAt ts → Every (λ (l : Line). Every IsPlainToken l.tokens) (lines_of standard ts)
lines-plain standard ts all = every-map (Every IsPlainToken) (λ (l : Line). Every IsPlainToken l.tokens) (line_of standard) (λ ts p. p) (split_lines (λ t. is_newline t.kind) ts) (split-plain ts all)

pub in_file-plain : (name : List ℕ) (ts : List Lexeme) → IsPlain name → list_all (λ (t : Lexeme). is_newline t.kind || has_no_newline t.spelling) ts ≡ true → Every IsPlainAt (map (in_file name) ts)
in_file-plain name [] p all = tt
in_file-plain name (t ∷ ts) p all =
    let parts = and_parts (is_newline t.kind || has_no_newline t.spelling) (list_all (λ (t : Lexeme). is_newline t.kind || has_no_newline t.spelling) ts) all in
    (record { spelling = parts.0; file = p }, in_file-plain name ts p parts.1)

-- ---- the walk

pub closed-plain : {s : State} {r : Result State Fault} → Closes s r → IsPlainState s → IfOk r IsPlainState
closed-plain (closed output d) p = record { macros = p.macros; run = tt; file = p.file }
closed-plain (refused fault d) p = tt

tree-plain : {lines : List Line} {g : Group} → Tree lines (Ok g) → Every PlainLine lines → Every PlainLine (group_lines g)
tree-plain (nested group t) all = subst (Every PlainLine) (sym t.whole) all

pub back-plain : (s : State) (r : Result State Fault) → IsPlainState s → IfOk r IsPlainState → IfOk (result_map (back s) r) IsPlainState
back-plain s (Ok t) p q = record { macros = q.macros; run = q.run; file = p.file }
back-plain s (Err fault) p q = tt

pub inside-plain : (file : File) (s : State) → IsPlainState s → IsPlain file.name → IsPlainState (inside file s)
inside-plain file s p named = record { macros = p.macros; run = p.run; file = named }

-- what a section has behind its first line
section-plain : (g : Group) (bs : Branches) (rest : Group) → Every PlainLine (group_lines g ++ branch_lines bs ++ group_lines rest)
    → Every PlainLine (group_lines g) × Every PlainLine (branch_lines bs) × Every PlainLine (group_lines rest)
section-plain g bs rest all =
    let outer = every-parts PlainLine (group_lines g ++ branch_lines bs) (group_lines rest) all in
    let inner = every-parts PlainLine (group_lines g) (branch_lines bs) outer.0 in
    (inner.0, inner.1, outer.1)

module _ (x : Context) (directories : All IsPlain x.include) where
  file-plain : (file : File) (tokens : List Lexeme) {g : Group} → Lexed file.bytes (Ok tokens) → Tree (file_lines x file tokens) (Ok g) → IsPlain file.name → Every PlainLine (group_lines g)
  file-plain file tokens l t p =
      tree-plain t (lines-plain x.standard (map (in_file file.name) tokens) (in_file-plain file.name tokens p (lexed-plain file.bytes tokens l)))

  pub names-plain : {s : State} {l : Line} (ts : List Token) (header : Header) → Says s.macros l (Ok ts) → header_of ts ≡ Ok header → IsPlainState s → PlainLine l
      → Every IsPlain (candidates header s.file x.include)
  names-plain {s} ts header says is p all =
      candidates-plain header s.file x.include (header-plain ts header (says-plain says p.macros all) is) p.file (recursion_from_All IsPlain x.include directories)

  mutual
    pub steps-plain : {l : Line} {s : State} {r : Result State Fault} → Steps x l s r → IsPlainState s → Every IsPlainToken l.tokens → IfOk r IsPlainState
    steps-plain {l} {s} (text e) p all = record { macros = p.macros; run = every-append IsPlainToken s.run l.tokens p.run all; file = p.file }
    steps-plain (null e) p all = p
    steps-plain (stopped d fault e b c) p all = tt
    steps-plain (carried_out d t e b c g) p all = carries-plain g (closed-plain c p) all

    pub carries-plain : {l : Line} {s : State} {d : Directive} {r : Result State Fault} → Carries x l s d r → IsPlainState s → Every IsPlainToken l.tokens → IfOk r IsPlainState
    carries-plain (changed macros c) p all = record { macros = changes-plain c p.macros all; run = p.run; file = p.file }
    carries-plain (not_changed cause fault c at) p all = tt
    carries-plain (not_expanded fault e says) p all = tt
    carries-plain (numbered ts says e) p all = p
    carries-plain (not_numbered ts fault says e at) p all = tt
    carries-plain (no_header ts cause fault says e at) p all = tt
    carries-plain (too_deep ts header fault says e n at) p all = tt
    carries-plain {s = s} (included {r = r} ts header hash says e n is i) p all =
        back-plain s r p (includes-plain i (record { macros = p.macros; run = p.run; file = p.file }) (names-plain ts header says e p all))

    pub includes-plain : {names : List (List ℕ)} {asked : Place} {s : State} {r : Result State Fault} → Includes x names asked s r → IsPlainState s → Every IsPlain names → IfOk r IsPlainState
    includes-plain (missing e) p all = tt
    includes-plain (left_out file e once) p all = p
    includes-plain {names} (entered file e new d) p all = enters-plain d p (searched-plain x.files names file all e)

    pub enters-plain : {file : File} {s : State} {r : Result State Fault} → Enters x file s r → IsPlainState s → IsPlain file.name → IfOk r IsPlainState
    enters-plain (too_large large) p named = tt
    enters-plain (unended position fits l) p named = tt
    enters-plain (badly_nested tokens place fits l t) p named = tt
    enters-plain (stopped_inside tokens g fault fits l t w) p named = tt
    enters-plain {file} {s} (walked tokens g t fits l n w c) p named = closed-plain c (walks-plain w (inside-plain file s p named) (file-plain file tokens l n named))

    pub walks-plain : {g : Group} {s : State} {r : Result State Fault} → Walks x g s r → IsPlainState s → Every (λ (l : Line). Every IsPlainToken l.tokens) (group_lines g) → IfOk r IsPlainState
    walks-plain done p all = p
    walks-plain (line t d w) p all = walks-plain w (steps-plain d p all.0) all.1
    walks-plain (line_stops fault d) p all = tt
    walks-plain (taken {group = g} {branches = bs} {rest = rest} t d w v) p all =
        let parts = section-plain g bs rest all.1 in walks-plain v (walks-plain w p parts.0) parts.2
    walks-plain (taken_stops fault d w) p all = tt
    walks-plain (passed {group = g} {branches = bs} {rest = rest} t d w v) p all =
        let parts = section-plain g bs rest all.1 in walks-plain v (branches-plain w p parts.1) parts.2
    walks-plain (passed_stops fault d w) p all = tt
    walks-plain (head_stops fault d) p all = tt

    pub branches-plain : {bs : Branches} {s : State} {r : Result State Fault} → WalksBranches x bs s r → IsPlainState s → Every (λ (l : Line). Every IsPlainToken l.tokens) (branch_lines bs) → IfOk r IsPlainState
    branches-plain none_taken p all = p
    branches-plain (last_taken {group = g} {line = end} w) p all = walks-plain w p (every-parts PlainLine (group_lines g) (end ∷ []) all.1).0
    branches-plain (later_taken {group = g} {branches = bs} d w) p all = walks-plain w p (every-parts PlainLine (group_lines g) (branch_lines bs) all.1).0
    branches-plain (later_passed {group = g} {branches = bs} d w) p all = branches-plain w p (every-parts PlainLine (group_lines g) (branch_lines bs) all.1).1
    branches-plain (later_stops fault d) p all = tt
