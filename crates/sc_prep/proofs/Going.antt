-- What a walk did and then did: how far it has gone from its start, while the tables grow.
use Rattle.std.proofs.Common.{◌≡◌, ℕ, ◌+◌, ◌<◌, Bool, true, false, List, [], ◌∷◌, All, map, length, Option, Some, None, Result, Ok, Err, if◌then◌else◌, refl, sym, ap, ◌∙◌, subst, arith, slice_get}
use Rattle.c11_directives.specs.declared.directive.Directive.TheVariants as directive
use Rattle.c11_headers.specs.Headers.{Header, candidates, header_of}
use Rattle.sc_base.specs.declared.token.Token as base
use Rattle.sc_lines.specs.declared.line.Line as declared
use Rattle.sc_model.specs.Token.{Token}
use Rattle.sc_prep.proofs.BetweenRuns.{arriving-between, carries-run, closing-between, refused-acts}
use Rattle.sc_prep.proofs.Contents.{agrees-back, tokens-later}
use Rattle.sc_prep.proofs.Facts.{All-head, Extends-keeps, Extends-trans, Keeps-trans, same_Some}
use Rattle.sc_prep.proofs.InFile.{inside-as, whereabouts}
use Rattle.sc_prep.proofs.LeadMoves.{contents-then, leads-then}
use Rattle.sc_prep.proofs.Machine.{inert_arriving}
use Rattle.sc_prep.proofs.NamedFiles.{sound-plain}
use Rattle.sc_prep.proofs.PlainRuns.{covers-plain, each-leads, takes-plain}
use Rattle.sc_prep.proofs.Terms.{Agrees, AllByRecursion as Every, AreContents, AreHeldLines, ArePlainPaths, CarriesOut, Closed, Contents, Context, Enters, EntersAt, Entry, Extends, Fault, File, FileId, FileLines, Files, Finds, IsBetweenRuns, IsConfig, IsContext, IsIn, IsPlaced, IsPlainState, IsPlainToken, IsSound, Line, Machine, RunExpands, Says, Sets, Simulates, Space, Standard, State, Takes, Walk, acts, arriving, back, carries, closing_run, deeper, entered, file_with, found_or, hash_of, included, is_once_file, is_plain, left_out, line_of, put_out, result_map, search, seen, seen_line, text_at, token_lines, tokens_of, unwrap_or}
use Rattle.sc_prep.specs.Going.{Gone}
use Rattle.sc_prep.specs.Includes as includes
use Rattle.sc_prep.specs.Machine as machine

module _ {space : Space} {a b c : Sets} {names files mid mid_files more more_files : List (List ℕ)} {u v w : Walk} {one two three : Contents} {given also : Type 0} {from between : Machine → Type 0}
    {does later whole : Context → List ℕ → Machine → Machine → Type 0} {holds : Option Files} (gone : Gone space a names files u one b mid mid_files v two given from does)
    (held : AreContents space.standard mid mid_files holds two) (next : Gone space b mid mid_files v two c more more_files w three also between later) where
  -- and what the next call did
  pub gone-then : (given → also) → ((x : Context) (config : List ℕ) (m n : Machine) → from m → does x config m n → between n)
      → (given → (x : Context) → IsContext space x → IsSound space → ArePlainPaths files → (config : List ℕ) (m n : Machine) → does x config m n → from m → IsPlainState m.state → IsPlainState n.state)
      → ((x : Context) (config : List ℕ) (m n o : Machine) → IsContext space x → IsConfig a.arities config → from m → does x config m n → later x config n o
      → Simulates c more more_files w config o → whole x config m o)
      → Gone space a names files u one c more more_files w three given from whole
  gone-then allows goes stays joins =
      let before : (x : Context) → Agrees space.standard more more_files x.files three → Agrees space.standard mid mid_files x.files two =
      λ x agreed. agrees-back next.names_grow next.files_grow held x.files next.read agreed in
      record {
        keeps = Keeps-trans gone.keeps next.keeps;
        names_grow = Extends-trans gone.names_grow next.names_grow;
        files_grow = Extends-trans gone.files_grow next.files_grow;
        read = contents-then gone.read next.read;
        leads = λ x context agreed. leads-then gone.keeps (gone.leads x context (before x agreed)) (next.leads x context agreed) (goes x)
            (λ config m n o listed here first second at. joins x config m n o context listed here first second at);
        plain = λ g x context agreed sound plain_paths each list.
            next.plain (allows g) x context agreed sound (gone.paths g x context (before x agreed) sound plain_paths each)
            (each-leads gone.keeps (gone.leads x context (before x agreed)) (λ config m n did is state. (goes x config m n is did, stays g x context sound plain_paths config m n did is state)) each)
            (gone.plain g x context (before x agreed) sound plain_paths each list);
        paths = λ g x context agreed sound plain_paths each.
            next.paths (allows g) x context agreed sound (gone.paths g x context (before x agreed) sound plain_paths each)
            (each-leads gone.keeps (gone.leads x context (before x agreed)) (λ config m n did is state. (goes x config m n is did, stays g x context sound plain_paths config m n did is state)) each);
      }

-- ---- texts that are spelled on one line

-- the directories of a space are named on one line
pub directories-plain : {space : Space} {x : Context} → IsContext space x → IsSound space → ArePlainPaths x.include
directories-plain context sound = subst ArePlainPaths (sym context.include) (sound-plain sound)

pub plain-line : (names files : List (List ℕ)) (ts : List base.Token) → Every IsPlainToken (map (seen names files) ts) → Every (λ (t : base.Token). is_plain names t ≡ true) ts
plain-line names files [] all = tt
plain-line names files (t ∷ ts) all = (all.0.spelling, plain-line names files ts all.1)

-- ---- the file of a line

pub entry-within : {names : List (List ℕ)} {files : ℕ} {file : FileId} {standard : Standard} (lines : FileLines) → AreHeldLines standard names files file lines → (i : ℕ) → i < length lines.lines.items → file.0 < files
entry-within {names} {files} {file} lines held i within = by lines.tokens.items held.placed held.inside lines.lines.items held.lines_are.tokens_are within
  where
    by : (ts : List base.Token) → All (IsPlaced names files) ts → All (λ (t : base.Token). t.place.file ≡ file) ts → (ls : List declared.Line) → map (tokens_of ts) ls ≡ token_lines ts
        → i < length ls → file.0 < files
    by [] placed inside [] e h = absurd (omega (arith, h))
    by [] placed inside (l ∷ ls) e h = absurd (cc)
    by (t ∷ ts) placed inside ls e h =
        subst (λ (f : FileId). f.0 < files) (All-head (λ (t : base.Token). t.place.file ≡ file) t ts inside) (All-head (IsPlaced names files) t ts placed).file

-- a line looks the same while the tables grow
pub line-later : (standard : Standard) {names more files more_files : List (List ℕ)} → Extends names more → Extends files more_files → (ts : List base.Token) → All (IsPlaced names (length files)) ts
    → seen_line standard more more_files ts ≡ seen_line standard names files ts
line-later standard grows files_grow ts placed = ap (line_of standard) (tokens-later grows files_grow ts placed)

-- ---- a run that was closed stays in its file

pub closed-in : {files : List (List ℕ)} {entry : Entry} (m k : Machine) → IsIn files entry m → Closed m k → IsIn files entry k
closed-in {files} {entry} m k here closed = subst (IsIn files entry) (sym closed.is) (by closed.answer)
  where
    same : (b : Bool) (output : List Token) → whereabouts (if b then put_out m.state output else m.state) ≡ whereabouts m.state
    same true output = refl
    same false output = refl

    by : (r : Result (List Token) Fault) → IsIn files entry (closing_run m r)
    by (Ok output) acting = inside-as (same (acts m) output) (here acting)
    by (Err fault) acting = absurd (refused-acts m.active m.fault fault acting)

-- ---- the file of an #include

-- a search finds what a file of the name holds
pub searched : (held : Files) (names : List (List ℕ)) (f : File) → search held names ≡ Some f → held f.name ≡ Some f.bytes
searched held [] f e = absurd (cc)
searched held (name ∷ names) f e = by (held name) refl e (searched held names f)
  where
    by : (o : Option (List ℕ)) → held name ≡ o → found_or (search held names) name o ≡ Some f → (search held names ≡ Some f → held f.name ≡ Some f.bytes) → held f.name ≡ Some f.bytes
    by None there e later = later e
    by (Some bytes) there e later = subst (λ (g : File). held g.name ≡ Some g.bytes) (same_Some (file_with name bytes) f e) there

-- Of the machine behind a closed run: its file is still among those that are left, or the directive
-- was carried out.
pub data Stage (x : Context) (l : Line) (files : List (List ℕ)) (depth : ℕ) (k : Machine) : List FileId → Machine → Type 0 where
  waits : (file : FileId) (ts : List Token) (header : Header) (hash : Token) (f : File) → acts k ≡ true → Says k.state.macros l (Ok ts) → header_of ts ≡ Ok header → k.state.depth ≡ depth
      → k.state.depth < x.include_depth → hash_of l ≡ Some hash → search x.files (candidates header k.state.file x.include) ≡ Some f → slice_get files file.0 ≡ Some f.name
      → Stage x l files depth k (file ∷ []) k
  came : (e : Result State Fault) → CarriesOut x k l directive.Include e → Stage x l files depth k [] (arriving k e)

pub record Staged (x : Context) (l : Line) (files : List (List ℕ)) (depth : ℕ) (m : Machine) (left : List FileId) (n : Machine) : Type 0 where
  pub answer : Result (List Token) Fault
  pub expands : RunExpands m answer
  pub stage : Stage x l files depth (closing_run m answer) left n

finds-stage : {x : Context} {l : Line} {files : List (List ℕ)} (depth : ℕ) (k : Machine) {left : List FileId} {n : Machine} → (acts k ≡ true → k.state.depth ≡ depth) → Finds x l files k left n
    → Stage x l files depth k left n
finds-stage {x} {l} {files} depth k deep (includes.inert inactive) =
    subst (Stage x l files depth k []) (inert_arriving k (Ok k.state) inactive) (came (Ok k.state) (λ here. let both = sym inactive ∙ here in cc))
finds-stage depth k deep (includes.refused fault acting carried) = came (Err fault) (λ here. carried)
finds-stage depth k deep (includes.found file ts header hash f acting says is shallow hashed searching named) =
    waits file ts header hash f acting says is (deep acting) shallow hashed searching named

pub finds-staged : {x : Context} {l : Line} {files : List (List ℕ)} (depth : ℕ) (m k : Machine) {left : List FileId} {n : Machine} → (acts k ≡ true → k.state.depth ≡ depth) → Closed m k
    → Finds x l files k left n → Staged x l files depth m left n
finds-staged {x} {l} {files} depth m k {left} {n} deep closed finds = record {
  answer = closed.answer;
  expands = closed.expands;
  stage = subst (λ (k : Machine). Stage x l files depth k left n) closed.is (finds-stage depth k deep finds);
}

arriving-itself : (k : Machine) → acts k ≡ true → arriving k (Ok k.state) ≡ k
arriving-itself k acting = ap (λ b. record k { state = if b then k.state else k.state }) acting

module _ {x : Context} {l : Line} {files : List (List ℕ)} {depth : ℕ} (k : Machine) where
  -- what stays where the configuration doesn't enter
  stays-out : {left rest : List FileId} {n : Machine} (file : FileId) (has : Bool) → Stage x l files depth k left n → left ≡ (if has then file ∷ rest else rest) → acts n ≡ false
      → Stage x l files depth k rest n
  stays-out {n = n} file false stage is inactive = subst (λ ls. Stage x l files depth k ls n) is stage
  stays-out file true (waits other ts header hash f acting says names deep shallow hashed searching named) is inactive = let both = sym acting ∙ inactive in cc
  stays-out file true (came e carried) is inactive = absurd (cc)

  goes-in : {left rest : List FileId} {n : Machine} (file : FileId) (f : File) (e : Result State Fault) → Stage x l files depth k left n → left ≡ file ∷ rest → acts n ≡ true
      → f.name ≡ text_at files file.0 → x.files (text_at files file.0) ≡ Some f.bytes → is_once_file n.state (text_at files file.0) ≡ false → Enters x f (record n.state { depth = depth + 1 }) e
      → Stage x l files depth k rest (arriving n (result_map (back n.state) e))
  goes-in {rest = rest} file f e (waits other ts header hash g acting says names deep shallow hashed searching named) is acting_n name_is there again walks =
      let ends : [] ≡ rest = cc in
      let one : other ≡ file = cc in
      let text : text_at files file.0 ≡ g.name = ap (λ (i : FileId). text_at files i.0) (sym one) ∙ ap (λ o. unwrap_or o []) named in
      let bytes : f.bytes ≡ g.bytes = same_Some f.bytes g.bytes (sym there ∙ (ap x.files text ∙ searched x.files (candidates header k.state.file x.include) g searching)) in
      let same : f ≡ g = ap (λ n. file_with n f.bytes) (name_is ∙ text) ∙ ap (file_with g.name) bytes in
      let inside : Enters x f (deeper k.state) e = subst (λ d. Enters x f (record k.state { depth = d + 1 }) e) (sym deep) walks in
      subst (λ ls. Stage x l files depth k ls (arriving k (result_map (back k.state) e))) ends
      (came (result_map (back k.state) e) (λ here. included ts header hash says names shallow hashed
      (entered g searching (ap (is_once_file k.state) (sym text) ∙ again) (subst (λ (h : File). Enters x h (deeper k.state) e) same inside))))
  goes-in file f e (came d carried) is acting_n name_is there again walks = absurd (cc)

  -- the file is one that is entered no more
  passes-by : {left rest : List FileId} {n : Machine} (file : FileId) → Stage x l files depth k left n → left ≡ file ∷ rest → acts n ≡ true → is_once_file n.state (text_at files file.0) ≡ true
      → Stage x l files depth k rest n
  passes-by {rest = rest} file (waits other ts header hash g acting says names deep shallow hashed searching named) is acting_n once =
      let ends : [] ≡ rest = cc in
      let one : other ≡ file = cc in
      let text : text_at files file.0 ≡ g.name = ap (λ (i : FileId). text_at files i.0) (sym one) ∙ ap (λ o. unwrap_or o []) named in
      subst (λ ls. Stage x l files depth k ls k) ends
      (subst (Stage x l files depth k []) (arriving-itself k acting)
      (came (Ok k.state) (λ here. included ts header hash says names shallow hashed (left_out g searching (ap (is_once_file k.state) (sym text) ∙ once)))))
  passes-by file (came d carried) is acting_n once = absurd (cc)

  -- a file of the line was entered
  pub stage-then : {left rest : List FileId} {n o : Machine} {has : Bool} (file : FileId) → Stage x l files depth k left n → left ≡ (if has then file ∷ rest else rest)
      → EntersAt x (text_at files file.0) (depth + 1) n has o → Stage x l files depth k rest o
  stage-then {n = n} file stage is includes.elsewhere = subst (λ ls. Stage x l files depth k ls n) is stage
  stage-then file stage is (includes.inert {has} inactive) = stays-out file has stage is inactive
  stage-then file stage is (includes.left_out acting once) = passes-by file stage is acting once
  stage-then file stage is (includes.enters f e acting name_is there again walks) = goes-in file f e stage is acting name_is there again walks

  pub stage-later : {more : List (List ℕ)} {left : List FileId} {n : Machine} → Extends files more → Stage x l files depth k left n → Stage x l more depth k left n
  stage-later grows (waits file ts header hash f acting says names deep shallow hashed searching named) =
      waits file ts header hash f acting says names deep shallow hashed searching (Extends-keeps file.0 f.name named grows)
  stage-later grows (came e carried) = came e carried

  pub stage-between : {left : List FileId} {n : Machine} → IsBetweenRuns k → Stage x l files depth k left n → IsBetweenRuns n
  stage-between between (waits file ts header hash f acting says names deep shallow hashed searching named) = between
  stage-between between (came e carried) = arriving-between k e (λ here. carries-run (carried here) (between here))

  stage-takes : {m : Machine} {n : Machine} {left : List FileId} (answer : Result (List Token) Fault) → k ≡ closing_run m answer → left ≡ [] → l.directive ≡ Some directive.Include
      → RunExpands m answer → Stage x l files depth k left n → Takes x m l n
  stage-takes {m} answer same none is expands (waits file ts header hash f acting says names deep shallow hashed searching named) = absurd (cc)
  stage-takes {m} answer same none is expands (came e carried) =
      subst (λ (k : Machine). CarriesOut x k l directive.Include e → Takes x m l (arriving k e)) (sym same) (carries directive.Include answer e is refl expands) carried

  stage-plain : (m : Machine) {n : Machine} {left : List FileId} (answer : Result (List Token) Fault) → k ≡ closing_run m answer → ArePlainPaths x.include → l.directive ≡ Some directive.Include
      → RunExpands m answer → Stage x l files depth k left n → IsPlainState m.state → Every IsPlainToken l.tokens → IsPlainState n.state
  stage-plain m answer same directories is expands (waits file ts header hash f acting says names deep shallow hashed searching named) plain all =
      covers-plain {x = x} directories {ls = []} (record { end = m; runs = machine.no_line; closed = record { answer = answer; expands = expands; is = same } }) plain tt
  stage-plain m answer same directories is expands (came e carried) plain all =
      takes-plain directories (stage-takes {m = m} answer same refl is expands (came e carried)) plain all

pub staged-then : {x : Context} {l : Line} {files more : List (List ℕ)} {depth : ℕ} {left rest : List FileId} {m n o : Machine} {has : Bool} (file : FileId) → Extends files more
    → Staged x l files depth m left n → left ≡ (if has then file ∷ rest else rest) → EntersAt x (text_at files file.0) (depth + 1) n has o → Staged x l more depth m rest o
staged-then {m = m} file grows staged is entering = record {
  answer = staged.answer;
  expands = staged.expands;
  stage = stage-later (closing_run m staged.answer) grows (stage-then (closing_run m staged.answer) file staged.stage is entering);
}

-- its run was closed
pub staged-between : {x : Context} {l : Line} {files : List (List ℕ)} {depth : ℕ} {left : List FileId} {m n : Machine} → Staged x l files depth m left n → IsBetweenRuns n
staged-between {m = m} staged = stage-between (closing_run m staged.answer) (closing-between m staged.answer) staged.stage

pub staged-takes : {x : Context} {l : Line} {files : List (List ℕ)} {depth : ℕ} {left : List FileId} {m n : Machine} → l.directive ≡ Some directive.Include → left ≡ [] → Staged x l files depth m left n
    → Takes x m l n
staged-takes {m = m} is none staged = stage-takes (closing_run m staged.answer) staged.answer refl none is staged.expands staged.stage

pub staged-plain : {x : Context} {l : Line} {files : List (List ℕ)} {depth : ℕ} {left : List FileId} {m n : Machine} → ArePlainPaths x.include → l.directive ≡ Some directive.Include
    → Staged x l files depth m left n → IsPlainState m.state → Every IsPlainToken l.tokens → IsPlainState n.state
staged-plain {m = m} directories is staged plain all = stage-plain (closing_run m staged.answer) m staged.answer refl directories is staged.expands staged.stage plain all
