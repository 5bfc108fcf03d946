-- What a walk over the lines of a file leads to, and what configurations share there.
use Rattle.std.proofs.Common.{◌≡◌, ℕ, zero, suc, ◌+◌, ◌<◌, ◌≤◌, take, Bool, true, List, [], ◌∷◌, All, length, get_or, Option, refl, sym, ap, ◌∙◌, subst, arith, MatchBool}
use Rattle.sc_base.specs.declared.token.Token as base
use Rattle.sc_lines.specs.declared.line.Line as declared
use Rattle.sc_expand.specs.Stops.{HasConfigs}
use Rattle.sc_prep.proofs.Contents.{IsPlaced-later, agrees-back}
use Rattle.sc_prep.proofs.Facts.{All-from_recursion, All-weaker, Extends-refl, IsConfig-Keeps, Keeps-refl, Keeps-trans, line-seen}
use Rattle.sc_prep.proofs.Going.{directories-plain, gone-then, line-later, plain-line}
use Rattle.sc_prep.proofs.InFile.{top-is-in}
use Rattle.sc_prep.proofs.LeadMoves.{contents-stay, leads-one}
use Rattle.sc_prep.proofs.LineSteps.{directive-now, line-of_file, lines-all, lines-long, lines-stand}
use Rattle.sc_prep.proofs.Passing.{next-passed, one-more}
use Rattle.sc_prep.proofs.PlainRuns.{each-any, in-more, placed-plain, runs-plain, seen-plain}
use Rattle.sc_prep.proofs.SharedLines.{SharesLines, puts-over, shares-next, shares-over}
use Rattle.sc_prep.proofs.SharedText.{apart-of_file}
use Rattle.sc_prep.specs.Going.{Gone, PutsOnce}
use Rattle.sc_prep.specs.Thin.{HaveOne, Shares, SharesWithin}
use Rattle.sc_prep.proofs.Terms.{Agrees, AllByRecursion as Every, AllPass, AreContents, AreHeldLines, ArePlainPaths, Closed, ComesAt, ComesOver, Contents, Context, Covers, EndsAt, Entry, Extends, FileLines, Files, IsAtTop, IsContext, IsHeld, IsIn, IsNever, IsPlaced, IsPlainToken, Keeps, Leads, Line, Machine, PlainEach, Runs, Sets, SimulatesOneOf, Space, StandApart, Takes, Walk, any_machine, directive_at, has_no_newline, is_plain, line_at, no_line, seen_line, seen_lines, text_at, tokens_of, unwrap_or}

every-take : {A : Type 0} (P : A → Type 0) (n : ℕ) (xs : List A) → Every P xs → Every P (take n xs)
every-take P zero xs all = tt
every-take P (suc n) [] all = tt
every-take P (suc n) (x ∷ xs) all = (all.0, every-take P n xs all.1)

-- tokens that are spelled on one line stay so while the table grows
pub plain-later : {names more : List (List ℕ)} {files : ℕ} → Extends names more → (ts : List base.Token) → All (IsPlaced names files) ts → All (λ (t : base.Token). is_plain names t ≡ true) ts
    → All (λ (t : base.Token). is_plain more t ≡ true) ts
plain-later grows ts placed all = λ k d h. ap (λ o. has_no_newline (unwrap_or o [])) (grows.kept (get_or ts k d).spelling.0 (placed k d h).held.spelling) ∙ all k d h

-- before the first line
pub gone-nowhere : {space : Space} {s : Sets} {names files : List (List ℕ)} {w : Walk} {contents : Contents} {given : Type 0} {from : Machine → Type 0} {does : Context → List ℕ → Machine → Machine → Type 0}
    → ((x : Context) (config : List ℕ) (m : Machine) → does x config m m) → Gone space s names files w contents s names files w contents given from does
gone-nowhere {s = s} {names} {files} {contents = contents} stays = record {
  keeps = Keeps-refl s;
  names_grow = Extends-refl names;
  files_grow = Extends-refl files;
  read = contents-stay contents;
  leads = λ x context agreed. record { at = λ config m listed at here. record { machine = m; done = stays x config m; simulates = at } };
  plain = λ g x context agreed sound paths each list. list;
  paths = λ g x context agreed sound paths each. paths;
}

-- a call that reads no file
pub gone-stage : {space : Space} {a b : Sets} {names more files : List (List ℕ)} {u v : Walk} {contents : Contents} {given : Type 0} {from : Machine → Type 0} {does : Context → List ℕ → Machine → Machine → Type 0}
    → Keeps a b → Extends names more
    → ((x : Context) → IsContext space x → Agrees space.standard more files x.files contents → Leads files names a u files more b v from (does x))
    → (given → PlainEach a names files u any_machine → AllPass (is_plain names) u.prepared.list → AllPass (is_plain more) v.prepared.list)
    → Gone space a names files u contents b more files v contents given from does
gone-stage {files = files} {contents = contents} keeps names_grow leads plain = record {
  keeps = keeps;
  names_grow = names_grow;
  files_grow = Extends-refl files;
  read = contents-stay contents;
  leads = leads;
  plain = λ g x context agreed sound paths each list. plain g (each-any each) list;
  paths = λ g x context agreed sound paths each. paths;
}

module _ {space : Space} {a b : Sets} {names files mid mid_files : List (List ℕ)} {u v : Walk} {one two : Contents} {holds : Option Files} (entry : Entry) (lines : FileLines)
    (own : AreHeldLines space.standard names (length files) entry.file lines) (number : ℕ)
    (gone : Gone space a names files u one b mid mid_files v two (Unit {0}) (IsAtTop files entry) (λ x config m n. Runs x m (take number (seen_lines space.standard names files lines.tokens.items)) n))
    (held : AreContents space.standard mid mid_files holds two) where
  abbrev file_seen : List Line
  file_seen = seen_lines space.standard names files lines.tokens.items

  -- the machine is still in the file
  in-file : (x : Context) (m n : Machine) → IsAtTop files entry m → Runs x m (take number file_seen) n → IsIn mid_files entry n
  in-file x m n from ran = in-more n gone.files_grow (top-is-in from ran)

  all-plain : ArePlainPaths files → Every (λ (l : Line). Every IsPlainToken l.tokens) file_seen
  all-plain paths = placed-plain space.standard names files lines.tokens.items own.placed paths own.plain

  -- ---- one line more
  module _ (d : declared.Line) (within : number < length lines.lines.items) where
    abbrev this_line : List base.Token
    this_line = tokens_of lines.tokens.items (get_or lines.lines.items number d)

    line-placed : All (IsPlaced names (length files)) this_line
    line-placed = line-of_file (IsPlaced names (length files)) lines.tokens.items (get_or lines.lines.items number d) own.placed

    pub line-placed-now : All (IsPlaced mid (length mid_files)) this_line
    line-placed-now =
        All-weaker (IsPlaced names (length files)) (IsPlaced mid (length mid_files)) (IsPlaced-later gone.names_grow gone.files_grow) this_line line-placed

    pub line-directive : (get_or lines.lines.items number d).directive ≡ directive_at space.standard mid this_line
    line-directive =
        directive-now space.standard names lines.tokens.items lines.lines.items own.lines_are number d within
        (All-weaker (IsPlaced names (length files)) (IsHeld names) (λ t p. p.held) lines.tokens.items own.placed) gone.names_grow

    -- it looks as it did
    pub line-is : (spoken : List base.Token) → spoken ≡ this_line → seen_line space.standard mid mid_files spoken ≡ line_at file_seen number
    line-is spoken same =
        ap (seen_line space.standard mid mid_files) same
        ∙ (line-later space.standard gone.names_grow gone.files_grow this_line line-placed ∙ sym (line-seen space.standard names files lines.tokens.items lines.lines.items own.lines_are number d within))

    line-spelled : All (λ (t : base.Token). is_plain mid t ≡ true) this_line
    line-spelled =
        let P : Line → Type 0 = λ l. Every IsPlainToken l.tokens in
        let nowhere : All (λ (t : base.Token). has_no_newline (text_at [] t.place.file.0) ≡ true) lines.tokens.items =
        All-weaker (IsPlaced names (length files)) (λ (t : base.Token). has_no_newline (text_at [] t.place.file.0) ≡ true) (λ t p. refl) lines.tokens.items own.placed in
        let all = All-from_recursion P (seen_lines space.standard names [] lines.tokens.items) (seen-plain space.standard names [] lines.tokens.items own.plain nowhere) in
        let one = all number no_line (omega (arith, within, lines-long space.standard names lines.tokens.items lines.lines.items own.lines_are [])) in
        let seen_here = subst P (line-seen space.standard names [] lines.tokens.items lines.lines.items own.lines_are number d within) one in
        plain-later gone.names_grow this_line line-placed (All-from_recursion (λ (t : base.Token). is_plain names t ≡ true) this_line (plain-line names [] this_line seen_here))

    -- the tokens are those that are taken
    pub gone-line : {c : Sets} {more more_files : List (List ℕ)} {w : Walk} {three : Contents} (spoken : List base.Token) → spoken ≡ this_line
        → Gone space b mid mid_files v two c more more_files w three (All (λ (t : base.Token). is_plain mid t ≡ true) spoken) (IsIn mid_files entry)
        (λ x config m n. Takes x m (seen_line space.standard mid mid_files spoken) n)
        → (next : ℕ) (passed : Bool) → MatchBool passed (EndsAt file_seen (number + 1) next) (next ≡ number + 1) → (passed ≡ true → IsNever c w.acting.0)
        → Gone space a names files u one c more more_files w three (Unit {0}) (IsAtTop files entry) (λ x config m n. Runs x m (take next file_seen) n)
    gone-line spoken same taken next passed ends never =
        gone-then gone held taken (λ g. subst (All (λ (t : base.Token). is_plain mid t ≡ true)) (sym same) line-spelled)
        (λ x config m n from ran. in-file x m n from ran)
        (λ g x context sound paths config m n ran from state. runs-plain (directories-plain context sound) ran state (every-take (λ (l : Line). Every IsPlainToken l.tokens) number file_seen (all-plain paths)))
        (λ x config m n o context listed from ran taking at.
        next-passed file_seen x m number next passed o ends (λ is. sym at.acting ∙ (never is).none config (IsConfig-Keeps (Keeps-trans gone.keeps taken.keeps) listed))
        (one-more file_seen x m number (omega (arith, within, lines-long space.standard names lines.tokens.items lines.lines.items own.lines_are files)) ran
        (subst (λ l. Takes x n l o) (line-is spoken same) taking)))

  -- ---- the end of the file
  pub gone-over : {c : Sets} {more : List (List ℕ)} {w : Walk} → length lines.lines.items ≤ number → Keeps b c → Extends mid more → SimulatesOneOf mid_files mid b v more c w (λ config m n. Closed m n)
      → (PlainEach b mid mid_files v any_machine → AllPass (is_plain mid) v.prepared.list → AllPass (is_plain more) w.prepared.list)
      → Gone space a names files u one c more mid_files w two (Unit {0}) (IsAtTop files entry) (λ x config m n. Covers x file_seen m n)
  gone-over past keeps names_grow closes plain =
      gone-then {also = Unit {0}} {between = any_machine} {later = λ x config m n. Closed m n} gone held
      (gone-stage keeps names_grow (λ x context agreed. leads-one any_machine closes) (λ g each list. plain each list))
      (λ g. tt)
      (λ x config m n from ran. tt)
      (λ g x context sound paths config m n ran from state. runs-plain (directories-plain context sound) ran state (every-take (λ (l : Line). Every IsPlainToken l.tokens) number file_seen (all-plain paths)))
      (λ x config m n o context listed from ran closed at.
      record { end = n; runs = subst (λ ls. Runs x m ls n) (lines-all space.standard names files lines.tokens.items lines.lines.items own.lines_are number past) ran; closed = closed })

-- ---- what configurations share

module _ {space : Space} {a b : Sets} {names files mid mid_files : List (List ℕ)} {u v : Walk} {one two : Contents} {holds : Option Files} (entry : Entry) (lines : FileLines)
    (own : AreHeldLines space.standard names (length files) entry.file lines) (number : ℕ)
    (gone : Gone space a names files u one b mid mid_files v two (Unit {0}) (IsAtTop files entry) (λ x config m n. Runs x m (take number (seen_lines space.standard names files lines.tokens.items)) n))
    (held : AreContents space.standard mid mid_files holds two)
    (so_far : (x : Context) → IsContext space x → Agrees space.standard mid mid_files x.files two → (HasConfigs a.arities (space.branches + 1) → ⊥)
    → SharesLines x entry space.standard lines.tokens.items number a names files u b mid mid_files v) where
  few-now : (HasConfigs a.arities (space.branches + 1) → ⊥) → HasConfigs b.arities (space.branches + 1) → ⊥
  few-now few = subst (λ arities. HasConfigs arities (space.branches + 1) → ⊥) (sym gone.keeps.arities) few

  pub once-next : {c : Sets} {more more_files : List (List ℕ)} {w : Walk} {three : Contents} (d : declared.Line) (below : number < length lines.lines.items) (spoken : List base.Token)
      → spoken ≡ tokens_of lines.tokens.items (get_or lines.lines.items number d)
      → Gone space b mid mid_files v two c more more_files w three (All (λ (t : base.Token). is_plain mid t ≡ true) spoken) (IsIn mid_files entry)
      (λ x config m n. Takes x m (seen_line space.standard mid mid_files spoken) n)
      → PutsOnce space b mid mid_files v c more more_files w three (IsIn mid_files entry) (StandApart spoken) (λ x config m. ComesAt x m (seen_line space.standard mid mid_files spoken)) (Shares c more more_files w)
      → (next : ℕ) (passed : Bool) → MatchBool passed (EndsAt (seen_lines space.standard names files lines.tokens.items) (number + 1) next) (next ≡ number + 1) → (passed ≡ true → IsNever c w.acting.0)
      → (x : Context) → IsContext space x → Agrees space.standard more more_files x.files three → (HasConfigs a.arities (space.branches + 1) → ⊥)
      → SharesLines x entry space.standard lines.tokens.items next a names files u c more more_files w
  once-next d below spoken same taken once next passed ends never x context agreed few =
      let before = agrees-back taken.names_grow taken.files_grow held x.files taken.read agreed in
      shares-next entry x space.standard lines.tokens.items number gone.keeps gone.files_grow (gone.leads x context before)
      (seen_line space.standard mid mid_files spoken) (line-is entry lines own number gone held d below spoken same)
      (omega (arith, below, lines-long space.standard names lines.tokens.items lines.lines.items own.lines_are files))
      (taken.leads x context agreed) (once.shares x context agreed (few-now few))
      (λ apart. once.put x context agreed (few-now few) (subst StandApart (sym same) (apart-of_file lines.tokens.items (get_or lines.lines.items number d) apart)))
      taken.keeps next passed ends never (so_far x context before few)

  pub once-over : {c : Sets} {more : List (List ℕ)} {w : Walk} → length lines.lines.items ≤ number → Extends mid more → SimulatesOneOf mid_files mid b v more c w (λ config m n. Closed m n)
      → SharesWithin space.branches mid_files mid b v mid_files more c w
      → PutsOnce space a names files u c more mid_files w two (IsAtTop files entry) (StandApart lines.tokens.items)
      (λ x config m. ComesOver x (seen_lines space.standard names files lines.tokens.items) m) (λ c1 d index. HaveOne c w.prepared.list c1 d)
  once-over past names_grow closes shares =
      let before = λ (x : Context). agrees-back names_grow (Extends-refl mid_files) held x.files (contents-stay two) in
      let all = lines-all space.standard names files lines.tokens.items lines.lines.items own.lines_are number past in
      let stand = lines-stand space.standard names lines.tokens.items lines.lines.items own.lines_are own.branches files in
      record {
        shares = λ x context agreed few. shares-over entry x space.standard lines.tokens.items number gone.keeps gone.files_grow (gone.leads x context (before x agreed)) all lines.lines.items stand
            (leads-one any_machine closes) (shares (few-now few)) (so_far x context (before x agreed) few);
        put = λ x context agreed few apart. puts-over entry x space.standard lines.tokens.items number gone.keeps gone.files_grow (gone.leads x context (before x agreed)) all lines.lines.items stand
            (leads-one any_machine closes) (shares (few-now few)) (so_far x context (before x agreed) few) apart;
      }
