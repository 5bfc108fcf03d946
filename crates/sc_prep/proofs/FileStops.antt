-- To which moments a machine comes behind other lines, in a file that it includes, and in one that
-- it enters.
use Rattle.std.proofs.Common.{◌≡◌, ℕ, ◌+◌, ◌<◌, ◌&&◌, not, Bool, true, false, List, [], ◌∷◌, ◌++◌, length, map, take, Some, Result, Ok, Err, drop-cons, if◌then◌else◌, refl, sym, ap, ◌∙◌, subst, slice_get}
use Rattle.c11_directives.specs.Reaches.{FileReaches, Moment, at_line, in_file, itself}
use Rattle.c11_directives.specs.declared.directive.Directive.TheVariants as directive
use Rattle.sc_model.specs.Token as plain
use Rattle.sc_model.specs.Token.{Place, Token}
use Rattle.sc_prep.proofs.BetweenRuns.{refused-acts}
use Rattle.sc_prep.proofs.ComesFrom.{comes-entered, comes-inert}
use Rattle.sc_prep.proofs.EnterLeads.{HasLines, both-enter, stays, enters-again}
use Rattle.sc_prep.proofs.EnterMoves.{begins-idle, begins-start, entering, idle, put-before}
use Rattle.sc_prep.proofs.Facts.{IsConfig-Keeps, same_Some, take-append-drop}
use Rattle.sc_prep.proofs.Going.{Stage, Staged, came, searched, waits}
use Rattle.sc_prep.proofs.Machine.{barrier-plain, runs-more, runs-none, said-barrier}
use Rattle.sc_prep.proofs.Stopping.{here_at, moments-as}
use Rattle.sc_prep.proofs.Terms.{Around, Begins, Closed, Closes, Comes, ComesAt, ComesIn, ComesInside, ComesOver, Cond, Context, Denotes, Directive, DirectiveHas, Entry, Fault, File, FileId, FileLines, IsAtTop, IsBetweenRuns, IsConfig, IsTable, Keeps, Leads, Line, Machine, MomentsHave, NameHas, Owns, RunExpands, Runs, Says, Sets, Simulates, SourceFootprint, Spot, Standard, State, Used, Walk, acts, candidates, closed, closing_run, deeper, does, file_lines, file_with, hash_of, here, is_barrier, is_once_file, is_said, later, line_at, lines_of, no_line, of_directive, of_run, once_at, put_out, search, seen_lines, start, text_at, unwrap_or, within}
use Rattle.sc_prep.specs.Simulates as simulates

-- ---- a later call

-- Where each machine leads to one of which something holds, this follows of the machine itself.
pub comes-then : {a b : Sets} {files names mid_files mid : List (List ℕ)} {u v : Walk} {from between next whole : Machine → Type 0} {does : List ℕ → Machine → Machine → Type 0} (c : List ℕ)
    → Leads files names a u mid_files mid b v from does → ((m n : Machine) → from m → does c m n → between n) → ((m n : Machine) → from m → does c m n → next n → whole m) → IsConfig a.arities c
    → ((n : Machine) → Simulates b mid mid_files v c n → between n → next n) → (m : Machine) → Simulates a names files u c m → from m → whole m
comes-then c leads goes joins listed comes m at from =
    let to = leads.at c m listed at from in
    joins m to.machine from to.done (comes to.machine to.simulates (goes m to.machine from to.done))

-- ---- behind the first lines of a file

comes-behind : {x : Context} {chain : List Place} {k : Moment} (ls : List Line) {more : List Line} {m n : Machine} → Runs x m ls n → ComesIn x chain k n more → ComesIn x chain k m (ls ++ more)
comes-behind {x} {chain} {k} [] {more} ran comes = subst (λ m. ComesIn x chain k m more) (runs-none ran) comes
comes-behind (l ∷ ls) ran comes = let parts = runs-more ran in later parts.1 (comes-behind ls parts.2 comes)

pub comes-at : {x : Context} {chain : List Place} {k : Moment} (ls : List Line) (i : ℕ) {m n : Machine} → i < length ls → Runs x m (take i ls) n → ComesAt x n (line_at ls i) chain k
    → ComesOver x ls m chain k
comes-at {x} {chain} {k} ls i {m} below ran comes =
    within (subst (λ ks. ComesIn x chain k m ks) (ap (λ ks. take i ls ++ ks) (sym (drop-cons ls i no_line below)) ∙ take-append-drop i ls) (comes-behind (take i ls) ran (here comes)))

-- ---- a line that includes files

-- the run was closed and the machine still does something, in this state
record Closing (m n : Machine) : Type 0 where
  acting : acts m ≡ true
  state : State
  closes : Closes m.state (Ok state)
  is : n.state ≡ state

closing : (m n : Machine) → Closed m n → acts n ≡ true → Closing m n
closing m n was acting = subst (Closing m) (sym was.is) (by was.answer was.expands (ap acts (sym was.is) ∙ acting))
  where
    by : (r : Result (List Token) Fault) → RunExpands m r → acts (closing_run m r) ≡ true → Closing m (closing_run m r)
    by (Ok output) expands on = record { acting = on; state = put_out m.state output; closes = closed output (expands on); is = ap (λ b. if b then put_out m.state output else m.state) on }
    by (Err fault) expands on = absurd (refused-acts m.active m.fault fault on)

-- a name in the run that a line ends
pub comes-closing : {x : Context} {l : Line} {m : Machine} {f : Spot × Used} (d : Directive) → l.directive ≡ Some d → is_barrier d ≡ true → acts m ≡ true → NameHas m.state.macros m.state.run f
    → MomentsHave (ComesAt x m l) (here_at f.0, f.1)
comes-closing {l = l} {m} d is barrier acting has = record { moment = at_line l m.state; comes = does acting (barrier-plain l d is barrier) itself; has = of_run d is barrier has }

-- what the line comes to itself
pub comes-said : {x : Context} {l : Line} {m n : Machine} {f : Spot × Used} (d : Directive) → l.directive ≡ Some d → is_said d ≡ true → Closed m n → acts n ≡ true → DirectiveHas n.state.macros l f
    → MomentsHave (ComesAt x m l) (here_at f.0, f.1)
comes-said {l = l} {m} {n} {f} d is said was acting has =
    let c = closing m n was acting in
    record {
      moment = at_line l m.state;
      comes = does c.acting (barrier-plain l d is (said-barrier d said)) itself;
      has = of_directive d c.state is said c.closes (subst (λ (s : State). DirectiveHas s.macros l f) c.is has);
    }

-- or its file
comes-waiting : {x : Context} {l : Line} {files : List (List ℕ)} {depth : ℕ} {m k n : Machine} {left rest : List FileId} {chain : List Place} {g : Moment} (file : FileId) (hash : Token)
    → l.directive ≡ Some directive.Include → hash_of l ≡ Some hash → Closed m k → Stage x l files depth k left n → left ≡ file ∷ rest
    → ComesInside x (text_at files file.0) (depth + 1) n chain g → ComesAt x m l (hash.place ∷ chain) g
comes-waiting file hash is hashed was (came e carried) left_is inside = absurd (cc)
comes-waiting {x} {l} {files} {depth} {m} {k} {chain = chain} {g} file hash is hashed was (waits other ts header first f acting says header_is deep shallow hashed_first searching named) left_is inside =
    let c = closing m k was acting in
    let one : other ≡ file = cc in
    let text : text_at files file.0 ≡ f.name = ap (λ (i : FileId). text_at files i.0) (sym one) ∙ ap (λ o. unwrap_or o []) named in
    let bytes : inside.file.bytes ≡ f.bytes = same_Some inside.file.bytes f.bytes (sym inside.there ∙ (ap x.files text ∙ searched x.files (candidates header k.state.file x.include) f searching)) in
    let same : inside.file ≡ f = ap (λ name. file_with name inside.file.bytes) (inside.named ∙ text) ∙ ap (file_with f.name) bytes in
    let Rest : State → Type 0 = λ s. Says s.macros l (Ok ts) × (s.depth < x.include_depth) × (search x.files (candidates header s.file x.include) ≡ Some f) × (is_once_file s f.name ≡ false) × FileReaches x f (deeper s) chain g in
    let reaches : FileReaches x f (deeper k.state) chain g =
    subst (λ (h : File). FileReaches x h (deeper k.state) chain g) same (subst (λ d. FileReaches x inside.file (record k.state { depth = d + 1 }) chain g) (sym deep) inside.reaches) in
    let at = subst Rest c.is (says, shallow, searching, ap (is_once_file k.state) (sym text) ∙ inside.again, reaches) in
    does c.acting (barrier-plain l directive.Include is refl) (in_file c.state ts header hash f is c.closes at.0 header_is at.1 hashed at.2 at.3 at.4)

pub comes-included : {x : Context} {l : Line} {files : List (List ℕ)} {depth : ℕ} {m n : Machine} {left rest : List FileId} {chain : List Place} {g : Moment} (file : FileId) (hash : Token)
    → l.directive ≡ Some directive.Include → hash_of l ≡ Some hash → Staged x l files depth m left n → left ≡ file ∷ rest → ComesInside x (text_at files file.0) (depth + 1) n chain g
    → ComesAt x m l (hash.place ∷ chain) g
comes-included {m = m} file hash is hashed staged left_is inside =
    comes-waiting {k = closing_run m staged.answer} file hash is hashed (record { answer = staged.answer; expands = staged.expands; is = refl }) staged.stage left_is inside

-- ---- a file that is entered

module _ {standard : Standard} {old mid : Sets} {names : List (List ℕ)} {w begun : Walk} {inside : Cond} {around : Around} (files : List (List ℕ)) (cond : Cond) (entry : Entry) (keeps : Keeps old mid)
    (inside_is : Denotes mid inside.0 (λ c. (old.has cond.0 c && old.has w.acting.0 c) && not (once_at old files w.once.items c (text_at files entry.file.0)))) (owns : Owns old w) (is : IsTable old names w.table) (begins : Begins mid w inside begun around)
    (x : Context) (by_standard : x.standard ≡ standard) (lines : FileLines) (named : slice_get files entry.file.0 ≡ Some (text_at files entry.file.0))
    (has : HasLines standard names files (text_at files entry.file.0) (x.files (text_at files entry.file.0)) lines) where
  abbrev file : File
  file = file_with (text_at files entry.file.0) has.bytes

  -- what every machine at its first line comes to, who enters it does
  pub comes-inside : (config : List ℕ) (f : SourceFootprint) → IsConfig old.arities config
      → Comes mid names files begun (IsAtTop files entry) (λ config m. MomentsHave (ComesOver x (seen_lines standard names files lines.tokens.items) m)) config f
      → Comes old names files w IsBetweenRuns (λ config m f. (old.has cond.0 config ≡ true) × MomentsHave (ComesInside x (text_at files entry.file.0) entry.depth m) f) config f
  comes-inside config f listed comes = λ m at between. by m at between (mid.has inside.0 config) refl
    where
      lines-are : seen_lines standard names files lines.tokens.items ≡ file_lines x file has.are.lexemes
      lines-are =
          ap (lines_of standard) has.are.tokens ∙ ap (λ st. lines_of st (map (plain.in_file (text_at files entry.file.0)) has.are.lexemes)) (sym by_standard)

      by : (m : Machine) → Simulates old names files w config m → IsBetweenRuns m → (b : Bool) → mid.has inside.0 config ≡ b
          → (old.has cond.0 config ≡ true) × MomentsHave (ComesInside x (text_at files entry.file.0) entry.depth m) f
      by m at between true enters =
          let both = both-enter files cond entry keeps inside_is owns is config m listed at enters in
          let first = entering entry.depth (text_at files entry.file.0) m.state in
          let begun_at = begins-start mid names files w begun inside around config m begins (stays files cond entry keeps inside_is owns is config m listed at) (IsConfig-Keeps keeps listed) enters both.1 between entry.depth (text_at files entry.file.0) in (
            both.0,
            moments-as
                (λ k comes. record {
                  acting = both.1;
                  file = file;
                  named = refl;
                  there = has.is;
                  again = enters-again files cond entry keeps inside_is owns is config m listed at enters;
                  reaches = comes-entered x file (record m.state { depth = entry.depth }) has.are.lexemes has.are.group has.are.few has.are.lexed lines-are has.are.tree comes;
                })
                (comes (start first) begun_at (simulates.begins first refl (record { name = named; deep = refl }))),
          )
      by m at between false out =
          let stands = begins-idle mid names files w begun inside around config m begins (stays files cond entry keeps inside_is owns is config m listed at) (IsConfig-Keeps keeps listed) out in
          let k = idle m (put-before mid names files w begun inside around config m begins (stays files cond entry keeps inside_is owns is config m listed at) (IsConfig-Keeps keeps listed)) in
          absurd (comes-inert k has.are.tree refl (comes k stands (simulates.idles refl refl)).comes)
