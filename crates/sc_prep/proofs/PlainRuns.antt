-- A machine that runs over lines that are spelled on one line keeps its macros and its text so.
use Rattle.std.proofs.Common.{◌≡◌, ℕ, ◌<◌, Bool, true, false, List, [], ◌∷◌, All, length, map, Option, Some, None, Result, Ok, Err, refl, sym, ◌∙◌, subst, IfOk, is_none, if◌then◌else◌}
use Rattle.c11_directives.specs.declared.directive.Directive.TheVariants as directive
use Rattle.sc_base.specs.declared.token.Token as base
use Rattle.sc_model.specs.Token.{Token}
use Rattle.sc_prep.proofs.Facts.{All-get_or, All-weaker, IsConfig-kept, both, recursion_from_All, slice_get_within, unwrap_or-slice_get, update-one_line}
use Rattle.sc_prep.proofs.PlainWalks.{IsPlainAt, PlainChange, every-append, lines-plain, read-plain, undefined-plain, carries-plain}
use Rattle.sc_prep.proofs.Terms.{AllByRecursion as Every, Alternative, AreOneLine, ArePlainPaths, Cause, Conditional, Context, Covers, Defined, Definition, Directive, Else, Endif, Entry, Extends, Fault, IsIn, IsOneLineList, IsPlaced, IsPlainOrNewline, IsPlainState, IsPlainToken, Keeps, Leads, Line, Machine, Macros, Opening, PlainEach, Redefined, Runs, Sets, Standard, State, Takes, Walk, acts, any_machine, arriving, behind_name, branched_as, carries, changed_by, changing, closes, closing_run, conditional_of, defined_as, defined_over, ended, has_no_newline, is_barrier, next_branch, opened_as, operand_of, plain_by, put_out, reads, same_definition, seen, seen_lines, state_behind, step_by, takes, text_at, with_macro, with_text}
use Rattle.sc_prep.specs.Machine as machine

-- ---- the macros

over-plain : (macros : Macros) (d : Defined) (o : Option Definition) → AreOneLine macros → IsOneLineList d.definition.replacement → PlainChange (defined_over macros d o)
over-plain macros d None lists one = update-one_line macros d.name (Some d.definition) lists one
over-plain macros d (Some other) lists one =
    both PlainChange (same_definition other d.definition) (Ok (with_macro macros d)) (Err Redefined) (update-one_line macros d.name (Some d.definition) lists one) tt

defined-plain : (macros : Macros) (r : Result Defined Cause) → AreOneLine macros → ((d : Defined) → r ≡ Ok d → IsOneLineList d.definition.replacement) → PlainChange (defined_as macros r)
defined-plain macros (Ok d) lists one = over-plain macros d (macros d.name) lists (one d refl)
defined-plain macros (Err cause) lists one = tt

changed-plain : (macros : Macros) (l : Line) (d : Directive) → AreOneLine macros → Every IsPlainToken l.tokens → PlainChange (changed_by macros l d)
changed-plain macros l directive.Define lists all =
    defined-plain macros (reads l.standard (behind_name l)) lists (λ d is. read-plain l d all is)
changed-plain macros l directive.Undef lists all = undefined-plain macros (operand_of l) lists
changed-plain macros l (directive.Conditional c) lists all = lists
changed-plain macros l directive.Include lists all = tt
changed-plain macros l directive.Line lists all = tt
changed-plain macros l directive.Error lists all = tt
changed-plain macros l directive.Pragma lists all = lists
changed-plain macros l directive.Warning lists all = lists
changed-plain macros l directive.Null lists all = lists
changed-plain macros l directive.Unknown lists all = tt

-- ---- the machine

closing-plain : (m : Machine) (r : Result (List Token) Fault) → IsPlainState m.state → IsPlainState (closing_run m r).state
closing-plain m (Ok output) plain = both IsPlainState (acts m) (put_out m.state output) m.state (record { macros = plain.macros; run = tt; file = plain.file }) plain
closing-plain m (Err fault) plain = plain

changing-plain : (m : Machine) (l : Line) (d : Directive) (r : Result Macros Cause) → IsPlainState m.state → PlainChange r → IsPlainState (changing m l d r).state
changing-plain m l d (Ok macros) plain change =
    both IsPlainState (acts m) (state_behind m.state l d macros) m.state (record { macros = change; run = plain.run; file = plain.file }) plain
changing-plain m l d (Err cause) plain change = plain

plain_by-plain : (m : Machine) (l : Line) (d : Option Directive) → IsPlainState m.state → Every IsPlainToken l.tokens → IsPlainState (plain_by m l d).state
plain_by-plain m l None plain all =
    both IsPlainState (acts m) (with_text m.state l) m.state
    (record { macros = plain.macros; run = every-append IsPlainToken m.state.run l.tokens plain.run all; file = plain.file }) plain
plain_by-plain m l (Some d) plain all =
    both (λ (m : Machine). IsPlainState m.state) (is_barrier d) (changing m l d (changed_by m.state.macros l d)) m
    (changing-plain m l d (changed_by m.state.macros l d) plain (changed-plain m.state.macros l d plain.macros all)) plain

opened-plain : (m : Machine) (r : Result Bool Fault) → IsPlainState m.state → IsPlainState (opened_as m r).state
opened-plain m (Ok test) plain = plain
opened-plain m (Err fault) plain = plain

next-plain : (m : Machine) (test : Bool) (ss : List (Bool × Bool)) → IsPlainState m.state → IsPlainState (next_branch m test ss).state
next-plain m test [] plain = plain
next-plain m true (s ∷ ss) plain = plain
next-plain m false (s ∷ ss) plain = plain

branched-plain : (m : Machine) (r : Result Bool Fault) → IsPlainState m.state → IsPlainState (branched_as m r).state
branched-plain m (Ok test) plain = next-plain m test m.sections plain
branched-plain m (Err fault) plain = next-plain (record m { fault = Some fault }) false m.sections plain

ended-plain : (m : Machine) (ss : List (Bool × Bool)) → IsPlainState m.state → IsPlainState (ended m ss).state
ended-plain m [] plain = plain
ended-plain m (s ∷ ss) plain = plain

step-plain : (m : Machine) (l : Line) (r : Result Bool Fault) (c : Option Conditional) → IsPlainState m.state → Every IsPlainToken l.tokens → IsPlainState (step_by m l r c).state
step-plain m l r None plain all = plain_by-plain m l l.directive plain all
step-plain m l r (Some (Opening test)) plain all = opened-plain m r plain
step-plain m l r (Some (Alternative test)) plain all = branched-plain m r plain
step-plain m l r (Some Else) plain all = next-plain m true m.sections plain
step-plain m l r (Some Endif) plain all = ended-plain m m.sections plain

arriving-plain : (m : Machine) (r : Result State Fault) → IsPlainState m.state → (acts m ≡ true → IfOk r IsPlainState) → IsPlainState (arriving m r).state
arriving-plain m (Ok t) plain does = by (acts m) refl
  where
    by : (b : Bool) → acts m ≡ b → IsPlainState (if b then t else m.state)
    by true here = does here
    by false inactive = plain
arriving-plain m (Err fault) plain does = plain

module _ {x : Context} (directories : ArePlainPaths x.include) where
  pub takes-plain : {m n : Machine} {l : Line} → Takes x m l n → IsPlainState m.state → Every IsPlainToken l.tokens → IsPlainState n.state
  takes-plain {m} {l = l} (takes r mild answers) plain all = step-plain m l r (conditional_of l) plain all
  takes-plain {m} {l = l} (closes d r is barrier unsaid expands) plain all = step-plain (closing_run m r) l (Ok false) (conditional_of l) (closing-plain m r plain) all
  takes-plain {m} {l = l} (carries d r end is said expands does) plain all =
      let closed = closing-plain m r plain in
      arriving-plain (closing_run m r) end closed (λ here. carries-plain x directories (does here) closed all)

  pub runs-plain : {m n : Machine} {ls : List Line} → Runs x m ls n → IsPlainState m.state → Every (λ (l : Line). Every IsPlainToken l.tokens) ls → IsPlainState n.state
  runs-plain machine.no_line plain all = plain
  runs-plain (machine.line first rest) plain all = runs-plain rest (takes-plain first plain all.0) all.1

  pub covers-plain : {m n : Machine} {ls : List Line} → Covers x ls m n → IsPlainState m.state → Every (λ (l : Line). Every IsPlainToken l.tokens) ls → IsPlainState n.state
  covers-plain {ls = ls} covers plain all =
      subst (λ (k : Machine). IsPlainState k.state) (sym covers.closed.is) (closing-plain covers.end covers.closed.answer (runs-plain covers.runs plain all))

-- ---- the lines of a file

tokens-plain : (names files : List (List ℕ)) (ts : List base.Token) → Every (IsPlainOrNewline names) ts → Every (λ (t : base.Token). has_no_newline (text_at files t.place.file.0) ≡ true) ts
    → Every IsPlainAt (map (seen names files) ts)
tokens-plain names files [] all placed = tt
tokens-plain names files (t ∷ ts) all placed = (record { spelling = all.0; file = placed.0 }, tokens-plain names files ts all.1 placed.1)

pub path-plain : (files : List (List ℕ)) (file : ℕ) → file < length files → ArePlainPaths files → has_no_newline (text_at files file) ≡ true
path-plain files file within paths =
    subst (λ path. has_no_newline path ≡ true) (sym (unwrap_or-slice_get files file [])) (All-get_or (λ path. has_no_newline path ≡ true) files file [] within paths)

pub seen-plain : (standard : Standard) (names files : List (List ℕ)) (ts : List base.Token) → All (IsPlainOrNewline names) ts → All (λ (t : base.Token). has_no_newline (text_at files t.place.file.0) ≡ true) ts
    → Every (λ (l : Line). Every IsPlainToken l.tokens) (seen_lines standard names files ts)
seen-plain standard names files ts all placed =
    lines-plain standard (map (seen names files) ts)
    (tokens-plain names files ts (recursion_from_All (IsPlainOrNewline names) ts all) (recursion_from_All (λ (t : base.Token). has_no_newline (text_at files t.place.file.0) ≡ true) ts placed))

-- the same where the names of files are on one line, and the tokens stand in these
pub placed-plain : (standard : Standard) (names files : List (List ℕ)) (ts : List base.Token) → All (IsPlaced names (length files)) ts → ArePlainPaths files → All (IsPlainOrNewline names) ts
    → Every (λ (l : Line). Every IsPlainToken l.tokens) (seen_lines standard names files ts)
placed-plain standard names files ts placed paths all =
    seen-plain standard names files ts all (All-weaker (IsPlaced names (length files)) (λ (t : base.Token). has_no_newline (text_at files t.place.file.0) ≡ true)
    (λ t p. path-plain files t.place.file.0 p.file paths) ts placed)

-- ---- what a barrier puts out

pub unfaulty : (fault : Option Fault) → is_none fault ≡ true → fault ≡ None
unfaulty None e = refl
unfaulty (Some fault) e = absurd (cc)

-- whatever else holds of the machines
pub each-any : {s : Sets} {names files : List (List ℕ)} {w : Walk} {from : Machine → Type 0} → PlainEach s names files w from → PlainEach s names files w any_machine
each-any plain = record { each = λ config listed. let at = plain.each config listed in (at.0, at.1, tt, at.3) }

-- what the machine does keeps it so
pub each-leads : {old new : Sets} {names files more more_files : List (List ℕ)} {walk next : Walk} {from holds : Machine → Type 0} {does : List ℕ → Machine → Machine → Type 0} → Keeps old new
    → Leads files names old walk more_files more new next from does
    → ((config : List ℕ) (m n : Machine) → does config m n → from m → IsPlainState m.state → holds n × IsPlainState n.state)
    → PlainEach old names files walk from → PlainEach new more more_files next holds
each-leads keeps leads stays plain = record {
  each = λ config listed.
      let was = IsConfig-kept keeps listed in
      let at = plain.each config was in
      let next = leads.at config at.0 was at.1 at.2 in
      let kept = stays config at.0 next.machine next.done at.2 at.3 in
      (next.machine, next.simulates, kept.0, kept.1);
}

-- a machine is in the file whatever other files there are
pub in-more : {files more : List (List ℕ)} {entry : Entry} (m : Machine) → Extends files more → IsIn files entry m → IsIn more entry m
in-more {files} {entry = entry} m grows is here =
    let inside = is here in
    record { name = grows.kept entry.file.0 (slice_get_within files entry.file.0 _ inside.name) ∙ inside.name; deep = inside.deep }
