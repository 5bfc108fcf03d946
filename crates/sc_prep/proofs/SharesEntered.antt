-- What configurations share around a file that is entered, and what they put out in it.
use Rattle.std.proofs.Common.{◌≡◌, ℕ, zero, suc, ◌&&◌, ◌++◌, not, Bool, true, false, true≢false, List, [], ◌∷◌, append-nil, length, map, Option, None, Some, is_none, slice_get, refl, sym, ap, ◌∙◌, subst, if◌then◌else◌}
use Rattle.c11_directives.specs.Lines.{Line, lines_of}
use Rattle.c11_directives.specs.Pre.{State, file_lines}
use Rattle.c11_directives.specs.Reaches.{FileReaches, Moment, at_line}
use Rattle.sc_base.specs.declared.fault.Fault as base
use Rattle.sc_base.specs.declared.place.Place.{Place}
use Rattle.sc_base.specs.declared.token.Token.{Token}
use Rattle.sc_model.specs.Token as plain
use Rattle.sc_prep.proofs.ComesBack.{comes-back}
use Rattle.sc_prep.proofs.EnterLeads.{HasLines, outside-list, stays}
use Rattle.sc_prep.proofs.EnterMoves.{acts-unfaulty, begins-start, entering}
use Rattle.sc_prep.proofs.Facts.{Extends-refl, IsConfig-Keeps, Keeps-trans, faults_at-Keeps, items_at-Keeps, length-map, macros_at-Keeps, same_Some}
use Rattle.sc_prep.proofs.SettledText.{text-empty}
use Rattle.sc_prep.proofs.SharesKept.{nth-later, shares-kept}
use Rattle.sc_prep.proofs.Terms.{Around, Begins, Cause, ComesInside, ComesOver, Cond, Context, Covers, Denotes, EntersAt, Entry, Extends, Fault, File, FileLines, IsAtTop, IsBetweenRuns, IsConfig, IsHeldWalk, IsNever, IsStored, IsTable, Keeps, Leads, Leaves, Machine, OpenRuns, Owns, RefusesEach, Sets, Simulates, Standard, Walk, acts, any_token, file_with, has_none, is_empty, items_at, macros_at, once_at, seen, seen_lines, start, text_at}
use Rattle.sc_prep.specs.Includes.{elsewhere, enters, inert, left_out}
use Rattle.sc_prep.specs.Simulates as simulates
use Rattle.sc_prep.specs.Thin.{ComesTo, HaveOne, KeepsSharesOf, Shares, WherePutOut, one_held, other_held, put, waits}

-- nothing is put out or read, and the tables stay
pub shares-still : {from : Machine → Type 0} {old new : Sets} (keeps : Keeps old new) (names files : List (List ℕ)) (w next : Walk) → IsStored old names (length files) w → next.runs ≡ w.runs → next.prepared.list ≡ w.prepared.list → next.table ≡ w.table
    → KeepsSharesOf from files names old w files names new next
shares-still {old = old} {new} keeps names files w next stored runs list table = record {
  longer = ([], list ∙ sym (append-nil w.prepared.list));
  at = λ c d p q _ _ k l _ _ _ _. shares-kept keeps (Extends-refl names) (Extends-refl files) w next stored (Extends-refl w.runs.sets) runs c d p q (macros c p) (macros d q) (few c p) (few d q) [] (list ∙ sym (append-nil w.prepared.list));
}
  where
    macros : (c : List ℕ) → IsConfig old.arities c → macros_at new names next.table c ≡ macros_at old names w.table c
    macros c listed = ap (λ t. macros_at new names t c) table ∙ (λ i name. macros_at-Keeps keeps stored.table c name listed i)

    few : (c : List ℕ) → IsConfig old.arities c → length (items_at new next.prepared.list c) ≡ length (items_at old w.prepared.list c)
    few c listed = ap (λ l. length (items_at new l c)) list ∙ ap length (items_at-Keeps w.prepared.list c keeps stored.owns.prepared.list listed)

-- who has an item of a list has some
none-here : {A : Type 0} (s : Sets) (list : List (Cond × A)) (at : ℕ) (item : Cond × A) (c : List ℕ) → slice_get list at ≡ Some item → s.has item.0.0 c ≡ true → items_at s list c ≡ [] → ⊥
none-here s [] at item c there has none = cc
none-here s (x ∷ xs) at item c there has none = by (s.has x.0.0 c) refl at there none (λ n found. none-here s xs n item c found has)
  where
    by : (b : Bool) → s.has x.0.0 c ≡ b → (at : ℕ) → slice_get (x ∷ xs) at ≡ Some item → (if b then x.1 ∷ items_at s xs c else items_at s xs c) ≡ [] → ((n : ℕ) → slice_get xs n ≡ Some item → items_at s xs c ≡ [] → ⊥) → ⊥
    by true is at there none later = cc
    by false is zero there none later = true≢false (sym has ∙ (ap (λ y. s.has y.0.0 c) (sym (same_Some x item there)) ∙ is))
    by false is (suc at) there none later = later at there none

no-images : {A B : Type 0} (f : A → B) (xs : List A) → map f xs ≡ [] → xs ≡ []
no-images f [] e = refl
no-images f (x ∷ xs) e = absurd (cc)

-- between runs nothing of one that does something is gathered
pub between-idle : {s : Sets} {names files : List (List ℕ)} {w : Walk} {c : List ℕ} {m : Machine} {at : ℕ} → Simulates s names files w c m → m.fault ≡ None → IsBetweenRuns m → ComesTo s names files w at c → acts m ≡ false
between-idle {s} {names} {files} {w} {c} {m} simulates unrefused between x = by (acts m) refl
  where
    by : (b : Bool) → acts m ≡ b → acts m ≡ false
    by false is = is
    by true is =
        let none = (text-empty m.state _ _ _ _ (between is) (simulates.text unrefused).text).0 in
        absurd (none-here s w.runs.gathered _ x.item c x.is x.has (no-images _ (items_at s w.runs.gathered c) (no-images _ _ none)))

-- who is live in the end had no fault
pub live-unfaulty : {s : Sets} {names files : List (List ℕ)} {w : Walk} {c : List ℕ} {m : Machine} → Simulates s names files w c m → s.has w.prepared.live.0 c ≡ true → m.fault ≡ None
live-unfaulty {m = m} simulates live = by m.fault (sym simulates.prepared.live ∙ live)
  where
    by : (f : Option Fault) → is_none f ≡ true → f ≡ None
    by None e = refl
    by (Some f) e = absurd (true≢false (sym e))

pub entered-unfaulty : {x : Context} {name : List ℕ} {depth : ℕ} {m n : Machine} {has : Bool} → EntersAt x name depth m has n → n.fault ≡ None → m.fault ≡ None
entered-unfaulty elsewhere none = none
entered-unfaulty (inert is) none = none
entered-unfaulty (left_out acting again) none = none
entered-unfaulty {m = m} (enters f e acting named there again walks) none = acts-unfaulty m acting

no-entry : (a b c : Bool) → b ≡ false → ((a && b) && c) ≡ false
no-entry true false c e = refl
no-entry false b c e = refl
no-entry true true c e = absurd (true≢false e)

inert-stays : {x : Context} {name : List ℕ} {depth : ℕ} {m n : Machine} {has : Bool} → acts m ≡ false → EntersAt x name depth m has n → n ≡ m
inert-stays idle elsewhere = refl
inert-stays idle (inert is) = refl
inert-stays idle (left_out acting again) = refl
inert-stays idle (enters f e acting named there again walks) = absurd (true≢false (sym acting ∙ idle))

module _ {old mid : Sets} {names : List (List ℕ)} {w : Walk} {within : Cond} (files : List (List ℕ)) (cond : Cond) (entry : Entry) (keeps : Keeps old mid)
    (inside_is : Denotes mid within.0 (λ c. (old.has cond.0 c && old.has w.acting.0 c) && not (once_at old files w.once.items c (text_at files entry.file.0)))) (owns : Owns old w) (is : IsTable old names w.table) where
  abbrev Inside : Context → List ℕ → Machine → List plain.Place → Moment → Type 0
  Inside x config m chain k = (old.has cond.0 config ≡ true) × ComesInside x (text_at files entry.file.0) entry.depth m chain k

  -- who comes to a moment in the file enters it
  comes-within : {x : Context} {config : List ℕ} {m : Machine} {chain : List plain.Place} {k : Moment} → IsConfig old.arities config → Simulates old names files w config m → Inside x config m chain k → mid.has within.0 config ≡ true
  comes-within {config = config} {m} listed at (has, inside) =
      inside_is.at config (IsConfig-Keeps keeps listed)
      ∙ (λ i. (has i && (at.acting ∙ inside.acting) i) && not ((at.once (acts-unfaulty m inside.acting) (text_at files entry.file.0) ∙ inside.again) i))

  pub puts-nowhere : (x : Context) → IsNever mid within.0 → (next : Walk) (holds : (c d : List ℕ) (index n m : ℕ) → Type 0) → WherePutOut files names old w IsBetweenRuns (Inside x) mid next holds
  puts-nowhere x never next holds = λ c d p q _ _ k l at _ _ _ chain line other s t f index n m one two _ _. absurd (true≢false (sym (comes-within p at one) ∙ never.none c (IsConfig-Keeps keeps p)))

  -- whoever enters it is refused
  pub puts-refused : (x : Context) {new : Sets} {next : Walk} (cause : Cause) (place : Place) → Keeps mid new → RefusesEach mid w (record { cond = within; cause = cause; place = place } ∷ []) new next
      → (holds : (c d : List ℕ) (index n m : ℕ) → Type 0) → WherePutOut files names old w IsBetweenRuns (Inside x) new next holds
  puts-refused x {new} {next} cause place later refuses holds = λ c d p q live _ k l at _ _ _ chain line other s t f index n m one two _ _.
      let now = IsConfig-Keeps later (IsConfig-Keeps keeps p) in
      absurd (true≢false (sym live ∙ (refuses.live.at c now ∙ no-more (mid.has w.prepared.live.0 c) (mid.has within.0 c) (comes-within p at one))))
    where
      fault : base.Fault
      fault = record { cond = within; cause = cause; place = place }

      no-more : (a b : Bool) → b ≡ true → (a && is_empty (if b then fault ∷ [] else [])) ≡ false
      no-more true true e = refl
      no-more false true e = refl
      no-more a false e = absurd (true≢false (sym e))

  module _ {last new : Sets} {begun walked next : Walk} {around : Around} (more more_files : List (List ℕ)) (later : Keeps mid last) (latest : Keeps last new)
      (begins : Begins mid w within begun around) (leaves : Leaves last walked around new next) {standard : Standard} (grows : Extends names more) (files_grow : Extends files more_files) (held : IsHeldWalk names (length files) any_token w)
      (walked_owns : Owns last walked) (walked_is : IsTable last more walked.table) (x : Context) (by_standard : x.standard ≡ standard) (lines : FileLines)
      (named : slice_get files entry.file.0 ≡ Some (text_at files entry.file.0)) (has : HasLines standard names files (text_at files entry.file.0) (x.files (text_at files entry.file.0)) lines)
      (walks : Leads files names mid begun more_files more last walked (IsAtTop files entry) (λ config m n. Covers x (seen_lines standard names files lines.tokens.items) m n))
      (behind : List (Cond × Token)) (longer : walked.prepared.list ≡ begun.prepared.list ++ behind) where
    whole : Keeps old new
    whole = Keeps-trans (Keeps-trans keeps later) latest

    list-is : next.prepared.list ≡ w.prepared.list ++ behind
    list-is = ap (λ (v : Walk). v.prepared.list) leaves.is ∙ (longer ∙ ap (λ (v : Walk). v.prepared.list ++ behind) begins.is)

    runs-are : next.runs ≡ w.runs
    runs-are = ap (λ (v : Walk). v.runs) leaves.is ∙ ap (λ (a : Around). a.runs) begins.around_is

    held-still : (c : List ℕ) → IsConfig old.arities c → has_none new next.runs.held.items c ≡ has_none old w.runs.held.items c
    held-still c listed = ap (λ (r : OpenRuns). has_none new r.held.items c) runs-are ∙ ap is_empty (faults_at-Keeps w.runs.held.items c whole owns.runs.held listed)

    module _ (stored : IsStored old names (length files) w) (leads : Leads files names old w more_files more new next IsBetweenRuns (λ config m n. EntersAt x (text_at files entry.file.0) entry.depth m (old.has cond.0 config) n)) where
      -- of one that waits in a file around it
      module _ (c : List ℕ) (listed : IsConfig old.arities c) (live : new.has next.prepared.live.0 c ≡ true) (k : Machine) (at : Simulates old names files w c k) (between : IsBetweenRuns k) {here : ℕ} (comes : ComesTo old names files w here c) where
        behind-it : (n : Machine) × (n.fault ≡ None) × ((name : List ℕ) → macros_at new more next.table c name ≡ n.state.macros name) × EntersAt x (text_at files entry.file.0) entry.depth k (old.has cond.0 c) n
        behind-it =
            let a = leads.at c k listed at between in
            let none = live-unfaulty a.simulates live in
            (a.machine, none, a.simulates.macros none, a.done)

        unrefused : k.fault ≡ None
        unrefused = entered-unfaulty behind-it.3 behind-it.1

        idle-there : acts k ≡ false
        idle-there = between-idle at unrefused between comes

        same-macros : macros_at new more next.table c ≡ macros_at old names w.table c
        same-macros = λ i name. (behind-it.2 name ∙ (ap (λ (n : Machine). n.state.macros name) (inert-stays idle-there behind-it.3) ∙ sym (at.macros unrefused name))) i

        outside : mid.has within.0 c ≡ false
        outside = inside_is.at c (IsConfig-Keeps keeps listed) ∙ no-entry (old.has cond.0 c) (old.has w.acting.0 c) _ (at.acting ∙ idle-there)

        same-length : length (items_at new next.prepared.list c) ≡ length (items_at old w.prepared.list c)
        same-length =
            let seen_same = outside-list files cond entry keeps inside_is owns is more more_files later latest begins leaves grows files_grow held walked_owns walked_is x by_standard lines named has walks c k listed at unrefused outside in
            ap (λ (v : Walk). length (items_at new v.prepared.list c)) leaves.is
            ∙ (sym (length-map (items_at new walked.prepared.list c) (seen more more_files)) ∙ (ap length seen_same ∙ (length-map (items_at mid w.prepared.list c) (seen names files)
            ∙ ap length (items_at-Keeps w.prepared.list c keeps owns.prepared.list listed))))

      pub shares-around : KeepsSharesOf IsBetweenRuns files names old w more_files more new next
      shares-around = record { longer = (behind, list-is); at = λ c d p q live_c live_d k l at_k at_l between_k between_l index n m shares. by c d p q live_c live_d k l at_k at_l between_k between_l index n m shares }
        where
          by : (c d : List ℕ) → IsConfig old.arities c → IsConfig old.arities d → new.has next.prepared.live.0 c ≡ true → new.has next.prepared.live.0 d ≡ true → (k l : Machine) → Simulates old names files w c k → Simulates old names files w d l
              → IsBetweenRuns k → IsBetweenRuns l → (index n m : ℕ) → Shares old names files w c d index n m → Shares new more more_files next c d index n m
          by c d p q live_c live_d k l at_k at_l between_k between_l index n m (put one) =
              put (subst (λ list. HaveOne new list c d n m) (sym list-is) (one.0, nth-later whole c p w.prepared.list behind owns.prepared.list n one.0 one.1, nth-later whole d q w.prepared.list behind owns.prepared.list m one.0 one.2))
          by c d p q live_c live_d k l at_k at_l between_k between_l index n m (one_held fault) = one_held (λ none. fault (sym (held-still c p) ∙ none))
          by c d p q live_c live_d k l at_k at_l between_k between_l index n m (other_held fault) = other_held (λ none. fault (sym (held-still d q) ∙ none))
          by c d p q live_c live_d k l at_k at_l between_k between_l index n m (waits at size span within one other) =
              shares-kept whole grows files_grow w next stored (Extends-refl w.runs.sets) runs-are c d p q
              (same-macros c p live_c k at_k between_k span.one) (same-macros d q live_d l at_l between_l span.other) (same-length c p live_c k at_k between_k span.one) (same-length d q live_d l at_l between_l span.other)
              behind list-is index n m (waits at size span within one other)

    -- what is put out in it
    pub puts-inside : WherePutOut files names mid begun (IsAtTop files entry) (λ config m. ComesOver x (seen_lines standard names files lines.tokens.items) m) last walked (λ c d index. HaveOne last walked.prepared.list c d)
        → WherePutOut files names old w IsBetweenRuns (Inside x) new next (λ c d index. HaveOne new next.prepared.list c d)
    puts-inside puts = λ c d p q live_c live_d k l at_k at_l between_k between_l chain line other s t f index n m one two puts_c puts_d.
        let have = puts c d (IsConfig-Keeps keeps p) (IsConfig-Keeps keeps q) (was-live c p live_c) (was-live d q live_d)
        (start (entering entry.depth (text_at files entry.file.0) k.state)) (start (entering entry.depth (text_at files entry.file.0) l.state))
        (begun-at c p k at_k between_k one) (begun-at d q l at_l between_l two) (top k) (top l) chain line other s t f index n m
        (over k one) (over l two) puts_c puts_d in
        subst (λ list. HaveOne new list c d n m) (append-nil walked.prepared.list ∙ ap (λ (v : Walk). v.prepared.list) (sym leaves.is)) (
          have.0,
          nth-later latest c (IsConfig-Keeps later (IsConfig-Keeps keeps p)) walked.prepared.list [] walked_owns.prepared.list n have.0 have.1,
          nth-later latest d (IsConfig-Keeps later (IsConfig-Keeps keeps q)) walked.prepared.list [] walked_owns.prepared.list m have.0 have.2,
        )
      where
        was-live : (c : List ℕ) → IsConfig old.arities c → new.has next.prepared.live.0 c ≡ true → last.has walked.prepared.live.0 c ≡ true
        was-live c listed live =
            sym (latest.at walked.prepared.live.0 c walked_owns.prepared.live (IsConfig-Keeps later (IsConfig-Keeps keeps listed))) ∙ (ap (λ (v : Walk). new.has v.prepared.live.0 c) (sym leaves.is) ∙ live)

        begun-at : (c : List ℕ) (listed : IsConfig old.arities c) (k : Machine) → Simulates old names files w c k → IsBetweenRuns k → {chain : List plain.Place} {g : Moment} → Inside x c k chain g
            → Simulates mid names files begun c (start (entering entry.depth (text_at files entry.file.0) k.state))
        begun-at c listed k at between inside =
            begins-start mid names files w begun within around c k begins (stays files cond entry keeps inside_is owns is c k listed at) (IsConfig-Keeps keeps listed) (comes-within listed at inside) inside.1.acting between entry.depth (text_at files entry.file.0)

        top : (k : Machine) → IsAtTop files entry (start (entering entry.depth (text_at files entry.file.0) k.state))
        top k = simulates.begins (entering entry.depth (text_at files entry.file.0) k.state) refl (record { name = named; deep = refl })

        lines-are : seen_lines standard names files lines.tokens.items ≡ file_lines x (file_with (text_at files entry.file.0) has.bytes) has.are.lexemes
        lines-are = ap (lines_of standard) has.are.tokens ∙ ap (λ st. lines_of st (map (plain.in_file (text_at files entry.file.0)) has.are.lexemes)) (sym by_standard)

        over : (k : Machine) {config : List ℕ} {chain : List plain.Place} {line : Line} {s : State} → Inside x config k chain (at_line line s)
            → ComesOver x (seen_lines standard names files lines.tokens.items) (start (entering entry.depth (text_at files entry.file.0) k.state)) chain (at_line line s)
        over k {chain = chain} {line} {s} inside =
            let name = text_at files entry.file.0 in
            let bytes : inside.1.file.bytes ≡ has.bytes = same_Some inside.1.file.bytes has.bytes (sym inside.1.there ∙ has.is) in
            let same : inside.1.file ≡ file_with name has.bytes = ap (λ n. file_with n inside.1.file.bytes) inside.1.named ∙ ap (file_with name) bytes in
            comes-back (file_with name has.bytes) (record k.state { depth = entry.depth }) has.are.lexemes has.are.lexed lines-are
            (subst (λ (f : File). FileReaches x f (record k.state { depth = entry.depth }) chain (at_line line s)) same inside.1.reaches)
