-- Why a directive stops: the footprints of which a stage tells are those of the machine before its
-- line.
use Rattle.std.proofs.Common.{◌≡◌, ℕ, ◌+◌, ◌&&◌, Bool, true, false, All, List, [], ◌∷◌, drop, map, take, Some, None, Result, Ok, refl, sym, ap, subst, ◌∙◌, if◌then◌else◌, IfErr, is_none}
use Rattle.c11_directives.specs.Footprints.{DirectiveHas, HasFootprints, MomentsHave, NameHas, TextHas, Used, expression, IsSaid, Spot, before_token, footprint_at, of_head, of_header, of_line, of_name, of_part, said, waiting}
use Rattle.c11_expressions.specs.Lines.{without_defined}
use Rattle.c11_expressions.specs.Parts.{Part}
use Rattle.sc_base.specs.declared.token.Token as base
use Rattle.sc_model.specs.Token.{Place, Token}
use Rattle.sc_prep.proofs.ApartLemmas.{apart-drop, different}
use Rattle.sc_prep.proofs.ExpressionMoves.{asked-at}
use Rattle.sc_prep.proofs.Facts.{IsConfig-Keeps, IsConfig-kept, and_from, and_parts, directive-files, true≢false, under}
use Rattle.sc_prep.proofs.FileStops.{comes-closing, comes-said}
use Rattle.sc_prep.proofs.LineFootprints.{headers-footprints, lists-footprints}
use Rattle.sc_prep.proofs.LineSteps.{line-grown}
use Rattle.sc_prep.proofs.Machine.{right-none}
use Rattle.sc_prep.proofs.NameFootprints.{text-as}
use Rattle.sc_prep.proofs.PartFootprints.{part-footprints, part-has}
use Rattle.sc_prep.proofs.SaidMoves.{text-at}
use Rattle.sc_prep.proofs.Stopping.{answer-stops, footprints-as, here_at, stops-as}
use Rattle.sc_prep.proofs.Terms.{Alternative, AreAlike, AreDifferent, BranchesFull, Closed, Comes, ComesAt, Cond, Context, DefineTextAlike, Denotes, Directive, ExpandsAt, Expression, Extends, Fault, HasPart, HasParts, HaveLists, IsCond, IsConfig, IsHeld, IsTable, Keeps, Line, Machine, Opening, OutOfMemory, Owns, ReadFault, RefusesAt, ReplacesAt, Sets, Simulates, SimulatesOneOf, StandApart, Standard, Stop, StopsAtPlace, StopsByLists, StopsWalk, Test, TextExpands, Walk, acts, any_machine, asks_by, at_head, begins_with_header, behind_name, conditional_of, decides, directive_at, expanding_done, expanding_fails, expanding_idle, hash_of, is_barrier, is_said, items_at, macros_at, next_branch, places_at, replacing_done, replacing_fails, replacing_idle, seen, seen_line, test_of, tokens_in, unhidden}
use Rattle.sc_prep.proofs.VoidFootprints.{void-footprints}
use Rattle.sc_prep.proofs.WalkMoves.{simulates-kept}

-- a stage that stops for different lists stops at a place
pub lists-stop : {K V : Type 0} {mid arities other : List ℕ} {test : List ℕ → Bool} {list : List ℕ → List ℕ} {P : List ℕ → K × V → Type 0} (limit : ℕ) (stop : Stop) → mid ≡ arities
    → (HaveLists arities test list (limit + 1) → HasFootprints (IsConfig other) P (limit + 1)) → StopsByLists mid test list limit stop → StopsAtPlace other P limit stop
lists-stop {test = test} {list = list} limit (BranchesFull count) same to h = to (subst (λ a. HaveLists a test list (limit + 1)) same h)
lists-stop limit ReadFault same to h = tt
lists-stop limit OutOfMemory same to h = tt

-- what several clauses of an answer say together
-- ---- at one configuration

-- where the machine is not refused, an earlier stage left it as it was
replaced-done : {text ts : List Token} {hash : Place} {asked : Bool} {m n : Machine} → asked ≡ true → n.fault ≡ None → ReplacesAt text hash asked m ts n
    → (n ≡ m) × (without_defined m.state.macros (map unhidden text) ≡ Ok (map unhidden ts))
replaced-done asks clean (replacing_idle quiet none) = let both = sym asks ∙ quiet in absurd (cc)
replaced-done asks clean (replacing_done asked is) = (refl, is)
replaced-done asks clean (replacing_fails cause asked is) = absurd (cc)

expanded-done : {text ts : List Token} {asked : Bool} {m n : Machine} → n.fault ≡ None → ExpandsAt text asked m ts n → (n ≡ m) × (asked ≡ true → TextExpands m.state.macros text (Ok ts))
expanded-done clean (expanding_idle quiet none) = (refl, λ asks. absurd (cc))
expanded-done clean (expanding_done asked is) = (refl, λ asks. is)
expanded-done clean (expanding_fails fault asked is) = absurd (cc)

-- ---- the line of an expression

module _ (files names : List (List ℕ)) {old s : Sets} (keeps : Keeps old s) (w : Walk) (owns : Owns old w) (is : IsTable old names w.table) (among live : Cond)
    (live_is : Denotes s live.0 (λ c. old.has among.0 c && old.has w.prepared.live.0 c)) (l : Line) (hash : Token)
    (asks : test_of l ≡ Some Expression) {names1 : List (List ℕ)} {s1 : Sets} {w1 : Walk} (k1 : Keeps s s1) (list : List (Cond × base.Token))
    (replaces : SimulatesOneOf files names s w names1 s1 w1
    (λ c m n. ReplacesAt (behind_name l) hash.place (s.has live.0 c && is_none m.fault) m (map (seen names1 files) (items_at s1 list c)) n)) where
  abbrev text_at : List ℕ → List Token
  text_at c = map (seen names1 files) (items_at s1 list c)

  -- each `defined` of the line was replaced, and the machine was asked
  record IsReplaced (c : List ℕ) (m : Machine) : Type 0 where
    simulates : Simulates s1 names1 files w1 c m
    asked : (old.has among.0 c && is_none m.fault) ≡ true
    text : without_defined m.state.macros (map unhidden (behind_name l)) ≡ Ok (map unhidden (text_at c))

  replaced-before : (c : List ℕ) (m : Machine) → IsConfig old.arities c → Simulates old names files w c m
      → ((n : Machine) → Simulates s1 names1 files w1 c n → (s1.has live.0 c && is_none n.fault) ≡ true) → IsReplaced c m
  replaced-before c m listed simulates later =
      let now = IsConfig-Keeps keeps listed in
      let a = replaces.at c m now (simulates-kept keeps w owns names files c m listed is simulates) in
      let on = and_parts (s1.has live.0 c) (is_none a.machine.fault) (later a.machine a.simulates) in
      let has : s.has live.0 c ≡ true = sym (k1.at live.0 c live_is.own now) ∙ on.0 in
      let asked : (old.has among.0 c && is_none m.fault) ≡ true = sym (asked-at keeps w among live live_is c m listed simulates) ∙ has in
      let clean = (and_parts (old.has among.0 c) (is_none m.fault) asked).1 in
      let done = replaced-done (and_from (s.has live.0 c) (is_none m.fault) has clean) (right-none true a.machine.fault on.1) a.done in
      record { simulates = subst (Simulates s1 names1 files w1 c) done.0 a.simulates; asked = asked; text = done.1 }

  abbrev Found : List ℕ → Spot × Used → Type 0
  Found = Comes old names files w any_machine (λ c m f. ((old.has among.0 c && is_none m.fault) ≡ true) × DirectiveHas m.state.macros l f)

  -- a name of what is left
  pub name-stops : (limit : ℕ) (stop : Stop)
      → StopsAtPlace s1.arities (Comes s1 names1 files w1 any_machine (λ c m f. ((s1.has live.0 c && is_none m.fault) ≡ true) × NameHas m.state.macros (text_at c) f)) limit stop
      → StopsAtPlace old.arities Found limit stop
  name-stops limit stop stops =
      stops-as (λ at. at) _ limit stop
      (λ c f listed has. λ m simulates _.
      let a = replaced-before c m listed simulates (λ n at. (has n at tt).0) in
      (a.asked, of_name (text_at c) (expression (text_at c) (record { asks = asks; replaced = a.text })) (has m a.simulates tt).1))
      (subst
      (λ a. StopsAtPlace a (Comes s1 names1 files w1 any_machine (λ c m f. ((s1.has live.0 c && is_none m.fault) ≡ true) × NameHas m.state.macros (text_at c) f)) limit stop)
      (k1.arities ∙ keeps.arities) stops)

  -- or a place of what it expands to
  module _ (limit : ℕ) {names2 : List (List ℕ)} {s2 : Sets} {w2 : Walk} (k2 : Keeps s1 s2) (made : List (Cond × base.Token))
      (expands : SimulatesOneOf files names1 s1 w1 names2 s2 w2 (λ c m n. ExpandsAt (text_at c) (s1.has live.0 c && is_none m.fault) m (map (seen names2 files) (items_at s2 made c)) n)) where
    abbrev behind : List ℕ → Bool
    behind c = s2.has live.0 c && s2.has w2.prepared.live.0 c

    -- a machine that is not refused behind the expansion was asked before it
    expanded-before : (c : List ℕ) (m : Machine) → IsConfig s1.arities c → behind c ≡ true → Simulates s1 names1 files w1 c m
        → ((s1.has live.0 c && is_none m.fault) ≡ true) × TextExpands m.state.macros (text_at c) (Ok (map (seen names2 files) (items_at s2 made c)))
    expanded-before c m listed on simulates =
        let b = expands.at c m listed simulates in
        let parts = and_parts (s2.has live.0 c) (s2.has w2.prepared.live.0 c) on in
        let clean = right-none true b.machine.fault (sym b.simulates.prepared.live ∙ parts.1) in
        let done = expanded-done clean b.done in
        let asked = and_from (s1.has live.0 c) (is_none m.fault) (sym (k2.at live.0 c (k1.own live.0 live_is.own) listed) ∙ parts.0) (ap is_none (ap (λ (n : Machine). n.fault) (sym done.0) ∙ clean)) in
        (asked, done.1 asked)

    part-found : (h : HasParts l.standard s2 names2 made behind (limit + 1)) (p : List ℕ × Part) → IsConfig s2.arities p.0 → behind p.0 ≡ true → HasPart l.standard s2 names2 (take h.index made) h.item p
        → Found p.0 (before_token (seen names2 files h.item.1), waiting p.1)
    part-found h p there on has = λ m simulates _.
        let now = IsConfig-kept k2 there in
        let a = replaced-before p.0 m (IsConfig-kept keeps (IsConfig-kept k1 now)) simulates (λ n at. (expanded-before p.0 n now on at).0) in
        (a.asked, of_part (text_at p.0) (record { asks = asks; replaced = a.text }) (part-has s2 names2 files made h.index h.item h.is p has (expanded-before p.0 m now on a.simulates).1))

    pub part-stops : (stop : Stop) → RefusesAt l.standard s2 names2 made behind limit stop → StopsAtPlace old.arities Found limit stop
    part-stops (BranchesFull count) is =
        subst (λ arities. HasFootprints (IsConfig arities) Found (limit + 1)) (k2.arities ∙ (k1.arities ∙ keeps.arities)) (part-footprints is.1 files Found (part-found is.1))
    part-stops ReadFault is = tt
    part-stops OutOfMemory is = tt

-- ---- a line that begins or goes on with a section

comes-deciding : {x : Context} {l : Line} {m : Machine} {f : Spot × Used} → asks_by m (conditional_of l) ≡ true → DirectiveHas m.state.macros l f → MomentsHave (ComesAt x m l) (here_at f.0, f.1)
comes-deciding {l = l} {m} asks has = record { moment = at_head l m.state; comes = decides asks; has = of_head has }

pub opening-stops : (s : Sets) (names files : List (List ℕ)) (w : Walk) (x : Context) (l : Line) {test : Test} → conditional_of l ≡ Some (Opening test) → (limit : ℕ) (stop : Stop)
    → StopsAtPlace s.arities (Comes s names files w any_machine (λ c m f. ((s.has w.acting.0 c && is_none m.fault) ≡ true) × DirectiveHas m.state.macros l f)) limit stop
    → StopsAtPlace s.arities (Comes s names files w any_machine (λ c m. MomentsHave (ComesAt x m l))) limit stop
opening-stops s names files w x l named limit stop = stops-as here_at _ limit stop (λ c f listed has. λ m simulates _.
    let it = has m simulates tt in
    comes-deciding (ap (asks_by m) named ∙ (sym simulates.acting ∙ (and_parts (s.has w.acting.0 c) (is_none m.fault) it.0).0)) it.1)

pub alternative-stops : (s : Sets) (names files : List (List ℕ)) (w : Walk) (x : Context) (l : Line) {test : Test} → conditional_of l ≡ Some (Alternative test) → (among : Cond)
    → ((c : List ℕ) (m : Machine) → Simulates s names files w c m → (s.has among.0 c && is_none m.fault) ≡ acts (next_branch m true m.sections)) → (limit : ℕ) (stop : Stop)
    → StopsAtPlace s.arities (Comes s names files w any_machine (λ c m f. ((s.has among.0 c && is_none m.fault) ≡ true) × DirectiveHas m.state.macros l f)) limit stop
    → StopsAtPlace s.arities (Comes s names files w any_machine (λ c m. MomentsHave (ComesAt x m l))) limit stop
alternative-stops s names files w x l named among asked limit stop = stops-as here_at _ limit stop (λ c f listed has. λ m simulates _.
    let it = has m simulates tt in
    comes-deciding (ap (asks_by m) named ∙ (sym (asked c m simulates) ∙ it.0)) it.1)

-- ---- what a line says

-- a directive has a first token
hash-of : (standard : Standard) (names files : List (List ℕ)) (line : List base.Token) (d : Directive) → (seen_line standard names files line).directive ≡ Some d → (t : Token) × (hash_of (seen_line standard names files line) ≡ Some t)
hash-of standard names files [] d directed = absurd (cc)
hash-of standard names files (t ∷ ts) d directed = (seen names files t, refl)

tokens-under : (cond : Cond) (ts : List base.Token) → tokens_in (under cond ts) ≡ ts
tokens-under cond [] = refl
tokens-under cond (t ∷ ts) = ap (λ us. t ∷ us) (tokens-under cond ts)

-- the tokens behind the name stand apart
pub behind-different : (names files : List (List ℕ)) (w : Walk) (line : List base.Token) (list : List (Cond × base.Token)) → list ≡ under w.acting (drop 2 line) → StandApart line → AreDifferent names files list
behind-different names files w line list same apart =
    different names files list (subst StandApart (sym (ap tokens_in same ∙ tokens-under w.acting (drop 2 line))) (apart-drop 2 line apart))

module _ (names files : List (List ℕ)) (s : Sets) (w : Walk) (line : List base.Token) (list : List (Cond × base.Token)) (same : list ≡ under w.acting (drop 2 line)) (standard : Standard) (d : Directive)
    (directed : (seen_line standard names files line).directive ≡ Some d) (says : is_said d ≡ true) where
  abbrev this : Line
  this = seen_line standard names files line

  is_said_line : begins_with_header (behind_name this) ≡ false → IsSaid this
  is_said_line other = record { directive = d; is = directed; says = says; other = other }

  abbrev Said : List ℕ → Spot × Used → Type 0
  Said = Comes s names files w any_machine (λ c m f. (acts m ≡ true) × DirectiveHas m.state.macros this f)

  abbrev behind_at : List ℕ → List Token
  behind_at c = map (seen names files) (items_at s list c)

  -- where the machine acts the list has what stands behind the name
  all-behind : (c : List ℕ) → s.has w.acting.0 c ≡ true → behind_at c ≡ behind_name this
  all-behind c has = text-at names files s w line list same standard c ∙ ap (λ b. if b then behind_name this else []) has

  -- a name of it
  pub name-said-stops : begins_with_header (behind_name this) ≡ false → (limit : ℕ) (stop : Stop)
      → StopsAtPlace s.arities (Comes s names files w any_machine (λ c m f. ((s.has w.acting.0 c && is_none m.fault) ≡ true) × NameHas m.state.macros (behind_at c) f)) limit stop
      → StopsAtPlace s.arities Said limit stop
  name-said-stops other limit stop = stops-as (λ at. at) _ limit stop (λ c f listed has. λ m simulates _.
      let it = has m simulates tt in
      let on = (and_parts (s.has w.acting.0 c) (is_none m.fault) it.0).0 in
      (sym simulates.acting ∙ on, of_name (behind_name this) (said (is_said_line other)) (subst (λ ts. NameHas m.state.macros ts f) (all-behind c on) it.1)))

  module _ (apart : StandApart line) where
    abbrev hash : Token
    hash = (hash-of standard names files line d directed).0

    hashed : hash_of this ≡ Some hash
    hashed = (hash-of standard names files line d directed).1

    -- the header name that stands there
    pub header-stops : begins_with_header (behind_name this) ≡ true → (count : ℕ) → HaveLists s.arities (s.has w.acting.0) (λ c. places_at s list c) count → HasFootprints (IsConfig s.arities) Said count
    header-stops header count lists =
        footprints-as (λ at. at) (λ c f listed has. λ m simulates _. (sym simulates.acting ∙ has.0, of_header d hash directed says header hashed (has.1 ∙ ap (λ ts. footprint_at hash ts []) (all-behind c has.0))))
        (headers-footprints s names files list (s.has w.acting.0) hash count (behind-different names files w line list same apart) lists)

    -- or what it expands to
    module _ (other : begins_with_header (behind_name this) ≡ false) {more : List (List ℕ)} {new : Sets} {next : Walk} (keeps : Keeps s new) (made : List (Cond × base.Token)) (left : List ℕ → List Token)
        (own_list : All (λ (item : Cond × base.Token). IsCond s item.0.0) list) (own_made : All (λ (item : Cond × base.Token). IsCond new item.0.0) made)
        (expands : SimulatesOneOf files names s w more new next (λ c m n. ExpandsAt (behind_at c) (s.has w.acting.0 c && is_none m.fault) m (left c) n))
        (answers : (c : List ℕ) → IsConfig s.arities c → (s.has w.acting.0 c && s.has w.prepared.live.0 c) ≡ true
        → (answer : Result (List Token) Fault) × TextExpands (macros_at s names w.table c) (behind_at c) answer)
        (alike : (c d : List ℕ) → IsConfig s.arities c → IsConfig s.arities d → (s.has w.acting.0 c && s.has w.prepared.live.0 c) ≡ true → (s.has w.acting.0 d && s.has w.prepared.live.0 d) ≡ true
        → AreAlike s c d list → DefineTextAlike (macros_at s names w.table c) (macros_at s names w.table d) (behind_at c) → AreAlike new c d made) where
      abbrev lives : List ℕ → Bool
      lives c = s.has w.acting.0 c && s.has w.prepared.live.0 c

      void-said : (c : List ℕ) → IsConfig s.arities c → new.has next.acting.0 c ≡ true → lives c ≡ false → (f : Spot × Used) → Said c f
      void-said c listed on off f = λ m simulates _.
          let a = expands.at c m listed simulates in
          let parts = and_parts a.machine.active (is_none a.machine.fault) (sym a.simulates.acting ∙ on) in
          let clean = right-none true a.machine.fault parts.1 in
          let same = (expanded-done clean a.done).0 in
          let acting = simulates.acting ∙ (ap acts (sym same) ∙ (sym a.simulates.acting ∙ on)) in
          let live = simulates.prepared.live ∙ (ap (λ (n : Machine). is_none n.fault) (sym same) ∙ parts.1) in
          absurd (true≢false (sym (and_from (s.has w.acting.0 c) (s.has w.prepared.live.0 c) acting live) ∙ off))

      text-said : (c : List ℕ) (f : Spot × Used) → lives c ≡ true → TextHas (macros_at s names w.table c) (behind_at c) hash f → Said c f
      text-said c f on has = λ m simulates _.
          let parts = and_parts (s.has w.acting.0 c) (s.has w.prepared.live.0 c) on in
          let now = text-as (simulates.macros (right-none true m.fault (sym simulates.prepared.live ∙ parts.1))) has in (
            sym simulates.acting ∙ parts.0,
            of_line hash (is_said_line other) hashed (subst (λ ts. TextHas m.state.macros ts hash f) (all-behind c parts.0) now),
          )

      pub said-stops : (count : ℕ) → HaveLists s.arities (new.has next.acting.0) (λ c. places_at new made c) count → HasFootprints (IsConfig s.arities) Said count
      said-stops count lists =
          let on = new.has next.acting.0 in
          void-footprints s.arities Said lives on (λ c. places_at new made c) count void-said
          (λ n h. footprints-as (λ at. at) (λ c f listed has. let live = (and_parts (on c) (lives c) has.0).1 in (live, text-said c f live has.1))
          (lists-footprints s new names files (macros_at s names w.table) list made (λ c. on c && lives c) hash n keeps own_list own_made (behind-different names files w line list same apart)
          (λ c d here there one two. alike c d here there (and_parts (on c) (lives c) one).1 (and_parts (on d) (lives d) two).1)
          (λ c here one. answers c here (and_parts (on c) (lives c) one).1) h))
          lists

-- ---- a directive that ends the runs first

module _ {A : Type 0} (limit : ℕ) (r : Result A Stop) (standard : Standard) (names files : List (List ℕ)) (old : Sets) (w : Walk) (from : Machine → Type 0) (x : Context) (line : List base.Token)
    (d : Directive) (at : Some d ≡ directive_at standard names line) where
  abbrev spoken : Line
  spoken = seen_line standard names files line

  directed-at : spoken.directive ≡ Some d
  directed-at = directive-files standard names files line ∙ sym at

  -- a name in the run that it closes
  pub closing-stops : is_barrier d ≡ true → IfErr r (StopsWalk old names files w any_machine (λ c m f. (acts m ≡ true) × NameHas m.state.macros m.state.run f) limit)
      → IfErr r (StopsWalk old names files w from (λ c m. MomentsHave (ComesAt x m spoken)) limit)
  closing-stops barrier =
      answer-stops here_at _ limit r refl (λ c f listed has. λ m simulates _. let it = has m simulates tt in comes-closing d directed-at barrier it.0 it.1)

  -- what it says behind its name
  pub carried-stops : {more : List (List ℕ)} {mid : Sets} {v : Walk} → is_said d ≡ true → Extends names more → All (IsHeld names) line → Keeps old mid
      → SimulatesOneOf files names old w more mid v (λ c m n. Closed m n)
      → ((d : Directive) → (seen_line standard more files line).directive ≡ Some d → is_said d ≡ true
      → IfErr r (StopsWalk mid more files v any_machine (λ c m f. (acts m ≡ true) × DirectiveHas m.state.macros (seen_line standard more files line) f) limit))
      → IfErr r (StopsWalk old names files w from (λ c m. MomentsHave (ComesAt x m spoken)) limit)
  carried-stops says grows held keeps closing stops =
      let grown = line-grown files grows standard line held in
      answer-stops here_at _ limit r keeps.arities
      (λ c f listed has. λ m simulates _.
      let a = closing.at c m listed simulates in
      let it = has a.machine a.simulates tt in
      comes-said d directed-at says a.done it.0 (subst (λ k. DirectiveHas a.machine.state.macros k f) grown it.1))
      (stops d (ap (λ (k : Line). k.directive) grown ∙ directed-at) says)
