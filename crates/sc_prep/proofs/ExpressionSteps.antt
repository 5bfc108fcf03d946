-- The stages of an expression at one configuration.
use Rattle.std.proofs.Common.{◌≡◌, ℕ, ◌<◌, ◌&&◌, not, Bool, true, false, List, [], ◌∷◌, map, length, Some, None, Result, Ok, Err, get_or, refl, sym, ap, subst, ◌∙◌, arith, if◌then◌else◌, is_none, codes}
use Rattle.c11_directives.specs.Pre.{Context, Decides, decision_of, expression}
use Rattle.c11_expressions.specs.Lines as lines
use Rattle.c11_expressions.specs.Lines.{Comes, before, definedness, failure, in_parentheses, is_defined, is_identifier, malformed, unexpanded, without_defined}
use Rattle.sc_base.specs.declared.fault.Fault as base
use Rattle.sc_base.specs.declared.place.Place as base_place
use Rattle.sc_base.specs.declared.token.Token as base_token
use Rattle.sc_if.specs.Replaced as replaced
use Rattle.sc_model.specs.Token.{Place, Token}
use Rattle.sc_prep.proofs.Facts.{comes-expanded}
use Rattle.sc_prep.proofs.Terms.{Alternative, BadIf, Cause, Conditional, Decided, DecidesAt, EvaluatesAt, Expands, ExpandsAt, Expression, Failure, Fault, Hidden, Line, Machine, Macros, Opening, ReplacesAt, Standard, Test, TextExpands, acts, asks_by, behind_name, conditional_of, deciding_done, deciding_fails, deciding_idle, evaluating_done, evaluating_fails, evaluating_idle, expanding_done, expanding_fails, expanding_idle, failed, fault_of, hash_of, next_branch, opened, place_alone, replacing_done, replacing_fails, replacing_idle, result_map, same_bytes, seen, seen_fault, seen_line, seen_place, step_by, test_of, text_of_answer, token_of, unhidden}

-- ---- only the places differ between a line and what is seen of it

abbrev pub at_place : {P Q : Type 0} → (P → Q) → Hidden P → Hidden Q
at_place f t = record { kind = t.kind; spelling = t.spelling; space = t.space; place = f t.place; hide = t.hide }

module _ {P Q : Type 0} (f : P → Q) (macros : Macros) where
  abbrev moved : List (Hidden P) → List (Hidden Q)
  moved ts = map (at_place f) ts

  before-moved : (t : Hidden P) (r : Result (List (Hidden P)) Cause) → before (at_place f t) (result_map moved r) ≡ result_map moved (before t r)
  before-moved t (Ok ts) = refl
  before-moved t (Err cause) = refl

  lone : (t : Hidden P) (b : Bool) → (if b then Err BadIf else Ok (at_place f t ∷ [])) ≡ result_map moved (if b then Err BadIf else Ok (t ∷ []))
  lone t true = refl
  lone t false = refl

  named : (t name : Hidden P) (b : Bool) {r : Result (List (Hidden Q)) Cause} (s : Result (List (Hidden P)) Cause) → r ≡ result_map moved s
      → (if b then before (definedness macros (at_place f t) (at_place f name)) r else Err BadIf) ≡ result_map moved (if b then before (definedness macros t name) s else Err BadIf)
  named t name true s same = ap (before (definedness macros (at_place f t) (at_place f name))) same ∙ before-moved (definedness macros t name) s
  named t name false s same = refl

  choice : (t u : Hidden P) (a b c : Bool) {r1 r2 r3 : Result (List (Hidden Q)) Cause} (s1 s2 s3 : Result (List (Hidden P)) Cause)
      → r1 ≡ result_map moved s1 → r2 ≡ result_map moved s2 → r3 ≡ result_map moved s3
      → (if not a then before (at_place f t) r1 else (if b then before (definedness macros (at_place f t) (at_place f u)) r2 else (if c then r3 else Err BadIf)))
      ≡ result_map moved (if not a then before t s1 else (if b then before (definedness macros t u) s2 else (if c then s3 else Err BadIf)))
  choice t u false b c s1 s2 s3 e1 e2 e3 = ap (before (at_place f t)) e1 ∙ before-moved t s1
  choice t u true true c s1 s2 s3 e1 e2 e3 = ap (before (definedness macros (at_place f t) (at_place f u))) e2 ∙ before-moved (definedness macros t u) s2
  choice t u true false true s1 s2 s3 e1 e2 e3 = e3
  choice t u true false false s1 s2 s3 e1 e2 e3 = refl

  mutual
    pub without-moved : (ts : List (Hidden P)) → without_defined macros (moved ts) ≡ result_map moved (without_defined macros ts)
    without-moved [] = refl
    without-moved (t ∷ []) = lone t (is_defined t)
    without-moved (t ∷ (u ∷ ts)) =
        choice t u (is_defined t) (is_identifier u) (same_bytes u.spelling (codes "(")) (without_defined macros (u ∷ ts)) (without_defined macros ts) (in_parentheses macros t ts)
        (without-moved (u ∷ ts)) (without-moved ts) (parentheses-moved t ts)

    parentheses-moved : (t : Hidden P) (ts : List (Hidden P)) → in_parentheses macros (at_place f t) (moved ts) ≡ result_map moved (in_parentheses macros t ts)
    parentheses-moved t [] = refl
    parentheses-moved t (name ∷ []) = refl
    parentheses-moved t (name ∷ (u ∷ ts)) = named t name (is_identifier name && same_bytes u.spelling (codes ")")) (without_defined macros ts) (without-moved ts)

-- the tokens as they are seen
pub moved-seen : (names files : List (List ℕ)) (ts : List base_token.Token) → map (at_place (seen_place files)) (map (replaced.unhidden names) ts) ≡ map unhidden (map (seen names files) ts)
moved-seen names files [] = refl
moved-seen names files (t ∷ ts) = ap (λ us. unhidden (seen names files t) ∷ us) (moved-seen names files ts)

abbrev seen_failure_at : List (List ℕ) → Failure base_place.Place → Fault
seen_failure_at files x = record { cause = x.cause; place = seen_place files x.place }

pub faults-seen : (files : List (List ℕ)) (fs : List base.Fault) → map (seen_fault files) fs ≡ map (seen_failure_at files) (map replaced.seen_failure fs)
faults-seen files [] = refl
faults-seen files (f ∷ fs) = ap (λ gs. seen_fault files f ∷ gs) (faults-seen files fs)

-- ---- where nothing is asked

pub idle-replaces : {text : List Token} {hash : Place} {b : Bool} {m n : Machine} {ts : List Token} → b ≡ false → ReplacesAt text hash b m ts n → n ≡ m
idle-replaces idle (replacing_idle quiet none) = refl
idle-replaces idle (replacing_done asked is) = let both = sym idle ∙ asked in absurd (cc)
idle-replaces idle (replacing_fails cause asked is) = let both = sym idle ∙ asked in absurd (cc)

pub idle-expands : {text : List Token} {b : Bool} {m n : Machine} {ts : List Token} → b ≡ false → ExpandsAt text b m ts n → n ≡ m
idle-expands idle (expanding_idle quiet none) = refl
idle-expands idle (expanding_done asked is) = let both = sym idle ∙ asked in absurd (cc)
idle-expands idle (expanding_fails fault asked is) = let both = sym idle ∙ asked in absurd (cc)

pub idle-evaluates : {standard : Standard} {hash : Place} {ts : List Token} {b : Bool} {m n : Machine} {is_taken : Bool} → b ≡ false → EvaluatesAt standard hash ts b m is_taken n → (n ≡ m) × (is_taken ≡ false)
idle-evaluates idle (evaluating_idle quiet none) = (refl, none)
idle-evaluates idle (evaluating_done asked is) = let both = sym idle ∙ asked in absurd (cc)
idle-evaluates idle (evaluating_fails why asked none is) = let both = sym idle ∙ asked in absurd (cc)

-- ---- the stages joined

module _ (x : Context) (l : Line) (hash : Token) (asks : test_of l ≡ Some Expression) (hashed : hash_of l ≡ Some hash) where
  -- nothing more happens to a line that was refused
  refused-then : {m o p : Machine} {b : Bool} {us : List Token} {is_taken : Bool} (fault : Fault) → Decides x m.state l (Err fault)
      → o ≡ failed m fault → b ≡ false → EvaluatesAt l.standard hash.place us b o is_taken p → DecidesAt x l true m is_taken p
  refused-then {m} {o} {p} {is_taken = is_taken} fault decides failing idle evaluates =
      let last = idle-evaluates idle evaluates in
      subst (DecidesAt x l true m is_taken) (sym (last.0 ∙ failing)) (deciding_fails fault refl last.1 decides)

  -- what an expansion comes to decides
  comes-decides : (m : Machine) (ts us : List Token) (answer : Result Bool (Failure Place)) → without_defined m.state.macros (map unhidden (behind_name l)) ≡ Ok (map unhidden ts)
      → TextExpands m.state.macros ts (Ok us) → Comes l.standard hash.place (Ok (map unhidden us)) answer → Decides x m.state l (decision_of answer)
  comes-decides m ts us answer is expands comes = by expands.answer expands.expands expands.is
    where
      by : (a : Result (List (Hidden Place)) (Failure Place)) → Expands place_alone m.state.macros (map unhidden ts) a → Ok us ≡ text_of_answer a → Decides x m.state l (decision_of answer)
      by (Ok xs) becomes e =
          let same : us ≡ map token_of xs = cc in
          expression hash answer asks hashed
          (lines.expanded (map unhidden ts) (Ok xs) answer is becomes (comes-expanded l.standard hash.place xs answer (subst (λ vs. Comes l.standard hash.place (Ok (map unhidden vs)) answer) same comes)))
      by (Err why) becomes e = absurd (cc)

  -- so does the fault of one
  fails-decides : (m : Machine) (ts : List Token) (fault : Fault) → without_defined m.state.macros (map unhidden (behind_name l)) ≡ Ok (map unhidden ts)
      → TextExpands m.state.macros ts (Err fault) → Decides x m.state l (Err fault)
  fails-decides m ts fault is expands = by expands.answer expands.expands expands.is
    where
      by : (a : Result (List (Hidden Place)) (Failure Place)) → Expands place_alone m.state.macros (map unhidden ts) a → Err fault ≡ text_of_answer a → Decides x m.state l (Err fault)
      by (Ok xs) becomes e = absurd (cc)
      by (Err why) becomes e =
          let same : fault_of why ≡ fault = cc in
          subst (λ f. Decides x m.state l (Err f)) same (expression hash (Err why) asks hashed (lines.expanded (map unhidden ts) (Err why) (Err why) is becomes (unexpanded why)))

  module _ (m : Machine) (none : m.fault ≡ None) where
    evaluated-then : (ts us : List Token) {p : Machine} {is_taken : Bool} → without_defined m.state.macros (map unhidden (behind_name l)) ≡ Ok (map unhidden ts)
        → TextExpands m.state.macros ts (Ok us) → EvaluatesAt l.standard hash.place us (true && is_none m.fault) m is_taken p → DecidesAt x l true m is_taken p
    evaluated-then ts us is expands (evaluating_idle quiet untaken) = let both = sym (ap is_none none) ∙ quiet in absurd (cc)
    evaluated-then ts us {is_taken = is_taken} is expands (evaluating_done asked comes) = deciding_done refl (comes-decides m ts us (Ok is_taken) is expands comes)
    evaluated-then ts us is expands (evaluating_fails why asked untaken comes) = deciding_fails (fault_of why) refl untaken (comes-decides m ts us (Err why) is expands comes)

    expanded-then : (ts us : List Token) {o p : Machine} {is_taken : Bool} → without_defined m.state.macros (map unhidden (behind_name l)) ≡ Ok (map unhidden ts)
        → ExpandsAt ts (true && is_none m.fault) m us o → EvaluatesAt l.standard hash.place us (true && is_none o.fault) o is_taken p → DecidesAt x l true m is_taken p
    expanded-then ts us is (expanding_idle quiet nothing) evaluates = let both = sym (ap is_none none) ∙ quiet in absurd (cc)
    expanded-then ts us is (expanding_done asked expands) evaluates = evaluated-then ts us is expands evaluates
    expanded-then ts us is (expanding_fails fault asked expands) evaluates = refused-then fault (fails-decides m ts fault is expands) refl refl evaluates

    replaced-then : (ts us : List Token) {n o p : Machine} {is_taken : Bool} → ReplacesAt (behind_name l) hash.place (true && is_none m.fault) m ts n
        → ExpandsAt ts (true && is_none n.fault) n us o → EvaluatesAt l.standard hash.place us (true && is_none o.fault) o is_taken p → DecidesAt x l true m is_taken p
    replaced-then ts us (replacing_idle quiet nothing) expands evaluates = let both = sym (ap is_none none) ∙ quiet in absurd (cc)
    replaced-then ts us (replacing_done asked is) expands evaluates = expanded-then ts us is expands evaluates
    replaced-then ts us {o = o} {p = p} (replacing_fails cause asked is) expands evaluates =
        let why = failure cause hash.place in
        let same = idle-expands refl expands in
        refused-then (fault_of why) (expression hash (Err why) asks hashed (malformed cause is)) same (ap (λ (k : Machine). is_none k.fault) same) evaluates

  -- the three stages, where L has the configuration
  pub decided-by : (L : Bool) {m n o p : Machine} (ts us : List Token) {is_taken : Bool} → (L ≡ true → m.fault ≡ None) → ReplacesAt (behind_name l) hash.place (L && is_none m.fault) m ts n
      → ExpandsAt ts (L && is_none n.fault) n us o → EvaluatesAt l.standard hash.place us (L && is_none o.fault) o is_taken p → DecidesAt x l L m is_taken p
  decided-by true {m} ts us fresh replaces expands evaluates = replaced-then m (fresh refl) ts us replaces expands evaluates
  decided-by false {m} ts us {is_taken} fresh replaces expands evaluates =
      let last = idle-evaluates refl evaluates in
      subst (DecidesAt x l false m is_taken) (sym (last.0 ∙ (idle-expands refl expands ∙ idle-replaces refl replaces))) (deciding_idle refl last.1)

-- ---- the line that has a test

-- the machine goes by what the line decides
decided-as : (x : Context) (l : Line) (c : Conditional) (goes : Machine → Bool → Machine) {asked : Bool} {m n : Machine} {is_taken : Bool}
    → conditional_of l ≡ Some c
    → asked ≡ asks_by m (Some c) → ((b : Bool) → goes m b ≡ step_by m l (Ok b) (Some c))
    → ((fault : Fault) → goes (failed m fault) false ≡ step_by m l (Err fault) (Some c))
    → DecidesAt x l asked m is_taken n → Decided x m l (goes n is_taken)
decided-as x l c goes {m = m} named same ok err (deciding_idle quiet untaken) = record {
  decision = Ok false;
  answers = record { asked = λ asks. let both = sym quiet ∙ (same ∙ (sym (ap (asks_by m) named) ∙ asks)) in absurd (cc); not_asked = λ _. refl };
  is = ap (goes m) untaken ∙ (ok false ∙ ap (step_by m l (Ok false)) (sym named));
}
decided-as x l c goes {m = m} {is_taken = is_taken} named same ok err (deciding_done asked decides) = record {
  decision = Ok is_taken;
  answers = record { asked = λ _. decides; not_asked = λ idle. let both = sym idle ∙ (ap (asks_by m) named ∙ (sym same ∙ asked)) in absurd (cc) };
  is = ok is_taken ∙ ap (step_by m l (Ok is_taken)) (sym named);
}
decided-as x l c goes {m = m} named same ok err (deciding_fails fault asked untaken decides) = record {
  decision = Err fault;
  answers = record { asked = λ _. decides; not_asked = λ idle. let both = sym idle ∙ (ap (asks_by m) named ∙ (sym same ∙ asked)) in absurd (cc) };
  is = ap (goes (failed m fault)) untaken ∙ (err fault ∙ ap (step_by m l (Err fault)) (sym named));
}

-- what opens a section does so by what it decides
pub decided-opening : (x : Context) (l : Line) {test : Test} {asked : Bool} {m n : Machine} {is_taken : Bool} → conditional_of l ≡ Some (Opening test)
    → asked ≡ acts m
    → DecidesAt x l asked m is_taken n → Decided x m l (opened n is_taken)
decided-opening x l {test} named same = decided-as x l (Opening test) opened named same (λ b. refl) (λ fault. refl)

-- and what goes on with one
pub decided-alternative : (x : Context) (l : Line) {test : Test} {asked : Bool} {m n : Machine} {is_taken : Bool} → conditional_of l ≡ Some (Alternative test)
    → asked ≡ acts (next_branch m true m.sections) → DecidesAt x l asked m is_taken n → Decided x m l (next_branch n is_taken n.sections)
decided-alternative x l {test} named same =
    decided-as x l (Alternative test) (λ m b. next_branch m b m.sections) named same (λ b. refl) (λ fault. refl)

-- ---- the # of a line that has one

pub asking-long : (standard : Standard) (names files : List (List ℕ)) (line : List base_token.Token) {test : Test} → test_of (seen_line standard names files line) ≡ Some test → 0 < length line
asking-long standard names files [] named = absurd (cc)
asking-long standard names files (t ∷ ts) named = omega arith

pub hash-line : (standard : Standard) (names files : List (List ℕ)) (line : List base_token.Token) (d : base_token.Token) → 0 < length line → hash_of (seen_line standard names files line) ≡ Some (seen names files (get_or line 0 d))
hash-line standard names files [] d long = absurd (omega (arith, long))
hash-line standard names files (t ∷ ts) d long = refl
