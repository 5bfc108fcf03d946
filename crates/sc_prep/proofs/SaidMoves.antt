-- What a line says behind the name of its directive, seen at each configuration.
use Rattle.std.proofs.Common.{◌≡◌, ℕ, ◌&&◌, Bool, true, false, All, List, [], drop, map, Some, Ok, Err, refl, sym, ap, subst, ◌∙◌, if◌then◌else◌, is_none}
use Rattle.sc_model.specs.Token as model
use Rattle.sc_prep.proofs.ExpressionMoves.{and-twice}
use Rattle.sc_prep.proofs.Facts.{All-drop, All-map, drop-map, items_at-under, under}
use Rattle.sc_prep.proofs.Terms.{ArePlaced, Cond, ExpandsAt, Fault, IsCond, IsPlaced, IsTable, Line, Owns, Sets, SimulatesOneOf, Standard, TextExpands, Token, Walk, as_it_stands, begins_with_header, behind_name, expanded, expanding_done, expanding_fails, expanding_idle, failed, items_at, seen, seen_line}
use Rattle.sc_prep.specs.Machine.{Machine, SaysAt, acts, arriving, inert, refused, said}

-- ---- at one configuration

stands-at : (l : Line) (m : Machine) → begins_with_header (behind_name l) ≡ true → (b : Bool) → acts m ≡ b → SaysAt l m (if b then behind_name l else []) m
stands-at l m header true e = said e (as_it_stands header)
stands-at l m header false e = inert e refl

fails-at : (m : Machine) (fault : Fault) → acts m ≡ true → arriving m (Err fault) ≡ failed m fault
fails-at m fault does = ap (λ b. record m { fault = if b then Some fault else m.fault }) does

expands-said : (l : Line) {m n : Machine} (text ts : List model.Token) (asked : Bool) → begins_with_header (behind_name l) ≡ false → asked ≡ acts m → (acts m ≡ true → text ≡ behind_name l)
    → ExpandsAt text asked m ts n → SaysAt l m ts n
expands-said l text ts asked other same is (expanding_idle quiet none) = inert (sym same ∙ quiet) none
expands-said l {m} text ts asked other same is (expanding_done asks expands) =
    let does = sym same ∙ asks in
    said does (expanded other (subst (λ t. TextExpands m.state.macros t (Ok ts)) (is does) expands))
expands-said l {m} text ts asked other same is (expanding_fails fault asks expands) =
    let does = sym same ∙ asks in
    subst (SaysAt l m ts) (fails-at m fault does) (refused fault does (expanded other (subst (λ t. TextExpands m.state.macros t (Err fault)) (is does) expands)))

-- ---- the list of these tokens

pub list-is : (w : Walk) (line behind : List Token) (list : List (Cond × Token)) → behind ≡ drop 2 line → list ≡ under w.acting behind → list ≡ under w.acting (drop 2 line)
list-is w line behind list is same = same ∙ ap (under w.acting) is

pub list-own : (s : Sets) (w : Walk) (line : List Token) (list : List (Cond × Token)) → list ≡ under w.acting (drop 2 line) → Owns s w → All (λ (item : Cond × Token). IsCond s item.0.0) list
list-own s w line list same owns =
    let IsOwn : Cond × Token → Type 0 = λ item. IsCond s item.0.0 in
    subst (All IsOwn) (sym same) (All-map IsOwn (λ t. (w.acting, t)) (drop 2 line) (λ k d h. owns.acting))

pub list-placed : (names : List (List ℕ)) (files : ℕ) (w : Walk) (line : List Token) (list : List (Cond × Token)) → list ≡ under w.acting (drop 2 line) → All (IsPlaced names files) line → ArePlaced names files list
list-placed names files w line list same placed =
    let P : Cond × Token → Type 0 = λ item. IsPlaced names files item.1 in
    subst (All P) (sym same) (All-map P (λ t. (w.acting, t)) (drop 2 line) (All-drop (IsPlaced names files) 2 line placed))

-- ---- at each configuration

module _ (names files : List (List ℕ)) (s : Sets) (w : Walk) (line : List Token) (list : List (Cond × Token)) (same : list ≡ under w.acting (drop 2 line)) (standard : Standard) where
  pub text-at : (c : List ℕ) → map (seen names files) (items_at s list c) ≡ (if s.has w.acting.0 c then behind_name (seen_line standard names files line) else [])
  text-at c = ap (λ xs. map (seen names files) (items_at s xs c)) same ∙ (ap (map (seen names files)) (items_at-under s w.acting (drop 2 line) c) ∙ by (s.has w.acting.0 c))
    where
      by : (b : Bool) → map (seen names files) (if b then drop 2 line else []) ≡ (if b then behind_name (seen_line standard names files line) else [])
      by true = sym (drop-map (seen names files) 2 line)
      by false = refl

  pub stands : Owns s w → IsTable s names w.table → begins_with_header (behind_name (seen_line standard names files line)) ≡ true
      → SimulatesOneOf files names s w names s w (λ c m n. SaysAt (seen_line standard names files line) m (map (seen names files) (items_at s list c)) n)
  stands owns is header = record {
    owns = owns;
    table = is;
    at = λ c m listed simulates.
        let l = seen_line standard names files line in
        record {
          machine = m;
          done = subst (λ ts. SaysAt l m ts m) (sym (text-at c ∙ ap (λ b. if b then behind_name l else []) simulates.acting)) (stands-at l m header (acts m) refl);
          simulates = simulates;
        };
  }

  pub expands-to : {more : List (List ℕ)} {new : Sets} {next : Walk} (ts : List ℕ → List model.Token) → begins_with_header (behind_name (seen_line standard names files line)) ≡ false
      → SimulatesOneOf files names s w more new next (λ c m n. ExpandsAt (map (seen names files) (items_at s list c)) (s.has w.acting.0 c && is_none m.fault) m (ts c) n)
      → SimulatesOneOf files names s w more new next (λ c m n. SaysAt (seen_line standard names files line) m (ts c) n)
  expands-to ts other expands = record {
    owns = expands.owns;
    table = expands.table;
    at = λ c m listed simulates.
        let l = seen_line standard names files line in
        let a = expands.at c m listed simulates in
        record {
          machine = a.machine;
          done = expands-said l (map (seen names files) (items_at s list c)) (ts c) (s.has w.acting.0 c && is_none m.fault) other
              (ap (λ b. b && is_none m.fault) simulates.acting ∙ and-twice m.active (is_none m.fault))
              (λ does. text-at c ∙ ap (λ b. if b then behind_name l else []) (simulates.acting ∙ does)) a.done;
          simulates = a.simulates;
        };
  }
