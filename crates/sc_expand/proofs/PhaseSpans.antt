-- What a configuration still uses of the item that it expands.
use Rattle.std.proofs.Common.{◌≡◌, ◌⊎◌, inl, inr, ℕ, suc, ◌+◌, ◌-◌, ◌≤◌, true, true≢false, List, ◌∷◌, ◌++◌, drop, length, length-append, take, sym, ap, subst, ◌∙◌, arith, zero, ◌<◌, Bool, false, [], Option, Some, None, IsTrue, refl, if◌then◌else◌, is_some}
use Rattle.sc_expand.proofs.Behind.{below, below-items, lower-min, same-end, take-least}
use Rattle.sc_expand.proofs.Facts.{drop-drop, length-drop, length-map, one-run, cases_lt, le-ltb, lt-ltb}
use Rattle.sc_expand.proofs.GatherCases.{Closed, case-closed, case-still, case-uncalled-alone, case-uncalled-bare, closed-call, spellings}
use Rattle.sc_expand.proofs.NameRuns.{IsInFront, Named, StateRuns}
use Rattle.sc_expand.proofs.NameUses.{SomeRun, state-runs, Closes, state-closes}
use Rattle.sc_expand.proofs.PassesLaws as placed
use Rattle.sc_expand.proofs.PassesLaws.{passes-end, run-same, placed-within}
use Rattle.sc_expand.proofs.Phases.{comes-by, item-is, Begins, Comes, HasItem, Phase, at_item, at_start, bound_of, last_at, state_now, tokens_from}
use Rattle.sc_expand.proofs.PlainCompletes.{Covers, covers-same, covers-then}
use Rattle.sc_expand.proofs.PlainSettles.{InName}
use Rattle.sc_expand.proofs.Terms.{Cond, End, Expansion, Hidden, HiddenToken, IsConfig, IsPending, IsWithin, Macros, Place, Stores, Uses, behind_at, bottom, case_of, items_at, lower_of, provenance_of, put_out, scanning, seen_at, seen_hidden, stays, CallEnd, Definition, Form, IsFunctionLike, Moves, Provenance, Rest, Sets, State, alone, arguments_for, bare, call_end, call_length, closed, fitted_case, function_like, is_function_like, is_looked_up, object_like, parted, still, unclosed}
use Rattle.sc_expand.specs.FootprintSteps as steps
use Rattle.sc_expand.specs.Plain as plain

-- ---- the steps of one configuration

-- the definition of a function-like macro
pub record Defined (o : Option Definition) : Type 0 where
  pub definition : Definition
  pub is : o ≡ Some definition
  pub parameters : List (List ℕ)
  pub variadic : Option Rest
  pub formed : definition.form ≡ function_like parameters variadic

pub function-of : (o : Option Definition) → IsFunctionLike o → Defined o
function-of None is = absurd is
function-of (Some d) is = by d.form refl is
  where
    by : (f : Form) → d.form ≡ f → IsTrue (is_function_like f) → Defined (Some d)
    by object_like formed is = absurd (cc)
    by (function_like parameters variadic) formed is = record { definition = d; is = refl; parameters = parameters; variadic = variadic; formed = formed }

module _ {P : Type 0} (provenance : Provenance P) (macros : Macros) where
  pub stays-moves : (out rest : List (HiddenToken P)) (t : HiddenToken P) (s : State P) → case_of macros t rest ≡ stays → Moves provenance macros (scanning out (t ∷ rest)) s → s ≡ scanning (out ++ t ∷ []) rest
  stays-moves out rest t _ case (plain.stay _ _ _ is) = refl
  stays-moves out rest t _ case (plain.object _ _ body _ d is made) = absurd (cc)
  stays-moves out rest t _ case (plain.gather _ _ after _ close d arguments template is stands) = absurd (cc)

  pub unclosed-ends : (out rest : List (HiddenToken P)) (t : HiddenToken P) (s : State P) → case_of macros t rest ≡ unclosed → Moves provenance macros (scanning out (t ∷ rest)) s → ⊥
  unclosed-ends out rest t _ case (plain.stay _ _ _ is) = cc
  unclosed-ends out rest t _ case (plain.object _ _ body _ d is made) = cc
  unclosed-ends out rest t _ case (plain.gather _ _ after _ close d arguments template is stands) = cc

  module _ (out rest : List (HiddenToken P)) (t : HiddenToken P) (d : Defined (macros t.spelling)) (looked : is_looked_up t ≡ true) where
    -- a call takes its tokens, whether its arguments fit or not
    pub closed-takes : (source front : List (HiddenToken P)) {done : List (HiddenToken P)} {end : End P} {u : Uses P} (m : ℕ) → t ∷ rest ≡ front ++ source → (front ≡ [] → ⊥) → StateRuns provenance macros source (scanning out (t ∷ rest)) done end u
        → m + length u.taken ≤ length source → call_end (spellings rest) ≡ closed → m + call_length (spellings rest) ≤ length rest
    closed-takes source front {u = u} m is some runs beyond ends =
        let count : length rest ≡ suc (length it.between + suc (length it.after)) = ap length it.call.is ∙ ap suc (length-append it.between (it.close ∷ it.after)) in
        omega (arith, count, few (arguments_for d.parameters (is_some d.variadic) (parted (length d.parameters) 0 it.between)) case, it.long, beyond)
      where
        it : Closed rest
        it = closed-call rest ends

        case : case_of macros t rest ≡ fitted_case d.definition it.close it.after (arguments_for d.parameters (is_some d.variadic) (parted (length d.parameters) 0 it.between))
        case = case-closed macros t d.definition looked d.is d.parameters d.variadic d.formed rest it.between it.close it.after it.call

        closes : Closes provenance macros (case_of macros t rest) source u.taken
        closes = state-closes provenance macros source front out rest t is some runs

        few : (o : Option (List (List (HiddenToken P)))) → case_of macros t rest ≡ fitted_case d.definition it.close it.after o → length source ≤ length it.after + length u.taken
        few None case = subst (λ k. Closes provenance macros k source u.taken) case closes
        few (Some arguments) case = subst (λ k. Closes provenance macros k source u.taken) case closes

    -- a name that no parenthesis closes stays, or its call is opens
    pub uncalled-case : (end : CallEnd) → call_end (spellings rest) ≡ end → (end ≡ closed → ⊥) → (case_of macros t rest ≡ stays) ⊎ (case_of macros t rest ≡ unclosed)
    uncalled-case closed ends opens = absurd (opens refl)
    uncalled-case still ends opens = inr (case-still macros t d.definition looked d.is d.parameters d.variadic d.formed rest ends)
    uncalled-case bare ends opens = inl (case-uncalled-bare macros t d.definition looked d.is d.parameters d.variadic d.formed rest ends)
    uncalled-case alone ends opens = inl (case-uncalled-alone macros t d.definition looked d.is d.parameters d.variadic d.formed rest ends)

-- ---- what stands in a span

-- fewer numbers are below a lower bound
pub below-fewer : (a b : ℕ) (ms : List ℕ) → a ≤ b → length (below a ms) ≤ length (below b ms)
below-fewer a b [] le = omega arith
below-fewer a b (m ∷ ms) le = by (cases_lt m a) (cases_lt m b) (below-fewer a b ms le)
  where
    has : (n : ℕ) → m < n → length (below n (m ∷ ms)) ≡ suc (length (below n ms))
    has n less = ap (λ (t : Bool). length (if t then m ∷ below n ms else below n ms)) (lt-ltb m n less)

    lacks : (n : ℕ) → n ≤ m → length (below n (m ∷ ms)) ≡ length (below n ms)
    lacks n high = ap (λ (t : Bool). length (if t then m ∷ below n ms else below n ms)) (le-ltb m n high)

    by : (m < a) ⊎ (a ≤ m) → (m < b) ⊎ (b ≤ m) → length (below a ms) ≤ length (below b ms) → length (below a (m ∷ ms)) ≤ length (below b (m ∷ ms))
    by (inl low) (inl less) fewer = omega (arith, has a low, has b less, fewer)
    by (inl low) (inr more) fewer = absurd (omega arith)
    by (inr high) (inl less) fewer = omega (arith, lacks a high, has b less, fewer)
    by (inr high) (inr more) fewer = omega (arith, lacks a high, lacks b more, fewer)

module _ {T : Type 0} (s : Sets) (c : List ℕ) where
  pub items-parted : (n : ℕ) (list : List (Cond × T)) → length (items_at s (take n list) c) + length (items_at s (drop n list) c) ≡ length (items_at s list c)
  items-parted zero list = omega arith
  items-parted (suc n) [] = refl
  items-parted (suc n) (x ∷ xs) = by (s.has x.0.0 c) (items-parted n xs)
    where
      by : (b : Bool) → length (items_at s (take n xs) c) + length (items_at s (drop n xs) c) ≡ length (items_at s xs c)
          → length (if b then x.1 ∷ items_at s (take n xs) c else items_at s (take n xs) c) + length (items_at s (drop n xs) c) ≡ length (if b then x.1 ∷ items_at s xs c else items_at s xs c)
      by true same = omega (arith, same)
      by false same = same

  -- what follows the first item stands in the span or behind it
  pub span-count : (b : ℕ) (list : List (Cond × T)) → suc b ≤ length list
      → length (items_at s (drop 1 (take (length list - b) list)) c) + length (below b (behind_at s list c)) ≡ length (items_at s (drop 1 list) c)
  span-count b [] few = absurd (omega (arith, few))
  span-count b (x ∷ xs) few =
      let count : suc (length xs) - b ≡ suc (length xs - b) = omega (arith, few) in
      let front = ap (λ (k : ℕ). length (items_at s (drop 1 (take k (x ∷ xs))) c)) count in
      let behind = below-items s c b (x ∷ xs) (omega (arith, few)) ∙ ap (λ (k : ℕ). length (items_at s (drop k (x ∷ xs)) c)) count in
      omega (arith, front, behind, items-parted (length xs - b) xs)

-- The state runs with what is left of the list, looks up no names but these, and takes none of its
-- own items behind the bound.
pub record IsInside (files : List (List ℕ)) (macros : List ℕ → Macros) (st : Stores) (e : Expansion) (n bound : ℕ) (looked_up : List (List ℕ)) (c : List ℕ) : Type 0 where
  pub left : List (HiddenToken Place)
  pub front : List (HiddenToken Place)
  pub bottom_is : steps.bottom (state_now st e c) ≡ front ++ left
  pub some : IsInFront (state_now st e c) front
  pub done : List (HiddenToken Place)
  pub end : End Place
  pub uses : Uses Place
  pub runs : StateRuns (provenance_of files) (macros c) left (state_now st e c) done end uses
  pub beyond : length (below (lower_of bound n) (behind_at st.sets (bottom e).work c)) + length uses.taken ≤ length left
  pub covers : Covers looked_up uses.looked_up

module _ {files : List (List ℕ)} {macros : List ℕ → Macros} (names : List (List ℕ)) (within : (c : List ℕ) → IsWithin names (macros c)) {old now : Stores} {was e : Expansion} (phase : Phase files macros old now was e)
    (c : List ℕ) (p : IsConfig old.sets.arities c) (live : now.sets.has e.refusals.live.0 c ≡ true) (pending : IsPending (state_now now e c) (last_at now e phase.n c)) where
  abbrev items : List (Cond × Hidden)
  items = drop (phase.at + 1) was.top.work

  abbrev list : List (HiddenToken Place)
  list = seen_at old was.top.work c

  abbrev rest : List (HiddenToken Place)
  rest = seen_at old (drop (phase.at + 1) was.top.work) c

  pub here : placed.IsWithin (provenance_of files) (macros c) list (phase.came c) (length (tokens_from old was phase.next c)) (seen_at now (take phase.outs (put_out e)) c) (state_now now e c) (last_at now e phase.n c)
  here = placed-within (provenance_of files) (macros c) list (phase.came c) (length (tokens_from old was phase.next c)) (seen_at now (take phase.outs (put_out e)) c) (last_at now e phase.n c) (state_now now e c) (phase.place c p live) pending

  -- so many tokens stand behind the item
  long : length here.name.behind ≡ length rest
  long = by phase.begins
    where
      by : Begins files macros old now was e phase.came phase.at phase.next → length here.name.behind ≡ length rest
      by (at_item one missed) = here.long ∙ ap (λ k. length (tokens_from old was k c)) one
      by (at_start is_start none_came empty idle) = absurd (true≢false (sym here.came_is ∙ none_came c))

  abbrev x : InName (provenance_of files) (macros c) list (state_now now e c)
  x = here.name

  run : SomeRun (provenance_of files) (macros c) x.left (state_now now e c)
  run = state-runs (provenance_of files) (macros c) names (within c) x.left x.reaches.front (state_now now e c) x.reaches.bottom_is

  named : Named (provenance_of files) (macros c) x.name x.behind x.out run.done run.end x.reaches.taken run.uses
  named = x.reaches.back run.done run.end run.uses run.runs

  -- the name and what stands behind it are the list's last tokens
  stands-at : (t : HiddenToken Place) (g : ℕ) → t ∷ rest ≡ drop g list → x.name ∷ x.behind ≡ t ∷ rest
  stands-at t g is = let one = passes-end (provenance_of files) (macros c) x.passes in same-end one.0 g list (x.name ∷ x.behind) (t ∷ rest) one.1 is (ap suc long)

  -- ---- the item

  item : HasItem old was phase.at c
  item = phase.has c p here.came_is

  abbrev t : HiddenToken Place
  t = seen_hidden old.names old.hides item.item.1

  at-item : x.name ∷ x.behind ≡ t ∷ rest
  at-item = item-is files macros old was phase.at c item x.passes long

  pub comes : Comes files macros old was phase.at c
  comes = comes-by files macros old was phase.at c item x.passes long named.runs

  -- it has the name still, or has replaced it
  pub comes-named : ((out : List (HiddenToken Place)) × (state_now now e c ≡ scanning out (seen_hidden old.names old.hides comes.item.1 ∷ rest))) ⊎ (case_of (macros c) (seen_hidden old.names old.hides comes.item.1) rest ≡ stays → ⊥)
  unfolding comes
  comes-named =
      let is = at-item in
      let first : x.name ≡ t = cc in
      let same : x.behind ≡ rest = cc in
      elim x.reaches.named [
        | inl stood ↦ inl (x.out, stood.0 ∙ ap (scanning x.out) is)
        | inr later ↦ elim later [ inl replaces ↦ inr (λ stay. replaces ((λ i. case_of (macros c) (first i) (same i)) ∙ stay)) | inr empty ↦ absurd (empty x.some) ]
      ]

  -- ---- a span

  module _ (size : ℕ) (coming : Comes files macros old was phase.at c) (few : length coming.uses.taken ≤ length (items_at old.sets (take size items) c)) where
    abbrev bound : ℕ
    bound = bound_of was phase.at size

    -- of the items behind the span it has no more left than it had
    fewer : length (below (lower_of bound phase.n) (behind_at now.sets (bottom e).work c)) ≤ length (items_at old.sets (drop (length items - bound) items) c)
    fewer =
        let m = lower_of bound phase.n in
        let least = lower-min bound phase.n in
        let low : bound ≤ length items = omega arith in
        let it = phase.suffix c p live m (omega (arith, least)) in
        let long = length-drop phase.at was.top.work in
        let count = ap length item.first in
        let most = phase.most in
        let far : (phase.at + 1) + (length items - m) ≡ length was.top.work - m = omega (arith, least, low, long, count) in
        let whole : length (below m (behind_at old.sets was.top.work c)) ≡ length (items_at old.sets (drop (length items - m) items) c)
        = below-items old.sets c m was.top.work (omega (arith, least, most)) ∙ ap (λ k. length (items_at old.sets (drop k was.top.work) c)) (sym far) ∙ ap (λ l. length (items_at old.sets l c)) (sym (drop-drop (length items - m) (phase.at + 1) was.top.work)) in
        let less = below-fewer m bound (behind_at old.sets items c) (omega (arith, least)) in
        omega (arith, ap length it.1, length-drop it.0 (below m (behind_at old.sets was.top.work c)), whole, below-items old.sets c m items (omega (arith, least, low)), less, below-items old.sets c bound items low)

    pub inside-span : IsInside files macros now e phase.n bound coming.uses.looked_up c
    inside-span =
        let end = passes-end (provenance_of files) (macros c) coming.passes in
        let uses = (one-run (provenance_of files) (macros c) coming.runs named.later run.end named.uses (run-same (provenance_of files) (macros c) (stands-at (seen_hidden old.names old.hides coming.item.1) end.0 end.1) named.runs)).uses in
        let took : length coming.uses.taken ≡ length x.reaches.taken + length run.uses.taken = ap (λ (u : Uses Place). length u.taken) uses ∙ (ap length named.taken_is ∙ length-append x.reaches.taken run.uses.taken) in
        let stood : length x.behind ≡ length x.reaches.taken + length x.left = ap length x.reaches.stands ∙ length-append x.reaches.taken x.left in
        let count : length x.behind ≡ length (items_at old.sets items c) = long ∙ length-map (items_at old.sets items c) (seen_hidden old.names old.hides) in
        let parts = items-parted old.sets c (length items - bound) items in
        let taken : length coming.uses.taken ≤ length (items_at old.sets (take (length items - bound) items) c) = subst (λ l. length coming.uses.taken ≤ length (items_at old.sets l c)) (take-least size items) few in
        record {
          left = x.left;
          front = x.reaches.front;
          bottom_is = x.reaches.bottom_is;
          some = x.some;
          done = run.done;
          end = run.end;
          uses = run.uses;
          runs = run.runs;
          beyond = omega (arith, fewer, took, stood, count, parts, taken);
          covers = covers-then (covers-same (ap (λ (u : Uses Place). u.looked_up) uses)) named.covers;
        }
