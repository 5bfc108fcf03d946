-- What taking a name comes to, by what its parts did.
use Rattle.std.proofs.Common.{refl, ◌∙◌, ◌≡◌, ◌∷◌, ◌++◌, ◌&&◌, ℕ, Bool, true, false, List, [], All, None, Some, Result, Ok, Err, ap, sym, subst, length, take, get_or, zero, suc, ◌<◌, true≢false, map, append-nil, ◌≤◌, arith, if◌then◌else◌, OnOk, codes, Option, is_some}
use Rattle.c11_macros.specs.Call.{Call, call_of}
use Rattle.c11_macros.specs.Expansion as expansion
use Rattle.sc_expand.proofs.Facts.{All-head, and-false, last-stays}
use Rattle.sc_expand.proofs.Terms.{Expansion, KeepsLists, Case, Comes, Cond, Definition, Failure, Form, Gathers, HiddenToken as Hidden, IsCond, IsConfig, Keeps, Macros, Place, Provenance, Replaces, Sets, Step, Stores, View, called, case_of, function_like, has_first, is_function_like, is_function_named, is_last_name, is_looked_up, items_at, misfit, object_like, object_result, replaced, seen_at, seen_hidden, state_by, state_of, unclosed, Rest, call_case, defined_case, form_case, looked_up_case, same_bytes, stays}
use Rattle.sc_expand.specs.Gather as gathers
use Rattle.sc_expand.specs.Open.{Waits, alone, open_call}
use Rattle.sc_expand.specs.Plain.{Moves, State, Waiting, bad_object, gather, gathered, object, scanning, stay}
use Rattle.sc_expand.specs.Taking as taking
use Rattle.sc_expand.specs.Turn as turn
use Rattle.sc_expand.specs.Turn.{At, EndsBy, IsDecided, Turn, ended, fails, moved, refused, waits}
use Rattle.sc_subst.specs.declared.hidden.Hidden as declared

module _ {P : Type 0} (macros : Macros) (t : Hidden P) where
  pub case-hidden : (rest : List (Hidden P)) → is_looked_up t ≡ false → case_of macros t rest ≡ stays
  case-hidden rest not = ap (λ b. looked_up_case macros b t.spelling rest) not

  -- a name as its definition says
  pub case-defined : (rest : List (Hidden P)) (o : Option Definition) → is_looked_up t ≡ true → macros t.spelling ≡ o → case_of macros t rest ≡ defined_case o rest
  case-defined rest o looked is = ap (λ b. looked_up_case macros b t.spelling rest) looked ∙ ap (λ o. defined_case o rest) is

  pub case-undefined : (rest : List (Hidden P)) → is_looked_up t ≡ true → macros t.spelling ≡ None → case_of macros t rest ≡ stays
  case-undefined rest looked is = case-defined rest None looked is

  module _ (d : Definition) (looked : is_looked_up t ≡ true) (is : macros t.spelling ≡ Some d) where
    pub case-formed : (rest : List (Hidden P)) (form : Form) → d.form ≡ form → case_of macros t rest ≡ form_case d form rest
    case-formed rest form formed = case-defined rest (Some d) looked is ∙ ap (λ f. form_case d f rest) formed

    pub case-object : (rest : List (Hidden P)) → d.form ≡ object_like → case_of macros t rest ≡ replaced d
    case-object rest formed = case-formed rest object_like formed

    module _ (parameters : List (List ℕ)) (variadic : Option Rest) (formed : d.form ≡ function_like parameters variadic) where
      -- nothing follows the name
      pub case-alone : case_of macros t [] ≡ stays
      case-alone = case-formed [] (function_like parameters variadic) formed

      -- another token than ( follows it
      pub case-bare : (u : Hidden P) (us : List (Hidden P)) → same_bytes u.spelling (codes "(") ≡ false → case_of macros t (u ∷ us) ≡ stays
      case-bare u us other = case-formed (u ∷ us) (function_like parameters variadic) formed ∙ ap (λ b. if b then call_case d parameters (is_some variadic) (call_of (length parameters) zero us) else stays) other

      module _ (u : Hidden P) (us : List (Hidden P)) (opens : same_bytes u.spelling (codes "(") ≡ true) where
        pub case-call : (o : Option (Call P)) → call_of (length parameters) zero us ≡ o → case_of macros t (u ∷ us) ≡ call_case d parameters (is_some variadic) o
        case-call o call =
            case-formed (u ∷ us) (function_like parameters variadic) formed
            ∙ (ap (λ b. if b then call_case d parameters (is_some variadic) (call_of (length parameters) zero us) else stays) opens ∙ ap (call_case d parameters (is_some variadic)) call)

        pub case-open : call_of (length parameters) zero us ≡ None → case_of macros t (u ∷ us) ≡ unclosed
        case-open none = case-call None none

pub on-ok : {A E P Q : Type 0} (r : Result A E) → (P → Q) → OnOk r P → OnOk r Q
on-ok (Ok a) f h = f h
on-ok (Err e) f h = tt

pub has_first-Keeps : {old new : Sets} → Keeps old new → (list : List (Cond × declared.Hidden)) → All (λ (item : Cond × declared.Hidden). IsCond old item.0.0) list → (c : List ℕ) → IsConfig old.arities c → has_first new list c ≡ has_first old list c
has_first-Keeps keeps [] own c listed = refl
has_first-Keeps {old} {new} keeps (x ∷ xs) own c listed = keeps.at x.0.0 c (All-head (λ (item : Cond × declared.Hidden). IsCond old item.0.0) x xs own) listed

pub same-step : {a b : At} {f g s t : Bool} {m n : List (Hidden Place)} → a ≡ b → f ≡ g → s ≡ t → m ≡ n
    → (let one : Step = record { at = a; first = f; stays = s; made = m } in one) ≡ record { at = b; first = g; stays = t; made = n }
same-step p q r u = λ i. record { at = p i; first = q i; stays = r i; made = u i }

pub state-scanning : (v : View) (ws : List (Hidden Place)) → v.work ≡ ws → v.calls ≡ [] → scanning v.out ws ≡ state_of v
state-scanning v ws work calls = sym (ap (λ l. state_by v.out l v.calls) work ∙ ap (state_by v.out ws) calls)

object-form : (f : Form) → is_function_like f ≡ false → f ≡ object_like
object-form object_like is = refl
object-form (function_like ps variadic) is = absurd (cc)

-- ---- what follows the list doesn't decide

pub no-wait : {failure : Failure Place} → fails failure ≡ waits → ⊥
no-wait is = cc

pub last-undefined : (macros : Macros) (t : Hidden Place) (rest : List (Hidden Place)) → macros t.spelling ≡ None → is_last_name macros t rest ≡ false
last-undefined macros t [] is = ap (λ o. is_looked_up t && is_function_named o) is ∙ and-false (is_looked_up t)
last-undefined macros t (u ∷ us) is = refl

pub last-hidden : (macros : Macros) (t : Hidden Place) (rest : List (Hidden Place)) → is_looked_up t ≡ false → is_last_name macros t rest ≡ false
last-hidden macros t [] is = ap (λ b. b && is_function_named (macros t.spelling)) is
last-hidden macros t (u ∷ us) is = refl

module _ (macros : Macros) (out : List (Hidden Place)) (t : Hidden Place) (rest : List (Hidden Place)) where
  -- a name alone stays
  pub decided-by : (k : Case Place) → case_of macros t rest ≡ k → (k ≡ expansion.stays → is_last_name macros t rest ≡ false) → (k ≡ unclosed → ⊥) → Waits macros (scanning out (t ∷ rest)) → ⊥
  decided-by k is last closed (alone _ _ _ one) = absurd (true≢false (sym one ∙ last (sym is ∙ last-stays macros t rest one)))
  decided-by k is last closed (open_call _ _ _ one) = closed (sym is ∙ one)

  pub decided-stays : case_of macros t rest ≡ expansion.stays → is_last_name macros t rest ≡ false → Waits macros (scanning out (t ∷ rest)) → ⊥
  decided-stays is last = decided-by expansion.stays is (λ same. last) (λ no. cc)

  pub decided-object : (d : Definition) → case_of macros t rest ≡ replaced d → Waits macros (scanning out (t ∷ rest)) → ⊥
  decided-object d is = decided-by (replaced d) is (λ no. cc) (λ no. cc)

  pub decided-misfit : (after : List (Hidden Place)) → case_of macros t rest ≡ misfit after → Waits macros (scanning out (t ∷ rest)) → ⊥
  decided-misfit after is = decided-by (misfit after) is (λ no. cc) (λ no. cc)

  pub decided-called : (d : Definition) (arguments : List (List (Hidden Place))) (close : Hidden Place) (after : List (Hidden Place)) → case_of macros t rest ≡ called d arguments close after → Waits macros (scanning out (t ∷ rest)) → ⊥
  decided-called d arguments close after is = decided-by (called d arguments close after) is (λ no. cc) (λ no. cc)

module _ (provenance : Provenance Place) (macros : Macros) (t : Hidden Place) (rest : List (Hidden Place)) where
  pub object-comes : (d : Definition) (a b : At) (before after : List (Hidden Place)) (first still : Bool) → is_looked_up t ≡ true → macros t.spelling ≡ Some d → is_function_like d.form ≡ false
      → a.view.work ≡ t ∷ rest → a.view.calls ≡ [] → before ≡ [] → first ≡ true → still ≡ false → Replaces (object_result provenance d t) a b before after
      → Comes provenance macros t rest a (record { at = b; first = first; stays = still; made = after })
  object-comes d a b before after first still looked is formed work calls none f s (taking.put_in body ok same made) =
      taking.put d body (case-object macros t d looked is rest (object-form d.form formed)) ok (same-step same f s (made ∙ ap (λ l. l ++ body) none))
  object-comes d a b before after first still looked is formed work calls none f s (taking.refused failure err live ends) =
      let case = case-object macros t d looked is rest (object-form d.form formed) in
      let here = state-scanning a.view (t ∷ rest) work calls in
      taking.ended (fails failure) (subst (λ s. EndsBy provenance macros a.whole s (fails failure)) here (refused failure (bad_object a.view.out rest t d failure case err) (λ whole. decided-object macros a.view.out t rest d case)))
      (record { live = live; ends = ends; view = λ no. absurd (no-wait no) }) (λ no. absurd (no-wait no))

  pub called-comes : (a b now : At) (uncalled first still : Bool) (made : List (Hidden Place)) → now ≡ b → a.live ≡ true → (b.live ≡ true → first ≡ uncalled) → still ≡ uncalled → made ≡ []
      → Gathers provenance macros t rest a b uncalled → Comes provenance macros t rest a (record { at = now; first = first; stays = still; made = made })
  called-comes a b now uncalled first still made is live f s m (gathers.uncalled case last same) =
      taking.kept case last (same-step (is ∙ same) (f (ap (λ (x : At). x.live) same ∙ live)) s m)
  called-comes a b now uncalled first still made is live f s m (gathers.taken_out d arguments close after template case stands same) =
      taking.taken_out d arguments close after template case stands (same-step (is ∙ same) (f (ap (λ (x : At). x.live) same ∙ live)) s m)
  called-comes a b now uncalled first still made is live f s m (gathers.ended end ends e) =
      taking.ended end ends (record { live = ap (λ (x : At). x.live) is ∙ e.live; ends = ap (λ (x : At). x.ends) is ∙ e.ends; view = λ w. ap (λ (x : At). x.view) is ∙ e.view w }) (λ w. (s, m))

-- ---- the end of a turn

-- the name is no longer first: it is put out where it stays, and what replaces it is before what
-- was left
pub record Ends (t x : Hidden Place) (left : List (Hidden Place)) (s : Step) (b : At) : Type 0 where
  pub live : b.live ≡ s.at.live
  pub ends : b.ends ≡ s.at.ends
  pub out : b.view.out ≡ s.at.view.out ++ (if s.stays then t ∷ [] else [])
  pub calls : b.view.calls ≡ s.at.view.calls
  pub work : b.view.work ≡ s.made ++ left
  pub first : s.at.view.work ≡ (if s.first then x ∷ left else left)

state-is : (v : View) (out ws : List (Hidden Place)) (calls : List (Waiting Place)) → v.out ≡ out → v.work ≡ ws → v.calls ≡ calls → state_by out ws calls ≡ state_of v
state-is v out ws calls o w c = sym (ap (λ l. state_by l v.work v.calls) o ∙ (ap (λ l. state_by out l v.calls) w ∙ ap (state_by out ws) c))

module _ (provenance : Provenance Place) (macros : Macros) (t x : Hidden Place) (rest left : List (Hidden Place)) (a b : At) (live : a.live ≡ true) (work : a.view.work ≡ t ∷ rest) (calls : a.view.calls ≡ []) where
  same-left : a.view.work ≡ x ∷ left → left ≡ rest
  same-left is = let both : x ∷ left ≡ t ∷ rest = sym is ∙ work in cc

  few : (l : List (Waiting Place)) (m : List (Waiting Place)) → l ≡ m → length m ≤ 1 → length l ≤ 1
  few l m is h = subst (λ l. length l ≤ 1) (sym is) h

  begins : (s : State Place) → Moves provenance macros (scanning a.view.out (t ∷ rest)) s → Moves provenance macros (state_of a.view) s
  begins s m = subst (λ u. Moves provenance macros u s) (state-scanning a.view (t ∷ rest) work calls) m

  decided : IsDecided a.whole macros (scanning a.view.out (t ∷ rest)) → IsDecided a.whole macros (state_of a.view)
  decided free = subst (IsDecided a.whole macros) (state-scanning a.view (t ∷ rest) work calls) free

  pub comes-turn : (s : Step) → Comes provenance macros t rest a s → Ends t x left s b → Turn provenance macros a b true
  comes-turn s (taking.kept case last same) ends =
      let e = subst (λ s. Ends t x left s b) same ends in
      moved live (e.live ∙ live) e.ends (decided (λ whole. decided-stays macros a.view.out t rest case (last whole)))
      (begins (state_of b.view) (subst (λ u. Moves provenance macros (scanning a.view.out (t ∷ rest)) u)
      (state-is b.view (a.view.out ++ t ∷ []) rest [] e.out (e.work ∙ same-left e.first) (e.calls ∙ calls)) (stay a.view.out rest t case)))
      (few b.view.calls [] (e.calls ∙ calls) (omega arith))
  comes-turn s (taking.put d body case ok same) ends =
      let e = subst (λ s. Ends t x left s b) same ends in
      moved live (e.live ∙ live) e.ends (decided (λ whole. decided-object macros a.view.out t rest d case))
      (begins (state_of b.view) (subst (λ u. Moves provenance macros (scanning a.view.out (t ∷ rest)) u)
      (state-is b.view a.view.out (body ++ rest) [] (e.out ∙ append-nil a.view.out) (e.work ∙ ap (λ l. body ++ l) (same-left e.first)) (e.calls ∙ calls)) (object a.view.out rest body t d case ok)))
      (few b.view.calls [] (e.calls ∙ calls) (omega arith))
  comes-turn s (taking.taken_out d arguments close after template case stands same) ends =
      let e = subst (λ s. Ends t x left s b) same ends in
      let w = gathered provenance d t arguments close template in
      moved live (e.live ∙ live) e.ends (decided (λ whole. decided-called macros a.view.out t rest d arguments close after case))
      (begins (state_of b.view) (subst (λ u. Moves provenance macros (scanning a.view.out (t ∷ rest)) u)
      (state-is b.view a.view.out after (w ∷ []) (e.out ∙ append-nil a.view.out) (e.work ∙ sym e.first) e.calls) (gather a.view.out rest after t close d arguments template case stands)))
      (few b.view.calls (w ∷ []) e.calls (omega arith))
  comes-turn s (taking.ended end by e first) ends = ended end live (ends.live ∙ e.live) (ends.ends ∙ e.ends) by

-- a configuration that begins to wait has what it had
pub comes-waits : (provenance : Provenance Place) (macros : Macros) (t : Hidden Place) (rest : List (Hidden Place)) (a : At) (s : Step) → Comes provenance macros t rest a s → a.ends.waiting ≡ false → s.at.ends.waiting ≡ true
    → (s.at.view ≡ a.view) × ((s.stays ≡ false) × (s.made ≡ []))
comes-waits provenance macros t rest a s (taking.kept case last same) was now = absurd (true≢false (sym now ∙ (ap (λ (s : Step). s.at.ends.waiting) same ∙ was)))
comes-waits provenance macros t rest a s (taking.put d body case ok same) was now = absurd (true≢false (sym now ∙ (ap (λ (s : Step). s.at.ends.waiting) same ∙ was)))
comes-waits provenance macros t rest a s (taking.taken_out d arguments close after template case stands same) was now = absurd (true≢false (sym now ∙ (ap (λ (s : Step). s.at.ends.waiting) same ∙ was)))
comes-waits provenance macros t rest a s (taking.ended (fails failure) by e first) was now = absurd (true≢false (sym now ∙ (ap (λ (x : turn.Ends). x.waiting) e.ends ∙ was)))
comes-waits provenance macros t rest a s (taking.ended waits by e first) was now = (e.view refl, first refl)

-- the first token of a list, and those behind it
pub seen-first : (st : Stores) (first : Cond × declared.Hidden) (list : List (Cond × declared.Hidden)) (c : List ℕ)
    → seen_at st (first ∷ list) c ≡ (if st.sets.has first.0.0 c then seen_hidden st.names st.hides first.1 ∷ seen_at st list c else seen_at st list c)
seen-first st first list c = by (st.sets.has first.0.0 c)
  where
    by : (b : Bool) → map (seen_hidden st.names st.hides) (if b then first.1 ∷ items_at st.sets list c else items_at st.sets list c) ≡ (if b then seen_hidden st.names st.hides first.1 ∷ seen_at st list c else seen_at st list c)
    by true = refl
    by false = refl

-- a list with one item at most, of which this is the next: none came before it
pub none-before : {T : Type 0} (s : Sets) (xs : List (Cond × T)) (i : ℕ) (x : Cond × T) (c : List ℕ) → i < length xs → x ≡ get_or xs i x → s.has x.0.0 c ≡ true → length (items_at s xs c) ≤ 1
    → (items_at s (take i xs) c ≡ []) × (length (items_at s xs c) ≡ 1)
none-before s [] i x c within is has one = absurd (omega (arith, within))
none-before s (y ∷ ys) zero x c within is has one =
    let here : s.has y.0.0 c ≡ true = ap (λ p. s.has p.0.0 c) (sym is) ∙ has in
    (refl, by (s.has y.0.0 c) here one)
  where
    by : (b : Bool) → b ≡ true → length (if b then y.1 ∷ items_at s ys c else items_at s ys c) ≤ 1 → length (if b then y.1 ∷ items_at s ys c else items_at s ys c) ≡ 1
    by true h le = omega (arith, le)
    by false h le = absurd (true≢false (sym h))
none-before s (y ∷ ys) (suc i) x c within is has one = by (s.has y.0.0 c) one (λ le. none-before s ys i x c (omega (arith, within)) is has le)
  where
    by : (b : Bool) → length (if b then y.1 ∷ items_at s ys c else items_at s ys c) ≤ 1
        → (length (items_at s ys c) ≤ 1 → (items_at s (take i ys) c ≡ []) × (length (items_at s ys c) ≡ 1))
        → ((if b then y.1 ∷ items_at s (take i ys) c else items_at s (take i ys) c) ≡ []) × (length (if b then y.1 ∷ items_at s ys c else items_at s ys c) ≡ 1)
    by false le later = later le
    by true le later = (let two = (later (omega (arith, le))).1 in absurd (omega (arith, two, le)))

-- ---- steps that keep the lists below, what was put out and the tokens of the list on top

pub lists-same : (e : Expansion) → KeepsLists e e
lists-same e = record { below = refl; rest = refl; out = refl; tokens = refl }

pub lists-then : {was mid now : Expansion} → KeepsLists was mid → KeepsLists mid now → KeepsLists was now
lists-then one two = record { below = two.below ∙ one.below; rest = two.rest ∙ one.rest; out = two.out ∙ one.out; tokens = two.tokens ∙ one.tokens }
