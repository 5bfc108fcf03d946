-- What the loop keeps at a configuration of a list with an open end: it stands between two names of
-- the list, or in the expansion of one.
use Rattle.std.proofs.Common.{◌≡◌, List, [], ◌∷◌, ◌++◌, append-nil, length, refl, sym, ap, ◌∙◌, subst, arith, ℕ}
use Rattle.c11_macros.specs.Runs.{Passes, begins, goes_on, Runs, Settles, Uses, whole, open_end, IsHeld, held, fails, over, waits}
use Rattle.sc_expand.proofs.NameRuns.{IsInFront, NameReaches, fails-runs, name-move, name-over, name-start, name-waits, tail-is}
use Rattle.sc_expand.proofs.PlainTurns.{Pending, under}
use Rattle.sc_expand.proofs.Terms.{Fails, Failure, HiddenToken as Hidden, Macros, Moves, Provenance, State, expanding, scanning, waiting, HiddenToken, Place, Waiting, state_by}
use Rattle.sc_expand.specs.Open.{LeadsOn, Waits, alone, no_step, open_call, step}
use Rattle.sc_expand.specs.Plain as plain

module _ {P : Type 0} (provenance : Provenance P) (macros : Macros) where
  -- a name is being expanded
  pub record InName (source : List (Hidden P)) (s : State P) : Type 0 where
    pub out : List (Hidden P)
    pub name : Hidden P
    pub behind : List (Hidden P)
    pub passes : Passes provenance macros source out (name ∷ behind)
    pub left : List (Hidden P)
    pub reaches : NameReaches provenance macros name behind out s left
    pub some : IsInFront s reaches.front

  pub data Opens (source : List (Hidden P)) : State P → Type 0 where
    between : {out work : List (Hidden P)} → Passes provenance macros source out work → Opens source (scanning out work)
    inside : {s : State P} → InName source s → Opens source s

  -- ---- something is left

  pub no-moves : {s t : State P} → Moves provenance macros s t → (out : List (Hidden P)) → s ≡ scanning out [] → ⊥
  no-moves (plain.stay _ rest t is) out e = cc
  no-moves (plain.object _ rest body t d is made) out e = cc
  no-moves (plain.gather _ rest after t close d arguments template is stands) out e = cc
  no-moves (plain.enter _ work list w n others is) out e = cc
  no-moves (plain.leave _ work list w n) out e = cc
  no-moves (plain.replace _ work body w all made) out e = cc
  no-moves (plain.inside _ work w n m) out e = cc

  pub no-fails : {s : State P} {failure : Failure P} → Fails provenance macros s failure → (out : List (Hidden P)) → s ≡ scanning out [] → ⊥
  no-fails (plain.bad_object _ rest t d failure is made) out e = cc
  no-fails (plain.open_call _ rest t is) out e = cc
  no-fails (plain.miscounted _ rest after t is) out e = cc
  no-fails (plain.bad_stringize _ rest after t close d arguments failure is hash) out e = cc
  no-fails (plain.bad_paste _ work w failure all made) out e = cc
  no-fails (plain.inside_fails _ work w n inner) out e = cc

  first-name : (source out work : List (Hidden P)) → Passes provenance macros source out work → (work ≡ [] → ⊥) → InName source (scanning out work)
  first-name source out [] p some = absurd (some refl)
  first-name source out (t ∷ rest) p some =
      let r = name-start provenance macros t rest out in record {
        out = out;
        name = t;
        behind = rest;
        passes = p;
        left = rest;
        reaches = r;
        some = λ none. let same = r.bottom_is ∙ ap (λ l. l ++ rest) none in omega (arith, ap length same);
      }

  in-name : (source : List (Hidden P)) (s : State P) → Opens source s → ((out : List (Hidden P)) → s ≡ scanning out [] → ⊥) → InName source s
  in-name source _ (between {out} {work} p) some = first-name source out work p (λ none. some out (ap (scanning out) none))
  in-name source s (inside x) some = x

  -- ---- a step

  -- nothing of the name is left, or it is being expanded, with as many tokens behind it and left
  pub data Stood (source before behind left : List (Hidden P)) (t : Hidden P) : State P → Type 0 where
    over_now : {done : List (Hidden P)} (u : Uses P) → Runs provenance macros (t ∷ []) behind done (over left) u → Stood source before behind left t (scanning (before ++ done) left)
    going : {s : State P} (x : InName source s) → x.out ≡ before → length x.behind ≡ length behind → length x.left ≡ length left → Stood source before behind left t s

  pub stood : (source before behind left : List (Hidden P)) (t : Hidden P) (s : State P) → Passes provenance macros source before (t ∷ behind) → NameReaches provenance macros t behind before s left → Stood source before behind left t s
  stood source before behind left t (waiting out work w) p r = going (record { out = before; name = t; behind = behind; passes = p; left = left; reaches = r; some = tt }) refl refl refl
  stood source before behind left t (expanding out work w n s) p r = going (record { out = before; name = t; behind = behind; passes = p; left = left; reaches = r; some = tt }) refl refl refl
  stood source before behind left t (scanning out work) p r = by r.front refl
    where
      by : (front : List (Hidden P)) → r.front ≡ front → Stood source before behind left t (scanning out work)
      by [] none =
          let same : work ≡ left = r.bottom_is ∙ ap (λ l. l ++ left) none in
          let n = name-over provenance macros t behind before out work left r same in
          subst (λ (z : List (Hidden P) × List (Hidden P)). Stood source before behind left t (scanning z.0 z.1)) (λ i. ((sym n.done_is ∙ append-nil out) i, sym same i)) (over_now n.uses n.runs)
      by (x ∷ xs) is = going (record { out = before; name = t; behind = behind; passes = p; left = left; reaches = r; some = λ none. cc }) refl refl refl

  stands : {source before behind left : List (Hidden P)} {t : Hidden P} {s : State P} → Passes provenance macros source before (t ∷ behind) → Stood source before behind left t s → Opens source s
  stands p (over_now u r) = between (goes_on u p r)
  stands p (going x from long own) = inside x

  -- ---- from the first step on

  pub opens-start : (source : List (Hidden P)) → Opens source (scanning [] source)
  opens-start source = between begins

  pub opens-move : (source : List (Hidden P)) (s t : State P) → Opens source s → Moves provenance macros s t → (Waits macros s → ⊥) → Opens source t
  opens-move source s t opens m free =
      let x = in-name source s opens (no-moves m) in
      let r = name-move provenance macros x.name x.behind x.out x.left s t x.reaches m free x.some in
      stands x.passes (stood source x.out x.behind r.0 x.name t x.passes r.1)

  pub opens-leads : (source : List (Hidden P)) (s t : State P) → Opens source s → LeadsOn provenance macros s t → Opens source t
  opens-leads source s _ opens no_step = opens
  opens-leads source s t opens (step {t = later} free m more) = opens-leads source later t (opens-move source s later opens m free) more

  pub opens-fail : (source : List (Hidden P)) (s : State P) (failure : Failure P) → Opens source s → Fails provenance macros s failure → (Waits macros s → ⊥) → IsHeld provenance macros source failure
  opens-fail source s failure opens f free =
      let x = in-name source s opens (no-fails f) in
      let q = fails-runs provenance macros x.left x.reaches.front s failure f free x.reaches.bottom_is x.some in
      let n = x.reaches.back q.0 (fails failure) q.1 q.2 in
      held n.uses x.passes n.runs

  pub opens-end : (source out : List (Hidden P)) → Opens source (scanning out []) → Settles provenance macros source out []
  opens-end source out (between p) = whole p
  opens-end source out (inside x) = absurd (x.some (none-front x.reaches.front x.left x.reaches.bottom_is))
    where
      none-front : (front left : List (Hidden P)) → [] ≡ front ++ left → front ≡ []
      none-front [] left is = refl
      none-front (y ∷ ys) left is = absurd (cc)

  pub no-waits : {s : State P} → Waits macros s → (out : List (Hidden P)) → s ≡ scanning out [] → ⊥
  no-waits (alone _ rest t is) out e = cc
  no-waits (open_call _ rest t is) out e = cc

  -- the name waits, and its run has put this out
  pub record HasWaited {source : List (Hidden P)} {s : State P} (x : InName source s) (out : List (Hidden P)) : Type 0 where
    pub done : List (Hidden P)
    pub name : Hidden P
    pub rest : List (Hidden P)
    pub uses : Uses P
    pub runs : Runs provenance macros (x.name ∷ []) x.behind done (waits name rest) uses
    pub is : out ≡ x.out ++ done
    -- what it has left was made, and is then the list's
    pub made : List (Hidden P)
    pub front : x.reaches.front ≡ name ∷ made
    pub stands : rest ≡ made ++ x.left
    pub takes : uses.taken ≡ x.reaches.taken

  abbrev waited-at : {source : List (Hidden P)} (out rest : List (Hidden P)) (g : Hidden P) (x : InName source (scanning out (g ∷ rest))) → Waits macros (scanning out (g ∷ rest)) → HasWaited x out
  waited-at out rest g x w =
      let n = name-waits provenance macros x.name g x.behind x.out out rest x.left x.reaches x.some w in
      let f = tail-is provenance macros g rest x.reaches.front x.left x.reaches.bottom_is x.some in record {
        done = n.later;
        name = g;
        rest = rest;
        uses = n.uses;
        runs = n.runs;
        is = sym (append-nil out) ∙ n.done_is;
        made = f.0;
        front = f.2;
        stands = f.1;
        takes = n.taken_is ∙ append-nil x.reaches.taken;
      }

  pub has-waited : {source : List (Hidden P)} {s : State P} (x : InName source s) → Waits macros s → (out : List (Hidden P)) → ((o w : List (Hidden P)) → s ≡ scanning o w → o ≡ out) → HasWaited x out
  has-waited x (alone o rest t is) out told = subst (HasWaited x) (told o (t ∷ rest) refl) (waited-at o rest t x (alone o rest t is))
  has-waited x (open_call o rest t is) out told = subst (HasWaited x) (told o (t ∷ rest) refl) (waited-at o rest t x (open_call o rest t is))

  pub opens-wait : (source out work : List (Hidden P)) → Opens source (scanning out work) → Waits macros (scanning out work) → Settles provenance macros source out work
  opens-wait source out work opens w = by work w (in-name source (scanning out work) opens (no-waits w))
    where
      by : (work : List (Hidden P)) → Waits macros (scanning out work) → InName source (scanning out work) → Settles provenance macros source out work
      by [] w x = absurd (no-waits w out refl)
      by (g ∷ rest) w x =
          let n = waited-at out rest g x w in
          subst (λ l. Settles provenance macros source l (g ∷ rest)) (sym n.is) (open_end n.uses x.passes n.runs)

-- ---- a call that waits for its arguments doesn't wait for what follows the list

module _ {macros : Macros} where
  pub waits-not : {out work : List (HiddenToken Place)} {w : Waiting Place} → Waits macros (waiting out work w) → ⊥
  waits-not it = by it refl
    where
      by : {out work : List (HiddenToken Place)} {w : Waiting Place} {s : State Place} → Waits macros s → s ≡ waiting out work w → ⊥
      by (alone out rest t is) e = cc
      by (open_call out rest t is) e = cc

  pub expands-not : {out work : List (HiddenToken Place)} {w : Waiting Place} {n : ℕ} {s : State Place} → Waits macros (expanding out work w n s) → ⊥
  expands-not it = by it refl
    where
      by : {out work : List (HiddenToken Place)} {w : Waiting Place} {n : ℕ} {r s : State Place} → Waits macros r → r ≡ expanding out work w n s → ⊥
      by (alone out rest t is) e = cc
      by (open_call out rest t is) e = cc

  -- nor does the list around it
  pub under-waits : (ps : List (Pending Place)) (s : State Place) → (Waits macros s → ⊥) → Waits macros (under ps s) → ⊥
  under-waits [] s free w = free w
  under-waits (p ∷ ps) s free w = expands-not w

  pub called-waits : (out work : List (HiddenToken Place)) (calls : List (Waiting Place)) (w : Waiting Place) → Waits macros (state_by out work (calls ++ w ∷ [])) → ⊥
  called-waits out work [] w it = waits-not it
  called-waits out work (k ∷ ks) w it = waits-not it
