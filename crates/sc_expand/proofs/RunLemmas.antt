-- What holds at each turn of the loop, from the first to the last.
use Rattle.std.proofs.Common.{◌≡◌, ◌⊎◌, inl, inr, ℕ, ◌<◌, ◌≤◌, Bool, true, false, true≢false, List, [], ◌∷◌, ◌++◌, All, append-nil, length, refl, sym, ap, subst, ◌∙◌, arith, if◌then◌else◌}
use Rattle.sc_expand.proofs.Facts.{All-nil, IsConfig-Keeps, IsConfig-kept, cases_lt}
use Rattle.sc_expand.proofs.KeptLemmas.{rested-left}
use Rattle.sc_expand.proofs.MachineLemmas as told
use Rattle.sc_expand.proofs.MachineLemmas.{IsTold, progress-step, told-progress}
use Rattle.sc_expand.proofs.PlainSettles.{Opens, opens-end, opens-start}
use Rattle.sc_expand.proofs.PlainTurns.{IsTurn, steps_left, turn-le, turn-less}
use Rattle.sc_expand.proofs.SeenLemmas.{Grows-refl}
use Rattle.sc_expand.proofs.Terms.{Cond, Enclosing, Expansion, Frame, Grows, HasEnded, Hidden, HiddenToken, IsApart, IsConfig, IsDone, IsExpansion, IsHeldExpansion, IsNever, IsRested, IsTurned, IsUntouched, IsWithin, KeepsLeft, Macros, Place, Progress, Provenance, PutsOut, Settles, Stands, Stores, Waiting, at, bottom, bottom_by, calls_at, ends, ends_at, expanding, failures_at, gone, left_at, on_top, provenance_of, put_by, put_out, rests, scanning, seen_at, state_by, state_in, state_of, steps, view_at, waiting_at}
use Rattle.sc_expand.proofs.Turning.{puts-nothing, puts-same}
use Rattle.sc_expand.specs.Running as running
use Rattle.sc_expand.specs.Turn as turn
use Rattle.sc_expand.specs.Turn.{At, End, Ends, no_end, with_end}

-- what holds of an expansion that began so, at each configuration
pub record IsRunning (files : List (List ℕ)) (macros : List ℕ → Macros) (old now : Stores) (was e : Expansion) : Type 0 where
  pub held : IsHeldExpansion now (length files) e
  pub told : (c : List ℕ) → IsConfig old.sets.arities c
      → IsTold (provenance_of files) (macros c) (seen_at old was.top.work c) (seen_at now (put_out e) c) (left_at now e c) now c e.below.items (at now e c) (old.sets.has was.refusals.live.0 c)
  pub rest : (c : List ℕ) → IsConfig old.sets.arities c → now.sets.has e.refusals.waiting.0 c ≡ false → seen_at now e.rest c ≡ []
  pub some : All (λ item. IsNever now.sets item.0.0 → ⊥) e.rest
  pub out : PutsOut old now was.refusals.live.0 was.top.out (put_out e)

pub less-le : {a b d : ℕ} → a < b → b ≤ d → a < d
less-le less le = omega arith

-- one after the other puts out
pub puts-then : {old mid new : Stores} {first second : ℕ} {a b d : List (Cond × Hidden)} → Grows old mid → ((c : List ℕ) → IsConfig old.sets.arities c → old.sets.has first c ≡ false → mid.sets.has second c ≡ false)
    → PutsOut old mid first a b → PutsOut mid new second b d → PutsOut old new first a d
puts-then grows fewer p q = record {
  apart = λ c listed refused. q.apart c (IsConfig-Keeps grows.sets listed) (fewer c listed refused) ∙ p.apart c listed refused;
  some = λ some. q.some (p.some some);
}

-- how many steps are left at all configurations
abbrev pub steps_in : (arities : List ℕ) (files : List (List ℕ)) (macros : List ℕ → Macros) (names : List (List ℕ)) → ((c : List ℕ) → IsWithin names (macros c)) → Stores → Expansion → ℕ
steps_in arities files macros names within st e = steps_left arities (provenance_of files) macros names within (λ c. st.sets.has e.refusals.live.0 c) (λ c. state_in st e.below.items (view_at st e.top c) c)

-- ---- the start

module _ (files : List (List ℕ)) (macros : List ℕ → Macros) (old : Stores) (was : Expansion) (held : IsHeldExpansion old (length files) was) (fresh : IsUntouched old.sets was) where
  -- nothing was put out yet
  pub start-state : (c : List ℕ) → state_in old was.below.items (view_at old was.top c) c ≡ scanning [] (seen_at old was.top.work c)
  start-state c =
      let none : calls_at old was.top.calls.items c ≡ [] = ap (λ l. calls_at old l c) fresh.calls in
      let out : seen_at old was.top.out c ≡ [] = ap (λ l. seen_at old l c) fresh.out in
      ap (λ bs. state_in old bs (view_at old was.top c) c) fresh.below ∙ (λ i. state_by (out i) (seen_at old was.top.work c) (none i))

  pub running-start : IsRunning files macros old old was was
  running-start = record {
    held = held;
    told = λ c listed. told_at c listed (old.sets.has was.refusals.live.0 c) refl;
    rest = λ c listed none. ap (λ l. seen_at old l c) fresh.rest;
    some = let Some : Cond × Hidden → Type 0 = λ item. IsNever old.sets item.0.0 → ⊥ in subst (All Some) (sym fresh.rest) (All-nil Some);
    out = subst (PutsOut old old was.refusals.live.0 was.top.out) (sym (ap (λ bs. put_by bs was.top) fresh.below)) (puts-nothing (Grows-refl old) was.refusals.live.0 was.top.out held.top.out);
  }
    where
      ends-none : (c : List ℕ) → IsConfig old.sets.arities c → ends_at old.sets was.refusals c ≡ no_end
      ends-none c listed =
          let failures : failures_at old.sets was.refusals.faults.items c ≡ [] = ap (λ l. failures_at old.sets l c) fresh.faults in
          λ i. record { failures = failures i; waiting = fresh.waiting.none c listed i }

      told_at : (c : List ℕ) → IsConfig old.sets.arities c → (b : Bool) → old.sets.has was.refusals.live.0 c ≡ b
          → IsTold (provenance_of files) (macros c) (seen_at old was.top.work c) (seen_at old (put_out was) c) (left_at old was c) old c was.below.items (at old was c) b
      told_at c listed false refused = told.unasked refused (ends-none c listed)
      told_at c listed true live =
          let none : calls_at old was.top.calls.items c ≡ [] = ap (λ l. calls_at old l c) fresh.calls in
          let few : length (calls_at old was.top.calls.items c) ≤ 1 = subst (λ ws. length ws ≤ 1) (sym none) (omega arith) in
          let stands : Stands old c [] (view_at old was.top c) = on_top few in
          told.going live (ends-none c listed) (subst (λ bs. Stands old c bs (view_at old was.top c)) (sym fresh.below) stands)
          (subst (Opens (provenance_of files) (macros c) (seen_at old was.top.work c)) (sym (start-state c)) (opens-start (provenance_of files) (macros c) (seen_at old was.top.work c)))

-- ---- what is left at the bottom

-- a state that scans the whole list has put out and left what the bottom has
bottom-top : (st : Stores) (c : List ℕ) (o w : List (HiddenToken Place)) (frame : Frame) → state_of (view_at st frame c) ≡ scanning o w → (o ≡ seen_at st frame.out c) × (w ≡ seen_at st frame.work c)
bottom-top st c o w frame is = by (calls_at st frame.calls.items c) is
  where
    by : (ws : List (Waiting Place)) → state_by (seen_at st frame.out c) (seen_at st frame.work c) ws ≡ scanning o w → (o ≡ seen_at st frame.out c) × (w ≡ seen_at st frame.work c)
    by [] is = (cc, cc)
    by (x ∷ xs) is = absurd (cc)

pub bottom-state : (st : Stores) (c : List ℕ) (o w : List (HiddenToken Place)) (below : List Enclosing) (top : Frame) → state_in st below (view_at st top c) c ≡ scanning o w
    → (o ≡ seen_at st (put_by below top) c) × (w ≡ seen_at st (bottom_by below top).work c)
bottom-state st c o w [] top is = bottom-top st c o w top is
bottom-state st c o w (e ∷ es) top is = by (st.sets.has e.call.cond.0 c) is
  where
    by : (b : Bool) → (if b then expanding (seen_at st e.frame.out c) (seen_at st e.frame.work c) (waiting_at st e.call c) e.parameter (state_in st es (view_at st top c) c) else state_of (view_at st e.frame c)) ≡ scanning o w
        → (o ≡ seen_at st e.frame.out c) × (w ≡ seen_at st e.frame.work c)
    by true is = absurd (cc)
    by false is = bottom-top st c o w e.frame is

-- what waits goes on to wait
waits-on : {provenance : Provenance Place} {macros : Macros} {old new : Stores} {c : List ℕ} {below later : List Enclosing} {a b : At} {takes : Bool} → Progress provenance macros old new c below later a b takes → a.ends.waiting ≡ true → b.ends.waiting ≡ true
waits-on (rests still same stays) waits = ap (λ e. e.waiting) same ∙ waits
waits-on (gone was not same) waits = ap (λ e. e.waiting) same ∙ waits
waits-on (steps was now same free move) waits = ap (λ e. e.waiting) same ∙ waits
waits-on {a} (ends end was not same by) waits = ap (λ e. e.waiting) same ∙ kept end
  where
    kept : (end : End) → (with_end a.ends end).waiting ≡ true
    kept (turn.fails failure) = waits
    kept turn.waits = refl

-- ---- what is told at a configuration

module _ {provenance : Provenance Place} {macros : Macros} {source out left : List (HiddenToken Place)} {st : Stores} {c : List ℕ} {below : List Enclosing} {a : At} where
  told-stands : {asked : Bool} → IsTold provenance macros source out left st c below a asked → a.live ≡ true → Stands st c below a.view
  told-stands (told.unasked refused none) live = absurd (true≢false (sym live ∙ refused))
  told-stands (told.going live' none stands opens) live = stands
  told-stands (told.failed failure not one holds) live = absurd (true≢false (sym live ∙ not))
  told-stands (told.waiting not one settles) live = absurd (true≢false (sym live ∙ not))

  pub told-apart : {asked : Bool} → IsTold provenance macros source out left st c below a asked → a.live ≡ true → a.ends.waiting ≡ false
  told-apart (told.unasked refused none) live = ap (λ e. e.waiting) none
  told-apart (told.going live' none stands opens) live = ap (λ e. e.waiting) none
  told-apart (told.failed failure not one holds) live = ap (λ e. e.waiting) one
  told-apart (told.waiting not one settles) live = absurd (true≢false (sym live ∙ not))

  told-refused : {asked : Bool} → asked ≡ false → IsTold provenance macros source out left st c below a asked → a.live ≡ false
  told-refused not (told.unasked refused none) = refused
  told-refused not (told.going live none stands opens) = absurd (true≢false not)
  told-refused not (told.failed failure refused one holds) = refused
  told-refused not (told.waiting refused one settles) = refused

module _ {files : List (List ℕ)} {macros : List ℕ → Macros} {old now : Stores} {was e : Expansion} (grows : Grows old now) (r : IsRunning files macros old now was e) where
  pub running-stands : (c : List ℕ) → IsConfig old.sets.arities c → now.sets.has e.refusals.live.0 c ≡ true → Stands now c e.below.items (view_at now e.top c)
  running-stands c listed live = told-stands (r.told c listed) live

  -- and one that is live does not wait
  pub running-apart : (c : List ℕ) → IsConfig old.sets.arities c → IsApart now.sets e c
  running-apart c listed live = told-apart (r.told c listed) live

  -- one that was refused at first is so still
  pub running-fewer : (c : List ℕ) → IsConfig old.sets.arities c → old.sets.has was.refusals.live.0 c ≡ false → now.sets.has e.refusals.live.0 c ≡ false
  running-fewer c listed refused = told-refused refused (r.told c listed)

  -- each stands in one frame
  pub running-is : IsExpansion now (length files) e
  running-is = record { held = r.held; stands = λ c listed live. running-stands c (IsConfig-kept grows.sets listed) live }

  -- ---- a turn

  module _ (new : Stores) (after : Expansion) (takes : List ℕ → Bool)
      (progress : (c : List ℕ) → IsConfig old.sets.arities c → Progress (provenance_of files) (macros c) now new c e.below.items after.below.items (at now e c) (at new after c) (takes c)) where
    module _ (left : KeepsLeft now new e after) where
      told-later : (c : List ℕ) → IsConfig old.sets.arities c
          → IsTold (provenance_of files) (macros c) (seen_at old was.top.work c) (seen_at new (put_out after) c) (left_at new after c) new c after.below.items (at new after c) (old.sets.has was.refusals.live.0 c)
      told-later c listed =
          let there = IsConfig-Keeps grows.sets listed in
          told-progress (provenance_of files) (macros c) now new c e.below.items after.below.items (seen_at old was.top.work c) (takes c) (progress c listed)
          (λ waits. let apart = running-apart c listed in (sym (left.put c there apart waits), sym (left.left c there apart waits))) (λ none o w is. scanned c listed (ap (λ x. x.waiting) none) o w is) (r.told c listed)
        where
          scanned : (c : List ℕ) → IsConfig old.sets.arities c → now.sets.has e.refusals.waiting.0 c ≡ false → (o w : List (HiddenToken Place)) → state_in now e.below.items (view_at now e.top c) c ≡ scanning o w
              → (o ≡ seen_at now (put_out e) c) × (w ≡ left_at now e c)
          scanned c listed none o w is =
              let q = bottom-state now c o w e.below.items e.top is in
              (q.0, q.1 ∙ ap (λ l. l ++ seen_at now (bottom e).work c) (sym (r.rest c listed none)))

      rest-later : (c : List ℕ) → IsConfig old.sets.arities c → new.sets.has after.refusals.waiting.0 c ≡ false → seen_at new after.rest c ≡ []
      rest-later c listed none = left.others c (IsConfig-Keeps grows.sets listed) none ∙ r.rest c listed (by (now.sets.has e.refusals.waiting.0 c) refl)
        where
          by : (b : Bool) → now.sets.has e.refusals.waiting.0 c ≡ b → b ≡ false
          by true is = absurd (true≢false (sym (waits-on (progress c listed) is) ∙ none))
          by false is = refl

    is-turn : IsTurn old.sets.arities (provenance_of files) macros (λ c. now.sets.has e.refusals.live.0 c) (λ c. new.sets.has after.refusals.live.0 c)
        (λ c. state_in now e.below.items (view_at now e.top c) c) (λ c. state_in new after.below.items (view_at new after.top c) c)
    is-turn = record {
      each = λ c listed live.
          let s = progress-step (provenance_of files) (macros c) now new c e.below.items after.below.items (progress c listed) live (running-stands c listed) in
          (s.0, s.1.step);
    }

    pub running-later : IsHeldExpansion new (length files) after → PutsOut now new e.refusals.live.0 (put_out e) (put_out after) → KeepsLeft now new e after → IsRunning files macros old new was after
    running-later held out left = record { held = held; told = told-later left; rest = rest-later left; some = left.some r.some; out = puts-then grows running-fewer r.out out }

    module _ (names : List (List ℕ)) (within : (c : List ℕ) → IsWithin names (macros c)) where
      pub running-le : steps_in old.sets.arities files macros names within new after ≤ steps_in old.sets.arities files macros names within now e
      running-le = turn-le old.sets.arities (provenance_of files) macros names within (λ c. now.sets.has e.refusals.live.0 c) (λ c. new.sets.has after.refusals.live.0 c)
          (λ c. state_in now e.below.items (view_at now e.top c) c) (λ c. state_in new after.below.items (view_at new after.top c) c) is-turn

      pub running-less : (((c : List ℕ) → IsConfig now.sets.arities c → takes c ≡ true → now.sets.has e.refusals.live.0 c ≡ true → ⊥) → ⊥)
          → steps_in old.sets.arities files macros names within new after < steps_in old.sets.arities files macros names within now e
      running-less some = by (cases_lt (steps_in old.sets.arities files macros names within new after) (steps_in old.sets.arities files macros names within now e))
        where
          falls : (c : List ℕ) → IsConfig old.sets.arities c → takes c ≡ true → now.sets.has e.refusals.live.0 c ≡ true → steps_in old.sets.arities files macros names within new after < steps_in old.sets.arities files macros names within now e
          falls c listed takes_part live =
              turn-less old.sets.arities (provenance_of files) macros names within (λ c. now.sets.has e.refusals.live.0 c) (λ c. new.sets.has after.refusals.live.0 c)
              (λ c. state_in now e.below.items (view_at now e.top c) c) (λ c. state_in new after.below.items (view_at new after.top c) c) is-turn c (record {
                listed = listed;
                here = live;
                moves = λ still. (progress-step (provenance_of files) (macros c) now new c e.below.items after.below.items (progress c listed) still (running-stands c listed)).1.moves takes_part;
              })

          by : (steps_in old.sets.arities files macros names within new after < steps_in old.sets.arities files macros names within now e) ⊎ (steps_in old.sets.arities files macros names within now e ≤ steps_in old.sets.arities files macros names within new after) → steps_in old.sets.arities files macros names within new after < steps_in old.sets.arities files macros names within now e
          by (inl less) = less
          by (inr more_steps) = absurd (some (λ c listed takes_part live.
              let less = falls c (IsConfig-kept grows.sets listed) takes_part live in
              absurd (omega (arith, less, more_steps))))

-- ---- the two parts of a turn

module _ {files : List (List ℕ)} {macros : List ℕ → Macros} {old now : Stores} {was e : Expansion} (grows : Grows old now) (r : IsRunning files macros old now was e)
    (began : IsHeldExpansion old (length files) was) (new : Stores) (after : Expansion) where
  module _ (rested : IsRested now new e after) where
    pub rests-at : (c : List ℕ) → IsConfig old.sets.arities c → Progress (provenance_of files) (macros c) now new c e.below.items after.below.items (at now e c) (at new after c) false
    rests-at c listed = rested.progress (length files) (provenance_of files) (macros c) c r.held (IsConfig-Keeps grows.sets listed)

    pub running-rested : IsRunning files macros old new was after
    running-rested = running-later grows r new after (λ c. false) rests-at (rested.held (length files) r.held) (puts-same rested.grows e.refusals.live.0 e after r.held rested.out)
        (rested-left r.held rested)

    pub rested-le : (names : List (List ℕ)) (within : (c : List ℕ) → IsWithin names (macros c)) → steps_in old.sets.arities files macros names within new after ≤ steps_in old.sets.arities files macros names within now e
    rested-le names within = running-le grows r new after (λ c. false) rests-at names within

  module _ (other : List ℕ → Macros) (same : (c : List ℕ) → IsConfig old.sets.arities c → other c ≡ macros c) {went : Bool} (turned : IsTurned files other now new e after went) where
    pub turned-at : (c : List ℕ) → IsConfig old.sets.arities c → Progress (provenance_of files) (macros c) now new c e.below.items after.below.items (at now e c) (at new after c) (turned.takes c)
    turned-at c listed = subst (λ m. Progress (provenance_of files) m now new c e.below.items after.below.items (at now e c) (at new after c) (turned.takes c)) (same c listed) (turned.progress c (IsConfig-Keeps grows.sets listed))

    pub running-turned : IsRunning files macros old new was after
    running-turned = running-later grows r new after turned.takes turned-at turned.held turned.out turned.left

    pub turned-less : (names : List (List ℕ)) (within : (c : List ℕ) → IsWithin names (macros c)) → went ≡ true → steps_in old.sets.arities files macros names within new after < steps_in old.sets.arities files macros names within now e
    turned-less names within there = running-less grows r new after turned.takes turned-at names within (turned.some there)

-- ---- the end

module _ {files : List (List ℕ)} {macros : List ℕ → Macros} {old now : Stores} {was e : Expansion} (r : IsRunning files macros old now was e) (ended : HasEnded e) where
  pub running-done : (c : List ℕ) → IsConfig old.sets.arities c
      → IsDone (provenance_of files) (macros c) (seen_at old was.top.work c) (seen_at now e.top.out c) (seen_at now e.rest c) (failures_at now.sets e.refusals.faults.items c) (old.sets.has was.refusals.live.0 c)
  running-done c listed = by (r.told c listed)
    where
      work : seen_at now e.top.work c ≡ []
      work = ap (λ l. seen_at now l c) ended.work

      nothing : {a : Ends} → ends_at now.sets e.refusals c ≡ a → a.waiting ≡ false → seen_at now e.rest c ≡ []
      nothing is none = r.rest c listed (ap (λ a. a.waiting) is ∙ none)

      out : seen_at now (put_out e) c ≡ seen_at now e.top.out c
      out = ap (λ bs. seen_at now (put_by bs e.top) c) ended.below

      left : left_at now e c ≡ seen_at now e.rest c
      left = ap (λ bs. seen_at now e.rest c ++ seen_at now (bottom_by bs e.top).work c) ended.below ∙ (ap (λ l. seen_at now e.rest c ++ l) work ∙ append-nil (seen_at now e.rest c))

      by : {asked : Bool} → IsTold (provenance_of files) (macros c) (seen_at old was.top.work c) (seen_at now (put_out e) c) (left_at now e c) now c e.below.items (at now e c) asked
          → IsDone (provenance_of files) (macros c) (seen_at old was.top.work c) (seen_at now e.top.out c) (seen_at now e.rest c) (failures_at now.sets e.refusals.faults.items c) asked
      by (told.unasked refused none) = running.unasked (ap (λ a. a.failures) none) (nothing none refl)
      by (told.failed failure not one holds) = running.refused failure (ap (λ a. a.failures) one) (nothing one refl) holds
      by (told.waiting not one settles) =
          running.settled (ap (λ a. a.failures) one) (subst (λ (p : List (HiddenToken Place) × List (HiddenToken Place)). Settles (provenance_of files) (macros c) (seen_at old was.top.work c) p.0 p.1) (λ i. (out i, left i)) settles)
      by (told.going live none stands opens) =
          let calls : calls_at now e.top.calls.items c ≡ [] = ap (λ l. calls_at now l c) ended.calls in
          let state : state_in now e.below.items (view_at now e.top c) c ≡ scanning (seen_at now e.top.out c) [] =
          ap (λ bs. state_in now bs (view_at now e.top c) c) ended.below ∙ (λ i. state_by (seen_at now e.top.out c) (work i) (calls i)) in
          running.settled (ap (λ a. a.failures) none) (subst (Settles (provenance_of files) (macros c) (seen_at old was.top.work c) (seen_at now e.top.out c)) (sym (nothing none refl))
          (opens-end (provenance_of files) (macros c) (seen_at old was.top.work c) (seen_at now e.top.out c) (subst (Opens (provenance_of files) (macros c) (seen_at old was.top.work c)) state opens)))

  pub running-out : PutsOut old now was.refusals.live.0 was.top.out e.top.out
  running-out = subst (PutsOut old now was.refusals.live.0 was.top.out) (ap (λ bs. put_by bs e.top) ended.below) r.out
