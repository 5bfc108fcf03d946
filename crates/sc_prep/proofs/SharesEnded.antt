-- What configurations share they share where the runs of those that act have ended.
use Rattle.std.proofs.Common.{◌≡◌, inl, inr, ℕ, ◌+◌, not, Bool, true, false, List, [], ◌∷◌, ◌++◌, length, map, take, append-nil, refl, sym, ap, subst, ◌∙◌}
use Rattle.c11_macros.proofs.OneRun.{one-run}
use Rattle.c11_macros.specs.Hidden.{Hidden, Provenance}
use Rattle.c11_macros.specs.Macros.{Macros}
use Rattle.c11_macros.specs.Runs.{Passes, Runs, Uses, begins, goes_on, over, waits}
use Rattle.sc_base.specs.declared.fault.Fault as base
use Rattle.sc_base.specs.declared.place.Place as base_place
use Rattle.sc_expand.proofs.TakingParts.{none-found}
use Rattle.sc_expand.specs.Moved.{moved, moved_failure}
use Rattle.sc_expand.specs.Seen.{provenance_of, seen_at, seen_failure, stores}
use Rattle.sc_expand.specs.Spans.{behind}
use Rattle.sc_expand.specs.Thin.{IsNth}
use Rattle.sc_prep.proofs.CloseMoves.{awaits-now, both-empty, empty-map, ended-told, held-left, none-now, put-now, told-first, told-now, tokens-told}
use Rattle.sc_prep.proofs.Facts.{IsConfig-Keeps, Keeps-trans, and_parts, length-map, macros_at-Keeps, same_Some}
use Rattle.sc_prep.proofs.KeptItems.{StandsAt, stands-at, still-comes, still-span}
use Rattle.sc_prep.proofs.SharesKept.{SharesWaiting, StaysPut, nth-later, shares-moved}
use Rattle.sc_prep.proofs.Terms.{AwaitsAt, Cond, EndsRuns, HasSettled, IsConfig, IsSettledAt, IsStored, Keeps, Sets, Walk, awaits, fault_of, faults_at, has_none, held_at, is_empty, items_at, macros_at, outside, seen, seen_hidden, seen_place}
use Rattle.sc_prep.specs.Gathered.{StillWaits}
use Rattle.sc_prep.specs.Thin.{AreSpan, ComesTo, KeepsShares, Shares, WillPut, tokens_made}
use Rattle.sc_prep.specs.Thin as thin
use Rattle.sc_subst.specs.declared.hidden.Hidden as base_hidden

-- ---- what still waits is not put out

module _ {P : Type 0} {provenance : Provenance P} {macros : Macros} where
  over-waits : {name t : Hidden P} {rest behind done after : List (Hidden P)} {u v : Uses P} → Runs provenance macros (name ∷ []) rest [] (waits name rest) u
      → t ∷ behind ≡ name ∷ rest
      → Runs provenance macros (t ∷ []) behind done (over after) v → ⊥
  over-waits {name} {t} {rest} {behind} {done} {after} {v = v} waiting at run =
      let first : t ≡ name = cc in
      let second : behind ≡ rest = cc in
      let same = one-run provenance macros waiting done (over after) v
      (subst (λ (p : Hidden P × List (Hidden P)). Runs provenance macros (p.0 ∷ []) p.1 done (over after) v) (λ i. (first i, second i)) run) in
      let ends : waits name rest ≡ over after = same.end in
      cc

  none-passes : {name : Hidden P} {rest : List (Hidden P)} {u : Uses P} → Runs provenance macros (name ∷ []) rest [] (waits name rest) u
      → {ts done left : List (Hidden P)} → ts ≡ name ∷ rest → Passes provenance macros ts done left → left ≡ name ∷ rest
  none-passes waiting is begins = is
  none-passes waiting is (goes_on u before run) = absurd (over-waits waiting (none-passes waiting is before) run)

  never-over : {ts out behind done after : List (Hidden P)} {t : Hidden P} {v : Uses P} → StillWaits provenance macros ts
      → Passes provenance macros ts out (t ∷ behind) → Runs provenance macros (t ∷ []) behind done (over after) v → ⊥
  never-over waiting passes run = over-waits waiting.runs (none-passes waiting.runs waiting.is passes) run

  nothing-left : {ts done left : List (Hidden P)} → ts ≡ [] → Passes provenance macros ts done left → left ≡ []
  nothing-left is begins = is
  nothing-left is (goes_on u before run) = let none = nothing-left is before in absurd (cc)

-- ---- faults

none-held : (s : Sets) (files : List (List ℕ)) (faults : List base.Fault) (c : List ℕ) → has_none s faults c ≡ is_empty (held_at s files faults c)
none-held s files faults c = empty-map seen_failure (faults_at s faults c) ∙ empty-map (moved_failure (seen_place files)) (map seen_failure (faults_at s faults c))

-- ---- runs end

module _ (files names : List (List ℕ)) {old new : Sets} (w next : Walk) (stored : IsStored old names (length files) w)
    (settled : HasSettled old names files w) (ends : EndsRuns names old w new next) where
  keeps : Keeps old new
  keeps = Keeps-trans ends.until (Keeps-trans ends.until_last ends.later)

  -- the walk, without its name
  abbrev there : Walk
  there = record w {
    acting = next.acting;
    runs = record w.runs { gathered = next.runs.gathered; held = next.runs.held; pragmas = next.runs.pragmas; read = next.runs.read };
    prepared = record w.prepared { list = next.prepared.list; faults = next.prepared.faults; live = next.prepared.live };
  }

  abbrev see : base_hidden.Hidden → Hidden base_place.Place
  see = seen_hidden names w.runs.sets

  -- those that don't act
  abbrev others : List ℕ → Bool
  others c = not (old.has w.acting.0 c)

  module _ (c : List ℕ) (listed : IsConfig old.arities c) where
    macros-same : macros_at new names w.table c ≡ macros_at old names w.table c
    macros-same = λ i name. macros_at-Keeps keeps stored.table c name listed i

    -- who acts is refused where a fault held it
    unheld : old.has w.acting.0 c ≡ true → new.has next.prepared.live.0 c ≡ true → has_none old w.runs.held.items c ≡ true
    unheld here live =
        let none = (and_parts (old.has w.prepared.live.0 c) (has_none ends.last ends.faults c) (sym (ends.live.at c (IsConfig-Keeps keeps listed)) ∙ live)).1 in
        let told = ap is_empty (sym (told-now files names w next stored settled ends c listed))
        ∙ (sym (none-now files names w next stored settled ends c listed) ∙ none) in
        let first = empty-map fault_of (held_at ends.middle files (ends.e.faults.items ++ ends.ended) c) ∙ (both-empty _ _ told).0 in
        none-held old files w.runs.held.items c
        ∙ (both-empty (held_at ends.middle files ends.e.faults.items c) (held_at old files w.runs.held.items c)
        (ap is_empty (sym (told-first files names w next stored settled ends c listed
        ∙ ap (λ l. held_at ends.middle files ends.e.faults.items c ++ l) (ended-told files names w next stored settled ends c listed true here))) ∙ first)).1

    -- and of what waited for it nothing would have been put out
    none-comes : old.has w.acting.0 c ≡ true → {at : ℕ} (x : ComesTo old names files w at c) (after : List (Hidden base_place.Place)) → x.end ≡ over after → ⊥
    none-comes here {at} x after is = by (settled c listed here)
      where
        by : IsSettledAt old names files w c → ⊥
        by (inl nothing) =
            let none = nothing-left (none-found (moved (seen_place files)) (seen_at (stores old names w.runs.sets) w.runs.gathered c) nothing) x.passes in
            cc
        by (inr both) = never-over both.1 x.passes
            (subst (λ e. Runs (provenance_of files) (macros_at old names w.table c) (see x.item.1 ∷ [])
            (behind see (provenance_of files) (macros_at old names w.table) old w.runs.gathered at c) x.done e x.uses) is x.runs)

    module _ (idle : old.has w.acting.0 c ≡ false) where
      idle-held : has_none new next.runs.held.items c ≡ has_none old w.runs.held.items c
      idle-held = none-held new files next.runs.held.items c
          ∙ (ap is_empty (held-left files names w next stored settled ends c listed false idle) ∙ sym (none-held old files w.runs.held.items c))

      will-put : {at size : ℕ} {item : Cond × base_hidden.Hidden} (stands : StandsAt old new others w.runs.gathered next.runs.gathered at size item)
          (x : ComesTo old names files w at c) (is : x.item ≡ item) (index n : ℕ) → WillPut old names files w x index n
          → WillPut new names files there (still-comes see (provenance_of files) (macros_at old names w.table) (macros_at new names w.table) old new others ends.gathered.each
          stands c listed (ap not idle) macros-same x is) index n
      will-put stands x is index n p =
          let nothing = tokens-told files names w next stored settled ends c listed false _ idle refl in
          let shown = map (seen names files) (items_at old w.prepared.list c) in
          let put = put-now files names w next stored settled ends c listed p.awaited p.awaits_at
          ∙ (ap (λ ts. shown ++ outside p.awaited ts) nothing ∙ append-nil shown) in
          let long : length (items_at new next.prepared.list c) ≡ length (items_at old w.prepared.list c) =
          sym (length-map (items_at new next.prepared.list c) (seen names files))
          ∙ (ap length put ∙ length-map (items_at old w.prepared.list c) (seen names files)) in
          record {
            after = p.after;
            ends = p.ends;
            made = p.made;
            stands = p.stands;
            awaited = p.awaited;
            awaits_at = subst (AwaitsAt new files next.runs.pragmas c) (ap (awaits p.awaited) nothing)
                (awaits-now files names w next stored settled ends c listed p.awaited p.awaits_at false idle);
            free = p.free;
            outside_is = p.outside_is;
            number_is = p.number_is ∙ sym (λ i. long i + length (outside p.awaited (tokens_made files (x.before ++ take index x.done))));
          }

    -- it has what it had, and a fault still holds it
    still : new.has next.prepared.live.0 c ≡ true → StaysPut old names files w new names files there c
    still live = record {
      nth = λ n i is.
          subst (λ l. IsNth new l c n i) (sym ends.pragmas.puts.is)
          (nth-later keeps c listed w.prepared.list ends.pragmas.puts.kept stored.owns.prepared.list n i is);
      held = by (old.has w.acting.0 c) refl;
    }
      where
        by : (a : Bool) → old.has w.acting.0 c ≡ a → has_none new next.runs.held.items c ≡ true → has_none old w.runs.held.items c ≡ true
        by true here none = unheld here live
        by false idle none = sym (idle-held idle) ∙ none

  module _ (c d : List ℕ) (at_c : IsConfig old.arities c) (at_d : IsConfig old.arities d) (index n m : ℕ) where
    idle-waits : old.has w.acting.0 c ≡ false → old.has w.acting.0 d ≡ false → (at size : ℕ) (span : AreSpan old names files w at size c d)
        → WillPut old names files w span.one index n → WillPut old names files w span.other index m → Shares new names files there c d index n m
    idle-waits one other at size span a b =
        let stands = stands-at old new others size span.one.item c at_c span.one.has (ap not one) at ends.gathered.each span.one.is in
        thin.waits stands.now stands.few
        (still-span see (provenance_of files) (macros_at old names w.table) (macros_at new names w.table) old new others ends.gathered.each
        c d at_c at_d (ap not one) (ap not other) (macros-same c at_c) (macros-same d at_d) span stands)
        stands.below (will-put c at_c one stands span.one refl index n a)
        (will-put d at_d other stands span.other (same_Some span.other.item span.one.item (sym span.other.is ∙ span.one.is)) index m b)

    by-acting : (a b : Bool) → old.has w.acting.0 c ≡ a → old.has w.acting.0 d ≡ b → SharesWaiting old names files w new names files there c d index n m
    by-acting true b one other at size span below x y = absurd (none-comes c at_c one span.one x.after x.ends)
    by-acting false true one other at size span below x y = absurd (none-comes d at_d other span.other y.after y.ends)
    by-acting false false one other at size span below x y = idle-waits one other at size span x y

  pub ended-shares : KeepsShares files names old w files names new next
  ended-shares = record {
    longer = (ends.pragmas.puts.kept, ends.pragmas.puts.is);
    at = λ c d at_c at_d live_c live_d k l simulates_k simulates_l _ _ index n m shares.
        subst (λ (v : Walk). Shares new names files v c d index n m) (sym ends.same)
        (shares-moved old names files w new names files there c d (still c at_c live_c) (still d at_d live_d) index n m
        (by-acting c d at_c at_d index n m (old.has w.acting.0 c) (old.has w.acting.0 d) refl refl) shares);
  }

-- who is not refused where runs end was not before
pub lives-before : {names : List (List ℕ)} {old new : Sets} {w next : Walk} → EndsRuns names old w new next → Keeps old new → (c : List ℕ)
    → IsConfig old.arities c → new.has next.prepared.live.0 c ≡ true → old.has w.prepared.live.0 c ≡ true
lives-before {old = old} {w = w} ends keeps c listed live =
    (and_parts (old.has w.prepared.live.0 c) (has_none ends.last ends.faults c) (sym (ends.live.at c (IsConfig-Keeps keeps listed)) ∙ live)).0
