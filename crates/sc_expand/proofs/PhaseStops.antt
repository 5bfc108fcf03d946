-- Where the name that stands first has so many different calls, so many configurations come to one
-- name of the list that no two of them expand alike.
use Rattle.std.proofs.Common.{◌≡◌, ◌⊎◌, inl, inr, ℕ, ◌+◌, ◌≤◌, Bool, true, false, true≢false, List, [], ◌∷◌, All, Option, None, Some, drop, length, refl, sym, ap, subst, ◌∙◌, ◌<◌}
use Rattle.sc_expand.proofs.AlikeRunning.{seen-first, StayAlike, alike-rested, alike-start, alike-turned}
use Rattle.sc_expand.proofs.Facts.{IsConfig-kept, cons-some}
use Rattle.sc_expand.proofs.FootprintLemmas.{pairs-both}
use Rattle.sc_expand.proofs.GatherCases.{case-closed, closed-call, spellings}
use Rattle.sc_expand.proofs.GatherEnds.{end-behind}
use Rattle.sc_expand.proofs.GatherTaking.{function-form}
use Rattle.sc_expand.proofs.MachineLemmas.{IsBelow, IsOnTop, stands-cases}
use Rattle.sc_expand.proofs.PhaseAlike.{pair-alike, same-called}
use Rattle.sc_expand.proofs.PhaseMoves.{Waits, on-top, takes-pending}
use Rattle.sc_expand.proofs.PhasePairs.{phase-turned}
use Rattle.sc_expand.proofs.PhaseSpans.{comes, comes-named}
use Rattle.sc_expand.proofs.PhaseStarts.{phase-ready, phase-rested, phase-start}
use Rattle.sc_expand.proofs.Phases.{Comes, IsReady, Phase, last_at, state_now}
use Rattle.sc_expand.proofs.PlainTables.{entry_names, within-table}
use Rattle.sc_expand.proofs.Rests.{first-is, next-token}
use Rattle.sc_expand.proofs.RunLemmas.{IsRunning, running-fewer, running-stands, running-rested, running-start, running-turned, steps_in, turned-less}
use Rattle.sc_expand.proofs.SeenLemmas.{Grows-refl, Grows-trans, macros_at-Grows}
use Rattle.sc_expand.proofs.Terms.{BranchesFull, Cond, Definition, Expansion, Grows, HasCalls, HasSpansApart, HiddenToken, IsConfig, IsFunctionLike, IsHeldExpansion, IsPending, IsSpan, IsWithin, Macros, OutOfMemory, Place, ReadFault, Stop, StopsApart, StopsAt, Stores, TakesName, View, call_end, call_end_at, call_places, calls_at, case_of, closed, fitted_case, has_first, is_looked_up, no_view, provenance_of, scanning, seen_at, seen_hidden, state_by, state_in, stays, tokens_in, view_at, IsRested, IsTable, IsTurned, IsUntouched, MacroTable, macros_at}

-- a name whose call is closed doesn't stay
closed-replaces : (macros : Macros) (t : HiddenToken Place) (rest : List (HiddenToken Place)) (o : Option Definition) → macros t.spelling ≡ o → IsFunctionLike o → is_looked_up t ≡ true → call_end (spellings rest) ≡ closed
    → case_of macros t rest ≡ stays → ⊥
closed-replaces macros t rest None defined function looked ends stay = function
closed-replaces macros t rest (Some d) defined function looked ends stay =
    let f = function-form d.form function in
    let call = closed-call rest ends in
    fits call.close call.after _ (sym (case-closed macros t d looked defined f.parameters f.variadic f.is rest call.between call.close call.after call.call) ∙ stay)
  where
    fits : (close : HiddenToken Place) (after : List (HiddenToken Place)) (o : Option (List (List (HiddenToken Place)))) → fitted_case d close after o ≡ stays → ⊥
    fits close after None is = absurd (cc)
    fits close after (Some arguments) is = absurd (cc)

module _ {files : List (List ℕ)} {macros : List ℕ → Macros} (names : List (List ℕ)) (within : (c : List ℕ) → IsWithin names (macros c)) {old now : Stores} {was e : Expansion} (grows : Grows old now)
    (r : IsRunning files macros old now was e) (began : IsHeldExpansion old (length files) was) where
  -- who takes the name stands on top
  pub takes-on-top : (c : List ℕ) → IsConfig old.sets.arities c → TakesName now (macros c) e c → IsOnTop now c e.below.items
  takes-on-top c listed t = by (stands-cases now c (running-stands grows r c listed t.live))
    where
      by : (IsOnTop now c e.below.items × (length (calls_at now e.top.calls.items c) ≤ 1)) ⊎ (IsBelow now c e.below.items × (view_at now e.top c ≡ no_view)) → IsOnTop now c e.below.items
      by (inl top) = top.0
      by (inr under) = absurd (cons-some (seen_hidden now.names now.hides t.item.1) (seen_at now (drop 1 e.top.work) c) (sym (seen-first now c e.top.work t.item t.first t.has) ∙ ap (λ (v : View). v.work) under.1))

  module _ (phase : Phase files macros old now was e) (ready : IsReady files macros phase) where
    -- something is left of what was made, or of the name itself
    name-pending : (c : List ℕ) → IsConfig old.sets.arities c → TakesName now (macros c) e c → IsPending (state_now now e c) (last_at now e phase.n c)
    name-pending c listed t =
        let work = first-is e.top.work t.item t.first in
        let next = next-token e t.item (drop 1 e.top.work) t.calls work in
        takes-pending files macros grows r began phase ready c true (λ cond is. let same : t.item.0 ≡ cond = cc (next, is) in sym (ap (λ (k : Cond). now.sets.has k.0 c) (sym same) ∙ t.has)) refl
        (running-stands grows r c listed t.live) (λ ended. cons-some t.item (drop 1 e.top.work) (sym work ∙ ended.work))

    -- a configuration whose call is closed
    record HasCome (c : List ℕ) : Type 0 where
      listed : IsConfig old.sets.arities c
      takes : TakesName now (macros c) e c
      ends : call_end_at now.sets now.names (tokens_in e.top.work) 0 c ≡ closed
      pending : IsPending (state_now now e c) (last_at now e phase.n c)

    has-come : (other : List ℕ → Macros) (same : (c : List ℕ) → IsConfig old.sets.arities c → other c ≡ macros c) (c : List ℕ) → IsConfig now.sets.arities c → TakesName now (other c) e c
        → call_end_at now.sets now.names (tokens_in e.top.work) 0 c ≡ closed → HasCome c
    has-come other same c p t ends =
        let listed = IsConfig-kept grows.sets p in
        let takes = subst (λ (m : Macros). TakesName now m e c) (same c listed) t in
        record { listed = listed; takes = takes; ends = ends; pending = name-pending c listed takes }

    was-live : (c : List ℕ) → HasCome c → old.sets.has was.refusals.live.0 c ≡ true
    was-live c h = by (old.sets.has was.refusals.live.0 c) refl
      where
        by : (b : Bool) → old.sets.has was.refusals.live.0 c ≡ b → b ≡ true
        by true is = refl
        by false is = absurd (true≢false (sym h.takes.live ∙ running-fewer grows r c h.listed is))

    -- it has come to a name, which is replaced or called
    abbrev Coming : List ℕ → Type 0
    Coming c = (x : Comes files macros old was phase.at c) × (case_of (macros c) (seen_hidden old.names old.hides x.item.1) (seen_at old (drop (phase.at + 1) was.top.work) c) ≡ stays → ⊥)

    come-replaces : (c : List ℕ) → HasCome c → Coming c
    come-replaces c h = (comes names within phase c h.listed h.takes.live h.pending, by (comes-named names within phase c h.listed h.takes.live h.pending))
      where
        name : HiddenToken Place
        name = seen_hidden old.names old.hides (comes names within phase c h.listed h.takes.live h.pending).item.1

        behind : List (HiddenToken Place)
        behind = seen_at old (drop (phase.at + 1) was.top.work) c

        item-is : seen_at now e.top.work c ≡ seen_hidden now.names now.hides h.takes.item.1 ∷ seen_at now (drop 1 e.top.work) c
        item-is = seen-first now c e.top.work h.takes.item h.takes.first h.takes.has

        first : seen_at now e.top.work c ≡ name ∷ behind → case_of (macros c) name behind ≡ stays → ⊥
        first is =
            let same : seen_hidden now.names now.hides h.takes.item.1 ≡ name = cc (is, item-is) in
            let has = ap (λ l. has_first now.sets l c) (first-is e.top.work h.takes.item h.takes.first) ∙ h.takes.has in
            closed-replaces (macros c) name behind _ (ap (λ (t : HiddenToken Place). macros c t.spelling) (sym same)) h.takes.function (ap is_looked_up (sym same) ∙ h.takes.looked_up)
            (end-behind now e.top.work c name behind has is ∙ h.ends)

        at-top : (out : List (HiddenToken Place)) → state_now now e c ≡ scanning out (name ∷ behind) → (e.below.items ≡ []) ⊎ Waits (state_now now e c) → case_of (macros c) name behind ≡ stays → ⊥
        at-top out is (inr waits) = absurd (subst Waits is waits)
        at-top out is (inl none) =
            let calls : calls_at now e.top.calls.items c ≡ [] = ap (λ l. calls_at now l c) h.takes.calls in
            let state : state_now now e c ≡ scanning (seen_at now e.top.out c) (seen_at now e.top.work c)
            = ap (λ bs. state_in now bs (view_at now e.top c) c) none ∙ ap (state_by (seen_at now e.top.out c) (seen_at now e.top.work c)) calls in
            first (cc (sym state ∙ is))

        by : ((out : List (HiddenToken Place)) × (state_now now e c ≡ scanning out (name ∷ behind))) ⊎ (case_of (macros c) name behind ≡ stays → ⊥) → case_of (macros c) name behind ≡ stays → ⊥
        by (inr replaces) = replaces
        by (inl a) = at-top a.0 a.1 (on-top now c (view_at now e.top c) (takes-on-top c h.listed h.takes))

    -- with different calls they do not expand alike the name that they came to
    phase-stops : (other : List ℕ → Macros) → ((c : List ℕ) → IsConfig old.sets.arities c → other c ≡ macros c) → (count : ℕ) → HasCalls now.sets now.names (λ c. TakesName now (other c) e c) e.top.work count
        → HasSpansApart (seen_hidden old.names old.hides) (provenance_of files) macros old.sets was.refusals.live.0 was.top.work count
    phase-stops other same count calls = record {
      at = phase.at;
      configs = calls.configs;
      many = calls.many;
      listed = λ k d within. (each k d within).listed;
      has = λ k d within. was-live _ (each k d within);
      come = λ k d within. come-replaces _ (each k d within);
      apart = pairs-both (λ c d. call_places now.sets now.names (tokens_in e.top.work) 0 c ≡ call_places now.sets now.names (tokens_in e.top.work) 0 d → ⊥)
          (λ c d. (size : ℕ) → IsSpan (seen_hidden old.names old.hides) (provenance_of files) macros old.sets was.top.work phase.at size c d → ⊥) HasCome
          (λ c d x y apart size span. apart ((same-called files macros names within grows r began phase ready size c d x.listed y.listed span
          (pair-alike files macros names within grows r began phase ready size c d x.listed y.listed span x.takes.live y.takes.live x.pending y.pending) x.takes.live x.pending x.takes x.ends).places x.ends))
          calls.configs each calls.apart;
    }
      where
        each : All HasCome calls.configs
        each k d within = has-come other same _ (calls.listed k d within) (calls.take k d within) (calls.ends k d within)

    -- what stops a turn stops the expansion of a name of the list
    pub turn-stops : (other : List ℕ → Macros) → ((c : List ℕ) → IsConfig old.sets.arities c → other c ≡ macros c) → (limit : ℕ) (stop : Stop)
        → StopsAt now.sets now.names (λ c. TakesName now (other c) e c) e.top.work limit stop
        → StopsApart (seen_hidden old.names old.hides) (provenance_of files) macros old.sets was.refusals.live.0 was.top.work limit stop
    turn-stops other same limit (BranchesFull count) stops = (stops.0, phase-stops other same (limit + 1) stops.1)
    turn-stops other same limit ReadFault stops = stops
    turn-stops other same limit OutOfMemory stops = tt

-- what the loop of an expansion keeps, through what is dropped before a turn and through the turn

module _ (files : List (List ℕ)) (macros : List ℕ → Macros) where
  -- what holds of an expansion that began so, between two turns of its loop
  pub record IsBetweenTurns (old now : Stores) (was e : Expansion) : Type 0 where
    pub grows : Grows old now
    pub running : IsRunning files macros old now was e
    pub alike : StayAlike files macros old now was e
    pub phase : Phase files macros old now was e

  pub turns-start : (old : Stores) (was : Expansion) → IsHeldExpansion old (length files) was → IsUntouched old.sets was → IsBetweenTurns old old was was
  turns-start old was held fresh = record {
    grows = Grows-refl old;
    running = running-start files macros old was held fresh;
    alike = alike-start files macros old was held fresh;
    phase = phase-start files macros old was held fresh;
  }

module _ {files : List (List ℕ)} {table : MacroTable} {old now : Stores} {was e : Expansion} (is_table : IsTable old.sets old.names table) (loop : IsBetweenTurns files (macros_at old.sets old.names table) old now was e)
    (began : IsHeldExpansion old (length files) was) where
  abbrev defined : List ℕ → Macros
  defined = macros_at old.sets old.names table

  abbrev later : List ℕ → Macros
  later = macros_at now.sets now.names table

  abbrev names : List (List ℕ)
  names = entry_names old.names table.entries.entries

  abbrev within : (c : List ℕ) → IsWithin names (defined c)
  within = within-table old.sets old.names table

  same : (c : List ℕ) → IsConfig old.sets.arities c → later c ≡ defined c
  same c listed = λ i. λ text. macros_at-Grows loop.grows is_table c text listed i

  pub turns-rested : {new : Stores} {after : Expansion} → IsRested now new e after → IsBetweenTurns files defined old new was after
  turns-rested {new} {after} rested = record {
    grows = Grows-trans loop.grows rested.grows;
    running = running-rested loop.grows loop.running began new after rested;
    alike = alike-rested files defined loop.grows loop.running began loop.alike new after rested;
    phase = phase-rested loop.grows loop.running began new after loop.phase rested;
  }

  pub turns-taken : {new : Stores} {after : Expansion} {went : Bool} → IsTurned files later now new e after went → IsBetweenTurns files defined old new was after
  turns-taken {new} {after} turned =
      let at_name = phase-ready loop.running loop.phase in
      record {
        grows = Grows-trans loop.grows turned.grows;
        running = running-turned loop.grows loop.running began new after later same turned;
        alike = alike-turned files defined loop.grows loop.running began loop.alike new after names within later same turned;
        phase = phase-turned files defined names within loop.grows loop.running began at_name.0 at_name.1 new after later same turned;
      }

  pub turns-less : {new : Stores} {after : Expansion} {went : Bool} → IsTurned files later now new e after went → went ≡ true → steps_in old.sets.arities files defined names within new after < steps_in old.sets.arities files defined names within now e
  turns-less {new} {after} turned there = turned-less loop.grows loop.running began new after later same turned names within there

  pub turns-stop : (limit : ℕ) (stop : Stop) → StopsAt now.sets now.names (λ c. TakesName now (later c) e c) e.top.work limit stop
      → StopsApart (seen_hidden old.names old.hides) (provenance_of files) defined old.sets was.refusals.live.0 was.top.work limit stop
  turns-stop limit stop stops =
      let at_name = phase-ready loop.running loop.phase in
      turn-stops names within loop.grows loop.running began at_name.0 at_name.1 later same limit stop stops
