-- What settling the runs does at each configuration.
use Rattle.std.proofs.Common.{◌≡◌, ℕ, ◌<◌, ◌&&◌, not, Bool, true, false, true≢false, ◌⊎◌, inl, inr, List, [], ◌∷◌, ◌++◌, All, map, length, None, Option, append-nil, refl, sym, ap, subst, ◌∙◌, is_none, if◌then◌else◌}
use Rattle.c11_macros.specs.Runs.{IsHeld}
use Rattle.sc_base.specs.declared.fault.Fault as base
use Rattle.sc_base.specs.declared.place.Place as base_place
use Rattle.sc_base.specs.declared.token.Token as base_token
use Rattle.sc_expand.proofs.SettledPlaces.{held-moved, settles-moved}
use Rattle.sc_expand.proofs.TextLemmas.{places-kept, seen-out}
use Rattle.sc_expand.specs.Moved.{moved, moved_failure}
use Rattle.sc_expand.specs.Running.{IsDone}
use Rattle.sc_expand.specs.Running as running
use Rattle.sc_expand.specs.Seen.{failures_at, provenance_of, seen_at, seen_failure, stores}
use Rattle.sc_expand.specs.Settling.{IsHeldSettled, IsSettled}
use Rattle.sc_model.specs.Token.{Place, Token}
use Rattle.sc_prep.proofs.ApartLemmas.{apart-right, gathers-then}
use Rattle.sc_prep.proofs.CloseMoves.{both-empty, empty-seen, plain-by, plain-seen, some-seen}
use Rattle.sc_prep.proofs.Facts.{All-append, All-nil, Keeps-trans, and_parts, Extends-refl, IsConfig-Keeps, IsConfig-kept, IsTable-Extends, IsTable-Keeps, faults_at-Keeps, faults_at-append, items-bared, items_at-Keeps, items_at-append, macros_at-Extends, macros_at-Keeps}
use Rattle.sc_prep.proofs.Grown.{held-grown, plain-grown, shown-before, simulates-grown}
use Rattle.sc_prep.proofs.LeftRuns.{left-settled}
use Rattle.sc_prep.proofs.Plain.{settles-plain, text-plain}
use Rattle.sc_prep.proofs.PlainRuns.{unfaulty}
use Rattle.sc_prep.proofs.PragmaMoves.{awaits-kept}
use Rattle.sc_prep.proofs.RunLemmas.{part-All}
use Rattle.sc_prep.proofs.SettledText.{still-waits, text-as, text-awaits, text-held, text-refused, text-settles}
use Rattle.sc_prep.proofs.Stopping.{stops-as}
use Rattle.sc_prep.proofs.Terms.{AllHaveSettled, AllPass, Awaited, AwaitsAt, Comes, Cond, Denotes, Extends, Failure, Forgets, HasSettled, HasText, Hidden, IsAsked, IsCond, IsConfig, IsHeldHidden, IsHeldWalk, IsPlainState, IsPlaced, IsSettledAt, IsStored, IsTable, Keeps, KeepsSettled, LineStage, Machine, Macros, Name, OpenRuns, Owns, PlainEach, Provenance, Sets, Settled, Settles, Simulates, StandApart, Stop, StopsAtPlace, StopsBy, StopsStage, Walk, any_machine, any_token, awaits, faults_at, has_none, held_at, hidden_at, is_empty, is_plain, items_at, macros_at, outside, place_alone, seen, seen_hidden, seen_place, token_of, tokens_read, tokens_within}
use Rattle.sc_prep.proofs.Texts.{held_at-append, hidden-grown, items_at-All, hidden_at-append, items_seen-append}
use Rattle.sc_prep.proofs.WalkMoves.{owns-kept, simulates-kept}
use Rattle.sc_prep.specs.Gathered.{StillWaits, forgets, keeps_all}
use Rattle.sc_subst.specs.declared.hidden.Hidden as base_hidden

-- a walk whose store of hide sets has grown
abbrev pub with-sets : Walk → List (List Name) → Walk
with-sets w hides = record w { runs = record w.runs { sets = hides } }

-- nothing is put out as the stores grow
module _ (files : List (List ℕ)) {names more : List (List ℕ)} {old new : Sets} (keeps : Keeps old new) (grows : Extends names more) (w : Walk) {hides : List (List Name)} (hides_grow : Extends w.runs.sets hides)
    (stored : IsStored old names (length files) w) where
  owns-more : Owns new (with-sets w hides)
  owns-more =
      let kept = owns-kept keeps w stored.owns in
      record { group = kept.group; acting = kept.acting; sections = kept.sections; runs = record { gathered = kept.runs.gathered; held = kept.runs.held; pragmas = kept.runs.pragmas; read = kept.runs.read }; once = kept.once; prepared = kept.prepared }

  pub stays-stage : LineStage files names old w [] more new (with-sets w hides) (λ config m n. n ≡ m)
  stays-stage = record {
    simulates = record {
      owns = owns-more;
      table = IsTable-Extends grows (IsTable-Keeps keeps stored.table);
      at = λ c m listed simulates. record {
        machine = m;
        done = refl;
        simulates = simulates-grown grows (Extends-refl files) w hides_grow new c m (IsTable-Keeps keeps stored.table) stored.held (simulates-kept keeps w stored.owns names files c m listed stored.table simulates);
      };
    };
    held = held-grown grows (Extends-refl files) w hides_grow stored.held;
    plain = λ each was. plain-grown grows (length files) w.prepared.list stored.held.list was;
    gathers = λ rest apart. apart;
  }

  pub stored-kept : IsStored new more (length files) (with-sets w hides)
  stored-kept = record { owns = owns-more; table = IsTable-Extends grows (IsTable-Keeps keeps stored.table); held = held-grown grows (Extends-refl files) w hides_grow stored.held }

-- those without a fault, told of the store later
pub unheld-now : {old new : Sets} (keeps : Keeps old new) (w : Walk) → Owns old w → (free : ℕ) → Denotes new free (λ c. old.has w.prepared.live.0 c && has_none old w.runs.held.items c)
    → Denotes new free (λ c. new.has w.prepared.live.0 c && has_none new w.runs.held.items c)
unheld-now {old} {new} keeps w owns free told = record {
  own = told.own;
  at = λ c now.
      let listed = IsConfig-kept keeps now in
      told.at c now ∙ (λ i. sym (keeps.at w.prepared.live.0 c owns.prepared.live listed) i && is_empty (sym (faults_at-Keeps w.runs.held.items c keeps owns.runs.held listed) i));
}

-- ---- a list has settled

abbrev seen_text : (names files : List (List ℕ)) → List base_token.Token → List Token
seen_text names files ts = map (seen names files) ts

empty-none : {A : Type 0} (xs : List A) → is_empty xs ≡ true → xs ≡ []
empty-none [] e = refl
empty-none (x ∷ xs) e = absurd (cc)

some-faults : (files : List (List ℕ)) (fs : List base.Fault) → map (moved_failure (seen_place files)) (map seen_failure fs) ≡ [] → is_empty fs ≡ false → ⊥
some-faults files [] e some = true≢false some
some-faults files (f ∷ fs) e some = cc

idle-nothing : {provenance : Provenance base_place.Place} {macros : Macros} {source out rest : List (Hidden base_place.Place)} {failures : List (Failure base_place.Place)} {b : Bool} → b ≡ false → IsDone provenance macros source out rest failures b
    → (failures ≡ []) × (rest ≡ [])
idle-nothing is (running.unasked none left) = (none, left)
idle-nothing is (running.settled none d) = absurd (true≢false is)
idle-nothing is (running.refused failure one left d) = absurd (true≢false is)

module _ (files : List (List ℕ)) {names more : List (List ℕ)} {old mid new : Sets} (keeps : Keeps old mid) (later : Keeps mid new) (grows : Extends names more) (w next : Walk) {hides : List (List Name)} (hides_grow : Extends w.runs.sets hides)
    (live asked : Cond) (s : Settled) (stored : IsStored old names (length files) w) (ask : IsAsked old w live.0 asked.0)
    (settles : IsSettled (stores old names w.runs.sets) (stores mid more hides) files (macros_at old names w.table) w.runs.gathered asked.0 s) (known : IsHeldSettled (stores mid more hides) (length files) s)
    (puts : KeepsSettled more mid (with-sets w hides) live.0 asked.0 s new next) where
  abbrev v : Walk
  v = with-sets w hides

  first : LineStage files names old w [] more mid v (λ config m n. n ≡ m)
  first = stays-stage files keeps grows w hides_grow stored

  module _ (c : List ℕ) (listed : IsConfig old.arities c) where
    listed_mid : IsConfig mid.arities c
    listed_mid = IsConfig-Keeps keeps listed

    abbrev shown : List base_hidden.Hidden → List (Hidden Place)
    shown hs = map (moved (seen_place files)) (map (seen_hidden more hides) hs)

    -- what is left of it
    rest-now : old.has asked.0 c ≡ true → old.has live.0 c ≡ true → items_at new next.runs.gathered c ≡ items_at mid s.rest c
    rest-now is_asked is_live =
        ap (λ xs. items_at new xs c) puts.gathered
        ∙ (items_at-append new s.rest puts.left c
        ∙ ((λ i. items_at-Keeps s.rest c later known.rest.own listed_mid i ++ (puts.stays.at c listed_mid
        ∙ (λ j. if (keeps.at live.0 c ask.live.own listed ∙ is_live) j && not ((keeps.at asked.0 c ask.own listed ∙ is_asked) j) then items_at mid w.runs.gathered c else [])) i)
        ∙ append-nil (items_at mid s.rest c)))

    gathered-now : (a l : Bool) → old.has asked.0 c ≡ a → old.has live.0 c ≡ l → hidden_at new more files hides next.runs.gathered c ≡ shown (items_at mid s.rest c) ++ (if l && not a then hidden_at mid more files hides w.runs.gathered c else [])
    gathered-now a l is_asked is_live =
        ap (λ xs. hidden_at new more files hides xs c) puts.gathered
        ∙ (hidden_at-append new more files hides s.rest puts.left c
        ∙ (ap (λ xs. shown xs ++ hidden_at new more files hides puts.left c) (items_at-Keeps s.rest c later known.rest.own listed_mid)
        ∙ ap (λ xs. shown (items_at mid s.rest c) ++ xs) (ap shown (puts.stays.at c listed_mid
        ∙ (λ i. if (keeps.at live.0 c ask.live.own listed ∙ is_live) i && not ((keeps.at asked.0 c ask.own listed ∙ is_asked) i) then items_at mid w.runs.gathered c else [])) ∙ by (l && not a))))
      where
        by : (b : Bool) → shown (if b then items_at mid w.runs.gathered c else []) ≡ (if b then hidden_at mid more files hides w.runs.gathered c else [])
        by true = refl
        by false = refl

    done-is : seen_text more files (items_at mid s.done c) ≡ map token_of (shown (items_at mid settles.out c))
    done-is = ap (λ xs. seen_text more files (items_at mid xs c)) settles.tokens ∙ (ap (seen_text more files) (items-bared mid settles.out c) ∙ seen-out more files hides (items_at mid settles.out c))

    listed_then : IsConfig puts.middle.arities c
    listed_then = IsConfig-Keeps puts.until listed_mid

    -- what is put out if it is none of an operator
    done-now : (if puts.middle.has puts.free c then items_at puts.middle s.done c else []) ≡ (if old.has asked.0 c && has_none mid s.held.items c then items_at mid s.done c else [])
    done-now = (λ i. if (puts.is_free.at c listed_then ∙ ap (λ b. b && has_none mid s.held.items c) (keeps.at asked.0 c ask.own listed)) i then items_at-Keeps s.done c puts.until known.own listed_mid i else [])

    abbrev tokens : List Token
    tokens = tokens_within more files puts.middle s.done puts.free c

    tokens-now : (a n : Bool) → old.has asked.0 c ≡ a → has_none mid s.held.items c ≡ n → tokens ≡ (if a && n then map token_of (shown (items_at mid settles.out c)) else [])
    tokens-now a n is_asked is_none =
        shown-if (puts.middle.has puts.free c) (items_at puts.middle s.done c) ∙ (ap (seen_text more files) (done-now ∙ (λ i. if is_asked i && is_none i then items_at mid s.done c else [])) ∙ by (a && n))
      where
        shown-if : (b : Bool) (ts : List base_token.Token) → (if b then seen_text more files ts else []) ≡ seen_text more files (if b then ts else [])
        shown-if true ts = refl
        shown-if false ts = refl

        by : (b : Bool) → seen_text more files (if b then items_at mid s.done c else []) ≡ (if b then map token_of (shown (items_at mid settles.out c)) else [])
        by true = done-is
        by false = refl

    module _ (awaited : Awaited) (at : AwaitsAt old files w.runs.pragmas c awaited) where
      at-then : AwaitsAt puts.middle files w.runs.pragmas c awaited
      at-then = awaits-kept (Keeps-trans keeps puts.until) stored.owns.runs.pragmas listed at

      awaits-now : AwaitsAt new files next.runs.pragmas c (awaits awaited tokens)
      awaits-now = puts.puts.awaits files c awaited listed_then at-then

      list-now : seen_text more files (items_at new next.prepared.list c) ≡ seen_text more files (items_at new w.prepared.list c) ++ outside awaited tokens
      list-now =
          ap (λ xs. seen_text more files (items_at new xs c)) puts.puts.is
          ∙ (items_seen-append new more files w.prepared.list puts.puts.kept c ∙ ap (λ xs. seen_text more files (items_at new w.prepared.list c) ++ xs) (puts.puts.puts files c awaited listed_then at-then))

    held-now : held_at new files next.runs.held.items c ≡ held_at new files w.runs.held.items c ++ map (moved_failure (seen_place files)) (failures_at mid s.held.items c)
    held-now =
        ap (λ fs. held_at new files fs c) puts.held
        ∙ (held_at-append new files w.runs.held.items s.held.items c
        ∙ ap (λ fs. held_at new files w.runs.held.items c ++ map (moved_failure (seen_place files)) (map seen_failure fs)) (faults_at-Keeps s.held.items c later known.faults_own listed_mid))

    held-before : held_at new files w.runs.held.items c ≡ held_at old files w.runs.held.items c
    held-before = ap (λ fs. map (moved_failure (seen_place files)) (map seen_failure fs)) (faults_at-Keeps w.runs.held.items c (Keeps-trans keeps later) stored.owns.runs.held listed)

    -- who is asked for has no fault
    not-held : old.has asked.0 c ≡ true → held_at old files w.runs.held.items c ≡ []
    not-held here =
        let parts = and_parts (old.has w.prepared.live.0 c) (has_none old w.runs.held.items c) (sym (ask.live.at c listed) ∙ ask.within c listed here) in
        ap (λ fs. map (moved_failure (seen_place files)) (map seen_failure fs)) (empty-none (faults_at old w.runs.held.items c) parts.1)

    module _ (m : Machine) (simulates : Simulates old names files w c m) where
      now : Simulates new more files v c m
      now =
          let a = first.simulates.at c m listed simulates in
          simulates-kept later v first.simulates.owns more files c m listed_mid first.simulates.table (subst (Simulates mid more files v c) a.done a.simulates)

      abbrev text-before : List (Hidden Place)
      text-before = hidden_at old names files w.runs.sets w.runs.gathered c

      put-before : seen_text more files (items_at new w.prepared.list c) ≡ seen_text names files (items_at old w.prepared.list c)
      put-before = shown-before files grows (Keeps-trans keeps later) w.prepared.list c stored.owns.prepared.list stored.held.list listed

      -- what was gathered, as the stores have grown
      gathered-before : hidden_at mid more files hides w.runs.gathered c ≡ text-before
      gathered-before =
          hidden-grown grows (Extends-refl files) w.runs hides_grow (items_at mid w.runs.gathered c) (items_at-All (λ (h : base_hidden.Hidden). IsHeldHidden names w.runs.sets h × (h.token.place.file.0 < length files)) mid w.runs.gathered c stored.held.runs.gathered)
          ∙ ap (λ hs. map (moved (seen_place files)) (map (seen_hidden names w.runs.sets) hs)) (items_at-Keeps w.runs.gathered c keeps stored.owns.runs.gathered listed)

      abbrev TextNow : Awaited → Type 0
      TextNow awaited = HasText m.state (hidden_at new more files hides next.runs.gathered c) (seen_text more files (items_at new next.prepared.list c)) (awaits awaited tokens) (held_at new files next.runs.held.items c)

      module _ (none : m.fault ≡ None) where
        macros : macros_at old names w.table c ≡ m.state.macros
        macros = λ i name. simulates.macros none name i

        abbrev was_awaited : Awaited
        was_awaited = (simulates.text none).awaited

        abbrev was_at : AwaitsAt old files w.runs.pragmas c was_awaited
        was_at = (simulates.text none).awaits

        module _ (here : old.has asked.0 c ≡ true) where
          has-before : HasText m.state text-before (seen_text names files (items_at old w.prepared.list c)) was_awaited []
          has-before = text-as refl refl (sym (not-held here)) (simulates.text none).text

          settles-here : Settles (provenance_of files) (macros_at old names w.table c) (seen_at (stores old names w.runs.sets) w.runs.gathered c) (seen_at (stores mid more hides) settles.out c) (seen_at (stores mid more hides) s.rest c)
              → Settles place_alone m.state.macros text-before (shown (items_at mid settles.out c)) (shown (items_at mid s.rest c))
          settles-here d = subst (λ ms. Settles place_alone ms text-before (shown (items_at mid settles.out c)) (shown (items_at mid s.rest c))) macros (settles-moved (seen_place files) (places-kept files) (macros_at old names w.table c) d)

          asked-text : (b : Bool) → b ≡ true → IsDone (provenance_of files) (macros_at old names w.table c) (seen_at (stores old names w.runs.sets) w.runs.gathered c) (seen_at (stores mid more hides) settles.out c) (seen_at (stores mid more hides) s.rest c) (failures_at mid s.held.items c) b
              → TextNow was_awaited
          asked-text b is (running.unasked clean left) = absurd (true≢false (sym is))
          asked-text b is (running.settled clean d) =
              let done = map token_of (shown (items_at mid settles.out c)) in
              let read = tokens-now true true here (empty-seen seen_failure (faults_at mid s.held.items c) clean) in
              text-awaits (ap (awaits was_awaited) read)
              (text-as (gathered-now true true here (ask.within c listed here) ∙ append-nil (shown (items_at mid s.rest c)))
              (list-now was_awaited was_at ∙ (λ i. put-before i ++ outside was_awaited (read i)))
              (held-now ∙ (λ i. (held-before ∙ not-held here) i ++ map (moved_failure (seen_place files)) (clean i)))
              (text-settles m.state text-before (seen_text names files (items_at old w.prepared.list c)) was_awaited (shown (items_at mid settles.out c)) (shown (items_at mid s.rest c)) has-before (settles-here d)))
          asked-text b is (running.refused failure one left d) =
              text-as (gathered-now true true here (ask.within c listed here) ∙ (append-nil (shown (items_at mid s.rest c)) ∙ ap (map (moved (seen_place files))) left)) refl
              (held-now ∙ (λ i. (held-before ∙ not-held here) i ++ map (moved_failure (seen_place files)) (one i)))
              (text-refused m.state text-before (seen_text names files (items_at old w.prepared.list c)) was_awaited _ _ (moved_failure (seen_place files) failure) has-before
              (subst (λ ms. IsHeld place_alone ms text-before (moved_failure (seen_place files) failure)) macros (held-moved (seen_place files) (places-kept files) (macros_at old names w.table c) d)))

          -- what is put out is spelled on one line
          asked-plain : IsPlainState m.state → has_none mid s.held.items c ≡ true → (b : Bool) → b ≡ true
              → IsDone (provenance_of files) (macros_at old names w.table c) (seen_at (stores old names w.runs.sets) w.runs.gathered c) (seen_at (stores mid more hides) settles.out c) (seen_at (stores mid more hides) s.rest c) (failures_at mid s.held.items c) b
              → All (λ (t : base_token.Token). is_plain more t ≡ true) (items_at mid s.done c)
          asked-plain plain free b is (running.unasked clean left) = absurd (true≢false (sym is))
          asked-plain plain free b is (running.settled clean d) =
              let gathered = text-plain m.state plain.macros plain.run text-before _ _ _ (not-held here) (simulates.text none).text in
              plain-seen more files (items_at mid s.done c) (map token_of (shown (items_at mid settles.out c))) done-is (settles-plain m.state.macros plain.macros text-before _ _ gathered (settles-here d)).0
          asked-plain plain free b is (running.refused failure one left d) = absurd (true≢false (sym free ∙ some-seen seen_failure (faults_at mid s.held.items c) failure [] one))

        module _ (idle : old.has asked.0 c ≡ false) where
          idle-done : (failures_at mid s.held.items c ≡ []) × (seen_at (stores mid more hides) s.rest c ≡ [])
          idle-done = idle-nothing idle (settles.is c listed)

          idle-text : (l : Bool) → old.has live.0 c ≡ l → TextNow was_awaited
          idle-text l is_live =
              let read = tokens-now false (has_none mid s.held.items c) idle refl in
              text-awaits (ap (awaits was_awaited) read)
              (text-as (gathered-now false l idle is_live ∙ (ap (λ hs. map (moved (seen_place files)) hs ++ (if l && true then hidden_at mid more files hides w.runs.gathered c else [])) idle-done.1))
              (list-now was_awaited was_at ∙ ((λ i. put-before i ++ outside was_awaited (read i)) ∙ append-nil (seen_text names files (items_at old w.prepared.list c))))
              (held-now ∙ ((λ i. held-before i ++ map (moved_failure (seen_place files)) (idle-done.0 i)) ∙ append-nil (held_at old files w.runs.held.items c)))
              (by l is_live))
            where
              by : (l : Bool) → old.has live.0 c ≡ l
                  → HasText m.state (if l && true then hidden_at mid more files hides w.runs.gathered c else []) (seen_text names files (items_at old w.prepared.list c)) was_awaited (held_at old files w.runs.held.items c)
              by true is = text-as gathered-before refl refl (simulates.text none).text
              by false is = text-held [] (λ empty. some-faults files (faults_at old w.runs.held.items c) empty
                  (ap (λ b. b && has_none old w.runs.held.items c) (sym (simulates.prepared.live ∙ ap is_none none)) ∙ (sym (ask.live.at c listed) ∙ is))) (simulates.text none).text

        text-then : (b : Bool) → old.has asked.0 c ≡ b → TextNow was_awaited
        text-then true here = asked-text here (old.has asked.0 c) here (settles.is c listed)
        text-then false idle = idle-text idle (old.has live.0 c) refl

      stays-there : Simulates new more files next c m
      stays-there = subst (λ (u : Walk). Simulates new more files u c m) (sym puts.same) (record {
        active = now.active;
        acting = now.acting;
        sections = now.sections;
        prepared = record { live = now.prepared.live; fault = now.prepared.fault };
        text = λ none. record {
          run = (now.text none).run;
          awaited = awaits (was_awaited none) tokens;
          awaits = awaits-now (was_awaited none) (was_at none);
          text = text-then none (old.has asked.0 c) refl;
        };
        macros = now.macros;
        once = now.once;
      })

    plain-at : PlainEach old names files w any_machine → (a n : Bool) → old.has asked.0 c ≡ a → has_none mid s.held.items c ≡ n → All (λ (t : base_token.Token). is_plain more t ≡ true) (if a && n then items_at mid s.done c else [])
    plain-at each true true here free =
        let at = each.each c listed in
        let parts = and_parts (old.has w.prepared.live.0 c) (has_none old w.runs.held.items c) (sym (ask.live.at c listed) ∙ ask.within c listed here) in
        asked-plain at.0 at.1 (unfaulty at.0.fault (sym at.1.prepared.live ∙ parts.0)) here at.3 free (old.has asked.0 c) here (settles.is c listed)
    plain-at each true false here held = All-nil (λ (t : base_token.Token). is_plain more t ≡ true)
    plain-at each false n idle is = All-nil (λ (t : base_token.Token). is_plain more t ≡ true)

    -- nothing is left of it, or that still waits
    abbrev EndsHere : Type 0
    EndsHere = (hidden_at new more files hides next.runs.gathered c ≡ []) ⊎ ((held_at new files next.runs.held.items c ≡ [])
        × StillWaits (provenance_of files) (macros_at old names w.table c) (seen_at (stores new more hides) next.runs.gathered c))

    ends-asked : old.has asked.0 c ≡ true → EndsHere
    ends-asked here = by (old.has asked.0 c) here (settles.is c listed)
      where
        all-shown : hidden_at new more files hides next.runs.gathered c ≡ shown (items_at mid s.rest c)
        all-shown = gathered-now true true here (ask.within c listed here) ∙ append-nil (shown (items_at mid s.rest c))

        waits-here : failures_at mid s.held.items c ≡ [] → (seen_at (stores mid more hides) s.rest c ≡ []) ⊎ StillWaits (provenance_of files) (macros_at old names w.table c) (seen_at (stores mid more hides) s.rest c) → EndsHere
        waits-here none (inl nothing) = inl (all-shown ∙ ap (map (moved (seen_place files))) nothing)
        waits-here none (inr waiting) = inr (
          held-now ∙ (λ i. (held-before ∙ not-held here) i ++ map (moved_failure (seen_place files)) (none i)),
          subst (StillWaits (provenance_of files) (macros_at old names w.table c)) (ap (map (seen_hidden more hides)) (sym (rest-now here (ask.within c listed here)))) waiting,
        )

        by : (b : Bool) → b ≡ true → IsDone (provenance_of files) (macros_at old names w.table c) (seen_at (stores old names w.runs.sets) w.runs.gathered c) (seen_at (stores mid more hides) settles.out c) (seen_at (stores mid more hides) s.rest c) (failures_at mid s.held.items c) b
            → EndsHere
        by b is (running.unasked none left) = absurd (true≢false (sym is))
        by b is (running.settled none d) = waits-here none (still-waits (macros_at old names w.table c) d)
        by b is (running.refused failure one left d) = inl (all-shown ∙ ap (map (moved (seen_place files))) left)

    ends-here : old.has w.acting.0 c ≡ true → (a : Bool) → old.has asked.0 c ≡ a → EndsHere
    ends-here acting true here = ends-asked here
    ends-here acting false idle =
        inl (gathered-now false false idle (not-live (old.has live.0 c) refl) ∙ (append-nil (shown (items_at mid s.rest c)) ∙ ap (map (moved (seen_place files))) (idle-nothing idle (settles.is c listed)).1))
      where
        not-live : (l : Bool) → old.has live.0 c ≡ l → old.has live.0 c ≡ false
        not-live true is = absurd (true≢false (sym (ask.acting c listed is acting) ∙ idle))
        not-live false is = is

  owned : Owns new next
  owned =
      let kept = owns-kept later v first.simulates.owns in
      let H : Cond × base_hidden.Hidden → Type 0 = λ item. IsCond new item.0.0 in
      let T : Cond × base_token.Token → Type 0 = λ item. IsCond new item.0.0 in
      let F : base.Fault → Type 0 = λ f. IsCond new f.cond.0 in
      subst (Owns new) (sym puts.same) (record {
        group = kept.group;
        acting = kept.acting;
        sections = kept.sections;
        runs = record {
          gathered = subst (All H) (sym puts.gathered) (All-append H s.rest puts.left (λ k d h. later.own _ (known.rest.own k d h)) puts.stays.part.own);
          held = subst (All F) (sym puts.held) (All-append F w.runs.held.items s.held.items kept.runs.held (λ k d h. later.own _ (known.faults_own k d h)));
          pragmas = puts.puts.owns;
          read = kept.runs.read;
        };
        once = kept.once;
        prepared = record {
          list = subst (All T) (sym puts.puts.is) (All-append T w.prepared.list puts.puts.kept kept.prepared.list puts.puts.part.own);
          faults = kept.prepared.faults;
          live = kept.prepared.live;
        };
      })

  still-held : IsHeldWalk more (length files) any_token next
  still-held =
      let was = first.held in
      let H : base_hidden.Hidden → Type 0 = λ h. IsHeldHidden more hides h × (h.token.place.file.0 < length files) in
      let P : base_token.Token → Type 0 = IsPlaced more (length files) in
      let F : base.Fault → Type 0 = λ f. f.place.file.0 < length files in
      subst (IsHeldWalk more (length files) any_token) (sym puts.same) (record {
        runs = record {
          gathered = subst (All (λ (item : Cond × base_hidden.Hidden). H item.1)) (sym puts.gathered) (All-append (λ (item : Cond × base_hidden.Hidden). H item.1) s.rest puts.left
              (λ k d h. let t = known.rest.held k d h in (t.held, t.file)) (part-All H puts.stays.part was.runs.gathered));
          held = subst (All F) (sym puts.held) (All-append F w.runs.held.items s.held.items was.runs.held known.faults_placed);
          pragmas = puts.puts.placed (length files) known.placed was.runs.pragmas;
          read = was.runs.read;
        };
        list = subst (All (λ (item : Cond × base_token.Token). P item.1)) (sym puts.puts.is) (All-append (λ (item : Cond × base_token.Token). P item.1) w.prepared.list puts.puts.kept was.list
            (part-All P puts.puts.part (λ k d h. record { held = known.held k d h; file = known.placed k d h })));
        passed = λ k d h. refl;
        faults = was.faults;
        once = was.once;
      })

  still-plain : PlainEach old names files w any_machine → AllPass (is_plain names) w.prepared.list → AllPass (is_plain more) next.prepared.list
  still-plain each was =
      let Q : Cond × base_token.Token → Type 0 = λ item. is_plain more item.1 ≡ true in
      subst (All Q) (sym puts.puts.is)
      (All-append Q w.prepared.list puts.puts.kept (plain-grown grows (length files) w.prepared.list stored.held.list was)
      (plain-by new more puts.puts.kept (λ c last.
      let listed = IsConfig-kept (Keeps-trans keeps later) last in
      puts.puts.among (is_plain more) c (listed_then c listed)
      (subst (All (λ (t : base_token.Token). is_plain more t ≡ true)) (sym (done-now c listed)) (plain-at c listed each (old.has asked.0 c) (has_none mid s.held.items c) refl refl))) puts.puts.part.some))

  pub settled-stage : LineStage files names old w [] more new next (λ config m n. n ≡ m)
  settled-stage = record {
    simulates = record {
      owns = owned;
      table = subst (λ (u : Walk). IsTable new more u.table) (sym puts.same) (IsTable-Keeps later first.simulates.table);
      at = λ c m listed simulates. record { machine = m; done = refl; simulates = stays-there c listed m simulates };
    };
    held = still-held;
    plain = still-plain;
    gathers = λ rest apart. subst (λ (u : Walk). StandApart (tokens_read u.runs.read ++ rest)) (sym puts.same) apart;
  }

  settled-next : (c : List ℕ) (listed : IsConfig old.arities c) → EndsHere c listed → IsSettledAt new more files next c
  settled-next c listed ends =
      let all = Keeps-trans keeps later in
      let macros : macros_at new more w.table c ≡ macros_at old names w.table c = λ i name. (macros_at-Extends grows (IsTable-Keeps all stored.table) c name ∙ macros_at-Keeps all stored.table c name listed) i in
      let Ends : List (List Name) → Macros → Type 0 = λ sets ms. (hidden_at new more files sets next.runs.gathered c ≡ []) ⊎ ((held_at new files next.runs.held.items c ≡ [])
      × StillWaits (provenance_of files) ms (seen_at (stores new more sets) next.runs.gathered c)) in
      subst (λ (u : Walk). Ends u.runs.sets (macros_at new more u.table c)) (sym puts.same) (subst (Ends hides) (sym macros) ends)

  pub has-settled : HasSettled new more files next
  has-settled c now acting =
      let all = Keeps-trans keeps later in
      let listed = IsConfig-kept all now in
      let acts : old.has w.acting.0 c ≡ true = sym (all.at w.acting.0 c stored.owns.acting listed) ∙ (ap (λ (u : Walk). new.has u.acting.0 c) (sym puts.same) ∙ acting) in
      settled-next c listed (ends-here c listed acts (old.has asked.0 c) refl)

  -- where all without a fault are asked for
  pub all-settled : asked.0 ≡ live.0 → AllHaveSettled new more files next
  all-settled same c now free =
      let all = Keeps-trans keeps later in
      let listed = IsConfig-kept all now in
      let parts = and_parts (new.has next.prepared.live.0 c) (has_none new next.runs.held.items c) free in
      let lives : old.has w.prepared.live.0 c ≡ true = sym (all.at w.prepared.live.0 c stored.owns.prepared.live listed) ∙ (ap (λ (u : Walk). new.has u.prepared.live.0 c) (sym puts.same) ∙ parts.0) in
      let none : has_none old w.runs.held.items c ≡ true =
      ap is_empty (sym (faults_at-Keeps w.runs.held.items c all stored.owns.runs.held listed))
      ∙ (both-empty (faults_at new w.runs.held.items c) (faults_at new s.held.items c) (ap is_empty (sym (faults_at-append new w.runs.held.items s.held.items c)) ∙ (ap (λ fs. has_none new fs c) (sym puts.held) ∙ parts.1))).0 in
      settled-next c listed (ends-asked c listed (ap (λ n. old.has n c) same ∙ (ask.live.at c listed ∙ (λ i. lives i && none i))))

-- ---- and then another stage

module _ {files names more : List (List ℕ)} {old mid : Sets} {w v : Walk} (keeps : Keeps old mid) (first : LineStage files names old w [] more mid v (λ config m n. n ≡ m)) where
  pub stage-stored : IsStored mid more (length files) v
  stage-stored = record { owns = first.simulates.owns; table = first.simulates.table; held = first.held }

  pub same-machine : (c : List ℕ) (m : Machine) → IsConfig old.arities c → Simulates old names files w c m → Simulates mid more files v c m
  same-machine c m listed simulates =
      let a = first.simulates.at c m listed simulates in
      subst (Simulates mid more files v c) a.done a.simulates

  pub settled-closes : {line : List base_token.Token} {last : List (List ℕ)} {new : Sets} {next : Walk} {does : List ℕ → Machine → Machine → Type 0} → LineStage files more mid v line last new next does → LineStage files names old w line last new next does
  settled-closes {line} {next = next} second = record {
    simulates = record {
      owns = second.simulates.owns;
      table = second.simulates.table;
      at = λ c m listed simulates. second.simulates.at c m (IsConfig-Keeps keeps listed) (same-machine c m listed simulates);
    };
    held = second.held;
    plain = λ each was. second.plain
        (record { each = λ c now. let listed = IsConfig-kept keeps now in let at = each.each c listed in (at.0, same-machine c at.0 listed at.1, tt, at.3) }) (first.plain each was);
    gathers = gathers-then [] line w v next first.gathers second.gathers;
  }

  -- where closing them stops
  pub settled-stops : {K V : Type 0} {comes : List ℕ → Machine → K × V → Type 0} (limit : ℕ) (stop : Stop) → StopsStage mid more files v (tokens_read v.runs.read) comes limit stop
      → StopsStage old names files w (tokens_read w.runs.read) comes limit stop
  settled-stops {comes = comes} limit stop stops = record {
    by = subst (λ arities. StopsBy arities limit stop) keeps.arities stops.by;
    at_place = λ apart.
        let there = stops.at_place (subst StandApart (append-nil (tokens_read v.runs.read)) (first.gathers [] (subst StandApart (sym (append-nil (tokens_read w.runs.read))) apart))) in
        stops-as (λ at. at) (Comes old names files w any_machine comes) limit stop (λ c f listed has m simulates _. has m (same-machine c m listed simulates) tt)
        (subst (λ arities. StopsAtPlace arities (Comes mid more files v any_machine comes) limit stop) keeps.arities there);
  }

-- ---- what was read is forgotten

pub forgets-stage : (files names : List (List ℕ)) {s : Sets} (w : Walk) {runs : OpenRuns} → IsStored s names (length files) w → Forgets w.runs runs → LineStage files names s w [] names s (record w { runs = runs }) (λ config m n. n ≡ m)
forgets-stage files names {s} w stored keeps_all = record {
  simulates = record { owns = stored.owns; table = stored.table; at = λ c m listed simulates. record { machine = m; done = refl; simulates = simulates } };
  held = stored.held;
  plain = λ each was. was;
  gathers = λ rest apart. apart;
}
forgets-stage files names {s} w stored (forgets none clean) =
    let owns = stored.owns in
    let held = stored.held in
    record {
      simulates = record {
        owns = record {
          group = owns.group;
          acting = owns.acting;
          sections = owns.sections;
          runs = record { gathered = owns.runs.gathered; held = owns.runs.held; pragmas = owns.runs.pragmas; read = All-nil (λ (item : Cond × Option base_token.Token). IsCond s item.0.0) };
          once = owns.once;
          prepared = owns.prepared;
        };
        table = stored.table;
        at = λ c m listed simulates. record {
          machine = m;
          done = refl;
          simulates = record {
            active = simulates.active;
            acting = simulates.acting;
            sections = simulates.sections;
            prepared = record { live = simulates.prepared.live; fault = simulates.prepared.fault };
            text = λ unrefused.
                let at = simulates.text unrefused in
                record {
                  run = left-settled (ap (λ hs. hidden_at s names files w.runs.sets hs c) none) (text-as refl refl (sym (ap (λ fs. held_at s files fs c) clean)) at.text);
                  awaited = at.awaited;
                  awaits = at.awaits;
                  text = at.text;
                };
            macros = simulates.macros;
            once = simulates.once;
          };
        };
      };
      held = record {
        runs = record { gathered = held.runs.gathered; held = held.runs.held; pragmas = held.runs.pragmas; read = All-nil (IsPlaced names (length files)) };
        list = held.list;
        passed = held.passed;
        faults = held.faults;
        once = held.once;
      };
      plain = λ each was. was;
      gathers = λ rest apart. apart-right (tokens_read w.runs.read) rest apart;
    }
