-- What configurations have in common of what waits, as it settles.
use Rattle.std.proofs.Common.{◌≡◌, ℕ, ◌+◌, ◌<◌, ◌&&◌, not, Bool, true, false, true≢false, List, [], ◌++◌, append_assoc, length, map, slice_get, take, Some, refl, sym, ap, subst, ◌∙◌, arith}
use Rattle.std.proofs.lemmas.List.{take-append-le, take-map}
use Rattle.std.proofs.lemmas.Option.{same_Some, slice_get_within}
use Rattle.c11_macros.specs.Hidden.{Hidden as HiddenToken}
use Rattle.sc_base.specs.declared.place.Place as base_place
use Rattle.sc_expand.proofs.TextLemmas.{seen-out}
use Rattle.sc_expand.specs.Moved.{moved}
use Rattle.sc_expand.specs.Running as running
use Rattle.sc_expand.specs.Seen.{failures_at, provenance_of, seen_at, seen_failure, stores}
use Rattle.sc_expand.specs.Settling.{IsHeldSettled, IsSettled}
use Rattle.sc_expand.specs.Spans.{InSegments, IsSettling}
use Rattle.sc_expand.specs.Thin.{IsNth}
use Rattle.sc_model.proofs.ListLemmas.{slice_get-front}
use Rattle.sc_model.specs.Token.{Token}
use Rattle.sc_prep.proofs.CloseMoves.{both-empty, some-seen}
use Rattle.sc_prep.proofs.Facts.{IsConfig-Keeps, Keeps-trans, faults_at-Keeps, faults_at-append, items-bared, items_at-Keeps}
use Rattle.sc_prep.proofs.NthItems.{get-behind, get-map, nth-behind, nth-kept, nth-mapped, nth-stands, stands-element, stands-get}
use Rattle.sc_prep.proofs.PragmaMoves.{awaits-kept}
use Rattle.sc_prep.proofs.SegmentsBefore.{comes-all, span-one}
use Rattle.sc_prep.proofs.SettleMoves.{with-sets}
use Rattle.sc_prep.proofs.SharesKept.{SharesWaiting, StaysPut, nth-later, shares-moved}
use Rattle.sc_prep.proofs.Terms.{Cond, Extends, IsAsked, IsConfig, IsStored, Keeps, KeepsSettled, Name, Sets, Settled, Walk, awaits, faults_at, has_none, is_empty, items_at, macros_at, outside, seen, seen_hidden, seen_place, token_of}
use Rattle.sc_prep.specs.Pragmas.{first_tokens, is_outside}
use Rattle.sc_prep.specs.Thin.{ComesTo, HaveOne, KeepsShares, Shares, WillPut, tokens_made}
use Rattle.sc_prep.specs.Thin as thin
use Rattle.sc_subst.specs.declared.hidden.Hidden as base_hidden
use Rattle.std.proofs.Math.Seq.{take-append-add}

module _ (files : List (List ℕ)) {names more : List (List ℕ)} {old mid new : Sets} (keeps : Keeps old mid) (later : Keeps mid new) (grows : Extends names more) (w next : Walk) {hides : List (List Name)} (hides_grow : Extends w.runs.sets hides)
    (live asked : Cond) (s : Settled) (stored : IsStored old names (length files) w) (ask : IsAsked old w live.0 asked.0)
    (settles : IsSettled (stores old names w.runs.sets) (stores mid more hides) files (macros_at old names w.table) w.runs.gathered asked.0 s) (known : IsHeldSettled (stores mid more hides) (length files) s)
    (puts : KeepsSettled more mid (with-sets w hides) live.0 asked.0 s new next) where
  abbrev InOut : Type 0
  InOut = InSegments (seen_hidden names w.runs.sets) (provenance_of files) (macros_at old names w.table) old w.runs.gathered asked.0 mid (seen_hidden more hides) (length w.runs.gathered) settles.out settles.segments.kept

  abbrev Settling : List ℕ → Type 0
  Settling c = IsSettling (seen_hidden names w.runs.sets) (provenance_of files) (macros_at old names w.table) old w.runs.gathered c

  segments : InOut
  segments = settles.segments.segments

  module _ (c : List ℕ) (listed : IsConfig old.arities c) where
    listed_mid : IsConfig mid.arities c
    listed_mid = IsConfig-Keeps keeps listed

    listed_then : IsConfig puts.middle.arities c
    listed_then = IsConfig-Keeps puts.until listed_mid

    -- who has no fault now had none
    none-before : has_none new next.runs.held.items c ≡ true → (has_none old w.runs.held.items c ≡ true) × (has_none mid s.held.items c ≡ true)
    none-before free =
        let both = both-empty (faults_at new w.runs.held.items c) (faults_at new s.held.items c) (ap is_empty (sym (faults_at-append new w.runs.held.items s.held.items c)) ∙ (ap (λ fs. has_none new fs c) (sym puts.held) ∙ free)) in (
          ap is_empty (sym (faults_at-Keeps w.runs.held.items c (Keeps-trans keeps later) stored.owns.runs.held listed)) ∙ both.0,
          ap is_empty (sym (faults_at-Keeps s.held.items c later known.faults_own listed_mid)) ∙ both.1,
        )

    is-asked : asked.0 ≡ live.0 → new.has next.prepared.live.0 c ≡ true → has_none old w.runs.held.items c ≡ true → old.has asked.0 c ≡ true
    is-asked same alive none =
        let lives : old.has w.prepared.live.0 c ≡ true = sym ((Keeps-trans keeps later).at w.prepared.live.0 c stored.owns.prepared.live listed) ∙ (ap (λ (u : Walk). new.has u.prepared.live.0 c) (sym puts.same) ∙ alive) in
        ap (λ n. old.has n c) same ∙ (ask.live.at c listed ∙ (λ i. lives i && none i))

    still : StaysPut old names files w new more files next c
    still = record {
      nth = λ n i at. subst (λ l. IsNth new l c n i) (sym puts.puts.is) (nth-later (Keeps-trans keeps later) c listed w.prepared.list puts.puts.kept stored.owns.prepared.list n i at);
      held = λ none. (none-before none).0;
    }

    module _ (here : old.has asked.0 c ≡ true) (free : has_none mid s.held.items c ≡ true) where
      settling : Settling c
      settling = by (old.has asked.0 c) here (settles.is c listed)
        where
          by : (b : Bool) → b ≡ true → running.IsDone (provenance_of files) (macros_at old names w.table c) (seen_at (stores old names w.runs.sets) w.runs.gathered c) (seen_at (stores mid more hides) settles.out c) (seen_at (stores mid more hides) s.rest c) (failures_at mid s.held.items c) b
              → Settling c
          by b is (running.unasked clean left) = absurd (true≢false (sym is))
          by b is (running.settled clean d) = (seen_at (stores mid more hides) settles.out c, seen_at (stores mid more hides) s.rest c, d)
          by b is (running.refused failure one left d) = absurd (true≢false (sym free ∙ some-seen seen_failure (faults_at mid s.held.items c) failure [] one))

      abbrev done_tokens : List Token
      done_tokens = map (seen more files) (items_at mid s.done c)

      module _ (at : ℕ) (x : ComesTo old names files w at c) (index n : ℕ) (will : WillPut old names files w x index n) where
        abbrev ahead : List (HiddenToken base_place.Place)
        ahead = x.before ++ take index x.done

        abbrev number : ℕ
        number = length x.before + index

        abbrev token : Token
        token = token_of (moved (seen_place files) will.made)

        rest : (behind : List (HiddenToken base_place.Place)) × (done_tokens ≡ tokens_made files ((x.before ++ x.done) ++ behind))
        rest =
            let all = comes-all (seen_hidden names w.runs.sets) (provenance_of files) (macros_at old names w.table) old w.runs.gathered segments c listed here settling x in (
              all.0,
              ap (λ xs. map (seen more files) (items_at mid xs c)) settles.tokens
                  ∙ (ap (map (seen more files)) (items-bared mid settles.out c) ∙ (seen-out more files hides (items_at mid settles.out c) ∙ ap (tokens_made files) all.1)),
            )

        whole : (x.before ++ x.done) ++ rest.0 ≡ x.before ++ (x.done ++ rest.0)
        whole = append_assoc x.before x.done rest.0

        within : index < length x.done
        within = slice_get_within x.done index will.made will.stands

        tokens-ahead : take number done_tokens ≡ tokens_made files ahead
        tokens-ahead =
            ap (take number) rest.1
            ∙ (take-map token_of number (map (moved (seen_place files)) ((x.before ++ x.done) ++ rest.0))
            ∙ ap (map token_of) (take-map (moved (seen_place files)) number ((x.before ++ x.done) ++ rest.0)
            ∙ ap (map (moved (seen_place files))) (ap (take number) whole
            ∙ (take-append-add x.before (x.done ++ rest.0) index ∙ ap (λ l. x.before ++ l) (take-append-le index x.done rest.0 (let less = within in omega (arith, less)))))))

        token-there : slice_get done_tokens number ≡ Some token
        token-there =
            let all = (x.before ++ x.done) ++ rest.0 in
            let made : slice_get all number ≡ Some will.made = ap (λ l. slice_get l number) whole ∙ (get-behind x.before (x.done ++ rest.0) index ∙ (slice_get-front x.done rest.0 index within ∙ will.stands)) in
            ap (λ ts. slice_get ts number) rest.1 ∙ get-map token_of (map (moved (seen_place files)) all) number (moved (seen_place files) will.made) (get-map (moved (seen_place files)) all number will.made made)

        first-now : first_tokens more files puts.middle s.done c number ≡ tokens_made files ahead
        first-now = ap (λ ts. take number (map (seen more files) ts)) (items_at-Keeps s.done c puts.until known.own listed_mid) ∙ tokens-ahead

        put-one : (i : ℕ) → IsNth mid settles.out c number i → IsNth new next.prepared.list c n (length w.prepared.list + puts.puts.each.place i)
        put-one i nth =
            let bare : IsNth mid s.done c number i = subst (λ l. IsNth mid l c number i) (sym settles.tokens) (nth-mapped mid (λ (h : base_hidden.Hidden). h.token) settles.out c number i nth) in
            let stands = nth-stands mid c s.done number i bare in
            let same : seen more files stands.item.1 ≡ token = same_Some (seen more files stands.item.1) token
            (sym (get-map (seen more files) (items_at mid s.done c) number stands.item.1 (stands-element mid c stands)) ∙ token-there) in
            let out : is_outside (awaits will.awaited (first_tokens more files puts.middle s.done c number)) (seen more files stands.item.1) ≡ true =
            (λ j. is_outside (awaits will.awaited (first-now j)) (same j)) ∙ ((λ j. is_outside (will.free j) token) ∙ ap not will.outside_is) in
            let has_free : puts.middle.has puts.free c ≡ true = puts.is_free.at c listed_then ∙ (λ j. (keeps.at asked.0 c ask.own listed ∙ here) j && free j) in
            let at_then = awaits-kept (Keeps-trans keeps puts.until) stored.owns.runs.pragmas listed will.awaits_at in
            let put = puts.puts.each.at files c will.awaited listed_then at_then has_free number i stands.item (nth-kept s.done puts.until known.own listed_mid number i bare) (stands-get mid c stands) out in
            let long : length (items_at new w.prepared.list c) + length (outside will.awaited (first_tokens more files puts.middle s.done c number)) ≡ n =
            (λ j. length (items_at-Keeps w.prepared.list c (Keeps-trans keeps later) stored.owns.prepared.list listed j) + length (outside will.awaited (first-now j))) ∙ sym will.number_is in
            subst (λ l. IsNth new l c n (length w.prepared.list + puts.puts.each.place i)) (sym puts.puts.is)
            (subst (λ k. IsNth new (w.prepared.list ++ puts.puts.kept) c k (length w.prepared.list + puts.puts.each.place i)) long
            (nth-behind new c w.prepared.list puts.puts.kept (length (outside will.awaited (first_tokens more files puts.middle s.done c number))) (puts.puts.each.place i) put))

  -- what both have of it they have in one element, where neither is held
  module _ (c d : List ℕ) (listed : IsConfig old.arities c) (listed_too : IsConfig old.arities d) (index n m : ℕ) where
    abbrev Now : Type 0
    Now = Shares new more files next c d index n m

    both-put : old.has asked.0 c ≡ true → old.has asked.0 d ≡ true → has_none mid s.held.items c ≡ true → has_none mid s.held.items d ≡ true
        → (at size : ℕ) (span : thin.AreSpan old names files w at size c d) → WillPut old names files w span.one index n → WillPut old names files w span.other index m → HaveOne new next.prepared.list c d n m
    both-put here there free free_too at size span one other =
        let it = span-one (seen_hidden names w.runs.sets) (provenance_of files) (macros_at old names w.table) old w.runs.gathered segments at size c d listed listed_too here there (settling c listed here free) (settling d listed_too there free_too) span
        index one.made other.made one.stands other.stands in
        (length w.prepared.list + puts.puts.each.place it.0, put-one c listed here free at span.one index n one it.0 it.1, put-one d listed_too there free_too at span.other index m other it.0 it.2)

    shares-waiting : asked.0 ≡ live.0 → new.has next.prepared.live.0 c ≡ true → new.has next.prepared.live.0 d ≡ true
        → SharesWaiting old names files w new more files next c d index n m
    shares-waiting same alive alive_too at size span less one other = by (has_none new next.runs.held.items c) (has_none new next.runs.held.items d) refl refl
      where
        by : (a b : Bool) → has_none new next.runs.held.items c ≡ a → has_none new next.runs.held.items d ≡ b → Now
        by false b e f = thin.one_held (λ none. true≢false (sym none ∙ e))
        by true false e f = thin.other_held (λ none. true≢false (sym none ∙ f))
        by true true e f =
            let was = none-before c listed e in
            let was_too = none-before d listed_too f in
            thin.put (both-put (is-asked c listed same alive was.0) (is-asked d listed_too same alive_too was_too.0) was.1 was_too.1 at size span one other)

  pub shares-settled : asked.0 ≡ live.0 → KeepsShares files names old w files more new next
  shares-settled same = record {
    longer = (puts.puts.kept, puts.puts.is);
    at = λ c d listed listed_too alive alive_too k l one other _ _ index n m shares.
        shares-moved old names files w new more files next c d (still c listed) (still d listed_too) index n m (shares-waiting c d listed listed_too index n m same alive alive_too) shares;
  }
