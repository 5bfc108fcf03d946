-- A text that is gathered comes to a token as the text itself does.
use Rattle.std.proofs.Common.{◌≡◌, ℕ, List, [], ◌∷◌, ◌++◌, map, Result, Ok, Err, refl, sym, ap, subst}
use Rattle.c11_directives.proofs.PragmaLaws.{pragmas-sole}
use Rattle.c11_directives.specs.Pragmas.{CarriesOutPragmas}
use Rattle.c11_macros.proofs.Halting.{halts}
use Rattle.c11_macros.proofs.OneRun.{one-run}
use Rattle.c11_macros.proofs.Settling.{held-again, settle-again}
use Rattle.c11_macros.proofs.SettlesLaws.{one-settled, some-settled}
use Rattle.c11_macros.proofs.Splitting.{split}
use Rattle.c11_macros.specs.Expansion.{IsWithin}
use Rattle.c11_macros.specs.Hidden as model
use Rattle.c11_macros.specs.Runs.{End, Passes, Runs, Settles, SettlesTo, Uses, fails, over, waits, whole, open_end}
use Rattle.sc_base.specs.declared.place.Place as base_place
use Rattle.sc_expand.proofs.SettledPlaces.{held-moved, settles-moved}
use Rattle.sc_expand.proofs.TakingParts.{none-found}
use Rattle.sc_expand.proofs.TextLemmas.{places-kept}
use Rattle.sc_expand.specs.Moved.{moved, moved_failure}
use Rattle.sc_expand.specs.Seen.{provenance_of}
use Rattle.sc_model.specs.Token.{Place, Token}
use Rattle.sc_prep.proofs.PragmaLaws.{carried, carries-out}
use Rattle.sc_prep.proofs.RunsMoved.{moved_end, moved_uses, runs-moved}
use Rattle.sc_prep.specs.Pragmas as awaiting
use Rattle.sc_prep.specs.Pragmas.{closing, nothing, opening}
use Rattle.sc_prep.proofs.Terms.{Awaited, Macros, awaits, fault_awaiting, no_operator, outside, place_alone, seen_place}

module _ (files : List (List ℕ)) where
  abbrev Base : Type 0
  Base = model.Hidden base_place.Place

  abbrev Seen : Type 0
  Seen = model.Hidden Place

  abbrev pub told : List Base → List Seen
  told = map (moved (seen_place files))

  -- What is gathered settles to its end before the token, whose run is over; all of it is told as
  -- what the text does.
  pub record IsPoint (macros : Macros) (text : List Base) (token : Base) (rest : List Base) (first out done : List Seen) (uses : Uses Place) : Type 0 where
    pub before : List Base
    pub passes : Passes (provenance_of files) macros text before []
    pub out_is : out ≡ first ++ told before
    pub done_of : List Base
    pub after : List Base
    pub used : Uses base_place.Place
    pub runs : Runs (provenance_of files) macros (token ∷ []) rest done_of (over after) used
    pub done_is : done ≡ told done_of
    pub uses_is : uses ≡ moved_uses (seen_place files) used

  ends-over : (e : End base_place.Place) (after : List Seen) → over after ≡ moved_end (seen_place files) e → (ts : List Base) × (e ≡ over ts)
  ends-over (over ts) after is = (ts, refl)
  ends-over (waits name rest) after is = absurd (cc)
  ends-over (fails failure) after is = absurd (cc)

  abbrev Way : Type 0
  Way = Result (List Seen × List Seen) (model.Failure Place)

  both-same : (a b c d : List Seen) → ◌≡◌ {A = Way} (Ok (a, c)) (Ok (b, d)) → (a ≡ b) × (c ≡ d)
  both-same a b c d is = let pair : (a, c) ≡ (b, d) = cc in (ap (λ (p : List Seen × List Seen). p.0) pair, ap (λ (p : List Seen × List Seen). p.1) pair)

  module _ (macros : Macros) (names : List (List ℕ)) (within : IsWithin names macros) (begun more first left out : List Seen) (text : List Base)
      (was : Settles place_alone macros begun first left) (is : told text ≡ left ++ more) (all : Settles place_alone macros (begun ++ more) out []) where
    abbrev Passed : Type 0
    Passed = (before : List Base) × Passes (provenance_of files) macros text before [] × (out ≡ first ++ told before)

    all-passed : (done rest : List Base) → Settles (provenance_of files) macros text done rest → (rest ≡ []) × (out ≡ first ++ told done)
    all-passed done rest d =
        let now = subst (λ l. Settles place_alone macros l (told done) (told rest)) is (settles-moved (seen_place files) (places-kept files) macros d) in
        let both =
        one-settled place_alone macros (begun ++ more) (Ok (out, [])) (Ok (first ++ told done, told rest)) all
        (settle-again place_alone macros begun more was now) in
        let pair = both-same out (first ++ told done) [] (told rest) both in
        (none-found (moved (seen_place files)) rest (sym pair.1), pair.0)

    passed : (r : Result (List Base × List Base) (model.Failure base_place.Place)) → SettlesTo (provenance_of files) macros text r → Passed
    passed (Ok settled) d = by settled.0 settled.1 d (all-passed settled.0 settled.1 d)
      where
        by : (done rest : List Base) → Settles (provenance_of files) macros text done rest → (rest ≡ []) × (out ≡ first ++ told done) → Passed
        by done _ (whole p) both = (done, p, both.1)
        by _ _ (open_end u p run) both = absurd (cc (both.0))
    passed (Err failure) d =
        let now =
        subst (λ l. SettlesTo place_alone macros l (Err (moved_failure (seen_place files) failure))) is
        (held-moved (seen_place files) (places-kept files) macros d) in
        let both =
        one-settled place_alone macros (begun ++ more) (Ok (out, [])) (Err (moved_failure (seen_place files) failure)) all
        (held-again place_alone macros begun more was now) in
        absurd (cc)

    pub is-point : (token : Base) (rest : List Base) {done after : List Seen} {uses : Uses Place}
        → Runs place_alone macros (moved (seen_place files) token ∷ []) (told rest) done (over after) uses → IsPoint macros text token rest first out done uses
    is-point token rest {done} {after} {uses} run =
        let settled = some-settled (provenance_of files) macros names within text in
        let b = passed settled.0 settled.1 in
        let x = split (provenance_of files) macros (halts (provenance_of files) macros names within (token ∷ rest)).1 (token ∷ []) rest refl in
        let there = runs-moved (seen_place files) (places-kept files) macros x.runs in
        let same = one-run place_alone macros run (told x.done) (moved_end (seen_place files) x.end) (moved_uses (seen_place files) x.uses) there in
        let end = ends-over x.end after same.end in
        record {
          before = b.0;
          passes = b.1;
          out_is = b.2;
          done_of = x.done;
          after = end.0;
          used = x.uses;
          runs = subst (λ (e : End base_place.Place). Runs (provenance_of files) macros (token ∷ []) rest x.done e x.uses) end.1 x.runs;
          done_is = same.done;
          uses_is = same.uses;
        }

-- ---- what stands outside of operators

-- no operator is being read behind tokens whose operators are carried out
pub free-behind : (ts earlier : List Token) → CarriesOutPragmas ts (Ok earlier) → (awaits no_operator ts ≡ no_operator) × (earlier ≡ outside no_operator ts)
free-behind ts earlier d =
    by (awaits no_operator ts) (pragmas-sole d (carried (outside no_operator ts) (fault_awaiting (awaits no_operator ts))) (carries-out ts))
  where
    by : (a : Awaited) → Ok earlier ≡ carried (outside no_operator ts) (fault_awaiting a) → (a ≡ no_operator) × (earlier ≡ outside no_operator ts)
    by no_operator is = (refl, cc)
    by (opening p) is = absurd (cc)
    by (awaiting.text p) is = absurd (cc)
    by (closing p) is = absurd (cc)
    by (nothing p) is = absurd (cc)
