-- The text of a run of which a first part has settled, as the run goes on and where it ends.
use Rattle.std.proofs.Common.{◌≡◌, ℕ, ◌⊎◌, inl, inr, List, [], ◌∷◌, ◌++◌, append-nil, append_assoc, map, Result, Ok, Err, refl, sym, ap, ◌∙◌, subst}
use Rattle.std.proofs.lemmas.List.{map-append}
use Rattle.c11_directives.specs.Lines.{Line}
use Rattle.c11_directives.specs.Pre.{State, with_text}
use Rattle.c11_macros.proofs.SettledLists.{held-more, settles-more}
use Rattle.c11_macros.proofs.Settling.{held-again, settle-again}
use Rattle.c11_macros.specs.Expansion.{Expands, empty}
use Rattle.c11_macros.specs.Hidden.{Failure, Hidden, Provenance}
use Rattle.c11_macros.specs.Macros.{Macros}
use Rattle.c11_macros.specs.Runs.{IsHeld, Passes, Runs, Settles, Uses, after_these, alone, begins, call, goes_on, held, object, open_call, open_end, stay, waits, whole}
use Rattle.c11_macros.specs.Text.{TextExpands, fault_of, place_alone, text_of_answer, token_of, unhidden}
use Rattle.sc_expand.proofs.SettledEnds.{settles-closed}
use Rattle.sc_expand.proofs.SettledPlaces.{settles-moved}
use Rattle.sc_expand.proofs.TextLemmas.{places-kept}
use Rattle.sc_expand.specs.Open.{closed}
use Rattle.sc_model.specs.Token.{Place, Token}
use Rattle.sc_prep.proofs.PragmaMoves.{awaits-append, outside-append}
use Rattle.sc_prep.proofs.Terms.{IsSettledAt, Sets, Walk, held_at, hidden_at, macros_at, seen_place}
use Rattle.sc_prep.specs.Gathered.{HasText, StillWaits, refused, settling}
use Rattle.sc_prep.specs.Pragmas.{Awaited, awaits, no_operator, outside}

abbrev hidden : List Token → List (Hidden Place)
hidden ts = map unhidden ts

-- nothing was put out of it
pub text-begins : (s : State) (gathered : List (Hidden Place)) (list : List Token) → gathered ≡ hidden s.run → list ≡ s.output → HasText s gathered list no_operator []
text-begins s gathered list all is = settling [] s.run [] [] refl (whole begins) all (is ∙ sym (append-nil s.output)) refl

-- the same lists
pub text-as : {s : State} {gathered tokens : List (Hidden Place)} {list put : List Token} {awaited : Awaited} {faults told : List (Failure Place)} → tokens ≡ gathered → put ≡ list → told ≡ faults
    → HasText s gathered list awaited faults → HasText s tokens put awaited told
text-as {s} {gathered} {list = list} {put} {awaited} {told = told} same_tokens same_put same_faults has =
    subst (λ ts. HasText s ts put awaited told) (sym same_tokens) (subst (λ ts. HasText s gathered ts awaited told) (sym same_put) (subst (HasText s gathered list awaited) (sym same_faults) has))

pub text-awaits : {s : State} {gathered : List (Hidden Place)} {list : List Token} {awaited now : Awaited} {faults : List (Failure Place)} → now ≡ awaited → HasText s gathered list awaited faults → HasText s gathered list now faults
text-awaits {s} {gathered} {list} {faults = faults} same has = subst (λ a. HasText s gathered list a faults) (sym same) has

-- more is gathered
run-more : (s : State) (line : Line) (before new : List Token) → s.run ≡ before ++ new → (with_text s line).run ≡ before ++ (new ++ line.tokens)
run-more s line before new run = ap (λ ts. ts ++ line.tokens) run ∙ append_assoc before new line.tokens

pub text-more : (s : State) (line : Line) (gathered : List (Hidden Place)) (list : List Token) (awaited : Awaited) (faults : List (Failure Place)) → HasText s gathered list awaited faults
    → HasText (with_text s line) (gathered ++ hidden line.tokens) list awaited faults
text-more s line gathered list awaited _ (settling before new out left run settles all is behind) =
    settling before (new ++ line.tokens) out left (run-more s line before new run) settles
    (ap (λ hs. hs ++ hidden line.tokens) all ∙ (append_assoc left (hidden new) (hidden line.tokens) ∙ ap (λ hs. left ++ hs) (sym (map-append unhidden new line.tokens)))) is behind
text-more s line gathered list awaited _ (refused before new failure run is) = refused before (new ++ line.tokens) failure (run-more s line before new run) is

-- what is gathered doesn't count where a fault holds the run
pub text-held : {s : State} {gathered : List (Hidden Place)} (tokens : List (Hidden Place)) {list : List Token} {awaited : Awaited} {faults : List (Failure Place)} → (faults ≡ [] → ⊥) → HasText s gathered list awaited faults
    → HasText s tokens list awaited faults
text-held tokens some (settling before new out left run settles all is behind) = absurd (some refl)
text-held tokens some (refused before new failure run is) = refused before new failure run is

module _ (s : State) (gathered : List (Hidden Place)) (list : List Token) (awaited : Awaited) where
  all-run : (before new : List Token) → s.run ≡ before ++ new → hidden before ++ hidden new ≡ hidden s.run
  all-run before new run = sym (ap hidden run ∙ map-append unhidden before new)

  -- what is put out behind the output, and what is awaited then
  pub put-behind : (out done : List (Hidden Place)) → list ≡ s.output ++ outside no_operator (map token_of out) → awaited ≡ awaits no_operator (map token_of out)
      → list ++ outside awaited (map token_of done) ≡ s.output ++ outside no_operator (map token_of (out ++ done))
  put-behind out done is behind =
      (λ i. is i ++ outside (behind i) (map token_of done))
      ∙ (append_assoc s.output (outside no_operator (map token_of out)) (outside (awaits no_operator (map token_of out)) (map token_of done))
      ∙ ap (λ ts. s.output ++ ts) (sym (ap (outside no_operator) (map-append token_of out done) ∙ outside-append no_operator (map token_of out) (map token_of done))))

  pub awaits-behind : (out done : List (Hidden Place)) → awaited ≡ awaits no_operator (map token_of out) → awaits awaited (map token_of done) ≡ awaits no_operator (map token_of (out ++ done))
  awaits-behind out done behind =
      ap (λ a. awaits a (map token_of done)) behind ∙ sym (ap (awaits no_operator) (map-append token_of out done) ∙ awaits-append no_operator (map token_of out) (map token_of done))

  -- what is gathered settles again
  pub text-settles : (done rest : List (Hidden Place)) → HasText s gathered list awaited [] → Settles place_alone s.macros gathered done rest
      → HasText s rest (list ++ outside awaited (map token_of done)) (awaits awaited (map token_of done)) []
  text-settles done rest (settling before new out left run settles all is behind) again =
      settling s.run [] (out ++ done) rest (sym (append-nil s.run))
      (subst (λ ts. Settles place_alone s.macros ts (out ++ done) rest) (all-run before new run)
      (settle-again place_alone s.macros (hidden before) (hidden new) settles (subst (λ ts. Settles place_alone s.macros ts done rest) all again)))
      (sym (append-nil rest))
      (put-behind out done is behind) (awaits-behind out done behind)

  -- or is refused, whatever follows
  pub text-refused : (put : List Token) (behind : Awaited) (failure : Failure Place) → HasText s gathered list awaited [] → IsHeld place_alone s.macros gathered failure → HasText s [] put behind (failure ∷ [])
  text-refused put now failure (settling before new out left run settles all is behind) fails =
      refused s.run [] failure (sym (append-nil s.run))
      (subst (λ ts. IsHeld place_alone s.macros ts failure) (all-run before new run)
      (held-again place_alone s.macros (hidden before) (hidden new) settles (subst (λ ts. IsHeld place_alone s.macros ts failure) all fails)))

  -- ---- the run's end

  -- the run expands to what was put out of it, and what the gathered tokens become
  pub text-expands : (r : Result (List (Hidden Place)) (Failure Place)) → HasText s gathered list awaited [] → Expands place_alone s.macros gathered r
      → (out : List (Hidden Place)) × (list ≡ s.output ++ outside no_operator (map token_of out)) × (awaited ≡ awaits no_operator (map token_of out)) × TextExpands s.macros s.run (text_of_answer (after_these out r))
  text-expands r (settling before new out left run settles all is behind) expands = (
    out,
    is,
    behind,
    record {
      answer = after_these out r;
      expands = subst (λ ts. Expands place_alone s.macros ts (after_these out r)) (all-run before new run)
          (settles-more place_alone s.macros (hidden new) r settles (subst (λ ts. Expands place_alone s.macros ts r) all expands));
      is = refl;
    },
  )

  -- or has the fault that holds it
  pub text-fails : (failure : Failure Place) → HasText s gathered list awaited (failure ∷ []) → TextExpands s.macros s.run (Err (fault_of failure))
  text-fails failure (refused before new _ run is) = record {
    answer = Err failure;
    expands = subst (λ ts. Expands place_alone s.macros ts (Err failure)) (all-run before new run) (held-more place_alone s.macros (hidden new) is);
    is = refl;
  }

-- where nothing is left of it, or it has settled and nothing holds it
pub data TextEnds (s : State) (gathered : List (Hidden Place)) (list : List Token) (awaited : Awaited) (faults : List (Failure Place)) : Type 0 where
  puts : (out : List (Hidden Place)) → list ≡ s.output ++ outside no_operator (map token_of out) → awaited ≡ awaits no_operator (map token_of out) → faults ≡ []
      → TextExpands s.macros s.run (text_of_answer (after_these out (closed gathered))) → TextEnds s gathered list awaited faults
  fails : (failure : Failure Place) → faults ≡ failure ∷ [] → gathered ≡ [] → TextExpands s.macros s.run (Err (fault_of failure)) → TextEnds s gathered list awaited faults

pub text-ends : {s : State} {gathered : List (Hidden Place)} {list : List Token} {awaited : Awaited} {faults : List (Failure Place)} → (gathered ≡ []) ⊎ ((faults ≡ []) × Expands place_alone s.macros gathered (closed gathered)) → HasText s gathered list awaited faults
    → TextEnds s gathered list awaited faults
text-ends {s} {gathered} {list} {awaited} ends (settling before new out left run settles all is behind) =
    let at = text-expands s gathered list awaited (closed gathered) (settling before new out left run settles all is behind) (by ends) in
    puts at.0 at.1 at.2 refl at.3
  where
    by : (gathered ≡ []) ⊎ (◌≡◌ {A = List (Failure Place)} [] [] × Expands place_alone s.macros gathered (closed gathered)) → Expands place_alone s.macros gathered (closed gathered)
    by (inl nothing) = subst (λ hs. Expands place_alone s.macros hs (closed hs)) (sym nothing) empty
    by (inr both) = both.1
text-ends {s} {gathered} {list} {awaited} (inl nothing) (refused before new failure run is) = fails failure refl nothing (text-fails s gathered list awaited failure (refused before new failure run is))
text-ends (inr both) (refused before new failure run is) = absurd (cc)

-- ---- where the run is empty

pub empty-both : {A : Type 0} (xs ys : List A) → [] ≡ xs ++ ys → (xs ≡ []) × (ys ≡ [])
empty-both [] ys is = (refl, sym is)
empty-both (x ∷ xs) ys is = absurd (cc)

none-passed : (macros : Macros) (ts done left : List (Hidden Place)) → ts ≡ [] → Passes place_alone macros ts done left → (done ≡ []) × (left ≡ [])
none-passed macros ts done left is begins = (refl, is)
none-passed macros ts done left is (goes_on u before run) = let none = none-passed macros ts _ _ is before in absurd (cc)

none-settles : (macros : Macros) (ts out left : List (Hidden Place)) → ts ≡ [] → Settles place_alone macros ts out left → (out ≡ []) × (left ≡ [])
none-settles macros ts out left is (whole passes) = none-passed macros ts out [] is passes
none-settles macros ts out left is (open_end u passes run) = let none = none-passed macros ts _ _ is passes in absurd (cc)

none-held : (macros : Macros) (ts : List (Hidden Place)) (failure : Failure Place) → ts ≡ [] → IsHeld place_alone macros ts failure → ⊥
none-held macros ts failure is (held u passes run) = let none = none-passed macros ts _ _ is passes in cc

-- nothing was gathered, put out or refused
pub text-empty : (s : State) (gathered : List (Hidden Place)) (list : List Token) (awaited : Awaited) (faults : List (Failure Place)) → s.run ≡ [] → HasText s gathered list awaited faults
    → (gathered ≡ []) × (list ≡ s.output) × (faults ≡ []) × (awaited ≡ no_operator)
text-empty s gathered list awaited _ none (settling before new out left run settles all is behind) =
    let both = empty-both before new (sym none ∙ run) in
    let nothing = none-settles s.macros (hidden before) out left (ap hidden both.0) settles in (
      all ∙ (ap (λ hs. hs ++ hidden new) nothing.1 ∙ ap hidden both.1),
      is ∙ (ap (λ ts. s.output ++ outside no_operator (map token_of ts)) nothing.0 ∙ append-nil s.output),
      refl,
      behind ∙ ap (λ ts. awaits no_operator (map token_of ts)) nothing.0,
    )
text-empty s gathered list awaited _ none (refused before new failure run is) =
    absurd (none-held s.macros (hidden before) failure (ap hidden (empty-both before new (sym none ∙ run)).0) is)

-- ---- settled once more

module _ {P : Type 0} {provenance : Provenance P} (macros : Macros) where
  -- a name that waits does so at once
  waits-again : {front source done rest : List (Hidden P)} {name : Hidden P} {u : Uses P} → Runs provenance macros front source done (waits name rest) u → (v : Uses P) × Runs provenance macros (name ∷ []) rest [] (waits name rest) v
  waits-again (stay is last run) = waits-again run
  waits-again (alone is) = (_, alone {front = []} is)
  waits-again (open_call is) = (_, open_call {front = []} is)
  waits-again (object d body is result run) = waits-again run
  waits-again (call d arguments close after left rest taken body results is leaves each result run) = waits-again run

  -- what is left has settled
  settled-again : {ts done rest : List (Hidden P)} → Settles provenance macros ts done rest → Settles provenance macros rest [] rest
  settled-again (whole passes) = whole begins
  settled-again (open_end u passes run) = let x = waits-again run in open_end x.0 begins x.1

  -- nothing is left, or that still waits
  pub still-waits : {ts done rest : List (Hidden P)} → Settles provenance macros ts done rest → (rest ≡ []) ⊎ StillWaits provenance macros rest
  still-waits (whole passes) = inl refl
  still-waits (open_end {rest = rest} {name = name} u passes run) = let x = waits-again run in inr (record { name = name; rest = rest; is = refl; uses = x.0; runs = x.1 })

  still-settled : {ts : List (Hidden P)} → StillWaits provenance macros ts → Settles provenance macros ts [] ts
  still-settled waiting = subst (λ ts. Settles provenance macros ts [] ts) (sym waiting.is) (open_end waiting.uses begins waiting.runs)

-- and becomes this where nothing follows
settled-expands : {ts done rest : List (Hidden Place)} (macros : Macros) → Settles place_alone macros ts done rest → Expands place_alone macros rest (closed rest)
settled-expands {rest = rest} macros settles = subst (Expands place_alone macros rest) (nothing-before (closed rest)) (settles-closed place_alone macros (settled-again macros settles))
  where
    nothing-before : (r : Result (List (Hidden Place)) (Failure Place)) → after_these [] r ≡ r
    nothing-before (Ok ts) = refl
    nothing-before (Err failure) = refl

-- so what is gathered becomes this, if anything is
pub settled-text : (s : Sets) (names files : List (List ℕ)) (w : Walk) (c : List ℕ) → IsSettledAt s names files w c
    → (hidden_at s names files w.runs.sets w.runs.gathered c ≡ []) ⊎ ((held_at s files w.runs.held.items c ≡ [])
    × Expands place_alone (macros_at s names w.table c) (hidden_at s names files w.runs.sets w.runs.gathered c) (closed (hidden_at s names files w.runs.sets w.runs.gathered c)))
settled-text s names files w c (inl nothing) = inl nothing
settled-text s names files w c (inr both) =
    let macros = macros_at s names w.table c in
    inr (both.0, settled-expands macros (settles-moved (seen_place files) (places-kept files) macros (still-settled macros both.1)))
