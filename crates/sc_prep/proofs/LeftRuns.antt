-- What was read of a run behind a part of it that has settled.
use Rattle.std.proofs.Common.{◌≡◌, ℕ, List, [], ◌∷◌, ◌++◌, append_assoc, map, refl, sym, ap, ◌∙◌, subst}
use Rattle.c11_directives.specs.Pre.{State}
use Rattle.c11_macros.proofs.Settling.{passes-more}
use Rattle.c11_macros.specs.Expansion.{IsWithin}
use Rattle.c11_macros.specs.Footprint as arriving
use Rattle.c11_macros.specs.Runs.{whole}
use Rattle.sc_expand.proofs.RunFootprints.{passes-arrives}
use Rattle.sc_model.specs.Token.{Place, Token}
use Rattle.sc_prep.proofs.Facts.{map-append}
use Rattle.sc_prep.proofs.SettledText.{empty-both}
use Rattle.sc_prep.proofs.Terms.{Arrives, Hidden, IsLeft, Macros, NameHas, Passes, Provenance, Settles, Spot, Used, begins, place_alone, unhidden}
use Rattle.sc_prep.specs.Gathered.{HasText, settling}
use Rattle.sc_prep.specs.Pragmas.{Awaited}

-- none of it has settled
pub left-all : {macros : Macros} {run left : List Token} → left ≡ run → IsLeft macros run left
left-all same = record { before = []; done = []; is = sym same; settles = whole begins }

pub left-as : {macros : Macros} {run left other : List Token} → other ≡ left → IsLeft macros run left → IsLeft macros run other
left-as {macros} {run} same at = subst (IsLeft macros run) (sym same) at

-- more is read
pub left-more : {macros : Macros} {run left : List Token} (more : List Token) → IsLeft macros run left → IsLeft macros (run ++ more) (left ++ more)
left-more {left = left} more at = record { before = at.before; done = at.done; is = ap (λ ts. ts ++ more) at.is ∙ append_assoc at.before left more; settles = at.settles }

-- nothing is left of a run without tokens
pub left-none : {macros : Macros} {run left : List Token} → IsLeft macros run left → run ≡ [] → left ≡ []
left-none {left = left} at none = (empty-both at.before left (sym none ∙ at.is)).1

none-unhidden : (ts : List Token) → map unhidden ts ≡ [] → ts ≡ []
none-unhidden [] e = refl
none-unhidden (t ∷ ts) e = absurd (cc)

-- all of it has settled where nothing of it is gathered
pub left-settled : {s : State} {gathered : List (Hidden Place)} {list : List Token} {awaited : Awaited} → gathered ≡ [] → HasText s gathered list awaited [] → IsLeft s.macros s.run []
left-settled {s} none (settling before new out left run settles all is behind) =
    let both = empty-both left (map unhidden new) (sym none ∙ all) in
    record { before = before; done = out; is = run ∙ ap (λ ts. before ++ ts) (none-unhidden new both.1); settles = subst (Settles place_alone s.macros (map unhidden before) out) both.0 settles }

-- ---- what is met in what is left is met in the run

module _ {P : Type 0} {provenance : Provenance P} {macros : Macros} where
  arrives-then : {ts us vs : List (Hidden P)} → Arrives provenance macros ts us → Arrives provenance macros us vs → Arrives provenance macros ts vs
  arrives-then first arriving.begins = first
  arrives-then first (arriving.goes_on before d answers) = arriving.goes_on (arrives-then first before) d answers

  settles-passes : {ts done : List (Hidden P)} → Settles provenance macros ts done [] → Passes provenance macros ts done []
  settles-passes (whole passes) = passes

pub left-has : (names : List (List ℕ)) {macros : Macros} {run left : List Token} {f : Spot × Used} → IsWithin names macros → IsLeft macros run left → NameHas macros left f → NameHas macros run f
left-has names {macros} {run} {left} within at has =
    let passed = passes-more place_alone macros (map unhidden left) (settles-passes at.settles) in
    let whole_run = ap (map unhidden) at.is ∙ map-append unhidden at.before left in
    record {
      name = has.name;
      behind = has.behind;
      answer = has.answer;
      expands = has.expands;
      arrives = subst (λ (ts : List (Hidden Place)). Arrives place_alone macros ts (map unhidden (has.name ∷ has.behind))) (sym whole_run) (arrives-then (passes-arrives place_alone macros names within passed) has.arrives);
      replaces = has.replaces;
      is = has.is;
    }
