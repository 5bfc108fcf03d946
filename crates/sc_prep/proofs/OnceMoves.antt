-- What `#pragma once` and other pragmas do to a walk.
use Rattle.std.proofs.Common.{◌≡◌, ℕ, ◌<◌, ◌&&◌, ◌||◌, Bool, true, false, List, ◌∷◌, length, drop, get_or, Vec, Global, Some, refl, sym, ap, ◌∙◌, subst, if◌then◌else◌}
use Rattle.c11_directives.specs.declared.directive.Directive.TheVariants as directive
use Rattle.sc_model.specs.Token as model
use Rattle.sc_prep.proofs.Facts.{IsTable-Keeps, drop-cons}
use Rattle.sc_prep.proofs.OnceLemmas.{behind-once, behind-other}
use Rattle.sc_prep.proofs.Terms.{Failure, HasText, Hidden, Keeps, Line, MarksFile, OnceFile, Owns, Place, RunAt, Sets, Simulates, SimulatesStep, Standard, State, Token, Walk, acts, is_once, once_at, plain_by, same_bytes, seen_line, state_behind, text_at}
use Rattle.sc_prep.proofs.WalkMoves.{owns-kept, simulates-kept}
use Rattle.sc_prep.specs.Gathered.{refused, settling}
use Rattle.sc_prep.specs.Pragmas.{Awaited}

-- what a pragma leaves as it is
behind-macros : (b : Bool) (l : Line) (s : State) (name : List ℕ) → (if b then state_behind s l directive.Pragma s.macros else s).macros name ≡ s.macros name
behind-macros true l s name = refl
behind-macros false l s name = refl

behind-text : (l : Line) (s : State) (gathered : List (Hidden Place)) (list : List model.Token) (awaited : Awaited) (faults : List (Failure Place)) → HasText s gathered list awaited faults
    → HasText (state_behind s l directive.Pragma s.macros) gathered list awaited faults
behind-text l s gathered list awaited _ (settling before new out left run settles all is behind) = settling before new out left run settles all is behind
behind-text l s gathered list awaited _ (refused before new failure run is) = refused before new failure run is

behind-run : {s : Sets} {names files : List (List ℕ)} (w : Walk) (c : List ℕ) (b : Bool) (l : Line) (state : State) → RunAt s names files w.runs w.prepared.list c state
    → RunAt s names files w.runs w.prepared.list c (if b then state_behind state l directive.Pragma state.macros else state)
behind-run w c true l state at = record { run = at.run; awaited = at.awaited; awaits = at.awaits; text = behind-text l state _ _ _ _ at.text }
behind-run w c false l state at = at

-- its file is marked in the configurations that act
module _ (names : List (List ℕ)) {old new : Sets} (keeps : Keeps old new) (w : Walk) (owns : Owns old w) (once : Vec OnceFile Global) where
  marks-first : (standard : Standard) (token : Token) (tokens : List Token) → MarksFile old w.once.items token.place.file.0 w.acting.0 new once.items
      → ((files : List (List ℕ)) → is_once (seen_line standard names files (token ∷ tokens)) ≡ true)
      → SimulatesStep names old w new (record w { once = once }) (λ files config m. plain_by m (seen_line standard names files (token ∷ tokens)) (Some directive.Pragma))
  marks-first standard token tokens marks is_one =
      let kept = owns-kept keeps w owns in
      record {
        owns = record { group = kept.group; acting = kept.acting; sections = kept.sections; runs = kept.runs; once = marks.own; prepared = kept.prepared };
        table = IsTable-Keeps keeps;
        at = λ files config m listed is simulates.
            let same = simulates-kept keeps w owns names files config m listed is simulates in
            let l = seen_line standard names files (token ∷ tokens) in
            record {
              active = same.active;
              acting = same.acting;
              sections = same.sections;
              prepared = record { live = same.prepared.live; fault = same.prepared.fault };
              text = λ none. behind-run w config (acts m) l m.state (same.text none);
              macros = λ none name. same.macros none name ∙ sym (behind-macros (acts m) l m.state name);
              once = λ none name.
                  marks.at files config name listed
                  ∙ (ap (λ b. (b && same_bytes name (text_at files token.place.file.0)) || once_at old files w.once.items config name) simulates.acting
                  ∙ (ap (λ b. (acts m && same_bytes name (text_at files token.place.file.0)) || b) (simulates.once none name)
                  ∙ sym (behind-once (acts m) l m.state (text_at files token.place.file.0) name (is_one files) refl)));
            };
      }

  pub marks : (standard : Standard) (line : List Token) (other : Token) → 0 < length line → MarksFile old w.once.items (get_or line 0 other).place.file.0 w.acting.0 new once.items
      → ((files : List (List ℕ)) → is_once (seen_line standard names files line) ≡ true)
      → SimulatesStep names old w new (record w { once = once }) (λ files config m. plain_by m (seen_line standard names files line) (Some directive.Pragma))
  marks standard line other some marked is_one =
      let cut = drop-cons line 0 other some in
      subst (λ l. SimulatesStep names old w new (record w { once = once }) (λ files config m. plain_by m (seen_line standard names files l) (Some directive.Pragma))) (sym cut)
      (marks-first standard (get_or line 0 other) (drop 1 line) marked (λ files. ap (λ l. is_once (seen_line standard names files l)) (sym cut) ∙ is_one files))

-- another pragma has no effect
pub passes : (names : List (List ℕ)) (s : Sets) (w : Walk) → Owns s w → (standard : Standard) (line : List Token) → ((files : List (List ℕ)) → is_once (seen_line standard names files line) ≡ false)
    → SimulatesStep names s w s w (λ files config m. plain_by m (seen_line standard names files line) (Some directive.Pragma))
passes names s w owns standard line other = record {
  owns = owns;
  table = λ is. is;
  at = λ files config m listed is simulates.
      subst (Simulates s names files w config) (sym (ap (λ (t : State). record m { state = t }) (behind-other (acts m) (seen_line standard names files line) m.state (other files)))) simulates;
}
