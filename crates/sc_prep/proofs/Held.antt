-- What the tables hold of a walk as it goes on.
use Rattle.std.proofs.Common.{◌≡◌, ℕ, ◌<◌, Bool, List, [], ◌∷◌, All, length, map, sym, subst}
use Rattle.sc_base.specs.declared.fault.Fault.{Fault}
use Rattle.sc_prep.proofs.Facts.{All-append, All-map, All-nil, All-push, under}
use Rattle.sc_prep.proofs.Terms.{Cond, IsHeldHidden, IsHeldWalk, IsPlaced, Name, RefusesEach, Sets, Token, Walk, set_at, tokens_read}
use Rattle.sc_prep.proofs.Texts.{bare, read-more}
use Rattle.sc_prep.proofs.WalkMoves.{read-walk}
use Rattle.sc_macro.specs.Seen.{AreHeld}
use Rattle.sc_subst.specs.declared.hidden.Hidden.{Hidden}
use Rattle.sc_subst.specs.declared.hidden.Hide.{Hide}

-- a fault in a file of the table
pub refused-held : {old new : Sets} (names : List (List ℕ)) (files : ℕ) (test : Token → Bool) (w next : Walk) (fault : Fault) → RefusesEach old w (fault ∷ []) new next
    → fault.place.file.0 < files → IsHeldWalk names files test w → IsHeldWalk names files test next
refused-held names files test w next fault refused there held =
    let P : Fault → Type 0 = λ f. f.place.file.0 < files in
    subst (λ (v : Walk). IsHeldWalk names files test v) (sym refused.same) (record {
      runs = held.runs;
      list = held.list;
      passed = held.passed;
      faults = subst (All P) (sym refused.faults) (All-push P w.prepared.faults.items fault held.faults there);
      once = held.once;
    })

-- a line that is read
pub read-held : (names : List (List ℕ)) (files : ℕ) (test : Token → Bool) (w : Walk) (hide : Hide) → hide.0 < length w.runs.sets → set_at w.runs.sets hide.0 ≡ [] → (line : List Token) → All (IsPlaced names files) line
    → IsHeldWalk names files test w → IsHeldWalk names files test (read-walk w hide line)
read-held names files test w hide own none line all held =
    let H : Cond × Hidden → Type 0 = λ item. IsHeldHidden names w.runs.sets item.1 × (item.1.token.place.file.0 < files) in
    let nothing : AreHeld names (set_at w.runs.sets hide.0) = subst (AreHeld names) (sym none) (All-nil (λ (name : Name). name.0 < length names)) in
    record {
      runs = record {
        gathered = All-append H w.runs.gathered (under w.acting (map (bare hide) line)) held.runs.gathered
            (All-map H (λ (h : Hidden). (w.acting, h)) (map (bare hide) line) (All-map (λ (h : Hidden). H (w.acting, h)) (bare hide) line
            (λ k d h. let t = all k d h in (record { token = t.held; hide = record { own = own; held = nothing } }, t.file))));
        held = held.runs.held;
        pragmas = held.runs.pragmas;
        read = subst (All (IsPlaced names files)) (sym (read-more w.runs.read w.acting line)) (All-append (IsPlaced names files) (tokens_read w.runs.read) line held.runs.read all);
      };
      list = held.list;
      passed = held.passed;
      faults = held.faults;
      once = held.once;
    }
