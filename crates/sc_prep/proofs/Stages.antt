-- Stages of a line, one after the other.
use Rattle.std.proofs.Common.{◌≡◌, ℕ, List, Result, Ok, Err, sym, subst, ◌∙◌, IfErr, OnOk}
use Rattle.sc_prep.proofs.Terms.{IsHeldWalk, KeepsText, Machine, OutOfMemory, Sets, StandApart, Stop, StopsBy, StopsStage, StopsWalk, Token, Walk, any_machine, any_token}

-- three things that are promised of an answer
pub ok-three : {A E P Q R S : Type 0} (r : Result A E) → (P → Q → R → S) → OnOk r P → OnOk r Q → OnOk r R → OnOk r S
ok-three (Ok x) f p q r = f p q r
ok-three (Err e) f p q r = tt

-- there is no memory
pub no-memory : {K V : Type 0} (s : Sets) (names files : List (List ℕ)) (w : Walk) (tokens : List Token) (comes : List ℕ → Machine → K × V → Type 0) (limit : ℕ) (stop : Stop)
    → stop ≡ OutOfMemory → StopsStage s names files w tokens comes limit stop
no-memory s names files w tokens comes limit stop is = subst (StopsStage s names files w tokens comes limit) (sym is) (record { by = tt; at_place = λ apart. tt })

-- nothing is put out or read by the one stage and then by the other
pub text-then : {more last : List (List ℕ)} {count : ℕ} (v w next : Walk) → KeepsText more count v w → IsHeldWalk last count any_token next
    → next.prepared.list ≡ w.prepared.list → next.runs ≡ w.runs → KeepsText last count v next
text-then v w next was held list runs = record { held = held; list = list ∙ was.list; runs = runs ∙ was.runs }

-- a stop that is told by both
pub stage-stops : {A K V : Type 0} (s : Sets) (names files : List (List ℕ)) (w : Walk) (tokens : List Token) (comes : List ℕ → Machine → K × V → Type 0) (limit : ℕ) (r : Result A Stop)
    → IfErr r (StopsBy s.arities limit) → (StandApart tokens → IfErr r (StopsWalk s names files w any_machine comes limit)) → IfErr r (StopsStage s names files w tokens comes limit)
stage-stops s names files w tokens comes limit (Ok x) by at_place = tt
stage-stops s names files w tokens comes limit (Err stop) by at_place = record { by = by; at_place = at_place }
