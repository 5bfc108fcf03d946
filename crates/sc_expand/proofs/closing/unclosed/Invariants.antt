use Rattle.std.proofs.Common.{◌≡◌, ◌&&◌, ◌<◌, not, All, List, [], ℕ, map, take, if◌then◌else◌}
use Rattle.sc_expand.proofs.ClosingLemmas.{is_any}
use Rattle.sc_expand.proofs.Terms.{AreAlike, AreAlikeFaults, Cond, Denotes, Fault, Hidden, IsAlike, IsCond, IsConfig, IsNever, Keeps, failures_at, items_at, unclosed_at}
use Rattle.sc_expand.proofs.closing.unclosed.Given as goal

abbrev pub invariant-loop-index : goal.invariant-loop-index
invariant-loop-index g l =
    let sets = g.C.Conditions.sets in
    let first = sets l.fn.conds in
    let now = sets l.conds in
    record {
      keeps : Keeps first now;
      left : Denotes now l.left.0 (λ c. first.has l.fn.cond.0 c && not (is_any (items_at first (take l.index l.list) c)));
      faults : (c : List ℕ) → IsConfig first.arities c → failures_at now l.faults.items c ≡ (if first.has l.fn.cond.0 c then map unclosed_at (take 1 (items_at first (take l.index l.list) c)) else []);
      alike : (c d : List ℕ) → IsConfig first.arities c → IsConfig first.arities d → IsAlike first c d l.fn.cond → AreAlike first c d l.list → AreAlikeFaults now c d l.faults.items;
      some : All (λ (f : Fault). IsNever now f.cond.0 → ⊥) l.faults.items;
      own : All (λ (f : Fault). IsCond now f.cond.0) l.faults.items;
      placed : (files : ℕ) → All (λ (item : Cond × Hidden). item.1.token.place.file.0 < files) l.list → All (λ (f : Fault). f.place.file.0 < files) l.faults.items;
    }
