-- What configurations share over one stage of a walk and then another.
use Rattle.std.proofs.Common.{is_none, ◌≡◌, ℕ, List, length, None, sym, ap, ◌∙◌}
use Rattle.sc_prep.proofs.Facts.{IsConfig-Keeps}
use Rattle.sc_prep.proofs.SharesEntered.{live-unfaulty}
pub use Rattle.sc_prep.proofs.SharesKept.{any-shares}
use Rattle.sc_prep.proofs.SharesKept.{shares-behind, shares-stay}
use Rattle.sc_prep.proofs.Terms.{Extends, IsStored, Keeps, Leads, Machine, Sets, Walk}
use Rattle.sc_prep.specs.Thin.{KeepsSharesOf}

-- a machine without a fault had none, and its macros are those that it had
abbrev pub KeepsMacros : (Machine → Type 0) → (List ℕ → Machine → Machine → Type 0) → Type 0
KeepsMacros from does = (config : List ℕ) (m n : Machine) → from m → does config m n → n.fault ≡ None → (m.fault ≡ None) × (n.state.macros ≡ m.state.macros)

-- nothing is put out or read
pub shares-led : {files names more_files more : List (List ℕ)} {old new : Sets} {from : Machine → Type 0} {does : List ℕ → Machine → Machine → Type 0} → Keeps old new → Extends names more → Extends files more_files → (w next : Walk)
    → IsStored old names (length files) w → next.runs ≡ w.runs → next.prepared.list ≡ w.prepared.list → Leads files names old w more_files more new next from does → KeepsMacros from does → KeepsSharesOf from files names old w more_files more new next
shares-led {does = does} keeps grows files_grow w next stored runs list leads macros =
    shares-stay keeps grows files_grow w next stored runs list (λ c listed live k at here.
    let a = leads.at c k listed at here in
    let none = live-unfaulty a.simulates live in
    let kept = macros c k a.machine here a.done none in
    λ _ _ i name. (a.simulates.macros none name ∙ (ap (λ m. m name) kept.1 ∙ sym (at.macros kept.0 name))) i)

-- one stage, and then another
pub shares-then : {a b c : Sets} {files names mid_files mid more_files more : List (List ℕ)} {u v w : Walk} {from between : Machine → Type 0} {does later : List ℕ → Machine → Machine → Type 0} → Keeps a b
    → Leads files names a u mid_files mid b v from does → ((config : List ℕ) (m n : Machine) → from m → does config m n → between n) → Leads mid_files mid b v more_files more c w between later
    → ((config : List ℕ) (m n : Machine) → between m → later config m n → n.fault ≡ None → m.fault ≡ None)
    → KeepsSharesOf from files names a u mid_files mid b v → KeepsSharesOf between mid_files mid b v more_files more c w → KeepsSharesOf from files names a u more_files more c w
shares-then keeps leads goes next unfaulty first second =
    shares-behind keeps
    (λ c k listed at here live.
    let one = leads.at c k listed at here in
    let between = goes c k one.machine here one.done in
    let two = next.at c one.machine (IsConfig-Keeps keeps listed) one.simulates between in
    let none = unfaulty c one.machine two.machine between two.done (live-unfaulty two.simulates live) in
    record { machine = one.machine; simulates = one.simulates; live = one.simulates.prepared.live ∙ ap is_none none; is = between })
    second first
