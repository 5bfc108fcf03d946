use Rattle.std.proofs.Common.{◌≡◌, ℕ, ◌+◌, ◌<◌, Bool, ◌∷◌, ◌++◌, length, Some, sym, ap, ◌∙◌, subst, arith}
use Rattle.std.proofs.lemmas.List.{length-map}
use Rattle.std.proofs.lemmas.List.Elements.{All-cons}
use Rattle.std.proofs.lemmas.Option.{same_Some}
use Rattle.std.specs.Global.{Vec}
use Rattle.std.specs.Map.{lookup, remove_entry}
use Rattle.std.specs.BTreeMap.{is_at}
use Rattle.sc_fork.specs.Enabled.{Has}
use Rattle.sc_fork.specs.View.{states_in}
use Rattle.sc_merge.specs.declared.subparser.Subparser.{Subparser}
use Rattle.sc_parse.proofs.NumberLemmas.{each-append, each-of, fewer-numbers, first-number, times-append}
use Rattle.sc_parse.proofs.WeightLemmas.{all-put, all-removed, each-like, items_in, like-at, like-weight, others-kept, replaces-among, taken-weighed, times-put, times-taken, weight_cmp, weight-same, weighed-then}
use Rattle.sc_parse.specs.Numbers.{Each, IsAt, times}
use Rattle.sc_parse.specs.Weights.{AreBelow, AreWeighed, HasWeight, IsWeighed, number_of, numbers_of}
use Rattle.sc_parse.specs.declared.reductions.Weight.{Weight}
use Rattle.sc_stack.specs.Entries.{Entry, states_of}
use Rattle.sc_parse.proofs.reductions.wait.Goals as goal
use Rattle.sc_parse.proofs.reductions.wait.Goals.{After-alike-1, in-Some, in-None}

pub key-requires-clause-there : goal.key-requires-clause-there
key-requires-clause-there g c = first-number c.args.steps.now.core.subparsers c.args.number (numbers_of c.args.waiting.now.entries) c.requires.numbers

-- the subparsers of the weight
taken-are : (g : _) (c : After-alike-1 g) → c.match-remove.alike.items ≡ items_in c.remove.result
taken-are g c = elim c.match-remove.branch [
  | in-Some w ↦ ap (λ v. v.items) w.alike-is ∙ sym (ap items_in w.in-Some.is)
  | in-None w ↦ ap (λ v. v.items) w.alike-is ∙ w.new-alike.ensures.items ∙ sym (ap items_in w.in-None.is)
]

counted : (g : _) (c : After-alike-1 g) (n : ℕ)
    → times n (numbers_of c.args.waiting.now.entries) ≡ times n c.match-remove.alike.items + times n (numbers_of c.remove.new.self.entries)
counted g c n =
    let test : Weight → Bool = is_at (weight_cmp (record { height = c.height.result; rank = c.args.rank })) in
    let found : c.remove.result ≡ lookup test c.args.waiting.now.entries = c.remove.ensures.value in
    let left : c.remove.new.self.entries ≡ remove_entry test c.args.waiting.now.entries = c.remove.ensures.entries in
    times-taken n test c.args.waiting.now.entries
    ∙ ap (λ items. times n items + times n (numbers_of (remove_entry test c.args.waiting.now.entries))) (ap items_in (sym found) ∙ sym (taken-are g c))
    ∙ ap (λ es. times n c.match-remove.alike.items + times n (numbers_of es)) (sym left)

whole : (g : _) (c : After-alike-1 g) (n : ℕ)
    → times n (c.args.number ∷ numbers_of c.args.waiting.now.entries) ≡ times n (c.args.number ∷ c.match-remove.alike.items) + times n (numbers_of c.remove.new.self.entries)
whole g c n = let h = counted g c n in omega (arith, h)

height-is : (g : _) (c : After-alike-1 g) (s : Subparser) → Has c.args.steps.now.core.subparsers c.args.number s → length (states_in s) ≡ c.height.result
height-is g c s has =
    let key = c.key.ensures in
    let same : key.0 ≡ s = same_Some key.0 s (same_Some (Some key.0) (Some s) (sym key.1.0 ∙ has)) in
    let states : length (states_of c.key.result.stack.now) ≡ length (states_in key.0) = ap length key.1.1.states in
    ap (λ (z : Subparser). length (states_in z)) (sym same) ∙ sym states ∙ length-map c.key.result.stack.now (λ (entry : Entry). entry.state) ∙ sym c.height.ensures

pub join-requires-clause-numbers : goal.join-requires-clause-numbers
join-requires-clause-numbers g c =
    fewer-numbers c.args.steps.now.core.subparsers (c.args.number ∷ numbers_of c.args.waiting.now.entries) (c.args.number ∷ c.match-remove.alike.items) c.requires.numbers
    (λ n. let h = whole g c n in omega (arith, h))

pub returns-clause-replaces : goal.returns-clause-replaces
returns-clause-replaces g c =
    let old = c.args.steps.now.core.subparsers in
    let new = c.join.new.self.core.subparsers in
    let rest = c.remove.new.self.entries in
    replaces-among old new (c.args.number ∷ c.match-remove.alike.items) c.join.new.others.items (numbers_of rest) (c.args.number ∷ numbers_of c.args.waiting.now.entries) (numbers_of c.insert.new.self.entries)
    c.in_ok-join.ensures.replaces (whole g (goal.at.returns-clause-replaces g c).After-alike-1)
    (λ n. ap (λ es. times n (numbers_of es)) c.in_ok-insert.ensures.entries ∙ times-put weight_cmp n rest (record { height = c.height.result; rank = c.args.rank }) c.join.new.others c.remove.ensures.updates.1)

pub returns-clause-weighed : goal.returns-clause-weighed
returns-clause-weighed g c =
    let s = c.args.steps.now.core.source in
    let at = (goal.at.returns-clause-weighed g c).After-alike-1 in
    let old = c.args.steps.now.core.subparsers in
    let new = c.join.new.self.core.subparsers in
    let rest = c.remove.new.self.entries in
    let w : Weight = record { height = c.height.result; rank = c.args.rank } in
    let N : ℕ → Type 0 = λ n. (t : Subparser) × (Has old n t × HasWeight s w t) in
    let there = first-number old c.args.number (numbers_of c.args.waiting.now.entries) c.requires.numbers in
    let own : N c.args.number = (there.0, (there.1, record { height = height-is g at there.0 there.1; ranked = c.requires.ranked there.0 there.1 })) in
    let others : Each (HasWeight s w) old c.match-remove.alike.items =
    subst (λ ns. Each (HasWeight s w) old ns) (ap items_in (sym c.remove.ensures.value) ∙ sym (taken-are g at))
    (taken-weighed s old (is_at (weight_cmp w)) c.args.waiting.now.entries w (λ k is. weight-same w k is) c.requires.weighed) in
    let put : Each (HasWeight s w) new c.join.new.others.items =
    each-like (HasWeight s w) (like-weight s w) old new (c.args.number ∷ c.match-remove.alike.items) c.join.new.others.items c.in_ok-join.ensures.alike
    (All-cons N c.args.number c.match-remove.alike.items own others) in
    let kept : AreWeighed s new rest =
    weighed-then s old new (c.args.number ∷ c.match-remove.alike.items) c.join.new.others.items (c.args.number ∷ numbers_of c.args.waiting.now.entries) rest c.in_ok-join.ensures.replaces c.requires.numbers
    (λ n. let h = whole g at n in omega (arith, h))
    (subst (λ es. AreWeighed s old es) (sym c.remove.ensures.entries) (all-removed (IsWeighed s old) (is_at (weight_cmp w)) c.args.waiting.now.entries c.requires.weighed)) in
    subst (λ source. AreWeighed source new c.insert.new.self.entries) (sym (c.in_ok-join.ensures.goes_on 0).source)
    (subst (λ es. AreWeighed s new es) (sym c.in_ok-insert.ensures.entries)
    (all-put (IsWeighed s new) weight_cmp rest w c.join.new.others c.remove.ensures.updates.1 kept (record { low = c.requires.low; each = put })))

pub returns-clause-at : goal.returns-clause-at
returns-clause-at g c = λ j each.
    let at = (goal.at.returns-clause-at g c).After-alike-1 in
    let old = c.args.steps.now.core.subparsers in
    let new = c.join.new.self.core.subparsers in
    let rest = c.remove.new.self.entries in
    let all = c.args.number ∷ numbers_of c.args.waiting.now.entries in
    let gone = c.args.number ∷ c.match-remove.alike.items in
    let put : Each (IsAt j) new c.join.new.others.items =
    each-like (IsAt j) (like-at j) old new gone c.join.new.others.items c.in_ok-join.ensures.alike
    (each-of (IsAt j) old all gone each (λ n none. let h = whole g at n in omega (arith, h, none))) in
    let kept : Each (IsAt j) new (numbers_of rest) =
    others-kept (IsAt j) old new gone c.join.new.others.items (numbers_of rest) all c.in_ok-join.ensures.replaces c.requires.numbers (λ n. let h = whole g at n in omega (arith, h))
    (each-of (IsAt j) old all (numbers_of rest) each (λ n none. let h = whole g at n in omega (arith, h, none))) in
    each-of (IsAt j) new (c.join.new.others.items ++ numbers_of rest) (numbers_of c.insert.new.self.entries)
    (each-append (IsAt j) new c.join.new.others.items (numbers_of rest) put kept)
    (λ n none.
    let t = times-append n c.join.new.others.items (numbers_of rest) in
    let h : times n (numbers_of c.insert.new.self.entries) ≡ times n c.join.new.others.items + times n (numbers_of rest) =
    ap (λ es. times n (numbers_of es)) c.in_ok-insert.ensures.entries ∙ times-put weight_cmp n rest (record { height = c.height.result; rank = c.args.rank }) c.join.new.others c.remove.ensures.updates.1 in
    omega (arith, t, h, none))

pub returns-clause-below : goal.returns-clause-below
returns-clause-below g c = λ bound s has below lower.
    let at = (goal.at.returns-clause-below g c).After-alike-1 in
    let w : Weight = record { height = c.height.result; rank = c.args.rank } in
    let B : Weight × Vec ℕ → Type 0 = λ entry. number_of entry.0 < bound in
    let height = height-is g at s has in
    subst (λ es. AreBelow bound es) (sym c.in_ok-insert.ensures.entries)
    (all-put B weight_cmp c.remove.new.self.entries w c.join.new.others c.remove.ensures.updates.1
    (subst (λ es. AreBelow bound es) (sym c.remove.ensures.entries) (all-removed B (is_at (weight_cmp w)) c.args.waiting.now.entries below))
    (omega (arith, lower, height)))
