use Rattle.std.proofs.Common.{◌≡◌, ℕ, ◌+◌, ◌-◌, ◌<◌, Bool, true, false, List, refl, All, length, drop, take, map, sym, ap, subst, ◌∙◌, arith, if◌then◌else◌}
use Rattle.sc_expand.proofs.AlikeLemmas.{IsAlikeIn-Keeps}
use Rattle.sc_expand.proofs.Facts.{All-cons, All-drop, All-take}
use Rattle.sc_expand.proofs.GatherPlaces.{branch-placed, call-taken, held-at, held-same, held-tokens, places-below, places-three}
use Rattle.sc_expand.proofs.Terms.{HasLeft, Hidden, HiddenToken, IsConfig, IsHeldToken, Place, items_at, seen_hidden, stores, token_at}
use Rattle.sc_expand.proofs.expansion.Expansion.take_call.Goals as goal

pub slice_bounds-between-count : goal.slice_bounds-between-count
slice_bounds-between-count g c =
    let three = places-three (stores (g.C.Conditions.sets c.args.conds.now) c.args.names.now c.args.self.now.sets) c.args.self.now c.args.branch.now c.requires.branch in
    omega (arith, three, c.len-last.ensures, c.deref.ensures.len, ap length c.deref.ensures.value)

pub slice_bounds-between-start : goal.slice_bounds-between-start
slice_bounds-between-start g c =
    let three = places-three (stores (g.C.Conditions.sets c.args.conds.now) c.args.names.now c.args.self.now.sets) c.args.self.now c.args.branch.now c.requires.branch in
    omega (arith, three, c.len-last.ensures, c.deref.ensures.len, ap length c.deref.ensures.value)

pub between-requires-clause-places : goal.between-requires-clause-places
between-requires-clause-places g c =
    let P : ℕ → Type 0 = λ p. p < length c.args.self.now.top.work in
    let below = places-below (stores (g.C.Conditions.sets c.args.conds.now) c.args.names.now c.args.self.now.sets) c.args.self.now c.args.branch.now c.requires.branch in
    All-take P (c.len-last.result - 1 - 2) (drop 2 c.deref.result.now) (All-drop P 2 c.deref.result.now (subst (All P) (sym c.deref.ensures.value) below))

pub item-requires : goal.item-requires
item-requires g c =
    let st = stores (g.C.Conditions.sets c.args.conds.now) c.args.names.now c.args.self.now.sets in
    let P : ℕ → Type 0 = λ p. p < length c.args.self.now.top.work in
    let three = places-three st c.args.self.now c.args.branch.now c.requires.branch in
    let end = c.index-end.result.now in
    subst P (sym c.index-end.ensures) (places-below st c.args.self.now c.args.branch.now c.requires.branch (c.len-last.result - 1) end (omega (arith, three, c.len-last.ensures, c.deref.ensures.len, ap length c.deref.ensures.value)))

pub overflow_add-end : goal.overflow_add-end
overflow_add-end g c =
    let st = stores (g.C.Conditions.sets c.args.conds.now) c.args.names.now c.args.self.now.sets in
    let P : ℕ → Type 0 = λ p. p < length c.args.self.now.top.work in
    let three = places-three st c.args.self.now c.args.branch.now c.requires.branch in
    let end = c.index-end.result.now in
    let low = subst P (sym c.index-end.ensures) (places-below st c.args.self.now c.args.branch.now c.requires.branch (c.len-last.result - 1) end (omega (arith, three, c.len-last.ensures, c.deref.ensures.len, ap length c.deref.ensures.value))) in
    omega (arith, low, c.is_small.ensures)

pub take_out-requires-clause-count : goal.take_out-requires-clause-count
take_out-requires-clause-count g c =
    let st = stores (g.C.Conditions.sets c.args.conds.now) c.args.names.now c.args.self.now.sets in
    let P : ℕ → Type 0 = λ p. p < length c.args.self.now.top.work in
    let three = places-three st c.args.self.now c.args.branch.now c.requires.branch in
    let end = c.index-end.result.now in
    let low = subst P (sym c.index-end.ensures) (places-below st c.args.self.now c.args.branch.now c.requires.branch (c.len-last.result - 1) end (omega (arith, three, c.len-last.ensures, c.deref.ensures.len, ap length c.deref.ensures.value))) in
    omega (arith, low)

pub returns : goal.returns
returns g c =
    let s = g.C.Conditions.sets c.args.conds.now in
    let st = stores s c.args.names.now c.args.self.now.sets in
    let branch = c.args.branch.now in
    let list = c.args.self.now.top.work in
    let end = c.index-end.result.now in
    let value = c.deref.ensures.value in
    let count = c.len-last.result - 1 - 2 in
    let out = c.in_ok-take_out.ensures in
    let see : List Hidden → List (HiddenToken Place) = map (seen_hidden st.names st.hides) in
    let counted = c.len-last.ensures ∙ (sym c.deref.ensures.len ∙ ap length value) in
    let follows : (x : List ℕ) → IsConfig s.arities x → (b : Bool) → s.has branch.cond.0 x ≡ b
    → items_at (g.C.Conditions.sets c.take_out.new.conds) c.take_out.new.list x ≡ (if b then items_at s (drop (end + 1) list) x else items_at s list x) = λ x listed b is. out.taken x listed ∙ ap (λ b. if b then items_at s (drop (end + 1) list) x else items_at s list x) is in
    let left : HasLeft s (g.C.Conditions.sets c.take_out.new.conds) c.args.names.now c.args.self.now (record c.args.self.now { top = record c.args.self.now.top { work = c.take_out.new.list } }) branch c.in_ok-between.between c.item.result.1
    = record {
      keeps = c.take_out.ensures.keeps;
      sets = refl;
      top = refl;
      refusals = refl;
      below = refl;
      waiting = refl;
      tokens = out.items;
      call = λ x listed has.
          call-taken st list _ branch.places.items x c.in_ok-between.between c.item.result end c.len-last.result (branch-placed st c.args.self.now branch c.requires.branch x listed has)
          counted c.index-end.ensures (λ other. c.in_ok-between.ensures other ∙ ap (λ l. map (token_at list other) (take count (drop 2 l))) value) c.item.ensures (ap see (follows x listed true has));
      first = λ x listed has. out.first x listed has (omega arith);
      others = λ x listed lacks. (ap see (follows x listed false lacks), out.others x listed lacks);
      alike = λ x y span at_x at_y same alike.
          let kept = IsAlikeIn-Keeps c.take_out.ensures.keeps at_x at_y span c.args.self.now c.requires.held.1 alike in
          record { refusals = kept.refusals; work = out.alike x y span.work at_x at_y same alike.work; out = kept.out; calls = kept.calls };
      rest = out.rest;
      own = λ files held.
          let P : ℕ → Type 0 = λ p. p < length list in
          let H : Hidden → Type 0 = IsHeldToken st files in
          let below = subst (All P) (sym value) (places-below st c.args.self.now branch c.requires.branch) in
          let all = All-take P count (drop 2 c.deref.result.now) (All-drop P 2 c.deref.result.now below) in
          All-cons H c.item.result.1 c.in_ok-between.between (held-at H list end c.item.result held.held c.item.ensures)
          (subst (All H) (sym (c.in_ok-between.ensures c.item.result)) (held-tokens H list c.item.result (take count (drop 2 c.deref.result.now)) held.held all));
      held = λ files held. record {
        own = out.own;
        held = λ k d h. (let it = held-same (IsHeldToken st files) list c.take_out.new.list out.items held.held k d h in record { held = it.held; file = it.file });
      };
    } in
    record { left = left; keeps = left.keeps; sets = refl }
