use Rattle.std.proofs.Common.{◌≡◌, ℕ, ◌++◌, ◌∷◌, [], ◌∙◌, ◌&&◌, not, List, Bool, ap, sym, subst, if◌then◌else◌, arith}
use Rattle.std.proofs.lemmas.Bool.{true≢false}
use Rattle.sc_base.specs.declared.id.Cond.{Cond}
use Rattle.sc_hoist.specs.declared.branch.Branch.{Branch}
use Rattle.sc_hoist.specs.Branches.{lists_at}
use Rattle.sc_hoist.specs.Leaves.{AreLeaves, Agree}
use Rattle.sc_hoist.proofs.BranchLemmas.{lists_at-push, lists_at-Keeps, AreLeaves-Keeps, AreLeaves-more, Agree-more, Agree-Keeps, Agree-head, both_halves, undivided}
use Rattle.sc_model.proofs.SetLemmas.{Keeps-refl, Keeps-trans, IsConfig-Keeps, Denotes-self, Denotes-Keeps}
use Rattle.sc_hoist.proofs.division.divide.Goals as goal

pub returns-then-is_never-clause-leaves : goal.returns-then-is_never-clause-leaves
returns-then-is_never-clause-leaves g c =
    let keeps = c.apply_and.ensures.keeps in
    let whole = AreLeaves-Keeps keeps c.requires.branch in
    subst (AreLeaves (g.C.Conditions.sets c.apply_and.new.self)) (sym {A = List Branch} c.in_ok-push.ensures.items)
    (AreLeaves-more c.args.divided.now.items c.without_call.result c.args.branch.cond (AreLeaves-Keeps keeps c.requires.leaves) (whole.own 0 c.args.branch (omega arith)) (whole.some 0 c.args.branch (omega arith)) c.without_call.ensures.cond c.without_call.ensures.ends)

pub returns-then-is_never-clause-lists : goal.returns-then-is_never-clause-lists
returns-then-is_never-clause-lists g c = λ x listed.
    let s = g.C.Conditions.sets c.args.conds.now in
    let now = g.C.Conditions.sets c.apply_and.new.self in
    let keeps = c.apply_and.ensures.keeps in
    let cond = c.args.branch.cond in
    let places = c.args.branch.places.items in
    let own = c.requires.branch.own 0 c.args.branch (omega arith) in
    let told = c.in_ok-having.ensures.meaning _ _ (Denotes-self s cond.0 own) (Denotes-self s c.args.item.0 c.requires.item_own) in
    let never = c.is_never.ensures.0 c.if-is_never.true in
    let here = IsConfig-Keeps keeps listed in
    let is : c.without_call.result.places.items ≡ places = cc (c.without_call.ensures.places) in
    ap (λ (bs : List Branch). lists_at now bs x) c.in_ok-push.ensures.items
    ∙ (lists_at-push c.args.divided.now.items c.without_call.result (s.has cond.0 x) places x keeps c.requires.leaves listed (ap (λ (k : Cond). now.has k.0 x) c.without_call.ensures.cond ∙ keeps.at cond.0 x own listed) is
    ∙ ap (λ (ls : List (List ℕ)). lists_at s c.args.divided.now.items x ++ ls) (undivided (s.has cond.0 x) (s.has c.args.item.0 x) places c.args.place (sym (told.at x here) ∙ never.none x here)))

pub returns-then-is_never-clause-agree : goal.returns-then-is_never-clause-agree
returns-then-is_never-clause-agree g c = λ x y x_listed y_listed item branch found.
    let s = g.C.Conditions.sets c.args.conds.now in
    let now = g.C.Conditions.sets c.apply_and.new.self in
    let keeps = c.apply_and.ensures.keeps in
    let cond = c.args.branch.cond in
    let own = c.requires.branch.own 0 c.args.branch (omega arith) in
    subst (λ (bs : List Branch). Agree now bs x y) (sym {A = List Branch} c.in_ok-push.ensures.items)
    (Agree-more c.args.divided.now.items c.without_call.result cond (s.has cond.0) x y keeps c.requires.leaves x_listed y_listed found c.without_call.ensures.cond (keeps.at cond.0 x own x_listed) (keeps.at cond.0 y own y_listed) (Agree-head c.args.branch [] branch))

pub returns-in_err-add_branch-clause-keeps : goal.returns-in_err-add_branch-clause-keeps
returns-in_err-add_branch-clause-keeps g c = Keeps-trans c.apply_and.ensures.keeps c.apply_without.ensures.keeps

pub returns-in_err-push-2-clause-keeps : goal.returns-in_err-push-2-clause-keeps
returns-in_err-push-2-clause-keeps g c = Keeps-trans c.apply_and.ensures.keeps c.apply_without.ensures.keeps

pub returns-in_err-push-3-clause-keeps : goal.returns-in_err-push-3-clause-keeps
returns-in_err-push-3-clause-keeps g c = Keeps-trans c.apply_and.ensures.keeps c.apply_without.ensures.keeps

pub returns-clause-keeps : goal.returns-clause-keeps
returns-clause-keeps g c = Keeps-trans c.apply_and.ensures.keeps c.apply_without.ensures.keeps

pub add_branch-requires-clause-leaves : goal.add_branch-requires-clause-leaves
add_branch-requires-clause-leaves g c = AreLeaves-Keeps (Keeps-trans c.apply_and.ensures.keeps c.apply_without.ensures.keeps) c.requires.leaves

pub returns-clause-leaves : goal.returns-clause-leaves
returns-clause-leaves g c =
    let later = c.apply_without.ensures.keeps in
    let own = c.in_ok-having.ensures.own in
    subst (AreLeaves (g.C.Conditions.sets c.apply_without.new.self)) (sym {A = List Branch} c.in_ok-push-3.ensures.items)
    (AreLeaves-more c.add_branch.new.divided.items c.without_call-2.result c.in_ok-having.having c.in_ok-add_branch.ensures.leaves (later.own _ own)
    (λ never. true≢false (sym (c.is_never.ensures.1 (record { none = λ x listed. sym (later.at _ x own listed) ∙ never.none x (IsConfig-Keeps later listed) })) ∙ c.if-is_never.false))
    c.without_call-2.ensures.cond c.without_call-2.ensures.ends)

pub returns-clause-lists : goal.returns-clause-lists
returns-clause-lists g c = λ x listed.
    let s = g.C.Conditions.sets c.args.conds.now in
    let now = g.C.Conditions.sets c.apply_without.new.self in
    let before = c.apply_and.ensures.keeps in
    let keeps = Keeps-trans before c.apply_without.ensures.keeps in
    let later = c.apply_without.ensures.keeps in
    let cond = c.args.branch.cond in
    let places = c.args.branch.places.items in
    let whole = Denotes-self s cond.0 (c.requires.branch.own 0 c.args.branch (omega arith)) in
    let item = Denotes-self s c.args.item.0 c.requires.item_own in
    let having = c.in_ok-having.ensures.meaning _ _ whole item in
    let lacking = c.in_ok-lacking.ensures.meaning _ _ (Denotes-Keeps before whole) (Denotes-Keeps before item) in
    let here = IsConfig-Keeps keeps listed in
    let is : c.without_call-2.result.places.items ≡ places ++ c.args.place ∷ [] = cc (c.without_call-2.ensures.places, c.in_ok-push-2.ensures.items) in
    let found = lists_at s c.args.divided.now.items x in
    both_halves found (lists_at now c.add_branch.new.divided.items x) (lists_at now c.push-3.new.self.items x) (s.has cond.0 x) (s.has c.args.item.0 x) places c.args.place
    (c.in_ok-add_branch.ensures.lists x here
    ∙ (ap (λ (ls : List (List ℕ)). ls ++ (if now.has c.in_ok-lacking.lacking.0 x then c.deref.result.now ∷ [] else [])) (lists_at-Keeps c.args.divided.now.items x keeps c.requires.leaves.own listed)
    ∙ (ap (λ (b : Bool). found ++ (if b then c.deref.result.now ∷ [] else [])) (lacking.at x here)
    ∙ ap (λ (ps : List ℕ). found ++ (if s.has cond.0 x && not (s.has c.args.item.0 x) then ps ∷ [] else [])) c.deref.ensures.value)))
    (ap (λ (bs : List Branch). lists_at now bs x) c.in_ok-push-3.ensures.items
    ∙ lists_at-push c.add_branch.new.divided.items c.without_call-2.result (s.has cond.0 x && s.has c.args.item.0 x) (places ++ c.args.place ∷ []) x (Keeps-refl now) c.in_ok-add_branch.ensures.leaves here
    (ap (λ (k : Cond). now.has k.0 x) c.without_call-2.ensures.cond ∙ (Denotes-Keeps later having).at x here) is)

pub returns-clause-agree : goal.returns-clause-agree
returns-clause-agree g c = λ x y x_listed y_listed same_item branch found.
    let s = g.C.Conditions.sets c.args.conds.now in
    let now = g.C.Conditions.sets c.apply_without.new.self in
    let before = c.apply_and.ensures.keeps in
    let keeps = Keeps-trans before c.apply_without.ensures.keeps in
    let later = c.apply_without.ensures.keeps in
    let cond = c.args.branch.cond in
    let whole = Denotes-self s cond.0 (c.requires.branch.own 0 c.args.branch (omega arith)) in
    let item = Denotes-self s c.args.item.0 c.requires.item_own in
    let having = c.in_ok-having.ensures.meaning _ _ whole item in
    let lacking = c.in_ok-lacking.ensures.meaning _ _ (Denotes-Keeps before whole) (Denotes-Keeps before item) in
    let x_here = IsConfig-Keeps keeps x_listed in
    let y_here = IsConfig-Keeps keeps y_listed in
    let same = Agree-head c.args.branch [] branch in
    let f : List ℕ → Bool = λ z. s.has cond.0 z && s.has c.args.item.0 z in
    let both : f x ≡ f y = cc (same, same_item) in
    let rest : (s.has cond.0 x && not (s.has c.args.item.0 x)) ≡ (s.has cond.0 y && not (s.has c.args.item.0 y)) = cc (same, same_item) in
    subst (λ (bs : List Branch). Agree now bs x y) (sym {A = List Branch} c.in_ok-push-3.ensures.items)
    (Agree-more c.add_branch.new.divided.items c.without_call-2.result c.in_ok-having.having f x y (Keeps-refl now) c.in_ok-add_branch.ensures.leaves x_here y_here
    (c.in_ok-add_branch.ensures.agree x y (lacking.at x x_here ∙ (rest ∙ sym (lacking.at y y_here))) (Agree-Keeps keeps c.requires.leaves x_listed y_listed found))
    c.without_call-2.ensures.cond ((Denotes-Keeps later having).at x x_here) ((Denotes-Keeps later having).at y y_here) both)
