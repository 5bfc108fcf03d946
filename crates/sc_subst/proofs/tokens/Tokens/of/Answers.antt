use Rattle.std.proofs.Common.{◌≡◌, ◌∙◌, ℕ, [], List, Some, ap, slice_get, subst, sym}
use Rattle.sc_subst.specs.Groups.{AreGroups}
use Rattle.sc_subst.specs.declared.groups.Groups.{Groups}
use Rattle.sc_subst.specs.declared.hidden.Hidden.{Hidden}
use Rattle.sc_subst.proofs.tokens.Tokens.of.Goals as goal
use Rattle.sc_subst.proofs.tokens.Tokens.of.Goals.{then-len-lt-SHORT, else-len-lt-SHORT+in_ok-groups}

unknown : (list : List Hidden) (groups : Groups) → groups.closes.items ≡ [] → AreGroups list groups
unknown list groups none = λ index close known some.
    let never : slice_get {X = ℕ} [] index ≡ Some close = ap (λ l. slice_get l index) (sym none) ∙ known in
    absurd (cc)

pub all-requires : goal.all-requires
all-requires c =
    elim c.if-len-lt-SHORT.branch [
      | then-len-lt-SHORT w ↦ unknown c.args.list.items c.if-len-lt-SHORT.groups (ap (λ (g : Groups). g.closes.items) w.groups-is ∙ w.unknown-groups.ensures)
      | else-len-lt-SHORT+in_ok-groups w ↦
          subst (AreGroups c.args.list.items) (sym w.groups-is) (subst (λ l. AreGroups l w.in_ok-groups.groups) w.deref.ensures.value w.in_ok-groups.ensures)
    ]
