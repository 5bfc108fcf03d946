use Rattle.std.proofs.Common.{◌≡◌, ap, ◌==◌}
use Rattle.std.specs.Bool.{Decides}
use Rattle.std.proofs.lemmas.Bool.Decides.{Decides-eqb}
use Rattle.std.proofs.lemmas.Slice.Eq.{slice_eq-Decides}
use Rattle.sc_base.specs.declared.id.Name.{Name}
use Rattle.sc_macro.proofs.same.same_names.Goals as goal

name_Decides : (a b : Name) → Decides (a.0 == b.0) (a ≡ b)
name_Decides a b = (λ h. ap (λ n. record { 0 = n }) ((Decides-eqb a.0 b.0).0 h), λ e. (Decides-eqb a.0 b.0).1 (ap (λ (n : Name). n.0) e))

pub returns : goal.returns
returns c = slice_eq-Decides name_Decides _ _ _ c.eq.ensures
