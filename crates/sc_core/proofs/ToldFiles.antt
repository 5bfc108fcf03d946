-- What preprocessing gives of files that a source may hold, where it tells what it holds.
use Rattle.std.proofs.Common.{◌≡◌, ℕ, ◌+◌, true, List, Option, Some, subst}
use Rattle.c11_directives.specs.Pre.{Pre}
use Rattle.c11_directives.specs.PutOut.{FilesPutOut}
use Rattle.sc_base.specs.Seen.{seen_place}
use Rattle.sc_expand.specs.Stops.{HasConfigs}
use Rattle.sc_model.specs.Outside.{Files}
use Rattle.sc_model.specs.Sets.{Sets, IsConfig}
use Rattle.sc_model.specs.Space.{Space}
use Rattle.sc_prep.specs.Contents.{end_of_file}
use Rattle.sc_prep.specs.declared.prepared.Prepared.{Prepared}
use Rattle.sc_prep.specs.OneElement.{IsThin}
use Rattle.sc_prep.specs.Preprocesses.{IsOrdinary, IsPreparedFrom}

module _ {old s : Sets} {live : ℕ} {names files : List (List ℕ)} {p : Prepared} {space : Space} {holds : Option Files} {main : List ℕ}
    (from : IsPreparedFrom old live s names files p space holds main) (outside : Files) (told : holds ≡ Some outside) where
  pub ordinary-told : (config : List ℕ) → IsConfig old.arities config → old.has live config ≡ true → IsOrdinary s names files p (Pre space outside main config) config
  ordinary-told =
      subst (λ held. (config : List ℕ) → IsConfig old.arities config → old.has live config ≡ true → IsOrdinary s names files p (Pre space held main config) config) (from.held outside told) from.ordinary

  pub ends-told : (bytes config : List ℕ) → outside main ≡ Some bytes → IsConfig old.arities config → s.has p.live.0 config ≡ true → seen_place files p.end ≡ end_of_file main bytes
  ends-told = subst (λ (held : Files). (bytes config : List ℕ) → held main ≡ Some bytes → IsConfig old.arities config → s.has p.live.0 config ≡ true → seen_place files p.end ≡ end_of_file main bytes)
      (from.held outside told) from.ends

  pub thin-told : (HasConfigs old.arities (space.branches + 1) → ⊥) → IsThin s p.list p.live.0 (FilesPutOut space outside main)
  thin-told = subst (λ held. (HasConfigs old.arities (space.branches + 1) → ⊥) → IsThin s p.list p.live.0 (FilesPutOut space held main)) (from.held outside told) from.thin
