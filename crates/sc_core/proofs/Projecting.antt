-- That the text of one configuration tells what ordinary translation gives there.
use Rattle.std.proofs.Common.{◌≡◌, ℕ, Bool, true, false, List, Result, Ok, Err, refl, sym, subst}
use Rattle.std.specs.Result.{is_ok}
use Rattle.c11_parsing.specs.Trees.{Tree}
use Rattle.c11_directives.specs.Listed.{IsListed}
use Rattle.sc_core.proofs.Cuts.{first-cut, first-formed, one-config, pre-cut, says-whole}
use Rattle.sc_core.proofs.Translating.{translates-unique}
use Rattle.sc_core.specs.Cut.{cut_space, first_config}
use Rattle.sc_core.specs.Ordinary.{Setting, Translates, not_prepared, parsed}
use Rattle.sc_core.specs.CommandTexts.{AcceptsAll, IsProjected, IsTranslation, Tells, shown_result}
use Rattle.sc_model.specs.Fault.{Fault}
use Rattle.sc_text.proofs.TextLaws.{result-unique}
use Rattle.sc_show.specs.PlainText.{IsPlainAnswer}
use Rattle.sc_text.specs.Answer.{Answer, At, ShownTree, tree_parts}

-- the setting with the space that has the configuration alone
abbrev pub cut_setting : Setting → List ℕ → Setting
cut_setting s config = record s { space = cut_space s.space config }

module _ (s : Setting) (config : List ℕ) (listed : IsListed s.space config) where
  abbrev only : Setting
  only = cut_setting s config

  -- it is listed where it is the only one
  first-listed : IsListed only.space (first_config only.space)
  first-listed = record { formed = first-formed s.space config listed.formed; valid = says-whole listed.formed listed.valid }

  translates-cut : {r : Result Tree Fault} → Translates only (first_config only.space) r → Translates s config r
  translates-cut (not_prepared fault pre) = not_prepared fault (pre-cut listed.formed pre)
  translates-cut (parsed ts bytes answer pre held lr) = parsed ts bytes answer (pre-cut listed.formed pre) held lr

  -- it is told whether the configuration is accepted
  accepted-as : (b : Bool) (o : Result Tree Fault) → Translates only (first_config only.space) o → Tells b (AcceptsAll only.space (Translates only)) → b ≡ is_ok o
  accepted-as true (Ok tree) is tells = refl
  accepted-as false (Err fault) is tells = refl
  accepted-as true (Err fault) is tells =
      let all = tells (first_config only.space) first-listed in
      let same = translates-unique is all.1 in cc
  accepted-as false (Ok tree) is tells = absurd (tells (λ c here. (tree, subst (λ (d : List ℕ). Translates only d (Ok tree)) (sym (one-config s.space config listed.formed c here.formed)) is)))

  pub projected : (answer : Answer tree_parts) (accepted : Bool) (result : Result ShownTree Fault) → At answer (first_config s.space) result → IsPlainAnswer answer (first_config s.space) result
      → IsTranslation only answer accepted → IsProjected s config answer accepted
  projected answer accepted result here plain is =
      let at = is.each (first_config only.space) first-listed in
      let same = subst (λ (c : List ℕ). At answer c (shown_result at.ordinary)) (first-cut s.space config listed.formed) at.said in
      record {
        ordinary = at.ordinary;
        translated = translates-cut at.given;
        same = same;
        exact = subst (IsPlainAnswer answer (first_config s.space)) (result-unique answer (first_config s.space) result (shown_result at.ordinary) here same) plain;
        verdict = accepted-as accepted at.ordinary at.given is.verdict;
      }
