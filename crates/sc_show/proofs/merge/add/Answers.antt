use Rattle.std.proofs.Common.{◌<◌, length, refl, rules, ◌++◌, ◌∷◌, [], All, ap, sym, subst, ◌∙◌, map}
use Rattle.std.proofs.lemmas.Bool.{true≢false}
use Rattle.std.proofs.lemmas.List.Elements.{All-append}
use Rattle.sc_base.specs.declared.fault.Fault.{Fault}
use Rattle.sc_guarded.specs.Items.{faults_at, seen_fault}
use Rattle.sc_model.specs.Sets.{IsCond}
use Rattle.sc_model.proofs.SetLemmas.{Denotes-self}
use Rattle.sc_guarded.specs.Printable.{AreApart}
use Rattle.sc_text.proofs.FaultOrder.{faults_equal}
use Rattle.sc_show.proofs.MergeOrdering.{ascending_pushed, ascending_merged, ends_with}
use Rattle.sc_text.proofs.ListLemmas.{All-front, All-last, All-one}
use Rattle.sc_show.proofs.MergeFaults.{same_merged}
use Rattle.sc_show.proofs.merge.add.Goals as goal

pub apply_or-requires : goal.apply_or-requires
apply_or-requires g c =
    let owned : Fault → Type 0 = λ fault. IsCond (g.C.Conditions.sets c.args.conds.now) fault.cond.0 in
    let all = subst (All owned) c.in-Some.ensures.items c.requires.own in
    record { a_own = All-last owned c.pop.new.self.items c.in-Some.last all; b_own = c.requires.fault }

pub returns : goal.returns
returns g c =
    let old = g.C.Conditions.sets c.args.conds.now in
    let now = g.C.Conditions.sets c.apply_or.new.self in
    let rest = c.pop.new.self.items in
    let last = c.in-Some.last in
    let fault = c.args.fault in
    let owned : Fault → Type 0 = λ fault. IsCond old fault.cond.0 in
    let all = subst (All owned) c.in-Some.ensures.items c.requires.own in
    let means = c.in_ok-cond.ensures.meaning _ _ (Denotes-self old last.cond.0 (All-last owned rest last all)) (Denotes-self old fault.cond.0 c.requires.fault) in
    let it : Fault = record { cond = c.in_ok-cond.cond; cause = last.cause; place = last.place } in
    let files = c.args.files.now in
    let placed : Fault → Type 0 = λ fault. fault.place.file.0 < length files in
    let pair = faults_equal (seen_fault files last) (seen_fault files fault) (c.is_same_pair.ensures.0 (search rules)) in
    let is_owned : Fault → Type 0 = λ fault. IsCond now fault.cond.0 in
    record {
      own = subst (All is_owned) (sym c.in_ok-push-4.ensures.items)
          (All-append is_owned rest (it ∷ []) (λ k d h. c.apply_or.ensures.keeps.own _ (All-front owned rest (last ∷ []) all k d h)) (All-one is_owned it c.in_ok-cond.ensures.own));
      files =
          let were = subst (All placed) c.in-Some.ensures.items (All-front placed c.args.merged.now.items (fault ∷ []) c.requires.files) in
          subst (All placed) (sym c.in_ok-push-4.ensures.items) (All-append placed rest (it ∷ []) (All-front placed rest (last ∷ []) were) (All-one placed it (All-last placed rest last were)));
      ascending = ascending_merged files c.args.merged.now.items c.push-2.new.self.items rest last fault c.in-Some.ensures.items it c.in_ok-push-4.ensures.items refl c.requires.ascending;
      last = ends_with files c.push-2.new.self.items rest it (seen_fault files fault) c.in_ok-push-4.ensures.items pair;
      same = λ x listed.
          ap (λ fs. map (seen_fault files) (faults_at now fs x)) c.in_ok-push-4.ensures.items
          ∙ same_merged files rest last fault c.in_ok-cond.cond pair (All-front owned rest (last ∷ []) all)
          (subst (λ fs. AreApart old (fs ++ fault ∷ [])) c.in-Some.ensures.items c.requires.apart) c.apply_or.ensures.keeps means x listed
          ∙ ap (λ fs. map (seen_fault files) (faults_at old (fs ++ fault ∷ []) x)) (sym c.in-Some.ensures.items);
      keeps = c.apply_or.ensures.keeps;
    }

pub returns-then-not-is_same_pair-clause-ascending : goal.returns-then-not-is_same_pair-clause-ascending
returns-then-not-is_same_pair-clause-ascending g c =
    let files = c.args.files.now in
    let rest = c.pop.new.self.items in
    let last = c.in-Some.last in
    let pushed = c.in_ok-push-3.ensures.items ∙ ap (λ fs. fs ++ c.args.fault ∷ []) (c.in_ok-push-2.ensures.items ∙ sym c.in-Some.ensures.items) in
    ascending_pushed files c.args.merged.now.items c.push-then-not-is_same_pair-2.new.self.items rest last c.args.fault c.in-Some.ensures.items pushed c.requires.ascending c.requires.later
    (λ equal. absurd (true≢false (sym (c.is_same_pair.ensures.1 equal) ∙ c.if-not-is_same_pair.true)))
