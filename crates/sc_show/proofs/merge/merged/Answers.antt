use Rattle.std.proofs.Common.{◌≡◌, ◌<◌, ◌∙◌, ◌∷◌, [], ap, sym, subst, map, take, take_all, get_or, length, option_map, All, arith}
use Rattle.std.specs.List.Sorted.{IsPermutation}
use Rattle.std.proofs.lemmas.List.Elements.{All-append}
use Rattle.std.proofs.lemmas.List.Sorted.{All-permutation}
use Rattle.std.proofs.lemmas.Option.{slice_get-get_or, slice_get-map}
use Rattle.sc_base.specs.declared.fault.Fault.{Fault}
use Rattle.sc_guarded.specs.Items.{faults_at, seen_fault}
use Rattle.sc_model.specs.Sets.{IsCond}
use Rattle.sc_model.proofs.SetLemmas.{Keeps-refl, Keeps-trans, IsConfig-Keeps}
use Rattle.sc_show.specs.Order.{IsInOrder, MayFollow}
use Rattle.sc_text.specs.Layout.{IsAscending}
use Rattle.sc_show.proofs.MergeOrdering.{MayFollow-none, MayFollow-next}
use Rattle.sc_guarded.specs.Printable.{IsShowableFault}
use Rattle.sc_show.proofs.TokensShows.{no_fault}
use Rattle.sc_text.proofs.ListLemmas.{All-one}
use Rattle.sc_show.proofs.MergeFaults.{AreApart-permutation, faults_at-permutation, same_more, apart_more}
use Rattle.sc_show.proofs.merge.merged.Goals as goal

pub loop-fault-init : goal.loop-fault-init
loop-fault-init g c =
    let none = c.new-merged.ensures.items in
    let sets = g.C.Conditions.sets c.args.conds.now in
    let owned : Fault → Type 0 = λ fault. IsCond sets fault.cond.0 in
    let placed : Fault → Type 0 = λ fault. fault.place.file.0 < length c.args.files.now in
    record {
      keeps = Keeps-refl _;
      own = subst (All owned) (sym none) (λ k d h. absurd (omega arith));
      placed = subst (All placed) (sym none) (λ k d h. absurd (omega arith));
      ascending = subst (λ fs. IsAscending (map (seen_fault c.args.files.now) fs)) (sym none) (record { each = λ k f g at next. absurd (cc) });
      later = λ fault at. subst (λ fs. MayFollow (map (seen_fault c.args.files.now) fs) fault) (sym none) (MayFollow-none fault);
      same = λ x listed. ap (λ fs. map (seen_fault c.args.files.now) (faults_at sets fs x)) none;
    }

pub loop-fault-preserved : goal.loop-fault-preserved
loop-fault-preserved g c =
    let was = c.loop-fault.invariant in
    let i = c.loop-fault.fault-index in
    let items = c.deref-fault-items.result.now in
    let fault : Fault = get_or items i no_fault in
    let files = c.args.files.now in
    let sets = g.C.Conditions.sets c.args.conds.now in
    let now = g.C.Conditions.sets c.loop-fault.conds in
    let moved = subst (IsPermutation c.args.faults.now) (sym c.deref-fault-items.ensures.value) c.in_ok-sorted.ensures.faults in
    let can : IsShowableFault sets files fault = All-permutation (IsShowableFault sets files) c.args.faults.now items moved c.requires.faults i no_fault c.loop-fault-test.true in
    let order = subst (λ fs. IsInOrder (map (seen_fault files) fs)) (sym c.deref-fault-items.ensures.value) c.in_ok-sorted.ensures.order in
    record {
      keeps = Keeps-trans was.keeps c.add.ensures.keeps;
      own = c.in_ok-add.ensures.own;
      placed = c.in_ok-add.ensures.files;
      ascending = c.in_ok-add.ensures.ascending;
      later = λ next at. MayFollow-next (map (seen_fault files) c.add.new.merged.items) (seen_fault files fault) next c.in_ok-add.ensures.last
          (order.each i (seen_fault files fault) next (slice_get-map (seen_fault files) items i ∙ ap (option_map (seen_fault files)) (slice_get-get_or items i no_fault c.loop-fault-test.true)) at);
      same = λ x listed.
          c.in_ok-add.ensures.same x (IsConfig-Keeps was.keeps listed)
          ∙ same_more files items c.loop-fault.merged.items i fault was.keeps can.own (slice_get-get_or items i no_fault c.loop-fault-test.true) was.same x listed;
    }

pub sorted-requires : goal.sorted-requires
sorted-requires g c = λ k d h. (c.requires.faults k d h).file

pub add-requires : goal.add-requires
add-requires g c =
    let was = c.loop-fault.invariant in
    let i = c.loop-fault.fault-index in
    let items = c.deref-fault-items.result.now in
    let fault : Fault = get_or items i no_fault in
    let files = c.args.files.now in
    let sets = g.C.Conditions.sets c.args.conds.now in
    let moved = subst (IsPermutation c.args.faults.now) (sym c.deref-fault-items.ensures.value) c.in_ok-sorted.ensures.faults in
    let can : IsShowableFault sets files fault = All-permutation (IsShowableFault sets files) c.args.faults.now items moved c.requires.faults i no_fault c.loop-fault-test.true in
    let placed : Fault → Type 0 = λ fault. fault.place.file.0 < length files in
    record {
      own = was.own;
      fault = was.keeps.own _ can.own;
      apart = apart_more files items c.loop-fault.merged.items i fault was.keeps can.own (slice_get-get_or items i no_fault c.loop-fault-test.true) was.same
          (AreApart-permutation c.args.faults.now items moved c.requires.apart);
      files = All-append placed c.loop-fault.merged.items (fault ∷ []) was.placed (All-one placed fault can.file);
      ascending = was.ascending;
      later = was.later (seen_fault files fault) (slice_get-map (seen_fault files) items i ∙ ap (option_map (seen_fault files)) (slice_get-get_or items i no_fault c.loop-fault-test.true));
    }

pub returns-in_err-add-clause-keeps : goal.returns-in_err-add-clause-keeps
returns-in_err-add-clause-keeps g c = Keeps-trans c.loop-fault.invariant.keeps c.add.ensures.keeps

pub returns : goal.returns
returns g c =
    let was = c.loop-fault.invariant in
    let items = c.deref-fault-items.result.now in
    let sets = g.C.Conditions.sets c.args.conds.now in
    let moved = subst (IsPermutation c.args.faults.now) (sym c.deref-fault-items.ensures.value) c.in_ok-sorted.ensures.faults in
    let all : take c.loop-fault.fault-index items ≡ items = take_all _ _ (omega arith) in
    record {
      faults = λ k d h. record { own = was.own k d h; file = was.placed k d h };
      ascending = was.ascending;
      same = λ x listed.
          was.same x listed
          ∙ ap (map (seen_fault c.args.files.now)) (ap (λ fs. faults_at sets fs x) all ∙ faults_at-permutation sets c.args.faults.now items x moved (c.requires.apart.few x listed));
      keeps = was.keeps;
    }
