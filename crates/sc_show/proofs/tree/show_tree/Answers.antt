use Rattle.std.proofs.Common.{ℕ, List, ◌∙◌, ap, sym, subst, map, All}
use Rattle.sc_guarded.proofs.ItemLemmas.{faults_at-Keeps}
use Rattle.sc_guarded.specs.Items.{seen_fault}
use Rattle.sc_model.specs.Sets.{IsConfig}
use Rattle.sc_model.proofs.SetLemmas.{Keeps-trans, IsConfig-kept}
use Rattle.sc_space.specs.Seen.{seen_space}
use Rattle.sc_show.specs.Rules.{fault_item, LaidOut}
use Rattle.sc_guarded.specs.Printable.{IsShowableFault}
use Rattle.sc_show.proofs.TokensShows.{IsShowableFault-Keeps}
use Rattle.sc_show.proofs.TreeEnding.{ShowsTree-end, root_contained}
use Rattle.sc_show.proofs.tree.show_tree.Goals as goal

pub print_whole-requires-clause-branches : goal.print_whole-requires-clause-branches
print_whole-requires-clause-branches g c = record { each = λ i line at k d h. c.merged.ensures.keeps.own _ (c.requires.branches.each i line at k d h) }

pub print_root-requires : goal.print_root-requires
print_root-requires g c = root_contained c.args.root c.in_ok-print_whole.ensures.lines.finished

pub print_faults-requires-clause-faults : goal.print_faults-requires-clause-faults
print_faults-requires-clause-faults g c =
    let can = IsShowableFault (g.C.Conditions.sets c.merged.new.conds) c.args.files.now in
    let all = subst (All can) (sym c.deref.ensures.value) c.in_ok-merged.ensures.faults in
    λ k d h. IsShowableFault-Keeps c.print_whole.ensures.keeps (all k d h)

pub returns-clause-text : goal.returns-clause-text
returns-clause-text g c =
    let first = c.merged.ensures.keeps in
    let last = c.print_faults.ensures.keeps in
    let later = Keeps-trans c.print_whole.ensures.keeps last in
    let space = seen_space c.args.space.now in
    let files = c.args.files.now in
    let merged = c.in_ok-merged.merged.items in
    let same = λ (x : List ℕ) (listed : IsConfig (g.C.Conditions.sets c.print_faults.new.conds).arities x).
    let here = IsConfig-kept later listed in
    let before = IsConfig-kept first here in
    ap (map (seen_fault files)) (faults_at-Keeps merged x later (λ k d h. (c.in_ok-merged.ensures.faults k d h).own) here)
    ∙ c.in_ok-merged.ensures.same x before
    ∙ ap (map (seen_fault files)) (sym (faults_at-Keeps c.args.faults.now x (Keeps-trans first later) (λ k d h. (c.requires.faults k d h).own) before)) in
    let root = c.in_ok-print_root.ensures.lines in
    let kept = c.in_ok-print_root.ensures.same in
    ShowsTree-end c.args.root root.0 c.args.faults.now merged c.print_end.new.self.text.items (later.arities ∙ first.arities ∙ c.requires.space) c.one_to_one.ensures c.requires.leaves
    c.in_ok-merged.ensures.faults c.canonical.ensures (record { ascending = c.in_ok-merged.ensures.ascending; same = same }) last
    c.in_ok-printer.ensures.conditions c.in_ok-printer.ensures.files c.in_ok-printer.ensures.trees c.in_ok-printer.ensures.text (c.in_ok-printer.ensures.prints space files)
    c.in_ok-print_whole.ensures.lines root.1.0 root.1.1 kept.0 kept.1.0 kept.1.1
    (subst (λ faults. LaidOut space (g.C.Conditions.sets c.print_whole.new.conds) (g.C.Conditions.sets c.print_faults.new.conds) files c.print_root.new.self c.print_faults.new.printer (map fault_item faults))
    c.deref.ensures.value c.in_ok-print_faults.ensures.lines)
    c.one_to_one-2.ensures.conditions c.one_to_one-2.ensures.files c.one_to_one-2.ensures.trees c.in_ok-print_end.ensures

pub returns-clause-keeps : goal.returns-clause-keeps
returns-clause-keeps g c = Keeps-trans c.merged.ensures.keeps (Keeps-trans c.print_whole.ensures.keeps c.print_faults.ensures.keeps)

pub returns-in_err-print_whole-clause-keeps : goal.returns-in_err-print_whole-clause-keeps
returns-in_err-print_whole-clause-keeps g c = Keeps-trans c.merged.ensures.keeps c.print_whole.ensures.keeps

pub returns-in_err-print_root-clause-keeps : goal.returns-in_err-print_root-clause-keeps
returns-in_err-print_root-clause-keeps g c = Keeps-trans c.merged.ensures.keeps c.print_whole.ensures.keeps

pub returns-in_err-print_faults-clause-keeps : goal.returns-in_err-print_faults-clause-keeps
returns-in_err-print_faults-clause-keeps g c = Keeps-trans c.merged.ensures.keeps (Keeps-trans c.print_whole.ensures.keeps c.print_faults.ensures.keeps)

pub returns-in_err-print_end-clause-keeps : goal.returns-in_err-print_end-clause-keeps
returns-in_err-print_end-clause-keeps g c = Keeps-trans c.merged.ensures.keeps (Keeps-trans c.print_whole.ensures.keeps c.print_faults.ensures.keeps)
