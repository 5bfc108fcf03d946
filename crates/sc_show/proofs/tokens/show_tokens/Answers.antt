use Rattle.std.proofs.Common.{ℕ, List, ◌∙◌, ap, sym, subst, map, All}
use Rattle.sc_guarded.proofs.ItemLemmas.{faults_at-Keeps}
use Rattle.sc_guarded.specs.Items.{seen_fault}
use Rattle.sc_model.specs.Sets.{IsConfig}
use Rattle.sc_model.proofs.SetLemmas.{Keeps-trans, IsConfig-kept}
use Rattle.sc_space.specs.Seen.{seen_space}
use Rattle.sc_show.specs.Rules.{fault_item, LaidOut}
use Rattle.sc_guarded.specs.Printable.{IsShowableFault}
use Rattle.sc_show.proofs.TokensEnding.{Shows-end}
use Rattle.sc_show.proofs.TokensShows.{IsShowable-Keeps, IsShowableFault-Keeps}
use Rattle.sc_show.proofs.tokens.show_tokens.Goals as goal

pub print_list-requires-clause-list : goal.print_list-requires-clause-list
print_list-requires-clause-list g c = λ k d h. IsShowable-Keeps c.merged.ensures.keeps (c.requires.list k d h)

pub print_faults-requires-clause-faults : goal.print_faults-requires-clause-faults
print_faults-requires-clause-faults g c =
    let can = IsShowableFault (g.C.Conditions.sets c.merged.new.conds) c.args.files.now in
    let all = subst (All can) (sym c.deref.ensures.value) c.in_ok-merged.ensures.faults in
    λ k d h. IsShowableFault-Keeps c.print_list.ensures.keeps (all k d h)

pub returns-clause-text : goal.returns-clause-text
returns-clause-text g c =
    let first = c.merged.ensures.keeps in
    let later = Keeps-trans c.print_list.ensures.keeps c.print_faults.ensures.keeps in
    let space = seen_space c.args.space.now in
    let files = c.args.files.now in
    let merged = c.in_ok-merged.merged.items in
    let same = λ (x : List ℕ) (listed : IsConfig (g.C.Conditions.sets c.print_faults.new.conds).arities x).
    let here = IsConfig-kept later listed in
    let before = IsConfig-kept first here in
    ap (map (seen_fault files)) (faults_at-Keeps merged x later (λ k d h. (c.in_ok-merged.ensures.faults k d h).own) here)
    ∙ c.in_ok-merged.ensures.same x before
    ∙ ap (map (seen_fault files)) (sym (faults_at-Keeps c.args.faults.now x (Keeps-trans first later) (λ k d h. (c.requires.faults k d h).own) before)) in
    Shows-end c.args.list.now c.args.faults.now merged c.print_end.new.self.text.items (later.arities ∙ first.arities ∙ c.requires.space) c.one_to_one.ensures c.requires.list
    c.in_ok-merged.ensures.faults c.canonical.ensures (record { ascending = c.in_ok-merged.ensures.ascending; same = same }) c.print_faults.ensures.keeps
    c.in_ok-printer.ensures.conditions c.in_ok-printer.ensures.files c.in_ok-printer.ensures.text (c.in_ok-printer.ensures.prints space files) c.in_ok-print_list.ensures.lines
    (subst (λ faults. LaidOut space (g.C.Conditions.sets c.print_list.new.conds) (g.C.Conditions.sets c.print_faults.new.conds) files c.print_list.new.printer c.print_faults.new.printer (map fault_item faults))
    c.deref.ensures.value c.in_ok-print_faults.ensures.lines)
    c.one_to_one-2.ensures.conditions c.one_to_one-2.ensures.files c.in_ok-print_end.ensures

pub returns-clause-keeps : goal.returns-clause-keeps
returns-clause-keeps g c = Keeps-trans c.merged.ensures.keeps (Keeps-trans c.print_list.ensures.keeps c.print_faults.ensures.keeps)

pub returns-in_err-print_faults-clause-keeps : goal.returns-in_err-print_faults-clause-keeps
returns-in_err-print_faults-clause-keeps g c = Keeps-trans c.merged.ensures.keeps (Keeps-trans c.print_list.ensures.keeps c.print_faults.ensures.keeps)

pub returns-in_err-print_list-clause-keeps : goal.returns-in_err-print_list-clause-keeps
returns-in_err-print_list-clause-keeps g c = Keeps-trans c.merged.ensures.keeps c.print_list.ensures.keeps

pub returns-in_err-print_end-clause-keeps : goal.returns-in_err-print_end-clause-keeps
returns-in_err-print_end-clause-keeps g c = Keeps-trans c.merged.ensures.keeps (Keeps-trans c.print_list.ensures.keeps c.print_faults.ensures.keeps)
