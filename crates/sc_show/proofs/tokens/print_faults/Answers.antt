use Rattle.std.proofs.Common.{◌≡◌, ◌∙◌, refl, subst, map, take, take_all, get_or, arith}
use Rattle.std.proofs.lemmas.Option.{slice_get-get_or}
use Rattle.sc_model.proofs.SetLemmas.{Keeps-refl, Keeps-trans}
use Rattle.sc_space.specs.Seen.{seen_space}
use Rattle.sc_show.specs.Rules.{fault_item, LaidOut}
use Rattle.sc_show.proofs.PrinterLaying.{LaidOut-nothing, LaidOut-more}
use Rattle.sc_show.proofs.TokensShows.{no_fault}
use Rattle.sc_show.proofs.tokens.print_faults.Goals as goal

pub loop-fault-init : goal.loop-fault-init
loop-fault-init g c = record { keeps = Keeps-refl _; lines = LaidOut-nothing c.requires.table }

pub loop-fault-preserved : goal.loop-fault-preserved
loop-fault-preserved g c =
    let was = c.loop-fault.invariant in
    record {
      keeps = Keeps-trans was.keeps c.print_fault.ensures.keeps;
      lines = LaidOut-more fault_item c.args.faults.now c.loop-fault.fault-index (get_or c.args.faults.now c.loop-fault.fault-index no_fault) _
          (slice_get-get_or c.args.faults.now c.loop-fault.fault-index no_fault c.loop-fault-test.true) refl c.print_fault.ensures.keeps was.lines c.in_ok-print_fault.ensures.lines;
    }

pub print_fault-requires : goal.print_fault-requires
print_fault-requires g c =
    let was = c.loop-fault.invariant in
    let can = c.requires.faults c.loop-fault.fault-index no_fault c.loop-fault-test.true in
    record {
      own = was.keeps.own _ can.own;
      file = can.file;
      arities = was.keeps.arities ∙ c.requires.arities;
      names = c.requires.names;
      one_line = c.requires.one_line;
      table = was.lines.laid.table;
    }

pub returns-in_err-print_fault-clause-keeps : goal.returns-in_err-print_fault-clause-keeps
returns-in_err-print_fault-clause-keeps g c = Keeps-trans c.loop-fault.invariant.keeps c.print_fault.ensures.keeps

pub returns : goal.returns
returns g c =
    let was = c.loop-fault.invariant in
    let all : take c.loop-fault.fault-index c.args.faults.now ≡ c.args.faults.now = take_all _ _ (omega arith) in
    record {
      lines = subst (λ faults. LaidOut (seen_space c.args.space.now) (g.C.Conditions.sets c.args.conds.now) (g.C.Conditions.sets c.loop-fault.conds) c.args.files.now c.args.printer.now c.loop-fault.printer (map fault_item faults)) all was.lines;
      keeps = was.keeps;
    }
