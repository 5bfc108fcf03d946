use Rattle.std.proofs.Common.{◌≡◌, ◌∙◌, ap, sym, subst, map, take, take_all, List, ℕ, true, arith}
use Rattle.sc_model.specs.Bytes.{has_no_newline}
use Rattle.sc_model.proofs.SetLemmas.{Keeps-refl, Keeps-trans}
use Rattle.sc_space.specs.Seen.{seen_space}
use Rattle.sc_show.specs.Rules.{list_item, token_item, LaidOut}
use Rattle.sc_show.proofs.PrinterLaying.{LaidOut-nothing, LaidOut-more}
use Rattle.sc_show.proofs.TokensShows.{showable_at, text_at-slice_get}
use Rattle.sc_show.proofs.tokens.print_list.Goals as goal

pub loop-index-init : goal.loop-index-init
loop-index-init g c = record { keeps = Keeps-refl _; lines = LaidOut-nothing c.requires.table }

pub loop-index-preserved : goal.loop-index-preserved
loop-index-preserved g c =
    let was = c.loop-index.invariant in
    let place = c.item.result.1.now.place in
    record {
      keeps = Keeps-trans was.keeps c.print_token.ensures.keeps;
      lines = LaidOut-more (list_item c.args.names.now) c.args.list.now c.loop-index.index (c.item.result.0, c.item.result.1.now) (token_item c.item.result.0 place c.text-spelling.result.now) c.item.ensures
          (ap (token_item c.item.result.0 place) (text_at-slice_get c.args.names.now _ c.text-spelling.result.now c.text-spelling.ensures)) c.print_token.ensures.keeps was.lines
          c.in_ok-print_token.ensures.lines;
    }

pub text-spelling-requires : goal.text-spelling-requires
text-spelling-requires g c = (showable_at c.args.list.now c.loop-index.index _ c.requires.list c.item.ensures).held.spelling

pub print_token-requires : goal.print_token-requires
print_token-requires g c =
    let was = c.loop-index.invariant in
    let can = showable_at c.args.list.now c.loop-index.index _ c.requires.list c.item.ensures in
    record {
      own = was.keeps.own _ can.own;
      file = can.file;
      spelling = subst (λ (text : List ℕ). has_no_newline text ≡ true) (sym (text_at-slice_get c.args.names.now _ c.text-spelling.result.now c.text-spelling.ensures)) can.plain;
      arities = was.keeps.arities ∙ c.requires.arities;
      names = c.requires.names;
      one_line = c.requires.one_line;
      table = was.lines.laid.table;
    }

pub returns-in_err-print_token-clause-keeps : goal.returns-in_err-print_token-clause-keeps
returns-in_err-print_token-clause-keeps g c = Keeps-trans c.loop-index.invariant.keeps c.print_token.ensures.keeps

pub returns : goal.returns
returns g c =
    let was = c.loop-index.invariant in
    let all : take c.loop-index.index c.args.list.now ≡ c.args.list.now = take_all _ _ (omega arith) in
    record {
      lines = subst (λ list. LaidOut (seen_space c.args.space.now) (g.C.Conditions.sets c.args.conds.now) (g.C.Conditions.sets c.loop-index.conds) c.args.files.now c.args.printer.now c.loop-index.printer (map (list_item c.args.names.now) list)) all was.lines;
      keeps = was.keeps;
    }
