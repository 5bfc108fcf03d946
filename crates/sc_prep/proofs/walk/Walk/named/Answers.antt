use Rattle.std.proofs.Common.{◌≡◌, ◌+◌, List, length, sym, subst, true, rules}
use Rattle.sc_prep.proofs.Grown.{placed-grown}
use Rattle.sc_prep.proofs.DirectiveStops.{lists-stop}
use Rattle.sc_prep.proofs.Facts.{Keeps-trans}
use Rattle.sc_prep.proofs.NamedFiles.{each-passes, has-hash, names-leads, said-each}
use Rattle.sc_prep.proofs.Stages.{text-then}
use Rattle.sc_prep.proofs.Terms.{AreHeaders, C11, EachToken, IsHeld, OwnsEach, StopsBy, StopsSaid, Token, any_token, is_plain}
use Rattle.sc_prep.proofs.WalkMoves.{owns-kept}
use Rattle.sc_prep.specs.declared.alternatives.Alternative.{Alternative}
use Rattle.sc_prep.proofs.walk.Walk.named.Goals as goal

pub returns-clause-named : goal.returns-clause-named
returns-clause-named g c =
    let list = c.in_ok-list.ensures in
    let files = c.args.files.now in
    let line = c.args.line.now in
    let texts = c.said.new.names in
    let found = c.in_ok-headers.headers in
    let refuse = c.in_ok-refuse_acting.ensures in
    let s2 = g.C.Conditions.sets c.alternatives.new.conds in
    let headers = subst (λ (each : List Alternative). AreHeaders s2 texts each (g.C.Conditions.sets c.read.new.conds) found) c.deref.ensures.value c.in_ok-headers.ensures.headers in
    record {
      own = λ k d h. refuse.keeps.own _ (c.in_ok-headers.ensures.headers.owns.named k d h);
      at = λ standard x.
          let said = list.says.stage standard in
          let hash = has-hash standard c.args.names.now files line c.requires.line in
          record {
            simulates = names-leads standard x line hash.0 found.named.items found.unnamed c.in_ok-list.list c.in_ok-alternatives.alternatives.items list.keeps c.in_ok-alternatives.ensures.keeps c.in_ok-headers.ensures.keeps
                refuse.keeps list.names (λ k d h. (c.requires.placed k d h).held) hash.1 headers.owns.named said.simulates c.in_ok-alternatives.ensures.at (headers.at files) (refuse.moved standard texts);
            text = text-then c.args.self.now c.said.new.self c.refuse_acting.new.self said.text
                (refuse.printable texts (length files) any_token (λ k d h. placed-grown list.names (length files) _ (c.requires.placed k d h)) said.text.held) refuse.list refuse.runs;
          };
    }

pub returns-clause-plain : goal.returns-clause-plain
returns-clause-plain g c = λ entry plain paths each.
    let list = c.in_ok-list.ensures in
    let texts = c.said.new.names in
    let alternatives = c.in_ok-alternatives in
    let passed = each-passes (is_plain texts) c.said.new.self.acting.0 c.in_ok-list.list alternatives.alternatives.items alternatives.ensures.keeps alternatives.ensures.at
    (said-each C11 c.args.line.now c.in_ok-list.list list.keeps (list.says.stage C11).simulates c.requires.placed plain paths each) alternatives.ensures.some in
    c.in_ok-headers.ensures.plain (subst (EachToken (λ (t : Token). is_plain texts t ≡ true)) (sym c.deref.ensures.value) passed)

pub alternatives-requires-clause-cond_own : goal.alternatives-requires-clause-cond_own
alternatives-requires-clause-cond_own g c = (c.in_ok-list.ensures.says.stage C11).simulates.owns.acting

pub read-requires-clause-own : goal.read-requires-clause-own
read-requires-clause-own g c = subst (OwnsEach (g.C.Conditions.sets c.alternatives.new.conds)) (sym c.deref.ensures.value) c.in_ok-alternatives.ensures.own

pub read-requires-clause-held : goal.read-requires-clause-held
read-requires-clause-held g c =
    let held = c.in_ok-alternatives.ensures.held c.said.new.names (λ k d h. (c.in_ok-list.ensures.says.placed k d h).held) in
    subst (EachToken (IsHeld c.said.new.names)) (sym c.deref.ensures.value) held

pub refuse_acting-requires-clause-owns : goal.refuse_acting-requires-clause-owns
refuse_acting-requires-clause-owns g c = owns-kept (Keeps-trans c.in_ok-alternatives.ensures.keeps c.in_ok-headers.ensures.keeps) c.said.new.self (c.in_ok-list.ensures.says.stage C11).simulates.owns

pub refuse_acting-requires-clause-own : goal.refuse_acting-requires-clause-own
refuse_acting-requires-clause-own g c = c.in_ok-headers.ensures.headers.owns.unnamed

pub returns-in_err-alternatives-clause-stops : goal.returns-in_err-alternatives-clause-stops
returns-in_err-alternatives-clause-stops g c =
    let s = g.C.Conditions.sets c.args.conds.now in
    let stop = c.in_err-alternatives.field-0.0 in
    let list = c.in_ok-list.ensures in
    let kept : StopsSaid s c.args.names.now c.args.files.now c.args.self.now c.args.line.now c.args.limit stop =
    record {
      by = subst (λ a. StopsBy a c.args.limit stop) list.keeps.arities c.in_err-alternatives.ensures.stops;
      at_place = λ standard d directed says apart. lists-stop c.args.limit stop list.keeps.arities (list.says.lists standard d (c.args.limit + 1) directed says apart) c.in_err-alternatives.ensures.lists;
    } in
    search rules

pub returns-in_err-alternatives-clause-keeps : goal.returns-in_err-alternatives-clause-keeps
returns-in_err-alternatives-clause-keeps g c = Keeps-trans c.in_ok-list.ensures.keeps c.in_err-alternatives.ensures.keeps

pub returns-in_err-headers-clause-keeps : goal.returns-in_err-headers-clause-keeps
returns-in_err-headers-clause-keeps g c = Keeps-trans c.in_ok-list.ensures.keeps (Keeps-trans c.in_ok-alternatives.ensures.keeps c.in_err-headers.ensures.keeps)

pub returns-in_err-refuse_acting-clause-keeps : goal.returns-in_err-refuse_acting-clause-keeps
returns-in_err-refuse_acting-clause-keeps g c =
    Keeps-trans c.in_ok-list.ensures.keeps (Keeps-trans c.in_ok-alternatives.ensures.keeps (Keeps-trans c.in_ok-headers.ensures.keeps c.in_err-refuse_acting.ensures.keeps))

pub returns-clause-keeps : goal.returns-clause-keeps
returns-clause-keeps g c =
    Keeps-trans c.in_ok-list.ensures.keeps (Keeps-trans c.in_ok-alternatives.ensures.keeps (Keeps-trans c.in_ok-headers.ensures.keeps c.in_ok-refuse_acting.ensures.keeps))
