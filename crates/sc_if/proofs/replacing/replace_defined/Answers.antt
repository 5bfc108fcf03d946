use Rattle.std.proofs.Common.{◌≡◌, [], All, Ok, map, ap, sym, subst, ◌∙◌}
use Rattle.std.proofs.lemmas.List.Elements.{All-cons, All-nil}
use Rattle.c11_expressions.specs.Lines.{without_defined}
use Rattle.c11_macros.specs.Macros.{Macros}
use Rattle.sc_base.specs.declared.fault.Fault.{Fault}
use Rattle.sc_base.specs.declared.token.Token.{Token}
use Rattle.sc_base.specs.declared.id.Cond.{Cond}
use Rattle.sc_guarded.specs.Items.{faults_at, items_at}
use Rattle.sc_hoist.specs.Alike.{AreAlike, AreAlikeFaults, IsAlike}
use Rattle.sc_if.proofs.AlikeReplacing.{pieces-same, pieces-told}
use Rattle.sc_if.proofs.Replacements.{kept-table, line-held, line-unhidden, stands-refused, stands-tokens}
use Rattle.sc_if.specs.Replaced.{IsPlacedPiece, Stands, seen_failure, seen_piece, unhidden}
use Rattle.sc_model.specs.declared.cause.Cause.TheVariants.{BadIf}
use Rattle.sc_table.proofs.Growth.{IsTable-Extends, macros_at-Extends}
use Rattle.sc_table.specs.Table.{macros_at}
use Rattle.sc_base.specs.Seen.{seen}
use Rattle.std.specs.Prelude.{AllPairs}
use Rattle.sc_if.proofs.DifferentReplacing.{AreApart, no-pairs}
use Rattle.sc_if.proofs.replacing.replace_defined.Goals as goal

pub pieces-requires : goal.pieces-requires
pieces-requires g c = line-held c.intern_digits.ensures.names c.args.line.now c.requires.held

-- ---- the table, as the table of texts has grown

pub returns-in_err-digits-clause-table : goal.returns-in_err-digits-clause-table
returns-in_err-digits-clause-table g c = IsTable-Extends c.intern_digits.ensures.names c.requires.table

pub returns-in_err-digits-clause-still : goal.returns-in_err-digits-clause-still
returns-in_err-digits-clause-still g c = λ x text listed. macros_at-Extends {names = c.args.names.now} c.intern_digits.ensures.names c.requires.table x text

pub returns-in_err-pieces-clause-table : goal.returns-in_err-pieces-clause-table
returns-in_err-pieces-clause-table g c = IsTable-Extends c.intern_digits.ensures.names c.requires.table

pub returns-in_err-pieces-clause-still : goal.returns-in_err-pieces-clause-still
returns-in_err-pieces-clause-still g c = λ x text listed. macros_at-Extends {names = c.args.names.now} c.intern_digits.ensures.names c.requires.table x text

pub replaced-requires-clause-table : goal.replaced-requires-clause-table
replaced-requires-clause-table g c = IsTable-Extends c.intern_digits.ensures.names c.requires.table

pub returns-in_err-refused-in-None-clause-table : goal.returns-in_err-refused-in-None-clause-table
returns-in_err-refused-in-None-clause-table g c = IsTable-Extends c.intern_digits.ensures.names c.requires.table

pub returns-in_err-refused-in-None-clause-still : goal.returns-in_err-refused-in-None-clause-still
returns-in_err-refused-in-None-clause-still g c = λ x text listed. macros_at-Extends {names = c.args.names.now} c.intern_digits.ensures.names c.requires.table x text

pub returns-in_ok-refused-in-None-clause-table : goal.returns-in_ok-refused-in-None-clause-table
returns-in_ok-refused-in-None-clause-table g c = IsTable-Extends c.intern_digits.ensures.names c.requires.table

pub returns-in_ok-refused-in-None-clause-still : goal.returns-in_ok-refused-in-None-clause-still
returns-in_ok-refused-in-None-clause-still g c = λ x text listed. macros_at-Extends {names = c.args.names.now} c.intern_digits.ensures.names c.requires.table x text

pub returns-in_err-list-in-Some-clause-still : goal.returns-in_err-list-in-Some-clause-still
returns-in_err-list-in-Some-clause-still g c =
    kept-table (g.C.Conditions.sets c.args.conds.now) (g.C.Conditions.sets c.replaced.new.conds) c.args.names.now c.intern_digits.new.names c.args.table.now c.replaced.new.table
    c.intern_digits.ensures.names c.requires.table c.replaced.ensures.still

pub returns-in_ok-list-in-Some-clause-still : goal.returns-in_ok-list-in-Some-clause-still
returns-in_ok-list-in-Some-clause-still g c =
    kept-table (g.C.Conditions.sets c.args.conds.now) (g.C.Conditions.sets c.replaced.new.conds) c.args.names.now c.intern_digits.new.names c.args.table.now c.replaced.new.table
    c.intern_digits.ensures.names c.requires.table c.replaced.ensures.still

-- ---- the answer

pub returns-in_ok-list-in-Some-clause-replaced : goal.returns-in_ok-list-in-Some-clause-replaced
returns-in_ok-list-in-Some-clause-replaced g c = λ x listed live.
    let old = g.C.Conditions.sets c.args.conds.now in
    let new = g.C.Conditions.sets c.replaced.new.conds in
    let names = c.args.names.now in
    let more = c.intern_digits.new.names in
    let grows = c.intern_digits.ensures.names in
    let table = c.args.table.now in
    let line = c.args.line.now in
    let pieces = c.deref.result.now in
    let list = c.in_ok-list-in-Some.list in
    let digits = c.in_ok-digits.digits in
    let macros = macros_at old names table x in
    let told = rw c.in-Some.is at c.in_ok-pieces.ensures.some in
    subst (λ faults. Stands c.args.hash (without_defined macros (map (unhidden names) line)) (map (unhidden more) (items_at new list x)) (map seen_failure (faults_at new faults x)))
    (sym c.new.ensures.items)
    (stands-tokens c.args.hash new names more digits.one digits.zero (old.has c.args.live.0 x) macros (macros_at old more table x) line pieces list x
    grows c.requires.held c.in_ok-digits.ensures.is (λ text. macros_at-Extends {names = names} grows c.requires.table x text)
    (told macros ∙ ap (λ ps. Ok (map (seen_piece macros more) ps)) (sym c.deref.ensures.value)) (c.in_ok-list-in-Some.ensures.at x listed) live)

pub returns-in_ok-list-in-Some-clause-placed : goal.returns-in_ok-list-in-Some-clause-placed
returns-in_ok-list-in-Some-clause-placed g c = λ files placed.
    let told = rw c.in-Some.is at c.in_ok-pieces.ensures.placed in
    c.in_ok-list-in-Some.ensures.placed files (subst (All (IsPlacedPiece files)) (sym c.deref.ensures.value) (told files placed))

pub returns-in_ok-refused-in-None-clause-replaced : goal.returns-in_ok-refused-in-None-clause-replaced
returns-in_ok-refused-in-None-clause-replaced g c = λ x listed live.
    let old = g.C.Conditions.sets c.args.conds.now in
    let names = c.args.names.now in
    let table = c.args.table.now in
    let told = rw c.in-None.is at c.in_ok-pieces.ensures.none in
    stands-refused c.args.hash old names c.intern_digits.new.names c.args.live (macros_at old names table x) c.args.line.now c.in_ok-refused-in-None.field-0 x
    c.intern_digits.ensures.names c.requires.held (told (macros_at old names table x)) c.in_ok-refused-in-None.ensures.list c.in_ok-refused-in-None.ensures.faults live

-- ---- configurations that have the same answer

pub returns-in_ok-list-in-Some-clause-alike : goal.returns-in_ok-list-in-Some-clause-alike
returns-in_ok-list-in-Some-clause-alike g c = λ x y p q live_x live_y same.
    let old = g.C.Conditions.sets c.args.conds.now in
    let new = g.C.Conditions.sets c.replaced.new.conds in
    let names = c.args.names.now in
    let more = c.intern_digits.new.names in
    let grows = c.intern_digits.ensures.names in
    let table = c.args.table.now in
    let pieces = c.deref.result.now in
    let told = rw c.in-Some.is at c.in_ok-pieces.ensures.some in
    let line = line-unhidden grows c.args.line.now c.requires.held in
    let read : (macros : Macros) → without_defined macros (map (unhidden names) c.args.line.now) ≡ Ok (map (seen_piece macros more) pieces) =
    λ macros. ap (without_defined macros) (sym line) ∙ (told macros ∙ ap (λ ps. Ok (map (seen_piece macros more) ps)) (sym c.deref.ensures.value)) in
    let first = macros_at old names table in
    let alike = pieces-same (seen_piece (first x) more) (seen_piece (first y) more) pieces _ _ (read (first x)) (read (first y)) same in (
      c.in_ok-list-in-Some.ensures.alike x y p q (live_x ∙ sym live_y)
          (λ is. pieces-told (macros_at old more table x) (macros_at old more table y) (first x) (first y) more
          (λ text. macros_at-Extends {names = names} grows c.requires.table x text) (λ text. macros_at-Extends {names = names} grows c.requires.table y text) pieces alike),
      subst (AreAlikeFaults new x y) (sym c.new.ensures.items) (All-nil (λ (f : Fault). IsAlike new x y f.cond)),
    )

pub returns-in_ok-refused-in-None-clause-alike : goal.returns-in_ok-refused-in-None-clause-alike
returns-in_ok-refused-in-None-clause-alike g c = λ x y p q live_x live_y same.
    let old = g.C.Conditions.sets c.args.conds.now in
    let Same : Fault → Type 0 = λ f. IsAlike old x y f.cond in (
      subst (AreAlike old x y) (sym c.in_ok-refused-in-None.ensures.list) (All-nil (λ (item : Cond × Token). IsAlike old x y item.0)),
      subst (All Same) (sym c.in_ok-refused-in-None.ensures.faults) (All-cons Same (record { cond = c.args.live; cause = BadIf; place = c.args.hash }) [] (live_x ∙ sym live_y) (All-nil Same)),
    )

pub returns-in_ok-list-in-Some-clause-different : goal.returns-in_ok-list-in-Some-clause-different
returns-in_ok-list-in-Some-clause-different g c = λ files apart.
    let told = rw c.in-Some.is at c.in_ok-pieces.ensures.apart in
    c.in_ok-list-in-Some.ensures.different files (subst (AllPairs AreApart) (sym c.deref.ensures.value) (told apart))

pub returns-in_ok-refused-in-None-clause-different : goal.returns-in_ok-refused-in-None-clause-different
returns-in_ok-refused-in-None-clause-different g c = λ files apart.
    no-pairs (λ (a b : Cond × Token). seen c.intern_digits.new.names files a.1 ≡ seen c.intern_digits.new.names files b.1 → ⊥) c.in_ok-refused-in-None.field-0.list c.in_ok-refused-in-None.ensures.list
