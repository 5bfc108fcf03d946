use Rattle.std.proofs.Common.{[], map, refl}
use Rattle.std.proofs.lemmas.Simd.{map-map}
use Rattle.c11_parsing.specs.Trees.{Condition}
use Rattle.sc_base.specs.Seen.{seen, seen_place}
use Rattle.sc_base.specs.declared.id.Cond.{Cond}
use Rattle.sc_base.specs.declared.token.Token.{Token}
use Rattle.sc_fork.specs.Parsers.{c11_parser}
use Rattle.sc_lalr.specs.Tables.{tables_of}
use Rattle.sc_model.specs.Token as plain
use Rattle.sc_parse.proofs.laws.list_has_an_input.Goals as goal

pub returns : goal.returns
returns c = λ w list tables standard end live placed.
    let item_seen : Cond × Token → Condition × plain.Token = λ item. (w.sets.has item.0.0, seen w.names w.files item.1) in (
      record { parser = c11_parser standard (tables_of [] tables); arities = w.sets.arities; items = map item_seen list; end = seen_place w.files end; live = w.sets.has live.0 },
      record {
        states = [];
        parser = refl;
        arities = refl;
        ends = refl;
        has_live = λ config listed. refl;
        tokens = map-map (λ (item : Condition × plain.Token). item.1) item_seen list;
        conditions = λ config listed. map-map (λ (item : Condition × plain.Token). item.0 config) item_seen list;
        files = placed;
      },
    )
