use Rattle.std.proofs.Common.{◌≡◌, ◌≤◌, ◌+◌, ◌-◌, suc, ℕ, List, slice_get, slice_range, Some, refl, sym, ap, ◌∙◌, subst, arith}
use Rattle.std.proofs.lemmas.Option.{same_Some}
use Rattle.lr_tables.specs.Grammar.{Production as Rule, entries_of}
use Rattle.lr_tables.specs.declared.grammar.Entry.{Entry}
use Rattle.lr_tables.specs.declared.grammar.Entry.TheVariants.{Left}
use Rattle.lr_tables.proofs.Members.{slice_some}
use Rattle.sc_grammar.specs.declared.TheConstants.{PRODUCTIONS}
use Rattle.sc_grammar.specs.C11.{productions}
use Rattle.sc_grammar.specs.Production.{places_from, symbols_of}
use Rattle.sc_grammar.proofs.Places.{reads, rule_same}
use Rattle.sc_grammar.proofs.lookup.production.Goals as goal

-- the production of a number stands between its two places
module _ (number begin end : ℕ) (entries : List Entry) (first : 1 ≤ number) (last : number ≤ PRODUCTIONS) (begins : slice_get (places_from 0 productions) (number - 1) ≡ Some begin) (ends : slice_get (places_from 0 productions) number ≡ Some end) (are : entries ≡ entries_of productions) where
  ends_next : slice_get (places_from 0 productions) (suc (number - 1)) ≡ Some end
  ends_next = let e : number ≡ suc (number - 1) = omega arith in subst (λ k. slice_get (places_from 0 productions) k ≡ Some end) e ends

  its_rule : (p : Rule) × (slice_get productions (number - 1) ≡ Some p)
  its_rule = slice_some productions (number - 1) (omega arith)

pub read-requires : goal.read-requires
read-requires c =
    let p = its_rule c.args.number c.place.result c.place-2.result c.entries.result.now c.requires.first c.requires.last c.place.ensures c.place-2.ensures c.entries.ensures in
    let next = ends_next c.args.number c.place.result c.place-2.result c.entries.result.now c.requires.first c.requires.last c.place.ensures c.place-2.ensures c.entries.ensures in
    let r = reads productions c.entries.result.now (slice_range c.entries.result.now (c.place.result + 1) c.place-2.result) (c.args.number - 1) c.place.result c.place-2.result p.0 p.1 c.entries.ensures c.place.ensures next refl in
    record { begin = r.2; end = r.3; left = record { left = record { 0 = p.0.left }; mark = p.0.mark; at = r.0 } }

pub returns : goal.returns
returns c =
    let p = its_rule c.args.number c.place.result c.place-2.result c.entries.result.now c.requires.first c.requires.last c.place.ensures c.place-2.ensures c.entries.ensures in
    let next = ends_next c.args.number c.place.result c.place-2.result c.entries.result.now c.requires.first c.requires.last c.place.ensures c.place-2.ensures c.entries.ensures in
    let r = reads productions c.entries.result.now c.read.result.right.now (c.args.number - 1) c.place.result c.place-2.result p.0 p.1 c.entries.ensures c.place.ensures next c.read.ensures.right in
    let same = same_Some (Left (record { 0 = p.0.left }) p.0.mark) (Left c.read.result.left c.read.result.mark) (sym r.0 ∙ c.read.ensures.left) in
    p.1 ∙ ap (λ z. Some z) (rule_same p.0 c.read.result.left (symbols_of c.read.result.right.now) c.read.result.mark same r.1)
