use Rattle.std.proofs.Common.{◌≡◌, ℕ, ◌++◌, ◌∷◌, [], ◌∙◌, All, List, Option, map, ap, sym, subst, append-nil, length, refl, arith, option_map, if◌then◌else◌}
use Rattle.std.proofs.lemmas.List.Elements.{All-head, All-nil, All-tail}
use Rattle.std.specs.Vec.Iter.{into_iter_items}
use Rattle.c11_expressions.proofs.Reader.{State}
use Rattle.sc_hoist.specs.Alike.{AreAlike, IsAlike}
use Rattle.sc_if.proofs.PutLemmas.{Entry, HaveRead-nil, no-readings}
use Rattle.sc_if.proofs.ReadingLemmas.{few-moved, moved-more}
use Rattle.sc_if.specs.Readings.{HaveRead, all_of, moved, readings_at, seen_reading}
use Rattle.sc_if.specs.Symbols.{seen_symbol}
use Rattle.sc_model.proofs.SetLemmas.{Keeps-refl, Keeps-trans, IsConfig-Keeps}
use Rattle.sc_model.specs.Sets.{IsCond}
use Rattle.sc_if.proofs.readings.advance.Goals as goal

nothing : (xs : List Entry) → length xs ≡ 0 → xs ≡ []
nothing [] none = refl
nothing (x ∷ xs) none = absurd (omega arith)

pub loop-reading-init : goal.loop-reading-init
loop-reading-init g c =
    let s = g.C.Conditions.sets c.args.conds.now in
    let all = c.into_iter-reading-iterator.ensures.into_iter_gives.0 in
    let none = no-readings (record { left = c.new.result; moved = c.new-2.result }) c.new.ensures.items c.new-2.ensures.items in
    let Own : Entry → Type 0 = λ x. IsCond s x.0.0 in
    record {
      can = tt;
      finite = tt;
      long = c.into_iter-reading-iterator.ensures.into_iter_gives.1 ∙ omega (arith, ap length all, c.args.readings.ok.0);
      keeps = Keeps-refl s;
      own = subst (All Own) (sym {A = List Entry} none) (All-nil Own);
      read = subst (HaveRead s c.args.item.0) (sym {A = List Entry} c.new-2.ensures.items) (HaveRead-nil s c.args.item.0);
      rest = subst (All Own) (sym {A = List Entry} all) c.requires.own;
      at = λ x listed few.
          let f : Option State → Option State = moved (s.has c.args.item.0 x) (option_map seen_symbol c.args.symbol) in
          ap (λ (l : List Entry). readings_at s l x ++ map f (readings_at s (into_iter_items c.into_iter-reading-iterator.result) x)) none ∙ ap (λ (l : List Entry). map f (readings_at s l x)) all;
      alike = λ a b la lb item were. (
        subst (AreAlike s a b) (sym {A = List Entry} none) (All-nil (λ (x : Entry). IsAlike s a b x.0)),
        subst (AreAlike s a b) (sym {A = List Entry} all) were,
      );
    }

pub part-requires : goal.part-requires
part-requires g c =
    let s = g.C.Conditions.sets c.args.conds.now in
    let Own : Entry → Type 0 = λ x. IsCond s x.0.0 in
    let was = c.loop-reading.invariant in
    record {
      own = was.own;
      cond_own = was.keeps.own _ (All-head Own c.in-Some.reading (into_iter_items c.next.new.self) (subst (All Own) c.in-Some.ensures.steps.0 was.rest));
      item_own = was.keeps.own _ c.requires.item_own;
    }

pub loop-reading-preserved : goal.loop-reading-preserved
loop-reading-preserved g c =
    let s = g.C.Conditions.sets c.args.conds.now in
    let mid = g.C.Conditions.sets c.loop-reading.conds in
    let now = g.C.Conditions.sets c.part.new.conds in
    let Own : Entry → Type 0 = λ x. IsCond s x.0.0 in
    let was = c.loop-reading.invariant in
    let reading = c.in-Some.reading in
    let left = into_iter_items c.loop-reading.reading-iterator in
    let rest = into_iter_items c.next.new.self in
    let steps : left ≡ reading ∷ rest = c.in-Some.ensures.steps.0 in
    let owned = subst (All Own) steps was.rest in
    let cond_own = All-head Own reading rest owned in
    let parted = c.in_ok-part.ensures.parted in
    let symbol = option_map seen_symbol c.args.symbol in
    record {
      can = tt;
      finite = tt;
      long = omega (arith, ap length steps, c.in-Some.ensures.steps.1, was.long);
      keeps = Keeps-trans was.keeps c.part.ensures.keeps;
      own = parted.own;
      read = parted.read was.read;
      rest = All-tail Own reading rest owned;
      at = λ x listed few.
          let f : Option State → Option State = moved (s.has c.args.item.0 x) symbol in
          let found = readings_at mid (all_of c.loop-reading.next) x in
          let same_cond = was.keeps.at reading.0.0 x cond_own listed in
          let same_item = was.keeps.at c.args.item.0 x c.requires.item_own listed in
          moved-more f s left rest reading found (readings_at now (all_of c.part.new.self) x) (map f (readings_at s c.args.readings.items x)) x steps (few-moved f (readings_at s c.args.readings.items x) few) (was.at x listed few)
          (λ none. parted.at x (IsConfig-Keeps was.keeps listed) (λ t. none (sym same_cond ∙ t)) ∙ (λ j. if same_cond j then moved (same_item j) symbol (seen_reading reading.1) ∷ [] else found));
      alike = λ a b la lb item were.
          let before = was.alike a b la lb item were in
          let Same : Entry → Type 0 = λ x. IsAlike s a b x.0 in
          let both = subst (All Same) steps before.1 in
          let same = λ (k : ℕ) (own : IsCond s k) (e : s.has k a ≡ s.has k b). was.keeps.at k a own la ∙ (e ∙ sym (was.keeps.at k b own lb)) in (
            parted.alike a b (IsConfig-Keeps was.keeps la) (IsConfig-Keeps was.keeps lb) (same c.args.item.0 c.requires.item_own item) (same reading.0.0 cond_own (All-head Same reading rest both)) before.0,
            All-tail Same reading rest both,
          );
    }

pub returns-in_err-part-clause-keeps : goal.returns-in_err-part-clause-keeps
returns-in_err-part-clause-keeps g c = Keeps-trans c.loop-reading.invariant.keeps c.part.ensures.keeps

pub returns : goal.returns
returns g c =
    let s = g.C.Conditions.sets c.args.conds.now in
    let mid = g.C.Conditions.sets c.loop-reading.conds in
    let was = c.loop-reading.invariant in
    let none : into_iter_items c.loop-reading.reading-iterator ≡ [] = nothing (into_iter_items c.loop-reading.reading-iterator) (sym was.long ∙ c.in-None.ensures.steps.0) in
    record {
      moved = record {
        own = was.own;
        read = was.read;
        at = λ x listed few.
            let f : Option State → Option State = moved (s.has c.args.item.0 x) (option_map seen_symbol c.args.symbol) in
            let found = readings_at mid (all_of c.loop-reading.next) x in
            sym (append-nil found) ∙ (ap (λ (l : List Entry). found ++ map f (readings_at s l x)) (sym none) ∙ was.at x listed few);
        alike = λ a b la lb item were. (was.alike a b la lb item were).0;
      };
      keeps = was.keeps;
    }
