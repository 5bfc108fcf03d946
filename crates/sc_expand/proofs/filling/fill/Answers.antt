use Rattle.std.proofs.Common.{◌≡◌, ◌∙◌, ◌++◌, ℕ, [], true, false, Bool, List, All, map, sym, ap, subst}
use Rattle.sc_expand.proofs.AlikeLemmas.{AreAlike-conditions, AreAlike-nil, IsAlike-Keeps}
use Rattle.sc_expand.proofs.Facts.{All-nil, Extends-refl, IsConfig-Keeps, Keeps-trans, hide_later, spaced_first}
use Rattle.sc_expand.proofs.FillingLemmas.{items_later, items_seen, made_held, parts_seen}
use Rattle.sc_expand.proofs.Terms.{Adds, AllHeld, AreAlike, AreHeld, Cond, Hidden, IsAlike, IsConfig, IsHeldPartIn, IsHeldToken, Part, Sets, Stores, filled_in, first_spaced_if, hidden_by, hide_at, hiding, items_at, parts_at, provenance_of, seen_hidden, seen_part, stores, with_space}
use Rattle.sc_expand.proofs.filling.fill.Goals as goal

-- the parts, with the first token spaced, are held
laid-held : {old mid new : Sets} {st : Stores} {files : ℕ} (parts : List Part) {expanded lists : List (List (Cond × Hidden))} {filled spaced made : List (Cond × Hidden)} {f g : List ℕ → List Hidden} {A B : List ℕ → List ℕ → Type 0}
    → Adds old mid [] filled f (λ st files. All (IsHeldPartIn st files) parts × All (AllHeld st files) expanded) A → Adds mid new spaced made g (λ st files. AllHeld st files filled) B → spaced ≡ []
    → expanded ≡ lists → All (IsHeldPartIn st files) parts → All (AreHeld st files) lists → AllHeld st files made
laid-held {st = st} {files = files} parts fills puts empty same parts_held held =
    let none = All-nil (λ (item : Cond × Hidden). IsHeldToken st files item.1) in
    let lists = subst (All (AreHeld st files)) (sym same) held in
    puts.held st files (fills.held st files (parts_held, λ k d h. (lists k d h).held) none) (subst (AllHeld st files) (sym empty) none)

pub put_parts-requires-clause-expanded_own : goal.put_parts-requires-clause-expanded_own
put_parts-requires-clause-expanded_own g c =
    let st = stores (g.C.Conditions.sets c.args.conds.now) c.args.names.now c.args.sets.now in
    let held = subst (All (AreHeld st c.requires.held.0)) (sym c.deref.ensures.value) c.requires.held.1.1.expanded in
    λ k d h. (held k d h).own

pub hide_in-requires-clause-held : goal.hide_in-requires-clause-held
hide_in-requires-clause-held g c =
    let spaced = laid-held c.args.parts.now c.in_ok-filled.ensures.adds c.in_ok-put_list.ensures.adds c.in_ok-spaced.ensures c.deref.ensures.value c.requires.held.1.0 c.requires.held.1.1.expanded in
    λ k d h. (spaced k d h).held

pub returns : goal.returns
returns g c =
    let old = g.C.Conditions.sets c.args.conds.now in
    let mid = g.C.Conditions.sets c.put_parts.new.conds in
    let new = g.C.Conditions.sets c.put_list.new.conds in
    let st = stores old c.args.names.now c.args.sets.now in
    let names = c.args.names.now in
    let call = c.args.call.now in
    let space = call.head.token.space in
    let expanded = c.deref.result.now in
    let parts = c.args.parts.now in
    let laid = c.put_list.new.made in
    let made = c.in_ok-made.made.items in
    let keeps = c.put_parts.ensures.keeps in
    let fills = c.in_ok-filled.ensures.adds in
    let puts = c.in_ok-put_list.ensures.adds in
    let empty : c.in_ok-spaced.spaced ≡ [] = c.in_ok-spaced.ensures in
    let conds = c.in_ok-made.ensures.conditions in
    let seen = c.in_ok-made.ensures.is in
    let was = seen_hidden names c.args.sets.now in
    let see = seen_hidden names c.hide_in.new.sets in
    let hides = hidden_by (provenance_of []) (hide_at names c.hide_in.new.sets call.hide.0) in
    let laid-is : (x : List ℕ) → IsConfig old.arities x → (b : Bool) → old.has call.cond.0 x ≡ b → items_at new laid x ≡ first_spaced_if b space (parts_at old expanded b x parts) = λ x listed b has.
    puts.is x (IsConfig-Keeps keeps listed)
    ∙ (λ i. items_at mid (empty i) x ++ first_spaced_if ((keeps.at call.cond.0 x c.requires.held.1.1.own listed ∙ has) i) space ((fills.is x listed ∙ ap (λ t. parts_at old expanded t x parts) has) i)) in
    let hidden : (x : List ℕ) → map see (items_at new made x) ≡ map hides (map see (items_at new laid x)) = λ x. items_seen new see see hides laid made x conds seen in
    record {
      is = λ x listed has.
          let grows = c.hide_in.ensures.sets in
          let spaced = laid-held parts fills puts empty c.deref.ensures.value c.requires.held.1.0 c.requires.held.1.1.expanded in
          let same_hide : hide_at names c.hide_in.new.sets call.hide.0 ≡ hide_at names c.args.sets.now call.hide.0 = hide_later call.hide.0 c.requires.held.1.1.hide (Extends-refl names) grows in
          let tokens = parts_at old expanded true x parts in
          hidden x
          ∙ (ap (map hides) (items_later new st c.requires.held.0 names c.hide_in.new.sets laid x spaced (Extends-refl names) grows ∙ ap (map was) (laid-is x listed true has))
          ∙ (ap (map hides) (spaced_first names c.args.sets.now tokens space ∙ ap (with_space space) (parts_seen old names c.args.sets.now expanded x parts))
          ∙ (ap (λ ls. map hides (with_space space (filled_in (map (λ list. map was (items_at old list x)) ls) (map (seen_part names c.args.sets.now) parts)))) c.deref.ensures.value
          ∙ ap (λ h. hiding (provenance_of []) h (with_space space (filled_in (map (λ list. map was (items_at old list x)) call.expanded.items) (map (seen_part names c.args.sets.now) parts)))) same_hide)));
      none = λ x listed lacks. hidden x ∙ ap (λ l. map hides (map see l)) (laid-is x listed false lacks);
      held = λ files parts_held call_held.
          made_held new st files names c.hide_in.new.sets (hide_at names c.hide_in.new.sets call.hide.0) laid made conds seen puts.own (laid-held parts fills puts empty c.deref.ensures.value parts_held call_held.expanded) c.in_ok-made.ensures.own;
      alike = λ x y p q alike.
          let lists = subst (All (AreAlike {T = Hidden} old x y)) (sym c.deref.ensures.value) alike.expanded in
          let filled : AreAlike mid x y c.in_ok-filled.filled = fills.alike x y p q (lists, alike.cond) (AreAlike-nil old x y) in
          let cond : IsAlike mid x y call.cond = IsAlike-Keeps keeps p q {cond = call.cond} c.requires.held.1.1.own alike.cond in
          AreAlike-conditions new x y laid made conds (puts.alike x y (IsConfig-Keeps keeps p) (IsConfig-Keeps keeps q) (filled, cond) (subst (AreAlike mid x y) (sym empty) (AreAlike-nil mid x y)));
      keeps = Keeps-trans keeps c.put_list.ensures.keeps;
      sets = c.hide_in.ensures.sets;
    }

pub returns-in_err-put_list-clause-keeps : goal.returns-in_err-put_list-clause-keeps
returns-in_err-put_list-clause-keeps g c = Keeps-trans c.put_parts.ensures.keeps c.put_list.ensures.keeps

pub returns-in_err-made-clause-keeps : goal.returns-in_err-made-clause-keeps
returns-in_err-made-clause-keeps g c = Keeps-trans c.put_parts.ensures.keeps c.put_list.ensures.keeps
