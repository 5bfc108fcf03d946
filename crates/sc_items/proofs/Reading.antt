-- What the states that are kept say of the states of the definition.
use Rattle.std.proofs.Common.{◌≡◌, ◌↔◌, ◌<◌, ℕ, Bool, false, IsTrue, List, length, get_or, slice_get, Option, Some, None, MatchOption, option_and_then, refl, sym, ap, ◌∙◌, subst, arith}
use Rattle.std.specs.Option.{option_map_or, option_map}
use Rattle.std.specs.Slice.{IsItemAt}
use Rattle.std.specs.Borrow.{Bor}
use Rattle.std.proofs.lemmas.Option.{same_Some, slice_get_within, slice_get_past, slice_get_read, none-some}
use Rattle.std.proofs.lemmas.Bool.{false≢true}
use Rattle.lr_tables.specs.Grammar.{IsGrammar}
use Rattle.lr_tables.specs.Tables.{Closure, Moved, IsGoto, NoGoto}
use Rattle.lr_tables.specs.declared.grammar.Grammar.{Grammar}
use Rattle.sc_items.specs.declared.automaton.State.{State}
use Rattle.sc_items.specs.declared.automaton.States.{States}
use Rattle.sc_items.specs.Reach.{marked}
use Rattle.sc_items.specs.States.{IsState, AreStates, HasItem, kernels_of, has_item, goto_of}
use Rattle.lr_tables.proofs.Determined.{goto_member}
use Rattle.lr_tables.proofs.Members.{slice_some}
use Rattle.sc_items.proofs.Finding.{goto_source}
use Rattle.sc_items.proofs.Exploring.{after_small}

has_at : (g : Grammar) (states : States) (s i : ℕ) (o : Option State) → slice_get states.rows.items s ≡ o → AreStates g states → IsTrue (option_map_or (λ (state : State). marked state.items.items i) o false) ↔ HasItem g (kernels_of states) s i
has_at g states s i None e h = (λ m. absurd (false≢true m), λ w. absurd (none-some (slice_some states.rows.items s (omega (arith, h.long, slice_get_within (kernels_of states) s w.kernel w.kernel_at))).0 (sym e ∙ (slice_some states.rows.items s (omega (arith, h.long, slice_get_within (kernels_of states) s w.kernel w.kernel_at))).1)))
has_at g states s i (Some state) e h =
    let is = h.each s state e in (
      λ m. record { kernel = is.kernel; kernel_at = is.kernel_at; within = (is.items i).0 m },
      λ w. (is.items i).1 (subst (λ zs. Closure g zs i) (same_Some w.kernel is.kernel (sym w.kernel_at ∙ is.kernel_at)) w.within),
    )

pub has_exact : (g : Grammar) (states : States) (s i : ℕ) (r : Bool) → r ≡ has_item states s i → AreStates g states → IsTrue r ↔ HasItem g (kernels_of states) s i
has_exact g states s i r e h = subst (λ b. IsTrue b ↔ HasItem g (kernels_of states) s i) (sym e) (has_at g states s i (slice_get states.rows.items s) refl h)

-- a symbol leads only from a state of the list
goto_in : (g : Grammar) (states : States) (s x t : ℕ) → AreStates g states → IsGoto g (kernels_of states) s x t → s < length states.rows.items
goto_in g states s x t h goto = omega (arith, h.long, slice_get_within (kernels_of states) s goto.source goto.source_at)

goto_at : (g : Grammar) (states : States) (s x : ℕ) (o : Option State) → slice_get states.rows.items s ≡ o → IsGrammar g → AreStates g states → MatchOption (option_and_then (λ (state : State). option_and_then (λ (to : Option ℕ). to) (slice_get state.gotos.items x)) o) (NoGoto g (kernels_of states) s x) (IsGoto g (kernels_of states) s x)
goto_at g states s x None e grammar h = record { none = λ t goto. absurd (none-some (slice_some states.rows.items s (goto_in g states s x t h goto)).0 (sym e ∙ (slice_some states.rows.items s (goto_in g states s x t h goto)).1)) }
goto_at g states s x (Some state) e grammar h = go (slice_get state.gotos.items x) refl
  where
    is : IsState g (kernels_of states) s state
    is = h.each s state e

    moved_here : (t : ℕ) (goto : IsGoto g (kernels_of states) s x t) → Moved g is.kernel x (get_or goto.target 0 0)
    moved_here t goto = subst (λ zs. Moved g zs x (get_or goto.target 0 0)) (goto_source g (kernels_of states) s x t is.kernel goto is.kernel_at) (goto_member g (kernels_of states) s x t goto)

    go : (r : Option (Option ℕ)) → slice_get state.gotos.items x ≡ r → MatchOption (option_and_then (λ (to : Option ℕ). to) r) (NoGoto g (kernels_of states) s x) (IsGoto g (kernels_of states) s x)
    go None f = record {
      none = λ t goto. (
          let small = after_small g (moved_here t goto).from x grammar (moved_here t goto).over in
          let there = slice_some state.gotos.items x (omega (arith, is.gotos.long, small)) in
          none-some there.0 (sym f ∙ there.1));
    }
    go (Some None) f = record { none = λ t goto. is.gotos.none x f (get_or goto.target 0 0) (moved_here t goto) }
    go (Some (Some t)) f = is.gotos.some x t f

pub goto_exact : (g : Grammar) (states : States) (s x : ℕ) (r : Option ℕ) → r ≡ goto_of states s x → IsGrammar g → AreStates g states → MatchOption r (NoGoto g (kernels_of states) s x) (IsGoto g (kernels_of states) s x)
goto_exact g states s x r e grammar h = subst (λ o. MatchOption o (NoGoto g (kernels_of states) s x) (IsGoto g (kernels_of states) s x)) (sym e) (goto_at g states s x (slice_get states.rows.items s) refl grammar h)

-- what `get` lends
get_is : {X : Type 0} (xs : List X) (i : ℕ) (r : Option (Bor X)) → IsItemAt xs i r → option_map (λ (x : Bor X). x.now) r ≡ slice_get xs i
get_is xs i None h = sym (slice_get_past xs i h.3)
get_is xs i (Some x) h = sym (slice_get_read xs (length xs) i x.now refl h.3.0 h.1)

pub read_is : {X : Type 0} (xs view : List X) (i : ℕ) (r : Option (Bor X)) → view ≡ xs → IsItemAt view i r → slice_get xs i ≡ option_map (λ (x : Bor X). x.now) r
read_is xs view i r e h = sym (get_is view i r h ∙ ap (λ zs. slice_get zs i) e)
