-- A subparser with another state on top of its stack is what a reduction makes that passes its tree
-- on.
use Rattle.std.proofs.Common.{◌≡◌, ℕ, ◌<◌, ◌-◌, false, List, [], ◌∷◌, ◌++◌, All, IfSome, length, take, drop, reverse, slice_get, Option, Some, None, refl, sym, ap, ◌∙◌, subst, append-nil, get_or, option_map, is_some, arith}
use Rattle.std.specs.Prelude.{slice_set}
use Rattle.std.proofs.lemmas.Bool.{true≢false}
use Rattle.std.proofs.lemmas.List.Elements.{All-nil, All-cons, All-head}
use Rattle.std.proofs.lemmas.List.{get_or-set_same, set-set}
use Rattle.std.proofs.lemmas.Option.{get_or_from_slice_get, same_Some}
use Rattle.c11_parsing.specs.Bindings.{marked}
use Rattle.c11_parsing.specs.C11.{c11_declarators}
use Rattle.lr_tables.specs.declared.grammar.Action.TheVariants as Action
use Rattle.lr_tables.specs.declared.grammar.Entry.{Entry as RuleEntry}
use Rattle.lr_tables.specs.declared.grammar.Mark.{Mark}
use Rattle.lr_tables.specs.Grammar.{Production}
use Rattle.sc_base.specs.declared.id.TreeId.{TreeId}
use Rattle.sc_base.proofs.Growth.{Extends-refl}
use Rattle.sc_fork.specs.declared.enabled.Enabled.TheVariants as enabled
use Rattle.sc_fork.specs.declared.event.Event.TheVariants.{Reduce}
use Rattle.sc_fork.specs.declared.piece.Piece.{Piece}
use Rattle.sc_fork.specs.declared.piece.Piece.TheVariants.{Going}
use Rattle.sc_fork.specs.declared.source.Source.{Source}
use Rattle.sc_fork.specs.Bundles.{IsDone}
use Rattle.sc_fork.specs.Enabled.{Has, IsEnabled, can_reduce}
use Rattle.sc_fork.specs.Owns.{AllNumbered, IsNumbered, IsSource, OwnsCore, OwnsPiece, OwnsRow}
use Rattle.sc_fork.specs.Passing.{Passes}
use Rattle.sc_fork.specs.Pieces.{Becomes, reduces}
use Rattle.sc_fork.specs.Reducing.{IsValueOf, Rebinds, passed_on}
use Rattle.sc_fork.specs.Seen.{action_in}
use Rattle.sc_fork.specs.View.{View}
use Rattle.sc_fork.proofs.ChoiceLemmas.{leaves-none}
use Rattle.sc_fork.proofs.CoreLemmas.{applied}
use Rattle.sc_fork.proofs.NodeLemmas.{adds-none}
use Rattle.sc_fork.proofs.NumberLemmas.{rows-numbered}
use Rattle.sc_fork.proofs.OwnLemmas.{owns-after}
use Rattle.sc_fork.proofs.PieceLemmas.{at-all}
use Rattle.sc_fork.proofs.ProductionLemmas.{reduction-of}
use Rattle.sc_fork.proofs.ReduceEvents.{IsReduced, is-reduced}
use Rattle.sc_fork.proofs.ReduceLemmas.{few-symbols}
use Rattle.sc_grammar.specs.C11.{productions}
use Rattle.sc_grammar.specs.Production.{symbols_of}
use Rattle.sc_lalr.specs.Tables.{goto_of}
use Rattle.sc_merge.specs.declared.subparser.Subparser.{Subparser}
use Rattle.sc_model.proofs.SetLemmas.{Keeps-refl}
use Rattle.sc_model.specs.Sets.{Sets}
use Rattle.sc_scope.specs.declared.numbers.Numbers.{Numbers}
use Rattle.sc_scope.specs.Numbered.{HasNumbers, levels_made}
use Rattle.sc_scope.specs.Seen.{levels_in}
use Rattle.sc_stack.specs.Entries.{Entry, state_of, states_of, values_of, with_state}
use Rattle.sc_tree.specs.Lines.{Line, OwnsBranches}

-- the subparser with another state on top
abbrev pub passed : ℕ → Subparser → Subparser
passed state s = record s { stack = with_state state s.stack }

record HasTop (stack : List Entry) : Type 0 where
  top : Entry
  below : List Entry
  is : stack ≡ top ∷ below

has-top : (stack : List Entry) → 0 < length (states_of stack) → HasTop stack
has-top [] some = absurd (omega (arith, some))
has-top (entry ∷ below) some = record { top = entry; below = below; is = refl }

-- a right side of one entry has one symbol
pub one-symbol : (sets : Sets) (count : ℕ) (source : Source) (s : Subparser) (j number : ℕ) (entries : List RuleEntry) (rule : Production)
    → IsSource source → OwnsRow sets count source s → action_in source s j ≡ Some (Action.Reduce number) → slice_get productions (number - 1) ≡ Some rule
    → rule.right ≡ symbols_of entries → length entries ≡ 1 → length rule.right ≡ 1
one-symbol sets count source s j number entries rule is own acts numbered right one =
    let r = reduction-of source s j number is is.tables (own.path is.tables) acts in
    let some : 0 < length rule.right = subst (λ (p : Production). 0 < length p.right) (same_Some r.production rule (sym r.at ∙ numbered)) r.not_empty in
    omega (arith, few-symbols entries, some, ap length right, one)

module _ (sets : Sets) (lines : List Line) (source : Source) (rows : List (Option Subparser)) (n state : ℕ) (p : Passes source rows n state)
    (is_source : IsSource source) (own : OwnsRow sets (length lines) source p.parent) where
  top : HasTop p.parent.stack
  top =
      let found = reduction-of source p.parent p.at p.number is_source is_source.tables (own.path is_source.tables) p.acts in
      has-top p.parent.stack (omega (arith, found.not_empty, found.high))

  value : Option TreeId
  value = top.top.value

  is-value : IsValueOf lines p.number (reverse (values_of (take (length p.rule.right) p.parent.stack))) value
  unfolding value top
  is-value =
      subst (λ m. IsValueOf lines p.number (reverse (values_of (take m p.parent.stack))) value) (sym p.one)
      (subst (λ (es : List Entry). IsValueOf lines p.number (reverse (values_of (take 1 es))) value) (sym top.is) (passed_on value))

  owns-value : IfSome value (λ id. id.0 < length lines)
  unfolding value top
  owns-value =
      let Own : Option TreeId → Type 0 = λ v. IfSome v (λ (id : TreeId). id.0 < length lines) in
      All-head Own value (values_of top.below) (subst (λ (es : List Entry). All Own (values_of es)) top.is own.owns.values.each)

  stack-is : with_state state p.parent.stack ≡ record { state = state; value = value } ∷ drop (length p.rule.right) p.parent.stack
  unfolding value top
  stack-is =
      ap (with_state state) top.is
      ∙ ap (λ (es : List Entry). record { state = state; value = value } ∷ es) (sym (ap (λ m. drop m p.parent.stack) p.one ∙ ap (drop 1) top.is))

  rebinds : Rebinds sets sets lines p.parent.cond value (marked c11_declarators p.rule.mark) (levels_in p.parent.scopes) (levels_in p.parent.scopes)
  rebinds =
      let levels = levels_in p.parent.scopes in
      subst (λ (m : Option Mark). Rebinds sets sets lines p.parent.cond value (marked c11_declarators m) levels levels) (sym p.unmarked)
      (record { shows = λ names files c tree shown one config holds reads shows. shows })

  pub reduced : IsReduced p.at p.number sets sets lines lines source p.parent (passed state p.parent)
  reduced =
      is-reduced sets sets lines lines source p.parent (passed state p.parent) p.at p.number state p.rule value is_source p.looks.phase p.acts own
      (Keeps-refl sets) (Extends-refl lines) p.numbered
      (ap (λ m. goto_of source.tables.now (state_of (drop m p.parent.stack)) p.rule.left) p.one ∙ p.goes)
      is-value owns-value refl stack-is refl own.owns.levels rebinds

-- the row of the subparser takes the next number
pub becomes : (before after : View) (n made : ℕ) (s : Subparser) → after.subparsers ≡ slice_set before.subparsers n None ++ Some s ∷ []
    → after.ended ≡ before.ended → made ≡ length before.subparsers → Becomes before (Reduce n) (Going s ∷ []) after (made ∷ [])
becomes before after n made s rows ended is = record {
  rows = rows;
  ended = ended ∙ sym (append-nil before.ended);
  numbers = ap (λ k. k ∷ []) is;
}

pub passed-done : (sets : Sets) (lines : List Line) (before after : View) (n state made : ℕ) (p : Passes before.source before.subparsers n state)
    → after.subparsers ≡ slice_set before.subparsers n None ++ Some (passed state p.parent) ∷ [] → after.ended ≡ before.ended → after.source ≡ before.source
    → made ≡ length before.subparsers → before.is_given_up ≡ false → after.is_given_up ≡ false → OwnsCore sets (length lines) before → OwnsBranches sets lines
    → IsDone sets sets lines lines before (Reduce n) after (made ∷ [])
passed-done sets lines before after n state made p rows ended source is usable still own branches =
    let Row : Option Subparser → Type 0 = λ row. IfSome row (OwnsRow sets (length lines) before.source) in
    let owns : OwnsRow sets (length lines) before.source p.parent = at-all Row before.subparsers n (Some p.parent) (own.rows usable) p.looks.has in
    let step = reduced sets lines before.source before.subparsers n state p own.source owns in
    let can : IsEnabled before.source before.subparsers (Reduce n) (enabled.Reduce p.parent p.at p.number) =
    can_reduce n p.at p.number p.parent p.looks.has p.looks.phase p.acts in
    let pieces : List Piece = Going (passed state p.parent) ∷ [] in
    let mine : All (OwnsPiece sets (length lines) before.source) pieces =
    All-cons (OwnsPiece sets (length lines) before.source) (Going (passed state p.parent)) [] step.row
    (All-nil (OwnsPiece sets (length lines) before.source)) in
    let after_is = becomes before after n made (passed state p.parent) rows ended is in
    record {
      applied = λ names files input seen is_core stands.
          applied sets sets lines lines names files input before after (Reduce n) (enabled.Reduce p.parent p.at p.number) seen pieces (made ∷ [])
          (Keeps-refl sets) (Extends-refl lines) is_core stands can
          (λ names files input t is_input seen. step.pieces names files input t is_input.names_differ is_input seen) mine source after_is;
      rows = record {
        pieces = pieces;
        makes = reduces n p.at p.number p.parent (Going (passed state p.parent)) p.looks.has p.looks.phase p.acts step.by;
        becomes = after_is;
      };
      choices = λ names files input seen is_core stands sound. sound;
      adds = λ m same number stack line by is_node. adds-none lines lines line refl;
      leads = record { leaves = leaves-none before.source.list.now lines lines refl; source = source; keeps = Keeps-refl sets; grows = Extends-refl lines };
      own = owns-after before after (Keeps-refl sets) own source (Reduce n) pieces (made ∷ []) (Extends-refl lines) usable after_is mine;
      branches = branches;
      usable = still;
    }

-- ---- what the calls do

-- the row takes another state where it is, and moves behind the others
pub renumbered : (rows : List (Option Subparser)) (n state : ℕ) (s : Subparser) (first after second gone : Option Subparser)
    (pushed : List (Option Subparser)) → n < length rows → first ≡ get_or rows n first → after ≡ option_map (passed state) first
    → second ≡ get_or (slice_set rows n after) n second → gone ≡ None → pushed ≡ slice_set (slice_set rows n after) n gone ++ second ∷ [] → Has rows n s
    → pushed ≡ slice_set rows n None ++ Some (passed state s) ∷ []
renumbered rows n state s first after second gone pushed within is_first is_after is_second is_gone is_pushed has =
    let was : first ≡ Some s = is_first ∙ get_or_from_slice_get rows n (Some s) first has in
    let same : after ≡ Some (passed state s) = is_after ∙ ap (option_map (passed state)) was in
    let moved : second ≡ Some (passed state s) = is_second ∙ get_or-set_same rows n after second within ∙ same in
    is_pushed ∙ ap (λ rs. rs ++ second ∷ []) (set-set rows n after gone ∙ ap (slice_set rows n) is_gone) ∙ ap (λ row. slice_set rows n None ++ row ∷ []) moved

pub no-mark : (m : Option Mark) → is_some m ≡ false → m ≡ None
no-mark None none = refl
no-mark (Some m) none = absurd (true≢false none)

pub if-found : {P : ℕ → Type 0} (found : Option ℕ) → ((x : ℕ) → found ≡ Some x → P x) → IfSome found P
if-found None make = tt
if-found (Some x) make = make x refl

-- the numbers of scopes are of the same ones
pub still-numbered : (numbers : Numbers) (source : Source) (rows after : List (Option Subparser)) (n state : ℕ) (made : Option ℕ)
    (p : Passes source rows n state) → (made ≡ None → after ≡ rows)
    → ((next : ℕ) (s : Subparser) → made ≡ Some next → Has rows n s → after ≡ slice_set rows n None ++ Some (passed state s) ∷ [])
    → AllNumbered numbers rows → AllNumbered numbers after
still-numbered numbers source rows after n state None p same more own = subst (AllNumbered numbers) (sym (same refl)) own
still-numbered numbers source rows after n state (Some next) p same more own =
    let Row : Option Subparser → Type 0 = λ row. IfSome row (λ (s : Subparser). HasNumbers numbers s.scopes) in
    let piece : Piece = Going (passed state p.parent) in
    rows-numbered numbers numbers rows after (n ∷ []) (piece ∷ []) (Extends-refl (levels_made numbers)) (more next p.parent refl p.looks.has) own
    (All-cons (IsNumbered numbers) piece [] (at-all Row rows n (Some p.parent) own p.looks.has) (All-nil (IsNumbered numbers)))
