-- What a core owns after an event, and which event it can do.
use Rattle.std.proofs.Common.{◌≡◌, ℕ, ◌<◌, false, List, [], ◌∷◌, All, length, Option, Some, None, slice_get, sym, subst}
use Rattle.std.specs.Prelude.{IfSome, slice_set}
use Rattle.std.proofs.lemmas.List.Elements.{All-nil, All-cons, All-head, All-tail, All-append, All-set, All-weaker}
use Rattle.std.proofs.lemmas.Option.{slice_get_within}
use Rattle.sc_base.specs.declared.id.Cond.{Cond}
use Rattle.sc_base.specs.declared.token.Token.{Token}
use Rattle.sc_fork.proofs.GrowLemmas.{OwnsEnded-Grows, OwnsRow-Grows}
use Rattle.sc_fork.proofs.PieceLemmas.{at-all}
use Rattle.sc_fork.specs.declared.enabled.Enabled.{Enabled}
use Rattle.sc_fork.specs.declared.event.Event.{Event}
use Rattle.sc_fork.specs.View.{View}
use Rattle.sc_fork.specs.declared.piece.Piece.{Piece}
use Rattle.sc_fork.specs.declared.piece.Piece.TheVariants.{Going, Over}
use Rattle.sc_fork.specs.declared.source.Source.{Source}
use Rattle.sc_fork.specs.Enabled.{IsEnabled, can_split, can_reduce, can_shift, can_classify, can_merge}
use Rattle.sc_fork.specs.Owns.{EachIs, IsSource, OwnsCore, OwnsEnded, OwnsPiece, OwnsRow}
use Rattle.sc_fork.specs.Pieces.{Becomes, going_of, over_of, numbers_of, without}
use Rattle.sc_guarded.proofs.BlockLemmas.{AreBlocks-Keeps}
use Rattle.sc_guarded.specs.Blocks.{AreBlocks}
use Rattle.sc_merge.specs.declared.subparser.Subparser.{Subparser}
use Rattle.sc_model.specs.Growth.{Extends}
use Rattle.sc_model.specs.Sets.{Sets, IsCond, Keeps}
use Rattle.sc_tree.specs.Lines.{Line}

-- ---- the subparsers of an event

module _ (P : Subparser → Type 0) (rows : List (Option Subparser)) where
  row-is : (n : ℕ) (s : Subparser) → slice_get rows n ≡ Some (Some s) → All (λ (row : Option Subparser). IfSome row P) rows → P s
  row-is n s at all = at-all (λ (row : Option Subparser). IfSome row P) rows n (Some s) all at

  pub each-is : (source : Source) (e : Event) (can : Enabled) → IsEnabled source rows e can → All (λ (row : Option Subparser). IfSome row P) rows → EachIs P can
  each-is source _ _ (can_split n i s has phase) all = row-is n s has all
  each-is source _ _ (can_reduce n j p s has phase action) all = row-is n s has all
  each-is source _ _ (can_shift n j s has phase action) all = row-is n s has all
  each-is source _ _ (can_classify n j s has phase) all = row-is n s has all
  each-is source _ _ (can_merge n m s t has_n has_m apart alike) all = (row-is n s has_n all, row-is m t has_m all)

one-within : (rows : List (Option Subparser)) (n : ℕ) (s : Subparser) (numbers : List ℕ) → slice_get rows n ≡ Some (Some s) → All (λ (k : ℕ). k < length rows) numbers
    → All (λ (k : ℕ). k < length rows) (n ∷ numbers)
one-within rows n s numbers at rest = All-cons (λ (k : ℕ). k < length rows) n numbers (slice_get_within rows n (Some s) at) rest

pub numbers-within : (source : Source) (rows : List (Option Subparser)) (e : Event) (can : Enabled) → IsEnabled source rows e can → All (λ (number : ℕ). number < length rows) (numbers_of e)
numbers-within source rows _ _ (can_split n i s has phase) = one-within rows n s [] has (All-nil (λ (k : ℕ). k < length rows))
numbers-within source rows _ _ (can_reduce n j p s has phase action) = one-within rows n s [] has (All-nil (λ (k : ℕ). k < length rows))
numbers-within source rows _ _ (can_shift n j s has phase action) = one-within rows n s [] has (All-nil (λ (k : ℕ). k < length rows))
numbers-within source rows _ _ (can_classify n j s has phase) = one-within rows n s [] has (All-nil (λ (k : ℕ). k < length rows))
numbers-within source rows _ _ (can_merge n m s t has_n has_m apart alike) =
    one-within rows n s (m ∷ []) has_n (one-within rows m t [] has_m (All-nil (λ (k : ℕ). k < length rows)))

-- ---- the core after it

pub without-own : (P : Subparser → Type 0) (numbers : List ℕ) (rows : List (Option Subparser)) → All (λ (row : Option Subparser). IfSome row P) rows
    → All (λ (row : Option Subparser). IfSome row P) (without numbers rows)
without-own P [] rows own = own
without-own P (n ∷ numbers) rows own =
    without-own P numbers (slice_set rows n None) (All-set (λ (row : Option Subparser). IfSome row P) rows n None tt own)

-- what is so of each piece that goes on is so of each new row
module _ (P : Subparser → Type 0) (Q : Piece → Type 0) (goes : (s : Subparser) → Q (Going s) → P s) where
  pub going-all : (pieces : List Piece) → All Q pieces → All (λ (row : Option Subparser). IfSome row P) (going_of pieces)
  going-all [] all = All-nil (λ (row : Option Subparser). IfSome row P)
  going-all (Going s ∷ pieces) all =
      All-cons (λ (row : Option Subparser). IfSome row P) (Some s) (going_of pieces) (goes s (All-head Q (Going s) pieces all)) (going-all pieces (All-tail Q (Going s) pieces all))
  going-all (Over e ∷ pieces) all = going-all pieces (All-tail Q (Over e) pieces all)

module _ (sets : Sets) (count : ℕ) (source : Source) where
  over-own : (pieces : List Piece) → All (OwnsPiece sets count source) pieces → All (OwnsEnded sets count source) (over_of pieces)
  over-own [] own = All-nil (OwnsEnded sets count source)
  over-own (Going s ∷ pieces) own = over-own pieces (All-tail (OwnsPiece sets count source) (Going s) pieces own)
  over-own (Over e ∷ pieces) own =
      All-cons (OwnsEnded sets count source) e (over_of pieces) (All-head (OwnsPiece sets count source) (Over e) pieces own)
      (over-own pieces (All-tail (OwnsPiece sets count source) (Over e) pieces own))

pub row-weaker : (P Q : Subparser → Type 0) → ((s : Subparser) → P s → Q s) → (row : Option Subparser) → IfSome row P → IfSome row Q
row-weaker P Q weaker None own = own
row-weaker P Q weaker (Some s) own = weaker s own

pub items-own : {old new : Sets} (list : List (Cond × Token)) → Keeps old new → All (λ (item : Cond × Token). IsCond old item.0.0) list → All (λ (item : Cond × Token). IsCond new item.0.0) list
items-own list keeps own = λ k d below. keeps.own _ (own k d below)

-- a core owns what it did in stores that have grown
pub OwnsCore-Grows : {old new : Sets} {lines added : List Line} (core : View) → Keeps old new → Extends lines added → OwnsCore old (length lines) core → OwnsCore new (length added) core
OwnsCore-Grows {old} {new} {lines} {added} core keeps longer own = record {
  source = own.source;
  items = items-own core.source.list.now keeps own.items;
  blocks = AreBlocks-Keeps core.source.list.now keeps own.items own.blocks;
  rows = λ usable. All-weaker (λ (row : Option Subparser). IfSome row (OwnsRow old (length lines) core.source)) (λ (row : Option Subparser). IfSome row (OwnsRow new (length added) core.source))
      (row-weaker (OwnsRow old (length lines) core.source) (OwnsRow new (length added) core.source) (OwnsRow-Grows keeps longer core.source)) core.subparsers (own.rows usable);
  ended = λ usable. All-weaker (OwnsEnded old (length lines) core.source) (OwnsEnded new (length added) core.source) (OwnsEnded-Grows keeps longer core.source) core.ended (own.ended usable);
}

-- and what a core that is given up owns are its elements
pub owns-given_up : {old new : Sets} {count more : ℕ} (before after : View) → Keeps old new → OwnsCore old count before → after.source ≡ before.source → (after.is_given_up ≡ false → ⊥) → OwnsCore new more after
owns-given_up {old} {new} before after keeps own source given_up = record {
  source = subst IsSource (sym source) own.source;
  items = subst (λ (s : Source). All (λ (item : Cond × Token). IsCond new item.0.0) s.list.now) (sym source) (items-own before.source.list.now keeps own.items);
  blocks = subst (λ (s : Source). AreBlocks new s.list.now s.blocks) (sym source) (AreBlocks-Keeps before.source.list.now keeps own.items own.blocks);
  rows = λ usable. absurd (given_up usable);
  ended = λ usable. absurd (given_up usable);
}

module _ {old new : Sets} {lines added : List Line} (before after : View) (keeps : Keeps old new) (own : OwnsCore old (length lines) before) (source : after.source ≡ before.source) where
  pub owns-after : (e : Event) (pieces : List Piece) (made : List ℕ) → Extends lines added → before.is_given_up ≡ false → Becomes before e pieces after made
      → All (OwnsPiece new (length added) before.source) pieces → OwnsCore new (length added) after
  owns-after e pieces made longer usable becomes owned =
      let grown = OwnsCore-Grows before keeps longer own in
      record {
        source = subst IsSource (sym source) own.source;
        items = subst (λ (s : Source). All (λ (item : Cond × Token). IsCond new item.0.0) s.list.now) (sym source) grown.items;
        blocks = subst (λ (s : Source). AreBlocks new s.list.now s.blocks) (sym source) grown.blocks;
        rows = λ now. subst (λ (s : Source). All (λ (row : Option Subparser). IfSome row (OwnsRow new (length added) s)) after.subparsers) (sym source)
            (subst (All Row) (sym becomes.rows)
            (All-append Row (without (numbers_of e) before.subparsers) (going_of pieces)
            (without-own (OwnsRow new (length added) before.source) (numbers_of e) before.subparsers (grown.rows usable))
            (going-all (OwnsRow new (length added) before.source) (OwnsPiece new (length added) before.source) (λ s owns. owns) pieces owned)));
        ended = λ now. subst (λ (s : Source). All (OwnsEnded new (length added) s) after.ended) (sym source) (subst (All (OwnsEnded new (length added) before.source)) (sym becomes.ended)
            (All-append (OwnsEnded new (length added) before.source) before.ended (over_of pieces) (grown.ended usable)
            (over-own new (length added) before.source pieces owned)));
      }
    where
      Row : Option Subparser → Type 0
      Row row = IfSome row (OwnsRow new (length added) before.source)
