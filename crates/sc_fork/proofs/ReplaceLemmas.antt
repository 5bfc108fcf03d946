-- The pieces of an event take the next numbers.
use Rattle.std.proofs.Common.{◌≡◌, ℕ, ◌+◌, ◌∷◌, [], ◌++◌, List, Option, Some, None, length, refl, sym, ap, ◌∙◌, append_assoc, append-nil, length-append, subst, map-id}
use Rattle.std.specs.List.{range_with_len}
use Rattle.std.specs.Prelude.{slice_set}
use Rattle.std.proofs.lemmas.List.{length-set}
use Rattle.std.proofs.lemmas.List.FromFn.{map-range_with_len_more}
use Rattle.sc_fork.specs.declared.event.Event.{Event}
use Rattle.sc_fork.specs.View.{View}
use Rattle.sc_fork.specs.declared.piece.Ended.{Ended}
use Rattle.sc_fork.specs.declared.piece.Piece.{Piece}
use Rattle.sc_fork.specs.declared.piece.Piece.TheVariants.{Going, Over}
use Rattle.sc_fork.specs.Pieces.{Becomes, IsPlaced, going_of, over_of, numbers_of, without}
use Rattle.sc_merge.specs.declared.subparser.Subparser.{Subparser}

pub length-without : (numbers : List ℕ) (rows : List (Option Subparser)) → length (without numbers rows) ≡ length rows
length-without [] rows = refl
length-without (n ∷ numbers) rows = length-without numbers (slice_set rows n None) ∙ length-set rows n None

going-append : (xs ys : List Piece) → going_of (xs ++ ys) ≡ going_of xs ++ going_of ys
going-append [] ys = refl
going-append (Going s ∷ xs) ys = ap (λ rows. Some s ∷ rows) (going-append xs ys)
going-append (Over e ∷ xs) ys = going-append xs ys

over-append : (xs ys : List Piece) → over_of (xs ++ ys) ≡ over_of xs ++ over_of ys
over-append [] ys = refl
over-append (Going s ∷ xs) ys = over-append xs ys
over-append (Over e ∷ xs) ys = ap (λ es. e ∷ es) (over-append xs ys)

range-more : (a n j : ℕ) → a + n ≡ j → range_with_len a (n + 1) ≡ range_with_len a n ++ j ∷ []
range-more a n j e =
    sym (map-id (range_with_len a (n + 1))) ∙ map-range_with_len_more (λ k. k) a n j e ∙ ap (λ ks. ks ++ j ∷ []) (map-id (range_with_len a n))

pub placed-going : (rows : List (Option Subparser)) (ended : List Ended) (taken : List Piece) (piece : Piece) (s : Subparser) (before after : List (Option Subparser)) (over : List Ended)
    (made numbers : List ℕ) (next : ℕ) → IsPlaced rows ended taken before over made → piece ≡ Going s → after ≡ before ++ Some s ∷ [] → next ≡ length before
    → numbers ≡ made ++ next ∷ [] → IsPlaced rows ended (taken ++ piece ∷ []) after over numbers
placed-going rows ended taken piece s before after over made numbers next was going more is more_numbers =
    subst (λ p. IsPlaced rows ended (taken ++ p ∷ []) after over numbers) (sym going)
    (record {
      rows_are = more ∙ ap (λ rs. rs ++ Some s ∷ []) was.rows_are ∙ append_assoc rows (going_of taken) (Some s ∷ []) ∙ ap (λ rs. rows ++ rs) (sym (going-append taken (Going s ∷ [])));
      ended_are = was.ended_are ∙ ap (λ es. ended ++ es) (sym (append-nil (over_of taken)) ∙ sym (over-append taken (Going s ∷ [])));
      numbers =
          more_numbers ∙ ap (λ ns. ns ++ next ∷ []) was.numbers
          ∙ sym (range-more (length rows) (length (going_of taken)) next (sym (is ∙ ap length was.rows_are ∙ length-append rows (going_of taken))))
          ∙ ap (range_with_len (length rows)) (sym (ap length (going-append taken (Going s ∷ [])) ∙ length-append (going_of taken) (Some s ∷ [])));
    })

pub placed-over : (rows : List (Option Subparser)) (ended : List Ended) (taken : List Piece) (piece : Piece) (e : Ended) (next : List (Option Subparser)) (before after : List Ended) (made : List ℕ)
    → IsPlaced rows ended taken next before made → piece ≡ Over e → after ≡ before ++ e ∷ [] → IsPlaced rows ended (taken ++ piece ∷ []) next after made
placed-over rows ended taken piece e next before after made was over more =
    let no_more : going_of (taken ++ Over e ∷ []) ≡ going_of taken = going-append taken (Over e ∷ []) ∙ append-nil (going_of taken) in
    subst (λ p. IsPlaced rows ended (taken ++ p ∷ []) next after made) (sym over)
    (record {
      rows_are = was.rows_are ∙ ap (λ rs. rows ++ rs) (sym no_more);
      ended_are = more ∙ ap (λ es. es ++ e ∷ []) was.ended_are ∙ append_assoc ended (over_of taken) (e ∷ []) ∙ ap (λ es. ended ++ es) (sym (over-append taken (Over e ∷ [])));
      numbers = was.numbers ∙ ap (λ rs. range_with_len (length rows) (length rs)) (sym no_more);
    })

-- all pieces are placed
pub becomes : (before after : View) (event : Event) (pieces : List Piece) (made : List ℕ)
    → IsPlaced (without (numbers_of event) before.subparsers) before.ended pieces after.subparsers after.ended made → Becomes before event pieces after made
becomes before after event pieces made is = record {
  rows = is.rows_are;
  ended = is.ended_are;
  numbers = is.numbers ∙ ap (λ n. range_with_len n (length (going_of pieces))) (length-without (numbers_of event) before.subparsers);
}

-- the next item is taken of a list that is passed
pub taken-more : {A : Type 0} (taken : List A) (x : A) (left rest all : List A) → left ≡ x ∷ rest → taken ++ left ≡ all → (taken ++ x ∷ []) ++ rest ≡ all
taken-more taken x left rest all next is = append_assoc taken (x ∷ []) rest ∙ ap (λ xs. taken ++ xs) (sym next) ∙ is
