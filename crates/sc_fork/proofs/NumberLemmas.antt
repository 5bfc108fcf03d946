-- The scopes of pieces and of a core have numbers from one table.
use Rattle.std.proofs.Common.{◌≡◌, ℕ, List, [], ◌++◌, All, ap, sym, subst, ◌∙◌, Option}
use Rattle.std.specs.Prelude.{IfSome}
use Rattle.std.proofs.lemmas.List.Elements.{All-nil, All-cons, All-append, All-map, All-weaker}
use Rattle.sc_base.specs.declared.id.Cond.{Cond}
use Rattle.sc_fork.specs.declared.piece.Piece.{Piece}
use Rattle.sc_fork.specs.declared.piece.Piece.TheVariants.{Going}
use Rattle.sc_fork.specs.declared.source.Source.{Source}
use Rattle.sc_fork.specs.Kinds.{AddsKind, IsKind, no_part, refused_part, shifted_part}
use Rattle.sc_fork.specs.Owns.{AllNumbered, IsNumbered}
use Rattle.sc_fork.specs.Pieces.{going_of, without}
use Rattle.sc_fork.specs.Seen.{part_of, parts_of}
use Rattle.sc_fork.proofs.OwnLemmas.{going-all, row-weaker, without-own}
use Rattle.sc_merge.specs.declared.subparser.Subparser.{Subparser}
use Rattle.sc_model.specs.Growth.{Extends}
use Rattle.sc_model.specs.Sets.{Sets}
use Rattle.sc_scope.specs.declared.numbers.Numbers.{Numbers}
use Rattle.sc_scope.specs.Numbered.{HasNumbers, levels_made}
use Rattle.sc_scope.proofs.NumberLemmas.{AreNumbered-Extends}

module _ (numbers : Numbers) (parent : Subparser) (has : HasNumbers numbers parent.scopes) where
  pub parts-numbered : (parts : List (Cond × ℕ)) → All (IsNumbered numbers) (parts_of parent parts)
  parts-numbered parts = All-map (IsNumbered numbers) (λ (p : Cond × ℕ). Going (part_of parent p)) parts (λ k d below. has)

  kind-numbered : (sets : Sets) (source : Source) (at : ℕ) (cond : Cond) (kind : ℕ) (pieces : List Piece) → IsKind sets source parent at cond kind pieces → All (IsNumbered numbers) pieces
  kind-numbered sets source at cond kind _ (no_part never) = All-nil (IsNumbered numbers)
  kind-numbered sets source at cond kind _ (refused_part item some is none) = All-cons (IsNumbered numbers) _ [] tt (All-nil (IsNumbered numbers))
  kind-numbered sets source at cond kind _ (shifted_part state next some is behind) =
      All-cons (IsNumbered numbers) (Going next) [] (behind.numbered numbers has) (All-nil (IsNumbered numbers))

  pub kinds-numbered : (sets : Sets) (source : Source) (at : ℕ) (types variables : Cond) (start first second : List Piece) → start ≡ []
      → AddsKind sets source parent at types 1 start first → AddsKind sets source parent at variables 2 first second → All (IsNumbered numbers) second
  kinds-numbered sets source at types variables start first second fresh adds then_adds =
      let both : second ≡ adds.added ++ then_adds.added = then_adds.is ∙ ap (λ ps. ps ++ then_adds.added) (adds.is ∙ ap (λ ps. ps ++ adds.added) fresh) in
      subst (All (IsNumbered numbers)) (sym both)
      (All-append (IsNumbered numbers) adds.added then_adds.added (kind-numbered sets source at types 1 adds.added adds.part) (kind-numbered sets source at variables 2 then_adds.added then_adds.part))

pub rows-numbered : (old new : Numbers) (rows after : List (Option Subparser)) (numbers : List ℕ) (pieces : List Piece) → Extends (levels_made old) (levels_made new)
    → after ≡ without numbers rows ++ going_of pieces → AllNumbered old rows → All (IsNumbered new) pieces → AllNumbered new after
rows-numbered old new rows after numbers pieces longer is own made =
    let New : Subparser → Type 0 = λ s. HasNumbers new s.scopes in
    let Row : Option Subparser → Type 0 = λ row. IfSome row New in
    let kept = All-weaker (λ (row : Option Subparser). IfSome row (λ s. HasNumbers old s.scopes)) Row
    (row-weaker (λ s. HasNumbers old s.scopes) New (λ s. AreNumbered-Extends s.scopes.top longer)) rows own in
    subst (All Row) (sym is) (All-append Row (without numbers rows) (going_of pieces) (without-own New numbers rows kept) (going-all New (IsNumbered new) (λ s has. has) pieces made))
