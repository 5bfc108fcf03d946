-- What is seen of a core, and what it owns, stays as the stores grow.
use Rattle.std.proofs.Common.{◌≡◌, ℕ, List, [], ◌∷◌, All, length, map, Option, Result, refl, sym, ap, ◌∙◌, subst}
use Rattle.std.proofs.lemmas.List.Elements.{All-head, All-tail}
use Rattle.c11_parsing.specs.Classes.{Input}
use Rattle.c11_parsing.specs.Core as core
use Rattle.c11_parsing.specs.Trees.{Tree}
use Rattle.sc_base.specs.declared.id.Cond.{Cond}
use Rattle.sc_base.specs.declared.token.Token as base
use Rattle.sc_base.proofs.Growth.{Extends-refl, Extends-within}
use Rattle.sc_fork.specs.declared.piece.Answer.{Answer}
use Rattle.sc_fork.specs.declared.piece.Answer.TheVariants.{Root, Refused}
use Rattle.sc_fork.specs.declared.piece.Ended.{Ended}
use Rattle.sc_fork.specs.declared.source.Source.{Source}
use Rattle.sc_fork.specs.Cores.{AreRows, no_rows, empty_row, full_row, AreOver, none_over, more_over}
use Rattle.sc_fork.specs.Owns.{OwnsAnswer, OwnsEnded, OwnsRow}
use Rattle.sc_fork.specs.Seen.{IsInput, IsSeen, IsAnswer, is_tree, is_fault, IsOver}
use Rattle.sc_merge.specs.declared.subparser.Subparser.{Subparser}
use Rattle.sc_merge.specs.Merges.{tables_with}
use Rattle.sc_merge.proofs.MergeLemmas.{OwnsSubparser-grows}
use Rattle.sc_merge.proofs.ShowLemmas.{ShowsAt-Grows}
use Rattle.sc_model.specs.Fault.{Fault}
use Rattle.sc_model.specs.Growth.{Extends}
use Rattle.sc_model.specs.Sets.{Sets, IsConfig, IsCond, Keeps}
use Rattle.sc_tree.specs.Lines.{Line}
use Rattle.sc_tree.specs.Reads.{Grows}
use Rattle.sc_tree.proofs.ReadLemmas.{Reads-Grows}

module _ {old new : Sets} {lines added : List Line} (keeps : Keeps old new) (longer : Extends lines added) where
  pub OwnsRow-Grows : (source : Source) (s : Subparser) → OwnsRow old (length lines) source s → OwnsRow new (length added) source s
  OwnsRow-Grows source s own = record { owns = OwnsSubparser-grows s keeps longer.longer own.owns; within = own.within; path = own.path }

  answer-Grows : (source : Source) (answer : Answer) → OwnsAnswer (length lines) source answer → OwnsAnswer (length added) source answer
  answer-Grows source (Root id) own = Extends-within id.0 own longer
  answer-Grows source (Refused cause place) own = own

  pub OwnsEnded-Grows : (source : Source) (e : Ended) → OwnsEnded old (length lines) source e → OwnsEnded new (length added) source e
  OwnsEnded-Grows source e own = record { cond = keeps.own e.cond.0 own.cond; answer = answer-Grows source e.answer own.answer }

  module _ (names files : List (List ℕ)) where
    grows-with : Grows (tables_with old lines names files) (tables_with new added names files)
    grows-with = record { sets = keeps; names = Extends-refl names; files = Extends-refl files; lines = longer }

    module _ (input : Input) (arities : input.arities ≡ old.arities) where
      to_old : (c : List ℕ) → IsConfig input.arities c → IsConfig old.arities c
      to_old c config = subst (λ ns. IsConfig ns c) arities config

      pub IsSeen-Grows : (s : Subparser) (t : core.Subparser) → IsSeen (tables_with old lines names files) input s t → IsSeen (tables_with new added names files) input s t
      IsSeen-Grows s t seen = record {
        owns = OwnsSubparser-grows s keeps longer.longer seen.owns;
        has = λ c config. seen.has c config ∙ sym (keeps.at s.cond.0 c seen.owns.cond (to_old c config));
        possible = seen.possible;
        phase = seen.phase;
        states = seen.states;
        each = λ c config has.
            let was = seen.each c config has in
            record {
              shows = ShowsAt-Grows (tables_with old lines names files) (tables_with new added names files) c grows-with (to_old c config) s (t.trees c) (t.levels c) refl seen.owns.levels was.shows;
              next = was.next;
            };
      }

      IsAnswer-Grows : (c : List ℕ) (answer : Answer) (result : Result Tree Fault) → IsConfig input.arities c → IsAnswer (tables_with old lines names files) c answer result
          → IsAnswer (tables_with new added names files) c answer result
      IsAnswer-Grows c _ _ config (is_tree id tree read) =
          is_tree id tree (Reads-Grows (tables_with old lines names files) (tables_with new added names files) c id.0 tree grows-with (to_old c config) read)
      IsAnswer-Grows c _ _ config (is_fault cause place) = is_fault cause place

      pub IsOver-Grows : (e : Ended) (f : core.Ended) → IsOver (tables_with old lines names files) input e f → IsOver (tables_with new added names files) input e f
      IsOver-Grows e f seen = record {
        own = keeps.own e.cond.0 seen.own;
        has = λ c config. seen.has c config ∙ sym (keeps.at e.cond.0 c seen.own (to_old c config));
        possible = seen.possible;
        each = λ c config has. IsAnswer-Grows c e.answer (f.answer c) config (seen.each c config has);
      }

      pub rows-Grow : (rows : List (Option Subparser)) (others : List (Option core.Subparser)) → AreRows (tables_with old lines names files) input rows others
          → AreRows (tables_with new added names files) input rows others
      rows-Grow _ _ no_rows = no_rows
      rows-Grow _ _ (empty_row rows others rest) = empty_row rows others (rows-Grow rows others rest)
      rows-Grow _ _ (full_row s t rows others seen rest) = full_row s t rows others (IsSeen-Grows s t seen) (rows-Grow rows others rest)

      pub over-Grow : (es : List Ended) (fs : List core.Ended) → AreOver (tables_with old lines names files) input es fs → AreOver (tables_with new added names files) input es fs
      over-Grow _ _ none_over = none_over
      over-Grow _ _ (more_over e f es fs seen rest) = more_over e f es fs (IsOver-Grows e f seen) (over-Grow es fs rest)

-- the conditions of the list have what they had
kept-has : {old new : Sets} (list : List (Cond × base.Token)) (c : List ℕ) → Keeps old new → IsConfig old.arities c → All (λ (item : Cond × base.Token). IsCond old item.0.0) list
    → map (λ (item : Cond × base.Token). old.has item.0.0 c) list ≡ map (λ (item : Cond × base.Token). new.has item.0.0 c) list
kept-has [] c keeps config own = refl
kept-has {old} {new} (item ∷ list) c keeps config own =
    let Own : Cond × base.Token → Type 0 = λ it. IsCond old it.0.0 in
    ap (λ b. b ∷ map (λ (it : Cond × base.Token). old.has it.0.0 c) list) (sym (keeps.at item.0.0 c (All-head Own item list own) config))
    ∙ ap (λ bs. new.has item.0.0 c ∷ bs) (kept-has list c keeps config (All-tail Own item list own))

pub IsInput-Grows : {old new : Sets} {lines added : List Line} (names files : List (List ℕ)) (source : Source) (input : Input) → Keeps old new
    → IsInput (tables_with old lines names files) source input → IsInput (tables_with new added names files) source input
IsInput-Grows {old} {new} names files source input keeps is = record {
  standard = is.standard;
  states = is.states;
  parser = is.parser;
  arities = is.arities ∙ sym keeps.arities;
  end = is.end;
  tokens = is.tokens;
  conditions = λ c config.
      let was : IsConfig old.arities c = subst (λ ns. IsConfig ns c) keeps.arities config in
      is.conditions c was ∙ kept-has source.list.now c keeps was is.own;
  terminals = is.terminals;
  own = λ k d below. keeps.own _ (is.own k d below);
  held = is.held;
  files = is.files;
  names_differ = is.names_differ;
}
