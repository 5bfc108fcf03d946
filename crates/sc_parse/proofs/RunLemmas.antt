-- What calls do, one after the other.
use Rattle.std.proofs.Common.{◌≡◌, ℕ, ◌<◌, List, [], ◌++◌, All, length, Option, Some, None, refl, sym, ap, ◌∙◌, subst, append-nil, append_assoc}
use Rattle.std.specs.Prelude.{IfSome}
use Rattle.std.proofs.lemmas.Option.{get_or_from_slice_get, slice_get_within}
use Rattle.c11_parsing.specs.Classes.{Input}
use Rattle.c11_parsing.specs.Core as core
use Rattle.sc_base.proofs.Growth.{Extends-refl, Extends-trans}
use Rattle.sc_fork.proofs.ChoiceLemmas.{leaves-none, leaves-then}
use Rattle.sc_fork.specs.Choices.{AddsLeaves}
use Rattle.sc_fork.specs.declared.source.Source.{Source}
use Rattle.sc_fork.specs.Enabled.{Has}
use Rattle.sc_fork.specs.Owns.{OwnsRow}
use Rattle.sc_merge.specs.declared.subparser.Subparser.{Subparser}
use Rattle.sc_merge.specs.Merges.{tables_with}
use Rattle.sc_model.proofs.SetLemmas.{Keeps-refl, Keeps-trans}
use Rattle.sc_model.specs.Sets.{IsCond, IsConfig, Sets}
use Rattle.sc_parse.specs.declared.steps.Steps.{Steps}
use Rattle.sc_parse.specs.Numbers.{Replaces, times}
use Rattle.sc_parse.specs.Runs.{AreWaiting, GoesOn, IsRun, IsWaiting, OwnsSteps}
use Rattle.sc_parse.proofs.NumberLemmas.{all-times, times-all}
use Rattle.sc_tree.specs.Lines.{Line, OwnsBranches}

pub goes-nowhere : (sets : Sets) (lines : List Line) (place : ℕ) (s : Steps) → OwnsSteps sets (length lines) s → OwnsBranches sets lines → GoesOn sets sets lines lines place s s
goes-nowhere sets lines place s own branches = record {
  keeps = Keeps-refl sets;
  grows = Extends-refl lines;
  branches = branches;
  own = own;
  source = refl;
  leaves = leaves-none s.core.source.list.now lines lines refl;
  run = λ names files input first run. run;
  ended = λ names files input first run within ended. ended;
  sound = λ names files input first run sound. sound;
  more = [];
  events = sym (append-nil _);
}

pub goes-then : (a b c : Sets) (one two three : List Line) (place : ℕ) (s t u : Steps) → GoesOn a b one two place s t → GoesOn b c two three place t u
    → GoesOn a c one three place s u
goes-then a b c one two three place s t u first second = record {
  keeps = Keeps-trans first.keeps second.keeps;
  grows = Extends-trans first.grows second.grows;
  branches = second.branches;
  own = second.own;
  source = second.source ∙ first.source;
  leaves = leaves-then s.core.source.list.now one two three first.leaves (subst (λ (x : Source). AddsLeaves x.list.now two three) first.source second.leaves);
  run = λ names files input start run. second.run names files input start (first.run names files input start run);
  ended = λ names files input start run within ended.
      second.ended names files input start (first.run names files input start run) within (first.ended names files input start run within ended);
  sound = λ names files input start run sound. second.sound names files input start (first.run names files input start run) (first.sound names files input start run sound);
  more = first.more ++ second.more;
  events = second.events ∙ ap (λ es. es ++ second.more) first.events ∙ append_assoc _ first.more second.more;
}

-- each subparser is the stores'
pub row-owned : (sets : Sets) (count : ℕ) (s : Steps) (n : ℕ) (sub : Subparser) → OwnsSteps sets count s → Has s.core.subparsers n sub → OwnsRow sets count s.core.source sub
row-owned sets count s n sub own has =
    let Q : Option Subparser → Type 0 = λ row. IfSome row (OwnsRow sets count s.core.source) in
    let rows : All Q s.core.subparsers = own.core.rows own.usable in
    subst Q (get_or_from_slice_get s.core.subparsers n (Some sub) None has) (rows n None (slice_get_within s.core.subparsers n (Some sub) has))

-- the condition of each subparser is the store's
pub row-cond : (sets : Sets) (count : ℕ) (s : Steps) (n : ℕ) (sub : Subparser) → OwnsSteps sets count s → Has s.core.subparsers n sub → IsCond sets sub.cond.0
row-cond sets count s n sub own has = (row-owned sets count s n sub own has).owns.cond

-- subparsers that stay wait as they did
pub waiting-kept : (old new : Sets) (lines added : List Line) (i : ℕ) (s t : Steps) (names files : List (List ℕ)) (input : Input) (first : core.Core) (gone made ns : List ℕ)
    → GoesOn old new lines added i s t → OwnsSteps old (length lines) s → IsRun (tables_with old lines names files) input first s
    → Replaces s.core.subparsers t.core.subparsers gone made → AreWaiting old input i s.core.subparsers ns → ((n : ℕ) → 0 < times n ns → times n gone ≡ 0)
    → AreWaiting new input i t.core.subparsers ns
waiting-kept old new lines added i s t names files input first gone made ns goes own run replaces waits apart =
    times-all (λ n. (sub : Subparser) × (Has t.core.subparsers n sub × IsWaiting new input i sub)) ns (λ n some.
    let was = all-times (λ m. (sub : Subparser) × (Has s.core.subparsers m sub × IsWaiting old input i sub)) ns n waits some in
    let cond : IsCond old was.0.cond.0 = row-cond old (length lines) s n was.0 own was.1.0 in
    let kept : IsWaiting new input i was.0 = record {
      next = was.1.1.next;
      phase = was.1.1.phase;
      each = λ c config has.
          was.1.1.each c config (sym (goes.keeps.at was.0.cond.0 c cond (subst (λ ns. IsConfig ns c) run.is.source.arities config)) ∙ has);
    } in
    (was.0, (replaces.kept n was.0 was.1.0 (apart n some), kept)))
