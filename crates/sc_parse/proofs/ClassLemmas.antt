-- The classes at a place of the configurations of subparsers that wait there.
use Rattle.std.proofs.Common.{◌≡◌, ℕ, suc, ◌+◌, ◌<◌, List, [], ◌∷◌, All, length, Option, refl, sym, ap, ◌∙◌, arith}
use Rattle.std.specs.List.{Contains}
use Rattle.std.proofs.lemmas.List.Elements.{All-nil, All-cons, All-contains, All-head, All-tail, All-weaker}
use Rattle.std.proofs.lemmas.List.Kept.{AllPairs-cons}
use Rattle.c11_parsing.proofs.OneClass.{one-class}
use Rattle.c11_parsing.specs.Classes.{AreDistinct, Class, HasMoreClasses, Input, IsClass}
use Rattle.c11_parsing.specs.Core as core
use Rattle.sc_fork.proofs.CoreLemmas.{row-seen}
use Rattle.sc_fork.specs.Enabled.{Has}
use Rattle.sc_fork.specs.View.{states_in, depth_of}
use Rattle.sc_merge.specs.declared.subparser.Phase.TheVariants.{At}
use Rattle.sc_merge.specs.declared.subparser.Subparser.{Subparser}
use Rattle.sc_merge.specs.Keys.{AreAlike}
use Rattle.sc_parse.proofs.RowLemmas.{pairs-head, pairs-tail}
use Rattle.sc_parse.specs.declared.steps.Steps.{Steps}
use Rattle.sc_parse.specs.Numbers.{AreApart}
use Rattle.sc_parse.specs.Runs.{AreWaiting, IsRun, IsWaiting}
use Rattle.sc_tree.specs.Reads.{Tables}

-- the class of a subparser for which the element comes next
abbrev pub class_with : Subparser → ℕ → Class
class_with s next = record { states = states_in s; next = next; depth = depth_of s }

-- the configuration is in the class of the subparser that has the number
pub record IsOfNumber (input : Input) (i : ℕ) (rows : List (Option Subparser)) (c : List ℕ) (n : ℕ) : Type 0 where
  pub subparser : Subparser
  pub has : Has rows n subparser
  pub next : ℕ
  pub phase : subparser.phase ≡ At next
  pub class : IsClass input i c (class_with subparser next)

-- as many configurations as there are numbers, in distinct classes
pub record HaveClasses (input : Input) (i : ℕ) (rows : List (Option Subparser)) (ns : List ℕ) : Type 0 where
  pub configs : List (List ℕ)
  pub many : length configs ≡ length ns
  pub each : All (λ (c : List ℕ). (n : ℕ) × (Contains ns n × IsOfNumber input i rows c n)) configs
  pub distinct : AreDistinct input i configs

module _ (w : Tables) (input : Input) (first : core.Core) (i : ℕ) (s : Steps) (run : IsRun w input first s) where
  config-of : (n : ℕ) → (t : Subparser) × (Has s.core.subparsers n t × IsWaiting w.sets input i t) → (c : List ℕ) × IsOfNumber input i s.core.subparsers c n
  config-of n (t, (has, waits)) =
      let row = row-seen w input s.core.subparsers run.last.rows n t run.is.rows has in
      let c = row.seen.possible.config in
      let of = waits.each c row.seen.possible.is_config (sym (row.seen.has c row.seen.possible.is_config) ∙ row.seen.possible.has) in
      (c, record { subparser = t; has = has; next = waits.next; phase = waits.phase; class = record { run = of.run; live = of.live; is = sym of.class } })

  -- subparsers that are not alike have other classes
  other-class : (n m : ℕ) (c d : List ℕ) → ((t u : Subparser) → Has s.core.subparsers n t → Has s.core.subparsers m u → AreAlike t u → ⊥)
      → IsOfNumber input i s.core.subparsers c n → IsOfNumber input i s.core.subparsers d m → (class : Class) → IsClass input i c class → IsClass input i d class → ⊥
  other-class n m c d apart one two class of_c of_d =
      let same : class_with one.subparser one.next ≡ class_with two.subparser two.next =
      one-class input i c (class_with one.subparser one.next) class one.class of_c ∙ one-class input i d class (class_with two.subparser two.next) of_d two.class
      in
      apart one.subparser two.subparser one.has two.has
      (record {
        phase = two.phase ∙ sym (ap (λ (k : Class). At k.next) same) ∙ sym one.phase;
        states = sym (ap (λ (k : Class). k.states) same);
        levels = sym (ap (λ (k : Class). k.depth) same);
      })

  pub distinct : (ns : List ℕ) → AreWaiting w.sets input i s.core.subparsers ns → AreApart s.core.subparsers ns → HaveClasses input i s.core.subparsers ns
  distinct [] waits apart = record {
    configs = [];
    many = refl;
    each = All-nil (λ (c : List ℕ). (n : ℕ) × (Contains {X = ℕ} [] n × IsOfNumber input i s.core.subparsers c n));
    distinct = record { classes = λ k d below. absurd (omega (arith, below)); different = λ k l d low below. absurd (omega (arith, below)) };
  }
  distinct (n ∷ ns) waits apart =
      let P = λ (m : ℕ). (t : Subparser) × (Has s.core.subparsers m t × IsWaiting w.sets input i t) in
      let Unlike = λ (m o : ℕ). (t u : Subparser) → Has s.core.subparsers m t → Has s.core.subparsers o u → AreAlike t u → ⊥ in
      let R = λ (c d : List ℕ). (class : Class) → IsClass input i c class → IsClass input i d class → ⊥ in
      let K = λ (c : List ℕ). (class : Class) × IsClass input i c class in
      let Within = λ (ms : List ℕ) (c : List ℕ). (m : ℕ) × (Contains ms m × IsOfNumber input i s.core.subparsers c m) in
      let mine = config-of n (All-head P n ns waits) in
      let rest = distinct ns (All-tail P n ns waits) (pairs-tail Unlike n ns apart) in
      record {
        configs = mine.0 ∷ rest.configs;
        many = ap suc rest.many;
        each =
            All-cons (Within (n ∷ ns)) mine.0 rest.configs (n, ((0, omega arith, refl), mine.1))
            (All-weaker (Within ns) (Within (n ∷ ns)) (λ c of. (of.0, ((suc of.1.0.0, omega (arith, of.1.0.1), of.1.0.2), of.1.1))) rest.configs rest.each);
        distinct = record {
          classes = All-cons K mine.0 rest.configs (class_with mine.1.subparser mine.1.next, mine.1.class) rest.distinct.classes;
          different =
              AllPairs-cons R mine.0 rest.configs
              (All-weaker (Within ns) (R mine.0)
              (λ c of.
              other-class n of.0 mine.0 c
              (All-contains (Unlike n) ns of.0 (pairs-head Unlike n ns apart) of.1.0) mine.1 of.1.1)
              rest.configs rest.each)
              rest.distinct.different;
        };
      }

  -- at the place there are more classes than there may be
  pub more-classes : (branches : ℕ) (ns : List ℕ) → AreWaiting w.sets input i s.core.subparsers ns → AreApart s.core.subparsers ns → i < length input.items + 1 → branches < length ns
      → HasMoreClasses input branches
  more-classes branches ns waits apart within more =
      let classes = distinct ns waits apart in
      record { place = i; within = within; configs = classes.configs; distinct = classes.distinct; more = omega (arith, more, classes.many) }
