-- What a merged subparser shows.
use Rattle.std.proofs.Common.{ℕ, ◌≤◌, List, ◌∙◌}
use Rattle.sc_base.specs.declared.id.Cond.{Cond}
use Rattle.sc_base.proofs.Growth.{Extends-refl}
use Rattle.sc_merge.specs.declared.subparser.Subparser.{Subparser}
use Rattle.sc_merge.specs.Merges.{KeepsShown, KeepValues, OwnsSubparser, tables_with}
use Rattle.sc_merge.proofs.ShowLemmas.{ValuesRead-Grows}
use Rattle.sc_merge.proofs.ValueLemmas.{own-within, values-read}
use Rattle.sc_model.specs.Sets.{Sets, IsCond, Keeps}
use Rattle.sc_model.proofs.SetLemmas.{IsConfig-Keeps, Keeps-trans}
use Rattle.sc_scope.specs.Kinds.{IsOnlyIn, KeepsKinds}
use Rattle.sc_scope.specs.Search.{OwnsLevels}
use Rattle.sc_scope.specs.Seen.{levels_in}
use Rattle.sc_scope.proofs.LevelLemmas.{keeps-show}
use Rattle.sc_scope.proofs.OwnLemmas.{own-Keeps}
use Rattle.sc_scope.proofs.ShowLemmas.{Shows-Keeps}
use Rattle.sc_stack.specs.Entries.{values_of}
use Rattle.sc_tree.specs.Lines.{Line}
use Rattle.sc_tree.specs.Reads.{Grows}

with-conditions : {old new : Sets} (lines : List Line) (names files : List (List ℕ)) → Keeps old new → Grows (tables_with old lines names files) (tables_with new lines names files)
with-conditions lines names files keeps = record { sets = keeps; names = Extends-refl names; files = Extends-refl files; lines = Extends-refl lines }

only-Keeps : {old new : Sets} {cond other : Cond} {c : List ℕ} → Keeps old new → IsCond old cond.0 → IsCond old other.0 → IsOnlyIn old cond other c → IsOnlyIn new cond other c
only-Keeps {cond = cond} {other = other} {c = c} keeps own other_own only = record {
  listed = IsConfig-Keeps keeps only.listed;
  inside = keeps.at cond.0 c own only.listed ∙ only.inside;
  outside = keeps.at other.0 c other_own only.listed ∙ only.outside;
}

-- r are the conditions before the merge, q those with what parts it, s those with its scopes
pub shown-merged : {r q s t : Sets} (before after : List Line) (cond other here there : Cond) (a m : Subparser) → Keeps r q → Keeps q s → Keeps s t → IsCond r cond.0 → IsCond r other.0
    → IsCond q here.0 → IsCond q there.0 → ((c : List ℕ) → IsOnlyIn q cond other c → IsOnlyIn q here there c)
    → KeepValues before after here there (values_of a.stack) (values_of m.stack) → OwnsLevels r (levels_in a.scopes) → KeepsKinds q s here there (levels_in a.scopes) (levels_in m.scopes)
    → OwnsLevels s (levels_in m.scopes) → KeepsShown r t before after cond other a m
shown-merged {r} {q} {s} {t} before after cond other here there a m keeps_q keeps_s keeps_t own other_own own_here own_there part values levels_own kinds owned = record {
  shows = λ names files c trees levels only shown.
      let now = only-Keeps keeps_q own other_own only in
      let trees_now = ValuesRead-Grows _ _ c (with-conditions before names files keeps_q) only.listed _ trees shown.values in
      let scopes_now = Shows-Keeps names c (levels_in a.scopes) levels keeps_q only.listed levels_own shown.scopes in
      record {
        values = ValuesRead-Grows _ _ c (with-conditions after names files (Keeps-trans keeps_s keeps_t)) now.listed _ trees
            (values-read before after here there q names files c own_here own_there (part c now) _ _ trees values trees_now);
        scopes = Shows-Keeps names c (levels_in m.scopes) levels keeps_t (IsConfig-Keeps keeps_s now.listed) owned
            (keeps-show q s names c here there (levels_in a.scopes) (levels_in m.scopes) levels kinds (part c now) scopes_now);
      };
}

-- what a subparser has is the stores', also when they have grown
pub OwnsSubparser-grows : {old new : Sets} {m n : ℕ} (s : Subparser) → Keeps old new → m ≤ n → OwnsSubparser old m s → OwnsSubparser new n s
OwnsSubparser-grows {old} {new} s keeps below own = record {
  cond = keeps.own s.cond.0 own.cond;
  values = own-within (values_of s.stack) below own.values;
  levels = own-Keeps old new (levels_in s.scopes) keeps own.levels;
}
