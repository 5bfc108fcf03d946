-- Runs that end: their text is taken out, its operators are carried out, and faults are told.
use Rattle.std.proofs.Common.{◌≡◌, ◌∙◌, ◌&&◌, ◌++◌, [], Bool, ℕ, List, All, Option, ap, refl, subst, sym}
use Rattle.sc_base.specs.declared.fault.Fault.{Fault}
use Rattle.sc_base.specs.declared.token.Token.{Token}
use Rattle.sc_base.specs.Seen.{IsHeld}
use Rattle.sc_subst.specs.declared.hidden.Hidden.{Hidden}
use Rattle.sc_prep.proofs.Facts.{All-append, IsConfig-Keeps, IsConfig-kept, Keeps-trans, items_at-Keeps}
use Rattle.sc_prep.proofs.RunLemmas.{denotes-as, faults-All, within-as, within-later}
use Rattle.sc_prep.proofs.Terms.{Cond, Denotes, EndsRuns, Expanded, Failure, IsCond, IsConfig, IsWithin, Keeps, OpenRuns, RefusesEach, Sets, Walk, has_none}
use Rattle.sc_base.specs.declared.place.Place.{Place}
use Rattle.sc_prep.specs.Pragmas.{EndsPragmas}
use Rattle.sc_prep.specs.Read.{EndsRead, last_run}
use Rattle.sc_prep.specs.Settles.{TakesEnded}
use Rattle.sc_prep.specs.declared.pragmas.Pragmas.{Pragmas}

-- items in the configurations of a condition, told of the store before it was made
pub within-told : {T : Type 0} {first old mid new : Sets} {items kept : List (Cond × T)} {by : ℕ} (test : List ℕ → Bool) → Keeps first old → Keeps old mid → Keeps mid new
    → All (λ (item : Cond × T). IsCond first item.0.0) items → ((c : List ℕ) → IsConfig first.arities c → old.has by c ≡ test c) → IsWithin old items (old.has by) mid kept → IsWithin first items test new kept
within-told {old = old} {by = by} test before keeps later own told was = within-later (Keeps-trans before keeps) later (within-as (old.has by) test before own told was)

-- the faults of what is taken out are the store's
pub taken-own : {old new : Sets} {walk next : Walk} {taken : Expanded} → TakesEnded old walk new next taken → All (λ (f : Fault). IsCond new f.cond.0) taken.faults.items
taken-own {new = new} takes =
    let F : Fault → Type 0 = λ f. IsCond new f.cond.0 in
    subst (All F) (sym takes.faults)
    (All-append F takes.e.faults.items takes.ended takes.closed.faults_own (faults-All (λ (item : Cond × Failure Place). IsCond new item.0.0) takes.ended takes.ends.part.own))

-- its tokens are the store's, and the table of texts has them
pub taken-list : {old new : Sets} {walk next : Walk} {taken : Expanded} → TakesEnded old walk new next taken → All (λ (item : Cond × Token). IsCond new item.0.0) taken.list
taken-list {new = new} takes = subst (All (λ (item : Cond × Token). IsCond new item.0.0)) (sym takes.list) takes.closed.own

pub taken-held : {old new : Sets} {walk next : Walk} {taken : Expanded} → TakesEnded old walk new next taken → (names : List (List ℕ))
    → All (λ (item : Cond × Hidden). IsHeld names item.1.token) walk.runs.gathered → All (λ (item : Cond × Token). IsHeld names item.1) taken.list
taken-held takes names held = subst (All (λ (item : Cond × Token). IsHeld names item.1)) (sym takes.list) (takes.closed.held names held)

-- what a configuration has of a condition that is older than the faults
as-before : {old last new : Sets} {a b : ℕ} (faults : List Fault) → Keeps old last → Keeps last new → IsCond old a → Denotes new b (λ c. last.has a c && has_none last faults c)
    → Denotes new b (λ c. old.has a c && has_none last faults c)
as-before {old} {last} {new} {a} {b} faults before later own is =
    denotes-as (λ c. last.has a c && has_none last faults c) (λ c. old.has a c && has_none last faults c)
    (λ c listed. ap (λ x. x && has_none last faults c) (before.at a c own (IsConfig-kept (Keeps-trans before later) listed))) is

ends-later : {old mid new : Sets} {read next : List (Cond × Option Token)} {acting live : ℕ} → Keeps old mid → Keeps mid new → EndsRead old read acting live mid next → EndsRead old read acting live new next
ends-later {next = next} before later ends = record {
  own = λ k d h. later.own _ (ends.own k d h);
  at = λ c listed here. ap (last_run []) (items_at-Keeps next c later ends.own (IsConfig-Keeps before listed)) ∙ ends.at c listed here;
  tokens = ends.tokens;
}

-- the text is taken out, then the operators are carried out, then the faults told
pub ends-runs : {names : List (List ℕ)} {old middle last new : Sets} {walk between next : Walk} {taken : Expanded} {faults : List Fault} {pragmas : Pragmas} {put : List (Cond × Token)}
    → Keeps old middle → Keeps middle last → Keeps last new → IsCond old walk.acting.0 → IsCond old walk.prepared.live.0 → TakesEnded old walk middle between taken
    → EndsPragmas names middle between.runs.pragmas taken.list walk.acting.0 between.prepared.list taken.faults.items last pragmas put faults
    → RefusesEach last (record between { runs = record between.runs { pragmas = pragmas }; prepared = record between.prepared { list = put } }) faults new next
    → EndsRuns names old walk new next
ends-runs {names} {old} {middle} {last} {new} {walk} {between} {next} {taken} {faults} {pragmas} {put} until until_last later own_acting own_live takes ends refuses =
    let runs : OpenRuns = record walk.runs { gathered = between.runs.gathered; held = between.runs.held; read = between.runs.read } in
    let left : Walk = record walk { runs = runs } in
    let refuses_left = subst (λ (w : Walk). RefusesEach last (record w { runs = record w.runs { pragmas = pragmas }; prepared = record w.prepared { list = put } }) faults new next) takes.same refuses in
    let ends_list = subst (λ list. EndsPragmas names middle between.runs.pragmas list walk.acting.0 between.prepared.list taken.faults.items last pragmas put faults) takes.list ends in
    let ends_faults = subst (λ fs. EndsPragmas names middle between.runs.pragmas takes.e.list walk.acting.0 between.prepared.list fs last pragmas put faults) takes.faults ends_list in
    let ends_left = subst (λ (w : Walk). EndsPragmas names middle w.runs.pragmas takes.e.list walk.acting.0 w.prepared.list (takes.e.faults.items ++ takes.ended) last pragmas put faults) takes.same ends_faults in
    let all = Keeps-trans until_last later in
    subst (EndsRuns names old walk new) (sym refuses_left.same) (record {
      middle = middle;
      until = until;
      e = takes.e;
      closed = takes.closed;
      ended = takes.ended;
      ends = takes.ends;
      last = last;
      faults = faults;
      pragmas = ends_left;
      until_last = until_last;
      later = later;
      same = refl;
      gathered = within-later until all takes.gathered;
      held = within-later until all takes.held;
      read = ends-later until all takes.read;
      told = refuses_left.faults;
      live = as-before faults (Keeps-trans until until_last) later own_live refuses_left.live;
      acting = as-before faults (Keeps-trans until until_last) later own_acting refuses_left.acting;
    })
