use Rattle.std.proofs.Common.{◌∙◌, ◌++◌, ◌∷◌, ◌<◌, ◌&&◌, [], All, append-nil, drop, map, not, refl, sym, ap, subst, if◌then◌else◌}
use Rattle.sc_expand.proofs.AlikeLemmas.{AreAlikeFaults-Keeps, IsAlike-Keeps, All-drop-push, alike-of}
use Rattle.sc_expand.proofs.Facts.{All-drop, All-push, Denotes-self, IsConfig-Keeps, faults_at-Keeps, faults_at-append, map-append, map-one}
use Rattle.sc_expand.proofs.TakingLemmas.{stays-there}
use Rattle.sc_expand.proofs.Terms.{Fault, IsAlike, IsCond, Keeps, failures_at, faults_at, seen_failure}
use Rattle.sc_expand.proofs.refusals.Refusals.refuse.Goals as goal

pub returns-then-is_never-clause-refuses : goal.returns-then-is_never-clause-refuses
returns-then-is_never-clause-refuses g c =
    let s = g.C.Conditions.sets c.args.conds.now in
    let never = c.is_never.ensures.0 c.if-is_never.true in
    let faults = c.args.self.now.faults.items in
    record {
      live = record { own = c.requires.live; at = λ x listed. sym (stays-there (s.has c.args.self.now.live.0 x) (s.has c.args.cond.0 x) (never.none x listed)) };
      waiting = refl;
      failures = λ x listed own. sym (ap (λ b. failures_at s faults x ++ (if b then record { cause = c.args.cause; place = c.args.place } ∷ [] else [])) (never.none x listed) ∙ append-nil (failures_at s faults x));
      held = λ files within was. was;
      alike = λ x y others p q own waiting_own same alike. alike;
    }

pub returns-clause-refuses : goal.returns-clause-refuses
returns-clause-refuses g c =
    let old = g.C.Conditions.sets c.args.conds.now in
    let new = g.C.Conditions.sets c.apply_without.new.self in
    let faults = c.args.self.now.faults.items in
    let fault : Fault = record { cond = c.args.cond; cause = c.args.cause; place = c.args.place } in
    let keeps : Keeps old new = c.apply_without.ensures.keeps in
    let live = c.in_ok-live.ensures.meaning _ _ (Denotes-self old c.args.self.now.live.0 c.requires.live) (Denotes-self old c.args.cond.0 c.requires.own) in
    record {
      live = live;
      waiting = refl;
      failures = λ x listed own.
          ap (λ l. failures_at new l x) c.in_ok-push.ensures.items
          ∙ (ap (map seen_failure) (faults_at-append new faults (fault ∷ []) x)
          ∙ (map-append seen_failure (faults_at new faults x) (faults_at new (fault ∷ []) x)
          ∙ (ap (λ l. map seen_failure l ++ map seen_failure (faults_at new (fault ∷ []) x)) (faults_at-Keeps faults x keeps own listed)
          ∙ (ap (λ b. failures_at old faults x ++ map seen_failure (if b then fault ∷ [] else [])) (keeps.at c.args.cond.0 x c.requires.own listed)
          ∙ ap (λ l. failures_at old faults x ++ l) (map-one seen_failure (old.has c.args.cond.0 x) fault)))));
      held = λ files within was.
          let Own : Fault → Type 0 = λ f. IsCond new f.cond.0 in
          let Placed : Fault → Type 0 = λ f. f.place.file.0 < files in
          record {
            live = c.in_ok-live.ensures.own;
            waiting = keeps.own _ was.waiting;
            own = subst (All Own) (sym c.in_ok-push.ensures.items) (All-push Own faults fault (λ k d h. keeps.own _ (was.own k d h)) (keeps.own _ c.requires.own));
            placed = subst (All Placed) (sym c.in_ok-push.ensures.items) (All-push Placed faults fault was.placed within);
          };
      alike = λ x y others p q own waiting_own same alike.
          let P : Fault → Type 0 = λ f. IsAlike new x y f.cond in
          let kept = AreAlikeFaults-Keeps keeps p q (drop others faults) (All-drop (λ (f : Fault). IsCond old f.cond.0) others faults own) alike.faults in
          record {
            live = alike-of live (IsConfig-Keeps keeps p) (IsConfig-Keeps keeps q) (λ i. alike.live i && not (same i));
            waiting = IsAlike-Keeps keeps p q waiting_own alike.waiting;
            faults = subst (λ l. All P (drop others l)) (sym c.in_ok-push.ensures.items) (All-drop-push P others faults fault kept (IsAlike-Keeps keeps p q c.requires.own same));
          };
    }
