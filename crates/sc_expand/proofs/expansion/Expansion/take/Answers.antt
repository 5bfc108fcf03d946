use Rattle.std.proofs.Common.{◌≡◌, ◌∙◌, ◌≤◌, ◌++◌, ℕ, suc, true, All, List, Some, ap, arith, drop, length, sym, subst, ◌&&◌, refl, slice_get}
use Rattle.sc_expand.proofs.AlikeTaking.{each-same-call, alike-first, put-alike, same-long, takes-name, whole-same}
use Rattle.sc_expand.proofs.AlikeLemmas.{AreAlike-Keeps, IsAlike-Keeps, alike-of, in-whole, whole, whole-in, IsAlikeExpansion-Keeps, IsAlikeIn-Keeps}
use Rattle.sc_expand.proofs.Facts.{All-append, All-drop, Extends-refl, IsConfig-Keeps, IsConfig-kept, Keeps-trans, err_from_is_err_and}
use Rattle.sc_expand.proofs.WorkListLemmas.{last-earlier, last-later, has_each-Keeps, long-put, taken-put}
use Rattle.sc_expand.proofs.WaitingLemmas.{pushed-some, some-Keeps}
use Rattle.sc_expand.proofs.Rests.{some-same}
use Rattle.sc_expand.proofs.SeenLemmas.{AreHeld-Grows, IsHeldExpansion-Grows, IsTable-Grows, token-Grows, macros_at-Grows, seen_hidden-Grows}
use Rattle.sc_expand.proofs.GatherEnds.{stops-earlier}
use Rattle.sc_expand.proofs.TakingSteps.{Ends}
use Rattle.sc_expand.proofs.TakingTurns.{first-both, first-grew, first-item, first-ready, first-taken, first-token, put-ends, put-held, refused-out, step-Grows, take-first, take-turn, take-waits, put-out-keeps, put-out-left}
use Rattle.sc_expand.proofs.Terms.{CallNextAlike, Cond, DefineNextAlike, Enclosing, Extends, Grows, HasLast, Hidden, IsAlikeEnclosing, IsAlikeExpansion, IsAlikeTaken, IsCond, IsConfig, IsFirstIn, IsFunctionLike, IsHeldExpansion, IsNever, IsPushed, KeepsLeft, Others, Span, TakesName, Turn, at, is_looked_up, macros_at, others_at, provenance_of, seen_at, seen_hidden, stores, text_of}
use Rattle.sc_expand.proofs.expansion.Expansion.take.Goals as goal

pub take_under-requires : goal.take_under-requires
take_under-requires g c =
    let known = first-taken c.args.files.now c.in_ok-cond.cond c.apply_and.ensures.keeps c.requires.held c.requires.table c.requires.first c.requires.calls c.in_ok-cond.ensures.meaning in
    record {
      held = IsHeldExpansion-Grows (first-grew known) c.args.self.now c.requires.held;
      first = first-token c.args.self.now.top.work (c.args.has, c.args.token) c.requires.first;
      cond_own = c.in_ok-cond.ensures.own;
      token = token-Grows (first-grew known) c.args.token (first-item known);
      table = IsTable-Grows (first-grew known) c.requires.table;
      begun = first-ready known;
    }

pub returns-in_err-taken-clause-stops : goal.returns-in_err-taken-clause-stops
returns-in_err-taken-clause-stops g c =
    let p = err_from_is_err_and c.from_residual-in_err-taken.result c.from_residual-in_err-taken.ensures.1 in
    let s1 = g.C.Conditions.sets c.apply_and.new.self in
    let n = c.args.names.now in
    let was = c.args.self.now in
    let known = first-taken c.args.files.now c.in_ok-cond.cond c.apply_and.ensures.keeps c.requires.held c.requires.table c.requires.first c.requires.calls c.in_ok-cond.ensures.meaning in
    let Looked : List ℕ → Type 0 = λ x. (s1.has c.in_ok-cond.cond.0 x ≡ true) × (is_looked_up (seen_hidden n was.sets c.args.token) ≡ true) × IsFunctionLike (macros_at s1 n c.args.table.now x (text_of n c.args.token.token.spelling)) in
    let Named : List ℕ → Type 0 = λ x. TakesName (stores (g.C.Conditions.sets c.args.conds.now) n was.sets) (macros_at (g.C.Conditions.sets c.args.conds.now) n c.args.table.now x) was x in
    rw (p.1, p.2) (stops-earlier Looked Named was.top.work was.top.work c.args.limit _ (first-grew known) c.requires.held.top.work refl
    (λ x listed takes. (takes-name known x listed takes.0 takes.1 takes.2, has_each-Keeps was.top.work x known.keeps c.requires.held.top.work.own (IsConfig-kept known.keeps listed)))
    c.in_err-taken.ensures.stops)

pub returns : goal.returns
returns g c =
    let s0 = g.C.Conditions.sets c.args.conds.now in
    let s1 = g.C.Conditions.sets c.apply_and.new.self in
    let s2 = g.C.Conditions.sets c.take_under.new.conds in
    let n = c.args.names.now in
    let h = c.args.self.now.sets in
    let n2 = c.take_under.new.names in
    let s3 = g.C.Conditions.sets c.put_out.new.conds in
    let st = stores s2 n2 c.take_under.new.self.sets in
    let last = stores s3 n2 c.take_under.new.self.sets in
    let later : Grows st last = record { sets = c.put_out.ensures.keeps; names = Extends-refl n2; hides = Extends-refl c.take_under.new.self.sets } in
    let held_now = IsHeldExpansion-Grows later c.take_under.new.self c.in_ok-taken.ensures.takes.held in
    let table = c.args.table.now in
    let files = c.args.files.now in
    let was = c.args.self.now in
    let now = c.take_under.new.self in
    let next = c.put_out.new.self in
    let work = was.top.work in
    let taken = c.in_ok-taken.taken in
    let told = c.in_ok-taken.ensures.takes in
    let put = c.in_ok-put_out.ensures.put in
    let same_sets = c.in_ok-put_out.ensures.sets in
    let item : Cond × Hidden = (c.args.has, c.args.token) in
    let cond = c.in_ok-cond.cond in
    let held = c.requires.held in
    let first = c.apply_and.ensures.keeps in
    let second = c.take_under.ensures.keeps in
    let known = first-taken files cond first held c.requires.table c.requires.first c.requires.calls c.in_ok-cond.ensures.meaning in
    let grows : Grows (stores s1 n h) st = record { sets = second; names = c.take_under.ensures.names; hides = c.take_under.ensures.sets } in
    let before : Grows (stores s0 n h) st = record { sets = Keeps-trans first second; names = grows.names; hides = grows.hides } in
    let all : Grows (stores s0 n h) last = record { sets = Keeps-trans before.sets later.sets; names = grows.names; hides = grows.hides } in
    let long = same-long work now.top.work told.lists.tokens in
    let took : (x y : List ℕ) (others : Others) → IsConfig s0.arities x → IsConfig s0.arities y → DefineNextAlike (stores s0 n h) (macros_at s0 n table x) (macros_at s0 n table y) x was → CallNextAlike (stores s0 n h) (macros_at s0 n table x) x y was → IsFirstIn others was
    → IsAlikeExpansion s0 x y others was → IsAlikeExpansion s2 x y others now × IsAlikeTaken s2 x y taken = λ x y others p q defined called inside alike.
    let p1 = IsConfig-Keeps first p in
    let q1 = IsConfig-Keeps first q in
    let many = inside.is item c.requires.first c.requires.calls in
    let has_alike = alike-first s0 x y (others_at others (length was.below.items)).behind work item c.requires.first many alike.top.work in
    let live_alike = alike.refusals.live in
    let text = text_of n c.args.token.token.spelling in
    let span = whole others was in
    let came = told.alike x y span p1 q1 (alike-of known.meets p1 q1 (λ i. has_alike i && live_alike i))
    (λ has looked like. each-same-call work work (first-grew known) held.top.work refl (has_each-Keeps work x first held.top.work.own p) (has_each-Keeps work y first held.top.work.own q)
    (called.same (takes-name known x p1 has looked like)))
    (λ has looked.
    let both = first-both known x p1 has in
    macros_at-Grows (first-grew known) c.requires.table x text p ∙ (defined.same item c.requires.first c.requires.calls both.0 both.1 looked ∙ sym (macros_at-Grows (first-grew known) c.requires.table y text q)))
    (IsAlikeIn-Keeps first p q span was held (in-whole others was alike)) in
    let below = subst (λ l. (i : ℕ) (o : Enclosing) → slice_get l.items i ≡ Some o → IsAlikeEnclosing s2 x y (others_at others i) o) (sym told.lists.below)
    (IsAlikeExpansion-Keeps before.sets p q others was held alike).below in
    let same = whole-same others was now told.lists.below long in
    let few = ap (λ (s : Span). s.work) same in
    (whole-in others span now (omega (arith, few)) (ap (λ (s : Span). s.out) (sym same)) refl came.0 below, came.1) in
    let SomeHas : List (Cond × Hidden) → Type 0 = All (λ (item : Cond × Hidden). IsNever s3 item.0.0 → ⊥) in
    record {
      taken = record {
        held =
            let token = token-Grows all c.args.token (first-item known) in
            subst (λ hides. IsHeldExpansion (stores s3 n2 hides) (length files) next) (sym same_sets)
            (put-held last put later.sets told.held.top.work.own (length files) held_now (record { stays = later.sets.own _ told.taken.stays; made = AreHeld-Grows later taken.made.items told.taken.made }) token);
        below = put.below ∙ told.lists.below;
        turns = λ x listed.
            let at_first = ap (λ l. slice_get l 0) told.lists.tokens ∙ first-token work item c.requires.first in
            let token = token-Grows before c.args.token (first-item known) in
            let same = seen_hidden-Grows later c.args.token token in
            let ends = subst (λ s. Ends (seen_hidden n2 c.take_under.new.self.sets c.args.token) (seen_hidden n2 c.take_under.new.self.sets c.args.token) (seen_at last (drop 1 now.top.work) x) s (at last next x))
            (step-Grows later now taken told.held told.taken x (IsConfig-Keeps before.sets listed)) (put-ends last put x (IsConfig-Keeps all.sets listed) at_first) in
            subst (λ hides. Turn (provenance_of files) (macros_at s0 n table x) (at (stores s0 n h) was x) (at (stores s3 n2 hides) next x) (s0.has c.args.has.0 x)) (sym same_sets)
            (take-turn known grows told next x (seen_at last (drop 1 now.top.work) x) (at last next x) listed ends);
        left = subst (λ hides. KeepsLeft (stores s0 n h) (stores s3 n2 hides) was next) (sym same_sets) (put-out-left before later was now next taken c.args.token held told.held told.taken told.lists put
            (λ x listed apart waits. take-waits known grows told next x listed apart waits));
        keeps =
            put-out-keeps {old = stores s0 n h} {st = st} {new = last} before later was now next taken c.args.token item told.held told.lists put c.requires.calls c.requires.first
            (λ x listed apart waits. take-first known grows told next x listed apart waits);
        out = record {
          apart = λ x listed dead.
              subst (λ hides. seen_at (stores s3 n2 hides) next.top.out x ≡ seen_at (stores s0 n h) was.top.out x) (sym same_sets)
              (refused-out known grows told next later told.held put x listed dead);
          some = λ some. pushed-some put.out (subst SomeHas (sym told.lists.out) (some-Keeps all.sets was.top.out held.top.out.own some));
        };
        pushes = λ first is. (
          taken.stays,
          subst (λ (z : (Cond × Hidden) × List (Cond × Hidden)). IsPushed s3 taken.stays z.0.1 z.1 next.top.out) (λ i. (some-same (sym c.requires.first ∙ is) i, told.lists.out i)) put.out,
        );
        long = subst (λ l. length work ≤ suc (length l)) (sym put.work) (long-put work now.top.work taken.made.items long);
        rest = λ x listed.
            let own = All-append (λ (item : Cond × Hidden). IsCond s2 item.0.0) taken.made.items (drop 1 now.top.work) told.taken.made.own (All-drop (λ (item : Cond × Hidden). IsCond s2 item.0.0) 1 now.top.work told.held.top.work.own) in
            subst (λ l. HasLast s0 s3 work l x) (sym put.work)
            (last-later (last-earlier (has_each-Keeps work x first held.top.work.own listed) (taken-put (told.rest x (IsConfig-Keeps first listed)) long)) (has_each-Keeps (taken.made.items ++ drop 1 now.top.work) x later.sets own (IsConfig-Keeps before.sets listed)));
        alike = λ x y others p q defined called inside alike.
            let came = took x y others p q defined called inside alike in
            put-alike s2 s3 x y others now next taken c.args.token put
            (record { stays = IsAlike-Keeps later.sets (IsConfig-Keeps before.sets p) (IsConfig-Keeps before.sets q) told.taken.stays came.1.stays; made = AreAlike-Keeps later.sets (IsConfig-Keeps before.sets p) (IsConfig-Keeps before.sets q) taken.made.items told.taken.made.own came.1.made })
            (IsAlikeExpansion-Keeps {old = st} later.sets (IsConfig-Keeps before.sets p) (IsConfig-Keeps before.sets q) others now told.held came.0);
      };
      stops = tt;
      keeps = all.sets;
      names = all.names;
      sets = subst (Extends h) (sym same_sets) all.hides;
    }

pub returns-in_err-put_out-clause-keeps : goal.returns-in_err-put_out-clause-keeps
returns-in_err-put_out-clause-keeps g c = Keeps-trans (Keeps-trans c.apply_and.ensures.keeps c.take_under.ensures.keeps) c.put_out.ensures.keeps
