use Rattle.std.proofs.Common.{refl, ◌≡◌, ◌∙◌, sym, ap, subst, length, take, arith}
use Rattle.sc_prep.proofs.ApartLemmas.{gathers-line, gathers-same}
use Rattle.sc_prep.proofs.Facts.{take-length}
use Rattle.sc_prep.proofs.Held.{read-held}
use Rattle.sc_prep.proofs.SharesKept.{shares-refl}
use Rattle.sc_prep.proofs.SharesText.{put-shares, text-shares}
use Rattle.sc_prep.proofs.CalmShares.{never-text}
use Rattle.sc_prep.proofs.Terms.{GathersFrom, IsHeldWalk, SimulatesStep, Walk, acting, seen_line, with_text}
use Rattle.sc_prep.specs.Thin.{KeepsShares, TextShares}
use Rattle.sc_prep.proofs.Texts.{read-more}
use Rattle.sc_prep.proofs.WalkMoves.{puts, puts-none, read-walk}
use Rattle.sc_prep.proofs.walk.Walk.put.Goals as goal

pub returns-clause-moved : goal.returns-clause-moved
returns-clause-moved g c = λ standard names.
    let s = g.C.Conditions.sets c.args.conds.now in
    let w = c.args.self.now in
    let line = c.args.line.now in
    let whole : c.loop-token.token-index ≡ length line = omega arith in
    let is = c.loop-token.invariant ∙ ap (read-walk w c.empty-hide.result) (ap (λ n. take n line) whole ∙ take-length line) in
    subst (λ next. SimulatesStep names s w s next (λ files config m. acting m (λ state. with_text state (seen_line standard names files line)))) (sym is)
    (puts standard names s w c.requires c.empty-hide.result c.empty-hide.ensures.none line)

pub returns-clause-printable : goal.returns-clause-printable
returns-clause-printable g c = λ names files test all old.
    let w = c.args.self.now in
    let line = c.args.line.now in
    let whole : c.loop-token.token-index ≡ length line = omega arith in
    let is = c.loop-token.invariant ∙ ap (read-walk w c.empty-hide.result) (ap (λ n. take n line) whole ∙ take-length line) in
    subst (λ (next : Walk). IsHeldWalk names files test next) (sym is) (read-held names files test w c.empty-hide.result c.empty-hide.ensures.own c.empty-hide.ensures.none line all old)

pub returns-then-is_never-clause-moved : goal.returns-then-is_never-clause-moved
returns-then-is_never-clause-moved g c = λ standard names.
    puts-none standard names (g.C.Conditions.sets c.args.conds.now) c.args.self.now c.requires (c.is_never.ensures.0 c.if-is_never.true) c.args.line.now

pub returns-then-is_never-clause-gathers : goal.returns-then-is_never-clause-gathers
returns-then-is_never-clause-gathers g c = gathers-same c.args.line.now c.args.self.now c.args.self.now refl

pub returns-clause-gathers : goal.returns-clause-gathers
returns-clause-gathers g c =
    let w = c.args.self.now in
    let line = c.args.line.now in
    let whole : c.loop-token.token-index ≡ length line = omega arith in
    let is = c.loop-token.invariant ∙ ap (read-walk w c.empty-hide.result) (ap (λ n. take n line) whole ∙ take-length line) in
    subst (GathersFrom line w) (sym is) (gathers-line line w (read-walk w c.empty-hide.result line) (read-more w.runs.read w.acting line))

pub returns-clause-shares : goal.returns-clause-shares
returns-clause-shares g c = λ names files.
    let s = g.C.Conditions.sets c.args.conds.now in
    let w = c.args.self.now in
    let line = c.args.line.now in
    let whole : c.loop-token.token-index ≡ length line = omega arith in
    let is = c.loop-token.invariant ∙ ap (read-walk w c.empty-hide.result) (ap (λ n. take n line) whole ∙ take-length line) in
    subst (λ (next : Walk). KeepsShares files names s w files names s next) (sym is) (put-shares s names files w c.empty-hide.result line)

pub returns-clause-text : goal.returns-clause-text
returns-clause-text g c = λ standard names files apart.
    let s = g.C.Conditions.sets c.args.conds.now in
    let w = c.args.self.now in
    let line = c.args.line.now in
    let whole : c.loop-token.token-index ≡ length line = omega arith in
    let is = c.loop-token.invariant ∙ ap (read-walk w c.empty-hide.result) (ap (λ n. take n line) whole ∙ take-length line) in
    subst (λ (next : Walk). TextShares files names s w (seen_line standard names files line) names s next) (sym is) (text-shares standard s names files w c.empty-hide.result c.empty-hide.ensures.none line apart)

pub returns-then-is_never-clause-shares : goal.returns-then-is_never-clause-shares
returns-then-is_never-clause-shares g c = λ names files. shares-refl

pub returns-then-is_never-clause-text : goal.returns-then-is_never-clause-text
returns-then-is_never-clause-text g c = λ standard names files apart.
    never-text files names (g.C.Conditions.sets c.args.conds.now) c.args.self.now c.args.self.now (seen_line standard names files c.args.line.now) (c.is_never.ensures.0 c.if-is_never.true)
