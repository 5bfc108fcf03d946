use Rattle.std.proofs.Common.{◌≡◌, ◌∙◌, ◌+◌, ◌<◌, ◌≤◌, All, ap, arith, get_or, length, subst, sym}
use Rattle.sc_expand.proofs.BeginningLemmas.{consecutive_shared, consecutive_within, tokens_under}
use Rattle.sc_expand.proofs.Facts.{length-map, if_ok}
use Rattle.sc_expand.proofs.GatherPlaces.{held-tokens}
use Rattle.sc_expand.proofs.Terms.{Cond, Hidden}
use Rattle.sc_expand.proofs.beginning.between.Goals as goal

pub overflow_add-first : goal.overflow_add-first
overflow_add-first c =
    let run = c.are_consecutive.ensures c.if-are_consecutive.true in
    omega (arith, consecutive_within (length c.args.list.now) (get_or c.args.places.now 0 0) c.args.places.now (omega arith) run c.requires.places)

pub share-requires-clause-to : goal.share-requires-clause-to
share-requires-clause-to c =
    let list = c.args.list.now in
    let run = c.are_consecutive.ensures c.if-are_consecutive.true in
    let long : length c.in-Some.tokens.now ≡ length list = ap length (tokens_under c.args.cond c.in-Some.tokens.now list c.in-Some.ensures) ∙ length-map list (λ (x : Cond × Hidden). x.1) in
    omega (arith, consecutive_within (length list) (get_or c.args.places.now 0 0) c.args.places.now (omega arith) run c.requires.places)

pub returns-in-Some : goal.returns-in-Some
returns-in-Some c =
    let list = c.args.list.now in
    let places = c.args.places.now in
    let first = get_or places 0 0 in
    let run = c.are_consecutive.ensures c.if-are_consecutive.true in
    let within : first + length places ≤ length list = consecutive_within (length list) first places (omega arith) run c.requires.places in
    if_ok _ _ c.share.result (λ made is other. is ∙ consecutive_shared c.args.cond c.in-Some.tokens.now list other first places c.in-Some.ensures run within) c.share.ensures

pub of-requires : goal.of-requires
of-requires c = λ k d h.
    let spelled : Hidden → Type 0 = λ t. t.token.spelling.0 < length c.args.names.now in
    let any : Cond × Hidden = (c.args.cond, d) in
    subst (All spelled) (sym (c.in_ok-tokens.ensures any)) (held-tokens spelled c.args.list.now any c.args.places.now c.requires.names c.requires.places) k d h
