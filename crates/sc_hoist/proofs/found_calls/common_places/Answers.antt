use Rattle.std.proofs.Common.{◌≡◌, ◌+◌, ◌<◌, ◌∙◌, ◌++◌, [], ◌∷◌, length, ap, subst, sym, arith, false}
use Rattle.std.proofs.lemmas.Bool.{true≢false}
use Rattle.std.proofs.lemmas.Option.{slice_get_within, get_or_from_slice_get}
use Rattle.sc_base.specs.declared.id.Cond.{Cond}
use Rattle.sc_base.specs.declared.token.Token.{Token}
use Rattle.sc_hoist.proofs.CommonLemmas.{Reads, Reads-closed, Reads-more, both-some, depth-step, same-cond}
use Rattle.sc_hoist.specs.Reading.{depth_of, is_final, step}
use Rattle.sc_hoist.specs.declared.state.State.{State}
use Rattle.sc_hoist.specs.declared.state.State.TheVariants.{Bare, Closed}
use Rattle.sc_hoist.proofs.found_calls.common_places.Goals as goal

pub role_of-requires : goal.role_of-requires
role_of-requires g c =
    let tokens = g.L.TokenList.tokens c.args.list.now in
    let item : Cond × Token = (c.item-item.result.0, c.item-item.result.1) in
    let i = c.loop-index.index in
    subst (λ (it : Cond × Token). it.1.spelling.0 < length c.args.names.now) (get_or_from_slice_get tokens i item item c.item-item.ensures) (c.requires.held i item (slice_get_within tokens i item c.item-item.ensures))

pub returns-then-is_final : goal.returns-then-is_final
returns-then-is_final g c =
    let item : Cond × Token = (c.item-item.result.0, c.item-item.result.1) in
    let was = c.loop-index.invariant in
    let st = c.loop-index.state in
    let tokens = g.L.TokenList.tokens c.args.list.now in
    let same : c.item-item.result.0 ≡ c.args.cond = same-cond c.item-item.result.0 c.args.cond (sym c.ne.ensures ∙ c.if-ne.false) in
    both-some c.where_closed.result
    (λ r is closed s x has.
    let ended : step c.role_of.result st ≡ Closed = sym c.after-state.ensures ∙ closed in
    let here = Reads-more s c.args.names.now tokens c.args.at c.loop-index.index item c.role_of.result st c.loop-index.places.items x c.item-item.ensures c.role_of.ensures (ap (λ (k : Cond). s.has k.0 x) same ∙ has)
    was.goes (λ bare. let clash : Closed ≡ Bare = sym ended ∙ bare in absurd (cc)) (was.reads s x has) in
    let all = subst (λ (k : State). Reads s c.args.names.now tokens c.args.at (c.loop-index.index + 1) k (c.loop-index.places.items ++ c.loop-index.index ∷ []) x) ended here in
    Reads-closed s c.args.names.now tokens c.args.at (c.loop-index.index + 1) r.items x
    (subst (λ ps. Reads s c.args.names.now tokens c.args.at (c.loop-index.index + 1) Closed ps x) (sym (ap (λ v. v.items) is ∙ c.in_ok-push-2.ensures.items)) all))
    c.where_closed.ensures.is c.where_closed.ensures.closed

pub loop-index-preserved : goal.loop-index-preserved
loop-index-preserved g c =
    let item : Cond × Token = (c.item-item.result.0, c.item-item.result.1) in
    let was = c.loop-index.invariant in
    let st = c.loop-index.state in
    let after : c.after-state.result ≡ step c.role_of.result st = c.after-state.ensures in
    let goes : is_final c.after-state.result ≡ false = sym c.is_final.ensures ∙ c.if-is_final.false in
    let same : c.item-item.result.0 ≡ c.args.cond = same-cond c.item-item.result.0 c.args.cond (sym c.ne.ensures ∙ c.if-ne.false) in
    let tokens = g.L.TokenList.tokens c.args.list.now in
    record {
      deep = omega (arith, depth-step c.role_of.result st, ap depth_of after, was.deep);
      goes = goes;
      reads = λ s x has.
          let here = Reads-more s c.args.names.now tokens c.args.at c.loop-index.index item c.role_of.result st c.loop-index.places.items x c.item-item.ensures c.role_of.ensures (ap (λ (k : Cond). s.has k.0 x) same ∙ has)
          was.goes (λ bare. true≢false (ap is_final (sym bare ∙ sym after) ∙ goes)) (was.reads s x has) in
          subst (λ ps. Reads s c.args.names.now tokens c.args.at (c.loop-index.index + 1) c.after-state.result ps x) (sym c.in_ok-push-2.ensures.items)
          (subst (λ (k : State). Reads s c.args.names.now tokens c.args.at (c.loop-index.index + 1) k (c.loop-index.places.items ++ c.loop-index.index ∷ []) x) (sym after) here);
    }
