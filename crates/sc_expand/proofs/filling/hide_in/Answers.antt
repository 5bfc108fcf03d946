use Rattle.std.proofs.Common.{◌≡◌, ◌<◌, ◌∙◌, [], All, map, length, refl, sym, ap, subst}
use Rattle.std.proofs.lemmas.List.{length-map, get_or-map}
use Rattle.sc_expand.proofs.Facts.{All-map, Extends-refl, map-map}
use Rattle.sc_expand.proofs.Terms.{Cond, Hidden, HiddenToken, IsHeldHidden, Place, hidden_by, hide_at, hiding, provenance_of, seen_hidden}
use Rattle.sc_expand.proofs.filling.hide_in.Goals as goal

pub hide_all-requires-clause-tokens : goal.hide_all-requires-clause-tokens
hide_all-requires-clause-tokens c =
    let P : Hidden → Type 0 = IsHeldHidden c.args.names.now c.args.sets.now in
    subst (All P) (sym (c.deref.ensures.value ∙ c.in_ok-tokens.ensures)) (All-map P (λ (item : Cond × Hidden). item.1) c.args.list.now c.requires.held)

pub paired-requires : goal.paired-requires
paired-requires c =
    let names = c.args.names.now in
    let sets = c.hide_all.new.sets in
    let see : Hidden → HiddenToken Place = seen_hidden names sets in
    let hides : HiddenToken Place → HiddenToken Place = hidden_by (provenance_of []) (hide_at names sets c.args.hide.0) in
    let is = c.in_ok-hidden.ensures.is.at names sets (Extends-refl names) (Extends-refl sets) (provenance_of []) (λ p. refl) in
    ap length c.deref-2.ensures.value ∙ (sym (length-map c.in_ok-hidden.hidden.items see)
    ∙ (ap length is
    ∙ (length-map (map see c.deref.result.now) hides
    ∙ (length-map c.deref.result.now see ∙ (ap length (c.deref.ensures.value ∙ c.in_ok-tokens.ensures) ∙ length-map c.args.list.now (λ (item : Cond × Hidden). item.1))))))

pub returns-clause-is : goal.returns-clause-is
returns-clause-is c =
    let names = c.args.names.now in
    let sets = c.hide_all.new.sets in
    let see : Hidden → HiddenToken Place = seen_hidden names sets in
    let only : Cond × Hidden → Hidden = λ item. item.1 in
    let is = c.in_ok-hidden.ensures.is.at names sets (Extends-refl names) (Extends-refl sets) (provenance_of []) (λ p. refl) in
    sym (map-map see only c.in_ok-made.made.items)
    ∙ (ap (map see) (c.in_ok-made.ensures.tokens ∙ c.deref-2.ensures.value)
    ∙ (is ∙ ap (hiding (provenance_of []) (hide_at names sets c.args.hide.0)) (ap (map see) (c.deref.ensures.value ∙ c.in_ok-tokens.ensures) ∙ map-map see only c.args.list.now)))

pub returns-clause-own : goal.returns-clause-own
returns-clause-own c = λ k d h.
    let made = c.in_ok-made.made.items in
    let only : Cond × Hidden → Hidden = λ item. item.1 in
    let P : Hidden → Type 0 = IsHeldHidden c.args.names.now c.hide_all.new.sets in
    let long : length (map only made) ≡ length made = length-map made only in
    let within : k < length (map only made) = subst (λ n. k < n) (sym long) h in
    let all : All P (map only made) = subst (All P) (sym (c.in_ok-made.ensures.tokens ∙ c.deref-2.ensures.value)) c.in_ok-hidden.ensures.own in
    subst P (get_or-map only made k d d.1 h) (all k d.1 within)
