use Rattle.std.proofs.Common.{map}
use Rattle.sc_expand.proofs.BeginningLemmas.{begins, files_of, held_call, in_none, in_some, tokens_later}
use Rattle.sc_expand.proofs.Facts.{All-weaker, Extends-refl, IsHeldHidden-Extends}
use Rattle.sc_expand.proofs.Terms.{Call, IsHeldHidden, seen_form, seen_item, stores}
use Rattle.sc_expand.proofs.beginning.begin_call.Goals as goal

pub template_of-requires-clause-raw : goal.template_of-requires-clause-raw
template_of-requires-clause-raw c = λ k d h.
    All-weaker (IsHeldHidden c.args.names.now c.args.sets.now) (IsHeldHidden c.args.names.now c.hide_of_call.new.sets)
    (λ x held. IsHeldHidden-Extends x held (Extends-refl c.args.names.now) c.hide_of_call.ensures.sets) _ (c.requires.raw k d h)

pub returns-in-None-clause-none : goal.returns-in-None-clause-none
returns-in-None-clause-none c = (in_none c.in_ok-made.made c.in-None.is c.in_ok-made.ensures.none).at _ _ (Extends-refl _) (Extends-refl _)

pub returns-in_ok-expanded-in-Some-clause-some : goal.returns-in_ok-expanded-in-Some-clause-some
returns-in_ok-expanded-in-Some-clause-some c =
    let names = c.template_of.new.names in
    let call : Call = record { cond = c.args.cond; head = c.args.head; hide = c.in_ok-hide.hide; template = c.in-Some.template; wanted = c.in_ok-wanted-in-Some.wanted; expanded = c.in_ok-expanded-in-Some.expanded } in
    begins c.args.names.now names c.args.sets.now c.hide_of_call.new.sets c.template_of.new.sets c.template_of.ensures.names c.hide_of_call.ensures.sets c.template_of.ensures.sets
    (seen_form names c.args.form.now) (map (seen_item names) c.args.items.now) c.args.close c.args.raw.now call c.requires.head c.requires.close c.in_ok-hide.ensures.held c.in_ok-hide.ensures.is
    ((in_some _ c.in_ok-made.made c.in-Some.template c.in-Some.is c.in_ok-made.ensures.some).at _ _ (Extends-refl _) (Extends-refl _)) c.in_ok-wanted-in-Some.ensures.is
    c.in_ok-expanded-in-Some.ensures.len c.in_ok-expanded-in-Some.ensures.empty

pub returns-in_ok-expanded-in-Some-clause-held : goal.returns-in_ok-expanded-in-Some-clause-held
returns-in_ok-expanded-in-Some-clause-held c = λ s files own head raw.
    let call : Call = record { cond = c.args.cond; head = c.args.head; hide = c.in_ok-hide.hide; template = c.in-Some.template; wanted = c.in_ok-wanted-in-Some.wanted; expanded = c.in_ok-expanded-in-Some.expanded } in
    held_call c.args.names.now c.template_of.new.names c.args.sets.now c.hide_of_call.new.sets c.template_of.new.sets c.template_of.ensures.names c.hide_of_call.ensures.sets c.template_of.ensures.sets
    s files call own head c.in_ok-hide.ensures.held
    (in_some _ c.in_ok-made.made c.in-Some.template c.in-Some.is c.in_ok-made.ensures.held s files head.file (files_of (stores s c.args.names.now c.args.sets.now) files c.args.raw.now raw))
    (c.in_ok-wanted-in-Some.ensures.own (stores s c.template_of.new.names c.template_of.new.sets) files
    (tokens_later c.args.names.now c.template_of.new.names c.args.sets.now c.hide_of_call.new.sets c.template_of.new.sets c.template_of.ensures.names c.hide_of_call.ensures.sets c.template_of.ensures.sets s files c.args.raw.now raw))
    c.in_ok-expanded-in-Some.ensures.empty
