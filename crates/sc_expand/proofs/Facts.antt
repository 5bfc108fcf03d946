-- Lemmas of the library and of the crates below that the proofs of this crate rest on, passed on.
pub use Rattle.std.proofs.Math.Bool.{and-false, and-true, or-false}
pub use Rattle.std.proofs.Math.ListN.{get_or-map}
pub use Rattle.std.proofs.Math.Seq.{drop-append_seam, drop-cons, get_or-append_seam, set-append_seam, take-append-add, take-append_seam}
pub use Rattle.std.proofs.lemmas.Bool.{and_parts, and_right, cases_Bool, cases_eq, cases_lt, cond-false, cond-true, eq-eqb, eqb-true, false_from_ne_true, le-ltb, leb-false, leb-true, lt-ltb, ltb-false, ne_eqb, not-true, not_from_false, or_from, or_parts, or_right, true_from_ne_false, true≢false}
pub use Rattle.std.proofs.lemmas.Grind.{common_steps, flat_map-append}
pub use Rattle.std.proofs.lemmas.List.{append-nil, append_assoc, append_cancel_left, append_cancel_right, drop-append-le, drop-drop, drop-map, drop-set-add, drop-set-lt, drop-take, drop_all, drop_at, drop_more, get_or-append_right, get_or-drop, get_or-set_other, get_or-set_same, get_or-take, get_or_append_left, get_or_default, get_or_past, length-append, length-drop, length-map, length-set, length-take, length-take-le, map-append, map-id, map-set, nil_from_length, reverse-append, set-append_left, set-append_right, set-get_or, take-append-drop, take-append-le, take-take, take_all, take_more, take_more_set}
pub use Rattle.std.proofs.lemmas.List.Elements.{All-append, All-cons, All-drop, All-from_recursion, All-head, All-map, All-nil, All-pop, All-push, All-set, All-tail, All-take, All-weaker, recursion_from_All}
pub use Rattle.std.proofs.lemmas.Option.{IfSome_then, get_or_from_slice_get, same_Some, slice_get-get_or, slice_get-map, slice_get_within}
pub use Rattle.std.proofs.lemmas.Result.{err_from_is_err_and, on_ok_weaker}
pub use Rattle.std.proofs.lemmas.Simd.{map-map}
pub use Rattle.c11_macros.proofs.Agreement.{EachBy, RescansBy, agree-back, agree-front}
pub use Rattle.c11_macros.proofs.CallEnds.{called-ends, case-in, cons-some, misfit-ends}
pub use Rattle.c11_macros.proofs.Halting.{halts}
pub use Rattle.c11_macros.proofs.LongerLists.{last-stays}
pub use Rattle.c11_macros.proofs.OneAnswer.{one, one_footprint}
pub use Rattle.c11_macros.proofs.OneLineLists.{PlainDefinition, PlainItem, PlainToken, both, every-map}
pub use Rattle.c11_macros.proofs.OneRun.{one-run}
pub use Rattle.c11_macros.proofs.Resuming.{leaves-source}
pub use Rattle.c11_macros.proofs.RunExpands.{leaves-split, passes-expand, runs-expand, these-both, these-none}
pub use Rattle.sc_base.proofs.Growth.{Extends-refl, Extends-trans, push_cases}
pub use Rattle.sc_guarded.proofs.ItemLemmas.{faults_at-Keeps, faults_at-append, items_at-Keeps, items_at-append, items_at-take, items_at-under, map-one}
pub use Rattle.sc_hoist.proofs.BranchLemmas.{lists_at-Keeps, lists_at-append}
pub use Rattle.sc_model.proofs.ByteLemmas.{same_bytes-refl, same_bytes-true}
pub use Rattle.sc_model.proofs.ListLemmas.{slice_get-front, slice_get-seam}
pub use Rattle.sc_model.proofs.SetLemmas.{Denotes-Keeps, Denotes-self, IsConfig-Keeps, IsConfig-kept, Keeps-refl, Keeps-trans}
pub use Rattle.sc_subst.proofs.Later.{IsHeldHidden-Extends, IsHeldSet-Extends, hidden_later, hide_later, text_later}
pub use Rattle.sc_subst.proofs.Quoting.{blank}
pub use Rattle.sc_subst.proofs.SeenLaws.{held_common, held_tail, held_union, same_sets, seen_common}
pub use Rattle.sc_subst.proofs.Store.{both_ok, if_err, if_ok}
pub use Rattle.sc_subst.proofs.TokenLemmas.{spaced_first}
pub use Rattle.sc_subst.proofs.Turns.{form_later, items_later, on_fault}
pub use Rattle.sc_table.proofs.Denoting.{Denotes-as}
pub use Rattle.sc_table.proofs.Growth.{IsHeldDefinition-Extends, IsTable-Extends, IsTable-Keeps, macros_at-Extends, macros_at-Keeps, seen_definition-Extends}
