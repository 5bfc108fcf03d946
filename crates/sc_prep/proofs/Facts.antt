-- Lemmas of the library and of the crates below that the proofs of this crate rest on, passed on.
pub use Rattle.std.proofs.Math.Bool.{and-false, and-true, or-false, or_comm, or_self_left}
pub use Rattle.std.proofs.Math.Seq.{drop-cons, take-add, take-length, take-nil}
pub use Rattle.std.proofs.lemmas.Bool.{and_from, and_parts, and_right, both_ways, cases_Bool, cases_lt, cases_order, eqb-true, le-leb, lt-leb, ne_eqb, not-true, not_from_false, or_from, or_parts, or_right, true≢false}
pub use Rattle.std.proofs.lemmas.List.{append-nil, append_cancel_right, drop-map, drop_all, drop_more, get_or-append-add, get_or-map, get_or_append_left, get_or_default, get_or_past, length-append, length-map, length-replicate, map-append, reverse-append, take-append-drop, take_all, take_more}
pub use Rattle.std.proofs.lemmas.List.Elements.{All-append, All-cons, All-drop, All-from_recursion, All-get_or, All-head, All-map, All-nil, All-pop, All-push, All-set, All-tail, All-take, All-weaker, recursion_from_All}
pub use Rattle.std.proofs.lemmas.List.Folds.{list_any-append}
pub use Rattle.std.proofs.lemmas.List.Kept.{AllPairs-cons, AllPairs-filter}
pub use Rattle.std.proofs.lemmas.List.Quantifiers.{position-Some}
pub use Rattle.std.proofs.lemmas.Option.{IfSome_then, get_or_from_slice_get, none-some, same_Some, slice_get-get_or, slice_get_within, unwrap_or-slice_get}
pub use Rattle.std.proofs.lemmas.Result.{IfErr-weaker, IfOk-weaker, err_from_is_err_and, on_ok_weaker}
pub use Rattle.std.proofs.lemmas.Simd.{map-map}
pub use Rattle.c11_macros.proofs.OneLineLists.{PlainToken, both, every-map, reads-one_line}
pub use Rattle.c11_macros.proofs.SameLaws.{same_definition-false, same_definition-true}
pub use Rattle.c11_tokens.proofs.PlainLaws.{lexed-plain}
pub use Rattle.sc_base.proofs.Growth.{Extends-keeps, Extends-refl, Extends-trans, Extends-within}
pub use Rattle.sc_expand.proofs.AlikeLemmas.{All-at, none-told}
pub use Rattle.sc_expand.proofs.Ending.{All-later, bared, begun-next, items-bared, more-next, take-next}
pub use Rattle.sc_expand.proofs.FootprintLemmas.{expand-stops, one-use, pairs-both}
pub use Rattle.sc_expand.proofs.TextLines.{PlainOption, PlainVariable, initial-one_line, text-stays_on_one_line, update-one_line}
pub use Rattle.sc_guarded.proofs.ItemLemmas.{faults_at-Keeps, faults_at-append, items_at-Keeps, items_at-append, items_at-under, map-one, under}
pub use Rattle.sc_if.proofs.AnswerLemmas.{comes-expanded, tokens_at-All, tokens_at-places, tokens_at-push}
pub use Rattle.sc_lines.proofs.SeenLines.{conditionals-seen, directive-files, directive-own, line-seen, lines-seen}
pub use Rattle.sc_model.proofs.ByteLemmas.{same_bytes-refl, same_bytes-true}
pub use Rattle.sc_model.proofs.SetLemmas.{Denotes-Keeps, Denotes-self, IsConfig-Keeps, IsConfig-kept, Keeps-refl, Keeps-trans}
pub use Rattle.sc_table.proofs.Growth.{IsTable-Extends, IsTable-Keeps, macros_at-Extends, macros_at-Keeps}
