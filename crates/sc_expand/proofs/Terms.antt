-- The types and definitions of this crate and of those below that its proofs speak of, passed on.
pub use Rattle.std.specs.Global.{Vec}
pub use Rattle.std.specs.List.{AllByRecursion, list_any, slice_get}
pub use Rattle.std.specs.Option.{IfSome, option_and_then, option_map, option_or}
pub use Rattle.std.specs.declared.rc.Rc.{Rc}
pub use Rattle.c11_macros.specs.Call.{Role, arguments_for, call_of, closing, comma, counts_for, filled_up, given, is_nothing, onto_argument, opening, other, role_of}
pub use Rattle.c11_macros.specs.Defines.{is_function_like}
pub use Rattle.c11_macros.specs.Expansion.{Case, Each, Expands, IsWithin, Rescans, asked, call_case, call_result, called, case_of, defined_case, fitted_case, form_case, is_looked_up, list_of, looked_up_case, misfit, next, none, object_result, on, refused, replaced, stays, stops, unclosed, with_first}
pub use Rattle.c11_macros.specs.Footprint.{Arrives, Footprint, footprint, footprint_from, with_names}
pub use Rattle.c11_macros.specs.Hidden.{Failure, Hidden as HiddenToken, HideSet, Provenance, failure_at, meet, no_names, with_name}
pub use Rattle.c11_macros.specs.Macros.{Definition, Form, IsOneLineList, Macros, Replacement, Rest, definition_named, definition_of, escaped, file_name, function_like, initial_macros, items, line_number, list_at, number_item, object_like, predefined_macros, string_item, variable_definition}
pub use Rattle.c11_macros.specs.Results.{result_and_then, result_map}
pub use Rattle.c11_macros.specs.Runs.{End, Leaves, Passes, Runs, Settles, Uses, after_these, begins, beyond, call, fails, goes_on, is_function_named, is_last_name, no_uses, object, over, stay, then_uses, used_up, using, waits, within}
pub use Rattle.c11_macros.specs.Substitution.{Slot, argument, filled_by, hidden_by, hiding, is_quoted_kind, kept, list_slots, parts_of, put_together, quoted_spelling, spellings, spellings_after, substituted, wanted_of, with_space}
pub use Rattle.c11_macros.specs.Text.{TextExpands, fault_of, place_alone, text_of_answer, token_of, unhidden}
pub use Rattle.c11_macros.specs.Trace.{Agree, Same, Trace, Use, looked_up_at, no_trace, trace, trace_each, trace_rescan}
pub use Rattle.c11_tokens.specs.Lex.{is_identifier_kind}
pub use Rattle.c11_tokens.specs.Relex.{relexed}
pub use Rattle.sc_base.specs.Seen.{IsHeld, seen, seen_place, text_at}
pub use Rattle.sc_base.specs.declared.fault.Fault.{Fault}
pub use Rattle.sc_base.specs.declared.id.Cond.{Cond}
pub use Rattle.sc_base.specs.declared.id.Name.{Name}
pub use Rattle.sc_base.specs.declared.place.Place.{Place}
pub use Rattle.sc_base.specs.declared.stop.Stop.{Stop}
pub use Rattle.sc_base.specs.declared.stop.Stop.TheVariants.{BranchesFull, OutOfMemory, ReadFault}
pub use Rattle.sc_base.specs.declared.token.Token.{Token}
pub use Rattle.sc_expand.specs.Alike.{AreAlikeRefusals, CallNextAlike, DefineAlike, DefineNextAlike, DefineTextAlike, IsAlikeCall, IsAlikeEnclosing, IsAlikeExpansion, IsAlikeFrame, IsAlikeIn, IsAlikeTaken, IsFirstIn, IsFunctionLike, IsSameCall, Others, Span, TakesName, no_others, others_at}
pub use Rattle.sc_expand.specs.Answers.{IsEmpty, IsExpanded, IsHeldAnswer}
pub use Rattle.sc_expand.specs.Arguments.{IsParting, begun_with, depth_behind, parted, parting_step}
pub use Rattle.sc_expand.specs.Beginning.{Begins, IsRefused, IsTemplateOf, token_at, tokens_of, with_argument}
pub use Rattle.sc_expand.specs.CallStops.{HasCalls, StopsAt}
pub use Rattle.sc_expand.specs.Called.{AreGathered, EndsBefore, HasBegun, HasLeft, IsBranch, IsCall, IsCalled, IsGathered, IsMacro}
pub use Rattle.sc_expand.specs.Closing.{IsClosed, is_several, unclosed_at}
pub use Rattle.sc_expand.specs.Filling.{Adds, AllHeld, expanded_argument, first_spaced_if, part_at, parts_at, spaced}
pub use Rattle.sc_expand.specs.FirstCalls.{IsKnownCall, indexes_from}
pub use Rattle.sc_expand.specs.FootprintSteps.{IsPending, lower_of}
pub use Rattle.sc_expand.specs.Footprints.{HasFootprints, IsSameUse, ReplacesAt, StopsAtName, UsesAt, taken_behind}
pub use Rattle.sc_expand.specs.Gather.{Gathers}
pub use Rattle.sc_expand.specs.Having.{HasLast, HasMore, behind_at, has_each, tokens_in}
pub use Rattle.sc_expand.specs.Machine.{HasEntered, IsAbsent, IsExpansion, IsHeldExpansion, IsResumed, KeepsLists, Progress, Stands, at, at_call, ends, ends_at, gone, here, inside, is_whole, no_view, on_top, rests, state_in, steps, with_call}
pub use Rattle.sc_expand.specs.Moved.{IsKept, moved, moved_answer, moved_failure}
pub use Rattle.sc_expand.specs.OneLine.{AreOneLine, IsInPlace, IsOneLine}
pub use Rattle.sc_expand.specs.Open.{Waits}
pub use Rattle.sc_expand.specs.Parting.{parted_with}
pub use Rattle.sc_expand.specs.Plain.{Fails, IsTemplate, Leads, Moves, State, Waiting, expanding, gathered, no_step, replacement_of, scanning, step, waiting, with_expanded, without_first}
pub use Rattle.sc_expand.specs.Refusing.{BeginsToWait, LeavesOpen, Refuses, is_left, left_end}
pub use Rattle.sc_expand.specs.Running.{GoesOn, HasEnded, IsApart, IsDone, IsDropped, IsReady, IsRested, IsTurned, IsUncalled, IsUntouched, KeepsGone, KeepsLeft, KeepsNext, Pushes, PutsOut, bottom, bottom_by, frame_weight, last_of, left_at, next_by, next_of, put_by, put_out, weight}
pub use Rattle.sc_expand.specs.Seen.{AreHeld, Grows, IsHeldCall, IsHeldEnclosing, IsHeldFrame, IsHeldPartIn, IsHeldRefusals, IsHeldTemplate, IsHeldToken, Stores, View, calls_at, failures_at, provenance_of, seen_at, seen_failure, seen_template, seen_wanted, state_by, state_of, stores, view_at, waiting_at}
pub use Rattle.sc_expand.specs.Settling.{IsHeldSettled, IsSettled}
pub use Rattle.sc_expand.specs.Spans.{Becomes, ComesAt, HasSpansApart, InSegments, IsAhead, IsItself, IsSameName, IsSettling, IsSpan, PutsOutAt, StopsApart, WaitsAs, behind, indexes_at, indexes_in, last_ones, of_item}
pub use Rattle.sc_expand.specs.Taking.{AreTaken, Comes, HasPutOut, HasTaken, IsBegun, IsFunction, IsHeldTaken, IsTaken, Replaces, Step, Takes, TakesPart, has_first, step_at, untaken}
pub use Rattle.sc_expand.specs.Turn.{At, EndsBy, Turn, held_up, with_end}
pub use Rattle.sc_expand.specs.Restricted.{IsPushed, IsRestricted, absent, empty, pushed}
pub use Rattle.sc_expand.specs.Waiting.{KeepsFirst}
pub use Rattle.sc_expand.specs.WorkLists.{DropsAlike, KeepsItems, RestrictsFirst, items_behind, items_left, items_of}
pub use Rattle.sc_expand.specs.declared.call.Call.{Call}
pub use Rattle.sc_expand.specs.declared.call.Template.{Template}
pub use Rattle.sc_expand.specs.declared.call.Wanted.{Wanted}
pub use Rattle.sc_expand.specs.declared.expansion.Expansion.{Expansion}
pub use Rattle.sc_expand.specs.declared.frame.Enclosing.{Enclosing}
pub use Rattle.sc_expand.specs.declared.frame.Frame.{Frame}
pub use Rattle.sc_expand.specs.declared.refusals.Refusals.{Refusals}
pub use Rattle.sc_expand.specs.declared.settling.Settled.{Settled}
pub use Rattle.sc_expand.specs.declared.taking.Taken.{Taken}
pub use Rattle.sc_guarded.specs.Items.{faults_at, items_at, seen_fault}
pub use Rattle.sc_guarded.specs.declared.expanded.Expanded.{Expanded}
pub use Rattle.sc_hoist.specs.Alike.{AreAlike, AreAlikeFaults, IsAlike}
pub use Rattle.sc_hoist.specs.Branches.{AreBranches, lists_at}
pub use Rattle.sc_hoist.specs.Calls.{CallEnd, ClosesAt, IsClosedCall, alone, bare, call_end, call_end_at, call_length, call_places, closed, closing_at, closing_step, is_end, opened_end, opened_length, spelled_at, still}
pub use Rattle.sc_hoist.specs.Places.{places_from}
pub use Rattle.sc_hoist.specs.declared.branch.Branch.{Branch}
pub use Rattle.sc_macro.specs.Seen.{IsHeldDefinition, IsHeldForm, IsHeldItem, seen_definition, seen_form, seen_item, seen_replacement, text_of}
pub use Rattle.sc_model.specs.Bytes.{has_no_newline, same_bytes}
pub use Rattle.sc_model.specs.Growth.{Extends, IsOneToOne}
pub use Rattle.sc_model.specs.Sets.{Denotes, IsCond, IsConfig, IsNever, Keeps, Sets}
pub use Rattle.sc_model.specs.Token.{Item}
pub use Rattle.sc_model.specs.declared.cause.Cause.{Cause}
pub use Rattle.sc_model.specs.declared.cause.Cause.TheVariants.{BadStringize, UnterminatedCall, WrongArguments}
pub use Rattle.sc_model.specs.declared.kind.Kind.{Kind}
pub use Rattle.sc_model.specs.declared.kind.Kind.TheVariants.{Text}
pub use Rattle.sc_subst.specs.Groups.{IsParenthesized, group_end, group_step, has_text}
pub use Rattle.sc_subst.specs.Halves.{completed}
pub use Rattle.sc_subst.specs.Hides.{set_at}
pub use Rattle.sc_subst.specs.Parts.{AreHeldArguments, IsHeldPart, filled_in, first_spaced, seen_arguments, seen_list, seen_part}
pub use Rattle.sc_subst.specs.Seen.{IsHeldHidden, IsHeldSet, Lasting, hide_at, seen_hidden, texts_in}
pub use Rattle.sc_subst.specs.Stops.{OnFault, OnOperator}
pub use Rattle.sc_subst.specs.declared.hidden.Hidden.{Hidden}
pub use Rattle.sc_subst.specs.declared.hidden.Hide.{Hide}
pub use Rattle.sc_subst.specs.declared.part.Part.{Part}
pub use Rattle.sc_table.specs.Table.{IsTable, macros_at, macros_in, stored_at}
pub use Rattle.sc_table.specs.declared.table.MacroTable.{MacroTable}
