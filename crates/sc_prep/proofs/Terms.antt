-- The types and definitions of this crate and of those below that its proofs speak of, passed on.
pub use Rattle.std.specs.List.{AllByRecursion, filter, flat_map, list_all, list_any, position}
pub use Rattle.std.specs.Map.{update}
pub use Rattle.std.specs.Option.{IfSome, option_and_then, option_map, option_to_list}
pub use Rattle.std.specs.Prelude.{unwrap_or}
pub use Rattle.std.specs.declared.rc.Rc.{Rc}
pub use Rattle.c11_directives.specs.Behind.{Says, as_it_stands, begins_with_header, behind_name, expanded, greatest_line, is_line_number, is_numbering}
pub use Rattle.c11_directives.specs.Footprints.{DirectiveHas, Has, HasFootprints, MomentsHave, NameHas, Origin, PartHas, SourceFootprint, Spot, TextHas, Used, before_token, definitions_of, footprint_at, looked_up_in, of_directive, of_last_run, of_run, source, token_itself, tokens_used, waiting}
pub use Rattle.c11_directives.specs.Lines.{AreBranches, Branches, Group, IsGroup, IsTree, Line, Opens, Tree, alternative, branch_lines, closing, conditional_in, conditional_of, directive_of, directives_of, empty, group_lines, hash_of, line_of, lines_of, onto_first, otherwise, plain, section, test_in, test_of}
pub use Rattle.c11_directives.specs.Pragmas.{CarriesOutPragmas, RunBecomes}
pub use Rattle.c11_directives.specs.Pre.{Carries, Changes, Closes, Context, Decides, Defines, Enters, File, Includes, Pre, RefusedAt, State, Steps, Walks, WalksBranches, again, back, badly_nested, carried_out, changed, closed, context_of, deeper, defines, defines_nothing, done, entered, error, file_lines, file_with, found_or, fresh, head_stops, if_defined, if_undefined, ignored, included, initial_state, inside, is_barrier, is_once, is_once_file, is_said, last_taken, later_passed, later_stops, later_taken, left_out, line, line_stops, missing, names_once, no_header, no_name, none_taken, not_changed, not_expanded, not_numbered, null, numbered, operand_of, passed, passed_stops, place_in, put_out, redefined, refused, search, state_behind, stopped, stopped_inside, taken, taken_stops, text, too_deep, too_large, undefined, undefines, unended, unknown, walked, with_file_of, with_macro, with_text, without_macro}
pub use Rattle.c11_directives.specs.Reaches.{BranchesReach, FileReaches, GroupReaches, LineReaches, Moment, at_end, at_head}
pub use Rattle.c11_directives.specs.declared.directive.Conditional.{Conditional}
pub use Rattle.c11_directives.specs.declared.directive.Conditional.TheVariants.{Alternative, Else, Endif, Opening}
pub use Rattle.c11_directives.specs.declared.directive.Directive.{Directive}
pub use Rattle.c11_directives.specs.declared.directive.Test.{Test}
pub use Rattle.c11_directives.specs.declared.directive.Test.TheVariants.{Expression}
pub use Rattle.c11_headers.specs.Headers.{candidates}
pub use Rattle.c11_macros.specs.Defines.{Defined, is_protected, reads}
pub use Rattle.c11_macros.specs.Expansion.{Expands, call_result, called, case_of, object_result}
pub use Rattle.c11_macros.specs.Footprint.{Arrives, Footprint, footprint}
pub use Rattle.c11_macros.specs.Hidden.{Failure, Hidden, HideSet, Provenance, meet, no_names, with_name}
pub use Rattle.c11_macros.specs.Macros.{Definition, IsOneLineList, Macros, initial_macros}
pub use Rattle.c11_macros.specs.Results.{result_map}
pub use Rattle.c11_macros.specs.Runs.{Passes, Settles, after_these, begins, goes_on}
pub use Rattle.c11_macros.specs.Same.{same_definition}
pub use Rattle.c11_macros.specs.Text.{TextExpands, fault_of, place_alone, text_of_answer, token_of, unhidden}
pub use Rattle.c11_macros.specs.Trace.{Agree, Trace, trace}
pub use Rattle.c11_tokens.specs.Lex.{Lexed, end_position, is_newline}
pub use Rattle.sc_base.specs.Seen.{IsHeld, position_of, seen, seen_place, text_at}
pub use Rattle.sc_base.specs.declared.id.Cond.{Cond}
pub use Rattle.sc_base.specs.declared.id.FileId.{FileId}
pub use Rattle.sc_base.specs.declared.id.Name.{Name}
pub use Rattle.sc_base.specs.declared.stop.Stop.{Stop}
pub use Rattle.sc_base.specs.declared.stop.Stop.TheVariants.{BranchesFull, OutOfMemory, ReadFault}
pub use Rattle.sc_base.specs.declared.token.Token.{Token}
pub use Rattle.sc_expand.specs.Alike.{DefineTextAlike}
pub use Rattle.sc_expand.specs.Answers.{IsEmpty, IsExpanded, IsHeldAnswer, Stands}
pub use Rattle.sc_expand.specs.OneLine.{AreOneLine, IsOneLine}
pub use Rattle.sc_expand.specs.Stops.{StopsBy}
pub use Rattle.sc_expand.specs.declared.settling.Settled.{Settled}
pub use Rattle.sc_guarded.specs.Items.{faults_at, items_at, seen_fault}
pub use Rattle.sc_guarded.specs.Printable.{AreApart}
pub use Rattle.sc_guarded.specs.declared.expanded.Expanded.{Expanded}
pub use Rattle.sc_hoist.specs.Alike.{AreAlike, IsAlike}
pub use Rattle.sc_hoist.specs.Branches.{HasLists, Refuses}
pub use Rattle.sc_hoist.specs.Places.{places_at, places_from}
pub use Rattle.sc_hoist.specs.declared.branch.Branch.{Branch}
pub use Rattle.sc_if.specs.Decided.{tokens_at}
pub use Rattle.sc_if.specs.Parts.{HasPart, HasParts, RefusesAt}
pub use Rattle.sc_include.specs.Seen.{NamesHeader, seen_header}
pub use Rattle.sc_include.specs.declared.header.Header.{Header}
pub use Rattle.sc_lex.specs.Spell.{AreTokensOf, IsUnendedAt, lexeme_at}
pub use Rattle.sc_lines.specs.Branches.{ClosesAt, HasBranch, HasBranches, IsBranchOf, IsNextBranch, begins_branch, ends_branch, last_branch, more_branches}
pub use Rattle.sc_lines.specs.Judges.{line_at, no_line}
pub use Rattle.sc_lines.specs.Nests.{IsFaultAt, IsTreeOf, seen_line, seen_lines}
pub use Rattle.sc_lines.specs.Split.{AreLines, directive_at, token_lines, tokens_of}
pub use Rattle.sc_model.specs.Bytes.{begins_with, has_no_newline, is_digit, same_bytes}
pub use Rattle.sc_model.specs.Fault.{Fault, fault_at, first_place}
pub use Rattle.sc_model.specs.Growth.{Extends, IsOneToOne}
pub use Rattle.sc_model.specs.Outside.{Files, largest_file}
pub use Rattle.sc_model.specs.Sets.{Denotes, IsCond, IsConfig, IsNever, Keeps, Sets}
pub use Rattle.sc_model.specs.Space.{Space, VariableOption, arities_of}
pub use Rattle.sc_model.specs.Token.{Lexeme, Place, Position, in_file, name_of}
pub use Rattle.sc_model.specs.declared.cause.Cause.{Cause}
pub use Rattle.sc_model.specs.declared.cause.Cause.TheVariants.{BadDirective, BadIf, BadInclude, BadNesting, ErrorDirective, FileTooLarge, IncludeDepth, NotFound, ProtectedName, Redefined, UnterminatedComment}
pub use Rattle.sc_model.specs.declared.kind.Kind.TheVariants.{Identifier, Other}
pub use Rattle.sc_model.specs.declared.standard.Standard.{Standard}
pub use Rattle.sc_model.specs.declared.standard.Standard.TheVariants.{C11}
pub use Rattle.sc_prep.specs.Alternatives.{EachToken, OwnsEach, alternative_tokens, branch_tokens}
pub use Rattle.sc_prep.specs.Apart.{AreDifferent, GathersFrom, StandApart, tokens_in}
pub use Rattle.sc_prep.specs.Closes.{IsPart, IsWithin, RefusesEach, has_none, is_empty}
pub use Rattle.sc_prep.specs.Contents.{Agrees, AreContents, AreHeldLines, AreLinesOf, IsContent, IsHeldContent, IsReading, KeepsContents, ReadsSame, content_at, end_of_file, end_place}
pub use Rattle.sc_prep.specs.Entering.{Begins, Leaves}
pub use Rattle.sc_prep.specs.Expressions.{DecidesAt, EvaluatesAt, ExpandsAt, ReplacesAt, deciding_done, deciding_fails, deciding_idle, evaluating_done, evaluating_fails, evaluating_idle, expanding_done, expanding_fails, expanding_idle, failed, replacing_done, replacing_fails, replacing_idle}
pub use Rattle.sc_prep.specs.Finding.{AddsFile, AreFound, FindsAll, IsSearched, LooksUp, part_of}
pub use Rattle.sc_prep.specs.Footprints.{Comes, ComesAt, ComesIn, ComesInside, ComesOver, HaveLists, StopsAmong, StopsAtPlace, StopsByLists, StopsWalk, any_machine, decides, does, here, later, past_all, within}
pub use Rattle.sc_prep.specs.Gathered.{Forgets, HasText, held_at, hidden_at, IsLeft, StillWaits}
pub use Rattle.sc_prep.specs.Includes.{AreOnce, ArePartsOf, enters, EntersAt, files_at, Finds}
pub use Rattle.sc_prep.specs.Machine.{Answers, Carried, CarriesOut, Decided, Machine, RunExpands, Runs, SaysAt, Takes, acting, acting_unless, acts, arriving, asks_by, branched_as, carries, changed_by, changing, closes, closing_run, defined_as, defined_over, ended, ends_run, is_taken, name_test, next_branch, opened, opened_as, plain_by, plain_step, refusal, refusal_of, refusing, refusing_if, start, step, step_by, takes, turned}
pub use Rattle.sc_prep.specs.Naming.{AddsHeader, AreHeaders, ArePlainNames, NamesAll, NamesAt, OwnsHeaders, fails, headers_in, idle, is_unnamed, named_in, names, unnamed_in, with_named}
pub use Rattle.sc_prep.specs.Once.{AreOnceHeld, MarksFile, OwnsOnce, is_marked, once_at}
pub use Rattle.sc_prep.specs.Passes.{EndsAt, PassesOver, StandFor, nothing, plain_line, whole_group, whole_section}
pub use Rattle.sc_prep.specs.Pragmas.{Awaited, AwaitsAt, HasNoPragma, OwnsPragmas, awaits, no_operator, outside, tokens_within, fault_awaiting}
pub use Rattle.sc_prep.specs.Preprocesses.{IsOrdinary, IsRefused, OwnsList, ReadsNothing, Stops, is_accepted}
pub use Rattle.sc_prep.specs.Printable.{AllPass, AreHeld, ArePlaced, ArePlainPaths, CanBeShown, HoldsRuns, IsHeldWalk, IsPlaced, IsPlainOrNewline, IsPlainState, IsPlainToken, StaysHeld, any_token, is_plain}
pub use Rattle.sc_prep.specs.Read.{EndsRead, TakesOut, last_run, run_at, tokens_read}
pub use Rattle.sc_prep.specs.Settles.{AllHaveSettled, EndsRuns, HasSettled, IsSettledAt, IsAsked, KeepsSettled, fault_items}
pub use Rattle.sc_prep.specs.Simulates.{Closed, Covers, IsAtTop, IsBegun, IsBetweenRuns, IsContext, IsIn, IsOutcomeOf, IsReady, Leads, Owns, OwnsSection, OwnsRuns, PlainEach, RunAt, Simulates, SimulatesOneOf, SimulatesStep, StepsBetweenRuns, section_at}
pub use Rattle.sc_prep.specs.Stages.{AskedHas, IsStored, KeepsText, LineStage, Stage, StopsSaid, StopsStage, is_asked}
pub use Rattle.sc_prep.specs.declared.content.Content.{Content}
pub use Rattle.sc_prep.specs.declared.content.Contents.{Contents}
pub use Rattle.sc_prep.specs.declared.content.FileLines.{FileLines}
pub use Rattle.sc_prep.specs.declared.entering.Around.{Around}
pub use Rattle.sc_prep.specs.declared.entry.Entry.{Entry}
pub use Rattle.sc_prep.specs.declared.finding.Found.{Found}
pub use Rattle.sc_prep.specs.declared.including.Part.{Part}
pub use Rattle.sc_prep.specs.declared.naming.Named.{Named}
pub use Rattle.sc_prep.specs.declared.once.OnceFile.{OnceFile}
pub use Rattle.sc_prep.specs.declared.open_runs.OpenRuns.{OpenRuns}
pub use Rattle.sc_prep.specs.declared.prepared.Prepared.{Prepared}
pub use Rattle.sc_prep.specs.declared.walk.Section.{Section}
pub use Rattle.sc_prep.specs.declared.walk.Walk.{Walk}
pub use Rattle.sc_space.specs.Seen.{seen_space}
pub use Rattle.sc_space.specs.Settings.{is_date_byte, is_directory}
pub use Rattle.sc_space.specs.Sound.{IsInRange, IsSound, IsSoundVariable}
pub use Rattle.sc_subst.specs.Hides.{set_at}
pub use Rattle.sc_subst.specs.Seen.{IsHeldHidden, seen_hidden}
pub use Rattle.sc_table.specs.Table.{IsStill, IsTable, macros_at}
pub use Rattle.sc_table.specs.declared.table.MacroTable.{MacroTable}
