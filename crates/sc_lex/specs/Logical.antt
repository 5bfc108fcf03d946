-- What is left of a cursor.
use Rattle.std.specs.Prelude.{List}
use Rattle.c11_tokens.specs.Lex.{Marked, without_trigraphs, without_splices}
use Rattle.sc_lex.specs.Cursor.{stored}
use Rattle.sc_lex.specs.declared.cursor.Cursor.{Cursor}

abbrev pub stored_of : Cursor → List Marked
stored_of s = stored s.wanted s.line s.column s.rest.now

abbrev pub replaced_of : Cursor → List Marked
replaced_of s = without_trigraphs (stored_of s)

abbrev pub logical_of : Cursor → List Marked
logical_of s = without_splices (replaced_of s)
