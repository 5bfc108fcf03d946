-- The causes of faults: their codes and names as they are printed.
use Rattle.std.specs.Prelude.{ℕ, List, codes}
use Rattle.sc_model.specs.declared.cause.Cause.{Cause}
use Rattle.sc_model.specs.declared.cause.Cause.TheVariants.{NotFound, FileTooLarge, UnterminatedComment, BadNesting, BadDirective, BadDefine, Redefined, ProtectedName, BadIf, IfDivision, IfOverflow, IfShift, DefinedFromMacro, BadInclude, IncludeDepth, ErrorDirective, UnterminatedCall, WrongArguments, BadPaste, BadStringize, BadToken, Syntax, BadPragma}

-- the code of a cause
abbrev pub code_of : Cause → ℕ
code_of NotFound = 1
code_of FileTooLarge = 2
code_of UnterminatedComment = 3
code_of BadNesting = 4
code_of BadDirective = 5
code_of BadDefine = 6
code_of Redefined = 7
code_of ProtectedName = 8
code_of BadIf = 9
code_of IfDivision = 10
code_of IfOverflow = 11
code_of IfShift = 12
code_of DefinedFromMacro = 13
code_of BadInclude = 14
code_of IncludeDepth = 15
code_of ErrorDirective = 16
code_of UnterminatedCall = 17
code_of WrongArguments = 18
code_of BadPaste = 19
code_of BadStringize = 20
code_of BadToken = 21
code_of Syntax = 22
code_of BadPragma = 23

-- the name of a cause
abbrev pub name_of : Cause → List ℕ
name_of NotFound = codes "NotFound"
name_of FileTooLarge = codes "FileTooLarge"
name_of UnterminatedComment = codes "UnterminatedComment"
name_of BadNesting = codes "BadNesting"
name_of BadDirective = codes "BadDirective"
name_of BadDefine = codes "BadDefine"
name_of Redefined = codes "Redefined"
name_of ProtectedName = codes "ProtectedName"
name_of BadIf = codes "BadIf"
name_of IfDivision = codes "IfDivision"
name_of IfOverflow = codes "IfOverflow"
name_of IfShift = codes "IfShift"
name_of DefinedFromMacro = codes "DefinedFromMacro"
name_of BadInclude = codes "BadInclude"
name_of IncludeDepth = codes "IncludeDepth"
name_of ErrorDirective = codes "ErrorDirective"
name_of UnterminatedCall = codes "UnterminatedCall"
name_of WrongArguments = codes "WrongArguments"
name_of BadPaste = codes "BadPaste"
name_of BadStringize = codes "BadStringize"
name_of BadToken = codes "BadToken"
name_of Syntax = codes "Syntax"
name_of BadPragma = codes "BadPragma"
