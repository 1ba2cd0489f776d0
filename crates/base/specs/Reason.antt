-- The number and the name of each reason.
use Rattle.std.specs.Prelude.{ℕ, List, codes}
use Rattle.base.specs.declared.reason.Reason.{Reason}
use Rattle.base.specs.declared.reason.Reason.TheVariants.{BadByte, UnclosedList, UnclosedString, UnclosedComment, StrayClose, BadDot, BadSharp, FloatLiteral, IntegerTooWide, NestTooDeep, SourceTooLong, NameTooLong, BadShape, NotAForm, BadBinding, DuplicateName, NotTopLevel, ReservedName, UnknownBlock, UnknownTag, ConstantSet, LeftOut, DepthLimit, ProgramTooLarge, UnknownClass, BadSupers, BadSlot, UnknownGeneric, BadMethod, DispatchTooLarge, ExpanderUnhandled, ExpanderPrinted, ExpanderArena, ExpanderBudget, ExpansionNotForm, ExpansionTooLarge, ExpansionDepth, TooManyExpansions}

abbrev pub number_of : Reason → ℕ
number_of BadByte = 1
number_of UnclosedList = 2
number_of UnclosedString = 3
number_of UnclosedComment = 4
number_of StrayClose = 5
number_of BadDot = 6
number_of BadSharp = 7
number_of FloatLiteral = 8
number_of IntegerTooWide = 9
number_of NestTooDeep = 10
number_of SourceTooLong = 11
number_of NameTooLong = 12
number_of BadShape = 20
number_of NotAForm = 21
number_of BadBinding = 22
number_of DuplicateName = 23
number_of NotTopLevel = 24
number_of ReservedName = 25
number_of UnknownBlock = 26
number_of UnknownTag = 27
number_of ConstantSet = 28
number_of LeftOut = 29
number_of DepthLimit = 30
number_of ProgramTooLarge = 31
number_of UnknownClass = 40
number_of BadSupers = 41
number_of BadSlot = 42
number_of UnknownGeneric = 43
number_of BadMethod = 44
number_of DispatchTooLarge = 45
number_of ExpanderUnhandled = 60
number_of ExpanderPrinted = 61
number_of ExpanderArena = 62
number_of ExpanderBudget = 63
number_of ExpansionNotForm = 64
number_of ExpansionTooLarge = 65
number_of ExpansionDepth = 66
number_of TooManyExpansions = 67

abbrev pub text_of : Reason → List ℕ
text_of BadByte = codes "BadByte"
text_of UnclosedList = codes "UnclosedList"
text_of UnclosedString = codes "UnclosedString"
text_of UnclosedComment = codes "UnclosedComment"
text_of StrayClose = codes "StrayClose"
text_of BadDot = codes "BadDot"
text_of BadSharp = codes "BadSharp"
text_of FloatLiteral = codes "FloatLiteral"
text_of IntegerTooWide = codes "IntegerTooWide"
text_of NestTooDeep = codes "NestTooDeep"
text_of SourceTooLong = codes "SourceTooLong"
text_of NameTooLong = codes "NameTooLong"
text_of BadShape = codes "BadShape"
text_of NotAForm = codes "NotAForm"
text_of BadBinding = codes "BadBinding"
text_of DuplicateName = codes "DuplicateName"
text_of NotTopLevel = codes "NotTopLevel"
text_of ReservedName = codes "ReservedName"
text_of UnknownBlock = codes "UnknownBlock"
text_of UnknownTag = codes "UnknownTag"
text_of ConstantSet = codes "ConstantSet"
text_of LeftOut = codes "LeftOut"
text_of DepthLimit = codes "DepthLimit"
text_of ProgramTooLarge = codes "ProgramTooLarge"
text_of UnknownClass = codes "UnknownClass"
text_of BadSupers = codes "BadSupers"
text_of BadSlot = codes "BadSlot"
text_of UnknownGeneric = codes "UnknownGeneric"
text_of BadMethod = codes "BadMethod"
text_of DispatchTooLarge = codes "DispatchTooLarge"
text_of ExpanderUnhandled = codes "ExpanderUnhandled"
text_of ExpanderPrinted = codes "ExpanderPrinted"
text_of ExpanderArena = codes "ExpanderArena"
text_of ExpanderBudget = codes "ExpanderBudget"
text_of ExpansionNotForm = codes "ExpansionNotForm"
text_of ExpansionTooLarge = codes "ExpansionTooLarge"
text_of ExpansionDepth = codes "ExpansionDepth"
text_of TooManyExpansions = codes "TooManyExpansions"
