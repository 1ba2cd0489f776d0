-- What `explain` prints, topic by topic: the script text/join writes this file, from docs/REFUSALS.md and docs/CONDITIONS.md.
use Rattle.std.specs.Prelude.{ℕ, List, [], ◌∷◌, codes}
use Rattle.top_help.specs.declared.topics.Topic.{Topic as Written}
use Rattle.top_help.specs.declared.topics.TheConstants.{BAD_BYTE, UNCLOSED_LIST, UNCLOSED_STRING, UNCLOSED_COMMENT, STRAY_CLOSE, BAD_DOT, BAD_SHARP, FLOAT_LITERAL, INTEGER_TOO_WIDE, NEST_TOO_DEEP, SOURCE_TOO_LONG, NAME_TOO_LONG, BAD_SHAPE, NOT_AFORM, BAD_BINDING, DUPLICATE_NAME, NOT_TOP_LEVEL, RESERVED_NAME, UNKNOWN_BLOCK, UNKNOWN_TAG, CONSTANT_SET, LEFT_OUT, DEPTH_LIMIT, PROGRAM_TOO_LARGE, UNKNOWN_CLASS, BAD_SUPERS, BAD_SLOT, UNKNOWN_GENERIC, BAD_METHOD, DISPATCH_TOO_LARGE, EXPANDER_UNHANDLED, EXPANDER_PRINTED, EXPANDER_ARENA, EXPANDER_BUDGET, EXPANSION_NOT_FORM, EXPANSION_TOO_LARGE, EXPANSION_DEPTH, TOO_MANY_EXPANSIONS, DOMAIN_ERROR, PROGRAM_ERROR, UNDEFINED_FUNCTION, UNBOUND_VARIABLE, DIVISION_BY_ZERO, INTEGER_OVERFLOW, CONTROL_ERROR, SIMPLE_ERROR, END_OF_STREAM, PARSE_ERROR, STORAGE_EXHAUSTED}

-- a reason by its number and its name, or a class by its name without brackets and with them
pub record Topic : Type 0 where
  pub short : List ℕ
  pub name : List ℕ
  pub text : List ℕ

-- the topics as the code has them
abbrev pub view_topics : List Written → List Topic
view_topics [] = []
view_topics (t ∷ ts) = record { short = t.short.now; name = t.name.now; text = t.text.now } ∷ view_topics ts

abbrev pub topic : List ℕ → List ℕ → List ℕ → Topic
topic short name text = record { short = short; name = name; text = text }

unfoldable pub topics : List Topic
topics =
    topic (codes "1") (codes "BadByte") BAD_BYTE.now ∷
    topic (codes "2") (codes "UnclosedList") UNCLOSED_LIST.now ∷
    topic (codes "3") (codes "UnclosedString") UNCLOSED_STRING.now ∷
    topic (codes "4") (codes "UnclosedComment") UNCLOSED_COMMENT.now ∷
    topic (codes "5") (codes "StrayClose") STRAY_CLOSE.now ∷
    topic (codes "6") (codes "BadDot") BAD_DOT.now ∷
    topic (codes "7") (codes "BadSharp") BAD_SHARP.now ∷
    topic (codes "8") (codes "FloatLiteral") FLOAT_LITERAL.now ∷
    topic (codes "9") (codes "IntegerTooWide") INTEGER_TOO_WIDE.now ∷
    topic (codes "10") (codes "NestTooDeep") NEST_TOO_DEEP.now ∷
    topic (codes "11") (codes "SourceTooLong") SOURCE_TOO_LONG.now ∷
    topic (codes "12") (codes "NameTooLong") NAME_TOO_LONG.now ∷
    topic (codes "20") (codes "BadShape") BAD_SHAPE.now ∷
    topic (codes "21") (codes "NotAForm") NOT_AFORM.now ∷
    topic (codes "22") (codes "BadBinding") BAD_BINDING.now ∷
    topic (codes "23") (codes "DuplicateName") DUPLICATE_NAME.now ∷
    topic (codes "24") (codes "NotTopLevel") NOT_TOP_LEVEL.now ∷
    topic (codes "25") (codes "ReservedName") RESERVED_NAME.now ∷
    topic (codes "26") (codes "UnknownBlock") UNKNOWN_BLOCK.now ∷
    topic (codes "27") (codes "UnknownTag") UNKNOWN_TAG.now ∷
    topic (codes "28") (codes "ConstantSet") CONSTANT_SET.now ∷
    topic (codes "29") (codes "LeftOut") LEFT_OUT.now ∷
    topic (codes "30") (codes "DepthLimit") DEPTH_LIMIT.now ∷
    topic (codes "31") (codes "ProgramTooLarge") PROGRAM_TOO_LARGE.now ∷
    topic (codes "40") (codes "UnknownClass") UNKNOWN_CLASS.now ∷
    topic (codes "41") (codes "BadSupers") BAD_SUPERS.now ∷
    topic (codes "42") (codes "BadSlot") BAD_SLOT.now ∷
    topic (codes "43") (codes "UnknownGeneric") UNKNOWN_GENERIC.now ∷
    topic (codes "44") (codes "BadMethod") BAD_METHOD.now ∷
    topic (codes "45") (codes "DispatchTooLarge") DISPATCH_TOO_LARGE.now ∷
    topic (codes "60") (codes "ExpanderUnhandled") EXPANDER_UNHANDLED.now ∷
    topic (codes "61") (codes "ExpanderPrinted") EXPANDER_PRINTED.now ∷
    topic (codes "62") (codes "ExpanderArena") EXPANDER_ARENA.now ∷
    topic (codes "63") (codes "ExpanderBudget") EXPANDER_BUDGET.now ∷
    topic (codes "64") (codes "ExpansionNotForm") EXPANSION_NOT_FORM.now ∷
    topic (codes "65") (codes "ExpansionTooLarge") EXPANSION_TOO_LARGE.now ∷
    topic (codes "66") (codes "ExpansionDepth") EXPANSION_DEPTH.now ∷
    topic (codes "67") (codes "TooManyExpansions") TOO_MANY_EXPANSIONS.now ∷
    topic (codes "domain-error") (codes "<domain-error>") DOMAIN_ERROR.now ∷
    topic (codes "program-error") (codes "<program-error>") PROGRAM_ERROR.now ∷
    topic (codes "undefined-function") (codes "<undefined-function>") UNDEFINED_FUNCTION.now ∷
    topic (codes "unbound-variable") (codes "<unbound-variable>") UNBOUND_VARIABLE.now ∷
    topic (codes "division-by-zero") (codes "<division-by-zero>") DIVISION_BY_ZERO.now ∷
    topic (codes "integer-overflow") (codes "<integer-overflow>") INTEGER_OVERFLOW.now ∷
    topic (codes "control-error") (codes "<control-error>") CONTROL_ERROR.now ∷
    topic (codes "simple-error") (codes "<simple-error>") SIMPLE_ERROR.now ∷
    topic (codes "end-of-stream") (codes "<end-of-stream>") END_OF_STREAM.now ∷
    topic (codes "parse-error") (codes "<parse-error>") PARSE_ERROR.now ∷
    topic (codes "storage-exhausted") (codes "<storage-exhausted>") STORAGE_EXHAUSTED.now ∷
    []
