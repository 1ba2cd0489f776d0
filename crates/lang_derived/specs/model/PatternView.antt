-- Left sides of rows as the code has them, and as the table does.
use Rattle.std.specs.Prelude.{◌≡◌, Bool, true, false, List, [], ◌∷◌, Option, Some, None}
use Rattle.std.specs.Coded.{Coded, coded_list}
use Rattle.base.specs.Data.{Item}
use Rattle.base.specs.model.DataCode.{item_code}
use Rattle.lang_derived.specs.Patterns.{Pattern, a_datum, a_symbol, the_word, an_operator, inside, others, one_at_most, each_fits, Patterns, patterns, no_pattern, pattern_and, Parts}
use Rattle.lang_derived.specs.Prefixes.{before}
use Rattle.lang_derived.specs.declared.pattern.Pattern.{Pattern as Written, fold-Pattern}
use Rattle.lang_derived.specs.declared.pattern.Pattern.TheOpen.{Pattern-F}

-- one level, with each pattern inside already seen as the table has it
abbrev pub view_level : Pattern-F Pattern → Pattern
view_level Pattern-F.Datum = a_datum
view_level Pattern-F.Symbol = a_symbol
view_level (Pattern-F.Name text) = the_word text.now
view_level Pattern-F.Operator = an_operator
view_level Pattern-F.Others = others
view_level Pattern-F.OneAtMost = one_at_most
view_level (Pattern-F.Inside xs) = inside (patterns xs.now)
view_level (Pattern-F.Each xs) = each_fits (patterns xs.now)

abbrev pub view_pattern : Written → Pattern
view_pattern = fold-Pattern Pattern view_level

abbrev pub view_patterns : List Written → Patterns
view_patterns [] = no_pattern
view_patterns (x ∷ xs) = pattern_and (view_pattern x) (view_patterns xs)

-- the code of a part: a list of numbers that gives it back
abbrev pub part_code : Coded (List Item)
part_code = coded_list item_code

-- the parts behind the earlier ones are those that were found; none were, where the data do not fit
abbrev pub IsFit : Bool → Parts → Parts → Option Parts → Type 0
IsFit true old new found = before old found ≡ Some new
IsFit false old new found = found ≡ None
