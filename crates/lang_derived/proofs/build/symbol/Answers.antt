-- The symbol has its text in the table.
use Rattle.lang_derived.proofs.Building.{word_built}
use Rattle.lang_derived.proofs.build.symbol.Goals as goal

pub returns-clause-builds : goal.returns-clause-builds
returns-clause-builds c = word_built _ _ _ _ _ c.in_ok-name.ensures.name c.new.ensures
