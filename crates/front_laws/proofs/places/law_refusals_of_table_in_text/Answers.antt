-- The law of files and that of expansions, under the table with which both begin.
use Rattle.std.specs.Prelude.{[]}
use Rattle.front_files.specs.declared.mode.Mode.TheVariants.{Run}
use Rattle.front_files.specs.Verdicts.{accepted, refused}
use Rattle.front_laws.proofs.Files.{refusal_in}
use Rattle.front_laws.proofs.places.law_refusals_of_table_in_text.Goals as goal

pub returns : goal.returns
returns c = λ names a b prelude text mode program r table x y is_exact g h.
    refusal_in names text mode r
    (c.law_prelude.ensures.exact names prelude text mode program r table (c.law_one_expansion.ensures names table) is_exact
    (c.law_names_apart.ensures.verdict a names prelude [] Run (accepted program) x g)
    (c.law_names_apart.ensures.verdict b names prelude text mode (refused r) y h))
