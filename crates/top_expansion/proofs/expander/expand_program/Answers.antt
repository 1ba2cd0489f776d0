-- What was compiled is the program of the call.
use Rattle.std.proofs.Common.{◌≤◌, subst}
use Rattle.lang_meaning.specs.ProgramCounts.{program_nodes}
use Rattle.lang_meaning.proofs.Bounds.{few_nodes}
use Rattle.top_expansion.specs.Compiles.{IsCompiled}
use Rattle.top_expansion.proofs.expander.expand_program.Goals as goal

pub expand_built-result-requires : goal.expand_built-result-requires
expand_built-result-requires c = record {
  is_compiled =
      subst (λ p. IsCompiled c.args.names.now p c.in_ok-built.built) c.requires c.in_ok-built.ensures;
  small = subst (λ p. program_nodes p ≤ 100000) c.requires (few_nodes c.args.program.now c.rows-rows.ensures.whole);
}
