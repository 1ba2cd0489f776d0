-- A datum.
use Rattle.lang_meaning.specs.declared.program.LiteralRow.TheVariants.{Datum}
use Rattle.lang_meaning.specs.Literals.{lay}
use Rattle.mid_start.specs.Laying.{Lays, Grown}
use Rattle.lang_meaning.specs.Recipes.{literal_recipe}
use Rattle.mid_start.specs.Making.{IsWord, Makes}
use Rattle.mid_start.proofs.Joins.{makes_datum}
use Rattle.mid_start.proofs.Steps.{if_ok_on}
use Rattle.mid_start.proofs.literals.lay_literal.Goals as goal

pub returns-in-Datum-clause-made : goal.returns-in-Datum-clause-made
returns-in-Datum-clause-made c =
    rw c.in-Datum.is
    (if_ok_on c.lay_datum.result
    (λ w. Lays c.args.names.now (lay c.args.names.now c.in-Datum.datum) c.args.words.now c.lay_datum.new.words w)
    (λ w. Makes c.args.names.now IsWord (literal_recipe c.args.names.now (Datum c.in-Datum.datum)) c.args.words.now c.lay_datum.new.words w)
    (Grown c.args.words.now c.lay_datum.new.words)
    (λ w g p. makes_datum c.args.names.now c.in-Datum.datum c.args.words.now c.lay_datum.new.words w g p)
    c.lay_datum.ensures.grown c.lay_datum.ensures.lays)
