-- This macro has the name, or another one has.
use Rattle.std.proofs.Common.{sym, ◌∙◌, eq-eqb}
use Rattle.std.proofs.lemmas.Bool.{eqb-true}
use Rattle.front_scope.proofs.MacroNames.{named_here, named_behind}
use Rattle.front_scope.proofs.calls.macro_named.Goals as goal

pub returns-then-name-row : goal.returns-then-name-row
returns-then-name-row c =
    sym (named_here c.loop-at.at c.args.count c.args.macros.now c.in-Some.row.now c.args.name c.loop-at-test.true c.in-Some.ensures
    (eq-eqb c.args.name.0 c.in-Some.row.now.name.0 c.if-name-row.true))
    ∙ c.loop-at.invariant

pub loop-at-preserved : goal.loop-at-preserved
loop-at-preserved c =
    sym (named_behind c.loop-at.at c.args.count c.args.macros.now c.in-Some.row.now c.args.name c.loop-at-test.true c.in-Some.ensures
    (λ e. c.if-name-row.false (eqb-true c.args.name.0 c.in-Some.row.now.name.0 e)))
    ∙ c.loop-at.invariant
