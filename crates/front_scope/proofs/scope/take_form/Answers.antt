-- The nodes of the program with the form are counted, and its cells.
use Rattle.std.proofs.Common.{inl, inr, refl, ◌∙◌, arith}
use Rattle.std.proofs.lemmas.Result.{err_from_is_err_and}
use Rattle.front_scope.proofs.Counting.{counted_exactly, counted_too_many}
use Rattle.front_scope.proofs.Keeping.{begun_here, given_whole, few_at, before_grown, count_few, stops_at_cells}
use Rattle.front_scope.proofs.scope.take_form.Goals as goal

pub returns-then-nodes-gt-MOST_NODES-clause-stop : goal.returns-then-nodes-gt-MOST_NODES-clause-stop
returns-then-nodes-gt-MOST_NODES-clause-stop g c =
    rw c.refused.ensures (
    inr (
    inl (
      record {
        tables = c.judge_top.new.tables;
        given = c.in_ok-judge_top.ensures.given;
        large = counted_too_many c.args.tables.now c.judge_top.new.tables c.judge_top.new.tables.before c.args.nodes _ c.in_ok-judge_top.ensures.grows (c.in_ok-judge_top.ensures.grows.before ∙ c.requires.mark) c.requires.nodes
            c.with_added-nodes.ensures (omega (arith, c.if-nodes-gt-MOST_NODES.true));
      },
      refl,
    )
    )
    )

pub count_cells-requires-clause-few : goal.count_cells-requires-clause-few
count_cells-requires-clause-few g c =
    few_at c.args.tables.now c.judge_top.new.tables c.judge_top.new.tables.before c.in_ok-judge_top.ensures.grows
    (c.in_ok-judge_top.ensures.grows.before ∙ c.requires.mark) c.requires.whole.few

pub count_cells-requires-clause-before : goal.count_cells-requires-clause-before
count_cells-requires-clause-before g c =
    before_grown c.args.tables.now c.judge_top.new.tables c.args.cells.now c.in_ok-judge_top.ensures.grows c.requires.cells

pub returns-in_err-cells-clause-stop : goal.returns-in_err-cells-clause-stop
returns-in_err-cells-clause-stop g c =
    let p = err_from_is_err_and c.from_residual-in_err-cells.result c.from_residual-in_err-cells.ensures.1 in
    let same = counted_exactly c.args.tables.now c.judge_top.new.tables c.judge_top.new.tables.before c.args.nodes _ c.in_ok-judge_top.ensures.grows (c.in_ok-judge_top.ensures.grows.before ∙ c.requires.mark) c.requires.nodes
    c.with_added-nodes.ensures (omega (arith, c.if-nodes-gt-MOST_NODES.false)) in
    rw (p.1, p.2) (
    stops_at_cells c.judge_top.new.names c.args.origin c.args.tables.now c.args.datum.now c.judge_top.new.tables c.in_err-cells.field-0.0 c.in_ok-judge_top.ensures.given
    (omega (arith, same, c.if-nodes-gt-MOST_NODES.false)) c.in_err-cells.ensures.stop
    )

pub returns-clause-taken : goal.returns-clause-taken
returns-clause-taken g c =
    let same = counted_exactly c.args.tables.now c.judge_top.new.tables c.judge_top.new.tables.before c.args.nodes _ c.in_ok-judge_top.ensures.grows (c.in_ok-judge_top.ensures.grows.before ∙ c.requires.mark) c.requires.nodes
    c.with_added-nodes.ensures (omega (arith, c.if-nodes-gt-MOST_NODES.false)) in
    record {
      given = c.in_ok-judge_top.ensures.given;
      small = omega (arith, same, c.if-nodes-gt-MOST_NODES.false);
      few = count_few c.judge_top.new.tables c.args.cells.now c.in_ok-cells.cells c.in_ok-cells.ensures.counted;
    }

pub returns-clause-whole : goal.returns-clause-whole
returns-clause-whole g c =
    let laws = c.law_top_forms.ensures in
    let same = counted_exactly c.args.tables.now c.judge_top.new.tables c.judge_top.new.tables.before c.args.nodes _ c.in_ok-judge_top.ensures.grows (c.in_ok-judge_top.ensures.grows.before ∙ c.requires.mark) c.requires.nodes
    c.with_added-nodes.ensures (omega (arith, c.if-nodes-gt-MOST_NODES.false)) in
    record {
      between = given_whole (record { first = laws.first; file = laws.file; prelude = laws.prelude }) c.args.names.now c.judge_top.new.names c.args.origin c.args.tables.now c.args.datum.now
          c.judge_top.new.tables c.requires.good c.in_ok-judge_top.ensures.names c.requires.whole.between c.in_ok-judge_top.ensures.given;
      small = omega (arith, same, c.if-nodes-gt-MOST_NODES.false);
      few = count_few c.judge_top.new.tables c.args.cells.now c.in_ok-cells.cells c.in_ok-cells.ensures.counted;
    }

pub returns-clause-nodes : goal.returns-clause-nodes
returns-clause-nodes g c =
    counted_exactly c.args.tables.now c.judge_top.new.tables c.judge_top.new.tables.before c.args.nodes _ c.in_ok-judge_top.ensures.grows (c.in_ok-judge_top.ensures.grows.before ∙ c.requires.mark) c.requires.nodes
    c.with_added-nodes.ensures (omega (arith, c.if-nodes-gt-MOST_NODES.false))

pub judge_top-requires-clause-begun : goal.judge_top-requires-clause-begun
judge_top-requires-clause-begun g c = begun_here c.args.tables.now c.requires.mark c.requires.whole
