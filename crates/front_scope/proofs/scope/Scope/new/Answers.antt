-- The words are there still when the classes are.
use Rattle.std.proofs.Common.{List, [], subst, rules}
use Rattle.lang_meaning.specs.declared.program.ClassRow.{ClassRow}
use Rattle.front_cells.specs.Counts.{IsCellCount}
use Rattle.front_scope.proofs.Beginning.{is_first}
use Rattle.front_scope.proofs.Keeping.{first_is_whole, first_count, counted_now}
use Rattle.front_scope.proofs.scope.Scope.new.Goals as goal

pub returns-clause-first : goal.returns-clause-first
returns-clause-first c =
    is_first c.reserved_words.new.names c.builtin.new.names c.in_ok-words.words c.in_ok-classes.classes c.first_tables-tables.result
    c.in_ok-classes.ensures.names c.in_ok-words.ensures.words c.in_ok-classes.ensures.built_in c.first_tables-tables.ensures

pub invariant_of-result : goal.invariant_of-result
invariant_of-result c =
    let laws = c.law_top_forms.ensures in
    let first = is_first c.reserved_words.new.names c.builtin.new.names c.in_ok-words.words c.in_ok-classes.classes c.first_tables-tables.result
    c.in_ok-classes.ensures.names c.in_ok-words.ensures.words c.in_ok-classes.ensures.built_in c.first_tables-tables.ensures in
    let whole = first_is_whole (record { first = laws.first; file = laws.file; prelude = laws.prelude }) c.builtin.new.names c.first_tables-tables.result c.class_list_nodes-nodes.result first
    (search rules) in (
      whole.0,
      (
        whole.1,
        counted_now c.first_tables-tables.result c.new-cells.result
            (first_count c.first_tables-tables.result c.new-cells.result first.nothing_else
            (subst (λ (cs : List ClassRow). IsCellCount cs [] c.new-cells.result) c.rows-2.ensures.rows c.new-cells.ensures)),
      ),
    )
