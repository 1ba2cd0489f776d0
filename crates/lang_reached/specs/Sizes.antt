-- **How many words the image of a program has at most**: by its nodes, main forms, rows and tables.
use Rattle.std.specs.Prelude.{ℕ, ◌+◌, ◌*◌, ◌==◌, not, List, length, filter, map, sum_by}
use Rattle.std.specs.List.{range_with_len}
use Rattle.lang_meaning.specs.declared.program.GenericRow.{GenericRow}
use Rattle.lang_meaning.specs.declared.program.ProgramRows.{ProgramRows}
use Rattle.lang_meaning.specs.Cells.{groups, tuples, tuple_cells}
use Rattle.lang_meaning.specs.ProgramCounts.{program_nodes}

-- the arguments of a generic function at which its methods tell classes apart, and the tuples of their groups
abbrev pub told_apart : ProgramRows → GenericRow → List ℕ
told_apart program g = filter (λ i. not (length (groups program g i) == 1)) (range_with_len 0 g.required)

abbrev pub group_tuples : ProgramRows → GenericRow → List (List ℕ)
group_tuples program g = tuples (map (groups program g) (range_with_len 0 g.required))

-- its tables: for each such argument a word for each class, and two more; for each tuple two for each of its cells,
-- which are one and the methods of its chain
abbrev pub table_words : ProgramRows → GenericRow → ℕ
table_words program g =
    (2 + length program.classes) * length (told_apart program g)
    + 2 * sum_by (tuple_cells program g) (group_tuples program g)

-- for each node, for each main form, for each name of a function, for each class, for the tables, and for what does
-- not depend on the program
abbrev pub most_words : ProgramRows → ℕ
most_words program =
    167 * program_nodes program
    + 299 * length program.main
    + 2 * length program.functions
    + 77 * length program.classes
    + sum_by (table_words program) program.generics
    + 37231
