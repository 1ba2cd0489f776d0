-- The cells of a program: how large the tables are that choose its methods (this profile's own limit).
use Rattle.std.specs.Prelude.{ℕ, ◌+◌, ◌*◌, ◌==◌, Bool, not, List, [], ◌∷◌, ◌++◌, Option, Some, None, length, map, filter, flat_map, slice_index_or, if◌then◌else◌}
use Rattle.std.specs.List.{range_with_len, list_any, sum_by}
use Rattle.std.specs.Str.{bytes_eq}
use Rattle.lang_meaning.specs.declared.program.ProgramRows.{ProgramRows}
use Rattle.lang_meaning.specs.declared.program.GenericRow.{GenericRow}
use Rattle.lang_meaning.specs.Objects.{Chain}
use Rattle.lang_meaning.specs.Lookup.{is_in}
use Rattle.lang_meaning.specs.Classes.{precedence, chain}

-- the classes that the methods of a generic function have at an argument
abbrev pub argument_classes : GenericRow → ℕ → List ℕ
argument_classes g argument = map (λ m. slice_index_or m.classes argument 0) g.methods

-- an argument is specialised where one of them is not `<object>`
abbrev pub is_specialised : GenericRow → ℕ → Bool
is_specialised g argument = list_any (λ c. not (c == 0)) (argument_classes g argument)

-- the classes above a class that the methods have at the argument: classes with the same ones, in the same
-- order, are one group
abbrev pub group_of : ProgramRows → List ℕ → ℕ → List ℕ
group_of program classes c = filter (λ d. is_in d classes) (precedence program c)

-- one class for each group, the first of it
abbrev pub one_of_each : (ℕ → List ℕ) → List ℕ → List ℕ → List ℕ
one_of_each group seen [] = []
one_of_each group seen (c ∷ cs) =
    (if list_any (λ d. bytes_eq (group c) (group d)) seen then [] else c ∷ []) ++ one_of_each group (c ∷ seen) cs

abbrev pub groups : ProgramRows → GenericRow → ℕ → List ℕ
groups program g argument =
    one_of_each (group_of program (argument_classes g argument)) [] (range_with_len 0 (length program.classes))

-- all tuples of one of each list
abbrev pub tuples : List (List ℕ) → List (List ℕ)
tuples [] = [] ∷ []
tuples (cs ∷ lists) = flat_map (λ c. map (λ tuple. c ∷ tuple) (tuples lists)) cs

-- a tuple counts one, and the length of its chain
abbrev pub chain_length : Option Chain → ℕ
chain_length None = 0
chain_length (Some c) = length c.around + length c.before + length c.primary + length c.after

abbrev pub tuple_cells : ProgramRows → GenericRow → List ℕ → ℕ
tuple_cells program g tuple = 1 + chain_length (chain program g tuple)

-- a generic function counts each class once for each specialised argument, and its tuples
abbrev pub generic_cells : ProgramRows → GenericRow → ℕ
generic_cells program g =
    length program.classes * length (filter (is_specialised g) (range_with_len 0 g.required))
    + sum_by (tuple_cells program g) (tuples (map (groups program g) (range_with_len 0 g.required)))

abbrev pub program_cells : ProgramRows → ℕ
program_cells program = sum_by (generic_cells program) program.generics
