-- A renamed program has as many nodes and cells.
use Rattle.std.specs.Prelude.{◌≡◌, ℕ, ◌+◌, ◌*◌, List, [], length, map, filter, refl}
use Rattle.std.specs.List.{range_with_len, sum_by}
use Rattle.std.proofs.Common.{ap}
use mathlib.Core.Path.{fun_ext}
use Rattle.lang_meaning.specs.declared.program.LiteralRow.{LiteralRow}
use Rattle.lang_meaning.specs.declared.program.LiteralRow.TheVariants as row
use Rattle.lang_meaning.specs.declared.program.Procedure.{Procedure}
use Rattle.lang_meaning.specs.declared.program.SlotRow.{SlotRow}
use Rattle.lang_meaning.specs.declared.program.ClassRow.{ClassRow}
use Rattle.lang_meaning.specs.declared.program.GenericRow.{GenericRow}
use Rattle.lang_meaning.specs.declared.program.Qualifier.TheVariants.{Primary}
use Rattle.lang_meaning.specs.declared.program.ProgramRows.{ProgramRows}
use Rattle.lang_meaning.specs.Counts.{all_nodes, parameter_count}
use Rattle.lang_meaning.specs.Lookup.{is_in}
use Rattle.lang_meaning.specs.Classes.{of_kind, chain_of}
use Rattle.lang_meaning.specs.ProgramCounts.{row_nodes, procedure_nodes, slot_nodes, class_nodes, program_nodes}
use Rattle.lang_meaning.specs.Cells.{argument_classes, is_specialised, one_of_each, groups, tuples, chain_length, tuple_cells, generic_cells, program_cells}
use Rattle.lang_renamed.specs.Renaming.{literal_by, procedure_by, slot_by, class_by, generic_by, form_by, name_by, program_by}
use Rattle.lang_renamed.proofs.Lists.{both, length_by, total_by}
use Rattle.front_laws.proofs.RenamedData.{size_by}
use Rattle.lang_renamed.proofs.Walks.{all_nodes_by}
use Rattle.lang_renamed.proofs.Classes.{line_by, applicable_by}

module _ (r : ℕ → ℕ) where
  -- ---- nodes

  row_nodes_by : (x : LiteralRow) → row_nodes (literal_by r x) ≡ row_nodes x
  row_nodes_by (row.Datum d) = size_by r d
  row_nodes_by (row.Class c) = refl
  row_nodes_by (row.Function n) = refl

  procedure_nodes_by : (p : Procedure) → procedure_nodes (procedure_by r p) ≡ procedure_nodes p
  procedure_nodes_by p = ap (λ (n : ℕ). n + parameter_count p.required p.rest + 4) (all_nodes_by r p.body)

  slot_nodes_by : (s : SlotRow) → slot_nodes (slot_by r s) ≡ slot_nodes s
  slot_nodes_by s = ap (λ (n : ℕ). 1 + n) (length_by (name_by r) s.initargs)

  class_nodes_by : (c : ClassRow) → class_nodes (class_by r c) ≡ class_nodes c
  class_nodes_by c = ap (λ (n : ℕ). length c.precedence + n) (total_by (slot_by r) slot_nodes slot_nodes slot_nodes_by c.slots)

  pub nodes_by : (p : ProgramRows) → program_nodes (program_by r p) ≡ program_nodes p
  nodes_by p =
      both (λ (a b : ℕ). a + b) _ _ _ _
      (both (λ (a b : ℕ). a + b) _ _ _ _
      (both (λ (a b : ℕ). a + b) _ _ _ _
      (both (λ (a b : ℕ). a + b) _ _ _ _ (total_by (literal_by r) row_nodes row_nodes row_nodes_by p.literals)
      (total_by (procedure_by r) procedure_nodes procedure_nodes procedure_nodes_by p.procedures))
      (total_by (class_by r) class_nodes class_nodes class_nodes_by p.classes))
      (ap (λ (n : ℕ). 4 * n) (length_by (generic_by r) p.generics)))
      (total_by (form_by r) all_nodes all_nodes (all_nodes_by r) p.main)

  -- ---- cells

  module _ (p : ProgramRows) where
    tuple_by : (g : GenericRow) (cs : List ℕ) → tuple_cells (program_by r p) (generic_by r g) cs ≡ tuple_cells p g cs
    tuple_by g cs = ap (λ ms. 1 + chain_length (chain_of ms (of_kind Primary ms))) (applicable_by r p cs g.methods)

    groups_by : (g : GenericRow) (i : ℕ) → groups (program_by r p) (generic_by r g) i ≡ groups p g i
    groups_by g i =
        both (λ (f : ℕ → List ℕ) (n : ℕ). one_of_each f [] (range_with_len 0 n)) _ _ _ _
        (fun_ext (λ c. ap (filter (λ d. is_in d (argument_classes g i))) (line_by r p c))) (length_by (class_by r) p.classes)

    generic_cells_by : (g : GenericRow) → generic_cells (program_by r p) (generic_by r g) ≡ generic_cells p g
    generic_cells_by g =
        both (λ (a b : ℕ). a + b) _ _ _ _
        (ap (λ (n : ℕ). n * length (filter (is_specialised g) (range_with_len 0 g.required))) (length_by (class_by r) p.classes))
        (both (λ (f : List ℕ → ℕ) (h : ℕ → List ℕ). sum_by f (tuples (map h (range_with_len 0 g.required)))) _ _ _ _ (fun_ext (tuple_by g)) (fun_ext (groups_by g)))

    pub cells_by : program_cells (program_by r p) ≡ program_cells p
    cells_by = total_by (generic_by r) (generic_cells (program_by r p)) (generic_cells p) generic_cells_by p.generics
