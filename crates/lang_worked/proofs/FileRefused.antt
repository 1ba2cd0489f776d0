-- Files are read and refused.
use Rattle.std.proofs.Common.{ℕ, List, [], ◌∷◌, ◌++◌, Some, None, codes, refl, arith}
use Rattle.base.specs.declared.origin.Origin.TheVariants.{File}
use Rattle.base.specs.Data.{Item}
use Rattle.base.specs.DataMeasures.{size_of}
use Rattle.lang_derived.specs.Derived.{derivation}
use Rattle.lang_derived.specs.Table.{is_derived, table, conditional_rows, binding_rows, case_rows, case_using_rows, loop_rows, place_rows, function_rows, condition_rows, class_rows, quotation_rows}
use Rattle.lang_meaning.specs.declared.program.Procedure.{Procedure}
use Rattle.lang_meaning.specs.Form.{literal, local}
use Rattle.front_profile.specs.declared.tables.Tables.{Tables}
use Rattle.front_profile.specs.Cuts.{opened}
use Rattle.front_profile.specs.Nodes.{stands, ended, refused}
use Rattle.front_profile.specs.Rows.{node}
use Rattle.front_reader.specs.Characters.{is_blank, is_token, folded, digit_value, place_after}
use Rattle.front_reader.specs.Tokens.{magnitude, is_float}
use Rattle.front_reader.specs.Trees.{spelled, behind, behind_all}
use Rattle.front_reader.specs.Meanings.{number_in}
use Rattle.front_reader.specs.Gaps.{no_gap}
use Rattle.front_reader.specs.Reads.{ReadsNext}
use Rattle.front_scope.specs.Scopes.{top, with_main}
use Rattle.front_files.specs.declared.mode.Mode.TheVariants.{Run}
use Rattle.base.specs.declared.reason.Reason.TheVariants.{UnknownBlock, ReservedName}
use Rattle.front_files.specs.Verdicts.{FormTaken, FormRefused, at_end, form_taken, form_refused, file_refused}
use Rattle.lang_worked.specs.FileParts.{at, name, a_symbol, a_function, body}
use Rattle.lang_worked.specs.FileNames.{first, first_names}
use Rattle.lang_worked.specs.FileLibrary.{library_names}
use Rattle.lang_worked.specs.FileRefused.{no_block_text, library_name_text, FileIsRefused, FileIsRefusedBehindLibrary}
use Rattle.lang_worked.proofs.NameTables.{is_table}
use Rattle.lang_worked.proofs.FirstTables.{is_first}
use Rattle.lang_worked.proofs.Sketches.{Sketch, w, number, group, begin, ◌&◌, datum_of, next}
use Rattle.lang_worked.proofs.Taking.{ComesByTest, taken, is_refused}
use Rattle.lang_worked.proofs.FileLibrary.{behind_library, library_taken}
use Rattle.lang_worked.proofs.FileCalling.{library_names_are}

-- the file whose second form is refused

abbrev names : List (List ℕ)
names = first_names ++ (codes "defun" ∷ codes "f" ∷ codes "x" ∷ codes "return-from" ∷ codes "b" ∷ [])

abbrev definition : Sketch
definition = group (begin (w "defun") & w "f" & group (begin (w "x")) & w "x")

abbrev calling : Sketch
calling = group (begin (w "f") & group (begin (w "return-from") & w "b" & number (codes "5")))

abbrev behind_definition : List ℕ
behind_definition = codes "\n(f (return-from b 5))"

abbrev the_definition : Item
the_definition = datum_of (number_in names) (at 1 1) definition

abbrev the_call : Item
the_call = datum_of (number_in names) (at 2 1) calling

abbrev reads_definition : ReadsNext names no_block_text (at 1 1) the_definition behind_definition
unfolding is_blank is_token digit_value is_float spelled folded number_in
reads_definition = next names (at 1 1) [] definition behind_definition refl refl refl

abbrev reads_call : ReadsNext names behind_definition (at 1 16) the_call []
unfolding is_blank is_token digit_value magnitude is_float spelled folded number_in place_after
reads_call = next names (at 1 16) (10 ∷ []) calling [] refl refl refl

abbrev procedure : Procedure
procedure = record { name = Some (name 43); required = 0 ∷ []; rest = None; body = body (local 0 ∷ []) }

abbrev found_definition : Tables
found_definition = record (opened first) {
  literals = a_symbol (at 1 8) 43 ∷ [];
  procedures = procedure ∷ [];
  functions = a_function 43 0 ∷ [];
  variables = 1;
}

abbrev tables_behind : Tables
tables_behind = with_main File (literal 0) found_definition

definition_found : ComesByTest names (top File) (opened first) the_definition (stands (record { form = literal 0; tables = found_definition }))
unfolding node derivation number_in folded is_derived table conditional_rows binding_rows case_rows case_using_rows loop_rows place_rows function_rows condition_rows class_rows quotation_rows place_after behind behind_all
definition_found more = refl

call_found : ComesByTest names (top File) (opened tables_behind) the_call (ended (refused (at 2 4) UnknownBlock))
unfolding node derivation number_in folded magnitude digit_value is_derived table conditional_rows binding_rows case_rows case_using_rows loop_rows place_rows function_rows condition_rows class_rows quotation_rows place_after behind behind_all
call_found more = refl

definition_taken : FormTaken names File Run first the_definition behind_definition tables_behind
unfolding size_of
definition_taken = taken names File first the_definition behind_definition (literal 0) found_definition definition_found refl refl

call_refused : FormRefused names File Run tables_behind the_call [] (record { place = at 2 4; reason = UnknownBlock })
call_refused = is_refused names File tables_behind the_call [] (at 2 4) UnknownBlock call_found

pub file_is_refused : FileIsRefused
unfolding spelled place_after reads_definition
file_is_refused = record {
  names = names;
  table = is_table names refl;
  verdict = file_refused first _ (omega arith)
      (record { first = first; is_first = is_first _; judges = at_end first [] _ (no_gap []) })
      (form_taken first no_block_text (at 1 1) the_definition behind_definition tables_behind _ reads_definition definition_taken
      (form_refused tables_behind behind_definition (at 1 16) the_call [] _ reads_call call_refused));
}

-- the file that defines a function of the library

abbrev defining : Sketch
defining = group (begin (w "defun") & w "h" & group (begin (w "x")) & w "x")

abbrev the_defining : Item
the_defining = datum_of (number_in library_names) (at 1 1) defining

reads_defining : ReadsNext library_names library_name_text (at 1 1) the_defining []
unfolding is_blank is_token digit_value is_float spelled folded number_in
reads_defining = next library_names (at 1 1) [] defining [] refl refl refl

defining_found : ComesByTest library_names (top File) (opened behind_library) the_defining (ended (refused (at 1 1) ReservedName))
unfolding node derivation number_in folded is_derived table conditional_rows binding_rows case_rows case_using_rows loop_rows place_rows function_rows condition_rows class_rows quotation_rows place_after behind behind_all
defining_found more = refl

pub file_is_refused_behind_library : FileIsRefusedBehindLibrary
file_is_refused_behind_library = record {
  names = library_names;
  table = library_names_are;
  verdict = file_refused behind_library _ (omega arith) library_taken
      (form_refused behind_library library_name_text (at 1 1) the_defining [] _ reads_defining
      (is_refused library_names File behind_library the_defining [] (at 1 1) ReservedName defining_found));
}
