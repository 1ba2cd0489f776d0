-- The file behind the library is read, judged and run.
use Rattle.std.proofs.Common.{ℕ, List, [], ◌∷◌, codes, take, refl, arith}
use Rattle.base.specs.declared.origin.Origin.TheVariants.{File}
use Rattle.base.specs.Data.{Item}
use Rattle.base.specs.DataMeasures.{size_of}
use Rattle.base.specs.Names.{IsTable}
use Rattle.lang_derived.specs.Derived.{derivation}
use Rattle.lang_derived.specs.Table.{is_derived, table, conditional_rows, binding_rows, case_rows, case_using_rows, loop_rows, place_rows, function_rows, condition_rows, class_rows, quotation_rows}
use Rattle.lang_meaning.specs.Form.{literal}
use Rattle.lang_meaning.specs.Meaning.{meaning, mean, meaning_at}
use Rattle.front_profile.specs.declared.tables.Tables.{Tables}
use Rattle.front_profile.specs.Cuts.{opened}
use Rattle.front_profile.specs.Nodes.{stands}
use Rattle.front_profile.specs.Rows.{node}
use Rattle.front_reader.specs.Characters.{is_blank, is_token, folded, digit_value, place_after}
use Rattle.front_reader.specs.Tokens.{magnitude, is_float}
use Rattle.front_reader.specs.Trees.{spelled, behind, behind_all}
use Rattle.front_reader.specs.Meanings.{number_in}
use Rattle.front_reader.specs.Gaps.{no_gap}
use Rattle.front_reader.specs.Reads.{ReadsNext}
use Rattle.front_scope.specs.Scopes.{top, with_main}
use Rattle.front_files.specs.declared.mode.Mode.TheVariants.{Run}
use Rattle.front_files.specs.Verdicts.{FormTaken, at_end, form_taken, file_accepted}
use Rattle.lang_worked.specs.FileParts.{at}
use Rattle.lang_worked.specs.FileLibrary.{library_names, calling_text, calling_literals, calling_procedures, calling_functions, calling_sites, last_call, calling_program, FileBehindLibrary}
use Rattle.lang_worked.proofs.NameTables.{is_table}
use Rattle.lang_worked.proofs.Sketches.{Sketch, w, letter, group, begin, ◌&◌, lined, datum_of, next}
use Rattle.lang_worked.proofs.Taking.{ComesByTest, taken}
use Rattle.lang_worked.proofs.FileProgram.{handler, calling}
use Rattle.lang_worked.proofs.FileLibrary.{behind_library, library_taken}

-- what is written

abbrev protected : Sketch
protected = group (lined 4 (begin (w "unwind-protect") & group (begin (w "g") & w "x")) (group (begin (w "h") & letter 120)))

abbrev handling : Sketch
handling = group (lined 3 (begin (w "with-handler") & handler) protected)

abbrev blocked : Sketch
blocked = group (lined 2 (begin (w "block") & w "b") handling)

abbrev definition : Sketch
definition = group (lined 1 (begin (w "defun") & w "f" & group (begin (w "x"))) blocked)

-- what is read

abbrev behind_definition : List ℕ
behind_definition = codes "\n(f 5)"

abbrev the_definition : Item
the_definition = datum_of (number_in library_names) (at 1 1) definition

abbrev the_call : Item
the_call = datum_of (number_in library_names) (at 6 1) calling

abbrev reads_definition : ReadsNext library_names calling_text (at 1 1) the_definition behind_definition
unfolding is_blank is_token digit_value magnitude is_float spelled folded number_in
reads_definition = next library_names (at 1 1) [] definition behind_definition refl refl refl

abbrev reads_call : ReadsNext library_names behind_definition (at 5 16) the_call []
unfolding is_blank is_token digit_value magnitude is_float spelled folded number_in place_after
reads_call = next library_names (at 5 16) (10 ∷ []) calling [] refl refl refl

-- what it comes to

abbrev found_definition : Tables
found_definition = record (opened behind_library) {
  literals = take 2 calling_literals;
  procedures = calling_procedures;
  functions = calling_functions;
  sites = calling_sites;
  variables = 4;
  exits = 1;
}

abbrev tables_behind : Tables
tables_behind = with_main File (literal 0) found_definition

abbrev found_call : Tables
found_call = record (opened tables_behind) { literals = calling_literals; sites = calling_program.sites }

definition_found : ComesByTest library_names (top File) (opened behind_library) the_definition (stands (record { form = literal 0; tables = found_definition }))
unfolding node derivation number_in folded is_derived table conditional_rows binding_rows case_rows case_using_rows loop_rows place_rows function_rows condition_rows class_rows quotation_rows place_after behind behind_all
definition_found more = refl

call_found : ComesByTest library_names (top File) (opened tables_behind) the_call (stands (record { form = last_call; tables = found_call }))
unfolding node derivation number_in folded magnitude digit_value is_derived table conditional_rows binding_rows case_rows case_using_rows loop_rows place_rows function_rows condition_rows class_rows quotation_rows place_after behind behind_all
call_found more = refl

definition_taken : FormTaken library_names File Run behind_library the_definition behind_definition tables_behind
unfolding size_of
definition_taken = taken library_names File behind_library the_definition behind_definition (literal 0) found_definition definition_found refl refl

call_taken : FormTaken library_names File Run tables_behind the_call [] (with_main File last_call found_call)
unfolding size_of
call_taken = taken library_names File tables_behind the_call [] last_call found_call call_found refl refl

-- and all together

pub library_names_are : IsTable library_names
library_names_are = is_table library_names refl

pub file_behind_library : FileBehindLibrary
unfolding meaning mean meaning_at spelled place_after reads_definition
file_behind_library = record {
  accepted = record {
    table = library_names_are;
    verdict = file_accepted behind_library (with_main File last_call found_call) (omega arith) library_taken
        (form_taken behind_library calling_text (at 1 1) the_definition behind_definition tables_behind _ reads_definition definition_taken
        (form_taken tables_behind behind_definition (at 5 16) the_call [] (with_main File last_call found_call) _ reads_call call_taken
        (at_end _ [] _ (no_gap []))));
  };
  ends = refl;
  prints = refl;
}
