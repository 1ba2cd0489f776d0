-- The library of two functions is read and judged.
use Rattle.std.proofs.Common.{ℕ, List, [], ◌∷◌, codes, take, refl}
use Rattle.base.specs.declared.origin.Origin.TheVariants.{Prelude}
use Rattle.base.specs.declared.place.Place.{Place}
use Rattle.base.specs.Data.{Item}
use Rattle.base.specs.DataMeasures.{size_of}
use Rattle.lang_derived.specs.Derived.{derivation}
use Rattle.lang_derived.specs.Table.{is_derived, table, conditional_rows, binding_rows, case_rows, case_using_rows, loop_rows, place_rows, function_rows, condition_rows, class_rows, quotation_rows}
use Rattle.lang_meaning.specs.Form.{sequence, no_form}
use Rattle.front_profile.specs.declared.tables.Tables.{Tables}
use Rattle.front_profile.specs.Cuts.{opened}
use Rattle.front_profile.specs.Nodes.{stands}
use Rattle.front_profile.specs.Rows.{node}
use Rattle.front_reader.specs.Characters.{is_blank, is_token, folded, digit_value, place_after}
use Rattle.front_reader.specs.Tokens.{is_float}
use Rattle.front_reader.specs.Trees.{spelled, behind, behind_all}
use Rattle.front_reader.specs.Meanings.{number_in}
use Rattle.front_reader.specs.Gaps.{no_gap}
use Rattle.front_reader.specs.Reads.{ReadsNext}
use Rattle.front_scope.specs.Scopes.{top}
use Rattle.front_files.specs.declared.mode.Mode.TheVariants.{Run}
use Rattle.front_files.specs.Verdicts.{FormTaken, BehindPrelude, all_taken, at_end, form_taken}
use Rattle.lang_worked.specs.FileParts.{at, name}
use Rattle.lang_worked.specs.FileNames.{first}
use Rattle.lang_worked.specs.FileLibrary.{library_text, library_names, library_procedures, library_functions}
use Rattle.lang_worked.proofs.FirstTables.{is_first}
use Rattle.lang_worked.proofs.Sketches.{Sketch, w, group, begin, ◌&◌, datum_of, next}
use Rattle.lang_worked.proofs.Taking.{ComesByTest, taken}

-- what is written

abbrev first_definition : Sketch
first_definition = group (begin (w "defun") & w "g" & group (begin (w "x")) & group (begin (w "car") & w "x"))

abbrev printing : Sketch
printing = group (begin (w "format-char") & group (begin (w "standard-output")) & w "x")

abbrev second_definition : Sketch
second_definition = group (begin (w "defun") & w "h" & group (begin (w "x")) & printing)

-- what is read, without places

abbrev nowhere : Place
nowhere = at 0 0

abbrev behind_first : List ℕ
behind_first = codes "\n(defun h (x) (format-char (standard-output) x))"

abbrev first_datum : Item
first_datum = datum_of (number_in library_names) nowhere first_definition

abbrev second_datum : Item
second_datum = datum_of (number_in library_names) nowhere second_definition

abbrev reads_first : ReadsNext library_names library_text nowhere first_datum behind_first
unfolding is_blank is_token digit_value is_float spelled folded number_in
reads_first = next library_names nowhere [] first_definition behind_first refl refl refl

abbrev reads_second : ReadsNext library_names behind_first nowhere second_datum []
unfolding is_blank is_token digit_value is_float spelled folded number_in place_after
reads_second = next library_names nowhere (10 ∷ []) second_definition [] refl refl refl

-- what it comes to

abbrev found_first : Tables
found_first = record (opened first) {
  procedures = take 1 library_procedures;
  functions = take 1 library_functions;
  prelude = name 43 ∷ [];
  variables = 1;
}

abbrev pub behind_library : Tables
behind_library = record (opened found_first) {
  procedures = library_procedures;
  functions = library_functions;
  prelude = name 43 ∷ name 46 ∷ [];
  variables = 2;
}

first_found : ComesByTest library_names (top Prelude) (opened first) first_datum (stands (record { form = sequence no_form; tables = found_first }))
unfolding node derivation number_in folded is_derived table conditional_rows binding_rows case_rows case_using_rows loop_rows place_rows function_rows condition_rows class_rows quotation_rows place_after behind behind_all
first_found more = refl

second_found : ComesByTest library_names (top Prelude) (opened found_first) second_datum (stands (record { form = sequence no_form; tables = behind_library }))
unfolding node derivation number_in folded is_derived table conditional_rows binding_rows case_rows case_using_rows loop_rows place_rows function_rows condition_rows class_rows quotation_rows place_after behind behind_all
second_found more = refl

first_taken : FormTaken library_names Prelude Run first first_datum behind_first found_first
unfolding size_of
first_taken = taken library_names Prelude first first_datum behind_first (sequence no_form) found_first first_found refl refl

second_taken : FormTaken library_names Prelude Run found_first second_datum [] behind_library
unfolding size_of
second_taken = taken library_names Prelude found_first second_datum [] (sequence no_form) behind_library second_found refl refl

-- and all together
pub library_taken : BehindPrelude library_names library_text (all_taken behind_library)
unfolding spelled place_after reads_first reads_second
library_taken = record {
  first = first;
  is_first = is_first _;
  judges = form_taken first library_text nowhere first_datum behind_first found_first _ reads_first first_taken
      (form_taken found_first behind_first nowhere second_datum [] behind_library _ reads_second second_taken
      (at_end behind_library [] _ (no_gap [])));
}
