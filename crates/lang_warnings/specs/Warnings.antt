-- **What a program is warned of**: each form of a file that is at fault, at its place, in the order of places. Forms of the library have no
-- place, and are not told of.
use Rattle.std.specs.Prelude.{ℕ, ◌+◌, ◌*◌, List, ◌++◌, Option, Some, None, flat_map, filter_map}
use Rattle.std.specs.List.Sorted.{IsPermutation, IsNonDecreasingBy}
use Rattle.base.specs.declared.place.Place.{Place}
use Rattle.lang_meaning.specs.Form.{Form, sited}
use Rattle.lang_meaning.specs.Inside.{inside_form}
use Rattle.lang_meaning.specs.Meaning.{place_of_site}
use Rattle.lang_meaning.specs.declared.program.Procedure.{Procedure}
use Rattle.lang_meaning.specs.declared.program.ProgramRows.{ProgramRows}
use Rattle.lang_warnings.specs.Faults.{Found, fault_of}
use Rattle.lang_warnings.specs.declared.warning.Warning.{Warning}

-- a place as a number: lines first, and columns in a line
abbrev pub place_number : Place → ℕ
place_number p = p.line * 4294967296 + p.column

abbrev pub warned_at : Place → Option Found → Option Warning
warned_at p None = None
warned_at p (Some found) = Some (record { place = p; name = found.0; fault = found.1 })

module _ (names : List (List ℕ)) (program : ProgramRows) where
  -- of a form at its site
  abbrev pub warning_of : Form → Option Warning
  warning_of (sited site f) = warned_at (place_of_site program.sites site) (fault_of names program f)
  warning_of f = None

  -- of a form and all forms inside it
  abbrev pub warnings_in : Form → List Warning
  warnings_in f = filter_map warning_of (inside_form f)

  -- of the forms of a program: of its main forms, and of the bodies of its procedures
  abbrev pub all_warnings : List Warning
  all_warnings = flat_map warnings_in program.main ++ flat_map (λ (p : Procedure). warnings_in p.body) program.procedures

  -- these are they, in the order of their places
  pub record AreWarnings (list : List Warning) : Type 0 where
    pub same : IsPermutation all_warnings list
    pub rising : IsNonDecreasingBy (λ (w : Warning). place_number w.place) list
