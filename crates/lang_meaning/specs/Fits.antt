-- What each form says of itself (ISO/IEC 13816:2007, 12): rows and sites that are there, as many arguments as are
-- taken, a segment in a `tagbody`, and in each function a body no deeper than this profile's limit.
use Rattle.std.specs.Prelude.{Bool, true, ◌&&◌, nat_eq, nat_le, nat_lt, length}
use Rattle.std.specs.List.{list_all}
use Rattle.lang_meaning.specs.declared.program.ProgramRows.{ProgramRows}
use Rattle.lang_meaning.specs.Form.{Form, literal, lambda, call_value, prim, tagbody, sited}
use Rattle.lang_meaning.specs.Arity.{arity}
use Rattle.lang_meaning.specs.Counts.{count_forms, depth}
use Rattle.lang_meaning.specs.Inside.{inside_form}

abbrev pub fits_itself : ProgramRows → Form → Bool
fits_itself rows (literal i) = nat_lt i (length rows.literals)
fits_itself rows (lambda required rest body parts) = nat_le (depth body) 1000
fits_itself rows (call_value fs) = nat_le 1 (count_forms fs)
fits_itself rows (prim which fs) = nat_eq (count_forms fs) (arity which)
fits_itself rows (tagbody x segments) = nat_le 1 (count_forms segments)
fits_itself rows (sited site f) = nat_le 1 site && nat_le site (length rows.sites)
fits_itself rows f = true

-- a form fits with all forms inside it
abbrev pub fits : ProgramRows → Form → Bool
fits rows f = list_all (fits_itself rows) (inside_form f)
