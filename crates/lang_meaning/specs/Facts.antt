-- What a program has to be (ISO/IEC 13816:2007, 11, 12 and 15): data in form, ids in range, arguments as many as they are
-- taken, names bound where they stand, captured parts as they are, and sizes within the limits of this profile.
use Rattle.std.specs.Prelude.{ℕ, ◌+◌, ◌==◌, Bool, true, false, not, ◌&&◌, ◌||◌, nat_le, nat_lt, List, [], ◌∷◌, Option, Some, None, length, slice_get, is_some, if◌then◌else◌}
use Rattle.std.specs.Str.{bytes_eq}
use Rattle.std.specs.List.{list_all, list_any}
use Rattle.base.specs.declared.datum.Name.{Name}
use Rattle.base.specs.DataFormed.{is_formed}
use Rattle.lang_meaning.specs.declared.program.LiteralRow.{LiteralRow}
use Rattle.lang_meaning.specs.declared.program.LiteralRow.TheVariants as row
use Rattle.lang_meaning.specs.declared.program.Procedure.{Procedure}
use Rattle.lang_meaning.specs.declared.program.ClassRow.{ClassRow}
use Rattle.lang_meaning.specs.declared.program.SlotRow.{SlotRow}
use Rattle.lang_meaning.specs.declared.program.GenericRow.{GenericRow}
use Rattle.lang_meaning.specs.declared.program.MethodRow.{MethodRow}
use Rattle.lang_meaning.specs.declared.program.FunctionRow.{FunctionRow}
use Rattle.lang_meaning.specs.declared.program.Callee.{Callee}
use Rattle.lang_meaning.specs.declared.program.Callee.TheVariants as callee
use Rattle.lang_meaning.specs.declared.program.Qualifier.{Qualifier}
use Rattle.lang_meaning.specs.declared.program.Qualifier.TheVariants.{Primary, Before, After}
use Rattle.lang_meaning.specs.declared.program.Qualifier.TheVariants as qualifier
use Rattle.lang_meaning.specs.declared.program.ProgramRows.{ProgramRows}
use Rattle.lang_meaning.specs.Form.{Form}
use Rattle.lang_meaning.specs.BuiltIn.{built_in_precedence, built_in_slots}
use Rattle.lang_meaning.specs.Cells.{program_cells}
use Rattle.lang_meaning.specs.Classes.{is_qualifier}
use Rattle.lang_meaning.specs.Counts.{depth}
use Rattle.lang_meaning.specs.Fits.{fits}
use Rattle.lang_meaning.specs.ProgramCounts.{program_nodes}
use Rattle.lang_meaning.specs.Lookup.{all_differ}
use Rattle.lang_meaning.specs.Standing.{stands_alone, is_alone}

abbrev pub body_fits : ProgramRows → Form → Bool
body_fits rows f = fits rows f && nat_le (depth f) 1000

-- rows

abbrev pub literal_fits : ProgramRows → LiteralRow → Bool
literal_fits rows (row.Datum d) = is_formed d
literal_fits rows (row.Class c) = nat_lt c (length rows.classes)
literal_fits rows (row.Function name) = true

-- the procedure that gives a slot its value stands by itself
abbrev pub initform_fits : ProgramRows → Option ℕ → Bool
initform_fits rows None = true
initform_fits rows (Some p) = is_alone false (slice_get rows.procedures p)

abbrev pub class_fits : ProgramRows → ClassRow → Bool
class_fits rows c =
    list_all (λ d. nat_lt d (length rows.classes)) c.precedence
    && list_all (λ s. initform_fits rows s.initform) c.slots
    && nat_le (length c.slots) 64

-- a slot of a built-in class is its own initarg, and nothing gives it another value
abbrev pub is_one : Name → List Name → Bool
is_one n [] = false
is_one n (m ∷ []) = n.0 == m.0
is_one n (m ∷ k ∷ ms) = false

abbrev pub is_plain_slot : SlotRow → Bool
is_plain_slot s = is_one s.name s.initargs && not (is_some s.initform)

-- a built-in class has that precedence list and so many slots, and is not abstract
abbrev pub is_row : ClassRow → List ℕ → ℕ → Bool
is_row c precedence slots =
    bytes_eq c.precedence precedence && length c.slots == slots && list_all is_plain_slot c.slots && not c.abstract_class

-- the built-in classes come first, names aside
abbrev pub begins_with_built_in : List ClassRow → List (List ℕ) → List ℕ → Bool
begins_with_built_in cs [] ns = true
begins_with_built_in [] (p ∷ ps) ns = false
begins_with_built_in (c ∷ cs) (p ∷ ps) [] = false
begins_with_built_in (c ∷ cs) (p ∷ ps) (n ∷ ns) = is_row c p n && begins_with_built_in cs ps ns

-- a method has one class for each required argument and a congruent procedure
abbrev pub is_congruent : GenericRow → Option Procedure → Bool
is_congruent g None = false
is_congruent g (Some p) =
    length p.required == g.required && (if g.rest then is_some p.rest else not (is_some p.rest))

abbrev pub knows_next : Qualifier → Bool
knows_next Primary = true
knows_next qualifier.Around = true
knows_next Before = false
knows_next After = false

abbrev pub method_fits : ProgramRows → GenericRow → MethodRow → Bool
method_fits rows g m =
    length m.classes == g.required
    && list_all (λ c. nat_lt c (length rows.classes)) m.classes
    && is_congruent g (slice_get rows.procedures m.procedure)
    && is_alone (knows_next m.qualifier) (slice_get rows.procedures m.procedure)

abbrev pub same_method : MethodRow → MethodRow → Bool
same_method m n = is_qualifier m.qualifier n.qualifier && bytes_eq m.classes n.classes

abbrev pub generic_fits : ProgramRows → GenericRow → Bool
generic_fits rows g = list_all (method_fits rows g) g.methods && all_differ same_method g.methods

abbrev pub callee_fits : ProgramRows → Callee → Bool
callee_fits rows (callee.Procedure p) = is_alone false (slice_get rows.procedures p)
callee_fits rows (callee.Generic g) = nat_lt g (length rows.generics)

abbrev pub same_name : FunctionRow → FunctionRow → Bool
same_name f g = f.name.0 == g.name.0

-- each row by itself
abbrev pub rows_fit : ProgramRows → Bool
rows_fit rows =
    begins_with_built_in rows.classes built_in_precedence built_in_slots
    && list_all (literal_fits rows) rows.literals
    && list_all (λ p. body_fits rows p.body) rows.procedures
    && all_differ same_name rows.functions
    && nat_le (length rows.sites) 100000
    && nat_le (program_nodes rows) 100000

-- whether a method has that procedure; so it is judged there
abbrev pub is_of_method : ProgramRows → ℕ → Bool
is_of_method rows i = list_any (λ g. list_any (λ m. i == m.procedure) g.methods) rows.generics

-- whether these procedures, the first of which has the number i, stand by themselves, in no method but those of methods
abbrev pub procedures_stand : ProgramRows → ℕ → List Procedure → Bool
procedures_stand rows i [] = true
procedures_stand rows i (p ∷ ps) = (is_of_method rows i || is_alone false (Some p)) && procedures_stand rows (i + 1) ps

-- and where its bodies stand
abbrev pub bodies_stand : ProgramRows → Bool
bodies_stand rows =
    list_all (class_fits rows) rows.classes
    && list_all (generic_fits rows) rows.generics
    && list_all (λ f. callee_fits rows f.callee) rows.functions
    && list_all (λ f. body_fits rows f && stands_alone false f) rows.main
    && procedures_stand rows 0 rows.procedures

-- all of it
abbrev pub is_whole : ProgramRows → Bool
is_whole rows = rows_fit rows && bodies_stand rows && nat_le (program_cells rows) 262144
