-- The names that are there for every file, each at its number, and the built-in classes and tables under them (ISO/IEC
-- 13816:2007, 29.3).
use Rattle.std.specs.Prelude.{ℕ, ◌+◌, ◌==◌, false, List, [], ◌∷◌, ◌++◌, None, codes, if◌then◌else◌}
use Rattle.lang_meaning.specs.declared.program.ClassRow.{ClassRow}
use Rattle.lang_meaning.specs.declared.program.SlotRow.{SlotRow}
use Rattle.lang_meaning.specs.BuiltIn.{built_in_precedence, class_texts}
use Rattle.lang_classes.specs.InheritedClasses.{Hierarchy}
use Rattle.front_profile.specs.declared.tables.ReservedWords.{ReservedWords}
use Rattle.front_profile.specs.declared.tables.Tables.{Tables}
use Rattle.front_scope.specs.Scopes.{first_tables}
use Rattle.lang_worked.specs.FileParts.{name}

-- the classes' names are 0 to 33, those of their slots 34 to 38, and the words that no variable has 39 to 41
abbrev pub first_names : List (List ℕ)
first_names =
    class_texts
    ++ (codes "format-string" ∷ codes "format-arguments" ∷ codes "object" ∷ codes "expected-class" ∷ codes "name"
    ∷ codes "t" ∷ codes ":rest" ∷ codes "&rest" ∷ [])

abbrev pub slot : ℕ → SlotRow
slot n = record { name = name n; initargs = name n ∷ []; initform = None }

-- the slots of <simple-error>, of <domain-error>, and of <undefined-entity> with what is below it
abbrev pub own_slots : ℕ → List SlotRow
own_slots c =
    if c == 25 then slot 34 ∷ slot 35 ∷ []
    else if c == 29 then slot 36 ∷ slot 37 ∷ []
    else if c == 30 then slot 38 ∷ []
    else []

abbrev pub all_slots : ℕ → List SlotRow
all_slots c =
    if c == 31 then slot 38 ∷ []
    else if c == 32 then slot 38 ∷ []
    else own_slots c

abbrev pub rows_from : ℕ → List (List ℕ) → List ClassRow
rows_from c [] = []
rows_from c (p ∷ ps) =
    record { name = name c; precedence = p; slots = all_slots c; abstract_class = false } ∷ rows_from (c + 1) ps

abbrev pub own_from : ℕ → List (List ℕ) → List (List SlotRow)
own_from c [] = []
own_from c (p ∷ ps) = own_slots c ∷ own_from (c + 1) ps

abbrev pub class_rows : List ClassRow
class_rows = rows_from 0 built_in_precedence

abbrev pub classes : Hierarchy
classes = record { rows = class_rows; own = own_from 0 built_in_precedence }

abbrev pub words : ReservedWords
words = record { truth = name 39; rest = name 40; and_rest = name 41 }

-- the tables in front of all forms
abbrev pub first : Tables
first = first_tables words classes
