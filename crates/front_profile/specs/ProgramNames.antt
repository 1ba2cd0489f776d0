-- The names that a program has: all of them stand in a table of so many.
use Rattle.std.specs.Prelude.{◌<◌, ℕ, List, [], ◌∷◌, Option, Some, None}
use Rattle.base.specs.AllOf.{AllOf}
use Rattle.base.specs.DataMeasures.{NamesBelow}
use Rattle.base.specs.declared.datum.Name.{Name}
use Rattle.lang_meaning.specs.declared.program.LiteralRow.{LiteralRow}
use Rattle.lang_meaning.specs.declared.program.LiteralRow.TheVariants as row
use Rattle.lang_meaning.specs.declared.program.Procedure.{Procedure}
use Rattle.lang_meaning.specs.declared.program.SlotRow.{SlotRow}
use Rattle.lang_meaning.specs.declared.program.ClassRow.{ClassRow}
use Rattle.lang_meaning.specs.declared.program.GenericRow.{GenericRow}
use Rattle.lang_meaning.specs.declared.program.FunctionRow.{FunctionRow}
use Rattle.lang_meaning.specs.declared.program.ProgramRows.{ProgramRows}
use Rattle.lang_meaning.specs.Form.{Form, global, set_global, def_global, call, dynamic_let, dynamic, set_dynamic, def_dynamic, DynamicForms, no_dynamic, dynamic_and}
use Rattle.lang_meaning.specs.Inside.{inside_form}

-- the names that a form has itself

abbrev pub names_bound : DynamicForms → List ℕ
names_bound no_dynamic = []
names_bound (dynamic_and n f bs) = n ∷ names_bound bs

abbrev pub own_names : Form → List ℕ
own_names (global n) = n ∷ []
own_names (set_global n f) = n ∷ []
own_names (def_global n f) = n ∷ []
own_names (call n fs) = n ∷ []
own_names (dynamic_let bs body) = names_bound bs
own_names (dynamic n) = n ∷ []
own_names (set_dynamic n f) = n ∷ []
own_names (def_dynamic n f) = n ∷ []
own_names f = []

module _ (count : ℕ) where
  abbrev pub NameIn : Name → Type 0
  NameIn n = n.0 < count

  -- a form with all forms inside it
  abbrev pub FormNamesIn : Form → Type 0
  FormNamesIn f = AllOf (λ g. AllOf (λ n. n < count) (own_names g)) (inside_form f)

  abbrev pub LiteralNamesIn : LiteralRow → Type 0
  LiteralNamesIn (row.Datum d) = NamesBelow count d
  LiteralNamesIn (row.Class c) = Unit {0}
  LiteralNamesIn (row.Function name) = NameIn name

  abbrev pub MaybeNameIn : Option Name → Type 0
  MaybeNameIn None = Unit {0}
  MaybeNameIn (Some n) = NameIn n

  pub record ProcedureNamesIn (p : Procedure) : Type 0 where
    pub name : MaybeNameIn p.name
    pub body : FormNamesIn p.body

  pub record SlotNamesIn (s : SlotRow) : Type 0 where
    pub name : NameIn s.name
    pub initargs : AllOf NameIn s.initargs

  pub record ClassNamesIn (c : ClassRow) : Type 0 where
    pub name : NameIn c.name
    pub slots : AllOf SlotNamesIn c.slots

  pub record NamesIn (program : ProgramRows) : Type 0 where
    pub literals : AllOf LiteralNamesIn program.literals
    pub procedures : AllOf ProcedureNamesIn program.procedures
    pub classes : AllOf ClassNamesIn program.classes
    pub generics : AllOf (λ (g : GenericRow). NameIn g.name) program.generics
    pub functions : AllOf (λ (f : FunctionRow). NameIn f.name) program.functions
    pub main : AllOf FormNamesIn program.main
