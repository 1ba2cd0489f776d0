-- A whole program: what is made of its rows is the program made flat, and what the laws say of it.
use Rattle.std.proofs.Common.{◌≡◌, List, [], ◌++◌, sym, ap, subst, ◌∙◌, length, Result, Ok, Err}
use Rattle.std.specs.Prelude.{IfOk}
use Rattle.base.specs.declared.faults.NoMemory.{NoMemory}
use Rattle.lang_meaning.specs.Form.{Form}
use Rattle.lang_meaning.specs.declared.program.Procedure.{Procedure}
use Rattle.lang_meaning.specs.declared.program.ProgramRows.{ProgramRows}
use Rattle.flat_language.specs.declared.program.FlatProcedure.{FlatProcedure}
use Rattle.flat_language.specs.declared.program.FlatProgram.{FlatProgram}
use Rattle.flat_language.specs.Flatten.{flat_program, flat_procedures, flat_mains, inner_of_procedures, inner_of_mains, functions_of_procedures}
use Rattle.flat_language.specs.FlatForm.{FlatForm}
use Rattle.flat_conversion.specs.declared.progress.Progress.{Progress}
use Rattle.flat_conversion.specs.declared.variables.Binder.{Binder}
use Rattle.flat_conversion.specs.Binders.{binders_of_procedures, binders_of_mains}
use Rattle.flat_conversion.specs.Bodies.{AreBodies, MakesProcedures, MakesMains}
use Rattle.flat_conversion.proofs.Going.{inner_counted}

-- the functions of procedures, where nothing was there before
pub first_functions : (ps : List Procedure) (none after : List FlatProcedure) → none ≡ [] → after ≡ none ++ inner_of_procedures (length none) ps → after ≡ inner_of_procedures 0 ps
first_functions ps none after e h = h ∙ ap (λ ys. ys ++ inner_of_procedures (length ys) ps) e

pub first_count : (ps : List Procedure) (none after : List FlatProcedure) → none ≡ [] → after ≡ none ++ inner_of_procedures (length none) ps → length after ≡ functions_of_procedures ps
first_count ps none after e h = ap length (first_functions ps none after e h) ∙ inner_counted 0 ps

pub all_functions : (ps : List Procedure) (fs : List Form) (none after all : List FlatProcedure) → none ≡ [] → after ≡ none ++ inner_of_procedures (length none) ps
    → all ≡ after ++ inner_of_mains (length after) fs → all ≡ inner_of_procedures 0 ps ++ inner_of_mains (functions_of_procedures ps) fs
all_functions ps fs none after all e h g =
    g
    ∙ ap (λ n. after ++ inner_of_mains n fs) (first_count ps none after e h)
    ∙ ap (λ ys. ys ++ inner_of_mains (functions_of_procedures ps) fs) (first_functions ps none after e h)

pub same_program : (rows : ProgramRows) (p : FlatProgram) → p.literals ≡ rows.literals → p.procedures ≡ flat_procedures 0 rows.procedures
    → p.lambdas ≡ inner_of_procedures 0 rows.procedures ++ inner_of_mains (functions_of_procedures rows.procedures) rows.main
    → p.classes ≡ rows.classes → p.generics ≡ rows.generics → p.functions ≡ rows.functions
    → p.main ≡ flat_mains (functions_of_procedures rows.procedures) rows.main → p.sites ≡ rows.sites → p ≡ flat_program rows
same_program rows p literals procedures lambdas classes generics functions main sites =
    let q : FlatProgram = flat_program rows in
    ap (λ x. let r : FlatProgram = record p { literals = x } in r) literals
    ∙ ap (λ x. let r : FlatProgram = record p { literals = q.literals; procedures = x } in r) procedures
    ∙ ap (λ x. let r : FlatProgram = record p { literals = q.literals; procedures = q.procedures; lambdas = x } in r) lambdas
    ∙ ap (λ x. let r : FlatProgram = record q { classes = x; generics = p.generics; functions = p.functions; main = p.main; sites = p.sites } in r) classes
    ∙ ap (λ x. let r : FlatProgram = record q { generics = x; functions = p.functions; main = p.main; sites = p.sites } in r) generics
    ∙ ap (λ x. let r : FlatProgram = record q { functions = x; main = p.main; sites = p.sites } in r) functions
    ∙ ap (λ x. let r : FlatProgram = record q { main = x; sites = p.sites } in r) main
    ∙ ap (λ x. let r : FlatProgram = record q { sites = x } in r) sites

-- what holds of the program made flat holds of what was made
pub so_holds : (P : FlatProgram → Type 0) (q : FlatProgram) → P q → (r : Result FlatProgram NoMemory) → IfOk r (λ p. p ≡ q) → IfOk r P
so_holds P q h (Ok p) e = subst P (sym e) h
so_holds P q h (Err x) e = tt

pub of_rows : (r : Result FlatProgram NoMemory) (rows other : ProgramRows) → rows ≡ other → IfOk r (λ p. p ≡ flat_program rows) → IfOk r (λ p. p ≡ flat_program other)
of_rows r rows other e h = subst (λ x. IfOk r (λ p. p ≡ flat_program x)) e h

-- all bodies: the procedures take the first binders, and the main forms those behind
pub bodies_made : (rows : ProgramRows) (table : List Binder) (none : List FlatProcedure) (between after : Progress) (procedures : List FlatProcedure) (main : List FlatForm)
    → none ≡ [] → table ≡ binders_of_procedures rows.procedures (binders_of_mains rows.main [])
    → MakesProcedures rows.procedures table (record { lambdas = none; binders = 0 }) between procedures → MakesMains rows.main table between after main
    → AreBodies rows (record { procedures = procedures; lambdas = after.lambdas; main = main })
bodies_made rows table none between after procedures main e first made more =
    let a = made (binders_of_mains rows.main []) first in
    let b = more [] a.left_so in
    record {
      procedures = a.made_so ∙ ap (λ (l : List FlatProcedure). flat_procedures (length l) rows.procedures) e;
      lambdas = all_functions rows.procedures rows.main none between.lambdas after.lambdas e a.inside_so b.inside_so;
      main = b.made_so ∙ ap (λ n. flat_mains n rows.main) (first_count rows.procedures none between.lambdas e a.inside_so);
    }
