-- Tables that grow: twice, not at all, by what is added to their lists, and by what counts once a form is made.
use Rattle.std.proofs.Common.{◌≡◌, ◌≤◌, ◌+◌, ℕ, Bool, true, false, List, [], ◌∷◌, ◌++◌, Option, Some, None, take, length, refl, ap, ◌∙◌, arith}
use Rattle.std.specs.Prelude.{zero, suc}
use Rattle.std.proofs.lemmas.List.{length-take, take-append-le}
use Rattle.std.proofs.Math.Seq.{take-length}
use Rattle.base.specs.declared.place.Place.{Place}
use Rattle.base.specs.declared.datum.Name.{Name}
use Rattle.base.specs.declared.datum.Symbol.{Symbol}
use Rattle.lang_meaning.specs.declared.program.LiteralRow.{LiteralRow}
use Rattle.lang_meaning.specs.declared.program.FunctionRow.{FunctionRow}
use Rattle.lang_meaning.specs.declared.program.Callee.{Callee}
use Rattle.lang_meaning.specs.declared.program.Callee.TheVariants as callee
use Rattle.lang_meaning.specs.declared.program.ClassRow.{ClassRow}
use Rattle.lang_meaning.specs.declared.program.SlotRow.{SlotRow}
use Rattle.lang_meaning.specs.declared.program.GenericRow.{GenericRow}
use Rattle.lang_meaning.specs.declared.program.MethodRow.{MethodRow}
use Rattle.lang_classes.specs.Given.{given}
use Rattle.lang_classes.specs.InheritedClasses.{Hierarchy, GivenSlot, with_class}
use Rattle.lang_dispatch.specs.Methods.{new_row, with_method}
use Rattle.lang_meaning.specs.declared.program.Procedure.{Procedure}
use Rattle.front_profile.specs.declared.tables.Tables.{Tables}
use Rattle.front_profile.specs.declared.tables.GlobalRow.{GlobalRow}
use Rattle.front_profile.specs.declared.tables.DynamicRow.{DynamicRow}
use Rattle.front_profile.specs.declared.tables.MacroRow.{MacroRow}
use Rattle.front_profile.specs.declared.elaboration.ElaboratedPart.{ElaboratedPart}
use Rattle.front_profile.specs.declared.elaboration.One.{One}
use Rattle.front_profile.specs.declared.elaboration.DefinedAs.{DefinedAs}
use Rattle.front_profile.specs.declared.elaboration.DefinedAs.TheVariants.{Function, Macro}
use Rattle.front_profile.specs.declared.elaboration.Elaboration.{Elaboration}
use Rattle.front_profile.specs.declared.elaboration.Elaboration.TheVariants.{OfOne, OfFunctionNamed, OfProcedure, OfAccessor, OfMethods, OfClass}
use Rattle.front_profile.specs.declared.elaboration.One.TheVariants.{DefineGlobal, DefineDynamic}
use Rattle.front_profile.specs.declared.elaboration.Accessor.{Accessor}
use Rattle.front_profile.specs.declared.elaboration.MethodHead.{MethodHead}
use Rattle.front_profile.specs.declared.elaboration.Taker.{Taker}
use Rattle.front_profile.specs.declared.elaboration.Taker.TheVariants.{New, There}
use Rattle.front_profile.specs.declared.elaboration.SlotFunction.{SlotFunction}
use Rattle.front_profile.specs.declared.elaboration.SlotFunction.TheVariants.{Initform, Method}
use Rattle.front_profile.specs.declared.elaboration.NewClass.{NewClass}
use Rattle.front_profile.specs.Elaborations.{with_procedure, with_callee, with_macro, with_name_of, procedure_found, accessor_procedure, with_generic, with_method_at, with_methods, finish_methods, generic_named, arguments_of, accessor_head, with_accessor_in, with_slot_function, with_slot_functions, with_new_class, finish_one, finish}
use Rattle.front_profile.specs.Marks.{StandsFirst, HasMore, AreThere, TablesGrow}

pub first_then : {X : Type 0} (xs ys zs : List X) → StandsFirst xs ys → StandsFirst ys zs → StandsFirst xs zs
first_then [] ys zs h k = refl
first_then (x ∷ xs) [] zs h k = absurd (cc h)
first_then (x ∷ xs) (y ∷ ys) [] h k = absurd (cc k)
first_then (x ∷ xs) (y ∷ ys) (z ∷ zs) h k =
    let a : y ≡ x = cc h in
    let b : take (length xs) ys ≡ xs = cc h in
    let c : z ≡ y = cc k in
    let d : take (length ys) zs ≡ ys = cc k in
    let e : take (length xs) zs ≡ xs = first_then xs ys zs b d in
    cc

-- generic functions that are there, with more methods

more_then : (g h k : GenericRow) → HasMore g h → HasMore h k → HasMore g k
more_then g h k a b =
    (b.0 ∙ a.0, b.1 ∙ a.1, b.2 ∙ a.2, first_then g.methods h.methods k.methods a.3 b.3)

there_then : (gs hs ks : List GenericRow) → AreThere gs hs → AreThere hs ks → AreThere gs ks
there_then [] hs ks a b = tt
there_then (g ∷ gs) [] ks a b = absurd a
there_then (g ∷ gs) (h ∷ hs) [] a b = absurd b
there_then (g ∷ gs) (h ∷ hs) (k ∷ ks) a b = (more_then g h k a.0 b.0, there_then gs hs ks a.1 b.1)

-- the same generic functions
pub there_same : (gs : List GenericRow) → AreThere gs gs
there_same [] = tt
there_same (g ∷ gs) = ((refl, refl, refl, take-length g.methods), there_same gs)

there_with : (gs hs more : List GenericRow) → AreThere gs hs → AreThere gs (hs ++ more)
there_with [] hs more a = tt
there_with (g ∷ gs) [] more a = absurd a
there_with (g ∷ gs) (h ∷ hs) more a = (a.0, there_with gs hs more a.1)

pub tables_grow_transitive : (s t u : Tables) → TablesGrow s t → TablesGrow t u → TablesGrow s u
tables_grow_transitive s t u g h = record {
  words = h.words ∙ g.words;
  classes = first_then _ _ _ g.classes h.classes;
  slots = first_then _ _ _ g.slots h.slots;
  generics = there_then _ _ _ g.generics h.generics;
  literals = first_then _ _ _ g.literals h.literals;
  procedures = first_then _ _ _ g.procedures h.procedures;
  functions = first_then _ _ _ g.functions h.functions;
  macros = first_then _ _ _ g.macros h.macros;
  prelude = first_then _ _ _ g.prelude h.prelude;
  globals = first_then _ _ _ g.globals h.globals;
  set = first_then _ _ _ g.set h.set;
  dynamics = first_then _ _ _ g.dynamics h.dynamics;
  sites = first_then _ _ _ g.sites h.sites;
  fresh = first_then _ _ _ g.fresh h.fresh;
  main = first_then _ _ _ g.main h.main;
  variables = omega (arith, g.variables, h.variables);
  exits = omega (arith, g.exits, h.exits);
  expansions = omega (arith, g.expansions, h.expansions);
  before = h.before ∙ g.before;
}

pub tables_grow_reflexive : (t : Tables) → TablesGrow t t
tables_grow_reflexive t = record {
  words = refl;
  classes = take-length t.classes.rows;
  slots = take-length t.classes.own;
  generics = there_same t.generics;
  literals = take-length t.literals;
  procedures = take-length t.procedures;
  functions = take-length t.functions;
  macros = take-length t.macros;
  prelude = take-length t.prelude;
  globals = take-length t.globals;
  set = take-length t.set;
  dynamics = take-length t.dynamics;
  sites = take-length t.sites;
  fresh = take-length t.fresh;
  main = take-length t.main;
  variables = omega arith;
  exits = omega arith;
  expansions = omega arith;
  before = refl;
}

-- a list that stands in front still does where the other grows at its end

fits : {X : Type 0} (xs ys : List X) → StandsFirst xs ys → length xs ≤ length ys
fits xs ys h = omega (arith, ap length h, length-take (length xs) ys)

pub grows_at_end : {X : Type 0} (xs ys zs : List X) → StandsFirst xs ys → StandsFirst xs (ys ++ zs)
grows_at_end xs ys zs h = take-append-le (length xs) ys zs (fits xs ys h) ∙ h

-- what is added to the lists of tables at their ends, for each either nothing or these
pub record Added : Type 0 where
  pub literals : Option (List LiteralRow)
  pub procedures : Option (List Procedure)
  pub functions : Option (List FunctionRow)
  pub macros : Option (List MacroRow)
  pub prelude : Option (List Name)
  pub globals : Option (List GlobalRow)
  pub set : Option (List Name)
  pub dynamics : Option (List DynamicRow)
  pub sites : Option (List Place)
  pub fresh : Option (List Symbol)

abbrev pub nothing_added : Added
nothing_added = record { literals = None; procedures = None; functions = None; macros = None; prelude = None; globals = None; set = None; dynamics = None; sites = None; fresh = None }

abbrev pub with_these : {X : Type 0} → List X → Option (List X) → List X
with_these xs None = xs
with_these xs (Some more) = xs ++ more

-- the tables with these things more, and with these numbers for the next variable and the next exit
abbrev pub with_added : Added → ℕ → ℕ → Tables → Tables
with_added a variables exits t = record t {
  literals = with_these t.literals a.literals;
  procedures = with_these t.procedures a.procedures;
  functions = with_these t.functions a.functions;
  macros = with_these t.macros a.macros;
  prelude = with_these t.prelude a.prelude;
  globals = with_these t.globals a.globals;
  set = with_these t.set a.set;
  dynamics = with_these t.dynamics a.dynamics;
  sites = with_these t.sites a.sites;
  fresh = with_these t.fresh a.fresh;
  variables = variables;
  exits = exits;
}

first_with : {X : Type 0} (xs ys : List X) (more : Option (List X)) → StandsFirst xs ys → StandsFirst xs (with_these ys more)
first_with xs ys None h = h
first_with xs ys (Some more) h = grows_at_end xs ys more h

-- tables that grow still do with more at the ends of their lists, and with greater numbers
pub grows_with : (s t : Tables) (a : Added) (variables exits : ℕ) → t.variables ≤ variables → t.exits ≤ exits → TablesGrow s t
    → TablesGrow s (with_added a variables exits t)
grows_with s t a variables exits v e g = record {
  words = g.words;
  classes = g.classes;
  slots = g.slots;
  generics = g.generics;
  literals = first_with s.literals t.literals a.literals g.literals;
  procedures = first_with s.procedures t.procedures a.procedures g.procedures;
  functions = first_with s.functions t.functions a.functions g.functions;
  macros = first_with s.macros t.macros a.macros g.macros;
  prelude = first_with s.prelude t.prelude a.prelude g.prelude;
  globals = first_with s.globals t.globals a.globals g.globals;
  set = first_with s.set t.set a.set g.set;
  dynamics = first_with s.dynamics t.dynamics a.dynamics g.dynamics;
  sites = first_with s.sites t.sites a.sites g.sites;
  fresh = first_with s.fresh t.fresh a.fresh g.fresh;
  main = g.main;
  variables = omega (arith, g.variables, v);
  exits = omega (arith, g.exits, e);
  expansions = g.expansions;
  before = g.before;
}

pub grows_by : (s t : Tables) (a : Added) → TablesGrow s t → TablesGrow s (with_added a t.variables t.exits t)
grows_by s t a g = grows_with s t a t.variables t.exits (omega arith) (omega arith) g

with_procedure_grows : (mark s : Tables) (p : Procedure) → TablesGrow mark s → TablesGrow mark (with_procedure p s)
with_procedure_grows mark s p g = grows_by mark s (record nothing_added { procedures = Some (p ∷ []) }) g

with_callee_grows : (mark s : Tables) (name : Name) (c : Callee) (of_file : Bool) → TablesGrow mark s → TablesGrow mark (with_callee name c of_file s)
with_callee_grows mark s name c true g =
    grows_by mark s (record nothing_added { functions = Some ((record { name = name; callee = c }) ∷ []) }) g
with_callee_grows mark s name c false g =
    grows_by mark s (record nothing_added { functions = Some ((record { name = name; callee = c }) ∷ []); prelude = Some (name ∷ []) }) g

with_macro_grows : (mark s : Tables) (m : MacroRow) (of_file : Bool) → TablesGrow mark s → TablesGrow mark (with_macro m of_file s)
with_macro_grows mark s m true g = grows_by mark s (record nothing_added { macros = Some (m ∷ []) }) g
with_macro_grows mark s m false g = grows_by mark s (record nothing_added { macros = Some (m ∷ []); prelude = Some (m.name ∷ []) }) g

with_name_grows : (mark s : Tables) (k : DefinedAs) (name : Name) (i : ℕ) (of_file : Bool) → TablesGrow mark s → TablesGrow mark (with_name_of k name i of_file s)
with_name_grows mark s Function name i of_file g = with_callee_grows mark s name (callee.Procedure i) of_file g
with_name_grows mark s Macro name i of_file g = with_macro_grows mark s (record { name = name; procedure = i }) of_file g

-- what is changed of classes and generic functions

grows_in : (mark s : Tables) (h : Hierarchy) (n : ℕ) (gs : List GenericRow) → TablesGrow mark s → StandsFirst mark.classes.rows h.rows → StandsFirst mark.classes.own h.own
    → AreThere mark.generics gs → TablesGrow mark (record s { classes = h; prelude_classes = n; generics = gs })
grows_in mark s h n gs g rows own there = record {
  words = g.words;
  classes = rows;
  slots = own;
  generics = there;
  literals = g.literals;
  procedures = g.procedures;
  functions = g.functions;
  macros = g.macros;
  prelude = g.prelude;
  globals = g.globals;
  set = g.set;
  dynamics = g.dynamics;
  sites = g.sites;
  fresh = g.fresh;
  main = g.main;
  variables = g.variables;
  exits = g.exits;
  expansions = g.expansions;
  before = g.before;
}

grows_generics : (mark s : Tables) (gs : List GenericRow) → TablesGrow mark s → AreThere mark.generics gs → TablesGrow mark (record s { generics = gs })
grows_generics mark s gs g there = grows_in mark s s.classes s.prelude_classes gs g g.classes g.slots there

pub with_generic_grows : (mark s : Tables) (n : Name) (required : ℕ) (rest of_file : Bool) → TablesGrow mark s → TablesGrow mark (with_generic n required rest of_file s)
with_generic_grows mark s n required rest of_file g =
    with_callee_grows mark _ n (callee.Generic (length s.generics)) of_file
    (grows_generics mark s (s.generics ++ new_row n required rest ∷ []) g (there_with mark.generics s.generics _ g.generics))

method_more : (g h : GenericRow) (m : MethodRow) → HasMore g h → HasMore g (record h { methods = h.methods ++ m ∷ [] })
method_more g h m a = (a.0, a.1, a.2, grows_at_end g.methods h.methods (m ∷ []) a.3)

method_there : (gs hs : List GenericRow) (i : ℕ) (m : MethodRow) → AreThere gs hs → AreThere gs (with_method hs i m)
method_there [] hs i m a = tt
method_there (g ∷ gs) [] i m a = absurd a
method_there (g ∷ gs) (h ∷ hs) zero m a = (method_more g h m a.0, a.1)
method_there (g ∷ gs) (h ∷ hs) (suc i) m a = (a.0, method_there gs hs i m a.1)

pub with_method_grows : (mark s : Tables) (i : ℕ) (h : MethodHead) (p : ℕ) → TablesGrow mark s → TablesGrow mark (with_method_at i h p s)
with_method_grows mark s i h p g = grows_generics mark s _ g (method_there mark.generics s.generics i _ g.generics)

with_methods_grows : (mark s : Tables) (i : ℕ) (hs : List MethodHead) (p : ℕ) → TablesGrow mark s → TablesGrow mark (with_methods i hs p s)
with_methods_grows mark s i [] p g = g
with_methods_grows mark s i (h ∷ hs) p g =
    with_methods_grows mark (with_method_at i h p s) i hs (p + 1) (with_method_grows mark s i h p g)

methods_grow : (mark s : Tables) (t : Taker) (hs : List MethodHead) (p : ℕ) (of_file : Bool) → TablesGrow mark s → TablesGrow mark (finish_methods t hs p of_file s)
methods_grow mark s (New n required rest) hs p of_file g =
    with_methods_grows mark _ (length s.generics) hs p (with_generic_grows mark s n required rest of_file g)
methods_grow mark s (There i) hs p of_file g = with_methods_grows mark s i hs p g

accessor_grows : (mark s : Tables) (i : Option ℕ) (n : Name) (k : Accessor) (c p : ℕ) (of_file : Bool) → TablesGrow mark s → TablesGrow mark (with_accessor_in i n k c p of_file s)
accessor_grows mark s (Some i) n k c p of_file g = with_method_grows mark s i (accessor_head k c) p g
accessor_grows mark s None n k c p of_file g =
    with_method_grows mark _ (length s.generics) (accessor_head k c) p (with_generic_grows mark s n (arguments_of k) false of_file g)

pub slot_function_grows : (mark s : Tables) (x : SlotFunction) (c p : ℕ) (of_file : Bool) → TablesGrow mark s → TablesGrow mark (with_slot_function x c p of_file s)
slot_function_grows mark s Initform c p of_file g = g
slot_function_grows mark s (Method n k) c p of_file g = accessor_grows mark s (generic_named s.generics n) n k c p of_file g

slot_functions_grow : (mark s : Tables) (xs : List SlotFunction) (c p : ℕ) (of_file : Bool) → TablesGrow mark s → TablesGrow mark (with_slot_functions xs c p of_file s)
slot_functions_grow mark s [] c p of_file g = g
slot_functions_grow mark s (x ∷ xs) c p of_file g =
    slot_functions_grow mark (with_slot_function x c p of_file s) xs c (p + 1) of_file (slot_function_grows mark s x c p of_file g)

rows_with : (xs : List ClassRow) (h : Hierarchy) (name : Name) (supers : List ℕ) (slots : List GivenSlot) (a : Bool) → StandsFirst xs h.rows
    → StandsFirst xs (with_class h name supers slots a).rows
unfolding with_class
rows_with xs h name supers slots a e = grows_at_end xs h.rows _ e

own_with : (xs : List (List SlotRow)) (h : Hierarchy) (name : Name) (supers : List ℕ) (slots : List GivenSlot) (a : Bool) → StandsFirst xs h.own
    → StandsFirst xs (with_class h name supers slots a).own
unfolding with_class
own_with xs h name supers slots a e = grows_at_end xs h.own _ e

pub class_grows : (mark s : Tables) (c : NewClass) (of_file : Bool) → TablesGrow mark s → TablesGrow mark (with_new_class c of_file s)
class_grows mark s c of_file g =
    grows_in mark s (with_class s.classes c.name c.supers (given c.slots) c.abstract_class) _ s.generics g
    (rows_with mark.classes.rows s.classes c.name c.supers (given c.slots) c.abstract_class g.classes)
    (own_with mark.classes.own s.classes c.name c.supers (given c.slots) c.abstract_class g.slots) g.generics

finish_one_grows : (mark s : Tables) (k : One) → TablesGrow mark s → TablesGrow mark (finish_one k s)
finish_one_grows mark s (DefineGlobal row) g = grows_by mark s (record nothing_added { globals = Some (row ∷ []) }) g
finish_one_grows mark s (DefineDynamic row) g = grows_by mark s (record nothing_added { dynamics = Some (row ∷ []) }) g
finish_one_grows mark s k g = g

-- what counts once a form is made
pub finish_grows : (mark s : Tables) (m : Elaboration) (rs : List ElaboratedPart) → TablesGrow mark s → TablesGrow mark (finish m rs s)
finish_grows mark s (OfOne k) rs g = finish_one_grows mark s k g
finish_grows mark s (OfFunctionNamed k name n rest of_file l) rs g =
    with_name_grows mark _ k name (length s.procedures) of_file (with_procedure_grows mark s (procedure_found (Some name) n rest rs) g)
finish_grows mark s (OfProcedure name n rest) rs g = with_procedure_grows mark s (procedure_found name n rest rs) g
finish_grows mark s (OfAccessor name k v l) rs g = with_procedure_grows mark s (accessor_procedure name k v l) g
finish_grows mark s (OfMethods t hs p of_file l) rs g = methods_grow mark s t hs p of_file g
finish_grows mark s (OfClass c p of_file l) rs g =
    slot_functions_grow mark _ c.functions (length s.classes.rows) p of_file (class_grows mark s c of_file g)
finish_grows mark s m rs g = g
