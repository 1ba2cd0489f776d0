-- What a form defines once all its parts stood finds its place in the tables: a new name is that of no other, superclasses go together,
-- and generic functions take their methods, one after another (ISO/IEC 13816:2007, 15.1 and 15.3).
use Rattle.std.specs.Prelude.{◌≡◌, ℕ, ◌+◌, ◌<◌, Bool, true, false, List, [], ◌∷◌, Option, Some, None, length, slice_get, All}
use Rattle.base.specs.declared.datum.Name.{Name}
use Rattle.base.specs.declared.place.Place.{Place}
use Rattle.lang_meaning.specs.declared.program.GenericRow.{GenericRow}
use Rattle.lang_meaning.specs.Lookup.{is_in}
use Rattle.lang_classes.specs.Given.{given}
use Rattle.lang_classes.specs.InheritedClasses.{class_named, refusal}
use Rattle.lang_dispatch.specs.Methods.{names_of, takes}
use Rattle.front_profile.specs.declared.tables.Tables.{Tables}
use Rattle.front_profile.specs.declared.elaboration.Accessor.{Accessor}
use Rattle.front_profile.specs.declared.elaboration.MethodHead.{MethodHead}
use Rattle.front_profile.specs.declared.elaboration.Taker.{Taker}
use Rattle.front_profile.specs.declared.elaboration.Taker.TheVariants.{New, There}
use Rattle.front_profile.specs.declared.elaboration.SlotFunction.{SlotFunction}
use Rattle.front_profile.specs.declared.elaboration.SlotFunction.TheVariants.{Initform, Method}
use Rattle.front_profile.specs.declared.elaboration.NewClass.{NewClass}
use Rattle.front_profile.specs.declared.elaboration.Elaboration.{Elaboration}
use Rattle.front_profile.specs.declared.elaboration.Elaboration.TheVariants.{Ready, OfOne, OfTwo, OfBody, InSequence, CallOf, CallOfValue, CallOfLocal, CallOfPrimitive, OfClauses, OfVariables, OfDynamics, OfFunction, OfBlock, OfSegments, OfFunctionNamed, OfProcedure, OfAccessor, OfMethods, OfClass}
use Rattle.front_profile.specs.Elaborations.{with_generic, with_method_at, generic_named, arguments_of, accessor_head, with_slot_function, with_new_class}

-- a generic function takes a method with that head and procedure, and with a rest argument where it has one itself
abbrev pub takes_head : MethodHead → ℕ → Option GenericRow → Bool
takes_head h p None = false
takes_head h p (Some g) = takes g g.rest (record { qualifier = h.qualifier; classes = h.classes; procedure = p })

-- the generic function of that number is there, and takes it
pub record SuitsHead (g : ℕ) (h : MethodHead) (p : ℕ) (s : Tables) : Type 0 where
  pub there : g < length s.generics
  pub takes : takes_head h p (slice_get s.generics g) ≡ true

-- no generic function has that name
pub record SuitsName (n : Name) (s : Tables) : Type 0 where
  pub new : is_in n.0 (names_of s.generics) ≡ false

-- methods, each behind those in front of it
abbrev pub SuitsHeads : ℕ → List MethodHead → ℕ → Tables → Type 0
SuitsHeads g [] p s = Unit {0}
SuitsHeads g (h ∷ hs) p s = SuitsHead g h p s × SuitsHeads g hs (p + 1) (with_method_at g h p s)

abbrev pub SuitsMethods : Taker → List MethodHead → ℕ → Bool → Tables → Type 0
SuitsMethods (New n required rest) hs p of_file s =
    SuitsName n s × SuitsHeads (length s.generics) hs p (with_generic n required rest of_file s)
SuitsMethods (There g) hs p of_file s = (g < length s.generics) × SuitsHeads g hs p s

-- a class with its slots
pub record SuitsClass (c : NewClass) (s : Tables) : Type 0 where
  pub new : class_named s.classes.rows c.name ≡ None
  pub there : All (λ super. super < length s.classes.rows) c.supers
  pub right : (p : Place) → refusal s.classes p c.supers (given c.slots) ≡ None

-- the methods of a class, whose generic functions are there or are new

abbrev pub SuitsAccessorIn : Option ℕ → Name → Accessor → ℕ → ℕ → Bool → Tables → Type 0
SuitsAccessorIn (Some g) n k c p of_file s = SuitsHead g (accessor_head k c) p s
SuitsAccessorIn None n k c p of_file s =
    SuitsName n s × SuitsHead (length s.generics) (accessor_head k c) p (with_generic n (arguments_of k) false of_file s)

abbrev pub SuitsFunction : SlotFunction → ℕ → ℕ → Bool → Tables → Type 0
SuitsFunction Initform c p of_file s = Unit {0}
SuitsFunction (Method n k) c p of_file s = SuitsAccessorIn (generic_named s.generics n) n k c p of_file s

abbrev pub SuitsFunctions : List SlotFunction → ℕ → ℕ → Bool → Tables → Type 0
SuitsFunctions [] c p of_file s = Unit {0}
SuitsFunctions (x ∷ xs) c p of_file s =
    SuitsFunction x c p of_file s × SuitsFunctions xs c (p + 1) of_file (with_slot_function x c p of_file s)

-- what a form defines suits the tables behind its parts; any form that defines no class and no method does
abbrev pub Suits : Elaboration → Tables → Type 0
Suits (OfMethods t hs p of_file l) s = SuitsMethods t hs p of_file s
Suits (OfClass c p of_file l) s =
    SuitsClass c s × SuitsFunctions c.functions (length s.classes.rows) p of_file (with_new_class c of_file s)
Suits (Ready l) s = Unit {0}
Suits (OfOne k) s = Unit {0}
Suits (OfTwo k) s = Unit {0}
Suits (OfBody k) s = Unit {0}
Suits InSequence s = Unit {0}
Suits (CallOf n) s = Unit {0}
Suits CallOfValue s = Unit {0}
Suits (CallOfLocal v) s = Unit {0}
Suits (CallOfPrimitive p) s = Unit {0}
Suits (OfClauses ns) s = Unit {0}
Suits OfVariables s = Unit {0}
Suits (OfDynamics ns) s = Unit {0}
Suits (OfFunction n rest parts) s = Unit {0}
Suits (OfBlock x) s = Unit {0}
Suits (OfSegments x ns) s = Unit {0}
Suits (OfFunctionNamed k name n rest of_file l) s = Unit {0}
Suits (OfProcedure name n rest) s = Unit {0}
Suits (OfAccessor name k v l) s = Unit {0}
