-- What the forms so far gave, what is judged and what it comes to, where names have the numbers that a renaming gives them.
use Rattle.std.specs.Prelude.{ℕ, List, map, option_map}
use Rattle.base.specs.Data.{Item}
use Rattle.lang_classes.specs.InheritedClasses.{Hierarchy}
use Rattle.lang_classes.specs.declared.slot_spec.SlotSpec.{SlotSpec}
use Rattle.front_profile.specs.declared.bound.Bound.{Bound}
use Rattle.front_profile.specs.declared.bound.Bound.TheVariants as bound
use Rattle.front_profile.specs.declared.parameters.Parameters.{Parameters}
use Rattle.front_profile.specs.declared.tables.ReservedWords.{ReservedWords}
use Rattle.front_profile.specs.declared.tables.GlobalRow.{GlobalRow}
use Rattle.front_profile.specs.declared.tables.DynamicRow.{DynamicRow}
use Rattle.front_profile.specs.declared.tables.MacroRow.{MacroRow}
use Rattle.front_profile.specs.declared.tables.Tables.{Tables}
use Rattle.front_profile.specs.declared.elaboration.Leaf.{Leaf}
use Rattle.front_profile.specs.declared.elaboration.Leaf.TheVariants as leaf
use Rattle.front_profile.specs.declared.elaboration.One.{One}
use Rattle.front_profile.specs.declared.elaboration.One.TheVariants as one
use Rattle.front_profile.specs.declared.elaboration.Taker.{Taker}
use Rattle.front_profile.specs.declared.elaboration.Taker.TheVariants as taker
use Rattle.front_profile.specs.declared.elaboration.SlotFunction.{SlotFunction}
use Rattle.front_profile.specs.declared.elaboration.SlotFunction.TheVariants as slot
use Rattle.front_profile.specs.declared.elaboration.NewClass.{NewClass}
use Rattle.front_profile.specs.declared.elaboration.Elaboration.{Elaboration}
use Rattle.front_profile.specs.declared.elaboration.Elaboration.TheVariants.{Ready, OfOne, OfTwo, OfBody, InSequence, CallOf, CallOfValue, CallOfLocal, CallOfPrimitive, OfClauses, OfVariables, OfDynamics, OfFunction, OfBlock, OfSegments, OfFunctionNamed, OfProcedure, OfAccessor, OfMethods, OfClass}
use Rattle.front_profile.specs.declared.elaboration.Made.{Made}
use Rattle.front_profile.specs.declared.elaboration.ElaboratedPart.{ElaboratedPart}
use Rattle.front_profile.specs.declared.elaboration.ElaboratedPart.TheVariants as found
use Rattle.front_profile.specs.Nodes.{StaticContext, Part, form, below, inner, bind, parameter, wrong, function, Written, initform, accessor, method, Node, offends, unnamed, steps, calls, whole, EarlyEnd, refused, Standing, Verdict, stands, ended}
use Rattle.lang_renamed.specs.Renaming.{name_by, names_by, symbol_by, item_by, form_by, literal_by, procedure_by, function_by, slots_by, class_by, generic_by}

module _ (r : ℕ → ℕ) where
  abbrev pub data_by : List Item → List Item
  data_by ds = map (item_by r) ds

  -- ---- what the forms so far gave

  abbrev pub hierarchy_by : Hierarchy → Hierarchy
  hierarchy_by h = record { rows = map (class_by r) h.rows; own = map (slots_by r) h.own }

  abbrev pub words_by : ReservedWords → ReservedWords
  words_by w = record { truth = name_by r w.truth; rest = name_by r w.rest; and_rest = name_by r w.and_rest }

  abbrev pub global_by : GlobalRow → GlobalRow
  global_by g = record { name = name_by r g.name; constant = g.constant; of_file = g.of_file }

  abbrev pub dynamic_by : DynamicRow → DynamicRow
  dynamic_by v = record { name = name_by r v.name; of_file = v.of_file }

  abbrev pub macro_by : MacroRow → MacroRow
  macro_by m = record { name = name_by r m.name; procedure = m.procedure }

  abbrev pub tables_by : Tables → Tables
  tables_by s = record {
    words = words_by s.words;
    literals = map (literal_by r) s.literals;
    procedures = map (procedure_by r) s.procedures;
    functions = map (function_by r) s.functions;
    macros = map macro_by s.macros;
    prelude = names_by r s.prelude;
    classes = hierarchy_by s.classes;
    prelude_classes = s.prelude_classes;
    generics = map (generic_by r) s.generics;
    globals = map global_by s.globals;
    set = names_by r s.set;
    dynamics = map dynamic_by s.dynamics;
    sites = s.sites;
    fresh = map (symbol_by r) s.fresh;
    variables = s.variables;
    exits = s.exits;
    main = map (form_by r) s.main;
    expansions = s.expansions;
    before = s.before;
  }

  -- ---- what is judged, and what it comes to

  abbrev pub bound_by : Bound → Bound
  bound_by (bound.Variable x v) = bound.Variable (symbol_by r x) v
  bound_by (bound.Function x v) = bound.Function (symbol_by r x) v
  bound_by (bound.Block x e) = bound.Block (symbol_by r x) e
  bound_by (bound.Tags xs e) = bound.Tags (map (symbol_by r) xs) e

  abbrev pub context_by : StaticContext → StaticContext
  context_by a = record { bound = map bound_by a.bound; spot = a.spot }

  abbrev pub parameters_by : Parameters → Parameters
  parameters_by ps = record { required = map (symbol_by r) ps.required; rest = option_map (symbol_by r) ps.rest }

  abbrev pub written_by : Written → Written
  written_by (initform d) = initform (item_by r d)
  written_by (accessor n k d) = accessor (name_by r n) k (item_by r d)
  written_by (method n has ps fs) = method (name_by r n) has (parameters_by ps) (data_by fs)

  abbrev pub part_by : Part → Part
  part_by (form d) = form (item_by r d)
  part_by (below d) = below (item_by r d)
  part_by (inner d) = inner (item_by r d)
  part_by (bind x d) = bind (symbol_by r x) (item_by r d)
  part_by (parameter x) = parameter (symbol_by r x)
  part_by (wrong p why) = wrong p why
  part_by (function f) = function (written_by f)

  abbrev pub parts_by : List Part → List Part
  parts_by xs = map part_by xs

  abbrev pub leaf_by : Leaf → Leaf
  leaf_by (leaf.Literal n) = leaf.Literal n
  leaf_by (leaf.Local v) = leaf.Local v
  leaf_by (leaf.Global n) = leaf.Global (name_by r n)
  leaf_by (leaf.Dynamic n) = leaf.Dynamic (name_by r n)
  leaf_by (leaf.Go x n) = leaf.Go x n
  leaf_by leaf.NextMethod = leaf.NextMethod
  leaf_by leaf.HasNext = leaf.HasNext
  leaf_by leaf.Nothing = leaf.Nothing

  abbrev pub one_by : One → One
  one_by (one.SetVariable v) = one.SetVariable v
  one_by (one.SetGlobal n) = one.SetGlobal (name_by r n)
  one_by (one.DefineGlobal g) = one.DefineGlobal (global_by g)
  one_by (one.SetDynamic n) = one.SetDynamic (name_by r n)
  one_by (one.DefineDynamic v) = one.DefineDynamic (dynamic_by v)
  one_by (one.ReturnTo x) = one.ReturnTo x

  abbrev pub taker_by : Taker → Taker
  taker_by (taker.New n required rest) = taker.New (name_by r n) required rest
  taker_by (taker.There g) = taker.There g

  abbrev pub slot_function_by : SlotFunction → SlotFunction
  slot_function_by slot.Initform = slot.Initform
  slot_function_by (slot.Method n k) = slot.Method (name_by r n) k

  abbrev pub spec_by : SlotSpec → SlotSpec
  spec_by s = record { place = s.place; name = name_by r s.name; initargs = names_by r s.initargs; initform = s.initform }

  abbrev pub new_class_by : NewClass → NewClass
  new_class_by c = record {
    name = name_by r c.name;
    supers = c.supers;
    abstract_class = c.abstract_class;
    slots = map spec_by c.slots;
    functions = map slot_function_by c.functions;
  }

  abbrev pub making_by : Elaboration → Elaboration
  making_by (Ready l) = Ready (leaf_by l)
  making_by (OfOne k) = OfOne (one_by k)
  making_by (OfTwo k) = OfTwo k
  making_by (OfBody k) = OfBody k
  making_by InSequence = InSequence
  making_by (CallOf n) = CallOf (name_by r n)
  making_by CallOfValue = CallOfValue
  making_by (CallOfLocal v) = CallOfLocal v
  making_by (CallOfPrimitive p) = CallOfPrimitive p
  making_by (OfClauses ns) = OfClauses ns
  making_by OfVariables = OfVariables
  making_by (OfDynamics ns) = OfDynamics (names_by r ns)
  making_by (OfFunction n rest parts) = OfFunction n rest parts
  making_by (OfBlock x) = OfBlock x
  making_by (OfSegments x ns) = OfSegments x ns
  making_by (OfFunctionNamed k name n rest of_file l) = OfFunctionNamed k (name_by r name) n rest of_file (leaf_by l)
  making_by (OfProcedure name n rest) = OfProcedure (option_map (name_by r) name) n rest
  making_by (OfAccessor name k v l) = OfAccessor (name_by r name) k v l
  making_by (OfMethods t hs p of_file l) = OfMethods (taker_by t) hs p of_file (leaf_by l)
  making_by (OfClass c p of_file l) = OfClass (new_class_by c) p of_file (leaf_by l)

  abbrev pub made_by : Made → Made
  made_by m = record { site = m.site; making = making_by m.making }

  abbrev pub found_by : ElaboratedPart → ElaboratedPart
  found_by (found.Value f) = found.Value (form_by r f)
  found_by (found.Binding v f) = found.Binding v (form_by r f)
  found_by (found.Parameter v) = found.Parameter v

  abbrev pub node_by : Node → Node
  node_by (offends p why) = offends p why
  node_by unnamed = unnamed
  node_by (steps a s d) = steps (context_by a) (tables_by s) (item_by r d)
  node_by (calls a s m d) = calls (context_by a) (tables_by s) m (item_by r d)
  node_by (whole o i s xs m) = whole (context_by o) (context_by i) (tables_by s) (parts_by xs) (made_by m)

  abbrev pub end_by : EarlyEnd → EarlyEnd
  end_by (refused p why) = refused p why

  abbrev pub standing_by : Standing → Standing
  standing_by m = record { form = form_by r m.form; tables = tables_by m.tables }

  abbrev pub verdict_by : Verdict → Verdict
  verdict_by (stands m) = stands (standing_by m)
  verdict_by (ended e) = ended (end_by e)
