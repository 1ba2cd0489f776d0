-- The tables that nodes begin with: they stand behind those in front of them, and below top level nothing is defined there.
use Rattle.std.proofs.Common.{◌+◌, ◌≤◌, ℕ, nat_le, Bool, true, false, List, [], ◌∷◌, length, Some, if◌then◌else◌, refl, ◌∙◌, ◌≡◌, ◌++◌, ◌⊎◌, inl, arith}
use Rattle.base.specs.declared.place.Place.{Place}
use Rattle.base.specs.declared.datum.Name.{Name}
use Rattle.base.specs.declared.datum.Symbol.{Symbol}
use Rattle.base.specs.Data.{Item}
use Rattle.base.specs.AllOf.{all_map}
use Rattle.lang_meaning.specs.declared.program.LiteralRow.{LiteralRow}
use Rattle.lang_derived.specs.Derived.{new_symbols}
use Rattle.front_profile.specs.declared.tables.Tables.{Tables}
use Rattle.front_profile.specs.declared.elaboration.Leaf.{Leaf}
use Rattle.front_profile.specs.declared.elaboration.ElaboratedPart.{ElaboratedPart}
use Rattle.front_profile.specs.declared.elaboration.One.{One}
use Rattle.front_profile.specs.declared.elaboration.One.TheVariants.{DefineGlobal, DefineDynamic}
use Rattle.front_profile.specs.declared.elaboration.Elaboration.{Elaboration}
use Rattle.front_profile.specs.declared.elaboration.Elaboration.TheVariants.{Ready, OfOne, OfMethods, OfClass}
use Rattle.front_profile.specs.Nodes.{StaticContext, Part, function, Node, offends, unnamed, steps, calls, whole}
use Rattle.front_profile.specs.Shapes.{Pair}
use Rattle.front_profile.specs.RowWords.{deeper, with_site_if, within_depth, made_of, made_at_once, unsited, with_literal, literal_node, each_bound}
use Rattle.front_profile.specs.ValueRows.{with_set}
use Rattle.front_profile.specs.DefiningRows.{with_name}
use Rattle.front_profile.specs.Elaborations.{finish}
use Rattle.front_profile.specs.Judged.{with_fresh, with_expansion}
use Rattle.front_profile.specs.Marks.{TablesGrow}
use Rattle.front_profile.specs.Suits.{Suits}
use Rattle.lang_classes.specs.Keeping.{KeepsNames}
use Rattle.front_profile.specs.bridge.Growing.{tables_grow_transitive, tables_grow_reflexive, nothing_added, grows_with, grows_by}
use Rattle.front_profile.specs.Below.{SameNames, NothingDefined}
use Rattle.front_profile.specs.Known.{KnownTables}
use Rattle.front_profile.proofs.MethodViews.{AllRight}
use Rattle.front_profile.proofs.Joining.{AllFunctions}
use Rattle.front_profile.proofs.FoundNodes.{IsValuePart, AllPlain}
use Rattle.front_profile.proofs.Procedures.{IsOrdinary, AllOrdinary, AllLow, all_low}

-- tables that grow by one thing

pub grows_literal : (s : Tables) (row : LiteralRow) → TablesGrow s (with_literal row s)
grows_literal s row = grows_by s s (record nothing_added { literals = Some (row ∷ []) }) (tables_grow_reflexive s)

pub grows_set : (s : Tables) (n : Name) → TablesGrow s (with_set n s)
grows_set s n = grows_by s s (record nothing_added { set = Some (n ∷ []) }) (tables_grow_reflexive s)

pub grows_fresh : (s : Tables) (n : ℕ) → TablesGrow s (with_fresh n s)
grows_fresh s n = grows_by s s (record nothing_added { fresh = Some (new_symbols (length s.fresh) n) }) (tables_grow_reflexive s)

pub grows_expansion : (s : Tables) → TablesGrow s (with_expansion s)
grows_expansion s = let g = tables_grow_reflexive s in record {
  words = g.words;
  classes = g.classes;
  slots = g.slots;
  generics = g.generics;
  literals = g.literals;
  procedures = g.procedures;
  functions = g.functions;
  macros = g.macros;
  prelude = g.prelude;
  globals = g.globals;
  set = g.set;
  dynamics = g.dynamics;
  sites = g.sites;
  fresh = g.fresh;
  main = g.main;
  variables = g.variables;
  exits = g.exits;
  expansions = omega arith;
  before = g.before;
}

pub grows_numbers : (s : Tables) (v e : ℕ) → s.variables ≤ v → s.exits ≤ e → TablesGrow s (record s { variables = v; exits = e })
grows_numbers s v e l k = grows_with s s nothing_added v e l k (tables_grow_reflexive s)

grows_site : (b : Bool) (p : Place) (s : Tables) → TablesGrow s (with_site_if b p s)
grows_site true p s = grows_by s s (record nothing_added { sites = Some (p ∷ []) }) (tables_grow_reflexive s)
grows_site false p s = tables_grow_reflexive s

pub grows_name : (b : Bool) (d : Item) (s : Tables) → TablesGrow s (with_name b d s)
grows_name true d s = grows_literal s _
grows_name false d s = tables_grow_reflexive s

-- the tables that a node begins with
abbrev pub NodeBegins : Tables → Node → Type 0
NodeBegins s (offends p r) = Unit {0}
NodeBegins s unnamed = Unit {0}
NodeBegins s (steps a t d) = TablesGrow s t
NodeBegins s (calls a t m d) = TablesGrow s t
NodeBegins s (whole o i t xs m) = TablesGrow s t

-- between these tables nothing is defined

pub names_same : (t : Tables) → SameNames t t
names_same t = record { words = refl; classes = refl; prelude_classes = refl; generics = refl; functions = refl; macros = refl; prelude = refl; globals = refl; dynamics = refl; main = refl }

pub names_then : (s t u : Tables) → SameNames s t → SameNames t u → SameNames s u
names_then s t u a b = record {
  words = b.words ∙ a.words;
  classes = b.classes ∙ a.classes;
  prelude_classes = b.prelude_classes ∙ a.prelude_classes;
  generics = b.generics ∙ a.generics;
  functions = b.functions ∙ a.functions;
  macros = b.macros ∙ a.macros;
  prelude = b.prelude ∙ a.prelude;
  globals = b.globals ∙ a.globals;
  dynamics = b.dynamics ∙ a.dynamics;
  main = b.main ∙ a.main;
}

pub none_defined : (t : Tables) → NothingDefined t t
none_defined t = record { names = names_same t; procedures = refl }

pub none_then : (s t u : Tables) → NothingDefined s t → NothingDefined t u → NothingDefined s u
none_then s t u a b = record { names = names_then s t u a.names b.names; procedures = b.procedures ∙ a.procedures }

-- with another literal, symbol, site or number, and other global variables that are set
none_with : (s : Tables) (ls : List LiteralRow) (ns : List Name) (ps : List Place) (xs : List Symbol) (v e : ℕ)
    → NothingDefined s (record s { literals = ls; set = ns; sites = ps; fresh = xs; variables = v; exits = e })
none_with s ls ns ps xs v e = record {
  names = record { words = refl; classes = refl; prelude_classes = refl; generics = refl; functions = refl; macros = refl; prelude = refl; globals = refl; dynamics = refl; main = refl };
  procedures = refl;
}

pub none_literal : (s : Tables) (row : LiteralRow) → NothingDefined s (with_literal row s)
none_literal s row = none_with s (s.literals ++ row ∷ []) s.set s.sites s.fresh s.variables s.exits

pub none_set : (s : Tables) (n : Name) → NothingDefined s (with_set n s)
none_set s n = none_with s s.literals (s.set ++ n ∷ []) s.sites s.fresh s.variables s.exits

pub none_numbers : (s : Tables) (v e : ℕ) → NothingDefined s (record s { variables = v; exits = e })
none_numbers s v e = none_with s s.literals s.set s.sites s.fresh v e

pub none_fresh : (s : Tables) (n : ℕ) → NothingDefined s (with_fresh n s)
none_fresh s n = none_with s s.literals s.set s.sites (s.fresh ++ new_symbols (length s.fresh) n) s.variables s.exits

pub none_expansion : (s : Tables) → NothingDefined s (with_expansion s)
none_expansion s = record {
  names = record { words = refl; classes = refl; prelude_classes = refl; generics = refl; functions = refl; macros = refl; prelude = refl; globals = refl; dynamics = refl; main = refl };
  procedures = refl;
}

none_site : (b : Bool) (p : Place) (s : Tables) → NothingDefined s (with_site_if b p s)
none_site true p s = none_with s s.literals s.set (s.sites ++ p ∷ []) s.fresh s.variables s.exits
none_site false p s = none_defined s

pub none_name : (b : Bool) (d : Item) (s : Tables) → NothingDefined s (with_name b d s)
none_name true d s = none_literal s _
none_name false d s = none_defined s

-- what is made defines nothing
abbrev pub MakesNothing : Elaboration → Type 0
MakesNothing k = (rs : List ElaboratedPart) (u : Tables) → NothingDefined u (finish k rs u)

-- what is made suits the tables behind its parts, and leaves known tables: at once, or where its parts are functions and the tables that it
-- was judged by are known

abbrev pub IsSimple : Elaboration → Type 0
IsSimple (OfMethods t hs p of_file l) = ⊥
IsSimple (OfClass c p of_file l) = ⊥
IsSimple other = Unit {0}

pub record JoinsSuited (s t : Tables) (xs : List Part) (k : Elaboration) : Type 0 where
  pub functions : AllFunctions xs
  pub suits : KeepsNames → KnownTables s → (u : Tables) (rs : List ElaboratedPart) → SameNames t u → AllRight xs → Suits k u × KnownTables (finish k rs u)

abbrev pub Suited : Tables → Tables → List Part → Elaboration → Type 0
Suited s t xs k = IsSimple k ⊎ JoinsSuited s t xs k

-- a derived form or a call of a macro, and the tables that it begins with; below top level nothing is defined there
pub record StartsStep (s : Tables) (top : Bool) (a : StaticContext) (t : Tables) : Type 0 where
  pub grows : TablesGrow s t
  pub names : SameNames s t
  pub low : top ≡ false → (a.spot.top ≡ false) × NothingDefined s t

pub record LowWhole (s : Tables) (o i : StaticContext) (t : Tables) (xs : List Part) (k : Elaboration) : Type 0 where
  pub defined : NothingDefined s t
  pub parts : AllLow o.spot.top i.spot.top xs
  pub ordinary : AllOrdinary xs
  pub makes : MakesNothing k

pub record StartsWhole (s : Tables) (top : Bool) (o i : StaticContext) (t : Tables) (xs : List Part) (k : Elaboration) : Type 0 where
  pub grows : TablesGrow s t
  pub names : SameNames s t
  pub suited : Suited s t xs k
  pub low : top ≡ false → LowWhole s o i t xs k

abbrev pub Starts : Tables → Bool → Node → Type 0
Starts s top (offends p r) = Unit {0}
Starts s top unnamed = Unit {0}
Starts s top (steps a t d) = StartsStep s top a t
Starts s top (calls a t m d) = StartsStep s top a t × (s.before.macros ≡ 0 → ⊥)
Starts s top (whole o i t xs m) = StartsWhole s top o i t xs m.making

pub begins_so : (s : Tables) (top : Bool) (x : Node) → Starts s top x → NodeBegins s x
begins_so s top (offends p r) h = tt
begins_so s top unnamed h = tt
begins_so s top (steps a t d) h = h.grows
begins_so s top (calls a t m d) h = h.0.grows
begins_so s top (whole o i t xs m) h = h.grows

pub starts_if : (s : Tables) (top b : Bool) (x y : Node) → Starts s top x → Starts s top y → Starts s top (if b then x else y)
starts_if s top true x y g h = g
starts_if s top false x y g h = h

pub starts_within : (s : Tables) (k : ℕ) (a : StaticContext) (p : Place) (x : Node) → Starts s a.spot.top x → Starts s a.spot.top (within_depth k a p x)
starts_within s k a p x h = starts_if s a.spot.top (nat_le (a.spot.depth + k) 1000) x _ h tt

pub starts_made : (s : Tables) (a i : StaticContext) (p : Place) (t : Tables) (xs : List Part) (k : Elaboration) → IsSimple k → TablesGrow s t → NothingDefined s t
    → (a.spot.top ≡ false → i.spot.top ≡ false) → AllOrdinary xs → (a.spot.top ≡ false → MakesNothing k) → Starts s a.spot.top (made_of a i p t xs k)
starts_made s a i p t xs k e g d low o m = record {
  names = (none_then s t (with_site_if a.spot.sited p t) d (none_site a.spot.sited p t)).names;
  suited = inl e;
  grows = tables_grow_transitive s t (with_site_if a.spot.sited p t) g (grows_site a.spot.sited p t);
  low = λ e. record {
    defined = none_then s t (with_site_if a.spot.sited p t) d (none_site a.spot.sited p t);
    parts = all_low false i.spot.top xs refl (low e);
    ordinary = o;
    makes = m e;
  };
}

-- nothing is added first, and the parts stand a form deeper
pub starts_plain : (s : Tables) (a : StaticContext) (p : Place) (xs : List Part) (k : Elaboration) → IsSimple k → AllOrdinary xs → MakesNothing k → Starts s a.spot.top (made_of a (deeper 1 a) p s xs k)
starts_plain s a p xs k e o m = starts_made s a (deeper 1 a) p s xs k e (tables_grow_reflexive s) (none_defined s) (λ e. refl) o (λ e. m)

pub starts_at_once : (s : Tables) (a : StaticContext) (p : Place) (l : Leaf) → Starts s a.spot.top (made_at_once a p s l)
starts_at_once s a p l = starts_within s 1 a p _ (starts_plain s a p [] (Ready l) tt tt (λ rs u. none_defined u))

pub starts_unsited : (s : Tables) (a : StaticContext) (p : Place) (t : Tables) (l : Leaf) → TablesGrow s t → NothingDefined s t → Starts s a.spot.top (unsited a p t l)
starts_unsited s a p t l g d =
    starts_within s 1 a p _ (record { grows = g; names = d.names; suited = inl tt; low = λ e. record { defined = d; parts = tt; ordinary = tt; makes = λ rs u. none_defined u } })

pub starts_literal : (s : Tables) (a : StaticContext) (p : Place) (row : LiteralRow) → Starts s a.spot.top (literal_node a p s row)
starts_literal s a p row = starts_unsited s a p (with_literal row s) _ (grows_literal s row) (none_literal s row)

-- what sets defines nothing
abbrev pub Sets : One → Type 0
Sets (DefineGlobal row) = ⊥
Sets (DefineDynamic row) = ⊥
Sets other = Unit {0}

pub sets_nothing : (k : One) → Sets k → MakesNothing (OfOne k)
sets_nothing (DefineGlobal row) h = absurd h
sets_nothing (DefineDynamic row) h = absurd h
sets_nothing other h = λ rs u. none_defined u

-- parts that leave no procedure

plain_part : (x : Part) → IsValuePart x → IsOrdinary x
plain_part (function w) h = absurd h
plain_part other h = tt

pub plain_ordinary : (xs : List Part) → AllPlain xs → AllOrdinary xs
plain_ordinary xs h = all_map IsValuePart IsOrdinary plain_part xs h

pub bound_ordinary : (qs : List Pair) → AllOrdinary (each_bound qs)
bound_ordinary [] = tt
bound_ordinary (q ∷ qs) = (tt, bound_ordinary qs)
