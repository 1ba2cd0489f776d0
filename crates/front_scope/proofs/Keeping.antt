-- Tables stay a whole program: in front of all forms, and behind each that is taken.
use Rattle.std.proofs.Common.{◌≡◌, ℕ, zero, suc, ◌+◌, ◌*◌, ◌<◌, ◌≤◌, ◌==◌, min, inr, Option, Some, None, slice_get, Bool, true, false, ◌&&◌, not, List, [], ◌∷◌, ◌++◌, length, Result, Ok, Err, OnOk, OnErr, refl, ap, subst, sym, ◌∙◌, arith}
use Rattle.std.specs.Str.{bytes_eq}
use Rattle.std.specs.List.{list_all, sum_by}
use Rattle.std.proofs.lemmas.Bool.{eqb-true}
use Rattle.std.proofs.lemmas.List.Sums.{sum_by-cons}
use Rattle.base.specs.declared.datum.Name.{Name}
use Rattle.base.specs.declared.origin.Origin.{Origin}
use Rattle.base.specs.declared.origin.Origin.TheVariants.{Prelude, File}
use Rattle.base.specs.declared.reason.Stop.{Stop}
use Rattle.base.specs.declared.reason.Stop.TheVariants.{Refused, NoMemory}
use Rattle.base.specs.Names.{Extends, Extends-same}
use Rattle.base.specs.Data.{Item}
use Rattle.base.specs.WellFormedData.{WellFormed, good_stays}
use Rattle.lang_meaning.specs.declared.program.ClassRow.{ClassRow}
use Rattle.lang_meaning.specs.declared.program.SlotRow.{SlotRow}
use Rattle.lang_meaning.specs.declared.program.GenericRow.{GenericRow}
use Rattle.lang_meaning.specs.declared.program.ProgramRows.{ProgramRows}
use Rattle.lang_meaning.specs.BuiltIn.{built_in_precedence, built_in_slots}
use Rattle.lang_meaning.specs.Facts.{is_one, is_plain_slot, is_row, begins_with_built_in, is_whole}
use Rattle.lang_meaning.specs.Form.{Form}
use Rattle.lang_meaning.specs.ProgramCounts.{slot_nodes, class_nodes}
use Rattle.lang_meaning.specs.Cells.{generic_cells}
use Rattle.lang_dispatch.specs.OfClasses.{with_classes}
use Rattle.lang_classes.specs.InheritedClasses.{Hierarchy}
use Rattle.lang_classes.specs.InheritedBuiltIn.{AreBuiltIn}
use Rattle.front_profile.specs.declared.tables.Tables.{Tables}
use Rattle.front_profile.specs.Marks.{HasMore, AreThere, TablesGrow}
use Rattle.front_profile.specs.bridge.Growing.{first_then, tables_grow_reflexive, grows_at_end}
use Rattle.front_profile.specs.bridge.CutGenerics.{same_rows, same_generics}
use Rattle.front_profile.specs.declared.mark.Mark.{Mark}
use Rattle.front_profile.specs.Nodes.{StaticContext, Standing, stands}
use Rattle.front_profile.specs.Judged.{Elaborates}
use Rattle.front_profile.specs.Rows.{node}
use Rattle.front_profile.specs.Between.{TopLevelTables, HasNoForm}
use Rattle.front_profile.specs.Places.{EmptyContext}
use Rattle.front_profile.specs.Right.{with_main as with_form}
use Rattle.front_profile.specs.Cuts.{mark_of, opened}
use Rattle.front_programs.specs.Calls.{Begun}
use Rattle.front_cells.specs.declared.count.CellCount.{CellCount}
use Rattle.front_cells.specs.Counts.{all_cells, IsCellCount, HasMoreMethods, WasCellCount}
use Rattle.front_scope.specs.Cells.{FewAt, IsCountBefore, IsCountAfter, StopsAtCells}
use Rattle.front_scope.specs.Scopes.{rows_of, nodes_of, cells_of, most_nodes, most_cells, top, first_tables, IsElaborated, IsFormStopped, AreInitialTables, IsWhole}

-- what is known of top-level forms
pub record TopForms : Type 0 where
  pub first : (texts : List (List ℕ)) (t : Tables) → AreBuiltIn texts t.classes → HasNoForm t → TopLevelTables t
  pub file : (names : List (List ℕ)) (a : StaticContext) (s : Tables) (d : Item) (m : Standing) → WellFormed (length names) d → EmptyContext a →
      TopLevelTables s → Elaborates names (node names a s d) (stands m) → TopLevelTables (with_form m.form m.tables)
  pub prelude : (names : List (List ℕ)) (a : StaticContext) (s : Tables) (d : Item) (m : Standing) → WellFormed (length names) d → EmptyContext a →
      a.spot.sited ≡ false → TopLevelTables s → Elaborates names (node names a s d) (stands m) → TopLevelTables m.tables

nothing_around : (origin : Origin) → EmptyContext (top origin)
nothing_around origin = record { bound = refl; method = refl }

-- tables where a form begins are as whole as those in front of it

pub opened_between : (s : Tables) → TopLevelTables s → TopLevelTables (opened s)
opened_between s w = record { whole = w.whole; classes = w.classes; sites = w.sites }

pub opened_whole : (s : Tables) → IsWhole s → IsWhole (opened s)
opened_whole s w = record { between = opened_between s w.between; small = w.small; few = w.few }

-- where a form begins
pub begun_here : (t : Tables) → t.before ≡ mark_of t → IsWhole t → Begun t
begun_here t e w = let g = tables_grow_reflexive t in record {
  first = t;
  whole = w.between;
  small = w.small;
  few = w.few;
  grown = record {
    words = g.words;
    classes = g.classes;
    slots = g.slots;
    generics = g.generics;
    literals = g.literals;
    procedures = g.procedures;
    functions = g.functions;
    macros = g.macros;
    prelude = g.prelude;
    globals = g.globals;
    set = g.set;
    dynamics = g.dynamics;
    sites = g.sites;
    fresh = g.fresh;
    main = g.main;
    variables = g.variables;
    exits = g.exits;
    expansions = g.expansions;
    before = e;
  };
}

pub given_whole : TopForms → (old names : List (List ℕ)) (origin : Origin) (s : Tables) (d : Item) (t : Tables) → WellFormed (length old) d → Extends old names →
    TopLevelTables s → IsElaborated names origin s d t → TopLevelTables t
given_whole law old names Prelude s d t good x w g =
    subst (λ (u : Tables). TopLevelTables u) (sym g.now)
    (law.prelude names (top Prelude) s d (record { form = g.form; tables = g.found }) (good_stays old names d x good) (nothing_around Prelude) refl w
    (g.comes.under names (Extends-same names)))
given_whole law old names File s d t good x w g =
    subst (λ (u : Tables). TopLevelTables u) (sym g.now)
    (law.file names (top File) s d (record { form = g.form; tables = g.found }) (good_stays old names d x good) (nothing_around File) w
    (g.comes.under names (Extends-same names)))

-- the nodes of the built-in classes

and_first : (a b : Bool) → (a && b) ≡ true → a ≡ true
and_first true b h = refl
and_first false b h = h

and_second : (a b : Bool) → (a && b) ≡ true → b ≡ true
and_second true b h = h
and_second false b h = absurd (cc h)

same_length : (xs ys : List ℕ) → bytes_eq xs ys ≡ true → length xs ≡ length ys
same_length [] [] h = refl
same_length [] (y ∷ ys) h = absurd (cc h)
same_length (x ∷ xs) [] h = absurd (cc h)
same_length (x ∷ xs) (y ∷ ys) h = omega (arith, same_length xs ys (and_second (x == y) (bytes_eq xs ys) h))

one_initarg : (n : Name) (ns : List Name) → is_one n ns ≡ true → length ns ≡ 1
one_initarg n [] h = absurd (cc h)
one_initarg n (m ∷ []) h = refl
one_initarg n (m ∷ k ∷ ms) h = absurd (cc h)

plain_nodes : (ss : List SlotRow) → list_all is_plain_slot ss ≡ true → sum_by slot_nodes ss ≡ 2 * length ss
plain_nodes [] h = refl
plain_nodes (s ∷ ss) h =
    let here : is_plain_slot s ≡ true = and_first (is_plain_slot s) (list_all is_plain_slot ss) h in
    let one : length s.initargs ≡ 1 = one_initarg s.name s.initargs (and_first (is_one s.name s.initargs) _ here) in
    omega (arith, sum_by-cons slot_nodes s ss, one, plain_nodes ss (and_second (is_plain_slot s) (list_all is_plain_slot ss) h))

-- a built-in class has so many nodes
row_nodes : (c : ClassRow) (p : List ℕ) (n : ℕ) → is_row c p n ≡ true → class_nodes c ≡ length p + 2 * n
row_nodes c p n h =
    let three : (bytes_eq c.precedence p && length c.slots == n && list_all is_plain_slot c.slots) ≡ true =
    and_first (bytes_eq c.precedence p && length c.slots == n && list_all is_plain_slot c.slots) (not c.abstract_class) h in
    let two : (bytes_eq c.precedence p && length c.slots == n) ≡ true = and_first (bytes_eq c.precedence p && length c.slots == n) (list_all is_plain_slot c.slots) three in
    let plain : list_all is_plain_slot c.slots ≡ true = and_second (bytes_eq c.precedence p && length c.slots == n) (list_all is_plain_slot c.slots) three in
    let slots : length c.slots ≡ n = eqb-true (length c.slots) n (and_second (bytes_eq c.precedence p) (length c.slots == n) two) in
    omega (arith, same_length c.precedence p (and_first (bytes_eq c.precedence p) (length c.slots == n) two), plain_nodes c.slots plain, slots)

abbrev counted : List (List ℕ) → List ℕ → ℕ
counted [] ns = 0
counted (p ∷ ps) [] = 0
counted (p ∷ ps) (n ∷ ns) = length p + 2 * n + counted ps ns

rows_nodes : (cs : List ClassRow) (ps : List (List ℕ)) (ns : List ℕ) → length cs ≡ length ps → length ns ≡ length ps → begins_with_built_in cs ps ns ≡ true →
    sum_by class_nodes cs ≡ counted ps ns
rows_nodes [] [] ns l m h = refl
rows_nodes [] (p ∷ ps) ns l m h = absurd (cc h)
rows_nodes (c ∷ cs) [] ns l m h = absurd (omega (arith, l))
rows_nodes (c ∷ cs) (p ∷ ps) [] l m h = absurd (cc h)
rows_nodes (c ∷ cs) (p ∷ ps) (n ∷ ns) l m h =
    omega (
      arith,
      sum_by-cons class_nodes c cs,
      row_nodes c p n (and_first (is_row c p n) (begins_with_built_in cs ps ns) h),
      rows_nodes cs ps ns (omega (arith, l)) (omega (arith, m)) (and_second (is_row c p n) (begins_with_built_in cs ps ns) h),
    )

pub built_in_small : (texts : List (List ℕ)) (h : Hierarchy) → AreBuiltIn texts h → begins_with_built_in h.rows built_in_precedence built_in_slots ≡ true →
    sum_by class_nodes h.rows ≤ 100000
built_in_small texts h a b =
    let same : sum_by class_nodes h.rows ≡ counted built_in_precedence built_in_slots = rows_nodes h.rows built_in_precedence built_in_slots a.number refl b in
    omega (arith, same)

-- the first tables

nothing_left : (texts : List (List ℕ)) (t : Tables) → t ≡ first_tables t.words t.classes → HasNoForm t
nothing_left texts t e = record {
  literals = ap (λ (u : Tables). u.literals) e;
  procedures = ap (λ (u : Tables). u.procedures) e;
  generics = ap (λ (u : Tables). u.generics) e;
  functions = ap (λ (u : Tables). u.functions) e;
  macros = ap (λ (u : Tables). u.macros) e;
  main = ap (λ (u : Tables). u.main) e;
  sites = ap (λ (u : Tables). u.sites) e;
}

pub first_whole : TopForms → (texts : List (List ℕ)) (t : Tables) → AreInitialTables texts t → TopLevelTables t
first_whole law texts t f = law.first texts t f.classes (nothing_left texts t f.nothing_else)

first_nodes : (t : Tables) → t ≡ first_tables t.words t.classes → nodes_of t ≡ sum_by class_nodes t.classes.rows
first_nodes t e = ap (λ (u : Tables). nodes_of u) e ∙ omega arith

-- there is no generic function
first_few : (t : Tables) → t ≡ first_tables t.words t.classes → cells_of t ≤ most_cells
first_few t e = let none : cells_of t ≡ 0 = ap (λ (u : Tables). cells_of u) e in omega (arith, none)

pub first_is_whole : TopForms → (texts : List (List ℕ)) (t : Tables) (n : ℕ) → AreInitialTables texts t → n ≡ min (sum_by class_nodes t.classes.rows) 18446744073709551615 →
    (n ≡ nodes_of t) × IsWhole t
first_is_whole law texts t n f e =
    let between : TopLevelTables t = first_whole law texts t f in
    let small : sum_by class_nodes t.classes.rows ≤ 100000 = built_in_small texts t.classes f.classes between.classes.begins in
    let nodes : nodes_of t ≡ sum_by class_nodes t.classes.rows = first_nodes t f.nothing_else in
    (omega (arith, e, small, nodes), record { between = between; small = omega (arith, small, nodes); few = first_few t f.nothing_else })

-- the rows of a program, as they are put together

abbrev put_together : Tables → List ClassRow → List GenericRow → ProgramRows
put_together t cs gs = record {
  literals = t.literals;
  procedures = t.procedures;
  classes = cs;
  generics = gs;
  functions = t.functions;
  main = t.main;
  sites = t.sites;
}

pub put_together_whole : (t : Tables) (cs : List ClassRow) (gs : List GenericRow) → cs ≡ t.classes.rows → gs ≡ t.generics → is_whole (rows_of t) ≡ true →
    is_whole (put_together t cs gs) ≡ true
put_together_whole t cs gs e f h =
    let classes : is_whole (put_together t cs t.generics) ≡ true = subst (λ ks. is_whole (put_together t ks t.generics) ≡ true) (sym e) h in
    subst (λ hs. is_whole (put_together t cs hs) ≡ true) (sym f) classes

-- the count of tables that have grown

grown_methods : (g h : GenericRow) → HasMore g h → HasMoreMethods g h
grown_methods g h more = record { name = more.0; required = more.1; rest = more.2; methods = more.3 }

grown_generics : (gs hs : List GenericRow) → AreThere gs hs → (i : ℕ) (g h : GenericRow) → slice_get gs i ≡ Some g → slice_get hs i ≡ Some h → HasMoreMethods g h
grown_generics [] hs there i g h a b = absurd (cc a)
grown_generics (k ∷ gs) [] there i g h a b = absurd there
grown_generics (k ∷ gs) (l ∷ hs) there zero g h a b =
    let first : k ≡ g = cc a in
    let second : l ≡ h = cc b in
    subst (λ (h : GenericRow). HasMoreMethods g h) second (subst (λ (g : GenericRow). HasMoreMethods g l) first (grown_methods k l there.0))
grown_generics (k ∷ gs) (l ∷ hs) there (suc i) g h a b = grown_generics gs hs there.1 i g h a b

more_then : (g h k : GenericRow) → HasMore g h → HasMore h k → HasMore g k
more_then g h k a b = (b.0 ∙ a.0, b.1 ∙ a.1, b.2 ∙ a.2, first_then g.methods h.methods k.methods a.3 b.3)

there_then : (gs hs ks : List GenericRow) → AreThere gs hs → AreThere hs ks → AreThere gs ks
there_then [] hs ks a b = tt
there_then (g ∷ gs) [] ks a b = absurd a
there_then (g ∷ gs) (h ∷ hs) [] a b = absurd b
there_then (g ∷ gs) (h ∷ hs) (k ∷ ks) a b = (more_then g h k a.0 b.0, there_then gs hs ks a.1 b.1)

-- a count of tables that stand in front of these
pub was_counted : (t : Tables) (count : CellCount) → IsCountBefore t count → WasCellCount t.classes.rows t.generics count
was_counted t count b = record {
  rows_then = b.rows;
  generics_then = b.generics;
  counted = b.counted;
  classes = b.classes_in_front;
  generics = grown_generics b.generics t.generics b.generics_in_front;
}

pub before_grown : (s t : Tables) (count : CellCount) → TablesGrow s t → IsCountBefore s count → IsCountBefore t count
before_grown s t count grown b = record {
  rows = b.rows;
  generics = b.generics;
  counted = b.counted;
  classes_in_front = first_then b.rows s.classes.rows t.classes.rows b.classes_in_front grown.classes;
  generics_in_front = there_then b.generics s.generics t.generics b.generics_in_front grown.generics;
}

pub before_opened : (s : Tables) (count : CellCount) → IsCountBefore s count → IsCountBefore (opened s) count
before_opened s count b = record {
  rows = b.rows;
  generics = b.generics;
  counted = b.counted;
  classes_in_front = b.classes_in_front;
  generics_in_front = b.generics_in_front;
}

pub counted_now : (t : Tables) (count : CellCount) → IsCellCount t.classes.rows t.generics count → IsCountBefore t count
counted_now t count counted = let g = tables_grow_reflexive t in record {
  rows = t.classes.rows;
  generics = t.generics;
  counted = counted;
  classes_in_front = g.classes;
  generics_in_front = g.generics;
}

-- a form that defines nothing leaves the cells as few as they were
pub few_at : (s t : Tables) (mark : Mark) → TablesGrow s t → mark ≡ mark_of s → cells_of s ≤ most_cells → FewAt mark t
few_at s t mark g m few = record {
  few = λ classes methods.
      let rows : t.classes.rows ≡ s.classes.rows = same_rows s.classes.rows t.classes.rows g.classes (classes ∙ ap (λ (k : Mark). k.classes) m) in
      let generics : t.generics ≡ s.generics = same_generics s.generics t.generics g.generics (methods ∙ ap (λ (k : Mark). k.methods) m) in
      let same : cells_of t ≡ cells_of s =
      ap (λ cs. sum_by (generic_cells (with_classes cs)) t.generics) rows ∙ ap (λ gs. sum_by (generic_cells (with_classes s.classes.rows)) gs) generics in
      omega (arith, same, few);
}

pub first_count : (t : Tables) (count : CellCount) → t ≡ first_tables t.words t.classes → IsCellCount t.classes.rows [] count → IsCellCount t.classes.rows t.generics count
first_count t count e h = subst (λ (gs : List GenericRow). IsCellCount t.classes.rows gs count) (sym (ap (λ (u : Tables). u.generics) e)) h

-- what is counted is few, and a form that stops at its cells has too many

pub count_few : (t : Tables) (old : CellCount) (new : Option CellCount) → IsCountAfter t old new → cells_of t ≤ most_cells
count_few t old None h = h.0
count_few t old (Some new) h = h.few

pub few_rows : (t : Tables) (cs : List ClassRow) (gs : List GenericRow) → cs ≡ t.classes.rows → gs ≡ t.generics → all_cells cs gs ≤ most_cells → cells_of t ≤ most_cells
few_rows t cs gs e f h =
    let classes : all_cells t.classes.rows gs ≤ most_cells = subst (λ ks. all_cells ks gs ≤ most_cells) e h in
    subst (λ hs. all_cells t.classes.rows hs ≤ most_cells) f classes

pub too_many : (t : Tables) (cs : List ClassRow) (gs : List GenericRow) → cs ≡ t.classes.rows → gs ≡ t.generics → most_cells < all_cells cs gs → most_cells < cells_of t
too_many t cs gs e f h =
    let classes : most_cells < all_cells t.classes.rows gs = subst (λ ks. most_cells < all_cells ks gs) e h in
    subst (λ hs. most_cells < all_cells t.classes.rows hs) f classes

pub stops_at_cells : (names : List (List ℕ)) (origin : Origin) (s : Tables) (d : Item) (t : Tables) (stop : Stop) → IsElaborated names origin s d t → nodes_of t ≤ most_nodes →
    StopsAtCells t d stop → IsFormStopped names origin s d stop
stops_at_cells names origin s d t (Refused r) given small h = inr (inr (record { tables = t; given = given; small = small; many = h.1 }, h.0))
stops_at_cells names origin s d t NoMemory given small h = tt

-- a main form more
main_grows : (t : Tables) (f : Form) → TablesGrow t (record t { main = t.main ++ f ∷ [] })
main_grows t f = let g = tables_grow_reflexive t in record {
  words = g.words;
  classes = g.classes;
  slots = g.slots;
  generics = g.generics;
  literals = g.literals;
  procedures = g.procedures;
  functions = g.functions;
  macros = g.macros;
  prelude = g.prelude;
  globals = g.globals;
  set = g.set;
  dynamics = g.dynamics;
  sites = g.sites;
  fresh = g.fresh;
  main = grows_at_end t.main t.main (f ∷ []) g.main;
  variables = g.variables;
  exits = g.exits;
  expansions = g.expansions;
  before = g.before;
}

pub pushed_grows : {T E : Type 0} (r : Result T E) (t : Tables) (fs : List Form) (f : Form) → OnOk r (fs ≡ t.main ++ f ∷ []) → OnErr r (fs ≡ t.main) →
    TablesGrow t (record t { main = fs })
pushed_grows (Ok x) t fs f ok err = rw ok (main_grows t f)
pushed_grows (Err x) t fs f ok err = rw err (tables_grow_reflexive t)
