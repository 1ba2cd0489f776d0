-- Whole tables between top-level forms, and the program that they are.
use Rattle.std.proofs.Common.{◌≡◌, ◌+◌, ◌≤◌, ℕ, suc, Bool, true, false, ◌||◌, List, [], ◌∷◌, ◌++◌, length, slice_get, Some, None, refl, sym, ap, subst, ◌∙◌, arith}
use Rattle.std.specs.List.{list_all, sum_by}
use Rattle.std.proofs.lemmas.List.Sums.{sum_by_push}
use Rattle.std.proofs.lemmas.Bool.{le-leb}
use Rattle.std.proofs.lemmas.Bool.{and_parts, and_from}
use Rattle.base.specs.Data.{Item}
use Rattle.base.specs.WellFormedData.{WellFormed}
use Rattle.base.specs.AllOf.{AllOf}
use Rattle.lang_meaning.specs.declared.program.Procedure.{Procedure}
use Rattle.lang_meaning.specs.declared.program.ProgramRows.{ProgramRows}
use Rattle.lang_meaning.specs.Cells.{program_cells}
use Rattle.lang_meaning.specs.declared.program.FunctionRow.{FunctionRow}
use Rattle.lang_meaning.specs.declared.scope.LexicalScope.{LexicalScope}
use Rattle.lang_meaning.specs.Form.{Form}
use Rattle.lang_meaning.specs.Counts.{depth, all_nodes}
use Rattle.lang_meaning.specs.ProgramCounts.{program_nodes}
use Rattle.lang_meaning.specs.Lookup.{all_differ}
use Rattle.lang_meaning.specs.Standing.{is_alone, alone as alone_in, stands}
use Rattle.lang_meaning.specs.Facts.{body_fits, literal_fits, same_name, generic_fits, callee_fits, is_of_method, procedures_stand, rows_fit, bodies_stand, is_whole}
use Rattle.lang_classes.specs.InheritedBuiltIn.{AreBuiltIn}
use Rattle.front_profile.specs.declared.tables.Tables.{Tables}
use Rattle.front_profile.specs.declared.bound.Bound.{Bound}
use Rattle.front_profile.specs.Nodes.{StaticContext, Standing, stands as comes_to}
use Rattle.front_profile.specs.Rows.{node}
use Rattle.lang_derived.specs.WellFormedSteps.{StepsAreWellFormed}
use Rattle.front_profile.specs.Judged.{Elaborates}
use Rattle.front_profile.specs.Definitions.{Definitions, defined, rows_of, Later, procedure_fits, has_function, same_generic, macro_stands, main_fits, EachStands, WholeDefinitions, SoundTables, WholeTables, FewSites}
use Rattle.front_profile.specs.Between.{TopLevelTables, HasNoForm}
use Rattle.front_profile.specs.Places.{variables_around, exit_numbers, exits_around, scope_of, Rises, FunctionThere, EmptyContext, WellFormedContext}
use Rattle.front_profile.specs.Right.{RightAt, Behind, Came, with_main, NodesCounted}
use Rattle.front_profile.specs.Classes.{BeginsBuiltIn}
use Rattle.front_profile.proofs.Classes.{built_in_begin, begins_later, built_in_slots_fit, classes_fit}
use Rattle.front_profile.proofs.Tests.{all_more}
use Rattle.front_profile.proofs.Definitions.{literals_later, procedures_later, own_later, generics_later, functions_later, macros_later, each_stands_same, mains_later, main_fits_later, all_push}
use Rattle.front_profile.proofs.Wanted.{right_at}
use Rattle.front_profile.proofs.Good.{scope_with}
use Rattle.front_profile.proofs.ClassRules.{ClassRules}
use Rattle.front_profile.proofs.AllRows.{apt_node}
use Rattle.front_profile.proofs.Growing.{begins_node}
use Rattle.front_profile.proofs.Grown.{node_grows}
use Rattle.front_profile.proofs.Parts.{CameAs}
use Rattle.front_profile.proofs.Elaborated.{node_came}
use Rattle.lang_taken.specs.Laws.{LawOfForm}

-- a datum at a good place beside sound tables
pub form_came : StepsAreWellFormed → LawOfForm → ClassRules → (names : List (List ℕ)) (a : StaticContext) (s : Tables) (d : Item) (m : Standing) → WellFormed (length names) d → WellFormedContext (defined s) a
    → SoundTables s → Elaborates names (node names a s d) (comes_to m) → Came a s m
form_came keep form rules names a s d m g o w c =
    let r : CameAs (right_at a) a.spot (defined s) m =
    node_came keep form rules names (node names a s d) (comes_to m) c (right_at a) a.spot (defined s) (apt_node rules names (length names) a s d (record { good = o; whole = w }) g) in
    record {
      right = r.right;
      behind = r.leaves;
      counted = r.counted;
      numbered = r.numbered;
      grown = node_grows names (node names a s d) (comes_to m) c s (begins_node names s a d);
    }

-- tables stay whole
whole_behind : (top : Bool) (s t : Tables) → Behind top (defined s) (defined t) → WholeTables s → WholeTables t
whole_behind top s t b w = record { sound = b.sound; procedures = b.stand w.procedures }

-- where nothing is bound, all is good
pub nothing_good : (g : Definitions) (a : StaticContext) → EmptyContext a → WellFormedContext g a
nothing_good g a n = record {
  variables = subst (λ (bs : List Bound). Rises 0 (variables_around bs) g.variables) (sym n.bound) (omega arith);
  exits = subst (λ (bs : List Bound). Rises 0 (exit_numbers bs) g.exits) (sym n.bound) (omega arith);
  functions = subst (λ (bs : List Bound). AllOf (FunctionThere (variables_around bs)) bs) (sym n.bound) tt;
  top = λ e. n;
}

-- a form that stands alone is a main form

alone_there : (a : StaticContext) → EmptyContext a → scope_of a ≡ alone_in [] false
alone_there a n =
    ap (λ bs. scope_with (variables_around bs) (exits_around bs) a.spot.in_method) n.bound ∙ ap (λ b. scope_with [] [] b) n.method

fits_as_main : (g : Definitions) (a : StaticContext) (f : Form) → EmptyContext a → RightAt g a f → main_fits g f ≡ true
fits_as_main g a f n r =
    and_from _ _ (and_from _ _ r.fits (le-leb (depth f) 1000 (omega (arith, r.deep))))
    (subst (λ (s : LexicalScope). stands s f ≡ true) (alone_there a n) r.stands)

later_main : (g : Definitions) (fs : List Form) → Later g (record g { main = fs })
later_main g fs = record {
  literals = omega arith;
  procedures = omega arith;
  kept = λ i q e. e;
  classes = omega arith;
  generics = omega arith;
  sites = omega arith;
  variables = omega arith;
  exits = omega arith;
}

pub main_whole : (a : StaticContext) (t : Tables) (f : Form) → EmptyContext a → RightAt (defined t) a f → WholeTables t → WholeTables (with_main f t)
main_whole a t f n r w =
    let g : Definitions = defined t in
    let h : Definitions = defined (with_main f t) in
    let l : Later g h = later_main g (t.main ++ f ∷ []) in
    record {
      sound = record {
        literals = literals_later g h l t.literals w.sound.literals;
        procedures = procedures_later g h l t.procedures w.sound.procedures;
        classes = record { hierarchy = w.sound.classes.hierarchy; slots = own_later g h l t.classes.own w.sound.classes.slots };
        generics = record { fit = generics_later g h l t.generics w.sound.generics.fit; names = w.sound.generics.names; named = w.sound.generics.named };
        functions = functions_later g h l t.functions w.sound.functions;
        names = w.sound.names;
        macros = macros_later g h l t.macros w.sound.macros;
        main = all_push (main_fits h) t.main f (mains_later g h l t.main w.sound.main) (main_fits_later g h l f (fits_as_main g a f n r));
      };
      procedures = each_stands_same g h (record { procedures = refl; classes = refl; generics = refl; functions = refl; macros = refl }) w.procedures;
    }

-- the tables in front of all forms
first_whole : (texts : List (List ℕ)) (t : Tables) → AreBuiltIn texts t.classes → HasNoForm t → WholeTables t
first_whole texts t b n = record {
  sound = record {
    literals = ap (list_all (literal_fits (rows_of (defined t)))) n.literals;
    procedures = ap (list_all (procedure_fits (defined t))) n.procedures;
    classes = record { hierarchy = b.hierarchy; slots = built_in_slots_fit (defined t) texts t.classes b };
    generics = record {
      fit = ap (list_all (generic_fits (rows_of (defined t)))) n.generics;
      names = ap (all_differ same_generic) n.generics;
      named = ap (list_all (has_function t.functions)) n.generics;
    };
    functions = ap (list_all (λ (f : FunctionRow). callee_fits (rows_of (defined t)) f.callee)) n.functions;
    names = ap (all_differ same_name) n.functions;
    macros = ap (list_all (macro_stands (defined t))) n.macros;
    main = ap (list_all (main_fits (defined t))) n.main;
  };
  procedures = record { stands = λ i p e. let none : None ≡ Some p = ap (λ ps. slice_get ps i) (sym n.procedures) ∙ e in absurd (cc none) };
}

pub first_between : (texts : List (List ℕ)) (t : Tables) → AreBuiltIn texts t.classes → HasNoForm t → TopLevelTables t
first_between texts t b n =
    let none : length t.sites ≡ 0 = ap (λ ps. length ps) n.sites in
    record {
      whole = first_whole texts t b n;
      classes = built_in_begin texts t.classes b;
      sites = record { few = omega (arith, none) };
    }

-- sites and nodes of main forms

main_then : (fs : List Form) (f : Form) → sum_by all_nodes (fs ++ f ∷ []) ≡ sum_by all_nodes fs + all_nodes f
main_then fs f = sum_by_push all_nodes fs f

sites_of_file : (b : Bool) (g h : Definitions) (f : Form) → h.main ≡ g.main → NodesCounted b g h (all_nodes f) → FewSites g → FewSites (record h { main = h.main ++ f ∷ [] })
sites_of_file true g h f e c s =
    let same : sum_by all_nodes h.main ≡ sum_by all_nodes g.main = ap (sum_by all_nodes) e in
    record { few = omega (arith, c.sites, s.few, same, main_then h.main f) }
sites_of_file false g h f e c s =
    let same : sum_by all_nodes h.main ≡ sum_by all_nodes g.main = ap (sum_by all_nodes) e in
    record { few = omega (arith, c.sites, s.few, same, main_then h.main f) }

sites_of_prelude : (b : Bool) (g h : Definitions) (f : Form) → b ≡ false → h.main ≡ g.main → NodesCounted b g h (all_nodes f) → FewSites g → FewSites h
sites_of_prelude true g h f u e c s = absurd (cc u)
sites_of_prelude false g h f u e c s =
    let same : sum_by all_nodes h.main ≡ sum_by all_nodes g.main = ap (sum_by all_nodes) e in
    record { few = omega (arith, c.sites, s.few, same) }

same_classes : (a : StaticContext) (s : Tables) (m : Standing) → Came a s m → BeginsBuiltIn s.classes.rows → BeginsBuiltIn m.tables.classes.rows
same_classes a s m r c = begins_later s.classes.rows m.tables.classes.rows r.grown.classes c

pub file_between : (a : StaticContext) (s : Tables) (m : Standing) → EmptyContext a → Came a s m → TopLevelTables s → TopLevelTables (with_main m.form m.tables)
file_between a s m n r b = record {
  whole = main_whole a m.tables m.form n r.right (whole_behind a.spot.top s m.tables r.behind b.whole);
  classes = same_classes a s m r b.classes;
  sites = sites_of_file a.spot.sited (defined s) (defined m.tables) m.form r.behind.main r.counted b.sites;
}

pub prelude_between : (a : StaticContext) (s : Tables) (m : Standing) → a.spot.sited ≡ false → Came a s m → TopLevelTables s → TopLevelTables m.tables
prelude_between a s m u r b = record {
  whole = whole_behind a.spot.top s m.tables r.behind b.whole;
  classes = same_classes a s m r b.classes;
  sites = sites_of_prelude a.spot.sited (defined s) (defined m.tables) m.form u r.behind.main r.counted b.sites;
}

-- the program of whole tables

-- from each procedure by its number to all of them
procedures_alone : (r : ProgramRows) (i : ℕ) (ps : List Procedure)
    → ((j k : ℕ) (p : Procedure) → k ≡ i + j → slice_get ps j ≡ Some p → (is_of_method r k || is_alone false (Some p)) ≡ true) → procedures_stand r i ps ≡ true
procedures_alone r i [] h = refl
procedures_alone r i (p ∷ ps) h =
    and_from _ _ (h 0 i p (omega arith) refl) (procedures_alone r (i + 1) ps (λ j k q e f. h (suc j) k q (omega (arith, e)) f))

all_stand : (g : Definitions) → EachStands g → procedures_stand (rows_of g) 0 g.procedures ≡ true
all_stand g s =
    procedures_alone (rows_of g) 0 g.procedures (λ j k p e f. let same : k ≡ j = omega (arith, e) in s.stands k p (ap (slice_get g.procedures) same ∙ f))

procedures_fit : (g : Definitions) (ps : List Procedure) → list_all (procedure_fits g) ps ≡ true → list_all (λ p. body_fits (rows_of g) p.body) ps ≡ true
procedures_fit g ps h =
    all_more (procedure_fits g) (λ p. body_fits (rows_of g) p.body) (λ p e. (and_parts (body_fits (rows_of g) p.body) (is_alone true (Some p)) e).0) ps h

pub rows_whole : (g : Definitions) → WholeDefinitions g → BeginsBuiltIn g.classes.rows → length g.sites ≤ 100000 → program_nodes (rows_of g) ≤ 100000
    → program_cells (rows_of g) ≤ 262144 → is_whole (rows_of g) ≡ true
rows_whole g w c s n k =
    let r : ProgramRows = rows_of g in
    and_from _ _
    (and_from (rows_fit r) (bodies_stand r)
    (and_from _ _ (and_from _ _ (and_from _ _ (and_from _ _ (and_from _ _ c.begins w.sound.literals) (procedures_fit g g.procedures w.sound.procedures)) w.sound.names)
    (le-leb (length g.sites) 100000 s)) (le-leb (program_nodes r) 100000 n))
    (and_from _ _ (and_from _ _ (and_from _ _ (and_from _ _ (classes_fit g w.sound.classes) w.sound.generics.fit) w.sound.functions) w.sound.main)
    (all_stand g w.procedures)))
    (le-leb (program_cells r) 262144 k)

-- each site is one of a node
pub sites_within : (g : Definitions) → FewSites g → program_nodes (rows_of g) ≤ 100000 → length g.sites ≤ 100000
sites_within g s n = omega (arith, s.few, n)

pub program_whole : (t : Tables) → TopLevelTables t → program_nodes (rows_of (defined t)) ≤ 100000 → program_cells (rows_of (defined t)) ≤ 262144
    → is_whole (rows_of (defined t)) ≡ true
program_whole t b n k = rows_whole (defined t) b.whole b.classes (sites_within (defined t) b.sites n) n k
