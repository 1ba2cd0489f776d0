-- The program of a macro's call: the tables where the top-level form began, as those behind it tell them; generic functions that are copied one after
-- another, with their first methods; and the procedure of a macro.
use Rattle.std.proofs.Common.{◌≡◌, ◌≤◌, ◌<◌, ◌∙◌, ◌+◌, ◌++◌, ◌==◌, ◌⊎◌, ⊎_elim, ℕ, zero, suc, true, false, List, [], ◌∷◌, Option, Some, None, take, length, slice_get, refl, ap, sym, subst, arith, add-one}
use Rattle.std.proofs.lemmas.List.{get_or-take, length-take}
use Rattle.std.proofs.lemmas.Option.{slice_get_within, slice_get_past, slice_get-get_or, get_or_from_slice_get}
use Rattle.base.specs.Data.{Item, items_of, list, no_tail}
use Rattle.base.specs.WellFormedData.{WellFormed}
use Rattle.lang_meaning.specs.declared.program.GenericRow.{GenericRow}
use Rattle.lang_meaning.specs.declared.program.Procedure.{Procedure}
use Rattle.lang_meaning.specs.Cells.{program_cells}
use Rattle.lang_meaning.specs.Facts.{is_whole}
use Rattle.lang_meaning.specs.ProgramCounts.{program_nodes}
use Rattle.front_profile.specs.declared.mark.Mark.{Mark}
use Rattle.front_profile.specs.declared.tables.MacroRow.{MacroRow}
use Rattle.front_profile.specs.declared.tables.Tables.{Tables}
use Rattle.front_profile.specs.Between.{TopLevelTables}
use Rattle.front_profile.specs.Cuts.{ReachMethods, ReachesMark, cut_generics, cut_to, opened}
use Rattle.front_profile.specs.Definitions.{defined, rows_of}
use Rattle.front_profile.specs.Expanders.{list_of, tables_before, definitions, procedure_of, expander, program_of}
use Rattle.front_profile.specs.bridge.Cutting.{grown_reaches, cut_grown}
use Rattle.front_programs.specs.Calls.{Begun}

-- the tables have all that was there where the form began
pub begun_reaches : (s : Tables) → Begun s → ReachesMark s.before s
begun_reaches s b = subst (λ (m : Mark). ReachesMark m s) (sym b.grown.before) (grown_reaches (opened b.first) s b.grown)

-- and cut to that they are as they were
pub before_is : (s : Tables) (b : Begun s) → tables_before s ≡ opened b.first
before_is s b =
    ap (λ (m : Mark). cut_to m s) b.grown.before ∙ cut_grown (opened b.first) s b.grown b.whole.whole.sound.classes.hierarchy.classes.paired

-- what is known of the programs of calls
abbrev pub ExpandersAreWhole : Type 0
ExpandersAreWhole =
    (s : Tables) (m : ℕ) (d : Item) (n : ℕ) → TopLevelTables (tables_before s) → program_nodes (rows_of (definitions s)) ≤ 100000
    → program_cells (rows_of (definitions s)) ≤ 262144 → m < length (tables_before s).macros → WellFormed n d → program_nodes (program_of s m d) ≤ 100000
    → is_whole (program_of s m d) ≡ true

pub call_is_whole : ExpandersAreWhole → (s : Tables) (m : ℕ) (d : Item) (n : ℕ) → Begun s → m < length (tables_before s).macros → WellFormed n d
    → program_nodes (program_of s m d) ≤ 100000 → is_whole (program_of s m d) ≡ true
call_is_whole law s m d n b there good few =
    let same : opened b.first ≡ tables_before s = sym (before_is s b) in
    law s m d n
    (subst (λ (t : Tables). TopLevelTables t) same (record { whole = b.whole.whole; classes = b.whole.classes; sites = b.whole.sites }))
    (subst (λ (t : Tables). program_nodes (rows_of (defined t)) ≤ 100000) same b.small)
    (subst (λ (t : Tables). program_cells (rows_of (defined t)) ≤ 262144) same b.few)
    there good few

-- data of which there are some are a list
pub list_there : (ds : List Item) → (length ds == 0) ≡ false → list_of (items_of ds) ≡ list (items_of ds) no_tail
list_there [] h = absurd (cc h)
list_there (d ∷ ds) h = refl

-- a generic function more

reach_next : (k : ℕ) (ns : List ℕ) (gs : List GenericRow) (n : ℕ) (g : GenericRow) → ReachMethods ns gs → slice_get ns k ≡ Some n → slice_get gs k ≡ Some g
    → n ≤ length g.methods
reach_next k [] gs n g r h i = absurd (cc h)
reach_next k (m ∷ ns) [] n g r h i = absurd r
reach_next zero (m ∷ ns) (f ∷ gs) n g r h i =
    let count : m ≡ n = cc h in
    let row : f ≡ g = cc i in
    omega (arith, r.0, count, ap (λ (x : GenericRow). length x.methods) row)
reach_next (suc k) (m ∷ ns) (f ∷ gs) n g r h i = reach_next k ns gs n g r.1 h i

pub reach_at : (k : ℕ) (ns : List ℕ) (gs : List GenericRow) (n : ℕ) (g : GenericRow) → ReachMethods ns gs → slice_get ns k ≡ Some n → slice_get gs k ≡ Some g
    → n ≤ length g.methods
reach_at k ns gs n g r h i = reach_next k ns gs n g r h i

cut_one_more : (k : ℕ) (ns : List ℕ) (gs : List GenericRow) (n : ℕ) (g : GenericRow) → slice_get ns k ≡ Some n → slice_get gs k ≡ Some g
    → cut_generics (take (suc k) ns) gs ≡ cut_generics (take k ns) gs ++ record g { methods = take n g.methods } ∷ []
cut_one_more k [] gs n g h i = absurd (cc h)
cut_one_more k (m ∷ ns) [] n g h i = absurd (cc i)
cut_one_more zero (m ∷ ns) (f ∷ gs) n g h i =
    let count : m ≡ n = cc h in
    let row : f ≡ g = cc i in
    ap (λ j. record f { methods = take j f.methods } ∷ []) count ∙ ap (λ (x : GenericRow). record x { methods = take n x.methods } ∷ []) row
cut_one_more (suc k) (m ∷ ns) (f ∷ gs) n g h i = ap (λ hs. record f { methods = take m f.methods } ∷ hs) (cut_one_more k ns gs n g h i)

pub cut_next : (k : ℕ) (ns : List ℕ) (gs : List GenericRow) (n : ℕ) (g : GenericRow) → slice_get ns k ≡ Some n → slice_get gs k ≡ Some g
    → cut_generics (take (k + 1) ns) gs ≡ cut_generics (take k ns) gs ++ record g { methods = take n g.methods } ∷ []
cut_next k ns gs n g h i = rw (add-one k) (cut_one_more k ns gs n g h i)

-- an item among the first of a list

pub get_taken : {X : Type 0} (n k : ℕ) (xs : List X) (x : X) → k < length (take n xs) → slice_get xs k ≡ Some x → slice_get (take n xs) k ≡ Some x
get_taken n k xs x h e =
    slice_get-get_or (take n xs) k x h ∙ ap Some (get_or-take n xs k x (omega (arith, h, length-take n xs)) ∙ get_or_from_slice_get xs k x x e)

get_none : {X : Type 0} (n k : ℕ) (xs : List X) → n ≤ k ⊎ length xs ≤ k → slice_get (take n xs) k ≡ None
get_none n k xs h = slice_get_past (take n xs) k (⊎_elim (λ l. omega (arith, l, length-take n xs)) (λ l. omega (arith, l, length-take n xs)) h)

-- the procedure of a macro

expander_is : (s : Tables) (m : ℕ) (row : MacroRow) (o : Option Procedure) → m < length (tables_before s).macros → slice_get s.macros m ≡ Some row
    → slice_get (tables_before s).procedures row.procedure ≡ o → expander s m ≡ o
expander_is s m row o h e p = ap (procedure_of (tables_before s).procedures) (get_taken s.before.macros m s.macros row h e) ∙ p

pub expander_missing : (s : Tables) (m : ℕ) (row : MacroRow) → m < length (tables_before s).macros → slice_get s.macros m ≡ Some row
    → s.before.procedures ≤ row.procedure ⊎ length s.procedures ≤ row.procedure → expander s m ≡ None
expander_missing s m row h e l = expander_is s m row None h e (get_none s.before.procedures row.procedure s.procedures l)

pub expander_there : (s : Tables) (m : ℕ) (row : MacroRow) (p : Procedure) → m < length (tables_before s).macros → slice_get s.macros m ≡ Some row
    → row.procedure < s.before.procedures → slice_get s.procedures row.procedure ≡ Some p → expander s m ≡ Some p
expander_there s m row p h e l i =
    let within : row.procedure < length (take s.before.procedures s.procedures) =
    omega (arith, l, slice_get_within s.procedures row.procedure p i, length-take s.before.procedures s.procedures) in
    expander_is s m row (Some p) h e (get_taken s.before.procedures row.procedure s.procedures p within i)
