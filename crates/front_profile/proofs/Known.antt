-- Tables that are known: sound ones, and those with other names, generic functions and methods.
use Rattle.std.proofs.Common.{◌≡◌, ◌<◌, ◌==◌, ℕ, nat_lt, Bool, true, false, List, [], ◌∷◌, ◌++◌, length, refl, sym, ap, subst, ◌∙◌, arith}
use Rattle.std.specs.List.{list_all, list_any}
use Rattle.std.proofs.lemmas.Bool.{and_parts, or_left, or_parts, eq-eqb}
use Rattle.base.specs.declared.datum.Name.{Name}
use Rattle.lang_meaning.specs.declared.program.Callee.TheVariants as callee
use Rattle.lang_meaning.specs.declared.program.FunctionRow.{FunctionRow}
use Rattle.lang_meaning.specs.declared.program.GenericRow.{GenericRow}
use Rattle.lang_meaning.specs.Facts.{method_fits, same_method, generic_fits}
use Rattle.lang_meaning.specs.Lookup.{all_differ, is_in}
use Rattle.lang_classes.specs.InheritedClasses.{Hierarchy}
use Rattle.lang_dispatch.specs.Methods.{names_of}
use Rattle.front_profile.specs.declared.tables.Tables.{Tables}
use Rattle.front_profile.specs.declared.elaboration.MethodHead.{MethodHead}
use Rattle.front_profile.specs.Elaborations.{with_generic, with_method_at}
use Rattle.front_profile.specs.DefiningRows.{is_that}
use Rattle.front_profile.specs.Suits.{SuitsName}
use Rattle.front_profile.specs.Below.{SameNames}
use Rattle.front_profile.specs.Definitions.{Definitions, defined, rows_of, has_function, SoundTables}
use Rattle.front_profile.specs.Known.{method_there, methods_there, KnownRows, KnownTables}
use Rattle.front_profile.proofs.Tests.{all_more}
use Rattle.front_profile.proofs.Places.{any_behind}
use Rattle.front_profile.proofs.Definitions.{method_parts, all_push}
use Rattle.front_profile.proofs.DefiningRows.{named_more, other_way}
use Rattle.front_profile.proofs.Adding.{no_generic, new_row, method_of, tables_with, all_with}

-- methods that fit have classes that are there
fit_there : (g : Definitions) (x : GenericRow) → generic_fits (rows_of g) x ≡ true → methods_there (length g.classes.rows) x ≡ true
fit_there g x h =
    let e : (list_all (method_fits (rows_of g) x) x.methods ≡ true) × (all_differ same_method x.methods ≡ true) = and_parts _ _ h in
    all_more (method_fits (rows_of g) x) (method_there (length g.classes.rows)) (λ m k. (method_parts (rows_of g) x m k).in_range) x.methods e.0

-- sound tables are known
pub sound_known : (s : Tables) → SoundTables s → KnownTables s
sound_known s w = record {
  some = omega (arith, w.classes.hierarchy.enough);
  named = w.generics.named;
  there = all_more (generic_fits (rows_of (defined s))) (methods_there (length s.classes.rows)) (fit_there (defined s)) s.generics w.generics.fit;
}

-- where nothing is defined, they are as they were
pub known_same : (s t : Tables) → SameNames s t → KnownTables s → KnownTables t
known_same s t e w = record {
  some = subst (λ (h : Hierarchy). 0 < length h.rows) (sym e.classes) w.some;
  named = ap (λ fs. list_all (has_function fs) t.generics) e.functions ∙ ap (list_all (has_function s.functions)) e.generics ∙ w.named;
  there = ap (λ (h : Hierarchy). list_all (methods_there (length h.rows)) t.generics) e.classes
      ∙ ap (list_all (methods_there (length s.classes.rows))) e.generics ∙ w.there;
}

-- with a function more
pub known_function : (s : Tables) (f : FunctionRow) → KnownTables s → KnownRows s.classes.rows (s.functions ++ f ∷ []) s.generics
known_function s f w = record { some = w.some; named = named_more s.functions f s.generics w.named; there = w.there }

-- a name of no function is new

-- among the names of generic functions
not_in : (n : Name) (gs : List GenericRow) → list_any (λ (x : GenericRow). x.name.0 == n.0) gs ≡ false → is_in n.0 (names_of gs) ≡ false
not_in n [] h = refl
not_in n (g ∷ gs) h =
    let o : ((g.name.0 == n.0) ≡ false) × (list_any (λ (x : GenericRow). x.name.0 == n.0) gs ≡ false) =
    or_parts (g.name.0 == n.0) (list_any (λ (x : GenericRow). x.name.0 == n.0) gs) h in
    rw (other_way g.name.0 n.0 o.0) (not_in n gs o.1)

-- in the tables
pub name_suits : (s : Tables) (n : Name) → KnownTables s → list_any (λ f. is_that n f.name) s.functions ≡ false → SuitsName n s
name_suits s n w h = record { new = not_in n s.generics (no_generic n s.functions s.generics h w.named) }

-- with a generic function more
pub known_generic : (s : Tables) (n : Name) (required : ℕ) (rest of_file : Bool) → KnownTables s → KnownTables (with_generic n required rest of_file s)
known_generic s n required rest of_file w =
    let f : FunctionRow = record { name = n; callee = callee.Generic (length s.generics) } in
    record {
      some = w.some;
      named = all_push (has_function (s.functions ++ f ∷ [])) s.generics (new_row n required rest) (named_more s.functions f s.generics w.named)
          (any_behind (λ (x : FunctionRow). n.0 == x.name.0) s.functions (f ∷ []) (or_left (n.0 == n.0) false (eq-eqb n.0 n.0 refl)));
      there = all_push (methods_there (length s.classes.rows)) s.generics (new_row n required rest) w.there refl;
    }

-- with a method more
pub known_method : (s : Tables) (i : ℕ) (h : MethodHead) (p : ℕ) → KnownTables s → list_all (λ c. nat_lt c (length s.classes.rows)) h.classes ≡ true
    → KnownTables (with_method_at i h p s)
known_method s i h p w l =
    let n : ℕ = length s.classes.rows in
    record {
      some = w.some;
      named = ap (list_all (has_function s.functions)) (tables_with s s.generics i h p)
          ∙ all_with (has_function s.functions) s.generics i (method_of h p) w.named (λ x e f. f);
      there = ap (list_all (methods_there n)) (tables_with s s.generics i h p)
          ∙ all_with (methods_there n) s.generics i (method_of h p) w.there (λ x e f. all_push (method_there n) x.methods (method_of h p) f l);
    }
