-- The rows of forms that define are apt: a function is there under a name of its own, with a procedure that stands alone.
use Rattle.std.proofs.Common.{◌≡◌, ◌+◌, ◌==◌, ◌≤◌, ⊎_elim, ℕ, Bool, true, false, not, ◌&&◌, ◌||◌, List, [], ◌∷◌, ◌++◌, length, Option, Some, None, is_some, refl, sym, ap, subst, ◌∙◌, arith}
use Rattle.std.specs.List.{list_any, list_all}
use Rattle.std.proofs.lemmas.Bool.{eqb-false, ne_eqb}
use Rattle.std.proofs.lemmas.List.{length-append}
use Rattle.std.proofs.lemmas.Bool.{and_parts, and_from, not-true, or_parts, or_right}
use Rattle.base.specs.declared.place.Place.{Place}
use Rattle.base.specs.declared.datum.Name.{Name}
use Rattle.base.specs.Data.{Item}
use Rattle.base.specs.DataFormed.{is_formed, formed_tells}
use Rattle.base.specs.AllOf.{AllOf}
use Rattle.base.specs.WellFormedData.{WellFormed}
use Rattle.base.specs.Names.{slice_get-behind, slice_get-push}
use Rattle.lang_meaning.specs.declared.program.GenericRow.{GenericRow}
use Rattle.lang_meaning.specs.declared.program.FunctionRow.{FunctionRow}
use Rattle.lang_meaning.specs.declared.program.Callee.{Callee}
use Rattle.lang_meaning.specs.declared.program.Callee.TheVariants as callee
use Rattle.lang_meaning.specs.declared.program.LiteralRow.TheVariants as row
use Rattle.lang_meaning.specs.declared.program.Procedure.{Procedure}
use Rattle.lang_meaning.specs.declared.scope.LexicalScope.{LexicalScope}
use Rattle.lang_meaning.specs.Lookup.{all_differ}
use Rattle.lang_meaning.specs.Standing.{is_alone}
use Rattle.lang_meaning.specs.Facts.{same_name, callee_fits}
use Rattle.lang_meaning.specs.ProgramCounts.{procedure_nodes}
use Rattle.front_profile.specs.declared.tables.Tables.{Tables}
use Rattle.front_profile.specs.declared.tables.MacroRow.{MacroRow}
use Rattle.front_profile.specs.declared.parameters.Parameters.{Parameters}
use Rattle.front_profile.specs.declared.elaboration.DefinedAs.{DefinedAs}
use Rattle.front_profile.specs.declared.elaboration.DefinedAs.TheVariants.{Function, Macro}
use Rattle.front_profile.specs.declared.elaboration.One.TheVariants.{DefineGlobal, DefineDynamic}
use Rattle.front_profile.specs.Nodes.{StaticContext, Part, Node}
use Rattle.front_profile.specs.Elaborations.{leaf_form, forms_found, with_defined, procedure_found}
use Rattle.front_profile.specs.Shapes.{symbol_of, parameters_in, all_symbols}
use Rattle.front_profile.specs.RowWords.{each_parameter, each_inner, alone}
use Rattle.front_profile.specs.FunctionNodes.{function_parts}
use Rattle.front_profile.specs.DefiningRows.{named, is_that, has_global, has_dynamic, global_variable, dynamic_variable, is_set, is_of_prelude, has_function, is_taken, is_truth, is_reserved, defining_offence, unless_offending, global_as, global_row, defdynamic_as, defdynamic_row, with_name, named_form, defun_of, defun_with, defun_as, defun_row}
use Rattle.front_profile.specs.Definitions.{Definitions, defined, rows_of, Later, Undefined, has_function as has_row, macro_stands, SoundDefinitions, EachStands}
use Rattle.front_profile.specs.Places.{scope_of}
use Rattle.front_profile.specs.Right.{RightIn, NodesCounted}
use Rattle.front_profile.proofs.Tests.{all_more}
use Rattle.front_profile.proofs.Definitions.{Entered, entered_same, entered_literal, later_then, literals_later, procedures_later, own_later, generics_later, functions_later, macros_later, callee_fits_later, mains_later, each_stands_same, all_push, counted_same, counted_then}
use Rattle.front_profile.proofs.Procedures.{all_low}
use Rattle.front_profile.proofs.Functions.{FitsAlone, fits_at_most, one_more, later_procedure, sound_procedure, procedure_counted, found_procedure}
use Rattle.front_profile.proofs.Nodes.{nodes_in, found_nodes, body_nodes}
use Rattle.front_profile.specs.Numbers.{Numbered}
use Rattle.front_profile.proofs.FoundNodes.{both_plain, inner_plain, parameters_plain, forms_counted}
use Rattle.front_profile.proofs.Good.{good_later, good_alone}
use Rattle.front_profile.proofs.Places.{any_front}
use Rattle.front_profile.proofs.Matches.{parameters_match}
use Rattle.front_profile.proofs.MadeForms.{made_body, made_literal}
use Rattle.front_profile.proofs.Wanted.{spots, AptAt, Stage, all_ordinary, counted_nodes, counted_at_most}
use Rattle.front_profile.proofs.Apt.{apt_if, apt_within}
use Rattle.front_profile.proofs.ValueRows.{apt_one}
use Rattle.front_profile.proofs.BinderRows.{found_parameters, function_apt}

-- where nothing offends

pub where_no_offence : (n : ℕ) (a : StaticContext) (s : Tables) (p : Place) (top taken reserved : Bool) (x : Node) → (top ≡ true → taken ≡ false → reserved ≡ false → AptAt n a s x)
    → AptAt n a s (unless_offending p (defining_offence top taken reserved) x)
where_no_offence n a s p top true reserved x h = tt
where_no_offence n a s p false false reserved x h = tt
where_no_offence n a s p true false true x h = tt
where_no_offence n a s p true false false x h = h refl refl refl

-- variables

apt_global_as : (n : ℕ) (constant : Bool) (a : StaticContext) (s : Tables) (p : Place) (name : Option Name) (x : Item) → Stage a s → WellFormed n x
    → AptAt n a s (global_as constant a s p name x)
apt_global_as n constant a s p None x b g = tt
apt_global_as n constant a s p (Some name) x b g =
    where_no_offence n a s p a.spot.top (has_global a.spot.sited s name) (is_truth a s name) _
    (λ t k r. apt_if n a s (constant && is_set s name) _ _ tt (apt_one n a p s (DefineGlobal (global_variable a name constant)) x b tt g))

pub apt_global : (n : ℕ) (constant : Bool) (a : StaticContext) (s : Tables) (p : Place) (ds : List Item) → Stage a s → AllOf (WellFormed n) ds → AptAt n a s (global_row constant a s p ds)
apt_global n constant a s p (d ∷ x ∷ []) b g = apt_global_as n constant a s p (named (symbol_of d)) x b g.1.0
apt_global n constant a s p [] b g = tt
apt_global n constant a s p (d ∷ []) b g = tt
apt_global n constant a s p (d ∷ x ∷ e ∷ ds) b g = tt

apt_defdynamic_as : (n : ℕ) (a : StaticContext) (s : Tables) (p : Place) (name : Option Name) (x : Item) → Stage a s → WellFormed n x → AptAt n a s (defdynamic_as a s p name x)
apt_defdynamic_as n a s p None x b g = tt
apt_defdynamic_as n a s p (Some name) x b g =
    where_no_offence n a s p a.spot.top (has_dynamic a.spot.sited s name) (is_truth a s name) _ (λ t k r. apt_one n a p s (DefineDynamic (dynamic_variable a name)) x b tt g)

pub apt_defdynamic : (n : ℕ) (a : StaticContext) (s : Tables) (p : Place) (ds : List Item) → Stage a s → AllOf (WellFormed n) ds → AptAt n a s (defdynamic_row a s p ds)
apt_defdynamic n a s p (d ∷ x ∷ []) b g = apt_defdynamic_as n a s p (named (symbol_of d)) x b g.1.0
apt_defdynamic n a s p [] b g = tt
apt_defdynamic n a s p (d ∷ []) b g = tt
apt_defdynamic n a s p (d ∷ x ∷ e ∷ ds) b g = tt

-- no function has the name before

pub no_function : (s : Tables) (n : Name) → has_function s n ≡ false → list_any (λ f. is_that n f.name) s.functions ≡ false
no_function s n h = (or_parts (list_any (λ f. is_that n f.name) s.functions) (list_any (λ m. is_that n m.name) s.macros) h).0

pub fresh_name : (sited has prelude truth kept : Bool) → (has && not (sited && prelude)) ≡ false → (truth || (sited && (kept || prelude))) ≡ false → has ≡ false
fresh_name sited false prelude truth kept h k = refl
fresh_name false true prelude truth kept h k = absurd (cc h)
fresh_name true true false truth kept h k = absurd (cc h)
fresh_name true true true true kept h k = absurd (cc k)
fresh_name true true true false true h k = absurd (cc k)
fresh_name true true true false false h k = absurd (cc k)

pub other_way : (m n : ℕ) → (m == n) ≡ false → (n == m) ≡ false
other_way m n h = ne_eqb n m (λ e. eqb-false m n h (sym e))

none_more : (f y : FunctionRow) (fs : List FunctionRow) → list_any (same_name f) fs ≡ false → same_name f y ≡ false → list_any (same_name f) (fs ++ y ∷ []) ≡ false
none_more f y [] h k = rw k refl
none_more f y (x ∷ xs) h k = by_test (same_name f x) (list_any (same_name f) xs) (list_any (same_name f) (xs ++ y ∷ [])) (λ e. none_more f y xs e k) h
  where
    by_test : (b o u : Bool) → (o ≡ false → u ≡ false) → (b || o) ≡ false → (b || u) ≡ false
    by_test true o u g h = absurd (cc h)
    by_test false o u g h = g h

pub one_name_more : (name : Name) (c : Callee) (fs : List FunctionRow) → all_differ same_name fs ≡ true → list_any (λ f. is_that name f.name) fs ≡ false
    → all_differ same_name (fs ++ (record { name = name; callee = c }) ∷ []) ≡ true
one_name_more name c [] h k = refl
one_name_more name c (f ∷ fs) h k =
    let d : (not (list_any (same_name f) fs) ≡ true) × (all_differ same_name fs ≡ true) = and_parts (not (list_any (same_name f) fs)) (all_differ same_name fs) h in
    let o : (is_that name f.name ≡ false) × (list_any (λ f. is_that name f.name) fs ≡ false) = or_parts (is_that name f.name) (list_any (λ f. is_that name f.name) fs) k in
    and_from (not (list_any (same_name f) (fs ++ (record { name = name; callee = c }) ∷ []))) _
    (ap not (none_more f (record { name = name; callee = c }) fs (not-true (list_any (same_name f) fs) d.0) (other_way name.0 f.name.0 o.0)))
    (one_name_more name c fs d.1 o.1)

-- with a function

abbrev pub with_row : Definitions → FunctionRow → Definitions
with_row g f = record g { functions = g.functions ++ f ∷ [] }

pub later_row : (g : Definitions) (f : FunctionRow) → Later g (with_row g f)
later_row g f = record {
  literals = omega arith;
  procedures = omega arith;
  kept = λ i q e. e;
  classes = omega arith;
  generics = omega arith;
  sites = omega arith;
  variables = omega arith;
  exits = omega arith;
}

-- names of functions are names of more functions
pub named_more : (fs : List FunctionRow) (f : FunctionRow) (gs : List GenericRow) → list_all (has_row fs) gs ≡ true → list_all (has_row (fs ++ f ∷ [])) gs ≡ true
named_more fs f gs h = all_more (has_row fs) (has_row (fs ++ f ∷ [])) (λ g e. any_front (λ (k : FunctionRow). g.name.0 == k.name.0) fs (f ∷ []) e) gs h

pub sound_row : (g : Definitions) (name : Name) (c : Callee) → SoundDefinitions g → callee_fits (rows_of g) c ≡ true → list_any (λ f. is_that name f.name) g.functions ≡ false
    → SoundDefinitions (with_row g (record { name = name; callee = c }))
sound_row g name c w e k =
    let f : FunctionRow = record { name = name; callee = c } in
    let h : Definitions = with_row g f in
    let l : Later g h = later_row g f in
    record {
      literals = literals_later g h l g.literals w.literals;
      procedures = procedures_later g h l g.procedures w.procedures;
      classes = record { hierarchy = w.classes.hierarchy; slots = own_later g h l g.classes.own w.classes.slots };
      generics = record {
        fit = generics_later g h l g.generics w.generics.fit;
        names = w.generics.names;
        named = named_more g.functions f g.generics w.generics.named;
      };
      functions = all_push (λ f. callee_fits (rows_of h) f.callee) g.functions f (functions_later g h l g.functions w.functions) (callee_fits_later g h l c e);
      names = one_name_more name c g.functions w.names k;
      macros = macros_later g h l g.macros w.macros;
      main = mains_later g h l g.main w.main;
    }

-- with a macro

abbrev with_macro_row : Definitions → MacroRow → Definitions
with_macro_row g m = record g { macros = g.macros ++ m ∷ [] }

later_macro : (g : Definitions) (m : MacroRow) → Later g (with_macro_row g m)
later_macro g m = record {
  literals = omega arith;
  procedures = omega arith;
  kept = λ i q e. e;
  classes = omega arith;
  generics = omega arith;
  sites = omega arith;
  variables = omega arith;
  exits = omega arith;
}

sound_macro : (g : Definitions) (m : MacroRow) → SoundDefinitions g → macro_stands g m ≡ true → SoundDefinitions (with_macro_row g m)
sound_macro g m w k =
    let h : Definitions = with_macro_row g m in
    let l : Later g h = later_macro g m in
    record {
      literals = literals_later g h l g.literals w.literals;
      procedures = procedures_later g h l g.procedures w.procedures;
      classes = record { hierarchy = w.classes.hierarchy; slots = own_later g h l g.classes.own w.classes.slots };
      generics = record { fit = generics_later g h l g.generics w.generics.fit; names = w.generics.names; named = w.generics.named };
      functions = functions_later g h l g.functions w.functions;
      names = w.names;
      macros = all_push (macro_stands h) g.macros m (macros_later g h l g.macros w.macros) k;
      main = mains_later g h l g.main w.main;
    }

-- the function of a procedure more

abbrev with_both : Definitions → Name → Procedure → Definitions
with_both g name p = with_row (one_more g p) (record { name = name; callee = callee.Procedure (length g.procedures) })

later_function : (g : Definitions) (name : Name) (p : Procedure) → Later g (with_both g name p)
later_function g name p = later_then g (one_more g p) (with_both g name p) (later_procedure g p) (later_row (one_more g p) _)

whole_function : (g : Definitions) (name : Name) (p : Procedure) → SoundDefinitions g → FitsAlone g false p → list_any (λ f. is_that name f.name) g.functions ≡ false
    → SoundDefinitions (with_both g name p)
whole_function g name p w f k =
    sound_row (one_more g p) name (callee.Procedure (length g.procedures)) (sound_procedure g p w (fits_at_most g false p f))
    (ap (is_alone false) (slice_get-behind g.procedures p) ∙ f.alone) k

stands_with : (g : Definitions) (name : Name) (p : Procedure) → is_alone false (Some p) ≡ true → EachStands g → EachStands (with_both g name p)
stands_with g name p a s = record {
  stands = λ i q e.
      ⊎_elim (λ front. s.stands i q front) (λ last. or_right _ _ (ap (λ r. is_alone false (Some r)) (sym last.1) ∙ a)) (slice_get-push g.procedures p i q e);
}

stands_one : (g : Definitions) (p : Procedure) → is_alone false (Some p) ≡ true → EachStands g → EachStands (one_more g p)
stands_one g p a s = record {
  stands = λ i q e.
      ⊎_elim (λ front. s.stands i q front) (λ last. or_right _ _ (ap (λ r. is_alone false (Some r)) (sym last.1) ∙ a)) (slice_get-push g.procedures p i q e);
}

-- a function or a macro more

later_defined : (k : DefinedAs) (name : Name) (p : Procedure) (of_file : Bool) (u : Tables) → Later (defined u) (defined (with_defined k name p of_file u))
later_defined Function name p of_file u = later_function (defined u) name p
later_defined Macro name p of_file u =
    later_then (defined u) (one_more (defined u) p) (defined (with_defined Macro name p of_file u)) (later_procedure (defined u) p) (later_macro (one_more (defined u) p) _)

sound_defined : (k : DefinedAs) (name : Name) (p : Procedure) (of_file : Bool) (u : Tables) → SoundDefinitions (defined u) → FitsAlone (defined u) false p
    → list_any (λ f. is_that name f.name) u.functions ≡ false → SoundDefinitions (defined (with_defined k name p of_file u))
sound_defined Function name p of_file u w f e = whole_function (defined u) name p w f e
sound_defined Macro name p of_file u w f e =
    sound_macro (one_more (defined u) p) (record { name = name; procedure = length u.procedures })
    (sound_procedure (defined u) p w (fits_at_most (defined u) false p f)) (ap (is_alone false) (slice_get-behind u.procedures p) ∙ f.alone)

main_defined : (k : DefinedAs) (name : Name) (p : Procedure) (of_file : Bool) (u : Tables) → (with_defined k name p of_file u).main ≡ u.main
main_defined Function name p of_file u = refl
main_defined Macro name p of_file u = refl

stands_defined : (k : DefinedAs) (name : Name) (p : Procedure) (of_file : Bool) (u : Tables) → is_alone false (Some p) ≡ true → EachStands (defined u)
    → EachStands (defined (with_defined k name p of_file u))
stands_defined Function name p of_file u a s = stands_with (defined u) name p a s
stands_defined Macro name p of_file u a s = record { stands = (stands_one (defined u) p a s).stands }

-- the name of a file's function is a literal
pub name_entered : (sited : Bool) (d : Item) (s : Tables) → SoundDefinitions (defined s) → is_formed d ≡ true → Entered (defined s) (defined (with_name sited d s))
name_entered true d s w g = entered_literal (defined s) (row.Datum d) w g
name_entered false d s w g = entered_same (defined s) w

pub name_right : (sited : Bool) (d : Item) (s : Tables) (h : Definitions) (t : LexicalScope) (k : ℕ) → k + 1 ≤ 1000 → Later (defined (with_name sited d s)) h
    → RightIn h t k (leaf_form (named_form sited s))
name_right true d s h t k l e = made_literal h t k (length s.literals) l (omega (arith, e.literals, length-append s.literals (row.Datum d ∷ [])))
name_right false d s h t k l e = made_body h t k [] l tt

-- the sites of a body are counted by its procedure
function_counted : (b : Bool) (x g : Definitions) (name : Name) (p : Procedure) (n k : ℕ) → n ≤ procedure_nodes p → NodesCounted b x g n → NodesCounted b x (with_both g name p) k
function_counted b x g name p n k l c = let r : NodesCounted b x (one_more g p) k = procedure_counted b x g p n k l c in record { sites = r.sites }

defined_counted : (b : Bool) (x : Definitions) (d : DefinedAs) (name : Name) (p : Procedure) (of_file : Bool) (u : Tables) (n k : ℕ) → n ≤ procedure_nodes p
    → NodesCounted b x (defined u) n → NodesCounted b x (defined (with_defined d name p of_file u)) k
defined_counted b x Function name p of_file u n k l c = function_counted b x (defined u) name p n k l c
defined_counted b x Macro name p of_file u n k l c = let r : NodesCounted b x (one_more (defined u) p) k = procedure_counted b x (defined u) p n k l c in record { sites = r.sites }

pub name_counted : (b sited : Bool) (d : Item) (s : Tables) → NodesCounted b (defined s) (defined (with_name sited d s)) 0
name_counted b true d s = record { sites = (counted_same b (defined s)).sites }
name_counted b false d s = record { sites = (counted_same b (defined s)).sites }

pub name_numbered : (sited : Bool) (s : Tables) (h k : Definitions) → Numbered h k (leaf_form (named_form sited s))
name_numbered true s h k = record { numbers = refl }
name_numbered false s h k = record { numbers = refl }

apt_defun_of : (n : ℕ) (k : DefinedAs) (a : StaticContext) (s : Tables) (name : Name) (d : Item) (fs : List Item) (ps : Parameters) → Stage a s → WellFormed n d → AllOf (WellFormed n) fs
    → a.spot.top ≡ true → has_function s name ≡ false → a.spot.depth + 1 ≤ 1000 → AptAt n a s (defun_of k a s name d fs ps)
apt_defun_of n kind a s name d fs ps b h g top fresh l =
    let i : StaticContext = alone false a in
    let t : Tables = with_name a.spot.sited d s in
    let xs : List Part = function_parts ps fs in
    let e : Entered (defined s) (defined t) = name_entered a.spot.sited d s b.whole (formed_tells d h.formed) in
    record {
      entered = e;
      outside = good_later (defined s) (defined t) i e.later (good_alone (defined s) false a b.good);
      inside = good_later (defined s) (defined t) i e.later (good_alone (defined s) false a b.good);
      level = λ k. absurd (cc k);
      sited = (refl, refl);
      parts = function_apt n i ps fs refl g;
      right = λ u rs c. name_right a.spot.sited d s _ (scope_of a) a.spot.depth l (later_then (defined t) (defined u) _ c.later (later_defined kind name _ a.spot.sited u));
      leaves = λ u rs c.
          let p : Procedure = procedure_found (Some name) (length ps.required) (is_some ps.rest) rs in
          let fits : FitsAlone (defined u) false p =
          found_procedure (defined u) a false (Some name) ps rs (b.good.top top) (parameters_match (spots (defined u) i i rs) (all_symbols ps) fs rs c.match)
          (found_parameters (defined u) i i ps fs rs c.match) in
          let parts : Undefined (defined t) (defined u) = c.undefined (all_ordinary n i xs refl (function_apt n i ps fs refl g)) (all_low false false xs refl refl) in
          let same : u.functions ≡ s.functions = parts.functions ∙ e.same.functions in
          record {
            later = later_then (defined t) (defined u) _ c.later (later_defined kind name p a.spot.sited u);
            sound = sound_defined kind name p a.spot.sited u c.whole fits
                (subst (λ (fs : List FunctionRow). list_any (λ f. is_that name f.name) fs ≡ false) (sym same) (no_function s name fresh));
            main = main_defined kind name p a.spot.sited u ∙ c.main;
            inside = λ k. absurd (cc (top, k));
            stand = λ k. stands_defined kind name p a.spot.sited u fits.alone (each_stands_same (defined t) (defined u) parts k);
          };
      counted = λ u rs c k.
          let p : Procedure = procedure_found (Some name) (length ps.required) (is_some ps.rest) rs in
          let forms : found_nodes rs ≡ nodes_in (forms_found rs) =
          forms_counted (spots (defined u) i i rs) (function_parts ps fs) rs c.match
          (both_plain (each_parameter (all_symbols ps)) (each_inner fs) (parameters_plain (all_symbols ps)) (inner_plain fs)) in
          defined_counted a.spot.sited (defined s) kind name p a.spot.sited u (0 + counted_nodes xs rs) _ (omega (arith, counted_at_most xs rs, forms, body_nodes (forms_found rs)))
          (counted_then a.spot.sited (defined s) (defined t) (defined u) 0 (counted_nodes xs rs) (name_counted a.spot.sited a.spot.sited d s) k);
      numbered = λ u rs c m. name_numbered a.spot.sited s _ _;
    }

apt_defun_with : (n : ℕ) (k : DefinedAs) (a : StaticContext) (s : Tables) (name : Name) (d l : Item) (fs : List Item) (ps : Option Parameters) → Stage a s → WellFormed n d → AllOf (WellFormed n) fs
    → a.spot.top ≡ true → has_function s name ≡ false → a.spot.depth + 1 ≤ 1000 → AptAt n a s (defun_with k a s name d l fs ps)
apt_defun_with n kind a s name d l fs None b h g top fresh k = tt
apt_defun_with n kind a s name d l fs (Some ps) b h g top fresh k = apt_defun_of n kind a s name d fs ps b h g top fresh k

apt_defun_as : (n : ℕ) (k : DefinedAs) (kept : Bool) (a : StaticContext) (s : Tables) (p : Place) (d l : Item) (fs : List Item) (name : Option Name) → Stage a s → WellFormed n d → AllOf (WellFormed n) fs
    → AptAt n a s (defun_as k kept a s p d l fs name)
apt_defun_as n kind kept a s p d l fs None b h g = tt
apt_defun_as n kind kept a s p d l fs (Some name) b h g =
    where_no_offence n a s p a.spot.top (is_taken a.spot.sited s name) (is_reserved kept a s name) _
    (λ t k r. apt_within n a s 1 p _ (apt_defun_with n kind a s name d l fs (parameters_in s.words l) b h g t
    (fresh_name a.spot.sited (has_function s name) (is_of_prelude s name) (is_truth a s name) kept k r)))

pub apt_defun : (n : ℕ) (k : DefinedAs) (kept : Bool) (a : StaticContext) (s : Tables) (p : Place) (ds : List Item) → Stage a s → AllOf (WellFormed n) ds → AptAt n a s (defun_row k kept a s p ds)
apt_defun n k kept a s p [] b g = tt
apt_defun n k kept a s p (d ∷ []) b g = tt
apt_defun n k kept a s p (d ∷ l ∷ fs) b g = apt_defun_as n k kept a s p d l fs (named (symbol_of d)) b g.0 g.1.1
