-- Nodes of functions of definitions: each leaves the procedure that it is of.
use Rattle.std.proofs.Common.{◌≡◌, ◌+◌, ◌==◌, ◌≤◌, ◌<◌, if◌then◌else◌, ℕ, Bool, true, false, List, [], ◌∷◌, ◌++◌, take, drop, length, Option, Some, None, is_some, refl, sym, ap, subst, ◌∙◌, arith, append-nil, length-append}
use Rattle.std.specs.List.{sum_by}
use Rattle.std.proofs.lemmas.List.Sums.{sum_by_push}
use Rattle.std.proofs.lemmas.List.{length-take, length-drop}
use Rattle.std.proofs.lemmas.Bool.{le-leb, eq-eqb, and_from, or_left, or_right}
use Rattle.base.specs.declared.datum.Name.{Name}
use Rattle.base.specs.Data.{Item}
use Rattle.base.specs.DataFormed.{is_formed}
use Rattle.base.specs.AllOf.{AllOf}
use Rattle.base.specs.WellFormedData.{WellFormed}
use Rattle.base.specs.Names.{slice_get-front}
use Rattle.lang_meaning.specs.declared.program.LiteralRow.TheVariants as row
use Rattle.lang_meaning.specs.declared.program.Procedure.{Procedure}
use Rattle.lang_meaning.specs.declared.scope.LexicalScope.{LexicalScope}
use Rattle.lang_meaning.specs.declared.capture.Capture.{Capture as Captured}
use Rattle.lang_meaning.specs.declared.capture.Capture.TheVariants as part
use Rattle.lang_meaning.specs.Form.{Form, form_and, no_form, sequence, parameters}
use Rattle.lang_meaning.specs.Counts.{depth}
use Rattle.lang_meaning.specs.ProgramCounts.{procedure_nodes}
use Rattle.lang_meaning.specs.Facts.{body_fits}
use Rattle.lang_meaning.specs.Signals.{variables}
use Rattle.lang_meaning.specs.Standing.{alone as alone_in, with_bound, stands, is_variable, is_alone}
use Rattle.front_profile.specs.declared.tables.Tables.{Tables}
use Rattle.front_profile.specs.declared.parameters.Parameters.{Parameters}
use Rattle.front_profile.specs.declared.elaboration.Accessor.{Accessor}
use Rattle.front_profile.specs.declared.elaboration.Accessor.TheVariants.{Reads, Writes, Asks}
use Rattle.front_profile.specs.declared.elaboration.ElaboratedPart.{ElaboratedPart}
use Rattle.front_profile.specs.declared.elaboration.Elaboration.TheVariants.{OfProcedure}
use Rattle.front_profile.specs.Nodes.{StaticContext, Part, Written, initform, accessor, method}
use Rattle.front_profile.specs.Elaborations.{forms_found, variables_found, body_of, rest_found, procedure_found, accessor_procedure, accessor_form, accessor_variables, place_form, arguments_of}
use Rattle.front_profile.specs.Shapes.{all_symbols}
use Rattle.front_profile.specs.RowWords.{each_parameter, each_inner, alone}
use Rattle.front_profile.specs.FunctionNodes.{function_parts, variables_of, with_accessor, function_node, body_alone}
use Rattle.front_profile.specs.Scopes.{Provides, ScopeWithin}
use Rattle.front_profile.specs.Definitions.{Definitions, defined, rows_of, Later, Undefined, procedure_fits, SoundDefinitions}
use Rattle.front_profile.specs.Places.{variables_around, exits_around, scope_of, EmptyContext, WellFormedContext}
use Rattle.front_profile.specs.Right.{RightIn, NodesCounted}
use Rattle.front_profile.proofs.Enough.{stands_within}
use Rattle.front_profile.proofs.Forms.{right_whole}
use Rattle.front_profile.proofs.Definitions.{later_then, sound_later, all_push, Entered, entered_same, entered_then, entered_literal, entered_numbers, counted_same, counted_then}
use Rattle.front_profile.proofs.Nodes.{nodes_in, found_nodes, body_nodes}
use Rattle.front_profile.proofs.FoundNodes.{both_plain, inner_plain, parameters_plain, forms_counted}
use Rattle.front_profile.proofs.PartsFound.{symbols_counted}
use Rattle.front_profile.proofs.Good.{good_later, good_alone, scope_with}
use Rattle.front_profile.proofs.Matches.{new_variables, ParametersMatch, parameters_match}
use Rattle.front_profile.proofs.MadeForms.{made_body, made_literal, made_local}
use Rattle.front_profile.proofs.Wanted.{spots, AptFunction, AllApt, all_ordinary, counted_nodes, counted_at_most, one_procedure, Apt}
use Rattle.front_profile.proofs.BinderRows.{found_parameters, function_apt}
use Rattle.front_profile.proofs.Procedures.{Takes, IsFor, all_low}

-- a form that stands alone in no method stands in a method
method_within : (vs : List ℕ) (b : Bool) → ScopeWithin (alone_in vs b) (alone_in vs true)
method_within vs b = record { provides = provides }
  where
    provides : (p : Captured) → Provides (alone_in vs b) (alone_in vs true) p
    provides (part.Variable v) = λ h. h
    provides (part.Exit x) = λ a h. h
    provides part.Method = λ h. refl

-- a procedure that fits, with a body that stands with its variables alone, in a method or not
pub record FitsAlone (g : Definitions) (has_next : Bool) (p : Procedure) : Type 0 where
  pub fits : body_fits (rows_of g) p.body ≡ true
  pub alone : is_alone has_next (Some p) ≡ true

pub alone_more : (has_next : Bool) (p : Procedure) → is_alone has_next (Some p) ≡ true → is_alone true (Some p) ≡ true
alone_more has_next p h = stands_within (alone_in (variables p) has_next) (alone_in (variables p) true) p.body (method_within (variables p) has_next) h

pub fits_at_most : (g : Definitions) (has_next : Bool) (p : Procedure) → FitsAlone g has_next p → procedure_fits g p ≡ true
fits_at_most g has_next p f = and_from _ _ f.fits (alone_more has_next p f.alone)

-- with a procedure more

abbrev pub one_more : Definitions → Procedure → Definitions
one_more g p = record g { procedures = g.procedures ++ p ∷ [] }

pub later_procedure : (g : Definitions) (p : Procedure) → Later g (one_more g p)
later_procedure g p = record {
  literals = omega arith;
  procedures = omega (arith, length-append g.procedures (p ∷ []));
  kept = λ i q e. slice_get-front g.procedures (p ∷ []) i q e;
  classes = omega arith;
  generics = omega arith;
  sites = omega arith;
  variables = omega arith;
  exits = omega arith;
}

pub sound_procedure : (g : Definitions) (p : Procedure) → SoundDefinitions g → procedure_fits g p ≡ true → SoundDefinitions (one_more g p)
sound_procedure g p w f =
    sound_later g (one_more g p) (later_procedure g p) w w.literals (all_push (procedure_fits g) g.procedures p w.procedures f) refl refl refl refl refl

pub procedures_then : (ps : List Procedure) (p : Procedure) → sum_by procedure_nodes (ps ++ p ∷ []) ≡ sum_by procedure_nodes ps + procedure_nodes p
procedures_then ps p = sum_by_push procedure_nodes ps p

-- the sites of a body are counted by its procedure
pub procedure_counted : (b : Bool) (x g : Definitions) (p : Procedure) (n k : ℕ) → n ≤ procedure_nodes p → NodesCounted b x g n → NodesCounted b x (one_more g p) k
procedure_counted true x g p n k l c = record { sites = omega (arith, c.sites, l, procedures_then g.procedures p) }
procedure_counted false x g p n k l c = record { sites = omega (arith, c.sites, procedures_then g.procedures p) }

-- the procedure that was found

-- a body alone leaves such a procedure
pub found_procedure : (h : Definitions) (a : StaticContext) (has_next : Bool) (name : Option Name) (ps : Parameters) (rs : List ElaboratedPart) → EmptyContext a
    → ParametersMatch (spots h (alone has_next a) (alone has_next a) rs) (length (all_symbols ps)) rs
    → parameters (take (length ps.required) (variables_found rs)) (rest_found (is_some ps.rest) (drop (length ps.required) (variables_found rs))) ≡ new_variables rs
    → FitsAlone h has_next (procedure_found name (length ps.required) (is_some ps.rest) rs)
found_procedure h a has_next name ps rs nothing m e =
    let t : LexicalScope = with_bound (new_variables rs) (scope_of (alone has_next a)) in
    let u : LexicalScope = alone_in (parameters (take (length ps.required) (variables_found rs)) (rest_found (is_some ps.rest) (drop (length ps.required) (variables_found rs)))) has_next in
    let body : RightIn h t 0 (body_of (forms_found rs)) = made_body h t 0 (forms_found rs) (omega arith) m.forms in
    let same : t ≡ u =
    ap (λ bs. scope_with (new_variables rs ++ variables_around bs) (exits_around bs) has_next) nothing.bound
    ∙ ap (λ vs. scope_with vs [] has_next) (append-nil (new_variables rs) ∙ sym e) in
    record {
      fits = and_from _ _ body.fits (le-leb (depth (body_of (forms_found rs))) 1000 (omega (arith, body.deep)));
      alone = subst (λ (v : LexicalScope). stands v (body_of (forms_found rs)) ≡ true) same body.stands;
    }

-- a list of so many has so many in front, and some behind where there is one more
rest_is : (required rest : ℕ) (b : Bool) (vs : List ℕ) → length vs ≡ required + rest → (b ≡ true → 1 ≤ rest) → is_some (rest_found b (drop required vs)) ≡ b
rest_is required rest b vs e f = by_rest b (drop required vs) (omega (arith, length-drop required vs, e)) f
  where
    by_rest : (b : Bool) (ws : List ℕ) → length ws ≡ rest → (b ≡ true → 1 ≤ rest) → is_some (rest_found b ws) ≡ b
    by_rest false ws l f = refl
    by_rest true [] l f = absurd (let k : 1 ≤ rest = f refl in omega (arith, l, k))
    by_rest true (w ∷ ws) l f = refl

pub found_takes : (name : Option Name) (has_next : Bool) (ps : Parameters) (rs : List ElaboratedPart) → length (variables_found rs) ≡ length (all_symbols ps)
    → is_alone has_next (Some (procedure_found name (length ps.required) (is_some ps.rest) rs)) ≡ true
    → Takes (length ps.required) (is_some ps.rest) has_next (procedure_found name (length ps.required) (is_some ps.rest) rs)
found_takes name has_next ps rs e h = record {
  count = omega (arith, length-take (length ps.required) (variables_found rs), e, symbols_counted ps);
  more = rest_is (length ps.required) (if is_some ps.rest then 1 else 0) (is_some ps.rest) (variables_found rs) (e ∙ symbols_counted ps) (one (is_some ps.rest));
  alone = h;
}
  where
    one : (b : Bool) → b ≡ true → 1 ≤ (if b then 1 else 0)
    one true k = omega arith
    one false k = absurd (cc k)

-- a function whose body stands alone
apt_alone : (n : ℕ) (o : StaticContext) (s : Tables) (w : Written) (has_next : Bool) (name : Option Name) (ps : Parameters) (fs : List Item) → SoundDefinitions (defined s)
    → WellFormedContext (defined s) o → EmptyContext o → AllOf (WellFormed n) fs → ((p : Procedure) → Takes (length ps.required) (is_some ps.rest) has_next p → IsFor w p)
    → Apt (one_procedure w) o.spot n (defined s) (body_alone has_next o s (function_parts ps fs) (OfProcedure name (length ps.required) (is_some ps.rest)))
apt_alone n o s w has_next name ps fs b g nothing good is =
    let i : StaticContext = alone has_next o in
    let xs : List Part = function_parts ps fs in
    let parts : AllApt n i xs = function_apt n i ps fs refl good in
    record {
      entered = entered_same (defined s) b;
      outside = good_alone (defined s) has_next o g;
      inside = good_alone (defined s) has_next o g;
      level = λ e. absurd (cc e);
      sited = (refl, refl);
      parts = parts;
      right = λ u rs c. tt;
      leaves = λ u rs c.
          let p : Procedure = procedure_found name (length ps.required) (is_some ps.rest) rs in
          let m : ParametersMatch (spots (defined u) i i rs) (length (all_symbols ps)) rs = parameters_match (spots (defined u) i i rs) (all_symbols ps) fs rs c.match in
          let fits : FitsAlone (defined u) has_next p = found_procedure (defined u) o has_next name ps rs nothing m (found_parameters (defined u) i i ps fs rs c.match) in
          let same : Undefined (defined s) (defined u) = c.undefined (all_ordinary n i xs refl parts) (all_low false false xs refl refl) in
          record {
            later = later_then (defined s) (defined u) (one_more (defined u) p) c.later (later_procedure (defined u) p);
            whole = sound_procedure (defined u) p c.whole (fits_at_most (defined u) has_next p fits);
            main = c.main;
            same = record { classes = same.classes; generics = same.generics; functions = same.functions };
            procedure = p;
            procedures = ap (λ qs. qs ++ p ∷ []) same.procedures;
            is = is p (found_takes name has_next ps rs m.count fits.alone);
          };
      counted = λ u rs c k.
          let p : Procedure = procedure_found name (length ps.required) (is_some ps.rest) rs in
          procedure_counted o.spot.sited (defined s) (defined u) p (counted_nodes xs rs) 0
          (few_nodes (counted_nodes xs rs) (found_nodes rs) (nodes_in (forms_found rs)) _ _ (counted_at_most xs rs)
          (forms_counted (spots (defined u) i i rs) xs rs c.match
          (both_plain (each_parameter (all_symbols ps)) (each_inner fs) (parameters_plain (all_symbols ps)) (inner_plain fs)))
          (body_nodes (forms_found rs)))
          k;
      numbered = λ u rs c k. record { numbers = refl };
    }
  where
    few_nodes : (a b c d parameters : ℕ) → a ≤ b → b ≡ c → d ≡ c + 1 → a ≤ d + parameters + 4
    few_nodes a b c d parameters h e f = omega (arith, h, e, f)

-- the function of a slot's option

same_test : (v : ℕ) → (v == v) ≡ true
same_test v = eq-eqb v v refl

place_right : (h : Definitions) (s : LexicalScope) (n x l : ℕ) → n + 1 + 1 ≤ 1000 → is_variable s x ≡ true → l < length h.literals → RightIn h s n (place_form x l)
place_right h s n x l d e k =
    right_whole h s n (place_form x l) refl refl (omega (arith, d)) refl refl (made_local h s (n + 1) x d e, (made_literal h s (n + 1) l d k, tt)) tt

accessor_right : (h : Definitions) (k : Accessor) (v l : ℕ) → l < length h.literals → RightIn h (alone_in (accessor_variables k v) false) 1 (accessor_form k v l)
accessor_right h Reads v l e =
    let s : LexicalScope = alone_in (v ∷ []) false in
    let there : is_variable s v ≡ true = or_left (v == v) false (same_test v) in
    right_whole h s 1 (accessor_form Reads v l) refl refl (omega arith) refl refl
    (made_local h s 2 v (omega arith) there, (place_right h s 2 v l (omega arith) there e, tt)) tt
accessor_right h Writes v l e =
    let s : LexicalScope = alone_in (v ∷ (v + 1) ∷ []) false in
    let first : is_variable s v ≡ true = or_left (v == v) _ (same_test v) in
    let second : is_variable s (v + 1) ≡ true = or_right (v + 1 == v) _ (or_left (v + 1 == v + 1) false (same_test (v + 1))) in
    right_whole h s 1 (accessor_form Writes v l) refl refl (omega arith) refl refl
    (made_local h s 2 v (omega arith) first, (made_local h s 2 (v + 1) (omega arith) second, (place_right h s 2 (v + 1) l (omega arith) second e, tt))) tt
accessor_right h Asks v l e =
    let s : LexicalScope = alone_in (v ∷ []) false in
    let there : is_variable s v ≡ true = or_left (v == v) false (same_test v) in
    right_whole h s 1 (accessor_form Asks v l) refl refl (omega arith) refl refl
    (made_local h s 2 v (omega arith) there, (place_right h s 2 v l (omega arith) there e, tt)) tt

accessor_fits : (h : Definitions) (name : Name) (k : Accessor) (v l : ℕ) → l < length h.literals → FitsAlone h false (accessor_procedure name k v l)
accessor_fits h name k v l e =
    let f : Form = sequence (form_and (accessor_form k v l) no_form) in
    let s : LexicalScope = alone_in (accessor_variables k v) false in
    let r : RightIn h s 0 f = right_whole h s 0 f refl refl (omega arith) refl refl (accessor_right h k v l e, tt) tt in
    record { fits = and_from _ _ r.fits (le-leb (depth f) 1000 (omega (arith, r.deep))); alone = alone_with k r }
  where
    alone_with : (k : Accessor) → RightIn h (alone_in (accessor_variables k v) false) 0 (sequence (form_and (accessor_form k v l) no_form))
        → is_alone false (Some (accessor_procedure name k v l)) ≡ true
    alone_with Reads r = r.stands
    alone_with Writes r = r.stands
    alone_with Asks r = r.stands

accessor_takes : (name : Name) (k : Accessor) (v l : ℕ) → is_alone false (Some (accessor_procedure name k v l)) ≡ true
    → Takes (arguments_of k) false false (accessor_procedure name k v l)
accessor_takes name Reads v l a = record { count = refl; more = refl; alone = a }
accessor_takes name Writes v l a = record { count = refl; more = refl; alone = a }
accessor_takes name Asks v l a = record { count = refl; more = refl; alone = a }

apt_accessor : (n : ℕ) (o : StaticContext) (s : Tables) (name : Name) (k : Accessor) (d : Item) → SoundDefinitions (defined s) → WellFormedContext (defined s) o → EmptyContext o
    → is_formed d ≡ true → Apt (one_procedure (accessor name k d)) o.spot n (defined s) (function_node o s (accessor name k d))
apt_accessor n o s name k d b g nothing formed =
    let numbers : Tables = record s { variables = s.variables + variables_of k } in
    let t : Tables = with_accessor k d s in
    let first : Entered (defined s) (defined numbers) = entered_numbers (defined s) (s.variables + variables_of k) s.exits (omega arith) (omega arith) b in
    let e : Entered (defined s) (defined t) = entered_then (defined s) (defined numbers) (defined t) first (entered_literal (defined numbers) (row.Datum d) first.whole formed) in
    let p : Procedure = accessor_procedure name k s.variables (length s.literals) in
    record {
      entered = e;
      outside = good_later (defined s) (defined t) o e.later g;
      inside = good_later (defined s) (defined t) o e.later g;
      level = λ l. nothing;
      sited = (refl, refl);
      parts = tt;
      right = λ u rs c. tt;
      leaves = λ u rs c.
          let fits : FitsAlone (defined u) false p =
          accessor_fits (defined u) name k s.variables (length s.literals) (omega (arith, c.later.literals, length-append s.literals (row.Datum d ∷ []))) in
          let same : Undefined (defined t) (defined u) = c.undefined tt tt in
          record {
            later = later_then (defined t) (defined u) (one_more (defined u) p) c.later (later_procedure (defined u) p);
            whole = sound_procedure (defined u) p c.whole (fits_at_most (defined u) false p fits);
            main = c.main;
            same = record { classes = same.classes; generics = same.generics; functions = same.functions };
            procedure = p;
            procedures = ap (λ qs. qs ++ p ∷ []) same.procedures;
            is = accessor_takes name k s.variables (length s.literals) fits.alone;
          };
      counted = λ u rs c m.
          let here : NodesCounted o.spot.sited (defined s) (defined t) 0 = record { sites = (counted_same o.spot.sited (defined s)).sites } in
          procedure_counted o.spot.sited (defined s) (defined u) p (0 + 0) 0 (omega arith)
          (counted_then o.spot.sited (defined s) (defined t) (defined u) 0 0 here m);
      numbered = λ u rs c m. record { numbers = refl };
    }

-- what is of a function takes what it does
initform_is_for : (d : Item) (p : Procedure) → Takes 0 false false p → IsFor (initform d) p
initform_is_for d p t = t

pub apt_function_node : (n : ℕ) (o : StaticContext) (s : Tables) (w : Written) → SoundDefinitions (defined s) → WellFormedContext (defined s) o → EmptyContext o → AptFunction n w
    → Apt (one_procedure w) o.spot n (defined s) (function_node o s w)
apt_function_node n o s (initform d) b g nothing a =
    apt_alone n o s (initform d) false None (record { required = []; rest = None }) (d ∷ []) b g nothing (a, tt) (initform_is_for d)
apt_function_node n o s (accessor name k d) b g nothing a = apt_accessor n o s name k d b g nothing a
apt_function_node n o s (method name has_next ps fs) b g nothing a =
    apt_alone n o s (method name has_next ps fs) has_next (Some name) ps fs b g nothing a (λ p t. t)
