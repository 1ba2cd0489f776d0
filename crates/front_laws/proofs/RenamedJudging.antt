-- What a node comes to where no macro applies, the renamed node comes to, renamed: by induction over the derivation.
use Rattle.std.specs.Prelude.{◌≡◌, ℕ, zero, suc, ◌+◌, Bool, List, [], ◌∷◌, ◌++◌, Some, None, length, is_some, map, refl}
use Rattle.std.proofs.Common.{ap, sym, ◌∙◌, subst}
use Rattle.std.proofs.lemmas.List.{map-append}
use Rattle.base.specs.declared.datum.Symbol.{Symbol}
use Rattle.base.specs.declared.datum.Symbol.TheVariants.{Fresh}
use Rattle.base.specs.Data.{Item}
use Rattle.lang_meaning.specs.Form.{Form}
use Rattle.lang_meaning.specs.declared.program.LiteralRow.TheVariants as row
use Rattle.lang_derived.specs.Derived.{Derives, new_symbols}
use Rattle.front_profile.specs.declared.bound.Bound.{Bound}
use Rattle.front_profile.specs.declared.bound.Bound.TheVariants.{Variable}
use Rattle.front_profile.specs.declared.elaboration.ElaboratedPart.{ElaboratedPart}
use Rattle.front_profile.specs.declared.elaboration.Elaboration.TheVariants.{OfProcedure, OfAccessor}
use Rattle.front_profile.specs.declared.elaboration.Made.{Made}
use Rattle.front_profile.specs.declared.tables.Tables.{Tables}
use Rattle.front_profile.specs.Nodes.{StaticContext, Part, form, below, inner, bind, parameter, wrong, function, Written, initform, accessor, method, Node, whole, Verdict, stands, ended, behind, recorded, with_bound}
use Rattle.front_profile.specs.RowWords.{deeper}
use Rattle.front_profile.specs.FunctionNodes.{variables_of, function_parts, function_node}
use Rattle.front_profile.specs.Rows.{node}
use Rattle.front_profile.specs.Judged.{with_fresh, with_variable, subject, AllFound, Verdicts, all_stand, one_ended, in_front, made_verdict, Elaborates, offence, step, expanded, expansion_stops, made, ElaboratesAll, ends, goes, stops}
use Rattle.lang_renamed.specs.Renaming.{name_by, symbol_by, item_by, form_by, literal_by}
use Rattle.front_laws.specs.Renaming.{Renames}
use Rattle.front_laws.proofs.WithoutCalls.{NoneApplies, IsWithoutCalls, node_without, subject_without, none_behind}
use Rattle.front_laws.proofs.RenamedTables.{bound_by, context_by, tables_by, written_by, part_by, parts_by, made_by, found_by, node_by, end_by, standing_by, verdict_by}
use Rattle.lang_renamed.proofs.Lists.{both, length_by}
use Rattle.front_laws.proofs.RenamedTexts.{FindsNames}
use Rattle.front_laws.proofs.RenamedSteps.{step_by}
use Rattle.front_laws.proofs.RenamedNodes.{some_same, with_literal_by, alone_by, function_parts_by}
use Rattle.front_laws.proofs.RenamedRows.{node_by_names}
use Rattle.front_laws.proofs.RenamedMakings.{made_form_by, finished_by}

module _ (r : ℕ → ℕ) where
  abbrev all_found_by : AllFound → AllFound
  all_found_by all = record { found = map (found_by r) all.found; tables = tables_by r all.tables }

  abbrev verdicts_by : Verdicts → Verdicts
  verdicts_by (all_stand all) = all_stand (all_found_by all)
  verdicts_by (one_ended e) = one_ended (end_by r e)

  in_front_by : (x : ElaboratedPart) (v : Verdicts) → in_front (found_by r x) (verdicts_by v) ≡ verdicts_by (in_front x v)
  in_front_by x (all_stand all) = refl
  in_front_by x (one_ended e) = refl

  recorded_by : (s : Tables) (x : Part) (f : Form) → recorded (tables_by r s) (part_by r x) (form_by r f) ≡ found_by r (recorded s x f)
  recorded_by s (form d) f = refl
  recorded_by s (below d) f = refl
  recorded_by s (inner d) f = refl
  recorded_by s (bind x d) f = refl
  recorded_by s (parameter x) f = refl
  recorded_by s (wrong p why) f = refl
  recorded_by s (function g) f = refl

  bound_more : (b : Bound) (i : StaticContext) → with_bound (bound_by r b) (context_by r i) ≡ context_by r (with_bound b i)
  bound_more b i = ap (λ (bs : List Bound). record { bound = bs; spot = i.spot }) (sym (map-append (bound_by r) i.bound (b ∷ [])))

  behind_by : (i : StaticContext) (s : Tables) (x : Part) → behind (context_by r i) (tables_by r s) (part_by r x) ≡ context_by r (behind i s x)
  behind_by i s (form d) = refl
  behind_by i s (below d) = refl
  behind_by i s (inner d) = refl
  behind_by i s (bind x d) = bound_more (Variable x s.variables) i
  behind_by i s (parameter x) = bound_more (Variable x s.variables) i
  behind_by i s (wrong p why) = refl
  behind_by i s (function g) = refl

  new_by : (i n : ℕ) → new_symbols i n ≡ map (symbol_by r) (new_symbols i n)
  new_by i zero = refl
  new_by i (suc n) = ap (λ (xs : List Symbol). Fresh 0 i ∷ xs) (new_by (i + 1) n)

  fresh_by : (s : Tables) → length (tables_by r s).fresh ≡ length s.fresh
  fresh_by s = length_by (symbol_by r) s.fresh

  with_fresh_by : (n : ℕ) (s : Tables) → with_fresh n (tables_by r s) ≡ tables_by r (with_fresh n s)
  with_fresh_by n s =
      ap (λ (xs : List Symbol). record (tables_by r s) { fresh = xs })
      (ap (λ (i : ℕ). map (symbol_by r) s.fresh ++ new_symbols i n) (fresh_by s)
      ∙ ap (λ (xs : List Symbol). map (symbol_by r) s.fresh ++ xs) (new_by (length s.fresh) n)
      ∙ sym (map-append (symbol_by r) s.fresh (new_symbols (length s.fresh) n)))

module _ (r : ℕ → ℕ) (old new : List (List ℕ)) (w : Renames r old new) (finds : FindsNames r old new) where
  function_node_by : (a : StaticContext) (s : Tables) (f : Written) → function_node (context_by r a) (tables_by r s) (written_by r f) ≡ node_by r (function_node a s f)
  function_node_by a s (initform d) = refl
  function_node_by a s (accessor n k d) =
      both (λ t (i : ℕ). whole (context_by r a) (context_by r a) t [] (record { site = None; making = OfAccessor (name_by r n) k s.variables i })) _ _ _ _
      (with_literal_by r (row.Datum d) (record s { variables = s.variables + variables_of k })) (length_by (literal_by r) s.literals)
  function_node_by a s (method n has ps fs) =
      alone_by r has a _ s _ (function_parts ps fs) _ (OfProcedure (Some n) (length ps.required) (is_some ps.rest)) refl (function_parts_by r old new w ps fs)
      (both (λ (i : ℕ) (b : Bool). OfProcedure (Some (name_by r n)) i b) _ _ _ _ (length_by (symbol_by r) ps.required) (some_same (symbol_by r) ps.rest))

  subject_by : (o i : StaticContext) (s : Tables) (x : Part) → subject new (context_by r o) (context_by r i) (tables_by r s) (part_by r x) ≡ node_by r (subject old o i s x)
  subject_by o i s (form d) = node_by_names r old new w finds o s d
  subject_by o i s (below d) = node_by_names r old new w finds (deeper 1 o) s d
  subject_by o i s (inner d) = node_by_names r old new w finds i s d
  subject_by o i s (bind x d) = node_by_names r old new w finds o (with_variable s) d
  subject_by o i s (parameter x) = refl
  subject_by o i s (wrong p why) = refl
  subject_by o i s (function f) = function_node_by o s f

  made_verdict_by : (m : Made) (v : Verdicts) → made_verdict (made_by r m) (verdicts_by r v) ≡ verdict_by r (made_verdict m v)
  made_verdict_by m (all_stand all) =
      both (λ (f : Form) (t : Tables). stands (record { form = f; tables = t })) _ _ _ _ (made_form_by r m all.found) (finished_by r old new w finds m all.found all.tables)
  made_verdict_by m (one_ended e) = refl

  derives_by : (s : Tables) (d d2 : Item) (n : ℕ) → Derives old d (length s.fresh) d2 (length s.fresh + n) →
      Derives new (item_by r d) (length (tables_by r s).fresh) (item_by r d2) (length (tables_by r s).fresh + n)
  derives_by s d d2 n x =
      let P : ℕ → Type 0 = λ (i : ℕ). Derives new (item_by r d) i (item_by r d2) (i + n) in
      subst P (sym (fresh_by r s)) (step_by r old new w d (length s.fresh) d2 (length s.fresh + n) x)

  mutual
    pub elaborates_by : (x : Node) (v : Verdict) → Elaborates old x v → IsWithoutCalls x → Elaborates new (node_by r x) (verdict_by r v)
    elaborates_by _ _ (offence p why) none = offence p why
    elaborates_by _ _ (step a s d d2 n v x e) none =
        step (context_by r a) (tables_by r s) (item_by r d) (item_by r d2) n (verdict_by r v) (derives_by s d d2 n x)
        (subst (λ t. Elaborates new (node new (context_by r a) t (item_by r d2)) (verdict_by r v)) (sym (with_fresh_by r n s))
        (subst (λ y. Elaborates new y (verdict_by r v)) (sym (node_by_names r old new w finds a (with_fresh n s) d2))
        (elaborates_by (node old a (with_fresh n s) d2) v e (node_without old a (with_fresh n s) d2 none))))
    elaborates_by _ _ (expanded a s m d e v x c) none = absurd none
    elaborates_by _ _ (expansion_stops a s m d why x) none = absurd none
    elaborates_by _ _ (made o i s xs m v e) none =
        subst (Elaborates new (node_by r (whole o i s xs m))) (made_verdict_by m v)
        (made (context_by r o) (context_by r i) (tables_by r s) (parts_by r xs) (made_by r m) (verdicts_by r v) (all_elaborate_by o i s xs v e none))

    all_elaborate_by : (o i : StaticContext) (s : Tables) (xs : List Part) (v : Verdicts) → ElaboratesAll old o i s xs v → NoneApplies s →
        ElaboratesAll new (context_by r o) (context_by r i) (tables_by r s) (parts_by r xs) (verdicts_by r v)
    all_elaborate_by _ _ _ _ _ (ends o i s) none = ends (context_by r o) (context_by r i) (tables_by r s)
    all_elaborate_by _ _ _ _ _ (goes o i s x xs m v e rest) none =
        subst (ElaboratesAll new (context_by r o) (context_by r i) (tables_by r s) (part_by r x ∷ parts_by r xs))
        (ap (λ y. in_front y (verdicts_by r v)) (recorded_by r s x m.form) ∙ in_front_by r (recorded s x m.form) v)
        (goes (context_by r o) (context_by r i) (tables_by r s) (part_by r x) (parts_by r xs) (standing_by r m) (verdicts_by r v)
        (subst (λ y. Elaborates new y (stands (standing_by r m))) (sym (subject_by o i s x)) (elaborates_by (subject old o i s x) (stands m) e (subject_without old o i s x none)))
        (subst (λ j. ElaboratesAll new (context_by r o) j (tables_by r m.tables) (parts_by r xs) (verdicts_by r v)) (sym (behind_by r i s x))
        (all_elaborate_by o (behind i s x) m.tables xs v rest (none_behind old o i s x m e none))))
    all_elaborate_by _ _ _ _ _ (stops o i s x xs e end) none =
        stops (context_by r o) (context_by r i) (tables_by r s) (part_by r x) (parts_by r xs) (end_by r e)
        (subst (λ y. Elaborates new y (ended (end_by r e))) (sym (subject_by o i s x)) (elaborates_by (subject old o i s x) (ended e) end (subject_without old o i s x none)))

  -- a form where it stands
  pub form_elaborates_by : (a : StaticContext) (s : Tables) (d : Item) (v : Verdict) → Elaborates old (node old a s d) v → NoneApplies s →
      Elaborates new (node new (context_by r a) (tables_by r s) (item_by r d)) (verdict_by r v)
  form_elaborates_by a s d v e none =
      subst (λ y. Elaborates new y (verdict_by r v)) (sym (node_by_names r old new w finds a s d)) (elaborates_by (node old a s d) v e (node_without old a s d none))
