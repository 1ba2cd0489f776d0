-- A verdict on a file, under a table that has the same texts in another order: the renamed verdict.
use Rattle.std.specs.Prelude.{◌≡◌, ℕ, ◌<◌, ◌≤◌, List, [], ◌∷◌, ◌++◌, length, map, refl}
use Rattle.std.proofs.Common.{ap, sym, ◌∙◌, subst, inl, inr}
use Rattle.std.proofs.lemmas.List.{map-append}
use Rattle.base.specs.declared.origin.Origin.{Origin}
use Rattle.base.specs.declared.origin.Origin.TheVariants.{Prelude, File}
use Rattle.base.specs.declared.place.Place.{Place}
use Rattle.base.specs.declared.reason.Reason.{Reason}
use Rattle.base.specs.declared.reason.Refusal.{Refusal}
use Rattle.base.specs.declared.reason.Stop.TheVariants.{Refused}
use Rattle.base.specs.Names.{IsTable}
use Rattle.base.specs.Data.{Item, item, integer, character, symbol, string, vector, nil, list, Items, no_item, item_and}
use Rattle.lang_meaning.specs.Form.{Form}
use Rattle.lang_meaning.specs.declared.program.GenericRow.{GenericRow}
use Rattle.front_profile.specs.declared.mark.Mark.{Mark}
use Rattle.front_profile.specs.declared.tables.Tables.{Tables}
use Rattle.front_profile.specs.Cuts.{method_counts, mark_of, opened}
use Rattle.front_profile.specs.Nodes.{StaticContext, Verdict, stands}
use Rattle.front_profile.specs.Rows.{node}
use Rattle.front_profile.specs.Judged.{Elaborates}
use Rattle.front_profile.specs.Promises.{FormComes}
use Rattle.front_reader.specs.Readers.{first_place}
use Rattle.front_scope.specs.Scopes.{top, with_main, rows_of, nodes_of, most_nodes, cells_of, most_cells, IsElaborated, IsTaken, IsTooLarge, HasManyCells, at_form, IsRefusedWhole, IsFormStopped}
use Rattle.front_files.specs.declared.mode.Mode.{Mode}
use Rattle.front_files.specs.declared.mode.Mode.TheVariants.{Run}
use Rattle.front_files.specs.Shown.{first_text, head_text, is_among, not_shown, stays, printing_at, IsPrinting, IsForm, runs, not_last, last_stays, last_shown}
use Rattle.front_files.specs.Verdicts.{Judgement, all_taken, one_refused, Judges, at_end, form_taken, form_refused, text_stops, FileVerdict, BehindPrelude, source_too_long, prelude_refused, file_refused, file_accepted}
use Rattle.front_files.specs.Verdicts.{Verdict as FileIs}
use Rattle.front_profile.proofs.Growing.{begins_node}
use Rattle.front_profile.proofs.Grown.{node_grows}
use Rattle.front_files.specs.WithoutMacros.{TextLeaves, PreludeLeaves, VerdictLeaves, WithoutMacros, VerdictWithoutMacros}
use Rattle.front_files.specs.bridge.Leaving.{JudgesLeaving, PreludeLeaving, front_such, text_leaves}
use Rattle.front_files.proofs.Told.{before_without}
use Rattle.lang_renamed.specs.Renaming.{name_by, symbol_by, item_by, items_by, form_by, literal_by, procedure_by, function_by, class_by, generic_by}
use Rattle.lang_renamed.proofs.Lists.{length_by}
use Rattle.front_laws.specs.Renaming.{Renames, file_verdict_by}
use Rattle.front_laws.proofs.RenamedTables.{context_by, global_by, dynamic_by, macro_by, tables_by, verdict_by}
use Rattle.front_laws.proofs.RenamedData.{place_by, text_of_by}
use Rattle.front_laws.proofs.RenamedTexts.{FindsNames, number_of_by, next_by}
use Rattle.front_laws.proofs.WithoutCalls.{NoneApplies}
use Rattle.front_laws.proofs.RenamedLater.{renames_later, finds_later}
use Rattle.front_laws.proofs.RenamedJudging.{form_elaborates_by}
use Rattle.front_laws.proofs.RenamedCounts.{nodes_by, cells_by}
use Rattle.front_laws.proofs.RenamedFirst.{first_from}

module _ (r : ℕ → ℕ) where
  abbrev judgement_by : Judgement → Judgement
  judgement_by (all_taken t) = all_taken (tables_by r t)
  judgement_by (one_refused x) = one_refused x

  main_by : (origin : Origin) (f : Form) (t : Tables) → with_main origin (form_by r f) (tables_by r t) ≡ tables_by r (with_main origin f t)
  main_by Prelude f t = refl
  main_by File f t = ap (λ (fs : List Form). record (tables_by r t) { main = fs }) (sym (map-append (form_by r) t.main (f ∷ [])))

  -- where a top-level form begins

  counts_by : (gs : List GenericRow) → method_counts (map (generic_by r) gs) ≡ method_counts gs
  counts_by [] = refl
  counts_by (g ∷ gs) = ap (λ ns. length g.methods ∷ ns) (counts_by gs)

  mark_by : (s : Tables) → mark_of (tables_by r s) ≡ mark_of s
  mark_by s =
      let literals = length_by (literal_by r) s.literals in
      let procedures = length_by (procedure_by r) s.procedures in
      let functions = length_by (function_by r) s.functions in
      let macros = length_by (macro_by r) s.macros in
      let prelude = length_by (name_by r) s.prelude in
      let classes = length_by (class_by r) s.classes.rows in
      let methods = counts_by s.generics in
      let globals = length_by (global_by r) s.globals in
      let set = length_by (name_by r) s.set in
      let dynamics = length_by (dynamic_by r) s.dynamics in
      let fresh = length_by (symbol_by r) s.fresh in
      let main = length_by (form_by r) s.main in
      cc

  opened_by : (s : Tables) → tables_by r (opened s) ≡ opened (tables_by r s)
  opened_by s = ap (λ (m : Mark). record (tables_by r s) { before = m }) (sym (mark_by s))

  nodes_same : (t : Tables) → nodes_of (tables_by r t) ≡ nodes_of t
  nodes_same t = nodes_by r (rows_of t)

  cells_same : (t : Tables) → cells_of (tables_by r t) ≡ cells_of t
  cells_same t = cells_by r (rows_of t)

  at_form_by : (d : Item) (why : Reason) → at_form (item_by r d) why ≡ at_form d why
  at_form_by d why = ap (λ (p : Place). record { place = p; reason = why }) (place_by r d)

-- where there are no macros behind a form there are none in front of it
none_before : {names : List (List ℕ)} (origin : Origin) (s : Tables) (d : Item) (t : Tables) → WithoutMacros t → IsElaborated names origin (opened s) d t → WithoutMacros s
none_before {names} origin s d t none g = before_without (λ ns a u e m h. node_grows ns (node ns a u e) (stands m) h u (begins_node ns u a e)) names origin s d t none g

module _ (r : ℕ → ℕ) (old new : List (List ℕ)) (w : Renames r old new) (table : IsTable new) where
  finds : FindsNames r old new
  finds = number_of_by r old new w table

  -- ---- a form

  comes_by : (a : StaticContext) (s : Tables) (d : Item) (v : Verdict) → NoneApplies s → FormComes old a s d v → FormComes new (context_by r a) (tables_by r s) (item_by r d) (verdict_by r v)
  comes_by a s d v none x = record {
    under = λ later e.
        let P : List (List ℕ) → Type 0 = λ names. Elaborates names (node names (context_by r a) (tables_by r s) (item_by r d)) (verdict_by r v) in
        subst P (sym e.begins)
        (form_elaborates_by r (old ++ e.added) (new ++ e.added) (renames_later r old new w e.added) (finds_later r old new w e.added finds) a s d v
        (x.under (old ++ e.added) (record { added = e.added; begins = refl })) none);
  }

  elaborated_by : (origin : Origin) (s : Tables) (d : Item) (t : Tables) → NoneApplies s → IsElaborated old origin s d t → IsElaborated new origin (tables_by r s) (item_by r d) (tables_by r t)
  elaborated_by origin s d t none x = record {
    form = form_by r x.form;
    found = tables_by r x.found;
    comes = comes_by (top origin) s d _ none x.comes;
    now = ap (tables_by r) x.now ∙ sym (main_by r origin x.form x.found);
  }

  taken_by : (origin : Origin) (s : Tables) (d : Item) (t : Tables) → NoneApplies s → IsTaken old origin s d t → IsTaken new origin (tables_by r s) (item_by r d) (tables_by r t)
  taken_by origin s d t none x = record {
    given = elaborated_by origin s d t none x.given;
    small = subst (λ (n : ℕ). n ≤ most_nodes) (sym (nodes_same r t)) x.small;
    few = subst (λ (n : ℕ). n ≤ most_cells) (sym (cells_same r t)) x.few;
  }

  large_by : (origin : Origin) (s : Tables) (d : Item) → NoneApplies s → IsTooLarge old origin s d → IsTooLarge new origin (tables_by r s) (item_by r d)
  large_by origin s d none x = record {
    tables = tables_by r x.tables;
    given = elaborated_by origin s d x.tables none x.given;
    large = subst (λ (n : ℕ). most_nodes < n) (sym (nodes_same r x.tables)) x.large;
  }

  many_by : (origin : Origin) (s : Tables) (d : Item) → NoneApplies s → HasManyCells old origin s d → HasManyCells new origin (tables_by r s) (item_by r d)
  many_by origin s d none x = record {
    tables = tables_by r x.tables;
    given = elaborated_by origin s d x.tables none x.given;
    small = subst (λ (n : ℕ). n ≤ most_nodes) (sym (nodes_same r x.tables)) x.small;
    many = subst (λ (n : ℕ). most_cells < n) (sym (cells_same r x.tables)) x.many;
  }

  whole_by : (origin : Origin) (s : Tables) (d : Item) (x : Refusal) → NoneApplies s → IsRefusedWhole old origin s d x → IsRefusedWhole new origin (tables_by r s) (item_by r d) x
  whole_by origin s d x none (inl y) = inl (large_by origin s d none y.0, y.1 ∙ sym (at_form_by r d _))
  whole_by origin s d x none (inr y) = inr (many_by origin s d none y.0, y.1 ∙ sym (at_form_by r d _))

  stopped_by : (origin : Origin) (s : Tables) (d : Item) (x : Refusal) → NoneApplies s → IsFormStopped old origin s d (Refused x) → IsFormStopped new origin (tables_by r s) (item_by r d) (Refused x)
  stopped_by origin s d x none (inl y) = inl (comes_by (top origin) s d _ none y)
  stopped_by origin s d x none (inr y) = inr (whole_by origin s d x none y)

  -- as a top-level form, behind tables without macros

  next_taken : (origin : Origin) (s : Tables) (d : Item) (t : Tables) → WithoutMacros s → IsTaken old origin (opened s) d t →
      IsTaken new origin (opened (tables_by r s)) (item_by r d) (tables_by r t)
  next_taken origin s d t none x =
      subst (λ (u : Tables). IsTaken new origin u (item_by r d) (tables_by r t)) (opened_by r s) (taken_by origin (opened s) d t (ap length none) x)

  next_stopped : (origin : Origin) (s : Tables) (d : Item) (x : Refusal) → WithoutMacros s → IsFormStopped old origin (opened s) d (Refused x) →
      IsFormStopped new origin (opened (tables_by r s)) (item_by r d) (Refused x)
  next_stopped origin s d x none y =
      subst (λ (u : Tables). IsFormStopped new origin u (item_by r d) (Refused x)) (opened_by r s) (stopped_by origin (opened s) d x (ap length none) y)

  -- where there are none behind a text there are none in front of it
  front_without : (origin : Origin) (mode : Mode) (s : Tables) (text : List ℕ) (p : Place) (j : Judgement) → (g : Judges old origin mode s text p j) →
      TextLeaves WithoutMacros old origin mode s text p j g → WithoutMacros s
  front_without = front_such WithoutMacros old none_before

  none_by : (s : Tables) → WithoutMacros s → WithoutMacros (tables_by r s)
  none_by s none = ap (map (macro_by r)) none

  -- ---- the form that is judged for a datum

  first_text_by : (ds : Items) → first_text new (items_by r ds) ≡ first_text old ds
  first_text_by no_item = refl
  first_text_by (item_and d ds) = text_of_by r old new w d

  head_by : (d : Item) → head_text new (item_by r d) ≡ head_text old d
  head_by (item p (integer n)) = refl
  head_by (item p (character c)) = refl
  head_by (item p (symbol x)) = refl
  head_by (item p (string bytes)) = refl
  head_by (item p (vector ds)) = refl
  head_by (item p nil) = refl
  head_by (item p (list ds t)) = first_text_by ds

  stays_by : (d : Item) → stays new (item_by r d) ≡ stays old d
  unfolding stays
  stays_by d = ap (is_among not_shown) (head_by d)

  printing_by : (d e : Item) → IsPrinting old d e → IsPrinting new (item_by r d) (item_by r e)
  printing_by d e x = record {
    format = name_by r x.format;
    standard_output = name_by r x.standard_output;
    is_format = w.texts x.format.0 ∙ x.is_format;
    is_standard_output = w.texts x.standard_output.0 ∙ x.is_standard_output;
    is = ap (item_by r) x.is ∙ ap (λ p. printing_at p (name_by r x.format) (name_by r x.standard_output) (item_by r d)) (sym (place_by r d));
  }

  judged_form_by : (mode : Mode) (d : Item) (after : List ℕ) (e : Item) → IsForm old mode d after e → IsForm new mode (item_by r d) after (item_by r e)
  judged_form_by _ _ _ _ (runs d after) = runs (item_by r d) after
  judged_form_by _ _ _ _ (not_last d after x) = not_last (item_by r d) after x
  judged_form_by _ _ _ _ (last_stays d after x) = last_stays (item_by r d) after (stays_by d ∙ x)
  judged_form_by _ _ _ _ (last_shown d after e x y z) = last_shown (item_by r d) after (item_by r e) x (stays_by d ∙ y) (printing_by d e z)

  -- ---- a text

  judges_by : (origin : Origin) (mode : Mode) (s : Tables) (text : List ℕ) (p : Place) (j : Judgement) → (g : Judges old origin mode s text p j) →
      TextLeaves WithoutMacros old origin mode s text p j g → JudgesLeaving WithoutMacros new origin mode (tables_by r s) text p (judgement_by r j)
  judges_by origin mode _ _ _ _ (at_end s text p g) none = record { judges = at_end (tables_by r s) text p g; leaves = none_by s none }
  judges_by origin mode _ _ _ _ (form_taken s text p d after t j x f rest) none =
      let here : WithoutMacros s = front_without origin mode s text p j (form_taken s text p d after t j x f rest) none in
      let more = judges_by origin mode t after _ j rest none in
      record {
        judges =
            form_taken (tables_by r s) text p (item_by r d) after (tables_by r t) (judgement_by r j) (next_by r old new w table text p d after x)
            (record { form = item_by r f.form; is_form = judged_form_by mode d after f.form f.is_form; taken = next_taken origin s f.form t here f.taken })
            more.judges;
        leaves = more.leaves;
      }
  judges_by origin mode _ _ _ _ (form_refused s text p d after y x f) none = record {
    judges =
        form_refused (tables_by r s) text p (item_by r d) after y (next_by r old new w table text p d after x)
        (record { form = item_by r f.form; is_form = judged_form_by mode d after f.form f.is_form; refused = next_stopped origin s f.form y none f.refused });
    leaves = none_by s none;
  }
  judges_by origin mode _ _ _ _ (text_stops s text p y x) none = record { judges = text_stops (tables_by r s) text p y x; leaves = none_by s none }

  prelude_by : (prelude : List ℕ) (j : Judgement) (x : BehindPrelude old prelude j) → PreludeLeaves WithoutMacros old prelude j x → PreludeLeaving WithoutMacros new prelude (judgement_by r j)
  prelude_by prelude j x none =
      let left = judges_by Prelude Run x.first prelude (first_place Prelude) j x.judges none in
      record {
        behind = record { first = tables_by r x.first; is_first = first_from r old new w x.first x.is_first; judges = left.judges };
        leaves = left.leaves;
      }

  taken_by_prelude : (prelude : List ℕ) (t : Tables) (x : BehindPrelude old prelude (all_taken t)) → WithoutMacros t → BehindPrelude new prelude (all_taken (tables_by r t))
  taken_by_prelude prelude t x none =
      (prelude_by prelude (all_taken t) x (text_leaves WithoutMacros old Prelude Run x.first prelude (first_place Prelude) (all_taken t) x.judges none)).behind

  -- ---- a file

  verdict_of_file_by : (prelude text : List ℕ) (mode : Mode) (v : FileVerdict) (g : FileIs old prelude text mode v) → VerdictLeaves WithoutMacros old prelude text mode v g →
      VerdictWithoutMacros new prelude text mode (file_verdict_by r v)
  verdict_of_file_by prelude text mode _ (source_too_long l) none = record { verdict = source_too_long l; none = tt }
  verdict_of_file_by prelude text mode _ (prelude_refused x l b) none =
      let left = prelude_by prelude (one_refused x) b none in
      record { verdict = prelude_refused x l left.behind; none = left.leaves }
  verdict_of_file_by prelude text mode _ (file_refused t x l b h) none =
      let left = judges_by File mode t text (first_place File) (one_refused x) h none in
      let here : WithoutMacros t = front_without File mode t text (first_place File) (one_refused x) h none in
      record { verdict = file_refused (tables_by r t) x l (taken_by_prelude prelude t b here) left.judges; none = left.leaves }
  verdict_of_file_by prelude text mode _ (file_accepted t u l b h) none =
      let leaves = text_leaves WithoutMacros old File mode t text (first_place File) (all_taken u) h none in
      let left = judges_by File mode t text (first_place File) (all_taken u) h leaves in
      let here : WithoutMacros t = front_without File mode t text (first_place File) (all_taken u) h leaves in
      record { verdict = file_accepted (tables_by r t) (tables_by r u) l (taken_by_prelude prelude t b here) left.judges; none = none_by u none }

  pub file_by : (prelude text : List ℕ) (mode : Mode) (v : FileVerdict) → VerdictWithoutMacros old prelude text mode v → VerdictWithoutMacros new prelude text mode (file_verdict_by r v)
  file_by prelude text mode v g = verdict_of_file_by prelude text mode v g.verdict g.none
