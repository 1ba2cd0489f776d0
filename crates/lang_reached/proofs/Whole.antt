-- A whole program stays whole where bodies are left out.
use Rattle.std.proofs.Common.{◌≡◌, ℕ, zero, suc, ◌+◌, ◌≤◌, ◌==◌, Bool, true, false, ◌&&◌, ◌||◌, List, [], ◌∷◌, length, refl, Option, Some, None, arith, le_refl}
use Rattle.std.specs.Prelude.{slice_get, nat_lt, nat_le, if◌then◌else◌}
use Rattle.std.specs.List.{list_all, fold}
use Rattle.std.proofs.lemmas.Bool.{leb-true, le-leb}
use Rattle.lang_meaning.specs.declared.program.LiteralRow.{LiteralRow}
use Rattle.lang_meaning.specs.declared.program.LiteralRow.TheVariants as row
use Rattle.lang_meaning.specs.declared.program.Procedure.{Procedure}
use Rattle.lang_meaning.specs.declared.program.ClassRow.{ClassRow}
use Rattle.lang_meaning.specs.declared.program.SlotRow.{SlotRow}
use Rattle.lang_meaning.specs.declared.program.GenericRow.{GenericRow}
use Rattle.lang_meaning.specs.declared.program.MethodRow.{MethodRow}
use Rattle.lang_meaning.specs.declared.program.FunctionRow.{FunctionRow}
use Rattle.lang_meaning.specs.declared.program.Callee.{Callee}
use Rattle.lang_meaning.specs.declared.program.Callee.TheVariants as callee
use Rattle.lang_meaning.specs.declared.program.ProgramRows.{ProgramRows}
use Rattle.lang_meaning.specs.Form.{Form, literal, sited}
use Rattle.lang_meaning.specs.Inside.{inside_form}
use Rattle.lang_meaning.specs.BuiltIn.{built_in_precedence, built_in_slots}
use Rattle.lang_meaning.specs.Cells.{program_cells}
use Rattle.lang_meaning.specs.Counts.{all_nodes, depth}
use Rattle.lang_meaning.specs.Fits.{fits_itself, fits}
use Rattle.lang_meaning.specs.Lookup.{all_differ}
use Rattle.lang_meaning.specs.ProgramCounts.{procedure_nodes, program_nodes}
use Rattle.lang_meaning.specs.Standing.{stands_alone, is_alone}
use Rattle.lang_meaning.specs.Facts.{body_fits, literal_fits, initform_fits, class_fits, begins_with_built_in, is_congruent, knows_next, method_fits, same_method, generic_fits, callee_fits, same_name, rows_fit, is_of_method, procedures_stand, bodies_stand}
use Rattle.lang_meaning.proofs.Bounds.{first_true, second_true}
use Rattle.lang_reached.specs.declared.kept.Kept.{Kept}
use Rattle.lang_reached.specs.LeftOut.{is_marked, emptied, procedures_left, without_others}
use Rattle.lang_reached.specs.Laws.{LawOfWhole}

both_true : (a b : Bool) → a ≡ true → b ≡ true → (a && b) ≡ true
both_true true true g h = refl
both_true true false g h = h
both_true false b g h = g

-- what holds of each of a list
all_follow : {X : Type 0} (f g : X → Bool) → ((x : X) → f x ≡ true → g x ≡ true) → (xs : List X) → list_all f xs ≡ true → list_all g xs ≡ true
all_follow f g h [] e = refl
all_follow f g h (x ∷ xs) e =
    both_true (g x) (list_all g xs) (h x (first_true (f x) (list_all f xs) e)) (all_follow f g h xs (second_true (f x) (list_all f xs) e))

-- sums

sums_below : {X : Type 0} (f : X → ℕ) (xs : List X) (a b : ℕ) → a ≤ b → fold (λ c x. c + f x) a xs ≤ fold (λ c x. c + f x) b xs
sums_below f [] a b h = h
sums_below f (x ∷ xs) a b h = sums_below f xs (a + f x) (b + f x) (omega (arith, h))

-- a form has a node
one_node : (f : Form) → 1 ≤ all_nodes f
one_node (sited site f) = let h = one_node f in omega (arith, h)
one_node f = omega arith

module _ (marks : List Bool) where
  procedure_below : (q : Procedure) (n : ℕ) → procedure_nodes (if is_marked marks n then q else emptied q) ≤ procedure_nodes q
  procedure_below q n = by (is_marked marks n)
    where
      by : (b : Bool) → procedure_nodes (if b then q else emptied q) ≤ procedure_nodes q
      by true = le_refl (procedure_nodes q)
      by false = let h = one_node q.body in omega (arith, h)

  procedures_below : (n : ℕ) (qs : List Procedure) (a b : ℕ) → a ≤ b
      → fold (λ c q. c + procedure_nodes q) a (procedures_left marks n qs) ≤ fold (λ c q. c + procedure_nodes q) b qs
  procedures_below n [] a b h = h
  procedures_below n (q ∷ qs) a b h =
      let own = procedure_below q n in
      procedures_below (n + 1) qs (a + procedure_nodes (if is_marked marks n then q else emptied q)) (b + procedure_nodes q) (omega (arith, h, own))

  -- a procedure, where it is there
  alone_left : (m : Bool) (n : ℕ) (qs : List Procedure) (i : ℕ) → is_alone m (slice_get qs i) ≡ true → is_alone m (slice_get (procedures_left marks n qs) i) ≡ true
  alone_left m n [] i h = absurd (cc)
  alone_left m n (q ∷ qs) zero h = by (is_marked marks n)
    where
      by : (b : Bool) → is_alone m (Some (if b then q else emptied q)) ≡ true
      by true = h
      by false = refl
  alone_left m n (q ∷ qs) (suc i) h = alone_left m (n + 1) qs i h

  congruent_left : (g : GenericRow) (n : ℕ) (qs : List Procedure) (i : ℕ) → is_congruent g (slice_get qs i) ≡ true
      → is_congruent g (slice_get (procedures_left marks n qs) i) ≡ true
  congruent_left g n [] i h = absurd (cc)
  congruent_left g n (q ∷ qs) zero h = by (is_marked marks n)
    where
      by : (b : Bool) → is_congruent g (Some (if b then q else emptied q)) ≡ true
      by true = h
      by false = h
  congruent_left g n (q ∷ qs) (suc i) h = congruent_left g (n + 1) qs i h

module _ (rows : ProgramRows) (kept : Kept) where
  abbrev rest : ProgramRows
  rest = without_others kept rows

  fits_left : (f : Form) → fits rows f ≡ true → fits rest f ≡ true
  fits_left f h = all_follow (fits_itself rows) (fits_itself rest) by (inside_form f) h
    where
      by : (g : Form) → fits_itself rows g ≡ true → fits_itself rest g ≡ true
      by (literal i) e = e
      by g e = e

  body_left : (f : Form) → body_fits rows f ≡ true → body_fits rest f ≡ true
  body_left f h =
      both_true (fits rest f) (nat_le (depth f) 1000) (fits_left f (first_true (fits rows f) (nat_le (depth f) 1000) h))
      (second_true (fits rows f) (nat_le (depth f) 1000) h)

  bodies_left : (n : ℕ) (qs : List Procedure) → list_all (λ (q : Procedure). body_fits rows q.body) qs ≡ true
      → list_all (λ (q : Procedure). body_fits rest q.body) (procedures_left kept.procedures n qs) ≡ true
  bodies_left n [] h = refl
  bodies_left n (q ∷ qs) h =
      let all = list_all (λ (p : Procedure). body_fits rows p.body) qs in
      let others = procedures_left kept.procedures (n + 1) qs in
      both_true (body_fits rest (if is_marked kept.procedures n then q else emptied q).body) (list_all (λ (p : Procedure). body_fits rest p.body) others)
      (by (is_marked kept.procedures n) (body_left q.body (first_true (body_fits rows q.body) all h)))
      (bodies_left (n + 1) qs (second_true (body_fits rows q.body) all h))
    where
      by : (b : Bool) → body_fits rest q.body ≡ true → body_fits rest (if b then q else emptied q).body ≡ true
      by true e = e
      by false e = refl

  literal_left : (r : LiteralRow) → literal_fits rows r ≡ true → literal_fits rest r ≡ true
  literal_left (row.Datum d) h = h
  literal_left (row.Class c) h = h
  literal_left (row.Function name) h = h

  pub nodes_left : program_nodes rest ≤ program_nodes rows
  nodes_left =
      let h = procedures_below kept.procedures 0 rows.procedures 0 0 (le_refl 0) in
      omega (arith, h)

  initform_left : (o : Option ℕ) → initform_fits rows o ≡ true → initform_fits rest o ≡ true
  initform_left None h = refl
  initform_left (Some p) h = alone_left kept.procedures false 0 rows.procedures p h

  class_left : (c : ClassRow) → class_fits rows c ≡ true → class_fits rest c ≡ true
  class_left c h =
      let a = list_all (λ d. nat_lt d (length rows.classes)) c.precedence in
      let b = list_all (λ (s : SlotRow). initform_fits rows s.initform) c.slots in
      let b' = list_all (λ (s : SlotRow). initform_fits rest s.initform) c.slots in
      let n = nat_le (length c.slots) 64 in
      let front = first_true (a && b) n h in
      both_true (a && b') n
      (both_true a b' (first_true a b front)
      (all_follow (λ (s : SlotRow). initform_fits rows s.initform) (λ (s : SlotRow). initform_fits rest s.initform) (λ s. initform_left s.initform) c.slots (second_true a b front)))
      (second_true (a && b) n h)

  method_left : (g : GenericRow) (m : MethodRow) → method_fits rows g m ≡ true → method_fits rest g m ≡ true
  method_left g m h =
      let a = length m.classes == g.required in
      let b = list_all (λ c. nat_lt c (length rows.classes)) m.classes in
      let c = is_congruent g (slice_get rows.procedures m.procedure) in
      let c' = is_congruent g (slice_get rest.procedures m.procedure) in
      let d = is_alone (knows_next m.qualifier) (slice_get rows.procedures m.procedure) in
      let d' = is_alone (knows_next m.qualifier) (slice_get rest.procedures m.procedure) in
      let front = first_true (a && b && c) d h in
      both_true (a && b && c') d'
      (both_true (a && b) c' (first_true (a && b) c front) (congruent_left kept.procedures g 0 rows.procedures m.procedure (second_true (a && b) c front)))
      (alone_left kept.procedures (knows_next m.qualifier) 0 rows.procedures m.procedure (second_true (a && b && c) d h))

  generic_left : (g : GenericRow) → generic_fits rows g ≡ true → generic_fits rest g ≡ true
  generic_left g h =
      let a = list_all (method_fits rows g) g.methods in
      let a' = list_all (method_fits rest g) g.methods in
      let b = all_differ same_method g.methods in
      both_true a' b (all_follow (method_fits rows g) (method_fits rest g) (method_left g) g.methods (first_true a b h)) (second_true a b h)

  callee_left : (c : Callee) → callee_fits rows c ≡ true → callee_fits rest c ≡ true
  callee_left (callee.Procedure p) h = alone_left kept.procedures false 0 rows.procedures p h
  callee_left (callee.Generic g) h = h

  stand_left : (i n : ℕ) (qs : List Procedure) → procedures_stand rows i qs ≡ true → procedures_stand rest i (procedures_left kept.procedures n qs) ≡ true
  stand_left i n [] h = refl
  stand_left i n (q ∷ qs) h =
      let here = is_of_method rows i || is_alone false (Some q) in
      let others = procedures_stand rows (i + 1) qs in
      both_true (is_of_method rest i || is_alone false (Some (if is_marked kept.procedures n then q else emptied q)))
      (procedures_stand rest (i + 1) (procedures_left kept.procedures (n + 1) qs))
      (by (is_of_method rows i) (is_marked kept.procedures n) (first_true here others h))
      (stand_left (i + 1) (n + 1) qs (second_true here others h))
    where
      by : (m b : Bool) → (m || is_alone false (Some q)) ≡ true → (m || is_alone false (Some (if b then q else emptied q))) ≡ true
      by true b e = refl
      by false true e = e
      by false false e = refl

  rows_left : rows_fit rows ≡ true → rows_fit rest ≡ true
  rows_left h =
      let a = begins_with_built_in rows.classes built_in_precedence built_in_slots in
      let b = list_all (literal_fits rows) rows.literals in
      let b' = list_all (literal_fits rest) rows.literals in
      let c = list_all (λ (p : Procedure). body_fits rows p.body) rows.procedures in
      let c' = list_all (λ (p : Procedure). body_fits rest p.body) rest.procedures in
      let d = all_differ same_name rows.functions in
      let e = nat_le (length rows.sites) 100000 in
      let f = nat_le (program_nodes rows) 100000 in
      let f' = nat_le (program_nodes rest) 100000 in
      let h4 = first_true (a && b && c && d && e) f h in
      let h3 = first_true (a && b && c && d) e h4 in
      let h2 = first_true (a && b && c) d h3 in
      let h1 = first_true (a && b) c h2 in
      let few = leb-true (program_nodes rows) 100000 (second_true (a && b && c && d && e) f h) in
      let fewer = nodes_left in
      both_true (a && b' && c' && d && e) f'
      (both_true (a && b' && c' && d) e
      (both_true (a && b' && c') d
      (both_true (a && b') c'
      (both_true a b' (first_true a b h1) (all_follow (literal_fits rows) (literal_fits rest) literal_left rows.literals (second_true a b h1)))
      (bodies_left 0 rows.procedures (second_true (a && b) c h2)))
      (second_true (a && b && c) d h3))
      (second_true (a && b && c && d) e h4))
      (le-leb (program_nodes rest) 100000 (omega (arith, few, fewer)))

  stands_left : bodies_stand rows ≡ true → bodies_stand rest ≡ true
  stands_left h =
      let a = list_all (class_fits rows) rows.classes in
      let a' = list_all (class_fits rest) rows.classes in
      let b = list_all (generic_fits rows) rows.generics in
      let b' = list_all (generic_fits rest) rows.generics in
      let c = list_all (λ (f : FunctionRow). callee_fits rows f.callee) rows.functions in
      let c' = list_all (λ (f : FunctionRow). callee_fits rest f.callee) rows.functions in
      let d = list_all (λ (f : Form). body_fits rows f && stands_alone false f) rows.main in
      let d' = list_all (λ (f : Form). body_fits rest f && stands_alone false f) rows.main in
      let e = procedures_stand rows 0 rows.procedures in
      let h3 = first_true (a && b && c && d) e h in
      let h2 = first_true (a && b && c) d h3 in
      let h1 = first_true (a && b) c h2 in
      both_true (a' && b' && c' && d') (procedures_stand rest 0 rest.procedures)
      (both_true (a' && b' && c') d'
      (both_true (a' && b') c'
      (both_true a' b' (all_follow (class_fits rows) (class_fits rest) class_left rows.classes (first_true a b h1))
      (all_follow (generic_fits rows) (generic_fits rest) generic_left rows.generics (second_true a b h1)))
      (all_follow (λ (f : FunctionRow). callee_fits rows f.callee) (λ (f : FunctionRow). callee_fits rest f.callee) (λ f. callee_left f.callee) rows.functions (second_true (a && b) c h2)))
      (all_follow (λ (f : Form). body_fits rows f && stands_alone false f) (λ (f : Form). body_fits rest f && stands_alone false f) main_left rows.main (second_true (a && b && c) d h3)))
      (stand_left 0 0 rows.procedures (second_true (a && b && c && d) e h))
    where
      main_left : (f : Form) → (body_fits rows f && stands_alone false f) ≡ true → (body_fits rest f && stands_alone false f) ≡ true
      main_left f e =
          both_true (body_fits rest f) (stands_alone false f) (body_left f (first_true (body_fits rows f) (stands_alone false f) e))
          (second_true (body_fits rows f) (stands_alone false f) e)

pub law_of_whole : LawOfWhole
law_of_whole rows kept h =
    let a = rows_fit rows in
    let b = bodies_stand rows in
    let c = nat_le (program_cells rows) 262144 in
    let front = first_true (a && b) c h in
    both_true (rows_fit (without_others kept rows) && bodies_stand (without_others kept rows)) c
    (both_true (rows_fit (without_others kept rows)) (bodies_stand (without_others kept rows)) (rows_left rows kept (first_true a b front)) (stands_left rows kept (second_true a b front)))
    (second_true (a && b) c h)
