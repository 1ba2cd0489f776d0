-- Which procedures of the lowered program have which numbers.
use Rattle.std.proofs.Common.{◌≡◌, ℕ, zero, suc, ◌+◌, List, [], ◌∷◌, ◌++◌, length, map, Some, refl, sym, ap, ◌∙◌, arith}
use Rattle.std.specs.Prelude.{slice_get}
use Rattle.std.proofs.Math.ListN.{length-append}
use Rattle.std.proofs.lemmas.List.{length-map}
use Rattle.base.specs.Names.{slice_get-front}
use Rattle.lang_meaning.specs.model.ShapeCode.{primitive_at}
use Rattle.flat_language.specs.declared.program.FlatProcedure.{FlatProcedure}
use Rattle.mid_code.specs.declared.program.MidProcedure.{MidProcedure}
use Rattle.mid_arena.specs.Codes.{procedure_of}
use Rattle.back_lowering.specs.Placement.{entry_of_lambda, body_of_procedure, primitive_count, routines_from, functions}
use Rattle.back_lowering.specs.Program.{itself, extra_of, entry, body_of, main_form, start, routines, primitives, numbers_below, entries_from, lambda_entries_from, bodies_from, lambda_bodies, lowered}
use Rattle.back_relation.specs.Setting.{Setting}
use Rattle.back_relation.specs.Placed.{IsPlaced}
use Rattle.back_calling.specs.Entering.{LawOfNumbers}

pub behind_front : {X : Type 0} (xs ys : List X) (i j : ℕ) (x : X) → j ≡ length xs + i → slice_get ys i ≡ Some x → slice_get (xs ++ ys) j ≡ Some x
behind_front [] ys i j x e h = let same : j ≡ i = omega (arith, e) in ap (slice_get ys) same ∙ h
behind_front (y ∷ xs) ys i zero x e h = absurd (omega (arith, e))
behind_front (y ∷ xs) ys i (suc j) x e h = behind_front xs ys i j x (omega (arith, e)) h

pub mapped : {X Y : Type 0} (f : X → Y) (xs : List X) (i : ℕ) (x : X) → slice_get xs i ≡ Some x → slice_get (map f xs) i ≡ Some (f x)
mapped f [] i x e = absurd (cc e)
mapped f (y ∷ xs) zero x e = let same : y ≡ x = cc e in ap (λ u. Some (f u)) same
mapped f (y ∷ xs) (suc i) x e = mapped f xs i x e

module _ (setting : Setting) where
  abbrev below : ℕ → List ℕ
  below n = numbers_below setting.names setting.at setting.program n

  below_count : (n : ℕ) → length (below n) ≡ n
  below_count zero = refl
  below_count (suc n) = length-append (below n) (n ∷ []) ∙ ap (λ m. m + 1) (below_count n) ∙ omega arith

  entries_count : (p : ℕ) (qs : List FlatProcedure) → length (entries_from setting.names setting.at setting.program p qs) ≡ length qs
  entries_count p [] = refl
  entries_count p (q ∷ qs) = ap suc (entries_count (p + 1) qs)

  lambda_entries_count : (p : ℕ) (qs : List FlatProcedure) → length (lambda_entries_from setting.names setting.at setting.program p qs) ≡ length qs
  lambda_entries_count p [] = refl
  lambda_entries_count p (q ∷ qs) = ap suc (lambda_entries_count (p + 1) qs)

  bodies_count : (p : ℕ) (qs : List FlatProcedure) → length (bodies_from setting.names setting.at setting.program p qs) ≡ length qs
  bodies_count p [] = refl
  bodies_count p (q ∷ qs) = ap suc (bodies_count (p + 1) qs)

  entry_at : (p i n : ℕ) (qs : List FlatProcedure) (q : FlatProcedure) → n ≡ p + i → slice_get qs i ≡ Some q
      → slice_get (entries_from setting.names setting.at setting.program p qs) i
      ≡ Some (entry setting.names setting.at setting.program (functions setting.at + n) (extra_of setting.names setting.at setting.program n) q)
  entry_at p i n [] q e h = absurd (cc h)
  entry_at p zero n (x ∷ qs) q e h =
      let same : x ≡ q = cc h in
      let number : p ≡ n = omega (arith, e) in
      ap (λ u. Some (entry setting.names setting.at setting.program (functions setting.at + p) (extra_of setting.names setting.at setting.program p) u)) same
      ∙ ap (λ m. Some (entry setting.names setting.at setting.program (functions setting.at + m) (extra_of setting.names setting.at setting.program m) q)) number
  entry_at p (suc i) n (x ∷ qs) q e h = entry_at (p + 1) i n qs q (omega (arith, e)) h

  lambda_entry_at : (p i n : ℕ) (qs : List FlatProcedure) (q : FlatProcedure) → n ≡ p + i → slice_get qs i ≡ Some q
      → slice_get (lambda_entries_from setting.names setting.at setting.program p qs) i
      ≡ Some (entry setting.names setting.at setting.program (functions setting.at + n) itself q)
  lambda_entry_at p i n [] q e h = absurd (cc h)
  lambda_entry_at p zero n (x ∷ qs) q e h =
      let same : x ≡ q = cc h in
      let number : p ≡ n = omega (arith, e) in
      ap (λ u. Some (entry setting.names setting.at setting.program (functions setting.at + p) itself u)) same
      ∙ ap (λ m. Some (entry setting.names setting.at setting.program (functions setting.at + m) itself q)) number
  lambda_entry_at p (suc i) n (x ∷ qs) q e h = lambda_entry_at (p + 1) i n qs q (omega (arith, e)) h

  body_at : (p i n : ℕ) (qs : List FlatProcedure) (q : FlatProcedure) → n ≡ p + i → slice_get qs i ≡ Some q
      → slice_get (bodies_from setting.names setting.at setting.program p qs) i
      ≡ Some (body_of setting.names setting.at setting.program (extra_of setting.names setting.at setting.program n) q)
  body_at p i n [] q e h = absurd (cc h)
  body_at p zero n (x ∷ qs) q e h =
      let same : x ≡ q = cc h in
      let number : p ≡ n = omega (arith, e) in
      ap (λ u. Some (body_of setting.names setting.at setting.program (extra_of setting.names setting.at setting.program p) u)) same
      ∙ ap (λ m. Some (body_of setting.names setting.at setting.program (extra_of setting.names setting.at setting.program m) q)) number
  body_at p (suc i) n (x ∷ qs) q e h = body_at (p + 1) i n qs q (omega (arith, e)) h

  -- ---- the parts of the program

  abbrev pub the_entries : List MidProcedure
  the_entries = entries_from setting.names setting.at setting.program 0 setting.program.procedures

  abbrev pub the_lambda_entries : List MidProcedure
  the_lambda_entries = lambda_entries_from setting.names setting.at setting.program (length setting.program.procedures) setting.program.lambdas

  abbrev pub the_bodies : List MidProcedure
  the_bodies = bodies_from setting.names setting.at setting.program 0 setting.program.procedures

  abbrev pub the_lambda_bodies : List MidProcedure
  the_lambda_bodies = lambda_bodies setting.names setting.at setting.program setting.program.lambdas

  abbrev pub the_primitives : List MidProcedure
  the_primitives = primitives setting.names setting.at setting.program

  abbrev pub the_routines : List MidProcedure
  the_routines = routines setting.names setting.at setting.program

  abbrev pub the_rest : List MidProcedure
  the_rest = map (main_form setting.names setting.at setting.program) setting.program.main ++ (start setting.names setting.at setting.program ∷ [])

  pub in_parts :
      lowered setting.names setting.at setting.program
      ≡ the_entries ++ (the_lambda_entries ++ (the_bodies ++ (the_lambda_bodies ++ (the_primitives ++ (the_routines ++ the_rest)))))
  unfolding lowered
  in_parts = refl

  pub primitives_count : length the_primitives ≡ primitive_count
  primitives_count = length-map (below primitive_count) (λ n. procedure_of (primitive_at n)) ∙ below_count primitive_count

  -- the number of the first one of each part
  module _ (placed : IsPlaced setting) where
    pub entries_many : length the_entries ≡ setting.at.procedures
    entries_many = entries_count 0 setting.program.procedures ∙ sym placed.procedures

    pub lambda_entries_many : length the_lambda_entries ≡ setting.at.lambdas
    lambda_entries_many = lambda_entries_count (length setting.program.procedures) setting.program.lambdas ∙ sym placed.lambdas

    pub bodies_many : length the_bodies ≡ setting.at.procedures
    bodies_many = bodies_count 0 setting.program.procedures ∙ sym placed.procedures

    pub lambda_bodies_many : length the_lambda_bodies ≡ setting.at.lambdas
    lambda_bodies_many = length-map setting.program.lambdas _ ∙ sym placed.lambdas

    routine_found : (i : ℕ) (p : MidProcedure) → slice_get the_routines i ≡ Some p → slice_get (lowered setting.names setting.at setting.program) (routines_from setting.at + i) ≡ Some p
    routine_found i p e =
        ap (λ ps. slice_get ps (routines_from setting.at + i)) in_parts
        ∙ behind_front the_entries _ (setting.at.lambdas + (setting.at.procedures + (setting.at.lambdas + (primitive_count + i)))) (routines_from setting.at + i) p (omega (arith, entries_many))
        (behind_front the_lambda_entries _ (setting.at.procedures + (setting.at.lambdas + (primitive_count + i))) (setting.at.lambdas + (setting.at.procedures + (setting.at.lambdas + (primitive_count + i)))) p (omega (arith, lambda_entries_many))
        (behind_front the_bodies _ (setting.at.lambdas + (primitive_count + i)) (setting.at.procedures + (setting.at.lambdas + (primitive_count + i))) p (omega (arith, bodies_many))
        (behind_front the_lambda_bodies _ (primitive_count + i) (setting.at.lambdas + (primitive_count + i)) p (omega (arith, lambda_bodies_many))
        (behind_front the_primitives (the_routines ++ the_rest) i (primitive_count + i) p (omega (arith, primitives_count)) (slice_get-front the_routines the_rest i p e)))))

    entry_found : (i : ℕ) (q : FlatProcedure) → slice_get setting.program.procedures i ≡ Some q
        → slice_get (lowered setting.names setting.at setting.program) i
        ≡ Some (entry setting.names setting.at setting.program (body_of_procedure setting.at i) (extra_of setting.names setting.at setting.program i) q)
    entry_found i q e =
        ap (λ ps. slice_get ps i) in_parts ∙ slice_get-front the_entries _ i _ (entry_at 0 i i setting.program.procedures q (omega arith) e)

    lambda_entry_found : (i : ℕ) (q : FlatProcedure) → slice_get setting.program.lambdas i ≡ Some q
        → slice_get (lowered setting.names setting.at setting.program) (entry_of_lambda setting.at i)
        ≡ Some (entry setting.names setting.at setting.program (body_of_procedure setting.at (entry_of_lambda setting.at i)) itself q)
    lambda_entry_found i q e =
        let many = placed.procedures in
        ap (λ ps. slice_get ps (entry_of_lambda setting.at i)) in_parts
        ∙ behind_front the_entries _ i (entry_of_lambda setting.at i) _ (omega (arith, entries_many))
        (slice_get-front the_lambda_entries _ i _
        (lambda_entry_at (length setting.program.procedures) i (entry_of_lambda setting.at i) setting.program.lambdas q (omega (arith, many)) e))

    body_found : (i : ℕ) (q : FlatProcedure) → slice_get setting.program.procedures i ≡ Some q
        → slice_get (lowered setting.names setting.at setting.program) (body_of_procedure setting.at i)
        ≡ Some (body_of setting.names setting.at setting.program (extra_of setting.names setting.at setting.program i) q)
    body_found i q e =
        ap (λ ps. slice_get ps (body_of_procedure setting.at i)) in_parts
        ∙ behind_front the_entries _ (setting.at.lambdas + i) (body_of_procedure setting.at i) _ (omega (arith, entries_many))
        (behind_front the_lambda_entries _ i (setting.at.lambdas + i) _ (omega (arith, lambda_entries_many))
        (slice_get-front the_bodies _ i _ (body_at 0 i i setting.program.procedures q (omega arith) e)))

    lambda_body_found : (i : ℕ) (q : FlatProcedure) → slice_get setting.program.lambdas i ≡ Some q
        → slice_get (lowered setting.names setting.at setting.program) (body_of_procedure setting.at (entry_of_lambda setting.at i))
        ≡ Some (body_of setting.names setting.at setting.program itself q)
    lambda_body_found i q e =
        ap (λ ps. slice_get ps (body_of_procedure setting.at (entry_of_lambda setting.at i))) in_parts
        ∙ behind_front the_entries _ (setting.at.lambdas + (setting.at.procedures + i)) (body_of_procedure setting.at (entry_of_lambda setting.at i)) _ (omega (arith, entries_many))
        (behind_front the_lambda_entries _ (setting.at.procedures + i) (setting.at.lambdas + (setting.at.procedures + i)) _ (omega (arith, lambda_entries_many))
        (behind_front the_bodies _ i (setting.at.procedures + i) _ (omega (arith, bodies_many))
        (slice_get-front the_lambda_bodies _ i _ (mapped (body_of setting.names setting.at setting.program itself) setting.program.lambdas i q e))))

  pub numbers_law : LawOfNumbers setting
  numbers_law = record {
    routine = λ i p placed e. routine_found placed i p e;
    entry_of = λ i q placed e. entry_found placed i q e;
    lambda_entry_of = λ i q placed e. lambda_entry_found placed i q e;
    body = λ i q placed e. body_found placed i q e;
    lambda_body = λ i q placed e. lambda_body_found placed i q e;
  }
