-- The procedure of a primitive has the number by which code calls it.
use Rattle.std.proofs.Common.{◌≡◌, ℕ, zero, suc, ◌+◌, ◌<◌, List, [], ◌∷◌, ◌++◌, length, map, Some, refl, sym, ap, ◌∙◌, subst, ⊎_elim, arith}
use Rattle.std.specs.Prelude.{slice_get}
use Rattle.std.proofs.Math.ListN.{length-append}
use Rattle.std.proofs.lemmas.Bool.{cases_lt}
use Rattle.std.proofs.lemmas.List.{length-map}
use Rattle.base.specs.Names.{slice_get-front}
use Rattle.lang_meaning.specs.declared.primitive.Primitive.{Primitive}
use Rattle.lang_meaning.specs.declared.primitive.Primitive.TheVariants.{Add}
use Rattle.lang_meaning.specs.model.ShapeCode.{primitive_at, primitive_number, primitive_back}
use Rattle.flat_language.specs.declared.program.FlatProcedure.{FlatProcedure}
use Rattle.mid_code.specs.declared.program.MidProcedure.{MidProcedure}
use Rattle.mid_arena.specs.Codes.{procedure_of}
use Rattle.back_lowering.specs.Placement.{primitive_count, primitives_from}
use Rattle.back_lowering.specs.Program.{main_form, start, routines, primitives, numbers_below, entries_from, lambda_entries_from, bodies_from, lambda_bodies, lowered}
use Rattle.back_relation.specs.Setting.{Setting, WithinFrame, FramesWithin}
use Rattle.back_relation.specs.Placed.{IsPlaced}
use Rattle.back_primitives.specs.Calling.{PrimitiveThere}

behind_front : {X : Type 0} (xs ys : List X) (i j : ℕ) (x : X) → j ≡ length xs + i → slice_get ys i ≡ Some x → slice_get (xs ++ ys) j ≡ Some x
behind_front [] ys i j x e h = let same : j ≡ i = omega (arith, e) in ap (slice_get ys) same ∙ h
behind_front (y ∷ xs) ys i zero x e h = absurd (omega (arith, e))
behind_front (y ∷ xs) ys i (suc j) x e h = behind_front xs ys i j x (omega (arith, e)) h

mapped : {X Y : Type 0} (f : X → Y) (xs : List X) (i : ℕ) (x : X) → slice_get xs i ≡ Some x → slice_get (map f xs) i ≡ Some (f x)
mapped f [] i x e = absurd (cc e)
mapped f (y ∷ xs) zero x e = let same : y ≡ x = cc e in ap (λ u. Some (f u)) same
mapped f (y ∷ xs) (suc i) x e = mapped f xs i x e

few : (which : Primitive) → primitive_number which < primitive_count
few Add = omega arith
few which = omega arith

-- the procedure that is used for one that was given
record UsedFor (given : MidProcedure) (used : List MidProcedure) (i : ℕ) : Type 0 where
  procedure : MidProcedure
  there : slice_get used i ≡ Some procedure
  within : WithinFrame given procedure

used_for : (given used : List MidProcedure) (i : ℕ) (g : MidProcedure) → FramesWithin given used → slice_get given i ≡ Some g → UsedFor g used i
used_for [] used i g frames e = absurd (cc e)
used_for (x ∷ given) [] i g frames e = absurd frames
used_for (x ∷ given) (p ∷ used) zero g frames e = let same : x ≡ g = cc e in record { procedure = p; there = refl; within = subst (λ u. WithinFrame u p) same frames.0 }
used_for (x ∷ given) (p ∷ used) (suc i) g frames e =
    let inner = used_for given used i g frames.1 e in record { procedure = inner.procedure; there = inner.there; within = inner.within }

module _ (setting : Setting) where
  abbrev below : ℕ → List ℕ
  below n = numbers_below setting.names setting.at setting.program n

  below_count : (n : ℕ) → length (below n) ≡ n
  below_count zero = refl
  below_count (suc n) = length-append (below n) (n ∷ []) ∙ ap (λ m. m + 1) (below_count n) ∙ omega arith

  below_at : (n i : ℕ) → i < n → slice_get (below n) i ≡ Some i
  below_at zero i h = absurd (omega (arith, h))
  below_at (suc n) i h =
      ⊎_elim (λ less. slice_get-front (below n) (n ∷ []) i i (below_at n i less))
      (λ not_less.
      let same : n ≡ i = omega (arith, h, not_less) in
      let count = below_count n in
      behind_front (below n) (n ∷ []) 0 i i (omega (arith, same, count)) (ap (λ m. Some m) same))
      (cases_lt i n)

  entries_count : (p : ℕ) (qs : List FlatProcedure) → length (entries_from setting.names setting.at setting.program p qs) ≡ length qs
  entries_count p [] = refl
  entries_count p (q ∷ qs) = ap suc (entries_count (p + 1) qs)

  lambda_entries_count : (p : ℕ) (qs : List FlatProcedure) → length (lambda_entries_from setting.names setting.at setting.program p qs) ≡ length qs
  lambda_entries_count p [] = refl
  lambda_entries_count p (q ∷ qs) = ap suc (lambda_entries_count (p + 1) qs)

  bodies_count : (p : ℕ) (qs : List FlatProcedure) → length (bodies_from setting.names setting.at setting.program p qs) ≡ length qs
  bodies_count p [] = refl
  bodies_count p (q ∷ qs) = ap suc (bodies_count (p + 1) qs)

  abbrev the_entries : List MidProcedure
  the_entries = entries_from setting.names setting.at setting.program 0 setting.program.procedures

  abbrev the_lambda_entries : List MidProcedure
  the_lambda_entries = lambda_entries_from setting.names setting.at setting.program (length setting.program.procedures) setting.program.lambdas

  abbrev the_bodies : List MidProcedure
  the_bodies = bodies_from setting.names setting.at setting.program 0 setting.program.procedures

  abbrev the_lambda_bodies : List MidProcedure
  the_lambda_bodies = lambda_bodies setting.names setting.at setting.program setting.program.lambdas

  abbrev the_rest : List MidProcedure
  the_rest =
      routines setting.names setting.at setting.program
      ++ (map (main_form setting.names setting.at setting.program) setting.program.main ++ (start setting.names setting.at setting.program ∷ []))

  in_parts :
      lowered setting.names setting.at setting.program
      ≡ the_entries ++ (the_lambda_entries ++ (the_bodies ++ (the_lambda_bodies ++ (primitives setting.names setting.at setting.program ++ the_rest))))
  unfolding lowered
  in_parts = refl

  primitive_found :
      (which : Primitive) → IsPlaced setting
      → slice_get (lowered setting.names setting.at setting.program) (primitives_from setting.at + primitive_number which) ≡ Some (procedure_of which)
  primitive_found which placed =
      let i : ℕ = primitive_number which in
      let j : ℕ = setting.at.lambdas + i in
      let one : length the_entries ≡ setting.at.procedures = entries_count 0 setting.program.procedures ∙ sym placed.procedures in
      let two : length the_lambda_entries ≡ setting.at.lambdas = lambda_entries_count (length setting.program.procedures) setting.program.lambdas ∙ sym placed.lambdas in
      let three : length the_bodies ≡ setting.at.procedures = bodies_count 0 setting.program.procedures ∙ sym placed.procedures in
      let four : length the_lambda_bodies ≡ setting.at.lambdas = length-map setting.program.lambdas _ ∙ sym placed.lambdas in
      let there : slice_get (primitives setting.names setting.at setting.program) i ≡ Some (procedure_of which) =
      mapped (λ n. procedure_of (primitive_at n)) (below primitive_count) i i (below_at primitive_count i (few which))
      ∙ ap (λ p. Some (procedure_of p)) (primitive_back which) in
      ap (λ ps. slice_get ps (primitives_from setting.at + i)) in_parts
      ∙ behind_front the_entries _ (setting.at.lambdas + (setting.at.procedures + j)) (primitives_from setting.at + i) (procedure_of which) (omega (arith, one))
      (behind_front the_lambda_entries _ (setting.at.procedures + j) (setting.at.lambdas + (setting.at.procedures + j)) (procedure_of which) (omega (arith, two))
      (behind_front the_bodies _ j (setting.at.procedures + j) (procedure_of which) (omega (arith, three))
      (behind_front the_lambda_bodies _ i j (procedure_of which) (omega (arith, four))
      (slice_get-front (primitives setting.names setting.at setting.program) the_rest i (procedure_of which) there))))

  -- so it is there, with the frame that is used
  pub primitive_there : (which : Primitive) → IsPlaced setting → PrimitiveThere setting which
  primitive_there which placed =
      let used =
      used_for (lowered setting.names setting.at setting.program) setting.procedures (primitives_from setting.at + primitive_number which) (procedure_of which) setting.frames
      (primitive_found which placed) in
      record {
        procedure = used.procedure;
        there = used.there;
        within = used.within;
      }
