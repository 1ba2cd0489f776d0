-- The start of a lowered program is the last of its procedures.
use Rattle.std.proofs.Common.{◌≡◌, ℕ, zero, suc, ◌+◌, List, [], ◌∷◌, ◌++◌, length, refl, ap, ◌∙◌, arith}
use Rattle.std.specs.Prelude.{map}
use Rattle.std.proofs.Math.ListN.{length-append}
use Rattle.std.proofs.lemmas.List.{length-map}
use Rattle.lang_meaning.specs.model.ShapeCode.{primitive_at}
use Rattle.flat_language.specs.declared.program.FlatProcedure.{FlatProcedure}
use Rattle.flat_language.specs.declared.program.FlatProgram.{FlatProgram}
use Rattle.mid_arena.specs.Codes.{procedure_of}
use Rattle.back_lowering.specs.declared.placement.Placement.{Placement}
use Rattle.back_lowering.specs.Placement.{primitive_count}
use Rattle.back_lowering.specs.Routines.{routine_count}
use Rattle.back_lowering.specs.Program.{itself, body_of, entries_from, lambda_entries_from, bodies_from, lambda_bodies, main_form, routines, primitives, numbers_below, start, lowered, start_number}

-- eight lists, one behind the other
together_long : {X : Type 0} (a b c d e f g h : List X)
    → length (a ++ (b ++ (c ++ (d ++ (e ++ (f ++ (g ++ h)))))))
    ≡ length a + (length b + (length c + (length d + (length e + (length f + (length g + length h))))))
together_long a b c d e f g h =
    length-append a (b ++ (c ++ (d ++ (e ++ (f ++ (g ++ h))))))
    ∙ ap (λ n. length a + n) (length-append b (c ++ (d ++ (e ++ (f ++ (g ++ h)))))
    ∙ ap (λ n. length b + n) (length-append c (d ++ (e ++ (f ++ (g ++ h))))
    ∙ ap (λ n. length c + n) (length-append d (e ++ (f ++ (g ++ h)))
    ∙ ap (λ n. length d + n) (length-append e (f ++ (g ++ h))
    ∙ ap (λ n. length e + n) (length-append f (g ++ h) ∙ ap (λ n. length f + n) (length-append g h))))))

module _ (names : List (List ℕ)) (at : Placement) (program : FlatProgram) where
  entries_long : (p : ℕ) (qs : List FlatProcedure) → length (entries_from names at program p qs) ≡ length qs
  entries_long p [] = refl
  entries_long p (q ∷ qs) = ap suc (entries_long (p + 1) qs)

  lambda_entries_long : (p : ℕ) (qs : List FlatProcedure) → length (lambda_entries_from names at program p qs) ≡ length qs
  lambda_entries_long p [] = refl
  lambda_entries_long p (q ∷ qs) = ap suc (lambda_entries_long (p + 1) qs)

  bodies_long : (p : ℕ) (qs : List FlatProcedure) → length (bodies_from names at program p qs) ≡ length qs
  bodies_long p [] = refl
  bodies_long p (q ∷ qs) = ap suc (bodies_long (p + 1) qs)

  numbers_long : (n : ℕ) → length (numbers_below names at program n) ≡ n
  numbers_long zero = refl
  numbers_long (suc n) = length-append (numbers_below names at program n) (n ∷ []) ∙ ap (λ m. m + 1) (numbers_long n) ∙ omega arith

  primitives_long : length (primitives names at program) ≡ primitive_count
  primitives_long = length-map (numbers_below names at program primitive_count) (λ (n : ℕ). procedure_of (primitive_at n)) ∙ numbers_long primitive_count

  routines_long : length (routines names at program) ≡ routine_count
  routines_long = refl

  pub lowered_long : at.procedures ≡ length program.procedures → at.lambdas ≡ length program.lambdas
      → length (lowered names at program) ≡ start_number names at program + 1
  unfolding lowered
  lowered_long ps ls =
      let all = together_long (entries_from names at program 0 program.procedures)
      (lambda_entries_from names at program (length program.procedures) program.lambdas) (bodies_from names at program 0 program.procedures)
      (lambda_bodies names at program program.lambdas) (primitives names at program) (routines names at program)
      (map (main_form names at program) program.main) (start names at program ∷ []) in
      let e1 = entries_long 0 program.procedures in
      let e2 = lambda_entries_long (length program.procedures) program.lambdas in
      let e3 = bodies_long 0 program.procedures in
      let e4 : length (lambda_bodies names at program program.lambdas) ≡ length program.lambdas = length-map program.lambdas (body_of names at program itself) in
      let e5 = primitives_long in
      let e6 = routines_long in
      let e7 = length-map program.main (main_form names at program) in
      omega (arith, all, e1, e2, e3, e4, e5, e6, e7, ps, ls)
