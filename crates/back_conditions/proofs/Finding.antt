-- Where the routines are among the procedures of a program.
use Rattle.std.proofs.Common.{◌≡◌, ℕ, zero, suc, ◌+◌, List, [], ◌∷◌, ◌++◌, length, map, Some, refl, ap, ◌∙◌, subst, arith}
use Rattle.std.specs.Prelude.{slice_get}
use Rattle.std.proofs.lemmas.List.{length-map}
use Rattle.flat_language.specs.declared.program.FlatProcedure.{FlatProcedure}
use Rattle.flat_language.specs.declared.program.FlatProgram.{FlatProgram}
use Rattle.mid_code.specs.declared.program.MidProcedure.{MidProcedure}
use Rattle.back_lowering.specs.declared.placement.Placement.{Placement}
use Rattle.back_lowering.specs.Placement.{routines_from}
use Rattle.back_lowering.specs.Program.{entries_from, lambda_entries_from, bodies_from, lambda_bodies, primitives, routines, main_form, start, lowered, body_of, itself}
use Rattle.back_relation.specs.Setting.{Setting, WithinFrame, FramesWithin}
use Rattle.back_relation.specs.Placed.{IsPlaced}

-- an item behind other items
pub behind_front : {X : Type 0} (xs ys : List X) (i j : ℕ) (x : X) → j ≡ length xs + i → slice_get ys i ≡ Some x → slice_get (xs ++ ys) j ≡ Some x
behind_front [] ys i j x e h = let same : j ≡ i = omega (arith, e) in ap (slice_get ys) same ∙ h
behind_front (z ∷ xs) ys i zero x e h = absurd (omega (arith, e))
behind_front (z ∷ xs) ys i (suc j) x e h = behind_front xs ys i j x (omega (arith, e)) h

pub before_more : {X : Type 0} (xs ys : List X) (i : ℕ) (x : X) → slice_get xs i ≡ Some x → slice_get (xs ++ ys) i ≡ Some x
before_more [] ys i x h = absurd (cc h)
before_more (z ∷ xs) ys zero x h = h
before_more (z ∷ xs) ys (suc i) x h = before_more xs ys i x h

module _ (names : List (List ℕ)) (at : Placement) (program : FlatProgram) where
  entry_count : (p : ℕ) (qs : List FlatProcedure) → length (entries_from names at program p qs) ≡ length qs
  entry_count p [] = refl
  entry_count p (q ∷ qs) = ap suc (entry_count (p + 1) qs)

  lambda_entry_count : (p : ℕ) (qs : List FlatProcedure) → length (lambda_entries_from names at program p qs) ≡ length qs
  lambda_entry_count p [] = refl
  lambda_entry_count p (q ∷ qs) = ap suc (lambda_entry_count (p + 1) qs)

  body_count : (p : ℕ) (qs : List FlatProcedure) → length (bodies_from names at program p qs) ≡ length qs
  body_count p [] = refl
  body_count p (q ∷ qs) = ap suc (body_count (p + 1) qs)

  lambda_body_count : (qs : List FlatProcedure) → length (lambda_bodies names at program qs) ≡ length qs
  lambda_body_count qs = length-map qs (body_of names at program itself)

  primitive_number : length (primitives names at program) ≡ 58
  primitive_number = refl

  -- a routine is found behind all functions and primitives
  routine_there :
      (i : ℕ) (p : MidProcedure) → at.procedures ≡ length program.procedures → at.lambdas ≡ length program.lambdas
      → slice_get (routines names at program) i ≡ Some p → slice_get (lowered names at program) (routines_from at + i) ≡ Some p
  unfolding lowered
  routine_there i p procedures lambdas found =
      let qs = program.procedures in
      let ls = program.lambdas in
      let behind_routines = map (main_form names at program) program.main ++ start names at program ∷ [] in
      let fourth : ℕ = 58 + i in
      let third : ℕ = at.lambdas + fourth in
      let second : ℕ = at.procedures + third in
      let first : ℕ = at.lambdas + second in
      behind_front (entries_from names at program 0 qs) _ first (routines_from at + i) p (omega (arith, procedures, entry_count 0 qs))
      (behind_front (lambda_entries_from names at program (length qs) ls) _ second first p (omega (arith, lambdas, lambda_entry_count (length qs) ls))
      (behind_front (bodies_from names at program 0 qs) _ third second p (omega (arith, procedures, body_count 0 qs))
      (behind_front (lambda_bodies names at program ls) _ fourth third p (omega (arith, lambdas, lambda_body_count ls))
      (behind_front (primitives names at program) (routines names at program ++ behind_routines) i fourth p (omega (arith, primitive_number))
      (before_more (routines names at program) behind_routines i p found)))))

-- the procedure that is used for one that was given
pub record Used (given : MidProcedure) (procedures : List MidProcedure) (number : ℕ) : Type 0 where
  pub used : MidProcedure
  pub found : slice_get procedures number ≡ Some used
  pub within : WithinFrame given used

pub used_there : (gs ps : List MidProcedure) (i : ℕ) (g : MidProcedure) → FramesWithin gs ps → slice_get gs i ≡ Some g → Used g ps i
used_there [] ps i g h e = absurd (cc e)
used_there (x ∷ gs) [] i g h e = absurd h
used_there (x ∷ gs) (p ∷ ps) zero g h e = let same : x ≡ g = cc e in record { used = p; found = refl; within = subst (λ y. WithinFrame y p) same h.0 }
used_there (x ∷ gs) (p ∷ ps) (suc i) g h e = let more = used_there gs ps i g h.1 e in record { used = more.used; found = more.found; within = more.within }

-- **a routine by its number**
pub routine_used :
    (setting : Setting) (i : ℕ) (p : MidProcedure) → IsPlaced setting → slice_get (routines setting.names setting.at setting.program) i ≡ Some p
    → Used p setting.procedures (routines_from setting.at + i)
routine_used setting i p placed found =
    used_there (lowered setting.names setting.at setting.program) setting.procedures (routines_from setting.at + i) p setting.frames
    (routine_there setting.names setting.at setting.program i p placed.procedures placed.lambdas found)
