-- Whose spot one is where there is one more, of an object or of what code has for itself, and what is in a list where there is one item more or another.
use Rattle.std.proofs.Common.{◌≡◌, ℕ, zero, suc, ◌<◌, true, false, List, [], ◌∷◌, ◌++◌, length, Some, refl, ap, arith}
use Rattle.std.specs.Prelude.{◌==◌, slice_get, slice_set}
use Rattle.std.proofs.lemmas.Option.{slice_get_within}
use Rattle.std.proofs.lemmas.Bool.Decides.{nat_tests}
use Rattle.base.specs.Names.{slice_get-behind}
use Rattle.mid_arena.specs.Places.{Spot, Places, Owner, of_object, of_symbol, of_other, spot_in, spot_of, with_object, with_other}
use Rattle.mid_arena.proofs.Keeping.{spot_in_tells}

-- an item of a list with one more at its end
pub data FrontOrEnd {X : Type 0} (xs : List X) (x : X) (i : ℕ) (item : X) : Type 0 where
  at_front : slice_get xs i ≡ Some item → FrontOrEnd xs x i item
  at_end : i ≡ length xs → item ≡ x → FrontOrEnd xs x i item

pub front_or_end : {X : Type 0} (xs : List X) (x : X) (i : ℕ) (item : X) → slice_get (xs ++ x ∷ []) i ≡ Some item → FrontOrEnd xs x i item
front_or_end [] x zero item e = at_end refl (cc e)
front_or_end [] x (suc i) item e = absurd (cc e)
front_or_end (y ∷ xs) x zero item e = at_front e
front_or_end (y ∷ xs) x (suc i) item e = further (front_or_end xs x i item e)
  where
    further : FrontOrEnd xs x i item → FrontOrEnd (y ∷ xs) x (suc i) item
    further (at_front h) = at_front h
    further (at_end h same) = at_end (omega arith) same

-- whose spot one is where a new owner has one
pub data OldOrNew (s : Spot) (places : Places) (new p : Owner) (found : Spot) : Type 0 where
  of_old : spot_of places p ≡ Some found → OldOrNew s places new p found
  of_new : p ≡ new → found ≡ s → OldOrNew s places new p found

-- one object more
abbrev pub new_object : Places → Owner
new_object places = of_object (length places.objects)

pub old_or_new : (s : Spot) (places : Places) (p : Owner) (found : Spot) → spot_of (with_object s places) p ≡ Some found → OldOrNew s places (new_object places) p found
old_or_new s places (of_symbol v) found e = of_old e
old_or_new s places (of_other n) found e = of_old e
old_or_new s places (of_object i) found e = by (front_or_end places.objects (Some s) i (Some found) (spot_in_tells _ found e))
  where
    by : FrontOrEnd places.objects (Some s) i (Some found) → OldOrNew s places (new_object places) (of_object i) found
    by (at_front h) = of_old (ap spot_in h)
    by (at_end h same) = of_new (ap of_object h) (cc same)

-- one more spot that code has for itself
abbrev pub new_other : Places → Owner
new_other places = of_other (length places.others)

pub old_or_other : (s : Spot) (places : Places) (p : Owner) (found : Spot) → spot_of (with_other s places) p ≡ Some found → OldOrNew s places (new_other places) p found
old_or_other s places (of_symbol v) found e = of_old e
old_or_other s places (of_object i) found e = of_old e
old_or_other s places (of_other n) found e = by (front_or_end places.others s n found e)
  where
    by : FrontOrEnd places.others s n found → OldOrNew s places (new_other places) (of_other n) found
    by (at_front h) = of_old h
    by (at_end h same) = of_new (ap of_other h) same

-- each number is the one of itself
pub same_number : (n : ℕ) → (n == n) ≡ true
same_number n = grind (arith, nat_tests)

-- the new object has the new spot
pub new_spot_found : (s : Spot) (places : Places) → spot_of (with_object s places) (of_object (length places.objects)) ≡ Some s
new_spot_found s places = ap spot_in (slice_get-behind places.objects (Some s))

-- an object that has a spot is in the store
pub object_within : (places : Places) (i : ℕ) (s : Spot) → spot_of places (of_object i) ≡ Some s → i < length places.objects
object_within places i s e = slice_get_within places.objects i (Some s) (spot_in_tells _ s e)

-- an item of a list in which one was replaced
pub data SetOrNot {X : Type 0} (xs : List X) (i : ℕ) (x : X) (j : ℕ) (item : X) : Type 0 where
  at_place : j ≡ i → item ≡ x → SetOrNot xs i x j item
  elsewhere : (j == i) ≡ false → slice_get xs j ≡ Some item → SetOrNot xs i x j item

pub after_zero : (j : ℕ) → (suc j == 0) ≡ false
after_zero j = grind (arith, nat_tests)

pub before_later : (j : ℕ) → (0 == suc j) ≡ false
before_later j = grind (arith, nat_tests)

both_later : (i j : ℕ) → (j == i) ≡ false → (suc j == suc i) ≡ false
both_later i j e = grind (arith, nat_tests)

pub set_or_not : {X : Type 0} (xs : List X) (i : ℕ) (x : X) (j : ℕ) (item : X) → slice_get (slice_set xs i x) j ≡ Some item → SetOrNot xs i x j item
set_or_not [] i x j item e = absurd (cc e)
set_or_not (y ∷ ys) zero x zero item e = at_place refl (cc e)
set_or_not (y ∷ ys) zero x (suc j) item e = elsewhere (after_zero j) e
set_or_not (y ∷ ys) (suc i) x zero item e = elsewhere (before_later i) e
set_or_not (y ∷ ys) (suc i) x (suc j) item e = further (set_or_not ys i x j item e)
  where
    further : SetOrNot ys i x j item → SetOrNot (y ∷ ys) (suc i) x (suc j) item
    further (at_place h same) = at_place (omega arith) same
    further (elsewhere h same) = elsewhere (both_later i j h) same
