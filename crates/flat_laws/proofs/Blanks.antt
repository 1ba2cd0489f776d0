-- Objects of a known kind with nothing set in them, and lists of objects: what a step adds or changes.
use Rattle.std.proofs.Common.{◌≡◌, ℕ, zero, suc, ◌<◌, List, [], ◌∷◌, ◌++◌, refl, sym, ap, subst, Option, Some, None, length, arith}
use Rattle.std.specs.Prelude.{replicate, slice_get, slice_set}
use Rattle.lang_meaning.specs.Values.{Value, nil}
use Rattle.lang_meaning.specs.Objects.{Object, cons, string, vector, instance}
use Rattle.lang_meaning.specs.Primitives.{as_cons, as_string, as_vector, as_instance}
use Rattle.flat_language.proofs.Lists.{same_or_not, other_place}
use Rattle.flat_laws.specs.Blanks.{blank}

pub cons_blank : (o : Option Object) (c : Value × Value) → as_cons o ≡ Some c → blank o ≡ Some (cons nil nil)
cons_blank (Some (cons a d)) c h = refl
cons_blank o c h = absurd (cc h)

pub string_blank : (o : Option Object) (bytes : List ℕ) → as_string o ≡ Some bytes → blank o ≡ Some (string (replicate (length bytes) 0))
string_blank (Some (string old)) bytes h =
    let e : old ≡ bytes = cc h in ap (λ (now : List ℕ). Some (string (replicate (length now) 0))) e
string_blank o bytes h = absurd (cc h)

pub vector_blank : (o : Option Object) (vs : List Value) → as_vector o ≡ Some vs → blank o ≡ Some (vector (replicate (length vs) nil))
vector_blank (Some (vector old)) vs h =
    let e : old ≡ vs = cc h in ap (λ (now : List Value). Some (vector (replicate (length now) nil))) e
vector_blank o vs h = absurd (cc h)

pub instance_blank : (o : Option Object) (i : ℕ × List (Option Value) × Value) → as_instance o ≡ Some i
    → blank o ≡ Some (instance i.0 (replicate (length i.1) None) nil)
instance_blank (Some (instance class slots mark)) i h =
    let e : (class, slots, mark) ≡ i = cc h in
    ap (λ (now : ℕ × List (Option Value) × Value). Some (instance now.0 (replicate (length now.1) None) nil)) e
instance_blank o i h = absurd (cc h)

-- what stands in front of more objects
pub still_there : {X : Type 0} (xs ys : List X) (i : ℕ) → i < length xs → slice_get (xs ++ ys) i ≡ slice_get xs i
still_there [] ys i h = absurd (omega (arith, h))
still_there (x ∷ xs) ys zero h = refl
still_there (x ∷ xs) ys (suc i) h = still_there xs ys i (omega (arith, h))

-- the place that is set: the new object where one was there
set_place : (xs : List Object) (i : ℕ) (o : Object) → blank (slice_get xs i) ≡ blank (Some o)
    → blank (slice_get (slice_set xs i o) i) ≡ blank (slice_get xs i)
set_place [] i o h = refl
set_place (x ∷ xs) zero o h = sym h
set_place (x ∷ xs) (suc i) o h = set_place xs i o h

-- an object of the same kind and size is put in the place of another one
pub blank_set : (xs : List Object) (i : ℕ) (o : Object) → blank (slice_get xs i) ≡ blank (Some o)
    → (j : ℕ) → blank (slice_get (slice_set xs i o) j) ≡ blank (slice_get xs j)
blank_set xs i o h j =
    same_or_not j i
    (λ e. subst (λ n. blank (slice_get (slice_set xs i o) n) ≡ blank (slice_get xs n)) (sym e) (set_place xs i o h))
    (λ apart. ap blank (other_place xs i j o apart))
