-- Arithmetic on integers of the meaning.
use Rattle.std.proofs.Common.{◌≡◌, ℕ, zero, suc, ◌+◌, ◌^◌, ◌≤◌, arith, lit<, Bool, ℤ, pos, negsuc, ◌*ℤ◌, w32, w64, to_z, of_z, List, [], ◌∷◌, Some, None, refl, ◌∙◌}
use Rattle.lang_meaning.specs.declared.program.ProgramRows.{ProgramRows}
use Rattle.lang_meaning.specs.Values.{Value}
use Rattle.lang_meaning.specs.State.{State}
use Rattle.std.specs.Int.RustNames.{unsigned_abs}
use Rattle.std.proofs.Math.Nat.{div-le_self, mul-le-mul}
use Rattle.std.proofs.lemmas.Int.{to_z-of_z, fits_signed_mul, unsigned_abs-mul}
use mir.Val.{SFits}
use Rattle.lang_meaning.specs.Primitives.{as_integer, of_integers, primitive, floor_quotient, says}
use Rattle.eval_store.specs.declared.word.Word.{Word}
use Rattle.eval_store.specs.Words.{value_of_word, values_of}
use Rattle.eval_primitives.specs.declared.answer.Answer.{Answer}
use Rattle.eval_primitives.specs.declared.answer.Answer.TheVariants.{DomainError}
use Rattle.eval_primitives.specs.declared.group.Arithmetic.{Arithmetic}
use Rattle.eval_primitives.specs.declared.group.Arithmetic.TheVariants.{Add}
use Rattle.eval_primitives.specs.declared.group.Comparison.{Comparison}
use Rattle.eval_primitives.specs.declared.group.Comparison.TheVariants.{Equal}
use Rattle.eval_primitives.specs.Groups.{arithmetic_of, comparison_of}
use Rattle.eval_primitives.specs.Numbers.{calculated, compared}
use Rattle.eval_primitives.specs.Answers.{told, IsTold, IsSaid}

-- arithmetic wants two integers
pub on_integers : (names : List (List ℕ)) (rows : ProgramRows) (which : Arithmetic) (vs : List Value) (z : State)
    → primitive names rows (arithmetic_of which) vs z ≡ of_integers (calculated which) vs z
on_integers names rows Add vs z = refl
on_integers names rows w vs z = refl

pub both_integers : (which : Arithmetic) (v w : Word) (a b : ℤ) (x : Answer)
    → ((names : List (List ℕ)) → as_integer (value_of_word names v) ≡ Some a) → ((names : List (List ℕ)) → as_integer (value_of_word names w) ≡ Some b)
    → ((names : List (List ℕ)) (z : State) → calculated which a b z ≡ told names x z) → IsTold (arithmetic_of which) (v ∷ w ∷ []) x
both_integers which v w a b x first second same = record {
  told = λ names rows z.
      on_integers names rows which (values_of names (v ∷ w ∷ [])) z ∙ rw (first names, second names) (same names z);
}

pub first_none : (which : Arithmetic) (v w : Word)
    → ((names : List (List ℕ)) → as_integer (value_of_word names v) ≡ None) → IsTold (arithmetic_of which) (v ∷ w ∷ []) (DomainError v 13)
first_none which v w none = record {
  told = λ names rows z. on_integers names rows which (values_of names (v ∷ w ∷ [])) z ∙ rw (none names) refl;
}

pub second_none : (which : Arithmetic) (v w : Word) (a : ℤ)
    → ((names : List (List ℕ)) → as_integer (value_of_word names v) ≡ Some a) → ((names : List (List ℕ)) → as_integer (value_of_word names w) ≡ None)
    → IsTold (arithmetic_of which) (v ∷ w ∷ []) (DomainError w 13)
second_none which v w a first none = record {
  told = λ names rows z. on_integers names rows which (values_of names (v ∷ w ∷ [])) z ∙ rw (first names, none names) refl;
}

-- so do comparisons
compared_integers : (names : List (List ℕ)) (rows : ProgramRows) (which : Comparison) (vs : List Value) (z : State)
    → primitive names rows (comparison_of which) vs z ≡ of_integers (λ a b. says (compared which a b)) vs z
compared_integers names rows Equal vs z = refl
compared_integers names rows w vs z = refl

pub both_compared : (which : Comparison) (v w : Word) (a b : ℤ) (r : Bool) (x : Answer)
    → ((names : List (List ℕ)) → as_integer (value_of_word names v) ≡ Some a) → ((names : List (List ℕ)) → as_integer (value_of_word names w) ≡ Some b)
    → r ≡ compared which a b → IsSaid r x → IsTold (comparison_of which) (v ∷ w ∷ []) x
both_compared which v w a b r x first second same said = record {
  told = λ names rows z.
      compared_integers names rows which (values_of names (v ∷ w ∷ [])) z ∙ rw (first names, second names, ← same) (said.told names z);
}

pub first_uncompared : (which : Comparison) (v w : Word)
    → ((names : List (List ℕ)) → as_integer (value_of_word names v) ≡ None) → IsTold (comparison_of which) (v ∷ w ∷ []) (DomainError v 13)
first_uncompared which v w none = record {
  told = λ names rows z. compared_integers names rows which (values_of names (v ∷ w ∷ [])) z ∙ rw (none names) refl;
}

pub second_uncompared : (which : Comparison) (v w : Word) (a : ℤ)
    → ((names : List (List ℕ)) → as_integer (value_of_word names v) ≡ Some a) → ((names : List (List ℕ)) → as_integer (value_of_word names w) ≡ None)
    → IsTold (comparison_of which) (v ∷ w ∷ []) (DomainError w 13)
second_uncompared which v w a first none = record {
  told = λ names rows z. compared_integers names rows which (values_of names (v ∷ w ∷ [])) z ∙ rw (first names, none names) refl;
}

-- products

pub abs_fits : (a : ℤ) → SFits w32 a → unsigned_abs a ≤ 2 ^ 31
abs_fits (pos n) f = omega (arith, f.sfits)
abs_fits (negsuc n) f = omega (arith, f.sfits)

pub quotient_small : (a b : ℤ) → unsigned_abs (floor_quotient a b) ≤ unsigned_abs a
quotient_small (pos a) (pos b) = div-le_self a b
quotient_small (negsuc a) (pos b) = omega (arith, div-le_self a b)
quotient_small (pos zero) (negsuc b) = omega arith
quotient_small (pos (suc a)) (negsuc b) = omega (arith, div-le_self a (b + 1))
quotient_small (negsuc a) (negsuc b) = omega (arith, div-le_self (a + 1) (b + 1))

pub product_fits : (a b : ℤ) → unsigned_abs a ≤ 2 ^ 31 → unsigned_abs b ≤ 2 ^ 31 → SFits w64 (a *ℤ b)
product_fits a b f g = fits_signed_mul w64 a b (2 ^ 31) (2 ^ 31) f g (lit< tt)

pub product_small : (a b : ℤ) → unsigned_abs a ≤ 2 ^ 31 → unsigned_abs b ≤ 2 ^ 31 → unsigned_abs (a *ℤ b) ≤ 2 ^ 62
product_small a b f g = rw (unsigned_abs-mul a b) (mul-le-mul f g)

pub product_kept : (a b : ℤ) → SFits w64 a → SFits w64 b → unsigned_abs a ≤ 2 ^ 31 → unsigned_abs b ≤ 2 ^ 31
    → to_z w64 (of_z w64 (to_z w64 (of_z w64 a) *ℤ to_z w64 (of_z w64 b))) ≡ a *ℤ b
product_kept a b fa fb f g = rw (to_z-of_z w64 a fa, to_z-of_z w64 b fb) (to_z-of_z w64 (a *ℤ b) (product_fits a b f g))
