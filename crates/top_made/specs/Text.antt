-- **The text that `make` runs for a number.**
use Rattle.std.specs.Prelude.{ℕ, zero, suc, ◌%◌, ◌==◌, if◌then◌else◌, List, [], ◌∷◌, ◌++◌, codes}
use Rattle.std.specs.Fmt.{decimal}

abbrev pub line : List ℕ → List ℕ
line text = text ++ 10 ∷ []

-- first come these four lines
unfoldable pub first_lines : List ℕ
first_lines =
    line (codes "(defglobal total 0)")
    ++ line (codes "(defclass <c0> () ((v :initarg v :reader v-of)))")
    ++ line (codes "(defgeneric g (x))")
    ++ line (codes "(defmethod g ((x <c0>)) (v-of x))")

-- then for each number from 1 on these four
unfoldable pub numbered_lines : List ℕ
numbered_lines =
    line (codes "(defun fI (x) (block b (unwind-protect (if (< x R) (return-from b (+ x I)) (+ x 1)) (setq total (mod (+ total x) 10007)))))")
    ++ line (codes "(defclass <cI> (<c0>) ())")
    ++ line (codes "(defmethod g ((x <cI>)) (+ I (call-next-method)))")
    ++ line (codes "(setq total (mod (+ total (with-handler (lambda (c) (continue-condition c I)) (+ (fI (mod total 10)) (g (create (class <cI>) 'v I)) (cerror \"go\" \"stop\")))) 10007))")

-- in which the letter I is replaced by the number, and R by what is left of it modulo 7
abbrev pub letter_filled : (number : ℕ) → ℕ → List ℕ
letter_filled number b = if b == 73 then decimal number else if b == 82 then decimal (number % 7) else b ∷ []

unfoldable pub filled : (number : ℕ) → List ℕ → List ℕ
filled number [] = []
filled number (b ∷ bs) = letter_filled number b ++ filled number bs

unfoldable pub lines_up_to : ℕ → List ℕ
lines_up_to zero = []
lines_up_to (suc n) = lines_up_to n ++ filled (suc n) numbered_lines

-- last comes this one
unfoldable pub last_line : List ℕ
last_line = line (codes "(format (standard-output) \"~D~%\" total)")

abbrev pub text_of : ℕ → List ℕ
text_of number = (first_lines ++ lines_up_to number) ++ last_line
