-- The first registers of an activation: arguments, and nothing in the others.
use Rattle.std.proofs.Common.{◌≡◌, ℕ, zero, suc, ◌-◌, ◌<◌, List, [], ◌∷◌, ◌++◌, length, map, replicate, Some, None, arith}
use Rattle.std.specs.Prelude.{Option, slice_get}
use Rattle.mid_code.specs.State.{register, first_registers}

-- nothing is in registers that were not set
none_set : (count v w : ℕ) → register v (replicate {A = Option ℕ} count None) ≡ Some w → ⊥
none_set zero v w h = cc h
none_set (suc count) zero w h = cc h
none_set (suc count) (suc v) w h = none_set count v w h

in_front : (count : ℕ) (ws : List ℕ) (v w : ℕ) → register v (map (λ x. Some x) ws ++ replicate {A = Option ℕ} count None) ≡ Some w → slice_get ws v ≡ Some w
in_front count [] v w h = absurd (none_set count v w h)
in_front count (x ∷ ws) zero w h = h
in_front count (x ∷ ws) (suc v) w h = in_front count ws v w h

-- what is in a register is an argument
pub is_argument : (count : ℕ) (arguments : List ℕ) (v w : ℕ) → register v (first_registers count arguments) ≡ Some w → slice_get arguments v ≡ Some w
is_argument count arguments v w h = in_front (count - length arguments) arguments v w h

-- a word of a list stands below its end
pub below_end : (ws : List ℕ) (v w : ℕ) → slice_get ws v ≡ Some w → v < length ws
below_end [] v w h = absurd (cc h)
below_end (x ∷ ws) zero w h = omega arith
below_end (x ∷ ws) (suc v) w h = let deeper = below_end ws v w h in omega (arith, deeper)
