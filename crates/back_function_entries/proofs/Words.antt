-- The first words of a list, and those behind them.
use Rattle.std.proofs.Common.{◌≡◌, ℕ, zero, suc, ◌+◌, ◌≤◌, List, [], ◌∷◌, ◌++◌, length, Some, refl, ap, subst, arith}
use Rattle.std.specs.Prelude.{take, drop}
use Rattle.lang_meaning.specs.Values.{Value}
use Rattle.mid_code.specs.State.{Registers, register}
use Rattle.mid_arena.specs.Places.{Places, WordsOf}
use Rattle.back_lowering.specs.Scope.{registers_from}
use Rattle.back_values.specs.Arguments.{WordsIn}
use Rattle.back_calling.specs.Calling as calling

pub take_count : {X : Type 0} (n : ℕ) (xs : List X) → n ≤ length xs → length (take n xs) ≡ n
take_count zero [] h = refl
take_count zero (x ∷ xs) h = refl
take_count (suc n) [] h = absurd (omega (arith, h))
take_count (suc n) (x ∷ xs) h = ap (λ m. suc m) (take_count n xs (omega (arith, h)))

pub drop_count : {X : Type 0} (n : ℕ) (xs : List X) → n ≤ length xs → length (drop n xs) + n ≡ length xs
drop_count zero [] h = refl
drop_count zero (x ∷ xs) h = omega arith
drop_count (suc n) [] h = absurd (omega (arith, h))
drop_count (suc n) (x ∷ xs) h = let inner = drop_count n xs (omega (arith, h)) in omega (arith, inner)

pub words_taken : (n d : ℕ) (ws : List ℕ) (regs : Registers) → WordsIn d ws regs → WordsIn d (take n ws) regs
words_taken zero d [] regs h = tt
words_taken zero d (w ∷ ws) regs h = tt
words_taken (suc n) d [] regs h = tt
words_taken (suc n) d (w ∷ ws) regs h = (h.0, words_taken n (d + 1) ws regs h.1)

pub words_dropped : (n d e : ℕ) (ws : List ℕ) (regs : Registers) → e ≡ d + n → WordsIn d ws regs → WordsIn e (drop n ws) regs
words_dropped zero d e [] regs at h = tt
words_dropped zero d e (w ∷ ws) regs at h = let here : d ≡ e = omega (arith, at) in subst (λ r. WordsIn r (w ∷ ws) regs) here h
words_dropped (suc n) d e [] regs at h = tt
words_dropped (suc n) d e (w ∷ ws) regs at h = words_dropped n (d + 1) e ws regs (omega (arith, at)) h.1

pub of_values_taken : (n : ℕ) (places : Places) (vs : List Value) (ws : List ℕ) → WordsOf places vs ws → WordsOf places (take n vs) (take n ws)
of_values_taken zero places [] [] h = tt
of_values_taken zero places (v ∷ vs) (w ∷ ws) h = tt
of_values_taken (suc n) places [] [] h = tt
of_values_taken (suc n) places (v ∷ vs) (w ∷ ws) h = (h.0, of_values_taken n places vs ws h.1)
of_values_taken n places [] (w ∷ ws) h = absurd h
of_values_taken n places (v ∷ vs) [] h = absurd h

pub of_values_dropped : (n : ℕ) (places : Places) (vs : List Value) (ws : List ℕ) → WordsOf places vs ws → WordsOf places (drop n vs) (drop n ws)
of_values_dropped zero places [] [] h = tt
of_values_dropped zero places (v ∷ vs) (w ∷ ws) h = h
of_values_dropped (suc n) places [] [] h = tt
of_values_dropped (suc n) places (v ∷ vs) (w ∷ ws) h = of_values_dropped n places vs ws h.1
of_values_dropped n places [] (w ∷ ws) h = absurd h
of_values_dropped n places (v ∷ vs) [] h = absurd h

pub as_many : (places : Places) (vs : List Value) (ws : List ℕ) → WordsOf places vs ws → length ws ≡ length vs
as_many places [] [] h = refl
as_many places [] (w ∷ ws) h = absurd h
as_many places (v ∷ vs) [] h = absurd h
as_many places (v ∷ vs) (w ∷ ws) h = ap (λ n. suc n) (as_many places vs ws h.1)

-- words in registers one after another, one in a register behind them, and further ones
pub words_and_rest :
    (d : ℕ) (ws : List ℕ) (count e word : ℕ) (regs : Registers) (rs ms : List ℕ) → length ws ≡ count → WordsIn d ws regs → register e regs ≡ Some word → calling.WordsIn regs rs ms
    → calling.WordsIn regs ((registers_from d count ++ e ∷ []) ++ rs) ((ws ++ word ∷ []) ++ ms)
words_and_rest d [] zero e word regs rs ms same h here k = (here, k)
words_and_rest d [] (suc count) e word regs rs ms same h here k = absurd (omega (arith, same))
words_and_rest d (w ∷ ws) zero e word regs rs ms same h here k = absurd (omega (arith, same))
words_and_rest d (w ∷ ws) (suc count) e word regs rs ms same h here k = (h.0, words_and_rest (d + 1) ws count e word regs rs ms (omega (arith, same)) h.1 here k)
