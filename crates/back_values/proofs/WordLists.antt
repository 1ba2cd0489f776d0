-- Words of values in registers one after another: one more behind them, and where all are as they were.
use Rattle.std.proofs.Common.{◌≡◌, ℕ, ◌+◌, ◌<◌, ◌≤◌, List, [], ◌∷◌, ◌++◌, length, Some, ◌∙◌, subst, arith}
use Rattle.lang_meaning.specs.Values.{Value}
use Rattle.mid_code.specs.State.{Registers, register}
use Rattle.mid_arena.specs.Places.{WordsOf, word_of}
use Rattle.back_relation.specs.Worlds.{World, Later}
use Rattle.back_relation.proofs.Worlds.{word_later}
use Rattle.back_values.specs.Arguments.{WordsIn}

pub words_kept :
    (d : ℕ) (ws : List ℕ) (regs regs' : Registers) → ((r : ℕ) → d ≤ r → r < d + length ws → register r regs' ≡ register r regs) → WordsIn d ws regs
    → WordsIn d ws regs'
words_kept d [] regs regs' same h = tt
words_kept d (w ∷ ws) regs regs' same h =
    (same d (omega arith) (omega arith) ∙ h.0, words_kept (d + 1) ws regs regs' (λ r low high. same r (omega arith) (omega arith)) h.1)

pub words_and_one :
    (d e : ℕ) (ws : List ℕ) (w : ℕ) (regs : Registers) → e ≡ d + length ws → WordsIn d ws regs → register e regs ≡ Some w → WordsIn d (ws ++ w ∷ []) regs
words_and_one d e [] w regs same h here =
    let there : e ≡ d = omega (arith, same) in (subst (λ r. register r regs ≡ Some w) there here, tt)
words_and_one d e (v ∷ ws) w regs same h here = (h.0, words_and_one (d + 1) e ws w regs (omega (arith, same)) h.1 here)

pub word_in_list :
    (d i : ℕ) (ws vs : List ℕ) (w : ℕ) (regs : Registers) → i ≡ d + length ws → WordsIn d (ws ++ w ∷ vs) regs → register i regs ≡ Some w
word_in_list d i [] vs w regs same h = let there : d ≡ i = omega (arith, same) in subst (λ r. register r regs ≡ Some w) there h.0
word_in_list d i (v ∷ ws) vs w regs same h = word_in_list (d + 1) i ws vs w regs (omega (arith, same)) h.1

pub of_values_later : {w w' : World} → Later w w' → (vs : List Value) (ws : List ℕ) → WordsOf w.places vs ws → WordsOf w'.places vs ws
of_values_later l [] [] h = tt
of_values_later l [] (w ∷ ws) h = h
of_values_later l (v ∷ vs) [] h = h
of_values_later l (v ∷ vs) (w ∷ ws) h = (word_later l v w h.0, of_values_later l vs ws h.1)

pub of_values_and_one :
    (w : World) (vs : List Value) (ws : List ℕ) (v : Value) (word : ℕ) → WordsOf w.places vs ws → word_of w.places v ≡ Some word
    → WordsOf w.places (vs ++ v ∷ []) (ws ++ word ∷ [])
of_values_and_one w [] [] v word h is = (is, tt)
of_values_and_one w [] (x ∷ ws) v word h is = absurd h
of_values_and_one w (u ∷ vs) [] v word h is = absurd h
of_values_and_one w (u ∷ vs) (x ∷ ws) v word h is = (h.0, of_values_and_one w vs ws v word h.1 is)
