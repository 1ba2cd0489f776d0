-- Runs of more and of fewer instructions: each fact is first one of `act`, by its cases, and then one of
-- `run_from`, by induction.
use Rattle.std.proofs.Common.{◌≡◌, ℕ, zero, suc, ◌+◌, ◌%◌, ◌≤◌, List, [], ◌∷◌, ◌++◌, drop, refl, sym, ap, ◌∙◌, arith, append_assoc, append-nil, zero-add, add-zero}
use Rattle.rv_machine.specs.declared.ending.Ending.TheVariants.{Budget}
use Rattle.rv_machine.specs.State.{register}
use Rattle.rv_machine.specs.Step.{Result, next, environment_call, trapped, step_of}
use Rattle.rv_machine.specs.Run.{Moment, Ended, act, after_put, after_get, stop, run_from, first, turn_of}

-- More instructions change no run that has ended.

act-more :
    (f g : Moment → Ended) → ((k : Moment) → ((g k).ending ≡ Budget → ⊥) → f k ≡ g k)
    → (r : Result) (m : Moment) → ((act g r m).ending ≡ Budget → ⊥) → act f r m ≡ act g r m
act-more f g h (next s) m e = h _ e
act-more f g h (environment_call zero) m e = refl
act-more f g h (environment_call (suc zero)) m e = h _ e
act-more f g h (environment_call (suc (suc zero))) m e = h _ e
act-more f g h (environment_call (suc (suc (suc zero)))) m e = refl
act-more f g h (environment_call (suc (suc (suc (suc zero))))) m e = refl
act-more f g h (environment_call (suc (suc (suc (suc (suc _)))))) m e = refl
act-more f g h (trapped kind address) m e = refl

pub run_from-more : (j n : ℕ) (m : Moment) → j ≤ n → ((run_from j m).ending ≡ Budget → ⊥) → run_from n m ≡ run_from j m
unfolding run_from
run_from-more zero n m le e = absurd (e refl)
run_from-more (suc j) zero m le e = absurd (omega arith)
run_from-more (suc j) (suc n) m le e =
    act-more (run_from n) (run_from j) (λ k d. run_from-more j n k (omega arith) d) (step_of m.state) m e

-- What was printed stays at the front.

abbrev pub IsPrefix : List ℕ → List ℕ → Type 0
IsPrefix xs ys = (rest : List ℕ) × (xs ++ rest ≡ ys)

act-grows :
    (f : Moment → Ended) → ((k : Moment) → IsPrefix k.printed (f k).at.printed)
    → (r : Result) (m : Moment) → IsPrefix m.printed (act f r m).at.printed
act-grows f h (next s) m = h _
act-grows f h (environment_call zero) m = ([], append-nil _)
act-grows f h (environment_call (suc zero)) m =
    let byte : ℕ = register m.state 10 % 256 in
    let grown = h (after_put m) in
    (byte ∷ grown.0, sym (append_assoc m.printed (byte ∷ []) grown.0) ∙ grown.1)
act-grows f h (environment_call (suc (suc zero))) m = h (after_get m)
act-grows f h (environment_call (suc (suc (suc zero)))) m = ([], append-nil _)
act-grows f h (environment_call (suc (suc (suc (suc zero))))) m = ([], append-nil _)
act-grows f h (environment_call (suc (suc (suc (suc (suc _)))))) m = ([], append-nil _)
act-grows f h (trapped kind address) m = ([], append-nil _)

pub run_from-grows : (n : ℕ) (m : Moment) → IsPrefix m.printed (run_from n m).at.printed
unfolding run_from
run_from-grows zero m = ([], append-nil _)
run_from-grows (suc n) m = act-grows (run_from n) (run_from-grows n) (step_of m.state) m

act-prefix :
    (f g : Moment → Ended) → ((k : Moment) → IsPrefix (f k).at.printed (g k).at.printed)
    → (r : Result) (m : Moment) → IsPrefix (act f r m).at.printed (act g r m).at.printed
act-prefix f g h (next s) m = h _
act-prefix f g h (environment_call zero) m = ([], append-nil _)
act-prefix f g h (environment_call (suc zero)) m = h _
act-prefix f g h (environment_call (suc (suc zero))) m = h _
act-prefix f g h (environment_call (suc (suc (suc zero)))) m = ([], append-nil _)
act-prefix f g h (environment_call (suc (suc (suc (suc zero))))) m = ([], append-nil _)
act-prefix f g h (environment_call (suc (suc (suc (suc (suc _)))))) m = ([], append-nil _)
act-prefix f g h (trapped kind address) m = ([], append-nil _)

pub run_from-prefix : (j n : ℕ) (m : Moment) → j ≤ n → IsPrefix (run_from j m).at.printed (run_from n m).at.printed
unfolding run_from
run_from-prefix zero n m le = run_from-grows n m
run_from-prefix (suc j) zero m le = absurd (omega arith)
run_from-prefix (suc j) (suc n) m le =
    act-prefix (run_from j) (run_from n) (λ k. run_from-prefix j n k (omega arith)) (step_of m.state) m

-- A run that goes on has executed all its instructions.

act-executed :
    (f : Moment → Ended) (j : ℕ) → ((k : Moment) → (f k).ending ≡ Budget → (f k).at.executed ≡ k.executed + j)
    → (r : Result) (m : Moment) → (act f r m).ending ≡ Budget → (act f r m).at.executed ≡ m.executed + suc j
act-executed f j h (next s) m e = let k = h _ e in omega arith
act-executed f j h (environment_call zero) m e = cc
act-executed f j h (environment_call (suc zero)) m e = let k = h _ e in omega arith
act-executed f j h (environment_call (suc (suc zero))) m e = let k = h _ e in omega arith
act-executed f j h (environment_call (suc (suc (suc zero)))) m e = cc
act-executed f j h (environment_call (suc (suc (suc (suc zero))))) m e = cc
act-executed f j h (environment_call (suc (suc (suc (suc (suc _)))))) m e = cc
act-executed f j h (trapped kind address) m e = cc

pub run_from-executed : (j : ℕ) (m : Moment) → (run_from j m).ending ≡ Budget → (run_from j m).at.executed ≡ m.executed + j
unfolding run_from
run_from-executed zero m e = sym (add-zero m.executed)
run_from-executed (suc j) m e = act-executed (run_from j) j (run_from-executed j) (step_of m.state) m e

-- A run that goes on is split at any place.

act-split :
    (f g h : Moment → Ended) → ((k : Moment) → (f k).ending ≡ Budget → g k ≡ h (f k).at)
    → (r : Result) (m : Moment) → (act f r m).ending ≡ Budget → act g r m ≡ h (act f r m).at
act-split f g h l (next s) m e = l _ e
act-split f g h l (environment_call zero) m e = cc
act-split f g h l (environment_call (suc zero)) m e = l _ e
act-split f g h l (environment_call (suc (suc zero))) m e = l _ e
act-split f g h l (environment_call (suc (suc (suc zero)))) m e = cc
act-split f g h l (environment_call (suc (suc (suc (suc zero))))) m e = cc
act-split f g h l (environment_call (suc (suc (suc (suc (suc _)))))) m e = cc
act-split f g h l (trapped kind address) m e = cc

pub run_from-split : (j k : ℕ) (m : Moment) → (run_from j m).ending ≡ Budget → run_from (j + k) m ≡ run_from k (run_from j m).at
unfolding run_from
run_from-split zero k m e = ap (λ n. run_from n m) (zero-add k)
run_from-split (suc j) k m e =
    let longer : suc j + k ≡ suc (j + k) = omega arith in
    ap (λ n. run_from n m) longer
    ∙ act-split (run_from j) (run_from (j + k)) (run_from k) (λ l d. run_from-split j k l d) (step_of m.state) m e

-- The input left is a back of the input, and get-bytes only grow in number.

abbrev pub IsBack : List ℕ → List ℕ → Type 0
IsBack back whole = (front : List ℕ) × (whole ≡ front ++ back)

one-less : (input : List ℕ) → IsBack (drop 1 input) input
one-less [] = ([], refl)
one-less (byte ∷ rest) = (byte ∷ [], refl)

back-of_back : (xs ys zs : List ℕ) → IsBack xs ys → IsBack ys zs → IsBack xs zs
back-of_back xs ys zs a b = (b.0 ++ a.0, b.1 ∙ (ap (λ l. b.0 ++ l) a.1 ∙ sym (append_assoc b.0 a.0 xs)))

abbrev pub ReadsOn : Moment → Moment → Type 0
ReadsOn m m' = IsBack m'.input m.input × (m.gets ≤ m'.gets)

act-reads : (f : Moment → Ended) → ((k : Moment) → ReadsOn k (f k).at) → (r : Result) (m : Moment) → ReadsOn m (act f r m).at
act-reads f h (next s) m = h _
act-reads f h (environment_call zero) m = (([], refl), omega arith)
act-reads f h (environment_call (suc zero)) m = h (after_put m)
act-reads f h (environment_call (suc (suc zero))) m =
    let later = h (after_get m) in (back-of_back _ _ _ later.0 (one-less m.input), let more = later.1 in omega arith)
act-reads f h (environment_call (suc (suc (suc zero)))) m = (([], refl), omega arith)
act-reads f h (environment_call (suc (suc (suc (suc zero))))) m = (([], refl), omega arith)
act-reads f h (environment_call (suc (suc (suc (suc (suc _)))))) m = (([], refl), omega arith)
act-reads f h (trapped kind address) m = (([], refl), omega arith)

pub run_from-reads : (n : ℕ) (m : Moment) → ReadsOn m (run_from n m).at
unfolding run_from
run_from-reads zero m = (([], refl), omega arith)
run_from-reads (suc n) m = act-reads (run_from n) (run_from-reads n) (step_of m.state) m

act-read_more :
    (f g : Moment → Ended) → ((k : Moment) → ReadsOn (f k).at (g k).at) → (r : Result) (m : Moment)
    → ReadsOn (act f r m).at (act g r m).at
act-read_more f g h (next s) m = h _
act-read_more f g h (environment_call zero) m = (([], refl), omega arith)
act-read_more f g h (environment_call (suc zero)) m = h _
act-read_more f g h (environment_call (suc (suc zero))) m = h _
act-read_more f g h (environment_call (suc (suc (suc zero)))) m = (([], refl), omega arith)
act-read_more f g h (environment_call (suc (suc (suc (suc zero))))) m = (([], refl), omega arith)
act-read_more f g h (environment_call (suc (suc (suc (suc (suc _)))))) m = (([], refl), omega arith)
act-read_more f g h (trapped kind address) m = (([], refl), omega arith)

pub run_from-read_more : (j n : ℕ) (m : Moment) → j ≤ n → ReadsOn (run_from j m).at (run_from n m).at
unfolding run_from
run_from-read_more zero n m le = run_from-reads n m
run_from-read_more (suc j) zero m le = absurd (omega arith)
run_from-read_more (suc j) (suc n) m le =
    act-read_more (run_from j) (run_from n) (λ k. run_from-read_more j n k (omega arith)) (step_of m.state) m

-- One instruction more.

-- an end, seen from an earlier moment
abbrev pub after : Moment → Ended → Ended
after m e = record {
  ending = e.ending;
  at = record {
    state = e.at.state;
    input = e.at.input;
    printed = m.printed ++ e.at.printed;
    executed = m.executed + e.at.executed;
    gets = m.gets + e.at.gets;
  };
}

act-turn : (r : Result) (m : Moment) → act stop r m ≡ after m (act stop r (first m.state m.input))
act-turn (next s) m = rw (append-nil, add-zero) refl
act-turn (environment_call zero) m = rw (append-nil, add-zero) refl
act-turn (environment_call (suc zero)) m = rw add-zero refl
act-turn (environment_call (suc (suc zero))) m = rw append-nil refl
act-turn (environment_call (suc (suc (suc zero)))) m = rw (append-nil, add-zero) refl
act-turn (environment_call (suc (suc (suc (suc zero))))) m = rw (append-nil, add-zero) refl
act-turn (environment_call (suc (suc (suc (suc (suc _)))))) m = simp (append-nil, add-zero) refl
act-turn (trapped kind address) m = simp (append-nil, add-zero) refl

pub run_from-turn :
    (i : ℕ) (m : Moment) → (run_from i m).ending ≡ Budget
    → run_from (i + 1) m ≡ after (run_from i m).at (turn_of (run_from i m).at.state (run_from i m).at.input)
unfolding run_from
run_from-turn i m e = run_from-split i 1 m e ∙ act-turn (step_of (run_from i m).at.state) (run_from i m).at
