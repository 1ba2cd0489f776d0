-- The step as a relation and as a function.
use Rattle.std.proofs.Common.{◌≡◌, ℕ, ◌+◌, ◌<◌, ◌^◌, Bool, true, false, List, [], ◌∷◌, Some, None, take, drop, get_or, refl, sym, ap, ◌∙◌, arith, get_or-drop}
use Rattle.std.specs.Prelude.{Option, if◌then◌else◌}
use Rattle.rv_encode.specs.declared.instruction.Instr.{Instr}
use Rattle.rv_encode.specs.Encodes.{Encodes}
use Rattle.rv_encode.specs.Decode.{decode_of}
use Rattle.rv_machine.specs.Memory.{little_endian, number_at, is_access}
use Rattle.rv_machine.specs.State.{State}
use Rattle.rv_machine.specs.Step.{Result, Step, unfetched, unknown, known, step_of, fetched, decoded}

-- four bytes are a word of 32 bits
four-fit : (bytes : List ℕ) → ((k : ℕ) → get_or bytes k 0 < 256) → little_endian (take 4 bytes) < 2 ^ 32
unfolding little_endian
four-fit [] h = omega arith
four-fit (a ∷ []) h = omega (arith, h 0)
four-fit (a ∷ b ∷ []) h = omega (arith, h 0, h 1)
four-fit (a ∷ b ∷ c ∷ []) h = omega (arith, h 0, h 1, h 2)
four-fit (a ∷ b ∷ c ∷ d ∷ rest) h = omega (arith, h 0, h 1, h 2, h 3)

chosen : (test : Bool) (word w : ℕ) → (if test then Some word else None) ≡ Some w → word ≡ w
chosen true word w e = cc
chosen false word w e = cc

word-fits : (memory : List ℕ) (address word : ℕ) → ((at : ℕ) → get_or memory at 0 < 256) → number_at 4 address memory ≡ Some word → word < 2 ^ 32
unfolding number_at
word-fits memory address word small e =
    let bytes : (k : ℕ) → get_or (drop address memory) k 0 < 256 = λ k. rw (get_or-drop address memory k 0) (small (address + k)) in
    let is = chosen (is_access 4 address memory) (little_endian (take 4 (drop address memory))) word e in
    let fits = four-fit (drop address memory) bytes in
    omega arith

-- what is read of a word is its instruction
abbrev pub InstructionRead : Type 0
InstructionRead = (i : Instr) (w : ℕ) → Encodes i w → decode_of w ≡ Some i

abbrev pub Writes : Type 0
Writes = (i : Instr) (w : ℕ) → w < 2 ^ 32 → decode_of w ≡ Some i → Encodes i w

by-decode :
    (reads : InstructionRead) (writes : Writes) (s : State) (word : ℕ) → number_at 4 s.pc s.memory ≡ Some word → word < 2 ^ 32
    → (d : Option Instr) → decode_of word ≡ d → Step s (decoded d s)
by-decode reads writes s word there small None e =
    unknown word there (λ i encodes. let found = reads i word encodes in cc) refl
by-decode reads writes s word there small (Some i) e = known word i there (writes i word small e) refl

by-fetch :
    (reads : InstructionRead) (writes : Writes) (s : State) → ((at : ℕ) → get_or s.memory at 0 < 256)
    → (o : Option ℕ) → number_at 4 s.pc s.memory ≡ o → Step s (fetched o s)
by-fetch reads writes s small None e = unfetched e refl
by-fetch reads writes s small (Some word) e =
    by-decode reads writes s word e (word-fits s.memory s.pc word small e) (decode_of word) refl

pub is_row : (reads : InstructionRead) (writes : Writes) (s : State) → ((at : ℕ) → get_or s.memory at 0 < 256) → Step s (step_of s)
unfolding step_of
is_row reads writes s small = by-fetch reads writes s small (number_at 4 s.pc s.memory) refl

none-read : (writes : Writes) (word : ℕ) → word < 2 ^ 32 → ((i : Instr) → Encodes i word → ⊥) → (d : Option Instr) → decode_of word ≡ d → d ≡ None
none-read writes word small none None e = refl
none-read writes word small none (Some i) e = absurd (none i (writes i word small e))

pub only_row : (reads : InstructionRead) (writes : Writes) (s : State) (r : Result) → ((at : ℕ) → get_or s.memory at 0 < 256) → Step s r → r ≡ step_of s
unfolding step_of
only_row reads writes s r small (unfetched e is) = is ∙ sym (ap (λ o. fetched o s) e)
only_row reads writes s r small (unknown word there none is) =
    let read = none-read writes word (word-fits s.memory s.pc word small there) none (decode_of word) refl in
    is ∙ sym (ap (λ o. fetched o s) there ∙ ap (λ d. decoded d s) read)
only_row reads writes s r small (known word i there encodes is) =
    is ∙ sym (ap (λ o. fetched o s) there ∙ ap (λ d. decoded d s) (reads i word encodes))
