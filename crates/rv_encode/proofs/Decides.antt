-- What is read of a word is exactly the instruction that it is.
use Rattle.std.proofs.Common.{ℕ, ◌≡◌, ◌<◌, ◌^◌, ◌∙◌, ap, subst, refl, Some, None, Option, IfSome, MatchOption}
use Rattle.rv_encode.specs.Encodes.{Encodes}
use Rattle.rv_encode.specs.Decode.{decode_of}
use Rattle.rv_encode.proofs.Read.{word_of-read}
use Rattle.rv_encode.proofs.Sound.{decode_of-sound}
use Rattle.rv_encode.specs.declared.instruction.Instr.{Instr}

-- the word of an instruction is read as that instruction
pub Encodes-read : (i : Instr) (w : ℕ) → Encodes i w → decode_of w ≡ Some i
Encodes-read i w p = ap decode_of p.1 ∙ word_of-read i p.0

decides_at :
    (w : ℕ) (o : Option Instr) → decode_of w ≡ o → IfSome o (λ i. Encodes i w)
    → MatchOption o ((i : Instr) → Encodes i w → ⊥) (λ i. Encodes i w)
decides_at w None e h = λ i p. let q : decode_of w ≡ Some i = Encodes-read i w p in cc
decides_at w (Some i) e h = h

pub decides :
    (w : ℕ) → w < 2 ^ 32
    → MatchOption (decode_of w) ((i : Instr) → Encodes i w → ⊥) (λ i. Encodes i w)
decides w h = decides_at w (decode_of w) refl (decode_of-sound w h)

-- what is read of a word is that word
pub read-Encodes : (i : Instr) (w : ℕ) → w < 2 ^ 32 → decode_of w ≡ Some i → Encodes i w
read-Encodes i w h e =
    let P : Option Instr → Type 0 = λ o. IfSome o (λ i. Encodes i w) in subst P e (decode_of-sound w h)
