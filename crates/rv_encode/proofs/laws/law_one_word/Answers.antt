use Rattle.std.proofs.Common.{ℕ, ◌≡◌, ◌<◌, ◌^◌, arith, ◌∙◌, sym, Some}
use Rattle.rv_encode.specs.Encodes.{Encodes, word_of}
use Rattle.rv_encode.specs.Decode.{decode_of}
use Rattle.rv_encode.proofs.Fit.{word_of-fits}
use Rattle.rv_encode.proofs.Read.{word_of-read}
use Rattle.rv_encode.specs.declared.instruction.Instr.{Instr}
use Rattle.rv_encode.proofs.laws.law_one_word.Goals as goal

same_instr : (i j : Instr) (w : ℕ) → Encodes i w → Encodes j w → i ≡ j
same_instr i j w p q =
    let a : decode_of (word_of i) ≡ Some i = word_of-read i p.0 in
    let b : decode_of (word_of j) ≡ Some j = word_of-read j q.0 in
    let e : word_of i ≡ word_of j = sym p.1 ∙ q.1 in
    cc

fits_word : (i : Instr) (w : ℕ) → Encodes i w → w < 2 ^ 32
fits_word i w p = let f : word_of i < 2 ^ 32 = word_of-fits i p.0 in omega (arith, p.1)

pub returns : goal.returns
returns c = record {
  word = λ i w v p q. p.1 ∙ sym q.1;
  instr = same_instr;
  fits = fits_word;
}
