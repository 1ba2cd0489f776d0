-- The words of an image with zeros behind them.
use Rattle.std.proofs.Common.{◌≡◌, ℕ, zero, suc, ◌+◌, List, [], ◌∷◌, ◌++◌, refl, ◌∙◌, arith, length-append, Option, Some, None}
use Rattle.std.specs.Prelude.{map, replicate, slice_get, slice_index}
use Rattle.rv_encode.specs.declared.instruction.Instr.{Instr}
use Rattle.mid_lines.specs.declared.line.LineProgram.{LineProgram}
use Rattle.back_places.specs.Places.{Located}
use Rattle.back_places.specs.Relation.{HasCode, Stands, Names, HasProgram}

pub zeros : (n i : ℕ) → slice_index (replicate n 0) i ≡ 0
zeros zero i = refl
zeros (suc n) zero = refl
zeros (suc n) (suc i) = zeros n i

pub padded : (image : List ℕ) (n i : ℕ) → slice_index (image ++ replicate n 0) i ≡ slice_index image i
padded [] n i = zeros n i
padded (w ∷ ws) n zero = refl
padded (w ∷ ws) n (suc i) = padded ws n i

module _ (image : List ℕ) (n : ℕ) where
  abbrev more : List ℕ
  more = image ++ replicate n 0

  code_padded : (at : ℕ) (code : List Instr) → HasCode image at code → HasCode more at code
  code_padded at [] h = tt
  code_padded at (i ∷ rest) h = (omega (arith, h.0, length-append image (replicate n 0)), padded image n at ∙ h.1, h.2, code_padded (at + 1) rest h.3)

  pub stands_padded : (l : Located) (at : ℕ) (code : List Instr) → Stands l image at code → Stands l more at code
  stands_padded l at code s = record { from = s.from; to = s.to; has = code_padded at code s.has }

  names_padded : (l : Located) (at position : ℕ) → Names l image at position → Names l more at position
  names_padded l at position s = record {
    from = s.from;
    to = s.to;
    within = omega (arith, s.within, length-append image (replicate n 0));
    names = padded image n at ∙ s.names;
  }

  pub program_padded : (program : LineProgram) (l : Located) → HasProgram program l image → HasProgram program l more
  program_padded program l h = record {
    lines = λ number line x e. stands_padded l _ _ (h.lines number line x e);
    backs = λ number line x e. stands_padded l _ _ (h.backs number line x e);
    switches = λ number line r targets i to e k. names_padded l _ _ (h.switches number line r targets i to e k);
    entries = λ number p e. stands_padded l _ _ (h.entries number p e);
    table = λ number p e. names_padded l _ _ (h.table number p e);
    full = stands_padded l _ _ h.full;
    end = stands_padded l _ _ h.end;
  }

-- a word in the memory with laid words at its front is that of the image
none_there : (n i w : ℕ) → slice_get (replicate {A = Option ℕ} n None) i ≡ Some (Some w) → ⊥
none_there zero i w e = cc e
none_there (suc n) zero w e = cc e
none_there (suc n) (suc i) w e = none_there n i w e

pub in_front :
    (laid rest : List ℕ) (n i w : ℕ) → slice_get (map (λ x. Some x) laid ++ replicate {A = Option ℕ} n None) i ≡ Some (Some w) → slice_index (laid ++ rest) i ≡ w
in_front [] rest n i w e = absurd (none_there n i w e)
in_front (x ∷ xs) rest n zero w e = cc e
in_front (x ∷ xs) rest n (suc i) w e = in_front xs rest n i w e
