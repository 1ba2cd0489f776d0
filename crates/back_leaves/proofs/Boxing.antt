-- Boxes of variables, one after another.
use Rattle.std.proofs.Common.{◌≡◌, ℕ, suc, ◌+◌, List, [], ◌∷◌, ◌++◌, Some, length, drop, slice_get, refl, ap, sym, ◌∙◌, append_assoc, add-one, arith}
use Rattle.flat_language.specs.declared.place.Home.{Home}
use Rattle.flat_language.specs.declared.place.Home.TheVariants.{Slot, Boxed}
use Rattle.back_lowering.specs.Steps.{Steps}
use Rattle.back_lowering.specs.Leaves.{boxes_made}
use Rattle.back_lowering.proofs.Rests.{there}

-- a variable, and those behind it
pub boxed_next : (h : Home) (hs : List Home) (d t : ℕ) → boxes_made (h ∷ hs) d t ≡ boxes_made (h ∷ []) d t ++ boxes_made hs (d + 1) t
boxed_next Slot hs d t = refl
boxed_next Boxed hs d t = refl

pub boxed_step : (total code new : Steps) (hs : List Home) (d t i : ℕ) (h : Home)
    → slice_get hs i ≡ Some h
    → code ++ boxes_made (drop i hs) (d + i) t ≡ total
    → new ≡ code ++ boxes_made (h ∷ []) (d + i) t
    → new ++ boxes_made (drop (i + 1) hs) (d + (i + 1)) t ≡ total
boxed_step total code new hs d t i h here so is =
    let r : d + (i + 1) ≡ (d + i) + 1 = omega arith in
    let n : drop i hs ≡ h ∷ drop (i + 1) hs = there hs i h here ∙ sym (ap (λ (k : ℕ). h ∷ drop k hs) (add-one i)) in
    ap (λ (c : Steps). c ++ boxes_made (drop (i + 1) hs) (d + (i + 1)) t) is
    ∙ append_assoc code (boxes_made (h ∷ []) (d + i) t) (boxes_made (drop (i + 1) hs) (d + (i + 1)) t)
    ∙ ap (λ (k : ℕ). code ++ (boxes_made (h ∷ []) (d + i) t ++ boxes_made (drop (i + 1) hs) k t)) r
    ∙ sym (ap (λ (c : Steps). code ++ c) (boxed_next h (drop (i + 1) hs) (d + i) t))
    ∙ sym (ap (λ (xs : List Home). code ++ boxes_made xs (d + i) t) n)
    ∙ so
